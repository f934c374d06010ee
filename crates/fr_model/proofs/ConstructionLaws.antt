-- What the states of the constructed automata act as.
use Rattle.std.proofs.Common.{ℕ, ◌≡◌, ◌<◌, ◌≤◌, inl, inr, List, [], ◌∷◌, length, get_or, refl, sym, ◌∙◌, ap, arith}
use Rattle.std.proofs.lemmas.List.{get_or_default}
use Rattle.fr_model.specs.Words.{IsWord}
use Rattle.fr_model.specs.Permutations.{image, preimage}
use Rattle.fr_model.specs.Systems.{Factor, System, IsSystem, act_product, product_section}
use Rattle.fr_model.specs.FreeWords.{IsSectionWord, IsClosurePassed}
use Rattle.fr_model.specs.Terms.{Name, Inverse, Product, act, back, product_term, IsTerm, IsAlike}
use Rattle.fr_model.specs.Automata.{State, state_at, next_state, state_term, one_name, IsAutomaton}
use Rattle.fr_model.specs.Constructions.{IsClosure, IsInverseOf, IsProductOf, IsNameAutomaton}
use Rattle.fr_model.proofs.PermutationLaws.{image-IsLetter, preimage-IsLetter, image-preimage}
use Rattle.fr_model.proofs.TermLaws.{act-product_term, back-act}
use Rattle.fr_model.proofs.AlikeLaws.{alike_trans, alike_from_words, act-nil}
use Rattle.fr_model.proofs.AutomatonLaws.{act-state_term, next_state-lt, state_is, IsTerm-state_term}
use Rattle.fr_model.proofs.FreeWordLaws.{act-reduced}
use Rattle.fr_model.proofs.CountLaws.{HasMoreThan-lt, IsClassCount-from_list}

-- the state of a product of names acts as the product
pub closure_alike : (d : ℕ) (s : System) (products : List (List Factor)) (qs : List State) → IsSystem d s → IsClosure d s products qs
    → (i : ℕ) → i < length qs → IsTerm d (product_term s (get_or products i [])) → IsAlike (state_term qs i) (product_term s (get_or products i []))
closure_alike d s products qs h c i l t =
    let g = c.automaton in
    alike_from_words d (IsTerm-state_term d qs i g l) t (λ w k. same i w l k ∙ sym (act-product_term s (get_or products i []) w))
  where
    same : (i : ℕ) (w : List ℕ) → i < length qs → IsWord d w → act (state_term qs i) w ≡ act_product s (get_or products i []) w
    same i [] l k = act-nil (state_term qs i)
    same i (x ∷ w) l k =
        act-state_term d qs i x w c.automaton l k.0
        ∙ rw (c.outputs i x l k.0, same (next_state qs i x) w (next_state-lt d qs i x c.automaton l) k.1, c.nexts i x l k.0, act-reduced d s h (product_section s (get_or products i []) x) w)

-- the first state of the automaton of a name acts as the name
pub name_automaton_alike : (d : ℕ) (s : System) (n : ℕ) (products : List (List Factor)) (qs : List State) → IsSystem d s → n < length s → IsNameAutomaton d s n products qs → IsAlike (state_term qs 0) (Name s n)
name_automaton_alike d s n products qs h l c =
    let some : 0 < length products = some_product products c.first in
    let known : IsTerm d (product_term s (get_or products 0 [])) = rw c.first ((h, l), tt) in
    alike_trans (rw c.first at (closure_alike d s products qs h c.closure 0 (omega (arith, c.closure.count)) known)) (record { images = λ w. refl })
  where
    some_product : (ps : List (List Factor)) → get_or ps 0 [] ≡ one_name n → 0 < length ps
    some_product [] e = cc
    some_product (p ∷ ps) e = omega arith

-- an automaton of a name with few enough states for short enough words refutes that the limits are passed
pub name_automaton_within : (d : ℕ) (s : System) (n : ℕ) (products : List (List Factor)) (qs : List State) → IsNameAutomaton d s n products qs → length products ≤ 8192 → ((i : ℕ) → i < length products → length (get_or products i []) ≤ 4096) → IsClosurePassed d s n → ⊥
name_automaton_within d s n products qs c most short (inl many) =
    omega (arith, HasMoreThan-lt [] (IsSectionWord d s n) (λ f g. f ≡ g) (λ f g e. sym e) (λ f g h e k. e ∙ k) 8192 (length products) many (IsClassCount-from_list (IsSectionWord d s n) (λ f g. f ≡ g) products c.one_each))
name_automaton_within d s n products qs c most short (inr long) =
    let r = c.one_each.covers long.0 long.1.word in
    omega (arith, long.1.long, short r.0 r.1, ap length (r.2 ∙ get_or_default products r.0 long.0 [] r.1))

-- the inverse
pub inverse_alike : (d : ℕ) (ps qs : List State) → IsAutomaton d ps → IsInverseOf d ps qs → (i : ℕ) → i < length qs → IsAlike (state_term qs i) (Inverse (state_term ps i))
inverse_alike d ps qs g c i l =
    let h = c.automaton in
    let p : i < length ps = omega (arith, c.count) in
    alike_from_words d (IsTerm-state_term d qs i h l) (IsTerm-state_term d ps i g p) (λ w k.
    sym (back-act d (state_term ps i) (IsTerm-state_term d ps i g p) (act (state_term qs i) w)) ∙ ap (back (state_term ps i)) (undo i w l k))
  where
    -- acting by the state undoes the inverse
    undo : (i : ℕ) (w : List ℕ) → i < length qs → IsWord d w → act (state_term ps i) (act (state_term qs i) w) ≡ w
    undo i [] l k = ap (act (state_term ps i)) (act-nil (state_term qs i)) ∙ act-nil (state_term ps i)
    undo i (y ∷ w) l k =
        let h = c.automaton in
        let p : i < length ps = omega (arith, c.count) in
        let s = (state_is d ps i g p).permutes in
        let x = preimage (state_at ps i).perm y in
        let z = preimage-IsLetter d (state_at ps i).perm y s k.0 in
        rw (act-state_term d qs i y w h l k.0, c.outputs i y l k.0, act-state_term d ps i x (act (state_term qs (next_state qs i y)) w) g p z, image-preimage d (state_at ps i).perm y s, ← c.nexts i y l k.0)
        (ap (λ v. y ∷ v) (undo (next_state qs i y) w (next_state-lt d qs i y h l) k.1))

-- the product
pub product_alike : (d : ℕ) (ps qs rs : List State) (lefts rights : List ℕ) → IsAutomaton d ps → IsAutomaton d qs → IsProductOf d ps qs lefts rights rs
    → (i : ℕ) → i < length rs → IsAlike (state_term rs i) (Product (state_term ps (get_or lefts i 0)) (state_term qs (get_or rights i 0)))
product_alike d ps qs rs lefts rights f g c i l =
    let h = c.automaton in
    alike_from_words d (IsTerm-state_term d rs i h l) (IsTerm-state_term d ps _ f (c.lefts_below i l), IsTerm-state_term d qs _ g (c.rights_below i l)) (λ w k. same i w l k)
  where
    same : (i : ℕ) (w : List ℕ) → i < length rs → IsWord d w → act (state_term rs i) w ≡ act (state_term qs (get_or rights i 0)) (act (state_term ps (get_or lefts i 0)) w)
    same i [] l k = act-nil (state_term rs i) ∙ sym (ap (act (state_term qs (get_or rights i 0))) (act-nil (state_term ps (get_or lefts i 0))) ∙ act-nil (state_term qs (get_or rights i 0)))
    same i (x ∷ w) l k =
        let h = c.automaton in
        let a = get_or lefts i 0 in
        let b = get_or rights i 0 in
        let y = image (state_at ps a).perm x in
        let z = image-IsLetter d (state_at ps a).perm x (state_is d ps a f (c.lefts_below i l)).permutes k.0 in
        act-state_term d rs i x w h l k.0
        ∙ rw (c.outputs i x l k.0, same (next_state rs i x) w (next_state-lt d rs i x h l) k.1, c.next_lefts i x l k.0, c.next_rights i x l k.0)
        (sym (ap (act (state_term qs b)) (act-state_term d ps a x w f (c.lefts_below i l) k.0) ∙ act-state_term d qs b y (act (state_term ps (next_state ps a x)) w) g (c.rights_below i l) z))
