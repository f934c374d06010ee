-- How the states of an automaton act, which states their sections are, and when two act alike.
use Rattle.std.proofs.Common.{ℕ, zero, suc, ◌≡◌, ◌<◌, inl, inr, List, [], ◌∷◌, ◌++◌, length, map, drop, get_or, refl, sym, ◌∙◌, ap, arith}
use Rattle.std.specs.List.{All, AllByRecursion}
use Rattle.std.proofs.lemmas.List.{get_or-map, length-map, get_or_past}
use Rattle.std.proofs.lemmas.Bool.{cases_lt}
use Rattle.std.proofs.lemmas.List.Elements.{All-get_or, All-map, All-head, All-tail}
use Rattle.fr_model.specs.Words.{IsLetter, IsWord}
use Rattle.fr_model.specs.Permutations.{image}
use Rattle.fr_model.specs.Systems.{IsWreath, IsSystem, wreath_at}
use Rattle.fr_model.specs.Terms.{Section, act, IsTerm, IsAlike}
use Rattle.fr_model.specs.Automata.{State, state_at, next_state, state_after, one_name, wreath_of, system_of, state_term, IsState, IsAutomaton}
use Rattle.fr_model.proofs.AlikeLaws.{alike_sym, alike_trans, alike_section, section_section, section_nil, act-nil, alike_from_words}

known_names : (n : ℕ) (next : List ℕ) → All (λ m. m < n) next → AllByRecursion (AllByRecursion (λ f. f.name < n)) (map one_name next)
known_names n [] h = tt
known_names n (m ∷ ms) h = ((All-head (λ m. m < n) m ms h, tt), known_names n ms (All-tail (λ m. m < n) m ms h))

pub state_is : (d : ℕ) (qs : List State) (s : ℕ) → IsAutomaton d qs → s < length qs → IsState d (length qs) (state_at qs s)
state_is d qs s h l = All-get_or (IsState d (length qs)) qs s (record { perm = []; next = [] }) l h

wreath_from : (d n : ℕ) (q : State) → IsState d n q → IsWreath d n (wreath_of q)
wreath_from d n q h = record { permutes = h.permutes; arity = length-map q.next one_name ∙ h.arity; known = known_names n q.next h.below }

pub IsSystem-system_of : (d : ℕ) (qs : List State) → IsAutomaton d qs → IsSystem d (system_of qs)
IsSystem-system_of d qs h = rw (length-map qs wreath_of) (rw (length-map qs wreath_of) at (All-map (IsWreath d (length qs)) wreath_of qs (λ k e l. wreath_from d (length qs) (get_or qs k e) (h k e l))))

pub IsTerm-state_term : (d : ℕ) (qs : List State) (s : ℕ) → IsAutomaton d qs → s < length qs → IsTerm d (state_term qs s)
unfolding state_term
IsTerm-state_term d qs s h l = (IsSystem-system_of d qs h, rw length-map l)

pub next_state-lt : (d : ℕ) (qs : List State) (s x : ℕ) → IsAutomaton d qs → s < length qs → next_state qs s x < length qs
next_state-lt d qs s zero h l = l
next_state-lt d qs s (suc k) h l = elim (cases_lt k (length (state_at qs s).next)) [
  | inl b ↦ All-get_or (λ m. m < length qs) (state_at qs s).next k s b (state_is d qs s h l).below
  | inr g ↦ rw (get_or_past (state_at qs s).next k s g) l
]

pub state_after-lt : (d : ℕ) (qs : List State) (s : ℕ) (v : List ℕ) → IsAutomaton d qs → s < length qs → state_after qs s v < length qs
state_after-lt d qs s [] h l = l
state_after-lt d qs s (x ∷ v) h l = state_after-lt d qs _ v h (next_state-lt d qs s x h l)

pub state_after-append : (qs : List State) (s : ℕ) (v w : List ℕ) → state_after qs s (v ++ w) ≡ state_after qs (state_after qs s v) w
state_after-append qs s [] w = refl
state_after-append qs s (x ∷ v) w = state_after-append qs (next_state qs s x) v w

-- the first letter goes by the permutation, and the next state acts on the rest
pub act-state_term : (d : ℕ) (qs : List State) (s x : ℕ) (w : List ℕ) → IsAutomaton d qs → s < length qs → IsLetter d x → act (state_term qs s) (x ∷ w) ≡ image (state_at qs s).perm x ∷ act (state_term qs (next_state qs s x)) w
unfolding state_term
act-state_term d qs s zero w h l k = absurd (omega (arith, k.0))
act-state_term d qs s (suc i) w h l k =
    let q = state_at qs s in
    let e : wreath_at (system_of qs) s ≡ wreath_of q = get_or-map wreath_of qs s (record { perm = []; next = [] }) (record { perm = []; sections = [] }) l in
    let b : i < length q.next = omega (arith, (state_is d qs s h l).arity) in
    rw (e, get_or-map one_name q.next i s [] b)

pub act-state_letter : (d : ℕ) (qs : List State) (s x : ℕ) → IsAutomaton d qs → s < length qs → IsLetter d x → act (state_term qs s) (x ∷ []) ≡ image (state_at qs s).perm x ∷ []
act-state_letter d qs s x h l k = act-state_term d qs s x [] h l k ∙ ap (λ v. image (state_at qs s).perm x ∷ v) (act-nil (state_term qs (next_state qs s x)))

pub section_state_letter : (d : ℕ) (qs : List State) (s x : ℕ) → IsAutomaton d qs → s < length qs → IsLetter d x → IsAlike (Section (state_term qs s) (x ∷ [])) (state_term qs (next_state qs s x))
section_state_letter d qs s x h l k = record { images = λ w. ap (drop 1) (act-state_term d qs s x w h l k) }

-- the section of a state at a word is the state behind the word
pub section_state : (d : ℕ) (qs : List State) (s : ℕ) (v : List ℕ) → IsAutomaton d qs → s < length qs → IsWord d v → IsAlike (Section (state_term qs s) v) (state_term qs (state_after qs s v))
section_state d qs s [] h l k = section_nil (state_term qs s)
section_state d qs s (x ∷ v) h l k =
    alike_trans (alike_sym (section_section (state_term qs s) (x ∷ []) v))
    (alike_trans (alike_section v (section_state_letter d qs s x h l k.0))
    (section_state d qs (next_state qs s x) v h (next_state-lt d qs s x h l) k.1))

-- states act alike where a relation holds of them that says: they put out the same letters, and it holds of their next states
pub alike_by_relation : (d : ℕ) (ps qs : List State) (R : ℕ → ℕ → Type 0) → IsAutomaton d ps → IsAutomaton d qs
    → ((s t : ℕ) → R s t → (s < length ps) × (t < length qs) × ((x : ℕ) → IsLetter d x → (image (state_at ps s).perm x ≡ image (state_at qs t).perm x) × R (next_state ps s x) (next_state qs t x)))
    → (s t : ℕ) → R s t → IsAlike (state_term ps s) (state_term qs t)
alike_by_relation d ps qs R g h step s t r = alike_from_words d (IsTerm-state_term d ps s g (step s t r).0) (IsTerm-state_term d qs t h (step s t r).1) (λ w k. same s t w r k)
  where
    same : (s t : ℕ) (w : List ℕ) → R s t → IsWord d w → act (state_term ps s) w ≡ act (state_term qs t) w
    same s t [] r k = act-nil (state_term ps s) ∙ sym (act-nil (state_term qs t))
    same s t (x ∷ w) r k =
        let p = step s t r in
        let q = p.2 x k.0 in
        act-state_term d ps s x w g p.0 k.0 ∙ rw (q.0, same (next_state ps s x) (next_state qs t x) w q.1 k.1) (sym (act-state_term d qs t x w h p.1 k.0))

-- the way back, letter by letter
pub alike_states : (d : ℕ) (ps qs : List State) (s t x : ℕ) → IsAutomaton d ps → IsAutomaton d qs → s < length ps → t < length qs → IsLetter d x → IsAlike (state_term ps s) (state_term qs t)
    → (image (state_at ps s).perm x ≡ image (state_at qs t).perm x) × IsAlike (state_term ps (next_state ps s x)) (state_term qs (next_state qs t x))
alike_states d ps qs s t x g h a b k r = (
  head_same (sym (act-state_letter d ps s x g a k) ∙ r.images (x ∷ []) ∙ act-state_letter d qs t x h b k),
  alike_trans (alike_sym (section_state_letter d ps s x g a k)) (alike_trans (alike_section (x ∷ []) r) (section_state_letter d qs t x h b k)),
)
  where
    head_same : {y z : ℕ} {v w : List ℕ} → ◌≡◌ {A = List ℕ} (y ∷ v) (z ∷ w) → y ≡ z
    head_same e = cc
