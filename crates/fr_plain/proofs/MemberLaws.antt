-- The members of a nucleus in order are one list of automata.
use Rattle.std.proofs.Common.{ℕ, zero, suc, ◌≡◌, ◌<◌, ◌≤◌, ◌+◌, ◌⊎◌, inl, inr, List, [], ◌∷◌, Ok, length, get_or, map, refl, sym, ◌∙◌, ap, subst, arith}
use Rattle.std.proofs.lemmas.Bool.{cases_order}
use Rattle.std.proofs.lemmas.List.Elements.{All-from_get_or}
use Rattle.std.proofs.lemmas.List.{get_or_default}
use Rattle.fr_model.specs.Terms.{Term, One, IsAlike}
use Rattle.fr_model.specs.Automata.{State}
use Rattle.fr_model.specs.Classes.{HasMoreThan, IsClassCount}
use Rattle.fr_model.specs.Canonical.{IsCanonical, code_of}
use Rattle.fr_model.specs.Nuclei.{IsGeneratorSection, IsNucleusMember}
use Rattle.fr_model.proofs.AlikeLaws.{alike_sym, alike_trans}
use Rattle.fr_model.proofs.CanonicalLaws.{lex_irrefl, lex_trans, canonical_same}
use Rattle.fr_model.proofs.ClassLaws.{size_once}
use Rattle.fr_model.proofs.CodeLaws.{canonical-IsSize}
use Rattle.fr_model.proofs.CountLaws.{HasMoreThan-lt}
use Rattle.fr_model.proofs.LimitLaws.{nucleus_depth_once}
use Rattle.fr_plain.specs.Steps.{Listed, AreEvaluated}
use Rattle.fr_plain.specs.Answers.{IsListedBefore, AreMembers, nucleus_text, AnswersNucleus, found, many_sections, passed}
use Rattle.fr_plain.specs.Held.{AreAlikeSteps}
use Rattle.fr_plain.proofs.EndingLaws.{EndsOnce}

-- ---- the order of automata
listed_irrefl : (ps : List State) → IsListedBefore ps ps → ⊥
listed_irrefl ps (inl h) = omega (arith, h)
listed_irrefl ps (inr h) = lex_irrefl (code_of ps) h.1

listed_trans : (ps qs rs : List State) → IsListedBefore ps qs → IsListedBefore qs rs → IsListedBefore ps rs
listed_trans ps qs rs (inl a) (inl b) = inl (omega (arith, a, b))
listed_trans ps qs rs (inl a) (inr b) = inl (omega (arith, a, b.0))
listed_trans ps qs rs (inr a) (inl b) = inl (omega (arith, a.0, b))
listed_trans ps qs rs (inr a) (inr b) = inr (a.0 ∙ b.0, lex_trans (code_of ps) (code_of qs) (code_of rs) a.1 b.1)

-- ---- two lists in order with the same members
abbrev InOrder : List (List State) → Type 0
InOrder xs = (j k : ℕ) → j < k → k < length xs → IsListedBefore (get_or xs j []) (get_or xs k [])

abbrev Among : List (List State) → List State → Type 0
Among xs v = (k : ℕ) × (k < length xs) × (v ≡ get_or xs k [])

head_or_after : (x : List State) (xs : List (List State)) (v : List State) → InOrder (x ∷ xs) → Among (x ∷ xs) v → (v ≡ x) ⊎ (IsListedBefore x v × Among xs v)
head_or_after x xs v o a = go a.0 a.1 a.2
  where
    go : (k : ℕ) → k < length (x ∷ xs) → v ≡ get_or (x ∷ xs) k [] → (v ≡ x) ⊎ (IsListedBefore x v × Among xs v)
    go zero h e = inl e
    go (suc k) h e = inr (rw e (o 0 (suc k) (omega arith) h), (k, omega arith, e))

same_ordered : (xs ys : List (List State)) → InOrder xs → InOrder ys → ((v : List State) → Among xs v → Among ys v) → ((v : List State) → Among ys v → Among xs v) → xs ≡ ys
same_ordered [] [] o p f g = refl
same_ordered [] (y ∷ ys) o p f g = let a = g y (0, omega arith, refl) in absurd (omega (arith, a.1))
same_ordered (x ∷ xs) [] o p f g = let a = f x (0, omega arith, refl) in absurd (omega (arith, a.1))
same_ordered (x ∷ xs) (y ∷ ys) o p f g =
    let heads : x ≡ y = elim (head_or_after y ys x p (f x (0, omega arith, refl))) [
      | inl e ↦ e
      | inr a ↦ elim (head_or_after x xs y o (g y (0, omega arith, refl))) [ inl e ↦ sym e | inr b ↦ absurd (listed_irrefl x (listed_trans x y x b.0 a.0)) ]
    ] in
    let f' : (v : List State) → Among xs v → Among ys v = λ v a. elim (head_or_after y ys v p (f v (suc a.0, omega (arith, a.1), a.2))) [
      | inl e ↦ absurd (listed_irrefl x (rw (e ∙ sym heads) at (rw (← a.2) at (o 0 (suc a.0) (omega arith) (omega (arith, a.1))))))
      | inr b ↦ b.1
    ] in
    let g' : (v : List State) → Among ys v → Among xs v = λ v a. elim (head_or_after x xs v o (g v (suc a.0, omega (arith, a.1), a.2))) [
      | inl e ↦ absurd (listed_irrefl y (rw (e ∙ heads) at (rw (← a.2) at (p 0 (suc a.0) (omega arith) (omega (arith, a.1))))))
      | inr b ↦ b.1
    ] in
    rw (heads, same_ordered xs ys (λ j k h l. o (suc j) (suc k) (omega arith) (omega arith)) (λ j k h l. p (suc j) (suc k) (omega arith) (omega arith)) f' g')

-- ---- members
among_other : (d : ℕ) (Q : Term → Type 0) (ms ns : List Term) (ps qs : List (List State)) → AreMembers d Q ms ps → AreMembers d Q ns qs
    → (v : List State) → Among ps v → Among qs v
among_other d Q ms ns ps qs a b v r =
    let i : r.0 < length ms = omega (arith, r.1, a.count) in
    let w = b.whole (get_or ms r.0 One) (a.member r.0 i) in
    (w.0, omega (arith, w.1, b.count), r.2 ∙ canonical_same d _ _ _ _ (a.canonical r.0 i) (b.canonical w.0 w.1) w.2)

pub automata_once : (d : ℕ) (Q : Term → Type 0) (ms ns : List Term) (ps qs : List (List State)) → AreMembers d Q ms ps → AreMembers d Q ns qs → ps ≡ qs
automata_once d Q ms ns ps qs a b = same_ordered ps qs
    (λ j k h l. a.ordered j k h (omega (arith, l, a.count)))
    (λ j k h l. b.ordered j k h (omega (arith, l, b.count)))
    (among_other d Q ms ns ps qs a b) (among_other d Q ns ms qs ps b a)

-- the sizes of automata together
abbrev sizes : List (List State) → ℕ
sizes [] = 0
sizes (qs ∷ rest) = length qs + sizes rest

abbrev AreCanonical : ℕ → List Term → List (List State) → Type 0
AreCanonical d ms ps = (i : ℕ) → i < length ms → IsCanonical d (get_or ms i One) (get_or ps i [])

charge_is_sizes : (d : ℕ) (ms : List Term) (ps : List (List State)) (n : ℕ) → length ps ≡ length ms → AreCanonical d ms ps → AreEvaluated d (map Listed ms) n → n ≡ sizes ps
charge_is_sizes d [] [] n e c x = x
charge_is_sizes d [] (p ∷ ps) n e c x = absurd (omega (arith, e))
charge_is_sizes d (m ∷ ms) [] n e c x = absurd (omega (arith, e))
charge_is_sizes d (m ∷ ms) (p ∷ ps) n e c x =
    omega (
      arith,
      x.4,
      size_once d m x.0 (length p) x.2 (canonical-IsSize d m p (c 0 (omega arith))),
      charge_is_sizes d ms ps x.1 (omega (arith, e)) (λ i l. c (suc i) (omega (arith, l))) x.3,
    )

-- members in order are no two alike, so that there are no more than they are
members_apart : (d : ℕ) (Q : Term → Type 0) (ms : List Term) (ps : List (List State)) → AreMembers d Q ms ps → (i j : ℕ) → i < j → j < length ms → ¬ IsAlike (get_or ms i One) (get_or ms j One)
members_apart d Q ms ps a i j h l same =
    let e = canonical_same d _ _ _ _ (a.canonical i (omega (arith, h, l))) (a.canonical j l) same in
    listed_irrefl (get_or ps j []) (rw e at (a.ordered i j h l))

pub members_count : (d : ℕ) (Q : Term → Type 0) (ms : List Term) (ps : List (List State)) → AreMembers d Q ms ps → IsClassCount (IsNucleusMember d Q) IsAlike (length ms)
members_count d Q ms ps a = record {
  members = ms;
  count = refl;
  valid = All-from_get_or (IsNucleusMember d Q) ms One a.member;
  apart = λ i j z h l same. members_apart d Q ms ps a i j h l (
      subst (λ u. IsAlike (get_or ms i One) u) (get_or_default ms j z One l)
      (subst (λ u. IsAlike u (get_or ms j z)) (get_or_default ms i z One (omega (arith, h, l))) same));
  covers = λ t m.
      let w = a.whole t m in
      (w.0, w.1, subst (λ u. IsAlike t u) (get_or_default ms w.0 One t w.1) w.2);
}

not_passed : (d : ℕ) (Q : Term → Type 0) (ms : List Term) (ps : List (List State)) → AreMembers d Q ms ps → length ms ≤ 256 → HasMoreThan (IsNucleusMember d Q) IsAlike 256 → ⊥
not_passed d Q ms ps a few more =
    omega (arith, few, HasMoreThan-lt One (IsNucleusMember d Q) IsAlike (λ v w h. alike_sym h) (λ u v w h k. alike_trans h k) 256 (length ms) more (members_count d Q ms ps a))

-- members at one place act alike
member_alike : (d : ℕ) (Q : Term → Type 0) (ms ns : List Term) (ps qs : List (List State)) → AreMembers d Q ms ps → AreMembers d Q ns qs → ps ≡ qs
    → (k : ℕ) → k < length ms → IsAlike (get_or ms k One) (get_or ns k One)
member_alike d Q ms ns ps qs a b e k l =
    let w = b.whole (get_or ms k One) (a.member k l) in
    let here : get_or qs k [] ≡ get_or qs w.0 [] = subst (λ (rs : List (List State)). get_or rs k [] ≡ get_or qs w.0 []) e (canonical_same d (get_or ms k One) (get_or ns w.0 One) (get_or ps k []) (get_or qs w.0 []) (a.canonical k l) (b.canonical w.0 w.1) w.2) in
    let there : k < length ns = omega (arith, l, a.count, b.count, ap length e) in
    elim (cases_order w.0 k) [
      | inl same ↦ subst (λ j. IsAlike (get_or ms k One) (get_or ns j One)) same w.2
      | inr o ↦ elim o [
        | inl less ↦ absurd (listed_irrefl (get_or qs w.0 []) (subst (IsListedBefore (get_or qs w.0 [])) here (b.ordered w.0 k less there)))
        | inr more ↦ absurd (listed_irrefl (get_or qs k []) (subst (IsListedBefore (get_or qs k [])) (sym here) (b.ordered k w.0 more w.1)))
      ]
    ]

alike_members : (ms ns : List Term) → length ms ≡ length ns → ((k : ℕ) → k < length ms → IsAlike (get_or ms k One) (get_or ns k One)) → AreAlikeSteps (map Listed ms) (map Listed ns)
alike_members [] [] e h = tt
alike_members [] (n ∷ ns) e h = absurd (omega (arith, e))
alike_members (m ∷ ms) [] e h = absurd (omega (arith, e))
alike_members (m ∷ ms) (n ∷ ns) e h = (h 0 (omega arith), alike_members ms ns (omega (arith, e)) (λ k l. h (suc k) (omega (arith, l))))

pub contracted_once : (d : ℕ) (gens : List Term) → EndsOnce (AnswersNucleus d gens)
contracted_once d gens _ _ (found ms ps k n few a least depth x) (found ns qs l m few' b least' depth' y) =
    let e = automata_once d (IsGeneratorSection d gens) ms ns ps qs a b in (
      charge_is_sizes d ms ps n a.count a.canonical x ∙ ap sizes e ∙ sym (charge_is_sizes d ns qs m b.count b.canonical y),
      ap (λ r. Ok (nucleus_text r k)) e ∙ ap (λ j. Ok (nucleus_text qs j)) (nucleus_depth_once d (IsGeneratorSection d gens) k l depth depth'),
      alike_members ms ns (omega (arith, a.count, b.count, ap length e)) (member_alike d (IsGeneratorSection d gens) ms ns ps qs a b e),
    )
contracted_once d gens _ _ (found ms ps k n few a least depth x) (many_sections more) = absurd (few more)
contracted_once d gens _ _ (found ms ps k n few a least depth x) (passed few' more) = absurd (not_passed d _ ms ps a least more)
contracted_once d gens _ _ (many_sections more) (found ns qs l m few b least depth y) = absurd (few more)
contracted_once d gens _ _ (many_sections more) (many_sections more') = (refl, refl, tt)
contracted_once d gens _ _ (many_sections more) (passed few more') = absurd (few more)
contracted_once d gens _ _ (passed few more) (found ns qs l m few' b least depth y) = absurd (not_passed d _ ns qs b least more)
contracted_once d gens _ _ (passed few more) (many_sections more') = absurd (few more')
contracted_once d gens _ _ (passed few more) (passed few' more') = (refl, refl, tt)
