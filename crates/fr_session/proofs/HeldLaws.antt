-- How many handles a store has that was new is how many classes its steps hold.
use Rattle.std.proofs.Common.{ℕ, zero, suc, ◌≡◌, ◌<◌, inl, inr, List, [], ◌∷◌, ◌++◌, length, get_or, map, Option, Some, None, unwrap_or, refl, sym, ◌∙◌, ap, subst, arith}
use Rattle.std.specs.Prelude.{Contains}
use Rattle.std.specs.List.{All}
use Rattle.std.proofs.lemmas.List.{get_or_default}
use Rattle.std.proofs.lemmas.List.Elements.{All-tail, All-head, Contains-append_left, Contains-append_right, Contains-append_cases}
use Rattle.fr_model.specs.Terms.{Term, Section, IsTerm, IsAlike}
use Rattle.fr_model.specs.Canonical.{IsCode}
use Rattle.fr_model.proofs.AlikeLaws.{alike_trans}
use Rattle.fr_model.proofs.CodeLaws.{code-same, alike_from_code}
use Rattle.fr_store.specs.declared.handle.Handle.{Handle}
use Rattle.fr_store.specs.Store.{View, StandsForTerm, AreHandles, IsHandleCount, IsSectionCodeOfOne, GrowsBy}
use Rattle.fr_plain.specs.Steps.{Step, value_of}
use Rattle.fr_plain.specs.Held.{IsHeld, HoldsClasses}
use Rattle.fr_plain.proofs.HeldLaws.{held_append, held_among}
use Rattle.fr_expr.specs.Evaluation.{HaveHandles, Makes}
use Rattle.fr_expr.proofs.EvaluationLaws.{HaveHandles-keeps, HaveHandles-append}
use Rattle.fr_session.specs.Held.{KnowsHeld}

-- ---- a store whose handles are those of what steps hold
pub knows_nothing : (d : ℕ) (known : ℕ → Option (List ℕ)) → ((n : ℕ) → known n ≡ None) → KnowsHeld d known []
knows_nothing d known none = record {
  handles = tt;
  only = λ h t s. absurd (apart s.code (sym s.at ∙ none h.node));
}
  where
    apart : (code : List ℕ) → ◌≡◌ {A = Option (List ℕ)} (Some code) None → ⊥
    apart code e = cc

-- what has the code of a section of what steps make is held
pub code_held : (d : ℕ) (known : ℕ → Option (List ℕ)) (ss : List Step) (t : Term) (code : List ℕ) → HaveHandles d known ss → IsTerm d t → IsCode d t code → IsSectionCodeOfOne d (map value_of ss) code → IsHeld d ss t
code_held d known [] t code m c is x = absurd x
code_held d known (s ∷ ss) t code m c is (inl x) = inl (x.0, x.1, alike_from_code d t (Section (value_of s) x.0) code code c (m.0.1.term, x.1) is x.2 refl)
code_held d known (s ∷ ss) t code m c is (inr x) = inr (code_held d known ss t code m.1 c is x)

pub knows_more : (d : ℕ) (old new : ℕ → Option (List ℕ)) (ss rs : List Step) → KnowsHeld d old ss → GrowsBy d old new (map value_of rs) → HaveHandles d new rs → KnowsHeld d new (ss ++ rs)
knows_more d old new ss rs k g m = record {
  handles = HaveHandles-append d new ss rs (HaveHandles-keeps d old new ss g.keeps k.handles) m;
  only = λ h t s.
      held_append d ss rs t (elim (g.only h.node s.code s.at) [
        | inl before ↦ inl (k.only h t (record { term = s.term; code = s.code; is_code = s.is_code; at = before }))
        | inr x ↦ inr (code_held d new rs t s.code m s.term s.is_code x)
      ]);
}

-- steps that an evaluation makes
pub makes_known : {S : Type 0} (view : View S) (d : ℕ) (old new : S) (before after : ℕ) (ss rs : List Step) → KnowsHeld d (view.known old) ss → Makes view d old new before after rs → KnowsHeld d (view.known new) (ss ++ rs)
makes_known view d old new before after ss rs k m = knows_more d (view.known old) (view.known new) ss rs k m.grows m.handles

-- ---- the same steps in another order
handle_of : (d : ℕ) (known : ℕ → Option (List ℕ)) (ss : List Step) (s : Step) → HaveHandles d known ss → Contains ss s → (h : Handle) × StandsForTerm d known h (value_of s)
handle_of d known [] s m c = absurd (omega (arith, c.1))
handle_of d known (r ∷ ss) s m (zero, less, e) = subst (λ (x : Step). (h : Handle) × StandsForTerm d known h (value_of x)) e m.0
handle_of d known (r ∷ ss) s m (suc k, less, e) = handle_of d known ss s m.1 (k, omega (arith, less), e)

HaveHandles-among : (d : ℕ) (known : ℕ → Option (List ℕ)) (ss rs : List Step) → ((s : Step) → Contains rs s → Contains ss s) → HaveHandles d known ss → HaveHandles d known rs
HaveHandles-among d known ss [] back m = tt
HaveHandles-among d known ss (r ∷ rs) back m = (handle_of d known ss r m (back r (0, omega arith, refl)), HaveHandles-among d known ss rs (λ s c. back s (suc c.0, omega (arith, c.1), c.2)) m)

pub knows_any_order : (d : ℕ) (known : ℕ → Option (List ℕ)) (ss rs : List Step) → ((s : Step) → Contains ss s → Contains rs s) → ((s : Step) → Contains rs s → Contains ss s) → KnowsHeld d known ss → KnowsHeld d known rs
knows_any_order d known ss rs there back k = record {
  handles = HaveHandles-among d known ss rs back k.handles;
  only = λ h t s. held_among d ss rs t there (k.only h t s);
}

-- the last steps stand before others
last_before : (first second more : List Step) (s : Step) → Contains ((first ++ second) ++ more) s → Contains ((first ++ more) ++ second) s
last_before first second more s c = elim (Contains-append_cases (first ++ second) more s c) [
  | inl x ↦ elim (Contains-append_cases first second s x) [
    | inl y ↦ Contains-append_left (first ++ more) second s (Contains-append_left first more s y)
    | inr y ↦ Contains-append_right (first ++ more) second s y
  ]
  | inr x ↦ Contains-append_left (first ++ more) second s (Contains-append_right first more s x)
]

pub knows_last_before : (d : ℕ) (known : ℕ → Option (List ℕ)) (first second more : List Step) → KnowsHeld d known ((first ++ second) ++ more) → KnowsHeld d known ((first ++ more) ++ second)
knows_last_before d known first second more k =
    knows_any_order d known ((first ++ second) ++ more) ((first ++ more) ++ second) (last_before first second more) (last_before first more second) k

-- ---- how many handles there are
module _ (d : ℕ) (known : ℕ → Option (List ℕ)) (are : AreHandles d known) where
  abbrev HasCode : ℕ → Type 0
  HasCode n = (code : List ℕ) × (known n ≡ Some code)

  abbrev IsOf : ℕ → Term → Type 0
  IsOf n t = StandsForTerm d known (record { node = n }) t

  -- the elements of numbers
  abbrev terms : (ns : List ℕ) → All HasCode ns → List Term
  terms [] v = []
  terms (n ∷ ns) v = let c = All-head HasCode n ns v in (are.elements n c.0 c.1).0 ∷ terms ns (All-tail HasCode n ns v)

  length_terms : (ns : List ℕ) (v : All HasCode ns) → length (terms ns v) ≡ length ns
  length_terms [] v = refl
  length_terms (n ∷ ns) v = omega (arith, length_terms ns (All-tail HasCode n ns v))

  terms_at : (ns : List ℕ) (v : All HasCode ns) (k : ℕ) (z : Term) → k < length ns → IsOf (get_or ns k 0) (get_or (terms ns v) k z)
  terms_at [] v k z less = absurd (omega (arith, less))
  terms_at (n ∷ ns) v zero z less =
      let c = All-head HasCode n ns v in
      let t = are.elements n c.0 c.1 in
      record { term = t.1; code = c.0; is_code = t.2; at = c.1 }
  terms_at (n ∷ ns) v (suc k) z less = terms_at ns (All-tail HasCode n ns v) k z (omega (arith, less))

  -- numbers of elements that act alike are equal, and the other way round
  one_number : (n m : ℕ) (t u : Term) → IsOf n t → IsOf m u → IsAlike t u → n ≡ m
  one_number n m t u a b same = are.distinct n m a.code a.at (b.at ∙ ap Some (sym (code-same d t u a.code b.code a.is_code b.is_code same)))

  some_same : (a b : List ℕ) → Some a ≡ Some b → a ≡ b
  some_same a b e = ap (λ o. unwrap_or o a) e

  one_element : (n m : ℕ) (t u : Term) → IsOf n t → IsOf m u → n ≡ m → IsAlike t u
  one_element n m t u a b e = alike_from_code d t u a.code b.code a.term b.term a.is_code b.is_code (some_same a.code b.code (sym a.at ∙ ap known e ∙ b.at))

  -- what is held acts like an element with a handle
  held_handle : (ss : List Step) (t : Term) → HaveHandles d known ss → IsHeld d ss t → (u : Term) × IsAlike t u × ((h : Handle) × StandsForTerm d known h u)
  held_handle [] t m x = absurd x
  held_handle (s ∷ ss) t m (inl x) = (Section (value_of s) x.0, x.2, are.closed m.0.0 (value_of s) x.0 m.0.1 x.1)
  held_handle (s ∷ ss) t m (inr x) = held_handle ss t m.1 x

  pub handles_held : (steps : List Step) (count : ℕ) → KnowsHeld d known steps → IsHandleCount known count → HoldsClasses d steps count
  handles_held steps count k c = record {
    members = terms c.members c.valid;
    count = length_terms c.members c.valid ∙ c.count;
    valid = λ i t less. k.only (record { node = get_or c.members i 0 }) _ (terms_at c.members c.valid i t (omega (arith, less, length_terms c.members c.valid)));
    apart = λ i j z less below same.
        let inside : j < length c.members = omega (arith, below, length_terms c.members c.valid) in
        let a = terms_at c.members c.valid i z (omega (arith, less, inside)) in
        let b = terms_at c.members c.valid j z inside in
        c.apart i j 0 less inside (one_number (get_or c.members i 0) (get_or c.members j 0) (get_or (terms c.members c.valid) i z) (get_or (terms c.members c.valid) j z) a b same);
    covers = λ t x.
        let h = held_handle steps t k.handles x in
        let stands = h.2.1 in
        let m = c.covers h.2.0.node (stands.code, stands.at) in
        let b = terms_at c.members c.valid m.0 t m.1 in
        let same : h.2.0.node ≡ get_or c.members m.0 0 = m.2 ∙ get_or_default c.members m.0 h.2.0.node 0 m.1 in
        (m.0, omega (arith, m.1, length_terms c.members c.valid), alike_trans h.1 (one_element h.2.0.node (get_or c.members m.0 0) h.0 (get_or (terms c.members c.valid) m.0 t) stands b same));
  }
