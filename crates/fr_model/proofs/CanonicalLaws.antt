-- Shortlex order, and why terms act alike exactly where their canonical automata are equal.
use Rattle.std.proofs.Common.{ℕ, zero, suc, ◌≡◌, ◌<◌, ◌⊎◌, inl, inr, List, [], ◌∷◌, ◌++◌, length, get_or, refl, sym, ◌∙◌, ap, subst, arith}
use Rattle.std.proofs.lemmas.List.{ext_get_or, get_or_default}
use Rattle.std.proofs.lemmas.Bool.{cases_order}
use Rattle.fr_model.specs.Words.{IsLetter, IsWord}
use Rattle.fr_model.specs.Permutations.{IsPermutation, image}
use Rattle.fr_model.specs.Terms.{Term, Section, act, IsTerm, IsAlike}
use Rattle.fr_model.specs.Automata.{State, state_at, next_state, state_term}
use Rattle.fr_model.specs.Separation.{IsLexBefore, IsShortlexBefore}
use Rattle.fr_model.specs.Canonical.{IsLeastWord, IsCanonical}
use Rattle.fr_model.proofs.TermLaws.{act-append}
use Rattle.fr_model.proofs.AlikeLaws.{alike_sym, alike_trans, alike_section, section_section, act-nil, alike_from_words}
use Rattle.fr_model.proofs.OrderedLists.{InOrder, same_ordered}
use Rattle.fr_model.proofs.AutomatonLaws.{act-state_term, next_state-lt, state_is, IsTerm-state_term}

-- ---- the order
pub lex_irrefl : (v : List ℕ) → IsLexBefore v v → ⊥
lex_irrefl [] h = h
lex_irrefl (x ∷ v) (inl h) = omega arith
lex_irrefl (x ∷ v) (inr h) = lex_irrefl v h.1

pub lex_trans : (u v w : List ℕ) → IsLexBefore u v → IsLexBefore v w → IsLexBefore u w
lex_trans [] v w a b = absurd a
lex_trans (x ∷ u) [] w a b = absurd b
lex_trans (x ∷ u) (y ∷ v) [] a b = absurd b
lex_trans (x ∷ u) (y ∷ v) (z ∷ w) (inl a) (inl b) = inl (omega arith)
lex_trans (x ∷ u) (y ∷ v) (z ∷ w) (inl a) (inr b) = inl (omega (arith, b.0))
lex_trans (x ∷ u) (y ∷ v) (z ∷ w) (inr a) (inl b) = inl (omega (arith, a.0))
lex_trans (x ∷ u) (y ∷ v) (z ∷ w) (inr a) (inr b) = inr (a.0 ∙ b.0, lex_trans u v w a.1 b.1)

pub lex_total : (v w : List ℕ) → length v ≡ length w → (v ≡ w) ⊎ (IsLexBefore v w ⊎ IsLexBefore w v)
lex_total [] [] e = inl refl
lex_total [] (y ∷ w) e = absurd (omega arith)
lex_total (x ∷ v) [] e = absurd (omega arith)
lex_total (x ∷ v) (y ∷ w) e = elim (cases_order x y) [
  | inl s ↦ elim (lex_total v w (omega arith)) [ inl r ↦ inl (rw (s, r)) | inr r ↦ elim r [ inl h ↦ inr (inl (inr (s, h))) | inr h ↦ inr (inr (inr (sym s, h))) ] ]
  | inr o ↦ elim o [ inl h ↦ inr (inl (inl h)) | inr h ↦ inr (inr (inl h)) ]
]

pub shortlex_irrefl : (v : List ℕ) → IsShortlexBefore v v → ⊥
shortlex_irrefl v (inl h) = omega arith
shortlex_irrefl v (inr h) = lex_irrefl v h.1

pub shortlex_trans : (u v w : List ℕ) → IsShortlexBefore u v → IsShortlexBefore v w → IsShortlexBefore u w
shortlex_trans u v w (inl a) (inl b) = inl (omega arith)
shortlex_trans u v w (inl a) (inr b) = inl (omega (arith, b.0))
shortlex_trans u v w (inr a) (inl b) = inl (omega (arith, a.0))
shortlex_trans u v w (inr a) (inr b) = inr (a.0 ∙ b.0, lex_trans u v w a.1 b.1)

pub shortlex_total : (v w : List ℕ) → (v ≡ w) ⊎ (IsShortlexBefore v w ⊎ IsShortlexBefore w v)
shortlex_total v w = elim (cases_order (length v) (length w)) [
  | inl e ↦ elim (lex_total v w e) [ inl s ↦ inl s | inr r ↦ elim r [ inl h ↦ inr (inl (inr (e, h))) | inr h ↦ inr (inr (inr (sym e, h))) ] ]
  | inr o ↦ elim o [ inl h ↦ inr (inl (inl h)) | inr h ↦ inr (inr (inl h)) ]
]

-- ---- alike terms have one canonical automaton
least_of_alike : (d : ℕ) (t u : Term) (v : List ℕ) → IsAlike t u → IsLeastWord d t v → IsLeastWord d u v
least_of_alike d t u v h l = record {
  valid = l.valid;
  least = λ w k b same. l.least w k b (alike_trans (alike_section w h) (alike_trans same (alike_sym (alike_section v h))));
}

pub least_words_differ : (d : ℕ) (t : Term) (v w : List ℕ) → IsLeastWord d t v → IsLeastWord d t w → IsAlike (Section t v) (Section t w) → v ≡ w
least_words_differ d t v w a b same = elim (shortlex_total v w) [
  | inl e ↦ e
  | inr o ↦ elim o [ inl h ↦ absurd (b.least v a.valid h same) | inr h ↦ absurd (a.least w b.valid h (alike_sym same)) ]
]

pub same_place : (ws : List (List ℕ)) → InOrder [] IsShortlexBefore shortlex_irrefl shortlex_trans ws → (j k : ℕ) → j < length ws → k < length ws → get_or ws j [] ≡ get_or ws k [] → j ≡ k
same_place ws o j k a b e = elim (cases_order j k) [
  | inl s ↦ s
  | inr r ↦ elim r [
    | inl h ↦ absurd (shortlex_irrefl (get_or ws k []) (rw e at (o j k h b)))
    | inr h ↦ absurd (shortlex_irrefl (get_or ws k []) (rw e at (o k j h a)))
  ]
]

pub state_same : (p q : State) → p.perm ≡ q.perm → p.next ≡ q.next → p ≡ q
state_same p q e f = ap (λ (a : List ℕ). record { perm = a; next = p.next }) e ∙ ap (λ (b : List ℕ). record { perm = q.perm; next = b }) f

pub perm_from_images : (d : ℕ) (p q : List ℕ) → IsPermutation d p → IsPermutation d q → ((x : ℕ) → IsLetter d x → image p x ≡ image q x) → p ≡ q
perm_from_images d p q a b h = ext_get_or 0 p q (a.degree ∙ sym b.degree) (λ i l.
    get_or_default p i 0 (suc i) l ∙ h (suc i) (omega arith, omega (arith, a.degree)) ∙ sym (get_or_default q i 0 (suc i) (omega (arith, a.degree, b.degree))))

module _ (d : ℕ) (t u : Term) (ps qs : List State) (a : IsCanonical d t ps) (b : IsCanonical d u qs) where
  words_same : IsAlike t u → a.words ≡ b.words
  words_same h = same_ordered [] IsShortlexBefore shortlex_irrefl shortlex_trans a.words b.words a.ordered b.ordered
      (λ v r. b.whole v (least_of_alike d t u v h (rw r.2 (a.least r.0 r.1))))
      (λ v r. a.whole v (least_of_alike d u t v (alike_sym h) (rw r.2 (b.least r.0 r.1))))

  states_same : IsAlike t u → (k : ℕ) → k < length ps → state_at ps k ≡ state_at qs k
  states_same h k l =
      let e = words_same h in
      let m : k < length a.words = omega (arith, a.count) in
      let n : k < length b.words = rw (← e) m in
      let l' : k < length qs = omega (arith, b.count) in
      let p = state_is d ps k a.automaton l in
      let q = state_is d qs k b.automaton l' in
      let w = get_or a.words k [] in
      let at : get_or b.words k [] ≡ w = ap (λ ws. get_or ws k []) (sym e) in
      let perms = perm_from_images d (state_at ps k).perm (state_at qs k).perm p.permutes q.permutes (λ x c.
      heads (sym (a.outputs k x m c) ∙ (alike_section w h).images (x ∷ []) ∙ rw at at (b.outputs k x n c))) in
      let nexts : (x : ℕ) → IsLetter d x → next_state ps k x ≡ next_state qs k x =
      λ x c.
      let i = next_state ps k x in
      let j = next_state qs k x in
      let ii : i < length a.words = omega (arith, a.count, next_state-lt d ps k x a.automaton l) in
      let jj : j < length a.words = omega (arith, a.count, b.count, ap length e, next_state-lt d qs k x b.automaton l') in
      let P : List (List ℕ) → Type 0 = λ ws. IsAlike (Section u (get_or ws k [] ++ x ∷ [])) (Section u (get_or ws j [])) in
      let right : IsAlike (Section u (w ++ x ∷ [])) (Section u (get_or a.words j [])) = subst P (sym e) (b.nexts k x n c) in
      let same = alike_trans (alike_sym (a.nexts k x m c)) (alike_trans (alike_section (w ++ x ∷ []) h) (alike_trans right (alike_sym (alike_section (get_or a.words j []) h)))) in
      same_place a.words a.ordered i j ii jj (least_words_differ d t _ _ (a.least i ii) (a.least j jj) same)
      in
      state_same (state_at ps k) (state_at qs k) perms
      (ext_get_or 0 (state_at ps k).next (state_at qs k).next (p.arity ∙ sym q.arity) (λ i r.
      get_or_default (state_at ps k).next i 0 k r ∙ nexts (suc i) (omega arith, omega (arith, p.arity)) ∙ sym (get_or_default (state_at qs k).next i 0 k (omega (arith, p.arity, q.arity)))))
    where
      heads : {y z : ℕ} → ◌≡◌ {A = List ℕ} (y ∷ []) (z ∷ []) → y ≡ z
      heads e = cc

  pub canonical_same : IsAlike t u → ps ≡ qs
  canonical_same h =
      let many : length ps ≡ length qs = omega (arith, a.count, b.count, ap length (words_same h)) in
      ext_get_or (record { perm = []; next = [] }) ps qs many (states_same h)

nothing_before : (w : List ℕ) → IsShortlexBefore w [] → ⊥
nothing_before w (inl h) = omega arith
nothing_before [] (inr h) = h.1
nothing_before (x ∷ w) (inr h) = h.1

-- ---- the first of the least words is the empty one
module _ (d : ℕ) (t : Term) (qs : List State) (a : IsCanonical d t qs) where
  empty_first : IsLeastWord d t []
  empty_first = record { valid = tt; least = λ w k b same. nothing_before w b }

  pub at_zero : (0 < length a.words) × ([] ≡ get_or a.words 0 [])
  at_zero = let r = a.whole [] empty_first in go r.0 r.1 r.2
    where
      go : (k : ℕ) → k < length a.words → [] ≡ get_or a.words k [] → (0 < length a.words) × ([] ≡ get_or a.words 0 [])
      go zero h e = (h, e)
      go (suc k) h e = absurd (nothing_before (get_or a.words 0 []) (rw (← e) at (a.ordered 0 (suc k) (omega arith) h)))

-- ---- a canonical automaton acts, from state 0, as the term
module _ (d : ℕ) (t : Term) (valid : IsTerm d t) (qs : List State) (a : IsCanonical d t qs) where
  stands : (w : List ℕ) (k : ℕ) → k < length qs → IsWord d w → act (Section t (get_or a.words k [])) w ≡ act (state_term qs k) w
  stands [] k l c = act-nil (Section t (get_or a.words k [])) ∙ sym (act-nil (state_term qs k))
  stands (x ∷ w) k l c =
      let v = get_or a.words k [] in
      let m : k < length a.words = omega (arith, a.count) in
      act-append (Section t v) (x ∷ []) w
      ∙ rw (a.outputs k x m c.0, (section_section t v (x ∷ [])).images w, (a.nexts k x m c.0).images w, stands w (next_state qs k x) (next_state-lt d qs k x a.automaton l) c.1)
      (sym (act-state_term d qs k x w a.automaton l c.0))

  pub canonical_alike : IsAlike t (state_term qs 0)
  canonical_alike =
      let z = at_zero d t qs a in
      let l : 0 < length qs = omega (arith, a.count, z.0) in
      alike_from_words d valid (IsTerm-state_term d qs 0 a.automaton l) (λ w c. rw (← z.1) at (stands w 0 l c))
