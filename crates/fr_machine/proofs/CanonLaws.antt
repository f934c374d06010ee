-- A walk in order gives the canonical numbering.
use Rattle.std.proofs.Common.{ℕ, ◌≡◌, ◌<◌, inl, inr, List, [], ◌∷◌, ◌++◌, length, get_or, sym, ◌∙◌, ap, subst, arith}
use Rattle.fr_model.specs.Words.{IsLetter, IsWord}
use Rattle.fr_model.specs.Permutations.{image}
use Rattle.fr_model.specs.Terms.{Term, Section, act, IsAlike}
use Rattle.fr_model.specs.Automata.{State, state_at, next_state, IsAutomaton}
use Rattle.fr_model.specs.Separation.{IsShortlexBefore}
use Rattle.fr_model.specs.Canonical.{IsLeastWord, IsCanonical}
use Rattle.fr_model.proofs.TermLaws.{IsWord-append}
use Rattle.fr_model.proofs.CanonicalLaws.{shortlex_trans, shortlex_irrefl}
use Rattle.fr_machine.specs.Walks.{walk_after}
use Rattle.fr_machine.proofs.WalkLaws.{walk_after-append}
use Rattle.fr_machine.specs.Orders.{IsOrdered, UpTo}
use Rattle.fr_machine.proofs.OrderLaws.{walk_least}

module _ (d : ℕ) (t : Term) (step : ℕ → ℕ → ℕ) (start : ℕ) (keys : List ℕ) (words : List (List ℕ)) (qs : List State) (h : IsOrdered d step start keys words (length keys) 1) (first : get_or keys 0 0 ≡ start)
    (distinct : (i j : ℕ) → i < length keys → j < length keys → get_or keys i 0 ≡ get_or keys j 0 → i ≡ j)
    (one_key : (v w : List ℕ) → IsWord d v → IsWord d w → (walk_after step start v ≡ walk_after step start w → IsAlike (Section t v) (Section t w)) × (IsAlike (Section t v) (Section t w) → walk_after step start v ≡ walk_after step start w))
    (automaton : IsAutomaton d qs) (size : length qs ≡ length keys)
    (outputs : (k x : ℕ) → k < length keys → IsLetter d x → act (Section t (get_or words k [])) (x ∷ []) ≡ image (state_at qs k).perm x ∷ [])
    (nexts : (k x : ℕ) → k < length keys → IsLetter d x → (next_state qs k x < length keys) × (get_or keys (next_state qs k x) 0 ≡ step (get_or keys k 0) x)) where
  -- the number of the section at a word, whose word is the least
  least_of : (v : List ℕ) → IsWord d v → (k : ℕ) × (k < length keys) × (get_or keys k 0 ≡ walk_after step start v) × UpTo (get_or words k []) v
  least_of v a = walk_least d step start keys words (length keys) 1 h (omega arith) first 0 [] v h.some (inl h.none) (sym first) a

  word_least : (k : ℕ) → k < length keys → IsLeastWord d t (get_or words k [])
  word_least k l = record {
    valid = h.valid k l;
    least = λ w a b e.
        let r = least_of w a in
        let same : r.0 ≡ k = distinct r.0 k r.1 l (r.2 ∙ (one_key w (get_or words k []) a (h.valid k l)).1 e ∙ h.own k l) in
        let P : ℕ → Type 0 = λ i. UpTo (get_or words i []) w in
        elim (subst P same r.3) [
          | inl u ↦ let Q : List ℕ → Type 0 = λ v. IsShortlexBefore w v in shortlex_irrefl w (subst Q u b)
          | inr u ↦ shortlex_irrefl w (shortlex_trans w (get_or words k []) w b u)
        ];
  }

  pub IsCanonical-walked : IsCanonical d t qs
  IsCanonical-walked = record {
    automaton = automaton;
    words = words;
    count = h.count ∙ sym size;
    least = λ k l. word_least k (omega (arith, h.count));
    ordered = λ j k l m. h.ascending j k l (omega (arith, h.count));
    whole = λ v a.
        let r = least_of v a.valid in (
          r.0,
          omega (arith, r.1, h.count),
          elim r.3 [
            | inl e ↦ sym e
            | inr b ↦ absurd (a.least (get_or words r.0 []) (h.valid r.0 r.1) b ((one_key (get_or words r.0 []) v (h.valid r.0 r.1) a.valid).0 (h.own r.0 r.1 ∙ r.2)))
          ],
        );
    outputs = λ k x l a. outputs k x (omega (arith, h.count)) a;
    nexts = λ k x l a.
        let kl : k < length keys = omega (arith, h.count) in
        let n = nexts k x kl a in
        (one_key (get_or words k [] ++ x ∷ []) (get_or words (next_state qs k x) []) (IsWord-append d (get_or words k []) (x ∷ []) (h.valid k kl) (a, tt)) (h.valid (next_state qs k x) n.0)).0
        (walk_after-append step start (get_or words k []) (x ∷ []) ∙ ap (λ i. step i x) (h.own k kl) ∙ sym n.1 ∙ sym (h.own (next_state qs k x) n.0));
  }
