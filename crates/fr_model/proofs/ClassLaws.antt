-- Bisimulation of terms, counts of classes, sizes and counts of pairs, and the size of a state of a minimal automaton.
use Rattle.std.proofs.Common.{ℕ, ◌≡◌, ◌<◌, ◌≤◌, List, [], ◌∷◌, length, get_or, sym, ◌∙◌, arith}
use Rattle.std.proofs.lemmas.List.{get_or_default}
use Rattle.fr_model.specs.Words.{IsLetter, IsWord}
use Rattle.fr_model.specs.Terms.{Term, Section, act, IsTerm, IsAlike}
use Rattle.fr_model.specs.Automata.{State, state_after, state_term, IsAutomaton, IsReached}
use Rattle.fr_model.specs.Classes.{IsClassCount, SameSection, IsSize, HasMoreStates, SamePair, IsPairCount, HasMorePairs}
use Rattle.fr_model.proofs.CountLaws.{apart-le, HasMoreThan-lt, IsClassCount-same, HasMoreThan-same, words_of, length-words_of, words_of-at}
use Rattle.fr_model.proofs.TermLaws.{act-append}
use Rattle.fr_model.proofs.AlikeLaws.{alike_sym, alike_trans, alike_from_words, alike_section, act-nil}
use Rattle.fr_model.proofs.AutomatonLaws.{section_state, state_after-lt}

-- one step of a bisimulation: the letters agree, and the sections are alike to related terms
pub record IsStep (d : ℕ) (R : Term → Term → Type 0) (t u : Term) : Type 0 where
  pub left : IsTerm d t
  pub right : IsTerm d u
  pub letters : (x : ℕ) → IsLetter d x → act t (x ∷ []) ≡ act u (x ∷ [])
  pub sections : (x : ℕ) → IsLetter d x → (t' : Term) × (u' : Term) × IsAlike (Section t (x ∷ [])) t' × IsAlike (Section u (x ∷ [])) u' × R t' u'

pub alike_by_bisimulation : (d : ℕ) (R : Term → Term → Type 0) → ((t u : Term) → R t u → IsStep d R t u) → (t u : Term) → R t u → IsAlike t u
alike_by_bisimulation d R step t u r = alike_from_words d (step t u r).left (step t u r).right (λ w k. same w t u r k)
  where
    same : (w : List ℕ) (t u : Term) → R t u → IsWord d w → act t w ≡ act u w
    same [] t u r k = act-nil t ∙ sym (act-nil u)
    same (x ∷ w) t u r k =
        let p = step t u r in
        let q = p.sections x k.0 in
        act-append t (x ∷ []) w ∙ rw (p.letters x k.0, q.2.images w, same w q.0 q.1 q.4 k.1, ← q.3.images w) (sym (act-append u (x ∷ []) w))

-- two counts under one equivalence are equal
pub count-le : {A : Type 0} (z : A) (Valid : A → Type 0) (R : A → A → Type 0) (flip : (v w : A) → R v w → R w v) (join : (u v w : A) → R u v → R v w → R u w) (m n : ℕ) (a : IsClassCount Valid R m) (b : IsClassCount Valid R n) → m ≤ n
count-le z Valid R flip join m n a b = omega (arith, a.count, apart-le z Valid R flip join a.members n a.valid (λ i j l h. a.apart i j z l h) b)

pub count-same : {A : Type 0} (z : A) (Valid : A → Type 0) (R : A → A → Type 0) (flip : (v w : A) → R v w → R w v) (join : (u v w : A) → R u v → R v w → R u w) (m n : ℕ) (a : IsClassCount Valid R m) (b : IsClassCount Valid R n) → m ≡ n
count-same z Valid R flip join m n a b = omega (arith, count-le z Valid R flip join m n a b, count-le z Valid R flip join n m b a)

-- the size of a state from which each state is reached, where no two act alike
pub IsSize-minimal : (d : ℕ) (qs : List State) (s : ℕ) (words : List (List ℕ)) → IsAutomaton d qs → s < length qs → length words ≡ length qs
    → ((i : ℕ) → i < length qs → IsWord d (get_or words i []) × (state_after qs s (get_or words i []) ≡ i))
    → ((i j : ℕ) → i < j → j < length qs → ¬ IsAlike (state_term qs i) (state_term qs j))
    → IsSize d (state_term qs s) (length qs)
IsSize-minimal d qs s words g l e reach apart = record {
  members = words;
  count = e;
  valid = λ i z h. rw (get_or_default words i z [] h) (reach i (omega arith)).0;
  apart = λ i j z h k same.
      let a = reach i (omega arith) in
      let b = reach j (omega arith) in
      let same = rw (get_or_default words i z [] (omega arith), get_or_default words j z [] k) at same in
      let x = section_state d qs s (get_or words i []) g l a.0 in
      let y = section_state d qs s (get_or words j []) g l b.0 in
      apart i j h (omega arith) (rw (a.1, b.1) at (alike_trans (alike_sym x) (alike_trans same y)));
  covers = λ v h.
      let i = state_after qs s v in
      let below = state_after-lt d qs s v g l in
      let r = reach i below in
      let room : i < length words = omega (arith, below) in
      (i, room, rw (get_or_default words i v [] room) (alike_trans (section_state d qs s v g l h) (rw r.1 at (alike_sym (section_state d qs s (get_or words i []) g l r.0)))));
}

-- the same, where each state is said to be reached
pub IsSize-reached : (d : ℕ) (qs : List State) (s : ℕ) → IsAutomaton d qs → s < length qs → ((r : ℕ) → r < length qs → IsReached d qs s r)
    → ((i j : ℕ) → i < j → j < length qs → ¬ IsAlike (state_term qs i) (state_term qs j))
    → IsSize d (state_term qs s) (length qs)
IsSize-reached d qs s g l reach apart =
    let has : (r : ℕ) → r < length qs → List ℕ = λ r k. (reach r k).along in
    IsSize-minimal d qs s (words_of (length qs) has) g l (length-words_of (length qs) has)
    (λ i k. words_of-at (length qs) has (λ w. IsWord d w × (state_after qs s w ≡ i)) i [] k (λ h. ((reach i h).valid, (reach i h).there)))
    apart

-- ---- sizes
same_flip : (t : Term) (v w : List ℕ) → SameSection t v w → SameSection t w v
same_flip t v w e = alike_sym e

same_join : (t : Term) (u v w : List ℕ) → SameSection t u v → SameSection t v w → SameSection t u w
same_join t u v w e f = alike_trans e f

pub size_once : (d : ℕ) (t : Term) (m n : ℕ) → IsSize d t m → IsSize d t n → m ≡ n
size_once d t m n a b = count-same [] (IsWord d) (SameSection t) (same_flip t) (same_join t) m n a b

pub HasMoreStates-lt : (d : ℕ) (t : Term) (limit n : ℕ) → HasMoreStates d t limit → IsSize d t n → limit < n
HasMoreStates-lt d t limit n a b = HasMoreThan-lt [] (IsWord d) (SameSection t) (same_flip t) (same_join t) limit n a b

same_section_alike : {t u : Term} → IsAlike t u → (v w : List ℕ) → SameSection t v w → SameSection u v w
same_section_alike h v w e = alike_trans (alike_sym (alike_section v h)) (alike_trans e (alike_section w h))

pub IsSize-alike : (d : ℕ) (t u : Term) (n : ℕ) → IsAlike t u → IsSize d t n → IsSize d u n
IsSize-alike d t u n h a = IsClassCount-same (IsWord d) (SameSection t) (SameSection u) (same_section_alike h) (same_section_alike (alike_sym h)) n a

pub HasMoreStates-alike : (d : ℕ) (t u : Term) (limit : ℕ) → IsAlike t u → HasMoreStates d t limit → HasMoreStates d u limit
HasMoreStates-alike d t u limit h a = HasMoreThan-same (IsWord d) (SameSection t) (SameSection u) (same_section_alike (alike_sym h)) limit a

-- ---- pairs
pub pair_flip : (t u : Term) (v w : List ℕ) → SamePair t u v w → SamePair t u w v
pair_flip t u v w e = (alike_sym e.0, alike_sym e.1)

pub pair_join : (t u : Term) (v w x : List ℕ) → SamePair t u v w → SamePair t u w x → SamePair t u v x
pair_join t u v w x e f = (alike_trans e.0 f.0, alike_trans e.1 f.1)

pub pair_count_once : (d : ℕ) (t u : Term) (m n : ℕ) → IsPairCount d t u m → IsPairCount d t u n → m ≡ n
pair_count_once d t u m n a b = count-same [] (IsWord d) (SamePair t u) (pair_flip t u) (pair_join t u) m n a b

pub HasMorePairs-lt : (d : ℕ) (t u : Term) (limit n : ℕ) → HasMorePairs d t u limit → IsPairCount d t u n → limit < n
HasMorePairs-lt d t u limit n a b = HasMoreThan-lt [] (IsWord d) (SamePair t u) (pair_flip t u) (pair_join t u) limit n a b

same_pair_alike : {t t' u u' : Term} → IsAlike t t' → IsAlike u u' → (v w : List ℕ) → SamePair t u v w → SamePair t' u' v w
same_pair_alike {t} {t'} {u} {u'} h k v w e = (
  same_section_alike h v w e.0,
  rw (← h.images v, ← h.images w) (alike_trans (alike_sym (alike_section (act t v) k)) (alike_trans e.1 (alike_section (act t w) k))),
)

pub IsPairCount-alike : (d : ℕ) (t t' u u' : Term) (n : ℕ) → IsAlike t t' → IsAlike u u' → IsPairCount d t u n → IsPairCount d t' u' n
IsPairCount-alike d t t' u u' n h k a = IsClassCount-same (IsWord d) (SamePair t u) (SamePair t' u') (same_pair_alike h k) (same_pair_alike (alike_sym h) (alike_sym k)) n a

pub HasMorePairs-alike : (d : ℕ) (t t' u u' : Term) (limit : ℕ) → IsAlike t t' → IsAlike u u' → HasMorePairs d t u limit → HasMorePairs d t' u' limit
HasMorePairs-alike d t t' u u' limit h k a = HasMoreThan-same (IsWord d) (SamePair t u) (SamePair t' u') (same_pair_alike (alike_sym h) (alike_sym k)) limit a
