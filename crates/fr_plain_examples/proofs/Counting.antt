-- How many sections, and how many pairs of sections, powers of the adding machine have: a list of words shows it, one for each
-- section or pair, where each letter leads from those in the list to those in the list.
use Rattle.std.proofs.Common.{eqb, ℕ, ◌≡◌, ◌≢◌, ◌+◌, ◌*◌, ◌/◌, ◌%◌, ◌<◌, inl, inr, Bool, true, false, ◌&&◌, List, [], ◌∷◌, length, map, get_or, refl, sym, ap, ◌∙◌, subst, arith}
use Rattle.std.specs.Prelude.{Contains}
use Rattle.std.specs.List.{All, IsDistinct, list_all, list_any}
use Rattle.std.proofs.lemmas.Bool.{eqb-true, eqb-false}
use Rattle.std.proofs.lemmas.List.{get_or-map, length-map}
use Rattle.std.proofs.lemmas.List.Sums.{AllPass-from_list_all}
use Rattle.std.proofs.lemmas.List.Elements.{All-get_or}
use Rattle.std.proofs.lemmas.Map.Keys.{apart_from_distinct}
use Rattle.std.proofs.lemmas.Map.Views.{Contains-from_any}
use Rattle.fr_model.specs.Words.{IsLetter, IsWord}
use Rattle.fr_model.specs.Permutations.{image}
use Rattle.fr_model.specs.Automata.{state_at, next_state, state_after, state_term}
use Rattle.fr_model.specs.Terms.{One, Section, act, IsAlike}
use Rattle.fr_model.specs.Classes.{SameSection, IsSize, SamePair, IsPairCount}
use Rattle.fr_model.proofs.TermLaws.{act-IsWord}
use Rattle.fr_model.proofs.AlikeLaws.{act-nil, alike_refl, alike_sym, alike_trans, alike_section}
use Rattle.fr_model.proofs.AutomatonLaws.{section_state, state_after-lt, next_state-lt}
use Rattle.fr_model.proofs.CountLaws.{IsClassCount-same}
use Rattle.fr_model.proofs.GrowthLaws.{section_one}
use Rattle.fr_plain_examples.proofs.AddingPowers.{powers, listed, below_nine, two_letters, automaton, row, acts, term, identity, one_power}

-- the pair of states that a word leads to from i and j, as one number: the word leads i on, and its image j
abbrev pub after : ℕ → ℕ → List ℕ → ℕ
after i j w = 9 * state_after powers i w + state_after powers j (act (state_term powers i) w)

-- where a letter leads from a pair
abbrev next_pair : ℕ → ℕ → ℕ
next_pair key x = 9 * next_state powers (key / 9) x + next_state powers (key % 9) (image (state_at powers (key / 9)).perm x)

-- the number is in the list
abbrev pub is_in : List ℕ → ℕ → Bool
is_in keys key = list_any (eqb key) keys

-- both letters lead from each pair in the list to one in the list
abbrev pub is_closed : List ℕ → Bool
is_closed keys = list_all (λ key. is_in keys (next_pair key 1) && is_in keys (next_pair key 2)) keys

-- the keys of a list whose keys are distinct
keys_apart : (keys : List ℕ) → IsDistinct eqb keys → (k n : ℕ) → k < n → n < length keys → get_or keys k 0 ≢ get_or keys n 0
keys_apart keys distinct k n lo hi e = eqb-false (get_or keys k 0) (get_or keys n 0) (apart_from_distinct eqb keys k n 0 distinct lo hi) e

both : (p q : Bool) → (p && q) ≡ true → (p ≡ true) × (q ≡ true)
both true q e = (refl, e)
both false q e = cc

closed_at : (keys : List ℕ) (key x : ℕ) → is_closed keys ≡ true → Contains keys key → IsLetter 2 x → Contains keys (next_pair key x)
closed_at keys key x closed c l =
    let all = AllPass-from_list_all (λ key. is_in keys (next_pair key 1) && is_in keys (next_pair key 2)) keys closed in
    let at = All-get_or (λ key. (is_in keys (next_pair key 1) && is_in keys (next_pair key 2)) ≡ true) keys c.0 key c.1 all in
    let here : (is_in keys (next_pair key 1) && is_in keys (next_pair key 2)) ≡ true = subst (λ (k : ℕ). (is_in keys (next_pair k 1) && is_in keys (next_pair k 2)) ≡ true) c.2 at in
    let two = both (is_in keys (next_pair key 1)) (is_in keys (next_pair key 2)) here in
    elim (two_letters x l) [
      | inl e ↦ rw e (Contains-from_any eqb-true (next_pair key 1) keys two.0)
      | inr e ↦ rw e (Contains-from_any eqb-true (next_pair key 2) keys two.1)
    ]

-- a letter leads the pair on
after_letter : (i j x : ℕ) (w : List ℕ) → i < 9 → j < 9 → IsLetter 2 x → after i j (x ∷ w) ≡ after (next_state powers i x) (next_state powers j (image (state_at powers i).perm x)) w
after_letter i j x w l m h = ap (λ (v : List ℕ). 9 * state_after powers i (x ∷ w) + state_after powers j v) (acts i x w l h)

-- from a pair in the list each word leads to one in the list
after_in : (keys : List ℕ) → is_closed keys ≡ true → (i j : ℕ) → i < 9 → j < 9 → Contains keys (9 * i + j) → (w : List ℕ) → IsWord 2 w → Contains keys (after i j w)
after_in keys closed i j l m c [] h = subst (Contains keys) (ap (λ (v : List ℕ). 9 * i + state_after powers j v) (sym (act-nil (state_term powers i)))) c
after_in keys closed i j l m c (x ∷ w) h =
    let r = row i x l h.0 in
    let r1 = r.1 in
    let y = image (state_at powers i).perm x in
    let hy : IsLetter 2 (image (state_at powers i).perm x) = (omega arith, omega arith) in
    let quotient : (9 * i + j) / 9 ≡ i = omega arith in
    let remainder : (9 * i + j) % 9 ≡ j = omega arith in
    let there = closed_at keys (9 * i + j) x closed c h.0 in
    let there : Contains keys (9 * next_state powers i x + next_state powers j (image (state_at powers i).perm x)) =
    subst (λ (q : ℕ × ℕ). Contains keys (9 * next_state powers q.0 x + next_state powers q.1 (image (state_at powers q.0).perm x))) (λ k. (quotient k, remainder k)) there in
    let a = below_nine (next_state powers i x) (next_state-lt 2 powers i x automaton (listed i l)) in
    let b = below_nine (next_state powers j (image (state_at powers i).perm x)) (next_state-lt 2 powers j (image (state_at powers i).perm x) automaton (listed j m)) in
    subst (Contains keys) (sym (after_letter i j x w l m h.0)) (after_in keys closed (next_state powers i x) (next_state powers j (image (state_at powers i).perm x)) a b there w h.1)

-- words lead to one pair exactly where their pairs of sections act alike
module _ (i j : ℕ) (l : i < 9) (m : j < 9) where
  first_at : (v : List ℕ) → IsWord 2 v → IsAlike (Section (state_term powers i) v) (state_term powers (state_after powers i v))
  first_at v h = section_state 2 powers i v automaton (listed i l) h

  image_word : (v : List ℕ) → IsWord 2 v → IsWord 2 (act (state_term powers i) v)
  image_word v h = act-IsWord 2 (state_term powers i) (term i l) v h

  second_at : (v : List ℕ) → IsWord 2 v → IsAlike (Section (state_term powers j) (act (state_term powers i) v)) (state_term powers (state_after powers j (act (state_term powers i) v)))
  second_at v h = section_state 2 powers j (act (state_term powers i) v) automaton (listed j m) (image_word v h)

  first_below : (v : List ℕ) → state_after powers i v < 9
  first_below v = below_nine (state_after powers i v) (state_after-lt 2 powers i v automaton (listed i l))

  second_below : (v : List ℕ) → state_after powers j (act (state_term powers i) v) < 9
  second_below v = below_nine (state_after powers j (act (state_term powers i) v)) (state_after-lt 2 powers j (act (state_term powers i) v) automaton (listed j m))

  same_key : (v w : List ℕ) → IsWord 2 v → IsWord 2 w → SamePair (state_term powers i) (state_term powers j) v w → after i j v ≡ after i j w
  same_key v w h k same =
      let a = one_power (state_after powers i v) (state_after powers i w) (first_below v) (first_below w) (alike_trans (alike_sym (first_at v h)) (alike_trans same.0 (first_at w k))) in
      let b = one_power (state_after powers j (act (state_term powers i) v)) (state_after powers j (act (state_term powers i) w)) (second_below v) (second_below w) (alike_trans (alike_sym (second_at v h)) (alike_trans same.1 (second_at w k))) in
      omega arith

  same_pair : (v w : List ℕ) → IsWord 2 v → IsWord 2 w → after i j v ≡ after i j w → SamePair (state_term powers i) (state_term powers j) v w
  same_pair v w h k e =
      let p = first_below v in
      let q = first_below w in
      let r = second_below v in
      let s = second_below w in
      let a : state_after powers i v ≡ state_after powers i w = omega arith in
      let b : state_after powers j (act (state_term powers i) v) ≡ state_after powers j (act (state_term powers i) w) = omega arith in (
        alike_trans (first_at v h) (alike_trans (subst (λ (n : ℕ). IsAlike (state_term powers (state_after powers i v)) (state_term powers n)) a (alike_refl (state_term powers (state_after powers i v)))) (alike_sym (first_at w k))),
        alike_trans (second_at v h) (alike_trans (subst (λ (n : ℕ). IsAlike (state_term powers (state_after powers j (act (state_term powers i) v))) (state_term powers n)) b (alike_refl (state_term powers (state_after powers j (act (state_term powers i) v))))) (alike_sym (second_at w k))),
      )

  -- the words of the list are one for each pair of sections
  pub count_pairs : (words : List (List ℕ)) → All (IsWord 2) words → IsDistinct eqb (map (after i j) words) → is_in (map (after i j) words) (9 * i + j) ≡ true → is_closed (map (after i j) words) ≡ true
      → IsPairCount 2 (state_term powers i) (state_term powers j) (length words)
  count_pairs words valid distinct first closed = record {
    members = words;
    count = refl;
    valid = valid;
    apart = λ k n d lo hi same.
        let v = word_at k d (omega arith) in
        let w = word_at n d hi in
        let e = same_key (get_or words k d) (get_or words n d) v w same in
        let f = get_or-map (after i j) words k d 0 (omega arith) in
        let g = get_or-map (after i j) words n d 0 hi in
        keys_apart (map (after i j) words) distinct k n lo (omega (arith, hi, length-map words (after i j))) (f ∙ (e ∙ sym g));
    covers = λ w h.
        let c = after_in (map (after i j) words) closed i j l m (Contains-from_any eqb-true (9 * i + j) (map (after i j) words) first) w h in
        let lt = c.1 in
        let small : c.0 < length words = omega (arith, lt, length-map words (after i j)) in
        let f = get_or-map (after i j) words c.0 w (after i j w) small in
        (c.0, small, same_pair w (get_or words c.0 w) h (word_at c.0 w small) (sym (sym f ∙ c.2)));
  }
    where
      word_at : (k : ℕ) (d : List ℕ) → k < length words → IsWord 2 (get_or words k d)
      word_at k d h = All-get_or (IsWord 2) words k d h valid

-- the same of the sections of one power
pub count_sections : (i : ℕ) (l : i < 9) (words : List (List ℕ)) → All (IsWord 2) words → IsDistinct eqb (map (after i 3) words) → is_in (map (after i 3) words) (9 * i + 3) ≡ true → is_closed (map (after i 3) words) ≡ true
    → IsSize 2 (state_term powers i) (length words)
count_sections i l words valid distinct first closed = IsClassCount-same (IsWord 2) (SamePair (state_term powers i) (state_term powers 3)) (SameSection (state_term powers i)) (λ v w e. e.0) (λ v w e. (e, same v w)) (length words) (count_pairs i 3 l (omega arith) words valid distinct first closed)
  where
    one_at : (v : List ℕ) → IsAlike (Section (state_term powers 3) v) One
    one_at v = alike_trans (alike_section v identity) (section_one v)

    same : (v w : List ℕ) → IsAlike (Section (state_term powers 3) (act (state_term powers i) v)) (Section (state_term powers 3) (act (state_term powers i) w))
    same v w = alike_trans (one_at (act (state_term powers i) v)) (alike_sym (one_at (act (state_term powers i) w)))
