-- Counting: members that are valid and apart are not more than a count of classes, and a list with a member for each number.
use Rattle.std.proofs.Common.{ℕ, ◌≡◌, ◌<◌, ◌≤◌, ◌⊎◌, inl, inr, List, [], length, map, get_or, refl, sym, ◌∙◌, ap, subst, arith, eqb, true, false}
use Rattle.std.specs.List.{All, list_any}
use Rattle.std.proofs.lemmas.List.{get_or_default, get_or-map, length-map}
use Rattle.std.proofs.lemmas.Bool.{cases_lt, ne_eqb}
use Rattle.std.proofs.lemmas.Map.Keys.{IsDistinct-from_apart}
use Rattle.std.proofs.lemmas.Map.Steps.{length-le_from_distinct_below}
use Rattle.fr_model.specs.Permutations.{numbers_from}
use Rattle.fr_model.specs.Classes.{IsClassCount, HasMoreThan, IsClassList}
use Rattle.fr_model.proofs.PermutationLaws.{length-numbers_from, get_or-numbers_from, present_place}

-- a list of words, one for each number
module _ (n : ℕ) (has : (i : ℕ) → i < n → List ℕ) where
  choose : (i : ℕ) → (i < n) ⊎ (n ≤ i) → List ℕ
  choose i (inl l) = has i l
  choose i (inr g) = []

  pub words_of : List (List ℕ)
  words_of = map (λ i. choose i (cases_lt i n)) (numbers_from 0 n)

  pub length-words_of : length words_of ≡ n
  unfolding words_of
  length-words_of = length-map (numbers_from 0 n) (λ i. choose i (cases_lt i n)) ∙ length-numbers_from 0 n

  choose-all : (P : List ℕ → Type 0) (i : ℕ) → ((l : i < n) → P (has i l)) → (c : (i < n) ⊎ (n ≤ i)) → i < n → P (choose i c)
  unfolding choose
  choose-all P i h (inl l) k = h l
  choose-all P i h (inr g) k = absurd (omega arith)

  -- what each of them is
  pub words_of-at : (P : List ℕ → Type 0) (i : ℕ) (z : List ℕ) → i < n → ((l : i < n) → P (has i l)) → P (get_or words_of i z)
  unfolding words_of
  words_of-at P i z k h =
      let e : get_or (map (λ i. choose i (cases_lt i n)) (numbers_from 0 n)) i z ≡ choose i (cases_lt i n) =
      get_or-map (λ i. choose i (cases_lt i n)) (numbers_from 0 n) i 0 z (omega (arith, length-numbers_from 0 n)) ∙ ap (λ j. choose j (cases_lt j n)) (get_or-numbers_from 0 n i 0 k ∙ omega arith) in
      subst P (sym e) (choose-all P i h (cases_lt i n) k)

-- members that are valid and apart are not more than a count
module _ {A : Type 0} (z : A) (Valid : A → Type 0) (R : A → A → Type 0) (flip : (v w : A) → R v w → R w v) (join : (u v w : A) → R u v → R v w → R u w) (members : List A) (n : ℕ) (valid : All Valid members)
    (apart : (i j : ℕ) → i < j → j < length members → ¬ R (get_or members i z) (get_or members j z)) (b : IsClassCount Valid R n) where
  pick : (i : ℕ) → (i < length members) ⊎ (length members ≤ i) → ℕ
  pick i (inl l) = (b.covers (get_or members i z) (valid i z l)).0
  pick i (inr g) = 0

  picked : (i : ℕ) (c : (i < length members) ⊎ (length members ≤ i)) → i < length members → (pick i c < length b.members) × R (get_or members i z) (get_or b.members (pick i c) z)
  unfolding pick
  picked i (inl l) h =
      let r = b.covers (get_or members i z) (valid i z l) in
      (r.1, rw (get_or_default b.members r.0 (get_or members i z) z r.1) at r.2)
  picked i (inr g) h = absurd (omega arith)

  place : ℕ → ℕ
  place i = pick i (cases_lt i (length members))

  place_ok : (i : ℕ) → i < length members → (place i < length b.members) × R (get_or members i z) (get_or b.members (place i) z)
  unfolding place
  place_ok i h = picked i (cases_lt i (length members)) h

  places : List ℕ
  places = map place (numbers_from 0 (length members))

  length-places : length places ≡ length members
  unfolding places
  length-places = length-map (numbers_from 0 (length members)) place ∙ length-numbers_from 0 (length members)

  places_at : (i e : ℕ) → i < length members → get_or places i e ≡ place i
  unfolding places
  places_at i e h = get_or-map place (numbers_from 0 (length members)) i 0 e (omega (arith, length-numbers_from 0 (length members))) ∙ ap place (get_or-numbers_from 0 (length members) i 0 h ∙ omega arith)

  places_apart : (i j e : ℕ) → i < j → j < length places → eqb (get_or places i e) (get_or places j e) ≡ false
  places_apart i j e l h =
      let jj : j < length members = omega (arith, length-places) in
      let ii : i < length members = omega arith in
      ne_eqb _ _ (λ same.
      let eq : place i ≡ place j = sym (places_at i e ii) ∙ same ∙ places_at j e jj in
      apart i j l jj (join _ _ _ (place_ok i ii).1 (flip _ _ (rw (← eq) at (place_ok j jj).1))))

  places_below : (q : ℕ) → list_any (eqb q) places ≡ true → q < length b.members
  places_below q h =
      let r = present_place 0 places q h in
      let ii : r.0 < length members = omega (arith, length-places, r.1) in
      let e : place r.0 ≡ q = sym (places_at r.0 q ii) ∙ r.3 in
      rw (← e) (place_ok r.0 ii).0

  pub apart-le : length members ≤ n
  apart-le = omega (arith, b.count, length-places, length-le_from_distinct_below places (length b.members) (IsDistinct-from_apart eqb places places_apart) places_below)

-- more members than a count would be too many
pub HasMoreThan-lt : {A : Type 0} (z : A) (Valid : A → Type 0) (R : A → A → Type 0) (flip : (v w : A) → R v w → R w v) (join : (u v w : A) → R u v → R v w → R u w) (limit n : ℕ) → HasMoreThan Valid R limit → IsClassCount Valid R n → limit < n
HasMoreThan-lt z Valid R flip join limit n m b = omega (arith, m.more, apart-le z Valid R flip join m.members n m.valid (λ i j l h. m.apart i j z l h) b)

-- a count above a limit has more members than the limit
pub HasMoreThan-from_count : {A : Type 0} (Valid : A → Type 0) (R : A → A → Type 0) (limit n : ℕ) → limit < n → IsClassCount Valid R n → HasMoreThan Valid R limit
HasMoreThan-from_count Valid R limit n l c = record { members = c.members; more = omega (arith, c.count); valid = c.valid; apart = c.apart }

-- two relations that hold of the same pairs count the same classes
pub IsClassCount-same : {A : Type 0} (Valid : A → Type 0) (R S : A → A → Type 0) (to : (v w : A) → R v w → S v w) (from : (v w : A) → S v w → R v w) (n : ℕ) → IsClassCount Valid R n → IsClassCount Valid S n
IsClassCount-same Valid R S to from n c = record {
  members = c.members;
  count = c.count;
  valid = c.valid;
  apart = λ i j z l h same. c.apart i j z l h (from _ _ same);
  covers = λ v k. let r = c.covers v k in (r.0, r.1, to _ _ r.2);
}

pub HasMoreThan-same : {A : Type 0} (Valid : A → Type 0) (R S : A → A → Type 0) (from : (v w : A) → S v w → R v w) (n : ℕ) → HasMoreThan Valid R n → HasMoreThan Valid S n
HasMoreThan-same Valid R S from n c = record { members = c.members; more = c.more; valid = c.valid; apart = λ i j z l h same. c.apart i j z l h (from _ _ same) }

-- a list with one of each class counts them
pub IsClassCount-from_list : {A : Type 0} (Valid : A → Type 0) (R : A → A → Type 0) (members : List A) → IsClassList Valid R members → IsClassCount Valid R (length members)
IsClassCount-from_list Valid R members c = record { members = members; count = refl; valid = c.valid; apart = c.apart; covers = c.covers }
