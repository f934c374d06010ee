-- Whether a partition into classes has more of them than a limit.
use Rattle.std.proofs.Common.{ℕ, zero, suc, ◌≡◌, ◌<◌, ◌≤◌, List, [], ◌∷◌, length, get_or, refl, sym, ◌∙◌, arith}
use Rattle.std.specs.List.{All, Contains}
use Rattle.std.proofs.lemmas.List.{get_or_default}
use Rattle.std.proofs.lemmas.List.Elements.{All-get_or}
use Rattle.fr_model.specs.Terms.{IsAlike}
use Rattle.fr_model.specs.Classes.{IsClassCount}
use Rattle.fr_model.proofs.CountLaws.{apart-le}
use Rattle.fr_machine.specs.declared.row.Row.{Row}
use Rattle.fr_classes.specs.declared.partition.Partition.{Partition}
use Rattle.fr_machine.specs.Rows.{IsMachine, row_term}
use Rattle.fr_classes.specs.Guesses.{IsGuess, IsStable}
use Rattle.fr_classes.specs.Classes.{HasMoreClasses}
use Rattle.fr_classes.specs.Refinement.{IsQueued, IsRefining}
use Rattle.fr_classes.proofs.PartitionLaws.{alike_from_clean, alike_from_stable, clean_from_none}

-- a list with a number for each place
list_from : (n : ℕ) (P : ℕ → ℕ → Type 0) → ((i : ℕ) → i < n → (s : ℕ) × P i s) → (xs : List ℕ) × (length xs ≡ n) × ((i : ℕ) → i < n → P i (get_or xs i 0))
list_from zero P h = ([], refl, λ i l. absurd (omega arith))
list_from (suc n) P h =
    let r = list_from n (λ i s. P (suc i) s) (λ i l. h (suc i) (omega arith)) in
    let first = h 0 (omega arith) in
    (first.0 ∷ r.0, omega (arith, r.1), at first.0 r.0 first.1 r.2)
  where
    at : (x : ℕ) (xs : List ℕ) → P 0 x → ((i : ℕ) → i < n → P (suc i) (get_or xs i 0)) → (i : ℕ) → i < suc n → P i (get_or (x ∷ xs) i 0)
    at x xs a b zero l = a
    at x xs a b (suc i) l = b i (omega arith)

abbrev Valid : List Row → ℕ → Type 0
Valid rows s = s < length rows

abbrev OneClass : List ℕ → ℕ → ℕ → Type 0
OneClass of s t = get_or of s 0 ≡ get_or of t 0

-- a row of each class
IsClassCount-of : (rows : List Row) (of : List ℕ) (n : ℕ) → length of ≡ length rows → All (λ c. c < n) of → ((c : ℕ) → c < n → Contains of c) → IsClassCount (Valid rows) (OneClass of) n
IsClassCount-of rows of n size all used =
    let r = list_from n (λ c s. (s < length rows) × (get_or of s 0 ≡ c)) (λ c k. let w = used c k in (w.0, (omega (arith, w.1, size), get_or_default of w.0 0 c w.1 ∙ w.2))) in
    let at : (i z : ℕ) → i < length r.0 → (get_or r.0 i z < length rows) × (get_or of (get_or r.0 i z) 0 ≡ i) = λ i z l. rw (get_or_default r.0 i z 0 l) (r.2 i (omega (arith, r.1))) in
    record {
      members = r.0;
      count = r.1;
      valid = λ i z l. (at i z l).0;
      apart = λ i j z l k e.
          let same : i ≡ j = sym (at i z (omega arith)).1 ∙ e ∙ (at j z k).1 in
          omega arith;
      covers = λ s l.
          let below = All-get_or (λ c. c < n) of s 0 (omega (arith, size)) all in
          let room : get_or of s 0 < length r.0 = omega (arith, r.1, below) in
          (get_or of s 0, room, sym (at (get_or of s 0) s room).1);
    }

-- rows of different classes do not act alike
pub HasMoreClasses-of : (rows : List Row) (of : List ℕ) (n limit : ℕ) → length of ≡ length rows → All (λ c. c < n) of → ((c : ℕ) → c < n → Contains of c)
    → ((s t : ℕ) → s < length rows → t < length rows → IsAlike (row_term rows s) (row_term rows t) → get_or of s 0 ≡ get_or of t 0) → limit < n → HasMoreClasses rows limit
HasMoreClasses-of rows of n limit size all used alike l =
    let c = IsClassCount-of rows of n size all used in
    record {
      members = c.members;
      more = omega (arith, c.count);
      valid = c.valid;
      apart = λ i j z k g e. c.apart i j z k g (alike _ _ (c.valid i z (omega arith)) (c.valid j z g) e);
    }

-- where rows of one class act alike, there are no more classes than those
pub not-HasMoreClasses-of : (rows : List Row) (of : List ℕ) (n limit : ℕ) → length of ≡ length rows → All (λ c. c < n) of → ((c : ℕ) → c < n → Contains of c)
    → ((s t : ℕ) → s < length rows → t < length rows → get_or of s 0 ≡ get_or of t 0 → IsAlike (row_term rows s) (row_term rows t)) → n ≤ limit → ¬ HasMoreClasses rows limit
not-HasMoreClasses-of rows of n limit size all used alike l more =
    let most = apart-le 0 (Valid rows) (OneClass of) (λ s t e. sym e) (λ s t u e f. e ∙ f) more.members n more.valid
    (λ i j k g e. more.apart i j 0 k g (alike _ _ (more.valid i 0 (omega arith)) (more.valid j 0 g) e))
    (IsClassCount-of rows of n size all used) in
    omega (arith, most, more.more)

-- however far the refinement has come
pub HasMoreClasses-from : (rows : List Row) (p : Partition) (limit : ℕ) → IsRefining rows p → limit < length p.known.items → HasMoreClasses rows limit
HasMoreClasses-from rows p limit h l = HasMoreClasses-of rows p.of.items (length p.known.items) limit h.count h.tallied.below h.used h.alike l

-- where no row is dirty, there are no more classes than those
pub not-HasMoreClasses : (d : ℕ) (rows : List Row) → IsMachine d rows → (p : Partition) (limit : ℕ) → IsRefining rows p → IsQueued p [] → length p.known.items ≤ limit → ¬ HasMoreClasses rows limit
not-HasMoreClasses d rows m p limit h q l = not-HasMoreClasses-of rows p.of.items (length p.known.items) limit h.count h.tallied.below h.used (alike_from_clean d rows m p h (clean_from_none d rows m p h q)) l

-- the same of a guess
pub HasMoreClasses-guessed : (rows : List Row) (of : List ℕ) (n limit : ℕ) → IsGuess rows of n → limit < n → HasMoreClasses rows limit
HasMoreClasses-guessed rows of n limit h l = HasMoreClasses-of rows of n limit h.size h.below h.used h.alike l

pub not-HasMoreClasses-guessed : (d : ℕ) (rows : List Row) → IsMachine d rows → (of : List ℕ) (n limit : ℕ) → IsGuess rows of n → IsStable rows of → n ≤ limit → ¬ HasMoreClasses rows limit
not-HasMoreClasses-guessed d rows m of n limit h stable l = not-HasMoreClasses-of rows of n limit h.size h.below h.used (alike_from_stable d rows m of stable) l
