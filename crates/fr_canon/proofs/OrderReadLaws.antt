-- States that are numbered as a walk meets them.
use Rattle.std.proofs.Common.{ℕ, zero, suc, ◌≡◌, ◌+◌, ◌<◌, ◌≤◌, inl, inr, List, [], ◌∷◌, ◌++◌, length, take, get_or, refl, sym, ◌∙◌, ap, subst, arith, append_assoc}
use Rattle.std.specs.Prelude.{fold, max, flat_map}
use Rattle.std.specs.List.{All, Contains}
use Rattle.std.proofs.lemmas.List.{append-nil, take_more}
use Rattle.std.proofs.lemmas.List.Elements.{Contains-append_left, Contains-push, All-contains, All-get_or, All-from_get_or, All-head, All-tail}
use Rattle.std.proofs.lemmas.Grind.{flat_map-append}
use Rattle.std.proofs.lemmas.Bool.{cases_lt}
use Rattle.fr_model.specs.Automata.{State, state_at, IsState, IsAutomaton}
use Rattle.fr_classes.specs.Numberings.{IsNumberedFrom}
use Rattle.fr_machine.specs.declared.row.Row.{Row}
use Rattle.fr_machine.specs.Rows.{IsMachine, states_of}
use Rattle.fr_machine.proofs.RowLaws.{state_at_row, row_is}
use Rattle.fr_canon.specs.Readings.{met_before, greatest, IsInOrder, IsFirstOutOfOrder}

-- how many states are met after these numbers
abbrev pub met_with : ℕ → List ℕ → ℕ
met_with c xs = fold (λ n x. max n (suc x)) c xs

numbered_push : (c : ℕ) (xs : List ℕ) (x : ℕ) → IsNumberedFrom c xs → x ≤ met_with c xs → IsNumberedFrom c (xs ++ x ∷ [])
numbered_push c [] x h l = (l, tt)
numbered_push c (y ∷ ys) x h l = (h.0, numbered_push (max c (suc y)) ys x h.1 l)

pub met_with-push : (c : ℕ) (xs : List ℕ) (x : ℕ) → met_with c (xs ++ x ∷ []) ≡ max (met_with c xs) (suc x)
met_with-push c [] x = refl
met_with-push c (y ∷ ys) x = met_with-push (max c (suc y)) ys x

-- one number more
pub met_more : (c n : ℕ) (xs : List ℕ) (i met next : ℕ) → i < length xs → next ≡ get_or xs i 0 → next ≤ met → met ≡ met_with c (take i xs) → IsNumberedFrom c (take i xs) → (max met (suc next) ≡ met_with c (take (i + 1) xs)) × IsNumberedFrom c (take (i + 1) xs)
met_more c n xs i met next l e h m f =
    let more : take (i + 1) xs ≡ take i xs ++ next ∷ [] = take_more xs i 0 l ∙ ap (λ x. take i xs ++ x ∷ []) (sym e) in
    rw more (ap (λ k. max k (suc next)) m ∙ sym (met_with-push c (take i xs) next), numbered_push c (take i xs) next f (omega (arith, h, m)))

-- a number that is too great
pub too_great : (c : ℕ) (xs : List ℕ) (i : ℕ) → i < length xs → met_with c (take i xs) < get_or xs i 0 → ¬ IsNumberedFrom c xs
too_great c [] i l h f = absurd (omega arith)
too_great c (x ∷ xs) zero l h f = omega (arith, f.0, h)
too_great c (x ∷ xs) (suc i) l h f = too_great (max c (suc x)) xs i (omega arith) h f.1

greatest-push : (xs : List ℕ) (x : ℕ) → greatest (xs ++ x ∷ []) ≡ max (greatest xs) x
greatest-push [] x = omega arith
greatest-push (y ∷ ys) x = ap (max y) (greatest-push ys x) ∙ omega arith

pub greatest-le : (xs : List ℕ) (k : ℕ) → Contains xs k → k ≤ greatest xs
greatest-le xs k h = All-contains (λ x. x ≤ greatest xs) xs k (All-from_get_or (λ x. x ≤ greatest xs) xs 0 (each xs)) h
  where
    each : (ys : List ℕ) (i : ℕ) → i < length ys → get_or ys i 0 ≤ greatest ys
    each [] i l = absurd (omega arith)
    each (y ∷ ys) zero l = omega arith
    each (y ∷ ys) (suc i) l = let h = each ys i (omega arith) in omega arith

next_count : (M : List ℕ) (x c : ℕ) → c ≡ suc (greatest M) → max c (suc x) ≡ suc (greatest (M ++ x ∷ []))
next_count M x c e = omega (arith, e, greatest-push M x)

pub numbered_from : (M xs : List ℕ) (c : ℕ) → c ≡ suc (greatest M) → ((y : ℕ) → y < length xs → get_or xs y 0 ≤ suc (greatest (M ++ take y xs))) → IsNumberedFrom c xs
numbered_from M [] c e h = tt
numbered_from M (x ∷ xs) c e h = (
  omega (arith, e, h 0 (omega arith), ap greatest (append-nil M)),
  numbered_from (M ++ x ∷ []) xs (max c (suc x)) (next_count M x c e) (λ y l. rw (append_assoc M (x ∷ []) (take y xs)) (h (suc y) (omega arith))),
)

pub numbered_gives : (M xs : List ℕ) (c : ℕ) → c ≡ suc (greatest M) → IsNumberedFrom c xs → (y : ℕ) → y < length xs → get_or xs y 0 ≤ suc (greatest (M ++ take y xs))
numbered_gives M [] c e h y l = absurd (omega arith)
numbered_gives M (x ∷ xs) c e h zero l = omega (arith, e, h.0, ap greatest (append-nil M))
numbered_gives M (x ∷ xs) c e h (suc y) l = rw (append_assoc M (x ∷ []) (take y xs)) at (numbered_gives (M ++ x ∷ []) xs (max c (suc x)) (next_count M x c e) h.1 y (omega arith))

greatest-met : (M xs : List ℕ) (c : ℕ) → c ≡ suc (greatest M) → met_with c xs ≡ suc (greatest (M ++ xs))
greatest-met M [] c e = e ∙ ap (λ t. suc (greatest t)) (sym (append-nil M))
greatest-met M (x ∷ xs) c e = greatest-met (M ++ x ∷ []) xs (max c (suc x)) (next_count M x c e) ∙ ap (λ t. suc (greatest t)) (append_assoc M (x ∷ []) xs)

all_met_with : (M xs : List ℕ) (c : ℕ) → ((j : ℕ) → j < c → Contains M j) → IsNumberedFrom c xs → (j : ℕ) → j < met_with c xs → Contains (M ++ xs) j
all_met_with M [] c h f j l = rw (append-nil M) (h j l)
all_met_with M (x ∷ xs) c h f j l = rw (append_assoc M (x ∷ []) xs) at (all_met_with (M ++ x ∷ []) xs (max c (suc x)) (λ i k. elim (cases_lt i c) [
  | inl t ↦ Contains-append_left M (x ∷ []) i (h i t)
  | inr t ↦ let e : x ≡ i = omega (arith, k, t, f.0) in (let P : ℕ → Type 0 = λ z. Contains (M ++ x ∷ []) z in subst P e (Contains-push M x))
]) f.1 j l)

met_with-le : (c n : ℕ) (xs : List ℕ) → c ≤ n → All (λ x. x < n) xs → met_with c xs ≤ n
met_with-le c n [] l a = l
met_with-le c n (x ∷ xs) l a = let h = All-head (λ x. x < n) x xs a in met_with-le (max c (suc x)) n xs (omega arith) (All-tail (λ x. x < n) x xs a)

pub met_before-more : (qs : List State) (k : ℕ) → k < length qs → met_before qs (k + 1) ≡ met_before qs k ++ (state_at qs k).next
met_before-more qs k l =
    let f : State → List ℕ = λ q. q.next in
    let z : State = record { perm = []; next = [] } in
    ap (λ t. 0 ∷ flat_map f t) (take_more qs k z l) ∙ ap (λ t. 0 ∷ t) (flat_map-append f (take k qs) (state_at qs k ∷ []) ∙ ap (λ t. flat_map f (take k qs) ++ t) (append-nil (state_at qs k).next))

-- the first states are in order, and so many were met
pub record IsOrderRead (qs : List State) (k met : ℕ) : Type 0 where
  pub few : k ≤ length qs
  pub within : met ≤ length qs
  pub last : met ≡ suc (greatest (met_before qs k))
  pub all_met : (j : ℕ) → j < met → Contains (met_before qs k) j
  pub order : (j : ℕ) → j < k → IsInOrder qs j

pub IsOrderRead-start : (qs : List State) → 1 ≤ length qs → IsOrderRead qs 0 1
IsOrderRead-start qs l = record {
  few = omega arith;
  within = l;
  last = omega arith;
  all_met = λ j h. (let e : 0 ≡ j = omega arith in let P : ℕ → Type 0 = λ z. Contains (0 ∷ []) z in subst P e (Contains-push [] 0));
  order = λ j h. absurd (omega arith);
}

module _ (d : ℕ) (qs : List State) (auto : IsAutomaton d qs) (k met : ℕ) (h : IsOrderRead qs k met) (l : k < length qs) where
  -- a state that was not met
  pub unmet : met ≤ k → IsFirstOutOfOrder qs k
  unmet g = record { state = l; earlier = h.order; fault = λ o. (let m = greatest-le (met_before qs k) k o.met in omega (arith, m, g, h.last)) }

  -- a number that is too great
  pub too_far : (¬ IsNumberedFrom met (state_at qs k).next) → IsFirstOutOfOrder qs k
  too_far none = record { state = l; earlier = h.order; fault = λ o. none (numbered_from (met_before qs k) (state_at qs k).next met h.last o.nexts) }

  pub IsOrderRead-more : k < met → (after : ℕ) → IsNumberedFrom met (state_at qs k).next → after ≡ met_with met (state_at qs k).next → IsOrderRead qs (k + 1) after
  IsOrderRead-more g after f e =
      let M = met_before qs k in
      let xs = (state_at qs k).next in
      let more = met_before-more qs k l in
      let s = All-get_or (IsState d (length qs)) qs k (record { perm = []; next = [] }) l auto in
      let P : List ℕ → Type 0 = λ ys. (j : ℕ) → j < after → Contains ys j in
      let here : IsInOrder qs k = record { met = h.all_met k g; nexts = numbered_gives M xs met h.last f } in
      let Q : ℕ → Type 0 = λ j. IsInOrder qs j in
      record {
        few = omega (arith, l);
        within = omega (arith, e, met_with-le met (length qs) xs h.within s.below);
        last = e ∙ greatest-met M xs met h.last ∙ ap (λ t. suc (greatest t)) (sym more);
        all_met = subst P (sym more) (λ j i. all_met_with M xs met h.all_met f j (omega (arith, i, e)));
        order = λ j i. elim (cases_lt j k) [ inl t ↦ h.order j t | inr t ↦ (let c : k ≡ j = omega (arith, i, t) in subst Q c here) ];
      }

-- the next states of a row
pub next_of_row : (d : ℕ) (rows : List Row) (m : IsMachine d rows) (k : ℕ) (l : k < length rows) (r : Row) (e : r ≡ get_or rows k r) → (state_at (states_of rows) k).next ≡ take d r.next
next_of_row d rows m k l r e = ap (λ q. q.next) (state_at_row d rows m k l r e) ∙ ap (λ n. take n r.next) (row_is d rows m k l r e).permutes.degree
