-- Which seat has which address, read off the sums.
use Rattle.std.proofs.Common.{◌≡◌, ◌≢◌, ℕ, suc, ◌+◌, ◌≤◌, ◌<◌, List, [], ◌∷◌, refl, ap, arith}
use mathlib.Core.Option.{some}
use lib.ListN.{get_elem?}
use native.Mathlib.Decide.{dec_le}
use Rattle.std.proofs.Math.Nat.{lt_of_not-le}
use Rattle.fr_line.specs.declared.Branch.{Branch}
use Rattle.fr_line.specs.Lines.{only_if, below, here, count, total, Whole, IsTree, IsLive, cut}
use Rattle.fr_line.specs.Laws.{HasLine}
use Rattle.fr_line.proofs.Totals.{total_at, total_two, total_one, alone}
use Rattle.fr_line.proofs.Weaving.{same_self, below_yes, below_no, untouched, here_cut, once, counted, head_of}

-- where a sum is not 0, one of its parts is not
found : {V : Type 0} (f : V → ℕ) (views : List V) → 0 < total f views → (i : ℕ) × (v : V) × (get_elem? views i ≡ some v) × (0 < f v)
found f [] h = absurd (omega arith)
found {V} f (x ∷ xs) h = go (dec_le 1 (f x)) (found f xs)
  where
    go : Dec (1 ≤ f x) → (0 < total f xs → (i : ℕ) × (v : V) × (get_elem? xs i ≡ some v) × (0 < f v)) → (i : ℕ) × (v : V) × (get_elem? (x ∷ xs) i ≡ some v) × (0 < f v)
    go (yes le) later = (0, x, refl, omega arith)
    go (no gt) later = let r = later (let l = lt_of_not-le gt in omega arith) in (suc r.0, r.1, r.2, r.3)

-- a count that is not 0 is that of an address that stands there
stands : (a : List ℕ) (l : List Branch) → 0 < count a l → 0 < here a l
stands a l h = go (dec_le 1 (here a l))
  where
    go : Dec (1 ≤ here a l) → 0 < here a l
    go (yes le) = omega arith
    go (no gt) = let l0 = lt_of_not-le gt in let z = untouched a l (omega arith) in absurd (omega arith)

pub here_once : (lines : List (List Branch)) (a : List ℕ) (i : ℕ) (l : List Branch) → IsTree lines → HasLine lines i l → here a l ≤ 1
here_once lines a i l tree at = let o = once (λ (x : List Branch). x) lines tree a in let t = total_at (here a) lines i l at in omega arith

pub here_one_seat : (lines : List (List Branch)) (a : List ℕ) (i j : ℕ) (l m : List Branch) → IsTree lines → HasLine lines i l → HasLine lines j m → 0 < here a l → 0 < here a m → j ≡ i
here_one_seat lines a i j l m tree at at' h h' = go (dec_le j i) (dec_le i j)
  where
    apart : j ≢ i → ⊥
    apart n = let o = once (λ (x : List Branch). x) lines tree a in let t = total_two (here a) lines i j l m n at at' in omega arith

    go : Dec (j ≤ i) → Dec (i ≤ j) → j ≡ i
    go (yes le) (yes ge) = omega arith
    go (no gt) e = let g = lt_of_not-le gt in absurd (apart (λ p. omega arith))
    go (yes le) (no lt) = let g = lt_of_not-le lt in absurd (apart (λ p. omega arith))

pub here_root : (lines : List (List Branch)) → IsTree lines → (i : ℕ) × (l : List Branch) × HasLine lines i l × (0 < here [] l)
here_root lines tree = let r = tree.root in found (here []) lines (omega arith)

pub here_child : (lines : List (List Branch)) (k : ℕ) (a : List ℕ) (i : ℕ) (l : List Branch) → IsTree lines → HasLine lines i l → k < count a l → (j : ℕ) × (m : List Branch) × HasLine lines j m × (0 < here (k ∷ a) m)
here_child lines k a i l tree at lt =
    let c = tree.child k a in
    let t = total_at (count a) lines i l at in
    let b = below_yes k (total (count a) lines) (omega arith) in
    found (here (k ∷ a)) lines (omega arith)

pub count_parent : (lines : List (List Branch)) (k : ℕ) (a : List ℕ) (j : ℕ) (m : List Branch) → IsTree lines → HasLine lines j m → 0 < here (k ∷ a) m → (i : ℕ) × (l : List Branch) × HasLine lines i l × (k < count a l)
count_parent lines k a j m tree at h = go (dec_le (suc k) (total (count a) lines))
  where
    go : Dec (k < total (count a) lines) → (i : ℕ) × (l : List Branch) × HasLine lines i l × (k < count a l)
    go (no ge) =
        let c = tree.child k a in
        let t = total_at (here (k ∷ a)) lines j m at in
        let b = below_no k (total (count a) lines) (let g = lt_of_not-le ge in omega arith) in
        absurd (omega arith)
    go (yes lt) =
        let f = found (count a) lines (omega arith) in
        let s = stands a f.1 f.3 in
        let o = once (λ (x : List Branch). x) lines tree a in
        let t = total_at (here a) lines f.0 f.1 f.2 in
        let all = alone (here a) (count a) (untouched a) lines f.0 f.1 f.2 (omega arith) in
        (f.0, f.1, f.2, omega arith)

-- the new child stands in no line before the split
pub cut_not_whole : (lines : List (List Branch)) (i : ℕ) (l : List Branch) → HasLine lines i l → IsLive l → IsTree lines → ¬ Whole (cut l)
cut_not_whole lines i l at live tree whole = go l (head_of l live).0 (head_of l live).1 (head_of l live).2 at whole
  where
    go : (l : List Branch) (b : Branch) (bs : List Branch) → l ≡ b ∷ bs → HasLine lines i l → Whole (cut l) → ⊥
    go [] b bs e at whole = absurd (let n = ap (λ (x : List Branch). total (λ _. 1) x) e in omega arith)
    go (b ∷ bs) _ _ _ at whole =
        let a : List ℕ = b.address in
        let all = counted (λ (x : List Branch). x) lines i (b ∷ bs) b bs at refl tree in
        let c = tree.child b.count a in
        let n : below b.count (total (count a) lines) ≡ 0 = below_no b.count (total (count a) lines) (omega arith) in
        let more : count a (cut (b ∷ bs)) ≡ suc b.count + count a bs = ap (λ t. only_if t (suc b.count) + count a bs) (same_self a) in
        let h = whole.child b.count a (omega arith) in
        let t = total_at (here (b.count ∷ a)) lines i (b ∷ bs) at in
        let e = here_cut (b.count ∷ a) (b ∷ bs) in
        absurd (omega arith)

-- a line that has all there is, is whole
pub whole_of_alone : (lines : List (List Branch)) (i : ℕ) (l : List Branch) → HasLine lines i l → ((j : ℕ) (m : List Branch) → j ≢ i → HasLine lines j m → m ≡ []) → IsTree lines → Whole l
whole_of_alone lines i l at none tree = record {
  root = let e = total_one (here []) lines i l at (λ j m other at'. ap (here []) (none j m other at')) in let r = tree.root in omega arith;
  child = λ k a lt.
      let e = total_one (here (k ∷ a)) lines i l at (λ j m other at'. ap (here (k ∷ a)) (none j m other at')) in
      let t = total_at (count a) lines i l at in
      let b = below_yes k (total (count a) lines) (omega arith) in
      let c = tree.child k a in
      omega arith;
}
