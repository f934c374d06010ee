-- A handle that is entered anew in a hash table, where those before it stand.
use Rattle.std.proofs.Common.{ℕ, ◌≡◌, ◌≢◌, ◌+◌, ◌-◌, ◌<◌, List, length, get_or, set, take, sym, ◌∙◌, ap, subst, arith, true}
use Rattle.std.proofs.lemmas.List.{get_or-take, length-take-le, take_more}
use Rattle.fr_canon.specs.Codes.{home_of}
use Rattle.fr_store.specs.Index.{holds, cell_at, AreDistinct, AreFull, IsFirstEmpty, IsGap, IsTable}
use Rattle.fr_store.proofs.IndexLaws.{holds_at}
use Rattle.fr_store.proofs.TableLaws.{IsGiven-new, cell_at-lt, walk-ends}

module _ (code : ℕ → List ℕ) (rows : ℕ) (handles cells : List ℕ) (k : ℕ) (d : AreDistinct code rows handles) (t : IsTable code (take k handles) cells) (few : rows < length cells) (next : k < length handles) where
  abbrev front : List ℕ
  front = take k handles

  abbrev new : ℕ
  new = get_or handles k 0

  length-front : length front ≡ k
  length-front = length-take-le k handles (omega (arith, next))

  front_at : (i : ℕ) → i < length front → get_or front i 0 ≡ get_or handles i 0
  front_at i l = get_or-take k handles i 0 (let n = length-front in omega (arith, l, n))

  distinct : AreDistinct code rows front
  distinct = record {
    within = λ i l. (let n = length-front in let e = front_at i l in let w = d.within i (omega (arith, l, n, next)) in omega (arith, e, w));
    apart = λ i j l m e. (let n = length-front in d.apart i j l (omega (arith, m, n, next)) (ap code (sym (front_at i (omega (arith, l, m)))) ∙ e ∙ ap code (front_at j m)));
  }

  -- the handles before it have other codes
  apart_from_new : (n : ℕ) → holds front n ≡ true → code n ≢ code new
  apart_from_new n h e =
      let i = holds_at front n h in
      let size = length-front in
      d.apart i.0 k (omega (arith, i.1, size)) next (ap code (sym (front_at i.0 i.1) ∙ i.2) ∙ e)

  other_code : (c : ℕ) → c < length cells → get_or cells c 0 ≢ 0 → code (get_or cells c 0 - 1) ≢ code new
  other_code c l n = apart_from_new (get_or cells c 0 - 1) (t.valid c l n)

  some : 0 < length cells
  some = omega (arith, few)

  met_lt : (start i : ℕ) → cell_at (length cells) start i < length cells
  met_lt start i = cell_at-lt (length cells) start i some

  pub not-AreFull : ¬ AreFull cells
  not-AreFull full =
      let start = home_of (code new) (length cells) in
      walk-ends code front cells t rows (code new) distinct few (λ i l. (full (cell_at (length cells) start i) (met_lt start i), other_code (cell_at (length cells) start i) (met_lt start i) (full (cell_at (length cells) start i) (met_lt start i))))

  pub new_lt : new < rows
  new_lt = d.within k next

  pub IsTable-reentered : (cell : ℕ) → IsFirstEmpty cells (home_of (code new) (length cells)) cell → IsTable code (take (k + 1) handles) (set cells cell (new + 1))
  IsTable-reentered cell f =
      let start = home_of (code new) (length cells) in
      let gap : IsGap code cells (code new) cell = record {
        steps = f.steps;
        is = f.is;
        empty = ap (λ c. get_or cells c 0) (sym f.is) ∙ f.empty;
        passed = λ i l. (f.passed i l, other_code (cell_at (length cells) start i) (met_lt start i) (f.passed i l));
      } in
      let P : List ℕ → Type 0 = λ hs. IsTable code hs (set cells cell (new + 1)) in
      subst P (sym (take_more handles k 0 next)) (IsGiven-new code front cells t new cell some gap rows distinct new_lt).table
