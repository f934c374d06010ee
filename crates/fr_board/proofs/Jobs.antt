-- The jobs of pieces, counted.
use Rattle.std.proofs.Common.{◌≡◌, ◌≢◌, ℕ, zero, suc, ◌+◌, ◌-◌, ◌*◌, ◌<◌, ◌≤◌, min, Bool, true, false, nat_eq, nat_lt, List, [], ◌∷◌, refl, sym, ap, ◌∙◌, arith}
use Rattle.std.proofs.lemmas.Bool.Decides.{nat_tests}
use Rattle.std.proofs.Math.Nat.{mul-le-mul_right}
use mathlib.Core.Logic.{dite}
use native.Mathlib.Decide.{ℕ_discrete, dec_le}
use Rattle.fr_line.specs.Lines.{only_if, below, Whole}
use Rattle.fr_board.specs.declared.notes.Drawn.{Drawn}
use Rattle.fr_board.specs.Dealing.{times, IsSettled}
use Rattle.fr_board.specs.Boards.{counted, jobs_of, jobs_in}
use Rattle.fr_board.specs.Laws.{JobsAreDrawnOnce}
use Rattle.fr_board.proofs.Keeps.{times_append}

hit : (k x : ℕ) → k ≡ x → only_if (nat_eq k x) 1 ≡ 1
hit k x e = ap (λ (t : Bool). only_if t 1) (let t : nat_eq k x ≡ true = grind (arith, nat_tests, e) in t)

miss : (k x : ℕ) → k ≢ x → only_if (nat_eq k x) 1 ≡ 0
miss k x e = ap (λ (t : Bool). only_if t 1) (let t : nat_eq k x ≡ false = grind (arith, nat_tests, e) in t)

inside : (k n : ℕ) → k < n → below k n ≡ 1
inside k n l = ap (λ (t : Bool). only_if t 1) (let t : nat_lt k n ≡ true = grind (arith, nat_tests, l) in t)

outside : (k n : ℕ) → n ≤ k → below k n ≡ 0
outside k n l = ap (λ (t : Bool). only_if t 1) (let t : nat_lt k n ≡ false = grind (arith, nat_tests, l) in t)

-- a number before those counted, among them, and behind them
before : (k from n : ℕ) → k < from → times k (counted from n) ≡ 0
before k from zero l = refl
before k from (suc n) l = let a = miss k from (omega arith) in let b = before k (suc from) n (omega arith) in omega arith

among : (k from n : ℕ) → from ≤ k → k < from + n → times k (counted from n) ≡ 1
among k from zero l m = absurd (omega arith)
among k from (suc n) l m = dite (ℕ_discrete k from)
    (λ e. let a = hit k from e in let b = before k (suc from) n (omega arith) in omega arith)
    (λ o. let a = miss k from o in let b = among k (suc from) n (omega arith) (omega arith) in omega arith)

behind : (k from n : ℕ) → from + n ≤ k → times k (counted from n) ≡ 0
behind k from zero l = refl
behind k from (suc n) l = let a = miss k from (omega arith) in let b = behind k (suc from) n (omega arith) in omega arith

-- the piece of a job
piece_of : (grain n k : ℕ) → k < n * grain → (q : ℕ) × (q < n) × (q * grain ≤ k) × (k < q * grain + grain)
piece_of grain zero k l = absurd (omega arith)
piece_of grain (suc n) k l = dite (dec_le (n * grain) k)
    (λ y. (n, omega arith, y, omega arith))
    (λ o. let r = piece_of grain n k (omega arith) in (r.0, (let a = r.1 in omega arith), r.2, r.3))

module _ (grain jobs k : ℕ) where
  -- a job stands once in its own piece, and in no other
  times_piece : (q p : ℕ) → k < jobs → q * grain ≤ k → k < q * grain + grain → times k (jobs_of grain jobs p) ≡ only_if (nat_eq q p) 1
  times_piece q p small lo hi = dite (ℕ_discrete q p)
      (λ e.
      let a = hit q p e in
      let m : q * grain ≡ p * grain = ap (λ (x : ℕ). x * grain) e in
      let b = among k (p * grain) (min (p * grain + grain) jobs - p * grain) (omega arith) (omega arith) in b ∙ sym a)
      (λ o.
      let a = miss q p o in
      dite (dec_le (suc p) q)
      (λ up.
      let m : suc p * grain ≤ q * grain = mul-le-mul_right grain up in
      behind k (p * grain) (min (p * grain + grain) jobs - p * grain) (omega arith) ∙ sym a)
      (λ no.
      let m : suc q * grain ≤ p * grain = mul-le-mul_right grain (let h : suc q ≤ p = omega arith in h) in
      before k (p * grain) (min (p * grain + grain) jobs - p * grain) (omega arith) ∙ sym a))

  times_jobs : (q : ℕ) → k < jobs → q * grain ≤ k → k < q * grain + grain → (ps : List ℕ) → times k (jobs_in grain jobs ps) ≡ times q ps
  times_jobs q small lo hi [] = refl
  times_jobs q small lo hi (p ∷ ps) = let a = times_append k (jobs_of grain jobs p) (jobs_in grain jobs ps) in let b = times_piece q p small lo hi in let c = times_jobs q small lo hi ps in omega arith

  times_past : jobs ≤ k → (ps : List ℕ) → times k (jobs_in grain jobs ps) ≡ 0
  times_past past [] = refl
  times_past past (p ∷ ps) =
      let a = times_append k (jobs_of grain jobs p) (jobs_in grain jobs ps) in
      let c = times_past past ps in
      let b : times k (jobs_of grain jobs p) ≡ 0 = dite (dec_le (p * grain) k)
      (λ y. behind k (p * grain) (min (p * grain + grain) jobs - p * grain) (omega arith))
      (λ o. before k (p * grain) (min (p * grain + grain) jobs - p * grain) (omega arith)) in
      omega arith

below_most : (k n : ℕ) → below k n ≤ 1
below_most k n = dite (dec_le (suc k) n) (λ y. let a = inside k n y in omega arith) (λ o. let a = outside k n (omega arith) in omega arith)

all_pieces : (v : Drawn) → IsSettled v → Whole v.line → v.seen ≡ v.limit → (p : ℕ) → times p v.pieces ≡ below p v.limit
all_pieces v s whole met p = s.whole whole p ∙ ap (below p) (sym s.met ∙ met)

pub jobs_are_drawn : JobsAreDrawnOnce
jobs_are_drawn = record {
  once = λ jobs grain v count s k. dite (dec_le (suc k) jobs)
      (λ y.
      let c = count.0 in
      let q = piece_of grain v.limit k (omega arith) in
      let a = times_jobs grain jobs k q.0 y q.2 q.3 v.pieces in
      let b = s.once q.0 in
      let d = below_most q.0 v.last in
      let e = inside k jobs y in
      omega arith)
      (λ o. let a = times_past grain jobs k (omega arith) v.pieces in omega arith);
  pieces = all_pieces;
  all = λ jobs grain v count s whole met k. dite (dec_le (suc k) jobs)
      (λ y.
      let c = count.0 in
      let q = piece_of grain v.limit k (omega arith) in
      let a = times_jobs grain jobs k q.0 y q.2 q.3 v.pieces in
      let b = all_pieces v s whole met q.0 in
      let d = inside q.0 v.limit q.1 in
      let e = inside k jobs y in
      omega arith)
      (λ o. let a = times_past grain jobs k (omega arith) v.pieces in let e = outside k jobs (omega arith) in omega arith);
}
