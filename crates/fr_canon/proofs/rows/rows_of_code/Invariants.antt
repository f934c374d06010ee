use Rattle.std.proofs.Common.{◌≡◌, length}
use Rattle.std.specs.Prelude.{vec_capacity}
use Rattle.fr_canon.proofs.CodeRowLaws.{AreRowsTold}
use Rattle.fr_canon.proofs.rows.rows_of_code.Given as goal

abbrev pub invariant-loop-k : goal.invariant-loop-k
invariant-loop-k l = record {
  told : AreRowsTold l.a l.code l.out.items l.k;
  count : length l.out.items ≡ l.k;
  room : vec_capacity l.out ≡ vec_capacity l.fn.out;
}
