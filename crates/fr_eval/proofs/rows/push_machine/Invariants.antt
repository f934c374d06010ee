use Rattle.std.proofs.Common.{◌≡◌, ◌++◌, ◌∷◌, [], take, length}
use Rattle.std.specs.Prelude.{codes}
use Rattle.std.specs.Fmt.{decimal}
use Rattle.fr_machine.specs.Rows.{states_of}
use Rattle.fr_canon.specs.Texts.{states_text}
use Rattle.fr_eval.proofs.rows.push_machine.Given as goal

abbrev pub invariant-loop-k : goal.invariant-loop-k
invariant-loop-k l = record {
  rows : l.rows ≡ l.m.rows;
  text : l.out.items ≡ (((l.fn.out.items ++ codes "states ") ++ decimal (length l.rows)) ++ 10 ∷ []) ++ states_text 1 (states_of (take l.k l.rows));
}
