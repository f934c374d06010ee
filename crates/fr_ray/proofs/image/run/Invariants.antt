use Rattle.std.proofs.Common.{◌≡◌, ◌+◌, ◌<◌, ◌≤◌, ◌++◌, length, drop}
use Rattle.std.specs.Prelude.{vec_len, vec_capacity}
use Rattle.fr_model.specs.Terms.{act}
use Rattle.fr_model.specs.Automata.{state_after}
use Rattle.fr_machine.specs.Rows.{row_term, states_of}
use Rattle.fr_ray.proofs.image.run.Given as goal

abbrev pub invariant-loop-x : goal.invariant-loop-x
invariant-loop-x l = record {
  in_range : l.at < length l.machine.rows;
  image : l.letters.items ++ act (row_term l.machine.rows l.at) (drop l.x-index l.word) ≡ l.fn.letters.items ++ act (row_term l.machine.rows l.row) l.word;
  room : vec_len l.letters + length l.word ≤ vec_capacity l.letters + l.x-index;
  behind : state_after (states_of l.machine.rows) l.at (drop l.x-index l.word) ≡ state_after (states_of l.machine.rows) l.row l.word;
}
