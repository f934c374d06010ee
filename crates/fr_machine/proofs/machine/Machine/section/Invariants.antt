use Rattle.std.proofs.Common.{◌≡◌, ◌<◌, length, drop}
use Rattle.fr_model.specs.Automata.{state_after}
use Rattle.fr_machine.specs.Rows.{states_of}
use Rattle.fr_machine.proofs.machine.Machine.section.Given as goal

abbrev pub invariant-loop-letter : goal.invariant-loop-letter
invariant-loop-letter l = record {
  in_range : l.at < length l.self.rows;
  rest : state_after (states_of l.self.rows) l.at (drop l.letter-index l.w) ≡ state_after (states_of l.self.rows) l.s l.w;
}
