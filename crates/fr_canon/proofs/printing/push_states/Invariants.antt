use Rattle.std.proofs.Common.{◌≡◌, ◌++◌, List, take}
use Rattle.fr_model.specs.Automata.{State, IsAutomaton}
use Rattle.fr_model.specs.Canonical.{code_of}
use Rattle.fr_alphabet.proofs.CycleTexts.{Keeps}
use Rattle.fr_canon.specs.Texts.{states_text}
use Rattle.fr_canon.proofs.printing.push_states.Given as goal

abbrev pub invariant-loop-k : goal.invariant-loop-k
invariant-loop-k l = record {
  kept : Keeps l.fn.out.items l.out.items;
  text : (qs : List State) → IsAutomaton l.a qs → l.numbers ≡ code_of qs → l.out.items ≡ l.fn.out.items ++ states_text 1 (take l.k qs);
}
