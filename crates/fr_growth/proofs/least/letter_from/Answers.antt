use Rattle.std.proofs.Common.{arith, ◌≡◌, ◌+◌, ◌∙◌, ap, sym, inl, inr}
use Rattle.std.proofs.lemmas.Bool.{cases_lt}
use Rattle.fr_model.specs.Automata.{next_state}
use Rattle.fr_machine.specs.Machine.{MachineView}
use Rattle.fr_machine.specs.Rows.{states_of}
use Rattle.fr_growth.specs.Bits.{has_bit}
use Rattle.fr_growth.proofs.least.letter_from.Goals as goal
use Rattle.fr_growth.proofs.least.letter_from.Goals.{else-x-least-via-then-x-least+else-has, else-x-least-via-else-x-least}

pub returns-then-has : goal.returns-then-has
returns-then-has c =
    let to : c.next.result ≡ next_state (states_of c.args.m.now.rows) c.args.row (c.loop-x.x + 1) = rw c.machine-machine.ensures.value at c.next.ensures.value in
    record {
      letter = (omega arith, omega (arith, ap (λ (v : MachineView). v.alphabet) c.machine-machine.ensures.value, c.loop-x-test.true));
      from = c.if-x-least.true;
      inside = ap (has_bit c.args.set.now) (sym to) ∙ sym c.if-has.ensures;
      first = λ y a b k. c.loop-x.invariant y a (omega arith) k;
    }

pub loop-x-preserved : goal.loop-x-preserved
loop-x-preserved c = λ y a b k. elim (cases_lt y (c.loop-x.x + 1)) [
  | inl less ↦ c.loop-x.invariant y a (omega arith) k
  | inr more ↦
      let at : y ≡ c.loop-x.x + 1 = omega arith in
      elim c.else-x-least.branch [
        | else-x-least-via-then-x-least+else-has w ↦
            let to : w.next.result ≡ next_state (states_of c.args.m.now.rows) c.args.row (c.loop-x.x + 1) = rw c.machine-machine.ensures.value at w.next.ensures.value in
            rw at (ap (has_bit c.args.set.now) (sym to) ∙ sym w.if-has.ensures)
        | else-x-least-via-else-x-least w ↦ absurd (omega (arith, w.if-x-least.false))
      ]
]

pub returns : goal.returns
returns c = λ y a k. c.loop-x.invariant y a (omega (arith, k.1, c.loop-x-test.false, ap (λ (v : MachineView). v.alphabet) c.machine-machine.ensures.value)) k
