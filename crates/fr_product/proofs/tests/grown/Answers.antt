use Rattle.std.proofs.Common.{List, [], sym, ap, subst, ◌∙◌, arith}
use Rattle.std.proofs.lemmas.List.{get_or_append_left}
use Rattle.fr_machine.specs.declared.row.Row.{Row}
use Rattle.fr_machine.specs.Rows.{row_at}
use Rattle.fr_machine.specs.Rows.{IsLonger}
use Rattle.fr_product.proofs.tests.grown.Goals as goal

pub loop-first-preserved : goal.loop-first-preserved
loop-first-preserved c =
    let none : Row = record { perm = []; next = [] } in
    record {
      least = omega (arith, c.loop-first.invariant.least, c.in_ok-push.ensures.len, c.push.new.self.ok.0, c.loop-first.rows.ok.0);
      same = λ s l. ap (λ rows. row_at rows s) c.in_ok-push.ensures.items ∙ get_or_append_left c.loop-first.rows.items _ none s (omega (arith, c.loop-first.invariant.least)) ∙ c.loop-first.invariant.same s l;
    }

pub returns-clause-longer : goal.returns-clause-longer
returns-clause-longer c =
    let made = rw c.in_ok-ok_or.ensures.ok_part at c.new.ensures.value in
    let P : List Row → Type 0 = IsLonger c.args.rows.items in
    subst P (sym (ap (λ m. m.rows) made)) c.loop-first.invariant
