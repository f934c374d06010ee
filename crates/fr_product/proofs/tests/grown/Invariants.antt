use Rattle.fr_machine.specs.Rows.{IsLonger}
use Rattle.fr_product.proofs.tests.grown.Given as goal

abbrev pub invariant-loop-first : goal.invariant-loop-first
invariant-loop-first l = IsLonger l.fn.rows.items l.rows.items
