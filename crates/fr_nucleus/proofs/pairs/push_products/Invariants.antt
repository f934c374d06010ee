use Rattle.std.proofs.Common.{◌-◌, ◌≤◌, length}
use Rattle.fr_machine.specs.Rows.{IsLonger}
use Rattle.fr_nucleus.specs.Products.{AreProductRows}
use Rattle.fr_nucleus.proofs.pairs.push_products.Given as goal

abbrev pub invariant-loop-rows : goal.invariant-loop-rows
invariant-loop-rows l = record {
  each : AreProductRows l.members.rows l.sections.rows l.rows.items;
  longer : IsLonger l.fn.rows.items l.rows.items;
  few : length l.rows.items ≤ l.count;
}

abbrev pub decreases-loop-rows : goal.decreases-loop-rows
decreases-loop-rows l = l.count - length l.rows.items
