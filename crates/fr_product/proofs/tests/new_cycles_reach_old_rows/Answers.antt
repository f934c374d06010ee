use Rattle.std.proofs.Common.{ℕ, List, sym, subst}
use Rattle.fr_machine.specs.declared.row.Row.{Row}
use Rattle.fr_product.specs.Growing.{AreLimitsOf}
use Rattle.fr_product.proofs.tests.new_cycles_reach_old_rows.Goals as goal

pub loop-nexts-init : goal.loop-nexts-init
loop-nexts-init g c =
    let P : List Row → Type 0 = λ rows. AreLimitsOf c.in_ok-a.a rows c.new-limits.result in
    subst P (sym c.new-rows.ensures.items) (c.new-limits.ensures c.in_ok-a.a)

pub extend-requires : goal.extend-requires
extend-requires g c =
    let P : ℕ → Type 0 = λ d. AreLimitsOf d c.loop-nexts.rows.items c.loop-nexts.limits in
    (c.loop-nexts.rows.items, subst P (sym c.in_ok-m.ensures.alphabet) c.loop-nexts.invariant, c.in_ok-m.ensures.longer)
