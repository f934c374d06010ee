use Rattle.std.proofs.Common.{rules, arith, ◌≡◌, ◌∙◌, ap, length, get_or}
use Rattle.fr_store.proofs.TableLaws.{steps_to}
use Rattle.fr_store.proofs.index.Index.first_empty.Goals as goal

pub unreachable-requires : goal.unreachable-requires
unreachable-requires c =
    let cells = c.args.self.now.cells.items in
    let size : c.len-cells.result ≡ length cells = search rules in
    c.requires.some (λ cell l e.
    (let i = steps_to (length cells) c.args.start cell c.requires.start l in
    c.loop-steps.invariant.passed i.0 (omega (arith, i.1, size, c.loop-steps-test.false)) (ap (λ k. get_or cells k 0) i.2 ∙ e)))
