use Rattle.std.proofs.Common.{rules, arith, ℕ, ◌≡◌, ◌+◌, ◌%◌, ◌<◌, ◌∙◌, List, length, get_or}
use Rattle.std.proofs.lemmas.List.{get_or_default}
use Rattle.std.proofs.lemmas.Nat.{mod_below}
use Rattle.fr_store.specs.Blocks.{code_at}
use Rattle.fr_store.proofs.TableLaws.{walk-ends, held-lt_rows}
use Rattle.fr_store.proofs.index.Index.search.Goals as goal

pub has_code-requires : goal.has_code-requires
has_code-requires c =
    let b = c.args.blocks.now in
    let s = c.args.self.now in
    let code : ℕ → List ℕ = code_at b.alphabet b.rows.items b.places.items in
    let cell = (c.home-start.result + c.loop-steps.steps) % c.len-cells.result in
    let size : c.len-cells.result ≡ length s.cells.items = search rules in
    let below : cell < c.len-cells.result = mod_below (c.home-start.result + c.loop-steps.steps) c.len-cells.result (omega (arith, c.loop-steps-test.true)) in
    let within : cell < length s.cells.items = omega (arith, below, size) in
    let held : c.index-held.result.now ≡ get_or s.cells.items cell 0 = c.index-held.ensures ∙ get_or_default s.cells.items cell c.index-held.result.now 0 within in
    held-lt_rows code (length b.rows.items) s.handles.items s.cells.items c.requires.distinct c.requires.table cell c.index-held.result.now within held (omega (arith, c.if-held-eq0.false))

pub unreachable-requires : goal.unreachable-requires
unreachable-requires c =
    let b = c.args.blocks.now in
    let s = c.args.self.now in
    let code : ℕ → List ℕ = code_at b.alphabet b.rows.items b.places.items in
    let size : c.len-cells.result ≡ length s.cells.items = search rules in
    walk-ends code s.handles.items s.cells.items c.requires.table (length b.rows.items) c.args.desk.now.wanted c.requires.distinct c.requires.room (λ i l. c.loop-steps.invariant.passed i (omega (arith, l, size, c.loop-steps-test.false)))
