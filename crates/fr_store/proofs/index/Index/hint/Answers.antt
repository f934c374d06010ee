use Rattle.std.proofs.Common.{rules, arith, ℕ, ◌≡◌, ◌-◌, ◌<◌, ◌∙◌, ap, sym, true, List, length, get_or}
use Rattle.std.proofs.lemmas.List.{get_or_default}
use Rattle.fr_store.specs.Blocks.{code_at}
use Rattle.fr_store.specs.Index.{holds}
use Rattle.fr_store.proofs.IndexLaws.{handle-lt_rows, AreHints-set}
use Rattle.fr_store.proofs.VecLaws.{code-next}
use Rattle.fr_store.proofs.index.Index.hint.Goals as goal

pub overflow_add-index : goal.overflow_add-index
overflow_add-index c =
    let s = c.args.self.now in
    let b = c.args.blocks.now in
    let code : ℕ → List ℕ = code_at b.alphabet b.rows.items b.places.items in
    let len : c.len.result ≡ length s.links.items = search rules in
    let l : c.next-known.result < length s.links.items = omega (arith, len, c.if-known-len.true) in
    let at : c.index.result.now ≡ get_or s.links.items c.next-known.result 0 = c.index.ensures ∙ get_or_default s.links.items c.next-known.result c.index.result.now 0 l in
    let below = handle-lt_rows code (length b.rows.items) s.handles.items c.requires.index.distinct (get_or s.links.items c.next-known.result 0) (c.requires.index.is_handle c.next-known.result l) in
    let few = b.few in
    record { fits = omega (arith, at, below, few) }

pub returns-then-next-start-clause-hints : goal.returns-then-next-start-clause-hints
returns-then-next-start-clause-hints c =
    let s = c.args.self.now in
    let b = c.args.blocks.now in
    let code : ℕ → List ℕ = code_at b.alphabet b.rows.items b.places.items in
    let len : c.len.result ≡ length s.links.items = search rules in
    let l : c.next-known.result < length s.links.items = omega (arith, len, c.if-known-len.true) in
    let at : c.index.result.now ≡ get_or s.links.items c.next-known.result 0 = c.index.ensures ∙ get_or_default s.links.items c.next-known.result c.index.result.now 0 l in
    let held : holds s.handles.items c.index.result.now ≡ true = ap (holds s.handles.items) at ∙ c.requires.index.is_handle c.next-known.result l in
    let same : code c.index.result.now ≡ code c.next-next.result =
    ap code at ∙ c.requires.index.linked c.next-known.result l ∙ ap code c.next-known.ensures.value
    ∙ code-next b.alphabet b.rows.items b.places.items b.are_blocks c.args.handle c.args.row c.args.x c.requires.handle c.requires.row c.requires.letter c.requires.same ∙ sym (ap code c.next-next.ensures.value) in
    let within : c.next-next.result - c.args.start < length c.args.hints.now.items = omega (arith, c.next-next.ensures.row, c.requires.block, c.requires.room, c.if-next-start.true) in
    AreHints-set code s.handles.items c.args.start c.args.hints.now.items c.next-next.result c.index.result.now (omega (arith, c.if-next-start.true)) within held same c.requires.hints
