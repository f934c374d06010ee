use Rattle.std.proofs.Common.{rules, arith, ℕ, ◌≡◌, ◌+◌, ◌∙◌, ap, sym, subst, length, get_or, set, take, List}
use Rattle.std.proofs.lemmas.List.{get_or_default}
use Rattle.fr_canon.specs.Codes.{home_of}
use Rattle.fr_store.specs.Blocks.{code_at}
use Rattle.fr_store.specs.Index.{IsTable, IsFirstEmpty}
use Rattle.fr_store.proofs.ReenterLaws.{not-AreFull, new_lt, IsTable-reentered}
use Rattle.fr_store.proofs.index.Index.reenter.Goals as goal

pub first_empty-cell-requires-clause-some : goal.first_empty-cell-requires-clause-some
first_empty-cell-requires-clause-some c =
    let b = c.args.blocks.now in
    let s = c.args.self.now in
    not-AreFull (code_at b.alphabet b.rows.items b.places.items) (length b.rows.items) s.handles.items s.cells.items c.args.k c.requires.distinct c.requires.table c.requires.few c.requires.next

pub overflow_add-handle : goal.overflow_add-handle
overflow_add-handle c =
    let b = c.args.blocks.now in
    let s = c.args.self.now in
    let l = new_lt (code_at b.alphabet b.rows.items b.places.items) (length b.rows.items) s.handles.items s.cells.items c.args.k c.requires.distinct c.requires.table c.requires.few c.requires.next in
    let e = c.index-handle.ensures ∙ get_or_default s.handles.items c.args.k c.index-handle.result.now 0 c.requires.next in
    let few = b.few in
    omega (arith, l, e, few)

pub returns-clause-table : goal.returns-clause-table
returns-clause-table c =
    let b = c.args.blocks.now in
    let s = c.args.self.now in
    let code : ℕ → List ℕ = code_at b.alphabet b.rows.items b.places.items in
    let e = c.index-handle.ensures ∙ get_or_default s.handles.items c.args.k c.index-handle.result.now 0 c.requires.next in
    let size : c.len.result ≡ length s.cells.items = search rules in
    let start : c.home-start.result ≡ home_of (code (get_or s.handles.items c.args.k 0)) (length s.cells.items) =
    c.home-start.ensures.value ∙ ap (λ n. home_of c.code.new.out n) size ∙ ap (λ w. home_of w (length s.cells.items)) (c.code.ensures ∙ ap code e) in
    let P : ℕ → Type 0 = λ n. IsFirstEmpty s.cells.items n c.first_empty-cell.result in
    let Q : ℕ → Type 0 = λ n. IsTable code (take (c.args.k + 1) s.handles.items) (set s.cells.items c.first_empty-cell.result (n + 1)) in
    subst Q (sym e)
    (IsTable-reentered code (length b.rows.items) s.handles.items s.cells.items c.args.k c.requires.distinct c.requires.table c.requires.few c.requires.next c.first_empty-cell.result (subst P start c.first_empty-cell.ensures))
