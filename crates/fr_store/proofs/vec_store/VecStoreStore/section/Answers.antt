use Rattle.std.proofs.Common.{ℕ, arith, ◌<◌, ◌∙◌, ap, sym, subst, length, get_or, [], ◌∷◌}
use Rattle.std.proofs.lemmas.List.{get_or_default}
use Rattle.fr_model.specs.Terms.{Section}
use Rattle.fr_store.specs.Store.{StandsForTerm}
use Rattle.fr_store.specs.Blocks.{code_at}
use Rattle.fr_store.specs.Index.{known_in}
use Rattle.fr_store.proofs.VecLaws.{AreHandles-index, handle_row, stands-section}
use Rattle.fr_store.proofs.vec_store.VecStoreStore.section.Goals as goal

pub next-row-requires-clause-row : goal.next-row-requires-clause-row
next-row-requires-clause-row c =
    let s = c.args.self.now in
    let b = s.blocks in
    handle_row b.alphabet b.rows.items b.places.items b.are_blocks s.index.handles.items s.index.links.items s.is_index s.whole c.args.h c.requires.known

pub returns-clause-section : goal.returns-clause-section
returns-clause-section c = λ t p.
    let s = c.args.self.now in
    let b = s.blocks in
    let within : c.next-row.result < length s.index.links.items = omega (arith, c.next-row.ensures.row, s.whole) in
    let node = c.index.ensures ∙ get_or_default s.index.links.items c.next-row.result c.index.result.now 0 within ∙ ap (λ r. get_or s.index.links.items r 0) c.next-row.ensures.value in
    let P : ℕ → Type 0 = λ n. StandsForTerm b.alphabet (known_in (code_at b.alphabet b.rows.items b.places.items) s.index.handles.items) (record { node = n }) (Section t (c.args.x ∷ [])) in
    subst P (sym node) (stands-section b.alphabet b.rows.items b.places.items b.are_blocks s.index.handles.items s.index.links.items s.is_index s.whole c.args.h c.args.x t p c.requires.letter)

pub returns-clause-handles : goal.returns-clause-handles
returns-clause-handles c =
    let s = c.args.self.now in
    let b = s.blocks in
    AreHandles-index b.alphabet b.rows.items b.places.items b.are_blocks s.index.handles.items s.index.links.items s.is_index s.whole
