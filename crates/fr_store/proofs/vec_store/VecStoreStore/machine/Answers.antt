use Rattle.std.proofs.lemmas.Result.{IfOk-weaker}
use Rattle.fr_model.specs.Terms.{Term, IsAlike}
use Rattle.fr_model.specs.Canonical.{IsCanonical}
use Rattle.fr_model.proofs.AlikeLaws.{alike_sym}
use Rattle.fr_model.proofs.CanonicalLaws.{canonical_alike}
use Rattle.fr_machine.specs.Machine.{MachineView}
use Rattle.fr_machine.specs.Rows.{row_term, states_of}
use Rattle.fr_store.specs.Store.{StandsForTerm}
use Rattle.fr_store.specs.VecView.{known_of}
use Rattle.fr_store.specs.Blocks.{element_at}
use Rattle.fr_store.proofs.VecLaws.{AreHandles-index, handle_row, own_alike}
use Rattle.fr_store.proofs.vec_store.VecStoreStore.machine.Goals as goal

pub machine-requires : goal.machine-requires
machine-requires c =
    let s = c.args.self.now in
    let b = s.blocks in
    handle_row b.alphabet b.rows.items b.places.items b.are_blocks s.index.handles.items s.index.links.items s.is_index s.whole c.args.h c.requires

pub returns-clause-canonical : goal.returns-clause-canonical
returns-clause-canonical c =
    let s = c.args.self.now in
    let b = s.blocks in
    IfOk-weaker c.machine.result (λ (m : MachineView). (t : Term) → IsAlike (element_at b.rows.items b.places.items c.args.h.node) t → IsCanonical b.alphabet t (states_of m.rows))
    (λ (m : MachineView). (t : Term) → StandsForTerm b.alphabet (known_of s) c.args.h t → IsCanonical b.alphabet t (states_of m.rows))
    (λ m made t p. made t (alike_sym (own_alike b.alphabet b.rows.items b.places.items b.are_blocks s.index.handles.items s.index.links.items s.is_index s.whole c.args.h t p)))
    c.machine.ensures.canonical

pub returns-clause-alike : goal.returns-clause-alike
returns-clause-alike c =
    let s = c.args.self.now in
    let b = s.blocks in
    IfOk-weaker c.machine.result (λ (m : MachineView). (t : Term) → IsAlike (element_at b.rows.items b.places.items c.args.h.node) t → IsCanonical b.alphabet t (states_of m.rows))
    (λ (m : MachineView). (t : Term) → StandsForTerm b.alphabet (known_of s) c.args.h t → IsAlike (row_term m.rows 0) t)
    (λ m made t p. alike_sym (canonical_alike b.alphabet t p.term (states_of m.rows) (made t (alike_sym (own_alike b.alphabet b.rows.items b.places.items b.are_blocks s.index.handles.items s.index.links.items s.is_index s.whole c.args.h t p)))))
    c.machine.ensures.canonical

pub returns-clause-handles : goal.returns-clause-handles
returns-clause-handles c =
    let s = c.args.self.now in
    let b = s.blocks in
    AreHandles-index b.alphabet b.rows.items b.places.items b.are_blocks s.index.handles.items s.index.links.items s.is_index s.whole
