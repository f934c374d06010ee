use Rattle.std.proofs.Common.{◌≡◌, ◌∙◌, ◌<◌, ℕ, List, length, refl, sym, ap, subst, arith, Some, None, Err}
use Rattle.std.specs.List.{All}
use Rattle.std.proofs.lemmas.Result.{err_from_is_err_and}
use Rattle.std.proofs.lemmas.List.{length-map}
use Rattle.fr_model.specs.Systems.{System, IsSystem}
use Rattle.fr_syntax.specs.declared.statement.Recursion.{Recursion}
use Rattle.fr_syntax.specs.declared.statement.Statement.TheVariants as st
use Rattle.fr_syntax.specs.Fits.{FitsRecursion}
use Rattle.fr_block.specs.Blocks.{BlockView}
use Rattle.fr_store.specs.declared.handle.Handle.{Handle}
use Rattle.fr_plain.specs.Blocks.{names_of, block_system}
use Rattle.fr_plain.specs.BlockNames.{names_fault}
use Rattle.fr_plain.specs.Outcomes.{line_at}
use Rattle.fr_expr.specs.Tables.{names_in}
use Rattle.fr_eval.specs.NamePlaces.{HasPlaces}
use Rattle.fr_eval.specs.Entering.{AreEntered, EntersNames, EndsWith}
use Rattle.fr_eval.proofs.FitLaws.{lines_fit, lines_few}
use Rattle.fr_eval.proofs.BlockLaws.{length-system, IsSystem-block}
use Rattle.fr_eval.proofs.DefineLaws.{none_early, group_faulty, group_binds, group_bound_early, group_ends, names_stay, names_join, adds_block, binds_block, ends_not_fine, refuses_not_fine, known_names, line_is}
use Rattle.fr_eval.proofs.definitions.define_group.Goals as goal

pub checked_places-requires : goal.checked_places-requires
checked_places-requires g c =
    let few = lines_few (g.S.Store.view.alphabet c.args.store.now) c.args.line 4096 c.args.block.now c.requires.fits in
    omega (arith, few)

pub returns-in_err-places-clause-defines : goal.returns-in_err-places-clause-defines
returns-in_err-places-clause-defines g c = λ scope names.
    let p = err_from_is_err_and c.from_residual.result c.from_residual.ensures.1 in
    let view = g.S.Store.view in
    rw (p.1, p.2)
    (none_early view g.met.S.Store.kin_to_self g.met.S.Store.kin_onward (view.alphabet c.args.store.now) scope (st.Group c.args.block.now) c.args.store.now c.args.charge.now, refl)

pub returns-in-Err-clause-defines : goal.returns-in-Err-clause-defines
returns-in-Err-clause-defines g c = λ scope names.
    let view = g.S.Store.view in
    let store = c.args.store.now in
    let d = view.alphabet store in
    let rs = c.args.block.now in
    let bindings = names_in c.args.env.now in
    let some : names_fault rs ≡ Some c.in-Err.fault = rw c.in-Err.is at c.in_ok-places.ensures in
    group_faulty view g.met.S.Store.kin_to_self g.met.S.Store.kin_onward d c.args.line scope rs store c.args.charge.now bindings c.args.out.now.items c.refuse.new.out.items c.in-Err.fault c.refuse.result
    some c.refuse.ensures.text c.refuse.ensures.kept c.refuse.ensures.ends c.refuse.ensures.stops
    (names_stay d c.args.line (view.known store) (view.known store) bindings bindings scope (λ n code k. k) c.requires.above (λ q. refl) names)

pub block_of-requires-clause-lines : goal.block_of-requires-clause-lines
block_of-requires-clause-lines g c =
    subst (λ (a : ℕ). All (FitsRecursion a) c.args.block.now) (sym c.alphabet.ensures) (lines_fit (g.S.Store.view.alphabet c.args.store.now) c.args.line 4096 c.args.block.now c.requires.fits)

pub block_of-requires-clause-most : goal.block_of-requires-clause-most
block_of-requires-clause-most g c =
    let few = lines_few (g.S.Store.view.alphabet c.args.store.now) c.args.line 4096 c.args.block.now c.requires.fits in
    omega (arith, few, c.requires.line)

pub returns-in_err-block_of-clause-defines : goal.returns-in_err-block_of-clause-defines
returns-in_err-block_of-clause-defines g c = λ scope names.
    let p = err_from_is_err_and c.from_residual-in_err-block_of.result c.from_residual-in_err-block_of.ensures.1 in
    let view = g.S.Store.view in
    rw (p.1, p.2)
    (none_early view g.met.S.Store.kin_to_self g.met.S.Store.kin_onward (view.alphabet c.args.store.now) scope (st.Group c.args.block.now) c.args.store.now c.args.charge.now, refl)

pub returns-in_err-elements-clause-defines : goal.returns-in_err-elements-clause-defines
returns-in_err-elements-clause-defines g c = λ scope names.
    let p = err_from_is_err_and c.from_residual-in_err-elements.result c.from_residual-in_err-elements.ensures.1 in
    let view = g.S.Store.view in
    rw (p.1, p.2)
    (none_early view g.met.S.Store.kin_to_self g.met.S.Store.kin_onward (view.alphabet c.args.store.now) scope (st.Group c.args.block.now) c.args.store.now c.args.charge.now, refl)

pub enter_names-requires-clause-system : goal.enter_names-requires-clause-system
enter_names-requires-clause-system g c =
    let view = g.S.Store.view in
    let store = c.args.store.now in
    let d = view.alphabet store in
    let rs = c.args.block.now in
    let found : (names_fault rs ≡ None) × HasPlaces (names_of rs) c.in-Ok.places = rw c.in-Ok.is at c.in_ok-places.ensures in
    let system : c.in_ok-elements.elements.system ≡ block_system rs = ap (λ (b : BlockView). b.system) (c.in_ok-elements.ensures ∙ c.in_ok-block_of.ensures) in
    subst (IsSystem d) (sym system) (IsSystem-block rs found.0 d (lines_fit d c.args.line 4096 rs c.requires.fits))

pub returns-in_err-bind_block-in-Ok-enter_names-clause-defines : goal.returns-in_err-bind_block-in-Ok-enter_names-clause-defines
returns-in_err-bind_block-in-Ok-enter_names-clause-defines g c = λ scope names.
    let p = err_from_is_err_and c.from_residual-in_err-bind_block-in-Ok-enter_names.result c.from_residual-in_err-bind_block-in-Ok-enter_names.ensures.1 in
    let view = g.S.Store.view in
    let store = c.args.store.now in
    let d = view.alphabet store in
    let rs = c.args.block.now in
    let found : (names_fault rs ≡ None) × HasPlaces (names_of rs) c.in-Ok.places = rw c.in-Ok.is at c.in_ok-places.ensures in
    let system : c.in_ok-elements.elements.system ≡ block_system rs = ap (λ (b : BlockView). b.system) (c.in_ok-elements.ensures ∙ c.in_ok-block_of.ensures) in
    let new = c.enter_names.new.store in
    let hs = c.deref.result.now in
    let entered : AreEntered view d (block_system rs) store new c.args.charge.now c.enter_names.new.charge hs =
    subst (λ (l : List Handle). AreEntered view d (block_system rs) store new c.args.charge.now c.enter_names.new.charge l) (sym c.deref.ensures.value)
    (subst (λ (s : System). AreEntered view d s store new c.args.charge.now c.enter_names.new.charge c.enter_names.new.handles.items) system c.in-Ok-enter_names.ensures.enters) in
    rw (p.1, p.2) (group_bound_early view d scope rs store new c.args.charge.now c.enter_names.new.charge hs found.0 entered, refl)

pub returns-in-Ok-enter_names-clause-defines : goal.returns-in-Ok-enter_names-clause-defines
returns-in-Ok-enter_names-clause-defines g c = λ scope names.
    let view = g.S.Store.view in
    let store = c.args.store.now in
    let d = view.alphabet store in
    let rs = c.args.block.now in
    let found : (names_fault rs ≡ None) × HasPlaces (names_of rs) c.in-Ok.places = rw c.in-Ok.is at c.in_ok-places.ensures in
    let system : c.in_ok-elements.elements.system ≡ block_system rs = ap (λ (b : BlockView). b.system) (c.in_ok-elements.ensures ∙ c.in_ok-block_of.ensures) in
    let new = c.enter_names.new.store in
    let hs = c.deref.result.now in
    let entered : AreEntered view d (block_system rs) store new c.args.charge.now c.enter_names.new.charge hs =
    subst (λ (l : List Handle). AreEntered view d (block_system rs) store new c.args.charge.now c.enter_names.new.charge l) (sym c.deref.ensures.value)
    (subst (λ (s : System). AreEntered view d s store new c.args.charge.now c.enter_names.new.charge c.enter_names.new.handles.items) system c.in-Ok-enter_names.ensures.enters) in
    let names' = names_in c.bind_block.new.self in
    let same : length hs ≡ length (names_of rs) = omega (arith, entered.count, length-system rs found.0, length-map rs (λ (r : Recursion). r.name)) in
    group_binds view d c.args.line scope rs store new c.args.charge.now c.enter_names.new.charge names' c.args.out.now.items hs found.0 entered
    (names_join d c.args.line (view.known store) (view.known new) (names_in c.args.env.now) names' scope (block_system rs) (names_of rs) hs c.enter_names.ensures.keeps c.requires.above c.in_ok-bind_block-in-Ok-enter_names.ensures.bound same entered.handles names)

pub returns-in-Ok-enter_names-clause-adds : goal.returns-in-Ok-enter_names-clause-adds
returns-in-Ok-enter_names-clause-adds g c =
    adds_block c.args.line (names_of c.args.block.now) c.deref.result.now (names_in c.args.env.now) (names_in c.bind_block.new.self) c.in_ok-bind_block-in-Ok-enter_names.ensures.bound

pub returns-in-Ok-enter_names-clause-known : goal.returns-in-Ok-enter_names-clause-known
returns-in-Ok-enter_names-clause-known g c =
    let view = g.S.Store.view in
    let store = c.args.store.now in
    let d = view.alphabet store in
    let rs = c.args.block.now in
    let found : (names_fault rs ≡ None) × HasPlaces (names_of rs) c.in-Ok.places = rw c.in-Ok.is at c.in_ok-places.ensures in
    let system : c.in_ok-elements.elements.system ≡ block_system rs = ap (λ (b : BlockView). b.system) (c.in_ok-elements.ensures ∙ c.in_ok-block_of.ensures) in
    let new = c.enter_names.new.store in
    let hs = c.deref.result.now in
    let entered : AreEntered view d (block_system rs) store new c.args.charge.now c.enter_names.new.charge hs =
    subst (λ (l : List Handle). AreEntered view d (block_system rs) store new c.args.charge.now c.enter_names.new.charge l) (sym c.deref.ensures.value)
    (subst (λ (s : System). AreEntered view d s store new c.args.charge.now c.enter_names.new.charge c.enter_names.new.handles.items) system c.in-Ok-enter_names.ensures.enters) in
    known_names d c.args.line (view.known store) (view.known new) (names_in c.args.env.now) (names_in c.bind_block.new.self) (block_system rs) (names_of rs) hs c.enter_names.ensures.keeps c.requires.known
    c.in_ok-bind_block-in-Ok-enter_names.ensures.bound entered.handles

pub returns-clause-defines : goal.returns-clause-defines
returns-clause-defines g c = λ scope names.
    let view = g.S.Store.view in
    let store = c.args.store.now in
    let d = view.alphabet store in
    let rs = c.args.block.now in
    let found : (names_fault rs ≡ None) × HasPlaces (names_of rs) c.in-Ok.places = rw c.in-Ok.is at c.in_ok-places.ensures in
    let system : c.in_ok-elements.elements.system ≡ block_system rs = ap (λ (b : BlockView). b.system) (c.in_ok-elements.ensures ∙ c.in_ok-block_of.ensures) in
    let new = c.enter_names.new.store in
    let hs = c.enter_names.new.handles.items in
    let fault = c.in-Err-enter_names.fault in
    let out = c.args.out.now.items in
    let bindings = names_in c.args.env.now in
    let enters : EntersNames view d (block_system rs) store new c.args.charge.now c.enter_names.new.charge hs (Err fault) =
    subst (λ (s : System). EntersNames view d s store new c.args.charge.now c.enter_names.new.charge hs (Err fault)) system c.in-Err-enter_names.ensures.enters in
    let count : c.len.result ≡ length hs = omega (arith, c.len.ensures, c.enter_names.new.handles.ok.0) in
    let less : c.len.result < length rs = omega (arith, count, c.in-Err-enter_names.ensures.fewer, ap length system, length-system rs found.0) in
    let ends : EndsWith (line_at rs (length hs)) fault out c.end_with.new.out.items c.end_with.result =
    subst (λ (n : ℕ). EndsWith n fault out c.end_with.new.out.items c.end_with.result) (ap (λ (x : Recursion). x.line) (sym c.index-block-len.is) ∙ line_is rs c.len.result c.index-block-len.result less (sym c.index-block-len.is) ∙ ap (line_at rs) count) c.end_with.ensures in
    group_ends view d c.args.line scope rs store new c.args.charge.now c.enter_names.new.charge bindings out c.end_with.new.out.items hs fault c.end_with.result found.0 enters ends
    (names_stay d c.args.line (view.known store) (view.known new) bindings bindings scope c.enter_names.ensures.keeps c.requires.above (λ q. refl) names)

pub returns-in-Err-clause-binds : goal.returns-in-Err-clause-binds
returns-in-Err-clause-binds g c = λ scope names fine. absurd (refuses_not_fine c.in-Err.fault.kind c.refuse.result c.refuse.ensures.ends fine)

pub returns-in-Ok-enter_names-clause-binds : goal.returns-in-Ok-enter_names-clause-binds
returns-in-Ok-enter_names-clause-binds g c = λ scope names fine.
    let view = g.S.Store.view in
    let store = c.args.store.now in
    let d = view.alphabet store in
    let rs = c.args.block.now in
    let found : (names_fault rs ≡ None) × HasPlaces (names_of rs) c.in-Ok.places = rw c.in-Ok.is at c.in_ok-places.ensures in
    let system : c.in_ok-elements.elements.system ≡ block_system rs = ap (λ (b : BlockView). b.system) (c.in_ok-elements.ensures ∙ c.in_ok-block_of.ensures) in
    let new = c.enter_names.new.store in
    let hs = c.deref.result.now in
    let entered : AreEntered view d (block_system rs) store new c.args.charge.now c.enter_names.new.charge hs =
    subst (λ (l : List Handle). AreEntered view d (block_system rs) store new c.args.charge.now c.enter_names.new.charge l) (sym c.deref.ensures.value)
    (subst (λ (s : System). AreEntered view d s store new c.args.charge.now c.enter_names.new.charge c.enter_names.new.handles.items) system c.in-Ok-enter_names.ensures.enters) in
    let same : length hs ≡ length (names_of rs) = omega (arith, entered.count, length-system rs found.0, length-map rs (λ (r : Recursion). r.name)) in
    binds_block d (view.known new) c.args.line scope rs (names_in c.args.env.now) (names_in c.bind_block.new.self) hs same entered.handles c.in_ok-bind_block-in-Ok-enter_names.ensures.bound

pub returns-clause-binds : goal.returns-clause-binds
returns-clause-binds g c = λ scope names fine.
    let fault = c.in-Err-enter_names.fault in
    let out = c.args.out.now.items in
    let ends : EndsWith c.index-block-len.result.line fault out c.end_with.new.out.items c.end_with.result =
    subst (λ (n : ℕ). EndsWith n fault out c.end_with.new.out.items c.end_with.result) (ap (λ (x : Recursion). x.line) (sym c.index-block-len.is)) c.end_with.ensures in
    absurd (ends_not_fine c.index-block-len.result.line fault out c.end_with.new.out.items c.end_with.result ends fine)
