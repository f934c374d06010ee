use Rattle.std.proofs.Common.{ℕ, arith, sym, subst, ap, ◌≡◌, ◌∙◌, List, length}
use Rattle.fr_model.specs.Canonical.{IsCanonical}
use Rattle.fr_machine.specs.declared.row.Row.{Row}
use Rattle.fr_machine.specs.Rows.{row_term, states_of}
use Rattle.fr_nucleus.proofs.SortingLaws.{IsArranged, IsArranged-listed, IsArranged-permuted, AreMachinesOf, AreMachinesOf-more, IsListing-from, item_row, some_item}
use Rattle.fr_nucleus.proofs.coding.in_order.Goals as goal

pub canonical_machine-requires-clause-row : goal.canonical_machine-requires-clause-row
canonical_machine-requires-clause-row c =
    let m = c.args.m.now in
    let r = IsArranged-permuted m.alphabet m.rows c.in_ok-listed.listed.items c.sort_unstable.new.self.items (IsArranged-listed m.alphabet m.rows c.in_ok-listed.listed.items c.alphabet-a.ensures.valid c.requires.unlike c.in_ok-listed.ensures) c.sort_unstable.ensures.permutation in
    let r' = subst (IsArranged m.alphabet m.rows) (sym c.deref-item-items.ensures.value) r in
    omega (arith, item_row m.alphabet m.rows c.deref-item-items.result.now c.loop-item.item-index c.item-item.result r' c.loop-item-test.true c.item-item.is, ap length c.rows.ensures.value)

pub loop-item-preserved : goal.loop-item-preserved
loop-item-preserved c =
    let m = c.args.m.now in
    let made = c.in_ok-canonical_machine.field-0 in
    let item = c.item-item.result in
    let P : ℕ → Type 0 = λ d. IsCanonical d (row_term c.rows.result.now item.row) (states_of made.rows) in
    let Q : List Row → Type 0 = λ rows. IsCanonical m.alphabet (row_term rows item.row) (states_of made.rows) in
    let canonical = subst Q c.rows.ensures.value (subst P c.alphabet-a.ensures.value c.in_ok-canonical_machine.ensures.canonical) in
    AreMachinesOf-more m.alphabet m.rows c.deref-item-items.result.now c.loop-item.members.items c.push.new.self.items made c.loop-item.item-index item c.loop-item.invariant c.loop-item-test.true c.item-item.is (c.in_ok-canonical_machine.ensures.alphabet ∙ c.alphabet-a.ensures.value) canonical c.in_ok-push.ensures.items

pub returns : goal.returns
returns c =
    let m = c.args.m.now in
    let r = IsArranged-permuted m.alphabet m.rows c.in_ok-listed.listed.items c.sort_unstable.new.self.items (IsArranged-listed m.alphabet m.rows c.in_ok-listed.listed.items c.alphabet-a.ensures.valid c.requires.unlike c.in_ok-listed.ensures) c.sort_unstable.ensures.permutation in
    let all : c.loop-item.item-index ≡ length c.deref-item-items.result.now = omega (arith, c.loop-item-test.false, c.loop-item.auto.item-index-end) in
    let h : AreMachinesOf m.alphabet m.rows c.deref-item-items.result.now c.loop-item.members.items (length c.deref-item-items.result.now) = subst (AreMachinesOf m.alphabet m.rows c.deref-item-items.result.now c.loop-item.members.items) all c.loop-item.invariant in
    let h' : AreMachinesOf m.alphabet m.rows c.sort_unstable.new.self.items c.loop-item.members.items (length c.sort_unstable.new.self.items) = subst (λ xs. AreMachinesOf m.alphabet m.rows xs c.loop-item.members.items (length xs)) c.deref-item-items.ensures.value h in
    IsListing-from m.alphabet m.rows c.sort_unstable.new.self.items c.alphabet-a.ensures.valid r c.sort_unstable.ensures.sorted (some_item c.sort_unstable.new.self.items (omega (arith, r.count, c.alphabet-a.ensures.valid.least))) c.loop-item.members.items h'
