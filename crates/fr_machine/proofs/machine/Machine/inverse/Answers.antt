use Rattle.std.proofs.Common.{arith, sym, ap, ◌∙◌, subst, ℕ, ◌≡◌, ◌+◌, ◌<◌, List, [], length, get_or}
use Rattle.std.proofs.lemmas.List.{length_push, get_or_read}
use Rattle.fr_machine.specs.declared.row.Row.{Row}
use Rattle.fr_machine.specs.Machine.{MachineView}
use Rattle.fr_machine.specs.Rows.{IsMachine, IsRow, row_at}
use Rattle.fr_machine.proofs.InverseLaws.{AreInverseRows-more, IsMachine-inverse, AreInverses-from}
use Rattle.fr_machine.proofs.machine.Machine.inverse.Goals as goal

pub loop-row-init : goal.loop-row-init
loop-row-init c = record { count = ap length c.in_ok-rows.ensures.items; inverse = λ s l. absurd (omega (arith, ap length c.in_ok-rows.ensures.items)) }

own_row : (d : ℕ) (rows shown : List Row) (i : ℕ) (r : Row) → IsMachine d rows → shown ≡ rows → i < length shown → r ≡ get_or shown i r → (r ≡ row_at rows i) × (n : ℕ) × IsRow (length r.perm) n r
own_row d rows shown i r m e l f =
    let g : r ≡ row_at rows i = get_or_read shown i r l f (record { perm = []; next = [] }) ∙ ap (λ xs. row_at xs i) e in
    let lt : i < length rows = omega (arith, ap length e) in
    let v : IsRow d (length rows) (row_at rows i) = m.valid i _ lt in
    let P : Row → Type 0 = λ q. IsRow d (length rows) q in
    let w = subst P (sym g) v in
    let Q : ℕ → Type 0 = λ d. IsRow d (length rows) r in
    (g, length rows, subst Q (sym w.permutes.degree) w)

pub inverse_row-requires : goal.inverse_row-requires
inverse_row-requires c =
    let P : MachineView → Type 0 = λ v. IsMachine v.alphabet v.rows in
    let m : IsMachine c.args.self.now.alphabet c.args.self.now.rows = subst P c.self.view_is c.self.invariant in
    let o = own_row _ c.args.self.now.rows c.deref-row-items.result.now c.loop-row.row-index c.row-item.result m (c.deref-row-items.ensures.value ∙ ap (λ v. v.rows) c.self.view_is) c.loop-row-test.true c.row-item.is in
    (o.1, o.2)

pub loop-row-preserved : goal.loop-row-preserved
loop-row-preserved c =
    let P : MachineView → Type 0 = λ v. IsMachine v.alphabet v.rows in
    let m : IsMachine c.args.self.now.alphabet c.args.self.now.rows = subst P c.self.view_is c.self.invariant in
    let o = own_row _ c.args.self.now.rows c.deref-row-items.result.now c.loop-row.row-index c.row-item.result m (c.deref-row-items.ensures.value ∙ ap (λ v. v.rows) c.self.view_is) c.loop-row-test.true c.row-item.is in
    record {
      count = ap length c.in_ok-push.ensures.items ∙ length_push c.loop-row.rows.items _ ∙ ap (λ n. n + 1) c.loop-row.invariant.count;
      inverse = AreInverseRows-more c.args.self.now.rows c.loop-row.rows.items c.push.new.self.items c.row-item.result c.inverse_row.result c.loop-row.invariant.inverse (o.0 ∙ ap (row_at c.args.self.now.rows) (sym c.loop-row.invariant.count)) c.inverse_row.ensures c.in_ok-push.ensures.items;
    }

pub invariant_of-result : goal.invariant_of-result
invariant_of-result c =
    let P : MachineView → Type 0 = λ v. IsMachine v.alphabet v.rows in
    let m : IsMachine c.args.self.now.alphabet c.args.self.now.rows = subst P c.self.view_is c.self.invariant in
    let shown = ap length (c.deref-row-items.ensures.value ∙ ap (λ v. v.rows) c.self.view_is) in
    let count : length c.loop-row.rows.items ≡ length c.args.self.now.rows = omega (arith, c.loop-row.invariant.count, c.loop-row-test.false, c.loop-row.auto.row-index-end, shown) in
    let Q : ℕ → Type 0 = λ d. IsMachine d c.loop-row.rows.items in
    subst Q (ap (λ v. v.alphabet) (sym c.self.view_is)) (IsMachine-inverse c.args.self.now.alphabet c.args.self.now.rows c.loop-row.rows.items m count c.loop-row.invariant.inverse)

pub returns : goal.returns
returns c =
    let P : MachineView → Type 0 = λ v. IsMachine v.alphabet v.rows in
    let m : IsMachine c.args.self.now.alphabet c.args.self.now.rows = subst P c.self.view_is c.self.invariant in
    let shown = ap length (c.deref-row-items.ensures.value ∙ ap (λ v. v.rows) c.self.view_is) in
    let count : length c.loop-row.rows.items ≡ length c.args.self.now.rows = omega (arith, c.loop-row.invariant.count, c.loop-row-test.false, c.loop-row.auto.row-index-end, shown) in
    record {
      alphabet = ap (λ v. v.alphabet) c.self.view_is;
      size = count;
      rows = AreInverses-from c.args.self.now.alphabet c.args.self.now.rows c.loop-row.rows.items m count c.loop-row.invariant.inverse;
    }
