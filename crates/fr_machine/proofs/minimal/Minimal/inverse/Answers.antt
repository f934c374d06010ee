use Rattle.std.proofs.Common.{ℕ, List, length, subst, ap, ◌∙◌, sym}
use Rattle.fr_machine.specs.Machine.{MachineView}
use Rattle.fr_machine.specs.declared.row.Row.{Row}
use Rattle.fr_machine.specs.Rows.{IsMachine}
use Rattle.fr_machine.specs.Inverses.{AreInverses}
use Rattle.fr_machine.specs.Minimal.{IsMinimal}
use Rattle.fr_machine.proofs.MinimalLaws.{IsMinimal-inverse}
use Rattle.fr_machine.proofs.minimal.Minimal.inverse.Goals as goal

pub invariant_of-result : goal.invariant_of-result
invariant_of-result c =
    let m = c.args.self.now in
    let P : MachineView → Type 0 = λ v. IsMinimal v.alphabet v.rows in
    let minimal : IsMinimal m.alphabet m.rows = subst P c.self.view_is c.self.invariant in
    let same = c.self.view_is in
    let q = c.in_ok-machine.machine in
    let e = c.in_ok-machine.ensures in
    subst (λ (d : ℕ). IsMinimal d q.rows) (sym (e.alphabet ∙ ap (λ v. v.alphabet) same))
    (IsMinimal-inverse m.alphabet m.rows q.rows minimal
    (subst (λ (d : ℕ). IsMachine d q.rows) (e.alphabet ∙ ap (λ v. v.alphabet) same) c.rows-rows.ensures.valid)
    (e.size ∙ ap (λ v. length v.rows) same) (subst (λ (rows : List Row). AreInverses rows q.rows) (ap (λ v. v.rows) same) e.rows))
