use Rattle.std.proofs.Common.{ℕ, ◌≡◌, ◌<◌, List, length, Err, sym, ap, subst, IfErr}
use Rattle.std.proofs.lemmas.Result.{err_from_is_err_and}
use Rattle.fr_script.specs.declared.line_reader.ScriptFault.TheVariants as fault
use Rattle.fr_script.specs.Scripts.{lines_of, IsScript}
use Rattle.frcalc.specs.Taking.{IsNotTaken}
use Rattle.frcalc.specs.declared.taking.TakeFault.{TakeFault}
use Rattle.frcalc.proofs.RunLaws.{not_many_lines}
use Rattle.frcalc.proofs.TakingLaws.{demo_taken, demo_not_taken}
use Rattle.frcalc.proofs.taking.take_script.Goals as goal

pub returns-in_err-read_script-in-Some-clause-not_taken : goal.returns-in_err-read_script-in-Some-clause-not_taken
returns-in_err-read_script-in-Some-clause-not_taken g c =
    let left = g.S.Source.left c.args.input.now in
    let faults = g.S.Source.faults c.args.input.now in
    let script = c.in_ok-demo_script-in-Some in
    let p = err_from_is_err_and c.from_residual-in_err-read_script-in-Some.result c.from_residual-in_err-read_script-in-Some.ensures.1 in
    let few : c.in_err-read_script-in-Some.field-0.0 ≡ fault.LinesPassed → ⊥ = λ e.
    not_many_lines script.field-0.items script.ensures.lines
    (subst (λ (l : List ℕ). 4096 < length (lines_of l)) c.deref.ensures.value (c.in_err-read_script-in-Some.ensures.passed (ap Err e))) in
    subst (λ r. IfErr r (IsNotTaken c.args.demo left left faults faults)) (sym p.1)
    (subst (λ (f : TakeFault). IsNotTaken c.args.demo left left faults faults f) (sym p.2) (demo_not_taken c.args.demo c.in-Some.seed left faults c.in_err-read_script-in-Some.field-0.0 c.in-Some.is few))

pub returns-in_ok-read_script-in-Some-clause-taken : goal.returns-in_ok-read_script-in-Some-clause-taken
returns-in_ok-read_script-in-Some-clause-taken g c =
    let script = c.in_ok-demo_script-in-Some in
    let read = c.in_ok-read_script-in-Some in
    demo_taken c.args.demo c.in-Some.seed (g.S.Source.left c.args.input.now) (g.S.Source.faults c.args.input.now) script.field-0.items read.field-0 c.in-Some.is script.ensures.script
    (subst (λ (l : List ℕ). IsScript l read.field-0) c.deref.ensures.value read.ensures.ok)
