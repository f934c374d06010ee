use Rattle.std.proofs.lemmas.Result.{IfOk-weaker, on_ok_weaker}
use Rattle.fr_model.specs.Classes.{HasMoreStates}
use Rattle.fr_model.proofs.AlikeLaws.{alike_sym}
use Rattle.fr_model.proofs.ClassLaws.{HasMoreStates-alike}
use Rattle.fr_machine.specs.Rows.{row_term}
use Rattle.fr_classes.specs.Classes.{HasMoreClasses}
use Rattle.fr_minimal.proofs.ReachedLaws.{HasMoreStates-reached, IsSmallest-alike}
use Rattle.fr_minimal.proofs.smallest.minimize.Goals as goal

pub returns-in-Some-clause-ok : goal.returns-in-Some-clause-ok
returns-in-Some-clause-ok c =
    let e = c.in_ok-part.ensures in
    IfOk-weaker c.minimize_with.result _ _ (λ q h. IsSmallest-alike c.args.m.now.alphabet c.in_ok-part.part.rows c.args.m.now.rows c.args.s q.rows e.alike (rw e.alphabet at h)) c.minimize_with.ensures.ok

pub returns-in-Some-clause-passed : goal.returns-in-Some-clause-passed
returns-in-Some-clause-passed c same =
    let e = c.in_ok-part.ensures in
    let p : HasMoreStates c.args.m.now.alphabet (row_term c.in_ok-part.part.rows 0) 1024 = rw e.alphabet at (c.minimize_with.ensures.passed same) in
    HasMoreStates-alike c.args.m.now.alphabet (row_term c.in_ok-part.part.rows 0) (row_term c.args.m.now.rows c.args.s) 1024 e.alike p

pub returns-in-Some-clause-within : goal.returns-in-Some-clause-within
returns-in-Some-clause-within c =
    let e = c.in_ok-part.ensures in
    on_ok_weaker c.minimize_with.result (λ few more.
    let few' : ¬ HasMoreStates c.args.m.now.alphabet (row_term c.in_ok-part.part.rows 0) 1024 = rw e.alphabet at few in
    few' (HasMoreStates-alike c.args.m.now.alphabet (row_term c.args.m.now.rows c.args.s) (row_term c.in_ok-part.part.rows 0) 1024 (alike_sym e.alike) more)) c.minimize_with.ensures.within

pub returns-clause-passed : goal.returns-clause-passed
returns-clause-passed c same =
    let e = c.in_ok-part.ensures in
    let more : HasMoreClasses c.in_ok-part.part.rows 1024 = rw c.in-None.is at c.in_ok-of.ensures in
    HasMoreStates-alike c.args.m.now.alphabet (row_term c.in_ok-part.part.rows 0) (row_term c.args.m.now.rows c.args.s) 1024 e.alike (HasMoreStates-reached c.args.m.now.alphabet c.in_ok-part.part.rows 1024 e.machine e.reached more)
