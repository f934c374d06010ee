use Rattle.std.proofs.Common.{ℕ, sym, subst, inr, refl, List}
use Rattle.fr_classes.specs.Classes.{AreClasses, HasMoreClasses}
use Rattle.fr_nucleus.proofs.SectionLaws.{more_from, IsUnion-from}
use Rattle.fr_nucleus.proofs.sections.with_rows.Goals as goal

pub returns-in-Some-clause-rows : goal.returns-in-Some-clause-rows
returns-in-Some-clause-rows c =
    let found = c.args.found.now in
    let m = c.args.m.now in
    let all = c.in_ok-all.all.rows in
    let h : AreClasses all c.in-Some.of.items × (¬ HasMoreClasses all 64) = rw c.in-Some.is at c.in_ok-of.ensures in
    let P : List ℕ → Type 0 = λ of. AreClasses all of in
    IsUnion-from found.rows m.rows all c.in_ok-all.ensures.rows c.deref.result.now c.in_ok-reduced-in-Some.field-0.rows (subst P (sym c.deref.ensures.value) h.0) c.in_ok-reduced-in-Some.ensures.rows c.requires.found h.1

pub returns-clause-err : goal.returns-clause-err
returns-clause-err c =
    let h : HasMoreClasses c.in_ok-all.all.rows 64 = rw c.in-None.is at c.in_ok-of.ensures in
    inr (refl, more_from c.args.found.now.rows c.args.m.now.rows c.in_ok-all.all.rows c.in_ok-all.ensures.rows 64 h)
