use Rattle.std.proofs.Common.{ℕ, List, length, sym, subst}
use Rattle.fr_classes.specs.Classes.{AreClasses}
use Rattle.fr_classes.proofs.GrowingLaws.{IsGuess-growing, IsStable-growing}
use Rattle.fr_classes.proofs.PartitionLaws.{AreClasses-guessed}
use Rattle.fr_classes.proofs.growing.GrowingClasses.stable_classes.Goals as goal

pub returns : goal.returns
returns c =
    let d = c.args.m.now.alphabet in
    let rows = c.args.m.now.rows in
    let g = c.args.self.now in
    let m = c.rows-rows.ensures.valid in
    let P : List ℕ → Type 0 = λ of. AreClasses rows of in
    let is : AreClasses rows g.of.items = AreClasses-guessed d rows m g.of.items (length g.walk.keys.items) (IsGuess-growing d rows m g c.requires) (IsStable-growing d rows m g c.requires c.if-not-self.false) in
    (c.if-not-self.false, c.deref.ensures.value, subst P (sym c.deref.ensures.value) is)
