use Rattle.std.proofs.Common.{◌≡◌, ◌∙◌, sym, subst, List, ℕ, length}
use Rattle.fr_machine.specs.declared.row.Row.{Row}
use Rattle.fr_classes.specs.Classes.{AreClasses}
use Rattle.fr_classes.specs.Guesses.{IsGuess}
use Rattle.fr_classes.proofs.GrowingLaws.{IsGuess-growing, IsStable-growing}
use Rattle.fr_classes.proofs.PartitionLaws.{AreClasses-guessed}
use Rattle.fr_classes.proofs.growing.GrowingClasses.classes.Goals as goal

pub returns-then-self : goal.returns-then-self
returns-then-self c =
    let d = c.args.m.now.alphabet in
    let rows = c.args.m.now.rows in
    let g = c.args.self.now in
    let m = c.rows-rows.ensures.valid in
    let is : c.in_ok-of.of.items ≡ g.of.items = c.in_ok-of.ensures.items ∙ c.deref.ensures.value in
    let P : List ℕ → Type 0 = λ of. AreClasses rows of in
    subst P (sym is) (AreClasses-guessed d rows m g.of.items (length g.walk.keys.items) (IsGuess-growing d rows m g c.requires) (IsStable-growing d rows m g c.requires c.if-self.true))

pub refined_classes-requires-clause-guess : goal.refined_classes-requires-clause-guess
refined_classes-requires-clause-guess c =
    let g = c.args.self.now in
    let is : c.in_ok-of.of.items ≡ g.of.items = c.in_ok-of.ensures.items ∙ c.deref.ensures.value in
    let P : List ℕ → Type 0 = λ of. IsGuess c.rows-rows.result.now of c.count-count.result in
    let Q : ℕ → Type 0 = λ n. IsGuess c.rows-rows.result.now g.of.items n in
    let R : List Row → Type 0 = λ rows. IsGuess rows g.of.items (length g.walk.keys.items) in
    subst P (sym is) (subst Q (sym c.count-count.ensures) (subst R (sym c.rows-rows.ensures.value) (IsGuess-growing c.args.m.now.alphabet c.args.m.now.rows c.rows-rows.ensures.valid g c.requires)))
