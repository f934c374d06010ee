use Rattle.std.proofs.Common.{ℕ, arith, ◌<◌, List, length, sym, subst}
use Rattle.std.specs.List.{All}
use Rattle.fr_classes.proofs.GrowingLaws.{IsGuess-growing}
use Rattle.fr_classes.proofs.growing.GrowingClasses.guess.Goals as goal

pub returns-clause-below : goal.returns-clause-below
returns-clause-below c =
    let h = IsGuess-growing c.args.m.now.alphabet c.args.m.now.rows c.rows-rows.ensures.valid c.args.self.now c.requires in
    let P : List ℕ → Type 0 = λ of. All (λ n. n < length c.args.m.now.rows) of in
    subst P (sym c.deref.ensures.value) (λ k d l. omega (arith, h.below k d l, c.requires.met.few))

pub returns-clause-alike : goal.returns-clause-alike
returns-clause-alike c = rw c.deref.ensures.value (IsGuess-growing c.args.m.now.alphabet c.args.m.now.rows c.rows-rows.ensures.valid c.args.self.now c.requires).alike
