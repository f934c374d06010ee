use Rattle.std.proofs.Common.{ℕ, List, ◌<◌, take, length, subst, arith}
use Rattle.fr_model.specs.Ranks.{factorial}
use Rattle.fr_model.proofs.RankLaws.{rank-lt}
use Rattle.fr_alphabet.proofs.RankLaws.{rank-most}
use Rattle.fr_alphabet.proofs.perm.Perm.rank.Goals as goal

pub returns-clause-below : goal.returns-clause-below
returns-clause-below c =
    let P : List ℕ → Type 0 = λ p. c.rank_of.result < factorial (length p) in
    subst P c.self.view_is (omega (arith, c.rank_of.ensures, rank-lt (take c.self.inside.count c.self.inside.images)))

pub returns-clause-most : goal.returns-clause-most
returns-clause-most c = omega (arith, c.rank_of.ensures, rank-most (take c.self.inside.count c.self.inside.images) (omega (arith, c.self.invariant.permutes.degree, c.self.invariant.most)))
