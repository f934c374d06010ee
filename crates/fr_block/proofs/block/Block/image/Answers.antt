use Rattle.std.proofs.Common.{sym, ap, ◌∙◌, arith}
use Rattle.fr_model.specs.Permutations.{image, preimage}
use Rattle.fr_model.specs.Systems.{Wreath}
use Rattle.fr_block.proofs.BlockLaws.{recursion_here}
use Rattle.fr_block.proofs.block.Block.image.Goals as goal

pub image_back-requires : goal.image_back-requires
image_back-requires c =
    let h = recursion_here _ _ c.args.self.now c.self.view_is c.self.invariant c.args.f.name c.index.result.now c.requires.name c.index.ensures in
    (c.requires.letter.0, omega (arith, c.requires.letter.1, h.permutes.degree))

pub apply-requires : goal.apply-requires
apply-requires c =
    let h = recursion_here _ _ c.args.self.now c.self.view_is c.self.invariant c.args.f.name c.index.result.now c.requires.name c.index.ensures in
    (c.requires.letter.0, omega (arith, c.requires.letter.1, h.permutes.degree))

pub returns-then-f-clause-value : goal.returns-then-f-clause-value
returns-then-f-clause-value c =
    let h = recursion_here _ _ c.args.self.now c.self.view_is c.self.invariant c.args.f.name c.index.result.now c.requires.name c.index.ensures in
    rw c.if-f.true (c.image_back.ensures.value ∙ ap (λ (w : Wreath). preimage w.perm c.args.x) (sym h.is))

pub returns-else-f-clause-value : goal.returns-else-f-clause-value
returns-else-f-clause-value c =
    let h = recursion_here _ _ c.args.self.now c.self.view_is c.self.invariant c.args.f.name c.index.result.now c.requires.name c.index.ensures in
    rw c.if-f.false (c.apply.ensures.value ∙ ap (λ (w : Wreath). image w.perm c.args.x) (sym h.is))

pub returns-then-f-clause-letter : goal.returns-then-f-clause-letter
returns-then-f-clause-letter c =
    let h = recursion_here _ _ c.args.self.now c.self.view_is c.self.invariant c.args.f.name c.index.result.now c.requires.name c.index.ensures in
    (c.image_back.ensures.letter.0, omega (arith, c.image_back.ensures.letter.1, h.permutes.degree))

pub returns-else-f-clause-letter : goal.returns-else-f-clause-letter
returns-else-f-clause-letter c =
    let h = recursion_here _ _ c.args.self.now c.self.view_is c.self.invariant c.args.f.name c.index.result.now c.requires.name c.index.ensures in
    (c.apply.ensures.letter.0, omega (arith, c.apply.ensures.letter.1, h.permutes.degree))
