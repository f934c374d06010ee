use Rattle.std.proofs.Common.{◌-◌, arith, subst, sym, ap, ◌∙◌}
use Rattle.fr_model.specs.Systems.{Wreath, section_at}
use Rattle.fr_block.specs.Blocks.{BlockView, IsBlock, AreNames, product_of}
use Rattle.fr_block.proofs.BlockLaws.{recursion_here, section_here}
use Rattle.fr_block.proofs.ReductionLaws.{AreNames-section_at}
use Rattle.fr_block.proofs.block.Block.section.Goals as goal

pub index-requires-2 : goal.index-requires-2
index-requires-2 c =
    let h = recursion_here _ _ c.args.self.now c.self.view_is c.self.invariant c.args.name c.index.result.now c.requires.name c.index.ensures in
    omega (arith, h.arity, c.index.result.now.sections.ok.0, c.requires.letter.0, c.requires.letter.1)

pub returns-clause-value : goal.returns-clause-value
returns-clause-value c =
    let h = recursion_here _ _ c.args.self.now c.self.view_is c.self.invariant c.args.name c.index.result.now c.requires.name c.index.ensures in
    ap product_of c.deref.ensures.value ∙ sym (ap (λ (w : Wreath). section_at w.sections c.args.x) h.is ∙ section_here _ c.index.result.now.sections.items c.args.x (c.args.x - 1) c.index-2.result.now (omega (arith, c.requires.letter.0)) (omega (arith, h.arity, c.requires.letter.0, c.requires.letter.1)) c.index-2.ensures)

pub returns-clause-known : goal.returns-clause-known
returns-clause-known c =
    let h = recursion_here _ _ c.args.self.now c.self.view_is c.self.invariant c.args.name c.index.result.now c.requires.name c.index.ensures in
    let P : BlockView → Type 0 = λ v. IsBlock v.alphabet v.system in
    let b : IsBlock c.args.self.now.alphabet c.args.self.now.system = subst P c.self.view_is c.self.invariant in
    let e = ap product_of c.deref.ensures.value ∙ sym (ap (λ (w : Wreath). section_at w.sections c.args.x) h.is ∙ section_here _ c.index.result.now.sections.items c.args.x (c.args.x - 1) c.index-2.result.now (omega (arith, c.requires.letter.0)) (omega (arith, h.arity, c.requires.letter.0, c.requires.letter.1)) c.index-2.ensures) in
    subst (AreNames c.args.self.now.system) (sym e) (AreNames-section_at c.args.self.now.alphabet c.args.self.now.system b.system c.args.name c.args.x c.requires.name)
