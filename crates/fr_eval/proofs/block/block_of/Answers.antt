use Rattle.std.proofs.Common.{◌≡◌, ◌∙◌, ℕ, sym, ap, subst, map, arith}
use Rattle.std.specs.List.{All}
use Rattle.std.proofs.lemmas.List.{take_all}
use Rattle.std.proofs.lemmas.List.Elements.{All-get_or}
use Rattle.fr_model.specs.Systems.{System}
use Rattle.fr_block.specs.Blocks.{BlockView, IsBlock, system_of}
use Rattle.fr_syntax.specs.declared.statement.Recursion.{Recursion}
use Rattle.fr_plain.specs.Blocks.{block_system}
use Rattle.fr_eval.specs.NamePlaces.{ArePlaced, placed_recursion}
use Rattle.fr_eval.proofs.BlockLaws.{are_placed, same_system, IsBlock-block}
use Rattle.fr_eval.proofs.block.block_of.Goals as goal

abbrev viewed : ℕ → System → BlockView
viewed d s = record { alphabet = d; system = s }

pub wreath-requires : goal.wreath-requires
wreath-requires c =
    subst (λ (r : Recursion). All (ArePlaced c.args.places.now) r.sections) (sym c.recursion-item.is)
    (All-get_or (λ (r : Recursion). All (ArePlaced c.args.places.now) r.sections) c.args.block.now c.loop-recursion.recursion-index c.recursion-item.result c.loop-recursion-test.true (are_placed c.args.block.now c.requires.names c.args.places.now c.requires.places))

pub from_wreaths-requires : goal.from_wreaths-requires
from_wreaths-requires c =
    let rs = c.args.block.now in
    let whole : system_of c.loop-recursion.wreaths.items ≡ block_system rs =
    c.loop-recursion.invariant ∙ ap (map (placed_recursion c.args.places.now)) (take_all c.loop-recursion.recursion-index rs c.loop-recursion-test.false) ∙ same_system rs c.requires.names c.args.places.now c.requires.places in
    subst (IsBlock c.args.a) (sym whole) (IsBlock-block rs c.requires.names c.args.a (omega (arith, c.letters-letters.ensures.value, c.letters-letters.ensures.least)) (omega (arith, c.letters-letters.ensures.value, c.letters-letters.ensures.most)) c.requires.most c.requires.lines)

pub returns : goal.returns
returns c =
    let rs = c.args.block.now in
    let whole : system_of c.loop-recursion.wreaths.items ≡ block_system rs =
    c.loop-recursion.invariant ∙ ap (map (placed_recursion c.args.places.now)) (take_all c.loop-recursion.recursion-index rs c.loop-recursion-test.false) ∙ same_system rs c.requires.names c.args.places.now c.requires.places in
    c.from_wreaths.ensures ∙ ap (viewed c.args.a) whole
