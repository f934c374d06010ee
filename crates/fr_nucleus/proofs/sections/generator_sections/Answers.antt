use Rattle.std.proofs.Common.{arith, ap, subst, ◌≡◌, ◌∙◌, List}
use Rattle.std.proofs.lemmas.Result.{err_from_is_err_and}
use Rattle.fr_machine.specs.declared.row.Row.{Row}
use Rattle.fr_nucleus.specs.Orders.{machine_at}
use Rattle.fr_nucleus.specs.Joining.{HasAll}
use Rattle.fr_nucleus.specs.Faults.{IsSectionFault}
use Rattle.fr_nucleus.proofs.ListLaws.{IfErr-given}
use Rattle.fr_nucleus.proofs.GeneratorLaws.{IsCollected-start, IsCollected-more, AreSections-from, AreFewRows-one, alphabet_first, generator_minimal, section_fault}
use Rattle.fr_nucleus.proofs.sections.generator_sections.Goals as goal

pub loop-g-init : goal.loop-g-init
loop-g-init c = record {
  alphabet = c.in_ok-found.ensures.alphabet ∙ c.alphabet.ensures.value ∙ ap (λ m. m.alphabet) (c.machine.ensures.value ∙ c.index-gens-0.is) ∙ alphabet_first c.args.gens.now c.index-gens-0.result c.requires.some;
  rows = IsCollected-start c.args.gens.now c.in_ok-found.found.rows (AreFewRows-one c.in_ok-found.found.rows c.in_ok-found.ensures.size c.in_ok-found.ensures.alike) c.in_ok-found.ensures.size;
}

pub returns-in_err-found-2-clause-err : goal.returns-in_err-found-2-clause-err
returns-in_err-found-2-clause-err c =
    let gens = c.args.gens.now in
    let g = c.g-item.result in
    let m = generator_minimal gens c.loop-g.g-index g c.loop-g-test.true c.requires.over c.g-item.is c.machine-in-loop-g.ensures.valid in
    let p = err_from_is_err_and c.from_residual-in_err-found-2.result c.from_residual-in_err-found-2.ensures.1 in
    let same : c.machine-in-loop-g.result.now.rows ≡ (machine_at gens c.loop-g.g-index).rows = ap (λ v. v.rows) (c.machine-in-loop-g.ensures.value ∙ m.0) in
    IfErr-given c.from_residual-in_err-found-2.result p.0 c.in_err-found-2.field-0.0 (IsSectionFault gens) p.1 p.2
    (section_fault gens c.loop-g.found.rows c.loop-g.g-index c.loop-g-test.true m.1 c.loop-g.invariant.rows c.machine-in-loop-g.result.now.rows same c.in_err-found-2.field-0.0 c.in_err-found-2.ensures.err)

pub loop-g-preserved : goal.loop-g-preserved
loop-g-preserved c =
    let gens = c.args.gens.now in
    let g = c.g-item.result in
    let m = generator_minimal gens c.loop-g.g-index g c.loop-g-test.true c.requires.over c.g-item.is c.machine-in-loop-g.ensures.valid in
    let same : c.machine-in-loop-g.result.now.rows ≡ (machine_at gens c.loop-g.g-index).rows = ap (λ v. v.rows) (c.machine-in-loop-g.ensures.value ∙ m.0) in
    let H : List Row → Type 0 = λ ns. HasAll c.loop-g.found.rows ns c.in_ok-found-2.found.rows in
    record {
      alphabet = c.in_ok-found-2.ensures.alphabet ∙ c.loop-g.invariant.alphabet;
      rows = IsCollected-more gens c.loop-g.found.rows c.loop-g.g-index c.loop-g-test.true m.1 c.loop-g.invariant.rows c.in_ok-found-2.found.rows (subst H same c.in_ok-found-2.ensures.rows);
    }

pub returns-clause-sections : goal.returns-clause-sections
returns-clause-sections c = AreSections-from c.args.gens.now c.loop-g.found.rows c.loop-g.g-index (omega (arith, c.loop-g-test.false, c.loop-g.auto.g-index-end)) c.loop-g.invariant.rows
