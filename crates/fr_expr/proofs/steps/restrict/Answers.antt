use Rattle.std.proofs.Common.{ℕ, ◌≡◌, ◌+◌, take, List, sym, ◌∙◌, subst, arith}
use Rattle.std.proofs.lemmas.List.{take_all}
use Rattle.fr_model.specs.Words.{IsWord}
use Rattle.fr_model.specs.Terms.{Section}
use Rattle.fr_store.specs.Store.{StandsForTerm}
use Rattle.fr_store.proofs.StoreLaws.{Reads-trans}
use Rattle.fr_expr.proofs.EvaluationLaws.{Reads-none}
use Rattle.fr_expr.proofs.RestrictionLaws.{letter_at, stands_first, stands_next}
use Rattle.fr_expr.proofs.steps.restrict.Goals as goal

pub loop-x-init : goal.loop-x-init
loop-x-init g c = (
  c.requires.known,
  Reads-none g.S.Store.view g.met.S.Store.kin_to_self c.args.store.now,
  λ t s. stands_first (g.S.Store.view.alphabet c.args.store.now) (g.S.Store.view.known c.args.store.now) c.args.a t c.letters-x-items.result.now s,
)

pub section-h-requires-clause-known : goal.section-h-requires-clause-known
section-h-requires-clause-known g c = c.loop-x.invariant.0

pub section-h-requires-clause-letter : goal.section-h-requires-clause-letter
section-h-requires-clause-letter g c =
    let view = g.S.Store.view in
    let same : c.letters-x-items.result.now ≡ c.args.w.now = c.letters-x-items.ensures.value in
    let word = subst (λ (v : List ℕ). IsWord (view.alphabet c.loop-x.store) v) (sym same) (subst (λ (d : ℕ). IsWord d c.args.w.now) (sym c.loop-x.invariant.1.continues.alphabet) c.requires.word) in
    letter_at (view.alphabet c.loop-x.store) c.letters-x-items.result.now c.loop-x.x-index word c.loop-x-test.true

pub loop-x-preserved : goal.loop-x-preserved
loop-x-preserved g c =
    let view = g.S.Store.view in
    let old = c.args.store.now in
    let mid = c.loop-x.store in
    let new = c.section-h.new.self in
    let reads = c.section-h.ensures.reads in
    let same : c.letters-x-items.result.now ≡ c.args.w.now = c.letters-x-items.ensures.value in (
      c.section-h.ensures.known,
      Reads-trans view g.met.S.Store.kin_onward old mid new c.loop-x.invariant.1 reads,
      λ t s.
          let word : IsWord (view.alphabet mid) c.letters-x-items.result.now = subst (λ (v : List ℕ). IsWord (view.alphabet mid) v) (sym same) (subst (λ (d : ℕ). IsWord d c.args.w.now) (sym c.loop-x.invariant.1.continues.alphabet) c.requires.word) in
          let here = c.loop-x.invariant.2 t s in
          let next = c.section-h.ensures.section (Section t (take c.loop-x.x-index c.letters-x-items.result.now)) here in
          subst (λ (d : ℕ). StandsForTerm d (view.known new) c.section-h.result (Section t (take (c.loop-x.x-index + 1) c.letters-x-items.result.now))) (sym reads.continues.alphabet)
          (stands_next (view.alphabet mid) (view.known new) c.section-h.result t c.letters-x-items.result.now c.loop-x.x-index word c.loop-x-test.true here.term.0 next),
    )

pub returns-clause-section : goal.returns-clause-section
returns-clause-section g c = λ t s.
    let view = g.S.Store.view in
    let same : c.letters-x-items.result.now ≡ c.args.w.now = c.letters-x-items.ensures.value in
    let whole : take c.loop-x.x-index c.letters-x-items.result.now ≡ c.args.w.now =
    take_all c.loop-x.x-index c.letters-x-items.result.now (omega (arith, c.loop-x-test.false)) ∙ same in
    subst (λ (v : List ℕ). StandsForTerm (view.alphabet c.loop-x.store) (view.known c.loop-x.store) c.loop-x.h (Section t v)) whole (c.loop-x.invariant.2 t s)

pub returns-clause-known : goal.returns-clause-known
returns-clause-known g c = c.loop-x.invariant.0

pub returns-clause-reads : goal.returns-clause-reads
returns-clause-reads g c = c.loop-x.invariant.1
