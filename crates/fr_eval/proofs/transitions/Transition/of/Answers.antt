use Rattle.std.proofs.Common.{ℕ, ◌∷◌, [], sym, ◌∙◌, ap, subst}
use Rattle.fr_model.specs.Words.{IsLetter}
use Rattle.fr_model.specs.Terms.{Section}
use Rattle.fr_store.proofs.StoreLaws.{Reads-trans}
use Rattle.fr_eval.proofs.ReadLaws.{stands_after, stands_before, stands_over}
use Rattle.fr_eval.proofs.transitions.Transition.of.Goals as goal

pub returns-clause-is_transition : goal.returns-clause-is_transition
returns-clause-is_transition g c =
    let view = g.S.Store.view in
    let old = c.args.store.now in
    let mid = c.output.new.self in
    let new = c.section-to.new.self in
    let h = c.args.from in
    let first = c.output.ensures.reads in
    let second = c.section-to.ensures.reads in
    let all = Reads-trans view g.met.S.Store.kin_onward old mid new first second in
    let over : IsLetter (view.alphabet old) c.apply-output.result = subst (λ (d : ℕ). IsLetter d c.apply-output.result) c.output.ensures.permutes.degree c.apply-output.ensures.letter in
    record {
      output = subst (λ (d : ℕ). IsLetter d c.apply-output.result) (sym all.continues.alphabet) over;
      known = c.section-to.ensures.known;
      image = λ t s. c.output.ensures.images t c.args.input (stands_before view old new h t all s) c.requires.letter ∙ ap (λ y. y ∷ []) (sym c.apply-output.ensures.value);
      section = λ t s. stands_over view mid new c.section-to.result (Section t (c.args.input ∷ [])) second
          (c.section-to.ensures.section t (stands_after view old mid h t first (stands_before view old new h t all s)));
    }
