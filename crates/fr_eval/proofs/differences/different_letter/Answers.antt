use Rattle.std.proofs.Common.{ℕ, ◌∷◌, [], length, sym, subst}
use Rattle.fr_model.specs.Words.{IsLetter}
use Rattle.fr_model.specs.Terms.{Term}
use Rattle.fr_model.specs.Separation.{IsSeparatingWord}
use Rattle.fr_minimal.specs.Searches.{IsLeastDifference}
use Rattle.fr_store.specs.Store.{Stands}
use Rattle.fr_eval.proofs.AnswerLaws.{letter_separates}
use Rattle.fr_eval.proofs.DifferenceLaws.{AgreeOn-letters, if_some, if_none}
use Rattle.fr_eval.proofs.ReadLaws.{stands_after}
use Rattle.fr_eval.proofs.differences.different_letter.Goals as goal

pub returns-clause-letter : goal.returns-clause-letter
returns-clause-letter g c =
    let p = c.output-left.result in
    let q = c.output-right.result in
    if_some (IsLeastDifference (length p) p q) (IsLetter (g.S.Store.view.alphabet c.args.store.now)) c.different_image.result
    (λ x least. subst (λ (d : ℕ). IsLetter d x) c.output-left.ensures.permutes.degree least.letter)
    c.different_image.ensures.found

pub returns-clause-separates : goal.returns-clause-separates
returns-clause-separates g c =
    let view = g.S.Store.view in
    let old = c.args.store.now in
    let mid = c.output-left.new.self in
    let d = view.alphabet old in
    let p = c.output-left.result in
    let q = c.output-right.result in
    let reads = c.output-left.ensures.reads in
    if_some (IsLeastDifference (length p) p q) (λ x. (t u : Term) → Stands view old c.args.a t → Stands view old c.args.b u → IsSeparatingWord d t u (x ∷ [])) c.different_image.result
    (λ x least t u s r.
    let later : Stands view mid c.args.b u = stands_after view old mid c.args.b u reads r in
    letter_separates d t u p q x (λ y l. c.output-left.ensures.images t y s l) (λ y l. c.output-right.ensures.images u y later (subst (λ (k : ℕ). IsLetter k y) (sym reads.continues.alphabet) l))
    (subst (λ (k : ℕ). IsLeastDifference k p q x) c.output-left.ensures.permutes.degree least))
    c.different_image.ensures.found

pub returns-clause-none : goal.returns-clause-none
returns-clause-none g c =
    let view = g.S.Store.view in
    let old = c.args.store.now in
    let mid = c.output-left.new.self in
    let d = view.alphabet old in
    let p = c.output-left.result in
    let q = c.output-right.result in
    let reads = c.output-left.ensures.reads in
    if_none c.different_image.result
    (λ same t u s r.
    let later : Stands view mid c.args.b u = stands_after view old mid c.args.b u reads r in
    AgreeOn-letters d t u p q (λ y l. c.output-left.ensures.images t y s l) (λ y l. c.output-right.ensures.images u y later (subst (λ (k : ℕ). IsLetter k y) (sym reads.continues.alphabet) l))
    (λ y l. same y (subst (λ (k : ℕ). IsLetter k y) (sym c.output-left.ensures.permutes.degree) l)))
    c.different_image.ensures.none
