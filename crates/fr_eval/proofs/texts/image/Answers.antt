use Rattle.std.proofs.Common.{ℕ, ◌≡◌, ◌≢◌, ◌<◌, ap, refl, sym, ◌∙◌, ◌++◌, ◌∷◌, [], append_assoc, length, map, subst, arith}
use Rattle.std.proofs.lemmas.Bool.{eqb-true, eqb-false}
use Rattle.std.proofs.lemmas.List.{nil_from_length}
use Rattle.fr_model.specs.Terms.{act}
use Rattle.fr_model.proofs.AlikeLaws.{act-nil}
use Rattle.fr_model.proofs.TermLaws.{length-act}
use Rattle.fr_alphabet.specs.Writing.{letter_digit, word_text}
use Rattle.fr_eval.proofs.AnswerLaws.{word_text-some}
use Rattle.fr_eval.proofs.texts.image.Goals as goal

pub returns-then-is_empty-clause-text : goal.returns-then-is_empty-clause-text
returns-then-is_empty-clause-text g c = λ t s.
    let w = c.args.w.now in
    let none : length c.letters-letters.result.now ≡ 0 = eqb-true (length c.letters-letters.result.now) 0 (sym c.is_empty.ensures ∙ c.if-is_empty.true) in
    let empty : w ≡ [] = sym c.letters-letters.ensures.value ∙ nil_from_length c.letters-letters.result.now none in
    let image : act t w ≡ [] = ap (act t) empty ∙ act-nil t in (
      word_text (act t w) ++ 10 ∷ [],
      refl,
      c.in_ok-extend_from_slice.ensures.items ∙ ap (λ v. c.args.out.now.items ++ (word_text v ++ 10 ∷ [])) (sym image),
    )

pub returns-clause-text : goal.returns-clause-text
returns-clause-text g c = λ t s.
    let w = c.args.w.now in
    let ws = c.letters-letters.result.now in
    let apart : length ws ≢ 0 = eqb-false (length ws) 0 (sym c.is_empty.ensures ∙ c.if-is_empty.false) in
    let some : 0 < length ws = omega arith in
    let image_some : 0 < length (act t ws) = subst (λ (n : ℕ). 0 < n) (sym (length-act t ws)) some in
    let digits : map letter_digit (act t ws) ≡ word_text (act t w) = sym (word_text-some (act t ws) image_some) ∙ ap (λ v. word_text (act t v)) c.letters-letters.ensures.value in (
      word_text (act t w) ++ 10 ∷ [],
      refl,
      c.in_ok-push.ensures.items ∙ ap (λ l. l ++ 10 ∷ []) (c.in_ok-push_image.ensures.image t s ∙ ap (λ v. c.args.out.now.items ++ v) digits) ∙ append_assoc _ (word_text (act t w)) (10 ∷ []),
    )
