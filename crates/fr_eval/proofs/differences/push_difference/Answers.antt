use Rattle.std.proofs.Common.{ℕ, ◌<◌, ◌++◌, length, refl, sym, ◌∙◌, ap, subst, arith}
use Rattle.fr_model.specs.Terms.{act}
use Rattle.fr_model.proofs.TermLaws.{length-act}
use Rattle.fr_alphabet.proofs.Readings.{IsWord-weaker}
use Rattle.fr_eval.proofs.AnswerLaws.{difference_text-pieces, word_text-some}
use Rattle.fr_eval.proofs.ReadLaws.{stands_after}
use Rattle.fr_eval.proofs.differences.push_difference.Goals as goal

pub push_digits-requires : goal.push_digits-requires
push_digits-requires g c =
    IsWord-weaker (g.S.Store.view.alphabet c.args.store.now) 8 (omega (arith, c.letters-most.ensures.most, c.letters-most.ensures.value, c.alphabet.ensures)) c.args.word.now c.requires.word

pub returns-clause-text : goal.returns-clause-text
returns-clause-text g c = λ t u s r.
    let view = g.S.Store.view in
    let w = c.args.word.now in
    let some = c.requires.some in
    let left_some : 0 < length (act t w) = subst (λ (n : ℕ). 0 < n) (sym (length-act t w)) some in
    let right_some : 0 < length (act u w) = subst (λ (n : ℕ). 0 < n) (sym (length-act u w)) some in
    let later = stands_after view c.args.store.now c.push_image.new.store c.args.b u c.in_ok-push_image.ensures.reads r in
    difference_text-pieces t u w (act t w) (act u w) c.args.out.now.items c.extend_from_slice.new.self.items c.push_digits.new.out.items c.extend_from_slice-2.new.self.items c.push_image.new.out.items
    c.extend_from_slice-3.new.self.items c.push_image-2.new.out.items c.push.new.self.items refl refl
    c.in_ok-extend_from_slice.ensures.items
    (c.in_ok-push_digits.ensures ∙ ap (λ l. c.extend_from_slice.new.self.items ++ l) (sym (word_text-some w some)))
    c.in_ok-extend_from_slice-2.ensures.items
    (c.in_ok-push_image.ensures.image t s ∙ ap (λ l. c.extend_from_slice-2.new.self.items ++ l) (sym (word_text-some (act t w) left_some)))
    c.in_ok-extend_from_slice-3.ensures.items
    (c.in_ok-push_image-2.ensures.image u later ∙ ap (λ l. c.extend_from_slice-3.new.self.items ++ l) (sym (word_text-some (act u w) right_some)))
    c.in_ok-push.ensures.items
