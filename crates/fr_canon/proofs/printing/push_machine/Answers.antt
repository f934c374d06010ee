use Rattle.std.proofs.Common.{ap, ◌≡◌, ◌∙◌, ◌+◌, ◌/◌, length}
use Rattle.std.proofs.lemmas.Result.{on_ok_weaker}
use Rattle.fr_alphabet.proofs.CycleTexts.{Keeps-more, Keeps-self, Keeps-trans}
use Rattle.fr_canon.proofs.PrintLaws.{machine_text-pieces, count_is}
use Rattle.fr_canon.proofs.printing.push_machine.Goals as goal

pub returns-clause-ok : goal.returns-clause-ok
returns-clause-ok c = on_ok_weaker c.push_states.result (λ written qs a e.
    let numbers = c.args.numbers.now in
    let count : length numbers / (c.letters.result + 1) ≡ length qs = ap (λ d. length numbers / (d + 1)) c.letters.ensures.value ∙ count_is c.args.a qs numbers a e in
    machine_text-pieces qs (length numbers / (c.letters.result + 1)) c.args.out.now.items c.extend_from_slice.new.self.items c.push_decimal.new.out.items c.push.new.self.items c.push_states.new.out.items count
    c.in_ok-extend_from_slice.ensures.items c.in_ok-push_decimal.ensures.ok c.in_ok-push.ensures.items (written qs a e)) c.push_states.ensures.ok

pub returns-clause-kept : goal.returns-clause-kept
returns-clause-kept c =
    (Keeps-trans _ _ _ (Keeps-more _ _ _ _ (Keeps-more _ _ _ _ (Keeps-more _ _ _ _ (Keeps-self c.args.out.now.items) c.in_ok-extend_from_slice.ensures.items) c.in_ok-push_decimal.ensures.ok) c.in_ok-push.ensures.items) (record { kept = c.push_states.ensures.kept })).kept
