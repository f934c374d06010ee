use Rattle.std.proofs.Common.{ap, sym, take, drop, length, get_or, ◌-◌, ◌∙◌, ◌≡◌, Some}
use Rattle.std.proofs.lemmas.List.{take_rest}
use Rattle.fr_canon.proofs.PrintLaws.{state_text-pieces}
use Rattle.fr_canon.proofs.printing.push_state.Goals as goal

pub returns-clause-ok : goal.returns-clause-ok
returns-clause-ok c = λ q h.
    let numbers = c.args.numbers.now in
    let same : c.of_rank.result ≡ Some q.perm = c.of_rank.ensures.only q.perm h.permutes (ap (λ l. get_or l 0 0) (sym h.written)) in
    let perm : c.unwrap-perm.result ≡ q.perm = cc in
    state_text-pieces c.args.number q c.args.out.now.items c.push_decimal.new.out.items c.extend_from_slice.new.self.items c.push_numbers.new.out.items c.push.new.self.items c.print_cycles.new.out.items c.push-2.new.self.items
    (take (length numbers - 1) (drop 1 numbers)) c.unwrap-perm.result (take_rest numbers 1 ∙ ap (drop 1) h.written) perm
    c.in_ok-push_decimal.ensures.ok c.in_ok-extend_from_slice.ensures.items c.in_ok-push_numbers.ensures.ok c.in_ok-push.ensures.items c.in_ok-print_cycles.ensures.ok c.in_ok-push-2.ensures.items
