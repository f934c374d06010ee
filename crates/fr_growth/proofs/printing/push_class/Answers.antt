use Rattle.std.proofs.lemmas.Result.{on_ok_weaker}
use Rattle.fr_growth.proofs.TextLaws.{class_text-Exponential}
use Rattle.fr_growth.proofs.printing.push_class.Goals as goal

pub returns-in_ok-push-in-Exponential-clause-ok : goal.returns-in_ok-push-in-Exponential-clause-ok
returns-in_ok-push-in-Exponential-clause-ok c = on_ok_weaker c.print_word-in-Exponential-2.result (λ h.
    class_text-Exponential c.in-Exponential.at c.in-Exponential.u c.in-Exponential.v c.args.c.now c.args.out.now.items c.extend_from_slice-in-Exponential.new.self.items c.print_word.new.out.items
    c.extend_from_slice-in-Exponential-2.new.self.items c.print_word-in-Exponential.new.out.items c.push.new.self.items c.print_word-in-Exponential-2.new.out.items
    c.in-Exponential.is c.in_ok-extend_from_slice-in-Exponential.ensures.items c.in_ok-print_word-in-Exponential.ensures.ok c.in_ok-extend_from_slice-in-Exponential-2.ensures.items
    c.in_ok-print_word-in-Exponential-2.ensures.ok c.in_ok-push-in-Exponential.ensures.items h) c.print_word-in-Exponential-2.ensures.ok
