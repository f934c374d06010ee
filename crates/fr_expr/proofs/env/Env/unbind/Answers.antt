use Rattle.std.proofs.Common.{rules, take, arith, ◌-◌, ap, sym, ◌∙◌}
use Rattle.fr_expr.specs.Tables.{items_of}
use Rattle.fr_expr.proofs.BindingLaws.{popped_at}
use Rattle.fr_expr.proofs.env.Env.unbind.Goals as goal

pub returns-in-Some : goal.returns-in-Some
returns-in-Some c = λ q.
    popped_at c.args.name.now c.args.self.now.bindings (c.get_mut.follows.lender c.pop.new.self) c.in-Some.bindings.now.items c.pop.new.self
    ((c.get_mut.follows.holds c.pop.new.self).3 (search rules)) (sym (ap items_of c.in-Some.ensures.value)) (c.pop.ensures.rest ∙ ap (λ n. take (n - 1) c.in-Some.bindings.now.items) (omega (arith, c.in-Some.bindings.now.ok.0))) q
