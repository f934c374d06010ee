use Rattle.std.proofs.Common.{rules, ℕ, List, if◌then◌else◌, ◌≡◌, [], ◌∷◌, ◌++◌, ap, sym, ◌∙◌}
use Rattle.std.specs.Str.{bytes_eq}
use Rattle.fr_expr.specs.declared.env.Binding.{Binding}
use Rattle.fr_expr.specs.Tables.{Table, items_of, bindings_at}
use Rattle.fr_expr.proofs.BindingLaws.{pushed_at, same_at, on_err}
use Rattle.fr_expr.proofs.env.Env.bind.Goals as goal

pub returns-in_err-push-clause-kept : goal.returns-in_err-push-clause-kept
returns-in_err-push-clause-kept c = on_err c.from_residual.result (λ q.
    same_at c.args.name.now c.args.self.now.bindings (c.get_mut.follows.lender c.push.new.self) c.push.new.self ((c.get_mut.follows.holds c.push.new.self).3 (search rules))
    (c.in_err-push.ensures.items ∙ ap items_of c.in-Some.ensures.value) q)

pub returns-in-Some-clause-bound : goal.returns-in-Some-clause-bound
returns-in-Some-clause-bound c = λ q.
    pushed_at c.args.name.now c.args.self.now.bindings (c.get_mut.follows.lender c.push.new.self) c.in-Some.bindings.now.items c.push.new.self (record { line = c.args.line; handle = c.args.handle })
    ((c.get_mut.follows.holds c.push.new.self).3 (search rules)) (sym (ap items_of c.in-Some.ensures.value)) c.in_ok-push.ensures.items q

pub returns-clause-bound : goal.returns-clause-bound
returns-clause-bound c = λ q.
    let name = c.in_ok-from_slice.field-0.items in
    let same : name ≡ c.args.name.now = c.in_ok-from_slice.ensures.items in
    let before = c.get_mut.follows.lender-at-none in
    let none : bindings_at before name ≡ [] = ap (λ (t : Table). bindings_at t name) c.get_mut.follows.holds-at-none ∙ ap (bindings_at c.args.self.now.bindings) same ∙ sym (ap items_of c.in_default.ensures.value) in
    pushed_at name before c.insert.new.self [] c.push-2.new.self (record { line = c.args.line; handle = c.args.handle }) c.in_ok-insert.ensures.updates none (c.in_ok-push-2.ensures.items ∙ ap (λ (l : List Binding). l ++ record { line = c.args.line; handle = c.args.handle } ∷ []) c.new-first.ensures.items) q
    ∙ ap (λ (t : Table). bindings_at t q ++ (if bytes_eq name q then record { line = c.args.line; handle = c.args.handle } ∷ [] else [])) c.get_mut.follows.holds-at-none
    ∙ ap (λ (n : List ℕ). bindings_at c.args.self.now.bindings q ++ (if bytes_eq n q then record { line = c.args.line; handle = c.args.handle } ∷ [] else [])) same
