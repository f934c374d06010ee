use Rattle.std.proofs.Common.{ℕ, ◌+◌, List, ap, subst, sym, ◌∙◌}
use Rattle.fr_product.proofs.PeelLaws.{IsUnreachedPart, IsUnreachedPart-push, IsUnreachedPart-pass}
use Rattle.fr_product.proofs.limits.unreached.Goals as goal
use Rattle.fr_product.proofs.limits.unreached.Goals.{then-count-eq0+in_ok-push, else-count-eq0}

pub loop-s-preserved : goal.loop-s-preserved
loop-s-preserved c = elim c.if-count-eq0.branch [
  | then-count-eq0+in_ok-push w ↦ IsUnreachedPart-push c.args.arrivals.now c.loop-s.todo.items c.if-count-eq0.todo.items c.loop-s.s c.loop-s.invariant w.if-count-eq0.true (ap (λ v. v.items) w.todo-is ∙ w.in_ok-push.ensures.items)
  | else-count-eq0 w ↦
      let P : List ℕ → Type 0 = λ xs. IsUnreachedPart c.args.arrivals.now xs (c.loop-s.s + 1) in
      subst P (sym (ap (λ v. v.items) w.todo-is)) (IsUnreachedPart-pass c.args.arrivals.now c.loop-s.todo.items c.loop-s.s c.loop-s.invariant w.if-count-eq0.false)
]
