use Rattle.std.proofs.Common.{◌≡◌, ◌+◌, inl, inr, [], ◌∷◌, ◌++◌, length, sym, ◌∙◌, ap, arith}
use Rattle.fr_minimal.proofs.GroupLaws.{joins-alone}
use Rattle.fr_minimal.proofs.search.Search.new.Goals as goal

pub invariant_of-search : goal.invariant_of-search
invariant_of-search c =
    let empty : length c.in_ok-with_capacity.field-0.items ≡ 0 = ap length c.in_ok-with_capacity.ensures.items in
    let size = c.in_ok-new.ensures.size in
    record {
      inside = λ i l. absurd (omega arith);
      shared = λ images h i l. ap images (c.in_ok-new.ensures.alone i (omega (arith, size)));
      counted = empty ∙ sym (joins-alone c.in_ok-new.field-0.parents.items (λ i l. c.in_ok-new.ensures.alone i (omega (arith, size))));
      room = omega (arith, size, c.in_ok-with_capacity.ensures.capacity);
    }

pub returns-clause-met : goal.returns-clause-met
returns-clause-met c =
    let empty = c.in_ok-with_capacity.ensures.items in
    elim c.meet.ensures.met [
      | inl m ↦
          let none : length c.in_ok-with_capacity.field-0.items ≡ 0 = ap length empty in
          let same : c.args.first.left ∷ [] ≡ (c.args.left_rows + c.args.first.right) ∷ [] = m.0 (λ k. k ∷ []) (λ i l. absurd (omega arith)) in
          let equal : c.args.first.left ≡ c.args.left_rows + c.args.first.right = cc in
          absurd (omega (arith, equal, c.requires.left))
      | inr m ↦ m ∙ ap (λ xs. xs ++ c.args.first ∷ []) empty
    ]
