use Rattle.std.proofs.Common.{arith, ℕ, ◌≡◌, inl, List, length, replicate, get_or, ap, ◌∙◌}
use Rattle.std.proofs.lemmas.List.{length-replicate, get_or-replicate}
use Rattle.fr_machine.specs.Walks.{IsFixed}
use Rattle.fr_machine.proofs.fixed.FixedWalk.new.Goals as goal

IsFixed-start : (index table : List ℕ) → index ≡ replicate 1024 0 → table ≡ replicate 1024 0 → IsFixed index table 0
IsFixed-start index table e f = record {
  size = ap length e ∙ length-replicate {A = ℕ} 1024 0;
  room = ap length f ∙ length-replicate {A = ℕ} 1024 0;
  few = omega arith;
  at = λ i l. absurd (omega arith);
  back = λ k l. inl (ap (λ xs. get_or xs k 0) e ∙ get_or-replicate 1024 k 0 0 l);
}

pub invariant_of-result : goal.invariant_of-result
invariant_of-result c = IsFixed-start _ _ (c.in_ok-vec.ensures.items_if_clones_equal (λ y e. e)) (c.in_ok-vec-2.ensures.items_if_clones_equal (λ y e. e))
