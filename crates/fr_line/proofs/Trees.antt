-- A seat that is whole, and the seats that were split from it and are still out.
use Rattle.std.proofs.Common.{◌≡◌, ℕ, ◌+◌, List, [], ◌∷◌, ◌++◌, refl, sym, ap, ◌∙◌, arith}
use mathlib.Core.Option.{some}
use lib.ListN.{get_elem?}
use Rattle.fr_line.specs.declared.Branch.{Branch}
use Rattle.fr_line.specs.Lines.{below, here, count, total, Woven, Whole, IsTree, IsLive, cut, sprout}
use Rattle.fr_line.proofs.Totals.{total_one, total_snoc}
use Rattle.fr_line.proofs.Weaving.{woven_split, woven_join, whole_alone, head_of, below_yes, here_append, count_append}

-- where one seat is whole, its line is the tree
pub tree_of_whole : {V : Type 0} (line : V → List Branch) (views : List V) (i : ℕ) (v : V) → get_elem? views i ≡ some v → Woven line views → Whole (line v) → IsTree (line v ∷ [])
tree_of_whole line views i v at r whole = record {
  root = let t = only (here []) (λ l e. ap (here []) e) refl in let h = r.root in omega arith;
  child = λ k a. let t = only (here (k ∷ a)) (λ l e. ap (here (k ∷ a)) e) refl in let u = only (count a) (λ l e. ap (count a) e) refl in
      let z : here (k ∷ a) (line v) + 0 ≡ total (λ w. here (k ∷ a) (line w)) views = omega arith in
      z ∙ (r.child k a ∙ ap (below k) (let y : total (λ w. count a (line w)) views ≡ count a (line v) + 0 = omega arith in y));
}
  where
    only : (f : List Branch → ℕ) → ((l : List Branch) → l ≡ [] → f l ≡ f []) → f [] ≡ 0 → total (λ w. f (line w)) views ≡ f (line v)
    only f same none = total_one (λ w. f (line w)) views i v at (λ j u other at'. same (line u) (whole_alone line views i j v u other at at' r whole) ∙ none)

-- the one that all came back to is whole
pub tree_whole : (l : List Branch) → IsTree (l ∷ []) → Whole l
tree_whole l r = record {
  root = let h = r.root in omega arith;
  child = λ k a lt. let h = r.child k a in let e : below k (count a l + 0) ≡ 1 = below_yes k (count a l + 0) (omega arith) in omega arith;
}

-- one more seat is out
pub tree_split : (l : List Branch) (outs : List (List Branch)) → IsLive l → IsTree (l ∷ outs) → IsTree (cut l ∷ (outs ++ sprout l ∷ []))
tree_split l outs live r = let h = head_of l live in woven_split (λ (x : List Branch). x) (l ∷ outs) 0 l (cut l) (sprout l) h.0 h.1 refl h.2 (ap cut h.2) (ap sprout h.2) r

-- the first of those that are out comes back
pub tree_join : (l u : List Branch) (outs : List (List Branch)) → IsTree (l ∷ u ∷ outs) → IsTree ((l ++ u) ∷ outs)
tree_join l u outs r =
    let j : IsTree ((l ++ u) ∷ [] ∷ outs) = woven_join (λ (x : List Branch). x) (l ∷ u ∷ outs) 0 1 l u (l ++ u) [] refl refl refl refl r in record {
      root = let h = j.root in omega arith;
      child = λ k a. let h = j.child k a in
          let z : here (k ∷ a) (l ++ u) + total (λ x. here (k ∷ a) x) outs ≡ here (k ∷ a) (l ++ u) + (0 + total (λ x. here (k ∷ a) x) outs) = omega arith in
          z ∙ (h ∙ ap (below k) (let y : count a (l ++ u) + (0 + total (λ x. count a x) outs) ≡ count a (l ++ u) + total (λ x. count a x) outs = omega arith in y));
    }

-- the last of those that are out comes back
pub tree_join_last : (l u : List Branch) (outs : List (List Branch)) → IsTree (l ∷ (outs ++ u ∷ [])) → IsTree ((l ++ u) ∷ outs)
tree_join_last l u outs r = record {
  root = let h = r.root in let e = heres [] in omega arith;
  child = λ k a. let h = r.child k a in heres (k ∷ a) ∙ (h ∙ ap (below k) (sym (counts a)));
}
  where
    heres : (a : List ℕ) → here a (l ++ u) + total (λ x. here a x) outs ≡ here a l + total (λ x. here a x) (outs ++ u ∷ [])
    heres a = let p = here_append a l u in let q = total_snoc (λ (x : List Branch). here a x) outs u in omega arith

    counts : (a : List ℕ) → count a (l ++ u) + total (λ x. count a x) outs ≡ count a l + total (λ x. count a x) (outs ++ u ∷ [])
    counts a = let p = count_append a l u in let q = total_snoc (λ (x : List Branch). count a x) outs u in omega arith
