-- A split and a join keep the tree, and where one seat has the whole of it, the others have nothing.
use Rattle.std.proofs.Common.{◌≡◌, ◌≢◌, ℕ, suc, ◌+◌, ◌≤◌, ◌<◌, Bool, true, false, nat_eq, ◌&&◌, List, [], ◌∷◌, ◌++◌, length, set, refl, sym, ap, ◌∙◌, arith}
use mathlib.Core.Option.{some}
use lib.ListN.{get_elem?}
use native.Mathlib.Decide.{dec_le}
use Rattle.std.proofs.Math.Nat.{lt_of_not-le}
use Rattle.fr_line.specs.declared.Branch.{Branch}
use Rattle.fr_line.specs.Lines.{branch, is_same, only_if, below, here, count, total, Woven, Whole, IsLive, cut, sprout}
use Rattle.fr_line.proofs.Totals.{total_set, total_snoc, total_at, total_two, alone}

pub same_self : (a : List ℕ) → is_same a a ≡ true
same_self [] = refl
same_self (x ∷ xs) = grind (arith, same_self xs)

pub same_eq : (a b : List ℕ) → is_same a b ≡ true → a ≡ b
same_eq [] [] e = refl
same_eq [] (y ∷ ys) e = grind arith
same_eq (x ∷ xs) [] e = grind arith
same_eq (x ∷ xs) (y ∷ ys) e = grind (arith, same_eq xs ys)

pub below_yes : (k n : ℕ) → k < n → below k n ≡ 1
below_yes k n h = grind arith

pub below_no : (k n : ℕ) → n ≤ k → below k n ≡ 0
below_no k n h = grind arith

below_le : (k n : ℕ) → below k n ≤ 1
below_le k n = grind arith

-- one number more is below the next bound
pub below_more : (k n : ℕ) → below k n + only_if (nat_eq k n) 1 ≡ below k (suc n)
below_more k n = grind arith

-- an address that does not stand in a line has no count there
pub untouched : (a : List ℕ) (l : List Branch) → here a l ≡ 0 → count a l ≡ 0
untouched a [] e = refl
untouched a (b ∷ bs) e = grind (arith, untouched a bs)

-- a cut changes no address
pub here_cut : (a : List ℕ) (l : List Branch) → here a (cut l) ≡ here a l
here_cut a [] = refl
here_cut a (b ∷ bs) = refl

pub here_append : (a : List ℕ) (l m : List Branch) → here a (l ++ m) ≡ here a l + here a m
here_append a [] m = omega arith
here_append a (b ∷ bs) m = let h = here_append a bs m in omega arith

pub count_append : (a : List ℕ) (l m : List Branch) → count a (l ++ m) ≡ count a l + count a m
count_append a [] m = omega arith
count_append a (b ∷ bs) m = let h = count_append a bs m in omega arith

module _ {V : Type 0} (line : V → List Branch) where
  abbrev heres : List ℕ → V → ℕ
  heres a v = here a (line v)

  abbrev counts : List ℕ → V → ℕ
  counts a v = count a (line v)

  -- no address stands twice
  pub once : (views : List V) → Woven line views → (a : List ℕ) → total (heres a) views ≤ 1
  once views r [] = let h = r.root in omega arith
  once views r (k ∷ a) = let h = r.child k a in let b = below_le k (total (counts a) views) in omega arith

  -- a view that keeps its line
  pub woven_step : (views : List V) (i : ℕ) (v w : V) → get_elem? views i ≡ some v → line w ≡ line v → Woven line views → Woven line (set views i w)
  woven_step views i v w at same r = record {
    root = let e : here [] (line w) ≡ here [] (line v) = ap (here []) same in let s = total_set (heres []) views i v w at in let h = r.root in omega arith;
    child = λ k a.
        let e : here (k ∷ a) (line w) ≡ here (k ∷ a) (line v) = ap (here (k ∷ a)) same in let s = total_set (heres (k ∷ a)) views i v w at in
        let e' : count a (line w) ≡ count a (line v) = ap (count a) same in let s' = total_set (counts a) views i v w at in
        let same_count : total (counts a) (set views i w) ≡ total (counts a) views = omega arith in
        let same_here : total (heres (k ∷ a)) (set views i w) ≡ total (heres (k ∷ a)) views = omega arith in
        same_here ∙ (r.child k a ∙ ap (below k) (sym same_count));
  }

  -- one view takes the line of another, which is left without
  pub woven_join : (views : List V) (i j : ℕ) (v u w s : V) → get_elem? views i ≡ some v → get_elem? (set views i w) j ≡ some u → line w ≡ line v ++ line u → line s ≡ [] → Woven line views
      → Woven line (set (set views i w) j s)
  woven_join views i j v u w s at at' both spent r = record {
    root = heres_same [] ∙ r.root;
    child = λ k a. heres_same (k ∷ a) ∙ (r.child k a ∙ ap (below k) (sym (counts_same a)));
  }
    where
      heres_same : (a : List ℕ) → total (heres a) (set (set views i w) j s) ≡ total (heres a) views
      heres_same a = let p = total_set (heres a) views i v w at in let q = total_set (heres a) (set views i w) j u s at' in let e : here a (line w) ≡ here a (line v) + here a (line u) = ap (here a) both ∙ here_append a (line v) (line u) in
          let z : here a (line s) ≡ 0 = ap (here a) spent in omega arith

      counts_same : (a : List ℕ) → total (counts a) (set (set views i w) j s) ≡ total (counts a) views
      counts_same a = let p = total_set (counts a) views i v w at in let q = total_set (counts a) (set views i w) j u s at' in let e : count a (line w) ≡ count a (line v) + count a (line u) = ap (count a) both ∙ count_append a (line v) (line u) in
          let z : count a (line s) ≡ 0 = ap (count a) spent in omega arith

  -- the count of an address that stands in a line is the whole count
  pub counted : (views : List V) (i : ℕ) (v : V) (b : Branch) (bs : List Branch) → get_elem? views i ≡ some v → line v ≡ b ∷ bs → Woven line views → total (counts b.address) views ≡ b.count
  counted views i v b bs at is r =
      let a : List ℕ = b.address in
      let self = same_self a in
      let at_most = once views r a in
      let stands : here a (line v) ≡ 1 + here a bs = ap (here a) is ∙ ap (λ (t : Bool). only_if t 1 + here a bs) self in
      let in_all = total_at (heres a) views i v at in
      let all_here : total (heres a) views ≡ here a (line v) = omega arith in
      let none_else : here a bs ≡ 0 = omega arith in
      let none_counted = untouched a bs none_else in
      let here_count : count a (line v) ≡ b.count + count a bs = ap (count a) is ∙ ap (λ (t : Bool). only_if t b.count + count a bs) self in
      let total_here = alone (heres a) (counts a) (λ x e. untouched a (line x) e) views i v at all_here in
      omega arith

  added : (f : V → ℕ) (views : List V) (i : ℕ) (v w u : V) → get_elem? views i ≡ some v → total f (set views i w ++ u ∷ []) + f v ≡ total f views + f w + f u
  added f views i v w u at = let p = total_set f views i v w at in let q = total_snoc f (set views i w) u in omega arith

  -- the new node b.count ∷ b.address is the only change
  grown : (views : List V) (a : List ℕ) (n : ℕ) → total (counts a) views ≡ n → (k : ℕ) (c : List ℕ) (t : Bool) → is_same c a ≡ t
      → total (heres (k ∷ c)) views ≡ below k (total (counts c) views)
      → total (heres (k ∷ c)) views + only_if (nat_eq k n && t) 1 ≡ below k (total (counts c) views + only_if t 1)
  grown views a n is k c true e r =
      let same : total (counts c) views ≡ n = ap (λ (x : List ℕ). total (counts x) views) (same_eq c a e) ∙ is in
      let r' : total (heres (k ∷ c)) views ≡ below k n = r ∙ ap (below k) same in
      let m = below_more k n in
      let and : (nat_eq k n && true) ≡ nat_eq k n = and_true (nat_eq k n) in
      ap (λ (x : ℕ). x + only_if (nat_eq k n && true) 1) r' ∙ (ap (λ (x : Bool). below k n + only_if x 1) and ∙ (m ∙ ap (below k) (let q : suc n ≡ total (counts c) views + 1 = omega arith in q)))
    where
      and_true : (b : Bool) → (b && true) ≡ b
      and_true true = refl
      and_true false = refl
  grown views a n is k c false e r =
      ap (λ (x : Bool). total (heres (k ∷ c)) views + only_if x 1) (and_false (nat_eq k n)) ∙ (let z : total (heres (k ∷ c)) views + 0 ≡ total (heres (k ∷ c)) views = omega arith in z ∙ (r ∙ ap (below k) (let q : total (counts c) views ≡ total (counts c) views + 0 = omega arith in q)))
    where
      and_false : (b : Bool) → (b && false) ≡ false
      and_false true = refl
      and_false false = refl

  -- one view is cut, and a new one gets its new child
  pub woven_split : (views : List V) (i : ℕ) (v w u : V) (b : Branch) (bs : List Branch) → get_elem? views i ≡ some v → line v ≡ b ∷ bs → line w ≡ cut (b ∷ bs) → line u ≡ sprout (b ∷ bs) → Woven line views
      → Woven line (set views i w ++ u ∷ [])
  woven_split views i v w u b bs at is left right r = record {
    root = here_new [] ∙ (let h = r.root in let z : total (heres []) views + 0 ≡ 1 = omega arith in z);
    child = λ k c. here_new (k ∷ c) ∙ (grown views a n (counted views i v b bs at is r) k c (is_same c a) refl (r.child k c) ∙ ap (below k) (sym (count_new c)));
  }
    where
      a : List ℕ
      a = b.address

      n : ℕ
      n = b.count

      here_new : (c : List ℕ) → total (heres c) (set views i w ++ u ∷ []) ≡ total (heres c) views + only_if (is_same c (n ∷ a)) 1
      here_new c =
          let p = added (heres c) views i v w u at in
          let e : here c (line w) ≡ here c (line v) = ap (here c) left ∙ ap (here c) (sym is) in
          let e' : here c (line u) ≡ only_if (is_same c (n ∷ a)) 1 + 0 = ap (here c) right in
          omega arith

      count_new : (c : List ℕ) → total (counts c) (set views i w ++ u ∷ []) ≡ total (counts c) views + only_if (is_same c a) 1
      count_new c =
          let p = added (counts c) views i v w u at in
          let e : count c (line w) ≡ only_if (is_same c a) (suc n) + count c bs = ap (count c) left in
          let e'' : count c (line v) ≡ only_if (is_same c a) n + count c bs = ap (count c) is in
          let e' : count c (line u) ≡ only_if (is_same c (n ∷ a)) 0 + 0 = ap (count c) right in
          let z = none (is_same c (n ∷ a)) in
          let m = one_more (is_same c a) n in
          omega arith
        where
          none : (t : Bool) → only_if t 0 ≡ 0
          none true = refl
          none false = refl

          one_more : (t : Bool) (n : ℕ) → only_if t (suc n) ≡ only_if t n + only_if t 1
          one_more true n = omega arith
          one_more false n = omega arith

  -- a whole line has each address as often as all lines together
  all_in : (views : List V) (i : ℕ) (v : V) → get_elem? views i ≡ some v → Woven line views → Whole (line v) → (a : List ℕ) → total (heres a) views ≡ here a (line v)
  all_in views i v at r whole [] = let h = r.root in let p = whole.root in let q = total_at (heres []) views i v at in omega arith
  all_in views i v at r whole (k ∷ a) =
      let ih = all_in views i v at r whole a in
      let c = alone (heres a) (counts a) (λ x e. untouched a (line x) e) views i v at ih in
      let h : total (heres (k ∷ a)) views ≡ below k (count a (line v)) = r.child k a ∙ ap (below k) c in
      let q = total_at (heres (k ∷ a)) views i v at in
      go (dec_le (suc k) (count a (line v))) h q
    where
      go : Dec (k < count a (line v)) → total (heres (k ∷ a)) views ≡ below k (count a (line v)) → here (k ∷ a) (line v) ≤ total (heres (k ∷ a)) views → total (heres (k ∷ a)) views ≡ here (k ∷ a) (line v)
      go (yes lt) h q = let b = below_yes k (count a (line v)) lt in let p = whole.child k a lt in omega arith
      go (no ge) h q = let b = below_no k (count a (line v)) (let l = lt_of_not-le ge in omega arith) in omega arith

  -- where one line is whole, every other is empty
  pub whole_alone : (views : List V) (i j : ℕ) (v u : V) → j ≢ i → get_elem? views i ≡ some v → get_elem? views j ≡ some u → Woven line views → Whole (line v) → line u ≡ []
  whole_alone views i j v u other at at' r whole = go (line u) refl
    where
      go : (l : List Branch) → line u ≡ l → line u ≡ []
      go [] e = e
      go (b ∷ bs) e =
          let all = all_in views i v at r whole b.address in
          let two = total_two (heres b.address) views i j v u other at at' in
          let stands : here b.address (line u) ≡ 1 + here b.address bs = ap (here b.address) e ∙ ap (λ (t : Bool). only_if t 1 + here b.address bs) (same_self b.address) in
          absurd (omega arith)

-- the first seat has the whole tree
pub woven_first : {V : Type 0} (line : V → List Branch) (v : V) → line v ≡ branch [] 0 ∷ [] → Woven line (v ∷ [])
woven_first line v is = record {
  root = let e : here [] (line v) ≡ 1 = ap (here []) is in omega arith;
  child = λ k a.
      let e : here (k ∷ a) (line v) ≡ 0 = ap (here (k ∷ a)) is in
      let e' : count a (line v) ≡ only_if (is_same a []) 0 + 0 = ap (count a) is in
      let z = none (is_same a []) in
      let c : count a (line v) + 0 ≡ 0 = omega arith in
      let b = below_no k 0 (omega arith) in
      (let q : here (k ∷ a) (line v) + 0 ≡ 0 = omega arith in q) ∙ (sym b ∙ ap (below k) (sym c));
}
  where
    none : (t : Bool) → only_if t 0 ≡ 0
    none true = refl
    none false = refl

pub not_live : (l : List Branch) → IsLive l → ¬ (l ≡ [])
not_live l live e = let n : length l ≡ 0 = ap length e in omega arith

-- a line that is not empty has a first node
pub head_of : (l : List Branch) → IsLive l → (b : Branch) × (bs : List Branch) × (l ≡ b ∷ bs)
head_of [] live = absurd (omega arith)
head_of (b ∷ bs) live = (b, bs, refl)

-- a cut leaves nothing only of nothing
pub uncut : (l : List Branch) → cut l ≡ [] → l ≡ []
uncut [] e = refl
uncut (b ∷ bs) e = absurd (let n = ap length e in omega arith)

pub live_append : (l m : List Branch) → IsLive l → IsLive (l ++ m)
live_append [] m live = absurd (omega arith)
live_append (b ∷ bs) m live = omega arith

pub live_cut : (l : List Branch) → IsLive l → IsLive (cut l)
live_cut [] live = live
live_cut (b ∷ bs) live = omega arith

pub live_sprout : (l : List Branch) → IsLive l → IsLive (sprout l)
live_sprout [] live = live
live_sprout (b ∷ bs) live = omega arith
