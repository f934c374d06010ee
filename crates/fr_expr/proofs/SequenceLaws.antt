-- Products of factors and operations on an element, one after the other.
use Rattle.std.proofs.Common.{ℕ, zero, suc, ◌≡◌, ◌+◌, ◌<◌, ◌≤◌, List, [], ◌∷◌, ◌++◌, length, take, drop, map, sum, get_or, Result, Ok, Err, refl, sym, ◌∙◌, ap, subst, arith}
use Rattle.std.proofs.lemmas.List.{map_more}
use Rattle.std.proofs.lemmas.List.Sums.{sum-map, sum_by_more, sum_by-take-le}
use Rattle.fr_model.specs.Terms.{Term}
use Rattle.fr_store.specs.declared.handle.Handle.{Handle}
use Rattle.fr_store.specs.Store.{View, Stands, Keeps, Continues}
use Rattle.fr_plain.specs.Expansions.{Expansion, followed_by, product_of, operations, factors_from, product_of_all}
use Rattle.fr_expr.specs.declared.fault.EvalFault.{EvalFault}
use Rattle.fr_expr.specs.Evaluation.{Evaluates}
use Rattle.fr_expr.proofs.EvaluationLaws.{stops, goes_from, carries}

-- the next factor, by which an element is multiplied
abbrev pub times : Expansion → Term → Expansion
times f t = followed_by f (λ u. product_of t u)

-- ---- more of them
factors_from-append : (e : Expansion) (fs gs : List Expansion) → factors_from e (fs ++ gs) ≡ factors_from (factors_from e fs) gs
factors_from-append e [] gs = refl
factors_from-append e (f ∷ fs) gs = factors_from-append (followed_by e (times f)) fs gs

pub operations-append : (e : Expansion) (ops more : List (Term → Expansion)) → operations e (ops ++ more) ≡ operations (operations e ops) more
operations-append e [] more = refl
operations-append e (op ∷ ops) more = operations-append (followed_by e op) ops more

-- factors behind a first one
product_of_all-append : (fs gs : List Expansion) → 0 < length fs → product_of_all (fs ++ gs) ≡ factors_from (product_of_all fs) gs
product_of_all-append [] gs some = absurd (omega (arith, some))
product_of_all-append (f ∷ fs) gs some = factors_from-append f fs gs

module _ {A : Type 0} (at : A → Expansion) (fs : List A) where
  some_taken : (i : ℕ) → 0 < i → 0 < length fs → 0 < length (map at (take i fs))
  some_taken i a b = some i fs a b
    where
      some : (i : ℕ) (fs : List A) → 0 < i → 0 < length fs → 0 < length (map at (take i fs))
      some zero fs a b = absurd (omega (arith, a))
      some (suc i) [] a b = absurd (omega (arith, b))
      some (suc i) (f ∷ fs) a b = omega arith

  pub first_factor : (z : A) → 0 < length fs → product_of_all (map at (take 1 fs)) ≡ at (get_or fs 0 z)
  first_factor z some = first fs some
    where
      first : (fs : List A) → 0 < length fs → product_of_all (map at (take 1 fs)) ≡ at (get_or fs 0 z)
      first [] some = absurd (omega (arith, some))
      first (f ∷ fs) some = refl

  pub next_factor : (i : ℕ) (z : A) → 0 < i → i < length fs → product_of_all (map at (take (i + 1) fs)) ≡ followed_by (product_of_all (map at (take i fs))) (times (at (get_or fs i z)))
  next_factor i z some l = ap product_of_all (map_more at fs i z l) ∙ product_of_all-append (map at (take i fs)) (at (get_or fs i z) ∷ []) (some_taken i some (omega (arith, l)))

  split : (i : ℕ) → map at fs ≡ map at (take i fs) ++ map at (drop i fs)
  split i = parts i fs
    where
      parts : (i : ℕ) (fs : List A) → map at fs ≡ map at (take i fs) ++ map at (drop i fs)
      parts zero fs = refl
      parts (suc i) [] = refl
      parts (suc i) (f ∷ fs) = ap (λ (l : List Expansion). at f ∷ l) (parts i fs)

  pub all_factors : (i : ℕ) → 0 < i → 0 < length fs → product_of_all (map at fs) ≡ factors_from (product_of_all (map at (take i fs))) (map at (drop i fs))
  all_factors i some l = ap product_of_all (split i) ∙ product_of_all-append (map at (take i fs)) (map at (drop i fs)) (some_taken i some l)

module _ {A : Type 0} (at : A → Term → Expansion) (e : Expansion) (ops : List A) where
  pub next_operation : (i : ℕ) (z : A) → i < length ops → operations e (map at (take (i + 1) ops)) ≡ followed_by (operations e (map at (take i ops))) (at (get_or ops i z))
  next_operation i z l = ap (operations e) (map_more at ops i z l) ∙ operations-append e (map at (take i ops)) (at (get_or ops i z) ∷ [])

  split_ops : (i : ℕ) → map at ops ≡ map at (take i ops) ++ map at (drop i ops)
  split_ops i = parts i ops
    where
      parts : (i : ℕ) (ops : List A) → map at ops ≡ map at (take i ops) ++ map at (drop i ops)
      parts zero ops = refl
      parts (suc i) [] = refl
      parts (suc i) (op ∷ ops) = ap (λ (l : List (Term → Expansion)). at op ∷ l) (parts i ops)

  pub all_operations : (i : ℕ) → operations e (map at ops) ≡ operations (operations e (map at (take i ops))) (map at (drop i ops))
  all_operations i = ap (operations e) (split_ops i) ∙ operations-append e (map at (take i ops)) (map at (drop i ops))

-- ---- where some first ones stop, all stop
module _ {S : Type 0} (view : View S) (onward : (s t u : S) → view.kin s t → view.kin t u → view.kin s u) (d : ℕ) (old new : S) (x y : ℕ) (fault : EvalFault) where
  factors_stop : (e : Expansion) (fs : List Expansion) → Evaluates view d old new x y e (Err fault) → Evaluates view d old new x y (factors_from e fs) (Err fault)
  factors_stop e [] v = v
  factors_stop e (f ∷ fs) v = factors_stop (followed_by e (times f)) fs (stops view onward d e (times f) old new x y fault v)

  operations_stop : (e : Expansion) (ops : List (Term → Expansion)) → Evaluates view d old new x y e (Err fault) → Evaluates view d old new x y (operations e ops) (Err fault)
  operations_stop e [] v = v
  operations_stop e (op ∷ ops) v = operations_stop (followed_by e op) ops (stops view onward d e op old new x y fault v)

  pub product_stops_in : {A : Type 0} (at : A → Expansion) (fs : List A) (i : ℕ) → 0 < i → 0 < length fs → Evaluates view d old new x y (product_of_all (map at (take i fs))) (Err fault)
      → Evaluates view d old new x y (product_of_all (map at fs)) (Err fault)
  product_stops_in at fs i some l v =
      subst (λ (e : Expansion). Evaluates view d old new x y e (Err fault)) (sym (all_factors at fs i some l)) (factors_stop (product_of_all (map at (take i fs))) (map at (drop i fs)) v)

  pub operations_stop_in : {A : Type 0} (at : A → Term → Expansion) (e : Expansion) (ops : List A) (i : ℕ) → Evaluates view d old new x y (operations e (map at (take i ops))) (Err fault)
      → Evaluates view d old new x y (operations e (map at ops)) (Err fault)
  operations_stop_in at e ops i v =
      subst (λ (e : Expansion). Evaluates view d old new x y e (Err fault)) (sym (all_operations at e ops i)) (operations_stop (operations e (map at (take i ops))) (map at (drop i ops)) v)

-- ---- one more
module _ {S : Type 0} (view : View S) (onward : (s t u : S) → view.kin s t → view.kin t u → view.kin s u) (d : ℕ) (old mid : S) (x y : ℕ) (h : Handle) (over : view.alphabet mid ≡ d) where
  module _ {A : Type 0} (at : A → Expansion) (fs : List A) (i : ℕ) (z : A) (some : 0 < i) (l : i < length fs) (v : Evaluates view d old mid x y (product_of_all (map at (take i fs))) (Ok h)) where
    abbrev before : Expansion
    before = product_of_all (map at (take i fs))

    abbrev factor : Expansion
    factor = at (get_or fs i z)

    -- the next factor stops
    pub factor_stops : (new : S) (w : ℕ) (fault : EvalFault) → Evaluates view (view.alphabet mid) mid new y w (at (get_or fs i z)) (Err fault) → Evaluates view d old new x w (product_of_all (map at fs)) (Err fault)
    factor_stops new w fault u =
        product_stops_in view onward d old new x w fault at fs (i + 1) (omega arith) (omega (arith, l))
        (subst (λ (e : Expansion). Evaluates view d old new x w e (Err fault)) (sym (next_factor at fs i z some l))
        (goes_from view onward d before (times factor) old mid new x y w h (Err fault) over v (λ s. stops view onward (view.alphabet mid) factor (λ u. product_of before.value u) mid new y w fault u)))

    -- the next factor has its element, and the product is made or stops
    pub factor_goes : (next new : S) (m w : ℕ) (k : Handle) (r : Result Handle EvalFault) → Continues view mid next → Keeps (view.known mid) (view.known next)
        → Evaluates view (view.alphabet mid) mid next y m (at (get_or fs i z)) (Ok k) → ((t u : Term) → Stands view next h t → Stands view next k u → Evaluates view (view.alphabet next) next new m w (product_of t u) r)
        → Evaluates view d old new x w (product_of_all (map at (take (i + 1) fs))) r
    factor_goes next new m w k r on keeps u product =
        subst (λ (e : Expansion). Evaluates view d old new x w e r) (sym (next_factor at fs i z some l))
        (goes_from view onward d before (times factor) old mid new x y w h r over v
        (λ s. goes_from view onward (view.alphabet mid) factor (λ u. product_of before.value u) mid next new y m w k r on.alphabet u
        (λ q. product before.value factor.value (carries view mid next h before.value on keeps s) q)))

  module _ {A : Type 0} (at : A → Term → Expansion) (e : Expansion) (ops : List A) (i : ℕ) (z : A) (l : i < length ops) (v : Evaluates view d old mid x y (operations e (map at (take i ops))) (Ok h)) where
    -- the next operation is applied or stops
    pub operation_goes : (new : S) (w : ℕ) (r : Result Handle EvalFault) → ((t : Term) → Stands view mid h t → Evaluates view (view.alphabet mid) mid new y w (at (get_or ops i z) t) r)
        → Evaluates view d old new x w (operations e (map at (take (i + 1) ops))) r
    operation_goes new w r apply =
        subst (λ (q : Expansion). Evaluates view d old new x w q r) (sym (next_operation at e ops i z l))
        (goes_from view onward d (operations e (map at (take i ops))) (at (get_or ops i z)) old mid new x y w h r over v (λ s. apply (operations e (map at (take i ops))).value s))

-- ---- sizes
pub sum_next : {A : Type 0} (size : A → ℕ) (xs : List A) (i : ℕ) (z : A) → i < length xs → sum (map size (take (i + 1) xs)) ≡ sum (map size (take i xs)) + size (get_or xs i z)
sum_next size xs i z l = omega (arith, sum-map size (take (i + 1) xs), sum-map size (take i xs), sum_by_more size xs i z l)

pub sum_within : {A : Type 0} (size : A → ℕ) (xs : List A) (i : ℕ) → sum (map size (take i xs)) ≤ sum (map size xs)
sum_within size xs i = omega (arith, sum-map size (take i xs), sum-map size xs, sum_by-take-le size xs i)
