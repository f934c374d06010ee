-- The rows of a table of products act as the products of their pairs.
use Rattle.std.proofs.Common.{ℕ, zero, suc, ◌≡◌, ◌+◌, ◌-◌, ◌*◌, ◌/◌, ◌%◌, ◌<◌, ◌≤◌, inl, inr, List, [], ◌∷◌, ◌++◌, length, get_or, refl, sym, ◌∙◌, ap, arith}
use Rattle.std.proofs.Math.Nat.{mul-le-mul_right}
use Rattle.std.proofs.lemmas.List.{length_push}
use Rattle.std.proofs.lemmas.Bool.{cases_lt}
use Rattle.fr_model.specs.Words.{IsWord}
use Rattle.fr_model.specs.Permutations.{image}
use Rattle.fr_model.specs.Terms.{Product, act, IsAlike}
use Rattle.fr_model.specs.Automata.{state_at}
use Rattle.fr_model.proofs.AlikeLaws.{act-nil, alike_from_words}
use Rattle.fr_model.proofs.AutomatonLaws.{act-state_term, IsTerm-state_term}
use Rattle.fr_model.proofs.PermutationLaws.{IsPermutation-composite, image-composite, image-IsLetter}
use Rattle.fr_machine.specs.declared.row.Row.{Row}
use Rattle.fr_machine.specs.Rows.{states_of, row_term, IsRow, IsMachine, row_at}
use Rattle.fr_machine.proofs.RowLaws.{IsAutomaton-states_of, length-states_of, IsRow-filled, IsMachine-rows, row_valid, state_is_row, next_is}
use Rattle.fr_product.proofs.PairLaws.{pair_lt, pair_left, pair_right}
use Rattle.fr_nucleus.specs.Products.{IsProductOfRows, AreProductRows, IsProductTable}
use Rattle.fr_nucleus.proofs.NextLaws.{row_at_old, row_at_new, leads-lt}

-- a pair is a place in the table
pub pair_below : (a b m n : ℕ) → a < m → b < n → a * n + b < m * n
pair_below a b m n l k =
    let e : a * n + n ≡ (a + 1) * n = grind arith in
    let g : (a + 1) * n ≤ m * n = mul-le-mul_right n (omega arith) in
    omega (arith, e, g, k)

-- one more row
pub AreProductRows-more : (ms qs rows rows' : List Row) (r : Row) (k : ℕ) → AreProductRows ms qs rows → k ≡ length rows → IsProductOfRows (length qs) (row_at ms (k / length qs)) (row_at qs (k % length qs)) r → rows' ≡ rows ++ r ∷ [] → AreProductRows ms qs rows'
AreProductRows-more ms qs rows rows' r k h e p f i l = elim (cases_lt i (length rows)) [
  | inl t ↦ rw (row_at_old rows rows' r i f t) (h i t)
  | inr t ↦
      let at : i ≡ k = omega (arith, ap length f, length_push rows r) in
      let new : row_at rows' i ≡ r = ap (row_at rows') (at ∙ e) ∙ row_at_new rows rows' r f in
      rw (new, at) p
]

-- where members are added, the rows of those that were known stay
pub AreProductRows-grown : (old ms qs rows : List Row) → 0 < length qs → length rows ≡ length old * length qs → ((i : ℕ) → i < length old → row_at ms i ≡ row_at old i) → AreProductRows old qs rows → AreProductRows ms qs rows
AreProductRows-grown old ms qs rows some n same h k l =
    let p = pair_lt k (length old) (length qs) (omega (arith, n)) in
    rw (same (k / length qs) p.0) (h k l)

module _ (d : ℕ) (ms qs rows : List Row) (m : IsMachine d ms) (q : IsMachine d qs) (room : length ms * length qs ≤ 65536) (t : IsProductTable ms qs rows) where
  abbrev width : ℕ
  width = length qs

  abbrev left : ℕ → Row
  left k = row_at ms (k / length qs)

  abbrev right : ℕ → Row
  right k = row_at qs (k % length qs)

  inside : (k : ℕ) → k < length rows → (k / length qs < length ms) × (k % length qs < length qs)
  inside k l = pair_lt k (length ms) (length qs) (omega (arith, t.count))

  left_valid : (k : ℕ) → k < length rows → IsRow d (length ms) (left k)
  left_valid k l = row_valid d ms m (k / length qs) (inside k l).0

  right_valid : (k : ℕ) → k < length rows → IsRow d (length qs) (right k)
  right_valid k l = row_valid d qs q (k % length qs) (inside k l).1

  -- the letter at which the second goes on
  place : (k x : ℕ) → k < length rows → x < d → (image (left k).perm (suc x) - 1 < d) × (suc (image (left k).perm (suc x) - 1) ≡ image (left k).perm (suc x))
  place k x l h =
      let i = image-IsLetter d (left k).perm (suc x) (left_valid k l).permutes (omega arith, omega arith) in
      (omega (arith, i.0, i.1), omega (arith, i.0))

  next_left : (k x : ℕ) → k < length rows → x < d → get_or (left k).next x 0 < length ms
  next_left k x l h = leads-lt d ms m (k / length qs) x (inside k l).0 h

  next_right : (k x : ℕ) → k < length rows → x < d → get_or (right k).next (image (left k).perm (suc x) - 1) 0 < length qs
  next_right k x l h = leads-lt d qs q (k % length qs) (image (left k).perm (suc x) - 1) (inside k l).1 (place k x l h).0

  next_pair : (k x : ℕ) → k < length rows → x < d → get_or (row_at rows k).next x 0 ≡ get_or (left k).next x 0 * length qs + get_or (right k).next (image (left k).perm (suc x) - 1) 0
  next_pair k x l h = (t.each k l).nexts x (omega (arith, (left_valid k l).permutes.degree))

  valid : (k : ℕ) → k < length rows → IsRow d (length rows) (row_at rows k)
  valid k l =
      let e = t.each k l in
      IsRow-filled d (length rows) (row_at rows k) m.letters (omega arith) (rw e.perm (IsPermutation-composite d (left k).perm (right k).perm (left_valid k l).permutes (right_valid k l).permutes)) e.size
      (λ x h. rw (next_pair k x l h, t.count) (pair_below _ _ (length ms) (length qs) (next_left k x l h) (next_right k x l h)))
      (λ x a b. e.zeros x (omega (arith, (left_valid k l).permutes.degree)) b)

  some : 1 ≤ length rows
  some = omega (arith, t.count, pair_below 0 0 (length ms) (length qs) m.least q.least)

  pub IsMachine-products : IsMachine d rows
  IsMachine-products = IsMachine-rows d rows m.few m.letters some (omega (arith, t.count, room)) valid

  states_lt : (ns : List Row) (k : ℕ) → k < length ns → k < length (states_of ns)
  states_lt ns k l = omega (arith, l, length-states_of ns)

  perm_of : (ns : List Row) (n : IsMachine d ns) (k : ℕ) → k < length ns → (state_at (states_of ns) k).perm ≡ (row_at ns k).perm
  perm_of ns n k l = ap (λ s. s.perm) (state_is_row d ns n k l)

  step : (ns : List Row) (n : IsMachine d ns) (k x : ℕ) (v : List ℕ) → k < length ns → x < d → act (row_term ns k) (suc x ∷ v) ≡ image (row_at ns k).perm (suc x) ∷ act (row_term ns (get_or (row_at ns k).next x 0)) v
  step ns n k x v l h =
      act-state_term d (states_of ns) k (suc x) v (IsAutomaton-states_of d ns n) (states_lt ns k l) (omega arith, omega arith)
      ∙ rw (perm_of ns n k l, next_is d ns n k l x h) refl

  same : (k : ℕ) (v : List ℕ) → k < length rows → IsWord d v → act (row_term rows k) v ≡ act (row_term qs (k % length qs)) (act (row_term ms (k / length qs)) v)
  same k [] l w = act-nil (row_term rows k) ∙ sym (ap (act (row_term qs (k % length qs))) (act-nil (row_term ms (k / length qs))) ∙ act-nil (row_term qs (k % length qs)))
  same k (zero ∷ v) l w = absurd (omega (arith, w.0.0))
  same k (suc x ∷ v) l w =
      let h : x < d = omega (arith, w.0.1) in
      let i = inside k l in
      let p = (left k).perm in
      let z = image p (suc x) in
      let a = get_or (left k).next x 0 in
      let b = get_or (right k).next (z - 1) 0 in
      let u = act (row_term ms a) v in
      let nl = next_left k x l h in
      let nr = next_right k x l h in
      let kk = get_or (row_at rows k).next x 0 in
      let e : kk ≡ a * length qs + b = next_pair k x l h in
      let below : kk < length rows = omega (arith, e, t.count, pair_below a b (length ms) (length qs) nl nr) in
      let lefts : kk / length qs ≡ a = ap (λ n. n / length qs) e ∙ pair_left a b (length qs) nr in
      let rights : kk % length qs ≡ b = ap (λ n. n % length qs) e ∙ pair_right a b (length qs) nr in
      let perms : image (row_at rows k).perm (suc x) ≡ image (right k).perm z = ap (λ g. image g (suc x)) (t.each k l).perm ∙ image-composite d p (right k).perm (left_valid k l).permutes (right_valid k l).permutes (suc x) in
      let first : act (row_term rows k) (suc x ∷ v) ≡ image (right k).perm z ∷ act (row_term qs b) u =
      step rows IsMachine-products k x v l h ∙ rw (perms, same kk v below w.1, lefts, rights) refl in
      let second : act (row_term qs (k % length qs)) (z ∷ u) ≡ image (right k).perm z ∷ act (row_term qs b) u =
      ap (λ y. act (row_term qs (k % length qs)) (y ∷ u)) (sym (place k x l h).1) ∙ step qs q (k % length qs) (z - 1) u i.1 (place k x l h).0 ∙ ap (λ y. image (right k).perm y ∷ act (row_term qs b) u) (place k x l h).1 in
      first ∙ sym (ap (act (row_term qs (k % length qs))) (step ms m (k / length qs) x v i.0 h) ∙ second)

  pub alike_product_row : (k : ℕ) → k < length rows → IsAlike (row_term rows k) (Product (row_term ms (k / length qs)) (row_term qs (k % length qs)))
  alike_product_row k l =
      let i = inside k l in
      alike_from_words d (IsTerm-state_term d (states_of rows) k (IsAutomaton-states_of d rows IsMachine-products) (states_lt rows k l))
      (IsTerm-state_term d (states_of ms) (k / length qs) (IsAutomaton-states_of d ms m) (states_lt ms (k / length qs) i.0), IsTerm-state_term d (states_of qs) (k % length qs) (IsAutomaton-states_of d qs q) (states_lt qs (k % length qs) i.1))
      (λ v w. same k v l w)

  -- the row of a pair
  pub alike_pair : (i j : ℕ) → i < length ms → j < length qs → (i * length qs + j < length rows) × IsAlike (row_term rows (i * length qs + j)) (Product (row_term ms i) (row_term qs j))
  alike_pair i j a b =
      let l : i * length qs + j < length rows = omega (arith, t.count, pair_below i j (length ms) (length qs) a b) in
      (l, rw (pair_left i j (length qs) b, pair_right i j (length qs) b) at (alike_product_row (i * length qs + j) l))
