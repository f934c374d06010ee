-- Codes in order, and the machines that they list.
use Rattle.std.proofs.Common.{ℕ, zero, suc, ◌≡◌, ◌≢◌, ◌+◌, ◌-◌, ◌*◌, ◌/◌, ◌<◌, ◌≤◌, ◌⊎◌, inl, inr, true, false, List, [], ◌∷◌, ◌++◌, length, get_or, set, nat_cmp, is_lt, refl, sym, ◌∙◌, ap, subst, arith}
use Rattle.std.specs.List.{swap}
use Rattle.std.specs.List.Sorted.{IsPermutation}
use Rattle.std.specs.Ordering.{ordering_then}
use Rattle.std.specs.Cmp.{nat_cmp_is}
use Rattle.std.specs.Cmp.Lexicographic.{slice_cmp}
use Rattle.std.specs.declared.cmp.Ordering.{Ordering}
use Rattle.std.specs.declared.cmp.Ordering.TheVariants.{Less, Equal}
use Rattle.std.proofs.Math.Nat.{mul-div_cancel}
use Rattle.std.proofs.lemmas.Bool.{cases_lt, cases_eq}
use Rattle.std.proofs.lemmas.List.{get_or_append_left, get_or_push, length_push, get_or_default, get_or-set_same, get_or-set_other, length-set}
use Rattle.std.proofs.lemmas.List.Edits.{swap_is, length-swap}
use Rattle.std.proofs.lemmas.List.Sorted.{IsPermutation-keeps}
use Rattle.fr_model.specs.Terms.{IsAlike}
use Rattle.fr_model.specs.Separation.{IsLexBefore}
use Rattle.fr_model.specs.Canonical.{IsCanonical, code_of}
use Rattle.fr_model.proofs.AlikeLaws.{alike_refl, alike_sym}
use Rattle.fr_model.proofs.CanonicalLaws.{lex_trans, lex_total, canonical_same, canonical_alike}
use Rattle.fr_model.proofs.CodeLaws.{alike_from_code, IsCanonical-alike}
use Rattle.fr_machine.specs.declared.row.Row.{Row}
use Rattle.fr_machine.specs.Machine.{MachineView}
use Rattle.fr_machine.specs.Rows.{row_term, states_of, IsMachine}
use Rattle.fr_machine.specs.Minimal.{AreUnlike}
use Rattle.fr_machine.proofs.RowLaws.{length-states_of, IsTerm-row_term}
use Rattle.fr_canon.proofs.PrintLaws.{count_is}
use Rattle.fr_nucleus.specs.declared.coding.Listed.{Listed}
use Rattle.fr_nucleus.specs.Elements.{element_of}
use Rattle.fr_nucleus.specs.Orders.{machine_at, IsBefore}
use Rattle.fr_nucleus.specs.Rows.{IsListing}
use Rattle.fr_nucleus.specs.Coding.{IsListed, AreListed}

-- ---- two members of a list change places
-- where the member at k comes from, if a and b are exchanged
mirror : (a b k : ℕ) → (k ≡ b) ⊎ (k ≢ b) → (k ≡ a) ⊎ (k ≢ a) → ℕ
mirror a b k (inl e) y = a
mirror a b k (inr n) (inl e) = b
mirror a b k (inr n) (inr m) = k

mirror-lt : (a b k n : ℕ) (x : (k ≡ b) ⊎ (k ≢ b)) (y : (k ≡ a) ⊎ (k ≢ a)) → a < n → b < n → k < n → mirror a b k x y < n
unfolding mirror
mirror-lt a b k n (inl e) y l h g = l
mirror-lt a b k n (inr p) (inl e) l h g = h
mirror-lt a b k n (inr p) (inr q) l h g = g

mirror-injective : (a b i j : ℕ) (x : (i ≡ b) ⊎ (i ≢ b)) (y : (i ≡ a) ⊎ (i ≢ a)) (z : (j ≡ b) ⊎ (j ≢ b)) (w : (j ≡ a) ⊎ (j ≢ a)) → mirror a b i x y ≡ mirror a b j z w → i ≡ j
unfolding mirror
mirror-injective a b i j (inl e) y (inl f) w h = omega arith
mirror-injective a b i j (inl e) y (inr n) (inl f) h = absurd (omega arith)
mirror-injective a b i j (inl e) y (inr n) (inr m) h = absurd (omega arith)
mirror-injective a b i j (inr n) (inl e) (inl f) w h = absurd (omega arith)
mirror-injective a b i j (inr n) (inl e) (inr m) (inl f) h = omega arith
mirror-injective a b i j (inr n) (inl e) (inr m) (inr k) h = absurd (omega arith)
mirror-injective a b i j (inr n) (inr m) (inl f) w h = absurd (omega arith)
mirror-injective a b i j (inr n) (inr m) (inr k) (inl f) h = absurd (omega arith)
mirror-injective a b i j (inr n) (inr m) (inr k) (inr p) h = h

module _ {X : Type 0} (xs : List X) (a b : ℕ) (l : a < length xs) (h : b < length xs) where
  swapped : (k : ℕ) (z : X) (x : (k ≡ b) ⊎ (k ≢ b)) (y : (k ≡ a) ⊎ (k ≢ a)) → get_or (swap xs a b) k z ≡ get_or xs (mirror a b k x y) z
  unfolding mirror
  swapped k z (inl e) y =
      let s = ap (λ ys. get_or ys k z) (sym (swap_is xs a b z l h)) in
      s ∙ ap (λ i. get_or (set (set xs a (get_or xs b z)) b (get_or xs a z)) i z) e ∙ get_or-set_same (set xs a (get_or xs b z)) b (get_or xs a z) z (omega (arith, length-set xs a (get_or xs b z)))
  swapped k z (inr n) (inl e) =
      let s = ap (λ ys. get_or ys k z) (sym (swap_is xs a b z l h)) in
      s ∙ get_or-set_other (set xs a (get_or xs b z)) b k (get_or xs a z) z n ∙ ap (λ i. get_or (set xs a (get_or xs b z)) i z) e ∙ get_or-set_same xs a (get_or xs b z) z l
  swapped k z (inr n) (inr m) =
      let s = ap (λ ys. get_or ys k z) (sym (swap_is xs a b z l h)) in
      s ∙ get_or-set_other (set xs a (get_or xs b z)) b k (get_or xs a z) z n ∙ get_or-set_other xs a k (get_or xs b z) z m

  from : ℕ → ℕ
  from k = mirror a b k (cases_eq k b) (cases_eq k a)

  swap-from : (k : ℕ) (z : X) → get_or (swap xs a b) k z ≡ get_or xs (from k) z
  unfolding from
  swap-from k z = swapped k z (cases_eq k b) (cases_eq k a)

  from-lt : (k : ℕ) → k < length xs → from k < length xs
  unfolding from
  from-lt k g = mirror-lt a b k (length xs) (cases_eq k b) (cases_eq k a) l h g

  from-injective : (i j : ℕ) → from i ≡ from j → i ≡ j
  unfolding from
  from-injective i j e = mirror-injective a b i j (cases_eq i b) (cases_eq i a) (cases_eq j b) (cases_eq j a) e

  -- the way back
  back : (k : ℕ) (x : (k ≡ b) ⊎ (k ≢ b)) (y : (k ≡ a) ⊎ (k ≢ a)) → k < length xs → (i : ℕ) × (i < length xs) × (from i ≡ k)
  unfolding from mirror
  back k (inl e) y g = elim (cases_eq a b) [
    | inl f ↦ (a, l, elim (cases_eq a b) as (λ c. mirror a b a c (cases_eq a a) ≡ k) [ inl q ↦ omega arith | inr q ↦ absurd (q f) ])
    | inr f ↦ (a, l, elim (cases_eq a b) as (λ c. mirror a b a c (cases_eq a a) ≡ k) [ inl q ↦ absurd (f q) | inr q ↦ elim (cases_eq a a) as (λ c. mirror a b a (inr q) c ≡ k) [ inl r ↦ sym e | inr r ↦ absurd (r refl) ] ])
  ]
  back k (inr n) (inl e) g = (b, h, elim (cases_eq b b) as (λ c. mirror a b b c (cases_eq b a) ≡ k) [ inl q ↦ sym e | inr q ↦ absurd (q refl) ])
  back k (inr n) (inr m) g = (k, g, elim (cases_eq k b) as (λ c. mirror a b k c (cases_eq k a) ≡ k) [ inl q ↦ absurd (n q) | inr q ↦ elim (cases_eq k a) as (λ c. mirror a b k (inr q) c ≡ k) [ inl r ↦ absurd (m r) | inr r ↦ refl ] ])

  from-onto : (k : ℕ) → k < length xs → (i : ℕ) × (i < length xs) × (from i ≡ k)
  from-onto k g = back k (cases_eq k b) (cases_eq k a) g

-- ---- the codes of the rows, in any order
pub record IsArranged (d : ℕ) (rows : List Row) (items : List Listed) : Type 0 where
  pub count : length items ≡ length rows
  pub each : (i : ℕ) (z : Listed) → i < length items → (s : ℕ) × (s < length rows) × IsListed d rows s (get_or items i z)
  pub whole : (s : ℕ) (z : Listed) → s < length rows → (i : ℕ) × (i < length items) × IsListed d rows s (get_or items i z)
  pub apart : (i j : ℕ) (z : Listed) → i < length items → j < length items → (get_or items i z).code.items ≡ (get_or items j z).code.items → i ≡ j

pub IsArranged-listed : (d : ℕ) (rows : List Row) (items : List Listed) → IsMachine d rows → AreUnlike rows → AreListed d rows items (length rows) → IsArranged d rows items
IsArranged-listed d rows items m u h = record {
  count = h.count;
  each = λ i z l. (i, omega (arith, h.count), h.each i z (omega (arith, h.count)));
  whole = λ s z l. (s, omega (arith, h.count), h.each s z l);
  apart = λ i j z l k e.
      let il : i < length rows = omega (arith, h.count) in
      let jl : j < length rows = omega (arith, h.count) in
      same i j il jl (alike_from_code d (row_term rows i) (row_term rows j) _ _ (IsTerm-row_term d rows i m il) (IsTerm-row_term d rows j m jl) (h.each i z il).code (h.each j z jl).code e);
}
  where
    same : (i j : ℕ) → i < length rows → j < length rows → IsAlike (row_term rows i) (row_term rows j) → i ≡ j
    same i j l k e = elim (cases_lt i j) [
      | inl t ↦ absurd (u i j t k e)
      | inr t ↦ elim (cases_lt j i) [
        | inl w ↦ absurd (u j i w l (alike_sym e))
        | inr w ↦ omega (arith, t, w)
      ]
    ]

IsArranged-swap : (d : ℕ) (rows : List Row) (items : List Listed) (a b : ℕ) → a < length items → b < length items → IsArranged d rows items → IsArranged d rows (swap items a b)
IsArranged-swap d rows items a b l h r =
    let size = length-swap items a b in
    record {
      count = size ∙ r.count;
      each = λ i z k.
          let il : i < length items = omega (arith, size) in
          rw (swap-from items a b l h i z) (r.each (from items a b l h i) z (from-lt items a b l h i il));
      whole = λ s z k.
          let w = r.whole s z k in
          let o = from-onto items a b l h w.0 w.1 in
          let at : get_or (swap items a b) o.0 z ≡ get_or items w.0 z = swap-from items a b l h o.0 z ∙ ap (λ j. get_or items j z) o.2 in
          (o.0, omega (arith, size, o.1), rw at w.2);
      apart = λ i j z k n e.
          let il : i < length items = omega (arith, size) in
          let jl : j < length items = omega (arith, size) in
          let same = r.apart (from items a b l h i) (from items a b l h j) z (from-lt items a b l h i il) (from-lt items a b l h j jl) (ap (λ x. x.code.items) (sym (swap-from items a b l h i z)) ∙ e ∙ ap (λ x. x.code.items) (swap-from items a b l h j z)) in
          from-injective items a b l h i j same;
    }

pub IsArranged-permuted : (d : ℕ) (rows : List Row) (items items' : List Listed) → IsArranged d rows items → IsPermutation items items' → IsArranged d rows items'
IsArranged-permuted d rows items items' r p = IsPermutation-keeps items (IsArranged d rows) r (λ xs a b l h x. IsArranged-swap d rows xs a b l h x) items' p

-- ---- codes in order
abbrev behind_cmp : Listed → Listed → Ordering
behind_cmp x y = ordering_then (slice_cmp nat_cmp x.code.items y.code.items) (nat_cmp x.row y.row)

abbrev pub listed_cmp : Listed → Listed → Ordering
listed_cmp x y = ordering_then (nat_cmp x.size y.size) (behind_cmp x y)

lex_less : (v w : List ℕ) → IsLexBefore v w → slice_cmp nat_cmp v w ≡ Less
lex_less [] w h = absurd h
lex_less (x ∷ v) [] h = absurd h
lex_less (x ∷ v) (y ∷ w) (inl l) = ap (λ o. ordering_then o (slice_cmp nat_cmp v w)) (sym (nat_cmp_is x y Less l))
lex_less (x ∷ v) (y ∷ w) (inr h) = ap (λ o. ordering_then o (slice_cmp nat_cmp v w)) (sym (nat_cmp_is x y Equal h.0)) ∙ lex_less v w h.1

-- one comes before another by size and then by code
abbrev pub ItemBefore : Listed → Listed → Type 0
ItemBefore x y = (x.size < y.size) ⊎ ((x.size ≡ y.size) × IsLexBefore x.code.items y.code.items)

before_next : (d : ℕ) (x y : Listed) → length x.code.items ≡ x.size * (d + 1) → length y.code.items ≡ y.size * (d + 1) → x.code.items ≢ y.code.items → is_lt (listed_cmp y x) ≡ false → ItemBefore x y
before_next d x y a b n s = elim (cases_lt x.size y.size) [
  | inl l ↦ inl l
  | inr l ↦ elim (cases_lt y.size x.size) [
    | inl k ↦
        let less : nat_cmp y.size x.size ≡ Less = sym (nat_cmp_is y.size x.size Less k) in
        let no : true ≡ false = sym (ap (λ o. is_lt (ordering_then o (behind_cmp y x))) less) ∙ s in
        absurd (cc)
    | inr k ↦
        let same : x.size ≡ y.size = omega arith in
        let level : nat_cmp y.size x.size ≡ Equal = sym (nat_cmp_is y.size x.size Equal (sym same)) in
        let lengths : length x.code.items ≡ length y.code.items = a ∙ ap (λ i. i * (d + 1)) same ∙ sym b in
        inr (
          same,
          elim (lex_total x.code.items y.code.items lengths) [
            | inl e ↦ absurd (n e)
            | inr o ↦ elim o [
              | inl f ↦ f
              | inr f ↦
                  let no : true ≡ false = sym (ap (λ o. is_lt (ordering_then o (behind_cmp y x))) level ∙ ap (λ o. is_lt (ordering_then o (nat_cmp y.row x.row))) (lex_less y.code.items x.code.items f)) ∙ s in
                  absurd (cc)
            ]
          ],
        )
  ]
]

before_trans : (x y z : Listed) → ItemBefore x y → ItemBefore y z → ItemBefore x z
before_trans x y z (inl a) (inl b) = inl (omega arith)
before_trans x y z (inl a) (inr b) = inl (omega (arith, b.0))
before_trans x y z (inr a) (inl b) = inl (omega (arith, a.0))
before_trans x y z (inr a) (inr b) = inr (a.0 ∙ b.0, lex_trans x.code.items y.code.items z.code.items a.1 b.1)

module _ (d : ℕ) (rows : List Row) (items : List Listed) (r : IsArranged d rows items) (sorted : (k : ℕ) (z : Listed) → 0 ≤ k → k + 1 < length items → is_lt (listed_cmp (get_or items (k + 1) z) (get_or items k z)) ≡ false) (z : Listed) where
  next_before : (k : ℕ) → k + 1 < length items → ItemBefore (get_or items k z) (get_or items (k + 1) z)
  next_before k l =
      let x = r.each k z (omega arith) in
      let y = r.each (k + 1) z l in
      before_next d (get_or items k z) (get_or items (k + 1) z) x.2.length_code y.2.length_code (λ e. (let same = r.apart k (k + 1) z (omega arith) l e in omega arith)) (sorted k z (omega arith) l)

  far_before : (n i : ℕ) → i + suc n < length items → ItemBefore (get_or items i z) (get_or items (i + suc n) z)
  far_before zero i l =
      let e : i + 1 ≡ i + suc zero = omega arith in
      subst (λ j. ItemBefore (get_or items i z) (get_or items j z)) e (next_before i (omega arith))
  far_before (suc n) i l =
      let e : i + suc n + 1 ≡ i + suc (suc n) = omega arith in
      before_trans (get_or items i z) (get_or items (i + suc n) z) (get_or items (i + suc (suc n)) z) (far_before n i (omega arith)) (subst (λ j. ItemBefore (get_or items (i + suc n) z) (get_or items j z)) e (next_before (i + suc n) (omega arith)))

  pub all_before : (i j : ℕ) → i < j → j < length items → ItemBefore (get_or items i z) (get_or items j z)
  all_before i j l k =
      let n = j - suc i in
      let e : i + suc n ≡ j = omega arith in
      subst (λ m. ItemBefore (get_or items i z) (get_or items m z)) e (far_before n i (omega arith))

-- ---- the machines of the codes
pub record AreMachinesOf (d : ℕ) (rows : List Row) (items : List Listed) (ms : List MachineView) (k : ℕ) : Type 0 where
  pub count : length ms ≡ k
  pub over : (i : ℕ) → i < k → (machine_at ms i).alphabet ≡ d
  pub canonical : (i : ℕ) (z : Listed) → i < k → IsCanonical d (row_term rows (get_or items i z).row) (states_of (machine_at ms i).rows)

pub AreMachinesOf-start : (d : ℕ) (rows : List Row) (items : List Listed) (ms : List MachineView) → ms ≡ [] → AreMachinesOf d rows items ms 0
AreMachinesOf-start d rows items ms e = record { count = ap length e; over = λ i l. absurd (omega arith); canonical = λ i z l. absurd (omega arith) }

pub AreMachinesOf-more : (d : ℕ) (rows : List Row) (items : List Listed) (ms ms' : List MachineView) (m : MachineView) (k : ℕ) (item : Listed) → AreMachinesOf d rows items ms k → k < length items → item ≡ get_or items k item → m.alphabet ≡ d → IsCanonical d (row_term rows item.row) (states_of m.rows) → ms' ≡ ms ++ m ∷ [] → AreMachinesOf d rows items ms' (k + 1)
AreMachinesOf-more d rows items ms ms' m k item h l here a s e = record {
  count = omega (arith, ap length e, length_push ms m, h.count);
  over = λ i b. elim (cases_lt i k) [
    | inl t ↦ ap (λ v. v.alphabet) (old i t) ∙ h.over i t
    | inr t ↦ ap (λ v. v.alphabet) (new i (omega arith)) ∙ a
  ];
  canonical = λ i z b. elim (cases_lt i k) [
    | inl t ↦ rw (old i t) (h.canonical i z t)
    | inr t ↦
        let at : k ≡ i = omega arith in
        let same : item ≡ get_or items i z = here ∙ get_or_default items k item z l ∙ ap (λ j. get_or items j z) at in
        rw (new i (omega arith)) (subst (λ (x : Listed). IsCanonical d (row_term rows x.row) (states_of m.rows)) same s)
  ];
}
  where
    old : (i : ℕ) → i < k → machine_at ms' i ≡ machine_at ms i
    old i t = ap (λ xs. machine_at xs i) e ∙ get_or_append_left ms (m ∷ []) (record { alphabet = 0; rows = [] }) i (omega (arith, h.count))

    new : (i : ℕ) → i ≡ k → machine_at ms' i ≡ m
    new i t = ap (λ xs. machine_at xs i) e ∙ get_or_push ms m (record { alphabet = 0; rows = [] }) i (h.count ∙ sym t)

module _ (d : ℕ) (rows : List Row) (items : List Listed) (m : IsMachine d rows) (r : IsArranged d rows items) (sorted : (k : ℕ) (z : Listed) → 0 ≤ k → k + 1 < length items → is_lt (listed_cmp (get_or items (k + 1) z) (get_or items k z)) ≡ false) (z : Listed) (ms : List MachineView) (h : AreMachinesOf d rows items ms (length items)) where
  -- what the machine of a code is
  record IsMade (i s : ℕ) : Type 0 where
    canonical : IsCanonical d (element_of (machine_at ms i)) (states_of (machine_at ms i).rows)
    alike : IsAlike (row_term rows s) (element_of (machine_at ms i))
    size : length (machine_at ms i).rows ≡ (get_or items i z).size
    code : (get_or items i z).code.items ≡ code_of (states_of (machine_at ms i).rows)

  made : (i s : ℕ) → i < length items → s < length rows → IsListed d rows s (get_or items i z) → IsMade i s
  made i s l k x =
      let item = get_or items i z in
      let qs = x.code.states in
      let a : IsCanonical d (row_term rows s) (states_of (machine_at ms i).rows) = subst (λ k. IsCanonical d (row_term rows k) (states_of (machine_at ms i).rows)) x.of_row (h.canonical i z l) in
      let same : states_of (machine_at ms i).rows ≡ qs = canonical_same d (row_term rows s) (row_term rows s) (states_of (machine_at ms i).rows) qs a x.code.canonical (alike_refl (row_term rows s)) in
      let alike : IsAlike (row_term rows s) (element_of (machine_at ms i)) = canonical_alike d (row_term rows s) (IsTerm-row_term d rows s m k) (states_of (machine_at ms i).rows) a in
      let n : length item.code.items / (d + 1) ≡ length qs = count_is d qs item.code.items x.code.canonical.automaton x.code.written in
      let back : item.size * (d + 1) / (d + 1) ≡ item.size = mul-div_cancel item.size (omega arith) in
      record {
        canonical = IsCanonical-alike d (row_term rows s) (element_of (machine_at ms i)) (states_of (machine_at ms i).rows) alike a;
        alike = alike;
        size = sym (length-states_of (machine_at ms i).rows) ∙ ap length same ∙ sym n ∙ ap (λ j. j / (d + 1)) x.length_code ∙ back;
        code = x.code.written ∙ ap code_of (sym same);
      }

  own : (i : ℕ) → (l : i < length items) → IsMade i (r.each i z l).0
  own i l = let x = r.each i z l in made i x.0 l x.1 x.2

  order : (i j : ℕ) → i < j → j < length ms → IsBefore (machine_at ms i).rows (machine_at ms j).rows
  order i j l k =
      let jl : j < length items = omega (arith, h.count) in
      let il : i < length items = omega arith in
      let x = own i il in
      let y = own j jl in
      elim (all_before d rows items r sorted z i j l jl) [
        | inl f ↦ inl (omega (arith, x.size, y.size))
        | inr f ↦ inr (x.size ∙ f.0 ∙ sym y.size, rw (← x.code, ← y.code) f.1)
      ]

  pub IsListing-from : IsListing d rows ms
  IsListing-from = record {
    count = h.count ∙ r.count;
    over = λ i e l. rw (get_or_default ms i e (record { alphabet = 0; rows = [] }) l) (h.over i (omega (arith, h.count)));
    canonical = λ i e l. rw (get_or_default ms i e (record { alphabet = 0; rows = [] }) l) (own i (omega (arith, h.count))).canonical;
    order = order;
    whole = λ s l. (let w = r.whole s z l in (w.0, omega (arith, w.1, h.count), (made w.0 s w.1 l w.2).alike));
    only = λ i l.
        let il : i < length items = omega (arith, h.count) in
        let x = r.each i z il in
        (x.0, x.1, alike_sym (own i il).alike);
  }

-- an item that is met is that of a row
pub item_row : (d : ℕ) (rows : List Row) (items : List Listed) (k : ℕ) (item : Listed) → IsArranged d rows items → k < length items → item ≡ get_or items k item → item.row < length rows
item_row d rows items k item r l e =
    let x = r.each k item l in
    omega (arith, ap (λ (y : Listed). y.row) e, x.2.of_row, x.1)

-- a member of a list that has one
pub some_item : {A : Type 0} (xs : List A) → 0 < length xs → A
some_item [] l = absurd (omega arith)
some_item (x ∷ xs) l = x
