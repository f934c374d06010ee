-- A hash table of handles: what a walk tells, and a handle more.
use Rattle.std.proofs.Common.{ℕ, ◌≡◌, ◌≢◌, ◌+◌, ◌-◌, ◌%◌, ◌<◌, ◌≤◌, inl, inr, List, [], ◌∷◌, ◌++◌, length, get_or, set, map, refl, sym, ◌∙◌, ap, arith, true}
use Rattle.std.proofs.Math.Nat.{mod-eq_of_lt, mod-lt, add-mod_right}
use Rattle.std.proofs.lemmas.Bool.{cases_eq, cases_lt, cases_order}
use Rattle.std.proofs.lemmas.List.{get_or-map, length-map, length-set, get_or-set_same, get_or-set_other, length_push}
use Rattle.fr_canon.specs.Codes.{home_of}
use Rattle.fr_store.specs.Index.{holds, cell_at, met_at, AreDistinct, IsNew, IsTable, IsPassed, IsGap, IsGiven}
use Rattle.fr_canon.proofs.ApartLaws.{length-le_apart}
use Rattle.fr_store.proofs.IndexLaws.{holds_push, holds_push_new, holds_push_only, handle-lt_rows, AreDistinct-push}

less_one : (n : ℕ) → n + 1 - 1 ≡ n
less_one n = omega arith

pub cell_at-lt : (cells start steps : ℕ) → 0 < cells → cell_at cells start steps < cells
cell_at-lt cells start steps l = mod-lt (start + steps) l

-- a walk comes to each cell
pub steps_to : (cells start c : ℕ) → start < cells → c < cells → (i : ℕ) × (i < cells) × (cell_at cells start i ≡ c)
steps_to cells start c s l = elim (cases_lt c start) [
  | inl t ↦
      let i = c + cells - start in
      let e : start + i ≡ c + cells = omega (arith, s, t) in
      (i, omega (arith, t), ap (λ n. n % cells) e ∙ add-mod_right c cells ∙ mod-eq_of_lt l)
  | inr t ↦
      let i = c - start in
      let e : start + i ≡ c = omega (arith, t) in
      (i, omega (arith, l), ap (λ n. n % cells) e ∙ mod-eq_of_lt l)
]

-- no cell is taken
pub IsTable-empty : (code : ℕ → List ℕ) (handles cells : List ℕ) → handles ≡ [] → ((c : ℕ) → get_or cells c 0 ≡ 0) → IsTable code handles cells
IsTable-empty code handles cells h z = record {
  valid = λ c l n. absurd (n (z c));
  once = λ c e l m n s. absurd (n (z c));
  met = λ n steps k e all. none n (sym (ap (λ hs. holds hs n) h) ∙ k);
}
  where
    none : (n : ℕ) → holds [] n ≡ true → ⊥
    none n e = cc

module _ (code : ℕ → List ℕ) (handles cells : List ℕ) (t : IsTable code handles cells) where
  -- the walk of a code that comes to a 0 tells that no handle has it
  pub IsNew-gap : (wanted : List ℕ) (cell : ℕ) → IsGap code cells wanted cell → IsNew code handles wanted
  IsNew-gap wanted cell g n h e =
      t.met n g.steps h (ap (λ c. met_at cells c g.steps) e ∙ g.empty) (λ i l s.
      (let at : met_at cells wanted i ≡ n + 1 = sym (ap (λ c. met_at cells c i) e) ∙ s in
      (g.passed i l).1 (ap (λ c. code (c - 1)) at ∙ ap code (less_one n) ∙ e)))

  -- a walk comes to a 0
  pub walk-ends : (rows : ℕ) (wanted : List ℕ) → AreDistinct code rows handles → rows < length cells → IsPassed code cells wanted (length cells) → ⊥
  walk-ends rows wanted d l p =
      let some : 0 < length cells = omega (arith, l) in
      let start = home_of wanted (length cells) in
      let n = length-map cells (λ c. c - 1) in
      let few = length-le_apart (map (λ c. c - 1) cells) rows
      (λ c m. (let k : c < length cells = omega (arith, m, n) in let e = get_or-map (λ c. c - 1) cells c 0 0 k in let r = handle-lt_rows code rows handles d (get_or cells c 0 - 1) (t.valid c k (taken some c k)) in omega (arith, e, r)))
      (λ c e m o s.
      (let k : c < length cells = omega (arith, m, n) in
      let q : e < length cells = omega (arith, o, n) in
      let u = get_or-map (λ c. c - 1) cells c 0 0 k in
      let v = get_or-map (λ c. c - 1) cells e 0 0 q in
      t.once c e k q (taken some c k) (one_less (get_or cells c 0) (get_or cells e 0) (taken some c k) (taken some e q) (sym u ∙ s ∙ v)))) in
      omega (arith, few, n, l)
    where
      taken : 0 < length cells → (c : ℕ) → c < length cells → get_or cells c 0 ≢ 0
      taken some c k e =
          let i = steps_to (length cells) (home_of wanted (length cells)) c (mod-lt _ some) k in
          (p i.0 i.1).0 (ap (λ c. get_or cells c 0) i.2 ∙ e)

      one_less : (a b : ℕ) → a ≢ 0 → b ≢ 0 → a - 1 ≡ b - 1 → a ≡ b
      one_less a b x y e = elim (cases_eq a 0) [
        | inl s ↦ absurd (x s)
        | inr s ↦ elim (cases_eq b 0) [ inl u ↦ absurd (y u) | inr u ↦ omega (arith, s, u, e) ]
      ]

  module _ (row cell : ℕ) (some : 0 < length cells) (g : IsGap code cells (code row) cell) where
    abbrev handles' : List ℕ
    handles' = handles ++ row ∷ []

    abbrev cells' : List ℕ
    cells' = set cells cell (row + 1)

    size : length cells' ≡ length cells
    size = length-set cells cell (row + 1)

    cell-lt : cell < length cells
    cell-lt = let e = g.is in let m = cell_at-lt (length cells) (home_of (code row) (length cells)) g.steps some in omega (arith, e, m)

    empty : get_or cells cell 0 ≡ 0
    empty = ap (λ c. get_or cells c 0) g.is ∙ g.empty

    here : get_or cells' cell 0 ≡ row + 1
    here = get_or-set_same cells cell (row + 1) 0 cell-lt

    there : (c : ℕ) → c ≢ cell → get_or cells' c 0 ≡ get_or cells c 0
    there c n = get_or-set_other cells cell c (row + 1) 0 n

    -- the row stood in no cell
    absent : (c : ℕ) → c < length cells → get_or cells c 0 ≢ row + 1
    absent c l e =
        let some : get_or cells c 0 ≢ 0 = λ z. (omega (arith, e, z)) in
        let h : holds handles row ≡ true = sym (ap (λ v. holds handles (v - 1)) e ∙ ap (holds handles) (less_one row)) ∙ t.valid c l some in
        IsNew-gap (code row) cell g row h refl

    -- a walk in the new cells
    walk : (wanted : List ℕ) (i : ℕ) → met_at cells' wanted i ≡ get_or cells' (cell_at (length cells) (home_of wanted (length cells)) i) 0
    walk wanted i = ap (λ n. get_or cells' (cell_at n (home_of wanted n) i) 0) size

    -- a 0 in the new cells was one
    was_empty : (c : ℕ) → get_or cells' c 0 ≡ 0 → (c ≢ cell) × (get_or cells c 0 ≡ 0)
    was_empty c e = elim (cases_eq c cell) [
      | inl s ↦ absurd (let z = ap (λ c. get_or cells' c 0) s in omega (arith, z, e, here))
      | inr n ↦ (n, sym (there c n) ∙ e)
    ]

    met_old : (n steps : ℕ) → holds handles n ≡ true → met_at cells' (code n) steps ≡ 0 → ((i : ℕ) → i < steps → met_at cells' (code n) i ≢ n + 1) → ⊥
    met_old n steps h e all =
        let at = λ (i : ℕ). cell_at (length cells) (home_of (code n) (length cells)) i in
        t.met n steps h (was_empty (at steps) (sym (walk (code n) steps) ∙ e)).1 (λ i l s. elim (cases_eq (at i) cell) [
          | inl z ↦ (let q = ap (λ c. get_or cells c 0) z in omega (arith, q, s, empty))
          | inr z ↦ all i l (walk (code n) i ∙ there (at i) z ∙ s)
        ])

    met_new : (steps : ℕ) → met_at cells' (code row) steps ≡ 0 → ((i : ℕ) → i < steps → met_at cells' (code row) i ≢ row + 1) → ⊥
    met_new steps e all =
        let at = λ (i : ℕ). cell_at (length cells) (home_of (code row) (length cells)) i in
        let w = was_empty (at steps) (sym (walk (code row) steps) ∙ e) in
        elim (cases_order steps g.steps) [
          | inl u ↦ w.0 (ap at u ∙ sym g.is)
          | inr u ↦ elim u [
            | inl v ↦ (g.passed steps v).0 w.1
            | inr v ↦ all g.steps v (walk (code row) g.steps ∙ ap (λ c. get_or cells' c 0) (sym g.is) ∙ here)
          ]
        ]

    IsTable-put : IsTable code handles' cells'
    IsTable-put = record {
      valid = λ c l n. elim (cases_eq c cell) [
        | inl s ↦ (let e : get_or cells' c 0 ≡ row + 1 = ap (λ c. get_or cells' c 0) s ∙ here in ap (λ v. holds handles' (v - 1)) e ∙ ap (holds handles') (less_one row) ∙ holds_push_new handles row)
        | inr s ↦ (let e = there c s in ap (λ v. holds handles' (v - 1)) e ∙ holds_push handles row (get_or cells c 0 - 1) (t.valid c (omega (arith, l, size)) (λ z. n (e ∙ z))))
      ];
      once = λ c e l m n s. elim (cases_eq c cell) [
        | inl u ↦ elim (cases_eq e cell) [
          | inl v ↦ u ∙ sym v
          | inr v ↦ absurd (absent e (omega (arith, m, size)) (sym (there e v) ∙ sym s ∙ ap (λ c. get_or cells' c 0) u ∙ here))
        ]
        | inr u ↦ elim (cases_eq e cell) [
          | inl v ↦ absurd (absent c (omega (arith, l, size)) (sym (there c u) ∙ s ∙ ap (λ c. get_or cells' c 0) v ∙ here))
          | inr v ↦ t.once c e (omega (arith, l, size)) (omega (arith, m, size)) (λ z. n (there c u ∙ z)) (sym (there c u) ∙ s ∙ there e v)
        ]
      ];
      met = λ n steps h e all. elim (holds_push_only handles row n h) [
        | inl o ↦ met_old n steps o e all
        | inr o ↦ met_new steps (sym (ap (λ m. met_at cells' (code m) steps) o) ∙ e) (λ i l s. all i l (ap (λ m. met_at cells' (code m) i) o ∙ s ∙ ap (λ m. m + 1) (sym o)))
      ];
    }

    -- the row is a handle of its own
    pub IsGiven-new : (rows : ℕ) → AreDistinct code rows handles → row < rows → IsGiven code rows row handles handles' cells' row
    IsGiven-new rows d l = record {
      distinct = AreDistinct-push code rows handles d row l (IsNew-gap (code row) cell g);
      table = IsTable-put;
      few = few;
      keeps = λ n h. holds_push handles row n h;
      only = λ n h. holds_push_only handles row n h;
      handle = holds_push_new handles row;
      is = refl;
    }
      where
        few : length handles' ≤ length handles + 1
        few = let n = length_push handles row in omega (arith, n)

-- the table, where the handles keep their codes
pub IsTable-wider : (code code' : ℕ → List ℕ) (handles cells : List ℕ) → ((n : ℕ) → holds handles n ≡ true → code' n ≡ code n) → IsTable code handles cells → IsTable code' handles cells
IsTable-wider code code' handles cells same t = record {
  valid = t.valid;
  once = t.once;
  met = λ n steps h e all. t.met n steps h (sym (ap (λ c. met_at cells c steps) (same n h)) ∙ e) (λ i l s. all i l (ap (λ c. met_at cells c i) (same n h) ∙ s));
}

-- what a cell holds is a row
pub held-lt_rows : (code : ℕ → List ℕ) (rows : ℕ) (handles cells : List ℕ) → AreDistinct code rows handles → IsTable code handles cells → (cell held : ℕ) → cell < length cells → held ≡ get_or cells cell 0 → 0 < held → held - 1 < rows
held-lt_rows code rows handles cells d t cell held l e some =
    let r = handle-lt_rows code rows handles d (get_or cells cell 0 - 1) (t.valid cell l (λ z. (omega (arith, z, e, some)))) in
    omega (arith, r, e)
