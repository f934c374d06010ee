-- Handles with the codes of their rows, and how they grow.
use Rattle.std.proofs.Common.{ℕ, zero, suc, ◌≡◌, ◌≢◌, ◌+◌, ◌-◌, ◌<◌, ◌≤◌, ◌⊎◌, inl, inr, List, [], ◌∷◌, ◌++◌, length, get_or, set, refl, sym, ◌∙◌, ap, subst, arith, true}
use Rattle.std.proofs.lemmas.Bool.Decides.{nat_tests}
use Rattle.std.proofs.lemmas.Bool.{cases_eq, cases_lt, cases_order}
use Rattle.std.proofs.lemmas.List.{get_or_push, get_or_append_left, length_push, get_or-set_same, get_or-set_other}
use Rattle.fr_store.specs.Index.{holds, AreDistinct, IsNew, IsIndex, IsTable, IsGiven, AreHints, IsLinked}

pub holds_at : (hs : List ℕ) (n : ℕ) → holds hs n ≡ true → (i : ℕ) × (i < length hs) × (get_or hs i 0 ≡ n)
holds_at [] n e = absurd (cc)
holds_at (h ∷ hs) n e = elim (cases_eq h n) [
  | inl s ↦ (0, omega arith, s)
  | inr ne ↦ (let r = holds_at hs n (grind (arith, nat_tests, ne, e)) in (suc r.0, omega (arith, r.1), r.2))
]

pub holds_of : (hs : List ℕ) (i n : ℕ) → i < length hs → get_or hs i 0 ≡ n → holds hs n ≡ true
holds_of [] i n l e = absurd (omega arith)
holds_of (h ∷ hs) zero n l e = grind (arith, nat_tests, e)
holds_of (h ∷ hs) (suc i) n l e = let r = holds_of hs i n (omega arith) e in grind (arith, nat_tests, r)

-- ---- a handle more
at_end : (hs : List ℕ) (k i : ℕ) → i < length (hs ++ k ∷ []) → length hs ≤ i → length hs ≡ i
at_end hs k i l m = let n = length_push hs k in omega (arith, n, l, m)

pub holds_push : (hs : List ℕ) (k n : ℕ) → holds hs n ≡ true → holds (hs ++ k ∷ []) n ≡ true
holds_push hs k n h = let i = holds_at hs n h in holds_of (hs ++ k ∷ []) i.0 n (let m = length_push hs k in omega (arith, m, i.1)) (get_or_append_left hs (k ∷ []) 0 i.0 i.1 ∙ i.2)

pub holds_push_new : (hs : List ℕ) (k : ℕ) → holds (hs ++ k ∷ []) k ≡ true
holds_push_new hs k = holds_of (hs ++ k ∷ []) (length hs) k (let m = length_push hs k in omega (arith, m)) (get_or_push hs k 0 (length hs) refl)

pub holds_push_only : (hs : List ℕ) (k n : ℕ) → holds (hs ++ k ∷ []) n ≡ true → (holds hs n ≡ true) ⊎ (n ≡ k)
holds_push_only hs k n h =
    let i = holds_at (hs ++ k ∷ []) n h in
    elim (cases_lt i.0 (length hs)) [
      | inl t ↦ inl (holds_of hs i.0 n t (sym (get_or_append_left hs (k ∷ []) 0 i.0 t) ∙ i.2))
      | inr t ↦ inr (sym i.2 ∙ get_or_push hs k 0 i.0 (at_end hs k i.0 i.1 t))
    ]

module _ (code : ℕ → List ℕ) (rows : ℕ) (handles : List ℕ) (d : AreDistinct code rows handles) where
  pub handle-lt_rows : (n : ℕ) → holds handles n ≡ true → n < rows
  handle-lt_rows n h = let i = holds_at handles n h in let w = d.within i.0 i.1 in omega (arith, w, i.2)

  pub rises_apart : (k j : ℕ) → k < j → j < length handles → get_or handles k 0 ≢ get_or handles j 0
  rises_apart k j l m e = d.apart k j l m (ap code e)

  -- handles with one code are one
  pub one_handle : (n m : ℕ) → holds handles n ≡ true → holds handles m ≡ true → code n ≡ code m → n ≡ m
  one_handle n m a b e =
      let i = holds_at handles n a in
      let j = holds_at handles m b in
      let same : code (get_or handles i.0 0) ≡ code (get_or handles j.0 0) = ap code i.2 ∙ e ∙ sym (ap code j.2) in
      elim (cases_order i.0 j.0) [
        | inl t ↦ sym i.2 ∙ ap (λ k. get_or handles k 0) t ∙ j.2
        | inr t ↦ elim t [
          | inl u ↦ absurd (d.apart i.0 j.0 u j.1 same)
          | inr u ↦ absurd (d.apart j.0 i.0 u i.1 (sym same))
        ]
      ]

  pub AreDistinct-push : (row : ℕ) → row < rows → IsNew code handles (code row) → AreDistinct code rows (handles ++ row ∷ [])
  AreDistinct-push row l new = record {
    within = λ i m. elim (cases_lt i (length handles)) [
      | inl t ↦ (let e = get_or_append_left handles (row ∷ []) 0 i t in let w = d.within i t in omega (arith, e, w))
      | inr t ↦ (let e = get_or_push handles row 0 i (at_end handles row i m t) in omega (arith, e, l))
    ];
    apart = λ i j t m e.
        let il : i < length handles = let n = length_push handles row in omega (arith, n, t, m) in
        let at_i = get_or_append_left handles (row ∷ []) 0 i il in
        elim (cases_lt j (length handles)) [
          | inl u ↦ d.apart i j t u (sym (ap code at_i) ∙ e ∙ ap code (get_or_append_left handles (row ∷ []) 0 j u))
          | inr u ↦ new (get_or handles i 0) (holds_of handles i (get_or handles i 0) il refl) (sym (ap code at_i) ∙ e ∙ ap code (get_or_push handles row 0 j (at_end handles row j m u)))
        ];
  }

-- ---- the links, when one row more has a handle
module _ (code : ℕ → List ℕ) (rows : ℕ) (handles links : List ℕ) (x : IsIndex code rows handles links) (l : length links < rows) where
  pub IsLinked-given : (handles' cells' links' : List ℕ) (row n : ℕ) → row ≡ length links → IsGiven code rows row handles handles' cells' n → links' ≡ links ++ n ∷ [] → IsLinked code rows 1 handles links handles' links' cells'
  IsLinked-given handles' cells' links' row n r g s =
      let P : List ℕ → Type 0 = λ ls. IsIndex code rows handles' ls in
      record {
        index = subst P (sym s) (record {
          distinct = g.distinct;
          few = omega (arith, g.few, x.few, length_push links n);
          most = omega (arith, l, length_push links n);
          is_handle = λ k m. elim (cases_lt k (length links)) [
            | inl t ↦ ap (holds handles') (get_or_append_left links (n ∷ []) 0 k t) ∙ g.keeps (get_or links k 0) (x.is_handle k t)
            | inr t ↦ ap (holds handles') (get_or_push links n 0 k (at_end links n k m t)) ∙ g.handle
          ];
          linked = λ k m. elim (cases_lt k (length links)) [
            | inl t ↦ ap code (get_or_append_left links (n ∷ []) 0 k t) ∙ x.linked k t
            | inr t ↦ ap code (get_or_push links n 0 k (at_end links n k m t)) ∙ g.is ∙ ap code (r ∙ at_end links n k m t)
          ];
        });
        table = g.table;
        longer = ap length s ∙ length_push links n;
        keeps = g.keeps;
        only = λ m k. elim (g.only m k) [ inl t ↦ inl t | inr t ↦ inr (omega (arith, t, r), omega (arith, t, r)) ];
      }

-- a row has the handle with its code
pub IsGiven-found : (code : ℕ → List ℕ) (rows row : ℕ) (handles cells : List ℕ) (n : ℕ) → AreDistinct code rows handles → IsTable code handles cells → holds handles n ≡ true → code n ≡ code row → IsGiven code rows row handles handles cells n
IsGiven-found code rows row handles cells n d t h e = record {
  distinct = d;
  table = t;
  few = omega arith;
  keeps = λ m k. k;
  only = λ m k. inl k;
  handle = h;
  is = e;
}

-- no row has got a handle
pub IsLinked-none : (code : ℕ → List ℕ) (rows : ℕ) (handles links cells : List ℕ) → IsIndex code rows handles links → IsTable code handles cells → IsLinked code rows 0 handles links handles links cells
IsLinked-none code rows handles links cells x t = record { index = x; table = t; longer = omega arith; keeps = λ n k. k; only = λ n k. inl k }

-- one row more has got a handle
pub IsLinked-more : (code : ℕ → List ℕ) (rows count : ℕ) (h l h' l' c' h2 l2 c2 : List ℕ) → IsLinked code rows count h l h' l' c' → IsLinked code rows 1 h' l' h2 l2 c2 → IsLinked code rows (count + 1) h l h2 l2 c2
IsLinked-more code rows count h l h' l' c' h2 l2 c2 a b = record {
  index = b.index;
  table = b.table;
  longer = omega (arith, a.longer, b.longer);
  keeps = λ n k. b.keeps n (a.keeps n k);
  only = λ n k. elim (b.only n k) [
    | inl t ↦ elim (a.only n t) [ inl u ↦ inl u | inr u ↦ inr (u.0, omega (arith, u.1)) ]
    | inr t ↦ inr (omega (arith, t.0, a.longer), omega (arith, t.1, a.longer))
  ];
}

-- the index over more rows, where the first ones keep their codes
pub IsIndex-wider : (code code' : ℕ → List ℕ) (rows rows' : ℕ) (handles links : List ℕ) → ((r : ℕ) → r < rows → code' r ≡ code r) → rows ≤ rows' → IsIndex code rows handles links → IsIndex code' rows' handles links
IsIndex-wider code code' rows rows' handles links same l x = record {
  distinct = record {
    within = λ i m. (let w = x.distinct.within i m in omega (arith, w, l));
    apart = λ i j t m e.
        let il : i < length handles = omega (arith, t, m) in
        x.distinct.apart i j t m (sym (same (get_or handles i 0) (x.distinct.within i il)) ∙ e ∙ same (get_or handles j 0) (x.distinct.within j m));
  };
  few = x.few;
  most = omega (arith, x.most, l);
  is_handle = x.is_handle;
  linked = λ r m.
      let h = get_or links r 0 in
      let w : h < rows = handle-lt_rows code rows handles x.distinct h (x.is_handle r m) in
      let u : r < rows = omega (arith, m, x.most) in
      same h w ∙ x.linked r m ∙ sym (same r u);
}

-- ---- hints
pub AreHints-none : (code : ℕ → List ℕ) (handles : List ℕ) (start : ℕ) (hints : List ℕ) → ((k : ℕ) → get_or hints k 0 ≡ 0) → AreHints code handles start hints
AreHints-none code handles start hints z k n = absurd (n (z k))

pub AreHints-keeps : (code : ℕ → List ℕ) (handles handles' : List ℕ) (start : ℕ) (hints : List ℕ) → ((n : ℕ) → holds handles n ≡ true → holds handles' n ≡ true) → AreHints code handles start hints → AreHints code handles' start hints
AreHints-keeps code handles handles' start hints keeps h k n = let f = h k n in record { handle = keeps (get_or hints k 0 - 1) f.handle; is = f.is }

pub AreHints-set : (code : ℕ → List ℕ) (handles : List ℕ) (start : ℕ) (hints : List ℕ) (row n : ℕ) → start ≤ row → row - start < length hints → holds handles n ≡ true → code n ≡ code row → AreHints code handles start hints → AreHints code handles start (set hints (row - start) (n + 1))
AreHints-set code handles start hints row n l m o e h k z = elim (cases_eq k (row - start)) [
  | inl s ↦
      let at : get_or (set hints (row - start) (n + 1)) k 0 ≡ n + 1 = ap (λ i. get_or (set hints (row - start) (n + 1)) i 0) s ∙ get_or-set_same hints (row - start) (n + 1) 0 m in
      let one : n + 1 - 1 ≡ n = omega arith in
      let is : get_or (set hints (row - start) (n + 1)) k 0 - 1 ≡ n = ap (λ v. v - 1) at ∙ one in
      let there : start + k ≡ row = omega (arith, s, l) in
      record { handle = ap (holds handles) is ∙ o; is = ap code is ∙ e ∙ ap code (sym there) }
  | inr s ↦
      let at = get_or-set_other hints (row - start) k (n + 1) 0 s in
      let f = h k (λ y. z (at ∙ y)) in
      record { handle = ap (λ v. holds handles (v - 1)) at ∙ f.handle; is = ap (λ v. code (v - 1)) at ∙ f.is }
]
