-- The class to which a row with a signature goes.
use Rattle.std.proofs.Common.{ℕ, ◌≡◌, ◌≢◌, ◌+◌, ◌<◌, ◌≤◌, inl, inr, List, [], ◌∷◌, ◌++◌, length, get_or, Some, None, refl, sym, ◌∙◌, ap, arith}
use Rattle.std.proofs.lemmas.List.{get_or_append_left, get_or_push, length_push, get_or_past}
use Rattle.std.proofs.lemmas.Bool.{cases_lt, cases_eq}
use Rattle.fr_classes.specs.declared.partition.Partition.{Partition}
use Rattle.fr_classes.specs.declared.key_table.KeyTable.{KeyTable}
use Rattle.fr_classes.specs.KeyTables.{number_in, IsKeyTable, IsEntered}
use Rattle.fr_classes.specs.Refinement.{known_at, clean_at, IsTallied, IsSeen, IsTarget}
use Rattle.fr_classes.proofs.CleanCountLaws.{clean_count-le}

pub target_found : (p : Partition) (seen : KeyTable) (c : ℕ) (q : List ℕ) (m : ℕ) → length p.clean.items ≡ length p.known.items → IsKeyTable seen → number_in seen (c ∷ q) ≡ Some m → known_at p c ≢ q → IsTarget p p seen seen c q m
target_found p seen c q m a b e g = record {
  of = refl;
  dirty = refl;
  todo = refl;
  table = b;
  as_many = a;
  longer = inl refl;
  inside = inl e;
  here = inl e;
  kept = λ j l. refl;
  tally = λ j. refl;
  named = inr (e, g);
  finds = λ key x h. inl h;
  keeps = λ key x h. h;
}

pub target_own : (p : Partition) (seen : KeyTable) (c : ℕ) (q : List ℕ) → c < length p.known.items → length p.clean.items ≡ length p.known.items → IsKeyTable seen → known_at p c ≡ q → IsTarget p p seen seen c q c
target_own p seen c q l a b e = record {
  of = refl;
  dirty = refl;
  todo = refl;
  table = b;
  as_many = a;
  longer = inl refl;
  inside = inr l;
  here = inr e;
  kept = λ j l. refl;
  tally = λ j. refl;
  named = inl refl;
  finds = λ key x h. inl h;
  keeps = λ key x h. h;
}

pub tally_push : (xs : List ℕ) (j : ℕ) → get_or (xs ++ 0 ∷ []) j 0 ≡ get_or xs j 0
tally_push xs j = elim (cases_lt j (length xs)) [
  | inl l ↦ get_or_append_left xs (0 ∷ []) 0 j l
  | inr g ↦ elim (cases_eq j (length xs)) [
    | inl e ↦ get_or_push xs 0 0 j (sym e) ∙ sym (get_or_past xs j 0 g)
    | inr n ↦ get_or_past (xs ++ 0 ∷ []) j 0 (omega (arith, length_push xs 0)) ∙ sym (get_or_past xs j 0 g)
  ]
]

pub target_fresh : (p p' : Partition) (seen seen' : KeyTable) (c : ℕ) (q : List ℕ) (m : ℕ) → p'.of.items ≡ p.of.items → p'.dirty.items ≡ p.dirty.items → p'.todo.items ≡ p.todo.items
    → p'.known.items ≡ p.known.items ++ q ∷ [] → p'.clean.items ≡ p.clean.items ++ 0 ∷ [] → m ≡ length p.known.items
    → length p.clean.items ≡ length p.known.items → IsKeyTable seen' → number_in seen (c ∷ q) ≡ None → IsEntered seen seen' (c ∷ q) m → known_at p c ≢ q → IsTarget p p' seen seen' c q m
target_fresh p p' seen seen' c q m of dirty todo known clean e a b none u g =
    let size : length p'.known.items ≡ length p.known.items + 1 = ap length known ∙ length_push p.known.items q in
    let size' : length p'.clean.items ≡ length p.clean.items + 1 = ap length clean ∙ length_push p.clean.items 0 in
    let here : known_at p' m ≡ q = ap (λ xs. get_or xs m []) known ∙ get_or_push p.known.items q [] m (sym e) in
    let lt : m < length p'.known.items = omega arith in
    record {
      of = of;
      dirty = dirty;
      todo = todo;
      table = b;
      as_many = omega arith;
      longer = inr (e, size);
      inside = inr lt;
      here = inr here;
      kept = λ j l. ap (λ xs. get_or xs j []) known ∙ get_or_append_left p.known.items (q ∷ []) [] j l;
      tally = λ j. ap (λ xs. get_or xs j 0) clean ∙ tally_push p.clean.items j;
      named = inr (u.0, g);
      finds = λ key x h. elim (u.1 key) [
        | inl k ↦ let same : x ≡ m = cc (u.0) in inr (k, same, e, lt, here, g)
        | inr o ↦ inl (sym o ∙ h)
      ];
      keeps = λ key x h. elim (u.1 key) [
        | inl k ↦ absurd (let w = ap (number_in seen) k in cc)
        | inr o ↦ o ∙ h
      ];
    }

pub target_inside : (p t : Partition) (seen seen' : KeyTable) (c : ℕ) (q : List ℕ) (m : ℕ) → IsSeen p seen → IsTarget p t seen seen' c q m → m < length t.clean.items
target_inside p t seen seen' c q m s x =
    let more : length p.known.items ≤ length t.known.items = elim x.longer [ inl e ↦ omega arith | inr e ↦ omega (arith, e.1) ] in
    elim x.inside [ inl e ↦ omega (arith, s.below c q m e, more, x.as_many) | inr l ↦ omega (arith, x.as_many) ]

-- the count of clean rows stays small
pub clean_room : (p t : Partition) (seen seen' : KeyTable) (c : ℕ) (q : List ℕ) (m : ℕ) → IsTallied p → IsTarget p t seen seen' c q m → clean_at t m ≤ 65536
clean_room p t seen seen' c q m h x = elim (cases_lt m (length p.known.items)) [
  | inl l ↦ omega (arith, x.tally m, h.counts m l, clean_count-le m p.of.items p.dirty.items, h.few)
  | inr g ↦ omega (arith, x.tally m, get_or_past p.clean.items m 0 (omega (arith, h.as_many)))
]
