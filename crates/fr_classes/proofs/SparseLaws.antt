-- A walk over keys that are found by their remainders.
use Rattle.std.proofs.Common.{ℕ, ◌≡◌, ◌≢◌, ◌+◌, ◌<◌, ◌%◌, inl, inr, [], ◌∷◌, ◌++◌, length, set, get_or, replicate, sym, ◌∙◌, ap, arith}
use Rattle.std.proofs.lemmas.List.{get_or_append_left, get_or_push, length_push, get_or_past, get_or-set_same, get_or-set_other, get_or-replicate, length-replicate, length-set}
use Rattle.std.proofs.lemmas.Bool.{cases_lt, cases_eq}
use Rattle.fr_classes.specs.declared.sparse.SparseWalk.{SparseWalk}
use Rattle.fr_classes.specs.Sparse.{bucket_at, IsSparse}

pub IsSparse-empty : (w : SparseWalk) (n : ℕ) → 0 < n → w.keys.items ≡ [] → w.earlier.items ≡ [] → w.latest.items ≡ replicate n 0 → IsSparse w
IsSparse-empty w n some e f g =
    let size : length w.latest.items ≡ n = ap length g ∙ length-replicate {A = ℕ} n 0 in
    let zeros : (b : ℕ) → get_or w.latest.items b 0 ≡ 0 = λ b. ap (λ xs. get_or xs b 0) g ∙ elim (cases_lt b n) [
      | inl l ↦ get_or-replicate n b 0 0 l
      | inr k ↦ get_or_past (replicate n 0) b 0 (omega (arith, length-replicate {A = ℕ} n 0))
    ] in
    let no : length w.keys.items ≡ 0 = ap length e in
    let no' : length w.earlier.items ≡ 0 = ap length f in
    record {
      some = omega (arith, size);
      count = omega (arith, no, no');
      within = λ b. omega (arith, zeros b);
      latest = λ b i l k. absurd (omega (arith, zeros b));
      after = λ b i l k j. absurd (omega (arith, no));
      falls = λ j. let v = get_or_past w.earlier.items j 0 (omega (arith, no')) in omega (arith, v);
      earlier = λ j i l k. absurd (omega (arith, no));
      between = λ j i l k m. absurd (omega (arith, no));
      apart = λ i j l k. absurd (omega (arith, no));
    }

-- a key more
module _ (w w' : SparseWalk) (key b : ℕ) (h : IsSparse w) (own : b ≡ key % length w.latest.items) (below : b < length w.latest.items) (fresh : (i : ℕ) → i < length w.keys.items → get_or w.keys.items i 0 ≢ key)
    (keys : w'.keys.items ≡ w.keys.items ++ key ∷ []) (earlier : w'.earlier.items ≡ w.earlier.items ++ get_or w.latest.items b 0 ∷ []) (latest : w'.latest.items ≡ set w.latest.items b (length w.keys.items + 1)) where
  abbrev count : ℕ
  count = length w.keys.items

  count' : length w'.keys.items ≡ count + 1
  count' = ap length keys ∙ length_push w.keys.items key

  buckets' : length w'.latest.items ≡ length w.latest.items
  buckets' = ap length latest ∙ length-set w.latest.items b _

  old_key : (i : ℕ) → i < count → get_or w'.keys.items i 0 ≡ get_or w.keys.items i 0
  old_key i l = ap (λ xs. get_or xs i 0) keys ∙ get_or_append_left w.keys.items (key ∷ []) 0 i l

  new_key : (i : ℕ) → count ≡ i → get_or w'.keys.items i 0 ≡ key
  new_key i e = ap (λ xs. get_or xs i 0) keys ∙ get_or_push w.keys.items key 0 i e

  latest_here : get_or w'.latest.items b 0 ≡ count + 1
  latest_here = ap (λ xs. get_or xs b 0) latest ∙ get_or-set_same w.latest.items b _ 0 below

  latest_other : (c : ℕ) → c ≢ b → get_or w'.latest.items c 0 ≡ get_or w.latest.items c 0
  latest_other c o = ap (λ xs. get_or xs c 0) latest ∙ get_or-set_other w.latest.items b c _ 0 o

  old_bucket : (i : ℕ) → i < count → bucket_at w' i ≡ bucket_at w i
  old_bucket i l = ap (λ m. get_or w'.keys.items i 0 % m) buckets' ∙ ap (λ k. k % length w.latest.items) (old_key i l)

  new_bucket : (i : ℕ) → count ≡ i → bucket_at w' i ≡ b
  new_bucket i e = ap (λ m. get_or w'.keys.items i 0 % m) buckets' ∙ ap (λ k. k % length w.latest.items) (new_key i e) ∙ sym own

  old_earlier : (i : ℕ) → i < count → get_or w'.earlier.items i 0 ≡ get_or w.earlier.items i 0
  old_earlier i l = ap (λ xs. get_or xs i 0) earlier ∙ get_or_append_left w.earlier.items _ 0 i (omega (arith, h.count))

  new_earlier : (i : ℕ) → count ≡ i → get_or w'.earlier.items i 0 ≡ get_or w.latest.items b 0
  new_earlier i e = ap (λ xs. get_or xs i 0) earlier ∙ get_or_push w.earlier.items _ 0 i (h.count ∙ e)

  pub IsSparse-met : IsSparse w'
  IsSparse-met = record {
    some = omega (arith, h.some, buckets');
    count = ap length earlier ∙ length_push w.earlier.items _ ∙ omega (arith, h.count, count');
    within = λ c. elim (cases_eq c b) [
      | inl e ↦ let v : get_or w'.latest.items c 0 ≡ count + 1 = ap (λ i. get_or w'.latest.items i 0) e ∙ latest_here in omega (arith, v, count')
      | inr o ↦ omega (arith, latest_other c o, h.within c, count')
    ];
    latest = λ c i l e. elim (cases_eq c b) [
      | inl k ↦ let v : get_or w'.latest.items c 0 ≡ count + 1 = ap (λ i. get_or w'.latest.items i 0) k ∙ latest_here in new_bucket i (omega (arith, v, e)) ∙ sym k
      | inr o ↦ let v : get_or w.latest.items c 0 ≡ i + 1 = sym (latest_other c o) ∙ e in old_bucket i (omega (arith, v, h.within c)) ∙ h.latest c i (omega (arith, l, buckets')) v
    ];
    after = λ c i l g k. elim (cases_eq c b) [
      | inl e ↦ let v : get_or w'.latest.items c 0 ≡ count + 1 = ap (λ i. get_or w'.latest.items i 0) e ∙ latest_here in absurd (omega (arith, v, g, k, count'))
      | inr o ↦ elim (cases_lt i count) [
        | inl m ↦ λ e. h.after c i (omega (arith, l, buckets')) (omega (arith, g, latest_other c o)) m (sym (old_bucket i m) ∙ e)
        | inr m ↦ λ e. o (sym (sym (new_bucket i (omega (arith, k, count', m))) ∙ e))
      ]
    ];
    falls = λ j. elim (cases_lt j count) [
      | inl m ↦ omega (arith, old_earlier j m, h.falls j)
      | inr m ↦ elim (cases_eq j count) [
        | inl e ↦ omega (arith, new_earlier j (sym e), h.within b, e)
        | inr o ↦ let v = get_or_past w'.earlier.items j 0 (omega (arith, ap length earlier, length_push w.earlier.items (get_or w.latest.items b 0), h.count, m, o)) in omega (arith, v)
      ]
    ];
    earlier = λ j i l e. elim (cases_lt j count) [
      | inl m ↦
          let v : get_or w.earlier.items j 0 ≡ i + 1 = sym (old_earlier j m) ∙ e in
          old_bucket i (omega (arith, v, h.falls j)) ∙ h.earlier j i m v ∙ sym (old_bucket j m)
      | inr m ↦
          let at : count ≡ j = omega (arith, l, count') in
          let v : get_or w.latest.items b 0 ≡ i + 1 = sym (new_earlier j at) ∙ e in
          old_bucket i (omega (arith, v, h.within b)) ∙ h.latest b i below v ∙ sym (new_bucket j at)
    ];
    between = λ j i l g k. elim (cases_lt j count) [
      | inl m ↦ λ e. h.between j i m (omega (arith, g, old_earlier j m)) k (sym (old_bucket i (omega arith)) ∙ e ∙ old_bucket j m)
      | inr m ↦
          let at : count ≡ j = omega (arith, l, count') in
          λ e. h.after b i below (omega (arith, g, new_earlier j at)) (omega (arith, at)) (sym (old_bucket i (omega (arith, at))) ∙ e ∙ new_bucket j at)
    ];
    apart = λ i j l k. elim (cases_lt j count) [
      | inl m ↦ λ e. h.apart i j l m (sym (old_key i (omega arith)) ∙ e ∙ old_key j m)
      | inr m ↦
          let at : count ≡ j = omega (arith, k, count') in
          λ e. fresh i (omega (arith, at)) (sym (old_key i (omega (arith, at))) ∙ e ∙ new_key j at)
    ];
  }
