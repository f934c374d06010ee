-- Keys that are found by a hash.
use Rattle.std.proofs.Common.{ℕ, zero, suc, ◌≡◌, ◌≢◌, ◌+◌, ◌<◌, ◌⊎◌, inl, inr, Bool, true, false, List, [], ◌∷◌, ◌++◌, length, set, get_or, replicate, Some, None, refl, sym, ◌∙◌, ap, arith}
use Rattle.std.specs.Prelude.{Option, nat_eq}
use Rattle.std.specs.Cmp.Lexicographic.{pointwise, bytes_decides}
use Rattle.std.proofs.lemmas.List.{get_or_append_left, get_or_push, length_push, get_or_past, get_or-set_same, get_or-set_other, get_or-replicate, length-replicate, length-set}
use Rattle.std.proofs.lemmas.Bool.{cases_lt, cases_eq}
use Rattle.fr_classes.specs.declared.key_table.Entry.{Entry}
use Rattle.fr_classes.specs.declared.key_table.KeyTable.{KeyTable}
use Rattle.fr_classes.specs.KeyTables.{bucket_of, bucket_at, entry_at, first_some, number_among, number_in, IsKeyTable, IsEntered}

abbrev none : Entry
none = record { key = []; number = 0; earlier = 0 }

same_test : (xs ys : List ℕ) → xs ≡ ys → pointwise nat_eq xs ys ≡ true
same_test xs ys e = (bytes_decides xs ys).1 e

other_test : (xs ys : List ℕ) → xs ≢ ys → pointwise nat_eq xs ys ≡ false
other_test xs ys n = go (pointwise nat_eq xs ys) refl
  where
    go : (b : Bool) → pointwise nat_eq xs ys ≡ b → pointwise nat_eq xs ys ≡ false
    go true e = absurd (n ((bytes_decides xs ys).0 e))
    go false e = e

first_some-none : (o : Option ℕ) → first_some o None ≡ o
first_some-none None = refl
first_some-none (Some n) = refl

-- a key that no entry has
pub number_among-none : (es : List Entry) (key : List ℕ) → ((i : ℕ) → i < length es → (entry_at es i).key ≢ key) → number_among es key ≡ None
number_among-none [] key h = refl
number_among-none (e ∷ es) key h = rw (number_among-none es key (λ i l. h (suc i) (omega arith)), other_test e.key key (h 0 (omega arith))) refl

-- the last entry of a key has its number
pub number_among-last : (es : List Entry) (key : List ℕ) (j : ℕ) → j < length es → (entry_at es j).key ≡ key → ((i : ℕ) → j < i → i < length es → (entry_at es i).key ≢ key) → number_among es key ≡ Some (entry_at es j).number
number_among-last [] key j l e h = absurd (omega arith)
number_among-last (x ∷ es) key zero l e h = rw (number_among-none es key (λ i k. h (suc i) (omega arith) (omega arith)), same_test x.key key e) refl
number_among-last (x ∷ es) key (suc j) l e h = rw (number_among-last es key j (omega arith) e (λ i a b. h (suc i) (omega arith) (omega arith))) refl

-- the last entry has its number
pub number_among-push : (es : List Entry) (e : Entry) → number_among (es ++ e ∷ []) e.key ≡ Some e.number
number_among-push [] e = rw (same_test e.key e.key refl) refl
number_among-push (x ∷ es) e = rw (number_among-push es e) refl

-- the others keep theirs
pub number_among-push_other : (es : List Entry) (e : Entry) (key : List ℕ) → e.key ≢ key → number_among (es ++ e ∷ []) key ≡ number_among es key
number_among-push_other [] e key n = rw (other_test e.key key n) refl
number_among-push_other (x ∷ es) e key n = rw (number_among-push_other es e key n) refl

pub number_in-empty : (t : KeyTable) → t.entries.items ≡ [] → (key : List ℕ) → number_in t key ≡ None
number_in-empty t e key = rw e refl

pub IsKeyTable-empty : (t : KeyTable) (n : ℕ) → 0 < n → t.entries.items ≡ [] → t.latest.items ≡ replicate n 0 → IsKeyTable t
IsKeyTable-empty t n some e f =
    let size : length t.latest.items ≡ n = ap length f ∙ length-replicate {A = ℕ} n 0 in
    let zeros : (b : ℕ) → get_or t.latest.items b 0 ≡ 0 = λ b. ap (λ xs. get_or xs b 0) f ∙ elim (cases_lt b n) [
      | inl l ↦ get_or-replicate n b 0 0 l
      | inr g ↦ get_or_past (replicate n 0) b 0 (omega (arith, length-replicate {A = ℕ} n 0))
    ] in
    let no : length t.entries.items ≡ 0 = ap length e in
    record {
      some = omega (arith, size);
      within = λ b. omega (arith, zeros b);
      latest = λ b i l g. absurd (omega (arith, zeros b));
      after = λ b i l g k. absurd (omega (arith, no));
      falls = λ j. let w = get_or_past t.entries.items j none (omega (arith, no)) in let v : (entry_at t.entries.items j).earlier ≡ 0 = ap (λ (x : Entry). x.earlier) w in omega (arith, v);
      earlier = λ j i l g. absurd (omega (arith, no));
      between = λ j i l g k. absurd (omega (arith, no));
    }

-- an entry more
module _ (t t' : KeyTable) (key : List ℕ) (n b : ℕ) (h : IsKeyTable t) (own : b ≡ bucket_of (length t.latest.items) key) (below : b < length t.latest.items)
    (entries : t'.entries.items ≡ t.entries.items ++ record { key = key; number = n; earlier = get_or t.latest.items b 0 } ∷ []) (latest : t'.latest.items ≡ set t.latest.items b (length t.entries.items + 1)) where
  abbrev entry : Entry
  entry = record { key = key; number = n; earlier = get_or t.latest.items b 0 }

  abbrev count : ℕ
  count = length t.entries.items

  count' : length t'.entries.items ≡ count + 1
  count' = ap length entries ∙ length_push t.entries.items entry

  buckets' : length t'.latest.items ≡ length t.latest.items
  buckets' = ap length latest ∙ length-set t.latest.items b _

  old_entry : (i : ℕ) → i < count → entry_at t'.entries.items i ≡ entry_at t.entries.items i
  old_entry i l = ap (λ xs. get_or xs i none) entries ∙ get_or_append_left t.entries.items (entry ∷ []) none i l

  new_entry : (i : ℕ) → count ≡ i → entry_at t'.entries.items i ≡ entry
  new_entry i e = ap (λ xs. get_or xs i none) entries ∙ get_or_push t.entries.items entry none i e

  latest_here : get_or t'.latest.items b 0 ≡ count + 1
  latest_here = ap (λ xs. get_or xs b 0) latest ∙ get_or-set_same t.latest.items b _ 0 below

  latest_other : (c : ℕ) → c ≢ b → get_or t'.latest.items c 0 ≡ get_or t.latest.items c 0
  latest_other c o = ap (λ xs. get_or xs c 0) latest ∙ get_or-set_other t.latest.items b c _ 0 o

  old_bucket : (i : ℕ) → i < count → bucket_at (length t'.latest.items) t'.entries.items i ≡ bucket_at (length t.latest.items) t.entries.items i
  old_bucket i l = ap (λ m. bucket_at m t'.entries.items i) buckets' ∙ ap (λ (e : Entry). bucket_of (length t.latest.items) e.key) (old_entry i l)

  new_bucket : (i : ℕ) → count ≡ i → bucket_at (length t'.latest.items) t'.entries.items i ≡ b
  new_bucket i e = ap (λ m. bucket_at m t'.entries.items i) buckets' ∙ ap (λ (e : Entry). bucket_of (length t.latest.items) e.key) (new_entry i e) ∙ sym own

  old_earlier : (i : ℕ) → i < count → (entry_at t'.entries.items i).earlier ≡ (entry_at t.entries.items i).earlier
  old_earlier i l = ap (λ (e : Entry). e.earlier) (old_entry i l)

  new_earlier : (i : ℕ) → count ≡ i → (entry_at t'.entries.items i).earlier ≡ get_or t.latest.items b 0
  new_earlier i e = ap (λ (e : Entry). e.earlier) (new_entry i e)

  IsKeyTable-entered : IsKeyTable t'
  IsKeyTable-entered = record {
    some = omega (arith, h.some, buckets');
    within = λ c. elim (cases_eq c b) [
      | inl e ↦ let w : get_or t'.latest.items c 0 ≡ count + 1 = ap (λ i. get_or t'.latest.items i 0) e ∙ latest_here in omega (arith, w, count')
      | inr o ↦ omega (arith, latest_other c o, h.within c, count')
    ];
    latest = λ c i l e. elim (cases_eq c b) [
      | inl k ↦ let w : get_or t'.latest.items c 0 ≡ count + 1 = ap (λ i. get_or t'.latest.items i 0) k ∙ latest_here in new_bucket i (omega (arith, w, e)) ∙ sym k
      | inr o ↦ let w : get_or t.latest.items c 0 ≡ i + 1 = sym (latest_other c o) ∙ e in old_bucket i (omega (arith, w, h.within c)) ∙ h.latest c i (omega (arith, l, buckets')) w
    ];
    after = λ c i l g k. elim (cases_eq c b) [
      | inl e ↦ let w : get_or t'.latest.items c 0 ≡ count + 1 = ap (λ i. get_or t'.latest.items i 0) e ∙ latest_here in absurd (omega (arith, w, g, k, count'))
      | inr o ↦ elim (cases_lt i count) [
        | inl m ↦ λ e. h.after c i (omega (arith, l, buckets')) (omega (arith, g, latest_other c o)) m (sym (old_bucket i m) ∙ e)
        | inr m ↦ λ e. o (sym (sym (new_bucket i (omega (arith, k, count', m))) ∙ e))
      ]
    ];
    falls = λ j. elim (cases_lt j count) [
      | inl m ↦ omega (arith, old_earlier j m, h.falls j)
      | inr m ↦ elim (cases_eq j count) [
        | inl e ↦ omega (arith, new_earlier j (sym e), h.within b, e)
        | inr o ↦ let w : (entry_at t'.entries.items j).earlier ≡ 0 = ap (λ (x : Entry). x.earlier) (get_or_past t'.entries.items j none (omega (arith, count', m, o))) in omega (arith, w)
      ]
    ];
    earlier = λ j i l e. elim (cases_lt j count) [
      | inl m ↦
          let w : (entry_at t.entries.items j).earlier ≡ i + 1 = sym (old_earlier j m) ∙ e in
          old_bucket i (omega (arith, w, h.falls j)) ∙ h.earlier j i m w ∙ sym (old_bucket j m)
      | inr m ↦
          let at : count ≡ j = omega (arith, l, count') in
          let w : get_or t.latest.items b 0 ≡ i + 1 = sym (new_earlier j at) ∙ e in
          old_bucket i (omega (arith, w, h.within b)) ∙ h.latest b i below w ∙ sym (new_bucket j at)
    ];
    between = λ j i l g k. elim (cases_lt j count) [
      | inl m ↦ λ e. h.between j i m (omega (arith, g, old_earlier j m)) k (sym (old_bucket i (omega arith)) ∙ e ∙ old_bucket j m)
      | inr m ↦
          let at : count ≡ j = omega (arith, l, count') in
          λ e. h.after b i below (omega (arith, g, new_earlier j at)) (omega (arith, at)) (sym (old_bucket i (omega (arith, at))) ∙ e ∙ new_bucket j at)
    ];
  }

  pub entered : IsKeyTable t' × IsEntered t t' key n
  entered = (IsKeyTable-entered, (ap (λ es. number_among es key) entries ∙ number_among-push t.entries.items entry, others))
    where
      others : (q : List ℕ) → (q ≡ key) ⊎ (number_in t' q ≡ number_in t q)
      others q = go (pointwise nat_eq key q) refl
        where
          go : (x : Bool) → pointwise nat_eq key q ≡ x → (q ≡ key) ⊎ (number_in t' q ≡ number_in t q)
          go true e = inl (sym ((bytes_decides key q).0 e))
          go false e = inr (ap (λ es. number_among es q) entries ∙ number_among-push_other t.entries.items entry q (λ s. absurd (let w = sym (same_test key q s) ∙ e in cc)))
