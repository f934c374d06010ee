-- Keys that are numbered by a walk.
use Rattle.std.proofs.Common.{ℕ, suc, ◌≡◌, ◌+◌, ◌<◌, ◌≤◌, max, inl, inr, List, [], ◌∷◌, ◌++◌, length, get_or, refl, sym, ◌∙◌, ap, arith}
use Rattle.std.proofs.lemmas.List.{get_or_append_left, get_or_push, length_push, get_or_default}
use Rattle.std.proofs.lemmas.List.Elements.{All-from_get_or}
use Rattle.std.proofs.lemmas.Bool.{cases_lt, cases_eq}
use Rattle.fr_classes.specs.declared.sparse.SparseWalk.{SparseWalk}
use Rattle.fr_classes.specs.Numberings.{IsNumberingOfKeys, numbers_after}
use Rattle.fr_classes.specs.Sparse.{IsSparse, IsMet, AreMet}
use Rattle.fr_classes.proofs.FindLaws.{IsNumberedFrom-push, numbers_after-push}

pub AreMet-none : (keys numbers met : List ℕ) → numbers ≡ [] → met ≡ [] → AreMet keys numbers met 0
AreMet-none keys numbers met e f = rw (e, f) (record {
  size = refl;
  first = tt;
  counted = refl;
  few = omega arith;
  own = λ j l. absurd (omega arith);
  used = λ c l. absurd (omega arith);
})

-- one key more
module _ (keys numbers numbers' met met' : List ℕ) (i n : ℕ) (h : AreMet keys numbers met i) (m : IsMet met met' (get_or keys i 0) n) (e : numbers' ≡ numbers ++ n ∷ []) where
  old_number : (j : ℕ) → j < i → get_or numbers' j 0 ≡ get_or numbers j 0
  old_number j l = ap (λ xs. get_or xs j 0) e ∙ get_or_append_left numbers (n ∷ []) 0 j (omega (arith, h.size))

  new_number : (j : ℕ) → i ≡ j → get_or numbers' j 0 ≡ n
  new_number j k = ap (λ xs. get_or xs j 0) e ∙ get_or_push numbers n 0 j (h.size ∙ k)

  longer : length met ≤ length met'
  longer = elim m.grown [ inl g ↦ omega (arith, ap length g) | inr g ↦ omega (arith, ap length g.0, length_push met (get_or keys i 0)) ]

  same_key : (c : ℕ) → c < length met → get_or met' c 0 ≡ get_or met c 0
  same_key c l = elim m.grown [ inl g ↦ ap (λ xs. get_or xs c 0) g | inr g ↦ ap (λ xs. get_or xs c 0) g.0 ∙ get_or_append_left met (get_or keys i 0 ∷ []) 0 c l ]

  counts : (n ≤ length met) × (max (length met) (suc n) ≡ length met') × (length met' ≤ i + 1)
  counts = elim m.grown [
    | inl g ↦ let z = ap length g in (omega (arith, m.inside, z), omega (arith, m.inside, z), omega (arith, h.few, z))
    | inr g ↦ let z = ap length g.0 in let y = length_push met (get_or keys i 0) in (omega (arith, g.1), omega (arith, g.1, z, y), omega (arith, h.few, z, y))
  ]

  pub AreMet-more : AreMet keys numbers' met' (i + 1)
  AreMet-more = record {
    size = ap length e ∙ length_push numbers n ∙ omega (arith, h.size);
    first = rw e (IsNumberedFrom-push 0 numbers n h.first (omega (arith, h.counted, counts.0)));
    counted = ap (numbers_after 0) e ∙ numbers_after-push 0 numbers n ∙ omega (arith, h.counted, counts.1);
    few = counts.2;
    own = λ j l. elim (cases_lt j i) [
      | inl k ↦
          let o = h.own j k in
          (omega (arith, old_number j k, o.0, longer), ap (λ c. get_or met' c 0) (old_number j k) ∙ same_key (get_or numbers j 0) o.0 ∙ o.1)
      | inr k ↦
          let at : i ≡ j = omega arith in
          (omega (arith, new_number j at, m.inside), ap (λ c. get_or met' c 0) (new_number j at) ∙ m.value ∙ ap (λ c. get_or keys c 0) at)
    ];
    used = λ c l. elim (cases_lt c (length met)) [
      | inl k ↦ let u = h.used c k in (u.0, omega (arith, u.1), old_number u.0 u.1 ∙ u.2)
      | inr k ↦ (i, omega arith, new_number i refl ∙ elim m.grown [ inl g ↦ absurd (omega (arith, ap length g)) | inr g ↦ omega (arith, g.1, ap length g.0, length_push met (get_or keys i 0)) ])
    ];
  }

-- all keys are numbered
pub IsNumberingOfKeys-met : (keys numbers : List ℕ) (w : SparseWalk) (i : ℕ) → IsSparse w → AreMet keys numbers w.keys.items i → i ≡ length keys → IsNumberingOfKeys keys numbers (length w.keys.items)
IsNumberingOfKeys-met keys numbers w i s h e =
    let met = w.keys.items in
    let key_at : (j : ℕ) (d : ℕ) → j < length keys → get_or met (get_or numbers j 0) 0 ≡ get_or keys j d = λ j d l. (h.own j (omega (arith, e))).1 ∙ get_or_default keys j 0 d l in
    record {
      numbering = record {
        count = h.size ∙ e;
        first = h.first;
        same = λ a b d l k. (
          (λ f. sym (key_at a d l) ∙ ap (λ c. get_or met c 0) f ∙ key_at b d k),
          (λ f. same_number (get_or numbers a 0) (get_or numbers b 0) (h.own a (omega (arith, e))).0 (h.own b (omega (arith, e))).0 (key_at a d l ∙ f ∙ sym (key_at b d k))),
        );
      };
      below = All-from_get_or (λ n. n < length met) numbers 0 (λ j l. (h.own j (omega (arith, h.size))).0);
      used = λ c l. let u = h.used c l in (u.0, omega (arith, u.1, h.size), get_or_default numbers u.0 c 0 (omega (arith, u.1, h.size)) ∙ u.2);
    }
  where
    same_number : (a b : ℕ) → a < length w.keys.items → b < length w.keys.items → get_or w.keys.items a 0 ≡ get_or w.keys.items b 0 → a ≡ b
    same_number a b l k f = elim (cases_eq a b) [
      | inl g ↦ g
      | inr n ↦ elim (cases_lt a b) [ inl g ↦ absurd (s.apart a b g k f) | inr g ↦ absurd (s.apart b a (less a b g n) l (sym f)) ]
    ]
      where
        less : (a b : ℕ) → b ≤ a → (a ≡ b → ⊥) → b < a
        less a b g n = elim (cases_lt b a) [ inl k ↦ k | inr k ↦ absurd (n (omega arith)) ]

-- the same keys at the first places
pub AreMet-keys : (keys keys' numbers met : List ℕ) (n : ℕ) → ((j : ℕ) → j < n → get_or keys' j 0 ≡ get_or keys j 0) → AreMet keys numbers met n → AreMet keys' numbers met n
AreMet-keys keys keys' numbers met n same h = record {
  size = h.size;
  first = h.first;
  counted = h.counted;
  few = h.few;
  own = λ j l. let o = h.own j l in (o.0, o.1 ∙ sym (same j l));
  used = h.used;
}
