-- A numbering in tables of 1,024 has room for each key that it has not met, and can be emptied.
use Rattle.std.proofs.Common.{ℕ, zero, suc, ◌≡◌, ◌≢◌, ◌+◌, ◌<◌, ◌≤◌, ◌⊎◌, inl, inr, List, ◌∷◌, length, take, set, get_or, sym, ◌∙◌, ap, arith, eqb, true, false}
use Rattle.std.specs.List.{list_any}
use Rattle.std.proofs.lemmas.List.{get_or_default, get_or-take, length-take-le, length-set, get_or-set_same, get_or-set_other}
use Rattle.std.proofs.lemmas.Bool.{cases_eq, ne_eqb}
use Rattle.std.proofs.lemmas.Map.Keys.{IsDistinct-from_apart}
use Rattle.std.proofs.lemmas.Map.Steps.{length-le_from_distinct_below}
use Rattle.fr_model.proofs.PermutationLaws.{present_place}
use Rattle.fr_machine.specs.Walks.{IsFixed}

module _ (index table : List ℕ) (count key : ℕ) (h : IsFixed index table count) (l : key < 1024) (fresh : get_or index key 0 ≡ 0) where
  met : List ℕ
  met = take count table

  met_size : length met ≡ count
  unfolding met
  met_size = length-take-le count table (omega (arith, h.room, h.few))

  met_at : (i e : ℕ) → i < count → get_or met i e ≡ get_or table i 0
  unfolding met
  met_at i e k = get_or-take count table i e k ∙ get_or_default table i e 0 (omega (arith, h.room, h.few))

  -- the place of a key in the index
  index_at : (i : ℕ) → i < count → get_or index (get_or table i 0) 0 ≡ suc i
  index_at i k = (h.at i k).1

  apart : (i j e : ℕ) → i < j → j < length (key ∷ met) → eqb (get_or (key ∷ met) i e) (get_or (key ∷ met) j e) ≡ false
  apart i zero e g k = absurd (omega arith)
  apart zero (suc j) e g k = ne_eqb _ _ (λ same.
      let jl : j < count = omega (arith, met_size) in
      let s : key ≡ get_or table j 0 = same ∙ met_at j e jl in
      let z = index_at j jl in
      let y : get_or index (get_or table j 0) 0 ≡ 0 = ap (λ x. get_or index x 0) (sym s) ∙ fresh in
      omega (arith, z, y))
  apart (suc i) (suc j) e g k = ne_eqb _ _ (λ same.
      let jl : j < count = omega (arith, met_size) in
      let il : i < count = omega arith in
      let s : get_or table i 0 ≡ get_or table j 0 = sym (met_at i e il) ∙ same ∙ met_at j e jl in
      let z = index_at j jl in
      let y = index_at i il in
      let x = ap (λ x. get_or index x 0) s in
      omega (arith, z, y, x))

  below : (q : ℕ) → list_any (eqb q) (key ∷ met) ≡ true → q < 1024
  below q m = let r = present_place 0 (key ∷ met) q m in at r.0 r.1 r.3
    where
      at : (i : ℕ) → i < length (key ∷ met) → get_or (key ∷ met) i q ≡ q → q < 1024
      at zero k e = omega (arith, l, e)
      at (suc i) k e = let il : i < count = omega (arith, met_size) in omega (arith, (h.at i il).0, met_at i q il, e)

  pub IsFixed-room : count < 1024
  IsFixed-room = omega (arith, met_size, length-le_from_distinct_below (key ∷ met) 1024 (IsDistinct-from_apart eqb (key ∷ met) apart) below)

-- the entries of the first keys are 0 again
pub record IsClearing (index table : List ℕ) (count i : ℕ) : Type 0 where
  pub size : length index ≡ 1024
  pub room : length table ≡ 1024
  pub few : count ≤ 1024
  pub below : (j : ℕ) → j < count → get_or table j 0 < 1024
  pub rest : (k : ℕ) → k < 1024 → (get_or index k 0 ≡ 0) ⊎ ((j : ℕ) × (i ≤ j) × (j < count) × (get_or table j 0 ≡ k))

pub IsClearing-start : (index table : List ℕ) (count : ℕ) → IsFixed index table count → IsClearing index table count 0
IsClearing-start index table count h = record {
  size = h.size;
  room = h.room;
  few = h.few;
  below = λ j l. (h.at j l).0;
  rest = λ k l. elim (h.back k l) [ inl e ↦ inl e | inr m ↦ inr (m.0, omega arith, m.1, m.3) ];
}

pub IsClearing-more : (index index' table : List ℕ) (count i : ℕ) → IsClearing index table count i → i < count → index' ≡ set index (get_or table i 0) 0 → IsClearing index' table count (i + 1)
IsClearing-more index index' table count i h l e = record {
  size = ap length e ∙ length-set index (get_or table i 0) 0 ∙ h.size;
  room = h.room;
  few = h.few;
  below = h.below;
  rest = λ k m. elim (cases_eq k (get_or table i 0)) [
    | inl t ↦ inl (ap (λ xs. get_or xs k 0) e ∙ ap (λ j. get_or (set index (get_or table i 0) 0) j 0) t ∙ get_or-set_same index (get_or table i 0) 0 0 (omega (arith, h.below i l, h.size)))
    | inr t ↦
        let o : get_or index' k 0 ≡ get_or index k 0 = ap (λ xs. get_or xs k 0) e ∙ get_or-set_other index (get_or table i 0) k 0 0 t in
        elim (h.rest k m) [
          | inl z ↦ inl (o ∙ z)
          | inr z ↦ elim (cases_eq z.0 i) [
            | inl s ↦ absurd (t (sym z.3 ∙ ap (λ j. get_or table j 0) s))
            | inr s ↦ inr (z.0, omega (arith, z.1, s), z.2, z.3)
          ]
        ]
  ];
}

pub IsFixed-cleared : (index table : List ℕ) (count i : ℕ) → IsClearing index table count i → count ≤ i → IsFixed index table 0
IsFixed-cleared index table count i h l = record {
  size = h.size;
  room = h.room;
  few = omega arith;
  at = λ j k. absurd (omega arith);
  back = λ k m. elim (h.rest k m) [ inl e ↦ inl e | inr z ↦ absurd (omega (arith, z.1, z.2)) ];
}

pub IsFixed-more : (index table index' table' : List ℕ) (count key : ℕ) → IsFixed index table count → key < 1024 → get_or index key 0 ≡ 0 → count < 1024 → index' ≡ set index key (count + 1) → table' ≡ set table count key → IsFixed index' table' (count + 1)
IsFixed-more index table index' table' count key h l fresh few e f =
    let here : get_or index' key 0 ≡ suc count = ap (λ xs. get_or xs key 0) e ∙ get_or-set_same index key (count + 1) 0 (omega (arith, h.size)) ∙ omega arith in
    let other = λ (k : ℕ) (ne : k ≢ key). ap (λ xs. get_or xs k 0) e ∙ get_or-set_other index key k (count + 1) 0 ne in
    let key_here : get_or table' count 0 ≡ key = ap (λ xs. get_or xs count 0) f ∙ get_or-set_same table count key 0 (omega (arith, h.room)) in
    let key_other = λ (i : ℕ) (ne : i ≢ count). ap (λ xs. get_or xs i 0) f ∙ get_or-set_other table count i key 0 ne in
    record {
      size = ap length e ∙ length-set index key (count + 1) ∙ h.size;
      room = ap length f ∙ length-set table count key ∙ h.room;
      few = omega arith;
      at = λ i k. elim (cases_eq i count) [
        | inl t ↦
            let z : get_or table' i 0 ≡ key = ap (λ j. get_or table' j 0) t ∙ key_here in
            (omega (arith, z), ap (λ j. get_or index' j 0) z ∙ here ∙ ap suc (sym t))
        | inr t ↦
            let il : i < count = omega arith in
            let z : get_or table' i 0 ≡ get_or table i 0 = key_other i t in
            let a = h.at i il in
            let ne : get_or table i 0 ≢ key = λ s. (let y = ap (λ j. get_or index j 0) s in omega (arith, y, fresh, a.1)) in
            (omega (arith, z, a.0), ap (λ j. get_or index' j 0) z ∙ other (get_or table i 0) ne ∙ a.1)
      ];
      back = λ k m. elim (cases_eq k key) [
        | inl t ↦ inr (count, omega arith, ap (λ j. get_or index' j 0) t ∙ here, key_here ∙ sym t)
        | inr t ↦ elim (h.back k m) [
          | inl z ↦ inl (other k t ∙ z)
          | inr z ↦
              let ne : z.0 ≢ count = λ s. omega (arith, z.1, s) in
              inr (z.0, omega (arith, z.1), other k t ∙ z.2, key_other z.0 ne ∙ z.3)
        ]
      ];
    }
