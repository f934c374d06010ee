-- Sizes of elements that are kept beside their rows.
use Rattle.std.proofs.Common.{ℕ, ◌≡◌, ◌+◌, ◌-◌, ◌<◌, ◌≤◌, inl, inr, List, [], ◌++◌, length, get_or, set, replicate, sym, ◌∙◌, ap, subst, arith}
use Rattle.std.proofs.Math.Logic.{∥∥₁_elim}
use Rattle.std.proofs.Props.{props}
use Rattle.std.proofs.lemmas.Bool.{cases_eq, cases_lt}
use Rattle.std.proofs.lemmas.List.{length-append, length-replicate, length-set, get_or_default, get_or_append_left, get_or-append_right, get_or-replicate, get_or-set_same, get_or-set_other}
use Rattle.fr_model.specs.Terms.{Term, IsAlike}
use Rattle.fr_model.specs.Classes.{IsSize}
use Rattle.fr_model.proofs.ClassLaws.{size_once, IsSize-alike}
use Rattle.fr_model.proofs.CodeLaws.{canonical-IsSize}
use Rattle.fr_machine.specs.declared.row.Row.{Row}
use Rattle.fr_machine.specs.Minimal.{IsMinimal}
use Rattle.fr_machine.proofs.MinimalLaws.{IsSize-minimal_rows}
use Rattle.fr_store.specs.declared.blocks.Place.{Place}
use Rattle.fr_store.specs.Blocks.{element_at, AreBlocks, AreSizes}
use Rattle.fr_store.proofs.BlockLaws.{IsCode-code_at, element_at-old, element_at-new}

-- no rows
pub AreSizes-none : (d : ℕ) (rows : List Row) (places : List Place) (sizes : List ℕ) → rows ≡ [] → sizes ≡ [] → AreSizes d rows places sizes
AreSizes-none d rows places sizes e f =
    let n = ap length e in
    record {
      one_each = ap length f ∙ sym (ap length e);
      most = λ r l. absurd (omega (arith, n, l));
      sized = λ r l. absurd (omega (arith, n, l));
    }

-- what is kept is at most 1,024
pub size-most : (d : ℕ) (rows : List Row) (places : List Place) (sizes : List ℕ) (r n : ℕ) → AreSizes d rows places sizes → r < length rows → n ≡ get_or sizes r n → n ≤ 1024
size-most d rows places sizes r n a l e =
    let c = a.one_each in
    let v : n ≡ get_or sizes r 0 = e ∙ get_or_default sizes r n 0 (omega (arith, c, l)) in
    omega (arith, v, a.most r l)

-- what is kept is the size of each term that acts as the element
pub size-kept : (d : ℕ) (rows : List Row) (places : List Place) (sizes : List ℕ) (r n : ℕ) → AreBlocks d rows places → AreSizes d rows places sizes → r < length rows → n ≡ get_or sizes r n → 0 < n
    → (t : Term) → IsAlike (element_at rows places r) t → IsSize d t n
size-kept d rows places sizes r n b a l e some t h =
    let c = a.one_each in
    let v : n ≡ get_or sizes r 0 = e ∙ get_or_default sizes r n 0 (omega (arith, c, l)) in
    let code = IsCode-code_at d rows places r (b.placed r l) in
    let own = canonical-IsSize d (element_at rows places r) code.states code.canonical in
    let one : IsProp (length code.states ≡ get_or sizes r 0) = hlevel props in
    let same = ∥∥₁_elim (a.sized r l (λ z. omega (arith, z, v, some))) one (λ s. size_once d (element_at rows places r) (length code.states) (get_or sizes r 0) own s) in
    let P : ℕ → Type 0 = λ k. IsSize d (element_at rows places r) k in
    IsSize-alike d (element_at rows places r) t n h (subst P (same ∙ sym v) own)

-- the size of one more element
pub AreSizes-put : (d : ℕ) (rows : List Row) (places : List Place) (sizes : List ℕ) (r n : ℕ) → AreSizes d rows places sizes → r < length rows → n ≤ 1024 → IsSize d (element_at rows places r) n → AreSizes d rows places (set sizes r n)
AreSizes-put d rows places sizes r n a l m s = record {
  one_each = length-set sizes r n ∙ a.one_each;
  most = λ i k. elim (cases_eq i r) [
    | inl e ↦ (let v = here i e in omega (arith, v, m))
    | inr e ↦ (let v = get_or-set_other sizes r i n 0 e in let w = a.most i k in omega (arith, v, w))
  ];
  sized = λ i k o. elim (cases_eq i r) [
    | inl e ↦
        let P : ℕ → Type 0 = λ j. IsSize d (element_at rows places j) n in
        let Q : ℕ → Type 0 = λ z. IsSize d (element_at rows places i) z in
        ∣ subst Q (sym (here i e)) (subst P (sym e) s) ∣₁
    | inr e ↦
        let v = get_or-set_other sizes r i n 0 e in
        let Q : ℕ → Type 0 = λ z. ∥ IsSize d (element_at rows places i) z ∥₁ in
        subst Q (sym v) (a.sized i k (λ z. o (v ∙ z)))
  ];
}
  where
    here : (i : ℕ) → i ≡ r → get_or (set sizes r n) i 0 ≡ n
    here i e = ap (λ j. get_or (set sizes r n) j 0) e ∙ get_or-set_same sizes r n 0 (let c = a.one_each in omega (arith, c, l))

-- ---- a block more
module _ (d : ℕ) (rows : List Row) (places : List Place) (a : AreBlocks d rows places) (new : List Row) (m : IsMinimal d new) (sizes : List ℕ) (s : AreSizes d rows places sizes) where
  abbrev rows' : List Row
  rows' = rows ++ new

  abbrev places' : List Place
  places' = places ++ replicate (length new) (record { start = length rows; size = length new })

  abbrev zeros : List ℕ
  zeros = replicate (length new) 0

  length-rows' : length rows' ≡ length rows + length new
  length-rows' = length-append rows new

  old : (r : ℕ) → r < length rows → get_or (sizes ++ zeros) r 0 ≡ get_or sizes r 0
  old r l = let n = s.one_each in get_or_append_left sizes zeros 0 r (omega (arith, n, l))

  fresh : (r : ℕ) → length rows ≤ r → r < length rows' → get_or (sizes ++ zeros) r 0 ≡ 0
  fresh r l k =
      let n = s.one_each in
      get_or-append_right sizes zeros (length rows) r 0 n l ∙ get_or-replicate (length new) (r - length rows) 0 0 (omega (arith, l, k, length-rows'))

  -- nothing is counted
  AreSizes-zeros : AreSizes d rows' places' (sizes ++ zeros)
  AreSizes-zeros = record {
    one_each = length-append sizes zeros ∙ (let n = s.one_each in let z = length-replicate {A = ℕ} (length new) 0 in omega (arith, n, z, length-rows'));
    most = λ r l. elim (cases_lt r (length rows)) [
      | inl k ↦ (let v = old r k in let w = s.most r k in omega (arith, v, w))
      | inr k ↦ (let v = fresh r k l in omega (arith, v))
    ];
    sized = λ r l o. elim (cases_lt r (length rows)) [
      | inl k ↦
          let v = old r k in
          let P : Term → Type 0 = λ t. ∥ IsSize d t (get_or (sizes ++ zeros) r 0) ∥₁ in
          let Q : ℕ → Type 0 = λ z. ∥ IsSize d (element_at rows places r) z ∥₁ in
          subst P (sym (element_at-old d rows places a new m r k)) (subst Q (sym v) (s.sized r k (λ z. o (v ∙ z))))
      | inr k ↦ absurd (o (fresh r k l))
    ];
  }

  -- its first row leads to all its rows
  pub AreSizes-push : AreSizes d rows' places' (set (sizes ++ zeros) (length sizes) (length new))
  AreSizes-push =
      let n = s.one_each in
      let some = m.machine.least in
      let z : length rows + 0 ≡ length sizes = omega (arith, n) in
      let P : Term → Type 0 = λ t. IsSize d t (length new) in
      let Q : ℕ → Type 0 = λ r. IsSize d (element_at rows' places' r) (length new) in
      let size = subst Q z (subst P (sym (element_at-new d rows places a new m 0 some)) (IsSize-minimal_rows d new m)) in
      AreSizes-put d rows' places' (sizes ++ zeros) (length sizes) (length new) AreSizes-zeros (omega (arith, n, some, length-rows')) m.small size
