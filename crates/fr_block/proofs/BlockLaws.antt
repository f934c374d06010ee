-- The recursions of a block as those of its table.
use Rattle.std.specs.Prelude.{◌↔◌}
use Rattle.std.proofs.Common.{ℕ, suc, Bool, true, ◌≡◌, ◌<◌, List, [], ◌∷◌, length, map, get_or, ◌≤◌, subst, sym, ◌∙◌, ap, arith}
use Rattle.std.proofs.lemmas.List.{length-map, get_or-map}
use Rattle.std.specs.List.{All, AllByRecursion}
use Rattle.std.proofs.lemmas.List.Elements.{All-get_or, All-head, All-tail, All-from_recursion}
use Rattle.fr_model.specs.Permutations.{IsPermutation}
use Rattle.fr_model.specs.Systems.{Factor, IsWreath, wreath_at, section_at}
use Rattle.fr_block.specs.declared.block.Factor.{Factor as Member}
use Rattle.fr_block.specs.declared.block.Wreath.{Wreath as Recursion}
use Rattle.fr_block.specs.Blocks.{BlockView, IsBlock, IsRecursion, product_of, wreath_of, system_of}

pub length-system_of : (rs : List Recursion) → length (system_of rs) ≡ length rs
length-system_of rs = length-map rs wreath_of

-- the recursion of a name is that at its place
pub wreath_here : (rs : List Recursion) (n : ℕ) (r : Recursion) → n < length rs → get_or rs n r ≡ r → wreath_at (system_of rs) n ≡ wreath_of r
wreath_here rs n r l e = get_or-map wreath_of rs n r _ l ∙ ap wreath_of e

-- what a recursion of a block is
pub record IsHere (v : BlockView) (n : ℕ) (rs : List Recursion) (r : Recursion) : Type 0 where
  pub inside : n < length rs
  pub permutes : IsPermutation v.alphabet r.perm
  pub arity : length r.sections.items ≡ v.alphabet
  pub is : wreath_at v.system n ≡ wreath_of r

pub recursion_here : (d : ℕ) (rs : List Recursion) (v : BlockView) → record { alphabet = d; system = system_of rs } ≡ v → IsBlock d (system_of rs) → (n : ℕ) (r : Recursion) → n < length v.system → r ≡ get_or rs n r → IsHere v n rs r
recursion_here d rs v e h n r l is =
    let P : BlockView → Type 0 = λ w. n < length w.system → IsHere w n rs r in
    subst P e here l
  where
    here : n < length (system_of rs) → IsHere (record { alphabet = d; system = system_of rs }) n rs r
    here l =
        let b : n < length rs = rw (length-system_of rs) at l in
        let at = wreath_here rs n r b (sym is) in
        let P = IsWreath d (length (system_of rs)) in
        let w : P (wreath_of r) = subst P at (All-get_or P (system_of rs) n _ l h.system) in
        record {
          inside = b;
          permutes = w.permutes;
          arity = sym (length-map r.sections.items _) ∙ w.arity;
          is = at;
        }

-- the section at a letter, read off the list
pub section_here : {X : Type 0} (f : X → List Factor) (ss : List X) (x j : ℕ) (q : X) → x ≡ suc j → j < length ss → q ≡ get_or ss j q → section_at (map f ss) x ≡ f q
section_here f ss x j q l b e = rw l (get_or-map f ss j q [] b ∙ ap f (sym e))

-- members below a bound, as a list of the program and as a product
below_product : (n : ℕ) (ms : List Member) → All (λ (m : Member). m.name < n) ms → AllByRecursion (λ (f : Factor). f.name < n) (product_of ms)
below_product n [] h = tt
below_product n (m ∷ ms) h = (All-head (λ (m : Member). m.name < n) m ms h, below_product n ms (All-tail (λ (m : Member). m.name < n) m ms h))

product_below : (n : ℕ) (ms : List Member) → AllByRecursion (λ (f : Factor). f.name < n) (product_of ms) → AllByRecursion (λ (m : Member). m.name < n) ms
product_below n [] h = tt
product_below n (m ∷ ms) h = (h.0, product_below n ms h.1)

module _ {X : Type 0} (items : X → List Member) (n : ℕ) where
  abbrev Below : X → Type 0
  Below x = All (λ (m : Member). m.name < n) (items x)

  below_sections : (xs : List X) → All Below xs → AllByRecursion (AllByRecursion (λ (f : Factor). f.name < n)) (map (λ x. product_of (items x)) xs)
  below_sections [] h = tt
  below_sections (x ∷ xs) h = (below_product n (items x) (All-head Below x xs h), below_sections xs (All-tail Below x xs h))

  sections_below : (xs : List X) → AllByRecursion (AllByRecursion (λ (f : Factor). f.name < n)) (map (λ x. product_of (items x)) xs) → AllByRecursion Below xs
  sections_below [] h = tt
  sections_below (x ∷ xs) h = (All-from_recursion (λ (m : Member). m.name < n) (items x) (product_below n (items x) h.0), sections_below xs h.1)

wreath_from : (d n : ℕ) (r : Recursion) → IsRecursion d n r → IsWreath d n (wreath_of r)
wreath_from d n r h = record { permutes = h.permutes; arity = length-map r.sections.items _ ∙ h.arity; known = below_sections (λ z. z.items) n r.sections.items h.known }

recursion_from : (d n : ℕ) (r : Recursion) → IsWreath d n (wreath_of r) → IsRecursion d n r
recursion_from d n r h = record { permutes = h.permutes; arity = sym (length-map r.sections.items _) ∙ h.arity; known = All-from_recursion (Below (λ z. z.items) n) r.sections.items (sections_below (λ z. z.items) n r.sections.items h.known) }

first_of : (rs : List Recursion) (k : ℕ) → k < length rs → Recursion
first_of [] k l = absurd (omega (arith, l))
first_of (r ∷ rs) k l = r

-- a block, by its recursions
pub IsBlock-from : (d : ℕ) (rs : List Recursion) → 2 ≤ d → d ≤ 8 → length rs ≤ 4095 → All (IsRecursion d (length rs)) rs → IsBlock d (system_of rs)
IsBlock-from d rs few letters most h = record {
  few = few;
  letters = letters;
  system = λ k z l.
      let b : k < length rs = rw (length-system_of rs) at l in
      let w = get_or rs k (first_of rs k b) in
      let P : ℕ → Type 0 = λ n. IsWreath d n (wreath_of w) in
      let g : IsWreath d (length (system_of rs)) (wreath_of w) = subst P (sym (length-system_of rs)) (wreath_from d (length rs) w (h k (first_of rs k b) b)) in
      subst (IsWreath d (length (system_of rs))) (sym (get_or-map wreath_of rs k (first_of rs k b) z b)) g;
  most = rw (length-system_of rs) most;
}

pub recursions_from : (d : ℕ) (rs : List Recursion) → IsBlock d (system_of rs) → (length rs ≤ 4095) × All (IsRecursion d (length rs)) rs
recursions_from d rs h = (rw (length-system_of rs) at h.most, all)
  where
    all : All (IsRecursion d (length rs)) rs
    all k z l =
        let P : ℕ → Type 0 = λ n. IsWreath d n (wreath_of (get_or rs k z)) in
        let w : IsWreath d (length (system_of rs)) (wreath_of (get_or rs k z)) = subst (IsWreath d (length (system_of rs))) (get_or-map wreath_of rs k z (wreath_of z) l) (h.system k (wreath_of z) (rw (length-system_of rs) l)) in
        recursion_from d (length rs) (get_or rs k z) (subst P (length-system_of rs) w)

-- what the test of recursions says of the block
pub block_test : (d a : ℕ) (rs shown : List Recursion) (b : Bool) → a ≡ d → shown ≡ rs → 2 ≤ a → a ≤ 8 → (b ≡ true ↔ ((length shown ≤ 4095) × All (IsRecursion a (length shown)) shown)) → (b ≡ true ↔ IsBlock d (system_of rs))
block_test d a rs shown b e f few letters h =
    let P : ℕ → Type 0 = λ k. b ≡ true ↔ IsBlock k (system_of rs) in
    let Q : List Recursion → Type 0 = λ l. b ≡ true ↔ IsBlock a (system_of l) in
    subst P e (subst Q f (λ t. let g = h.0 t in IsBlock-from a shown few letters g.0 g.1, λ g. h.1 (recursions_from a shown g)))
