-- Products that a store on blocks of rows remembers.
use Rattle.std.proofs.Common.{ℕ, suc, ◌≡◌, ◌+◌, ◌-◌, ◌≤◌, inl, List, length, get_or, set, subst, arith, Option}
use Rattle.std.specs.List.{All, Contains}
use Rattle.std.proofs.Math.Logic.{∥∥₁_elim, ∥∥₁_map}
use Rattle.std.proofs.Props.{props}
use Rattle.std.proofs.lemmas.List.Elements.{All-set}
use Rattle.fr_model.specs.Terms.{Term, Product, IsAlike}
use Rattle.fr_model.specs.Classes.{IsPairCount}
use Rattle.fr_model.proofs.AlikeLaws.{alike_sym, alike_trans, alike_product}
use Rattle.fr_model.proofs.ClassLaws.{IsPairCount-alike, pair_count_once}
use Rattle.fr_machine.specs.declared.row.Row.{Row}
use Rattle.fr_machine.specs.Rows.{row_term}
use Rattle.fr_store.specs.declared.blocks.Place.{Place}
use Rattle.fr_store.specs.declared.handle.Handle.{Handle}
use Rattle.fr_store.specs.declared.products.Entry.{Entry}
use Rattle.fr_store.specs.Store.{StandsForTerm, IsKnown, Keeps, IsProductOf, IsRecalled}
use Rattle.fr_store.specs.Blocks.{place_at, block, code_at, AreBlocks}
use Rattle.fr_store.specs.Index.{known_in, IsIndex}
use Rattle.fr_store.specs.Products.{IsEntry, AreProducts}
use Rattle.fr_store.proofs.StoreLaws.{IsKnown-IsProp, IsAlike-IsProp, IsKnown-stands, IsKnown-term, stands_alike, stands_both, stands_keeps}
use Rattle.fr_store.proofs.BlockLaws.{length-block}
use Rattle.fr_store.proofs.VecLaws.{AreHandles-index, handle_row, own_alike}
use Rattle.fr_store.proofs.PairLaws.{rows_counted}

-- ---- products, when more becomes known
IsProductOf-keeps : (d : ℕ) (old new : ℕ → Option (List ℕ)) (a b c : Handle) → Keeps old new → IsProductOf d old a b c → IsProductOf d new a b c
IsProductOf-keeps d old new a b c k p = record {
  first = p.first;
  second = p.second;
  first_at = stands_keeps d old new a p.first k p.first_at;
  second_at = stands_keeps d old new b p.second k p.second_at;
  product_at = stands_keeps d old new c (Product p.first p.second) k p.product_at;
  few = p.few;
}

pub AreProducts-keeps : (d : ℕ) (old new : ℕ → Option (List ℕ)) (entries : List Entry) → Keeps old new → AreProducts d old entries → AreProducts d new entries
AreProducts-keeps d old new entries k p i z l n e = ∥∥₁_map (p i z l n e) (IsProductOf-keeps d old new (record { node = (get_or entries i z).left }) (record { node = (get_or entries i z).right }) (record { node = n }) k)

-- no products
pub AreProducts-none : (d : ℕ) (known : ℕ → Option (List ℕ)) (entries : List Entry) → All (λ (e : Entry). e.product ≡ 0) entries → AreProducts d known entries
AreProducts-none d known entries z i x l n e = absurd (let o = z i x l in omega (arith, o, e))

-- one that is kept in the place of another
pub AreProducts-put : (d : ℕ) (known : ℕ → Option (List ℕ)) (entries : List Entry) (i a b c : ℕ) → IsProductOf d known (record { node = a }) (record { node = b }) (record { node = c }) → AreProducts d known entries
    → AreProducts d known (set entries i (record { left = a; right = b; product = c + 1 }))
AreProducts-put d known entries i a b c p all = All-set (IsEntry d known) entries i (record { left = a; right = b; product = c + 1 }) (λ n e. put n (omega (arith, e))) all
  where
    put : (n : ℕ) → c ≡ n → ∥ IsProductOf d known (record { node = a }) (record { node = b }) (record { node = n }) ∥₁
    put n e = let P : ℕ → Type 0 = λ k. IsProductOf d known (record { node = a }) (record { node = b }) (record { node = k }) in ∣ subst P e p ∣₁

-- one that is found
pub AreProducts-found : (d : ℕ) (known : ℕ → Option (List ℕ)) (entries : List Entry) (a b c : ℕ) → AreProducts d known entries → Contains entries (record { left = a; right = b; product = c + 1 })
    → ∥ IsProductOf d known (record { node = a }) (record { node = b }) (record { node = c }) ∥₁
AreProducts-found d known entries a b c all h =
    let one : c + 1 ≡ suc c = omega arith in
    let here = all h.0 (record { left = a; right = b; product = c + 1 }) h.1 in
    let P : Entry → Type 0 = λ e. IsEntry d known e in
    (subst P h.2 here) c one

le-IsProp : (m n : ℕ) → IsProp (m ≤ n)
le-IsProp m n = hlevel props

-- ---- products that are recalled
module _ (d : ℕ) (rows : List Row) (places : List Place) (ab : AreBlocks d rows places) (handles links : List ℕ) (i : IsIndex (code_at d rows places) (length rows) handles links) (whole : length links ≡ length rows) where
  abbrev known : ℕ → Option (List ℕ)
  known = known_in (code_at d rows places) handles

  -- the elements of two handles have a count of pairs
  counted : (h k : Handle) (t u : Term) → StandsForTerm d known h t → StandsForTerm d known k u → (n : ℕ) × IsPairCount d t u n
  counted h k t u x y =
      let hl = handle_row d rows places ab handles links i whole h (IsKnown-stands d known h t x) in
      let kl = handle_row d rows places ab handles links i whole k (IsKnown-stands d known k u y) in
      let p = ab.placed h.node hl in
      let q = ab.placed k.node kl in
      let m = block rows (place_at places h.node) in
      let n = block rows (place_at places k.node) in
      let s = h.node - (place_at places h.node).start in
      let r = k.node - (place_at places k.node).start in
      let sm = length-block d rows places h.node (place_at places h.node) p in
      let sn = length-block d rows places k.node (place_at places k.node) q in
      let c = rows_counted d m n s r p.machine p.unlike q.machine q.unlike (omega (arith, sm, p.starts, p.inside)) (omega (arith, sn, q.starts, q.inside)) in (
        c.0,
        IsPairCount-alike d (row_term m s) t (row_term n r) u c.0 (alike_sym (own_alike d rows places ab handles links i whole h t x)) (alike_sym (own_alike d rows places ab handles links i whole k u y)) c.1,
      )

  module _ (a b c : Handle) (p : ∥ IsProductOf d known a b c ∥₁) where
    pub IsKnown-recalled : IsKnown known c
    IsKnown-recalled = ∥∥₁_elim p (IsKnown-IsProp known c) (λ q. IsKnown-stands d known c (Product q.first q.second) q.product_at)

    alike-recalled : (t u v : Term) → StandsForTerm d known a t → StandsForTerm d known b u → StandsForTerm d known c v → IsAlike v (Product t u)
    alike-recalled t u v x y z = ∥∥₁_elim p (IsAlike-IsProp v (Product t u)) (λ q. alike q)
      where
        alike : IsProductOf d known a b c → IsAlike v (Product t u)
        alike q = alike_trans (stands_both d known c v (Product q.first q.second) z q.product_at) (alike_product (stands_both d known a q.first t q.first_at x) (stands_both d known b q.second u q.second_at y))

    few-recalled : (t u : Term) (n : ℕ) → StandsForTerm d known a t → StandsForTerm d known b u → IsPairCount d t u n → n ≤ 65536
    few-recalled t u n x y e = ∥∥₁_elim p (le-IsProp n 65536) (λ q. few q)
      where
        few : IsProductOf d known a b c → n ≤ 65536
        few q =
            let f = IsPairCount-alike d q.first t q.second u q.few.0 (stands_both d known a q.first t q.first_at x) (stands_both d known b q.second u q.second_at y) q.few.2 in
            let same = pair_count_once d t u n q.few.0 e f in
            let most = q.few.1 in
            omega (arith, same, most)

    pub recalled : (t u : Term) → StandsForTerm d known a t → StandsForTerm d known b u → IsRecalled d t u known known c
    recalled t u x y =
        let v = IsKnown-term d known c (AreHandles-index d rows places ab handles links i whole) IsKnown-recalled in
        let n = counted a b t u x y in
        record {
          handle = stands_alike d known c v.0 (Product t u) v.1 (x.term, y.term) (alike-recalled t u v.0 x y v.1);
          few = (n.0, few-recalled t u n.0 x y n.1, n.1);
          grows = record { keeps = λ m q k. k; only = λ m q k. inl k };
        }
