-- The two sides of the nucleus theorem.
use Rattle.std.proofs.Common.{ℕ, zero, suc, ◌≡◌, ◌+◌, ◌<◌, ◌≤◌, ◌⊎◌, inl, inr, List, [], ◌∷◌, ◌++◌, length, get_or, refl, sym, ◌∙◌, ap, subst, arith, length-append}
use Rattle.std.specs.List.{Contains}
use Rattle.std.proofs.lemmas.Bool.{cases_lt}
use Rattle.std.proofs.lemmas.List.{drop_at, get_or_past, get_or_default}
use Rattle.fr_model.specs.Words.{IsWord}
use Rattle.fr_model.specs.Terms.{Term, One, Inverse, Product, Section, act, IsTerm, IsAlike}
use Rattle.fr_model.specs.Automata.{State, state_term, IsLimitStateFrom}
use Rattle.fr_model.specs.Classes.{HasMoreThan}
use Rattle.fr_model.specs.Nuclei.{IsLimitSection, IsNucleusMember, IsGroupElement, IsAbsorbing, IsNucleus, IsNucleusDepth, IsGeneratorSection, one, section, inverse, of_generator, of_product, none, more}
use Rattle.fr_model.proofs.TermLaws.{act-IsWord, IsWord-append}
use Rattle.fr_model.proofs.AlikeLaws.{alike_refl, alike_sym, alike_trans, alike_product, alike_section, section_section, section_product}
use Rattle.fr_nucleus.proofs.NucleusTables.{IsHeld, IsHeldFrom, IsClosedSet, IsListed, IsInside, HasLimitsIn, IsNucleusTable, IsDepthTable}
use Rattle.fr_model.proofs.Pigeons.{IsShared, shared}
use Rattle.fr_model.proofs.LimitStateLaws.{IsMachineOf, split, limit_is_section, long_is_limit}

-- ---- one bound for the members of a list
here : (t : Term) (ts : List Term) → Contains (t ∷ ts) t
here t ts = (0, omega arith, refl)

later : (t x : Term) (ts : List Term) → Contains ts x → Contains (t ∷ ts) x
later t x ts c = (suc c.0, omega (arith, c.1), c.2)

cases_cons : (t x : Term) (ts : List Term) → Contains (t ∷ ts) x → (t ≡ x) ⊎ Contains ts x
cases_cons t x ts c = go c.0 c.1 c.2
  where
    go : (k : ℕ) → k < suc (length ts) → get_or (t ∷ ts) k x ≡ x → (t ≡ x) ⊎ Contains ts x
    go zero h e = inl e
    go (suc k) h e = inr (k, omega arith, e)

bound : (P : Term → ℕ → Type 0) → ((t : Term) (a b : ℕ) → a ≤ b → P t a → P t b) → (ts : List Term) → ((t : Term) → Contains ts t → (k : ℕ) × P t k) → (k : ℕ) × ((t : Term) → Contains ts t → P t k)
bound P up [] h = (0, λ t c. absurd (omega (arith, c.1)))
bound P up (t ∷ ts) h =
    let a = h t (here t ts) in
    let b = bound P up ts (λ x c. h x (later t x ts c)) in (
      a.0 + b.0,
      λ x c. elim (cases_cons t x ts c) [
        | inl e ↦ subst (λ z. P z (a.0 + b.0)) e (up t a.0 (a.0 + b.0) (omega arith) a.1)
        | inr r ↦ up x b.0 (a.0 + b.0) (omega arith) (b.1 x r)
      ],
    )

held_up : (d : ℕ) (ns : List Term) (t : Term) (a b : ℕ) → a ≤ b → IsHeldFrom d ns t a → IsHeldFrom d ns t b
held_up d ns t a b l h v k g = h v k (omega arith)

held_alike : (d : ℕ) (ns : List Term) (t u : Term) (k : ℕ) → IsAlike t u → IsHeldFrom d ns u k → IsHeldFrom d ns t k
held_alike d ns t u k s h v w l = let r = h v w l in (r.0, r.1, alike_trans (alike_section v s) r.2)

-- ---- the elements of the group
group_term : (d : ℕ) (Q : Term → Type 0) → IsClosedSet d Q → {p : Term} → IsGroupElement Q p → IsTerm d p
group_term d Q c none = tt
group_term d Q c (more {p = p} {q = q} r k) = (group_term d Q c r, c.terms q k)

pub one_section : (v : List ℕ) → IsAlike (Section One v) One
one_section v = record { images = λ w. drop_at v w (length v) refl }

group_section : (d : ℕ) (Q : Term → Type 0) → IsClosedSet d Q → {p : Term} → IsGroupElement Q p → (v : List ℕ) → IsWord d v → (g : Term) × IsGroupElement Q g × IsAlike (Section p v) g
group_section d Q c none v w = (One, none, one_section v)
group_section d Q c (more {p = p} {q = q} r k) v w =
    let a = group_section d Q c r v w in
    let b = c.sections q k (act p v) (act-IsWord d p (group_term d Q c r) v w) in
    (Product a.0 b.0, more a.1 b.1, alike_trans (section_product p q v) (alike_product a.2 b.2))

-- ---- the first side: a list that holds the sections of 1 and of the products n*q from some length on holds those of all products
module _ (d : ℕ) (Q : Term → Type 0) (qs ns : List Term) (c : IsClosedSet d Q) (listed : IsListed Q qs) (k : ℕ) (start : IsHeldFrom d ns One k) (steps : (n : Term) → Contains ns n → (q : Term) → Contains qs q → IsHeldFrom d ns (Product n q) k) where
  step : (p q : Term) (m : ℕ) → IsGroupElement Q p → Q q → IsHeldFrom d ns p m → IsHeldFrom d ns (Product p q) (m + k)
  step p q m g y h v w l =
      let s = split d m v w (omega arith) in
      let a = s.front in
      let b = s.end in
      let long : length v ≡ m + length b = sym (ap length s.joined) ∙ length-append a b ∙ ap (λ z. z + length b) s.size in
      let n = h a s.front_valid (omega (arith, s.size)) in
      let r = c.sections q y (act p a) (act-IsWord d p (group_term d Q c g) a s.front_valid) in
      let x = listed r.0 r.1 in
      let f = steps n.0 n.1 x.0 x.1 b s.end_valid (omega (arith, long, l)) in
      let same : IsAlike (Section (Product p q) (a ++ b)) f.0 =
      alike_trans (alike_sym (section_section (Product p q) a b))
      (alike_trans (alike_section b (section_product p q a))
      (alike_trans (alike_section b (alike_product n.2 (alike_trans r.2 x.2))) f.2)) in
      (f.0, f.1, subst (λ z. IsAlike (Section (Product p q) z) f.0) s.joined same)

  all : {p : Term} → IsGroupElement Q p → (n : ℕ) × IsHeldFrom d ns p n
  all none = (k, start)
  all (more {p = p} {q = q} r y) = let h = all r in (h.0 + k, step p q h.0 r y h.1)

pub absorbs_listed : (d : ℕ) (Q : Term → Type 0) (qs ns : List Term) → IsClosedSet d Q → IsListed Q qs
    → ((q : Term) → Contains qs q → (k : ℕ) × IsHeldFrom d ns q k)
    → ((n q : Term) → Contains ns n → Contains qs q → (k : ℕ) × IsHeldFrom d ns (Product n q) k)
    → IsAbsorbing d Q ns
absorbs_listed d Q qs ns c listed each products p g =
    let o = listed One c.one in
    let s = each o.0 o.1 in
    let b = bound (λ n k. (q : Term) → Contains qs q → IsHeldFrom d ns (Product n q) k)
    (λ n a b l h q y. held_up d ns (Product n q) a b l (h q y)) ns
    (λ n x. bound (λ q k. IsHeldFrom d ns (Product n q) k) (λ q a b l h. held_up d ns (Product n q) a b l h) qs (λ q y. products n q x y)) in
    all d Q qs ns c listed (s.0 + b.0)
    (held_up d ns One s.0 (s.0 + b.0) (omega arith) (held_alike d ns One o.0 s.0 o.2 s.1))
    (λ n x q y. held_up d ns (Product n q) b.0 (s.0 + b.0) (omega arith) (b.1 n x q y)) g

-- with the premises for each member of Q, where those of the list are alike members
pub absorbs : (d : ℕ) (Q : Term → Type 0) (qs ns : List Term) → IsClosedSet d Q → IsListed Q qs → IsInside Q qs
    → ((q : Term) → Q q → (k : ℕ) × IsHeldFrom d ns q k)
    → ((n q : Term) → Contains ns n → Q q → (k : ℕ) × IsHeldFrom d ns (Product n q) k)
    → IsAbsorbing d Q ns
absorbs d Q qs ns c listed inside each products = absorbs_listed d Q qs ns c listed
    (λ r y. let q = inside r y in let h = each q.0 q.1 in (h.0, held_alike d ns r q.0 h.0 q.2 h.1))
    (λ n r x y. let q = inside r y in let h = products n q.0 x q.1 in (h.0, held_alike d ns (Product n r) (Product n q.0) h.0 (alike_product (alike_refl n) q.2) h.1))

-- ---- the second side: each member of the nucleus lies in each absorbing list
after_one : (q : Term) → IsAlike q (Product One q)
after_one q = record { images = λ w. refl }

limit_of_element : (d : ℕ) (Q : Term → Type 0) → IsClosedSet d Q → (t g h : Term) → IsGroupElement Q g → IsAlike t g → IsLimitSection d t h → (f : Term) × IsGroupElement Q f × IsAlike h f
limit_of_element d Q c t g h e s l =
    let r = l 0 in
    let f = group_section d Q c e r.0 r.1 in
    (f.0, f.1, alike_trans (alike_sym r.3) (alike_trans (alike_section r.0 s) f.2))

pub member_is_element : (d : ℕ) (Q : Term → Type 0) → IsClosedSet d Q → {h : Term} → IsNucleusMember d Q h → (f : Term) × IsGroupElement Q f × IsAlike h f
member_is_element d Q c (of_generator {q = q} {h = h} y l) = limit_of_element d Q c q (Product One q) h (more none y) (after_one q) l
member_is_element d Q c (of_product {g = g} {q = q} {h = h} m y l) =
    let f = member_is_element d Q c m in
    limit_of_element d Q c (Product g q) (Product f.0 q) h (more f.1 y) (alike_product f.2 (alike_refl q)) l

limit_is_held : (d : ℕ) (Q : Term → Type 0) (ms : List Term) → IsAbsorbing d Q ms → (t g h : Term) → IsGroupElement Q g → IsAlike t g → IsLimitSection d t h → IsHeld ms h
limit_is_held d Q ms a t g h e s l =
    let b = a g e in
    let r = l b.0 in
    let m = b.1 r.0 r.1 r.2 in
    (m.0, m.1, alike_trans (alike_sym r.3) (alike_trans (alike_section r.0 s) m.2))

pub smallest : (d : ℕ) (Q : Term → Type 0) → IsClosedSet d Q → (ms : List Term) → IsAbsorbing d Q ms → (h : Term) → IsNucleusMember d Q h → (m : Term) × Contains ms m × IsAlike h m
smallest d Q c ms a h (of_generator {q = q} y l) = limit_is_held d Q ms a q (Product One q) h (more none y) (after_one q) l
smallest d Q c ms a h (of_product {g = g} {q = q} m y l) =
    let f = member_is_element d Q c m in
    limit_is_held d Q ms a (Product g q) (Product f.0 q) h (more f.1 y) (alike_product f.2 (alike_refl q)) l

-- ---- from machines
held_by_machine : (d : ℕ) (ns : List Term) (t : Term) → HasLimitsIn d ns t → (k : ℕ) × IsHeldFrom d ns t k
held_by_machine d ns t h = (
  length h.states,
  λ v w l.
      let r = long_is_limit d t h.states h.start v h.machine w l in
      let m = h.held r.0 r.1 in
      (m.0, m.1, alike_trans r.2 m.2),
)

pub answered : (d : ℕ) (Q : Term → Type 0) (qs ns : List Term) → IsClosedSet d Q → IsNucleusTable d Q qs ns → IsNucleus d Q ns
answered d Q qs ns c t = record {
  absorbs = absorbs_listed d Q qs ns c t.listed (λ q y. held_by_machine d ns q (t.generators q y)) (λ n q x y. held_by_machine d ns (Product n q) (t.products n q x y));
  smallest = λ ms a n x. smallest d Q c ms a n (t.members n x);
}

-- more members, no two alike, than a number: no absorbing list is so short
module _ (d : ℕ) (Q : Term → Type 0) (most : ℕ) (c : IsClosedSet d Q) (many : HasMoreThan (IsNucleusMember d Q) IsAlike most) (ms : List Term) (a : IsAbsorbing d Q ms) where
  first : Term
  first = get_or many.members 0 One

  member : (i : ℕ) → IsNucleusMember d Q (get_or many.members i first)
  unfolding first
  member i = elim (cases_lt i (length many.members)) [
    | inl l ↦ many.valid i first l
    | inr l ↦ subst (λ z. IsNucleusMember d Q z) (sym (get_or_past many.members i first l)) (many.valid 0 One (omega (arith, many.more)))
  ]

  found : (i : ℕ) → IsHeld ms (get_or many.members i first)
  found i = smallest d Q c ms a (get_or many.members i first) (member i)

  place : ℕ → ℕ
  place i = (found i).1.0

  place-lt : (i : ℕ) → place i < length ms
  unfolding place
  place-lt i = (found i).1.1

  clash : IsShared (length many.members) place → ⊥
  unfolding place
  clash s =
      let x = found s.i in
      let y = found s.j in
      let e : x.0 ≡ y.0 = sym x.1.2 ∙ get_or_default ms x.1.0 x.0 y.0 x.1.1 ∙ ap (λ z. get_or ms z y.0) s.same ∙ y.1.2 in
      many.apart s.i s.j first s.before s.below (alike_trans x.2 (subst (λ z. IsAlike z (get_or many.members s.j first)) (sym e) (alike_sym y.2)))

  pub refused : most < length ms
  refused = elim (cases_lt most (length ms)) [
    | inl l ↦ l
    | inr l ↦ absurd (clash (shared (length many.members) (length ms) place (omega (arith, many.more)) (λ i k. place-lt i)))
  ]

-- ---- the set of a list of generators is closed
pub generators_closed : (d : ℕ) (gens : List Term) → ((g : Term) → Contains gens g → IsTerm d g) → IsClosedSet d (IsGeneratorSection d gens)
generators_closed d gens h = record { terms = λ q k. terms k; one = one; sections = λ q k v w. sections k v w }
  where
    terms : {q : Term} → IsGeneratorSection d gens q → IsTerm d q
    terms one = tt
    terms (section {g = g} c v w) = (h g c, w)
    terms (inverse {g = g} c v w) = (h g c, w)

    sections : {q : Term} → IsGeneratorSection d gens q → (v : List ℕ) → IsWord d v → (r : Term) × IsGeneratorSection d gens r × IsAlike (Section q v) r
    sections one v w = (One, one, one_section v)
    sections (section {g = g} c u k) v w = (Section g (u ++ v), section c (u ++ v) (IsWord-append d u v k w), section_section g u v)
    sections (inverse {g = g} c u k) v w = (Section (Inverse g) (u ++ v), inverse c (u ++ v) (IsWord-append d u v k w), section_section (Inverse g) u v)

-- ---- the members are closed under acting alike and under sections
limit_alike : (d : ℕ) (t h f : Term) → IsLimitSection d t h → IsAlike h f → IsLimitSection d t f
limit_alike d t h f l s n = let r = l n in (r.0, r.1, r.2, alike_trans r.3 s)

limit_from : (d : ℕ) (t u h : Term) → IsLimitSection d t h → IsAlike t u → IsLimitSection d u h
limit_from d t u h l s n = let r = l n in (r.0, r.1, r.2, alike_trans (alike_section r.0 (alike_sym s)) r.3)

limit_section : (d : ℕ) (t h : Term) (w : List ℕ) → IsLimitSection d t h → IsWord d w → IsLimitSection d t (Section h w)
limit_section d t h w l k n =
    let r = l n in
    (r.0 ++ w, IsWord-append d r.0 w r.1 k, omega (arith, r.2, length-append r.0 w), alike_trans (alike_sym (section_section t r.0 w)) (alike_section w r.3))

pub member_alike : (d : ℕ) (Q : Term → Type 0) (h f : Term) → IsNucleusMember d Q h → IsAlike h f → IsNucleusMember d Q f
member_alike d Q h f (of_generator {q = q} y l) s = of_generator y (limit_alike d q h f l s)
member_alike d Q h f (of_product {g = g} {q = q} m y l) s = of_product m y (limit_alike d (Product g q) h f l s)

pub member_section : (d : ℕ) (Q : Term → Type 0) (h : Term) (w : List ℕ) → IsNucleusMember d Q h → IsWord d w → IsNucleusMember d Q (Section h w)
member_section d Q h w (of_generator {q = q} y l) k = of_generator y (limit_section d q h w l k)
member_section d Q h w (of_product {g = g} {q = q} m y l) k = of_product m y (limit_section d (Product g q) h w l k)

-- the limit states of a machine of one of Q, and of a product of a member and one of Q, are members
pub generator_member : (d : ℕ) (Q : Term → Type 0) (t q : Term) (qs : List State) (s r : ℕ) → Q q → IsAlike t q → IsMachineOf d t qs s → IsLimitStateFrom d qs s r → IsNucleusMember d Q (state_term qs r)
generator_member d Q t q qs s r y e m l = of_generator y (limit_from d t q (state_term qs r) (limit_is_section d t qs s r m l) e)

pub product_member : (d : ℕ) (Q : Term → Type 0) (t g q : Term) (qs : List State) (s r : ℕ) → IsNucleusMember d Q g → Q q → IsAlike t (Product g q) → IsMachineOf d t qs s → IsLimitStateFrom d qs s r → IsNucleusMember d Q (state_term qs r)
product_member d Q t g q qs s r x y e m l = of_product x y (limit_from d t (Product g q) (state_term qs r) (limit_is_section d t qs s r m l) e)

-- each member of the nucleus is alike one of the table
pub covers : (d : ℕ) (Q : Term → Type 0) (qs ns : List Term) → IsClosedSet d Q → IsNucleusTable d Q qs ns → (h : Term) → IsNucleusMember d Q h → IsHeld ns h
covers d Q qs ns c t h m = smallest d Q c ns (answered d Q qs ns c t).absorbs h m

-- ---- the depth
pub depth : (d : ℕ) (Q : Term → Type 0) (qs ns : List Term) (k : ℕ) → IsClosedSet d Q → IsNucleusTable d Q qs ns → IsInside Q qs → IsDepthTable d qs ns k → IsNucleusDepth d Q k
depth d Q qs ns k c t inside deep = record { within = within; least = λ j l. least k refl j l }
  where
    all_held : (h : Term) → IsNucleusMember d Q h → IsHeld ns h
    all_held = covers d Q qs ns c t

    within : (n q : Term) → IsNucleusMember d Q n → Q q → (v : List ℕ) → IsWord d v → length v ≡ k → IsNucleusMember d Q (Section (Product n q) v)
    within n q m y v w l =
        let a = all_held n m in
        let b = t.listed q y in
        let h = deep.within a.0 b.0 a.1 b.1 v w l in
        member_alike d Q h.0 (Section (Product n q) v) (t.members h.0 h.1) (alike_trans (alike_sym h.2) (alike_section v (alike_product (alike_sym a.2) (alike_sym b.2))))

    least : (k' : ℕ) → k ≡ k' → (j : ℕ) → j < k' → (n : Term) × (q : Term) × (v : List ℕ) × IsNucleusMember d Q n × Q q × IsWord d v × (length v ≡ j) × ¬ IsNucleusMember d Q (Section (Product n q) v)
    least zero e j l = absurd (omega arith)
    least (suc i) e j l =
        let r = deep.last i e in
        let n = r.0 in
        let v = r.2 in
        let q = inside r.1 r.4 in
        let s = split d j v r.5 (omega (arith, r.6)) in (
          n,
          q.0,
          s.front,
          t.members n r.3,
          q.1,
          s.front_valid,
          s.size,
          λ m.
              let x = member_section d Q (Section (Product n q.0) s.front) s.end m s.end_valid in
              let h = all_held (Section (Section (Product n q.0) s.front) s.end) x in
              let same : IsAlike (Section (Product n r.1) (s.front ++ s.end)) h.0 =
              alike_trans (alike_section (s.front ++ s.end) (alike_product (alike_refl n) q.2))
              (alike_trans (alike_sym (section_section (Product n q.0) s.front s.end)) h.2) in
              r.7 (h.0, h.1, subst (λ z. IsAlike (Section (Product n r.1) z) h.0) s.joined same),
        )
