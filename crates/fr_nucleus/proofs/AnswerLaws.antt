-- What the closure of the sections of generators says of the nucleus of their group.
use Rattle.std.proofs.Common.{ℕ, ◌≡◌, ◌+◌, ◌*◌, ◌/◌, ◌%◌, ◌<◌, ◌≤◌, ◌⊎◌, inl, inr, Bool, false, Result, Err, List, [], length, map, get_or, refl, sym, ◌∙◌, ap, subst, arith}
use Rattle.std.specs.Prelude.{IsErrOf}
use Rattle.std.specs.List.{Contains}
use Rattle.std.proofs.lemmas.Bool.{cases_Bool}
use Rattle.std.proofs.lemmas.List.{get_or_default, length-map, get_or-map}
use Rattle.fr_model.specs.Words.{IsWord}
use Rattle.fr_model.specs.Permutations.{numbers_from}
use Rattle.fr_model.proofs.PermutationLaws.{length-numbers_from, get_or-numbers_from}
use Rattle.fr_model.specs.Terms.{Term, One, Product, Section, IsAlike}
use Rattle.fr_model.specs.Automata.{state_after, IsLimitState}
use Rattle.fr_model.specs.Classes.{HasMoreThan, IsClassList}
use Rattle.fr_model.specs.Nuclei.{IsNucleusMember, of_generator, of_product, IsAbsorbing, IsNucleus, IsNucleusDepth}
use Rattle.fr_model.proofs.AlikeLaws.{alike_refl, alike_sym, alike_trans, alike_product, alike_section}
use Rattle.fr_model.proofs.AutomatonLaws.{section_state, state_after-lt}
use Rattle.fr_model.proofs.CanonicalLaws.{canonical_same, lex_irrefl}
use Rattle.fr_model.proofs.LimitLaws.{IsLimitSection-alike}
use Rattle.fr_machine.specs.declared.row.Row.{Row}
use Rattle.fr_machine.specs.Machine.{MachineView}
use Rattle.fr_machine.specs.Rows.{row_term, states_of, IsMachine}
use Rattle.fr_machine.proofs.RowLaws.{IsAutomaton-states_of, length-states_of}
use Rattle.fr_product.proofs.PairLaws.{pair_lt}
use Rattle.fr_nucleus.specs.declared.fault.NucleusFault.{NucleusFault}
use Rattle.fr_nucleus.specs.declared.fault.NucleusFault.TheVariants.{NoMemory, Passes}
use Rattle.fr_nucleus.specs.Faults.{IsNucleusFault}
use Rattle.fr_nucleus.specs.Elements.{element_of, elements_of, alphabet_of, IsSectionOf, IsMemberOf, HasMoreSections, HasMoreMembers}
use Rattle.fr_nucleus.specs.Orders.{machine_at}
use Rattle.fr_nucleus.specs.Rows.{HasRow, AreSections, IsListing}
use Rattle.fr_nucleus.specs.Depths.{mark_at, IsWayOut}
use Rattle.fr_nucleus.specs.Numberings.{HasMoreOf, IsClosure}
use Rattle.fr_model.proofs.Pigeons.{shared}
use Rattle.fr_nucleus.proofs.ListLaws.{choice}
use Rattle.fr_nucleus.proofs.ProductLaws.{IsMachine-products, alike_product_row, alike_pair}
use Rattle.fr_nucleus.proofs.GrowthLaws.{few_pairs}
use Rattle.fr_model.proofs.LimitStateLaws.{IsLimitState-from}
use Rattle.fr_nucleus.proofs.SectionLaws.{HasRow-alike, HasMoreThan-wider}
use Rattle.fr_nucleus.proofs.GeneratorLaws.{element_at}
use Rattle.fr_nucleus.proofs.NucleusTables.{IsHeld, IsInside, HasLimitsIn, IsNucleusTable, IsDepthTable, IsClosedSet}
use Rattle.fr_nucleus.proofs.NucleusLaws.{generators_closed, answered, refused, depth, covers, member_alike}

-- ---- the rows of a machine as a list of terms
pub terms_of : List Row → List Term
terms_of rows = map (row_term rows) (numbers_from 0 (length rows))

terms_at : (rows : List Row) (s : ℕ) (z : Term) → s < length rows → get_or (terms_of rows) s z ≡ row_term rows s
unfolding terms_of
terms_at rows s z l = get_or-map (row_term rows) (numbers_from 0 (length rows)) s 0 z (omega (arith, length-numbers_from 0 (length rows))) ∙ ap (row_term rows) (get_or-numbers_from 0 (length rows) s 0 l ∙ omega arith)

contains_term : (rows : List Row) (s : ℕ) → s < length rows → Contains (terms_of rows) (row_term rows s)
unfolding terms_of
contains_term rows s l = (s, omega (arith, l, length-map (numbers_from 0 (length rows)) (row_term rows), length-numbers_from 0 (length rows)), terms_at rows s (row_term rows s) l)

term_row : (rows : List Row) (t : Term) → Contains (terms_of rows) t → (s : ℕ) × (s < length rows) × (t ≡ row_term rows s)
unfolding terms_of
term_row rows t c =
    let l : c.0 < length rows = omega (arith, c.1, length-map (numbers_from 0 (length rows)) (row_term rows), length-numbers_from 0 (length rows)) in
    (c.0, l, sym c.2 ∙ terms_at rows c.0 t l)

equal_alike : {t u : Term} → t ≡ u → IsAlike t u
equal_alike {t} e = subst (IsAlike t) e (alike_refl t)

-- more values than rows, each alike one of them
pub no_more_than_rows : (P : Term → Type 0) (n : ℕ) (rows : List Row) → length rows ≤ n → ((t : Term) → P t → HasRow rows t) → ¬ HasMoreThan P IsAlike n
no_more_than_rows P n rows l f h =
    let found : (i : ℕ) → i < length h.members → HasRow rows (get_or h.members i One) = λ i k. f (get_or h.members i One) (h.valid i One k) in
    let xs = choice 0 (λ i s. (s < length rows) × IsAlike (get_or h.members i One) (row_term rows s)) (length h.members) (λ i k. (let r = found i k in (r.0, (r.1, r.2)))) in
    let p = shared (length h.members) (length rows) (λ i. get_or xs.0 i 0) (omega (arith, h.more)) (λ i k. (xs.2 i k).0) in
    let x = xs.2 p.i (omega (arith, p.before, p.below)) in
    let y = xs.2 p.j p.below in
    h.apart p.i p.j One p.before p.below (alike_trans x.1 (rw p.same (alike_sym y.1)))

-- ---- the closure of the rows is that of the sections
module _ (gens : List MachineView) (qs : List Row) (a : AreSections gens qs) where
  to_rows : {h : Term} → IsMemberOf gens h → IsNucleusMember (alphabet_of gens) (HasRow qs) h
  to_rows (of_generator {q = q} y l) = of_generator (a.listed q y) l
  to_rows (of_product {g = g} {q = q} m y l) = of_product (to_rows m) (a.listed q y) l

  pub from_rows : {h : Term} → IsNucleusMember (alphabet_of gens) (HasRow qs) h → IsMemberOf gens h
  from_rows (of_generator {q = q} {h = h} y l) =
      let t = a.inside y.0 y.1 in
      of_generator t.1 (IsLimitSection-alike (alphabet_of gens) q t.0 h h (alike_trans y.2 t.2) (alike_refl h) l)
  from_rows (of_product {g = g} {q = q} {h = h} m y l) =
      let t = a.inside y.0 y.1 in
      of_product (from_rows m) t.1 (IsLimitSection-alike (alphabet_of gens) (Product g q) (Product g t.0) h h (alike_product (alike_refl g) (alike_trans y.2 t.2)) (alike_refl h) l)

  closed_sections : IsClosedSet (alphabet_of gens) (IsSectionOf gens)
  closed_sections = generators_closed (alphabet_of gens) (elements_of gens) a.terms

  pub few_sections : ¬ HasMoreSections gens 64
  few_sections = no_more_than_rows (IsSectionOf gens) 64 qs a.fine.few a.listed

  pub more_members : (most : ℕ) → HasMoreOf (alphabet_of gens) qs most → HasMoreMembers gens most
  more_members most h = HasMoreThan-wider (IsNucleusMember (alphabet_of gens) (HasRow qs)) (IsMemberOf gens) most (λ t m. from_rows m) h

  pub none_absorbs : (most : ℕ) → HasMoreOf (alphabet_of gens) qs most → (ms : List Term) → IsAbsorbing (alphabet_of gens) (IsSectionOf gens) ms → most < length ms
  none_absorbs most h ms b = refused (alphabet_of gens) (IsSectionOf gens) most closed_sections (more_members most h) ms b

  module _ (ms products : List Row) (outside : List Bool) (views : List MachineView) (q : IsMachine (alphabet_of gens) qs) (m : IsMachine (alphabet_of gens) ms) (few : length ms ≤ 256) (c : IsClosure (alphabet_of gens) qs ms products outside) (v : IsListing (alphabet_of gens) ms views) where
    room : length ms * length qs ≤ 65536
    room = few_pairs ms qs few a.fine.few

    machine : IsMachine (alphabet_of gens) products
    machine = IsMachine-products (alphabet_of gens) ms qs products m q room c.table

    contains_view : (i : ℕ) → i < length views → Contains (elements_of views) (element_of (machine_at views i))
    contains_view i l = (i, omega (arith, l, length-map views element_of), element_at views i (element_of (machine_at views i)) l)

    view_of : (t : Term) → Contains (elements_of views) t → (i : ℕ) × (i < length views) × (t ≡ element_of (machine_at views i))
    view_of t k =
        let l : k.0 < length views = omega (arith, k.1, length-map views element_of) in
        (k.0, l, sym k.2 ∙ element_at views k.0 t l)

    -- what acts like a member's row is held by the answer, and back
    held : (t : Term) → HasRow ms t → IsHeld (elements_of views) t
    held t h = let w = v.whole h.0 h.1 in (element_of (machine_at views w.0), contains_view w.0 w.1, alike_trans h.2 w.2)

    row_of : (t : Term) → Contains (elements_of views) t → HasRow ms t
    row_of t k = let x = view_of t k in HasRow-alike ms t (element_of (machine_at views x.0)) (equal_alike x.2) (v.only x.0 x.1)

    has_row : (t : Term) → IsHeld (elements_of views) t → HasRow ms t
    has_row t h = HasRow-alike ms t h.0 h.2 (row_of h.0 h.1)

    -- the row of a product
    limits_of : (t : Term) (i s : ℕ) → i < length ms → s < length qs → IsAlike t (Product (row_term ms i) (row_term qs s)) → HasLimitsIn (alphabet_of gens) (elements_of views) t
    limits_of t i s l k e =
        let p = alike_pair (alphabet_of gens) ms qs products m q room c.table i s l k in
        let start = i * length qs + s in
        let sl : start < length (states_of products) = omega (arith, p.0, length-states_of products) in
        record {
          states = states_of products;
          start = start;
          machine = record { automaton = IsAutomaton-states_of (alphabet_of gens) products machine; below = sl; alike = alike_trans e (alike_sym p.1) };
          held = λ r f.
              let g = IsLimitState-from (alphabet_of gens) (states_of products) start r (IsAutomaton-states_of (alphabet_of gens) products machine) sl f in
              let rl : r < length products = omega (arith, length-states_of products, subst (λ z. z < length (states_of products)) f.reached.there (state_after-lt (alphabet_of gens) (states_of products) f.on f.reached.along (IsAutomaton-states_of (alphabet_of gens) products machine) (subst (λ z. z < length (states_of products)) f.way.there (state_after-lt (alphabet_of gens) (states_of products) start f.way.along (IsAutomaton-states_of (alphabet_of gens) products machine) sl)))) in
              held (row_term products r) (c.limits r g rl);
        }

    table : IsNucleusTable (alphabet_of gens) (IsSectionOf gens) (terms_of qs) (elements_of views)
    table = record {
      listed = λ t y. (let h = a.listed t y in (row_term qs h.0, contains_term qs h.0 h.1, h.2));
      generators = λ t k.
          let x = term_row qs t k in
          let one : IsAlike t (Product One t) = record { images = λ w. refl } in
          let e : IsAlike t (Product (row_term ms 0) (row_term qs x.0)) = alike_trans one (alike_product (alike_sym c.members.one) (equal_alike x.2)) in
          limits_of t 0 x.0 m.least x.1 e;
      products = λ n t k y.
          let h = row_of n k in
          let x = term_row qs t y in
          limits_of (Product n t) h.0 x.0 h.1 x.1 (alike_product h.2 (equal_alike x.2));
      members = λ n k.
          let h = row_of n k in
          from_rows (member_alike (alphabet_of gens) (HasRow qs) (row_term ms h.0) n (c.members.members h.0 h.1) (alike_sym h.2));
    }

    inside : IsInside (IsSectionOf gens) (terms_of qs)
    inside t k = let x = term_row qs t k in let u = a.inside x.0 x.1 in (u.0, u.1, alike_trans (equal_alike x.2) u.2)

    pub nucleus_is : IsNucleus (alphabet_of gens) (IsSectionOf gens) (elements_of views)
    nucleus_is = answered (alphabet_of gens) (IsSectionOf gens) (terms_of qs) (elements_of views) closed_sections table

    all_held : (h : Term) → IsMemberOf gens h → IsHeld (elements_of views) h
    all_held h k = covers (alphabet_of gens) (IsSectionOf gens) (terms_of qs) (elements_of views) closed_sections table h k

    apart : (i j : ℕ) → i < j → j < length views → ¬ IsAlike (element_of (machine_at views i)) (element_of (machine_at views j))
    apart i j l k e =
        let z : MachineView = record { alphabet = 0; rows = [] } in
        let x = v.canonical i z (omega arith) in
        let y = v.canonical j z k in
        let same : states_of (machine_at views i).rows ≡ states_of (machine_at views j).rows = canonical_same (alphabet_of gens) (element_of (machine_at views i)) (element_of (machine_at views j)) (states_of (machine_at views i).rows) (states_of (machine_at views j).rows) x y e in
        elim (v.order i j l k) [
          | inl f ↦ omega (arith, f, ap length same, length-states_of (machine_at views i).rows, length-states_of (machine_at views j).rows)
          | inr f ↦ lex_irrefl _ (rw same at f.1)
        ]

    pub members_are : IsClassList (IsMemberOf gens) IsAlike (elements_of views)
    members_are = record {
      valid = λ i z l. table.members (get_or (elements_of views) i z) (i, l, get_or_default (elements_of views) i (get_or (elements_of views) i z) z l);
      apart = λ i j z l k e.
          let jl : j < length views = omega (arith, k, length-map views element_of) in
          let il : i < length views = omega arith in
          apart i j l jl (rw (element_at views i z il, element_at views j z jl) at e);
      covers = λ h k.
          let x = all_held h k in
          (x.1.0, x.1.1, alike_trans x.2 (equal_alike (sym x.1.2 ∙ get_or_default (elements_of views) x.1.0 x.0 h x.1.1)));
    }

    pub few_members : (most : ℕ) → length ms ≤ most → ¬ HasMoreMembers gens most
    few_members most l h = no_more_than_rows (IsMemberOf gens) most ms l (λ t k. has_row t (all_held t k)) h

    -- ---- the depth
    module _ (k : ℕ) (w : IsWayOut (alphabet_of gens) (states_of products) outside k) where
      section_of : (t : Term) (i s : ℕ) (u : List ℕ) → i < length ms → s < length qs → IsAlike t (Product (row_term ms i) (row_term qs s)) → IsWord (alphabet_of gens) u → (state_after (states_of products) (i * length qs + s) u < length products) × IsAlike (Section t u) (row_term products (state_after (states_of products) (i * length qs + s) u))
      section_of t i s u l b e g =
          let p = alike_pair (alphabet_of gens) ms qs products m q room c.table i s l b in
          let sl : i * length qs + s < length (states_of products) = omega (arith, p.0, length-states_of products) in
          let au = IsAutomaton-states_of (alphabet_of gens) products machine in
          (omega (arith, length-states_of products, state_after-lt (alphabet_of gens) (states_of products) (i * length qs + s) u au sl), alike_trans (alike_section u (alike_trans e (alike_sym p.1))) (section_state (alphabet_of gens) (states_of products) (i * length qs + s) u au sl g))

      deep : IsDepthTable (alphabet_of gens) (terms_of qs) (elements_of views) k
      deep = record {
        within = λ n t x y u g e.
            let h = row_of n x in
            let b = term_row qs t y in
            let same : IsAlike (Product n t) (Product (row_term ms h.0) (row_term qs b.0)) = alike_product h.2 (equal_alike b.2) in
            let z = section_of (Product n t) h.0 b.0 u h.1 b.1 same g in
            let start = h.0 * length qs + b.0 in
            let sl : start < length (states_of products) = omega (arith, (alike_pair (alphabet_of gens) ms qs products m q room c.table h.0 b.0 h.1 b.1).0, length-states_of products) in
            let r = state_after (states_of products) start u in
            let in_row : HasRow ms (row_term products r) = elim (cases_Bool (mark_at outside r)) [
              | inl f ↦ absurd (w.within start sl (u, g, e, f))
              | inr f ↦ c.inside r z.0 f
            ] in
            held (Section (Product n t) u) (HasRow-alike ms (Section (Product n t) u) (row_term products r) z.1 in_row);
        last = λ j e.
            let x = w.last j e in
            let rl : x.0 < length products = omega (arith, x.1, length-states_of products) in
            let i = x.0 / length qs in
            let s = x.0 % length qs in
            let p = pair_lt x.0 (length ms) (length qs) (omega (arith, rl, c.table.count)) in
            let view = v.whole i p.0 in
            let n = element_of (machine_at views view.0) in
            let t = row_term qs s in
            let u = x.2.0 in
            let row : IsAlike (row_term products x.0) (Product (row_term ms i) t) = alike_product_row (alphabet_of gens) ms qs products m q room c.table x.0 rl in
            let at : IsAlike (Section (row_term products x.0) u) (row_term products (state_after (states_of products) x.0 u)) = section_state (alphabet_of gens) (states_of products) x.0 u (IsAutomaton-states_of (alphabet_of gens) products machine) x.1 x.2.1 in
            let there : state_after (states_of products) x.0 u < length products = omega (arith, length-states_of products, state_after-lt (alphabet_of gens) (states_of products) x.0 u (IsAutomaton-states_of (alphabet_of gens) products machine) x.1) in (
              n,
              t,
              u,
              contains_view view.0 view.1,
              contains_term qs s p.1,
              x.2.1,
              x.2.2,
              λ h.
                  let g = has_row (Section (Product n t) u) h in
                  let same : IsAlike (row_term products (state_after (states_of products) x.0 u)) (Section (Product n t) u) = alike_trans (alike_sym at) (alike_section u (alike_trans row (alike_product view.2 (alike_refl t)))) in
                  c.outer (state_after (states_of products) x.0 u) there x.2.3 (HasRow-alike ms (row_term products (state_after (states_of products) x.0 u)) (Section (Product n t) u) same g),
            );
      }

      pub depth_is : IsNucleusDepth (alphabet_of gens) (IsSectionOf gens) k
      depth_is = depth (alphabet_of gens) (IsSectionOf gens) (terms_of qs) (elements_of views) k closed_sections table inside deep

-- ---- the refusals, and what the search for the depth asks
pub limits_unmarked : (d : ℕ) (qs ms products : List Row) (outside : List Bool) → IsClosure d qs ms products outside → (r : ℕ) → r < length products → IsLimitState d (states_of products) r → mark_at outside r ≡ false
limits_unmarked d qs ms products outside c r l h = elim (cases_Bool (mark_at outside r)) [
  | inl f ↦ absurd (c.outer r l f (c.limits r h l))
  | inr f ↦ f
]

pub nucleus_fault : (gens : List MachineView) (qs : List Row) → AreSections gens qs → (most : ℕ) (e : NucleusFault) → (e ≡ NoMemory) ⊎ ((e ≡ Passes most) × HasMoreOf (alphabet_of gens) qs most) → IsNucleusFault gens most e
nucleus_fault gens qs a most e (inl n) = subst (IsNucleusFault gens most) (sym n) tt
nucleus_fault gens qs a most e (inr t) = subst (IsNucleusFault gens most) (sym t.0) (refl, few_sections gens qs a, more_members gens qs a most t.1)

pub none_from_fault : (gens : List MachineView) (qs : List Row) → AreSections gens qs → (most : ℕ) (e : NucleusFault) → (e ≡ NoMemory) ⊎ ((e ≡ Passes most) × HasMoreOf (alphabet_of gens) qs most) → e ≡ Passes most → (ms : List Term) → IsAbsorbing (alphabet_of gens) (IsSectionOf gens) ms → most < length ms
none_from_fault gens qs a most e (inl n) same ms b = let no : NoMemory ≡ Passes most = sym n ∙ same in absurd (cc)
none_from_fault gens qs a most e (inr t) same ms b = none_absorbs gens qs a most t.1 ms b

pub passes_is : {T : Type 0} (r : Result T NucleusFault) (y e f : NucleusFault) → r ≡ Err y → y ≡ e → IsErrOf r f → e ≡ f
passes_is r y e f same given h =
    let l : y ≡ f = cc in
    sym given ∙ l
