-- Members and their products: what the classes of products say of the closure.
use Rattle.std.proofs.Common.{ℕ, zero, suc, ◌≡◌, ◌+◌, ◌*◌, ◌/◌, ◌%◌, ◌<◌, ◌≤◌, ◌⊎◌, inl, inr, Bool, List, [], ◌∷◌, ◌++◌, length, map, get_or, refl, sym, ◌∙◌, ap, subst, arith}
use Rattle.std.specs.List.{Contains}
use Rattle.std.proofs.lemmas.Bool.{cases_lt}
use Rattle.std.proofs.lemmas.Nat.{mul-le}
use Rattle.std.proofs.lemmas.List.{get_or_default, length-map, get_or-map}
use Rattle.fr_model.specs.Words.{IsWord}
use Rattle.fr_model.specs.Terms.{Term, One, Product, IsAlike}
use Rattle.fr_model.specs.Automata.{next_state, IsLimitState}
use Rattle.fr_model.specs.Nuclei.{IsNucleusMember, of_generator}
use Rattle.fr_model.proofs.TermLaws.{IsWord-append}
use Rattle.fr_model.proofs.AlikeLaws.{alike_refl, alike_sym, alike_trans, alike_product}
use Rattle.fr_machine.specs.declared.row.Row.{Row}
use Rattle.fr_machine.specs.Rows.{row_term, states_of, IsMachine, row_at}
use Rattle.fr_machine.proofs.RowLaws.{IsAutomaton-states_of, length-states_of, row_valid, next_is}
use Rattle.fr_product.proofs.PairLaws.{pair_lt}
use Rattle.fr_nucleus.specs.Rows.{HasRow, AreFewRows}
use Rattle.fr_nucleus.specs.Products.{IsProductTable}
use Rattle.fr_nucleus.specs.Numberings.{AreOutside, IsNumberingOf, IsOverfull, AreGrown, AreMembers, HasMoreOf, IsClosure}
use Rattle.fr_nucleus.proofs.NextLaws.{alike_rows, alike_perms, alike_nexts, leads-lt}
use Rattle.fr_nucleus.proofs.ProductLaws.{IsMachine-products, alike_product_row, alike_pair}
use Rattle.fr_nucleus.proofs.NumberingLaws.{IsMachine-grown}
use Rattle.fr_model.proofs.AutomatonLaws.{state_after-append}
use Rattle.fr_nucleus.proofs.NucleusLaws.{one_section, member_alike, product_member}

times_one : (t : Term) → IsAlike (Product t One) t
times_one t = record { images = λ w. refl }

pub few_pairs : (ms qs : List Row) → length ms ≤ 256 → length qs ≤ 64 → length ms * length qs ≤ 65536
few_pairs ms qs a b = let h = mul-le (length ms) (length qs) 256 64 a b in omega (arith, h)

-- words of each length
ones : ℕ → List ℕ
ones zero = []
ones (suc n) = 1 ∷ ones n

ones_word : (d n : ℕ) → 1 ≤ d → IsWord d (ones n) × (length (ones n) ≡ n)
unfolding ones
ones_word d zero l = (tt, refl)
ones_word d (suc n) l = let r = ones_word d n l in (((omega arith, l), r.0), ap suc r.1)

-- the identity alone
pub AreMembers-identity : (d : ℕ) (qs ms : List Row) → 1 ≤ d → AreFewRows qs → length ms ≡ 1 → IsAlike (row_term ms 0) One → AreMembers d qs ms
AreMembers-identity d qs ms l f n e = record {
  one = e;
  unlike = λ s t b k a. absurd (omega (arith, n));
  members = λ i b. let at : i ≡ 0 = omega (arith, n) in rw at (member_alike d (HasRow qs) One (row_term ms 0) one (alike_sym e));
}
  where
    one : IsNucleusMember d (HasRow qs) One
    one = of_generator {q = One} (0, f.some, alike_sym f.one) (λ k. let w = ones_word d k l in (ones k, w.0, omega (arith, w.1), one_section (ones k)))

module _ (d : ℕ) (qs ms products : List Row) (q : IsMachine d qs) (m : IsMachine d ms) (fine : AreFewRows qs) (few : length ms ≤ 256) (a : AreMembers d qs ms) (t : IsProductTable ms qs products) where
  abbrev width : ℕ
  width = length qs

  pub products_machine : IsMachine d products
  products_machine = IsMachine-products d ms qs products m q (few_pairs ms qs few fine.few) t

  -- a member is its product with the identity
  pub member_pair : (i : ℕ) → i < length ms → (i * length qs < length products) × IsAlike (row_term products (i * length qs)) (row_term ms i)
  member_pair i l =
      let p = alike_pair d ms qs products m q (few_pairs ms qs few fine.few) t i 0 l fine.some in
      let e : i * length qs + 0 ≡ i * length qs = omega arith in
      let h : IsAlike (row_term products (i * length qs)) (Product (row_term ms i) (row_term qs 0)) = rw e at p.1 in
      (omega (arith, p.0, e), alike_trans h (alike_trans (alike_product (alike_refl (row_term ms i)) fine.one) (times_one (row_term ms i))))

  pub pairs_apart : (i j : ℕ) → i < j → j < length ms → ¬ IsAlike (row_term products (i * length qs)) (row_term products (j * length qs))
  pairs_apart i j l k e = a.unlike i j l k (alike_trans (alike_sym (member_pair i (omega arith)).1) (alike_trans e (member_pair j k).1))

  -- a limit row is a member
  pub limit_member : (r : ℕ) → IsLimitState d (states_of products) r → IsNucleusMember d (HasRow qs) (row_term products r)
  limit_member r h =
      let on = h.on in
      let ol : on < length products = omega (arith, h.state, length-states_of products) in
      let p = pair_lt on (length ms) (length qs) (omega (arith, ol, t.count)) in
      let e = alike_product_row d ms qs products m q (few_pairs ms qs few fine.few) t on ol in
      product_member d (HasRow qs) (row_term products on) (row_term ms (on / length qs)) (row_term qs (on % length qs)) (states_of products) on r (a.members (on / length qs) p.0) (on % length qs, p.1, alike_refl (row_term qs (on % length qs))) e
      (record { automaton = IsAutomaton-states_of d products products_machine; below = h.state; alike = alike_refl (row_term products on) })
      (record {
        on = on;
        way = record { along = []; valid = tt; there = refl };
        round = h.round;
        round_valid = h.round_valid;
        some = h.some;
        back = h.back;
        reached = h.reached;
      })

  -- too many rows are too many members
  pub HasMoreOf-from : (most : ℕ) → IsOverfull d products (length ms) (length qs) most → HasMoreOf d qs most
  HasMoreOf-from most h = record {
    members = map (row_term products) h.rows;
    more = omega (arith, h.more, length-map h.rows (row_term products));
    valid = λ i z l.
        let k : i < length h.rows = omega (arith, length-map h.rows (row_term products)) in
        let at : get_or (map (row_term products) h.rows) i z ≡ row_term products (get_or h.rows i 0) = get_or-map (row_term products) h.rows i 0 z k in
        rw at (either (get_or h.rows i 0) (h.either i k).1);
    apart = λ i j z b c e.
        let jl : j < length h.rows = omega (arith, c, length-map h.rows (row_term products)) in
        let il : i < length h.rows = omega arith in
        h.apart i j b jl (rw (get_or-map (row_term products) h.rows i 0 z il, get_or-map (row_term products) h.rows j 0 z jl) at e);
  }
    where
      either : (s : ℕ) → ((i : ℕ) × (i < length ms) × (s ≡ i * length qs)) ⊎ IsLimitState d (states_of products) s → IsNucleusMember d (HasRow qs) (row_term products s)
      either s (inl x) =
          let e : IsAlike (row_term products s) (row_term ms x.0) = rw x.2 (member_pair x.0 x.1).1 in
          member_alike d (HasRow qs) (row_term ms x.0) (row_term products s) (a.members x.0 x.1) (alike_sym e)
      either s (inr x) = limit_member s x

  -- a row behind a limit row is one
  limit_next : (r x : ℕ) → r < length products → x < d → IsLimitState d (states_of products) r → IsLimitState d (states_of products) (get_or (row_at products r).next x 0)
  limit_next r x l k h = record {
    on = h.on;
    state = h.state;
    round = h.round;
    round_valid = h.round_valid;
    some = h.some;
    back = h.back;
    reached = record {
      along = h.reached.along ++ suc x ∷ [];
      valid = IsWord-append d h.reached.along (suc x ∷ []) h.reached.valid ((omega arith, omega arith), tt);
      there = state_after-append (states_of products) h.on h.reached.along (suc x ∷ []) ∙ ap (λ s. next_state (states_of products) s (suc x)) h.reached.there ∙ next_is d products products_machine r l x k;
    };
  }

  module _ (most : ℕ) (of keys : List ℕ) (n : IsNumberingOf d products (length ms) (length qs) most of keys) where
    same_class : (r s : ℕ) → r < length products → s < length products → IsAlike (row_term products r) (row_term products s) → get_or of r 0 ≡ get_or of s 0
    same_class r s l k e = (n.classes.alike r s l k).1 e

    one_class : (r s : ℕ) → r < length products → s < length products → get_or of r 0 ≡ get_or of s 0 → IsAlike (row_term products r) (row_term products s)
    one_class r s l k e = (n.classes.alike r s l k).0 e

    pub used : (i : ℕ) → length ms ≤ i → i < length keys → (r : ℕ) × (r < length products) × (get_or of r 0 ≡ get_or keys i 0)
    used i b c = let r = n.only i b c in (r.0, r.1, sym r.3)

    contains_key : (i x : ℕ) → i < length keys → get_or keys i 0 ≡ x → Contains keys x
    contains_key i x l e = (i, l, get_or_default keys i x 0 l ∙ e)

    pub closed : (i r x : ℕ) → length ms ≤ i → i < length keys → r < length products → get_or of r 0 ≡ get_or keys i 0 → x < d → Contains keys (get_or of (get_or (row_at products r).next x 0) 0)
    closed i r x b c l e k =
        let z = n.only i b c in
        let s = z.0 in
        let alike = one_class s r z.1 l (sym z.3 ∙ sym e) in
        let ns = leads-lt d products products_machine s x z.1 k in
        let nr = leads-lt d products products_machine r x l k in
        let same = same_class _ _ ns nr (alike_nexts d products products products_machine products_machine s r z.1 l alike x k) in
        subst (Contains keys) same (n.has (get_or (row_at products s).next x 0) ns (limit_next s x z.1 k z.2))

    module _ (rows : List Row) (g : AreGrown of keys products ms rows) (all : length rows ≡ length keys) where
      grown_machine : IsMachine d rows
      grown_machine = IsMachine-grown d of keys products ms rows products_machine m n.keyed.few g (omega (arith, all))

      -- a row of members acts as the products of its class
      step : (i r : ℕ) → (i < length rows) × (r < length products) × (get_or of r 0 ≡ get_or keys i 0) → (i < length rows) × (r < length products) × ((row_at rows i).perm ≡ (row_at products r).perm) × ((x : ℕ) → x < d → (get_or (row_at rows i).next x 0 < length rows) × (get_or (row_at products r).next x 0 < length products) × (get_or of (get_or (row_at products r).next x 0) 0 ≡ get_or keys (get_or (row_at rows i).next x 0) 0))
      step i r h = elim (cases_lt i (length ms)) [
        | inl b ↦
            let pair = member_pair i b in
            let class : get_or of (i * length qs) 0 ≡ get_or of r 0 = sym (n.known i b) ∙ sym h.2 in
            let alike : IsAlike (row_term ms i) (row_term products r) = alike_trans (alike_sym pair.1) (one_class (i * length qs) r pair.0 h.1 class) in (
              h.0,
              h.1,
              ap (λ q. q.perm) (g.same i b) ∙ alike_perms d ms products m products_machine i r b h.1 alike,
              λ x k.
                  let y = get_or (row_at ms i).next x 0 in
                  let yl = leads-lt d ms m i x b k in
                  let nr = leads-lt d products products_machine r x h.1 k in
                  let at : get_or (row_at rows i).next x 0 ≡ y = ap (λ q. get_or q.next x 0) (g.same i b) in
                  let next = member_pair y yl in
                  let same = same_class _ _ nr next.0 (alike_trans (alike_sym (alike_nexts d ms products m products_machine i r b h.1 alike x k)) (alike_sym next.1)) in
                  (omega (arith, at, yl, g.least), nr, same ∙ sym (n.known y yl) ∙ ap (λ j. get_or keys j 0) (sym at)),
            )
        | inr b ↦
            let z = g.new i (omega arith) h.0 in
            let s = z.0 in
            let alike = one_class s r z.1 h.1 (z.2 ∙ sym h.2) in
            let degree = (row_valid d products products_machine s z.1).permutes.degree in (
              h.0,
              h.1,
              z.3.perm ∙ alike_perms d products products products_machine products_machine s r z.1 h.1 alike,
              λ x k.
                  let ns = leads-lt d products products_machine s x z.1 k in
                  let nr = leads-lt d products products_machine r x h.1 k in
                  let y = z.3.nexts x (omega (arith, k, degree)) in
                  let same = same_class _ _ nr ns (alike_sym (alike_nexts d products products products_machine products_machine s r z.1 h.1 alike x k)) in
                  (omega (arith, y.0, all), nr, same ∙ sym y.1),
            )
      ]

      pub grown_alike : (i r : ℕ) → i < length rows → r < length products → get_or of r 0 ≡ get_or keys i 0 → IsAlike (row_term rows i) (row_term products r)
      grown_alike i r l k e = alike_rows d rows products grown_machine products_machine (λ j s. (j < length rows) × (s < length products) × (get_or of s 0 ≡ get_or keys j 0)) step i r (l, k, e)

      -- some product of the class of a member
      product_of : (i : ℕ) → i < length rows → (r : ℕ) × (r < length products) × (get_or of r 0 ≡ get_or keys i 0)
      product_of i l = elim (cases_lt i (length ms)) [
        | inl b ↦ (i * length qs, (member_pair i b).0, sym (n.known i b))
        | inr b ↦ used i (omega arith) (omega (arith, all))
      ]

      pub AreMembers-grown : AreMembers d qs rows
      AreMembers-grown = record {
        one =
            let some : 0 < length ms = m.least in
            let e : IsAlike (row_term rows 0) (row_term products (0 * length qs)) = grown_alike 0 (0 * length qs) (omega (arith, some, g.least)) (member_pair 0 some).0 (sym (n.known 0 some)) in
            alike_trans e (alike_trans (member_pair 0 some).1 a.one);
        unlike = λ i j l k e.
            let x = product_of i (omega arith) in
            let y = product_of j k in
            let same = same_class x.0 y.0 x.1 y.1 (alike_trans (alike_sym (grown_alike i x.0 (omega arith) x.1 x.2)) (alike_trans e (grown_alike j y.0 k y.1 y.2))) in
            let z = n.keyed.distinct i j (omega (arith, all)) (omega (arith, all)) (sym x.2 ∙ same ∙ y.2) in
            omega arith;
        members = λ i l. elim (cases_lt i (length ms)) [
          | inl b ↦
              let e = alike_trans (grown_alike i (i * length qs) l (member_pair i b).0 (sym (n.known i b))) (member_pair i b).1 in
              member_alike d (HasRow qs) (row_term ms i) (row_term rows i) (a.members i b) (alike_sym e)
          | inr b ↦
              let z = n.only i (omega arith) (omega (arith, all)) in
              member_alike d (HasRow qs) (row_term products z.0) (row_term rows i) (limit_member z.0 z.2) (alike_sym (grown_alike i z.0 l z.1 (sym z.3)))
        ];
      }

    -- ---- where nothing is new
    module _ (done : length keys ≤ length ms) where
      has_member : (r k : ℕ) → r < length products → k < length keys → get_or keys k 0 ≡ get_or of r 0 → HasRow ms (row_term products r)
      has_member r k l b e =
          let kl : k < length ms = omega arith in
          let p = member_pair k kl in
          (k, kl, alike_trans (one_class r (k * length qs) l p.0 (sym e ∙ n.known k kl)) p.1)

      limits_held : (r : ℕ) → IsLimitState d (states_of products) r → r < length products → HasRow ms (row_term products r)
      limits_held r h l =
          let c = n.has r l h in
          has_member r c.0 l c.1 (sym (get_or_default keys c.0 (get_or of r 0) 0 c.1) ∙ c.2)

      held_class : (r : ℕ) → r < length products → HasRow ms (row_term products r) → Contains keys (get_or of r 0)
      held_class r l h =
          let p = member_pair h.0 h.1 in
          contains_key h.0 (get_or of r 0) (omega (arith, h.1, n.least)) (n.known h.0 h.1 ∙ same_class (h.0 * length qs) r p.0 l (alike_trans p.1 (alike_sym h.2)))

      pub IsClosure-from : (marks : List Bool) → AreOutside of keys marks (length products) → IsClosure d qs ms products marks
      IsClosure-from marks o = record {
        sections = q;
        machine = m;
        members = a;
        table = t;
        limits = limits_held;
        count = o.count;
        inside = λ r l e. let c = o.inner r l e in has_member r c.0 l c.1 (sym (get_or_default keys c.0 (get_or of r 0) 0 c.1) ∙ c.2);
        outer = λ r l e h. o.outer r l e (held_class r l h);
      }
