-- Classes that are numbered, and the rows of other classes.
use Rattle.std.proofs.Common.{ℕ, suc, ◌≡◌, ◌≢◌, ◌+◌, ◌*◌, ◌<◌, ◌≤◌, ◌⊎◌, inl, inr, Bool, true, false, Option, Some, None, is_some, not, List, [], ◌∷◌, ◌++◌, length, get_or, refl, sym, ◌∙◌, ap, subst, arith}
use Rattle.std.specs.Prelude.{MatchOption}
use Rattle.std.specs.List.{Contains}
use Rattle.std.proofs.lemmas.Bool.{cases_lt}
use Rattle.std.proofs.lemmas.List.{get_or_append_left, get_or_push, length_push, get_or_default}
use Rattle.fr_model.specs.Automata.{IsLimitState}
use Rattle.fr_model.specs.Terms.{IsAlike}
use Rattle.fr_machine.specs.declared.row.Row.{Row}
use Rattle.fr_machine.specs.Rows.{row_term, states_of, IsRow, IsMachine, row_at}
use Rattle.fr_classes.specs.Classes.{AreClasses}
use Rattle.fr_classes.specs.Hashes.{AreInvariant}
use Rattle.fr_machine.specs.Walks.{WalkView, IsNumbered, IsKeys, Extends}
use Rattle.fr_machine.proofs.WalkLaws.{Extends-numbered, Extends-trans}
use Rattle.fr_minimal.specs.Smallest.{IsChoice}
use Rattle.fr_product.specs.Limits.{AreLimitRows}
use Rattle.fr_nucleus.specs.Depths.{mark_at}
use Rattle.fr_nucleus.specs.Numberings.{AreOutside, IsMemberRow, AreKnown, AreNumbered, IsNumberedClass, IsFull, IsNumberingOf, IsOverfull, AreGrown}
use Rattle.fr_nucleus.proofs.ListLaws.{choice}
use Rattle.fr_machine.proofs.RowLaws.{IsRow-filled, IsMachine-rows, row_valid}
use Rattle.fr_nucleus.proofs.NextLaws.{row_at_old, row_at_new, row_zero, leads-lt}

-- one more member
pub AreKnown-more : (of : List ℕ) (members width m n key : ℕ) (w w' : WalkView) → AreKnown of w.keys members width m → m < members → ((i j : ℕ) → i < j → j < members → get_or of (i * width) 0 ≢ get_or of (j * width) 0) → key ≡ get_or of (m * width) 0 → IsNumbered w w' key 65536 n → AreKnown of w'.keys members width (m + 1)
AreKnown-more of members width m n key w w' h l apart e i = go i.keeps
  where
    go : (w'.keys ≡ w.keys) ⊎ (w'.keys ≡ w.keys ++ key ∷ []) → AreKnown of w'.keys members width (m + 1)
    go (inl same) =
        let k : n < m = omega (arith, i.below, ap length same, h.count) in
        let at : get_or w.keys n 0 ≡ key = ap (λ ks. get_or ks n 0) (sym same) ∙ i.is in
        absurd (apart n m k l (sym (h.known n k) ∙ at ∙ e))
    go (inr more) = record {
      count = omega (arith, ap length more, length_push w.keys key, h.count);
      known = λ j k. elim (cases_lt j m) [
        | inl t ↦ ap (λ ks. get_or ks j 0) more ∙ get_or_append_left w.keys (key ∷ []) 0 j (omega (arith, h.count)) ∙ h.known j t
        | inr t ↦
            let at : length w.keys ≡ j = omega (arith, h.count) in
            let same : m ≡ j = omega arith in
            ap (λ ks. get_or ks j 0) more ∙ get_or_push w.keys key 0 j at ∙ e ∙ ap (λ i. get_or of (i * width) 0) same
      ];
    }

Contains-later : (keys keys' : List ℕ) (x : ℕ) → Extends keys keys' → Contains keys x → Contains keys' x
Contains-later keys keys' x e c =
    let at : get_or keys c.0 0 ≡ x = sym (get_or_default keys c.0 x 0 c.1) ∙ c.2 in
    let k : c.0 < length keys' = omega (arith, c.1, e.0) in
    (c.0, k, get_or_default keys' c.0 x 0 k ∙ e.1 c.0 c.1 ∙ at)

-- one more row that is marked
pub AreNumbered-more : (of : List ℕ) (marks : List Bool) (old keys keys' : List ℕ) (most s : ℕ) → AreNumbered of marks old keys most s → s < length of → mark_at marks s ≡ true → IsNumberedClass keys keys' (get_or of s 0) most → AreNumbered of marks old keys' most (s + 1)
AreNumbered-more of marks old keys keys' most s h l m i =
    let e = Extends-numbered keys keys' (get_or of s 0) i.keeps in
    record {
      extends = Extends-trans old keys keys' h.extends e;
      few = i.few;
      has = λ r k f. elim (cases_lt r s) [
        | inl t ↦ Contains-later keys keys' (get_or of r 0) e (h.has r t f)
        | inr t ↦ (let at : s ≡ r = omega arith in subst (λ j. Contains keys' (get_or of j 0)) at i.has)
      ];
      only = λ k a b. elim (cases_lt k (length keys)) [
        | inl t ↦ (let r = h.only k a t in (r.0, r.1, r.2, e.1 k t ∙ r.3))
        | inr t ↦ (s, l, m, newest k (omega arith) b i.keeps)
      ];
    }
  where
    newest : (k : ℕ) → length keys ≤ k → k < length keys' → (keys' ≡ keys) ⊎ (keys' ≡ keys ++ get_or of s 0 ∷ []) → get_or keys' k 0 ≡ get_or of s 0
    newest k a b (inl same) = absurd (omega (arith, ap length same))
    newest k a b (inr more) =
        let at : length keys ≡ k = omega (arith, ap length more, length_push keys (get_or of s 0)) in
        ap (λ ks. get_or ks k 0) more ∙ get_or_push keys (get_or of s 0) 0 k at

-- one that is not
pub AreNumbered-pass : (of : List ℕ) (marks : List Bool) (old keys : List ℕ) (most s : ℕ) → AreNumbered of marks old keys most s → mark_at marks s ≡ false → AreNumbered of marks old keys most (s + 1)
AreNumbered-pass of marks old keys most s h m = record {
  extends = h.extends;
  few = h.few;
  has = λ r k f. elim (cases_lt r s) [
    | inl t ↦ h.has r t f
    | inr t ↦
        let at : s ≡ r = omega arith in
        let no : false ≡ true = sym m ∙ ap (mark_at marks) at ∙ f in
        cc
  ];
  only = h.only;
}

-- ---- rows of new members
pub first_of_class : (of firsts : List ℕ) (r class : ℕ) → IsChoice of firsts → r < length of → get_or of r 0 ≡ class → (class < length firsts) × (get_or firsts class 0 < length of) × (get_or of (get_or firsts class 0) 0 ≡ class)
first_of_class of firsts r class h l e =
    let o = h.own r l in
    subst (λ c. (c < length firsts) × (get_or firsts c 0 < length of) × (get_or of (get_or firsts c 0) 0 ≡ c)) e (o.0, o.1, o.2)

pub AreGrown-start : (of keys : List ℕ) (products old rows : List Row) → length old ≤ length keys → rows ≡ old → AreGrown of keys products old rows
AreGrown-start of keys products old rows l e = record {
  least = omega (arith, ap length e);
  within = omega (arith, ap length e);
  same = λ i k. ap (λ xs. row_at xs i) e;
  new = λ i a b. absurd (omega (arith, ap length e));
}

pub AreGrown-more : (of keys : List ℕ) (products old rows rows' : List Row) (r : ℕ) (q : Row) → AreGrown of keys products old rows → length rows < length keys → r < length products → get_or of r 0 ≡ get_or keys (length rows) 0 → IsMemberRow of keys (row_at products r) q → rows' ≡ rows ++ q ∷ [] → AreGrown of keys products old rows'
AreGrown-more of keys products old rows rows' r q h l k e p f =
    let size : length rows' ≡ suc (length rows) = omega (arith, ap length f, length_push rows q) in
    record {
      least = omega (arith, size, h.least);
      within = omega (arith, size);
      same = λ i a. row_at_old rows rows' q i f (omega (arith, h.least)) ∙ h.same i a;
      new = λ i a b. elim (cases_lt i (length rows)) [
        | inl t ↦ (let x = h.new i a t in (x.0, x.1, x.2, rw (row_at_old rows rows' q i f t) x.3))
        | inr t ↦
            let at : i ≡ length rows = omega (arith, size) in
            let new : row_at rows' i ≡ q = ap (row_at rows') at ∙ row_at_new rows rows' q f in
            (r, k, e ∙ ap (λ j. get_or keys j 0) (sym at), rw new p)
      ];
    }

module _ (d : ℕ) (of keys : List ℕ) (products old rows : List Row) (m : IsMachine d products) (o : IsMachine d old) (few : length keys ≤ 65536) (h : AreGrown of keys products old rows) (all : length keys ≤ length rows) where
  valid : (i : ℕ) → i < length rows → IsRow d (length rows) (row_at rows i)
  valid i l = elim (cases_lt i (length old)) [
    | inl t ↦
        let r = row_valid d old o i t in
        rw (h.same i t) (IsRow-filled d (length rows) (row_at old i) o.letters (omega arith) r.permutes r.width
        (λ x k. omega (arith, leads-lt d old o i x t k, h.least))
        (λ x a b. row_zero d (length old) (row_at old i) r x a b))
    | inr t ↦
        let n = h.new i (omega arith) l in
        let r = row_valid d products m n.0 n.1 in
        IsRow-filled d (length rows) (row_at rows i) o.letters (omega arith) (rw n.3.perm r.permutes) n.3.width
        (λ x k. omega (arith, (n.3.nexts x (omega (arith, k, r.permutes.degree))).0, all))
        (λ x a b. n.3.zeros x (omega (arith, a, r.permutes.degree)) b)
  ]

  pub IsMachine-grown : IsMachine d rows
  IsMachine-grown = IsMachine-rows d rows o.few o.letters (omega (arith, h.least, o.least)) (omega (arith, h.within, few)) valid

-- one more row has its mark
pub AreOutside-more : (of keys : List ℕ) (marks marks' : List Bool) (s : ℕ) (o : Option ℕ) (none : Bool) → AreOutside of keys marks s → MatchOption o (¬ Contains keys (get_or of s 0)) (λ n. (n < length keys) × (get_or keys n 0 ≡ get_or of s 0)) → is_some o ≡ not none → marks' ≡ marks ++ none ∷ [] → AreOutside of keys marks' (s + 1)
AreOutside-more of keys marks marks' s o none h p b e = record {
  count = omega (arith, ap length e, length_push marks none, h.count);
  outer = λ r l f. elim (cases_lt r s) [
    | inl t ↦ h.outer r t (sym (older r t) ∙ f)
    | inr t ↦ (let at : s ≡ r = omega arith in subst (λ i. ¬ Contains keys (get_or of i 0)) at (outer o p b (sym (newest r at) ∙ f)))
  ];
  inner = λ r l f. elim (cases_lt r s) [
    | inl t ↦ h.inner r t (sym (older r t) ∙ f)
    | inr t ↦ (let at : s ≡ r = omega arith in subst (λ i. Contains keys (get_or of i 0)) at (inner o p b (sym (newest r at) ∙ f)))
  ];
}
  where
    older : (r : ℕ) → r < s → mark_at marks' r ≡ mark_at marks r
    older r t = ap (λ ms. mark_at ms r) e ∙ get_or_append_left marks (none ∷ []) false r (omega (arith, h.count))

    newest : (r : ℕ) → s ≡ r → mark_at marks' r ≡ none
    newest r at = ap (λ ms. mark_at ms r) e ∙ get_or_push marks none false r (h.count ∙ at)

    outer : (q : Option ℕ) → MatchOption q (¬ Contains keys (get_or of s 0)) (λ n. (n < length keys) × (get_or keys n 0 ≡ get_or of s 0)) → is_some q ≡ not none → none ≡ true → ¬ Contains keys (get_or of s 0)
    outer None p b f = p
    outer (Some n) p b f = let no : true ≡ false = b ∙ ap not f in absurd cc

    inner : (q : Option ℕ) → MatchOption q (¬ Contains keys (get_or of s 0)) (λ n. (n < length keys) × (get_or keys n 0 ≡ get_or of s 0)) → is_some q ≡ not none → none ≡ false → Contains keys (get_or of s 0)
    inner None p b f = let no : false ≡ true = b ∙ ap not f in absurd cc
    inner (Some n) p b f = (n, p.0, get_or_default keys n (get_or of s 0) 0 p.0 ∙ p.1)

-- ---- the whole numbering
is_limit : (d : ℕ) (products : List Row) (marks : List Bool) → AreLimitRows d products marks → (r : ℕ) → r < length products → (mark_at marks r ≡ true → IsLimitState d (states_of products) r) × (IsLimitState d (states_of products) r → mark_at marks r ≡ true)
is_limit d products marks h r l = (λ e. (h.limits r l).0 e, λ s. (h.limits r l).1 s)

pub IsNumberingOf-from : (d : ℕ) (products : List Row) (members width most : ℕ) (of old keys : List ℕ) (marks : List Bool) → AreClasses products of → AreLimitRows d products marks → AreKnown of old members width members → AreNumbered of marks old keys most (length of) → IsKeys (length of) keys → IsNumberingOf d products members width most of keys
IsNumberingOf-from d products members width most of old keys marks c l k n v = record {
  classes = c;
  keyed = v;
  least = omega (arith, k.count, n.extends.0);
  known = λ i a. n.extends.1 i (omega (arith, k.count)) ∙ k.known i a;
  few = n.few;
  has = λ r a s. n.has r (omega (arith, c.count)) ((is_limit d products marks l r a).1 s);
  only = λ i a b. (let r = n.only i (omega (arith, k.count)) b in let rl : r.0 < length products = omega (arith, r.1, c.count) in (r.0, rl, (is_limit d products marks l r.0 rl).0 r.2, r.3));
}

-- one row more than the limit
module _ (d : ℕ) (products : List Row) (members width most : ℕ) (of old : List ℕ) (marks : List Bool) (count : length of ≡ length products) (alike : AreInvariant products of) (l : AreLimitRows d products marks) (inside : (i : ℕ) → i < members → i * width < length products) (k : AreKnown of old members width members) (f : IsFull of marks old most) where
  record Good (i s : ℕ) : Type 0 where
    within : s < length products
    either : ((m : ℕ) × (m < members) × (s ≡ m * width)) ⊎ IsLimitState d (states_of products) s
    class : get_or of s 0 ≡ get_or f.keys i 0

  good : (i : ℕ) → i < length f.keys → (s : ℕ) × Good i s
  good i a = elim (cases_lt i (length old)) [
    | inl t ↦
        let m : i < members = omega (arith, k.count) in
        (i * width, record { within = inside i m; either = inl (i, m, refl); class = sym (k.known i m) ∙ sym (f.numbered.extends.1 i t) })
    | inr t ↦
        let r = f.numbered.only i (omega arith) a in
        let rl : r.0 < length products = omega (arith, r.1, count) in
        (r.0, record { within = rl; either = inr ((is_limit d products marks l r.0 rl).0 r.2); class = sym r.3 })
  ]

  firsts : (xs : List ℕ) × (length xs ≡ length f.keys) × ((i : ℕ) → i < length f.keys → Good i (get_or xs i 0))
  firsts = choice 0 Good (length f.keys) good

  all : List ℕ
  all = firsts.0 ++ f.row ∷ []

  size : length all ≡ length f.keys + 1
  unfolding all
  size = length_push firsts.0 f.row ∙ ap (λ n. n + 1) firsts.1

  old_at : (i : ℕ) → i < length f.keys → get_or all i 0 ≡ get_or firsts.0 i 0
  unfolding all
  old_at i a = get_or_append_left firsts.0 (f.row ∷ []) 0 i (omega (arith, firsts.1))

  new_at : (i : ℕ) → i ≡ length f.keys → get_or all i 0 ≡ f.row
  unfolding all
  new_at i e = get_or_push firsts.0 f.row 0 i (firsts.1 ∙ sym e)

  row_in : f.row < length products
  row_in = omega (arith, f.inside, count)

  what : (i : ℕ) → i < length f.keys + 1 → (get_or all i 0 < length products) × (((m : ℕ) × (m < members) × (get_or all i 0 ≡ m * width)) ⊎ IsLimitState d (states_of products) (get_or all i 0))
  what i a = elim (cases_lt i (length f.keys)) [
    | inl t ↦ (let g = firsts.2 i t in rw (old_at i t) (g.within, g.either))
    | inr t ↦ rw (new_at i (omega arith)) (row_in, inr ((is_limit d products marks l f.row row_in).0 f.marked))
  ]

  class_at : (i : ℕ) → i < length f.keys → get_or of (get_or all i 0) 0 ≡ get_or f.keys i 0
  class_at i a = ap (λ s. get_or of s 0) (old_at i a) ∙ (firsts.2 i a).class

  clash : (i j : ℕ) → i < j → j < length f.keys + 1 → IsAlike (row_term products (get_or all i 0)) (row_term products (get_or all j 0)) → ⊥
  clash i j a b e =
      let il : i < length f.keys = omega arith in
      let same : get_or of (get_or all i 0) 0 ≡ get_or of (get_or all j 0) 0 = alike (get_or all i 0) (get_or all j 0) (what i (omega arith)).0 (what j b).0 e in
      elim (cases_lt j (length f.keys)) [
        | inl t ↦ (let z = f.valid.distinct i j il t (sym (class_at i il) ∙ same ∙ class_at j t) in omega (arith, z))
        | inr t ↦
            let key : get_or f.keys i 0 ≡ get_or of f.row 0 = sym (class_at i il) ∙ same ∙ ap (λ s. get_or of s 0) (new_at j (omega arith)) in
            f.fresh (i, il, get_or_default f.keys i (get_or of f.row 0) 0 il ∙ key)
      ]

  pub IsOverfull-from : IsOverfull d products members width most
  IsOverfull-from = record {
    rows = all;
    more = omega (arith, size, f.full);
    apart = λ i j a b e. clash i j a (omega (arith, b, size)) e;
    either = λ i a. what i (omega (arith, a, size));
  }

-- more limit rows than the limit
pub IsOverfull-limits : (d : ℕ) (products : List Row) (members width most : ℕ) → IsOverfull d products 0 1 most → IsOverfull d products members width most
IsOverfull-limits d products members width most h = record {
  rows = h.rows;
  more = h.more;
  apart = h.apart;
  either = λ i a. let e = h.either i a in (e.0, elim e.1 [ inl m ↦ absurd (omega (arith, m.1)) | inr x ↦ inr x ]);
}

-- the row of the class that comes next
pub next_first : (of firsts keys' keys : List ℕ) (i len first : ℕ) → IsChoice of firsts → keys' ≡ keys → len ≡ i → first ≡ get_or firsts (get_or keys' len 0) first → (r : ℕ) → r < length of → get_or of r 0 ≡ get_or keys i 0 → (first < length of) × (get_or of first 0 ≡ get_or keys i 0)
next_first of firsts keys' keys i len first c k n f r l s =
    let class : get_or keys' len 0 ≡ get_or keys i 0 = ap (λ ks. get_or ks len 0) k ∙ ap (λ j. get_or keys j 0) n in
    let o = first_of_class of firsts r (get_or keys i 0) c l s in
    let same : first ≡ get_or firsts (get_or keys i 0) 0 = f ∙ ap (λ j. get_or firsts j first) class ∙ get_or_default firsts (get_or keys i 0) first 0 o.0 in
    (omega (arith, same, o.1), ap (λ j. get_or of j 0) same ∙ o.2)

-- a row of a machine, as it was read
pub row_of_machine : (d : ℕ) (rows rows' : List Row) (s n : ℕ) (r : Row) → IsMachine d rows → rows' ≡ rows → s < length rows → r ≡ get_or rows' s r → n ≡ length rows → (r ≡ row_at rows s) × IsRow (length r.perm) n r × (length r.perm ≡ d)
row_of_machine d rows rows' s n r m e l f k =
    let here : r ≡ row_at rows s = f ∙ ap (λ xs. get_or xs s r) e ∙ get_or_default rows s r (record { perm = []; next = [] }) l in
    let v : IsRow d (length rows) r = subst (IsRow d (length rows)) (sym here) (row_valid d rows m s l) in
    let size : length r.perm ≡ d = v.permutes.degree in
    (here, subst (λ a. IsRow a n r) (sym size) (subst (λ a. IsRow d a r) (sym k) v), size)

pub next_known : (of keys : List ℕ) (products : List Row) (r : Row) (s x : ℕ) → r ≡ row_at products s → Contains keys (get_or of (get_or (row_at products s).next x 0) 0) → Contains keys (get_or of (get_or r.next x 0) 0)
next_known of keys products r s x here c =
    let G : Row → Type 0 = λ q. Contains keys (get_or of (get_or q.next x 0) 0) in
    subst G (sym here) c
