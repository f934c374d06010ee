-- The tables of the rows of each class.
use Rattle.std.proofs.Common.{ℕ, suc, ◌≡◌, ◌≢◌, ◌+◌, ◌-◌, ◌*◌, ◌<◌, ◌≤◌, inl, inr, eqb, List, length, set, get_or, replicate, refl, sym, ◌∙◌, ap, subst, arith}
use Rattle.std.specs.List.{All}
use Rattle.std.proofs.lemmas.List.{get_or-set_same, get_or-set_other, length-set, length-replicate, get_or-replicate}
use Rattle.std.proofs.lemmas.List.Elements.{All-get_or, All-set, All-replicate}
use Rattle.std.proofs.lemmas.List.Sums.{sum_by-set, count_by-le-length}
use Rattle.std.proofs.lemmas.List.Folds.{sum_by-replicate}
use Rattle.std.proofs.lemmas.Bool.{cases_eq}
use Rattle.fr_classes.proofs.CleanCountLaws.{one_if, eqb-same, eqb_apart}
use Rattle.fr_classes.specs.declared.members.Members.{Members}
use Rattle.fr_classes.specs.Members.{rows_in, IsMembers}

one_same : (a b : ℕ) → a ≡ b → one_if (eqb a b) ≡ 1
one_same a b e = rw e (eqb-same b)

one_apart : (a b : ℕ) → a ≢ b → one_if (eqb a b) ≡ 0
one_apart a b n = ap one_if (eqb_apart a b n)

-- a row changes its class
rows_in-set : (j : ℕ) (of : List ℕ) (s c : ℕ) → s < length of → rows_in j (set of s c) + one_if (eqb (get_or of s 0) j) ≡ rows_in j of + one_if (eqb c j)
rows_in-set j of s c l = sum_by-set (λ x. one_if (eqb x j)) of s c 0 l

-- the class of a row has one
pub rows_in-pos : (of : List ℕ) (s : ℕ) → s < length of → 0 < rows_in (get_or of s 0) of
rows_in-pos of s l =
    let o = get_or of s 0 in
    let a = rows_in-set o of s (suc o) l in
    let b = one_same o o refl in
    let c = one_apart (suc o) o (λ e. omega arith) in
    omega (arith, a, b, c)

pub rows_in-le : (c : ℕ) (of : List ℕ) → rows_in c of ≤ length of
rows_in-le c of = count_by-le-length (λ x. eqb x c) of

pub IsMembers-start : (n : ℕ) (m : Members) → 1 ≤ n → n ≤ 65536 → m.of.items ≡ replicate n 0 → m.eldest.items ≡ replicate n 0 → m.size.items ≡ set (replicate n 0) 0 n
    → length m.next.items ≡ n → All (λ s. s < n) m.next.items → length m.before.items ≡ n → All (λ s. s < n) m.before.items → IsMembers m
IsMembers-start n m least most of eldest size next nexts before befores =
    let e : length m.of.items ≡ n = ap length of ∙ length-replicate {A = ℕ} n 0 in
    let zeros : All (λ x. x < n) (replicate {A = ℕ} n 0) = All-replicate (λ x. x < n) n 0 (omega arith) in
    let P : List ℕ → Type 0 = λ xs. All (λ x. x < n) xs in
    let Q : List ℕ → ℕ → Type 0 = λ xs k. All (λ x. x < k) xs in
    record {
      few = omega (arith, e);
      size_count = ap length size ∙ length-set (replicate n 0) 0 n ∙ length-replicate {A = ℕ} n 0 ∙ sym e;
      next_count = next ∙ sym e;
      before_count = before ∙ sym e;
      eldest_count = ap length eldest ∙ length-replicate {A = ℕ} n 0 ∙ sym e;
      classes = subst (Q m.of.items) (sym e) (subst P (sym of) zeros);
      nexts = subst (Q m.next.items) (sym e) nexts;
      befores = subst (Q m.before.items) (sym e) befores;
      eldests = subst (Q m.eldest.items) (sym e) (subst P (sym eldest) zeros);
      sizes = λ c l. ap (λ xs. get_or xs c 0) size ∙ here c (omega (arith, e)) ∙ sym (ap (rows_in c) of ∙ sum_by-replicate (λ x. one_if (eqb x c)) n 0);
    }
  where
    here : (c : ℕ) → c < n → get_or (set (replicate n 0) 0 n) c 0 ≡ n * one_if (eqb 0 c)
    here c l = elim (cases_eq c 0) [
      | inl e ↦ let one = one_same 0 c (sym e) in ap (λ i. get_or (set (replicate n 0) 0 n) i 0) e ∙ get_or-set_same (replicate n 0) 0 n 0 (omega (arith, length-replicate {A = ℕ} n 0)) ∙ rw one (omega arith)
      | inr f ↦ let none = one_apart 0 c (λ e. f (sym e)) in get_or-set_other (replicate n 0) 0 c n 0 f ∙ get_or-replicate n c 0 0 l ∙ rw none (omega arith)
    ]

-- the class of a row is one of the classes that are counted, and has a row
pub class_read : (m : Members) (s o : ℕ) → IsMembers m → s < length m.of.items → o ≡ get_or m.of.items s 0 → (o < length m.size.items) × (0 < get_or m.size.items o 0)
class_read m s o h l e =
    let k : o < length m.of.items = omega (arith, e, All-get_or (λ c. c < length m.of.items) m.of.items s 0 l h.classes) in
    (omega (arith, h.size_count), omega (arith, h.sizes o k, ap (λ x. rows_in x m.of.items) e, rows_in-pos m.of.items s l))

-- no class has too many rows for its counter
pub size-le : (m : Members) (c : ℕ) → IsMembers m → c < length m.of.items → get_or m.size.items c 0 ≤ 65536
size-le m c h l = omega (arith, h.sizes c l, rows_in-le c m.of.items, h.few)

-- a row moves from class o to class c
module _ (m m' : Members) (s o c v w : ℕ) (h : IsMembers m) (row : s < length m.of.items) (class : c < length m.of.items) (is_old : o ≡ get_or m.of.items s 0)
    (of : m'.of.items ≡ set m.of.items s c) (less : v ≡ get_or m.size.items o 0 - 1) (more : w ≡ get_or (set m.size.items o v) c 0 + 1) (size : m'.size.items ≡ set (set m.size.items o v) c w)
    (next : m'.next.items ≡ m.next.items) (before : m'.before.items ≡ m.before.items) (eldest : m'.eldest.items ≡ m.eldest.items) where
  same_count : length m'.of.items ≡ length m.of.items
  same_count = ap length of ∙ length-set m.of.items s c

  old-lt : o < length m.of.items
  old-lt = omega (arith, (class_read m s o h row is_old).0, h.size_count)

  old-pos : 0 < get_or m.size.items o 0
  old-pos = (class_read m s o h row is_old).1

  taken : (j : ℕ) → j < length m.of.items → get_or (set m.size.items o v) j 0 + one_if (eqb o j) ≡ get_or m.size.items j 0
  taken j l = elim (cases_eq j o) [
    | inl e ↦
        let one = one_same o j (sym e) in
        let here : get_or (set m.size.items o v) j 0 ≡ v = ap (λ i. get_or (set m.size.items o v) i 0) e ∙ get_or-set_same m.size.items o v 0 (omega (arith, old-lt, h.size_count)) in
        let there : get_or m.size.items j 0 ≡ get_or m.size.items o 0 = ap (λ i. get_or m.size.items i 0) e in
        omega (arith, one, here, there, less, old-pos)
    | inr f ↦
        let none = one_apart o j (λ e. f (sym e)) in
        let here = get_or-set_other m.size.items o j v 0 f in
        omega (arith, none, here)
  ]

  given : (j : ℕ) → j < length m.of.items → get_or m'.size.items j 0 ≡ get_or (set m.size.items o v) j 0 + one_if (eqb c j)
  given j l = ap (λ xs. get_or xs j 0) size ∙ elim (cases_eq j c) [
    | inl e ↦
        let one = one_same c j (sym e) in
        let here : get_or (set (set m.size.items o v) c w) j 0 ≡ w = ap (λ i. get_or (set (set m.size.items o v) c w) i 0) e ∙ get_or-set_same (set m.size.items o v) c w 0 (omega (arith, class, h.size_count, length-set m.size.items o v)) in
        let there : get_or (set m.size.items o v) j 0 ≡ get_or (set m.size.items o v) c 0 = ap (λ i. get_or (set m.size.items o v) i 0) e in
        omega (arith, one, here, there, more)
    | inr f ↦
        let none = one_apart c j (λ e. f (sym e)) in
        let here = get_or-set_other (set m.size.items o v) c j w 0 f in
        omega (arith, none, here)
  ]

  pub IsMembers-moved : IsMembers m'
  IsMembers-moved =
      let P : List ℕ → Type 0 = λ xs. All (λ x. x < length m.of.items) xs in
      let Q : List ℕ → ℕ → Type 0 = λ xs k. All (λ x. x < k) xs in
      record {
        few = omega (arith, h.few, same_count);
        size_count = ap length size ∙ length-set (set m.size.items o v) c w ∙ length-set m.size.items o v ∙ h.size_count ∙ sym same_count;
        next_count = ap length next ∙ h.next_count ∙ sym same_count;
        before_count = ap length before ∙ h.before_count ∙ sym same_count;
        eldest_count = ap length eldest ∙ h.eldest_count ∙ sym same_count;
        classes = subst (Q m'.of.items) (sym same_count) (subst P (sym of) (All-set (λ c. c < length m.of.items) m.of.items s c class h.classes));
        nexts = subst (Q m'.next.items) (sym same_count) (subst P (sym next) h.nexts);
        befores = subst (Q m'.before.items) (sym same_count) (subst P (sym before) h.befores);
        eldests = subst (Q m'.eldest.items) (sym same_count) (subst P (sym eldest) h.eldests);
        sizes = λ j l.
            let k : j < length m.of.items = omega (arith, same_count) in
            let a = rows_in-set j m.of.items s c row in
            let b = ap (rows_in j) of in
            let e = ap (λ x. one_if (eqb x j)) is_old in
            omega (arith, a, b, e, taken j k, given j k, h.sizes j k);
      }
