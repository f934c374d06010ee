-- More rows become dirty.
use Rattle.std.proofs.Common.{ℕ, ◌≡◌, ◌+◌, ◌-◌, ◌<◌, ◌≤◌, inl, inr, true, false, List, [], ◌∷◌, ◌++◌, length, take, set, get_or, refl, sym, ◌∙◌, ap, arith, eqb}
use Rattle.std.proofs.lemmas.List.{length_push, get_or_past, get_or-set_same, get_or-set_other, length-set, set-get_or, length-take-le, get_or-take}
use Rattle.std.proofs.lemmas.List.Elements.{All-get_or, All-weaker, All-push, Contains-append_left, Contains-push}
use Rattle.std.proofs.lemmas.Bool.{cases_lt, cases_eq}
use Rattle.fr_classes.specs.declared.partition.Partition.{Partition}
use Rattle.fr_classes.specs.Refinement.{clean_count, flag_at, class_in, clean_at, IsMarked, IsWider, IsSpread, IsSpreadOver, IsTallied, IsQueued, IsUsed}
use Rattle.fr_classes.proofs.CleanCountLaws.{clean_count-le, clean_count-mark, clean_count-pos, eqb-same, eqb_apart, one_if}

-- a row that is dirty already, and one that was clean
pub IsMarked-before : (p : Partition) (s : ℕ) → IsTallied p → IsQueued p p.todo.items → flag_at p s ≡ true → IsMarked p p s
IsMarked-before p s t q f = record {
  of = refl;
  known = refl;
  dirty = sym (ap (set p.dirty.items s) (sym f) ∙ set-get_or p.dirty.items s true);
  tallied = t;
  queued = q;
  longer = omega arith;
}

pub IsMarked-now : (p p' : Partition) (s : ℕ) → IsTallied p → IsQueued p p.todo.items → s < length p.of.items → flag_at p s ≡ false → p'.of.items ≡ p.of.items → p'.known.items ≡ p.known.items → p'.dirty.items ≡ set p.dirty.items s true
    → p'.clean.items ≡ set p.clean.items (class_in p s) (clean_at p (class_in p s) - 1) → p'.todo.items ≡ p.todo.items ++ s ∷ [] → IsMarked p p' s
IsMarked-now p p' s t q l f of known dirty clean todo =
    let c = class_in p s in
    let lt : c < length p.known.items = All-get_or (λ c. c < length p.known.items) p.of.items s 0 l t.below in
    let counts' : (j : ℕ) → j < length p'.known.items → clean_at p' j ≡ clean_count j p'.of.items p'.dirty.items = λ j k.
    (
    let mark = clean_count-mark j p.of.items p.dirty.items s l (omega (arith, t.flags)) f in
    let now : clean_count j p'.of.items p'.dirty.items + one_if (eqb c j) ≡ clean_count j p.of.items p.dirty.items = rw (of, dirty) mark in
    let before = t.counts j (omega (arith, ap length known)) in
    elim (cases_eq c j) [
      | inl e ↦
          let v = ap (λ xs. get_or xs c 0) clean ∙ get_or-set_same p.clean.items c _ 0 (omega (arith, lt, t.as_many)) in
          let one : one_if (eqb c j) ≡ 1 = rw e (eqb-same j) in
          let w : clean_at p' j ≡ clean_at p j - 1 = rw e at v in
          omega (arith, w, now, one, before)
      | inr n ↦
          let v = ap (λ xs. get_or xs j 0) clean ∙ get_or-set_other p.clean.items c j _ 0 (λ e. n (sym e)) in
          let none : one_if (eqb c j) ≡ 0 = ap one_if (eqb_apart c j n) in
          omega (arith, v, now, none, before)
    ]
    ) in
    record {
      of = of;
      known = known;
      dirty = dirty;
      tallied = record {
        flags = ap length dirty ∙ length-set p.dirty.items s true ∙ t.flags ∙ sym (ap length of);
        as_many = ap length clean ∙ length-set p.clean.items c _ ∙ t.as_many ∙ sym (ap length known);
        below = rw (of, known) t.below;
        counts = counts';
        few = omega (arith, ap length of, t.few);
      };
      queued = record {
        inside = rw (of, todo) (All-push (λ s. s < length p.of.items) p.todo.items s q.inside l);
        queued = λ r k g. rw todo (elim (cases_eq r s) [
          | inl e ↦ rw e (Contains-push p.todo.items s)
          | inr n ↦ Contains-append_left p.todo.items (s ∷ []) r (q.queued r (omega (arith, ap length of)) (sym (ap (λ xs. get_or xs r true) dirty ∙ get_or-set_other p.dirty.items s r true true n) ∙ g))
        ]);
      };
      longer = omega (arith, ap length todo, length_push p.todo.items s);
    }

-- classes keep their rows
pub IsUsed-wider : (p q : Partition) → IsWider p q → IsUsed p → IsUsed q
IsUsed-wider p q w u = rw (w.of, w.known) u

-- the count of clean rows is small
pub clean_at-le : (p : Partition) (c : ℕ) → IsTallied p → c < length p.known.items → clean_at p c ≤ 65536
clean_at-le p c t l = omega (arith, t.counts c l, clean_count-le c p.of.items p.dirty.items, t.few)

pub IsWider-marked : (p p' : Partition) (s : ℕ) → IsMarked p p' s → IsWider p p'
IsWider-marked p p' s h = record {
  of = h.of;
  known = h.known;
  tallied = h.tallied;
  queued = h.queued;
  keeps = λ r f. elim (cases_eq r s) [
    | inl e ↦ elim (cases_lt s (length p.dirty.items)) [
      | inl l ↦ rw e (ap (λ xs. get_or xs s true) h.dirty ∙ get_or-set_same p.dirty.items s true true l)
      | inr g ↦ rw e (get_or_past p'.dirty.items s true (omega (arith, ap length h.dirty, length-set p.dirty.items s true)))
    ]
    | inr n ↦ ap (λ xs. get_or xs r true) h.dirty ∙ get_or-set_other p.dirty.items s r true true n ∙ f
  ];
  longer = h.longer;
}

pub one_clean : (p : Partition) (s : ℕ) → IsTallied p → s < length p.of.items → flag_at p s ≡ false → 0 < clean_at p (class_in p s)
one_clean p s t l f =
    let lt : class_in p s < length p.known.items = All-get_or (λ c. c < length p.known.items) p.of.items s 0 l t.below in
    omega (arith, t.counts (class_in p s) lt, clean_count-pos (class_in p s) p.of.items p.dirty.items s l (omega (arith, t.flags)) f refl)

-- one row more is dirty
pub IsSpread-more : (p q r : Partition) (rows : List ℕ) (s : ℕ) → IsSpread p q rows → IsMarked q r s → s < length q.of.items → IsSpread p r (rows ++ s ∷ [])
IsSpread-more p q r rows s h m l =
    let w = IsWider-marked q r s m in
    record {
      of = m.of ∙ h.of;
      known = m.known ∙ h.known;
      tallied = m.tallied;
      queued = m.queued;
      keeps = λ i f. w.keeps i (h.keeps i f);
      marked = All-push (λ i. flag_at r i ≡ true) rows s (All-weaker (λ i. flag_at q i ≡ true) (λ i. flag_at r i ≡ true) w.keeps rows h.marked) (ap (λ xs. get_or xs s true) m.dirty ∙ get_or-set_same q.dirty.items s true true (omega (arith, h.tallied.flags)));
      none = λ e. absurd (omega (arith, ap length e, length_push rows s));
    }

pub IsSpreadOver-more : (p p1 p2 : Partition) (before : List (List ℕ)) (moved rows : List ℕ) (i : ℕ) → IsSpreadOver p p1 before (take i moved) → IsSpread p1 p2 rows → rows ≡ get_or before (get_or moved i 0) [] → i < length moved → IsSpreadOver p p2 before (take (i + 1) moved)
IsSpreadOver-more p p1 p2 before moved rows i h x e l =
    let size = length-take-le i moved (omega arith) in
    let size' = length-take-le (i + 1) moved (omega arith) in
    record {
      of = x.of ∙ h.of;
      known = x.known ∙ h.known;
      tallied = x.tallied;
      queued = x.queued;
      marked = λ k g. elim (cases_lt k i) [
        | inl a ↦
            let same : get_or (take (i + 1) moved) k 0 ≡ get_or (take i moved) k 0 = get_or-take (i + 1) moved k 0 (omega arith) ∙ sym (get_or-take i moved k 0 a) in
            rw same (All-weaker (λ s. flag_at p1 s ≡ true) (λ s. flag_at p2 s ≡ true) x.keeps _ (h.marked k (omega arith)))
        | inr b ↦
            let at : k ≡ i = omega arith in
            let same : get_or (take (i + 1) moved) k 0 ≡ get_or moved i 0 = get_or-take (i + 1) moved k 0 (omega arith) ∙ ap (λ j. get_or moved j 0) at in
            rw (same, ← e) x.marked
      ];
      none = λ g. absurd (omega (arith, ap length g));
    }
