use Rattle.std.proofs.Common.{arith, ℕ, ◌≡◌, ◌+◌, ◌<◌, ◌⊎◌, inl, inr, List, length, get_or, refl, sym, ◌∙◌, ap, subst}
use Rattle.std.proofs.lemmas.Bool.{cases_lt, cases_eq}
use Rattle.fr_classes.specs.declared.signature.Signed.{Signed}
use Rattle.fr_classes.specs.declared.partition.Partition.{Partition}
use Rattle.fr_classes.specs.Refinement.{work_at, known_at, clean_at, lead_at, IsOfWork, IsVoted}
use Rattle.fr_classes.proofs.partition.Partition.elect.Goals as goal

wider : (work : List Signed) (n c : ℕ) (q r : List ℕ) → q ≡ r → IsOfWork work n c r → IsOfWork work (n + 1) c q
wider work n c q r e w = (w.0, omega (arith, w.1), w.2, w.3 ∙ sym e)

here : (work : List Signed) (n c : ℕ) (q : List ℕ) → c ≡ (work_at work n).class → q ≡ (work_at work n).signature → IsOfWork work (n + 1) c q
here work n c q e f = (n, omega arith, sym e, sym f)

-- a class whose signature leads has that of one of the first n rows
abbrev Led : List Signed → ℕ → Partition → Type 0
Led work n p = (k : ℕ) → k < length work → 0 < lead_at p (work_at work k).class → IsOfWork work n (work_at work k).class (known_at p (work_at work k).class)

module _ (work : List Signed) (i : ℕ) (p q : Partition) (v : IsVoted p q (work_at work i).class (work_at work i).signature) where
  -- a class that has the signature of one of the rows has it still
  more : (c : ℕ) → IsOfWork work i c (known_at p c) → IsOfWork work (i + 1) c (known_at q c)
  more c w = elim (cases_eq c (work_at work i).class) [
    | inr n ↦ wider work i c _ _ (v.others c (inl n)).0 w
    | inl e ↦ elim v.own [
      | inl f ↦ here work i c _ e (ap (known_at q) e ∙ f)
      | inr f ↦ wider work i c _ _ (ap (known_at q) e ∙ f.0 ∙ ap (known_at p) (sym e)) w
    ]
  ]

  -- the class of the row
  own : i < length work → Led work i p → (0 < clean_at p (work_at work i).class) ⊎ IsOfWork work (i + 1) (work_at work i).class (known_at q (work_at work i).class)
  own lt led = elim v.own [
    | inl f ↦ inr (here work i _ _ refl f)
    | inr f ↦ elim f.1 [ inl g ↦ inr (more _ (led i lt g)) | inr g ↦ inl g ]
  ]

  led_more : Led work i p → Led work (i + 1) q
  led_more led k lt l =
      let c = (work_at work k).class in
      elim (cases_eq c (work_at work i).class) [
        | inr n ↦ more c (led k lt (omega (arith, l, (v.others c (inl n)).1)))
        | inl e ↦ elim v.own [
          | inl f ↦ here work i c _ e (ap (known_at q) e ∙ f)
          | inr f ↦ elim f.1 [
            | inl g ↦ let s = ap (lead_at p) e in more c (led k lt (omega (arith, g, s)))
            | inr g ↦ more c (led k lt (omega (arith, l, (v.others c (inr g)).1)))
          ]
        ]
      ]

pub loop-item-preserved : goal.loop-item-preserved
loop-item-preserved c =
    let p = c.args.self.now in
    let q = c.loop-item.self in
    let r = c.vote.new.self in
    let work = c.args.work.now in
    let i = c.loop-item.item-index in
    let h = c.loop-item.invariant in
    let v = c.vote.ensures in
    let x = work_at work i in
    let clean : (j : ℕ) → clean_at q j ≡ clean_at p j = λ j. ap (λ xs. get_or xs j 0) h.clean in
    record {
      of = v.of ∙ h.of;
      clean = v.clean ∙ h.clean;
      dirty = v.dirty ∙ h.dirty;
      todo = v.todo ∙ h.todo;
      size = v.size ∙ h.size;
      leads = v.as_many ∙ h.leads;
      kept = λ j l. elim (cases_eq j x.class) [
        | inl e ↦ (v.others j (inr (let s = ap (clean_at q) e in omega (arith, l, clean j, s)))).0 ∙ h.kept j l
        | inr n ↦ (v.others j (inl n)).0 ∙ h.kept j l
      ];
      elected = λ k l. elim (cases_lt k i) [
        | inl t ↦ elim (h.elected k t) [ inl g ↦ inl g | inr w ↦ inr (more work i q r v (work_at work k).class w) ]
        | inr t ↦
            let e : i ≡ k = omega arith in
            let P : ℕ → Type 0 = λ j. (0 < clean_at p (work_at work j).class) ⊎ IsOfWork work (i + 1) (work_at work j).class (known_at r (work_at work j).class) in
            subst P e (elim (own work i q r v c.loop-item-test.true h.led) [ inl g ↦ inl (omega (arith, g, clean x.class)) | inr w ↦ inr w ])
      ];
      led = led_more work i q r v h.led;
    }

pub returns : goal.returns
returns c =
    let h = c.loop-item.invariant in
    let work = c.args.work.now in
    let n : c.loop-item.item-index ≡ length work = omega (arith, c.loop-item-test.false, c.loop-item.auto.item-index-end) in
    record {
      of = h.of;
      clean = h.clean;
      dirty = h.dirty;
      todo = h.todo;
      size = h.size;
      kept = h.kept;
      elected = λ k l. elim (h.elected k (omega (arith, l, n))) [
        | inl g ↦ inl g
        | inr w ↦ inr (w.0, omega (arith, w.1, n), w.2, w.3)
      ];
    }
