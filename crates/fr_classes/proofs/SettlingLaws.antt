-- Rows go to their classes, one after the other.
use Rattle.std.proofs.Common.{ℕ, ◌≡◌, ◌≢◌, ◌+◌, ◌<◌, ◌≤◌, ◌⊎◌, inl, inr, Bool, true, false, List, [], ◌∷◌, ◌++◌, length, set, get_or, Some, None, refl, sym, ◌∙◌, ap, subst, arith, eqb}
use Rattle.std.specs.List.{All, Contains, list_any}
use Rattle.std.proofs.lemmas.List.{get_or_past, get_or_default, get_or-set_same, get_or-set_other, length-set, get_or-map, length-map}
use Rattle.std.proofs.lemmas.List.Elements.{All-get_or, All-set, All-weaker, All-push, Contains-append_left, Contains-push}
use Rattle.std.proofs.lemmas.Bool.{cases_lt, cases_eq, true≢false}
use Rattle.std.proofs.lemmas.Map.Steps.{le-length_from_below}
use Rattle.fr_model.proofs.PermutationLaws.{present_at}
use Rattle.fr_machine.specs.declared.row.Row.{Row}
use Rattle.fr_classes.specs.declared.partition.Partition.{Partition}
use Rattle.fr_classes.specs.declared.signature.Signed.{Signed}
use Rattle.fr_classes.specs.declared.key_table.KeyTable.{KeyTable}
use Rattle.fr_classes.specs.KeyTables.{number_in, IsKeyTable}
use Rattle.fr_classes.specs.Refinement.{signature_at, signed_rows, work_at, clean_count, flag_at, class_in, known_at, clean_at, IsOfWork, IsPlaced, IsQueued, IsTallied, IsUsed, IsElected, IsRefining, IsTarget, IsSettled}
use Rattle.fr_classes.proofs.CleanCountLaws.{clean_count-none, clean_count-place, clean_count-pos, clean_count-some, eqb-same, eqb_apart, one_if}

-- while rows go to their classes: a dirty row still has its old class, and a clean one the class of its signature
pub record IsSettling (rows : List Row) (old : List ℕ) (classes : ℕ) (p : Partition) (seen : KeyTable) (moved : List ℕ) : Type 0 where
  pub tallied : IsTallied p
  pub count : length p.of.items ≡ length rows
  pub table : IsKeyTable seen
  pub shown : (c : ℕ) → c < length p.known.items → (r : ℕ) × (r < length rows) × (class_in p r ≡ c) × (signature_at rows old r ≡ known_at p c)
  pub least : classes ≤ length p.known.items
  pub older : (s : ℕ) → s < length rows → get_or old s 0 < classes
  pub kept : (s : ℕ) → s < length rows → flag_at p s ≡ true → class_in p s ≡ get_or old s 0
  pub settled : (s : ℕ) → s < length rows → flag_at p s ≡ false → signature_at rows old s ≡ known_at p (class_in p s)
  pub from : (s : ℕ) → s < length rows → flag_at p s ≡ false → (class_in p s ≡ get_or old s 0) ⊎ (number_in seen (get_or old s 0 ∷ signature_at rows old s) ≡ Some (class_in p s))
  pub found : (c : ℕ) (q : List ℕ) (m : ℕ) → number_in seen (c ∷ q) ≡ Some m → (classes ≤ m) × (m < length p.known.items) × (known_at p m ≡ q) × (c < classes) × (known_at p c ≢ q)
  pub changed : (s : ℕ) → s < length rows → (class_in p s ≡ get_or old s 0) ⊎ Contains moved s
  pub grows : (moved ≡ []) ⊎ (classes < length p.known.items)
  pub inside : All (λ s. s < length rows) moved
  pub todo : p.todo.items ≡ []

-- a row goes to its class
module _ (rows : List Row) (old : List ℕ) (classes : ℕ) (p t p' : Partition) (seen seen' : KeyTable) (moved : List ℕ) (s c m : ℕ) (q : List ℕ)
    (h : IsSettling rows old classes p seen moved) (below : s < length rows) (flag : flag_at p s ≡ true) (is_class : class_in p s ≡ c) (is_signature : signature_at rows old s ≡ q) (x : IsTarget p t seen seen' c q m)
    (of : p'.of.items ≡ set t.of.items s m) (dirty : p'.dirty.items ≡ set t.dirty.items s false) (clean : p'.clean.items ≡ set t.clean.items m (get_or t.clean.items m 0 + 1)) (known : p'.known.items ≡ t.known.items) (todo : p'.todo.items ≡ t.todo.items) where
  in_of : s < length p.of.items
  in_of = omega (arith, h.count)

  in_dirty : s < length p.dirty.items
  in_dirty = omega (arith, h.tallied.flags, h.count)

  old_class : c ≡ get_or old s 0
  old_class = sym is_class ∙ h.kept s below flag

  c-lt : c < classes
  c-lt = omega (arith, h.older s below, old_class)

  more : length p.known.items ≤ length t.known.items
  more = elim x.longer [ inl e ↦ omega arith | inr e ↦ omega (arith, e.1) ]

  m-lt : m < length t.known.items
  m-lt = elim x.inside [ inl e ↦ omega (arith, (h.found c q m e).1, more) | inr l ↦ l ]

  m-here : known_at t m ≡ q
  m-here = elim x.here [ inl e ↦ let f = h.found c q m e in x.kept m f.1 ∙ f.2 | inr g ↦ g ]

  of_is : p'.of.items ≡ set p.of.items s m
  of_is = of ∙ ap (λ xs. set xs s m) x.of

  dirty_is : p'.dirty.items ≡ set p.dirty.items s false
  dirty_is = dirty ∙ ap (λ xs. set xs s false) x.dirty

  class_here : class_in p' s ≡ m
  class_here = ap (λ xs. get_or xs s 0) of_is ∙ get_or-set_same p.of.items s m 0 in_of

  class_other : (r : ℕ) → r ≢ s → class_in p' r ≡ class_in p r
  class_other r n = ap (λ xs. get_or xs r 0) of_is ∙ get_or-set_other p.of.items s r m 0 n

  flag_here : flag_at p' s ≡ false
  flag_here = ap (λ xs. get_or xs s true) dirty_is ∙ get_or-set_same p.dirty.items s false true in_dirty

  flag_other : (r : ℕ) → r ≢ s → flag_at p' r ≡ flag_at p r
  flag_other r n = ap (λ xs. get_or xs r true) dirty_is ∙ get_or-set_other p.dirty.items s r false true n

  known_is : (j : ℕ) → known_at p' j ≡ known_at t j
  known_is j = ap (λ xs. get_or xs j []) known

  counts' : (j : ℕ) → j < length p'.known.items → clean_at p' j ≡ clean_count j p'.of.items p'.dirty.items
  counts' j l =
      let place = clean_count-place j m p.of.items p.dirty.items s in_of in_dirty flag in
      let now : clean_count j p'.of.items p'.dirty.items ≡ clean_count j p.of.items p.dirty.items + one_if (eqb m j) = rw (of_is, dirty_is) place in
      let before : clean_at p j ≡ clean_count j p.of.items p.dirty.items = elim (cases_lt j (length p.known.items)) [
        | inl k ↦ h.tallied.counts j k
        | inr k ↦ get_or_past p.clean.items j 0 (omega (arith, h.tallied.as_many)) ∙ sym (clean_count-none j (length p.known.items) p.of.items p.dirty.items h.tallied.below k)
      ] in
      elim (cases_eq m j) [
        | inl e ↦
            let v = ap (λ xs. get_or xs m 0) clean ∙ get_or-set_same t.clean.items m _ 0 (omega (arith, m-lt, x.as_many)) in
            let one : one_if (eqb m j) ≡ 1 = rw e (eqb-same j) in
            let w : clean_at p' j ≡ clean_at t j + 1 = rw e at v in
            omega (arith, w, x.tally j, now, one, before)
        | inr n ↦
            let v = ap (λ xs. get_or xs j 0) clean ∙ get_or-set_other t.clean.items m j _ 0 (λ e. n (sym e)) in
            let none : one_if (eqb m j) ≡ 0 = ap one_if (eqb_apart m j n) in
            omega (arith, v, x.tally j, now, none, before)
      ]

  tallied' : IsTallied p'
  tallied' = record {
    flags = ap length dirty_is ∙ length-set p.dirty.items s false ∙ h.tallied.flags ∙ sym (ap length of_is ∙ length-set p.of.items s m);
    as_many = ap length clean ∙ length-set t.clean.items m _ ∙ x.as_many ∙ sym (ap length known);
    below = rw (of_is, known) (All-set (λ c. c < length t.known.items) p.of.items s m m-lt (All-weaker (λ c. c < length p.known.items) (λ c. c < length t.known.items) (λ y l. omega (arith, more)) p.of.items h.tallied.below));
    counts = counts';
    few = omega (arith, ap length of_is, length-set p.of.items s m, h.tallied.few);
  }

  shown' : (j : ℕ) → j < length p'.known.items → (r : ℕ) × (r < length rows) × (class_in p' r ≡ j) × (signature_at rows old r ≡ known_at p' j)
  shown' j l = elim (cases_eq j m) [
    | inl e ↦ (s, below, class_here ∙ sym e, is_signature ∙ sym (known_is j ∙ ap (known_at t) e ∙ m-here))
    | inr n ↦
        let k : j < length p.known.items = elim x.longer [ inl e ↦ omega (arith, ap length known, e) | inr e ↦ omega (arith, ap length known, e.0, e.1) ] in
        let same : known_at p' j ≡ known_at p j = known_is j ∙ x.kept j k in
        let w = h.shown j k in
        elim (cases_eq w.0 s) [
          | inr o ↦ (w.0, w.1, class_other w.0 o ∙ w.2, w.3 ∙ sym same)
          | inl o ↦
              let own : j ≡ c = sym w.2 ∙ ap (class_in p) o ∙ is_class in
              elim x.named [
                | inl e ↦ absurd (n (own ∙ sym e))
                | inr e ↦ absurd (e.1 (ap (known_at p) (sym own) ∙ sym w.3 ∙ ap (signature_at rows old) o ∙ is_signature))
              ]
        ]
  ]

  found' : (c' : ℕ) (q' : List ℕ) (m' : ℕ) → number_in seen' (c' ∷ q') ≡ Some m' → (classes ≤ m') × (m' < length p'.known.items) × (known_at p' m' ≡ q') × (c' < classes) × (known_at p' c' ≢ q')
  found' c' q' m' e = elim (x.finds (c' ∷ q') m' e) [
    | inl g ↦
        let f = h.found c' q' m' g in
        let lt : c' < length p.known.items = omega (arith, f.3, h.least) in (
          f.0,
          omega (arith, f.1, more, ap length known),
          known_is m' ∙ x.kept m' f.1 ∙ f.2,
          f.3,
          (λ k. f.4 (sym (known_is c' ∙ x.kept c' lt) ∙ k)),
        )
    | inr g ↦
        let ec : c' ≡ c = cc (g.0) in
        let eq : q' ≡ q = cc (g.0) in
        let lt : c < length p.known.items = omega (arith, c-lt, h.least) in
        let apart : known_at p' c ≢ q = λ k. g.5 (sym (known_is c ∙ x.kept c lt) ∙ k) in (
          omega (arith, g.1, g.2, h.least),
          omega (arith, g.1, g.3, ap length known),
          known_is m' ∙ ap (known_at t) g.1 ∙ g.4 ∙ sym eq,
          omega (arith, ec, c-lt),
          (λ k. apart (ap (known_at p') (sym ec) ∙ k ∙ eq)),
        )
  ]

  settling : (moved' : List ℕ) → ((r : ℕ) → r < length rows → (class_in p' r ≡ get_or old r 0) ⊎ Contains moved' r) → (moved' ≡ []) ⊎ (classes < length p'.known.items) → All (λ s. s < length rows) moved' → IsSettling rows old classes p' seen' moved'
  settling moved' changed grows inside = record {
    tallied = tallied';
    count = ap length of_is ∙ length-set p.of.items s m ∙ h.count;
    table = x.table;
    shown = shown';
    least = omega (arith, h.least, more, ap length known);
    older = h.older;
    kept = λ r l f. elim (cases_eq r s) [
      | inl e ↦ absurd (true≢false (sym f ∙ ap (flag_at p') e ∙ flag_here))
      | inr n ↦ class_other r n ∙ h.kept r l (sym (flag_other r n) ∙ f)
    ];
    settled = λ r l f. elim (cases_eq r s) [
      | inl e ↦ ap (signature_at rows old) e ∙ is_signature ∙ sym (ap (λ i. known_at p' (class_in p' i)) e ∙ ap (known_at p') class_here ∙ known_is m ∙ m-here)
      | inr n ↦
          let g : flag_at p r ≡ false = sym (flag_other r n) ∙ f in
          let lt : class_in p r < length p.known.items = All-get_or (λ c. c < length p.known.items) p.of.items r 0 (omega (arith, h.count)) h.tallied.below in
          h.settled r l g ∙ sym (ap (known_at p') (class_other r n) ∙ known_is (class_in p r) ∙ x.kept (class_in p r) lt)
    ];
    from = λ r l f. elim (cases_eq r s) [
      | inl e ↦ elim x.named [
        | inl k ↦ inl (ap (class_in p') e ∙ class_here ∙ k ∙ old_class ∙ ap (λ i. get_or old i 0) (sym e))
        | inr k ↦ inr (ap (λ i. number_in seen' (get_or old i 0 ∷ signature_at rows old i)) e ∙ rw (← old_class, is_signature) k.0 ∙ ap Some (sym (ap (class_in p') e ∙ class_here)))
      ]
      | inr n ↦ elim (h.from r l (sym (flag_other r n) ∙ f)) [
        | inl k ↦ inl (class_other r n ∙ k)
        | inr k ↦ inr (x.keeps (get_or old r 0 ∷ signature_at rows old r) _ k ∙ ap Some (sym (class_other r n)))
      ]
    ];
    found = found';
    changed = changed;
    grows = grows;
    inside = inside;
    todo = todo ∙ x.todo ∙ h.todo;
  }

  pub settling_stays : m ≡ c → IsSettling rows old classes p' seen' moved
  settling_stays e = settling moved (λ r l. elim (cases_eq r s) [
    | inl k ↦ inl (ap (class_in p') k ∙ class_here ∙ e ∙ old_class ∙ ap (λ i. get_or old i 0) (sym k))
    | inr n ↦ elim (h.changed r l) [ inl k ↦ inl (class_other r n ∙ k) | inr k ↦ inr k ]
  ])
      (elim h.grows [ inl k ↦ inl k | inr k ↦ inr (omega (arith, k, more, ap length known)) ]) h.inside

  pub settling_moves : m ≢ c → IsSettling rows old classes p' seen' (moved ++ s ∷ [])
  settling_moves n = settling (moved ++ s ∷ []) (λ r l. elim (cases_eq r s) [
    | inl k ↦ inr (rw k (Contains-push moved s))
    | inr o ↦ elim (h.changed r l) [ inl k ↦ inl (class_other r o ∙ k) | inr k ↦ inr (Contains-append_left moved (s ∷ []) r k) ]
  ])
      (elim x.named [ inl k ↦ absurd (n k) | inr k ↦ let f = found' c q m k.0 in inr (omega (arith, f.0, f.1)) ]) (All-push (λ s. s < length rows) moved s h.inside below)

-- each class has a row
pub used : (rows : List Row) (old : List ℕ) (classes : ℕ) (p : Partition) (seen : KeyTable) (moved : List ℕ) → IsSettling rows old classes p seen moved → IsUsed p
used rows old classes p seen moved h c l = let w = h.shown c l in (w.0, omega (arith, w.1, h.count), get_or_default p.of.items w.0 c 0 (omega (arith, w.1, h.count)) ∙ w.2)

-- a row whose signature is not that of its class leaves room for one more
pub room : (rows : List Row) (old : List ℕ) (classes : ℕ) (p : Partition) (seen : KeyTable) (moved : List ℕ) (s : ℕ) → IsSettling rows old classes p seen moved → s < length rows → known_at p (class_in p s) ≢ signature_at rows old s → length p.known.items < 65536
room rows old classes p seen moved s h l apart =
    let n = length p.known.items in
    let in_of : s < length p.of.items = omega (arith, h.count) in
    let others = set p.of.items s n in
    let size : length others ≡ length p.of.items = length-set p.of.items s n in
    let has : (j : ℕ) → j < n + 1 → list_any (eqb j) others ≡ true = λ j k. elim (cases_lt j n) [
      | inr g ↦ let e : n ≡ j = omega arith in ap (λ i. list_any (eqb i) others) (sym (get_or-set_same p.of.items s n 0 in_of ∙ e)) ∙ present_at others s 0 (omega (arith, size))
      | inl g ↦
          let w = h.shown j g in
          let o : w.0 ≢ s = λ e. apart (ap (known_at p) (ap (class_in p) (sym e)) ∙ ap (known_at p) w.2 ∙ sym w.3 ∙ ap (signature_at rows old) e) in
          ap (λ i. list_any (eqb i) others) (sym (get_or-set_other p.of.items s w.0 n 0 o ∙ w.2)) ∙ present_at others w.0 0 (omega (arith, size, w.1, h.count))
    ] in
    let few = le-length_from_below others (n + 1) has in
    omega (arith, few, size, h.tallied.few)

-- the work on rows whose classes were chosen before
module _ (rows : List Row) (p q : Partition) (todo : List ℕ) (h : IsRefining rows p) (queued : IsQueued p todo) (e : IsElected p q (signed_rows rows p.of.items todo)) where
  abbrev work : List Signed
  work = signed_rows rows p.of.items todo

  class_same : (s : ℕ) → class_in q s ≡ class_in p s
  class_same s = ap (λ xs. get_or xs s 0) e.of

  flag_same : (s : ℕ) → flag_at q s ≡ flag_at p s
  flag_same s = ap (λ xs. get_or xs s true) e.dirty

  item_at : (k : ℕ) → k < length todo → work_at work k ≡ record { class = class_in p (get_or todo k 0); signature = signature_at rows p.of.items (get_or todo k 0); row = get_or todo k 0 }
  item_at k l = get_or-map (λ (s : ℕ). record { class = get_or p.of.items s 0; signature = signature_at rows p.of.items s; row = s }) todo k 0 (record { class = 0; signature = []; row = 0 }) l

  long : length work ≡ length todo
  long = length-map todo (λ (s : ℕ). record { class = get_or p.of.items s 0; signature = signature_at rows p.of.items s; row = s })

  class_at : (k : ℕ) → k < length todo → (r : ℕ) → get_or todo k 0 ≡ r → (work_at work k).class ≡ class_in p r
  class_at k l r e = ap (λ (x : Signed). x.class) (item_at k l) ∙ ap (class_in p) e

  below_known : (s : ℕ) → s < length rows → class_in p s < length p.known.items
  below_known s l = All-get_or (λ c. c < length p.known.items) p.of.items s 0 (omega (arith, h.count)) h.tallied.below

  clean_pos : (r : ℕ) → r < length rows → flag_at p r ≡ false → 0 < clean_at p (class_in p r)
  clean_pos r l f = omega (arith, h.tallied.counts (class_in p r) (below_known r l), clean_count-pos (class_in p r) p.of.items p.dirty.items r (omega (arith, h.count)) (omega (arith, h.count, h.tallied.flags)) f refl)

  shown_by : (c : ℕ) → IsOfWork work (length work) c (known_at q c) → (r : ℕ) × (r < length rows) × (class_in q r ≡ c) × (signature_at rows p.of.items r ≡ known_at q c)
  shown_by c w =
      let lt : w.0 < length todo = omega (arith, w.1, long) in
      let at = item_at w.0 lt in
      let r = get_or todo w.0 0 in (
        r,
        omega (arith, All-get_or (λ s. s < length p.of.items) todo w.0 0 lt queued.inside, h.count),
        class_same r ∙ sym (ap (λ (x : Signed). x.class) at) ∙ w.2,
        sym (ap (λ (x : Signed). x.signature) at) ∙ w.3,
      )

  shown_at : (c : ℕ) → c < length q.known.items → (r : ℕ) × (r < length rows) × (class_in q r ≡ c) × (signature_at rows p.of.items r ≡ known_at q c)
  shown_at c l =
      let k : c < length p.known.items = omega (arith, e.size) in
      elim (cases_lt 0 (clean_at p c)) [
        | inl g ↦
            let v = clean_count-some c p.of.items p.dirty.items (omega (arith, g, h.tallied.counts c k)) in
            let lt : v.0 < length rows = omega (arith, v.1, h.count) in
            (v.0, lt, class_same v.0 ∙ v.2, h.settled v.0 lt v.3 ∙ ap (known_at p) v.2 ∙ sym (e.kept c g))
        | inr g ↦
            let w = h.used c k in
            let lt : w.0 < length rows = omega (arith, w.1, h.count) in
            let own : class_in p w.0 ≡ c = get_or_default p.of.items w.0 0 c w.1 ∙ w.2 in
            let dirty : flag_at p w.0 ≡ true = is_dirty w.0 lt own g (flag_at p w.0) refl in
            let has = queued.queued w.0 w.1 dirty in
            let row : get_or todo has.0 0 ≡ w.0 = get_or_default todo has.0 0 w.0 has.1 ∙ has.2 in
            let class : (work_at work has.0).class ≡ c = class_at has.0 has.1 w.0 row ∙ own in
            elim (e.elected has.0 (omega (arith, has.1, long))) [
              | inl f ↦ absurd (let z = ap (clean_at p) class in omega (arith, z))
              | inr f ↦ shown_by c (let P : ℕ → Type 0 = λ i. IsOfWork work (length work) i (known_at q i) in subst P class f)
            ]
      ]
    where
      is_dirty : (r : ℕ) → r < length rows → class_in p r ≡ c → clean_at p c ≤ 0 → (b : Bool) → flag_at p r ≡ b → flag_at p r ≡ true
      is_dirty r lt own g true f = f
      is_dirty r lt own g false f = absurd (let z = ap (clean_at p) own in omega (arith, clean_pos r lt f, z))

  -- before the first row goes
  pub IsSettling-start : (seen : KeyTable) (moved : List ℕ) → p.todo.items ≡ [] → IsKeyTable seen → ((key : List ℕ) → number_in seen key ≡ None) → moved ≡ [] → IsSettling rows p.of.items (length p.known.items) q seen moved
  IsSettling-start seen moved todo table none f = record {
    tallied = record {
      flags = ap length e.dirty ∙ h.tallied.flags ∙ sym (ap length e.of);
      as_many = ap length e.clean ∙ h.tallied.as_many ∙ sym e.size;
      below = rw (e.of, e.size) h.tallied.below;
      counts = λ c l. ap (λ xs. get_or xs c 0) e.clean ∙ h.tallied.counts c (omega (arith, e.size)) ∙ sym (ap (λ xs. clean_count c xs q.dirty.items) e.of ∙ ap (clean_count c p.of.items) e.dirty);
      few = omega (arith, ap length e.of, h.tallied.few);
    };
    count = ap length e.of ∙ h.count;
    table = table;
    shown = shown_at;
    least = omega (arith, e.size);
    older = below_known;
    kept = λ s l g. class_same s;
    settled = λ s l g.
        let was : flag_at p s ≡ false = sym (flag_same s) ∙ g in
        h.settled s l was ∙ sym (ap (known_at q) (class_same s) ∙ e.kept (class_in p s) (clean_pos s l was));
    from = λ s l g. inl (class_same s);
    found = λ c r m g. absurd (let z = none (c ∷ r) in cc);
    changed = λ s l. inl (class_same s);
    grows = inl f;
    inside = rw f (λ k d l. absurd (omega arith));
    todo = e.todo ∙ todo;
  }

pub IsSettled-from : (rows : List Row) (old : List ℕ) (classes : ℕ) (p : Partition) (seen : KeyTable) (moved : List ℕ) → IsSettling rows old classes p seen moved → ((s : ℕ) → s < length rows → flag_at p s ≡ false) → IsSettled rows old classes p moved
IsSettled-from rows old classes p seen moved h clean = record {
  tallied = h.tallied;
  count = h.count;
  used = used rows old classes p seen moved h;
  least = h.least;
  clean = clean;
  settled = λ s l. h.settled s l (clean s l);
  same = λ s t a b e f. elim (h.from s a (clean s a)) [
    | inl g ↦ elim (h.from t b (clean t b)) [
      | inl k ↦ g ∙ e ∙ sym k
      | inr k ↦ absurd ((h.found _ _ _ k).4 (ap (known_at p) (sym (g ∙ e)) ∙ sym (h.settled s a (clean s a)) ∙ f))
    ]
    | inr g ↦ elim (h.from t b (clean t b)) [
      | inl k ↦ absurd ((h.found _ _ _ g).4 (ap (known_at p) (sym (k ∙ sym e)) ∙ sym (h.settled t b (clean t b)) ∙ sym f))
      | inr k ↦ let w : Some (class_in p s) ≡ Some (class_in p t) = sym g ∙ rw (e, f) k in cc
    ]
  ];
  changed = h.changed;
  grows = h.grows;
  inside = h.inside;
  todo = h.todo;
}

-- one row goes, if it is dirty
pub IsSettling-placed : (rows : List Row) (old : List ℕ) (classes : ℕ) (p p' : Partition) (seen seen' : KeyTable) (moved : List ℕ) (s : ℕ) (q : List ℕ) (b : Bool)
    → IsSettling rows old classes p seen moved → s < length rows → signature_at rows old s ≡ q → IsPlaced p p' seen seen' s q b
    → (b ≡ false → IsSettling rows old classes p' seen' moved) × (b ≡ true → IsSettling rows old classes p' seen' (moved ++ s ∷ [])) × (flag_at p' s ≡ false) × ((r : ℕ) → flag_at p r ≡ false → flag_at p' r ≡ false)
IsSettling-placed rows old classes p p' seen seen' moved s q b h l e (IsPlaced.idle f same same' stay) =
    ((λ _. rw (same, same') h), (λ g. absurd (true≢false (sym g ∙ stay))), ap (λ x. flag_at x s) same ∙ f, (λ r g. ap (λ x. flag_at x r) same ∙ g))
IsSettling-placed rows old classes p p' seen seen' moved s q b h l e (IsPlaced.goes t m f x of dirty clean known todo stays moves) = (
  (λ g. settling_stays rows old classes p t p' seen seen' moved s (class_in p s) m q h l f refl e x of dirty clean known todo (stays g)),
  (λ g. settling_moves rows old classes p t p' seen seen' moved s (class_in p s) m q h l f refl e x of dirty clean known todo (moves g)),
  flag_here rows old classes p t p' seen seen' moved s (class_in p s) m q h l f refl e x of dirty clean known todo,
  (λ r g. elim (cases_eq r s) [
    | inl k ↦ absurd (true≢false (sym f ∙ ap (flag_at p) (sym k) ∙ g))
    | inr n ↦ flag_other rows old classes p t p' seen seen' moved s (class_in p s) m q h l f refl e x of dirty clean known todo r n ∙ g
  ]),
)
