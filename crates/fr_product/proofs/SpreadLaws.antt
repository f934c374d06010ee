-- What the steps of the spreading keep.
use Rattle.std.proofs.Common.{ℕ, zero, suc, ◌≡◌, ◌≢◌, ◌+◌, ◌-◌, ◌<◌, ◌≤◌, ◌⊎◌, inl, inr, Bool, true, false, List, [], ◌∷◌, ◌++◌, length, take, drop, get_or, set, refl, sym, ◌∙◌, ap, subst, arith}
use Rattle.std.specs.List.{All}
use Rattle.std.proofs.lemmas.List.{get_or_append_left, get_or-append_right, get_or_push, length_push, get_or-set_same, get_or-set_other, length-set, get_or-drop, length-drop, length-append, take_all}
use Rattle.std.proofs.lemmas.Bool.{cases_lt, cases_eq}
use Rattle.fr_model.specs.Words.{IsWord}
use Rattle.fr_model.specs.Automata.{State, state_at, next_state, state_after, IsAutomaton, IsLimitState}
use Rattle.fr_model.proofs.AutomatonLaws.{next_state-lt}
use Rattle.fr_machine.specs.declared.row.Row.{Row}
use Rattle.fr_machine.specs.Rows.{states_of, IsRow, IsMachine}
use Rattle.fr_machine.specs.Rows.{IsLonger}
use Rattle.fr_machine.proofs.RowLaws.{IsAutomaton-states_of, length-states_of}
use Rattle.fr_product.specs.Limits.{IsIn, AreLimitRows}
use Rattle.fr_product.specs.Spreading.{AreAlone, IsSpreading, unmarked}
use Rattle.fr_product.proofs.LimitLaws.{next-in, in-next, limit_next}
use Rattle.fr_product.proofs.PeelLaws.{IsIn-push, IsIn-last, IsIn-front}
use Rattle.fr_product.proofs.AloneLaws.{limit_alone, limit_new, old_machine, old_next, old_next-lt, AreClosed-old, limit_kept, cycle_old}

unmarked-set : (bs : List Bool) (s : ℕ) → s < length bs → get_or bs s false ≡ false → unmarked (set bs s true) + 1 ≡ unmarked bs
unmarked-set [] s l e = absurd (omega arith)
unmarked-set (true ∷ bs) zero l e = absurd (cc)
unmarked-set (false ∷ bs) zero l e = omega arith
unmarked-set (b ∷ bs) (suc s) l e = omega (arith, unmarked-set bs s (omega arith) e)

IsIn-nil : (y : ℕ) → IsIn [] y → ⊥
IsIn-nil y h = omega (arith, h.inside)

IsIn-behind : (n y : ℕ) (more : List ℕ) → IsIn more y → IsIn (n ∷ more) y
IsIn-behind n y more h = record { place = suc h.place; inside = omega (arith, h.inside); is = h.is }

IsIn-cases : (n y : ℕ) (more : List ℕ) → IsIn (n ∷ more) y → (n ≡ y) ⊎ IsIn more y
IsIn-cases n y more h = at h.place h.inside h.is
  where
    at : (i : ℕ) → i < length (n ∷ more) → get_or (n ∷ more) i 0 ≡ y → (n ≡ y) ⊎ IsIn more y
    at zero l e = inl e
    at (suc i) l e = inr (record { place = i; inside = omega arith; is = e })

-- what waits and what has no mark are as many as before
pub work_same : (marks marks' : List Bool) (todo todo' : List ℕ) (n : ℕ) → n < length marks
    → ((get_or marks n false ≡ true) × (marks' ≡ marks) × (todo' ≡ todo)) ⊎ ((get_or marks n false ≡ false) × (marks' ≡ set marks n true) × (todo' ≡ todo ++ n ∷ []))
    → (length marks' ≡ length marks) × (length todo' + unmarked marks' ≡ length todo + unmarked marks)
work_same marks marks' todo todo' n l c = elim c [
  | inl a ↦ (ap length a.1, omega (arith, ap length a.2, ap unmarked a.1))
  | inr a ↦ (ap length a.1 ∙ length-set marks n true, omega (arith, ap length a.2, length_push todo n, ap unmarked a.1, unmarked-set marks n l a.0))
]

-- ---- spreading
module _ (d : ℕ) (qs : List State) (g : IsAutomaton d qs) where
  next_due : (s n : ℕ) → s < length qs → IsLimitState d qs s → IsIn (state_at qs s).next n → (n < length qs) × IsLimitState d qs n
  next_due s n l k i =
      let x = in-next d qs g s n l i in
      let L : ℕ → Type 0 = IsLimitState d qs in
      (omega (arith, x.2, next_state-lt d qs s x.0 g l), subst L x.2 (limit_next d qs g s x.0 x.1 k))

  -- the next states of the last that waits are due
  pub IsSpreading-taken : (marks : List Bool) (todo : List ℕ) (s from : ℕ) → IsSpreading d qs marks (todo ++ s ∷ []) [] from → IsSpreading d qs marks todo (state_at qs s).next from
  IsSpreading-taken marks todo s from h =
      let last = h.waits (length todo) (omega (arith, length_push todo s)) in
      let at : get_or (todo ++ s ∷ []) (length todo) 0 ≡ s = get_or_push todo s 0 (length todo) refl in
      let sl : s < length qs = omega (arith, last.0, at) in
      let marked : get_or marks s false ≡ true = ap (λ k. get_or marks k false) (sym at) ∙ last.1 in
      record {
        count = h.count;
        limits = h.limits;
        waits = λ i l.
            let o = h.waits i (omega (arith, length_push todo s)) in
            let a = get_or_append_left todo (s ∷ []) 0 i l in
            (omega (arith, o.0, a), ap (λ k. get_or marks k false) (sym a) ∙ o.1);
        due = λ n i. next_due s n sl (h.limits s sl marked) i;
        cycles = h.cycles;
        leads = λ y n l m i. elim (h.leads y n l m i) [
          | inl b ↦ inl b
          | inr v ↦ elim v [
            | inl w ↦ elim (cases_eq s y) [
              | inl t ↦ let Q : ℕ → Type 0 = λ z. IsIn (state_at qs z).next n in inr (inr (inl (subst Q (sym t) i)))
              | inr ne ↦ inr (inl (IsIn-front todo s y w ne))
            ]
            | inr w ↦ elim w [
              | inl k ↦ absurd (IsIn-nil n k)
              | inr e ↦ inr (inr (inr e))
            ]
          ]
        ];
      }

  -- those of the first that is to be looked at
  pub IsSpreading-next : (marks : List Bool) (todo : List ℕ) (s : ℕ) → s < length qs → get_or marks s false ≡ true → IsSpreading d qs marks todo [] s → IsSpreading d qs marks todo (state_at qs s).next (s + 1)
  IsSpreading-next marks todo s sl marked h = record {
    count = h.count;
    limits = h.limits;
    waits = h.waits;
    due = λ n i. next_due s n sl (h.limits s sl marked) i;
    cycles = h.cycles;
    leads = λ y n l m i. elim (h.leads y n l m i) [
      | inl b ↦ elim (cases_eq s y) [
        | inl t ↦ let Q : ℕ → Type 0 = λ z. IsIn (state_at qs z).next n in inr (inr (inl (subst Q (sym t) i)))
        | inr ne ↦ inl (omega arith)
      ]
      | inr v ↦ elim v [
        | inl w ↦ inr (inl w)
        | inr w ↦ elim w [
          | inl k ↦ absurd (IsIn-nil n k)
          | inr e ↦ inr (inr (inr e))
        ]
      ]
    ];
  }

  -- or it has no mark
  pub IsSpreading-pass : (marks : List Bool) (todo : List ℕ) (s : ℕ) → get_or marks s false ≡ false → IsSpreading d qs marks todo [] s → IsSpreading d qs marks todo [] (s + 1)
  IsSpreading-pass marks todo s none h = record {
    count = h.count;
    limits = h.limits;
    waits = h.waits;
    due = h.due;
    cycles = h.cycles;
    leads = λ y n l m i. elim (h.leads y n l m i) [
      | inl b ↦ elim (cases_eq s y) [
        | inl t ↦ absurd (let z : true ≡ false = sym m ∙ ap (λ k. get_or marks k false) (sym t) ∙ none in cc)
        | inr ne ↦ inl (omega arith)
      ]
      | inr v ↦ inr v
    ];
  }

  -- none is to be looked at
  pub IsSpreading-end : (marks : List Bool) (todo : List ℕ) (from : ℕ) → length qs ≤ from → IsSpreading d qs marks todo [] from → IsSpreading d qs marks todo [] (length qs)
  IsSpreading-end marks todo from few h = record {
    count = h.count;
    limits = h.limits;
    waits = h.waits;
    due = h.due;
    cycles = h.cycles;
    leads = λ y n l m i. elim (h.leads y n l m i) [
      | inl b ↦ absurd (omega arith)
      | inr v ↦ inr v
    ];
  }

  -- one that is due had a mark
  IsSpreading-passed : (marks : List Bool) (todo more : List ℕ) (n from : ℕ) → get_or marks n false ≡ true → IsSpreading d qs marks todo (n ∷ more) from → IsSpreading d qs marks todo more from
  IsSpreading-passed marks todo more n from e h = record {
    count = h.count;
    limits = h.limits;
    waits = h.waits;
    due = λ k i. h.due k (IsIn-behind n k more i);
    cycles = h.cycles;
    leads = λ y k l m i. elim (h.leads y k l m i) [
      | inl b ↦ inl b
      | inr v ↦ elim v [
        | inl w ↦ inr (inl w)
        | inr w ↦ elim w [
          | inl j ↦ elim (IsIn-cases n k more j) [
            | inl t ↦ inr (inr (inr (ap (λ z. get_or marks z false) (sym t) ∙ e)))
            | inr r ↦ inr (inr (inl r))
          ]
          | inr f ↦ inr (inr (inr f))
        ]
      ]
    ];
  }

  -- or gets one, and waits
  IsSpreading-set : (marks : List Bool) (todo more : List ℕ) (n from : ℕ) → IsSpreading d qs marks todo (n ∷ more) from → IsSpreading d qs (set marks n true) (todo ++ n ∷ []) more from
  IsSpreading-set marks todo more n from h =
      let new = h.due n (record { place = 0; inside = omega arith; is = refl }) in
      let here : get_or (set marks n true) n false ≡ true = get_or-set_same marks n true false (omega (arith, new.0, h.count)) in
      let other : (y : ℕ) → y ≢ n → get_or (set marks n true) y false ≡ get_or marks y false = λ y ne. get_or-set_other marks n y true false ne in
      let kept : (y : ℕ) → get_or marks y false ≡ true → get_or (set marks n true) y false ≡ true = λ y e. elim (cases_eq y n) [
        | inl t ↦ ap (λ z. get_or (set marks n true) z false) t ∙ here
        | inr ne ↦ other y ne ∙ e
      ] in
      let L : ℕ → Type 0 = IsLimitState d qs in
      let W : ℕ → Type 0 = IsIn (todo ++ n ∷ []) in
      record {
        count = length-set marks n true ∙ h.count;
        limits = λ y l m. elim (cases_eq y n) [
          | inl t ↦ subst L (sym t) new.1
          | inr ne ↦ h.limits y l (sym (other y ne) ∙ m)
        ];
        waits = λ i l. elim (cases_lt i (length todo)) [
          | inl t ↦
              let a = get_or_append_left todo (n ∷ []) 0 i t in
              let o = h.waits i t in
              (omega (arith, a, o.0), ap (λ z. get_or (set marks n true) z false) a ∙ kept (get_or todo i 0) o.1)
          | inr t ↦
              let a = get_or_push todo n 0 i (omega (arith, length_push todo n)) in
              (omega (arith, a, new.0), ap (λ z. get_or (set marks n true) z false) a ∙ here)
        ];
        due = λ k i. h.due k (IsIn-behind n k more i);
        cycles = λ r k. kept k.on (h.cycles r k);
        leads = λ y k l m i. elim (cases_eq y n) [
          | inl t ↦ inr (inl (subst W (sym t) (IsIn-last todo n)))
          | inr ne ↦ elim (h.leads y k l (sym (other y ne) ∙ m) i) [
            | inl b ↦ inl b
            | inr v ↦ elim v [
              | inl w ↦ inr (inl (IsIn-push todo n y w))
              | inr w ↦ elim w [
                | inl j ↦ elim (IsIn-cases n k more j) [
                  | inl t ↦ inr (inr (inr (ap (λ z. get_or (set marks n true) z false) (sym t) ∙ here)))
                  | inr r ↦ inr (inr (inl r))
                ]
                | inr f ↦ inr (inr (inr (kept k f)))
              ]
            ]
          ]
        ];
      }

  -- the first that is due is marked
  pub IsSpreading-marked : (marks marks' : List Bool) (todo todo' more : List ℕ) (n from : ℕ)
      → ((get_or marks n false ≡ true) × (marks' ≡ marks) × (todo' ≡ todo)) ⊎ ((get_or marks n false ≡ false) × (marks' ≡ set marks n true) × (todo' ≡ todo ++ n ∷ []))
      → IsSpreading d qs marks todo (n ∷ more) from → IsSpreading d qs marks' todo' more from
  IsSpreading-marked marks marks' todo todo' more n from c h =
      let P : List Bool → Type 0 = λ bs. IsSpreading d qs bs todo' more from in
      elim c [
        | inl a ↦ let Q : List ℕ → Type 0 = λ xs. IsSpreading d qs marks xs more from in subst P (sym a.1) (subst Q (sym a.2) (IsSpreading-passed marks todo more n from a.0 h))
        | inr a ↦ let Q : List ℕ → Type 0 = λ xs. IsSpreading d qs (set marks n true) xs more from in subst P (sym a.1) (subst Q (sym a.2) (IsSpreading-set marks todo more n from h))
      ]

  -- none waits: what is marked leads to what is marked
  marked_walk : (marks : List Bool) → IsSpreading d qs marks [] [] (length qs) → (s : ℕ) (w : List ℕ) → s < length qs → IsWord d w → get_or marks s false ≡ true → get_or marks (state_after qs s w) false ≡ true
  marked_walk marks h s [] l a e = e
  marked_walk marks h s (x ∷ w) l a e =
      let n = next_state qs s x in
      marked_walk marks h n w (next_state-lt d qs s x g l) a.1
      (elim (h.leads s n l e (next-in d qs g s x l a.0)) [
        | inl b ↦ absurd (omega arith)
        | inr v ↦ elim v [
          | inl k ↦ absurd (IsIn-nil s k)
          | inr k ↦ elim k [ inl j ↦ absurd (IsIn-nil n j) | inr f ↦ f ]
        ]
      ])

-- then the marked ones are the limit states
pub AreLimitRows-spread : (d : ℕ) (rows : List Row) (marks : List Bool) (todo : List ℕ) → IsMachine d rows → todo ≡ [] → IsSpreading d (states_of rows) marks todo [] (length rows) → AreLimitRows d rows marks
AreLimitRows-spread d rows marks todo m e h =
    let n = length-states_of rows in
    let qs = states_of rows in
    let g = IsAutomaton-states_of d rows m in
    let P : List ℕ → Type 0 = λ xs. IsSpreading d qs marks xs [] (length rows) in
    let Q : ℕ → Type 0 = IsSpreading d qs marks [] [] in
    let h' = subst Q (sym n) (subst P e h) in
    record {
      count = h.count ∙ n;
      limits = λ r l. (λ t. h.limits r (omega (arith, n)) t, λ k. ap (λ s. get_or marks s false) (sym k.reached.there) ∙ marked_walk d qs g marks h' k.on k.reached.along k.state k.reached.valid (h.cycles r k));
    }

-- ---- the marks of the first rows, and behind them those of the others alone
module _ (d : ℕ) (old rows alone : List Row) (m : IsMachine d rows) (v : All (IsRow d (length old)) old) (longer : IsLonger old rows) (some : 0 < length old) (h : AreAlone d (length old) (states_of rows) (states_of alone))
    (before new marks : List Bool) (b : AreLimitRows d old before) (a : AreLimitRows d alone new) (e : marks ≡ before ++ drop 1 new) where
  marks_count : length marks ≡ length rows
  marks_count = omega (arith, ap length e, length-append before (drop 1 new), length-drop 1 new, b.count, a.count, h.count, length-states_of rows, length-states_of alone, longer.least)

  mark_before : (y : ℕ) → y < length old → get_or marks y false ≡ get_or before y false
  mark_before y l = ap (λ bs. get_or bs y false) e ∙ get_or_append_left before (drop 1 new) false y (omega (arith, b.count))

  mark_new : (y : ℕ) → length old ≤ y → get_or marks y false ≡ get_or new (y + 1 - length old) false
  mark_new y l =
      let at : 1 + (y - length old) ≡ y + 1 - length old = omega arith in
      ap (λ bs. get_or bs y false) e ∙ get_or-append_right before (drop 1 new) (length old) y false b.count l ∙ get_or-drop 1 new (y - length old) false ∙ ap (λ i. get_or new i false) at

  new_inside : (y : ℕ) → y < length rows → y + 1 - length old < length alone
  new_inside y l = omega (arith, h.count, length-states_of rows, length-states_of alone, longer.least)

  pub IsSpreading-start : IsSpreading d (states_of rows) marks [] [] (length old)
  IsSpreading-start =
      let n = length-states_of rows in
      let qs = states_of rows in
      let g = IsAutomaton-states_of d rows m in
      let c = AreClosed-old d old rows m v longer in
      let om = old_machine d old rows m v longer some in
      let og = IsAutomaton-states_of d old om in
      record {
        count = marks_count ∙ sym n;
        limits = λ y l k. elim (cases_lt y (length old)) [
          | inl t ↦ limit_kept d old rows m v longer y ((b.limits y t).0 (sym (mark_before y t) ∙ k))
          | inr t ↦ limit_new d (length old) qs g some c (states_of alone) h y t ((a.limits (y + 1 - length old) (new_inside y (omega (arith, n)))).0 (sym (mark_new y t) ∙ k))
        ];
        waits = λ i l. absurd (omega arith);
        due = λ k i. absurd (IsIn-nil k i);
        cycles = λ r k.
            let here : IsLimitState d qs k.on = record { on = k.on; state = k.state; round = k.round; round_valid = k.round_valid; some = k.some; back = k.back; reached = record { along = []; valid = tt; there = refl } } in
            elim (cases_lt k.on (length old)) [
              | inl t ↦ mark_before k.on t ∙ (b.limits k.on t).1 (cycle_old d old rows m v longer r k t)
              | inr t ↦ mark_new k.on t ∙ (a.limits (k.on + 1 - length old) (new_inside k.on (omega (arith, k.state, n)))).1 (limit_alone d (length old) qs g some c (states_of alone) h k.on here)
            ];
        leads = λ y k l f i. elim (cases_lt y (length old)) [
          | inl t ↦
              let x = in-next d qs g y k l i in
              let at : next_state (states_of old) y x.0 ≡ k = sym (old_next d old rows m v longer y x.0 t x.1) ∙ x.2 in
              let kl : k < length old = omega (arith, at, old_next-lt d old rows m v longer y x.0 t) in
              let L : ℕ → Type 0 = IsLimitState d (states_of old) in
              let limit = subst L at (limit_next d (states_of old) og y x.0 x.1 ((b.limits y t).0 (sym (mark_before y t) ∙ f))) in
              inr (inr (inr (mark_before k kl ∙ (b.limits k kl).1 limit)))
          | inr t ↦ inl t
        ];
      }

pub IsSpreading-extended : (d d' first : ℕ) (old rows alone : List Row) → IsMachine d rows → All (IsRow d (length old)) old → IsLonger old rows → first ≡ length old → 0 < first → d' ≡ d → AreAlone d first (states_of rows) (states_of alone)
    → (before new shown marks : List Bool) → AreLimitRows d old before → AreLimitRows d' alone new → shown ≡ new → marks ≡ before ++ take (length shown - 1) (drop 1 shown) → IsSpreading d (states_of rows) marks [] [] first
IsSpreading-extended d d' first old rows alone m v longer e some same h before new shown marks b a f k =
    let behind : take (length shown - 1) (drop 1 shown) ≡ drop 1 new = take_all (length shown - 1) (drop 1 shown) (omega (arith, length-drop 1 shown)) ∙ ap (drop 1) f in
    let H : ℕ → Type 0 = λ i. AreAlone d i (states_of rows) (states_of alone) in
    let A : ℕ → Type 0 = λ i. AreLimitRows i alone new in
    let S : ℕ → Type 0 = IsSpreading d (states_of rows) marks [] [] in
    subst S (sym e) (IsSpreading-start d old rows alone m v longer (omega arith) (subst H e h) before new marks b (subst A same a) (k ∙ ap (λ bs. before ++ bs) behind))
