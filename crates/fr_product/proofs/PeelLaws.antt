-- What the steps of the peeling keep.
use Rattle.std.proofs.Common.{ℕ, zero, suc, ◌≡◌, ◌≢◌, ◌+◌, ◌-◌, ◌*◌, ◌<◌, ◌≤◌, ◌⊎◌, inl, inr, Bool, true, false, List, [], ◌∷◌, ◌++◌, length, get_or, set, replicate, take, drop, refl, sym, ◌∙◌, ap, subst, arith}
use Rattle.std.proofs.lemmas.List.{get_or_append_left, get_or_push, length_push, get_or-set_same, get_or-set_other, length-set, get_or-replicate, length-replicate, take_more, drop_more, get_or-take, length-take, length-take-le}
use Rattle.std.proofs.lemmas.List.Sums.{sum_by-append}
use Rattle.std.proofs.lemmas.Bool.{cases_lt, cases_eq}
use Rattle.std.specs.List.{All}
use Rattle.fr_model.specs.Automata.{State, state_at, IsAutomaton, IsLimitState}
use Rattle.fr_machine.specs.declared.row.Row.{Row}
use Rattle.fr_machine.specs.Rows.{state_of, states_of, IsRow, IsMachine}
use Rattle.fr_machine.proofs.RowLaws.{IsAutomaton-states_of, length-states_of}
use Rattle.fr_product.specs.Limits.{times, arrivals_from, arriving, IsIn, AreApart, AreUnreached, IsPeeling, AreLimitRows}
use Rattle.fr_product.proofs.LimitLaws.{times-here, times-other, times-le, times-append, arriving-set, arriving-all, peeled, remaining}

-- ---- counting
pub arrivals_from-push : (y : ℕ) (rows : List Row) (r : Row) → arrivals_from y (rows ++ r ∷ []) ≡ arrivals_from y rows + times y (state_of r).next
arrivals_from-push y rows r = sum_by-append (λ q. times y (state_of q).next) rows (r ∷ []) ∙ omega arith

-- each row has eight entries at most
pub arrivals_from-le : (y : ℕ) (rows : List Row) (i : ℕ) → All (λ r. length r.next ≡ 8) rows → i ≤ length rows → arrivals_from y (take i rows) ≤ 8 * i
arrivals_from-le y rows zero h l = omega arith
arrivals_from-le y rows (suc i) h l =
    let none : Row = record { perm = []; next = [] } in
    let r = get_or rows i none in
    let one : suc i ≡ i + 1 = omega arith in
    let split : arrivals_from y (take (suc i) rows) ≡ arrivals_from y (take i rows) + times y (state_of r).next = ap (λ k. arrivals_from y (take k rows)) one ∙ ap (arrivals_from y) (take_more rows i none (omega arith)) ∙ arrivals_from-push y (take i rows) r in
    omega (arith, split, arrivals_from-le y rows i h (omega arith), times-le y (state_of r).next, length-take (length r.perm) r.next, h i none (omega arith))

-- one more next row is counted
pub counted_more : (y n x : ℕ) (old now now' nexts : List ℕ) → n < length now → x < length nexts → n ≡ get_or nexts x 0 → now' ≡ set now n (get_or now n 0 + 1) → get_or now y 0 ≡ get_or old y 0 + times y (take x nexts) → get_or now' y 0 ≡ get_or old y 0 + times y (take (x + 1) nexts)
counted_more y n x old now now' nexts l k e f h =
    let next : times y (take (x + 1) nexts) ≡ times y (take x nexts) + times y (n ∷ []) = ap (times y) (take_more nexts x 0 k) ∙ ap (λ z. times y (take x nexts ++ z ∷ [])) (sym e) ∙ times-append y (take x nexts) (n ∷ []) in
    elim (cases_eq n y) [
      | inl t ↦
          let here : get_or now' y 0 ≡ get_or now n 0 + 1 = ap (λ xs. get_or xs y 0) f ∙ ap (λ z. get_or (set now n (get_or now n 0 + 1)) z 0) (sym t) ∙ get_or-set_same now n (get_or now n 0 + 1) 0 l in
          omega (arith, here, next, h, times-here y n [] t, ap (λ z. get_or now z 0) t)
      | inr t ↦
          let here : get_or now' y 0 ≡ get_or now y 0 = ap (λ xs. get_or xs y 0) f ∙ get_or-set_other now n y (get_or now n 0 + 1) 0 (λ s. t (sym s)) in
          omega (arith, here, next, h, times-other y n [] t)
    ]

-- the next rows from a letter on
pub next_rows-split : (d n x : ℕ) (r : Row) → IsRow d n r → d ≤ 8 → x < length r.perm → drop x (state_of r).next ≡ get_or r.next x 0 ∷ drop (x + 1) (state_of r).next
next_rows-split d n x r h few l =
    let size : length (take (length r.perm) r.next) ≡ length r.perm = length-take-le (length r.perm) r.next (omega (arith, h.width, h.permutes.degree)) in
    drop_more (take (length r.perm) r.next) x 0 (omega (arith, size)) ∙ ap (λ k. k ∷ drop (x + 1) (take (length r.perm) r.next)) (get_or-take (length r.perm) r.next x 0 l)

-- ---- rows to which none leads
pub IsIn-push : (xs : List ℕ) (x y : ℕ) → IsIn xs y → IsIn (xs ++ x ∷ []) y
IsIn-push xs x y h = record { place = h.place; inside = omega (arith, h.inside, length_push xs x); is = get_or_append_left xs (x ∷ []) 0 h.place h.inside ∙ h.is }

pub IsIn-last : (xs : List ℕ) (x : ℕ) → IsIn (xs ++ x ∷ []) x
IsIn-last xs x = record { place = length xs; inside = omega (arith, length_push xs x); is = get_or_push xs x 0 (length xs) refl }

-- all but the last
pub IsIn-front : (xs : List ℕ) (x y : ℕ) → IsIn (xs ++ x ∷ []) y → x ≢ y → IsIn xs y
IsIn-front xs x y h n = elim (cases_lt h.place (length xs)) [
  | inl l ↦ record { place = h.place; inside = l; is = sym (get_or_append_left xs (x ∷ []) 0 h.place l) ∙ h.is }
  | inr g ↦ let at : length xs ≡ h.place = omega (arith, h.inside, length_push xs x) in absurd (n (sym (get_or_push xs x 0 h.place at) ∙ h.is))
]

AreApart-front : (xs : List ℕ) (x : ℕ) → AreApart (xs ++ x ∷ []) → AreApart xs
AreApart-front xs x h i j l k e = h i j l (omega (arith, length_push xs x)) (get_or_append_left xs (x ∷ []) 0 i (omega arith) ∙ e ∙ sym (get_or_append_left xs (x ∷ []) 0 j k))

last_apart : (xs : List ℕ) (x i : ℕ) → AreApart (xs ++ x ∷ []) → i < length xs → get_or xs i 0 ≢ x
last_apart xs x i h l e = h i (length xs) l (omega (arith, length_push xs x)) (get_or_append_left xs (x ∷ []) 0 i l ∙ e ∙ sym (get_or_push xs x 0 (length xs) refl))

AreApart-push : (xs : List ℕ) (x : ℕ) → AreApart xs → ((i : ℕ) → i < length xs → get_or xs i 0 ≢ x) → AreApart (xs ++ x ∷ [])
AreApart-push xs x h n i j l k e =
    let il : i < length xs = omega (arith, length_push xs x) in
    let left = get_or_append_left xs (x ∷ []) 0 i il in
    elim (cases_lt j (length xs)) [
      | inl t ↦ h i j l t (sym left ∙ e ∙ get_or_append_left xs (x ∷ []) 0 j t)
      | inr t ↦ n i il (sym left ∙ e ∙ get_or_push xs x 0 j (omega (arith, length_push xs x)))
    ]

-- the rows so far
pub record IsUnreachedPart (arrivals todo : List ℕ) (s : ℕ) : Type 0 where
  pub whole : (y : ℕ) → y < s → get_or arrivals y 0 ≡ 0 → IsIn todo y
  pub sound : (i : ℕ) → i < length todo → (get_or todo i 0 < s) × (get_or arrivals (get_or todo i 0) 0 ≡ 0)
  pub apart : AreApart todo

pub IsUnreachedPart-start : (arrivals todo : List ℕ) → todo ≡ [] → IsUnreachedPart arrivals todo 0
IsUnreachedPart-start arrivals todo e = record { whole = λ y l. absurd (omega arith); sound = λ i l. absurd (omega (arith, ap length e)); apart = λ i j l k. absurd (omega (arith, ap length e)) }

pub IsUnreachedPart-push : (arrivals todo todo' : List ℕ) (s : ℕ) → IsUnreachedPart arrivals todo s → get_or arrivals s 0 ≡ 0 → todo' ≡ todo ++ s ∷ [] → IsUnreachedPart arrivals todo' (s + 1)
IsUnreachedPart-push arrivals todo todo' s h z e =
    let P : List ℕ → Type 0 = λ xs. IsUnreachedPart arrivals xs (s + 1) in
    subst P (sym e) (record {
      whole = λ y l k. elim (cases_lt y s) [
        | inl t ↦ IsIn-push todo s y (h.whole y t k)
        | inr t ↦ let same : s ≡ y = omega arith in let Q : ℕ → Type 0 = IsIn (todo ++ s ∷ []) in subst Q same (IsIn-last todo s)
      ];
      sound = λ i l. elim (cases_lt i (length todo)) [
        | inl t ↦ let a = get_or_append_left todo (s ∷ []) 0 i t in let o = h.sound i t in (omega (arith, a, o.0), ap (λ q. get_or arrivals q 0) a ∙ o.1)
        | inr t ↦ let a = get_or_push todo s 0 i (omega (arith, length_push todo s)) in (omega (arith, a), ap (λ q. get_or arrivals q 0) a ∙ z)
      ];
      apart = AreApart-push todo s h.apart (λ i l f. omega (arith, (h.sound i l).0));
    })

pub IsUnreachedPart-pass : (arrivals todo : List ℕ) (s : ℕ) → IsUnreachedPart arrivals todo s → get_or arrivals s 0 ≢ 0 → IsUnreachedPart arrivals todo (s + 1)
IsUnreachedPart-pass arrivals todo s h n = record {
  whole = λ y l k. elim (cases_lt y s) [
    | inl t ↦ h.whole y t k
    | inr t ↦ let same : s ≡ y = omega arith in absurd (n (ap (λ q. get_or arrivals q 0) same ∙ k))
  ];
  sound = λ i l. let o = h.sound i l in (omega (arith, o.0), o.1);
  apart = h.apart;
}

pub AreUnreached-from : (arrivals todo : List ℕ) (s : ℕ) → IsUnreachedPart arrivals todo s → length arrivals ≤ s → s ≤ length arrivals → AreUnreached arrivals todo
AreUnreached-from arrivals todo s h l k = record { whole = λ y m. h.whole y (omega arith); sound = λ i m. let o = h.sound i m in (omega (arith, o.0), o.1); apart = h.apart }

-- ---- peeling
module _ (d : ℕ) (qs : List State) (g : IsAutomaton d qs) where
  -- the last row to be peeled is taken away
  pub IsPeeling-taken : (remains remains' : List Bool) (arrivals todo : List ℕ) (s : ℕ) → remains' ≡ set remains s false → IsPeeling d qs remains arrivals (todo ++ s ∷ []) [] → IsPeeling d qs remains' arrivals todo (state_at qs s).next
  IsPeeling-taken remains remains' arrivals todo s e h =
      let last = h.sound (length todo) (omega (arith, length_push todo s)) in
      let at : get_or (todo ++ s ∷ []) (length todo) 0 ≡ s = get_or_push todo s 0 (length todo) refl in
      let sl : s < length qs = omega (arith, last.0, at) in
      let marked : get_or remains s false ≡ true = ap (λ k. get_or remains k false) (sym at) ∙ last.1 in
      let none : get_or arrivals s 0 ≡ 0 = ap (λ k. get_or arrivals k 0) (sym at) ∙ last.2 in
      let here : get_or (set remains s false) s false ≡ false = get_or-set_same remains s false false (omega (arith, h.marks)) in
      let other : (y : ℕ) → y ≢ s → get_or (set remains s false) y false ≡ get_or remains y false = λ y n. get_or-set_other remains s y false false n in
      let P : List Bool → Type 0 = λ bs. IsPeeling d qs bs arrivals todo (state_at qs s).next in
      subst P (sym e) (record {
        marks = length-set remains s false ∙ h.marks;
        size = h.size;
        counts = λ y l. omega (arith, h.counts y l, arriving-set qs remains s y sl h.marks marked);
        whole = λ y l m z. elim (cases_eq y s) [
          | inl t ↦ absurd (let f : true ≡ false = sym m ∙ ap (λ k. get_or (set remains s false) k false) t ∙ here in cc)
          | inr n ↦ IsIn-front todo s y (h.whole y l (sym (other y n) ∙ m) z) (λ f. n (sym f))
        ];
        sound = λ i l.
            let o = h.sound i (omega (arith, length_push todo s)) in
            let a = get_or_append_left todo (s ∷ []) 0 i l in (
              omega (arith, o.0, a),
              other (get_or todo i 0) (last_apart todo s i h.apart l) ∙ ap (λ k. get_or remains k false) (sym a) ∙ o.1,
              ap (λ k. get_or arrivals k 0) (sym a) ∙ o.2,
            );
        apart = AreApart-front todo s h.apart;
        gone = λ y l f. elim (cases_eq y s) [
          | inl t ↦
              let Q : ℕ → Type 0 = λ k. (get_or arrivals k 0 ≡ 0) × ¬ IsLimitState d qs k in
              subst Q (sym t) (none, peeled d qs g remains s h.marks (omega (arith, h.counts s sl, none)) (λ q ql k. (h.gone q ql k).1))
          | inr n ↦ h.gone y l (sym (other y n) ∙ f)
        ];
      })

  -- one of its next rows counts no more
  pub IsPeeling-left : (remains : List Bool) (arrivals arrivals' todo todo' more : List ℕ) (n : ℕ) → n < length qs → arrivals' ≡ set arrivals n (get_or arrivals n 0 - 1)
      → ((get_or arrivals n 0 ≡ 1) × (todo' ≡ todo ++ n ∷ [])) ⊎ ((1 < get_or arrivals n 0) × (todo' ≡ todo)) → IsPeeling d qs remains arrivals todo (n ∷ more) → IsPeeling d qs remains arrivals' todo' more
  IsPeeling-left remains arrivals arrivals' todo todo' more n l e c h =
      let counted = h.counts n l in
      let some : 0 < get_or arrivals n 0 = omega (arith, counted, times-here n n more refl) in
      let here : get_or arrivals' n 0 ≡ get_or arrivals n 0 - 1 = ap (λ xs. get_or xs n 0) e ∙ get_or-set_same arrivals n (get_or arrivals n 0 - 1) 0 (omega (arith, h.size)) in
      let other : (y : ℕ) → y ≢ n → get_or arrivals' y 0 ≡ get_or arrivals y 0 = λ y ne. ap (λ xs. get_or xs y 0) e ∙ get_or-set_other arrivals n y (get_or arrivals n 0 - 1) 0 ne in
      let counts : (y : ℕ) → y < length qs → get_or arrivals' y 0 ≡ arriving qs remains y + times y more = λ y k. elim (cases_eq y n) [
        | inl t ↦
            let Q : ℕ → Type 0 = λ z. get_or arrivals' z 0 ≡ arriving qs remains z + times z more in
            subst Q (sym t) (omega (arith, here, counted, times-here n n more refl))
        | inr ne ↦ omega (arith, other y ne, h.counts y k, times-other y n more (λ f. ne (sym f)))
      ] in
      -- those that wait are others
      let waits : (i : ℕ) → i < length todo → get_or todo i 0 ≢ n = λ i k f. (let o = h.sound i k in omega (arith, o.2, some, ap (λ z. get_or arrivals z 0) f)) in
      let gone : (y : ℕ) → y < length qs → get_or remains y false ≡ false → (get_or arrivals' y 0 ≡ 0) × ¬ IsLimitState d qs y = λ y k f.
      (let o = h.gone y k f in
      let ne : y ≢ n = λ t. omega (arith, o.0, some, ap (λ z. get_or arrivals z 0) t) in
      (other y ne ∙ o.0, o.1)) in
      let stay : (i : ℕ) → i < length todo → (get_or todo i 0 < length qs) × (get_or remains (get_or todo i 0) false ≡ true) × (get_or arrivals' (get_or todo i 0) 0 ≡ 0) = λ i k.
      (let o = h.sound i k in (o.0, o.1, other (get_or todo i 0) (waits i k) ∙ o.2)) in
      elim c [
        | inl a ↦
            let P : List ℕ → Type 0 = λ xs. IsPeeling d qs remains arrivals' xs more in
            subst P (sym a.1) (record {
              marks = h.marks;
              size = ap length e ∙ length-set arrivals n (get_or arrivals n 0 - 1) ∙ h.size;
              counts = counts;
              whole = λ y k m z. elim (cases_eq y n) [
                | inl t ↦ let Q : ℕ → Type 0 = IsIn (todo ++ n ∷ []) in subst Q (sym t) (IsIn-last todo n)
                | inr ne ↦ IsIn-push todo n y (h.whole y k m (sym (other y ne) ∙ z))
              ];
              sound = λ i k. elim (cases_lt i (length todo)) [
                | inl t ↦
                    let at = get_or_append_left todo (n ∷ []) 0 i t in
                    let o = stay i t in
                    (omega (arith, at, o.0), ap (λ z. get_or remains z false) at ∙ o.1, ap (λ z. get_or arrivals' z 0) at ∙ o.2)
                | inr t ↦
                    let at = get_or_push todo n 0 i (omega (arith, length_push todo n)) in
                    (omega (arith, at), ap (λ z. get_or remains z false) at ∙ remains_here n l (λ f. omega (arith, (h.gone n l f).0)), ap (λ z. get_or arrivals' z 0) at ∙ here ∙ omega (arith, a.0))
              ];
              apart = AreApart-push todo n h.apart waits;
              gone = gone;
            })
        | inr a ↦
            let P : List ℕ → Type 0 = λ xs. IsPeeling d qs remains arrivals' xs more in
            subst P (sym a.1) (record {
              marks = h.marks;
              size = ap length e ∙ length-set arrivals n (get_or arrivals n 0 - 1) ∙ h.size;
              counts = counts;
              whole = λ y k m z. elim (cases_eq y n) [
                | inl t ↦ absurd (omega (arith, z, here, a.0, ap (λ z. get_or arrivals' z 0) t))
                | inr ne ↦ h.whole y k m (sym (other y ne) ∙ z)
              ];
              sound = stay;
              apart = h.apart;
              gone = gone;
            })
      ]
    where
      remains_here : (n : ℕ) → n < length qs → (get_or remains n false ≡ false → ⊥) → get_or remains n false ≡ true
      remains_here n l f = go (get_or remains n false) f
        where
          go : (b : Bool) → (b ≡ false → ⊥) → b ≡ true
          go true h = refl
          go false h = absurd (h refl)

-- how many marks are left
pub left_count : List Bool → ℕ
left_count [] = 0
left_count (true ∷ bs) = suc (left_count bs)
left_count (false ∷ bs) = left_count bs

pub left_count-set : (bs : List Bool) (s : ℕ) → get_or bs s false ≡ true → suc (left_count (set bs s false)) ≡ left_count bs
unfolding left_count
left_count-set [] s e = absurd (cc)
left_count-set (true ∷ bs) zero e = refl
left_count-set (false ∷ bs) zero e = absurd (cc)
left_count-set (true ∷ bs) (suc s) e = ap suc (left_count-set bs s e)
left_count-set (false ∷ bs) (suc s) e = left_count-set bs s e

-- all rows remain
pub IsPeeling-start : (d : ℕ) (rows : List Row) (remains : List Bool) (arrivals todo : List ℕ) → remains ≡ replicate (length rows) true → length arrivals ≡ length rows → ((y : ℕ) → y < length rows → get_or arrivals y 0 ≡ arrivals_from y rows) → AreUnreached arrivals todo
    → IsPeeling d (states_of rows) remains arrivals todo []
IsPeeling-start d rows remains arrivals todo e f counts h =
    let n = length-states_of rows in
    let all : (y : ℕ) → y < length rows → get_or (replicate (length rows) true) y false ≡ true = λ y l. get_or-replicate (length rows) y true false l in
    let P : List Bool → Type 0 = λ bs. IsPeeling d (states_of rows) bs arrivals todo [] in
    subst P (sym e) (record {
      marks = length-replicate (length rows) true ∙ sym n;
      size = f ∙ sym n;
      counts = λ y l. counts y (omega (arith, n)) ∙ sym (arriving-all rows y) ∙ omega arith;
      whole = λ y l m z. h.whole y (omega (arith, n)) z;
      sound = λ i l. let o = h.sound i l in (omega (arith, o.0, n), all (get_or todo i 0) (omega (arith, o.0)), o.1);
      apart = h.apart;
      gone = λ y l g. absurd (let t : true ≡ false = sym (all y (omega (arith, n))) ∙ g in cc);
    })

-- none is to be peeled
pub AreLimitRows-peeled : (d : ℕ) (rows : List Row) (remains : List Bool) (arrivals todo : List ℕ) → IsMachine d rows → todo ≡ [] → IsPeeling d (states_of rows) remains arrivals todo [] → AreLimitRows d rows remains
AreLimitRows-peeled d rows remains arrivals todo m e h =
    let n = length-states_of rows in
    let g = IsAutomaton-states_of d rows m in
    let positive : (y : ℕ) → y < length (states_of rows) → get_or remains y false ≡ true → 0 < arriving (states_of rows) remains y = λ y l t. elim (cases_lt 0 (get_or arrivals y 0)) [
      | inl k ↦ omega (arith, h.counts y l)
      | inr k ↦ let w = h.whole y l t (omega arith) in absurd (omega (arith, w.inside, ap length e))
    ] in
    record {
      count = h.marks ∙ n;
      limits = λ r l. (remaining d (states_of rows) g remains h.marks positive r (omega (arith, n)), marked_limit r (omega (arith, n)) (get_or remains r false) refl);
    }
  where
    marked_limit : (r : ℕ) → r < length (states_of rows) → (b : Bool) → get_or remains r false ≡ b → IsLimitState d (states_of rows) r → get_or remains r false ≡ true
    marked_limit r l true f k = f
    marked_limit r l false f k = absurd ((h.gone r l f).1 k)
