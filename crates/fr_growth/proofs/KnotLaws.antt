-- Why the steps of a search along a path of knots keep what is known, and what it ends with.
use Rattle.std.proofs.Common.{ℕ, suc, ◌≡◌, ◌+◌, ◌-◌, ◌<◌, ◌≤◌, ◌⊎◌, inl, inr, List, [], ◌∷◌, ◌++◌, ◌≢◌, length, get_or, set, take, min, refl, sym, ◌∙◌, ap, arith}
use Rattle.std.specs.List.{sum_by}
use Rattle.std.proofs.lemmas.Bool.{cases_lt, cases_eq}
use Rattle.std.proofs.lemmas.List.{get_or_append_left, get_or_push, length_push, get_or-set_same, get_or-set_other, length-set, get_or-take, length-take, take_all, take_more, get_or_default}
use Rattle.std.proofs.lemmas.List.Sums.{sum_by-set, sum_by-cons}
use Rattle.fr_model.specs.Words.{IsLetter, IsWord}
use Rattle.fr_model.specs.Automata.{next_state, state_after, IsReached}
use Rattle.fr_machine.specs.declared.row.Row.{Row}
use Rattle.fr_machine.specs.Rows.{states_of}
use Rattle.fr_machine.specs.Minimal.{IsMinimal}
use Rattle.fr_growth.specs.Components.{AreComponents, AreInOrder}
use Rattle.fr_growth.specs.Knots.{nowhere, last_of, IsListed, AreRising, IsPath, IsBehind, AreKnots, IsWalk, IsNew, AreMet, IsSettled, AreLooked, AreNumbered, met_rows, IsNumbering}
use Rattle.fr_growth.proofs.RowLaws.{auto_next, IsReached-self, IsReached-trans}

-- ---- lists that grow at their end
module _ (xs : List ℕ) (c : ℕ) where
  pub place_cases : (i : ℕ) → i < length (xs ++ c ∷ []) → (i < length xs) ⊎ (length xs ≡ i)
  place_cases i l = elim (cases_lt i (length xs)) [ inl q ↦ inl q | inr q ↦ inr (omega (arith, length_push xs c)) ]

  left_at : (i : ℕ) → i < length xs → get_or (xs ++ c ∷ []) i 0 ≡ get_or xs i 0
  left_at i l = get_or_append_left xs (c ∷ []) 0 i l

  last_at : (i : ℕ) → length xs ≡ i → get_or (xs ++ c ∷ []) i 0 ≡ c
  last_at i e = get_or_push xs c 0 i e

  left_in : (i : ℕ) → i < length xs → i < length (xs ++ c ∷ [])
  left_in i l = omega (arith, length_push xs c)

  last_in : length xs < length (xs ++ c ∷ [])
  last_in = omega (arith, length_push xs c)

  pub listed_more : (a : ℕ) → IsListed xs a → IsListed (xs ++ c ∷ []) a
  listed_more a h = (h.0, left_in h.0 h.1, left_at h.0 h.1 ∙ h.2)

  pub listed_last : IsListed (xs ++ c ∷ []) c
  listed_last = (length xs, last_in, last_at (length xs) refl)

  pub listed_left : (a : ℕ) → IsListed (xs ++ c ∷ []) a → a ≢ c → IsListed xs a
  listed_left a h ne = elim (place_cases h.0 h.1) [
    | inl q ↦ (h.0, q, sym (left_at h.0 q) ∙ h.2)
    | inr e ↦ absurd (ne (sym h.2 ∙ last_at h.0 e))
  ]

  pub rising_more : (n : ℕ) → AreRising n xs → n ≤ c → AreRising (c + 1) (xs ++ c ∷ [])
  rising_more n r le = record {
    below = λ i l. elim (place_cases i l) [ inl q ↦ omega (arith, left_at i q, r.below i q) | inr e ↦ omega (arith, last_at i e) ];
    rising = λ i j o l. elim (place_cases j l) [
      | inl q ↦ omega (arith, left_at i (omega arith), left_at j q, r.rising i j o q)
      | inr e ↦ omega (arith, left_at i (omega arith), last_at j e, r.below i (omega arith))
    ];
  }

  -- the list without its last number
  pub rising_left : (n : ℕ) → AreRising n (xs ++ c ∷ []) → AreRising n xs
  rising_left n r = record {
    below = λ i l. omega (arith, left_at i l, r.below i (left_in i l));
    rising = λ i j o l. omega (arith, left_at i (omega arith), left_at j l, r.rising i j o (left_in j l));
  }

  pub rising_last : (n i : ℕ) → AreRising n (xs ++ c ∷ []) → i < length xs → get_or xs i 0 < c
  rising_last n i r l = omega (arith, left_at i l, last_at (length xs) refl, r.rising i (length xs) l last_in)

  pub rising_below : (n : ℕ) → AreRising n (xs ++ c ∷ []) → AreRising c xs
  rising_below n r = record {
    below = λ i l. rising_last n i r l;
    rising = (rising_left n r).rising;
  }

  pub last_below : (n : ℕ) → AreRising n (xs ++ c ∷ []) → c < n
  last_below n r = omega (arith, last_at (length xs) refl, r.below (length xs) last_in)

  pub listed-le : (n a : ℕ) → AreRising n (xs ++ c ∷ []) → IsListed (xs ++ c ∷ []) a → a ≤ c
  listed-le n a r h = elim (place_cases h.0 h.1) [
    | inl q ↦ omega (arith, left_at h.0 q, h.2, rising_last n h.0 r q)
    | inr e ↦ omega (arith, last_at h.0 e, h.2)
  ]

  -- one knot more
  pub behind_more : (a b : ℕ) → IsBehind xs a b → (c ≤ a → c ≤ b) → IsBehind (xs ++ c ∷ []) a b
  behind_more a b h g i l e = elim (place_cases i l) [
    | inl q ↦ omega (arith, left_at i q, h i q (omega (arith, left_at i q, e)))
    | inr z ↦ omega (arith, last_at i z, g (omega (arith, last_at i z, e)))
  ]

  pub behind_left : (a b : ℕ) → IsBehind (xs ++ c ∷ []) a b → IsBehind xs a b
  behind_left a b h i l e = omega (arith, left_at i l, h i (left_in i l) (omega (arith, left_at i l, e)))

  pub behind_last : (a b : ℕ) → IsBehind (xs ++ c ∷ []) a b → c ≤ a → c ≤ b
  behind_last a b h l = omega (arith, last_at (length xs) refl, h (length xs) last_in (omega (arith, last_at (length xs) refl, l)))

  -- a place in the last knot is behind all others
  pub behind_all : (n a b : ℕ) → AreRising n (xs ++ c ∷ []) → c ≤ b → IsBehind (xs ++ c ∷ []) a b
  behind_all n a b r l i o e = omega (arith, l, listed-le n (get_or (xs ++ c ∷ []) i 0) r (i, o, refl))

-- ---- the last number of a list
pub last_pushed : (xs : List ℕ) (c : ℕ) → last_of (xs ++ c ∷ []) ≡ c
last_pushed xs c = get_or_push xs c 0 (length (xs ++ c ∷ []) - 1) (omega (arith, length_push xs c))

pub popped : (xs ys : List ℕ) (k v : ℕ) → 0 < length xs → ys ≡ take (k - 1) xs → k ≡ length xs → last_of xs ≡ v → xs ≡ ys ++ v ∷ []
popped xs ys k v l e f g =
    let whole = take_all (length xs - 1 + 1) xs (omega arith) in
    let split = take_more xs (length xs - 1) 0 (omega arith) in
    rw (e, f, ← g) (sym whole ∙ split)

pub last-most : (xs : List ℕ) (n i : ℕ) → AreRising n xs → i < length xs → get_or xs i 0 ≤ last_of xs
last-most xs n i r l = elim (cases_lt i (length xs - 1)) [
  | inl q ↦ omega (arith, r.rising i (length xs - 1) q (omega arith))
  | inr q ↦ let e : i ≡ length xs - 1 = omega arith in rw e (omega arith)
]

-- ---- how many rows were met
pub met_rows-all : (letters : List ℕ) → ((u : ℕ) → u < length letters → 1 ≤ get_or letters u 0) → met_rows letters ≡ length letters
met_rows-all [] h = refl
met_rows-all (x ∷ xs) h = omega (arith, sum_by-cons (λ y. min y 1) x xs, met_rows-all xs (λ u l. h (suc u) (omega (arith, l))), h 0 (omega arith))

pub met_rows-le : (letters : List ℕ) → met_rows letters ≤ length letters
met_rows-le [] = omega arith
met_rows-le (x ∷ xs) = omega (arith, sum_by-cons (λ y. min y 1) x xs, met_rows-le xs)

-- ---- a number that was read
pub read_at : (xs : List ℕ) (i v : ℕ) → i < length xs → v ≡ get_or xs i v → v ≡ get_or xs i 0
read_at xs i v l e = e ∙ get_or_default xs i v 0 l

pub read_last : (xs : List ℕ) (k v : ℕ) → 0 < length xs → k ≡ length xs → v ≡ get_or xs (k - 1) v → v ≡ last_of xs
read_last xs k v l f e = read_at xs (length xs - 1) v (omega arith) (rw f at e)

-- each knot begins at the last row of the walk or before
pub begins-le : (d : ℕ) (path bounds walk letters : List ℕ) (i : ℕ) → IsWalk d path bounds walk letters → i < length bounds → get_or bounds i 0 ≤ last_of walk
begins-le d path bounds walk letters i o l = let h = o.begins i l in omega (arith, h.2, last-most walk (length path) h.0 o.places h.1)

module _ (d : ℕ) (rows : List Row) (m : IsMinimal d rows) where
  abbrev next : ℕ → ℕ → ℕ
  next u x = next_state (states_of rows) u x

  next_row : (s x : ℕ) → s < length rows → next s x < length rows
  next_row s x l = auto_next d rows m.machine s x l

  -- ---- the last two knots are drawn together
  module _ (path bounds : List ℕ) (c : ℕ) (k : AreKnots d rows path (bounds ++ c ∷ [])) where
    pub knots_together : (place q : ℕ) → place < length path → q < length path → c ≤ place → q < c → IsReached d (states_of rows) (get_or path place 0) (get_or path q 0) → AreKnots d rows path bounds
    knots_together place q lp lq at before back = record {
      begins = rising_left bounds c (length path) k.begins;
      first = λ l. elim (cases_lt 0 (length bounds)) [
        | inl z ↦ (z, sym (left_at bounds c 0 z) ∙ (k.first l).1)
        | inr z ↦ absurd (omega (arith, (k.first l).1, last_at bounds c 0 (omega arith)))
      ];
      linked = λ a b la lb h. elim (cases_lt b c) [
        | inr z ↦ k.linked a b la lb (behind_more bounds c a b h (λ y. z))
        | inl z ↦ elim (cases_lt a c) [
          | inl y ↦ k.linked a b la lb (behind_more bounds c a b h (λ w. absurd (omega arith)))
          | inr y ↦
              let to : IsReached d (states_of rows) (get_or path a 0) (get_or path place 0) = k.linked a place la lp (behind_all bounds c (length path) a place k.begins at) in
              let on : IsBehind bounds q b = λ i l e. h i l (omega (arith, rising_last bounds c (length path) i k.begins l)) in
              let from : IsReached d (states_of rows) (get_or path q 0) (get_or path b 0) = k.linked q b lq lb (behind_more bounds c q b on (λ w. absurd (omega arith))) in
              IsReached-trans d rows (get_or path a 0) (get_or path place 0) (get_or path b 0) to (IsReached-trans d rows (get_or path place 0) (get_or path q 0) (get_or path b 0) back from)
        ]
      ];
    }

  pub walk_together : (path bounds walk letters : List ℕ) (c : ℕ) → IsWalk d path (bounds ++ c ∷ []) walk letters → IsWalk d path bounds walk letters
  walk_together path bounds walk letters c o = record {
    places = o.places;
    whole = o.whole;
    begins = λ i l. let h = o.begins i (left_in bounds c i l) in (h.0, h.1, h.2 ∙ left_at bounds c i l);
  }

  pub looked_together : (path bounds places numbers letters : List ℕ) (c count : ℕ) → AreLooked d rows path (bounds ++ c ∷ []) places numbers letters count → AreLooked d rows path bounds places numbers letters count
  looked_together path bounds places numbers letters c count h a x l k y = elim (h a x l k y) [ inl z ↦ inl z | inr z ↦ inr (z.0, behind_left bounds c a (get_or places (next (get_or path a 0) x) 0) z.1) ]

  -- ---- a new row behind the path
  module _ (path bounds walk places numbers letters : List ℕ) (count t : ℕ) (p : IsPath (length rows) path places) (k : AreKnots d rows path bounds) (o : IsWalk d path bounds walk letters) (e : AreMet d (length rows) path places numbers letters count)
      (g : AreLooked d rows path bounds places numbers letters count) (few : count + length path ≤ met_rows letters) (short : length path < nowhere) (b : t < length rows) (fresh : get_or letters t 0 ≡ 0) where
    abbrev Path : List ℕ
    Path = path ++ t ∷ []

    abbrev Places : List ℕ
    Places = set places t (length path)

    abbrev Letters : List ℕ
    Letters = set letters t 1

    abbrev Bounds : List ℕ
    Bounds = bounds ++ length path ∷ []

    abbrev Walk : List ℕ
    Walk = walk ++ length path ∷ []

    is_new : IsNew places numbers letters t
    is_new = elim (e.cases t b) [ inl y ↦ y | inr y ↦ elim y [ inl z ↦ absurd (omega (arith, z.0, fresh)) | inr z ↦ absurd (omega (arith, z.0, fresh)) ] ]

    old_row : (a : ℕ) → a < length path → get_or path a 0 ≢ t
    old_row a l z = omega (arith, p.there a l, ap (λ u. get_or places u 0) z, is_new.1, l, short)

    place_t : get_or Places t 0 ≡ length path
    place_t = get_or-set_same places t (length path) 0 (omega (arith, p.size, b))

    letter_t : get_or Letters t 0 ≡ 1
    letter_t = get_or-set_same letters t 1 0 (omega (arith, e.letters_size, b))

    place_other : (u : ℕ) → u ≢ t → get_or Places u 0 ≡ get_or places u 0
    place_other u ne = get_or-set_other places t u (length path) 0 ne

    pub letter_other : (u : ℕ) → u ≢ t → get_or Letters u 0 ≡ get_or letters u 0
    letter_other u ne = get_or-set_other letters t u 1 0 ne

    pub letter_kept : (u : ℕ) → 1 ≤ get_or letters u 0 → get_or Letters u 0 ≡ get_or letters u 0
    letter_kept u l = letter_other u (λ z. omega (arith, l, fresh, ap (λ v. get_or letters v 0) z))

    pub path_entered : IsPath (length rows) Path Places
    path_entered = record {
      size = length-set places t (length path) ∙ p.size;
      row = λ a l. elim (place_cases path t a l) [ inl q ↦ omega (arith, left_at path t a q, p.row a q) | inr z ↦ omega (arith, last_at path t a z, b) ];
      there = λ a l. elim (place_cases path t a l) [
        | inl q ↦ ap (λ u. get_or Places u 0) (left_at path t a q) ∙ place_other (get_or path a 0) (old_row a q) ∙ p.there a q
        | inr z ↦ ap (λ u. get_or Places u 0) (last_at path t a z) ∙ place_t ∙ z
      ];
      back = λ u l h. elim (cases_eq u t) [
        | inl z ↦ ap (λ a. get_or Path a 0) (ap (λ v. get_or Places v 0) z ∙ place_t) ∙ last_at path t (length path) refl ∙ sym z
        | inr ne ↦
            let same = place_other u ne in
            let on : get_or places u 0 < length path = elim (e.cases u l) [
              | inl y ↦ absurd (omega (arith, y.1, same, h, short, length_push path t))
              | inr y ↦ elim y [ inl z ↦ z.1 | inr z ↦ absurd (omega (arith, z.1, same, h, short, length_push path t)) ]
            ] in
            ap (λ a. get_or Path a 0) same ∙ left_at path t (get_or places u 0) on ∙ p.back u l on
      ];
    }

    pub knots_entered : ((a : ℕ) → a < length path → IsReached d (states_of rows) (get_or path a 0) t) → AreKnots d rows Path Bounds
    knots_entered to = record {
      begins = rw (length_push path t) (rising_more bounds (length path) (length path) k.begins (omega arith));
      first = λ l. elim (cases_lt 0 (length path)) [
        | inl z ↦ let f = k.first z in (left_in bounds (length path) 0 f.0, left_at bounds (length path) 0 f.0 ∙ f.1)
        | inr z ↦
            let none : length bounds ≡ 0 = elim (cases_lt 0 (length bounds)) [ inl y ↦ absurd (omega (arith, k.begins.below 0 y)) | inr y ↦ omega arith ] in
            (omega (arith, length_push bounds (length path)), last_at bounds (length path) 0 none ∙ omega arith)
      ];
      linked = λ a c la lc h. elim (place_cases path t c lc) [
        | inl q ↦ elim (place_cases path t a la) [
          | inl r ↦ rw (left_at path t a r, left_at path t c q) (k.linked a c r q (behind_left bounds (length path) a c h))
          | inr z ↦ absurd (omega (arith, behind_last bounds (length path) a c h (omega arith)))
        ]
        | inr z ↦ rw (last_at path t c z) (elim (place_cases path t a la) [
          | inl r ↦ rw (left_at path t a r) (to a r)
          | inr y ↦ rw (last_at path t a y) (IsReached-self d rows t)
        ])
      ];
    }

    pub walk_entered : IsWalk d Path Bounds Walk Letters
    walk_entered = record {
      places = rw (length_push path t) (rising_more walk (length path) (length path) o.places (omega arith));
      whole = λ a l h. elim (place_cases path t a l) [
        | inl q ↦ listed_more walk (length path) a (o.whole a q (omega (arith, h, letter_other (get_or path a 0) (old_row a q), ap (λ u. get_or Letters u 0) (left_at path t a q))))
        | inr z ↦ rw (sym z) (listed_last walk (length path))
      ];
      begins = λ i l. elim (place_cases bounds (length path) i l) [
        | inl q ↦ rw (left_at bounds (length path) i q) (listed_more walk (length path) (get_or bounds i 0) (o.begins i q))
        | inr z ↦ rw (last_at bounds (length path) i z) (listed_last walk (length path))
      ];
    }

    pub met_entered : AreMet d (length rows) Path Places numbers Letters count
    met_entered = record {
      numbers_size = e.numbers_size;
      letters_size = length-set letters t 1 ∙ e.letters_size;
      cases = λ u l. elim (cases_eq u t) [
        | inl z ↦ inr (inl (rw z (omega (arith, letter_t)), rw z (omega (arith, place_t, length_push path t)), rw z is_new.2))
        | inr ne ↦ elim (e.cases u l) [
          | inl y ↦ inl (letter_other u ne ∙ y.0, place_other u ne ∙ y.1, y.2)
          | inr y ↦ elim y [
            | inl z ↦ inr (inl (omega (arith, letter_other u ne, z.0), omega (arith, place_other u ne, z.1, length_push path t), z.2))
            | inr z ↦ inr (inr (omega (arith, letter_other u ne, z.0), place_other u ne ∙ z.1, z.2))
          ]
        ]
      ];
    }

    pub looked_entered : AreLooked d rows Path Bounds Places numbers Letters count
    looked_entered a x l f h = elim (place_cases path t a l) [
      | inl q ↦
          let at = left_at path t a q in
          let u = get_or path a 0 in
          let y = next u x in
          rw at (elim (g a x q f (omega (arith, h, letter_other u (old_row a q), ap (λ v. get_or Letters v 0) at))) [
            | inl z ↦ inl z
            | inr z ↦
                let ne : y ≢ t = λ w. omega (arith, z.0, is_new.1, short, ap (λ v. get_or places v 0) w) in
                let same = place_other y ne in
                inr (omega (arith, same, z.0, length_push path t), rw same (behind_more bounds (length path) a (get_or places y 0) z.1 (λ w. absurd (omega arith))))
          ])
      | inr z ↦ absurd (omega (arith, h, f.0, letter_t, ap (λ v. get_or Letters v 0) (last_at path t a z)))
    ]

    pub few_entered : count + length Path ≤ met_rows Letters
    few_entered = omega (arith, few, fresh, length_push path t, sum_by-set (λ x. min x 1) letters t 1 0 (omega (arith, e.letters_size, b)))

    pub listed_entered : (order : List ℕ) → length order + length path ≡ met_rows letters → length order + length Path ≡ met_rows Letters
    listed_entered order h = omega (arith, h, fresh, length_push path t, sum_by-set (λ x. min x 1) letters t 1 0 (omega (arith, e.letters_size, b)))

    pub work_entered : sum_by (λ x. d + 1 - x) Letters + length Walk ≤ sum_by (λ x. d + 1 - x) letters + length walk
    work_entered = omega (arith, fresh, length_push walk (length path), sum_by-set (λ x. d + 1 - x) letters t 1 0 (omega (arith, e.letters_size, b)))

  -- ---- the next letter of a row was looked at
  module _ (path bounds walk places numbers letters : List ℕ) (count place r x : ℕ) (p : IsPath (length rows) path places) (o : IsWalk d path bounds walk letters) (e : AreMet d (length rows) path places numbers letters count)
      (g : AreLooked d rows path bounds places numbers letters count) (few : count + length path ≤ met_rows letters) (l : place < length path) (at : get_or path place 0 ≡ r) (has : get_or letters r 0 ≡ x) (least : 1 ≤ x) (most : x ≤ d) where
    abbrev Looked : List ℕ
    Looked = set letters r (x + 1)

    row_r : r < length letters
    row_r = omega (arith, e.letters_size, p.row place l, at)

    here : get_or Looked r 0 ≡ x + 1
    here = get_or-set_same letters r (x + 1) 0 row_r

    elsewhere : (u : ℕ) → u ≢ r → get_or Looked u 0 ≡ get_or letters u 0
    elsewhere u ne = get_or-set_other letters r u (x + 1) 0 ne

    pub letter_grows : (u : ℕ) → get_or letters u 0 ≤ get_or Looked u 0
    letter_grows u = elim (cases_eq u r) [ inl z ↦ rw z (omega (arith, here, has)) | inr ne ↦ omega (arith, elsewhere u ne) ]

    pub walk_looked : IsWalk d path bounds walk Looked
    walk_looked = record {
      places = o.places;
      whole = λ a b h. o.whole a b (omega (arith, h, letter_grows (get_or path a 0)));
      begins = o.begins;
    }

    pub met_looked : AreMet d (length rows) path places numbers Looked count
    met_looked = record {
      numbers_size = e.numbers_size;
      letters_size = length-set letters r (x + 1) ∙ e.letters_size;
      cases = λ u b. elim (e.cases u b) [
        | inl y ↦ inl (elsewhere u (λ z. omega (arith, y.0, has, least, ap (λ v. get_or letters v 0) z)) ∙ y.0, y.1, y.2)
        | inr y ↦ elim y [
          | inl z ↦ inr (inl (omega (arith, z.0, letter_grows u), z.1, z.2))
          | inr z ↦ inr (inr (omega (arith, z.0, letter_grows u), z.1, z.2))
        ]
      ];
    }

    pub looked_more : IsSettled path bounds places numbers count place (next r x) → AreLooked d rows path bounds places numbers Looked count
    looked_more s a y b f h = elim (cases_eq (get_or path a 0) r) [
      | inr ne ↦ g a y b f (omega (arith, h, elsewhere (get_or path a 0) ne))
      | inl z ↦
          let same : a ≡ place = sym (p.there a b) ∙ ap (λ v. get_or places v 0) (z ∙ sym at) ∙ p.there place l in
          elim (cases_lt y x) [
            | inl q ↦ g a y b f (omega (arith, q, has, ap (λ v. get_or letters v 0) z))
            | inr q ↦
                let last : y ≡ x = omega (arith, q, h, here, ap (λ v. get_or Looked v 0) z) in
                rw (z, same, last) s
          ]
    ]

    pub few_looked : count + length path ≤ met_rows Looked
    few_looked = omega (arith, few, has, least, sum_by-set (λ x. min x 1) letters r (x + 1) 0 row_r)

    pub listed_looked : (order : List ℕ) → length order + length path ≡ met_rows letters → length order + length path ≡ met_rows Looked
    listed_looked order h = omega (arith, h, has, least, sum_by-set (λ x. min x 1) letters r (x + 1) 0 row_r)

    pub work_looked : sum_by (λ x. d + 1 - x) Looked < sum_by (λ x. d + 1 - x) letters
    work_looked = omega (arith, has, most, sum_by-set (λ x. d + 1 - x) letters r (x + 1) 0 row_r)

  -- ---- a row is left whose knot does not begin there
  pub walk_left : (path bounds walk letters : List ℕ) (a : ℕ) → IsWalk d path bounds (walk ++ a ∷ []) letters → AreRising (length path) bounds → 0 < length bounds → last_of bounds ≢ a → d < get_or letters (get_or path a 0) 0 → IsWalk d path bounds walk letters
  walk_left path bounds walk letters a o r some ne over = record {
    places = rising_left walk a (length path) o.places;
    whole = λ b l h. listed_left walk a b (o.whole b l h) (λ z. omega (arith, h, over, ap (λ v. get_or letters (get_or path v 0) 0) z));
    begins = λ i l.
        let last = listed-le walk a (length path) (last_of bounds) o.places (o.begins (length bounds - 1) (omega arith)) in
        let most = last-most bounds (length path) i r l in
        listed_left walk a (get_or bounds i 0) (o.begins i l) (λ z. ne (omega (arith, last, most, z)));
  }

  -- ---- the last knot has its number
  module _ (path bounds walk places numbers letters order : List ℕ) (count c : ℕ) (places' numbers' order' : List ℕ) (p : IsPath (length rows) path places) (k : AreKnots d rows path (bounds ++ c ∷ [])) (o : IsWalk d path (bounds ++ c ∷ []) (walk ++ c ∷ []) letters)
      (e : AreMet d (length rows) path places numbers letters count) (g : AreLooked d rows path (bounds ++ c ∷ []) places numbers letters count) (a : AreNumbered d rows numbers order count) (few : count + length path ≤ met_rows letters) (over : d < get_or letters (get_or path c 0) 0)
      (n : IsNumbering (length rows) path c (length path) count places numbers order places' numbers' order') where
    abbrev Left : List ℕ
    Left = take c path

    begin : c < length path
    begin = last_below bounds c (length path) k.begins

    fits : count + length path ≤ 1024
    fits = omega (arith, few, met_rows-le letters, e.letters_size, m.small)

    size : length Left ≡ c
    size = length-take c path ∙ omega (arith, begin)

    row_left : (b : ℕ) → b < c → get_or Left b 0 ≡ get_or path b 0
    row_left b l = get_or-take c path b 0 l

    -- a row stands before the last knot, or in it, or has its number, or is new
    abbrev Before : ℕ → Type 0
    Before u = (1 ≤ get_or letters u 0) × (get_or places u 0 < c) × (get_or places' u 0 ≡ get_or places u 0) × (get_or numbers' u 0 ≡ nowhere)

    abbrev Within : ℕ → Type 0
    Within u = (1 ≤ get_or letters u 0) × (c ≤ get_or places u 0) × (get_or places u 0 < length path) × (get_or places' u 0 ≡ nowhere) × (get_or numbers' u 0 ≡ count)

    abbrev Earlier : ℕ → Type 0
    Earlier u = (1 ≤ get_or letters u 0) × (get_or places' u 0 ≡ nowhere) × (get_or numbers' u 0 ≡ get_or numbers u 0) × (get_or numbers u 0 < count)

    abbrev Fresh : ℕ → Type 0
    Fresh u = IsNew places' numbers' letters u

    sorts : (u : ℕ) → u < length rows → Before u ⊎ Within u ⊎ Earlier u ⊎ Fresh u
    sorts u l = elim (e.cases u l) [
      | inl y ↦ let q = n.kept u l (inr (omega (arith, y.1, fits))) in inr (inr (inr (y.0, q.0 ∙ y.1, q.1 ∙ y.2)))
      | inr y ↦ elim y [
        | inl z ↦ elim (cases_lt (get_or places u 0) c) [
          | inl w ↦ let q = n.kept u l (inl w) in inl (z.0, w, q.0, q.1 ∙ z.2)
          | inr w ↦ let q = n.given u l w z.1 in inr (inl (z.0, w, z.1, q.0, q.1))
        ]
        | inr z ↦ let q = n.kept u l (inr (omega (arith, z.1, fits))) in inr (inr (inl (z.0, q.0 ∙ z.1, q.1, z.2)))
      ]
    ]

    -- rows that had their number keep it
    numbered_kept : (u : ℕ) → u < length rows → get_or numbers u 0 < count → get_or numbers' u 0 ≡ get_or numbers u 0
    numbered_kept u l h = elim (e.cases u l) [
      | inl y ↦ absurd (omega (arith, y.2, h, fits))
      | inr y ↦ elim y [ inl z ↦ absurd (omega (arith, z.2, h, fits)) | inr z ↦ (n.kept u l (inr (omega (arith, z.1, fits)))).1 ]
    ]

    given_at : (u : ℕ) → u < length rows → c ≤ get_or places u 0 → get_or places u 0 < length path → get_or numbers' u 0 ≡ count
    given_at u l f h = (n.given u l f h).1

    -- a row has its number now
    numbered_now : (u : ℕ) → u < length rows → get_or numbers' u 0 < count + 1 → Earlier u ⊎ Within u
    numbered_now u l h = elim (sorts u l) [
      | inl y ↦ absurd (omega (arith, y.3, h, fits))
      | inr y ↦ elim y [ inl z ↦ inr z | inr z ↦ elim z [ inl w ↦ inl w | inr w ↦ absurd (omega (arith, w.2, h, fits)) ] ]
    ]

    pub path_finished : IsPath (length rows) Left places'
    path_finished = record {
      size = n.places_size ∙ p.size;
      row = λ b l. omega (arith, row_left b (omega (arith, l, size)), p.row b (omega (arith, l, size, begin)));
      there = λ b l.
          let f : b < c = omega (arith, l, size) in
          let on : b < length path = omega (arith, f, begin) in
          let at = p.there b on in
          ap (λ v. get_or places' v 0) (row_left b f) ∙ (n.kept (get_or path b 0) (p.row b on) (inl (omega (arith, at, f)))).0 ∙ at;
      back = λ u l h. elim (sorts u l) [
        | inl y ↦ ap (λ v. get_or Left v 0) y.2 ∙ row_left (get_or places u 0) y.1 ∙ p.back u l (omega (arith, y.1, begin))
        | inr y ↦ elim y [
          | inl z ↦ absurd (omega (arith, z.3, h, size, begin, fits))
          | inr z ↦ elim z [ inl w ↦ absurd (omega (arith, w.1, h, size, begin, fits)) | inr w ↦ absurd (omega (arith, w.1, h, size, begin, fits)) ]
        ]
      ];
    }

    pub knots_finished : AreKnots d rows Left bounds
    knots_finished = record {
      begins = rw size (rising_below bounds c (length path) k.begins);
      first = λ l. elim (cases_lt 0 (length bounds)) [
        | inl z ↦ (z, sym (left_at bounds c 0 z) ∙ (k.first (omega (arith, begin))).1)
        | inr z ↦ absurd (omega (arith, l, size, (k.first (omega (arith, begin))).1, last_at bounds c 0 (omega arith)))
      ];
      linked = λ b f lb lf h.
          let b' : b < c = omega (arith, lb, size) in
          let f' : f < c = omega (arith, lf, size) in
          rw (row_left b b', row_left f f') (k.linked b f (omega (arith, b', begin)) (omega (arith, f', begin)) (behind_more bounds c b f h (λ w. absurd (omega arith))));
    }

    pub walk_finished : IsWalk d Left bounds walk letters
    walk_finished = record {
      places = rw size (rising_below walk c (length path) o.places);
      whole = λ b l h.
          let f : b < c = omega (arith, l, size) in
          listed_left walk c b (o.whole b (omega (arith, f, begin)) (omega (arith, h, ap (λ v. get_or letters v 0) (row_left b f)))) (λ z. omega arith);
      begins = λ i l. listed_left walk c (get_or bounds i 0) (rw (left_at bounds c i l) at (o.begins i (left_in bounds c i l))) (λ z. omega (arith, z, rising_last bounds c (length path) i k.begins l));
    }

    pub met_finished : AreMet d (length rows) Left places' numbers' letters (count + 1)
    met_finished = record {
      numbers_size = n.numbers_size ∙ e.numbers_size;
      letters_size = e.letters_size;
      cases = λ u l. elim (sorts u l) [
        | inl y ↦ inr (inl (y.0, omega (arith, y.1, y.2, size), y.3))
        | inr y ↦ elim y [
          | inl z ↦ inr (inr (z.0, z.3, omega (arith, z.4)))
          | inr z ↦ elim z [ inl w ↦ inr (inr (w.0, w.1, omega (arith, w.2, w.3))) | inr w ↦ inl w ]
        ]
      ];
    }

    pub looked_finished : AreLooked d rows Left bounds places' numbers' letters (count + 1)
    looked_finished b x l f h =
        let b' : b < c = omega (arith, l, size) in
        let on : b < length path = omega (arith, b', begin) in
        let at = row_left b b' in
        let y = next (get_or path b 0) x in
        let ly = next_row (get_or path b 0) x (p.row b on) in
        rw at (elim (g b x on f (omega (arith, h, ap (λ v. get_or letters v 0) at))) [
          | inl z ↦ inl (omega (arith, z, numbered_kept y ly z))
          | inr z ↦ elim (cases_lt (get_or places y 0) c) [
            | inl w ↦
                let same = (n.kept y ly (inl w)).0 in
                inr (omega (arith, same, w, size), rw same (behind_left bounds c b (get_or places y 0) z.1))
            | inr w ↦ inl (omega (arith, given_at y ly w z.0))
          ]
        ])

    -- all letters of the rows of the last knot were looked at
    within_all : (u x : ℕ) → u < length rows → Within u → IsLetter d x → x < get_or letters u 0
    within_all u x l w f = elim (cases_lt x (get_or letters u 0)) [
      | inl q ↦ q
      | inr q ↦
          let at = p.back u l w.2 in
          let few_letters : get_or letters (get_or path (get_or places u 0) 0) 0 ≤ d = rw at (omega (arith, q, f.1)) in
          let h = o.whole (get_or places u 0) w.2 few_letters in
          let le = listed-le walk c (length path) (get_or places u 0) o.places h in
          let same : get_or places u 0 ≡ c = omega (arith, le, w.1) in
          absurd (omega (arith, few_letters, over, ap (λ v. get_or letters (get_or path v 0) 0) same))
    ]

    within_next : (u x : ℕ) → u < length rows → Within u → IsLetter d x → get_or numbers' (next u x) 0 ≤ count
    within_next u x l w f =
        let at = p.back u l w.2 in
        let ly = next_row u x l in
        let s = rw at at (g (get_or places u 0) x w.2 f (rw at (within_all u x l w f))) in
        elim s [
          | inl z ↦ omega (arith, z, numbered_kept (next u x) ly z)
          | inr z ↦ omega (arith, given_at (next u x) ly (behind_last bounds c (get_or places u 0) (get_or places (next u x) 0) z.1 w.1) z.0)
        ]

    within_linked : (u v : ℕ) → u < length rows → v < length rows → Within u → Within v → IsReached d (states_of rows) u v
    within_linked u v l b w y = rw (p.back u l w.2, p.back v b y.2) at (k.linked (get_or places u 0) (get_or places v 0) w.2 y.2 (behind_all bounds c (length path) (get_or places u 0) (get_or places v 0) k.begins y.1))

    new_order : (j : ℕ) → length order ≤ j → j < length order' → (get_or order' j 0 < length rows) × (get_or numbers' (get_or order' j 0) 0 ≡ count)
    new_order j f h =
        let b = c + (j - length order) in
        let on : b < length path = omega (arith, f, h, n.longer, begin) in
        let at : get_or order' j 0 ≡ get_or path b 0 = ap (λ v. get_or order' v 0) (shift j (length order) c f) ∙ n.added b (omega arith) on in
        rw at (p.row b on, given_at (get_or path b 0) (p.row b on) (omega (arith, p.there b on)) (omega (arith, p.there b on, on)))
      where
        shift : (i s t : ℕ) → s ≤ i → i ≡ s + (t + (i - s) - t)
        shift i s t r = omega arith

    order_now : (j : ℕ) → j < length order' → (get_or order' j 0 < length rows) × (get_or numbers' (get_or order' j 0) 0 < count + 1)
    order_now j h = elim (cases_lt j (length order)) [
      | inl q ↦ let z = a.ordered j q in rw (n.front j q) (z.0, omega (arith, z.1, numbered_kept (get_or order j 0) z.0 z.1))
      | inr q ↦ let z = new_order j q h in (z.0, omega (arith, z.1))
    ]

    pub numbered_finished : AreNumbered d rows numbers' order' (count + 1)
    numbered_finished = record {
      falls = λ u x l h f. elim (numbered_now u l h) [
        | inl y ↦
            let le = a.falls u x l y.3 f in
            omega (arith, y.2, le, numbered_kept (next u x) (next_row u x l) (omega (arith, le, y.3)))
        | inr y ↦ omega (arith, y.4, within_next u x l y f)
      ];
      joined = λ u v l b h f. elim (numbered_now u l h) [
        | inl y ↦ elim (numbered_now v b (omega (arith, h, f))) [
          | inl z ↦ a.joined u v l b y.3 (sym y.2 ∙ f ∙ z.2)
          | inr z ↦ absurd (omega (arith, y.2, y.3, z.4, f))
        ]
        | inr y ↦ elim (numbered_now v b (omega (arith, h, f))) [
          | inl z ↦ absurd (omega (arith, z.2, z.3, y.4, f))
          | inr z ↦ within_linked u v l b y z
        ]
      ];
      ordered = order_now;
      whole = λ u l h. elim (numbered_now u l h) [
        | inl y ↦ let q = a.whole u l y.3 in (q.0, omega (arith, q.1, n.longer), n.front q.0 q.1 ∙ q.2)
        | inr y ↦ (length order + (get_or places u 0 - c), omega (arith, n.longer, y.1, y.2), n.added (get_or places u 0) y.1 y.2 ∙ p.back u l y.2)
      ];
      rising = λ i j l b. elim (cases_lt j (length order)) [
        | inl q ↦
            let oi = a.ordered i (omega arith) in
            let oj = a.ordered j q in
            rw (n.front i (omega arith), n.front j q, numbered_kept (get_or order i 0) oi.0 oi.1, numbered_kept (get_or order j 0) oj.0 oj.1) (a.rising i j l q)
        | inr q ↦ omega (arith, (new_order j q b).1, (order_now i (omega arith)).1)
      ];
    }

    pub few_finished : count + 1 + length Left ≤ met_rows letters
    few_finished = omega (arith, few, size, begin)

    pub listed_finished : length order + length path ≡ met_rows letters → length order' + length Left ≡ met_rows letters
    listed_finished h = omega (arith, h, size, begin, n.longer)

  -- ---- the end
  pub all_numbered : (path bounds walk places numbers letters order : List ℕ) (count : ℕ) → length walk ≡ 0 → IsPath (length rows) path places → AreKnots d rows path bounds → IsWalk d path bounds walk letters → AreMet d (length rows) path places numbers letters count
      → AreNumbered d rows numbers order count → count + length path ≤ met_rows letters → length order + length path ≡ met_rows letters → 1 ≤ get_or letters 0 0 → AreComponents d rows numbers × AreInOrder (length rows) numbers order
  all_numbered path bounds walk places numbers letters order count none p k o e a few listed begun = (
    record {
      count = e.numbers_size;
      small = λ s l. omega (arith, every s l, few, met_rows-le letters, e.letters_size);
      falls = λ s x l f. a.falls s x l (every s l) f;
      joined = λ s t l b f. a.joined s t l b (every s l) f;
    },
    record {
      count = omega (arith, listed, no_path, met_rows-all letters met, e.letters_size);
      below = λ i l. (a.ordered i l).0;
      whole = λ s l. a.whole s l (every s l);
      rising = a.rising;
    },
  )
    where
      no_path : length path ≡ 0
      no_path = elim (cases_lt 0 (length path)) [
        | inl z ↦ let h = o.begins 0 (k.first z).0 in absurd (omega (arith, h.1, none))
        | inr z ↦ omega arith
      ]

      first : get_or numbers 0 0 < count
      first = elim (e.cases 0 m.machine.least) [
        | inl y ↦ absurd (omega (arith, y.0, begun))
        | inr y ↦ elim y [ inl z ↦ absurd (omega (arith, z.1, no_path)) | inr z ↦ z.2 ]
      ]

      along : (s : ℕ) (w : List ℕ) → s < length rows → IsWord d w → get_or numbers s 0 < count → get_or numbers (state_after (states_of rows) s w) 0 < count
      along s [] l h f = f
      along s (x ∷ w) l h f = along (next s x) w (next_row s x l) h.1 (omega (arith, f, a.falls s x l f h.0))

      every : (s : ℕ) → s < length rows → get_or numbers s 0 < count
      every s l = let w = m.reached s l in rw w.2 at (along 0 w.0 m.machine.least w.1 first)

      met : (u : ℕ) → u < length letters → 1 ≤ get_or letters u 0
      met u l =
          let b : u < length rows = omega (arith, l, e.letters_size) in
          elim (e.cases u b) [
            | inl y ↦ absurd (omega (arith, y.2, every u b, few, met_rows-le letters, e.letters_size, m.small))
            | inr y ↦ elim y [ inl z ↦ z.0 | inr z ↦ z.0 ]
          ]

  -- ---- the last row of the walk
  pub walk_place : (path bounds walk letters : List ℕ) → IsWalk d path bounds walk letters → 0 < length walk → last_of walk < length path
  walk_place path bounds walk letters o l = o.places.below (length walk - 1) (omega arith)

  pub path_letter : (path places numbers letters : List ℕ) (count a : ℕ) → IsPath (length rows) path places → AreMet d (length rows) path places numbers letters count → count + length path ≤ met_rows letters → a < length path → 1 ≤ get_or letters (get_or path a 0) 0
  path_letter path places numbers letters count a p e few l = elim (e.cases (get_or path a 0) (p.row a l)) [
    | inl y ↦ absurd (omega (arith, y.1, p.there a l, l, few, met_rows-le letters, e.letters_size, m.small))
    | inr y ↦ elim y [ inl z ↦ z.0 | inr z ↦ z.0 ]
  ]
