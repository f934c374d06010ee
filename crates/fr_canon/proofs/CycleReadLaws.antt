-- Cycles that are well written are read as their permutation.
use Rattle.std.proofs.Common.{ℕ, zero, suc, ◌≡◌, ◌≢◌, ◌+◌, ◌-◌, ◌<◌, ◌≤◌, ◌⊎◌, inl, inr, Bool, true, false, cond, List, [], ◌∷◌, ◌++◌, length, take, drop, map, get_or, set, refl, sym, ◌∙◌, ap, arith, eqb}
use Rattle.std.specs.Prelude.{◌==◌, fold, filter, flat_map}
use Rattle.std.specs.List.{list_any, join_with_byte}
use Rattle.std.proofs.lemmas.List.{length-set, get_or-set_same, get_or-set_other, length-take-le, length-drop, get_or-take, get_or-drop, get_or_default, ext_get_or}
use Rattle.std.proofs.lemmas.Grind.{fold-append}
use Rattle.std.proofs.lemmas.Bool.{cases_Bool, cases_eq, or_cases, or_parts, eqb-true, ne_eqb}
use Rattle.fr_model.specs.Words.{IsLetter}
use Rattle.fr_model.specs.Permutations.{IsPermutation, image, numbers_from}
use Rattle.fr_model.proofs.PermutationLaws.{image-IsLetter, get_or-numbers_from}
use Rattle.fr_alphabet.specs.Writing.{letter_digit}
use Rattle.fr_alphabet.specs.Reading.{is_letter_digit}
use Rattle.fr_alphabet.proofs.Readings.{is_letter_digit-from}
use Rattle.fr_alphabet.specs.Cycles.{path, cycle_of, begins_cycle, next_in, cycle_image, cycles_image, cycles_of, cycle_text, cycles_text}
use Rattle.fr_alphabet.proofs.CycleLaws.{IsOnPath, IsOnPath-image, IsOnPath-next, path-next, path-here}
use Rattle.fr_alphabet.proofs.CycleTexts.{others_text}
use Rattle.fr_alphabet.proofs.CycleProducts.{cycles_image-cycles_of}
use Rattle.fr_canon.specs.declared.cycles.CycleScan.{CycleScan}
use Rattle.fr_canon.specs.CycleScans.{after_byte, first_scan}

abbrev run : CycleScan → List ℕ → CycleScan
run s text = fold after_byte s text

-- each letter stays or goes to its image
record IsGood (p : List ℕ) (s : CycleScan) : Type 0 where
  size : length s.images ≡ 9
  each : (z : ℕ) → IsLetter (length p) z → (get_or s.images z 0 ≡ z) ⊎ (get_or s.images z 0 ≡ image p z)

abbrev IsSettled : List ℕ → CycleScan → ℕ → Type 0
IsSettled p s z = get_or s.images z 0 ≡ image p z

-- letters that are settled stay so
record IsLater (p : List ℕ) (s t : CycleScan) : Type 0 where
  good : IsGood p t
  keeps : (z : ℕ) → IsLetter (length p) z → IsSettled p s z → IsSettled p t z

later_trans : (p : List ℕ) (s t u : CycleScan) → IsLater p s t → IsLater p t u → IsLater p s u
later_trans p s t u a b = record { good = b.good; keeps = λ z l h. b.keeps z l (a.keeps z l h) }

-- w goes to its image
put_later : (p : List ℕ) (s t : CycleScan) (w v : ℕ) → IsGood p s → w ≤ 8 → v ≡ image p w → t.images ≡ set s.images w v → IsLater p s t × IsSettled p t w
put_later p s t w v g l e f =
    let here : get_or t.images w 0 ≡ image p w = ap (λ is. get_or is w 0) f ∙ get_or-set_same s.images w v 0 (omega (arith, g.size, l)) ∙ e in
    let other : (z : ℕ) → z ≢ w → get_or t.images z 0 ≡ get_or s.images z 0 = λ z n. ap (λ is. get_or is z 0) f ∙ get_or-set_other s.images w z v 0 n in (
      record {
        good = record {
          size = ap length f ∙ length-set s.images w v ∙ g.size;
          each = λ z k. elim (cases_eq z w) [ inl q ↦ inr (rw q here) | inr n ↦ rw (other z n) (g.each z k) ];
        };
        keeps = λ z k h. elim (cases_eq z w) [ inl q ↦ rw q here | inr n ↦ other z n ∙ h ];
      },
      here,
    )

-- place 0 is no letter
put_nothing : (p : List ℕ) (s t : CycleScan) (v : ℕ) → IsGood p s → t.images ≡ set s.images 0 v → IsLater p s t
put_nothing p s t v g f =
    let other : (z : ℕ) → IsLetter (length p) z → get_or t.images z 0 ≡ get_or s.images z 0 = λ z k. (let n : z ≢ 0 = λ q. omega (arith, q, k.0) in ap (λ is. get_or is z 0) f ∙ get_or-set_other s.images 0 z v 0 n) in
    record {
      good = record { size = ap length f ∙ length-set s.images 0 v ∙ g.size; each = λ z k. rw (other z k) (g.each z k) };
      keeps = λ z k h. other z k ∙ h;
    }

-- the bytes of a cycle
at_digit : (s : CycleScan) (x : ℕ) → IsLetter 8 x → after_byte s (48 + x) ≡ record { images = set s.images s.last x; first = cond (s.last == 0) x s.first; last = x }
at_digit s x l =
    let a : ((48 + x) == 40) ≡ false = ne_eqb (48 + x) 40 (λ e. omega (arith, e)) in
    let b : ((48 + x) == 41) ≡ false = ne_eqb (48 + x) 41 (λ e. omega (arith, e)) in
    let d : is_letter_digit 8 (48 + x) ≡ true = is_letter_digit-from 8 (48 + x) (omega (arith, l.0)) (omega (arith, l.1)) in
    let e : 48 + x - 48 ≡ x = omega arith in
    rw (a, b, d, e) refl

-- y stands in the list
abbrev has : List ℕ → ℕ → Bool
has ys y = list_any (eqb y) ys

has_cases : (y z : ℕ) (ys : List ℕ) → has (z ∷ ys) y ≡ true → (y ≡ z) ⊎ (has ys y ≡ true)
has_cases y z ys h = elim (or_cases (eqb y z) (has ys y) h) [ inl e ↦ inl (eqb-true y z e) | inr m ↦ inr m ]

-- a walk along a cycle, from w on to where x comes again
abbrev IsRound : List ℕ → ℕ → ℕ → CycleScan → Type 0
IsRound p x w s = IsLater p s (run s (others_text (path p x (image p w)) ++ 41 ∷ [])) × ((z : ℕ) → has (w ∷ path p x (image p w)) z ≡ true → IsSettled p (run s (others_text (path p x (image p w)) ++ 41 ∷ [])) z)

round_end : (p : List ℕ) (x w : ℕ) (s : CycleScan) → length p ≤ 8 → IsLetter (length p) w → s.last ≡ w → s.first ≡ x → IsGood p s → x ≡ image p w → IsRound p x w s
round_end p x w s few l last first g e =
    let put = put_later p s (after_byte s 41) w x g (omega (arith, l.1, few)) e (ap (λ k. set s.images k s.first) last ∙ ap (λ v. set s.images w v) first) in
    rw (path-here p x (image p w) e) (put.0, λ z k. elim (has_cases z w [] k) [ inl q ↦ rw q put.1 | inr m ↦ (let f : false ≡ true = m in cc) ])

round : (p : List ℕ) (x n w : ℕ) (s : CycleScan) → IsPermutation (length p) p → length p ≤ 8 → IsLetter (length p) w → s.last ≡ w → s.first ≡ x → IsGood p s → length (path p x (image p w)) ≤ n → IsOnPath p x (image p w) → IsRound p x w s
round p x zero w s perm few l last first g h o = elim (cases_eq x (image p w)) [
  | inl e ↦ round_end p x w s few l last first g e
  | inr m ↦ absurd (omega (arith, ap length (path-next p x (image p w) m o), h))
]
round p x (suc i) w s perm few l last first g h o = elim (cases_eq x (image p w)) [
  | inl e ↦ round_end p x w s few l last first g e
  | inr m ↦
      let y = image p w in
      let e = path-next p x y m o in
      let yl : IsLetter (length p) y = image-IsLetter (length p) p w perm l in
      let ys = path p x (image p y) in
      let t : CycleScan = record { images = set s.images s.last y; first = cond (s.last == 0) y s.first; last = y } in
      let put = put_later p s t w y g (omega (arith, l.1, few)) refl (ap (λ j. set s.images j y) last) in
      let moved : (s.last == 0) ≡ false = ne_eqb s.last 0 (λ q. omega (arith, q, last, l.0)) in
      let rest = round p x i y t perm few yl refl (ap (λ b. cond b y s.first) moved ∙ first) put.0.good (omega (arith, h, ap length e)) (IsOnPath-next p x y perm m o) in
      let is : run s (44 ∷ letter_digit y ∷ others_text ys ++ 41 ∷ []) ≡ run t (others_text ys ++ 41 ∷ []) = ap (λ u. run u (others_text ys ++ 41 ∷ [])) (at_digit s y (yl.0, omega (arith, yl.1, few))) in
      rw (e, is) (
        later_trans p s t (run t (others_text ys ++ 41 ∷ [])) put.0 rest.0,
        λ z q. elim (has_cases z w (y ∷ ys) q) [ inl b ↦ rw b (rest.0.keeps w l put.1) | inr b ↦ rest.1 z b ],
      )
]

join-others : (x : ℕ) (c : List ℕ) → join_with_byte 44 (map (λ y. letter_digit y ∷ []) (x ∷ c)) ≡ letter_digit x ∷ others_text c
join-others x [] = refl
join-others x (y ∷ ys) = ap (λ l. letter_digit x ∷ 44 ∷ l) (join-others y ys)

-- one cycle
cycle_later : (p : List ℕ) (x : ℕ) (s : CycleScan) → IsPermutation (length p) p → length p ≤ 8 → IsLetter (length p) x → IsGood p s
    → IsLater p s (run s (cycle_text (cycle_of p x))) × ((z : ℕ) → has (cycle_of p x) z ≡ true → IsSettled p (run s (cycle_text (cycle_of p x))) z)
cycle_later p x s perm few l g =
    let ys = path p x (image p x) in
    let open' : CycleScan = record { images = s.images; first = s.first; last = 0 } in
    let t : CycleScan = record { images = set s.images 0 x; first = x; last = x } in
    let put = put_nothing p s t x g refl in
    let rest = round p x (length ys) x t perm few l refl refl put.good (omega arith) (IsOnPath-image p x perm l) in
    let is : run s (cycle_text (cycle_of p x)) ≡ run t (others_text ys ++ 41 ∷ []) = ap (λ j. run s (40 ∷ j ++ 41 ∷ [])) (join-others x ys) ∙ ap (λ u. run u (others_text ys ++ 41 ∷ [])) (at_digit open' x (l.0, omega (arith, l.1, few))) in
    rw is (later_trans p s t (run t (others_text ys ++ 41 ∷ [])) put rest.0, rest.1)

abbrev stands : List (List ℕ) → ℕ → Bool
stands cs y = list_any (λ c. has c y) cs

abbrev begun : List ℕ → ℕ → ℕ → List (List ℕ)
begun p k n = map (cycle_of p) (filter (begins_cycle p) (numbers_from k n))

-- the cycles that begin at some letters
cycles_later : (p : List ℕ) (k n : ℕ) (s : CycleScan) → IsPermutation (length p) p → length p ≤ 8 → 1 ≤ k → k + n ≤ suc (length p) → IsGood p s
    → IsLater p s (run s (flat_map cycle_text (begun p k n))) × ((z : ℕ) → IsLetter (length p) z → stands (begun p k n) z ≡ true → IsSettled p (run s (flat_map cycle_text (begun p k n))) z)
cycles_later p k zero s perm few a b g = (record { good = g; keeps = λ z l h. h }, λ z l h. (let f : false ≡ true = h in cc))
cycles_later p k (suc n) s perm few a b g = elim (cases_Bool (begins_cycle p k)) [
  | inr f ↦ rw f (cycles_later p (suc k) n s perm few (omega arith) (omega arith) g)
  | inl t ↦
      let here = cycle_later p k s perm few (a, omega arith) g in
      let u = run s (cycle_text (cycle_of p k)) in
      let more = flat_map cycle_text (begun p (suc k) n) in
      let rest = cycles_later p (suc k) n u perm few (omega arith) (omega arith) here.0.good in
      let is : run s (cycle_text (cycle_of p k) ++ more) ≡ run u more = fold-append after_byte s (cycle_text (cycle_of p k)) more in
      rw (t, is) (
        later_trans p s u (run u more) here.0 rest.0,
        λ z l h. elim (or_cases (has (cycle_of p k) z) (stands (begun p (suc k) n) z) h) [ inl q ↦ rest.0.keeps z l (here.1 z q) | inr q ↦ rest.1 z l q ],
      )
]

-- a letter that stands in no cycle stays
next_in-stays : (x : ℕ) (c : List ℕ) (y : ℕ) → has c y ≡ false → next_in x c y ≡ y
next_in-stays x [] y h = refl
next_in-stays x (z ∷ []) y h = let f = (or_parts (eqb y z) false h).0 in ap (λ b. cond b x y) f
next_in-stays x (z ∷ w ∷ c) y h =
    let p = or_parts (eqb y z) (has (w ∷ c) y) h in
    ap (λ b. cond b w (next_in x (w ∷ c) y)) p.0 ∙ next_in-stays x (w ∷ c) y p.1

cycle_image-stays : (c : List ℕ) (y : ℕ) → has c y ≡ false → cycle_image c y ≡ y
cycle_image-stays [] y h = refl
cycle_image-stays (x ∷ c) y h = next_in-stays x (x ∷ c) y h

cycles_image-stays : (cs : List (List ℕ)) (y : ℕ) → stands cs y ≡ false → cycles_image cs y ≡ y
cycles_image-stays [] y h = refl
cycles_image-stays (c ∷ cs) y h = let p = or_parts (has c y) (stands cs y) h in ap (cycles_image cs) (cycle_image-stays c y p.0) ∙ cycles_image-stays cs y p.1

good_first : (p : List ℕ) → length p ≤ 8 → IsGood p first_scan
good_first p few = record { size = refl; each = λ z l. inl (get_or-numbers_from 0 9 z 0 (omega (arith, l.1)) ∙ omega arith) }

scanned : (p : List ℕ) (z : ℕ) → IsPermutation (length p) p → length p ≤ 8 → IsLetter (length p) z → get_or (run first_scan (cycles_text p)).images z 0 ≡ image p z
scanned p z perm few l =
    let all = cycles_later p 1 (length p) first_scan perm few (omega arith) (omega arith) (good_first p few) in
    elim (cases_Bool (stands (cycles_of p) z)) [
      | inl t ↦ all.1 z l t
      | inr f ↦
          let stays : image p z ≡ z = sym (cycles_image-cycles_of p z perm) ∙ cycles_image-stays (cycles_of p) z f in
          elim (all.0.good.each z l) [ inl q ↦ q ∙ sym stays | inr q ↦ q ]
    ]

-- the images at places 1 to d
pub scan_is : (d : ℕ) (p images : List ℕ) → d ≤ 8 → IsPermutation d p → images ≡ (run first_scan (cycles_text p)).images → take d (drop 1 images) ≡ p
scan_is d p images few perm e =
    let perm' : IsPermutation (length p) p = rw perm.degree perm in
    let few' : length p ≤ 8 = omega (arith, few, perm.degree) in
    let all = cycles_later p 1 (length p) first_scan perm' few' (omega arith) (omega arith) (good_first p few') in
    let size : length images ≡ 9 = ap length e ∙ all.0.good.size in
    let width : length (take d (drop 1 images)) ≡ d = length-take-le d (drop 1 images) (omega (arith, length-drop 1 images, size, few)) in
    ext_get_or 0 (take d (drop 1 images)) p (width ∙ sym perm.degree) (λ i l.
    let k : i < d = omega (arith, l, width) in
    let one : 1 + i ≡ suc i = omega arith in
    get_or-take d (drop 1 images) i 0 k ∙ get_or-drop 1 images i 0 ∙ ap (λ j. get_or images j 0) one ∙ ap (λ is. get_or is (suc i) 0) e
    ∙ scanned p (suc i) perm' few' (omega arith, omega (arith, k, perm.degree)) ∙ get_or_default p i (suc i) 0 (omega (arith, k, perm.degree)))

-- a permutation is told by its cycles
pub cycles_text-same : (d : ℕ) (p q : List ℕ) → d ≤ 8 → IsPermutation d p → IsPermutation d q → cycles_text p ≡ cycles_text q → p ≡ q
cycles_text-same d p q few a b e =
    sym (scan_is d p (run first_scan (cycles_text p)).images few a refl) ∙ ap (λ t. take d (drop 1 (run first_scan t).images)) e ∙ scan_is d q (run first_scan (cycles_text q)).images few b refl
