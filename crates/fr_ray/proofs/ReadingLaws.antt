-- How the text of a ray is cut into its parts, and read.
use Rattle.std.proofs.Common.{ℕ, zero, suc, true, false, ◌≡◌, ◌≢◌, ◌+◌, ◌-◌, ◌<◌, ◌≤◌, ◌⊎◌, inl, inr, List, [], ◌∷◌, ◌++◌, length, take, drop, get_or, map, refl, sym, ◌∙◌, ap, arith, Some, None, Option, Result, Ok, Err, eq-eqb, length-append, append_assoc}
use Rattle.std.specs.List.{prefix_len}
use Rattle.std.proofs.lemmas.Bool.{cases_eq, cases_lt, ne_eqb, le-leb, le-ltb, lt-leb, and_from}
use Rattle.std.proofs.Math.Bool.{and-false}
use Rattle.std.specs.Prelude.{nat_le}
use Rattle.std.proofs.lemmas.List.{take_rest, take_at, drop_at, drop_more, drop_all, length-map, take-append-drop, length-take-le}
use Rattle.std.proofs.lemmas.List.Sums.{prefix_len_is, prefix_len-le-length}
use Rattle.fr_model.specs.Words.{IsWord}
use Rattle.fr_model.proofs.TermLaws.{IsWord-append}
use Rattle.fr_alphabet.specs.Reading.{is_letter_digit, letter_of_digit, bad_place}
use Rattle.fr_alphabet.specs.Writing.{letter_digit}
use Rattle.fr_alphabet.proofs.Readings.{is_letter_digit-from}
use Rattle.fr_ray.specs.Rays.{RayView, IsBoundedRay}
use Rattle.fr_ray.proofs.RayLaws.{some_length}
use Rattle.fr_ray.specs.Reading.{is_digit, digits_of, behind_digits, closed_shape, period_shape, opened_shape, ray_shape, letters_reading, ray_reading}
use Rattle.fr_ray.specs.Writing.{ray_text}
use Rattle.fr_ray.specs.declared.fault.RayText.{RayText}
use Rattle.fr_ray.specs.declared.fault.RayText.TheVariants.{EmptyPeriod, Syntax}

-- ---- digits
pub is_digit-from : (c : ℕ) → 48 ≤ c → c ≤ 57 → is_digit c ≡ true
is_digit-from c a b = and_from (nat_le 48 c) (nat_le c 57) (le-leb 48 c a) (le-leb c 57 b)

pub is_digit-low : (c : ℕ) → c < 48 → is_digit c ≡ false
is_digit-low c a = rw (lt-leb 48 c a) refl

pub is_digit-high : (c : ℕ) → 57 < c → is_digit c ≡ false
is_digit-high c a = rw (lt-leb c 57 a) (and-false (nat_le 48 c))

pub digits_stop : (text : List ℕ) (i : ℕ) → i < length text → ((k : ℕ) → k < i → is_digit (get_or text k 0) ≡ true) → is_digit (get_or text i 0) ≡ false → take i text ≡ digits_of text
digits_stop text i l h e = ap (λ n. take n text) (sym (prefix_len_is is_digit text i 0 (omega arith) h (λ _. e)))

pub digits_all : (text : List ℕ) (i : ℕ) → length text ≤ i → ((k : ℕ) → k < i → is_digit (get_or text k 0) ≡ true) → text ≡ digits_of text
digits_all text i l h =
    let n = length text in
    let e : prefix_len is_digit text ≡ n = prefix_len_is is_digit text n 0 (omega arith) (λ k m. h k (omega arith)) (λ m. absurd (omega arith)) in
    sym (ap (λ k. take k text) e ∙ take_all text)
  where
    take_all : (w : List ℕ) → take (length w) w ≡ w
    take_all [] = refl
    take_all (x ∷ w) = ap (λ v. x ∷ v) (take_all w)

length-digits_of : (text : List ℕ) → length (digits_of text) ≡ prefix_len is_digit text
length-digits_of text = length-take-le (prefix_len is_digit text) text (prefix_len-le-length is_digit text)

-- what is left of the text
pub rest_behind : (text before rest : List ℕ) → before ≡ digits_of text → rest ≡ take (length text - length before) (drop (length before) text) → rest ≡ behind_digits text
rest_behind text before rest e f = f ∙ take_rest text (length before) ∙ ap (λ n. drop n text) (ap length e ∙ length-digits_of text)

pub length-parts : (text : List ℕ) → length text ≡ length (digits_of text) + length (behind_digits text)
length-parts text = sym (ap length (take-append-drop (prefix_len is_digit text) text)) ∙ length-append (digits_of text) (behind_digits text)

-- digits before what is no digit
digits_before : (w : List ℕ) (c : ℕ) (rest : List ℕ) → ((k : ℕ) → k < length w → is_digit (get_or w k 0) ≡ true) → is_digit c ≡ false → prefix_len is_digit (w ++ c ∷ rest) ≡ length w
digits_before [] c rest h e = rw e refl
digits_before (x ∷ w) c rest h e =
    let f : 1 + length w ≡ suc (length w) = omega arith in
    rw (h 0 (omega arith)) (ap (λ n. 1 + n) (digits_before w c rest (λ k l. h (suc k) (omega arith)) e) ∙ f)

-- ---- the parentheses
pub opened_end : (before rest : List ℕ) → length rest ≡ 0 → opened_shape before rest ≡ Err (Syntax (length before + 1))
opened_end before [] e = refl
opened_end before (c ∷ rest) e = absurd (omega arith)

pub opened_not : (before rest : List ℕ) → get_or rest 0 0 ≢ 40 → opened_shape before rest ≡ Err (Syntax (length before + 1))
opened_not before [] n = refl
opened_not before (c ∷ rest) n = rw (ne_eqb c 40 n) refl

pub opened_then : (before rest : List ℕ) → get_or rest 0 0 ≡ 40 → opened_shape before rest ≡ period_shape before (digits_of (drop 1 rest)) (behind_digits (drop 1 rest))
opened_then before [] e = absurd (omega arith)
opened_then before (c ∷ rest) e = rw (eq-eqb c 40 e) refl

pub shape_empty : (before period rest : List ℕ) → length period ≡ 0 → get_or rest 0 0 ≡ 41 → length rest ≡ 1 → period_shape before period rest ≡ Err EmptyPeriod
shape_empty before (x ∷ period) rest e f g = absurd (omega arith)
shape_empty before [] [] e f g = absurd (omega arith)
shape_empty before [] (c ∷ []) e f g = rw (eq-eqb c 41 f) refl
shape_empty before [] (c ∷ y ∷ rest) e f g = absurd (omega arith)

pub shape_whole : (before period rest : List ℕ) → 0 < length period → get_or rest 0 0 ≡ 41 → length rest ≡ 1 → period_shape before period rest ≡ Ok (record { before = before; period = period })
shape_whole before [] rest e f g = absurd (omega arith)
shape_whole before (x ∷ period) [] e f g = absurd (omega arith)
shape_whole before (x ∷ period) (c ∷ []) e f g = rw (eq-eqb c 41 f) refl
shape_whole before (x ∷ period) (c ∷ y ∷ rest) e f g = absurd (omega arith)

pub shape_goes_on : (before period rest : List ℕ) (place : ℕ) → 0 < length period → get_or rest 0 0 ≡ 41 → 1 < length rest → place ≡ length before + length period + 2 + 1 → period_shape before period rest ≡ Err (Syntax place)
shape_goes_on before [] rest place e f g h = absurd (omega arith)
shape_goes_on before (x ∷ period) [] place e f g h = absurd (omega arith)
shape_goes_on before (x ∷ period) (c ∷ []) place e f g h = absurd (omega arith)
shape_goes_on before (x ∷ period) (c ∷ y ∷ rest) place e f g h = rw (eq-eqb c 41 f) (ap (λ p. Err (Syntax p)) (sym h))

pub shape_open : (before period rest : List ℕ) (place : ℕ) → (length rest ≡ 0) ⊎ (get_or rest 0 0 ≢ 41) → place ≡ length before + length period + 2 → period_shape before period rest ≡ Err (Syntax place)
shape_open before [] [] place o h = let e : length before + 2 ≡ place = omega arith in ap (λ p. Err (Syntax p)) e
shape_open before [] (c ∷ []) place (inl e) h = absurd (omega arith)
shape_open before [] (c ∷ []) place (inr n) h = let e : length before + 2 ≡ place = omega arith in rw (ne_eqb c 41 n) (ap (λ p. Err (Syntax p)) e)
shape_open before [] (c ∷ y ∷ rest) place o h = let e : length before + 2 ≡ place = omega arith in ap (λ p. Err (Syntax p)) e
shape_open before (x ∷ period) [] place o h = ap (λ p. Err (Syntax p)) (sym h)
shape_open before (x ∷ period) (c ∷ rest) place (inl e) h = absurd (omega arith)
shape_open before (x ∷ period) (c ∷ rest) place (inr n) h = rw (ne_eqb c 41 n) (ap (λ p. Err (Syntax p)) (sym h))

pub shape_empty_open : (before period rest : List ℕ) (place : ℕ) → length period ≡ 0 → length rest ≢ 1 → place ≡ length before + length period + 2 → period_shape before period rest ≡ Err (Syntax place)
shape_empty_open before (x ∷ period) rest place e n h = absurd (omega arith)
shape_empty_open before [] [] place e n h = let f : length before + 2 ≡ place = omega arith in ap (λ p. Err (Syntax p)) f
shape_empty_open before [] (c ∷ []) place e n h = absurd (omega arith)
shape_empty_open before [] (c ∷ y ∷ rest) place e n h = let f : length before + 2 ≡ place = omega arith in ap (λ p. Err (Syntax p)) f

-- ---- what a right text has
pub record HasParts (text : List ℕ) (p : RayView) : Type 0 where
  pub some : 0 < length p.period
  pub size : length text ≡ length p.before + length p.period + 2

ok_same : (x y : RayView) → ◌≡◌ {A = Result RayView RayText} (Ok x) (Ok y) → x ≡ y
ok_same x y e = cc

closed_right : (before period : List ℕ) (place : ℕ) (rest : List ℕ) (p : RayView) → closed_shape before period place rest ≡ Ok p → (record { before = before; period = period } ≡ p) × (length rest ≡ 1)
closed_right before period place [] p e = cc
closed_right before period place (c ∷ []) p e = elim (cases_eq c 41) [
  | inl f ↦ (ok_same (record { before = before; period = period }) p (rw (eq-eqb c 41 f) at e), omega arith)
  | inr n ↦ let g = rw (ne_eqb c 41 n) at e in cc
]
closed_right before period place (c ∷ y ∷ rest) p e = elim (cases_eq c 41) [
  | inl f ↦ let g = rw (eq-eqb c 41 f) at e in cc
  | inr n ↦ let g = rw (ne_eqb c 41 n) at e in cc
]

period_right : (before period rest : List ℕ) (p : RayView) → period_shape before period rest ≡ Ok p → (record { before = before; period = period } ≡ p) × (0 < length period) × (length rest ≡ 1)
period_right before [] rest p e = cc
period_right before (x ∷ period) rest p e = let r = closed_right before (x ∷ period) _ rest p e in (r.0, omega arith, r.1)

opened_right : (before rest : List ℕ) (p : RayView) → opened_shape before rest ≡ Ok p → (0 < length p.period) × (length before + length rest ≡ length p.before + length p.period + 2)
opened_right before [] p e = cc
opened_right before (c ∷ rest) p e = elim (cases_eq c 40) [
  | inr n ↦ let g = rw (ne_eqb c 40 n) at e in cc
  | inl f ↦
      let r = period_right before (digits_of rest) (behind_digits rest) p (rw (eq-eqb c 40 f) at e) in
      let b : before ≡ p.before = ap (λ q. q.before) r.0 in
      let v : digits_of rest ≡ p.period = ap (λ q. q.period) r.0 in
      (omega (arith, r.1, ap length v), omega (arith, ap length b, ap length v, r.2, length-parts rest))
]

pub shape_right : (text : List ℕ) (p : RayView) → ray_shape text ≡ Ok p → HasParts text p
shape_right text p e = let r = opened_right (digits_of text) (behind_digits text) p e in record { some = r.0; size = length-parts text ∙ r.1 }

-- ---- the letters
pub letter_digit_low : (d c : ℕ) → c < 49 → is_letter_digit d c ≡ false
letter_digit_low d c l = rw (lt-leb 49 c l) refl

pub letter_digit_high : (d c : ℕ) → 48 + d < c → is_letter_digit d c ≡ false
letter_digit_high d c l = rw (lt-leb c (48 + d) l) (and-false (nat_le 49 c))

-- one digit more
pub bad_place_on : (d k : ℕ) (text : List ℕ) (i : ℕ) (end : Option ℕ) → i < length text → is_letter_digit d (get_or text i 0) ≡ true → bad_place d (k + i) (drop i text) ≡ end → bad_place d (k + (i + 1)) (drop (i + 1) text) ≡ end
bad_place_on d k text i end l g e =
    let f : suc (k + i) ≡ k + (i + 1) = omega arith in
    ap (λ n. bad_place d n (drop (i + 1) text)) (sym f) ∙ (rw (drop_more text i 0 l, g) at e)

pub bad_place_here : (d k : ℕ) (text : List ℕ) (i : ℕ) (end : Option ℕ) → i < length text → is_letter_digit d (get_or text i 0) ≡ false → bad_place d (k + i) (drop i text) ≡ end → end ≡ Some (k + i)
bad_place_here d k text i end l g e = sym (rw (drop_more text i 0 l, g) at e)

pub bad_place_none : (d k : ℕ) (text : List ℕ) (i : ℕ) (end : Option ℕ) → length text ≤ i → bad_place d (k + i) (drop i text) ≡ end → end ≡ None
bad_place_none d k text i end l e = sym (rw (drop_all i text l) at e)

-- digits with no bad place are letters
pub good_letters : (d k : ℕ) (text : List ℕ) → bad_place d k text ≡ None → IsWord d (map letter_of_digit text)
good_letters d k [] e = tt
good_letters d k (c ∷ text) e = elim (cases_lt c 49) [
  | inl l ↦ let f = rw (letter_digit_low d c l) at e in cc
  | inr g ↦ elim (cases_lt (48 + d) c) [
    | inl l ↦ let f = rw (letter_digit_high d c l) at e in cc
    | inr m ↦ ((omega arith, omega arith), good_letters d (suc k) text (rw (is_letter_digit-from d c g m) at e))
  ]
]

-- the two strings of digits as letters, one behind the other
pub record AreLetters (d : ℕ) (text before period letters : List ℕ) : Type 0 where
  pub word : IsWord d letters
  pub size : length letters ≤ 4096
  pub reads : ray_reading d text ≡ Ok (record { before = map letter_of_digit before; period = map letter_of_digit period })
  pub front : take (length before) letters ≡ map letter_of_digit before
  pub rest : drop (length before) letters ≡ map letter_of_digit period
  pub inside : length before < length letters

pub AreLetters-from : (d : ℕ) (text before period letters : List ℕ) → length text ≤ 4098 → ray_shape text ≡ Ok (record { before = before; period = period }) → bad_place d 1 before ≡ None → bad_place d (length before + 2) period ≡ None
    → letters ≡ map letter_of_digit before ++ map letter_of_digit period → AreLetters d text before period letters
AreLetters-from d text before period letters few shape good good' e =
    let u = map letter_of_digit before in
    let v = map letter_of_digit period in
    let parts = shape_right text (record { before = before; period = period }) shape in
    let length-u : length u ≡ length before = length-map before letter_of_digit in
    let length-v : length v ≡ length period = length-map period letter_of_digit in
    let size : length letters ≡ length u + length v = ap length e ∙ length-append u v in
    record {
      word = rw e (IsWord-append d u v (good_letters d 1 before good) (good_letters d (length before + 2) period good'));
      size = omega (arith, parts.size, size, length-u, length-v);
      reads = rw (le-ltb 4098 (length text) few, shape, good, good') refl;
      front = ap (take (length before)) e ∙ take_at u v (length before) length-u;
      rest = ap (drop (length before)) e ∙ drop_at u v (length before) length-u;
      inside = omega (arith, parts.some, size, length-u, length-v);
    }

-- ---- the text of a ray
-- no digit of a word is bad
no_bad_place : (d k : ℕ) (w : List ℕ) → IsWord d w → bad_place d k (map letter_digit w) ≡ None
no_bad_place d k [] h = refl
no_bad_place d k (x ∷ w) h = rw (is_letter_digit-from d (letter_digit x) (omega (arith, h.0.0)) (omega (arith, h.0.1))) (no_bad_place d (suc k) w h.1)

letters_back : (w : List ℕ) → map letter_of_digit (map letter_digit w) ≡ w
letters_back [] = refl
letters_back (x ∷ w) = let e : letter_of_digit (letter_digit x) ≡ x = omega arith in rw (e, letters_back w) refl

letters_are_digits : (w : List ℕ) → IsWord 8 w → (k : ℕ) → k < length (map letter_digit w) → is_digit (get_or (map letter_digit w) k 0) ≡ true
letters_are_digits (x ∷ w) h zero l = is_digit-from (letter_digit x) (omega (arith, h.0.0)) (omega (arith, h.0.1))
letters_are_digits (x ∷ w) h (suc k) l = letters_are_digits w h.1 k (omega arith)
letters_are_digits [] h k l = absurd (omega arith)

digits_of-before : (w : List ℕ) (c : ℕ) (rest : List ℕ) → IsWord 8 w → is_digit c ≡ false → (digits_of (map letter_digit w ++ c ∷ rest) ≡ map letter_digit w) × (behind_digits (map letter_digit w ++ c ∷ rest) ≡ c ∷ rest)
digits_of-before w c rest h e =
    let v = map letter_digit w in
    let n : prefix_len is_digit (v ++ c ∷ rest) ≡ length v = digits_before v c rest (letters_are_digits w h) e in
    (ap (λ k. take k (v ++ c ∷ rest)) n ∙ take_at v (c ∷ rest) (length v) refl, ap (λ k. drop k (v ++ c ∷ rest)) n ∙ drop_at v (c ∷ rest) (length v) refl)

period_shape-text : (before period : List ℕ) → 0 < length period → period_shape before (map letter_digit period) (41 ∷ []) ≡ Ok (record { before = before; period = map letter_digit period })
period_shape-text before [] l = absurd (omega arith)
period_shape-text before (x ∷ period) l = refl

ray_shape-text : (r : RayView) → IsWord 8 r.before → IsWord 8 r.period → 0 < length r.period → ray_shape (ray_text r) ≡ Ok (record { before = map letter_digit r.before; period = map letter_digit r.period })
ray_shape-text r h k l =
    let u = map letter_digit r.before in
    let v = map letter_digit r.period in
    let text : ray_text r ≡ u ++ 40 ∷ (v ++ 41 ∷ []) = append_assoc u (40 ∷ v) (41 ∷ []) in
    let a = digits_of-before r.before 40 (v ++ 41 ∷ []) h refl in
    let b = digits_of-before r.period 41 [] k refl in
    rw (text, a.0, a.1, b.0, b.1) (period_shape-text u r.period l)

letters_reading-text : (d : ℕ) (r : RayView) → IsWord d r.before → IsWord d r.period → letters_reading d (record { before = map letter_digit r.before; period = map letter_digit r.period }) ≡ Ok r
letters_reading-text d r h k =
    let u = map letter_digit r.before in
    rw (no_bad_place d 1 r.before h, no_bad_place d (length u + 2) r.period k, letters_back r.before, letters_back r.period) refl

length-ray_text : (r : RayView) → length (ray_text r) ≡ length r.before + length r.period + 2
length-ray_text r =
    let u = map letter_digit r.before in
    let v = map letter_digit r.period in
    omega (arith, length-append (u ++ 40 ∷ v) (41 ∷ []), length-append u (40 ∷ v), length-map r.before letter_digit, length-map r.period letter_digit)

-- the text reads as the ray
ray_reading-ray_text : (d : ℕ) (r : RayView) → IsWord 8 r.before → IsWord 8 r.period → 0 < length r.period → length r.before + length r.period ≤ 4096 → IsWord d r.before → IsWord d r.period → ray_reading d (ray_text r) ≡ Ok r
ray_reading-ray_text d r h k l m a b =
    rw (le-ltb 4098 (length (ray_text r)) (omega (arith, length-ray_text r)), ray_shape-text r h k l) (letters_reading-text d r a b)

pub text_reads_back : (r : RayView) → IsBoundedRay r → (d : ℕ) → IsWord d r.before → IsWord d r.period → ray_reading d (ray_text r) ≡ Ok r
text_reads_back r h d a b = ray_reading-ray_text d r h.canonical.beginning h.canonical.period (some_length r.period h.canonical.some) h.most a b
