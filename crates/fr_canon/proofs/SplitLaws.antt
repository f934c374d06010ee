-- Texts that are split at a byte, and the decimal numbers before it.
use Rattle.std.proofs.Common.{ℕ, suc, ◌≡◌, ◌≢◌, ◌+◌, ◌-◌, ◌*◌, ◌<◌, ◌≤◌, ◌⊎◌, inl, inr, Bool, true, false, not, cond, List, [], ◌∷◌, ◌++◌, length, take, drop, get_or, refl, sym, ◌∙◌, ap, arith, rules, Some, None}
use Rattle.std.specs.Prelude.{◌==◌, nat_le}
use Rattle.std.specs.List.{position, position_or_len}
use Rattle.fr_canon.specs.Readings.{free, Free}
use Rattle.std.specs.Fmt.{decimal}
use Rattle.std.specs.Str.{all_ascii_digits}
use Rattle.std.specs.Char.{is_ascii_digit}
use Rattle.std.proofs.lemmas.Bool.{cases_lt, le-leb, lt-ltb, and_parts, and_from, ne_eqb, eq-eqb, eqb-true, not_from_false}
use Rattle.std.proofs.lemmas.Fmt.{digits_decimal, decimal-digits_value, decimal_injective, first_decimal, decimal_nonempty, length-decimal-le, decimal_digit}
use Rattle.std.proofs.lemmas.Str.Parse.{IsNumeralModel, numerals_by_fold, not_in_digits, digits_value_short}
use Rattle.std.proofs.lemmas.List.{take-append-drop, drop_more, get_or-take, length-take-le, length-append, take_more, take_rest}
use Rattle.std.proofs.lemmas.List.Quantifiers.{position-Some}

pub Free-append : (c : ℕ) (u v : List ℕ) → Free c u → Free c v → Free c (u ++ v)
Free-append c [] v a b = b
Free-append c (x ∷ u) v a b = let p = and_parts (not (x == c)) (free c u) a in and_from (not (x == c)) (free c (u ++ v)) p.0 (Free-append c u v p.1 b)

Free-from_reads : (c : ℕ) (u : List ℕ) → ((k : ℕ) → k < length u → (get_or u k 0 == c) ≡ false) → Free c u
Free-from_reads c [] h = refl
Free-from_reads c (x ∷ u) h = and_from (not (x == c)) (free c u) (not_from_false (x == c) (h 0 (omega arith))) (Free-from_reads c u (λ k l. h (suc k) (omega arith)))

not_here : (c x : ℕ) (u : List ℕ) → Free c (x ∷ u) → x ≡ c → ⊥
not_here c x u f e = let p = and_parts (not (x == c)) (free c u) f in let t = eq-eqb x c e in cc

-- what stands before the first such byte, and what stands behind it
pub split_once : (c : ℕ) (u v r s : List ℕ) → Free c u → Free c v → u ++ c ∷ r ≡ v ++ c ∷ s → (u ≡ v) × (r ≡ s)
split_once c [] [] r s f g e = (refl, cc)
split_once c [] (y ∷ v) r s f g e = let h : y ≡ c = cc in absurd (not_here c y v g h)
split_once c (x ∷ u) [] r s f g e = let h : x ≡ c = cc in absurd (not_here c x u f h)
split_once c (x ∷ u) (y ∷ v) r s f g e =
    let h : x ≡ y = cc in
    let t : u ++ c ∷ r ≡ v ++ c ∷ s = cc in
    let k = split_once c u v r s (and_parts (not (x == c)) (free c u) f).1 (and_parts (not (y == c)) (free c v) g).1 t in
    (rw (h, k.0) refl, k.1)

-- the first place of a byte
pub place_splits : (c : ℕ) (text : List ℕ) (i : ℕ) → position (λ b. b == c) text ≡ Some i → (i < length text) × Free c (take i text) × (text ≡ take i text ++ c ∷ drop (i + 1) text)
place_splits c text i e =
    let p = position-Some (λ b. b == c) text i 0 e in
    let size : length (take i text) ≡ i = length-take-le i text (omega (arith, p.0)) in
    let is : get_or text i 0 ≡ c = eqb-true (get_or text i 0) c p.1 in (
      p.0,
      Free-from_reads c (take i text) (λ k l. let h : k < i = omega (arith, l, size) in ap (λ b. b == c) (get_or-take i text k 0 h) ∙ p.2 k h),
      sym (take-append-drop i text) ∙ ap (λ t. take i text ++ t) (drop_more text i 0 p.0 ∙ ap (λ b. b ∷ drop (i + 1) text) is),
    )

-- where there is none, the text has no part before it
pub no_place : (c : ℕ) (text u r : List ℕ) → position (λ b. b == c) text ≡ None → text ≢ u ++ c ∷ r
no_place c text u r n e =
    let h : position_or_len (λ b. b == c) text < length text = omega (arith, within u, ap (position_or_len (λ b. b == c)) e, ap length e, length-append u (c ∷ r)) in
    let t = lt-ltb (position_or_len (λ b. b == c) text) (length text) h in
    let some : position (λ b. b == c) text ≡ Some (position_or_len (λ b. b == c) text) = ap (λ b. cond b (Some (position_or_len (λ x. x == c) text)) None) t in
    let clash : Some (position_or_len (λ b. b == c) text) ≡ None = sym some ∙ n in
    cc
  where
    at : (b : Bool) (m k : ℕ) → m ≤ k → cond (not b) (1 + m) 0 ≤ suc k
    at true m k l = omega arith
    at false m k l = omega arith

    within : (v : List ℕ) → position_or_len (λ b. b == c) (v ++ c ∷ r) ≤ length v
    within [] = let t = eq-eqb c c refl in rw t (omega arith)
    within (x ∷ v) = at (x == c) (position_or_len (λ b. b == c) (v ++ c ∷ r)) (length v) (within v)

-- ---- decimal numbers
abbrev pub read_on : ℕ → List ℕ → ℕ
read_on n [] = n
read_on n (c ∷ cs) = read_on (10 * n + (c - 48)) cs

pub own : IsNumeralModel (λ ds. all_ascii_digits ds ≡ true) (read_on 0)
own = numerals_by_fold _ (search rules) read_on (search rules)

-- a byte that is no digit
abbrev pub IsNoDigit : ℕ → Type 0
IsNoDigit c = (c < 48) ⊎ (57 < c)

Free-digits : (c : ℕ) (ds : List ℕ) → IsNoDigit c → all_ascii_digits ds ≡ true → Free c ds
Free-digits c ds n a = Free-from_reads c ds (λ k l. ne_eqb (get_or ds k 0) c (not_in_digits own ds c a (λ h. elim n [ inl x ↦ omega (arith, h, x) | inr x ↦ omega (arith, h, x) ]) k l))

pub Free-decimal : (c n : ℕ) → IsNoDigit c → n < 10000 → Free c (decimal n)
Free-decimal c n x l = Free-digits c (decimal n) x (digits_decimal own n (omega arith))

pub decimal_apart : (c m n : ℕ) (r s : List ℕ) → IsNoDigit c → m < 10000 → n < 10000 → decimal m ++ c ∷ r ≡ decimal n ++ c ∷ s → (m ≡ n) × (r ≡ s)
decimal_apart c m n r s x a b e =
    let k = split_once c (decimal m) (decimal n) r s (Free-decimal c m x a) (Free-decimal c n x b) e in
    (decimal_injective m n (omega arith) (omega arith) k.0, k.1)

-- digits without a leading zero are those of their number
pub decimal_read : (ds : List ℕ) → all_ascii_digits ds ≡ true → 0 < length ds → length ds ≤ 4 → get_or ds 0 0 ≢ 48 → (1 ≤ read_on 0 ds) × (read_on 0 ds < 10000) × (ds ≡ decimal (read_on 0 ds))
decimal_read ds a some few first =
    let small : read_on 0 ds < 10000 = digits_value_short own ds 4 a few in
    let e : decimal (read_on 0 ds) ≡ ds = decimal-digits_value own ds a some (λ z. absurd (first z)) (omega arith) in
    let least : 1 ≤ read_on 0 ds = elim (cases_lt 0 (read_on 0 ds)) [
      | inl h ↦ h
      | inr h ↦
          let z : read_on 0 ds ≡ 0 = omega arith in
          absurd (first (ap (λ t. get_or t 0 0) (sym e ∙ ap decimal z ∙ decimal_digit 0 (omega arith))))
    ] in
    (least, small, sym e)

-- no number has these digits
pub not_decimal : (ds : List ℕ) (n : ℕ) → 1 ≤ n → n < 10000 → ds ≡ decimal n → (all_ascii_digits ds ≡ true) × (0 < length ds) × (length ds ≤ 4) × (get_or ds 0 0 ≢ 48)
not_decimal ds n a b e = rw e (digits_decimal own n (omega arith), decimal_nonempty n (omega arith), length-decimal-le 4 n (omega arith) b (omega arith), λ z. let f = first_decimal n (omega arith) (omega arith) in omega arith)

read_on-push : (n : ℕ) (ds : List ℕ) (c : ℕ) → read_on n (ds ++ c ∷ []) ≡ 10 * read_on n ds + (c - 48)
read_on-push n [] c = refl
read_on-push n (x ∷ ds) c = read_on-push (10 * n + (x - 48)) ds c

is_digit : (c : ℕ) → 48 ≤ c → c ≤ 57 → is_ascii_digit c ≡ true
is_digit c l h = and_from (nat_le 48 c) (nat_le c 57) (le-leb 48 c l) (le-leb c 57 h)

digits_push : (ds : List ℕ) (c : ℕ) → all_ascii_digits ds ≡ true → 48 ≤ c → c ≤ 57 → all_ascii_digits (ds ++ c ∷ []) ≡ true
digits_push [] c a l h = and_from (is_ascii_digit c) true (is_digit c l h) refl
digits_push (x ∷ ds) c a l h = let p = and_parts (is_ascii_digit x) (all_ascii_digits ds) a in and_from (is_ascii_digit x) (all_ascii_digits (ds ++ c ∷ [])) p.0 (digits_push ds c p.1 l h)

-- one digit more
pub read_more : (ds : List ℕ) (i number c next : ℕ) → i < length ds → c ≡ get_or ds i 0 → 48 ≤ c → c ≤ 57 → all_ascii_digits (take i ds) ≡ true → number ≡ read_on 0 (take i ds) → next ≡ number * 10 + (c - 48) → (all_ascii_digits (take (i + 1) ds) ≡ true) × (next ≡ read_on 0 (take (i + 1) ds))
read_more ds i number c next l e a b d n f =
    let more : take (i + 1) ds ≡ take i ds ++ c ∷ [] = take_more ds i 0 l ∙ ap (λ x. take i ds ++ x ∷ []) (sym e) in
    rw more (digits_push (take i ds) c d a b, omega (arith, f, n, read_on-push 0 (take i ds) c))

-- fewer than four digits write a number below 1,000
pub read_small : (ds : List ℕ) (i number : ℕ) → i < length ds → length ds ≤ 4 → all_ascii_digits (take i ds) ≡ true → number ≡ read_on 0 (take i ds) → number < 1000
read_small ds i number l m d n = omega (arith, n, digits_value_short own (take i ds) 3 d (omega (arith, length-take-le i ds (omega arith))))

-- a byte that is no digit
pub not_digit : (ds : List ℕ) (i c n : ℕ) → i < length ds → c ≡ get_or ds i 0 → IsNoDigit c → 1 ≤ n → n < 10000 → ds ≢ decimal n
not_digit ds i c n l e x a b f = not_in_digits own ds c (not_decimal ds n a b f).0 (λ h. elim x [ inl y ↦ omega (arith, h, y) | inr y ↦ omega (arith, h, y) ]) i l (sym e)

-- the part before the place is the number that is written there
pub number_at : (c : ℕ) (text : List ℕ) (i n : ℕ) (rest : List ℕ) → position (λ b. b == c) text ≡ Some i → IsNoDigit c → n < 10000 → text ≡ decimal n ++ c ∷ rest → take i text ≡ decimal n
number_at c text i n rest p x l e =
    let s = place_splits c text i p in
    (split_once c (take i text) (decimal n) (drop (i + 1) text) rest s.1 (Free-decimal c n x l) (sym s.2 ∙ e)).0

pub same_number : (m n : ℕ) → m < 10000 → n < 10000 → decimal m ≡ decimal n → m ≡ n
same_number m n a b e = decimal_injective m n (omega arith) (omega arith) e

pub number_split : (c : ℕ) (text : List ℕ) (i n : ℕ) → position (λ b. b == c) text ≡ Some i → take i text ≡ decimal n → text ≡ decimal n ++ c ∷ take (length text - (i + 1)) (drop (i + 1) text)
number_split c text i n p e = (place_splits c text i p).2 ∙ ap (λ t. t ++ c ∷ drop (i + 1) text) e ∙ ap (λ t. decimal n ++ c ∷ t) (sym (take_rest text (i + 1)))
