-- Tokens from the front on.
use Rattle.std.proofs.Common.{◌≡◌, ℕ, zero, suc, ◌+◌, ◌-◌, ◌<◌, ◌≤◌, Bool, true, false, List, [], ◌∷◌, ◌++◌, length, take, drop, get_or, take_while, refl, ap, sym, ◌∙◌, cond, not, arith, add-one, map, append_assoc, append-nil, drop-cons, Option, None, Some, unwrap_or}
use Rattle.std.proofs.Math.Dec.{eqb-suc-zero}
use Rattle.std.proofs.Math.Seq.{take-length}
use Rattle.std.proofs.Common.{nat_lt, ◌||◌, ◌==◌}
use Rattle.std.proofs.lemmas.Bool.{lt-ltb, le-ltb, false_from_ne_true}
use Rattle.memchr.specs.Find.{IsFirstByte}
use Rattle.std.proofs.lemmas.List.{drop_all, drop-map, length-drop}
use Rattle.fr_syntax.specs.declared.token.Placed.{Placed}
use Rattle.std.proofs.lemmas.List.Sums.{take_while-cons}
use Rattle.fr_syntax.specs.Tokens.{Lexeme, Name, Number, Sign}
use Rattle.fr_syntax.specs.Lines.{Located, lexemes, tokens_of, is_blank, is_letter, is_digit, is_name_byte, mark_of, rest_of_token, lexeme_of, tokens_at, located, lexeme, place_of, round_after, square_after, passes_nesting}

front_by : (x : ℕ) (xs kept : List ℕ) (b : Bool) → take (length kept) xs ≡ kept → take (length (cond b (x ∷ kept) [])) (x ∷ xs) ≡ cond b (x ∷ kept) []
front_by x xs kept true h = ap (λ l. x ∷ l) h
front_by x xs kept false h = refl

-- what passes a test from the front on is a front
pub take-take_while : (p : ℕ → Bool) (xs : List ℕ) → take (length (take_while p xs)) xs ≡ take_while p xs
take-take_while p [] = refl
take-take_while p (x ∷ xs) = rw (take_while-cons p x xs) (front_by x xs (take_while p xs) (p x) (take-take_while p xs))

within_by : (x : ℕ) (xs kept : List ℕ) (b : Bool) → length kept ≤ length xs → length (cond b (x ∷ kept) []) ≤ length (x ∷ xs)
within_by x xs kept true h = omega (arith, h)
within_by x xs kept false h = omega arith

pub length-take_while : (p : ℕ → Bool) (xs : List ℕ) → length (take_while p xs) ≤ length xs
length-take_while p [] = omega arith
length-take_while p (x ∷ xs) = rw (take_while-cons p x xs) (within_by x xs (take_while p xs) (p x) (length-take_while p xs))

pub ruleset fronts = (take-take_while, length-take_while)

-- the first byte that passes a test, or the end, tells how many stand before it
module _ (p : ℕ → Bool) where
  is_before : (xs : List ℕ) (k : ℕ) → k ≤ length xs → ((i : ℕ) → i < k → ¬ (p (get_or xs i 0) ≡ true)) → (k < length xs → p (get_or xs k 0) ≡ true) → k ≡ length (take_while (λ c. not (p c)) xs)
  is_before [] k l none here = omega (arith, l)
  is_before (x ∷ xs) zero l none here =
      let q : ℕ → Bool = λ c. not (p c) in
      sym (ap length (take_while-cons q x xs ∙ ap (λ b. cond (not b) (x ∷ take_while q xs) []) (here (omega arith))))
  is_before (x ∷ xs) (suc k) l none here =
      let q : ℕ → Bool = λ c. not (p c) in
      ap suc (is_before xs k (omega (arith, l)) (λ i a. none (suc i) (omega (arith, a))) (λ a. here (omega (arith, a))))
      ∙ sym (ap length (take_while-cons q x xs ∙ ap (λ b. cond (not b) (x ∷ take_while q xs) []) (false_from_ne_true (p x) (none 0 (omega arith)))))

  pub first_is_before : (xs : List ℕ) (r : Option ℕ) → IsFirstByte p xs r → unwrap_or r (length xs) ≡ length (take_while (λ c. not (p c)) xs)
  first_is_before xs None h = is_before xs (length xs) (omega arith) (λ i l. h i (omega arith) l) (λ l. absurd (omega (arith, l)))
  first_is_before xs (Some k) h = is_before xs k (omega (arith, h.0.high)) (λ i l. h.0.before i (omega arith) l) (λ l. h.1)

skip : (p k : ℕ) (cs : List ℕ) → tokens_at p k cs ≡ tokens_at (p + k) 0 (drop k cs)
skip p zero cs = ap (λ q. tokens_at q 0 cs) (omega arith)
skip p (suc k) [] = refl
skip p (suc k) (c ∷ cs) = skip (suc p) k cs ∙ ap (λ q. tokens_at q 0 (drop k cs)) (omega arith)

-- a blank at the front
pub blank_first : (p : ℕ) (text : List ℕ) → 0 < length text → is_blank (get_or text 0 0) ≡ true → tokens_at p 0 text ≡ tokens_at (p + 1) 0 (drop 1 text)
blank_first p [] some h = absurd (omega (arith, some))
blank_first p (c ∷ cs) some h = rw h (ap (λ q. tokens_at q 0 cs) (omega arith))

token_after : (p n : ℕ) (c : ℕ) (cs : List ℕ) → n ≡ length (rest_of_token c cs) →
    (record { lexeme = lexeme_of c (rest_of_token c cs); place = p; after = suc p + length (rest_of_token c cs) } ∷ tokens_at (suc p) (length (rest_of_token c cs)) cs)
    ≡ record { lexeme = lexeme_of c (rest_of_token c cs); place = p; after = p + suc n } ∷ tokens_at (p + suc n) 0 (drop n cs)
token_after p n c cs e =
    let tail : tokens_at (suc p) (length (rest_of_token c cs)) cs ≡ tokens_at (p + suc n) 0 (drop n cs) =
    rw (← e) (skip (suc p) n cs ∙ ap (λ q. tokens_at q 0 (drop n cs)) (omega arith)) in
    let past : suc p + length (rest_of_token c cs) ≡ p + suc n = omega arith in
    let cell : ℕ → List Located → List Located = λ q l. record { lexeme = lexeme_of c (rest_of_token c cs); place = p; after = q } ∷ l in
    ap (λ q. cell q (tokens_at (suc p) (length (rest_of_token c cs)) cs)) past ∙ ap (cell (p + suc n)) tail

-- the first token of a text that begins with no blank
first : (p n : ℕ) (c : ℕ) (cs : List ℕ) → is_blank c ≡ false → n ≡ length (rest_of_token c cs) →
    tokens_at p 0 (c ∷ cs) ≡ record { lexeme = lexeme_of c (rest_of_token c cs); place = p; after = p + suc n } ∷ tokens_at (p + suc n) 0 (drop n cs)
first p n c cs h e = rw h (token_after p n c cs e)

name_cell : (n c : ℕ) (cs : List ℕ) → is_letter c ≡ true → n ≡ length (take_while is_name_byte cs) →
    (n ≡ length (rest_of_token c cs)) × (lexeme_of c (rest_of_token c cs) ≡ Name (c ∷ take n cs))
name_cell n c cs h e = rw h (e, ap (λ l. Name (c ∷ l)) (sym (take-take_while is_name_byte cs) ∙ ap (λ k. take k cs) (sym e)))

number_cell : (n c : ℕ) (cs : List ℕ) → is_letter c ≡ false → is_digit c ≡ true → n ≡ length (take_while is_digit cs) →
    (n ≡ length (rest_of_token c cs)) × (lexeme_of c (rest_of_token c cs) ≡ Number (c ∷ take n cs))
number_cell n c cs g h e = rw (g, h) (e, ap (λ l. Number (c ∷ l)) (sym (take-take_while is_digit cs) ∙ ap (λ k. take k cs) (sym e)))

retold : (p n : ℕ) (lexeme other : Lexeme) (rest : List Located) → lexeme ≡ other →
    (record { lexeme = lexeme; place = p; after = p + suc n } ∷ rest) ≡ record { lexeme = other; place = p; after = p + suc n } ∷ rest
retold p n lexeme other rest h = let cell : Lexeme → List Located = λ l. record { lexeme = l; place = p; after = p + suc n } ∷ rest in ap cell h

-- a name at the front
pub name_first : (text : List ℕ) (n : ℕ) → 0 < length text → is_blank (get_or text 0 0) ≡ false → is_letter (get_or text 0 0) ≡ true →
    n ≡ length (take_while is_name_byte (drop 1 text)) → (p : ℕ) →
    tokens_at p 0 text ≡ record { lexeme = Name (take (n + 1) text); place = p; after = p + (n + 1) } ∷ tokens_at (p + (n + 1)) 0 (drop (n + 1) text)
name_first [] n some h g e p = absurd (omega (arith, some))
name_first (c ∷ cs) n some h g e p =
    let cell = name_cell n c cs g e in
    rw add-one (first p n c cs h cell.0 ∙ retold p n _ _ _ cell.1)

-- a number at the front
pub number_first : (text : List ℕ) (n : ℕ) → 0 < length text → is_blank (get_or text 0 0) ≡ false → is_letter (get_or text 0 0) ≡ false →
    is_digit (get_or text 0 0) ≡ true → n ≡ length (take_while is_digit (drop 1 text)) → (p : ℕ) →
    tokens_at p 0 text ≡ record { lexeme = Number (take (n + 1) text); place = p; after = p + (n + 1) } ∷ tokens_at (p + (n + 1)) 0 (drop (n + 1) text)
number_first [] n some h f g e p = absurd (omega (arith, some))
number_first (c ∷ cs) n some h f g e p =
    let cell = number_cell n c cs f g e in
    rw add-one (first p n c cs h cell.0 ∙ retold p n _ _ _ cell.1)

mark_cell : (c : ℕ) (cs : List ℕ) → is_letter c ≡ false → is_digit c ≡ false →
    (0 ≡ length (rest_of_token c cs)) × (lexeme_of c (rest_of_token c cs) ≡ Sign (mark_of c))
mark_cell c cs f g = rw (f, g) (refl, refl)

-- another byte at the front
pub mark_first : (text : List ℕ) → 0 < length text → is_blank (get_or text 0 0) ≡ false → is_letter (get_or text 0 0) ≡ false →
    is_digit (get_or text 0 0) ≡ false → (p : ℕ) →
    tokens_at p 0 text ≡ record { lexeme = Sign (mark_of (get_or text 0 0)); place = p; after = p + 1 } ∷ tokens_at (p + 1) 0 (drop 1 text)
mark_first [] some h f g p = absurd (omega (arith, some))
mark_first (c ∷ cs) some h f g p =
    let cell = mark_cell c cs f g in
    first p 0 c cs h cell.0 ∙ retold p 0 _ _ _ cell.1

-- the tokens so far and those of the rest
pub more_tokens : (found : List Located) (next : Located) (rest later whole : List Located) →
    found ++ later ≡ whole → later ≡ next ∷ rest → (found ++ next ∷ []) ++ rest ≡ whole
more_tokens found next rest later whole h e = append_assoc found (next ∷ []) rest ∙ ap (λ l. found ++ l) (sym e) ∙ h

-- all but the first, as a slice
pub tail_slice : (text : List ℕ) → take (length text - 1) (drop 1 text) ≡ drop 1 text
tail_slice [] = refl
tail_slice (c ∷ cs) = let e : length (c ∷ cs) - 1 ≡ length cs = omega arith in rw e (take-length cs)

-- all from a place on, as a slice
pub rest_slice : (k : ℕ) (text : List ℕ) → take (length text - k) (drop k text) ≡ drop k text
rest_slice k text = ap (λ m. take m (drop k text)) (sym (length-drop k text)) ∙ take-length (drop k text)

-- nothing is left at the end
pub no_more : (found whole : List Located) (p i : ℕ) (text : List ℕ) → length text ≤ i → found ++ tokens_at p 0 (drop i text) ≡ whole → found ≡ whole
no_more found whole p i text h told = sym (append-nil found) ∙ (rw (drop_all i text h) at told)

pub place_inside : (tokens : List Placed) (k : ℕ) (missing : Placed) → k < length tokens → place_of (map located tokens) k ≡ (get_or tokens k missing).place
place_inside [] k missing h = absurd (omega (arith, h))
place_inside (t ∷ []) zero missing h = refl
place_inside (t ∷ []) (suc k) missing h = absurd (omega (arith, h))
place_inside (t ∷ u ∷ us) zero missing h = refl
place_inside (t ∷ u ∷ us) (suc k) missing h = place_inside (u ∷ us) k missing (omega (arith, h))

place_last : (t : Placed) (ts : List Placed) (k : ℕ) (missing : Placed) → length (t ∷ ts) ≤ k → place_of (map located (t ∷ ts)) k ≡ (get_or (t ∷ ts) (length ts) missing).after
place_last t [] zero missing h = absurd (omega (arith, h))
place_last t [] (suc k) missing h = refl
place_last t (u ∷ us) zero missing h = absurd (omega (arith, h))
place_last t (u ∷ us) (suc k) missing h = place_last u us k missing (omega (arith, h))

pub place_past : (tokens : List Placed) (k : ℕ) (missing : Placed) → length tokens ≤ k → (length tokens == 0) ≡ false →
    place_of (map located tokens) k ≡ (get_or tokens (length tokens - 1) missing).after
place_past [] k missing h some = cc
place_past (t ∷ ts) k missing h some =
    let e : length (t ∷ ts) - 1 ≡ length ts = omega arith in
    place_last t ts k missing h ∙ ap (λ i. (get_or (t ∷ ts) i missing).after) (sym e)

lexeme_at : (tokens : List Placed) (k : ℕ) (missing : Placed) → k < length tokens →
    drop k (map lexeme tokens) ≡ lexeme (get_or tokens k missing) ∷ drop (k + 1) (map lexeme tokens)
lexeme_at tokens k missing h =
    drop-map lexeme k tokens ∙ ap (map lexeme) (drop-cons tokens k missing h)
    ∙ ap (λ rest. lexeme (get_or tokens k missing) ∷ rest) (rw (add-one) (sym (drop-map lexeme (suc k) tokens)))

-- what one more token says of the brackets
pub nests_on : (r q k : ℕ) (tokens : List Placed) (missing : Placed) (whole : Bool) → k < length tokens →
    passes_nesting r q (drop k (map lexeme tokens)) ≡ whole →
    (nat_lt 64 (round_after r (lexeme (get_or tokens k missing)) + square_after q (lexeme (get_or tokens k missing)))
    || passes_nesting (round_after r (lexeme (get_or tokens k missing))) (square_after q (lexeme (get_or tokens k missing))) (drop (k + 1) (map lexeme tokens))) ≡ whole
nests_on r q k tokens missing whole h e = sym (ap (passes_nesting r q) (lexeme_at tokens k missing h)) ∙ e

test_true : (r q r' q' : ℕ) (t : Lexeme) (more whole : Bool) → r' ≡ round_after r t → q' ≡ square_after q t → 64 < r' + q' →
    (nat_lt 64 (round_after r t + square_after q t) || more) ≡ whole → true ≡ whole
test_true r q r' q' t more whole f g h e =
    let over : nat_lt 64 (round_after r t + square_after q t) ≡ true = rw (← f, ← g) (lt-ltb 64 (r' + q') h) in
    sym (ap (λ b. b || more) over) ∙ e

test_false : (r q r' q' : ℕ) (t : Lexeme) (more whole : Bool) → r' ≡ round_after r t → q' ≡ square_after q t → r' + q' ≤ 64 →
    (nat_lt 64 (round_after r t + square_after q t) || more) ≡ whole → more ≡ whole
test_false r q r' q' t more whole f g h e =
    let under : nat_lt 64 (round_after r t + square_after q t) ≡ false = rw (← f, ← g) (le-ltb 64 (r' + q') h) in
    sym (ap (λ b. b || more) under) ∙ e

pub nests_true : (r q r' q' k : ℕ) (tokens : List Placed) (missing : Placed) (whole : Bool) → k < length tokens →
    r' ≡ round_after r (lexeme (get_or tokens k missing)) → q' ≡ square_after q (lexeme (get_or tokens k missing)) → 64 < r' + q' →
    passes_nesting r q (drop k (map lexeme tokens)) ≡ whole → true ≡ whole
nests_true r q r' q' k tokens missing whole h f g more e =
    test_true r q r' q' (lexeme (get_or tokens k missing)) _ whole f g more (nests_on r q k tokens missing whole h e)

pub nests_false : (r q r' q' k : ℕ) (tokens : List Placed) (missing : Placed) (whole : Bool) → k < length tokens →
    r' ≡ round_after r (lexeme (get_or tokens k missing)) → q' ≡ square_after q (lexeme (get_or tokens k missing)) → r' + q' ≤ 64 →
    passes_nesting r q (drop k (map lexeme tokens)) ≡ whole → passes_nesting r' q' (drop (k + 1) (map lexeme tokens)) ≡ whole
nests_false r q r' q' k tokens missing whole h f g few e =
    ap (λ n. passes_nesting n q' (drop (k + 1) (map lexeme tokens))) f
    ∙ ap (λ n. passes_nesting (round_after r (lexeme (get_or tokens k missing))) n (drop (k + 1) (map lexeme tokens))) g
    ∙ test_false r q r' q' (lexeme (get_or tokens k missing)) _ whole f g few (nests_on r q k tokens missing whole h e)

true-false : true ≡ false → ⊥
true-false h = cc

-- a text of blanks has no first token
pub front_none : (text rest : List ℕ) → ((p : ℕ) → tokens_at p 0 text ≡ tokens_at (p + (length text - length rest)) 0 rest) → (length rest == 0) ≡ true →
    lexemes (tokens_of text) ≡ []
unfolding tokens_of
front_none text [] same h = ap lexemes (same 1)
front_none text (c ∷ cs) same h = absurd (true-false (sym h ∙ eqb-suc-zero (length cs)))

is_last : (p : ℕ) (rest : List ℕ) → (0 < length rest → is_blank (get_or rest 0 0) ≡ false) → (length rest == 0) ≡ (length (lexemes (tokens_at p 0 rest)) == 0)
is_last p [] solid = refl
is_last p (c ∷ cs) solid =
    let h : is_blank c ≡ false = solid (omega arith) in
    rw h (eqb-suc-zero (length cs) ∙ sym (eqb-suc-zero (length (lexemes (tokens_at (suc p) (length (rest_of_token c cs)) cs)))))

-- the first token behind blanks, and those behind it
pub front_some : (text solid rest : List ℕ) (t : Lexeme) (n : ℕ) (only : Bool) →
    ((p : ℕ) → tokens_at p 0 text ≡ tokens_at (p + (length text - length solid)) 0 solid) →
    ((p : ℕ) → tokens_at p 0 solid ≡ record { lexeme = t; place = p; after = p + n } ∷ tokens_at (p + n) 0 (drop n solid)) →
    ((p : ℕ) → tokens_at p 0 (take (length solid - n) (drop n solid)) ≡ tokens_at (p + (length (take (length solid - n) (drop n solid)) - length rest)) 0 rest) →
    (0 < length rest → is_blank (get_or rest 0 0) ≡ false) → only ≡ (length rest == 0) →
    (more : List Lexeme) × (lexemes (tokens_of text) ≡ t ∷ more) × (only ≡ (length more == 0))
unfolding tokens_of
front_some text solid rest t n only blanks first between ends o =
    let p : ℕ = 1 + (length text - length solid) in
    let q : ℕ = p + n + (length (take (length solid - n) (drop n solid)) - length rest) in
    let behind : tokens_at (p + n) 0 (drop n solid) ≡ tokens_at q 0 rest = ap (tokens_at (p + n) 0) (sym (rest_slice n solid)) ∙ between (p + n) in (
      lexemes (tokens_at q 0 rest),
      ap lexemes (blanks 1 ∙ first p) ∙ ap (λ l. t ∷ lexemes l) behind,
      o ∙ is_last q rest ends,
    )
