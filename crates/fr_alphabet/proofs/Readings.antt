-- One more byte of a text that is read as a word.
use Rattle.std.proofs.Common.{ℕ, suc, ◌≡◌, ◌+◌, ◌<◌, ◌≤◌, List, [], ◌∷◌, true, length, take, drop, get_or, map, ◌∙◌, ap, arith, add-one, Option}
use Rattle.std.specs.Prelude.{nat_le}
use Rattle.std.proofs.lemmas.List.{drop_more, length-take-le, length-map}
use Rattle.std.proofs.lemmas.Bool.{le-leb, and_from}
use Rattle.fr_model.specs.Words.{IsWord}
use Rattle.fr_alphabet.specs.Reading.{is_letter_digit, letter_of_digit, bad_place}
use Rattle.fr_alphabet.specs.Bounded.{IsBoundedWord}

-- a byte in range is a letter's digit
pub is_letter_digit-from : (d c : ℕ) → 49 ≤ c → c ≤ 48 + d → is_letter_digit d c ≡ true
is_letter_digit-from d c a b = and_from (nat_le 49 c) (nat_le c (48 + d)) (le-leb 49 c a) (le-leb c (48 + d) b)

-- the first bad place stands behind a digit as before it
pub bad_place_more : (d : ℕ) (text : List ℕ) (i : ℕ) (end : Option ℕ) → i < length text → is_letter_digit d (get_or text i 0) ≡ true → bad_place d (suc i) (drop i text) ≡ end → bad_place d (suc (i + 1)) (drop (i + 1) text) ≡ end
bad_place_more d text i end h g e =
    let e' = rw (drop_more text i 0 h, g) at e in
    rw add-one (rw add-one at e')

-- a word over d letters is one over more
pub IsWord-weaker : (d e : ℕ) → d ≤ e → (w : List ℕ) → IsWord d w → IsWord e w
IsWord-weaker d e h [] w = tt
IsWord-weaker d e h (x ∷ xs) w = ((w.0.0, omega (arith, w.0.1)), IsWord-weaker d e h xs w.1)

-- what was read keeps a word's bounds
pub IsBoundedWord-from : (d : ℕ) (w text : List ℕ) (i : ℕ) → d ≤ 8 → IsWord d w → w ≡ map letter_of_digit (take i text) → i ≤ length text → length text ≤ 4096 → IsBoundedWord w
IsBoundedWord-from d w text i h g e a b = record {
  letters = IsWord-weaker d 8 h w g;
  most = omega (arith, ap length e ∙ length-map (take i text) letter_of_digit, length-take-le i text a);
}
