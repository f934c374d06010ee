-- An array of eight that is written from the front.
use Rattle.std.proofs.Common.{ℕ, suc, ◌≡◌, ◌+◌, ◌-◌, ◌<◌, ◌≤◌, List, [], ◌∷◌, ◌++◌, true, false, length, take, set, get_or, replicate, eqb, refl, sym, ◌∙◌, ap, arith, append_assoc}
use Rattle.std.specs.List.{IsDistinct, list_any}
use Rattle.std.proofs.lemmas.List.{set_at, take_more, take_all, length-take-le, take_at, get_or-take, get_or-map, length-map, get_or_default}
use Rattle.std.proofs.lemmas.Bool.{eqb-false}
use Rattle.std.proofs.lemmas.Map.Keys.{apart_from_distinct, IsDistinct-push}
use Rattle.std.proofs.lemmas.Bool.Decides.{nat_tests}
use Rattle.std.specs.Cmp.{nat_eq_equiv}
use Rattle.std.specs.Prelude.{IsTrue, ◌↔◌}
use Rattle.fr_model.proofs.PermutationLaws.{letter_at, present_place, IsPermutation-composite, length-numbers_from, get_or-numbers_from}
use Rattle.fr_model.proofs.TermLaws.{IsWord-append}
use Rattle.fr_model.specs.Words.{IsLetter, IsWord}
use Rattle.fr_model.specs.Permutations.{image, IsPermutation, preimage, composite, inverse_permutation, identity_permutation}
use Rattle.fr_alphabet.specs.Padded.{IsPadded, padded, IsPadded-from}

-- the first i of the list, and zeros
abbrev pub written : List ℕ → ℕ → List ℕ
written t i = take i t ++ replicate (8 - i) 0

pub written_more : (t : List ℕ) (i v : ℕ) → i < length t → length t ≤ 8 → v ≡ get_or t i 0 → set (written t i) i v ≡ written t (i + 1)
written_more t i v h g e =
    let room : 8 - i ≡ suc (8 - (i + 1)) = omega arith in
    rw (room, set_at (take i t) 0 (replicate (8 - (i + 1)) 0) v i (length-take-le i t (omega arith)), take_more t i 0 h, e) (sym (append_assoc (take i t) (get_or t i 0 ∷ []) (replicate (8 - (i + 1)) 0)))

pub written_all : (t : List ℕ) (i : ℕ) → length t ≤ i → length t ≡ i → written t i ≡ padded t
written_all t i h e = rw (take_all i t h, e)

pub IsPadded-written : (d : ℕ) (t images : List ℕ) (i : ℕ) → 2 ≤ d → d ≤ 8 → IsPermutation d t → i ≡ d → images ≡ written t i → IsPadded d images
IsPadded-written d t images i a b s e f = rw (f, e, written_all t d (omega (arith, s.degree)) s.degree) (IsPadded-from d t a b s)

pub take-written : (d : ℕ) (t images : List ℕ) (i : ℕ) → length t ≡ d → i ≡ d → images ≡ written t i → take d images ≡ t
take-written d t images i g e f = rw (f, e, take_all d t (omega (arith, g))) (take_at t (replicate (8 - d) 0) d g)

pub IsPermutation-self : (d : ℕ) (images self : List ℕ) → take d images ≡ self → IsPadded d images → IsPermutation (length self) self
IsPermutation-self d images self e h = let s : IsPermutation d self = rw (← e) h.permutes in rw s.degree s

pub apply_letter : (d x : ℕ) (images self : List ℕ) → take d images ≡ self → IsPadded d images → IsLetter (length self) x → IsLetter (length self) (get_or images (x - 1) 0)
apply_letter d x images self e h l =
    let s : IsPermutation d self = rw (← e) h.permutes in
    let below : x - 1 < d = omega (arith, s.degree) in
    rw (s.degree, ← get_or-take d images (x - 1) 0 below, e) (letter_at d self (x - 1) 0 s.letters (omega (arith, s.degree)))

-- the front of a list of images, one image longer
pub IsWord-push : (d : ℕ) (w : List ℕ) (x : ℕ) → IsWord d w → IsLetter d x → IsWord d (w ++ x ∷ [])
IsWord-push d w x h l = IsWord-append d w (x ∷ []) h (l, tt)

pub IsPermutation-then : (d : ℕ) (images self : List ℕ) (e : ℕ) (others q : List ℕ) → take d images ≡ self → IsPadded d images → take e others ≡ q → IsPadded e others → length self ≡ length q → IsPermutation d (composite self q)
IsPermutation-then d images self e others q f h g k l =
    let s : IsPermutation d self = rw (← f) h.permutes in
    let r : IsPermutation (length q) q = IsPermutation-self e others q g k in
    IsPermutation-composite d self q s (rw (← l, s.degree) at r)

pub get_or-inverse : (d : ℕ) (self : List ℕ) (i : ℕ) → length self ≡ d → i < d → get_or (inverse_permutation self) i 0 ≡ preimage self (i + 1)
get_or-inverse d self i e h =
    rw e (get_or-map (preimage self) (identity_permutation d) i 0 0 (omega (arith, length-numbers_from 1 d)) ∙ ap (preimage self) (get_or-numbers_from 1 d i 0 h ∙ omega arith))

pub length-inverse : (d : ℕ) (self : List ℕ) → length self ≡ d → length (inverse_permutation self) ≡ d
length-inverse d self e = length-map (identity_permutation (length self)) (preimage self) ∙ length-numbers_from 1 (length self) ∙ e

-- why a list of images is refused
not_permutation : {P : Type 0} → (P → ⊥) → IsTrue false ↔ P
not_permutation n = ((λ f. cc), λ p. absurd (n p))

flipped : (x : ℕ) (xs : List ℕ) → list_any (λ y. eqb y x) xs ≡ list_any (eqb x) xs
flipped x [] = refl
flipped x (y ∷ ys) = rw (flip, flipped x ys)
  where
    flip : eqb y x ≡ eqb x y
    flip = grind (arith, nat_tests)

pub refused_low : (d : ℕ) (p : List ℕ) (i : ℕ) → i < length p → get_or p i 0 < 1 → IsTrue false ↔ IsPermutation d p
refused_low d p i h l = not_permutation (λ s. let k = letter_at d p i 0 s.letters h in omega (arith, k.0))

pub refused_high : (d : ℕ) (p : List ℕ) (i : ℕ) → i < length p → d < get_or p i 0 → IsTrue false ↔ IsPermutation d p
refused_high d p i h l = not_permutation (λ s. let k = letter_at d p i 0 s.letters h in omega (arith, k.1))

pub refused_twice : (d : ℕ) (p : List ℕ) (i : ℕ) → i < length p → list_any (λ y. eqb y (get_or p i 0)) (take i p) ≡ true → IsTrue false ↔ IsPermutation d p
refused_twice d p i h t = not_permutation (λ s.
    let r = present_place 1 (take i p) (get_or p i 0) (sym (flipped (get_or p i 0) (take i p)) ∙ t) in
    let j : r.0 < i = omega (arith, length-take-le i p (omega arith), r.1) in
    let e : get_or p r.0 0 ≡ get_or p i 0 = sym (get_or-take i p r.0 0 j) ∙ get_or_default (take i p) r.0 0 (get_or p i 0) r.1 ∙ r.3 in
    eqb-false _ _ (apart_from_distinct eqb p r.0 i 0 s.distinct j h) e)

pub IsDistinct-more : (p : List ℕ) (i : ℕ) → i < length p → IsDistinct eqb (take i p) → list_any (λ y. eqb y (get_or p i 0)) (take i p) ≡ false → IsDistinct eqb (take (i + 1) p)
IsDistinct-more p i h s f = rw (take_more p i 0 h) (IsDistinct-push nat_eq_equiv (take i p) (get_or p i 0) s (sym (flipped (get_or p i 0) (take i p)) ∙ f))

-- an image in the array of a permutation
pub letter_in_array : (d i n : ℕ) (images self : List ℕ) → take d images ≡ self → IsPadded d images → i < d → length self ≡ n → IsLetter n (get_or images i 0)
letter_in_array d i n images self e h l m =
    let s : IsPermutation d self = rw (← e) h.permutes in
    let same : d ≡ n = sym s.degree ∙ m in
    rw (← same, ← get_or-take d images i 0 l, e) (letter_at d self i 0 s.letters (omega (arith, s.degree)))

-- and where a second permutation sends it
pub then_more : (d i v : ℕ) (images self q out : List ℕ) → take d images ≡ self → IsPadded d images → i < d → v ≡ image q (get_or images i 0) → out ≡ written (composite self q) i → set out i v ≡ written (composite self q) (i + 1)
then_more d i v images self q out e h l m o =
    let s : IsPermutation d self = rw (← e) h.permutes in
    let n : length (composite self q) ≡ d = length-map self (image q) ∙ s.degree in
    let here : get_or images i 0 ≡ get_or self i 0 = sym (get_or-take d images i 0 l) ∙ ap (λ p. get_or p i 0) e in
    let at : v ≡ get_or (composite self q) i 0 = m ∙ ap (image q) here ∙ sym (get_or-map (image q) self i 0 0 (omega (arith, s.degree))) in
    rw o (written_more (composite self q) i v (omega arith) (omega (arith, h.most)) at)
