-- An array that takes the images of a rank from the last to the first.
use Rattle.std.proofs.Common.{ℕ, suc, ◌≡◌, ◌+◌, ◌-◌, ◌*◌, ◌/◌, ◌%◌, ◌<◌, ◌≤◌, List, [], ◌++◌, length, take, drop, replicate, refl, sym, ◌∙◌, ap, arith, add-one}
use Rattle.std.specs.Prelude.{All}
use Rattle.std.specs.List.{IsDistinct}
use Rattle.std.proofs.lemmas.List.{drop_all, drop_at, drop-drop, drop-replicate, length-take, length-take-le, length-map, length-drop, length-append}
use Rattle.std.proofs.lemmas.Nat.{div-add-mod', mod_below}
use Rattle.std.proofs.lemmas.Slice.{between_is, take-put_mid, drop-put_mid}
use borrow.Rule.Slice.PartMut.{put_mid}
use Rattle.fr_model.specs.Words.{IsLetter}
use Rattle.fr_model.specs.Permutations.{IsPermutation}
use Rattle.fr_model.specs.Ranks.{factorial, rank}
use Rattle.fr_model.proofs.PermutationLaws.{letter_at}
use Rattle.fr_alphabet.specs.Insertion.{raised, in_front}
use Rattle.fr_alphabet.specs.Padded.{IsPadded}
use Rattle.fr_model.proofs.RankLaws.{rank-lt, rank_injective}
use Rattle.fr_alphabet.proofs.InsertionLaws.{IsPermutation-in_front, rank-in_front}

-- the last n of d images are a permutation, and r is its rank with rest more of the next digits
pub record IsRanked (d n r rest : ℕ) (images : List ℕ) : Type 0 where
  pub size : length images ≡ 8
  pub permutes : IsPermutation n (drop (d - n) (take d images))
  pub total : rank (drop (d - n) (take d images)) + factorial n * rest ≡ r
  pub zeros : drop d images ≡ replicate (8 - d) 0

-- before the first digit
pub IsRanked_none : (d r : ℕ) → d ≤ 8 → IsRanked d 0 r r (replicate 8 0)
unfolding IsDistinct
IsRanked_none d r h =
    let none : List ℕ = replicate 8 0 in
    let e : drop (d - 0) (take d none) ≡ [] = drop_all (d - 0) (take d none) (omega (arith, length-take d none)) in
    record {
      size = refl;
      permutes = rw e (record { degree = refl; letters = tt; distinct = tt });
      total = rw e (omega arith);
      zeros = drop-replicate d 8 0;
    }

-- the images behind the next one
pub rest_images : (d n : ℕ) (images : List ℕ) → n < d → drop 1 (take (d - (d - n - 1)) (drop (d - n - 1) images)) ≡ drop (d - n) (take d images)
rest_images d n images h =
    let e : d - n - 1 + 1 ≡ d - n = omega arith in
    ap (drop 1) (between_is images (d - n - 1) d) ∙ drop-drop 1 (d - n - 1) (take d images) ∙ ap (λ k. drop k (take d images)) e

-- they are small enough to make room
pub rest_images_below : (d n r rest : ℕ) (images : List ℕ) → n < d → d ≤ 8 → IsRanked d n r rest images → All (λ y. y < 255) (drop 1 (take (d - (d - n - 1)) (drop (d - n - 1) images)))
rest_images_below d n r rest images h g s = rw (rest_images d n images h) (λ k e l. let z = letter_at n (drop (d - n) (take d images)) k e s.permutes.letters l in omega (arith, z.1))

-- a digit is taken from the rest
digit_taken : (n f rest t m q old : ℕ) → m ≡ suc n → t * m + q ≡ rest → q * f + old + suc n * f * t ≡ old + f * rest
digit_taken n f rest t m q old e h = rw (← h, e) (grind arith)

length-put_mid : (a k : ℕ) (xs ys : List ℕ) → length ys ≡ k → a + k ≤ length xs → length (put_mid a k xs ys) ≡ length xs
length-put_mid a k xs ys e h = omega (arith, length-append (take a xs) (ys ++ drop k (drop a xs)), length-append ys (drop k (drop a xs)), length-take-le a xs (omega arith), length-drop k (drop a xs), length-drop a xs)

-- one image more
pub IsRanked_more : (d n r rest m x : ℕ) (images new : List ℕ) → n < d → d ≤ 8 → IsRanked d n r rest images → m ≡ n + 1 → x ≡ rest % m + 1 →
    new ≡ in_front x (drop 1 (take (d - (d - n - 1)) (drop (d - n - 1) images))) → IsRanked d (n + 1) r (rest / m) (put_mid (d - n - 1) (d - (d - n - 1)) images new)
IsRanked_more d n r rest m x images new h g s e f k =
    let p = drop (d - n) (take d images) in
    let a = d - n - 1 in
    let size : length images ≡ 8 = s.size in
    let k' : new ≡ in_front x p = k ∙ ap (in_front x) (rest_images d n images h) in
    let count : length new ≡ n + 1 = ap length k' ∙ ap suc (length-map p (raised x) ∙ s.permutes.degree) ∙ omega arith in
    let q : rest % m < m = mod_below rest m (omega arith) in
    let letter : IsLetter (suc n) x = (omega arith, omega arith) in
    let front : take d (put_mid a (d - a) images new) ≡ take a images ++ new = take-put_mid a (d - a) images new d (omega arith) (omega arith) in
    let last : drop (d - (n + 1)) (take d (put_mid a (d - a) images new)) ≡ in_front x p =
    ap (drop (d - (n + 1))) front ∙ drop_at (take a images) new (d - (n + 1)) (length-take-le a images (omega arith) ∙ omega arith) ∙ k' in
    let next : n + 1 ≡ suc n = add-one n in
    let head : x ≡ suc (rest % m) = f ∙ add-one (rest % m) in
    let value : rank (in_front x p) ≡ rest % m * factorial n + rank p = ap (λ y. rank (in_front y p)) head ∙ rank-in_front n (rest % m) p s.permutes (omega arith) in
    record {
      size = length-put_mid a (d - a) images new (omega arith) (omega arith) ∙ s.size;
      permutes = rw (last, next) (IsPermutation-in_front n x p s.permutes letter);
      total = ap (λ l. rank l + factorial (n + 1) * (rest / m)) last ∙ ap (λ v. v + factorial (n + 1) * (rest / m)) value ∙ ap (λ j. rest % m * factorial n + rank p + factorial j * (rest / m)) next ∙ digit_taken n (factorial n) rest (rest / m) m (rest % m) (rank p) (e ∙ add-one n) (div-add-mod' rest m) ∙ s.total;
      zeros = drop-put_mid a (d - a) images new d (omega arith) (omega arith) (omega arith) ∙ s.zeros;
    }

-- the rank of the whole array
pub rank-whole : (d n r rest : ℕ) (images : List ℕ) → n ≡ d → IsRanked d n r rest images → rank (take d images) + factorial d * rest ≡ r
rank-whole d n r rest images e s =
    let z : d - n ≡ 0 = omega arith in
    rw (z, e) at s.total

-- no more ranks than permutations
pub rank_fits : (d n r rest : ℕ) (images : List ℕ) → n ≡ d → IsRanked d n r rest images → rest ≤ 0 → r < factorial d
rank_fits d n r rest images e s h =
    let z : d - n ≡ 0 = omega arith in
    let none : rest ≡ 0 = omega arith in
    let count : length (take d images) ≡ d = (rw (z, e) at s.permutes).degree in
    let whole = rw none at (rank-whole d n r rest images e s) in
    omega (arith, whole, rank-lt (take d images), ap factorial count)

-- the array has the one permutation of its rank
pub take-IsPadded : (a d r : ℕ) (images p : List ℕ) → d ≡ a → IsPadded d images → rank (take d images) ≡ r → IsPermutation a p → rank p ≡ r → take d images ≡ p
take-IsPadded a d r images p e h f s g = rank_injective d (take d images) p h.permutes (rw (← e) at s) (f ∙ sym g)
