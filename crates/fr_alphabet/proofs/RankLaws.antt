-- The rank of eight images at most, image by image from the last one on, and that it stays below 8! on the way.
use Rattle.std.proofs.Common.{ℕ, zero, suc, ◌≡◌, ◌+◌, ◌-◌, ◌*◌, ◌<◌, ◌≤◌, Bool, nat_lt, if◌then◌else◌, false, true, List, [], ◌∷◌, length, drop, get_or, refl, ◌∙◌, ap, arith}
use Rattle.std.proofs.lemmas.List.{drop_more, length-drop}
use Rattle.fr_model.specs.Ranks.{smaller_in, factorial, rank}
use Rattle.fr_model.proofs.RankLaws.{rank-lt}

more-le : (b : Bool) (n m : ℕ) → n ≤ m → (if b then suc n else n) ≤ suc m
more-le true n m h = omega (arith, h)
more-le false n m h = omega (arith, h)

-- there are no more smaller images than images
pub smaller-le : (x : ℕ) (ys : List ℕ) → smaller_in x ys ≤ length ys
smaller-le x [] = omega arith
smaller-le x (y ∷ ys) = more-le (nat_lt y x) (smaller_in x ys) (length ys) (smaller-le x ys)

pub mul-le : (a b f : ℕ) → a ≤ b → a * f ≤ b * f
mul-le a b f h = grind (arith, h)

factorial-more : (n : ℕ) → factorial n ≤ factorial (suc n)
factorial-more n =
    let m = mul-le 1 (suc n) (factorial n) (omega arith) in
    let g : factorial n ≤ suc n * factorial n = omega (arith, m) in
    g

factorial-up : (n k m : ℕ) → k + n ≡ m → factorial n ≤ factorial m
factorial-up n zero m e =
    let s : n ≡ m = omega (arith, e) in
    omega (arith, ap factorial s)
factorial-up n (suc k) zero e = absurd (omega (arith, e))
factorial-up n (suc k) (suc m) e =
    let a = factorial-up n k m (omega (arith, e)) in
    let b = factorial-more m in
    le-then (factorial n) (factorial m) (factorial (suc m)) a b
  where
    le-then : (a b c : ℕ) → a ≤ b → b ≤ c → a ≤ c
    le-then a b c h g = omega (arith, h, g)

-- a factorial up to 8!
pub factorial-le : (n : ℕ) → n ≤ 8 → factorial n ≤ 40320
factorial-le n h = factorial-up n (8 - n) 8 (omega (arith, h))

-- a rank of at most eight images
pub rank-most : (xs : List ℕ) → length xs ≤ 8 → rank xs < 40320
rank-most xs h = omega (arith, rank-lt xs, factorial-le (length xs) h)

-- one image more in front
pub rank_more : (images : List ℕ) (i : ℕ) → i < length images → rank (drop i images) ≡ smaller_in (get_or images i 0) (drop (i + 1) images) * factorial (length images - (i + 1)) + rank (drop (i + 1) images)
rank_more images i l = rw (drop_more images i 0 l, ← length-drop (i + 1) images) refl

-- a digit of the rank with its factorial
pub product_most : (s n f : ℕ) → s ≤ n → n ≤ 7 → f ≤ 40320 → s * f ≤ 282240
product_most s n f h g k = let m = mul-le s 7 f (omega (arith, h, g)) in omega (arith, m, k)

pub factorial_more : (n m : ℕ) → m ≡ n + 1 → factorial n * m ≡ factorial m
factorial_more n zero e = absurd (omega (arith, e))
factorial_more n (suc m) e = let s : n ≡ m = omega (arith, e) in rw s (grind arith)

-- a step of the loop, from image i - 1 on
pub step_fits : (images : List ℕ) (i total f s : ℕ) → length images ≤ 8 → 0 < i → i ≤ length images → total ≡ rank (drop i images) → f ≡ factorial (length images - i) → s ≡ smaller_in (get_or images (i - 1) 0) (drop (i - 1 + 1) images) → (s * f ≤ 282240) × (total ≤ 40320)
step_fits images i total f s few l m e g h =
    let size = length-drop (i - 1 + 1) images in
    let size' = length-drop i images in
    let sl = smaller-le (get_or images (i - 1) 0) (drop (i - 1 + 1) images) in
    let fl = factorial-le (length images - i) (omega (arith, few)) in
    (product_most s 7 f (omega (arith, h, sl, size, few, l)) (omega arith) (omega (arith, g, fl)), omega (arith, e, rank-most (drop i images) (omega (arith, size', few))))

pub step_total : (images : List ℕ) (i total f s : ℕ) → 0 < i → i ≤ length images → total ≡ rank (drop i images) → f ≡ factorial (length images - i) → s ≡ smaller_in (get_or images (i - 1) 0) (drop (i - 1 + 1) images) → total + s * f ≡ rank (drop (i - 1) images)
step_total images i total f s l m e g h =
    let at : i - 1 + 1 ≡ i = omega (arith, l) in
    let r = rank_more images (i - 1) (omega (arith, l, m)) in
    let h' : s ≡ smaller_in (get_or images (i - 1) 0) (drop i images) = rw at at h in
    let r' : rank (drop (i - 1) images) ≡ smaller_in (get_or images (i - 1) 0) (drop i images) * factorial (length images - i) + rank (drop i images) = rw at at r in
    rw (r', ← e, ← g, ← h') (omega arith)

pub step_factor : (images : List ℕ) (i f : ℕ) → length images ≤ 8 → 0 < i → i ≤ length images → f ≡ factorial (length images - i) → (f * (length images - (i - 1)) ≡ factorial (length images - (i - 1))) × (factorial (length images - (i - 1)) ≤ 40320)
step_factor images i f few l m g = (ap (λ k. k * (length images - (i - 1))) g ∙ factorial_more (length images - i) (length images - (i - 1)) (omega (arith, l, m)), factorial-le (length images - (i - 1)) (omega (arith, few)))
