-- Rays as sequences of letters, and ways to write one ray.
use Rattle.std.proofs.Common.{ℕ, zero, suc, ◌≡◌, ◌≢◌, ◌+◌, ◌-◌, ◌*◌, ◌<◌, ◌≤◌, List, [], ◌∷◌, ◌++◌, length, take, drop, get_or, refl, sym, ◌∙◌, ap, arith, append_assoc, zero-add, suc-add, length-append}
use Rattle.std.proofs.lemmas.List.{take-append-drop, length-take-le, take-append-le, get_or-take, get_or_append_left, get_or-append-add}
use Rattle.std.proofs.lemmas.Grind.{same_number_lists}
use Rattle.fr_model.specs.Rays.{repeated, ray_prefix, IsSameRay}
use Rattle.fr_model.proofs.GrowthLaws.{length-repeated_least}
use Rattle.fr_ray.proofs.PeriodLaws.{HasPeriod}

pub repeated-add : (v : List ℕ) (a b : ℕ) → repeated v (a + b) ≡ repeated v a ++ repeated v b
repeated-add v zero b = ap (repeated v) (zero-add b)
repeated-add v (suc a) b = ap (repeated v) (suc-add a b) ∙ ap (λ l. v ++ l) (repeated-add v a b) ∙ sym (append_assoc v (repeated v a) (repeated v b))

pub repeated-repeated : (v : List ℕ) (m n : ℕ) → repeated (repeated v m) n ≡ repeated v (n * m)
repeated-repeated v m zero = let e : zero * m ≡ zero = omega arith in sym (ap (repeated v) e)
repeated-repeated v m (suc n) =
    let e : m + n * m ≡ suc n * m = omega arith in
    ap (λ l. repeated v m ++ l) (repeated-repeated v m n) ∙ sym (repeated-add v m (n * m)) ∙ ap (repeated v) e

pub some_length : (v : List ℕ) → v ≢ [] → 0 < length v
some_length [] n = absurd (n refl)
some_length (x ∷ v) n = omega arith

pub length-repeated : (v : List ℕ) (n : ℕ) → length (repeated v n) ≡ n * length v
length-repeated v zero = omega arith
length-repeated v (suc n) = omega (arith, length-append v (repeated v n), length-repeated v n)

-- the letter at a place
pub letter : List ℕ → List ℕ → ℕ → ℕ
letter u v i = get_or (u ++ repeated v (suc i)) i 0

long_prefix : (u v : List ℕ) (n : ℕ) → 0 < length v → n ≤ length (u ++ repeated v n)
long_prefix u v n l = omega (arith, length-append u (repeated v n), length-repeated_least v n l)

-- more rounds than are needed
more_rounds : (u v : List ℕ) (n more : ℕ) → n ≤ more → u ++ repeated v more ≡ (u ++ repeated v n) ++ repeated v (more - n)
more_rounds u v n more l =
    let e : more ≡ n + (more - n) = omega arith in
    ap (λ k. u ++ repeated v k) e ∙ ap (λ l. u ++ l) (repeated-add v n (more - n)) ∙ sym (append_assoc u (repeated v n) (repeated v (more - n)))

pub letter_in : (u v : List ℕ) (rounds i : ℕ) → 0 < length v → i < rounds → get_or (u ++ repeated v rounds) i 0 ≡ letter u v i
unfolding letter
letter_in u v rounds i s l =
    ap (λ w. get_or w i 0) (more_rounds u v (suc i) rounds (omega arith)) ∙ get_or_append_left (u ++ repeated v (suc i)) (repeated v (rounds - suc i)) 0 i (omega (arith, long_prefix u v (suc i) s))

pub prefix_in : (u v : List ℕ) (rounds n : ℕ) → 0 < length v → n ≤ rounds → take n (u ++ repeated v rounds) ≡ ray_prefix u v n
prefix_in u v rounds n s l =
    ap (take n) (more_rounds u v n rounds l) ∙ take-append-le n (u ++ repeated v n) (repeated v (rounds - n)) (long_prefix u v n s)

pub letter_before : (u v : List ℕ) (i : ℕ) → i < length u → letter u v i ≡ get_or u i 0
unfolding letter
letter_before u v i l = get_or_append_left u (repeated v (suc i)) 0 i l

pub letter_period : (u v : List ℕ) (i : ℕ) → i < length v → letter u v (length u + i) ≡ get_or v i 0
unfolding letter
letter_period u v i l =
    get_or-append-add u (v ++ repeated v (length u + i)) i 0 ∙ get_or_append_left v (repeated v (length u + i)) 0 i l

-- the list that a beginning and a round make
pub letter_listed : (w : List ℕ) (start i : ℕ) → i < length w → letter (take start w) (drop start w) i ≡ get_or w i 0
unfolding letter
letter_listed w start i l =
    let u = take start w in
    let v = drop start w in
    ap (λ a. get_or a i 0) (sym (append_assoc u v (repeated v i)) ∙ ap (λ a. a ++ repeated v i) (take-append-drop start w)) ∙ get_or_append_left w (repeated v i) 0 i l

-- behind the beginning each letter comes again after a round
pub letter_again : (u v : List ℕ) → 0 < length v → HasPeriod (letter u v) (length u) (length v)
letter_again u v s = record {
  again = λ i l.
      let j : ℕ = i - length u in
      let n : ℕ = i + length v in
      let far : i + length v ≡ length u + (length v + j) = omega arith in
      let near : length u + j ≡ i = omega arith in
      sym (letter_in u v (suc (suc n)) (i + length v) s (omega arith))
      ∙ ap (λ k. get_or (u ++ (v ++ repeated v (suc n))) k 0) far
      ∙ get_or-append-add u (v ++ repeated v (suc n)) (length v + j) 0
      ∙ get_or-append-add v (repeated v (suc n)) j 0
      ∙ sym (get_or-append-add u (repeated v (suc n)) j 0)
      ∙ ap (λ k. get_or (u ++ repeated v (suc n)) k 0) near
      ∙ letter_in u v (suc n) i s (omega arith);
}

-- two ways to write one ray give the same letters, and the other way round
pub same_letters : (u v a b : List ℕ) → IsSameRay u v a b → (i : ℕ) → letter u v i ≡ letter a b i
unfolding letter
same_letters u v a b h i =
    sym (get_or-take (suc i) (u ++ repeated v (suc i)) i 0 (omega arith)) ∙ ap (λ w. get_or w i 0) (h (suc i)) ∙ get_or-take (suc i) (a ++ repeated b (suc i)) i 0 (omega arith)

prefix_letter : (u v : List ℕ) (n i : ℕ) → 0 < length v → i < n → get_or (ray_prefix u v n) i 0 ≡ letter u v i
prefix_letter u v n i s l = get_or-take n (u ++ repeated v n) i 0 l ∙ letter_in u v n i s l

pub same_from_letters : (u v a b : List ℕ) → 0 < length v → 0 < length b → ((i : ℕ) → letter u v i ≡ letter a b i) → IsSameRay u v a b
same_from_letters u v a b s t h n =
    let m : length (ray_prefix u v n) ≡ n = length-take-le n (u ++ repeated v n) (long_prefix u v n s) in
    let k : length (ray_prefix a b n) ≡ n = length-take-le n (a ++ repeated b n) (long_prefix a b n t) in
    same_number_lists (ray_prefix u v n) (ray_prefix a b n) (m ∙ sym k) (λ i l.
    let i_lt : i < n = omega arith in
    prefix_letter u v n i s i_lt ∙ h i ∙ sym (prefix_letter a b n i t i_lt))

-- some rounds may go to the beginning, and the rest be taken by several
pub same_rounds : (u v : List ℕ) (j m : ℕ) → 0 < length v → 0 < m → IsSameRay u v (u ++ repeated v j) (repeated v m)
same_rounds u v j m s l n =
    let far : n ≤ j + n * m = omega (arith, rounds_enough n m l) in
    sym (ap (take n) (append_assoc u (repeated v j) (repeated (repeated v m) n) ∙ ap (λ w. u ++ (repeated v j ++ w)) (repeated-repeated v m n) ∙ ap (λ w. u ++ w) (sym (repeated-add v j (n * m)))) ∙ prefix_in u v (j + n * m) n s far)
  where
    rounds_enough : (n m : ℕ) → 0 < m → n ≤ n * m
    rounds_enough n zero l = absurd (omega arith)
    rounds_enough n (suc m) l = omega arith
