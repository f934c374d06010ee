-- The rank of a permutation: it says how many permutations come earlier, and tells the permutations of d letters apart.
use Rattle.std.proofs.Common.{ℕ, zero, suc, ◌≡◌, ◌+◌, ◌-◌, ◌*◌, ◌/◌, ◌%◌, ◌<◌, ◌≤◌, ◌&&◌, inl, inr, Bool, false, cond, eqb, ltb, List, [], ◌∷◌, length, map, get_or, refl, sym, ◌∙◌, ap, arith}
use Rattle.std.specs.Cmp.{nat_eq_equiv}
use Rattle.std.specs.List.{IsDistinct, AllByRecursion, list_any, filter}
use Rattle.std.proofs.Math.Nat.{mul-le-mul_right, div-lt_iff_lt-mul}
use Rattle.std.proofs.lemmas.Bool.{cases_Bool, cases_lt, lt-ltb, le-ltb, ne_eqb, eqb-true}
use Rattle.std.proofs.lemmas.List.{length-map}
use Rattle.std.proofs.lemmas.Map.Keys.{IsDistinct-head, IsDistinct-tail, IsDistinct-cons}
use Rattle.std.proofs.lemmas.Map.Made.{length-from_same_keys, is_member-filter}
use Rattle.std.specs.Set.{is_member}
use Rattle.fr_model.specs.Words.{IsLetter, IsWord}
use Rattle.fr_model.specs.Permutations.{IsPermutation, numbers_from, identity_permutation}
use Rattle.fr_model.specs.Separation.{IsLexBefore}
use Rattle.fr_model.specs.Ranks.{smaller_in, factorial, rank, IsRank}
use Rattle.fr_model.proofs.PermutationLaws.{letter_in, full, IsPermutation-identity, IsDistinct-map}
use Rattle.fr_model.proofs.CanonicalLaws.{lex_total}
use Rattle.fr_model.proofs.CountLaws.{words_of, length-words_of, words_of-at}

-- ---- how many are smaller
smaller_in-le : (x : ℕ) (xs : List ℕ) → smaller_in x xs ≤ length xs
smaller_in-le x [] = omega arith
smaller_in-le x (y ∷ ys) = elim (cases_Bool (ltb y x)) [
  | inl e ↦ rw e (omega (arith, smaller_in-le x ys))
  | inr e ↦ rw e (omega (arith, smaller_in-le x ys))
]

smaller_in-less : (x y : ℕ) (ys : List ℕ) → y < x → smaller_in x (y ∷ ys) ≡ suc (smaller_in x ys)
smaller_in-less x y ys l = rw (lt-ltb y x l) refl

smaller_in-not_less : (x y : ℕ) (ys : List ℕ) → x ≤ y → smaller_in x (y ∷ ys) ≡ smaller_in x ys
smaller_in-not_less x y ys l = rw (le-ltb y x l) refl

smaller_in-mono : (x y : ℕ) (xs : List ℕ) → x ≤ y → smaller_in x xs ≤ smaller_in y xs
smaller_in-mono x y [] l = omega arith
smaller_in-mono x y (z ∷ zs) l = elim (cases_lt z x) [
  | inl h ↦ rw (smaller_in-less x z zs h, smaller_in-less y z zs (omega arith)) (omega (arith, smaller_in-mono x y zs l))
  | inr h ↦ rw (smaller_in-not_less x z zs h) (elim (cases_lt z y) [
    | inl k ↦ rw (smaller_in-less y z zs k) (omega (arith, smaller_in-mono x y zs l))
    | inr k ↦ rw (smaller_in-not_less y z zs k) (smaller_in-mono x y zs l)
  ])
]

smaller_in-filter : (x : ℕ) (xs : List ℕ) → smaller_in x xs ≡ length (filter (λ y. ltb y x) xs)
smaller_in-filter x [] = refl
smaller_in-filter x (y ∷ ys) = elim (cases_Bool (ltb y x)) [
  | inl e ↦ rw e (ap suc (smaller_in-filter x ys))
  | inr e ↦ rw e (smaller_in-filter x ys)
]

apart-filter : (f : ℕ → Bool) (y : ℕ) (xs : List ℕ) → AllByRecursion (λ z. eqb y z ≡ false) xs → AllByRecursion (λ z. eqb y z ≡ false) (filter f xs)
apart-filter f y [] a = tt
apart-filter f y (x ∷ xs) a = elim (cases_Bool (f x)) [
  | inl e ↦ rw e (a.0, apart-filter f y xs a.1)
  | inr e ↦ rw e (apart-filter f y xs a.1)
]

IsDistinct-filter : (f : ℕ → Bool) (xs : List ℕ) → IsDistinct eqb xs → IsDistinct eqb (filter f xs)
IsDistinct-filter f [] s = s
IsDistinct-filter f (x ∷ xs) s = elim (cases_Bool (f x)) [
  | inl e ↦ rw e (IsDistinct-cons eqb x (filter f xs) (apart-filter f x xs (IsDistinct-head eqb x xs s)) (IsDistinct-filter f xs (IsDistinct-tail eqb x xs s)))
  | inr e ↦ rw e (IsDistinct-filter f xs (IsDistinct-tail eqb x xs s))
]

-- ---- permutations of the same letters hold the same numbers
same_members : (d : ℕ) (p q : List ℕ) → IsPermutation d p → IsPermutation d q → (y : ℕ) → list_any (eqb y) p ≡ list_any (eqb y) q
same_members d p q s r y = elim (cases_Bool (list_any (eqb y) p)) [
  | inl e ↦ e ∙ sym (full d q y r (letter_in d p y s.letters e))
  | inr e ↦ elim (cases_Bool (list_any (eqb y) q)) [
    | inl k ↦ full d p y s (letter_in d q y r.letters k) ∙ sym k
    | inr k ↦ e ∙ sym k
  ]
]

smaller_in-same : (d : ℕ) (p q : List ℕ) → IsPermutation d p → IsPermutation d q → (x : ℕ) → smaller_in x p ≡ smaller_in x q
smaller_in-same d p q s r x =
    smaller_in-filter x p
    ∙ length-from_same_keys nat_eq_equiv (filter (λ y. ltb y x) p) (filter (λ y. ltb y x) q) (IsDistinct-filter (λ y. ltb y x) p s.distinct) (IsDistinct-filter (λ y. ltb y x) q r.distinct)
    (λ y. kept y p ∙ ap (λ b. b && ltb y x) (same_members d p q s r y) ∙ sym (kept y q))
    ∙ sym (smaller_in-filter x q)
  where
    kept : (y : ℕ) (xs : List ℕ) → is_member eqb (filter (λ y. ltb y x) xs) y ≡ (is_member eqb xs y && ltb y x)
    kept y xs = is_member-filter nat_eq_equiv (λ y. ltb y x) y (λ z e. ap (λ n. ltb n x) (eqb-true y z e)) xs

-- ---- a rank is below the factorial
pub factorial-pos : (n : ℕ) → 0 < factorial n
factorial-pos zero = omega arith
factorial-pos (suc n) = omega (arith, factorial-pos n, mul-le-mul_right (factorial n) (one-le n))
  where
    one-le : (n : ℕ) → 1 ≤ suc n
    one-le n = omega arith

-- a digit below m and a rest below f are below m times f
digit-lt : (a b m f : ℕ) → a < m → b < f → a * f + b < m * f
digit-lt a b m f l k = omega (arith, mul-le-mul_right f (up a m l))
  where
    up : (a m : ℕ) → a < m → suc a ≤ m
    up a m l = omega arith

pub rank-lt : (p : List ℕ) → rank p < factorial (length p)
rank-lt [] = omega arith
rank-lt (x ∷ xs) = digit-lt (smaller_in x xs) (rank xs) (suc (length xs)) (factorial (length xs)) (omega (arith, smaller_in-le x xs)) (rank-lt xs)

pub rank_below : (d : ℕ) (p : List ℕ) → IsPermutation d p → rank p < factorial d
rank_below d p s = omega (arith, rank-lt p, ap factorial s.degree)

-- ---- ranks are ordered as the permutations are
-- two lists of which as many are smaller than each number
abbrev AlikeSized : List ℕ → List ℕ → Type 0
AlikeSized p q = (x : ℕ) → smaller_in x p ≡ smaller_in x q

sized_tail : (x : ℕ) (xs ys : List ℕ) → AlikeSized (x ∷ xs) (x ∷ ys) → AlikeSized xs ys
sized_tail x xs ys a z = elim (cases_lt x z) [
  | inl l ↦ omega (arith, sym (smaller_in-less z x xs l) ∙ a z ∙ smaller_in-less z x ys l)
  | inr g ↦ sym (smaller_in-not_less z x xs g) ∙ a z ∙ smaller_in-not_less z x ys g
]

rank-earlier : (p q : List ℕ) → length p ≡ length q → AlikeSized p q → IsLexBefore p q → rank p < rank q
rank-earlier [] q e a b = absurd b
rank-earlier (x ∷ xs) [] e a b = absurd b
rank-earlier (x ∷ xs) (y ∷ ys) e a (inr b) =
    let s : smaller_in x xs ≡ smaller_in y ys = sym (smaller_in-not_less x x xs (omega arith)) ∙ a x ∙ ap (λ z. smaller_in z (y ∷ ys)) b.0 ∙ smaller_in-not_less y y ys (omega arith) in
    let h : rank xs < rank ys = rank-earlier xs ys (omega arith) (sized_tail x xs ys (rw (sym b.0) at a)) b.1 in
    let n : length xs ≡ length ys = omega arith in
    rw (s, n) (omega arith)
rank-earlier (x ∷ xs) (y ∷ ys) e a (inl l) =
    let s : suc (smaller_in x xs) ≤ smaller_in y ys =
    omega (arith, smaller_in-mono x y xs (omega arith), smaller_in-less y x xs l, a y, smaller_in-not_less y y ys (omega arith)) in
    let n : length xs ≡ length ys = omega arith in
    omega (arith, rank-lt xs, mul-le-mul_right (factorial (length xs)) s, ap (λ k. smaller_in y ys * factorial k) n)

pub rank-lt_before : (d : ℕ) (p q : List ℕ) → IsPermutation d p → IsPermutation d q → IsLexBefore p q → rank p < rank q
rank-lt_before d p q s r b = rank-earlier p q (s.degree ∙ sym r.degree) (smaller_in-same d p q s r) b

-- a smaller rank is that of an earlier permutation, and one rank is that of one permutation
pub before_from_rank : (d : ℕ) (p q : List ℕ) → IsPermutation d p → IsPermutation d q → rank p < rank q → IsLexBefore p q
before_from_rank d p q s r l = elim (lex_total p q (s.degree ∙ sym r.degree)) [
  | inl e ↦ absurd (omega (arith, ap rank e))
  | inr o ↦ elim o [ inl b ↦ b | inr b ↦ absurd (omega (arith, rank-lt_before d q p r s b)) ]
]

pub rank_injective : (d : ℕ) (p q : List ℕ) → IsPermutation d p → IsPermutation d q → rank p ≡ rank q → p ≡ q
rank_injective d p q s r e = elim (lex_total p q (s.degree ∙ sym r.degree)) [
  | inl h ↦ h
  | inr o ↦ elim o [ inl b ↦ absurd (omega (arith, rank-lt_before d p q s r b)) | inr b ↦ absurd (omega (arith, rank-lt_before d q p r s b)) ]
]

-- ---- each number below the factorial is a rank
-- room for i: the numbers from i on go up by one
skip : ℕ → ℕ → ℕ
skip i z = cond (ltb z i) z (suc z)

unskip : ℕ → ℕ → ℕ
unskip i z = cond (ltb z i) z (z - 1)

skip-below : (i z : ℕ) → z < i → skip i z ≡ z
unfolding skip
skip-below i z l = rw (lt-ltb z i l) refl

skip-above : (i z : ℕ) → i ≤ z → skip i z ≡ suc z
unfolding skip
skip-above i z l = rw (le-ltb z i l) refl

unskip-skip : (i z : ℕ) → unskip i (skip i z) ≡ z
unfolding unskip
unskip-skip i z = elim (cases_lt z i) [
  | inl l ↦ rw (skip-below i z l, lt-ltb z i l) refl
  | inr g ↦ rw (skip-above i z g, le-ltb (suc z) i (omega arith)) (omega arith)
]

skip-lt : (i y z : ℕ) → ltb (skip i y) (skip i z) ≡ ltb y z
skip-lt i y z = elim (cases_lt y i) [
  | inl l ↦ elim (cases_lt z i) [
    | inl k ↦ rw (skip-below i y l, skip-below i z k) refl
    | inr k ↦ rw (skip-below i y l, skip-above i z k) (lt-ltb y (suc z) (omega arith) ∙ sym (lt-ltb y z (omega arith)))
  ]
  | inr g ↦ elim (cases_lt z i) [
    | inl k ↦ rw (skip-above i y g, skip-below i z k) (le-ltb (suc y) z (omega arith) ∙ sym (le-ltb y z (omega arith)))
    | inr k ↦ rw (skip-above i y g, skip-above i z k) (elim (cases_lt y z) [
      | inl h ↦ lt-ltb (suc y) (suc z) (omega arith) ∙ sym (lt-ltb y z h)
      | inr h ↦ le-ltb (suc y) (suc z) (omega arith) ∙ sym (le-ltb y z h)
    ])
  ]
]

smaller_in-skips : (i x : ℕ) (xs : List ℕ) → smaller_in (skip i x) (map (skip i) xs) ≡ smaller_in x xs
smaller_in-skips i x [] = refl
smaller_in-skips i x (y ∷ ys) = rw (skip-lt i y x, smaller_in-skips i x ys) refl

rank-skips : (i : ℕ) (xs : List ℕ) → rank (map (skip i) xs) ≡ rank xs
rank-skips i [] = refl
rank-skips i (x ∷ xs) = rw (smaller_in-skips i x xs, length-map xs (skip i), rank-skips i xs) refl

-- as many are smaller than i after making room for i as before
smaller_in-room : (i : ℕ) (xs : List ℕ) → smaller_in i (map (skip i) xs) ≡ smaller_in i xs
smaller_in-room i [] = refl
smaller_in-room i (y ∷ ys) = elim (cases_lt y i) [
  | inl l ↦ rw (skip-below i y l, smaller_in-less i y (map (skip i) ys) l, smaller_in-less i y ys l, smaller_in-room i ys) refl
  | inr g ↦ rw (skip-above i y g, smaller_in-not_less i (suc y) (map (skip i) ys) (omega arith), smaller_in-not_less i y ys g, smaller_in-room i ys) refl
]

smaller_in-none : (x k n : ℕ) → x ≤ k → smaller_in x (numbers_from k n) ≡ 0
smaller_in-none x k zero l = refl
smaller_in-none x k (suc n) l = smaller_in-not_less x k (numbers_from (suc k) n) l ∙ smaller_in-none x (suc k) n (omega arith)

smaller_in-numbers_from : (x k n : ℕ) → k ≤ x → x ≤ k + n → k + smaller_in x (numbers_from k n) ≡ x
smaller_in-numbers_from x k zero l h = omega arith
smaller_in-numbers_from x k (suc n) l h = elim (cases_lt k x) [
  | inl g ↦ rw (smaller_in-less x k (numbers_from (suc k) n) g) (omega (arith, smaller_in-numbers_from x (suc k) n (omega arith) (omega arith)))
  | inr g ↦ omega (arith, smaller_in-none x k (suc n) g)
]

smaller_in-permutation : (d i : ℕ) (p : List ℕ) → IsPermutation d p → i ≤ d → smaller_in (suc i) p ≡ i
smaller_in-permutation d i p s l =
    smaller_in-same d p (identity_permutation d) s (IsPermutation-identity d) (suc i)
    ∙ omega (arith, smaller_in-numbers_from (suc i) 1 d (omega arith) (omega arith))

skip-apart : (i : ℕ) (xs : List ℕ) → AllByRecursion (λ z. eqb i z ≡ false) (map (skip i) xs)
skip-apart i [] = tt
skip-apart i (y ∷ ys) = (
  ne_eqb i (skip i y) (elim (cases_lt y i) [
    | inl l ↦ rw (skip-below i y l) (λ e. omega arith)
    | inr g ↦ rw (skip-above i y g) (λ e. omega arith)
  ]),
  skip-apart i ys,
)

skip-IsLetter : (d i x : ℕ) → IsLetter d x → IsLetter (suc d) (skip i x)
skip-IsLetter d i x l = elim (cases_lt x i) [
  | inl k ↦ rw (skip-below i x k) (l.0, omega (arith, l.1))
  | inr g ↦ rw (skip-above i x g) (omega arith, omega (arith, l.1))
]

skips-IsWord : (d i : ℕ) (xs : List ℕ) → IsWord d xs → IsWord (suc d) (map (skip i) xs)
skips-IsWord d i [] w = tt
skips-IsWord d i (x ∷ xs) w = (skip-IsLetter d i x w.0, skips-IsWord d i xs w.1)

-- a permutation of one letter more, whose first image is suc i
IsPermutation-room : (d i : ℕ) (p : List ℕ) → IsPermutation d p → i ≤ d → IsPermutation (suc d) (suc i ∷ map (skip (suc i)) p)
IsPermutation-room d i p s l = record {
  degree = ap suc (length-map p (skip (suc i)) ∙ s.degree);
  letters = ((omega arith, omega arith), skips-IsWord d (suc i) p s.letters);
  distinct = IsDistinct-cons eqb (suc i) (map (skip (suc i)) p) (skip-apart (suc i) p) (IsDistinct-map (skip (suc i)) (unskip (suc i)) (unskip-skip (suc i)) p s.distinct);
}

rank-room : (d i : ℕ) (p : List ℕ) → IsPermutation d p → i ≤ d → rank (suc i ∷ map (skip (suc i)) p) ≡ i * factorial d + rank p
rank-room d i p s l = rw (smaller_in-room (suc i) p, smaller_in-permutation d i p s l, length-map p (skip (suc i)), s.degree, rank-skips (suc i) p) refl

pub permutation_of_rank : (d r : ℕ) → r < factorial d → (p : List ℕ) × IsPermutation d p × (rank p ≡ r)
permutation_of_rank zero r l = ([], IsPermutation-identity 0, omega arith)
permutation_of_rank (suc d) r l =
    let f = factorial d in
    let pos : 0 < factorial d = factorial-pos d in
    let i = r / f in
    let small : r / f < suc d = (div-lt_iff_lt-mul pos).1 l in
    let q = permutation_of_rank d (r % f) (omega arith) in
    let le : r / f ≤ d = omega arith in
    (suc i ∷ map (skip (suc i)) q.0, IsPermutation-room d i q.0 q.1 le, rank-room d i q.0 q.1 le ∙ rw q.2 (omega arith))

-- ---- the rank is the number of the permutations that come earlier
module _ (d : ℕ) (p : List ℕ) (s : IsPermutation d p) where
  below : (i : ℕ) → i < rank p → i < factorial d
  below i l = omega (arith, rank-lt p, ap factorial s.degree)

  earlier : (i : ℕ) → i < rank p → List ℕ
  earlier i l = (permutation_of_rank d i (below i l)).0

  ranks : List (List ℕ)
  ranks = words_of (rank p) earlier

  length-ranks : length ranks ≡ rank p
  unfolding ranks
  length-ranks = length-words_of (rank p) earlier

  ranks-at : (i : ℕ) (z : List ℕ) → i < rank p → IsPermutation d (get_or ranks i z) × (rank (get_or ranks i z) ≡ i)
  unfolding ranks earlier
  ranks-at i z l = words_of-at (rank p) earlier (λ q. IsPermutation d q × (rank q ≡ i)) i z l (λ k. let r = permutation_of_rank d i (below i k) in (r.1, r.2))

  pub IsRank-rank : IsRank d p (rank p)
  IsRank-rank = record {
    members = ranks;
    count = length-ranks;
    valid = λ i z l. let r = ranks-at i z (omega (arith, length-ranks)) in record { permutes = r.0; before = before_from_rank d (get_or ranks i z) p r.0 s (omega (arith, r.1, length-ranks)) };
    apart = λ i j z l h same. omega (arith, (ranks-at i z (omega (arith, length-ranks))).1, (ranks-at j z (omega (arith, length-ranks))).1, ap rank same);
    covers = λ q e.
        let l : rank q < rank p = rank-lt_before d q p e.permutes s e.before in
        let r = ranks-at (rank q) q l in
        (rank q, omega (arith, length-ranks), rank_injective d q (get_or ranks (rank q) q) e.permutes r.0 (sym r.1));
  }
