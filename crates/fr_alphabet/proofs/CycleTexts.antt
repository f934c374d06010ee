-- Cycles as they are written, piece by piece.
use Rattle.std.proofs.Common.{ℕ, suc, ◌≡◌, ◌≢◌, ◌+◌, ◌<◌, ◌≤◌, true, false, cond, List, [], ◌∷◌, ◌++◌, length, take, map, refl, sym, ◌∙◌, ap, arith, append_assoc}
use Rattle.std.specs.Prelude.{filter, flat_map}
use Rattle.std.specs.List.{join_with_byte}
use Rattle.std.proofs.lemmas.List.{same_lists, get_or_default, take_at, take_all, take-take, length-take, take_more, append-nil, map-append}
use Rattle.std.proofs.lemmas.List.Elements.{filter-append}
use Rattle.std.proofs.lemmas.Grind.{flat_map-append}
use Rattle.fr_model.specs.Permutations.{IsPermutation, image, identity_permutation}
use Rattle.fr_model.proofs.PermutationLaws.{get_or-numbers_from, length-numbers_from}
use Rattle.fr_alphabet.specs.Writing.{letter_digit}
use Rattle.fr_alphabet.specs.Cycles.{path, cycle_of, begins_cycle, cycle_text, cycles_of, cycles_image, cycles_text}
use Rattle.fr_alphabet.proofs.CycleLaws.{IsOnPath, path-next, path-here}
use Rattle.fr_alphabet.proofs.CycleProducts.{cycles_image-cycles_of}

-- the letters behind the first of a cycle, each with its comma
abbrev pub others_text : List ℕ → List ℕ
others_text [] = []
others_text (y ∷ ys) = 44 ∷ letter_digit y ∷ others_text ys

join-others : (x : ℕ) (c : List ℕ) → join_with_byte 44 (map (λ y. letter_digit y ∷ []) (x ∷ c)) ≡ letter_digit x ∷ others_text c
join-others x [] = refl
join-others x (y ∷ ys) = ap (λ l. letter_digit x ∷ 44 ∷ l) (join-others y ys)

cycle_text-others : (x : ℕ) (c : List ℕ) → cycle_text (x ∷ c) ≡ 40 ∷ letter_digit x ∷ others_text c ++ 41 ∷ []
cycle_text-others x c = ap (λ l. 40 ∷ l ++ 41 ∷ []) (join-others x c)

-- what stood there first stands there still
pub record Keeps (old new : List ℕ) : Type 0 where
  pub kept : take (length old) new ≡ old

pub Keeps-longer : (old new : List ℕ) → Keeps old new → length old ≤ length new
Keeps-longer old new k = let e = ap length k.kept in omega (arith, length-take (length old) new, e)

pub Keeps-trans : (a b c : List ℕ) → Keeps a b → Keeps b c → Keeps a c
Keeps-trans a b c k l =
    let h = Keeps-longer a b k in
    record { kept = sym (take-take (length a) (length b) c h) ∙ ap (take (length a)) l.kept ∙ k.kept }

pub Keeps-same : (old new next : List ℕ) → Keeps old new → next ≡ new → Keeps old next
Keeps-same old new next k e = rw e k

pub Keeps-more : (old new next more : List ℕ) → Keeps old new → next ≡ new ++ more → Keeps old next
Keeps-more old new next more k e = Keeps-trans old new next k (record { kept = ap (take (length new)) e ∙ take_at new more (length new) refl })

pub Keeps-self : (old : List ℕ) → Keeps old old
Keeps-self old = record { kept = take_all (length old) old (omega arith) }

-- a step of the walk is written
pub others_more : (p out old now more : List ℕ) (x y : ℕ) → x ≢ y → IsOnPath p x y → out ++ others_text (path p x y) ≡ more → now ≡ (out ++ 44 ∷ []) ++ (48 + y) ∷ [] → now ++ others_text (path p x (image p y)) ≡ more
others_more p out old now more x y n o e f =
    ap (λ l. l ++ others_text (path p x (image p y))) f ∙ append_assoc (out ++ 44 ∷ []) ((48 + y) ∷ []) (others_text (path p x (image p y)))
    ∙ append_assoc out (44 ∷ []) ((48 + y) ∷ others_text (path p x (image p y))) ∙ ap (λ c. out ++ others_text c) (sym (path-next p x y n o)) ∙ e

pub others_none : (p old out : List ℕ) (x y : ℕ) → y ≡ image p x → out ≡ (old ++ 40 ∷ []) ++ (48 + x) ∷ [] → out ++ others_text (path p x y) ≡ old ++ 40 ∷ letter_digit x ∷ others_text (path p x (image p x))
others_none p old out x y e f =
    ap (λ z. out ++ others_text (path p x z)) e ∙ ap (λ l. l ++ others_text (path p x (image p x))) f
    ∙ append_assoc (old ++ 40 ∷ []) ((48 + x) ∷ []) (others_text (path p x (image p x))) ∙ append_assoc old (40 ∷ []) ((48 + x) ∷ others_text (path p x (image p x)))

pub others_all : (p old out now : List ℕ) (x y : ℕ) → x ≡ y → out ++ others_text (path p x y) ≡ old ++ 40 ∷ letter_digit x ∷ others_text (path p x (image p x)) → now ≡ out ++ 41 ∷ [] → now ≡ old ++ cycle_text (cycle_of p x)
others_all p old out now x y e f g =
    let c = path p x (image p x) in
    let done : out ≡ old ++ 40 ∷ letter_digit x ∷ others_text c = sym (append-nil out) ∙ ap (λ l. out ++ others_text l) (sym (path-here p x y e)) ∙ f in
    g ∙ ap (λ l. l ++ 41 ∷ []) done ∙ append_assoc old (40 ∷ letter_digit x ∷ others_text c) (41 ∷ []) ∙ ap (λ l. old ++ l) (sym (cycle_text-others x c))

-- the cycles that begin at some of the letters
abbrev pub begun_text : List ℕ → List ℕ → List ℕ
begun_text p ls = flat_map cycle_text (map (cycle_of p) (filter (begins_cycle p) ls))

begun_text-append : (p ls ms : List ℕ) → begun_text p (ls ++ ms) ≡ begun_text p ls ++ begun_text p ms
begun_text-append p ls ms =
    let picked : List ℕ = filter (begins_cycle p) ls in
    let more : List ℕ = filter (begins_cycle p) ms in
    ap (λ l. flat_map cycle_text (map (cycle_of p) l)) (filter-append (begins_cycle p) ls ms)
    ∙ ap (flat_map cycle_text) (map-append (cycle_of p) picked more)
    ∙ flat_map-append cycle_text (map (cycle_of p) picked) (map (cycle_of p) more)

begun_text-one : (p : List ℕ) (x : ℕ) → begins_cycle p x ≡ true → begun_text p (x ∷ []) ≡ cycle_text (cycle_of p x)
begun_text-one p x t = ap (λ b. flat_map cycle_text (map (cycle_of p) (cond b (x ∷ []) []))) t ∙ append-nil (cycle_text (cycle_of p x))

begun_text-none : (p : List ℕ) (x : ℕ) → begins_cycle p x ≡ false → begun_text p (x ∷ []) ≡ []
begun_text-none p x f = ap (λ b. flat_map cycle_text (map (cycle_of p) (cond b (x ∷ []) []))) f

-- the letters before i + 2
next_letter : (d i : ℕ) → i < d → take (i + 1) (identity_permutation d) ≡ take i (identity_permutation d) ++ (i + 1) ∷ []
next_letter d i h =
    let e : 1 + i ≡ i + 1 = omega arith in
    take_more (identity_permutation d) i 0 (omega (arith, length-numbers_from 1 d)) ∙ ap (λ x. take i (identity_permutation d) ++ x ∷ []) (get_or-numbers_from 1 d i 0 h ∙ e)

-- one letter more is tried
pub begun_more : (p : List ℕ) (d i : ℕ) (old out new : List ℕ) → i < d → begins_cycle p (i + 1) ≡ true → out ≡ old ++ begun_text p (take i (identity_permutation d)) → new ≡ out ++ cycle_text (cycle_of p (i + 1)) → new ≡ old ++ begun_text p (take (i + 1) (identity_permutation d))
begun_more p d i old out new h t e f =
    let ls = take i (identity_permutation d) in
    f ∙ ap (λ l. l ++ cycle_text (cycle_of p (i + 1))) e ∙ append_assoc old (begun_text p ls) (cycle_text (cycle_of p (i + 1)))
    ∙ ap (λ l. old ++ (begun_text p ls ++ l)) (sym (begun_text-one p (i + 1) t)) ∙ ap (λ l. old ++ l) (sym (begun_text-append p ls ((i + 1) ∷ [])))
    ∙ ap (λ l. old ++ begun_text p l) (sym (next_letter d i h))

pub begun_same : (p : List ℕ) (d i : ℕ) (old out : List ℕ) → i < d → begins_cycle p (i + 1) ≡ false → out ≡ old ++ begun_text p (take i (identity_permutation d)) → out ≡ old ++ begun_text p (take (i + 1) (identity_permutation d))
begun_same p d i old out h t e =
    let ls = take i (identity_permutation d) in
    e ∙ ap (λ l. old ++ l) (sym (append-nil (begun_text p ls)) ∙ ap (λ l. begun_text p ls ++ l) (sym (begun_text-none p (i + 1) t)) ∙ sym (begun_text-append p ls ((i + 1) ∷ []))) ∙ ap (λ l. old ++ begun_text p l) (sym (next_letter d i h))

pub begun_all : (p : List ℕ) (d i : ℕ) (old out : List ℕ) → d ≡ length p → d ≤ i → out ≡ old ++ begun_text p (take i (identity_permutation d)) → out ≡ old ++ cycles_text p
begun_all p d i old out e h f = f ∙ ap (λ l. old ++ begun_text p l) (take_all i (identity_permutation d) (omega (arith, length-numbers_from 1 d)) ∙ ap identity_permutation e)

-- ---- a text is that of one list of cycles, and of one permutation
same_parts : (a b : ℕ) (xs ys : List ℕ) → a ∷ xs ≡ b ∷ ys → (a ≡ b) × (xs ≡ ys)
same_parts a b xs ys h = (cc, cc)

others_same : (c e r t : List ℕ) → others_text c ++ (41 ∷ r) ≡ others_text e ++ (41 ∷ t) → (c ≡ e) × (r ≡ t)
others_same [] [] r t h = (refl, (same_parts 41 41 r t h).1)
others_same [] (z ∷ zs) r t h = absurd (omega (arith, (same_parts 41 44 _ _ h).0))
others_same (y ∷ ys) [] r t h = absurd (omega (arith, (same_parts 44 41 _ _ h).0))
others_same (y ∷ ys) (z ∷ zs) r t h =
    let tail = same_parts (letter_digit y) (letter_digit z) _ _ (same_parts 44 44 _ _ h).1 in
    let e : y ≡ z = omega (arith, tail.0) in
    let rest = others_same ys zs r t tail.1 in
    (rw (e, rest.0) refl, rest.1)

cycle_text-rest : (x : ℕ) (c rest : List ℕ) → cycle_text (x ∷ c) ++ rest ≡ 40 ∷ letter_digit x ∷ (others_text c ++ (41 ∷ rest))
cycle_text-rest x c rest = ap (λ l. l ++ rest) (cycle_text-others x c) ∙ ap (λ l. 40 ∷ letter_digit x ∷ l) (append_assoc (others_text c) (41 ∷ []) rest)

cycles_same : (p q ls ms : List ℕ) → flat_map cycle_text (map (cycle_of p) ls) ≡ flat_map cycle_text (map (cycle_of q) ms) → map (cycle_of p) ls ≡ map (cycle_of q) ms
cycles_same p q [] [] h = refl
cycles_same p q [] (m ∷ ms) h = cc
cycles_same p q (l ∷ ls) [] h = cc
cycles_same p q (l ∷ ls) (m ∷ ms) h =
    let c = path p l (image p l) in
    let e = path q m (image q m) in
    let same = sym (cycle_text-rest l c (flat_map cycle_text (map (cycle_of p) ls))) ∙ h ∙ cycle_text-rest m e (flat_map cycle_text (map (cycle_of q) ms)) in
    let tail = same_parts (letter_digit l) (letter_digit m) _ _ (same_parts 40 40 _ _ same).1 in
    let first : l ≡ m = omega (arith, tail.0) in
    let rest = others_same c e _ _ tail.1 in
    let others = cycles_same p q ls ms rest.1 in
    ap (λ k. (l ∷ c) ∷ k) others ∙ ap (λ k. (l ∷ k) ∷ map (cycle_of q) ms) rest.0 ∙ ap (λ k. (k ∷ e) ∷ map (cycle_of q) ms) first

-- permutations with the same images
same_images : (p q : List ℕ) → length p ≡ length q → ((x : ℕ) → image p x ≡ image q x) → p ≡ q
same_images p q e h = same_lists p q e (λ k d l. get_or_default p k d (suc k) l ∙ h (suc k) ∙ get_or_default q k (suc k) d (omega arith))

pub same_cycles_text : (p q : List ℕ) → IsPermutation (length p) p → IsPermutation (length p) q → cycles_text q ≡ cycles_text p → q ≡ p
same_cycles_text p q s r h =
    let same : cycles_of q ≡ cycles_of p = cycles_same q p _ _ h in
    let r' : IsPermutation (length q) q = rw r.degree r in
    same_images q p r.degree (λ x. sym (cycles_image-cycles_of q x r') ∙ ap (λ c. cycles_image c x) same ∙ cycles_image-cycles_of p x s)
