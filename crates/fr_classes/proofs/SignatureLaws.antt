-- A signature that is written into an array.
use Rattle.std.proofs.Common.{ℕ, suc, ◌≡◌, ◌+◌, ◌-◌, ◌<◌, ◌≤◌, List, [], ◌∷◌, ◌++◌, length, take, set, get_or, replicate, sym, ◌∙◌, ap, arith, append_assoc, length-append}
use Rattle.std.proofs.lemmas.List.{set_at, take_more, take_all, length-take-le, set-append_left, set-append_right, length-replicate}
use Rattle.fr_alphabet.specs.Padded.{padded}

-- so many of a list in eight places, and zeros
abbrev pub written : List ℕ → ℕ → List ℕ
written t i = take i t ++ replicate (8 - i) 0

length-written : (t : List ℕ) (i : ℕ) → i ≤ length t → i ≤ 8 → length (written t i) ≡ 8
length-written t i h g = length-append (take i t) (replicate (8 - i) 0) ∙ omega (arith, length-take-le i t h, length-replicate {A = ℕ} (8 - i) 0)

pub written_more : (t : List ℕ) (i v : ℕ) → i < length t → length t ≤ 8 → v ≡ get_or t i 0 → set (written t i) i v ≡ written t (i + 1)
written_more t i v h g e =
    let room : 8 - i ≡ suc (8 - (i + 1)) = omega arith in
    rw (room, set_at (take i t) 0 (replicate (8 - (i + 1)) 0) v i (length-take-le i t (omega arith)), take_more t i 0 h, e) (sym (append_assoc (take i t) (get_or t i 0 ∷ []) (replicate (8 - (i + 1)) 0)))

-- one entry more of both halves
pub written_both : (p t : List ℕ) (i j v w : ℕ) → i < length p → length p ≤ 8 → length t ≡ length p → j ≡ 8 + i → v ≡ get_or p i 0 → w ≡ get_or t i 0 → set (set (written p i ++ written t i) i v) j w ≡ written p (i + 1) ++ written t (i + 1)
written_both p t i j v w h g same at e f =
    let a = length-written p i (omega arith) (omega arith) in
    let b = length-written p (i + 1) (omega arith) (omega arith) in
    let place : j - 8 ≡ i = omega arith in
    ap (λ xs. set xs j w) (set-append_left (written p i) (written t i) i v (omega (arith, a)) ∙ ap (λ xs. xs ++ written t i) (written_more p i v h g e))
    ∙ set-append_right (written p (i + 1)) (written t i) 8 j w b (omega arith)
    ∙ ap (λ xs. written p (i + 1) ++ xs) (ap (λ k. set (written t i) k w) place ∙ written_more t i w (omega arith) (omega arith) f)

pub length-padded : (p : List ℕ) → length p ≤ 8 → length (padded p) ≡ 8
length-padded p h = length-append p (replicate (8 - length p) 0) ∙ omega (arith, length-replicate {A = ℕ} (8 - length p) 0)

-- the whole is written
pub written_whole : (p : List ℕ) (i : ℕ) → length p ≡ i → written p i ≡ padded p
written_whole p i e = ap (λ xs. xs ++ replicate (8 - i) 0) (take_all i p (omega arith)) ∙ ap (λ n. p ++ replicate (8 - n) 0) (sym e)
