-- The states of the generator, and the questions that are drawn.
use Rattle.std.proofs.Common.{◌≡◌, ℕ, zero, suc, ◌+◌, ◌*◌, ◌/◌, ◌%◌, ◌==◌, cond, List, [], ◌∷◌, ◌++◌, codes, slice_index, drop, length, length-append, count_by, refl, sym, ap, ◌∙◌, add-one, add-zero, add-suc, arith}
use Rattle.std.proofs.lemmas.List.Sums.{sum_by-append}
use Rattle.std.proofs.Math.Seq.{drop-append-add}
use Rattle.fr_demo.specs.Demonstration.{next, state, name_at, drawn, question_of, question, questions, definitions, demonstration}

pub state-after : (seed k j : ℕ) → state (state seed k) j ≡ state seed (k + j)
unfolding state
state-after seed k zero = ap (state seed) (sym (add-zero k))
state-after seed k (suc j) = ap next (state-after seed k j) ∙ ap (state seed) (sym (add-suc k j))

same_question : (x x' y y' z z' w w' : ℕ) → x ≡ x' → y ≡ y' → z ≡ z' → w ≡ w' → question_of x y z w ≡ question_of x' y' z' w'
same_question x x' y y' z z' w w' a b c d = cc

pub question-after : (seed i : ℕ) → question (state seed (4 * i)) 0 ≡ question seed i
question-after seed i =
    let at = λ (k : ℕ). ap name_at (state-after seed (4 * i) k) in
    same_question (drawn (state seed (4 * i)) 1) (drawn seed (4 * i + 1)) (drawn (state seed (4 * i)) 2) (drawn seed (4 * i + 2))
    (drawn (state seed (4 * i)) 3) (drawn seed (4 * i + 3)) (drawn (state seed (4 * i)) 4) (drawn seed (4 * i + 4)) (at 1) (at 2) (at 3) (at 4)

-- four draws, one after the other
pub question_of_draws : (s a b c x y z w : ℕ) → a ≡ next s → b ≡ next a → c ≡ next b
    → x ≡ name_at (next s) → y ≡ name_at (next a) → z ≡ name_at (next b) → w ≡ name_at (next c) → question_of x y z w ≡ question s 0
unfolding state
question_of_draws s a b c x y z w first second third is_x is_y is_z is_w =
    let at = λ (k : ℕ). name_at (next k) in
    let to_b = second ∙ ap next first in
    let to_c = third ∙ ap next to_b in
    same_question x (drawn s 1) y (drawn s 2) z (drawn s 3) w (drawn s 4) is_x (is_y ∙ ap at first) (is_z ∙ ap at to_b) (is_w ∙ ap at to_c)

pub state_of_draws : (s a b c d : ℕ) → a ≡ next s → b ≡ next a → c ≡ next b → d ≡ next c → d ≡ state s 4
unfolding state
state_of_draws s a b c d first second third fourth = fourth ∙ ap next (third ∙ ap next (second ∙ ap next first))

-- a script that grows by a question
pub grown : (seed n : ℕ) (before asked after : List ℕ) → before ≡ definitions ++ questions seed n → asked ≡ question seed n → after ≡ before ++ asked
    → after ≡ definitions ++ questions seed (n + 1)
unfolding questions
grown seed n before asked after is is_asked longer = rw add-one (longer ∙ ap (λ (b : List ℕ). b ++ asked) is ∙ ap (λ (q : List ℕ). (definitions ++ questions seed n) ++ q) is_asked)

pub questions-length : (seed n : ℕ) → length (questions seed n) ≡ 11 * n
unfolding questions
questions-length seed zero = refl
questions-length seed (suc n) = omega (arith, length-append (questions seed n) (question seed n), questions-length seed n)

no_newline : (k : ℕ) → count_by (λ c. c == 10) (slice_index (codes "abcdtpq") k ∷ []) ≡ 0
no_newline zero = refl
no_newline (suc zero) = refl
no_newline (suc (suc zero)) = refl
no_newline (suc (suc (suc zero))) = refl
no_newline (suc (suc (suc (suc zero)))) = refl
no_newline (suc (suc (suc (suc (suc zero))))) = refl
no_newline (suc (suc (suc (suc (suc (suc zero)))))) = refl
no_newline (suc (suc (suc (suc (suc (suc (suc k))))))) = refl

one_newline : (seed n : ℕ) → count_by (λ c. c == 10) (question seed n) ≡ 1
one_newline seed n =
    let no = λ (k : ℕ). no_newline (state seed k / 16777216 % 7) in
    omega (arith, no (4 * n + 1), no (4 * n + 2), no (4 * n + 3), no (4 * n + 4))

pub questions-lines : (seed n : ℕ) → count_by (λ c. c == 10) (questions seed n) ≡ n
unfolding questions
questions-lines seed zero = refl
questions-lines seed (suc n) = omega (arith, sum_by-append (λ c. cond (c == 10) 1 0) (questions seed n) (question seed n), one_newline seed n, questions-lines seed n)

pub demonstration-length : (seed : ℕ) → length (demonstration seed) ≡ 21991
demonstration-length seed = omega (arith, length-append definitions (questions seed 1991), questions-length seed 1991)

pub demonstration-lines : (seed : ℕ) → count_by (λ c. c == 10) (demonstration seed) ≡ 2000
demonstration-lines seed = omega (arith, sum_by-append (λ c. cond (c == 10) 1 0) definitions (questions seed 1991), questions-lines seed 1991)

last_byte : (seed n : ℕ) → drop (11 * n + 10) (questions seed (suc n)) ≡ 10 ∷ []
unfolding questions
last_byte seed n =
    ap (λ k. drop (k + 10) (questions seed n ++ question seed n)) (sym (questions-length seed n)) ∙ drop-append-add (questions seed n) (question seed n) 10

pub demonstration-end : (seed : ℕ) → drop 21990 (demonstration seed) ≡ codes "\n"
demonstration-end seed = drop-append-add definitions (questions seed 1991) 21900 ∙ last_byte seed 1990
