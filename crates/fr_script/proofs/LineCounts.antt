-- How many lines a text has.
use Rattle.std.proofs.Common.{ℕ, ◌+◌, ◌≤◌, ◌==◌, Bool, true, false, cond, List, [], ◌∷◌, length, count_by, arith}
use Rattle.std.proofs.lemmas.List.Sums.{sum_by-append}
use Rattle.fr_script.specs.Scripts.{lines_of, in_front}

length-in_front : (c n : ℕ) (lines : List (List ℕ)) → length lines ≤ n + 1 → length (in_front c lines) ≤ n + 1
length-in_front c n [] h = omega arith
length-in_front c n (line ∷ lines) h = h

one_more : (c n : ℕ) (lines : List (List ℕ)) (b : Bool) → length lines ≤ n + 1 → length (cond b ([] ∷ lines) (in_front c lines)) ≤ (cond b 1 0 + n) + 1
one_more c n lines true h = omega arith
one_more c n lines false h = let k = length-in_front c n lines h in omega arith

-- at most one more than bytes that end lines
pub lines-by-newlines : (text : List ℕ) → length (lines_of text) ≤ count_by (λ c. c == 10) text + 1
lines-by-newlines [] = omega arith
lines-by-newlines (c ∷ cs) =
    let h : length (lines_of (c ∷ cs)) ≤ (cond (c == 10) 1 0 + count_by (λ x. x == 10) cs) + 1 =
    one_more c (count_by (λ x. x == 10) cs) (lines_of cs) (c == 10) (lines-by-newlines cs) in
    omega (arith, h, sum_by-append (λ x. cond (x == 10) 1 0) (c ∷ []) cs)
