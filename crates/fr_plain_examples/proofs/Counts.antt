-- How many sections the powers in the examples have, and how many pairs of sections their factors.
use Rattle.std.proofs.Common.{[], ◌∷◌, refl, arith}
use Rattle.std.specs.List.{IsDistinct}
use Rattle.std.proofs.lemmas.List.Elements.{All-from_recursion}
use Rattle.fr_model.specs.Words.{IsLetter, IsWord}
use Rattle.fr_model.specs.Automata.{state_term}
use Rattle.fr_model.specs.Classes.{IsSize, IsPairCount}
use Rattle.fr_plain_examples.proofs.AddingPowers.{powers}
use Rattle.fr_plain_examples.proofs.Counting.{count_pairs, count_sections}

first : IsLetter 2 1
first = (omega arith, omega arith)

second : IsLetter 2 2
second = (omega arith, omega arith)

pub size_of_one_back : IsSize 2 (state_term powers 2) 2
unfolding IsDistinct powers state_term
size_of_one_back = count_sections 2 (omega arith) ([] ∷ (2 ∷ []) ∷ []) (All-from_recursion (IsWord 2) ([] ∷ (2 ∷ []) ∷ []) (tt, ((second, tt), tt))) ((refl, tt), (tt, tt)) refl refl

pub size_of_two_back : IsSize 2 (state_term powers 1) 3
unfolding IsDistinct powers state_term
size_of_two_back = count_sections 1 (omega arith) ([] ∷ (1 ∷ []) ∷ (1 ∷ 2 ∷ []) ∷ []) (All-from_recursion (IsWord 2) ([] ∷ (1 ∷ []) ∷ (1 ∷ 2 ∷ []) ∷ []) (tt, ((first, tt), ((first, (second, tt)), tt)))) ((refl, (refl, tt)), ((refl, tt), (tt, tt))) refl refl

pub size_of_three_back : IsSize 2 (state_term powers 0) 4
unfolding IsDistinct powers state_term
size_of_three_back = count_sections 0 (omega arith) ([] ∷ (1 ∷ []) ∷ (2 ∷ []) ∷ (2 ∷ 2 ∷ []) ∷ []) (All-from_recursion (IsWord 2) ([] ∷ (1 ∷ []) ∷ (2 ∷ []) ∷ (2 ∷ 2 ∷ []) ∷ []) (tt, ((first, tt), ((second, tt), ((second, (second, tt)), tt))))) ((refl, (refl, (refl, tt))), ((refl, (refl, tt)), ((refl, tt), (tt, tt)))) refl refl

pub size_of_square : IsSize 2 (state_term powers 5) 3
unfolding IsDistinct powers state_term
size_of_square = count_sections 5 (omega arith) ([] ∷ (1 ∷ []) ∷ (1 ∷ 1 ∷ []) ∷ []) (All-from_recursion (IsWord 2) ([] ∷ (1 ∷ []) ∷ (1 ∷ 1 ∷ []) ∷ []) (tt, ((first, tt), ((first, (first, tt)), tt)))) ((refl, (refl, tt)), ((refl, tt), (tt, tt))) refl refl

pub size_of_fourth : IsSize 2 (state_term powers 7) 4
unfolding IsDistinct powers state_term
size_of_fourth = count_sections 7 (omega arith) ([] ∷ (1 ∷ []) ∷ (1 ∷ 1 ∷ []) ∷ (1 ∷ 1 ∷ 1 ∷ []) ∷ []) (All-from_recursion (IsWord 2) ([] ∷ (1 ∷ []) ∷ (1 ∷ 1 ∷ []) ∷ (1 ∷ 1 ∷ 1 ∷ []) ∷ []) (tt, ((first, tt), ((first, (first, tt)), ((first, (first, (first, tt))), tt))))) ((refl, (refl, (refl, tt))), ((refl, (refl, tt)), ((refl, tt), (tt, tt)))) refl refl

pub size_of_fifth : IsSize 2 (state_term powers 8) 5
unfolding IsDistinct powers state_term
size_of_fifth = count_sections 8 (omega arith) ([] ∷ (1 ∷ []) ∷ (2 ∷ []) ∷ (1 ∷ 1 ∷ []) ∷ (1 ∷ 1 ∷ 1 ∷ []) ∷ []) (All-from_recursion (IsWord 2) ([] ∷ (1 ∷ []) ∷ (2 ∷ []) ∷ (1 ∷ 1 ∷ []) ∷ (1 ∷ 1 ∷ 1 ∷ []) ∷ []) (tt, ((first, tt), ((second, tt), ((first, (first, tt)), ((first, (first, (first, tt))), tt)))))) ((refl, (refl, (refl, (refl, tt)))), ((refl, (refl, (refl, tt))), ((refl, (refl, tt)), ((refl, tt), (tt, tt))))) refl refl

pub pairs_of_t_and_t : IsPairCount 2 (state_term powers 4) (state_term powers 4) 4
unfolding IsDistinct powers state_term
pairs_of_t_and_t = count_pairs 4 4 (omega arith) (omega arith) ([] ∷ (1 ∷ []) ∷ (2 ∷ []) ∷ (1 ∷ 1 ∷ []) ∷ []) (All-from_recursion (IsWord 2) ([] ∷ (1 ∷ []) ∷ (2 ∷ []) ∷ (1 ∷ 1 ∷ []) ∷ []) (tt, ((first, tt), ((second, tt), ((first, (first, tt)), tt))))) ((refl, (refl, (refl, tt))), ((refl, (refl, tt)), ((refl, tt), (tt, tt)))) refl refl

pub pairs_of_squares : IsPairCount 2 (state_term powers 5) (state_term powers 5) 5
unfolding IsDistinct powers state_term
pairs_of_squares = count_pairs 5 5 (omega arith) (omega arith) ([] ∷ (1 ∷ []) ∷ (1 ∷ 1 ∷ []) ∷ (1 ∷ 2 ∷ []) ∷ (1 ∷ 1 ∷ 1 ∷ []) ∷ []) (All-from_recursion (IsWord 2) ([] ∷ (1 ∷ []) ∷ (1 ∷ 1 ∷ []) ∷ (1 ∷ 2 ∷ []) ∷ (1 ∷ 1 ∷ 1 ∷ []) ∷ []) (tt, ((first, tt), ((first, (first, tt)), ((first, (second, tt)), ((first, (first, (first, tt))), tt)))))) ((refl, (refl, (refl, (refl, tt)))), ((refl, (refl, (refl, tt))), ((refl, (refl, tt)), ((refl, tt), (tt, tt))))) refl refl

pub pairs_of_fourth_and_t : IsPairCount 2 (state_term powers 7) (state_term powers 4) 7
unfolding IsDistinct powers state_term
pairs_of_fourth_and_t = count_pairs 7 4 (omega arith) (omega arith) ([] ∷ (1 ∷ []) ∷ (2 ∷ []) ∷ (1 ∷ 1 ∷ []) ∷ (2 ∷ 2 ∷ []) ∷ (1 ∷ 1 ∷ 1 ∷ []) ∷ (2 ∷ 2 ∷ 1 ∷ []) ∷ []) (All-from_recursion (IsWord 2) ([] ∷ (1 ∷ []) ∷ (2 ∷ []) ∷ (1 ∷ 1 ∷ []) ∷ (2 ∷ 2 ∷ []) ∷ (1 ∷ 1 ∷ 1 ∷ []) ∷ (2 ∷ 2 ∷ 1 ∷ []) ∷ []) (tt, ((first, tt), ((second, tt), ((first, (first, tt)), ((second, (second, tt)), ((first, (first, (first, tt))), ((second, (second, (first, tt))), tt)))))))) ((refl, (refl, (refl, (refl, (refl, (refl, tt)))))), ((refl, (refl, (refl, (refl, (refl, tt))))), ((refl, (refl, (refl, (refl, tt)))), ((refl, (refl, (refl, tt))), ((refl, (refl, tt)), ((refl, tt), (tt, tt))))))) refl refl

pub pairs_of_inverses : IsPairCount 2 (state_term powers 2) (state_term powers 2) 4
unfolding IsDistinct powers state_term
pairs_of_inverses = count_pairs 2 2 (omega arith) (omega arith) ([] ∷ (1 ∷ []) ∷ (2 ∷ []) ∷ (1 ∷ 2 ∷ []) ∷ []) (All-from_recursion (IsWord 2) ([] ∷ (1 ∷ []) ∷ (2 ∷ []) ∷ (1 ∷ 2 ∷ []) ∷ []) (tt, ((first, tt), ((second, tt), ((first, (second, tt)), tt))))) ((refl, (refl, (refl, tt))), ((refl, (refl, tt)), ((refl, tt), (tt, tt)))) refl refl

pub pairs_of_two_back_and_inverse : IsPairCount 2 (state_term powers 1) (state_term powers 2) 5
unfolding IsDistinct powers state_term
pairs_of_two_back_and_inverse = count_pairs 1 2 (omega arith) (omega arith) ([] ∷ (1 ∷ []) ∷ (2 ∷ []) ∷ (1 ∷ 2 ∷ []) ∷ (2 ∷ 2 ∷ []) ∷ []) (All-from_recursion (IsWord 2) ([] ∷ (1 ∷ []) ∷ (2 ∷ []) ∷ (1 ∷ 2 ∷ []) ∷ (2 ∷ 2 ∷ []) ∷ []) (tt, ((first, tt), ((second, tt), ((first, (second, tt)), ((second, (second, tt)), tt)))))) ((refl, (refl, (refl, (refl, tt)))), ((refl, (refl, (refl, tt))), ((refl, (refl, tt)), ((refl, tt), (tt, tt))))) refl refl
