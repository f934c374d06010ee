-- Where no number was refused, the cycles of a line have letters alone.
use Rattle.std.proofs.Common.{◌≡◌, ℕ, Bool, true, false, not, ◌&&◌, cond, List, [], ◌∷◌, ◌++◌, refl, sym, subst}
use Rattle.std.specs.Prelude.{nat_le}
use Rattle.std.proofs.lemmas.Bool.{leb-true}
use Rattle.std.proofs.lemmas.Grind.{flat_map-append}
use Rattle.fr_model.specs.Words.{IsLetter, IsWord}
use Rattle.fr_syntax.specs.Values.{capped_value}
use Rattle.fr_syntax.specs.Recursions.{NumbersTree, OneNumber, MoreNumbers, CycleListTree, OneCycle, MoreCycles, CyclesTree, NoCycles, Cycles, RecursionTree, WithSections, WithBoth, WithCycles, is_letter_number, letter_of, numbers_value, cycle_list_value, cycles_value, refuse_number, refuse_numbers, refuse_cycle_list, refuse_cycles, recursion_value}
use Rattle.fr_syntax.specs.declared.recursion.RecursionLine.{RecursionLine}
use Rattle.fr_syntax.specs.declared.recursion.RecursionReading.TheVariants as r
use Rattle.fr_syntax.specs.Tokens.{Lexeme}
use Rattle.fr_syntax.specs.RecursionFaults.{ReadsRecursion}
use Rattle.fr_script.specs.Cycles.{cycles_letters}
use Rattle.fr_script.specs.Inner.{HasLetters}
use Rattle.fr_script.proofs.CycleLaws.{or-none}

and-both : (b c : Bool) → (b && c) ≡ true → (b ≡ true) × (c ≡ true)
and-both true c h = (refl, h)
and-both false c h = cc

not-false : (b : Bool) → not b ≡ false → b ≡ true
not-false true h = refl
not-false false h = cc

letter_by : (d n : ℕ) (b : Bool) → (nat_le 1 n && nat_le n d) ≡ b → b ≡ true → IsLetter d (cond b n 0)
letter_by d n true h k = let both = and-both (nat_le 1 n) (nat_le n d) h in (leb-true 1 n both.0, leb-true n d both.1)
letter_by d n false h k = cc

letter_from : (d : ℕ) (text : List ℕ) → is_letter_number d text ≡ true → IsLetter d (letter_of d text)
unfolding letter_of is_letter_number
letter_from d text h = letter_by d (capped_value text) _ refl h

number_letter : (d : ℕ) (text : List ℕ) (before : Bool) → refuse_number d text before ≡ false → (IsLetter d (letter_of d text)) × (before ≡ false)
number_letter d text before h =
    let both = or-none before (not (is_letter_number d text)) h in
    (letter_from d text (not-false (is_letter_number d text) both.1), both.0)

word-append : (d : ℕ) (v w : List ℕ) → IsWord d v → IsWord d w → IsWord d (v ++ w)
word-append d [] w g h = h
word-append d (x ∷ v) w g h = (g.0, word-append d v w g.1 h)

numbers_word : (d : ℕ) (numbers : NumbersTree) (before : Bool) → refuse_numbers d numbers before ≡ false → (IsWord d (numbers_value d numbers)) × (before ≡ false)
numbers_word d (OneNumber text) before h = let one = number_letter d text before h in ((one.0, tt), one.1)
numbers_word d (MoreNumbers numbers text) before h =
    let last = number_letter d text (refuse_numbers d numbers before) h in
    let rest = numbers_word d numbers before last.1 in
    (word-append d (numbers_value d numbers) (letter_of d text ∷ []) rest.0 (last.0, tt), rest.1)

cycle_list_word : (d : ℕ) (cycles : CycleListTree) (before : Bool) → refuse_cycle_list d cycles before ≡ false →
    (IsWord d (cycles_letters (cycle_list_value d cycles))) × (before ≡ false)
cycle_list_word d (OneCycle numbers) before h =
    let one = numbers_word d numbers before h in (word-append d (numbers_value d numbers) [] one.0 tt, one.1)
cycle_list_word d (MoreCycles cycles numbers) before h =
    let last = numbers_word d numbers (refuse_cycle_list d cycles before) h in
    let rest = cycle_list_word d cycles before last.1 in
    let split : cycles_letters (cycle_list_value d cycles ++ numbers_value d numbers ∷ []) ≡ cycles_letters (cycle_list_value d cycles) ++ (numbers_value d numbers ++ []) =
    flat_map-append (λ cycle. cycle) (cycle_list_value d cycles) (numbers_value d numbers ∷ []) in
    let P : List ℕ → Type 0 = λ l. IsWord d l in
    (subst P (sym split) (word-append d (cycles_letters (cycle_list_value d cycles)) (numbers_value d numbers ++ []) rest.0 (word-append d (numbers_value d numbers) [] last.0 tt)), rest.1)

cycles_word : (d : ℕ) (cycles : CyclesTree) → refuse_cycles d cycles false ≡ false → IsWord d (cycles_letters (cycles_value d cycles))
cycles_word d NoCycles h = tt
cycles_word d (Cycles cycles) h = (cycle_list_word d cycles false h).0

-- the cycles of a line of the grammar
pub HasLetters-value : (d : ℕ) (tree : RecursionTree) → HasLetters d (recursion_value d tree)
HasLetters-value d (WithSections name secs) h = tt
HasLetters-value d (WithBoth name secs cycles) h = cycles_word d cycles h
HasLetters-value d (WithCycles name cycles) h = cycles_word d cycles h

-- the cycles of a line that was read
pub HasLetters-read : (d : ℕ) (tokens : List Lexeme) (line : RecursionLine) → ReadsRecursion d tokens (r.Whole line) → HasLetters d line
HasLetters-read d tokens line h = let P : RecursionLine → Type 0 = λ l. HasLetters d l in subst P (sym h.2) (HasLetters-value d h.0)
