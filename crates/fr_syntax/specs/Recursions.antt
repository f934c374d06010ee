-- The grammar of the lines inside a block, and what they say.
use Rattle.std.specs.Prelude.{ℕ, Bool, true, false, not, ◌||◌, ◌&&◌, nat_le, if◌then◌else◌, List, [], ◌∷◌, ◌++◌, Some, None}
use Rattle.fr_syntax.specs.declared.token.Mark.TheVariants as m
use Rattle.fr_syntax.specs.declared.statement.SecName.{SecName}
use Rattle.fr_syntax.specs.declared.recursion.RecursionLine.{RecursionLine}
use Rattle.fr_syntax.specs.Tokens.{Lexeme, Name, Number, Sign}
use Rattle.fr_syntax.specs.Grammar.{one}
use Rattle.fr_syntax.specs.Values.{capped_value}

-- secname = NAME [ "^" "-" "1" ]
pub data SecNameTree : Type 0 where
  Forward : List ℕ → SecNameTree
  Inverse : List ℕ → SecNameTree

-- secname { "*" secname }
pub data SecWordTree : Type 0 where
  OneName : SecNameTree → SecWordTree
  MoreNames : SecWordTree → SecNameTree → SecWordTree

-- sec = "1" | secname { "*" secname }
pub data SecTree : Type 0 where
  Trivial : SecTree
  Names : SecWordTree → SecTree

-- sec { "," sec }
pub data SecsTree : Type 0 where
  OneSec : SecTree → SecsTree
  MoreSecs : SecsTree → SecTree → SecsTree

-- NUMBER { "," NUMBER }
pub data NumbersTree : Type 0 where
  OneNumber : List ℕ → NumbersTree
  MoreNumbers : NumbersTree → List ℕ → NumbersTree

-- cycle { cycle }, where cycle = "(" NUMBER { "," NUMBER } ")"
pub data CycleListTree : Type 0 where
  OneCycle : NumbersTree → CycleListTree
  MoreCycles : CycleListTree → NumbersTree → CycleListTree

-- cycles = "(" ")" | cycle { cycle }
pub data CyclesTree : Type 0 where
  NoCycles : CyclesTree
  Cycles : CycleListTree → CyclesTree

-- recursion = NAME "=" "<" sec { "," sec } ">" [ cycles ] | NAME "=" cycles
pub data RecursionTree : Type 0 where
  WithSections : List ℕ → SecsTree → RecursionTree
  WithBoth : List ℕ → SecsTree → CyclesTree → RecursionTree
  WithCycles : List ℕ → CyclesTree → RecursionTree

-- the tokens of a tree, and then the rest
abbrev pub spell_secname : SecNameTree → List Lexeme → List Lexeme
spell_secname (Forward name) rest = Name name ∷ rest
spell_secname (Inverse name) rest = Name name ∷ Sign m.Caret ∷ Sign m.Minus ∷ one ∷ rest

-- the same of a product of names
abbrev pub spell_secword : SecWordTree → List Lexeme → List Lexeme
spell_secword (OneName name) rest = spell_secname name rest
spell_secword (MoreNames word name) rest = spell_secword word (Sign m.Star ∷ spell_secname name rest)

-- the same of a section
abbrev pub spell_sec : SecTree → List Lexeme → List Lexeme
spell_sec Trivial rest = one ∷ rest
spell_sec (Names word) rest = spell_secword word rest

-- the same of a list of sections
abbrev pub spell_secs : SecsTree → List Lexeme → List Lexeme
spell_secs (OneSec sec) rest = spell_sec sec rest
spell_secs (MoreSecs secs sec) rest = spell_secs secs (Sign m.Comma ∷ spell_sec sec rest)

-- the same of the letters of a cycle
abbrev pub spell_numbers : NumbersTree → List Lexeme → List Lexeme
spell_numbers (OneNumber text) rest = Number text ∷ rest
spell_numbers (MoreNumbers numbers text) rest = spell_numbers numbers (Sign m.Comma ∷ Number text ∷ rest)

-- the same of a list of cycles
abbrev pub spell_cycle_list : CycleListTree → List Lexeme → List Lexeme
spell_cycle_list (OneCycle numbers) rest = Sign m.LeftParen ∷ spell_numbers numbers (Sign m.RightParen ∷ rest)
spell_cycle_list (MoreCycles cycles numbers) rest = spell_cycle_list cycles (Sign m.LeftParen ∷ spell_numbers numbers (Sign m.RightParen ∷ rest))

-- the same of the cycles of a line
abbrev pub spell_cycles : CyclesTree → List Lexeme → List Lexeme
spell_cycles NoCycles rest = Sign m.LeftParen ∷ Sign m.RightParen ∷ rest
spell_cycles (Cycles cycles) rest = spell_cycle_list cycles rest

-- the same of a line
abbrev pub spell_recursion : RecursionTree → List Lexeme → List Lexeme
spell_recursion (WithSections name secs) rest = Name name ∷ Sign m.Equals ∷ Sign m.Less ∷ spell_secs secs (Sign m.Greater ∷ rest)
spell_recursion (WithBoth name secs cycles) rest = Name name ∷ Sign m.Equals ∷ Sign m.Less ∷ spell_secs secs (Sign m.Greater ∷ spell_cycles cycles rest)
spell_recursion (WithCycles name cycles) rest = Name name ∷ Sign m.Equals ∷ spell_cycles cycles rest

-- the tokens of a line
abbrev pub recursion_tokens : RecursionTree → List Lexeme
recursion_tokens line = spell_recursion line []

-- The values.
abbrev pub secname_value : SecNameTree → SecName
secname_value (Forward name) = record { name = name; inverse = false }
secname_value (Inverse name) = record { name = name; inverse = true }

-- the names of a product
abbrev pub secword_value : SecWordTree → List SecName
secword_value (OneName name) = secname_value name ∷ []
secword_value (MoreNames word name) = secword_value word ++ secname_value name ∷ []

-- the names of a section, and none for 1
abbrev pub sec_value : SecTree → List SecName
sec_value Trivial = []
sec_value (Names word) = secword_value word

-- the sections of a list
abbrev pub secs_value : SecsTree → List (List SecName)
secs_value (OneSec sec) = sec_value sec ∷ []
secs_value (MoreSecs secs sec) = secs_value secs ++ sec_value sec ∷ []

-- a number that is no letter is refused, and then its value tells nothing
unfoldable pub is_letter_number : ℕ → List ℕ → Bool
is_letter_number d text = nat_le 1 (capped_value text) && nat_le (capped_value text) d

-- the letter of a number
unfoldable pub letter_of : ℕ → List ℕ → ℕ
letter_of d text = if is_letter_number d text then capped_value text else 0

-- the letters of a cycle
abbrev pub numbers_value : ℕ → NumbersTree → List ℕ
numbers_value d (OneNumber text) = letter_of d text ∷ []
numbers_value d (MoreNumbers numbers text) = numbers_value d numbers ++ letter_of d text ∷ []

-- the cycles of a list
abbrev pub cycle_list_value : ℕ → CycleListTree → List (List ℕ)
cycle_list_value d (OneCycle numbers) = numbers_value d numbers ∷ []
cycle_list_value d (MoreCycles cycles numbers) = cycle_list_value d cycles ++ numbers_value d numbers ∷ []

-- the cycles of a line
abbrev pub cycles_value : ℕ → CyclesTree → List (List ℕ)
cycles_value d NoCycles = []
cycles_value d (Cycles cycles) = cycle_list_value d cycles

-- whether a number that is no letter was refused, after those before it
abbrev pub refuse_number : ℕ → List ℕ → Bool → Bool
refuse_number d text refused = refused || not (is_letter_number d text)

-- the same of the numbers of a cycle
abbrev pub refuse_numbers : ℕ → NumbersTree → Bool → Bool
refuse_numbers d (OneNumber text) refused = refuse_number d text refused
refuse_numbers d (MoreNumbers numbers text) refused = refuse_number d text (refuse_numbers d numbers refused)

-- the same of a list of cycles
abbrev pub refuse_cycle_list : ℕ → CycleListTree → Bool → Bool
refuse_cycle_list d (OneCycle numbers) refused = refuse_numbers d numbers refused
refuse_cycle_list d (MoreCycles cycles numbers) refused = refuse_numbers d numbers (refuse_cycle_list d cycles refused)

-- the same of the cycles of a line
abbrev pub refuse_cycles : ℕ → CyclesTree → Bool → Bool
refuse_cycles d NoCycles refused = refused
refuse_cycles d (Cycles cycles) refused = refuse_cycle_list d cycles refused

-- what a line says
abbrev pub recursion_value : ℕ → RecursionTree → RecursionLine
recursion_value d (WithSections name secs) = record { name = name; sections = Some (secs_value secs); cycles = []; not_a_letter = false }
recursion_value d (WithBoth name secs cycles) =
    record { name = name; sections = Some (secs_value secs); cycles = cycles_value d cycles; not_a_letter = refuse_cycles d cycles false }
recursion_value d (WithCycles name cycles) = record { name = name; sections = None; cycles = cycles_value d cycles; not_a_letter = refuse_cycles d cycles false }
