-- One step of the reader of lines inside a block, over the values that it keeps.
use Rattle.std.specs.Prelude.{ℕ, suc, Bool, true, false, if◌then◌else◌, List, [], ◌∷◌, ◌++◌, Option, Some, None}
use Rattle.fr_syntax.specs.declared.token.Mark.TheVariants as m
use Rattle.fr_syntax.specs.declared.statement.SecName.{SecName}
use Rattle.fr_syntax.specs.declared.recursion.RecursionLine.{RecursionLine}
use Rattle.fr_syntax.specs.declared.sections.Head.{Head}
use Rattle.fr_syntax.specs.declared.sections.Sections.{Sections}
use Rattle.fr_syntax.specs.declared.sections.SectionPlace.{SectionPlace}
use Rattle.fr_syntax.specs.declared.sections.SectionPlace.TheVariants as sc
use Rattle.fr_syntax.specs.declared.sections.SectionStep.{SectionStep}
use Rattle.fr_syntax.specs.declared.sections.SectionStep.TheVariants as ss
use Rattle.fr_syntax.specs.declared.cycles.Cycles.{Cycles}
use Rattle.fr_syntax.specs.declared.cycles.CyclePlace.{CyclePlace}
use Rattle.fr_syntax.specs.declared.cycles.CyclePlace.TheVariants as cy
use Rattle.fr_syntax.specs.declared.recursion.Spot.{Spot}
use Rattle.fr_syntax.specs.declared.recursion.Spot.TheVariants as sp
use Rattle.fr_syntax.specs.declared.recursion.RecursionReading.{RecursionReading}
use Rattle.fr_syntax.specs.declared.recursion.RecursionReading.TheVariants as r
use Rattle.fr_syntax.specs.Tokens.{Lexeme, Name, Number, Sign}
use Rattle.fr_syntax.specs.Steps.{is_one}
use Rattle.fr_syntax.specs.Recursions.{letter_of, refuse_number}

-- where the program went on, if it did
abbrev pub moved : {S : Type 0} → Bool → S → Option S
moved true after = Some after
moved false after = None

-- no sections yet
abbrev pub opened : List ℕ → Sections
opened name = record { name = name; done = []; word = []; place = sc.Section }

-- a further section
abbrev pub with_section : Sections → Sections
with_section s = record { name = s.name; done = s.done ++ s.word ∷ []; word = []; place = s.place }

-- the name with its sections
abbrev pub headed : Sections → Head
headed s = record { name = s.name; sections = Some s.done }

-- a name for which no sections are written
abbrev pub bare : List ℕ → Head
bare name = record { name = name; sections = None }

-- a product whose last name is inverted
abbrev pub invert_last : List SecName → List SecName
invert_last [] = []
invert_last (last ∷ []) = record { name = last.name; inverse = true } ∷ []
invert_last (first ∷ other ∷ more) = first ∷ invert_last (other ∷ more)

-- what a token does to a list of sections: it belongs to it, it ends it, or neither
pub data Sectioned : Type 0 where
  Next : Sections → Sectioned
  Ends : Sections → Sectioned
  Stuck : Sectioned

-- what a step of the program did, which left these sections
abbrev pub sectioned : SectionStep → Sections → Sectioned
sectioned ss.Next s = Next s
sectioned ss.Ends s = Ends s
sectioned ss.Stuck s = Stuck

-- the list goes on
abbrev pub go : Sections → SectionPlace → Sectioned
go s place = Next (record { name = s.name; done = s.done; word = s.word; place = place })

-- a further name in a section
abbrev pub add_name : Sections → List ℕ → Sectioned
add_name s name = Next (record { name = s.name; done = s.done; word = s.word ++ record { name = name; inverse = false } ∷ []; place = sc.AfterName })

-- the first token of a section
abbrev pub section_step : Sections → Lexeme → Sectioned
section_step s (Name name) = add_name s name
section_step s (Number text) = if is_one text then go s sc.AfterOne else Stuck
section_step s _ = Stuck

-- what follows a section
abbrev pub end_section : Sections → Lexeme → Sectioned
end_section s (Sign m.Comma) = go (with_section s) sc.Section
end_section s (Sign m.Greater) = Ends (with_section s)
end_section s _ = Stuck

-- what follows a member of a section
abbrev pub after_word : Sections → Lexeme → Sectioned
after_word s (Sign m.Star) = go s sc.NextName
after_word s token = end_section s token

-- what follows a name in a section
abbrev pub after_name : Sections → Lexeme → Sectioned
after_name s (Sign m.Caret) = go s sc.Minus
after_name s token = after_word s token

-- the `-` of an inverse
abbrev pub minus_step : Sections → Lexeme → Sectioned
minus_step s (Sign m.Minus) = go s sc.InverseOne
minus_step s _ = Stuck

-- the 1 of an inverse
abbrev pub inverse_step : Sections → Lexeme → Sectioned
inverse_step s (Number text) = if is_one text then Next (record { name = s.name; done = s.done; word = invert_last s.word; place = sc.AfterInverse }) else Stuck
inverse_step s _ = Stuck

-- a name after a `*`
abbrev pub next_name_step : Sections → Lexeme → Sectioned
next_name_step s (Name name) = add_name s name
next_name_step s _ = Stuck

-- one token in its place
abbrev pub sections_step : SectionPlace → Sections → Lexeme → Sectioned
sections_step sc.Section s token = section_step s token
sections_step sc.AfterOne s token = end_section s token
sections_step sc.AfterName s token = after_name s token
sections_step sc.Minus s token = minus_step s token
sections_step sc.InverseOne s token = inverse_step s token
sections_step sc.AfterInverse s token = after_word s token
sections_step sc.NextName s token = next_name_step s token

-- no cycles yet
abbrev pub fresh : Head → Cycles
fresh head = record { head = head; done = []; current = []; refused = false; place = cy.Number }

-- a further letter in the cycle that is open
abbrev pub with_number : ℕ → Cycles → List ℕ → Cycles
with_number d c text = record { head = c.head; done = c.done; current = c.current ++ letter_of d text ∷ []; refused = refuse_number d text c.refused; place = cy.AfterNumber }

-- the open cycle is closed
abbrev pub with_cycle : Cycles → Cycles
with_cycle c = record { head = c.head; done = c.done ++ c.current ∷ []; current = []; refused = c.refused; place = cy.AfterCycle }

-- a number comes next
abbrev pub at_number : Cycles → Cycles
at_number c = record { head = c.head; done = c.done; current = c.current; refused = c.refused; place = cy.Number }

-- a letter of a cycle
abbrev pub number_step : ℕ → Cycles → Lexeme → Option Cycles
number_step d c (Number text) = Some (with_number d c text)
number_step d c _ = None

-- what follows a letter in a cycle
abbrev pub after_number : Cycles → Lexeme → Option Cycles
after_number c (Sign m.Comma) = Some (at_number c)
after_number c (Sign m.RightParen) = Some (with_cycle c)
after_number c _ = None

-- the `(` of a further cycle
abbrev pub open_next : Cycles → Lexeme → Option Cycles
open_next c (Sign m.LeftParen) = Some (at_number c)
open_next c _ = None

-- one token in its place
abbrev pub cycles_step : ℕ → CyclePlace → Cycles → Lexeme → Option Cycles
cycles_step d cy.Number c token = number_step d c token
cycles_step d cy.AfterNumber c token = after_number c token
cycles_step d cy.AfterCycle c token = open_next c token

-- the name of the line
abbrev pub name_step : Lexeme → Option Spot
name_step (Name name) = Some (sp.Equals name)
name_step _ = None

-- the `=` after it
abbrev pub equals_step : List ℕ → Lexeme → Option Spot
equals_step name (Sign m.Equals) = Some (sp.Body name)
equals_step name _ = None

-- the `<` of the sections, or the `(` of the cycles
abbrev pub body_step : List ℕ → Lexeme → Option Spot
body_step name (Sign m.Less) = Some (sp.Sections (opened name))
body_step name (Sign m.LeftParen) = Some (sp.First (bare name))
body_step name _ = None

-- the `(` of the first cycle
abbrev pub open_first : Head → Lexeme → Option Spot
open_first head (Sign m.LeftParen) = Some (sp.First head)
open_first head _ = None

-- the first token in the cycles
abbrev pub first_step : ℕ → Head → Lexeme → Option Spot
first_step d head (Number text) = Some (sp.Cycles (with_number d (fresh head) text))
first_step d head (Sign m.RightParen) = Some (sp.AfterEmpty head)
first_step d head _ = None

-- one token outside sections, and outside cycles
abbrev pub take_outside : ℕ → Spot → Lexeme → Option Spot
take_outside d sp.Name token = name_step token
take_outside d (sp.Equals name) token = equals_step name token
take_outside d (sp.Body name) token = body_step name token
take_outside d (sp.AfterSections head) token = open_first head token
take_outside d (sp.First head) token = first_step d head token
take_outside d _ token = None

-- what comes after sections that have ended
abbrev pub end_sections : Spot → Spot
end_sections (sp.Sections s) = sp.AfterSections (headed s)
end_sections spot = spot

-- one token in or after sections
abbrev pub in_sections : Sectioned → Option Spot
in_sections (Next s) = Some (sp.Sections s)
in_sections (Ends s) = Some (sp.AfterSections (headed s))
in_sections Stuck = None

-- one token in cycles
abbrev pub in_cycles : Option Cycles → Option Spot
in_cycles None = None
in_cycles (Some c) = Some (sp.Cycles c)

-- one token
abbrev pub take : ℕ → Spot → Lexeme → Option Spot
take d (sp.Sections s) token = in_sections (sections_step s.place s token)
take d (sp.Cycles c) token = in_cycles (cycles_step d c.place c token)
take d spot token = take_outside d spot token

-- the line, where it is whole
abbrev pub told : Head → List (List ℕ) → Bool → Option RecursionLine
told head cycles refused = Some (record { name = head.name; sections = head.sections; cycles = cycles; not_a_letter = refused })

-- the line, where no cycle is open
abbrev pub finish_cycles : CyclePlace → Cycles → Option RecursionLine
finish_cycles cy.AfterCycle c = told c.head c.done c.refused
finish_cycles _ c = None

-- the line, where it is whole
abbrev pub finish : Spot → Option RecursionLine
finish (sp.AfterSections head) = told head [] false
finish (sp.AfterEmpty head) = told head [] false
finish (sp.Cycles c) = finish_cycles c.place c
finish _ = None

-- the line, or the number of its tokens
abbrev pub at_end : ℕ → Option RecursionLine → RecursionReading
at_end count (Some line) = r.Whole line
at_end count None = r.Syntax count

-- goes on where the step was possible
abbrev pub read_on : (Spot → RecursionReading) → ℕ → Option Spot → RecursionReading
read_on more count (Some spot) = more spot
read_on more count None = r.Syntax count

-- the tokens that are left, where so many were read
abbrev pub read_from : ℕ → ℕ → Spot → List Lexeme → RecursionReading
read_from d count spot [] = at_end count (finish spot)
read_from d count spot (token ∷ tokens) = read_on (λ next. read_from d (suc count) next tokens) count (take d spot token)

-- all tokens
unfoldable pub reading : ℕ → List Lexeme → RecursionReading
reading d tokens = read_from d 0 sp.Name tokens
