-- The elements of minimal machines, and the self-similar group of some of them (Nekrashevych, Self-Similar Groups, chapter
-- 2).
use Rattle.std.specs.Prelude.{ℕ, ◌≡◌, List, [], ◌∷◌, map}
use Rattle.std.specs.List.{All}
use Rattle.fr_model.specs.Terms.{Term, IsAlike}
use Rattle.fr_model.specs.Classes.{HasMoreThan}
use Rattle.fr_model.specs.Nuclei.{IsGeneratorSection, IsNucleusMember}
use Rattle.fr_machine.specs.Machine.{MachineView}
use Rattle.fr_machine.specs.Rows.{row_term}

-- a minimal machine stands for its first row
abbrev pub element_of : MachineView → Term
element_of m = row_term m.rows 0

-- the elements of minimal machines
abbrev pub elements_of : List MachineView → List Term
elements_of ms = map element_of ms

-- the number of letters of the first machine
abbrev pub alphabet_of : List MachineView → ℕ
alphabet_of [] = 0
alphabet_of (m ∷ ms) = m.alphabet

-- all machines are over d letters
abbrev pub AreOver : ℕ → List MachineView → Type 0
AreOver d ms = All (λ m. m.alphabet ≡ d) ms

-- 1, the sections of the generators and those of their inverses
abbrev pub IsSectionOf : List MachineView → Term → Type 0
IsSectionOf gens = IsGeneratorSection (alphabet_of gens) (elements_of gens)

-- the limit sections of these, and those of products of such a member and one of these
abbrev pub IsMemberOf : List MachineView → Term → Type 0
IsMemberOf gens = IsNucleusMember (alphabet_of gens) (IsSectionOf gens)

-- more than n of these sections, no two of which act alike
abbrev pub HasMoreSections : List MachineView → ℕ → Type 0
HasMoreSections gens n = HasMoreThan (IsSectionOf gens) IsAlike n

-- more than n members, no two of which act alike
abbrev pub HasMoreMembers : List MachineView → ℕ → Type 0
HasMoreMembers gens n = HasMoreThan (IsMemberOf gens) IsAlike n
