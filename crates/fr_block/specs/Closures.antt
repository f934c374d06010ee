-- The section words of several names together, numbered from 0, and the rows that stand for them. This project's own.
use Rattle.std.specs.Prelude.{ℕ, suc, ◌≡◌, ◌+◌, ◌<◌, ◌≤◌, ◌⊎◌, List, [], ◌∷◌, ◌++◌, length, slice_index, slice_index_or}
use Rattle.std.specs.List.{All}
use Rattle.fr_model.specs.Words.{IsLetter}
use Rattle.fr_model.specs.Permutations.{IsPermutation, image}
use Rattle.fr_model.specs.Systems.{Factor, System, product_output, product_section}
use Rattle.fr_model.specs.Classes.{HasMoreThan}
use Rattle.fr_model.specs.FreeWords.{reduced, IsSectionWord}
use Rattle.fr_machine.specs.declared.row.Row.{Row}
pub use Rattle.fr_model.specs.Automata.{one_name}

-- a section word of one of so many names from the first on
pub record IsWordOf (d : ℕ) (s : System) (first count : ℕ) (fs : List Factor) : Type 0 where
  pub name : ℕ
  pub least : first ≤ name
  pub most : name < first + count
  pub word : IsSectionWord d s name fs

-- these names together have more than 8,192 section words, or one of more than 4,096 members
abbrev pub AreClosuresPassed : ℕ → System → ℕ → ℕ → Type 0
AreClosuresPassed d s first count = HasMoreThan (IsWordOf d s first count) (λ f g. f ≡ g) 8192 ⊎ ((fs : List Factor) × IsWordOf d s first count fs × (4096 < length fs))

-- no two places have one word
abbrev pub AreApart : List (List Factor) → Type 0
AreApart words = (i j : ℕ) → i < length words → j < length words → slice_index_or words i [] ≡ slice_index_or words j [] → i ≡ j

-- n is the number of the word, which has it from now on if it had none
pub record IsNumbered (words words' : List (List Factor)) (w : List Factor) (n : ℕ) : Type 0 where
  pub below : n < length words'
  pub is : slice_index_or words' n [] ≡ w
  pub keeps : (words' ≡ words) ⊎ (words' ≡ words ++ w ∷ [])
  pub few : length words' ≤ 8192
  pub short : length w ≤ 4096

-- the word has too many members and is not taken, or is one too many
abbrev pub IsPassed : List (List Factor) → List (List Factor) → List Factor → Type 0
IsPassed words words' w = ((4096 < length w) × (words' ≡ words)) ⊎ ((words' ≡ words ++ w ∷ []) × (8192 < length words') × AreApart words')

-- words that were met stay in their places
abbrev pub Extends : List (List Factor) → List (List Factor) → Type 0
Extends words words' = (length words ≤ length words') × ((i : ℕ) → i < length words → slice_index_or words' i [] ≡ slice_index_or words i [])

-- what each row of words has: known names, few words, and short ones
pub record AreWords (s : System) (words : List (List Factor)) : Type 0 where
  pub few : length words ≤ 8192
  pub known : All (λ fs. All (λ f. f.name < length s) fs) words
  pub short : All (λ fs. length fs ≤ 4096) words

-- section words stay section words
abbrev pub StayWords : ℕ → System → List (List Factor) → List (List Factor) → List Factor → Type 0
StayWords d s words words' fs = (first count : ℕ) → IsWordOf d s first count fs → All (IsWordOf d s first count) words → All (IsWordOf d s first count) words'

-- the next rows at the first letters stand for the sections there
pub record IsRowPart (d : ℕ) (s : System) (before after : List (List Factor)) (fs : List Factor) (next : List ℕ) (x : ℕ) : Type 0 where
  pub are : AreWords s after
  pub extends : Extends before after
  pub stay : StayWords d s before after fs
  pub width : length next ≡ 8
  pub nexts : (y : ℕ) → y < x → (slice_index next y < length after) × (slice_index_or after (slice_index next y) [] ≡ reduced (product_section s fs (suc y)))
  pub zeros : (y : ℕ) → x ≤ y → y < 8 → slice_index next y ≡ 0

-- a row that stands for a word
pub record IsRowFor (d : ℕ) (s : System) (words : List (List Factor)) (fs : List Factor) (r : Row) : Type 0 where
  pub permutes : IsPermutation d r.perm
  pub outputs : (x : ℕ) → IsLetter d x → image r.perm x ≡ product_output s fs x
  pub width : length r.next ≡ 8
  pub nexts : (x : ℕ) → x < d → (slice_index r.next x < length words) × (slice_index_or words (slice_index r.next x) [] ≡ reduced (product_section s fs (suc x)))
  pub zeros : (x : ℕ) → d ≤ x → x < 8 → slice_index r.next x ≡ 0

-- a row for a word, after which more words may be known
pub record IsRowMade (d : ℕ) (s : System) (before after : List (List Factor)) (fs : List Factor) (r : Row) : Type 0 where
  pub are : AreWords s after
  pub extends : Extends before after
  pub stay : StayWords d s before after fs
  pub row : IsRowFor d s after fs r

-- a section of the word passes a limit
abbrev pub IsRowPassed : ℕ → System → List (List Factor) → List Factor → Type 0
IsRowPassed d s words fs = (first count : ℕ) → IsWordOf d s first count fs → All (IsWordOf d s first count) words → AreClosuresPassed d s first count

-- the words of the names from the first on, numbered so that the names come first
pub record AreNameWords (first count : ℕ) (words : List (List Factor)) : Type 0 where
  pub size : length words ≡ count
  pub at : (i : ℕ) → i < count → slice_index_or words i [] ≡ one_name (first + i)
