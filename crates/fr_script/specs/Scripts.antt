-- A script is cut into lines, and its items are its blocks and its other lines. The language is this project's own.
use Rattle.std.specs.Prelude.{ℕ, zero, suc, ◌≡◌, ◌+◌, ◌≤◌, Bool, true, false, not, ◌==◌, if◌then◌else◌, List, [], ◌∷◌, ◌++◌, length, take_while, MatchBool}
use Rattle.fr_script.specs.declared.outcome.LineOutcome.{LineOutcome}
use Rattle.fr_script.specs.declared.item.Item.{Item}
use Rattle.fr_script.specs.declared.line_reader.State.{State}
use Rattle.fr_script.specs.declared.script.Script.{Script}
use Rattle.fr_script.specs.Reading.{ReadsLine}
use Rattle.fr_script.specs.Keeping.{body_of}
use Rattle.fr_script.specs.Items.{line_kind, is_blank, is_group, listed, alphabet_after}
use Rattle.fr_script.specs.Blocks.{before_end, IsBlock}
use Rattle.fr_script.specs.Pushes.{RunsFrom, end_of, begun}

-- a byte in front of the first line
abbrev pub in_front : ℕ → List (List ℕ) → List (List ℕ)
in_front c [] = (c ∷ []) ∷ []
in_front c (line ∷ lines) = (c ∷ line) ∷ lines

-- cut at each byte 10; a last piece that is not empty is a line
abbrev pub lines_of : List ℕ → List (List ℕ)
lines_of [] = []
lines_of (c ∷ cs) = if c == 10 then [] ∷ lines_of cs else in_front c (lines_of cs)

-- the bytes up to the first byte 10
abbrev pub first_line : List ℕ → List ℕ
first_line text = take_while (λ c. not (c == 10)) text

-- The items of lines over an alphabet of d letters. The next line has the number n, `is_first` says that no item stands
-- above it, and k lines still belong to the block above. A blank line is no item, a block is one, and any other line is one.
abbrev pub HasItems : ℕ → Bool → ℕ → ℕ → List (List ℕ) → List Item → Type 0
HasItems d is_first n k [] items = items ≡ []
HasItems d is_first n (suc k) (line ∷ lines) items = HasItems d is_first (n + 1) k lines items
HasItems d is_first n zero (line ∷ lines) items =
    MatchBool (is_blank (line_kind line) line) (HasItems d is_first (n + 1) zero lines items)
    (MatchBool (is_group (line_kind line))
    ((item : Item) × (later : List Item) × IsBlock d is_first n line lines item
    × HasItems d false (n + 1) (suc (length (before_end lines))) lines later × (items ≡ item ∷ later))
    ((outcome : LineOutcome) × (later : List Item) × ReadsLine d is_first line outcome
    × HasItems (alphabet_after d (body_of n outcome)) false (n + 1) zero lines later
    × (items ≡ record { line = n; body = body_of n outcome } ∷ later)))

-- the alphabet after items, where it had d letters before them
abbrev pub alphabet_of : ℕ → List Item → ℕ
alphabet_of d [] = d
alphabet_of d (item ∷ items) = alphabet_of (alphabet_after d item.body) items

-- the script that bytes write
pub record IsScript (bytes : List ℕ) (script : Script) : Type 0 where
  pub few : length (lines_of bytes) ≤ 4096
  pub items : HasItems 2 true 1 0 (lines_of bytes) script.items
  pub alphabet : script.alphabet ≡ alphabet_of 2 script.items

-- the script that a reader gives to whom its lines are given one after the other
pub record IsReadByLines (bytes : List ℕ) (script : Script) : Type 0 where
  pub few : length (lines_of bytes) ≤ 4096
  pub ended : List Item
  pub last : State
  pub runs : RunsFrom begun (lines_of bytes) ended last
  pub items : script.items ≡ ended ++ listed (end_of last.block)
  pub alphabet : script.alphabet ≡ last.alphabet
