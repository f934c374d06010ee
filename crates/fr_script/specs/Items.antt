-- What a line does, outside a block and inside one.
use Rattle.std.specs.Prelude.{ℕ, ◌≡◌, Bool, true, false, nat_le, nat_lt, if◌then◌else◌, List, [], ◌∷◌, ◌++◌, length, codes, Option, Some, None, MatchBool}
use Rattle.std.specs.Str.{bytes_eq}
use Rattle.fr_script.specs.declared.fault.LineFault.TheVariants as f
use Rattle.fr_syntax.specs.declared.statement.Recursion.{Recursion}
use Rattle.fr_syntax.specs.declared.statement.Statement.{Statement}
use Rattle.fr_syntax.specs.declared.statement.Statement.TheVariants as st
use Rattle.fr_script.specs.declared.outcome.LineOutcome.{LineOutcome}
use Rattle.fr_script.specs.declared.outcome.LineOutcome.TheVariants as o
use Rattle.fr_script.specs.declared.inner.InnerOutcome.{InnerOutcome}
use Rattle.fr_script.specs.declared.inner.InnerOutcome.TheVariants as i
use Rattle.fr_script.specs.declared.fault.Fault.{Fault}
use Rattle.fr_script.specs.declared.item.Body.{Body}
use Rattle.fr_script.specs.declared.item.Body.TheVariants as b
use Rattle.fr_script.specs.declared.item.Item.{Item}
use Rattle.fr_script.specs.declared.item.Block.{Block}
use Rattle.fr_script.specs.declared.item.Outside.{Outside}
use Rattle.fr_script.specs.declared.item.Outside.TheVariants as out
use Rattle.fr_script.specs.declared.item.Inside.{Inside}
use Rattle.fr_script.specs.declared.item.Inside.TheVariants as ins
use Rattle.fr_script.specs.declared.item.LineKind.{LineKind}
use Rattle.fr_script.specs.declared.item.LineKind.TheVariants as k
use Rattle.fr_syntax.specs.Tokens.{Lexeme, Name}
use Rattle.fr_syntax.specs.Lines.{lexemes, code_of, tokens_of}
use Rattle.fr_script.specs.Reading.{ReadsLine}
use Rattle.fr_script.specs.Inner.{ReadsInner}

-- whether a token is this name
abbrev pub is_word : List ℕ → Lexeme → Bool
is_word word (Name text) = bytes_eq text word
is_word word _ = false

-- a `group` line is found by its first token, and the end of a block is a line of the one token `end`
abbrev pub kind_of : List Lexeme → LineKind
kind_of [] = k.Empty
kind_of (token ∷ []) = if is_word (codes "group") token then k.Group else (if is_word (codes "end") token then k.End else k.Other)
kind_of (token ∷ other ∷ tokens) = if is_word (codes "group") token then k.Group else k.Other

-- the kind of a line by its tokens
unfoldable pub line_kind : List ℕ → LineKind
line_kind line = kind_of (lexemes (tokens_of (code_of line)))

-- a line without tokens is blank where it is not too long
abbrev pub is_blank : LineKind → List ℕ → Bool
is_blank k.Empty line = nat_le (length line) 4096
is_blank _ line = false

-- a line that begins a block
abbrev pub is_group : LineKind → Bool
is_group k.Group = true
is_group _ = false

-- a line that ends a block
abbrev pub is_end : LineKind → Bool
is_end k.End = true
is_end _ = false

-- a block that was begun, where its first line may have a fault
abbrev pub begin : ℕ → Option Fault → Block
begin n fault = record { line = n; recursions = []; fault = fault }

-- what a line outside a block does that is not blank
abbrev pub outside_of : ℕ → Bool → LineOutcome → Outside
outside_of n group o.Group = out.Begins (begin n None)
outside_of n group (o.Says statement) = out.Is (record { line = n; body = b.Says statement })
outside_of n true (o.Faulty kind) = out.Begins (begin n (Some (record { line = n; kind = kind })))
outside_of n false (o.Faulty kind) = out.Is (record { line = n; body = b.Faulty (record { line = n; kind = kind }) })

-- A line outside a block is blank, begins a block, or is an item.
abbrev pub ReadsOutside : ℕ → Bool → ℕ → List ℕ → Outside → Type 0
ReadsOutside d is_first n line outside =
    MatchBool (is_blank (line_kind line) line) (outside ≡ out.Blank)
    ((outcome : LineOutcome) × ReadsLine d is_first line outcome × (outside ≡ outside_of n (is_group (line_kind line)) outcome))

-- the first of two faults
abbrev pub or_fault : Option Fault → Fault → Option Fault
or_fault None fault = Some fault
or_fault (Some first) fault = Some first

-- a block with one line more
abbrev pub grown : Block → ℕ → InnerOutcome → Block
grown block n (i.Says recursion) = record { line = block.line; recursions = block.recursions ++ recursion ∷ []; fault = block.fault }
grown block n (i.Faulty kind) = record { line = block.line; recursions = block.recursions; fault = or_fault block.fault (record { line = n; kind = kind }) }

-- what a block says at its end, or its first fault
abbrev pub ended_body : Option Fault → List Recursion → ℕ → Bool → Body
ended_body (Some fault) recursions n is_long = b.Faulty fault
ended_body None recursions n true = b.Faulty (record { line = n; kind = f.LineTooLong })
ended_body None recursions n false = b.Says (st.Group recursions)

-- the item of a block at its end
abbrev pub ended : Block → ℕ → Bool → Item
ended block n is_long = record { line = block.line; body = ended_body block.fault block.recursions n is_long }

-- A line inside a block ends it, is blank, or is one of its lines.
abbrev pub ReadsInside : ℕ → Block → ℕ → List ℕ → Inside → Type 0
ReadsInside d block n line inside =
    MatchBool (is_end (line_kind line)) (inside ≡ ins.Ends (ended block n (nat_lt 4096 (length line))))
    (MatchBool (is_blank (line_kind line) line) (inside ≡ ins.Goes block)
    ((outcome : InnerOutcome) × ReadsInner d n line outcome × (inside ≡ ins.Goes (grown block n outcome))))

-- the item of a block without end
abbrev pub without_end : ℕ → Item
without_end n = record { line = n; body = b.Faulty (record { line = n; kind = f.NoEnd }) }

-- an item, or none
abbrev pub listed : Option Item → List Item
listed None = []
listed (Some item) = item ∷ []

-- an `alphabet` line sets the alphabet
abbrev pub said_alphabet : ℕ → Statement → ℕ
said_alphabet d (st.Alphabet a) = a
said_alphabet d _ = d

-- an accepted `alphabet` line sets the alphabet
abbrev pub alphabet_after : ℕ → Body → ℕ
alphabet_after d (b.Says statement) = said_alphabet d statement
alphabet_after d (b.Faulty fault) = d
