-- Blocks, items and scripts are determined by their lines, and each list of lines has them.
use Rattle.std.proofs.Common.{◌≡◌, ℕ, zero, suc, ◌+◌, ◌≤◌, Bool, true, false, List, [], ◌∷◌, ◌++◌, length, Option, None, refl, ap, sym, ◌∙◌, MatchBool}
use Rattle.std.specs.Prelude.{nat_lt}
use Rattle.fr_syntax.specs.declared.statement.Recursion.{Recursion}
use Rattle.fr_script.specs.declared.fault.Fault.{Fault}
use Rattle.fr_script.specs.declared.outcome.LineOutcome.{LineOutcome}
use Rattle.fr_script.specs.declared.inner.InnerOutcome.{InnerOutcome}
use Rattle.fr_script.specs.declared.item.Item.{Item}
use Rattle.fr_script.specs.declared.script.Script.{Script}
use Rattle.fr_script.specs.Reading.{ReadsLine}
use Rattle.fr_script.specs.Inner.{ReadsInner}
use Rattle.fr_script.specs.Items.{line_kind, is_blank, is_group, alphabet_after, without_end}
use Rattle.fr_script.specs.Blocks.{before_end, from_end, said, inner_fault, group_fault, end_fault, first_of, block_body, ReadsBlock, EndsBlock, IsBlock}
use Rattle.fr_script.specs.Keeping.{body_of}
use Rattle.fr_script.specs.Scripts.{lines_of, HasItems, alphabet_of, IsScript}
use Rattle.fr_script.proofs.Choices.{one_bool, some_bool, both}
use Rattle.fr_script.proofs.OutcomeLaws.{one_line, some_line, one_inner, some_inner}

-- what lines inside a block say
abbrev pub SaysMore : ℕ → ℕ → List ℕ → List (List ℕ) → List Recursion → Option Fault → Type 0
SaysMore d n line lines recursions fault =
    (outcome : InnerOutcome) × (later : List Recursion) × (next : Option Fault) × ReadsInner d n line outcome × ReadsBlock d (n + 1) lines later next
    × (recursions ≡ said outcome ++ later) × (fault ≡ first_of (inner_fault n outcome) next)

abbrev OneReading : ℕ → ℕ → List (List ℕ) → Type 0
OneReading d n lines = (r s : List Recursion) (f g : Option Fault) → ReadsBlock d n lines r f → ReadsBlock d n lines s g → (r ≡ s) × (f ≡ g)

one_more_reading : (d n : ℕ) (line : List ℕ) (lines : List (List ℕ)) (blank : Bool) (r s : List Recursion) (f g : Option Fault) → OneReading d (n + 1) lines →
    MatchBool blank (ReadsBlock d (n + 1) lines r f) (SaysMore d n line lines r f) → MatchBool blank (ReadsBlock d (n + 1) lines s g) (SaysMore d n line lines s g) →
    (r ≡ s) × (f ≡ g)
one_more_reading d n line lines true r s f g one x y = one r s f g x y
one_more_reading d n line lines false r s f g one x y =
    let o : x.0 ≡ y.0 = one_inner d n line x.0 y.0 x.3 y.3 in
    let rest = one x.1 y.1 x.2 y.2 x.4 y.4 in
    let r' : said x.0 ++ x.1 ≡ said y.0 ++ y.1 = ap (λ u. said u ++ x.1) o ∙ ap (λ l. said y.0 ++ l) rest.0 in
    let f' : first_of (inner_fault n x.0) x.2 ≡ first_of (inner_fault n y.0) y.2 =
    ap (λ u. first_of (inner_fault n u) x.2) o ∙ ap (λ u. first_of (inner_fault n y.0) u) rest.1 in
    (x.5 ∙ r' ∙ sym y.5, x.6 ∙ f' ∙ sym y.6)

one_reading : (d n : ℕ) (lines : List (List ℕ)) → OneReading d n lines
one_reading d n [] r s f g x y = (x.0 ∙ sym y.0, x.1 ∙ sym y.1)
one_reading d n (line ∷ lines) r s f g x y = one_more_reading d n line lines (is_blank (line_kind line) line) r s f g (one_reading d (n + 1) lines) x y

some_reading : (d n : ℕ) (lines : List (List ℕ)) → (recursions : List Recursion) × (fault : Option Fault) × ReadsBlock d n lines recursions fault
some_reading d n [] = ([], None, (refl, refl))
some_reading d n (line ∷ lines) = by (is_blank (line_kind line) line) (some_reading d (n + 1) lines)
  where
    by : (blank : Bool) → ((recursions : List Recursion) × (fault : Option Fault) × ReadsBlock d (n + 1) lines recursions fault) →
        (recursions : List Recursion) × (fault : Option Fault) × MatchBool blank (ReadsBlock d (n + 1) lines recursions fault) (SaysMore d n line lines recursions fault)
    by true rest = rest
    by false rest =
        let o = some_inner d n line in
        (said o.0 ++ rest.0, first_of (inner_fault n o.0) rest.1, (o.0, rest.0, rest.1, o.1, rest.2, refl, refl))

-- the item of a block by what its lines say
abbrev pub block_item : ℕ → ℕ → LineOutcome → List Recursion → Option Fault → List ℕ → Item
block_item n inner outcome recursions fault end_line =
    record {
      line = n;
      body = block_body (first_of (group_fault n outcome) (first_of fault (end_fault (n + 1 + inner) (nat_lt 4096 (length end_line))))) recursions;
    }

one_end : (d : ℕ) (is_first : Bool) (n : ℕ) (group : List ℕ) (inner tail : List (List ℕ)) (a b : Item) →
    EndsBlock d is_first n group inner tail a → EndsBlock d is_first n group inner tail b → a ≡ b
one_end d is_first n group inner [] a b x y = both x y
one_end d is_first n group inner (end_line ∷ after) a b x y =
    let o : x.0 ≡ y.0 = one_line d is_first group x.0 y.0 x.3 y.3 in
    let rest = one_reading d (n + 1) inner x.1 y.1 x.2 y.2 x.4 y.4 in
    x.5
    ∙ ap (λ u. block_item n (length inner) u x.1 x.2 end_line) o
    ∙ ap (λ u. block_item n (length inner) y.0 u x.2 end_line) rest.0
    ∙ ap (λ u. block_item n (length inner) y.0 y.1 u end_line) rest.1
    ∙ sym y.5

some_end : (d : ℕ) (is_first : Bool) (n : ℕ) (group : List ℕ) (inner tail : List (List ℕ)) → (item : Item) × EndsBlock d is_first n group inner tail item
some_end d is_first n group inner [] = (without_end n, refl)
some_end d is_first n group inner (end_line ∷ after) =
    let o = some_line d is_first group in
    let rest = some_reading d (n + 1) inner in
    (block_item n (length inner) o.0 rest.0 rest.1 end_line, (o.0, rest.0, rest.1, o.1, rest.2, refl))

-- a block, and what stands after it
abbrev pub BlockFirst : ℕ → Bool → ℕ → List ℕ → List (List ℕ) → List Item → Type 0
BlockFirst d is_first n line lines items =
    (item : Item) × (later : List Item) × IsBlock d is_first n line lines item
    × HasItems d false (n + 1) (suc (length (before_end lines))) lines later × (items ≡ item ∷ later)

-- another line, and what stands after it
abbrev pub LineFirst : ℕ → Bool → ℕ → List ℕ → List (List ℕ) → List Item → Type 0
LineFirst d is_first n line lines items =
    (outcome : LineOutcome) × (later : List Item) × ReadsLine d is_first line outcome
    × HasItems (alphabet_after d (body_of n outcome)) false (n + 1) zero lines later
    × (items ≡ record { line = n; body = body_of n outcome } ∷ later)

abbrev OneItems : List (List ℕ) → Type 0
OneItems lines = (d : ℕ) (is_first : Bool) (n k : ℕ) (a b : List Item) → HasItems d is_first n k lines a → HasItems d is_first n k lines b → a ≡ b

one_block_first : (d : ℕ) (is_first : Bool) (n : ℕ) (line : List ℕ) (lines : List (List ℕ)) (a b : List Item) → OneItems lines →
    BlockFirst d is_first n line lines a → BlockFirst d is_first n line lines b → a ≡ b
one_block_first d is_first n line lines a b one x y =
    let i : x.0 ≡ y.0 = one_end d is_first n line (before_end lines) (from_end lines) x.0 y.0 x.2 y.2 in
    let l : x.1 ≡ y.1 = one d false (n + 1) (suc (length (before_end lines))) x.1 y.1 x.3 y.3 in
    x.4 ∙ ap (λ u. u ∷ x.1) i ∙ ap (λ u. y.0 ∷ u) l ∙ sym y.4

one_line_first : (d : ℕ) (is_first : Bool) (n : ℕ) (line : List ℕ) (lines : List (List ℕ)) (a b : List Item) → OneItems lines →
    LineFirst d is_first n line lines a → LineFirst d is_first n line lines b → a ≡ b
one_line_first d is_first n line lines a b one x y =
    let o : x.0 ≡ y.0 = one_line d is_first line x.0 y.0 x.2 y.2 in
    let l : x.1 ≡ y.1 = one (alphabet_after d (body_of n y.0)) false (n + 1) zero x.1 y.1 (rw o at x.3) y.3 in
    let cell : LineOutcome → List Item → List Item = λ u v. record { line = n; body = body_of n u } ∷ v in
    x.4 ∙ ap (λ u. cell u x.1) o ∙ ap (cell y.0) l ∙ sym y.4

one_items : (lines : List (List ℕ)) → OneItems lines
one_items [] d is_first n k a b x y = both x y
one_items (line ∷ lines) d is_first n (suc k) a b x y = one_items lines d is_first (n + 1) k a b x y
one_items (line ∷ lines) d is_first n zero a b x y =
    one_bool (is_blank (line_kind line) line) (HasItems d is_first (n + 1) zero lines)
    (λ items. MatchBool (is_group (line_kind line)) (BlockFirst d is_first n line lines items) (LineFirst d is_first n line lines items)) a b
    (one_items lines d is_first (n + 1) zero a b)
    (one_bool (is_group (line_kind line)) (BlockFirst d is_first n line lines) (LineFirst d is_first n line lines) a b
    (one_block_first d is_first n line lines a b (one_items lines)) (one_line_first d is_first n line lines a b (one_items lines)))
    x y

some_items : (lines : List (List ℕ)) (d : ℕ) (is_first : Bool) (n k : ℕ) → (items : List Item) × HasItems d is_first n k lines items
some_items [] d is_first n k = ([], refl)
some_items (line ∷ lines) d is_first n (suc k) = some_items lines d is_first (n + 1) k
some_items (line ∷ lines) d is_first n zero =
    some_bool (is_blank (line_kind line) line) (HasItems d is_first (n + 1) zero lines)
    (λ items. MatchBool (is_group (line_kind line)) (BlockFirst d is_first n line lines items) (LineFirst d is_first n line lines items))
    (some_items lines d is_first (n + 1) zero)
    (some_bool (is_group (line_kind line)) (BlockFirst d is_first n line lines) (LineFirst d is_first n line lines)
    (block (some_items lines d false (n + 1) (suc (length (before_end lines)))))
    (other (some_line d is_first line) (λ e. some_items lines e false (n + 1) zero)))
  where
    block : ((later : List Item) × HasItems d false (n + 1) (suc (length (before_end lines))) lines later) → (items : List Item) × BlockFirst d is_first n line lines items
    block later = let item = some_end d is_first n line (before_end lines) (from_end lines) in (item.0 ∷ later.0, (item.0, later.0, item.1, later.1, refl))

    other : ((o : LineOutcome) × ReadsLine d is_first line o) → ((e : ℕ) → (later : List Item) × HasItems e false (n + 1) zero lines later) →
        (items : List Item) × LineFirst d is_first n line lines items
    other o rest =
        let later = rest (alphabet_after d (body_of n o.0)) in
        (record { line = n; body = body_of n o.0 } ∷ later.0, (o.0, later.0, o.1, later.1, refl))

same_script : (a b : Script) → a.alphabet ≡ b.alphabet → a.items ≡ b.items → a ≡ b
same_script a b h k =
    let with_alphabet : ℕ → Script = λ d. record { alphabet = d; items = a.items } in
    let with_items : List Item → Script = λ l. record { alphabet = b.alphabet; items = l } in
    ap with_alphabet h ∙ ap with_items k

-- bytes write one script
pub one_script : (bytes : List ℕ) (a b : Script) → IsScript bytes a → IsScript bytes b → a ≡ b
one_script bytes a b x y =
    let items : a.items ≡ b.items = one_items (lines_of bytes) 2 true 1 0 a.items b.items x.items y.items in
    same_script a b (x.alphabet ∙ ap (alphabet_of 2) items ∙ sym y.alphabet) items

-- bytes of few enough lines write a script
pub some_script : (bytes : List ℕ) → length (lines_of bytes) ≤ 4096 → (script : Script) × IsScript bytes script
some_script bytes few =
    let items = some_items (lines_of bytes) 2 true 1 0 in
    (record { alphabet = alphabet_of 2 items.0; items = items.0 }, record { few = few; items = items.1; alphabet = refl })
