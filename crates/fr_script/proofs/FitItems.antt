-- The items of a script, and the state of a reader, fit their alphabet.
use Rattle.std.proofs.Common.{◌≡◌, ℕ, zero, suc, ◌+◌, ◌<◌, ◌≤◌, Bool, true, false, List, [], ◌∷◌, ◌++◌, length, Option, Some, None, refl, sym, ◌∙◌, subst, arith, MatchBool}
use Rattle.std.specs.Prelude.{nat_lt, if◌then◌else◌}
use Rattle.fr_syntax.specs.declared.statement.Recursion.{Recursion}
use Rattle.fr_syntax.specs.Fits.{FitsRecursions}
use Rattle.fr_script.specs.declared.fault.Fault.{Fault}
use Rattle.fr_script.specs.declared.outcome.LineOutcome.{LineOutcome}
use Rattle.fr_script.specs.declared.outcome.LineOutcome.TheVariants as o
use Rattle.fr_script.specs.declared.inner.InnerOutcome.{InnerOutcome}
use Rattle.fr_script.specs.declared.inner.InnerOutcome.TheVariants as i
use Rattle.fr_script.specs.declared.item.Item.{Item}
use Rattle.fr_script.specs.declared.script.Script.{Script}
use Rattle.fr_script.specs.Reading.{ReadsLine}
use Rattle.fr_script.specs.Items.{line_kind, is_blank, is_group, is_end, alphabet_after}
use Rattle.fr_script.specs.Blocks.{before_end, from_end, said, inner_fault, first_of, group_fault, end_fault, block_body, ReadsBlock, EndsBlock}
use Rattle.fr_script.specs.Keeping.{body_of}
use Rattle.fr_script.specs.Scripts.{lines_of, HasItems, alphabet_of, IsScript}
use Rattle.fr_script.specs.Fits.{FitsFault, FitsBody, FitsItems, FitsScript}
use Rattle.fr_script.proofs.BlockLaws.{SaysMore, BlockFirst, LineFirst}
use Rattle.fr_script.proofs.FitLaws.{InnerFits, inner-fits, OutcomeFits, outcome-fits, body-fits, later-alphabet}

-- what a line inside a block says, in front of what later lines say
said-fits : (d m low high : ℕ) (outcome : InnerOutcome) (later : List Recursion) → low < m → InnerFits d m outcome → FitsRecursions d m high later → FitsRecursions d low high later →
    FitsRecursions d low high (said outcome ++ later)
said-fits d m low high (i.Says recursion) later h fits rest other =
    let above : low < recursion.line = omega (arith, h, fits.0) in
    (above, fits.1, subst (λ (x : ℕ). FitsRecursions d x high later) (sym fits.0) rest)
said-fits d m low high (i.Faulty kind) later h fits rest other = other

said-few : (outcome : InnerOutcome) (later : List Recursion) → length (said outcome ++ later) ≤ suc (length later)
said-few (i.Says recursion) later = omega arith
said-few (i.Faulty kind) later = omega arith

abbrev BlockFits : ℕ → ℕ → ℕ → ℕ → List Recursion → Type 0
BlockFits d m low high recursions = FitsRecursions d low high recursions × (length recursions + m ≤ high + 1)

first_of-fits : (first second : Option Fault) → FitsFault first → FitsFault second → FitsFault (first_of first second)
first_of-fits None second x y = y
first_of-fits (Some first) second x y = x

inner_fault-fits : (d m : ℕ) (outcome : InnerOutcome) → InnerFits d m outcome → FitsFault (inner_fault m outcome)
inner_fault-fits d m (i.Says recursion) h = tt
inner_fault-fits d m (i.Faulty kind) h = h

group_fault-fits : (d n : ℕ) (outcome : LineOutcome) → OutcomeFits d outcome → FitsFault (group_fault n outcome)
group_fault-fits d n o.Group h = tt
group_fault-fits d n (o.Says statement) h = tt
group_fault-fits d n (o.Faulty kind) h = h

end_fault-fits : (n : ℕ) (is_long : Bool) → FitsFault (end_fault n is_long)
end_fault-fits n true = tt
end_fault-fits n false = tt

-- the first fault of lines inside a block
fault-fits : (d m : ℕ) (lines : List (List ℕ)) (recursions : List Recursion) (fault : Option Fault) → ReadsBlock d m lines recursions fault → FitsFault fault
fault-fits d m [] recursions fault reads = let P : Option Fault → Type 0 = λ x. FitsFault x in subst P (sym reads.1) tt
fault-fits d m (line ∷ lines) recursions fault reads = by (is_blank (line_kind line) line) (λ r f x. fault-fits d (m + 1) lines r f x) reads
  where
    by : (blank : Bool) → ((r : List Recursion) (f : Option Fault) → ReadsBlock d (m + 1) lines r f → FitsFault f) →
        MatchBool blank (ReadsBlock d (m + 1) lines recursions fault) (SaysMore d m line lines recursions fault) → FitsFault fault
    by true rest x = rest recursions fault x
    by false rest x =
        let P : Option Fault → Type 0 = λ y. FitsFault y in
        subst P (sym x.6) (first_of-fits (inner_fault m x.0) x.2 (inner_fault-fits d m x.0 (inner-fits d m line x.0 x.3)) (rest x.1 x.2 x.4))

abbrev LinesFit : ℕ → List (List ℕ) → Type 0
LinesFit d lines = (m low high : ℕ) (recursions : List Recursion) (fault : Option Fault) → low < m → m + length lines ≤ high + 1 →
    ReadsBlock d m lines recursions fault → BlockFits d m low high recursions

more-lines : (d : ℕ) (line : List ℕ) (lines : List (List ℕ)) (m low high : ℕ) (recursions : List Recursion) (fault : Option Fault) (blank : Bool) → LinesFit d lines →
    low < m → m + suc (length lines) ≤ high + 1 → MatchBool blank (ReadsBlock d (m + 1) lines recursions fault) (SaysMore d m line lines recursions fault) →
    BlockFits d m low high recursions
more-lines d line lines m low high recursions fault true rest h g reads =
    let all = rest (m + 1) low high recursions fault (omega (arith, h)) (omega (arith, g)) reads in (all.0, omega (arith, all.1))
more-lines d line lines m low high recursions fault false rest h g reads =
    let here = rest (m + 1) m high reads.1 reads.2 (omega arith) (omega (arith, g)) reads.4 in
    let below = rest (m + 1) low high reads.1 reads.2 (omega (arith, h)) (omega (arith, g)) reads.4 in
    let P : List Recursion → Type 0 = λ x. BlockFits d m low high x in
    subst P (sym reads.5)
    (said-fits d m low high reads.0 reads.1 h (inner-fits d m line reads.0 reads.3) here.0 below.0, omega (arith, said-few reads.0 reads.1, here.1))

block-lines : (d : ℕ) (lines : List (List ℕ)) → LinesFit d lines
block-lines d [] m low high recursions fault h g reads =
    let P : List Recursion → Type 0 = λ x. BlockFits d m low high x in
    subst P (sym reads.0) (omega (arith, h, g), omega (arith, g))
block-lines d (line ∷ lines) m low high recursions fault h g reads =
    more-lines d line lines m low high recursions fault (is_blank (line_kind line) line) (block-lines d lines) h g reads

before-few : (lines : List (List ℕ)) → length (before_end lines) ≤ length lines
before-few [] = omega arith
before-few (line ∷ lines) = by (is_end (line_kind line)) (before-few lines)
  where
    by : (b : Bool) → length (before_end lines) ≤ length lines → length (if b then [] else line ∷ before_end lines) ≤ suc (length lines)
    by true h = omega arith
    by false h = omega (arith, h)

block_body-fits : (d n high : ℕ) (fault : Option Fault) (recursions : List Recursion) → FitsFault fault → FitsRecursions d n high recursions → length recursions ≤ 4096 →
    FitsBody d n high (block_body fault recursions) × (alphabet_after d (block_body fault recursions) ≡ d)
block_body-fits d n high (Some fault) recursions k h g = (k, refl)
block_body-fits d n high None recursions k h g = ((h, g), refl)

-- an item of the line n
abbrev ItemFits : ℕ → ℕ → ℕ → Item → Type 0
ItemFits d n high item = (item.line ≡ n) × FitsBody d n high item.body × (alphabet_after d item.body ≡ d)

end-fits : (d : ℕ) (is_first : Bool) (n high : ℕ) (group : List ℕ) (inner tail : List (List ℕ)) (item : Item) → n + 1 + length inner ≤ high + 1 → high ≤ 4096 →
    EndsBlock d is_first n group inner tail item → ItemFits d n high item
end-fits d is_first n high group inner [] item h g ends = let P : Item → Type 0 = λ x. ItemFits d n high x in subst P (sym ends) (refl, tt, refl)
end-fits d is_first n high group inner (end_line ∷ after) item h g ends =
    let lines = block-lines d inner (n + 1) n high ends.1 ends.2 (omega arith) h ends.4 in
    let late = end_fault (n + 1 + length inner) (nat_lt 4096 (length end_line)) in
    let few : length ends.1 ≤ 4096 = omega (arith, lines.1, g) in
    let P : Item → Type 0 = λ x. ItemFits d n high x in
    let body = block_body-fits d n high (first_of (group_fault n ends.0) (first_of ends.2 (end_fault (n + 1 + length inner) (nat_lt 4096 (length end_line))))) ends.1
    (first_of-fits (group_fault n ends.0) (first_of ends.2 late) (group_fault-fits d n ends.0 (outcome-fits d is_first group ends.0 ends.3))
    (first_of-fits ends.2 late (fault-fits d (n + 1) inner ends.1 ends.2 ends.4) (end_fault-fits (n + 1 + length inner) (nat_lt 4096 (length end_line)))))
    lines.0 few in
    subst P (sym ends.5) (refl, body.0, body.1)

-- an item, and what stands after it
record Head (d : ℕ) (is_first : Bool) (n high : ℕ) (lines : List (List ℕ)) (items : List Item) : Type 0 where
  item : Item
  later : List Item
  count : ℕ
  is : items ≡ item ∷ later
  line : item.line ≡ n
  fits : FitsBody (alphabet_after d item.body) n high item.body
  rest : HasItems (alphabet_after d item.body) false (n + 1) count lines later
  same : is_first ≡ false → alphabet_after d item.body ≡ d

head-block : (d : ℕ) (is_first : Bool) (n high : ℕ) (line : List ℕ) (lines : List (List ℕ)) (items : List Item) → n + suc (length lines) ≤ high + 1 → high ≤ 4096 →
    BlockFirst d is_first n line lines items →
    Head d is_first n high lines items
head-block d is_first n high line lines items h g block =
    let fits = end-fits d is_first n high line (before_end lines) (from_end lines) block.0 (omega (arith, h, before-few lines)) g block.2 in
    record {
      item = block.0;
      later = block.1;
      count = suc (length (before_end lines));
      is = block.4;
      line = fits.0;
      fits = subst (λ (x : ℕ). FitsBody x n high block.0.body) (sym fits.2) fits.1;
      rest = subst (λ (x : ℕ). HasItems x false (n + 1) (suc (length (before_end lines))) lines block.1) (sym fits.2) block.3;
      same = λ e. fits.2;
    }

head-line : (d : ℕ) (is_first : Bool) (n high : ℕ) (line : List ℕ) (lines : List (List ℕ)) (items : List Item) → n + suc (length lines) ≤ high + 1 →
    LineFirst d is_first n line lines items →
    Head d is_first n high lines items
head-line d is_first n high line lines items h one = record {
  item = record { line = n; body = body_of n one.0 };
  later = one.1;
  count = zero;
  is = one.4;
  line = refl;
  fits = body-fits d n high one.0 (omega (arith, h)) (outcome-fits d is_first line one.0 one.2);
  rest = one.3;
  same = λ e. later-alphabet d n line one.0 (subst (λ (x : Bool). ReadsLine d x line one.0) e one.2);
}

FitsItems-head : (d n low high : ℕ) (item : Item) (later : List Item) → low < n → n ≤ high → item.line ≡ n → FitsBody d n high item.body → FitsItems d n high later →
    FitsItems d low high (item ∷ later)
FitsItems-head d n low high item later h g e fits rest =
    let above : low < item.line = omega (arith, h, e) in
    let within : item.line ≤ high = omega (arith, g, e) in
    let P : ℕ → Type 0 = λ x. FitsBody d x high item.body × FitsItems d x high later in
    let both : P item.line = subst P (sym e) (fits, rest) in
    (above, (within, both.0), both.1)

-- the items of lines where an item stands above them
abbrev LaterFit : List (List ℕ) → Type 0
LaterFit lines = (d n k low high : ℕ) (items : List Item) → HasItems d false n k lines items → low < n → n + length lines ≤ high + 1 → high ≤ 4096 →
    (alphabet_of d items ≡ d) × FitsItems d low high items × (length items ≤ length lines)

-- the items of lines, by the first of them
from-head : (d : ℕ) (is_first : Bool) (n low high : ℕ) (lines : List (List ℕ)) (items : List Item) → LaterFit lines → low < n → n + suc (length lines) ≤ high + 1 → high ≤ 4096 →
    (front : Head d is_first n high lines items) →
    (alphabet_of d items ≡ alphabet_after d front.item.body) × FitsItems (alphabet_after d front.item.body) low high items × (length items ≤ suc (length lines))
from-head d is_first n low high lines items later-fit h g few front =
    let d' = alphabet_after d front.item.body in
    let rest = later-fit d' (n + 1) front.count n high front.later front.rest (omega arith) (omega (arith, g)) few in
    let P : List Item → Type 0 = λ x. (alphabet_of d x ≡ d') × FitsItems d' low high x × (length x ≤ suc (length lines)) in
    subst P (sym front.is)
    (rest.0, FitsItems-head d' n low high front.item front.later h (omega (arith, g)) front.line front.fits rest.1, omega (arith, rest.2))

to-head : (d : ℕ) (is_first : Bool) (n high : ℕ) (line : List ℕ) (lines : List (List ℕ)) (items : List Item) (group : Bool) → n + suc (length lines) ≤ high + 1 → high ≤ 4096 →
    MatchBool group (BlockFirst d is_first n line lines items) (LineFirst d is_first n line lines items) →
    Head d is_first n high lines items
to-head d is_first n high line lines items true h g x = head-block d is_first n high line lines items h g x
to-head d is_first n high line lines items false h g x = head-line d is_first n high line lines items h x

later-fit : (lines : List (List ℕ)) → LaterFit lines
later-fit [] d n k low high items has h g few =
    let P : List Item → Type 0 = λ x. (alphabet_of d x ≡ d) × FitsItems d low high x × (length x ≤ 0) in subst P (sym has) (refl, tt, omega arith)
later-fit (line ∷ lines) d n (suc k) low high items has h g few =
    let rest = later-fit lines d (n + 1) k low high items has (omega (arith, h)) (omega (arith, g)) few in (rest.0, rest.1, omega (arith, rest.2))
later-fit (line ∷ lines) d n zero low high items has h g few = by (is_blank (line_kind line) line) (later-fit lines) has
  where
    by : (blank : Bool) → LaterFit lines → MatchBool blank (HasItems d false (n + 1) zero lines items) (MatchBool (is_group (line_kind line)) (BlockFirst d false n line lines items) (LineFirst d false n line lines items)) →
        (alphabet_of d items ≡ d) × FitsItems d low high items × (length items ≤ suc (length lines))
    by true rest x = let all = rest d (n + 1) zero low high items x (omega (arith, h)) (omega (arith, g)) few in (all.0, all.1, omega (arith, all.2))
    by false rest x =
        let front = to-head d false n high line lines items (is_group (line_kind line)) g few x in
        let all = from-head d false n low high lines items rest h g few front in
        let same = front.same refl in
        (all.0 ∙ same, subst (λ (y : ℕ). FitsItems y low high items) same all.1, all.2)

-- the items of lines where none stands above them
first-fit : (lines : List (List ℕ)) (d n low high : ℕ) (items : List Item) → HasItems d true n zero lines items → low < n → n + length lines ≤ high + 1 → high ≤ 4096 →
    FitsItems (alphabet_of d items) low high items × (length items ≤ length lines)
first-fit [] d n low high items has h g few =
    let P : List Item → Type 0 = λ x. FitsItems (alphabet_of d x) low high x × (length x ≤ 0) in subst P (sym has) (tt, omega arith)
first-fit (line ∷ lines) d n low high items has h g few = by (is_blank (line_kind line) line) (λ x a b. first-fit lines d (n + 1) low high items x a b few) has
  where
    by : (blank : Bool) →
        (HasItems d true (n + 1) zero lines items → low < n + 1 → n + 1 + length lines ≤ high + 1 → FitsItems (alphabet_of d items) low high items × (length items ≤ length lines)) →
        MatchBool blank (HasItems d true (n + 1) zero lines items) (MatchBool (is_group (line_kind line)) (BlockFirst d true n line lines items) (LineFirst d true n line lines items)) →
        FitsItems (alphabet_of d items) low high items × (length items ≤ suc (length lines))
    by true rest x = let all = rest x (omega (arith, h)) (omega (arith, g)) in (all.0, omega (arith, all.1))
    by false rest x =
        let all = from-head d true n low high lines items (later-fit lines) h g few (to-head d true n high line lines items (is_group (line_kind line)) g few x) in
        (subst (λ (y : ℕ). FitsItems y low high items) (sym all.0) all.1, all.2)

-- a script fits its alphabet
pub script-fits : (bytes : List ℕ) (script : Script) → IsScript bytes script → FitsScript script
script-fits bytes script is =
    let all = first-fit (lines_of bytes) 2 1 0 4096 script.items is.items (omega arith) (omega (arith, is.few)) (omega arith) in
    record {
      items = subst (λ (y : ℕ). FitsItems y 0 4096 script.items) (sym is.alphabet) all.0;
      few = omega (arith, all.1, is.few);
    }
