-- What a reader was given fits its alphabet, and so does each item that it gives.
use Rattle.std.proofs.Common.{◌≡◌, ℕ, ◌+◌, ◌<◌, ◌≤◌, Bool, true, false, not, List, [], ◌∷◌, ◌++◌, length, Option, Some, None, sym, subst, arith, MatchBool, length-append}
use Rattle.std.specs.Prelude.{nat_lt}
use Rattle.fr_syntax.specs.declared.statement.Recursion.{Recursion}
use Rattle.fr_syntax.specs.Fits.{FitsRecursion, FitsRecursions}
use Rattle.fr_script.specs.declared.fault.Fault.{Fault}
use Rattle.fr_script.specs.declared.outcome.LineOutcome.{LineOutcome}
use Rattle.fr_script.specs.declared.outcome.LineOutcome.TheVariants as o
use Rattle.fr_script.specs.declared.inner.InnerOutcome.{InnerOutcome}
use Rattle.fr_script.specs.declared.inner.InnerOutcome.TheVariants as i
use Rattle.fr_script.specs.declared.item.Block.{Block}
use Rattle.fr_script.specs.declared.item.Outside.{Outside}
use Rattle.fr_script.specs.declared.item.Outside.TheVariants as out
use Rattle.fr_script.specs.declared.item.Inside.{Inside}
use Rattle.fr_script.specs.declared.item.Inside.TheVariants as ins
use Rattle.fr_script.specs.declared.line_reader.State.{State}
use Rattle.fr_script.specs.declared.line_reader.Advance.{Advance}
use Rattle.fr_script.specs.Reading.{ReadsLine}
use Rattle.fr_script.specs.Inner.{ReadsInner}
use Rattle.fr_script.specs.Items.{line_kind, is_blank, is_group, is_end, begin, outside_of, grown, ended_body, ended, ReadsOutside, or_fault}
use Rattle.fr_script.specs.Pushes.{Advances, AdvancesFrom, after_outside, after_inside}
use Rattle.fr_script.specs.Keeping.{body_of}
use Rattle.fr_script.specs.Fits.{IsOfReading, FitsFault, FitsBody, FitsBlock, FitsState, GivesFitting}
use Rattle.fr_script.proofs.FitLaws.{InnerFits, inner-fits, outcome-fits, body-fits}

-- the recursions of a block that goes on
FitsRecursions-later : (d low high later : ℕ) (rs : List Recursion) → FitsRecursions d low high rs → high ≤ later → FitsRecursions d low later rs
FitsRecursions-later d low high later [] h g = omega (arith, h, g)
FitsRecursions-later d low high later (r ∷ rs) h g = (h.0, h.1, FitsRecursions-later d r.line high later rs h.2 g)

FitsRecursions-append : (d low high later : ℕ) (rs : List Recursion) (r : Recursion) → FitsRecursions d low high rs → high < r.line → r.line ≤ later → FitsRecursion d r →
    FitsRecursions d low later (rs ++ r ∷ [])
FitsRecursions-append d low high later [] r h g k fits = (omega (arith, h, g), fits, k)
FitsRecursions-append d low high later (s ∷ rs) r h g k fits = (h.0, h.1, FitsRecursions-append d s.line high later rs r h.2 g k fits)

or_fault-fits : (first : Option Fault) (fault : Fault) → FitsFault first → IsOfReading fault.kind → FitsFault (or_fault first fault)
or_fault-fits None fault h g = g
or_fault-fits (Some first) fault h g = h

grown-fits : (d c : ℕ) (block : Block) (outcome : InnerOutcome) → FitsBlock d c (Some block) → InnerFits d (c + 1) outcome → FitsBlock d (c + 1) (Some (grown block (c + 1) outcome))
grown-fits d c block (i.Says recursion) h fits =
    (FitsRecursions-append d block.line c (c + 1) block.recursions recursion h.0 (omega (arith, fits.0)) (omega (arith, fits.0)) fits.1, simp length-append (omega (arith, h.1)), h.2)
grown-fits d c block (i.Faulty kind) h fits = (FitsRecursions-later d block.line c (c + 1) block.recursions h.0 (omega arith), omega (arith, h.1), or_fault-fits block.fault (record { line = c + 1; kind = kind }) h.2 fits)

blank-fits : (d c : ℕ) (block : Block) → FitsBlock d c (Some block) → FitsBlock d (c + 1) (Some block)
blank-fits d c block h = (FitsRecursions-later d block.line c (c + 1) block.recursions h.0 (omega arith), omega (arith, h.1), h.2)

ended_body-fits : (d n high at : ℕ) (fault : Option Fault) (recursions : List Recursion) (is_long : Bool) → FitsFault fault → FitsRecursions d n high recursions → length recursions ≤ 4096 →
    FitsBody d n high (ended_body fault recursions at is_long)
ended_body-fits d n high at (Some fault) recursions is_long k h g = k
ended_body-fits d n high at None recursions true k h g = tt
ended_body-fits d n high at None recursions false k h g = (h, g)

-- what stands after one line more
abbrev pub NextFits : Advance → Type 0
NextFits next = FitsState (Some next.state) × GivesFitting (Some next.state) next.item

inside-fits : (d : ℕ) (b : Bool) (c : ℕ) (block : Block) (line : List ℕ) (inside : Inside) (ends blank : Bool) → c < 4096 → FitsBlock d c (Some block) →
    MatchBool ends (inside ≡ ins.Ends (ended block (c + 1) (nat_lt 4096 (length line))))
    (MatchBool blank (inside ≡ ins.Goes block) ((outcome : InnerOutcome) × ReadsInner d (c + 1) line outcome × (inside ≡ ins.Goes (grown block (c + 1) outcome)))) →
    NextFits (after_inside d b (c + 1) inside)
inside-fits d b c block line inside ends blank few fits = by ends blank
  where
    P : Inside → Type 0
    P x = NextFits (after_inside d b (c + 1) x)

    by : (ends blank : Bool) → MatchBool ends (inside ≡ ins.Ends (ended block (c + 1) (nat_lt 4096 (length line))))
        (MatchBool blank (inside ≡ ins.Goes block) ((outcome : InnerOutcome) × ReadsInner d (c + 1) line outcome × (inside ≡ ins.Goes (grown block (c + 1) outcome)))) → P inside
    by true blank h =
        let later = blank-fits d c block fits in
        let body = ended_body-fits d block.line (c + 1) (c + 1) block.fault block.recursions (nat_lt 4096 (length line)) fits.2 later.0 (omega (arith, fits.1, few)) in
        subst P (sym h) ((tt, omega (arith, few)), (omega (arith, fits.1), body))
    by false true h = subst P (sym h) ((blank-fits d c block fits, omega (arith, few)), tt)
    by false false h = subst P (sym h.2) ((grown-fits d c block h.0 fits (inner-fits d (c + 1) line h.0 h.1), omega (arith, few)), tt)

outside-fits : (d : ℕ) (b : Bool) (c : ℕ) (line : List ℕ) (outside : Outside) → c < 4096 → ReadsOutside d (not b) (c + 1) line outside → NextFits (after_outside d b (c + 1) outside)
outside-fits d b c line outside few = by (is_blank (line_kind line) line)
  where
    P : Outside → Type 0
    P x = NextFits (after_outside d b (c + 1) x)

    none : (fault : Option Fault) → FitsFault fault → P (out.Begins (begin (c + 1) fault))
    none fault h = (((omega arith, omega arith, h), omega (arith, few)), tt)

    item : (outcome : LineOutcome) → ReadsLine d (not b) line outcome → P (out.Is (record { line = c + 1; body = body_of (c + 1) outcome }))
    item outcome r = ((tt, omega (arith, few)), (omega arith, body-fits d (c + 1) (c + 1) outcome (omega arith) (outcome-fits d (not b) line outcome r)))

    told : (group : Bool) (outcome : LineOutcome) → ReadsLine d (not b) line outcome → P (outside_of (c + 1) group outcome)
    told group o.Group r = none None tt
    told group (o.Says statement) r = item (o.Says statement) r
    told true (o.Faulty kind) r = none (Some (record { line = c + 1; kind = kind })) (outcome-fits d (not b) line (o.Faulty kind) r)
    told false (o.Faulty kind) r = item (o.Faulty kind) r

    by : (blank : Bool) → MatchBool blank (outside ≡ out.Blank) ((outcome : LineOutcome) × ReadsLine d (not b) line outcome × (outside ≡ outside_of (c + 1) (is_group (line_kind line)) outcome)) → P outside
    by true h = subst P (sym h) ((tt, omega (arith, few)), tt)
    by false h = subst P (sym h.2) (told (is_group (line_kind line)) h.0 h.1)

-- one line more keeps that a reader fits, and gives an item that fits
pub advance-fits : (d : ℕ) (b : Bool) (c : ℕ) (block : Option Block) (line : List ℕ) (next : Advance) → c < 4096 → FitsBlock d c block → AdvancesFrom d b (c + 1) block line next → NextFits next
advance-fits d b c None line next few fits h = subst (λ x. NextFits x) (sym h.2) (outside-fits d b c line h.0 few h.1)
advance-fits d b c (Some block) line next few fits h =
    subst (λ x. NextFits x) (sym h.2) (inside-fits d b c block line h.0 (is_end (line_kind line)) (is_blank (line_kind line) line) few fits h.1)

-- the same of a reader that can be given a line
pub push-fits : (reader : Option State) (old : State) (line : List ℕ) (next : Advance) → reader ≡ Some old → FitsState reader → old.count < 4096 → Advances old line next → NextFits next
push-fits reader old line next e fits few h =
    let P : Option State → Type 0 = λ x. FitsState x in
    let own : P (Some old) = subst P e fits in
    advance-fits old.alphabet old.begun old.count old.block line next few own.0 h
