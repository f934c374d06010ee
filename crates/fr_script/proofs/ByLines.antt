-- A reader that is given the lines of a script one after the other gives the items of the script.
use Rattle.std.proofs.Common.{◌≡◌, ℕ, zero, suc, ◌+◌, Bool, true, false, not, List, [], ◌∷◌, ◌++◌, length, Option, Some, None, refl, ap, sym, ◌∙◌, subst, arith, append_assoc, append-nil, MatchBool}
use Rattle.std.specs.Prelude.{nat_lt}
use Rattle.fr_syntax.specs.declared.statement.Recursion.{Recursion}
use Rattle.fr_script.specs.declared.fault.Fault.{Fault}
use Rattle.fr_script.specs.declared.outcome.LineOutcome.{LineOutcome}
use Rattle.fr_script.specs.declared.outcome.LineOutcome.TheVariants as o
use Rattle.fr_script.specs.declared.inner.InnerOutcome.{InnerOutcome}
use Rattle.fr_script.specs.declared.inner.InnerOutcome.TheVariants as i
use Rattle.fr_script.specs.declared.item.Item.{Item}
use Rattle.fr_script.specs.declared.item.Block.{Block}
use Rattle.fr_script.specs.declared.item.Outside.{Outside}
use Rattle.fr_script.specs.declared.item.Outside.TheVariants as out
use Rattle.fr_script.specs.declared.item.Inside.{Inside}
use Rattle.fr_script.specs.declared.item.Inside.TheVariants as ins
use Rattle.fr_script.specs.declared.line_reader.State.{State}
use Rattle.fr_script.specs.declared.line_reader.Advance.{Advance}
use Rattle.fr_script.specs.declared.script.Script.{Script}
use Rattle.fr_script.specs.Reading.{ReadsLine}
use Rattle.fr_script.specs.Inner.{ReadsInner}
use Rattle.fr_script.specs.Items.{line_kind, is_blank, is_group, is_end, alphabet_after, without_end, listed, begin, outside_of, or_fault, grown, ended_body, ended, ReadsOutside, ReadsInside}
use Rattle.fr_script.specs.Blocks.{before_end, from_end, said, inner_fault, group_fault, end_fault, first_of, block_body, ReadsBlock, EndsBlock}
use Rattle.fr_script.specs.Pushes.{Advances, AdvancesFrom, RunsFrom, after_outside, after_inside, end_of, begun}
use Rattle.fr_script.specs.Keeping.{body_of}
use Rattle.fr_script.specs.Scripts.{lines_of, HasItems, alphabet_of, IsScript, IsReadByLines}
use Rattle.fr_script.proofs.Choices.{one_bool, some_bool, both}
use Rattle.fr_script.proofs.OutcomeLaws.{one_line, some_line, one_inner, some_inner}
use Rattle.fr_script.proofs.BlockLaws.{one_script}
use Rattle.fr_script.proofs.KeywordLaws.{kind-matches, Matches}

-- the items that lines end, and that of a block without end
abbrev all : List Item → State → List Item
all items last = items ++ listed (end_of last.block)

abbrev outside_state : ℕ → Bool → ℕ → State
outside_state d b c = record { alphabet = d; count = c; begun = b; block = None }

abbrev inside_state : ℕ → Bool → ℕ → Block → State
inside_state d b c block = record { alphabet = d; count = c; begun = b; block = Some block }

-- how a block that was begun ends, by the lines inside it that are left, of which the first has the number m
abbrev Ends : ℕ → ℕ → Block → List (List ℕ) → List (List ℕ) → Item → Type 0
Ends d m block inner [] item = item ≡ without_end block.line
Ends d m block inner (end_line ∷ after) item =
    (recursions : List Recursion) × (fault : Option Fault) × ReadsBlock d m inner recursions fault
    × (item ≡ record {
      line = block.line;
      body = block_body (first_of block.fault (first_of fault (end_fault (m + length inner) (nat_lt 4096 (length end_line))))) (block.recursions ++ recursions);
    })

-- the items of the lines that are left, inside a block
abbrev InBlock : ℕ → ℕ → Block → List (List ℕ) → List Item → ℕ → Type 0
InBlock d m block lines whole alphabet =
    (item : Item) × (later : List Item) × (whole ≡ item ∷ later) × Ends d m block (before_end lines) (from_end lines) item
    × HasItems d false m (suc (length (before_end lines))) lines later × (alphabet ≡ alphabet_of d whole)

-- the items of the lines that are left, outside a block
abbrev OutBlock : ℕ → Bool → ℕ → List (List ℕ) → List Item → ℕ → Type 0
OutBlock d is_first n lines whole alphabet = HasItems d is_first n zero lines whole × (alphabet ≡ alphabet_of d whole)

abbrev Inward : List (List ℕ) → Type 0
Inward lines = (d : ℕ) (b : Bool) (c : ℕ) (block : Block) (items : List Item) (last : State) → RunsFrom (inside_state d b c block) lines items last →
    InBlock d (c + 1) block lines (all items last) last.alphabet

abbrev Outward : List (List ℕ) → Type 0
Outward lines = (d : ℕ) (b : Bool) (c : ℕ) (items : List Item) (last : State) → RunsFrom (outside_state d b c) lines items last →
    OutBlock d (not b) (c + 1) lines (all items last) last.alphabet

-- the body of a block that ends
ended_body-is : (fault : Option Fault) (recursions : List Recursion) (n : ℕ) (is_long : Bool) →
    ended_body fault recursions n is_long ≡ block_body (first_of fault (first_of None (end_fault n is_long))) recursions
ended_body-is (Some fault) recursions n is_long = refl
ended_body-is None recursions n true = refl
ended_body-is None recursions n false = refl

end_here : (d : ℕ) (c : ℕ) (block : Block) (line : List ℕ) (lines : List (List ℕ)) →
    Ends d c block [] (line ∷ lines) (ended block c (nat_lt 4096 (length line)))
end_here d c block line lines =
    let zero_more : c + 0 ≡ c = omega arith in
    let body = λ (n : ℕ) (l : List Recursion). block_body (first_of block.fault (first_of None (end_fault n (nat_lt 4096 (length line))))) l in
    let is : ended_body block.fault block.recursions c (nat_lt 4096 (length line)) ≡ body (c + 0) (block.recursions ++ []) =
    ended_body-is block.fault block.recursions c (nat_lt 4096 (length line))
    ∙ ap (λ n. body n block.recursions) (sym zero_more) ∙ ap (body (c + 0)) (sym (append-nil block.recursions)) in
    ([], None, (refl, refl), ap (λ u. record { line = block.line; body = u }) is)

-- one line more at the front of a block
first_of-grown : (block : Block) (n : ℕ) (outcome : InnerOutcome) (fault : Option Fault) →
    first_of (grown block n outcome).fault fault ≡ first_of block.fault (first_of (inner_fault n outcome) fault)
first_of-grown block n (i.Says recursion) fault = refl
first_of-grown block n (i.Faulty kind) fault = by block.fault
  where
    by : (first : Option Fault) → first_of (or_fault first (record { line = n; kind = kind })) fault ≡ first_of first (Some (record { line = n; kind = kind }))
    by None = refl
    by (Some first) = refl

recursions-grown : (block : Block) (n : ℕ) (outcome : InnerOutcome) (more : List Recursion) →
    (grown block n outcome).recursions ++ more ≡ block.recursions ++ (said outcome ++ more)
recursions-grown block n (i.Says recursion) more = append_assoc block.recursions (recursion ∷ []) more
recursions-grown block n (i.Faulty kind) more = refl

line-grown : (block : Block) (n : ℕ) (outcome : InnerOutcome) → (grown block n outcome).line ≡ block.line
line-grown block n (i.Says recursion) = refl
line-grown block n (i.Faulty kind) = refl

first_of-assoc : (a b c : Option Fault) → first_of (first_of a b) c ≡ first_of a (first_of b c)
first_of-assoc None b c = refl
first_of-assoc (Some a) b c = refl

blank_ends : (d m : ℕ) (block : Block) (line : List ℕ) (inner tail : List (List ℕ)) (item : Item) → is_blank (line_kind line) line ≡ true →
    Ends d (m + 1) block inner tail item → Ends d m block (line ∷ inner) tail item
blank_ends d m block line inner [] item h ends = ends
blank_ends d m block line inner (end_line ∷ after) item h ends =
    let place : m + 1 + length inner ≡ m + suc (length inner) = omega arith in
    let is : ℕ → Item = λ n. record { line = block.line; body = block_body (first_of block.fault (first_of ends.1 (end_fault n (nat_lt 4096 (length end_line))))) (block.recursions ++ ends.0) } in
    (ends.0, ends.1, rw h ends.2, ends.3 ∙ ap is place)

other_ends : (d m : ℕ) (block : Block) (line : List ℕ) (inner tail : List (List ℕ)) (item : Item) (outcome : InnerOutcome) → is_blank (line_kind line) line ≡ false →
    ReadsInner d m line outcome → Ends d (m + 1) (grown block m outcome) inner tail item → Ends d m block (line ∷ inner) tail item
other_ends d m block line inner [] item outcome h r ends = ends ∙ ap without_end (line-grown block m outcome)
other_ends d m block line inner (end_line ∷ after) item outcome h r ends =
    let place : m + 1 + length inner ≡ m + suc (length inner) = omega arith in
    let late = λ (n : ℕ). end_fault n (nat_lt 4096 (length end_line)) in
    let fault : first_of (grown block m outcome).fault (first_of ends.1 (late (m + 1 + length inner)))
    ≡ first_of block.fault (first_of (first_of (inner_fault m outcome) ends.1) (late (m + suc (length inner)))) =
    first_of-grown block m outcome (first_of ends.1 (late (m + 1 + length inner)))
    ∙ ap (first_of block.fault) (sym (first_of-assoc (inner_fault m outcome) ends.1 (late (m + 1 + length inner))))
    ∙ ap (λ n. first_of block.fault (first_of (first_of (inner_fault m outcome) ends.1) (late n))) place in
    let cell : ℕ → Option Fault → List Recursion → Item = λ n first l. record { line = n; body = block_body first l } in
    let is : item ≡ cell block.line (first_of block.fault (first_of (first_of (inner_fault m outcome) ends.1) (late (m + suc (length inner))))) (block.recursions ++ (said outcome ++ ends.0)) =
    ends.3
    ∙ ap (λ n. cell n (first_of (grown block m outcome).fault (first_of ends.1 (late (m + 1 + length inner)))) ((grown block m outcome).recursions ++ ends.0)) (line-grown block m outcome)
    ∙ ap (λ u. cell block.line u ((grown block m outcome).recursions ++ ends.0)) fault
    ∙ ap (cell block.line (first_of block.fault (first_of (first_of (inner_fault m outcome) ends.1) (late (m + suc (length inner)))))) (recursions-grown block m outcome ends.0) in
    (said outcome ++ ends.0, first_of (inner_fault m outcome) ends.1, rw h (outcome, ends.0, ends.1, r, ends.2, refl, refl), is)

-- what is left behind one line more inside a block
abbrev After : ℕ → Bool → ℕ → List (List ℕ) → List Item → State → Inside → Type 0
After d b m lines later last inside = RunsFrom (after_inside d b m inside).state lines later last

abbrev Whole : ℕ → Bool → ℕ → List Item → State → Inside → List Item
Whole d b m later last inside = all (listed (after_inside d b m inside).item ++ later) last

inside_end : (line : List ℕ) (lines : List (List ℕ)) → Outward lines → (d : ℕ) (b : Bool) (c : ℕ) (block : Block) (later : List Item) (last : State) → is_end (line_kind line) ≡ true →
    After d b (c + 1) lines later last (ins.Ends (ended block (c + 1) (nat_lt 4096 (length line)))) →
    InBlock d (c + 1) block (line ∷ lines) (Whole d b (c + 1) later last (ins.Ends (ended block (c + 1) (nat_lt 4096 (length line))))) last.alphabet
inside_end line lines outward d b c block later last e runs =
    let rest = outward d true (c + 1) later last runs in
    (ended block (c + 1) (nat_lt 4096 (length line)), all later last, refl, rw e (end_here d (c + 1) block line lines), rw e rest.0, rest.1 ∙ same_alphabet block.fault block.recursions)
  where
    same_alphabet : (fault : Option Fault) (recursions : List Recursion) →
        alphabet_of d (all later last) ≡ alphabet_of (alphabet_after d (ended_body fault recursions (c + 1) (nat_lt 4096 (length line)))) (all later last)
    same_alphabet (Some fault) recursions = refl
    same_alphabet None recursions = by (nat_lt 4096 (length line))
      where
        by : (is_long : Bool) → alphabet_of d (all later last) ≡ alphabet_of (alphabet_after d (ended_body None recursions (c + 1) is_long)) (all later last)
        by true = refl
        by false = refl

inside_blank : (line : List ℕ) (lines : List (List ℕ)) → Inward lines → (d : ℕ) (b : Bool) (c : ℕ) (block : Block) (later : List Item) (last : State) → is_end (line_kind line) ≡ false →
    is_blank (line_kind line) line ≡ true → After d b (c + 1) lines later last (ins.Goes block) →
    InBlock d (c + 1) block (line ∷ lines) (Whole d b (c + 1) later last (ins.Goes block)) last.alphabet
inside_blank line lines inward d b c block later last e h runs =
    let rest = inward d b (c + 1) block later last runs in
    (rest.0, rest.1, rest.2, rw e (blank_ends d (c + 1) block line (before_end lines) (from_end lines) rest.0 h rest.3), rw e rest.4, rest.5)

inside_other : (line : List ℕ) (lines : List (List ℕ)) → Inward lines → (d : ℕ) (b : Bool) (c : ℕ) (block : Block) (outcome : InnerOutcome) (later : List Item) (last : State) →
    is_end (line_kind line) ≡ false → is_blank (line_kind line) line ≡ false → ReadsInner d (c + 1) line outcome →
    After d b (c + 1) lines later last (ins.Goes (grown block (c + 1) outcome)) →
    InBlock d (c + 1) block (line ∷ lines) (Whole d b (c + 1) later last (ins.Goes (grown block (c + 1) outcome))) last.alphabet
inside_other line lines inward d b c block outcome later last e h r runs =
    let rest = inward d b (c + 1) (grown block (c + 1) outcome) later last runs in
    (rest.0, rest.1, rest.2, rw e (other_ends d (c + 1) block line (before_end lines) (from_end lines) rest.0 outcome h r rest.3), rw e rest.4, rest.5)

inside_by : (line : List ℕ) (lines : List (List ℕ)) → Outward lines → Inward lines → (d : ℕ) (b : Bool) (c : ℕ) (block : Block) (inside : Inside) (later : List Item) (last : State)
    (ends blank : Bool) → is_end (line_kind line) ≡ ends → is_blank (line_kind line) line ≡ blank →
    MatchBool ends (inside ≡ ins.Ends (ended block (c + 1) (nat_lt 4096 (length line))))
    (MatchBool blank (inside ≡ ins.Goes block) ((outcome : InnerOutcome) × ReadsInner d (c + 1) line outcome × (inside ≡ ins.Goes (grown block (c + 1) outcome)))) →
    After d b (c + 1) lines later last inside → InBlock d (c + 1) block (line ∷ lines) (Whole d b (c + 1) later last inside) last.alphabet
inside_by line lines outward inward d b c block inside later last ends blank e h r = by ends blank e h r
  where
    P : Inside → Type 0
    P x = After d b (c + 1) lines later last x → InBlock d (c + 1) block (line ∷ lines) (Whole d b (c + 1) later last x) last.alphabet

    by : (ends blank : Bool) → is_end (line_kind line) ≡ ends → is_blank (line_kind line) line ≡ blank →
        MatchBool ends (inside ≡ ins.Ends (ended block (c + 1) (nat_lt 4096 (length line))))
        (MatchBool blank (inside ≡ ins.Goes block) ((outcome : InnerOutcome) × ReadsInner d (c + 1) line outcome × (inside ≡ ins.Goes (grown block (c + 1) outcome)))) → P inside
    by true blank e h r = subst P (sym r) (inside_end line lines outward d b c block later last e)
    by false true e h r = subst P (sym r) (inside_blank line lines inward d b c block later last e h)
    by false false e h r = subst P (sym r.2) (inside_other line lines inward d b c block r.0 later last e h r.1)

inward_more : (line : List ℕ) (lines : List (List ℕ)) → Outward lines → Inward lines → Inward (line ∷ lines)
inward_more line lines outward inward d b c block items last runs =
    let next = runs.0 in
    let step = runs.2 in
    let P : Advance → Type 0 = λ x. RunsFrom x.state lines runs.1 last in
    let whole : items ≡ listed (after_inside d b (c + 1) step.0).item ++ runs.1 = runs.4 ∙ ap (λ x. listed x.item ++ runs.1) step.2 in
    let Q : List Item → Type 0 = λ x. InBlock d (c + 1) block (line ∷ lines) (all x last) last.alphabet in
    subst Q (sym whole)
    (inside_by line lines outward inward d b c block step.0 runs.1 last (is_end (line_kind line)) (is_blank (line_kind line) line) refl refl step.1 (subst P step.2 runs.3))

-- the same outside a block
abbrev Behind : ℕ → Bool → ℕ → List (List ℕ) → List Item → State → Outside → Type 0
Behind d b n lines later last outside = RunsFrom (after_outside d b n outside).state lines later last

abbrev Total : ℕ → Bool → ℕ → List Item → State → Outside → List Item
Total d b n later last outside = all (listed (after_outside d b n outside).item ++ later) last

outside_blank : (line : List ℕ) (lines : List (List ℕ)) → Outward lines → (d : ℕ) (b : Bool) (c : ℕ) (later : List Item) (last : State) → is_blank (line_kind line) line ≡ true →
    Behind d b (c + 1) lines later last out.Blank → OutBlock d (not b) (c + 1) (line ∷ lines) (Total d b (c + 1) later last out.Blank) last.alphabet
outside_blank line lines outward d b c later last h runs = let rest = outward d b (c + 1) later last runs in (rw h rest.0, rest.1)

-- a block that is begun with no recursions ends as the whole block
whole_block : (d : ℕ) (is_first : Bool) (n : ℕ) (line : List ℕ) (inner tail : List (List ℕ)) (item : Item) (outcome : LineOutcome) → ReadsLine d is_first line outcome →
    Ends d (n + 1) (begin n (group_fault n outcome)) inner tail item → EndsBlock d is_first n line inner tail item
whole_block d is_first n line inner [] item outcome r ends = ends
whole_block d is_first n line inner (end_line ∷ after) item outcome r ends = (outcome, ends.0, ends.1, r, ends.2, ends.3)

outside_group : (line : List ℕ) (lines : List (List ℕ)) → Inward lines → (d : ℕ) (b : Bool) (c : ℕ) (outcome : LineOutcome) (later : List Item) (last : State) →
    is_blank (line_kind line) line ≡ false → is_group (line_kind line) ≡ true → ReadsLine d (not b) line outcome →
    Behind d b (c + 1) lines later last (out.Begins (begin (c + 1) (group_fault (c + 1) outcome))) →
    OutBlock d (not b) (c + 1) (line ∷ lines) (Total d b (c + 1) later last (out.Begins (begin (c + 1) (group_fault (c + 1) outcome)))) last.alphabet
outside_group line lines inward d b c outcome later last h g r runs =
    let rest = inward d b (c + 1) (begin (c + 1) (group_fault (c + 1) outcome)) later last runs in
    (rw (h, g) (rest.0, rest.1, whole_block d (not b) (c + 1) line (before_end lines) (from_end lines) rest.0 outcome r rest.3, rest.4, rest.2), rest.5)

outside_other : (line : List ℕ) (lines : List (List ℕ)) → Outward lines → (d : ℕ) (b : Bool) (c : ℕ) (outcome : LineOutcome) (later : List Item) (last : State) →
    is_blank (line_kind line) line ≡ false → is_group (line_kind line) ≡ false → ReadsLine d (not b) line outcome →
    Behind d b (c + 1) lines later last (out.Is (record { line = c + 1; body = body_of (c + 1) outcome })) →
    OutBlock d (not b) (c + 1) (line ∷ lines) (Total d b (c + 1) later last (out.Is (record { line = c + 1; body = body_of (c + 1) outcome }))) last.alphabet
outside_other line lines outward d b c outcome later last h g r runs =
    let rest = outward (alphabet_after d (body_of (c + 1) outcome)) true (c + 1) later last runs in
    (rw (h, g) (outcome, all later last, r, rest.0, refl), rest.1)

-- what a line that is not blank does, by whether its first token is `group`
outside-group : (n : ℕ) (outcome : LineOutcome) → Matches true outcome → outside_of n true outcome ≡ out.Begins (begin n (group_fault n outcome))
outside-group n o.Group h = refl
outside-group n (o.Says statement) h = absurd h
outside-group n (o.Faulty kind) h = refl

pub outside-other : (n : ℕ) (outcome : LineOutcome) → Matches false outcome → outside_of n false outcome ≡ out.Is (record { line = n; body = body_of n outcome })
outside-other n o.Group h = absurd h
outside-other n (o.Says statement) h = refl
outside-other n (o.Faulty kind) h = refl

outward_line : (line : List ℕ) (lines : List (List ℕ)) → Outward lines → Inward lines → (d : ℕ) (b : Bool) (c : ℕ) (outside : Outside) (later : List Item) (last : State) →
    ReadsOutside d (not b) (c + 1) line outside → Behind d b (c + 1) lines later last outside →
    OutBlock d (not b) (c + 1) (line ∷ lines) (Total d b (c + 1) later last outside) last.alphabet
outward_line line lines outward inward d b c outside later last r = by (is_blank (line_kind line) line) (is_group (line_kind line)) refl refl r
  where
    P : Outside → Type 0
    P x = Behind d b (c + 1) lines later last x → OutBlock d (not b) (c + 1) (line ∷ lines) (Total d b (c + 1) later last x) last.alphabet

    by : (blank group : Bool) → is_blank (line_kind line) line ≡ blank → is_group (line_kind line) ≡ group →
        MatchBool blank (outside ≡ out.Blank) ((outcome : LineOutcome) × ReadsLine d (not b) line outcome × (outside ≡ outside_of (c + 1) (is_group (line_kind line)) outcome)) → P outside
    by true group h g r = subst P (sym r) (outside_blank line lines outward d b c later last h)
    by false true h g r =
        let is = outside-group (c + 1) r.0 (rw g at (kind-matches d (not b) line r.0 r.1)) in
        subst P (sym (r.2 ∙ ap (λ x. outside_of (c + 1) x r.0) g ∙ is)) (outside_group line lines inward d b c r.0 later last h g r.1)
    by false false h g r =
        let is = outside-other (c + 1) r.0 (rw g at (kind-matches d (not b) line r.0 r.1)) in
        subst P (sym (r.2 ∙ ap (λ x. outside_of (c + 1) x r.0) g ∙ is)) (outside_other line lines outward d b c r.0 later last h g r.1)

outward_more : (line : List ℕ) (lines : List (List ℕ)) → Outward lines → Inward lines → Outward (line ∷ lines)
outward_more line lines outward inward d b c items last runs =
    let step = runs.2 in
    let P : Advance → Type 0 = λ x. RunsFrom x.state lines runs.1 last in
    let whole : items ≡ listed (after_outside d b (c + 1) step.0).item ++ runs.1 = runs.4 ∙ ap (λ x. listed x.item ++ runs.1) step.2 in
    let Q : List Item → Type 0 = λ x. OutBlock d (not b) (c + 1) (line ∷ lines) (all x last) last.alphabet in
    subst Q (sym whole) (outward_line line lines outward inward d b c step.0 runs.1 last step.1 (subst P step.2 runs.3))

inward_none : Inward []
inward_none d b c block items last runs =
    let is : all items last ≡ without_end block.line ∷ [] = ap (λ x. all x last) runs.0 ∙ ap (λ x. all [] x) runs.1 in
    let same : last.alphabet ≡ d = ap (λ x. x.alphabet) runs.1 in
    (without_end block.line, [], is, refl, refl, same ∙ sym (ap (alphabet_of d) is))

outward_none : Outward []
outward_none d b c items last runs =
    let is : all items last ≡ [] = ap (λ x. all x last) runs.0 ∙ ap (λ x. all [] x) runs.1 in
    let same : last.alphabet ≡ d = ap (λ x. x.alphabet) runs.1 in
    (is, same ∙ sym (ap (alphabet_of d) is))

directions : (lines : List (List ℕ)) → Outward lines × Inward lines
directions [] = (outward_none, inward_none)
directions (line ∷ lines) = let rest = directions lines in (outward_more line lines rest.0 rest.1, inward_more line lines rest.0 rest.1)

-- what a reader of lines gives is the script
pub script_from_lines : (bytes : List ℕ) (script : Script) → IsReadByLines bytes script → IsScript bytes script
script_from_lines bytes script read =
    let found = (directions (lines_of bytes)).0 2 false 0 read.ended read.last read.runs in
    record {
      few = read.few;
      items = rw read.items found.0;
      alphabet = read.alphabet ∙ found.1 ∙ sym (ap (alphabet_of 2) read.items);
    }

some_outside : (d : ℕ) (is_first : Bool) (n : ℕ) (line : List ℕ) → (outside : Outside) × ReadsOutside d is_first n line outside
some_outside d is_first n line =
    let line_outcome = some_line d is_first line in
    some_bool (is_blank (line_kind line) line) (λ x. x ≡ out.Blank) (λ x. (outcome : LineOutcome) × ReadsLine d is_first line outcome × (x ≡ outside_of n (is_group (line_kind line)) outcome))
    (out.Blank, refl) (outside_of n (is_group (line_kind line)) line_outcome.0, (line_outcome.0, line_outcome.1, refl))

some_inside : (d : ℕ) (block : Block) (n : ℕ) (line : List ℕ) → (inside : Inside) × ReadsInside d block n line inside
some_inside d block n line =
    let outcome = some_inner d n line in
    some_bool (is_end (line_kind line)) (λ x. x ≡ ins.Ends (ended block n (nat_lt 4096 (length line))))
    (λ x. MatchBool (is_blank (line_kind line) line) (x ≡ ins.Goes block) ((o : InnerOutcome) × ReadsInner d n line o × (x ≡ ins.Goes (grown block n o))))
    (ins.Ends (ended block n (nat_lt 4096 (length line))), refl)
    (some_bool (is_blank (line_kind line) line) (λ x. x ≡ ins.Goes block) (λ x. (o : InnerOutcome) × ReadsInner d n line o × (x ≡ ins.Goes (grown block n o)))
    (ins.Goes block, refl) (ins.Goes (grown block n outcome.0), (outcome.0, outcome.1, refl)))

some_advance : (d : ℕ) (b : Bool) (n : ℕ) (block : Option Block) (line : List ℕ) → (next : Advance) × AdvancesFrom d b n block line next
some_advance d b n None line = let step = some_outside d (not b) n line in (after_outside d b n step.0, (step.0, step.1, refl))
some_advance d b n (Some block) line = let step = some_inside d block n line in (after_inside d b n step.0, (step.0, step.1, refl))

some_run : (lines : List (List ℕ)) (state : State) → (items : List Item) × (last : State) × RunsFrom state lines items last
some_run [] state = ([], state, (refl, refl))
some_run (line ∷ lines) state =
    let next = some_advance state.alphabet state.begun (state.count + 1) state.block line in
    let rest = some_run lines next.0.state in
    (listed next.0.item ++ rest.0, rest.1, (next.0, rest.0, next.1, rest.2, refl))

-- the script of bytes is what a reader of their lines gives
pub lines_from_script : (bytes : List ℕ) (script : Script) → IsScript bytes script → IsReadByLines bytes script
lines_from_script bytes script is =
    let run = some_run (lines_of bytes) begun in
    let found : Script = record { alphabet = run.1.alphabet; items = all run.0 run.1 } in
    let reads : IsReadByLines bytes found = record { few = is.few; ended = run.0; last = run.1; runs = run.2; items = refl; alphabet = refl } in
    let P : Script → Type 0 = λ x. IsReadByLines bytes x in
    subst P (one_script bytes found script (script_from_lines bytes found reads) is) reads

one_outside : (d : ℕ) (is_first : Bool) (n : ℕ) (line : List ℕ) (a b : Outside) → ReadsOutside d is_first n line a → ReadsOutside d is_first n line b → a ≡ b
one_outside d is_first n line a b =
    one_bool (is_blank (line_kind line) line) (λ x. x ≡ out.Blank) (λ x. (outcome : LineOutcome) × ReadsLine d is_first line outcome × (x ≡ outside_of n (is_group (line_kind line)) outcome))
    a b both (λ x y. x.2 ∙ ap (outside_of n (is_group (line_kind line))) (one_line d is_first line x.0 y.0 x.1 y.1) ∙ sym y.2)

one_inside : (d : ℕ) (block : Block) (n : ℕ) (line : List ℕ) (a b : Inside) → ReadsInside d block n line a → ReadsInside d block n line b → a ≡ b
one_inside d block n line a b =
    one_bool (is_end (line_kind line)) (λ x. x ≡ ins.Ends (ended block n (nat_lt 4096 (length line))))
    (λ x. MatchBool (is_blank (line_kind line) line) (x ≡ ins.Goes block) ((o : InnerOutcome) × ReadsInner d n line o × (x ≡ ins.Goes (grown block n o)))) a b both
    (one_bool (is_blank (line_kind line) line) (λ x. x ≡ ins.Goes block) (λ x. (o : InnerOutcome) × ReadsInner d n line o × (x ≡ ins.Goes (grown block n o)))
    a b both (λ x y. x.2 ∙ ap (λ o. ins.Goes (grown block n o)) (one_inner d n line x.0 y.0 x.1 y.1) ∙ sym y.2))

one_advance : (d : ℕ) (begun : Bool) (n : ℕ) (block : Option Block) (line : List ℕ) (a b : Advance) → AdvancesFrom d begun n block line a → AdvancesFrom d begun n block line b → a ≡ b
one_advance d begun n None line a b x y = x.2 ∙ ap (after_outside d begun n) (one_outside d (not begun) n line x.0 y.0 x.1 y.1) ∙ sym y.2
one_advance d begun n (Some block) line a b x y = x.2 ∙ ap (after_inside d begun n) (one_inside d block n line x.0 y.0 x.1 y.1) ∙ sym y.2

-- a line does one thing to a reader
pub one_push : (state : State) (line : List ℕ) (a b : Advance) → Advances state line a → Advances state line b → a ≡ b
one_push state line a b = one_advance state.alphabet state.begun (state.count + 1) state.block line a b
