-- The reader of lines inside a block keeps the values of the trees that it read.
use Rattle.std.proofs.Common.{◌≡◌, ℕ, suc, ◌+◌, ◌<◌, Bool, true, false, cond, List, [], ◌∷◌, ◌++◌, Option, Some, None, refl, ap, sym, ◌∙◌, map, drop, length, get_or, add-one, drop-cons}
use Rattle.std.proofs.lemmas.List.{drop-map}
use Rattle.fr_syntax.specs.declared.token.Mark.TheVariants as m
use Rattle.fr_syntax.specs.declared.token.Placed.{Placed}
use Rattle.fr_syntax.specs.declared.statement.SecName.{SecName}
use Rattle.fr_syntax.specs.declared.recursion.RecursionLine.{RecursionLine}
use Rattle.fr_syntax.specs.declared.sections.Head.{Head}
use Rattle.fr_syntax.specs.declared.sections.Sections.{Sections}
use Rattle.fr_syntax.specs.declared.sections.SectionPlace.{SectionPlace}
use Rattle.fr_syntax.specs.declared.sections.SectionPlace.TheVariants as sc
use Rattle.fr_syntax.specs.declared.cycles.CyclePlace.TheVariants as cy
use Rattle.fr_syntax.specs.declared.recursion.Spot.{Spot}
use Rattle.fr_syntax.specs.declared.recursion.Spot.TheVariants as sp
use Rattle.fr_syntax.specs.declared.recursion.RecursionReading.{RecursionReading}
use Rattle.fr_syntax.specs.declared.recursion.RecursionReading.TheVariants as r
use Rattle.fr_syntax.specs.Tokens.{Lexeme, Name, Number, Sign}
use Rattle.fr_syntax.specs.Lines.{lexeme}
use Rattle.fr_syntax.specs.Steps.{is_one}
use Rattle.fr_syntax.specs.Recursions.{Forward, Inverse, SecWordTree, OneName, MoreNames, SecTree, Trivial, Names, SecsTree, NumbersTree, CycleListTree, RecursionTree, recursion_tokens, recursion_value, secword_value, sec_value, secs_value, numbers_value, cycle_list_value, refuse_numbers, refuse_cycle_list}
use Rattle.fr_syntax.specs.RecursionFaults.{ReadsRecursion}
use Rattle.fr_syntax.specs.RecursionSteps as spec
use Rattle.fr_syntax.proofs.RecursionLaws.{THead, Bare, Sectioned, TSpot, AtName, AtEquals, AtBody, AtSection, AfterOne, AfterName, AtMinus, AtInverseOne, AfterWord, AtNextName, AfterSections, AtFirst, AtNumber, AfterNumber, AfterCycle, AfterEmpty, join_word, end_sec, end_word, end_name, take_tree, finish_tree, exact_recursions}
use Rattle.fr_syntax.proofs.Runs.{Outcome, Found, Fault, at_end, go_on, outcome_from, Tells, tells}

abbrev pub done_secs : Option SecsTree → List (List SecName)
done_secs None = []
done_secs (Some secs) = secs_value secs

abbrev pub sections_value : List ℕ → Option SecsTree → List SecName → SectionPlace → Sections
sections_value name secs word place = record { name = name; done = done_secs secs; word = word; place = place }

abbrev pub done_word : Option SecWordTree → List SecName
done_word None = []
done_word (Some word) = secword_value word

-- a product and a name after it
abbrev pub with_last : Option SecWordTree → List ℕ → List SecName
with_last word last = done_word word ++ record { name = last; inverse = false } ∷ []

abbrev pub head_value : THead → Head
head_value (Bare name) = record { name = name; sections = None }
head_value (Sectioned name secs) = record { name = name; sections = Some (secs_value secs) }

abbrev pub done_cycles : ℕ → Option CycleListTree → List (List ℕ)
done_cycles d None = []
done_cycles d (Some cycles) = cycle_list_value d cycles

abbrev pub refused_cycles : ℕ → Option CycleListTree → Bool
refused_cycles d None = false
refused_cycles d (Some cycles) = refuse_cycle_list d cycles false

abbrev pub done_numbers : ℕ → Option NumbersTree → List ℕ
done_numbers d None = []
done_numbers d (Some numbers) = numbers_value d numbers

abbrev pub refused_numbers : ℕ → Option NumbersTree → Bool → Bool
refused_numbers d None refused = refused
refused_numbers d (Some numbers) refused = refuse_numbers d numbers refused

abbrev pub spot_value : ℕ → TSpot → Spot
spot_value d AtName = sp.Name
spot_value d (AtEquals name) = sp.Equals name
spot_value d (AtBody name) = sp.Body name
spot_value d (AtSection name secs) = sp.Sections (sections_value name secs [] sc.Section)
spot_value d (AfterOne name secs) = sp.Sections (sections_value name secs [] sc.AfterOne)
spot_value d (AfterName name secs word last) = sp.Sections (sections_value name secs (with_last word last) sc.AfterName)
spot_value d (AtMinus name secs word last) = sp.Sections (sections_value name secs (with_last word last) sc.Minus)
spot_value d (AtInverseOne name secs word last) = sp.Sections (sections_value name secs (with_last word last) sc.InverseOne)
spot_value d (AfterWord name secs word) = sp.Sections (sections_value name secs (secword_value word) sc.AfterInverse)
spot_value d (AtNextName name secs word) = sp.Sections (sections_value name secs (secword_value word) sc.NextName)
spot_value d (AfterSections name secs) = sp.AfterSections (head_value (Sectioned name secs))
spot_value d (AtFirst head) = sp.First (head_value head)
spot_value d (AtNumber head cycles numbers) = sp.Cycles (record { head = head_value head; done = done_cycles d cycles; current = done_numbers d numbers; refused = refused_numbers d numbers (refused_cycles d cycles); place = cy.Number })
spot_value d (AfterNumber head cycles numbers) = sp.Cycles (record { head = head_value head; done = done_cycles d cycles; current = numbers_value d numbers; refused = refuse_numbers d numbers (refused_cycles d cycles); place = cy.AfterNumber })
spot_value d (AfterCycle head cycles) = sp.Cycles (record { head = head_value head; done = cycle_list_value d cycles; current = []; refused = refuse_cycle_list d cycles false; place = cy.AfterCycle })
spot_value d (AfterEmpty head) = sp.AfterEmpty (head_value head)

abbrev pub after_value : ℕ → Option TSpot → Option Spot
after_value d None = None
after_value d (Some spot) = Some (spot_value d spot)

same_sec : (d : ℕ) (name : List ℕ) (secs : Option SecsTree) (sec : SecTree) (place : SectionPlace) (token : Lexeme) →
    spec.in_sections (spec.end_section (sections_value name secs (sec_value sec) place) token) ≡ after_value d (end_sec name secs sec token)
same_sec d name None sec place (Sign m.Comma) = refl
same_sec d name (Some secs) sec place (Sign m.Comma) = refl
same_sec d name None sec place (Sign m.Greater) = refl
same_sec d name (Some secs) sec place (Sign m.Greater) = refl
same_sec d name secs sec place _ = refl

same_word : (d : ℕ) (name : List ℕ) (secs : Option SecsTree) (word : SecWordTree) (place : SectionPlace) (token : Lexeme) →
    spec.in_sections (spec.after_word (sections_value name secs (secword_value word) place) token) ≡ after_value d (end_word name secs word token)
same_word d name secs word place (Sign m.Star) = refl
same_word d name secs word place token = same_sec d name secs (Names word) place token

same_name : (d : ℕ) (name : List ℕ) (secs : Option SecsTree) (word : Option SecWordTree) (last : List ℕ) (place : SectionPlace) (token : Lexeme) →
    spec.in_sections (spec.after_name (sections_value name secs (with_last word last) place) token) ≡ after_value d (end_name name secs word last token)
same_name d name secs word last place (Sign m.Caret) = refl
same_name d name secs None last place token = same_word d name secs (OneName (Forward last)) place token
same_name d name secs (Some word) last place token = same_word d name secs (MoreNames word (Forward last)) place token

same_one : (d : ℕ) (name : List ℕ) (secs : Option SecsTree) (text : List ℕ) (place : SectionPlace) (b : Bool) → is_one text ≡ b →
    spec.in_sections (spec.section_step (sections_value name secs [] place) (Number text)) ≡ after_value d (cond b (Some (AfterOne name secs)) None)
same_one d name secs text place true h = rw h refl
same_one d name secs text place false h = rw h refl

-- the last name of a product is inverted
pub invert_last-last : (word : List SecName) (last : SecName) → spec.invert_last (word ++ last ∷ []) ≡ word ++ record { name = last.name; inverse = true } ∷ []
invert_last-last [] last = refl
invert_last-last (first ∷ []) last = refl
invert_last-last (first ∷ other ∷ word) last = ap (λ l. first ∷ l) (invert_last-last (other ∷ word) last)

same_inverse : (d : ℕ) (name : List ℕ) (secs : Option SecsTree) (word : Option SecWordTree) (last text : List ℕ) (place : SectionPlace) (b : Bool) → is_one text ≡ b →
    spec.in_sections (spec.inverse_step (sections_value name secs (with_last word last) place) (Number text)) ≡ after_value d (cond b (Some (AfterWord name secs (join_word word (Inverse last)))) None)
same_inverse d name secs None last text place true h = rw h refl
same_inverse d name secs (Some word) last text place true h = rw h (ap (λ l. Some (sp.Sections (sections_value name secs l sc.AfterInverse))) (invert_last-last (secword_value word) (record { name = last; inverse = false })))
same_inverse d name secs word last text place false h = rw h refl

same_take : (d : ℕ) (spot : TSpot) (token : Lexeme) → spec.take d (spot_value d spot) token ≡ after_value d (take_tree spot token)
same_take d AtName (Name name) = refl
same_take d (AtEquals name) (Sign m.Equals) = refl
same_take d (AtBody name) (Sign m.Less) = refl
same_take d (AtBody name) (Sign m.LeftParen) = refl
same_take d (AtSection name secs) (Name last) = refl
same_take d (AtSection name secs) (Number text) = same_one d name secs text sc.Section (is_one text) refl
same_take d (AfterOne name secs) token = same_sec d name secs Trivial sc.AfterOne token
same_take d (AfterName name secs word last) token = same_name d name secs word last sc.AfterName token
same_take d (AtMinus name secs word last) (Sign m.Minus) = refl
same_take d (AtInverseOne name secs word last) (Number text) = same_inverse d name secs word last text sc.InverseOne (is_one text) refl
same_take d (AfterWord name secs word) token = same_word d name secs word sc.AfterInverse token
same_take d (AtNextName name secs word) (Name last) = refl
same_take d (AfterSections name secs) (Sign m.LeftParen) = refl
same_take d (AtFirst head) (Number text) = refl
same_take d (AtFirst head) (Sign m.RightParen) = refl
same_take d (AtNumber head cycles None) (Number text) = refl
same_take d (AtNumber head cycles (Some numbers)) (Number text) = refl
same_take d (AfterNumber head cycles numbers) (Sign m.Comma) = refl
same_take d (AfterNumber head None numbers) (Sign m.RightParen) = refl
same_take d (AfterNumber head (Some cycles) numbers) (Sign m.RightParen) = refl
same_take d (AfterCycle head cycles) (Sign m.LeftParen) = refl
same_take d _ token = refl

abbrev pub found_value : ℕ → Option RecursionTree → Option RecursionLine
found_value d None = None
found_value d (Some tree) = Some (recursion_value d tree)

same_finish : (d : ℕ) (spot : TSpot) → spec.finish (spot_value d spot) ≡ found_value d (finish_tree spot)
same_finish d (AfterSections name secs) = refl
same_finish d (AfterCycle (Bare name) list) = refl
same_finish d (AfterCycle (Sectioned name secs) list) = refl
same_finish d (AfterEmpty (Bare name)) = refl
same_finish d (AfterEmpty (Sectioned name secs)) = refl
same_finish d _ = refl

abbrev pub outcome_value : ℕ → Outcome RecursionTree → RecursionReading
outcome_value d (Found tree) = r.Whole (recursion_value d tree)
outcome_value d (Fault k) = r.Syntax k

same_end : (d count : ℕ) (found : Option RecursionTree) → spec.at_end count (found_value d found) ≡ outcome_value d (at_end count found)
same_end d count None = refl
same_end d count (Some tree) = refl

same_from : (d count : ℕ) (spot : TSpot) (tokens : List Lexeme) →
    spec.read_from d count (spot_value d spot) tokens ≡ outcome_value d (outcome_from exact_recursions count spot tokens)
same_from d count spot [] = ap (spec.at_end count) (same_finish d spot) ∙ same_end d count (finish_tree spot)
same_from d count spot (token ∷ tokens) =
    ap (spec.read_on (λ next. spec.read_from d (suc count) next tokens) count) (same_take d spot token)
    ∙ on (take_tree spot token) (λ next. same_from d (suc count) next tokens)
  where
    on : (after : Option TSpot) →
        ((next : TSpot) → spec.read_from d (suc count) (spot_value d next) tokens ≡ outcome_value d (outcome_from exact_recursions (suc count) next tokens)) →
        spec.read_on (λ next. spec.read_from d (suc count) next tokens) count (after_value d after)
        ≡ outcome_value d (go_on (λ next. outcome_from exact_recursions (suc count) next tokens) count after)
    on None later = refl
    on (Some next) later = later next

reads_outcome : (d : ℕ) (tokens : List Lexeme) (outcome : Outcome RecursionTree) → Tells recursion_tokens tokens outcome → ReadsRecursion d tokens (outcome_value d outcome)
reads_outcome d tokens (Found tree) h = (tree, h, refl)
reads_outcome d tokens (Fault k) h = h

-- the tokens of a line are read as the grammar says
pub reads : (d : ℕ) (tokens : List Lexeme) → ReadsRecursion d tokens (spec.reading d tokens)
unfolding spec.reading
reads d tokens =
    let same : spec.read_from d 0 sp.Name tokens ≡ outcome_value d (outcome_from exact_recursions 0 AtName tokens) = same_from d 0 AtName tokens in
    rw same (reads_outcome d tokens (outcome_from exact_recursions 0 AtName tokens) (tells exact_recursions tokens))

-- the loop over the tokens
token_at : (tokens : List Placed) (k : ℕ) (missing : Placed) → k < length tokens →
    drop k (map lexeme tokens) ≡ lexeme (get_or tokens k missing) ∷ drop (k + 1) (map lexeme tokens)
token_at tokens k missing h =
    drop-map lexeme k tokens ∙ ap (map lexeme) (drop-cons tokens k missing h) ∙ ap (λ rest. lexeme (get_or tokens k missing) ∷ rest) (rw (add-one) (sym (drop-map lexeme (suc k) tokens)))

pub goes_on : (d k : ℕ) (spot next : Spot) (tokens : List Placed) (missing : Placed) (whole : RecursionReading) → k < length tokens →
    Some next ≡ spec.take d spot (lexeme (get_or tokens k missing)) → spec.read_from d k spot (drop k (map lexeme tokens)) ≡ whole →
    spec.read_from d (k + 1) next (drop (k + 1) (map lexeme tokens)) ≡ whole
goes_on d k spot next tokens missing whole h taken before =
    rw (add-one)
    (ap (spec.read_on (λ s. spec.read_from d (suc k) s (drop (suc k) (map lexeme tokens))) k) taken
    ∙ sym (rw (add-one) at (ap (spec.read_from d k spot) (token_at tokens k missing h)))
    ∙ before)

pub stops : (d k : ℕ) (spot : Spot) (tokens : List Placed) (missing : Placed) (whole : RecursionReading) → k < length tokens →
    None ≡ spec.take d spot (lexeme (get_or tokens k missing)) → spec.read_from d k spot (drop k (map lexeme tokens)) ≡ whole → r.Syntax k ≡ whole
stops d k spot tokens missing whole h taken before =
    ap (spec.read_on (λ s. spec.read_from d (suc k) s (drop (k + 1) (map lexeme tokens))) k) taken
    ∙ sym (ap (spec.read_from d k spot) (token_at tokens k missing h))
    ∙ before
