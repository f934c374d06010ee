use Rattle.std.proofs.Common.{◌≡◌, ℕ, List, true, false, take, get_or, ◌∙◌, sym, ap, Some}
use Rattle.std.specs.Prelude.{is_some}
use Rattle.fr_syntax.specs.declared.statement.Recursion.{Recursion}
use Rattle.fr_plain.specs.Blocks.{names_of, place_of}
use Rattle.fr_eval.specs.NamePlaces.{place_at}
use Rattle.fr_eval.proofs.NameLaws.{first_repeat-goes, first_repeat-stops, place_of-more}
use Rattle.fr_eval.proofs.names.name_places.Goals as goal

pub returns-then-branch : goal.returns-then-branch
returns-then-branch c =
    let rs = c.args.block.now in
    let i = c.loop-i.i in
    let r = c.index-block-i.result in
    let here : get_or rs i r ≡ r = sym c.index-block-i.is in
    let has : true ≡ is_some (place_of (names_of (take i rs)) (get_or rs i r).name) =
    rw here (sym c.if-branch.true ∙ c.in_ok-enter.ensures.known ∙ ap is_some (c.loop-i.invariant.known c.bytes.result.now) ∙ ap (λ (n : List ℕ). is_some (place_of (names_of (take i rs)) n)) c.bytes.ensures) in
    c.loop-i.invariant.rest ∙ first_repeat-stops rs i r c.loop-i-test.true has ∙ ap (λ (x : Recursion). Some x.line) here

pub loop-i-preserved : goal.loop-i-preserved
loop-i-preserved c =
    let rs = c.args.block.now in
    let i = c.loop-i.i in
    let r = c.index-block-i.result in
    let here : get_or rs i r ≡ r = sym c.index-block-i.is in
    let none : false ≡ is_some (place_of (names_of (take i rs)) (get_or rs i r).name) =
    rw here (sym c.if-branch.false ∙ c.in_ok-enter.ensures.known ∙ ap is_some (c.loop-i.invariant.known c.bytes.result.now) ∙ ap (λ (n : List ℕ). is_some (place_of (names_of (take i rs)) n)) c.bytes.ensures) in
    record {
      known = λ q. c.in_ok-enter.ensures.entered q ∙ rw (c.bytes.ensures, ← here) (place_of-more rs i r c.loop-i-test.true q (place_at c.loop-i.places q) (c.loop-i.invariant.known q) none);
      rest = c.loop-i.invariant.rest ∙ first_repeat-goes rs i r c.loop-i-test.true none;
    }
