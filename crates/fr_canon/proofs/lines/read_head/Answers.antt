use Rattle.std.proofs.Common.{ℕ, arith, ◌∙◌, ◌++◌, [], ◌∷◌, List, ap, sym, inl}
use Rattle.std.specs.Fmt.{decimal}
use Rattle.std.proofs.lemmas.Slice.Eq.{strip_prefix_is}
use Rattle.std.proofs.lemmas.Bool.Decides.{Decides-eqb}
use Rattle.fr_canon.proofs.ReadLaws.{match_weaker}
use Rattle.fr_canon.proofs.SplitLaws.{decimal_apart}
use Rattle.fr_canon.proofs.lines.read_head.Goals as goal

pub returns-then-found-number : goal.returns-then-found-number
returns-then-found-number c = λ rest e.
    let read = c.in-Some.ensures in
    c.if-found-number.true (decimal_apart 32 c.in-Some.found c.args.number c.in-Some.rest.now (61 ∷ 32 ∷ 60 ∷ rest) (inl (omega arith)) (omega (arith, read.1)) (omega (arith, c.requires.few)) (sym read.2 ∙ e)).0

pub returns : goal.returns
returns c =
    let read = c.in-Some.ensures in
    let piece : List ℕ = 61 ∷ 32 ∷ 60 ∷ [] in
    match_weaker c.strip_prefix.result (strip_prefix_is Decides-eqb c.in-Some.rest.now piece c.strip_prefix.result c.strip_prefix.ensures.cases)
    (λ none rest e. none rest (decimal_apart 32 c.in-Some.found c.args.number c.in-Some.rest.now (61 ∷ 32 ∷ 60 ∷ rest) (inl (omega arith)) (omega (arith, read.1)) (omega (arith, c.requires.few)) (sym read.2 ∙ e)).1)
    (λ r e. read.2 ∙ ap (λ t. decimal c.in-Some.found ++ 32 ∷ t) e ∙ ap (λ n. decimal n ++ 32 ∷ (piece ++ r.now)) c.if-found-number.false)
