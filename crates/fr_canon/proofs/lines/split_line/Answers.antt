use Rattle.std.proofs.Common.{◌∙◌, ◌+◌, ◌++◌, ◌∷◌, ap, sym, take}
use Rattle.std.proofs.lemmas.List.{take_rest}
use Rattle.fr_canon.proofs.SplitLaws.{no_place, place_splits}
use Rattle.fr_canon.proofs.lines.split_line.Goals as goal

pub returns-in_default : goal.returns-in_default
returns-in_default c = λ line rest e. no_place 10 c.args.text.now line rest (sym c.place_of.ensures ∙ c.in_default.is) e

pub returns : goal.returns
returns c =
    let text = c.args.text.now in
    let i = c.in-Some.length in
    let s = place_splits 10 text i (sym c.place_of.ensures ∙ c.in-Some.is) in
    (s.1, s.2 ∙ ap (λ t. take i text ++ 10 ∷ t) (sym (take_rest text (i + 1))))
