use Rattle.std.proofs.Common.{ap, sym, ◌∙◌, subst}
use Rattle.fr_script.specs.Keeping.{form_body, IsForm, line_word, word_waits}
use Rattle.fr_script.proofs.KeptLaws.{waits-no_group, kept-reads}
use Rattle.fr_script.proofs.kept.Kept.read.Goals as goal

pub body_of-requires : goal.body_of-requires
body_of-requires c =
    waits-no_group c.in-Line.alphabet c.in-Line.is_first c.deref.result.now c.in_ok-outcome-in-Line.outcome
    (ap (λ l. word_waits (line_word l)) c.deref.ensures.value ∙ subst IsForm c.in-Line.is c.self.invariant) c.in_ok-outcome-in-Line.ensures

pub returns-in_ok-outcome-in-Line : goal.returns-in_ok-outcome-in-Line
returns-in_ok-outcome-in-Line c =
    c.body_of.ensures
    ∙ kept-reads c.in-Line.alphabet c.in-Line.number c.in-Line.is_first c.deref.result.now c.in-Line.text.items c.in_ok-outcome-in-Line.outcome
    c.deref.ensures.value c.in_ok-outcome-in-Line.ensures
    ∙ ap form_body (sym c.in-Line.is) ∙ c.self.view_is
