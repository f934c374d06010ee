use Rattle.std.proofs.Common.{ap, sym, ◌∙◌, subst}
use Rattle.fr_script.specs.Items.{alphabet_after}
use Rattle.fr_script.specs.Keeping.{form_body, IsForm}
use Rattle.fr_script.proofs.KeptLaws.{waits-alphabet}
use Rattle.fr_script.proofs.kept.Kept.alphabet_after.Goals as goal

pub returns-in-Line : goal.returns-in-Line
returns-in-Line c =
    waits-alphabet c.args.a c.in-Line.alphabet c.in-Line.number c.in-Line.is_first c.in-Line.text.items (subst IsForm c.in-Line.is c.self.invariant)
    ∙ ap (alphabet_after c.args.a) (ap form_body (sym c.in-Line.is) ∙ c.self.view_is)
