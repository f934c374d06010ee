use Rattle.fr_script.proofs.KeptLaws.{kept-says}
use Rattle.fr_script.proofs.kept.Kept.line.Goals as goal

pub returns : goal.returns
returns c = kept-says c.args.alphabet c.args.number c.args.is_first c.args.line.now c.in_ok-text.text.items c.in_ok-text.ensures.items
