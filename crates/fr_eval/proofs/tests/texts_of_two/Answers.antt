use Rattle.std.proofs.Common.{sym, subst}
use Rattle.fr_script.specs.Fits.{FitsItems}
use Rattle.fr_eval.proofs.TestLaws.{two_rise, none_above, added_above}
use Rattle.fr_eval.proofs.tests.texts_of_two.Goals as goal

pub tell-requires-2-clause-above : goal.tell-requires-2-clause-above
tell-requires-2-clause-above c =
    added_above _ _ _ _ (two_rise _ _ _ _ c.in-len2.len_at_least c.first-item.is c.second-item.is (subst (FitsItems c.args.script.now.alphabet 0 4096) (sym c.as_slice.ensures) c.requires.fits.items))
    (none_above _ _ c.new-env.ensures) c.in_ok-tell.ensures.adds
