use Rattle.fr_eval.proofs.RowTextLaws.{wreath_text-pieces}
use Rattle.fr_eval.proofs.rows.push_wreath.Goals as goal

pub returns : goal.returns
returns c = wreath_text-pieces c.args.row.now c.args.out.now.items _ _ c.in_ok-push_nexts.ensures c.in_ok-print_cycles.ensures.ok
