use Rattle.std.proofs.Common.{◌≡◌}
use Rattle.fr_eval.specs.Bindings.{AreAllKnown}
use Rattle.fr_expr.specs.Tables.{names_in}
use Rattle.fr_store.specs.VecView.{vec_view}
use Rattle.frcalc.proofs.AnsweringLaws.{Answering}
use Rattle.frcalc.proofs.answering.answer_all.Given as goal

abbrev pub invariant-loop-k : goal.invariant-loop-k
invariant-loop-k l = record {
  items : l.items ≡ l.script.items;
  known : AreAllKnown (vec_view.known l.store) (names_in l.env);
  answering : Answering l.script l.limit l.k l.store (names_in l.env) l.fed.replies.items l.text.items l.refused l.charge;
}
