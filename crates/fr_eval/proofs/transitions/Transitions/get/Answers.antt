use Rattle.std.proofs.lemmas.List.Elements.{All-set, All-weaker}
use Rattle.fr_eval.specs.Transitions.{IsTransition}
use Rattle.fr_eval.proofs.ImageLaws.{IsTransition-after}
use Rattle.fr_eval.proofs.transitions.Transitions.get.Goals as goal

pub returns-clause-kept : goal.returns-clause-kept
returns-clause-kept g c =
    let view = g.S.Store.view in
    let old = c.args.store.now in
    let new = c.of-next.new.store in
    All-set (IsTransition view new) c.args.self.now.kept _ c.of-next.result c.of-next.ensures.is_transition
    (All-weaker (IsTransition view old) (IsTransition view new) (λ r h. IsTransition-after view old new r c.of-next.ensures.reads h) c.args.self.now.kept c.requires.kept)
