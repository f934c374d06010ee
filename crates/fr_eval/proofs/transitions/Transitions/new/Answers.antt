use Rattle.std.proofs.Common.{◌≡◌, refl}
use Rattle.std.proofs.lemmas.List.Elements.{All-replicate}
use Rattle.fr_eval.specs.declared.transitions.Transition.{Transition}
use Rattle.fr_eval.proofs.transitions.Transitions.new.Goals as goal

pub returns : goal.returns
returns c = All-replicate (λ (r : Transition). r ≡ c.args.first) 128 c.args.first refl
