use Rattle.std.proofs.Common.{Some}
use Rattle.std.proofs.lemmas.Map.Text.{hash_map_updates_str}
use Rattle.fr_eval.proofs.names.enter.Goals as goal

pub returns-clause-entered : goal.returns-clause-entered
returns-clause-entered c = λ q. hash_map_updates_str c.args.name.now c.args.places.now c.insert.new.self (Some c.args.place) c.in_ok-earlier.ensures.updates q
