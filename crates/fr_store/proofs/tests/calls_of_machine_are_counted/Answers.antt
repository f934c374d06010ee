use Rattle.std.proofs.Common.{rules}
use Rattle.fr_store.specs.Store.{IsKnown}
use Rattle.fr_store.specs.VecView.{known_of}
use Rattle.fr_store.proofs.StoreLaws.{IsKnown-keeps}
use Rattle.fr_store.proofs.tests.calls_of_machine_are_counted.Goals as goal

pub machine-requires : goal.machine-requires
machine-requires g c =
    let old = c.intern.new.self.inner in
    let known : IsKnown (known_of old) c.expect-h.result = search rules in
    IsKnown-keeps (known_of old) (known_of c.product_at_hand.new.store.inner) c.expect-h.result c.product_at_hand.ensures known
