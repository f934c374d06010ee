use Rattle.std.proofs.Common.{rules, ◌∙◌}
use Rattle.fr_store.specs.Store.{IsKnown}
use Rattle.fr_store.specs.VecView.{known_of}
use Rattle.fr_store.proofs.StoreLaws.{IsKnown-keeps, Keeps-trans}
use Rattle.fr_expr.proofs.tests.an_inverse_and_the_identity_are_made_once.Goals as goal

pub recall_inverse-requires : goal.recall_inverse-requires
recall_inverse-requires g c =
    let a = known_of c.intern.new.self.inner in
    let b = known_of c.invert.new.store.inner in
    let t : IsKnown a c.expect-t.result = search rules in
    IsKnown-keeps a b c.expect-t.result c.invert.ensures.keeps t

pub invert-again-requires-clause-known : goal.invert-again-requires-clause-known
invert-again-requires-clause-known g c =
    let a = known_of c.intern.new.self.inner in
    let b = known_of c.invert.new.store.inner in
    let e = known_of c.recall_inverse.new.self.inner in
    let t : IsKnown a c.expect-t.result = search rules in
    IsKnown-keeps a e c.expect-t.result (Keeps-trans a b e c.invert.ensures.keeps (λ n code k. c.recall_inverse.ensures.reads.known n ∙ k)) t
