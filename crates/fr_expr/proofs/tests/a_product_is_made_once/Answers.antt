use Rattle.std.proofs.Common.{rules}
use Rattle.fr_store.specs.Store.{IsKnown}
use Rattle.fr_store.specs.VecView.{known_of}
use Rattle.fr_store.proofs.StoreLaws.{IsKnown-keeps, Keeps-trans}
use Rattle.fr_expr.proofs.tests.a_product_is_made_once.Goals as goal

pub recall-requires-clause-a_known : goal.recall-requires-clause-a_known
recall-requires-clause-a_known g c =
    let a = known_of c.intern.new.self.inner in
    let b = known_of c.multiply.new.store.inner in
    let d = known_of c.multiply-2.new.store.inner in
    let t : IsKnown a c.expect-t.result = search rules in
    IsKnown-keeps a d c.expect-t.result (Keeps-trans a b d c.multiply.ensures.keeps c.multiply-2.ensures.keeps) t

pub recall-requires-clause-b_known : goal.recall-requires-clause-b_known
recall-requires-clause-b_known g c =
    let a = known_of c.intern.new.self.inner in
    let b = known_of c.multiply.new.store.inner in
    let d = known_of c.multiply-2.new.store.inner in
    let t : IsKnown a c.expect-t.result = search rules in
    IsKnown-keeps a d c.expect-t.result (Keeps-trans a b d c.multiply.ensures.keeps c.multiply-2.ensures.keeps) t

pub recall-requires-3-clause-a_known : goal.recall-requires-3-clause-a_known
recall-requires-3-clause-a_known g c =
    let a = known_of c.recall.new.self.inner in
    let square : IsKnown a c.expect-square.result = search rules in
    IsKnown-keeps a (known_of c.recall-2.new.self.inner) c.expect-square.result c.recall-2.ensures.keeps square

pub recall-requires-3-clause-b_known : goal.recall-requires-3-clause-b_known
recall-requires-3-clause-b_known g c =
    let a = known_of c.intern.new.self.inner in
    let b = known_of c.multiply.new.store.inner in
    let d = known_of c.multiply-2.new.store.inner in
    let t : IsKnown a c.expect-t.result = search rules in
    let e = known_of c.recall.new.self.inner in
    let f = known_of c.recall-2.new.self.inner in
    let made = Keeps-trans a b d c.multiply.ensures.keeps c.multiply-2.ensures.keeps in
    let seen = Keeps-trans d e f c.recall.ensures.keeps c.recall-2.ensures.keeps in
    IsKnown-keeps a f c.expect-t.result (Keeps-trans a d f made seen) t

pub multiply-again-requires-clause-a_known : goal.multiply-again-requires-clause-a_known
multiply-again-requires-clause-a_known g c =
    let a = known_of c.intern.new.self.inner in
    let b = known_of c.multiply.new.store.inner in
    let d = known_of c.multiply-2.new.store.inner in
    let t : IsKnown a c.expect-t.result = search rules in
    let e = known_of c.recall.new.self.inner in
    let f = known_of c.recall-2.new.self.inner in
    let made = Keeps-trans a b d c.multiply.ensures.keeps c.multiply-2.ensures.keeps in
    let seen = Keeps-trans d e f c.recall.ensures.keeps c.recall-2.ensures.keeps in
    let h = known_of c.recall-3.new.self.inner in
    IsKnown-keeps a h c.expect-t.result (Keeps-trans a f h (Keeps-trans a d f made seen) c.recall-3.ensures.keeps) t

pub multiply-again-requires-clause-b_known : goal.multiply-again-requires-clause-b_known
multiply-again-requires-clause-b_known g c =
    let a = known_of c.intern.new.self.inner in
    let b = known_of c.multiply.new.store.inner in
    let d = known_of c.multiply-2.new.store.inner in
    let t : IsKnown a c.expect-t.result = search rules in
    let e = known_of c.recall.new.self.inner in
    let f = known_of c.recall-2.new.self.inner in
    let made = Keeps-trans a b d c.multiply.ensures.keeps c.multiply-2.ensures.keeps in
    let seen = Keeps-trans d e f c.recall.ensures.keeps c.recall-2.ensures.keeps in
    let h = known_of c.recall-3.new.self.inner in
    IsKnown-keeps a h c.expect-t.result (Keeps-trans a f h (Keeps-trans a d f made seen) c.recall-3.ensures.keeps) t
