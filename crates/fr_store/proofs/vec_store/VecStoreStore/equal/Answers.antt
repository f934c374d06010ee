use Rattle.std.proofs.Common.{arith}
use Rattle.std.proofs.lemmas.Bool.Decides.{nat_tests}
use Rattle.fr_store.proofs.VecLaws.{equal_codes, equal_alike}
use Rattle.fr_store.proofs.vec_store.VecStoreStore.equal.Goals as goal

pub returns-clause-codes : goal.returns-clause-codes
returns-clause-codes c =
    let s = c.args.self.now in
    let b = s.blocks in
    let e = equal_codes b.alphabet b.rows.items b.places.items b.are_blocks s.index.handles.items s.index.links.items s.is_index s.whole c.args.a c.args.b c.requires.a_known c.requires.b_known in
    (λ i. e.0 (grind (arith, nat_tests, i)), λ p. let q = e.1 p in grind (arith, nat_tests, q))

pub returns-clause-alike : goal.returns-clause-alike
returns-clause-alike c = λ t u p q.
    let s = c.args.self.now in
    let b = s.blocks in
    let e = equal_alike b.alphabet b.rows.items b.places.items b.are_blocks s.index.handles.items s.index.links.items s.is_index s.whole c.args.a c.args.b t u p q in
    (λ i. e.0 (grind (arith, nat_tests, i)), λ x. let y = e.1 x in grind (arith, nat_tests, y))
