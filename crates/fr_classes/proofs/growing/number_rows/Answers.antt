use Rattle.std.proofs.Common.{arith, ◌≡◌, ◌∙◌, [], ◌∷◌, ap, sym, subst, length, get_or}
use Rattle.std.proofs.lemmas.List.{get_or_append_left}
use Rattle.fr_classes.specs.Sparse.{IsMet, AreMet}
use Rattle.fr_classes.specs.Growing.{level}
use Rattle.fr_classes.proofs.KeyNumberLaws.{AreMet-more}
use Rattle.fr_classes.proofs.GrowingLaws.{level-at}
use Rattle.fr_classes.proofs.growing.number_rows.Goals as goal

pub loop-s-preserved : goal.loop-s-preserved
loop-s-preserved c =
    let hs = c.args.hashes.now in
    let s = c.loop-s.s in
    let old = c.loop-s.walk.keys.items in
    let new = c.number.new.self.keys.items in
    let n = c.in_ok-number.number in
    let met : IsMet old new (get_or (level hs c.args.depth) s 0) n = subst (λ key. IsMet old new key n) (sym (level-at hs c.args.depth s c.loop-s-test.true)) c.in_ok-number.ensures.met in
    record {
      sparse = c.in_ok-number.ensures.sparse;
      met = AreMet-more (level hs c.args.depth) c.loop-s.of.items c.push.new.self.items old new s n c.loop-s.invariant.met met c.in_ok-push.ensures.items;
      same = λ t l.
          ap (λ xs. get_or xs t 0) c.in_ok-push.ensures.items
          ∙ get_or_append_left c.loop-s.of.items (n ∷ []) 0 t (omega (arith, l, c.loop-s.invariant.met.size, c.loop-s.auto.s, c.len-s.ensures, c.args.of.now.ok.0))
          ∙ c.loop-s.invariant.same t l;
    }

pub returns-clause-met : goal.returns-clause-met
returns-clause-met c =
    let all : c.loop-s.s ≡ length c.args.hashes.now = omega (arith, c.loop-s-test.false, c.loop-s.auto.s-end, c.len-s.ensures, c.args.of.now.ok.0, c.requires.more) in
    subst (λ n. AreMet (level c.args.hashes.now c.args.depth) c.loop-s.of.items c.loop-s.walk.keys.items n) all c.loop-s.invariant.met
