use Rattle.std.proofs.Common.{arith, ◌≡◌, ◌∙◌, sym, subst, length}
use Rattle.fr_classes.specs.Growing.{IsHashed}
use Rattle.fr_classes.proofs.GrowingLaws.{AreLevelsTo, level-at, AreLevelsTo-more, AreLevels-grown}
use Rattle.fr_classes.proofs.growing.extend_hashes.Goals as goal

pub loop-k-preserved : goal.loop-k-preserved
loop-k-preserved c =
    let rows = c.args.rows.now in
    let hs0 = c.args.hashes.now.items in
    let hs = c.loop-k.hashes.items in
    let new = c.hash_rows.new.hashes.items in
    let first : c.len-first.result ≡ length hs0 = omega (arith, c.len-first.ensures, c.args.hashes.now.ok.0) in
    let hashed : IsHashed rows (length hs0) c.loop-k.k (length rows) hs new = subst (λ n. IsHashed rows n c.loop-k.k (length rows) hs new) first c.hash_rows.ensures in
    AreLevelsTo-more c.requires.machine.0 rows c.requires.machine.1 (length hs0) c.loop-k.k hs0 hs new c.loop-k.invariant hashed

pub returns-clause-levels : goal.returns-clause-levels
returns-clause-levels c =
    let hs0 = c.args.hashes.now.items in
    let all : c.loop-k.k ≡ c.args.depth = omega (arith, c.loop-k-test.false, c.loop-k.auto.k-end) in
    let to : AreLevelsTo c.args.rows.now (length hs0) c.args.depth hs0 c.loop-k.hashes.items = subst (λ k. AreLevelsTo c.args.rows.now (length hs0) k hs0 c.loop-k.hashes.items) all c.loop-k.invariant in
    AreLevels-grown c.requires.machine.0 c.requires.levels.0 c.args.rows.now c.requires.machine.1 c.args.depth hs0 c.loop-k.hashes.items c.requires.levels.1 c.requires.levels.2 to

pub returns-clause-same : goal.returns-clause-same
returns-clause-same c = λ s l.
    let hs0 = c.args.hashes.now.items in
    let hs = c.loop-k.hashes.items in
    let h = c.requires.levels.1 in
    level-at hs c.args.depth s (omega (arith, l, h.count, c.requires.levels.2.least, c.loop-k.invariant.count)) ∙ c.loop-k.invariant.old s c.args.depth l ∙ sym (level-at hs0 c.args.depth s l)
