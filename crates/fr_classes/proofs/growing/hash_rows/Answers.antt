use Rattle.std.proofs.Common.{arith, ℕ, ◌≡◌, ◌∙◌, ◌+◌, ◌<◌, List, [], sym, subst, set, get_or, length}
use Rattle.std.proofs.lemmas.List.{get_or_default}
use Rattle.fr_machine.specs.declared.row.Row.{Row}
use Rattle.fr_machine.specs.Rows.{row_at}
use Rattle.fr_classes.specs.Hashes.{hash_of}
use Rattle.fr_classes.specs.Growing.{level, IsHashed}
use Rattle.fr_classes.proofs.PartitionLaws.{row_is_at, next_below}
use Rattle.fr_classes.proofs.GrowingLaws.{IsHashed-more}
use Rattle.fr_classes.proofs.growing.hash_rows.Goals as goal

pub loop-s-preserved : goal.loop-s-preserved
loop-s-preserved c =
    let d = c.requires.machine.0 in
    let m = c.requires.machine.1 in
    let rows = c.args.rows.now in
    let hs = c.loop-s.hashes.items in
    let s = c.loop-s.s in
    let k = c.args.k in
    let v = c.hash_row-hash.result in
    let l = c.loop-s-test.true in
    let inside : s < length hs = omega (arith, l, c.requires.count, c.loop-s.invariant.count) in
    let entry : c.index_mut.result.now ≡ get_or hs s [] = c.index_mut.ensures.value ∙ get_or_default hs s c.index_mut.result.now [] inside in
    let row : c.index-rows-s.result ≡ row_at rows s = c.index-rows-s.is ∙ get_or_default rows s c.index-rows-s.result (record { perm = []; next = [] }) l in
    let P : List (List ℕ) → Type 0 = λ hs. v ≡ hash_of c.index-rows-s.result (level hs k) (length c.index-rows-s.result.perm) in
    let Q : Row → Type 0 = λ r. v ≡ hash_of r (level hs k) (length r.perm) in
    let R : List ℕ → Type 0 = λ w. IsHashed rows c.args.first k (s + 1) c.args.hashes.now.items (set hs s (set w (k + 1) v)) in
    let value = subst Q row (subst P c.deref.ensures.value c.hash_row-hash.ensures) in
    let closed : (x : ℕ) → x < length (row_at rows s).perm → get_or (row_at rows s).next x 0 < length hs =
    λ x a. omega (arith, next_below d rows m s x l (omega (arith, a, (row_is_at d rows m s l).permutes.degree)), c.requires.count, c.loop-s.invariant.count) in
    subst R (sym entry) (IsHashed-more rows c.args.first k s c.args.hashes.now.items hs v c.loop-s.invariant inside c.loop-s.auto.s c.requires.letters closed value)
