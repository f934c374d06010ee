use Rattle.std.proofs.Common.{ℕ, ap, sym, subst, ◌≡◌, length, List, arith}
use Rattle.fr_machine.specs.declared.row.Row.{Row}
use Rattle.fr_machine.specs.Rows.{IsMachine}
use Rattle.fr_nucleus.specs.Joining.{AreJoined}
use Rattle.fr_nucleus.proofs.JoiningLaws.{IsJoinPart, IsMachine-joined, AreJoined-from}
use Rattle.fr_nucleus.proofs.joining.joined.Goals as goal

pub from_rows-requires : goal.from_rows-requires
from_rows-requires c =
    let m = c.args.m.now in
    let n = c.args.n.now in
    let all : c.loop-row.row-index ≡ length n.rows = omega (arith, c.loop-row-test.false, c.loop-row.auto.row-index-end, ap length c.rows-row-items.ensures.value) in
    let P : ℕ → Type 0 = λ d. IsMachine d n.rows in
    let J : ℕ → Type 0 = λ i. IsJoinPart m.rows n.rows c.loop-row.rows.items i in
    let Q : ℕ → Type 0 = λ d. IsMachine d c.loop-row.rows.items in
    subst Q (sym c.alphabet.ensures.value) (IsMachine-joined m.alphabet m.rows n.rows c.loop-row.rows.items c.rows-first.ensures.valid (subst P (sym c.requires.alphabets) c.rows-row-items.ensures.valid) c.requires.room (subst J all c.loop-row.invariant))

pub returns-clause-rows : goal.returns-clause-rows
returns-clause-rows c =
    let m = c.args.m.now in
    let n = c.args.n.now in
    let all : c.loop-row.row-index ≡ length n.rows = omega (arith, c.loop-row-test.false, c.loop-row.auto.row-index-end, ap length c.rows-row-items.ensures.value) in
    let P : ℕ → Type 0 = λ d. IsMachine d n.rows in
    let J : ℕ → Type 0 = λ i. IsJoinPart m.rows n.rows c.loop-row.rows.items i in
    let G : List Row → Type 0 = λ rows. AreJoined m.rows n.rows rows in
    subst G (sym (ap (λ q. q.rows) c.from_rows.ensures)) (AreJoined-from m.alphabet m.rows n.rows c.loop-row.rows.items c.rows-first.ensures.valid (subst P (sym c.requires.alphabets) c.rows-row-items.ensures.valid) c.requires.room (subst J all c.loop-row.invariant))
