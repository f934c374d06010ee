use Rattle.std.proofs.Common.{arith, ap, subst, sym, ◌≡◌, ◌<◌, get_or, Some}
use Rattle.fr_canon.proofs.CodeRowLaws.{AreNextsRead, AreNextsRead-more, next_at, state_is}
use Rattle.fr_canon.proofs.rows.row_of_part.Goals as goal

pub overflow_sub-next : goal.overflow_sub-next
overflow_sub-next c =
    let q = c.requires in
    omega (arith, next_at c.args.a c.args.numbers.now q.0 c.loop-x.x q.1 (omega (arith, c.loop-x-test.true, c.letters-x-end.ensures.value)))

pub overflow_cast-next : goal.overflow_cast-next
overflow_cast-next c =
    let q = c.requires in
    let l : c.loop-x.x < c.args.a = omega (arith, c.loop-x-test.true, c.letters-x-end.ensures.value) in
    let small : get_or q.0.next c.loop-x.x 0 < 1024 = q.2 c.loop-x.x 0 (omega (arith, l, q.1.arity)) in
    omega (arith, next_at c.args.a c.args.numbers.now q.0 c.loop-x.x q.1 l, small)

pub loop-x-preserved : goal.loop-x-preserved
loop-x-preserved c =
    let q = c.requires in
    let l : c.loop-x.x < c.args.a = omega (arith, c.loop-x-test.true, c.letters-x-end.ensures.value) in
    AreNextsRead-more c.args.numbers.now c.loop-x.next c.loop-x.x c.loop-x.invariant (omega (arith, l, c.letters-x-end.ensures.value, c.letters-x-end.ensures.most)) (omega (arith, next_at c.args.a c.args.numbers.now q.0 c.loop-x.x q.1 l))

pub returns-clause-state : goal.returns-clause-state
returns-clause-state c = λ q h.
    let numbers = c.args.numbers.now in
    let same : c.of_rank.result ≡ Some q.perm = c.of_rank.ensures.only q.perm h.permutes (ap (λ l. get_or l 0 0) (sym h.written)) in
    let perm : c.unwrap-perm.result ≡ q.perm = cc in
    let all : c.loop-x.x ≡ c.args.a = omega (arith, c.loop-x-test.false, c.loop-x.auto.x-end, c.letters-x-end.ensures.value) in
    state_is c.args.a numbers c.unwrap-perm.result c.loop-x.next q (omega (arith, c.letters-x-end.ensures.value, c.letters-x-end.ensures.most)) h perm (subst (AreNextsRead numbers c.loop-x.next) all c.loop-x.invariant)
