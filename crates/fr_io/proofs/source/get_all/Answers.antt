use Rattle.std.proofs.Common.{◌≡◌, ◌<◌, ◌≤◌, ◌+◌, length, take, refl, vec_len, arith, rules}
use Rattle.std.proofs.lemmas.Result.{err_from_is_err_and}
use Rattle.fr_io.specs.Taken.{TookFew, TookTooMany}
use Rattle.fr_io.proofs.Joins.{took_kept, took_few, took_too_many, few_not_many}
use Rattle.fr_io.proofs.source.get_all.Given.{Over}
use Rattle.fr_io.proofs.source.get_all.Goals as goal
use Rattle.fr_io.proofs.source.get_all.Goals.{After-drop-all-then-count-most, In_err-extend_from_slice}

-- after the read that went past the limit
many : (g : Over) (c : After-drop-all-then-count-most g) → TookTooMany c.args.most (g.S.Source.left c.args.input.now) (g.S.Source.left c.read.new.self)
many g c =
    let count = c.in_ok-count.count in let buf = c.read.new.buf in
    let held : length c.loop-all.all.items ≡ vec_len c.loop-all.all = search rules in
    let given : count ≡ length (take count buf) = c.in_ok-count.ensures.bound.1 in
    let long : c.args.most < length c.loop-all.all.items + length (take count buf) = omega (arith, held, given, c.len.ensures, c.if-count-most.true) in
    took_too_many c.args.most (g.S.Source.left c.args.input.now) (g.S.Source.left c.loop-all.input) (g.S.Source.left c.read.new.self) c.loop-all.all.items (take count buf) c.loop-all.invariant.took c.in_ok-count.ensures.bytes.0 c.in_ok-count.ensures.told long

-- after a read for which there is no memory
few : (g : Over) (c : In_err-extend_from_slice g) → TookFew c.args.most (g.S.Source.left c.args.input.now) (g.S.Source.left c.read.new.self)
few g c =
    let count = c.in_ok-count.count in let buf = c.read.new.buf in
    let held : length c.loop-all.all.items ≡ vec_len c.loop-all.all = search rules in
    let given : count ≡ length (take count buf) = c.in_ok-count.ensures.bound.1 in
    let short : length c.loop-all.all.items + length (take count buf) ≤ c.args.most = omega (arith, held, given, c.len.ensures, c.if-count-most.false, c.loop-all.invariant.short) in
    took_few c.args.most (g.S.Source.left c.args.input.now) (g.S.Source.left c.loop-all.input) (g.S.Source.left c.read.new.self) c.loop-all.all.items (take count buf) c.loop-all.invariant.took c.in_ok-count.ensures.bytes.0 c.in_ok-count.ensures.told short

pub returns-in_err-count-clause-exactly : goal.returns-in_err-count-clause-exactly
returns-in_err-count-clause-exactly g c =
    let p = err_from_is_err_and c.from_residual.result c.from_residual.ensures.1 in
    let held : length c.loop-all.all.items ≡ vec_len c.loop-all.all = search rules in
    let fit : length c.loop-all.all.items ≤ c.args.most = omega (arith, held, c.loop-all.invariant.short) in
    let took = took_kept (g.S.Source.left c.args.input.now) (g.S.Source.left c.loop-all.input) (g.S.Source.left c.read.new.self) c.loop-all.all.items c.loop-all.invariant.took c.in_err-count.ensures.bytes c.in_err-count.ensures.told in
    λ told. (λ same. absurd (cc), λ long. absurd (few_not_many c.args.most (g.S.Source.left c.args.input.now) (g.S.Source.left c.read.new.self) told (record { bytes = c.loop-all.all.items; took = took; short = fit }) long))

pub returns-then-count-most-clause-too_long : goal.returns-then-count-most-clause-too_long
returns-then-count-most-clause-too_long g c = λ _. many g c

pub returns-then-count-most-clause-soon : goal.returns-then-count-most-clause-soon
returns-then-count-most-clause-soon g c =
    let count = c.in_ok-count.count in let buf = c.read.new.buf in
    let held : length c.loop-all.all.items ≡ vec_len c.loop-all.all = search rules in
    let given : count ≡ length (take count buf) = c.in_ok-count.ensures.bound.1 in
    let short : length c.loop-all.all.items + length (take count buf) ≤ c.args.most + 4096 = omega (arith, held, given, c.in_ok-count.ensures.bound.0, c.loop-all.invariant.whole, c.loop-all.invariant.short) in
    λ _. took_few (c.args.most + 4096) (g.S.Source.left c.args.input.now) (g.S.Source.left c.loop-all.input) (g.S.Source.left c.read.new.self) c.loop-all.all.items (take count buf) c.loop-all.invariant.took c.in_ok-count.ensures.bytes.0 c.in_ok-count.ensures.told short

pub returns-then-count-most-clause-stopped : goal.returns-then-count-most-clause-stopped
returns-then-count-most-clause-stopped g c = let beyond = many g c in record { bytes = beyond.bytes; took = beyond.took }

pub returns-then-count-most-clause-exactly : goal.returns-then-count-most-clause-exactly
returns-then-count-most-clause-exactly g c = λ _. (λ _. many g c, λ _. refl)

pub returns-in_err-extend_from_slice-clause-memory : goal.returns-in_err-extend_from_slice-clause-memory
returns-in_err-extend_from_slice-clause-memory g c = λ _. few g (goal.at.returns-in_err-extend_from_slice-clause-memory g c).In_err-extend_from_slice

pub returns-in_err-extend_from_slice-clause-stopped : goal.returns-in_err-extend_from_slice-clause-stopped
returns-in_err-extend_from_slice-clause-stopped g c =
    let p = err_from_is_err_and c.from_residual-in_err-extend_from_slice.result c.from_residual-in_err-extend_from_slice.ensures.1 in
    let within = few g (goal.at.returns-in_err-extend_from_slice-clause-stopped g c).In_err-extend_from_slice in
    rw p.1 (record { bytes = within.bytes; took = within.took })

pub returns-in_err-extend_from_slice-clause-exactly : goal.returns-in_err-extend_from_slice-clause-exactly
returns-in_err-extend_from_slice-clause-exactly g c =
    let p = err_from_is_err_and c.from_residual-in_err-extend_from_slice.result c.from_residual-in_err-extend_from_slice.ensures.1 in
    let within = few g (goal.at.returns-in_err-extend_from_slice-clause-exactly g c).In_err-extend_from_slice in
    λ told. (λ same. absurd (cc), λ long. absurd (few_not_many c.args.most (g.S.Source.left c.args.input.now) (g.S.Source.left c.read.new.self) told within long))
