use Rattle.std.proofs.Common.{arith, ◌≡◌, ◌-◌, ◌∙◌, ap, get_or, sym}
use Rattle.fr_growth.proofs.LayerBridge.{level_at}
use Rattle.fr_growth.proofs.TameLaws.{depth_at, finitary_tells, degree_at, degree_tells}
use Rattle.fr_growth.proofs.classing.tame.Goals as goal

pub returns-then-level-eq0-clause-class : goal.returns-then-level-eq0-clause-class
returns-then-level-eq0-clause-class c =
    let m = c.machine-known.ensures.valid in
    let numbers = c.args.components.now.numbers.items in
    let none : level_at numbers c.in_ok-levels.levels.values.items 0 ≡ 0 = ap (λ z. get_or c.in_ok-levels.levels.values.items z 0) (sym c.number_of-first.ensures) ∙ sym c.value_of-level.ensures ∙ c.if-level-eq0.true in
    let depth : c.value_of.result ≡ level_at numbers c.in_ok-heights.heights.values.items 0 = c.value_of.ensures ∙ ap (λ z. get_or c.in_ok-heights.heights.values.items z 0) c.number_of-first.ensures in
    rw depth (depth_at c.args.m.now.alphabet c.args.m.now.rows m c.args.moving.now c.requires.moving c.args.components.now.numbers.items c.requires.numbers c.args.returns.now c.requires.returns c.requires.few c.in_ok-levels.levels.values.items c.in_ok-levels.levels.heads.items c.in_ok-levels.ensures c.in_ok-heights.heights.values.items c.in_ok-heights.heights.heads.items c.in_ok-heights.ensures none)

pub returns-then-level-eq0-clause-numbers : goal.returns-then-level-eq0-clause-numbers
returns-then-level-eq0-clause-numbers c =
    let m = c.machine-known.ensures.valid in
    let numbers = c.args.components.now.numbers.items in
    let none : level_at numbers c.in_ok-levels.levels.values.items 0 ≡ 0 = ap (λ z. get_or c.in_ok-levels.levels.values.items z 0) (sym c.number_of-first.ensures) ∙ sym c.value_of-level.ensures ∙ c.if-level-eq0.true in
    let depth : c.value_of.result ≡ level_at numbers c.in_ok-heights.heights.values.items 0 = c.value_of.ensures ∙ ap (λ z. get_or c.in_ok-heights.heights.values.items z 0) c.number_of-first.ensures in
    rw depth (finitary_tells c.args.m.now.alphabet c.args.m.now.rows m c.args.moving.now c.requires.moving (level_at numbers c.in_ok-heights.heights.values.items 0) (depth_at c.args.m.now.alphabet c.args.m.now.rows m c.args.moving.now c.requires.moving c.args.components.now.numbers.items c.requires.numbers c.args.returns.now c.requires.returns c.requires.few c.in_ok-levels.levels.values.items c.in_ok-levels.levels.heads.items c.in_ok-levels.ensures c.in_ok-heights.heights.values.items c.in_ok-heights.heights.heads.items c.in_ok-heights.ensures none))

pub returns-clause-class : goal.returns-clause-class
returns-clause-class c =
    let m = c.machine-known.ensures.valid in
    let numbers = c.args.components.now.numbers.items in
    let level : c.value_of-level.result ≡ level_at numbers c.in_ok-levels.levels.values.items 0 = c.value_of-level.ensures ∙ ap (λ z. get_or c.in_ok-levels.levels.values.items z 0) c.number_of-first.ensures in
    let count = rw c.deref.ensures.value at c.in_ok-chain.ensures.count in
    degree_at c.args.m.now.alphabet c.args.m.now.rows m c.args.moving.now c.requires.moving c.args.components.now.numbers.items c.requires.numbers c.args.returns.now c.requires.returns c.requires.few c.in_ok-levels.levels.values.items c.in_ok-levels.levels.heads.items c.in_ok-levels.ensures (c.value_of-level.result - 1) c.in_ok-chain.chain.items (omega (arith, level, c.if-level-eq0.false)) (omega (arith, count, level, c.if-level-eq0.false)) c.in_ok-chain.ensures.chain

pub returns-clause-numbers : goal.returns-clause-numbers
returns-clause-numbers c =
    let m = c.machine-known.ensures.valid in
    let numbers = c.args.components.now.numbers.items in
    let level : c.value_of-level.result ≡ level_at numbers c.in_ok-levels.levels.values.items 0 = c.value_of-level.ensures ∙ ap (λ z. get_or c.in_ok-levels.levels.values.items z 0) c.number_of-first.ensures in
    let count = rw c.deref.ensures.value at c.in_ok-chain.ensures.count in
    degree_tells c.args.m.now.alphabet c.args.m.now.rows m c.args.moving.now c.requires.moving c.args.components.now.numbers.items c.requires.numbers c.args.returns.now c.requires.returns c.requires.few c.in_ok-levels.levels.values.items c.in_ok-levels.levels.heads.items c.in_ok-levels.ensures (c.value_of-level.result - 1) c.in_ok-chain.chain.items (omega (arith, level, c.if-level-eq0.false)) (omega (arith, count, level, c.if-level-eq0.false)) c.in_ok-chain.ensures.chain
