use Rattle.std.proofs.Common.{arith, ◌≡◌, ◌-◌, ◌∙◌, ap, length, ◌++◌}
use Rattle.fr_growth.specs.Layers.{IsExtended, IsFirstWord, IsSecondWord, HasPair, HasWord}
use Rattle.fr_growth.proofs.WordLaws.{least_pair_of}
use Rattle.fr_growth.proofs.least.read_pair.Goals as goal

pub extend-requires-clause-some : goal.extend-requires-clause-some
extend-requires-clause-some c =
    let sets = c.args.sets.now in
    let found = c.requires.found.2 in
    let pair : HasPair c.args.m.now.alphabet c.args.m.now.rows c.args.goals.now c.args.from (length sets - 1) = c.requires.some in
    let word : HasWord c.args.m.now.alphabet c.args.m.now.rows c.args.goals.now c.args.from (length sets - 1) = record { word = pair.one; goal = pair.one_goal; exact = pair.one_exact } in
    word

pub second_word-requires-clause-long : goal.second_word-requires-clause-long
second_word-requires-clause-long c =
    let sets = c.args.sets.now in
    let found = c.requires.found.2 in
    let q : IsExtended c.args.m.now.alphabet c.args.m.now.rows c.args.goals.now c.args.from (length sets - 1) c.in_ok-first.first.items c.extend.new.word.items = c.in_ok-extend.ensures in
    let t : IsFirstWord c.args.m.now.alphabet c.args.m.now.rows c.args.goals.now c.args.from (length sets - 1) q.0 = q.2 in
    let is : c.deref.result.now ≡ q.0 = c.deref.ensures.value ∙ q.1 ∙ ap (λ z. z ++ q.0) c.in_ok-first.ensures.items in
    let l : length c.deref.result.now ≡ length sets - 1 = ap length is ∙ t.exact in
    omega (arith, l, found.some)

pub second_word-requires-clause-exact : goal.second_word-requires-clause-exact
second_word-requires-clause-exact c =
    let sets = c.args.sets.now in
    let found = c.requires.found.2 in
    let q : IsExtended c.args.m.now.alphabet c.args.m.now.rows c.args.goals.now c.args.from (length sets - 1) c.in_ok-first.first.items c.extend.new.word.items = c.in_ok-extend.ensures in
    let t : IsFirstWord c.args.m.now.alphabet c.args.m.now.rows c.args.goals.now c.args.from (length sets - 1) q.0 = q.2 in
    let is : c.deref.result.now ≡ q.0 = c.deref.ensures.value ∙ q.1 ∙ ap (λ z. z ++ q.0) c.in_ok-first.ensures.items in
    let l : length c.deref.result.now ≡ length sets - 1 = ap length is ∙ t.exact in
    rw l found.exact

pub second_word-requires-clause-first : goal.second_word-requires-clause-first
second_word-requires-clause-first c =
    let sets = c.args.sets.now in
    let found = c.requires.found.2 in
    let q : IsExtended c.args.m.now.alphabet c.args.m.now.rows c.args.goals.now c.args.from (length sets - 1) c.in_ok-first.first.items c.extend.new.word.items = c.in_ok-extend.ensures in
    let t : IsFirstWord c.args.m.now.alphabet c.args.m.now.rows c.args.goals.now c.args.from (length sets - 1) q.0 = q.2 in
    let is : c.deref.result.now ≡ q.0 = c.deref.ensures.value ∙ q.1 ∙ ap (λ z. z ++ q.0) c.in_ok-first.ensures.items in
    let l : length c.deref.result.now ≡ length sets - 1 = ap length is ∙ t.exact in
    rw (l, is) t

pub second_word-requires-clause-some : goal.second_word-requires-clause-some
second_word-requires-clause-some c =
    let sets = c.args.sets.now in
    let found = c.requires.found.2 in
    let q : IsExtended c.args.m.now.alphabet c.args.m.now.rows c.args.goals.now c.args.from (length sets - 1) c.in_ok-first.first.items c.extend.new.word.items = c.in_ok-extend.ensures in
    let t : IsFirstWord c.args.m.now.alphabet c.args.m.now.rows c.args.goals.now c.args.from (length sets - 1) q.0 = q.2 in
    let is : c.deref.result.now ≡ q.0 = c.deref.ensures.value ∙ q.1 ∙ ap (λ z. z ++ q.0) c.in_ok-first.ensures.items in
    let l : length c.deref.result.now ≡ length sets - 1 = ap length is ∙ t.exact in
    let pair : HasPair c.args.m.now.alphabet c.args.m.now.rows c.args.goals.now c.args.from (length sets - 1) = c.requires.some in
    rw l pair

pub returns-clause-pair : goal.returns-clause-pair
returns-clause-pair c =
    let sets = c.args.sets.now in
    let found = c.requires.found.2 in
    let q : IsExtended c.args.m.now.alphabet c.args.m.now.rows c.args.goals.now c.args.from (length sets - 1) c.in_ok-first.first.items c.extend.new.word.items = c.in_ok-extend.ensures in
    let t : IsFirstWord c.args.m.now.alphabet c.args.m.now.rows c.args.goals.now c.args.from (length sets - 1) q.0 = q.2 in
    let is : c.deref.result.now ≡ q.0 = c.deref.ensures.value ∙ q.1 ∙ ap (λ z. z ++ q.0) c.in_ok-first.ensures.items in
    let l : length c.deref.result.now ≡ length sets - 1 = ap length is ∙ t.exact in
    let same : c.extend.new.word.items ≡ q.0 = q.1 ∙ ap (λ z. z ++ q.0) c.in_ok-first.ensures.items in
    let second : IsSecondWord c.args.m.now.alphabet c.args.m.now.rows c.args.goals.now c.args.from q.0 c.in_ok-second.second.items = rw is at c.in_ok-second.ensures in
    rw (c.of.ensures.first, c.of.ensures.second, same) (least_pair_of c.args.m.now.alphabet c.args.m.now.rows c.args.goals.now c.args.from c.requires.found.0 sets found q.0 c.in_ok-second.second.items t second)
