use Rattle.std.proofs.Common.{ℕ, List, ◌≡◌, ◌+◌, ◌*◌, ◌∙◌, ap, sym, subst, length, arith}
use Rattle.fr_ray.proofs.RayLaws.{some_length}
use Rattle.fr_ray.proofs.RoundLaws.{AreRounds, AreRounds-none, AreRounds-more, new_key, letters_word, rounds_image, rounds_inside}
use Rattle.fr_alphabet.proofs.Readings.{IsWord-weaker}
use Rattle.fr_ray.proofs.image.image_rounds.Goals as goal

-- the place of a round, by the words that the ray shows
place_of : (n : ℕ) (shown before shown' period : List ℕ) → shown ≡ before → shown' ≡ period → length shown + n * length shown' ≡ length before + n * length period
place_of n shown before shown' period e f = ap (λ w. length w + n * length shown') e ∙ ap (λ w. length before + n * length w) f

pub loop-machine-init : goal.loop-machine-init
loop-machine-init c =
    let machine = c.machine-machine.ensures.value in
    let shown = c.before-2.ensures.value in
    let rows = c.args.m.now.rows in
    let r = c.args.r.now in
    let P : List ℕ → Type 0 = λ keys. AreRounds rows r.before r.period keys c.in_ok-row.row c.run.new.letters.items in
    record {
      bound = ap (λ w. w.bound) c.in_ok-walk.ensures;
      in_range = rw machine at c.in_ok-row.ensures.below;
      rounds = subst P (sym (ap (λ w. w.keys) c.in_ok-walk.ensures))
          (AreRounds-none c.args.m.now.alphabet rows c.machine-machine.ensures.valid.machine r.before r.period c.requires.before c.requires.period c.in_ok-row.row c.run.new.letters.items (rw (machine, shown) at c.in_ok-row.ensures.behind) (rw (machine, shown, c.new-letters.ensures.items) at c.in_ok-row.ensures.image));
    }

pub returns-then-round-rounds-clause-inside : goal.returns-then-round-rounds-clause-inside
returns-then-round-rounds-clause-inside c =
    let r = c.args.r.now in
    rounds_inside c.args.m.now.alphabet c.args.m.now.rows c.machine-machine.ensures.valid.machine r.before r.period c.requires.before c.requires.period (some_length _ c.period.ensures.canonical.some)
    c.loop-machine.walk c.number-round.new.self c.loop-machine.row c.number-round.result 1024 c.loop-machine.letters.items c.loop-machine.invariant.rounds c.number-round.ensures (omega arith) _ (place_of _ _ _ _ _ c.before-then-round-rounds.ensures.value c.period.ensures.value)

pub returns-then-round-rounds-clause-valid : goal.returns-then-round-rounds-clause-valid
returns-then-round-rounds-clause-valid c =
    letters_word c.args.m.now.alphabet c.args.m.now.rows c.machine-machine.ensures.valid.machine c.args.r.now.before c.args.r.now.period c.requires.before c.requires.period c.loop-machine.walk.keys c.loop-machine.row _ c.loop-machine.invariant.rounds

pub returns-then-round-rounds-clause-valid_of_8 : goal.returns-then-round-rounds-clause-valid_of_8
returns-then-round-rounds-clause-valid_of_8 c =
    let m = c.machine-machine.ensures.valid.machine in
    IsWord-weaker c.args.m.now.alphabet 8 m.letters _ (letters_word c.args.m.now.alphabet c.args.m.now.rows m c.args.r.now.before c.args.r.now.period c.requires.before c.requires.period c.loop-machine.walk.keys c.loop-machine.row _ c.loop-machine.invariant.rounds)

pub returns-then-round-rounds-clause-image : goal.returns-then-round-rounds-clause-image
returns-then-round-rounds-clause-image c =
    let r = c.args.r.now in
    rounds_image c.args.m.now.alphabet c.args.m.now.rows c.machine-machine.ensures.valid.machine r.before r.period c.requires.before c.requires.period (some_length _ c.period.ensures.canonical.some)
    c.loop-machine.walk c.number-round.new.self c.loop-machine.row c.number-round.result 1024 c.loop-machine.letters.items c.loop-machine.invariant.rounds c.number-round.ensures (omega arith) _ (place_of _ _ _ _ _ c.before-then-round-rounds.ensures.value c.period.ensures.value)

pub loop-machine-preserved : goal.loop-machine-preserved
loop-machine-preserved c =
    let machine = c.machine-machine.ensures.value in
    let shown = c.period-in-loop-machine.ensures.value in
    let rows = c.args.m.now.rows in
    let r = c.args.r.now in
    let before = c.loop-machine in
    let P : List ℕ → Type 0 = λ keys. AreRounds rows r.before r.period keys c.in_ok-row-2.row c.run-in-loop-machine.new.letters.items in
    record {
      bound = c.number-round.ensures.bound ∙ before.invariant.bound;
      in_range = rw machine at c.in_ok-row-2.ensures.below;
      rounds = subst P (sym (new_key before.walk c.number-round.new.self before.row 1024 c.number-round.result c.number-round.ensures (omega arith)))
          (AreRounds-more c.args.m.now.alphabet rows c.machine-machine.ensures.valid.machine r.before r.period c.requires.before c.requires.period before.walk.keys before.row before.letters.items c.in_ok-row-2.row c.run-in-loop-machine.new.letters.items before.invariant.rounds (rw (machine, shown) at c.in_ok-row-2.ensures.behind) (rw (machine, shown) at c.in_ok-row-2.ensures.image));
    }
