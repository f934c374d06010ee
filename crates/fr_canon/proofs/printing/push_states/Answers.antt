use Rattle.std.proofs.Common.{ℕ, arith, ap, subst, ◌≡◌, ◌<◌, ◌+◌, ◌/◌, length}
use Rattle.fr_model.specs.Automata.{state_at}
use Rattle.fr_alphabet.proofs.CycleTexts.{Keeps-trans}
use Rattle.fr_canon.proofs.PrintLaws.{part_is, printed_more, printed_all}
use Rattle.fr_canon.proofs.printing.push_states.Goals as goal

pub push_state-requires : goal.push_state-requires
push_state-requires c =
    let code = c.requires.code in
    let width : c.letters.result + 1 ≡ c.args.a + 1 = ap (λ d. d + 1) c.letters.ensures.value in
    let P : ℕ → Type 0 = λ w. c.loop-k.k < length c.args.numbers.now / w in
    (state_at code.0 c.loop-k.k, part_is c.args.a code.0 code.1 c.args.numbers.now code.2 c.loop-k.k (subst P width c.loop-k-test.true) (c.letters.result + 1) c.state_part.result.now width c.state_part.ensures)

pub loop-k-preserved : goal.loop-k-preserved
loop-k-preserved c =
    let width : c.letters.result + 1 ≡ c.args.a + 1 = ap (λ d. d + 1) c.letters.ensures.value in
    let P : ℕ → Type 0 = λ w. c.loop-k.k < length c.args.numbers.now / w in
    let l = subst P width c.loop-k-test.true in
    record {
      kept = Keeps-trans _ _ _ c.loop-k.invariant.kept (record { kept = c.push_state.ensures.kept });
      text = λ qs a e. printed_more c.args.a qs a c.args.numbers.now e c.loop-k.k l c.args.out.now.items c.loop-k.out.items c.push_state.new.out.items (c.loop-k.invariant.text qs a e)
          (c.in_ok-push_state.ensures.ok (state_at qs c.loop-k.k) (part_is c.args.a qs a c.args.numbers.now e c.loop-k.k l (c.letters.result + 1) c.state_part.result.now width c.state_part.ensures));
    }

pub returns-clause-ok : goal.returns-clause-ok
returns-clause-ok c = λ qs a e.
    let l : length c.args.numbers.now / (c.letters.result + 1) ≡ length c.args.numbers.now / (c.args.a + 1) = ap (λ d. length c.args.numbers.now / (d + 1)) c.letters.ensures.value in
    printed_all c.args.a qs c.args.numbers.now c.loop-k.k c.args.out.now.items c.loop-k.out.items a e (omega (arith, l, c.loop-k-test.false, c.loop-k.auto.k-end)) (c.loop-k.invariant.text qs a e)
