use Rattle.std.proofs.Common.{ℕ, arith, ap, subst, sym, ◌≡◌, ◌∙◌, ◌+◌, ◌*◌, ◌/◌, ◌<◌, List, length, take, drop}
use Rattle.std.proofs.lemmas.List.{length_push}
use Rattle.fr_model.specs.Automata.{state_at}
use Rattle.fr_model.specs.Canonical.{IsCanonical}
use Rattle.fr_canon.specs.Texts.{IsStateCode}
use Rattle.fr_canon.proofs.PrintLaws.{part_is, count_is}
use Rattle.fr_canon.proofs.CodeRowLaws.{AreRowsTold-more, told_all, next_small, few_states, IsMinimal-told}
use Rattle.fr_canon.proofs.rows.rows_of_code.Goals as goal

pub row_of_part-requires : goal.row_of_part-requires
row_of_part-requires c =
    let code = c.args.code.now in
    let is = c.requires.code.2 in
    let qs = is.states in
    let auto = is.canonical.automaton in
    let width : c.letters.result + 1 ≡ c.args.a + 1 = ap (λ d. d + 1) c.letters.ensures.value in
    let P : ℕ → Type 0 = λ w. c.loop-k.k < length c.numbers-numbers.result.now / w in
    let Q : List ℕ → Type 0 = λ ns. c.loop-k.k < length ns / (c.args.a + 1) in
    let l : c.loop-k.k < length code / (c.args.a + 1) = subst Q c.numbers-numbers.ensures.value (subst P width c.loop-k-test.true) in
    let part : IsStateCode c.args.a c.state_part.result.now (state_at qs c.loop-k.k) = part_is c.args.a qs auto code is.written c.loop-k.k l (c.letters.result + 1) c.state_part.result.now width
    (c.state_part.ensures ∙ ap (λ ns. take (c.letters.result + 1) (drop (c.loop-k.k * (c.letters.result + 1)) ns)) c.numbers-numbers.ensures.value) in
    (state_at qs c.loop-k.k, part, next_small c.args.a qs c.loop-k.k auto (omega (arith, l, count_is c.args.a qs code auto is.written)) (few_states c.args.a code qs auto is.written c.requires.few))

pub loop-k-preserved : goal.loop-k-preserved
loop-k-preserved c =
    let code = c.args.code.now in
    let width : c.letters.result + 1 ≡ c.args.a + 1 = ap (λ d. d + 1) c.letters.ensures.value in
    let P : ℕ → Type 0 = λ w. c.loop-k.k < length c.numbers-numbers.result.now / w in
    let Q : List ℕ → Type 0 = λ ns. c.loop-k.k < length ns / (c.args.a + 1) in
    let l : c.loop-k.k < length code / (c.args.a + 1) = subst Q c.numbers-numbers.ensures.value (subst P width c.loop-k-test.true) in
    record {
      told = AreRowsTold-more c.args.a code c.loop-k.out.items c.push_reserved.new.self.items c.row_of_part.result c.loop-k.k c.loop-k.invariant.told c.push_reserved.ensures.items c.row_of_part.ensures.filled (λ qs a e. (
        omega (arith, l, count_is c.args.a qs code a e),
        c.row_of_part.ensures.state (state_at qs c.loop-k.k) (part_is c.args.a qs a code e c.loop-k.k l (c.letters.result + 1) c.state_part.result.now width (c.state_part.ensures ∙ ap (λ ns. take (c.letters.result + 1) (drop (c.loop-k.k * (c.letters.result + 1)) ns)) c.numbers-numbers.ensures.value)),
      ));
      count = ap length c.push_reserved.ensures.items ∙ omega (arith, length_push c.loop-k.out.items c.row_of_part.result, c.loop-k.invariant.count);
      room = c.push_reserved.ensures.capacity ∙ c.loop-k.invariant.room;
    }

pub returns-clause-canonical : goal.returns-clause-canonical
returns-clause-canonical c = λ t is.
    let code = c.args.code.now in
    let same : length c.numbers-numbers.result.now / (c.letters.result + 1) ≡ length code / (c.args.a + 1) = ap (λ ns. length ns / (c.letters.result + 1)) c.numbers-numbers.ensures.value ∙ ap (λ d. length code / (d + 1)) c.letters.ensures.value in
    let all = told_all c.args.a code c.loop-k.out.items c.loop-k.k is.states c.loop-k.invariant.told (omega (arith, same, c.loop-k-test.false)) is.canonical.automaton is.written in
    subst (IsCanonical c.args.a t) (sym all) is.canonical

pub returns-clause-minimal : goal.returns-clause-minimal
returns-clause-minimal c =
    let code = c.args.code.now in
    let r = c.requires.code in
    let same : length c.numbers-numbers.result.now / (c.letters.result + 1) ≡ length code / (c.args.a + 1) = ap (λ ns. length ns / (c.letters.result + 1)) c.numbers-numbers.ensures.value ∙ ap (λ d. length code / (d + 1)) c.letters.ensures.value in
    IsMinimal-told c.args.a r.0 code c.loop-k.out.items c.loop-k.k (omega (arith, c.letters.ensures.value, c.letters.ensures.least)) (omega (arith, c.letters.ensures.value, c.letters.ensures.most)) r.1 r.2 c.requires.few c.loop-k.invariant.told (omega (arith, same, c.loop-k-test.false))
