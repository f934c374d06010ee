use Rattle.std.proofs.Common.{arith, ◌≡◌, ◌≢◌, ◌+◌, ◌*◌, ◌≤◌, ◌∙◌, ap, sym, true, false, [], ◌∷◌, length, take, drop}
use Rattle.std.proofs.lemmas.Bool.{eqb-true, eq-eqb}
use Rattle.fr_model.specs.Canonical.{code_of}
use Rattle.fr_machine.specs.Rows.{state_of}
use Rattle.fr_canon.proofs.ComparingLaws.{IsRead-start, IsRead-more, not-IsCode, IsCode-read, length-IsCode}
use Rattle.fr_canon.proofs.canonical.check_code.Goals as goal

pub loop-done-init : goal.loop-done-init
loop-done-init c = IsRead-start c.args.a c.args.rows.now c.requires.machine c.requires.few c.requires.unlike c.args.s c.requires.row c.begin.new.walk.keys c.args.code.now c.begin.ensures

pub loop-done-preserved : goal.loop-done-preserved
loop-done-preserved c =
    let place : c.loop-done.done * (c.letters.result + 1) ≡ c.loop-done.done * (c.args.a + 1) = ap (λ d. c.loop-done.done * (d + 1)) c.letters.ensures.value in
    IsRead-more c.args.a c.args.rows.now c.requires.machine c.requires.few c.requires.unlike c.args.s c.requires.row c.loop-done.walk c.list_row-row.new.walk c.loop-done.done c.key-key.result (c.loop-done.done * (c.letters.result + 1)) (state_of c.list_row-row.result) c.args.code.now
    c.loop-done.invariant (omega (arith, c.loop-done-test.true, c.count.ensures.value)) c.key-key.ensures.value c.list_row-row.ensures.listed place (c.has_state.ensures.0 c.if-not-has_state.false)

pub returns-then-not-has_state : goal.returns-then-not-has_state
returns-then-not-has_state c =
    let q = state_of c.list_row-row.result in
    let place : c.loop-done.done * (c.letters.result + 1) ≡ c.loop-done.done * (c.args.a + 1) = ap (λ d. c.loop-done.done * (d + 1)) c.letters.ensures.value in
    let differs : take (c.args.a + 1) (drop (c.loop-done.done * (c.letters.result + 1)) c.args.code.now) ≢ code_of (q ∷ []) = λ e. (let yes = c.has_state.ensures.1 e in let no : true ≡ false = sym yes ∙ c.if-not-has_state.true in absurd (cc)) in (
      λ h. absurd (cc),
      λ is. absurd (not-IsCode c.args.a c.args.rows.now c.requires.machine c.requires.few c.requires.unlike c.args.s c.requires.row c.loop-done.walk c.list_row-row.new.walk c.loop-done.done c.key-key.result (c.loop-done.done * (c.letters.result + 1)) q c.args.code.now c.loop-done.invariant (omega (arith, c.loop-done-test.true, c.count.ensures.value)) c.key-key.ensures.value c.list_row-row.ensures.listed place c.count-met.ensures.valid differs is),
    )

pub returns : goal.returns
returns c =
    let h = c.loop-done.invariant in
    let code = c.args.code.now in
    let all : length c.loop-done.walk.keys ≤ c.loop-done.done = omega (arith, c.loop-done-test.false, c.count.ensures.value) in
    let size : length c.numbers.result.now ≡ length code = ap length c.numbers.ensures.value in
    let place : c.loop-done.done * (c.letters.result + 1) ≡ c.loop-done.done * (c.args.a + 1) = ap (λ d. c.loop-done.done * (d + 1)) c.letters.ensures.value in (
      λ t. IsCode-read c.args.a c.args.rows.now c.requires.machine c.requires.few c.requires.unlike c.args.s c.requires.row c.loop-done.walk.keys c.loop-done.done code h c.count.ensures.valid all (sym size ∙ eqb-true _ _ t ∙ place),
      λ is. eq-eqb _ _ (size ∙ length-IsCode c.args.a c.args.rows.now c.requires.machine c.requires.few c.requires.unlike c.args.s c.requires.row c.loop-done.walk.keys c.loop-done.done code h c.count.ensures.valid all is ∙ sym place),
    )
