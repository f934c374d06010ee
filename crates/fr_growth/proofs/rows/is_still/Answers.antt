use Rattle.std.proofs.Common.{rules, arith, ◌≡◌, ◌+◌, ℕ, IsTrue, true, false, subst, sym, ◌∙◌, ap}
use Rattle.fr_model.specs.Words.{IsLetter}
use Rattle.fr_model.specs.Terms.{Term, One, IsAlike}
use Rattle.fr_machine.specs.Machine.{MachineView}
use Rattle.fr_machine.specs.Rows.{row_term}
use Rattle.fr_growth.proofs.StillLaws.{StaysTo, still_from, still_image, still_next}
use Rattle.fr_growth.proofs.rows.is_still.Goals as goal
use Rattle.fr_growth.proofs.rows.is_still.Goals.{then-output-x-via-then-output-x, then-output-x-via-else-output-x+then-next-s}

never : (t : Term) → ¬ IsAlike t One → (IsTrue false → IsAlike t One) × (IsAlike t One → IsTrue false)
never t n = (λ h. absurd (let e : true ≡ false = sym h in cc), λ h. absurd (n h))

always : (t : Term) → IsAlike t One → (IsTrue true → IsAlike t One) × (IsAlike t One → IsTrue true)
always t h = (λ _. h, λ _. search rules)

pub returns-then-output-x : goal.returns-then-output-x
returns-then-output-x c =
    let m = c.machine-machine.ensures.valid in
    let d = c.args.m.now.alphabet in
    let rows = c.args.m.now.rows in
    let letters : c.letters-x-end.result ≡ d = c.letters-x-end.ensures.value ∙ c.alphabet.ensures.value ∙ ap (λ (v : MachineView). v.alphabet) c.machine-machine.ensures.value in
    let l : IsLetter d (c.loop-x.x + 1) = (omega arith, omega arith) in
    never (row_term rows c.args.s) (λ h.
    elim c.then-output-x.branch [
      | then-output-x-via-then-output-x w ↦ w.if-output-x.true ((rw c.machine-machine.ensures.value at c.output.ensures.value) ∙ still_image d rows m c.args.s c.requires h (c.loop-x.x + 1) l)
      | then-output-x-via-else-output-x+then-next-s w ↦ w.if-next-s.true ((rw c.machine-machine.ensures.value at w.next.ensures.value) ∙ still_next d rows m c.args.s c.requires h (c.loop-x.x + 1) l)
    ])

pub returns : goal.returns
returns c =
    let m = c.machine-machine.ensures.valid in
    let d = c.args.m.now.alphabet in
    let rows = c.args.m.now.rows in
    let letters : c.letters-x-end.result ≡ d = c.letters-x-end.ensures.value ∙ c.alphabet.ensures.value ∙ ap (λ (v : MachineView). v.alphabet) c.machine-machine.ensures.value in
    let P : ℕ → Type 0 = λ k. StaysTo k rows c.args.s in
    always (row_term rows c.args.s) (still_from d rows m c.args.s c.requires (subst P (omega arith) c.loop-x.invariant))
