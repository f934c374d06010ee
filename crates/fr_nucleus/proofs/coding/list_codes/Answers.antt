use Rattle.std.proofs.Common.{ap, refl, subst, ◌∙◌, ◌+◌, ◌/◌, List, ℕ, length}
use Rattle.fr_model.specs.Canonical.{IsCode}
use Rattle.fr_machine.specs.declared.row.Row.{Row}
use Rattle.fr_machine.specs.Rows.{row_term}
use Rattle.fr_nucleus.proofs.CodingLaws.{IsListed-of, AreListed-more}
use Rattle.fr_nucleus.proofs.coding.list_codes.Goals as goal

pub loop-s-preserved : goal.loop-s-preserved
loop-s-preserved c =
    let m = c.args.m.now in
    let P : ℕ → Type 0 = λ d. IsCode d (row_term c.rows-in-loop-s.result.now c.loop-s.s) c.canon_rows.new.out in
    let Q : List Row → Type 0 = λ rows. IsCode m.alphabet (row_term rows c.loop-s.s) c.canon_rows.new.out in
    let code = subst Q c.rows-in-loop-s.ensures.value (subst P c.alphabet-in-loop-s.ensures.value c.canon_rows.ensures.code) in
    AreListed-more m.alphabet m.rows c.loop-s.listed.items c.push.new.self.items _ c.loop-s.s c.loop-s.invariant
    (IsListed-of m.alphabet m.rows c.loop-s.s _ c.canon_rows.new.out (c.letters.result + 1) refl code (c.in_ok-from_slice.ensures.items ∙ c.numbers-numbers.ensures.value) (ap (λ d. d + 1) (c.letters.ensures.value ∙ c.alphabet.ensures.value)) (ap (λ xs. length xs / (c.letters.result + 1)) c.numbers-numbers.ensures.value)) c.in_ok-push.ensures.items
