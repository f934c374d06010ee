use Rattle.std.proofs.Common.{ℕ, ◌≡◌, ◌∙◌, sym, ap, subst, List}
use Rattle.fr_machine.specs.declared.row.Row.{Row}
use Rattle.fr_machine.specs.Rows.{row_term}
use Rattle.fr_model.specs.Canonical.{IsCode}
use Rattle.fr_canon.proofs.ListingLaws.{code_tells}
use Rattle.fr_canon.proofs.canonical.alike.Goals as goal

pub returns : goal.returns
returns c =
    let a = c.args.a.now in
    let b = c.args.b.now in
    let ra : c.rows.result.now ≡ a.rows = c.rows.ensures.value ∙ ap (λ m. m.rows) c.machine-a.ensures.value in
    let rb : c.rows-2.result.now ≡ b.rows = c.rows-2.ensures.value ∙ ap (λ m. m.rows) c.machine-b.ensures.value in
    let da : c.alphabet.result ≡ a.alphabet = c.alphabet.ensures.value ∙ ap (λ m. m.alphabet) c.machine-a.ensures.value in
    let db : c.alphabet-2.result ≡ b.alphabet = c.alphabet-2.ensures.value ∙ ap (λ m. m.alphabet) c.machine-b.ensures.value in
    let code = c.list_code.new.out in
    let P : List Row → Type 0 = λ rs. IsCode c.alphabet.result (row_term rs c.args.s) code in
    let Q : ℕ → Type 0 = λ d. IsCode d (row_term a.rows c.args.s) code in
    let P' : List Row → Type 0 = λ rs. IsCode c.alphabet-2.result (row_term rs c.args.t) code in
    let Q' : ℕ → Type 0 = λ d. IsCode d (row_term b.rows c.args.t) code in
    let first = subst Q da (subst P ra c.list_code.ensures) in
    let tell = code_tells a.alphabet b.alphabet a.rows b.rows c.args.s c.args.t code c.requires.alphabet c.machine-a.ensures.valid.machine c.machine-b.ensures.valid.machine c.requires.first c.requires.second first in
    (λ h. tell.0 (subst Q' db (subst P' rb (c.check_code.ensures.0 h))), λ h. c.check_code.ensures.1 (subst P' (sym rb) (subst Q' (sym db) (tell.1 h))))
