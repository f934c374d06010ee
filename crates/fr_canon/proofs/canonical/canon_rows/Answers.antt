use Rattle.std.proofs.Common.{arith, ap, ◌≡◌, length}
use Rattle.fr_machine.specs.Rows.{row_term}
use Rattle.fr_model.proofs.AlikeLaws.{alike_refl, alike_sym}
use Rattle.fr_model.proofs.CodeLaws.{code-same, IsCode-alike}
use Rattle.fr_canon.specs.Walked.{row_code}
use Rattle.fr_canon.proofs.WalkedLaws.{IsCode-row_code, length-row_code}
use Rattle.fr_canon.proofs.canonical.canon_rows.Goals as goal

pub returns-clause-alike : goal.returns-clause-alike
returns-clause-alike c = λ t h. IsCode-alike c.args.a (row_term c.args.rows.now c.args.s) t c.list_code.new.out h c.list_code.ensures

pub returns-clause-only : goal.returns-clause-only
returns-clause-only c = λ t code h k. code-same c.args.a t (row_term c.args.rows.now c.args.s) code c.list_code.new.out k c.list_code.ensures (alike_sym h)

pub returns-clause-short : goal.returns-clause-short
returns-clause-short c =
    let d = c.args.a in
    let rows = c.args.rows.now in
    let t = row_term rows c.args.s in
    let code = row_code d rows c.args.s in
    let same : c.list_code.new.out ≡ code = code-same d t t c.list_code.new.out code c.list_code.ensures (IsCode-row_code d rows c.requires.machine c.requires.few c.requires.unlike c.args.s c.requires.row) (alike_refl t) in
    omega (arith, ap length same, length-row_code d rows c.requires.machine c.requires.few c.requires.unlike c.args.s c.requires.row)
