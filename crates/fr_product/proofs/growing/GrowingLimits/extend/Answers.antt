use Rattle.std.proofs.Common.{ℕ, ◌≡◌, ◌≢◌, length, sym, subst, arith}
use Rattle.fr_machine.specs.Rows.{states_of}
use Rattle.fr_product.specs.Spreading.{AreClosed}
use Rattle.fr_product.proofs.SpreadLaws.{IsSpreading-extended}
use Rattle.fr_product.proofs.AloneLaws.{AreClosed-old}
use Rattle.fr_product.proofs.growing.GrowingLimits.extend.Goals as goal

pub alone-requires-clause-closed : goal.alone-requires-clause-closed
alone-requires-clause-closed c =
    let m = c.args.m.now in
    let q = c.requires in
    let e : c.len-first.result ≡ length q.0 = omega (arith, c.len-first.ensures, c.args.self.now.marks.ok.0, q.1.limits.count) in
    let P : ℕ → Type 0 = λ first. AreClosed m.alphabet first (states_of m.rows) in
    subst P (sym e) (AreClosed-old m.alphabet q.0 m.rows c.rows-rows.ensures.valid q.1.valid q.2)

pub spread-requires : goal.spread-requires
spread-requires c =
    let m = c.args.m.now in
    let q = c.requires in
    let e : c.len-first.result ≡ length q.0 = omega (arith, c.len-first.ensures, c.args.self.now.marks.ok.0, q.1.limits.count) in
    let some : c.len-first.result ≢ 0 = c.if-first-eq0.false in
    IsSpreading-extended m.alphabet c.in_ok-alone.field-0.alphabet c.len-first.result q.0 m.rows c.in_ok-alone.field-0.rows c.rows-rows.ensures.valid q.1.valid q.2 e (omega arith) c.in_ok-alone.ensures.alphabet c.in_ok-alone.ensures.rows
    c.args.self.now.marks.items c.in_ok-new_marks.new_marks.items c.deref.result.now c.extend_from_slice.new.self.items q.1.limits c.in_ok-new_marks.ensures.limits c.deref.ensures.value c.in_ok-extend_from_slice.ensures.items
