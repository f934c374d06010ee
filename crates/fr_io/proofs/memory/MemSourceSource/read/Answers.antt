use Rattle.std.proofs.Common.{◌≡◌, ◌≤◌, ◌-◌, ◌∙◌, min, sym, take, drop, length, ap, arith, rules}
use Rattle.std.proofs.lemmas.List.{take-take, length-take, length-drop}
use Rattle.fr_io.proofs.Joins.{copied, copied_none}
use Rattle.fr_io.proofs.memory.MemSourceSource.read.Goals as goal

pub returns-clause-bytes : goal.returns-clause-bytes
returns-clause-bytes c =
    let at = c.self.inside.at in let items = c.self.inside.bytes.items in let n = c.min-count.result in let buf = c.args.buf.now in
    let whole : length c.self.inside.bytes.items ≡ c.self.inside.bytes.len = search rules in
    let fits : n ≤ length items - at = search rules in
    let room : n ≤ length buf = search rules in
    let least : n ≡ min (min (length items - at) (length buf)) c.self.inside.piece = search rules in
    let after = rw c.deref-2.ensures.value at c.copy_from_slice.ensures.after in
    let front : c.copy_from_slice.new.self ≡ take n (drop at items) = after ∙ take-take n (length items - at) (drop at items) fits in
    let long : length c.copy_from_slice.new.self ≡ n = ap length front ∙ simp (length-take, length-drop) (omega arith) in (
      ap (λ v. v.left) (sym c.self.view_is) ∙ copied items (drop n buf) at n c.copy_from_slice.new.self front long,
      copied_none items buf at n c.copy_from_slice.new.self long room (λ none some. omega (arith, least, none, some, c.self.invariant.1)),
    )
