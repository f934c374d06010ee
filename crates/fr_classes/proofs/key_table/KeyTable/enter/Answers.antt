use Rattle.std.proofs.Common.{ℕ, ◌≡◌, ◌+◌, ◌∷◌, [], ◌++◌, ◌∙◌, arith, ap, set, length, get_or}
use Rattle.std.specs.Vec.{with_item}
use Rattle.std.proofs.lemmas.List.{get_or_read, length_push}
use Rattle.fr_classes.proofs.KeyTableLaws.{entered}
use Rattle.fr_classes.proofs.key_table.KeyTable.enter.Goals as goal

pub returns : goal.returns
returns c =
    let t = c.args.self.now in
    let b = c.bucket-bucket.result in
    let read : c.index.result.now ≡ get_or t.latest.items b 0 = get_or_read t.latest.items b _ c.bucket-bucket.ensures.bucket c.index.ensures 0 in
    let entries = c.in_ok-push.ensures.items ∙ ap (λ (e : ℕ). t.entries.items ++ (record { key = c.args.key.now; number = c.args.number; earlier = e }) ∷ []) read in
    let count : c.len.result ≡ length t.entries.items + 1 = omega (arith, c.len.ensures, c.push.new.self.ok.0, ap length c.in_ok-push.ensures.items, length_push t.entries.items (record { key = c.args.key.now; number = c.args.number; earlier = c.index.result.now })) in
    let e = entered t (record { entries = c.push.new.self; latest = with_item t.latest b c.len.result }) c.args.key.now c.args.number b c.requires.table c.bucket-bucket.ensures.value c.bucket-bucket.ensures.bucket entries (ap (set t.latest.items b) count) in
    record { table = e.0; entered = e.1 }
