use Rattle.std.proofs.Common.{ℕ, ◌≡◌, ◌+◌, ◌∷◌, [], ◌++◌, ◌∙◌, arith, ap, set, length, get_or}
use Rattle.std.specs.Vec.{with_item}
use Rattle.std.proofs.lemmas.List.{get_or_read, length_push}
use Rattle.fr_classes.proofs.PredecessorLaws.{lists_of-added}
use Rattle.fr_classes.proofs.predecessors.Predecessors.add.Goals as goal

pub returns-clause-lists : goal.returns-clause-lists
returns-clause-lists c =
    let b = c.args.self.now in
    let read : c.index-earlier.result.now ≡ get_or b.latest.items c.args.next 0 = get_or_read b.latest.items c.args.next _ c.requires.next c.index-earlier.ensures 0 in
    let links = c.in_ok-push.ensures.items ∙ ap (λ (e : ℕ). b.links.items ++ (record { row = c.args.row; earlier = e }) ∷ []) read in
    let count : c.len.result ≡ length b.links.items + 1 = omega (arith, c.len.ensures, c.push.new.self.ok.0, ap length c.in_ok-push.ensures.items, length_push b.links.items (record { row = c.args.row; earlier = c.index-earlier.result.now })) in
    lists_of-added b (record { links = c.push.new.self; latest = with_item b.latest c.args.next c.len.result }) c.args.row c.args.next c.requires.links c.requires.next links (ap (set b.latest.items c.args.next) count)
