use Rattle.std.proofs.Common.{ℕ, ◌≡◌, ◌+◌, ◌∷◌, [], ◌++◌, ◌∙◌, arith, ap, set, length, get_or}
use Rattle.std.proofs.lemmas.List.{get_or_default, length_push}
use Rattle.fr_growth.proofs.edges.Edges.add.Goals as goal

pub returns : goal.returns
returns c =
    let read : c.index-earlier.result.now ≡ get_or c.args.self.now.latest.items c.args.target 0 = c.index-earlier.ensures ∙ get_or_default c.args.self.now.latest.items c.args.target c.index-earlier.result.now 0 c.requires in
    let count : c.len.result ≡ length c.args.self.now.list.items + 1 = omega (arith, c.len.ensures, c.push.new.self.ok.0, ap length c.in_ok-push.ensures.items, length_push c.args.self.now.list.items (record { row = c.args.row; letter = c.args.letter; earlier = c.index-earlier.result.now })) in (
      c.in_ok-push.ensures.items ∙ ap (λ (e : ℕ). c.args.self.now.list.items ++ (record { row = c.args.row; letter = c.args.letter; earlier = e }) ∷ []) read,
      ap (set c.args.self.now.latest.items c.args.target) count,
    )
