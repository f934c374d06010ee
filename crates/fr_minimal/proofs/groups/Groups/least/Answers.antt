use Rattle.std.proofs.Common.{ℕ, ◌≡◌, ◌≢◌, ◌<◌, get_or, length, refl, sym, ◌∙◌, ap, subst, arith}
use Rattle.std.proofs.Math.ListN.{set, length-set}
use Rattle.std.proofs.lemmas.List.{get_or_read}
use Rattle.fr_minimal.specs.Groups.{IsRearranged}
use Rattle.fr_minimal.proofs.GroupLaws.{IsRearranged-refl, IsRearranged-trans, IsRearranged-nearer}
use Rattle.fr_minimal.proofs.groups.Groups.least.Goals as goal

pub loop-parent-init : goal.loop-parent-init
loop-parent-init c = record {
  rearranged = IsRearranged-refl c.args.self.now.parents.items;
  inside = c.requires;
  above = get_or_read c.args.self.now.parents.items c.args.row c.index-parent.result.now c.requires c.index-parent.ensures 0;
  same = λ image h. refl;
}

pub loop-parent-smaller : goal.loop-parent-smaller
loop-parent-smaller c =
    let i = c.loop-parent.invariant in
    let ps = c.loop-parent.self.parents.items in
    let up = c.loop-parent.self.sorted c.loop-parent.at i.inside in
    let inside : c.loop-parent.parent < length ps = omega (arith, up, i.above, i.inside) in
    let up' = c.loop-parent.self.sorted c.loop-parent.parent inside in
    let apart : c.loop-parent.parent ≢ c.loop-parent.at = c.loop-parent-test.true in
    omega (arith, up, up', i.above, get_or_read ps c.loop-parent.parent c.index-above.result.now inside c.index-above.ensures 0)

pub loop-parent-preserved : goal.loop-parent-preserved
loop-parent-preserved c =
    let i = c.loop-parent.invariant in
    let ps = c.loop-parent.self.parents.items in
    let at = c.loop-parent.at in
    let parent = c.loop-parent.parent in
    let above = c.index-above.result.now in
    let up = c.loop-parent.self.sorted at i.inside in
    let inside : parent < length ps = omega (arith, up, i.above, i.inside) in
    let up' = c.loop-parent.self.sorted parent inside in
    let read : above ≡ get_or ps parent 0 = get_or_read ps parent above inside c.index-above.ensures 0 in
    let apart : parent ≢ at = c.loop-parent-test.true in
    let new = set ps at above in
    let size : length new ≡ length ps = length-set ps at above in
    let within : above < length new = omega (arith, up', read, inside, size) in
    let whole : above ≡ get_or ps (get_or ps at 0) 0 = read ∙ ap (λ k. get_or ps k 0) i.above in
    let P : ℕ → Type 0 = λ v. IsRearranged ps (set ps at v) in
    let nearer = subst P (sym whole) (IsRearranged-nearer ps at i.inside c.loop-parent.self.sorted (λ e. apart (i.above ∙ e))) in
    record {
      rearranged = IsRearranged-trans c.args.self.now.parents.items ps new i.rearranged nearer;
      inside = within;
      above = get_or_read new above c.index-parent-in-loop-parent.result.now within c.index-parent-in-loop-parent.ensures 0;
      same = λ image h.
          let s = i.rearranged.shared image h in
          ap image read ∙ s parent inside ∙ ap image i.above ∙ s at i.inside ∙ i.same image h;
    }
