use Rattle.std.proofs.Common.{ℕ, zero, suc, ◌≡◌, ◌<◌, ◌≤◌, ◌-◌, ◌∷◌, [], ◌++◌, List, length, get_or, arith, ap, sym, ◌∙◌, refl, append_assoc, subst}
use Rattle.std.specs.List.{All, Contains}
use Rattle.fr_classes.specs.declared.predecessors.Link.{Link}
use Rattle.fr_classes.specs.Refinement.{IsSpread}
use Rattle.std.proofs.lemmas.List.Elements.{All-contains, Contains-append_right}
use Rattle.std.proofs.lemmas.List.{append-nil}
use Rattle.fr_classes.specs.Predecessors.{chain, lists_of, link_at, AreLinks}
use Rattle.fr_classes.specs.declared.predecessors.Predecessors.{Predecessors}
use Rattle.fr_classes.proofs.PredecessorLaws.{chain-suc, chain-zero}
use Rattle.fr_classes.proofs.MarkLaws.{IsSpread-more}
use Rattle.fr_classes.proofs.partition.Partition.mark_before.Goals as goal

All_middle : (P : ℕ → Type 0) (xs ys : List ℕ) (x : ℕ) → All P (xs ++ x ∷ ys) → P x
All_middle P xs ys x h = let here : Contains (x ∷ ys) x = (0, omega arith, refl) in All-contains P (xs ++ x ∷ ys) x h (Contains-append_right xs (x ∷ ys) x here)

-- the row of a link and the rows behind it
chain_link : (b : Predecessors) (number : ℕ) → AreLinks b → 0 < number → number ≤ length b.links.items
    → chain b.links.items (length b.links.items) number ≡ (link_at b.links.items (number - 1)).row ∷ chain b.links.items (length b.links.items) (link_at b.links.items (number - 1)).earlier
chain_link b zero h a l = absurd (omega arith)
chain_link b (suc e) h a l = let same : suc e - 1 ≡ e = omega arith in rw same (chain-suc b.links.items h.earlier (length b.links.items) e l)

pub mark-requires-clause-row : goal.mark-requires-clause-row
mark-requires-clause-row c =
    let b = c.args.before.now in
    let i = c.loop-number.invariant in
    let n = length c.args.self.now.of.items in
    let link = chain_link b c.loop-number.number c.requires.links c.loop-number-test.true i.most in
    let whole = ap (λ xs. i.front ++ xs) (sym link) ∙ i.whole in
    let P : List ℕ → Type 0 = λ xs. All (λ s. s < n) xs in
    let below = All_middle (λ s. s < n) i.front _ _ (subst P (sym whole) c.requires.inside) in
    omega (arith, below, ap (λ (k : Link). k.row) c.link-link.ensures.value, ap length i.spread.of)

pub loop-number-preserved : goal.loop-number-preserved
loop-number-preserved c =
    let b = c.args.before.now in
    let i = c.loop-number.invariant in
    let n = length c.args.self.now.of.items in
    let link = chain_link b c.loop-number.number c.requires.links c.loop-number-test.true i.most in
    let read : c.link-link.result ≡ link_at b.links.items (c.loop-number.number - 1) = c.link-link.ensures.value in
    let whole = ap (λ xs. i.front ++ xs) (ap (λ (k : Link). k.row ∷ chain b.links.items (length b.links.items) k.earlier) read ∙ sym link) ∙ i.whole in
    let P : List ℕ → Type 0 = λ xs. All (λ s. s < n) xs in
    let below = All_middle (λ s. s < n) i.front _ _ (subst P (sym whole) c.requires.inside) in
    record {
      front = i.front ++ c.link-link.result.row ∷ [];
      spread = IsSpread-more c.args.self.now c.loop-number.self c.mark.new.self i.front c.link-link.result.row i.spread c.in_ok-mark.ensures (omega (arith, below, ap length i.spread.of));
      whole = append_assoc i.front (c.link-link.result.row ∷ []) _ ∙ whole;
      most = omega (arith, c.link-link.ensures.earlier, i.most);
    }

pub returns : goal.returns
returns c =
    let b = c.args.before.now in
    let i = c.loop-number.invariant in
    let none : c.loop-number.number ≡ 0 = omega (arith, c.loop-number-test.false) in
    let rest = ap (chain b.links.items (length b.links.items)) none ∙ chain-zero b.links.items (length b.links.items) in
    let whole : i.front ≡ get_or (lists_of b) c.args.row [] = sym (append-nil i.front) ∙ ap (λ xs. i.front ++ xs) (sym rest) ∙ i.whole in
    let P : List ℕ → Type 0 = λ xs. IsSpread c.args.self.now c.loop-number.self xs in
    subst P whole i.spread
