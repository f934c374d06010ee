use Rattle.std.proofs.Common.{ℕ, ◌≡◌, ◌<◌, ◌+◌, inl, inr, List, length, take, set, get_or, arith, ap, ◌∙◌, subst}
use Rattle.std.specs.List.{All}
use Rattle.std.proofs.lemmas.Bool.{cases_eq}
use Rattle.std.proofs.lemmas.List.{take_more, take_all, length-set, get_or-set_same, get_or-set_other}
use Rattle.std.proofs.lemmas.List.Elements.{All-get_or, All-push, All-weaker}
use Rattle.fr_classes.proofs.members.Members.follow.Goals as goal

-- one row more has its class
follow_more : (now now' of moved : List ℕ) (i : ℕ) → i < length moved → get_or moved i 0 < length now → now' ≡ set now (get_or moved i 0) (get_or of (get_or moved i 0) 0)
    → All (λ s. get_or now s 0 ≡ get_or of s 0) (take i moved) → All (λ s. get_or now' s 0 ≡ get_or of s 0) (take (i + 1) moved)
follow_more now now' of moved i l row e h =
    let m = get_or moved i 0 in
    let here : get_or now' m 0 ≡ get_or of m 0 = ap (λ xs. get_or xs m 0) e ∙ get_or-set_same now m (get_or of m 0) 0 row in
    let keeps : (s : ℕ) → get_or now s 0 ≡ get_or of s 0 → get_or now' s 0 ≡ get_or of s 0 = λ s f. elim (cases_eq s m) [
      | inl g ↦ rw g here
      | inr n ↦ ap (λ xs. get_or xs s 0) e ∙ get_or-set_other now m s (get_or of m 0) 0 n ∙ f
    ] in
    rw (take_more moved i 0 l) (All-push (λ s. get_or now' s 0 ≡ get_or of s 0) (take i moved) m (All-weaker (λ s. get_or now s 0 ≡ get_or of s 0) (λ s. get_or now' s 0 ≡ get_or of s 0) keeps (take i moved) h) here)

pub loop-row-preserved : goal.loop-row-preserved
loop-row-preserved c =
    let n = length c.args.self.now.of.items in
    let i = c.loop-row.row-index in
    let below = All-get_or (λ s. s < n) c.args.moved.now i 0 c.loop-row-test.true c.requires.moved in
    record {
      members = c.move_to.ensures.members;
      count = ap length c.move_to.ensures.of ∙ length-set c.loop-row.self.of.items _ _ ∙ c.loop-row.invariant.count;
      moved = follow_more c.loop-row.self.of.items c.move_to.new.self.of.items c.args.of.now c.args.moved.now i c.loop-row-test.true (omega (arith, below, c.loop-row.invariant.count)) c.move_to.ensures.of c.loop-row.invariant.moved;
    }

pub returns-clause-moved : goal.returns-clause-moved
returns-clause-moved c = let P : List ℕ → Type 0 = λ xs. All (λ s. get_or c.loop-row.self.of.items s 0 ≡ get_or c.args.of.now s 0) xs in subst P (take_all c.loop-row.row-index c.args.moved.now c.loop-row-test.false) c.loop-row.invariant.moved
