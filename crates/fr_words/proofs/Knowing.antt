-- What is right of the words that a hand noted.
use Rattle.std.proofs.Common.{◌≡◌, ◌⊎◌, ℕ, ◌<◌, ◌≤◌, List, sym, ◌∙◌, subst, ⊎_elim, arith}
use mathlib.Core.Option.{some}
use lib.ListN.{get_elem?}
use Rattle.fr_layout.proofs.Numbers.{one_row}
use Rattle.fr_layout.specs.Entries.{IsPlaced, IsWritten}
use Rattle.fr_layout.specs.Meaning.{IsFull}
use Rattle.fr_layout.specs.Packs.{pack_of}
use Rattle.fr_layout.specs.Places.{IsIn, cell_at, field_at, link_at}
use Rattle.fr_layout.specs.declared.plan.Block.{Block}
use Rattle.fr_layout.specs.declared.plan.Plan.{Plan}
use Rattle.fr_words.specs.Asks.{Admits, Agrees, IsComplete, IsNoted, SawCell, SawLink}
use Rattle.fr_words.specs.Members.{Has, Owns}
use Rattle.fr_words.specs.Rule.{IsOwned, Kept, Knows}
use Rattle.fr_words.specs.declared.notes.Fact.{Fact}
use Rattle.fr_words.specs.declared.notes.Note.{Note}

pub admitted_agrees : (p : Plan) (facts : List Fact) (Y : ℕ → ℕ) → Admits p facts Y → Agrees facts Y
admitted_agrees p facts Y a i x h = ((a.3.0.each a.1 a.2 a.3.1).facts i x (a.4 i x h)).3

module _ (p : Plan) (V : ℕ → ℕ) (views : List Note) (kept : Kept p V views) (id : ℕ) (v : Note) (at : get_elem? views id ≡ some v) where
  k : Knows p V v
  k = kept.each id v at

  pub agrees_now : Agrees v.facts V
  agrees_now i x h = (k.facts i x h).3

  pub admits_now : Admits p v.facts V
  admits_now = (views, id, v, (kept, at), (λ i x h. h))

  -- the row of a full cell that the hand saw
  pub seen_placed : (c : ℕ) (d : Block) (q : ℕ) → c < p.cells → IsIn q d → d.size ≤ 1024 → Has v.facts (cell_at p c) (pack_of d q) → IsPlaced p V (cell_at p c) d q
  seen_placed c d q l i small h =
      let f = k.facts (cell_at p c) (pack_of d q) h in
      let s = kept.cells c l (subst (λ (y : ℕ). 0 < y) (sym f.3) f.2) in
      let e = one_row s.0 d s.1 q s.2.inside i s.2.written.sized small (sym s.2.names ∙ f.3) in
      subst (λ (y : Block × ℕ). IsPlaced p V (cell_at p c) y.0 y.1) (λ j. (e.0 j, e.1 j)) s.2

  -- the cell of the row that a link names, where the hand saw the link
  pub link_placed : (r : ℕ) (d : Block) (q : ℕ) → r < p.capacity → IsIn q d → d.size ≤ 1024 → Has v.facts (link_at p r) (pack_of d q) → (c : ℕ) × (c < p.cells) × IsPlaced p V (cell_at p c) d q
  link_placed r d q small j size has =
      let f = k.facts (link_at p r) (pack_of d q) has in
      let l = (kept.links r small (subst (λ (y : ℕ). 0 < y) (sym f.3) f.2)).0 in
      let e = one_row l.block d l.row q l.placed.inside j l.placed.written.sized size (sym l.names ∙ f.3) in
      (l.cell, l.cell_below, subst (λ (y : Block × ℕ). IsPlaced p V (cell_at p l.cell) y.0 y.1) (λ j. (e.0 j, e.1 j)) l.placed)

  -- where each field of a block of the hand is noted, it is written
  pub noted_written : (b : Block) → Owns v.own b → IsNoted p v.facts b → IsWritten p V b
  noted_written b owns noted =
      let o = k.own b owns in
      let full : IsFull p V b = λ q g i l. let n = noted q g i l in let y = k.facts (field_at p q g) n.0 n.1 in let y2 = y.2 in let y3 = y.3 in omega arith in record {
        claimed = o.claimed;
        sized = o.sized;
        full = full;
        good = λ q g i l. o.good q g i l (full q g i l);
        reduced = o.reduced full;
      }

  -- a block that the hand knows to be complete
  pub complete_written : (b : Block) → IsComplete p v b → IsWritten p V b
  complete_written b c = ⊎_elim (λ (t : Owns v.own b × IsNoted p v.facts b). noted_written b t.0 t.1)
      (λ (u : SawCell p v b ⊎ SawLink p v b). ⊎_elim (λ (t : SawCell p v b). (seen_placed t.0 b t.1 t.2 t.3 t.4 t.5).written)
      (λ (t : SawLink p v b). (link_placed t.0 b t.1 t.2 t.3 t.4 t.5).2.written) u) c

  pub complete_owned : (b : Block) → IsComplete p v b → IsOwned views b
  complete_owned b c = ⊎_elim (λ (t : Owns v.own b × IsNoted p v.facts b). (id, v, at, t.0))
      (λ (u : SawCell p v b ⊎ SawLink p v b). ⊎_elim (λ (t : SawCell p v b). kept.owned t.0 t.2 b t.1 (seen_placed t.0 b t.1 t.2 t.3 t.4 t.5))
      (λ (t : SawLink p v b). let l = link_placed t.0 b t.1 t.2 t.3 t.4 t.5 in kept.owned l.0 l.1 b t.1 l.2) u) c
