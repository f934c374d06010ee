-- A claim that won keeps the rule.
use Rattle.std.proofs.Common.{◌≡◌, ◌⊎◌, ℕ, ◌+◌, ◌<◌, ◌≤◌, nat_lt, List, [], ◌∷◌, set, refl, sym, ap, ◌∙◌, subst, ⊎_elim, inl, arith}
use mathlib.Core.Option.{some}
use Rattle.fr_line.proofs.Weaving.{not_live}
use lib.ListN.{get_elem?}
use Rattle.fr_line.specs.Lines.{only_if, IsLive}
use Rattle.fr_layout.specs.Entries.{Grows}
use Rattle.fr_layout.specs.Meaning.{IsFull}
use Rattle.fr_layout.specs.Places.{IsIn, cell_at, field_at, link_at}
use Rattle.fr_layout.specs.declared.plan.Block.{Block}
use Rattle.fr_layout.specs.declared.plan.Plan.{Plan}
use Rattle.fr_words.proofs.Covering.{below_block, covers_append}
use Rattle.fr_words.proofs.Members.{owns_either, owns_left}
use Rattle.fr_words.proofs.Steps.{cells_stay, fields_stay, full_grows, links_stay, others_stay, own_stays, owned_stays, step_kept, unlike_stays}
use Rattle.fr_words.specs.Asks.{IsFinished}
use Rattle.fr_words.specs.Members.{Has, Owns, times}
use Rattle.fr_words.specs.Notes.{claim_of, claimed}
use Rattle.fr_words.specs.Rule.{IsOwn, Kept, Knows}
use Rattle.fr_words.specs.declared.notes.Claim.{Claim}
use Rattle.fr_words.specs.declared.notes.Note.{Note}

module _ (p : Plan) (V : ℕ → ℕ) (views : List Note) (kept : Kept p V views) (id : ℕ) (v : Note) (at : get_elem? views id ≡ some v) where
  k : Knows p V v
  k = kept.each id v at

  -- a claim that won
  module _ (W : ℕ → ℕ) (same : (i : ℕ) → 0 < i → W i ≡ V i) (up : V 0 < W 0) (small : W 0 ≤ V 0 + 1024) (room : W 0 ≤ p.capacity) where
    pub claim_kept : IsLive v.line → IsFinished p v → Kept p W (set views id (claimed v (V 0) (W 0)))
    claim_kept live finished = step_kept p V W views kept id v (claimed v (V 0) (W 0)) at record {
      grows = grows;
      most = room;
      fresh = λ r f a b c. same (field_at p r f) (omega arith) ∙ kept.fresh r f (omega arith) b c;
      fresh_link = λ r a b. same (link_at p r) (omega arith) ∙ kept.fresh_link r (omega arith) b;
      line = refl;
      gain = λ r. let h = below_block r (V 0) (W 0) (omega arith) in let a = covers_append r v.own (claim ∷ []) in omega arith;
      others = λ j u other e. others_stay p V W views kept grows (λ i a b. same i a) id j u other e;
      mine = record {
        planned = k.planned;
        seen = omega arith;
        facts = λ i x h. let f = k.facts i x h in (f.0, f.1, f.2, same i f.0 ∙ f.3);
        own = λ b o. ⊎_elim (λ a. own_stays p V W views kept grows v w b (λ i x h. h) (fields_stay p V W views kept grows (λ i a b. same i a) b (k.own b a).claimed) (k.own b a))
            (λ (t : (block ≡ b) ⊎ ⊥). ⊎_elim (λ (e : block ≡ b). subst (IsOwn p W w) e new_block) (λ z. absurd z) t) (owns_either v.own (claim ∷ []) b o);
        one_draft = λ b d o q x y. ⊎_elim (λ a. absurd (x (old_full b a))) (λ (t : (block ≡ b) ⊎ ⊥). ⊎_elim (λ (e : block ≡ b). ⊎_elim (λ a. absurd (y (old_full d a))) (λ (t' : (block ≡ d) ⊎ ⊥). ⊎_elim (λ (e' : block ≡ d). sym e ∙ e') (λ z. absurd z) t') (owns_either v.own (claim ∷ []) d q)) (λ z. absurd z) t) (owns_either v.own (claim ∷ []) b o);
        made = λ i h. let m = k.made i h in let f = k.facts i (V i) m in subst (Has v.facts i) (sym (same i f.0)) m;
        made_cells = k.made_cells;
        joined = λ e. absurd (not_live v.line live e);
      };
      cells = cells_stay p V W views kept grows (λ c l. same (cell_at p c) (omega arith));
      unlike = unlike_stays p V W views kept grows (λ c l. same (cell_at p c) (omega arith));
      links = links_stay p V W views kept grows (λ q l. same (link_at p q) (omega arith));
      more_own = λ d o. owns_left v.own (claim ∷ []) d o;
      owned = owned_stays p V W views kept grows (λ c l. same (cell_at p c) (omega arith));
      filled = λ c l. ap (λ (x : ℕ). only_if (nat_lt 0 x) 1 + times (cell_at p c) v.made) (same (cell_at p c) (omega arith));
    }
      where
        w : Note
        w = claimed v (V 0) (W 0)

        claim : Claim
        claim = claim_of v (V 0) (W 0)

        block : Block
        block = claim.block

        grows : Grows V W
        grows = record { claim = omega arith; keeps = λ i a b. same i a }

        empty : (r f : ℕ) → IsIn r block → f ≤ p.letters → W (field_at p r f) ≡ 0
        empty r f i l = let i0 = i.0 in let i1 = i.1 in same (field_at p r f) (omega arith) ∙ kept.fresh r f i0 (omega arith) l

        old_full : (d : Block) → Owns v.own d → IsFull p W d
        old_full d o = full_grows p V W views kept grows d (λ q f i l. let n = finished d o q f i l in let y = k.facts (field_at p q f) n.0 n.1 in let y2 = y.2 in let y3 = y.3 in omega arith)

        new_block : IsOwn p W w block
        new_block = record {
          claimed = omega arith;
          sized = omega arith;
          noted = λ r f i l. inl (empty r f i l);
          good = λ r f i l lo. let e = empty r f i l in absurd (omega arith);
          reduced = λ full r q i j a. let e = empty r 0 i (omega arith) in let h = full r 0 i (omega arith) in absurd (omega arith);
        }
