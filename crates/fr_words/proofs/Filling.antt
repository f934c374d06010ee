-- The filling of a field keeps the rule.
use Rattle.std.proofs.Common.{◌≡◌, ◌≢◌, ◌⊎◌, ℕ, suc, ◌+◌, ◌<◌, ◌≤◌, nat_lt, List, [], ◌∷◌, set, refl, sym, ap, ◌∙◌, subst, ⊎_elim, inl, inr, arith}
use mathlib.Core.Option.{some}
use lib.ListN.{get_elem?}
use mathlib.Core.Logic.{dite}
use native.Mathlib.Decide.{dec_le, ℕ_discrete}
use Rattle.fr_line.specs.Lines.{only_if, below}
use Rattle.fr_layout.proofs.Spots.{field_below, same_field}
use Rattle.fr_layout.specs.Entries.{Grows}
use Rattle.fr_layout.specs.Meaning.{IsGood}
use Rattle.fr_layout.specs.Places.{IsIn, cell_at, field_at, link_at}
use Rattle.fr_layout.specs.declared.plan.Block.{Block}
use Rattle.fr_layout.specs.declared.plan.Plan.{Plan}
use Rattle.fr_words.proofs.Covering.{not_another, not_others}
use Rattle.fr_words.proofs.Members.{has_either, has_left, has_right}
use Rattle.fr_words.proofs.Steps.{cells_stay, fact_stays, knows_stays, links_stay, one_draft_stays, own_stays, owned_stays, step_kept, unlike_stays}
use Rattle.fr_words.specs.Asks.{Agrees, MayFill}
use Rattle.fr_words.specs.Members.{Has, Owns, covers, times}
use Rattle.fr_words.specs.Notes.{fact, wrote}
use Rattle.fr_words.specs.Rule.{IsOwn, Kept, Knows}
use Rattle.fr_words.specs.declared.notes.Note.{Note}

module _ (p : Plan) (V : ℕ → ℕ) (views : List Note) (kept : Kept p V views) (id : ℕ) (v : Note) (at : get_elem? views id ≡ some v) where
  k : Knows p V v
  k = kept.each id v at

  -- a field is filled
  module _ (W : ℕ → ℕ) (b : Block) (r f x : ℕ) (asks : MayFill p v b r f x) (now : W (field_at p r f) ≡ x) (same : (i : ℕ) → i ≢ field_at p r f → W i ≡ V i) where
    pub fill_was : V (field_at p r f) ≡ 0
    fill_was = let o = k.own b asks.owned in ⊎_elim (λ z. z) (λ h. absurd (asks.empty (V (field_at p r f)) h)) (o.noted r f asks.inside asks.field)

    pub fill_kept : Kept p W (set views id (wrote v (field_at p r f) x))
    fill_kept = step_kept p V W views kept id v w at record {
      grows = grows;
      most = let m = kept.most in omega arith;
      fresh = λ q g a b c. same (field_at p q g) (λ e. let h = (same_field p q r g f c asks.field e).0 in let z = o.claimed in let i = asks.inside.1 in omega arith) ∙ kept.fresh q g (omega arith) b c;
      fresh_link = λ q a b. same (link_at p q) (λ e. let h = field_below p r f row_small asks.field in omega arith) ∙ kept.fresh_link q (omega arith) b;
      line = refl;
      gain = λ q. ap (λ (y : ℕ). below q y + covers q v.own) claim_same;
      others = λ j u other e. let ku = kept.each j u e in knows_stays p V W views kept grows u (λ d owns. apart d (not_others p V views kept id v at b r asks.owned asks.inside j u d other e owns)) ku;
      mine = record {
        planned = k.planned;
        seen = let s = k.seen in omega arith;
        facts = λ i y h. ⊎_elim (λ a. let t = k.facts i y a in (t.0, t.1, t.2, fact_stays p V W views kept grows v k i y a))
            (λ (t : ((i0 ≡ i) × (x ≡ y)) ⊎ ⊥). ⊎_elim (λ (e : (i0 ≡ i) × (x ≡ y)). let e0 = e.0 in let e1 = e.1 in let some_value = asks.some_value in let low = field_below p r f row_small asks.field in (omega arith, omega arith, omega arith, ap W (sym e.0) ∙ (now ∙ e.1))) (λ z. absurd z) t)
            (has_either v.facts (fact i0 x ∷ []) i y h);
        own = λ d owns. mine_in d owns (dec_in r d);
        one_draft = one_draft_stays p V W views kept grows v k;
        made = λ i h. let m = k.made i h in more i (W i) (subst (Has v.facts i) (sym (fact_stays p V W views kept grows v k i (V i) m)) m);
        made_cells = k.made_cells;
        joined = λ e. absurd (subst (λ (x : Note). Owns x.own b) (k.joined e) asks.owned);
      };
      cells = cells_stay p V W views kept grows same_cells;
      unlike = unlike_stays p V W views kept grows same_cells;
      links = links_stay p V W views kept grows (λ q l. same (link_at p q) (λ e. let h = field_below p r f row_small asks.field in omega arith));
      more_own = λ d o. o;
      owned = owned_stays p V W views kept grows same_cells;
      filled = λ c l. ap (λ (y : ℕ). only_if (nat_lt 0 y) 1 + times (cell_at p c) v.made) (same_cells c l);
    }
      where
        i0 : ℕ
        i0 = field_at p r f

        w : Note
        w = wrote v i0 x

        o : IsOwn p V v b
        o = k.own b asks.owned

        row_small : r < p.capacity
        row_small = let m = kept.most in let c = o.claimed in let i = asks.inside.1 in omega arith

        was : V i0 ≡ 0
        was = ⊎_elim (λ z. z) (λ h. absurd (asks.empty (V i0) h)) (o.noted r f asks.inside asks.field)

        grows : Grows V W
        grows = record { claim = let e = same 0 (λ z. omega arith) in omega arith; keeps = λ i a h. same i (λ e. let z : V i ≡ 0 = ap V e ∙ was in omega arith) }

        same_cells : (c : ℕ) → c < p.cells → W (cell_at p c) ≡ V (cell_at p c)
        same_cells c l = same (cell_at p c) (λ e. let h = field_below p r f row_small asks.field in omega arith)

        claim_same : W 0 ≡ V 0
        claim_same = same 0 (λ z. omega arith)

        more : (i y : ℕ) → Has v.facts i y → Has w.facts i y
        more i y h = has_left v.facts (fact i0 x ∷ []) i y h

        -- the words of a block that has not the row
        apart : (d : Block) → ¬ IsIn r d → (q g : ℕ) → IsIn q d → g ≤ p.letters → W (field_at p q g) ≡ V (field_at p q g)
        apart d out q g i l = same (field_at p q g) (λ e. out (subst (λ (y : ℕ). IsIn y d) (same_field p q r g f l asks.field e).0 i))

        dec_in : (q : ℕ) (d : Block) → Dec (IsIn q d)
        dec_in q d = go (dec_le d.start q) (dec_le (suc q) (d.start + d.size))
          where
            go : Dec (d.start ≤ q) → Dec (q < d.start + d.size) → Dec (IsIn q d)
            go (yes a) (yes c) = yes (a, c)
            go (no n) _ = no (λ i. n i.0)
            go (yes a) (no n) = no (λ i. n i.1)

        one_field : (q g : ℕ) → g ≤ p.letters → (F : ℕ → Type 0) → (field_at p q g ≡ i0 → F x) → (field_at p q g ≢ i0 → F (V (field_at p q g))) → F (W (field_at p q g))
        one_field q g l F hit miss = dite (ℕ_discrete (field_at p q g) i0) (λ e. subst F (sym (ap W e ∙ now)) (hit e)) (λ n. subst F (sym (same (field_at p q g) n)) (miss n))

        noted : (q g : ℕ) → IsIn q b → g ≤ p.letters → (W (field_at p q g) ≡ 0) ⊎ Has w.facts (field_at p q g) (W (field_at p q g))
        noted q g i l = one_field q g l (λ y. (y ≡ 0) ⊎ Has w.facts (field_at p q g) y) (λ e. inr (has_right v.facts (fact i0 x ∷ []) (field_at p q g) x (inl (sym e, refl))))
            (λ n. ⊎_elim (λ z. inl z) (λ h. inr (more (field_at p q g) (V (field_at p q g)) h)) (o.noted q g i l))

        agrees : Agrees w.facts W
        agrees i y h = ⊎_elim (λ a. fact_stays p V W views kept grows v k i y a)
            (λ (t : ((i0 ≡ i) × (x ≡ y)) ⊎ ⊥). ⊎_elim (λ (e : (i0 ≡ i) × (x ≡ y)). ap W (sym e.0) ∙ (now ∙ e.1)) (λ z. absurd z) t)
            (has_either v.facts (fact i0 x ∷ []) i y h)

        this_block : IsOwn p W w b
        this_block = record {
          claimed = let c = o.claimed in omega arith;
          sized = o.sized;
          noted = noted;
          good = λ q g i l lo. one_field q g l (λ y. 0 < y → IsGood p.letters b g y) (λ e _. let g_is = (same_field p q r g f l asks.field e).1 in subst (λ (y : ℕ). IsGood p.letters b y x) (sym g_is) asks.good) (λ n lo. o.good q g i l lo) lo;
          reduced = λ full. asks.ends (λ q g i l. ⊎_elim (λ z. absurd (let h = full q g i l in omega arith)) (λ h. (W (field_at p q g), h)) (noted q g i l)) W agrees;
        }

        mine_in : (d : Block) → Owns v.own d → Dec (IsIn r d) → IsOwn p W w d
        mine_in d owns (yes i) = subst (IsOwn p W w) (sym (not_another p V views kept id v at b r asks.owned asks.inside d owns i)) this_block
        mine_in d owns (no out) = own_stays p V W views kept grows v w d more (apart d out) (k.own d owns)
