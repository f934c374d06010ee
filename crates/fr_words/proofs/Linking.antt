-- The setting of a link keeps the rule.
use Rattle.std.proofs.Common.{◌≡◌, ◌≢◌, ◌⊎◌, ℕ, ◌+◌, ◌<◌, nat_lt, List, [], ◌∷◌, set, refl, sym, ap, ◌∙◌, subst, ⊎_elim, arith}
use mathlib.Core.Option.{some}
use lib.ListN.{get_elem?}
use native.Mathlib.Decide.{ℕ_discrete}
use Rattle.fr_line.specs.Lines.{only_if, below}
use Rattle.fr_layout.proofs.Spots.{field_below}
use Rattle.fr_layout.proofs.Stays.{alike_on, linked_grows, linked_own, placed_grows, written_grows}
use Rattle.fr_layout.specs.Entries.{Grows, IsLinked, IsWritten}
use Rattle.fr_layout.specs.Packs.{pack_of}
use Rattle.fr_layout.specs.Places.{cell_at, field_at, link_at}
use Rattle.fr_layout.specs.declared.plan.Block.{Block}
use Rattle.fr_layout.specs.declared.plan.Plan.{Plan}
use Rattle.fr_words.proofs.Knowing.{admits_now, complete_owned, complete_written, seen_placed}
use Rattle.fr_words.proofs.Members.{has_either, has_left}
use Rattle.fr_words.proofs.Steps.{cells_stay, fact_stays, fields_stay, one_draft_stays, others_stay, own_stays, owned_stays, step_kept, unlike_stays}
use Rattle.fr_words.specs.Asks.{MayLink}
use Rattle.fr_words.specs.Members.{Has, covers, times}
use Rattle.fr_words.specs.Notes.{fact, wrote}
use Rattle.fr_words.specs.Rule.{IsOwned, Kept, Knows}
use Rattle.fr_words.specs.declared.notes.Note.{Note}

module _ (p : Plan) (V : ℕ → ℕ) (views : List Note) (kept : Kept p V views) (id : ℕ) (v : Note) (at : get_elem? views id ≡ some v) where
  k : Knows p V v
  k = kept.each id v at

  -- a link is set
  module _ (W : ℕ → ℕ) (r : ℕ) (d : Block) (q : ℕ) (asks : MayLink p v r d q) (l : r < p.capacity) (was : V (link_at p r) ≡ 0) (now : W (link_at p r) ≡ pack_of d q) (same : (i : ℕ) → i ≢ link_at p r → W i ≡ V i) where
    pub link_kept : Kept p W (set views id (wrote v (link_at p r) (pack_of d q)))
    link_kept = step_kept p V W views kept id v w at record {
      grows = grows;
      most = let m = kept.most in omega arith;
      fresh = λ y g a b c. let h = field_below p y g b c in same (field_at p y g) (λ z. omega arith) ∙ kept.fresh y g (omega arith) b c;
      fresh_link = λ y a b. same (link_at p y) (λ z. let c = written.claimed in let i = asks.inside.1 in omega arith) ∙ kept.fresh_link y (omega arith) b;
      line = refl;
      gain = λ y. ap (λ (n : ℕ). below y n + covers y v.own) claim_same;
      others = λ j u other e. others_stay p V W views kept grows same_fields id j u other e;
      mine = record {
        planned = k.planned;
        seen = let s = k.seen in omega arith;
        facts = λ i y h. ⊎_elim (λ a. let t = k.facts i y a in (t.0, t.1, t.2, fact_stays p V W views kept grows v k i y a))
            (λ (t : ((i0 ≡ i) × (x ≡ y)) ⊎ ⊥). ⊎_elim (λ (e : (i0 ≡ i) × (x ≡ y)). let e0 = e.0 in let e1 = e.1 in (omega arith, omega arith, omega arith, ap W (sym e.0) ∙ (now ∙ e.1))) (λ z. absurd z) t)
            (has_either v.facts (fact i0 x ∷ []) i y h);
        own = λ b o. own_stays p V W views kept grows v w b more (fields_stay p V W views kept grows same_fields b (k.own b o).claimed) (k.own b o);
        one_draft = one_draft_stays p V W views kept grows v k;
        made = λ i h. let m = k.made i h in more i (W i) (subst (Has v.facts i) (sym (fact_stays p V W views kept grows v k i (V i) m)) m);
        made_cells = k.made_cells;
        joined = λ e. absurd (subst (λ (x : Note). Has x.facts (cell_at p asks.cell) (pack_of d q)) (k.joined e) asks.seen);
      };
      cells = cells_stay p V W views kept grows same_cells;
      unlike = unlike_stays p V W views kept grows same_cells;
      links = λ y m h. link_case y (ℕ_discrete y r) m h;
      more_own = λ d o. o;
      owned = owned_stays p V W views kept grows same_cells;
      filled = λ c m. ap (λ (y : ℕ). only_if (nat_lt 0 y) 1 + times (cell_at p c) v.made) (same_cells c m);
    }
      where
        i0 : ℕ
        i0 = link_at p r

        x : ℕ
        x = pack_of d q

        w : Note
        w = wrote v i0 x

        written : IsWritten p V asks.own
        written = complete_written p V views kept id v at asks.own asks.complete

        grows : Grows V W
        grows = record { claim = let e = same 0 (λ z. omega arith) in omega arith; keeps = λ i a h. same i (λ e. let z : V i ≡ 0 = ap V e ∙ was in omega arith) }

        claim_same : W 0 ≡ V 0
        claim_same = same 0 (λ z. omega arith)

        same_fields : (i : ℕ) → 0 < i → i < link_at p 0 → W i ≡ V i
        same_fields i a h = same i (λ z. omega arith)

        same_cells : (c : ℕ) → c < p.cells → W (cell_at p c) ≡ V (cell_at p c)
        same_cells c m = same (cell_at p c) (λ z. omega arith)

        more : (i y : ℕ) → Has v.facts i y → Has w.facts i y
        more i y h = has_left v.facts (fact i0 x ∷ []) i y h

        linked : IsLinked p W r
        linked =
            let placed = seen_placed p V views kept id v at asks.cell d q asks.cell_below asks.there asks.sized asks.seen in record {
              own = asks.own;
              inside = asks.inside;
              written = written_grows p V W grows asks.own written;
              cell = asks.cell;
              cell_below = asks.cell_below;
              block = d;
              row = q;
              placed = placed_grows p V W grows (cell_at p asks.cell) (omega arith) d q placed;
              names = now;
              alike = alike_on p V W grows asks.own d r q written placed.written (asks.alike V (admits_now p V views kept id v at));
            }

        link_case : (y : ℕ) → Dec (y ≡ r) → y < p.capacity → 0 < W (link_at p y) → (l : IsLinked p W y) × IsOwned views l.own
        link_case y (yes is) m h = subst (λ (n : ℕ). (l : IsLinked p W n) × IsOwned views l.own) (sym is) (linked, complete_owned p V views kept id v at asks.own asks.complete)
        link_case y (no other) m h =
            let s : W (link_at p y) ≡ V (link_at p y) = same (link_at p y) (λ z. other (omega arith)) in
            let t = kept.links y m (subst (λ (n : ℕ). 0 < n) s h) in
            (linked_grows p V W grows y t.0, subst (IsOwned views) (linked_own p V W grows y t.0) t.1)
