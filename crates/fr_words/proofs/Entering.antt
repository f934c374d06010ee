-- A row that is put into an empty cell keeps the rule: no other cell has a row that acts alike.
use Rattle.std.proofs.Common.{◌≡◌, ◌≢◌, ◌⊎◌, ℕ, suc, ◌+◌, ◌<◌, nat_lt, nat_eq, Bool, eq-eqb, ne_eqb, List, [], ◌∷◌, set, refl, sym, ap, ◌∙◌, subst, ⊎_elim, inl, arith}
use mathlib.Core.Option.{some}
use Rattle.fr_line.proofs.Weaving.{not_live}
use lib.ListN.{get_elem?}
use mathlib.Core.Logic.{dite}
use native.Mathlib.Decide.{dec_le, ℕ_discrete}
use Rattle.fr_line.specs.Lines.{only_if, below, IsLive}
use Rattle.std.proofs.Math.Nat.{lt_of_not-le}
use Rattle.fr_model.specs.Terms.{Term}
use Rattle.fr_model.specs.Canonical.{IsCode}
use Rattle.fr_model.proofs.AlikeLaws.{alike_sym}
use Rattle.fr_model.proofs.CodeLaws.{code-same}
use Rattle.fr_canon.specs.Codes.{home_of}
use Rattle.fr_layout.proofs.Numbers.{one_row}
use Rattle.fr_layout.proofs.Spots.{field_below}
use Rattle.fr_layout.proofs.Stays.{alike_grows, meaning_stays, placed_grows, written_grows}
use Rattle.fr_layout.specs.Entries.{Grows, IsPlaced, IsWritten}
use Rattle.fr_layout.specs.Meaning.{SameMeaning, row_meaning}
use Rattle.fr_layout.specs.Packs.{pack_of}
use Rattle.fr_layout.specs.Places.{cell_at, field_at, link_at, on_walk}
use Rattle.fr_layout.specs.declared.plan.Block.{Block}
use Rattle.fr_layout.specs.declared.plan.Plan.{Plan}
use Rattle.fr_words.proofs.Covering.{times_append}
use Rattle.fr_words.proofs.Knowing.{admits_now, agrees_now, complete_owned, complete_written}
use Rattle.fr_words.proofs.Members.{has_either, has_left, has_right}
use Rattle.fr_words.proofs.Steps.{fact_stays, fields_stay, links_stay, one_draft_stays, others_stay, own_stays, placed_before, step_kept, unlike_before}
use Rattle.fr_words.specs.Asks.{MayEnter}
use Rattle.fr_words.specs.Members.{Has, covers, times}
use Rattle.fr_words.specs.Notes.{entered, fact}
use Rattle.fr_words.specs.Rule.{IsOwned, Kept, Knows}
use Rattle.fr_words.specs.declared.notes.Note.{Note}

full_one : (y : ℕ) → 0 < y → only_if (nat_lt 0 y) 1 ≡ 1
full_one y h = grind arith

module _ (p : Plan) (V : ℕ → ℕ) (views : List Note) (kept : Kept p V views) (id : ℕ) (v : Note) (at : get_elem? views id ≡ some v) where
  k : Knows p V v
  k = kept.each id v at

  -- a row is put into an empty cell
  module _ (W : ℕ → ℕ) (b : Block) (r c : ℕ) (asks : MayEnter p v b r c) (l : c < p.cells) (was : V (cell_at p c) ≡ 0) (now : W (cell_at p c) ≡ pack_of b r) (same : (i : ℕ) → i ≢ cell_at p c → W i ≡ V i) where
    pub enter_kept : IsLive v.line → Kept p W (set views id (entered v (cell_at p c) (pack_of b r)))
    enter_kept live = step_kept p V W views kept id v w at record {
      grows = grows;
      most = let m = kept.most in omega arith;
      fresh = λ q g a d e. let h = field_below p q g d e in same (field_at p q g) (λ z. omega arith) ∙ kept.fresh q g (omega arith) d e;
      fresh_link = λ q a d. same (link_at p q) (λ z. omega arith) ∙ kept.fresh_link q (omega arith) d;
      line = refl;
      gain = λ q. ap (λ (y : ℕ). below q y + covers q v.own) claim_same;
      others = λ j u other e. others_stay p V W views kept grows same_fields id j u other e;
      mine = record {
        planned = k.planned;
        seen = let s = k.seen in omega arith;
        facts = λ i y h. ⊎_elim (λ a. let t = k.facts i y a in (t.0, t.1, t.2, fact_stays p V W views kept grows v k i y a))
            (λ (t : ((i0 ≡ i) × (x ≡ y)) ⊎ ⊥). ⊎_elim (λ (e : (i0 ≡ i) × (x ≡ y)). let e0 = e.0 in let e1 = e.1 in (omega arith, omega arith, omega arith, ap W (sym e.0) ∙ (now ∙ e.1))) (λ z. absurd z) t)
            (has_either v.facts (fact i0 x ∷ []) i y h);
        own = λ d o. own_stays p V W views kept grows v w d more (fields_stay p V W views kept grows same_fields d (k.own d o).claimed) (k.own d o);
        one_draft = one_draft_stays p V W views kept grows v k;
        made = made_noted;
        made_cells = made_at;
        joined = λ e. absurd (not_live v.line live e);
      };
      cells = λ e m h. cell_case e (ℕ_discrete e c) m h;
      unlike = λ e1 e2 d1 d2 q1 q2 m1 m2 h1 h2 a. unlike_case e1 e2 d1 d2 q1 q2 m1 m2 (ℕ_discrete e1 c) (ℕ_discrete e2 c) h1 h2 a;
      links = links_stay p V W views kept grows (λ q d. same (link_at p q) (λ z. omega arith));
      more_own = λ d o. o;
      owned = λ e m d q h. dite (ℕ_discrete e c) (λ is. subst (IsOwned views) (is_new e d q is h).0 (complete_owned p V views kept id v at b asks.complete)) (λ no. kept.owned e m d q (placed_before p V W views kept grows e m (full_before e d q no h) d q h));
      filled = λ e m. filled_case e (ℕ_discrete e c) m;
    }
      where
        i0 : ℕ
        i0 = cell_at p c

        x : ℕ
        x = pack_of b r

        w : Note
        w = entered v i0 x

        grows : Grows V W
        grows = record { claim = let e = same 0 (λ z. omega arith) in omega arith; keeps = λ i a h. same i (λ e. let z : V i ≡ 0 = ap V e ∙ was in omega arith) }

        claim_same : W 0 ≡ V 0
        claim_same = same 0 (λ z. omega arith)

        same_fields : (i : ℕ) → 0 < i → i < link_at p 0 → W i ≡ V i
        same_fields i a h = same i (λ z. omega arith)

        more : (i y : ℕ) → Has v.facts i y → Has w.facts i y
        more i y h = has_left v.facts (fact i0 x ∷ []) i y h

        written : IsWritten p V b
        written = complete_written p V views kept id v at b asks.complete

        home_is : ℕ
        home_is = home_of asks.code p.cells

        spot : ℕ → ℕ
        spot j = on_walk p home_is j

        placed : IsPlaced p W i0 b r
        placed = record {
          names = now;
          inside = asks.inside;
          written = written_grows p V W grows b written;
          code = asks.code;
          coded = subst (λ (t : Term). IsCode p.letters t asks.code) (sym (meaning_stays p V W grows b written r)) (asks.coded V (admits_now p V views kept id v at));
          distance = asks.distance;
          place = ap (cell_at p) asks.place;
          before = λ j h. let t = asks.before j h in let f = k.facts (spot j) (pack_of t.0 t.1) t.2 in
              let at_spot : W (spot j) ≡ pack_of t.0 t.1 = fact_stays p V W views kept grows v k (spot j) (pack_of t.0 t.1) t.2 in
              subst (λ (y : ℕ). 0 < y) (sym at_spot) f.2;
        }

        cell_case : (e : ℕ) → Dec (e ≡ c) → e < p.cells → 0 < W (cell_at p e) → (d : Block) × (q : ℕ) × IsPlaced p W (cell_at p e) d q
        cell_case e (yes is) m h = (b, r, subst (λ (y : ℕ). IsPlaced p W (cell_at p y) b r) (sym is) placed)
        cell_case e (no other) m h =
            let s : W (cell_at p e) ≡ V (cell_at p e) = same (cell_at p e) (λ z. other (omega arith)) in
            let t = kept.cells e m (subst (λ (y : ℕ). 0 < y) s h) in
            (t.0, t.1, placed_grows p V W grows (cell_at p e) (omega arith) t.0 t.1 t.2)

        -- no other cell has a row alike
        no_other : (e : ℕ) (d : Block) (q : ℕ) → IsPlaced p V (cell_at p e) d q → SameMeaning p V b r d q → ⊥
        no_other e d q h a = go (dec_le (suc h.distance) asks.distance) (dec_le (suc asks.distance) h.distance)
          where
            one_home : home_of h.code p.cells ≡ home_is
            one_home = ap (λ (c : List ℕ). home_of c p.cells) (sym (code-same p.letters (row_meaning p V b r) (row_meaning p V d q) asks.code h.code (asks.coded V (admits_now p V views kept id v at)) h.coded a))

            here : cell_at p e ≡ spot h.distance
            here = h.place ∙ ap (λ (y : ℕ). on_walk p y h.distance) one_home

            at_mine : i0 ≡ spot asks.distance
            at_mine = ap (cell_at p) asks.place

            go : Dec (h.distance < asks.distance) → Dec (asks.distance < h.distance) → ⊥
            go (yes early) _ =
                let t = asks.before h.distance early in
                let there : V (spot h.distance) ≡ pack_of t.0 t.1 = (agrees_now p V views kept id v at) (spot h.distance) (pack_of t.0 t.1) t.2 in
                let z = one_row t.0 d t.1 q t.3 h.inside t.4 h.written.sized (sym there ∙ (ap V (sym here) ∙ h.names)) in
                t.5 V (admits_now p V views kept id v at) (subst (λ (y : Block × ℕ). SameMeaning p V b r y.0 y.1) (λ j. (sym z.0 j, sym z.1 j)) a)
            go (no _) (yes late) =
                let full : 0 < V (on_walk p (home_of h.code p.cells) asks.distance) = h.before asks.distance late in
                let there : V (on_walk p (home_of h.code p.cells) asks.distance) ≡ V i0 = ap (λ (y : ℕ). V (on_walk p y asks.distance)) one_home ∙ ap V (sym at_mine) in
                omega arith
            go (no n) (no m) =
                let u = lt_of_not-le n in let u' = lt_of_not-le m in
                let one : h.distance ≡ asks.distance = omega arith in
                let there : V (cell_at p e) ≡ V i0 = ap V here ∙ (ap (λ (y : ℕ). V (spot y)) one ∙ ap V (sym at_mine)) in
                let name = h.names in omega arith

        -- the new cell has the row r of b
        is_new : (e : ℕ) (d : Block) (q : ℕ) → e ≡ c → IsPlaced p W (cell_at p e) d q → (b ≡ d) × (r ≡ q)
        is_new e d q is h = one_row b d r q asks.inside h.inside written.sized h.written.sized (sym now ∙ (ap (λ (y : ℕ). W (cell_at p y)) (sym is) ∙ h.names))

        full_before : (e : ℕ) (d : Block) (q : ℕ) → e ≢ c → IsPlaced p W (cell_at p e) d q → 0 < V (cell_at p e)
        full_before e d q other h = let s : W (cell_at p e) ≡ V (cell_at p e) = same (cell_at p e) (λ z. other (omega arith)) in let n = h.names in omega arith

        against : (e : ℕ) (d : Block) (q : ℕ) → e < p.cells → e ≢ c → IsPlaced p W (cell_at p e) d q → SameMeaning p W b r d q → ⊥
        against e d q m other h a =
            let h' = placed_before p V W views kept grows e m (full_before e d q other h) d q h in
            no_other e d q h' (alike_grows p V W grows b d r q written h'.written a)

        unlike_case : (e1 e2 : ℕ) (d1 d2 : Block) (q1 q2 : ℕ) → e1 < p.cells → e2 < p.cells → Dec (e1 ≡ c) → Dec (e2 ≡ c) → IsPlaced p W (cell_at p e1) d1 q1 → IsPlaced p W (cell_at p e2) d2 q2 → SameMeaning p W d1 q1 d2 q2 → e1 ≡ e2
        unlike_case e1 e2 d1 d2 q1 q2 m1 m2 (yes a) (yes b') h1 h2 al = a ∙ sym b'
        unlike_case e1 e2 d1 d2 q1 q2 m1 m2 (yes a) (no n) h1 h2 al = absurd (against e2 d2 q2 m2 n h2 (let z = is_new e1 d1 q1 a h1 in subst (λ (y : Block × ℕ). SameMeaning p W y.0 y.1 d2 q2) (λ j. (sym z.0 j, sym z.1 j)) al))
        unlike_case e1 e2 d1 d2 q1 q2 m1 m2 (no n) (yes a) h1 h2 al = absurd (against e1 d1 q1 m1 n h1 (let z = is_new e2 d2 q2 a h2 in alike_sym (subst (λ (y : Block × ℕ). SameMeaning p W d1 q1 y.0 y.1) (λ j. (sym z.0 j, sym z.1 j)) al)))
        unlike_case e1 e2 d1 d2 q1 q2 m1 m2 (no n) (no n') h1 h2 al = unlike_before p V W views kept grows e1 e2 d1 d2 q1 q2 m1 m2 (full_before e1 d1 q1 n h1) (full_before e2 d2 q2 n' h2) h1 h2 al

        one_more : (i : ℕ) → times i w.made ≡ times i v.made + (only_if (nat_eq i i0) 1 + 0)
        one_more i = times_append i v.made (i0 ∷ [])

        made_noted : (i : ℕ) → 0 < times i w.made → Has w.facts i (W i)
        made_noted i h = dite (ℕ_discrete i i0) (λ e. subst (λ (y : ℕ). Has w.facts y (W y)) (sym e) (has_right v.facts (fact i0 x ∷ []) i0 (W i0) (inl (refl, sym now))))
            (λ n. let m = k.made i (old n) in more i (W i) (subst (Has v.facts i) (sym (fact_stays p V W views kept grows v k i (V i) m)) m))
          where
            old : i ≢ i0 → 0 < times i v.made
            old n = let t = one_more i in let z = ap (λ (y : Bool). only_if y 1) (ne_eqb i i0 n) in omega arith

        made_at : (i : ℕ) → 0 < times i w.made → (e : ℕ) × (e < p.cells) × (i ≡ cell_at p e)
        made_at i h = dite (ℕ_discrete i i0) (λ e. (c, l, e)) (λ n. k.made_cells i (let t = one_more i in let z = ap (λ (y : Bool). only_if y 1) (ne_eqb i i0 n) in omega arith))

        filled_case : (e : ℕ) → Dec (e ≡ c) → e < p.cells → only_if (nat_lt 0 (W (cell_at p e))) 1 + times (cell_at p e) v.made ≡ only_if (nat_lt 0 (V (cell_at p e))) 1 + times (cell_at p e) w.made
        filled_case e (yes is) m =
            let at_e : cell_at p e ≡ i0 = ap (cell_at p) is in
            let t = one_more (cell_at p e) in
            let z = ap (λ (y : Bool). only_if y 1) (eq-eqb (cell_at p e) i0 at_e) in
            let a : V (cell_at p e) ≡ 0 = ap V at_e ∙ was in
            let a' : W (cell_at p e) ≡ x = ap W at_e ∙ now in
            let f = full_one (W (cell_at p e)) (omega arith) in
            let f' = ap (λ (y : ℕ). only_if (nat_lt 0 y) 1) a in
            omega arith
        filled_case e (no other) m =
            let n : cell_at p e ≢ i0 = λ z. other (omega arith) in
            let t = one_more (cell_at p e) in
            let z = ap (λ (y : Bool). only_if y 1) (ne_eqb (cell_at p e) i0 n) in
            let f = ap (λ (y : ℕ). only_if (nat_lt 0 y) 1) (same (cell_at p e) n) in
            omega arith
