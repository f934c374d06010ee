-- What a hand knows that fills a block of its own and publishes its rows.
use Rattle.std.proofs.Common.{◌++◌, ◌≡◌, ◌⊎◌, ℕ, suc, ◌+◌, ◌-◌, ◌*◌, ◌%◌, ◌<◌, ◌≤◌, List, [], ◌∷◌, length, get_or, refl, sym, ap, ◌∙◌, subst, ⊎_elim, inl, inr, arith}
use Rattle.std.proofs.Math.Nat.{mod-eq_of_lt, mul-le-mul_right}
use Rattle.std.proofs.lemmas.List.{get_or_default}
use mathlib.Core.Logic.{dite}
use native.Mathlib.Decide.{ℕ_discrete, dec_le}
use Rattle.fr_model.specs.Terms.{Term}
use Rattle.fr_model.specs.Canonical.{IsCode}
use Rattle.fr_model.proofs.AlikeLaws.{alike_refl}
use Rattle.fr_machine.specs.declared.row.Row.{Row}
use Rattle.fr_machine.specs.Minimal.{AreUnlike}
use Rattle.fr_machine.specs.Rows.{IsMachine, row_at, row_term}
use Rattle.fr_canon.specs.Codes.{home_of}
use Rattle.fr_layout.specs.declared.plan.Plan.{Plan}
use Rattle.fr_layout.specs.Packs.{pack_of}
use Rattle.fr_layout.specs.Places.{field_at, link_at, cell_at, IsIn}
use Rattle.fr_layout.specs.Meaning.{field_value, row_meaning, AreSpelled, IsGood}
use Rattle.fr_layout.proofs.Spots.{same_field, field_below}
use Rattle.fr_layout.proofs.Machines.{good, meaning_is, reduced_from}
use Rattle.fr_words.specs.declared.notes.Fact.{Fact}
use Rattle.fr_words.specs.declared.notes.Note.{Note}
use Rattle.fr_words.specs.Members.{Has, Owns}
use Rattle.fr_words.specs.declared.notes.Claim.{Claim}
use Rattle.fr_words.specs.Notes.{fact, wrote, entered}
use Rattle.fr_words.specs.Asks.{Agrees, IsNoted, IsFinished, MayFill, MayEnter, MayLink, EndsReduced}
use Rattle.fr_words.proofs.Knowing.{admitted_agrees}
use Rattle.fr_words.proofs.Members.{has_left, has_right, has_either, owns_either}
use Rattle.fr_words_examples.specs.Filling.{block_at, AreNoted, IsFilling, HasFilled, KnowsHandles, Adds}

within : (h n : ℕ) → h < n → h ≡ (h + 0) % n
within h n l = sym (mod-eq_of_lt l) ∙ ap (λ (x : ℕ). x % n) (let e : h ≡ h + 0 = omega arith in e)

-- a fact that was added last, and one that stood before
pub newest : (l : List Fact) (i x : ℕ) → Has (l ++ fact i x ∷ []) i x
newest l i x = has_right l (fact i x ∷ []) i x (inl (refl, refl))

pub older : (l : List Fact) (i x j y : ℕ) → Has l j y → Has (l ++ fact i x ∷ []) j y
older l i x j y h = has_left l (fact i x ∷ []) j y h

-- a fact is the one that was added last, or stood before
which : (l : List Fact) (i x j y : ℕ) → Has (l ++ fact i x ∷ []) j y → Has l j y ⊎ ((i ≡ j) × (x ≡ y))
which l i x j y h = ⊎_elim (λ a. inl a) (λ (t : ((i ≡ j) × (x ≡ y)) ⊎ ⊥). ⊎_elim (λ e. inr e) (λ z. absurd z) t) (has_either l (fact i x ∷ []) j y h)

-- the row that an index gives
pub row_is : (rows : List Row) (r : ℕ) (x : Row) → r < length rows → x ≡ get_or rows r x → x ≡ row_at rows r
row_is rows r x l e = e ∙ get_or_default rows r x (record { perm = []; next = [] }) l

-- the start of a block taken off again
ahead_of : (start r : ℕ) → (start + r) - start ≡ r
ahead_of start r = omega arith

module _ (p : Plan) (start : ℕ) (rows : List Row) where
  in_block : (r : ℕ) → r < length rows → IsIn (start + r) (block_at start rows)
  in_block r l = (omega arith, omega arith)

  -- a row of the block, from its start
  from_start : (q : ℕ) → IsIn q (block_at start rows) → (start + (q - start) ≡ q) × (q - start < length rows)
  from_start q i = let a = i.0 in let b = i.1 in (omega arith, omega arith)

  abbrev value : ℕ → ℕ → ℕ
  value r f = field_value start (row_at rows r) f

  abbrev place : ℕ → ℕ → ℕ
  place r f = field_at p (start + r) f

  -- right after the claim nothing is filled
  pub filling_begins : (v : Note) → Owns v.own (block_at start rows) → ((r f y : ℕ) → start ≤ r → r < start + length rows → f ≤ p.letters → ¬ Has v.facts (field_at p r f) y) → IsFilling p v start rows (field_at p start 0)
  filling_begins v owned fresh = record {
    owned = owned;
    done = λ r f l m before. let k = mul-le-mul_right (p.letters + 1) (let h : start ≤ start + r = omega arith in h) in absurd (omega arith);
    unfilled = λ r f y l m after. fresh (start + r) f y (omega arith) (omega arith) m;
  }

  -- a field that was filled is one more
  pub filling_goes_on : (v w : Note) (r f : ℕ) → r < length rows → f ≤ p.letters → IsFilling p v start rows (field_at p (start + r) f) → w ≡ wrote v (field_at p (start + r) f) (field_value start (row_at rows r) f) → IsFilling p w start rows (field_at p (start + r) (f + 1))
  filling_goes_on v w r f l m h e = subst (λ (x : Note). IsFilling p x start rows (field_at p (start + r) (f + 1))) (sym e) (record {
    owned = h.owned;
    done = λ q g k n before. dite (ℕ_discrete (place r f) (place q g))
        (λ same. let at = same_field p (start + r) (start + q) f g m n same in let e0 = at.0 in let row : r ≡ q = omega arith in subst (λ (z : ℕ × ℕ). Has (v.facts ++ fact (place r f) (value r f) ∷ []) (place z.0 z.1) (value z.0 z.1)) (λ i. (row i, at.1 i)) (newest v.facts (place r f) (value r f)))
        (λ other. older v.facts (place r f) (value r f) (place q g) (value q g) (h.done q g k n (omega arith)));
    unfilled = λ q g y k n after has. ⊎_elim (λ a. h.unfilled q g y k n (omega arith) a) (λ t. let same = t.0 in omega arith) (which v.facts (place r f) (value r f) (place q g) y has);
  })

  -- the next row begins where the last field of this one ends
  pub filling_of_next : (v : Note) (r n : ℕ) → n ≡ p.letters + 1 → IsFilling p v start rows (field_at p r n) → IsFilling p v start rows (field_at p (r + 1) 0)
  filling_of_next v r n e h = subst (IsFilling p v start rows) (ap (λ (k : ℕ). field_at p r k) e ∙ (let d : 1 + (r * (p.letters + 1) + (p.letters + 1)) ≡ 1 + ((r + 1) * (p.letters + 1) + 0) = omega arith in d)) h

  below_end : (r f : ℕ) → r < length rows → f ≤ p.letters → field_at p (start + r) f < field_at p (start + length rows) 0
  below_end r f l m = let s : (start + r) + 1 ≤ start + length rows = omega arith in let a = mul-le-mul_right (p.letters + 1) s in let b : ((start + r) + 1) * (p.letters + 1) ≡ (start + r) * (p.letters + 1) + (p.letters + 1) = omega arith in omega arith

  pub filling_ends : (v : Note) → IsFilling p v start rows (field_at p (start + length rows) 0) → HasFilled p v start rows
  filling_ends v h = record { owned = h.owned; fields = λ r f l m. h.done r f l m (below_end r f l m) }

  -- what is noted of the field f of a row of the block
  abbrev Noted : List Fact → Type 0
  Noted facts = (r f : ℕ) → r < length rows → f ≤ p.letters → Has facts (field_at p (start + r) f) (field_value start (row_at rows r) f)

  at_row : (facts : List Fact) → Noted facts → (q f : ℕ) → IsIn q (block_at start rows) → f ≤ p.letters → Has facts (field_at p q f) (field_value start (row_at rows (q - start)) f)
  at_row facts known q f i l = let s = from_start q i in subst (λ (z : ℕ). Has facts (field_at p z f) (field_value start (row_at rows (q - start)) f)) s.0 (known (q - start) f s.1 l)

  pub noted : (facts : List Fact) → Noted facts → IsNoted p facts (block_at start rows)
  noted facts known q f i l = (field_value start (row_at rows (q - start)) f, at_row facts known q f i l)

  pub spelled_from : (facts : List Fact) → Noted facts → (Y : ℕ → ℕ) → Agrees facts Y → AreSpelled p Y (block_at start rows) rows
  spelled_from facts known Y agrees q f i l = agrees (field_at p q f) (field_value start (row_at rows (q - start)) f) (at_row facts known q f i l)

  module _ (m : IsMachine p.letters rows) where
    -- what a row means, where the fields are noted
    pub means : (facts : List Fact) → Noted facts → (Y : ℕ → ℕ) → Agrees facts Y → (r : ℕ) → row_meaning p Y (block_at start rows) (start + r) ≡ row_term rows r
    means facts known Y agrees r = meaning_is p Y (block_at start rows) rows m refl (spelled_from facts known Y agrees) (start + r) ∙ ap (row_term rows) (ahead_of start r)

    -- what a field of the machine says may stand there
    pub good_at : (r f : ℕ) → r < length rows → f ≤ p.letters → (0 < field_value start (row_at rows r) f) × IsGood p.letters (block_at start rows) f (field_value start (row_at rows r) f)
    good_at r f l k = subst (λ (q : ℕ). (0 < field_value start (row_at rows q) f) × IsGood p.letters (block_at start rows) f (field_value start (row_at rows q) f)) (ahead_of start r) (good p.letters (block_at start rows) rows m refl (start + r) f (in_block r l) k)

    pub may_fill : AreUnlike rows → (v : Note) (r f : ℕ) → r < length rows → f ≤ p.letters → IsFilling p v start rows (field_at p (start + r) f) → MayFill p v (block_at start rows) (start + r) f (field_value start (row_at rows r) f)
    may_fill unlike v r f l k h =
        let g = good_at r f l k in record {
          owned = h.owned;
          inside = in_block r l;
          field = k;
          empty = λ y has. h.unfilled r f y l k (omega arith) has;
          some_value = g.0;
          good = g.1;
          ends = ends;
        }
      where
        next : IsFilling p (wrote v (field_at p (start + r) f) (field_value start (row_at rows r) f)) start rows (field_at p (start + r) (f + 1))
        next = filling_goes_on v (wrote v (field_at p (start + r) f) (field_value start (row_at rows r) f)) r f l k h refl

        ends : EndsReduced p (v.facts ++ fact (field_at p (start + r) f) (field_value start (row_at rows r) f) ∷ []) (block_at start rows)
        ends all Y agrees = reduced_from p Y (block_at start rows) rows m refl (spelled_from (v.facts ++ fact (field_at p (start + r) f) (field_value start (row_at rows r) f) ∷ []) known Y agrees) unlike
          where
            known : (q g : ℕ) → q < length rows → g ≤ p.letters → Has (v.facts ++ fact (field_at p (start + r) f) (field_value start (row_at rows r) f) ∷ []) (field_at p (start + q) g) (field_value start (row_at rows q) g)
            known q g a b = dite (dec_le (suc (field_at p (start + q) g)) (field_at p (start + r) (f + 1))) (λ lt. next.done q g a b lt) (λ no. absurd (next.unfilled q g (all (start + q) g (in_block q a) b).0 a b (omega arith) (all (start + q) g (in_block q a) b).1))

    pub may_enter : (v : Note) (r : ℕ) (code : List ℕ) (c : ℕ) → HasFilled p v start rows → r < length rows → IsCode p.letters (row_term rows r) code → c ≡ home_of code p.cells → c < p.cells → MayEnter p v (block_at start rows) (start + r) c
    may_enter v r code c h l coded is small = record {
      complete = inl (h.owned, noted v.facts h.fields);
      inside = in_block r l;
      code = code;
      coded = λ Y admits. subst (λ (t : Term). IsCode p.letters t code) (sym (means v.facts h.fields Y (admitted_agrees p v.facts Y admits) r)) coded;
      distance = 0;
      place = is ∙ within (home_of code p.cells) p.cells (omega arith);
      before = λ j l. absurd (omega arith);
    }

  pub may_link : (v : Note) (r c : ℕ) → HasFilled p v start rows → r < length rows → length rows ≤ 1024 → c < p.cells → Has v.facts (cell_at p c) (pack_of (block_at start rows) (start + r)) → MayLink p v (start + r) (block_at start rows) (start + r)
  may_link v r c h l few small seen = record {
    own = block_at start rows;
    complete = inl (h.owned, noted v.facts h.fields);
    inside = in_block r l;
    cell = c;
    cell_below = small;
    seen = seen;
    there = in_block r l;
    sized = few;
    alike = λ Y admits. alike_refl (row_meaning p Y (block_at start rows) (start + r));
  }

  -- what was filled stays so, and so do the handles
  pub filled_after : (v w : Note) → HasFilled p v start rows → Adds p start rows v w → HasFilled p w start rows
  filled_after v w h a = record { owned = subst (λ (l : List Claim). Owns l (block_at start rows)) (sym a.own) h.owned; fields = λ r f l m. a.keeps (field_at p (start + r) f) (field_value start (row_at rows r) f) (h.fields r f l m) }

  pub handles_after : (v w : Note) (n : ℕ) → KnowsHandles p v start rows n → Adds p start rows v w → KnowsHandles p w start rows n
  handles_after v w n h a r l = let s = h r l in (s.0, s.1, s.2, a.keeps (link_at p (start + r)) (pack_of (block_at start rows) (start + r)) s.3)

  pub adds_none : (v : Note) → Adds p start rows v v
  adds_none v = record { own = refl; keeps = λ i x h. h; links = λ a x l h. inl h }

  pub adds_both : (u v w : Note) → Adds p start rows u v → Adds p start rows v w → Adds p start rows u w
  adds_both u v w a b = record {
    own = b.own ∙ a.own;
    keeps = λ i x h. b.keeps i x (a.keeps i x h);
    links = λ q x l h. ⊎_elim (λ k. a.links q x l k) (λ k. inr k) (b.links q x l h);
  }

  -- one fact more, of a word that is no link, or is the link of a row of the block
  adds_fact : (v w : Note) (i x : ℕ) → w.own ≡ v.own → w.facts ≡ v.facts ++ fact i x ∷ [] → ((a : ℕ) → a < p.capacity → i ≡ link_at p a → IsIn a (block_at start rows)) → Adds p start rows v w
  adds_fact v w i x own facts at = record {
    own = own;
    keeps = λ j y h. subst (λ (l : List Fact). Has l j y) (sym facts) (older v.facts i x j y h);
    links = λ a y l h. ⊎_elim (λ k. inl k) (λ (t : (i ≡ link_at p a) × (x ≡ y)). inr (at a l t.0)) (which v.facts i x (link_at p a) y (subst (λ (l : List Fact). Has l (link_at p a) y) facts h));
  }

  pub adds_field : (v w : Note) (q f x : ℕ) → q < p.capacity → f ≤ p.letters → w ≡ wrote v (field_at p q f) x → Adds p start rows v w
  adds_field v w q f x l m e = adds_fact v w (field_at p q f) x (ap (λ (n : Note). n.own) e) (ap (λ (n : Note). n.facts) e) (λ a k same. let b = field_below p q f l m in absurd (omega arith))

  pub adds_cell : (v w : Note) (c x : ℕ) → w ≡ entered v (cell_at p c) x → Adds p start rows v w
  adds_cell v w c x e = adds_fact v w (cell_at p c) x (ap (λ (n : Note). n.own) e) (ap (λ (n : Note). n.facts) e) (λ a k same. absurd (omega arith))

  pub adds_link : (v w : Note) (r x : ℕ) → r < length rows → w ≡ wrote v (link_at p (start + r)) x → Adds p start rows v w
  adds_link v w r x l e = adds_fact v w (link_at p (start + r)) x (ap (λ (n : Note). n.own) e) (ap (λ (n : Note). n.facts) e) (λ a k same. subst (λ (q : ℕ). IsIn q (block_at start rows)) (let s : start + r ≡ a = omega arith in s) (in_block r l))

  -- one handle more is known
  pub one_handle_more : (v w : Note) (r : ℕ) → r < length rows → length rows ≤ 1024 → start + length rows ≤ p.capacity → KnowsHandles p v start rows r → w ≡ wrote v (link_at p (start + r)) (pack_of (block_at start rows) (start + r)) → KnowsHandles p w start rows (r + 1)
  one_handle_more v w r l few fits h e q k = dite (ℕ_discrete q r)
      (λ same. (omega arith, in_block q (omega arith), few, subst (λ (y : Note). Has y.facts (link_at p (start + q)) (pack_of (block_at start rows) (start + q))) (sym e) (subst (λ (z : ℕ). Has (v.facts ++ fact (link_at p (start + r)) (pack_of (block_at start rows) (start + r)) ∷ []) (link_at p (start + z)) (pack_of (block_at start rows) (start + z))) (sym same) (newest v.facts (link_at p (start + r)) (pack_of (block_at start rows) (start + r))))))
      (λ other. handles_after v w r h (adds_link v w r (pack_of (block_at start rows) (start + r)) l e) q (omega arith))

  -- the hand has no draft again
  pub finished_again : (u v w : Note) (c : Claim) → IsFinished p u → v.own ≡ u.own ++ c ∷ [] → v.facts ≡ u.facts → c.block ≡ block_at start rows → Adds p start rows v w → AreNoted p w start rows → IsFinished p w
  finished_again u v w c done own facts is adds fields b owns = ⊎_elim
      (λ (o : Owns u.own b). λ q f i l. let n = done b o q f i l in (n.0, adds.keeps (field_at p q f) n.0 (subst (λ (k : List Fact). Has k (field_at p q f) n.0) (sym facts) n.1)))
      (λ (t : (c.block ≡ b) ⊎ ⊥). ⊎_elim (λ e. subst (IsNoted p w.facts) (sym is ∙ e) (noted w.facts fields)) (λ z. absurd z) t)
      (owns_either u.own (c ∷ []) b (subst (λ (k : List Claim). Owns k b) (adds.own ∙ own) owns))
