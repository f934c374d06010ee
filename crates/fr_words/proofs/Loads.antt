-- A load keeps the rule, and so does an exchange that lost.
use Rattle.std.proofs.Common.{◌≡◌, ◌⊎◌, ℕ, ◌+◌, ◌<◌, nat_lt, List, [], ◌∷◌, set, refl, sym, ap, ◌∙◌, subst, ⊎_elim, arith}
use mathlib.Core.Option.{some}
use Rattle.std.proofs.Common.{Option}
use lib.ListN.{get_elem?}
use Rattle.fr_line.specs.Lines.{only_if, below, IsLive}
use Rattle.fr_line.proofs.Weaving.{not_live}
use Rattle.fr_layout.specs.Entries.{Grows}
use Rattle.fr_layout.specs.Places.{cell_at, word_count}
use Rattle.fr_layout.specs.declared.plan.Plan.{Plan}
use Rattle.fr_words.proofs.Members.{has_either, has_left}
use Rattle.fr_words.proofs.Steps.{own_stays, step_kept}
use Rattle.fr_words.specs.Members.{Owns, covers, times}
use Rattle.fr_words.specs.Notes.{fact, read_product, saw, ticked, learned}
use Rattle.fr_words.specs.Rule.{Kept, Knows}
use Rattle.fr_words.specs.declared.notes.Claim.{Claim}
use Rattle.fr_words.specs.declared.notes.Gap.{Gap}
use Rattle.fr_words.specs.declared.notes.Note.{Note}

pub grows_self : (V : ℕ → ℕ) → Grows V V
grows_self V = record { claim = omega arith; keeps = λ i a b. refl }

module _ (p : Plan) (V : ℕ → ℕ) (views : List Note) (kept : Kept p V views) (id : ℕ) (v : Note) (at : get_elem? views id ≡ some v) (live : IsLive v.line) where
  k : Knows p V v
  k = kept.each id v at

  -- a step that changes no word
  load_kept : (w : Note) → w.line ≡ v.line → w.own ≡ v.own → w.made ≡ v.made → Knows p V w → Kept p V (set views id w)
  load_kept w line own made mine = step_kept p V V views kept id v w at record {
    grows = grows_self V;
    most = kept.most;
    fresh = kept.fresh;
    fresh_link = kept.fresh_link;
    line = line;
    gain = λ r. ap (λ (x : List Claim). below r (V 0) + covers r x) (sym own);
    others = λ j u _ e. kept.each j u e;
    mine = mine;
    cells = kept.cells;
    unlike = kept.unlike;
    links = kept.links;
    more_own = λ b o. subst (λ (l : List Claim). Owns l b) (sym own) o;
    owned = kept.owned;
    filled = λ c l. ap (λ (x : List ℕ). only_if (nat_lt 0 (V (cell_at p c))) 1 + times (cell_at p c) x) (sym made);
  }

  -- a load of the claim word, and a claim that lost
  pub saw_kept : Kept p V (set views id (saw v (V 0)))
  saw_kept = load_kept (saw v (V 0)) refl refl refl record {
    planned = k.planned;
    seen = omega arith;
    facts = k.facts;
    own = λ b o. own_stays p V V views kept (grows_self V) v (saw v (V 0)) b (λ i x h. h) (λ r f i l. refl) (k.own b o);
    one_draft = k.one_draft;
    made = k.made;
    made_cells = k.made_cells;
    joined = λ e. absurd (not_live v.line live e);
  }

  -- a load of a field, a cell or a link that is not 0: the word is noted
  pub learned_kept : (i : ℕ) → 0 < i → i < word_count p → 0 < V i → Kept p V (set views id (learned v i (V i)))
  learned_kept i lo hi full = load_kept (learned v i (V i)) refl refl refl record {
    planned = k.planned;
    seen = k.seen;
    facts = λ j x h. ⊎_elim (λ a. k.facts j x a) (λ (t : ((i ≡ j) × (V i ≡ x)) ⊎ ⊥). ⊎_elim (λ (e : (i ≡ j) × (V i ≡ x)). let e0 = e.0 in let e1 = e.1 in (omega arith, omega arith, omega arith, ap V (sym e.0) ∙ e.1)) (λ z. absurd z) t) (has_either v.facts (fact i (V i) ∷ []) j x h);
    own = λ b o. own_stays p V V views kept (grows_self V) v (learned v i (V i)) b (λ j x h. has_left v.facts (fact i (V i) ∷ []) j x h) (λ r f i l. refl) (k.own b o);
    one_draft = k.one_draft;
    made = λ j h. has_left v.facts (fact i (V i) ∷ []) j (V j) (k.made j h);
    made_cells = k.made_cells;
    joined = λ e. absurd (not_live v.line live e);
  }

  -- a load that gave 0, and a swap in the cache
  pub idle_kept : (g : Option Gap) (i n x : ℕ) → Kept p V (set views id (ticked (record v { gap = g }) i n x))
  idle_kept g i n x = load_kept (ticked (record v { gap = g }) i n x) refl refl refl record {
    planned = k.planned;
    seen = k.seen;
    facts = k.facts;
    own = λ b o. own_stays p V V views kept (grows_self V) v (ticked (record v { gap = g }) i n x) b (λ i x h. h) (λ r f i l. refl) (k.own b o);
    one_draft = k.one_draft;
    made = k.made;
    made_cells = k.made_cells;
    joined = λ e. absurd (not_live v.line live e);
  }

  -- a load of a cache word that is not 0: the product is noted
  pub product_kept : (i x : ℕ) → Kept p V (set views id (read_product v i x))
  product_kept i x = load_kept (read_product v i x) refl refl refl record {
    planned = k.planned;
    seen = k.seen;
    facts = k.facts;
    own = λ b o. own_stays p V V views kept (grows_self V) v (read_product v i x) b (λ i x h. h) (λ r f i l. refl) (k.own b o);
    one_draft = k.one_draft;
    made = k.made;
    made_cells = k.made_cells;
    joined = λ e. absurd (not_live v.line live e);
  }
