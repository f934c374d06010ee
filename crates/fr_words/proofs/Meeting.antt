-- A split and a join keep the rule, and so does the start.
use Rattle.std.proofs.Common.{◌≡◌, ◌≢◌, ℕ, zero, suc, ◌<◌, nat_lt, List, [], ◌∷◌, ◌++◌, set, refl, sym, ap, ◌∙◌, subst, ⊎_elim, arith}
use mathlib.Core.Option.{some, some-injective, some-ne-none}
use lib.ListN.{get_elem?}
use mathlib.Core.Logic.{dite}
use native.Mathlib.Decide.{ℕ_discrete}
use Rattle.atomic_table.proofs.Lists.{at_set, at_snoc, at_longer, set_else}
use Rattle.fr_line.specs.Lines.{only_if, below, IsLive, cut, first_line, sprout}
use Rattle.fr_line.proofs.Totals.{total_set, total_snoc}
use Rattle.fr_line.proofs.Weaving.{woven_split, woven_join, woven_first, not_live, head_of, uncut, live_append, live_sprout}
use Rattle.fr_layout.specs.Meaning.{IsFull}
use Rattle.fr_layout.specs.Places.{IsPlan, cell_at, field_at, link_at}
use Rattle.fr_layout.specs.declared.plan.Block.{Block}
use Rattle.fr_layout.specs.declared.plan.Plan.{Plan}
use Rattle.fr_words.proofs.Covering.{covers_append, times_append}
use Rattle.fr_words.proofs.Loads.{grows_self}
use Rattle.fr_words.proofs.Members.{has_either, has_left, has_right, owns_either, owns_left, owns_right}
use Rattle.fr_words.proofs.Steps.{own_stays, owned_set, set_there}
use Rattle.fr_words.specs.Asks.{IsFinished}
use Rattle.fr_words.specs.Members.{Has, Owns, covers, times}
use Rattle.fr_words.specs.Notes.{newcomer, parted, spent, sprouted, united}
use Rattle.fr_words.specs.Rule.{IsOwned, Kept, Knows}
use Rattle.fr_words.specs.declared.notes.Note.{Note}

module _ (p : Plan) (V : ℕ → ℕ) (views : List Note) (kept : Kept p V views) (id : ℕ) (v : Note) (at : get_elem? views id ≡ some v) (live : IsLive v.line) where
  abbrev Covers : ℕ → Note → ℕ
  Covers r u = covers r u.own

  abbrev Times : ℕ → Note → ℕ
  Times i u = times i u.made

  k : Knows p V v
  k = kept.each id v at

  pub split_kept : Kept p V (set views id (parted v) ++ sprouted v ∷ [])
  split_kept = record {
    planned = kept.planned;
    most = kept.most;
    fresh = kept.fresh;
    fresh_link = kept.fresh_link;
    cover = λ r. let t = total_set (Covers r) views id v (parted v) at in let s = total_snoc (Covers r) (set views id (parted v)) (sprouted v) in let c = kept.cover r in omega arith;
    each = λ j u e. ⊎_elim (λ (h : get_elem? (set views id (parted v)) j ≡ some u). ⊎_elim (λ (t : (j ≡ id) × (parted v ≡ u)). subst (Knows p V) t.1 left) (λ (t : (j ≢ id) × (get_elem? views j ≡ some u)). kept.each j u t.1) (at_set views id j (parted v) u h))
        (λ (h : sprouted v ≡ u). subst (Knows p V) h right) (at_snoc (set views id (parted v)) (sprouted v) u j e);
    woven = let h = head_of v.line live in woven_split (λ (u : Note). u.line) views id v (parted v) (sprouted v) h.0 h.1 at h.2 (ap cut h.2) (ap sprout h.2) kept.woven;
    cells = kept.cells;
    unlike = kept.unlike;
    links = λ r l h. let t = kept.links r l h in (t.0, longer t.0.own t.1);
    owned = λ c l b r h. longer b (kept.owned c l b r h);
    filled = λ c l. let t = total_set (Times (cell_at p c)) views id v (parted v) at in let s = total_snoc (Times (cell_at p c)) (set views id (parted v)) (sprouted v) in let f = kept.filled c l in omega arith;
  }
    where
      longer : (b : Block) → IsOwned views b → IsOwned (set views id (parted v) ++ sprouted v ∷ []) b
      longer b o = let t = owned_set views id v (parted v) at (λ d x. x) b o in (t.0, t.1, at_longer (set views id (parted v)) (sprouted v ∷ []) t.0 t.1 t.2, t.3)

      left : Knows p V (parted v)
      left = record {
        planned = λ _. k.planned live;
        seen = k.seen;
        facts = k.facts;
        own = λ b o. own_stays p V V views kept (grows_self V) v (parted v) b (λ i x h. h) (λ r f i l. refl) (k.own b o);
        one_draft = k.one_draft;
        made = k.made;
        made_cells = k.made_cells;
        joined = λ e. absurd (not_live v.line live (uncut v.line e));
      }

      right : Knows p V (sprouted v)
      right = record { planned = λ _. k.planned live; seen = k.seen; facts = k.facts; own = λ b o. absurd o; one_draft = λ b d o q x y. absurd o; made = λ i h. absurd (omega arith); made_cells = λ i h. absurd (omega arith); joined = λ e. absurd (not_live (sprout v.line) (live_sprout v.line live) e) }

  pub join_kept : (other : ℕ) (u : Note) → IsFinished p u → other ≢ id → get_elem? (set views id (united v u)) other ≡ some u → Kept p V (set (set views id (united v u)) other spent)
  join_kept other u finished apart at' = record {
    planned = kept.planned;
    most = kept.most;
    fresh = kept.fresh;
    fresh_link = kept.fresh_link;
    cover = λ r. let t = total_set (Covers r) views id v (united v u) at in let s = total_set (Covers r) (set views id (united v u)) other u spent at' in let a = covers_append r v.own u.own in let c = kept.cover r in omega arith;
    each = λ j x e. ⊎_elim (λ (t : (j ≡ other) × (spent ≡ x)). subst (Knows p V) t.1 nothing)
        (λ (t : (j ≢ other) × (get_elem? (set views id (united v u)) j ≡ some x)). ⊎_elim (λ (t' : (j ≡ id) × (united v u ≡ x)). subst (Knows p V) t'.1 both) (λ (t' : (j ≢ id) × (get_elem? views j ≡ some x)). kept.each j x t'.1) (at_set views id j (united v u) x t.1))
        (at_set (set views id (united v u)) other j spent x e);
    woven = woven_join (λ (x : Note). x.line) views id other v u (united v u) spent at at' refl refl kept.woven;
    cells = kept.cells;
    unlike = kept.unlike;
    links = λ r l h. let t = kept.links r l h in (t.0, both_own t.0.own t.1);
    owned = λ c l b r h. both_own b (kept.owned c l b r h);
    filled = λ c l. let t = total_set (Times (cell_at p c)) views id v (united v u) at in let s = total_set (Times (cell_at p c)) (set views id (united v u)) other u spent at' in let a = times_append (cell_at p c) v.made u.made in let f = kept.filled c l in omega arith;
  }
    where
      k' : Knows p V u
      k' = kept.each other u (sym (set_else views id other (united v u) apart) ∙ at')

      both_own : (b : Block) → IsOwned views b → IsOwned (set (set views id (united v u)) other spent) b
      both_own b o = dite (ℕ_discrete o.0 other)
          (λ e. let same : o.1 ≡ u = some-injective o.1 u (sym o.2 ∙ (ap (get_elem? views) e ∙ (sym (set_else views id other (united v u) apart) ∙ at'))) in (id, united v u, still, owns_right v.own u.own b (subst (λ (x : Note). Owns x.own b) same o.3)))
          (λ n. dite (ℕ_discrete o.0 id)
          (λ e. let same : o.1 ≡ v = some-injective o.1 v (sym o.2 ∙ (ap (get_elem? views) e ∙ at)) in (id, united v u, still, owns_left v.own u.own b (subst (λ (x : Note). Owns x.own b) same o.3)))
          (λ m. (o.0, o.1, set_else (set views id (united v u)) other o.0 spent n ∙ (set_else views id o.0 (united v u) m ∙ o.2), o.3)))
        where
          still : get_elem? (set (set views id (united v u)) other spent) id ≡ some (united v u)
          still = set_else (set views id (united v u)) other id spent (λ e. apart (sym e)) ∙ set_there views id v (united v u) at

      nothing : Knows p V spent
      nothing = record { planned = λ l. absurd (not_live [] l refl); seen = omega arith; facts = λ i x h. absurd h; own = λ b o. absurd o; one_draft = λ b d o q x y. absurd o; made = λ i h. absurd (omega arith); made_cells = λ i h. absurd (omega arith); joined = λ _. refl }

      both : Knows p V (united v u)
      both = record {
        planned = λ _. k.planned live;
        seen = let a = k.seen in let b = k'.seen in omega arith;
        facts = λ i x h. ⊎_elim (λ a. k.facts i x a) (λ b. k'.facts i x b) (has_either v.facts u.facts i x h);
        own = λ b o. ⊎_elim (λ a. own_stays p V V views kept (grows_self V) v (united v u) b (λ i x h. has_left v.facts u.facts i x h) (λ r f i l. refl) (k.own b a))
            (λ a. own_stays p V V views kept (grows_self V) u (united v u) b (λ i x h. has_right v.facts u.facts i x h) (λ r f i l. refl) (k'.own b a)) (owns_either v.own u.own b o);
        one_draft = λ b d o q x y. ⊎_elim (λ a. ⊎_elim (λ a'. k.one_draft b d a a' x y) (λ a'. absurd (y (theirs d a'))) (owns_either v.own u.own d q)) (λ a. absurd (x (theirs b a))) (owns_either v.own u.own b o);
        made = λ i h. either_made i (times i v.made) refl h;
        made_cells = λ i h. either_cell i (times i v.made) refl h;
        joined = λ e. absurd (not_live _ (live_append v.line u.line live) e);
      }
        where
          theirs : (d : Block) → Owns u.own d → IsFull p V d
          theirs d o q f i l = let n = finished d o q f i l in let y = k'.facts (field_at p q f) n.0 n.1 in let y2 = y.2 in let y3 = y.3 in omega arith

          either_cell : (i n : ℕ) → times i v.made ≡ n → 0 < times i (v.made ++ u.made) → (c : ℕ) × (c < p.cells) × (i ≡ cell_at p c)
          either_cell i zero e h = k'.made_cells i (let a = times_append i v.made u.made in omega arith)
          either_cell i (suc n) e h = k.made_cells i (omega arith)

          either_made : (i n : ℕ) → times i v.made ≡ n → 0 < times i (v.made ++ u.made) → Has (v.facts ++ u.facts) i (V i)
          either_made i zero e h = has_right v.facts u.facts i (V i) (k'.made i (let a = times_append i v.made u.made in omega arith))
          either_made i (suc n) e h = has_left v.facts u.facts i (V i) (k.made i (omega arith))

pub start_kept : (p : Plan) (V : ℕ → ℕ) → IsPlan p → ((i : ℕ) → V i ≡ 0) → Kept p V (newcomer p ∷ [])
start_kept p V planned blank = record {
  planned = planned;
  most = let z = blank 0 in omega arith;
  fresh = λ r f _ _ _. blank (field_at p r f);
  fresh_link = λ r _ _. blank (link_at p r);
  cover = λ r. let z = blank 0 in none r (V 0) z;
  each = λ j u e. subst (Knows p V) (only_one j u e) record { planned = λ _. refl; seen = omega arith; facts = λ i x h. absurd h; own = λ b o. absurd o; one_draft = λ b d o q x y. absurd o; made = λ i h. absurd (omega arith); made_cells = λ i h. absurd (omega arith); joined = λ e. absurd (not_live first_line (omega arith) e) };
  woven = woven_first (λ (u : Note). u.line) (newcomer p) refl;
  cells = λ c l h. absurd (let z = blank (cell_at p c) in omega arith);
  unlike = λ c e b d r q l m h k a. absurd (let z = blank (cell_at p c) in let n = h.names in omega arith);
  links = λ r l h. absurd (let z = blank (link_at p r) in omega arith);
  owned = λ c l b r h. absurd (let z = blank (cell_at p c) in let n = h.names in omega arith);
  filled = λ c l. sym (ap (λ (y : ℕ). only_if (nat_lt 0 y) 1) (blank (cell_at p c)));
}
  where
    only_one : (j : ℕ) (u : Note) → get_elem? (newcomer p ∷ []) j ≡ some u → newcomer p ≡ u
    only_one zero u e = some-injective (newcomer p) u e
    only_one (suc j) u e = absurd (some-ne-none u (sym e))

    none : (r n : ℕ) → n ≡ 0 → 0 ≡ below r n
    none r n e = grind arith
