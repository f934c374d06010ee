-- One hand's step keeps the rule, where its own part of it is shown.
use Rattle.std.proofs.Common.{◌≡◌, ◌≢◌, ◌⊎◌, ℕ, zero, suc, ◌+◌, ◌<◌, ◌≤◌, nat_lt, List, [], ◌∷◌, set, refl, sym, ap, ◌∙◌, subst, ⊎_elim, inl, inr, arith}
use mathlib.Core.Option.{some}
use lib.ListN.{get_elem?}
use Rattle.atomic_table.proofs.Lists.{at_set, set_else}
use mathlib.Core.Logic.{dite}
use native.Mathlib.Decide.{ℕ_discrete}
use mathlib.Core.Option.{some-injective, some-ne-none}
use Rattle.fr_line.specs.Lines.{only_if, below}
use Rattle.fr_line.proofs.Totals.{total_set}
use Rattle.fr_line.proofs.Weaving.{woven_step}
use Rattle.fr_layout.proofs.Automata.{block_same}
use Rattle.fr_layout.proofs.Spots.{field_below}
use Rattle.fr_layout.proofs.Stays.{alike_grows, linked_grows, linked_own, placed_back, placed_grows, reduced_same}
use Rattle.fr_layout.specs.Entries.{Grows, IsLinked, IsPlaced}
use Rattle.fr_layout.specs.Meaning.{IsFull, IsGood, SameMeaning}
use Rattle.fr_layout.specs.Packs.{pack_of}
use Rattle.fr_layout.specs.Places.{IsIn, cell_at, field_at, link_at}
use Rattle.fr_layout.specs.declared.plan.Block.{Block}
use Rattle.fr_layout.specs.declared.plan.Plan.{Plan}
use Rattle.fr_words.specs.Members.{Has, Owns, covers, times}
use Rattle.fr_words.specs.Notes.{claimed}
use Rattle.fr_words.specs.Rule.{IsOwn, IsOwned, Kept, Knows}
use Rattle.fr_words.specs.declared.notes.Note.{Note}

-- the cells of W are those of V
abbrev SameCells : Plan → (ℕ → ℕ) → (ℕ → ℕ) → Type 0
SameCells p V W = (c : ℕ) → c < p.cells → W (cell_at p c) ≡ V (cell_at p c)

abbrev SameFields : Plan → (ℕ → ℕ) → (ℕ → ℕ) → Type 0
SameFields p V W = (i : ℕ) → 0 < i → i < link_at p 0 → W i ≡ V i

-- what is left to show of a hand's step from the note v to w
pub record Step (p : Plan) (V W : ℕ → ℕ) (views : List Note) (id : ℕ) (v w : Note) : Type 0 where
  pub grows : Grows V W
  pub most : W 0 ≤ p.capacity
  pub fresh : (r f : ℕ) → W 0 ≤ r → r < p.capacity → f ≤ p.letters → W (field_at p r f) ≡ 0
  pub fresh_link : (r : ℕ) → W 0 ≤ r → r < p.capacity → W (link_at p r) ≡ 0
  pub line : w.line ≡ v.line
  pub gain : (r : ℕ) → below r (W 0) + covers r v.own ≡ below r (V 0) + covers r w.own
  pub others : (j : ℕ) (u : Note) → j ≢ id → get_elem? views j ≡ some u → Knows p W u
  pub mine : Knows p W w
  pub cells : (c : ℕ) → c < p.cells → 0 < W (cell_at p c) → (b : Block) × (r : ℕ) × IsPlaced p W (cell_at p c) b r
  pub unlike : (c e : ℕ) (b d : Block) (r q : ℕ) → c < p.cells → e < p.cells → IsPlaced p W (cell_at p c) b r → IsPlaced p W (cell_at p e) d q → SameMeaning p W b r d q → c ≡ e
  pub more_own : (b : Block) → Owns v.own b → Owns w.own b
  pub owned : (c : ℕ) → c < p.cells → (b : Block) (r : ℕ) → IsPlaced p W (cell_at p c) b r → IsOwned views b
  pub links : (r : ℕ) → r < p.capacity → 0 < W (link_at p r) → (l : IsLinked p W r) × IsOwned views l.own
  pub filled : (c : ℕ) → c < p.cells → only_if (nat_lt 0 (W (cell_at p c))) 1 + times (cell_at p c) v.made ≡ only_if (nat_lt 0 (V (cell_at p c))) 1 + times (cell_at p c) w.made

pub set_there : {A : Type 0} (l : List A) (i : ℕ) (a b : A) → get_elem? l i ≡ some a → get_elem? (set l i b) i ≡ some b
set_there [] i a b e = absurd (some-ne-none a (sym e))
set_there (x ∷ xs) zero a b e = refl
set_there (x ∷ xs) (suc i) a b e = set_there xs i a b e

pub owned_set : (views : List Note) (id : ℕ) (v w : Note) → get_elem? views id ≡ some v → ((b : Block) → Owns v.own b → Owns w.own b) → (b : Block) → IsOwned views b → IsOwned (set views id w) b
owned_set views id v w at more b o = dite (ℕ_discrete o.0 id)
    (λ e. let same : o.1 ≡ v = some-injective o.1 v (sym o.2 ∙ (ap (get_elem? views) e ∙ at)) in (id, w, set_there views id v w at, more b (subst (λ (u : Note). Owns u.own b) same o.3)))
    (λ n. (o.0, o.1, set_else views id o.0 w n ∙ o.2, o.3))

module _ (p : Plan) (V W : ℕ → ℕ) (views : List Note) (kept : Kept p V views) (id : ℕ) (v w : Note) (at : get_elem? views id ≡ some v) where
  pub step_kept : Step p V W views id v w → Kept p W (set views id w)
  step_kept s = record {
    planned = kept.planned;
    most = s.most;
    fresh = s.fresh;
    fresh_link = s.fresh_link;
    cover = λ r. let t = total_set (λ (u : Note). covers r u.own) views id v w at in let c = kept.cover r in let g = s.gain r in omega arith;
    each = λ j u e. ⊎_elim (λ (t : (j ≡ id) × (w ≡ u)). subst (Knows p W) t.1 s.mine) (λ (t : (j ≢ id) × (get_elem? views j ≡ some u)). s.others j u t.0 t.1) (at_set views id j w u e);
    woven = woven_step (λ (u : Note). u.line) views id v w at s.line kept.woven;
    cells = s.cells;
    unlike = s.unlike;
    links = λ r l h. let t = s.links r l h in (t.0, owned_set views id v w at s.more_own t.0.own t.1);
    owned = λ c l b r h. owned_set views id v w at s.more_own b (s.owned c l b r h);
    filled = λ c l. let t = total_set (λ (u : Note). times (cell_at p c) u.made) views id v w at in let f = kept.filled c l in let g = s.filled c l in omega arith;
  }

module _ (p : Plan) (V W : ℕ → ℕ) (views : List Note) (kept : Kept p V views) (g : Grows V W) where
  -- where no cell changes
  pub cells_stay : SameCells p V W → (c : ℕ) → c < p.cells → 0 < W (cell_at p c) → (b : Block) × (r : ℕ) × IsPlaced p W (cell_at p c) b r
  cells_stay same c l h = let k = kept.cells c l (subst (λ (x : ℕ). 0 < x) (same c l) h) in (k.0, k.1, placed_grows p V W g (cell_at p c) (omega arith) k.0 k.1 k.2)

  -- a cell that was full before
  pub placed_before : (c : ℕ) → c < p.cells → 0 < V (cell_at p c) → (b : Block) (r : ℕ) → IsPlaced p W (cell_at p c) b r → IsPlaced p V (cell_at p c) b r
  placed_before c l lo b r h =
      let k = kept.cells c l lo in
      let e = placed_back p V W g (cell_at p c) (omega arith) k.0 b k.1 r k.2 h in
      subst (λ (x : Block × ℕ). IsPlaced p V (cell_at p c) x.0 x.1) (λ i. (e.0 i, e.1 i)) k.2

  -- two cells that were full before
  pub unlike_before : (c e : ℕ) (b d : Block) (r q : ℕ) → c < p.cells → e < p.cells → 0 < V (cell_at p c) → 0 < V (cell_at p e) → IsPlaced p W (cell_at p c) b r → IsPlaced p W (cell_at p e) d q → SameMeaning p W b r d q → c ≡ e
  unlike_before c e b d r q l m lo lo' h k a =
      let h' = placed_before c l lo b r h in
      let k' = placed_before e m lo' d q k in
      kept.unlike c e b d r q l m h' k' (alike_grows p V W g b d r q h'.written k'.written a)

  pub unlike_stays : SameCells p V W → (c e : ℕ) (b d : Block) (r q : ℕ) → c < p.cells → e < p.cells → IsPlaced p W (cell_at p c) b r → IsPlaced p W (cell_at p e) d q → SameMeaning p W b r d q → c ≡ e
  unlike_stays same c e b d r q l m h k a =
      let n : V (cell_at p c) ≡ pack_of b r = sym (same c l) ∙ h.names in
      let n' : V (cell_at p e) ≡ pack_of d q = sym (same e m) ∙ k.names in
      unlike_before c e b d r q l m (omega arith) (omega arith) h k a

  -- where no link changes
  pub links_stay : ((r : ℕ) → r < p.capacity → W (link_at p r) ≡ V (link_at p r)) → (r : ℕ) → r < p.capacity → 0 < W (link_at p r) → (l : IsLinked p W r) × IsOwned views l.own
  links_stay same r l lo = let t = kept.links r l (subst (λ (x : ℕ). 0 < x) (same r l) lo) in (linked_grows p V W g r t.0, subst (IsOwned views) (linked_own p V W g r t.0) t.1)

  pub owned_stays : SameCells p V W → (c : ℕ) → c < p.cells → (b : Block) (r : ℕ) → IsPlaced p W (cell_at p c) b r → IsOwned views b
  owned_stays same c l b r h = kept.owned c l b r (placed_before c l (let e = same c l in let n = h.names in omega arith) b r h)

  pub fact_stays : (u : Note) → Knows p V u → (i x : ℕ) → Has u.facts i x → W i ≡ x
  fact_stays u k i x h = let f = k.facts i x h in g.keeps i f.0 (let lo = f.2 in let is = f.3 in omega arith) ∙ f.3

  -- a block whose words stay
  pub own_stays : (u u' : Note) (b : Block) → ((i x : ℕ) → Has u.facts i x → Has u'.facts i x) → ((r f : ℕ) → IsIn r b → f ≤ p.letters → W (field_at p r f) ≡ V (field_at p r f)) → IsOwn p V u b → IsOwn p W u' b
  own_stays u u' b more same o = record {
    claimed = let a = o.claimed in let c = g.claim in omega arith;
    sized = o.sized;
    noted = λ r f i l. subst (λ (x : ℕ). (x ≡ 0) ⊎ Has u'.facts (field_at p r f) x) (sym (same r f i l)) (⊎_elim (λ z. inl z) (λ z. inr (more (field_at p r f) (V (field_at p r f)) z)) (o.noted r f i l));
    good = λ r f i l lo. subst (IsGood p.letters b f) (sym (same r f i l)) (o.good r f i l (subst (λ (x : ℕ). 0 < x) (same r f i l) lo));
    reduced = λ full.
        let full' : IsFull p V b = λ r f i l. subst (λ (x : ℕ). 0 < x) (same r f i l) (full r f i l) in
        reduced_same p V W b (block_same p V W b (λ r f i l. sym (same r f i l))) (o.reduced full');
  }

  pub full_grows : (b : Block) → IsFull p V b → IsFull p W b
  full_grows b full r f i l = let lo = full r f i l in let e = g.keeps (field_at p r f) (omega arith) lo in omega arith

  -- the drafts after are drafts before
  pub one_draft_stays : (u : Note) → Knows p V u → (b d : Block) → Owns u.own b → Owns u.own d → ¬ IsFull p W b → ¬ IsFull p W d → b ≡ d
  one_draft_stays u k b d o q x y = k.one_draft b d o q (λ f. x (full_grows b f)) (λ f. y (full_grows d f))

  -- a hand whose blocks' words stay
  pub knows_stays : (u : Note) → ((b : Block) → Owns u.own b → (r f : ℕ) → IsIn r b → f ≤ p.letters → W (field_at p r f) ≡ V (field_at p r f)) → Knows p V u → Knows p W u
  knows_stays u same k = record {
    planned = k.planned;
    seen = let a = k.seen in let c = g.claim in omega arith;
    facts = λ i x h. let f = k.facts i x h in (f.0, f.1, f.2, fact_stays u k i x h);
    own = λ b o. own_stays u u b (λ i x h. h) (same b o) (k.own b o);
    one_draft = one_draft_stays u k;
    made = λ i h. let m = k.made i h in subst (Has u.facts i) (sym (fact_stays u k i (V i) m)) m;
    made_cells = k.made_cells;
    joined = k.joined;
  }

  -- where no field changes, a claimed block's words stay
  pub fields_stay : SameFields p V W → (b : Block) → b.start + b.size ≤ V 0 → (r f : ℕ) → IsIn r b → f ≤ p.letters → W (field_at p r f) ≡ V (field_at p r f)
  fields_stay same b claimed r f i l = let m = kept.most in let i1 = i.1 in same (field_at p r f) (omega arith) (field_below p r f (omega arith) l)

  pub others_stay : SameFields p V W → (id j : ℕ) (u : Note) → j ≢ id → get_elem? views j ≡ some u → Knows p W u
  others_stay same id j u other e = let k = kept.each j u e in knows_stays u (λ b o. fields_stay same b (k.own b o).claimed) k
