-- The rows that stand in cells: no two of them act alike, and the link of each is 0 or names it.
use Rattle.std.proofs.Common.{◌≡◌, ◌⊎◌, ℕ, zero, suc, ◌<◌, List, sym, ap, ◌∙◌, subst, ⊎_elim, inl, inr, arith}
use Rattle.fr_layout.proofs.Numbers.{one_row}
use Rattle.fr_layout.specs.Entries.{IsPlaced}
use Rattle.fr_layout.specs.Meaning.{SameMeaning}
use Rattle.fr_layout.specs.Packs.{pack_of}
use Rattle.fr_layout.specs.Places.{cell_at, link_at}
use Rattle.fr_layout.specs.declared.plan.Block.{Block}
use Rattle.fr_layout.specs.declared.plan.Plan.{Plan}
use Rattle.fr_words.proofs.Knowing.{admits_now, agrees_now}
use Rattle.fr_words.proofs.Learned.{one_block}
use Rattle.fr_words.proofs.Told.{word_is}
use Rattle.fr_words.specs.Laws.{CellsAreUnique, HasRow, SawRow}
use Rattle.fr_words.specs.Lawful.{Lawful}
use Rattle.fr_words.specs.Rule.{Kept, plain}
use Rattle.fr_words.specs.declared.notes.Note.{Note}

module _ (p : Plan) (V : ℕ → ℕ) (views : List Note) (kept : Kept p V views) where
  pub placed_in : (c : ℕ) (b : Block) (r : ℕ) → HasRow p V c b r → IsPlaced p V (cell_at p c) b r
  placed_in c b r h =
      let e = h.3 in
      let t = kept.cells c h.0 (omega arith) in
      let same = one_row t.0 b t.1 r t.2.inside h.1 t.2.written.sized h.2 (sym t.2.names ∙ h.3) in
      subst (λ (y : Block × ℕ). IsPlaced p V (cell_at p c) y.0 y.1) (λ j. (same.0 j, same.1 j)) t.2

  pub row_below : (c : ℕ) (b : Block) (r : ℕ) → HasRow p V c b r → r < p.capacity
  row_below c b r h = let a = (placed_in c b r h).written.claimed in let i = h.1.1 in let m = kept.most in omega arith

  pub one_cell : (c e : ℕ) (b d : Block) (r q : ℕ) → HasRow p V c b r → HasRow p V e d q → SameMeaning p V b r d q → c ≡ e
  one_cell c e b d r q h g alike = kept.unlike c e b d r q h.0 g.0 (placed_in c b r h) (placed_in e d q g) alike

  pub own_link : (c : ℕ) (b : Block) (r : ℕ) → HasRow p V c b r → (V (link_at p r) ≡ 0) ⊎ (V (link_at p r) ≡ pack_of b r)
  own_link c b r h = go (V (link_at p r)) (λ i. V (link_at p r))
    where
      go : (n : ℕ) → V (link_at p r) ≡ n → (V (link_at p r) ≡ 0) ⊎ (V (link_at p r) ≡ pack_of b r)
      go zero e = inl e
      go (suc n) e =
          let placed = placed_in c b r h in
          let t = kept.links r (row_below c b r h) (omega arith) in
          let l = t.0 in
          let own = one_block p V views kept l.own b r t.1 (kept.owned c h.0 b r placed) l.inside h.1 in
          let alike : SameMeaning p V b r l.block l.row = subst (λ (x : Block). SameMeaning p V x r l.block l.row) own l.alike in
          let same = kept.unlike c l.cell b l.block r l.row h.0 l.cell_below placed l.placed alike in
          inr (l.names ∙ (sym l.placed.names ∙ (ap (λ (x : ℕ). V (cell_at p x)) (sym same) ∙ h.3)))

module _ (v : Note) (i n : ℕ) (l : Lawful v i n) where
  abbrev W : ℕ → ℕ
  W = plain v.plan l.state.words

  row_seen : (c : ℕ) (b : Block) (r : ℕ) → SawRow v.plan v c b r → HasRow v.plan W c b r
  row_seen c b r h = (h.0, h.1, h.2, agrees_now v.plan W l.state.views l.ruled.kept l.seat v l.at (cell_at v.plan c) (pack_of b r) h.3)

  link_seen : (c : ℕ) (b : Block) (r : ℕ) → i ≡ link_at v.plan r → SawRow v.plan v c b r → (n ≡ 0) ⊎ (n ≡ pack_of b r)
  link_seen c b r e h =
      let small = row_below v.plan W l.state.views l.ruled.kept c b r (row_seen c b r h) in
      let is : W (link_at v.plan r) ≡ n = ap W (sym e) ∙ word_is v i n l (omega arith) in
      ⊎_elim (λ (z : W (link_at v.plan r) ≡ 0). inl (sym is ∙ z)) (λ (z : W (link_at v.plan r) ≡ pack_of b r). inr (sym is ∙ z)) (own_link v.plan W l.state.views l.ruled.kept c b r (row_seen c b r h))

pub cells : CellsAreUnique
cells = record {
  cell = λ p W views c e r q b d kept h g alike. one_cell p W views kept c e b d r q h g alike;
  link = λ p W views c r b kept h. own_link p W views kept c b r h;
  seen_cell = λ v i n c e r q b d l h g alike.
      let Y = plain v.plan l.state.words in
      one_cell v.plan Y l.state.views l.ruled.kept c e b d r q (row_seen v i n l c b r h) (row_seen v i n l e d q g) (alike Y (admits_now v.plan Y l.state.views l.ruled.kept l.seat v l.at));
  seen_link = λ v n c r b l h. link_seen v (link_at v.plan r) n l c b r (λ i. link_at v.plan r) h;
}
