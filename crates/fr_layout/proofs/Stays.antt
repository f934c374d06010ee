-- What stays where words change only from 0, and the number of claimed rows only grows.
use Rattle.std.proofs.Common.{◌≡◌, ℕ, refl, ◌-◌, ◌<◌, ◌≤◌, List, sym, ap, ◌∙◌, subst, arith}
use Rattle.fr_model.specs.Automata.{State, state_term}
use Rattle.fr_model.specs.Terms.{Term, Product, IsAlike}
use Rattle.fr_model.specs.Classes.{HasFewPairs}
use Rattle.fr_model.specs.Canonical.{IsCode}
use Rattle.fr_canon.specs.Codes.{home_of}
use Rattle.fr_layout.specs.declared.plan.Plan.{Plan}
use Rattle.fr_layout.specs.declared.plan.Block.{Block}
use Rattle.fr_layout.specs.Places.{field_at, link_at, cell_at, on_walk, IsIn}
use Rattle.fr_layout.specs.Meaning.{block_states, row_meaning, SameMeaning, IsGood}
use Rattle.fr_layout.specs.Entries.{Grows, IsWritten, IsPlaced, IsLinked, NamesItself, IsCached}
use Rattle.fr_layout.specs.Laws.{WrittenBlocksStay}
use Rattle.fr_layout.proofs.Numbers.{one_row}
use Rattle.fr_layout.proofs.Automata.{block_same}

-- what a row means rests on its block
pub meaning_same : (p : Plan) (V W : ℕ → ℕ) (b : Block) → block_states p V b ≡ block_states p W b → (r : ℕ) → row_meaning p V b r ≡ row_meaning p W b r
meaning_same p V W b e r = ap (λ (qs : List State). state_term qs (r - b.start)) e

-- a block whose words stay
pub reduced_same : (p : Plan) (V W : ℕ → ℕ) (b : Block) → block_states p V b ≡ block_states p W b → ((r q : ℕ) → IsIn r b → IsIn q b → SameMeaning p V b r b q → r ≡ q) → (r q : ℕ) → IsIn r b → IsIn q b → SameMeaning p W b r b q → r ≡ q
reduced_same p V W b e reduced r q i j a = reduced r q i j (subst (λ (qs : List State). IsAlike (state_term qs (r - b.start)) (state_term qs (q - b.start))) (sym e) a)

module _ (p : Plan) (V W : ℕ → ℕ) (g : Grows V W) where
  pub same_in : (b : Block) → IsWritten p V b → (r f : ℕ) → IsIn r b → f ≤ p.letters → W (field_at p r f) ≡ V (field_at p r f)
  same_in b h r f i a = g.keeps (field_at p r f) (omega arith) (h.full r f i a)

  pub states_stay : (b : Block) → IsWritten p V b → block_states p W b ≡ block_states p V b
  states_stay b h = block_same p W V b (same_in b h)

  pub meaning_stays : (b : Block) → IsWritten p V b → (r : ℕ) → row_meaning p W b r ≡ row_meaning p V b r
  meaning_stays b h r = meaning_same p W V b (states_stay b h) r

  pub written_grows : (b : Block) → IsWritten p V b → IsWritten p W b
  written_grows b h = record {
    claimed = let a = h.claimed in let c = g.claim in omega arith;
    sized = h.sized;
    full = λ r f i a. subst (λ (x : ℕ). 0 < x) (sym (same_in b h r f i a)) (h.full r f i a);
    good = λ r f i a. subst (IsGood p.letters b f) (sym (same_in b h r f i a)) (h.good r f i a);
    reduced = reduced_same p V W b (sym (states_stay b h)) h.reduced;
  }

  -- two rows that stood written before
  pub alike_grows : (b d : Block) (r q : ℕ) → IsWritten p V b → IsWritten p V d → SameMeaning p W b r d q → SameMeaning p V b r d q
  alike_grows b d r q h k a = subst (λ (x : Term × Term). IsAlike x.0 x.1) (λ i. (meaning_stays b h r i, meaning_stays d k q i)) a

  pub alike_on : (b d : Block) (r q : ℕ) → IsWritten p V b → IsWritten p V d → SameMeaning p V b r d q → SameMeaning p W b r d q
  alike_on b d r q h k a = subst (λ (x : Term × Term). IsAlike x.0 x.1) (λ i. (sym (meaning_stays b h r) i, sym (meaning_stays d k q) i)) a

  pub placed_grows : (i : ℕ) → 0 < i → (b : Block) (r : ℕ) → IsPlaced p V i b r → IsPlaced p W i b r
  placed_grows i lo b r h = record {
    names = g.keeps i lo (subst (λ (x : ℕ). 0 < x) (sym h.names) (omega arith)) ∙ h.names;
    inside = h.inside;
    written = written_grows b h.written;
    code = h.code;
    coded = subst (λ (t : Term). IsCode p.letters t h.code) (sym (meaning_stays b h.written r)) h.coded;
    distance = h.distance;
    place = h.place;
    before = λ j l. let w = h.before j l in subst (λ (x : ℕ). 0 < x) (sym (g.keeps (on_walk p (home_of h.code p.cells) j) (omega arith) w)) w;
  }

  -- a cell that was full has the row that it had
  pub placed_back : (i : ℕ) → 0 < i → (b d : Block) (r q : ℕ) → IsPlaced p V i b r → IsPlaced p W i d q → (b ≡ d) × (r ≡ q)
  placed_back i lo b d r q h k = one_row b d r q h.inside k.inside h.written.sized k.written.sized (sym (placed_grows i lo b r h).names ∙ k.names)

  pub linked_grows : (r : ℕ) → IsLinked p V r → IsLinked p W r
  linked_grows r h = record {
    own = h.own;
    inside = h.inside;
    written = written_grows h.own h.written;
    cell = h.cell;
    cell_below = h.cell_below;
    block = h.block;
    row = h.row;
    placed = placed_grows (cell_at p h.cell) (omega arith) h.block h.row h.placed;
    names = g.keeps (link_at p r) (omega arith) (let n = h.names in omega arith) ∙ h.names;
    alike = alike_on h.own h.block r h.row h.written h.placed.written h.alike;
  }

  -- and the row with the link is in the block that it was in
  pub linked_own : (r : ℕ) (h : IsLinked p V r) → h.own ≡ (linked_grows r h).own
  unfolding linked_grows
  linked_own r h = refl

  module _ (linked : (r : ℕ) → r < p.capacity → 0 < V (link_at p r) → IsLinked p V r) where
    -- the block of a row whose link names it is written
    pub itself_written : (a : ℕ) (b : Block) → NamesItself p V a b → IsWritten p V b
    itself_written a b h =
        let l = linked a h.0 (let e = h.3 in omega arith) in
        let same = one_row l.block b l.row a l.placed.inside h.1 l.placed.written.sized h.2 (sym l.names ∙ h.3) in
        subst (IsWritten p V) same.0 l.placed.written

    itself_stays : (a : ℕ) (b : Block) → NamesItself p V a b → NamesItself p W a b
    itself_stays a b h = (h.0, h.1, h.2, g.keeps (link_at p a) (omega arith) (let e = h.3 in omega arith) ∙ h.3)

    itself_meaning : (a : ℕ) (b : Block) → NamesItself p V a b → row_meaning p W b a ≡ row_meaning p V b a
    itself_meaning a b h = meaning_stays b (itself_written a b h) a

    pub cached_grows : (x : ℕ) → IsCached p V x → IsCached p W x
    cached_grows x h lo =
        let t = h lo in
        let e1 = itself_meaning t.first t.first_block t.first_named in
        let e2 = itself_meaning t.second t.second_block t.second_named in
        let e3 = itself_meaning t.third t.third_block t.third_named in
        record {
          first = t.first;
          second = t.second;
          third = t.third;
          first_block = t.first_block;
          second_block = t.second_block;
          third_block = t.third_block;
          names = t.names;
          first_named = itself_stays t.first t.first_block t.first_named;
          second_named = itself_stays t.second t.second_block t.second_named;
          third_named = itself_stays t.third t.third_block t.third_named;
          product = subst (λ (u : Term × Term × Term). IsAlike u.2 (Product u.0 u.1)) (λ i. (sym e1 i, sym e2 i, sym e3 i)) t.product;
          few = subst (λ (u : Term × Term). HasFewPairs p.letters u.0 u.1) (λ i. (sym e1 i, sym e2 i)) t.few;
        }

pub stays : WrittenBlocksStay
stays = record {
  written = λ p V W b g h. written_grows p V W g b h;
  meaning = λ p V W b g h. states_stay p V W g b h;
  placed = λ p V W i b r g lo h. placed_grows p V W g i lo b r h;
  linked = λ p V W r g h. linked_grows p V W g r h;
  cached = λ p V W x g l h. cached_grows p V W g l x h;
}
