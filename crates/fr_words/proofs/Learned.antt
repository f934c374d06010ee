-- What a hand may conclude from its facts alone: it holds for each table Y that agrees with them.
use Rattle.std.proofs.Common.{◌≡◌, ℕ, zero, suc, ◌<◌, ◌≤◌, Bool, true, false, nat_eq, if◌then◌else◌, List, [], ◌∷◌, refl, sym, ap, ◌∙◌, subst, ⊎_elim, arith}
use mathlib.Core.Option.{some, some-injective}
use mathlib.Core.Logic.{dite}
use native.Mathlib.Decide.{ℕ_discrete}
use lib.ListN.{get_elem?}
use Rattle.fr_model.specs.Automata.{IsAutomaton}
use Rattle.fr_model.specs.Terms.{Term, IsAlike}
use Rattle.fr_layout.proofs.Automata.{automaton}
use Rattle.fr_layout.proofs.Automata.{block_same}
use Rattle.fr_layout.proofs.Numbers.{one_row}
use Rattle.fr_layout.proofs.Stays.{meaning_same, reduced_same}
use Rattle.fr_layout.specs.Entries.{IsPlaced, IsWritten, NamesItself}
use Rattle.fr_layout.specs.Meaning.{IsFull, IsReduced, SameMeaning, block_states}
use Rattle.fr_layout.specs.Packs.{pack_of}
use Rattle.fr_layout.specs.Places.{IsIn, cell_at, field_at, link_at}
use Rattle.fr_layout.specs.declared.plan.Block.{Block}
use Rattle.fr_layout.specs.declared.plan.Plan.{Plan}
use Rattle.fr_words.proofs.Covering.{not_another, not_others}
use Rattle.fr_words.proofs.Knowing.{admits_now, agrees_now, complete_owned, complete_written, noted_written}
use Rattle.fr_words.proofs.Members.{has_left, has_right, owns_either}
use Rattle.fr_words.proofs.Products.{itself_seen}
use Rattle.fr_words.specs.Asks.{Agrees, IsComplete, IsFinished, IsNoted}
use Rattle.fr_words.specs.Laws.{HandlesAreUnique, IsUnseen, KeepsFact, NoDraftIsLeft, RowsShowOneMachine}
use Rattle.fr_words.specs.Members.{Has, Owns}
use Rattle.fr_words.specs.Notes.{fact, learned, missed_at, read_product, ticked, united, wrote}
use Rattle.fr_words.specs.Rule.{IsOwned, Kept, plain}
use Rattle.fr_words.specs.declared.notes.Note.{Note}

-- a noted block is the same in all tables that agree
pub noted_states : (p : Plan) (v : Note) (b : Block) → IsNoted p v.facts b → (Y Z : ℕ → ℕ) → Agrees v.facts Y → Agrees v.facts Z → block_states p Y b ≡ block_states p Z b
noted_states p v b noted Y Z agrees agrees' = block_same p Y Z b (λ r f i l. let n = noted r f i l in agrees (field_at p r f) n.0 n.1 ∙ sym (agrees' (field_at p r f) n.0 n.1))

module _ (p : Plan) (V : ℕ → ℕ) (views : List Note) (kept : Kept p V views) where
  -- two claimed blocks that share a row are one
  pub one_block : (b d : Block) (r : ℕ) → IsOwned views b → IsOwned views d → IsIn r b → IsIn r d → b ≡ d
  one_block b d r o o' i j = dite (ℕ_discrete o'.0 o.0)
      (λ same. let u : o'.1 ≡ o.1 = some-injective o'.1 o.1 (sym o'.2 ∙ (ap (get_elem? views) same ∙ o.2)) in
      sym (not_another p V views kept o.0 o.1 o.2 b r o.3 i d (subst (λ (x : Note). Owns x.own d) u o'.3) j))
      (λ apart. absurd (not_others p V views kept o.0 o.1 o.2 b r o.3 i o'.0 o'.1 d apart o'.2 o'.3 j))

  -- rows that their links name are one where they act alike
  pub one_handle : (a e : ℕ) (b d : Block) → NamesItself p V a b → NamesItself p V e d → SameMeaning p V b a d e → a ≡ e
  one_handle a e b d h h' alike =
      let t = itself_placed a b h in let t' = itself_placed e d h' in
      let same = kept.unlike t.0 t'.0 b d a e t.1 t'.1 t.2 t'.2 alike in
      (one_row b d a e h.1 h'.1 h.2 h'.2 (sym t.2.names ∙ (ap (λ (c : ℕ). V (cell_at p c)) same ∙ t'.2.names))).1
    where
      itself_placed : (a : ℕ) (b : Block) → NamesItself p V a b → (c : ℕ) × (c < p.cells) × IsPlaced p V (cell_at p c) b a
      itself_placed a b h =
          let l = (kept.links a h.0 (let e = h.3 in omega arith)).0 in
          let same = one_row l.block b l.row a l.placed.inside h.1 l.placed.written.sized h.2 (sym l.names ∙ h.3) in
          (l.cell, l.cell_below, subst (λ (x : Block × ℕ). IsPlaced p V (cell_at p l.cell) x.0 x.1) (λ k. (same.0 k, same.1 k)) l.placed)

  -- the block of a pack that stands in a cell or in a link
  in_cell : (c : ℕ) (b : Block) (r : ℕ) → c < p.cells → IsIn r b → b.size ≤ 1024 → V (cell_at p c) ≡ pack_of b r → IsWritten p V b × IsOwned views b
  in_cell c b r l i small e =
      let t = kept.cells c l (omega arith) in
      let same = one_row t.0 b t.1 r t.2.inside i t.2.written.sized small (sym t.2.names ∙ e) in
      subst (λ (d : Block). IsWritten p V d × IsOwned views d) same.0 (t.2.written, kept.owned c l t.0 t.1 t.2)

  in_link : (q : ℕ) (b : Block) (r : ℕ) → q < p.capacity → IsIn r b → b.size ≤ 1024 → V (link_at p q) ≡ pack_of b r → IsWritten p V b × IsOwned views b
  in_link q b r l i small e =
      let t = (kept.links q l (omega arith)).0 in
      let same = one_row t.block b t.row r t.placed.inside i t.placed.written.sized small (sym t.names ∙ e) in
      subst (λ (d : Block). IsWritten p V d × IsOwned views d) same.0 (t.placed.written, kept.owned t.cell t.cell_below t.block t.row t.placed)

module _ (p : Plan) (V : ℕ → ℕ) (views : List Note) (kept : Kept p V views) (id : ℕ) (v : Note) (at : get_elem? views id ≡ some v) where
  now : Agrees v.facts V
  now = agrees_now p V views kept id v at

  -- a complete block, once read
  pub complete_known : (b : Block) → IsComplete p v b → IsNoted p v.facts b → (Y : ℕ → ℕ) → Agrees v.facts Y → IsAutomaton p.letters (block_states p Y b) × IsReduced p Y b
  complete_known b complete noted Y agrees =
      let w = complete_written p V views kept id v at b complete in
      let same = noted_states p v b noted V Y now agrees in
      (subst (IsAutomaton p.letters) same (automaton p V b w), reduced_same p V Y b same w.reduced)

  -- a link leads to a row that acts alike
  pub link_known : (b d : Block) (r q : ℕ) → IsComplete p v b → IsIn r b → IsNoted p v.facts b → IsNoted p v.facts d → IsIn q d → d.size ≤ 1024 → r < p.capacity → Has v.facts (link_at p r) (pack_of d q) → (Y : ℕ → ℕ) → Agrees v.facts Y → SameMeaning p Y b r d q
  link_known b d r q complete i nb nd j size small has Y agrees =
      let f = (kept.each id v at).facts (link_at p r) (pack_of d q) has in
      let t = kept.links r small (subst (λ (y : ℕ). 0 < y) (sym f.3) f.2) in
      let l = t.0 in
      let there = one_row l.block d l.row q l.placed.inside j l.placed.written.sized size (sym l.names ∙ f.3) in
      let own = one_block p V views kept l.own b r t.1 (complete_owned p V views kept id v at b complete) l.inside i in
      let alike : SameMeaning p V b r d q = subst (λ (x : Block × Block × ℕ). SameMeaning p V x.0 r x.1 x.2) (λ k. (own k, there.0 k, there.1 k)) l.alike in
      subst (λ (x : Term × Term). IsAlike x.0 x.1) (λ k. (meaning_same p V Y b (noted_states p v b nb V Y now agrees) r k, meaning_same p V Y d (noted_states p v d nd V Y now agrees) q k)) alike

  -- a block of the hand whose fields are all filled
  full_written : (b : Block) → Owns v.own b → IsFull p V b → IsWritten p V b
  full_written b owns full =
      let o = (kept.each id v at).own b owns in record {
        claimed = o.claimed;
        sized = o.sized;
        full = full;
        good = λ r f i l. o.good r f i l (full r f i l);
        reduced = o.reduced full;
      }

  -- nobody sees a block that is not full
  pub draft_unseen : (b : Block) (r : ℕ) → Owns v.own b → ¬ IsFull p V b → IsIn r b → IsUnseen p V b r
  draft_unseen b r o draft i = record { link = link_zero (V (link_at p r)) refl; cells = λ c l e. in_no_cell c l e; links = λ q l e. in_no_link q l e }
    where
      small : r < p.capacity
      small = let c = ((kept.each id v at).own b o).claimed in let m = kept.most in let i1 = i.1 in omega arith

      sized : b.size ≤ 1024
      sized = ((kept.each id v at).own b o).sized

      -- a written block that some hand claimed is not this one
      no_written : (d : Block) → IsIn r d → IsOwned views d → IsWritten p V d → ⊥
      no_written d j owned w = draft (subst (IsFull p V) (one_block p V views kept d b r owned (id, v, at, o) j i) w.full)

      link_zero : (n : ℕ) → V (link_at p r) ≡ n → V (link_at p r) ≡ 0
      link_zero zero e = e
      link_zero (suc n) e = let t = kept.links r small (omega arith) in absurd (no_written t.0.own t.0.inside t.1 t.0.written)

      in_no_cell : (c : ℕ) → c < p.cells → V (cell_at p c) ≡ pack_of b r → ⊥
      in_no_cell c l e =
          let t = kept.cells c l (omega arith) in
          let same = one_row t.0 b t.1 r t.2.inside i t.2.written.sized sized (sym t.2.names ∙ e) in
          draft (subst (IsFull p V) same.0 t.2.written.full)

      in_no_link : (q : ℕ) → q < p.capacity → V (link_at p q) ≡ pack_of b r → ⊥
      in_no_link q l e =
          let t = (kept.links q l (omega arith)).0 in
          let same = one_row t.block b t.row r t.placed.inside i t.placed.written.sized sized (sym t.names ∙ e) in
          draft (subst (IsFull p V) same.0 t.placed.written.full)

-- no step takes a fact back
keeps_fact : (v u : Note) (i x : ℕ) → Has v.facts i x → KeepsFact v u i x
keeps_fact v u i x h = record {
  looks = λ n. h;
  claims = λ start next. h;
  writes = more;
  learns = more;
  meets = λ j y. met_more j y (nat_eq y 0);
  meets_cell = λ j y. cell_more j y (nat_eq y 0);
  enters = more;
  meets_product = λ j y. product_more j y (nat_eq y 0);
  swaps = λ j y z. h;
  splits = (h, h);
  joins = (has_left v.facts u.facts i x h, has_right u.facts v.facts i x h);
}
  where
    more : (j y : ℕ) → Has (wrote v j y).facts i x
    more j y = has_left v.facts (fact j y ∷ []) i x h

    met_more : (j y : ℕ) (t : Bool) → Has (if t then ticked v j y y else learned v j y).facts i x
    met_more j y true = h
    met_more j y false = more j y

    cell_more : (j y : ℕ) (t : Bool) → Has (if t then missed_at v j y else learned v j y).facts i x
    cell_more j y true = h
    cell_more j y false = more j y

    product_more : (j y : ℕ) (t : Bool) → Has (if t then ticked v j y y else read_product v j y).facts i x
    product_more j y true = h
    product_more j y false = h

finished_join : (p : Plan) (v u : Note) → IsFinished p v → IsFinished p u → IsFinished p (united v u)
finished_join p v u h g b o r f i l = ⊎_elim (λ a. let n = h b a r f i l in (n.0, has_left v.facts u.facts (field_at p r f) n.0 n.1)) (λ a. let n = g b a r f i l in (n.0, has_right v.facts u.facts (field_at p r f) n.0 n.1)) (owns_either v.own u.own b o)

pub unique : HandlesAreUnique
unique = record {
  table = λ p W views a e b d kept h h' alike. one_handle p W views kept a e b d h h' alike;
  hand = λ v i n a e b d l h h' alike.
      let W = plain v.plan l.state.words in
      let kept = l.ruled.kept in
      one_handle v.plan W l.state.views kept a e b d (itself_seen v.plan W l.state.views kept l.seat v l.at a b h) (itself_seen v.plan W l.state.views kept l.seat v l.at e d h') (alike W (admits_now v.plan W l.state.views kept l.seat v l.at));
  block = λ p W views b d r kept o o' i j. one_block p W views kept b d r o o' i j;
}

pub machines : RowsShowOneMachine
machines = record {
  noted = λ v b noted Y Z a a'. noted_states v.plan v b noted Y Z a a';
  complete = λ v i n b l complete noted Y a. complete_known v.plan (plain v.plan l.state.words) l.state.views l.ruled.kept l.seat v l.at b complete noted Y a;
  link = λ v i n b d r q l complete j nb nd k size small has Y a. link_known v.plan (plain v.plan l.state.words) l.state.views l.ruled.kept l.seat v l.at b d r q complete j nb nd k size small has Y a;
  kept = keeps_fact;
  known = λ p few more Y sub a. (a.0, a.1, a.2, a.3, (λ i x h. a.4 i x (sub i x h)));
}

pub drafts : NoDraftIsLeft
drafts = record {
  finished = λ p W views k v b h finished o. noted_written p W views h.0 k v h.1 b o (finished b o);
  full = λ p W views k v b h o full. full_written p W views h.0 k v h.1 b o full;
  in_cell = λ p W views c b r kept l i small e. in_cell p W views kept c b r l i small e;
  in_link = λ p W views q b r kept l i small e. in_link p W views kept q b r l i small e;
  draft = λ p W views k v b r h o draft i. draft_unseen p W views h.0 k v h.1 b r o draft i;
  split = λ p v h. (h, (λ b o. absurd o));
  join = finished_join;
}
