-- What a hand may conclude from the word that a step met.
use Rattle.std.proofs.Common.{◌≡◌, ℕ, ◌<◌, ◌≤◌, sym, ap, ◌∙◌, subst, arith}
use Rattle.fr_words.proofs.Allowed.{within}
use Rattle.fr_layout.proofs.Spots.{field_below}
use Rattle.fr_layout.specs.Meaning.{IsGood}
use Rattle.fr_layout.specs.Packs.{IsPack}
use Rattle.fr_layout.specs.Places.{IsIn, cell_at, field_at, link_at, word_count}
use Rattle.fr_layout.specs.declared.plan.Block.{Block}
use Rattle.fr_layout.specs.declared.plan.Plan.{Plan}
use Rattle.fr_words.proofs.Knowing.{complete_written}
use Rattle.fr_words.specs.Asks.{IsComplete}
use Rattle.fr_words.specs.Lawful.{Lawful}
use Rattle.fr_words.specs.Members.{Has}
use Rattle.fr_words.specs.Rule.{plain}
use Rattle.fr_words.specs.declared.notes.Note.{Note}

module _ (v : Note) (i n : ℕ) (l : Lawful v i n) where
  abbrev W : ℕ → ℕ
  W = plain v.plan l.state.words

  pub word_is : i < word_count v.plan → W i ≡ n
  word_is small = within v.plan l.state.words i small ∙ l.is

  pub claim_range : i ≡ 0 → (v.seen ≤ n) × (n ≤ v.plan.capacity)
  claim_range e =
      let is : W 0 ≡ n = ap W (sym e) ∙ word_is (omega arith) in
      let seen = (l.ruled.kept.each l.seat v l.at).seen in
      let most = l.ruled.kept.most in
      (omega arith, omega arith)

  pub cell_pack : (c : ℕ) → i ≡ cell_at v.plan c → c < v.plan.cells → 0 < n → IsPack v.plan n
  cell_pack c e small lo =
      let is : W (cell_at v.plan c) ≡ n = ap W (sym e) ∙ word_is (omega arith) in
      let t = l.ruled.kept.cells c small (subst (λ (y : ℕ). 0 < y) (sym is) lo) in
      (t.0, t.1, sym is ∙ t.2.names, t.2.inside, t.2.written.sized, (let a = t.2.written.claimed in let m = l.ruled.kept.most in omega arith))

  pub link_pack : (r : ℕ) → i ≡ link_at v.plan r → r < v.plan.capacity → 0 < n → IsPack v.plan n
  link_pack r e small lo =
      let is : W (link_at v.plan r) ≡ n = ap W (sym e) ∙ word_is (omega arith) in
      let t = (l.ruled.kept.links r small (subst (λ (y : ℕ). 0 < y) (sym is) lo)).0 in
      (t.block, t.row, sym is ∙ t.names, t.placed.inside, t.placed.written.sized, (let a = t.placed.written.claimed in let m = l.ruled.kept.most in omega arith))

  pub complete_field : (r f : ℕ) → i ≡ field_at v.plan r f → r < v.plan.capacity → f ≤ v.plan.letters → (b : Block) → IsComplete v.plan v b → IsIn r b → (0 < n) × IsGood v.plan.letters b f n
  complete_field r f e small m b complete inside =
      let low = field_below v.plan r f small m in
      let is : W (field_at v.plan r f) ≡ n = ap W (sym e) ∙ word_is (omega arith) in
      let w = complete_written v.plan W l.state.views l.ruled.kept l.seat v l.at b complete in
      subst (λ (y : ℕ). (0 < y) × IsGood v.plan.letters b f y) is (w.full r f inside m, w.good r f inside m)

  -- nothing is noted of the fields of a row that is not claimed yet
  pub fresh_field : i ≡ 0 → (r f x : ℕ) → n ≤ r → r < v.plan.capacity → f ≤ v.plan.letters → ¬ Has v.facts (field_at v.plan r f) x
  fresh_field e r f x above small m has =
      let is : W 0 ≡ n = ap W (sym e) ∙ word_is (omega arith) in
      let k = (l.ruled.kept.each l.seat v l.at).facts (field_at v.plan r f) x has in
      let some = k.2 in let there = k.3 in
      let empty = l.ruled.kept.fresh r f (omega arith) small m in omega arith

-- the same where the sizes are given otherwise
module _ (q : Plan) (v : Note) (plan : v.plan ≡ q) (i n : ℕ) (l : Lawful v i n) where
  pub cell_pack_at : (c : ℕ) → i ≡ cell_at q c → c < q.cells → 0 < n → IsPack q n
  cell_pack_at c = subst (λ (p : Plan). i ≡ cell_at p c → c < p.cells → 0 < n → IsPack p n) plan (cell_pack v i n l c)

  pub link_pack_at : (r : ℕ) → i ≡ link_at q r → r < q.capacity → 0 < n → IsPack q n
  link_pack_at r = subst (λ (p : Plan). i ≡ link_at p r → r < p.capacity → 0 < n → IsPack p n) plan (link_pack v i n l r)

  pub complete_field_at : (r f : ℕ) → i ≡ field_at q r f → r < q.capacity → f ≤ q.letters → (b : Block) → IsComplete q v b → IsIn r b → (0 < n) × IsGood q.letters b f n
  complete_field_at r f = subst (λ (p : Plan). i ≡ field_at p r f → r < p.capacity → f ≤ p.letters → (b : Block) → IsComplete p v b → IsIn r b → (0 < n) × IsGood p.letters b f n) plan (complete_field v i n l r f)

  pub fresh_field_at : i ≡ 0 → (r f x : ℕ) → n ≤ r → r < q.capacity → f ≤ q.letters → ¬ Has v.facts (field_at q r f) x
  fresh_field_at e r f x = subst (λ (p : Plan). n ≤ r → r < p.capacity → f ≤ p.letters → ¬ Has v.facts (field_at p r f) x) plan (fresh_field v i n l e r f x)
