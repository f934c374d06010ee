-- The same, as the calls of a hand meet it: k is the table's key, and i the word that was computed.
use Rattle.std.proofs.Common.{◌≡◌, ℕ, ◌+◌, ◌<◌, ◌≤◌, eqb, List, sym, subst, arith}
use mathlib.Core.Option.{none}
use prog.Atomic.{either}
use Rattle.atomic_table.specs.Table.{step, Allows, Joins}
use Rattle.fr_line.specs.Lines.{IsLive}
use Rattle.fr_words.proofs.Allowed.{claim_allows, join_allows, fill_allows, meet_allows, cell_allows, enter_allows, link_allows, product_allows, swap_allows}
use Rattle.fr_layout.proofs.Spots.{field_below}
use Rattle.fr_layout.specs.Packs.{pack_of}
use Rattle.fr_layout.specs.Places.{cache_at, cache_size, cell_at, field_at, link_at}
use Rattle.fr_layout.specs.declared.plan.Block.{Block}
use Rattle.fr_layout.specs.declared.plan.Plan.{Plan}
use Rattle.fr_words.specs.Asks.{IsFinished, MayCache, MayEnter, MayFill, MayLink}
use Rattle.fr_words.specs.Lawful.{claims, enters_cell, fills, meets, meets_cell, meets_product, sets_link, swaps}
use Rattle.fr_words.specs.Notes.{spent, united}
use Rattle.fr_words.specs.Rule.{RuledBy}
use Rattle.fr_words.specs.declared.notes.Note.{Note}

module _ (k p : Plan) (key : k ≡ p) (slots i id : ℕ) (v : Note) (c : List (ℕ × ℕ)) (live : IsLive v.line) where
  pub claims_at : (old new : ℕ) → IsFinished p v → old < new → new ≤ old + 1024 → new ≤ p.capacity → Allows (RuledBy k) slots id (v, c) 0 (λ n. either (eqb n old) new n) (claims (step slots 0 old new none) (v, c))
  claims_at old new finished a b room = subst (λ (q : Plan). Allows (RuledBy q) slots id (v, c) 0 (λ n. either (eqb n old) new n) (claims (step slots 0 old new none) (v, c))) (sym key) (claim_allows p slots id old new v c live finished a b room)

  pub fills_at : (b : Block) (r f x : ℕ) → i ≡ field_at p r f → r < p.capacity → MayFill p v b r f x → Allows (RuledBy k) slots id (v, c) i (λ _. x) (λ _. fills (step slots i x 0 none) (v, c) x)
  fills_at b r f x is a asks = subst (λ (q : Plan × ℕ). Allows (RuledBy q.0) slots id (v, c) q.1 (λ _. x) (λ _. fills (step slots q.1 x 0 none) (v, c) x)) (λ j. (sym key j, sym is j)) (fill_allows p slots id v c b r f x live a asks)

  pub meets_field : (r f : ℕ) → i ≡ field_at p r f → r < p.capacity → f ≤ p.letters → Allows (RuledBy k) slots id (v, c) i (λ n. n) (meets (step slots i 0 0 none) (v, c))
  meets_field r f is a b = subst (λ (q : Plan). Allows (RuledBy q) slots id (v, c) i (λ n. n) (meets (step slots i 0 0 none) (v, c))) (sym key) (meet_allows p slots i id v c live (omega arith) (let h = field_below p r f a b in omega arith))

  pub meets_link : (r : ℕ) → i ≡ link_at p r → r < p.capacity → Allows (RuledBy k) slots id (v, c) i (λ n. n) (meets (step slots i 0 0 none) (v, c))
  meets_link r is a = subst (λ (q : Plan). Allows (RuledBy q) slots id (v, c) i (λ n. n) (meets (step slots i 0 0 none) (v, c))) (sym key) (meet_allows p slots i id v c live (omega arith) (omega arith))

  pub meets_a_cell : (e : ℕ) → i ≡ cell_at p e → e < p.cells → Allows (RuledBy k) slots id (v, c) i (λ n. n) (meets_cell (step slots i 0 0 none) (v, c))
  meets_a_cell e is a = subst (λ (q : Plan). Allows (RuledBy q) slots id (v, c) i (λ n. n) (meets_cell (step slots i 0 0 none) (v, c))) (sym key) (cell_allows p slots i id v c live (omega arith) (omega arith))

  pub enters_at : (e pack : ℕ) (b : Block) (r : ℕ) → i ≡ cell_at p e → pack ≡ pack_of b r → e < p.cells → MayEnter p v b r e → Allows (RuledBy k) slots id (v, c) i (λ n. either (eqb n 0) pack n) (enters_cell (step slots i 0 pack none) (v, c))
  enters_at e pack b r is named a asks = subst (λ (q : Plan × ℕ × ℕ). Allows (RuledBy q.0) slots id (v, c) q.1 (λ n. either (eqb n 0) q.2 n) (enters_cell (step slots q.1 0 q.2 none) (v, c))) (λ j. (sym key j, sym is j, sym named j)) (enter_allows p slots id e v c b r live a asks)

  pub links_at : (r pack : ℕ) (d : Block) (q : ℕ) → i ≡ link_at p r → pack ≡ pack_of d q → r < p.capacity → MayLink p v r d q → Allows (RuledBy k) slots id (v, c) i (λ n. either (eqb n 0) pack n) (sets_link (step slots i 0 pack none) (v, c))
  links_at r pack d q is named a asks = subst (λ (y : Plan × ℕ × ℕ). Allows (RuledBy y.0) slots id (v, c) y.1 (λ n. either (eqb n 0) y.2 n) (sets_link (step slots y.1 0 y.2 none) (v, c))) (λ j. (sym key j, sym is j, sym named j)) (link_allows p slots id r v c d q live a asks)

  pub meets_a_product : (j : ℕ) → i ≡ cache_at p j → j < cache_size → Allows (RuledBy k) slots id (v, c) i (λ n. n) (meets_product (step slots i 0 0 none) (v, c))
  meets_a_product j is a = subst (λ (q : Plan). Allows (RuledBy q) slots id (v, c) i (λ n. n) (meets_product (step slots i 0 0 none) (v, c))) (sym key) (product_allows p slots i j id v c live is a)

  pub swaps_at : (j new : ℕ) → i ≡ cache_at p j → j < cache_size → MayCache p v new → Allows (RuledBy k) slots id (v, c) i (λ _. new) (swaps (step slots i new 0 none) (v, c))
  swaps_at j new is a asks = subst (λ (q : Plan). Allows (RuledBy q) slots id (v, c) i (λ _. new) (swaps (step slots i new 0 none) (v, c))) (sym key) (swap_allows p slots i j new id v c live is a asks)

pub joins_at : (k p : Plan) → k ≡ p → (id other : ℕ) (v u : Note) → IsLive v.line → IsFinished p u → Joins (RuledBy k) id v other u (united v u) spent
joins_at k p key id other v u live finished = join_allows k id other v u live (subst (λ (q : Plan). IsFinished q u) (sym key) finished)
