-- A row lies in one block of one hand.
use Rattle.std.proofs.Common.{◌≡◌, ◌≢◌, ℕ, ◌+◌, ◌-◌, ◌<◌, ◌≤◌, Bool, true, List, [], ◌∷◌, ◌++◌, sym, ap, ◌∙◌, ⊎_elim, arith}
use mathlib.Core.Option.{some}
use lib.ListN.{get_elem?}
use Rattle.fr_line.specs.Lines.{only_if, below}
use Rattle.fr_line.proofs.Totals.{total_at, total_two}
use Rattle.fr_layout.specs.Places.{IsIn, is_in}
use Rattle.fr_layout.specs.declared.plan.Block.{Block}
use Rattle.fr_layout.specs.declared.plan.Plan.{Plan}
use Rattle.fr_words.specs.Members.{Owns, covers, times}
use Rattle.fr_words.specs.Rule.{Kept}
use Rattle.fr_words.specs.declared.notes.Claim.{Claim}
use Rattle.fr_words.specs.declared.notes.Note.{Note}

pub is_in_yes : (r : ℕ) (b : Block) → IsIn r b → is_in r b ≡ true
is_in_yes r b h = grind arith

pub covers_in : (bs : List Claim) (b : Block) (r : ℕ) → Owns bs b → IsIn r b → 0 < covers r bs
covers_in [] b r o i = absurd o
covers_in (c ∷ cs) b r o i = ⊎_elim (λ (e : c.block ≡ b). let t : is_in r c.block ≡ true = ap (is_in r) e ∙ is_in_yes r b i in let u : only_if (is_in r c.block) 1 ≡ 1 = ap (λ (x : Bool). only_if x 1) t in omega arith)
    (λ (t : Owns cs b). let h = covers_in cs b r t i in omega arith) o

pub covers_two : (bs : List Claim) (b d : Block) (r : ℕ) → Owns bs b → Owns bs d → IsIn r b → IsIn r d → covers r bs ≤ 1 → b ≡ d
covers_two [] b d r o q i j h = absurd o
covers_two (c ∷ cs) b d r o q i j h = ⊎_elim
    (λ (e : c.block ≡ b). ⊎_elim (λ (e' : c.block ≡ d). sym e ∙ e') (λ (t' : Owns cs d). absurd (let u = one e i in let k = covers_in cs d r t' j in omega arith)) q)
    (λ (t : Owns cs b). ⊎_elim (λ (e' : c.block ≡ d). absurd (let u = one e' j in let k = covers_in cs b r t i in omega arith)) (λ (t' : Owns cs d). covers_two cs b d r t t' i j (omega arith)) q)
    o
  where
    one : {x : Block} → c.block ≡ x → IsIn r x → only_if (is_in r c.block) 1 ≡ 1
    one {x} e i = ap (λ (y : Bool). only_if y 1) (ap (is_in r) e ∙ is_in_yes r x i)

pub covers_append : (r : ℕ) (bs cs : List Claim) → covers r (bs ++ cs) ≡ covers r bs + covers r cs
covers_append r [] cs = omega arith
covers_append r (b ∷ bs) cs = let h = covers_append r bs cs in omega arith

pub times_append : (i : ℕ) (xs ys : List ℕ) → times i (xs ++ ys) ≡ times i xs + times i ys
times_append i [] ys = omega arith
times_append i (x ∷ xs) ys = let h = times_append i xs ys in omega arith

-- the rows from start to below next, one by one
pub below_block : (r start next : ℕ) → start ≤ next → below r next ≡ below r start + only_if (is_in r (record { start = start; size = next - start })) 1
below_block r start next h = grind arith

pub below_le : (k n : ℕ) → below k n ≤ 1
below_le k n = grind arith

module _ (p : Plan) (W : ℕ → ℕ) (views : List Note) (kept : Kept p W views) (id : ℕ) (v : Note) (at : get_elem? views id ≡ some v) (b : Block) (r : ℕ) (mine : Owns v.own b) (inside : IsIn r b) where
  pub not_others : (j : ℕ) (u : Note) (d : Block) → j ≢ id → get_elem? views j ≡ some u → Owns u.own d → ¬ IsIn r d
  not_others j u d other at' o i =
      let t = total_two (λ (x : Note). covers r x.own) views id j v u other at at' in
      let c = kept.cover r in let l = below_le r (W 0) in
      let m = covers_in v.own b r mine inside in let n = covers_in u.own d r o i in omega arith

  pub not_another : (d : Block) → Owns v.own d → IsIn r d → d ≡ b
  not_another d o i =
      let t = total_at (λ (x : Note). covers r x.own) views id v at in
      let c = kept.cover r in let l = below_le r (W 0) in
      covers_two v.own d b r o mine i inside (omega arith)
