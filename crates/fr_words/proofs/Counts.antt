-- A hand that has the whole tree claimed as many rows as the claim word says.
use Rattle.std.proofs.Common.{nat_lt, ◌≡◌, ◌≢◌, ℕ, zero, suc, ◌+◌, ◌-◌, ◌<◌, ◌≤◌, min, List, [], ◌∷◌, refl, sym, ap, ◌∙◌, inl, inr, arith}
use mathlib.Core.Option.{some}
use lib.ListN.{get_elem?}
use Rattle.fr_line.specs.Lines.{only_if, below, Whole}
use Rattle.fr_line.proofs.Totals.{total_one}
use Rattle.fr_line.proofs.Weaving.{whole_alone}
use Rattle.fr_layout.specs.Places.{cell_at, is_in}
use Rattle.fr_layout.specs.declared.plan.Block.{Block}
use Rattle.fr_layout.specs.declared.plan.Plan.{Plan}
use Rattle.fr_words.proofs.Covering.{below_block}
use Rattle.fr_words.proofs.Told.{word_is}
use Rattle.fr_words.specs.Laws.{WholeHandsOwnAll}
use Rattle.fr_words.specs.Members.{Owns, covers, rows_of, times}
use Rattle.fr_words.specs.Notes.{spent}
use Rattle.fr_words.specs.Rule.{Kept, plain}
use Rattle.fr_words.specs.declared.notes.Claim.{Claim}
use Rattle.fr_words.specs.declared.notes.Note.{Note}

upto : ℕ → (ℕ → ℕ) → ℕ
upto zero f = 0
upto (suc n) f = upto n f + f n

upto_same : (n : ℕ) (f g : ℕ → ℕ) → ((r : ℕ) → f r ≡ g r) → upto n f ≡ upto n g
unfolding upto
upto_same zero f g h = refl
upto_same (suc n) f g h = let e = h n in let i = upto_same n f g h in omega arith

upto_add : (n : ℕ) (f g : ℕ → ℕ) → upto n (λ r. f r + g r) ≡ upto n f + upto n g
unfolding upto
upto_add zero f g = refl
upto_add (suc n) f g = let i = upto_add n f g in omega arith

step_below : (k n : ℕ) → min k n + below k n ≡ min (suc k) n
step_below k n = grind arith

upto_below : (k n : ℕ) → upto k (λ r. below r n) ≡ min k n
unfolding upto
upto_below zero n = omega arith
upto_below (suc k) n = let i = upto_below k n in let s = step_below k n in omega arith

upto_block : (k : ℕ) (b : Block) → b.start + b.size ≤ k → upto k (λ r. only_if (is_in r b) 1) ≡ b.size
upto_block k b h =
    let e = upto_same k (λ r. below r (b.start + b.size)) (λ r. below r b.start + only_if (is_in r b) 1) (λ r. below_block r b.start (b.start + b.size) (omega arith) ∙ ap (λ (s : ℕ). below r b.start + only_if (is_in r (record { start = b.start; size = s })) 1) (let z : (b.start + b.size) - b.start ≡ b.size = omega arith in z)) in
    let a = upto_add k (λ r. below r b.start) (λ r. only_if (is_in r b) 1) in
    let x = upto_below k (b.start + b.size) in let y = upto_below k b.start in omega arith

upto_rows : (k : ℕ) (cs : List Claim) → ((b : Block) → Owns cs b → b.start + b.size ≤ k) → upto k (λ r. covers r cs) ≡ rows_of cs
unfolding upto
upto_rows k [] h = nothing k
  where
    nothing : (k : ℕ) → upto k (λ r. 0) ≡ 0
    nothing zero = refl
    nothing (suc n) = let i = nothing n in omega arith
upto_rows k (c ∷ cs) h = let a = upto_add k (λ r. only_if (is_in r c.block) 1) (λ r. covers r cs) in let x = upto_block k c.block (h c.block (inl refl)) in let y = upto_rows k cs (λ d o. h d (inr o)) in omega arith

module _ (p : Plan) (W : ℕ → ℕ) (views : List Note) (kept : Kept p W views) (id : ℕ) (v : Note) (at : get_elem? views id ≡ some v) (whole : Whole v.line) where
  -- the other hands have nothing
  nothing : (j : ℕ) (u : Note) → j ≢ id → get_elem? views j ≡ some u → (u.own ≡ []) × (u.made ≡ [])
  nothing j u other at' =
      let e : u ≡ spent = (kept.each j u at').joined (whole_alone (λ (x : Note). x.line) views id j v u other at at' kept.woven whole) in
      (ap (λ (x : Note). x.own) e, ap (λ (x : Note). x.made) e)

  -- so the hand claimed all rows
  pub whole_rows : rows_of v.own ≡ W 0
  whole_rows =
      let all : (r : ℕ) → covers r v.own ≡ below r (W 0) = λ r. sym (total_one (λ (u : Note). covers r u.own) views id v at (λ j u other at'. ap (covers r) (nothing j u other at').0)) ∙ kept.cover r in
      let s = upto_rows (W 0) v.own (λ b o. ((kept.each id v at).own b o).claimed) in
      let e = upto_same (W 0) (λ r. covers r v.own) (λ r. below r (W 0)) all in
      let b = upto_below (W 0) (W 0) in omega arith

  -- and filled all full cells
  pub whole_cells : (c : ℕ) → c < p.cells → times (cell_at p c) v.made ≡ only_if (nat_lt 0 (W (cell_at p c))) 1
  whole_cells c small = sym (total_one (λ (u : Note). times (cell_at p c) u.made) views id v at (λ j u other at'. ap (times (cell_at p c)) (nothing j u other at').1)) ∙ kept.filled c small

pub whole : WholeHandsOwnAll
whole = record {
  rows = λ v n l all. let r = whole_rows v.plan (plain v.plan l.state.words) l.state.views l.ruled.kept l.seat v l.at all in r ∙ word_is v 0 n l (omega arith);
  seen = λ v i n l all.
      let r = whole_rows v.plan (plain v.plan l.state.words) l.state.views l.ruled.kept l.seat v l.at all in
      let s = (l.ruled.kept.each l.seat v l.at).seen in omega arith;
  cells = λ v c n l small all.
      let w = whole_cells v.plan (plain v.plan l.state.words) l.state.views l.ruled.kept l.seat v l.at all c small in
      w ∙ ap (λ (y : ℕ). only_if (nat_lt 0 y) 1) (word_is v (cell_at v.plan c) n l (omega arith));
}
