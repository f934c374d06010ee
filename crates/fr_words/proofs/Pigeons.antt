-- Not all cells are full: different full cells have different rows, and there are fewer rows than cells.
use Rattle.std.proofs.Common.{◌⊎◌, ⊎_elim, inl, inr, ◌≡◌, ◌≢◌, List, ℕ, zero, suc, ◌<◌, ◌≤◌, refl, sym, ◌∙◌, subst, arith}
use mathlib.Core.Logic.{dite}
use native.Mathlib.Decide.{dec_le, ℕ_discrete}
use Rattle.fr_model.proofs.AlikeLaws.{alike_refl}
use Rattle.fr_layout.specs.Entries.{IsPlaced}
use Rattle.fr_layout.specs.Meaning.{SameMeaning, row_meaning}
use Rattle.fr_layout.specs.Places.{IsIn, cell_at}
use Rattle.fr_layout.specs.declared.plan.Block.{Block}
use Rattle.fr_layout.specs.declared.plan.Plan.{Plan}
use Rattle.fr_words.proofs.Learned.{one_block}
use Rattle.fr_words.specs.Laws.{SomeCellIsEmpty}
use Rattle.fr_words.specs.Rule.{Kept, plain}
use Rattle.fr_words.specs.declared.notes.Note.{Note}

abbrev pick : {P : Type 0} → Dec P → ℕ → ℕ → ℕ
pick (yes _) a b = a
pick (no _) a b = b

-- x, or y in place of n
other : ℕ → ℕ → ℕ → ℕ
other n y x = pick (ℕ_discrete x n) y x

other_here : (n y x : ℕ) → x ≡ n → other n y x ≡ y
unfolding other
other_here n y x e = go (ℕ_discrete x n)
  where
    go : (d : Dec (x ≡ n)) → pick d y x ≡ y
    go (yes _) = refl
    go (no h) = absurd (h e)

other_else : (n y x : ℕ) → x ≢ n → other n y x ≡ x
unfolding other
other_else n y x h = go (ℕ_discrete x n)
  where
    go : (d : Dec (x ≡ n)) → pick d y x ≡ x
    go (yes e) = absurd (h e)
    go (no _) = refl

pub at_most : (m n : ℕ) (f : ℕ → ℕ) → ((i : ℕ) → i < m → f i < n) → ((i j : ℕ) → i < m → j < m → f i ≡ f j → i ≡ j) → m ≤ n
at_most zero n f small apart = omega arith
at_most (suc m) zero f small apart = let h = small 0 (omega arith) in absurd (omega arith)
at_most (suc m) (suc n) f small apart = let h = at_most m n (λ i. other n (f m) (f i)) small' apart' in omega arith
  where
    last : (i : ℕ) → i < m → f i ≢ f m
    last i l e = let h = apart i m (omega arith) (omega arith) e in omega arith

    small' : (i : ℕ) → i < m → other n (f m) (f i) < n
    small' i l = dite (ℕ_discrete (f i) n)
        (λ e. let o = other_here n (f m) (f i) e in let s = small m (omega arith) in let d = last i l in omega arith)
        (λ ne. let o = other_else n (f m) (f i) ne in let s = small i (omega arith) in omega arith)

    apart' : (i j : ℕ) → i < m → j < m → other n (f m) (f i) ≡ other n (f m) (f j) → i ≡ j
    apart' i j l k e = dite (ℕ_discrete (f i) n)
        (λ a. dite (ℕ_discrete (f j) n) (λ b. apart i j (omega arith) (omega arith) (a ∙ sym b)) (λ b. let o = other_here n (f m) (f i) a in let o' = other_else n (f m) (f j) b in let d = last j k in absurd (omega arith)))
        (λ a. dite (ℕ_discrete (f j) n) (λ b. let o = other_else n (f m) (f i) a in let o' = other_here n (f m) (f j) b in let d = last i l in absurd (omega arith)) (λ b. let o = other_else n (f m) (f i) a in let o' = other_else n (f m) (f j) b in apart i j (omega arith) (omega arith) (omega arith)))

-- the cells are not all full
pub not_all_full : (p : Plan) (W : ℕ → ℕ) (views : List Note) → Kept p W views → ¬ ((c : ℕ) → c < p.cells → 0 < W (cell_at p c))
not_all_full p W views kept full = let few : p.capacity < p.cells = (let a = kept.planned.room in let b = kept.planned.some_row in omega arith) in let h = at_most p.cells p.capacity row below apart in omega arith
  where
    named : (c : ℕ) → c < p.cells → (b : Block) × (r : ℕ) × IsPlaced p W (cell_at p c) b r
    named c l = kept.cells c l (full c l)

    row_if : (c : ℕ) → Dec (c < p.cells) → ℕ
    row_if c (yes l) = (named c l).1
    row_if c (no _) = 0

    row : ℕ → ℕ
    row c = row_if c (dec_le (suc c) p.cells)

    below : (c : ℕ) → c < p.cells → row c < p.capacity
    below c l = go (dec_le (suc c) p.cells)
      where
        go : (d : Dec (c < p.cells)) → row_if c d < p.capacity
        go (yes k) = let n = (named c k).2 in let a = n.written.claimed in let i = n.inside.1 in let m = kept.most in omega arith
        go (no h) = absurd (h l)

    one : (c e : ℕ) → c < p.cells → e < p.cells → (b d : Block) (r q : ℕ) → IsPlaced p W (cell_at p c) b r → IsPlaced p W (cell_at p e) d q → r ≡ q → c ≡ e
    one c e l m b d r q h h' same =
        let block = one_block p W views kept b d r (kept.owned c l b r h) (kept.owned e m d q h') h.inside (subst (λ (x : ℕ). IsIn x d) (sym same) h'.inside) in
        kept.unlike c e b d r q l m h h' (subst (λ (x : Block × ℕ). SameMeaning p W b r x.0 x.1) (λ k. (block k, same k)) (alike_refl (row_meaning p W b r)))

    apart : (c e : ℕ) → c < p.cells → e < p.cells → row c ≡ row e → c ≡ e
    apart c e l m = go (dec_le (suc c) p.cells) (dec_le (suc e) p.cells)
      where
        go : (d : Dec (c < p.cells)) (d' : Dec (e < p.cells)) → row_if c d ≡ row_if e d' → c ≡ e
        go (no h) _ same = absurd (h l)
        go (yes k) (no h) same = absurd (h m)
        go (yes k) (yes k') same = let n = named c k in let n' = named e k' in one c e k k' n.0 n'.0 n.1 n'.1 n.2 n'.2 same

-- a cell that is 0 is found by looking at each
first_empty : (W : ℕ → ℕ) (p : Plan) (m : ℕ) → ((c : ℕ) × (c < m) × (W (cell_at p c) ≡ 0)) ⊎ ((c : ℕ) → c < m → 0 < W (cell_at p c))
first_empty W p zero = inr (λ c l. absurd (omega arith))
first_empty W p (suc m) = ⊎_elim (λ (t : (c : ℕ) × (c < m) × (W (cell_at p c) ≡ 0)). inl (t.0, (let a = t.1 in omega arith), t.2))
    (λ full. dite (ℕ_discrete (W (cell_at p m)) 0) (λ e. inl (m, omega arith, e)) (λ n. inr (λ c l. dite (ℕ_discrete c m) (λ e. subst (λ (x : ℕ). 0 < W (cell_at p x)) (sym e) (omega arith)) (λ ne. full c (omega arith)))))
    (first_empty W p m)

pub empty_cell : (p : Plan) (W : ℕ → ℕ) (views : List Note) → Kept p W views → (c : ℕ) × (c < p.cells) × (W (cell_at p c) ≡ 0)
empty_cell p W views kept = ⊎_elim (λ t. t) (λ full. absurd (not_all_full p W views kept full)) (first_empty W p p.cells)

pub some_empty : SomeCellIsEmpty
some_empty = record {
  table = empty_cell;
  hand = λ v i n l all.
      let W = plain v.plan l.state.words in
      let t = empty_cell v.plan W l.state.views l.ruled.kept in
      let f = all t.0 t.1 in
      let k = (l.ruled.kept.each l.seat v l.at).facts (cell_at v.plan t.0) f.0 f.1 in
      let a = k.2 in let b = k.3 in let e = t.2 in omega arith;
}
