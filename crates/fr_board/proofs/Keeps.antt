-- Each step keeps the rule of the board, and a new board meets it.
use Rattle.std.proofs.Common.{◌≡◌, ◌≢◌, ℕ, zero, suc, ◌+◌, ◌<◌, ◌≤◌, eqb, List, [], ◌∷◌, ◌++◌, get_or, set, refl, sym, ap, ◌∙◌, subst, ⊎_elim, arith, slice_index, length-set, get_or-set_same}
use mathlib.Core.Option.{Option, none, some, some-injective, some-ne-none}
use lib.ListN.{get_elem?}
use prog.Atomic.{either}
use Rattle.atomic_table.specs.Table.{State, step, Act, keeps, Valid, carried_after, stepped, Allows, Splits, Joins, opening}
use Rattle.atomic_table.proofs.Lists.{at_set, at_snoc, set_else, exchanged}
use Rattle.fr_line.specs.declared.Branch.{Branch}
use Rattle.fr_line.specs.Lines.{below, Whole, IsLive, cut, sprout}
use Rattle.fr_line.proofs.Totals.{total_set, total_snoc, total_at, total_one}
use Rattle.fr_line.proofs.Weaving.{below_more, woven_step, woven_join, woven_split, woven_first, whole_alone, not_live, head_of, uncut, live_append}
use Rattle.fr_board.specs.declared.notes.Drawn.{Drawn}
use Rattle.fr_board.specs.Dealing.{times, newcomer, Knows, Dealt, looked, took, IsSettled, looks, takes_piece, parted, sprouted, united, spent}

pub times_append : (p : ℕ) (xs ys : List ℕ) → times p (xs ++ ys) ≡ times p xs + times p ys
times_append p [] ys = omega arith
times_append p (x ∷ xs) ys = let h = times_append p xs ys in omega arith

module _ (limit : ℕ) where
  -- a whole draw has what was drawn
  drawn : (s : State ℕ Drawn) → Dealt limit s → (i : ℕ) (v : Drawn) → get_elem? s.views i ≡ some v → Whole v.line → (p : ℕ) → times p v.pieces ≡ below p (slice_index s.words 0)
  drawn s r i v at all p = sym (total_one (λ (u : Drawn). times p u.pieces) s.views i v at (λ j u other at'. ap (times p) ((r.each j u at').spent (whole_alone (λ (u : Drawn). u.line) s.views i j v u other at at' r.woven all)))) ∙ r.once p

  -- each piece of a draw was drawn, and is its own alone
  apart : (s : State ℕ Drawn) → Dealt limit s → (i : ℕ) (v : Drawn) → get_elem? s.views i ≡ some v → (p : ℕ) → times p v.pieces ≤ below p (slice_index s.words 0)
  apart s r i v at p = let t = total_at (λ (u : Drawn). times p u.pieces) s.views i v at in let o = r.once p in omega arith

  -- after a step that left the word
  settles : (s : State ℕ Drawn) → Dealt limit s → (i : ℕ) (v : Drawn) → get_elem? s.views i ≡ some v → IsLive v.line → IsSettled (looked v (slice_index s.words 0))
  settles s r i v at live = record {
    met = refl;
    most = let l = (r.each i v at).limited live in let m = r.most in omega arith;
    once = apart s r i v at;
    whole = drawn s r i v at;
  }

  -- after a step that raised it
  settles_more : (s : State ℕ Drawn) → Dealt limit s → (i : ℕ) (v : Drawn) → get_elem? s.views i ≡ some v → IsLive v.line → slice_index s.words 0 < limit → IsSettled (took v (slice_index s.words 0))
  settles_more s r i v at live room = record {
    met = refl;
    most = let l = (r.each i v at).limited live in omega arith;
    once = λ p.
        let n : ℕ = slice_index s.words 0 in
        let d = apart s r i v at p in
        let a = times_append p v.pieces (n ∷ []) in
        let m = below_more p n in
        omega arith;
    whole = λ all p.
        let n : ℕ = slice_index s.words 0 in
        let d = drawn s r i v at all p in
        let a = times_append p v.pieces (n ∷ []) in
        let m = below_more p n in
        omega arith;
  }

  -- what is known stays true as the word rises
  later : (n m : ℕ) (v : Drawn) → n ≤ m → Knows limit n v → Knows limit m v
  later n m v le k = record { limited = k.limited; seen = let h = k.seen in omega arith; last = k.last; idle = k.idle; spent = k.spent }

  -- a draw with the view v makes a step to w, and the word becomes m
  moved : (s : State ℕ Drawn) → Dealt limit s → (i m : ℕ) (v w : Drawn) (homes : List (Option ℕ)) → get_elem? s.views i ≡ some v → slice_index s.words 0 ≤ m → m ≤ limit → w.line ≡ v.line → Knows limit m w
      → ((p : ℕ) → below p m + times p v.pieces ≡ below p (slice_index s.words 0) + times p w.pieces)
      → Dealt limit record { words = set s.words 0 m; homes = homes; views = set s.views i w }
  moved s r i m v w homes at up most same knows gain = record {
    wide = length-set s.words 0 m ∙ r.wide;
    most = let e = now in omega arith;
    once = λ p. let t = total_set (λ (u : Drawn). times p u.pieces) s.views i v w at in let o = r.once p in let g = gain p in
        let e : below p (get_or (set s.words 0 m) 0 0) ≡ below p m = ap (below p) now in omega arith;
    each = λ j u at'. subst (λ (x : ℕ). Knows limit x u) (sym now) (⊎_elim (λ (t : (j ≡ i) × (w ≡ u)). subst (Knows limit m) t.1 knows) (λ (t : (j ≢ i) × (get_elem? s.views j ≡ some u)). later (slice_index s.words 0) m u up (r.each j u t.1)) (at_set s.views i j w u at'));
    woven = woven_step (λ (u : Drawn). u.line) s.views i v w at same r.woven;
  }
    where
      now : get_or (set s.words 0 m) 0 0 ≡ m
      now = get_or-set_same s.words 0 m 0 (let h = r.wide in omega arith)

  -- a load
  pub look_keeps : (slots id : ℕ) (v : Drawn) (c : List (ℕ × ℕ)) → IsLive v.line → Allows (Dealt limit) slots id (v, c) 0 (λ n. n) (looks (step slots 0 0 0 none) (v, c))
  look_keeps slots id v c live s r deep at fits =
      let n : ℕ = slice_index s.words 0 in let k = r.each id v at in (
        looked v n,
        keeps,
        tt,
        moved s r id n v (looked v n) s.homes at (omega arith) r.most refl record { limited = k.limited; seen = omega arith; last = omega arith; idle = λ z. omega arith; spent = k.spent } (λ p. refl),
        (refl, k.seen, settles s r id v at live),
      )

  -- an exchange from the number of a piece to the next
  pub take_keeps : (slots id old : ℕ) (v : Drawn) (c : List (ℕ × ℕ)) → IsLive v.line → old < limit → Allows (Dealt limit) slots id (v, c) 0 (λ n. either (eqb n old) (old + 1) n) (takes_piece (step slots 0 old (old + 1) none) (v, c))
  take_keeps slots id old v c live room s r deep at fits =
      let n : ℕ = slice_index s.words 0 in let k = r.each id v at in
      exchanged n old (old + 1) (λ m. (w : Drawn) × (a : Act ℕ) × Valid s.homes c a × Dealt limit (stepped s 0 m id c w a) × takes_piece (step slots 0 old (old + 1) none) (v, c) n (w, carried_after c a))
      (λ hit. let up : old + 1 ≡ suc n = omega arith in (
        took v n,
        keeps,
        tt,
        moved s r id (old + 1) v (took v n) s.homes at (omega arith) (omega arith) refl record { limited = k.limited; seen = omega arith; last = omega arith; idle = λ z. omega arith; spent = λ e. absurd (not_live v.line live e) }
            (λ p. let m = below_more p n in let e : below p (old + 1) ≡ below p (suc n) = ap (below p) up in let a = times_append p v.pieces (n ∷ []) in omega arith),
        ((λ _. refl), (λ no. absurd (no hit)), k.seen, settles_more s r id v at live (omega arith)),
      ))
      (λ miss. (
        looked v n,
        keeps,
        tt,
        moved s r id n v (looked v n) s.homes at (omega arith) r.most refl record { limited = k.limited; seen = omega arith; last = omega arith; idle = λ z. omega arith; spent = k.spent } (λ p. refl),
        ((λ hit. absurd (miss hit)), (λ _. refl), k.seen, settles s r id v at live),
      ))

  -- a split
  pub split_keeps : (id : ℕ) (v : Drawn) → IsLive v.line → Splits (Dealt limit) id v (parted v) (sprouted v)
  split_keeps id v live s r at = record {
    wide = r.wide;
    most = r.most;
    once = λ p. let t = total_set (λ (u : Drawn). times p u.pieces) s.views id v (parted v) at in let q = total_snoc (λ (u : Drawn). times p u.pieces) (set s.views id (parted v)) (sprouted v) in let o = r.once p in omega arith;
    each = λ j u at'. ⊎_elim (λ (e : get_elem? (set s.views id (parted v)) j ≡ some u). ⊎_elim (λ (t : (j ≡ id) × (parted v ≡ u)). subst (Knows limit (slice_index s.words 0)) t.1 record { limited = λ _. k.limited live; seen = k.seen; last = k.last; idle = k.idle; spent = λ e. absurd (not_live _ live (uncut v.line e)) }) (λ (t : (j ≢ id) × (get_elem? s.views j ≡ some u)). r.each j u t.1) (at_set s.views id j (parted v) u e))
        (λ (e : sprouted v ≡ u). subst (Knows limit (slice_index s.words 0)) e record { limited = λ _. k.limited live; seen = k.seen; last = omega arith; idle = λ _. refl; spent = λ _. refl })
        (at_snoc (set s.views id (parted v)) (sprouted v) u j at');
    woven = woven_split (λ (u : Drawn). u.line) s.views id v (parted v) (sprouted v) h.0 h.1 at h.2 (ap cut h.2) (ap sprout h.2) r.woven;
  }
    where
      k : Knows limit (slice_index s.words 0) v
      k = r.each id v at

      h : (b : Branch) × (bs : List Branch) × (v.line ≡ b ∷ bs)
      h = head_of v.line live

  -- a join
  pub join_keeps : (id other : ℕ) (v u : Drawn) → IsLive v.line → Joins (Dealt limit) id v other u (united v u) spent
  join_keeps id other v u live s r at apart at' = record {
    wide = r.wide;
    most = r.most;
    once = λ p. let t = total_set (λ (x : Drawn). times p x.pieces) s.views id v (united v u) at in let q = total_set (λ (x : Drawn). times p x.pieces) (set s.views id (united v u)) other u spent at' in let a = times_append p v.pieces u.pieces in let o = r.once p in omega arith;
    each = λ j x e. ⊎_elim (λ (t : (j ≡ other) × (spent ≡ x)). subst (Knows limit (slice_index s.words 0)) t.1 record { limited = λ l. absurd (not_live [] l refl); seen = omega arith; last = omega arith; idle = λ _. refl; spent = λ _. refl })
        (λ (t : (j ≢ other) × (get_elem? (set s.views id (united v u)) j ≡ some x)). ⊎_elim (λ (t' : (j ≡ id) × (united v u ≡ x)). subst (Knows limit (slice_index s.words 0)) t'.1 record { limited = λ _. k.limited live; seen = let a = k.seen in let b = k'.seen in omega arith; last = let a = k.last in omega arith; idle = k.idle; spent = λ e. absurd (not_live _ (live_append v.line u.line live) e) })
        (λ (t' : (j ≢ id) × (get_elem? s.views j ≡ some x)). r.each j x t'.1) (at_set s.views id j (united v u) x t.1))
        (at_set (set s.views id (united v u)) other j spent x e);
    woven = woven_join (λ (x : Drawn). x.line) s.views id other v u (united v u) spent at at' refl refl r.woven;
  }
    where
      k : Knows limit (slice_index s.words 0) v
      k = r.each id v at

      k' : Knows limit (slice_index s.words 0) u
      k' = r.each other u (sym (set_else s.views id other (united v u) apart) ∙ at')

  -- a new board
  pub starts : Dealt limit (opening (0 ∷ []) [] (newcomer limit))
  starts = record {
    wide = refl;
    most = omega arith;
    once = λ p. grind arith;
    each = λ j u e. subst (Knows limit 0) (only_one j u e) record { limited = λ _. refl; seen = omega arith; last = omega arith; idle = λ _. refl; spent = λ _. refl };
    woven = woven_first (λ (u : Drawn). u.line) (newcomer limit) refl;
  }
    where
      only_one : (j : ℕ) (u : Drawn) → get_elem? (newcomer limit ∷ []) j ≡ some u → newcomer limit ≡ u
      only_one zero u e = some-injective (newcomer limit) u e
      only_one (suc j) u e = absurd (some-ne-none u (sym e))
