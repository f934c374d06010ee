-- Rows with two ways back, and the least words to them and back.
use Rattle.std.proofs.Common.{ℕ, zero, suc, ◌≡◌, ◌≢◌, ◌<◌, ◌≤◌, ◌⊎◌, inl, inr, if◌then◌else◌, Bool, true, false, List, [], ◌∷◌, ◌++◌, length, get_or, refl, sym, ◌∙◌, ap, arith, length-append, eq-eqb}
use Rattle.std.proofs.lemmas.Bool.{both_ways, ne_eqb, eqb-true}
use Rattle.fr_model.specs.Words.{IsLetter, IsWord}
use Rattle.fr_model.specs.Terms.{Section, IsAlike}
use Rattle.fr_model.specs.Automata.{next_state, state_after}
use Rattle.fr_model.specs.Separation.{IsShortlexBefore}
use Rattle.fr_model.specs.Activity.{IsExponentialAt, IsLeastTriple}
use Rattle.fr_model.proofs.TermLaws.{IsWord-append}
use Rattle.fr_model.proofs.AlikeLaws.{alike_refl}
use Rattle.fr_model.proofs.CanonicalLaws.{shortlex_irrefl}
use Rattle.fr_machine.specs.declared.row.Row.{Row}
use Rattle.fr_machine.specs.Rows.{states_of, row_term}
use Rattle.fr_machine.specs.Minimal.{IsMinimal}
use Rattle.fr_machine.proofs.RowLaws.{length-states_of}
use Rattle.fr_growth.specs.Walks.{unmarked, sum_letters}
use Rattle.fr_growth.specs.Components.{AreComponents}
use Rattle.fr_growth.specs.Levels.{AreMoving, AreReturns, stays, next_component}
use Rattle.fr_growth.specs.Doubling.{Doubles, AreDoubling, IsOnly}
use Rattle.fr_growth.specs.Layers.{is_marked, IsGoalWord, IsLeastWord, IsLeastPair}
use Rattle.fr_growth.specs.Growth.{HasExponentialNumbers}
use Rattle.fr_growth.proofs.WalkLaws.{parts, parts_from_length, state_after-append}
use Rattle.fr_growth.proofs.ChainLaws.{IsReduced, IsAt, at_section, same_state, same_term, live_moves, moves_live, exponential_numbers}
use Rattle.fr_growth.proofs.RowLaws.{auto_next, after_row}
use Rattle.fr_growth.proofs.ComponentLaws.{none_or_some, count_none, count_two, reduced_rows, number_after, word_stays, still_after, returns_here, returns_moves}
use Rattle.fr_growth.proofs.WayLaws.{short_way}

-- ---- letters at which a test holds
some_letter : (p : ℕ → Bool) (k : ℕ) → 1 ≤ sum_letters (λ x. if p x then 1 else 0) k → (y : ℕ) × IsLetter k y × (p y ≡ true)
some_letter p k h = elim (none_or_some p k) [ inl none ↦ absurd (omega (arith, count_none p k none)) | inr y ↦ y ]

true_or_false : (b : Bool) → (b ≡ true) ⊎ (b ≡ false)
true_or_false true = inl refl
true_or_false false = inr refl

two_letters : (p : ℕ → Bool) (k : ℕ) → 2 ≤ sum_letters (λ x. if p x then 1 else 0) k → (a : ℕ) × (b : ℕ) × IsLetter k a × IsLetter k b × (a ≢ b) × (p a ≡ true) × (p b ≡ true)
two_letters p zero h = absurd (omega arith)
two_letters p (suc k) h = elim (true_or_false (p (suc k))) [
  | inl e ↦
      let h' = rw e at h in
      let y = some_letter p k (omega (arith, h')) in
      (y.0, suc k, (y.1.0, omega (arith, y.1.1)), (omega arith, omega arith), (λ z. omega (arith, y.1.1, z)), y.2, e)
  | inr e ↦
      let h' = rw e at h in
      let y = two_letters p k (omega (arith, h')) in
      (y.0, y.1, (y.2.0, omega (arith, y.2.1)), (y.3.0, omega (arith, y.3.1)), y.4, y.5, y.6)
]

parts-prefix : (p x y : List ℕ) → parts x y → parts (p ++ x) (p ++ y)
parts-prefix [] x y h = h
parts-prefix (a ∷ p) x y h = inr (refl, parts-prefix p x y h)

-- ---- a row with the least two words of one length back to it
module _ (d : ℕ) (rows : List Row) (m : IsMinimal d rows) (moving : List ℕ) (v : AreMoving rows moving) where
  reds : IsReduced d (states_of rows) (unmarked moving)
  reds = reduced_rows d rows moving m v

  zero_at : IsAt d (states_of rows) (unmarked moving) reds (row_term rows 0) 0
  zero_at = record { below = rw length-states_of m.machine.least; alike = alike_refl (row_term rows 0) }

  module _ (at : List ℕ) (valid : IsWord d at) (home : List Bool) (hm : IsOnly (length rows) (state_after (states_of rows) 0 at) home) where
    at_below : state_after (states_of rows) 0 at < length rows
    at_below = after_row d rows m.machine 0 at m.machine.least

    home_word : (x : List ℕ) → IsWord d x → state_after (states_of rows) (state_after (states_of rows) 0 at) x ≡ state_after (states_of rows) 0 at → IsGoalWord d rows home (state_after (states_of rows) 0 at) x
    home_word x k e = record { valid = k; there = ap (is_marked home) e ∙ hm.right (state_after (states_of rows) 0 at) at_below ∙ eq-eqb (state_after (states_of rows) 0 at) (state_after (states_of rows) 0 at) refl }

    word_home : (x : List ℕ) → IsGoalWord d rows home (state_after (states_of rows) 0 at) x → state_after (states_of rows) (state_after (states_of rows) 0 at) x ≡ state_after (states_of rows) 0 at
    word_home x g =
        let q = state_after (states_of rows) (state_after (states_of rows) 0 at) x in
        eqb-true q (state_after (states_of rows) 0 at) (sym (hm.right q (after_row d rows m.machine (state_after (states_of rows) 0 at) x at_below)) ∙ g.there)

    here_at : IsAt d (states_of rows) (unmarked moving) reds (Section (row_term rows 0) at) (state_after (states_of rows) 0 at)
    here_at = at_section d (states_of rows) (unmarked moving) reds (row_term rows 0) 0 at zero_at valid

    module _ (live : unmarked moving (state_after (states_of rows) 0 at) ≡ false) (u w : List ℕ) (lp : IsLeastPair d rows home (state_after (states_of rows) 0 at) u w) where
      back_alike : (x : List ℕ) → IsWord d x → state_after (states_of rows) (state_after (states_of rows) 0 at) x ≡ state_after (states_of rows) 0 at → IsAlike (Section (Section (row_term rows 0) at) x) (Section (row_term rows 0) at)
      back_alike x k e = same_term d (states_of rows) (unmarked moving) reds (Section (Section (row_term rows 0) at) x) (Section (row_term rows 0) at) (state_after (states_of rows) (state_after (states_of rows) 0 at) x) (state_after (states_of rows) 0 at)
          (at_section d (states_of rows) (unmarked moving) reds (Section (row_term rows 0) at) (state_after (states_of rows) 0 at) x here_at k) here_at e

      alike_back : (x : List ℕ) → IsWord d x → IsAlike (Section (Section (row_term rows 0) at) x) (Section (row_term rows 0) at) → state_after (states_of rows) (state_after (states_of rows) 0 at) x ≡ state_after (states_of rows) 0 at
      alike_back x k e = same_state d (states_of rows) (unmarked moving) reds (Section (Section (row_term rows 0) at) x) (Section (row_term rows 0) at) (state_after (states_of rows) (state_after (states_of rows) 0 at) x) (state_after (states_of rows) 0 at)
          (at_section d (states_of rows) (unmarked moving) reds (Section (row_term rows 0) at) (state_after (states_of rows) 0 at) x here_at k) here_at e

      pub triple_at : IsExponentialAt d (row_term rows 0) at u w
      triple_at = record {
        at_valid = valid;
        u_valid = lp.first.valid;
        v_valid = lp.second.valid;
        moved = live_moves d (states_of rows) (unmarked moving) reds (Section (row_term rows 0) at) (state_after (states_of rows) 0 at) here_at live;
        differ = λ e. shortlex_irrefl w (inr (refl, rw e at lp.ordered));
        one_length = lp.one_length;
        u_back = back_alike u lp.first.valid (word_home u lp.first);
        v_back = back_alike w lp.second.valid (word_home w lp.second);
      }

      pub triple_tells : HasExponentialNumbers d (row_term rows 0) at u
      triple_tells = exponential_numbers d (states_of rows) (unmarked moving) reds (row_term rows 0) 0 at u w zero_at triple_at

      pub least_triple_from : ((z x y : List ℕ) → IsShortlexBefore z at → IsExponentialAt d (row_term rows 0) z x y → ⊥) → IsLeastTriple d (row_term rows 0) at u w
      least_triple_from before = record {
        triple = triple_at;
        least_at = before;
        least_length = λ x y l q.
            omega (arith, l, lp.least x y (home_word x q.u_valid (alike_back x q.u_valid q.u_back)) (home_word y q.v_valid (alike_back y q.v_valid q.v_back)) q.differ q.one_length);
        ordered = inr (lp.one_length, lp.ordered);
        first_two = λ x k e alike. elim (lp.first_two x (home_word x k (alike_back x k alike)) e) as (λ _. (x ≡ u) ⊎ ((x ≡ w) ⊎ IsShortlexBefore w x)) [
          | inl z ↦ inl z
          | inr z ↦ inr (elim z [ inl y ↦ inl y | inr y ↦ inr (inr (sym lp.one_length ∙ sym e, y)) ])
        ];
      }

-- nothing stands before the empty word
none_before : (z : List ℕ) → IsShortlexBefore z [] → ⊥
none_before [] h = shortlex_irrefl [] h
none_before (x ∷ z) (inl l) = absurd (omega (arith, l))
none_before (x ∷ z) (inr h) = absurd (omega (arith, h.0))

module _ (d : ℕ) (rows : List Row) (m : IsMinimal d rows) (moving : List ℕ) (v : AreMoving rows moving) (live : get_or moving 0 0 ≢ 0) (home : List Bool) (hm : IsOnly (length rows) 0 home) (u w : List ℕ) (lp : IsLeastPair d rows home 0 u w) where
  pub triple_here : IsLeastTriple d (row_term rows 0) [] u w
  triple_here = least_triple_from d rows m moving v [] tt home hm (ne_eqb (get_or moving 0 0) 0 live) u w lp (λ z x y l q. none_before z l)

  pub numbers_here : HasExponentialNumbers d (row_term rows 0) [] u
  numbers_here = triple_tells d rows m moving v [] tt home hm (ne_eqb (get_or moving 0 0) 0 live) u w lp

module _ (d : ℕ) (rows : List Row) (m : IsMinimal d rows) (moving : List ℕ) (v : AreMoving rows moving) (numbers : List ℕ) (a : AreComponents d rows numbers) (returns : List ℕ) (t : AreReturns d rows moving numbers returns) where
  -- a row from which a word leads to one that moves moves
  live_back : (s : ℕ) (w : List ℕ) → s < length rows → IsWord d w → unmarked moving (state_after (states_of rows) s w) ≡ false → unmarked moving s ≡ false
  live_back s w b h e = elim (true_or_false (unmarked moving s)) [
    | inl f ↦ absurd (both_ways (unmarked moving (state_after (states_of rows) s w)) e (ap (unmarked moving) (still_after d rows m numbers a moving v s w b h (eqb-true (get_or moving s 0) 0 f)) ∙ f))
    | inr f ↦ f
  ]

  live_row : (s : ℕ) → unmarked moving s ≡ false → get_or moving s 0 ≢ 0
  live_row s e z = both_ways (unmarked moving s) e (eq-eqb (get_or moving s 0) 0 z)

  row_live : (s : ℕ) → get_or moving s 0 ≢ 0 → unmarked moving s ≡ false
  row_live s n = ne_eqb (get_or moving s 0) 0 n

  -- rows that lead to each other share a component
  same_component : (h s : ℕ) (p x : List ℕ) → h < length rows → s < length rows → IsWord d p → IsWord d x → state_after (states_of rows) h p ≡ s → state_after (states_of rows) s x ≡ h → get_or numbers s 0 ≡ get_or numbers h 0
  same_component h s p x b c f g i j = omega (arith, number_after d rows m numbers a h p b f, number_after d rows m numbers a s x c g, ap (λ z. get_or numbers z 0) i, ap (λ z. get_or numbers z 0) j)

  -- two words back that part do so at a row that returns at two letters
  diverge : (h s : ℕ) (p x y : List ℕ) → h < length rows → s < length rows → unmarked moving h ≡ false → IsWord d p → IsWord d x → IsWord d y
      → state_after (states_of rows) h p ≡ s → state_after (states_of rows) s x ≡ h → state_after (states_of rows) s y ≡ h → parts x y → Doubles (length rows) numbers returns h
  diverge h s p [] y b c e w f g i j k q = absurd q
  diverge h s p (x ∷ xs) [] b c e w f g i j k q = absurd q
  diverge h s p (x ∷ xs) (y ∷ ys) b c e w f g i j k (inl ne) =
      let qs = states_of rows in
      let moves = live_row s (live_back s (x ∷ xs) c f (ap (unmarked moving) j ∙ e)) in
      let same = same_component h s p (x ∷ xs) b c w f i j in
      let stay_x = word_stays d rows m numbers a s x xs c f.0 f.1 (ap (λ z. get_or numbers z 0) j ∙ sym same) in
      let stay_y = word_stays d rows m numbers a s y ys c g.0 g.1 (ap (λ z. get_or numbers z 0) k ∙ sym same) in
      let two = count_two (stays rows numbers s) d x y f.0 g.0 ne (eq-eqb (next_component rows numbers s x) (get_or numbers s 0) stay_x) (eq-eqb (next_component rows numbers s y) (get_or numbers s 0) stay_y) in
      (s, c, omega (arith, returns_here d rows m numbers a moving v returns t s c moves, two), same)
  diverge h s p (x ∷ xs) (y ∷ ys) b c e w f g i j k (inr q) =
      let qs = states_of rows in
      let at : state_after qs h (p ++ x ∷ []) ≡ next_state qs s x = state_after-append qs h p (x ∷ []) ∙ ap (λ z. next_state qs z x) i in
      let k' : state_after qs (next_state qs s x) ys ≡ h = ap (λ z. state_after qs (next_state qs s z) ys) q.0 ∙ k in
      diverge h (next_state qs s x) (p ++ x ∷ []) xs ys b (auto_next d rows m.machine s x c) e (IsWord-append d p (x ∷ []) w (f.0, tt)) f.1 g.1 at j k' q.1

  pub doubles_from : (h : ℕ) (x y : List ℕ) → h < length rows → unmarked moving h ≡ false → IsWord d x → IsWord d y → state_after (states_of rows) h x ≡ h → state_after (states_of rows) h y ≡ h → parts x y → Doubles (length rows) numbers returns h
  doubles_from h x y b e f g i j q = diverge h h [] x y b b e tt f g refl i j q

  -- a doubling row has two words back of one length
  pub record HasTwo (h : ℕ) : Type 0 where
    pub live : unmarked moving h ≡ false
    pub x : List ℕ
    pub y : List ℕ
    pub x_valid : IsWord d x
    pub y_valid : IsWord d y
    pub one_length : length x ≡ length y
    pub most : length x ≤ 4096
    pub apart : parts x y
    pub x_back : state_after (states_of rows) h x ≡ h
    pub y_back : state_after (states_of rows) h y ≡ h

  pub two_words : (h : ℕ) → h < length rows → Doubles (length rows) numbers returns h → HasTwo h
  two_words h b q =
      let qs = states_of rows in
      let s = q.0 in
      let c = q.1 in
      let moves = returns_moves d rows m numbers a moving v returns t s c (λ z. omega (arith, z, q.2)) in
      let live : unmarked moving s ≡ false = row_live s moves in
      let two = two_letters (stays rows numbers s) d (omega (arith, returns_here d rows m numbers a moving v returns t s c moves, q.2)) in
      let x1 = two.0 in
      let x2 = two.1 in
      let next_lt : (x : ℕ) → next_state qs s x < length rows = λ x. auto_next d rows m.machine s x c in
      let p = short_way d rows m h s b (a.joined h s b c (sym q.3)) in
      let z = short_way d rows m s h c (a.joined s h c b q.3) in
      let ra = short_way d rows m (next_state qs s x1) s (next_lt x1) (a.joined (next_state qs s x1) s (next_lt x1) c (eqb-true (next_component rows numbers s x1) (get_or numbers s 0) two.5)) in
      let re = short_way d rows m (next_state qs s x2) s (next_lt x2) (a.joined (next_state qs s x2) s (next_lt x2) c (eqb-true (next_component rows numbers s x2) (get_or numbers s 0) two.6)) in
      let way_x : List ℕ = (x1 ∷ ra.0) ++ ((x2 ∷ re.0) ++ z.0) in
      let way_y : List ℕ = (x2 ∷ re.0) ++ ((x1 ∷ ra.0) ++ z.0) in
      let tail : (w1 w2 : List ℕ) → state_after qs s w1 ≡ s → state_after qs s w2 ≡ s → state_after qs h (p.0 ++ (w1 ++ (w2 ++ z.0))) ≡ h =
      λ w1 w2 f g. state_after-append qs h p.0 (w1 ++ (w2 ++ z.0)) ∙ ap (λ k. state_after qs k (w1 ++ (w2 ++ z.0))) p.1.leads ∙ state_after-append qs s w1 (w2 ++ z.0) ∙ ap (λ k. state_after qs k (w2 ++ z.0)) f ∙ state_after-append qs s w2 z.0 ∙ ap (λ k. state_after qs k z.0) g ∙ z.1.leads in
      let va : IsWord d (x1 ∷ ra.0) = (two.2, ra.1.valid) in
      let ve : IsWord d (x2 ∷ re.0) = (two.3, re.1.valid) in
      let lx = length-append p.0 way_x in
      let ly = length-append p.0 way_y in
      let lx2 = length-append (x1 ∷ ra.0) ((x2 ∷ re.0) ++ z.0) in
      let ly2 = length-append (x2 ∷ re.0) ((x1 ∷ ra.0) ++ z.0) in
      let lx3 = length-append (x2 ∷ re.0) z.0 in
      let ly3 = length-append (x1 ∷ ra.0) z.0 in
      record {
        live = live_back h p.0 b p.1.valid (ap (unmarked moving) p.1.leads ∙ live);
        x = p.0 ++ way_x;
        y = p.0 ++ way_y;
        x_valid = IsWord-append d p.0 way_x p.1.valid (IsWord-append d (x1 ∷ ra.0) ((x2 ∷ re.0) ++ z.0) va (IsWord-append d (x2 ∷ re.0) z.0 ve z.1.valid));
        y_valid = IsWord-append d p.0 way_y p.1.valid (IsWord-append d (x2 ∷ re.0) ((x1 ∷ ra.0) ++ z.0) ve (IsWord-append d (x1 ∷ ra.0) z.0 va z.1.valid));
        one_length = omega (arith, lx, ly, lx2, ly2, lx3, ly3);
        most = omega (arith, lx, lx2, lx3, p.1.most, z.1.most, ra.1.most, re.1.most, m.small);
        apart = parts-prefix p.0 way_x way_y (inl two.4);
        x_back = tail (x1 ∷ ra.0) (x2 ∷ re.0) ra.1.leads re.1.leads;
        y_back = tail (x2 ∷ re.0) (x1 ∷ ra.0) re.1.leads ra.1.leads;
      }

  module _ (goals : List Bool) (dm : AreDoubling (length rows) numbers returns goals) where
    -- some word leads to a doubling row
    pub at_enough : (s : ℕ) → s < length rows → 1 < get_or returns s 0 → (w : List ℕ) × IsGoalWord d rows goals 0 w × (length w ≤ 4096)
    at_enough s b two =
        let w = m.reached s b in
        let p = short_way d rows m 0 s m.machine.least (record { along = w.0; valid = w.1; there = w.2 }) in
        (p.0, record { valid = p.1.valid; there = ap (is_marked goals) p.1.leads ∙ (dm.right s b).1 (s, b, two, refl) }, omega (arith, p.1.most, m.small))

    module _ (at : List ℕ) (la : IsLeastWord d rows goals 0 at) where
      b : state_after (states_of rows) 0 at < length rows
      b = after_row d rows m.machine 0 at m.machine.least

      two : HasTwo (state_after (states_of rows) 0 at)
      two = two_words (state_after (states_of rows) 0 at) b ((dm.right (state_after (states_of rows) 0 at) b).0 la.word.there)

      module _ (home : List Bool) (hm : IsOnly (length rows) (state_after (states_of rows) 0 at) home) where
        pub back_enough : (x : List ℕ) × (y : List ℕ) × IsGoalWord d rows home (state_after (states_of rows) 0 at) x × IsGoalWord d rows home (state_after (states_of rows) 0 at) y × (x ≢ y) × (length x ≡ length y) × (length x ≤ 4096)
        back_enough = (two.x, two.y, home_word d rows m moving v at la.word.valid home hm two.x two.x_valid two.x_back, home_word d rows m moving v at la.word.valid home hm two.y two.y_valid two.y_back, parted two.x two.y two.apart, two.one_length, two.most)
          where
            parted : (x y : List ℕ) → parts x y → x ≢ y
            parted [] y p = absurd p
            parted (x ∷ xs) [] p = absurd p
            parted (x ∷ xs) (y ∷ ys) (inl ne) = λ e. ne (heads e)
              where
                heads : ◌≡◌ {A = List ℕ} (x ∷ xs) (y ∷ ys) → x ≡ y
                heads e = cc
            parted (x ∷ xs) (y ∷ ys) (inr q) = λ e. parted xs ys q.1 (tails e)
              where
                tails : ◌≡◌ {A = List ℕ} (x ∷ xs) (y ∷ ys) → xs ≡ ys
                tails e = cc

      -- another triple begins with a word to a doubling row
      other_goal : (z x y : List ℕ) → IsExponentialAt d (row_term rows 0) z x y → IsGoalWord d rows goals 0 z
      other_goal z x y q =
          let k = state_after (states_of rows) 0 z in
          let c = at_section d (states_of rows) (unmarked moving) (reds d rows m moving v) (row_term rows 0) 0 z (zero_at d rows m moving v) q.at_valid in
          let xx = same_state d (states_of rows) (unmarked moving) (reds d rows m moving v) (Section (Section (row_term rows 0) z) x) (Section (row_term rows 0) z) (state_after (states_of rows) k x) k (at_section d (states_of rows) (unmarked moving) (reds d rows m moving v) (Section (row_term rows 0) z) k x c q.u_valid) c q.u_back in
          let yy = same_state d (states_of rows) (unmarked moving) (reds d rows m moving v) (Section (Section (row_term rows 0) z) y) (Section (row_term rows 0) z) (state_after (states_of rows) k y) k (at_section d (states_of rows) (unmarked moving) (reds d rows m moving v) (Section (row_term rows 0) z) k y c q.v_valid) c q.v_back in
          let live = moves_live d (states_of rows) (unmarked moving) (reds d rows m moving v) (Section (row_term rows 0) z) k c q.moved in
          let kb = after_row d rows m.machine 0 z m.machine.least in
          record { valid = q.at_valid; there = (dm.right k kb).1 (doubles_from k x y kb live q.u_valid q.v_valid xx yy (parts_from_length x y q.one_length q.differ)) }

      pub least_triple : (home : List Bool) → IsOnly (length rows) (state_after (states_of rows) 0 at) home → (u w : List ℕ) → IsLeastPair d rows home (state_after (states_of rows) 0 at) u w → IsLeastTriple d (row_term rows 0) at u w
      least_triple home hm u w lp = least_triple_from d rows m moving v at la.word.valid home hm two.live u w lp (λ z x y l q. la.least z (other_goal z x y q) l)

      pub least_numbers : (home : List Bool) → IsOnly (length rows) (state_after (states_of rows) 0 at) home → (u w : List ℕ) → IsLeastPair d rows home (state_after (states_of rows) 0 at) u w → HasExponentialNumbers d (row_term rows 0) at u
      least_numbers home hm u w lp = triple_tells d rows m moving v at la.word.valid home hm two.live u w lp
