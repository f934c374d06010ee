-- Words lead the rows behind the first ones as they lead the machine of these alone.
use Rattle.std.proofs.Common.{ℕ, zero, suc, ◌≡◌, ◌+◌, ◌-◌, ◌<◌, ◌≤◌, inl, inr, List, [], ◌∷◌, ◌++◌, length, map, take, drop, get_or, replicate, refl, sym, ◌∙◌, ap, subst, arith}
use Rattle.std.specs.List.{All}
use Rattle.std.proofs.lemmas.Bool.{cases_lt}
use Rattle.std.proofs.lemmas.List.{get_or-map, length-map, get_or-drop, length-drop, get_or-replicate, take_all}
use Rattle.std.proofs.lemmas.List.Elements.{All-get_or}
use Rattle.fr_model.specs.Words.{IsLetter, IsWord}
use Rattle.fr_model.specs.Permutations.{IsPermutation}
use Rattle.fr_model.specs.Automata.{State, next_state, state_after, IsAutomaton, IsLimitState}
use Rattle.fr_model.proofs.AutomatonLaws.{next_state-lt}
use Rattle.fr_machine.specs.declared.row.Row.{Row}
use Rattle.fr_machine.specs.Rows.{states_of, row_at, IsRow, IsMachine}
use Rattle.fr_machine.specs.Rows.{IsLonger}
use Rattle.fr_machine.proofs.RowLaws.{IsAutomaton-states_of, length-states_of, next_is, row_valid, IsRow-filled, IsMachine-rows}
use Rattle.fr_product.specs.Spreading.{AreClosed, AreAlone, renumbered}

-- ---- the rows behind the first ones
module _ (d first : ℕ) (qs : List State) (g : IsAutomaton d qs) (some : 0 < first) (c : AreClosed d first qs) where
  closed_walk : (s : ℕ) (w : List ℕ) → s < first → IsWord d w → state_after qs s w < first
  closed_walk s [] l a = l
  closed_walk s (x ∷ w) l a = closed_walk (next_state qs s x) w (c.closed s x l a.0) a.1

  module _ (ps : List State) (h : AreAlone d first qs ps) where
    same_walk : (s : ℕ) (w : List ℕ) → s < length qs → IsWord d w → state_after ps (s + 1 - first) w ≡ state_after qs s w + 1 - first
    same_walk s [] l a = refl
    same_walk s (x ∷ w) l a = ap (λ t. state_after ps t w) (h.leads s x l a.0) ∙ same_walk (next_state qs s x) w (next_state-lt d qs s x g l) a.1

    zero_walk : (w : List ℕ) → IsWord d w → state_after ps 0 w ≡ 0
    zero_walk w a =
        let t = closed_walk 0 w some a in
        let e : 0 + 1 - first ≡ 0 = omega arith in
        ap (λ s. state_after ps s w) (sym e) ∙ same_walk 0 w (omega (arith, c.inside)) a ∙ omega (arith, t)

    -- a new state that is reached from a cycle is so among these
    pub limit_alone : (r : ℕ) → IsLimitState d qs r → IsLimitState d ps (r + 1 - first)
    limit_alone r k = record {
      on = k.on + 1 - first;
      state = omega (arith, h.count, k.state, c.inside);
      round = k.round;
      round_valid = k.round_valid;
      some = k.some;
      back = same_walk k.on k.round k.state k.round_valid ∙ ap (λ s. s + 1 - first) k.back;
      reached = record { along = k.reached.along; valid = k.reached.valid; there = same_walk k.on k.reached.along k.state k.reached.valid ∙ ap (λ s. s + 1 - first) k.reached.there };
    }

    -- and back
    pub limit_new : (r : ℕ) → first ≤ r → IsLimitState d ps (r + 1 - first) → IsLimitState d qs r
    limit_new r l k =
        let s = k.on + first - 1 in
        let positive : 0 < k.on = elim (cases_lt 0 k.on) [
          | inl t ↦ t
          | inr t ↦
              let e : k.on ≡ 0 = omega arith in
              absurd (omega (arith, sym k.reached.there ∙ ap (λ z. state_after ps z k.reached.along) e ∙ zero_walk k.reached.along k.reached.valid))
        ] in
        let inside : s < length qs = omega (arith, h.count, k.state) in
        let at : s + 1 - first ≡ k.on = omega arith in
        let walk = λ (w : List ℕ) (a : IsWord d w). ap (λ z. state_after ps z w) (sym at) ∙ same_walk s w inside a in
        let round = walk k.round k.round_valid in
        let way = walk k.reached.along k.reached.valid in
        record {
          on = s;
          state = inside;
          round = k.round;
          round_valid = k.round_valid;
          some = k.some;
          back = omega (arith, sym round ∙ k.back);
          reached = record { along = k.reached.along; valid = k.reached.valid; there = omega (arith, sym way ∙ k.reached.there) };
        }

-- ---- the rows that are made
pub made_all : (rows now : List Row) (first i : ℕ) (start : Row) (empty before made : List Row) → now ≡ rows → empty ≡ [] → before ≡ empty ++ start ∷ [] → length (take (length now - first) (drop first now)) ≤ i → made ≡ before ++ map (renumbered first) (take i (take (length now - first) (drop first now)))
    → made ≡ (start ∷ []) ++ map (renumbered first) (drop first rows)
made_all rows now first i start empty before made e n f l h =
    let behind : take (length now - first) (drop first now) ≡ drop first now = take_all (length now - first) (drop first now) (omega (arith, length-drop first now)) in
    let all : take i (take (length now - first) (drop first now)) ≡ drop first rows = take_all i (take (length now - first) (drop first now)) l ∙ behind ∙ ap (drop first) e in
    h ∙ ap (λ rs. rs ++ map (renumbered first) (take i (take (length now - first) (drop first now)))) (f ∙ ap (λ rs. rs ++ start ∷ []) n) ∙ ap (λ rs. (start ∷ []) ++ map (renumbered first) rs) all

module _ (d first : ℕ) (rows : List Row) (m : IsMachine d rows) (some : 0 < first) (c : AreClosed d first (states_of rows))
    (start : Row) (p : IsPermutation d start.perm) (zeros : start.next ≡ replicate 8 0) (made : List Row) (e : made ≡ (start ∷ []) ++ map (renumbered first) (drop first rows)) where
  few : first ≤ length rows
  few = omega (arith, c.inside, length-states_of rows)

  made_count : length made + first ≡ length rows + 1
  made_count = omega (arith, ap length e, length-map (drop first rows) (renumbered first), length-drop first rows, few)

  -- the rows read at their places
  at_start : row_at made 0 ≡ start
  at_start = ap (λ rs. row_at rs 0) e

  at_new : (k : ℕ) → first + k < length rows → row_at made (suc k) ≡ renumbered first (row_at rows (first + k))
  at_new k l =
      let none : Row = record { perm = []; next = [] } in
      ap (λ rs. row_at rs (suc k)) e ∙ get_or-map (renumbered first) (drop first rows) k none none (omega (arith, length-drop first rows)) ∙ ap (renumbered first) (get_or-drop first rows k none)

  start_next : (x : ℕ) → x < 8 → get_or start.next x 0 ≡ 0
  start_next x l = ap (λ xs. get_or xs x 0) zeros ∙ get_or-replicate 8 x 0 0 l

  new_next : (k x : ℕ) → first + k < length rows → x < 8 → get_or (renumbered first (row_at rows (first + k))).next x 0 ≡ get_or (row_at rows (first + k)).next x 0 + 1 - first
  new_next k x l b = get_or-map (λ n. n + 1 - first) (row_at rows (first + k)).next x 0 0 (omega (arith, (row_valid d rows m (first + k) l).width))

  row_made : (s : ℕ) → s < length made → IsRow d (length made) (row_at made s)
  row_made zero l =
      let R : Row → Type 0 = IsRow d (length made) in
      subst R (sym at_start) (IsRow-filled d (length made) start m.letters (omega arith) p (ap length zeros) (λ x b. omega (arith, start_next x (omega (arith, m.letters)), l)) (λ x b t. start_next x t))
  row_made (suc k) l =
      let R : Row → Type 0 = IsRow d (length made) in
      let inside : first + k < length rows = omega (arith, made_count) in
      let h = row_valid d rows m (first + k) inside in
      let next = (row_at rows (first + k)).next in
      let zero_at : (x : ℕ) → d ≤ x → x < 8 → get_or next x 0 ≡ 0 = λ x b t.
      (let i : d + (x - d) ≡ x = omega arith in
      let here : get_or (drop d next) (x - d) 0 ≡ 0 = All-get_or (λ n. n ≡ 0) (drop d next) (x - d) 0 (omega (arith, length-drop d next, h.width)) h.zeros in
      ap (λ y. get_or next y 0) (sym i) ∙ sym (get_or-drop d next (x - d) 0) ∙ here) in
      subst R (sym (at_new k inside)) (IsRow-filled d (length made) (renumbered first (row_at rows (first + k))) m.letters (omega arith) h.permutes (length-map next (λ n. n + 1 - first) ∙ h.width)
      (λ x b. omega (arith, new_next k x inside (omega (arith, m.letters)), All-get_or (λ n. n < length rows) next x 0 (omega (arith, h.width, m.letters)) h.below, made_count, few))
      (λ x b t. omega (arith, new_next k x inside t, zero_at x b t, some)))

  pub IsMachine-alone : IsMachine d made
  IsMachine-alone = IsMachine-rows d made m.few m.letters (omega (arith, made_count, few)) (omega (arith, made_count, m.most, some)) row_made

  pub AreAlone-made : AreAlone d first (states_of rows) (states_of made)
  AreAlone-made = record { count = omega (arith, made_count, length-states_of rows, length-states_of made); leads = leads }
    where
      leads : (s x : ℕ) → s < length (states_of rows) → IsLetter d x → next_state (states_of made) (s + 1 - first) x ≡ next_state (states_of rows) s x + 1 - first
      leads s zero l a = absurd (omega (arith, a.0))
      leads s (suc x) l a =
          let k : x < d = omega (arith, a.1) in
          let sl : s < length rows = omega (arith, length-states_of rows) in
          elim (cases_lt s first) [
            | inl t ↦
                let at : s + 1 - first ≡ 0 = omega arith in
                let here = next_is d made IsMachine-alone 0 (omega (arith, made_count, few)) x k in
                ap (λ z. next_state (states_of made) z (suc x)) at ∙ here ∙ ap (λ r. get_or r.next x 0) at_start ∙ start_next x (omega (arith, m.letters)) ∙ omega (arith, c.closed s (suc x) t a)
            | inr t ↦
                let at : s + 1 - first ≡ suc (s - first) = omega arith in
                let old : first + (s - first) ≡ s = omega arith in
                let inside : first + (s - first) < length rows = omega arith in
                let here = next_is d made IsMachine-alone (suc (s - first)) (omega (arith, made_count)) x k in
                ap (λ z. next_state (states_of made) z (suc x)) at ∙ here ∙ ap (λ r. get_or r.next x 0) (at_new (s - first) inside) ∙ new_next (s - first) x inside (omega (arith, m.letters)) ∙ ap (λ z. get_or (row_at rows z).next x 0 + 1 - first) old ∙ ap (λ n. n + 1 - first) (sym (next_is d rows m s sl x k))
          ]

-- ---- the first rows
module _ (d : ℕ) (old rows : List Row) (m : IsMachine d rows) (v : All (IsRow d (length old)) old) (longer : IsLonger old rows) where
  pub old_machine : 0 < length old → IsMachine d old
  old_machine some = record { few = m.few; letters = m.letters; least = omega arith; most = omega (arith, longer.least, m.most); valid = v }

  pub old_next : (s x : ℕ) → s < length old → IsLetter d x → next_state (states_of rows) s x ≡ next_state (states_of old) s x
  old_next s zero l a = absurd (omega (arith, a.0))
  old_next s (suc x) l a =
      let k : x < d = omega (arith, a.1) in
      let inside : s < length rows = omega (arith, longer.least) in
      next_is d rows m s inside x k ∙ ap (λ r. get_or r.next x 0) (longer.same s l) ∙ sym (next_is d old (old_machine (omega arith)) s l x k)

  pub old_next-lt : (s x : ℕ) → s < length old → next_state (states_of old) s x < length old
  old_next-lt s x l = omega (arith, length-states_of old, next_state-lt d (states_of old) s x (IsAutomaton-states_of d old (old_machine (omega arith))) (omega (arith, length-states_of old)))

  pub AreClosed-old : AreClosed d (length old) (states_of rows)
  AreClosed-old = record { inside = omega (arith, longer.least, length-states_of rows); closed = λ s x l a. omega (arith, old_next s x l a, old_next-lt s x l) }

  old_walk : (s : ℕ) (w : List ℕ) → s < length old → IsWord d w → state_after (states_of rows) s w ≡ state_after (states_of old) s w
  old_walk s [] l a = refl
  old_walk s (x ∷ w) l a = ap (λ t. state_after (states_of rows) t w) (old_next s x l a.0) ∙ old_walk (next_state (states_of old) s x) w (old_next-lt s x l) a.1

  -- what is reached from a cycle of old rows still is
  pub limit_kept : (r : ℕ) → IsLimitState d (states_of old) r → IsLimitState d (states_of rows) r
  limit_kept r k =
      let l : k.on < length old = omega (arith, k.state, length-states_of old) in
      record {
        on = k.on;
        state = omega (arith, l, longer.least, length-states_of rows);
        round = k.round;
        round_valid = k.round_valid;
        some = k.some;
        back = old_walk k.on k.round l k.round_valid ∙ k.back;
        reached = record { along = k.reached.along; valid = k.reached.valid; there = old_walk k.on k.reached.along l k.reached.valid ∙ k.reached.there };
      }

  -- a cycle through an old row is one of old rows
  pub cycle_old : (r : ℕ) (k : IsLimitState d (states_of rows) r) → k.on < length old → IsLimitState d (states_of old) k.on
  cycle_old r k l = record {
    on = k.on;
    state = omega (arith, l, length-states_of old);
    round = k.round;
    round_valid = k.round_valid;
    some = k.some;
    back = sym (old_walk k.on k.round l k.round_valid) ∙ k.back;
    reached = record { along = []; valid = tt; there = refl };
  }
