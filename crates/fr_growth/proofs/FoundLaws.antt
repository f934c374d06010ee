-- Layers of rows from which words lead to a goal.
use Rattle.std.proofs.Common.{ℕ, zero, suc, ◌≡◌, ◌≢◌, ◌==◌, ◌+◌, ◌-◌, ◌<◌, ◌≤◌, ◌⊎◌, inl, inr, ◌||◌, Bool, true, false, List, [], ◌∷◌, ◌++◌, length, get_or, refl, sym, ◌∙◌, ap, arith, length-append, eq-eqb}
use Rattle.std.proofs.lemmas.List.{get_or_append_left, get_or_push, length_push, length-set}
use Rattle.std.proofs.lemmas.Bool.{cases_lt, both_ways, ne_eqb}
use Rattle.fr_model.specs.Words.{IsWord}
use Rattle.fr_model.specs.Automata.{next_state, state_after}
use Rattle.fr_model.proofs.TermLaws.{IsWord-append}
use Rattle.fr_machine.specs.declared.row.Row.{Row}
use Rattle.fr_machine.specs.Rows.{states_of}
use Rattle.fr_machine.specs.Minimal.{IsMinimal}
use Rattle.fr_growth.specs.declared.edges.Edge.{Edge}
use Rattle.fr_growth.specs.Bits.{has_bit}
use Rattle.fr_growth.specs.Distances.{AreDistances}
use Rattle.fr_growth.specs.Edges.{edge_at, target_at, AreEdges}
use Rattle.fr_growth.specs.Layers.{is_marked, IsGoalWord, HasWord, IsEntered, IsToFirst, IsPart, IsLowered, set_at, AreSound, AreLayers, AreGoals, AreFound}
use Rattle.fr_growth.proofs.RowLaws.{or_right, auto_next, after_row}
use Rattle.fr_growth.proofs.WalkLaws.{state_after-append, parts, parts_from_length}

-- ---- the goals as a layer
pub record AreGoalsBelow (goals : List Bool) (k : ℕ) (bits found letters : List ℕ) : Type 0 where
  pub size : length letters ≡ length goals
  pub before : (u : ℕ) → u < k → has_bit bits u ≡ is_marked goals u
  pub behind : (u : ℕ) → k ≤ u → u < 1024 → has_bit bits u ≡ false
  pub listed : (u : ℕ) → u < k → is_marked goals u ≡ true → (i : ℕ) × (i < length found) × (get_or found i 0 ≡ u)
  pub inside : (i : ℕ) → i < length found → (get_or found i 0 < length goals) × (is_marked goals (get_or found i 0) ≡ true)

pub goals_none : (goals : List Bool) (bits letters : List ℕ) → length letters ≡ length goals → ((u : ℕ) → u < 1024 → has_bit bits u ≡ false) → AreGoalsBelow goals 0 bits [] letters
goals_none goals bits letters size empty = record {
  size = size;
  before = λ u l. absurd (omega arith);
  behind = λ u a l. empty u l;
  listed = λ u l. absurd (omega arith);
  inside = λ i l. absurd (omega arith);
}

pub goals_skip : (goals : List Bool) (k : ℕ) (bits found letters : List ℕ) → AreGoalsBelow goals k bits found letters → k < 1024 → is_marked goals k ≡ false → AreGoalsBelow goals (k + 1) bits found letters
goals_skip goals k bits found letters h small e = record {
  size = h.size;
  before = λ u l. elim (cases_lt u k) [ inl z ↦ h.before u z | inr z ↦ (let at : u ≡ k = omega arith in rw at (h.behind k (omega arith) small ∙ sym e)) ];
  behind = λ u a l. h.behind u (omega arith) l;
  listed = λ u l q. elim (cases_lt u k) [ inl z ↦ h.listed u z q | inr z ↦ (let at : u ≡ k = omega arith in absurd (both_ways (is_marked goals k) e (rw at at q))) ];
  inside = h.inside;
}

pub goals_more : (goals : List Bool) (k : ℕ) (bits found letters : List ℕ) (again : Bool) (bits' found' letters' : List ℕ) → AreGoalsBelow goals k bits found letters → k < length goals → length goals ≤ 1024 → is_marked goals k ≡ true
    → IsEntered bits found letters k 0 again bits' found' letters' → AreGoalsBelow goals (k + 1) bits' found' letters'
goals_more goals k bits found letters again bits' found' letters' h below small e q = elim q [
  | inr z ↦ absurd (both_ways (has_bit bits k) (h.behind k (omega arith) (omega arith)) z.0)
  | inl z ↦
      let longer : length found' ≡ length found + 1 = ap length z.3 ∙ length_push found k in
      record {
        size = ap length z.4 ∙ length-set letters k 0 ∙ h.size;
        before = λ u l. elim (cases_lt u k) [
          | inl y ↦ z.2 u (omega arith) ∙ (rw (ne_eqb u k (λ r. omega arith)) (or_none (has_bit bits u))) ∙ h.before u y
          | inr y ↦ let at : u ≡ k = omega arith in rw at (z.2 k (omega arith) ∙ or_right (has_bit bits k) (k == k) (eq-eqb k k refl) ∙ sym e)
        ];
        behind = λ u a l. z.2 u l ∙ (rw (ne_eqb u k (λ r. omega arith)) (or_none (has_bit bits u))) ∙ h.behind u (omega arith) l;
        listed = λ u l g. elim (cases_lt u k) [
          | inl y ↦ let w = h.listed u y g in (w.0, omega (arith, longer, w.1), ap (λ t. get_or t w.0 0) z.3 ∙ get_or_append_left found (k ∷ []) 0 w.0 w.1 ∙ w.2)
          | inr y ↦ (length found, omega (arith, longer), ap (λ t. get_or t (length found) 0) z.3 ∙ get_or_push found k 0 (length found) refl ∙ omega arith)
        ];
        inside = λ i l. elim (cases_lt i (length found)) [
          | inl y ↦ rw (z.3, get_or_append_left found (k ∷ []) 0 i y) (h.inside i y)
          | inr y ↦ let at : i ≡ length found = omega (arith, longer) in rw (z.3, at, get_or_push found k 0 (length found) refl) (below, e)
        ];
      }
]
  where
    or_none : (b : Bool) → (b || false) ≡ b
    or_none true = refl
    or_none false = refl

pub goals_all : (goals : List Bool) (k : ℕ) (bits found letters : List ℕ) → AreGoalsBelow goals k bits found letters → length goals ≤ k → AreGoals goals bits found
goals_all goals k bits found letters h end = record { right = λ u l. h.before u (omega arith); found = λ u l e. h.listed u (omega arith) e; inside = h.inside }

-- ---- layer after layer
pub layers_start : (d : ℕ) (rows : List Row) (goals : List Bool) (m : IsMinimal d rows) (from : ℕ) (values bits listed : List ℕ) (bound : ℕ) → from < length rows → length goals ≡ length rows → AreGoals goals bits listed → AreLayers d rows goals from values (bits ∷ []) listed bound
layers_start d rows goals m from values bits listed bound b size g = record {
  some = omega arith;
  sound = first;
  whole = only;
  parted = λ p x y a c v n gx gy e l. absurd (omega arith);
  last = λ u l e. g.found u (omega (arith, size, l)) (sym (g.right u (omega (arith, size, l))) ∙ e);
  inside = λ i l. let w = g.inside i l in (omega (arith, size, w.0), record { word = []; goal = record { valid = tt; there = w.1 }; exact = refl });
}
  where
    first : AreSound d rows goals (bits ∷ [])
    first zero u r l e = record { word = []; goal = record { valid = tt; there = sym (g.right u (omega (arith, size, l))) ∙ e }; exact = refl }
    first (suc k) u r l e = absurd (omega arith)

    only : (p w : List ℕ) → IsWord d p → IsGoalWord d rows goals (state_after (states_of rows) from p) w → length w < length (bits ∷ []) → get_or values (state_after (states_of rows) from p) 0 + length w ≤ bound → has_bit (set_at (bits ∷ []) (length w)) (state_after (states_of rows) from p) ≡ true
    only p [] v q l k = g.right (state_after (states_of rows) from p) (omega (arith, size, after_row d rows m.machine from p b)) ∙ q.there
    only p (x ∷ w) v q l k = absurd (omega arith)

module _ (d : ℕ) (rows : List Row) (goals : List Bool) (m : IsMinimal d rows) (from : ℕ) (order values : List ℕ) (dist : AreDistances d rows from order values) (edges : List Edge) (lasts : List ℕ) (graph : AreEdges d rows order values edges lasts)
    (sets : List (List ℕ)) (listed : List ℕ) (bound : ℕ) (h : AreLayers d rows goals from values sets listed bound) (bits found letters : List ℕ) (bound' : ℕ) (low : bound' ≤ bound)
    (q : IsPart d rows goals values edges (length sets) (λ e. IsToFirst rows edges listed (length listed) e) bits found letters bound') where
  abbrev sets' : List (List ℕ)
  sets' = sets ++ bits ∷ []

  more_sets : length sets' ≡ length sets + 1
  more_sets = length_push sets bits

  old_set : (r : ℕ) → r < length sets → set_at sets' r ≡ set_at sets r
  old_set r l = get_or_append_left sets (bits ∷ []) [] r l

  new_set : set_at sets' (length sets) ≡ bits
  new_set = get_or_push sets bits [] (length sets) refl

  -- the edge by which a word leads on, which was looked at
  taken_by : (p : List ℕ) (a : ℕ) (w : List ℕ) → IsWord d p → IsGoalWord d rows goals (state_after (states_of rows) from p) (a ∷ w) → length w + 1 ≡ length sets → get_or values (state_after (states_of rows) from p) 0 + length sets ≤ bound'
      → (has_bit bits (state_after (states_of rows) from p) ≡ true) × ((get_or letters (state_after (states_of rows) from p) 0 ≡ a) ⊎ (bound' ≤ get_or values (state_after (states_of rows) from p) 0 + length sets))
  taken_by p a w v g e k =
      let qs = states_of rows in
      let u = state_after qs from p in
      let j = dist.whole p v in
      let f = graph.whole j.0 a j.1 g.valid.0 in
      let row : (edge_at edges f.0).row ≡ u = f.2 ∙ j.2 in
      let to : target_at rows edges f.0 ≡ next_state qs u a = ap (λ z. next_state qs z (edge_at edges f.0).letter) row ∙ ap (next_state qs u) f.3 in
      let along : state_after qs from (p ++ a ∷ []) ≡ next_state qs u a = state_after-append qs from p (a ∷ []) in
      let goal : IsGoalWord d rows goals (state_after qs from (p ++ a ∷ [])) w = record { valid = g.valid.1; there = ap (λ z. is_marked goals (state_after qs z w)) along ∙ g.there } in
      let step = dist.step j.0 a j.1 g.valid.0 in
      let near : get_or values (state_after qs from (p ++ a ∷ [])) 0 ≤ get_or values u 0 + 1 = omega (arith, ap (λ z. get_or values z 0) along, ap (λ z. get_or values (next_state qs z a) 0) j.2, ap (λ z. get_or values z 0) j.2, step) in
      let in_last = h.whole (p ++ a ∷ []) w (IsWord-append d p (a ∷ []) v (g.valid.0, tt)) goal (omega (arith, e)) (omega (arith, near, k, low, e)) in
      let place : length w ≡ length sets - 1 = omega (arith, e) in
      let lt : state_after qs from (p ++ a ∷ []) < length rows = rw along (auto_next d rows m.machine u a (rw (← j.2) (dist.below j.0 j.1))) in
      let i = h.last (state_after qs from (p ++ a ∷ [])) lt (rw place at in_last) in
      let t = q.taken f.0 f.1 (i.0, i.1, i.1, to ∙ sym along ∙ sym i.2) (omega (arith, ap (λ z. get_or values z 0) row, k)) in
      rw row at (rw f.3 at t)

  pub layers_more : AreLayers d rows goals from values sets' found bound'
  layers_more = record {
    some = omega (arith, more_sets);
    sound = λ r u l b e. elim (cases_lt r (length sets)) [
      | inl z ↦ h.sound r u z b (ap (λ y. has_bit y u) (sym (old_set r z)) ∙ e)
      | inr z ↦
          let at : r ≡ length sets = omega (arith, more_sets) in
          let w = q.sound u b (ap (λ y. has_bit y u) (sym new_set ∙ ap (set_at sets') (sym at)) ∙ e) in
          record { word = get_or letters u 0 ∷ w.0; goal = w.1; exact = omega (arith, w.2, at) }
    ];
    whole = λ p w v g l k. elim (cases_lt (length w) (length sets)) [
      | inl z ↦ ap (λ y. has_bit y (state_after (states_of rows) from p)) (old_set (length w) z) ∙ h.whole p w v g z (omega arith)
      | inr z ↦
          let at : length w ≡ length sets = omega (arith, more_sets) in
          ap (λ y. has_bit y (state_after (states_of rows) from p)) (ap (set_at sets') at ∙ new_set) ∙ last_whole p w v g at (omega (arith, at))
    ];
    parted = λ p x y a b v n gx gy e l. elim (cases_lt (length x + 1) (length sets)) [
      | inl z ↦ omega (arith, low, h.parted p x y a b v n gx gy e z)
      | inr z ↦
          let at : length x + 1 ≡ length sets = omega (arith, more_sets) in
          let u = state_after (states_of rows) from p in
          elim (cases_lt bound' (get_or values u 0 + (length x + 1))) [
            | inl less ↦ omega arith
            | inr more ↦
                let ta = taken_by p a x v gx at (omega (arith, at)) in
                let tb = taken_by p b y v gy (omega (arith, at, e)) (omega (arith, at)) in
                elim ta.1 [
                  | inl one ↦ elim tb.1 [ inl two ↦ absurd (n (sym one ∙ two)) | inr two ↦ omega (arith, two, at) ]
                  | inr one ↦ omega (arith, one, at)
                ]
          ]
    ];
    last = λ u b e. let at : length sets' - 1 ≡ length sets = omega (arith, more_sets) in q.found u b (ap (λ y. has_bit y u) (sym new_set ∙ ap (set_at sets') (sym at)) ∙ e);
    inside = λ i l. let at : length sets' - 1 ≡ length sets = omega (arith, more_sets) in ((q.below i l).0, rw at (listed_word i l));
  }
    where
      last_whole : (p w : List ℕ) → IsWord d p → IsGoalWord d rows goals (state_after (states_of rows) from p) w → length w ≡ length sets → get_or values (state_after (states_of rows) from p) 0 + length sets ≤ bound' → has_bit bits (state_after (states_of rows) from p) ≡ true
      last_whole p [] v g at k = absurd (omega (arith, h.some, at))
      last_whole p (a ∷ w) v g at k = (taken_by p a w v g (omega (arith, at)) k).0

      listed_word : (i : ℕ) → i < length found → HasWord d rows goals (get_or found i 0) (length sets)
      listed_word i l =
          let b = q.below i l in
          let w = q.sound (get_or found i 0) b.0 b.1 in
          record { word = get_or letters (get_or found i 0) 0 ∷ w.0; goal = w.1; exact = omega (arith, w.2) }

-- ---- the last layer
split_parts : (x y : List ℕ) → parts x y → (p : List ℕ) × (a : ℕ) × (b : ℕ) × (v : List ℕ) × (w : List ℕ) × (x ≡ p ++ a ∷ v) × (y ≡ p ++ b ∷ w) × (a ≢ b)
split_parts [] y h = absurd h
split_parts (a ∷ x) [] h = absurd h
split_parts (a ∷ x) (b ∷ y) (inl n) = ([], a, b, x, y, refl, refl, n)
split_parts (a ∷ x) (b ∷ y) (inr q) = let r = split_parts x y q.1 in (a ∷ r.0, r.1, r.2, r.3, r.4, ap (λ z. a ∷ z) r.5, ap (λ z. b ∷ z) r.6 ∙ ap (λ z. z ∷ (r.0 ++ r.2 ∷ r.4)) (sym q.0), r.7)

pub IsGoalWord-behind : (d : ℕ) (rows : List Row) (goals : List Bool) (s : ℕ) (p w : List ℕ) → IsGoalWord d rows goals s (p ++ w) → IsWord d p × IsGoalWord d rows goals (state_after (states_of rows) s p) w
IsGoalWord-behind d rows goals s [] w g = (tt, g)
IsGoalWord-behind d rows goals s (x ∷ p) w g = let r = IsGoalWord-behind d rows goals (next_state (states_of rows) s x) p w (record { valid = g.valid.1; there = g.there }) in ((g.valid.0, r.0), r.1)

pub layers_found : (d : ℕ) (rows : List Row) (goals : List Bool) (from : ℕ) (order values : List ℕ) → AreDistances d rows from order values → (sets : List (List ℕ)) (listed : List ℕ) (most bound long : ℕ) → AreLayers d rows goals from values sets listed bound
    → length sets ≡ long + 1 → IsLowered d rows goals from long most bound → bound ≤ long → AreFound d rows goals from most sets
layers_found d rows goals from order values dist sets listed most bound long h size low end =
    let at : length sets - 1 ≡ bound = omega (arith, size, low.least) in
    record {
      some = h.some;
      most = omega (arith, at, low.most, size);
      sound = h.sound;
      exact = λ v w k g e. h.whole v w k g (omega (arith, e, h.some)) (omega (arith, dist.least v k, e, at));
      none = λ x y gx gy n e. elim (cases_lt (length x + 1) (length sets)) [
        | inr z ↦ z
        | inl z ↦
            let r = split_parts x y (parts_from_length x y e n) in
            let bx = IsGoalWord-behind d rows goals from r.0 (r.1 ∷ r.3) (rw (← r.5) gx) in
            let by = IsGoalWord-behind d rows goals from r.0 (r.2 ∷ r.4) (rw (← r.6) gy) in
            let lx = ap length r.5 ∙ length-append r.0 (r.1 ∷ r.3) in
            let ly = ap length r.6 ∙ length-append r.0 (r.2 ∷ r.4) in
            let c = h.parted r.0 r.3 r.4 r.1 r.2 bx.0 r.7 bx.1 by.1 (omega (arith, lx, ly, e)) (omega (arith, lx, z)) in
            absurd (omega (arith, c, dist.least r.0 bx.0, lx, z, at))
      ];
      cause = elim low.cause [ inl z ↦ inl (omega (arith, at, z, size)) | inr z ↦ inr (rw at z) ];
    }
