-- Parts of a layer of rows from which words lead to a goal, edge by edge.
use Rattle.std.proofs.Common.{ℕ, ◌≡◌, ◌≢◌, ◌==◌, ◌+◌, ◌-◌, ◌<◌, ◌≤◌, ◌⊎◌, inl, inr, ◌||◌, Bool, true, false, List, [], ◌∷◌, ◌++◌, length, set, get_or, refl, sym, ◌∙◌, ap, arith, length-append, eq-eqb}
use Rattle.std.proofs.lemmas.List.{get_or_append_left, get_or_push, length_push, get_or-set_same, get_or-set_other, length-set}
use Rattle.std.proofs.lemmas.Bool.{cases_lt, cases_eq, both_ways, eqb-true}
use Rattle.fr_model.specs.Automata.{state_after}
use Rattle.fr_model.proofs.TermLaws.{IsWord-append}
use Rattle.fr_machine.specs.declared.row.Row.{Row}
use Rattle.fr_machine.specs.Rows.{states_of}
use Rattle.fr_machine.specs.Minimal.{IsMinimal}
use Rattle.fr_growth.specs.declared.edges.Edge.{Edge}
use Rattle.fr_growth.specs.Bits.{has_bit}
use Rattle.fr_growth.specs.Distances.{AreDistances}
use Rattle.fr_growth.specs.Edges.{edge_at, target_at, IsLatest, AreEdges}
use Rattle.fr_growth.specs.Layers.{is_marked, IsGoalWord, HasWord, HasPair, IsEntered, IsToFirst, IsPart, IsLowered, AreWithWords}
use Rattle.fr_growth.proofs.RowLaws.{or_cases, or_left, or_right}
use Rattle.fr_growth.proofs.WalkLaws.{state_after-append}

true_or_false : (b : Bool) → (b ≡ true) ⊎ (b ≡ false)
true_or_false true = inl refl
true_or_false false = inr refl

-- the edges to the rows before a place of a list, and those to its row from a number on
abbrev pub IsDone : List Row → List Edge → List ℕ → ℕ → ℕ → ℕ → Type 0
IsDone rows edges listed place number e = IsToFirst rows edges listed place e ⊎ ((number ≤ e) × (target_at rows edges e ≡ get_or listed place 0))

-- the number of an edge to the row at a place of a list; 0 for none
abbrev pub IsHere : List Row → List Edge → List ℕ → ℕ → ℕ → Type 0
IsHere rows edges listed place number =
    IsLatest rows edges (get_or listed place 0) number (length edges)
    ⊎ ((e : ℕ) × (e < length edges) × (target_at rows edges e ≡ get_or listed place 0) × IsLatest rows edges (get_or listed place 0) number e)

-- ---- parts of a layer
module _ (d : ℕ) (rows : List Row) (goals : List Bool) (values : List ℕ) (edges : List Edge) (long : ℕ) where
  -- fewer edges were looked at
  pub part_less : (done done' : ℕ → Type 0) (bits listed letters : List ℕ) (bound : ℕ) → IsPart d rows goals values edges long done bits listed letters bound
      → ((e : ℕ) → e < length edges → done' e → get_or values (edge_at edges e).row 0 + long ≤ bound → done e) → IsPart d rows goals values edges long done' bits listed letters bound
  part_less done done' bits listed letters bound h less = record {
    size = h.size;
    found = h.found;
    below = h.below;
    sound = h.sound;
    taken = λ e l q k. h.taken e l (less e l q k) k;
  }

  -- nothing was looked at
  pub part_none : (done : ℕ → Type 0) (bits letters : List ℕ) (bound : ℕ) → ((e : ℕ) → done e → ⊥) → length letters ≡ length rows → length rows ≤ 1024 → ((u : ℕ) → u < 1024 → has_bit bits u ≡ false) → IsPart d rows goals values edges long done bits [] letters bound
  part_none done bits letters bound none size small empty = record {
    size = size;
    found = λ u l e. absurd (both_ways (has_bit bits u) (empty u (omega arith)) e);
    below = λ i l. absurd (omega arith);
    sound = λ u l e. absurd (both_ways (has_bit bits u) (empty u (omega arith)) e);
    taken = λ e l q k. absurd (none e q);
  }

  -- an edge is looked at
  module _ (m : IsMinimal d rows) (from : ℕ) (order : List ℕ) (dist : AreDistances d rows from order values) (lasts : List ℕ) (graph : AreEdges d rows order values edges lasts) (done done' : ℕ → Type 0)
      (bits listed letters : List ℕ) (bound : ℕ) (h : IsPart d rows goals values edges long done bits listed letters bound) (e : ℕ) (el : e < length edges) (one : (f : ℕ) → done' f → (f ≡ e) ⊎ done f)
      (word : HasWord d rows goals (target_at rows edges e) (long - 1)) (pos : 1 ≤ long) (within : get_or values (edge_at edges e).row 0 + long ≤ bound) where
    abbrev s : ℕ
    s = (edge_at edges e).row

    abbrev x : ℕ
    x = (edge_at edges e).letter

    sb : s < length rows
    sb = let w = (graph.inside e el).0 in rw (← w.2) (dist.below w.0 w.1)

    small : s < 1024
    small = omega (arith, sb, m.small)

    first_word : (w : List ℕ) × IsGoalWord d rows goals s (x ∷ w) × (length w + 1 ≡ long)
    first_word = (word.word, record { valid = ((graph.inside e el).1, word.goal.valid); there = word.goal.there }, omega (arith, word.exact, pos))

    -- to a row that is new
    module _ (bits' listed' letters' : List ℕ) (fresh : has_bit bits s ≡ false) (es : (u : ℕ) → u < 1024 → has_bit bits' u ≡ (has_bit bits u || u == s)) (ei : listed' ≡ listed ++ s ∷ []) (ex : letters' ≡ set letters s x) where
      longer : length listed' ≡ length listed + 1
      longer = ap length ei ∙ length_push listed s

      there : has_bit bits' s ≡ true
      there = es s small ∙ or_right (has_bit bits s) (s == s) (eq-eqb s s refl)

      here : get_or letters' s 0 ≡ x
      here = ap (λ z. get_or z s 0) ex ∙ get_or-set_same letters s x 0 (omega (arith, h.size, sb))

      other : (u : ℕ) → u ≢ s → get_or letters' u 0 ≡ get_or letters u 0
      other u n = ap (λ z. get_or z u 0) ex ∙ get_or-set_other letters s u x 0 n

      not_s : (u : ℕ) → has_bit bits u ≡ true → u ≢ s
      not_s u q z = both_ways (has_bit bits s) fresh (ap (has_bit bits) (sym z) ∙ q)

      pub part_fresh : IsPart d rows goals values edges long done' bits' listed' letters' bound
      part_fresh = record {
        size = ap length ex ∙ length-set letters s x ∙ h.size;
        found = λ u l q. elim (or_cases (has_bit bits u) (u == s) (sym (es u (omega (arith, l, m.small))) ∙ q)) [
          | inl z ↦ let w = h.found u l z in (w.0, omega (arith, longer, w.1), ap (λ y. get_or y w.0 0) ei ∙ get_or_append_left listed (s ∷ []) 0 w.0 w.1 ∙ w.2)
          | inr z ↦ (length listed, omega (arith, longer), ap (λ y. get_or y (length listed) 0) ei ∙ get_or_push listed s 0 (length listed) refl ∙ sym (eqb-true u s z))
        ];
        below = λ i l. elim (cases_lt i (length listed)) [
          | inl z ↦
              let w = h.below i z in
              rw (ei, get_or_append_left listed (s ∷ []) 0 i z) (w.0, es (get_or listed i 0) (omega (arith, w.0, m.small)) ∙ or_left (has_bit bits (get_or listed i 0)) (get_or listed i 0 == s) w.1)
          | inr z ↦ let at : i ≡ length listed = omega (arith, longer) in rw (ei, at, get_or_push listed s 0 (length listed) refl) (sb, there)
        ];
        sound = λ u l q. elim (or_cases (has_bit bits u) (u == s) (sym (es u (omega (arith, l, m.small))) ∙ q)) [
          | inl z ↦ rw (other u (not_s u z)) (h.sound u l z)
          | inr z ↦ rw (eqb-true u s z, here) first_word
        ];
        taken = λ f l q k. elim (one f q) [
          | inl same ↦ rw same (there, inl here)
          | inr old ↦
              let w = h.taken f l old k in
              let fb = (graph.inside f l).0 in
              let r = (edge_at edges f).row in
              let rb : r < length rows = rw (← fb.2) (dist.below fb.0 fb.1) in
              let n = not_s r w.0 in
              (es r (omega (arith, rb, m.small)) ∙ or_left (has_bit bits r) (r == s) w.0, elim w.1 [ inl z ↦ inl (other r n ∙ z) | inr z ↦ inr z ])
        ];
      }

    -- to a row that is there, with the same letter or with another one
    module _ (met : has_bit bits s ≡ true) where
      pub part_same : get_or letters s 0 ≡ x → IsPart d rows goals values edges long done' bits listed letters bound
      part_same eq = record {
        size = h.size;
        found = h.found;
        below = h.below;
        sound = h.sound;
        taken = λ f l q k. elim (one f q) [ inl same ↦ rw same (met, inl eq) | inr old ↦ h.taken f l old k ];
      }

      pub part_again : (bound' : ℕ) → bound' ≡ get_or values s 0 + long → IsPart d rows goals values edges long done' bits listed letters bound'
      part_again bound' lower = record {
        size = h.size;
        found = h.found;
        below = h.below;
        sound = h.sound;
        taken = λ f l q k. elim (one f q) [
          | inl same ↦ rw same (met, inr (omega (arith, lower)))
          | inr old ↦ let w = h.taken f l old (omega (arith, k, lower, within)) in (w.0, elim w.1 [ inl z ↦ inl z | inr z ↦ inr (omega (arith, z, lower, within)) ])
        ];
      }

      pub pair_again : get_or letters s 0 ≢ x → (bound' : ℕ) → bound' ≡ get_or values s 0 + long → HasPair d rows goals from bound'
      pair_again ne bound' lower =
          let w = h.sound s sb met in
          let at = (graph.inside e el).0 in
          let r = dist.real at.0 at.1 in
          let to : state_after (states_of rows) from r.along ≡ s = r.there ∙ at.2 in
          let far : length r.along ≡ get_or values s 0 = r.exact ∙ ap (λ z. get_or values z 0) at.2 in
          let y = get_or letters s 0 in
          let goal_of : (v : List ℕ) → IsGoalWord d rows goals s v → IsGoalWord d rows goals from (r.along ++ v) = λ v g. record { valid = IsWord-append d r.along v r.valid g.valid; there = ap (is_marked goals) (state_after-append (states_of rows) from r.along v ∙ ap (λ z. state_after (states_of rows) z v) to) ∙ g.there } in
          record {
            one = r.along ++ y ∷ w.0;
            other = r.along ++ x ∷ first_word.0;
            one_goal = goal_of (y ∷ w.0) w.1;
            other_goal = goal_of (x ∷ first_word.0) first_word.1;
            differ = λ z. ne (heads r.along y x w.0 first_word.0 z);
            one_exact = omega (arith, length-append r.along (y ∷ w.0), far, w.2, lower);
            other_exact = omega (arith, length-append r.along (x ∷ first_word.0), far, first_word.2, lower);
          }
        where
          head : (a b : ℕ) (v w : List ℕ) → ◌≡◌ {A = List ℕ} (a ∷ v) (b ∷ w) → a ≡ b
          head a b v w e = cc

          tail : (a b : ℕ) (v w : List ℕ) → ◌≡◌ {A = List ℕ} (a ∷ v) (b ∷ w) → v ≡ w
          tail a b v w e = cc

          heads : (p : List ℕ) (a b : ℕ) (v w : List ℕ) → p ++ a ∷ v ≡ p ++ b ∷ w → a ≡ b
          heads [] a b v w e = head a b v w e
          heads (q ∷ p) a b v w e = heads p a b v w (tail q q (p ++ a ∷ v) (p ++ b ∷ w) e)

    entered_once : (bits' listed' letters' : List ℕ) (again : Bool) → IsEntered bits listed letters s x again bits' listed' letters' → again ≡ false → IsPart d rows goals values edges long done' bits' listed' letters' bound
    entered_once bits' listed' letters' again q f = elim q [
      | inl z ↦ part_fresh bits' listed' letters' z.0 z.2 z.3 z.4
      | inr z ↦ rw (z.1, z.2, z.3) (part_same z.0 (z.5 f))
    ]

    entered_again : (bits' listed' letters' : List ℕ) (again : Bool) → IsEntered bits listed letters s x again bits' listed' letters' → again ≡ true → (bound' : ℕ) → bound' ≡ get_or values s 0 + long
        → IsPart d rows goals values edges long done' bits' listed' letters' bound' × HasPair d rows goals from bound'
    entered_again bits' listed' letters' again q t bound' lower = elim q [
      | inl z ↦ absurd (both_ways again z.1 t)
      | inr z ↦ (rw (z.1, z.2, z.3) (part_again z.0 bound' lower), pair_again z.0 (z.4 t) bound' lower)
    ]

-- ---- the edges to one row
module _ (d : ℕ) (rows : List Row) (goals : List Bool) (m : IsMinimal d rows) (from : ℕ) (order values : List ℕ) (dist : AreDistances d rows from order values) (edges : List Edge) (lasts : List ℕ) (graph : AreEdges d rows order values edges lasts)
    (long : ℕ) (pos : 1 ≤ long) (listed : List ℕ) (words : AreWithWords d rows goals listed (long - 1)) (place : ℕ) (below : place < length listed) where
  pub here_first : IsHere rows edges listed place (get_or lasts (get_or listed place 0) 0)
  here_first = inl (graph.heads (get_or listed place 0) (words place below).0)

  positive : (a : ℕ) → 0 < a → a ≢ 0
  positive a l z = omega (arith, z)

  pub here_edge : (number : ℕ) → 0 < number → IsHere rows edges listed place number → (number ≤ length edges) × (target_at rows edges (number - 1) ≡ get_or listed place 0)
  here_edge number p h = elim h [
    | inl z ↦ (z.below, z.hits (positive number p))
    | inr z ↦ (omega (arith, z.3.below, z.1), z.3.hits (positive number p))
  ]

  pub edge_row : (number : ℕ) → 0 < number → IsHere rows edges listed place number → (edge_at edges (number - 1)).row < length values
  edge_row number p h =
      let w = (graph.inside (number - 1) (omega (arith, (here_edge number p h).0, p))).0 in
      let b = dist.below w.0 w.1 in
      rw (← w.2) (omega (arith, dist.size, b))

  pub here_next : (number : ℕ) → 0 < number → IsHere rows edges listed place number → IsHere rows edges listed place (edge_at edges (number - 1)).earlier
  here_next number p h =
      let e = here_edge number p h in
      let l : number - 1 < length edges = omega (arith, e.0) in
      inr (number - 1, l, e.1, rw (← e.1) (graph.earlier (number - 1) l))

  word_here : (number : ℕ) → 0 < number → IsHere rows edges listed place number → HasWord d rows goals (target_at rows edges (number - 1)) (long - 1)
  word_here number p h = rw (here_edge number p h).1 (words place below).1

  -- the next number leaves out no edge to this row
  one_more : (number : ℕ) → 0 < number → IsHere rows edges listed place number → (f : ℕ) → IsDone rows edges listed place (edge_at edges (number - 1)).earlier f → (f ≡ number - 1) ⊎ IsDone rows edges listed place number f
  one_more number p h f q = elim q [
    | inl z ↦ inr (inl z)
    | inr z ↦ elim (cases_lt f (number - 1)) [
      | inl less ↦
          let e = here_edge number p h in
          let l : number - 1 < length edges = omega (arith, e.0) in
          absurd ((graph.earlier (number - 1) l).last f z.0 less (z.1 ∙ sym e.1))
      | inr more ↦ elim (cases_eq f (number - 1)) [ inl same ↦ inl same | inr ne ↦ inr (inr (omega (arith, ne), z.1)) ]
    ]
  ]

  module _ (bits found letters : List ℕ) (bound : ℕ) where
    pub enter_start : (number : ℕ) → number ≡ get_or lasts (get_or listed place 0) 0 → IsPart d rows goals values edges long (λ e. IsToFirst rows edges listed place e) bits found letters bound → IsPart d rows goals values edges long (IsDone rows edges listed place number) bits found letters bound
    enter_start number n h = part_less d rows goals values edges long (λ e. IsToFirst rows edges listed place e) (IsDone rows edges listed place number) bits found letters bound h (λ e l q k. elim q [
      | inl z ↦ z
      | inr z ↦ absurd ((graph.heads (get_or listed place 0) (words place below).0).last e (rw n at z.0) l z.1)
    ])

    -- no edge is left
    pub enter_end : (number : ℕ) → number ≤ 0 → IsPart d rows goals values edges long (IsDone rows edges listed place number) bits found letters bound → IsPart d rows goals values edges long (λ e. IsToFirst rows edges listed (place + 1) e) bits found letters bound
    enter_end number z h = part_less d rows goals values edges long (IsDone rows edges listed place number) (λ e. IsToFirst rows edges listed (place + 1) e) bits found letters bound h (λ e l q k. split e q (omega arith))
      where
        split : (e : ℕ) → IsToFirst rows edges listed (place + 1) e → number ≤ e → IsDone rows edges listed place number e
        split e q a = elim (cases_lt q.0 place) [ inl less ↦ inl (q.0, less, q.2, q.3) | inr more ↦ (let at : q.0 ≡ place = omega (arith, q.1) in inr (a, q.3 ∙ ap (λ y. get_or listed y 0) at)) ]

    -- the edges that are left lead from rows that are too far
    pub enter_far : (number : ℕ) → 0 < number → IsHere rows edges listed place number → bound < get_or values (edge_at edges (number - 1)).row 0 + long → IsPart d rows goals values edges long (IsDone rows edges listed place number) bits found letters bound
        → IsPart d rows goals values edges long (λ e. IsToFirst rows edges listed (place + 1) e) bits found letters bound
    enter_far number p w far h = part_less d rows goals values edges long (IsDone rows edges listed place number) (λ e. IsToFirst rows edges listed (place + 1) e) bits found letters bound h (λ e l q k. elim (cases_lt q.0 place) [
      | inl less ↦ inl (q.0, less, q.2, q.3)
      | inr more ↦
          let at : q.0 ≡ place = omega (arith, q.1) in
          let here = here_edge number p w in
          elim (cases_lt e number) [
            | inl less ↦ absurd (omega (arith, far, k, graph.falling e (number - 1) (omega arith) (omega (arith, here.0))))
            | inr more' ↦ inr (more', q.3 ∙ ap (λ y. get_or listed y 0) at)
          ]
    ])

    module _ (number : ℕ) (p : 0 < number) (w : IsHere rows edges listed place number) (h : IsPart d rows goals values edges long (IsDone rows edges listed place number) bits found letters bound) (within : get_or values (edge_at edges (number - 1)).row 0 + long ≤ bound) (bits' found' letters' : List ℕ) (again : Bool)
        (q : IsEntered bits found letters (edge_at edges (number - 1)).row (edge_at edges (number - 1)).letter again bits' found' letters') where
      l : number - 1 < length edges
      l = omega (arith, (here_edge number p w).0, p)

      pub enter_once : again ≡ false → IsPart d rows goals values edges long (IsDone rows edges listed place (edge_at edges (number - 1)).earlier) bits' found' letters' bound
      enter_once f = entered_once d rows goals values edges long m from order dist lasts graph (IsDone rows edges listed place number) (IsDone rows edges listed place (edge_at edges (number - 1)).earlier) bits found letters bound h (number - 1) l (one_more number p w) (word_here number p w) pos within bits' found' letters' again q f

      pub enter_again : again ≡ true → (bound' : ℕ) → bound' ≡ get_or values (edge_at edges (number - 1)).row 0 + long → IsPart d rows goals values edges long (IsDone rows edges listed place (edge_at edges (number - 1)).earlier) bits' found' letters' bound' × HasPair d rows goals from bound'
      enter_again t bound' lower = entered_again d rows goals values edges long m from order dist lasts graph (IsDone rows edges listed place number) (IsDone rows edges listed place (edge_at edges (number - 1)).earlier) bits found letters bound h (number - 1) l (one_more number p w) (word_here number p w) pos within bits' found' letters' again q t bound' lower

pub lowered_more : (d : ℕ) (rows : List Row) (goals : List Bool) (from long a b c : ℕ) → IsLowered d rows goals from long a b → IsLowered d rows goals from long b c → IsLowered d rows goals from long a c
lowered_more d rows goals from long a b c h g = record {
  most = omega (arith, h.most, g.most);
  least = g.least;
  cause = elim g.cause [ inr z ↦ inr z | inl z ↦ elim h.cause [ inl y ↦ inl (z ∙ y) | inr y ↦ inr (rw z y) ] ];
}
