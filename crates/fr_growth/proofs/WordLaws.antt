-- The first and the second of the words of a length that lead to a goal.
use Rattle.std.proofs.Common.{ℕ, zero, suc, ◌≡◌, ◌≢◌, ◌+◌, ◌-◌, ◌<◌, ◌≤◌, ◌⊎◌, inl, inr, Bool, true, false, List, [], ◌∷◌, ◌++◌, length, take, get_or, Option, Some, None, refl, sym, ◌∙◌, ap, arith, length-append, append_assoc}
use Rattle.std.proofs.lemmas.List.{append-nil, length-take-le, take_more}
use Rattle.std.proofs.lemmas.Bool.{cases_lt, cases_order, both_ways}
use Rattle.fr_model.specs.Words.{IsLetter, IsWord}
use Rattle.fr_model.specs.Automata.{State, next_state, state_after}
use Rattle.fr_model.specs.Separation.{IsLexBefore, IsShortlexBefore}
use Rattle.fr_model.proofs.TermLaws.{IsWord-append}
use Rattle.fr_model.proofs.CanonicalLaws.{lex_irrefl, lex_trans}
use Rattle.fr_machine.specs.declared.row.Row.{Row}
use Rattle.fr_machine.specs.Rows.{states_of}
use Rattle.fr_machine.specs.Minimal.{IsMinimal}
use Rattle.fr_growth.specs.declared.least.Branch.{Branch}
use Rattle.fr_growth.specs.Bits.{has_bit}
use Rattle.fr_growth.specs.Distances.{AreDistances}
use Rattle.fr_growth.specs.Layers.{is_marked, IsGoalWord, IsLeastWord, IsLeastPair, HasWord, HasPair, set_at, AreSound, IsExact, IsLeastLetter, IsNoLetter, IsFirstWord, IsExtended, IsNearest, IsLater, IsBranch, IsLastBranch, IsSecondWord, AreFound}
use Rattle.fr_growth.proofs.RowLaws.{auto_next, after_row}
use Rattle.fr_growth.proofs.WalkLaws.{state_after-append}
use Rattle.fr_growth.proofs.FoundLaws.{IsGoalWord-behind}

-- ---- words in order
lex-append : (v w a : List ℕ) → IsLexBefore v w → IsLexBefore (v ++ a) w
lex-append [] w a h = absurd h
lex-append (x ∷ v) [] a h = absurd h
lex-append (x ∷ v) (y ∷ w) a (inl l) = inl l
lex-append (x ∷ v) (y ∷ w) a (inr q) = inr (q.0, lex-append v w a q.1)

lex-prefix : (p v w : List ℕ) → IsLexBefore v w → IsLexBefore (p ++ v) (p ++ w)
lex-prefix [] v w h = h
lex-prefix (x ∷ p) v w h = inr (refl, lex-prefix p v w h)

lex_at : (p v w : List ℕ) (a b : ℕ) → a < b → IsLexBefore (p ++ a ∷ v) (p ++ b ∷ w)
lex_at [] v w a b l = inl l
lex_at (x ∷ p) v w a b l = inr (refl, lex_at p v w a b l)

lex_same : (u u' w w' : List ℕ) → u ≡ u' → w ≡ w' → IsLexBefore u' w' → IsLexBefore u w
lex_same u u' w w' e f h = rw (e, f) h

-- where a word differs first from one that comes before it
record IsSplit (u w : List ℕ) : Type 0 where
  place : ℕ
  below : place < length u
  letter : ℕ
  rest : List ℕ
  is : w ≡ take place u ++ letter ∷ rest
  greater : get_or u place 0 < letter

lex_split : (u w : List ℕ) → IsLexBefore u w → IsSplit u w
lex_split [] w h = absurd h
lex_split (x ∷ u) [] h = absurd h
lex_split (x ∷ u) (y ∷ w) (inl l) = record { place = 0; below = omega arith; letter = y; rest = w; is = refl; greater = l }
lex_split (x ∷ u) (y ∷ w) (inr q) =
    let r = lex_split u w q.1 in
    record { place = suc r.place; below = omega (arith, r.below); letter = r.letter; rest = r.rest; is = ap (λ z. z ∷ w) (sym q.0) ∙ ap (λ z. x ∷ z) r.is; greater = r.greater }

-- the part of a word before a place, at an earlier place
take_at : (u : List ℕ) (i j : ℕ) → i < j → j ≤ length u → (rest : List ℕ) × (take j u ≡ take i u ++ get_or u i 0 ∷ rest)
take_at u i zero l m = absurd (omega arith)
take_at [] i (suc j) l m = absurd (omega arith)
take_at (x ∷ u) zero (suc j) l m = (take j u, refl)
take_at (x ∷ u) (suc i) (suc j) l m = let r = take_at u i j (omega arith) (omega arith) in (r.0, ap (λ z. x ∷ z) r.1)

take_all : (u : List ℕ) → take (length u) u ≡ u
take_all [] = refl
take_all (x ∷ u) = ap (λ z. x ∷ z) (take_all u)

pub word_at : (d : ℕ) (w : List ℕ) (i : ℕ) → IsWord d w → i < length w → IsLetter d (get_or w i 0)
word_at d [] i v l = absurd (omega arith)
word_at d (x ∷ w) zero v l = v.0
word_at d (x ∷ w) (suc i) v l = word_at d w i v.1 (omega arith)

IsWord-take : (d i : ℕ) (w : List ℕ) → IsWord d w → IsWord d (take i w)
IsWord-take d zero w v = tt
IsWord-take d (suc i) [] v = tt
IsWord-take d (suc i) (x ∷ w) v = (v.0, IsWord-take d i w v.1)

-- ---- goal words
pub goal_before : (d : ℕ) (rows : List Row) (goals : List Bool) (s : ℕ) (p w : List ℕ) → IsWord d p → IsGoalWord d rows goals (state_after (states_of rows) s p) w → IsGoalWord d rows goals s (p ++ w)
goal_before d rows goals s p w v g = record { valid = IsWord-append d p w v g.valid; there = ap (is_marked goals) (state_after-append (states_of rows) s p w) ∙ g.there }

exact_next : (d : ℕ) (rows : List Row) (goals : List Bool) (sets : List (List ℕ)) (s k : ℕ) (p : List ℕ) → IsWord d p → IsExact d rows goals sets s (length p + k) → IsExact d rows goals sets (state_after (states_of rows) s p) k
exact_next d rows goals sets s k p v h = λ q w c g e.
    let at : state_after (states_of rows) (state_after (states_of rows) s p) q ≡ state_after (states_of rows) s (p ++ q) = sym (state_after-append (states_of rows) s p q) in
    ap (has_bit (set_at sets (length w))) at ∙ h (p ++ q) w (IsWord-append d p q v c) (rw at at g) (omega (arith, length-append p q, e))

-- a goal word begins with a letter into the set
exact_letter : (d : ℕ) (rows : List Row) (goals : List Bool) (sets : List (List ℕ)) (s k a : ℕ) (w : List ℕ) → IsExact d rows goals sets s (k + 1) → IsGoalWord d rows goals s (a ∷ w) → length w ≡ k → has_bit (set_at sets k) (next_state (states_of rows) s a) ≡ true
exact_letter d rows goals sets s k a w h g e = ap (λ z. has_bit (set_at sets z) (next_state (states_of rows) s a)) (sym e) ∙ h (a ∷ []) w (g.valid.0, tt) (record { valid = g.valid.1; there = g.there }) (omega (arith, e))

-- ---- the first word, letter by letter
pub record IsWalked (d : ℕ) (rows : List Row) (goals : List Bool) (sets : List (List ℕ)) (from long left row : ℕ) (old new : List ℕ) : Type 0 where
  pub along : List ℕ
  pub appended : new ≡ old ++ along
  pub valid : IsWord d along
  pub at : row ≡ state_after (states_of rows) from along
  pub exact : length along + left ≡ long
  pub onward : IsExact d rows goals sets row left
  pub some : HasWord d rows goals row left
  pub first : (w : List ℕ) → IsGoalWord d rows goals from w → length w ≡ long → ((r : List ℕ) × (w ≡ along ++ r)) ⊎ IsLexBefore along w

pub walked_none : (d : ℕ) (rows : List Row) (goals : List Bool) (sets : List (List ℕ)) (from long : ℕ) (old : List ℕ) → IsExact d rows goals sets from long → HasWord d rows goals from long → IsWalked d rows goals sets from long long from old old
walked_none d rows goals sets from long old h w = record {
  along = [];
  appended = sym (append-nil old);
  valid = tt;
  at = refl;
  exact = omega arith;
  onward = h;
  some = w;
  first = λ v g e. inl (v, refl);
}

module _ (d : ℕ) (rows : List Row) (goals : List Bool) (m : IsMinimal d rows) (sets : List (List ℕ)) (sound : AreSound d rows goals sets) (from long k row : ℕ) (old new : List ℕ) (below : from < length rows) (small : k < length sets)
    (h : IsWalked d rows goals sets from long (k + 1) row old new) where
  row_below : row < length rows
  row_below = rw h.at (after_row d rows m.machine from h.along below)

  pub walked_below : row < length rows
  walked_below = row_below

  -- some letter leads on
  pub walked_some : IsNoLetter d rows (set_at sets k) row 1 → ⊥
  walked_some none = begins h.some.word h.some.goal h.some.exact
    where
      begins : (w : List ℕ) → IsGoalWord d rows goals row w → length w ≡ k + 1 → ⊥
      begins [] g e = omega (arith, e)
      begins (a ∷ w) g e = both_ways (has_bit (set_at sets k) (next_state (states_of rows) row a)) (none a g.valid.0.0 g.valid.0) (exact_letter d rows goals sets row k a w h.onward g (omega (arith, e)))

  module _ (x : ℕ) (l : IsLeastLetter d rows (set_at sets k) row 1 x) where
    continues : (w : List ℕ) (r : List ℕ) → IsGoalWord d rows goals row r → length r ≡ k + 1 → w ≡ h.along ++ r → ((q : List ℕ) × (w ≡ (h.along ++ x ∷ []) ++ q)) ⊎ IsLexBefore (h.along ++ x ∷ []) w
    continues w [] g e f = absurd (omega (arith, e))
    continues w (a ∷ r) g e f = elim (cases_order a x) [
      | inl same ↦ inl (r, f ∙ ap (λ z. h.along ++ z ∷ r) same ∙ sym (append_assoc h.along (x ∷ []) r))
      | inr o ↦ elim o [
        | inl less ↦ absurd (both_ways (has_bit (set_at sets k) (next_state (states_of rows) row a)) (l.first a g.valid.0.0 less g.valid.0) (exact_letter d rows goals sets row k a r h.onward g (omega (arith, e))))
        | inr more ↦ inr (rw f (lex_at h.along [] r x a more))
      ]
    ]

    pub walked_more : IsWalked d rows goals sets from long k (next_state (states_of rows) row x) old (new ++ x ∷ [])
    walked_more = record {
      along = h.along ++ x ∷ [];
      appended = ap (λ z. z ++ x ∷ []) h.appended ∙ append_assoc old h.along (x ∷ []);
      valid = IsWord-append d h.along (x ∷ []) h.valid (l.letter, tt);
      at = ap (λ z. next_state (states_of rows) z x) h.at ∙ sym (state_after-append (states_of rows) from h.along (x ∷ []));
      exact = omega (arith, length-append h.along (x ∷ []), h.exact);
      onward = exact_next d rows goals sets row k (x ∷ []) (l.letter, tt) (let at : k + 1 ≡ length (x ∷ []) + k = omega arith in rw (← at) h.onward);
      some = sound k (next_state (states_of rows) row x) small (auto_next d rows m.machine row x row_below) l.inside;
      first = λ w g e. elim (h.first w g e) [
        | inr z ↦ inr (lex-append h.along w (x ∷ []) z)
        | inl q ↦
            let r = IsGoalWord-behind d rows goals from h.along q.0 (rw (← q.1) g) in
            continues w q.0 (rw h.at r.1) (omega (arith, ap length q.1, length-append h.along q.0, h.exact, e)) q.1
      ];
    }

pub walked_all : (d : ℕ) (rows : List Row) (goals : List Bool) (sets : List (List ℕ)) (from long left row : ℕ) (old new : List ℕ) → left ≤ 0 → IsWalked d rows goals sets from long left row old new → IsExtended d rows goals from long old new
walked_all d rows goals sets from long left row old new z h = (
  h.along,
  h.appended,
  record {
    word = record { valid = h.valid; there = ap (is_marked goals) (sym h.at) ∙ empty h.some.word h.some.goal (omega (arith, h.some.exact)) };
    exact = omega (arith, h.exact);
    first = λ w g e. elim (h.first w g e) [ inr l ↦ inr l | inl q ↦ inl (q.1 ∙ no_more q.0 (omega (arith, ap length q.1, length-append h.along q.0, h.exact, e))) ];
  },
)
  where
    empty : (w : List ℕ) → IsGoalWord d rows goals row w → length w ≤ 0 → is_marked goals row ≡ true
    empty [] g l = g.there
    empty (a ∷ w) g l = absurd (omega arith)

    no_more : (r : List ℕ) → length r ≤ 0 → h.along ++ r ≡ h.along
    no_more [] l = append-nil h.along
    no_more (a ∷ r) l = absurd (omega arith)

-- ---- the second word
module _ (d : ℕ) (rows : List Row) (goals : List Bool) (m : IsMinimal d rows) (sets : List (List ℕ)) (sound : AreSound d rows goals sets) (from : ℕ) (below : from < length rows) (first : List ℕ) (size : length first + 1 ≡ length sets)
    (exact : IsExact d rows goals sets from (length first)) (f : IsFirstWord d rows goals from (length first) first) where
  -- another word makes a later letter
  later_of : (w : List ℕ) → IsGoalWord d rows goals from w → length w ≡ length first → (s : IsSplit first w) → IsLater d rows sets from first s.place s.letter
  later_of w g e s =
      let p = take s.place first in
      let r = IsGoalWord-behind d rows goals from p (s.letter ∷ s.rest) (rw (← s.is) g) in
      let long : length p ≡ s.place = length-take-le s.place first (omega (arith, s.below)) in
      let k : length s.rest ≡ length first - s.place - 1 = omega (arith, ap length s.is, length-append p (s.letter ∷ s.rest), long, e) in
      let at : length first ≡ length p + (length first - s.place - 1 + 1) = omega (arith, long, s.below) in
      let on = exact_next d rows goals sets from (length first - s.place - 1 + 1) p r.0 (rw at at exact) in
      record {
        letter = r.1.valid.0;
        greater = s.greater;
        inside = exact_letter d rows goals sets (state_after (states_of rows) from p) (length first - s.place - 1) s.letter s.rest on r.1 k;
      }

  pub branch_some : HasPair d rows goals from (length first) → ((i x : ℕ) → i < length first → ¬ IsLater d rows sets from first i x) → ⊥
  branch_some h none = elim (f.first h.one h.one_goal h.one_exact) [
    | inr l ↦ let s = lex_split first h.one l in none s.place s.letter s.below (later_of h.one h.one_goal h.one_exact s)
    | inl e ↦ elim (f.first h.other h.other_goal h.other_exact) [
      | inr l ↦ let s = lex_split first h.other l in none s.place s.letter s.below (later_of h.other h.other_goal h.other_exact s)
      | inl e' ↦ h.differ (e ∙ sym e')
    ]
  ]

  module _ (b : Branch) (h : IsBranch d rows sets from first (length first) b) where
    abbrev p : List ℕ
    p = take b.place first

    abbrev left : ℕ
    left = length first - b.place - 1

    abbrev next : ℕ
    next = next_state (states_of rows) (state_after (states_of rows) from p) b.letter

    p_valid : IsWord d p
    p_valid = IsWord-take d b.place first f.word.valid

    p_long : length p ≡ b.place
    p_long = length-take-le b.place first (omega (arith, h.below))

    behind : state_after (states_of rows) from (p ++ b.letter ∷ []) ≡ next
    behind = state_after-append (states_of rows) from p (b.letter ∷ [])

    pub next_below : next < length rows
    next_below = auto_next d rows m.machine (state_after (states_of rows) from p) b.letter (after_row d rows m.machine from p below)

    pub left_below : left < length sets
    left_below = omega (arith, size)

    pub next_some : HasWord d rows goals next left
    next_some = sound left next left_below next_below h.later.inside

    pub next_exact : IsExact d rows goals sets next left
    next_exact =
        let q = p ++ b.letter ∷ [] in
        let at : length first ≡ length q + left = omega (arith, length-append p (b.letter ∷ []), p_long, h.below) in
        rw behind at (exact_next d rows goals sets from left q (IsWord-append d p (b.letter ∷ []) p_valid (h.later.letter, tt)) (rw at at exact))

    module _ (e : List ℕ) (t : IsFirstWord d rows goals next left e) where
      abbrev word : List ℕ
      word = (p ++ b.letter ∷ []) ++ e

      word_is : word ≡ p ++ b.letter ∷ e
      word_is = append_assoc p (b.letter ∷ []) e

      after_first : (w : List ℕ) → IsGoalWord d rows goals from w → length w ≡ length first → IsSplit first w → (w ≡ word) ⊎ IsLexBefore word w
      after_first w g k s = elim (h.last s.place s.letter s.below (later_of w g k s)) [
        | inl early ↦
            let r = take_at first s.place b.place early (omega (arith, h.below)) in
            let at : word ≡ take s.place first ++ get_or first s.place 0 ∷ (r.0 ++ b.letter ∷ e) = word_is ∙ ap (λ z. z ++ b.letter ∷ e) r.1 ∙ append_assoc (take s.place first) (get_or first s.place 0 ∷ r.0) (b.letter ∷ e) in
            inr (lex_same word (take s.place first ++ get_or first s.place 0 ∷ (r.0 ++ b.letter ∷ e)) w (take s.place first ++ s.letter ∷ s.rest) at s.is (lex_at (take s.place first) (r.0 ++ b.letter ∷ e) s.rest (get_or first s.place 0) s.letter s.greater))
        | inr here ↦
            let is : w ≡ p ++ s.letter ∷ s.rest = s.is ∙ ap (λ z. take z first ++ s.letter ∷ s.rest) here.0 in
            elim (cases_lt b.letter s.letter) [
              | inl less ↦ inr (lex_same word (p ++ b.letter ∷ e) w (p ++ s.letter ∷ s.rest) word_is is (lex_at p e s.rest b.letter s.letter less))
              | inr more ↦
                  let same : s.letter ≡ b.letter = omega (arith, here.1) in
                  let is' : w ≡ (p ++ b.letter ∷ []) ++ s.rest = is ∙ ap (λ z. p ++ z ∷ s.rest) same ∙ sym (append_assoc p (b.letter ∷ []) s.rest) in
                  let r = IsGoalWord-behind d rows goals from (p ++ b.letter ∷ []) s.rest (rw is' at g) in
                  elim (t.first s.rest (rw behind at r.1) (omega (arith, ap length is', length-append (p ++ b.letter ∷ []) s.rest, length-append p (b.letter ∷ []), p_long, k))) [
                    | inl z ↦ inl (is' ∙ ap (λ y. (p ++ b.letter ∷ []) ++ y) z)
                    | inr z ↦ inr (lex_same word word w ((p ++ b.letter ∷ []) ++ s.rest) refl is' (lex-prefix (p ++ b.letter ∷ []) e s.rest z))
                  ]
            ]
      ]

      pub second_is : IsSecondWord d rows goals from first word
      second_is = record {
        word = goal_before d rows goals from (p ++ b.letter ∷ []) e (IsWord-append d p (b.letter ∷ []) p_valid (h.later.letter, tt)) (rw behind t.word);
        exact = omega (arith, length-append (p ++ b.letter ∷ []) e, length-append p (b.letter ∷ []), p_long, t.exact, h.below);
        ordered = before first (get_or first b.place 0) (take_at first b.place (length first) h.below (omega arith)).0 (sym (take_all first) ∙ (take_at first b.place (length first) h.below (omega arith)).1) h.later.greater;
        second = λ w g k. elim (f.first w g k) [
          | inl z ↦ inl z
          | inr l ↦ inr (after_first w g k (lex_split first w l))
        ];
      }
        where
          before : (u : List ℕ) (a : ℕ) (r : List ℕ) → u ≡ p ++ a ∷ r → a < b.letter → IsLexBefore u word
          before u a r is l = lex_same u (p ++ a ∷ r) word (p ++ b.letter ∷ e) is word_is (lex_at p r e a b.letter l)

-- ---- the last branch, place by place
module _ (d : ℕ) (rows : List Row) (sets : List (List ℕ)) (from : ℕ) (first : List ℕ) where
  pub branch_none : IsLastBranch d rows sets from first 0 None
  branch_none = λ i x l. absurd (omega arith)

  module _ (k row : ℕ) (at : row ≡ state_after (states_of rows) from (take k first)) where
    pub branch_here : (old : Option Branch) (x : ℕ) → IsLastBranch d rows sets from first k old → IsLeastLetter d rows (set_at sets (length first - k - 1)) row (get_or first k 0 + 1) x
        → IsLastBranch d rows sets from first (k + 1) (Some (record { place = k; letter = x; row = row }))
    branch_here old x h l = record {
      below = omega arith;
      row = at;
      later = record { letter = l.letter; greater = omega (arith, l.from); inside = rw (← at) l.inside };
      last = λ i y b t. elim (cases_lt i k) [
        | inl less ↦ inl less
        | inr more ↦
            let same : i ≡ k = omega arith in
            let t' = rw same at t in
            inr (
              same,
              elim (cases_lt y x) [
                | inr le ↦ le
                | inl lt ↦ absurd (both_ways (has_bit (set_at sets (length first - k - 1)) (next_state (states_of rows) row y)) (l.first y (omega (arith, t'.greater)) lt t'.letter) (rw at t'.inside))
              ],
            )
      ];
    }

    nowhere : IsNoLetter d rows (set_at sets (length first - k - 1)) row (get_or first k 0 + 1) → (y : ℕ) → IsLater d rows sets from first k y → ⊥
    nowhere n y t = both_ways (has_bit (set_at sets (length first - k - 1)) (next_state (states_of rows) row y)) (n y (omega (arith, t.greater)) t.letter) (rw at t.inside)

    pub branch_keep : (old : Option Branch) → IsLastBranch d rows sets from first k old → IsNoLetter d rows (set_at sets (length first - k - 1)) row (get_or first k 0 + 1) → IsLastBranch d rows sets from first (k + 1) old
    branch_keep None h n = λ i y l t. elim (cases_lt i k) [
      | inl less ↦ h i y less t
      | inr more ↦ (let same : i ≡ k = omega arith in nowhere n y (rw same at t))
    ]
    branch_keep (Some b) h n = record {
      below = omega (arith, h.below);
      row = h.row;
      later = h.later;
      last = λ i y l t. elim (cases_lt i k) [
        | inl less ↦ h.last i y less t
        | inr more ↦ (let same : i ≡ k = omega arith in absurd (nowhere n y (rw same at t)))
      ];
    }

pub take_next : (qs : List State) (from k : ℕ) (first : List ℕ) → k < length first → state_after qs from (take (k + 1) first) ≡ next_state qs (state_after qs from (take k first)) (get_or first k 0)
take_next qs from k first l = ap (state_after qs from) (take_more first k 0 l) ∙ state_after-append qs from (take k first) (get_or first k 0 ∷ [])

-- ---- the least word and the least pair
pub least_of : (d : ℕ) (rows : List Row) (goals : List Bool) (s most : ℕ) (sets : List (List ℕ)) → IsNearest d rows goals s most → AreFound d rows goals s most sets → (e : List ℕ) → IsFirstWord d rows goals s (length sets - 1) e → IsLeastWord d rows goals s e
least_of d rows goals s most sets n f e t = record {
  word = t.word;
  least = λ v g b. elim b [
    | inl l ↦ omega (arith, n.least v g, l, t.exact, f.most)
    | inr q ↦ elim (t.first v g (q.0 ∙ t.exact)) [ inl z ↦ lex_irrefl e (rw z at q.1) | inr z ↦ lex_irrefl e (lex_trans e v e z q.1) ]
  ];
}

pub long_of : (d : ℕ) (rows : List Row) (goals : List Bool) (s most : ℕ) (sets : List (List ℕ)) → IsNearest d rows goals s most → AreFound d rows goals s most sets → HasWord d rows goals s (length sets - 1)
long_of d rows goals s most sets n f = elim f.cause [
  | inl z ↦ let at : length sets - 1 ≡ most = omega (arith, z) in rw at n.word
  | inr h ↦ record { word = h.one; goal = h.one_goal; exact = h.one_exact }
]

pub pair_of : (d : ℕ) (rows : List Row) (goals : List Bool) (s most : ℕ) (sets : List (List ℕ)) → AreFound d rows goals s most sets → (x y : List ℕ) → IsGoalWord d rows goals s x → IsGoalWord d rows goals s y → x ≢ y → length x ≡ length y → length x ≤ most → HasPair d rows goals s (length sets - 1)
pair_of d rows goals s most sets f x y gx gy n e l = elim f.cause [
  | inr h ↦ h
  | inl z ↦
      let at : length x ≡ length sets - 1 = omega (arith, z, f.none x y gx gy n e, l) in
      record { one = x; other = y; one_goal = gx; other_goal = gy; differ = n; one_exact = at; other_exact = omega (arith, at, e) }
]

pub least_pair_of : (d : ℕ) (rows : List Row) (goals : List Bool) (s most : ℕ) (sets : List (List ℕ)) → AreFound d rows goals s most sets → (u w : List ℕ) → IsFirstWord d rows goals s (length sets - 1) u → IsSecondWord d rows goals s u w → IsLeastPair d rows goals s u w
least_pair_of d rows goals s most sets f u w t q = record {
  first = t.word;
  second = q.word;
  one_length = sym q.exact;
  ordered = q.ordered;
  first_two = λ v g e. q.second v g e;
  least = λ x y gx gy n e. omega (arith, t.exact, f.none x y gx gy n e);
}

-- ---- the nearest goal
pub nearest_of : (d : ℕ) (rows : List Row) (goals : List Bool) (from : ℕ) (order values : List ℕ) → AreDistances d rows from order values → (i row long : ℕ) → i < length order → row ≡ get_or order i 0 → is_marked goals row ≡ true → long ≡ get_or values row 0
    → ((j : ℕ) → j < i → is_marked goals (get_or order j 0) ≡ false) → IsNearest d rows goals from long
nearest_of d rows goals from order values dist i row long l r marked v before =
    let real = dist.real i l in
    record {
      word = record { word = real.along; goal = record { valid = real.valid; there = ap (is_marked goals) (real.there ∙ sym r) ∙ marked }; exact = real.exact ∙ ap (λ z. get_or values z 0) (sym r) ∙ sym v };
      least = λ w g.
          let j = dist.whole w g.valid in
          elim (cases_lt j.0 i) [
            | inl less ↦ absurd (both_ways (is_marked goals (get_or order j.0 0)) (before j.0 less) (ap (is_marked goals) j.2 ∙ g.there))
            | inr more ↦ omega (arith, v, ap (λ z. get_or values z 0) r, dist.rising i j.0 more j.1, ap (λ z. get_or values z 0) j.2, dist.least w g.valid)
          ];
    }

pub nearest_some : (d : ℕ) (rows : List Row) (goals : List Bool) (from : ℕ) (order values : List ℕ) → AreDistances d rows from order values → (w : List ℕ) → IsGoalWord d rows goals from w → ((j : ℕ) → j < length order → is_marked goals (get_or order j 0) ≡ false) → ⊥
nearest_some d rows goals from order values dist w g none = let j = dist.whole w g.valid in both_ways (is_marked goals (get_or order j.0 0)) (none j.0 j.1) (ap (is_marked goals) j.2 ∙ g.there)

-- the empty word is the least where the row is a goal itself
none_before_empty : (v : List ℕ) → ¬ IsShortlexBefore v []
none_before_empty v (inl l) = absurd (omega (arith, l))
none_before_empty [] (inr e) = e.1
none_before_empty (x ∷ v) (inr e) = e.1

pub least_empty : (d : ℕ) (rows : List Row) (goals : List Bool) (s : ℕ) → is_marked goals s ≡ true → IsLeastWord d rows goals s []
least_empty d rows goals s h = record {
  word = record { valid = tt; there = h };
  least = λ v g b. none_before_empty v b;
}
