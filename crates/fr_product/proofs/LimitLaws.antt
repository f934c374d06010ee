-- What remains when rows are peeled is what is reached from a cycle.
use Rattle.std.proofs.Common.{ℕ, zero, suc, ◌≡◌, ◌≢◌, ◌+◌, ◌<◌, ◌≤◌, inl, inr, Bool, true, false, List, [], ◌∷◌, ◌++◌, length, get_or, set, replicate, refl, sym, ◌∙◌, ap, subst, arith, eqb}
use Rattle.std.proofs.lemmas.List.Sums.{sum_by-append}
use Rattle.fr_machine.specs.declared.row.Row.{Row}
use Rattle.fr_machine.specs.Rows.{state_of, states_of}
use Rattle.std.specs.List.{list_any}
use Rattle.std.proofs.lemmas.List.{get_or_default}
use Rattle.std.proofs.lemmas.Bool.{cases_lt, cases_eq, ne_eqb}
use Rattle.std.proofs.Common.{eq-eqb}
use Rattle.std.proofs.lemmas.Map.Keys.{IsDistinct-from_apart}
use Rattle.std.proofs.lemmas.Map.Steps.{length-le_from_distinct_below}
use Rattle.fr_model.specs.Words.{IsLetter, IsWord}
use Rattle.fr_model.specs.Automata.{State, state_at, next_state, state_after, IsAutomaton, IsReached, IsLimitState}
use Rattle.fr_model.proofs.PermutationLaws.{present_place, present_at}
use Rattle.fr_model.proofs.TermLaws.{IsWord-append}
use Rattle.fr_model.proofs.AutomatonLaws.{state_is, next_state-lt, state_after-append}
use Rattle.fr_product.specs.Limits.{times, arrivals_from, arriving, IsIn, AreApart}

-- ---- counts
pub times-here : (y x : ℕ) (xs : List ℕ) → x ≡ y → times y (x ∷ xs) ≡ suc (times y xs)
times-here y x xs e = rw (eq-eqb x y e) (omega arith)

pub times-other : (y x : ℕ) (xs : List ℕ) → x ≢ y → times y (x ∷ xs) ≡ times y xs
times-other y x xs e = rw (ne_eqb x y e) (omega arith)

-- a number that is counted stands somewhere
pub times-positive : (y : ℕ) (xs : List ℕ) → 0 < times y xs → IsIn xs y
times-positive y [] h = absurd (omega arith)
times-positive y (x ∷ xs) h = elim (cases_eq x y) [
  | inl e ↦ record { place = 0; inside = omega arith; is = e }
  | inr n ↦ let r = times-positive y xs (omega (arith, times-other y x xs n)) in record { place = suc r.place; inside = omega (arith, r.inside); is = r.is }
]

-- and one that stands somewhere is counted
pub times-in : (y : ℕ) (xs : List ℕ) → IsIn xs y → 0 < times y xs
times-in y xs h = go xs h.place h.inside h.is
  where
    go : (xs : List ℕ) (i : ℕ) → i < length xs → get_or xs i 0 ≡ y → 0 < times y xs
    go [] i l e = absurd (omega arith)
    go (x ∷ xs) zero l e = omega (arith, times-here y x xs e)
    go (x ∷ xs) (suc i) l e = elim (cases_eq x y) [
      | inl f ↦ omega (arith, times-here y x xs f)
      | inr n ↦ omega (arith, times-other y x xs n, go xs i (omega arith) e)
    ]

pub times-le : (y : ℕ) (xs : List ℕ) → times y xs ≤ length xs
times-le y [] = omega arith
times-le y (x ∷ xs) = elim (cases_eq x y) [
  | inl e ↦ omega (arith, times-here y x xs e, times-le y xs)
  | inr n ↦ omega (arith, times-other y x xs n, times-le y xs)
]

pub times-append : (y : ℕ) (xs zs : List ℕ) → times y (xs ++ zs) ≡ times y xs + times y zs
times-append y [] zs = omega arith
times-append y (x ∷ xs) zs = elim (cases_eq x y) [
  | inl e ↦ omega (arith, times-here y x (xs ++ zs) e, times-here y x xs e, times-append y xs zs)
  | inr n ↦ omega (arith, times-other y x (xs ++ zs) n, times-other y x xs n, times-append y xs zs)
]

-- a marked state whose mark is taken
pub arriving-set : (qs : List State) (bs : List Bool) (s y : ℕ) → s < length qs → length bs ≡ length qs → get_or bs s false ≡ true → arriving qs bs y ≡ arriving qs (set bs s false) y + times y (state_at qs s).next
arriving-set [] bs s y l e f = absurd (omega arith)
arriving-set (q ∷ qs) [] s y l e f = absurd (omega arith)
arriving-set (q ∷ qs) (b ∷ bs) zero y l e f = rw f (omega arith)
arriving-set (q ∷ qs) (b ∷ bs) (suc s) y l e f = let r = arriving-set qs bs s y (omega arith) (omega arith) f in omega arith

-- none arrives from a marked state
pub arriving-zero : (qs : List State) (bs : List Bool) (s y : ℕ) → s < length qs → length bs ≡ length qs → get_or bs s false ≡ true → arriving qs bs y ≡ 0 → times y (state_at qs s).next ≡ 0
arriving-zero qs bs s y l e f z = omega (arith, arriving-set qs bs s y l e f)

-- one arrives from some marked state
pub arriving-positive : (qs : List State) (bs : List Bool) (y : ℕ) → 0 < arriving qs bs y → (s : ℕ) × (s < length qs) × (get_or bs s false ≡ true) × (0 < times y (state_at qs s).next)
arriving-positive [] bs y h = absurd (omega arith)
arriving-positive (q ∷ qs) [] y h = absurd (omega arith)
arriving-positive (q ∷ qs) (true ∷ bs) y h = elim (cases_lt 0 (times y q.next)) [
  | inl l ↦ (0, omega arith, refl, l)
  | inr g ↦ let r = arriving-positive qs bs y (omega arith) in (suc r.0, omega (arith, r.1), r.2, r.3)
]
arriving-positive (q ∷ qs) (false ∷ bs) y h = let r = arriving-positive qs bs y (omega arith) in (suc r.0, omega (arith, r.1), r.2, r.3)

-- all are marked
pub arriving-all : (rows : List Row) (y : ℕ) → arriving (states_of rows) (replicate (length rows) true) y ≡ arrivals_from y rows
arriving-all [] y = refl
arriving-all (r ∷ rows) y = ap (λ n. times y (state_of r).next + n) (arriving-all rows y) ∙ sym (sum_by-append (λ q. times y (state_of q).next) (r ∷ []) rows ∙ omega arith)

-- numbers that are apart and below a bound are no more than it
apart-le : (xs : List ℕ) (n : ℕ) → AreApart xs → ((i : ℕ) → i < length xs → get_or xs i 0 < n) → length xs ≤ n
apart-le xs n apart below =
    length-le_from_distinct_below xs n
    (IsDistinct-from_apart eqb xs (λ i j e l k. ne_eqb _ _ (λ same. apart i j l k (get_or_default xs i 0 e (omega arith) ∙ same ∙ get_or_default xs j e 0 k))))
    (λ q h.
    let r = present_place 0 xs q h in
    omega (arith, below r.0 r.1, get_or_default xs r.0 0 q r.1, r.3))

-- ---- limit states
module _ (d : ℕ) (qs : List State) (g : IsAutomaton d qs) where
  -- the next state at a letter stands among the next states
  pub next-in : (s x : ℕ) → s < length qs → IsLetter d x → IsIn (state_at qs s).next (next_state qs s x)
  next-in s zero l a = absurd (omega (arith, a.0))
  next-in s (suc k) l a =
      let inside : k < length (state_at qs s).next = omega (arith, (state_is d qs s g l).arity, a.1) in
      record { place = k; inside = inside; is = get_or_default (state_at qs s).next k 0 s inside }

  pub in-next : (s y : ℕ) → s < length qs → IsIn (state_at qs s).next y → (x : ℕ) × IsLetter d x × (next_state qs s x ≡ y)
  in-next s y l h = (suc h.place, (omega arith, omega (arith, h.inside, (state_is d qs s g l).arity)), get_or_default (state_at qs s).next h.place s 0 h.inside ∙ h.is)

  -- the next states of a limit state are limit states
  pub limit_next : (s x : ℕ) → IsLetter d x → IsLimitState d qs s → IsLimitState d qs (next_state qs s x)
  limit_next s x a h = record {
    on = h.on;
    state = h.state;
    round = h.round;
    round_valid = h.round_valid;
    some = h.some;
    back = h.back;
    reached = record {
      along = h.reached.along ++ x ∷ [];
      valid = IsWord-append d h.reached.along (x ∷ []) h.reached.valid (a, tt);
      there = state_after-append qs h.on h.reached.along (x ∷ []) ∙ ap (λ r. next_state qs r x) h.reached.there;
    };
  }

  -- a state before this one
  record HasBefore (r : ℕ) (P : ℕ → Type 0) : Type 0 where
    pub from : ℕ
    pub state : from < length qs
    pub letter : ℕ
    pub is_letter : IsLetter d letter
    pub leads : next_state qs from letter ≡ r
    pub holds : P from

  -- the last letter of a word that is not empty
  last_letter : (s : ℕ) (w : List ℕ) → s < length qs → IsWord d w → w ≢ [] → HasBefore (state_after qs s w) (λ q. IsReached d qs s q)
  last_letter s [] l a n = absurd (n refl)
  last_letter s (x ∷ []) l a n = record { from = s; state = l; letter = x; is_letter = a.0; leads = refl; holds = record { along = []; valid = tt; there = refl } }
  last_letter s (x ∷ y ∷ w) l a n =
      let r = last_letter (next_state qs s x) (y ∷ w) (next_state-lt d qs s x g l) a.1 (λ e. cc) in
      record { from = r.from; state = r.state; letter = r.letter; is_letter = r.is_letter; leads = r.leads; holds = record { along = x ∷ r.holds.along; valid = (a.0, r.holds.valid); there = r.holds.there } }

  -- before a limit state stands a limit state
  limit_before : (r : ℕ) → IsLimitState d qs r → HasBefore r (IsLimitState d qs)
  limit_before r h = behind h.reached.along h.reached.valid h.reached.there
    where
      found : (w : List ℕ) → IsWord d w → w ≢ [] → state_after qs h.on w ≡ r → HasBefore r (IsLimitState d qs)
      found w a n e =
          let b = last_letter h.on w h.state a n in
          record { from = b.from; state = b.state; letter = b.letter; is_letter = b.is_letter; leads = b.leads ∙ e; holds = record { on = h.on; state = h.state; round = h.round; round_valid = h.round_valid; some = h.some; back = h.back; reached = b.holds } }

      behind : (w : List ℕ) → IsWord d w → state_after qs h.on w ≡ r → HasBefore r (IsLimitState d qs)
      behind [] a e = found h.round h.round_valid h.some (h.back ∙ e)
      behind (x ∷ w) a e = found (x ∷ w) a (λ f. cc) e

  -- a state to which no marked state leads, where none that is not marked is a limit state, is none
  pub peeled : (bs : List Bool) (r : ℕ) → length bs ≡ length qs → arriving qs bs r ≡ 0 → ((q : ℕ) → q < length qs → get_or bs q false ≡ false → ¬ IsLimitState d qs q) → ¬ IsLimitState d qs r
  peeled bs r e z gone h =
      let b = limit_before r h in
      mark_cases (get_or bs b.from false) refl
    where
      mark_cases : (b : Bool) → get_or bs (limit_before r h).from false ≡ b → ⊥
      mark_cases true f =
          let b = limit_before r h in
          let P : ℕ → Type 0 = λ y. IsIn (state_at qs b.from).next y in
          let here = times-in r (state_at qs b.from).next (subst P b.leads (next-in b.from b.letter b.state b.is_letter)) in
          omega (arith, here, arriving-zero qs bs b.from r b.state e f z)
      mark_cases false f = let b = limit_before r h in gone b.from b.state f b.holds

  -- where before each marked state stands a marked state, a walk backwards meets a state twice
  module _ (Marked : ℕ → Type 0) (below : (r : ℕ) → Marked r → r < length qs) (before : (r : ℕ) → Marked r → HasBefore r Marked) where
    -- the states that were met, each of which the last of them leads to
    record IsBackWalk (r now : ℕ) (met : List ℕ) : Type 0 where
      pub marked : Marked now
      pub reaches : IsReached d qs now r
      pub each : (i : ℕ) → i < length met → (get_or met i 0 < length qs) × IsReached d qs now (get_or met i 0)
      pub apart : AreApart met

    -- one letter before
    abbrev earlier : (now : ℕ) (b : HasBefore now Marked) (y : ℕ) → IsReached d qs now y → IsReached d qs b.from y
    earlier now b y w = record { along = b.letter ∷ w.along; valid = (b.is_letter, w.valid); there = ap (λ s. state_after qs s w.along) b.leads ∙ w.there }

    -- the state before was met: a cycle
    closed : (r now : ℕ) (met : List ℕ) → IsBackWalk r now met → (b : HasBefore now Marked) → list_any (eqb b.from) met ≡ true → IsLimitState d qs r
    closed r now met h b e =
        let i = present_place 0 met b.from e in
        let here : get_or met i.0 0 ≡ b.from = get_or_default met i.0 0 b.from i.1 ∙ i.3 in
        let w = earlier now b (get_or met i.0 0) (h.each i.0 i.1).1 in
        record { on = b.from; state = b.state; round = w.along; round_valid = w.valid; some = λ f. cc; back = w.there ∙ here; reached = earlier now b r h.reaches }

    -- the state before is new
    longer : (r now : ℕ) (met : List ℕ) → IsBackWalk r now met → (b : HasBefore now Marked) → list_any (eqb b.from) met ≡ false → IsBackWalk r b.from (b.from ∷ met)
    longer r now met h b e = record { marked = b.holds; reaches = earlier now b r h.reaches; each = with_first; apart = apart_with_first }
      where
        with_first : (i : ℕ) → i < length (b.from ∷ met) → (get_or (b.from ∷ met) i 0 < length qs) × IsReached d qs b.from (get_or (b.from ∷ met) i 0)
        with_first zero l = (b.state, record { along = []; valid = tt; there = refl })
        with_first (suc i) l = let z = h.each i (omega arith) in (z.0, earlier now b (get_or met i 0) z.1)

        absent : (i : ℕ) → i < length met → b.from ≢ get_or met i 0
        absent i l f = let z : list_any (eqb b.from) met ≡ true = rw f (present_at met i 0 l) in cc

        apart_with_first : AreApart (b.from ∷ met)
        apart_with_first zero zero l k f = omega arith
        apart_with_first zero (suc j) l k f = absent j (omega arith) f
        apart_with_first (suc i) zero l k f = omega arith
        apart_with_first (suc i) (suc j) l k f = h.apart i j (omega arith) (omega arith) f

    find : (fuel r now : ℕ) (met : List ℕ) → IsBackWalk r now met → length qs < length met + fuel → IsLimitState d qs r
    find zero r now met h room = absurd (omega (arith, apart-le met (length qs) h.apart (λ i l. (h.each i l).0)))
    find (suc fuel) r now met h room =
        let b = before now h.marked in
        let next = find fuel r b.from (b.from ∷ met) in
        (elim (list_any (eqb b.from) met) as (λ known. list_any (eqb b.from) met ≡ known → IsLimitState d qs r) [
          | true ↦ λ e. closed r now met h b e
          | false ↦ λ e. next (longer r now met h b e) (omega arith)
        ]) refl

    limit_from_before : (r : ℕ) → Marked r → IsLimitState d qs r
    limit_from_before r m = find (suc (length qs)) r r [] (record { marked = m; reaches = record { along = []; valid = tt; there = refl }; each = λ i l. absurd (omega arith); apart = λ i j l k. absurd (omega arith) }) (omega arith)

  -- where a state to which no marked state leads is never marked, each marked one is a limit state
  pub remaining : (bs : List Bool) → length bs ≡ length qs → ((y : ℕ) → y < length qs → get_or bs y false ≡ true → 0 < arriving qs bs y) → (r : ℕ) → r < length qs → get_or bs r false ≡ true → IsLimitState d qs r
  remaining bs e positive r l m =
      let Marked : ℕ → Type 0 = λ y. (y < length qs) × (get_or bs y false ≡ true) in
      limit_from_before Marked (λ y k. k.0) (λ y k.
      let a = arriving-positive qs bs y (positive y k.0 k.1) in
      let n = in-next a.0 y a.1 (times-positive y (state_at qs a.0).next a.3) in
      record { from = a.0; state = a.1; letter = n.0; is_letter = n.1; leads = n.2; holds = (a.1, a.2) }) r (l, m)
