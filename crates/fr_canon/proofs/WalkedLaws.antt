-- The walk of a row lists its code.
use Rattle.std.proofs.Common.{ℕ, zero, suc, ◌≡◌, ◌≢◌, ◌+◌, ◌*◌, ◌<◌, ◌≤◌, ◌⊎◌, inl, inr, ◌==◌, List, [], ◌∷◌, ◌++◌, length, map, get_or, refl, sym, ◌∙◌, ap, subst, arith, append_assoc, true, false, Bool, cond, nat_lt}
use Rattle.std.proofs.Math.Nat.{mul-le-mul_left}
use Rattle.std.proofs.lemmas.Bool.Decides.{nat_tests}
use Rattle.std.proofs.lemmas.Bool.{cases_eq, cases_lt}
use Rattle.std.proofs.lemmas.List.{get_or_push, get_or_append_left, length_push, append-nil}
use Rattle.fr_model.specs.Automata.{State, next_state}
use Rattle.fr_model.specs.Canonical.{IsCode, code_of}
use Rattle.fr_model.specs.Ranks.{rank}
use Rattle.fr_model.proofs.AutomatonLaws.{next_state-lt}
use Rattle.fr_machine.specs.declared.row.Row.{Row}
use Rattle.fr_machine.specs.Rows.{IsMachine, row_term, states_of}
use Rattle.fr_machine.specs.Minimal.{AreUnlike}
use Rattle.fr_machine.specs.Walks.{WalkView, IsKeys, IsNumbered}
use Rattle.fr_machine.proofs.RowLaws.{IsAutomaton-states_of, length-states_of}
use Rattle.fr_canon.specs.Listings.{row_output, IsNextPart, IsKeyListed, IsListed}
use Rattle.fr_canon.proofs.ListingLaws.{IsNextPart-start, IsNextPart-more, IsKeyListed-from, IsWritten, IsWritten-start, IsWritten-more, IsCode-listed}
use Rattle.fr_canon.proofs.ApartLaws.{length-le_apart}
use Rattle.fr_canon.specs.Walked.{Walked, number_of, meeting, with_nexts, with_state, walked, state_code, row_code}

-- keys below 1,024, no two equal
record AreApart (keys : List ℕ) : Type 0 where
  below : (i : ℕ) → i < length keys → get_or keys i 0 < 1024
  distinct : (i j : ℕ) → i < length keys → j < length keys → get_or keys i 0 ≡ get_or keys j 0 → i ≡ j

AreApart-length : (keys : List ℕ) → AreApart keys → length keys ≤ 1024
AreApart-length keys a = length-le_apart keys 1024 a.below a.distinct

IsKeys-apart : (keys : List ℕ) → AreApart keys → IsKeys 1024 keys
IsKeys-apart keys a = record { few = omega (arith, AreApart-length keys a); below = a.below; distinct = a.distinct }

number_of-lt : (keys : List ℕ) (key : ℕ) → number_of keys key < length (meeting keys key)
number_of-lt [] key = omega arith
number_of-lt (k ∷ keys) key = let e = number_of-lt keys key in grind (arith, nat_tests, e)

meeting-at : (keys : List ℕ) (key : ℕ) → get_or (meeting keys key) (number_of keys key) 0 ≡ key
meeting-at [] key = refl
meeting-at (k ∷ keys) key = let e = meeting-at keys key in grind (arith, nat_tests, e)

meeting_case : (keys : List ℕ) (key : ℕ) → (meeting keys key ≡ keys) ⊎ ((meeting keys key ≡ keys ++ key ∷ []) × ((i : ℕ) → i < length keys → get_or keys i 0 ≢ key))
meeting_case [] key = inr (refl, λ i l. absurd (omega arith))
meeting_case (k ∷ keys) key = elim (cases_eq k key) [
  | inl e ↦ inl (at_test (k == key) (grind (arith, nat_tests, e)))
  | inr n ↦ elim (meeting_case keys key) [
    | inl e ↦ inl (else_test (k == key) (grind (arith, nat_tests, n)) ∙ ap (λ z. k ∷ z) e)
    | inr r ↦ inr (else_test (k == key) (grind (arith, nat_tests, n)) ∙ ap (λ z. k ∷ z) r.0, λ i. first i r.1 n)
  ]
]
  where
    at_test : (b : Bool) → b ≡ true → cond b (k ∷ keys) (k ∷ meeting keys key) ≡ k ∷ keys
    at_test true e = refl
    at_test false e = absurd (cc)

    else_test : (b : Bool) → b ≡ false → cond b (k ∷ keys) (k ∷ meeting keys key) ≡ k ∷ meeting keys key
    else_test false e = refl
    else_test true e = absurd (cc)

    first : (i : ℕ) → ((i : ℕ) → i < length keys → get_or keys i 0 ≢ key) → k ≢ key → i < length (k ∷ keys) → get_or (k ∷ keys) i 0 ≢ key
    first zero r n l = n
    first (suc i) r n l = r i (omega arith)

AreApart-meeting : (keys : List ℕ) (key : ℕ) → AreApart keys → key < 1024 → AreApart (meeting keys key)
AreApart-meeting keys key a l = elim (meeting_case keys key) [
  | inl e ↦ subst AreApart (sym e) a
  | inr r ↦ subst AreApart (sym r.0) (record {
    below = λ i il. elim (cases_lt i (length keys)) [
      | inl t ↦ (let e = get_or_append_left keys (key ∷ []) 0 i t in let b = a.below i t in omega (arith, e, b))
      | inr t ↦ (let e = get_or_push keys key 0 i (sym (at_end i il t)) in omega (arith, e, l))
    ];
    distinct = λ i j il jl same. elim (cases_lt i (length keys)) [
      | inl t ↦ elim (cases_lt j (length keys)) [
        | inl u ↦ a.distinct i j t u (sym (get_or_append_left keys (key ∷ []) 0 i t) ∙ same ∙ get_or_append_left keys (key ∷ []) 0 j u)
        | inr u ↦ absurd (r.1 i t (sym (get_or_append_left keys (key ∷ []) 0 i t) ∙ same ∙ get_or_push keys key 0 j (sym (at_end j jl u))))
      ]
      | inr t ↦ elim (cases_lt j (length keys)) [
        | inl u ↦ absurd (r.1 j u (sym (get_or_append_left keys (key ∷ []) 0 j u) ∙ sym same ∙ get_or_push keys key 0 i (sym (at_end i il t))))
        | inr u ↦ (let p = at_end i il t in let q = at_end j jl u in omega (arith, p, q))
      ]
    ];
  })
]
  where
    at_end : (i : ℕ) → i < length (keys ++ key ∷ []) → length keys ≤ i → i ≡ length keys
    at_end i il t = let n = length_push keys key in omega (arith, n, il, t)

IsNumbered-meeting : (keys : List ℕ) (key : ℕ) → AreApart keys → key < 1024 → IsNumbered (record { bound = 1024; keys = keys }) (record { bound = 1024; keys = meeting keys key }) key 1024 (number_of keys key)
IsNumbered-meeting keys key a l = record {
  bound = refl;
  below = number_of-lt keys key;
  is = meeting-at keys key;
  keeps = elim (meeting_case keys key) [ inl e ↦ inl e | inr r ↦ inr r.0 ];
  most = AreApart-length (meeting keys key) (AreApart-meeting keys key a l);
}

map_push : (xs : List ℕ) (y : ℕ) → map suc (xs ++ y ∷ []) ≡ map suc xs ++ suc y ∷ []
map_push [] y = refl
map_push (x ∷ xs) y = ap (λ l. suc x ∷ l) (map_push xs y)

-- a key whose first next states are written behind the code
record IsKeyPart (d bound : ℕ) (step : ℕ → ℕ → ℕ) (output : ℕ → List ℕ) (w w' : WalkView) (key : ℕ) (code code' : List ℕ) (x : ℕ) : Type 0 where
  next : List ℕ
  part : IsNextPart d bound step w w' key next x
  written : code' ≡ (code ++ rank (output key) ∷ []) ++ map suc next

-- ---- what is written first stays
module _ (d : ℕ) (step : ℕ → ℕ → ℕ) (output : ℕ → List ℕ) where
  nexts_behind : (key : ℕ) (w : Walked) (x : ℕ) → (rest : List ℕ) × ((with_nexts step key w x).code ≡ w.code ++ rest)
  nexts_behind key w zero = ([], sym (append-nil w.code))
  nexts_behind key w (suc x) =
      let r = nexts_behind key w x in
      let n = suc (number_of (with_nexts step key w x).keys (step key (suc x))) in
      (r.0 ++ n ∷ [], ap (λ c. c ++ n ∷ []) r.1 ∙ append_assoc w.code r.0 (n ∷ []))

  state_behind : (w : Walked) (key : ℕ) → (rest : List ℕ) × ((with_state d step output w key).code ≡ w.code ++ rest)
  state_behind w key =
      let r = nexts_behind key (record { keys = w.keys; code = w.code ++ rank (output key) ∷ [] }) d in
      (rank (output key) ∷ r.0, r.1 ∙ append_assoc w.code (rank (output key) ∷ []) r.0)

  walked_behind : (most j : ℕ) (w : Walked) → (rest : List ℕ) × (walked d step output most j w ≡ w.code ++ rest)
  walked_behind zero j w = ([], sym (append-nil w.code))
  walked_behind (suc most) j w = by_test (nat_lt j (length w.keys)) (walked_behind most (suc j) (with_state d step output w (get_or w.keys j 0)))
    where
      by_test : (b : Bool) → ((rest : List ℕ) × (walked d step output most (suc j) (with_state d step output w (get_or w.keys j 0)) ≡ (with_state d step output w (get_or w.keys j 0)).code ++ rest)) → (rest : List ℕ) × (cond b (walked d step output most (suc j) (with_state d step output w (get_or w.keys j 0))) w.code ≡ w.code ++ rest)
      by_test false more = ([], sym (append-nil w.code))
      by_test true more =
          let one = state_behind w (get_or w.keys j 0) in
          (one.0 ++ more.0, more.1 ∙ ap (λ c. c ++ more.0) one.1 ∙ append_assoc w.code one.0 more.0)

module _ (d : ℕ) (rows : List Row) (machine : IsMachine d rows) (few : length rows ≤ 1024) where
  abbrev step : ℕ → ℕ → ℕ
  step = next_state (states_of rows)

  abbrev output : ℕ → List ℕ
  output = row_output (states_of rows)

  abbrev view : List ℕ → WalkView
  view keys = record { bound = 1024; keys = keys }

  step-lt : (key x : ℕ) → key < length rows → step key x < length rows
  step-lt key x l = let n = length-states_of rows in let r = next_state-lt d (states_of rows) key x (IsAutomaton-states_of d rows machine) (omega (arith, n, l)) in omega (arith, n, r)

  nexts : (w : Walked) (key x : ℕ) → AreApart w.keys → key < length rows → x ≤ d
      → IsKeyPart d (length rows) step output (view w.keys) (view (with_nexts step key (record { keys = w.keys; code = w.code ++ rank (output key) ∷ [] }) x).keys) key w.code (with_nexts step key (record { keys = w.keys; code = w.code ++ rank (output key) ∷ [] }) x).code x
      × AreApart (with_nexts step key (record { keys = w.keys; code = w.code ++ rank (output key) ∷ [] }) x).keys
  nexts w key zero a l k = (record { next = []; part = IsNextPart-start d (length rows) step (view w.keys) key; written = sym (append-nil (w.code ++ rank (output key) ∷ [])) }, a)
  nexts w key (suc x) a l k =
      let before = nexts w key x a l (omega arith) in
      let m = with_nexts step key (record { keys = w.keys; code = w.code ++ rank (output key) ∷ [] }) x in
      let target = step key (suc x) in
      let one : x + 1 ≡ suc x = omega arith in
      let below : target < length rows = step-lt key (suc x) l in
      let small : target < 1024 = omega (arith, below, few) in
      let apart = AreApart-meeting m.keys target before.1 small in
      let n = number_of m.keys target in
      let part = IsNextPart-more d (length rows) step (view w.keys) (view m.keys) (view (meeting m.keys target)) key before.0.next x n target before.0.part (omega arith) (ap (step key) (sym one)) below (IsNumbered-meeting m.keys target before.1 small) (IsKeys-apart (meeting m.keys target) apart) in
      let P : ℕ → Type 0 = λ y. IsNextPart d (length rows) step (view w.keys) (view (meeting m.keys target)) key (before.0.next ++ n ∷ []) y in
      let first = w.code ++ rank (output key) ∷ [] in
      let written : m.code ++ suc n ∷ [] ≡ first ++ map suc (before.0.next ++ n ∷ []) = ap (λ c. c ++ suc n ∷ []) before.0.written ∙ append_assoc first (map suc before.0.next) (suc n ∷ []) ∙ ap (λ t. first ++ t) (sym (map_push before.0.next n)) in
      (record { next = before.0.next ++ n ∷ []; part = subst P one part; written = written }, apart)

  -- the state of a key, when its next states are met
  with_state-listed : (w : Walked) (key : ℕ) → AreApart w.keys → key < length rows
      → (q : State) × IsKeyListed d (length rows) step output (view w.keys) (view (with_state d step output w key).keys) key q × ((with_state d step output w key).code ≡ w.code ++ code_of (q ∷ [])) × AreApart (with_state d step output w key).keys
  with_state-listed w key a l =
      let n = nexts w key d a l (omega arith) in
      let q : State = record { perm = output key; next = n.0.next } in
      let one : code_of (q ∷ []) ≡ rank (output key) ∷ map suc n.0.next = append-nil (rank (output key) ∷ map suc n.0.next) in
      (q, IsKeyListed-from d (length rows) step output (view w.keys) (view (with_state d step output w key).keys) key n.0.next d q n.0.part refl refl refl, n.0.written ∙ append_assoc w.code (rank (output key) ∷ []) (map suc n.0.next) ∙ ap (λ t. w.code ++ t) (sym one), n.1)

  module _ (unlike : AreUnlike rows) (s : ℕ) (row : s < length rows) where
    abbrev next_at : Walked → ℕ → Walked
    next_at w j = with_state d step output w (get_or w.keys j 0)

    short : (keys : List ℕ) (j : ℕ) (code : List ℕ) → IsWritten d (length rows) step output s keys j code → AreApart keys → length code ≤ (d + 1) * 1024
    short keys j code h a = let n = AreApart-length keys a in let m = h.listed.done in let e = h.size in let f : j ≤ 1024 = omega (arith, n, m) in rw e (mul-le-mul_left (d + 1) f)

    is_code : (w : Walked) {j : ℕ} → j ≡ length w.keys → IsWritten d (length rows) step output s w.keys j w.code → AreApart w.keys → IsCode d (row_term rows s) w.code
    is_code w all h a =
        let P : ℕ → Type 0 = λ i. IsListed d (length rows) step output s w.keys i h.states in
        IsCode-listed d rows machine unlike s row w.keys h.states (subst P all h.listed) (IsKeys-apart w.keys a) w.code h.written

    listed : (most j : ℕ) (w : Walked) → IsWritten d (length rows) step output s w.keys j w.code → AreApart w.keys → 1024 ≤ j + most → IsCode d (row_term rows s) (walked d step output most j w) × (length (walked d step output most j w) ≤ (d + 1) * 1024)
    listed zero j w h a l =
        let all : j ≡ length w.keys = let n = AreApart-length w.keys a in let m = h.listed.done in omega (arith, n, m, l) in
        (is_code w all h a, short w.keys j w.code h a)
    listed (suc most) j w h a l = elim (cases_lt j (length w.keys)) [
      | inl t ↦ then_test (nat_lt j (length w.keys)) (grind (arith, nat_tests, t)) t (λ h' a'. listed most (suc j) (next_at w j) h' a' (omega (arith, l)))
      | inr t ↦ else_test (nat_lt j (length w.keys)) (grind (arith, nat_tests, t)) t
    ]
      where
        then_test : (b : Bool) → b ≡ true → j < length w.keys → (IsWritten d (length rows) step output s (next_at w j).keys (suc j) (next_at w j).code → AreApart (next_at w j).keys → IsCode d (row_term rows s) (walked d step output most (suc j) (next_at w j)) × (length (walked d step output most (suc j) (next_at w j)) ≤ (d + 1) * 1024)) → IsCode d (row_term rows s) (cond b (walked d step output most (suc j) (next_at w j)) w.code) × (length (cond b (walked d step output most (suc j) (next_at w j)) w.code) ≤ (d + 1) * 1024)
        then_test false e t r = absurd (cc)
        then_test true e t r =
            let one : j + 1 ≡ suc j = omega arith in
            let P : ℕ → Type 0 = λ i. IsWritten d (length rows) step output s (next_at w j).keys i (next_at w j).code in
            let below : get_or w.keys j 0 < length rows = h.listed.below j t in
            let state = with_state-listed w (get_or w.keys j 0) a below in
            let more = IsWritten-more d (length rows) step output s (view w.keys) (view (next_at w j).keys) j (get_or w.keys j 0) state.0 w.code (next_at w j).code h t refl state.1 state.2 in
            r (subst P one more) state.3

        else_test : (b : Bool) → b ≡ false → length w.keys ≤ j → IsCode d (row_term rows s) (cond b (walked d step output most (suc j) (next_at w j)) w.code) × (length (cond b (walked d step output most (suc j) (next_at w j)) w.code) ≤ (d + 1) * 1024)
        else_test true e t = absurd (cc)
        else_test false e t =
            let m = h.listed.done in
            let all : j ≡ length w.keys = omega (arith, m, t) in
            (is_code w all h a, short w.keys j w.code h a)

    pub row_code-is : IsCode d (row_term rows s) (row_code d rows s) × (length (row_code d rows s) ≤ (d + 1) * 1024)
    unfolding row_code state_code
    row_code-is =
        listed 1024 0 (record { keys = s ∷ []; code = [] }) (IsWritten-start d (length rows) step output s (s ∷ []) [] row refl refl) (record {
          below = λ i l. one_below i l;
          distinct = λ i j il jl e. (let p : i < 1 = il in let q : j < 1 = jl in omega (arith, p, q));
        }) (omega arith)
      where
        one_below : (i : ℕ) → i < length (s ∷ []) → get_or (s ∷ []) i 0 < 1024
        one_below zero l = omega (arith, row, few)
        one_below (suc i) l = absurd (let p : suc i < 1 = l in omega (arith, p))

    pub IsCode-row_code : IsCode d (row_term rows s) (row_code d rows s)
    IsCode-row_code = row_code-is.0

    pub length-row_code : length (row_code d rows s) ≤ (d + 1) * 1024
    length-row_code = row_code-is.1

    -- a walk can be gone on with: what it has written is the begin of the code
    pub IsWritten-begins : (keys : List ℕ) (j : ℕ) (code : List ℕ) → IsWritten d (length rows) step output s keys j code → IsKeys 1024 keys → (rest : List ℕ) × IsCode d (row_term rows s) (code ++ rest)
    IsWritten-begins keys j code h k =
        let w : Walked = record { keys = keys; code = code } in
        let all = listed 1024 j w h (record { below = k.below; distinct = k.distinct }) (omega arith) in
        let more = walked_behind d step output 1024 j w in
        (more.0, subst (IsCode d (row_term rows s)) more.1 all.0)
