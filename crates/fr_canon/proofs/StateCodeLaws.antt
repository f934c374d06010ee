-- The codes of the states of an automaton, as walks list them.
use Rattle.std.proofs.Common.{ℕ, suc, ◌≡◌, ◌-◌, ◌<◌, ◌≤◌, List, [], ◌∷◌, ◌++◌, length, map, take, get_or, replicate, refl, sym, ◌∙◌, subst, arith}
use Rattle.std.proofs.lemmas.List.{get_or-map, length-map, length-append, length-replicate, get_or_append_left, get_or-append_right, get_or-replicate, take-append-le, take_all}
use Rattle.fr_model.specs.Automata.{State, state_term, IsState, IsAutomaton}
use Rattle.fr_model.specs.Canonical.{IsCode}
use Rattle.fr_model.specs.Terms.{IsAlike}
use Rattle.fr_machine.specs.declared.row.Row.{Row}
use Rattle.fr_machine.specs.Rows.{state_of, states_of, row_at, IsRow, IsMachine}
use Rattle.fr_machine.specs.Minimal.{AreUnlike}
use Rattle.fr_machine.proofs.RowLaws.{IsRow-filled, IsMachine-rows}
use Rattle.fr_canon.specs.Walked.{row_code, state_code}
use Rattle.fr_canon.specs.Laws.{StatesHaveCodes}
use Rattle.fr_canon.proofs.WalkedLaws.{IsCode-row_code}

-- a state as a row of a machine
abbrev row_from : State → Row
row_from q = record { perm = q.perm; next = q.next ++ replicate (8 - length q.next) 0 }

abbrev rows_from : List State → List Row
rows_from qs = map row_from qs

length-rows_from : (qs : List State) → length (rows_from qs) ≡ length qs
length-rows_from qs = length-map qs row_from

module _ (d : ℕ) (qs : List State) (m : 2 ≤ d) (d8 : d ≤ 8) (a : IsAutomaton d qs) where
  state_ok : (s : ℕ) → s < length qs → IsState d (length qs) (get_or qs s (record { perm = []; next = [] }))
  state_ok s l = a s (record { perm = []; next = [] }) l

  row_is : (s : ℕ) → s < length qs → row_at (rows_from qs) s ≡ row_from (get_or qs s (record { perm = []; next = [] }))
  row_is s l = get_or-map row_from qs s (record { perm = []; next = [] }) (record { perm = []; next = [] }) l

  padded : (n : ℕ) (q : State) → 0 < n → IsState d n q → IsRow d n (row_from q)
  padded n q some h =
      let w = h.arity in
      let len : length (q.next ++ replicate (8 - length q.next) 0) ≡ 8 = length-append q.next (replicate (8 - length q.next) 0) ∙ (let r = length-replicate {A = ℕ} (8 - length q.next) 0 in omega (arith, r)) in
      IsRow-filled d n (row_from q) d8 some h.permutes len
      (λ x k. let e = get_or_append_left q.next (replicate (8 - length q.next) 0) 0 x (omega arith) in let b = h.below x 0 (omega arith) in omega (arith, e, b))
      (λ x k t. get_or-append_right q.next (replicate (8 - length q.next) 0) (length q.next) x 0 refl (omega arith) ∙ get_or-replicate (8 - length q.next) (x - length q.next) 0 0 (omega arith))

states_back : (d n : ℕ) (qs : List State) → 2 ≤ d → d ≤ 8 → ((s : ℕ) (z : State) → s < length qs → IsState d n (get_or qs s z)) → states_of (rows_from qs) ≡ qs
states_back d n [] m d8 a = refl
states_back d n (q ∷ qs) m d8 a =
    let first = state_of_back q (a 0 q (omega arith)) in
    let rest = states_back d n qs m d8 (λ s z l. a (suc s) z (omega arith)) in
    λ i. first i ∷ rest i
  where
    state_of_back : (q : State) → IsState d n q → state_of (row_from q) ≡ q
    state_of_back q h =
        let w = h.arity in
        let e : length q.perm ≡ length q.next = h.permutes.degree ∙ sym w in
        let first : take (length q.perm) (q.next ++ replicate (8 - length q.next) 0) ≡ q.next = take-append-le (length q.perm) q.next (replicate (8 - length q.next) 0) (omega arith) ∙ take_all (length q.perm) q.next (omega arith) in
        λ i. record { perm = q.perm; next = first i }

pub IsCode-state_code : StatesHaveCodes
unfolding row_code
IsCode-state_code d qs s m d8 a few apart l =
    let back = states_back d (length qs) qs m d8 (λ s z l. a s z l) in
    let len = length-rows_from qs in
    let machine : IsMachine d (rows_from qs) = IsMachine-rows d (rows_from qs) m d8 (omega (arith, len, l)) (omega (arith, len, few))
    (λ t k. let tl : t < length qs = omega (arith, len, k) in subst (λ (n : ℕ). IsRow d n (row_at (rows_from qs) t)) (sym len) (subst (IsRow d (length qs)) (sym (row_is d qs m d8 a t tl)) (padded d qs m d8 a (length qs) (get_or qs t (record { perm = []; next = [] })) (omega arith) (state_ok d qs m d8 a t tl)))) in
    let unlike : AreUnlike (rows_from qs) = λ i j lt jl. let P : List State → Type 0 = λ z. ¬ IsAlike (state_term z i) (state_term z j) in subst P (sym back) (apart i j lt (omega (arith, len, jl))) in
    let Q : List State → Type 0 = λ z. IsCode d (state_term z s) (state_code d z s) in
    subst Q back (IsCode-row_code d (rows_from qs) machine (omega (arith, len, few)) unlike s (omega (arith, len, l)))
