-- The rows that a code tells.
use Rattle.std.proofs.Common.{ℕ, suc, ◌≡◌, ◌+◌, ◌-◌, ◌*◌, ◌/◌, ◌<◌, ◌≤◌, inl, inr, List, [], ◌∷◌, ◌++◌, length, map, take, get_or, set, sym, ◌∙◌, ap, subst, arith}
use Rattle.std.specs.List.{All}
use Rattle.std.proofs.Math.Nat.{mul-le-mul_right}
use Rattle.std.proofs.lemmas.Bool.{cases_lt, cases_eq}
use Rattle.std.proofs.lemmas.List.{take_more, take_all, get_or-take, get_or-map, get_or-set_same, get_or-set_other, length-map, length-set, length-take-le, ext_get_or, get_or_push, get_or_append_left, length_push}
use Rattle.std.proofs.lemmas.List.Elements.{All-get_or, All-weaker}
use Rattle.fr_model.specs.Ranks.{rank}
use Rattle.fr_model.specs.Terms.{Term, IsTerm}
use Rattle.fr_model.specs.Automata.{State, state_at, IsState, IsAutomaton}
use Rattle.fr_model.specs.Canonical.{IsCanonical, IsCode, code_of}
use Rattle.fr_model.proofs.CanonicalLaws.{at_zero}
use Rattle.fr_machine.specs.declared.row.Row.{Row}
use Rattle.fr_machine.specs.Rows.{state_of, states_of, row_at}
use Rattle.fr_machine.specs.Minimal.{IsMinimal}
use Rattle.fr_machine.proofs.RowLaws.{length-states_of}
use Rattle.fr_canon.specs.Listings.{IsFilled}
use Rattle.fr_canon.specs.Texts.{IsStateCode}
use Rattle.fr_canon.proofs.LineLaws.{states_of-push}
use Rattle.fr_canon.proofs.PrintLaws.{count_is, code_of-length}
use Rattle.fr_canon.proofs.RowListLaws.{IsMinimal-filled}

-- ---- one row

-- the next rows at the first letters are read, and zeros stand behind them
pub record AreNextsRead (numbers next : List ℕ) (x : ℕ) : Type 0 where
  pub width : length next ≡ 8
  pub nexts : (y : ℕ) → y < x → get_or next y 0 + 1 ≡ get_or numbers (y + 1) 0
  pub zeros : (y : ℕ) → x ≤ y → y < 8 → get_or next y 0 ≡ 0

pub AreNextsRead-more : (numbers next : List ℕ) (x : ℕ) → AreNextsRead numbers next x → x < 8 → 1 ≤ get_or numbers (x + 1) 0 → AreNextsRead numbers (set next x (get_or numbers (x + 1) 0 - 1)) (x + 1)
AreNextsRead-more numbers next x h l some = record {
  width = length-set next x (get_or numbers (x + 1) 0 - 1) ∙ h.width;
  nexts = λ y k. elim (cases_eq y x) [
    | inl e ↦ (let P : ℕ → Type 0 = λ i. get_or (set next x (get_or numbers (x + 1) 0 - 1)) i 0 + 1 ≡ get_or numbers (i + 1) 0 in let s = get_or-set_same next x (get_or numbers (x + 1) 0 - 1) 0 (omega (arith, l, h.width)) in subst P (sym e) (omega (arith, s, some)))
    | inr n ↦ (let o = get_or-set_other next x y (get_or numbers (x + 1) 0 - 1) 0 n in let b = h.nexts y (omega (arith, k, n)) in omega (arith, o, b))
  ];
  zeros = λ y k w. (let o = get_or-set_other next x y (get_or numbers (x + 1) 0 - 1) 0 (λ e. omega (arith, e, k)) in o ∙ h.zeros y (omega (arith, k)) w);
}

-- the number of a next state in the part of a state
pub next_at : (d : ℕ) (numbers : List ℕ) (q : State) (y : ℕ) → IsStateCode d numbers q → y < d → get_or numbers (y + 1) 0 ≡ get_or q.next y 0 + 1
next_at d numbers q y h l =
    let one : y + 1 ≡ suc y = omega arith in
    let more : suc (get_or q.next y 0) ≡ get_or q.next y 0 + 1 = omega arith in
    ap (λ ns. get_or ns (y + 1) 0) h.written ∙ ap (λ i. get_or (rank q.perm ∷ map suc q.next) i 0) one ∙ get_or-map suc q.next y 0 0 (omega (arith, l, h.arity)) ∙ more

pub part-length : (d : ℕ) (numbers : List ℕ) (q : State) → IsStateCode d numbers q → length numbers ≡ d + 1
part-length d numbers q h = ap length h.written ∙ omega (arith, length-map q.next suc, h.arity)

pub state_is : (d : ℕ) (numbers perm next : List ℕ) (q : State) → d ≤ 8 → IsStateCode d numbers q → perm ≡ q.perm → AreNextsRead numbers next d → state_of (record { perm = perm; next = next }) ≡ q
state_is d numbers perm next q low h e n =
    let degree : length perm ≡ d = ap length e ∙ h.permutes.degree in
    let size : length (take (length perm) next) ≡ d = length-take-le (length perm) next (omega (arith, degree, n.width, low)) ∙ degree in
    let same : take (length perm) next ≡ q.next = ext_get_or 0 (take (length perm) next) q.next (size ∙ sym h.arity) (λ i k. (let l : i < d = omega (arith, k, size) in let r = n.nexts i l in let s = next_at d numbers q i h l in get_or-take (length perm) next i 0 (omega (arith, l, degree)) ∙ omega (arith, r, s))) in
    λ i. record { perm = e i; next = same i }

-- ---- all rows

-- the rows of the first states
pub record AreRowsTold (d : ℕ) (code : List ℕ) (found : List Row) (k : ℕ) : Type 0 where
  pub states : (qs : List State) → IsAutomaton d qs → code ≡ code_of qs → states_of found ≡ take k qs
  pub filled : (i : ℕ) → i < length found → IsFilled d (row_at found i)

pub AreRowsTold-more : (d : ℕ) (code : List ℕ) (found found' : List Row) (r : Row) (k : ℕ) → AreRowsTold d code found k → found' ≡ found ++ r ∷ [] → IsFilled d r → ((qs : List State) → IsAutomaton d qs → code ≡ code_of qs → (k < length qs) × (state_of r ≡ state_at qs k)) → AreRowsTold d code found' (k + 1)
AreRowsTold-more d code found found' r k h e f g =
    let z : Row = record { perm = []; next = [] } in
    let P : List Row → Type 0 = λ rs. AreRowsTold d code rs (k + 1) in
    subst P (sym e) (record {
      states = λ qs a c. (let s = g qs a c in states_of-push found r ∙ (λ i. h.states qs a c i ++ s.1 i ∷ []) ∙ sym (take_more qs k (record { perm = []; next = [] }) s.0));
      filled = λ i l. elim (cases_lt i (length found)) [
        | inl t ↦ rw (get_or_append_left found (r ∷ []) z i t) (h.filled i t)
        | inr t ↦ rw (get_or_push found r z i (omega (arith, t, l, length_push found r))) f
      ];
    })

pub told_all : (d : ℕ) (code : List ℕ) (found : List Row) (k : ℕ) (qs : List State) → AreRowsTold d code found k → length code / (d + 1) ≤ k → IsAutomaton d qs → code ≡ code_of qs → states_of found ≡ qs
told_all d code found k qs h l a e = h.states qs a e ∙ take_all k qs (omega (arith, l, count_is d qs code a e))

pub few_states : (d : ℕ) (code : List ℕ) (qs : List State) → IsAutomaton d qs → code ≡ code_of qs → length code ≤ (d + 1) * 1024 → length qs ≤ 1024
few_states d code qs a e l = elim (cases_lt 1024 (length qs)) [
  | inl t ↦ (let n : length code ≡ length qs * (d + 1) = ap length e ∙ code_of-length d qs (length qs) a in let m : 1025 * (d + 1) ≤ length qs * (d + 1) = mul-le-mul_right (d + 1) t in absurd (omega (arith, n, m, l)))
  | inr t ↦ t
]

pub next_small : (d : ℕ) (qs : List State) (k : ℕ) → IsAutomaton d qs → k < length qs → length qs ≤ 1024 → All (λ n. n < 1024) (state_at qs k).next
next_small d qs k a l few =
    let s : IsState d (length qs) (state_at qs k) = All-get_or (IsState d (length qs)) qs k (record { perm = []; next = [] }) l a in
    All-weaker (λ n. n < length qs) (λ n. n < 1024) (λ n h. omega (arith, h, few)) (state_at qs k).next s.below

pub IsMinimal-told : (d : ℕ) (t : Term) (code : List ℕ) (found : List Row) (k : ℕ) → 2 ≤ d → d ≤ 8 → IsTerm d t → IsCode d t code → length code ≤ (d + 1) * 1024 → AreRowsTold d code found k → length code / (d + 1) ≤ k → IsMinimal d found
IsMinimal-told d t code found k two low valid is few h l =
    let e = told_all d code found k is.states h l is.canonical.automaton is.written in
    let n : length found ≡ length is.states = sym (length-states_of found) ∙ ap length e in
    let z = at_zero d t is.states is.canonical in
    IsMinimal-filled d t valid found (subst (IsCanonical d t) (sym e) is.canonical) h.filled two low (omega (arith, n, z.0, is.canonical.count)) (omega (arith, n, few_states d code is.states is.canonical.automaton is.written few))
