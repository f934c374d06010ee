-- A block whose words say the rows of a machine means that machine.
use Rattle.std.proofs.Common.{inl, inr, [], ◌≡◌, ℕ, zero, suc, ◌+◌, ◌-◌, ◌<◌, ◌≤◌, List, length, take, get_or, sym, ap, ◌∙◌, subst, arith}
use Rattle.std.proofs.lemmas.List.{length-map, get_or-map, get_or-take}
use Rattle.std.proofs.lemmas.Bool.{cases_order}
use Rattle.fr_model.proofs.AlikeLaws.{alike_sym}
use Rattle.std.proofs.lemmas.List.Elements.{All-get_or}
use Rattle.fr_model.specs.Words.{IsLetter}
use Rattle.fr_model.specs.Automata.{State, state_at, state_term}
use Rattle.fr_model.specs.Terms.{Term, IsAlike}
use Rattle.fr_model.proofs.RankLaws.{rank_below}
use Rattle.fr_machine.specs.declared.row.Row.{Row}
use Rattle.fr_machine.specs.Rows.{IsRow, IsMachine, state_of, states_of, row_at, row_term}
use Rattle.fr_machine.specs.Minimal.{AreUnlike}
use Rattle.fr_machine.proofs.RowLaws.{IsAutomaton-states_of}
use Rattle.fr_layout.specs.declared.plan.Plan.{Plan}
use Rattle.fr_layout.specs.declared.plan.Block.{Block}
use Rattle.fr_layout.specs.Places.{field_at, IsIn}
use Rattle.fr_layout.specs.Meaning.{field_value, block_states, row_meaning, SameMeaning, IsGood, IsReduced, IsSpelled, AreSpelled}
use Rattle.fr_layout.specs.Laws.{BlocksAreMachines}
use Rattle.fr_layout.proofs.Automata.{spelled}

module _ (d : ℕ) (b : Block) (rows : List Row) (m : IsMachine d rows) (count : length rows ≡ b.size) where
  row_is : (r : ℕ) → IsIn r b → IsRow d (length rows) (row_at rows (r - b.start))
  row_is r i = All-get_or (IsRow d (length rows)) rows (r - b.start) (record { perm = []; next = [] }) (let a = i.0 in let c = i.1 in omega arith) m.valid

  pub good : (r f : ℕ) → IsIn r b → f ≤ d → (0 < field_value b.start (row_at rows (r - b.start)) f) × IsGood d b f (field_value b.start (row_at rows (r - b.start)) f)
  good r zero i l = (omega arith, ((λ _. let h = rank_below d (row_at rows (r - b.start)).perm (row_is r i).permutes in omega arith), (λ lo. absurd (omega arith))))
  good r (suc x) i l =
      let row = row_at rows (r - b.start) in
      let k = row_is r i in
      let wide = k.width in let few = m.letters in
      let small : x < length row.next = omega arith in
      let below : get_or row.next x 0 < length rows = All-get_or (λ n. n < length rows) row.next x 0 small k.below in
      (omega arith, ((λ e. absurd (omega arith)), (λ _. (omega arith, omega arith))))

module _ (p : Plan) (W : ℕ → ℕ) (b : Block) (rows : List Row) (m : IsMachine p.letters rows) (count : length rows ≡ b.size) (says : AreSpelled p W b rows) where
  pub automaton_is : block_states p W b ≡ states_of rows
  automaton_is = spelled p W b (states_of rows) (IsAutomaton-states_of p.letters rows m) (length-map rows state_of ∙ count) one
    where
      one : (r : ℕ) → IsIn r b → IsSpelled p W b r (state_at (states_of rows) (r - b.start))
      one r i = subst (IsSpelled p W b r) (sym state) (says r 0 i (omega arith), next)
        where
          small : r - b.start < length rows
          small = let a = i.0 in let c = i.1 in omega arith

          state : state_at (states_of rows) (r - b.start) ≡ state_of (row_at rows (r - b.start))
          state = get_or-map state_of rows (r - b.start) (record { perm = []; next = [] }) (record { perm = []; next = [] }) small

          next : (x : ℕ) → IsLetter p.letters x → W (field_at p r x) ≡ suc (b.start + get_or (state_of (row_at rows (r - b.start))).next (x - 1) 0)
          next zero l = absurd (let a = l.0 in omega arith)
          next (suc x) l =
              let row = row_at rows (r - b.start) in
              let k = row_is p.letters b rows m count r i in
              let wide : length row.perm ≡ p.letters = k.permutes.degree in
              let taken : get_or (take (length row.perm) row.next) x 0 ≡ get_or row.next x 0 = get_or-take (length row.perm) row.next x 0 (let a = l.1 in omega arith) in
              let place : get_or (take (length row.perm) row.next) (suc x - 1) 0 ≡ get_or (take (length row.perm) row.next) x 0 = ap (λ (y : ℕ). get_or (take (length row.perm) row.next) y 0) (let e : suc x - 1 ≡ x = omega arith in e) in
              let h : W (field_at p r (suc x)) ≡ suc (b.start + get_or row.next x 0) = says r (suc x) i l.1 in
              omega arith

  pub meaning_is : (r : ℕ) → row_meaning p W b r ≡ row_term rows (r - b.start)
  meaning_is r = ap (λ (qs : List State). state_term qs (r - b.start)) automaton_is

  pub reduced_from : AreUnlike rows → IsReduced p W b
  reduced_from unlike r q i j alike = elim (cases_order (r - b.start) (q - b.start)) [
    | inl e ↦ let a = i.0 in let c = j.0 in omega arith
    | inr t ↦ elim t [
      | inl l ↦ absurd (unlike (r - b.start) (q - b.start) l (let a = j.0 in let c = j.1 in omega arith) same)
      | inr l ↦ absurd (unlike (q - b.start) (r - b.start) l (let a = i.0 in let c = i.1 in omega arith) (alike_sym same))
    ]
  ]
    where
      same : IsAlike (row_term rows (r - b.start)) (row_term rows (q - b.start))
      same = subst (λ (x : Term × Term). IsAlike x.0 x.1) (λ k. (meaning_is r k, meaning_is q k)) alike

  pub reduced_back : IsReduced p W b → AreUnlike rows
  reduced_back reduced i j less small alike = absurd (let e = reduced (b.start + i) (b.start + j) (omega arith, omega arith) (omega arith, omega arith) same in omega arith)
    where
      place : (k : ℕ) → row_meaning p W b (b.start + k) ≡ row_term rows k
      place k = meaning_is (b.start + k) ∙ ap (row_term rows) (let e : (b.start + k) - b.start ≡ k = omega arith in e)

      same : SameMeaning p W b (b.start + i) b (b.start + j)
      same = subst (λ (x : Term × Term). IsAlike x.0 x.1) (λ k. (sym (place i) k, sym (place j) k)) alike

pub machines : BlocksAreMachines
machines = record {
  automaton = automaton_is;
  meaning = λ p W b rows r m count says. meaning_is p W b rows m count says r;
  reduced = λ p W b rows m count says. (reduced_from p W b rows m count says, reduced_back p W b rows m count says);
  good = λ d b rows r f m count i l. good d b rows m count r f i l;
}
