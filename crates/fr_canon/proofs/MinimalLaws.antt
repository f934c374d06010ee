-- A canonical automaton is a minimal machine.
use Rattle.std.proofs.Common.{ℕ, ◌≡◌, ◌<◌, ◌≤◌, List, [], ◌∷◌, length, get_or, sym, ◌∙◌, arith}
use Rattle.fr_model.specs.Words.{IsWord}
use Rattle.fr_model.specs.Terms.{Term, Section, IsTerm, IsAlike, act}
use Rattle.fr_model.specs.Automata.{State, next_state, state_after, state_term}
use Rattle.fr_model.specs.Canonical.{IsCanonical}
use Rattle.fr_model.proofs.TermLaws.{act-append}
use Rattle.fr_model.proofs.AlikeLaws.{alike_sym, alike_trans, alike_section, section_section, act-nil, alike_from_words}
use Rattle.fr_model.proofs.AutomatonLaws.{act-state_term, next_state-lt, state_after-lt, section_state, IsTerm-state_term}
use Rattle.fr_model.proofs.CanonicalLaws.{least_words_differ, same_place, at_zero, canonical_alike}
use Rattle.fr_machine.specs.declared.row.Row.{Row}
use Rattle.fr_machine.specs.Rows.{states_of, IsMachine}
use Rattle.fr_machine.specs.Minimal.{IsMinimal}
use Rattle.fr_machine.proofs.RowLaws.{length-states_of}

module _ (d : ℕ) (t : Term) (valid : IsTerm d t) (qs : List State) (a : IsCanonical d t qs) where
  abbrev word : ℕ → List ℕ
  word k = get_or a.words k []

  acts : (w : List ℕ) (k : ℕ) → k < length qs → IsWord d w → act (Section t (word k)) w ≡ act (state_term qs k) w
  acts [] k l c = act-nil (Section t (word k)) ∙ sym (act-nil (state_term qs k))
  acts (x ∷ w) k l c =
      let v = word k in
      let m : k < length a.words = omega (arith, a.count) in
      act-append (Section t v) (x ∷ []) w
      ∙ rw (a.outputs k x m c.0, (section_section t v (x ∷ [])).images w, (a.nexts k x m c.0).images w, acts w (next_state qs k x) (next_state-lt d qs k x a.automaton l) c.1)
      (sym (act-state_term d qs k x w a.automaton l c.0))

  section_word : (k : ℕ) → k < length qs → IsAlike (Section t (word k)) (state_term qs k)
  section_word k l = let m : k < length a.words = omega (arith, a.count) in alike_from_words d (valid, (a.least k m).valid) (IsTerm-state_term d qs k a.automaton l) (λ w c. acts w k l c)

  apart : (i j : ℕ) → i < length qs → j < length qs → IsAlike (state_term qs i) (state_term qs j) → i ≡ j
  apart i j il jl e =
      let im : i < length a.words = omega (arith, il, a.count) in
      let jm : j < length a.words = omega (arith, jl, a.count) in
      same_place a.words a.ordered i j im jm (least_words_differ d t (word i) (word j) (a.least i im) (a.least j jm) (alike_trans (section_word i il) (alike_trans e (alike_sym (section_word j jl)))))

  some : 0 < length qs
  some = let z = at_zero d t qs a in omega (arith, z.0, a.count)

  reached : (k : ℕ) → k < length qs → (w : List ℕ) × IsWord d w × (state_after qs 0 w ≡ k)
  reached k l =
      let m : k < length a.words = omega (arith, l, a.count) in
      let v = (a.least k m).valid in
      let to = section_state d qs 0 (word k) a.automaton some v in
      let from = alike_section (word k) (canonical_alike d t valid qs a) in
      (word k, v, apart (state_after qs 0 (word k)) k (state_after-lt d qs 0 (word k) a.automaton some) l (alike_trans (alike_sym to) (alike_trans (alike_sym from) (section_word k l))))

pub IsMinimal-canonical : (d : ℕ) (t : Term) → IsTerm d t → (rows : List Row) → IsCanonical d t (states_of rows) → IsMachine d rows → length rows ≤ 1024 → IsMinimal d rows
IsMinimal-canonical d t valid rows a m few =
    let n = length-states_of rows in
    record {
      machine = m;
      small = few;
      reached = λ s l. reached d t valid (states_of rows) a s (omega (arith, n, l));
      unlike = λ s u l k h. (let i = apart d t valid (states_of rows) a s u (omega (arith, n, l, k)) (omega (arith, n, k)) h in omega (arith, i, l));
    }
