-- The machine of the inverses of a minimal machine is minimal.
use Rattle.std.proofs.Common.{ℕ, ◌≡◌, ◌<◌, List, length, subst, arith, inl, inr}
use Rattle.std.proofs.lemmas.Bool.{cases_order}
use Rattle.fr_model.specs.Words.{IsWord}
use Rattle.fr_model.specs.Terms.{Term, Inverse, Section, act, IsTerm, IsAlike}
use Rattle.fr_model.specs.Automata.{state_after}
use Rattle.fr_model.specs.Classes.{IsSize}
use Rattle.fr_model.proofs.TermLaws.{act-IsWord}
use Rattle.fr_model.proofs.AlikeLaws.{alike_sym, alike_trans, alike_inverse, alike_section, section_inverse}
use Rattle.fr_model.proofs.AutomatonLaws.{section_state, state_after-lt}
use Rattle.fr_model.proofs.ClassLaws.{IsSize-reached}
use Rattle.fr_machine.specs.declared.row.Row.{Row}
use Rattle.fr_machine.specs.Rows.{IsMachine, row_term, states_of}
use Rattle.fr_machine.specs.Minimal.{AreReached, AreUnlike, IsMinimal}
use Rattle.fr_machine.specs.Inverses.{AreInverses}
use Rattle.fr_machine.proofs.RowLaws.{IsAutomaton-states_of, length-states_of, IsTerm-row_term}

-- inverses of inverses are the terms themselves
inverse_twice : (d : ℕ) (t u : Term) → IsTerm d t → IsTerm d u → IsAlike (Inverse t) (Inverse u) → IsAlike t u
inverse_twice d t u a b e = record { images = λ w. (alike_inverse d {t = Inverse t} {u = Inverse u} a b e).images w }

module _ (d : ℕ) (rows others : List Row) (m : IsMinimal d rows) (v : IsMachine d others) (n : length others ≡ length rows) (a : AreInverses rows others) where
  in_rows : (s : ℕ) → s < length others → s < length rows
  in_rows s l = omega (arith, l, n)

  term_at : (s : ℕ) → s < length others → IsTerm d (row_term rows s)
  term_at s l = IsTerm-row_term d rows s m.machine (in_rows s l)

  pub others_unlike : AreUnlike others
  others_unlike s t h l same =
      let k : s < length others = omega (arith, h, l) in
      m.unlike s t h (in_rows t l)
      (inverse_twice d (row_term rows s) (row_term rows t) (term_at s k) (term_at t l) (alike_trans (alike_sym (a s (in_rows s k))) (alike_trans same (a t (in_rows t l)))))

  -- rows that act alike are one row
  same_row : (s t : ℕ) → s < length others → t < length others → IsAlike (row_term others s) (row_term others t) → s ≡ t
  same_row s t k l e = elim (cases_order s t) [
    | inl same ↦ same
    | inr o ↦ elim o [ inl less ↦ absurd (others_unlike s t less l e) | inr more ↦ absurd (others_unlike t s more k (alike_sym e)) ]
  ]

  first : 0 < length others
  first = omega (arith, v.least)

  pub others_reached : AreReached d others
  others_reached s l =
      let r = m.reached s (in_rows s l) in
      let w = act (row_term rows 0) r.0 in
      let word : IsWord d w = act-IsWord d (row_term rows 0) (term_at 0 first) r.0 r.1 in
      let g = IsAutomaton-states_of d rows m.machine in
      let h = IsAutomaton-states_of d others v in
      let zero_rows : 0 < length (states_of rows) = omega (arith, m.machine.least, length-states_of rows) in
      let zero_others : 0 < length (states_of others) = omega (arith, v.least, length-states_of others) in
      let there : IsAlike (Section (row_term rows 0) r.0) (row_term rows s) = subst (λ (k : ℕ). IsAlike (Section (row_term rows 0) r.0) (row_term rows k)) r.2 (section_state d (states_of rows) 0 r.0 g zero_rows r.1) in
      let section_term : IsTerm d (Section (row_term rows 0) r.0) = (term_at 0 first, r.1) in
      let last = state_after (states_of others) 0 w in
      let behind : IsAlike (row_term others last) (Section (row_term others 0) w) = alike_sym (section_state d (states_of others) 0 w h zero_others word) in
      let inverse : IsAlike (Section (row_term others 0) w) (row_term others s) =
      alike_trans (alike_section w (a 0 (in_rows 0 first)))
      (alike_trans (section_inverse (row_term rows 0) r.0)
      (alike_trans (alike_inverse d section_term (term_at s l) there) (alike_sym (a s (in_rows s l))))) in
      (w, word, same_row last s (omega (arith, state_after-lt d (states_of others) 0 w h zero_others, length-states_of others)) l (alike_trans behind inverse))

  pub IsMinimal-inverse : IsMinimal d others
  IsMinimal-inverse = record { machine = v; small = omega (arith, m.small, n); reached = others_reached; unlike = others_unlike }

-- a minimal machine has as many rows as its element has sections
pub IsSize-minimal_rows : (d : ℕ) (rows : List Row) → IsMinimal d rows → IsSize d (row_term rows 0) (length rows)
IsSize-minimal_rows d rows m =
    let g = IsAutomaton-states_of d rows m.machine in
    subst (λ (k : ℕ). IsSize d (row_term rows 0) k) (length-states_of rows)
    (IsSize-reached d (states_of rows) 0 g (omega (arith, m.machine.least, length-states_of rows))
    (λ r l. (let w = m.reached r (omega (arith, l, length-states_of rows)) in record { along = w.0; valid = w.1; there = w.2 }))
    (λ i j h l. m.unlike i j h (omega (arith, l, length-states_of rows))))
