-- The adding machine is minimal, for tests.
use Rattle.std.proofs.Common.{ℕ, zero, suc, ◌≡◌, List, [], ◌∷◌, get_or, ap, refl, sym, ◌∙◌, subst, arith}
use Rattle.fr_model.specs.Words.{IsLetter}
use Rattle.fr_model.specs.Terms.{IsAlike}
use Rattle.fr_model.proofs.AutomatonLaws.{act-state_letter}
use Rattle.fr_machine.specs.declared.row.Row.{Row}
use Rattle.fr_machine.specs.Rows.{states_of, row_term, IsMachine}
use Rattle.fr_machine.specs.Minimal.{AreReached, AreUnlike, IsMinimal}
use Rattle.fr_machine.proofs.RowLaws.{IsAutomaton-states_of}

-- the rows of t = <1,t>(1,2) and of the identity
abbrev pub adding_rows : List Row
adding_rows = record { perm = 2 ∷ 1 ∷ []; next = 1 ∷ 0 ∷ 0 ∷ 0 ∷ 0 ∷ 0 ∷ 0 ∷ 0 ∷ [] } ∷ record { perm = 1 ∷ 2 ∷ []; next = 1 ∷ 1 ∷ 0 ∷ 0 ∷ 0 ∷ 0 ∷ 0 ∷ 0 ∷ [] } ∷ []

adding_reached : AreReached 2 adding_rows
adding_reached zero l = ([], tt, refl)
adding_reached (suc zero) l = (1 ∷ [], ((omega arith, omega arith), tt), refl)
adding_reached (suc (suc s)) l = absurd (omega arith)

-- the one moves the letter 1, the other does not
first_unlike : IsMachine 2 adding_rows → ¬ IsAlike (row_term adding_rows 0) (row_term adding_rows 1)
first_unlike m e =
    let g = IsAutomaton-states_of 2 adding_rows m in
    let letter : IsLetter 2 1 = (omega arith, omega arith) in
    let a = act-state_letter 2 (states_of adding_rows) 0 1 g (omega arith) letter in
    let b = act-state_letter 2 (states_of adding_rows) 1 1 g (omega arith) letter in
    let same : ◌≡◌ {A = List ℕ} (2 ∷ []) (1 ∷ []) = sym a ∙ e.images (1 ∷ []) ∙ b in
    let first : List ℕ → ℕ = λ w. get_or w 0 0 in
    two_one (ap first same)
  where
    two_one : ◌≡◌ {A = ℕ} 2 1 → ⊥
    two_one f = omega arith

adding_unlike : IsMachine 2 adding_rows → AreUnlike adding_rows
adding_unlike m zero (suc zero) l k e = first_unlike m e
adding_unlike m zero zero l k e = omega arith
adding_unlike m zero (suc (suc t)) l k e = omega arith
adding_unlike m (suc s) zero l k e = omega arith
adding_unlike m (suc s) (suc zero) l k e = omega arith
adding_unlike m (suc s) (suc (suc t)) l k e = omega arith

pub IsMinimal-adding : (d : ℕ) (rows : List Row) → d ≡ 2 → rows ≡ adding_rows → IsMachine d rows → IsMinimal d rows
IsMinimal-adding d rows e f m =
    let P : ℕ → Type 0 = λ k. IsMachine k rows in
    let Q : List Row → Type 0 = λ rs. IsMachine 2 rs in
    let R : List Row → Type 0 = λ rs. IsMinimal 2 rs in
    let S : ℕ → Type 0 = λ k. IsMinimal k rows in
    let h : IsMachine 2 adding_rows = subst Q f (subst P e m) in
    subst S (sym e) (subst R (sym f) (record { machine = h; small = omega arith; reached = adding_reached; unlike = adding_unlike h }))
