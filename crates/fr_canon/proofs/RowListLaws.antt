-- Rows that a walk lists are a minimal machine in canonical numbering.
use Rattle.std.proofs.Common.{ℕ, ◌≡◌, ◌+◌, ◌<◌, ◌≤◌, inl, inr, List, [], ◌∷◌, ◌++◌, length, get_or, sym, ◌∙◌, subst, arith}
use Rattle.std.proofs.lemmas.Bool.{cases_lt}
use Rattle.std.proofs.lemmas.List.{get_or-map, get_or-take, get_or_append_left, get_or_push, length_push}
use Rattle.std.proofs.lemmas.List.Elements.{All-get_or}
use Rattle.fr_model.specs.Terms.{Term, IsTerm}
use Rattle.fr_model.specs.Automata.{State, state_at, next_state, IsState}
use Rattle.fr_model.specs.Canonical.{IsCanonical}
use Rattle.fr_model.proofs.AutomatonLaws.{state_is}
use Rattle.fr_machine.specs.declared.row.Row.{Row}
use Rattle.fr_machine.specs.Rows.{state_of, states_of, row_term, row_at, IsRow, IsMachine}
use Rattle.fr_machine.specs.Minimal.{AreUnlike, IsMinimal}
use Rattle.fr_machine.specs.Walks.{WalkView, IsKeys}
use Rattle.fr_machine.proofs.RowLaws.{length-states_of, IsTerm-row_term, IsRow-filled, IsMachine-rows}
use Rattle.fr_canon.specs.Listings.{row_output, IsFilled, IsRowListed, IsListed}
use Rattle.fr_canon.proofs.LineLaws.{states_of-push}
use Rattle.fr_canon.proofs.ListingLaws.{IsListed-start, IsListed-more, IsCanonical-listed}
use Rattle.fr_canon.proofs.MinimalLaws.{IsMinimal-canonical}

-- a walk, and its first keys as rows
pub record AreRowsListed (d bound : ℕ) (step : ℕ → ℕ → ℕ) (output : ℕ → List ℕ) (start : ℕ) (keys : List ℕ) (j : ℕ) (found : List Row) : Type 0 where
  pub listed : IsListed d bound step output start keys j (states_of found)
  pub filled : (i : ℕ) → i < length found → IsFilled d (row_at found i)

pub AreRowsListed-start : (d bound : ℕ) (step : ℕ → ℕ → ℕ) (output : ℕ → List ℕ) (start : ℕ) (keys : List ℕ) (found : List Row) → start < bound → keys ≡ start ∷ [] → found ≡ [] → AreRowsListed d bound step output start keys 0 found
AreRowsListed-start d bound step output start keys found l e f =
    let P : List Row → Type 0 = λ rs. AreRowsListed d bound step output start keys 0 rs in
    subst P (sym f) (record { listed = IsListed-start d bound step output start keys l e; filled = λ i k. absurd (omega (arith, k)) })

pub AreRowsListed-more : (d bound : ℕ) (step : ℕ → ℕ → ℕ) (output : ℕ → List ℕ) (start : ℕ) (w w' : WalkView) (j key : ℕ) (found found' : List Row) (r : Row) → AreRowsListed d bound step output start w.keys j found → j < length w.keys → key ≡ get_or w.keys j 0 → IsRowListed d bound step output w w' key r → found' ≡ found ++ r ∷ []
    → AreRowsListed d bound step output start w'.keys (j + 1) found'
AreRowsListed-more d bound step output start w w' j key found found' r h l e m f =
    let z : Row = record { perm = []; next = [] } in
    let P : List Row → Type 0 = λ rs. AreRowsListed d bound step output start w'.keys (j + 1) rs in
    let Q : List State → Type 0 = λ qs. IsListed d bound step output start w'.keys (j + 1) qs in
    subst P (sym f) (record {
      listed = subst Q (sym (states_of-push found r)) (IsListed-more d bound step output start w w' j key (states_of found) (state_of r) h.listed l e m.listed);
      filled = λ i k. elim (cases_lt i (length found)) [
        | inl t ↦ rw (get_or_append_left found (r ∷ []) z i t) (h.filled i t)
        | inr t ↦ rw (get_or_push found r z i (omega (arith, t, k, length_push found r))) m.filled
      ];
    })

-- a row of a state
row_of_state : (d n : ℕ) (r : Row) → d ≤ 8 → 0 < n → IsState d n (state_of r) → IsFilled d r → IsRow d n r
row_of_state d n r low some s f = IsRow-filled d n r low some s.permutes f.width
    (λ x l. (let small : x < length r.perm = omega (arith, l, f.degree) in omega (arith, get_or-take (length r.perm) r.next x 0 small, All-get_or (λ m. m < n) (state_of r).next x 0 (omega (arith, l, s.arity)) s.below)))
    f.zeros

-- rows whose states are the canonical numbering are a minimal machine
module _ (d : ℕ) (t : Term) (valid : IsTerm d t) (found : List Row) (c : IsCanonical d t (states_of found)) (filled : (i : ℕ) → i < length found → IsFilled d (row_at found i)) (two : 2 ≤ d) (low : d ≤ 8) where
  rows-valid : (i : ℕ) → i < length found → IsRow d (length found) (row_at found i)
  rows-valid i l =
      let n : length (states_of found) ≡ length found = length-states_of found in
      let q : state_at (states_of found) i ≡ state_of (row_at found i) = get_or-map state_of found i (record { perm = []; next = [] }) (record { perm = []; next = [] }) l in
      let is = state_is d (states_of found) i c.automaton (omega (arith, l, n)) in
      row_of_state d (length found) (row_at found i) low (omega (arith, l)) (rw n at (rw q at is)) (filled i l)

  pub IsMinimal-filled : 1 ≤ length found → length found ≤ 1024 → IsMinimal d found
  IsMinimal-filled some few = IsMinimal-canonical d t valid found c (IsMachine-rows d found two low some (omega (arith, few)) rows-valid) few

module _ (d : ℕ) (rows : List Row) (m : IsMachine d rows) (others : AreUnlike rows) (s : ℕ) (sl : s < length rows) (keys : List ℕ) (j : ℕ) (found : List Row) (h : AreRowsListed d (length rows) (next_state (states_of rows)) (row_output (states_of rows)) s keys j found) (keyed : IsKeys 1024 keys) (all : length keys ≤ j) (few : j ≤ 1024) where
  abbrev t : Term
  t = row_term rows s

  pub IsCanonical-rows : IsCanonical d t (states_of found)
  IsCanonical-rows =
      let e : j ≡ length keys = omega (arith, all, h.listed.done) in
      let P : ℕ → Type 0 = λ i. IsListed d (length rows) (next_state (states_of rows)) (row_output (states_of rows)) s keys i (states_of found) in
      IsCanonical-listed d rows m others s sl keys (states_of found) (subst P e h.listed) keyed

  pub IsMinimal-rows : IsMinimal d found
  IsMinimal-rows =
      let count : length found ≡ j = sym (length-states_of found) ∙ h.listed.count in
      IsMinimal-filled d t (IsTerm-row_term d rows s m sl) found IsCanonical-rows h.filled m.few m.letters (omega (arith, count, all, h.listed.ordered.some)) (omega (arith, count, few))
