-- The machine of the rows that are reached from a row.
use Rattle.std.proofs.Common.{ℕ, ◌≡◌, ◌<◌, ◌≤◌, List, length, get_or, ◌∙◌, ap, arith}
use Rattle.fr_model.specs.Words.{IsLetter, IsWord}
use Rattle.fr_model.specs.Permutations.{IsPermutation, image}
use Rattle.fr_model.specs.Terms.{IsAlike}
use Rattle.fr_model.specs.Automata.{state_at, next_state, state_after, IsAutomaton}
use Rattle.fr_model.specs.Classes.{HasMoreStates}
use Rattle.fr_model.proofs.AlikeLaws.{alike_sym, alike_trans}
use Rattle.fr_model.proofs.AutomatonLaws.{state_is, section_state, alike_by_relation}
use Rattle.fr_model.proofs.ClassLaws.{IsSize-alike}
use Rattle.fr_model.proofs.CountLaws.{words_of, length-words_of, words_of-at}
use Rattle.fr_machine.specs.declared.row.Row.{Row}
use Rattle.fr_machine.specs.Rows.{states_of, row_term, IsMachine}
use Rattle.fr_classes.specs.Classes.{HasMoreClasses}
use Rattle.fr_machine.specs.Minimal.{AreReached}
use Rattle.fr_machine.specs.Walks.{IsKeys, IsBuilt}
use Rattle.fr_machine.proofs.RowLaws.{IsAutomaton-states_of, length-states_of}
use Rattle.fr_machine.proofs.WalkLaws.{IsMachine-built, built_next, AreReached-built}
use Rattle.fr_minimal.specs.Smallest.{IsSmallest, chosen_output}
use Rattle.fr_minimal.proofs.ChoiceLaws.{perm_at}

module _ (d : ℕ) (m : List Row) (hm : IsMachine d m) (s : ℕ) (keys : List ℕ) (rows : List Row) (h : IsBuilt d (length m) (next_state (states_of m)) (chosen_output (states_of m)) s keys rows) (keyed : IsKeys (length m) keys) (whole : length keys ≤ length rows) where
  gm : IsAutomaton d (states_of m)
  gm = IsAutomaton-states_of d m hm

  permutes : (k : ℕ) → k < length m → IsPermutation d (chosen_output (states_of m) k)
  permutes k l = (state_is d (states_of m) k gm (omega (arith, length-states_of m))).permutes

  pub IsMachine-reached : IsMachine d rows
  IsMachine-reached = IsMachine-built d (length m) (next_state (states_of m)) (chosen_output (states_of m)) s keys rows h keyed whole hm.few hm.letters permutes

  pub AreReached-reached : AreReached d rows
  AreReached-reached = AreReached-built d (length m) (next_state (states_of m)) (chosen_output (states_of m)) s keys rows h keyed whole hm.few hm.letters permutes

  abbrev Stands : ℕ → ℕ → Type 0
  Stands i j = (i < length rows) × (get_or keys i 0 ≡ j)

  -- each row acts like its key
  pub alike_reached : IsAlike (row_term rows 0) (row_term m s)
  alike_reached =
      let qs = states_of rows in
      let ps = states_of m in
      let size : length rows ≡ length keys = omega (arith, h.done) in
      let step : (i j : ℕ) → Stands i j → (i < length qs) × (j < length ps) × ((x : ℕ) → IsLetter d x → (image (state_at qs i).perm x ≡ image (state_at ps j).perm x) × Stands (next_state qs i x) (next_state ps j x)) =
      λ i j r.
      let below = keyed.below i (omega (arith, r.0, size)) in
      let perm : (state_at qs i).perm ≡ (state_at ps j).perm = perm_at rows i r.0 ∙ (h.built i r.0).perm ∙ ap (λ k. (state_at ps k).perm) r.1 in (
        rw (length-states_of rows) r.0,
        rw (length-states_of m) (omega (arith, below, r.1)),
        λ x l.
            let b = built_next d (length m) (next_state ps) (chosen_output ps) s keys rows h keyed whole hm.few hm.letters permutes i x r.0 l in
            (ap (λ p. image p x) perm, (b.0, b.1 ∙ ap (λ k. next_state ps k x) r.1)),
      )
      in
      alike_by_relation d qs ps Stands (IsAutomaton-states_of d rows IsMachine-reached) gm step 0 s (omega (arith, size, h.some), h.first)

-- rows that are reached and pairwise unlike are sections no two of which act alike
pub HasMoreStates-reached : (d : ℕ) (rows : List Row) (limit : ℕ) → IsMachine d rows → AreReached d rows → HasMoreClasses rows limit → HasMoreStates d (row_term rows 0) limit
HasMoreStates-reached d rows limit hm reached more =
    let qs = states_of rows in
    let g = IsAutomaton-states_of d rows hm in
    let n = length more.members in
    let first : 0 < length qs = rw (length-states_of rows) (omega (arith, hm.least)) in
    let to = λ (i : ℕ) (l : i < n). reached (get_or more.members i 0) (more.valid i 0 l) in
    let has = λ (i : ℕ) (l : i < n). (to i l).0 in
    let words = words_of n has in
    let size = length-words_of n has in
    let word_is : (i : ℕ) (z : List ℕ) → i < length words → IsWord d (get_or words i z) × (state_after qs 0 (get_or words i z) ≡ get_or more.members i 0) = λ i z l.
    words_of-at n has (λ w. IsWord d w × (state_after qs 0 w ≡ get_or more.members i 0)) i z (omega (arith, size)) (λ k. ((to i k).1, (to i k).2)) in
    record {
      members = words;
      more = omega (arith, size, more.more);
      valid = λ i z l. (word_is i z l).0;
      apart = λ i j z k l e.
          let x = word_is i z (omega arith) in
          let y = word_is j z l in
          let u = section_state d qs 0 (get_or words i z) g first x.0 in
          let v = section_state d qs 0 (get_or words j z) g first y.0 in
          more.apart i j 0 k (omega (arith, size)) (rw (x.1, y.1) at (alike_trans (alike_sym u) (alike_trans e v)));
    }

-- the smallest machine of a term is that of a term that acts like it
pub IsSmallest-alike : (d : ℕ) (rows m : List Row) (s : ℕ) (least : List Row) → IsAlike (row_term rows 0) (row_term m s) → IsSmallest d (row_term rows 0) least → IsSmallest d (row_term m s) least
IsSmallest-alike d rows m s least e h = record { alike = alike_trans h.alike e; size = IsSize-alike d (row_term rows 0) (row_term m s) (length least) e h.size }
