-- The sections of some generators and of their inverses.
use Rattle.std.proofs.Common.{ℕ, ◌≡◌, ◌+◌, ◌<◌, ◌⊎◌, inl, inr, List, [], ◌∷◌, length, get_or, refl, sym, ◌∙◌, subst, arith}
use Rattle.std.specs.List.{Contains}
use Rattle.std.proofs.lemmas.Bool.{cases_lt}
use Rattle.std.proofs.lemmas.List.{length-map, get_or_default, get_or-map}
use Rattle.fr_model.specs.Words.{IsWord}
use Rattle.fr_model.specs.Terms.{Term, One, Inverse, Section, act, back, IsTerm, IsAlike}
use Rattle.fr_model.specs.Automata.{state_after}
use Rattle.fr_model.specs.Classes.{HasMoreThan}
use Rattle.fr_model.specs.Nuclei.{one, section, inverse}
use Rattle.fr_model.proofs.TermLaws.{act-IsWord, back-IsWord, act-back}
use Rattle.fr_model.proofs.AlikeLaws.{alike_sym, alike_trans, alike_inverse, section_inverse}
use Rattle.fr_model.proofs.AutomatonLaws.{section_state, state_after-lt, IsTerm-state_term}
use Rattle.fr_machine.specs.declared.row.Row.{Row}
use Rattle.fr_machine.specs.Machine.{MachineView}
use Rattle.fr_machine.specs.Rows.{row_term, states_of}
use Rattle.fr_machine.specs.Minimal.{IsMinimal}
use Rattle.fr_machine.proofs.RowLaws.{IsAutomaton-states_of, length-states_of}
use Rattle.fr_nucleus.specs.declared.fault.NucleusFault.{NucleusFault}
use Rattle.fr_nucleus.specs.declared.fault.NucleusFault.TheVariants.{NoMemory, TooManySections}
use Rattle.fr_nucleus.specs.Faults.{IsSectionFault}
use Rattle.fr_nucleus.specs.Elements.{element_of, elements_of, alphabet_of, AreOver, IsSectionOf}
use Rattle.fr_nucleus.specs.Orders.{machine_at}
use Rattle.fr_nucleus.specs.Rows.{HasRow, AreFewRows, AreSections}
use Rattle.fr_nucleus.specs.Joining.{IsAmong, old, row, inverse as undone, HasAll}
use Rattle.fr_nucleus.proofs.SectionLaws.{HasRow-alike, HasRow-from, HasMoreThan-alike}

-- the rows hold those of the first k generators and their inverses, and no others than sections of generators and of inverses
pub record IsCollected (gens : List MachineView) (rows : List Row) (k : ℕ) : Type 0 where
  pub fine : AreFewRows rows
  pub minimal : (i : ℕ) → i < k → IsMinimal (alphabet_of gens) (machine_at gens i).rows
  pub right : (i s : ℕ) → i < k → s < length (machine_at gens i).rows → HasRow rows (row_term (machine_at gens i).rows s)
  pub inverses : (i s : ℕ) → i < k → s < length (machine_at gens i).rows → HasRow rows (Inverse (row_term (machine_at gens i).rows s))
  pub only : (s : ℕ) → s < length rows → (t : Term) × IsSectionOf gens t × IsAlike (row_term rows s) t

-- ---- a row of a minimal machine is a section of its element, and its inverse one of the inverse
module _ (d : ℕ) (rows : List Row) (m : IsMinimal d rows) where
  some : 0 < length (states_of rows)
  some = omega (arith, m.machine.least, length-states_of rows)

  pub element_term : IsTerm d (row_term rows 0)
  element_term = IsTerm-state_term d (states_of rows) 0 (IsAutomaton-states_of d rows m.machine) some

  pub row_section : (s : ℕ) → s < length rows → (w : List ℕ) × IsWord d w × IsAlike (row_term rows s) (Section (row_term rows 0) w)
  row_section s l =
      let r = m.reached s l in
      let e = section_state d (states_of rows) 0 r.0 (IsAutomaton-states_of d rows m.machine) some r.1 in
      (r.0, r.1, alike_sym (subst (λ z. IsAlike (Section (row_term rows 0) r.0) (row_term rows z)) r.2 e))

  row_is_term : (s : ℕ) → s < length rows → IsTerm d (row_term rows s)
  row_is_term s l = IsTerm-state_term d (states_of rows) s (IsAutomaton-states_of d rows m.machine) (omega (arith, l, length-states_of rows))

  pub inverse_section : (s : ℕ) → s < length rows → (w : List ℕ) × IsWord d w × IsAlike (Inverse (row_term rows s)) (Section (Inverse (row_term rows 0)) w)
  inverse_section s l =
      let r = row_section s l in
      let g = row_term rows 0 in
      (act g r.0, act-IsWord d g element_term r.0 r.1, alike_trans (alike_inverse d (row_is_term s l) (element_term, r.1) r.2) (alike_sym (section_inverse g r.0)))

  -- and each section is a row
  pub section_row : (w : List ℕ) → IsWord d w → (s : ℕ) × (s < length rows) × IsAlike (Section (row_term rows 0) w) (row_term rows s)
  section_row w k =
      let a = IsAutomaton-states_of d rows m.machine in
      (state_after (states_of rows) 0 w, omega (arith, state_after-lt d (states_of rows) 0 w a some, length-states_of rows), section_state d (states_of rows) 0 w a some k)

  pub section_row_inverse : (w : List ℕ) → IsWord d w → (s : ℕ) × (s < length rows) × IsAlike (Section (Inverse (row_term rows 0)) w) (Inverse (row_term rows s))
  section_row_inverse w k =
      let g = row_term rows 0 in
      let u = back g w in
      let uw = back-IsWord d g element_term w k in
      let r = section_row u uw in
      let e : IsAlike (Section (Inverse g) (act g u)) (Inverse (Section g u)) = section_inverse g u in
      let e' : IsAlike (Section (Inverse g) w) (Inverse (Section g u)) = subst (λ v. IsAlike (Section (Inverse g) v) (Inverse (Section g u))) (act-back d g element_term w) e in
      (r.0, r.1, alike_trans e' (alike_inverse d (element_term, uw) (row_is_term r.0 r.1) r.2))

-- ---- the generators among their elements
pub element_at : (gens : List MachineView) (i : ℕ) (z : Term) → i < length gens → get_or (elements_of gens) i z ≡ element_of (machine_at gens i)
element_at gens i z l = get_or-map element_of gens i (record { alphabet = 0; rows = [] }) z l

pub contains_element : (gens : List MachineView) (i : ℕ) → i < length gens → Contains (elements_of gens) (element_of (machine_at gens i))
contains_element gens i l = (i, omega (arith, l, length-map gens element_of), element_at gens i (element_of (machine_at gens i)) l)

-- before the first generator
pub IsCollected-start : (gens : List MachineView) (rows : List Row) → AreFewRows rows → length rows ≡ 1 → IsCollected gens rows 0
IsCollected-start gens rows f n = record {
  fine = f;
  minimal = λ i l. absurd (omega arith);
  right = λ i s l k. absurd (omega arith);
  inverses = λ i s l k. absurd (omega arith);
  only = λ s l. let at : s ≡ 0 = omega arith in (One, one, rw at f.one);
}

module _ (gens : List MachineView) (rows : List Row) (k : ℕ) (l : k < length gens) (m : IsMinimal (alphabet_of gens) (machine_at gens k).rows) (h : IsCollected gens rows k) where
  pub among : (t : Term) → IsAmong rows (machine_at gens k).rows t → (u : Term) × IsSectionOf gens u × IsAlike t u
  among t (old a) = let r = h.only a.0 a.1 in (r.0, r.1, alike_trans a.2 r.2)
  among t (row a) =
      let r = row_section (alphabet_of gens) (machine_at gens k).rows m a.0 a.1 in
      (Section (element_of (machine_at gens k)) r.0, section (contains_element gens k l) r.0 r.1, alike_trans a.2 r.2)
  among t (undone s b e) =
      let r = inverse_section (alphabet_of gens) (machine_at gens k).rows m s b in
      (Section (Inverse (element_of (machine_at gens k))) r.0, inverse (contains_element gens k l) r.0 r.1, alike_trans e r.2)

  pub IsCollected-more : (rows' : List Row) → HasAll rows (machine_at gens k).rows rows' → IsCollected gens rows' (k + 1)
  IsCollected-more rows' a = record {
    fine = a.fine;
    minimal = λ i b. elim (cases_lt i k) [
      | inl t ↦ h.minimal i t
      | inr t ↦ (let at : k ≡ i = omega arith in subst (λ j. IsMinimal (alphabet_of gens) (machine_at gens j).rows) at m)
    ];
    right = λ i s b c. elim (cases_lt i k) [
      | inl t ↦ HasRow-from rows rows' a.left (row_term (machine_at gens i).rows s) (h.right i s t c)
      | inr t ↦
          let at : k ≡ i = omega arith in
          subst (λ j. (s : ℕ) → s < length (machine_at gens j).rows → HasRow rows' (row_term (machine_at gens j).rows s)) at a.right s c
    ];
    inverses = λ i s b c. elim (cases_lt i k) [
      | inl t ↦ HasRow-from rows rows' a.left (Inverse (row_term (machine_at gens i).rows s)) (h.inverses i s t c)
      | inr t ↦
          let at : k ≡ i = omega arith in
          subst (λ j. (s : ℕ) → s < length (machine_at gens j).rows → HasRow rows' (Inverse (row_term (machine_at gens j).rows s))) at a.inverses s c
    ];
    only = λ s b. among (row_term rows' s) (a.only s b);
  }

-- after the last
pub AreSections-from : (gens : List MachineView) (rows : List Row) (k : ℕ) → k ≡ length gens → IsCollected gens rows k → AreSections gens rows
AreSections-from gens rows k all h = record { fine = h.fine; terms = λ g c. term c; listed = λ t q. listed q; inside = h.only }
  where
    here : {g : Term} → (c : Contains (elements_of gens) g) → (c.0 < length gens) × (g ≡ element_of (machine_at gens c.0))
    here {g} c =
        let l : c.0 < length gens = omega (arith, c.1, length-map gens element_of) in
        (l, sym c.2 ∙ element_at gens c.0 g l)

    term : {g : Term} → Contains (elements_of gens) g → IsTerm (alphabet_of gens) g
    term {g} c =
        let p = here c in
        subst (IsTerm (alphabet_of gens)) (sym p.1) (element_term (alphabet_of gens) (machine_at gens c.0).rows (h.minimal c.0 (omega (arith, all, p.0))))

    listed : {t : Term} → IsSectionOf gens t → HasRow rows t
    listed one = (0, h.fine.some, alike_sym h.fine.one)
    listed (section {g = g} c v w) =
        let p = here c in
        let r = section_row (alphabet_of gens) (machine_at gens c.0).rows (h.minimal c.0 (omega (arith, all, p.0))) v w in
        let e : IsAlike (Section g v) (row_term (machine_at gens c.0).rows r.0) = subst (λ f. IsAlike (Section f v) (row_term (machine_at gens c.0).rows r.0)) (sym p.1) r.2 in
        HasRow-alike rows (Section g v) (row_term (machine_at gens c.0).rows r.0) e (h.right c.0 r.0 (omega (arith, all, p.0)) r.1)
    listed (inverse {g = g} c v w) =
        let p = here c in
        let r = section_row_inverse (alphabet_of gens) (machine_at gens c.0).rows (h.minimal c.0 (omega (arith, all, p.0))) v w in
        let e : IsAlike (Section (Inverse g) v) (Inverse (row_term (machine_at gens c.0).rows r.0)) = subst (λ f. IsAlike (Section (Inverse f) v) (Inverse (row_term (machine_at gens c.0).rows r.0))) (sym p.1) r.2 in
        HasRow-alike rows (Section (Inverse g) v) (Inverse (row_term (machine_at gens c.0).rows r.0)) e (h.inverses c.0 r.0 (omega (arith, all, p.0)) r.1)

-- ---- the program's values
pub AreFewRows-one : (rows : List Row) → length rows ≡ 1 → IsAlike (row_term rows 0) One → AreFewRows rows
AreFewRows-one rows n e = record { some = omega arith; few = omega arith; unlike = λ s t l k a. absurd (omega arith); one = e }

pub alphabet_first : (gens : List MachineView) (z : MachineView) → 0 < length gens → (get_or gens 0 z).alphabet ≡ alphabet_of gens
alphabet_first [] z l = absurd (omega arith)
alphabet_first (g ∷ gens) z l = refl

-- a generator that is met
pub generator_minimal : (gens : List MachineView) (k : ℕ) (g : MachineView) → k < length gens → AreOver (alphabet_of gens) gens → g ≡ get_or gens k g → IsMinimal g.alphabet g.rows → (g ≡ machine_at gens k) × IsMinimal (alphabet_of gens) (machine_at gens k).rows
generator_minimal gens k g l over e m =
    let z : MachineView = record { alphabet = 0; rows = [] } in
    let here : g ≡ machine_at gens k = e ∙ get_or_default gens k g z l in
    let a : (machine_at gens k).alphabet ≡ alphabet_of gens = over k z l in
    let n : IsMinimal (machine_at gens k).alphabet (machine_at gens k).rows = subst (λ v. IsMinimal v.alphabet v.rows) here m in
    (here, subst (λ d. IsMinimal d (machine_at gens k).rows) a n)

-- too many rows of those so far, of a generator and of its inverses are too many sections
pub section_fault : (gens : List MachineView) (rows : List Row) (k : ℕ) → k < length gens → IsMinimal (alphabet_of gens) (machine_at gens k).rows → IsCollected gens rows k → (ns : List Row) → ns ≡ (machine_at gens k).rows → (e : NucleusFault) → (e ≡ NoMemory) ⊎ ((e ≡ TooManySections) × HasMoreThan (IsAmong rows ns) IsAlike 64) → IsSectionFault gens e
section_fault gens rows k l m h ns same e (inl n) = subst (IsSectionFault gens) (sym n) tt
section_fault gens rows k l m h ns same e (inr t) =
    let more : HasMoreThan (IsAmong rows (machine_at gens k).rows) IsAlike 64 = subst (λ r. HasMoreThan (IsAmong rows r) IsAlike 64) same t.1 in
    subst (IsSectionFault gens) (sym t.0) (HasMoreThan-alike (IsAmong rows (machine_at gens k).rows) (IsSectionOf gens) 64 (among gens rows k l m h) more)
