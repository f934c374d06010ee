-- What a store on blocks of rows knows, when the rows of an element were put into it.
use Rattle.std.proofs.Common.{ℕ, ◌≡◌, ◌+◌, ◌-◌, ◌<◌, inl, inr, List, ◌++◌, length, get_or, sym, ◌∙◌, ap, subst, arith, replicate}
use Rattle.std.proofs.lemmas.List.{length-append}
use Rattle.fr_model.specs.Words.{IsWord}
use Rattle.fr_model.specs.Terms.{Term, Section, IsAlike}
use Rattle.fr_model.specs.Canonical.{IsCode}
use Rattle.fr_model.proofs.AlikeLaws.{alike_sym, alike_trans, alike_section}
use Rattle.fr_model.proofs.AutomatonLaws.{section_state}
use Rattle.fr_model.proofs.CodeLaws.{IsCode-alike}
use Rattle.fr_machine.specs.declared.row.Row.{Row}
use Rattle.fr_machine.specs.Rows.{row_term, states_of}
use Rattle.fr_machine.specs.Minimal.{IsMinimal}
use Rattle.fr_machine.proofs.RowLaws.{IsAutomaton-states_of, length-states_of}
use Rattle.fr_store.specs.declared.blocks.Place.{Place}
use Rattle.fr_canon.specs.Walked.{row_code}
use Rattle.fr_store.specs.Blocks.{code_at, AreBlocks}
use Rattle.fr_store.specs.Index.{IsIndex, IsTable, IsLinked}
use Rattle.fr_store.specs.Entered.{IsEntered}
use Rattle.fr_canon.proofs.WalkedLaws.{IsCode-row_code}
use Rattle.fr_store.proofs.BlockLaws.{code_at-old, code_at-new}
use Rattle.fr_store.proofs.IndexLaws.{handle-lt_rows, IsIndex-wider}
use Rattle.fr_store.proofs.TableLaws.{IsTable-wider}
use Rattle.fr_store.proofs.VecLaws.{known_is, known_from}

module _ (d : ℕ) (rows : List Row) (places : List Place) (a : AreBlocks d rows places) (new : List Row) (m : IsMinimal d new) (handles links : List ℕ) (i : IsIndex (code_at d rows places) (length rows) handles links) (whole : length links ≡ length rows) where
  abbrev rows' : List Row
  rows' = rows ++ new

  abbrev places' : List Place
  places' = places ++ replicate (length new) (record { start = length rows; size = length new })

  abbrev code : ℕ → List ℕ
  code = code_at d rows places

  abbrev code' : ℕ → List ℕ
  code' = code_at d rows' places'

  pub index-pushed : IsIndex code' (length rows') handles links
  index-pushed = let n = length-append rows new in IsIndex-wider code code' (length rows) (length rows') handles links (λ r l. code_at-old d rows places a new m r l) (omega (arith, n)) i

  pub table-pushed : (cells : List ℕ) → IsTable code handles cells → IsTable code' handles cells
  table-pushed cells t = IsTable-wider code code' handles cells (λ n h. code_at-old d rows places a new m n (handle-lt_rows code (length rows) handles i.distinct n h)) t

  module _ (handles' links' cells' : List ℕ) (l : IsLinked code' (length rows') (length new) handles links handles' links' cells') where
    count : length rows' ≡ length rows + length new
    count = length-append rows new

    whole' : length links' ≡ length rows'
    whole' = let n = l.longer in omega (arith, n, whole, count)

    some : 0 < length new
    some = m.machine.least

    row_is : (j : ℕ) → j < length new → IsCode d (row_term new j) (row_code d new j)
    row_is j k = IsCode-row_code d new m.machine m.small m.unlike j k

    first-lt : length rows < length links'
    first-lt = omega (arith, whole', count, some)

    code-node : code' (get_or links' (length rows) 0) ≡ row_code d new 0
    code-node =
        let z : length rows + 0 ≡ length rows = omega arith in
        l.index.linked (length rows) first-lt ∙ ap code' (sym z) ∙ code_at-new d rows places a new m 0 some

    section_of : (t : Term) → IsAlike (row_term new 0) t → (j : ℕ) → j < length new → (w : List ℕ) × IsWord d w × IsCode d (Section t w) (row_code d new j)
    section_of t e j k =
        let r = m.reached j k in
        let n = length-states_of new in
        let P : ℕ → Type 0 = λ s. IsAlike (Section (row_term new 0) r.0) (row_term new s) in
        let at = subst P r.2 (section_state d (states_of new) 0 r.0 (IsAutomaton-states_of d new m.machine) (omega (arith, n, some)) r.1) in
        (r.0, r.1, IsCode-alike d (row_term new j) (Section t r.0) (row_code d new j) (alike_trans (alike_sym at) (alike_section r.0 e)) (row_is j k))

    pub entered : IsEntered d rows places handles new rows' places' handles' links' cells' (get_or links' (length rows) 0)
    entered = record {
      count = count;
      index = l.index;
      table = l.table;
      whole = whole';
      handle = λ t c e. record {
        term = c;
        code = row_code d new 0;
        is_code = IsCode-alike d (row_term new 0) t (row_code d new 0) e (row_is 0 some);
        at = known_from code' handles' (get_or links' (length rows) 0) (row_code d new 0) (l.index.is_handle (length rows) first-lt) code-node;
      };
      grows = λ t c e. record {
        keeps = λ n q p.
            let k = known_is code handles n q p in
            let w = handle-lt_rows code (length rows) handles i.distinct n k.0 in
            known_from code' handles' n q (l.keeps n k.0) (code_at-old d rows places a new m n w ∙ k.1);
        only = λ n q p.
            let k = known_is code' handles' n q p in
            elim (l.only n k.0) [
              | inl o ↦
                  let w = handle-lt_rows code (length rows) handles i.distinct n o in
                  inl (known_from code handles n q o (sym (code_at-old d rows places a new m n w) ∙ k.1))
              | inr o ↦
                  let j = n - length rows in
                  let z : length rows + j ≡ n = omega (arith, o.0, whole) in
                  let jl : j < length new = omega (arith, o.0, o.1, whole) in
                  let s = section_of t e j jl in
                  let is : row_code d new j ≡ q = sym (code_at-new d rows places a new m j jl) ∙ ap code' z ∙ k.1 in
                  let P : List ℕ → Type 0 = λ c. IsCode d (Section t s.0) c in
                  inr (inl (s.0, s.1, subst P is s.2))
            ];
      };
    }
