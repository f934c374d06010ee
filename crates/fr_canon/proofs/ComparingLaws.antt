-- A code that is compared with that of a row, state by state.
use Rattle.std.proofs.Common.{ℕ, zero, suc, ◌≡◌, ◌≢◌, ◌+◌, ◌*◌, ◌<◌, ◌≤◌, List, [], ◌∷◌, ◌++◌, length, map, take, drop, get_or, refl, sym, ◌∙◌, ap, subst, arith, append_assoc}
use Rattle.std.proofs.lemmas.List.{length-take-le, length-take, length-drop, take_all, append-nil, get_or-take, get_or-drop, get_or-map, ext_get_or}
use Rattle.std.proofs.Math.Seq.{take-add, take-append_seam, drop-append_seam}
use Rattle.fr_model.specs.Automata.{State, next_state}
use Rattle.fr_model.specs.Canonical.{IsCode, code_of}
use Rattle.fr_model.specs.Ranks.{rank}
use Rattle.fr_model.proofs.AlikeLaws.{alike_refl}
use Rattle.fr_model.proofs.CodeLaws.{code-same}
use Rattle.fr_machine.specs.declared.row.Row.{Row}
use Rattle.fr_machine.specs.Rows.{state_of, states_of, row_term, IsMachine}
use Rattle.fr_machine.specs.Minimal.{AreUnlike}
use Rattle.fr_machine.specs.Walks.{WalkView, IsKeys}
use Rattle.fr_canon.specs.Listings.{row_output, IsKeyListed, IsListed}
use Rattle.fr_canon.proofs.ListingLaws.{IsWritten, IsWritten-start, IsWritten-more, IsCode-listed, length-code_of_one}
use Rattle.fr_canon.proofs.WalkedLaws.{IsWritten-begins}

-- a walk whose first states have the begin of the code
pub record IsRead (d bound : ℕ) (step : ℕ → ℕ → ℕ) (output : ℕ → List ℕ) (start : ℕ) (keys : List ℕ) (j : ℕ) (code : List ℕ) : Type 0 where
  pub begin : IsWritten d bound step output start keys j (take ((d + 1) * j) code)
  pub within : (d + 1) * j ≤ length code

-- ---- a part of a code, and the state of a row
part-fits : (start n : ℕ) (code part : List ℕ) → 0 < n → length part ≡ n → take n (drop start code) ≡ part → start + n ≤ length code
part-fits start n code part some l e = omega (arith, ap length e, l, length-take n (drop start code), length-drop start code)

part_at : (start n i : ℕ) (code : List ℕ) → i < n → get_or (take n (drop start code)) i 0 ≡ get_or code (start + i) 0
part_at start n i code l = get_or-take n (drop start code) i 0 l ∙ get_or-drop start code i 0

module _ (d start : ℕ) (code : List ℕ) (r : Row) (degree : length r.perm ≡ d) (width : length r.next ≡ 8) (few : d ≤ 8) where
  abbrev own : List ℕ
  own = code_of (state_of r ∷ [])

  abbrev part : List ℕ
  part = take (d + 1) (drop start code)

  arity : length (state_of r).next ≡ d
  arity = length-take-le (length r.perm) r.next (omega (arith, degree, width, few)) ∙ degree

  pub length-own : length own ≡ d + 1
  length-own = length-code_of_one d (state_of r) arity

  own_is : own ≡ rank r.perm ∷ map suc (state_of r).next
  own_is = append-nil (rank r.perm ∷ map suc (state_of r).next)

  own_at : (x : ℕ) → x < d → get_or own (suc x) 0 ≡ get_or r.next x 0 + 1
  own_at x l =
      ap (λ xs. get_or xs (suc x) 0) own_is ∙ get_or-map suc (state_of r).next x 0 0 (omega (arith, l, arity)) ∙ ap suc (get_or-take (length r.perm) r.next x 0 (omega (arith, l, degree))) ∙ omega arith

  pub short_part : length code ≤ start + d → part ≢ own
  short_part l e = omega (arith, l, part-fits start (d + 1) code own (omega arith) length-own e)

  pub other_rank : get_or code start 0 ≢ rank r.perm → part ≢ own
  other_rank n e =
      let z : start + 0 ≡ start = omega arith in
      n (ap (λ i. get_or code i 0) (sym z) ∙ sym (part_at start (d + 1) 0 code (omega arith)) ∙ ap (λ xs. get_or xs 0 0) (e ∙ own_is))

  pub other_next : (x : ℕ) → x < d → get_or code (start + x + 1) 0 ≢ get_or r.next x 0 + 1 → part ≢ own
  other_next x l n e =
      let z : start + suc x ≡ start + x + 1 = omega arith in
      n (ap (λ i. get_or code i 0) (sym z) ∙ sym (part_at start (d + 1) (suc x) code (omega (arith, l))) ∙ ap (λ xs. get_or xs (suc x) 0) e ∙ own_at x l)

  pub same_part : start + d < length code → get_or code start 0 ≡ rank r.perm → ((x : ℕ) → x < d → get_or code (start + x + 1) 0 ≡ get_or r.next x 0 + 1) → part ≡ own
  same_part l first nexts =
      let size : length part ≡ d + 1 = length-take-le (d + 1) (drop start code) (omega (arith, l, length-drop start code)) in
      ext_get_or 0 part own (size ∙ sym length-own) (λ i k. part_at start (d + 1) i code (omega (arith, k, size)) ∙ at i (omega (arith, k, size)))
    where
      at : (i : ℕ) → i < d + 1 → get_or code (start + i) 0 ≡ get_or own i 0
      at zero k = (let z : start + 0 ≡ start = omega arith in ap (λ i. get_or code i 0) z ∙ first ∙ ap (λ xs. get_or xs 0 0) (sym own_is))
      at (suc x) k = (let z : start + suc x ≡ start + x + 1 = omega arith in ap (λ i. get_or code i 0) z ∙ nexts x (omega (arith, k)) ∙ sym (own_at x (omega (arith, k))))

more_start : (d j : ℕ) → (d + 1) * (j + 1) ≡ (d + 1) * j + (d + 1)
more_start d j = grind arith

module _ (d : ℕ) (rows : List Row) (m : IsMachine d rows) (few : length rows ≤ 1024) (others : AreUnlike rows) (s : ℕ) (sl : s < length rows) where
  abbrev step : ℕ → ℕ → ℕ
  step = next_state (states_of rows)

  abbrev output : ℕ → List ℕ
  output = row_output (states_of rows)

  abbrev Read : List ℕ → ℕ → List ℕ → Type 0
  Read keys j code = IsRead d (length rows) step output s keys j code

  pub IsRead-start : (keys code : List ℕ) → keys ≡ s ∷ [] → Read keys 0 code
  IsRead-start keys code e =
      let none : (d + 1) * 0 ≡ 0 = omega arith in
      let P : ℕ → Type 0 = λ n. IsWritten d (length rows) step output s keys 0 (take n code) in
      record { begin = subst P (sym none) (IsWritten-start d (length rows) step output s keys [] sl e refl); within = omega (arith, none) }

  module _ (w w' : WalkView) (j key start : ℕ) (q : State) (code : List ℕ) (h : Read w.keys j code) (l : j < length w.keys) (e : key ≡ get_or w.keys j 0) (k : IsKeyListed d (length rows) step output w w' key q) (f : start ≡ j * (d + 1)) where
    place : start ≡ (d + 1) * j
    place = f ∙ grind arith

    pub IsRead-more : take (d + 1) (drop start code) ≡ code_of (q ∷ []) → Read w'.keys (j + 1) code
    IsRead-more same =
        let n = length-code_of_one d q k.is.arity in
        let fits = part-fits start (d + 1) code (code_of (q ∷ [])) (omega arith) n same in
        let cut : take ((d + 1) * (j + 1)) code ≡ take ((d + 1) * j) code ++ code_of (q ∷ []) =
        ap (λ i. take i code) (more_start d j) ∙ take-add ((d + 1) * j) (d + 1) code ∙ ap (λ i. take ((d + 1) * j) code ++ take (d + 1) (drop i code)) (sym place) ∙ ap (λ t. take ((d + 1) * j) code ++ t) same in
        record {
          begin = IsWritten-more d (length rows) step output s w w' j key q (take ((d + 1) * j) code) (take ((d + 1) * (j + 1)) code) h.begin l e k cut;
          within = omega (arith, more_start d j, fits, place);
        }

    -- the state is none of the code
    pub not-IsCode : IsKeys 1024 w'.keys → take (d + 1) (drop start code) ≢ code_of (q ∷ []) → ¬ IsCode d (row_term rows s) code
    not-IsCode keyed differs is =
        let old = take ((d + 1) * j) code in
        let part = code_of (q ∷ []) in
        let whole = IsWritten-begins d rows m few others s sl w'.keys (j + 1) (old ++ part) (IsWritten-more d (length rows) step output s w w' j key q old (old ++ part) h.begin l e k refl) keyed in
        let same : code ≡ (old ++ part) ++ whole.0 = code-same d (row_term rows s) (row_term rows s) code ((old ++ part) ++ whole.0) is whole.1 (alike_refl (row_term rows s)) in
        let at : start ≡ length old = place ∙ sym h.begin.size in
        let rest : drop start code ≡ part ++ whole.0 = ap (λ c. drop start c) (same ∙ append_assoc old part whole.0) ∙ ap (λ i. drop i (old ++ (part ++ whole.0))) at ∙ drop-append_seam old (part ++ whole.0) in
        let n : d + 1 ≡ length part = sym (length-code_of_one d q k.is.arity) in
        differs (ap (take (d + 1)) rest ∙ ap (λ i. take i (part ++ whole.0)) n ∙ take-append_seam part whole.0)

  -- all states of the row are read
  module _ (keys : List ℕ) (j : ℕ) (code : List ℕ) (h : Read keys j code) (keyed : IsKeys 1024 keys) (all : length keys ≤ j) where
    begins : IsCode d (row_term rows s) (take ((d + 1) * j) code)
    begins =
        let e : j ≡ length keys = omega (arith, all, h.begin.listed.done) in
        let P : ℕ → Type 0 = λ i. IsListed d (length rows) step output s keys i h.begin.states in
        IsCode-listed d rows m others s sl keys h.begin.states (subst P e h.begin.listed) keyed (take ((d + 1) * j) code) h.begin.written

    flip : j * (d + 1) ≡ (d + 1) * j
    flip = grind arith

    pub IsCode-read : length code ≡ j * (d + 1) → IsCode d (row_term rows s) code
    IsCode-read n = subst (IsCode d (row_term rows s)) (take_all ((d + 1) * j) code (omega (arith, n, flip))) begins

    pub length-IsCode : IsCode d (row_term rows s) code → length code ≡ j * (d + 1)
    length-IsCode is = ap length (code-same d (row_term rows s) (row_term rows s) code (take ((d + 1) * j) code) is begins (alike_refl (row_term rows s))) ∙ h.begin.size ∙ sym flip
