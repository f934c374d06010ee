-- The codes of rows in blocks.
use Rattle.std.proofs.Common.{ℕ, inl, inr, ◌++◌, replicate, ◌≡◌, ◌+◌, ◌*◌, ◌-◌, ◌<◌, ◌≤◌, List, length, take, drop, get_or, sym, ◌∙◌, ap, subst, arith}
use Rattle.std.proofs.lemmas.List.{length-drop, length-take-le, get_or_default, length-append, get_or_append_left, get_or-append_right, get_or-replicate, length-replicate, drop-append-le, take-append-le, take_all}
use Rattle.std.proofs.lemmas.Bool.{cases_lt}
use Rattle.std.proofs.Math.Seq.{drop-append_seam}
use Rattle.fr_model.specs.Terms.{Term, IsAlike}
use Rattle.fr_model.specs.Canonical.{IsCode}
use Rattle.fr_model.proofs.AlikeLaws.{alike_refl}
use Rattle.fr_machine.specs.declared.row.Row.{Row}
use Rattle.fr_machine.specs.Rows.{row_term, IsMachine}
use Rattle.fr_machine.specs.Minimal.{AreUnlike, IsMinimal}
use Rattle.fr_store.specs.declared.blocks.Place.{Place}
use Rattle.fr_canon.specs.Walked.{row_code}
use Rattle.fr_store.specs.Blocks.{place_at, block, code_at, element_at, IsPlaced, AreBlocks}
use Rattle.fr_canon.proofs.WalkedLaws.{IsCode-row_code, length-row_code}

pub length-block : (d : ℕ) (rows : List Row) (places : List Place) (r : ℕ) (p : Place) → IsPlaced d rows places r p → length (block rows p) ≡ p.size
length-block d rows places r p h = length-take-le p.size (drop p.start rows) (let n = length-drop p.start rows in omega (arith, n, h.within))

-- the code of a row is that of its element
pub IsCode-code_at : (d : ℕ) (rows : List Row) (places : List Place) (r : ℕ) → IsPlaced d rows places r (place_at places r) → IsCode d (row_term (block rows (place_at places r)) (r - (place_at places r).start)) (code_at d rows places r)
unfolding code_at
IsCode-code_at d rows places r h =
    let n = length-block d rows places r (place_at places r) h in
    IsCode-row_code d (block rows (place_at places r)) h.machine (omega (arith, n, h.small)) h.unlike (r - (place_at places r).start) (omega (arith, n, h.starts, h.inside))

pub length-code_at : (d : ℕ) (rows : List Row) (places : List Place) (r : ℕ) → IsPlaced d rows places r (place_at places r) → length (code_at d rows places r) ≤ (d + 1) * 1024
unfolding code_at
length-code_at d rows places r h =
    let n = length-block d rows places r (place_at places r) h in
    length-row_code d (block rows (place_at places r)) h.machine (omega (arith, n, h.small)) h.unlike (r - (place_at places r).start) (omega (arith, n, h.starts, h.inside))

-- a code that is the only one of the row
pub code_at-only : (d : ℕ) (rows : List Row) (places : List Place) (r : ℕ) (shown : List Row) (s : ℕ) (out : List ℕ) → IsPlaced d rows places r (place_at places r) → shown ≡ block rows (place_at places r) → s ≡ r - (place_at places r).start
    → ((t : Term) (code : List ℕ) → IsAlike (row_term shown s) t → IsCode d t code → code ≡ out) → out ≡ code_at d rows places r
code_at-only d rows places r shown s out h e f only =
    let P : List Row → Type 0 = λ rs. IsAlike (row_term rs s) (row_term (block rows (place_at places r)) (r - (place_at places r).start)) in
    let Q : ℕ → Type 0 = λ i. IsAlike (row_term (block rows (place_at places r)) i) (row_term (block rows (place_at places r)) (r - (place_at places r).start)) in
    let same = subst P (sym e) (subst Q (sym f) (alike_refl (row_term (block rows (place_at places r)) (r - (place_at places r).start)))) in
    sym (only (row_term (block rows (place_at places r)) (r - (place_at places r).start)) (code_at d rows places r) same (IsCode-code_at d rows places r h))

pub read_place : (d : ℕ) (rows : List Row) (places : List Place) (r : ℕ) (p : Place) → AreBlocks d rows places → r < length rows → p ≡ get_or places r p → p ≡ place_at places r
read_place d rows places r p a l e = e ∙ get_or_default places r p (record { start = 0; size = 0 }) (let n = a.as_many in omega (arith, n, l))

-- a row in what is shown of its block
pub element_is : (rows : List Row) (places : List Place) (r : ℕ) (shown : List Row) (p : Place) → shown ≡ block rows (place_at places r) → p ≡ place_at places r → row_term shown (r - p.start) ≡ element_at rows places r
element_is rows places r shown p e f = ap (λ rs. row_term rs (r - p.start)) e ∙ ap (λ (q : Place). row_term (block rows (place_at places r)) (r - q.start)) f

-- ---- a block more
module _ (d : ℕ) (rows : List Row) (places : List Place) (a : AreBlocks d rows places) (new : List Row) (m : IsMinimal d new) where
  abbrev p : Place
  p = record { start = length rows; size = length new }

  abbrev rows' : List Row
  rows' = rows ++ new

  abbrev places' : List Place
  places' = places ++ replicate (length new) p

  length-rows' : length rows' ≡ length rows + length new
  length-rows' = length-append rows new

  place-old : (r : ℕ) → r < length rows → place_at places' r ≡ place_at places r
  place-old r l = get_or_append_left places (replicate (length new) p) (record { start = 0; size = 0 }) r (let n = a.as_many in omega (arith, n, l))

  place-new : (i : ℕ) → i < length new → place_at places' (length rows + i) ≡ p
  place-new i l =
      let n = a.as_many in
      let z : length rows + i - length rows ≡ i = omega arith in
      get_or-append_right places (replicate (length new) p) (length rows) (length rows + i) (record { start = 0; size = 0 }) n (omega arith)
      ∙ ap (λ k. get_or (replicate (length new) p) k (record { start = 0; size = 0 })) z ∙ get_or-replicate (length new) i p (record { start = 0; size = 0 }) l

  block-old : (q : Place) → q.start + q.size ≤ length rows → block rows' q ≡ block rows q
  block-old q l =
      ap (take q.size) (drop-append-le q.start rows new (omega (arith, l)))
      ∙ take-append-le q.size (drop q.start rows) new (let n = length-drop q.start rows in omega (arith, n, l))

  block-new : block rows' p ≡ new
  block-new = ap (take (length new)) (drop-append_seam rows new) ∙ take_all (length new) new (omega arith)

  IsPlaced-old : (r : ℕ) → r < length rows → IsPlaced d rows' places' r (place_at places' r)
  IsPlaced-old r l =
      let h = a.placed r l in
      let q = place_at places r in
      let P : Place → Type 0 = λ z. IsPlaced d rows' places' r z in
      let M : List Row → Type 0 = λ rs. IsMachine d rs in
      subst P (sym (place-old r l)) (record {
        starts = h.starts;
        inside = h.inside;
        within = omega (arith, h.within, length-rows');
        small = h.small;
        machine = subst M (sym (block-old q h.within)) h.machine;
        unlike = subst AreUnlike (sym (block-old q h.within)) h.unlike;
        shared = λ i k. place-old (q.start + i) (omega (arith, k, h.within)) ∙ h.shared i k;
      })

  IsPlaced-new : (i : ℕ) → i < length new → IsPlaced d rows' places' (length rows + i) (place_at places' (length rows + i))
  IsPlaced-new i l =
      let P : Place → Type 0 = λ z. IsPlaced d rows' places' (length rows + i) z in
      let M : List Row → Type 0 = λ rs. IsMachine d rs in
      subst P (sym (place-new i l)) (record {
        starts = omega arith;
        inside = omega (arith, l);
        within = omega (arith, length-rows');
        small = m.small;
        machine = subst M (sym block-new) m.machine;
        unlike = subst AreUnlike (sym block-new) m.unlike;
        shared = λ k t. place-new k t;
      })

  pub AreBlocks-push : AreBlocks d rows' places'
  AreBlocks-push = record {
    as_many = length-append places (replicate (length new) p) ∙ (let n = a.as_many in let r = length-replicate (length new) p in omega (arith, n, r, length-rows'));
    placed = λ r l. elim (cases_lt r (length rows)) [
      | inl t ↦ IsPlaced-old r t
      | inr t ↦ (let e : length rows + (r - length rows) ≡ r = omega (arith, t) in let P : ℕ → Type 0 = λ k. IsPlaced d rows' places' k (place_at places' k) in subst P e (IsPlaced-new (r - length rows) (omega (arith, l, t, length-rows'))))
    ];
  }

  pub code_at-old : (r : ℕ) → r < length rows → code_at d rows' places' r ≡ code_at d rows places r
  unfolding code_at
  code_at-old r l =
      let e = place-old r l in
      ap (λ (q : Place). row_code d (block rows' q) (r - q.start)) e ∙ ap (λ b. row_code d b (r - (place_at places r).start)) (block-old (place_at places r) (a.placed r l).within)

  pub code_at-new : (i : ℕ) → i < length new → code_at d rows' places' (length rows + i) ≡ row_code d new i
  unfolding code_at
  code_at-new i l =
      let z : length rows + i - length rows ≡ i = omega arith in
      ap (λ (q : Place). row_code d (block rows' q) (length rows + i - q.start)) (place-new i l) ∙ ap (λ b. row_code d b (length rows + i - length rows)) block-new ∙ ap (row_code d new) z

  pub element_at-old : (r : ℕ) → r < length rows → element_at rows' places' r ≡ element_at rows places r
  element_at-old r l =
      let e = place-old r l in
      ap (λ (q : Place). row_term (block rows' q) (r - q.start)) e ∙ ap (λ b. row_term b (r - (place_at places r).start)) (block-old (place_at places r) (a.placed r l).within)

  pub element_at-new : (i : ℕ) → i < length new → element_at rows' places' (length rows + i) ≡ row_term new i
  element_at-new i l =
      let z : length rows + i - length rows ≡ i = omega arith in
      ap (λ (q : Place). row_term (block rows' q) (length rows + i - q.start)) (place-new i l) ∙ ap (λ b. row_term b (length rows + i - length rows)) block-new ∙ ap (row_term new) z
