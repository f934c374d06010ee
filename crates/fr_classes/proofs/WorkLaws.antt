-- The rows that go to their classes, in some order and each with its signature.
use Rattle.std.proofs.Common.{ℕ, ◌≡◌, ◌<◌, List, length, get_or, sym, ◌∙◌, ap, subst, arith}
use Rattle.std.specs.List.{All, Contains}
use Rattle.std.proofs.lemmas.List.{get_or_default, get_or-map, length-map}
use Rattle.std.proofs.lemmas.List.Elements.{All-get_or, All-contains_itself}
use Rattle.fr_machine.specs.declared.row.Row.{Row}
use Rattle.fr_classes.specs.declared.signature.Signed.{Signed}
use Rattle.fr_classes.specs.Refinement.{signature_at, signed_rows}

-- the rows in some order, each with its signature
pub record IsOrder (rows : List Row) (of todo : List ℕ) (order : List Signed) : Type 0 where
  pub inside : All (Contains (signed_rows rows of todo)) order
  pub whole : All (Contains order) (signed_rows rows of todo)

abbrev pub sign : List Row → List ℕ → ℕ → Signed
sign rows of s = record { class = get_or of s 0; signature = signature_at rows of s; row = s }

pub order_at : (rows : List Row) (of todo : List ℕ) (order : List Signed) (i n : ℕ) (d : Signed) → IsOrder rows of todo order → All (λ s. s < n) todo → i < length order → ((get_or order i d).row < n) × ((get_or order i d).signature ≡ signature_at rows of (get_or order i d).row)
order_at rows of todo order i n d h a l =
    let w = h.inside i d l in
    let lt : w.0 < length todo = omega (arith, w.1, length-map todo (sign rows of)) in
    let at : sign rows of (get_or todo w.0 0) ≡ get_or order i d = sym (get_or-map (sign rows of) todo w.0 0 (get_or order i d) lt) ∙ w.2 in
    let row : get_or todo w.0 0 ≡ (get_or order i d).row = ap (λ x. x.row) at in
    (omega (arith, row, All-get_or (λ s. s < n) todo w.0 0 lt a), sym (ap (λ x. x.signature) at) ∙ ap (signature_at rows of) row)

pub order_has : (rows : List Row) (of todo : List ℕ) (order : List Signed) (s : ℕ) (d : Signed) → IsOrder rows of todo order → Contains todo s → (k : ℕ) × (k < length order) × ((get_or order k d).row ≡ s)
order_has rows of todo order s d h c =
    let lt : c.0 < length (signed_rows rows of todo) = omega (arith, c.1, length-map todo (sign rows of)) in
    let item = get_or (signed_rows rows of todo) c.0 d in
    let w = h.whole c.0 d lt in
    let at : item ≡ sign rows of s = get_or-map (sign rows of) todo c.0 s d c.1 ∙ ap (sign rows of) c.2 in
    (w.0, w.1, ap (λ x. x.row) (get_or_default order w.0 d item w.1 ∙ w.2 ∙ at))

pub order_from : (rows : List Row) (of of' todo : List ℕ) (work order : List Signed) → work ≡ signed_rows rows of' todo → of' ≡ of → order ≡ work → IsOrder rows of todo order
order_from rows of of' todo work order e f g =
    let h : order ≡ signed_rows rows of todo = g ∙ e ∙ ap (λ xs. signed_rows rows xs todo) f in
    let R : List Signed → Type 0 = λ xs. IsOrder rows of todo xs in
    let o : IsOrder rows of todo (signed_rows rows of todo) = record { inside = All-contains_itself (signed_rows rows of todo); whole = All-contains_itself (signed_rows rows of todo) } in
    subst R (sym h) o
