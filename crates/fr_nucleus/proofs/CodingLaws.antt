-- The codes of the rows of a machine.
use Rattle.std.proofs.Common.{ℕ, ◌≡◌, ◌+◌, ◌*◌, ◌/◌, inl, inr, List, [], ◌∷◌, ◌++◌, length, get_or, sym, ◌∙◌, ap, subst, arith}
use Rattle.std.proofs.lemmas.Bool.{cases_lt}
use Rattle.std.proofs.lemmas.List.{length_push, get_or_append_left, get_or_push}
use Rattle.fr_model.specs.Canonical.{IsCode}
use Rattle.fr_machine.specs.declared.row.Row.{Row}
use Rattle.fr_machine.specs.Rows.{row_term}
use Rattle.fr_canon.proofs.PrintLaws.{code_of-length, count_is}
use Rattle.fr_nucleus.specs.declared.coding.Listed.{Listed}
use Rattle.fr_nucleus.specs.Coding.{IsListed, AreListed}

pub IsListed-of : (d : ℕ) (rows : List Row) (s : ℕ) (item : Listed) (code : List ℕ) (width : ℕ) → item.row ≡ s → IsCode d (row_term rows s) code → item.code.items ≡ code → width ≡ d + 1 → item.size ≡ length code / width → IsListed d rows s item
IsListed-of d rows s item code width r c e w z =
    let n : length code / (d + 1) ≡ length c.states = count_is d c.states code c.canonical.automaton c.written in
    let size : item.size ≡ length c.states = z ∙ ap (λ k. length code / k) w ∙ n in
    record {
      of_row = r;
      code = subst (IsCode d (row_term rows s)) (sym e) c;
      length_code = ap length e ∙ ap length c.written ∙ code_of-length d c.states (length c.states) c.canonical.automaton ∙ ap (λ k. k * (d + 1)) (sym size);
    }

pub AreListed-more : (d : ℕ) (rows : List Row) (items items' : List Listed) (item : Listed) (s : ℕ) → AreListed d rows items s → IsListed d rows s item → items' ≡ items ++ item ∷ [] → AreListed d rows items' (s + 1)
AreListed-more d rows items items' item s h i e = record {
  count = omega (arith, ap length e, length_push items item, h.count);
  each = λ k z l. elim (cases_lt k s) [
    | inl t ↦ rw (ap (λ xs. get_or xs k z) e ∙ get_or_append_left items (item ∷ []) z k (omega (arith, h.count))) (h.each k z t)
    | inr t ↦
        let at : k ≡ s = omega arith in
        let new : get_or items' k z ≡ item = ap (λ xs. get_or xs k z) e ∙ get_or_push items item z k (omega (arith, h.count, at)) in
        rw (new, at) i
  ];
}
