-- Cycles no two of which have a letter in common send each number to where their product sends it.
use Rattle.std.proofs.Common.{◌≡◌, ◌==◌, ℕ, false, inl, inr, List, [], ◌∷◌, Some, None, refl, ap, sym, ◌∙◌, get_or}
use Rattle.std.specs.Prelude.{unwrap_or}
use Rattle.std.proofs.lemmas.Bool.{eq-eqb, ne_eqb, cases_eq, cases_Bool}
use Rattle.std.proofs.lemmas.List.Folds.{list_any-append}
use Rattle.fr_alphabet.specs.Cycles.{next_in, cycle_image, cycles_image}
use Rattle.fr_script.specs.Cycles.{letter_after, next_in_cycle, disjoint_cycles_image, cycles_letters, has_repeat}
use Rattle.fr_script.proofs.CycleLaws.{has, clash, or-none, repeat-parts, after-has, next-target, image-some, image-none, next-cases}

after-next : (first x : ℕ) (ys : List ℕ) → unwrap_or (letter_after first ys x) x ≡ next_in first ys x
after-next first x [] = refl
after-next first x (y ∷ []) = elim (cases_eq y x) [
  | inl e ↦ rw (eq-eqb y x e, eq-eqb x y (sym e)) refl
  | inr ne ↦ rw (ne_eqb y x ne, ne_eqb x y (λ e. ne (sym e))) refl
]
after-next first x (y ∷ z ∷ more) = elim (cases_eq y x) [
  | inl e ↦ rw (eq-eqb y x e, eq-eqb x y (sym e)) refl
  | inr ne ↦ rw (ne_eqb y x ne, ne_eqb x y (λ e. ne (sym e))) (after-next first x (z ∷ more))
]

-- one cycle sends a number to the next letter, where it has one
next-image : (cycle : List ℕ) (x : ℕ) → unwrap_or (next_in_cycle cycle x) x ≡ cycle_image cycle x
next-image [] x = refl
next-image (y ∷ ys) x = after-next y x (y ∷ ys)

cycle-some : (cycle : List ℕ) (x z : ℕ) → next_in_cycle cycle x ≡ Some z → cycle_image cycle x ≡ z
cycle-some cycle x z h = sym (next-image cycle x) ∙ ap (λ o. unwrap_or o x) h

cycle-none : (cycle : List ℕ) (x : ℕ) → next_in_cycle cycle x ≡ None → cycle_image cycle x ≡ x
cycle-none cycle x h = sym (next-image cycle x) ∙ ap (λ o. unwrap_or o x) h

-- a number that is in no cycle stays
product-outside : (cycles : List (List ℕ)) (x : ℕ) → has x (cycles_letters cycles) ≡ false → cycles_image cycles x ≡ x
product-outside [] x h = refl
product-outside (cycle ∷ cycles) x h =
    let both = or-none (has x cycle) (has x (cycles_letters cycles)) (sym (list_any-append (λ y. y == x) cycle (cycles_letters cycles)) ∙ h) in
    let here : cycle_image cycle x ≡ x = elim (next-cases cycle x) [
      | inl k ↦ absurd (clash (after-has (get_or cycle 0 0) x k.0 cycle k.1) both.0)
      | inr n ↦ cycle-none cycle x n
    ] in
    ap (cycles_image cycles) here ∙ product-outside cycles x both.1

pub same-images : (cycles : List (List ℕ)) (x : ℕ) → has_repeat (cycles_letters cycles) ≡ false → disjoint_cycles_image cycles x ≡ cycles_image cycles x
same-images [] x r = refl
same-images (cycle ∷ cycles) x r =
    let parts = repeat-parts cycle (cycles_letters cycles) r in
    elim (next-cases cycle x) [
      | inl k ↦
          let outside : has k.0 (cycles_letters cycles) ≡ false = elim (cases_Bool (has k.0 (cycles_letters cycles))) [
            | inl t ↦ absurd (parts.2 k.0 (next-target x k.0 cycle k.1) t)
            | inr n ↦ n
          ] in
          image-some cycle cycles x k.0 k.1 ∙ sym (ap (cycles_image cycles) (cycle-some cycle x k.0 k.1) ∙ product-outside cycles k.0 outside)
      | inr n ↦ image-none cycle cycles x n ∙ same-images cycles x parts.1 ∙ sym (ap (cycles_image cycles) (cycle-none cycle x n))
    ]
