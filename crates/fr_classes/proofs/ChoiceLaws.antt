-- Chosen rows of classes.
use Rattle.std.proofs.Common.{ℕ, ◌≡◌, ◌+◌, ◌<◌, ◌≤◌, inl, inr, List, length, set, get_or, replicate, sym, ◌∙◌, ap, arith}
use Rattle.std.specs.List.{All}
use Rattle.std.proofs.lemmas.List.{get_or-set_same, get_or-set_other, length-set, length-replicate}
use Rattle.std.proofs.lemmas.List.Elements.{All-get_or}
use Rattle.std.proofs.lemmas.Bool.{cases_lt, cases_eq}
use Rattle.fr_classes.specs.Choices.{IsChoice, chosen_of}

-- the first rows have their choice
pub record IsChoicePart (of chosen : List ℕ) (i : ℕ) : Type 0 where
  pub size : length chosen ≡ length of
  pub own : (s : ℕ) → s < i → (chosen_of of chosen s < length of) × (get_or of (chosen_of of chosen s) 0 ≡ get_or of s 0)

pub IsChoicePart-start : (of chosen : List ℕ) → chosen ≡ replicate (length of) 0 → IsChoicePart of chosen 0
IsChoicePart-start of chosen e = record { size = ap length e ∙ length-replicate {A = ℕ} (length of) 0; own = λ s l. absurd (omega arith) }

pub IsChoicePart-more : (of chosen chosen' : List ℕ) (i : ℕ) → IsChoicePart of chosen i → i < length of → All (λ c. c < length of) of → chosen' ≡ set chosen (get_or of i 0) i → IsChoicePart of chosen' (i + 1)
IsChoicePart-more of chosen chosen' i h l below e =
    let c = get_or of i 0 in
    let lt : c < length of = All-get_or (λ c. c < length of) of i 0 l below in
    let here : get_or chosen' c 0 ≡ i = ap (λ xs. get_or xs c 0) e ∙ get_or-set_same chosen c i 0 (omega (arith, h.size)) in
    record {
      size = ap length e ∙ length-set chosen c i ∙ h.size;
      own = λ s m. elim (cases_eq (get_or of s 0) c) [
        | inl t ↦
            let at : chosen_of of chosen' s ≡ i = ap (λ j. get_or chosen' j 0) t ∙ here in
            (omega (arith, at), ap (λ j. get_or of j 0) at ∙ sym t)
        | inr t ↦
            let at : chosen_of of chosen' s ≡ chosen_of of chosen s = ap (λ xs. get_or xs (get_or of s 0) 0) e ∙ get_or-set_other chosen c (get_or of s 0) i 0 t in
            elim (cases_lt s i) [
              | inl k ↦ let o = h.own s k in (omega (arith, at, o.0), ap (λ j. get_or of j 0) at ∙ o.1)
              | inr k ↦ let same : s ≡ i = omega arith in absurd (t (ap (λ j. get_or of j 0) same))
            ]
      ];
    }

pub IsChoice-from : (of chosen : List ℕ) (i : ℕ) → IsChoicePart of chosen i → length of ≤ i → All (λ c. c < length of) of → IsChoice of chosen
IsChoice-from of chosen i h l below = record {
  size = h.size;
  own = λ s m. let o = h.own s (omega arith) in (omega (arith, All-get_or (λ c. c < length of) of s 0 m below, h.size), o.0, o.1);
}
