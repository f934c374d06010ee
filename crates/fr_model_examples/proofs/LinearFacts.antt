-- s = <s,t> over the adding machine t = <1,t>(1,2): it is of linear growth.
use Rattle.std.proofs.Common.{ℕ, zero, suc, ◌≡◌, ◌<◌, ◌⊎◌, inl, inr, List, [], ◌∷◌, length, refl, sym, ◌∙◌, ap, arith}
use Rattle.fr_model.specs.Words.{IsWord}
use Rattle.fr_model.specs.Terms.{Term, One, Name, Section, IsAlike}
use Rattle.fr_model.specs.Activity.{IsInactive, IsExponentialAt, Link, NoReturn, IsChain, HasDegree}
use Rattle.fr_model.proofs.SystemLaws.{act_product-nil}
use Rattle.fr_model.proofs.AlikeLaws.{alike_sym, alike_trans, alike_section, section_section, section_nil}
use Rattle.fr_model.proofs.GrowthLaws.{section_one}
use Rattle.fr_model_examples.specs.Groups.{linear_growth}
use Rattle.fr_model_examples.specs.GrowthInstances.{LinearGrowthIsLinear}
use Rattle.fr_model_examples.proofs.Letters.{one, two, letter_cases, twos}

abbrev s : Term
s = Name linear_growth 0

abbrev t : Term
t = Name linear_growth 1

ones : ℕ → List ℕ
ones zero = []
ones (suc n) = 1 ∷ ones n

ones_word : (n : ℕ) → IsWord 2 (ones n)
unfolding ones
ones_word zero = tt
ones_word (suc n) = ((omega arith, omega arith), ones_word n)

length-ones : (n : ℕ) → length (ones n) ≡ n
unfolding ones
length-ones zero = refl
length-ones (suc n) = ap suc (length-ones n)

-- ---- sections
s_at_one : IsAlike (Section s (1 ∷ [])) s
s_at_one = record { images = λ w. refl }

s_at_two : IsAlike (Section s (2 ∷ [])) t
s_at_two = record { images = λ w. refl }

t_at_one : IsAlike (Section t (1 ∷ [])) One
t_at_one = record { images = λ w. act_product-nil linear_growth w }

t_at_two : IsAlike (Section t (2 ∷ [])) t
t_at_two = record { images = λ w. refl }

t_moves : ¬ IsAlike t One
t_moves h = let e : ◌≡◌ {A = List ℕ} (2 ∷ []) (1 ∷ []) = h.images (1 ∷ []) in cc

s_moves : ¬ IsAlike s One
s_moves h = let e : ◌≡◌ {A = List ℕ} (2 ∷ 2 ∷ []) (2 ∷ 1 ∷ []) = h.images (2 ∷ 1 ∷ []) in cc

s_not_t : ¬ IsAlike s t
s_not_t h = let e : ◌≡◌ {A = List ℕ} (1 ∷ []) (2 ∷ []) = h.images (1 ∷ []) in cc

-- a section at a letter and the rest of a word
first : {r q : Term} (x : ℕ) (w : List ℕ) → IsAlike (Section r (x ∷ [])) q → IsAlike (Section r (x ∷ w)) (Section q w)
first {r} x w h = alike_trans (alike_sym (section_section r (x ∷ []) w)) (alike_section w h)

t_section : (w : List ℕ) → IsWord 2 w → (IsAlike (Section t w) t × (w ≡ twos (length w))) ⊎ IsAlike (Section t w) One
unfolding twos
t_section [] k = inl (section_nil t, refl)
t_section (x ∷ w) k = elim (letter_cases x k.0) [
  | inl e ↦ inr (rw e (alike_trans (first 1 w t_at_one) (section_one w)))
  | inr e ↦ elim (t_section w k.1) [
    | inl r ↦ inl (rw e (alike_trans (first 2 w t_at_two) r.0), rw (e, ← r.1) refl)
    | inr r ↦ inr (rw e (alike_trans (first 2 w t_at_two) r))
  ]
]

s_section : (w : List ℕ) → IsWord 2 w → (IsAlike (Section s w) s × (w ≡ ones (length w))) ⊎ (IsAlike (Section s w) t ⊎ IsAlike (Section s w) One)
unfolding ones
s_section [] k = inl (section_nil s, refl)
s_section (x ∷ w) k = elim (letter_cases x k.0) [
  | inl e ↦ elim (s_section w k.1) [
    | inl r ↦ inl (rw e (alike_trans (first 1 w s_at_one) r.0), rw (e, ← r.1) refl)
    | inr r ↦ elim r [
      | inl h ↦ inr (inl (rw e (alike_trans (first 1 w s_at_one) h)))
      | inr h ↦ inr (inr (rw e (alike_trans (first 1 w s_at_one) h)))
    ]
  ]
  | inr e ↦ elim (t_section w k.1) [
    | inl r ↦ inr (inl (rw e (alike_trans (first 2 w s_at_two) r.0)))
    | inr r ↦ inr (inr (rw e (alike_trans (first 2 w s_at_two) r)))
  ]
]

s_ones : (n : ℕ) → IsAlike (Section s (ones n)) s
unfolding ones
s_ones zero = section_nil s
s_ones (suc n) = alike_trans (first 1 (ones n) s_at_one) (s_ones n)

-- ---- a section of a term that acts as s or as t
from_s : (h : Term) (w : List ℕ) → IsWord 2 w → IsAlike h s → ¬ IsAlike (Section h w) One → (IsAlike (Section h w) s × (w ≡ ones (length w))) ⊎ IsAlike (Section h w) t
from_s h w k e m = elim (s_section w k) [
  | inl r ↦ inl (alike_trans (alike_section w e) r.0, r.1)
  | inr r ↦ elim r [ inl q ↦ inr (alike_trans (alike_section w e) q) | inr q ↦ absurd (m (alike_trans (alike_section w e) q)) ]
]

from_t : (h : Term) (w : List ℕ) → IsWord 2 w → IsAlike h t → ¬ IsAlike (Section h w) One → IsAlike (Section h w) t × (w ≡ twos (length w))
from_t h w k e m = elim (t_section w k) [
  | inl r ↦ (alike_trans (alike_section w e) r.0, r.1)
  | inr q ↦ absurd (m (alike_trans (alike_section w e) q))
]

-- words that lead back
back_s : (h : Term) (w : List ℕ) → IsWord 2 w → IsAlike h s → IsAlike (Section h w) h → w ≡ ones (length w)
back_s h w k e b = elim (from_s h w k e (λ o. s_moves (alike_trans (alike_sym e) (alike_trans (alike_sym b) o)))) [
  | inl r ↦ r.1
  | inr r ↦ absurd (s_not_t (alike_trans (alike_sym e) (alike_trans (alike_sym b) r)))
]

back_t : (h : Term) (w : List ℕ) → IsWord 2 w → IsAlike h t → IsAlike (Section h w) h → w ≡ twos (length w)
back_t h w k e b = (from_t h w k e (λ o. t_moves (alike_trans (alike_sym e) (alike_trans (alike_sym b) o)))).1

active : (n : ℕ) → ¬ IsInactive 2 n s
active n h = s_moves (alike_trans (alike_sym (s_ones n)) (h (ones n) (ones_word n) (length-ones n)))

not_exponential : (at u v : List ℕ) → ¬ IsExponentialAt 2 s at u v
not_exponential at u v e =
    let h = Section s at in
    elim (from_s s at e.at_valid (record { images = λ w. refl }) e.moved) [
      | inl r ↦ e.differ (back_s h u e.u_valid r.0 e.u_back ∙ ap ones e.one_length ∙ sym (back_s h v e.v_valid r.0 e.v_back))
      | inr r ↦ e.differ (back_t h u e.u_valid r e.u_back ∙ ap twos e.one_length ∙ sym (back_t h v e.v_valid r e.v_back))
    ]

-- from t no chain leads on
no_more : (h : Term) (m : Link) (ms : List Link) → IsAlike h t → NoReturn 2 h (m ∷ ms) → IsChain 2 h (m ∷ ms) → ⊥
no_more h m ms e n c =
    let g = from_t h m.at c.0 e c.3 in
    n [] tt (alike_trans (section_nil (Section h m.at)) (alike_trans g.0 (alike_sym e)))

longest : (ls : List Link) → IsChain 2 s ls → length ls < 3
longest [] c = omega arith
longest (l ∷ []) c = omega arith
longest (l ∷ m ∷ []) c = omega arith
longest (l ∷ m ∷ k ∷ ls) c =
    let g = Section s l.at in
    let h = Section g m.at in
    absurd (elim (from_s s l.at c.0 (record { images = λ w. refl }) c.3) [
      | inr r ↦ no_more g m (k ∷ ls) r c.5 c.6
      | inl r ↦ elim (from_s g m.at c.6.0 r.0 c.6.3) [
        | inl q ↦ c.5 [] tt (alike_trans (section_nil h) (alike_trans q.0 (alike_sym r.0)))
        | inr q ↦ no_more h k ls q c.6.5 c.6.6
      ]
    ])

s_here : IsAlike (Section s []) s
s_here = section_nil s

t_there : IsAlike (Section (Section s []) (2 ∷ [])) t
t_there = alike_trans (alike_section (2 ∷ []) s_here) s_at_two

no_way_back : (v : List ℕ) → IsWord 2 v → ¬ IsAlike (Section (Section (Section s []) (2 ∷ [])) v) (Section s [])
no_way_back v k e =
    let h = alike_trans (alike_sym s_here) (alike_trans (alike_sym e) (alike_section v t_there)) in
    elim (t_section v k) [ inl r ↦ s_not_t (alike_trans h r.0) | inr r ↦ s_moves (alike_trans h r) ]

some : {x : ℕ} → ◌≡◌ {A = List ℕ} (x ∷ []) [] → ⊥
some e = cc

second : IsChain 2 (Section s []) (record { at = 2 ∷ []; back = 2 ∷ [] } ∷ [])
second = (two, two, some, (λ h. t_moves (alike_trans (alike_sym t_there) h)), alike_trans (alike_section (2 ∷ []) t_there) (alike_trans t_at_two (alike_sym t_there)), tt, tt)

linear : HasDegree 2 s 1
linear = record {
  infinitary = active;
  subexponential = not_exponential;
  chain = (record { at = []; back = 1 ∷ [] } ∷ record { at = 2 ∷ []; back = 2 ∷ [] } ∷ [], refl, (tt, one, some, (λ h. s_moves (alike_trans (alike_sym s_here) h)), alike_trans (alike_section (1 ∷ []) s_here) (alike_trans s_at_one (alike_sym s_here)), no_way_back, second));
  longest = longest;
}

pub linear_growth_linear : LinearGrowthIsLinear
linear_growth_linear = record {
  linear = linear;
  not_bounded = λ h. omega (arith, h.longest linear.chain.0 linear.chain.2, linear.chain.1);
  not_2 = λ h. omega (arith, longest h.chain.0 h.chain.2, h.chain.1);
}
