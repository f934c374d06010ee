-- The growth of some elements.
use Rattle.std.proofs.Common.{ℕ, zero, suc, ◌≡◌, ◌≢◌, ◌<◌, ◌⊎◌, inl, inr, List, [], ◌∷◌, ◌++◌, length, get_or, refl, sym, ◌∙◌, ap, arith}
use Rattle.std.proofs.lemmas.List.Elements.{All-from_recursion}
use Rattle.fr_model.specs.Words.{IsLetter, IsWord}
use Rattle.fr_model.specs.Terms.{Term, One, Name, Section, IsAlike}
use Rattle.fr_model.specs.Separation.{IsShortlexBefore}
use Rattle.fr_model.proofs.TermLaws.{IsWord-append}
use Rattle.fr_model.proofs.AlikeLaws.{alike_sym, alike_trans, alike_section, section_section, section_nil}
use Rattle.fr_model.specs.Activity.{IsActive, IsActivity, IsInactive, IsExponentialAt, Link, IsChain, HasDegree}
use Rattle.fr_model.proofs.GrowthLaws.{section_one, activity_once}
use Rattle.fr_model_examples.specs.Groups.{adding_machine, grigorchuk, lamplighter, second_swap}
use Rattle.fr_model_examples.specs.GrowthInstances.{SecondSwapIsActive, SwapIsFinitary, AddingMachineIsBounded, LamplighterIsExponential, LettersBelongToTerms}
use Rattle.fr_model_examples.proofs.Letters.{one, letter_cases, nothing_before, twos, twos_word, length-twos}
use Rattle.fr_model_examples.proofs.AddingMachine.{t_at_two, t_moves, t_one_more, t_section, t_twos}
use Rattle.fr_model_examples.proofs.Swap.{a_any, a_moves}

-- ---- activity
moved : (x : ℕ) → IsLetter 2 x → ¬ IsAlike (Section (Name second_swap 0) (x ∷ [])) One
moved x l h = elim (letter_cases x l) [
  | inl e ↦ let e : ◌≡◌ {A = List ℕ} (2 ∷ []) (1 ∷ []) = (rw e at h).images (1 ∷ []) in cc
  | inr e ↦ let e : ◌≡◌ {A = List ℕ} (2 ∷ []) (1 ∷ []) = (rw e at h).images (1 ∷ []) in cc
]

two_active : IsActivity 2 1 (Name second_swap 0) 2
two_active = record {
  members = (1 ∷ []) ∷ (2 ∷ []) ∷ [];
  count = refl;
  valid = All-from_recursion (IsActive 2 1 (Name second_swap 0)) ((1 ∷ []) ∷ (2 ∷ []) ∷ []) (
    record { valid = one; long = refl; moved = moved 1 (omega arith, omega arith) },
    (record { valid = ((omega arith, omega arith), tt); long = refl; moved = moved 2 (omega arith, omega arith) }, tt),
  );
  apart = differ;
  covers = cover;
}
  where
    differ : (i j : ℕ) (a : List ℕ) → i < j → j < 2 → get_or ((1 ∷ []) ∷ (2 ∷ []) ∷ []) i a ≢ get_or ((1 ∷ []) ∷ (2 ∷ []) ∷ []) j a
    differ zero (suc zero) a h k e = let e : ◌≡◌ {A = List ℕ} (1 ∷ []) (2 ∷ []) = e in cc
    differ zero zero a h k e = omega arith
    differ i (suc (suc j)) a h k e = omega arith
    differ (suc i) zero a h k e = omega arith
    differ (suc i) (suc zero) a h k e = omega arith

    cover : (a : List ℕ) → IsActive 2 1 (Name second_swap 0) a → (i : ℕ) × (i < 2) × (a ≡ get_or ((1 ∷ []) ∷ (2 ∷ []) ∷ []) i a)
    cover [] r = absurd (omega (arith, r.long))
    cover (x ∷ []) r = elim (letter_cases x r.valid.0) [ inl e ↦ (0, omega arith, rw e refl) | inr e ↦ (1, omega arith, rw e refl) ]
    cover (x ∷ y ∷ w) r = absurd (omega (arith, r.long))

not_one_active : ¬ IsActivity 2 1 (Name second_swap 0) 1
not_one_active s = omega (arith, activity_once 2 1 (Name second_swap 0) 2 1 two_active s)

pub second_swap_active : SecondSwapIsActive
second_swap_active = record {
  two = two_active;
  not_one = not_one_active;
  at_one = record { valid = one; long = refl; moved = moved 1 (omega arith, omega arith) };
  not_at_longer = λ r. omega (arith, r.long);
  not_the_first = λ r. r.moved (a_any (1 ∷ []) (omega arith));
}

-- ---- finitary
pub swap_finitary : SwapIsFinitary
swap_finitary = record {
  one = record { inactive = λ v k l. a_any v (omega (arith, l)); least = λ n h. ([], record { valid = tt; long = omega (arith, h); moved = λ s. a_moves (alike_trans (alike_sym (section_nil (Name grigorchuk 0))) s) }) };
  not_zero = λ f. a_moves (alike_trans (alike_sym (section_nil (Name grigorchuk 0))) (f.inactive [] tt refl));
  not_two = λ f. let r = f.least 1 (omega arith) in r.1.moved (a_any r.0 (omega (arith, r.1.long)));
  identity = record { inactive = λ v k l. section_one v; least = λ n h. absurd (omega (arith, h)) };
}

-- ---- bounded
active : (n : ℕ) → ¬ IsInactive 2 n (Name adding_machine 0)
active n h = t_moves (alike_trans (alike_sym (t_twos n)) (h (twos n) (twos_word n) (length-twos n)))

-- where the section at a word is not 1, it is t
is_t : (w : List ℕ) → IsWord 2 w → ¬ IsAlike (Section (Name adding_machine 0) w) One → IsAlike (Section (Name adding_machine 0) w) (Name adding_machine 0) × (w ≡ twos (length w))
is_t w k m = elim (t_section w k) [ inl r ↦ r | inr r ↦ absurd (m r) ]

back_is : (h : Term) (w : List ℕ) → IsWord 2 w → IsAlike h (Name adding_machine 0) → IsAlike (Section h w) h → w ≡ twos (length w)
back_is h w k s r = (is_t w k (λ o. t_moves (alike_trans (alike_sym s) (alike_trans (alike_sym r) (alike_trans (alike_section w s) o))))).1

not_exponential : (at u v : List ℕ) → ¬ IsExponentialAt 2 (Name adding_machine 0) at u v
not_exponential at u v e =
    let s = (is_t at e.at_valid e.moved).0 in
    e.differ (back_is (Section (Name adding_machine 0) at) u e.u_valid s e.u_back ∙ ap twos e.one_length ∙ sym (back_is (Section (Name adding_machine 0) at) v e.v_valid s e.v_back))

longest : (ls : List Link) → IsChain 2 (Name adding_machine 0) ls → length ls < 2
longest [] c = omega arith
longest (l ∷ []) c = omega arith
longest (l ∷ m ∷ ls) c =
    let s = (is_t l.at c.0 c.3).0 in
    let inner : IsAlike (Section (Section (Name adding_machine 0) l.at) m.at) (Section (Name adding_machine 0) m.at) = alike_section m.at s in
    let r = (is_t m.at c.6.0 (λ o. c.6.3 (alike_trans inner o))).0 in
    absurd (c.5 [] tt (alike_trans (section_nil (Section (Section (Name adding_machine 0) l.at) m.at)) (alike_trans inner (alike_trans r (alike_sym s)))))

bounded : HasDegree 2 (Name adding_machine 0) 0
bounded = record {
  infinitary = active;
  subexponential = not_exponential;
  chain = (record { at = []; back = 2 ∷ [] } ∷ [], refl, (tt, ((omega arith, omega arith), tt), (λ e. let f : ◌≡◌ {A = List ℕ} (2 ∷ []) [] = e in cc), (λ h. t_moves (alike_trans (alike_sym (section_nil (Name adding_machine 0))) h)), alike_trans (alike_section (2 ∷ []) (section_nil (Name adding_machine 0))) (alike_trans t_at_two (alike_sym (section_nil (Name adding_machine 0)))), tt, tt));
  longest = longest;
}

pub adding_bounded : AddingMachineIsBounded
adding_bounded = record {
  bounded = bounded;
  not_linear = λ h. let c = h.chain in omega (arith, c.1, longest c.0 c.2);
  not_finitary = λ n f. active n f.inactive;
  later = λ h m k w n x y s. n (k.at ++ w) (IsWord-append 2 k.at w x y) (alike_trans (alike_sym (section_section (Section h m.at) k.at w)) s);
}

-- ---- exponential
one_two : IsWord 2 (1 ∷ 2 ∷ [])
one_two = ((omega arith, omega arith), ((omega arith, omega arith), tt))

two_two : IsWord 2 (2 ∷ 2 ∷ [])
two_two = ((omega arith, omega arith), ((omega arith, omega arith), tt))

p_moves : ¬ IsAlike (Section (Name lamplighter 0) []) One
p_moves h = let e : ◌≡◌ {A = List ℕ} (2 ∷ []) (1 ∷ []) = h.images (1 ∷ []) in cc

p_one : ¬ IsAlike (Section (Section (Name lamplighter 0) []) (1 ∷ [])) (Section (Name lamplighter 0) [])
p_one h = let e : ◌≡◌ {A = List ℕ} (1 ∷ []) (2 ∷ []) = h.images (1 ∷ []) in cc

p_one_one : ¬ IsAlike (Section (Section (Name lamplighter 0) []) (1 ∷ 1 ∷ [])) (Section (Name lamplighter 0) [])
p_one_one h = let e : ◌≡◌ {A = List ℕ} (1 ∷ []) (2 ∷ []) = h.images (1 ∷ []) in cc

p_two_one : ¬ IsAlike (Section (Section (Name lamplighter 0) []) (2 ∷ 1 ∷ [])) (Section (Name lamplighter 0) [])
p_two_one h = let e : ◌≡◌ {A = List ℕ} (1 ∷ []) (2 ∷ []) = h.images (1 ∷ []) in cc

triple : IsExponentialAt 2 (Name lamplighter 0) [] (1 ∷ 2 ∷ []) (2 ∷ 2 ∷ [])
triple = record { at_valid = tt; u_valid = one_two; v_valid = two_two; moved = p_moves; differ = λ e. let f : ◌≡◌ {A = List ℕ} (1 ∷ 2 ∷ []) (2 ∷ 2 ∷ []) = e in cc; one_length = refl; u_back = record { images = λ w. refl }; v_back = record { images = λ w. refl } }

turned : IsExponentialAt 2 (Name lamplighter 0) [] (2 ∷ 2 ∷ []) (1 ∷ 2 ∷ [])
turned = record { at_valid = tt; u_valid = two_two; v_valid = one_two; moved = p_moves; differ = λ e. triple.differ (sym e); one_length = refl; u_back = record { images = λ w. refl }; v_back = record { images = λ w. refl } }

shorter : (u v : List ℕ) → length u < 2 → ¬ IsExponentialAt 2 (Name lamplighter 0) [] u v
shorter [] [] h e = e.differ refl
shorter [] (y ∷ w) h e = omega (arith, e.one_length)
shorter (x ∷ []) [] h e = omega (arith, e.one_length)
shorter (x ∷ []) (y ∷ z ∷ w) h e = omega (arith, e.one_length)
shorter (x ∷ z ∷ w) v h e = omega (arith, h)
shorter (x ∷ []) (y ∷ []) h e = elim (letter_cases x e.u_valid.0) [
  | inl a ↦ p_one (rw a at e.u_back)
  | inr a ↦ elim (letter_cases y e.v_valid.0) [ inl b ↦ p_one (rw b at e.v_back) | inr b ↦ e.differ (rw (a, b) refl) ]
]

first_two : (w : List ℕ) → IsWord 2 w → length w ≡ 2 → IsAlike (Section (Section (Name lamplighter 0) []) w) (Section (Name lamplighter 0) []) → (w ≡ 1 ∷ 2 ∷ []) ⊎ ((w ≡ 2 ∷ 2 ∷ []) ⊎ IsShortlexBefore (2 ∷ 2 ∷ []) w)
first_two [] k l s = absurd (omega (arith, l))
first_two (x ∷ []) k l s = absurd (omega (arith, l))
first_two (x ∷ y ∷ z ∷ w) k l s = absurd (omega (arith, l))
first_two (x ∷ y ∷ []) k l s = elim (letter_cases x k.0) [
  | inl a ↦ elim (letter_cases y k.1.0) [ inl b ↦ absurd (p_one_one (rw (a, b) at s)) | inr b ↦ inl (rw (a, b) refl) ]
  | inr a ↦ elim (letter_cases y k.1.0) [ inl b ↦ absurd (p_two_one (rw (a, b) at s)) | inr b ↦ inr (inl (rw (a, b) refl)) ]
]

pub lamplighter_exponential : LamplighterIsExponential
lamplighter_exponential = record {
  least = record { triple = triple; least_at = λ at u v b e. nothing_before at b; least_length = shorter; ordered = inr (refl, inl (omega arith)); first_two = first_two };
  not_turned = λ t. elim t.ordered [ inl a ↦ omega (arith, a) | inr a ↦ elim a.1 [ inl b ↦ omega (arith, b) | inr b ↦ omega (arith, b.0) ] ];
  not_longer = λ t. t.least_length (1 ∷ 2 ∷ []) (2 ∷ 2 ∷ []) (omega arith) triple;
  not_shorter = shorter (1 ∷ []) (2 ∷ []) (omega arith);
  turned_is_some = turned;
  longer_is_some = record { at_valid = tt; u_valid = ((omega arith, omega arith), one_two); v_valid = ((omega arith, omega arith), two_two); moved = p_moves; differ = λ e. let f : ◌≡◌ {A = List ℕ} (1 ∷ 1 ∷ 2 ∷ []) (2 ∷ 2 ∷ 2 ∷ []) = e in cc; one_length = refl; u_back = record { images = λ w. refl }; v_back = record { images = λ w. refl } };
}

-- ---- over one letter
still : (v : List ℕ) → IsWord 1 v → length v ≡ 1 → IsAlike (Section (Name adding_machine 0) v) One
still [] k l = absurd (omega (arith, l))
still (zero ∷ w) k l = absurd (omega (arith, k.0.0))
still (suc zero ∷ w) k l = t_one_more w
still (suc (suc x) ∷ w) k l = absurd (omega (arith, k.0.1))

pub over_one_letter : LettersBelongToTerms
over_one_letter = record { over_one_letter = record { inactive = still; least = λ n h. ([], record { valid = tt; long = omega (arith, h); moved = λ s. t_moves (alike_trans (alike_sym (section_nil (Name adding_machine 0))) s) }) } }
