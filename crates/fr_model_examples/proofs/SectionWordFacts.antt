-- The section words of a name whose section is its square, and of one whose section words grow without end.
use Rattle.std.proofs.Common.{ℕ, zero, suc, ◌≡◌, ◌≢◌, ◌<◌, ◌⊎◌, inl, inr, List, [], ◌∷◌, length, get_or, refl, ap, arith}
use Rattle.std.proofs.lemmas.List.Elements.{All-from_recursion}
use Rattle.fr_model.specs.Words.{IsLetter, IsWord}
use Rattle.fr_model.specs.Systems.{Factor}
use Rattle.fr_model.specs.Classes.{IsClassCount, IsClassList}
use Rattle.fr_model.specs.FreeWords.{section_word, IsSectionWord, IsClosurePassed}
use Rattle.fr_model.proofs.CountLaws.{IsClassCount-from_list}
use Rattle.fr_model_examples.specs.Groups.{generator, doubling, growing}
use Rattle.fr_model_examples.proofs.Letters.{letter_cases}

-- the three section words
Three : List Factor → Type 0
Three fs = (fs ≡ generator 0 ∷ []) ⊎ ((fs ≡ generator 0 ∷ generator 0 ∷ []) ⊎ (fs ≡ []))

stays : (w : List ℕ) (fs : List Factor) → IsWord 2 w → Three fs → Three (section_word doubling fs w)
unfolding Three
stays [] fs k h = h
stays (x ∷ w) fs k (inl e) = elim (letter_cases x k.0) [
  | inl a ↦ rw (e, a) (stays w (generator 0 ∷ generator 0 ∷ []) k.1 (inr (inl refl)))
  | inr a ↦ rw (e, a) (stays w [] k.1 (inr (inr refl)))
]
stays (x ∷ w) fs k (inr (inl e)) = elim (letter_cases x k.0) [
  | inl a ↦ rw (e, a) (stays w (generator 0 ∷ generator 0 ∷ []) k.1 (inr (inl refl)))
  | inr a ↦ rw (e, a) (stays w (generator 0 ∷ generator 0 ∷ []) k.1 (inr (inl refl)))
]
stays (x ∷ w) fs k (inr (inr e)) = rw e (stays w [] k.1 (inr (inr refl)))

abbrev pub lists : List (List Factor)
lists = (generator 0 ∷ []) ∷ (generator 0 ∷ generator 0 ∷ []) ∷ [] ∷ []

-- each section word once
pub listed : IsClassList (IsSectionWord 2 doubling 0) (λ e f. e ≡ f) lists
unfolding Three
listed = record {
  valid = All-from_recursion (IsSectionWord 2 doubling 0) lists (
    record { at = []; valid = tt; is = refl },
    (
      record { at = 1 ∷ []; valid = ((omega arith, omega arith), tt); is = refl },
      (record { at = 2 ∷ []; valid = ((omega arith, omega arith), tt); is = refl }, tt),
    ),
  );
  apart = differ;
  covers = λ fs r. go fs (rw (← r.is) at (stays r.at (generator 0 ∷ []) r.valid (inl refl)));
}
  where
    differ : (i j : ℕ) (a : List Factor) → i < j → j < 3 → get_or lists i a ≢ get_or lists j a
    differ zero (suc zero) a h k e = let e : ◌≡◌ {A = List Factor} (generator 0 ∷ []) (generator 0 ∷ generator 0 ∷ []) = e in omega (arith, ap length e)
    differ zero (suc (suc zero)) a h k e = let e : ◌≡◌ {A = List Factor} (generator 0 ∷ []) [] = e in omega (arith, ap length e)
    differ (suc zero) (suc (suc zero)) a h k e = let e : ◌≡◌ {A = List Factor} (generator 0 ∷ generator 0 ∷ []) [] = e in omega (arith, ap length e)
    differ zero zero a h k e = omega arith
    differ (suc zero) (suc zero) a h k e = omega arith
    differ i (suc (suc (suc j))) a h k e = omega arith
    differ (suc i) zero a h k e = omega arith
    differ (suc (suc i)) (suc zero) a h k e = omega arith
    differ (suc (suc i)) (suc (suc zero)) a h k e = omega arith

    go : (fs : List Factor) → Three fs → (i : ℕ) × (i < 3) × (fs ≡ get_or lists i fs)
    go fs (inl e) = (0, omega arith, e)
    go fs (inr (inl e)) = (1, omega arith, e)
    go fs (inr (inr e)) = (2, omega arith, rw e refl)

pub three : IsClassCount (IsSectionWord 2 doubling 0) (λ e f. e ≡ f) 3
three = IsClassCount-from_list (IsSectionWord 2 doubling 0) (λ e f. e ≡ f) lists listed

-- ---- thirteen times the first letter
ones : List ℕ
ones = 1 ∷ 1 ∷ 1 ∷ 1 ∷ 1 ∷ 1 ∷ 1 ∷ 1 ∷ 1 ∷ 1 ∷ 1 ∷ 1 ∷ 1 ∷ []

ones_word : IsWord 2 ones
unfolding ones
ones_word = let l : IsLetter 2 1 = (omega arith, omega arith) in (l, (l, (l, (l, (l, (l, (l, (l, (l, (l, (l, (l, (l, tt)))))))))))))

long : length (section_word growing (generator 0 ∷ []) ones) ≡ 8192
unfolding ones
long = refl

pub passed : IsClosurePassed 2 growing 0
passed = inr (section_word growing (generator 0 ∷ []) ones, record { word = record { at = ones; valid = ones_word; is = refl }; long = rw long (omega arith) })
