-- The rays of ones and of twos.
use Rattle.std.proofs.Common.{ℕ, zero, suc, ◌≡◌, ◌≢◌, ◌≤◌, List, [], ◌∷◌, length, take, refl, ap, arith}
use Rattle.fr_model.specs.Terms.{Name, act}
use Rattle.fr_model.specs.Rays.{repeated}
use Rattle.fr_model_examples.specs.Groups.{adding_machine}
use Rattle.fr_model_examples.specs.RayInstances.{RaysAreSame, AddingMachineMovesRays, RaysAreCanonical}

ones_image : (n m : ℕ) → take n (repeated (1 ∷ []) m) ≡ act (Name adding_machine 0) (take n (repeated (2 ∷ []) m))
ones_image zero m = refl
ones_image (suc n) zero = refl
ones_image (suc n) (suc m) = ap (λ w. 1 ∷ w) (ones_image n m)

doubled : (n k m : ℕ) → n ≤ k → n ≤ m → take n (repeated (1 ∷ 1 ∷ []) k) ≡ take n (repeated (1 ∷ []) m)
doubled zero k m a b = refl
doubled (suc n) zero m a b = absurd (omega arith)
doubled (suc n) (suc k) zero a b = absurd (omega arith)
doubled (suc zero) (suc k) (suc m) a b = refl
doubled (suc (suc n)) (suc k) (suc zero) a b = absurd (omega arith)
doubled (suc (suc n)) (suc k) (suc (suc m)) a b = ap (λ w. 1 ∷ 1 ∷ w) (doubled n k m (omega arith) (omega arith))

late : (n k m : ℕ) → n ≤ k → n ≤ m → take n (repeated (1 ∷ []) k) ≡ take n (repeated (1 ∷ []) m)
late zero k m a b = refl
late (suc n) zero m a b = absurd (omega arith)
late (suc n) (suc k) zero a b = absurd (omega arith)
late (suc n) (suc k) (suc m) a b = ap (λ w. 1 ∷ w) (late n k m (omega arith) (omega arith))

some_long : (w : List ℕ) → w ≢ [] → 1 ≤ length w
some_long [] h = absurd (h refl)
some_long (x ∷ w) h = omega arith

filled : ◌≢◌ {A = List ℕ} (1 ∷ []) []
filled e = cc

pub moved_rays : AddingMachineMovesRays
moved_rays = record {
  image = λ n. ones_image n n;
  not_itself = λ s. let e : ◌≡◌ {A = List ℕ} (2 ∷ []) (1 ∷ []) = s 1 in cc;
  not_without_period = λ s. let e : ◌≡◌ {A = List ℕ} (1 ∷ []) (1 ∷ 1 ∷ []) = s 2 in cc;
}

pub canonical_rays : RaysAreCanonical
canonical_rays = record {
  ones = record { beginning = tt; period = ((omega arith, omega arith), tt); some = filled; least_beginning = λ u w h s. omega arith; primitive = λ u w h s. some_long w h };
  not_double = λ c. omega (arith, c.primitive [] (1 ∷ []) filled (λ n. doubled n n n (omega arith) (omega arith)));
  not_late = λ c. omega (arith, c.least_beginning [] (1 ∷ []) filled (λ n. late n (suc n) n (omega arith) (omega arith)));
}

pub same_rays : RaysAreSame
same_rays = record {
  ones = λ n. doubled n n n (omega arith) (omega arith);
  not_twos = λ s. let e : ◌≡◌ {A = List ℕ} (1 ∷ []) (2 ∷ []) = s 1 in cc;
  not_later = λ s. let e : ◌≡◌ {A = List ℕ} (1 ∷ 1 ∷ []) (1 ∷ 2 ∷ []) = s 2 in cc;
}
