-- a of Grigorchuk's group: it swaps the first letter, and its sections at longer words are the identity.
use Rattle.std.proofs.Common.{ℕ, zero, suc, ◌≡◌, ◌≤◌, List, [], ◌∷◌, ◌++◌, length, refl, arith}
use Rattle.std.proofs.lemmas.List.{drop_at}
use Rattle.fr_model.specs.Terms.{One, Name, Inverse, Section, IsAlike}
use Rattle.fr_model.proofs.SystemLaws.{act_product-nil}
use Rattle.fr_model.proofs.PermutationLaws.{preimage_past}
use Rattle.fr_model_examples.specs.Groups.{grigorchuk}
use Rattle.fr_model_examples.proofs.Letters.{swap}

a_past : (x : ℕ) (w : List ℕ) → IsAlike (Section (Name grigorchuk 0) (x ∷ w)) One
a_past zero w = record { images = λ u. rw (act_product-nil grigorchuk (w ++ u)) (drop_at w u (length w) refl) }
a_past (suc zero) w = record { images = λ u. rw (act_product-nil grigorchuk (w ++ u)) (drop_at w u (length w) refl) }
a_past (suc (suc zero)) w = record { images = λ u. rw (act_product-nil grigorchuk (w ++ u)) (drop_at w u (length w) refl) }
a_past (suc (suc (suc k))) w = record { images = λ u. rw (act_product-nil grigorchuk (w ++ u)) (drop_at w u (length w) refl) }

pub a_any : (u : List ℕ) → 1 ≤ length u → IsAlike (Section (Name grigorchuk 0) u) One
a_any [] h = absurd (omega (arith, h))
a_any (x ∷ w) h = a_past x w

a_inverse_past : (x : ℕ) (w : List ℕ) → IsAlike (Section (Inverse (Name grigorchuk 0)) (x ∷ w)) One
a_inverse_past zero w = record { images = λ u. rw (act_product-nil grigorchuk (w ++ u)) (drop_at w u (length w) refl) }
a_inverse_past (suc zero) w = record { images = λ u. rw (act_product-nil grigorchuk (w ++ u)) (drop_at w u (length w) refl) }
a_inverse_past (suc (suc zero)) w = record { images = λ u. rw (act_product-nil grigorchuk (w ++ u)) (drop_at w u (length w) refl) }
a_inverse_past (suc (suc (suc k))) w = record { images = λ u. rw (preimage_past 2 (2 ∷ 1 ∷ []) (suc (suc (suc k))) swap (λ h. omega (arith, h.1)), act_product-nil grigorchuk (w ++ u)) (drop_at w u (length w) refl) }

pub a_inverse_any : (u : List ℕ) → 1 ≤ length u → IsAlike (Section (Inverse (Name grigorchuk 0)) u) One
a_inverse_any [] h = absurd (omega (arith, h))
a_inverse_any (x ∷ w) h = a_inverse_past x w

pub a_moves : ¬ IsAlike (Name grigorchuk 0) One
a_moves h = let e : ◌≡◌ {A = List ℕ} (2 ∷ []) (1 ∷ []) = h.images (1 ∷ []) in cc
