-- Two lists in strict order with the same members are one list.
use Rattle.std.proofs.Common.{ℕ, zero, suc, ◌≡◌, ◌<◌, ◌⊎◌, inl, inr, List, [], ◌∷◌, length, get_or, refl, sym, ◌∙◌, arith}

module _ {A : Type 0} (none : A) (Before : A → A → Type 0) (irrefl : (x : A) → Before x x → ⊥) (trans : (x y z : A) → Before x y → Before y z → Before x z) where
  abbrev pub InOrder : List A → Type 0
  InOrder xs = (j k : ℕ) → j < k → k < length xs → Before (get_or xs j none) (get_or xs k none)

  abbrev pub Among : List A → A → Type 0
  Among xs v = (k : ℕ) × (k < length xs) × (v ≡ get_or xs k none)

  head_or_after : (x : A) (xs : List A) (v : A) → InOrder (x ∷ xs) → Among (x ∷ xs) v → (v ≡ x) ⊎ (Before x v × Among xs v)
  head_or_after x xs v o a = go a.0 a.1 a.2
    where
      go : (k : ℕ) → k < length (x ∷ xs) → v ≡ get_or (x ∷ xs) k none → (v ≡ x) ⊎ (Before x v × Among xs v)
      go zero h e = inl e
      go (suc k) h e = inr (rw e (o 0 (suc k) (omega arith) h), (k, omega arith, e))

  pub same_ordered : (xs ys : List A) → InOrder xs → InOrder ys → ((v : A) → Among xs v → Among ys v) → ((v : A) → Among ys v → Among xs v) → xs ≡ ys
  same_ordered [] [] o p f g = refl
  same_ordered [] (y ∷ ys) o p f g = let a = g y (0, omega arith, refl) in absurd (omega (arith, a.1))
  same_ordered (x ∷ xs) [] o p f g = let a = f x (0, omega arith, refl) in absurd (omega (arith, a.1))
  same_ordered (x ∷ xs) (y ∷ ys) o p f g =
      let heads : x ≡ y = elim (head_or_after y ys x p (f x (0, omega arith, refl))) [
        | inl e ↦ e
        | inr a ↦ elim (head_or_after x xs y o (g y (0, omega arith, refl))) [ inl e ↦ sym e | inr b ↦ absurd (irrefl x (trans x y x b.0 a.0)) ]
      ] in
      let f' : (v : A) → Among xs v → Among ys v = λ v a. elim (head_or_after y ys v p (f v (suc a.0, omega (arith, a.1), a.2))) [
        | inl e ↦ absurd (irrefl x (rw (e ∙ sym heads) at (rw (← a.2) at (o 0 (suc a.0) (omega arith) (omega (arith, a.1))))))
        | inr b ↦ b.1
      ] in
      let g' : (v : A) → Among ys v → Among xs v = λ v a. elim (head_or_after x xs v o (g v (suc a.0, omega (arith, a.1), a.2))) [
        | inl e ↦ absurd (irrefl y (rw (e ∙ heads) at (rw (← a.2) at (p 0 (suc a.0) (omega arith) (omega (arith, a.1))))))
        | inr b ↦ b.1
      ] in
      rw (heads, same_ordered xs ys (λ j k h l. o (suc j) (suc k) (omega arith) (omega arith)) (λ j k h l. p (suc j) (suc k) (omega arith) (omega arith)) f' g')
