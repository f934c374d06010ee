-- Lists that are made of one value for each number below a bound.
use Rattle.std.specs.Prelude.{IfErr}
use Rattle.std.proofs.Common.{ℕ, zero, suc, ◌≡◌, ◌<◌, ◌⊎◌, inl, inr, Result, Err, List, [], ◌∷◌, ◌++◌, length, map, get_or, refl, sym, subst, arith}
use Rattle.std.proofs.lemmas.Bool.{cases_lt}
use Rattle.std.proofs.lemmas.List.{get_or_append_left, get_or_push, length_push, get_or-map}

-- a list of values that are known to be there
module _ {A : Type 0} (z : A) where
  pub choice : (P : ℕ → A → Type 0) (n : ℕ) → ((i : ℕ) → i < n → (x : A) × P i x) → (xs : List A) × (length xs ≡ n) × ((i : ℕ) → i < n → P i (get_or xs i z))
  choice P zero h = ([], refl, λ i l. absurd (omega arith))
  choice P (suc n) h =
      let r = choice P n (λ i l. h i (omega arith)) in
      let x = h n (omega arith) in
      let xs = r.0 ++ x.0 ∷ [] in
      let size : length xs ≡ suc n = omega (arith, length_push r.0 x.0, r.1) in (
        xs,
        size,
        λ i l. elim (cases_lt i n) [
          | inl t ↦
              let e : get_or xs i z ≡ get_or r.0 i z = get_or_append_left r.0 (x.0 ∷ []) z i (omega (arith, r.1)) in
              rw e (r.2 i t)
          | inr t ↦
              let at : i ≡ n = omega arith in
              let e : get_or xs i z ≡ x.0 = get_or_push r.0 x.0 z i (omega (arith, r.1, at)) in
              rw (e, at) x.1
        ],
      )

-- a member of the image of a list
pub map_at : {A B : Type 0} (f : A → B) (xs : List A) (i : ℕ) (d : A) (e : B) → i < length xs → get_or (map f xs) i e ≡ f (get_or xs i d)
map_at f xs i d e l = get_or-map f xs i d e l

-- an error that is passed on
pub IfErr-given : {T E : Type 0} (r : Result T E) (y e : E) (P : E → Type 0) → r ≡ Err y → y ≡ e → P e → IfErr r P
IfErr-given {T} {E} r y e P same given h =
    let G : Result T E → Type 0 = λ q. IfErr q P in
    subst G (sym same) (subst P (sym given) h)

-- an error for which it is known that one of two things holds
pub either-weaker : {E : Type 0} (n t : E) (P Q : Type 0) → (P → Q) → (e : E) → (e ≡ n) ⊎ ((e ≡ t) × P) → (e ≡ n) ⊎ ((e ≡ t) × Q)
either-weaker n t P Q f e (inl h) = inl h
either-weaker n t P Q f e (inr h) = inr (h.0, f h.1)
