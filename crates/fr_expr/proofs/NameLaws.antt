-- The last binding above a line, as a search from the end finds it.
use Rattle.std.proofs.Common.{ℕ, suc, ◌≡◌, ◌<◌, ◌≤◌, ◌⊎◌, inl, inr, Bool, true, false, nat_lt, List, [], ◌∷◌, ◌++◌, length, take, get_or, Option, Some, None, refl, sym, ◌∙◌, ap, arith, if◌then◌else◌}
use Rattle.std.proofs.Math.Seq.{take-suc}
use Rattle.std.proofs.lemmas.Bool.{ltb-true, ltb-false}
use Rattle.fr_store.specs.declared.handle.Handle.{Handle}
use Rattle.fr_expr.specs.declared.env.Binding.{Binding}
use Rattle.fr_expr.specs.Names.{either, above}

-- bindings behind one another
pub either_either : (a b c : Option Handle) → either (either a b) c ≡ either a (either b c)
either_either (Some h) b c = refl
either_either None b c = refl

pub either_none : (a : Option Handle) → either a None ≡ a
either_none (Some h) = refl
either_none None = refl

pub above-push : (line : ℕ) (bs : List Binding) (b : Binding) → above line (bs ++ b ∷ []) ≡ either (if nat_lt b.line line then Some b.handle else None) (above line bs)
above-push line [] b = sym (either_none (if nat_lt b.line line then Some b.handle else None))
above-push line (a ∷ bs) b =
    ap (λ o. either o (if nat_lt a.line line then Some a.handle else None)) (above-push line bs b)
    ∙ either_either (if nat_lt b.line line then Some b.handle else None) (above line bs) (if nat_lt a.line line then Some a.handle else None)

truth : (b : Bool) → (b ≡ true) ⊎ (b ≡ false)
truth true = inl refl
truth false = inr refl

-- a binding is the last one above a line among the first, or is passed over
pub above-found : (line j k : ℕ) (bs : List Binding) (z : Binding) → k ≡ suc j → k ≤ length bs → (get_or bs j z).line < line → Some (get_or bs j z).handle ≡ above line (take k bs)
above-found line j k bs z e q h = elim (truth (nat_lt (get_or bs j z).line line)) [
  | inl t ↦ sym (ap (λ n. above line (take n bs)) e ∙ ap (above line) (take-suc bs j z (omega (arith, e, q))) ∙ above-push line (take j bs) (get_or bs j z)
      ∙ ap (λ b. either (if b then Some (get_or bs j z).handle else None) (above line (take j bs))) t)
  | inr f ↦ absurd (omega (arith, h, ltb-false (get_or bs j z).line line f))
]

pub above-passed : (line j k : ℕ) (bs : List Binding) (z : Binding) → k ≡ suc j → k ≤ length bs → line ≤ (get_or bs j z).line → above line (take j bs) ≡ above line (take k bs)
above-passed line j k bs z e q h = elim (truth (nat_lt (get_or bs j z).line line)) [
  | inl t ↦ absurd (omega (arith, h, ltb-true (get_or bs j z).line line t))
  | inr f ↦ sym (ap (λ n. above line (take n bs)) e ∙ ap (above line) (take-suc bs j z (omega (arith, e, q))) ∙ above-push line (take j bs) (get_or bs j z)
      ∙ ap (λ b. either (if b then Some (get_or bs j z).handle else None) (above line (take j bs))) f)
]
