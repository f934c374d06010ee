-- Lists of facts and of claimed blocks.
use Rattle.std.proofs.Common.{ℕ, List, [], ◌∷◌, ◌++◌, ⊎_elim, inl, inr, ◌⊎◌}
use Rattle.fr_layout.specs.declared.plan.Block.{Block}
use Rattle.fr_words.specs.Members.{Has, Owns}
use Rattle.fr_words.specs.declared.notes.Fact.{Fact}
use Rattle.fr_words.specs.declared.notes.Claim.{Claim}

pub has_left : (l m : List Fact) (i x : ℕ) → Has l i x → Has (l ++ m) i x
has_left [] m i x h = absurd h
has_left (f ∷ fs) m i x h = ⊎_elim (λ a. inl a) (λ b. inr (has_left fs m i x b)) h

pub has_right : (l m : List Fact) (i x : ℕ) → Has m i x → Has (l ++ m) i x
has_right [] m i x h = h
has_right (f ∷ fs) m i x h = inr (has_right fs m i x h)

pub has_either : (l m : List Fact) (i x : ℕ) → Has (l ++ m) i x → Has l i x ⊎ Has m i x
has_either [] m i x h = inr h
has_either (f ∷ fs) m i x h = ⊎_elim (λ a. inl (inl a)) (λ b. ⊎_elim (λ c. inl (inr c)) (λ c. inr c) (has_either fs m i x b)) h

pub owns_left : (l m : List Claim) (b : Block) → Owns l b → Owns (l ++ m) b
owns_left [] m b h = absurd h
owns_left (c ∷ cs) m b h = ⊎_elim (λ a. inl a) (λ d. inr (owns_left cs m b d)) h

pub owns_right : (l m : List Claim) (b : Block) → Owns m b → Owns (l ++ m) b
owns_right [] m b h = h
owns_right (c ∷ cs) m b h = inr (owns_right cs m b h)

pub owns_either : (l m : List Claim) (b : Block) → Owns (l ++ m) b → Owns l b ⊎ Owns m b
owns_either [] m b h = inr h
owns_either (c ∷ cs) m b h = ⊎_elim (λ a. inl (inl a)) (λ d. ⊎_elim (λ e. inl (inr e)) (λ e. inr e) (owns_either cs m b d)) h
