-- Tokens stop to begin what a grammar derives at one place.
use Rattle.std.proofs.Common.{◌≡◌, ℕ, suc, ◌<◌, ◌≤◌, ◌⊎◌, inl, inr, List, ◌++◌, take, drop, sym, ◌∙◌, ap, arith, append_assoc, subst}
use Rattle.std.proofs.lemmas.List.{take-append-drop, take-take}
use Rattle.std.proofs.lemmas.Bool.{cases_lt}
use Rattle.fr_syntax.specs.Tokens.{Lexeme}
use Rattle.fr_syntax.specs.Faults.{Begins, IsFaultAt}

begins_front : {Tree : Type 0} (tokens_of : Tree → List Lexeme) (front more : List Lexeme) → Begins tokens_of (front ++ more) → Begins tokens_of front
begins_front tokens_of front more b = record { tree = b.tree; more = more ++ b.more; spelled = sym (append_assoc front more b.more) ∙ b.spelled }

-- fewer tokens begin what more tokens begin
begins_take : {Tree : Type 0} (tokens_of : Tree → List Lexeme) (tokens : List Lexeme) (k j : ℕ) → k ≤ j → Begins tokens_of (take j tokens) → Begins tokens_of (take k tokens)
begins_take tokens_of tokens k j h b =
    let split : take j tokens ≡ take k tokens ++ drop k (take j tokens) =
    sym (take-append-drop k (take j tokens)) ∙ ap (λ l. l ++ drop k (take j tokens)) (take-take k j tokens h) in
    let P : List Lexeme → Type 0 = λ l. Begins tokens_of l in
    begins_front tokens_of (take k tokens) (drop k (take j tokens)) (subst P split b)

one_side : {Tree : Type 0} (tokens_of : Tree → List Lexeme) (tokens : List Lexeme) (k j : ℕ) → IsFaultAt tokens_of tokens k → IsFaultAt tokens_of tokens j → k < j → ⊥
one_side tokens_of tokens k j f g h = f.there (omega (arith, g.within)) (begins_take tokens_of tokens (suc k) j (omega arith) g.before)

-- there is one place
pub one_fault : {Tree : Type 0} (tokens_of : Tree → List Lexeme) (tokens : List Lexeme) (k j : ℕ) → IsFaultAt tokens_of tokens k → IsFaultAt tokens_of tokens j → k ≡ j
one_fault tokens_of tokens k j f g = low (cases_lt k j)
  where
    high : (j < k) ⊎ (k ≤ j) → j ≤ k → k ≡ j
    high (inl h) le = absurd (one_side tokens_of tokens j k g f h)
    high (inr h) le = omega arith

    low : (k < j) ⊎ (j ≤ k) → k ≡ j
    low (inl h) = absurd (one_side tokens_of tokens k j f g h)
    low (inr h) = high (cases_lt j k) h
