-- Where tokens stop to begin what a grammar derives. A grammar is given by its trees and their tokens.
use Rattle.std.specs.Prelude.{ℕ, suc, ◌≡◌, ◌≢◌, ◌<◌, ◌≤◌, List, ◌++◌, length, take}
use Rattle.fr_syntax.specs.Tokens.{Lexeme}

-- something that the grammar derives begins so
pub record Begins {Tree : Type 0} (tokens_of : Tree → List Lexeme) (front : List Lexeme) : Type 0 where
  pub tree : Tree
  pub more : List Lexeme
  pub spelled : front ++ more ≡ tokens_of tree

-- The grammar does not derive the tokens. Those before the one with the index k begin something that it derives,
-- and with that one they begin nothing. Where all begin something, k is their number.
pub record IsFaultAt {Tree : Type 0} (tokens_of : Tree → List Lexeme) (tokens : List Lexeme) (k : ℕ) : Type 0 where
  pub within : k ≤ length tokens
  pub before : Begins tokens_of (take k tokens)
  pub there : k < length tokens → ¬ Begins tokens_of (take (suc k) tokens)
  pub derived : (tree : Tree) → tokens ≢ tokens_of tree
