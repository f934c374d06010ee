-- Facts that are chosen by a test: that they determine a value, and that a value has them.
use Rattle.std.proofs.Common.{◌≡◌, ℕ, Bool, true, false, Option, Some, None, MatchBool}
use Rattle.std.specs.Prelude.{MatchOption}

-- where both choices determine a value, so does the choice
pub one_bool : {A : Type 0} (test : Bool) (P Q : A → Type 0) (a b : A) → (P a → P b → a ≡ b) → (Q a → Q b → a ≡ b) →
    MatchBool test (P a) (Q a) → MatchBool test (P b) (Q b) → a ≡ b
one_bool true P Q a b p q x y = p x y
one_bool false P Q a b p q x y = q x y

pub one_option : {A : Type 0} (test : Option ℕ) (P : A → Type 0) (Q : A → ℕ → Type 0) (a b : A) → (P a → P b → a ≡ b) → ((n : ℕ) → Q a n → Q b n → a ≡ b) →
    MatchOption test (P a) (Q a) → MatchOption test (P b) (Q b) → a ≡ b
one_option None P Q a b p q x y = p x y
one_option (Some n) P Q a b p q x y = q n x y

-- where both choices have a value, so has the choice
pub some_bool : {A : Type 0} (test : Bool) (P Q : A → Type 0) → ((a : A) × P a) → ((a : A) × Q a) → (a : A) × MatchBool test (P a) (Q a)
some_bool true P Q p q = p
some_bool false P Q p q = q

pub some_option : {A : Type 0} (test : Option ℕ) (P : A → Type 0) (Q : A → ℕ → Type 0) → ((a : A) × P a) → ((n : ℕ) → (a : A) × Q a n) →
    (a : A) × MatchOption test (P a) (Q a)
some_option None P Q p q = p
some_option (Some n) P Q p q = q n

pub both : {A : Type 0} {x a b : A} → a ≡ x → b ≡ x → a ≡ b
both p q = cc

-- where both choices give a fact, so does the choice
pub any_bool : {R : Type 0} (test : Bool) (P Q : Type 0) → (P → R) → (Q → R) → MatchBool test P Q → R
any_bool true P Q p q x = p x
any_bool false P Q p q x = q x

pub any_option : {R : Type 0} (test : Option ℕ) (P : Type 0) (Q : ℕ → Type 0) → (P → R) → ((n : ℕ) → Q n → R) → MatchOption test P Q → R
any_option None P Q p q x = p x
any_option (Some n) P Q p q x = q n x
