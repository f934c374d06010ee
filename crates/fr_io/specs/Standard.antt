-- Readers and writers of the standard library, as contracts see them. This project's own.
use Rattle.std.specs.Prelude.{ℕ}

-- a reader or a writer with its count of faults
pub record Counted (X : Type 0) : Type 0 where
  pub inner : X
  pub faults : ℕ
