-- Sources and sinks in memory, as contracts see them. This project's own.
use Rattle.std.specs.Prelude.{ℕ, List}

-- a source: the bytes left, the most that a call gives, the numbers of the calls that fail, and the calls and faults so far
pub record SourceView : Type 0 where
  pub left : List ℕ
  pub piece : ℕ
  pub fails : List ℕ
  pub calls : ℕ
  pub faults : ℕ

-- a sink: the bytes written, the room left, the most that a call takes, the numbers of the calls that fail, and the calls and faults so far
pub record SinkView : Type 0 where
  pub written : List ℕ
  pub room : ℕ
  pub take : ℕ
  pub fails : List ℕ
  pub calls : ℕ
  pub faults : ℕ
