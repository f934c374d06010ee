-- What the pieces that were drawn say of the jobs, which a function of this crate proves.
use Rattle.std.specs.Prelude.{◌≡◌, ℕ, ◌≤◌}
use Rattle.fr_line.specs.Lines.{below, Whole}
use Rattle.fr_board.specs.Dealing.{IsPieceCount, IsSettled, times}
use Rattle.fr_board.specs.Boards.{jobs_in}
use Rattle.fr_board.specs.declared.notes.Drawn.{Drawn}

-- right after a step of a draw
pub record JobsAreDrawnOnce : Type 0 where
  -- each job was drawn at most once, by whichever draws were joined so far
  pub once : (jobs grain : ℕ) (v : Drawn) → IsPieceCount jobs grain v.limit → IsSettled v → (k : ℕ) → times k (jobs_in grain jobs v.pieces) ≤ below k jobs
  -- all pieces were drawn, where all draws are joined and no piece is left
  pub pieces : (v : Drawn) → IsSettled v → Whole v.line → v.seen ≡ v.limit → (p : ℕ) → times p v.pieces ≡ below p v.limit
  -- and so was each job, once
  pub all : (jobs grain : ℕ) (v : Drawn) → IsPieceCount jobs grain v.limit → IsSettled v → Whole v.line → v.seen ≡ v.limit → (k : ℕ) → times k (jobs_in grain jobs v.pieces) ≡ below k jobs
