-- Where the canonical form of a ray stands in a list of letters that the ray begins with. The last letters of the list, from
-- a place on, are repeated for ever. Primitive words are those of Lothaire, Combinatorics on Words.
use Rattle.std.specs.Prelude.{ℕ, suc, ◌≡◌, ◌≢◌, ◌+◌, ◌*◌, ◌<◌, ◌≤◌, List, length, slice_index, drop}
use Rattle.fr_model.specs.Rays.{IsSameRay, IsCanonicalRay}

-- a word is so many times its first p letters
pub record IsPeriod (v : List ℕ) (p : ℕ) : Type 0 where
  pub some : 0 < p
  pub times : ℕ
  pub whole : length v ≡ times * p
  pub again : (i : ℕ) → i + p < length v → slice_index v (i + p) ≡ slice_index v i

-- there is no such p that is smaller
pub record IsPrimitive (v : List ℕ) (p : ℕ) : Type 0 where
  pub period : IsPeriod v p
  pub least : (q : ℕ) → q < p → ¬ IsPeriod v q

-- from b on the letters before the start are those that stand p places behind them, and the one before b is not
pub record IsRolled (w : List ℕ) (start p b : ℕ) : Type 0 where
  pub within : b ≤ start
  pub again : (i : ℕ) → b ≤ i → i < start → slice_index w (i + p) ≡ slice_index w i
  pub stops : (i : ℕ) → suc i ≡ b → slice_index w (i + p) ≢ slice_index w i

-- the canonical form has b letters before a period of p letters, and not too many
pub record IsForm (w : List ℕ) (start b p : ℕ) : Type 0 where
  pub primitive : IsPrimitive (drop start w) p
  pub rolled : IsRolled w start p b
  pub most : b + p ≤ 4096

-- the canonical form, where it has more than 4096 letters
pub record IsLongRay (d : ℕ) (u v : List ℕ) : Type 0 where
  pub before : List ℕ
  pub period : List ℕ
  pub canonical : IsCanonicalRay d before period
  pub same : IsSameRay u v before period
  pub long : 4096 < length before + length period
