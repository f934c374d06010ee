-- What a run of reads took from a source, and what a run of writes gave to a sink, where the bytes are told. This project's own, over std's words for known bytes.
use Rattle.std.specs.Prelude.{◌≡◌, ℕ, ◌<◌, ◌≤◌, List, ◌++◌, length, Option, is_some}
use Rattle.std.specs.Io.KnownBytes.{Consumes, Appends, IsAtEnd}

-- told after exactly where it was told before
abbrev pub SameTold : Option (List ℕ) → Option (List ℕ) → Type 0
SameTold old new = is_some new ≡ is_some old

-- these first bytes of what was left are gone
pub record Took (old new : Option (List ℕ)) (bytes : List ℕ) : Type 0 where
  pub consumes : Consumes old new bytes
  pub told : SameTold old new

-- what was written grew by these
pub record Gave (old new : Option (List ℕ)) (bytes : List ℕ) : Type 0 where
  pub appends : Appends old new bytes
  pub told : SameTold old new

-- it grew by some first bytes of these, and not by all
pub record GavePart (old new : Option (List ℕ)) (bytes : List ℕ) : Type 0 where
  pub front : List ℕ
  pub back : List ℕ
  pub all : bytes ≡ front ++ back
  pub missing : 0 < length back
  pub gave : Gave old new front

-- some first bytes were taken, possibly none
pub record TookSome (old new : Option (List ℕ)) : Type 0 where
  pub bytes : List ℕ
  pub took : Took old new bytes

-- all bytes were taken, to the end
pub record TookAll (most : ℕ) (old new : Option (List ℕ)) (bytes : List ℕ) : Type 0 where
  pub took : Took old new bytes
  pub at_end : IsAtEnd new
  pub short : length bytes ≤ most

-- more bytes were taken than there may be
pub record TookTooMany (most : ℕ) (old new : Option (List ℕ)) : Type 0 where
  pub bytes : List ℕ
  pub took : Took old new bytes
  pub long : most < length bytes

-- at most so many bytes were taken
pub record TookFew (most : ℕ) (old new : Option (List ℕ)) : Type 0 where
  pub bytes : List ℕ
  pub took : Took old new bytes
  pub short : length bytes ≤ most
