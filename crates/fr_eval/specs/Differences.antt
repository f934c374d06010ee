-- Words of one length at which two elements have the same images.
use Rattle.std.specs.Prelude.{ℕ, ◌≡◌, List, length}
use Rattle.fr_model.specs.Words.{IsWord}
use Rattle.fr_model.specs.Terms.{Term, act}

-- the images of each word of n letters are the same
abbrev pub AgreeOn : ℕ → Term → Term → ℕ → Type 0
AgreeOn d t u n = (w : List ℕ) → IsWord d w → length w ≡ n → act t w ≡ act u w
