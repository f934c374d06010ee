-- A list in an array of eight, filled up by zeros: how a permutation keeps its images.
use Rattle.std.specs.Prelude.{ℕ, ◌≡◌, ◌-◌, ◌≤◌, List, ◌++◌, length, take, drop, replicate}
use Rattle.std.proofs.Common.{ap, ◌∙◌, sym}
use Rattle.std.proofs.lemmas.List.{take-append-drop, take_at, drop_at}
use Rattle.fr_model.specs.Permutations.{IsPermutation}

-- the fields of a permutation: so many letters, at most eight, and zeros after the images
pub record IsPadded (d : ℕ) (images : List ℕ) : Type 0 where
  pub least : 2 ≤ d
  pub most : d ≤ 8
  pub permutes : IsPermutation d (take d images)
  pub zeros : drop d images ≡ replicate (8 - d) 0

-- the list with zeros after it
abbrev pub padded : List ℕ → List ℕ
padded p = p ++ replicate (8 - length p) 0

-- the images and the zeros are the array
pub padded_back : (d : ℕ) (images : List ℕ) → IsPadded d images → take d images ++ replicate (8 - d) 0 ≡ images
padded_back d images h = ap (λ l. take d images ++ l) (sym h.zeros) ∙ take-append-drop d images

-- images that are written into an array of zeros
pub IsPadded-from : (d : ℕ) (p : List ℕ) → 2 ≤ d → d ≤ 8 → IsPermutation d p → IsPadded d (padded p)
IsPadded-from d p a b s = record {
  least = a;
  most = b;
  permutes = rw (take_at p (replicate (8 - length p) 0) d s.degree) s;
  zeros = drop_at p (replicate (8 - length p) 0) d s.degree ∙ ap (λ n. replicate (8 - n) 0) s.degree;
}
