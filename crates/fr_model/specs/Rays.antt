-- Eventually periodic infinite words, which are ends of the tree of words, and their images (Nekrashevych, Self-Similar
-- Groups, chapter 1).
use Rattle.std.specs.Prelude.{ℕ, zero, suc, ◌≡◌, ◌≢◌, ◌≤◌, List, [], ◌++◌, length, take}
use Rattle.fr_model.specs.Words.{IsWord}
use Rattle.fr_model.specs.Terms.{Term, act}

-- a word so many times
abbrev pub repeated : List ℕ → ℕ → List ℕ
repeated v zero = []
repeated v (suc n) = v ++ repeated v n

-- the first letters of the ray that begins with u and goes on with v for ever
abbrev pub ray_prefix : List ℕ → List ℕ → ℕ → List ℕ
ray_prefix u v n = take n (u ++ repeated v n)

-- two ways to write one ray
abbrev pub IsSameRay : List ℕ → List ℕ → List ℕ → List ℕ → Type 0
IsSameRay u v u' v' = (n : ℕ) → ray_prefix u v n ≡ ray_prefix u' v' n

-- no shorter beginning and no shorter period write the same ray
pub record IsCanonicalRay (d : ℕ) (u v : List ℕ) : Type 0 where
  pub beginning : IsWord d u
  pub period : IsWord d v
  pub some : v ≢ []
  pub least_beginning : (u' v' : List ℕ) → v' ≢ [] → IsSameRay u v u' v' → length u ≤ length u'
  pub primitive : (u' v' : List ℕ) → v' ≢ [] → IsSameRay u v u' v' → length v ≤ length v'

-- each beginning of the second ray is the image of the beginning of the first of the same length
abbrev pub IsRayImage : Term → List ℕ → List ℕ → List ℕ → List ℕ → Type 0
IsRayImage t u v u' v' = (n : ℕ) → ray_prefix u' v' n ≡ act t (ray_prefix u v n)
