-- The laws of rays and of nuclei: a ray has one canonical form and one image, and a nucleus and its depth are determined.
use Rattle.std.specs.Prelude.{ℕ, ◌≡◌, ◌<◌, ◌↔◌, List, length, Contains}
use Rattle.fr_model.specs.Terms.{Term, IsAlike}
use Rattle.fr_model.specs.Automata.{State, IsAutomaton, IsLimitStateFrom, state_term}
use Rattle.fr_model.specs.Rays.{IsSameRay, IsCanonicalRay, IsRayImage}
use Rattle.fr_model.specs.Nuclei.{IsLimitSection, IsGeneratorSection, IsNucleusMember, IsNucleus, IsNucleusDepth}

-- a ray has one canonical form; two images of a ray are the same ray, and terms that act alike have the same images
pub record RaysAreDetermined : Type 0 where
  pub one_form : (d : ℕ) (u v u' v' : List ℕ) → IsCanonicalRay d u v → IsCanonicalRay d u' v' → IsSameRay u v u' v' → (u ≡ u') × (v ≡ v')
  pub one_image : (t : Term) (u v a b a' b' : List ℕ) → IsRayImage t u v a b → IsRayImage t u v a' b' → IsSameRay a b a' b'
  pub same_rays : (t : Term) (u v u' v' a b : List ℕ) → IsSameRay u v u' v' → IsRayImage t u v a b → IsRayImage t u' v' a b
  pub alike_images : (t t' : Term) (u v a b : List ℕ) → IsAlike t t' → IsRayImage t u v a b → IsRayImage t' u v a b

-- limit sections and members are taken up to acting alike; two nuclei of one list of generators have alike members, and
-- one depth
pub record NucleiAreDetermined : Type 0 where
  pub alike_limits : (d : ℕ) (t u h f : Term) → IsAlike t u → IsAlike h f → IsLimitSection d t h → IsLimitSection d u f
  pub alike_members : (d : ℕ) (gens : List Term) (h f : Term) → IsAlike h f → IsNucleusMember d (IsGeneratorSection d gens) h → IsNucleusMember d (IsGeneratorSection d gens) f
  pub one_nucleus : (d : ℕ) (gens : List Term) (ns ms : List Term) → IsNucleus d (IsGeneratorSection d gens) ns → IsNucleus d (IsGeneratorSection d gens) ms → (n : Term) → Contains ns n → (m : Term) × Contains ms m × IsAlike n m
  pub one_depth : (d : ℕ) (gens : List Term) (k l : ℕ) → IsNucleusDepth d (IsGeneratorSection d gens) k → IsNucleusDepth d (IsGeneratorSection d gens) l → k ≡ l

-- the limit sections of a state are the states that it reaches through a cycle, up to acting alike
pub record LimitsAreStates : Type 0 where
  pub limits : (d : ℕ) (qs : List State) (s : ℕ) (h : Term) → IsAutomaton d qs → s < length qs → IsLimitSection d (state_term qs s) h ↔ ((r : ℕ) × IsLimitStateFrom d qs s r × IsAlike (state_term qs r) h)
