-- What statements that ask answer of elements: their texts, in this project's own notation, the steps that they make beside
-- those of their expressions, and the faults that end them.
use Rattle.std.specs.Prelude.{ℕ, zero, suc, ◌≡◌, ◌⊎◌, ◌+◌, ◌<◌, ◌≤◌, List, [], ◌∷◌, ◌++◌, length, map, codes, slice_index_or, Option, Some, None, Result, Ok, Err}
use Rattle.std.specs.Fmt.{decimal}
use Rattle.fr_model.specs.Terms.{Term, One, Product, act, IsAlike}
use Rattle.fr_model.specs.Automata.{State, state_at}
use Rattle.fr_model.specs.Classes.{IsSize, HasMoreThan}
use Rattle.fr_model.specs.Canonical.{IsCanonical, code_of}
use Rattle.fr_model.specs.Separation.{IsLexBefore, IsSeparation}
use Rattle.fr_model.specs.Nuclei.{IsGeneratorSection, IsNucleusMember, IsNucleusDepth}
use Rattle.fr_model.specs.Rays.{IsCanonicalRay, IsRayImage}
use Rattle.fr_alphabet.specs.Writing.{word_text}
use Rattle.fr_canon.specs.Texts.{machine_text, wreath_text}
use Rattle.fr_growth.specs.declared.growth_class.Class.{Class}
use Rattle.fr_growth.specs.Classes.{IsClass}
use Rattle.fr_growth.specs.Texts.{class_text}
use Rattle.fr_ray.specs.Rays.{RayView, IsLongImage}
use Rattle.fr_ray.specs.Writing.{ray_text}
use Rattle.fr_script.specs.declared.fault.LineFault.{LineFault}
use Rattle.fr_script.specs.declared.fault.LineFault.TheVariants as f
use Rattle.fr_plain.specs.Steps.{Step, Multiplied, Listed, IsRefused, AreEvaluated}

-- how a statement ends whose expressions are evaluated: the steps that it evaluates beside, their charge, and its text or fault
pub record Ending : Type 0 where
  pub steps : List Step
  pub charge : ℕ
  pub answer : Result (List ℕ) LineFault

-- no step beside, and the text
abbrev pub says : List ℕ → Ending
says text = record { steps = []; charge = 0; answer = Ok text }

-- no step beside, and the fault
abbrev pub fails : LineFault → Ending
fails fault = record { steps = []; charge = 0; answer = Err fault }

-- a text and a newline (10)
abbrev pub line_of : List ℕ → List ℕ
line_of text = text ++ 10 ∷ []

-- the minimal automaton of the element, its states numbered as a breadth-first walk meets them
pub record AnswersShow (d : ℕ) (t : Term) (e : Ending) : Type 0 where
  pub states : List State
  pub canonical : IsCanonical d t states
  pub ends : e ≡ says (machine_text states)

-- how many states the minimal automaton has
pub record AnswersStates (d : ℕ) (t : Term) (e : Ending) : Type 0 where
  pub size : ℕ
  pub is_size : IsSize d t size
  pub ends : e ≡ says (line_of (decimal size))

-- the first state of the minimal automaton
pub record AnswersWreath (d : ℕ) (t : Term) (e : Ending) : Type 0 where
  pub states : List State
  pub canonical : IsCanonical d t states
  pub ends : e ≡ says (line_of (wreath_text (state_at states 0)))

-- how the activity of the element grows
pub record AnswersClass (d : ℕ) (t : Term) (e : Ending) : Type 0 where
  pub class : Class
  pub is_class : IsClass d t class
  pub ends : e ≡ says (line_of (class_text class))

-- `equal`, or the shortlex least word at which the images differ, and both images
abbrev pub comparison_text : Term → Term → Option (List ℕ) → List ℕ
comparison_text t u None = codes "equal"
comparison_text t u (Some w) = codes "differ at " ++ word_text w ++ codes ": " ++ word_text (act t w) ++ codes " / " ++ word_text (act u w)

-- whether two elements are equal
pub record AnswersEq (d : ℕ) (t u : Term) (e : Ending) : Type 0 where
  pub found : Option (List ℕ)
  pub separates : IsSeparation d t u found
  pub ends : e ≡ says (line_of (comparison_text t u found))

-- the image of a word
abbrev pub AnswersAct : Term → List ℕ → Ending → Type 0
AnswersAct t w e = e ≡ says (line_of (word_text (act t w)))

-- the text of the canonical image, where that has at most 4,096 letters
pub record IsShortImage (d : ℕ) (t : Term) (ray : RayView) (text : List ℕ) : Type 0 where
  pub image : RayView
  pub canonical : IsCanonicalRay d image.before image.period
  pub is_image : IsRayImage t ray.before ray.period image.before image.period
  pub short : length image.before + length image.period ≤ 4096
  pub text_is : text ≡ ray_text image

-- the image of a ray, or that it has more letters
abbrev pub AnswersRay : ℕ → Term → RayView → Ending → Type 0
AnswersRay d t ray e = ((text : List ℕ) × IsShortImage d t ray text × (e ≡ says (line_of text))) ⊎ (IsLongImage d t ray × (e ≡ fails f.RayPassed))

-- the power of an element with the exponent k + 1, multiplied from the left
abbrev pub power : Term → ℕ → Term
power t zero = t
power t (suc k) = Product (power t k) t

-- the products that make the power with the exponent k + 1, beginning with the square
abbrev pub power_steps : Term → ℕ → List Step
power_steps t zero = []
power_steps t (suc k) = power_steps t k ++ Multiplied (power t k) t ∷ []

-- none of the first k powers, beginning with t, is the identity
abbrev pub HasNoOrder : Term → ℕ → Type 0
HasNoOrder t k = (j : ℕ) → j < k → ¬ IsAlike (power t j) One

-- the powers of the element one after the other, until one is the identity, and at most as many as the bound says
pub data AnswersOrder (d : ℕ) (t : Term) (bound : ℕ) : Ending → Type 0 where
  -- the power with the exponent k + 1 is the first that is the identity
  found : (k n : ℕ) → k < bound → HasNoOrder t k → IsAlike (power t k) One → AreEvaluated d (power_steps t k) n
      → AnswersOrder d t bound (record { steps = power_steps t k; charge = n; answer = Ok (line_of (decimal (suc k))) })
  -- the bound is 0
  none : bound ≡ 0 → AnswersOrder d t bound (says (line_of (codes "passes " ++ decimal 0)))
  -- none up to the bound is the identity
  passed : (k n : ℕ) → bound ≡ suc k → HasNoOrder t bound → AreEvaluated d (power_steps t k) n
      → AnswersOrder d t bound (record { steps = power_steps t k; charge = n; answer = Ok (line_of (codes "passes " ++ decimal bound)) })
  -- the next power is refused before one is the identity
  refused : (k n : ℕ) (fault : LineFault) → suc k < bound → HasNoOrder t (suc k) → AreEvaluated d (power_steps t k) n → IsRefused d (Multiplied (power t k) t) fault
      → AnswersOrder d t bound (record { steps = power_steps t k; charge = n; answer = Err fault })

-- an automaton before another: by the number of its states, then by its code
abbrev pub IsListedBefore : List State → List State → Type 0
IsListedBefore ps qs = (length ps < length qs) ⊎ ((length ps ≡ length qs) × IsLexBefore (code_of ps) (code_of qs))

-- the canonical automata of the members of a nucleus, each once, in order
pub record AreMembers (d : ℕ) (Q : Term → Type 0) (members : List Term) (automata : List (List State)) : Type 0 where
  pub count : length automata ≡ length members
  pub member : (i : ℕ) → i < length members → IsNucleusMember d Q (slice_index_or members i One)
  pub canonical : (i : ℕ) → i < length members → IsCanonical d (slice_index_or members i One) (slice_index_or automata i [])
  pub whole : (t : Term) → IsNucleusMember d Q t → (i : ℕ) × (i < length members) × IsAlike t (slice_index_or members i One)
  pub ordered : (i j : ℕ) → i < j → j < length members → IsListedBefore (slice_index_or automata i []) (slice_index_or automata j [])

-- members from the number i on, each with its number
abbrev pub elements_text : ℕ → List (List State) → List ℕ
elements_text i [] = []
elements_text i (qs ∷ rest) = line_of (codes "element " ++ decimal i) ++ machine_text qs ++ elements_text (suc i) rest

-- the number of members and the depth, and the members
abbrev pub nucleus_text : List (List State) → ℕ → List ℕ
nucleus_text automata depth = line_of (codes "nucleus " ++ decimal (length automata) ++ codes " depth " ++ decimal depth) ++ elements_text 1 automata

-- the generators have at most 64 sections, those of their inverses and 1 among them, up to acting alike
abbrev pub HasFewSections : ℕ → List Term → Type 0
HasFewSections d gens = ¬ HasMoreThan (IsGeneratorSection d gens) IsAlike 64

-- the nucleus of the group that the elements and all their sections generate: its depth and its members, or why it is not
-- given
pub data AnswersNucleus (d : ℕ) (gens : List Term) : Ending → Type 0 where
  found : (members : List Term) (automata : List (List State)) (depth n : ℕ) → HasFewSections d gens
      → AreMembers d (IsGeneratorSection d gens) members automata → length members ≤ 256
      → IsNucleusDepth d (IsGeneratorSection d gens) depth → AreEvaluated d (map Listed members) n
      → AnswersNucleus d gens (record { steps = map Listed members; charge = n; answer = Ok (nucleus_text automata depth) })
  many_sections : HasMoreThan (IsGeneratorSection d gens) IsAlike 64 → AnswersNucleus d gens (fails f.TooManySections)
  passed : HasFewSections d gens → HasMoreThan (IsNucleusMember d (IsGeneratorSection d gens)) IsAlike 256 → AnswersNucleus d gens (fails f.NucleusPassed)
