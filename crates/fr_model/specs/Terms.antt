-- Terms over systems, their action on words, and when two act alike. Terms act from the right: a product acts first by
-- its first factor. Sections are those of Nekrashevych, Self-Similar Groups, chapter 1.
use Rattle.std.specs.Prelude.{ℕ, ◌≡◌, ◌<◌, if◌then◌else◌, true, false, List, [], ◌∷◌, ◌++◌, length, drop}
use Rattle.fr_model.specs.Words.{IsWord}
use Rattle.fr_model.specs.Systems.{Factor, System, IsSystem, act_product}

-- the identity, a name of a system, an inverse, a product, and the section of a term at a word
pub data Term : Type 0 where
  One : Term
  Name : System → ℕ → Term
  Inverse : Term → Term
  Product : Term → Term → Term
  Section : Term → List ℕ → Term

-- the image of a word under a term, and the word whose image it is
abbrev mutual
  pub act : Term → List ℕ → List ℕ
  act One w = w
  act (Name s n) w = act_product s (record { name = n; inverse = false } ∷ []) w
  act (Inverse t) w = back t w
  act (Product t u) w = act u (act t w)
  act (Section t v) w = drop (length v) (act t (v ++ w))

  pub back : Term → List ℕ → List ℕ
  back One w = w
  back (Name s n) w = act_product s (record { name = n; inverse = true } ∷ []) w
  back (Inverse t) w = act t w
  back (Product t u) w = back t (back u w)
  back (Section t v) w = drop (length v) (back t (act t v ++ w))

-- a name or an inverse of a name as a term
abbrev pub factor_term : System → Factor → Term
factor_term s f = if f.inverse then Inverse (Name s f.name) else Name s f.name

-- a product of such as a term
abbrev pub product_term : System → List Factor → Term
product_term s [] = One
product_term s (f ∷ fs) = Product (factor_term s f) (product_term s fs)

-- a term over d letters
abbrev pub IsTerm : ℕ → Term → Type 0
IsTerm d One = Unit {0}
IsTerm d (Name s n) = IsSystem d s × (n < length s)
IsTerm d (Inverse t) = IsTerm d t
IsTerm d (Product t u) = IsTerm d t × IsTerm d u
IsTerm d (Section t v) = IsTerm d t × IsWord d v

-- both send each list to the same list. A number that is no letter stays, with all that follows it, so
-- this says the same as: both send each word of the alphabet to the same word
pub record IsAlike (t u : Term) : Type 0 where
  pub images : (w : List ℕ) → act t w ≡ act u w
