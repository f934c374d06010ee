-- What contracts see of a store of elements: a map from the numbers of handles to codes, and numbers that say how full the
-- store is. A term is tied to a handle by its code. This project's own.
use Rattle.std.specs.Prelude.{ℕ, ◌≡◌, ◌⊎◌, ◌+◌, ◌<◌, ◌≤◌, List, [], ◌∷◌, Option, Some, Result, Ok, Err, unwrap_or}
use Rattle.fr_model.specs.Words.{IsWord}
use Rattle.fr_model.specs.Terms.{Term, Product, Inverse, Section, IsTerm}
use Rattle.fr_model.specs.Classes.{IsClassCount, HasFewPairs}
use Rattle.fr_model.specs.Canonical.{IsCode}
use Rattle.fr_store.specs.declared.handle.Handle.{Handle}
use Rattle.fr_store.specs.declared.handle.Full.{Full}

-- all that contracts see of a store
pub record View (S : Type 0) : Type 1 where
  -- how many letters its elements are over
  pub alphabet : S → ℕ
  -- how many rows may be claimed in all
  pub capacity : S → ℕ
  -- the code of the handle of a number
  pub known : S → ℕ → Option (List ℕ)
  -- how many rows were claimed through this value
  pub own : S → ℕ
  -- the greatest claimed number that this value has met
  pub seen : S → ℕ
  -- both are states of one store
  pub kin : S → S → Type 0
  -- the look-up of a code, in the call that led from one state to the other, did not meet it
  pub missed : List ℕ → S → S → Type 0
  -- the last step on the claimed number, in the call that led from one state to the other, gave this one
  pub gave : ℕ → S → S → Type 0

-- the code of a known handle
abbrev pub known_code : (ℕ → Option (List ℕ)) → Handle → List ℕ
known_code known h = unwrap_or (known h.node) []

-- the handle is known
abbrev pub IsKnown : (ℕ → Option (List ℕ)) → Handle → Type 0
IsKnown known h = known h.node ≡ Some (known_code known h)

-- the handle is known, and is that of the element for which the term stands
pub record StandsForTerm (d : ℕ) (known : ℕ → Option (List ℕ)) (h : Handle) (t : Term) : Type 0 where
  pub term : IsTerm d t
  pub code : List ℕ
  pub is_code : IsCode d t code
  pub at : known h.node ≡ Some code

-- the handle is known in this state of a store, and is that of the element for which the term stands
abbrev pub Stands : {S : Type 0} → View S → S → Handle → Term → Type 0
Stands view s h t = StandsForTerm (view.alphabet s) (view.known s) h t

-- no handle is that of the element for which the term stands
abbrev pub IsUnknown : ℕ → (ℕ → Option (List ℕ)) → Term → Type 0
IsUnknown d known t = (n : ℕ) (code : List ℕ) → known n ≡ Some code → ¬ IsCode d t code

-- numbers have codes of elements, no two the same, and each section of an element that has a number has one
pub record AreHandles (d : ℕ) (known : ℕ → Option (List ℕ)) : Type 0 where
  pub distinct : (n m : ℕ) (code : List ℕ) → known n ≡ Some code → known m ≡ Some code → n ≡ m
  pub elements : (n : ℕ) (code : List ℕ) → known n ≡ Some code → (t : Term) × IsTerm d t × IsCode d t code
  pub closed : (h : Handle) (t : Term) (w : List ℕ) → StandsForTerm d known h t → IsWord d w → (k : Handle) × StandsForTerm d known k (Section t w)

-- so many numbers are those of handles
abbrev pub IsHandleCount : (ℕ → Option (List ℕ)) → ℕ → Type 0
IsHandleCount known count = IsClassCount (λ n. (code : List ℕ) × (known n ≡ Some code)) (λ n m. n ≡ m) count

-- what was known stays known
abbrev pub Keeps : (ℕ → Option (List ℕ)) → (ℕ → Option (List ℕ)) → Type 0
Keeps old new = (n : ℕ) (code : List ℕ) → old n ≡ Some code → new n ≡ Some code

-- nothing became known or unknown
abbrev pub SameKnown : (ℕ → Option (List ℕ)) → (ℕ → Option (List ℕ)) → Type 0
SameKnown old new = (n : ℕ) → new n ≡ old n

-- the code is that of a section of the term
abbrev pub IsSectionCode : ℕ → Term → List ℕ → Type 0
IsSectionCode d t code = (w : List ℕ) × IsWord d w × IsCode d (Section t w) code

-- the code is that of a section of one of the terms
abbrev pub IsSectionCodeOfOne : ℕ → List Term → List ℕ → Type 0
IsSectionCodeOfOne d [] code = ⊥
IsSectionCodeOfOne d (t ∷ ts) code = IsSectionCode d t code ⊎ IsSectionCodeOfOne d ts code

-- what was known stays known, and what became known is a section of one of the terms
pub record GrowsBy (d : ℕ) (old new : ℕ → Option (List ℕ)) (values : List Term) : Type 0 where
  pub keeps : Keeps old new
  pub only : (n : ℕ) (code : List ℕ) → new n ≡ Some code → (old n ≡ Some code) ⊎ IsSectionCodeOfOne d values code

-- a state that a call may leave
pub record Continues {S : Type 0} (view : View S) (old new : S) : Type 0 where
  pub alphabet : view.alphabet new ≡ view.alphabet old
  pub capacity : view.capacity new ≡ view.capacity old
  pub seen : view.seen old ≤ view.seen new
  pub kin : view.kin old new

-- the look-up of the element of a term, in the call that led from one state to the other, did not meet it
abbrev pub Misses : {S : Type 0} → View S → Term → S → S → Type 0
Misses view t old new = (code : List ℕ) → IsCode (view.alphabet old) t code → view.missed code old new

-- the look-up of the element of a term, in the call that led from one state to the other, met it
abbrev pub Meets : {S : Type 0} → View S → Term → S → S → Type 0
Meets view t old new = (code : List ℕ) → IsCode (view.alphabet old) t code → ¬ view.missed code old new

-- the element of a term was claimed with so many rows: it was not known, its look-up did not meet it, and there was room
pub record Claims {S : Type 0} (view : View S) (t : Term) (size : ℕ) (old new : S) : Type 0 where
  pub own : view.own new ≡ view.own old + size
  pub rises : view.seen old + size ≤ view.seen new
  pub fits : view.seen new ≤ view.capacity old
  pub unknown : IsUnknown (view.alphabet old) (view.known old) t
  pub missed : Misses view t old new

-- the element of a term has this handle, and its sections and nothing else became known with it; it was claimed, or its
-- look-up met it and nothing was claimed
pub record IsInterned {S : Type 0} (view : View S) (t : Term) (size : ℕ) (old new : S) (h : Handle) : Type 0 where
  pub handle : StandsForTerm (view.alphabet old) (view.known new) h t
  pub grows : GrowsBy (view.alphabet old) (view.known old) (view.known new) (t ∷ [])
  pub claim : ((view.own new ≡ view.own old) × Meets view t old new) ⊎ Claims view t size old new

-- the element of a term was not known, its look-up did not meet it, and a claim of so many rows would have passed the
-- capacity
pub record IsFull {S : Type 0} (view : View S) (t : Term) (size : ℕ) (old new : S) (f : Full) : Type 0 where
  pub asked : f.asked ≡ size
  pub passes : view.capacity old < f.before + f.asked
  pub within : f.before ≤ view.capacity old
  pub unknown : IsUnknown (view.alphabet old) (view.known old) t
  pub missed : Misses view t old new
  pub known : SameKnown (view.known old) (view.known new)
  pub own : view.own new ≡ view.own old
  pub gave : view.gave f.before old new
  pub seen : f.before ≤ view.seen new

-- what intern answers for a term whose element has so many states
abbrev pub Interns : {S : Type 0} → View S → Term → ℕ → S → S → Result Handle Full → Type 0
Interns view t size old new (Ok h) = IsInterned view t size old new h
Interns view t size old new (Err f) = IsFull view t size old new f

-- a call that makes nothing known and claims nothing
pub record Reads {S : Type 0} (view : View S) (old new : S) : Type 0 where
  pub known : SameKnown (view.known old) (view.known new)
  pub own : view.own new ≡ view.own old
  pub continues : Continues view old new

-- c is the handle of the product of the elements of a and b, which have few pairs
pub record IsProductOf (d : ℕ) (known : ℕ → Option (List ℕ)) (a b c : Handle) : Type 0 where
  pub first : Term
  pub second : Term
  pub first_at : StandsForTerm d known a first
  pub second_at : StandsForTerm d known b second
  pub product_at : StandsForTerm d known c (Product first second)
  pub few : HasFewPairs d first second

-- b is the handle of the inverse of the element of a
pub record IsInverseOf (d : ℕ) (known : ℕ → Option (List ℕ)) (a b : Handle) : Type 0 where
  pub element : Term
  pub element_at : StandsForTerm d known a element
  pub inverse_at : StandsForTerm d known b (Inverse element)

-- the product of two terms has this handle, and its sections and nothing else became known with it
pub record IsRecalled (d : ℕ) (t u : Term) (old new : ℕ → Option (List ℕ)) (h : Handle) : Type 0 where
  pub handle : StandsForTerm d new h (Product t u)
  pub few : HasFewPairs d t u
  pub grows : GrowsBy d old new (Product t u ∷ [])
