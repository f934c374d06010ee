-- The identity: its sections, its canonical automaton, its square, and its nucleus.
use Rattle.std.proofs.Common.{ℕ, zero, suc, ◌≡◌, ◌<◌, ◌≤◌, inl, inr, List, [], ◌∷◌, length, get_or, refl, ap, arith}
use Rattle.std.specs.Prelude.{Contains}
use Rattle.std.specs.List.{IsDistinct}
use Rattle.std.proofs.lemmas.List.Elements.{All-from_recursion, All-get_or}
use Rattle.fr_model.specs.Words.{IsLetter, IsWord}
use Rattle.fr_model.specs.Permutations.{image}
use Rattle.fr_model.specs.Automata.{state_at, IsState}
use Rattle.fr_model.specs.Terms.{Term, One, Inverse, Product, Section, act, IsAlike}
use Rattle.fr_model.specs.Classes.{IsSize, IsPairCount}
use Rattle.fr_model.specs.Separation.{IsShortlexBefore}
use Rattle.fr_model.specs.Canonical.{IsLeastWord, IsCanonical}
use Rattle.fr_model.specs.Nuclei.{IsNucleusMember, IsNucleusDepth, IsGeneratorSection}
use Rattle.fr_model.specs.Nuclei.IsGeneratorSection.{one, section, inverse}
use Rattle.fr_model.specs.Nuclei.IsNucleusMember.{of_generator, of_product}
use Rattle.fr_model.proofs.AlikeLaws.{alike_refl, alike_sym, alike_trans, alike_product, alike_section}
use Rattle.fr_model.proofs.ClassLaws.{IsSize-alike}
use Rattle.fr_model.proofs.GrowthLaws.{section_one}
use Rattle.fr_model_examples.specs.Automata.{identity_states}
use Rattle.fr_plain.specs.Steps.{Multiplied, IsCharged}
use Rattle.fr_plain.specs.Answers.{AreMembers, HasFewSections}

-- all sections of the identity are the identity
sections_alike : (v w : List ℕ) → IsAlike (Section One v) (Section One w)
sections_alike v w = alike_trans (section_one v) (alike_sym (section_one w))

pub size_one : IsSize 2 One 1
size_one = record {
  members = [] ∷ [];
  count = refl;
  valid = All-from_recursion (IsWord 2) ([] ∷ []) (tt, tt);
  apart = λ i j a l h same. absurd (omega arith);
  covers = λ v h. (0, omega arith, sections_alike v []);
}

one_pair : IsPairCount 2 One One 1
one_pair = record {
  members = [] ∷ [];
  count = refl;
  valid = All-from_recursion (IsWord 2) ([] ∷ []) (tt, tt);
  apart = λ i j a l h same. absurd (omega arith);
  covers = λ v h. (0, omega arith, (sections_alike v [], sections_alike v []));
}

one_one : IsAlike (Product One One) One
one_one = record { images = λ w. refl }

pub ones_charged : IsCharged 2 (Multiplied One One) 1
ones_charged = ((1, omega arith, one_pair), (omega arith, IsSize-alike 2 One (Product One One) 1 (alike_sym one_one) size_one))

pub size_ones : IsSize 2 (Product One One) 1
size_ones = IsSize-alike 2 One (Product One One) 1 (alike_sym one_one) size_one

-- ---- the canonical automaton
stay : IsState 2 1 (state_at identity_states 0)
unfolding IsDistinct
stay = record {
  permutes = record { degree = refl; letters = ((omega arith, omega arith), ((omega arith, omega arith), tt)); distinct = ((refl, tt), (tt, tt)) };
  arity = refl;
  below = All-from_recursion (λ n. n < 1) (0 ∷ 0 ∷ []) (omega arith, (omega arith, tt));
}

nothing_before : (w : List ℕ) → IsShortlexBefore w [] → ⊥
nothing_before w (inl h) = omega arith
nothing_before [] (inr h) = h.1
nothing_before (x ∷ w) (inr h) = h.1

only_empty : (v : List ℕ) → IsLeastWord 2 One v → v ≡ []
only_empty [] h = refl
only_empty (x ∷ v) h = absurd (h.least [] tt (inl (omega arith)) (sections_alike [] (x ∷ v)))

letter_stays : (x : ℕ) → IsLetter 2 x → x ≡ image (1 ∷ 2 ∷ []) x
letter_stays zero h = absurd (omega (arith, h.0))
letter_stays (suc zero) h = refl
letter_stays (suc (suc zero)) h = refl
letter_stays (suc (suc (suc k))) h = absurd (omega (arith, h.1))

outputs : (k x : ℕ) → k < 1 → IsLetter 2 x → act (Section One (get_or ([] ∷ []) k [])) (x ∷ []) ≡ image (state_at identity_states k).perm x ∷ []
outputs zero x h l = ap (λ (y : ℕ). y ∷ []) (letter_stays x l)
outputs (suc k) x h l = absurd (omega arith)

pub canonical : IsCanonical 2 One identity_states
canonical = record {
  automaton = All-from_recursion (IsState 2 1) identity_states (stay, tt);
  words = [] ∷ [];
  count = refl;
  least = λ k h. least k h;
  ordered = λ j k a b. absurd (omega arith);
  whole = λ v h. (0, omega arith, only_empty v h);
  outputs = outputs;
  nexts = λ k x h l. sections_alike _ _;
}
  where
    least : (k : ℕ) → k < 1 → IsLeastWord 2 One (get_or ([] ∷ []) k [])
    least zero h = record { valid = tt; least = λ w k b same. nothing_before w b }
    least (suc k) h = absurd (omega arith)

-- ---- the nucleus
abbrev pub Sections : Term → Type 0
Sections = IsGeneratorSection 2 (One ∷ [])

is_one : (g : Term) → Contains (One ∷ []) g → One ≡ g
is_one g c = go c.0 c.1 c.2
  where
    go : (k : ℕ) → k < 1 → get_or (One ∷ []) k g ≡ g → One ≡ g
    go zero h e = e
    go (suc k) h e = absurd (omega arith)

inverse_one : IsAlike (Inverse One) One
inverse_one = record { images = λ w. refl }

generator_one : {q : Term} → Sections q → IsAlike q One
generator_one one = alike_refl One
generator_one (section {g = g} c v h) = rw (← is_one g c) (section_one v)
generator_one (inverse {g = g} c v h) = rw (← is_one g c) (alike_trans (alike_section v inverse_one) (section_one v))

product_one : {p q : Term} → IsAlike p One → IsAlike q One → IsAlike (Product p q) One
product_one h k = alike_trans (alike_product h k) one_one

section_alike : {t : Term} (v : List ℕ) → IsAlike t One → IsAlike (Section t v) One
section_alike v h = alike_trans (alike_section v h) (section_one v)

pub member_one : {h : Term} → IsNucleusMember 2 Sections h → IsAlike h One
member_one (of_generator {q = q} k l) = let r = l 0 in alike_trans (alike_sym r.3) (section_alike r.0 (generator_one k))
member_one (of_product {g = g} {q = q} m k l) = let r = l 0 in alike_trans (alike_sym r.3) (section_alike r.0 (product_one (member_one m) (generator_one k)))

ones : ℕ → List ℕ
ones zero = []
ones (suc n) = 1 ∷ ones n

ones_word : (n : ℕ) → IsWord 2 (ones n)
unfolding ones
ones_word zero = tt
ones_word (suc n) = ((omega arith, omega arith), ones_word n)

ones_long : (n : ℕ) → n ≤ length (ones n)
unfolding ones
ones_long zero = omega arith
ones_long (suc n) = omega (arith, ones_long n)

one_member : (h : Term) → IsAlike h One → IsNucleusMember 2 Sections h
one_member h s = of_generator one (λ n. (ones n, ones_word n, ones_long n, alike_trans (section_one (ones n)) (alike_sym s)))

pub few_sections : HasFewSections 2 (One ∷ [])
few_sections more =
    let long = more.more in
    let at : (i : ℕ) → i < length more.members → IsAlike (get_or more.members i One) One = λ i h. generator_one (All-get_or Sections more.members i One h more.valid) in
    more.apart 0 1 One (omega arith) (omega arith) (alike_trans (at 0 (omega arith)) (alike_sym (at 1 (omega arith))))

pub members : AreMembers 2 Sections (One ∷ []) (identity_states ∷ [])
members = record {
  count = refl;
  member = member_at;
  canonical = canonical_at;
  whole = λ t m. (0, omega arith, member_one m);
  ordered = λ i j a b. absurd (omega arith);
}
  where
    member_at : (i : ℕ) → i < 1 → IsNucleusMember 2 Sections (get_or (One ∷ []) i One)
    member_at zero h = one_member One (alike_refl One)
    member_at (suc i) h = absurd (omega arith)

    canonical_at : (i : ℕ) → i < 1 → IsCanonical 2 (get_or (One ∷ []) i One) (get_or (identity_states ∷ []) i [])
    canonical_at zero h = canonical
    canonical_at (suc i) h = absurd (omega arith)

pub depth : IsNucleusDepth 2 Sections 0
depth = record {
  within = λ n q m k v w e. one_member (Section (Product n q) v) (section_alike v (product_one (member_one m) (generator_one k)));
  least = λ j h. absurd (omega arith);
}
