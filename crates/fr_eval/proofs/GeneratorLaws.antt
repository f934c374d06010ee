-- Generators that act alike one by one: sections, members of the nucleus, counts and depth move along.
use Rattle.std.proofs.Common.{ℕ, zero, suc, ◌≡◌, ◌<◌, List, [], ◌∷◌, ◌++◌, length, take, get_or, Option, Contains, refl, ap, subst, arith}
use Rattle.std.specs.List.{AllByRecursion}
use Rattle.std.proofs.lemmas.List.Elements.{All-from_recursion, recursion_from_All}
use Rattle.fr_model.specs.Terms.{Term, One, Inverse, Product, Section, IsTerm, IsAlike}
use Rattle.fr_model.specs.Classes.{HasMoreThan}
use Rattle.fr_model.specs.Nuclei.{IsGeneratorSection, IsNucleusMember, IsNucleusDepth}
use Rattle.fr_model.specs.Nuclei.IsGeneratorSection.{one, section, inverse}
use Rattle.fr_model.specs.Nuclei.IsNucleusMember.{of_generator, of_product}
use Rattle.fr_store.specs.declared.handle.Handle.{Handle}
use Rattle.fr_store.specs.Store.{StandsForTerm}
use Rattle.fr_eval.specs.Generators.{AreAlikeTerms, StandForAll}
use Rattle.fr_model.proofs.AlikeLaws.{alike_refl, alike_sym, alike_trans, alike_inverse, alike_section, alike_product}
use Rattle.fr_model.proofs.LimitLaws.{IsLimitSection-alike, IsNucleusMember-alike}

pub AreAlikeTerms-sym : (d : ℕ) (gs hs : List Term) → AreAlikeTerms d gs hs → AreAlikeTerms d hs gs
AreAlikeTerms-sym d [] [] a = tt
AreAlikeTerms-sym d [] (h ∷ hs) a = absurd a
AreAlikeTerms-sym d (g ∷ gs) [] a = absurd a
AreAlikeTerms-sym d (g ∷ gs) (h ∷ hs) a = (a.1, a.0, alike_sym a.2, AreAlikeTerms-sym d gs hs a.3)

-- a term of the one list has a term of the other that acts alike
record HasAlike (d : ℕ) (hs : List Term) (g : Term) : Type 0 where
  other : Term
  place : ℕ
  inside : place < length hs
  there : (z : Term) → get_or hs place z ≡ other
  first : IsTerm d g
  second : IsTerm d other
  alike : IsAlike g other

has_alike : (d : ℕ) (gs hs : List Term) → AreAlikeTerms d gs hs → (i : ℕ) (z : Term) → i < length gs → HasAlike d hs (get_or gs i z)
has_alike d [] hs a i z l = absurd (omega arith)
has_alike d (g ∷ gs) [] a i z l = absurd a
has_alike d (g ∷ gs) (h ∷ hs) a zero z l = record { other = h; place = 0; inside = omega arith; there = λ y. refl; first = a.0; second = a.1; alike = a.2 }
has_alike d (g ∷ gs) (h ∷ hs) a (suc i) z l =
    let r = has_alike d gs hs a.3 i z (omega arith) in
    record { other = r.other; place = suc r.place; inside = omega (arith, r.inside); there = r.there; first = r.first; second = r.second; alike = r.alike }

contained : (d : ℕ) (gs hs : List Term) (g : Term) → AreAlikeTerms d gs hs → Contains gs g → HasAlike d hs g
contained d gs hs g a k = subst (HasAlike d hs) k.2 (has_alike d gs hs a k.0 g k.1)

HasAlike-contains : (d : ℕ) (hs : List Term) (g : Term) (r : HasAlike d hs g) → Contains hs r.other
HasAlike-contains d hs g r = (r.place, r.inside, r.there r.other)

-- each valid term has one that acts alike among the others
abbrev pub Moves : (Term → Type 0) → (Term → Type 0) → Type 0
Moves Q R = (q : Term) → Q q → (r : Term) × R r × IsAlike q r

pub sections_move : (d : ℕ) (gs hs : List Term) → AreAlikeTerms d gs hs → Moves (IsGeneratorSection d gs) (IsGeneratorSection d hs)
sections_move d gs hs a _ one = (One, one, alike_refl One)
sections_move d gs hs a _ (section {g} k v w) =
    let r = contained d gs hs g a k in
    (Section r.other v, section (HasAlike-contains d hs g r) v w, alike_section v r.alike)
sections_move d gs hs a _ (inverse {g} k v w) =
    let r = contained d gs hs g a k in
    (Section (Inverse r.other) v, inverse (HasAlike-contains d hs g r) v w, alike_section v (alike_inverse d r.first r.second r.alike))

pub member_moves : (d : ℕ) (Q R : Term → Type 0) → Moves Q R → (h : Term) → IsNucleusMember d Q h → IsNucleusMember d R h
member_moves d Q R move h (of_generator {q} i l) = let r = move q i in of_generator r.1 (IsLimitSection-alike d q r.0 h h r.2 (alike_refl h) l)
member_moves d Q R move h (of_product {g} {q} m i l) =
    let r = move q i in
    of_product (member_moves d Q R move g m) r.1 (IsLimitSection-alike d (Product g q) (Product g r.0) h h (alike_product (alike_refl g) r.2) (alike_refl h) l)

-- the terms that the valid ones of a list move to
record Moved (R : Term → Type 0) (qs : List Term) : Type 0 where
  others : List Term
  count : length others ≡ length qs
  valid : AllByRecursion R others
  alike : (i : ℕ) (z : Term) → i < length qs → IsAlike (get_or qs i z) (get_or others i z)

moved : (Q R : Term → Type 0) → Moves Q R → (qs : List Term) → AllByRecursion Q qs → Moved R qs
moved Q R move [] a = record { others = []; count = refl; valid = tt; alike = λ i z l. absurd (omega arith) }
moved Q R move (q ∷ qs) a =
    let r = move q a.0 in
    let rest = moved Q R move qs a.1 in
    record {
      others = r.0 ∷ rest.others;
      count = ap suc rest.count;
      valid = (r.1, rest.valid);
      alike = along r.0 r.2 rest;
    }
  where
    along : (p : Term) → IsAlike q p → (rest : Moved R qs) (i : ℕ) (z : Term) → i < suc (length qs) → IsAlike (get_or (q ∷ qs) i z) (get_or (p ∷ rest.others) i z)
    along p e rest zero z l = e
    along p e rest (suc i) z l = rest.alike i z (omega arith)

pub more_move : (Q R : Term → Type 0) (n : ℕ) → Moves Q R → HasMoreThan Q IsAlike n → HasMoreThan R IsAlike n
more_move Q R n move h =
    let r = moved Q R move h.members (recursion_from_All Q h.members h.valid) in
    record {
      members = r.others;
      more = omega (arith, h.more, r.count);
      valid = All-from_recursion R r.others r.valid;
      apart = λ i j z l k same. h.apart i j z l (omega (arith, k, r.count)) (alike_trans (r.alike i z (omega (arith, l, k, r.count))) (alike_trans same (alike_sym (r.alike j z (omega (arith, k, r.count))))));
    }

pub depth_moves : (d : ℕ) (Q R : Term → Type 0) (k : ℕ) → Moves Q R → Moves R Q → IsNucleusDepth d Q k → IsNucleusDepth d R k
depth_moves d Q R k move back h = record {
  within = λ n q m i v w l.
      let r = back q i in
      IsNucleusMember-alike d R (Section (Product n r.0) v) (Section (Product n q) v) (alike_section v (alike_product (alike_refl n) (alike_sym r.2)))
      (member_moves d Q R move (Section (Product n r.0) v) (h.within n r.0 (member_moves d R Q back n m) r.1 v w l));
  least = λ j l.
      let t = h.least j l in
      let r = move t.1 t.4 in (
        t.0,
        r.0,
        t.2,
        member_moves d Q R move t.0 t.3,
        r.1,
        t.5,
        t.6,
        λ m. t.7
            (IsNucleusMember-alike d Q (Section (Product t.0 r.0) t.2) (Section (Product t.0 t.1) t.2) (alike_section t.2 (alike_product (alike_refl t.0) (alike_sym r.2)))
            (member_moves d R Q back (Section (Product t.0 r.0) t.2) m)),
      );
}

pub AreAlikeTerms-push : (d : ℕ) (gs hs : List Term) (g h : Term) → AreAlikeTerms d gs hs → IsTerm d g → IsTerm d h → IsAlike g h → AreAlikeTerms d (gs ++ g ∷ []) (hs ++ h ∷ [])
AreAlikeTerms-push d [] [] g h a x y e = (x, y, e, tt)
AreAlikeTerms-push d [] (k ∷ hs) g h a x y e = absurd a
AreAlikeTerms-push d (k ∷ gs) [] g h a x y e = absurd a
AreAlikeTerms-push d (k ∷ gs) (l ∷ hs) g h a x y e = (a.0, a.1, a.2, AreAlikeTerms-push d gs hs g h a.3 x y e)

-- the terms of some handles and one more
pub record IsSplit (d : ℕ) (known : ℕ → Option (List ℕ)) (hs : List Handle) (h : Handle) (ts : List Term) : Type 0 where
  pub before : List Term
  pub last : Term
  pub all : ts ≡ before ++ last ∷ []
  pub first : StandForAll d known hs before
  pub stands : StandsForTerm d known h last

pub stand_split : (d : ℕ) (known : ℕ → Option (List ℕ)) (hs : List Handle) (i : ℕ) (z : Handle) (ts : List Term) → i < length hs → StandForAll d known (take (suc i) hs) ts → IsSplit d known (take i hs) (get_or hs i z) ts
stand_split d known [] i z ts l a = absurd (omega arith)
stand_split d known (h ∷ hs) zero z [] l a = absurd a
stand_split d known (h ∷ hs) zero z (t ∷ []) l a = record { before = []; last = t; all = refl; first = tt; stands = a.0 }
stand_split d known (h ∷ hs) zero z (t ∷ u ∷ ts) l a = absurd a.1
stand_split d known (h ∷ hs) (suc i) z [] l a = absurd a
stand_split d known (h ∷ hs) (suc i) z (t ∷ ts) l a =
    let r = stand_split d known hs i z ts (omega arith) a.1 in
    record { before = t ∷ r.before; last = r.last; all = ap (λ us. t ∷ us) r.all; first = (a.0, r.first); stands = r.stands }
