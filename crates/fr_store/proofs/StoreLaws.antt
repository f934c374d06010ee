-- Laws of the handles of a store, for its callers: how they stay, move and meet.
use Rattle.std.proofs.Common.{ℕ, ◌≡◌, inl, inr, List, [], ◌∷◌, ◌++◌, refl, sym, ◌∙◌, ap, Option, Some, None, arith}
use Rattle.std.proofs.Props.{props}
use Rattle.std.specs.Prelude.{unwrap_or, Result, Ok, Err}
use Rattle.fr_model.specs.Terms.{Term, Section, IsTerm, IsAlike}
use Rattle.fr_model.proofs.CodeLaws.{code-same, alike_from_code, IsCode-alike}
use Rattle.fr_model.proofs.AlikeLaws.{alike_refl}
use Rattle.fr_store.specs.declared.handle.Handle.{Handle}
use Rattle.fr_store.specs.declared.handle.Full.{Full}
use Rattle.fr_store.specs.Store.{View, known_code, IsKnown, StandsForTerm, Stands, IsUnknown, AreHandles, Keeps, SameKnown, IsSectionCodeOfOne, GrowsBy, Continues, Interns, Reads}

-- a map from the numbers of handles to codes
abbrev Known : Type 0
Known = ℕ → Option (List ℕ)

is_some : (o : Option (List ℕ)) (code : List ℕ) → o ≡ Some code → o ≡ Some (unwrap_or o [])
is_some None code e = absurd (cc)
is_some (Some known) code e = refl

pub IsAlike-IsProp : (t u : Term) → IsProp (IsAlike t u)
IsAlike-IsProp t u = hlevel props

-- ---- handles that are known
pub IsKnown-IsProp : (known : Known) (h : Handle) → IsProp (IsKnown known h)
IsKnown-IsProp known h = hlevel props

pub IsKnown-from : (known : Known) (h : Handle) (code : List ℕ) → known h.node ≡ Some code → IsKnown known h
IsKnown-from known h code e = is_some (known h.node) code e

pub IsKnown-stands : (d : ℕ) (known : Known) (h : Handle) (t : Term) → StandsForTerm d known h t → IsKnown known h
IsKnown-stands d known h t s = IsKnown-from known h s.code s.at

pub IsKnown-keeps : (old new : Known) (h : Handle) → Keeps old new → IsKnown old h → IsKnown new h
IsKnown-keeps old new h k e = IsKnown-from new h (known_code old h) (k h.node (known_code old h) e)

-- a known handle stands for a term
pub IsKnown-term : (d : ℕ) (known : Known) (h : Handle) → AreHandles d known → IsKnown known h → (t : Term) × StandsForTerm d known h t
IsKnown-term d known h a k =
    let e = a.elements h.node (known_code known h) k in
    (e.0, record { term = e.1; code = known_code known h; is_code = e.2; at = k })

-- ---- what a handle stands for
pub stands_alike : (d : ℕ) (known : Known) (h : Handle) (t u : Term) → StandsForTerm d known h t → IsTerm d u → IsAlike t u → StandsForTerm d known h u
stands_alike d known h t u s valid a = record { term = valid; code = s.code; is_code = IsCode-alike d t u s.code a s.is_code; at = s.at }

pub stands_keeps : (d : ℕ) (old new : Known) (h : Handle) (t : Term) → Keeps old new → StandsForTerm d old h t → StandsForTerm d new h t
stands_keeps d old new h t k s = record { term = s.term; code = s.code; is_code = s.is_code; at = k h.node s.code s.at }

-- terms of one handle act alike
pub stands_both : (d : ℕ) (known : Known) (h : Handle) (t u : Term) → StandsForTerm d known h t → StandsForTerm d known h u → IsAlike t u
stands_both d known h t u s r = alike_from_code d t u s.code r.code s.term r.term s.is_code r.is_code (some_back s.code r.code (sym s.at ∙ r.at))
  where
    some_back : (a b : List ℕ) → Some a ≡ Some b → a ≡ b
    some_back a b e = cc

-- handles of terms that act alike are one
pub stands_one : (d : ℕ) (known : Known) (h k : Handle) (t u : Term) → AreHandles d known → StandsForTerm d known h t → StandsForTerm d known k u → IsAlike t u → h ≡ k
stands_one d known h k t u a s r e =
    let same = code-same d t u s.code r.code s.is_code r.is_code e in
    ap (λ (n : ℕ). record { node = n }) (a.distinct h.node k.node s.code s.at (r.at ∙ ap (λ (c : List ℕ). Some c) (sym same)))

pub stands-IsUnknown : (d : ℕ) (known : Known) (h : Handle) (t : Term) → StandsForTerm d known h t → IsUnknown d known t → ⊥
stands-IsUnknown d known h t s u = u h.node s.code s.at s.is_code

-- ---- what stays known
pub Keeps-refl : (known : Known) → Keeps known known
Keeps-refl known n code e = e

pub Keeps-trans : (a b c : Known) → Keeps a b → Keeps b c → Keeps a c
Keeps-trans a b c k l n code e = l n code (k n code e)

pub SameKnown-sym : (old new : Known) → SameKnown old new → SameKnown new old
SameKnown-sym old new s n = sym (s n)

pub SameKnown-trans : (a b c : Known) → SameKnown a b → SameKnown b c → SameKnown a c
SameKnown-trans a b c s r n = r n ∙ s n

pub Keeps-same : (old new : Known) → SameKnown old new → Keeps old new
Keeps-same old new s n code e = s n ∙ e

pub stands_same : (d : ℕ) (old new : Known) (h : Handle) (t : Term) → SameKnown old new → StandsForTerm d old h t → StandsForTerm d new h t
stands_same d old new h t s r = stands_keeps d old new h t (Keeps-same old new s) r

pub stands_back : (d : ℕ) (old new : Known) (h : Handle) (t : Term) → SameKnown old new → StandsForTerm d new h t → StandsForTerm d old h t
stands_back d old new h t s r = stands_same d new old h t (SameKnown-sym old new s) r

pub IsUnknown-same : (d : ℕ) (old new : Known) (t : Term) → SameKnown old new → IsUnknown d old t → IsUnknown d new t
IsUnknown-same d old new t s u n code e is = u n code (sym (s n) ∙ e) is

pub AreHandles-same : (d : ℕ) (old new : Known) → SameKnown old new → AreHandles d old → AreHandles d new
AreHandles-same d old new s a = record {
  distinct = λ n m code p q. a.distinct n m code (sym (s n) ∙ p) (sym (s m) ∙ q);
  elements = λ n code p. a.elements n code (sym (s n) ∙ p);
  closed = λ h t w r c. (let k = a.closed h t w (stands_back d old new h t s r) c in (k.0, stands_same d old new k.0 (Section t w) s k.1));
}

pub AreHandles-back : (d : ℕ) (old new : Known) → SameKnown old new → AreHandles d new → AreHandles d old
AreHandles-back d old new s a = AreHandles-same d new old (SameKnown-sym old new s) a

-- ---- what becomes known
pub GrowsBy-none : (d : ℕ) (old new : Known) → SameKnown old new → GrowsBy d old new []
GrowsBy-none d old new s = record { keeps = Keeps-same old new s; only = λ n code e. inl (sym (s n) ∙ e) }

one_left : (d : ℕ) (ts us : List Term) (code : List ℕ) → IsSectionCodeOfOne d ts code → IsSectionCodeOfOne d (ts ++ us) code
one_left d [] us code o = absurd o
one_left d (t ∷ ts) us code (inl s) = inl s
one_left d (t ∷ ts) us code (inr o) = inr (one_left d ts us code o)

one_right : (d : ℕ) (ts us : List Term) (code : List ℕ) → IsSectionCodeOfOne d us code → IsSectionCodeOfOne d (ts ++ us) code
one_right d [] us code o = o
one_right d (t ∷ ts) us code o = inr (one_right d ts us code o)

pub GrowsBy-more : (d : ℕ) (old new : Known) (ts us : List Term) → GrowsBy d old new ts → GrowsBy d old new (ts ++ us)
GrowsBy-more d old new ts us g = record {
  keeps = g.keeps;
  only = λ n code e. elim (g.only n code e) [ inl k ↦ inl k | inr o ↦ inr (one_left d ts us code o) ];
}

pub GrowsBy-trans : (d : ℕ) (a b c : Known) (ts us : List Term) → GrowsBy d a b ts → GrowsBy d b c us → GrowsBy d a c (ts ++ us)
GrowsBy-trans d a b c ts us g h = record {
  keeps = Keeps-trans a b c g.keeps h.keeps;
  only = λ n code e. elim (h.only n code e) [
    | inl k ↦ elim (g.only n code k) [ inl l ↦ inl l | inr o ↦ inr (one_left d ts us code o) ]
    | inr o ↦ inr (one_right d ts us code o)
  ];
}

-- ---- calls of a store
module _ {S : Type 0} (view : View S) (kin_onward : (s t u : S) → view.kin s t → view.kin t u → view.kin s u) where
  pub Continues-trans : (s t u : S) → Continues view s t → Continues view t u → Continues view s u
  Continues-trans s t u a b = record {
    alphabet = b.alphabet ∙ a.alphabet;
    capacity = b.capacity ∙ a.capacity;
    seen = omega (arith, a.seen, b.seen);
    kin = kin_onward s t u a.kin b.kin;
  }

  pub Reads-trans : (s t u : S) → Reads view s t → Reads view t u → Reads view s u
  Reads-trans s t u a b = record {
    known = SameKnown-trans (view.known s) (view.known t) (view.known u) a.known b.known;
    own = b.own ∙ a.own;
    continues = Continues-trans s t u a.continues b.continues;
  }

-- an element that was known is answered with its handle, and nothing is claimed
pub Interns-known : {S : Type 0} (view : View S) (t : Term) (size : ℕ) (old new : S) (r : Result Handle Full) (h : Handle)
    → Interns view t size old new r → AreHandles (view.alphabet old) (view.known new) → Stands view old h t → (r ≡ Ok h) × (view.own new ≡ view.own old)
Interns-known view t size old new (Err f) h i a s = absurd (stands-IsUnknown (view.alphabet old) (view.known old) h t s i.unknown)
Interns-known view t size old new (Ok k) h i a s =
    let kept = stands_keeps (view.alphabet old) (view.known old) (view.known new) h t i.grows.keeps s in (
      ap (λ (h : Handle). Ok h) (stands_one (view.alphabet old) (view.known new) k h t t a i.handle kept (alike_refl t)),
      elim i.claim [ inl m ↦ m.0 | inr c ↦ absurd (stands-IsUnknown (view.alphabet old) (view.known old) h t s c.unknown) ],
    )
