-- Activity: the classes of growth shut each other out, and their numbers are determined.
use Rattle.std.proofs.Common.{ℕ, zero, suc, ◌≡◌, ◌≢◌, ◌<◌, ◌≤◌, inl, inr, List, [], ◌∷◌, ◌++◌, length, refl, sym, ◌∙◌, ap, subst, arith, length-append}
use Rattle.std.proofs.lemmas.Bool.{cases_order}
use Rattle.std.proofs.lemmas.List.{drop_at}
use Rattle.fr_model.specs.Words.{IsWord}
use Rattle.fr_model.specs.Terms.{Term, One, Section, IsAlike}
use Rattle.fr_model.specs.Separation.{IsShortlexBefore}
use Rattle.fr_model.specs.Rays.{repeated}
use Rattle.fr_model.specs.Activity.{IsActive, IsActivity, IsInactive, IsFinitary, IsExponentialAt, IsLeastTriple, Link, NoReturn, IsChain, HasDegree}
use Rattle.fr_model.proofs.TermLaws.{IsWord-append}
use Rattle.fr_model.proofs.AlikeLaws.{alike_sym, alike_trans, alike_section, section_section}
use Rattle.fr_model.proofs.CanonicalLaws.{shortlex_irrefl, shortlex_trans, shortlex_total}
use Rattle.fr_model.proofs.ClassLaws.{count-same}

-- ---- numbers
pub activity_once : (d n : ℕ) (t : Term) (a b : ℕ) → IsActivity d n t a → IsActivity d n t b → a ≡ b
activity_once d n t a b x y = count-same [] (IsActive d n t) (λ v w. v ≡ w) (λ v w e. sym e) (λ u v w e f. e ∙ f) a b x y

pub depth_once : (d : ℕ) (t : Term) (m n : ℕ) → IsFinitary d t m → IsFinitary d t n → m ≡ n
depth_once d t m n a b = elim (cases_order m n) [
  | inl e ↦ e
  | inr o ↦ elim o [
    | inl l ↦ let r = b.least m l in absurd (r.1.moved (a.inactive r.0 r.1.valid r.1.long))
    | inr l ↦ let r = a.least n l in absurd (r.1.moved (b.inactive r.0 r.1.valid r.1.long))
  ]
]

pub degree_once : (d : ℕ) (t : Term) (k l : ℕ) → HasDegree d t k → HasDegree d t l → k ≡ l
degree_once d t k l a b =
    omega (arith, a.chain.1, b.chain.1, a.longest b.chain.0 b.chain.2, b.longest a.chain.0 a.chain.2)

-- ---- the least triple
first_word : (d : ℕ) (t : Term) (at u v u' v' : List ℕ) → IsLeastTriple d t at u v → IsLeastTriple d t at u' v' → length u ≡ length u' → IsShortlexBefore u u' → ⊥
first_word d t at u v u' v' a b e l = elim (b.first_two u a.triple.u_valid e a.triple.u_back) [
  | inl s ↦ shortlex_irrefl u' (rw s at l)
  | inr o ↦ elim o [
    | inl s ↦ shortlex_irrefl u (shortlex_trans u u' u l (rw (sym s) at b.ordered))
    | inr k ↦ shortlex_irrefl u (shortlex_trans u u' u l (shortlex_trans u' v' u b.ordered k))
  ]
]

second_word : (d : ℕ) (t : Term) (at u v v' : List ℕ) → IsLeastTriple d t at u v → IsLeastTriple d t at u v' → IsShortlexBefore v v' → ⊥
second_word d t at u v v' a b l = elim (b.first_two v a.triple.v_valid (sym a.triple.one_length) a.triple.v_back) [
  | inl s ↦ shortlex_irrefl u (rw s at a.ordered)
  | inr o ↦ elim o [
    | inl s ↦ shortlex_irrefl v' (rw s at l)
    | inr k ↦ shortlex_irrefl v (shortlex_trans v v' v l k)
  ]
]

words_once : (d : ℕ) (t : Term) (at u v u' v' : List ℕ) → IsLeastTriple d t at u v → IsLeastTriple d t at u' v' → (u ≡ u') × (v ≡ v')
words_once d t at u v u' v' a b =
    let long : length u ≡ length u' = elim (cases_order (length u) (length u')) [
      | inl e ↦ e
      | inr o ↦ elim o [ inl l ↦ absurd (b.least_length u v l a.triple) | inr l ↦ absurd (a.least_length u' v' l b.triple) ]
    ] in
    let firsts : u ≡ u' = elim (shortlex_total u u') [
      | inl e ↦ e
      | inr o ↦ elim o [ inl l ↦ absurd (first_word d t at u v u' v' a b long l) | inr l ↦ absurd (first_word d t at u' v' u v b a (sym long) l) ]
    ] in
    let b' : IsLeastTriple d t at u v' = subst (λ (w : List ℕ). IsLeastTriple d t at w v') (sym firsts) b in (
      firsts,
      elim (shortlex_total v v') [
        | inl e ↦ e
        | inr o ↦ elim o [ inl l ↦ absurd (second_word d t at u v v' a b' l) | inr l ↦ absurd (second_word d t at u v' v b' a l) ]
      ],
    )

pub triple_once : (d : ℕ) (t : Term) (at u v at' u' v' : List ℕ) → IsLeastTriple d t at u v → IsLeastTriple d t at' u' v' → (at ≡ at') × (u ≡ u') × (v ≡ v')
triple_once d t at u v at' u' v' a b =
    let ats : at ≡ at' = elim (shortlex_total at at') [
      | inl e ↦ e
      | inr o ↦ elim o [ inl l ↦ absurd (b.least_at at u v l a.triple) | inr l ↦ absurd (a.least_at at' u' v' l b.triple) ]
    ] in
    let r = words_once d t at u v u' v' a (subst (λ (w : List ℕ). IsLeastTriple d t w u' v') (sym ats) b) in
    (ats, r.0, r.1)

-- ---- the classes
pub section_one : (v : List ℕ) → IsAlike (Section One v) One
section_one v = record { images = λ w. drop_at v w (length v) refl }

-- where no section of one length moves a word, no later one does
pub inactive_after : (d n : ℕ) (t : Term) (v w : List ℕ) → IsInactive d n t → IsWord d v → length v ≡ n → IsAlike (Section t (v ++ w)) One
inactive_after d n t v w h g e = alike_trans (alike_sym (section_section t v w)) (alike_trans (alike_section w (h v g e)) (section_one w))

IsWord-take_drop : (d n : ℕ) (v : List ℕ) → IsWord d v → n ≤ length v → (a : List ℕ) × (b : List ℕ) × (v ≡ a ++ b) × IsWord d a × (length a ≡ n)
IsWord-take_drop d zero v g l = ([], v, refl, tt, refl)
IsWord-take_drop d (suc n) [] g l = absurd (omega arith)
IsWord-take_drop d (suc n) (x ∷ v) g l =
    let r = IsWord-take_drop d n v g.1 (omega arith) in
    (x ∷ r.0, r.1, ap (λ z. x ∷ z) r.2, (g.0, r.3), ap suc r.4)

pub IsWord-repeated : (d : ℕ) (v : List ℕ) (n : ℕ) → IsWord d v → IsWord d (repeated v n)
IsWord-repeated d v zero g = tt
IsWord-repeated d v (suc n) g = IsWord-append d v (repeated v n) g (IsWord-repeated d v n g)

pub length-repeated_least : (v : List ℕ) (n : ℕ) → 0 < length v → n ≤ length (repeated v n)
length-repeated_least v zero l = omega arith
length-repeated_least v (suc n) l = omega (arith, length-append v (repeated v n), length-repeated_least v n l)

-- a word that leads back does so when it is repeated
pub repeated_back : (t : Term) (u : List ℕ) (n : ℕ) → IsAlike (Section t u) t → IsAlike (Section t (repeated u n)) t
repeated_back t u zero h = record { images = λ w. refl }
repeated_back t u (suc n) h = alike_trans (alike_sym (section_section t u (repeated u n))) (alike_trans (alike_section (repeated u n) h) (repeated_back t u n h))

some_letter : (u v : List ℕ) → u ≢ v → length u ≡ length v → 0 < length u
some_letter [] [] n e = absurd (n refl)
some_letter [] (y ∷ v) n e = omega arith
some_letter (x ∷ u) v n e = omega arith

pub finitary_or_exponential : (d : ℕ) (t : Term) (n : ℕ) (at u v : List ℕ) → IsFinitary d t n → IsExponentialAt d t at u v → ⊥
finitary_or_exponential d t n at u v f e =
    let r = repeated u n in
    let long : n ≤ length (at ++ r) = omega (arith, length-append at r, length-repeated_least u n (some_letter u v e.differ e.one_length)) in
    let p = IsWord-take_drop d n (at ++ r) (IsWord-append d at r e.at_valid (IsWord-repeated d u n e.u_valid)) long in
    let still : IsAlike (Section t (at ++ r)) One = rw p.2 (inactive_after d n t p.0 p.1 f.inactive p.3 p.4) in
    e.moved (alike_trans (alike_sym (repeated_back (Section t at) u n e.u_back)) (alike_trans (section_section t at r) still))

-- ---- terms that act alike
IsActive-alike : (d n : ℕ) (t u : Term) (v : List ℕ) → IsAlike t u → IsActive d n t v → IsActive d n u v
IsActive-alike d n t u v h a = record { valid = a.valid; long = a.long; moved = λ e. a.moved (alike_trans (alike_section v h) e) }

pub IsActivity-alike : (d n : ℕ) (t u : Term) (a : ℕ) → IsAlike t u → IsActivity d n t a → IsActivity d n u a
IsActivity-alike d n t u a h c = record {
  members = c.members;
  count = c.count;
  valid = λ i z l. IsActive-alike d n t u _ h (c.valid i z l);
  apart = c.apart;
  covers = λ v k. c.covers v (IsActive-alike d n u t v (alike_sym h) k);
}

IsInactive-alike : (d n : ℕ) (t u : Term) → IsAlike t u → IsInactive d n t → IsInactive d n u
IsInactive-alike d n t u h a v k l = alike_trans (alike_sym (alike_section v h)) (a v k l)

pub IsFinitary-alike : (d : ℕ) (t u : Term) (n : ℕ) → IsAlike t u → IsFinitary d t n → IsFinitary d u n
IsFinitary-alike d t u n h a = record {
  inactive = IsInactive-alike d n t u h a.inactive;
  least = λ m l. let r = a.least m l in (r.0, IsActive-alike d m t u r.0 h r.1);
}

pub IsExponentialAt-alike : (d : ℕ) (t t' : Term) (at u v : List ℕ) → IsAlike t t' → IsExponentialAt d t at u v → IsExponentialAt d t' at u v
IsExponentialAt-alike d t t' at u v h e =
    let s = alike_section at h in
    record {
      at_valid = e.at_valid;
      u_valid = e.u_valid;
      v_valid = e.v_valid;
      moved = λ m. e.moved (alike_trans s m);
      differ = e.differ;
      one_length = e.one_length;
      u_back = alike_trans (alike_sym (alike_section u s)) (alike_trans e.u_back s);
      v_back = alike_trans (alike_sym (alike_section v s)) (alike_trans e.v_back s);
    }

pub IsLeastTriple-alike : (d : ℕ) (t t' : Term) (at u v : List ℕ) → IsAlike t t' → IsLeastTriple d t at u v → IsLeastTriple d t' at u v
IsLeastTriple-alike d t t' at u v h e =
    let s = alike_section at h in
    record {
      triple = IsExponentialAt-alike d t t' at u v h e.triple;
      least_at = λ at' u' v' b x. e.least_at at' u' v' b (IsExponentialAt-alike d t' t at' u' v' (alike_sym h) x);
      least_length = λ u' v' b x. e.least_length u' v' b (IsExponentialAt-alike d t' t at u' v' (alike_sym h) x);
      ordered = e.ordered;
      first_two = λ w k l b. e.first_two w k l (alike_trans (alike_section w s) (alike_trans b (alike_sym s)));
    }

NoReturn-alike : (d : ℕ) (t u : Term) (ls : List Link) → IsAlike t u → NoReturn d t ls → NoReturn d u ls
NoReturn-alike d t u [] h n = tt
NoReturn-alike d t u (m ∷ ms) h n = λ v k e. n v k (alike_trans (alike_section v (alike_section m.at h)) (alike_trans e (alike_sym h)))

pub IsChain-alike : (d : ℕ) (t u : Term) (ls : List Link) → IsAlike t u → IsChain d t ls → IsChain d u ls
IsChain-alike d t u [] h c = tt
IsChain-alike d t u (l ∷ ls) h c =
    let s = alike_section l.at h in (
      c.0,
      c.1,
      c.2,
      λ m. c.3 (alike_trans s m),
      alike_trans (alike_sym (alike_section l.back s)) (alike_trans c.4 s),
      NoReturn-alike d (Section t l.at) (Section u l.at) ls s c.5,
      IsChain-alike d (Section t l.at) (Section u l.at) ls s c.6,
    )

pub HasDegree-alike : (d : ℕ) (t u : Term) (k : ℕ) → IsAlike t u → HasDegree d t k → HasDegree d u k
HasDegree-alike d t u k h a = record {
  infinitary = λ n i. a.infinitary n (IsInactive-alike d n u t (alike_sym h) i);
  subexponential = λ at v w e. a.subexponential at v w (IsExponentialAt-alike d u t at v w (alike_sym h) e);
  chain = (a.chain.0, a.chain.1, IsChain-alike d t u a.chain.0 h a.chain.2);
  longest = λ ls c. a.longest ls (IsChain-alike d u t ls (alike_sym h) c);
}
