-- The states of a canonical automaton are numbered as a walk meets them, and no two act alike.
use Rattle.std.proofs.Common.{ℕ, zero, suc, ◌≡◌, ◌+◌, ◌-◌, ◌<◌, ◌≤◌, ◌⊎◌, inl, inr, List, [], ◌∷◌, ◌++◌, length, take, get_or, refl, sym, ◌∙◌, ap, subst, arith, append_assoc}
use Rattle.std.specs.List.{Contains}
use Rattle.std.proofs.lemmas.List.{append-nil, length_push, get_or_default, get_or-take, length-take-le}
use Rattle.std.proofs.lemmas.List.Elements.{All-get_or, Contains-append_left, Contains-append_right, Contains-get_or}
use Rattle.std.proofs.lemmas.Bool.{cases_lt, cases_order}
use Rattle.fr_model.specs.Words.{IsLetter, IsWord}
use Rattle.fr_model.specs.Terms.{Term, Section, IsTerm, IsAlike}
use Rattle.fr_model.specs.Automata.{State, state_at, next_state, state_after, state_term, IsState}
use Rattle.fr_model.specs.Separation.{IsShortlexBefore}
use Rattle.fr_model.specs.Canonical.{IsLeastWord, IsCanonical}
use Rattle.fr_model.proofs.TermLaws.{IsWord-append}
use Rattle.fr_model.proofs.AlikeLaws.{alike_sym, alike_trans, alike_section, section_section}
use Rattle.fr_model.proofs.AutomatonLaws.{next_state-lt, state_after-lt, section_state}
use Rattle.fr_model.proofs.CanonicalLaws.{shortlex_irrefl, shortlex_trans, shortlex_total, least_words_differ, same_place, at_zero, canonical_alike}
use Rattle.fr_machine.proofs.OrderLaws.{shortlex_push, shortlex_last}
use Rattle.fr_canon.specs.Readings.{met_before, greatest, IsInOrder, IsRepeated}
use Rattle.fr_canon.proofs.OrderReadLaws.{greatest-le, met_before-more}

-- a word is empty, or has a last letter
last_letter : (v : List ℕ) → (v ≡ []) ⊎ ((u : List ℕ) × (x : ℕ) × (v ≡ u ++ x ∷ []))
last_letter [] = inl refl
last_letter (y ∷ v) = elim (last_letter v) [ inl e ↦ inr ([], y, ap (λ z. y ∷ z) e) | inr r ↦ inr (y ∷ r.0, r.1, ap (λ z. y ∷ z) r.2) ]

IsWord-parts : (d : ℕ) (u : List ℕ) (x : ℕ) → IsWord d (u ++ x ∷ []) → IsWord d u × IsLetter d x
IsWord-parts d [] x w = (tt, w.0)
IsWord-parts d (y ∷ u) x w = let r = IsWord-parts d u x w.1 in ((w.0, r.0), r.1)

-- the front of a least word is least
IsLeastWord-front : (d : ℕ) (t : Term) (u : List ℕ) (x : ℕ) → IsLeastWord d t (u ++ x ∷ []) → IsLeastWord d t u
IsLeastWord-front d t u x l =
    let p = IsWord-parts d u x l.valid in
    record {
      valid = p.0;
      least = λ v w b same. l.least (v ++ x ∷ []) (IsWord-append d v (x ∷ []) w (p.1, tt)) (shortlex_push v u x x b) (alike_trans (alike_sym (section_section t v (x ∷ []))) (alike_trans (alike_section (x ∷ []) same) (section_section t u (x ∷ []))));
    }

met_in : (qs : List State) (k j z : ℕ) → j < k → k ≤ length qs → Contains (state_at qs j).next z → Contains (met_before qs k) z
met_in qs zero j z l m h = absurd (omega arith)
met_in qs (suc k) j z l m h =
    let one : k + 1 ≡ suc k = omega arith in
    let P : List ℕ → Type 0 = λ ms. Contains ms z in
    let step : met_before qs (suc k) ≡ met_before qs k ++ (state_at qs k).next = ap (met_before qs) (sym one) ∙ met_before-more qs k m in
    subst P (sym step) (elim (cases_lt j k) [
      | inl t ↦ Contains-append_left (met_before qs k) (state_at qs k).next z (met_in qs k j z t (omega (arith, m)) h)
      | inr t ↦ (let e : j ≡ k = omega (arith, l, t) in let Q : ℕ → Type 0 = λ i. Contains (state_at qs i).next z in Contains-append_right (met_before qs k) (state_at qs k).next z (subst Q e h))
    ])

module _ (d : ℕ) (t : Term) (qs : List State) (a : IsCanonical d t qs) where
  abbrev w : ℕ → List ℕ
  w k = get_or a.words k []

  width : (k : ℕ) → k < length qs → length (state_at qs k).next ≡ d
  width k l = (All-get_or (IsState d (length qs)) qs k (record { perm = []; next = [] }) l a.automaton).arity

  -- the next state at a letter stands among the next states
  stands : (k x : ℕ) → k < length qs → IsLetter d x → Contains (state_at qs k).next (next_state qs k x)
  stands k zero l c = absurd (omega (arith, c.0))
  stands k (suc y) l c = Contains-get_or (state_at qs k).next y k (omega (arith, width k l, c.1))

  -- each state but the first is the next state of an earlier one
  parent : (k : ℕ) → k < length qs → 0 < k → (j : ℕ) × (x : ℕ) × (j < k) × IsLetter d x × (w k ≡ w j ++ x ∷ []) × (next_state qs j x ≡ k)
  parent k l some =
      let kl : k < length a.words = omega (arith, l, a.count) in
      elim (last_letter (w k)) [
        | inl e ↦
            let z = at_zero d t qs a in
            let same = same_place a.words a.ordered k 0 kl z.0 (e ∙ z.1) in
            absurd (omega (arith, same, some))
        | inr r ↦
            let u = r.0 in
            let x = r.1 in
            let P : List ℕ → Type 0 = λ v. IsLeastWord d t v in
            let lw = subst P r.2 (a.least k kl) in
            let front = a.whole u (IsLeastWord-front d t u x lw) in
            let j = front.0 in
            let c = (IsWord-parts d u x lw.valid).1 in
            let e : w k ≡ w j ++ x ∷ [] = r.2 ∙ ap (λ v. v ++ x ∷ []) front.2 in
            let jl : j < length qs = omega (arith, front.1, a.count) in
            let n = next_state qs j x in
            let nl : n < length a.words = omega (arith, next_state-lt d qs j x a.automaton jl, a.count) in
            let Q : List ℕ → Type 0 = λ v. IsAlike (Section t v) (Section t (w n)) in
            let there = subst Q (sym e) (a.nexts j x front.1 c) in
            let same = same_place a.words a.ordered k n kl nl (least_words_differ d t (w k) (w n) (a.least k kl) (a.least n nl) there) in
            let longer : length (w k) ≡ length (w j) + 1 = ap length e ∙ length_push (w j) x in
            let before : j < k = elim (cases_order j k) [
              | inl q ↦ absurd (omega (arith, ap (λ i. length (w i)) q, longer))
              | inr o ↦ elim o [
                | inl q ↦ q
                | inr q ↦
                    let h : IsShortlexBefore (w j) (w k) = inl (omega (arith, longer)) in
                    absurd (shortlex_irrefl (w j) (shortlex_trans (w j) (w k) (w j) h (a.ordered k j q front.1)))
              ]
            ] in
            (j, x, before, c, e, sym same)
      ]

  -- what the first of the two leads to was met before the second leads there
  module _ (k y : ℕ) (l : k < length qs) (h : y < length (state_at qs k).next) where
    abbrev next : List ℕ
    next = (state_at qs k).next

    abbrev met : List ℕ
    met = met_before qs k ++ take y next

    abbrev z : ℕ
    z = get_or next y 0

    letter : IsLetter d (suc y)
    letter = (omega arith, omega (arith, h, width k l))

    is : next_state qs k (suc y) ≡ z
    is = get_or_default next y k 0 h

    zl : z < length a.words
    zl = omega (arith, next_state-lt d qs k (suc y) a.automaton l, is, a.count)

    -- a state that was not met is reached by a later word
    later : (i : ℕ) → i < z → 0 < i → greatest met < i → IsShortlexBefore (w k ++ suc y ∷ []) (w i)
    later i il some far =
        let p = parent i (omega (arith, il, zl, a.count)) some in
        let j = p.0 in
        let x = p.1 in
        let P : List ℕ → Type 0 = λ v. IsShortlexBefore (w k ++ suc y ∷ []) v in
        let jl : j < length qs = omega (arith, p.2, il, zl, a.count) in
        let Q : ℕ → Type 0 = λ s. Contains (state_at qs j).next s in
        let in' = subst Q p.5 (stands j x jl p.3) in
        subst P (sym p.4) (elim (cases_order j k) [
          | inl e ↦ same j x e p.3 p.5
          | inr o ↦ elim o [
            | inl b ↦ (let m = greatest-le met i (Contains-append_left (met_before qs k) (take y next) i (met_in qs k j i b (omega (arith, l)) in')) in absurd (omega (arith, m, far)))
            | inr b ↦ shortlex_push (w k) (w j) (suc y) x (a.ordered k j b (omega (arith, jl, a.count)))
          ]
        ])
      where
        at : (x : ℕ) → IsLetter d x → next_state qs k x ≡ i → IsShortlexBefore (w k ++ suc y ∷ []) (w k ++ x ∷ [])
        at zero c e = absurd (omega (arith, c.0))
        at (suc v) c e = elim (cases_order v y) [
          | inl q ↦ absurd (omega (arith, ap (λ s. next_state qs k (suc s)) q, e, is, il))
          | inr o ↦ elim o [
            | inl q ↦
                let b : v < length (take y next) = omega (arith, q, length-take-le y next (omega (arith, h))) in
                let found : get_or (take y next) v 0 ≡ i = get_or-take y next v 0 q ∙ get_or_default next v 0 k (omega (arith, q, h)) ∙ e in
                let R : ℕ → Type 0 = λ s. Contains (take y next) s in
                let m = greatest-le met i (Contains-append_right (met_before qs k) (take y next) i (subst R found (Contains-get_or (take y next) v 0 b))) in
                absurd (omega (arith, m, far))
            | inr q ↦ shortlex_last (w k) (suc y) (suc v) (omega (arith, q))
          ]
        ]

        same : (j x : ℕ) → j ≡ k → IsLetter d x → next_state qs j x ≡ i → IsShortlexBefore (w k ++ suc y ∷ []) (w j ++ x ∷ [])
        same j x e c n = let F : ℕ → Type 0 = λ s. IsShortlexBefore (w k ++ suc y ∷ []) (w s ++ x ∷ []) in subst F (sym e) (at x c (ap (λ s. next_state qs s x) (sym e) ∙ n))

    near : z ≤ suc (greatest met)
    near = elim (cases_lt (suc (greatest met)) z) [
      | inr g ↦ g
      | inl g ↦
          let i = z - 1 in
          let il : i < z = omega (arith, g) in
          let after = later i il (omega (arith, g)) (omega (arith, g)) in
          let kl : k < length a.words = omega (arith, l, a.count) in
          let Q : ℕ → Type 0 = λ s. IsAlike (Section t (w k ++ suc y ∷ [])) (Section t (w s)) in
          let there = subst Q is (a.nexts k (suc y) kl letter) in
          let order : IsShortlexBefore (w i) (w z) = a.ordered i z il zl in
          elim (shortlex_total (w z) (w k ++ suc y ∷ [])) [
            | inl e ↦ (let P : List ℕ → Type 0 = λ v. IsShortlexBefore v (w i) in absurd (shortlex_irrefl (w i) (shortlex_trans (w i) (w z) (w i) order (subst P (sym e) after))))
            | inr o ↦ elim o [
              | inl b ↦ absurd (shortlex_irrefl (w i) (shortlex_trans (w i) (w z) (w i) order (shortlex_trans (w z) (w k ++ suc y ∷ []) (w i) b after)))
              | inr b ↦ absurd ((a.least z zl).least (w k ++ suc y ∷ []) (IsWord-append d (w k) (suc y ∷ []) (a.least k kl).valid (letter, tt)) b there)
            ]
          ]
    ]

  met_first : (k : ℕ) → k < length qs → Contains (met_before qs k) k
  met_first zero l = Contains-get_or (met_before qs 0) 0 0 (omega arith)
  met_first (suc k) l =
      let p = parent (suc k) l (omega arith) in
      let Q : ℕ → Type 0 = λ s. Contains (state_at qs p.0).next s in
      met_in qs (suc k) p.0 (suc k) p.2 (omega (arith, l)) (subst Q p.5 (stands p.0 p.1 (omega (arith, p.2, l)) p.3))

  pub IsInOrder-canonical : (k : ℕ) → k < length qs → IsInOrder qs k
  IsInOrder-canonical k l = record { met = met_first k l; nexts = λ y h. near k y l h }

  -- the section at a word is that at the least word of the state behind it
  section_behind : (v : List ℕ) (k : ℕ) → k < length qs → IsWord d v → IsAlike (Section t (w k ++ v)) (Section t (w (state_after qs k v)))
  section_behind [] k l c = rw (append-nil (w k)) (record { images = λ s. refl })
  section_behind (x ∷ v) k l c =
      let n = next_state qs k x in
      let first = a.nexts k x (omega (arith, l, a.count)) c.0 in
      rw (append_assoc (w k) (x ∷ []) v) at
      (alike_trans (alike_sym (section_section t (w k ++ x ∷ []) v)) (alike_trans (alike_section v first) (alike_trans (section_section t (w n) v) (section_behind v n (next_state-lt d qs k x a.automaton l) c.1))))

  -- the section at the word of a state acts as the state
  state_alike : IsTerm d t → (k : ℕ) → k < length qs → IsAlike (Section t (w k)) (state_term qs k)
  state_alike valid k l =
      let z = at_zero d t qs a in
      let kl : k < length a.words = omega (arith, l, a.count) in
      let some : 0 < length qs = omega (arith, l) in
      let s = state_after qs 0 (w k) in
      let sl : s < length a.words = omega (arith, state_after-lt d qs 0 (w k) a.automaton some, a.count) in
      let P : List ℕ → Type 0 = λ v. IsAlike (Section t (v ++ w k)) (Section t (w s)) in
      let there = subst P (sym z.1) (section_behind (w k) 0 some (a.least k kl).valid) in
      let same = same_place a.words a.ordered k s kl sl (least_words_differ d t (w k) (w s) (a.least k kl) (a.least s sl) there) in
      let Q : ℕ → Type 0 = λ i. IsAlike (Section t (w k)) (state_term qs i) in
      subst Q (sym same) (alike_trans (alike_section (w k) (canonical_alike d t valid qs a)) (section_state d qs 0 (w k) a.automaton some (a.least k kl).valid))

  pub no_repeat : IsTerm d t → (k : ℕ) → k < length qs → IsRepeated qs k → ⊥
  no_repeat valid k l r =
      let j = r.earlier in
      let jl : j < length a.words = omega (arith, r.before, l, a.count) in
      let kl : k < length a.words = omega (arith, l, a.count) in
      let alike = alike_trans (state_alike valid j (omega (arith, r.before, l))) (alike_trans r.alike (alike_sym (state_alike valid k l))) in
      let same = same_place a.words a.ordered j k jl kl (least_words_differ d t (w j) (w k) (a.least j jl) (a.least k kl) alike) in
      omega (arith, same, r.before)
