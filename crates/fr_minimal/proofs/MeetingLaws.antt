-- What one more pair does to a search.
use Rattle.std.proofs.Common.{ℕ, ◌≡◌, ◌+◌, ◌<◌, ◌≤◌, ◌⊎◌, inl, inr, List, [], ◌∷◌, ◌++◌, length, refl, sym, ◌∙◌, ap, subst, arith}
use Rattle.std.proofs.lemmas.List.{get_or_append_left, get_or_push, length_push}
use Rattle.std.proofs.lemmas.Bool.{cases_lt}
use Rattle.fr_model.specs.Words.{IsLetter, IsWord}
use Rattle.fr_model.specs.Automata.{State, next_state, state_after}
use Rattle.fr_model.specs.Separation.{IsShortlexBefore}
use Rattle.fr_model.proofs.TermLaws.{IsWord-append}
use Rattle.fr_model.proofs.CanonicalLaws.{shortlex_trans}
use Rattle.fr_machine.proofs.OrderLaws.{shortlex_push, shortlex_last}
use Rattle.fr_minimal.specs.declared.met.Met.{Met}
use Rattle.fr_minimal.specs.Searches.{met_at, word_at, AgreeUpTo, IsMeeting, IsSearched, StayMet}
use Rattle.fr_minimal.proofs.SearchLaws.{state_after-push}

pub StayMet-refl : (met : List Met) → StayMet met met
StayMet-refl met = (omega arith, λ i l. refl)

pub StayMet-meeting : (left_rows : ℕ) (met met' met2 : List Met) (new : Met) → StayMet met met' → IsMeeting left_rows met' met2 new → StayMet met met2
StayMet-meeting left_rows met met' met2 new s (inl m) = (omega (arith, s.0, ap length m.1), λ i l. ap (λ xs. met_at xs i) m.1 ∙ s.1 i l)
StayMet-meeting left_rows met met' met2 new s (inr m) = (
  omega (arith, s.0, ap length m, length_push met' new),
  λ i l. ap (λ xs. met_at xs i) m ∙ get_or_append_left met' (new ∷ []) (record { left = 0; right = 0; before = 0; letter = 0 }) i (omega (arith, s.0)) ∙ s.1 i l,
)

-- the turn that was taken last, or one before
over_less : (j x i y : ℕ) → (i < j) ⊎ ((i ≡ j) × (y < x + 1)) → ((i < j) ⊎ ((i ≡ j) × (y < x))) ⊎ ((i ≡ j) × (y ≡ x))
over_less j x i y (inl a) = inl (inl a)
over_less j x i y (inr a) = elim (cases_lt y x) [ inl l ↦ inl (inr (a.0, l)) | inr g ↦ inr (a.0, omega (arith, a.1)) ]

-- the letter that is next leads to this pair
pub IsSearched-meeting : (d : ℕ) (ps qs : List State) (s t : ℕ) (met met' : List Met) (j x left right : ℕ) → j < length met → IsLetter d x
    → left ≡ next_state ps (met_at met j).left x → right ≡ next_state qs (met_at met j).right x
    → IsMeeting (length ps) met met' (record { left = left; right = right; before = j; letter = x }) → IsSearched d ps qs s t met j x → IsSearched d ps qs s t met' j (x + 1)
IsSearched-meeting d ps qs s t met met' j x left right l letter e f (inl m) h =
    let P : List Met → Type 0 = λ xs. IsSearched d ps qs s t xs j (x + 1) in
    subst P (sym m.1) (record {
      words = h.words;
      count = h.count;
      some = h.some;
      spelled = h.spelled;
      linked = h.linked;
      valid = h.valid;
      short = h.short;
      left = h.left;
      right = h.right;
      ascending = h.ascending;
      before = λ i il jl. shortlex_trans (word_at h.words i) (word_at h.words j ++ x ∷ []) (word_at h.words j ++ (x + 1) ∷ []) (h.before i il jl) (shortlex_last (word_at h.words j) x (x + 1) (omega arith));
      joined = λ i y il a o. elim (over_less j x i y o) [
        | inl u ↦ h.joined i y il a u
        | inr u ↦ λ images agree.
            let Q : ℕ → ℕ → Type 0 = λ k z. AgreeUpTo (length ps) met h.words (word_at h.words k ++ z ∷ []) images in
            let agree' : Q j x = subst (Q j) u.1 (subst (λ (k : ℕ). Q k y) u.0 agree) in
            let same = m.0 images (λ k kl. agree' k kl (inr (h.before k kl l))) in
            let R : ℕ → ℕ → Type 0 = λ k z. images (next_state ps (met_at met k).left z) ≡ images (length ps + next_state qs (met_at met k).right z) in
            let here : R j x = ap images (sym e) ∙ same ∙ ap (λ k. images (length ps + k)) f in
            subst (λ (k : ℕ). R k y) (sym u.0) (subst (R j) (sym u.1) here)
      ];
    })
IsSearched-meeting d ps qs s t met met' j x left right l letter e f (inr m) h =
    let new : Met = record { left = left; right = right; before = j; letter = x } in
    let none : Met = record { left = 0; right = 0; before = 0; letter = 0 } in
    let word = word_at h.words j ++ x ∷ [] in
    let all = met ++ new ∷ [] in
    let words = h.words ++ word ∷ [] in
    let n = length met in
    let size : length all ≡ n + 1 = length_push met new in
    let count : length h.words ≡ n = h.count in
    let old : (i : ℕ) → i < n → met_at all i ≡ met_at met i = λ i il. get_or_append_left met (new ∷ []) none i il in
    let last : (i : ℕ) → n ≡ i → met_at all i ≡ new = λ i il. get_or_push met new none i il in
    let word_old : (i : ℕ) → i < n → word_at words i ≡ word_at h.words i = λ i il. get_or_append_left h.words (word ∷ []) [] i (omega arith) in
    let word_last : (i : ℕ) → n ≡ i → word_at words i ≡ word = λ i il. get_or_push h.words word [] i (count ∙ il) in
    let fewer : (w : List ℕ) (images : ℕ → List ℕ) → AgreeUpTo (length ps) all words w images → AgreeUpTo (length ps) met h.words w images = λ w images g i il o.
    (let r = g i (omega arith) (rw (word_old i il) o) in
    rw (old i il) at r) in
    let P : List Met → Type 0 = λ xs. IsSearched d ps qs s t xs j (x + 1) in
    subst P (sym m) (record {
      words = words;
      count = omega (arith, length_push h.words word);
      some = omega arith;
      spelled = record {
        none = word_old 0 h.some ∙ h.spelled.none;
        more = λ i positive il. elim (cases_lt i n) [
          | inl u ↦
              let b = h.linked i positive u in
              word_old i u ∙ h.spelled.more i positive u ∙ ap (λ v. v ++ (met_at met i).letter ∷ []) (sym (word_old (met_at met i).before (omega arith))) ∙ ap (λ q. word_at words q.before ++ q.letter ∷ []) (sym (old i u))
          | inr u ↦
              let at : n ≡ i = omega arith in
              word_last i at ∙ ap (λ v. v ++ x ∷ []) (sym (word_old j l)) ∙ ap (λ q. word_at words q.before ++ q.letter ∷ []) (sym (last i at))
        ];
      };
      linked = λ i positive il. elim (cases_lt i n) [
        | inl u ↦ omega (arith, h.linked i positive u, ap (λ q. q.before) (old i u))
        | inr u ↦ omega (arith, ap (λ q. q.before) (last i (omega arith)), l)
      ];
      valid = λ i il. elim (cases_lt i n) [
        | inl u ↦ rw (word_old i u) (h.valid i u)
        | inr u ↦ rw (word_last i (omega arith)) (IsWord-append d (word_at h.words j) (x ∷ []) (h.valid j l) (letter, tt))
      ];
      short = λ i il. elim (cases_lt i n) [
        | inl u ↦ rw (word_old i u) (h.short i u)
        | inr u ↦ rw (word_last i (omega arith)) (omega (arith, h.short j l, length_push (word_at h.words j) x))
      ];
      left = λ i il. elim (cases_lt i n) [
        | inl u ↦ ap (state_after ps s) (word_old i u) ∙ h.left i u ∙ ap (λ q. q.left) (sym (old i u))
        | inr u ↦
            let at : n ≡ i = omega arith in
            ap (state_after ps s) (word_last i at) ∙ state_after-push ps s (word_at h.words j) x ∙ ap (λ k. next_state ps k x) (h.left j l) ∙ sym e ∙ ap (λ q. q.left) (sym (last i at))
      ];
      right = λ i il. elim (cases_lt i n) [
        | inl u ↦ ap (state_after qs t) (word_old i u) ∙ h.right i u ∙ ap (λ q. q.right) (sym (old i u))
        | inr u ↦
            let at : n ≡ i = omega arith in
            ap (state_after qs t) (word_last i at) ∙ state_after-push qs t (word_at h.words j) x ∙ ap (λ k. next_state qs k x) (h.right j l) ∙ sym f ∙ ap (λ q. q.right) (sym (last i at))
      ];
      ascending = λ i k a b. elim (cases_lt k n) [
        | inl u ↦ rw (word_old i (omega arith), word_old k u) (h.ascending i k a u)
        | inr u ↦ rw (word_old i (omega arith), word_last k (omega arith)) (h.before i (omega arith) l)
      ];
      before = λ i il jl. rw (word_old j l) (elim (cases_lt i n) [
        | inl u ↦ rw (word_old i u) (shortlex_trans (word_at h.words i) word (word_at h.words j ++ (x + 1) ∷ []) (h.before i u l) (shortlex_last (word_at h.words j) x (x + 1) (omega arith)))
        | inr u ↦ rw (word_last i (omega arith)) (shortlex_last (word_at h.words j) x (x + 1) (omega arith))
      ]);
      joined = λ i y il a o.
          let u : i < n = elim o [ inl v ↦ omega arith | inr v ↦ omega (arith, v.0) ] in
          rw (word_old i u, old i u) (elim (over_less j x i y o) [
            | inl v ↦ λ images agree. h.joined i y u a v images (fewer (word_at h.words i ++ y ∷ []) images agree)
            | inr v ↦ λ images agree.
                let Q : ℕ → ℕ → Type 0 = λ k z. AgreeUpTo (length ps) all words (word_at h.words k ++ z ∷ []) images in
                let agree' : Q j x = subst (Q j) v.1 (subst (λ (k : ℕ). Q k y) v.0 agree) in
                let read = last n refl in
                let same = agree' n (omega arith) (inl (word_last n refl)) in
                let same' = rw read at same in
                let R : ℕ → ℕ → Type 0 = λ k z. images (next_state ps (met_at met k).left z) ≡ images (length ps + next_state qs (met_at met k).right z) in
                let here : R j x = ap images (sym e) ∙ same' ∙ ap (λ k. images (length ps + k)) f in
                subst (λ (k : ℕ). R k y) (sym v.0) (subst (R j) (sym v.1) here)
          ]);
    })

-- all letters had their turn
pub IsSearched-row : (d : ℕ) (ps qs : List State) (s t : ℕ) (met : List Met) (j x : ℕ) → d < x → IsSearched d ps qs s t met j x → IsSearched d ps qs s t met (j + 1) 1
IsSearched-row d ps qs s t met j x l h = record {
  words = h.words;
  count = h.count;
  some = h.some;
  spelled = h.spelled;
  linked = h.linked;
  valid = h.valid;
  short = h.short;
  left = h.left;
  right = h.right;
  ascending = h.ascending;
  before = λ i il jl. shortlex_trans (word_at h.words i) (word_at h.words j ++ x ∷ []) (word_at h.words (j + 1) ++ 1 ∷ []) (h.before i il (omega arith)) (shortlex_push (word_at h.words j) (word_at h.words (j + 1)) x 1 (h.ascending j (j + 1) (omega arith) jl));
  joined = λ i y il a o. h.joined i y il a (elim o [
    | inl u ↦ elim (cases_lt i j) [ inl v ↦ inl v | inr v ↦ inr (omega arith, omega (arith, a.1)) ]
    | inr u ↦ absurd (omega (arith, u.1, a.0))
  ]);
}

-- one pair was met
pub IsSearched-start : (d : ℕ) (ps qs : List State) (s t : ℕ) (met : List Met) → met ≡ record { left = s; right = t; before = 0; letter = 0 } ∷ [] → IsSearched d ps qs s t met 0 1
IsSearched-start d ps qs s t met e =
    let P : List Met → Type 0 = λ xs. IsSearched d ps qs s t xs 0 1 in
    let first : Met = record { left = s; right = t; before = 0; letter = 0 } in
    subst P (sym e) (record {
      words = [] ∷ [];
      count = refl;
      some = omega arith;
      spelled = record { none = refl; more = λ i positive l. absurd (omega arith) };
      linked = λ i positive l. absurd (omega arith);
      valid = λ i l. let z : 0 ≡ i = omega arith in let Q : ℕ → Type 0 = λ k. IsWord d (word_at ([] ∷ []) k) in subst Q z tt;
      short = λ i l. let z : 0 ≡ i = omega arith in let Q : ℕ → Type 0 = λ k. length (word_at ([] ∷ []) k) ≤ k in subst Q z (omega arith);
      left = λ i l. let z : 0 ≡ i = omega arith in let Q : ℕ → Type 0 = λ k. state_after ps s (word_at ([] ∷ []) k) ≡ (met_at (first ∷ []) k).left in subst Q z refl;
      right = λ i l. let z : 0 ≡ i = omega arith in let Q : ℕ → Type 0 = λ k. state_after qs t (word_at ([] ∷ []) k) ≡ (met_at (first ∷ []) k).right in subst Q z refl;
      ascending = λ i k l m. absurd (omega arith);
      before = λ i l jl. let z : 0 ≡ i = omega arith in let Q : ℕ → Type 0 = λ k. IsShortlexBefore (word_at ([] ∷ []) k) (1 ∷ []) in subst Q z (inl (omega arith));
      joined = λ i y l a o. absurd (no_turn i y a.0 o);
    })
  where
    no_turn : (i y : ℕ) → 1 ≤ y → (i < 0) ⊎ ((i ≡ 0) × (y < 1)) → ⊥
    no_turn i y p (inl u) = omega arith
    no_turn i y p (inr u) = omega (arith, u.1)
