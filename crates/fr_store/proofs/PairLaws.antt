-- How many pairs of sections the elements of two rows have.
use Rattle.std.proofs.Common.{ℕ, zero, suc, ◌≡◌, ◌≢◌, ◌+◌, ◌*◌, ◌/◌, ◌%◌, ◌<◌, ◌≤◌, ◌⊎◌, inl, inr, List, [], ◌∷◌, ◌++◌, length, map, get_or, refl, sym, ◌∙◌, ap, subst, arith}
use Rattle.std.proofs.lemmas.List.{get_or_default, get_or-map, get_or_append_left, get_or_push, length_push, length-map, append_assoc, append-nil}
use Rattle.std.proofs.lemmas.Bool.{cases_lt, cases_eq, cases_order}
use Rattle.std.proofs.lemmas.Nat.{div-mul-add, mod-mul-add, mul-add-lt}
use Rattle.fr_model.specs.Words.{IsLetter, IsWord}
use Rattle.fr_model.specs.Permutations.{image}
use Rattle.fr_model.specs.Terms.{Section, act, IsAlike}
use Rattle.fr_model.specs.Automata.{State, state_at, next_state, state_after, state_term, IsAutomaton}
use Rattle.fr_model.specs.Classes.{SamePair, IsPairCount}
use Rattle.fr_model.proofs.AlikeLaws.{alike_sym, alike_trans}
use Rattle.fr_model.proofs.AutomatonLaws.{act-state_letter, section_state, state_after-lt, IsTerm-state_term}
use Rattle.fr_model.proofs.TermLaws.{act-IsWord, act-append, IsWord-append}
use Rattle.fr_machine.specs.declared.row.Row.{Row}
use Rattle.fr_machine.specs.Rows.{IsMachine, row_term, states_of}
use Rattle.fr_machine.specs.Minimal.{AreUnlike}
use Rattle.fr_machine.proofs.RowLaws.{IsAutomaton-states_of, length-states_of}
use Rattle.fr_canon.proofs.ApartLaws.{length-le_apart}

-- ---- words that lead to each key
module _ (d bound : ℕ) (key : List ℕ → ℕ) (below : (w : List ℕ) → IsWord d w → key w < bound)
    (onward : (v w : List ℕ) (x : ℕ) → IsWord d v → IsWord d w → IsLetter d x → key v ≡ key w → key (v ++ x ∷ []) ≡ key (w ++ x ∷ [])) where
  -- words that lead to different keys
  record AreApart (words : List (List ℕ)) : Type 0 where
    valid : (i : ℕ) → i < length words → IsWord d (get_or words i [])
    distinct : (i j : ℕ) → i < j → j < length words → key (get_or words i []) ≢ key (get_or words j [])

  -- one of the words leads to the key of this one
  abbrev IsMet : List (List ℕ) → List ℕ → Type 0
  IsMet words v = (i : ℕ) × (i < length words) × (key v ≡ key (get_or words i []))

  abbrev IsFresh : List (List ℕ) → List ℕ → Type 0
  IsFresh words v = (i : ℕ) → i < length words → key v ≢ key (get_or words i [])

  -- a letter behind one of the words leads to a new key
  record IsOpen (words : List (List ℕ)) : Type 0 where
    word : List ℕ
    valid : IsWord d word
    fresh : IsFresh words word

  meets : (words : List (List ℕ)) (v : List ℕ) → IsMet words v ⊎ IsFresh words v
  meets [] v = inr (λ i l. absurd (omega arith))
  meets (w ∷ words) v = elim (cases_eq (key v) (key w)) [
    | inl e ↦ inl (0, omega arith, e)
    | inr n ↦ elim (meets words v) [
      | inl m ↦ inl (suc m.0, omega (arith, m.1), m.2)
      | inr f ↦ inr (λ i l. other i l n f)
    ]
  ]
    where
      other : (i : ℕ) → i < length (w ∷ words) → key v ≢ key w → IsFresh words v → key v ≢ key (get_or (w ∷ words) i [])
      other zero l n f = n
      other (suc i) l n f = f i (omega arith)

  letters : (words : List (List ℕ)) (v : List ℕ) → IsWord d v → (x : ℕ) → x ≤ d → ((y : ℕ) → IsLetter d y → y ≤ x → IsMet words (v ++ y ∷ [])) ⊎ IsOpen words
  letters words v c zero l = inl (λ y k m. absurd (omega (arith, k.0, m)))
  letters words v c (suc x) l = elim (letters words v c x (omega arith)) [
    | inr o ↦ inr o
    | inl h ↦ elim (meets words (v ++ suc x ∷ [])) [
      | inr f ↦ inr (record { word = v ++ suc x ∷ []; valid = IsWord-append d v (suc x ∷ []) c ((omega arith, omega arith), tt); fresh = f })
      | inl m ↦ inl (λ y k n. elim (cases_eq y (suc x)) [
        | inl e ↦ (let P : ℕ → Type 0 = λ z. IsMet words (v ++ z ∷ []) in subst P (sym e) m)
        | inr g ↦ h y k (omega (arith, n, g))
      ])
    ]
  ]

  rows : (words : List (List ℕ)) → AreApart words → (n : ℕ) → n ≤ length words → ((i y : ℕ) → i < n → IsLetter d y → IsMet words (get_or words i [] ++ y ∷ [])) ⊎ IsOpen words
  rows words a zero l = inl (λ i y k c. absurd (omega arith))
  rows words a (suc n) l = elim (rows words a n (omega arith)) [
    | inr o ↦ inr o
    | inl h ↦ elim (letters words (get_or words n []) (a.valid n (omega arith)) d (omega arith)) [
      | inr o ↦ inr o
      | inl m ↦ inl (λ i y k c. elim (cases_eq i n) [
        | inl e ↦ (let P : ℕ → Type 0 = λ z. IsMet words (get_or words z [] ++ y ∷ []) in subst P (sym e) (m y c c.1))
        | inr g ↦ h i y (omega (arith, k, g)) c
      ])
    ]
  ]

  AreApart-length : (words : List (List ℕ)) → AreApart words → length words ≤ bound
  AreApart-length words a =
      let n = length-map words key in
      let r = length-le_apart (map key words) bound
      (λ i l. (let k : i < length words = omega (arith, l, n) in let e = get_or-map key words i [] 0 k in let b = below (get_or words i []) (a.valid i k) in omega (arith, e, b)))
      (λ i j l m e. (let k : i < length words = omega (arith, l, n) in let q : j < length words = omega (arith, m, n) in
      let same = sym (get_or-map key words i [] 0 k) ∙ e ∙ get_or-map key words j [] 0 q in
      elim (cases_order i j) [
        | inl t ↦ t
        | inr t ↦ elim t [ inl u ↦ absurd (a.distinct i j u q same) | inr u ↦ absurd (a.distinct j i u k (sym same)) ]
      ])) in
      omega (arith, r, n)

  AreApart-push : (words : List (List ℕ)) (v : List ℕ) → AreApart words → IsWord d v → IsFresh words v → AreApart (words ++ v ∷ [])
  AreApart-push words v a c f = record {
    valid = λ i l. elim (cases_lt i (length words)) [
      | inl t ↦ subst (IsWord d) (sym (get_or_append_left words (v ∷ []) [] i t)) (a.valid i t)
      | inr t ↦ subst (IsWord d) (sym (get_or_push words v [] i (at_end i l t))) c
    ];
    distinct = λ i j l m e.
        let k : i < length words = (let n = length_push words v in omega (arith, l, m, n)) in
        let left = get_or_append_left words (v ∷ []) [] i k in
        elim (cases_lt j (length words)) [
          | inl t ↦ a.distinct i j l t (sym (ap key left) ∙ e ∙ ap key (get_or_append_left words (v ∷ []) [] j t))
          | inr t ↦ f i k (sym (ap key (get_or_push words v [] j (at_end j m t))) ∙ sym e ∙ ap key left)
        ];
  }
    where
      at_end : (i : ℕ) → i < length (words ++ v ∷ []) → length words ≤ i → length words ≡ i
      at_end i l t = let n = length_push words v in omega (arith, n, l, t)

  -- words from which no letter leads to a new key; the first is empty
  record AreAll (words : List (List ℕ)) : Type 0 where
    apart : AreApart words
    some : 0 < length words
    first : get_or words 0 [] ≡ []
    closed : (i y : ℕ) → i < length words → IsLetter d y → IsMet words (get_or words i [] ++ y ∷ [])

  -- words so far, the first of which is empty
  record ArePart (words : List (List ℕ)) : Type 0 where
    apart : AreApart words
    some : 0 < length words
    first : get_or words 0 [] ≡ []

  ArePart-push : (words : List (List ℕ)) → ArePart words → (o : IsOpen words) → ArePart (words ++ o.word ∷ [])
  ArePart-push words a o = record {
    apart = AreApart-push words o.word a.apart o.valid o.fresh;
    some = (let n = length_push words o.word in omega (arith, n));
    first = get_or_append_left words (o.word ∷ []) [] 0 a.some ∙ a.first;
  }

  -- words from which no letter leads to a new key
  abbrev AreClosed : List (List ℕ) → Type 0
  AreClosed words = (i y : ℕ) → i < length words → IsLetter d y → IsMet words (get_or words i [] ++ y ∷ [])

  grow : (more : ℕ) (words : List (List ℕ)) → ArePart words → bound ≤ length words + more → (all : List (List ℕ)) × ArePart all × AreClosed all
  grow zero words a l = elim (rows words a.apart (length words) (omega arith)) [
    | inl c ↦ (words, a, c)
    | inr o ↦ absurd (
        let n = AreApart-length (words ++ o.word ∷ []) (ArePart-push words a o).apart in
        let m = length_push words o.word in
        omega (arith, n, m, l)
        )
  ]
  grow (suc more) words a l = elim (rows words a.apart (length words) (omega arith)) [
    | inl c ↦ (words, a, c)
    | inr o ↦ grow more (words ++ o.word ∷ []) (ArePart-push words a o) (let m = length_push words o.word in omega (arith, m, l))
  ]

  all_words : (all : List (List ℕ)) × ArePart all × AreClosed all
  all_words = grow bound ([] ∷ []) (record { apart = record { valid = one; distinct = two }; some = omega arith; first = refl }) (omega arith)
    where
      one : (i : ℕ) → i < 1 → IsWord d (get_or ([] ∷ []) i [])
      one zero l = tt
      one (suc i) l = absurd (omega (arith, l))

      two : (i j : ℕ) → i < j → j < 1 → key (get_or ([] ∷ []) i []) ≢ key (get_or ([] ∷ []) j [])
      two i j l m e = omega (arith, l, m)

  -- each word leads to the key of one of them
  covered : (words : List (List ℕ)) → ArePart words → AreClosed words → (w v : List ℕ) → IsWord d v → IsWord d w → IsMet words v → IsMet words (v ++ w)
  covered words a all [] v c k m = subst (IsMet words) (sym (append-nil v)) m
  covered words a all (x ∷ w) v c k m =
      let i = m.0 in
      let at = a.apart.valid i m.1 in
      let n = all i x m.1 k.0 in
      let same = onward v (get_or words i []) x c at k.0 m.2 in
      let one : IsWord d (x ∷ []) = (k.0, tt) in
      subst (IsMet words) (append_assoc v (x ∷ []) w) (covered words a all w (v ++ x ∷ []) (IsWord-append d v (x ∷ []) c one) k.1 (n.0, n.1, same ∙ n.2))

-- ---- pairs of sections of two states
after_letter : (qs : List State) (s : ℕ) (v : List ℕ) (x : ℕ) → state_after qs s (v ++ x ∷ []) ≡ next_state qs (state_after qs s v) x
after_letter qs s [] x = refl
after_letter qs s (y ∷ v) x = after_letter qs (next_state qs s y) v x

-- states of an automaton that act alike are one
abbrev AreApartStates : List State → Type 0
AreApartStates qs = (i j : ℕ) → i < length qs → j < length qs → IsAlike (state_term qs i) (state_term qs j) → i ≡ j

module _ (d : ℕ) (ps qs : List State) (g : IsAutomaton d ps) (h : IsAutomaton d qs) (ps_apart : AreApartStates ps) (qs_apart : AreApartStates qs) (s t : ℕ) (ls : s < length ps) (lt : t < length qs) where
  abbrev left : List ℕ → ℕ
  left w = state_after ps s w

  abbrev right : List ℕ → ℕ
  right w = state_after qs t (act (state_term ps s) w)

  abbrev pair_key : List ℕ → ℕ
  pair_key w = left w * length qs + right w

  left_lt : (w : List ℕ) → left w < length ps
  left_lt w = state_after-lt d ps s w g ls

  right_lt : (w : List ℕ) → right w < length qs
  right_lt w = state_after-lt d qs t (act (state_term ps s) w) h lt

  key_lt : (w : List ℕ) → IsWord d w → pair_key w < length ps * length qs
  key_lt w c = let l = left_lt w in let r = right_lt w in grind (arith, mul-add-lt (left w) (length qs) (right w) (length ps) l r)

  key_left : (v w : List ℕ) → pair_key v ≡ pair_key w → left v ≡ left w
  key_left v w e = sym (div-mul-add (left v) (length qs) (right v) (right_lt v)) ∙ ap (λ k. k / length qs) e ∙ div-mul-add (left w) (length qs) (right w) (right_lt w)

  key_right : (v w : List ℕ) → pair_key v ≡ pair_key w → right v ≡ right w
  key_right v w e = sym (mod-mul-add (left v) (length qs) (right v) (right_lt v)) ∙ ap (λ k. k % length qs) e ∙ mod-mul-add (left w) (length qs) (right w) (right_lt w)

  key_same : (v w : List ℕ) → left v ≡ left w → right v ≡ right w → pair_key v ≡ pair_key w
  key_same v w e f = ap (λ i. i * length qs + right v) e ∙ ap (λ j. left w * length qs + j) f

  left_section : (w : List ℕ) → IsWord d w → IsAlike (Section (state_term ps s) w) (state_term ps (left w))
  left_section w c = section_state d ps s w g ls c

  right_section : (w : List ℕ) → IsWord d w → IsAlike (Section (state_term qs t) (act (state_term ps s) w)) (state_term qs (right w))
  right_section w c = section_state d qs t (act (state_term ps s) w) h lt (act-IsWord d (state_term ps s) (IsTerm-state_term d ps s g ls) w c)

  right_letter : (w : List ℕ) (x : ℕ) → IsWord d w → IsLetter d x → right (w ++ x ∷ []) ≡ next_state qs (right w) (image (state_at ps (left w)).perm x)
  right_letter w x c k =
      let moved = act-append (state_term ps s) w (x ∷ []) in
      let one = (left_section w c).images (x ∷ []) ∙ act-state_letter d ps (left w) x g (left_lt w) k in
      ap (state_after qs t) (moved ∙ ap (λ u. act (state_term ps s) w ++ u) one) ∙ after_letter qs t (act (state_term ps s) w) (image (state_at ps (left w)).perm x)

  key_onward : (v w : List ℕ) (x : ℕ) → IsWord d v → IsWord d w → IsLetter d x → pair_key v ≡ pair_key w → pair_key (v ++ x ∷ []) ≡ pair_key (w ++ x ∷ [])
  key_onward v w x c e k same =
      let l = key_left v w same in
      let r = key_right v w same in
      key_same (v ++ x ∷ []) (w ++ x ∷ [])
      (after_letter ps s v x ∙ ap (λ i. next_state ps i x) l ∙ sym (after_letter ps s w x))
      (right_letter v x c k ∙ ap (λ i. next_state qs (right v) (image (state_at ps i).perm x)) l ∙ ap (λ j. next_state qs j (image (state_at ps (left w)).perm x)) r ∙ sym (right_letter w x e k))

  pair_from_key : (v w : List ℕ) → IsWord d v → IsWord d w → pair_key v ≡ pair_key w → SamePair (state_term ps s) (state_term qs t) v w
  pair_from_key v w c e same =
      let P : ℕ → Type 0 = λ i. IsAlike (Section (state_term ps s) v) (state_term ps i) in
      let Q : ℕ → Type 0 = λ i. IsAlike (Section (state_term qs t) (act (state_term ps s) v)) (state_term qs i) in
      (alike_trans (subst P (key_left v w same) (left_section v c)) (alike_sym (left_section w e)), alike_trans (subst Q (key_right v w same) (right_section v c)) (alike_sym (right_section w e)))

  key_from_pair : (v w : List ℕ) → IsWord d v → IsWord d w → SamePair (state_term ps s) (state_term qs t) v w → pair_key v ≡ pair_key w
  key_from_pair v w c e same =
      key_same v w
      (ps_apart (left v) (left w) (left_lt v) (left_lt w) (alike_trans (alike_sym (left_section v c)) (alike_trans same.0 (left_section w e))))
      (qs_apart (right v) (right w) (right_lt v) (right_lt w) (alike_trans (alike_sym (right_section v c)) (alike_trans same.1 (right_section w e))))

  states_counted : (n : ℕ) × IsPairCount d (state_term ps s) (state_term qs t) n
  states_counted =
      let all = all_words d (length ps * length qs) pair_key key_lt key_onward in
      let words = all.0 in
      let a = all.1 in
      let valid : (i : ℕ) (z : List ℕ) → i < length words → IsWord d (get_or words i z) = λ i z l. subst (IsWord d) (get_or_default words i [] z l) (a.apart.valid i l) in (
        length words,
        record {
          members = words;
          count = refl;
          valid = valid;
          apart = λ i j z l m e.
              let k : i < length words = omega (arith, l, m) in
              a.apart.distinct i j l m (ap pair_key (get_or_default words i [] z k) ∙ key_from_pair (get_or words i z) (get_or words j z) (valid i z k) (valid j z m) e ∙ ap pair_key (get_or_default words j z [] m));
          covers = λ w c.
              let r = covered d (length ps * length qs) pair_key key_lt key_onward words a all.2 w [] tt c (0, a.some, ap pair_key (sym a.first)) in
              (r.0, r.1, pair_from_key w (get_or words r.0 w) c (valid r.0 w r.1) (r.2 ∙ ap pair_key (get_or_default words r.0 [] w r.1)));
        },
      )

-- two rows of machines of unlike rows have a count of pairs
pub rows_counted : (d : ℕ) (m n : List Row) (s t : ℕ) → IsMachine d m → AreUnlike m → IsMachine d n → AreUnlike n → s < length m → t < length n → (count : ℕ) × IsPairCount d (row_term m s) (row_term n t) count
rows_counted d m n s t hm um hn un ls lt =
    let sm = length-states_of m in
    let sn = length-states_of n in
    states_counted d (states_of m) (states_of n) (IsAutomaton-states_of d m hm) (IsAutomaton-states_of d n hn) (apart_states m um) (apart_states n un) s t (omega (arith, ls, sm)) (omega (arith, lt, sn))
  where
    apart_states : (rows : List Row) → AreUnlike rows → AreApartStates (states_of rows)
    apart_states rows u i j il jl e =
        let size = length-states_of rows in
        elim (cases_order i j) [
          | inl same ↦ same
          | inr o ↦ elim o [ inl l ↦ absurd (u i j l (omega (arith, jl, size)) e) | inr l ↦ absurd (u j i l (omega (arith, il, size)) (alike_sym e)) ]
        ]
