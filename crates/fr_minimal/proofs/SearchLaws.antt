-- A search that meets pairs of rows in the order of their words, without those that the earlier ones join, ends at the least
-- word that tells two rows apart: if a word tells a joined pair apart, it tells apart one of the pairs that join it, whose own
-- word comes no later.
use Rattle.std.proofs.Common.{ℕ, ◌≡◌, ◌+◌, ◌-◌, ◌<◌, ◌≤◌, ◌⊎◌, inl, inr, cond, List, [], ◌∷◌, ◌++◌, length, drop, refl, sym, ◌∙◌, ap, subst, arith, ltb, length-append, append_assoc}
use Rattle.std.proofs.lemmas.List.{append-nil, length_push}
use Rattle.std.proofs.lemmas.Bool.{cases_lt, cond_below, cond_above}
use Rattle.fr_model.specs.Words.{IsLetter, IsWord}
use Rattle.fr_model.specs.Permutations.{image}
use Rattle.fr_model.specs.Terms.{act, IsAlike}
use Rattle.fr_model.specs.Automata.{State, state_at, next_state, state_after, state_term, IsAutomaton}
use Rattle.fr_model.specs.Separation.{IsLexBefore, IsShortlexBefore, IsSeparatingWord}
use Rattle.fr_model.proofs.TermLaws.{IsWord-append}
use Rattle.fr_model.proofs.AlikeLaws.{act-nil, alike_from_words}
use Rattle.fr_model.proofs.AutomatonLaws.{act-state_term, act-state_letter, section_state, state_after-lt, IsTerm-state_term}
use Rattle.fr_model.proofs.CanonicalLaws.{shortlex_trans, shortlex_irrefl}
use Rattle.fr_machine.specs.Orders.{UpTo}
use Rattle.fr_machine.proofs.OrderLaws.{shortlex_push}
use Rattle.fr_minimal.specs.declared.met.Met.{Met}
use Rattle.fr_minimal.specs.Searches.{met_at, word_at, IsLeastDifference, IsSearched}

pub state_after-push : (qs : List State) (s : ℕ) (w : List ℕ) (x : ℕ) → state_after qs s (w ++ x ∷ []) ≡ next_state qs (state_after qs s w) x
state_after-push qs s [] x = refl
state_after-push qs s (y ∷ w) x = state_after-push qs (next_state qs s y) w x

-- ---- shortlex order
lex_pop : (u w : List ℕ) (y x : ℕ) → length u ≡ length w → IsLexBefore (u ++ y ∷ []) (w ++ x ∷ []) → IsLexBefore u w ⊎ ((u ≡ w) × (y < x))
lex_pop [] [] y x e (inl l) = inr (refl, l)
lex_pop [] [] y x e (inr h) = absurd h.1
lex_pop [] (b ∷ w) y x e h = absurd (omega arith)
lex_pop (a ∷ u) [] y x e h = absurd (omega arith)
lex_pop (a ∷ u) (b ∷ w) y x e (inl l) = inl (inl l)
lex_pop (a ∷ u) (b ∷ w) y x e (inr h) = elim (lex_pop u w y x (omega arith) h.1) [
  | inl r ↦ inl (inr (h.0, r))
  | inr r ↦ inr (ap (λ c. c ∷ u) h.0 ∙ ap (λ v. b ∷ v) r.0, r.1)
]

-- without the last letters
shortlex_pop : (u w : List ℕ) (y x : ℕ) → IsShortlexBefore (u ++ y ∷ []) (w ++ x ∷ []) → IsShortlexBefore u w ⊎ ((u ≡ w) × (y < x))
shortlex_pop u w y x (inl l) = inl (inl (omega (arith, length_push u y, length_push w x)))
shortlex_pop u w y x (inr h) =
    let same : length u ≡ length w = omega (arith, length_push u y, length_push w x, h.0) in
    elim (lex_pop u w y x same h.1) [ inl r ↦ inl (inr (same, r)) | inr r ↦ inr r ]

-- the beginning of a word that comes before another
shortlex_prefix : (u v w : List ℕ) → IsShortlexBefore (u ++ v) w → IsShortlexBefore u w
shortlex_prefix u [] w h = let P : List ℕ → Type 0 = λ t. IsShortlexBefore t w in subst P (append-nil u) h
shortlex_prefix u (y ∷ v) w (inl l) = inl (omega (arith, length-append u (y ∷ v)))
shortlex_prefix u (y ∷ v) w (inr h) = inl (omega (arith, length-append u (y ∷ v), h.0))

-- one word behind two others
shortlex_append : (u v z : List ℕ) → IsShortlexBefore u v → IsShortlexBefore (u ++ z) (v ++ z)
shortlex_append u v [] h = rw (append-nil u, append-nil v) h
shortlex_append u v (x ∷ z) h =
    let r = shortlex_append (u ++ x ∷ []) (v ++ x ∷ []) z (shortlex_push u v x x h) in
    rw (append_assoc u (x ∷ []) z, append_assoc v (x ∷ []) z) at r

upto_append : (u v z w : List ℕ) → UpTo u v → IsShortlexBefore (v ++ z) w → IsShortlexBefore (u ++ z) w
upto_append u v z w (inl e) h = let P : List ℕ → Type 0 = λ t. IsShortlexBefore (t ++ z) w in subst P (sym e) h
upto_append u v z w (inr b) h = shortlex_trans (u ++ z) (v ++ z) w (shortlex_append u v z b) h

-- ---- images under the rows of two machines
module _ (d : ℕ) (ps qs : List State) (g : IsAutomaton d ps) (h : IsAutomaton d qs) where
  -- the image of a word under each row of both, those of the right one behind those of the left one
  abbrev image_at : List ℕ → ℕ → List ℕ
  image_at z k = cond (ltb k (length ps)) (act (state_term ps k) z) (act (state_term qs (k - length ps)) z)

  image_left : (z : List ℕ) (k : ℕ) → k < length ps → image_at z k ≡ act (state_term ps k) z
  image_left z k l = sym (cond_below k (length ps) (act (state_term ps k) z) (act (state_term qs (k - length ps)) z) l)

  image_right : (z : List ℕ) (k : ℕ) → image_at z (length ps + k) ≡ act (state_term qs k) z
  image_right z k =
      let back : length ps + k - length ps ≡ k = omega arith in
      sym (cond_above (length ps + k) (length ps) (act (state_term ps (length ps + k)) z) (act (state_term qs (length ps + k - length ps)) z) (act (state_term qs k) z) (omega arith) (ap (λ i. act (state_term qs i) z) (sym back)))

  module _ (s t : ℕ) (ls : s < length ps) (lt : t < length qs) (met : List Met) (j : ℕ) (o : IsSearched d ps qs s t met j 1) where
    abbrev left_row : ℕ → ℕ
    left_row i = (met_at met i).left

    abbrev right_row : ℕ → ℕ
    right_row i = (met_at met i).right

    left_in : (i : ℕ) → i < length met → left_row i < length ps
    left_in i l = omega (arith, state_after-lt d ps s (word_at o.words i) g ls, o.left i l)

    right_in : (i : ℕ) → i < length met → right_row i < length qs
    right_in i l = omega (arith, state_after-lt d qs t (word_at o.words i) h lt, o.right i l)

    -- the pairs that were met act alike on the words behind their own as far as their rows put out the same letters
    same_images : (Holds : List ℕ → Type 0) → ((u v z : List ℕ) → UpTo u v → Holds (v ++ z) → Holds (u ++ z))
        → ((i y : ℕ) (z : List ℕ) → i < length met → IsLetter d y → Holds (word_at o.words i ++ y ∷ z) → (image (state_at ps (left_row i)).perm y ≡ image (state_at qs (right_row i)).perm y) × ((i < j) ⊎ (z ≡ [])))
        → (z : List ℕ) (i : ℕ) → i < length met → IsWord d z → Holds (word_at o.words i ++ z) → act (state_term ps (left_row i)) z ≡ act (state_term qs (right_row i)) z
    same_images Holds closed agree [] i l a f = act-nil (state_term ps (left_row i)) ∙ sym (act-nil (state_term qs (right_row i)))
    same_images Holds closed agree (y ∷ z) i l a f =
        let r = agree i y z l a.0 f in
        let p = next_state ps (left_row i) y in
        let q = next_state qs (right_row i) y in
        let tails : act (state_term ps p) z ≡ act (state_term qs q) z = elim r.1 [
          | inl b ↦
              let same = o.joined i y l a.0 (inl b) (image_at z) (λ k kl up.
              image_left z (left_row k) (left_in k kl)
              ∙ same_images Holds closed agree z k kl a.1 (closed (word_at o.words k) (word_at o.words i ++ y ∷ []) z up (rw (append_assoc (word_at o.words i) (y ∷ []) z) f))
              ∙ sym (image_right z (right_row k))) in
              let first : p < length ps = next_lt i y l a.0 in
              sym (image_left z p first) ∙ same ∙ image_right z q
          | inr e ↦ let P : List ℕ → Type 0 = λ v. act (state_term ps p) v ≡ act (state_term qs q) v in subst P (sym e) (act-nil (state_term ps p) ∙ sym (act-nil (state_term qs q)))
        ] in
        act-state_term d ps (left_row i) y z g (left_in i l) a.0
        ∙ ap (λ c. c ∷ act (state_term ps p) z) r.0
        ∙ ap (λ v. image (state_at qs (right_row i)).perm y ∷ v) tails
        ∙ sym (act-state_term d qs (right_row i) y z h (right_in i l) a.0)
      where
        next_lt : (i y : ℕ) → i < length met → IsLetter d y → next_state ps (left_row i) y < length ps
        next_lt i y l a = state_after-lt d ps (left_row i) (y ∷ []) g (left_in i l)

    -- the pairs that were met first put out the same letters
    abbrev Agreed : Type 0
    Agreed = (k : ℕ) → k < j → (y : ℕ) → IsLetter d y → image (state_at ps (left_row k)).perm y ≡ image (state_at qs (right_row k)).perm y

    first_left : left_row 0 ≡ s
    first_left = sym (o.left 0 o.some) ∙ ap (state_after ps s) o.spelled.none

    first_right : right_row 0 ≡ t
    first_right = sym (o.right 0 o.some) ∙ ap (state_after qs t) o.spelled.none

    -- all pairs that were met agree
    pub alike_searched : length met ≤ j → Agreed → IsAlike (state_term ps s) (state_term qs t)
    alike_searched all agreed =
        alike_from_words d (IsTerm-state_term d ps s g ls) (IsTerm-state_term d qs t h lt)
        (λ w a. rw (← first_left, ← first_right) (same_images (λ v. Unit {0}) (λ u v z up f. f) (λ i y z l b f. (agreed i (omega arith) y b, inl (omega arith))) w 0 o.some a tt))

    -- the pair at place j is the first that does not
    pub separating_searched : (x : ℕ) → j < length met → Agreed → IsLeastDifference d (state_at ps (left_row j)).perm (state_at qs (right_row j)).perm x → IsSeparatingWord d (state_term ps s) (state_term qs t) (word_at o.words j ++ x ∷ [])
    separating_searched x jl agreed e =
        let w = word_at o.words j in
        let word = o.valid j jl in
        record {
          valid = IsWord-append d w (x ∷ []) word (e.letter, tt);
          differs = λ same.
              let a = (section_state d ps s w g ls word).images (x ∷ []) ∙ ap (λ i. act (state_term ps i) (x ∷ [])) (o.left j jl) ∙ act-state_letter d ps (left_row j) x g (left_in j jl) e.letter in
              let b = (section_state d qs t w h lt word).images (x ∷ []) ∙ ap (λ i. act (state_term qs i) (x ∷ [])) (o.right j jl) ∙ act-state_letter d qs (right_row j) x h (right_in j jl) e.letter in
              let heads = sym a ∙ ap (drop (length w)) same ∙ b in
              let last : image (state_at ps (left_row j)).perm x ≡ image (state_at qs (right_row j)).perm x = cc in
              e.differs last;
          least = λ v a b.
              rw (← first_left, ← first_right) (same_images (λ u. IsShortlexBefore u (w ++ x ∷ [])) (λ u c z up f. upto_append u c z (w ++ x ∷ []) up f) agree v 0 o.some a
              (let P : List ℕ → Type 0 = λ u. IsShortlexBefore (u ++ v) (w ++ x ∷ []) in subst P (sym o.spelled.none) b));
        }
      where
        earlier : (i : ℕ) → i < length met → IsShortlexBefore (word_at o.words i) (word_at o.words j) → i < j
        earlier i l b = elim (cases_lt i j) [
          | inl m ↦ m
          | inr m ↦ elim (cases_lt j i) [
            | inl n ↦ absurd (shortlex_irrefl (word_at o.words j) (shortlex_trans (word_at o.words j) (word_at o.words i) (word_at o.words j) (o.ascending j i n l) b))
            | inr n ↦ let same : i ≡ j = omega arith in let Q : ℕ → Type 0 = λ k. IsShortlexBefore (word_at o.words k) (word_at o.words j) in absurd (shortlex_irrefl (word_at o.words j) (subst Q same b))
          ]
        ]

        here : (i : ℕ) → i < length met → word_at o.words i ≡ word_at o.words j → i ≡ j
        here i l b = elim (cases_lt i j) [
          | inl m ↦ absurd (let Q : List ℕ → Type 0 = λ u. IsShortlexBefore u (word_at o.words j) in shortlex_irrefl (word_at o.words j) (subst Q b (o.ascending i j m jl)))
          | inr m ↦ elim (cases_lt j i) [
            | inl n ↦ absurd (let Q : List ℕ → Type 0 = λ u. IsShortlexBefore (word_at o.words j) u in shortlex_irrefl (word_at o.words j) (subst Q b (o.ascending j i n l)))
            | inr n ↦ omega arith
          ]
        ]

        short_rest : (w z : List ℕ) (y : ℕ) → IsShortlexBefore (w ++ y ∷ z) (w ++ x ∷ []) → z ≡ []
        short_rest w [] y b = refl
        short_rest w (c ∷ z) y (inl b) = absurd (omega (arith, length-append w (y ∷ c ∷ z), length_push w x))
        short_rest w (c ∷ z) y (inr b) = absurd (omega (arith, b.0, length-append w (y ∷ c ∷ z), length_push w x))

        agree : (i y : ℕ) (z : List ℕ) → i < length met → IsLetter d y → IsShortlexBefore (word_at o.words i ++ y ∷ z) (word_at o.words j ++ x ∷ []) → (image (state_at ps (left_row i)).perm y ≡ image (state_at qs (right_row i)).perm y) × ((i < j) ⊎ (z ≡ []))
        agree i y z l a b =
            let front = shortlex_prefix (word_at o.words i ++ y ∷ []) z (word_at o.words j ++ x ∷ []) (rw (append_assoc (word_at o.words i) (y ∷ []) z) b) in
            elim (shortlex_pop (word_at o.words i) (word_at o.words j) y x front) [
              | inl m ↦ let k = earlier i l m in (agreed i k y a, inl k)
              | inr m ↦
                  let same = here i l m.0 in
                  let P : ℕ → Type 0 = λ k. image (state_at ps (left_row k)).perm y ≡ image (state_at qs (right_row k)).perm y in
                  let Q : List ℕ → Type 0 = λ u. IsShortlexBefore (u ++ y ∷ z) (word_at o.words j ++ x ∷ []) in
                  (subst P (sym same) (e.least y a m.1), inr (short_rest (word_at o.words j) z y (subst Q m.0 b)))
            ]
