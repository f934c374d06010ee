-- Pairs of rows as numbers, and the machine of a walk over them.
use Rattle.std.proofs.Common.{ℕ, zero, suc, ◌≡◌, ◌≢◌, ◌+◌, ◌*◌, ◌/◌, ◌%◌, ◌<◌, ◌≤◌, inl, inr, List, [], ◌∷◌, ◌++◌, length, map, get_or, refl, sym, ◌∙◌, ap, subst, arith}
use Rattle.std.proofs.lemmas.List.{get_or_default, get_or-map, get_or_append_left, get_or_push, length_push, length-map}
use Rattle.std.proofs.lemmas.Bool.{cases_lt}
use Rattle.std.proofs.lemmas.Nat.{div-add-mod', div-mul-add, mod-mul-add, mul-add-lt, div_below}
use Rattle.fr_model.specs.Words.{IsLetter, IsWord}
use Rattle.fr_model.specs.Permutations.{IsPermutation, image}
use Rattle.fr_model.specs.Terms.{Product, Section, act, IsAlike}
use Rattle.fr_model.specs.Automata.{state_at, next_state, state_after, state_term, IsAutomaton}
use Rattle.fr_model.specs.Classes.{SamePair, IsPairCount, HasMorePairs}
use Rattle.fr_model.specs.Constructions.{IsProductOf}
use Rattle.fr_model.proofs.PermutationLaws.{image-composite, IsPermutation-composite}
use Rattle.fr_model.proofs.AlikeLaws.{alike_sym, alike_trans, act-nil}
use Rattle.fr_model.proofs.AutomatonLaws.{state_is, act-state_term, section_state, state_after-lt, next_state-lt, IsTerm-state_term}
use Rattle.fr_model.proofs.TermLaws.{act-IsWord}
use Rattle.fr_model.proofs.ConstructionLaws.{product_alike}
use Rattle.fr_machine.specs.declared.row.Row.{Row}
use Rattle.fr_machine.specs.Rows.{state_of, states_of, row_term, IsMachine}
use Rattle.fr_machine.specs.Rows.{row_at}
use Rattle.fr_machine.specs.Minimal.{AreReached, IsMinimal}
use Rattle.fr_machine.specs.Walks.{IsKeys, walk_after, IsBuilt, Reached, IsRowPassed}
use Rattle.fr_machine.proofs.RowLaws.{IsAutomaton-states_of, length-states_of}
use Rattle.fr_model.proofs.CountLaws.{words_of, length-words_of, words_of-at}
use Rattle.fr_model.proofs.ClassLaws.{HasMorePairs-lt}
use Rattle.fr_machine.proofs.WalkLaws.{IsMachine-built, built_next, built_after, AreReached-built, Reached-numbered}
use Rattle.fr_product.specs.Products.{IsProduct, pair_step, pair_output}

pub perm_at : (rows : List Row) (s : ℕ) → s < length rows → (state_at (states_of rows) s).perm ≡ (row_at rows s).perm
perm_at rows s l = ap (λ q. q.perm) (get_or-map state_of rows s (record { perm = []; next = [] }) (record { perm = []; next = [] }) l)

some_width : (n k m : ℕ) → k < m * n → 0 < n
some_width zero k m l = absurd (let z : m * 0 ≡ 0 = omega arith in omega (arith, z))
some_width (suc n) k m l = omega arith

pub pair_lt : (k m n : ℕ) → k < m * n → (k / n < m) × (k % n < n)
pair_lt k m n l = let some = some_width n k m l in (div_below k n m some l, omega arith)

pub pair_left : (a b n : ℕ) → b < n → (a * n + b) / n ≡ a
pair_left a b n l = div-mul-add a n b l

pub pair_right : (a b n : ℕ) → b < n → (a * n + b) % n ≡ b
pair_right a b n l = mod-mul-add a n b l

abbrev the_step : List Row → List Row → ℕ → ℕ → ℕ
the_step m n = pair_step (states_of m) (states_of n) (length n)

abbrev the_output : List Row → List Row → ℕ → List ℕ
the_output m n = pair_output (states_of m) (states_of n) (length n)

module _ (d : ℕ) (m n : List Row) (hm : IsMinimal d m) (hn : IsMinimal d n) where
  gm : IsAutomaton d (states_of m)
  gm = IsAutomaton-states_of d m hm.machine

  gn : IsAutomaton d (states_of n)
  gn = IsAutomaton-states_of d n hn.machine

  left_state : (k : ℕ) → k < length m * length n → k / length n < length (states_of m)
  left_state k l = omega (arith, (pair_lt k (length m) (length n) l).0, length-states_of m)

  right_state : (k : ℕ) → k < length m * length n → k % length n < length (states_of n)
  right_state k l = omega (arith, (pair_lt k (length m) (length n) l).1, length-states_of n)

  -- one letter
  step_is : (k x : ℕ) → k < length m * length n → IsLetter d x →
      (the_step m n k x < length m * length n) × (the_step m n k x / length n ≡ next_state (states_of m) (k / length n) x) × (the_step m n k x % length n ≡ next_state (states_of n) (k % length n) (image (state_at (states_of m) (k / length n)).perm x))
  step_is k x l a =
      let i = next_state (states_of m) (k / length n) x in
      let j = next_state (states_of n) (k % length n) (image (state_at (states_of m) (k / length n)).perm x) in
      let il : i < length m = omega (arith, next_state-lt d (states_of m) (k / length n) x gm (left_state k l), length-states_of m) in
      let jl : j < length n = omega (arith, next_state-lt d (states_of n) (k % length n) (image (state_at (states_of m) (k / length n)).perm x) gn (right_state k l), length-states_of n) in
      let inside : i * length n + j < length m * length n = grind (arith, mul-add-lt i (length n) j (length m) il jl) in
      (inside, pair_left i j (length n) jl, pair_right i j (length n) jl)

  -- a whole word
  walk_is : (k : ℕ) (w : List ℕ) → k < length m * length n → IsWord d w →
      (walk_after (the_step m n) k w < length m * length n) × (walk_after (the_step m n) k w / length n ≡ state_after (states_of m) (k / length n) w)
      × (walk_after (the_step m n) k w % length n ≡ state_after (states_of n) (k % length n) (act (row_term m (k / length n)) w))
  walk_is k [] l a = (l, refl, ap (state_after (states_of n) (k % length n)) (sym (act-nil (row_term m (k / length n)))))
  walk_is k (x ∷ w) l a =
      let o = step_is k x l a.0 in
      let r = walk_is (the_step m n k x) w o.0 a.1 in
      let e = act-state_term d (states_of m) (k / length n) x w gm (left_state k l) a.0 in (
        r.0,
        r.1 ∙ ap (λ i. state_after (states_of m) i w) o.1,
        r.2 ∙ ap (λ j. state_after (states_of n) j (act (row_term m (the_step m n k x / length n)) w)) o.2
            ∙ ap (λ i. state_after (states_of n) (next_state (states_of n) (k % length n) (image (state_at (states_of m) (k / length n)).perm x)) (act (row_term m i) w)) o.1
            ∙ ap (state_after (states_of n) (k % length n)) (sym e),
      )

  permutes : (k : ℕ) → k < length m * length n → IsPermutation d (the_output m n k)
  permutes k l = IsPermutation-composite d _ _ (state_is d (states_of m) (k / length n) gm (left_state k l)).permutes (state_is d (states_of n) (k % length n) gn (right_state k l)).permutes

-- rows that act alike are one row
same_row : (d : ℕ) (rows : List Row) → IsMinimal d rows → (i j : ℕ) → i < length rows → j < length rows → IsAlike (row_term rows i) (row_term rows j) → i ≡ j
same_row d rows h i j a b e = elim (cases_lt i j) [
  | inl l ↦ absurd (h.unlike i j l b e)
  | inr g ↦ elim (cases_lt j i) [ inl l ↦ absurd (h.unlike j i l a (alike_sym e)) | inr k ↦ omega arith ]
]

module _ (d : ℕ) (m n : List Row) (hm : IsMinimal d m) (hn : IsMinimal d n) (s t : ℕ) (ls : s < length m) (lt : t < length n) where
  abbrev start : ℕ
  start = s * length n + t

  start_lt : start < length m * length n
  start_lt = grind (arith, mul-add-lt s (length n) t (length m) ls lt)

  -- the key behind a word has the rows of the sections
  key_is : (w : List ℕ) → IsWord d w → (walk_after (the_step m n) start w < length m * length n) × (walk_after (the_step m n) start w / length n ≡ state_after (states_of m) s w)
      × (walk_after (the_step m n) start w % length n ≡ state_after (states_of n) t (act (row_term m s) w))
  key_is w a =
      let r = walk_is d m n hm hn start w start_lt a in
      let l = pair_left s t (length n) lt in (
        r.0,
        r.1 ∙ ap (λ i. state_after (states_of m) i w) l,
        r.2 ∙ ap (λ j. state_after (states_of n) j (act (row_term m (start / length n)) w)) (pair_right s t (length n) lt) ∙ ap (λ i. state_after (states_of n) t (act (row_term m i) w)) l,
      )

  moved_word : (w : List ℕ) → IsWord d w → IsWord d (act (row_term m s) w)
  moved_word w a = act-IsWord d (row_term m s) (IsTerm-state_term d (states_of m) s (gm d m n hm hn) (omega (arith, length-states_of m))) w a

  left_section : (w : List ℕ) → IsWord d w → IsAlike (Section (row_term m s) w) (row_term m (state_after (states_of m) s w))
  left_section w a = section_state d (states_of m) s w (gm d m n hm hn) (omega (arith, length-states_of m)) a

  right_section : (w : List ℕ) → IsWord d w → IsAlike (Section (row_term n t) (act (row_term m s) w)) (row_term n (state_after (states_of n) t (act (row_term m s) w)))
  right_section w a = section_state d (states_of n) t (act (row_term m s) w) (gn d m n hm hn) (omega (arith, length-states_of n)) (moved_word w a)

  pub same_pair_from_key : (v w : List ℕ) → IsWord d v → IsWord d w → walk_after (the_step m n) start v ≡ walk_after (the_step m n) start w → SamePair (row_term m s) (row_term n t) v w
  same_pair_from_key v w a b e =
      let x = key_is v a in
      let y = key_is w b in
      let i = sym x.1 ∙ ap (λ k. k / length n) e ∙ y.1 in
      let j = sym x.2 ∙ ap (λ k. k % length n) e ∙ y.2 in
      let P : ℕ → Type 0 = λ k. IsAlike (Section (row_term m s) v) (row_term m k) in
      let Q : ℕ → Type 0 = λ k. IsAlike (Section (row_term n t) (act (row_term m s) v)) (row_term n k) in
      (alike_trans (subst P i (left_section v a)) (alike_sym (left_section w b)), alike_trans (subst Q j (right_section v a)) (alike_sym (right_section w b)))

  pub key_from_same_pair : (v w : List ℕ) → IsWord d v → IsWord d w → SamePair (row_term m s) (row_term n t) v w → walk_after (the_step m n) start v ≡ walk_after (the_step m n) start w
  key_from_same_pair v w a b e =
      let x = key_is v a in
      let y = key_is w b in
      let il : state_after (states_of m) s v < length m = omega (arith, state_after-lt d (states_of m) s v (gm d m n hm hn) (omega (arith, length-states_of m)), length-states_of m) in
      let jl : state_after (states_of m) s w < length m = omega (arith, state_after-lt d (states_of m) s w (gm d m n hm hn) (omega (arith, length-states_of m)), length-states_of m) in
      let ir : state_after (states_of n) t (act (row_term m s) v) < length n = omega (arith, state_after-lt d (states_of n) t (act (row_term m s) v) (gn d m n hm hn) (omega (arith, length-states_of n)), length-states_of n) in
      let jr : state_after (states_of n) t (act (row_term m s) w) < length n = omega (arith, state_after-lt d (states_of n) t (act (row_term m s) w) (gn d m n hm hn) (omega (arith, length-states_of n)), length-states_of n) in
      let i = x.1 ∙ same_row d m hm _ _ il jl (alike_trans (alike_sym (left_section v a)) (alike_trans e.0 (left_section w b))) ∙ sym y.1 in
      let j = x.2 ∙ same_row d n hn _ _ ir jr (alike_trans (alike_sym (right_section v a)) (alike_trans e.1 (right_section w b))) ∙ sym y.2 in
      let k = walk_after (the_step m n) start v in
      let k' = walk_after (the_step m n) start w in
      sym (div-add-mod' k (length n)) ∙ ap (λ q. q * length n + k % length n) i ∙ ap (λ r. k' / length n * length n + r) j ∙ div-add-mod' k' (length n)

  -- distinct keys that are reached stand for pairs no two of which act alike
  HasMorePairs-keys : (keys : List ℕ) (limit : ℕ) → Reached d (the_step m n) start keys → ((i j : ℕ) → i < j → j < length keys → get_or keys i 0 ≢ get_or keys j 0) → limit < length keys → HasMorePairs d (row_term m s) (row_term n t) limit
  HasMorePairs-keys keys limit reached distinct more =
      let has = λ (i : ℕ) (l : i < length keys). (reached i l).0 in
      let words = words_of (length keys) has in
      let size = length-words_of (length keys) has in
      let word_is : (i : ℕ) (z : List ℕ) → i < length words → IsWord d (get_or words i z) × (walk_after (the_step m n) start (get_or words i z) ≡ get_or keys i 0) = λ i z l.
      words_of-at (length keys) has (λ w. IsWord d w × (walk_after (the_step m n) start w ≡ get_or keys i 0)) i z (omega (arith, size)) (λ k. ((reached i k).1, (reached i k).2)) in
      record {
        members = words;
        more = omega (arith, size);
        valid = λ i z l. (word_is i z l).0;
        apart = λ i j z k l e.
            let x = word_is i z (omega arith) in
            let y = word_is j z l in
            distinct i j k (omega (arith, size)) (sym x.1 ∙ key_from_same_pair _ _ x.0 y.0 e ∙ y.1);
      }

  -- a walk that would need one key too many
  pub HasMorePairs-passed : (keys : List ℕ) (key : ℕ) (w : List ℕ) → IsWord d w → walk_after (the_step m n) start w ≡ key → Reached d (the_step m n) start keys → IsRowPassed d 65536 (length m * length n) (the_step m n) keys key → HasMorePairs d (row_term m s) (row_term n t) 65536
  HasMorePairs-passed keys key w a e r p =
      let new = the_step m n key p.letter in
      let all = p.met ++ new ∷ [] in
      let reached : Reached d (the_step m n) start all = Reached-numbered d (the_step m n) start p.met all new key p.letter (p.reached start w a e r) w a e p.is_letter refl (inr refl) in
      let distinct : (i j : ℕ) → i < j → j < length all → get_or all i 0 ≢ get_or all j 0 = λ i j k l same.
      (let left : get_or all i 0 ≡ get_or p.met i 0 = get_or_append_left p.met (new ∷ []) 0 i (omega (arith, length_push p.met new)) in
      elim (cases_lt j (length p.met)) [
        | inl h ↦ let eq = p.valid.distinct i j (omega arith) h (sym left ∙ same ∙ get_or_append_left p.met (new ∷ []) 0 j h) in omega arith
        | inr h ↦
            let at : length p.met ≡ j = omega (arith, length_push p.met new) in
            let il : i < length p.met = omega arith in
            p.fresh (i, il, get_or_default p.met i new 0 il ∙ sym left ∙ same ∙ get_or_push p.met new 0 j at)
      ]) in
      HasMorePairs-keys all 65536 reached distinct (omega (arith, length_push p.met new, p.full))

-- the machine of the whole walk
module _ (d : ℕ) (m n : List Row) (hm : IsMinimal d m) (hn : IsMinimal d n) (s t : ℕ) (ls : s < length m) (lt : t < length n) (keys : List ℕ) (rows : List Row)
    (h : IsBuilt d (length m * length n) (the_step m n) (the_output m n) (s * length n + t) keys rows) (keyed : IsKeys (length m * length n) keys) (whole : length keys ≤ length rows) where
  pub product_machine : IsMachine d rows
  product_machine = IsMachine-built d (length m * length n) (the_step m n) (the_output m n) (s * length n + t) keys rows h keyed whole hm.machine.few hm.machine.letters (permutes d m n hm hn)

  size : length rows ≡ length keys
  size = omega (arith, h.done)

  first_row : 0 < length rows
  first_row = omega (arith, size, h.some)

  after : (w : List ℕ) → IsWord d w → (state_after (states_of rows) 0 w < length rows) × (get_or keys (state_after (states_of rows) 0 w) 0 ≡ walk_after (the_step m n) (s * length n + t) w)
  after w a =
      let r = built_after d (length m * length n) (the_step m n) (the_output m n) (s * length n + t) keys rows h keyed whole hm.machine.few hm.machine.letters (permutes d m n hm hn) 0 w first_row a in
      (r.0, r.1 ∙ ap (λ k. walk_after (the_step m n) k w) h.first)

  same_state : (v w : List ℕ) → IsWord d v → IsWord d w → (state_after (states_of rows) 0 v ≡ state_after (states_of rows) 0 w → SamePair (row_term m s) (row_term n t) v w) × (SamePair (row_term m s) (row_term n t) v w → state_after (states_of rows) 0 v ≡ state_after (states_of rows) 0 w)
  same_state v w a b =
      let x = after v a in
      let y = after w b in (
        (λ e. same_pair_from_key d m n hm hn s t ls lt v w a b (sym x.1 ∙ ap (λ i. get_or keys i 0) e ∙ y.1)),
        (λ e. keyed.distinct _ _ (omega (arith, x.0, size)) (omega (arith, y.0, size)) (x.1 ∙ key_from_same_pair d m n hm hn s t ls lt v w a b e ∙ sym y.1)),
      )

  reached : AreReached d rows
  reached = AreReached-built d (length m * length n) (the_step m n) (the_output m n) (s * length n + t) keys rows h keyed whole hm.machine.few hm.machine.letters (permutes d m n hm hn)

  has : (i : ℕ) → i < length rows → List ℕ
  has i l = (reached i l).0

  members : List (List ℕ)
  members = words_of (length rows) has

  member_is : (i : ℕ) (z : List ℕ) → i < length rows → IsWord d (get_or members i z) × (state_after (states_of rows) 0 (get_or members i z) ≡ i)
  unfolding members has
  member_is i z l = words_of-at (length rows) has (λ w. IsWord d w × (state_after (states_of rows) 0 w ≡ i)) i z l (λ k. ((reached i k).1, (reached i k).2))

  length-members : length members ≡ length rows
  unfolding members
  length-members = length-words_of (length rows) has

  pairs_counted : IsPairCount d (row_term m s) (row_term n t) (length rows)
  pairs_counted = record {
    members = members;
    count = length-members;
    valid = λ i z l. (member_is i z (omega (arith, length-members))).0;
    apart = λ i j z k l e.
        let x = member_is i z (omega (arith, length-members)) in
        let y = member_is j z (omega (arith, length-members)) in
        let same = (same_state _ _ x.0 y.0).1 e in
        omega (arith, x.1, y.1, same);
    covers = λ w a.
        let i = state_after (states_of rows) 0 w in
        let x = member_is i w (after w a).0 in
        (i, omega (arith, (after w a).0, length-members), (same_state w _ a x.0).0 (sym x.1));
  }

  lefts : List ℕ
  lefts = map (λ k. k / length n) keys

  rights : List ℕ
  rights = map (λ k. k % length n) keys

  left_size : length lefts ≡ length (states_of rows)
  unfolding lefts
  left_size = omega (arith, length-map keys (λ k. k / length n), size, length-states_of rows)

  right_size : length rights ≡ length (states_of rows)
  unfolding rights
  right_size = omega (arith, length-map keys (λ k. k % length n), size, length-states_of rows)

  left_at : (i : ℕ) → i < length keys → get_or lefts i 0 ≡ get_or keys i 0 / length n
  unfolding lefts
  left_at i l = get_or-map (λ k. k / length n) keys i 0 0 l

  right_at : (i : ℕ) → i < length keys → get_or rights i 0 ≡ get_or keys i 0 % length n
  unfolding rights
  right_at i l = get_or-map (λ k. k % length n) keys i 0 0 l

  in_keys : (i : ℕ) → i < length (states_of rows) → i < length keys
  in_keys i l = omega (arith, length-states_of rows, size)

  next_is : (i x : ℕ) → i < length (states_of rows) → IsLetter d x → (next_state (states_of rows) i x < length keys) × (get_or keys (next_state (states_of rows) i x) 0 ≡ the_step m n (get_or keys i 0) x)
  next_is i x l k =
      let r = built_next d (length m * length n) (the_step m n) (the_output m n) (s * length n + t) keys rows h keyed whole hm.machine.few hm.machine.letters (permutes d m n hm hn) i x (omega (arith, length-states_of rows)) k in
      (omega (arith, r.0, size), r.1)

  is_product : IsProductOf d (states_of m) (states_of n) lefts rights (states_of rows)
  is_product = record {
    automaton = IsAutomaton-states_of d rows product_machine;
    left_count = left_size;
    right_count = right_size;
    lefts_below = λ i l. omega (arith, left_at i (in_keys i l), left_state d m n hm hn (get_or keys i 0) (keyed.below i (in_keys i l)));
    rights_below = λ i l. omega (arith, right_at i (in_keys i l), right_state d m n hm hn (get_or keys i 0) (keyed.below i (in_keys i l)));
    outputs = λ i x l k.
        let key = get_or keys i 0 in
        let b = keyed.below i (in_keys i l) in
        let e : (state_at (states_of rows) i).perm ≡ the_output m n key = perm_at rows i (omega (arith, length-states_of rows)) ∙ (h.built i (omega (arith, length-states_of rows))).perm in
        ap (λ p. image p x) e
        ∙ image-composite d _ _ (state_is d (states_of m) (key / length n) (gm d m n hm hn) (left_state d m n hm hn key b)).permutes (state_is d (states_of n) (key % length n) (gn d m n hm hn) (right_state d m n hm hn key b)).permutes x
        ∙ ap (λ j. image (state_at (states_of n) j).perm (image (state_at (states_of m) (key / length n)).perm x)) (sym (right_at i (in_keys i l)))
        ∙ ap (λ j. image (state_at (states_of n) (get_or rights i 0)).perm (image (state_at (states_of m) j).perm x)) (sym (left_at i (in_keys i l)));
    next_lefts = λ i x l k.
        let r = next_is i x l k in
        left_at (next_state (states_of rows) i x) r.0 ∙ ap (λ j. j / length n) r.1 ∙ (step_is d m n hm hn (get_or keys i 0) x (keyed.below i (in_keys i l)) k).1 ∙ ap (λ j. next_state (states_of m) j x) (sym (left_at i (in_keys i l)));
    next_rights = λ i x l k.
        let r = next_is i x l k in
        right_at (next_state (states_of rows) i x) r.0 ∙ ap (λ j. j % length n) r.1 ∙ (step_is d m n hm hn (get_or keys i 0) x (keyed.below i (in_keys i l)) k).2
        ∙ ap (λ j. next_state (states_of n) j (image (state_at (states_of m) (get_or keys i 0 / length n)).perm x)) (sym (right_at i (in_keys i l)))
        ∙ ap (λ j. next_state (states_of n) (get_or rights i 0) (image (state_at (states_of m) j).perm x)) (sym (left_at i (in_keys i l)));
  }

  pub IsProduct-built : IsProduct d (row_term m s) (row_term n t) rows
  IsProduct-built =
      let zero_in : 0 < length (states_of rows) = omega (arith, length-states_of rows, first_row) in
      let e : get_or lefts 0 0 ≡ s = left_at 0 h.some ∙ ap (λ k. k / length n) h.first ∙ pair_left s t (length n) lt in
      let f : get_or rights 0 0 ≡ t = right_at 0 h.some ∙ ap (λ k. k % length n) h.first ∙ pair_right s t (length n) lt in
      let p = product_alike d (states_of m) (states_of n) (states_of rows) lefts rights (gm d m n hm hn) (gn d m n hm hn) is_product 0 zero_in in
      let P : ℕ → Type 0 = λ i. IsAlike (row_term rows 0) (Product (row_term m i) (state_term (states_of n) (get_or rights 0 0))) in
      let Q : ℕ → Type 0 = λ j. IsAlike (row_term rows 0) (Product (row_term m s) (row_term n j)) in
      record { alike = subst Q f (subst P e p); reached = reached; pairs = same_state; count = pairs_counted }

  -- such a machine has a row for each pair
  pub not-HasMorePairs : ¬ HasMorePairs d (row_term m s) (row_term n t) 65536
  not-HasMorePairs more = omega (arith, HasMorePairs-lt d (row_term m s) (row_term n t) 65536 (length rows) more pairs_counted, size, keyed.few)
