-- Chosen rows of classes, and the machine of a walk over them.
use Rattle.std.proofs.Common.{ℕ, zero, suc, ◌≡◌, ◌≢◌, ◌+◌, ◌<◌, ◌≤◌, inl, inr, max, List, [], ◌∷◌, ◌++◌, length, set, get_or, replicate, refl, sym, ◌∙◌, ap, subst, arith}
use Rattle.std.specs.List.{All}
use Rattle.std.proofs.lemmas.List.{get_or_default, get_or-map, get_or_append_left, get_or_push, length_push, get_or-set_same, get_or-set_other, length-set, length-replicate}
use Rattle.std.proofs.lemmas.List.Elements.{All-get_or, All-from_get_or}
use Rattle.std.proofs.lemmas.Bool.{cases_lt, cases_eq}
use Rattle.fr_model.specs.Words.{IsWord}
use Rattle.fr_model.specs.Permutations.{IsPermutation, image}
use Rattle.fr_model.specs.Terms.{Term, Section, IsAlike}
use Rattle.fr_model.specs.Automata.{state_at, next_state, state_after, IsAutomaton}
use Rattle.fr_model.specs.Classes.{SameSection, HasMoreStates}
use Rattle.fr_model.proofs.AlikeLaws.{alike_sym, alike_trans, alike_refl}
use Rattle.fr_model.proofs.AutomatonLaws.{state_is, section_state, next_state-lt, alike_states, alike_by_relation}
use Rattle.fr_model.proofs.ClassLaws.{IsSize-minimal, IsSize-alike, HasMoreStates-lt}
use Rattle.fr_machine.specs.declared.row.Row.{Row}
use Rattle.fr_machine.specs.Rows.{state_of, states_of, row_term, IsMachine}
use Rattle.fr_classes.specs.Numberings.{IsNumberedFrom}
use Rattle.fr_classes.specs.Classes.{row_at, AreClasses}
use Rattle.fr_machine.specs.Minimal.{AreReached, AreUnlike, IsMinimal}
use Rattle.fr_machine.specs.Walks.{IsKeys, walk_after, IsBuilt, Reached, IsRowPassed}
use Rattle.fr_machine.proofs.RowLaws.{IsAutomaton-states_of, length-states_of}
use Rattle.fr_model.proofs.CountLaws.{words_of, length-words_of, words_of-at}
use Rattle.fr_machine.proofs.WalkLaws.{IsMachine-built, built_next, AreReached-built, Reached-numbered}
use Rattle.fr_minimal.specs.Smallest.{IsSmallest, IsChoice, chosen_of, chosen_step, chosen_output}

pub perm_at : (rows : List Row) (s : ℕ) → s < length rows → (state_at (states_of rows) s).perm ≡ (row_at rows s).perm
perm_at rows s l = ap (λ q. q.perm) (get_or-map state_of rows s (record { perm = []; next = [] }) (record { perm = []; next = [] }) l)

-- class numbers are few
numbered-lt : (c : ℕ) (xs : List ℕ) (i : ℕ) → IsNumberedFrom c xs → i < length xs → get_or xs i 0 < c + i + 1
numbered-lt c [] i f l = absurd (omega arith)
numbered-lt c (x ∷ xs) zero f l = omega (arith, f.0)
numbered-lt c (x ∷ xs) (suc i) f l = let r = numbered-lt (max c (suc x)) xs i f.1 (omega arith) in omega (arith, r, f.0)

pub classes_below : (rows : List Row) (of : List ℕ) → AreClasses rows of → All (λ c. c < length of) of
classes_below rows of h = All-from_get_or (λ c. c < length of) of 0 (λ i l. omega (arith, numbered-lt 0 of i h.first l))

-- the first rows have their choice
pub record IsChoicePart (of chosen : List ℕ) (i : ℕ) : Type 0 where
  pub size : length chosen ≡ length of
  pub own : (s : ℕ) → s < i → (chosen_of of chosen s < length of) × (get_or of (chosen_of of chosen s) 0 ≡ get_or of s 0)

pub IsChoicePart-start : (of chosen : List ℕ) → chosen ≡ replicate (length of) 0 → IsChoicePart of chosen 0
IsChoicePart-start of chosen e = record { size = ap length e ∙ length-replicate {A = ℕ} (length of) 0; own = λ s l. absurd (omega arith) }

pub IsChoicePart-more : (of chosen chosen' : List ℕ) (i : ℕ) → IsChoicePart of chosen i → i < length of → All (λ c. c < length of) of → chosen' ≡ set chosen (get_or of i 0) i → IsChoicePart of chosen' (i + 1)
IsChoicePart-more of chosen chosen' i h l below e =
    let c = get_or of i 0 in
    let lt : c < length of = All-get_or (λ c. c < length of) of i 0 l below in
    let here : get_or chosen' c 0 ≡ i = ap (λ xs. get_or xs c 0) e ∙ get_or-set_same chosen c i 0 (omega (arith, h.size)) in
    record {
      size = ap length e ∙ length-set chosen c i ∙ h.size;
      own = λ s m. elim (cases_eq (get_or of s 0) c) [
        | inl t ↦
            let at : chosen_of of chosen' s ≡ i = ap (λ j. get_or chosen' j 0) t ∙ here in
            (omega (arith, at), ap (λ j. get_or of j 0) at ∙ sym t)
        | inr t ↦
            let at : chosen_of of chosen' s ≡ chosen_of of chosen s = ap (λ xs. get_or xs (get_or of s 0) 0) e ∙ get_or-set_other chosen c (get_or of s 0) i 0 t in
            elim (cases_lt s i) [
              | inl k ↦ let o = h.own s k in (omega (arith, at, o.0), ap (λ j. get_or of j 0) at ∙ o.1)
              | inr k ↦ let same : s ≡ i = omega arith in absurd (t (ap (λ j. get_or of j 0) same))
            ]
      ];
    }

pub IsChoice-from : (of chosen : List ℕ) (i : ℕ) → IsChoicePart of chosen i → length of ≤ i → All (λ c. c < length of) of → IsChoice of chosen
IsChoice-from of chosen i h l below = record {
  size = h.size;
  own = λ s m. let o = h.own s (omega arith) in (omega (arith, All-get_or (λ c. c < length of) of s 0 m below, h.size), o.0, o.1);
}

abbrev the_step : List Row → List ℕ → List ℕ → ℕ → ℕ → ℕ
the_step m of chosen = chosen_step (states_of m) of chosen

module _ (d : ℕ) (m : List Row) (hm : IsMachine d m) (of chosen : List ℕ) (classes : AreClasses m of) (choice : IsChoice of chosen) where
  gm : IsAutomaton d (states_of m)
  gm = IsAutomaton-states_of d m hm

  pick-lt : (s : ℕ) → s < length m → chosen_of of chosen s < length m
  pick-lt s l = omega (arith, (choice.own s (omega (arith, classes.count))).1, classes.count)

  pick_alike : (s : ℕ) → s < length m → IsAlike (row_term m (chosen_of of chosen s)) (row_term m s)
  pick_alike s l = (classes.alike (chosen_of of chosen s) s (pick-lt s l) l).0 (choice.own s (omega (arith, classes.count))).2

  pick_again : (s : ℕ) → s < length m → chosen_of of chosen (chosen_of of chosen s) ≡ chosen_of of chosen s
  pick_again s l = ap (λ c. get_or chosen c 0) (choice.own s (omega (arith, classes.count))).2

  -- chosen rows that act alike are one
  pick_same : (j k : ℕ) → j < length m → k < length m → chosen_of of chosen j ≡ j → chosen_of of chosen k ≡ k → IsAlike (row_term m j) (row_term m k) → j ≡ k
  pick_same j k a b e f h = sym e ∙ ap (λ c. get_or chosen c 0) ((classes.alike j k a b).1 h) ∙ f

  next-lt : (k x : ℕ) → k < length m → next_state (states_of m) k x < length m
  next-lt k x l = omega (arith, next_state-lt d (states_of m) k x gm (omega (arith, length-states_of m)), length-states_of m)

  -- along a word the keys act like the sections
  walk_is : (k j : ℕ) (w : List ℕ) → k < length m → j < length m → chosen_of of chosen k ≡ k → IsWord d w → IsAlike (row_term m k) (row_term m j) →
      (walk_after (the_step m of chosen) k w < length m) × (chosen_of of chosen (walk_after (the_step m of chosen) k w) ≡ walk_after (the_step m of chosen) k w) × IsAlike (row_term m (walk_after (the_step m of chosen) k w)) (row_term m (state_after (states_of m) j w))
  walk_is k j [] a b e l h = (a, e, h)
  walk_is k j (x ∷ w) a b e l h =
      let n = next-lt k x a in
      let s = (alike_states d (states_of m) (states_of m) k j x gm gm (omega (arith, a, length-states_of m)) (omega (arith, b, length-states_of m)) l.0 h).1 in
      walk_is (the_step m of chosen k x) (next_state (states_of m) j x) w (pick-lt _ n) (next-lt j x b) (pick_again _ n) l.1 (alike_trans (pick_alike _ n) s)

  permutes : (k : ℕ) → k < length m → IsPermutation d (chosen_output (states_of m) k)
  permutes k l = (state_is d (states_of m) k gm (omega (arith, length-states_of m))).permutes

module _ (d : ℕ) (m : List Row) (hm : IsMachine d m) (of chosen : List ℕ) (classes : AreClasses m of) (choice : IsChoice of chosen) (s : ℕ) (ls : s < length m) where
  abbrev start : ℕ
  start = chosen_of of chosen s

  key_is : (w : List ℕ) → IsWord d w → (walk_after (the_step m of chosen) start w < length m) × (chosen_of of chosen (walk_after (the_step m of chosen) start w) ≡ walk_after (the_step m of chosen) start w)
      × IsAlike (row_term m (walk_after (the_step m of chosen) start w)) (Section (row_term m s) w)
  key_is w a =
      let r = walk_is d m hm of chosen classes choice start s w (pick-lt d m hm of chosen classes choice s ls) ls (pick_again d m hm of chosen classes choice s ls) a (pick_alike d m hm of chosen classes choice s ls) in
      (r.0, r.1, alike_trans r.2 (alike_sym (section_state d (states_of m) s w (gm d m hm of chosen classes choice) (omega (arith, length-states_of m)) a)))

  key_from_same : (v w : List ℕ) → IsWord d v → IsWord d w → SameSection (row_term m s) v w → walk_after (the_step m of chosen) start v ≡ walk_after (the_step m of chosen) start w
  key_from_same v w a b e =
      let x = key_is v a in
      let y = key_is w b in
      pick_same d m hm of chosen classes choice _ _ x.0 y.0 x.1 y.1 (alike_trans x.2 (alike_trans e (alike_sym y.2)))

  -- distinct keys that are reached stand for sections no two of which act alike
  HasMoreStates-keys : (keys : List ℕ) (limit : ℕ) → Reached d (the_step m of chosen) start keys → ((i j : ℕ) → i < j → j < length keys → get_or keys i 0 ≢ get_or keys j 0) → limit < length keys → HasMoreStates d (row_term m s) limit
  HasMoreStates-keys keys limit reached distinct more =
      let has = λ (i : ℕ) (l : i < length keys). (reached i l).0 in
      let words = words_of (length keys) has in
      let size = length-words_of (length keys) has in
      let word_is : (i : ℕ) (z : List ℕ) → i < length words → IsWord d (get_or words i z) × (walk_after (the_step m of chosen) start (get_or words i z) ≡ get_or keys i 0) = λ i z l.
      words_of-at (length keys) has (λ w. IsWord d w × (walk_after (the_step m of chosen) start w ≡ get_or keys i 0)) i z (omega (arith, size)) (λ k. ((reached i k).1, (reached i k).2)) in
      record {
        members = words;
        more = omega (arith, size);
        valid = λ i z l. (word_is i z l).0;
        apart = λ i j z k l e.
            let x = word_is i z (omega arith) in
            let y = word_is j z l in
            distinct i j k (omega (arith, size)) (sym x.1 ∙ key_from_same _ _ x.0 y.0 e ∙ y.1);
      }

  -- a walk that would need one key too many
  pub HasMoreStates-passed : (keys : List ℕ) (key : ℕ) (w : List ℕ) → IsWord d w → walk_after (the_step m of chosen) start w ≡ key → Reached d (the_step m of chosen) start keys → IsRowPassed d 1024 (length m) (the_step m of chosen) keys key → HasMoreStates d (row_term m s) 1024
  HasMoreStates-passed keys key w a e r p =
      let new = the_step m of chosen key p.letter in
      let all = p.met ++ new ∷ [] in
      let reached : Reached d (the_step m of chosen) start all = Reached-numbered d (the_step m of chosen) start p.met all new key p.letter (p.reached start w a e r) w a e p.is_letter refl (inr refl) in
      let distinct : (i j : ℕ) → i < j → j < length all → get_or all i 0 ≢ get_or all j 0 = λ i j k l same.
      (let left : get_or all i 0 ≡ get_or p.met i 0 = get_or_append_left p.met (new ∷ []) 0 i (omega (arith, length_push p.met new)) in
      elim (cases_lt j (length p.met)) [
        | inl h ↦ let eq = p.valid.distinct i j (omega arith) h (sym left ∙ same ∙ get_or_append_left p.met (new ∷ []) 0 j h) in omega arith
        | inr h ↦
            let at : length p.met ≡ j = omega (arith, length_push p.met new) in
            let il : i < length p.met = omega arith in
            p.fresh (i, il, get_or_default p.met i new 0 il ∙ sym left ∙ same ∙ get_or_push p.met new 0 j at)
      ]) in
      HasMoreStates-keys all 1024 reached distinct (omega (arith, length_push p.met new, p.full))

  -- the machine of the whole walk
  module _ (keys : List ℕ) (rows : List Row) (h : IsBuilt d (length m) (the_step m of chosen) (chosen_output (states_of m)) start keys rows) (keyed : IsKeys (length m) keys) (few : length keys ≤ 1024) (whole : length keys ≤ length rows) where
    machine : IsMachine d rows
    machine = IsMachine-built d (length m) (the_step m of chosen) (chosen_output (states_of m)) start keys rows h keyed whole hm.few hm.letters (permutes d m hm of chosen classes choice)

    size : length rows ≡ length keys
    size = omega (arith, h.done)

    abbrev Acts : ℕ → ℕ → Type 0
    Acts i j = (i < length rows) × (j < length m) × IsAlike (row_term m (get_or keys i 0)) (row_term m j)

    -- each row acts like its key
    row_alike : (i j : ℕ) → Acts i j → IsAlike (row_term rows i) (row_term m j)
    row_alike i j a =
        let qs = states_of rows in
        let ps = states_of m in
        alike_by_relation d qs ps Acts (IsAutomaton-states_of d rows machine) (gm d m hm of chosen classes choice)
        (λ i j r.
        let kl = keyed.below i (omega (arith, r.0, size)) in
        let key = get_or keys i 0 in
        let perm : (state_at qs i).perm ≡ (state_at ps key).perm = perm_at rows i r.0 ∙ (h.built i r.0).perm in (
          rw (length-states_of rows) r.0,
          rw (length-states_of m) r.1,
          λ x l.
              let b = built_next d (length m) (the_step m of chosen) (chosen_output ps) start keys rows h keyed whole hm.few hm.letters (permutes d m hm of chosen classes choice) i x r.0 l in
              let s = alike_states d ps ps key j x (gm d m hm of chosen classes choice) (gm d m hm of chosen classes choice) (rw (length-states_of m) kl) (rw (length-states_of m) r.1) l r.2 in
              let P : ℕ → Type 0 = λ k. IsAlike (row_term m k) (row_term m (next_state ps j x)) in (
                ap (λ p. image p x) perm ∙ s.0,
                (b.0, next-lt d m hm of chosen classes choice j x r.1, subst P (sym b.1) (alike_trans (pick_alike d m hm of chosen classes choice _ (next-lt d m hm of chosen classes choice key x kl)) s.1)),
              ),
        )) i j a

    own_key : (i : ℕ) → i < length rows → IsAlike (row_term rows i) (row_term m (get_or keys i 0))
    own_key i l = row_alike i (get_or keys i 0) (l, keyed.below i (omega (arith, size)), alike_refl _)

    chosen_key : (i : ℕ) → i < length rows → chosen_of of chosen (get_or keys i 0) ≡ get_or keys i 0
    chosen_key i l =
        let r = h.reached i (omega (arith, size)) in
        let k = key_is r.0 r.1 in
        ap (chosen_of of chosen) (sym r.2) ∙ k.1 ∙ r.2

    unlike : AreUnlike rows
    unlike i j l g e =
        let il : i < length rows = omega arith in
        let same = pick_same d m hm of chosen classes choice _ _ (keyed.below i (omega (arith, size))) (keyed.below j (omega (arith, size))) (chosen_key i il) (chosen_key j g) (alike_trans (alike_sym (own_key i il)) (alike_trans e (own_key j g))) in
        let eq = keyed.distinct i j (omega (arith, size)) (omega (arith, size)) same in
        omega arith

    reached : AreReached d rows
    reached = AreReached-built d (length m) (the_step m of chosen) (chosen_output (states_of m)) start keys rows h keyed whole hm.few hm.letters (permutes d m hm of chosen classes choice)

    pub IsMinimal-built : IsMinimal d rows
    IsMinimal-built = record { machine = machine; small = omega (arith, size, few); reached = reached; unlike = unlike }

    pub IsSmallest-built : IsSmallest d (row_term m s) rows
    IsSmallest-built =
        let first : 0 < length rows = omega (arith, size, h.some) in
        let alike : IsAlike (row_term rows 0) (row_term m s) = row_alike 0 s (first, ls, (let P : ℕ → Type 0 = λ k. IsAlike (row_term m k) (row_term m s) in subst P (sym h.first) (pick_alike d m hm of chosen classes choice s ls))) in
        let has = λ (i : ℕ) (l : i < length rows). (reached i l).0 in
        let words = words_of (length rows) has in
        let count = length-words_of (length rows) has in
        let z = IsSize-minimal d (states_of rows) 0 words (IsAutomaton-states_of d rows machine) (rw (length-states_of rows) first) (rw (length-states_of rows) count)
        (λ i l. words_of-at (length rows) has (λ w. IsWord d w × (state_after (states_of rows) 0 w ≡ i)) i [] (omega (arith, l, length-states_of rows)) (λ k. ((reached i k).1, (reached i k).2)))
        (λ i j l g. unlike i j l (omega (arith, g, length-states_of rows))) in
        record { alike = alike; size = IsSize-alike d (row_term rows 0) (row_term m s) (length rows) alike (rw (length-states_of rows) at z) }

-- a term that a machine of few rows stands for has no more states than the limit
pub not-HasMoreStates : (d : ℕ) (t : Term) (rows : List Row) → IsSmallest d t rows → length rows ≤ 1024 → ¬ HasMoreStates d t 1024
not-HasMoreStates d t rows h few more = omega (arith, HasMoreStates-lt d t 1024 (length rows) more h.size)
