-- States in order, no two of which act alike, are the canonical numbering of the first.
use Rattle.std.proofs.Common.{ℕ, zero, suc, ◌≡◌, ◌≢◌, ◌+◌, ◌-◌, ◌<◌, ◌≤◌, inl, inr, List, [], ◌∷◌, ◌++◌, length, take, get_or, refl, sym, ◌∙◌, ap, subst, arith}
use Rattle.std.specs.Prelude.{max}
use Rattle.std.specs.List.{Contains}
use Rattle.std.proofs.lemmas.List.{get_or_default, take_more, take_all}
use Rattle.std.proofs.lemmas.List.Elements.{All-get_or, Contains-append_left}
use Rattle.std.proofs.lemmas.Bool.{cases_lt}
use Rattle.fr_model.specs.Words.{IsLetter}
use Rattle.fr_model.specs.Permutations.{numbers_from}
use Rattle.fr_model.specs.Automata.{State, state_at, next_state, IsState, IsAutomaton}
use Rattle.fr_model.specs.Canonical.{IsCanonical}
use Rattle.fr_model.proofs.PermutationLaws.{get_or-numbers_from, length-numbers_from}
use Rattle.fr_machine.specs.declared.row.Row.{Row}
use Rattle.fr_machine.specs.Rows.{IsMachine, row_term, states_of}
use Rattle.fr_machine.specs.Minimal.{AreUnlike, AreReached}
use Rattle.fr_classes.specs.Numberings.{IsNumberedFrom}
use Rattle.fr_classes.specs.Classes.{AreClasses}
use Rattle.fr_machine.specs.Walks.{IsKeys}
use Rattle.fr_machine.proofs.RowLaws.{IsAutomaton-states_of, length-states_of}
use Rattle.fr_machine.specs.Orders.{IsOrdered}
use Rattle.fr_machine.proofs.OrderLaws.{IsOrdered-known, IsOrdered-new, IsOrdered-row}
use Rattle.fr_canon.specs.Listings.{row_output, IsListed}
use Rattle.fr_canon.specs.Texts.{machine_text}
use Rattle.fr_canon.specs.Readings.{met_before, IsInOrder, IsFirstRepeated, IsMachineText}
use Rattle.fr_canon.proofs.ListingLaws.{IsListed-start, IsCanonical-listed, walk_is}
use Rattle.fr_canon.proofs.OrderReadLaws.{met_with, greatest-le, numbered_from, met_before-more, IsOrderRead, IsOrderRead-start, IsOrderRead-more, met_with-push}

numbers_from-push : (k n : ℕ) → numbers_from k (suc n) ≡ numbers_from k n ++ (k + n) ∷ []
numbers_from-push k zero = ap (λ m. m ∷ []) (omega arith)
numbers_from-push k (suc n) = let e : suc k + n ≡ k + suc n = omega arith in ap (λ l. k ∷ l) (numbers_from-push (suc k) n ∙ ap (λ m. numbers_from (suc k) n ++ m ∷ []) e)

numbered_at : (c : ℕ) (xs : List ℕ) (y : ℕ) → IsNumberedFrom c xs → y < length xs → get_or xs y 0 ≤ met_with c (take y xs)
numbered_at c [] y f l = absurd (omega arith)
numbered_at c (x ∷ xs) zero f l = f.0
numbered_at c (x ∷ xs) (suc y) f l = numbered_at (max c (suc x)) xs y f.1 (omega arith)

met_with-ge : (c : ℕ) (xs : List ℕ) → c ≤ met_with c xs
met_with-ge c [] = omega arith
met_with-ge c (x ∷ xs) = omega (arith, met_with-ge (max c (suc x)) xs)

-- a walk that met the first c states, where letter x of state k is next
abbrev IsWalk : ℕ → List State → ℕ → ℕ → ℕ → Type 0
IsWalk d qs c k x = (words : List (List ℕ)) × IsOrdered d (next_state qs) 0 (numbers_from 0 c) words k x

key : (c i : ℕ) → i < c → get_or (numbers_from 0 c) i 0 ≡ i
key c i l = get_or-numbers_from 0 c i 0 l ∙ omega arith

-- a letter more
walk_letter : (d : ℕ) (qs : List State) (c k x target : ℕ) → IsWalk d qs c k x → IsLetter d x → k < c → target ≡ next_state qs k x → target ≤ c → IsWalk d qs (max c (suc target)) k (x + 1)
walk_letter d qs c k x target w letter l e h =
    let step = next_state qs in
    let size : length (numbers_from 0 c) ≡ c = length-numbers_from 0 c in
    let kl : k < length (numbers_from 0 c) = omega (arith, size, l) in
    let here : target ≡ step (get_or (numbers_from 0 c) k 0) x = e ∙ ap (λ i. step i x) (sym (key c k l)) in
    let P : ℕ → Type 0 = λ n. IsWalk d qs n k (x + 1) in
    elim (cases_lt target c) [
      | inl t ↦
          let same : c ≡ max c (suc target) = omega (arith, t) in
          subst P same (w.0, IsOrdered-known d step 0 (numbers_from 0 c) w.0 k x w.1 kl target (omega (arith, size, t)) (key c target t ∙ here))
      | inr t ↦
          let new : target ≡ c = omega (arith, t, h) in
          let next : suc c ≡ max c (suc target) = omega (arith, new) in
          let words = w.0 ++ (get_or w.0 k [] ++ x ∷ []) ∷ [] in
          let fresh : (i : ℕ) → i < length (numbers_from 0 c) → get_or (numbers_from 0 c) i 0 ≢ target = λ i b q. (let il : i < c = omega (arith, b, size) in omega (arith, q, key c i il, il, new)) in
          let more : numbers_from 0 (suc c) ≡ numbers_from 0 c ++ target ∷ [] = numbers_from-push 0 c ∙ ap (λ m. numbers_from 0 c ++ m ∷ []) (omega (arith, new)) in
          subst P next (words, IsOrdered-new d step 0 (numbers_from 0 c) (numbers_from 0 (suc c)) w.0 words k x target w.1 kl letter here fresh more refl)
    ]

module _ (d : ℕ) (qs : List State) (auto : IsAutomaton d qs) (some : 1 ≤ length qs) (order : (j : ℕ) → j < length qs → IsInOrder qs j) where
  state : (k : ℕ) → k < length qs → IsState d (length qs) (state_at qs k)
  state k l = All-get_or (IsState d (length qs)) qs k (record { perm = []; next = [] }) l auto

  -- the first letters of a state
  letters : (k c : ℕ) → k < length qs → k < c → IsWalk d qs c k 1 → IsNumberedFrom c (state_at qs k).next → (y : ℕ) → y ≤ d → IsWalk d qs (met_with c (take y (state_at qs k).next)) k (y + 1)
  letters k c l m w f zero h = w
  letters k c l m w f (suc y) h =
      let xs = (state_at qs k).next in
      let n : y < length xs = omega (arith, h, (state k l).arity) in
      let target = get_or xs y 0 in
      let before = met_with c (take y xs) in
      let one : y + 1 ≡ suc y = omega arith in
      let at : target ≡ next_state qs k (y + 1) = get_or_default xs y 0 k n ∙ ap (next_state qs k) (sym one) in
      let more = walk_letter d qs before k (y + 1) target (letters k c l m w f y (omega (arith, h))) (omega arith, omega (arith, h)) (omega (arith, m, met_with-ge c (take y xs))) at (numbered_at c xs y f n) in
      let count : max before (suc target) ≡ met_with c (take (suc y) xs) = sym (ap (λ i. met_with c (take i xs)) (sym one) ∙ ap (met_with c) (take_more xs y 0 n) ∙ met_with-push c (take y xs) target) in
      let P : ℕ → Type 0 = λ b. IsWalk d qs b k (y + 1 + 1) in
      let Q : ℕ → Type 0 = λ i. IsWalk d qs (met_with c (take (suc y) xs)) k (i + 1) in
      subst Q one (subst P count more)

  walked : (k : ℕ) → k ≤ length qs → (c : ℕ) × IsOrderRead qs k c × IsWalk d qs c k 1
  walked zero l = let start = IsListed-start d (length qs) (next_state qs) (row_output qs) 0 (0 ∷ []) some refl in (1, IsOrderRead-start qs some, (start.words, start.ordered))
  walked (suc k) l =
      let r = walked k (omega (arith, l)) in
      let c = r.0 in
      let xs = (state_at qs k).next in
      let o = order k l in
      let m : k < c = omega (arith, greatest-le (met_before qs k) k o.met, r.1.last) in
      let f = numbered_from (met_before qs k) xs c r.1.last o.nexts in
      let read = IsOrderRead-more d qs auto k c r.1 l m (met_with c xs) f refl in
      let w = letters k c l m r.2 f d (omega arith) in
      let all : take d xs ≡ xs = take_all d xs (omega (arith, (state k l).arity)) in
      let one : k + 1 ≡ suc k = omega arith in
      let P : List ℕ → Type 0 = λ ys. IsWalk d qs (met_with c ys) k (d + 1) in
      let w' = subst P all w in
      let row = IsOrdered-row d (next_state qs) 0 (numbers_from 0 (met_with c xs)) w'.0 k (d + 1) w'.1 (omega arith) in
      let Q : ℕ → Type 0 = λ j. IsOrderRead qs j (met_with c xs) × IsWalk d qs (met_with c xs) j 1 in
      let both = subst Q one (read, (w'.0, row)) in
      (met_with c xs, both.0, both.1)

  -- in the end all states were met, and no more
  whole : IsWalk d qs (length qs) (length qs) 1
  whole =
      let n = length qs in
      let r = walked n (omega arith) in
      let last : n - 1 < n = omega (arith, some) in
      let step : met_before qs n ≡ met_before qs (n - 1) ++ (state_at qs (n - 1)).next = (let e : n ≡ n - 1 + 1 = omega (arith, some) in ap (met_before qs) e ∙ met_before-more qs (n - 1) last) in
      let P : List ℕ → Type 0 = λ ms. Contains ms (n - 1) in
      let met = greatest-le (met_before qs n) (n - 1) (subst P (sym step) (Contains-append_left (met_before qs (n - 1)) (state_at qs (n - 1)).next (n - 1) (order (n - 1) last).met)) in
      let same : r.0 ≡ n = omega (arith, met, r.1.last, r.1.within) in
      let Q : ℕ → Type 0 = λ c. IsWalk d qs c n 1 in
      subst Q same r.2

module _ (d : ℕ) (rows : List Row) (m : IsMachine d rows) (few : length rows ≤ 1024) (order : (j : ℕ) → j < length rows → IsInOrder (states_of rows) j) where
  abbrev qs : List State
  qs = states_of rows

  abbrev n : ℕ
  n = length rows

  size : length qs ≡ n
  size = length-states_of rows

  automaton : IsAutomaton d qs
  automaton = IsAutomaton-states_of d rows m

  walk : IsWalk d qs n n 1
  walk =
      let w = whole d qs automaton (omega (arith, size, m.least)) (λ j l. order j (omega (arith, l, size))) in
      let P : ℕ → Type 0 = λ k. IsWalk d qs k k 1 in
      subst P size w

  keys : length (numbers_from 0 n) ≡ n
  keys = length-numbers_from 0 n

  pub AreReached-read : AreReached d rows
  AreReached-read s l =
      let i : s < length (numbers_from 0 n) = omega (arith, l, keys) in
      (get_or walk.0 s [], walk.1.valid s i, sym (walk_is qs 0 (get_or walk.0 s [])) ∙ walk.1.own s i ∙ key n s l)

  keyed : IsKeys 1024 (numbers_from 0 n)
  keyed = record {
    few = omega (arith, keys, few);
    below = λ i l. omega (arith, l, keys, few, key n i (omega (arith, l, keys)));
    distinct = λ i j a b e. sym (key n i (omega (arith, a, keys))) ∙ e ∙ key n j (omega (arith, b, keys));
  }

  pub IsCanonical-read : AreUnlike rows → IsCanonical d (row_term rows 0) (states_of rows)
  IsCanonical-read others =
      let P : ℕ → Type 0 = λ j. IsOrdered d (next_state qs) 0 (numbers_from 0 n) walk.0 j 1 in
      let h : IsListed d n (next_state qs) (row_output qs) 0 (numbers_from 0 n) (length (numbers_from 0 n)) qs = record {
        first = key n 0 (omega (arith, m.least));
        below = λ i l. omega (arith, l, keys, key n i (omega (arith, l, keys)));
        words = walk.0;
        ordered = subst P (sym keys) walk.1;
        count = size ∙ sym keys;
        done = omega arith;
        listed = λ i l.
            let il : i < n = omega (arith, l, keys) in
            let at = key n i il in
            let s = All-get_or (IsState d (length qs)) qs i (record { perm = []; next = [] }) (omega (arith, il, size)) automaton in
            let xs = (state_at qs i).next in
            record {
              perm = ap (row_output qs) (sym at);
              arity = s.arity;
              nexts = λ y b.
                  let c : y < length xs = omega (arith, b, s.arity) in
                  let below : get_or xs y 0 < length qs = All-get_or (λ k. k < length qs) xs y 0 c s.below in
                  (omega (arith, below, size, keys), key n (get_or xs y 0) (omega (arith, below, size)) ∙ get_or_default xs y 0 i c ∙ ap (λ k. next_state qs k (suc y)) (sym at));
            };
      } in
      IsCanonical-listed d rows m others 0 (omega (arith, m.least)) (numbers_from 0 n) qs h keyed

-- ---- classes that are their own places
pub unlike_from_classes : (rows : List Row) (of : List ℕ) → AreClasses rows of → ((i : ℕ) → i < length of → get_or of i 0 ≡ i) → AreUnlike rows
unlike_from_classes rows of c own = λ s t l k e.
    let same = (c.alike s t (omega (arith, l, k)) k).1 e in
    omega (arith, l, same, own s (omega (arith, l, k, c.count)), own t (omega (arith, k, c.count)))

numbered_le : (c : ℕ) (xs : List ℕ) (k : ℕ) → IsNumberedFrom c xs → k < length xs → get_or xs k 0 ≤ c + k
numbered_le c [] k f l = absurd (omega arith)
numbered_le c (x ∷ xs) zero f l = omega (arith, f.0)
numbered_le c (x ∷ xs) (suc k) f l = omega (arith, f.0, numbered_le (max c (suc x)) xs k f.1 (omega arith))

-- the first class that is not its own place is that of an earlier row
pub IsFirstRepeated-from_classes : (rows : List Row) (of : List ℕ) (k : ℕ) → AreClasses rows of → ((j : ℕ) → j < length rows → IsInOrder (states_of rows) j) → k < length of → get_or of k 0 ≢ k → ((i : ℕ) → i < k → get_or of i 0 ≡ i) → IsFirstRepeated (states_of rows) k
IsFirstRepeated-from_classes rows of k c order l differs own =
    let j = get_or of k 0 in
    let most = numbered_le 0 of k c.first l in
    let b : j < k = elim (cases_lt j k) [ inl t ↦ t | inr t ↦ absurd (differs (omega (arith, most, t))) ] in
    record {
      state = omega (arith, l, c.count, length-states_of rows);
      order = λ i h. order i (omega (arith, h, length-states_of rows));
      earlier = λ i h r. (let same = (c.alike r.earlier i (omega (arith, r.before, h, l, c.count)) (omega (arith, h, l, c.count))).1 r.alike in omega (arith, same, r.before, h, own r.earlier (omega (arith, r.before, h)), own i h));
      repeated = record { earlier = j; before = b; alike = (c.alike j k (omega (arith, b, l, c.count)) (omega (arith, l, c.count))).0 (own j b) };
    }

-- ---- the text of rows
pub IsMachineText-rows : (d : ℕ) (rows : List Row) (text : List ℕ) → IsMachine d rows → length rows ≤ 1024 → text ≡ machine_text (states_of rows) → IsMachineText d (states_of rows) text
IsMachineText-rows d rows text m few e = record { automaton = IsAutomaton-states_of d rows m; some = omega (arith, m.least, length-states_of rows); few = omega (arith, few, length-states_of rows); written = e }
