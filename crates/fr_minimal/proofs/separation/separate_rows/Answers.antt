use Rattle.std.proofs.Common.{ℕ, ◌≡◌, ◌<◌, ◌≤◌, ◌+◌, arith, List, [], ◌∷◌, ◌++◌, length, get_or, sym, ◌∙◌, ap, subst}
use Rattle.std.proofs.lemmas.List.{get_or_read, length_push}
use Rattle.fr_model.specs.Words.{IsLetter}
use Rattle.fr_model.specs.Permutations.{image}
use Rattle.fr_model.specs.Terms.{IsAlike}
use Rattle.fr_model.specs.Automata.{state_at}
use Rattle.fr_model.specs.Separation.{IsSeparatingWord}
use Rattle.fr_machine.specs.declared.row.Row.{Row}
use Rattle.fr_machine.specs.Rows.{states_of, row_term, IsMachine}
use Rattle.fr_machine.proofs.RowLaws.{IsAutomaton-states_of, length-states_of}
use Rattle.fr_alphabet.proofs.Readings.{IsWord-weaker}
use Rattle.fr_minimal.specs.declared.met.Met.{Met}
use Rattle.fr_minimal.specs.Searches.{met_at, IsLeastDifference, IsSearched, AreWords}
use Rattle.fr_minimal.proofs.SearchLaws.{alike_searched, separating_searched}
use Rattle.fr_minimal.proofs.MeetingLaws.{IsSearched-start}
use Rattle.fr_minimal.proofs.separation.separate_rows.Goals as goal

-- a pair puts out the same letters
abbrev SameAt : ℕ → List Row → List Row → Met → Type 0
SameAt d m n q = (y : ℕ) → IsLetter d y → image (state_at (states_of m) q.left).perm y ≡ image (state_at (states_of n) q.right).perm y

-- x is the least letter that it does not
abbrev DiffersAt : ℕ → List Row → List Row → ℕ → Met → Type 0
DiffersAt d m n x q = IsLeastDifference d (state_at (states_of m) q.left).perm (state_at (states_of n) q.right).perm x

module _ (d : ℕ) (m n : List Row) (hm : IsMachine d m) (hn : IsMachine d n) (s t : ℕ) (ls : s < length m) (lt : t < length n) (met : List Met) (j : ℕ) (h : IsSearched d (states_of m) (states_of n) s t met j 1) (agreed : (k : ℕ) → k < j → SameAt d m n (met_at met k)) where
  ls' : s < length (states_of m)
  ls' = omega (arith, length-states_of m)

  lt' : t < length (states_of n)
  lt' = omega (arith, length-states_of n)

  all_alike : length met ≤ j → IsAlike (row_term m s) (row_term n t)
  all_alike all = alike_searched d (states_of m) (states_of n) (IsAutomaton-states_of d m hm) (IsAutomaton-states_of d n hn) s t ls' lt' met j h all agreed

  -- the word that was read from the pairs
  read_separating : (q : Met) (x : ℕ) (w : List ℕ) → j < length met → q ≡ get_or met j q → DiffersAt d m n x q
      → ((words : List (List ℕ)) → AreWords met words → w ≡ get_or words j [] ++ x ∷ []) → IsSeparatingWord d (row_term m s) (row_term n t) w × (length w ≤ j + 1)
  read_separating q x w l f e spell =
      let read : q ≡ met_at met j = get_or_read met j q l f (record { left = 0; right = 0; before = 0; letter = 0 }) in
      let spelled = spell h.words h.spelled in
      let P : List ℕ → Type 0 = λ v. IsSeparatingWord d (row_term m s) (row_term n t) v in
      let found = separating_searched d (states_of m) (states_of n) (IsAutomaton-states_of d m hm) (IsAutomaton-states_of d n hn) s t ls' lt' met j h x l agreed (subst (DiffersAt d m n x) read e) in
      (subst P (sym spelled) found, omega (arith, ap length spelled, length_push (get_or h.words j []) x, h.short j l))

machine_at : (d e : ℕ) (rows : List Row) → e ≡ d → IsMachine d rows → IsMachine e rows
machine_at d e rows f h = let P : ℕ → Type 0 = λ k. IsMachine k rows in subst P (sym f) h

pub loop-place-init : goal.loop-place-init
loop-place-init c = record {
  left_rows = c.in_ok-search.ensures.left_rows ∙ ap length c.rows.ensures.value;
  rows = c.in_ok-search.ensures.rows ∙ ap (λ k. length c.rows.result.now + k) (ap length c.rows-2.ensures.value) ∙ ap (λ k. k + length c.args.n.now.rows) (ap length c.rows.ensures.value);
  inside = omega arith;
  searched = IsSearched-start c.args.m.now.alphabet _ _ c.args.s c.args.t c.in_ok-search.search.met.items c.in_ok-search.ensures.met;
  agreed = λ k l. absurd (omega arith);
}

pub of_letters-requires-clause-valid : goal.of_letters-requires-clause-valid
of_letters-requires-clause-valid c =
    let d = c.args.m.now.alphabet in
    let i = c.loop-place.invariant in
    let hm = c.rows.ensures.valid in
    let hn = machine_at c.args.n.now.alphabet d c.args.n.now.rows c.requires.alphabets c.rows-2.ensures.valid in
    let l : c.loop-place.place < length c.loop-place.search.met.items = omega (arith, c.loop-place-test.true, c.count.ensures.value) in
    let z = read_separating d c.args.m.now.rows c.args.n.now.rows hm hn c.args.s c.args.t c.requires.left c.requires.right c.loop-place.search.met.items c.loop-place.place i.searched i.agreed c.index-met.result.now c.in-Some.x c.in_ok-letters.letters.items l c.index-met.ensures c.in-Some.ensures c.in_ok-letters.ensures in
    IsWord-weaker d 8 hm.letters c.in_ok-letters.letters.items z.0.valid

pub of_letters-requires-clause-most : goal.of_letters-requires-clause-most
of_letters-requires-clause-most c =
    let d = c.args.m.now.alphabet in
    let i = c.loop-place.invariant in
    let hm = c.rows.ensures.valid in
    let hn = machine_at c.args.n.now.alphabet d c.args.n.now.rows c.requires.alphabets c.rows-2.ensures.valid in
    let l : c.loop-place.place < length c.loop-place.search.met.items = omega (arith, c.loop-place-test.true, c.count.ensures.value) in
    let z = read_separating d c.args.m.now.rows c.args.n.now.rows hm hn c.args.s c.args.t c.requires.left c.requires.right c.loop-place.search.met.items c.loop-place.place i.searched i.agreed c.index-met.result.now c.in-Some.x c.in_ok-letters.letters.items l c.index-met.ensures c.in-Some.ensures c.in_ok-letters.ensures in
    omega (arith, z.1, c.count.ensures.fewer, c.count.ensures.value, i.rows, c.requires.few, c.requires.few_too, c.in_ok-letters.letters.ok.0)

pub returns-in-Some-clause-answer : goal.returns-in-Some-clause-answer
returns-in-Some-clause-answer c =
    let d = c.args.m.now.alphabet in
    let i = c.loop-place.invariant in
    let hm = c.rows.ensures.valid in
    let hn = machine_at c.args.n.now.alphabet d c.args.n.now.rows c.requires.alphabets c.rows-2.ensures.valid in
    let l : c.loop-place.place < length c.loop-place.search.met.items = omega (arith, c.loop-place-test.true, c.count.ensures.value) in
    let z = read_separating d c.args.m.now.rows c.args.n.now.rows hm hn c.args.s c.args.t c.requires.left c.requires.right c.loop-place.search.met.items c.loop-place.place i.searched i.agreed c.index-met.result.now c.in-Some.x c.in_ok-letters.letters.items l c.index-met.ensures c.in-Some.ensures c.in_ok-letters.ensures in
    let Q : List ℕ → Type 0 = λ v. IsSeparatingWord d (row_term c.args.m.now.rows c.args.s) (row_term c.args.n.now.rows c.args.t) v in
    subst Q (sym c.of_letters.ensures) z.0

pub returns-in-Some-clause-shorter : goal.returns-in-Some-clause-shorter
returns-in-Some-clause-shorter c =
    let d = c.args.m.now.alphabet in
    let i = c.loop-place.invariant in
    let hm = c.rows.ensures.valid in
    let hn = machine_at c.args.n.now.alphabet d c.args.n.now.rows c.requires.alphabets c.rows-2.ensures.valid in
    let l : c.loop-place.place < length c.loop-place.search.met.items = omega (arith, c.loop-place-test.true, c.count.ensures.value) in
    let z = read_separating d c.args.m.now.rows c.args.n.now.rows hm hn c.args.s c.args.t c.requires.left c.requires.right c.loop-place.search.met.items c.loop-place.place i.searched i.agreed c.index-met.result.now c.in-Some.x c.in_ok-letters.letters.items l c.index-met.ensures c.in-Some.ensures c.in_ok-letters.ensures in
    omega (arith, ap length c.of_letters.ensures, z.1, c.loop-place-test.true, c.count.ensures.fewer, c.count.ensures.value, i.rows)

pub returns-clause-answer : goal.returns-clause-answer
returns-clause-answer c =
    let d = c.args.m.now.alphabet in
    let i = c.loop-place.invariant in
    let hn = machine_at c.args.n.now.alphabet d c.args.n.now.rows c.requires.alphabets c.rows-2.ensures.valid in
    let all : length c.loop-place.search.met.items ≤ c.loop-place.place = omega (arith, c.loop-place-test.false, c.count.ensures.value) in
    all_alike d c.args.m.now.rows c.args.n.now.rows c.rows.ensures.valid hn c.args.s c.args.t c.requires.left c.requires.right c.loop-place.search.met.items c.loop-place.place i.searched i.agreed all
