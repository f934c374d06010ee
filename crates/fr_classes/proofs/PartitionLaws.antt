-- Rounds of refinement: rows that act alike stay together, and classes with clean rows alone are those of acting alike.
use Rattle.std.proofs.Common.{ℕ, suc, ◌≡◌, ◌-◌, ◌<◌, ◌≤◌, inl, inr, Bool, true, false, List, [], ◌++◌, length, take, drop, map, get_or, replicate, refl, sym, ◌∙◌, ap, arith, sub-one, eqb}
use Rattle.std.specs.List.{All, Contains, list_any}
use Rattle.std.specs.Prelude.{Vec}
use Rattle.std.specs.Global.{Global}
use Rattle.std.proofs.lemmas.List.{take_at, drop_at, get_or-map, length-map, ext_get_or, get_or_default, get_or-take, length-take-le, get_or-replicate}
use Rattle.std.proofs.lemmas.List.Elements.{All-get_or, All-contains}
use Rattle.std.proofs.lemmas.Bool.{true≢false}
use Rattle.std.proofs.lemmas.Map.Steps.{le-length_from_below}
use Rattle.fr_model.specs.Words.{IsLetter}
use Rattle.fr_model.specs.Permutations.{IsPermutation, image}
use Rattle.fr_model.specs.Terms.{IsAlike}
use Rattle.fr_model.specs.Automata.{state_at, next_state}
use Rattle.fr_model.proofs.PermutationLaws.{present_at}
use Rattle.fr_model.proofs.AutomatonLaws.{alike_by_relation, alike_states, next_state-lt}
use Rattle.fr_machine.specs.declared.row.Row.{Row}
use Rattle.fr_classes.specs.declared.partition.Partition.{Partition}
use Rattle.fr_machine.specs.Rows.{state_of, states_of, row_term, IsRow, IsMachine, row_at}
use Rattle.fr_classes.specs.Numberings.{IsNumbering}
use Rattle.fr_classes.specs.Classes.{AreClasses}
use Rattle.fr_classes.specs.Refinement.{signature_of, signature_at, class_in, flag_at, known_at, IsTallied, IsUsed, IsQueued, IsWider, IsRefining, IsSettled, IsSpreadOver, Progress}
use Rattle.fr_classes.specs.Guesses.{IsGuess, IsStable}
use Rattle.fr_alphabet.specs.Padded.{padded}
use Rattle.fr_classes.specs.declared.predecessors.Predecessors.{Predecessors}
use Rattle.fr_classes.specs.Predecessors.{ArePredecessors, lists_of}
use Rattle.fr_machine.proofs.RowLaws.{IsAutomaton-states_of, length-states_of, state_at_row, next_row}
use Rattle.fr_classes.proofs.StartLaws.{IsTallied-start}
use Rattle.fr_classes.proofs.MarkLaws.{IsUsed-wider}
use Rattle.fr_classes.proofs.SignatureLaws.{length-padded}

abbrev next_at : List Row → ℕ → ℕ → ℕ
next_at rows s k = get_or (row_at rows s).next k 0

abbrev next_classes : List ℕ → Row → List ℕ
next_classes of r = map (λ n. get_or of n 0) (take (length r.perm) r.next)

module _ (d n : ℕ) (r : Row) (small : d ≤ 8) (h : IsRow d n r) where
  front : length (take (length r.perm) r.next) ≡ d
  front = length-take-le (length r.perm) r.next (omega (arith, h.width, h.permutes.degree)) ∙ h.permutes.degree

  length-next_classes : (of : List ℕ) → length (next_classes of r) ≡ d
  length-next_classes of = length-map (take (length r.perm) r.next) _ ∙ front

  get_or-next_classes : (of : List ℕ) (k : ℕ) → k < d → get_or (next_classes of r) k 0 ≡ get_or of (get_or r.next k 0) 0
  get_or-next_classes of k l = get_or-map (λ (n : ℕ). get_or of n 0) (take (length r.perm) r.next) k 0 0 (omega (arith, front)) ∙ ap (λ (n : ℕ). get_or of n 0) (get_or-take (length r.perm) r.next k 0 (omega (arith, h.permutes.degree)))

  from_padded : (p : List ℕ) → length p ≡ d → take d (padded p) ≡ p
  from_padded p e = take_at p (replicate (8 - length p) 0) d e

  signature_perm : (of : List ℕ) → take d (take 8 (signature_of of r)) ≡ r.perm
  signature_perm of = ap (take d) (take_at (padded r.perm) (padded (next_classes of r)) 8 (length-padded r.perm (omega (arith, h.permutes.degree)))) ∙ from_padded r.perm h.permutes.degree

  signature_next : (of : List ℕ) → take d (drop 8 (signature_of of r)) ≡ next_classes of r
  signature_next of = ap (take d) (drop_at (padded r.perm) (padded (next_classes of r)) 8 (length-padded r.perm (omega (arith, h.permutes.degree)))) ∙ from_padded (next_classes of r) (length-next_classes of)

module _ (d n : ℕ) (r q : Row) (small : d ≤ 8) (h : IsRow d n r) (g : IsRow d n q) where
  pub same_perm : (of of' : List ℕ) → signature_of of r ≡ signature_of of' q → r.perm ≡ q.perm
  same_perm of of' e = sym (signature_perm d n r small h of) ∙ ap (λ s. take d (take 8 s)) e ∙ signature_perm d n q small g of'

  pub same_next : (of of' : List ℕ) → signature_of of r ≡ signature_of of' q → (k : ℕ) → k < d → get_or of (get_or r.next k 0) 0 ≡ get_or of' (get_or q.next k 0) 0
  same_next of of' e k l =
      sym (get_or-next_classes d n r small h of k l)
      ∙ ap (λ s. get_or s k 0) (sym (signature_next d n r small h of) ∙ ap (λ s. take d (drop 8 s)) e ∙ signature_next d n q small g of')
      ∙ get_or-next_classes d n q small g of' k l

  pub same_signature : (of of' : List ℕ) → r.perm ≡ q.perm → ((k : ℕ) → k < d → get_or of (get_or r.next k 0) 0 ≡ get_or of' (get_or q.next k 0) 0) → signature_of of r ≡ signature_of of' q
  same_signature of of' e f =
      let x = length-next_classes d n r small h of in
      let y = length-next_classes d n q small g of' in
      let rest : next_classes of r ≡ next_classes of' q = ext_get_or 0 _ _ (x ∙ sym y)
      (λ k l. get_or-next_classes d n r small h of k (omega (arith, x)) ∙ f k (omega (arith, x)) ∙ sym (get_or-next_classes d n q small g of' k (omega (arith, x)))) in
      ap (λ p. padded p ++ padded (next_classes of r)) e ∙ ap (λ p. padded q.perm ++ padded p) rest

perm_from_images : (d : ℕ) (p q : List ℕ) → IsPermutation d p → IsPermutation d q → ((x : ℕ) → IsLetter d x → image p x ≡ image q x) → p ≡ q
perm_from_images d p q a b h = ext_get_or 0 p q (a.degree ∙ sym b.degree) (λ i l.
    get_or_default p i 0 (suc i) l ∙ h (suc i) (omega arith, omega (arith, a.degree)) ∙ sym (get_or_default q i 0 (suc i) (omega (arith, a.degree, b.degree))))

-- the rows are not fewer than the classes
pub classes-le : (p : Partition) → IsUsed p → length p.known.items ≤ length p.of.items
classes-le p u = le-length_from_below p.of.items (length p.known.items)
    (λ j l. let w = u j l in ap (λ i. list_any (eqb i) p.of.items) (sym w.2) ∙ present_at p.of.items w.0 j w.1)

-- clean rows were clean before more rows became dirty
pub IsRefining-wider : (rows : List Row) (p q : Partition) → IsWider p q → IsRefining rows p → IsRefining rows q
IsRefining-wider rows p q w h =
    let class_same : (s : ℕ) → class_in q s ≡ class_in p s = λ s. ap (λ xs. get_or xs s 0) w.of in
    record {
      tallied = w.tallied;
      count = ap length w.of ∙ h.count;
      used = IsUsed-wider p q w h.used;
      alike = λ s t a b e. class_same s ∙ h.alike s t a b e ∙ sym (class_same t);
      settled = λ s l f. ap (λ xs. signature_at rows xs s) w.of ∙ h.settled s l (was_clean s (flag_at p s) refl f) ∙ sym (ap (λ xs. get_or xs (class_in q s) []) w.known ∙ ap (known_at p) (class_same s));
    }
  where
    was_clean : (s : ℕ) (b : Bool) → flag_at p s ≡ b → flag_at q s ≡ false → flag_at p s ≡ false
    was_clean s false e f = e
    was_clean s true e f = absurd (true≢false (sym (w.keeps s e) ∙ f))

-- the list of dirty rows is taken out
abbrev pub without_todo : Partition → Vec ℕ Global → Partition
without_todo p t = record { of = p.of; known = p.known; clean = p.clean; dirty = p.dirty; leads = p.leads; todo = t }

pub IsRefining-todo : (rows : List Row) (p : Partition) (t : Vec ℕ Global) → IsRefining rows p → IsRefining rows (without_todo p t)
IsRefining-todo rows p t h = record {
  tallied = record { flags = h.tallied.flags; as_many = h.tallied.as_many; below = h.tallied.below; counts = h.tallied.counts; few = h.tallied.few };
  count = h.count;
  used = h.used;
  alike = h.alike;
  settled = h.settled;
}

pub IsQueued-todo : (p : Partition) (t : Vec ℕ Global) (todo : List ℕ) → IsQueued p todo → IsQueued (without_todo p t) todo
IsQueued-todo p t todo h = record { inside = h.inside; queued = h.queued }

pub IsQueued-clean : (n : ℕ) (p : Partition) → length p.of.items ≡ n → ((s : ℕ) → s < n → flag_at p s ≡ false) → p.todo.items ≡ [] → IsQueued p p.todo.items
IsQueued-clean n p e clean f = record {
  inside = rw f (λ k d l. absurd (omega arith));
  queued = λ s l g. absurd (true≢false (sym g ∙ clean s (omega arith)));
}

pub Progress-from : (rows : List Row) (old : List ℕ) (p q p2 p3 : Partition) (before : List (List ℕ)) (moved : List ℕ) → IsWider p q → IsSettled rows old (length q.known.items) p2 moved → IsSpreadOver p2 p3 before moved → Progress p p3
Progress-from rows old p q p2 p3 before moved w x y =
    (omega (arith, x.least, ap length y.known, ap length w.known), elim x.grows [ inl e ↦ inl (y.none e ∙ x.todo) | inr l ↦ inr (omega (arith, l, ap length y.known, ap length w.known)) ])

module _ (d : ℕ) (rows : List Row) (m : IsMachine d rows) where
  pub row_is_at : (s : ℕ) → s < length rows → IsRow d (length rows) (row_at rows s)
  row_is_at s l = m.valid s _ l

  pub next_below : (s k : ℕ) → s < length rows → k < d → next_at rows s k < length rows
  next_below s k a l = All-get_or (λ n. n < length rows) (row_at rows s).next k 0 (omega (arith, (row_is_at s a).width, m.letters)) (row_is_at s a).below

  row_state : (s : ℕ) → (a : s < length rows) → state_at (states_of rows) s ≡ state_of (row_at rows s)
  row_state s a = state_at_row d rows m s a (row_at rows s) (get_or_default rows s _ _ a)

  row_next : (s x : ℕ) → s < length rows → IsLetter d x → next_at rows s (x - 1) ≡ next_state (states_of rows) s x
  row_next s x a l = next_row d rows m s a (row_at rows s) (get_or_default rows s _ _ a) x l

  -- rows that act alike have one signature
  pub alike_signature : (of : List ℕ) → ((s t : ℕ) → s < length rows → t < length rows → IsAlike (row_term rows s) (row_term rows t) → get_or of s 0 ≡ get_or of t 0)
      → (s t : ℕ) → s < length rows → t < length rows → IsAlike (row_term rows s) (row_term rows t) → signature_at rows of s ≡ signature_at rows of t
  alike_signature of coarse s t a b e =
      let qs = states_of rows in
      let g = IsAutomaton-states_of d rows m in
      let a' : s < length qs = rw (length-states_of rows) a in
      let b' : t < length qs = rw (length-states_of rows) b in
      let r = row_is_at s a in
      let q = row_is_at t b in
      let perms : (row_at rows s).perm ≡ (row_at rows t).perm = perm_from_images d (row_at rows s).perm (row_at rows t).perm r.permutes q.permutes
      (λ x l. let h = (alike_states d qs qs s t x g g a' b' l e).0 in rw (row_state s a, row_state t b) at h) in
      let nexts : (k : ℕ) → k < d → get_or of (next_at rows s k) 0 ≡ get_or of (next_at rows t k) 0 = λ k l.
      (let x : IsLetter d (suc k) = (omega arith, omega arith) in
      let u : next_at rows s k ≡ next_state qs s (suc k) = rw sub-one at (row_next s (suc k) a x) in
      let v : next_at rows t k ≡ next_state qs t (suc k) = rw sub-one at (row_next t (suc k) b x) in
      rw (u, v) (coarse _ _ (rw (length-states_of rows) at (next_state-lt d qs s (suc k) g a')) (rw (length-states_of rows) at (next_state-lt d qs t (suc k) g b')) (alike_states d qs qs s t (suc k) g g a' b' x e).1)) in
      same_signature d (length rows) (row_at rows s) (row_at rows t) m.letters r q of of perms nexts

  -- after a round
  pub IsRefining-next : (before : Predecessors) (p p2 p3 : Partition) (moved : List ℕ) → ArePredecessors rows before → IsRefining rows p → IsSettled rows p.of.items (length p.known.items) p2 moved
      → ((k : ℕ) → k < length moved → All (λ s. flag_at p3 s ≡ true) (get_or (lists_of before) (get_or moved k 0) [])) → p3.of.items ≡ p2.of.items → p3.known.items ≡ p2.known.items → IsTallied p3 → IsRefining rows p3
  IsRefining-next before p p2 p3 moved b h x marked of known t =
      let old = p.of.items in
      let class_is : (s : ℕ) → class_in p3 s ≡ class_in p2 s = λ s. ap (λ xs. get_or xs s 0) of in
      record {
        tallied = t;
        count = ap length of ∙ x.count;
        used = rw (of, known) x.used;
        alike = λ s r a c e. class_is s ∙ x.same s r a c (h.alike s r a c e) (alike_signature old h.alike s r a c e) ∙ sym (class_is r);
        settled = λ s a f.
            let i = row_is_at s a in
            let same : (k : ℕ) → k < d → get_or p3.of.items (next_at rows s k) 0 ≡ get_or old (next_at rows s k) 0 = λ k l.
            elim (x.changed (next_at rows s k) (next_below s k a l)) [
              | inl e ↦ class_is (next_at rows s k) ∙ e
              | inr w ↦
                  let here : get_or moved w.0 0 ≡ next_at rows s k = get_or_default moved w.0 0 (next_at rows s k) w.1 ∙ w.2 in
                  let c : Contains (get_or (lists_of before) (get_or moved w.0 0) []) s = rw here (b.has s k a (omega (arith, i.permutes.degree))) in
                  absurd (true≢false (sym (All-contains (λ s. flag_at p3 s ≡ true) (get_or (lists_of before) (get_or moved w.0 0) []) s (marked w.0 w.1) c) ∙ f))
            ] in
            same_signature d (length rows) (row_at rows s) (row_at rows s) m.letters i i p3.of.items old refl same ∙ x.settled s a ∙ ap (λ xs. get_or xs (class_in p2 s) []) (sym known) ∙ ap (known_at p3) (sym (class_is s));
      }

  abbrev Related : List ℕ → ℕ → ℕ → Type 0
  Related of s t = (s < length rows) × (t < length rows) × (get_or of s 0 ≡ get_or of t 0)

  -- where rows of one class have one signature, they act alike
  pub alike_from_stable : (of : List ℕ) → IsStable rows of → (s t : ℕ) → s < length rows → t < length rows → get_or of s 0 ≡ get_or of t 0 → IsAlike (row_term rows s) (row_term rows t)
  alike_from_stable of h s0 t0 a0 b0 e0 =
      let qs = states_of rows in
      let g = IsAutomaton-states_of d rows m in
      let step : (s t : ℕ) → Related of s t → (s < length qs) × (t < length qs) × ((x : ℕ) → IsLetter d x → (image (state_at qs s).perm x ≡ image (state_at qs t).perm x) × Related of (next_state qs s x) (next_state qs t x)) =
      λ s t r.
      let a = r.0 in
      let b = r.1 in
      let a' : s < length qs = rw (length-states_of rows) a in
      let b' : t < length qs = rw (length-states_of rows) b in
      let signed : signature_at rows of s ≡ signature_at rows of t = h s t a b r.2 in
      let perms = same_perm d (length rows) (row_at rows s) (row_at rows t) m.letters (row_is_at s a) (row_is_at t b) of of signed in
      let nexts = same_next d (length rows) (row_at rows s) (row_at rows t) m.letters (row_is_at s a) (row_is_at t b) of of signed in (
        a',
        b',
        λ x l. (
          rw (row_state s a, row_state t b, perms) refl,
          (
            rw (length-states_of rows) at (next_state-lt d qs s x g a'),
            rw (length-states_of rows) at (next_state-lt d qs t x g b'),
            rw (← row_next s x a l, ← row_next t x b l) (nexts (x - 1) (omega (arith, l.0, l.1))),
          ),
        ),
      )
      in
      alike_by_relation d qs qs (Related of) g g step s0 t0 (a0, b0, e0)

  -- where no row is dirty, rows of one class act alike
  pub alike_from_clean : (p : Partition) → IsRefining rows p → ((s : ℕ) → s < length rows → flag_at p s ≡ false) → (s t : ℕ) → s < length rows → t < length rows → class_in p s ≡ class_in p t → IsAlike (row_term rows s) (row_term rows t)
  alike_from_clean p h clean = alike_from_stable p.of.items (λ s t a b e. h.settled s a (clean s a) ∙ ap (known_at p) e ∙ sym (h.settled t b (clean t b)))

  -- where the list of dirty rows is empty, no row is dirty
  pub clean_from_none : (p : Partition) → IsRefining rows p → IsQueued p [] → (s : ℕ) → s < length rows → flag_at p s ≡ false
  clean_from_none p h q s0 l0 = go s0 l0 (flag_at p s0) refl
    where
      go : (s : ℕ) → s < length rows → (b : Bool) → flag_at p s ≡ b → flag_at p s ≡ false
      go s l false f = f
      go s l true f = let c = q.queued s (omega (arith, h.count)) f in absurd (omega (arith, c.1))

  pub AreClasses-from : (p : Partition) (of : List ℕ) → IsRefining rows p → IsQueued p [] → IsNumbering p.of.items of → AreClasses rows of
  AreClasses-from p of h q n = record {
    count = n.count ∙ h.count;
    first = n.first;
    alike = λ s t a b.
        let w = n.same s t 0 (omega (arith, h.count)) (omega (arith, h.count)) in
        ((λ e. alike_from_clean p h (clean_from_none p h q) s t a b (w.0 e)), (λ e. w.1 (h.alike s t a b e)));
  }

  -- a stable guess
  pub AreClasses-guessed : (of : List ℕ) (count : ℕ) → IsGuess rows of count → IsStable rows of → AreClasses rows of
  AreClasses-guessed of count h stable = record {
    count = h.size;
    first = h.first;
    alike = λ s t a b. ((λ e. alike_from_stable of stable s t a b e), (λ e. h.alike s t a b e));
  }

  -- before the first round
  pub IsRefining-start : (of : List ℕ) (count : ℕ) (p : Partition) → IsGuess rows of count → p.of.items ≡ of → p.dirty.items ≡ replicate (length of) true → length p.known.items ≡ count → p.clean.items ≡ replicate count 0 → IsRefining rows p
  IsRefining-start of count p h is dirty known clean =
      let class_is : (s : ℕ) → class_in p s ≡ get_or of s 0 = λ s. ap (λ xs. get_or xs s 0) is in
      let flag : (s : ℕ) → s < length rows → flag_at p s ≡ true = λ s l. ap (λ xs. get_or xs s true) dirty ∙ get_or-replicate (length of) s true true (omega (arith, h.size)) in
      record {
        tallied = IsTallied-start (length of) count p (omega (arith, h.size, m.most)) (ap length is) (rw is h.below) dirty known clean;
        count = ap length is ∙ h.size;
        used = λ c l. rw is (h.used c (omega (arith, known)));
        alike = λ s t a b e. class_is s ∙ h.alike s t a b e ∙ sym (class_is t);
        settled = λ s a f. absurd (true≢false (sym (flag s a) ∙ f));
      }
