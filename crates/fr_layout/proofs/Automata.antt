-- The rows of a written block are the states of an automaton, which its words decide.
use Rattle.std.proofs.Common.{◌≡◌, ℕ, zero, suc, ◌+◌, ◌-◌, ◌/◌, ◌%◌, ◌<◌, ◌≤◌, List, [], ◌∷◌, length, get_or, refl, sym, ap, ◌∙◌, subst, arith}
use Rattle.std.proofs.Math.Nat.{div-lt_iff_lt-mul}
use Rattle.fr_model.specs.Words.{IsLetter}
use Rattle.fr_model.specs.Permutations.{IsPermutation}
use Rattle.fr_model.specs.Ranks.{rank, factorial}
use Rattle.fr_model.specs.Automata.{State, state_at, next_state, IsState, IsAutomaton}
use Rattle.fr_model.specs.Terms.{IsTerm}
use Rattle.fr_model.proofs.AutomatonLaws.{IsTerm-state_term}
use Rattle.fr_model.proofs.PermutationLaws.{IsPermutation-identity}
use Rattle.fr_model.proofs.RankLaws.{factorial-pos, rank_below, rank_injective}
use Rattle.fr_model.proofs.CanonicalLaws.{state_same}
use Rattle.fr_alphabet.proofs.InsertionLaws.{IsPermutation-in_front, rank-in_front}
use Rattle.fr_layout.specs.declared.plan.Plan.{Plan}
use Rattle.fr_layout.specs.declared.plan.Block.{Block}
use Rattle.fr_layout.specs.Places.{field_at, IsIn}
use Rattle.fr_layout.specs.Meaning.{images_of, nexts_from, state_in, states_from, block_states, row_meaning, IsGood, IsSpelled}
use Rattle.fr_layout.specs.Laws.{BlocksAreAutomata}
use Rattle.fr_layout.specs.Entries.{IsWritten}

pub images : (d r : ℕ) → r < factorial d → IsPermutation d (images_of d r) × (rank (images_of d r) ≡ r)
images zero r l = (IsPermutation-identity 0, omega arith)
images (suc d) r l =
    let pos : 0 < factorial d = factorial-pos d in
    let small : r / factorial d < suc d = (div-lt_iff_lt-mul pos).1 l in
    let ih = images d (r % factorial d) (omega arith) in (
      IsPermutation-in_front d (suc (r / factorial d)) (images_of d (r % factorial d)) ih.0 (omega arith, omega arith),
      rank-in_front d (r / factorial d) (images_of d (r % factorial d)) ih.0 (omega arith) ∙ rw ih.1 (omega arith),
    )

get_or_default : {A : Type 0} (l : List A) (i : ℕ) (d e : A) → i < length l → get_or l i d ≡ get_or l i e
get_or_default [] i d e l = absurd (omega arith)
get_or_default (x ∷ xs) zero d e l = refl
get_or_default (x ∷ xs) (suc i) d e l = get_or_default xs i d e (omega arith)

module _ (p : Plan) (V W : ℕ → ℕ) where
  nexts_same : (start r x n : ℕ) → ((y : ℕ) → x ≤ y → y < x + n → V (field_at p r y) ≡ W (field_at p r y)) → nexts_from p V start r x n ≡ nexts_from p W start r x n
  nexts_same start r x zero h = refl
  nexts_same start r x (suc n) h =
      let first = h x (omega arith) (omega arith) in
      let rest = nexts_same start r (suc x) n (λ y a b. h y (omega arith) (omega arith)) in
      λ i. (first i - 1 - start) ∷ rest i

  states_same : (start r n : ℕ) → ((q f : ℕ) → r ≤ q → q < r + n → f ≤ p.letters → V (field_at p q f) ≡ W (field_at p q f)) → states_from p V start r n ≡ states_from p W start r n
  states_same start r zero h = refl
  states_same start r (suc n) h =
      let first = h r 0 (omega arith) (omega arith) (omega arith) in
      let nexts = nexts_same start r 1 p.letters (λ y a b. h r y (omega arith) (omega arith) (omega arith)) in
      let rest = states_same start (suc r) n (λ q f a b c. h q f (omega arith) (omega arith) c) in
      λ i. record { perm = images_of p.letters (first i - 1); next = nexts i } ∷ rest i

  pub block_same : (b : Block) → ((r f : ℕ) → IsIn r b → f ≤ p.letters → V (field_at p r f) ≡ W (field_at p r f)) → block_states p V b ≡ block_states p W b
  unfolding block_states
  block_same b h = states_same b.start b.start b.size (λ q f a c l. h q f (a, c) l)

module _ (p : Plan) (W : ℕ → ℕ) where
  length_nexts : (start r x n : ℕ) → length (nexts_from p W start r x n) ≡ n
  length_nexts start r x zero = refl
  length_nexts start r x (suc n) = ap suc (length_nexts start r (suc x) n)

  length_states : (start r n : ℕ) → length (states_from p W start r n) ≡ n
  length_states start r zero = refl
  length_states start r (suc n) = ap suc (length_states start (suc r) n)

  pub length_block : (b : Block) → length (block_states p W b) ≡ b.size
  unfolding block_states
  length_block b = length_states b.start b.start b.size

  next_at : (start r x n i e : ℕ) → i < n → get_or (nexts_from p W start r x n) i e ≡ W (field_at p r (x + i)) - 1 - start
  next_at start r x zero i e l = absurd (omega arith)
  next_at start r x (suc n) zero e l = ap (λ (y : ℕ). W (field_at p r y) - 1 - start) (let h : x ≡ x + 0 = omega arith in h)
  next_at start r x (suc n) (suc i) e l = next_at start r (suc x) n i e (omega arith) ∙ ap (λ (y : ℕ). W (field_at p r y) - 1 - start) (let h : suc x + i ≡ x + suc i = omega arith in h)

  states_at : (start r n i : ℕ) (e : State) → i < n → get_or (states_from p W start r n) i e ≡ state_in p W start (r + i)
  states_at start r zero i e l = absurd (omega arith)
  states_at start r (suc n) zero e l = ap (state_in p W start) (let h : r ≡ r + 0 = omega arith in h)
  states_at start r (suc n) (suc i) e l = states_at start (suc r) n i e (omega arith) ∙ ap (state_in p W start) (let h : suc r + i ≡ r + suc i = omega arith in h)

  block_at : (b : Block) (i : ℕ) (e : State) → i < b.size → get_or (block_states p W b) i e ≡ state_in p W b.start (b.start + i)
  unfolding block_states
  block_at b i e l = states_at b.start b.start b.size i e l

  -- a list that says the same at each place
  nexts_are : (start r x n : ℕ) (l : List ℕ) → length l ≡ n → ((i : ℕ) → i < n → W (field_at p r (x + i)) - 1 - start ≡ get_or l i 0) → nexts_from p W start r x n ≡ l
  nexts_are start r x zero [] e h = refl
  nexts_are start r x zero (y ∷ l) e h = absurd (omega arith)
  nexts_are start r x (suc n) [] e h = absurd (omega arith)
  nexts_are start r x (suc n) (y ∷ l) e h =
      let first : W (field_at p r x) - 1 - start ≡ y = ap (λ (z : ℕ). W (field_at p r z) - 1 - start) (let k : x ≡ x + 0 = omega arith in k) ∙ h 0 (omega arith) in
      let rest = nexts_are start r (suc x) n l (omega arith) (λ i m. ap (λ (z : ℕ). W (field_at p r z) - 1 - start) (let k : suc x + i ≡ x + suc i = omega arith in k) ∙ h (suc i) (omega arith)) in
      λ j. first j ∷ rest j

  states_are : (start r n : ℕ) (qs : List State) → length qs ≡ n → ((i : ℕ) (e : State) → i < n → state_in p W start (r + i) ≡ get_or qs i e) → states_from p W start r n ≡ qs
  states_are start r zero [] e h = refl
  states_are start r zero (q ∷ qs) e h = absurd (omega arith)
  states_are start r (suc n) [] e h = absurd (omega arith)
  states_are start r (suc n) (q ∷ qs) e h =
      let first : state_in p W start r ≡ q = ap (state_in p W start) (let k : r ≡ r + 0 = omega arith in k) ∙ h 0 q (omega arith) in
      let rest = states_are start (suc r) n qs (omega arith) (λ i d m. ap (state_in p W start) (let k : suc r + i ≡ r + suc i = omega arith in k) ∙ h (suc i) d (omega arith)) in
      λ j. first j ∷ rest j

  -- a row whose fields are good is a state
  good_state : (b : Block) (r : ℕ) → IsIn r b → ((f : ℕ) → f ≤ p.letters → 0 < W (field_at p r f)) → ((f : ℕ) → f ≤ p.letters → IsGood p.letters b f (W (field_at p r f))) → IsState p.letters b.size (state_in p W b.start r)
  good_state b r i full good = record {
    permutes = (images p.letters (W (field_at p r 0) - 1) (let h = full 0 (omega arith) in let g = (good 0 (omega arith)).0 refl in omega arith)).0;
    arity = length_nexts b.start r 1 p.letters;
    below = λ k e l.
        let small : k < p.letters = omega (arith, length_nexts b.start r 1 p.letters) in
        let g = (good (1 + k) (omega arith)).1 (omega arith) in
        let g0 = g.0 in let g1 = g.1 in
        let at = next_at b.start r 1 p.letters k e small in
        omega arith;
  }

  pub automaton_from : (b : Block) → ((r f : ℕ) → IsIn r b → f ≤ p.letters → 0 < W (field_at p r f)) → ((r f : ℕ) → IsIn r b → f ≤ p.letters → IsGood p.letters b f (W (field_at p r f))) → IsAutomaton p.letters (block_states p W b)
  automaton_from b full good k e l =
      let small : k < b.size = omega (arith, length_block b) in
      let inside : IsIn (b.start + k) b = (omega arith, omega arith) in
      subst (λ (n : ℕ). IsState p.letters n (get_or (block_states p W b) k e)) (sym (length_block b))
      (subst (IsState p.letters b.size) (sym (block_at b k e small)) (good_state b (b.start + k) inside (λ f m. full (b.start + k) f inside m) (λ f m. good (b.start + k) f inside m)))

  pub automaton : (b : Block) → IsWritten p W b → IsAutomaton p.letters (block_states p W b)
  automaton b w = automaton_from b w.full w.good

  pub term : (b : Block) (r : ℕ) → IsWritten p W b → IsIn r b → IsTerm p.letters (row_meaning p W b r)
  term b r w i = IsTerm-state_term p.letters (block_states p W b) (r - b.start) (automaton b w) (let a = i.0 in let c = i.1 in omega (arith, length_block b))

  state_is : (b : Block) (r : ℕ) → IsIn r b → state_at (block_states p W b) (r - b.start) ≡ state_in p W b.start r
  state_is b r i = block_at b (r - b.start) _ (let a = i.0 in let c = i.1 in omega arith) ∙ ap (state_in p W b.start) (let a = i.0 in let h : b.start + (r - b.start) ≡ r = omega arith in h)

  pub output : (b : Block) (r : ℕ) → IsWritten p W b → IsIn r b → W (field_at p r 0) ≡ suc (rank (state_at (block_states p W b) (r - b.start)).perm)
  output b r w i =
      let full = w.full r 0 i (omega arith) in
      let good = (w.good r 0 i (omega arith)).0 refl in
      let is = (images p.letters (W (field_at p r 0) - 1) (omega arith)).1 in
      let at = ap (λ (q : State). rank q.perm) (state_is b r i) in
      omega arith

  pub next : (b : Block) (r x : ℕ) → IsWritten p W b → IsIn r b → IsLetter p.letters x → W (field_at p r x) ≡ suc (b.start + next_state (block_states p W b) (r - b.start) x)
  next b r zero w i l = absurd (let a = l.0 in omega arith)
  next b r (suc k) w i l =
      let small : k < p.letters = let a = l.1 in omega arith in
      let good : IsGood p.letters b (suc k) (W (field_at p r (suc k))) = w.good r (suc k) i (omega arith) in
      let low : b.start < W (field_at p r (suc k)) = (good.1 (omega arith)).0 in
      let turned : W (field_at p r (1 + k)) - 1 - b.start ≡ W (field_at p r (suc k)) - 1 - b.start = ap (λ (y : ℕ). W (field_at p r y) - 1 - b.start) (let h : 1 + k ≡ suc k = omega arith in h) in
      let at : get_or (state_at (block_states p W b) (r - b.start)).next k (r - b.start) ≡ W (field_at p r (suc k)) - 1 - b.start = ap (λ (q : State). get_or q.next k (r - b.start)) (state_is b r i) ∙ (next_at b.start r 1 p.letters k (r - b.start) small ∙ turned) in
      omega arith

  pub spelled : (b : Block) (qs : List State) → IsAutomaton p.letters qs → length qs ≡ b.size → ((r : ℕ) → IsIn r b → IsSpelled p W b r (state_at qs (r - b.start))) → block_states p W b ≡ qs
  unfolding block_states
  spelled b qs h count says = states_are b.start b.start b.size qs count one
    where
      one : (i : ℕ) (e : State) → i < b.size → state_in p W b.start (b.start + i) ≡ get_or qs i e
      one i e l =
          let r : ℕ = b.start + i in
          let q : State = get_or qs i e in
          let state = h i e (omega arith) in
          let none : State = record { perm = []; next = [] } in
          let back : state_at qs (r - b.start) ≡ q = ap (λ (k : ℕ). get_or qs k none) (let k : b.start + i - b.start ≡ i = omega arith in k) ∙ get_or_default qs i none e (omega arith) in
          let s = subst (IsSpelled p W b r) back (says r (omega arith, omega arith)) in
          state_same (state_in p W b.start r) q
          (perm_is q state s.0)
          (nexts_are b.start r 1 p.letters q.next state.arity (λ k m.
          let a : W (field_at p r (1 + k)) ≡ suc (b.start + get_or q.next (1 + k - 1) 0) = s.1 (1 + k) (omega arith, omega arith) in
          let back : get_or q.next (1 + k - 1) 0 ≡ get_or q.next k 0 = ap (λ (y : ℕ). get_or q.next y 0) (let e : 1 + k - 1 ≡ k = omega arith in e) in
          omega arith))
        where
          perm_is : (q : State) → IsState p.letters (length qs) q → W (field_at p (b.start + i) 0) ≡ suc (rank q.perm) → images_of p.letters (W (field_at p (b.start + i) 0) - 1) ≡ q.perm
          perm_is q state says =
              let small = rank_below p.letters q.perm state.permutes in
              let it = images p.letters (W (field_at p (b.start + i) 0) - 1) (omega arith) in
              rank_injective p.letters _ q.perm it.0 state.permutes (let a = it.1 in omega arith)

pub blocks : BlocksAreAutomata
blocks = record {
  permutes = images;
  count = length_block;
  automaton = automaton;
  term = term;
  output = output;
  next = next;
  spelled = spelled;
  decided = block_same;
}
