-- The square of the identity, where the identity is a machine of one row, and products of published rows.
use Rattle.std.proofs.Common.{◌≡◌, ℕ, ◌+◌, List, [], ◌∷◌, refl, sym, ap, ◌∙◌, subst, arith}
use Rattle.std.proofs.lemmas.List.Elements.{All-from_recursion}
use Rattle.fr_model.specs.Words.{IsWord}
use Rattle.fr_model.specs.Permutations.{image, identity_permutation}
use Rattle.fr_model.specs.Automata.{State, next_state, state_after, state_term, IsAutomaton}
use Rattle.fr_model.specs.Terms.{Term, Product, Section, act, IsTerm, IsAlike}
use Rattle.fr_model.specs.Classes.{HasFewPairs}
use Rattle.fr_model.proofs.PermutationLaws.{image-identity}
use Rattle.fr_model.proofs.AlikeLaws.{alike_sym, alike_trans, alike_from_words, act-nil}
use Rattle.fr_model.proofs.AutomatonLaws.{IsTerm-state_term, act-state_term, next_state-lt, state_after-lt, section_state}
use Rattle.fr_machine.specs.declared.row.Row.{Row}
use Rattle.fr_machine.specs.Rows.{IsMachine, states_of, row_term}
use Rattle.fr_machine.proofs.RowLaws.{IsAutomaton-states_of}
use Rattle.fr_layout.specs.declared.plan.Plan.{Plan}
use Rattle.fr_layout.specs.Packs.{product_word}
use Rattle.fr_layout.specs.Meaning.{row_meaning}
use Rattle.fr_words.proofs.Knowing.{admitted_agrees}
use Rattle.fr_words.specs.Asks.{Admits, MayCache}
use Rattle.fr_words.specs.declared.notes.Note.{Note}
use Rattle.fr_words_examples.specs.Filling.{block_at, IsPublished}
use Rattle.fr_words_examples.proofs.Fillings.{means}

module _ (d : ℕ) (row : Row) (m : IsMachine d (row ∷ [])) (id : row.perm ≡ identity_permutation d) where
  states : List State
  states = states_of (row ∷ [])

  identity : Term
  identity = row_term (row ∷ []) 0

  automaton : IsAutomaton d (states_of (row ∷ []))
  automaton = IsAutomaton-states_of d (row ∷ []) m

  is_term : IsTerm d (row_term (row ∷ []) 0)
  is_term = IsTerm-state_term d (states_of (row ∷ [])) 0 automaton (omega arith)

  -- each section is the identity again
  section_is : (v : List ℕ) → IsWord d v → IsAlike (Section (row_term (row ∷ []) 0) v) (row_term (row ∷ []) 0)
  section_is v w =
      let there = state_after-lt d (states_of (row ∷ [])) 0 v automaton (omega arith) in
      let is : state_after (states_of (row ∷ [])) 0 v ≡ 0 = omega arith in
      subst (λ (s : ℕ). IsAlike (Section (row_term (row ∷ []) 0) v) (state_term (states_of (row ∷ [])) s)) is (section_state d (states_of (row ∷ [])) 0 v automaton (omega arith) w)

  act_is : (w : List ℕ) → IsWord d w → act (row_term (row ∷ []) 0) w ≡ w
  act_is [] l = act-nil (row_term (row ∷ []) 0)
  act_is (x ∷ w) l =
      let there = next_state-lt d (states_of (row ∷ [])) 0 x automaton (omega arith) in
      let is : next_state (states_of (row ∷ [])) 0 x ≡ 0 = omega arith in
      let letter : image row.perm x ≡ x = ap (λ (p : List ℕ). image p x) id ∙ image-identity d x in
      let rest : act (state_term (states_of (row ∷ [])) (next_state (states_of (row ∷ [])) 0 x)) w ≡ w = ap (λ (s : ℕ). act (state_term (states_of (row ∷ [])) s) w) is ∙ act_is w l.1 in
      act-state_term d (states_of (row ∷ [])) 0 x w automaton (omega arith) l.0 ∙ (λ i. letter i ∷ rest i)

  pub square : IsAlike (row_term (row ∷ []) 0) (Product (row_term (row ∷ []) 0) (row_term (row ∷ []) 0))
  square = alike_from_words d is_term (is_term, is_term) (λ w l. act_is w l ∙ sym (ap (act (row_term (row ∷ []) 0)) (act_is w l) ∙ act_is w l))

  pub few : HasFewPairs d (row_term (row ∷ []) 0) (row_term (row ∷ []) 0)
  few = (
    1,
    omega arith,
    record {
      members = [] ∷ [];
      count = refl;
      valid = All-from_recursion (IsWord d) ([] ∷ []) (tt, tt);
      apart = λ i j a l h. absurd (omega arith);
      covers = λ v l. (0, omega arith, (one v l, two v l));
    },
  )
    where
      one : (v : List ℕ) → IsWord d v → IsAlike (Section (row_term (row ∷ []) 0) v) (Section (row_term (row ∷ []) 0) [])
      one v l = alike_trans (section_is v l) (alike_sym (section_is [] tt))

      two : (v : List ℕ) → IsWord d v → IsAlike (Section (row_term (row ∷ []) 0) (act (row_term (row ∷ []) 0) v)) (Section (row_term (row ∷ []) 0) (act (row_term (row ∷ []) 0) []))
      two v l = subst (λ (x : List ℕ × List ℕ). IsAlike (Section (row_term (row ∷ []) 0) x.0) (Section (row_term (row ∷ []) 0) x.1)) (λ i. (sym (act_is v l) i, sym (act_is [] tt) i)) (one v l)

-- three handles of published machines, of which the third is the product of the others
pub may_cache : (p : Plan) (v : Note) (a b c : ℕ) (ra rb rc : List Row) (i j k : ℕ) (word : ℕ) → IsPublished p v a ra i → IsPublished p v b rb j → IsPublished p v c rc k → IsAlike (row_term rc k) (Product (row_term ra i) (row_term rb j)) → HasFewPairs p.letters (row_term ra i) (row_term rb j) → word ≡ product_word (a + i) (b + j) (c + k) → MayCache p v word
may_cache p v a b c ra rb rc i j k word x y z product few is = record {
  first = a + i;
  second = b + j;
  third = c + k;
  first_block = block_at a ra;
  second_block = block_at b rb;
  third_block = block_at c rc;
  names = is;
  first_seen = x.2.handles i x.0;
  second_seen = y.2.handles j y.0;
  third_seen = z.2.handles k z.0;
  product = λ Y admits. subst (λ (t : Term × (Term × Term)). IsAlike t.0 (Product t.1.0 t.1.1)) (λ n. (sym (three Y admits) n, (sym (one Y admits) n, sym (two Y admits) n))) product;
  few = λ Y admits. subst (λ (t : Term × Term). HasFewPairs p.letters t.0 t.1) (λ n. (sym (one Y admits) n, sym (two Y admits) n)) few;
}
  where
    one : (Y : ℕ → ℕ) → Admits p v.facts Y → row_meaning p Y (block_at a ra) (a + i) ≡ row_term ra i
    one Y admits = means p a ra x.1 v.facts x.2.fields Y (admitted_agrees p v.facts Y admits) i

    two : (Y : ℕ → ℕ) → Admits p v.facts Y → row_meaning p Y (block_at b rb) (b + j) ≡ row_term rb j
    two Y admits = means p b rb y.1 v.facts y.2.fields Y (admitted_agrees p v.facts Y admits) j

    three : (Y : ℕ → ℕ) → Admits p v.facts Y → row_meaning p Y (block_at c rc) (c + k) ≡ row_term rc k
    three Y admits = means p c rc z.1 v.facts z.2.fields Y (admitted_agrees p v.facts Y admits) k
