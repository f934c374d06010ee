-- Statements that ask: their texts, what they are charged, and where they are refused.
use Rattle.std.specs.Prelude.{◌≢◌, true, false, [], ◌∷◌, Some, codes}
use Rattle.fr_model.specs.Terms.{One}
use Rattle.fr_syntax.specs.declared.statement.Statement.TheVariants as st
use Rattle.fr_plain.specs.Steps.{Looked, Identity, Multiplied, Listed}
use Rattle.fr_plain.specs.Outcomes.{Outcome, IsStatement}
use Rattle.fr_plain_examples.specs.Scripts.{t_term, adding_scope, one, one_times_one, with_unknown}

-- `states 1*1`: each 1 is charged 1, and so is the product, though it is known
pub record ProductOfOnesIsCharged : Type 0 where
  pub answer : IsStatement 1 2 [] (st.States one_times_one) (record { steps = Identity ∷ Identity ∷ Multiplied One One ∷ []; charge = 3; text = codes "1\n"; refused = false; scope = [] })
  pub not_two : (o : Outcome) → IsStatement 1 2 [] (st.States one_times_one) o → o.charge ≢ 2
  pub not_two_states : (o : Outcome) → IsStatement 1 2 [] (st.States one_times_one) o → o.text ≢ codes "2\n"

-- `order 1 5` needs no product, and `order 1 0` passes its bound
pub record OrderOfOne : Type 0 where
  pub answer : IsStatement 1 2 [] (st.Order one 5) (record { steps = Identity ∷ []; charge = 1; text = codes "1\n"; refused = false; scope = [] })
  pub not_passed : (o : Outcome) → IsStatement 1 2 [] (st.Order one 5) o → o.text ≢ codes "passes 5\n"
  pub passed : IsStatement 1 2 [] (st.Order one 0) (record { steps = Identity ∷ []; charge = 1; text = codes "passes 0\n"; refused = false; scope = [] })
  pub not_found : (o : Outcome) → IsStatement 1 2 [] (st.Order one 0) o → o.text ≢ codes "1\n"

-- `eq t*t*zed 1`: the last name is looked up behind the first product, which stays charged
pub record UnknownNameAfterProduct : Type 0 where
  pub answer : IsStatement 4 2 adding_scope (st.Eq with_unknown one) (record { steps = Looked (Some t_term) ∷ Looked (Some t_term) ∷ Multiplied t_term t_term ∷ []; charge = 3; text = codes "line 4: unknown name\n"; refused = true; scope = adding_scope })
  pub not_free : (o : Outcome) → IsStatement 4 2 adding_scope (st.Eq with_unknown one) o → o.charge ≢ 0
  pub not_accepted : (o : Outcome) → IsStatement 4 2 adding_scope (st.Eq with_unknown one) o → o.refused ≢ false

-- `nucleus 1`: the identity alone, at depth 0, and it is charged as a member once more
pub record NucleusOfOne : Type 0 where
  pub answer : IsStatement 1 2 [] (st.NucleusOf (one ∷ [])) (record { steps = Identity ∷ Listed One ∷ []; charge = 2; text = codes "nucleus 1 depth 0\nelement 1\nstates 1\n1 = <1,1>\n"; refused = false; scope = [] })
  pub not_one : (o : Outcome) → IsStatement 1 2 [] (st.NucleusOf (one ∷ [])) o → o.charge ≢ 1
  pub not_deeper : (o : Outcome) → IsStatement 1 2 [] (st.NucleusOf (one ∷ [])) o → o.text ≢ codes "nucleus 1 depth 1\nelement 1\nstates 1\n1 = <1,1>\n"
