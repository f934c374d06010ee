-- Statements that ask, and what they answer.
use Rattle.std.proofs.Common.{ℕ, ◌≡◌, true, false, List, [], ◌∷◌, ◌++◌, get_or, Some, None, Ok, refl, sym, ap, ◌∙◌, subst, arith}
use Rattle.std.specs.Prelude.{codes}
use Rattle.std.specs.Fmt.{digits}
use Rattle.fr_model.specs.Terms.{One, Product}
use Rattle.fr_model.proofs.AlikeLaws.{alike_refl}
use Rattle.fr_canon.specs.Texts.{wreath_text, state_line}
use Rattle.fr_syntax.specs.declared.statement.Statement.TheVariants as st
use Rattle.fr_script.specs.declared.fault.LineFault.TheVariants as f
use Rattle.fr_plain.specs.Steps.{Looked, Identity, Multiplied, Listed, AreStopped}
use Rattle.fr_plain.specs.Expansions.{Expansion}
use Rattle.fr_plain.specs.Answers.{says, AnswersStates, AnswersEq, AnswersOrder, AnswersNucleus}
use Rattle.fr_plain.specs.Outcomes.{IsStatement, IsReply}
use Rattle.fr_plain.proofs.OutcomeLaws.{statement_once}
use Rattle.fr_model_examples.specs.Automata.{identity_states}
use Rattle.fr_plain_examples.specs.Scripts.{t_term, adding_scope, one, one_times_one, with_unknown}
use Rattle.fr_plain_examples.specs.Questions.{ProductOfOnesIsCharged, OrderOfOne, UnknownNameAfterProduct, NucleusOfOne}
use Rattle.fr_plain_examples.proofs.Expanded.{one_is, ones_are, unknown_is}
use Rattle.fr_plain_examples.proofs.IdentityFacts.{size_one, size_ones, ones_charged, few_sections, members, depth}
use Rattle.fr_plain_examples.proofs.PowerFacts.{square_charged}

-- ---- states 1*1
product_says : IsStatement 1 2 [] (st.States one_times_one) (record { steps = Identity ∷ Identity ∷ Multiplied One One ∷ []; charge = 3; text = codes "1\n"; refused = false; scope = [] })
unfolding digits
product_says = subst (λ (e : Expansion). IsReply 1 2 [] e.steps (AnswersStates 2 e.value) (record { steps = Identity ∷ Identity ∷ Multiplied One One ∷ []; charge = 3; text = codes "1\n"; refused = false; scope = [] })) (sym (ones_are []))
    (IsReply.ended 3 (says (codes "1\n")) (1, 2, refl, (1, 1, refl, (1, 0, ones_charged, refl, refl), refl), refl) (record { size = 1; is_size = size_ones; ends = refl }))

pub product_of_ones : ProductOfOnesIsCharged
product_of_ones = record {
  answer = product_says;
  not_two = λ o h e. let s = (statement_once 1 2 [] (st.States one_times_one) o _ h product_says).charge in omega (arith, s, e);
  not_two_states = λ o h e. let s = (statement_once 1 2 [] (st.States one_times_one) o _ h product_says).text in let v : ◌≡◌ {A = ℕ} 49 50 = ap (λ (t : List ℕ). get_or t 0 0) (sym s ∙ e) in omega (arith, v);
}

-- ---- order 1 n
found : IsStatement 1 2 [] (st.Order one 5) (record { steps = Identity ∷ []; charge = 1; text = codes "1\n"; refused = false; scope = [] })
unfolding digits
found = subst (λ (e : Expansion). IsReply 1 2 [] e.steps (λ ending. AnswersOrder 2 e.value 5 ending) (record { steps = Identity ∷ []; charge = 1; text = codes "1\n"; refused = false; scope = [] })) (sym (one_is []))
    (IsReply.ended 1 (record { steps = []; charge = 0; answer = Ok (codes "1\n") }) (1, 0, refl, refl, refl) (AnswersOrder.found 0 0 (omega arith) (λ j l a. omega (arith, l)) (alike_refl One) refl))

passed : IsStatement 1 2 [] (st.Order one 0) (record { steps = Identity ∷ []; charge = 1; text = codes "passes 0\n"; refused = false; scope = [] })
unfolding digits
passed = subst (λ (e : Expansion). IsReply 1 2 [] e.steps (λ ending. AnswersOrder 2 e.value 0 ending) (record { steps = Identity ∷ []; charge = 1; text = codes "passes 0\n"; refused = false; scope = [] })) (sym (one_is []))
    (IsReply.ended 1 (says (codes "passes 0\n")) (1, 0, refl, refl, refl) (AnswersOrder.none refl))

pub order_of_one : OrderOfOne
order_of_one = record {
  answer = found;
  not_passed = λ o h e. let s = (statement_once 1 2 [] (st.Order one 5) o _ h found).text in let v : ◌≡◌ {A = ℕ} 49 112 = ap (λ (t : List ℕ). get_or t 0 0) (sym s ∙ e) in omega (arith, v);
  passed = passed;
  not_found = λ o h e. let s = (statement_once 1 2 [] (st.Order one 0) o _ h passed).text in let v : ◌≡◌ {A = ℕ} 112 49 = ap (λ (t : List ℕ). get_or t 0 0) (sym s ∙ e) in omega (arith, v);
}

-- ---- eq t*t*zed 1
stops : AreStopped 2 (Looked (Some t_term) ∷ Looked (Some t_term) ∷ Multiplied t_term t_term ∷ Looked None ∷ Multiplied (Product t_term t_term) One ∷ Identity ∷ []) (Looked (Some t_term) ∷ Looked (Some t_term) ∷ Multiplied t_term t_term ∷ []) 3 f.UnknownName
stops = record { next = Looked None; rest = Multiplied (Product t_term t_term) One ∷ Identity ∷ []; all = refl; evaluated = (0, 3, refl, (0, 3, refl, (3, 0, square_charged, refl, refl), refl), refl); refused = refl }

unknown : IsStatement 4 2 adding_scope (st.Eq with_unknown one) (record { steps = Looked (Some t_term) ∷ Looked (Some t_term) ∷ Multiplied t_term t_term ∷ []; charge = 3; text = codes "line 4: unknown name\n"; refused = true; scope = adding_scope })
unfolding digits
unknown = subst (λ (e : Expansion × Expansion). IsReply 4 2 adding_scope (e.0.steps ++ e.1.steps) (AnswersEq 2 e.0.value e.1.value) (record { steps = Looked (Some t_term) ∷ Looked (Some t_term) ∷ Multiplied t_term t_term ∷ []; charge = 3; text = codes "line 4: unknown name\n"; refused = true; scope = adding_scope })) (λ k. (sym (unknown_is adding_scope) k, sym (one_is adding_scope) k))
    (IsReply.stopped (Looked (Some t_term) ∷ Looked (Some t_term) ∷ Multiplied t_term t_term ∷ []) 3 f.UnknownName stops)

pub unknown_name : UnknownNameAfterProduct
unknown_name = record {
  answer = unknown;
  not_free = λ o h e. let s = (statement_once 4 2 adding_scope (st.Eq with_unknown one) o _ h unknown).charge in omega (arith, s, e);
  not_accepted = λ o h e. let s = (statement_once 4 2 adding_scope (st.Eq with_unknown one) o _ h unknown).refused in cc;
}

-- ---- nucleus 1
nucleus_says : IsStatement 1 2 [] (st.NucleusOf (one ∷ [])) (record { steps = Identity ∷ Listed One ∷ []; charge = 2; text = codes "nucleus 1 depth 0\nelement 1\nstates 1\n1 = <1,1>\n"; refused = false; scope = [] })
unfolding digits wreath_text state_line
nucleus_says = subst (λ (e : Expansion). IsReply 1 2 [] (e.steps ++ []) (AnswersNucleus 2 (e.value ∷ [])) (record { steps = Identity ∷ Listed One ∷ []; charge = 2; text = codes "nucleus 1 depth 0\nelement 1\nstates 1\n1 = <1,1>\n"; refused = false; scope = [] })) (sym (one_is []))
    (IsReply.ended 1 (record { steps = Listed One ∷ []; charge = 1; answer = Ok (codes "nucleus 1 depth 0\nelement 1\nstates 1\n1 = <1,1>\n") }) (1, 0, refl, refl, refl) (AnswersNucleus.found (One ∷ []) (identity_states ∷ []) 0 1 few_sections members (omega arith) depth (1, 0, size_one, refl, refl)))

pub nucleus_of_one : NucleusOfOne
nucleus_of_one = record {
  answer = nucleus_says;
  not_one = λ o h e. let s = (statement_once 1 2 [] (st.NucleusOf (one ∷ [])) o _ h nucleus_says).charge in omega (arith, s, e);
  not_deeper = λ o h e. let s = (statement_once 1 2 [] (st.NucleusOf (one ∷ [])) o _ h nucleus_says).text in let v : ◌≡◌ {A = ℕ} 48 49 = ap (λ (t : List ℕ). get_or t 16 0) (sym s ∙ e) in omega (arith, v);
}
