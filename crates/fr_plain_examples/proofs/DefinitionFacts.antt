-- Definitions, and what they bind.
use Rattle.std.proofs.Common.{ℕ, ◌≡◌, true, false, [], ◌∷◌, get_or, length, Option, Some, refl, sym, ap, ◌∙◌, subst, arith}
use Rattle.std.specs.Prelude.{codes}
use Rattle.std.specs.Fmt.{digits}
use Rattle.fr_model.specs.Systems.{System}
use Rattle.fr_model.specs.Terms.{Term, One, Product}
use Rattle.fr_syntax.specs.declared.statement.Statement.TheVariants as st
use Rattle.fr_script.specs.declared.fault.LineFault.TheVariants as f
use Rattle.fr_plain.specs.Steps.{Identity, Looked, Multiplied}
use Rattle.fr_plain.specs.Expansions.{Expansion}
use Rattle.fr_plain.specs.Outcomes.{Outcome, IsStatement, refuse, DefinesName}
use Rattle.fr_plain.proofs.OutcomeLaws.{statement_once}
use Rattle.fr_plain_examples.specs.Scripts.{one, x_times_x}
use Rattle.fr_plain_examples.specs.Definitions.{t_at, x_is_one, x_is_square, BlockIsSystem, NameStandsTwice, NameIsBoundTwice}
use Rattle.fr_plain_examples.proofs.Expanded.{one_is, x_square_is}
use Rattle.fr_plain_examples.proofs.IdentityFacts.{ones_charged}

-- the length of the section at the letter 2 of the first name
second_section : System → ℕ
second_section s = length (get_or (get_or s 0 (record { perm = []; sections = [] })).sections 1 [])

pub block : BlockIsSystem
unfolding second_section
block = record {
  system = refl;
  not_empty_section = λ e. let v : ◌≡◌ {A = ℕ} 0 1 = ap second_section e in omega (arith, v);
}

twice : IsStatement 1 2 [] (st.Group (t_at 2 ∷ t_at 3 ∷ [])) (refuse [] [] 0 (record { line = 3; kind = f.NameTaken }))
twice = refl

pub stands_twice : NameStandsTwice
unfolding digits
stands_twice = record {
  refused = twice;
  not_first_line = λ e. let v : ◌≡◌ {A = ℕ} 50 51 = ap (λ (o : Outcome). get_or o.text 5 0) e in omega (arith, v);
  not_bound = λ o h e. let s : o.refused ≡ true = ap (λ (p : Outcome). p.refused) h in cc;
}

first : IsStatement 1 2 [] (st.Let (codes "x") one) (record { steps = Identity ∷ []; charge = 1; text = []; refused = false; scope = x_is_one })
first = subst (λ (e : Expansion). DefinesName 1 2 [] (codes "x") e (record { steps = Identity ∷ []; charge = 1; text = []; refused = false; scope = x_is_one })) (sym (one_is [])) (DefinesName.binds 1 (1, 0, refl, refl, refl))

second : IsStatement 2 2 x_is_one (st.Let (codes "x") x_times_x) (record { steps = Looked (Some One) ∷ Looked (Some One) ∷ Multiplied One One ∷ []; charge = 1; text = []; refused = false; scope = x_is_square })
second = subst (λ (e : Expansion). DefinesName 2 2 x_is_one (codes "x") e (record { steps = Looked (Some One) ∷ Looked (Some One) ∷ Multiplied One One ∷ []; charge = 1; text = []; refused = false; scope = x_is_square })) (sym (x_square_is x_is_one))
    (DefinesName.binds 1 (0, 1, refl, (0, 1, refl, (1, 0, ones_charged, refl, refl), refl), refl))

pub bound_twice : NameIsBoundTwice
bound_twice = record {
  first = first;
  second = second;
  seen = refl;
  not_first = λ e. let v : ◌≡◌ {A = Option Term} (Some (Product One One)) (Some One) = e in cc;
  not_taken = λ o h e. let s = (statement_once 2 2 x_is_one (st.Let (codes "x") x_times_x) o _ h second).text in let v : ◌≡◌ {A = ℕ} 0 19 = ap length (sym s ∙ e) in omega (arith, v);
}
