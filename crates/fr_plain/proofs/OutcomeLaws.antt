-- An item has one outcome, and a script one text and one charge.
use Rattle.std.proofs.Common.{ℕ, ◌≡◌, List, Result, Ok, Err, Option, Some, None, length, refl, sym, ◌∙◌, ap, arith}
use Rattle.fr_script.specs.declared.fault.LineFault.{LineFault}
use Rattle.fr_script.specs.declared.fault.Fault.{Fault}
use Rattle.fr_script.specs.FaultTexts.{fault_text}
use Rattle.fr_script.specs.declared.item.Item.{Item}
use Rattle.fr_script.specs.declared.item.Body.{Body}
use Rattle.fr_script.specs.declared.item.Body.TheVariants as b
use Rattle.fr_syntax.specs.declared.statement.Recursion.{Recursion}
use Rattle.fr_syntax.specs.declared.statement.Statement.{Statement}
use Rattle.fr_syntax.specs.declared.statement.Statement.TheVariants as st
use Rattle.fr_plain.specs.Scopes.{Scope}
use Rattle.fr_plain.specs.Blocks.{block_system}
use Rattle.fr_plain.specs.BlockNames.{names_fault}
use Rattle.fr_plain.specs.Steps.{Step}
use Rattle.fr_plain.specs.Expansions.{Expansion, expansion, expansions, values_of_all}
use Rattle.fr_plain.specs.Answers.{Ending}
use Rattle.fr_plain.specs.Outcomes.{Outcome, refuse, reply, IsReply, stopped, ended, name_steps, line_at, DefinesBlock, DefinesGroup, DefinesName, IsStatement, IsBody, IsOutcome}
use Rattle.fr_plain.specs.Held.{AreAlikeSteps}
use Rattle.fr_plain.proofs.HeldLaws.{alike_steps_refl, alike_steps_same, alike_steps_append}
use Rattle.fr_plain.proofs.StepLaws.{evaluated_once, stopped_once, evaluated_not_stopped}
use Rattle.fr_plain.proofs.EndingLaws.{EndsOnce, shown_once, counted_once, unfolded_once, classified_once, compared_once, mapped_once, ray_mapped_once, ordered_once}
use Rattle.fr_plain.proofs.MemberLaws.{contracted_once}

-- two outcomes make the same, write the same and bind the same
pub record IsSameOutcome (o p : Outcome) : Type 0 where
  pub steps : AreAlikeSteps o.steps p.steps
  pub charge : o.charge ≡ p.charge
  pub text : o.text ≡ p.text
  pub refused : o.refused ≡ p.refused
  pub scope : o.scope ≡ p.scope

same_outcome : (o p : Outcome) → o ≡ p → IsSameOutcome o p
same_outcome o p e = record {
  steps = alike_steps_same o.steps p.steps (ap (λ (x : Outcome). x.steps) e);
  charge = ap (λ (x : Outcome). x.charge) e;
  text = ap (λ (x : Outcome). x.text) e;
  refused = ap (λ (x : Outcome). x.refused) e;
  scope = ap (λ (x : Outcome). x.scope) e;
}

-- a fault of a line ends it in one way
same_refusal : (scope : Scope) (done other : List Step) (m n : ℕ) (f g : Fault) → AreAlikeSteps done other → m ≡ n → f ≡ g → IsSameOutcome (refuse scope done m f) (refuse scope other n g)
same_refusal scope done other m n f g same c e = record { steps = same; charge = c; text = ap fault_text e; refused = refl; scope = refl }

same_reply : (line : ℕ) (scope : Scope) (done other : List Step) (m n : ℕ) (r s : Result (List ℕ) LineFault) → AreAlikeSteps done other → m ≡ n → r ≡ s
    → IsSameOutcome (reply line scope done m r) (reply line scope other n s)
same_reply line scope done other m n (Ok v) (Ok w) same c e = record { steps = same; charge = c; text = ap (λ r. elim r [ Ok u ↦ u | Err g ↦ v ]) e; refused = refl; scope = refl }
same_reply line scope done other m n (Ok v) (Err g) same c e = absurd (apart e)
  where
    apart : Ok v ≡ Err g → ⊥
    apart h = cc
same_reply line scope done other m n (Err f) (Ok w) same c e = absurd (apart e)
  where
    apart : Err f ≡ Ok w → ⊥
    apart h = cc
same_reply line scope done other m n (Err f) (Err g) same c e =
    same_refusal scope done other m n _ _ same c (ap (λ (k : LineFault). record { line = line; kind = k }) (ap (λ r. elim r [ Ok u ↦ f | Err h ↦ h ]) e))

reply_once : (line d : ℕ) (scope : Scope) (steps : List Step) (Ends : Ending → Type 0) → EndsOnce Ends → (o p : Outcome) → IsReply line d scope steps Ends o → IsReply line d scope steps Ends p → IsSameOutcome o p
reply_once line d scope steps Ends once _ _ (stopped done m f a) (stopped other n g b) =
    let z = stopped_once d steps done other m n f g a b in
    same_refusal scope done other m n _ _ (alike_steps_same done other z.0) z.1 (ap (λ (k : LineFault). record { line = line; kind = k }) z.2)
reply_once line d scope steps Ends once _ _ (stopped done m f a) (ended n e x y) = absurd (evaluated_not_stopped d steps done n m f x a)
reply_once line d scope steps Ends once _ _ (ended n e x y) (stopped done m f a) = absurd (evaluated_not_stopped d steps done n m f x a)
reply_once line d scope steps Ends once _ _ (ended m e x y) (ended n f x' y') =
    let z = once e f y y' in
    same_reply line scope _ _ _ _ e.answer f.answer (alike_steps_append steps steps e.steps f.steps (alike_steps_refl steps) z.2) (omega (arith, evaluated_once d steps m n x x', z.0)) z.1

block_once : (d : ℕ) (scope : Scope) (recursions : List Recursion) (o p : Outcome) → DefinesBlock d scope recursions o → DefinesBlock d scope recursions p → IsSameOutcome o p
block_once d scope recursions _ _ (DefinesBlock.stopped done m f a) (DefinesBlock.stopped other n g b) =
    let z = stopped_once d (name_steps (block_system recursions) (length recursions)) done other m n f g a b in
    same_refusal scope done other m n _ _ (alike_steps_same done other z.0) z.1
    (ap (λ (k : LineFault). record { line = line_at recursions (length done); kind = k }) z.2 ∙ ap (λ (l : List Step). record { line = line_at recursions (length l); kind = g }) z.0)
block_once d scope recursions _ _ (DefinesBlock.stopped done m f a) (DefinesBlock.binds n x) = absurd (evaluated_not_stopped d _ done n m f x a)
block_once d scope recursions _ _ (DefinesBlock.binds n x) (DefinesBlock.stopped done m f a) = absurd (evaluated_not_stopped d _ done n m f x a)
block_once d scope recursions _ _ (DefinesBlock.binds m x) (DefinesBlock.binds n y) =
    record { steps = alike_steps_refl _; charge = evaluated_once d _ m n x y; text = refl; refused = refl; scope = refl }

checked_once : (d : ℕ) (scope : Scope) (recursions : List Recursion) (fault : Option Fault) (o p : Outcome) → DefinesGroup d scope recursions fault o → DefinesGroup d scope recursions fault p → IsSameOutcome o p
checked_once d scope recursions (Some fault) o p a b = same_outcome o p (a ∙ sym b)
checked_once d scope recursions None o p a b = block_once d scope recursions o p a b

let_once : (line d : ℕ) (scope : Scope) (name : List ℕ) (e : Expansion) (o p : Outcome) → DefinesName line d scope name e o → DefinesName line d scope name e p → IsSameOutcome o p
let_once line d scope name e _ _ (DefinesName.stopped done m f a) (DefinesName.stopped other n g b) =
    let z = stopped_once d e.steps done other m n f g a b in
    same_refusal scope done other m n _ _ (alike_steps_same done other z.0) z.1 (ap (λ (k : LineFault). record { line = line; kind = k }) z.2)
let_once line d scope name e _ _ (DefinesName.stopped done m f a) (DefinesName.binds n x) = absurd (evaluated_not_stopped d e.steps done n m f x a)
let_once line d scope name e _ _ (DefinesName.binds n x) (DefinesName.stopped done m f a) = absurd (evaluated_not_stopped d e.steps done n m f x a)
let_once line d scope name e _ _ (DefinesName.binds m x) (DefinesName.binds n y) =
    record { steps = alike_steps_refl e.steps; charge = evaluated_once d e.steps m n x y; text = refl; refused = refl; scope = refl }

pub statement_once : (line d : ℕ) (scope : Scope) (s : Statement) (o p : Outcome) → IsStatement line d scope s o → IsStatement line d scope s p → IsSameOutcome o p
statement_once line d scope (st.Alphabet a) o p x y = same_outcome o p (x ∙ sym y)
statement_once line d scope (st.Group recursions) o p x y = checked_once d scope recursions (names_fault recursions) o p x y
statement_once line d scope (st.Let name e) o p x y = let_once line d scope name (expansion scope e) o p x y
statement_once line d scope (st.Show e) o p x y = reply_once line d scope _ _ (shown_once d (expansion scope e).value) o p x y
statement_once line d scope (st.States e) o p x y = reply_once line d scope _ _ (counted_once d (expansion scope e).value) o p x y
statement_once line d scope (st.Wreath e) o p x y = reply_once line d scope _ _ (unfolded_once d (expansion scope e).value) o p x y
statement_once line d scope (st.ClassOf e) o p x y = reply_once line d scope _ _ (classified_once d (expansion scope e).value) o p x y
statement_once line d scope (st.Eq left right) o p x y = reply_once line d scope _ _ (compared_once d (expansion scope left).value (expansion scope right).value) o p x y
statement_once line d scope (st.Act e w) o p x y = reply_once line d scope _ _ (mapped_once (expansion scope e).value w) o p x y
statement_once line d scope (st.RayOf e ray) o p x y =
    reply_once line d scope _ _ (ray_mapped_once d (expansion scope e).value (record { before = ray.before; period = ray.period })) o p x y
statement_once line d scope (st.Order e most) o p x y = reply_once line d scope _ _ (ordered_once d (expansion scope e).value most) o p x y
statement_once line d scope (st.NucleusOf es) o p x y = reply_once line d scope _ _ (contracted_once d (values_of_all (expansions scope es))) o p x y

body_once : (line d : ℕ) (scope : Scope) (body : Body) (o p : Outcome) → IsBody line d scope body o → IsBody line d scope body p → IsSameOutcome o p
body_once line d scope (b.Says s) o p x y = statement_once line d scope s o p x y
body_once line d scope (b.Faulty fault) o p x y = same_outcome o p (x ∙ sym y)

pub outcome_once : (d : ℕ) (scope : Scope) (item : Item) (o p : Outcome) → IsOutcome d scope item o → IsOutcome d scope item p → IsSameOutcome o p
outcome_once d scope item o p x y = body_once item.line d scope item.body o p x y
