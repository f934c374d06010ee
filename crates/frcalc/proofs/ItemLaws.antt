-- Items one after the other, and what they give.
use Rattle.std.proofs.Common.{ℕ, ◌≡◌, Bool, true, ◌<◌, ◌+◌, List, [], ◌∷◌, ◌++◌, length, drop, get_or, Result, Ok, Err, refl, sym, ◌∙◌, ap, subst, arith}
use Rattle.std.proofs.lemmas.List.{drop_more}
use Rattle.fr_syntax.specs.declared.statement.Statement.{Statement}
use Rattle.fr_script.specs.declared.item.Item.{Item}
use Rattle.fr_script.specs.declared.item.Body.{Body}
use Rattle.fr_script.specs.declared.item.Body.TheVariants as b
use Rattle.fr_plain.specs.Scopes.{Scope}
use Rattle.fr_plain.specs.Outcomes.{Outcome, refuse, IsBody}
use Rattle.fr_plain.specs.Beginnings.{statement_steps, AreFirstSteps, within, ReachesCharge}
use Rattle.fr_syntax.specs.declared.statement.Statement.TheVariants as st
use Rattle.fr_script.specs.Keeping.{TellsQuestion}
use Rattle.fr_script.proofs.CycleLaws.{clash}
use Rattle.fr_plain.proofs.BeginningLaws.{ask_keeps}
use Rattle.fr_session.specs.Feeding.{BindsNothing}
use Rattle.frcalc.specs.declared.evaluation.EvaluationFault.{EvaluationFault}
use Rattle.frcalc.specs.declared.evaluation.EvaluationFault.TheVariants as fault

-- ---- one more
pub append_one : {A : Type 0} (xs rest : List A) (x : A) → (xs ++ x ∷ []) ++ rest ≡ xs ++ x ∷ rest
append_one [] rest x = refl
append_one (y ∷ xs) rest x = ap (λ l. y ∷ l) (append_one xs rest x)

-- the one of an iteration
pub here : {A : Type 0} (xs ys : List A) (i : ℕ) (x : A) → xs ≡ ys → i < length xs → x ≡ get_or xs i x → drop i ys ≡ x ∷ drop (i + 1) ys
here xs ys i x same less is = subst (λ l. drop i l ≡ x ∷ drop (i + 1) l) same (drop_more xs i x less ∙ ap (λ k. k ∷ drop (i + 1) xs) (sym is))

-- ---- faults
abbrev pub number_of : EvaluationFault → ℕ
number_of fault.StatesPassed = 0
number_of fault.NoMemory = 1

abbrev fault_of : {T : Type 0} → EvaluationFault → Result T EvaluationFault → EvaluationFault
fault_of d (Ok v) = d
fault_of d (Err e) = e

pub fault_same : {T : Type 0} (x y : EvaluationFault) (r : Result T EvaluationFault) → r ≡ Err x → r ≡ Err y → x ≡ y
fault_same x y r a b = ap (fault_of x) (sym a ∙ b)

-- ---- items that bind nothing
pub item_keeps : (d line : ℕ) (scope : Scope) (body : Body) (o : Outcome) → BindsNothing body → IsBody line d scope body o → o.scope ≡ scope
item_keeps d line scope (b.Says s) o binds is = ask_keeps line d scope s o binds is
item_keeps d line scope (b.Faulty f) o binds is = ap (λ (x : Outcome). x.scope) is

-- what is told to ask binds nothing
pub asks_binds : (body : Body) (answer : Bool) → TellsQuestion body answer → answer ≡ true → BindsNothing body
asks_binds (b.Says (st.Alphabet a)) answer tells told = absurd (clash told tells)
asks_binds (b.Says (st.Group recursions)) answer tells told = absurd (clash told tells)
asks_binds (b.Says (st.Let name e)) answer tells told = absurd (clash told tells)
asks_binds (b.Says (st.Show e)) answer tells told = tt
asks_binds (b.Says (st.States e)) answer tells told = tt
asks_binds (b.Says (st.Wreath e)) answer tells told = tt
asks_binds (b.Says (st.ClassOf e)) answer tells told = tt
asks_binds (b.Says (st.Eq left right)) answer tells told = tt
asks_binds (b.Says (st.Act e w)) answer tells told = tt
asks_binds (b.Says (st.RayOf e ray)) answer tells told = tt
asks_binds (b.Says (st.Order e most)) answer tells told = tt
asks_binds (b.Says (st.NucleusOf es)) answer tells told = tt
asks_binds (b.Faulty f) answer tells told = tt

-- they may be left out of what is charged
pub reaches_past : (d line : ℕ) (scope : Scope) (body : Body) (items : List Item) (n : ℕ) → BindsNothing body → ReachesCharge d scope items n
    → ReachesCharge d scope (record { line = line; body = body } ∷ items) n
reaches_past d line scope (b.Says s) items n binds x =
    let none : AreFirstSteps d scope s [] 0 = within [] (statement_steps scope s) 0 refl refl in
    subst (ReachesCharge d scope (record { line = line; body = b.Says s } ∷ items)) (omega arith) (ReachesCharge.asks scope line s items [] 0 n binds none x)
reaches_past d line scope (b.Faulty f) items n binds x =
    subst (ReachesCharge d scope (record { line = line; body = b.Faulty f } ∷ items)) (omega arith) (ReachesCharge.goes_on scope (record { line = line; body = b.Faulty f }) items (refuse scope [] 0 f) n refl x)

-- some first steps of one count, and what is charged below it
pub reaches_in : (d : ℕ) (scope : Scope) (item : Item) (s : Statement) (items : List Item) (steps : List _) (m n : ℕ) → item.body ≡ b.Says s → BindsNothing item.body → AreFirstSteps d scope s steps m
    → ReachesCharge d scope items n → ReachesCharge d scope (item ∷ items) (m + n)
reaches_in d scope item s items steps m n says binds first x =
    subst (λ (k : Body). ReachesCharge d scope (record { line = item.line; body = k } ∷ items) (m + n)) (sym says)
    (ReachesCharge.asks scope item.line s items steps m n (subst BindsNothing says binds) first x)
