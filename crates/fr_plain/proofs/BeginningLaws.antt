-- First steps are charged at most as much as the whole.
use Rattle.std.proofs.Common.{ℕ, zero, suc, ◌≡◌, ◌≤◌, ◌+◌, inl, inr, List, [], ◌∷◌, ◌++◌, Result, Ok, Err, Option, Some, None, length, refl, sym, ◌∙◌, ap, subst, arith}
use Rattle.std.proofs.lemmas.Bool.{cases_order}
use Rattle.fr_model.specs.Terms.{Term}
use Rattle.fr_script.specs.declared.fault.LineFault.{LineFault}
use Rattle.fr_script.specs.declared.fault.Fault.{Fault}
use Rattle.fr_script.specs.declared.item.Item.{Item}
use Rattle.fr_syntax.specs.declared.statement.Recursion.{Recursion}
use Rattle.fr_syntax.specs.declared.statement.Statement.{Statement}
use Rattle.fr_syntax.specs.declared.statement.Statement.TheVariants as st
use Rattle.fr_plain.specs.Scopes.{Scope}
use Rattle.fr_plain.specs.Blocks.{block_system}
use Rattle.fr_plain.specs.BlockNames.{names_fault}
use Rattle.fr_plain.specs.Steps.{Step, Multiplied, IsCharged, IsRefused, AreEvaluated, AreStopped}
use Rattle.fr_plain.specs.Expansions.{Expansion, expansion, expansions, values_of_all}
use Rattle.fr_plain.specs.Answers.{Ending, power, power_steps, AnswersOrder, AnswersNucleus}
use Rattle.fr_plain.specs.Outcomes.{Outcome, reply, IsReply, stopped, ended, name_steps, DefinesBlock, DefinesGroup, DefinesName, IsStatement}
use Rattle.fr_plain.specs.Plain.{AreOutcomes, charge_of}
use Rattle.fr_plain.specs.Beginnings.{block_steps, statement_steps, AreFirstPowers, AreFirstMembers, AreFirstSteps, within, beside, IsAsk, ReachesCharge}
use Rattle.fr_plain.proofs.StepLaws.{evaluated_once, charge_once, charged_not_refused, evaluated_not_stopped, AreEvaluated-split}
use Rattle.fr_plain.proofs.EndingLaws.{order_least, not_stopped_before, stopped_power}
use Rattle.fr_plain.proofs.MemberLaws.{contracted_once}
use Rattle.fr_plain.proofs.OutcomeLaws.{outcome_once}

-- ---- first steps of a list of steps
head_same : (a b : Step) (ss ts : List Step) → a ∷ ss ≡ b ∷ ts → a ≡ b
head_same a b ss ts e = ap (λ l. elim l [ [] ↦ a | x ∷ xs ↦ x ]) e

tail_same : (a b : Step) (ss ts : List Step) → a ∷ ss ≡ b ∷ ts → ss ≡ ts
tail_same a b ss ts e = ap (λ l. elim l [ [] ↦ ss | x ∷ xs ↦ xs ]) e

first_in_evaluated : (d : ℕ) (steps done rest : List Step) (n m : ℕ) → steps ≡ done ++ rest → AreEvaluated d done n → AreEvaluated d steps m → n ≤ m
first_in_evaluated d steps done rest n m e x y =
    let s = AreEvaluated-split d done rest m (subst (λ (l : List Step). AreEvaluated d l m) e y) in
    omega (arith, evaluated_once d done n s.0 x s.2, s.4)

first_in_stopped : (d n m : ℕ) (f : LineFault) (done rest other : List Step) (next : Step) (more : List Step) → AreEvaluated d done n → AreEvaluated d other m
    → IsRefused d next f → done ++ rest ≡ other ++ next ∷ more → n ≤ m
first_in_stopped d n m f [] rest other next more x y r e = omega (arith, x)
first_in_stopped d n m f (s ∷ done) rest [] next more x y r e =
    absurd (charged_not_refused d s x.0 f x.2 (subst (λ (k : Step). IsRefused d k f) (sym (head_same s next (done ++ rest) more e)) r))
first_in_stopped d n m f (s ∷ done) rest (t ∷ other) next more x y r e =
    let h : s ≡ t = head_same s t (done ++ rest) (other ++ next ∷ more) e in
    omega (
      arith,
      x.4,
      y.4,
      charge_once d s x.0 y.0 x.2 (subst (λ (k : Step). IsCharged d k y.0) (sym h) y.2),
      first_in_stopped d x.1 y.1 f done rest other next more x.3 y.3 r (tail_same s t (done ++ rest) (other ++ next ∷ more) e),
    )

first_before_stop : (d : ℕ) (steps done rest other : List Step) (n m : ℕ) (f : LineFault) → steps ≡ done ++ rest → AreEvaluated d done n → AreStopped d steps other m f → n ≤ m
first_before_stop d steps done rest other n m f e x s = first_in_stopped d n m f done rest other s.next s.rest x s.evaluated s.refused (sym e ∙ s.all)

-- ---- statements that ask
reply_charge : (line : ℕ) (scope : Scope) (steps : List Step) (n : ℕ) (r : Result (List ℕ) LineFault) → (reply line scope steps n r).charge ≡ n
reply_charge line scope steps n (Ok text) = refl
reply_charge line scope steps n (Err fault) = refl

reply_scope : (line : ℕ) (scope : Scope) (steps : List Step) (n : ℕ) (r : Result (List ℕ) LineFault) → (reply line scope steps n r).scope ≡ scope
reply_scope line scope steps n (Ok text) = refl
reply_scope line scope steps n (Err fault) = refl

reply_keeps : (line d : ℕ) (scope : Scope) (steps : List Step) (Ends : Ending → Type 0) (o : Outcome) → IsReply line d scope steps Ends o → o.scope ≡ scope
reply_keeps line d scope steps Ends _ (stopped done n f s) = refl
reply_keeps line d scope steps Ends _ (ended n e x y) = reply_scope line scope _ _ e.answer

reply_within : (line d : ℕ) (scope : Scope) (steps : List Step) (Ends : Ending → Type 0) (o : Outcome) (done rest : List Step) (n : ℕ) → IsReply line d scope steps Ends o
    → steps ≡ done ++ rest → AreEvaluated d done n → n ≤ o.charge
reply_within line d scope steps Ends _ done rest n (stopped other m f s) e x = first_before_stop d steps done rest other n m f e x s
reply_within line d scope steps Ends _ done rest n (ended m ending y z) e x =
    omega (arith, first_in_evaluated d steps done rest n m e x y, reply_charge line scope (steps ++ ending.steps) (m + ending.charge) ending.answer)

-- what is made beside is charged at most as the ending is
abbrev Covers : ℕ → (Ending → Type 0) → List Step → Type 0
Covers d Ends more = (e : Ending) (b : ℕ) → Ends e → AreEvaluated d more b → b ≤ e.charge

reply_beside : (line d : ℕ) (scope : Scope) (steps : List Step) (Ends : Ending → Type 0) (o : Outcome) (more : List Step) (n : ℕ) → IsReply line d scope steps Ends o
    → Covers d Ends more → AreEvaluated d (steps ++ more) n → n ≤ o.charge
reply_beside line d scope steps Ends _ more n (stopped other m f s) c x =
    let z = AreEvaluated-split d steps more n x in
    absurd (evaluated_not_stopped d steps other z.0 m f z.2 s)
reply_beside line d scope steps Ends _ more n (ended m e y w) c x =
    let z = AreEvaluated-split d steps more n x in
    omega (arith, z.4, evaluated_once d steps z.0 m z.2 y, c e z.1 w z.3, reply_charge line scope (steps ++ e.steps) (m + e.charge) e.answer)

nothing_beside : (d : ℕ) (Ends : Ending → Type 0) (more : List Step) → more ≡ [] → Covers d Ends more
nothing_beside d Ends more h e b w x =
    let y : b ≡ 0 = subst (λ (l : List Step). AreEvaluated d l b) h x in
    omega (arith, y)

-- ---- orders
powers_le : (d : ℕ) (t : Term) (k l m n : ℕ) → k ≤ l → AreEvaluated d (power_steps t k) m → AreEvaluated d (power_steps t l) n → m ≤ n
powers_le d t k zero m n h x y =
    let e : 0 ≡ k = omega (arith, h) in
    omega (arith, evaluated_once d (power_steps t k) m n x (subst (λ (j : ℕ). AreEvaluated d (power_steps t j) n) e y))
powers_le d t k (suc l) m n h x y = elim (cases_order k (suc l)) [
  | inl e ↦ omega (arith, evaluated_once d (power_steps t k) m n x (subst (λ (j : ℕ). AreEvaluated d (power_steps t j) n) (sym e) y))
  | inr o ↦
      let s = AreEvaluated-split d (power_steps t l) (Multiplied (power t l) t ∷ []) n y in
      let r = powers_le d t k l m s.0 (elim o [ inl b ↦ omega (arith, b) | inr b ↦ omega (arith, b, h) ]) x s.2 in
      omega (arith, r, s.4)
]

powers_covered : (d : ℕ) (t : Term) (most : ℕ) (more : List Step) → AreFirstPowers d t most more → Covers d (AnswersOrder d t most) more
powers_covered d t most more p _ b (AnswersOrder.found k n less before h y) x =
    powers_le d t p.count k b n (order_least t p.count k p.needed h) (subst (λ (l : List Step). AreEvaluated d l b) p.powers x) y
powers_covered d t most more p _ b (AnswersOrder.none e) x = absurd (omega (arith, p.within, e))
powers_covered d t most more p _ b (AnswersOrder.passed k n e before y) x =
    powers_le d t p.count k b n (omega (arith, e, p.within)) (subst (λ (l : List Step). AreEvaluated d l b) p.powers x) y
powers_covered d t most more p _ b (AnswersOrder.refused k n f h before y r) x = elim (cases_order p.count (suc k)) [
  | inl c ↦ absurd (not_stopped_before d t k p.count b n (power_steps t k) f (omega (arith, c)) (subst (λ (l : List Step). AreEvaluated d l b) p.powers x) (stopped_power d t k n f y r))
  | inr o ↦ elim o [
    | inl c ↦ powers_le d t p.count k b n (omega (arith, c)) (subst (λ (l : List Step). AreEvaluated d l b) p.powers x) y
    | inr c ↦ absurd (not_stopped_before d t k p.count b n (power_steps t k) f (omega (arith, c)) (subst (λ (l : List Step). AreEvaluated d l b) p.powers x) (stopped_power d t k n f y r))
  ]
]

-- ---- members
contracted_evaluated : (d : ℕ) (gens : List Term) (e : Ending) → AnswersNucleus d gens e → AreEvaluated d e.steps e.charge
contracted_evaluated d gens _ (AnswersNucleus.found members automata depth n few a least k x) = x
contracted_evaluated d gens _ (AnswersNucleus.many_sections more) = refl
contracted_evaluated d gens _ (AnswersNucleus.passed few more) = refl

members_covered : (d : ℕ) (gens : List Term) (more : List Step) → AreFirstMembers d gens more → Covers d (AnswersNucleus d gens) more
members_covered d gens more p e b w x =
    omega (
      arith,
      first_in_evaluated d p.ending.steps more p.rest b p.ending.charge p.begins x (contracted_evaluated d gens p.ending p.contracts),
      (contracted_once d gens p.ending e p.contracts w).0,
    )

-- ---- name_steps
block_within : (d : ℕ) (scope : Scope) (recursions : List Recursion) (o : Outcome) (done rest : List Step) (n : ℕ) → DefinesBlock d scope recursions o
    → name_steps (block_system recursions) (length recursions) ≡ done ++ rest → AreEvaluated d done n → n ≤ o.charge
block_within d scope recursions _ done rest n (DefinesBlock.stopped other m f s) e x = first_before_stop d _ done rest other n m f e x s
block_within d scope recursions _ done rest n (DefinesBlock.binds m y) e x = first_in_evaluated d _ done rest n m e x y

empty_first : (d : ℕ) (done rest : List Step) (n : ℕ) → [] ≡ done ++ rest → AreEvaluated d done n → n ≡ 0
empty_first d [] rest n e x = x
empty_first d (s ∷ done) rest n e x = absurd (omega (arith, ap length e))

checked_within : (d : ℕ) (scope : Scope) (recursions : List Recursion) (fault : Option Fault) (o : Outcome) (done rest : List Step) (n : ℕ) → DefinesGroup d scope recursions fault o
    → block_steps recursions fault ≡ done ++ rest → AreEvaluated d done n → n ≤ o.charge
checked_within d scope recursions (Some fault) o done rest n x e y = omega (arith, empty_first d done rest n e y)
checked_within d scope recursions None o done rest n x e y = block_within d scope recursions o done rest n x e y

let_within : (line d : ℕ) (scope : Scope) (name : List ℕ) (e : Expansion) (o : Outcome) (done rest : List Step) (n : ℕ) → DefinesName line d scope name e o
    → e.steps ≡ done ++ rest → AreEvaluated d done n → n ≤ o.charge
let_within line d scope name e _ done rest n (DefinesName.stopped other m f s) h x = first_before_stop d _ done rest other n m f h x s
let_within line d scope name e _ done rest n (DefinesName.binds m y) h x = first_in_evaluated d _ done rest n m h x y

-- ---- statements
statement_within : (line d : ℕ) (scope : Scope) (s : Statement) (o : Outcome) (done rest : List Step) (n : ℕ) → IsStatement line d scope s o
    → statement_steps scope s ≡ done ++ rest → AreEvaluated d done n → n ≤ o.charge
statement_within line d scope (st.Alphabet a) o done rest n x e y = omega (arith, empty_first d done rest n e y)
statement_within line d scope (st.Group recursions) o done rest n x e y = checked_within d scope recursions (names_fault recursions) o done rest n x e y
statement_within line d scope (st.Let name e') o done rest n x e y = let_within line d scope name (expansion scope e') o done rest n x e y
statement_within line d scope (st.Show e') o done rest n x e y = reply_within line d scope _ _ o done rest n x e y
statement_within line d scope (st.States e') o done rest n x e y = reply_within line d scope _ _ o done rest n x e y
statement_within line d scope (st.Wreath e') o done rest n x e y = reply_within line d scope _ _ o done rest n x e y
statement_within line d scope (st.ClassOf e') o done rest n x e y = reply_within line d scope _ _ o done rest n x e y
statement_within line d scope (st.Eq left right) o done rest n x e y = reply_within line d scope _ _ o done rest n x e y
statement_within line d scope (st.Act e' w) o done rest n x e y = reply_within line d scope _ _ o done rest n x e y
statement_within line d scope (st.RayOf e' ray) o done rest n x e y = reply_within line d scope _ _ o done rest n x e y
statement_within line d scope (st.Order e' most) o done rest n x e y = reply_within line d scope _ _ o done rest n x e y
statement_within line d scope (st.NucleusOf es) o done rest n x e y = reply_within line d scope _ _ o done rest n x e y

-- steps and none beside them are first steps
none_more : (d : ℕ) (steps more : List Step) (n : ℕ) → more ≡ [] → AreEvaluated d (steps ++ more) n → AreEvaluated d steps n
none_more d steps more n e x =
    let z = AreEvaluated-split d steps more n x in
    let b : z.1 ≡ 0 = subst (λ (l : List Step). AreEvaluated d l z.1) e z.3 in
    let same : z.0 ≡ n = omega (arith, z.4, b) in
    subst (λ (k : ℕ). AreEvaluated d steps k) same z.2

nil_right : (xs : List Step) → xs ≡ xs ++ []
nil_right [] = refl
nil_right (x ∷ xs) = ap (λ l. x ∷ l) (nil_right xs)

alone : (line d : ℕ) (scope : Scope) (s : Statement) (o : Outcome) (more : List Step) (n : ℕ) → IsStatement line d scope s o → more ≡ []
    → AreEvaluated d (statement_steps scope s ++ more) n → n ≤ o.charge
alone line d scope s o more n x e y =
    statement_within line d scope s o (statement_steps scope s) [] n x (nil_right (statement_steps scope s)) (none_more d (statement_steps scope s) more n e y)

pub first_charge : (line d : ℕ) (scope : Scope) (s : Statement) (o : Outcome) (steps : List Step) (n : ℕ) → IsStatement line d scope s o → AreFirstSteps d scope s steps n → n ≤ o.charge
first_charge line d scope s o _ _ x (within done rest n e y) = statement_within line d scope s o done rest n x e y
first_charge line d scope (st.Alphabet a) o _ _ x (beside more n p y) = alone line d scope (st.Alphabet a) o more n x p y
first_charge line d scope (st.Group recursions) o _ _ x (beside more n p y) = alone line d scope (st.Group recursions) o more n x p y
first_charge line d scope (st.Let name e) o _ _ x (beside more n p y) = alone line d scope (st.Let name e) o more n x p y
first_charge line d scope (st.Show e) o _ _ x (beside more n p y) = alone line d scope (st.Show e) o more n x p y
first_charge line d scope (st.States e) o _ _ x (beside more n p y) = alone line d scope (st.States e) o more n x p y
first_charge line d scope (st.Wreath e) o _ _ x (beside more n p y) = alone line d scope (st.Wreath e) o more n x p y
first_charge line d scope (st.ClassOf e) o _ _ x (beside more n p y) = alone line d scope (st.ClassOf e) o more n x p y
first_charge line d scope (st.Eq left right) o _ _ x (beside more n p y) = alone line d scope (st.Eq left right) o more n x p y
first_charge line d scope (st.Act e w) o _ _ x (beside more n p y) = alone line d scope (st.Act e w) o more n x p y
first_charge line d scope (st.RayOf e ray) o _ _ x (beside more n p y) = alone line d scope (st.RayOf e ray) o more n x p y
first_charge line d scope (st.Order e most) o _ _ x (beside more n p y) =
    reply_beside line d scope _ _ o more n x (powers_covered d (expansion scope e).value most more p) y
first_charge line d scope (st.NucleusOf es) o _ _ x (beside more n p y) =
    reply_beside line d scope _ _ o more n x (members_covered d (values_of_all (expansions scope es)) more p) y

pub ask_keeps : (line d : ℕ) (scope : Scope) (s : Statement) (o : Outcome) → IsAsk s → IsStatement line d scope s o → o.scope ≡ scope
ask_keeps line d scope (st.Alphabet a) o ask x = absurd ask
ask_keeps line d scope (st.Group recursions) o ask x = absurd ask
ask_keeps line d scope (st.Let name e) o ask x = absurd ask
ask_keeps line d scope (st.Show e) o ask x = reply_keeps line d scope _ _ o x
ask_keeps line d scope (st.States e) o ask x = reply_keeps line d scope _ _ o x
ask_keeps line d scope (st.Wreath e) o ask x = reply_keeps line d scope _ _ o x
ask_keeps line d scope (st.ClassOf e) o ask x = reply_keeps line d scope _ _ o x
ask_keeps line d scope (st.Eq left right) o ask x = reply_keeps line d scope _ _ o x
ask_keeps line d scope (st.Act e w) o ask x = reply_keeps line d scope _ _ o x
ask_keeps line d scope (st.RayOf e ray) o ask x = reply_keeps line d scope _ _ o x
ask_keeps line d scope (st.Order e most) o ask x = reply_keeps line d scope _ _ o x
ask_keeps line d scope (st.NucleusOf es) o ask x = reply_keeps line d scope _ _ o x

-- ---- scripts
pub reaches_le : (d : ℕ) (scope : Scope) (items : List Item) (n : ℕ) (os : List Outcome) → ReachesCharge d scope items n → AreOutcomes d scope items os → n ≤ charge_of os
reaches_le d _ _ _ os (ReachesCharge.stops scope items) y = omega arith
reaches_le d _ _ _ [] (ReachesCharge.begins scope line s items steps n f) y = absurd y
reaches_le d _ _ _ (o ∷ os) (ReachesCharge.begins scope line s items steps n f) y =
    omega (arith, first_charge line d scope s o steps n y.0 f)
reaches_le d _ _ _ [] (ReachesCharge.asks scope line s items steps m n ask f rest) y = absurd y
reaches_le d _ _ _ (o ∷ os) (ReachesCharge.asks scope line s items steps m n ask f rest) y =
    let same = ask_keeps line d scope s o ask y.0 in
    omega (
      arith,
      first_charge line d scope s o steps m y.0 f,
      reaches_le d scope items n os rest (subst (λ (c : Scope). AreOutcomes d c items os) same y.1),
    )
reaches_le d _ _ _ [] (ReachesCharge.goes_on scope item items o n x rest) y = absurd y
reaches_le d _ _ _ (p ∷ os) (ReachesCharge.goes_on scope item items o n x rest) y =
    let same = outcome_once d scope item o p x y.0 in
    omega (
      arith,
      same.charge,
      reaches_le d o.scope items n os rest (subst (λ (c : Scope). AreOutcomes d c items os) (sym same.scope) y.1),
    )

-- whole outcomes reach their charge
pub whole_reaches : (d : ℕ) (scope : Scope) (items : List Item) (os : List Outcome) → AreOutcomes d scope items os → ReachesCharge d scope items (charge_of os)
whole_reaches d scope [] os x = subst (λ (l : List Outcome). ReachesCharge d scope [] (charge_of l)) (sym x) (ReachesCharge.stops scope [])
whole_reaches d scope (item ∷ items) [] x = absurd x
whole_reaches d scope (item ∷ items) (o ∷ os) x = ReachesCharge.goes_on scope item items o (charge_of os) x.0 (whole_reaches d o.scope items os x.1)
