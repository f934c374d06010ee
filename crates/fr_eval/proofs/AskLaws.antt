-- Statements that ask of one element.
use Rattle.std.proofs.Common.{ℕ, ◌≡◌, Bool, true, false, nat_lt, if◌then◌else◌, List, [], ◌∷◌, ◌++◌, get_or, refl, sym, ◌∙◌, subst, Option, Some, None, Result, Ok, Err}
use Rattle.std.specs.Prelude.{IfSome}
use Rattle.std.specs.List.{AllByRecursion}
use Rattle.std.proofs.lemmas.List.Elements.{recursion_from_All}
use Rattle.fr_model.specs.Terms.{Term}
use Rattle.fr_syntax.specs.declared.tree.Expr.{Expr}
use Rattle.fr_syntax.specs.declared.statement.Statement.{Statement}
use Rattle.fr_syntax.specs.declared.statement.Statement.TheVariants as st
use Rattle.std.specs.Global.{Vec}
use Rattle.fr_store.specs.declared.handle.Handle.{Handle}
use Rattle.fr_store.specs.Store.{View, IsKnown, StandsForTerm, Stands, Reads, Keeps, Continues}
use Rattle.fr_store.proofs.StoreLaws.{stands_keeps, IsKnown-keeps}
use Rattle.fr_plain.specs.Scopes.{Scope, bound}
use Rattle.fr_plain.specs.Steps.{Step}
use Rattle.fr_plain.specs.Expansions.{expansion, expansions, steps_of_all, values_of_all}
use Rattle.fr_plain.specs.Answers.{Ending, AnswersEq, AnswersNucleus}
use Rattle.fr_plain.specs.Outcomes.{Outcome, IsReplyOn, IsStatement}
use Rattle.fr_plain.specs.Beginnings.{statement_steps, AreFirstBeside, AreFirstMembers}
use Rattle.fr_expr.specs.declared.env.Binding.{Binding}
use Rattle.fr_expr.specs.declared.fault.EvalFault.{EvalFault}
use Rattle.fr_expr.specs.declared.fault.EvalFault.TheVariants.{NoMemory}
use Rattle.fr_expr.specs.Evaluation.{Makes, Evaluates}
use Rattle.fr_expr.specs.Names.{Names, either, above, AreBound, Matches, AreNames}
use Rattle.fr_eval.specs.Bindings.{AreAllKnown}
use Rattle.fr_expr.proofs.EvaluationLaws.{Makes-trans}
use Rattle.fr_eval.specs.Generators.{StandForAll}
use Rattle.fr_eval.specs.Concluding.{Prints, Concludes, Answered, EvaluatesAll}
use Rattle.fr_eval.proofs.ConcludingLaws.{evaluates_halts, prints, gives_up, halted, concluded}
use Rattle.fr_eval.proofs.ListLaws.{halts_before, halts_behind, all_halts}

-- where all that is bound is known, so is what a line sees
either_known : (P : Handle → Type 0) (a b : Option Handle) → IfSome a P → IfSome b P → IfSome (either a b) P
either_known P (Some h) b x y = x
either_known P None b x y = y

above_known : (P : Handle → Type 0) (line : ℕ) (bs : List Binding) → AllByRecursion (λ (b : Binding). P b.handle) bs → IfSome (above line bs) P
above_known P line [] a = tt
above_known P line (b ∷ bs) a = either_known P (above line bs) (if nat_lt b.line line then Some b.handle else None) (above_known P line bs a.1) (here (nat_lt b.line line))
  where
    here : (t : Bool) → IfSome (if t then Some b.handle else None) P
    here true = a.0
    here false = tt

pub bound_above : (known : ℕ → Option (List ℕ)) (names : Names) (line : ℕ) → AreAllKnown known names → AreBound known names line
bound_above known names line a name = above_known (IsKnown known) line (names name) (recursion_from_All (λ (b : Binding). IsKnown known b.handle) (names name) (a name))

module _ {S : Type 0} (view : View S) (onward : (s t u : S) → view.kin s t → view.kin t u → view.kin s u) (d line : ℕ) (scope : Scope) (s : Statement) (e : Expr) (Ends : Term → Ending → Type 0)
    (sound : (o : Outcome) → IsReplyOn line d scope e Ends o → IsStatement line d scope s o) (steps_are : statement_steps scope s ≡ (expansion scope e).steps) where
  -- the expression has no element
  pub one_halts : (now : Statement) (old new : S) (x y : ℕ) (text : List ℕ) (fault : EvalFault) → now ≡ s → Evaluates view d old new x y (expansion scope e) (Err fault) → Answered view d line scope now old new x y text text (Err fault)
  one_halts now old new x y text fault is v =
      let P : Statement → Type 0 = λ q. Answered view d line scope q old new x y text text (Err fault) in
      subst P (sym is) (halted view onward d line scope s (expansion scope e).steps (Ends (expansion scope e).value) sound steps_are old new x y text fault (evaluates_halts view d old new x y (expansion scope e) fault v))

-- a statement that makes no step beside its expression
module _ {S : Type 0} (view : View S) (onward : (s t u : S) → view.kin s t → view.kin t u → view.kin s u) (d line : ℕ) (scope : Scope) (s : Statement) (e : Expr) (Ends : ℕ → Term → Ending → Type 0)
    (sound : (o : Outcome) → IsReplyOn line d scope e (Ends d) o → IsStatement line d scope s o) (steps_are : statement_steps scope s ≡ (expansion scope e).steps)
    (beside_are : (more : List Step) → more ≡ [] → AreFirstBeside d scope s more) where
  pub one_prints : (now : Statement) (old mid new : S) (x y : ℕ) (text text' : List ℕ) (h : Handle) → now ≡ s → view.alphabet mid ≡ d → Evaluates view d old mid x y (expansion scope e) (Ok h) → Reads view mid new
      → ((t : Term) → Stands view mid h t → Prints (Ends (view.alphabet mid) t) text text') → Answered view d line scope now old new x y text text' (Ok tt)
  one_prints now old mid new x y text text' h is over v reads k =
      let P : ℕ → Type 0 = λ (n : ℕ). (t : Term) → StandsForTerm n (view.known mid) h t → Prints (Ends n t) text text' in
      let t = (expansion scope e).value in
      let Q : Statement → Type 0 = λ q. Answered view d line scope q old new x y text text' (Ok tt) in
      subst Q (sym is) (concluded view onward d line scope s (expansion scope e).steps (Ends d t) sound steps_are (λ more. more ≡ []) beside_are old mid new x y y text text' (Ok tt) v.makes
      (prints view onward d (Ends d t) (λ more. more ≡ []) mid new y text text' reads (subst P over k t v.handle)))

  pub one_gives_up : (now : Statement) (old mid new : S) (x y : ℕ) (text text' : List ℕ) (h : Handle) → now ≡ s → Evaluates view d old mid x y (expansion scope e) (Ok h) → Reads view mid new → Answered view d line scope now old new x y text text' (Err NoMemory)
  one_gives_up now old mid new x y text text' h is v reads =
      let t = (expansion scope e).value in
      let Q : Statement → Type 0 = λ q. Answered view d line scope q old new x y text text' (Err NoMemory) in
      subst Q (sym is) (concluded view onward d line scope s (expansion scope e).steps (Ends d t) sound steps_are (λ more. more ≡ []) beside_are old mid new x y y text text' (Err NoMemory) v.makes
      (gives_up view onward d (Ends d t) (λ more. more ≡ []) mid new y text text' reads))

-- a statement that goes on from the element of its expression
module _ {S : Type 0} (view : View S) (onward : (s t u : S) → view.kin s t → view.kin t u → view.kin s u) (d line : ℕ) (scope : Scope) (s : Statement) (e : Expr) (Ends : ℕ → Term → Ending → Type 0) (Beside : ℕ → Term → List Step → Type 0)
    (sound : (o : Outcome) → IsReplyOn line d scope e (Ends d) o → IsStatement line d scope s o) (steps_are : statement_steps scope s ≡ (expansion scope e).steps)
    (beside_are : (more : List Step) → Beside d (expansion scope e).value more → AreFirstBeside d scope s more) where
  pub one_concludes : (now : Statement) (old mid new : S) (x y z : ℕ) (text text' : List ℕ) (h : Handle) (r : Result (Unit {0}) EvalFault) → now ≡ s → view.alphabet mid ≡ d → Evaluates view d old mid x y (expansion scope e) (Ok h)
      → ((t : Term) → Stands view mid h t → Concludes view (view.alphabet mid) (Ends (view.alphabet mid) t) (Beside (view.alphabet mid) t) mid new y z text text' r) → Answered view d line scope now old new x z text text' r
  one_concludes now old mid new x y z text text' h r is over v k =
      let t = (expansion scope e).value in
      let P : Statement → Type 0 = λ q. Answered view d line scope q old new x z text text' r in
      let Q : ℕ → Type 0 = λ (n : ℕ). StandsForTerm n (view.known mid) h t → Concludes view n (Ends n t) (Beside n t) mid new y z text text' r in
      subst P (sym is) (concluded view onward d line scope s (expansion scope e).steps (Ends d t) sound steps_are (Beside d t) beside_are old mid new x y z text text' r v.makes (subst Q over (λ s. k t s) v.handle))

-- what is known stays known, and the names stay those of the scope
pub known_keeps : (old new : ℕ → Option (List ℕ)) (names : Names) → Keeps old new → AreAllKnown old names → AreAllKnown new names
known_keeps old new names keeps a name = λ i z l. IsKnown-keeps old new (get_or (names name) i z).handle keeps (a name i z l)

matches_keep : (d : ℕ) (old new : ℕ → Option (List ℕ)) (h : Option Handle) (t : Option Term) → Keeps old new → Matches d old h t → Matches d new h t
matches_keep d old new (Some h) (Some t) keeps m = stands_keeps d old new h t keeps m
matches_keep d old new None None keeps m = tt
matches_keep d old new (Some h) None keeps m = absurd m
matches_keep d old new None (Some t) keeps m = absurd m

pub names_keep : {S : Type 0} (view : View S) (old new : S) (names : Names) (line : ℕ) (scope : Scope) → Continues view old new → Keeps (view.known old) (view.known new)
    → AreNames (view.alphabet old) (view.known old) names line scope → AreNames (view.alphabet new) (view.known new) names line scope
names_keep view old new names line scope on keeps n =
    let P : ℕ → Type 0 = λ (d : ℕ). AreNames d (view.known new) names line scope in
    subst P (sym on.alphabet) (record { at = λ name. matches_keep (view.alphabet old) (view.known old) (view.known new) (above line (names name)) (bound scope name) keeps (n.at name) })

-- a comparison of two elements
module _ {S : Type 0} (view : View S) (onward : (s t u : S) → view.kin s t → view.kin t u → view.kin s u) (d line : ℕ) (scope : Scope) (left right : Expr) (now : Statement) (is : now ≡ st.Eq left right) where
  pub left_halts : (old new : S) (x y : ℕ) (text : List ℕ) (fault : EvalFault) → Evaluates view d old new x y (expansion scope left) (Err fault) → Answered view d line scope now old new x y text text (Err fault)
  left_halts old new x y text fault v =
      let P : Statement → Type 0 = λ q. Answered view d line scope q old new x y text text (Err fault) in
      subst P (sym is) (halted view onward d line scope (st.Eq left right) ((expansion scope left).steps ++ (expansion scope right).steps) (AnswersEq d (expansion scope left).value (expansion scope right).value) (λ o h. h) refl old new x y text fault
      (halts_before view onward d old new x y (expansion scope left).steps (expansion scope right).steps fault (evaluates_halts view d old new x y (expansion scope left) fault v)))

  pub right_halts : (old mid new : S) (x y z : ℕ) (text : List ℕ) (h : Handle) (fault : EvalFault) → view.alphabet mid ≡ d → Evaluates view d old mid x y (expansion scope left) (Ok h) → Evaluates view (view.alphabet mid) mid new y z (expansion scope right) (Err fault)
      → Answered view d line scope now old new x z text text (Err fault)
  right_halts old mid new x y z text h fault over v w =
      let P : Statement → Type 0 = λ q. Answered view d line scope q old new x z text text (Err fault) in
      let Q : ℕ → Type 0 = λ (n : ℕ). Evaluates view n mid new y z (expansion scope right) (Err fault) in
      subst P (sym is) (halted view onward d line scope (st.Eq left right) ((expansion scope left).steps ++ (expansion scope right).steps) (AnswersEq d (expansion scope left).value (expansion scope right).value) (λ o h. h) refl old new x z text fault
      (halts_behind view onward d old mid new x y z (expansion scope left).steps (expansion scope right).steps fault v.makes (evaluates_halts view d mid new y z (expansion scope right) fault (subst Q over w))))

  module _ (old mid end new : S) (x y z : ℕ) (text text' : List ℕ) (h k : Handle) (over : view.alphabet mid ≡ d) (over_end : view.alphabet end ≡ view.alphabet mid) (v : Evaluates view d old mid x y (expansion scope left) (Ok h))
      (w : Evaluates view (view.alphabet mid) mid end y z (expansion scope right) (Ok k)) (reads : Reads view end new) where
    both : Makes view d old end x z ((expansion scope left).steps ++ (expansion scope right).steps)
    both =
        let Q : ℕ → Type 0 = λ (n : ℕ). Evaluates view n mid end y z (expansion scope right) (Ok k) in
        let w' : Evaluates view d mid end y z (expansion scope right) (Ok k) = subst Q over w in
        Makes-trans view onward d old mid end x y z (expansion scope left).steps (expansion scope right).steps v.makes w'.makes

    pub both_give_up : Answered view d line scope now old new x z text text' (Err NoMemory)
    both_give_up =
        let P : Statement → Type 0 = λ q. Answered view d line scope q old new x z text text' (Err NoMemory) in
        let Ends : Ending → Type 0 = AnswersEq d (expansion scope left).value (expansion scope right).value in
        subst P (sym is) (concluded view onward d line scope (st.Eq left right) ((expansion scope left).steps ++ (expansion scope right).steps) Ends (λ o h. h) refl (λ more. more ≡ []) (λ more e. e) old end new x z z text text' (Err NoMemory) both
        (gives_up view onward d Ends (λ more. more ≡ []) end new z text text' reads))

    pub both_print : Keeps (view.known mid) (view.known end) → ((t u : Term) → Stands view end h t → Stands view end k u → Prints (AnswersEq (view.alphabet end) t u) text text') → Answered view d line scope now old new x z text text' (Ok tt)
    both_print keeps p =
        let P : Statement → Type 0 = λ q. Answered view d line scope q old new x z text text' (Ok tt) in
        let Q : ℕ → Type 0 = λ (n : ℕ). Evaluates view n mid end y z (expansion scope right) (Ok k) in
        let w' : Evaluates view d mid end y z (expansion scope right) (Ok k) = subst Q over w in
        let R : ℕ → Type 0 = λ (n : ℕ). (t u : Term) → StandsForTerm n (view.known end) h t → StandsForTerm n (view.known end) k u → Prints (AnswersEq n t u) text text' in
        let t = (expansion scope left).value in
        let u = (expansion scope right).value in
        let Ends : Ending → Type 0 = AnswersEq d t u in
        let printed = subst R (over_end ∙ over) p t u (stands_keeps d (view.known mid) (view.known end) h t keeps v.handle) w'.handle in
        subst P (sym is) (concluded view onward d line scope (st.Eq left right) ((expansion scope left).steps ++ (expansion scope right).steps) Ends (λ o h. h) refl (λ more. more ≡ []) (λ more e. e) old end new x z z text text' (Ok tt) both
        (prints view onward d Ends (λ more. more ≡ []) end new z text text' reads printed))

-- a nucleus of the elements of expressions
module _ {S : Type 0} (view : View S) (onward : (s t u : S) → view.kin s t → view.kin t u → view.kin s u) (d line : ℕ) (scope : Scope) (es : List Expr) (now : Statement) (is : now ≡ st.NucleusOf es) where
  pub all_halt : (old new : S) (x y : ℕ) (text : List ℕ) (fault : EvalFault) → EvaluatesAll view d old new x y (expansions scope es) (Err fault) → Answered view d line scope now old new x y text text (Err fault)
  all_halt old new x y text fault v =
      let P : Statement → Type 0 = λ q. Answered view d line scope q old new x y text text (Err fault) in
      subst P (sym is) (halted view onward d line scope (st.NucleusOf es) (steps_of_all (expansions scope es)) (AnswersNucleus d (values_of_all (expansions scope es))) (λ o h. h) refl old new x y text fault
      (all_halts view onward d old new x y (expansions scope es) fault v))

  pub all_conclude : (old mid new : S) (x y z : ℕ) (text text' : List ℕ) (hs : Vec Handle) (r : Result (Unit {0}) EvalFault) → view.alphabet mid ≡ d → EvaluatesAll view d old mid x y (expansions scope es) (Ok hs)
      → ((ts : List Term) → StandForAll (view.alphabet mid) (view.known mid) hs.items ts → Concludes view (view.alphabet mid) (AnswersNucleus (view.alphabet mid) ts) (AreFirstMembers (view.alphabet mid) ts) mid new y z text text' r)
      → Answered view d line scope now old new x z text text' r
  all_conclude old mid new x y z text text' hs r over v k =
      let ts = values_of_all (expansions scope es) in
      let P : Statement → Type 0 = λ q. Answered view d line scope q old new x z text text' r in
      let Q : ℕ → Type 0 = λ (n : ℕ). StandForAll n (view.known mid) hs.items ts → Concludes view n (AnswersNucleus n ts) (AreFirstMembers n ts) mid new y z text text' r in
      subst P (sym is) (concluded view onward d line scope (st.NucleusOf es) (steps_of_all (expansions scope es)) (AnswersNucleus d ts) (λ o h. h) refl (AreFirstMembers d ts) (λ more f. f) old mid new x y z text text' r v.1
      (subst Q over (λ s. k ts s) v.0))
