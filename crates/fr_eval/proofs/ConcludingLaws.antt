-- How a statement that asks ends: by its expressions, or by what follows them.
use Rattle.std.proofs.Common.{ℕ, ◌≡◌, ◌+◌, ◌⊎◌, inl, inr, List, [], ◌∷◌, ◌++◌, refl, sym, ◌∙◌, subst, arith, append_assoc, Result, Ok, Err}
use Rattle.std.proofs.lemmas.List.{append-nil}
use Rattle.fr_syntax.specs.declared.statement.Statement.{Statement}
use Rattle.fr_script.specs.declared.fault.LineFault.{LineFault}
use Rattle.fr_store.specs.Store.{View, Reads}
use Rattle.fr_plain.specs.Scopes.{Scope}
use Rattle.fr_plain.specs.Steps.{Step, IsCharged, AreEvaluated}
use Rattle.fr_plain.specs.Expansions.{Expansion}
use Rattle.fr_plain.specs.Answers.{Ending, says, fails}
use Rattle.fr_plain.specs.Outcomes.{Outcome, refuse, reply, IsReply, IsStatement}
use Rattle.fr_plain.specs.Beginnings.{statement_steps, AreFirstBeside, AreFirstSteps}
use Rattle.fr_plain.proofs.StepLaws.{AreEvaluated-append}
use Rattle.fr_expr.specs.declared.fault.EvalFault.{EvalFault}
use Rattle.fr_expr.specs.declared.fault.EvalFault.TheVariants.{Refused, Full, NoMemory}
use Rattle.fr_expr.specs.Evaluation.{Makes, StopsAt, StopsFull, StopsEarly, Evaluates}
use Rattle.fr_expr.proofs.EvaluationLaws.{Makes-trans, Makes-none}
use Rattle.fr_eval.specs.Concluding.{Prints, Follows, Concludes, Answered}

-- a step that is evaluated behind others
pub evaluated_more : (d : ℕ) (ss : List Step) (s : Step) (m n : ℕ) → AreEvaluated d ss m → IsCharged d s n → AreEvaluated d (ss ++ s ∷ []) (m + n)
evaluated_more d ss s m n a c = AreEvaluated-append d ss (s ∷ []) m n a (n, 0, c, refl, omega arith)

-- how steps end that are not all made
abbrev pub Halts : {S : Type 0} → View S → ℕ → S → S → ℕ → ℕ → List Step → EvalFault → Type 0
Halts view d old new before after ss (Refused fault) = StopsAt view d old new before after ss fault
Halts view d old new before after ss (Full claimed asked) = StopsFull view d old new before after ss claimed asked
Halts view d old new before after ss NoMemory = StopsEarly view d old new before after ss

pub evaluates_halts : {S : Type 0} (view : View S) (d : ℕ) (old new : S) (x y : ℕ) (e : Expansion) (fault : EvalFault) → Evaluates view d old new x y e (Err fault) → Halts view d old new x y e.steps fault
evaluates_halts view d old new x y e (Refused fault) h = h
evaluates_halts view d old new x y e (Full claimed asked) h = h
evaluates_halts view d old new x y e NoMemory h = h

module _ {S : Type 0} (view : View S) (onward : (s t u : S) → view.kin s t → view.kin t u → view.kin s u) where
  -- a text that is printed while the store is only read
  pub prints : (d : ℕ) (Ends : Ending → Type 0) (Beside : List Step → Type 0) (old new : S) (x : ℕ) (text text' : List ℕ) → Reads view old new → Prints Ends text text' → Concludes view d Ends Beside old new x x text text' (Ok tt)
  prints d Ends Beside old new x text text' reads p =
      (says p.0, record { ends = p.1; first = inl refl; makes = Makes-none view onward d old new x reads; charged = omega arith }, p.0, refl, p.2)

  -- a refusal while the store is only read
  pub refuses : (d : ℕ) (Ends : Ending → Type 0) (Beside : List Step → Type 0) (old new : S) (x : ℕ) (text text' : List ℕ) (fault : LineFault) → Reads view old new → Ends (fails fault) → text' ≡ text
      → Concludes view d Ends Beside old new x x text text' (Err (Refused fault))
  refuses d Ends Beside old new x text text' fault reads ends e =
      (fails fault, record { ends = ends; first = inl refl; makes = Makes-none view onward d old new x reads; charged = omega arith }, refl, e)

  -- want of memory while the store is only read
  pub gives_up : (d : ℕ) (Ends : Ending → Type 0) (Beside : List Step → Type 0) (old new : S) (x : ℕ) (text text' : List ℕ) → Reads view old new → Concludes view d Ends Beside old new x x text text' (Err NoMemory)
  gives_up d Ends Beside old new x text text' reads = record { done = []; first = inl refl; makes = Makes-none view onward d old new x reads }

  module _ (d line : ℕ) (scope : Scope) (st : Statement) (ss : List Step) (Ends : Ending → Type 0)
      (sound : (o : Outcome) → IsReply line d scope ss Ends o → IsStatement line d scope st o) (steps_are : statement_steps scope st ≡ ss) where
    within : (done rest : List Step) (n : ℕ) → ss ≡ done ++ rest → AreEvaluated d done n → AreFirstSteps d scope st done n
    within done rest n e v = AreFirstSteps.within done rest n (steps_are ∙ e) v

    -- the expressions stop
    pub halted : (old new : S) (x y : ℕ) (text : List ℕ) (fault : EvalFault) → Halts view d old new x y ss fault → Answered view d line scope st old new x y text text (Err fault)
    halted old new x y text (Refused fault) h =
        let n = h.makes.charge in
        let o = refuse scope h.done n (record { line = line; kind = fault }) in (
          o,
          record {
            first = within h.done (h.stopped.next ∷ h.stopped.rest) n h.stopped.all h.makes.evaluated;
            is_outcome = sound o (IsReply.stopped h.done n fault (record { next = h.stopped.next; rest = h.stopped.rest; all = h.stopped.all; evaluated = h.makes.evaluated; refused = h.stopped.refused }));
            makes = h.makes;
            charged = h.makes.charged;
          },
          refl,
          refl,
          refl,
        )
    halted old new x y text (Full claimed asked) h = (
      record {
        done = h.done;
        next = h.next;
        charge = h.makes.charge + asked;
        first = within (h.done ++ h.next ∷ []) h.rest (h.makes.charge + asked) (h.all ∙ sym (append_assoc h.done (h.next ∷ []) h.rest)) (evaluated_more d h.done h.next h.makes.charge asked h.makes.evaluated h.charged);
        makes = h.makes;
        next_charged = h.charged;
        charged = omega (arith, h.makes.charged);
        unknown = h.unknown;
        passes = h.passes;
        seen = h.seen;
      },
      refl,
    )
    halted old new x y text NoMemory h = record {
      done = h.done;
      charge = h.makes.charge;
      first = within h.done h.rest h.makes.charge h.all h.makes.evaluated;
      makes = h.makes;
    }

    -- the expressions have elements, and the rest follows
    module _ (Beside : List Step → Type 0) (beside_are : (more : List Step) → Beside more → AreFirstBeside d scope st more) where
      beside : (more : List Step) (m n : ℕ) → Beside more → AreEvaluated d ss m → AreEvaluated d more n → AreFirstSteps d scope st (ss ++ more) (m + n)
      beside more m n b v w =
          let P : List Step → Type 0 = λ (l : List Step). AreFirstSteps d scope st (l ++ more) (m + n) in
          let Q : List Step → Type 0 = λ (l : List Step). AreEvaluated d (l ++ more) (m + n) in
          subst P steps_are (AreFirstSteps.beside more (m + n) (beside_are more b) (subst Q (sym steps_are) (AreEvaluated-append d ss more m n v w)))

      first_of : (more : List Step) (m n : ℕ) → (more ≡ []) ⊎ Beside more → AreEvaluated d ss m → AreEvaluated d more n → AreFirstSteps d scope st (ss ++ more) (m + n)
      first_of more m n (inl none) v w =
          let P : List Step → Type 0 = λ (l : List Step). AreFirstSteps d scope st (ss ++ l) (m + n) in
          let Q : List Step → Type 0 = λ (l : List Step). AreEvaluated d l n in
          let zero : n ≡ 0 = subst Q none w in
          subst P (sym none) (within (ss ++ []) [] (m + n) (sym (append-nil ss) ∙ sym (append-nil (ss ++ []))) (AreEvaluated-append d ss [] m n v zero))
      first_of more m n (inr some) v w = beside more m n some v w

      charge_of_ending : {mid new : S} {y z : ℕ} {e : Ending} → Follows view d Ends Beside mid new y z e → AreEvaluated d e.steps e.charge
      charge_of_ending {mid} {new} {y} {z} {e} f =
          let same : f.makes.charge ≡ e.charge = omega (arith, f.makes.charged, f.charged) in
          subst (λ (n : ℕ). AreEvaluated d e.steps n) same f.makes.evaluated

      pub concluded : (old mid new : S) (x y z : ℕ) (text text' : List ℕ) (r : Result (Unit {0}) EvalFault) → Makes view d old mid x y ss → Concludes view d Ends Beside mid new y z text text' r
          → Answered view d line scope st old new x z text text' r
      concluded old mid new x y z text text' (Ok done) m c =
          let e = c.0 in
          let f = c.1 in
          let t = c.2 in
          let o = reply line scope (ss ++ e.steps) (m.charge + e.charge) (Ok t) in
          let P : Result (List ℕ) LineFault → Type 0 = λ a. IsReply line d scope ss Ends (reply line scope (ss ++ e.steps) (m.charge + e.charge) a) in (
            o,
            record {
              first = first_of e.steps m.charge e.charge f.first m.evaluated (charge_of_ending f);
              is_outcome = sound o (subst P c.3 (IsReply.ended m.charge e m.evaluated f.ends));
              makes = Makes-trans view onward d old mid new x y z ss e.steps m f.makes;
              charged = omega (arith, m.charged, f.charged);
            },
            refl,
            c.4,
          )
      concluded old mid new x y z text text' (Err (Refused fault)) m c =
          let e = c.0 in
          let f = c.1 in
          let o = reply line scope (ss ++ e.steps) (m.charge + e.charge) (Err fault) in
          let P : Result (List ℕ) LineFault → Type 0 = λ a. IsReply line d scope ss Ends (reply line scope (ss ++ e.steps) (m.charge + e.charge) a) in (
            o,
            record {
              first = first_of e.steps m.charge e.charge f.first m.evaluated (charge_of_ending f);
              is_outcome = sound o (subst P c.2 (IsReply.ended m.charge e m.evaluated f.ends));
              makes = Makes-trans view onward d old mid new x y z ss e.steps m f.makes;
              charged = omega (arith, m.charged, f.charged);
            },
            refl,
            refl,
            c.3,
          )
      concluded old mid new x y z text text' (Err (Full claimed asked)) m c =
          let f = c.0 in
          let P : List Step → Type 0 = λ (l : List Step). AreFirstSteps d scope st l (m.charge + (f.makes.charge + asked)) in (
            record {
              done = ss ++ f.done;
              next = f.next;
              charge = m.charge + (f.makes.charge + asked);
              first = subst P (sym (append_assoc ss f.done (f.next ∷ []))) (beside (f.done ++ f.next ∷ []) m.charge (f.makes.charge + asked) f.first m.evaluated (evaluated_more d f.done f.next f.makes.charge asked f.makes.evaluated f.next_charged));
              makes = Makes-trans view onward d old mid new x y z ss f.done m f.makes;
              next_charged = f.next_charged;
              charged = omega (arith, m.charged, f.makes.charged);
              unknown = f.unknown;
              passes = f.passes;
              seen = f.seen;
            },
            c.1,
          )
      concluded old mid new x y z text text' (Err NoMemory) m c = record {
        done = ss ++ c.done;
        charge = m.charge + c.makes.charge;
        first = first_of c.done m.charge c.makes.charge c.first m.evaluated c.makes.evaluated;
        makes = Makes-trans view onward d old mid new x y z ss c.done m c.makes;
      }
