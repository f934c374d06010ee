-- Expressions that are evaluated one after the other.
use Rattle.std.proofs.Common.{ℕ, zero, suc, ◌≡◌, ◌+◌, ◌<◌, ◌≤◌, List, [], ◌∷◌, ◌++◌, length, take, drop, get_or, refl, sym, ◌∙◌, ap, arith, append_assoc, Option, Err}
use Rattle.std.proofs.lemmas.List.{append-nil}
use Rattle.fr_model.specs.Terms.{Term, One}
use Rattle.fr_syntax.specs.declared.tree.Expr.{Expr}
use Rattle.fr_syntax.specs.Fits.{FitsExpr, FitsExprs}
use Rattle.fr_syntax.specs.Sizes.{expr_size, exprs_size}
use Rattle.fr_store.specs.declared.handle.Handle.{Handle}
use Rattle.fr_store.specs.Store.{View, StandsForTerm, Keeps}
use Rattle.fr_store.proofs.StoreLaws.{stands_keeps}
use Rattle.fr_plain.specs.Scopes.{Scope}
use Rattle.fr_plain.specs.Steps.{Step}
use Rattle.fr_plain.specs.Expansions.{Expansion, expansion, expansions, steps_of_all, values_of_all}
use Rattle.fr_expr.specs.declared.fault.EvalFault.{EvalFault}
use Rattle.fr_expr.specs.declared.fault.EvalFault.TheVariants.{Refused, Full, NoMemory}
use Rattle.fr_expr.specs.Evaluation.{Makes, Evaluates}
use Rattle.fr_expr.proofs.EvaluationLaws.{behind, stops}
use Rattle.fr_eval.specs.Generators.{StandForAll}
use Rattle.fr_eval.specs.Concluding.{EvaluatesAll}
use Rattle.fr_eval.proofs.ConcludingLaws.{Halts, evaluates_halts}

pub fits_at : (d : ℕ) (es : List Expr) (i : ℕ) (z : Expr) → i < length es → FitsExprs d es → FitsExpr d (get_or es i z)
fits_at d [] i z l f = absurd (omega arith)
fits_at d (e ∷ es) zero z l f = f.0
fits_at d (e ∷ es) (suc i) z l f = fits_at d es i z (omega arith) f.1

pub steps_split : (scope : Scope) (es : List Expr) (i : ℕ) (z : Expr) → i < length es
    → steps_of_all (expansions scope es) ≡ steps_of_all (expansions scope (take i es)) ++ ((expansion scope (get_or es i z)).steps ++ steps_of_all (expansions scope (drop (suc i) es)))
steps_split scope [] i z l = absurd (omega arith)
steps_split scope (e ∷ es) zero z l = refl
steps_split scope (e ∷ es) (suc i) z l = ap (λ s. (expansion scope e).steps ++ s) (steps_split scope es i z (omega arith)) ∙ sym (append_assoc (expansion scope e).steps (steps_of_all (expansions scope (take i es))) _)

pub steps_more : (scope : Scope) (es : List Expr) (i : ℕ) (z : Expr) → i < length es → steps_of_all (expansions scope (take (suc i) es)) ≡ steps_of_all (expansions scope (take i es)) ++ (expansion scope (get_or es i z)).steps
steps_more scope [] i z l = absurd (omega arith)
steps_more scope (e ∷ es) zero z l = append-nil (expansion scope e).steps
steps_more scope (e ∷ es) (suc i) z l = ap (λ s. (expansion scope e).steps ++ s) (steps_more scope es i z (omega arith)) ∙ sym (append_assoc (expansion scope e).steps (steps_of_all (expansions scope (take i es))) _)

pub StandForAll-more : (d : ℕ) (known : ℕ → Option (List ℕ)) (scope : Scope) (es : List Expr) (i : ℕ) (z : Expr) (hs : List Handle) (h : Handle) → i < length es
    → StandForAll d known hs (values_of_all (expansions scope (take i es))) → StandsForTerm d known h (expansion scope (get_or es i z)).value → StandForAll d known (hs ++ h ∷ []) (values_of_all (expansions scope (take (suc i) es)))
StandForAll-more d known scope [] i z hs h l a s = absurd (omega arith)
StandForAll-more d known scope (e ∷ es) zero z [] h l a s = (s, tt)
StandForAll-more d known scope (e ∷ es) zero z (k ∷ hs) h l a s = absurd a
StandForAll-more d known scope (e ∷ es) (suc i) z [] h l a s = absurd a
StandForAll-more d known scope (e ∷ es) (suc i) z (k ∷ hs) h l a s = (a.0, StandForAll-more d known scope es i z hs h (omega arith) a.1 s)

pub StandForAll-keeps : (d : ℕ) (old new : ℕ → Option (List ℕ)) (hs : List Handle) (ts : List Term) → Keeps old new → StandForAll d old hs ts → StandForAll d new hs ts
StandForAll-keeps d old new [] [] k a = tt
StandForAll-keeps d old new [] (t ∷ ts) k a = absurd a
StandForAll-keeps d old new (h ∷ hs) [] k a = absurd a
StandForAll-keeps d old new (h ∷ hs) (t ∷ ts) k a = (stands_keeps d old new h t k a.0, StandForAll-keeps d old new hs ts k a.1)

pub exprs_size-more : (es : List Expr) (i : ℕ) (z : Expr) → i < length es → exprs_size (take (suc i) es) ≡ exprs_size (take i es) + expr_size (get_or es i z)
exprs_size-more [] i z l = absurd (omega arith)
exprs_size-more (e ∷ es) zero z l = omega arith
exprs_size-more (e ∷ es) (suc i) z l = omega (arith, exprs_size-more es i z (omega arith))

pub exprs_size-le : (es : List Expr) (i : ℕ) → exprs_size (take i es) ≤ exprs_size es
exprs_size-le [] zero = omega arith
exprs_size-le [] (suc i) = omega arith
exprs_size-le (e ∷ es) zero = omega arith
exprs_size-le (e ∷ es) (suc i) = omega (arith, exprs_size-le es i)

pub expr_size-le : (es : List Expr) (i : ℕ) (z : Expr) → i < length es → expr_size (get_or es i z) ≤ exprs_size es
expr_size-le es i z l = omega (arith, exprs_size-more es i z l, exprs_size-le es (suc i))

module _ {S : Type 0} (view : View S) (onward : (s t u : S) → view.kin s t → view.kin t u → view.kin s u) (d : ℕ) where
  halts_evaluates : (old new : S) (x y : ℕ) (ss : List Step) (fault : EvalFault) → Halts view d old new x y ss fault → Evaluates view d old new x y (record { steps = ss; value = One }) (Err fault)
  halts_evaluates old new x y ss (Refused fault) h = h
  halts_evaluates old new x y ss (Full claimed asked) h = h
  halts_evaluates old new x y ss NoMemory h = h

  -- steps stop behind others
  pub halts_behind : (old mid new : S) (x y z : ℕ) (first ss : List Step) (fault : EvalFault) → Makes view d old mid x y first → Halts view d mid new y z ss fault → Halts view d old new x z (first ++ ss) fault
  halts_behind old mid new x y z first ss fault m h =
      evaluates_halts view d old new x z (record { steps = first ++ ss; value = One }) fault
      (behind view onward d first (record { steps = ss; value = One }) old mid new x y z (Err fault) m (halts_evaluates mid new y z ss fault h))

  -- steps stop before others
  pub halts_before : (old new : S) (x y : ℕ) (ss rest : List Step) (fault : EvalFault) → Halts view d old new x y ss fault → Halts view d old new x y (ss ++ rest) fault
  halts_before old new x y ss rest fault h =
      evaluates_halts view d old new x y (record { steps = ss ++ rest; value = One }) fault
      (stops view onward d (record { steps = ss; value = One }) (λ t. record { steps = rest; value = t }) old new x y fault (halts_evaluates old new x y ss fault h))

  pub halts_all : (old new : S) (x y : ℕ) (es : List Expansion) (fault : EvalFault) → Halts view d old new x y (steps_of_all es) fault → EvaluatesAll view d old new x y es (Err fault)
  halts_all old new x y es (Refused fault) h = h
  halts_all old new x y es (Full claimed asked) h = h
  halts_all old new x y es NoMemory h = h

  pub all_halts : (old new : S) (x y : ℕ) (es : List Expansion) (fault : EvalFault) → EvaluatesAll view d old new x y es (Err fault) → Halts view d old new x y (steps_of_all es) fault
  all_halts old new x y es (Refused fault) h = h
  all_halts old new x y es (Full claimed asked) h = h
  all_halts old new x y es NoMemory h = h
