-- Names and what they are bound to, while a store goes on.
use Rattle.std.proofs.Common.{ℕ, ◌≡◌, List, Option, Some, None, IfSome, Ok, Err, refl, sym, subst}
use Rattle.fr_model.specs.Terms.{Term}
use Rattle.fr_store.specs.declared.handle.Handle.{Handle}
use Rattle.fr_store.specs.Store.{View, IsKnown, Keeps, Continues}
use Rattle.fr_store.proofs.StoreLaws.{stands_keeps, IsKnown-keeps}
use Rattle.fr_script.specs.declared.fault.LineFault.TheVariants as f
use Rattle.fr_plain.specs.Scopes.{Scope, bound}
use Rattle.fr_plain.specs.Steps.{Looked}
use Rattle.fr_plain.specs.Expansions.{step}
use Rattle.fr_expr.specs.declared.fault.EvalFault.TheVariants.{Refused}
use Rattle.fr_expr.specs.Names.{Names, above, Matches, AreNames, AreBound}
use Rattle.fr_expr.specs.Evaluation.{Evaluates}
use Rattle.fr_expr.proofs.EvaluationLaws.{one_read, refuses, Reads-none}

abbrev Known : Type 0
Known = ℕ → Option (List ℕ)

-- ---- what was known stays known
matches_keeps : (d : ℕ) (old new : Known) (h : Option Handle) (t : Option Term) → Keeps old new → Matches d old h t → Matches d new h t
matches_keeps d old new (Some h) (Some t) k m = stands_keeps d old new h t k m
matches_keeps d old new (Some h) None k m = m
matches_keeps d old new None (Some t) k m = m
matches_keeps d old new None None k m = m

pub names_keep : (d : ℕ) (old new : Known) (names : Names) (line : ℕ) (scope : Scope) → Keeps old new → AreNames d old names line scope → AreNames d new names line scope
names_keep d old new names line scope k a = record { at = λ name. matches_keeps d old new (above line (names name)) (bound scope name) k (a.at name) }

pub names_carry : {S : Type 0} (view : View S) (old new : S) (names : Names) (line : ℕ) (scope : Scope) → Continues view old new → Keeps (view.known old) (view.known new)
    → AreNames (view.alphabet old) (view.known old) names line scope → AreNames (view.alphabet new) (view.known new) names line scope
names_carry view old new names line scope on keeps a =
    subst (λ (k : ℕ). AreNames k (view.known new) names line scope) (sym on.alphabet) (names_keep (view.alphabet old) (view.known old) (view.known new) names line scope keeps a)

known_keeps : (old new : Known) (h : Option Handle) → Keeps old new → IfSome h (λ h. IsKnown old h) → IfSome h (λ h. IsKnown new h)
known_keeps old new (Some h) k i = IsKnown-keeps old new h k i
known_keeps old new None k i = i

pub bound_keep : (old new : Known) (names : Names) (line : ℕ) → Keeps old new → AreBound old names line → AreBound new names line
bound_keep old new names line k a name = known_keeps old new (above line (names name)) k (a name)

-- ---- a name that is looked up
module _ {S : Type 0} (view : View S) (onward : (s t u : S) → view.kin s t → view.kin t u → view.kin s u) (self : (s : S) → view.kin s s) where
  found : (d : ℕ) (s : S) (x : ℕ) (h : Handle) (t : Option Term) → Matches d (view.known s) (Some h) t → Evaluates view d s s x x (step (Looked t)) (Ok h)
  found d s x h (Some t) m = one_read view onward d (Looked (Some t)) s s x h (Reads-none view self s) m refl
  found d s x h None m = absurd m

  missing : (d : ℕ) (s : S) (x : ℕ) (t : Option Term) → Matches d (view.known s) None t → Evaluates view d s s x x (step (Looked t)) (Err (Refused f.UnknownName))
  missing d s x (Some t) m = absurd m
  missing d s x None m = refuses view onward d (Looked None) s s x f.UnknownName (Reads-none view self s) refl

  pub name_found : (d : ℕ) (s : S) (x : ℕ) (names : Names) (line : ℕ) (scope : Scope) (name : List ℕ) (h : Handle) → AreNames d (view.known s) names line scope → Some h ≡ above line (names name)
      → Evaluates view d s s x x (step (Looked (bound scope name))) (Ok h)
  name_found d s x names line scope name h a e = found d s x h (bound scope name) (subst (λ (o : Option Handle). Matches d (view.known s) o (bound scope name)) (sym e) (a.at name))

  pub name_missing : (d : ℕ) (s : S) (x : ℕ) (names : Names) (line : ℕ) (scope : Scope) (name : List ℕ) → AreNames d (view.known s) names line scope → None ≡ above line (names name)
      → Evaluates view d s s x x (step (Looked (bound scope name))) (Err (Refused f.UnknownName))
  name_missing d s x names line scope name a e = missing d s x (bound scope name) (subst (λ (o : Option Handle). Matches d (view.known s) o (bound scope name)) (sym e) (a.at name))
