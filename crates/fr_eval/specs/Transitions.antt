-- What an element does at a letter, in terms of a store: it puts a letter out, and goes on as the section at the letter
-- (Nekrashevych, Self-Similar Groups, 1.3).
use Rattle.std.specs.Prelude.{◌≡◌, [], ◌∷◌}
use Rattle.fr_model.specs.Words.{IsLetter}
use Rattle.fr_model.specs.Terms.{Term, Section, act}
use Rattle.fr_store.specs.Store.{View, IsKnown, Stands}
use Rattle.fr_eval.specs.declared.transitions.Transition.{Transition}

-- the element of a handle puts a letter out at this letter, and its section there has the second handle
pub record IsTransition {S : Type 0} (view : View S) (s : S) (r : Transition) : Type 0 where
  pub output : IsLetter (view.alphabet s) r.output
  pub known : IsKnown (view.known s) r.to
  pub image : (t : Term) → Stands view s r.from t → act t (r.input ∷ []) ≡ r.output ∷ []
  pub section : (t : Term) → Stands view s r.from t → Stands view s r.to (Section t (r.input ∷ []))
