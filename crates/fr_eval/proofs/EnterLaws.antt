-- How the elements of the names of a block are entered one after the other.
use Rattle.std.proofs.Common.{ℕ, zero, suc, ◌≡◌, ◌<◌, ◌≤◌, ◌+◌, inl, inr, List, [], ◌∷◌, ◌++◌, length, Option, Ok, Err, refl, sym, ◌∙◌, ap, subst, arith, append_assoc, length-append}
use Rattle.std.proofs.lemmas.Bool.{cases_lt}
use Rattle.std.proofs.lemmas.List.{append-nil}
use Rattle.fr_model.specs.Systems.{System}
use Rattle.fr_model.specs.Terms.{Term, Name}
use Rattle.fr_model.specs.Classes.{IsSize, HasMoreStates}
use Rattle.fr_model.specs.FreeWords.{IsClosurePassed}
use Rattle.fr_block.specs.declared.elements.NameFault.{NameFault}
use Rattle.fr_block.specs.declared.elements.NameFault.TheVariants.{ClosurePassed, StatesPassed, NoMemory}
use Rattle.fr_store.specs.declared.handle.Handle.{Handle}
use Rattle.fr_store.specs.Store.{View, StandsForTerm, Keeps}
use Rattle.fr_store.proofs.StoreLaws.{stands_keeps}
use Rattle.fr_plain.specs.Steps.{Step, Defined, AreStopped}
use Rattle.fr_plain.specs.Expansions.{step}
use Rattle.fr_plain.specs.Outcomes.{name_steps}
use Rattle.fr_expr.specs.declared.fault.EvalFault.{EvalFault}
use Rattle.fr_expr.specs.declared.fault.EvalFault.TheVariants as e
use Rattle.fr_expr.specs.Evaluation.{Makes, StopsEarly, Evaluates}
use Rattle.fr_expr.proofs.EvaluationLaws.{Makes-trans, stopped_behind, stopped_before, refuses, gives_up, Reads-none, Makes-none}
use Rattle.fr_eval.specs.Entering.{of_name, AreHandlesFrom, EntersNames}

-- an element without more states has at most so many
pub most_states : (d : ℕ) (t : Term) (n m : ℕ) → IsSize d t n → ¬ HasMoreStates d t m → n ≤ m
most_states d t n m size few = elim (cases_lt m n) [
  | inl more ↦ absurd (few (record { members = size.members; more = omega (arith, more, size.count); valid = size.valid; apart = size.apart }))
  | inr least ↦ least
]

-- ---- lists of handles
pub handles_keep : (d : ℕ) (old new : ℕ → Option (List ℕ)) (s : System) (k : ℕ) (hs : List Handle) → Keeps old new → AreHandlesFrom d old s k hs → AreHandlesFrom d new s k hs
handles_keep d old new s k [] keeps a = tt
handles_keep d old new s k (h ∷ hs) keeps a = (stands_keeps d old new h (Name s k) keeps a.0, handles_keep d old new s (suc k) hs keeps a.1)

handles_push : (d : ℕ) (known : ℕ → Option (List ℕ)) (s : System) (k n : ℕ) (hs : List Handle) (h : Handle) → n ≡ k + length hs → AreHandlesFrom d known s k hs → StandsForTerm d known h (Name s n)
    → AreHandlesFrom d known s k (hs ++ h ∷ [])
handles_push d known s k n [] h e a here = (subst (λ (j : ℕ). StandsForTerm d known h (Name s j)) (let f : n ≡ k = omega (arith, e) in f) here, tt)
handles_push d known s k n (g ∷ hs) h e a here = (a.0, handles_push d known s (suc k) n hs h (omega (arith, e)) a.1 here)

-- ---- the steps of names
pub length-name_steps : (s : System) (n : ℕ) → length (name_steps s n) ≡ n
length-name_steps s zero = refl
length-name_steps s (suc n) = let l = length-name_steps s n in omega (arith, length-append (name_steps s n) (Defined s n ∷ []), l)

-- the steps of the first names come first
pub first_names : (s : System) (n m : ℕ) → n ≤ m → (rest : List Step) × (name_steps s m ≡ name_steps s n ++ rest)
first_names s n zero h = ([], sym (append-nil (name_steps s n) ∙ ap (name_steps s) (let e : n ≡ 0 = omega (arith, h) in e)))
first_names s n (suc m) h = elim (cases_lt n (suc m)) [
  | inl less ↦
      let first = first_names s n m (omega (arith, less)) in
      (first.0 ++ Defined s m ∷ [], ap (λ (l : List Step). l ++ Defined s m ∷ []) first.1 ∙ append_assoc (name_steps s n) first.0 (Defined s m ∷ []))
  | inr least ↦ ([], sym (append-nil (name_steps s n) ∙ ap (name_steps s) (let e : n ≡ suc m = omega (arith, h, least) in e)))
]

none_before : (s next : Step) (done rest : List Step) → s ∷ [] ≡ done ++ next ∷ rest → length done ≡ 0
none_before s next done rest e = omega (arith, ap length e, length-append done (next ∷ rest))

module _ {S : Type 0} (view : View S) (self : (s : S) → view.kin s s) (onward : (s t u : S) → view.kin s t → view.kin t u → view.kin s u) where
  -- a name without a smallest machine
  pub name_stops : (d : ℕ) (system : System) (name : ℕ) (s : S) (x : ℕ) (fault : NameFault) → (fault ≡ ClosurePassed → IsClosurePassed d system name)
      → (fault ≡ StatesPassed → (¬ IsClosurePassed d system name) × HasMoreStates d (Name system name) 1024) → Evaluates view d s s x x (step (Defined system name)) (Err (of_name fault))
  name_stops d system name s x ClosurePassed c p = refuses view onward d (Defined system name) s s x _ (Reads-none view self s) (inl (c refl, refl))
  name_stops d system name s x StatesPassed c p = refuses view onward d (Defined system name) s s x _ (Reads-none view self s) (inr ((p refl).0, (p refl).1, refl))
  name_stops d system name s x NoMemory c p = gives_up view onward d (step (Defined system name)) s s x (Reads-none view self s)

  -- no name has been entered
  pub none_entered : (d : ℕ) (system : System) (s : S) (x : ℕ) → Makes view d s s x x (name_steps system 0)
  none_entered d system s x = Makes-none view onward d s s x (Reads-none view self s)

  -- one name more
  pub one_more : (d : ℕ) (system : System) (n : ℕ) (old mid new : S) (x y z : ℕ) (h : Handle) → view.alphabet mid ≡ d → Makes view d old mid x y (name_steps system n)
      → Evaluates view (view.alphabet mid) mid new y z (step (Defined system n)) (Ok h) → Makes view d old new x z (name_steps system (suc n))
  one_more d system n old mid new x y z h over makes v =
      Makes-trans view onward d old mid new x y z (name_steps system n) (Defined system n ∷ []) makes
      (subst (λ (k : ℕ). Evaluates view k mid new y z (step (Defined system n)) (Ok h)) over v).makes

  pub handles_more : (d : ℕ) (system : System) (n : ℕ) (mid new : S) (y z : ℕ) (hs : List Handle) (h : Handle) → view.alphabet mid ≡ d → length hs ≡ n → AreHandlesFrom d (view.known mid) system 0 hs
      → Evaluates view (view.alphabet mid) mid new y z (step (Defined system n)) (Ok h) → AreHandlesFrom d (view.known new) system 0 (hs ++ h ∷ [])
  handles_more d system n mid new y z hs h over count a v =
      let w = subst (λ (k : ℕ). Evaluates view k mid new y z (step (Defined system n)) (Ok h)) over v in
      handles_push d (view.known new) system 0 n hs h (omega (arith, count)) (handles_keep d (view.known mid) (view.known new) system 0 hs w.makes.grows.keeps a) w.handle

  -- memory ran out behind some names
  pub names_early : (d : ℕ) (system : System) (n : ℕ) (old new : S) (x y : ℕ) → n ≤ length system → Makes view d old new x y (name_steps system n)
      → StopsEarly view d old new x y (name_steps system (length system))
  names_early d system n old new x y most makes =
      let first = first_names system n (length system) most in
      record { done = name_steps system n; rest = first.0; all = first.1; makes = makes }

  -- the next name stops
  pub next_stops : (d : ℕ) (system : System) (n : ℕ) (old mid new : S) (x y z : ℕ) (hs : List Handle) (fault : EvalFault) → view.alphabet mid ≡ d → n < length system → length hs ≡ n
      → Makes view d old mid x y (name_steps system n) → Evaluates view (view.alphabet mid) mid new y z (step (Defined system n)) (Err fault)
      → EntersNames view d system old new x z hs (Err fault)
  next_stops d system n old mid new x y z hs fault over less count makes v =
      at fault (subst (λ (k : ℕ). Evaluates view k mid new y z (step (Defined system n)) (Err fault)) over v)
    where
      first : (rest : List Step) × (name_steps system (length system) ≡ name_steps system (suc n) ++ rest)
      first = first_names system (suc n) (length system) (omega (arith, less))

      -- where the steps of the next name are part of all
      part : (ss ts : List Step) → Defined system n ∷ [] ≡ ss ++ ts → name_steps system (length system) ≡ (name_steps system n ++ ss) ++ (ts ++ first.0)
      part ss ts e =
          first.1 ∙ ap (λ (l : List Step). (name_steps system n ++ l) ++ first.0) e ∙ ap (λ (l : List Step). l ++ first.0) (sym (append_assoc (name_steps system n) ss ts))
          ∙ append_assoc (name_steps system n ++ ss) ts first.0

      at : (f : EvalFault) → Evaluates view d mid new y z (step (Defined system n)) (Err f) → EntersNames view d system old new x z hs (Err f)
      at (e.Refused f) v = record {
        stops = record {
          done = name_steps system n ++ v.done;
          charge = makes.charge + v.charge;
          stopped = subst (λ (l : List Step). AreStopped d l (name_steps system n ++ v.done) (makes.charge + v.charge) f) (sym first.1)
              (stopped_before d (name_steps system (suc n)) first.0 (name_steps system n ++ v.done) (makes.charge + v.charge) f
              (stopped_behind d (name_steps system n) (Defined system n ∷ []) v.done makes.charge v.charge f makes.evaluated v.stopped));
          makes = Makes-trans view onward d old mid new x y z (name_steps system n) v.done makes v.makes;
        };
        place = omega (arith, count, length-append (name_steps system n) v.done, length-name_steps system n, none_before (Defined system n) v.stopped.next v.done v.stopped.rest v.stopped.all);
      }
      at (e.Full claimed asked) v = record {
        done = name_steps system n ++ v.done;
        next = v.next;
        rest = v.rest ++ first.0;
        all = part v.done (v.next ∷ v.rest) v.all;
        makes = Makes-trans view onward d old mid new x y z (name_steps system n) v.done makes v.makes;
        charged = v.charged;
        unknown = v.unknown;
        passes = v.passes;
        seen = v.seen;
      }
      at e.NoMemory v = record {
        done = name_steps system n ++ v.done;
        rest = v.rest ++ first.0;
        all = part v.done v.rest v.all;
        makes = Makes-trans view onward d old mid new x y z (name_steps system n) v.done makes v.makes;
      }
