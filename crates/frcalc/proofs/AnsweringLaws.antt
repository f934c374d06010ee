-- The walk over the items of a script that are answered: what holds before each of them, and how the walk ends.
use Rattle.std.proofs.Common.{ℕ, ◌≡◌, ◌<◌, ◌≤◌, ◌+◌, ◌||◌, Bool, true, false, List, [], ◌∷◌, ◌++◌, length, drop, Option, None, Some, Ok, Err, refl, sym, ◌∙◌, ap, subst, arith, append_assoc}
use Rattle.std.proofs.lemmas.List.{append-nil, at_drop_all}
use Rattle.fr_script.specs.declared.item.Item.{Item}
use Rattle.fr_script.specs.declared.script.Script.{Script}
use Rattle.fr_script.specs.Fits.{FitsItem, FitsItems, FitsScript}
use Rattle.fr_store.specs.declared.vec_store.VecStore.{VecStore}
use Rattle.fr_script.specs.declared.fault.Fault.{Fault}
use Rattle.fr_script.specs.declared.item.Body.{Body}
use Rattle.fr_script.specs.declared.item.Body.TheVariants as b
use Rattle.fr_script.specs.FaultTexts.{fault_text}
use Rattle.fr_store.specs.Store.{View, AreHandles, IsHandleCount, Keeps, Continues}
use Rattle.fr_store.specs.VecView.{vec_view}
use Rattle.fr_plain.specs.Scopes.{Scope}
use Rattle.fr_plain.specs.Outcomes.{Outcome, refuse, IsBody, IsOutcome}
use Rattle.fr_plain.specs.Plain.{AreOutcomes, text_of, charge_of, has_fault}
use Rattle.fr_plain.specs.Held.{steps_of}
use Rattle.fr_plain.specs.Beginnings.{ReachesCharge}
use Rattle.fr_expr.specs.Evaluation.{HaveHandles}
use Rattle.fr_expr.proofs.EvaluationLaws.{HaveHandles-keeps, HaveHandles-append}
use Rattle.fr_expr.specs.Names.{Names, AreNames}
use Rattle.fr_expr.proofs.ScopeLaws.{names_keep}
use Rattle.fr_eval.specs.declared.ends.Stop.{Stop}
use Rattle.fr_eval.specs.declared.ends.Stop.TheVariants as s
use Rattle.fr_eval.proofs.DefineLaws.{makes_none}
use Rattle.fr_session.specs.declared.session.Reply.{Reply}
use Rattle.frcalc.specs.declared.evaluation.Evaluation.{Evaluation}
use Rattle.frcalc.specs.declared.evaluation.EvaluationFault.TheVariants as fault
use Rattle.frcalc.specs.declared.feeding.Fed.{Fed}
use Rattle.frcalc.specs.Faults.{of_stop}
use Rattle.frcalc.specs.Evaluations.{IsEvaluation, IsDearer}
use Rattle.frcalc.specs.Items.{Follows, Fills, AnswersItem}
use Rattle.frcalc.specs.Feeding.{charge_at, charge_in, AreFed, KnowsOnly, IsFed, BindsUnlessReplied, Repeats, TellsItem}
use Rattle.fr_session.specs.Held.{KnowsHeld}
use Rattle.fr_session.proofs.HeldLaws.{code_held, handles_held}
use Rattle.frcalc.proofs.ItemLaws.{append_one, number_of, item_keeps, reaches_past, reaches_in}
use Rattle.frcalc.proofs.HeldLaws.{steps_of-push, AreCutAt, cuts_begin, cuts_met, knows_more}

-- ---- one outcome more
text_of-push : (os : List Outcome) (o : Outcome) → text_of (os ++ o ∷ []) ≡ text_of os ++ o.text
text_of-push [] o = append-nil o.text
text_of-push (p ∷ os) o = ap (λ t. p.text ++ t) (text_of-push os o) ∙ sym (append_assoc p.text (text_of os) o.text)

charge_of-push : (os : List Outcome) (o : Outcome) → charge_of (os ++ o ∷ []) ≡ charge_of os + o.charge
charge_of-push [] o = omega arith
charge_of-push (p ∷ os) o = omega (arith, charge_of-push os o)

or_false : (a : Bool) → a || false ≡ a
or_false true = refl
or_false false = refl

or_assoc : (a b c : Bool) → a || (b || c) ≡ (a || b) || c
or_assoc true b c = refl
or_assoc false b c = refl

has_fault-push : (os : List Outcome) (o : Outcome) → has_fault (os ++ o ∷ []) ≡ has_fault os || o.refused
has_fault-push [] o = or_false o.refused
has_fault-push (p ∷ os) o = ap (λ a. p.refused || a) (has_fault-push os o) ∙ or_assoc p.refused (has_fault os) o.refused

-- ---- items that were fed
pub fed_length : (d : ℕ) (known : ℕ → Option (List ℕ)) (names : Names) (scope : Scope) (items : List Item) (rs : List (Option Reply)) → AreFed d known names scope items rs → length items ≡ length rs
fed_length d known names scope [] rs x = sym (ap length x)
fed_length d known names scope (item ∷ items) [] x = absurd x
fed_length d known names scope (item ∷ items) (None ∷ rs) x = omega (arith, fed_length d known names scope items rs x.2)
fed_length d known names scope (item ∷ items) (Some r ∷ rs) x = omega (arith, fed_length d known names x.0.scope items rs x.4)

fed_keep : (d : ℕ) (old new : ℕ → Option (List ℕ)) (names : Names) (scope : Scope) (items : List Item) (rs : List (Option Reply)) → Keeps old new → AreFed d old names scope items rs
    → AreFed d new names scope items rs
fed_keep d old new names scope [] rs k x = x
fed_keep d old new names scope (item ∷ items) [] k x = absurd x
fed_keep d old new names scope (item ∷ items) (None ∷ rs) k x = (x.0, names_keep d old new names item.line scope k x.1, fed_keep d old new names scope items rs k x.2)
fed_keep d old new names scope (item ∷ items) (Some r ∷ rs) k x = (x.0, x.1, x.2, HaveHandles-keeps d old new x.0.steps k x.3, fed_keep d old new names x.0.scope items rs k x.4)

fed_binds : (d : ℕ) (known : ℕ → Option (List ℕ)) (names : Names) (scope : Scope) (item : Item) (items : List Item) (r : Option Reply) (rs : List (Option Reply)) → AreFed d known names scope (item ∷ items) (r ∷ rs)
    → BindsUnlessReplied item.body r
fed_binds d known names scope item items None rs x = x.0
fed_binds d known names scope item items (Some r) rs x = tt

-- what was replied to is charged
fed_reaches : (d : ℕ) (known : ℕ → Option (List ℕ)) (names : Names) (scope : Scope) (items : List Item) (rs : List (Option Reply)) → AreFed d known names scope items rs → ReachesCharge d scope items (charge_in rs)
fed_reaches d known names scope [] rs x = subst (λ (l : List (Option Reply)). ReachesCharge d scope [] (charge_in l)) (sym x) (ReachesCharge.stops scope [])
fed_reaches d known names scope (item ∷ items) [] x = absurd x
fed_reaches d known names scope (item ∷ items) (None ∷ rs) x =
    subst (ReachesCharge d scope (item ∷ items)) (omega arith) (reaches_past d item.line scope item.body items (charge_in rs) x.0 (fed_reaches d known names scope items rs x.2))
fed_reaches d known names scope (item ∷ items) (Some r ∷ rs) x =
    let same : x.0.charge + charge_in rs ≡ r.charge + charge_in rs = omega (arith, x.2.charge_is) in
    subst (ReachesCharge d scope (item ∷ items)) same (ReachesCharge.goes_on scope item items x.0 (charge_in rs) x.1 (fed_reaches d known names x.0.scope items rs x.4))

-- ---- the walk
-- before the item i: what the items above it give, said by what comes behind, and a store that claimed at most what was
-- charged for these items and for the replies to those below
pub record Answering (script : Script) (limit i : ℕ) (store : VecStore) (names : Names) (replies : List (Option Reply)) (text : List ℕ) (refused : Bool) (charge : ℕ) : Type 0 where
  pub low : ℕ
  pub scope : Scope
  pub outcomes : List Outcome
  pub fits : FitsItems script.alphabet low 4096 (drop i script.items)
  pub fed : AreFed script.alphabet (vec_view.known store) names scope (drop i script.items) (drop i replies)
  pub joins : (rest : List Outcome) → AreOutcomes script.alphabet scope (drop i script.items) rest → AreOutcomes script.alphabet [] script.items (outcomes ++ rest)
  pub reaches : (n : ℕ) → ReachesCharge script.alphabet scope (drop i script.items) n → ReachesCharge script.alphabet [] script.items (charge_of outcomes + n)
  pub made : HaveHandles script.alphabet (vec_view.known store) (steps_of outcomes)
  pub cuts : AreCutAt script i scope
  pub only : KnowsOnly script (vec_view.known store)
  pub text_is : text ≡ text_of outcomes
  pub refused_is : refused ≡ has_fault outcomes
  pub charge_is : charge ≡ charge_of outcomes + charge_in (drop i replies)
  pub own : vec_view.own store ≤ charge
  pub within : charge ≤ limit
  pub alphabet : vec_view.alphabet store ≡ script.alphabet
  pub capacity : vec_view.capacity store ≡ limit

pub answering_begins : (script : Script) (limit : ℕ) (store : VecStore) (names : Names) (fed : Fed) (text : List ℕ) → FitsScript script → IsFed script limit store names fed → text ≡ []
    → Answering script limit 0 store names fed.replies.items text false fed.charge
answering_begins script limit store names fed text fits f empty = record {
  low = 0;
  scope = [];
  outcomes = [];
  fits = fits.items;
  fed = f.are_fed;
  joins = λ rest x. x;
  reaches = λ n x. subst (ReachesCharge script.alphabet [] script.items) (omega arith) x;
  made = tt;
  cuts = cuts_begin script;
  only = f.only;
  text_is = empty;
  refused_is = refl;
  charge_is = omega (arith, f.charge_is);
  own = f.own;
  within = f.within;
  alphabet = f.alphabet;
  capacity = f.capacity;
}

module _ {script : Script} {limit i : ℕ} {store : VecStore} {names : Names} {replies : List (Option Reply)} {text : List ℕ} {refused : Bool} {charge : ℕ} (item : Item) (reply : Option Reply)
    (here : drop i script.items ≡ item ∷ drop (i + 1) script.items) (there : drop i replies ≡ reply ∷ drop (i + 1) replies)
    (w : Answering script limit i store names replies text refused charge) where
  item_fits : (w.low < item.line) × FitsItem script.alphabet 4096 item × FitsItems script.alphabet item.line 4096 (drop (i + 1) script.items)
  item_fits = subst (FitsItems script.alphabet w.low 4096) here w.fits

  pub answering_fits : FitsItem (vec_view.alphabet store) 4096 item
  answering_fits = subst (λ (d : ℕ). FitsItem d 4096 item) (sym w.alphabet) item_fits.1

  fed_here : AreFed script.alphabet (vec_view.known store) names w.scope (item ∷ drop (i + 1) script.items) (reply ∷ drop (i + 1) replies)
  fed_here = subst (λ (l : List Item). AreFed script.alphabet (vec_view.known store) names w.scope l (reply ∷ drop (i + 1) replies)) here
      (subst (AreFed script.alphabet (vec_view.known store) names w.scope (drop i script.items)) there w.fed)

  pub answering_binds : BindsUnlessReplied item.body reply
  answering_binds = fed_binds script.alphabet (vec_view.known store) names w.scope item (drop (i + 1) script.items) reply (drop (i + 1) replies) fed_here

  charge_here : charge ≡ charge_of w.outcomes + (charge_at reply + charge_in (drop (i + 1) replies))
  charge_here = w.charge_is ∙ ap (λ (rs : List (Option Reply)). charge_of w.outcomes + charge_in rs) there

  goes_from : (o : Outcome) (n : ℕ) → IsOutcome script.alphabet w.scope item o → ReachesCharge script.alphabet o.scope (drop (i + 1) script.items) n
      → ReachesCharge script.alphabet [] script.items (charge_of w.outcomes + (o.charge + n))
  goes_from o n is x = w.reaches (o.charge + n) (subst (λ (l : List Item). ReachesCharge script.alphabet w.scope l (o.charge + n)) (sym here) (ReachesCharge.goes_on w.scope item (drop (i + 1) script.items) o n is x))

  -- one outcome more
  one_more : {new : VecStore} (text' : List ℕ) (more : Bool) (charge' : ℕ) (o : Outcome) → IsOutcome script.alphabet w.scope item o
      → Keeps (vec_view.known store) (vec_view.known new) → HaveHandles script.alphabet (vec_view.known new) o.steps → KnowsOnly script (vec_view.known new) → AreFed script.alphabet (vec_view.known new) names o.scope (drop (i + 1) script.items) (drop (i + 1) replies) → text' ≡ text ++ o.text → more ≡ o.refused
      → charge' ≡ charge_of w.outcomes + (o.charge + charge_in (drop (i + 1) replies)) → vec_view.own new ≤ charge' → charge' ≤ limit → Continues vec_view store new
      → Answering script limit (i + 1) new names replies text' (refused || more) charge'
  one_more {new} text' more charge' o is keeps have only rest t r c own within on = record {
    low = item.line;
    scope = o.scope;
    outcomes = w.outcomes ++ o ∷ [];
    fits = item_fits.2;
    fed = rest;
    joins = λ below x.
        subst (AreOutcomes script.alphabet [] script.items) (sym (append_one w.outcomes below o))
        (w.joins (o ∷ below) (subst (λ (l : List Item). AreOutcomes script.alphabet w.scope l (o ∷ below)) (sym here) (is, x)));
    reaches = λ n x.
        let same : charge_of w.outcomes + (o.charge + n) ≡ charge_of (w.outcomes ++ o ∷ []) + n = omega (arith, charge_of-push w.outcomes o) in
        subst (ReachesCharge script.alphabet [] script.items) same (goes_from o n is x);
    made = subst (HaveHandles script.alphabet (vec_view.known new)) (sym (steps_of-push w.outcomes o))
        (HaveHandles-append script.alphabet (vec_view.known new) (steps_of w.outcomes) o.steps
        (HaveHandles-keeps script.alphabet (vec_view.known store) (vec_view.known new) (steps_of w.outcomes) keeps w.made) have);
    cuts = cuts_met item here w.cuts o is;
    only = only;
    text_is = t ∙ ap (λ u. u ++ o.text) w.text_is ∙ sym (text_of-push w.outcomes o);
    refused_is = ap (λ a. a || more) w.refused_is ∙ ap (λ a. has_fault w.outcomes || a) r ∙ sym (has_fault-push w.outcomes o);
    charge_is = omega (arith, c, charge_of-push w.outcomes o);
    own = own;
    within = within;
    alphabet = on.alphabet ∙ w.alphabet;
    capacity = on.capacity ∙ w.capacity;
  }

-- ---- an item without a reply
-- a fault of reading is printed, and nothing is made
pub faulty_follows : {S : Type 0} (view : View S) → ((s : S) → view.kin s s) → ((s t u : S) → view.kin s t → view.kin t u → view.kin s u) → (d : ℕ) (scope : Scope) (item : Item) (fault : Fault) (store : S) (charge : ℕ) (text text' : List ℕ)
    → item.body ≡ b.Faulty fault → text' ≡ text ++ fault_text fault → Follows view d scope item store store charge charge text text' true
faulty_follows view self onward d scope item fault store charge text text' is printed = record {
  outcome = refuse scope [] 0 fault;
  is_outcome = subst (λ (k : Body). IsBody item.line d scope k (refuse scope [] 0 fault)) (sym is) refl;
  makes = makes_none view self onward d store charge;
  refused_is = refl;
  text_is = printed;
  charged = omega arith;
}

module _ {script : Script} {limit i : ℕ} {store : VecStore} {names : Names} {replies : List (Option Reply)} {text : List ℕ} {refused : Bool} {charge : ℕ} (item : Item)
    (here : drop i script.items ≡ item ∷ drop (i + 1) script.items) (there : drop i replies ≡ None ∷ drop (i + 1) replies)
    (w : Answering script limit i store names replies text refused charge) where
  answered : {new : VecStore} {text' : List ℕ} {more : Bool} {charge' : ℕ} → AnswersItem vec_view (vec_view.alphabet store) w.scope item store new charge charge' text text' (Ok more)
      → Follows vec_view script.alphabet w.scope item store new charge charge' text text' more
  answered {new} {text'} {more} {charge'} h = subst (λ (d : ℕ). Follows vec_view d w.scope item store new charge charge' text text' more) w.alphabet h

  names_here : AreNames (vec_view.alphabet store) (vec_view.known store) names item.line w.scope
  names_here = subst (λ (d : ℕ). AreNames d (vec_view.known store) names item.line w.scope) (sym w.alphabet) (fed_here item None here there w).1

  answer_goes : {new : VecStore} {text' : List ℕ} {more : Bool} {charge' : ℕ} → AnswersItem vec_view (vec_view.alphabet store) w.scope item store new charge charge' text text' (Ok more)
      → Keeps (vec_view.known store) (vec_view.known new) → Continues vec_view store new → charge' ≤ limit → Answering script limit (i + 1) new names replies text' (refused || more) charge'
  answer_goes {new} {text'} {more} {charge'} h keeps on within =
      let f = answered h in
      let fed = fed_here item None here there w in
      let same = item_keeps script.alphabet item.line w.scope item.body f.outcome fed.0 f.is_outcome in
      let rest = fed_keep script.alphabet (vec_view.known store) (vec_view.known new) names w.scope (drop (i + 1) script.items) (drop (i + 1) replies) keeps fed.2 in
      let only = knows_more item here w.cuts (vec_view.known store) (vec_view.known new) f.outcome f.is_outcome w.only f.makes.grows in
      one_more item None here there w text' more charge' f.outcome f.is_outcome keeps f.makes.handles only
      (subst (λ (c : Scope). AreFed script.alphabet (vec_view.known new) names c (drop (i + 1) script.items) (drop (i + 1) replies)) (sym same) rest)
      f.text_is f.refused_is (omega (arith, f.charged, charge_here item None here there w)) (omega (arith, f.makes.own, w.own)) within on

  answer_passes : {new : VecStore} {text' : List ℕ} {more : Bool} {charge' : ℕ} → AnswersItem vec_view (vec_view.alphabet store) w.scope item store new charge charge' text text' (Ok more) → limit < charge' → IsDearer script limit
  answer_passes h less =
      let f = answered h in
      let fed = fed_here item None here there w in
      let same = item_keeps script.alphabet item.line w.scope item.body f.outcome fed.0 f.is_outcome in
      let below = fed_reaches script.alphabet (vec_view.known store) names w.scope (drop (i + 1) script.items) (drop (i + 1) replies) fed.2 in
      let n = charge_in (drop (i + 1) replies) in
      record {
        charge = charge_of w.outcomes + (f.outcome.charge + n);
        reaches = goes_from item None here there w f.outcome n f.is_outcome (subst (λ (c : Scope). ReachesCharge script.alphabet c (drop (i + 1) script.items) n) (sym same) below);
        passes = omega (arith, less, f.charged, charge_here item None here there w);
      }

  answer_fills : {new : VecStore} {charge' : ℕ} (claimed asked : ℕ) → Fills vec_view script.alphabet w.scope item store new charge charge' claimed asked → Continues vec_view store new → IsDearer script limit
  answer_fills claimed asked h on =
      let v = h.finds in
      let fed = fed_here item None here there w in
      let below = fed_reaches script.alphabet (vec_view.known store) names w.scope (drop (i + 1) script.items) (drop (i + 1) replies) fed.2 in
      let n = charge_in (drop (i + 1) replies) in
      record {
        charge = charge_of w.outcomes + (v.charge + n);
        reaches = w.reaches (v.charge + n)
            (subst (λ (l : List Item). ReachesCharge script.alphabet w.scope l (v.charge + n)) (sym here)
            (reaches_in script.alphabet w.scope item h.statement (drop (i + 1) script.items) (v.done ++ v.next ∷ []) v.charge n h.says fed.0 v.first below));
        passes = omega (arith, v.charged, v.passes, v.seen, v.makes.own, w.own, on.capacity, w.capacity, charge_here item None here there w);
      }

  answer_stops : (new : VecStore) (text' : List ℕ) (charge' : ℕ) (stop : Stop) → AnswersItem vec_view (vec_view.alphabet store) w.scope item store new charge charge' text text' (Err stop) → Continues vec_view store new
      → of_stop stop ≡ fault.StatesPassed → IsDearer script limit
  answer_stops new text' charge' (s.Full claimed asked) h on e =
      answer_fills claimed asked (subst (λ (d : ℕ). Fills vec_view d w.scope item store new charge charge' claimed asked) w.alphabet h) on
  answer_stops new text' charge' s.NoMemory h on e = absurd (omega (arith, ap number_of e))

-- ---- an item with a reply
module _ {script : Script} {limit i : ℕ} {store : VecStore} {names : Names} {replies : List (Option Reply)} {text : List ℕ} {refused : Bool} {charge : ℕ} (item : Item) (r : Reply)
    (here : drop i script.items ≡ item ∷ drop (i + 1) script.items) (there : drop i replies ≡ Some r ∷ drop (i + 1) replies)
    (w : Answering script limit i store names replies text refused charge) where
  repeat_goes : {new : VecStore} {text' : List ℕ} {more : Bool} {charge' : ℕ} → Repeats r store new charge charge' text text' more → Keeps (vec_view.known store) (vec_view.known new) → Continues vec_view store new
      → Answering script limit (i + 1) new names replies text' (refused || more) charge'
  repeat_goes {new} {text'} {more} {charge'} h keeps on =
      let fed = fed_here item (Some r) here there w in
      let o = fed.0 in
      let is = fed.2 in
      let rest = fed_keep script.alphabet (vec_view.known store) (vec_view.known new) names o.scope (drop (i + 1) script.items) (drop (i + 1) replies) keeps fed.4 in
      let have = HaveHandles-keeps script.alphabet (vec_view.known store) (vec_view.known new) o.steps keeps fed.3 in
      let only = subst (λ (s : VecStore). KnowsOnly script (vec_view.known s)) (sym h.store) w.only in
      one_more item (Some r) here there w text' more charge' o fed.1 keeps have only rest (h.text_is ∙ ap (λ u. text ++ u) is.text_is) (h.refused_is ∙ is.refused_is)
      (omega (arith, h.charge, is.charge_is, charge_here item (Some r) here there w)) (omega (arith, ap vec_view.own h.store, h.charge, w.own)) (omega (arith, h.charge, w.within)) on

-- ---- an item of either kind
module _ {script : Script} {limit i : ℕ} {store : VecStore} {names : Names} {replies : List (Option Reply)} {text : List ℕ} {refused : Bool} {charge : ℕ} (item : Item)
    (here : drop i script.items ≡ item ∷ drop (i + 1) script.items) (w : Answering script limit i store names replies text refused charge) where
  pub answering_goes : (new : VecStore) (text' : List ℕ) (more : Bool) (charge' : ℕ) (reply : Option Reply) → drop i replies ≡ reply ∷ drop (i + 1) replies
      → TellsItem vec_view item names reply store new charge charge' text text' (Ok more) → Keeps (vec_view.known store) (vec_view.known new) → Continues vec_view store new → charge' ≤ limit
      → Answering script limit (i + 1) new names replies text' (refused || more) charge'
  answering_goes new text' more charge' None there h keeps on within = answer_goes item here there w (h w.scope (names_here item here there w)) keeps on within
  answering_goes new text' more charge' (Some r) there h keeps on within = repeat_goes item r here there w h keeps on

  pub answering_passes : (new : VecStore) (text' : List ℕ) (more : Bool) (charge' : ℕ) (reply : Option Reply) → drop i replies ≡ reply ∷ drop (i + 1) replies
      → TellsItem vec_view item names reply store new charge charge' text text' (Ok more) → limit < charge' → IsDearer script limit
  answering_passes new text' more charge' None there h less = answer_passes item here there w (h w.scope (names_here item here there w)) less
  answering_passes new text' more charge' (Some r) there h less = absurd (omega (arith, less, h.charge, w.within))

  pub answering_stops : (new : VecStore) (text' : List ℕ) (charge' : ℕ) (reply : Option Reply) (stop : Stop) → drop i replies ≡ reply ∷ drop (i + 1) replies
      → TellsItem vec_view item names reply store new charge charge' text text' (Err stop) → Continues vec_view store new → of_stop stop ≡ fault.StatesPassed → IsDearer script limit
  answering_stops new text' charge' None stop there h on e = answer_stops item here there w new text' charge' stop (h w.scope (names_here item here there w)) on e
  answering_stops new text' charge' (Some r) stop there h on e = absurd (omega (arith, ap number_of (sym (ap of_stop h) ∙ e)))

-- behind the last item
pub answering_ends : {script : Script} {limit i : ℕ} {store : VecStore} {names : Names} {replies : List (Option Reply)} {text : List ℕ} {refused : Bool} {charge : ℕ} (e : Evaluation)
    → Answering script limit i store names replies text refused charge → length script.items ≤ i → e.text.items ≡ text → e.refused ≡ refused → e.charge ≡ charge
    → AreHandles (vec_view.alphabet store) (vec_view.known store) → IsHandleCount (vec_view.known store) e.census → IsEvaluation script limit e
answering_ends {script} {limit} {i} {store} {names} {replies} e w le t r c handles count =
    let none = at_drop_all (λ l. l) script.items i le in
    let all : AreOutcomes script.alphabet [] script.items w.outcomes =
    subst (AreOutcomes script.alphabet [] script.items) (append-nil w.outcomes) (w.joins [] (subst (λ (l : List Item). AreOutcomes script.alphabet w.scope l []) (sym none) refl)) in
    let below = subst (λ (l : List Item). AreFed script.alphabet (vec_view.known store) names w.scope l (drop i replies)) none w.fed in
    let charged = w.charge_is ∙ ap (λ (rs : List (Option Reply)). charge_of w.outcomes + charge_in rs) below in
    let own = subst (λ (d : ℕ). AreHandles d (vec_view.known store)) w.alphabet handles in
    let known : KnowsHeld script.alphabet (vec_view.known store) (steps_of w.outcomes) = record {
      handles = w.made;
      only = λ h t s. code_held script.alphabet (vec_view.known store) (steps_of w.outcomes) t s.code w.made s.term s.is_code (w.only w.outcomes all h.node s.code s.at);
    } in
    record {
      outcomes = w.outcomes;
      evaluates = all;
      text_is = t ∙ w.text_is;
      refused_is = r ∙ w.refused_is;
      charge_is = omega (arith, c, charged);
      within = omega (arith, w.within, w.charge_is);
      holds = handles_held script.alphabet (vec_view.known store) own (steps_of w.outcomes) e.census known count;
    }
