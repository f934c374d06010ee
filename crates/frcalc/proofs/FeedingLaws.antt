-- The walk over the items of a script that are fed: what holds before each of them, and how the walk ends.
use Rattle.std.proofs.Common.{ℕ, suc, ◌≡◌, ◌<◌, ◌≤◌, ◌+◌, if◌then◌else◌, nat_lt, List, [], ◌∷◌, ◌++◌, length, drop, Option, None, Some, Ok, Err, refl, sym, ◌∙◌, ap, subst, arith}
use Rattle.std.proofs.lemmas.Bool.{lt-ltb}
use Rattle.std.proofs.lemmas.List.{append-nil, at_drop_all}
use Rattle.std.proofs.lemmas.List.Elements.{All-nil}
use Rattle.std.specs.List.{All}
use Rattle.fr_script.specs.declared.item.Item.{Item}
use Rattle.fr_script.specs.declared.item.Body.{Body}
use Rattle.fr_script.specs.declared.item.Body.TheVariants as b
use Rattle.fr_script.specs.declared.script.Script.{Script}
use Rattle.fr_script.specs.Fits.{FitsItem, FitsItems, FitsScript}
use Rattle.fr_store.specs.declared.handle.Handle.{Handle}
use Rattle.fr_store.specs.declared.vec_store.VecStore.{VecStore}
use Rattle.fr_store.specs.Store.{Keeps, Continues}
use Rattle.fr_store.specs.VecView.{vec_view}
use Rattle.fr_store.proofs.StoreLaws.{Keeps-refl, Keeps-trans}
use Rattle.fr_plain.specs.Scopes.{Scope, bound}
use Rattle.fr_plain.specs.Outcomes.{Outcome, IsOutcome}
use Rattle.fr_plain.specs.Beginnings.{ReachesCharge}
use Rattle.fr_expr.specs.declared.env.Binding.{Binding}
use Rattle.fr_expr.proofs.EvaluationLaws.{HaveHandles-keeps}
use Rattle.fr_expr.specs.Names.{Names, either, above, Matches, AreNames}
use Rattle.fr_eval.specs.Bindings.{AreAbove, AddsAt}
use Rattle.fr_session.specs.declared.session.Reply.{Reply}
use Rattle.fr_session.specs.declared.fault.SessionFault.{SessionFault}
use Rattle.fr_session.specs.declared.fault.SessionFault.TheVariants as session
use Rattle.fr_session.specs.Feeding.{FitsFed, BindsNothing, Replies, FindsNoRoom}
use Rattle.fr_session.proofs.FeedLaws.{fits_said}
use Rattle.fr_session.proofs.NameLaws.{above_later, above_added, AddsFrom, adds_nothing, adds_there, adds_below, adds_both, names_grow}
use Rattle.frcalc.specs.declared.evaluation.EvaluationFault.TheVariants as fault
use Rattle.frcalc.specs.declared.feeding.Fed.{Fed}
use Rattle.frcalc.specs.Faults.{of_session}
use Rattle.frcalc.specs.Evaluations.{IsDearer}
use Rattle.frcalc.specs.Feeding.{IsReplyOf, charge_at, charge_in, AreFed, KnowsOnly, IsFed, FeedsItem}
use Rattle.frcalc.proofs.ItemLaws.{append_one, number_of, item_keeps, reaches_past}
use Rattle.frcalc.proofs.HeldLaws.{AreCutAt, cuts_begin, cuts_past, cuts_met, knows_nothing, knows_more}

charge_in-push : (rs : List (Option Reply)) (r : Option Reply) → charge_in (rs ++ r ∷ []) ≡ charge_in rs + charge_at r
charge_in-push [] r = omega arith
charge_in-push (s ∷ rs) r = omega (arith, charge_in-push rs r)

-- ---- names
-- a lower line sees no more of bindings above a line
above-later : (line later : ℕ) (bs : List Binding) → line ≤ later → All (λ b. b.line < line) bs → above later bs ≡ above line bs
above-later line later [] le h = refl
above-later line later (b ∷ bs) le h =
    let here : b.line < line = h 0 b (omega arith) in
    ap (λ a. either a (if nat_lt b.line later then Some b.handle else None)) (above-later line later bs le (λ k d less. h (suc k) d (omega (arith, less))))
    ∙ ap (λ t. either (above line bs) (if t then Some b.handle else None)) (lt-ltb b.line later (omega (arith, here, le)) ∙ sym (lt-ltb b.line line here))

names_later : (d line later : ℕ) (known : ℕ → Option (List ℕ)) (names : Names) (scope : Scope) → line ≤ later → AreAbove line names → AreNames d known names line scope → AreNames d known names later scope
names_later d line later known names scope le a h = record {
  at = λ q. subst (λ (x : Option Handle). Matches d known x (bound scope q)) (sym (above-later line later (names q) le (a q))) (h.at q);
}

-- ---- the walk
-- before the item i: what was replied to the items above it, said by what comes behind, and a store that claimed at most
-- what was charged
pub record Feeding (script : Script) (limit i : ℕ) (store : VecStore) (names : Names) (replies : List (Option Reply)) (charge : ℕ) : Type 0 where
  pub low : ℕ
  pub scope : Scope
  pub fits : FitsItems script.alphabet low 4096 (drop i script.items)
  pub joins : (known : ℕ → Option (List ℕ)) (later : Names) (rest : List (Option Reply)) → Keeps (vec_view.known store) known → AddsFrom (suc low) names later
      → AreFed script.alphabet known later scope (drop i script.items) rest → AreFed script.alphabet known later [] script.items (replies ++ rest)
  pub reaches : (n : ℕ) → ReachesCharge script.alphabet scope (drop i script.items) n → ReachesCharge script.alphabet [] script.items (charge + n)
  pub cuts : AreCutAt script i scope
  pub only : KnowsOnly script (vec_view.known store)
  pub charge_is : charge ≡ charge_in replies
  pub above : AreAbove (suc low) names
  pub names_are : AreNames script.alphabet (vec_view.known store) names (suc low) scope
  pub own : vec_view.own store ≤ charge
  pub within : charge ≤ limit
  pub alphabet : vec_view.alphabet store ≡ script.alphabet
  pub capacity : vec_view.capacity store ≡ limit

pub feeding_begins : (script : Script) (limit : ℕ) (store : VecStore) (names : Names) (replies : List (Option Reply)) → FitsScript script → vec_view.alphabet store ≡ script.alphabet
    → vec_view.capacity store ≡ limit → vec_view.own store ≡ 0 → ((n : ℕ) → vec_view.known store n ≡ None) → ((q : List ℕ) → names q ≡ []) → replies ≡ [] → Feeding script limit 0 store names replies 0
feeding_begins script limit store names replies fits a k own unknown none empty = record {
  low = 0;
  scope = [];
  fits = fits.items;
  joins = λ known later rest keeps adds x. subst (λ (rs : List (Option Reply)). AreFed script.alphabet known later [] script.items (rs ++ rest)) (sym empty) x;
  reaches = λ n x. subst (ReachesCharge script.alphabet [] script.items) (omega arith) x;
  cuts = cuts_begin script;
  only = knows_nothing script (vec_view.known store) unknown;
  charge_is = sym (ap charge_in empty);
  above = λ q. subst (All (λ (b : Binding). b.line < 1)) (sym (none q)) (All-nil (λ (b : Binding). b.line < 1));
  names_are = record { at = λ q. subst (λ (bs : List Binding). Matches script.alphabet (vec_view.known store) (above 1 bs) None) (sym (none q)) tt };
  own = omega (arith, own);
  within = omega arith;
  alphabet = a;
  capacity = k;
}

module _ {script : Script} {limit i : ℕ} {store : VecStore} {names : Names} {replies : List (Option Reply)} {charge : ℕ} (item : Item)
    (here : drop i script.items ≡ item ∷ drop (i + 1) script.items) (w : Feeding script limit i store names replies charge) where
  item_fits : (w.low < item.line) × FitsItem script.alphabet 4096 item × FitsItems script.alphabet item.line 4096 (drop (i + 1) script.items)
  item_fits = subst (FitsItems script.alphabet w.low 4096) here w.fits

  pub feeding_line : 1 ≤ item.line
  feeding_line = omega (arith, item_fits.0)

  pub feeding_fits : FitsFed (vec_view.alphabet store) item
  feeding_fits = subst (λ (d : ℕ). FitsFed d item) (sym w.alphabet) (fits_said script.alphabet item.line item.body item_fits.1.1)

  pub feeding_above : AreAbove item.line names
  feeding_above = above_later (suc w.low) item.line names (omega (arith, item_fits.0)) w.above

  names_here : AreNames script.alphabet (vec_view.known store) names item.line w.scope
  names_here = names_later script.alphabet (suc w.low) item.line (vec_view.known store) names w.scope (omega (arith, item_fits.0)) w.above w.names_are

  pub feeding_names : AreNames (vec_view.alphabet store) (vec_view.known store) names item.line w.scope
  feeding_names = subst (λ (d : ℕ). AreNames d (vec_view.known store) names item.line w.scope) (sym w.alphabet) names_here

  goes_from : (o : Outcome) (n : ℕ) → IsOutcome script.alphabet w.scope item o → ReachesCharge script.alphabet o.scope (drop (i + 1) script.items) n
      → ReachesCharge script.alphabet [] script.items (charge + (o.charge + n))
  goes_from o n is x = w.reaches (o.charge + n) (subst (λ (l : List Item). ReachesCharge script.alphabet w.scope l (o.charge + n)) (sym here) (ReachesCharge.goes_on w.scope item (drop (i + 1) script.items) o n is x))

  -- an item that binds nothing is left out
  left_out : (names' : Names) → BindsNothing item.body → AreNames script.alphabet (vec_view.known store) names' (suc item.line) w.scope → AddsAt item.line names names'
      → Feeding script limit (i + 1) store names' (replies ++ None ∷ []) charge
  left_out names' ask below adds = record {
    low = item.line;
    scope = w.scope;
    fits = item_fits.2;
    joins = λ known later rest keeps more x.
        let added = adds_both item.line names names' later (adds_there item.line names names' adds) (adds_below item.line (suc item.line) names' later (omega arith) more) in
        let seen = names_grow script.alphabet item.line (vec_view.known store) known names later w.scope keeps added names_here in
        subst (AreFed script.alphabet known later [] script.items) (sym (append_one replies rest None))
        (w.joins known later (None ∷ rest) keeps (adds_below (suc w.low) item.line names later (omega (arith, item_fits.0)) added)
        (subst (λ (l : List Item). AreFed script.alphabet known later w.scope l (None ∷ rest)) (sym here) (ask, seen, x)));
    reaches = λ n x. w.reaches n (subst (λ (l : List Item). ReachesCharge script.alphabet w.scope l n) (sym here) (reaches_past script.alphabet item.line w.scope item.body (drop (i + 1) script.items) n ask x));
    cuts = cuts_past item here w.cuts w.scope (λ o is. item_keeps script.alphabet item.line w.scope item.body o ask is);
    only = w.only;
    charge_is = omega (arith, charge_in-push replies None, w.charge_is);
    above = above_added item.line names names' feeding_above adds;
    names_are = below;
    own = w.own;
    within = w.within;
    alphabet = w.alphabet;
    capacity = w.capacity;
  }

  -- another one has a reply
  replied : {new : VecStore} {names' : Names} (r : Reply) → Replies vec_view script.alphabet w.scope item store new names' r → AddsAt item.line names names' → Keeps (vec_view.known store) (vec_view.known new)
      → Continues vec_view store new → charge + r.charge ≤ limit → Feeding script limit (i + 1) new names' (replies ++ Some r ∷ []) (charge + r.charge)
  replied {new} {names'} r h adds keeps on within = record {
    low = item.line;
    scope = h.outcome.scope;
    fits = item_fits.2;
    joins = λ known later rest k more x.
        let added = adds_both item.line names names' later (adds_there item.line names names' adds) (adds_below item.line (suc item.line) names' later (omega arith) more) in
        let is_reply : IsReplyOf h.outcome r = record { text_is = h.text_is; charge_is = h.charge_is; refused_is = h.refused_is } in
        subst (AreFed script.alphabet known later [] script.items) (sym (append_one replies rest (Some r)))
        (w.joins known later (Some r ∷ rest) (Keeps-trans (vec_view.known store) (vec_view.known new) known keeps k) (adds_below (suc w.low) item.line names later (omega (arith, item_fits.0)) added)
        (subst (λ (l : List Item). AreFed script.alphabet known later w.scope l (Some r ∷ rest)) (sym here)
        (h.outcome, h.is_outcome, is_reply, HaveHandles-keeps script.alphabet (vec_view.known new) known h.outcome.steps k h.makes.handles, x)));
    reaches = λ n x.
        let same : charge + (h.outcome.charge + n) ≡ charge + r.charge + n = omega (arith, h.charge_is) in
        subst (ReachesCharge script.alphabet [] script.items) same (goes_from h.outcome n h.is_outcome x);
    cuts = cuts_met item here w.cuts h.outcome h.is_outcome;
    only = knows_more item here w.cuts (vec_view.known store) (vec_view.known new) h.outcome h.is_outcome w.only h.makes.grows;
    charge_is = omega (arith, charge_in-push replies (Some r), w.charge_is);
    above = above_added item.line names names' feeding_above adds;
    names_are = h.names_are;
    own = omega (arith, h.makes.own, w.own);
    within = within;
    alphabet = on.alphabet ∙ w.alphabet;
    capacity = on.capacity ∙ w.capacity;
  }

  -- an item was fed, or left out
  pub feeding_goes : (new : VecStore) (names' : Names) (reply : Option Reply) → FeedsItem vec_view (vec_view.alphabet store) w.scope item store new names' (Ok reply) → AddsAt item.line names names'
      → Keeps (vec_view.known store) (vec_view.known new) → Continues vec_view store new → charge + charge_at reply ≤ limit
      → Feeding script limit (i + 1) new names' (replies ++ reply ∷ []) (charge + charge_at reply)
  feeding_goes new names' None h adds keeps on within =
      let below = subst (λ (d : ℕ). AreNames d (vec_view.known new) names' (suc item.line) w.scope) w.alphabet h.2 in
      let same : charge ≡ charge + 0 = omega arith in
      subst (λ (n : ℕ). Feeding script limit (i + 1) new names' (replies ++ None ∷ []) n) same
      (subst (λ (s : VecStore). Feeding script limit (i + 1) s names' (replies ++ None ∷ []) charge) (sym h.1)
      (left_out names' h.0 (subst (λ (s : VecStore). AreNames script.alphabet (vec_view.known s) names' (suc item.line) w.scope) h.1 below) adds))
  feeding_goes new names' (Some r) h adds keeps on within =
      replied r (subst (λ (d : ℕ). Replies vec_view d w.scope item store new names' r) w.alphabet h) adds keeps on within

  -- the charge passed the limit
  pub feeding_passes : (new : VecStore) (names' : Names) (reply : Option Reply) → FeedsItem vec_view (vec_view.alphabet store) w.scope item store new names' (Ok reply) → limit < charge + charge_at reply → IsDearer script limit
  feeding_passes new names' None h less = absurd (omega (arith, less, w.within))
  feeding_passes new names' (Some r) h less =
      let v = subst (λ (d : ℕ). Replies vec_view d w.scope item store new names' r) w.alphabet h in
      record {
        charge = charge + (v.outcome.charge + 0);
        reaches = goes_from v.outcome 0 v.is_outcome (ReachesCharge.stops v.outcome.scope (drop (i + 1) script.items));
        passes = omega (arith, less, v.charge_is);
      }

  -- the store was full
  found_full : {new : VecStore} (claimed asked : ℕ) → FindsNoRoom vec_view script.alphabet w.scope item store new claimed asked → Continues vec_view store new → IsDearer script limit
  found_full {new} claimed asked h on =
      let v = h.finds in
      let says : drop i script.items ≡ record { line = item.line; body = b.Says h.statement } ∷ drop (i + 1) script.items =
      here ∙ ap (λ (k : Body). record { line = item.line; body = k } ∷ drop (i + 1) script.items) h.says in
      record {
        charge = charge + v.charge;
        reaches = w.reaches v.charge
            (subst (λ (l : List Item). ReachesCharge script.alphabet w.scope l v.charge) (sym says)
            (ReachesCharge.begins w.scope item.line h.statement (drop (i + 1) script.items) (v.done ++ v.next ∷ []) v.charge v.first));
        passes = omega (arith, v.charged, v.passes, v.seen, v.makes.own, w.own, on.capacity, w.capacity);
      }

  -- it stopped, and not for want of memory
  pub feeding_stops : (new : VecStore) (names' : Names) (f : SessionFault) → FeedsItem vec_view (vec_view.alphabet store) w.scope item store new names' (Err f) → Continues vec_view store new
      → of_session f ≡ fault.StatesPassed → IsDearer script limit
  feeding_stops new names' (session.Full claimed asked) h on e =
      found_full claimed asked (subst (λ (d : ℕ). FindsNoRoom vec_view d w.scope item store new claimed asked) w.alphabet h) on
  feeding_stops new names' session.NoMemory h on e = absurd (omega (arith, ap number_of e))

-- the same of equal lists and numbers
pub feeding_next : {script : Script} {limit i : ℕ} {store : VecStore} {names : Names} {replies : List (Option Reply)} {charge : ℕ} (replies' : List (Option Reply)) (charge' : ℕ)
    → Feeding script limit i store names replies charge → replies' ≡ replies → charge' ≡ charge → Feeding script limit i store names replies' charge'
feeding_next {script} {limit} {i} {store} {names} {replies} {charge} replies' charge' w r c =
    subst (λ (n : ℕ). Feeding script limit i store names replies' n) (sym c) (subst (λ (rs : List (Option Reply)). Feeding script limit i store names rs charge) (sym r) w)

-- behind the last item
pub feeding_ends : {script : Script} {limit i : ℕ} {store : VecStore} {names : Names} {replies : List (Option Reply)} {charge : ℕ} (fed : Fed) → Feeding script limit i store names replies charge
    → length script.items ≤ i → fed.replies.items ≡ replies → fed.charge ≡ charge → IsFed script limit store names fed
feeding_ends {script} {limit} {i} {store} {names} {replies} {charge} fed w le r c = record {
  are_fed = subst (AreFed script.alphabet (vec_view.known store) names [] script.items) (append-nil replies ∙ sym r)
      (w.joins (vec_view.known store) names [] (Keeps-refl (vec_view.known store)) (adds_nothing (suc w.low) names)
      (subst (λ (l : List Item). AreFed script.alphabet (vec_view.known store) names w.scope l []) (sym (at_drop_all (λ l. l) script.items i le)) refl));
  only = w.only;
  charge_is = c ∙ w.charge_is ∙ sym (ap charge_in r);
  own = omega (arith, c, w.own);
  within = omega (arith, c, w.within);
  alphabet = w.alphabet;
  capacity = w.capacity;
}
