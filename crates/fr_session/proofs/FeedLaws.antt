-- What feeding an item does, by what the evaluation of its statement does.
use Rattle.std.proofs.Common.{ℕ, suc, ◌≡◌, ◌≢◌, true, List, [], Result, Ok, Err, refl, sym, subst, arith}
use Rattle.sqlite_items.specs.declared.items.Items.{Items}
use Rattle.fr_alphabet.specs.declared.alphabet.Alphabet.{Alphabet}
use Rattle.fr_syntax.specs.declared.statement.Recursion.{Recursion}
use Rattle.fr_syntax.specs.declared.statement.Statement.{Statement}
use Rattle.fr_syntax.specs.declared.statement.Statement.TheVariants as st
use Rattle.fr_syntax.specs.declared.tree.Expr.{Expr}
use Rattle.fr_script.specs.declared.fault.Fault.{Fault}
use Rattle.fr_script.specs.Fits.{FitsBody}
use Rattle.fr_script.specs.FaultTexts.{fault_text}
use Rattle.fr_script.specs.declared.item.Item.{Item}
use Rattle.fr_script.specs.declared.item.Body.{Body}
use Rattle.fr_script.specs.declared.item.Body.TheVariants as b
use Rattle.fr_store.specs.Store.{View, Keeps}
use Rattle.fr_plain.specs.Scopes.{Scope}
use Rattle.fr_plain.specs.Outcomes.{refuse, IsBody}
use Rattle.fr_plain.specs.Beginnings.{IsAsk}
use Rattle.fr_plain.proofs.BeginningLaws.{first_charge, ask_keeps}
use Rattle.fr_expr.specs.Evaluation.{Makes}
use Rattle.fr_expr.specs.Names.{Names, AreNames}
use Rattle.fr_eval.specs.declared.ends.LineEnd.{LineEnd}
use Rattle.fr_eval.specs.declared.ends.Stop.{Stop}
use Rattle.fr_eval.specs.declared.ends.Stop.TheVariants as s
use Rattle.fr_eval.specs.Bindings.{AreAbove}
use Rattle.fr_eval.specs.Telling.{Answers, Defines}
use Rattle.fr_eval.proofs.DefineLaws.{names_stay, makes_none, none_early}
use Rattle.fr_session.specs.declared.session.Reply.{Reply}
use Rattle.fr_session.specs.Faults.{of_stop}
use Rattle.fr_session.specs.Feeding.{FitsSaid, Replies, MakesFirst, Feeds}

-- what a script says may be fed
pub fits_said : (d line : ℕ) (body : Body) → FitsBody d line 4096 body → FitsSaid d line body
fits_said d line (b.Says s) h = h
fits_said d line (b.Faulty f) h = tt

-- ---- statements that ask
pub is_ask : (s : Statement) → ((a : Alphabet) → s ≢ st.Alphabet a) → ((rs : Items Recursion) → s ≢ st.Group rs) → ((name : List ℕ) (e : Expr) → s ≢ st.Let name e) → IsAsk s
is_ask (st.Alphabet a) h k l = absurd (h a refl)
is_ask (st.Group rs) h k l = absurd (k rs refl)
is_ask (st.Let name e) h k l = absurd (l name e refl)
is_ask (st.Show e) h k l = tt
is_ask (st.States e) h k l = tt
is_ask (st.Wreath e) h k l = tt
is_ask (st.ClassOf e) h k l = tt
is_ask (st.Eq left right) h k l = tt
is_ask (st.Act e w) h k l = tt
is_ask (st.RayOf e ray) h k l = tt
is_ask (st.Order e most) h k l = tt
is_ask (st.NucleusOf es) h k l = tt

-- what is answered leaves the names
pub ask_defines : {S : Type 0} (view : View S) (d line : ℕ) (scope : Scope) (statement : Statement) (old new : S) (x y : ℕ) (names : Names) (text text' : List ℕ) (r : Result LineEnd Stop) → IsAsk statement
    → Keeps (view.known old) (view.known new) → AreAbove line names → AreNames d (view.known old) names line scope
    → Answers view d line scope statement old new x y text text' r → Defines view d line scope statement old new x y names text text' r
ask_defines view d line scope statement old new x y names text text' (Ok end) ask k a n t = record {
  tells = t;
  names_are = subst (λ (c : Scope). AreNames d (view.known new) names (suc line) c) (sym (ask_keeps line d scope statement t.outcome ask t.is_outcome))
      (names_stay d line (view.known old) (view.known new) names names scope k a (λ q. refl) n);
}
ask_defines view d line scope statement old new x y names text text' (Err stop) ask k a n t = t

-- ---- items
module _ {S : Type 0} (view : View S) where
  -- a statement whose evaluation stops
  pub said_stops : (d : ℕ) (scope : Scope) (item : Item) (statement : Statement) (old new : S) (charged : ℕ) (names : Names) (text text' : List ℕ) (stop : Stop) → item.body ≡ b.Says statement
      → Defines view d item.line scope statement old new 0 charged names text text' (Err stop) → Feeds view d scope item old new names (Err (of_stop stop))
  said_stops d scope item statement old new charged names text text' (s.Full claimed asked) says h =
      let v = h.0 in
      record {
        statement = statement;
        says = says;
        charged = charged;
        finds = v;
        within = λ o x.
            let y = subst (λ (k : Body). IsBody item.line d scope k o) says x in
            omega (arith, v.makes.own, v.charged, first_charge item.line d scope statement o _ v.charge y v.first);
      }
  said_stops d scope item statement old new charged names text text' s.NoMemory says h = subst (λ (k : Body). MakesFirst view d scope k old new) (sym says) (charged, h.0)

module _ {S : Type 0} (view : View S) (self : (s : S) → view.kin s s) (onward : (s t u : S) → view.kin s t → view.kin t u → view.kin s u) where
  -- nothing was made where an item is not read
  pub unread_stops : (d : ℕ) (scope : Scope) (body : Body) (store : S) → MakesFirst view d scope body store store
  unread_stops d scope (b.Says statement) store = (0, none_early view self onward d scope statement store 0)
  unread_stops d scope (b.Faulty fault) store = refl

  -- a fault of reading is printed
  pub faulty_replies : (d : ℕ) (scope : Scope) (item : Item) (fault : Fault) (store : S) (names : Names) (reply : Reply) → item.body ≡ b.Faulty fault → AreAbove item.line names
      → AreNames d (view.known store) names item.line scope → reply.text.items ≡ fault_text fault → reply.charge ≡ 0 → reply.refused ≡ true → Replies view d scope item store store names reply
  faulty_replies d scope item fault store names reply is a n printed free refused = record {
    outcome = refuse scope [] 0 fault;
    is_outcome = subst (λ (k : Body). IsBody item.line d scope k (refuse scope [] 0 fault)) (sym is) refl;
    makes = subst (λ (k : ℕ). Makes view d store store 0 k []) (sym free) (makes_none view self onward d store 0);
    text_is = printed;
    charge_is = free;
    refused_is = refused;
    names_are = names_stay d item.line (view.known store) (view.known store) names names scope (λ n code k. k) a (λ q. refl) n;
  }
