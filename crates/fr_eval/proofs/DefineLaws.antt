-- What a definition leaves: the names below its line, and how it ends.
use Rattle.std.proofs.Common.{ℕ, suc, ◌≡◌, ◌<◌, ◌+◌, Bool, true, false, if◌then◌else◌, nat_lt, List, [], ◌∷◌, ◌++◌, length, get_or, Option, Some, None, Result, Ok, Err, OnOk, OnErr, IfOk, refl, sym, ◌∙◌, ap, subst, arith, append_assoc}
use Rattle.std.specs.Prelude.{IfErr}
use Rattle.std.specs.Str.{bytes_eq}
use Rattle.std.specs.List.{All}
use Rattle.std.proofs.lemmas.Bool.{lt-ltb}
use Rattle.std.proofs.lemmas.List.{append-nil, get_or-map}
use Rattle.std.proofs.lemmas.List.Elements.{All-nil, All-cons, All-head, All-tail, All-append, All-weaker}
use Rattle.fr_model.specs.Systems.{System}
use Rattle.fr_model.specs.Terms.{Term, Name}
use Rattle.fr_syntax.specs.declared.statement.Recursion.{Recursion}
use Rattle.fr_syntax.specs.declared.statement.Statement.{Statement}
use Rattle.fr_syntax.specs.declared.statement.Statement.TheVariants as st
use Rattle.fr_syntax.specs.declared.tree.Expr.{Expr}
use Rattle.fr_script.specs.declared.fault.Fault.{Fault}
use Rattle.fr_script.specs.declared.fault.LineFault.{LineFault}
use Rattle.fr_script.specs.FaultTexts.{fault_text}
use Rattle.fr_store.specs.declared.handle.Handle.{Handle}
use Rattle.fr_store.specs.Store.{View, StandsForTerm, IsKnown, Keeps}
use Rattle.fr_store.proofs.StoreLaws.{stands_keeps, IsKnown-keeps, IsKnown-stands}
use Rattle.fr_plain.specs.Scopes.{Scope, bound, bind_names}
use Rattle.fr_plain.specs.Blocks.{block_system, names_of}
use Rattle.fr_plain.specs.BlockNames.{names_fault}
use Rattle.fr_plain.specs.Steps.{Step, AreStopped}
use Rattle.fr_plain.specs.Expansions.{expansion}
use Rattle.fr_plain.specs.Outcomes.{Outcome, refuse, define, name_steps, line_at, DefinesBlock, DefinesGroup, DefinesName, IsStatement}
use Rattle.fr_plain.specs.Outcomes as o
use Rattle.fr_plain.specs.Beginnings.{block_steps, statement_steps, within}
use Rattle.fr_plain.proofs.StepLaws.{AreEvaluated-append}
use Rattle.fr_expr.specs.declared.env.Binding.{Binding}
use Rattle.fr_expr.specs.declared.fault.EvalFault.{EvalFault}
use Rattle.fr_expr.specs.declared.fault.EvalFault.TheVariants as e
use Rattle.fr_expr.specs.Names.{Names, either, above, Matches, AreNames}
use Rattle.fr_expr.specs.Tables.{bindings_of}
use Rattle.fr_expr.specs.Evaluation.{Makes, StopsAt, StopsFull, StopsEarly, Evaluates}
use Rattle.fr_expr.proofs.EvaluationLaws.{Makes-none, Reads-none}
use Rattle.fr_expr.proofs.NameLaws.{either_either, either_none}
use Rattle.fr_eval.specs.declared.ends.LineEnd.{LineEnd}
use Rattle.fr_eval.specs.declared.ends.LineEnd.TheVariants as l
use Rattle.fr_eval.specs.declared.ends.Stop.{Stop}
use Rattle.fr_eval.specs.declared.ends.Stop.TheVariants as s
use Rattle.fr_eval.specs.Bindings.{AreAllKnown, AreAbove, AddsAt, Binds, SameNames, terms_from}
use Rattle.fr_eval.specs.Generators.{StandForAll}
use Rattle.fr_eval.specs.Telling.{IsEnd, IsFine, FindsFull, EndsEarly, Stops, Leaves, Defines}
use Rattle.fr_eval.proofs.BlockLaws.{length-system}
use Rattle.fr_eval.specs.Entering.{AreHandlesFrom, AreEntered, EntersNames, EndsWith}

-- ---- bindings that a line sees
pub above-append : (line : ℕ) (bs cs : List Binding) → above line (bs ++ cs) ≡ either (above line cs) (above line bs)
above-append line [] cs = sym (either_none (above line cs))
above-append line (b ∷ bs) cs =
    ap (λ a. either a (if nat_lt b.line line then Some b.handle else None)) (above-append line bs cs)
    ∙ either_either (above line cs) (above line bs) (if nat_lt b.line line then Some b.handle else None)

-- the next line sees no more of bindings above a line
above-next : (line : ℕ) (bs : List Binding) → All (λ b. b.line < line) bs → above (suc line) bs ≡ above line bs
above-next line [] h = refl
above-next line (b ∷ bs) h =
    let here : b.line < line = All-head (λ (b : Binding). b.line < line) b bs h in
    ap (λ a. either a (if nat_lt b.line (suc line) then Some b.handle else None)) (above-next line bs (All-tail (λ (b : Binding). b.line < line) b bs h))
    ∙ ap (λ t. either (above line bs) (if t then Some b.handle else None)) (lt-ltb b.line (suc line) (omega (arith, here)) ∙ sym (lt-ltb b.line line here))

Matches-keeps : (d : ℕ) (old new : ℕ → Option (List ℕ)) (h : Option Handle) (t : Option Term) → Keeps old new → Matches d old h t → Matches d new h t
Matches-keeps d old new (Some h) (Some t) k m = stands_keeps d old new h t k m
Matches-keeps d old new None None k m = tt
Matches-keeps d old new (Some h) None k m = absurd m
Matches-keeps d old new None (Some t) k m = absurd m

-- the bindings of names, at a line and behind those that are there, as the next line sees them
bound_names : (d line : ℕ) (known : ℕ → Option (List ℕ)) (system : System) (k : ℕ) (ns : List (List ℕ)) (hs : List Handle) (q : List ℕ) (o : Option Handle) (scope : Scope) → length hs ≡ length ns
    → AreHandlesFrom d known system k hs → Matches d known o (bound scope q)
    → Matches d known (either (above (suc line) (bindings_of line ns hs q)) o) (bound (bind_names system k ns scope) q)
bound_names d line known system k [] hs q o scope same a m = m
bound_names d line known system k (n ∷ ns) [] q o scope same a m = absurd (omega (arith, same))
bound_names d line known system k (n ∷ ns) (h ∷ hs) q o scope same a m = at (λ o' scope' m'. bound_names d line known system (suc k) ns hs q o' scope' (omega (arith, same)) a.1 m') (bytes_eq n q) refl
  where
    rest : List Binding
    rest = bindings_of line ns hs q

    more : Scope
    more = record { name = n; term = Name system k } ∷ scope

    at : ((o' : Option Handle) (scope' : Scope) → Matches d known o' (bound scope' q) → Matches d known (either (above (suc line) rest) o') (bound (bind_names system (suc k) ns scope') q))
        → (test : Bool) → test ≡ bytes_eq n q
        → Matches d known (either (above (suc line) (if test then record { line = line; handle = h } ∷ rest else rest)) o) (bound (bind_names system (suc k) ns more) q)
    at next true e =
        let new : Matches d known (Some h) (bound more q) = subst (λ (b : Bool). Matches d known (Some h) (if b then Some (Name system k) else bound scope q)) e a.0 in
        let seen : either (above (suc line) (record { line = line; handle = h } ∷ rest)) o ≡ either (above (suc line) rest) (Some h) =
        ap (λ t. either (either (above (suc line) rest) (if t then Some h else None)) o) (lt-ltb line (suc line) (omega arith)) ∙ either_either (above (suc line) rest) (Some h) o in
        subst (λ (x : Option Handle). Matches d known x (bound (bind_names system (suc k) ns more) q)) (sym seen) (next (Some h) more new)
    at next false e =
        let old : Matches d known o (bound more q) = subst (λ (b : Bool). Matches d known o (if b then Some (Name system k) else bound scope q)) e m in
        next o more old

-- the names that stay
pub names_stay : (d line : ℕ) (old new : ℕ → Option (List ℕ)) (names names' : Names) (scope : Scope) → Keeps old new → AreAbove line names → SameNames names names' → AreNames d old names line scope
    → AreNames d new names' (suc line) scope
names_stay d line old new names names' scope k a same h = record {
  at = λ q. subst (λ (x : Option Handle). Matches d new x (bound scope q)) (sym (ap (above (suc line)) (same q) ∙ above-next line (names q) (a q))) (Matches-keeps d old new _ _ k (h.at q));
}

-- the names of a block beside them
pub names_join : (d line : ℕ) (old new : ℕ → Option (List ℕ)) (names names' : Names) (scope : Scope) (system : System) (ns : List (List ℕ)) (hs : List Handle) → Keeps old new → AreAbove line names
    → ((q : List ℕ) → names' q ≡ names q ++ bindings_of line ns hs q) → length hs ≡ length ns → AreHandlesFrom d new system 0 hs → AreNames d old names line scope
    → AreNames d new names' (suc line) (bind_names system 0 ns scope)
names_join d line old new names names' scope system ns hs k a more same handles h = record {
  at = λ q.
      let seen : above (suc line) (names' q) ≡ either (above (suc line) (bindings_of line ns hs q)) (above line (names q)) =
      ap (above (suc line)) (more q) ∙ above-append (suc line) (names q) (bindings_of line ns hs q) ∙ ap (either (above (suc line) (bindings_of line ns hs q))) (above-next line (names q) (a q)) in
      subst (λ (x : Option Handle). Matches d new x (bound (bind_names system 0 ns scope) q)) (sym seen)
      (bound_names d line new system 0 ns hs q (above line (names q)) scope same handles (Matches-keeps d old new _ _ k (h.at q)));
}

-- one name beside them
pub name_joins : (d line : ℕ) (old new : ℕ → Option (List ℕ)) (names names' : Names) (scope : Scope) (n : List ℕ) (h : Handle) (t : Term) → Keeps old new → AreAbove line names
    → ((q : List ℕ) → names' q ≡ names q ++ (if bytes_eq n q then record { line = line; handle = h } ∷ [] else [])) → StandsForTerm d new h t → AreNames d old names line scope
    → AreNames d new names' (suc line) (record { name = n; term = t } ∷ scope)
name_joins d line old new names names' scope n h t k a more stands m = record { at = λ q. at q (bytes_eq n q) refl }
  where
    at : (q : List ℕ) (test : Bool) → test ≡ bytes_eq n q → Matches d new (above (suc line) (names' q)) (if bytes_eq n q then Some t else bound scope q)
    at q test e =
        subst (λ (x : Option Handle). Matches d new x (if bytes_eq n q then Some t else bound scope q))
        (sym (ap (above (suc line)) (more q ∙ ap (λ b. names q ++ (if b then record { line = line; handle = h } ∷ [] else [])) (sym e)) ∙ above-append (suc line) (names q) (if test then record { line = line; handle = h } ∷ [] else [])))
        (subst (λ (b : Bool). Matches d new (either (above (suc line) (if test then record { line = line; handle = h } ∷ [] else [])) (above (suc line) (names q))) (if b then Some t else bound scope q)) e (chosen test))
      where
        chosen : (b : Bool) → Matches d new (either (above (suc line) (if b then record { line = line; handle = h } ∷ [] else [])) (above (suc line) (names q))) (if b then Some t else bound scope q)
        chosen true = subst (λ (b : Bool). Matches d new (either (if b then Some h else None) (above (suc line) (names q))) (Some t)) (sym (lt-ltb line (suc line) (omega arith))) stands
        chosen false = subst (λ (x : Option Handle). Matches d new x (bound scope q)) (sym (above-next line (names q) (a q))) (Matches-keeps d old new _ _ k (m.at q))

-- ---- what is bound
-- the bindings of a block are at its line
at_line : (line : ℕ) (ns : List (List ℕ)) (hs : List Handle) (q : List ℕ) → All (λ (b : Binding). b.line ≡ line) (bindings_of line ns hs q)
at_line line [] hs q = All-nil (λ (b : Binding). b.line ≡ line)
at_line line (n ∷ ns) [] q = All-nil (λ (b : Binding). b.line ≡ line)
at_line line (n ∷ ns) (h ∷ hs) q = at (at_line line ns hs q) (bytes_eq n q)
  where
    at : All (λ (b : Binding). b.line ≡ line) (bindings_of line ns hs q) → (test : Bool)
        → All (λ (b : Binding). b.line ≡ line) (if test then record { line = line; handle = h } ∷ bindings_of line ns hs q else bindings_of line ns hs q)
    at rest true = All-cons (λ (b : Binding). b.line ≡ line) (record { line = line; handle = h }) (bindings_of line ns hs q) refl rest
    at rest false = rest

pub adds_block : (line : ℕ) (ns : List (List ℕ)) (hs : List Handle) (old new : Names) → ((q : List ℕ) → new q ≡ old q ++ bindings_of line ns hs q) → AddsAt line old new
adds_block line ns hs old new more = λ q. (bindings_of line ns hs q, more q, at_line line ns hs q)

one_at_line : (line : ℕ) (h : Handle) (test : Bool) → All (λ (b : Binding). b.line ≡ line) (if test then record { line = line; handle = h } ∷ [] else [])
one_at_line line h true = All-cons (λ (b : Binding). b.line ≡ line) (record { line = line; handle = h }) [] refl (All-nil (λ (b : Binding). b.line ≡ line))
one_at_line line h false = All-nil (λ (b : Binding). b.line ≡ line)

pub adds_name : (line : ℕ) (n : List ℕ) (h : Handle) (old new : Names) → ((q : List ℕ) → new q ≡ old q ++ (if bytes_eq n q then record { line = line; handle = h } ∷ [] else [])) → AddsAt line old new
adds_name line n h old new more = λ q. ((if bytes_eq n q then record { line = line; handle = h } ∷ [] else []), more q, one_at_line line h (bytes_eq n q))

pub adds_none : (line : ℕ) (old new : Names) → SameNames old new → AddsAt line old new
adds_none line old new same = λ q. ([], same q ∙ sym (append-nil (old q)), All-nil (λ (b : Binding). b.line ≡ line))

-- the handles of the names of a block
handles_stand : (d : ℕ) (known : ℕ → Option (List ℕ)) (system : System) (k : ℕ) (ns : List (List ℕ)) (hs : List Handle) → length hs ≡ length ns → AreHandlesFrom d known system k hs
    → StandForAll d known hs (terms_from system k ns)
handles_stand d known system k [] [] same a = tt
handles_stand d known system k [] (h ∷ hs) same a = absurd (omega (arith, same))
handles_stand d known system k (n ∷ ns) [] same a = absurd (omega (arith, same))
handles_stand d known system k (n ∷ ns) (h ∷ hs) same a = (a.0, handles_stand d known system (suc k) ns hs (omega (arith, same)) a.1)

pub binds_block : (d : ℕ) (known : ℕ → Option (List ℕ)) (line : ℕ) (scope : Scope) (rs : List Recursion) (old new : Names) (hs : List Handle) → length hs ≡ length (names_of rs) → AreHandlesFrom d known (block_system rs) 0 hs
    → ((q : List ℕ) → new q ≡ old q ++ bindings_of line (names_of rs) hs q) → Binds d known line scope (st.Group rs) old new
binds_block d known line scope rs old new hs same a more = record { handles = hs; elements = handles_stand d known (block_system rs) 0 (names_of rs) hs same a; added = more }

pub binds_name : (d : ℕ) (known : ℕ → Option (List ℕ)) (line : ℕ) (scope : Scope) (n : List ℕ) (x : Expr) (old new : Names) (h : Handle) → StandsForTerm d known h (expansion scope x).value
    → ((q : List ℕ) → new q ≡ old q ++ (if bytes_eq n q then record { line = line; handle = h } ∷ [] else [])) → Binds d known line scope (st.Let n x) old new
binds_name d known line scope n x old new h stands more = record { handles = h ∷ []; elements = (stands, tt); added = more }

pub binds_none : (d : ℕ) (known : ℕ → Option (List ℕ)) (line a : ℕ) (scope : Scope) (names : Names) → Binds d known line scope (st.Alphabet a) names names
binds_none d known line a scope names = record { handles = []; elements = tt; added = λ q. sym (append-nil (names q)) }

-- a line with a fault is not fine
abbrev IsFineEnd : Result LineEnd Stop → Type 0
IsFineEnd (Ok l.Fine) = Unit {0}
IsFineEnd _ = ⊥

pub ends_not_fine : (line : ℕ) (fault : EvalFault) (text text' : List ℕ) (result : Result LineEnd Stop) → EndsWith line fault text text' result → IsFine result → ⊥
ends_not_fine line (e.Refused fault) text text' (Ok end) w f = subst (λ (x : LineEnd). IsFineEnd (Ok x)) w.0 (subst IsFineEnd (sym f) tt)
ends_not_fine line (e.Refused fault) text text' (Err stop) w f = subst IsFineEnd (sym f) tt
ends_not_fine line (e.Full claimed asked) text text' result w f = subst IsFineEnd (sym f ∙ w.0) tt
ends_not_fine line e.NoMemory text text' result w f = subst IsFineEnd (sym f ∙ w.0) tt

pub refuses_not_fine : (fault : LineFault) (result : Result LineEnd Stop) → IfOk result (λ end. end ≡ l.Refused fault) → IsFine result → ⊥
refuses_not_fine fault (Ok end) e f = subst (λ (x : LineEnd). IsFineEnd (Ok x)) e (subst IsFineEnd (sym f) tt)
refuses_not_fine fault (Err stop) e f = subst IsFineEnd (sym f) tt

-- ---- handles that are bound
known_keep : (old new : ℕ → Option (List ℕ)) (bs : List Binding) → Keeps old new → All (λ b. IsKnown old b.handle) bs → All (λ b. IsKnown new b.handle) bs
known_keep old new bs k a = All-weaker (λ (b : Binding). IsKnown old b.handle) (λ (b : Binding). IsKnown new b.handle) (λ b i. IsKnown-keeps old new b.handle k i) bs a

pub known_none : (old new : ℕ → Option (List ℕ)) (names names' : Names) → Keeps old new → AreAllKnown old names → SameNames names names' → AreAllKnown new names'
known_none old new names names' k a same = λ q. subst (All (λ (b : Binding). IsKnown new b.handle)) (sym (same q)) (known_keep old new (names q) k (a q))

known_block : (d line : ℕ) (known : ℕ → Option (List ℕ)) (system : System) (k : ℕ) (ns : List (List ℕ)) (hs : List Handle) (q : List ℕ) → AreHandlesFrom d known system k hs
    → All (λ (b : Binding). IsKnown known b.handle) (bindings_of line ns hs q)
known_block d line known system k [] hs q a = All-nil (λ (b : Binding). IsKnown known b.handle)
known_block d line known system k (n ∷ ns) [] q a = All-nil (λ (b : Binding). IsKnown known b.handle)
known_block d line known system k (n ∷ ns) (h ∷ hs) q a = at (known_block d line known system (suc k) ns hs q a.1) (bytes_eq n q)
  where
    at : All (λ (b : Binding). IsKnown known b.handle) (bindings_of line ns hs q) → (test : Bool)
        → All (λ (b : Binding). IsKnown known b.handle) (if test then record { line = line; handle = h } ∷ bindings_of line ns hs q else bindings_of line ns hs q)
    at rest true = All-cons (λ (b : Binding). IsKnown known b.handle) (record { line = line; handle = h }) (bindings_of line ns hs q) (IsKnown-stands d known h (Name system k) a.0) rest
    at rest false = rest

pub known_names : (d line : ℕ) (old new : ℕ → Option (List ℕ)) (names names' : Names) (system : System) (ns : List (List ℕ)) (hs : List Handle) → Keeps old new → AreAllKnown old names
    → ((q : List ℕ) → names' q ≡ names q ++ bindings_of line ns hs q) → AreHandlesFrom d new system 0 hs → AreAllKnown new names'
known_names d line old new names names' system ns hs k a more handles = λ q.
    subst (All (λ (b : Binding). IsKnown new b.handle)) (sym (more q))
    (All-append (λ (b : Binding). IsKnown new b.handle) (names q) (bindings_of line ns hs q) (known_keep old new (names q) k (a q)) (known_block d line new system 0 ns hs q handles))

pub known_name : (line : ℕ) (old new : ℕ → Option (List ℕ)) (names names' : Names) (n : List ℕ) (h : Handle) → Keeps old new → AreAllKnown old names
    → ((q : List ℕ) → names' q ≡ names q ++ (if bytes_eq n q then record { line = line; handle = h } ∷ [] else [])) → IsKnown new h → AreAllKnown new names'
known_name line old new names names' n h k a more is = λ q.
    subst (All (λ (b : Binding). IsKnown new b.handle)) (sym (more q))
    (All-append (λ (b : Binding). IsKnown new b.handle) (names q) (if bytes_eq n q then record { line = line; handle = h } ∷ [] else []) (known_keep old new (names q) k (a q)) (one (bytes_eq n q)))
  where
    one : (test : Bool) → All (λ (b : Binding). IsKnown new b.handle) (if test then record { line = line; handle = h } ∷ [] else [])
    one true = All-cons (λ (b : Binding). IsKnown new b.handle) (record { line = line; handle = h }) [] is (All-nil (λ (b : Binding). IsKnown new b.handle))
    one false = All-nil (λ (b : Binding). IsKnown new b.handle)

-- ---- how a definition ends
pub line_is : (rs : List Recursion) (k : ℕ) (r : Recursion) → k < length rs → get_or rs k r ≡ r → r.line ≡ line_at rs k
line_is rs k r less here = sym (get_or-map (λ r. r.line) rs k r 0 less ∙ ap (λ (x : Recursion). x.line) here)

module _ {S : Type 0} (view : View S) where
  -- memory ran out behind first steps
  pub steps_early : (d : ℕ) (scope : Scope) (statement : Statement) (old new : S) (x y : ℕ) (steps done rest : List Step) → statement_steps scope statement ≡ steps → steps ≡ done ++ rest
      → Makes view d old new x y done → EndsEarly view d scope statement old new x y
  steps_early d scope statement old new x y steps done rest are all makes = record {
    done = done;
    charge = makes.charge;
    first = within done rest makes.charge (are ∙ all) makes.evaluated;
    makes = makes;
  }

  pub ends_early : (d : ℕ) (scope : Scope) (statement : Statement) (old new : S) (x y : ℕ) (steps : List Step) → statement_steps scope statement ≡ steps → StopsEarly view d old new x y steps
      → EndsEarly view d scope statement old new x y
  ends_early d scope statement old new x y steps are v = steps_early d scope statement old new x y steps v.done v.rest are v.all v.makes

  pub made_early : (d : ℕ) (scope : Scope) (statement : Statement) (old new : S) (x y : ℕ) (steps : List Step) → statement_steps scope statement ≡ steps → Makes view d old new x y steps
      → EndsEarly view d scope statement old new x y
  made_early d scope statement old new x y steps are makes = steps_early d scope statement old new x y steps steps [] are (sym (append-nil steps)) makes

  pub stopped_early : (d : ℕ) (scope : Scope) (statement : Statement) (old new : S) (x y : ℕ) (steps : List Step) (fault : LineFault) → statement_steps scope statement ≡ steps
      → StopsAt view d old new x y steps fault → EndsEarly view d scope statement old new x y
  stopped_early d scope statement old new x y steps fault are v =
      steps_early d scope statement old new x y steps v.done (v.stopped.next ∷ v.stopped.rest) are v.stopped.all v.makes

  pub finds_full : (d : ℕ) (scope : Scope) (statement : Statement) (old new : S) (x y : ℕ) (steps : List Step) (claimed asked : ℕ) → statement_steps scope statement ≡ steps
      → StopsFull view d old new x y steps claimed asked → FindsFull view d scope statement old new x y claimed asked
  finds_full d scope statement old new x y steps claimed asked are v = record {
    done = v.done;
    next = v.next;
    charge = v.makes.charge + asked;
    first = within (v.done ++ v.next ∷ []) v.rest (v.makes.charge + asked) (are ∙ v.all ∙ sym (append_assoc v.done (v.next ∷ []) v.rest))
        (AreEvaluated-append d v.done (v.next ∷ []) v.makes.charge asked v.makes.evaluated (asked, 0, v.charged, refl, omega arith));
    makes = v.makes;
    next_charged = v.charged;
    charged = omega (arith, v.makes.charged);
    unknown = v.unknown;
    passes = v.passes;
    seen = v.seen;
  }

  -- the steps before the one that is refused, with their charge
  stopped_here : (d : ℕ) (old new : S) (x y : ℕ) (steps : List Step) (fault : LineFault) → (v : StopsAt view d old new x y steps fault) → AreStopped d steps v.done v.makes.charge fault
  stopped_here d old new x y steps fault v = record { next = v.stopped.next; rest = v.stopped.rest; all = v.stopped.all; evaluated = v.makes.evaluated; refused = v.stopped.refused }

  -- a line that is refused
  pub leaves_refused : (d line at : ℕ) (scope : Scope) (statement : Statement) (old new : S) (x y : ℕ) (done : List Step) (fault : LineFault) (names : Names) (text text' : List ℕ) (end : LineEnd)
      → (makes : Makes view d old new x y done) → IsStatement line d scope statement (refuse scope done makes.charge (record { line = at; kind = fault }))
      → end ≡ l.Refused fault → text' ≡ text ++ fault_text (record { line = at; kind = fault }) → AreNames d (view.known new) names (suc line) scope
      → Leaves view d line scope statement old new x y names text text' end
  leaves_refused d line at scope statement old new x y done fault names text text' end makes is e t n = record {
    tells = record {
      outcome = refuse scope done makes.charge (record { line = at; kind = fault });
      is_outcome = is;
      makes = makes;
      charged = makes.charged;
      text_is = t;
      ends = subst (IsEnd (refuse scope done makes.charge (record { line = at; kind = fault }))) (sym e) (refl, at, refl);
    };
    names_are = n;
  }

  -- an expression that stops
  pub name_ends : (d line : ℕ) (scope : Scope) (name : List ℕ) (x : Expr) (old new : S) (before after : ℕ) (names : Names) (text text' : List ℕ) (fault : EvalFault) (result : Result LineEnd Stop)
      → Evaluates view d old new before after (expansion scope x) (Err fault) → EndsWith line fault text text' result → AreNames d (view.known new) names (suc line) scope
      → Defines view d line scope (st.Let name x) old new before after names text text' result
  name_ends d line scope name x old new before after names text text' (e.Refused fault) (Ok end) v w n =
      leaves_refused d line line scope (st.Let name x) old new before after v.done fault names text text' end v.makes
      (o.stopped v.done v.makes.charge fault (stopped_here d old new before after (expansion scope x).steps fault v)) w.0 w.1 n
  name_ends d line scope name x old new before after names text text' (e.Refused fault) (Err stop) v w n =
      subst (λ (k : Stop). Stops view d scope (st.Let name x) old new before after text text' k) (sym w.0) (stopped_early d scope (st.Let name x) old new before after (expansion scope x).steps fault refl v, w.1)
  name_ends d line scope name x old new before after names text text' (e.Full claimed asked) result v w n =
      subst (Defines view d line scope (st.Let name x) old new before after names text text') (sym w.0) (finds_full d scope (st.Let name x) old new before after (expansion scope x).steps claimed asked refl v, w.1)
  name_ends d line scope name x old new before after names text text' e.NoMemory result v w n =
      subst (Defines view d line scope (st.Let name x) old new before after names text text') (sym w.0) (ends_early d scope (st.Let name x) old new before after (expansion scope x).steps refl v, w.1)

  -- a name that is bound
  pub name_binds : (d line : ℕ) (scope : Scope) (name : List ℕ) (x : Expr) (old new : S) (before after : ℕ) (names : Names) (text : List ℕ) (h : Handle)
      → Evaluates view d old new before after (expansion scope x) (Ok h) → AreNames d (view.known new) names (suc line) (record { name = name; term = (expansion scope x).value } ∷ scope)
      → Leaves view d line scope (st.Let name x) old new before after names text text l.Fine
  name_binds d line scope name x old new before after names text h v n = record {
    tells = record {
      outcome = define (record { name = name; term = (expansion scope x).value } ∷ scope) (expansion scope x).steps v.makes.charge;
      is_outcome = o.binds v.makes.charge v.makes.evaluated;
      makes = v.makes;
      charged = v.makes.charged;
      text_is = sym (append-nil text);
      ends = refl;
    };
    names_are = n;
  }

  -- the steps of a block whose names have no fault
  group_steps : (scope : Scope) (rs : List Recursion) → names_fault rs ≡ None → statement_steps scope (st.Group rs) ≡ name_steps (block_system rs) (length (block_system rs))
  group_steps scope rs none = ap (block_steps rs) none ∙ ap (name_steps (block_system rs)) (sym (length-system rs none))

  same_steps : (rs : List Recursion) → names_fault rs ≡ None → name_steps (block_system rs) (length (block_system rs)) ≡ name_steps (block_system rs) (length rs)
  same_steps rs none = ap (name_steps (block_system rs)) (length-system rs none)

  -- a block of which a name stops
  pub group_ends : (d line : ℕ) (scope : Scope) (rs : List Recursion) (old new : S) (before after : ℕ) (names : Names) (text text' : List ℕ) (hs : List Handle) (fault : EvalFault) (result : Result LineEnd Stop)
      → names_fault rs ≡ None → EntersNames view d (block_system rs) old new before after hs (Err fault) → EndsWith (line_at rs (length hs)) fault text text' result
      → AreNames d (view.known new) names (suc line) scope → Defines view d line scope (st.Group rs) old new before after names text text' result
  group_ends d line scope rs old new before after names text text' hs (e.Refused fault) (Ok end) none v w n =
      let stops = v.stops in
      let stopped = subst (λ (l : List Step). AreStopped d l stops.done stops.makes.charge fault) (same_steps rs none) (stopped_here d old new before after _ fault stops) in
      let here : DefinesBlock d scope rs (refuse scope stops.done stops.makes.charge (record { line = line_at rs (length hs); kind = fault })) =
      subst (λ (k : ℕ). DefinesBlock d scope rs (refuse scope stops.done stops.makes.charge (record { line = line_at rs k; kind = fault }))) (sym v.place) (o.stopped stops.done stops.makes.charge fault stopped) in
      leaves_refused d line (line_at rs (length hs)) scope (st.Group rs) old new before after stops.done fault names text text' end stops.makes
      (subst (λ (f : Option Fault). DefinesGroup d scope rs f (refuse scope stops.done stops.makes.charge (record { line = line_at rs (length hs); kind = fault }))) (sym none) here) w.0 w.1 n
  group_ends d line scope rs old new before after names text text' hs (e.Refused fault) (Err stop) none v w n =
      subst (λ (k : Stop). Stops view d scope (st.Group rs) old new before after text text' k) (sym w.0) (stopped_early d scope (st.Group rs) old new before after _ fault (group_steps scope rs none) v.stops, w.1)
  group_ends d line scope rs old new before after names text text' hs (e.Full claimed asked) result none v w n =
      subst (Defines view d line scope (st.Group rs) old new before after names text text') (sym w.0) (finds_full d scope (st.Group rs) old new before after _ claimed asked (group_steps scope rs none) v, w.1)
  group_ends d line scope rs old new before after names text text' hs e.NoMemory result none v w n =
      subst (Defines view d line scope (st.Group rs) old new before after names text text') (sym w.0) (ends_early d scope (st.Group rs) old new before after _ (group_steps scope rs none) v, w.1)

  -- a block that is bound
  pub group_binds : (d line : ℕ) (scope : Scope) (rs : List Recursion) (old new : S) (before after : ℕ) (names : Names) (text : List ℕ) (hs : List Handle)
      → names_fault rs ≡ None → AreEntered view d (block_system rs) old new before after hs → AreNames d (view.known new) names (suc line) (bind_names (block_system rs) 0 (names_of rs) scope)
      → Leaves view d line scope (st.Group rs) old new before after names text text l.Fine
  group_binds d line scope rs old new before after names text hs none v n =
      let makes = subst (λ (ss : List Step). Makes view d old new before after ss) (same_steps rs none) v.makes in
      let result = define (bind_names (block_system rs) 0 (names_of rs) scope) (name_steps (block_system rs) (length rs)) makes.charge in
      record {
        tells = record {
          outcome = result;
          is_outcome = subst (λ (f : Option Fault). DefinesGroup d scope rs f result) (sym none) (o.binds makes.charge makes.evaluated);
          makes = makes;
          charged = makes.charged;
          text_is = sym (append-nil text);
          ends = refl;
        };
        names_are = n;
      }

  pub group_bound_early : (d : ℕ) (scope : Scope) (rs : List Recursion) (old new : S) (before after : ℕ) (hs : List Handle) → names_fault rs ≡ None → AreEntered view d (block_system rs) old new before after hs
      → EndsEarly view d scope (st.Group rs) old new before after
  group_bound_early d scope rs old new before after hs none v = made_early d scope (st.Group rs) old new before after _ (group_steps scope rs none) v.makes

module _ {S : Type 0} (view : View S) (self : (s : S) → view.kin s s) (onward : (s t u : S) → view.kin s t → view.kin t u → view.kin s u) where
  -- nothing was made
  pub makes_none : (d : ℕ) (s : S) (x : ℕ) → Makes view d s s x x []
  makes_none d s x = Makes-none view onward d s s x (Reads-none view self s)

  pub none_early : (d : ℕ) (scope : Scope) (statement : Statement) (s : S) (x : ℕ) → EndsEarly view d scope statement s s x x
  none_early d scope statement s x = steps_early view d scope statement s s x x (statement_steps scope statement) [] (statement_steps scope statement) refl refl (makes_none d s x)

  -- an alphabet
  pub alphabet_leaves : (d line a : ℕ) (scope : Scope) (s : S) (x : ℕ) (names : Names) (text : List ℕ) → AreNames d (view.known s) names (suc line) scope
      → Leaves view d line scope (st.Alphabet a) s s x x names text text l.Fine
  alphabet_leaves d line a scope s x names text n = record {
    tells = record {
      outcome = define scope [] 0;
      is_outcome = refl;
      makes = makes_none d s x;
      charged = omega arith;
      text_is = sym (append-nil text);
      ends = refl;
    };
    names_are = n;
  }

  -- a block whose names have a fault
  pub group_refused : (d line : ℕ) (scope : Scope) (rs : List Recursion) (s : S) (x : ℕ) (names : Names) (text text' : List ℕ) (fault : Fault) (end : LineEnd) → names_fault rs ≡ Some fault
      → end ≡ l.Refused fault.kind → text' ≡ text ++ fault_text fault → AreNames d (view.known s) names (suc line) scope → Leaves view d line scope (st.Group rs) s s x x names text text' end
  group_refused d line scope rs s x names text text' fault end some e t n = record {
    tells = record {
      outcome = refuse scope [] 0 fault;
      is_outcome = subst (λ (f : Option Fault). DefinesGroup d scope rs f (refuse scope [] 0 fault)) (sym some) refl;
      makes = makes_none d s x;
      charged = omega arith;
      text_is = t;
      ends = subst (IsEnd (refuse scope [] 0 fault)) (sym e) (refl, fault.line, refl);
    };
    names_are = n;
  }

  pub group_faulty : (d line : ℕ) (scope : Scope) (rs : List Recursion) (z : S) (x : ℕ) (names : Names) (text text' : List ℕ) (fault : Fault) (result : Result LineEnd Stop) → names_fault rs ≡ Some fault
      → OnOk result (text' ≡ text ++ fault_text fault) → OnErr result (text' ≡ text) → IfOk result (λ end. end ≡ l.Refused fault.kind) → IfErr result (λ stop. stop ≡ s.NoMemory) → AreNames d (view.known z) names (suc line) scope
      → Defines view d line scope (st.Group rs) z z x x names text text' result
  group_faulty d line scope rs z x names text text' fault (Ok end) some t kept e stops n = group_refused d line scope rs z x names text text' fault end some e t n
  group_faulty d line scope rs z x names text text' fault (Err stop) some t kept e stops n =
      subst (λ (k : Stop). Stops view d scope (st.Group rs) z z x x text text' k) (sym stops) (none_early d scope (st.Group rs) z x, kept)
