-- What a line sees of names while later lines bind more.
use Rattle.std.proofs.Common.{ℕ, suc, ◌≡◌, ◌<◌, ◌≤◌, if◌then◌else◌, nat_lt, List, [], ◌∷◌, ◌++◌, Option, Some, None, refl, sym, ◌∙◌, ap, subst, arith, append_assoc}
use Rattle.std.specs.List.{All}
use Rattle.std.proofs.lemmas.Bool.{le-ltb}
use Rattle.std.proofs.lemmas.List.{append-nil}
use Rattle.std.proofs.lemmas.List.Elements.{All-nil, All-head, All-tail, All-append, All-weaker}
use Rattle.fr_store.specs.declared.handle.Handle.{Handle}
use Rattle.fr_store.specs.Store.{Keeps}
use Rattle.fr_plain.specs.Scopes.{Scope, bound}
use Rattle.fr_expr.specs.declared.env.Binding.{Binding}
use Rattle.fr_expr.specs.Names.{Names, either, above, Matches, AreNames}
use Rattle.fr_expr.proofs.ScopeLaws.{names_keep}
use Rattle.fr_eval.specs.Bindings.{AreAbove, AddsAt}
use Rattle.fr_eval.proofs.DefineLaws.{above-append}

-- names above a line
pub above_later : (line later : ℕ) (names : Names) → line ≤ later → AreAbove line names → AreAbove later names
above_later line later names le a = λ q. All-weaker (λ (b : Binding). b.line < line) (λ (b : Binding). b.line < later) (λ b less. omega (arith, less, le)) (names q) (a q)

pub above_added : (line : ℕ) (old new : Names) → AreAbove line old → AddsAt line old new → AreAbove (suc line) new
above_added line old new a more = λ q.
    let m = more q in
    subst (All (λ (b : Binding). b.line < suc line)) (sym m.1)
    (All-append (λ (b : Binding). b.line < suc line) (old q) m.0
    (All-weaker (λ (b : Binding). b.line < line) (λ (b : Binding). b.line < suc line) (λ b less. omega (arith, less)) (old q) (a q))
    (All-weaker (λ (b : Binding). b.line ≡ line) (λ (b : Binding). b.line < suc line) (λ b same. omega (arith, same)) m.0 m.2))

-- the bindings of each name are those before and, behind them, some at this line or below it
abbrev pub AddsFrom : ℕ → Names → Names → Type 0
AddsFrom line old new = (name : List ℕ) → (more : List Binding) × (new name ≡ old name ++ more) × All (λ b. line ≤ b.line) more

pub adds_nothing : (line : ℕ) (names : Names) → AddsFrom line names names
adds_nothing line names q = ([], sym (append-nil (names q)), All-nil (λ (b : Binding). line ≤ b.line))

pub adds_there : (line : ℕ) (old new : Names) → AddsAt line old new → AddsFrom line old new
adds_there line old new a q =
    let m = a q in
    (m.0, m.1, All-weaker (λ (b : Binding). b.line ≡ line) (λ (b : Binding). line ≤ b.line) (λ b at. omega (arith, at)) m.0 m.2)

pub adds_below : (line later : ℕ) (old new : Names) → line ≤ later → AddsFrom later old new → AddsFrom line old new
adds_below line later old new le a q =
    let m = a q in
    (m.0, m.1, All-weaker (λ (b : Binding). later ≤ b.line) (λ (b : Binding). line ≤ b.line) (λ b at. omega (arith, at, le)) m.0 m.2)

pub adds_both : (line : ℕ) (a b c : Names) → AddsFrom line a b → AddsFrom line b c → AddsFrom line a c
adds_both line a b c x y q =
    let m = x q in
    let n = y q in
    (m.0 ++ n.0, n.1 ∙ ap (λ l. l ++ n.0) m.1 ∙ append_assoc (a q) m.0 n.0, All-append (λ (b : Binding). line ≤ b.line) m.0 n.0 m.2 n.2)

-- a line sees nothing of what is bound at it or below it
above_none : (line : ℕ) (bs : List Binding) → All (λ b. line ≤ b.line) bs → above line bs ≡ None
above_none line [] h = refl
above_none line (b ∷ bs) h =
    let here : line ≤ b.line = All-head (λ (b : Binding). line ≤ b.line) b bs h in
    ap (λ a. either a (if nat_lt b.line line then Some b.handle else None)) (above_none line bs (All-tail (λ (b : Binding). line ≤ b.line) b bs h))
    ∙ ap (λ t. either None (if t then Some b.handle else None)) (le-ltb b.line line here)

-- what a line sees stays while what is known grows and names are bound at it or below it
pub names_grow : (d line : ℕ) (old new : ℕ → Option (List ℕ)) (names later : Names) (scope : Scope) → Keeps old new → AddsFrom line names later → AreNames d old names line scope → AreNames d new later line scope
names_grow d line old new names later scope k more a = record {
  at = λ q.
      let m = more q in
      let same : above line (later q) ≡ above line (names q) =
      ap (above line) m.1 ∙ above-append line (names q) m.0 ∙ ap (λ (o : Option Handle). either o (above line (names q))) (above_none line m.0 m.2) in
      subst (λ (o : Option Handle). Matches d new o (bound scope q)) (sym same) ((names_keep d old new names line scope k a).at q);
}
