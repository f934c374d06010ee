-- What the tests of statements rest on: what asks, and what two items of a script are.
use Rattle.std.proofs.Common.{ℕ, ◌≡◌, ◌≢◌, ◌<◌, ◌≤◌, List, [], ◌∷◌, length, get_or, Option, refl, sym, subst, arith}
use Rattle.std.proofs.lemmas.List.Elements.{All-nil, All-append, All-weaker}
use Rattle.std.specs.List.{All}
use Rattle.sqlite_items.specs.declared.items.Items.{Items}
use Rattle.fr_alphabet.specs.declared.alphabet.Alphabet.{Alphabet}
use Rattle.fr_syntax.specs.declared.statement.Recursion.{Recursion}
use Rattle.fr_syntax.specs.declared.statement.Statement.{Statement}
use Rattle.fr_syntax.specs.declared.statement.Statement.TheVariants as st
use Rattle.fr_syntax.specs.declared.tree.Expr.{Expr}
use Rattle.fr_script.specs.declared.item.Item.{Item}
use Rattle.fr_script.specs.Fits.{FitsItems}
use Rattle.fr_store.specs.Store.{IsKnown}
use Rattle.fr_plain.specs.Beginnings.{IsAsk}
use Rattle.fr_expr.specs.declared.env.Binding.{Binding}
use Rattle.fr_expr.specs.Names.{Names}
use Rattle.fr_eval.specs.Bindings.{AreAllKnown, AreAbove, AddsAt}

-- what defines nothing asks
pub is_ask : (s : Statement) → ((a : Alphabet) → s ≢ st.Alphabet a) → ((rs : Items Recursion) → s ≢ st.Group rs) → ((name : List ℕ) (e : Expr) → s ≢ st.Let name e) → IsAsk s
is_ask (st.Alphabet a) h k l = absurd (h a refl)
is_ask (st.Group rs) h k l = absurd (k rs refl)
is_ask (st.Let name e) h k l = absurd (l name e refl)
is_ask (st.Show e) h k l = tt
is_ask (st.States e) h k l = tt
is_ask (st.Wreath e) h k l = tt
is_ask (st.ClassOf e) h k l = tt
is_ask (st.Eq left right) h k l = tt
is_ask (st.Act e w) h k l = tt
is_ask (st.RayOf e ray) h k l = tt
is_ask (st.Order e most) h k l = tt
is_ask (st.NucleusOf es) h k l = tt

-- the lines of two items rise
pub two_rise : (d : ℕ) (items : List Item) (first second : Item) → 2 ≤ length items → first ≡ get_or items 0 first → second ≡ get_or items 1 second
    → FitsItems d 0 4096 items → first.line < second.line
two_rise d [] first second two f s fits = omega (arith, two)
two_rise d (a ∷ []) first second two f s fits = omega (arith, two)
two_rise d (a ∷ b ∷ rest) first second two f s fits =
    subst (λ (i : Item). i.line < second.line) (sym f) (subst (λ (i : Item). a.line < i.line) (sym s) fits.2.0)

-- where no name is bound, all that is bound is above a line, and known
pub none_above : (line : ℕ) (names : Names) → ((q : List ℕ) → names q ≡ []) → AreAbove line names
none_above line names none = λ q. subst (All (λ (b : Binding). b.line < line)) (sym (none q)) (All-nil (λ (b : Binding). b.line < line))

pub none_known : (known : ℕ → Option (List ℕ)) (names : Names) → ((q : List ℕ) → names q ≡ []) → AreAllKnown known names
none_known known names none = λ q. subst (All (λ (b : Binding). IsKnown known b.handle)) (sym (none q)) (All-nil (λ (b : Binding). IsKnown known b.handle))

-- what a line adds is above each later line
pub added_above : (line later : ℕ) (old new : Names) → line < later → AreAbove line old → AddsAt line old new → AreAbove later new
added_above line later old new le a more = λ q.
    let m = more q in
    subst (All (λ (b : Binding). b.line < later)) (sym m.1)
    (All-append (λ (b : Binding). b.line < later) (old q) m.0
    (All-weaker (λ (b : Binding). b.line < line) (λ (b : Binding). b.line < later) (λ b less. omega (arith, less, le)) (old q) (a q))
    (All-weaker (λ (b : Binding). b.line ≡ line) (λ (b : Binding). b.line < later) (λ b same. omega (arith, same, le)) m.0 m.2))
