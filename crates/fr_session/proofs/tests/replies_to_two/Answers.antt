use Rattle.std.proofs.Common.{ℕ, suc, ◌≡◌, ◌<◌, List, [], ◌∷◌, length, get_or, sym, ◌∙◌, ap, subst, arith}
use Rattle.std.specs.List.{All}
use Rattle.std.proofs.lemmas.List.Elements.{All-nil}
use Rattle.fr_script.specs.declared.item.Item.{Item}
use Rattle.fr_script.specs.Fits.{FitsItems}
use Rattle.fr_store.specs.declared.vec_store.VecStore.{VecStore}
use Rattle.fr_expr.specs.declared.env.Binding.{Binding}
use Rattle.fr_expr.specs.Tables.{names_in}
use Rattle.fr_eval.specs.Bindings.{AreAbove}
use Rattle.fr_session.specs.Feeding.{FitsFed}
use Rattle.fr_session.proofs.FeedLaws.{fits_said}
use Rattle.fr_session.proofs.NameLaws.{above_added, above_later}
use Rattle.fr_session.proofs.tests.replies_to_two.Goals as goal

rises : (d low most : ℕ) (items : List Item) (a b : Item) → 1 < length items → a ≡ get_or items 0 a → b ≡ get_or items 1 b → FitsItems d low most items → a.line < b.line
rises d low most [] a b l p q f = absurd (omega (arith, l))
rises d low most (x ∷ []) a b l p q f = absurd (omega (arith, l))
rises d low most (x ∷ y ∷ items) a b l p q f = omega (arith, f.2.0, ap (λ (i : Item). i.line) p, ap (λ (i : Item). i.line) q)

second_fits : (d low : ℕ) (items : List Item) (b : Item) → 1 < length items → b ≡ get_or items 1 b → FitsItems d low 4096 items → FitsFed d b
second_fits d low [] b l q f = absurd (omega (arith, l))
second_fits d low (x ∷ []) b l q f = absurd (omega (arith, l))
second_fits d low (x ∷ y ∷ items) b l q f = subst (FitsFed d) (sym q) (fits_said d y.line y.body f.2.1.1)

pub feed-requires-2-clause-fits : goal.feed-requires-2-clause-fits
feed-requires-2-clause-fits c =
    let script = c.args.script.now in
    let second = c.second-item.result in
    let items : List Item = c.as_slice.result.now in
    let fits : FitsItems script.alphabet 0 4096 items = subst (FitsItems script.alphabet 0 4096) (sym c.as_slice.ensures) c.requires.items in
    let some : 1 < length items = omega (arith, c.in-len2.len_at_least) in
    let same : c.feed.new.self.store.blocks.alphabet ≡ script.alphabet = c.feed.ensures.continues.alphabet ∙ ap (λ (s : VecStore). s.blocks.alphabet) c.in_ok-session.ensures.store ∙ c.in_ok-store.ensures.alphabet in
    subst (λ (d : ℕ). FitsFed d second) (sym same) (second_fits script.alphabet 0 items second some c.second-item.is fits)

pub feed-requires-2-clause-above : goal.feed-requires-2-clause-above
feed-requires-2-clause-above c =
    let script = c.args.script.now in
    let first = c.first-item.result in
    let second = c.second-item.result in
    let before = names_in c.in_ok-session.session.env in
    let after = names_in c.feed.new.self.env in
    let items : List Item = c.as_slice.result.now in
    let fits : FitsItems script.alphabet 0 4096 items = subst (FitsItems script.alphabet 0 4096) (sym c.as_slice.ensures) c.requires.items in
    let some : 1 < length items = omega (arith, c.in-len2.len_at_least) in
    let less : first.line < second.line = rises script.alphabet 0 4096 items first second some c.first-item.is c.second-item.is fits in
    let none : AreAbove first.line before = λ q. subst (All (λ (b : Binding). b.line < first.line)) (sym (c.in_ok-session.ensures.unbound q)) (All-nil (λ (b : Binding). b.line < first.line)) in
    above_later (suc first.line) second.line after (omega (arith, less)) (above_added first.line before after none c.feed.ensures.adds)
