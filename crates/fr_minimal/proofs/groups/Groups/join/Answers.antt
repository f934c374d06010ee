use Rattle.std.proofs.Common.{ℕ, List, ◌≡◌, ◌≢◌, ◌+◌, ◌<◌, ◌⊎◌, inl, inr, get_or, length, sym, ◌∙◌, ap, arith}
use Rattle.std.proofs.Math.ListN.{set}
use Rattle.std.proofs.lemmas.Bool.{cases_lt}
use Rattle.fr_minimal.specs.Groups.{IsShared, joins}
use Rattle.fr_minimal.proofs.GroupLaws.{joins-joined, IsShared-moved}
use Rattle.fr_minimal.proofs.groups.Groups.join.Goals as goal

abbrev Sides : ℕ → ℕ → ℕ → ℕ → Type 0
Sides a b high low = ((high ≡ a) × (low ≡ b)) ⊎ ((high ≡ b) × (low ≡ a))

shared_joined : (ps : List ℕ) (a b high low : ℕ) (image : ℕ → List ℕ) → a < length ps → b < length ps → Sides a b high low → IsShared ps image → image a ≡ image b → IsShared (set ps high low) image
shared_joined ps a b high low image la lb (inl s) h e = IsShared-moved ps high low image (omega (arith, s.0)) h (ap image s.1 ∙ sym e ∙ ap image (sym s.0))
shared_joined ps a b high low image la lb (inr s) h e = IsShared-moved ps high low image (omega (arith, s.0)) h (ap image s.1 ∙ e ∙ ap image (sym s.0))

joins_joined : (ps : List ℕ) (a b high low : ℕ) → a < length ps → b < length ps → a ≢ b → get_or ps a 0 ≡ a → get_or ps b 0 ≡ b → Sides a b high low → joins (set ps high low) ≡ joins ps + 1
joins_joined ps a b high low la lb apart ea eb (inl s) = joins-joined ps high low (omega (arith, s.0)) (ap (λ k. get_or ps k 0) s.0 ∙ ea ∙ sym s.0) (λ e. apart (sym s.0 ∙ sym e ∙ s.1))
joins_joined ps a b high low la lb apart ea eb (inr s) = joins-joined ps high low (omega (arith, s.0)) (ap (λ k. get_or ps k 0) s.0 ∙ eb ∙ sym s.0) (λ e. apart (sym s.1 ∙ e ∙ s.0))

pub returns-then-first-second-clause-shared : goal.returns-then-first-second-clause-shared
returns-then-first-second-clause-shared c = λ image h e. c.least-second.ensures.rearranged.shared image (c.least-first.ensures.rearranged.shared image h)

pub returns-then-first-second-clause-one : goal.returns-then-first-second-clause-one
returns-then-first-second-clause-one c = λ no image h. sym (c.least-first.ensures.same image h) ∙ ap image c.if-first-second.true ∙ c.least-second.ensures.same image (c.least-first.ensures.rearranged.shared image h)

pub returns-clause-shared : goal.returns-clause-shared
returns-clause-shared c = λ image h e.
    (let first = c.least-first.result in
    let second = c.least-second.result in
    let s1 = c.least-first.ensures.rearranged.shared image h in
    let s2 = c.least-second.ensures.rearranged.shared image s1 in
    let sides : Sides first second c.max.result c.min.result = elim (cases_lt first second) [ inl l ↦ inr (omega (arith, c.max.ensures), omega (arith, c.min.ensures)) | inr g ↦ inl (omega (arith, c.max.ensures), omega (arith, c.min.ensures)) ] in
    shared_joined c.least-second.new.self.parents.items first second c.max.result c.min.result image (omega (arith, c.least-first.ensures.below, c.least-second.ensures.rearranged.size)) c.least-second.ensures.below sides s2 (c.least-first.ensures.same image h ∙ e ∙ sym (c.least-second.ensures.same image s1)))

pub returns-clause-joins : goal.returns-clause-joins
returns-clause-joins c =
    let first = c.least-first.result in
    let second = c.least-second.result in
    let sides : Sides first second c.max.result c.min.result = elim (cases_lt first second) [ inl l ↦ inr (omega (arith, c.max.ensures), omega (arith, c.min.ensures)) | inr g ↦ inl (omega (arith, c.max.ensures), omega (arith, c.min.ensures)) ] in
    joins_joined c.least-second.new.self.parents.items first second c.max.result c.min.result (omega (arith, c.least-first.ensures.below, c.least-second.ensures.rearranged.size)) c.least-second.ensures.below c.if-first-second.false
    (c.least-second.ensures.rearranged.least first c.least-first.ensures.below c.least-first.ensures.least) c.least-second.ensures.least sides
    ∙ ap (λ k. k + 1) (c.least-second.ensures.rearranged.joins ∙ c.least-first.ensures.rearranged.joins)
