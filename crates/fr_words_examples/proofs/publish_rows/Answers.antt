use Rattle.std.proofs.Common.{◌∙◌, ◌+◌, ◌-◌, ◌≡◌, ℕ, [], ◌∷◌, length, inl, sym, ap, subst, arith}
use Rattle.fr_machine.specs.Rows.{IsMachine}
use Rattle.fr_layout.specs.declared.plan.Plan.{Plan}
use Rattle.fr_layout.specs.Places.{field_at}
use Rattle.fr_words.specs.Asks.{IsFinished}
use Rattle.fr_words.specs.Hands.{note}
use Rattle.fr_words.specs.Members.{Has, Owns}
use Rattle.fr_words.specs.Notes.{claim_of, claimed}
use Rattle.fr_words.specs.declared.notes.Note.{Note}
use Rattle.fr_words.proofs.Members.{owns_right}
use Rattle.fr_words_examples.specs.Filling.{block_at, KnowsRows, Adds}
use Rattle.fr_words_examples.specs.Settled.{IsSettled}
use Rattle.fr_words_examples.proofs.Fillings.{filling_begins, finished_again}
use Rattle.fr_words_examples.proofs.Settling.{settled_more}
use Rattle.fr_words_examples.proofs.publish_rows.Goals as goal

pub claim-requires-clause-finished : goal.claim-requires-clause-finished
claim-requires-clause-finished c = subst (IsFinished c.args.words.now.plan) (sym c.look_claim-seen.ensures.noted) c.requires.finished

pub publish_at-requires-clause-filling : goal.publish_at-requires-clause-filling
publish_at-requires-clause-filling c =
    let p = c.args.words.now.plan in
    let rows = c.args.rows.now in
    let start = c.in-Ok.start in
    let u = note c.look_claim-seen.new.self in
    let seen = c.look_claim-seen.result in
    let won = c.in-Ok.ensures.claimed in
    let first : seen ≡ start = sym won.0 in
    let size : (seen + length rows) - seen ≡ length rows = omega arith in
    filling_begins p start rows (note c.claim.new.self)
    (subst (λ (v : Note). Owns v.own (block_at start rows)) (sym won.1) (owns_right u.own (claim_of u seen (seen + length rows) ∷ []) (block_at start rows) (inl (λ i. record { start = first i; size = size i }))))
    (λ r f y lo hi l. subst (λ (v : Note). ¬ Has v.facts (field_at p r f) y) (sym won.1) (c.in-Ok.ensures.fresh r f y lo hi l))

pub returns-then-publish_at-clause-finished : goal.returns-then-publish_at-clause-finished
returns-then-publish_at-clause-finished c =
    let p = c.args.words.now.plan in
    let rows = c.args.rows.now in
    let start = c.in-Ok.start in
    let u = note c.look_claim-seen.new.self in
    let seen = c.look_claim-seen.result in
    let won = c.in-Ok.ensures.claimed in
    let first : seen ≡ start = sym won.0 in
    let size : (seen + length rows) - seen ≡ length rows = omega arith in
    finished_again p start rows u (note c.claim.new.self) (note c.publish_at.new.hand) (claim_of u seen (seen + length rows))
    (subst (IsFinished p) (sym c.look_claim-seen.ensures.noted) c.requires.finished)
    (ap (λ (v : Note). v.own) won.1) (ap (λ (v : Note). v.facts) won.1) (λ i. record { start = first i; size = size i })
    (c.publish_at.ensures.adds c.if-publish_at.true) (c.publish_at.ensures.known c.if-publish_at.true).fields

pub returns-then-publish_at-clause-settled : goal.returns-then-publish_at-clause-settled
returns-then-publish_at-clause-settled c = λ before.
    let rows = c.args.rows.now in
    let start = c.in-Ok.start in
    let u = note c.look_claim-seen.new.self in
    let v = note c.claim.new.self in
    let w = note c.publish_at.new.hand in
    let seen = c.look_claim-seen.result in
    let won = c.in-Ok.ensures.claimed in
    let plan = c.publish_at.ensures.of.1 in
    settled_more w w.last_word w.last_value (c.publish_at.ensures.lawful c.if-publish_at.true) start rows
    (subst (λ (d : ℕ). IsMachine d rows) (sym (ap (λ (p : Plan). p.letters) plan ∙ c.requires.letters)) c.requires.machine.0)
    (subst (λ (p : Plan). KnowsRows p w start rows) (sym plan) (c.publish_at.ensures.known c.if-publish_at.true))
    v (c.claim.ensures.of.1 ∙ sym plan)
    (subst (λ (p : Plan). Adds p start rows v w) (sym plan) (c.publish_at.ensures.adds c.if-publish_at.true))
    (subst IsSettled (sym won.1) (subst (λ (x : Note). IsSettled (claimed x seen (seen + length rows))) (sym c.look_claim-seen.ensures.noted) before))
