use Rattle.std.proofs.Common.{length, refl, ◌∙◌, sym, ap, arith, ◌≡◌, ◌≢◌, List, ℕ, [], subst}
use Rattle.std.proofs.lemmas.List.{get_or_read}
use Rattle.std.specs.Cmp.Lexicographic.{other_text}
use Rattle.fr_classes.specs.KeyTables.{number_in, IsEntered}
use Rattle.fr_classes.specs.Refinement.{known_at}
use Rattle.fr_classes.proofs.TargetLaws.{target_fresh}
use Rattle.fr_classes.proofs.partition.Partition.target.Goals as goal

pub overflow_cast-number : goal.overflow_cast-number
overflow_cast-number c =
    let p = c.args.self.now in
    let apart : known_at p c.args.class ≢ c.args.signature.now = λ same. other_text _ _ c.if-eq.ensures (get_or_read _ _ _ c.requires.class c.index.ensures [] ∙ same) in
    omega (arith, c.requires.room apart, c.len-number.ensures, p.known.ok.0)

pub returns : goal.returns
returns c =
    let known_len : c.len-number.result ≡ length c.args.self.now.known.items = omega (arith, c.len-number.ensures, c.args.self.now.known.ok.0) in
    let Q : List ℕ → Type 0 = λ key. IsEntered c.args.seen.now c.enter.new.self key c.len-number.result in
    target_fresh c.args.self.now _ c.args.seen.now c.enter.new.self c.args.class c.args.signature.now c.len-number.result refl refl refl c.in_ok-push.ensures.items c.in_ok-push-2.ensures.items known_len c.requires.as_many c.in_ok-enter.ensures.table
    (ap (number_in c.args.seen.now) (sym c.key_of-key.ensures) ∙ sym c.number_of.ensures ∙ c.in_default.is) (subst Q c.key_of-key.ensures c.in_ok-enter.ensures.entered)
    (λ same. other_text _ _ c.if-eq.ensures (get_or_read _ _ _ c.requires.class c.index.ensures [] ∙ same))
