use Rattle.std.proofs.Common.{refl, arith, ◌∙◌}
use Rattle.fr_machine.proofs.IdentityLaws.{IsMachine-identity, alike_identity}
use Rattle.fr_machine.proofs.machine.Machine.identity.Goals as goal

pub invariant_of-result : goal.invariant_of-result
invariant_of-result c = IsMachine-identity c.args.a c.push.new.self.items (omega (arith, c.letters-letters.ensures.least, c.letters-letters.ensures.value)) (omega (arith, c.letters-letters.ensures.most, c.letters-letters.ensures.value)) (c.in_ok-push.ensures.items ∙ rw (c.new-rows.ensures.items, c.identity.ensures) refl)

pub returns-clause-alike : goal.returns-clause-alike
returns-clause-alike c = alike_identity c.args.a c.push.new.self.items (omega (arith, c.letters-letters.ensures.least, c.letters-letters.ensures.value)) (omega (arith, c.letters-letters.ensures.most, c.letters-letters.ensures.value)) (c.in_ok-push.ensures.items ∙ rw (c.new-rows.ensures.items, c.identity.ensures) refl)
