use Rattle.fr_alphabet.proofs.WordLaws.{All-from_IsWord}
use Rattle.fr_alphabet.proofs.word.Word.letters.Goals as goal

pub returns-clause-each : goal.returns-clause-each
returns-clause-each c = rw c.deref.ensures.value (All-from_IsWord 8 c.self.inside.letters.items c.self.invariant.letters)
