use Rattle.std.proofs.Common.{arith}
use Rattle.fr_alphabet.proofs.WordLaws.{digits_more, word_reading-word_text}
use Rattle.fr_alphabet.proofs.word.print_word.Goals as goal

pub loop-byte-preserved : goal.loop-byte-preserved
loop-byte-preserved c = digits_more _ c.loop-byte.byte-items c.loop-byte.byte-index (omega arith) (omega arith) c.loop-byte.invariant

pub returns-in_err-extend_from_slice-clause-reads_back : goal.returns-in_err-extend_from_slice-clause-reads_back
returns-in_err-extend_from_slice-clause-reads_back c = λ d h. word_reading-word_text d c.args.w.now (rw c.letters-letters.ensures.value at c.letters-letters.ensures.most) h

pub returns-clause-reads_back : goal.returns-clause-reads_back
returns-clause-reads_back c = λ d h. word_reading-word_text d c.args.w.now (rw c.letters-letters.ensures.value at c.letters-letters.ensures.most) h
