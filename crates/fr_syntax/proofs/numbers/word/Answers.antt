use Rattle.std.proofs.Common.{sym, ap, ◌≡◌, ◌∙◌, inl, inr, ◌⊎◌, List, [], ℕ, Err, Result, true}
use Rattle.fr_alphabet.specs.declared.word.WordFault.{WordFault}
use Rattle.fr_alphabet.specs.declared.word.WordFault.TheVariants.{NoMemory, WordTooLong, NotALetter}
use Rattle.fr_syntax.specs.Values.{letters_of, has_bad_letter, read_letters, is_refused}
use Rattle.fr_syntax.proofs.numbers.word.Goals as goal

pub returns-in-Ok-clause-word : goal.returns-in-Ok-clause-word
unfolding letters_of
returns-in-Ok-clause-word c = sym (ap read_letters c.in-Ok.ensures.ok)

pub returns-in-Ok-clause-refused : goal.returns-in-Ok-clause-refused
unfolding has_bad_letter
returns-in-Ok-clause-refused c = sym (ap is_refused c.in-Ok.ensures.ok)

empty_letters : {r : Result (List ℕ) WordFault} {e : WordFault} → (e ≡ NoMemory → ⊥) → (e ≡ NoMemory) ⊎ (r ≡ Err e) → read_letters r ≡ []
empty_letters other (inl h) = absurd (other h)
empty_letters other (inr h) = ap read_letters h

refused : {r : Result (List ℕ) WordFault} {e : WordFault} → (e ≡ NoMemory → ⊥) → (e ≡ NoMemory) ⊎ (r ≡ Err e) → is_refused r ≡ true
refused other (inl h) = absurd (other h)
refused other (inr h) = ap is_refused h

too_long : {e : WordFault} → e ≡ WordTooLong → e ≡ NoMemory → ⊥
too_long h k = cc

bad_letter : {e : WordFault} {k : ℕ} → e ≡ NotALetter k → e ≡ NoMemory → ⊥
bad_letter h k = cc

pub returns-in-Err-WordTooLong-clause-word : goal.returns-in-Err-WordTooLong-clause-word
unfolding letters_of
returns-in-Err-WordTooLong-clause-word c =
    c.refused_word.ensures.word ∙ sym (empty_letters (too_long c.in-Err-WordTooLong.field-0-is) c.in-Err-WordTooLong.ensures.err)

pub returns-in-Err-WordTooLong-clause-refused : goal.returns-in-Err-WordTooLong-clause-refused
unfolding has_bad_letter
returns-in-Err-WordTooLong-clause-refused c =
    c.refused_word.ensures.refused ∙ sym (refused (too_long c.in-Err-WordTooLong.field-0-is) c.in-Err-WordTooLong.ensures.err)

pub returns-in-Err-NotALetter-clause-word : goal.returns-in-Err-NotALetter-clause-word
unfolding letters_of
returns-in-Err-NotALetter-clause-word c =
    c.refused_word-in-Err-NotALetter.ensures.word ∙ sym (empty_letters (bad_letter c.in-Err-NotALetter.field-0-is) c.in-Err-NotALetter.ensures.err)

pub returns-in-Err-NotALetter-clause-refused : goal.returns-in-Err-NotALetter-clause-refused
unfolding has_bad_letter
returns-in-Err-NotALetter-clause-refused c =
    c.refused_word-in-Err-NotALetter.ensures.refused ∙ sym (refused (bad_letter c.in-Err-NotALetter.field-0-is) c.in-Err-NotALetter.ensures.err)
