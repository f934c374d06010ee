use Rattle.std.proofs.Common.{ℕ, ◌≡◌, ◌+◌, drop}
use Rattle.fr_syntax.specs.Lines.{tokens_at}
use Rattle.fr_syntax.proofs.lexer.skip_blanks.Given as goal

-- blanks were passed over
abbrev pub invariant-loop-i : goal.invariant-loop-i
invariant-loop-i l = (p : ℕ) → tokens_at p 0 l.text ≡ tokens_at (p + l.i) 0 (drop l.i l.text)
