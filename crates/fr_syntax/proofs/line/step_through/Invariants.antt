use Rattle.std.proofs.Common.{◌≡◌, map, drop}
use Rattle.fr_syntax.specs.Lines.{lexeme}
use Rattle.fr_syntax.specs.LineSteps.{read_from, reading}
use Rattle.fr_syntax.proofs.line.step_through.Given as goal

-- what is left to read gives the whole reading
abbrev pub invariant-loop-k : goal.invariant-loop-k
invariant-loop-k l = read_from l.a l.k l.spot (drop l.k (map lexeme l.tokens)) ≡ reading l.a (map lexeme l.tokens)
