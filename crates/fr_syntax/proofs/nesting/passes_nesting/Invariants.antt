use Rattle.std.proofs.Common.{◌≡◌, ◌≤◌, ◌+◌, map, drop}
use Rattle.fr_syntax.specs.Lines.{lexeme, passes_nesting}
use Rattle.fr_syntax.proofs.nesting.passes_nesting.Given as goal

abbrev pub invariant-loop-token : goal.invariant-loop-token
invariant-loop-token l = record {
  few : l.round + l.square ≤ 64;
  left : passes_nesting l.round l.square (drop l.token-index (map lexeme l.tokens)) ≡ passes_nesting 0 0 (map lexeme l.tokens);
}
