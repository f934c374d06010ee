use Rattle.std.proofs.Common.{length, ◌-◌, ◌≡◌, ◌≤◌, ◌+◌, ◌++◌, map, drop, vec_len, vec_capacity}
use Rattle.fr_syntax.specs.Lines.{located, tokens_at}
use Rattle.fr_syntax.proofs.lexer.tokens.Given as goal

abbrev pub invariant-loop-i : goal.invariant-loop-i
invariant-loop-i l = record {
  within : l.i ≤ length l.text;
  few : vec_len l.found ≤ l.i;
  room : length l.text ≤ vec_capacity l.found;
  told : map located l.found.items ++ tokens_at (l.i + 1) 0 (drop l.i l.text) ≡ tokens_at 1 0 l.text;
}

abbrev pub decreases-loop-i : goal.decreases-loop-i
decreases-loop-i l = length l.text - l.i
