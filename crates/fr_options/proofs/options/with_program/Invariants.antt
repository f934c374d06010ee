use Rattle.std.proofs.Common.{◌≡◌, ◌∷◌, ◌++◌, map, codes, drop}
use Rattle.fr_options.proofs.options.with_program.Given as goal

abbrev pub invariant-loop-word : goal.invariant-loop-word
invariant-loop-word l = map (λ w. w.now) l.given.items ++ map (λ w. w.bytes.items) (drop l.word-index l.words) ≡ codes "frcalc" ∷ map (λ w. w.bytes.items) l.words
