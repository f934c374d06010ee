use Rattle.std.proofs.Common.{ℕ, ◌≡◌, ◌<◌, ◌++◌, List, [], ◌∷◌, length, get_or, reverse}
use Rattle.fr_minimal.specs.Searches.{AreWords}
use Rattle.fr_minimal.proofs.search.Search.word_to.Given as goal

abbrev pub invariant-loop-at : goal.invariant-loop-at
invariant-loop-at l = record {
  inside : l.at < length l.self.met.items;
  spelled : (words : List (List ℕ)) → AreWords l.self.met.items words → get_or words l.at [] ++ reverse l.letters.items ≡ get_or words l.place [] ++ l.last ∷ [];
}

abbrev pub decreases-loop-at : goal.decreases-loop-at
decreases-loop-at l = l.at
