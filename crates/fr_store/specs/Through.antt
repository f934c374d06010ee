-- A store that wraps another, and is seen as that one. This project's own.
use Rattle.fr_store.specs.Store.{View}

-- what contracts see of the store inside
abbrev pub through : {W S : Type 0} → (W → S) → View S → View W
through inside view = record {
  alphabet = λ w. view.alphabet (inside w);
  capacity = λ w. view.capacity (inside w);
  known = λ w. view.known (inside w);
  own = λ w. view.own (inside w);
  seen = λ w. view.seen (inside w);
  kin = λ w v. view.kin (inside w) (inside v);
  missed = λ code w v. view.missed code (inside w) (inside v);
  gave = λ n w v. view.gave n (inside w) (inside v);
}
