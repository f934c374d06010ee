use Rattle.std.proofs.Common.{◌≡◌, ◌++◌, take, map}
use Rattle.std.specs.List.{All}
use Rattle.fr_model.specs.Terms.{Term, Section, act}
use Rattle.fr_alphabet.specs.Writing.{letter_digit}
use Rattle.fr_store.specs.Store.{IsKnown, Stands, Reads}
use Rattle.fr_eval.specs.Transitions.{IsTransition}
use Rattle.fr_eval.proofs.images.push_long_image.Given as goal

abbrev pub invariant-loop-x : goal.invariant-loop-x
invariant-loop-x g l = record {
  known : IsKnown (g.S.Store.view.known l.store) l.at;
  reads : Reads g.S.Store.view l.fn.store l.store;
  kept : All (IsTransition g.S.Store.view l.store) l.table.kept;
  stands : (t : Term) → Stands g.S.Store.view l.fn.store l.fn.h t → Stands g.S.Store.view l.store l.at (Section t (take l.x-index l.word));
  image : (t : Term) → Stands g.S.Store.view l.fn.store l.fn.h t → l.out.items ≡ l.initial.out.items ++ map letter_digit (act t (take l.x-index l.word));
}
