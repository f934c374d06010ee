use Rattle.std.proofs.Common.{ℕ, ◌≡◌, ◌≤◌, List, length, Option, Some}
use Rattle.std.specs.Prelude.{IsSome, IfSome}
use Rattle.std.proofs.Common.{refl}
use Rattle.fr_machine.specs.declared.row.Row.{Row}
use Rattle.fr_machine.specs.Machine.{MachineView}
use Rattle.fr_machine.specs.Rows.{IsMachine}
use Rattle.fr_machine.specs.Minimal.{IsMinimal, AreReached, AreUnlike}
use Rattle.fr_ray.proofs.tests.minimal.Goals as goal

minimal_from : (a : ℕ) (rows : List Row) (o : Option MachineView) (m : MachineView) → o ≡ Some m → (IsSome o → IsMachine a rows) → IfSome o (λ n. n ≡ record { alphabet = a; rows = rows }) → a ≡ 2 → length rows ≤ 1024 → AreReached 2 rows → AreUnlike rows → IsMinimal m.alphabet m.rows
minimal_from a rows o m e accepts value two small reached unlike =
    let is : m ≡ record { alphabet = a; rows = rows } = rw e at value in
    let machine : IsMachine a rows = accepts (rw e refl) in
    rw is (record { machine = machine; small = small; reached = rw two reached; unlike = unlike })

pub of-requires : goal.of-requires
of-requires c = minimal_from c.args.a c.args.rows.items c.new.result c.in_ok-m.m c.in_ok-m.ensures.ok_part c.new.ensures.accepts.0 c.new.ensures.value c.requires.letters c.requires.small c.requires.reached c.requires.unlike
