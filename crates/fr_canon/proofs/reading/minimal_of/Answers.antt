use Rattle.std.proofs.Common.{ℕ, ◌≡◌, ◌<◌, ap, sym, subst, refl, inr, List, length, get_or}
use Rattle.fr_machine.specs.declared.row.Row.{Row}
use Rattle.fr_machine.specs.Machine.{MachineView}
use Rattle.fr_machine.specs.Rows.{states_of}
use Rattle.fr_machine.specs.Minimal.{AreUnlike, IsMinimal}
use Rattle.fr_classes.specs.Classes.{AreClasses}
use Rattle.fr_canon.specs.Readings.{IsInOrder}
use Rattle.fr_canon.proofs.WalkReadLaws.{AreReached-read, IsCanonical-read, unlike_from_classes, IsFirstRepeated-from_classes}
use Rattle.fr_canon.proofs.reading.minimal_of.Goals as goal

abbrev Order : List Row → Type 0
Order rows = (j : ℕ) → j < length rows → IsInOrder (states_of rows) j

abbrev Own : List ℕ → Type 0
Own of = (i : ℕ) → i < length of → get_or of i 0 ≡ i

-- each class is its own place
unlike : (rows machine : List Row) (of seen : List ℕ) → machine ≡ rows → seen ≡ of → AreClasses machine of → Own seen → AreUnlike rows
unlike rows machine of seen e f c own = let P : List Row → Type 0 = λ rs. AreClasses rs of in unlike_from_classes rows of (subst P e c) (subst Own f own)

pub returns-in-Some-first_repeated-clause-err : goal.returns-in-Some-first_repeated-clause-err
returns-in-Some-first_repeated-clause-err c =
    let rows = c.args.rows.items in
    let of = c.in_ok-of.of.items in
    let k = c.in-Some-first_repeated.k in
    let P : List Row → Type 0 = λ rs. AreClasses rs of in
    let Q : List ℕ → Type 0 = λ xs. (k < length xs) × (get_or xs k 0 ≡ k → ⊥) × ((i : ℕ) → i < k → get_or xs i 0 ≡ i) in
    let found = subst Q c.deref-2.ensures.value c.in-Some-first_repeated.ensures in
    inr (k, refl, inr (IsFirstRepeated-from_classes rows of k (subst P (ap (λ m. m.rows) c.from_rows-machine.ensures) c.in_ok-of.ensures) (subst Order c.deref.ensures.value c.in_default.ensures) found.0 found.1 found.2))

pub of-requires : goal.of-requires
of-requires c =
    let rows = c.args.rows.items in
    let order = subst Order c.deref.ensures.value c.in_default.ensures in
    let P : MachineView → Type 0 = λ m. IsMinimal m.alphabet m.rows in
    let all : IsMinimal c.args.a rows = record {
      machine = c.requires.rows;
      small = c.requires.few;
      reached = AreReached-read c.args.a rows c.requires.rows c.requires.few order;
      unlike = unlike rows c.from_rows-machine.result.rows c.in_ok-of.of.items c.deref-2.result.now (ap (λ m. m.rows) c.from_rows-machine.ensures) c.deref-2.ensures.value c.in_ok-of.ensures c.in_default-first_repeated.ensures;
    } in
    subst P (sym c.from_rows-machine.ensures) all

pub returns-clause-canonical : goal.returns-clause-canonical
returns-clause-canonical c =
    let rows = c.args.rows.items in
    let order = subst Order c.deref.ensures.value c.in_default.ensures in
    IsCanonical-read c.args.a rows c.requires.rows c.requires.few order (unlike rows c.from_rows-machine.result.rows c.in_ok-of.of.items c.deref-2.result.now (ap (λ m. m.rows) c.from_rows-machine.ensures) c.deref-2.ensures.value c.in_ok-of.ensures c.in_default-first_repeated.ensures)
