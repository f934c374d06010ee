-- From a row that acts as a name to the name.
use Rattle.std.proofs.Common.{ℕ, ◌≡◌, ◌+◌, ◌<◌, inl, inr, List, length, get_or, Option, Some, None, subst, sym, ap, ◌∙◌, arith}
use Rattle.std.specs.Prelude.{IfSome, MatchOption, Result, Ok, Err, IsErrOf, IsErrAnd, refl}
use Rattle.fr_minimal.specs.declared.smallest.MinFault.{MinFault}
use Rattle.fr_minimal.specs.declared.smallest.MinFault.TheVariants.{StatesPassed, NoMemory}
use Rattle.fr_block.specs.declared.elements.NameFault.{NameFault}
use Rattle.fr_block.specs.declared.elements.NameFault.TheVariants.{StatesPassed as Passed, NoMemory as Want}
use Rattle.fr_block.specs.Elements.{name_fault_of}
use Rattle.fr_model.specs.Systems.{Factor, System}
use Rattle.fr_model.specs.Terms.{Name, IsAlike}
use Rattle.fr_model.specs.Classes.{HasMoreStates}
use Rattle.fr_model.specs.FreeWords.{IsSectionWord, IsClosurePassed}
use Rattle.fr_model.proofs.AlikeLaws.{alike_sym, alike_trans}
use Rattle.fr_model.proofs.ClassLaws.{IsSize-alike, HasMoreStates-alike}
use Rattle.fr_machine.specs.declared.row.Row.{Row}
use Rattle.fr_machine.specs.Rows.{row_term}
use Rattle.fr_minimal.specs.Smallest.{IsSmallest}
use Rattle.fr_block.specs.Elements.{StandsForNames, IsCommon}
use Rattle.fr_block.specs.Closures.{IsWordOf, AreClosuresPassed}
use Rattle.fr_block.specs.Blocks.{BlockView}
use Rattle.fr_block.specs.declared.elements.Common.{Common}
use Rattle.fr_machine.specs.Machine.{MachineView}

-- row i acts as the name n, which passes no limit
pub record StandsFor (d : ℕ) (s : System) (rows : List Row) (i n : ℕ) : Type 0 where
  pub below : i < length rows
  pub alike : IsAlike (row_term rows i) (Name s n)
  pub within : ¬ IsClosurePassed d s n

pub stands_at : (d : ℕ) (s : System) (first count : ℕ) (rows : List Row) (i n : ℕ) → StandsForNames d s first count rows → i < count → first + i ≡ n → StandsFor d s rows i n
stands_at d s first count rows i n h l e = subst (StandsFor d s rows i) e (record { below = h.enough i l; alike = h.alike i l; within = h.within i l })

pub smallest_name : (a d : ℕ) (s : System) (rows least : List Row) (i n : ℕ) → a ≡ d → StandsFor d s rows i n → IsSmallest a (row_term rows i) least → IsSmallest d (Name s n) least
smallest_name a d s rows least i n f e g =
    let h : IsSmallest d (row_term rows i) least = subst (λ c. IsSmallest c (row_term rows i) least) f g in
    record { alike = alike_trans h.alike e.alike; size = IsSize-alike d (row_term rows i) (Name s n) (length least) e.alike h.size }

pub more_states : (a d : ℕ) (s : System) (rows : List Row) (i n : ℕ) → a ≡ d → StandsFor d s rows i n → HasMoreStates a (row_term rows i) 1024 → HasMoreStates d (Name s n) 1024
more_states a d s rows i n f e h = let P : ℕ → Type 0 = λ c. HasMoreStates c (row_term rows i) 1024 in HasMoreStates-alike d (row_term rows i) (Name s n) 1024 e.alike (subst P f h)

pub more_back : (a d : ℕ) (s : System) (rows : List Row) (i n : ℕ) → a ≡ d → StandsFor d s rows i n → HasMoreStates d (Name s n) 1024 → HasMoreStates a (row_term rows i) 1024
more_back a d s rows i n f e h = let P : ℕ → Type 0 = λ c. HasMoreStates c (row_term rows i) 1024 in subst P (sym f) (HasMoreStates-alike d (Name s n) (row_term rows i) 1024 (alike_sym e.alike) h)

-- of the common machine, and of the machine of a name alone
common_is : (b v : BlockView) → b ≡ v → (o : Option Common) (c : Common) → IfSome o (λ c. IsCommon b.alphabet b.system c.machine c.classes.items) → o ≡ Some c → IsCommon v.alphabet v.system c.machine c.classes.items
common_is b v e o c h f =
    let P : Option Common → Type 0 = λ p. IfSome p (λ c. IsCommon b.alphabet b.system c.machine c.classes.items) in
    let Q : BlockView → Type 0 = λ w. IsCommon w.alphabet w.system c.machine c.classes.items in
    subst Q e (subst P f h)

pub common_alphabet : (b v : BlockView) → b ≡ v → (o : Option Common) (c : Common) → IfSome o (λ c. IsCommon b.alphabet b.system c.machine c.classes.items) → o ≡ Some c → c.machine.alphabet ≡ v.alphabet
common_alphabet b v e o c h f = (common_is b v e o c h f).alphabet

pub common_stands : (b v : BlockView) → b ≡ v → (o : Option Common) (c : Common) (n : ℕ) → IfSome o (λ c. IsCommon b.alphabet b.system c.machine c.classes.items) → o ≡ Some c → n < length v.system → StandsFor v.alphabet v.system c.machine.rows n n
common_stands b v e o c n h f l = stands_at v.alphabet v.system 0 (length v.system) c.machine.rows n n (common_is b v e o c h f).names l (omega arith)

pub alone_alphabet : (b v : BlockView) → b ≡ v → (o : Option MachineView) (m : MachineView) → IfSome o (λ m. m.alphabet ≡ b.alphabet) → o ≡ Some m → m.alphabet ≡ v.alphabet
alone_alphabet b v e o m h f =
    let P : Option MachineView → Type 0 = λ p. IfSome p (λ m. m.alphabet ≡ b.alphabet) in
    let g : m.alphabet ≡ b.alphabet = subst P f h in
    g ∙ ap (λ (w : BlockView). w.alphabet) e

pub alone_stands : (b v : BlockView) → b ≡ v → (o : Option MachineView) (m : MachineView) (n : ℕ) → MatchOption o (AreClosuresPassed b.alphabet b.system n 1) (λ m. StandsForNames b.alphabet b.system n 1 m.rows) → o ≡ Some m → StandsFor v.alphabet v.system m.rows 0 n
alone_stands b v e o m n h f =
    let P : Option MachineView → Type 0 = λ p. MatchOption p (AreClosuresPassed b.alphabet b.system n 1) (λ m. StandsForNames b.alphabet b.system n 1 m.rows) in
    let Q : BlockView → Type 0 = λ w. StandsForNames w.alphabet w.system n 1 m.rows in
    stands_at v.alphabet v.system n 1 m.rows 0 n (subst Q e (subst P f h)) (omega arith) (omega arith)

closures_one : (d : ℕ) (s : System) (n : ℕ) → AreClosuresPassed d s n 1 → IsClosurePassed d s n
closures_one d s n (inl many) = inl (record { members = many.members; more = many.more; valid = λ k z l. word_one (get_or many.members k z) (many.valid k z l); apart = many.apart })
  where
    word_one : (fs : List Factor) → IsWordOf d s n 1 fs → IsSectionWord d s n fs
    word_one fs w = let e : w.name ≡ n = omega (arith, w.least, w.most) in let P : ℕ → Type 0 = λ k. IsSectionWord d s k fs in subst P e w.word
closures_one d s n (inr long) =
    let w = long.1 in
    let e : w.name ≡ n = omega (arith, w.least, w.most) in
    let P : ℕ → Type 0 = λ k. IsSectionWord d s k long.0 in
    inr (long.0, record { word = subst P e w.word; long = long.2 })

pub alone_passed : (b v : BlockView) → b ≡ v → (o : Option MachineView) (n : ℕ) → MatchOption o (AreClosuresPassed b.alphabet b.system n 1) (λ m. StandsForNames b.alphabet b.system n 1 m.rows) → o ≡ None → IsClosurePassed v.alphabet v.system n
alone_passed b v e o n h f =
    let P : Option MachineView → Type 0 = λ p. MatchOption p (AreClosuresPassed b.alphabet b.system n 1) (λ m. StandsForNames b.alphabet b.system n 1 m.rows) in
    let Q : BlockView → Type 0 = λ w. AreClosuresPassed w.alphabet w.system n 1 in
    closures_one v.alphabet v.system n (subst Q e (subst P f h))

-- the fault of the smallest machine, seen through that of the name
pub fault_is : {T : Type 0} (r : Result T NameFault) (f : MinFault) → IsErrAnd r (λ e. e ≡ name_fault_of f) → IsErrOf r Passed → f ≡ StatesPassed
fault_is (Ok q) f h k = cc
fault_is (Err e) StatesPassed h k = refl
fault_is {T} (Err e) NoMemory h k =
    let E : NameFault → Result T NameFault = λ x. Err x in
    let c : E Want ≡ E Passed = ap E (sym h) ∙ k in
    cc
