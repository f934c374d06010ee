use Rattle.std.proofs.Common.{◌≤◌, ℕ, [], length, get_or, Option, subst, sym, arith}
use Rattle.std.specs.Prelude.{MatchOption}
use Rattle.fr_machine.specs.declared.row.Row.{Row}
use Rattle.fr_machine.specs.Machine.{MachineView}
use Rattle.fr_machine.specs.Rows.{IsMachine}
use Rattle.fr_block.specs.Closures.{IsRowMade, IsRowPassed}
use Rattle.fr_block.specs.Elements.{StandsForNames}
use Rattle.fr_block.proofs.NameLaws.{IsBuilt-start, IsBuilt-more, IsMachine-names, StandsForNames-walk}
use Rattle.fr_block.proofs.closure.closure.Goals as goal

pub loop-alloc-init : goal.loop-alloc-init
loop-alloc-init c = IsBuilt-start c.args.block.now.alphabet c.args.block.now.system c.args.first c.args.count c.in_ok-words.words c.new-rows.result.items c.requires.names c.alphabet-a.ensures.valid.most c.in_ok-words.ensures c.new-rows.ensures.items

pub loop-alloc-preserved : goal.loop-alloc-preserved
loop-alloc-preserved c =
    let d = c.args.block.now.alphabet in
    let s = c.args.block.now.system in
    let ws = c.loop-alloc.words in
    let k = c.len-in-loop-alloc.result in
    let fs = get_or ws k [] in
    let P : Option Row → Type 0 = λ o. MatchOption o (IsRowPassed d s ws fs) (λ r. IsRowMade d s ws c.row_of.new.words fs r) in
    let made : IsRowMade d s ws c.row_of.new.words fs c.in-Some.row = subst P c.in-Some.is c.in_ok-row.ensures in
    IsBuilt-more d s c.args.first c.args.count ws c.row_of.new.words c.loop-alloc.rows.items c.push.new.self.items c.in-Some.row k c.loop-alloc.invariant (omega (arith, c.loop-alloc-test.true, c.len.ensures, c.loop-alloc.rows.ok.0, c.count.ensures.count)) (omega (arith, c.len-in-loop-alloc.ensures, c.loop-alloc.rows.ok.0)) made c.in_ok-push-in-Some.ensures.items

pub from_rows-requires : goal.from_rows-requires
from_rows-requires c =
    let d = c.args.block.now.alphabet in
    let s = c.args.block.now.system in
    let whole : length c.loop-alloc.words ≤ length c.loop-alloc.rows.items = omega (arith, c.loop-alloc-test.false, c.len.ensures, c.loop-alloc.rows.ok.0, c.count.ensures.count) in
    let Q : ℕ → Type 0 = λ a. IsMachine a c.loop-alloc.rows.items in
    subst Q (sym c.alphabet-a.ensures.value) (IsMachine-names d s c.args.first c.args.count c.loop-alloc.words c.loop-alloc.rows.items c.alphabet-a.ensures.valid c.requires.some c.requires.names c.loop-alloc.invariant whole c.count.ensures.apart)

pub returns-clause-names : goal.returns-clause-names
returns-clause-names c =
    let d = c.args.block.now.alphabet in
    let s = c.args.block.now.system in
    let whole : length c.loop-alloc.words ≤ length c.loop-alloc.rows.items = omega (arith, c.loop-alloc-test.false, c.len.ensures, c.loop-alloc.rows.ok.0, c.count.ensures.count) in
    let P : MachineView → Type 0 = λ m. StandsForNames d s c.args.first c.args.count m.rows in
    subst P (sym c.from_rows.ensures) (StandsForNames-walk d s c.args.first c.args.count c.loop-alloc.words c.loop-alloc.rows.items c.alphabet-a.ensures.valid c.requires.some c.requires.names c.loop-alloc.invariant whole c.count.ensures.apart)
