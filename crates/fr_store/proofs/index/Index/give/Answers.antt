use Rattle.std.proofs.Common.{arith, ℕ, ◌<◌, List, [], ◌∷◌, ◌++◌, length, sym, subst}
use Rattle.fr_store.specs.Blocks.{code_at}
use Rattle.fr_store.specs.Index.{IsGap, IsGiven}
use Rattle.fr_store.proofs.TableLaws.{IsGiven-new}
use Rattle.fr_store.proofs.index.Index.give.Goals as goal

pub returns-in-Err-clause-given : goal.returns-in-Err-clause-given
returns-in-Err-clause-given c =
    let b = c.args.blocks.now in
    let s = c.args.self.now in
    let code : ℕ → List ℕ = code_at b.alphabet b.rows.items b.places.items in
    let rows = length b.rows.items in
    let some : 0 < length s.cells.items = omega (arith, c.requires.few) in
    let P : List ℕ → Type 0 = λ w. IsGap code s.cells.items w c.in-Err.cell in
    let gap = subst P c.code.ensures c.in-Err.ensures.found in
    let given = IsGiven-new code s.handles.items s.cells.items c.requires.table c.args.row c.in-Err.cell some gap rows c.requires.distinct c.requires.row in
    let Q : List ℕ → Type 0 = λ hs. IsGiven code rows c.args.row s.handles.items hs c.put.new.self.cells.items c.args.row in
    let R : List ℕ → Type 0 = λ cs. IsGiven code rows c.args.row s.handles.items (s.handles.items ++ c.args.row ∷ []) cs c.args.row in
    subst Q (sym c.put.ensures.handles) (subst R (sym c.put.ensures.cells) given)
