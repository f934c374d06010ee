use Rattle.std.proofs.Common.{rules, arith, ◌≡◌, ◌<◌, ◌++◌, ◌∙◌, ap, sym, subst, length, replicate, ℕ, List, get_or}
use Rattle.std.proofs.lemmas.List.{get_or_default}
use Rattle.fr_machine.specs.declared.row.Row.{Row}
use Rattle.fr_machine.specs.Minimal.{IsMinimal}
use Rattle.fr_store.specs.declared.blocks.Place.{Place}
use Rattle.fr_store.specs.Blocks.{code_at}
use Rattle.fr_store.specs.Entered.{IsEntered}
use Rattle.fr_store.specs.Index.{IsIndex, IsTable, IsLinked}
use Rattle.fr_store.proofs.EnterLaws.{index-pushed, table-pushed, entered}
use Rattle.fr_store.proofs.index.Index.enter.Goals as goal

indexed : (d d' : ℕ) (rows rows' : List Row) (places places' : List Place) (handles links : List ℕ) → d' ≡ d → rows' ≡ rows → places' ≡ places → IsIndex (code_at d rows places) (length rows) handles links → IsIndex (code_at d' rows' places') (length rows') handles links
indexed d d' rows rows' places places' handles links e f g i =
    let P : ℕ → Type 0 = λ d. IsIndex (code_at d rows' places') (length rows') handles links in
    let Q : List Row → Type 0 = λ rows. IsIndex (code_at d rows places') (length rows) handles links in
    let R : List Place → Type 0 = λ places. IsIndex (code_at d rows places) (length rows) handles links in
    subst P (sym e) (subst Q (sym f) (subst R (sym g) i))

tabled : (d d' : ℕ) (rows rows' : List Row) (places places' : List Place) (handles cells : List ℕ) → d' ≡ d → rows' ≡ rows → places' ≡ places → IsTable (code_at d rows places) handles cells → IsTable (code_at d' rows' places') handles cells
tabled d d' rows rows' places places' handles cells e f g t =
    let P : ℕ → Type 0 = λ d. IsTable (code_at d rows' places') handles cells in
    let Q : List Row → Type 0 = λ rows. IsTable (code_at d rows places') handles cells in
    let R : List Place → Type 0 = λ places. IsTable (code_at d rows places) handles cells in
    subst P (sym e) (subst Q (sym f) (subst R (sym g) t))

linked : (d d' : ℕ) (rows rows' : List Row) (places places' : List Place) (n n' : ℕ) (handles links handles' links' cells' : List ℕ) → d' ≡ d → rows' ≡ rows → places' ≡ places → n' ≡ n → IsLinked (code_at d' rows' places') (length rows') n' handles links handles' links' cells' → IsLinked (code_at d rows places) (length rows) n handles links handles' links' cells'
linked d d' rows rows' places places' n n' handles links handles' links' cells' e f g k i =
    let P : ℕ → Type 0 = λ d. IsLinked (code_at d rows places) (length rows) n handles links handles' links' cells' in
    let Q : List Row → Type 0 = λ rows. IsLinked (code_at d' rows places) (length rows) n handles links handles' links' cells' in
    let R : List Place → Type 0 = λ places. IsLinked (code_at d' rows' places) (length rows') n handles links handles' links' cells' in
    let S : ℕ → Type 0 = λ n. IsLinked (code_at d' rows' places') (length rows') n handles links handles' links' cells' in
    subst P e (subst Q f (subst R g (subst S k i)))

pub link_all-requires-clause-index : goal.link_all-requires-clause-index
link_all-requires-clause-index c =
    let b = c.args.blocks.now in
    let new = c.args.m.now.rows in
    let P : ℕ → Type 0 = λ e. IsMinimal e new in
    let minimal : IsMinimal b.alphabet new = subst P c.requires.alphabet c.push.ensures.minimal in
    indexed b.alphabet c.push.new.self.alphabet _ c.push.new.self.rows.items _ c.push.new.self.places.items c.args.self.now.handles.items c.args.self.now.links.items c.push.ensures.alphabet c.push.ensures.rows c.push.ensures.places
    (index-pushed b.alphabet b.rows.items b.places.items b.are_blocks new minimal c.args.self.now.handles.items c.args.self.now.links.items c.requires.index c.requires.whole)

pub link_all-requires-clause-table : goal.link_all-requires-clause-table
link_all-requires-clause-table c =
    let b = c.args.blocks.now in
    let new = c.args.m.now.rows in
    let P : ℕ → Type 0 = λ e. IsMinimal e new in
    let minimal : IsMinimal b.alphabet new = subst P c.requires.alphabet c.push.ensures.minimal in
    tabled b.alphabet c.push.new.self.alphabet _ c.push.new.self.rows.items _ c.push.new.self.places.items c.args.self.now.handles.items c.args.self.now.cells.items c.push.ensures.alphabet c.push.ensures.rows c.push.ensures.places
    (table-pushed b.alphabet b.rows.items b.places.items b.are_blocks new minimal c.args.self.now.handles.items c.args.self.now.links.items c.requires.index c.requires.whole c.args.self.now.cells.items c.requires.table)

pub returns-clause-entered : goal.returns-clause-entered
returns-clause-entered c =
    let b = c.args.blocks.now in
    let new = c.args.m.now.rows in
    let P : ℕ → Type 0 = λ e. IsMinimal e new in
    let minimal : IsMinimal b.alphabet new = subst P c.requires.alphabet c.push.ensures.minimal in
    let size : c.size.result ≡ length new = c.size.ensures in
    let start : c.len-start.result ≡ length b.rows.items = search rules in
    let link = linked b.alphabet c.push.new.self.alphabet _ c.push.new.self.rows.items _ c.push.new.self.places.items (length new) c.size.result c.args.self.now.handles.items c.args.self.now.links.items c.link_all.new.self.handles.items c.link_all.new.self.links.items c.link_all.new.self.cells.items c.push.ensures.alphabet c.push.ensures.rows c.push.ensures.places size c.link_all.ensures.linked in
    let all = entered b.alphabet b.rows.items b.places.items b.are_blocks new minimal c.args.self.now.handles.items c.args.self.now.links.items c.requires.index c.requires.whole c.link_all.new.self.handles.items c.link_all.new.self.links.items c.link_all.new.self.cells.items link in
    let longer = link.longer in
    let some = minimal.machine.least in
    let within : c.len-start.result < length c.link_all.new.self.links.items = omega (arith, start, longer, some, c.requires.whole) in
    let node : c.index.result.now ≡ get_or c.link_all.new.self.links.items (length b.rows.items) 0 = c.index.ensures ∙ get_or_default c.link_all.new.self.links.items c.len-start.result c.index.result.now 0 within ∙ ap (λ k. get_or c.link_all.new.self.links.items k 0) start in
    let Q : List Row → Type 0 = λ rows'. IsEntered b.alphabet b.rows.items b.places.items c.args.self.now.handles.items new rows' c.push.new.self.places.items c.link_all.new.self.handles.items c.link_all.new.self.links.items c.link_all.new.self.cells.items c.index.result.now in
    let R : List Place → Type 0 = λ places'. IsEntered b.alphabet b.rows.items b.places.items c.args.self.now.handles.items new (b.rows.items ++ new) places' c.link_all.new.self.handles.items c.link_all.new.self.links.items c.link_all.new.self.cells.items c.index.result.now in
    let S : ℕ → Type 0 = λ n. IsEntered b.alphabet b.rows.items b.places.items c.args.self.now.handles.items new (b.rows.items ++ new) (b.places.items ++ replicate (length new) (record { start = length b.rows.items; size = length new })) c.link_all.new.self.handles.items c.link_all.new.self.links.items c.link_all.new.self.cells.items n in
    subst Q (sym c.push.ensures.rows) (subst R (sym c.push.ensures.places) (subst S (sym node) all))
