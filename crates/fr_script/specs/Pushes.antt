-- What one line more does to what was read of a script.
use Rattle.std.specs.Prelude.{ℕ, ◌≡◌, ◌+◌, ◌≤◌, Bool, true, false, not, List, [], ◌∷◌, ◌++◌, Option, Some, None}
use Rattle.fr_script.specs.declared.item.Item.{Item}
use Rattle.fr_script.specs.declared.item.Block.{Block}
use Rattle.fr_script.specs.declared.item.Outside.{Outside}
use Rattle.fr_script.specs.declared.item.Outside.TheVariants as out
use Rattle.fr_script.specs.declared.item.Inside.{Inside}
use Rattle.fr_script.specs.declared.item.Inside.TheVariants as ins
use Rattle.fr_script.specs.declared.line_reader.State.{State}
use Rattle.fr_script.specs.declared.line_reader.Advance.{Advance}
use Rattle.fr_script.specs.Items.{ReadsOutside, ReadsInside, listed, without_end, alphabet_after}

-- what was read, with one line more outside a block
abbrev pub after_outside : ℕ → Bool → ℕ → Outside → Advance
after_outside d begun count out.Blank = record { state = record { alphabet = d; count = count; begun = begun; block = None }; item = None }
after_outside d begun count (out.Begins block) = record { state = record { alphabet = d; count = count; begun = begun; block = Some block }; item = None }
after_outside d begun count (out.Is item) =
    record { state = record { alphabet = alphabet_after d item.body; count = count; begun = true; block = None }; item = Some item }

-- what was read, with one line more inside a block
abbrev pub after_inside : ℕ → Bool → ℕ → Inside → Advance
after_inside d begun count (ins.Goes block) = record { state = record { alphabet = d; count = count; begun = begun; block = Some block }; item = None }
after_inside d begun count (ins.Ends item) = record { state = record { alphabet = d; count = count; begun = true; block = None }; item = Some item }

-- one line more outside a block
abbrev pub AdvancesOutside : ℕ → Bool → ℕ → List ℕ → Advance → Type 0
AdvancesOutside d begun count line next = (outside : Outside) × ReadsOutside d (not begun) count line outside × (next ≡ after_outside d begun count outside)

-- one line more inside a block
abbrev pub AdvancesInside : ℕ → Bool → ℕ → Block → List ℕ → Advance → Type 0
AdvancesInside d begun count block line next = (inside : Inside) × ReadsInside d block count line inside × (next ≡ after_inside d begun count inside)

-- one line more, which has the number n
abbrev pub AdvancesFrom : ℕ → Bool → ℕ → Option Block → List ℕ → Advance → Type 0
AdvancesFrom d begun count None line next = AdvancesOutside d begun count line next
AdvancesFrom d begun count (Some block) line next = AdvancesInside d begun count block line next

-- one line more
abbrev pub Advances : State → List ℕ → Advance → Type 0
Advances state line next = AdvancesFrom state.alphabet state.begun (state.count + 1) state.block line next

-- one line more to a reader, which ends this item
abbrev pub Pushes : Option State → List ℕ → Option Item → Option State → Type 0
Pushes (Some old) line item (Some new) = Advances old line (record { state = new; item = item })
Pushes _ line item _ = ⊥

-- as many lines were read as a script may have
abbrev pub IsFull : Option State → Type 0
IsFull (Some state) = 4096 ≤ state.count
IsFull None = ⊥

-- the item of a block that has no end
abbrev pub end_of : Option Block → Option Item
end_of (Some block) = Some (without_end block.line)
end_of None = None

-- the item of a block without end
abbrev pub last_item : Option State → Option Item
last_item (Some state) = end_of state.block
last_item None = None

-- the alphabet of the lines so far
abbrev pub told_alphabet : Option State → ℕ
told_alphabet (Some state) = state.alphabet
told_alphabet None = 2

-- before the first line
abbrev pub begun : State
begun = record { alphabet = 2; count = 0; begun = false; block = None }

-- what lines do one after the other: the items that they end, and what was read then
abbrev pub RunsFrom : State → List (List ℕ) → List Item → State → Type 0
RunsFrom old [] items last = (items ≡ []) × (last ≡ old)
RunsFrom old (line ∷ lines) items last =
    (next : Advance) × (later : List Item) × Advances old line next × RunsFrom next.state lines later last × (items ≡ listed next.item ++ later)
