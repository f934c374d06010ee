-- What was read of a script, and what is left of it.
use Rattle.std.proofs.Common.{◌≡◌, ℕ, ◌+◌, ◌<◌, ◌≤◌, List, [], ◌∷◌, ◌++◌, length, Option, Some, None, refl, ap, sym, ◌∙◌, arith, append_assoc, append-nil, subst}
use Rattle.fr_script.specs.declared.item.Item.{Item}
use Rattle.fr_script.specs.declared.line_reader.State.{State}
use Rattle.fr_script.specs.declared.line_reader.Advance.{Advance}
use Rattle.fr_script.specs.declared.item.Block.{Block}
use Rattle.fr_script.specs.declared.item.Outside.{Outside}
use Rattle.fr_script.specs.declared.item.Outside.TheVariants as out
use Rattle.fr_script.specs.declared.item.Inside.{Inside}
use Rattle.fr_script.specs.declared.item.Inside.TheVariants as ins
use Rattle.fr_script.specs.Items.{listed}
use Rattle.fr_script.specs.Pushes.{Pushes, AdvancesFrom, RunsFrom, after_outside, after_inside, begun, last_item, told_alphabet, IsFull}
use Rattle.fr_script.specs.Scripts.{IsReadByLines, lines_of, IsScript}
use Rattle.fr_script.proofs.ByLines.{script_from_lines}

-- Whatever the lines that are left do, all lines do with the items so far. Those that were read are counted.
pub record IsLeft (text rest : List ℕ) (items : List Item) (state : State) : Type 0 where
  pub goes_on : (later : List Item) (last : State) → RunsFrom state (lines_of rest) later last → RunsFrom begun (lines_of text) (items ++ later) last
  pub count : state.count + length (lines_of rest) ≡ length (lines_of text)
  pub few : state.count ≤ 4096

abbrev pub Left : List ℕ → List ℕ → List Item → Option State → Type 0
Left text rest items None = ⊥
Left text rest items (Some state) = IsLeft text rest items state

pub left-begun : (text : List ℕ) (items : List Item) (state : Option State) → items ≡ [] → state ≡ Some begun → Left text text items state
left-begun text items state e h =
    let P : Option State → Type 0 = λ s. Left text text items s in
    let Q : List Item → Type 0 = λ l. Left text text l (Some begun) in
    subst P (sym h) (subst Q (sym e) (record { goes_on = λ later last runs. runs; count = omega arith; few = omega arith }))

counted : (d : ℕ) (b : _) (n : ℕ) (block : Option Block) (line : List ℕ) (next : Advance) → AdvancesFrom d b n block line next → next.state.count ≡ n
counted d b n None line next h = ap (λ a. a.state.count) h.2 ∙ outside h.0
  where
    outside : (o : Outside) → (after_outside d b n o).state.count ≡ n
    outside out.Blank = refl
    outside (out.Begins block) = refl
    outside (out.Is item) = refl
counted d b n (Some block) line next h = ap (λ a. a.state.count) h.2 ∙ inside h.0
  where
    inside : (i : Inside) → (after_inside d b n i).state.count ≡ n
    inside (ins.Goes other) = refl
    inside (ins.Ends item) = refl

-- one line more
pub left-more : (text rest after line : List ℕ) (items : List Item) (old new : Option State) (item : Option Item) →
    lines_of rest ≡ line ∷ lines_of after → (IsFull old → ⊥) → Pushes old line item new → Left text rest items old → Left text after (items ++ listed item) new
left-more text rest after line items None new item cut room pushed left = absurd left
left-more text rest after line items (Some old) None item cut room pushed left = absurd pushed
left-more text rest after line items (Some old) (Some new) item cut room pushed left =
    let next : Advance = record { state = new; item = item } in
    let count : new.count ≡ old.count + 1 = counted old.alphabet old.begun (old.count + 1) old.block line next pushed in
    record {
      goes_on = λ later last runs.
          let P : List (List ℕ) → Type 0 = λ l. RunsFrom old l (listed item ++ later) last in
          let Q : List Item → Type 0 = λ l. RunsFrom begun (lines_of text) l last in
          subst Q (sym (append_assoc items (listed item) later))
          (left.goes_on (listed item ++ later) last (subst P (sym cut) (next, later, pushed, runs, refl)));
      count = omega (arith, left.count, ap length cut, count);
      few = grind (arith, count);
    }

-- no line is left
pub left-by_lines : (text : List ℕ) (items all : List Item) (alphabet : ℕ) (state : Option State) → Left text [] items state → alphabet ≡ told_alphabet state →
    all ≡ items ++ listed (last_item state) → IsReadByLines text (record { alphabet = alphabet; items = all })
left-by_lines text items all alphabet None left h e = absurd left
left-by_lines text items all alphabet (Some last) left h e = record {
  few = omega (arith, left.count, left.few);
  ended = items ++ [];
  last = last;
  runs = left.goes_on [] last (refl, refl);
  items = e ∙ ap (λ l. l ++ listed (last_item (Some last))) (sym (append-nil items));
  alphabet = h;
}

-- and so the script
pub left-none : (text : List ℕ) (items all : List Item) (alphabet : ℕ) (state : Option State) → Left text [] items state → alphabet ≡ told_alphabet state →
    all ≡ items ++ listed (last_item state) → IsScript text (record { alphabet = alphabet; items = all })
left-none text items all alphabet state left h e = script_from_lines text (record { alphabet = alphabet; items = all }) (left-by_lines text items all alphabet state left h e)

-- a line is left, and there were as many as there may be
pub left-full : (text rest after line : List ℕ) (items : List Item) (state : Option State) → lines_of rest ≡ line ∷ lines_of after → IsFull state →
    Left text rest items state → 4096 < length (lines_of text)
left-full text rest after line items None cut full left = absurd full
left-full text rest after line items (Some old) cut full left = omega (arith, left.count, full, ap length cut)
