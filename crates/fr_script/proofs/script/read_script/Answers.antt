use Rattle.std.proofs.Common.{◌≡◌, ◌∙◌, sym, ap, ◌++◌, ◌==◌, List, ℕ, [], ◌∷◌, length, true, arith}
use Rattle.std.proofs.lemmas.Bool.{eqb-true}
use Rattle.fr_script.specs.Items.{listed}
use Rattle.fr_script.specs.declared.item.Item.{Item}
use Rattle.fr_script.specs.declared.line_reader.State.{State}
use Rattle.std.proofs.Common.{Option}
use Rattle.fr_script.proofs.FitItems.{script-fits}
use Rattle.fr_script.proofs.ScriptLaws.{Left, left-by_lines, left-none}
use Rattle.fr_script.proofs.script.read_script.Goals as goal

at_end : (text rest : List ℕ) (items : List Item) (state : Option State) → (length rest == 0) ≡ true → Left text rest items state → Left text [] items state
at_end text [] items state h left = left
at_end text (c ∷ cs) items state h left = let none : length (c ∷ cs) ≡ 0 = eqb-true (length (c ∷ cs)) 0 h in absurd (omega (arith, none))

pub returns-clause-ok : goal.returns-clause-ok
returns-clause-ok c =
    left-none c.args.bytes.now c.loop-rest.items c.add-2.new.items c.alphabet-alphabet.result c.loop-rest.reader
    (at_end c.args.bytes.now c.loop-rest.rest.now c.loop-rest.items c.loop-rest.reader (sym c.is_empty.ensures ∙ c.loop-rest-test.false) c.loop-rest.invariant)
    c.alphabet-alphabet.ensures (c.in_ok-add-2.ensures ∙ ap (λ l. c.loop-rest.items ++ listed l) c.in_ok-finish.ensures.item)

pub returns-clause-by_lines : goal.returns-clause-by_lines
returns-clause-by_lines c =
    left-by_lines c.args.bytes.now c.loop-rest.items c.add-2.new.items c.alphabet-alphabet.result c.loop-rest.reader
    (at_end c.args.bytes.now c.loop-rest.rest.now c.loop-rest.items c.loop-rest.reader (sym c.is_empty.ensures ∙ c.loop-rest-test.false) c.loop-rest.invariant)
    c.alphabet-alphabet.ensures (c.in_ok-add-2.ensures ∙ ap (λ l. c.loop-rest.items ++ listed l) c.in_ok-finish.ensures.item)

pub returns-clause-over : goal.returns-clause-over
returns-clause-over c = λ many. absurd (omega (arith, many, (returns-clause-ok c).few))

pub returns-clause-fits : goal.returns-clause-fits
returns-clause-fits c = script-fits c.args.bytes.now _ (returns-clause-ok c)
