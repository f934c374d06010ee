use Rattle.std.proofs.Common.{◌∙◌, ◌+◌, ℕ, sym, ap, subst, arith}
use Rattle.fr_layout.specs.declared.plan.Plan.{Plan}
use Rattle.fr_layout.specs.Places.{field_at}
use Rattle.fr_layout.specs.Meaning.{field_value}
use Rattle.fr_machine.specs.declared.row.Row.{Row}
use Rattle.fr_words.specs.Asks.{MayFill}
use Rattle.fr_words.specs.Hands.{note}
use Rattle.fr_words.specs.Notes.{wrote}
use Rattle.fr_words_examples.specs.Filling.{block_at}
use Rattle.fr_words_examples.proofs.Fillings.{may_fill, filling_goes_on, adds_field, adds_both, row_is}
use Rattle.fr_words_examples.proofs.fill_row.Goals as goal

pub fill-requires-clause-asks : goal.fill-requires-clause-asks
fill-requires-clause-asks c =
    let p = c.args.words.now.plan in
    let start = c.args.machine.start in
    let rows = c.args.machine.rows.now in
    let v = note c.loop-field.hand in
    let n = c.loop-field.field in
    (block_at start rows, subst (λ (x : ℕ). MayFill p v (block_at start rows) (start + c.args.row) n x) (sym (c.field_value-value.ensures.value ∙ ap (λ (x : Row). field_value start x n) (row_is rows c.args.row c.index-rows-row.result c.requires.row c.index-rows-row.is))) (may_fill p start rows c.requires.machine.0 c.requires.machine.1 v c.args.row n c.requires.row (let l = ap (λ (q : Plan). q.letters) c.plan-plan.ensures.value in omega arith) c.loop-field.invariant.filling))

pub loop-field-preserved : goal.loop-field-preserved
loop-field-preserved c =
    let p = c.args.words.now.plan in
    let start = c.args.machine.start in
    let rows = c.args.machine.rows.now in
    let n = c.loop-field.field in
    let l = ap (λ (q : Plan). q.letters) c.plan-plan.ensures.value in
    record {
      of = c.fill.ensures.of;
      filling = filling_goes_on p start rows (note c.loop-field.hand) (note c.fill.new.self) c.args.row n c.requires.row (omega arith) c.loop-field.invariant.filling (c.fill.ensures.noted ∙ ap (wrote (note c.loop-field.hand) (field_at p (start + c.args.row) n)) (c.field_value-value.ensures.value ∙ ap (λ (x : Row). field_value start x n) (row_is rows c.args.row c.index-rows-row.result c.requires.row c.index-rows-row.is)));
      adds = adds_both p start rows (note c.args.hand.now) (note c.loop-field.hand) (note c.fill.new.self) c.loop-field.invariant.adds (adds_field p start rows (note c.loop-field.hand) (note c.fill.new.self) (start + c.args.row) n c.field_value-value.result (let f = c.requires.few.1 in omega arith) (omega arith) c.fill.ensures.noted);
    }
