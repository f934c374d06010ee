use Rattle.std.proofs.Common.{◌+◌, sym, subst}
use Rattle.fr_layout.specs.Packs.{pack_of}
use Rattle.fr_layout.specs.Places.{cell_at}
use Rattle.fr_words.specs.Hands.{note}
use Rattle.fr_words.specs.Members.{Has}
use Rattle.fr_words.specs.declared.notes.Note.{Note}
use Rattle.fr_words_examples.specs.Filling.{block_at}
use Rattle.fr_words_examples.proofs.Fillings.{newest, filled_after, handles_after, adds_both, adds_cell, adds_link, one_handle_more}
use Rattle.fr_words_examples.proofs.publish_row.Goals as goal

pub link_row-requires-clause-filled : goal.link_row-requires-clause-filled
link_row-requires-clause-filled c =
    let p = c.args.words.now.plan in let start = c.args.machine.start in let rows = c.args.machine.rows.now in
    filled_after p start rows (note c.args.hand.now) (note c.enter_row.new.hand) c.requires.filled (adds_cell p start rows (note c.args.hand.now) (note c.enter_row.new.hand) c.home-first.result _ (c.enter_row.ensures.entered c.if-enter_row.true))

pub link_row-requires-clause-entered : goal.link_row-requires-clause-entered
link_row-requires-clause-entered c =
    subst (λ (v : Note). Has v.facts (cell_at c.args.words.now.plan c.home-first.result) (pack_of (block_at c.args.machine.start c.args.machine.rows.now) (c.args.machine.start + c.args.row))) (sym (c.enter_row.ensures.entered c.if-enter_row.true)) (newest _ _ _)

pub returns-then-enter_row-clause-adds : goal.returns-then-enter_row-clause-adds
returns-then-enter_row-clause-adds c = λ won.
    let p = c.args.words.now.plan in let start = c.args.machine.start in let rows = c.args.machine.rows.now in
    adds_both p start rows (note c.args.hand.now) (note c.enter_row.new.hand) (note c.link_row.new.hand)
    (adds_cell p start rows (note c.args.hand.now) (note c.enter_row.new.hand) c.home-first.result _ (c.enter_row.ensures.entered c.if-enter_row.true))
    (adds_link p start rows (note c.enter_row.new.hand) (note c.link_row.new.hand) c.args.row _ c.requires.row (c.link_row.ensures.linked won))

pub returns-then-enter_row-clause-handles : goal.returns-then-enter_row-clause-handles
returns-then-enter_row-clause-handles c = λ won.
    let p = c.args.words.now.plan in let start = c.args.machine.start in let rows = c.args.machine.rows.now in
    one_handle_more p start rows (note c.enter_row.new.hand) (note c.link_row.new.hand) c.args.row c.requires.row c.requires.few.0 c.requires.few.1
    (handles_after p start rows (note c.args.hand.now) (note c.enter_row.new.hand) c.args.row c.requires.handles (adds_cell p start rows (note c.args.hand.now) (note c.enter_row.new.hand) c.home-first.result _ (c.enter_row.ensures.entered c.if-enter_row.true)))
    (c.link_row.ensures.linked won)
