use Rattle.std.proofs.Common.{rules, arith, ap, ◌∙◌}
use Rattle.fr_words.proofs.Told.{cell_pack_at}
use Rattle.fr_words.specs.Notes.{learned, entered}
use Rattle.fr_words.proofs.Calls.{enters_at}
use Rattle.fr_words.proofs.hand.Hand.enter.Goals as goal

pub compare_exchange-found-requires : goal.compare_exchange-found-requires
compare_exchange-found-requires c = let a = c.requires.asks in (search rules, search rules, enters_at c.args.words.now.table.shared.key c.args.words.now.plan c.args.words.now.planned c.args.words.now.table.shared.table_id.slots c.cell_word-word.result c.args.self.now.seat.id c.args.self.now.seat.me.0 c.args.self.now.seat.me.1 c.args.self.now.live c.args.cell c.args.pack a.0 a.1 c.cell_word-word.ensures.value a.2 c.requires.place a.3)

pub returns-then-found-eq0-clause-entered : goal.returns-then-found-eq0-clause-entered
returns-then-found-eq0-clause-entered c = ap (λ m. m.0) (c.compare_exchange-found.ensures.2.1 (search rules)) ∙ (λ j. entered c.args.self.now.seat.me.0 (c.cell_word-word.ensures.value j) c.args.pack)

pub returns-else-found-eq0-clause-entered : goal.returns-else-found-eq0-clause-entered
returns-else-found-eq0-clause-entered c = (
  (let no = c.if-found-eq0.false in omega arith),
  cell_pack_at c.args.words.now.plan c.args.self.now.seat.me.0 c.requires.of.1 c.cell_word-word.result c.compare_exchange-found.result c.compare_exchange-found.ensures.2.3.0 c.args.cell c.cell_word-word.ensures.value c.requires.place (let no = c.if-found-eq0.false in omega arith),
  ap (λ m. m.0) (c.compare_exchange-found.ensures.2.2 c.if-found-eq0.false) ∙ (λ j. learned c.args.self.now.seat.me.0 (c.cell_word-word.ensures.value j) c.compare_exchange-found.result),
)
