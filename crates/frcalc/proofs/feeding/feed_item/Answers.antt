use Rattle.std.proofs.Common.{refl}
use Rattle.fr_expr.specs.Tables.{names_in}
use Rattle.fr_eval.proofs.DefineLaws.{names_stay}
use Rattle.frcalc.proofs.ItemLaws.{asks_binds}
use Rattle.frcalc.proofs.feeding.feed_item.Goals as goal

pub returns-then-asks-clause-feeds : goal.returns-then-asks-clause-feeds
returns-then-asks-clause-feeds g c = λ scope are.
    let view = g.S.Store.view in
    let store = c.args.session.now.store in
    let names = names_in c.args.session.now.env in (
      asks_binds c.args.item.now.body c.asks.result c.asks.ensures c.if-asks.true,
      refl,
      names_stay (view.alphabet store) c.args.item.now.line (view.known store) (view.known store) names names scope (λ n code k. k) c.requires.above (λ q. refl) are,
    )
