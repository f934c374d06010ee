use Rattle.std.proofs.Common.{refl, inr}
use Rattle.fr_expr.specs.Tables.{names_in}
use Rattle.fr_eval.proofs.DefineLaws.{adds_none, known_none}
use Rattle.fr_session.proofs.FeedLaws.{is_ask, ask_defines}
use Rattle.fr_session.proofs.statement.evaluate.Goals as goal

pub returns-in_default : goal.returns-in_default
returns-in_default g c =
    let view = g.S.Store.view in
    let store = c.args.store.now in
    let names = names_in c.args.env.now in
    record {
      defines = λ scope are.
          ask_defines view (view.alphabet store) c.args.line scope c.args.statement.now store c.ask.new.store c.args.charge.now c.ask.new.charge names c.args.text.now.items c.ask.new.out.items c.ask.result
          (is_ask c.args.statement.now c.in_default.not-Alphabet c.in_default.not-Group c.in_default.not-Let) c.ask.ensures.keeps c.requires.above are (c.ask.ensures.answers scope are);
      adds = adds_none c.args.line names names (λ q. refl);
      bound = inr (λ q. refl);
      asks = λ ask q. refl;
      known = known_none (view.known store) (view.known c.ask.new.store) names names c.ask.ensures.keeps c.requires.known (λ q. refl);
      keeps = c.ask.ensures.keeps;
      continues = c.ask.ensures.continues;
      most = c.ask.ensures.most;
    }
