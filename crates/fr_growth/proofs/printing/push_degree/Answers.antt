use Rattle.std.proofs.lemmas.Result.{on_ok_weaker}
use Rattle.fr_growth.proofs.TextLaws.{degree_text-more}
use Rattle.fr_growth.proofs.printing.push_degree.Goals as goal

pub returns-clause-ok : goal.returns-clause-ok
returns-clause-ok c = on_ok_weaker c.push_decimal.result
    (degree_text-more c.args.degree c.args.out.now.items c.extend_from_slice-2.new.self.items c.push_decimal.new.out.items c.if-degree-eq0.false c.in_ok-extend_from_slice-2.ensures.items)
    c.push_decimal.ensures.ok
