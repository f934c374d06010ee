use Rattle.std.proofs.Common.{Some, None, option_map, ap, sym, ◌∙◌}
use Rattle.clap.specs.Words.{found_of}
use Rattle.fr_options.proofs.OptionLaws.{number_found}
use Rattle.fr_options.proofs.options.number.Goals as goal

pub returns-in-Some-clause-number : goal.returns-in-Some-clause-number
returns-in-Some-clause-number c =
    c.read_number.ensures.number ∙ number_found (found_of c.args.matches.now) c.args.name.now (Some c.in-Some.text.now) c.args.usual c.args.least c.args.most (ap (option_map (λ s. s.now)) (sym c.in-Some.is) ∙ c.get_str.ensures)

pub returns-in-None-clause-number : goal.returns-in-None-clause-number
returns-in-None-clause-number c =
    number_found (found_of c.args.matches.now) c.args.name.now None c.args.usual c.args.least c.args.most (ap (option_map (λ s. s.now)) (sym c.in-None.is) ∙ c.get_str.ensures)
