use Rattle.std.proofs.Common.{◌≡◌, Option, Some, None, refl, ◌∙◌}
use Rattle.std.specs.Option.{option_eq}
use Rattle.clap.specs.Words.{found_of}
use Rattle.clap.specs.contracts.parser.matches.ValueSourcePartialEq.TheImpl.{eq-value}
use Rattle.clap.specs.declared.parser.matches.ValueSource.{ValueSource}
use Rattle.clap.specs.declared.parser.matches.ValueSource.TheVariants.{CommandLine, DefaultValue}
use Rattle.fr_options.specs.Options.{is_of_words}
use Rattle.fr_options.proofs.OptionLaws.{given}
use Rattle.fr_options.proofs.options.is_given.Goals as goal

same : (source : Option ValueSource) → option_eq eq-value.it source (Some CommandLine) ≡ is_of_words source
same None = refl
same (Some CommandLine) = refl
same (Some DefaultValue) = refl

pub returns : goal.returns
returns c = c.eq.ensures ∙ same c.value_source.result ∙ given (found_of c.args.matches.now) c.args.name.now c.value_source.result c.value_source.ensures
