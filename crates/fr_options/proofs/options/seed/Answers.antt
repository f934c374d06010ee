use Rattle.std.proofs.Common.{◌≡◌, ℕ, Option, Some, None, option_map, ap, sym, ◌∙◌}
use Rattle.std.specs.Option.{MatchOption, IsSomeAnd}
use Rattle.clap.specs.Words.{found_of}
use Rattle.fr_options.proofs.OptionLaws.{seed_found}
use Rattle.fr_options.proofs.options.seed.Goals as goal

mapped : (read : Option ℕ) (r : Option (Option ℕ)) → MatchOption read (r ≡ None) (λ n. IsSomeAnd r (λ o. o ≡ Some n)) → r ≡ option_map (λ n. Some n) read
mapped None r e = e
mapped (Some n) (Some o) e = ap (λ (x : Option ℕ). Some x) e
mapped (Some n) None e = absurd e

pub returns-in-Some : goal.returns-in-Some
returns-in-Some c =
    mapped c.read_number.result c.map.result c.map.ensures.cases ∙ ap (option_map (λ (n : ℕ). Some n)) c.read_number.ensures.number
    ∙ seed_found (found_of c.args.matches.now) c.args.name.now (Some c.in-Some.text.now) (ap (option_map (λ s. s.now)) (sym c.in-Some.is) ∙ c.get_str.ensures)

pub returns-in-None : goal.returns-in-None
returns-in-None c =
    seed_found (found_of c.args.matches.now) c.args.name.now None (ap (option_map (λ s. s.now)) (sym c.in-None.is) ∙ c.get_str.ensures)
