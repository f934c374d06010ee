-- What words say to the program: the matches of a command with options, as `clap` finds them, and the numbers in them.
use Rattle.std.specs.Prelude.{ℕ, ◌≤◌, Bool, true, false, find, List, [], ◌∷◌, codes, Option, Some, None, option_map, option_and_then}
use Rattle.std.specs.Str.{bytes_eq}
use Rattle.clap.specs.Words.{App, Kinds, Row, Rule, fault_of, first_of, matches_of, new_app, new_rule, with_rule}
use Rattle.clap.specs.declared.builder.action.ArgAction.TheVariants.{Set, SetTrue}
use Rattle.clap.specs.declared.parser.matches.ValueSource.{ValueSource}
use Rattle.clap.specs.declared.parser.matches.ValueSource.TheVariants.{CommandLine}
use Rattle.fr_options.specs.declared.options.Options.{Options}
use Rattle.fr_options.specs.Numbers.{number_between}

-- each number is in its range
pub record InRange (o : Options) : Type 0 where
  pub some_workers : 1 ≤ o.workers
  pub few_workers : o.workers ≤ 64
  pub some_grain : 1 ≤ o.grain
  pub small_grain : o.grain ≤ 1024
  pub some_states : 1 ≤ o.states
  pub few_states : o.states ≤ 1048576

-- an option that takes a text
abbrev pub option_rule : List ℕ → Rule
option_rule name = record (new_rule name) { long = Some name; action = Some Set }

-- an option that takes nothing
abbrev pub flag_rule : List ℕ → Rule
flag_rule name = record (new_rule name) { long = Some name; action = Some SetTrue }

-- the command with options by these rules, in order
abbrev pub with_rules : App → List Rule → App
with_rules app [] = app
with_rules app (rule ∷ rules) = with_rules (with_rule app rule) rules

-- the command with its options
abbrev pub program : App
program = with_rules (new_app (codes "frcalc")) (
    option_rule (codes "workers") ∷ option_rule (codes "grain") ∷ option_rule (codes "states") ∷ flag_rule (codes "census") ∷ option_rule (codes "demo") ∷ [])

-- the number of an option: the usual one where it is not given
abbrev pub number_of : Option (List ℕ) → ℕ → ℕ → ℕ → Option ℕ
number_of None usual least most = Some usual
number_of (Some text) usual least most = number_between least most text

abbrev pub number_in : List Row → List ℕ → ℕ → ℕ → ℕ → Option ℕ
number_in rows name usual least most = number_of (first_of name rows) usual least most

-- whether words are where a value comes from, and not what is usual
abbrev pub is_of_words : Option ValueSource → Bool
is_of_words (Some CommandLine) = true
is_of_words _ = false

-- whether words give an option
abbrev pub is_given : List Row → List ℕ → Bool
is_given rows name = is_of_words (option_and_then (λ row. row.source) (find (λ row. bytes_eq row.id name) rows))

-- the seed of an option: an inner `None` where it is not given
abbrev pub seed_of : Option (List ℕ) → Option (Option ℕ)
seed_of None = Some None
seed_of (Some text) = option_map (λ n. Some n) (number_between 0 4294967295 text)

abbrev pub seed_in : List Row → List ℕ → Option (Option ℕ)
seed_in rows name = seed_of (first_of name rows)

-- what matches say, if each number is in its range
abbrev pub options_in : List Row → Option Options
options_in rows =
    option_and_then (λ workers.
    option_and_then (λ grain.
    option_and_then (λ states.
    option_map (λ demo. record { workers = workers; grain = grain; states = states; census = is_given rows (codes "census"); demo = demo })
    (seed_in rows (codes "demo")))
    (number_in rows (codes "states") 262144 1 1048576))
    (number_in rows (codes "grain") 1 1 1024))
    (number_in rows (codes "workers") 4 1 64)

-- what is said where nothing is against it
abbrev pub unless_refused : Kinds → Option Options → Option Options
unless_refused [] options = options
unless_refused (kind ∷ kinds) options = None

-- what words say that stand after the program's name, if `clap` has nothing against them and each number is in its range
abbrev pub options_of : List (List ℕ) → Option Options
options_of words = unless_refused (fault_of program (codes "frcalc" ∷ words)) (options_in (matches_of program (codes "frcalc" ∷ words)))
