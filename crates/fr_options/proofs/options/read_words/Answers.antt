use Rattle.std.proofs.Common.{◌≡◌, ◌∷◌, String, Global, map, codes, ap, ap₂, subst, sym, ◌∙◌}
use Rattle.std.specs.Borrow.{Bor}
use Rattle.clap.specs.Words.{Text, HasKind, Kinds, fault_of, found_of, is_simple, is_simple_and_free, matches_of, rows_of}
use Rattle.fr_options.proofs.OptionLaws.{in_range, taken, untaken, refused, program_is_simple, program_is_free}
use Rattle.fr_options.proofs.options.read_words.Goals as goal

pub returns-in-Ok-clause-options : goal.returns-in-Ok-clause-options
returns-in-Ok-clause-options c =
    let words = map (λ (w : String Global). w.bytes.items) c.args.words.now in
    let are : map (λ (s : Bor Text). s.now) c.as_slice.result.now ≡ codes "frcalc" ∷ words = ap (map (λ (s : Bor Text). s.now)) c.as_slice.ensures.value ∙ c.in_ok-given.ensures in
    let same = c.in_ok-command.ensures in
    taken words (rows_of (found_of c.in-Ok.matches)) c.read_options.result c.ok_or.result (sym (ap₂ fault_of same are) ∙ c.in-Ok.ensures.kinds (ap is_simple_and_free same ∙ program_is_free))
    ((c.in-Ok.ensures.matches (ap is_simple same ∙ program_is_simple)).0 ∙ ap₂ matches_of same are) c.read_options.ensures.options c.ok_or.ensures.ok_part

pub returns-in-Ok-clause-ranges : goal.returns-in-Ok-clause-ranges
returns-in-Ok-clause-ranges c = in_range c.read_options.result c.ok_or.result c.read_options.ensures.ranges c.ok_or.ensures.ok_part

pub returns-in-Ok-clause-usage : goal.returns-in-Ok-clause-usage
returns-in-Ok-clause-usage c = λ usage.
    let words = map (λ (w : String Global). w.bytes.items) c.args.words.now in
    let are : map (λ (s : Bor Text). s.now) c.as_slice.result.now ≡ codes "frcalc" ∷ words = ap (map (λ (s : Bor Text). s.now)) c.as_slice.ensures.value ∙ c.in_ok-given.ensures in
    let same = c.in_ok-command.ensures in
    untaken words (rows_of (found_of c.in-Ok.matches)) c.read_options.result c.ok_or.result (sym (ap₂ fault_of same are) ∙ c.in-Ok.ensures.kinds (ap is_simple_and_free same ∙ program_is_free))
    ((c.in-Ok.ensures.matches (ap is_simple same ∙ program_is_simple)).0 ∙ ap₂ matches_of same are) c.read_options.ensures.options c.ok_or.ensures.ok_part usage

pub returns : goal.returns
returns c =
    let words = map (λ (w : String Global). w.bytes.items) c.args.words.now in
    let are : map (λ (s : Bor Text). s.now) c.as_slice.result.now ≡ codes "frcalc" ∷ words = ap (map (λ (s : Bor Text). s.now)) c.as_slice.ensures.value ∙ c.in_ok-given.ensures in
    let same = c.in_ok-command.ensures in
    let kinds = c.in-Err.ensures.kinds (ap is_simple_and_free same ∙ program_is_free) in
    record {
      options = tt;
      ranges = tt;
      usage = λ usage. refused words c.in-Err.error (subst (λ (k : Kinds). HasKind k c.in-Err.error) (ap₂ fault_of same are) kinds) (λ e. c.in_default.not-OutOfMemory (c.kind.ensures ∙ e));
    }
