-- Numbers and options of matches.
use Rattle.std.proofs.Common.{Bool, cond, find, map, option_map, option_and_then, false, ℕ, ◌≡◌, ◌≢◌, true, inl, inr, List, [], ◌∷◌, codes, Option, Some, None, Result, Ok, Err, IfOk, IfSome, refl, sym, ◌∙◌, ap, subst}
use Rattle.std.specs.Result.{is_ok, result_ok, IsErrOf}
use Rattle.std.proofs.lemmas.Bool.{true≢false}
use Rattle.clap.specs.declared.error.Error.{Error}
use Rattle.clap.specs.declared.error.kind.ErrorKind.{ErrorKind}
use Rattle.clap.specs.declared.error.kind.ErrorKind.TheVariants.{OutOfMemory}
use Rattle.clap.specs.declared.parser.matches.Found.{Found}
use Rattle.clap.specs.Words.{HasKind, IsAmong, Kinds, Row, fault_of, first_value, is_simple, is_simple_and_free, kind_of, matches_of, rows_of}
use Rattle.std.specs.Str.{bytes_eq}
use Rattle.clap.specs.Facts.{Entry}
use Rattle.clap.specs.Matches.{matched_of}
use Rattle.clap.specs.Walk.{row_of}
use Rattle.clap.specs.declared.parser.matches.MatchedArg.{MatchedArg}
use Rattle.clap.specs.declared.parser.matches.ValueSource.{ValueSource}
use Rattle.clap.proofs.OnLiterals.{clap_on_literals}
use Rattle.clap.proofs.WalkLemmas.{first_value-rows}
use Rattle.fr_options.specs.declared.options.Options.{Options}
use Rattle.fr_options.specs.declared.options.WordsFault.{WordsFault}
use Rattle.fr_options.specs.declared.options.WordsFault.TheVariants as fault
use Rattle.fr_options.specs.Options.{InRange, is_given, is_of_words, seed_in, seed_of, number_of, number_in, options_in, options_of, program, unless_refused}

pub number_found : (f : Found) (name : List ℕ) (found : Option (List ℕ)) (usual least most : ℕ) → found ≡ first_value f name → number_of found usual least most ≡ number_in (rows_of f) name usual least most
number_found f name found usual least most e = ap (λ (o : Option (List ℕ)). number_of o usual least most) (e ∙ first_value-rows f name)

pub seed_found : (f : Found) (name : List ℕ) (found : Option (List ℕ)) → found ≡ first_value f name → seed_of found ≡ seed_in (rows_of f) name
seed_found f name found e = ap seed_of (e ∙ first_value-rows f name)

-- where the value of an entry comes from
source_at : (xs : List Entry) (name : List ℕ) → option_and_then (λ (a : MatchedArg). a.source) (option_map (λ (e : Entry). e.1) (find (λ (e : Entry). bytes_eq e.0.now name) xs))
    ≡ option_and_then (λ (r : Row). r.source) (find (λ (r : Row). bytes_eq r.id name) (map row_of xs))
source_at [] name = refl
source_at (x ∷ xs) name = go (bytes_eq x.0.now name) (source_at xs name)
  where
    go : (b : Bool) → option_and_then (λ (a : MatchedArg). a.source) (option_map (λ (e : Entry). e.1) (find (λ (e : Entry). bytes_eq e.0.now name) xs))
        ≡ option_and_then (λ (r : Row). r.source) (find (λ (r : Row). bytes_eq r.id name) (map row_of xs))
        → option_and_then (λ (a : MatchedArg). a.source) (option_map (λ (e : Entry). e.1) (cond b (Some x) (find (λ (e : Entry). bytes_eq e.0.now name) xs)))
        ≡ option_and_then (λ (r : Row). r.source) (cond b (Some (row_of x)) (find (λ (r : Row). bytes_eq r.id name) (map row_of xs)))
    go true later = refl
    go false later = later

pub given : (f : Found) (name : List ℕ) (source : Option ValueSource) → source ≡ option_and_then (λ (a : MatchedArg). a.source) (matched_of f name)
    → is_of_words source ≡ is_given (rows_of f) name
given f name source e = ap is_of_words (e ∙ source_at f.entries.items name)

-- ---- what `clap` answers
refused_for : (kinds : Kinds) (k : ErrorKind) (options : Option Options) → IsAmong k kinds → unless_refused kinds options ≡ None
refused_for [] k options h = absurd h
refused_for (x ∷ xs) k options h = refl

-- words that are taken
pub taken : (words : List (List ℕ)) (rows : List Row) (read : Option Options) (r : Result Options WordsFault) → fault_of program (codes "frcalc" ∷ words) ≡ [] → rows ≡ matches_of program (codes "frcalc" ∷ words)
    → read ≡ options_in rows → read ≡ result_ok r → IfOk r (λ o. options_of words ≡ Some o)
taken words rows read (Err e) none same is ok = tt
taken words rows read (Ok o) none same is ok =
    ap (λ (k : Kinds). unless_refused k (options_in (matches_of program (codes "frcalc" ∷ words)))) none ∙ ap options_in (sym same) ∙ sym is ∙ ok

pub in_range : (read : Option Options) (r : Result Options WordsFault) → IfSome read InRange → read ≡ result_ok r → IfOk r InRange
in_range read (Err e) h ok = tt
in_range read (Ok o) h ok = subst (λ (x : Option Options). IfSome x InRange) ok h

pub untaken : (words : List (List ℕ)) (rows : List Row) (read : Option Options) (r : Result Options WordsFault) → fault_of program (codes "frcalc" ∷ words) ≡ [] → rows ≡ matches_of program (codes "frcalc" ∷ words)
    → read ≡ options_in rows → read ≡ result_ok r → IsErrOf r fault.Usage → options_of words ≡ None
untaken words rows read (Ok o) none same is ok e = absurd (true≢false (ap is_ok e))
untaken words rows read (Err f) none same is ok e =
    ap (λ (k : Kinds). unless_refused k (options_in (matches_of program (codes "frcalc" ∷ words)))) none ∙ ap options_in (sym same) ∙ sym is ∙ ok

-- words that are refused, and not for want of memory
pub refused : (words : List (List ℕ)) (error : Error) → HasKind (fault_of program (codes "frcalc" ∷ words)) error → kind_of error ≢ OutOfMemory → options_of words ≡ None
refused words error (inl memory) other = absurd (other memory)
refused words error (inr among) other = refused_for (fault_of program (codes "frcalc" ∷ words)) (kind_of error) (options_in (matches_of program (codes "frcalc" ∷ words))) among

-- the command is one of which `clap` says all
pub program_is_simple : is_simple program ≡ true
unfolding clap_on_literals
program_is_simple = refl

pub program_is_free : is_simple_and_free program ≡ true
unfolding clap_on_literals
program_is_free = refl
