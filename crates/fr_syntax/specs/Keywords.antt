-- Which first word a text is.
use Rattle.std.specs.Prelude.{ℕ, if◌then◌else◌, List, [], ◌∷◌, Option, Some, None}
use Rattle.std.specs.Str.{bytes_eq}
use Rattle.fr_syntax.specs.declared.keyword.Keyword.{Keyword}
use Rattle.fr_syntax.specs.declared.keyword.Keyword.TheVariants as k
use Rattle.fr_syntax.specs.Grammar.{spelling}

-- the first of these keywords that is spelled so
abbrev pub first_spelled : List ℕ → List Keyword → Option Keyword
first_spelled text [] = None
first_spelled text (keyword ∷ more) = if bytes_eq text (spelling keyword) then Some keyword else first_spelled text more

-- the keyword that is spelled so
unfoldable pub keyword_of : List ℕ → Option Keyword
keyword_of text =
    first_spelled text (k.Alphabet ∷ k.Group ∷ k.Let ∷ k.Show ∷ k.States ∷ k.Wreath ∷ k.Class ∷ k.Eq ∷ k.Act ∷ k.Ray ∷ k.Order ∷ k.Nucleus ∷ [])
