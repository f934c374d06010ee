-- How the bytes of a name are kept. This is the project's own form.
use Rattle.std.specs.Prelude.{ℕ, ◌≤◌, List, take}
use Rattle.fr_syntax.specs.declared.name.Text.{Text}
use Rattle.fr_syntax.specs.declared.name.Text.TheVariants as t

-- the bytes of a name
abbrev pub text_bytes : Text → List ℕ
text_bytes (t.Short count bytes) = take count bytes
text_bytes (t.Long bytes) = bytes.items

-- no more bytes than there is room for
abbrev pub IsText : Text → Type 0
IsText (t.Short count bytes) = count ≤ 15
IsText (t.Long bytes) = Unit {0}
