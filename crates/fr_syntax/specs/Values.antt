-- What a tree of the grammar says, and which of its numbers are refused.
use Rattle.std.specs.Prelude.{ℕ, ◌+◌, ◌-◌, ◌*◌, Bool, true, false, ◌||◌, nat_lt, min, List, [], ◌∷◌, ◌++◌, Result, Ok, Err}
use Rattle.fr_alphabet.specs.Reading.{word_reading}
use Rattle.fr_syntax.specs.declared.tree.Expr.{Expr, roll-Expr}
use Rattle.fr_syntax.specs.declared.tree.Factor.{Factor, roll-Factor, out-Factor}
use Rattle.fr_syntax.specs.declared.tree.Atom.{Atom}
use Rattle.fr_syntax.specs.declared.tree.Atom.TheVariants as a
use Rattle.fr_syntax.specs.declared.tree.Op.{Op}
use Rattle.fr_syntax.specs.declared.tree.Op.TheVariants as o
use Rattle.fr_syntax.specs.declared.notes.Notes.{Notes}
use Rattle.fr_syntax.specs.Grammar.{WordTree, Empty, Digits, ExprTree, Only, Times, FactorTree, Plain, With, OpTree, Power, Negative, Conjugate, Section, AtomTree, One, Simple, Atom2Tree, Named, Paren, Comm}

-- the number that the digits write
abbrev pub digits_value_from : ℕ → List ℕ → ℕ
digits_value_from n [] = n
digits_value_from n (c ∷ cs) = digits_value_from (10 * n + (c - 48)) cs

-- the number of a text of digits
unfoldable pub digits_value : List ℕ → ℕ
digits_value text = digits_value_from 0 text

-- the number of a text of digits, or 1,000,001 where it is greater: no use of a number in the language tells these apart
unfoldable pub capped_value : List ℕ → ℕ
capped_value text = min (digits_value text) 1000001

-- whether a number is above 1,000,000
unfoldable pub passes_limit : List ℕ → Bool
passes_limit text = nat_lt 1000000 (digits_value text)

-- a word with a digit that is no letter is refused, and then its value tells nothing
abbrev pub read_letters : {E : Type 0} → Result (List ℕ) E → List ℕ
read_letters (Ok w) = w
read_letters (Err e) = []

-- whether a reading is an error
abbrev pub is_refused : {E : Type 0} → Result (List ℕ) E → Bool
is_refused (Ok w) = false
is_refused (Err e) = true

-- the word of a text of digits
unfoldable pub letters_of : ℕ → List ℕ → List ℕ
letters_of d text = read_letters (word_reading d text)

-- whether a digit is no letter
unfoldable pub has_bad_letter : ℕ → List ℕ → Bool
has_bad_letter d text = is_refused (word_reading d text)

-- a factor with one operation more
abbrev pub with_op : Factor → Op → Factor
with_op factor op = roll-Factor (record { atom = (out-Factor factor).atom; ops = (out-Factor factor).ops ++ op ∷ [] })

-- an atom without operations
abbrev pub plain : Atom → Factor
plain atom = roll-Factor (record { atom = atom; ops = [] })

-- the product of factors
abbrev pub product : List Factor → Expr
product factors = roll-Expr (record { factors = factors })

-- The values of trees, over an alphabet of d letters.
abbrev pub word_value : ℕ → WordTree → List ℕ
word_value d Empty = []
word_value d (Digits text) = letters_of d text

abbrev mutual
  pub factors_of : ℕ → ExprTree → List Factor
  factors_of d (Only factor) = factor_value d factor ∷ []
  factors_of d (Times expr factor) = factors_of d expr ++ factor_value d factor ∷ []

  pub factor_value : ℕ → FactorTree → Factor
  factor_value d (Plain atom) = plain (atom_value d atom)
  factor_value d (With factor op) = with_op (factor_value d factor) (op_value d op)

  pub op_value : ℕ → OpTree → Op
  op_value d (Power text) = o.Power false (capped_value text)
  op_value d (Negative text) = o.Power true (capped_value text)
  op_value d (Conjugate atom) = o.Conj (atom2_value d atom)
  op_value d (Section word) = o.At (word_value d word)

  pub atom_value : ℕ → AtomTree → Atom
  atom_value d One = a.One
  atom_value d (Simple atom) = atom2_value d atom

  pub atom2_value : ℕ → Atom2Tree → Atom
  atom2_value d (Named name) = a.Named name
  atom2_value d (Paren expr) = a.Paren (product (factors_of d expr))
  atom2_value d (Comm left right) = a.Comm (product (factors_of d left)) (product (factors_of d right))

-- what an expression says
abbrev pub expr_value : ℕ → ExprTree → Expr
expr_value d expr = product (factors_of d expr)

-- nothing is refused
abbrev pub no_notes : Notes
no_notes = record { not_a_letter = false; power_passed = false }

-- What is refused in a tree, after what was refused before it.
abbrev pub note_power : List ℕ → Notes → Notes
note_power text notes = record notes { power_passed = notes.power_passed || passes_limit text }

-- a text of digits as a word
abbrev pub note_digits : ℕ → List ℕ → Notes → Notes
note_digits d text notes = record notes { not_a_letter = notes.not_a_letter || has_bad_letter d text }

-- a word
abbrev pub note_word : ℕ → WordTree → Notes → Notes
note_word d Empty notes = notes
note_word d (Digits text) notes = note_digits d text notes

abbrev mutual
  pub note_expr : ℕ → ExprTree → Notes → Notes
  note_expr d (Only factor) notes = note_factor d factor notes
  note_expr d (Times expr factor) notes = note_factor d factor (note_expr d expr notes)

  pub note_factor : ℕ → FactorTree → Notes → Notes
  note_factor d (Plain atom) notes = note_atom d atom notes
  note_factor d (With factor op) notes = note_op d op (note_factor d factor notes)

  pub note_op : ℕ → OpTree → Notes → Notes
  note_op d (Power text) notes = note_power text notes
  note_op d (Negative text) notes = note_power text notes
  note_op d (Conjugate atom) notes = note_atom2 d atom notes
  note_op d (Section word) notes = note_word d word notes

  pub note_atom : ℕ → AtomTree → Notes → Notes
  note_atom d One notes = notes
  note_atom d (Simple atom) notes = note_atom2 d atom notes

  pub note_atom2 : ℕ → Atom2Tree → Notes → Notes
  note_atom2 d (Named name) notes = notes
  note_atom2 d (Paren expr) notes = note_expr d expr notes
  note_atom2 d (Comm left right) notes = note_expr d right (note_expr d left notes)
