-- What the tokens of a text say of the texts of numbers: each begins with a digit, and all have no more bytes than the text.
use Rattle.std.proofs.Common.{◌≡◌, ◌≢◌, ℕ, zero, suc, ◌+◌, ◌≤◌, Bool, true, false, ◌&&◌, List, [], ◌∷◌, length, take_while, refl, arith, get_or}
use Rattle.std.specs.Prelude.{nat_le, if◌then◌else◌}
use Rattle.std.proofs.lemmas.Bool.{leb-true}
use Rattle.fr_syntax.specs.declared.token.Mark.TheVariants as m
use Rattle.fr_syntax.specs.Tokens.{Lexeme, Name, Number, Sign}
use Rattle.fr_syntax.specs.Lines.{Located, lexemes, tokens_at, tokens_of, is_blank, is_letter, is_digit, is_name_byte, mark_of, rest_of_token, lexeme_of}
use Rattle.fr_syntax.specs.Grammar.{Empty, Digits, ExprTree, Only, Times, FactorTree, Plain, With, OpTree, Power, Negative, Conjugate, Section, AtomTree, One, Simple, Atom2Tree, Named, Paren, Comm, spell_expr, spell_factor, spell_op, spell_atom, spell_atom2}
use Rattle.fr_syntax.proofs.LexerLaws.{length-take_while}

-- a number's text begins with no minus sign
abbrev pub IsNumeral : Lexeme → Type 0
IsNumeral (Number text) = get_or text 0 0 ≢ 45
IsNumeral _ = Unit {0}

-- the same of each token
abbrev pub AreNumerals : List Lexeme → Type 0
AreNumerals [] = Unit {0}
AreNumerals (t ∷ ts) = IsNumeral t × AreNumerals ts

-- the bytes of a token
abbrev pub token_length : Lexeme → ℕ
token_length (Name text) = length text
token_length (Number text) = length text
token_length (Sign mark) = 1

-- those of some tokens
abbrev pub tokens_length : List Lexeme → ℕ
tokens_length [] = 0
tokens_length (t ∷ ts) = token_length t + tokens_length ts

first-of-both : (a b : Bool) → (a && b) ≡ true → a ≡ true
first-of-both true b h = refl
first-of-both false b h = cc

digit-no-minus : (c : ℕ) → is_digit c ≡ true → c ≢ 45
digit-no-minus c h e = let low : 48 ≤ c = leb-true 48 c (first-of-both (nat_le 48 c) (nat_le c 57) h) in omega (arith, low, e)

lexeme_of-numeral : (c : ℕ) (rest : List ℕ) → IsNumeral (lexeme_of c rest)
lexeme_of-numeral c rest = by (is_letter c) (is_digit c) refl
  where
    by : (letter digit : Bool) → is_digit c ≡ digit → IsNumeral (if letter then Name (c ∷ rest) else (if digit then Number (c ∷ rest) else Sign (mark_of c)))
    by true digit h = tt
    by false true h = digit-no-minus c h
    by false false h = tt

cell-numerals : (blank : Bool) (token : Located) (after behind : List Located) → IsNumeral token.lexeme → AreNumerals (lexemes after) → AreNumerals (lexemes behind) →
    AreNumerals (lexemes (if blank then after else token ∷ behind))
cell-numerals true token after behind t h g = h
cell-numerals false token after behind t h g = (t, g)

tokens_at-numerals : (p k : ℕ) (cs : List ℕ) → AreNumerals (lexemes (tokens_at p k cs))
tokens_at-numerals p k [] = tt
tokens_at-numerals p (suc k) (c ∷ cs) = tokens_at-numerals (suc p) k cs
tokens_at-numerals p zero (c ∷ cs) =
    cell-numerals (is_blank c) (record { lexeme = lexeme_of c (rest_of_token c cs); place = p; after = suc p + length (rest_of_token c cs) })
    (tokens_at (suc p) zero cs) (tokens_at (suc p) (length (rest_of_token c cs)) cs) (lexeme_of-numeral c (rest_of_token c cs))
    (tokens_at-numerals (suc p) zero cs) (tokens_at-numerals (suc p) (length (rest_of_token c cs)) cs)

pub tokens_of-numerals : (text : List ℕ) → AreNumerals (lexemes (tokens_of text))
unfolding tokens_of
tokens_of-numerals text = tokens_at-numerals 1 0 text

rest_of_token-within : (c : ℕ) (cs : List ℕ) → length (rest_of_token c cs) ≤ length cs
rest_of_token-within c cs = by (is_letter c) (is_digit c)
  where
    by : (letter digit : Bool) → length (if letter then take_while is_name_byte cs else (if digit then take_while is_digit cs else [])) ≤ length cs
    by true digit = length-take_while is_name_byte cs
    by false true = length-take_while is_digit cs
    by false false = omega arith

-- a byte of a sign is a token's only one
lexeme_of-length : (c : ℕ) (cs : List ℕ) → token_length (lexeme_of c (rest_of_token c cs)) ≤ suc (length (rest_of_token c cs))
lexeme_of-length c cs = by (is_letter c) (is_digit c)
  where
    by : (letter digit : Bool) →
        token_length (if letter then Name (c ∷ rest_of_token c cs) else (if digit then Number (c ∷ rest_of_token c cs) else Sign (mark_of c))) ≤ suc (length (rest_of_token c cs))
    by true digit = omega arith
    by false true = omega arith
    by false false = omega arith

cell-length : (blank : Bool) (token : Located) (after behind : List Located) (n m : ℕ) → tokens_length (lexemes after) ≤ n → token_length token.lexeme ≤ suc m →
    tokens_length (lexemes behind) + m ≤ n → tokens_length (lexemes (if blank then after else token ∷ behind)) ≤ suc n
cell-length true token after behind n m h t g = omega (arith, h)
cell-length false token after behind n m h t g = omega (arith, t, g)

tokens_at-length : (p k : ℕ) (cs : List ℕ) → k ≤ length cs → tokens_length (lexemes (tokens_at p k cs)) + k ≤ length cs
tokens_at-length p zero [] h = omega arith
tokens_at-length p (suc k) [] h = absurd (omega (arith, h))
tokens_at-length p (suc k) (c ∷ cs) h = omega (arith, tokens_at-length (suc p) k cs (omega (arith, h)))
tokens_at-length p zero (c ∷ cs) h =
    let cell =
    cell-length (is_blank c) (record { lexeme = lexeme_of c (rest_of_token c cs); place = p; after = suc p + length (rest_of_token c cs) })
    (tokens_at (suc p) zero cs) (tokens_at (suc p) (length (rest_of_token c cs)) cs) (length cs) (length (rest_of_token c cs))
    (omega (arith, tokens_at-length (suc p) zero cs (omega arith))) (lexeme_of-length c cs)
    (tokens_at-length (suc p) (length (rest_of_token c cs)) cs (rest_of_token-within c cs)) in
    omega (arith, cell)

pub tokens_of-length : (text : List ℕ) → tokens_length (lexemes (tokens_of text)) ≤ length text
unfolding tokens_of
tokens_of-length text = omega (arith, tokens_at-length 1 0 text (omega arith))

-- What stands behind an expression has the same.
mutual
  pub numerals-expr : (e : ExprTree) (rest : List Lexeme) → AreNumerals (spell_expr e rest) → AreNumerals rest
  numerals-expr (Only factor) rest h = numerals-factor factor rest h
  numerals-expr (Times e factor) rest h = numerals-factor factor rest (numerals-expr e _ h).1

  numerals-factor : (f : FactorTree) (rest : List Lexeme) → AreNumerals (spell_factor f rest) → AreNumerals rest
  numerals-factor (Plain atom) rest h = numerals-atom atom rest h
  numerals-factor (With factor op) rest h = numerals-op op rest (numerals-factor factor _ h)

  numerals-op : (op : OpTree) (rest : List Lexeme) → AreNumerals (spell_op op rest) → AreNumerals rest
  numerals-op (Power text) rest h = h.1.1
  numerals-op (Negative text) rest h = h.1.1.1
  numerals-op (Conjugate atom) rest h = numerals-atom2 atom rest h.1
  numerals-op (Section Empty) rest h = h.1.1
  numerals-op (Section (Digits text)) rest h = h.1.1

  numerals-atom : (atom : AtomTree) (rest : List Lexeme) → AreNumerals (spell_atom atom rest) → AreNumerals rest
  numerals-atom One rest h = h.1
  numerals-atom (Simple atom) rest h = numerals-atom2 atom rest h

  numerals-atom2 : (atom : Atom2Tree) (rest : List Lexeme) → AreNumerals (spell_atom2 atom rest) → AreNumerals rest
  numerals-atom2 (Named name) rest h = h.1
  numerals-atom2 (Paren e) rest h = (numerals-expr e _ h.1).1
  numerals-atom2 (Comm left right) rest h = (numerals-expr right _ (numerals-expr left _ h.1).1).1

-- And it has no more bytes.
mutual
  pub length-expr : (e : ExprTree) (rest : List Lexeme) → tokens_length rest ≤ tokens_length (spell_expr e rest)
  length-expr (Only factor) rest = length-factor factor rest
  length-expr (Times e factor) rest = omega (arith, length-factor factor rest, length-expr e (Sign m.Star ∷ spell_factor factor rest))

  length-factor : (f : FactorTree) (rest : List Lexeme) → tokens_length rest ≤ tokens_length (spell_factor f rest)
  length-factor (Plain atom) rest = length-atom atom rest
  length-factor (With factor op) rest = omega (arith, length-op op rest, length-factor factor (spell_op op rest))

  length-op : (op : OpTree) (rest : List Lexeme) → tokens_length rest ≤ tokens_length (spell_op op rest)
  length-op (Power text) rest = omega arith
  length-op (Negative text) rest = omega arith
  length-op (Conjugate atom) rest = omega (arith, length-atom2 atom rest)
  length-op (Section Empty) rest = omega arith
  length-op (Section (Digits text)) rest = omega arith

  length-atom : (atom : AtomTree) (rest : List Lexeme) → tokens_length rest ≤ tokens_length (spell_atom atom rest)
  length-atom One rest = omega arith
  length-atom (Simple atom) rest = length-atom2 atom rest

  length-atom2 : (atom : Atom2Tree) (rest : List Lexeme) → tokens_length rest ≤ tokens_length (spell_atom2 atom rest)
  length-atom2 (Named name) rest = omega arith
  length-atom2 (Paren e) rest = omega (arith, length-expr e (Sign m.RightParen ∷ rest))
  length-atom2 (Comm left right) rest =
      omega (arith, length-expr right (Sign m.RightBracket ∷ rest), length-expr left (Sign m.Comma ∷ spell_expr right (Sign m.RightBracket ∷ rest)))
