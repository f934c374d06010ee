-- A line as bytes: what its text is, and its tokens.
use Rattle.std.specs.Prelude.{ℕ, zero, suc, ◌+◌, Bool, false, not, ◌==◌, ◌&&◌, ◌||◌, nat_le, nat_lt, if◌then◌else◌, List, [], ◌∷◌, length, take, take_while, slice_index, ◌-◌, map, Option, position, option_map}
use Rattle.fr_syntax.specs.declared.token.Mark.{Mark}
use Rattle.fr_syntax.specs.declared.token.Mark.TheVariants as m
use Rattle.fr_syntax.specs.declared.token.Placed.{Placed}
use Rattle.fr_syntax.specs.Tokens.{Lexeme, Name, Number, Sign, seen}

-- without a closing byte 13
abbrev pub without_return : List ℕ → List ℕ
without_return line = if slice_index line (length line - 1) == 13 then take (length line - 1) line else line

-- up to the first `#`, which begins a comment
abbrev pub before_comment : List ℕ → List ℕ
before_comment line = take_while (λ c. not (c == 35)) line

-- what is cut into tokens
abbrev pub code_of : List ℕ → List ℕ
code_of line = before_comment (without_return line)

-- a space or a tab, which only part tokens
abbrev pub is_blank : ℕ → Bool
is_blank c = c == 32 || c == 9

-- what may stand before a comment
abbrev pub is_allowed : ℕ → Bool
is_allowed c = (nat_le 32 c && nat_le c 126) || c == 9

-- an ASCII letter
abbrev pub is_letter : ℕ → Bool
is_letter c = (nat_le 65 c && nat_le c 90) || (nat_le 97 c && nat_le c 122)

-- an ASCII digit
abbrev pub is_digit : ℕ → Bool
is_digit c = nat_le 48 c && nat_le c 57

-- what may go on a name
abbrev pub is_name_byte : ℕ → Bool
is_name_byte c = is_letter c || (is_digit c || c == 95)

-- the token of any other byte
abbrev pub mark_of : ℕ → Mark
mark_of c =
    if c == 40 then m.LeftParen else (if c == 41 then m.RightParen else (if c == 91 then m.LeftBracket else (if c == 93 then m.RightBracket else
    (if c == 44 then m.Comma else (if c == 42 then m.Star else (if c == 94 then m.Caret else (if c == 45 then m.Minus else (if c == 64 then m.At else
    (if c == 61 then m.Equals else (if c == 60 then m.Less else (if c == 62 then m.Greater else m.Other c)))))))))))

-- a token, the place of its first byte and the place after its last, from 1
pub record Located : Type 0 where
  pub lexeme : Lexeme
  pub place : ℕ
  pub after : ℕ

-- what follows the first byte of a token in it: as much as belongs to a name or a number
abbrev pub rest_of_token : ℕ → List ℕ → List ℕ
rest_of_token c cs = if is_letter c then take_while is_name_byte cs else (if is_digit c then take_while is_digit cs else [])

-- the token that begins with the byte c and goes on so
abbrev pub lexeme_of : ℕ → List ℕ → Lexeme
lexeme_of c rest = if is_letter c then Name (c ∷ rest) else (if is_digit c then Number (c ∷ rest) else Sign (mark_of c))

-- The tokens of bytes. The next byte has the place p, and k bytes still belong to the last token.
abbrev pub tokens_at : ℕ → ℕ → List ℕ → List Located
tokens_at p k [] = []
tokens_at p (suc k) (c ∷ cs) = tokens_at (suc p) k cs
tokens_at p zero (c ∷ cs) =
    if is_blank c then tokens_at (suc p) zero cs
    else (record { lexeme = lexeme_of c (rest_of_token c cs); place = p; after = suc p + length (rest_of_token c cs) }
    ∷ tokens_at (suc p) (length (rest_of_token c cs)) cs)

-- the tokens of a text, with places from 1
unfoldable pub tokens_of : List ℕ → List Located
tokens_of code = tokens_at 1 0 code

-- a token of the program without its places
abbrev pub lexeme : Placed → Lexeme
lexeme p = seen p.token

-- a token of the program, as contracts see it
abbrev pub located : Placed → Located
located p = record { lexeme = seen p.token; place = p.place; after = p.after }

-- the tokens without their places
abbrev pub lexemes : List Located → List Lexeme
lexemes tokens = map (λ token. token.lexeme) tokens

-- the place of the first byte that is not allowed before the comment
unfoldable pub bad_place : List ℕ → Option ℕ
bad_place code = option_map (λ k. k + 1) (position (λ c. not (is_allowed c)) code)

-- the place of the token with the index k, or one past the last byte of the last token; without tokens, the first place
abbrev pub place_of : List Located → ℕ → ℕ
place_of [] k = 1
place_of (token ∷ []) zero = token.place
place_of (token ∷ []) (suc k) = token.after
place_of (token ∷ other ∷ more) zero = token.place
place_of (token ∷ other ∷ more) (suc k) = place_of (other ∷ more) k

-- how many `(` and `[` are open after a token; a closing one with none of its kind open counts for nothing
abbrev pub round_after : ℕ → Lexeme → ℕ
round_after n (Sign m.LeftParen) = suc n
round_after n (Sign m.RightParen) = n - 1
round_after n _ = n

-- the same of `[`
abbrev pub square_after : ℕ → Lexeme → ℕ
square_after n (Sign m.LeftBracket) = suc n
square_after n (Sign m.RightBracket) = n - 1
square_after n _ = n

-- whether more than 64 are open somewhere, after so many are
abbrev pub passes_nesting : ℕ → ℕ → List Lexeme → Bool
passes_nesting round square [] = false
passes_nesting round square (token ∷ tokens) =
    nat_lt 64 (round_after round token + square_after square token)
    || passes_nesting (round_after round token) (square_after square token) tokens
