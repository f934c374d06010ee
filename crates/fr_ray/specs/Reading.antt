-- How a text reads as a ray, in this project's own notation: the digits of the letters before the period, of which there may
-- be none, and in parentheses (40 and 41) the digits of the period. Places in a text are counted from 1.
use Rattle.std.specs.Prelude.{ℕ, ◌≡◌, ◌+◌, ◌==◌, Bool, nat_le, nat_lt, ◌&&◌, if◌then◌else◌, List, [], ◌∷◌, length, map, drop, Option, Some, None, Result, Ok, Err}
use Rattle.std.specs.List.{prefix_len, take_while}
use Rattle.fr_model.specs.Rays.{IsSameRay}
use Rattle.fr_alphabet.specs.Reading.{bad_place, letter_of_digit}
use Rattle.fr_ray.specs.Rays.{RayView}
use Rattle.fr_ray.specs.declared.fault.RayText.{RayText}
use Rattle.fr_ray.specs.declared.fault.RayText.TheVariants.{WordTooLong, EmptyPeriod, Syntax, NotALetter}

-- whether a byte is a digit, from 48 for 0 to 57 for 9
abbrev pub is_digit : ℕ → Bool
is_digit c = nat_le 48 c && nat_le c 57

-- the digits that a text begins with
abbrev pub digits_of : List ℕ → List ℕ
digits_of text = take_while is_digit text

-- what follows them
abbrev pub behind_digits : List ℕ → List ℕ
behind_digits text = drop (prefix_len is_digit text) text

-- behind the closing parenthesis, which stands before this place, nothing follows
abbrev pub ended_shape : List ℕ → List ℕ → ℕ → List ℕ → Result RayView RayText
ended_shape before period place [] = Ok (record { before = before; period = period })
ended_shape before period place (c ∷ rest) = Err (Syntax place)

-- behind the digits of a period, at this place, the parenthesis is closed
abbrev pub closed_shape : List ℕ → List ℕ → ℕ → List ℕ → Result RayView RayText
closed_shape before period place [] = Err (Syntax place)
closed_shape before period place (c ∷ rest) = if c == 41 then ended_shape before period (place + 1) rest else Err (Syntax place)

-- where no digit of a period stands, at this place: the whole rest may be the closing parenthesis
abbrev pub empty_fault : ℕ → List ℕ → RayText
empty_fault place [] = Syntax place
empty_fault place (c ∷ []) = if c == 41 then EmptyPeriod else Syntax place
empty_fault place (c ∷ e ∷ rest) = Syntax place

-- the digits of the period, and what follows them
abbrev pub period_shape : List ℕ → List ℕ → List ℕ → Result RayView RayText
period_shape before [] rest = Err (empty_fault (length before + 2) rest)
period_shape before (c ∷ period) rest = closed_shape before (c ∷ period) (length before + length (c ∷ period) + 2) rest

-- behind the digits before the period a parenthesis is opened
abbrev pub opened_shape : List ℕ → List ℕ → Result RayView RayText
opened_shape before [] = Err (Syntax (length before + 1))
opened_shape before (c ∷ text) = if c == 40 then period_shape before (digits_of text) (behind_digits text) else Err (Syntax (length before + 1))

-- the digits before the period and those of the period
abbrev pub ray_shape : List ℕ → Result RayView RayText
ray_shape text = opened_shape (digits_of text) (behind_digits text)

-- by the first bad digits of both strings: the letters, or that digit
abbrev pub letters_or_fault : Option ℕ → Option ℕ → RayView → Result RayView RayText
letters_or_fault (Some place) bad digits = Err (NotALetter place)
letters_or_fault None (Some place) digits = Err (NotALetter place)
letters_or_fault None None digits = Ok (record { before = map letter_of_digit digits.before; period = map letter_of_digit digits.period })

-- the letters of these digits, or the first digit that is no letter
abbrev pub letters_reading : ℕ → RayView → Result RayView RayText
letters_reading d digits = letters_or_fault (bad_place d 1 digits.before) (bad_place d (length digits.before + 2) digits.period) digits

-- the two words that a text writes, or why it is no ray
abbrev pub ray_reading : ℕ → List ℕ → Result RayView RayText
ray_reading d text = if nat_lt 4098 (length text) then Err WordTooLong else (elim (ray_shape text) [ Ok digits ↦ letters_reading d digits | Err e ↦ Err e ])

-- the ray that a text writes
pub record IsReading (d : ℕ) (text : List ℕ) (r : RayView) : Type 0 where
  pub written : RayView
  pub reads : ray_reading d text ≡ Ok written
  pub same : IsSameRay written.before written.period r.before r.period
