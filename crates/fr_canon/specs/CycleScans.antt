-- How the cycles of a permutation are taken in byte by byte, with no test whether they are well written. This project's own.
use Rattle.std.specs.Prelude.{ℕ, ◌-◌, ◌==◌, if◌then◌else◌, [], ◌∷◌, slice_set}
use Rattle.fr_alphabet.specs.Reading.{is_letter_digit}
use Rattle.fr_canon.specs.declared.cycles.CycleScan.{CycleScan}

-- at `(` a cycle begins, at `)` its last letter goes to its first; a letter goes to the next one
abbrev pub after_byte : CycleScan → ℕ → CycleScan
after_byte s c =
    if c == 40 then record { images = s.images; first = s.first; last = 0 }
    else if c == 41 then record { images = slice_set s.images s.last s.first; first = s.first; last = s.last }
    else if is_letter_digit 8 c then record { images = slice_set s.images s.last (c - 48); first = if s.last == 0 then c - 48 else s.first; last = c - 48 }
    else s

-- each letter stays where no byte came yet
abbrev pub first_scan : CycleScan
first_scan = record { images = 0 ∷ 1 ∷ 2 ∷ 3 ∷ 4 ∷ 5 ∷ 6 ∷ 7 ∷ 8 ∷ []; first = 0; last = 0 }
