-- The text of a class, in this project's own notation.
use Rattle.std.specs.Prelude.{ℕ, ◌==◌, if◌then◌else◌, List, ◌++◌, codes}
use Rattle.std.specs.Fmt.{decimal}
use Rattle.fr_alphabet.specs.Writing.{word_text}
use Rattle.fr_growth.specs.declared.growth_class.Class.{Class}
use Rattle.fr_growth.specs.declared.growth_class.Class.TheVariants.{Finitary, Polynomial, Exponential}

-- degree 0 is called bounded
abbrev pub degree_text : ℕ → List ℕ
degree_text degree = if degree == 0 then codes "bounded" else codes "polynomial " ++ decimal degree

-- the class with its number or its words
abbrev pub class_text : Class → List ℕ
class_text (Finitary depth) = codes "finitary " ++ decimal depth
class_text (Polynomial degree chain) = degree_text degree
class_text (Exponential at u v) = codes "exponential at " ++ word_text at ++ codes " by " ++ word_text u ++ codes " " ++ word_text v
