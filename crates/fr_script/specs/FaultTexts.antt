-- The texts of faults. They are this project's own.
use Rattle.std.specs.Prelude.{ℕ, List, ◌++◌, codes, decimal}
use Rattle.fr_script.specs.declared.fault.Fault.{Fault}
use Rattle.fr_script.specs.declared.fault.LineFault.{LineFault}
use Rattle.fr_script.specs.declared.fault.LineFault.TheVariants as f

-- what is wrong
abbrev pub kind_text : LineFault → List ℕ
kind_text (f.BadByte place) = codes "bad byte at " ++ decimal place
kind_text f.LineTooLong = codes "line too long"
kind_text f.UnknownStatement = codes "unknown statement"
kind_text (f.Syntax place) = codes "syntax at " ++ decimal place
kind_text f.NotALetter = codes "letter out of range"
kind_text f.WrongArity = codes "wrong number of sections"
kind_text f.NotPermutation = codes "not a permutation"
kind_text f.NestingPassed = codes "nesting passes 64"
kind_text f.PowerPassed = codes "number passes 1000000"
kind_text f.NoEnd = codes "no end"
kind_text f.NameTaken = codes "name taken"
kind_text f.UnknownName = codes "unknown name"
kind_text f.PairsPassed = codes "pairs pass 65536"
kind_text f.StatesPassed = codes "states pass 1024"
kind_text f.NucleusPassed = codes "nucleus passes 256"
kind_text f.TooManySections = codes "sections pass 64"
kind_text f.AlphabetRange = codes "alphabet out of range"
kind_text f.AlphabetPlace = codes "alphabet must be first"
kind_text f.RayPassed = codes "ray passes 4096"
kind_text f.ClosurePassed = codes "section words pass limit"

-- the same behind its line
abbrev pub located_text : Fault → List ℕ
located_text fault = codes "line " ++ decimal fault.line ++ codes ": " ++ kind_text fault.kind

-- a line of output
abbrev pub fault_text : Fault → List ℕ
fault_text fault = located_text fault ++ codes "\n"
