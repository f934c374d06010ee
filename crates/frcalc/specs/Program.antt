-- When the program ends with each status, and what it leaves. What is said of bytes that were taken or written binds
-- where the source or the sink tells its bytes.
use Rattle.std.specs.Prelude.{◌≡◌, ◌⊎◌, ℕ, ◌<◌, ◌≤◌, List, ◌++◌, length, Bool, true, false, Option, Some, None, if◌then◌else◌, ◌+◌, [], ◌∷◌, codes}
use Rattle.std.specs.Fmt.{decimal}
use Rattle.std.specs.Str.{bytes_eq}
use Rattle.fr_io.specs.Causes.{Rose}
use Rattle.fr_io.specs.Taken.{TookAll, TookFew, TookSome, TookTooMany, Gave, GavePart}
use Rattle.fr_script.specs.Scripts.{lines_of}
use Rattle.fr_plain.specs.Plain.{IsPlain}
use Rattle.fr_plain.specs.Held.{HasCensus}
use Rattle.fr_plain.specs.Beginnings.{PassesCharge}
use Rattle.fr_demo.specs.Demonstration.{demonstration}
use Rattle.fr_options.specs.declared.options.Options.{Options}
use Rattle.frcalc.specs.declared.evaluation.Evaluation.{Evaluation}
use Rattle.frcalc.specs.declared.program.Ending.{Ending}
use Rattle.frcalc.specs.declared.program.Ending.TheVariants.{Fine, Refused, Usage, ReadFailed, WriteFailed, TooLong, StatesPassed, NoMemory}

-- what the source and the sink tell and have counted at a moment
pub record Sides : Type 0 where
  pub left : Option (List ℕ)
  pub read_faults : ℕ
  pub written : Option (List ℕ)
  pub write_faults : ℕ

abbrev pub sides_of : {S T : Type 0} → (S → Option (List ℕ)) → (S → ℕ) → (T → Option (List ℕ)) → (T → ℕ) → S → T → Sides
sides_of left read_faults written write_faults input out =
    record { left = left input; read_faults = read_faults input; written = written out; write_faults = write_faults out }

-- nothing was written
pub record IsUnwritten (old new : Sides) : Type 0 where
  pub written : new.written ≡ old.written
  pub write_faults : new.write_faults ≡ old.write_faults

-- the source was read to its end: at most 1,048,576 bytes in at most 4,096 lines
pub record IsRead (old new : Option (List ℕ)) (script : List ℕ) : Type 0 where
  pub took : TookAll 1048576 old new script
  pub few_lines : length (lines_of script) ≤ 4096

-- nothing was taken from the source
pub record IsUntouched (old new : Option (List ℕ)) (before now : ℕ) : Type 0 where
  pub left : new ≡ old
  pub read_faults : now ≡ before

-- where the script comes from: with a seed it is the demonstration, and else what the source told
abbrev pub Comes : Option ℕ → Option (List ℕ) → Option (List ℕ) → ℕ → ℕ → List ℕ → Type 0
Comes None old new before now script = IsRead old new script
Comes (Some seed) old new before now script = (script ≡ demonstration seed) × IsUntouched old new before now

-- how many lines say that two elements are equal
abbrev pub count_equal : List (List ℕ) → ℕ
count_equal [] = 0
count_equal (line ∷ lines) = (if bytes_eq line (codes "equal") then 1 else 0) + count_equal lines

-- a line with a name and a number
abbrev pub number_line : List ℕ → ℕ → List ℕ
number_line name n = name ++ decimal n ++ codes "\n"

-- what a demonstration tells of a text, its charge and its census
abbrev pub demonstration_lines : List ℕ → ℕ → ℕ → List ℕ
demonstration_lines text charge count =
    codes "lines 2000\n" ++ number_line (codes "equal ") (count_equal (lines_of text)) ++ number_line (codes "charge ") charge ++ number_line (codes "store ") count

-- what is written of a script with this text, this charge and this census
abbrev pub written_of : Option ℕ → Bool → List ℕ → ℕ → ℕ → List ℕ
written_of None false text charge count = text
written_of None true text charge count = text ++ number_line (codes "store ") count
written_of (Some seed) census text charge count = demonstration_lines text charge count

-- whether a fault of a line is told by the status, which that of a demonstration does not
abbrev pub tells_fault : Option ℕ → Bool → Bool
tells_fault None refused = refused
tells_fault (Some seed) refused = false

-- a script by plain evaluation: its text, whether a line has a fault, its charge, and the number of classes of the sections
-- of what its steps make
pub record IsEvaluated (script text : List ℕ) (refused : Bool) (charge count : ℕ) : Type 0 where
  pub plain : IsPlain script text refused charge
  pub census : HasCensus script count

-- what is to be written by these options: what the plain evaluation of the script gives, whose charge is at most the limit
pub record IsDue (o : Options) (told : Bool) (old new : Sides) (written : List ℕ) : Type 0 where
  pub script : List ℕ
  pub text : List ℕ
  pub refused : Bool
  pub charge : ℕ
  pub count : ℕ
  pub comes : Comes o.demo old.left new.left old.read_faults new.read_faults script
  pub evaluated : IsEvaluated script text refused charge count
  pub within : charge ≤ o.states
  pub told_is : told ≡ tells_fault o.demo refused
  pub written_is : written ≡ written_of o.demo o.census text charge count

-- what was written grew by what was due, and by nothing else
pub record IsWhole (o : Options) (told : Bool) (old new : Sides) : Type 0 where
  pub text : List ℕ
  pub due : IsDue o told old new text
  pub gave : Gave old.written new.written text

-- it grew by a part of what was due, and a write failed
pub record IsCut (o : Options) (old new : Sides) : Type 0 where
  pub text : List ℕ
  pub told : Bool
  pub due : IsDue o told old new text
  pub gave : GavePart old.written new.written text
  pub rose : Rose old.write_faults new.write_faults

-- the charge of the script is more than the limit
pub record IsDear (o : Options) (old new : Sides) : Type 0 where
  pub script : List ℕ
  pub comes : Comes o.demo old.left new.left old.read_faults new.read_faults script
  pub passes : PassesCharge script o.states
  pub unwritten : IsUnwritten old new

-- a read failed
pub record IsUnread (o : Options) (old new : Sides) : Type 0 where
  pub from_source : o.demo ≡ None
  pub few : TookFew 1048576 old.left new.left
  pub rose : Rose old.read_faults new.read_faults
  pub unwritten : IsUnwritten old new

-- all bytes were taken, and stand in too many lines
pub record HasManyLines (old new : Option (List ℕ)) : Type 0 where
  pub script : List ℕ
  pub took : TookAll 1048576 old new script
  pub many : 4096 < length (lines_of script)

-- too many bytes, or all of them in too many lines
pub record IsTooLong (o : Options) (old new : Sides) : Type 0 where
  pub from_source : o.demo ≡ None
  pub long : TookTooMany 1048576 old.left new.left ⊎ HasManyLines old.left new.left
  pub unwritten : IsUnwritten old new

-- with a seed nothing was taken from the source
abbrev pub SparesSource : Option Options → Sides → Sides → Type 0
SparesSource options old new = (o : Options) (seed : ℕ) → options ≡ Some o → o.demo ≡ Some seed → IsUntouched old.left new.left old.read_faults new.read_faults

-- nothing was written, and some first bytes were taken, without a seed
pub record IsGivenUp (options : Option Options) (old new : Sides) : Type 0 where
  pub took : TookSome old.left new.left
  pub spares : SparesSource options old new
  pub unwritten : IsUnwritten old new

-- the cause of each ending, where the words give these options or are not accepted
abbrev pub Causes : Ending → Option Options → Sides → Sides → Type 0
Causes Fine options old new = (o : Options) × (options ≡ Some o) × IsWhole o false old new
Causes Refused options old new = (o : Options) × (options ≡ Some o) × IsWhole o true old new
Causes Usage options old new = (options ≡ None) × (new ≡ old)
Causes ReadFailed options old new = (o : Options) × (options ≡ Some o) × IsUnread o old new
Causes WriteFailed options old new = (o : Options) × (options ≡ Some o) × IsCut o old new
Causes TooLong options old new = (o : Options) × (options ≡ Some o) × IsTooLong o old new
Causes (StatesPassed n) options old new = (o : Options) × (options ≡ Some o) × (n ≡ o.states) × IsDear o old new
Causes NoMemory options old new = IsGivenUp options old new

abbrev pub status_of : Ending → ℕ
status_of Fine = 0
status_of Refused = 1
status_of Usage = 2
status_of ReadFailed = 3
status_of WriteFailed = 4
status_of TooLong = 5
status_of (StatesPassed n) = 6
status_of NoMemory = 7

-- what is said of an ending, up to the number where one is said
abbrev pub front_of : Ending → List ℕ
front_of Fine = []
front_of Refused = []
front_of Usage = codes "frcalc: usage: frcalc [--workers W] [--grain K] [--states N] [--census] [--demo SEED]\n"
front_of ReadFailed = codes "frcalc: read failed\n"
front_of WriteFailed = codes "frcalc: write failed\n"
front_of TooLong = codes "frcalc: script too long\n"
front_of (StatesPassed n) = codes "frcalc: states pass "
front_of NoMemory = codes "frcalc: out of memory\n"

abbrev pub message_of : Ending → List ℕ
message_of Fine = []
message_of Refused = []
message_of Usage = codes "frcalc: usage: frcalc [--workers W] [--grain K] [--states N] [--census] [--demo SEED]\n"
message_of ReadFailed = codes "frcalc: read failed\n"
message_of WriteFailed = codes "frcalc: write failed\n"
message_of TooLong = codes "frcalc: script too long\n"
message_of (StatesPassed n) = codes "frcalc: states pass " ++ decimal n ++ codes "\n"
message_of NoMemory = codes "frcalc: out of memory\n"

-- the message, or a part of it where a fault was counted
abbrev pub Says : List ℕ → Option (List ℕ) → Option (List ℕ) → ℕ → ℕ → Type 0
Says message old new before now = Gave old new message ⊎ (GavePart old new message × Rose before now)

-- the status has its cause, and `err` grew by its message, or by a part of it where a fault was counted
pub record Ends (status : ℕ) (options : Option Options) (old new : Sides) (told told_after : Option (List ℕ)) (faults faults_after : ℕ) : Type 0 where
  pub ending : Ending
  pub status_is : status ≡ status_of ending
  pub cause : Causes ending options old new
  pub says : Says (message_of ending) told told_after faults faults_after

-- the status is 0 or 1, and all that is due was written
pub record IsComplete (status : ℕ) (o : Options) (script : List ℕ) (old new : Sides) : Type 0 where
  pub text : List ℕ
  pub refused : Bool
  pub charge : ℕ
  pub count : ℕ
  pub evaluated : IsEvaluated script text refused charge count
  pub status_is : status ≡ (if tells_fault o.demo refused then 1 else 0)
  pub gave : Gave old.written new.written (written_of o.demo o.census text charge count)

-- the script that is there: with a seed the demonstration, and else all that the source tells, which is not too long and was
-- read without a fault
abbrev pub IsThere : Option ℕ → Sides → Sides → List ℕ → Type 0
IsThere None old new script = (old.left ≡ Some script) × (length script ≤ 1048576) × (length (lines_of script) ≤ 4096) × ¬ Rose old.read_faults new.read_faults
IsThere (Some seed) old new script = script ≡ demonstration seed

-- accepted words, a script that is there and not charged more than the limit, and no fault of a write: all that is due, or
-- want of memory
abbrev pub Completes : ℕ → Option Options → Sides → Sides → Type 0
Completes status options old new = (o : Options) (script : List ℕ) → options ≡ Some o → IsThere o.demo old new script → ¬ PassesCharge script o.states
    → ¬ Rose old.write_faults new.write_faults → IsComplete status o script old new ⊎ (status ≡ 7)

-- the same with a script that is charged more: status 6, or want of memory
abbrev pub Passes : ℕ → Option Options → Sides → Sides → Type 0
Passes status options old new = (o : Options) (script : List ℕ) → options ≡ Some o → IsThere o.demo old new script → PassesCharge script o.states → (status ≡ 6) ⊎ (status ≡ 7)

-- what is due of an evaluation
abbrev pub due_of : Options → Evaluation → List ℕ
due_of o e = written_of o.demo o.census e.text.items e.charge e.census

-- how it ends that what is due of an evaluation is written: all of it or a part of it was written, or nothing
abbrev pub Writes : Options → Evaluation → Option (List ℕ) → Option (List ℕ) → ℕ → ℕ → Ending → Type 0
Writes o e old new before now Fine = (tells_fault o.demo e.refused ≡ false) × Gave old new (due_of o e)
Writes o e old new before now Refused = (tells_fault o.demo e.refused ≡ true) × Gave old new (due_of o e)
Writes o e old new before now WriteFailed = GavePart old new (due_of o e) × Rose before now
Writes o e old new before now NoMemory = (new ≡ old) × (now ≡ before)
Writes o e old new before now _ = ⊥
