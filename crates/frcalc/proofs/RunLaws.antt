-- How the program ends where its script is there, by the cause of its ending.
use Rattle.std.proofs.Common.{ℕ, ◌≡◌, ◌⊎◌, ◌<◌, ◌≤◌, ◌==◌, Bool, true, false, inl, inr, List, [], ◌++◌, length, count_by, Option, None, Some, if◌then◌else◌, unwrap_or, refl, sym, ◌∙◌, ap, subst, arith}
use Rattle.std.proofs.lemmas.List.{append-nil, length-append}
use Rattle.std.proofs.lemmas.Option.{none-some}
use Rattle.std.specs.Io.KnownBytes.{Consumes, IsAtEnd}
use Rattle.fr_io.specs.Causes.{Rose}
use Rattle.fr_io.specs.Taken.{TookAll, TookSome, TookTooMany, Gave}
use Rattle.fr_script.specs.declared.script.Script.{Script}
use Rattle.fr_script.specs.Scripts.{lines_of, IsScript}
use Rattle.fr_script.proofs.LineCounts.{lines-by-newlines}
use Rattle.fr_plain.specs.Plain.{IsPlain}
use Rattle.fr_plain.specs.Beginnings.{PassesCharge}
use Rattle.fr_plain.proofs.PlainLaws.{passes_whole}
use Rattle.fr_options.specs.declared.options.Options.{Options}
use Rattle.frcalc.specs.declared.program.Ending.{Ending}
use Rattle.frcalc.specs.declared.program.Ending.TheVariants.{Fine, Refused, Usage, ReadFailed, WriteFailed, TooLong, StatesPassed, NoMemory}
use Rattle.frcalc.specs.declared.evaluation.Evaluation.{Evaluation}
use Rattle.frcalc.specs.Evaluations.{IsEvaluation}
use Rattle.frcalc.specs.Taking.{IsTaken}
use Rattle.frcalc.specs.Program.{Sides, Comes, IsUntouched, IsUnwritten, IsEvaluated, IsDue, IsWhole, IsCut, IsDear, HasManyLines, IsTooLong, IsUnread, Causes, Writes, status_of, tells_fault, due_of, IsComplete, IsThere, Completes, Passes}

some_same : (o p : Options) → Some o ≡ Some p → o ≡ p
some_same o p e = ap (λ x. unwrap_or x o) e

-- options are those that the words give
options_same : (options : Option Options) (o p : Options) → options ≡ Some o → options ≡ Some p → o ≡ p
options_same options o p a b = some_same o p (sym a ∙ b)

-- all that was told was taken
took_whole : (most : ℕ) (old new : Option (List ℕ)) (script bytes : List ℕ) → old ≡ Some script → TookAll most old new bytes → bytes ≡ script
took_whole most old new script bytes told t = at new (subst (λ (o : Option (List ℕ)). Consumes o new bytes) told t.took.consumes) t.at_end
  where
    at : (now : Option (List ℕ)) → Consumes (Some script) now bytes → IsAtEnd now → bytes ≡ script
    at None c e = absurd c
    at (Some rest) c e = sym (c ∙ ap (λ l. bytes ++ l) e ∙ append-nil bytes)

-- no more was taken than was told
not_many : (most : ℕ) (old new : Option (List ℕ)) (script : List ℕ) → old ≡ Some script → length script ≤ most → TookTooMany most old new → ⊥
not_many most old new script told short t = at new (subst (λ (o : Option (List ℕ)). Consumes o new t.bytes) told t.took.consumes)
  where
    at : (now : Option (List ℕ)) → Consumes (Some script) now t.bytes → ⊥
    at None c = absurd c
    at (Some rest) c = absurd (omega (arith, short, t.long, ap length c, length-append t.bytes rest))

-- the script that comes is the one that is there
comes_there : (demo : Option ℕ) (old new : Sides) (s script : List ℕ) → Comes demo old.left new.left old.read_faults new.read_faults s → IsThere demo old new script → s ≡ script
comes_there None old new s script c there = took_whole 1048576 old.left new.left script s there.0 c.took
comes_there (Some seed) old new s script c there = c.0 ∙ sym there

-- no read failed, and the script is not too long
not_unread : (demo : Option ℕ) (old new : Sides) (script : List ℕ) → IsThere demo old new script → demo ≡ None → Rose old.read_faults new.read_faults → ⊥
not_unread None old new script there e rose = there.3 rose
not_unread (Some seed) old new script there e rose = absurd (none-some seed (sym e))

not_long : (demo : Option ℕ) (old new : Sides) (script : List ℕ) → IsThere demo old new script → demo ≡ None → TookTooMany 1048576 old.left new.left ⊎ HasManyLines old.left new.left → ⊥
not_long None old new script there e (inl many) = not_many 1048576 old.left new.left script there.0 there.1 many
not_long None old new script there e (inr lines) =
    absurd (omega (arith, there.2, lines.many, ap (λ s. length (lines_of s)) (took_whole 1048576 old.left new.left script lines.script there.0 lines.took)))
not_long (Some seed) old new script there e x = absurd (none-some seed (sym e))

module _ (o : Options) (old new : Sides) (script : List ℕ) (there : IsThere o.demo old new script) where
  complete : (told : Bool) → IsWhole o told old new → IsComplete (if told then 1 else 0) o script old new
  complete told w =
      let due = w.due in
      record {
        text = due.text;
        refused = due.refused;
        charge = due.charge;
        count = due.count;
        evaluated =
            subst (λ (s : List ℕ). IsEvaluated s due.text due.refused due.charge due.count) (comes_there o.demo old new due.script script due.comes there) due.evaluated;
        status_is = ap (λ (t : Bool). if t then 1 else 0) due.told_is;
        gave = subst (Gave old.written new.written) due.written_is w.gave;
      }

  dear : IsDear o old new → PassesCharge script o.states
  dear d = subst (λ (s : List ℕ). PassesCharge s o.states) (comes_there o.demo old new d.script script d.comes there) d.passes

  -- what is due is charged at most the limit
  not_due : (told : Bool) (text : List ℕ) → PassesCharge script o.states → IsDue o told old new text → ⊥
  not_due told text passes due =
      let plain = subst (λ (s : List ℕ). IsPlain s due.text due.refused due.charge) (comes_there o.demo old new due.script script due.comes there) due.evaluated.plain in
      absurd (omega (arith, due.within, passes_whole script due.text due.refused due.charge o.states passes plain))

-- a cause of some options is one of these
module _ (options : Option Options) (old new : Sides) (o : Options) (is : options ≡ Some o) where
  whole_here : (told : Bool) → (p : Options) × (options ≡ Some p) × IsWhole p told old new → IsWhole o told old new
  whole_here told c = subst (λ (q : Options). IsWhole q told old new) (options_same options c.0 o c.1 is) c.2

  cut_here : (p : Options) × (options ≡ Some p) × IsCut p old new → IsCut o old new
  cut_here c = subst (λ (q : Options). IsCut q old new) (options_same options c.0 o c.1 is) c.2

  dear_here : (p : Options) × (options ≡ Some p) × IsDear p old new → IsDear o old new
  dear_here c = subst (λ (q : Options). IsDear q old new) (options_same options c.0 o c.1 is) c.2

  unread_here : (p : Options) × (options ≡ Some p) × IsUnread p old new → IsUnread o old new
  unread_here c = subst (λ (q : Options). IsUnread q old new) (options_same options c.0 o c.1 is) c.2

  long_here : (p : Options) × (options ≡ Some p) × IsTooLong p old new → IsTooLong o old new
  long_here c = subst (λ (q : Options). IsTooLong q old new) (options_same options c.0 o c.1 is) c.2

pub completes : (ending : Ending) (options : Option Options) (old new : Sides) → Causes ending options old new → Completes (status_of ending) options old new
completes Fine options old new c o script is there cheap write = inl (complete o old new script there false (whole_here options old new o is false c))
completes Refused options old new c o script is there cheap write = inl (complete o old new script there true (whole_here options old new o is true c))
completes Usage options old new c o script is there cheap write = absurd (none-some o (sym c.0 ∙ is))
completes ReadFailed options old new c o script is there cheap write =
    let u = unread_here options old new o is c in
    absurd (not_unread o.demo old new script there u.from_source u.rose)
completes WriteFailed options old new c o script is there cheap write = absurd (write c.2.rose)
completes TooLong options old new c o script is there cheap write =
    let u = long_here options old new o is c in
    absurd (not_long o.demo old new script there u.from_source u.long)
completes (StatesPassed m) options old new c o script is there cheap write = absurd (cheap (dear o old new script there (dear_here options old new o is (c.0, c.1, c.3))))
completes NoMemory options old new c o script is there cheap write = inr refl

pub passes : (ending : Ending) (options : Option Options) (old new : Sides) → Causes ending options old new → Passes (status_of ending) options old new
passes Fine options old new c o script is there more =
    let w = whole_here options old new o is false c in
    absurd (not_due o old new script there false w.text more w.due)
passes Refused options old new c o script is there more =
    let w = whole_here options old new o is true c in
    absurd (not_due o old new script there true w.text more w.due)
passes Usage options old new c o script is there more = absurd (none-some o (sym c.0 ∙ is))
passes ReadFailed options old new c o script is there more =
    let u = unread_here options old new o is c in
    absurd (not_unread o.demo old new script there u.from_source u.rose)
passes WriteFailed options old new c o script is there more =
    let w = cut_here options old new o is c in
    absurd (not_due o old new script there w.told w.text more w.due)
passes TooLong options old new c o script is there more =
    let u = long_here options old new o is c in
    absurd (not_long o.demo old new script there u.from_source u.long)
passes (StatesPassed m) options old new c o script is there more = inl refl
passes NoMemory options old new c o script is there more = inr refl

-- ---- the script
pub not_many_lines : (bytes : List ℕ) → count_by (λ (c : ℕ). c == 10) bytes ≡ 2000 → 4096 < length (lines_of bytes) → ⊥
not_many_lines bytes e h = absurd (omega (arith, e, h, lines-by-newlines bytes))

-- ---- the endings
-- a script was taken, and evaluated
pub evaluated_as : (limit : ℕ) (bytes : List ℕ) (script : Script) (e : Evaluation) → IsScript bytes script → (v : IsEvaluation script limit e) → IsEvaluated bytes e.text.items e.refused e.charge e.census
evaluated_as limit bytes script e reads v = record {
  plain = record {
    script = script;
    reads = reads;
    outcomes = v.outcomes;
    evaluates = v.evaluates;
    text_is = v.text_is;
    refused_is = v.refused_is;
    charge_is = v.charge_is;
  };
  census = record { script = script; reads = reads; outcomes = v.outcomes; evaluates = v.evaluates; holds = v.holds };
}

pub is_due : (o : Options) (old new : Sides) (script : Script) (e : Evaluation) (told : Bool) → IsTaken o.demo old.left new.left old.read_faults new.read_faults script → IsEvaluation script o.states e
    → tells_fault o.demo e.refused ≡ told → IsDue o told old new (due_of o e)
is_due o old new script e told t v is = record {
  script = t.bytes;
  text = e.text.items;
  refused = e.refused;
  charge = e.charge;
  count = e.census;
  comes = t.comes;
  evaluated = evaluated_as o.states t.bytes script e t.reads v;
  within = omega (arith, v.charge_is, v.within);
  told_is = sym is;
  written_is = refl;
}

-- some first bytes were taken, and none of them with a seed
took_nothing : (old : Option (List ℕ)) → TookSome old old
took_nothing None = record { bytes = []; took = record { consumes = tt; told = refl } }
took_nothing (Some bytes) = record { bytes = []; took = record { consumes = refl; told = refl } }

took_some : (demo : Option ℕ) (old new : Option (List ℕ)) (before now : ℕ) (bytes : List ℕ) → Comes demo old new before now bytes → TookSome old new
took_some None old new before now bytes c = record { bytes = bytes; took = c.took.took }
took_some (Some seed) old new before now bytes c = subst (TookSome old) (sym c.1.left) (took_nothing old)

spares_taken : (demo : Option ℕ) (seed : ℕ) (old new : Option (List ℕ)) (before now : ℕ) (bytes : List ℕ) → Comes demo old new before now bytes → demo ≡ Some seed → IsUntouched old new before now
spares_taken None seed old new before now bytes c e = absurd (none-some seed e)
spares_taken (Some other) seed old new before now bytes c e = c.1

-- memory ran out below a script that was taken
pub given_up : (options : Option Options) (o : Options) (old new : Sides) (script : Script) → options ≡ Some o → IsTaken o.demo old.left new.left old.read_faults new.read_faults script → IsUnwritten old new
    → Causes NoMemory options old new
given_up options o old new script is t unwritten = record {
  took = took_some o.demo old.left new.left old.read_faults new.read_faults t.bytes t.comes;
  spares = λ p seed other e. spares_taken o.demo seed old.left new.left old.read_faults new.read_faults t.bytes t.comes (ap (λ (q : Options). q.demo) (options_same options o p is other) ∙ e);
  unwritten = unwritten;
}

-- how it ends that an evaluation is written
pub writes : (ending : Ending) (options : Option Options) (o : Options) (old new : Sides) (script : Script) (e : Evaluation) → options ≡ Some o
    → IsTaken o.demo old.left new.left old.read_faults new.read_faults script → IsEvaluation script o.states e → Writes o e old.written new.written old.write_faults new.write_faults ending
    → Causes ending options old new
writes Fine options o old new script e is t v w = (o, is, record { text = due_of o e; due = is_due o old new script e false t v w.0; gave = w.1 })
writes Refused options o old new script e is t v w = (o, is, record { text = due_of o e; due = is_due o old new script e true t v w.0; gave = w.1 })
writes WriteFailed options o old new script e is t v w =
    (o, is, record { text = due_of o e; told = tells_fault o.demo e.refused; due = is_due o old new script e (tells_fault o.demo e.refused) t v refl; gave = w.0; rose = w.1 })
writes NoMemory options o old new script e is t v w = given_up options o old new script is t (record { written = w.0; write_faults = w.1 })
writes Usage options o old new script e is t v w = absurd w
writes ReadFailed options o old new script e is t v w = absurd w
writes TooLong options o old new script e is t v w = absurd w
writes (StatesPassed m) options o old new script e is t v w = absurd w
