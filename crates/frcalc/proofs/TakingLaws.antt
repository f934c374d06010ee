-- A demonstration is taken without the source.
use Rattle.std.proofs.Common.{ℕ, ◌≡◌, List, Option, Some, refl, sym, subst}
use Rattle.fr_script.specs.declared.line_reader.ScriptFault.{ScriptFault}
use Rattle.fr_script.specs.declared.line_reader.ScriptFault.TheVariants as fault
use Rattle.fr_script.specs.declared.script.Script.{Script}
use Rattle.fr_script.specs.Scripts.{IsScript}
use Rattle.fr_demo.specs.Demonstration.{demonstration}
use Rattle.frcalc.specs.Taking.{of_script, IsTaken, IsNotTaken}

pub demo_taken : (demo : Option ℕ) (seed : ℕ) (left : Option (List ℕ)) (faults : ℕ) (bytes : List ℕ) (script : Script) → demo ≡ Some seed → bytes ≡ demonstration seed → IsScript bytes script
    → IsTaken demo left left faults faults script
demo_taken demo seed left faults bytes script is same reads =
    subst (λ (d : Option ℕ). IsTaken d left left faults faults script) (sym is) (record { bytes = bytes; comes = (same, record { left = refl; read_faults = refl }); reads = reads })

-- it has few lines, so only memory can lack
pub demo_not_taken : (demo : Option ℕ) (seed : ℕ) (left : Option (List ℕ)) (faults : ℕ) (why : ScriptFault) → demo ≡ Some seed → (why ≡ fault.LinesPassed → ⊥)
    → IsNotTaken demo left left faults faults (of_script why)
demo_not_taken demo seed left faults why is few = subst (λ (d : Option ℕ). IsNotTaken d left left faults faults (of_script why)) (sym is) (at why few)
  where
    at : (f : ScriptFault) → (f ≡ fault.LinesPassed → ⊥) → IsNotTaken (Some seed) left left faults faults (of_script f)
    at fault.LinesPassed none = absurd (none refl)
    at fault.NoMemory none = (refl, record { left = refl; read_faults = refl })
