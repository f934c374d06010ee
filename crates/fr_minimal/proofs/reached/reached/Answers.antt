use Rattle.std.proofs.Common.{arith, sym, ap, ◌∙◌, subst, ℕ, ◌≡◌, ◌<◌, ◌≤◌, List, [], ◌∷◌, ◌++◌, length, get_or}
use Rattle.fr_model.specs.Terms.{IsAlike}
use Rattle.fr_model.specs.Automata.{next_state}
use Rattle.fr_machine.specs.declared.row.Row.{Row}
use Rattle.fr_machine.specs.Machine.{MachineView}
use Rattle.fr_machine.specs.Rows.{IsMachine, states_of, row_term}
use Rattle.fr_machine.specs.Minimal.{AreReached}
use Rattle.fr_machine.specs.Walks.{IsBuilt, IsKeys, IsRowMade, IsRowOf}
use Rattle.fr_machine.proofs.WalkLaws.{IsBuilt-more}
use Rattle.fr_minimal.specs.Smallest.{chosen_output}
use Rattle.fr_minimal.proofs.ReachedLaws.{IsMachine-reached, AreReached-reached, alike_reached}
use Rattle.fr_minimal.proofs.reached.reached.Goals as goal

more : (d bound : ℕ) (step : ℕ → ℕ → ℕ) (output : ℕ → List ℕ) (start key : ℕ) (keys keys' : List ℕ) (b b' : ℕ) (rows rows' : List Row) (r : Row) → IsBuilt d bound step output start keys rows → length rows < length keys → key ≡ get_or keys (length rows) 0
    → IsRowMade d 65536 step output (record { bound = b; keys = keys }) (record { bound = b'; keys = keys' }) key r → rows' ≡ rows ++ r ∷ [] → IsBuilt d bound step output start keys' rows'
more d bound step output start key keys keys' b b' rows rows' r h l e x f =
    let u = h.reached (length rows) l in
    let P : ℕ → Type 0 = λ k. IsRowOf d step output keys' k r in
    IsBuilt-more d bound step output start keys keys' rows rows' r h l x.extends (x.reached start u.0 u.1 (u.2 ∙ sym e) h.reached) (subst P e x.row) f

pub loop-walk-preserved : goal.loop-walk-preserved
loop-walk-preserved c =
    let m = c.args.m.now.rows in
    let d = c.args.m.now.alphabet in
    let l : length c.loop-walk.rows.items < length c.loop-walk.walk.keys = omega (arith, c.loop-walk-test.true, c.len.ensures, c.loop-walk.rows.ok.0, ap length c.keys.ensures.value) in
    let at : c.len-in-loop-walk.result ≡ length c.loop-walk.rows.items = omega (arith, c.len-in-loop-walk.ensures, c.loop-walk.rows.ok.0) in
    let e : get_or c.keys-in-loop-walk.result.now c.len-in-loop-walk.result 0 ≡ get_or c.loop-walk.walk.keys (length c.loop-walk.rows.items) 0 = ap (λ xs. get_or xs c.len-in-loop-walk.result 0) c.keys-in-loop-walk.ensures.value ∙ ap (λ i. get_or c.loop-walk.walk.keys i 0) at in
    let r : IsRowMade d 65536 (next_state (states_of m)) (chosen_output (states_of m)) c.loop-walk.walk c.row_of.new.walk (get_or c.keys-in-loop-walk.result.now c.len-in-loop-walk.result 0) c.in_ok-row.row = c.in_ok-row.ensures in
    record {
      built = more d (length m) (next_state (states_of m)) (chosen_output (states_of m)) c.args.s _ c.loop-walk.walk.keys c.row_of.new.walk.keys c.loop-walk.walk.bound c.row_of.new.walk.bound c.loop-walk.rows.items c.push.new.self.items c.in_ok-row.row c.loop-walk.invariant.built l e r c.in_ok-push.ensures.items;
      bound = r.bound ∙ c.loop-walk.invariant.bound;
    }

pub from_rows-requires : goal.from_rows-requires
from_rows-requires c =
    let m = c.args.m.now.rows in
    let keyed : IsKeys (length m) c.loop-walk.walk.keys = let P : ℕ → Type 0 = λ b. IsKeys b c.loop-walk.walk.keys in subst P c.loop-walk.invariant.bound c.keys-keys.ensures.valid in
    let whole : length c.loop-walk.walk.keys ≤ length c.loop-walk.rows.items = omega (arith, c.loop-walk-test.false, c.len.ensures, c.loop-walk.rows.ok.0, ap length c.keys.ensures.value) in
    let Q : ℕ → Type 0 = λ d. IsMachine d c.loop-walk.rows.items in
    subst Q (sym c.alphabet.ensures.value) (IsMachine-reached c.args.m.now.alphabet m c.alphabet.ensures.valid c.args.s c.loop-walk.walk.keys c.loop-walk.rows.items c.loop-walk.invariant.built keyed whole)

pub returns-clause-alike : goal.returns-clause-alike
returns-clause-alike c =
    let m = c.args.m.now.rows in
    let keyed : IsKeys (length m) c.loop-walk.walk.keys = let P : ℕ → Type 0 = λ b. IsKeys b c.loop-walk.walk.keys in subst P c.loop-walk.invariant.bound c.keys-keys.ensures.valid in
    let whole : length c.loop-walk.walk.keys ≤ length c.loop-walk.rows.items = omega (arith, c.loop-walk-test.false, c.len.ensures, c.loop-walk.rows.ok.0, ap length c.keys.ensures.value) in
    let R : MachineView → Type 0 = λ v. IsAlike (row_term v.rows 0) (row_term m c.args.s) in
    subst R (sym c.from_rows.ensures) (alike_reached c.args.m.now.alphabet m c.alphabet.ensures.valid c.args.s c.loop-walk.walk.keys c.loop-walk.rows.items c.loop-walk.invariant.built keyed whole)

pub returns-clause-reached : goal.returns-clause-reached
returns-clause-reached c =
    let m = c.args.m.now.rows in
    let keyed : IsKeys (length m) c.loop-walk.walk.keys = let P : ℕ → Type 0 = λ b. IsKeys b c.loop-walk.walk.keys in subst P c.loop-walk.invariant.bound c.keys-keys.ensures.valid in
    let whole : length c.loop-walk.walk.keys ≤ length c.loop-walk.rows.items = omega (arith, c.loop-walk-test.false, c.len.ensures, c.loop-walk.rows.ok.0, ap length c.keys.ensures.value) in
    let R : MachineView → Type 0 = λ v. AreReached c.args.m.now.alphabet v.rows in
    subst R (sym c.from_rows.ensures) (AreReached-reached c.args.m.now.alphabet m c.alphabet.ensures.valid c.args.s c.loop-walk.walk.keys c.loop-walk.rows.items c.loop-walk.invariant.built keyed whole)
