use Rattle.std.proofs.Common.{arith, sym, ap, ◌∙◌, subst, ℕ, ◌≡◌, ◌<◌, ◌≤◌, ◌+◌, ◌-◌, List, [], ◌∷◌, ◌++◌, length, get_or}
use Rattle.std.proofs.lemmas.List.{length_push, get_or_read}
use Rattle.fr_machine.specs.declared.row.Row.{Row}
use Rattle.fr_machine.specs.Machine.{MachineView}
use Rattle.fr_machine.specs.Rows.{IsMachine, states_of, row_term}
use Rattle.fr_machine.specs.Minimal.{IsMinimal}
use Rattle.fr_machine.specs.Walks.{IsBuilt, IsKeys, IsRowMade, IsRowOf, IsRowPassed}
use Rattle.fr_machine.proofs.WalkLaws.{IsBuilt-start, IsBuilt-more}
use Rattle.fr_minimal.specs.Smallest.{IsSmallest, IsChoice, chosen_of, chosen_step, chosen_output}
use Rattle.fr_minimal.proofs.ChoiceLaws.{classes_below, IsMinimal-built, IsSmallest-built, HasMoreStates-passed, not-HasMoreStates}
use Rattle.fr_minimal.proofs.smallest.minimize_with.Goals as goal

pub choice-requires-clause-below : goal.choice-requires-clause-below
choice-requires-clause-below c = classes_below c.args.m.now.rows c.args.of.now c.requires.classes

chosen_read : (of chosen : List ℕ) (s x : ℕ) → IsChoice of chosen → s < length of → x ≡ get_or chosen (get_or of s 0) x → x ≡ chosen_of of chosen s
chosen_read of chosen s x h l e = get_or_read chosen (get_or of s 0) x (h.own s l).0 e 0

pub loop-walk-init : goal.loop-walk-init
loop-walk-init c =
    let m = c.args.m.now.rows in
    let of = c.args.of.now in
    let chosen = c.in_ok-chosen.chosen.items in
    let e = chosen_read of chosen c.args.s c.index.result.now c.in_ok-chosen.ensures (omega (arith, c.requires.row, c.requires.classes.count)) c.index.ensures in
    record {
      built = IsBuilt-start c.args.m.now.alphabet (length m) (chosen_step (states_of m) of chosen) (chosen_output (states_of m)) (chosen_of of chosen c.args.s) c.in_ok-walk.walk.keys c.in_ok-rows.rows.items (c.in_ok-walk.ensures.keys ∙ ap (λ k. k ∷ []) e) c.in_ok-rows.ensures.items;
      bound = c.in_ok-walk.ensures.bound ∙ ap length c.rows-count.ensures.value;
      few = omega (arith, ap length c.in_ok-walk.ensures.keys);
    }

more : (d bound : ℕ) (step : ℕ → ℕ → ℕ) (output : ℕ → List ℕ) (start key : ℕ) (keys keys' : List ℕ) (b b' : ℕ) (rows rows' : List Row) (r : Row) → IsBuilt d bound step output start keys rows → length rows < length keys → key ≡ get_or keys (length rows) 0
    → IsRowMade d 1024 step output (record { bound = b; keys = keys }) (record { bound = b'; keys = keys' }) key r → rows' ≡ rows ++ r ∷ [] → IsBuilt d bound step output start keys' rows'
more d bound step output start key keys keys' b b' rows rows' r h l e x f =
    let u = h.reached (length rows) l in
    let P : ℕ → Type 0 = λ k. IsRowOf d step output keys' k r in
    IsBuilt-more d bound step output start keys keys' rows rows' r h l x.extends (x.reached start u.0 u.1 (u.2 ∙ sym e) h.reached) (subst P e x.row) f

pub loop-walk-preserved : goal.loop-walk-preserved
loop-walk-preserved c =
    let m = c.args.m.now.rows in
    let of = c.args.of.now in
    let chosen = c.in_ok-chosen.chosen.items in
    let d = c.args.m.now.alphabet in
    let l : length c.loop-walk.rows.items < length c.loop-walk.walk.keys = omega (arith, c.loop-walk-test.true, c.len.ensures, c.loop-walk.rows.ok.0, ap length c.keys.ensures.value) in
    let at : c.len-in-loop-walk.result ≡ length c.loop-walk.rows.items = omega (arith, c.len-in-loop-walk.ensures, c.loop-walk.rows.ok.0) in
    let e : get_or c.keys-in-loop-walk.result.now c.len-in-loop-walk.result 0 ≡ get_or c.loop-walk.walk.keys (length c.loop-walk.rows.items) 0 = ap (λ xs. get_or xs c.len-in-loop-walk.result 0) c.keys-in-loop-walk.ensures.value ∙ ap (λ i. get_or c.loop-walk.walk.keys i 0) at in
    let P : List ℕ → Type 0 = λ xs. IsRowMade d 1024 (chosen_step (states_of m) of xs) (chosen_output (states_of m)) c.loop-walk.walk c.row_of.new.walk (get_or c.keys-in-loop-walk.result.now c.len-in-loop-walk.result 0) c.in_ok-row.row in
    let r = subst P c.deref.ensures.value c.in_ok-row.ensures.ok in
    record {
      built = more d (length m) (chosen_step (states_of m) of chosen) (chosen_output (states_of m)) (chosen_of of chosen c.args.s) _ c.loop-walk.walk.keys c.row_of.new.walk.keys c.loop-walk.walk.bound c.row_of.new.walk.bound c.loop-walk.rows.items c.push.new.self.items c.in_ok-row.row c.loop-walk.invariant.built l e r c.in_ok-push.ensures.items;
      bound = r.bound ∙ c.loop-walk.invariant.bound;
      few = r.most;
    }

pub loop-walk-smaller : goal.loop-walk-smaller
loop-walk-smaller c =
    let size : length c.push.new.self.items ≡ length c.loop-walk.rows.items + 1 = ap length c.in_ok-push.ensures.items ∙ length_push c.loop-walk.rows.items _ in
    let l : length c.loop-walk.rows.items < length c.loop-walk.walk.keys = omega (arith, c.loop-walk-test.true, c.len.ensures, c.loop-walk.rows.ok.0, ap length c.keys.ensures.value) in
    let few = c.loop-walk.invariant.few in
    let goal' : 1024 - length c.push.new.self.items < 1024 - length c.loop-walk.rows.items = omega arith in
    goal'

pub from_rows-requires : goal.from_rows-requires
from_rows-requires c =
    let m = c.args.m.now.rows in
    let keyed : IsKeys (length m) c.loop-walk.walk.keys = let P : ℕ → Type 0 = λ b. IsKeys b c.loop-walk.walk.keys in subst P c.loop-walk.invariant.bound c.keys-keys.ensures.valid in
    let whole : length c.loop-walk.walk.keys ≤ length c.loop-walk.rows.items = omega (arith, c.loop-walk-test.false, c.len.ensures, c.loop-walk.rows.ok.0, ap length c.keys.ensures.value) in
    let z = IsMinimal-built c.args.m.now.alphabet m c.rows-count.ensures.valid c.args.of.now c.in_ok-chosen.chosen.items c.requires.classes c.in_ok-chosen.ensures c.args.s c.requires.row c.loop-walk.walk.keys c.loop-walk.rows.items c.loop-walk.invariant.built keyed c.loop-walk.invariant.few whole in
    let Q : ℕ → Type 0 = λ d. IsMachine d c.loop-walk.rows.items in
    subst Q (sym c.alphabet.ensures.value) z.machine

pub of-requires : goal.of-requires
of-requires c =
    let m = c.args.m.now.rows in
    let keyed : IsKeys (length m) c.loop-walk.walk.keys = let P : ℕ → Type 0 = λ b. IsKeys b c.loop-walk.walk.keys in subst P c.loop-walk.invariant.bound c.keys-keys.ensures.valid in
    let whole : length c.loop-walk.walk.keys ≤ length c.loop-walk.rows.items = omega (arith, c.loop-walk-test.false, c.len.ensures, c.loop-walk.rows.ok.0, ap length c.keys.ensures.value) in
    let z = IsMinimal-built c.args.m.now.alphabet m c.rows-count.ensures.valid c.args.of.now c.in_ok-chosen.chosen.items c.requires.classes c.in_ok-chosen.ensures c.args.s c.requires.row c.loop-walk.walk.keys c.loop-walk.rows.items c.loop-walk.invariant.built keyed c.loop-walk.invariant.few whole in
    let Q : ℕ → Type 0 = λ d. IsMinimal d c.loop-walk.rows.items in
    let R : MachineView → Type 0 = λ v. IsMinimal v.alphabet v.rows in
    subst R (sym c.from_rows.ensures) (subst Q (sym c.alphabet.ensures.value) z)

pub returns-clause-ok : goal.returns-clause-ok
returns-clause-ok c =
    let m = c.args.m.now.rows in
    let keyed : IsKeys (length m) c.loop-walk.walk.keys = let P : ℕ → Type 0 = λ b. IsKeys b c.loop-walk.walk.keys in subst P c.loop-walk.invariant.bound c.keys-keys.ensures.valid in
    let whole : length c.loop-walk.walk.keys ≤ length c.loop-walk.rows.items = omega (arith, c.loop-walk-test.false, c.len.ensures, c.loop-walk.rows.ok.0, ap length c.keys.ensures.value) in
    let z = IsSmallest-built c.args.m.now.alphabet m c.rows-count.ensures.valid c.args.of.now c.in_ok-chosen.chosen.items c.requires.classes c.in_ok-chosen.ensures c.args.s c.requires.row c.loop-walk.walk.keys c.loop-walk.rows.items c.loop-walk.invariant.built keyed c.loop-walk.invariant.few whole in
    let R : MachineView → Type 0 = λ v. IsSmallest c.args.m.now.alphabet (row_term m c.args.s) v.rows in
    subst R (sym (c.of.ensures ∙ c.from_rows.ensures)) z

pub returns-clause-within : goal.returns-clause-within
returns-clause-within c =
    let m = c.args.m.now.rows in
    let keyed : IsKeys (length m) c.loop-walk.walk.keys = let P : ℕ → Type 0 = λ b. IsKeys b c.loop-walk.walk.keys in subst P c.loop-walk.invariant.bound c.keys-keys.ensures.valid in
    let whole : length c.loop-walk.walk.keys ≤ length c.loop-walk.rows.items = omega (arith, c.loop-walk-test.false, c.len.ensures, c.loop-walk.rows.ok.0, ap length c.keys.ensures.value) in
    let z = IsSmallest-built c.args.m.now.alphabet m c.rows-count.ensures.valid c.args.of.now c.in_ok-chosen.chosen.items c.requires.classes c.in_ok-chosen.ensures c.args.s c.requires.row c.loop-walk.walk.keys c.loop-walk.rows.items c.loop-walk.invariant.built keyed c.loop-walk.invariant.few whole in
    not-HasMoreStates c.args.m.now.alphabet (row_term m c.args.s) c.loop-walk.rows.items z (omega (arith, c.loop-walk.invariant.built.done, c.loop-walk.invariant.few))

pub returns-in_err-row-clause-passed : goal.returns-in_err-row-clause-passed
returns-in_err-row-clause-passed c same =
    let m = c.args.m.now.rows in
    let of = c.args.of.now in
    let chosen = c.in_ok-chosen.chosen.items in
    let d = c.args.m.now.alphabet in
    let l : length c.loop-walk.rows.items < length c.loop-walk.walk.keys = omega (arith, c.loop-walk-test.true, c.len.ensures, c.loop-walk.rows.ok.0, ap length c.keys.ensures.value) in
    let at : c.len-in-loop-walk.result ≡ length c.loop-walk.rows.items = omega (arith, c.len-in-loop-walk.ensures, c.loop-walk.rows.ok.0) in
    let key = get_or c.keys-in-loop-walk.result.now c.len-in-loop-walk.result 0 in
    let e : key ≡ get_or c.loop-walk.walk.keys (length c.loop-walk.rows.items) 0 = ap (λ xs. get_or xs c.len-in-loop-walk.result 0) c.keys-in-loop-walk.ensures.value ∙ ap (λ i. get_or c.loop-walk.walk.keys i 0) at in
    let u = c.loop-walk.invariant.built.reached (length c.loop-walk.rows.items) l in
    let given = rw same at c.from_residual-in_err-row.ensures.1 in
    let P : List ℕ → Type 0 = λ xs. IsRowPassed d 1024 c.loop-walk.walk.bound (chosen_step (states_of m) of xs) c.loop-walk.walk.keys key in
    let Q : ℕ → Type 0 = λ b. IsRowPassed d 1024 b (chosen_step (states_of m) of chosen) c.loop-walk.walk.keys key in
    HasMoreStates-passed d m c.rows-count.ensures.valid of chosen c.requires.classes c.in_ok-chosen.ensures c.args.s c.requires.row c.loop-walk.walk.keys key u.0 u.1 (u.2 ∙ sym e) c.loop-walk.invariant.built.reached (subst Q c.loop-walk.invariant.bound (subst P c.deref.ensures.value (c.in_err-row.ensures.passed (cc))))
