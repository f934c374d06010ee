use Rattle.std.proofs.Common.{arith, sym, ap, ◌∙◌, subst, ℕ, ◌≡◌, ◌<◌, ◌≤◌, ◌+◌, ◌*◌, ◌-◌, List, [], ◌∷◌, ◌++◌, length, get_or}
use Rattle.std.proofs.lemmas.List.{length_push}
use Rattle.fr_machine.specs.declared.row.Row.{Row}
use Rattle.fr_machine.specs.Machine.{MachineView}
use Rattle.fr_machine.specs.Rows.{IsMachine, states_of, row_term}
use Rattle.fr_machine.specs.Minimal.{IsMinimal}
use Rattle.fr_machine.specs.Walks.{IsBuilt, IsKeys, IsRowMade, IsRowOf, IsRowPassed}
use Rattle.fr_machine.proofs.WalkLaws.{IsBuilt-start, IsBuilt-more}
use Rattle.fr_model.specs.Classes.{HasMorePairs}
use Rattle.fr_product.specs.Products.{IsProduct, pair_step, pair_output}
use Rattle.fr_product.proofs.PairLaws.{product_machine, IsProduct-built, HasMorePairs-passed, not-HasMorePairs}
use Rattle.fr_product.proofs.pairs.product.Goals as goal

minimal_at : (v w : MachineView) (d : ℕ) → w ≡ v → v.alphabet ≡ d → IsMinimal v.alphabet v.rows → IsMinimal d w.rows
minimal_at v w d e f h = let P : ℕ → Type 0 = λ d. IsMinimal d v.rows in let Q : MachineView → Type 0 = λ u. IsMinimal d u.rows in subst Q (sym e) (subst P f h)

pub loop-n-init : goal.loop-n-init
loop-n-init c =
    let m = c.machine-m.result.now.rows in
    let n = c.machine-n.result.now.rows in
    let w = ap length c.rows.ensures.value in
    record {
      built = IsBuilt-start c.machine-m.result.now.alphabet (length m * length n) (pair_step (states_of m) (states_of n) (length n)) (pair_output (states_of m) (states_of n) (length n)) (c.args.s * length n + c.args.t) c.in_ok-walk.walk.keys c.in_ok-rows.rows.items (c.in_ok-walk.ensures.keys ∙ ap (λ k. (c.args.s * k + c.args.t) ∷ []) w) c.in_ok-rows.ensures.items;
      bound = c.in_ok-walk.ensures.bound ∙ ap (λ r. length r * length c.rows-3.result.now) c.rows-2.ensures.value ∙ ap (λ r. length m * length r) c.rows-3.ensures.value;
    }

-- one more row
more : (d bound : ℕ) (step : ℕ → ℕ → ℕ) (output : ℕ → List ℕ) (start key : ℕ) (keys keys' : List ℕ) (b b' : ℕ) (rows rows' : List Row) (r : Row) → IsBuilt d bound step output start keys rows → length rows < length keys → key ≡ get_or keys (length rows) 0
    → IsRowMade d 65536 step output (record { bound = b; keys = keys }) (record { bound = b'; keys = keys' }) key r → rows' ≡ rows ++ r ∷ [] → IsBuilt d bound step output start keys' rows'
more d bound step output start key keys keys' b b' rows rows' r h l e x f =
    let u = h.reached (length rows) l in
    let P : ℕ → Type 0 = λ k. IsRowOf d step output keys' k r in
    IsBuilt-more d bound step output start keys keys' rows rows' r h l x.extends (x.reached start u.0 u.1 (u.2 ∙ sym e) h.reached) (subst P e x.row) f

pub loop-n-preserved : goal.loop-n-preserved
loop-n-preserved c =
    let m = c.machine-m.result.now.rows in
    let n = c.machine-n.result.now.rows in
    let l : length c.loop-n.rows.items < length c.loop-n.walk.keys = omega (arith, c.loop-n-test.true, c.len.ensures, c.loop-n.rows.ok.0, ap length c.keys.ensures.value) in
    let at : c.len-in-loop-n.result ≡ length c.loop-n.rows.items = omega (arith, c.len-in-loop-n.ensures, c.loop-n.rows.ok.0) in
    let e : get_or c.keys-in-loop-n.result.now c.len-in-loop-n.result 0 ≡ get_or c.loop-n.walk.keys (length c.loop-n.rows.items) 0 = ap (λ xs. get_or xs c.len-in-loop-n.result 0) c.keys-in-loop-n.ensures.value ∙ ap (λ i. get_or c.loop-n.walk.keys i 0) at in
    record {
      built = more c.machine-m.result.now.alphabet (length m * length n) (pair_step (states_of m) (states_of n) (length n)) (pair_output (states_of m) (states_of n) (length n)) (c.args.s * length n + c.args.t) _ c.loop-n.walk.keys c.row_of.new.walk.keys c.loop-n.walk.bound c.row_of.new.walk.bound c.loop-n.rows.items c.push.new.self.items c.in_ok-row.row c.loop-n.invariant.built l e c.in_ok-row.ensures.ok c.in_ok-push.ensures.items;
      bound = c.in_ok-row.ensures.ok.bound ∙ c.loop-n.invariant.bound;
    }

pub loop-n-smaller : goal.loop-n-smaller
loop-n-smaller c =
    let size : length c.push.new.self.items ≡ length c.loop-n.rows.items + 1 = ap length c.in_ok-push.ensures.items ∙ length_push c.loop-n.rows.items _ in
    let l : length c.loop-n.rows.items < length c.loop-n.walk.keys = omega (arith, c.loop-n-test.true, c.len.ensures, c.loop-n.rows.ok.0, ap length c.keys.ensures.value) in
    let few = c.keys.ensures.valid.few in
    let goal' : 65536 - length c.push.new.self.items < 65536 - length c.loop-n.rows.items = omega arith in
    goal'

pub from_rows-requires : goal.from_rows-requires
from_rows-requires c =
    let m = c.machine-m.result.now.rows in
    let n = c.machine-n.result.now.rows in
    let d = c.machine-m.result.now.alphabet in
    let hm = minimal_at c.args.a.now c.machine-m.result.now d c.machine-m.ensures.value (ap (λ v. v.alphabet) (sym c.machine-m.ensures.value)) c.machine-m.ensures.valid in
    let hn = minimal_at c.args.b.now c.machine-n.result.now d c.machine-n.ensures.value (sym c.requires.alphabets ∙ ap (λ v. v.alphabet) (sym c.machine-m.ensures.value)) c.machine-n.ensures.valid in
    let ls : c.args.s < length m = omega (arith, c.requires.left, ap (λ v. length v.rows) c.machine-m.ensures.value) in
    let lt : c.args.t < length n = omega (arith, c.requires.right, ap (λ v. length v.rows) c.machine-n.ensures.value) in
    let keyed : IsKeys (length m * length n) c.loop-n.walk.keys = let P : ℕ → Type 0 = λ b. IsKeys b c.loop-n.walk.keys in subst P c.loop-n.invariant.bound c.keys.ensures.valid in
    let whole : length c.loop-n.walk.keys ≤ length c.loop-n.rows.items = omega (arith, c.loop-n-test.false, c.len.ensures, c.loop-n.rows.ok.0, ap length c.keys.ensures.value) in
    let Q : ℕ → Type 0 = λ d. IsMachine d c.loop-n.rows.items in
    subst Q (sym c.alphabet.ensures.value) (product_machine d m n hm hn c.args.s c.args.t ls lt c.loop-n.walk.keys c.loop-n.rows.items c.loop-n.invariant.built keyed whole)

pub returns-clause-ok : goal.returns-clause-ok
returns-clause-ok c =
    let m = c.machine-m.result.now.rows in
    let n = c.machine-n.result.now.rows in
    let d = c.machine-m.result.now.alphabet in
    let hm = minimal_at c.args.a.now c.machine-m.result.now d c.machine-m.ensures.value (ap (λ v. v.alphabet) (sym c.machine-m.ensures.value)) c.machine-m.ensures.valid in
    let hn = minimal_at c.args.b.now c.machine-n.result.now d c.machine-n.ensures.value (sym c.requires.alphabets ∙ ap (λ v. v.alphabet) (sym c.machine-m.ensures.value)) c.machine-n.ensures.valid in
    let ls : c.args.s < length m = omega (arith, c.requires.left, ap (λ v. length v.rows) c.machine-m.ensures.value) in
    let lt : c.args.t < length n = omega (arith, c.requires.right, ap (λ v. length v.rows) c.machine-n.ensures.value) in
    let keyed : IsKeys (length m * length n) c.loop-n.walk.keys = let P : ℕ → Type 0 = λ b. IsKeys b c.loop-n.walk.keys in subst P c.loop-n.invariant.bound c.keys.ensures.valid in
    let whole : length c.loop-n.walk.keys ≤ length c.loop-n.rows.items = omega (arith, c.loop-n-test.false, c.len.ensures, c.loop-n.rows.ok.0, ap length c.keys.ensures.value) in
    let p = IsProduct-built d m n hm hn c.args.s c.args.t ls lt c.loop-n.walk.keys c.loop-n.rows.items c.loop-n.invariant.built keyed whole in
    let A : MachineView → Type 0 = λ v. IsProduct v.alphabet (row_term v.rows c.args.s) (row_term n c.args.t) c.loop-n.rows.items in
    let B : MachineView → Type 0 = λ v. IsProduct c.args.a.now.alphabet (row_term c.args.a.now.rows c.args.s) (row_term v.rows c.args.t) c.loop-n.rows.items in
    let R : MachineView → Type 0 = λ v. IsProduct c.args.a.now.alphabet (row_term c.args.a.now.rows c.args.s) (row_term c.args.b.now.rows c.args.t) v.rows in
    subst R (sym c.from_rows.ensures) (subst B c.machine-n.ensures.value (subst A c.machine-m.ensures.value p))

pub returns-clause-within : goal.returns-clause-within
returns-clause-within c =
    let m = c.machine-m.result.now.rows in
    let n = c.machine-n.result.now.rows in
    let d = c.machine-m.result.now.alphabet in
    let hm = minimal_at c.args.a.now c.machine-m.result.now d c.machine-m.ensures.value (ap (λ v. v.alphabet) (sym c.machine-m.ensures.value)) c.machine-m.ensures.valid in
    let hn = minimal_at c.args.b.now c.machine-n.result.now d c.machine-n.ensures.value (sym c.requires.alphabets ∙ ap (λ v. v.alphabet) (sym c.machine-m.ensures.value)) c.machine-n.ensures.valid in
    let ls : c.args.s < length m = omega (arith, c.requires.left, ap (λ v. length v.rows) c.machine-m.ensures.value) in
    let lt : c.args.t < length n = omega (arith, c.requires.right, ap (λ v. length v.rows) c.machine-n.ensures.value) in
    let keyed : IsKeys (length m * length n) c.loop-n.walk.keys = let P : ℕ → Type 0 = λ b. IsKeys b c.loop-n.walk.keys in subst P c.loop-n.invariant.bound c.keys.ensures.valid in
    let whole : length c.loop-n.walk.keys ≤ length c.loop-n.rows.items = omega (arith, c.loop-n-test.false, c.len.ensures, c.loop-n.rows.ok.0, ap length c.keys.ensures.value) in
    let p = not-HasMorePairs d m n hm hn c.args.s c.args.t ls lt c.loop-n.walk.keys c.loop-n.rows.items c.loop-n.invariant.built keyed whole in
    let A : MachineView → Type 0 = λ v. ¬ HasMorePairs v.alphabet (row_term v.rows c.args.s) (row_term n c.args.t) 65536 in
    let B : MachineView → Type 0 = λ v. ¬ HasMorePairs c.args.a.now.alphabet (row_term c.args.a.now.rows c.args.s) (row_term v.rows c.args.t) 65536 in
    subst B c.machine-n.ensures.value (subst A c.machine-m.ensures.value p)

pub returns-in_err-row-clause-passed : goal.returns-in_err-row-clause-passed
returns-in_err-row-clause-passed c same =
    let m = c.machine-m.result.now.rows in
    let n = c.machine-n.result.now.rows in
    let d = c.machine-m.result.now.alphabet in
    let hm = minimal_at c.args.a.now c.machine-m.result.now d c.machine-m.ensures.value (ap (λ v. v.alphabet) (sym c.machine-m.ensures.value)) c.machine-m.ensures.valid in
    let hn = minimal_at c.args.b.now c.machine-n.result.now d c.machine-n.ensures.value (sym c.requires.alphabets ∙ ap (λ v. v.alphabet) (sym c.machine-m.ensures.value)) c.machine-n.ensures.valid in
    let ls : c.args.s < length m = omega (arith, c.requires.left, ap (λ v. length v.rows) c.machine-m.ensures.value) in
    let lt : c.args.t < length n = omega (arith, c.requires.right, ap (λ v. length v.rows) c.machine-n.ensures.value) in
    let l : length c.loop-n.rows.items < length c.loop-n.walk.keys = omega (arith, c.loop-n-test.true, c.len.ensures, c.loop-n.rows.ok.0, ap length c.keys.ensures.value) in
    let at : c.len-in-loop-n.result ≡ length c.loop-n.rows.items = omega (arith, c.len-in-loop-n.ensures, c.loop-n.rows.ok.0) in
    let key = get_or c.keys-in-loop-n.result.now c.len-in-loop-n.result 0 in
    let e : key ≡ get_or c.loop-n.walk.keys (length c.loop-n.rows.items) 0 = ap (λ xs. get_or xs c.len-in-loop-n.result 0) c.keys-in-loop-n.ensures.value ∙ ap (λ i. get_or c.loop-n.walk.keys i 0) at in
    let u = c.loop-n.invariant.built.reached (length c.loop-n.rows.items) l in
    let A : MachineView → Type 0 = λ v. HasMorePairs v.alphabet (row_term v.rows c.args.s) (row_term n c.args.t) 65536 in
    let B : MachineView → Type 0 = λ v. HasMorePairs c.args.a.now.alphabet (row_term c.args.a.now.rows c.args.s) (row_term v.rows c.args.t) 65536 in
    let given = rw same at c.from_residual-in_err-row.ensures.1 in
    let P : ℕ → Type 0 = λ b. IsRowPassed d 65536 b (pair_step (states_of m) (states_of n) (length n)) c.loop-n.walk.keys key in
    let p = HasMorePairs-passed d m n hm hn c.args.s c.args.t ls lt c.loop-n.walk.keys key u.0 u.1 (u.2 ∙ sym e) c.loop-n.invariant.built.reached (subst P c.loop-n.invariant.bound (c.in_err-row.ensures.passed (cc))) in
    subst B c.machine-n.ensures.value (subst A c.machine-m.ensures.value p)
