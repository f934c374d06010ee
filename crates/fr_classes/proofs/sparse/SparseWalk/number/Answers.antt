use Rattle.std.proofs.Common.{arith, ℕ, ◌≡◌, ◌≢◌, ◌+◌, ◌<◌, ◌%◌, [], ◌∷◌, ◌++◌, ◌∙◌, ap, subst, set, length, get_or}
use Rattle.std.specs.Prelude.{Option, MatchOption}
use Rattle.std.specs.Vec.{with_item}
use Rattle.std.proofs.lemmas.List.{get_or_read}
use Rattle.fr_classes.proofs.SparseLaws.{IsSparse-met}
use Rattle.fr_classes.proofs.sparse.SparseWalk.number.Goals as goal

pub returns-clause-sparse : goal.returns-clause-sparse
returns-clause-sparse c =
    let w = c.args.self.now in
    let h = c.requires.sparse in
    let b = c.args.key % c.len.result in
    let size : c.len.result ≡ length w.latest.items = omega (arith, c.len.ensures, w.latest.ok.0) in
    let own : b ≡ c.args.key % length w.latest.items = ap (λ n. c.args.key % n) size in
    let below : b < length w.latest.items = omega (arith, own, h.some) in
    let fresh : (i : ℕ) → i < length w.keys.items → get_or w.keys.items i 0 ≢ c.args.key =
    (let P : Option ℕ → Type 0 = λ o. MatchOption o ((i : ℕ) → i < length w.keys.items → get_or w.keys.items i 0 ≢ c.args.key) (λ n. (n < length w.keys.items) × (get_or w.keys.items n 0 ≡ c.args.key)) in
    subst P c.in_default.is c.find.ensures) in
    let read : c.index.result.now ≡ get_or w.latest.items b 0 = get_or_read w.latest.items b _ below c.index.ensures 0 in
    let earlier = c.in_ok-push-2.ensures.items ∙ ap (λ (e : ℕ). w.earlier.items ++ e ∷ []) read in
    let number : c.len-number.result + 1 ≡ length w.keys.items + 1 = omega (arith, c.len-number.ensures, w.keys.ok.0) in
    IsSparse-met w (record { keys = c.push.new.self; earlier = c.push-2.new.self; latest = with_item w.latest b (c.len-number.result + 1) }) c.args.key b h own below fresh c.in_ok-push.ensures.items earlier (ap (set w.latest.items b) number)
