use Rattle.std.proofs.Common.{ℕ, arith, suc, map, take, ◌≡◌, ◌∙◌, ◌++◌, ◌∷◌, ap, sym, subst, List, ◌≢◌, Option}
use Rattle.fr_model.specs.Permutations.{IsPermutation}
use Rattle.fr_alphabet.specs.Cycles.{cycles_text}
use Rattle.fr_canon.specs.Texts.{numbers_text}
use Rattle.fr_canon.specs.Readings.{IsNextTable}
use Rattle.std.specs.Prelude.{MatchOption}
use Rattle.fr_canon.proofs.StateLaws.{body, body_at, state_line-parts, no_state, row_read}
use Rattle.fr_canon.proofs.lines.read_state.Goals as goal

pub returns-in_default : goal.returns-in_default
returns-in_default c = λ q s e. c.in_default.ensures (body q) (e ∙ state_line-parts c.args.number q)

pub returns-in_default-read_next : goal.returns-in_default-read_next
returns-in_default-read_next c = λ q s e.
    c.in_default-read_next.ensures q.next (cycles_text q.perm) (s.arity ∙ sym c.letters.ensures.value) s.below (body_at c.args.number q c.args.line.now c.in-Some.states.now c.in-Some.ensures e)

pub returns-in-Some-2 : goal.returns-in-Some-2
returns-in-Some-2 c =
    let read = c.in-Some-read_next.ensures in
    let d = c.letters.ensures.value in
    let T : ℕ → Type 0 = λ n. IsNextTable n c.args.count c.read_next.new.next in
    let cycles = c.in-Some-read_next.cycles.now in
    let F : Option (List ℕ) → Type 0 = λ o. MatchOption o ((p : List ℕ) → IsPermutation c.args.a p → cycles ≢ cycles_text p) (λ p. IsPermutation c.args.a p × (cycles ≡ cycles_text p)) in
    let perm = subst F c.in-Some-2.is c.in_ok-perm.ensures in
    row_read c.args.a c.args.count c.args.number c.args.line.now c.in-Some.states.now c.read_next.new.next c.in-Some-read_next.cycles.now c.requires.count (omega (arith, c.letters.ensures.most, d)) c.in-Some.ensures (subst T d read.0)
    (read.1 ∙ ap (λ n. numbers_text (map suc (take n c.read_next.new.next)) ++ 62 ∷ c.in-Some-read_next.cycles.now) d) c.in-Some-2.perm perm.0 perm.1

pub returns-in-None : goal.returns-in-None
returns-in-None c =
    let read = c.in-Some-read_next.ensures in
    let d = c.letters.ensures.value in
    let T : ℕ → Type 0 = λ n. IsNextTable n c.args.count c.read_next.new.next in
    let cycles = c.in-Some-read_next.cycles.now in
    let F : Option (List ℕ) → Type 0 = λ o. MatchOption o ((p : List ℕ) → IsPermutation c.args.a p → cycles ≢ cycles_text p) (λ p. IsPermutation c.args.a p × (cycles ≡ cycles_text p)) in
    no_state c.args.a c.args.count c.args.number c.args.line.now c.in-Some.states.now c.read_next.new.next c.in-Some-read_next.cycles.now c.requires.count (omega (arith, c.letters.ensures.most, d)) c.in-Some.ensures (subst T d read.0)
    (read.1 ∙ ap (λ n. numbers_text (map suc (take n c.read_next.new.next)) ++ 62 ∷ c.in-Some-read_next.cycles.now) d) (subst F c.in-None.is c.in_ok-perm.ensures)
