use Rattle.std.proofs.Common.{arith, ℕ, ◌≡◌, ◌<◌, ◌≤◌, true, inl, inr, sym, subst, length}
use Rattle.std.proofs.lemmas.Bool.{cases_lt}
use Rattle.fr_machine.specs.Rows.{IsMachine}
use Rattle.fr_classes.specs.Sparse.{AreMet}
use Rattle.fr_classes.specs.Growing.{level, IsSigned, AreLevels}
use Rattle.fr_classes.proofs.KeyNumberLaws.{AreMet-keys}
use Rattle.fr_classes.proofs.GrowingLaws.{IsSigned-grown}
use Rattle.fr_classes.proofs.growing.GrowingClasses.take.Goals as goal

pub number_rows-requires-clause-met : goal.number_rows-requires-clause-met
number_rows-requires-clause-met c =
    let g = c.args.self.now in
    let h = c.requires.1 in
    let keys = g.walk.keys.items in
    let was : AreMet (level g.hashes.items c.args.self.now.depth) g.of.items keys (length g.of.items) = subst (λ n. AreMet (level g.hashes.items c.args.self.now.depth) g.of.items keys n) (sym h.met.size) h.met in
    let is = AreMet-keys (level g.hashes.items c.args.self.now.depth) (level c.extend_hashes.new.hashes.items c.args.self.now.depth) g.of.items keys (length g.of.items) (λ j l. c.in_ok-extend_hashes.ensures.same j (omega (arith, l, h.met.size, h.levels.count))) was in
    subst (λ hs. AreMet (level hs c.args.self.now.depth) g.of.items keys (length g.of.items)) (sym c.deref.ensures.value) is

pub returns-in_ok-self : goal.returns-in_ok-self
returns-in_ok-self c =
    let g = c.args.self.now in
    let old = c.requires.0 in
    let h = c.requires.1 in
    let d = c.args.m.now.alphabet in
    let rows = c.args.m.now.rows in
    let m : IsMachine d rows = c.rows-rows.ensures.valid in
    let hs = c.extend_hashes.new.hashes.items in
    let of = c.number_rows.new.of.items in
    let walk = c.number_rows.new.walk in
    let known = c.sign_rows.new.known.items in
    let levels : AreLevels rows hs c.args.self.now.depth = subst (λ r. AreLevels r hs c.args.self.now.depth) c.rows-rows.ensures.value c.in_ok-extend_hashes.ensures.levels in
    let met : AreMet (level hs c.args.self.now.depth) of walk.keys.items (length hs) = subst (λ xs. AreMet (level xs c.args.self.now.depth) of walk.keys.items (length xs)) c.deref.ensures.value c.in_ok-number_rows.ensures.met in
    let first : c.len-first.result ≡ length old = omega (arith, c.len-first.ensures, g.of.ok.0, h.met.size) in
    let new : c.in_ok-self.field-0 ≡ true → (s : ℕ) → c.len-first.result ≤ s → s < length rows → IsSigned rows of known s =
    λ e s a l. subst (λ xs. IsSigned rows xs known s) c.deref-then-self.ensures.value (subst (λ r. c.len-first.result ≤ s → s < length r → IsSigned r c.deref-then-self.result.now known s) c.rows-rows.ensures.value (c.in_ok-self.ensures.signed e s) a l) in
    record {
      deep = h.deep;
      levels = levels;
      sparse = c.in_ok-number_rows.ensures.sparse;
      met = subst (λ n. AreMet (level hs c.args.self.now.depth) of walk.keys.items n) levels.count met;
      signed = λ e s l. elim (cases_lt s (length old)) [
        | inl a ↦ IsSigned-grown d old rows m c.requires.2 h.levels.closed g.of.items of g.known.items known
            (λ t b. c.in_ok-number_rows.ensures.same t (omega (arith, b, h.met.size))) c.in_ok-self.ensures.kept s a (h.signed c.if-self.true s a)
        | inr a ↦ new e s (omega (arith, a, first)) l
      ];
    }
