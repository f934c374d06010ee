use Rattle.std.proofs.Common.{◌∙◌, ℕ, List, [], ◌∷◌, ◌++◌, take, get_or, sym, ap, if◌then◌else◌, append_assoc}
use Rattle.std.specs.Str.{bytes_eq}
use Rattle.fr_syntax.specs.declared.statement.Recursion.{Recursion}
use Rattle.fr_plain.specs.Blocks.{names_of}
use Rattle.fr_expr.specs.Tables.{names_in, bindings_of}
use Rattle.fr_expr.proofs.BindingLaws.{bindings_of-more}
use Rattle.fr_expr.proofs.env.Env.bind_block.Goals as goal

pub returns-in-Err-clause-kept : goal.returns-in-Err-clause-kept
returns-in-Err-clause-kept c = λ q.
    c.unbind_first.ensures (names_in c.args.self.now) c.args.line c.args.handles.now c.requires (λ p. c.in-Err.ensures.kept p ∙ c.loop-k.invariant p) q

pub loop-k-preserved : goal.loop-k-preserved
loop-k-preserved c = λ q.
    let rs = c.args.block.now in
    let k = c.loop-k.k in
    let r = c.index-block-k.result in
    let hs = c.args.handles.now in
    let more = λ (ns : List ℕ). if bytes_eq ns q then record { line = c.args.line; handle = get_or hs k (record { node = 0 }) } ∷ [] else [] in
    c.in_default.ensures.bound q
    ∙ ap (λ n. names_in c.loop-k.self q ++ more n) (c.bytes.ensures ∙ ap (λ (x : Recursion). x.name) (sym c.index-block-k.is))
    ∙ ap (λ l. l ++ more r.name) (c.loop-k.invariant q)
    ∙ append_assoc (names_in c.args.self.now q) (bindings_of c.args.line (names_of (take k rs)) hs q) (more r.name)
    ∙ ap (λ l. names_in c.args.self.now q ++ l) (sym (bindings_of-more c.args.line rs k r hs (record { node = 0 }) q c.loop-k-test.true c.requires (sym c.index-block-k.is)))
