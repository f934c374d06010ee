use Rattle.std.proofs.Common.{◌≡◌, ◌∙◌, ◌+◌, ◌-◌, ◌++◌, take, get_or, sym, ap, arith, if◌then◌else◌}
use Rattle.std.specs.Str.{bytes_eq}
use Rattle.std.proofs.lemmas.List.{append-nil}
use Rattle.fr_syntax.specs.declared.statement.Recursion.{Recursion}
use Rattle.fr_plain.specs.Blocks.{names_of}
use Rattle.fr_expr.specs.Tables.{names_in, bindings_of, without_last}
use Rattle.fr_expr.proofs.BindingLaws.{bindings_of-more, popped_back}
use Rattle.fr_expr.proofs.env.Env.unbind_first.Goals as goal

pub loop-k-preserved : goal.loop-k-preserved
loop-k-preserved c = record {
  within = omega (arith, c.loop-k.invariant.within);
  left = λ before line handles same bound q.
      let rs = c.args.block.now in
      let k = c.loop-k.k - 1 in
      let r = c.index-block-k.result in
      let next : k + 1 ≡ c.loop-k.k = omega (arith, c.loop-k-test.true) in
      c.unbind.ensures q
      ∙ ap (λ n. if bytes_eq n q then without_last (names_in c.loop-k.self q) else names_in c.loop-k.self q) (c.bytes.ensures ∙ ap (λ (x : Recursion). x.name) (sym c.index-block-k.is))
      ∙ popped_back (bytes_eq r.name q) (record { line = line; handle = get_or handles k (record { node = 0 }) }) (before q) (bindings_of line (names_of (take k rs)) handles q) (names_in c.loop-k.self q)
      (c.loop-k.invariant.left before line handles same bound q ∙ ap (λ l. before q ++ l) (ap (λ j. bindings_of line (names_of (take j rs)) handles q) (sym next) ∙ bindings_of-more line rs k r handles (record { node = 0 }) q (omega (arith, c.loop-k-test.true, c.loop-k.invariant.within, c.requires)) same (sym c.index-block-k.is)));
}

pub returns : goal.returns
returns c = λ before line handles same bound q.
    c.loop-k.invariant.left before line handles same bound q
    ∙ ap (λ j. before q ++ bindings_of line (names_of (take j c.args.block.now)) handles q) (let e : c.loop-k.k ≡ 0 = omega (arith, c.loop-k-test.false) in e)
    ∙ append-nil (before q)
