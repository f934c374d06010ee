use Rattle.std.proofs.lemmas.List.{length_push}
use Rattle.fr_machine.specs.declared.row.Row.{Row}
use Rattle.fr_growth.specs.Layers.{IsPart, IsToFirst, IsLowered}
use Rattle.std.proofs.Common.{ℕ, Bool, List, [], ◌∷◌, ◌++◌, arith, ◌≡◌, ◌+◌, ◌-◌, ◌∙◌, ap, inl, inr, refl, length}
use Rattle.fr_growth.proofs.FoundLaws.{layers_start, layers_more, layers_found}
use Rattle.fr_growth.proofs.layers.find_layers.Goals as goal

more_items : (xs ys : List (List ℕ)) (x : List ℕ) → ys ≡ xs ++ x ∷ [] → length ys ≡ length xs + 1
more_items xs ys x e = ap length e ∙ length_push xs x

lowered_next : (d : ℕ) (rows : List Row) (goals : List Bool) (from long a b c : ℕ) → IsLowered d rows goals from long a b → IsLowered d rows goals from (long + 1) b c → IsLowered d rows goals from (long + 1) a c
lowered_next d rows goals from long a b c h g = record {
  most = omega (arith, h.most, g.most);
  least = g.least;
  cause = elim g.cause [ inr z ↦ inr z | inl z ↦ elim h.cause [ inl y ↦ inl (z ∙ y) | inr y ↦ inr (rw z y) ] ];
}

pub loop-long-init : goal.loop-long-init
loop-long-init c =
    let m = c.machine-known.ensures.valid in
    record {
      layers = rw (c.in_ok-push.ensures.items, c.new-sets.ensures.items) (layers_start c.args.m.now.alphabet c.args.m.now.rows c.args.goals.now m c.args.from c.args.distances.now.values.items c.in_ok-layer.layer.set c.in_ok-layer.layer.rows.items c.args.most c.requires.from c.requires.goals c.in_ok-layer.ensures.goals);
      own = c.in_ok-layer.ensures.letters ∙ c.requires.goals;
      room = omega (arith, c.in_ok-next.ensures.letters, c.requires.goals);
      size = omega (arith, c.in_ok-push.ensures.len, c.new-sets.ensures.len);
      lowered = record { most = omega arith; least = omega arith; cause = inl refl };
    }

pub layer_before-requires-clause-rows : goal.layer_before-requires-clause-rows
layer_before-requires-clause-rows c =
    let at : c.loop-long.long + 1 - 1 ≡ length c.loop-long.sets.items - 1 = omega (arith, c.loop-long.invariant.size) in
    rw (c.deref.ensures.value, at) c.loop-long.invariant.layers.inside

pub loop-long-preserved : goal.loop-long-preserved
loop-long-preserved c =
    let m = c.machine-known.ensures.valid in
    let i = c.loop-long.invariant in
    let low = c.in_ok-layer_before.ensures.lowered in
    let part : IsPart c.args.m.now.alphabet c.args.m.now.rows c.args.goals.now c.args.distances.now.values.items c.args.edges.now.list.items (length c.loop-long.sets.items) (λ e. IsToFirst c.args.m.now.rows c.args.edges.now.list.items c.loop-long.layer.rows.items (length c.loop-long.layer.rows.items) e) c.layer_before.new.layer.set c.layer_before.new.layer.rows.items c.layer_before.new.layer.letters.items c.layer_before.new.bound = rw i.size (rw c.deref.ensures.value at c.in_ok-layer_before.ensures.layer) in
    record {
      layers = rw (c.swap.ensures.x_after, c.in_ok-push-2.ensures.items) (layers_more c.args.m.now.alphabet c.args.m.now.rows c.args.goals.now m c.args.from c.args.distances.now.rows.items c.args.distances.now.values.items c.requires.distances c.args.edges.now.list.items c.args.edges.now.latest.items c.requires.edges
          c.loop-long.sets.items c.loop-long.layer.rows.items c.loop-long.bound i.layers c.layer_before.new.layer.set c.layer_before.new.layer.rows.items c.layer_before.new.layer.letters.items c.layer_before.new.bound low.most part);
      own = rw c.swap.ensures.x_after part.size;
      room = rw c.swap.ensures.y_after i.own;
      size = omega (arith, i.size, more_items c.loop-long.sets.items c.push-in-loop-long.new.self.items c.layer_before.new.layer.set c.in_ok-push-2.ensures.items);
      lowered = lowered_next c.args.m.now.alphabet c.args.m.now.rows c.args.goals.now c.args.from c.loop-long.long c.args.most c.loop-long.bound c.layer_before.new.bound i.lowered low;
    }

pub returns : goal.returns
returns c =
    layers_found c.args.m.now.alphabet c.args.m.now.rows c.args.goals.now c.args.from c.args.distances.now.rows.items c.args.distances.now.values.items c.requires.distances c.loop-long.sets.items c.loop-long.layer.rows.items c.args.most c.loop-long.bound c.loop-long.long c.loop-long.invariant.layers c.loop-long.invariant.size c.loop-long.invariant.lowered (omega (arith, c.loop-long-test.false))
