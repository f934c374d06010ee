use Rattle.std.proofs.Common.{arith, ℕ, ◌≡◌, ◌<◌, [], List, length, get_or, refl, sym, ◌∙◌, ap, subst, Bool, true, false, below_more}
use Rattle.std.specs.List.{All}
use Rattle.std.proofs.lemmas.List.{get_or-map, length-map}
use Rattle.std.proofs.lemmas.List.Elements.{All-get_or, All-from_get_or}
use Rattle.fr_machine.specs.declared.row.Row.{Row}
use Rattle.fr_classes.specs.declared.signature.Signed.{Signed}
use Rattle.fr_classes.specs.Refinement.{flag_at, work_at, signature_at, signed_rows, IsElected}
use Rattle.fr_classes.proofs.SettlingLaws.{IsSettling-start, IsSettling-placed, IsSettled-from, room}
use Rattle.fr_classes.proofs.WorkLaws.{order_at, order_has, order_from}
use Rattle.fr_classes.proofs.partition.Partition.settle.Goals as goal
use Rattle.fr_classes.proofs.partition.Partition.settle.Goals.{then-branch+in_ok-push, else-branch}

-- the classes of rows are numbers of classes
work_below : (rows : List Row) (of todo : List ℕ) (n : ℕ) → All (λ c. c < n) of → All (λ s. s < length of) todo → All (λ (w : Signed). w.class < n) (signed_rows rows of todo)
work_below rows of todo n a b =
    let sign : ℕ → Signed = λ s. record { class = get_or of s 0; signature = signature_at rows of s; row = s } in
    let d : Signed = record { class = 0; signature = []; row = 0 } in
    All-from_get_or (λ (w : Signed). w.class < n) (signed_rows rows of todo) d (λ i l.
    let lt : i < length todo = omega (arith, l, length-map todo sign) in
    let at : get_or (signed_rows rows of todo) i d ≡ sign (get_or todo i 0) = get_or-map sign todo i 0 d lt in
    let class : (get_or (signed_rows rows of todo) i d).class ≡ get_or of (get_or todo i 0) 0 = ap (λ (w : Signed). w.class) at in
    omega (arith, class, All-get_or (λ c. c < n) of (get_or todo i 0) 0 (All-get_or (λ s. s < length of) todo i 0 lt b) a))

pub elect-requires : goal.elect-requires
elect-requires c =
    let p = c.args.self.now in
    let e = c.deref-2.ensures.value ∙ c.in_ok-work.ensures ∙ ap (λ xs. signed_rows c.args.rows.now xs c.args.todo.now) c.deref.ensures.value in
    record {
      classes = rw e (work_below c.args.rows.now p.of.items c.args.todo.now (length p.known.items) c.requires.refining.tallied.below c.requires.queued.inside);
      as_many = c.requires.refining.tallied.as_many;
    }

pub loop-item-init : goal.loop-item-init
loop-item-init c =
    let p = c.args.self.now in
    let q = c.elect.new.self in
    let e = c.deref-2.ensures.value ∙ c.in_ok-work.ensures ∙ ap (λ xs. signed_rows c.args.rows.now xs c.args.todo.now) c.deref.ensures.value in
    let P : List Signed → Type 0 = λ work. IsElected p q work in
    let elected = subst P e c.in_ok-elect.ensures in
    record {
      settling = IsSettling-start c.args.rows.now p q c.args.todo.now c.requires.refining c.requires.queued elected c.in_ok-seen.seen c.new-moved.result.items c.requires.todo c.in_ok-seen.ensures.table c.in_ok-seen.ensures.none c.new-moved.ensures.items;
      done = λ k l. absurd (omega arith);
      still = λ s f. ap (λ xs. get_or xs s true) elected.dirty ∙ f;
    }

pub place-requires : goal.place-requires
place-requires c =
    let p = c.args.self.now in
    let rows = c.args.rows.now in
    let h = c.loop-item.invariant.settling in
    let o = order_from rows p.of.items c.deref.result.now c.args.todo.now c.in_ok-work.work.items c.deref-item-items.result.now c.in_ok-work.ensures c.deref.ensures.value c.deref-item-items.ensures.value in
    let w = order_at rows p.of.items c.args.todo.now c.deref-item-items.result.now c.loop-item.item-index (length p.of.items) (record { class = 0; signature = []; row = 0 }) o c.requires.queued.inside c.loop-item-test.true in
    let lt : (work_at c.deref-item-items.result.now c.loop-item.item-index).row < length rows = omega (arith, w.0, c.requires.refining.count) in
    record {
      row = omega (arith, lt, h.count);
      tallied = h.tallied;
      other = λ apart. room rows p.of.items (length p.known.items) c.loop-item.self c.loop-item.seen c.loop-item.moved.items _ h lt (λ k. apart (k ∙ sym w.1));
      seen = record { table = h.table; below = λ k q m g. (h.found k q m g).1 };
    }

pub loop-item-preserved : goal.loop-item-preserved
loop-item-preserved c =
    let p = c.args.self.now in
    let rows = c.args.rows.now in
    let order = c.deref-item-items.result.now in
    let i = c.loop-item.item-index in
    let h = c.loop-item.invariant.settling in
    let o = order_from rows p.of.items c.deref.result.now c.args.todo.now c.in_ok-work.work.items order c.in_ok-work.ensures c.deref.ensures.value c.deref-item-items.ensures.value in
    let w = order_at rows p.of.items c.args.todo.now order i (length p.of.items) (record { class = 0; signature = []; row = 0 }) o c.requires.queued.inside c.loop-item-test.true in
    let item = work_at order i in
    let r = IsSettling-placed rows p.of.items (length p.known.items) c.loop-item.self c.place.new.self c.loop-item.seen c.place.new.seen c.loop-item.moved.items item.row item.signature c.in_ok-place.field-0 h (omega (arith, w.0, c.requires.refining.count)) (sym w.1) c.in_ok-place.ensures in
    record {
      settling = elim c.if-branch.branch [
        | then-branch+in_ok-push b ↦ rw (b.moved-is, b.in_ok-push.ensures.items) (r.1 b.if-branch.true)
        | else-branch b ↦ rw b.moved-is (r.0 b.if-branch.false)
      ];
      done = below_more _ _ (λ k g. r.3 (work_at order k).row (c.loop-item.invariant.done k g)) r.2;
      still = λ s f. r.3 s (c.loop-item.invariant.still s f);
    }

pub returns : goal.returns
returns c =
    let p = c.args.self.now in
    let rows = c.args.rows.now in
    let clean : (s : ℕ) → s < length rows → flag_at c.loop-item.self s ≡ false = λ s l. go s l (flag_at p s) refl in
    IsSettled-from rows p.of.items (length p.known.items) c.loop-item.self c.loop-item.seen c.loop-item.moved.items c.loop-item.invariant.settling clean
  where
    go : (s : ℕ) → s < length c.args.rows.now → (b : Bool) → flag_at c.args.self.now s ≡ b → flag_at c.loop-item.self s ≡ false
    go s l false f = c.loop-item.invariant.still s f
    go s l true f =
        let p = c.args.self.now in
        let order = c.deref-item-items.result.now in
        let o = order_from c.args.rows.now p.of.items c.deref.result.now c.args.todo.now c.in_ok-work.work.items order c.in_ok-work.ensures c.deref.ensures.value c.deref-item-items.ensures.value in
        let w = order_has c.args.rows.now p.of.items c.args.todo.now order s (record { class = 0; signature = []; row = 0 }) o (c.requires.queued.queued s (omega (arith, c.requires.refining.count)) f) in
        ap (flag_at c.loop-item.self) (sym w.2) ∙ c.loop-item.invariant.done w.0 (omega (arith, w.1, c.loop-item-test.false))
