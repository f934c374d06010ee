use Rattle.std.proofs.Common.{arith, ℕ, zero, suc, ◌≡◌, ◌<◌, ◌≤◌, ◌+◌, ◌-◌, ◌⊎◌, inl, inr, min, List, [], ◌∷◌, length, ap, ◌∙◌, refl, sym, vec_len, eqb, subst, true, false}
use Rattle.std.specs.List.{All}
use Rattle.std.proofs.lemmas.Bool.{eqb-true, true≢false}
use Rattle.fr_classes.specs.Refinement.{IsQueued}
use Rattle.fr_classes.proofs.StartLaws.{IsQueued-start}
use Rattle.fr_classes.proofs.PartitionLaws.{IsRefining-start, classes-le}
use Rattle.fr_classes.proofs.partition.refined.Goals.{then-loop-partition-test+else-len-limit, else-loop-partition-test}
use Rattle.fr_classes.proofs.partition.refined.Goals as goal

pub follow-requires-clause-of : goal.follow-requires-clause-of
follow-requires-clause-of c =
    let g = c.args.guess in
    let e = c.in_ok-partition.ensures in
    let p = c.in_ok-partition.partition in
    let h = IsRefining-start c.requires.machine.0 c.args.rows.now c.requires.machine.1 g.of.items g.count p c.requires.guess e.of e.dirty e.known e.clean in
    let below : All (λ x. x < length p.known.items) c.deref.result.now = rw c.deref.ensures.value h.tallied.below in
    λ k d l. omega (arith, below k d l, classes-le p h.used, h.count, c.in_ok-members.ensures.count)

pub follow-requires-clause-moved : goal.follow-requires-clause-moved
follow-requires-clause-moved c =
    let g = c.args.guess in
    let e = c.in_ok-partition.ensures in
    let p = c.in_ok-partition.partition in
    let h = IsQueued-start (length g.of.items) p p.todo.items (ap length e.of) e.todo in
    let inside : All (λ s. s < length p.of.items) c.deref-2.result.now = rw c.deref-2.ensures.value h.inside in
    λ k d l. omega (arith, inside k d l, ap length e.of, c.requires.guess.size, c.in_ok-members.ensures.count)

pub loop-partition-init : goal.loop-partition-init
loop-partition-init c =
    let rows = c.args.rows.now in
    let g = c.args.guess in
    let e = c.in_ok-partition.ensures in
    let p = c.in_ok-partition.partition in
    record {
      refining = IsRefining-start c.requires.machine.0 rows c.requires.machine.1 g.of.items g.count p c.requires.guess e.of e.dirty e.known e.clean;
      queued = IsQueued-start (length g.of.items) p p.todo.items (ap length e.of) e.todo;
      members = c.follow.ensures.members;
      member_count = c.follow.ensures.count ∙ c.in_ok-members.ensures.count;
    }

some_left : (n : ℕ) → eqb n 0 ≡ false → 0 < n
some_left zero e = absurd (true≢false e)
some_left (suc n) e = omega arith

none_left : (xs : List ℕ) → eqb (length xs) 0 ≡ true → xs ≡ []
none_left [] e = refl
none_left (x ∷ xs) e = absurd (let n = eqb-true (length (x ∷ xs)) 0 e in omega (arith, n))

-- the measure falls
smaller : (n k k' t t' : ℕ) → k' ≤ n → 0 < t → k ≤ k' → (t' ≡ 0) ⊎ (k < k') → (n - k') + min 1 t' < (n - k) + min 1 t
smaller n k k' t t' a b c (inl e) = omega arith
smaller n k k' t t' a b c (inr l) = omega arith

pub loop-partition-smaller : goal.loop-partition-smaller
loop-partition-smaller c =
    let n = length c.args.rows.now in
    let p = c.loop-partition.partition in
    let q = c.refine.new.self in
    let g = c.in_ok-refine.ensures.progress in
    let most : length q.known.items ≤ n = omega (arith, classes-le q c.in_ok-refine.ensures.refining.used, c.in_ok-refine.ensures.refining.count) in
    let todo_len : vec_len p.todo ≡ length p.todo.items = omega (arith, p.todo.ok.0) in
    let some : 0 < length p.todo.items = some_left (length p.todo.items) (ap (λ n. eqb n 0) (sym todo_len) ∙ sym c.is_empty.ensures ∙ c.loop-partition-test.true) in
    let none : (length q.todo.items ≡ 0) ⊎ (length p.known.items < length q.known.items) = elim g.1 [ inl e ↦ inl (ap length e) | inr l ↦ inr l ] in
    smaller n (length p.known.items) (length q.known.items) (length p.todo.items) (length q.todo.items) most some g.0 none

pub returns : goal.returns
returns c =
    let p = c.loop-partition.partition in
    let todo_len : vec_len p.todo ≡ length p.todo.items = omega (arith, p.todo.ok.0) in
    let known_len : vec_len p.known ≡ length p.known.items = omega (arith, p.known.ok.0) in
    record {
      refining = c.loop-partition.invariant.refining;
      ends = elim c.loop-partition-test.branch [
        | then-loop-partition-test+else-len-limit w ↦ inr (omega (arith, w.if-len-limit.false, w.len.ensures, known_len))
        | else-loop-partition-test w ↦
            let P : List ℕ → Type 0 = λ todo. IsQueued p todo in
            inl (subst P (none_left p.todo.items (ap (λ n. eqb n 0) (sym todo_len) ∙ sym c.is_empty.ensures ∙ w.loop-partition-test.false)) c.loop-partition.invariant.queued)
      ];
    }
