use Rattle.std.proofs.Common.{ℕ, ◌≡◌, ◌+◌, ◌<◌, inl, inr, List, [], ◌∷◌, ◌++◌, length, refl, sym, ◌∙◌, ap, subst, arith}
use Rattle.std.proofs.lemmas.List.{get_or_append_left, get_or_push, length_push}
use Rattle.std.proofs.lemmas.Bool.{cases_lt}
use Rattle.fr_minimal.specs.declared.met.Met.{Met}
use Rattle.fr_minimal.specs.Searches.{AgreeOnMet, AreInside}
use Rattle.fr_minimal.proofs.GroupLaws.{joins-lt}
use Rattle.fr_minimal.proofs.search.Search.meet.Goals as goal

pub push_reserved-requires : goal.push_reserved-requires
push_reserved-requires c = omega (arith, c.args.self.now.met.ok.0, c.args.self.now.counted, c.args.self.now.room, joins-lt c.args.self.now.groups.parents.items c.args.self.now.groups.sorted (omega (arith, c.requires.right)))

-- one pair more lies inside
inside_more : (left_rows rows : ℕ) (met : List Met) (new : Met) → AreInside left_rows rows met → new.left < left_rows → left_rows + new.right < rows → AreInside left_rows rows (met ++ new ∷ [])
inside_more left_rows rows met new h l r i il = elim (cases_lt i (length met)) [
  | inl u ↦ let e = get_or_append_left met (new ∷ []) (record { left = 0; right = 0; before = 0; letter = 0 }) i u in rw e (h i u)
  | inr u ↦ let e = get_or_push met new (record { left = 0; right = 0; before = 0; letter = 0 }) i (omega (arith, length_push met new)) in rw e (l, r)
]

-- what is the same in one pair more is the same in the pairs before
agree_fewer : (left_rows : ℕ) (met : List Met) (new : Met) (images : ℕ → List ℕ) → AgreeOnMet left_rows (met ++ new ∷ []) images → AgreeOnMet left_rows met images
agree_fewer left_rows met new images h i il =
    let e = get_or_append_left met (new ∷ []) (record { left = 0; right = 0; before = 0; letter = 0 }) i il in
    rw e at (h i (omega (arith, length_push met new)))

-- and in this pair
agree_last : (left_rows : ℕ) (met : List Met) (new : Met) (images : ℕ → List ℕ) → AgreeOnMet left_rows (met ++ new ∷ []) images → images new.left ≡ images (left_rows + new.right)
agree_last left_rows met new images h =
    let e = get_or_push met new (record { left = 0; right = 0; before = 0; letter = 0 }) (length met) refl in
    rw e at (h (length met) (omega (arith, length_push met new)))

pub invariant_of-self : goal.invariant_of-self
invariant_of-self c =
    let s = c.args.self.now in
    let items = c.push_reserved.ensures.items in
    let P : List Met → Type 0 = λ xs. AreInside s.left_rows (length c.join.new.self.parents.items) xs in
    let Q : ℕ → Type 0 = λ n. AreInside s.left_rows n s.met.items in
    let inside = inside_more s.left_rows (length c.join.new.self.parents.items) s.met.items c.args.met (subst Q (sym c.join.ensures.size) s.inside) c.requires.left (omega (arith, c.requires.right, c.join.ensures.size)) in
    record {
      inside = subst P (sym items) inside;
      shared = λ images h.
          let R : List Met → Type 0 = λ xs. AgreeOnMet s.left_rows xs images in
          let h' = subst R items h in
          c.join.ensures.shared images (s.shared images (agree_fewer s.left_rows s.met.items c.args.met images h')) (agree_last s.left_rows s.met.items c.args.met images h');
      counted = ap length items ∙ length_push s.met.items c.args.met ∙ ap (λ n. n + 1) s.counted ∙ sym c.if-join.ensures.joins;
      room = omega (arith, s.room, c.join.ensures.size, c.push_reserved.ensures.capacity);
    }

pub invariant_of-self-else-join : goal.invariant_of-self-else-join
invariant_of-self-else-join c =
    let s = c.args.self.now in
    let Q : ℕ → Type 0 = λ n. AreInside s.left_rows n s.met.items in
    record {
      inside = subst Q (sym c.join.ensures.size) s.inside;
      shared = λ images h.
          let old = s.shared images h in
          c.join.ensures.shared images old (c.if-join.ensures.one refl images old);
      counted = omega (arith, s.counted, c.if-join.ensures.joins);
      room = omega (arith, s.room, c.join.ensures.size);
    }

pub returns-else-join-clause-met : goal.returns-else-join-clause-met
returns-else-join-clause-met c = inl (λ images h. c.if-join.ensures.one refl images (c.args.self.now.shared images h), refl)
