-- A hand that publishes a machine knows with each new handle the handles of its sections.
use Rattle.std.proofs.Common.{◌≡◌, ℕ, ◌+◌, ◌-◌, ◌<◌, ◌≤◌, Bool, true, false, nat_eq, nat_lt, ◌&&◌, if◌then◌else◌, List, [], ◌∷◌, length, sym, ap, ◌∙◌, subst, ⊎_elim, inl, inr, arith}
use Rattle.std.proofs.lemmas.Bool.Decides.{nat_tests}
use mathlib.Core.Logic.{dite}
use native.Mathlib.Decide.{ℕ_discrete, dec_le}
use Rattle.fr_model.specs.Words.{IsLetter}
use Rattle.fr_machine.specs.declared.row.Row.{Row}
use Rattle.fr_machine.specs.Rows.{IsMachine, row_at}
use Rattle.fr_layout.specs.declared.plan.Plan.{Plan}
use Rattle.fr_layout.specs.declared.plan.Block.{Block}
use Rattle.fr_layout.specs.Packs.{pack_of}
use Rattle.fr_layout.specs.Places.{field_at, link_at, word_count, IsIn}
use Rattle.fr_layout.specs.Meaning.{field_value}
use Rattle.fr_words.specs.declared.notes.Fact.{Fact}
use Rattle.fr_words.specs.declared.notes.Note.{Note}
use Rattle.fr_words.specs.Members.{Has}
use Rattle.fr_words.specs.Notes.{newcomer}
use Rattle.fr_words.specs.Rule.{plain}
use Rattle.fr_words.specs.Lawful.{Lawful}
use Rattle.fr_words.specs.Asks.{SawItself}
use Rattle.fr_words_examples.specs.Filling.{block_at, KnowsRows, Adds}
use Rattle.fr_words_examples.specs.Settled.{block_of, row_of, value_in, names_itself, handle_block, next_row, IsSettledAt, IsSettledIn, IsSettled, NewHandsAreSettled}
use Rattle.fr_words_examples.proofs.Fillings.{good_at}

-- a pack is read back
read_back : (b : Block) (r : ℕ) → IsIn r b → b.size ≤ 1024 → (block_of (pack_of b r) ≡ b) × (row_of (pack_of b r) ≡ r)
read_back b r i s =
    let i0 = i.0 in let i1 = i.1 in
    let start : (block_of (pack_of b r)).start ≡ b.start = omega arith in
    let size : (block_of (pack_of b r)).size ≡ b.size = omega arith in
    ((λ k. record { start = start k; size = size k }), omega arith)

value_here : (f : Fact) (fs : List Fact) (j : ℕ) → f.word ≡ j → value_in (f ∷ fs) j ≡ f.value
value_here f fs j e = ap (λ (t : Bool). if t then f.value else value_in fs j) (let t : nat_eq f.word j ≡ true = grind (arith, nat_tests, e) in t)

value_else : (f : Fact) (fs : List Fact) (j : ℕ) → ¬ (f.word ≡ j) → value_in (f ∷ fs) j ≡ value_in fs j
value_else f fs j e = ap (λ (t : Bool). if t then f.value else value_in fs j) (let t : nat_eq f.word j ≡ false = grind (arith, nat_tests, e) in t)

-- the first fact of a word is one of its facts
first_fact : (fs : List Fact) (j x : ℕ) → Has fs j x → Has fs j (value_in fs j)
first_fact [] j x h = absurd h
first_fact (f ∷ fs) j x h = dite (ℕ_discrete f.word j)
    (λ e. inl (e, sym (value_here f fs j e)))
    (λ n. inr (subst (Has fs j) (sym (value_else f fs j n)) (first_fact fs j x (⊎_elim (λ (t : (f.word ≡ j) × (f.value ≡ x)). absurd (n t.0)) (λ t. t) h))))

some_fact : (fs : List Fact) (j : ℕ) → 0 < value_in fs j → Has fs j (value_in fs j)
some_fact [] j l = absurd (omega arith)
some_fact (f ∷ fs) j l = dite (ℕ_discrete f.word j)
    (λ e. inl (e, sym (value_here f fs j e)))
    (λ n. inr (subst (Has fs j) (sym (value_else f fs j n)) (some_fact fs j (let e = value_else f fs j n in omega arith))))

test_says : (n c y r : ℕ) → (nat_lt n c && (nat_lt 0 y && nat_eq r n)) ≡ true → (n < c) × (0 < y) × (r ≡ n)
test_says n c y r e = (grind (arith, nat_tests, e), grind (arith, nat_tests, e), grind (arith, nat_tests, e))

test_is : (n c y r : ℕ) → n < c → 0 < y → r ≡ n → (nat_lt n c && (nat_lt 0 y && nat_eq r n)) ≡ true
test_is n c y r a b e = grind (arith, nat_tests, a, b, e)

none : (p : Plan) (n : ℕ) → ¬ (names_itself p (value_in (newcomer p).facts) n ≡ true)
none p n h = let t = test_says n p.capacity (value_in [] (link_at p n)) (row_of (value_in [] (link_at p n))) h in let lo = t.1 in absurd (omega arith)

pub new_hands : NewHandsAreSettled
new_hands = record { none = none; settled = λ p n h. absurd (none p n h) }

-- the words under which the note is lawful have what it noted
module _ (w : Note) (i n : ℕ) (l : Lawful w i n) where
  fact_is : (j x : ℕ) → Has w.facts j x → (0 < j) × (j < word_count w.plan) × (0 < x) × (plain w.plan l.state.words j ≡ x)
  fact_is j x h = (l.ruled.kept.each l.seat w l.at).facts j x h

  value_is : (j x : ℕ) → Has w.facts j x → value_in w.facts j ≡ x
  value_is j x h = sym (fact_is j (value_in w.facts j) (first_fact w.facts j x h)).3 ∙ (fact_is j x h).3

  -- a handle that is noted is named
  names_of : (a : ℕ) (b : Block) → SawItself w.plan w a b → (names_itself w.plan (value_in w.facts) a ≡ true) × (handle_block w.plan (value_in w.facts) a ≡ b)
  names_of a b saw =
      let e = value_is (link_at w.plan a) (pack_of b a) saw.3 in
      let back = read_back b a saw.1 saw.2 in
      (test_is a w.plan.capacity (value_in w.facts (link_at w.plan a)) (row_of (value_in w.facts (link_at w.plan a))) saw.0 (omega arith) (ap row_of e ∙ back.1), ap block_of e ∙ back.0)

  -- a row of a machine whose fields and handles are known
  module _ (start : ℕ) (rows : List Row) (m : IsMachine w.plan.letters rows) (k : KnowsRows w.plan w start rows) where
    module _ (r : ℕ) (lr : r < length rows) where
      abbrev Y : ℕ → ℕ
      Y = value_in w.facts

      b_is : handle_block w.plan (value_in w.facts) (start + r) ≡ block_at start rows
      b_is = (names_of (start + r) (block_at start rows) (k.handles r lr)).1

      -- the row that comes next at a letter
      next_is : (x : ℕ) → IsLetter w.plan.letters x → (q : ℕ) × (q < length rows) × (next_row w.plan (value_in w.facts) (start + r) x ≡ start + q)
      next_is x letter =
          let e = value_is (field_at w.plan (start + r) x) (field_value start (row_at rows r) x) (k.fields r x lr letter.1) in
          let g = (good_at w.plan start rows m r x lr letter.1).1.1 (let lo = letter.0 in omega arith) in
          let g0 = g.0 in let g1 = g.1 in
          (field_value start (row_at rows r) x - 1 - start, omega arith, omega arith)

      at_next : (x : ℕ) (letter : IsLetter w.plan.letters x) → value_in w.facts (link_at w.plan (next_row w.plan (value_in w.facts) (start + r) x)) ≡ pack_of (block_at start rows) (start + (next_is x letter).0)
      at_next x letter =
          let q = next_is x letter in
          ap (λ (s : ℕ). value_in w.facts (link_at w.plan s)) q.2 ∙ value_is (link_at w.plan (start + q.0)) (pack_of (block_at start rows) (start + q.0)) (k.handles q.0 q.1).3

      settled_row : IsSettledAt w.plan (value_in w.facts) (start + r)
      settled_row = record {
        read = λ q f inside le.
            let i = subst (IsIn q) b_is inside in let i0 = i.0 in let i1 = i.1 in
            let small : q - start < length rows = omega arith in
            let same : start + (q - start) ≡ q = omega arith in
            let has = subst (λ (z : ℕ). Has w.facts (field_at w.plan z f) (field_value start (row_at rows (q - start)) f)) same (k.fields (q - start) f small le) in
            let e = value_is (field_at w.plan q f) (field_value start (row_at rows (q - start)) f) has in
            let lo = (good_at w.plan start rows m (q - start) f small le).0 in omega arith;
        linked = λ x letter. let e = at_next x letter in omega arith;
        handle = λ x letter.
            let q = next_is x letter in
            let saw = k.handles q.0 q.1 in
            let back = read_back (block_at start rows) (start + q.0) saw.1 saw.2 in
            subst (λ (s : ℕ). names_itself w.plan (value_in w.facts) s ≡ true) (sym (ap row_of (at_next x letter) ∙ back.1)) (names_of (start + q.0) (block_at start rows) saw).0;
      }

    -- what an earlier hand knew, which noted no less
    module _ (v : Note) (plan : v.plan ≡ w.plan) (adds : Adds w.plan start rows v w) (settled : IsSettled v) where
      before : IsSettledIn w.plan (value_in v.facts)
      before = subst (λ (p : Plan). IsSettledIn p (value_in v.facts)) plan settled

      same : (j : ℕ) → 0 < value_in v.facts j → value_in w.facts j ≡ value_in v.facts j
      same j lo = value_is j (value_in v.facts j) (adds.keeps j (value_in v.facts j) (some_fact v.facts j lo))

      names_more : (a : ℕ) → names_itself w.plan (value_in v.facts) a ≡ true → names_itself w.plan (value_in w.facts) a ≡ true
      names_more a h =
          let t = test_says a w.plan.capacity (value_in v.facts (link_at w.plan a)) (row_of (value_in v.facts (link_at w.plan a))) h in
          let e = same (link_at w.plan a) t.1 in
          test_is a w.plan.capacity (value_in w.facts (link_at w.plan a)) (row_of (value_in w.facts (link_at w.plan a))) t.0 (let lo = t.1 in omega arith) (ap row_of e ∙ t.2)

      -- a handle that was named is settled still
      still : (a : ℕ) → names_itself w.plan (value_in v.facts) a ≡ true → IsSettledAt w.plan (value_in w.facts) a
      still a h =
          let s = before a h in
          let t = test_says a w.plan.capacity (value_in v.facts (link_at w.plan a)) (row_of (value_in v.facts (link_at w.plan a))) h in
          let block : handle_block w.plan (value_in w.facts) a ≡ handle_block w.plan (value_in v.facts) a = ap block_of (same (link_at w.plan a) t.1) in
          let word : (x : ℕ) → IsLetter w.plan.letters x → 0 < value_in v.facts (field_at w.plan a x) = λ x letter. first_word a h x letter in
          let next : (x : ℕ) → IsLetter w.plan.letters x → next_row w.plan (value_in w.facts) a x ≡ next_row w.plan (value_in v.facts) a x = λ x letter. (ap (λ (y : ℕ). y - 1) (same (field_at w.plan a x) (word x letter))) in
          let link : (x : ℕ) → IsLetter w.plan.letters x → value_in w.facts (link_at w.plan (next_row w.plan (value_in w.facts) a x)) ≡ value_in v.facts (link_at w.plan (next_row w.plan (value_in v.facts) a x)) = λ x letter. (ap (λ (r : ℕ). value_in w.facts (link_at w.plan r)) (next x letter) ∙ same (link_at w.plan (next_row w.plan (value_in v.facts) a x)) (s.linked x letter)) in
          record {
            read = λ r f ins le. let lo = s.read r f (subst (IsIn r) block ins) le in let e = same (field_at w.plan r f) lo in omega arith;
            linked = λ x letter. subst (λ (y : ℕ). 0 < y) (sym (link x letter)) (s.linked x letter);
            handle = λ x letter. subst (λ (y : ℕ). names_itself w.plan (value_in w.facts) (row_of y) ≡ true) (sym (link x letter)) (names_more (row_of (value_in v.facts (link_at w.plan (next_row w.plan (value_in v.facts) a x)))) (s.handle x letter));
          }
        where
          -- the row of a handle lies in its block
          first_word : (a : ℕ) → names_itself w.plan (value_in v.facts) a ≡ true → (x : ℕ) → IsLetter w.plan.letters x → 0 < value_in v.facts (field_at w.plan a x)
          first_word a h x letter =
              let t = test_says a w.plan.capacity (value_in v.facts (link_at w.plan a)) (row_of (value_in v.facts (link_at w.plan a))) h in
              let f = fact_is (link_at w.plan a) (value_in v.facts (link_at w.plan a)) (adds.keeps (link_at w.plan a) (value_in v.facts (link_at w.plan a)) (some_fact v.facts (link_at w.plan a) t.1)) in
              let k' = (l.ruled.kept.links a t.0 (subst (λ (y : ℕ). 0 < y) (sym f.3) t.1)).0 in
              let is : value_in v.facts (link_at w.plan a) ≡ pack_of k'.block k'.row = sym f.3 ∙ k'.names in
              let back = read_back k'.block k'.row k'.placed.inside k'.placed.written.sized in
              let block : k'.block ≡ handle_block w.plan (value_in v.facts) a = sym (ap block_of is ∙ back.0) in
              let row : k'.row ≡ a = sym (ap row_of is ∙ back.1) ∙ t.2 in
              (before a h).read a x (subst (λ (z : Block × ℕ). IsIn z.1 z.0) (λ j. (block j, row j)) k'.placed.inside) letter.1

      pub settled_more : IsSettled w
      settled_more a h = dite (dec_le 1 (value_in v.facts (link_at w.plan a)))
          (λ lo.
          let t = test_says a w.plan.capacity (value_in w.facts (link_at w.plan a)) (row_of (value_in w.facts (link_at w.plan a))) h in
          let e = same (link_at w.plan a) lo in
          still a (test_is a w.plan.capacity (value_in v.facts (link_at w.plan a)) (row_of (value_in v.facts (link_at w.plan a))) t.0 lo (sym (ap row_of e) ∙ t.2)))
          (λ nothing.
          let t = test_says a w.plan.capacity (value_in w.facts (link_at w.plan a)) (row_of (value_in w.facts (link_at w.plan a))) h in
          let i = new_link a t.0 t.1 nothing in let i0 = i.0 in let i1 = i.1 in
          let is : start + (a - start) ≡ a = omega arith in
          subst (IsSettledAt w.plan (value_in w.facts)) is (settled_row (a - start) (omega arith)))
        where
          new_link : (a : ℕ) → a < w.plan.capacity → 0 < value_in w.facts (link_at w.plan a) → ¬ (1 ≤ value_in v.facts (link_at w.plan a)) → IsIn a (block_at start rows)
          new_link a small lo nothing = ⊎_elim
              (λ (o : Has v.facts (link_at w.plan a) (value_in w.facts (link_at w.plan a))).
              let f = first_fact v.facts (link_at w.plan a) (value_in w.facts (link_at w.plan a)) o in
              let g = fact_is (link_at w.plan a) (value_in v.facts (link_at w.plan a)) (adds.keeps (link_at w.plan a) (value_in v.facts (link_at w.plan a)) f) in
              let pos = g.2 in absurd (nothing (omega arith)))
              (λ i. i)
              (adds.links a (value_in w.facts (link_at w.plan a)) small (some_fact w.facts (link_at w.plan a) lo))
