use Rattle.std.proofs.Common.{arith, ℕ, ◌≡◌, ◌≢◌, ◌+◌, ◌-◌, ◌<◌, ◌≤◌, inl, inr, List, [], length, get_or, Some, sym, ◌∙◌, ap}
use Rattle.std.specs.Cmp.Lexicographic.{other_text, same_text}
use Rattle.std.proofs.lemmas.List.{get_or_read}
use Rattle.std.proofs.lemmas.Bool.{cases_eq, cases_lt}
use Rattle.fr_classes.specs.declared.key_table.Entry.{Entry}
use Rattle.fr_classes.specs.declared.key_table.KeyTable.{KeyTable}
use Rattle.fr_classes.specs.KeyTables.{bucket_of, bucket_at, entry_at, IsKeyTable}
use Rattle.fr_classes.proofs.KeyTableLaws.{number_among-none, number_among-last}
use Rattle.fr_classes.proofs.key_table.KeyTable.number_of.Goals as goal

-- the entry of a number
read_entry : (es : List Entry) (n : ℕ) (e : Entry) → 0 < n → n ≤ length es → e ≡ get_or es (n - 1) e → e ≡ entry_at es (n - 1)
read_entry es n e some le r = get_or_read es (n - 1) e (omega arith) r (record { key = []; number = 0; earlier = 0 })

before : (i n : ℕ) → i < n → i ≢ n - 1 → i < n - 1
before i n l o = elim (cases_lt i (n - 1)) [ inl g ↦ g | inr g ↦ absurd (o (omega arith)) ]

-- the entry before an entry of another key
pub step : (t : KeyTable) (key : List ℕ) (n : ℕ) (e : Entry) → IsKeyTable t → 0 < n → n ≤ length t.entries.items → e ≡ entry_at t.entries.items (n - 1) → e.key ≢ key
    → ((i : ℕ) → n ≡ i + 1 → bucket_at (length t.latest.items) t.entries.items i ≡ bucket_of (length t.latest.items) key)
    → ((i : ℕ) → n ≤ i → i < length t.entries.items → (entry_at t.entries.items i).key ≢ key)
    → (e.earlier < n) × ((i : ℕ) → e.earlier ≡ i + 1 → bucket_at (length t.latest.items) t.entries.items i ≡ bucket_of (length t.latest.items) key)
    × ((i : ℕ) → e.earlier ≤ i → i < length t.entries.items → (entry_at t.entries.items i).key ≢ key)
step t key n e h some le at other own apart =
    let j = n - 1 in
    let lt : j < length t.entries.items = omega arith in
    let falls : e.earlier ≡ (entry_at t.entries.items j).earlier = ap (λ (x : Entry). x.earlier) at in
    let here : bucket_at (length t.latest.items) t.entries.items j ≡ bucket_of (length t.latest.items) key = own j (omega arith) in (
      omega (arith, falls, h.falls j),
      (λ i k. h.earlier j i lt (sym falls ∙ k) ∙ here),
      (λ i a b. go i a b),
    )
  where
    go : (i : ℕ) → e.earlier ≤ i → i < length t.entries.items → (entry_at t.entries.items i).key ≢ key
    go i a b = elim (cases_eq i (n - 1)) [
      | inl k ↦ λ s. other (ap (λ (x : Entry). x.key) at ∙ ap (λ m. (entry_at t.entries.items m).key) (sym k) ∙ s)
      | inr o ↦
          let falls : e.earlier ≡ (entry_at t.entries.items (n - 1)).earlier = ap (λ (x : Entry). x.earlier) at in
          elim (cases_lt i n) [
            | inr l ↦ apart i l b
            | inl l ↦ λ s. h.between (n - 1) i (omega arith) (omega (arith, falls, a)) (before i n l o) (ap (bucket_of (length t.latest.items)) s ∙ sym (own (n - 1) (omega arith)))
          ]
    ]

pub loop-number-init : goal.loop-number-init
loop-number-init c =
    let t = c.args.self.now in
    let b = c.bucket.result in
    let r : c.index-number.result.now ≡ get_or t.latest.items b 0 = get_or_read t.latest.items b _ c.bucket.ensures.bucket c.index-number.ensures 0 in
    record {
      within = omega (arith, r, c.requires.table.within b);
      own = λ i e. c.requires.table.latest b i c.bucket.ensures.bucket (sym r ∙ e) ∙ c.bucket.ensures.value;
      apart = λ i a l k. c.requires.table.after b i c.bucket.ensures.bucket (omega (arith, r, a)) l (ap (bucket_of (length t.latest.items)) k ∙ sym c.bucket.ensures.value);
    }

pub returns-then-eq : goal.returns-then-eq
returns-then-eq c =
    let es = c.args.self.now.entries.items in
    let n = c.loop-number.number in
    let at : c.index-entry.result.now ≡ entry_at es (n - 1) = read_entry es n _ c.loop-number-test.true c.loop-number.invariant.within c.index-entry.ensures in
    let same : (entry_at es (n - 1)).key ≡ c.args.key.now = ap (λ (x : Entry). x.key) (sym at) ∙ same_text _ _ c.if-eq.ensures in
    let lt : n - 1 < length es = omega (arith, c.loop-number-test.true, c.loop-number.invariant.within) in
    sym (number_among-last es c.args.key.now (n - 1) lt same (λ i a l. c.loop-number.invariant.apart i (omega arith) l) ∙ ap (λ (x : Entry). Some x.number) (sym at))

pub loop-number-smaller : goal.loop-number-smaller
loop-number-smaller c =
    let t = c.args.self.now in
    let n = c.loop-number.number in
    let i = c.loop-number.invariant in
    let at = read_entry t.entries.items n _ c.loop-number-test.true i.within c.index-entry.ensures in
    (step t c.args.key.now n _ c.requires.table c.loop-number-test.true i.within at (other_text _ _ c.if-eq.ensures) i.own i.apart).0

pub loop-number-preserved : goal.loop-number-preserved
loop-number-preserved c =
    let t = c.args.self.now in
    let n = c.loop-number.number in
    let i = c.loop-number.invariant in
    let at = read_entry t.entries.items n _ c.loop-number-test.true i.within c.index-entry.ensures in
    let s = step t c.args.key.now n _ c.requires.table c.loop-number-test.true i.within at (other_text _ _ c.if-eq.ensures) i.own i.apart in
    record { within = omega (arith, s.0, i.within); own = s.1; apart = s.2 }

pub returns : goal.returns
returns c =
    let i = c.loop-number.invariant in
    sym (number_among-none c.args.self.now.entries.items c.args.key.now (λ k l. i.apart k (omega (arith, c.loop-number-test.false)) l))
