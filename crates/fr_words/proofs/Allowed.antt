-- What each call of the table asks.
use Rattle.std.proofs.Common.{◌≡◌, ◌≢◌, ◌⊎◌, ℕ, zero, suc, ◌+◌, ◌<◌, ◌≤◌, eqb, nat_lt, Bool, true, false, List, [], ◌∷◌, ◌++◌, length, set, slice_index, refl, sym, ap, ◌∙◌, subst, ⊎_elim, inl, inr, arith, nat_eq, eq-eqb, ne_eqb, if◌then◌else◌, length-set, get_or-set_same, get_or-set_other, Some}
use mathlib.Core.Option.{none, some, some-injective, some-ne-none}
use mathlib.Core.Logic.{dite}
use native.Mathlib.Decide.{dec_le, ℕ_discrete}
use lib.ListN.{get_elem?}
use lib.Seq.{set-get_or}
use prog.Atomic.{either}
use Rattle.atomic_table.specs.Table.{State, Me, step, Act, keeps, Valid, carried_after, stepped, Allows, Splits, Joins, opening}
use Rattle.atomic_table.proofs.Lists.{exchanged, at_set, at_snoc, set_else}
use Rattle.fr_line.specs.Lines.{only_if, IsLive}
use Rattle.std.proofs.Math.Nat.{lt_of_not-le}
use Rattle.fr_layout.proofs.Spots.{field_below}
use Rattle.fr_layout.specs.Entries.{Grows, IsCached}
use Rattle.fr_layout.specs.Packs.{pack_of}
use Rattle.fr_layout.specs.Places.{IsPlan, cache_at, cache_size, cell_at, field_at, link_at, word_count}
use Rattle.fr_layout.specs.declared.plan.Block.{Block}
use Rattle.fr_layout.specs.declared.plan.Plan.{Plan}
use Rattle.fr_words.proofs.Claiming.{claim_kept}
use Rattle.fr_words.proofs.Covering.{times_append}
use Rattle.fr_words.proofs.Entering.{enter_kept}
use Rattle.fr_words.proofs.Filling.{fill_kept, fill_was}
use Rattle.fr_words.proofs.Linking.{link_kept}
use Rattle.fr_words.proofs.Loads.{idle_kept, product_kept, saw_kept, learned_kept}
use Rattle.fr_words.proofs.Meeting.{join_kept, split_kept, start_kept}
use Rattle.fr_words.proofs.Products.{cached_stays, caches_now}
use Rattle.fr_words.proofs.Steps.{set_there}
use Rattle.fr_words.specs.Asks.{IsFinished, MayCache, MayEnter, MayFill, MayLink}
use Rattle.fr_words.specs.Lawful.{IsLawful, Lawful, claims, enters_cell, fills, looks, meets, meets_cell, meets_product, sets_link, swaps}
use Rattle.fr_words.specs.Members.{times}
use Rattle.fr_words.specs.Notes.{claimed, entered, learned, met, met_cell, met_product, missed_at, newcomer, parted, read_product, saw, spent, sprouted, ticked, united, wrote}
use Rattle.fr_words.specs.Rule.{Kept, RuledBy, plain}
use Rattle.fr_words.specs.declared.notes.Note.{Note}

past_test : (m n : ℕ) → n ≤ m → nat_lt m n ≡ false
past_test m n h = grind arith

pub within : (p : Plan) (words : List ℕ) (i : ℕ) → i < word_count p → plain p words i ≡ slice_index words i
within p words i h = ap (λ (t : Bool). only_if t (slice_index words i)) (let e : nat_lt i (word_count p) ≡ true = grind arith in e)

module _ (p : Plan) where
  abbrev words_of : State ℕ Note → ℕ → ℕ
  words_of s = plain p s.words

  abbrev Noted : (ℕ → ℕ) → Note → Type 0
  Noted W v = (x : ℕ) → 0 < times x v.products → (0 < x) × IsCached p W x

  -- what the hands noted of the cache, after a step of one of them
  noted_after : (W : ℕ → ℕ) (views : List Note) (id : ℕ) (w : Note) → Noted W w → ((k : ℕ) (u : Note) → get_elem? views k ≡ some u → Noted W u)
      → (k : ℕ) (u : Note) → get_elem? (set views id w) k ≡ some u → Noted W u
  noted_after W views id w mine others k u e = ⊎_elim (λ (t : (k ≡ id) × (w ≡ u)). subst (Noted W) t.1 mine) (λ (t : (k ≢ id) × (get_elem? views k ≡ some u)). others k u t.1) (at_set views id k w u e)

  abbrev after_step : State ℕ Note → ℕ → ℕ → ℕ → Note → State ℕ Note
  after_step s i n id w = record { words = set s.words i n; homes = s.homes; views = set s.views id w }

  -- a load
  loaded : (s : State ℕ Note) → RuledBy p s → (i id : ℕ) (w : Note) → Noted (words_of s) w → Kept p (words_of s) (set s.views id w) → RuledBy p (after_step s i (slice_index s.words i) id w)
  loaded s r i id w products h = subst (λ (ws : List ℕ). RuledBy p record { words = ws; homes = s.homes; views = set s.views id w }) (sym (set-get_or s.words i 0)) record {
    wide = r.wide;
    kept = h;
    cached = r.cached;
    noted = noted_after (words_of s) s.views id w products r.noted;
  }

  -- the word i becomes x
  written : (s : State ℕ Note) → RuledBy p s → (i x id : ℕ) (v w : Note) → get_elem? s.views id ≡ some v → w.products ≡ v.products → i < word_count p → Grows (words_of s) (plain p (set s.words i x)) → Kept p (plain p (set s.words i x)) (set s.views id w) → RuledBy p (after_step s i x id w)
  written s r i x id v w at same_products inside grows h = record {
    wide = length-set s.words i x ∙ r.wide;
    kept = h;
    cached = λ j l. subst (IsCached p (plain p (set s.words i x))) (sym (get_or-set_other s.words i (cache_at p j) x 0 (λ e. omega arith))) (stays (slice_index s.words (cache_at p j)) (r.cached j l));
    noted = noted_after (plain p (set s.words i x)) s.views id w (λ y e. let t = r.noted id v at y (subst (λ (l : List ℕ). 0 < times y l) same_products e) in (t.0, stays y t.1)) (λ k u e y t. let n = r.noted k u e y t in (n.0, stays y n.1));
  }
    where
      stays : (y : ℕ) → IsCached p (words_of s) y → IsCached p (plain p (set s.words i x)) y
      stays y = cached_stays p (words_of s) (plain p (set s.words i x)) s.views r.kept grows y

  now : (s : State ℕ Note) → RuledBy p s → (i x : ℕ) → i < word_count p → plain p (set s.words i x) i ≡ x
  now s r i x h = within p (set s.words i x) i h ∙ get_or-set_same s.words i x 0 (let e = r.wide in omega arith)

  same : (s : State ℕ Note) (i x j : ℕ) → j ≢ i → plain p (set s.words i x) j ≡ plain p s.words j
  same s i x j n = ap (λ (y : ℕ). only_if (nat_lt j (word_count p)) y) (get_or-set_other s.words i j x 0 n)

  lawful : (s : State ℕ Note) → RuledBy p s → (id : ℕ) (v : Note) (i n : ℕ) → get_elem? s.views id ≡ some v → v.plan ≡ p → slice_index s.words i ≡ n → Lawful v i n
  lawful s r id v i n at plan is = record { state = s; ruled = subst (λ (q : Plan). RuledBy q s) (sym plan) r; seat = id; at = at; is = is }

  -- the same after a step that left n in the word i
  lawful_after : (s : State ℕ Note) (i n id : ℕ) (v w : Note) → RuledBy p (after_step s i n id w) → get_elem? s.views id ≡ some v → w.plan ≡ p → i < length s.words → Lawful w i n
  lawful_after s i n id v w r at plan inside = lawful (after_step s i n id w) r id w i n (set_there s.views id v w at) plan (get_or-set_same s.words i n 0 inside)

  -- what a load needs: the note w, which ends with the word as it is
  load_allows : (slots i id : ℕ) (v : Note) (c : List (ℕ × ℕ)) (w : ℕ → Note) (tell_it : Me ℕ Note → ℕ → Me ℕ Note → Type 0) → IsLive v.line → i < word_count p + cache_size → ((n : ℕ) → (w n).plan ≡ v.plan)
      → ((s : State ℕ Note) → RuledBy p s → get_elem? s.views id ≡ some v → Kept p (words_of s) (set s.views id (w (slice_index s.words i))) × Noted (words_of s) (w (slice_index s.words i)))
      → ((n : ℕ) → Lawful v i n → Lawful (w n) i n → tell_it (v, c) n (w n, c)) → Allows (RuledBy p) slots id (v, c) i (λ n. n) (tell_it (v, c))
  load_allows slots i id v c w tell_it live inside same_plan keeps_it tell s r deep at fits =
      let n : ℕ = slice_index s.words i in
      let plan = (r.kept.each id v at).planned live in
      let k = keeps_it s r at in
      let after : RuledBy p (after_step s i n id (w n)) = loaded s r i id (w n) k.1 k.0 in (
        w n,
        keeps,
        tt,
        after,
        tell n (lawful s r id v i n at plan refl) (lawful_after s i n id v (w n) after at (same_plan n ∙ plan) (let e = r.wide in omega arith)),
      )

  -- a load of a word below the cache
  plain_load : (slots i id : ℕ) (v : Note) (c : List (ℕ × ℕ)) (w : ℕ → Note) (tell_it : Me ℕ Note → ℕ → Me ℕ Note → Type 0) → IsLive v.line → i < word_count p → ((n : ℕ) → ((w n).plan ≡ v.plan) × ((w n).products ≡ v.products))
      → ((V : ℕ → ℕ) (views : List Note) → Kept p V views → get_elem? views id ≡ some v → Kept p V (set views id (w (V i))))
      → ((n : ℕ) → Lawful v i n → Lawful (w n) i n → tell_it (v, c) n (w n, c)) → Allows (RuledBy p) slots id (v, c) i (λ n. n) (tell_it (v, c))
  plain_load slots i id v c w tell_it live inside same keeps_it tell = load_allows slots i id v c w tell_it live (omega arith) (λ n. (same n).0)
      (λ s r at. (
        subst (λ (x : ℕ). Kept p (words_of s) (set s.views id (w x))) (within p s.words i inside) (keeps_it (words_of s) s.views r.kept at),
        (λ x e. r.noted id v at x (subst (λ (l : List ℕ). 0 < times x l) (same (slice_index s.words i)).1 e)),
      ))
      tell

  pub look_allows : (slots id : ℕ) (v : Note) (c : List (ℕ × ℕ)) → IsLive v.line → Allows (RuledBy p) slots id (v, c) 0 (λ n. n) (looks (step slots 0 0 0 none) (v, c))
  look_allows slots id v c live = plain_load slots 0 id v c (saw v) (looks (step slots 0 0 0 none)) live (omega arith) (λ n. (refl, refl)) (λ V views k at. saw_kept p V views k id v at live) (λ n a b. (refl, (a, refl, b)))

  -- the step changes a word from 0, or raises the number of claimed rows
  grown : (s : State ℕ Note) → RuledBy p s → (i old new : ℕ) → i < word_count p → ((i ≡ 0) × (old ≤ new)) ⊎ (old ≡ 0) → words_of s i ≡ old → Grows (words_of s) (plain p (set s.words i new))
  grown s r i old new inside up was = record {
    claim = dite (ℕ_discrete 0 i)
        (λ e. let a : plain p (set s.words i new) 0 ≡ new = ap (plain p (set s.words i new)) e ∙ now s r i new inside in let b : words_of s 0 ≡ old = ap (words_of s) e ∙ was in ⊎_elim (λ (t : (i ≡ 0) × (old ≤ new)). let u = t.1 in omega arith) (λ (t : old ≡ 0). omega arith) up)
        (λ n. let e = same s i new 0 n in omega arith);
    keeps = λ j lo full. same s i new j (λ e. let b : words_of s j ≡ old = ap (words_of s) e ∙ was in ⊎_elim (λ (t : (i ≡ 0) × (old ≤ new)). let u = t.0 in omega arith) (λ (t : old ≡ 0). omega arith) up);
  }

  -- an exchange of the word i from old to new
  exchange_allows : (slots i old new id : ℕ) (v : Note) (c : List (ℕ × ℕ)) (won lost : ℕ → Note) (tell_it : Me ℕ Note → ℕ → Me ℕ Note → Type 0) → IsLive v.line → i < word_count p → ((n : ℕ) → ((won n).plan ≡ v.plan) × ((won n).products ≡ v.products)) → ((n : ℕ) → ((lost n).plan ≡ v.plan) × ((lost n).products ≡ v.products))
      → ((i ≡ 0) × (old ≤ new)) ⊎ (old ≡ 0)
      → ((V W : ℕ → ℕ) (views : List Note) → Kept p V views → get_elem? views id ≡ some v → V i ≡ old → W i ≡ new → ((j : ℕ) → j ≢ i → W j ≡ V j) → Kept p W (set views id (won old)))
      → ((V : ℕ → ℕ) (views : List Note) → Kept p V views → get_elem? views id ≡ some v → V i ≢ old → Kept p V (set views id (lost (V i))))
      → ((n : ℕ) → n ≡ old → Lawful v i n → Lawful (won n) i new → tell_it (v, c) n (won n, c)) → ((n : ℕ) → n ≢ old → Lawful v i n → Lawful (lost n) i n → tell_it (v, c) n (lost n, c))
      → Allows (RuledBy p) slots id (v, c) i (λ n. either (eqb n old) new n) (tell_it (v, c))
  exchange_allows slots i old new id v c won lost tell_it live inside won_plan lost_plan up win lose tell_won tell_lost s r deep at fits =
      let n : ℕ = slice_index s.words i in
      let V : ℕ → ℕ = words_of s in
      let is : V i ≡ n = within p s.words i inside in
      let plan = (r.kept.each id v at).planned live in
      let within_words : i < length s.words = let e = r.wide in omega arith in
      exchanged n old new (λ m. (w : Note) × (a : Act ℕ) × Valid s.homes c a × RuledBy p (stepped s i m id c w a) × tell_it (v, c) n (w, carried_after c a))
      (λ hit.
      let W : ℕ → ℕ = plain p (set s.words i new) in
      let kept : Kept p W (set s.views id (won n)) = subst (λ (x : ℕ). Kept p W (set s.views id (won x))) (sym hit) (win V W s.views r.kept at (is ∙ hit) (now s r i new inside) (λ j ne. same s i new j ne)) in
      let after : RuledBy p (after_step s i new id (won n)) = written s r i new id v (won n) at (won_plan n).1 inside (grown s r i old new inside up (is ∙ hit)) kept in (
        won n,
        keeps,
        tt,
        after,
        tell_won n hit (lawful s r id v i n at plan refl) (lawful_after s i new id v (won n) after at ((won_plan n).0 ∙ plan) within_words),
      ))
      (λ miss.
      let kept : Kept p V (set s.views id (lost n)) = subst (λ (x : ℕ). Kept p V (set s.views id (lost x))) is (lose V s.views r.kept at (λ e. miss (sym is ∙ e))) in
      let after : RuledBy p (after_step s i n id (lost n)) = loaded s r i id (lost n) (λ x e. r.noted id v at x (subst (λ (l : List ℕ). 0 < times x l) (lost_plan n).1 e)) kept in (
        lost n,
        keeps,
        tt,
        after,
        tell_lost n miss (lawful s r id v i n at plan refl) (lawful_after s i n id v (lost n) after at ((lost_plan n).0 ∙ plan) within_words),
      ))

  pub claim_allows : (slots id old new : ℕ) (v : Note) (c : List (ℕ × ℕ)) → IsLive v.line → IsFinished p v → old < new → new ≤ old + 1024 → new ≤ p.capacity → Allows (RuledBy p) slots id (v, c) 0 (λ n. either (eqb n old) new n) (claims (step slots 0 old new none) (v, c))
  claim_allows slots id old new v c live finished up small room = exchange_allows slots 0 old new id v c (λ n. claimed v n new) (saw v) (claims (step slots 0 old new none)) live (omega arith) (λ n. (refl, refl)) (λ n. (refl, refl)) (inl (refl, omega arith))
      (λ V W views k at is is' same. subst (λ (x : ℕ × ℕ). Kept p W (set views id (claimed v x.0 x.1))) (λ j. (is j, is' j)) (claim_kept p V views k id v at W (λ i lo. same i (λ e. omega arith)) (omega arith) (omega arith) (omega arith) live finished))
      (λ V views k at miss. saw_kept p V views k id v at live)
      (λ n hit a b. ((refl, refl, refl), (λ _. refl), (λ no. absurd (no hit)), (a, refl, b)))
      (λ n miss a b. ((refl, refl, refl), (λ hit. absurd (miss hit)), (λ _. refl), (a, refl, b)))

  pub fill_allows : (slots id : ℕ) (v : Note) (c : List (ℕ × ℕ)) (b : Block) (r f x : ℕ) → IsLive v.line → r < p.capacity → MayFill p v b r f x → Allows (RuledBy p) slots id (v, c) (field_at p r f) (λ _. x) (λ _. fills (step slots (field_at p r f) x 0 none) (v, c) x)
  fill_allows slots id v c b r f x live small asks s ruled deep at fits =
      let i : ℕ = field_at p r f in
      let inside : i < word_count p = let h = field_below p r f small asks.field in omega arith in
      let V : ℕ → ℕ = words_of s in
      let W : ℕ → ℕ = plain p (set s.words i x) in
      let plan = (ruled.kept.each id v at).planned live in
      let was : V i ≡ 0 = fill_was p V s.views ruled.kept id v at W b r f x asks (now s ruled i x inside) (λ j ne. same s i x j ne) in
      let kept : Kept p W (set s.views id (wrote v i x)) = fill_kept p V s.views ruled.kept id v at W b r f x asks (now s ruled i x inside) (λ j ne. same s i x j ne) in
      let after : RuledBy p (after_step s i x id (wrote v i x)) = written s ruled i x id v (wrote v i x) at refl inside (grown s ruled i 0 x inside (inr refl) was) kept in (
        wrote v i x,
        keeps,
        tt,
        after,
        (refl, lawful s ruled id v i 0 at plan (sym (within p s.words i inside) ∙ was), lawful_after s i x id v (wrote v i x) after at plan (let e = ruled.wide in omega arith)),
      )

  pub split_allows : (id : ℕ) (v : Note) → IsLive v.line → Splits (RuledBy p) id v (parted v) (sprouted v)
  split_allows id v live s r at = record {
    wide = r.wide;
    kept = split_kept p (words_of s) s.views r.kept id v at live;
    cached = r.cached;
    noted = λ k u e. ⊎_elim (λ (t : get_elem? (set s.views id (parted v)) k ≡ some u). noted_after (words_of s) s.views id (parted v) (r.noted id v at) r.noted k u t)
        (λ (t : sprouted v ≡ u). subst (Noted (words_of s)) t (r.noted id v at)) (at_snoc (set s.views id (parted v)) (sprouted v) u k e);
  }

  pub join_allows : (id other : ℕ) (v u : Note) → IsLive v.line → IsFinished p u → Joins (RuledBy p) id v other u (united v u) spent
  join_allows id other v u live finished s r at apart at' = record {
    wide = r.wide;
    kept = join_kept p (words_of s) s.views r.kept id v at live other u finished apart at';
    cached = r.cached;
    noted = noted_after (words_of s) (set s.views id (united v u)) other spent (λ x h. absurd (omega arith)) (noted_after (words_of s) s.views id (united v u) (λ x h. both x (times x v.products) refl h) r.noted);
  }
    where
      both : (x n : ℕ) → times x v.products ≡ n → 0 < times x (v.products ++ u.products) → (0 < x) × IsCached p (words_of s) x
      both x zero e h = r.noted other u (sym (set_else s.views id other (united v u) apart) ∙ at') x (let a = times_append x v.products u.products in omega arith)
      both x (suc n) e h = r.noted id v at x (omega arith)

  pub start_allows : (words : List ℕ) → length words ≡ word_count p + cache_size → IsPlan p → ((i : ℕ) → slice_index words i ≡ 0) → RuledBy p (opening words [] (newcomer p))
  start_allows words wide planned blank = record {
    wide = wide;
    kept = start_kept p (plain p words) planned (λ i. ap (only_if (nat_lt i (word_count p))) (blank i) ∙ none (nat_lt i (word_count p)));
    cached = λ j l lo. absurd (let z = blank (cache_at p j) in omega arith);
    noted = λ k u e x h. absurd (no_products k u e x h);
  }
    where
      none : (t : Bool) → only_if t 0 ≡ 0
      none true = refl
      none false = refl

      no_products : (k : ℕ) (u : Note) → get_elem? (newcomer p ∷ []) k ≡ some u → (x : ℕ) → 0 < times x u.products → ⊥
      no_products zero u e x h = let z : 0 < times x (newcomer p).products = subst (λ (y : Note). 0 < times x y.products) (sym (some-injective (newcomer p) u e)) h in omega arith
      no_products (suc k) u e x h = some-ne-none u (sym e)

  abbrev KeptSo : State ℕ Note → ℕ → Note → Type 0
  KeptSo s id w = Kept p (words_of s) (set s.views id w) × Noted (words_of s) w

  -- a load of a cache word
  pub product_allows : (slots i j id : ℕ) (v : Note) (c : List (ℕ × ℕ)) → IsLive v.line → i ≡ cache_at p j → j < cache_size → Allows (RuledBy p) slots id (v, c) i (λ n. n) (meets_product (step slots i 0 0 none) (v, c))
  product_allows slots i j id v c live is small = load_allows slots i id v c (met_product v i) (meets_product (step slots i 0 0 none)) live (omega arith) (λ n. same_plan n (nat_eq n 0)) kept_so (λ n a b. (refl, (a, named n (nat_eq n 0), last n (nat_eq n 0) b)))
    where
      same_plan : (n : ℕ) (t : Bool) → (◌≡◌ {A = Plan} (if t then ticked v i n n else read_product v i n).plan v.plan)
      same_plan n true = refl
      same_plan n false = refl

      named : (n : ℕ) (t : Bool) → ◌≡◌ {A = ℕ} (if t then ticked v i n n else read_product v i n).found n
      named n true = refl
      named n false = refl

      last : (n : ℕ) (t : Bool) → Lawful (if t then ticked v i n n else read_product v i n) i n → IsLawful (if t then ticked v i n n else read_product v i n)
      last n true h = h
      last n false h = h

      also : (V : ℕ → ℕ) (x n : ℕ) → (0 < n) × IsCached p V n → (m : ℕ) → times x v.products ≡ m → (0 < times x v.products → (0 < x) × IsCached p V x) → 0 < times x (v.products ++ n ∷ []) → (0 < x) × IsCached p V x
      also V x n it zero e old h = dite (ℕ_discrete x n) (λ is. subst (λ (y : ℕ). (0 < y) × IsCached p V y) (sym is) it) (λ no. absurd (let a = times_append x v.products (n ∷ []) in let z = ap (λ (y : Bool). only_if y 1) (ne_eqb x n no) in omega arith))
      also V x n it (suc m) e old h = old (omega arith)

      kept_so : (s : State ℕ Note) → RuledBy p s → get_elem? s.views id ≡ some v → Kept p (words_of s) (set s.views id (met_product v i (slice_index s.words i))) × Noted (words_of s) (met_product v i (slice_index s.words i))
      kept_so s r at = go (slice_index s.words i) (subst (λ (y : ℕ). IsCached p (words_of s) (slice_index s.words y)) (sym is) (r.cached j small))
        where
          go : (n : ℕ) → IsCached p (words_of s) n → Kept p (words_of s) (set s.views id (met_product v i n)) × Noted (words_of s) (met_product v i n)
          go n it = dite (ℕ_discrete n 0)
              (λ e. subst (λ (t : Bool). KeptSo s id (if t then ticked v i n n else read_product v i n)) (sym (eq-eqb n 0 e)) (idle_kept p (words_of s) s.views r.kept id v at live v.gap i n n, r.noted id v at))
              (λ ne. subst (λ (t : Bool). KeptSo s id (if t then ticked v i n n else read_product v i n)) (sym (ne_eqb n 0 ne)) (product_kept p (words_of s) s.views r.kept id v at live i n, (λ x h. also (words_of s) x n (omega arith, it) (times x v.products) refl (λ e. r.noted id v at x e) h)))

  -- a swap of a cache word
  pub swap_allows : (slots i j new id : ℕ) (v : Note) (c : List (ℕ × ℕ)) → IsLive v.line → i ≡ cache_at p j → j < cache_size → MayCache p v new → Allows (RuledBy p) slots id (v, c) i (λ _. new) (swaps (step slots i new 0 none) (v, c))
  swap_allows slots i j new id v c live is small asks s r deep at fits =
      let w : Note = ticked v i (slice_index s.words i) new in
      let V : ℕ → ℕ = words_of s in
      let W : ℕ → ℕ = plain p (set s.words i new) in
      let same_words : V ≡ W = λ q m. below_cache m (dec_le (suc m) (word_count p)) q in
      let it : IsCached p V new = caches_now p V s.views r.kept id v at new asks in
      let plan = (r.kept.each id v at).planned live in
      let after : RuledBy p (after_step s i new id w) = record {
        wide = length-set s.words i new ∙ r.wide;
        kept = subst (λ (X : ℕ → ℕ). Kept p X (set s.views id w)) same_words (idle_kept p V s.views r.kept id v at live v.gap i (slice_index s.words i) new);
        cached = λ e l. subst (λ (X : ℕ → ℕ). IsCached p X (slice_index (set s.words i new) (cache_at p e))) same_words (one_cached e l it);
        noted = subst (λ (X : ℕ → ℕ). (k : ℕ) (u : Note) → get_elem? (set s.views id w) k ≡ some u → Noted X u) same_words (noted_after V s.views id w (r.noted id v at) r.noted);
      } in (
        w,
        keeps,
        tt,
        after,
        (refl, (lawful s r id v i (slice_index s.words i) at plan refl, refl, lawful_after s i new id v w after at plan (let e = r.wide in omega arith))),
      )
    where
      below_cache : (m : ℕ) → Dec (m < word_count p) → plain p s.words m ≡ plain p (set s.words i new) m
      below_cache m (yes l) = sym (same s i new m (λ e. omega arith))
      below_cache m (no n) = ap (λ (t : Bool). only_if t (slice_index s.words m)) (past m n) ∙ sym (ap (λ (t : Bool). only_if t (slice_index (set s.words i new) m)) (past m n))
        where
          past : (m : ℕ) → ¬ (m < word_count p) → nat_lt m (word_count p) ≡ false
          past m n = past_test m (word_count p) (let l = lt_of_not-le n in omega arith)

      one_cached : (e : ℕ) → e < cache_size → IsCached p (plain p s.words) new → IsCached p (plain p s.words) (slice_index (set s.words i new) (cache_at p e))
      one_cached e l it = dite (ℕ_discrete (cache_at p e) i)
          (λ hit. subst (IsCached p (plain p s.words)) (sym (ap (λ (y : ℕ). slice_index (set s.words i new) y) hit ∙ get_or-set_same s.words i new 0 (let a = r.wide in omega arith))) it)
          (λ no. subst (IsCached p (plain p s.words)) (sym (get_or-set_other s.words i (cache_at p e) new 0 no)) (r.cached e l))

  met_kept : (i id : ℕ) (v : Note) (V : ℕ → ℕ) (views : List Note) → IsLive v.line → 0 < i → i < word_count p → Kept p V views → get_elem? views id ≡ some v → Kept p V (set views id (met v i (V i)))
  met_kept i id v V views live lo inside kept at = dite (ℕ_discrete (V i) 0)
      (λ e. subst (λ (t : Bool). Kept p V (set views id (if t then ticked v i (V i) (V i) else learned v i (V i)))) (sym (eq-eqb (V i) 0 e)) (idle_kept p V views kept id v at live v.gap i (V i) (V i)))
      (λ ne. subst (λ (t : Bool). Kept p V (set views id (if t then ticked v i (V i) (V i) else learned v i (V i)))) (sym (ne_eqb (V i) 0 ne)) (learned_kept p V views kept id v at live i lo inside (omega arith)))

  met_plan : (v : Note) (i n : ℕ) (t : Bool) → (◌≡◌ {A = Plan} (if t then ticked v i n n else learned v i n).plan v.plan) × (◌≡◌ {A = List ℕ} (if t then ticked v i n n else learned v i n).products v.products)
  met_plan v i n true = (refl, refl)
  met_plan v i n false = (refl, refl)

  pub meet_allows : (slots i id : ℕ) (v : Note) (c : List (ℕ × ℕ)) → IsLive v.line → 0 < i → i < word_count p → Allows (RuledBy p) slots id (v, c) i (λ n. n) (meets (step slots i 0 0 none) (v, c))
  meet_allows slots i id v c live lo inside = plain_load slots i id v c (met v i) (meets (step slots i 0 0 none)) live inside (λ n. met_plan v i n (nat_eq n 0)) (λ V views k at. met_kept i id v V views live lo inside k at) (λ n a b. (refl, (a, named n (nat_eq n 0), last n (nat_eq n 0) b)))
    where
      named : (n : ℕ) (t : Bool) → ◌≡◌ {A = ℕ} (if t then ticked v i n n else learned v i n).found n
      named n true = refl
      named n false = refl

      last : (n : ℕ) (t : Bool) → Lawful (if t then ticked v i n n else learned v i n) i n → Lawful (if t then ticked v i n n else learned v i n) (if t then ticked v i n n else learned v i n).last_word (if t then ticked v i n n else learned v i n).last_value
      last n true h = h
      last n false h = h

  cell_plan : (v : Note) (i n : ℕ) (t : Bool) → (◌≡◌ {A = Plan} (if t then missed_at v i n else learned v i n).plan v.plan) × (◌≡◌ {A = List ℕ} (if t then missed_at v i n else learned v i n).products v.products)
  cell_plan v i n true = (refl, refl)
  cell_plan v i n false = (refl, refl)

  pub cell_allows : (slots i id : ℕ) (v : Note) (c : List (ℕ × ℕ)) → IsLive v.line → 0 < i → i < word_count p → Allows (RuledBy p) slots id (v, c) i (λ n. n) (meets_cell (step slots i 0 0 none) (v, c))
  cell_allows slots i id v c live lo inside = plain_load slots i id v c (met_cell v i) (meets_cell (step slots i 0 0 none)) live inside (λ n. cell_plan v i n (nat_eq n 0)) kept_so (λ n a b. (refl, (a, named n (nat_eq n 0), last n (nat_eq n 0) b)))
    where
      kept_so : (V : ℕ → ℕ) (views : List Note) → Kept p V views → get_elem? views id ≡ some v → Kept p V (set views id (met_cell v i (V i)))
      kept_so V views kept at = dite (ℕ_discrete (V i) 0)
          (λ e. subst (λ (t : Bool). Kept p V (set views id (if t then missed_at v i (V i) else learned v i (V i)))) (sym (eq-eqb (V i) 0 e)) (idle_kept p V views kept id v at live (Some (record { word = i; step = suc v.steps })) i (V i) (V i)))
          (λ ne. subst (λ (t : Bool). Kept p V (set views id (if t then missed_at v i (V i) else learned v i (V i)))) (sym (ne_eqb (V i) 0 ne)) (learned_kept p V views kept id v at live i lo inside (omega arith)))

      named : (n : ℕ) (t : Bool) → ◌≡◌ {A = ℕ} (if t then missed_at v i n else learned v i n).found n
      named n true = refl
      named n false = refl

      last : (n : ℕ) (t : Bool) → Lawful (if t then missed_at v i n else learned v i n) i n → Lawful (if t then missed_at v i n else learned v i n) (if t then missed_at v i n else learned v i n).last_word (if t then missed_at v i n else learned v i n).last_value
      last n true h = h
      last n false h = h

  pub enter_allows : (slots id c : ℕ) (v : Note) (carried : List (ℕ × ℕ)) (b : Block) (r : ℕ) → IsLive v.line → c < p.cells → MayEnter p v b r c → Allows (RuledBy p) slots id (v, carried) (cell_at p c) (λ n. either (eqb n 0) (pack_of b r) n) (enters_cell (step slots (cell_at p c) 0 (pack_of b r) none) (v, carried))
  enter_allows slots id c v carried b r live small asks = exchange_allows slots (cell_at p c) 0 (pack_of b r) id v carried (λ _. entered v (cell_at p c) (pack_of b r)) (learned v (cell_at p c)) (enters_cell (step slots (cell_at p c) 0 (pack_of b r) none)) live (omega arith) (λ n. (refl, refl)) (λ n. (refl, refl)) (inr refl)
      (λ V W views k at is is' same. enter_kept p V views k id v at W b r c asks small is is' same live)
      (λ V views k at miss. learned_kept p V views k id v at live (cell_at p c) (omega arith) (omega arith) (omega arith))
      (λ n hit x y. ((refl, refl, refl), (λ _. refl), (λ no. absurd (no hit)), (x, sym hit, y)))
      (λ n miss x y. ((refl, refl, refl), (λ hit. absurd (miss hit)), (λ _. refl), (x, refl, y)))

  pub link_allows : (slots id r : ℕ) (v : Note) (carried : List (ℕ × ℕ)) (d : Block) (q : ℕ) → IsLive v.line → r < p.capacity → MayLink p v r d q → Allows (RuledBy p) slots id (v, carried) (link_at p r) (λ n. either (eqb n 0) (pack_of d q) n) (sets_link (step slots (link_at p r) 0 (pack_of d q) none) (v, carried))
  link_allows slots id r v carried d q live small asks = exchange_allows slots (link_at p r) 0 (pack_of d q) id v carried (λ _. wrote v (link_at p r) (pack_of d q)) (learned v (link_at p r)) (sets_link (step slots (link_at p r) 0 (pack_of d q) none)) live (omega arith) (λ n. (refl, refl)) (λ n. (refl, refl)) (inr refl)
      (λ V W views k at is is' same. link_kept p V views k id v at W r d q asks small is is' same)
      (λ V views k at miss. learned_kept p V views k id v at live (link_at p r) (omega arith) (omega arith) (omega arith))
      (λ n hit x y. ((refl, refl, refl), (λ _. refl), (λ no. absurd (no hit)), (x, sym hit, y)))
      (λ n miss x y. ((refl, refl, refl), (λ hit. absurd (miss hit)), (λ _. refl), (x, refl, y)))
