-- Words that are numbered: no two numbers have one word, and words that come keep the numbers of others.
use Rattle.std.proofs.Common.{ℕ, ◌≡◌, ◌<◌, ◌≤◌, ◌⊎◌, inl, inr, Bool, true, false, List, [], ◌∷◌, ◌++◌, length, map, get_or, slice_get, Some, refl, sym, subst, ◌∙◌, ap, arith, true≢false, if◌then◌else◌, eqb, ◌&&◌}
use Rattle.std.specs.List.{IsDistinct, list_any, position}
use Rattle.std.specs.Cmp.Lexicographic.{pointwise}
use Rattle.std.proofs.lemmas.List.{length-map, get_or-map, map_push}
use Rattle.std.proofs.lemmas.Option.{get_or_from_slice_get}
use Rattle.std.proofs.lemmas.List.Quantifiers.{position-Some}
use Rattle.std.proofs.lemmas.Map.Keys.{apart_from_distinct}
use Rattle.std.proofs.lemmas.Bool.{cases_Bool, cases_lt, and_parts, eqb-true, eq-eqb}
use mathlib.Core.Bool.{beq}
use Rattle.indexmap.specs.IndexSet.{insert_key}
use Rattle.fr_model.specs.Systems.{Factor}
use Rattle.fr_block.specs.declared.block.Factor.{Factor as Member}
use Rattle.fr_block.specs.Blocks.{factor_of, product_of}
use Rattle.fr_block.specs.Closures.{AreApart, IsNumbered, IsPassed}

member_of : Factor → Member
member_of f = record { name = f.name; inverse = f.inverse }

members_of : (ms : List Member) → map member_of (product_of ms) ≡ ms
unfolding member_of
members_of [] = refl
members_of (m ∷ ms) = ap (λ l. m ∷ l) (members_of ms)

-- equal products have equal members
product_of-same : (ms ns : List Member) → product_of ms ≡ product_of ns → ms ≡ ns
product_of-same ms ns e = sym (members_of ms) ∙ ap (map member_of) e ∙ members_of ns

-- members are compared by name and by whether they are inverses
abbrev pub member_eq : Member → Member → Bool
member_eq m n = eqb m.name n.name && beq m.inverse n.inverse

beq_same : (b : Bool) → beq b b ≡ true
beq_same true = refl
beq_same false = refl

beq_exact : (a b : Bool) → beq a b ≡ true → a ≡ b
beq_exact true true h = refl
beq_exact false false h = refl
beq_exact true false h = cc
beq_exact false true h = cc

pub member_same : (m : Member) → member_eq m m ≡ true
member_same m = rw (eq-eqb m.name m.name refl) (beq_same m.inverse)

pub member_exact : (m n : Member) → member_eq m n ≡ true → m ≡ n
member_exact m n h =
    let p = and_parts (eqb m.name n.name) (beq m.inverse n.inverse) h in
    rw (eqb-true m.name n.name p.0, beq_exact m.inverse n.inverse p.1) refl

module _ (e : Member → Member → Bool) (same : (m : Member) → e m m ≡ true) (exact : (m n : Member) → e m n ≡ true → m ≡ n) where
  pointwise_same : (ms : List Member) → pointwise e ms ms ≡ true
  pointwise_same [] = refl
  pointwise_same (m ∷ ms) = rw (same m) (pointwise_same ms)

  pointwise_exact : (ms ns : List Member) → pointwise e ms ns ≡ true → ms ≡ ns
  pointwise_exact [] [] h = refl
  pointwise_exact [] (n ∷ ns) h = cc
  pointwise_exact (m ∷ ms) [] h = cc
  pointwise_exact (m ∷ ms) (n ∷ ns) h =
      let p = and_parts (e m n) (pointwise e ms ns) h in
      rw (exact m n p.0, pointwise_exact ms ns p.1) refl

  module _ {K : Type 0} (items : K → List Member) where
    abbrev word : K → List Factor
    word k = product_of (items k)

    abbrev equal : K → K → Bool
    equal a b = pointwise e (items a) (items b)

    unlike : (ks : List K) (d : K) (i j : ℕ) → IsDistinct equal ks → i < j → j < length ks → get_or (map word ks) i [] ≡ get_or (map word ks) j [] → ⊥
    unlike ks d i j u l k h =
        let a = get_or ks i d in
        let b = get_or ks j d in
        let w : word a ≡ word b = sym (get_or-map word ks i d [] (omega (arith, l, k))) ∙ h ∙ get_or-map word ks j d [] k in
        let m : items a ≡ items b = product_of-same (items a) (items b) w in
        let t : equal a b ≡ true = ap (λ ms. pointwise e (items a) ms) (sym m) ∙ pointwise_same (items a) in
        true≢false (sym t ∙ apart_from_distinct equal ks i j d u l k)

    pub AreApart-distinct : (ks : List K) → IsDistinct equal ks → AreApart (map word ks)
    AreApart-distinct [] u i j l k h = absurd (omega (arith, l))
    AreApart-distinct (d ∷ ks) u i j l k h = elim (cases_lt i j) [
      | inl c ↦ absurd (unlike (d ∷ ks) d i j u c (rw (length-map (d ∷ ks) word) at k) h)
      | inr c ↦ elim (cases_lt j i) [
        | inl f ↦ absurd (unlike (d ∷ ks) d j i u f (rw (length-map (d ∷ ks) word) at l) (sym h))
        | inr f ↦ omega (arith, c, f)
      ]
    ]

    -- a word that is looked up
    found_at : (ks : List K) (ms : List Member) (n : ℕ) → position (λ k. pointwise e ms (items k)) ks ≡ Some n → (n < length ks) × (get_or (map word ks) n [] ≡ product_of ms)
    found_at [] ms n f = cc
    found_at (d ∷ ks) ms n f =
        let p = position-Some (λ k. pointwise e ms (items k)) (d ∷ ks) n d f in
        (p.0, get_or-map word (d ∷ ks) n d [] p.0 ∙ ap product_of (sym (pointwise_exact ms (items (get_or (d ∷ ks) n d)) p.1)))

    pub word_found : (ks : List K) (ws : List (List Factor)) (ms : List Member) (n : ℕ) → map word ks ≡ ws → position (λ k. pointwise e ms (items k)) ks ≡ Some n → length ws ≤ 8192 → length ms ≤ 4096 → IsNumbered ws ws (product_of ms) n
    word_found ks ws ms n is f few short =
        let p = found_at ks ms n f in
        record {
          below = omega (arith, p.0, length-map ks word, ap length is);
          is = subst (λ us. get_or us n [] ≡ product_of ms) is p.1;
          keeps = inl refl;
          few = few;
          short = rw (length-map ms factor_of) short;
        }

    -- the word at the number that was given
    pub stored_word : (ks : List K) (n : ℕ) (k v : K) → n < length ks → slice_get ks n ≡ Some k → equal v k ≡ true → get_or (map word ks) n [] ≡ word v
    stored_word ks n k v l g h = get_or-map word ks n k [] l ∙ ap word (get_or_from_slice_get ks n k k g) ∙ ap product_of (sym (pointwise_exact (items v) (items k) h))

    pub kept_words : (ks ks' : List K) (v : K) → ks' ≡ insert_key equal ks v → (map word ks' ≡ map word ks) ⊎ (map word ks' ≡ map word ks ++ word v ∷ [])
    kept_words ks ks' v h = elim (cases_Bool (list_any (equal v) ks)) [
      | inl b ↦ inl (ap (map word) (h ∙ ap (λ (c : Bool). if c then ks else ks ++ v ∷ []) b))
      | inr b ↦ inr (ap (map word) (h ∙ ap (λ (c : Bool). if c then ks else ks ++ v ∷ []) b) ∙ map_push word ks v)
    ]

    pub word_numbered : (ks ks' : List K) (ws : List (List Factor)) (v : K) (n : ℕ) → map word ks ≡ ws → ks' ≡ insert_key equal ks v → n < length ks' → ((k : K) × (slice_get ks' n ≡ Some k) × (equal v k ≡ true)) → length ks' ≤ 8192 → length (items v) ≤ 4096 → IsNumbered ws (map word ks') (word v) n
    word_numbered ks ks' ws v n is h l g few short = record {
      below = rw (length-map ks' word) l;
      is = stored_word ks' n g.0 v l g.1 g.2;
      keeps = subst (λ us. (map word ks' ≡ us) ⊎ (map word ks' ≡ us ++ word v ∷ [])) is (kept_words ks ks' v h);
      few = rw (length-map ks' word) few;
      short = rw (length-map (items v) factor_of) short;
    }

    pub word_passed : (ks ks' : List K) (ws : List (List Factor)) (v : K) → map word ks ≡ ws → ks' ≡ insert_key equal ks v → length ws ≤ 8192 → 8192 < length ks' → IsDistinct equal ks' → IsPassed ws (map word ks') (word v)
    word_passed ks ks' ws v is h few many u = by (subst (λ us. (map word ks' ≡ us) ⊎ (map word ks' ≡ us ++ word v ∷ [])) is (kept_words ks ks' v h))
      where
        by : (map word ks' ≡ ws) ⊎ (map word ks' ≡ ws ++ word v ∷ []) → IsPassed ws (map word ks') (word v)
        by (inl k) = absurd (omega (arith, ap length k, length-map ks' word, few, many))
        by (inr k) = inr (k, rw (length-map ks' word) many, AreApart-distinct ks' u)
