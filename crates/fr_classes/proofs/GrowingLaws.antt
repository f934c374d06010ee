-- Hashes and classes of the rows of a machine that grows.
use Rattle.std.proofs.Common.{ℕ, zero, suc, ◌≡◌, ◌≢◌, ◌+◌, ◌<◌, ◌≤◌, ◌⊎◌, inl, inr, true, List, [], length, get_or, set, replicate, refl, sym, ◌∙◌, ap, subst, arith}
use Rattle.std.specs.List.{All}
use Rattle.std.proofs.lemmas.Bool.{cases_lt, cases_eq}
use Rattle.std.proofs.lemmas.List.{get_or-map, length-map, length-set, get_or-set_same, get_or-set_other}
use Rattle.std.proofs.lemmas.List.Elements.{All-get_or, All-set, All-from_get_or}
use Rattle.fr_machine.specs.declared.row.Row.{Row}
use Rattle.fr_classes.specs.declared.growing.GrowingClasses.{GrowingClasses}
use Rattle.fr_machine.specs.Rows.{IsMachine, row_at, IsLonger}
use Rattle.fr_classes.specs.Guesses.{IsGuess, IsStable}
use Rattle.fr_classes.specs.Refinement.{signature_of, signature_at}
use Rattle.fr_classes.specs.Hashes.{hash_of, AreHashes, AreInvariant}
use Rattle.fr_classes.specs.Growing.{hash_at, level, IsHashed, AreLevels, AreListed, IsSigned, IsGrowing}
use Rattle.fr_classes.proofs.HashLaws.{hash_same, AreInvariant-more}
use Rattle.fr_classes.proofs.KeyNumberLaws.{IsNumberingOfKeys-met}
use Rattle.fr_classes.proofs.PartitionLaws.{row_is_at, next_below, same_signature}

pub level-at : (hs : List (List ℕ)) (k s : ℕ) → s < length hs → get_or (level hs k) s 0 ≡ hash_at hs s k
level-at hs k s l = get_or-map (λ (h : List ℕ). get_or h k 0) hs s [] 0 l

pub length-level : (hs : List (List ℕ)) (k : ℕ) → length (level hs k) ≡ length hs
length-level hs k = length-map hs (λ (h : List ℕ). get_or h k 0)

-- a row has one hash by tables that agree on its next rows
pub hash_level_same : (r : Row) (hs hs' : List (List ℕ)) (k x : ℕ) → ((y : ℕ) → y < x → (get_or r.next y 0 < length hs) × (get_or r.next y 0 < length hs') × (hash_at hs' (get_or r.next y 0) k ≡ hash_at hs (get_or r.next y 0) k))
    → hash_of r (level hs' k) x ≡ hash_of r (level hs k) x
hash_level_same r hs hs' k x h = hash_same r r (level hs' k) (level hs k) x refl (λ y l. let w = h y l in level-at hs' k (get_or r.next y 0) w.1 ∙ w.2 ∙ sym (level-at hs k (get_or r.next y 0) w.0))

-- one hash is written
module _ (hs : List (List ℕ)) (s j v : ℕ) (row : s < length hs) (column : j < length (get_or hs s [])) where
  abbrev written : List (List ℕ)
  written = set hs s (set (get_or hs s []) j v)

  hash_at-here : hash_at written s j ≡ v
  hash_at-here = ap (λ h. get_or h j 0) (get_or-set_same hs s (set (get_or hs s []) j v) [] row) ∙ get_or-set_same (get_or hs s []) j v 0 column

  hash_at-elsewhere : (t i : ℕ) → (t ≢ s) ⊎ (i ≢ j) → hash_at written t i ≡ hash_at hs t i
  hash_at-elsewhere t i (inl n) = ap (λ h. get_or h i 0) (get_or-set_other hs s t (set (get_or hs s []) j v) [] n)
  hash_at-elsewhere t i (inr n) = elim (cases_eq t s) [
    | inr m ↦ ap (λ h. get_or h i 0) (get_or-set_other hs s t (set (get_or hs s []) j v) [] m)
    | inl e ↦ rw e (ap (λ h. get_or h i 0) (get_or-set_same hs s (set (get_or hs s []) j v) [] row) ∙ get_or-set_other (get_or hs s []) j i v 0 n)
  ]

pub IsHashed-none : (rows : List Row) (first k : ℕ) (hs : List (List ℕ)) → All (λ h. length h ≡ 25) hs → IsHashed rows first k first hs hs
IsHashed-none rows first k hs w = record { count = refl; wide = w; others = λ s j e. refl; new = λ s a b. absurd (omega arith) }

-- one row more has its hash
pub IsHashed-more : (rows : List Row) (first k s : ℕ) (hs0 hs : List (List ℕ)) (v : ℕ) → IsHashed rows first k s hs0 hs → s < length hs → first ≤ s → k < 24
    → ((x : ℕ) → x < length (row_at rows s).perm → get_or (row_at rows s).next x 0 < length hs) → v ≡ hash_of (row_at rows s) (level hs k) (length (row_at rows s).perm)
    → IsHashed rows first k (s + 1) hs0 (set hs s (set (get_or hs s []) (k + 1) v))
IsHashed-more rows first k s hs0 hs v h l f small closed e =
    let wide : length (get_or hs s []) ≡ 25 = All-get_or (λ h. length h ≡ 25) hs s [] l h.wide in
    let column : k + 1 < length (get_or hs s []) = omega (arith, wide) in
    let other = hash_at-elsewhere hs s (k + 1) v l column in
    record {
      count = length-set hs s (set (get_or hs s []) (k + 1) v) ∙ h.count;
      wide = All-set (λ h. length h ≡ 25) hs s (set (get_or hs s []) (k + 1) v) (length-set (get_or hs s []) (k + 1) v ∙ wide) h.wide;
      others = λ t j c. elim c [
        | inl a ↦ other t j (inl (omega arith)) ∙ h.others t j (inl a)
        | inr (inl a) ↦ other t j (inl (omega arith)) ∙ h.others t j (inr (inl (omega arith)))
        | inr (inr a) ↦ other t j (inr a) ∙ h.others t j (inr (inr a))
      ];
      new = λ t a b. elim (cases_lt t s) [
        | inl c ↦ other t (k + 1) (inl (omega arith)) ∙ h.new t a c
        | inr c ↦
            let at : t ≡ s = omega arith in
            rw at (hash_at-here hs s (k + 1) v l column ∙ e ∙ hash_level_same (row_at rows s) hs0 hs k (length (row_at rows s).perm) (λ y m. (omega (arith, closed y m, h.count), closed y m, h.others (get_or (row_at rows s).next y 0) k (inr (inr (omega arith))))))
      ];
    }

-- rows behind the first have their hashes for words of at most k letters
pub record AreLevelsTo (rows : List Row) (first k : ℕ) (hs0 hs : List (List ℕ)) : Type 0 where
  pub count : length hs ≡ length rows
  pub wide : All (λ h. length h ≡ 25) hs
  pub old : (s j : ℕ) → s < first → hash_at hs s j ≡ hash_at hs0 s j
  pub zeros : (s : ℕ) → first ≤ s → s < length rows → hash_at hs s 0 ≡ 0
  pub each : (j s : ℕ) → j < k → first ≤ s → s < length rows → hash_at hs s (j + 1) ≡ hash_of (row_at rows s) (level hs j) (length (row_at rows s).perm)

pub AreLevelsTo-start : (rows : List Row) (hs0 hs : List (List ℕ)) → All (λ h. length h ≡ 25) hs0 → length hs ≡ length rows → AreListed hs0 hs → ((s : ℕ) → length hs0 ≤ s → s < length rows → get_or hs s [] ≡ replicate 25 0) → AreLevelsTo rows (length hs0) 0 hs0 hs
AreLevelsTo-start rows hs0 hs wide count kept zeros = record {
  count = count;
  wide = All-from_get_or (λ h. length h ≡ 25) hs [] (λ s l. elim (cases_lt s (length hs0)) [
    | inl a ↦ ap length (kept.same s a) ∙ All-get_or (λ h. length h ≡ 25) hs0 s [] a wide
    | inr a ↦ ap length (zeros s a (omega (arith, count)))
  ]);
  old = λ s j l. ap (λ h. get_or h j 0) (kept.same s l);
  zeros = λ s a b. ap (λ h. get_or h 0 0) (zeros s a b);
  each = λ j s l a b. absurd (omega arith);
}

-- one letter more
pub AreLevelsTo-more : (d : ℕ) (rows : List Row) → IsMachine d rows → (first k : ℕ) (hs0 hs hs' : List (List ℕ)) → AreLevelsTo rows first k hs0 hs → IsHashed rows first k (length rows) hs hs' → AreLevelsTo rows first (k + 1) hs0 hs'
AreLevelsTo-more d rows m first k hs0 hs hs' h g =
    let same : (s j : ℕ) → s < length rows → j ≤ k → hash_of (row_at rows s) (level hs' j) (length (row_at rows s).perm) ≡ hash_of (row_at rows s) (level hs j) (length (row_at rows s).perm) =
    λ s j l b. hash_level_same (row_at rows s) hs hs' j (length (row_at rows s).perm) (λ y q.
    let below = next_below d rows m s y l (omega (arith, (row_is_at d rows m s l).permutes.degree)) in
    (omega (arith, below, h.count), omega (arith, below, h.count, g.count), g.others (get_or (row_at rows s).next y 0) j (inr (inr (omega arith))))) in
    record {
      count = g.count ∙ h.count;
      wide = g.wide;
      old = λ s j l. g.others s j (inl l) ∙ h.old s j l;
      zeros = λ s a b. g.others s 0 (inr (inr (omega arith))) ∙ h.zeros s a b;
      each = λ j s l a b. elim (cases_lt j k) [
        | inl c ↦ g.others s (j + 1) (inr (inr (omega arith))) ∙ h.each j s c a b ∙ sym (same s j b (omega arith))
        | inr c ↦ let at : j ≡ k = omega arith in rw at (g.new s a b ∙ sym (same s k b (omega arith)))
      ];
    }

-- all letters
pub AreLevels-grown : (d : ℕ) (old rows : List Row) → IsMachine d rows → (depth : ℕ) (hs0 hs : List (List ℕ)) → AreLevels old hs0 depth → IsLonger old rows → AreLevelsTo rows (length hs0) depth hs0 hs → AreLevels rows hs depth
AreLevels-grown d old rows m depth hs0 hs h w g = record {
  closed = λ s x a b. next_below d rows m s x a (omega (arith, (row_is_at d rows m s a).permutes.degree));
  count = g.count;
  wide = g.wide;
  zeros = λ s l. elim (cases_lt s (length hs0)) [
    | inl a ↦ g.old s 0 a ∙ h.zeros s (omega (arith, h.count))
    | inr a ↦ g.zeros s a l
  ];
  each = λ k s b l. elim (cases_lt s (length hs0)) [
    | inr a ↦ g.each k s b a l
    | inl a ↦
        let inside : s < length old = omega (arith, h.count) in
        let P : Row → Type 0 = λ r. (x : ℕ) → x < length r.perm → get_or r.next x 0 < length old in
        let closed = subst P (sym (w.same s inside)) (λ x q. h.closed s x inside q) in
        g.old s (k + 1) a
        ∙ h.each k s b inside
        ∙ ap (λ r. hash_of r (level hs0 k) (length r.perm)) (sym (w.same s inside))
        ∙ sym (hash_level_same (row_at rows s) hs0 hs k (length (row_at rows s).perm) (λ y q.
        (omega (arith, closed y q, h.count), omega (arith, closed y q, w.least, g.count), g.old (get_or (row_at rows s).next y 0) k (omega (arith, closed y q, h.count)))))
  ];
}

-- the same rows with hashes for more letters
pub AreLevelsTo-same : (rows : List Row) (depth : ℕ) (hs : List (List ℕ)) → AreLevels rows hs depth → AreLevelsTo rows 0 depth hs hs
AreLevelsTo-same rows depth hs h = record {
  count = h.count;
  wide = h.wide;
  old = λ s j l. refl;
  zeros = λ s a b. h.zeros s b;
  each = λ j s l a b. h.each j s l b;
}

pub AreLevels-deepened : (d : ℕ) (rows : List Row) → IsMachine d rows → (depth : ℕ) (hs0 hs : List (List ℕ)) → AreLevelsTo rows 0 depth hs0 hs → AreLevels rows hs depth
AreLevels-deepened d rows m depth hs0 hs g = record {
  closed = λ s x a b. next_below d rows m s x a (omega (arith, (row_is_at d rows m s a).permutes.degree));
  count = g.count;
  wide = g.wide;
  zeros = λ s l. g.zeros s (omega arith) l;
  each = λ k s b l. g.each k s b (omega arith) l;
}

-- rows that act alike have one hash
module _ (d : ℕ) (rows : List Row) (m : IsMachine d rows) (hs : List (List ℕ)) (depth : ℕ) (h : AreLevels rows hs depth) where
  pub AreInvariant-level : (k : ℕ) → k ≤ depth → AreInvariant rows (level hs k)
  AreInvariant-level zero l = λ s t a b e. level-at hs 0 s (omega (arith, h.count)) ∙ h.zeros s a ∙ sym (level-at hs 0 t (omega (arith, h.count)) ∙ h.zeros t b)
  AreInvariant-level (suc k) l =
      let e : k + 1 ≡ suc k = omega arith in
      let more : AreHashes rows (level hs k) (level hs (k + 1)) = record {
        count = length-level hs (k + 1) ∙ h.count;
        each = λ s a. level-at hs (k + 1) s (omega (arith, h.count)) ∙ h.each k s (omega arith) a;
      } in
      subst (λ n. AreInvariant rows (level hs n)) e (AreInvariant-more d rows m (level hs k) (level hs (k + 1)) (AreInvariant-level k (omega arith)) more)

module _ (d : ℕ) (rows : List Row) (m : IsMachine d rows) (g : GrowingClasses) (h : IsGrowing rows g) where
  pub IsGuess-growing : IsGuess rows g.of.items (length g.walk.keys.items)
  IsGuess-growing =
      let hs = g.hashes.items in
      let size : length rows ≡ length (level hs g.depth) = sym (length-level hs g.depth ∙ h.levels.count) in
      let n = IsNumberingOfKeys-met (level hs g.depth) g.of.items g.walk (length rows) h.sparse h.met size in
      record {
        size = h.met.size;
        first = h.met.first;
        below = n.below;
        used = n.used;
        alike = λ s t a b e. (n.numbering.same s t 0 (omega (arith, size)) (omega (arith, size))).1 (AreInvariant-level d rows m hs g.depth h.levels g.depth (omega arith) s t a b e);
      }

  pub IsStable-growing : g.stable ≡ true → IsStable rows g.of.items
  IsStable-growing e s t a b f = sym (h.signed e s a).1 ∙ ap (λ c. get_or g.known.items c []) f ∙ (h.signed e t b).1

-- the signature of a row stays, as its next rows keep their classes
pub IsSigned-grown : (d : ℕ) (old rows : List Row) → IsMachine d rows → IsLonger old rows → ((s x : ℕ) → s < length old → x < length (row_at old s).perm → get_or (row_at old s).next x 0 < length old)
    → (of of' : List ℕ) (known known' : List (List ℕ)) → ((s : ℕ) → s < length old → get_or of' s 0 ≡ get_or of s 0) → AreListed known known' → (s : ℕ) → s < length old → IsSigned old of known s → IsSigned rows of' known' s
IsSigned-grown d old rows m w closed of of' known known' same kept s l h =
    let r = row_at rows s in
    let i = row_is_at d rows m s (omega (arith, w.least)) in
    let P : Row → Type 0 = λ r. (x : ℕ) → x < length r.perm → get_or r.next x 0 < length old in
    let inside = subst P (sym (w.same s l)) (λ x q. closed s x l q) in
    let stays : signature_at old of s ≡ signature_at rows of' s =
    ap (signature_of of) (sym (w.same s l))
    ∙ same_signature d (length rows) r r m.letters i i of of' refl (λ k q. sym (same (get_or r.next k 0) (inside k (omega (arith, i.permutes.degree))))) in
    (omega (arith, same s l, h.0, kept.least), ap (λ c. get_or known' c []) (same s l) ∙ kept.same (get_or of s 0) h.0 ∙ h.1 ∙ stays)
