-- A block whose names have no fault, read by the places of its names, is the system of the block.
use Rattle.std.proofs.Common.{ℕ, suc, ◌≡◌, ◌<◌, ◌≤◌, Bool, true, false, ◌||◌, if◌then◌else◌, List, [], ◌∷◌, length, map, Option, Some, None, refl, sym, ◌∙◌, ap, subst, arith}
use Rattle.std.specs.Prelude.{not, is_some, IsSome, option_map, unwrap_or}
use Rattle.std.specs.List.{All, AllByRecursion, list_any}
use Rattle.std.specs.Str.{bytes_eq}
use Rattle.std.proofs.lemmas.List.{length-map}
use Rattle.std.proofs.lemmas.List.Elements.{All-nil, All-cons, All-head, All-tail, All-map, All-weaker}
use Rattle.fr_model.specs.Systems.{Factor, Wreath, IsWreath, IsSystem}
use Rattle.fr_syntax.specs.declared.statement.Recursion.{Recursion}
use Rattle.fr_syntax.specs.declared.statement.SecName.{SecName}
use Rattle.fr_syntax.specs.Fits.{FitsRecursion}
use Rattle.fr_block.specs.Blocks.{IsBlock}
use Rattle.fr_plain.specs.Blocks.{names_of, place_of, factor_of, wreath_of_recursion, block_system}
use Rattle.fr_plain.specs.BlockNames.{has_unknown, first_unknown, names_fault}
use Rattle.fr_eval.specs.NamePlaces.{Table, place_at, HasPlaces, ArePlaced, placed, placed_recursion}
use Rattle.fr_eval.proofs.NameLaws.{list_any-place, all_known}

-- each name of a section is one of these names
abbrev AreKnown : List (List ℕ) → List SecName → Type 0
AreKnown names word = All (λ s. IsSome (place_of names s.name)) word

neither_first : (a b : Bool) → a || b ≡ false → a ≡ false
neither_first true b e = cc
neither_first false b e = refl

neither_second : (a b : Bool) → a || b ≡ false → b ≡ false
neither_second true b e = cc
neither_second false b e = e

not_false : (b : Bool) → not b ≡ false → b ≡ true
not_false true e = refl
not_false false e = cc

known_word : (names : List (List ℕ)) (word : List SecName) → has_unknown names word ≡ false → AreKnown names word
known_word names [] e = All-nil (λ (s : SecName). IsSome (place_of names s.name))
known_word names (s ∷ word) e =
    All-cons (λ (s : SecName). IsSome (place_of names s.name)) s word
    (sym (list_any-place names s.name) ∙ not_false _ (neither_first _ _ e))
    (known_word names word (neither_second _ _ e))

known_words : (names : List (List ℕ)) (words : List (List SecName)) → list_any (has_unknown names) words ≡ false → All (AreKnown names) words
known_words names [] e = All-nil (AreKnown names)
known_words names (word ∷ words) e = All-cons (AreKnown names) word words (known_word names word (neither_first _ _ e)) (known_words names words (neither_second _ _ e))

known_here : (b : Bool) (line : ℕ) (o : Option ℕ) → (if b then Some line else o) ≡ None → b ≡ false
known_here true line o e = cc
known_here false line o e = refl

known_later : (b : Bool) (line : ℕ) (o : Option ℕ) → (if b then Some line else o) ≡ None → o ≡ None
known_later true line o e = cc
known_later false line o e = e

known_lines : (names : List (List ℕ)) (rs : List Recursion) → first_unknown names rs ≡ None → All (λ r. All (AreKnown names) r.sections) rs
known_lines names [] e = All-nil (λ (r : Recursion). All (AreKnown names) r.sections)
known_lines names (r ∷ rs) e =
    All-cons (λ (r : Recursion). All (AreKnown names) r.sections) r rs (known_words names r.sections (known_here _ _ _ e)) (known_lines names rs (known_later _ _ _ e))

-- a place lies within the table
place_of-lt : (names : List (List ℕ)) (q : List ℕ) → IsSome (place_of names q) → unwrap_or (place_of names q) (length names) < length names
place_of-lt [] q e = cc
place_of-lt (n ∷ names) q e = at (bytes_eq n q) (place_of names q) (place_of-lt names q) e
  where
    at : (b : Bool) (o : Option ℕ) → (IsSome o → unwrap_or o (length names) < length names) → IsSome (if b then Some 0 else option_map suc o)
        → unwrap_or (if b then Some 0 else option_map suc o) (suc (length names)) < suc (length names)
    at true o h e = omega arith
    at false None h e = cc
    at false (Some k) h e = omega (arith, h refl)

module _ (names : List (List ℕ)) (table : Table) (h : HasPlaces names table) where
  placed_word : (word : List SecName) → AreKnown names word → ArePlaced table word
  placed_word word k = All-weaker (λ (s : SecName). IsSome (place_of names s.name)) (λ (s : SecName). IsSome (place_at table s.name)) (λ s e. ap is_some (h s.name) ∙ e) word k

  placed_line : (r : Recursion) → All (AreKnown names) r.sections → All (ArePlaced table) r.sections
  placed_line r k = All-weaker (AreKnown names) (ArePlaced table) placed_word r.sections k

  same_place : (o p : Option ℕ) → o ≡ p → IsSome p → unwrap_or o 0 ≡ unwrap_or p (length names)
  same_place o (Some k) e s = ap (λ x. unwrap_or x 0) e
  same_place o None e s = cc

  same_word : (word : List SecName) → AreKnown names word → map (placed table) word ≡ map (factor_of names) word
  same_word [] k = refl
  same_word (s ∷ word) k =
      ap (λ (n : ℕ). record { name = n; inverse = s.inverse } ∷ map (placed table) word) (same_place (place_at table s.name) (place_of names s.name) (h s.name) (All-head (λ (s : SecName). IsSome (place_of names s.name)) s word k))
      ∙ ap (λ (l : List Factor). factor_of names s ∷ l) (same_word word (All-tail (λ (s : SecName). IsSome (place_of names s.name)) s word k))

  same_words : (words : List (List SecName)) → All (AreKnown names) words → map (λ word. map (placed table) word) words ≡ map (λ word. map (factor_of names) word) words
  same_words [] k = refl
  same_words (word ∷ words) k =
      ap (λ (l : List Factor). l ∷ map (λ word. map (placed table) word) words) (same_word word (All-head (AreKnown names) word words k))
      ∙ ap (λ (l : List (List Factor)). map (factor_of names) word ∷ l) (same_words words (All-tail (AreKnown names) word words k))

  same_lines : (rs : List Recursion) → All (λ r. All (AreKnown names) r.sections) rs → map (placed_recursion table) rs ≡ map (wreath_of_recursion names) rs
  same_lines [] k = refl
  same_lines (r ∷ rs) k =
      ap (λ (l : List (List Factor)). record { perm = r.perm; sections = l } ∷ map (placed_recursion table) rs) (same_words r.sections (All-head (λ (r : Recursion). All (AreKnown names) r.sections) r rs k))
      ∙ ap (λ (l : List Wreath). wreath_of_recursion names r ∷ l) (same_lines rs (All-tail (λ (r : Recursion). All (AreKnown names) r.sections) r rs k))

module _ (rs : List Recursion) (none : names_fault rs ≡ None) where
  known : All (λ r. All (AreKnown (names_of rs)) r.sections) rs
  known = known_lines (names_of rs) rs (all_known rs none)

  pub are_placed : (table : Table) → HasPlaces (names_of rs) table → All (λ r. All (ArePlaced table) r.sections) rs
  are_placed table h = All-weaker (λ (r : Recursion). All (AreKnown (names_of rs)) r.sections) (λ (r : Recursion). All (ArePlaced table) r.sections) (placed_line (names_of rs) table h) rs known

  pub same_system : (table : Table) → HasPlaces (names_of rs) table → map (placed_recursion table) rs ≡ block_system rs
  same_system table h = same_lines (names_of rs) table h rs known

  length-names : length (names_of rs) ≡ length rs
  length-names = length-map rs (λ r. r.name)

  pub length-system : length (block_system rs) ≡ length rs
  length-system = length-map rs (wreath_of_recursion (names_of rs))

  known_factors : (word : List SecName) → AreKnown (names_of rs) word → AllByRecursion (λ (f : Factor). f.name < length rs) (map (factor_of (names_of rs)) word)
  known_factors [] k = tt
  known_factors (s ∷ word) k = (
    omega (arith, place_of-lt (names_of rs) s.name (All-head (λ (s : SecName). IsSome (place_of (names_of rs) s.name)) s word k), length-names),
    known_factors word (All-tail (λ (s : SecName). IsSome (place_of (names_of rs) s.name)) s word k),
  )

  known_sections : (words : List (List SecName)) → All (AreKnown (names_of rs)) words → AllByRecursion (AllByRecursion (λ (f : Factor). f.name < length rs)) (map (λ word. map (factor_of (names_of rs)) word) words)
  known_sections [] k = tt
  known_sections (word ∷ words) k =
      (known_factors word (All-head (AreKnown (names_of rs)) word words k), known_sections words (All-tail (AreKnown (names_of rs)) word words k))

  IsWreath-line : (d : ℕ) (r : Recursion) → FitsRecursion d r → All (AreKnown (names_of rs)) r.sections → IsWreath d (length rs) (wreath_of_recursion (names_of rs) r)
  IsWreath-line d r f k = record {
    permutes = f.permutes;
    arity = length-map r.sections (λ word. map (factor_of (names_of rs)) word) ∙ f.arity;
    known = known_sections r.sections k;
  }

  IsWreath-lines : (d : ℕ) (lines : List Recursion) → All (FitsRecursion d) lines → All (λ r. All (AreKnown (names_of rs)) r.sections) lines
      → All (λ r. IsWreath d (length rs) (wreath_of_recursion (names_of rs) r)) lines
  IsWreath-lines d [] f k = All-nil (λ (r : Recursion). IsWreath d (length rs) (wreath_of_recursion (names_of rs) r))
  IsWreath-lines d (r ∷ lines) f k =
      All-cons (λ (r : Recursion). IsWreath d (length rs) (wreath_of_recursion (names_of rs) r)) r lines
      (IsWreath-line d r (All-head (FitsRecursion d) r lines f) (All-head (λ (r : Recursion). All (AreKnown (names_of rs)) r.sections) r lines k))
      (IsWreath-lines d lines (All-tail (FitsRecursion d) r lines f) (All-tail (λ (r : Recursion). All (AreKnown (names_of rs)) r.sections) r lines k))

  pub IsSystem-block : (d : ℕ) → All (FitsRecursion d) rs → IsSystem d (block_system rs)
  IsSystem-block d f =
      subst (λ (n : ℕ). All (IsWreath d n) (block_system rs)) (sym length-system) (All-map (IsWreath d (length rs)) (wreath_of_recursion (names_of rs)) rs (IsWreath-lines d rs f known))

  pub IsBlock-block : (d : ℕ) → 2 ≤ d → d ≤ 8 → length rs ≤ 4095 → All (FitsRecursion d) rs → IsBlock d (block_system rs)
  IsBlock-block d few letters most f = record { few = few; letters = letters; system = IsSystem-block d f; most = omega (arith, length-system, most) }
