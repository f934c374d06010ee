-- Places of names, the first repeated name of a block, and the first unknown one.
use Rattle.std.proofs.Common.{ℕ, suc, ◌≡◌, ◌+◌, ◌<◌, Bool, true, false, ◌||◌, if◌then◌else◌, List, [], ◌∷◌, ◌++◌, length, take, drop, get_or, Option, Some, None, refl, sym, ◌∙◌, ap, arith, add-one}
use Rattle.std.specs.Prelude.{is_some, option_map, not}
use Rattle.std.specs.List.{list_any}
use Rattle.std.specs.Str.{bytes_eq}
use Rattle.std.proofs.lemmas.List.{take_more, map_push, length-map, length-take}
use Rattle.std.proofs.lemmas.Slice.Eq.{bytes_eq-Decides}
use Rattle.std.proofs.Math.Seq.{drop-cons}
use Rattle.fr_syntax.specs.declared.statement.Recursion.{Recursion}
use Rattle.fr_plain.specs.Blocks.{names_of, place_of}
use Rattle.fr_script.specs.declared.fault.LineFault.TheVariants as f
use Rattle.fr_plain.specs.BlockNames.{first_repeat, first_unknown, has_unknown, unknown_fault, repeat_fault, names_fault}
use Rattle.fr_eval.specs.NamePlaces.{Table, HasPlaces, has_placeless, first_placeless}

bytes_same : (m n : List ℕ) → bytes_eq m n ≡ true → m ≡ n
bytes_same m n e = (bytes_eq-Decides m n).0 e

-- the first of two choices
abbrev pub or_else : Option ℕ → Option ℕ → Option ℕ
or_else (Some k) other = Some k
or_else None other = other

-- the place of the last name
abbrev pub last_place : ℕ → Bool → Option ℕ
last_place k true = Some k
last_place k false = None

raised : (o : Option ℕ) (k : ℕ) (b : Bool) → option_map suc (or_else o (last_place k b)) ≡ or_else (option_map suc o) (last_place (suc k) b)
raised (Some j) k b = refl
raised None k true = refl
raised None k false = refl

place_of-cons : (b : Bool) (o p : Option ℕ) → o ≡ p → (if b then Some 0 else o) ≡ (if b then Some 0 else p)
place_of-cons true o p e = refl
place_of-cons false o p e = e

first_chosen : (b : Bool) (o p : Option ℕ) → or_else (if b then Some 0 else o) p ≡ (if b then Some 0 else or_else o p)
first_chosen true o p = refl
first_chosen false o p = refl

start : (b : Bool) → (if b then Some 0 else None) ≡ last_place 0 b
start true = refl
start false = refl

-- the place among one name more
pub place_of-push : (names : List (List ℕ)) (n q : List ℕ) → place_of (names ++ n ∷ []) q ≡ or_else (place_of names q) (last_place (length names) (bytes_eq n q))
place_of-push [] n q = start (bytes_eq n q)
place_of-push (m ∷ names) n q =
    place_of-cons (bytes_eq m q) _ _ (ap (option_map suc) (place_of-push names n q) ∙ raised (place_of names q) (length names) (bytes_eq n q))
    ∙ sym (first_chosen (bytes_eq m q) (option_map suc (place_of names q)) (last_place (suc (length names)) (bytes_eq n q)))

some_raised : (b : Bool) (o : Option ℕ) (c : Bool) → c ≡ is_some o → is_some (if b then Some 0 else option_map suc o) ≡ b || c
some_raised true o c e = refl
some_raised false None c e = sym e
some_raised false (Some k) c e = sym e

-- a name stands among names exactly if it has a place
pub list_any-place : (names : List (List ℕ)) (q : List ℕ) → list_any (λ n. bytes_eq n q) names ≡ is_some (place_of names q)
list_any-place [] q = refl
list_any-place (n ∷ names) q = sym (some_raised (bytes_eq n q) (place_of names q) _ (list_any-place names q))

module _ (rs : List Recursion) (i : ℕ) (d : Recursion) (l : i < length rs) where
  -- the names of one line more
  pub names_more : names_of (take (i + 1) rs) ≡ names_of (take i rs) ++ (get_or rs i d).name ∷ []
  names_more = ap names_of (take_more rs i d l) ∙ map_push (λ r. r.name) (take i rs) (get_or rs i d)

  -- a line whose name has no place among those above it
  pub first_repeat-goes : false ≡ is_some (place_of (names_of (take i rs)) (get_or rs i d).name)
      → first_repeat (names_of (take i rs)) (drop i rs) ≡ first_repeat (names_of (take (i + 1) rs)) (drop (i + 1) rs)
  first_repeat-goes none =
      rw (drop-cons rs i d l, list_any-place (names_of (take i rs)) (get_or rs i d).name, ← none, names_more, add-one) refl

  -- a line whose name has one
  pub first_repeat-stops : true ≡ is_some (place_of (names_of (take i rs)) (get_or rs i d).name)
      → first_repeat (names_of (take i rs)) (drop i rs) ≡ Some (get_or rs i d).line
  first_repeat-stops some = rw (drop-cons rs i d l, list_any-place (names_of (take i rs)) (get_or rs i d).name, ← some) refl

  -- the place of a name among them
  pub place_of-more : (q : List ℕ) (o : Option ℕ) → o ≡ place_of (names_of (take i rs)) q → false ≡ is_some (place_of (names_of (take i rs)) (get_or rs i d).name)
      → (if bytes_eq (get_or rs i d).name q then Some i else o) ≡ place_of (names_of (take (i + 1) rs)) q
  place_of-more q o e none =
      let long : length (names_of (take i rs)) ≡ i = length-map (take i rs) (λ r. r.name) ∙ length-take i rs ∙ omega arith in
      entered (bytes_eq (get_or rs i d).name q) (place_of (names_of (take i rs)) q) o e (λ same. none ∙ ap (λ (m : List ℕ). is_some (place_of (names_of (take i rs)) m)) (bytes_same (get_or rs i d).name q same))
      ∙ sym (ap (λ ns. place_of ns q) names_more ∙ place_of-push (names_of (take i rs)) (get_or rs i d).name q ∙ ap (λ k. or_else (place_of (names_of (take i rs)) q) (last_place k (bytes_eq (get_or rs i d).name q))) long)
    where
      entered : (b : Bool) (p o : Option ℕ) → o ≡ p → (b ≡ true → false ≡ is_some p) → (if b then Some i else o) ≡ or_else p (last_place i b)
      entered true None o e h = refl
      entered true (Some k) o e h = let no = h refl in cc
      entered false None o e h = e
      entered false (Some k) o e h = e

-- a test that is the same at each element
any_same : {A : Type 0} (p q : A → Bool) (xs : List A) → ((x : A) → p x ≡ q x) → list_any p xs ≡ list_any q xs
any_same p q [] e = refl
any_same p q (x ∷ xs) e = ap (λ b. b || list_any p xs) (e x) ∙ ap (λ b. q x || b) (any_same p q xs e)

-- the unknown names are those without a place
first_placeless-same : (names : List (List ℕ)) (table : Table) → HasPlaces names table → (rs : List Recursion) → first_placeless table rs ≡ first_unknown names rs
first_placeless-same names table h [] = refl
first_placeless-same names table h (r ∷ rs) =
    ap (λ b. if b then Some r.line else first_placeless table rs) (any_same (has_placeless table) (has_unknown names) r.sections (λ word. any_same _ _ word (λ s. ap not (ap is_some (h s.name) ∙ sym (list_any-place names s.name)))))
    ∙ ap (λ o. if list_any (has_unknown names) r.sections then Some r.line else o) (first_placeless-same names table h rs)

-- the faults of the names of a block
pub repeated_fault : (rs : List Recursion) (line : ℕ) → first_repeat [] rs ≡ Some line → names_fault rs ≡ Some (record { line = line; kind = f.NameTaken })
repeated_fault rs line e = ap (repeat_fault rs) e

pub placeless_fault : (rs : List Recursion) (table : Table) (line : ℕ) → first_repeat [] rs ≡ None → HasPlaces (names_of rs) table → first_placeless table rs ≡ Some line
    → names_fault rs ≡ Some (record { line = line; kind = f.UnknownName })
placeless_fault rs table line d h e = ap (repeat_fault rs) d ∙ ap unknown_fault (sym (first_placeless-same (names_of rs) table h rs) ∙ e)

pub no_fault : (rs : List Recursion) (table : Table) → first_repeat [] rs ≡ None → HasPlaces (names_of rs) table → first_placeless table rs ≡ None → names_fault rs ≡ None
no_fault rs table d h e = ap (repeat_fault rs) d ∙ ap unknown_fault (sym (first_placeless-same (names_of rs) table h rs) ∙ e)

-- without a fault no name is unknown
pub all_known : (rs : List Recursion) → names_fault rs ≡ None → first_unknown (names_of rs) rs ≡ None
all_known rs e = second (first_unknown (names_of rs) rs) (first (first_repeat [] rs) e)
  where
    first : (o : Option ℕ) → repeat_fault rs o ≡ None → unknown_fault (first_unknown (names_of rs) rs) ≡ None
    first (Some line) e = cc
    first None e = e

    second : (o : Option ℕ) → unknown_fault o ≡ None → o ≡ None
    second (Some line) e = cc
    second None e = refl
