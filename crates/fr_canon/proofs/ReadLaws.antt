-- The pieces of a line, as they are read.
use Rattle.std.proofs.Common.{ℕ, suc, ◌≡◌, ◌≢◌, ◌+◌, ◌-◌, ◌<◌, ◌≤◌, inl, inr, Bool, true, false, cond, List, [], ◌∷◌, ◌++◌, length, take, drop, map, get_or, set, refl, sym, ◌∙◌, ap, arith, append_assoc, Option, Some, None}
use Rattle.std.specs.Prelude.{◌==◌, MatchOption}
use Rattle.std.specs.List.{All, flat_map}
use Rattle.std.specs.Fmt.{decimal}
use Rattle.std.proofs.lemmas.List.{append-nil, take_more_set, length-set, get_or-set_other, length-map, length-drop, map-append, drop_more, drop_all}
use Rattle.std.proofs.lemmas.List.Elements.{All-get_or, All-set}
use Rattle.std.proofs.lemmas.Grind.{flat_map-append}
use Rattle.std.proofs.lemmas.Bool.{cases_lt, eq-eqb, ne_eqb}
use Rattle.fr_canon.specs.Texts.{numbers_text}
use Rattle.fr_canon.specs.Readings.{IsNextTable}
use Rattle.fr_canon.proofs.SplitLaws.{decimal_apart, IsNoDigit}

-- numbers with a comma behind each
abbrev pub commas : List ℕ → List ℕ
commas ns = flat_map (λ n. decimal n ++ 44 ∷ []) ns

-- the first numbers are read into a table, and the rest of the text is left
pub record IsNextPart (d n : ℕ) (text rest next : List ℕ) (x : ℕ) : Type 0 where
  pub table : IsNextTable x n next
  pub before : x < d → text ≡ commas (map suc (take x next)) ++ rest
  pub after : x ≡ d → text ≡ numbers_text (map suc (take x next)) ++ 62 ∷ rest
  pub others : (ns more : List ℕ) → length ns ≡ d → All (λ m. m < n) ns → text ≡ numbers_text (map suc ns) ++ 62 ∷ more → x < d → rest ≡ numbers_text (map suc (drop x ns)) ++ 62 ∷ more

pub match_weaker : {A : Type 0} {P P' : Type 0} {Q Q' : A → Type 0} (r : Option A) → MatchOption r P Q → (P → P') → ((x : A) → Q x → Q' x) → MatchOption r P' Q'
match_weaker None h f g = f h
match_weaker (Some x) h f g = g x h

commas-last : (ns : List ℕ) (m : ℕ) → numbers_text (ns ++ m ∷ []) ≡ commas ns ++ decimal m
commas-last [] m = refl
commas-last (n ∷ []) m = sym (ap (λ t. t ++ decimal m) (append-nil (decimal n ++ 44 ∷ [])) ∙ append_assoc (decimal n) (44 ∷ []) (decimal m))
commas-last (n ∷ k ∷ ns) m = ap (λ t. decimal n ++ 44 ∷ t) (commas-last (k ∷ ns) m) ∙ sym (append_assoc (decimal n) (44 ∷ []) (commas (k ∷ ns) ++ decimal m)) ∙ sym (append_assoc (decimal n ++ 44 ∷ []) (commas (k ∷ ns)) (decimal m))

commas-push : (ns : List ℕ) (m : ℕ) → commas (ns ++ m ∷ []) ≡ commas ns ++ (decimal m ++ 44 ∷ [])
commas-push ns m = flat_map-append (λ n. decimal n ++ 44 ∷ []) ns (m ∷ []) ∙ ap (λ t. commas ns ++ t) (append-nil (decimal m ++ 44 ∷ []))

numbers_text-comma : (n : ℕ) (ns t : List ℕ) → 0 < length ns → numbers_text (n ∷ ns) ++ t ≡ decimal n ++ 44 ∷ (numbers_text ns ++ t)
numbers_text-comma n [] t l = absurd (omega arith)
numbers_text-comma n (m ∷ ns) t l = append_assoc (decimal n) (44 ∷ numbers_text (m ∷ ns)) t

-- the byte behind number x of d
abbrev end_at : ℕ → ℕ → ℕ
end_at d x = cond (x + 1 == d) 62 44

-- the first of the numbers that are left
first_number : (d x : ℕ) (ns more : List ℕ) → x < d → length ns ≡ d → (r : List ℕ) × (numbers_text (map suc (drop x ns)) ++ 62 ∷ more ≡ decimal (suc (get_or ns x 0)) ++ end_at d x ∷ r) × (x + 1 < d → r ≡ numbers_text (map suc (drop (x + 1) ns)) ++ 62 ∷ more)
first_number d x ns more l e =
    let n = get_or ns x 0 in
    let tail = drop (x + 1) ns in
    let split : drop x ns ≡ n ∷ tail = drop_more ns x 0 (omega (arith, l, e)) in
    let size : length (map suc tail) ≡ d - (x + 1) = length-map tail suc ∙ length-drop (x + 1) ns ∙ ap (λ k. k - (x + 1)) e in
    elim (cases_lt (x + 1) d) [
      | inl h ↦
          let f : (x + 1 == d) ≡ false = ne_eqb (x + 1) d (λ q. omega (arith, q, h)) in (
            numbers_text (map suc tail) ++ 62 ∷ more,
            ap (λ t. numbers_text (map suc t) ++ 62 ∷ more) split ∙ numbers_text-comma (suc n) (map suc tail) (62 ∷ more) (omega (arith, size, h)) ∙ ap (λ b. decimal (suc n) ++ cond b 62 44 ∷ (numbers_text (map suc tail) ++ 62 ∷ more)) (sym f),
            λ q. refl,
          )
      | inr h ↦
          let t : (x + 1 == d) ≡ true = eq-eqb (x + 1) d (omega (arith, l, h)) in
          let none : tail ≡ [] = drop_all (x + 1) ns (omega (arith, e, h)) in
          (more, ap (λ t. numbers_text (map suc t) ++ 62 ∷ more) (split ∙ ap (λ z. n ∷ z) none) ∙ ap (λ b. decimal (suc n) ++ cond b 62 44 ∷ more) (sym t), λ q. absurd (omega (arith, q, h)))
    ]

module _ (d n : ℕ) (text rest next : List ℕ) (x : ℕ) (h : IsNextPart d n text rest next x) (l : x < d) (few : n ≤ 1024) where
  -- no number stands there
  pub no_next : ((m : ℕ) (r : List ℕ) → 1 ≤ m → m ≤ n → rest ≢ decimal m ++ end_at d x ∷ r) → (ns more : List ℕ) → length ns ≡ d → All (λ m. m < n) ns → text ≢ numbers_text (map suc ns) ++ 62 ∷ more
  no_next none ns more e a f =
      let first = first_number d x ns more l e in
      let b : get_or ns x 0 < n = All-get_or (λ m. m < n) ns x 0 (omega (arith, e, l)) a in
      none (suc (get_or ns x 0)) first.0 (omega arith) (omega (arith, b)) (h.others ns more e a f l ∙ first.1)

  module _ (letters : d ≤ 8) (number : ℕ) (more next' : List ℕ) (some : 1 ≤ number) (most : number ≤ n) (read : rest ≡ decimal number ++ end_at d x ∷ more) (is : next' ≡ set next x (number - 1)) where
    size : x < length next
    size = omega (arith, h.table.width, l, letters)

    front : map suc (take (x + 1) next') ≡ map suc (take x next) ++ number ∷ []
    front =
        let one : suc (number - 1) ≡ number = omega (arith, some) in
        ap (λ t. map suc (take (x + 1) t)) is ∙ ap (map suc) (take_more_set next x (number - 1) size) ∙ map-append suc (take x next) ((number - 1) ∷ []) ∙ ap (λ m. map suc (take x next) ++ m ∷ []) one

    table' : IsNextTable (x + 1) n next'
    table' = record {
      width = ap length is ∙ length-set next x (number - 1) ∙ h.table.width;
      below = rw is (All-set (λ m. m < n) next x (number - 1) (omega (arith, some, most)) h.table.below);
      zeros = λ y a b. (let other : y ≢ x = λ q. omega (arith, q, a) in ap (λ t. get_or t y 0) is ∙ get_or-set_other next x y (number - 1) 0 other ∙ h.table.zeros y (omega (arith, a)) b);
    }

    pub IsNextPart-more : IsNextPart d n text more next' (x + 1)
    IsNextPart-more = record {
      table = table';
      before = λ q.
          let f : (x + 1 == d) ≡ false = ne_eqb (x + 1) d (λ z. omega (arith, z, q)) in
          let A = map suc (take x next) in
          h.before l ∙ ap (λ t. commas A ++ t) (read ∙ ap (λ b. decimal number ++ cond b 62 44 ∷ more) f)
          ∙ sym (ap (λ t. t ++ more) (ap commas front ∙ commas-push A number) ∙ append_assoc (commas A) (decimal number ++ 44 ∷ []) more ∙ ap (λ t. commas A ++ t) (append_assoc (decimal number) (44 ∷ []) more));
      after = λ q.
          let t : (x + 1 == d) ≡ true = eq-eqb (x + 1) d q in
          let A = map suc (take x next) in
          h.before l ∙ ap (λ z. commas A ++ z) (read ∙ ap (λ b. decimal number ++ cond b 62 44 ∷ more) t)
          ∙ sym (ap (λ z. z ++ 62 ∷ more) (ap numbers_text front ∙ commas-last A number) ∙ append_assoc (commas A) (decimal number) (62 ∷ more));
      others = λ ns more0 e a f q.
          let first = first_number d x ns more0 l e in
          let b : get_or ns x 0 < n = All-get_or (λ m. m < n) ns x 0 (omega (arith, e, l)) a in
          let no : IsNoDigit (end_at d x) = no_digit (x + 1 == d) in
          let same = decimal_apart (end_at d x) number (suc (get_or ns x 0)) more first.0 no (omega (arith, most, few)) (omega (arith, b, few)) (sym read ∙ h.others ns more0 e a f l ∙ first.1) in
          same.1 ∙ first.2 q;
    }
      where
        no_digit : (b : Bool) → IsNoDigit (cond b 62 44)
        no_digit true = inr (omega arith)
        no_digit false = inl (omega arith)
