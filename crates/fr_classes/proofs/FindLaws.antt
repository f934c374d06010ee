-- Keys that are numbered in order, with a function that finds the number of a key.
use Rattle.std.proofs.Common.{ℕ, suc, ◌≡◌, ◌+◌, ◌<◌, ◌≤◌, max, ◌⊎◌, inl, inr, List, [], ◌∷◌, ◌++◌, length, get_or, set, replicate, Option, Some, None, refl, sym, ◌∙◌, ap, arith}
use Rattle.std.specs.Prelude.{MatchOption}
use Rattle.std.proofs.lemmas.List.{get_or_append_left, get_or_push, length_push, get_or-set_same, get_or-set_other, get_or-replicate, get_or_past, length-replicate}
use Rattle.std.proofs.lemmas.Bool.{cases_lt, cases_eq}
use Rattle.fr_classes.specs.Numberings.{IsNumberedFrom, IsNumbering, numbers_after}

pub IsNumberedFrom-push : (c : ℕ) (xs : List ℕ) (x : ℕ) → IsNumberedFrom c xs → x ≤ numbers_after c xs → IsNumberedFrom c (xs ++ x ∷ [])
IsNumberedFrom-push c [] x f h = (h, tt)
IsNumberedFrom-push c (y ∷ ys) x f h = (f.0, IsNumberedFrom-push (max c (suc y)) ys x f.1 h)

pub numbers_after-push : (c : ℕ) (xs : List ℕ) (x : ℕ) → numbers_after c (xs ++ x ∷ []) ≡ max (numbers_after c xs) (suc x)
numbers_after-push c [] x = refl
numbers_after-push c (y ∷ ys) x = numbers_after-push (max c (suc y)) ys x

-- the keys so far have these numbers, so many different ones, and are found with them
pub record Finds {K : Type 0} (keys : List K) (numbers : List ℕ) (find : K → Option ℕ) (count : ℕ) : Type 0 where
  pub as_many : length numbers ≡ length keys
  pub first : IsNumberedFrom 0 numbers
  pub counted : numbers_after 0 numbers ≡ count
  pub found : (k : ℕ) (d : K) → k < length keys → find (get_or keys k d) ≡ Some (get_or numbers k 0)
  pub below : (q : K) (n : ℕ) → find q ≡ Some n → n < count
  pub apart : (q r : K) (n : ℕ) → find q ≡ Some n → find r ≡ Some n → q ≡ r

pub Finds-none : {K : Type 0} → (find : K → Option ℕ) → ((q : K) → find q ≡ None) → Finds {K = K} [] [] find 0
Finds-none {K} find none = record {
  as_many = refl;
  first = tt;
  counted = refl;
  found = λ k d h. absurd (omega arith);
  below = λ q n h. let e = none q in cc;
  apart = λ q r n h g. let e = none q in cc;
}

-- a key that is known
pub Finds-known : {K : Type 0} → (keys : List K) (numbers : List ℕ) (find : K → Option ℕ) (count : ℕ) (key : K) (n : ℕ) → Finds keys numbers find count → find key ≡ Some n → Finds (keys ++ key ∷ []) (numbers ++ n ∷ []) find count
Finds-known {K} keys numbers find count key n h e =
    let lt : n < count = h.below key n e in
    record {
      as_many = omega (arith, length_push numbers n, length_push keys key, h.as_many);
      first = IsNumberedFrom-push 0 numbers n h.first (omega (arith, h.counted));
      counted = numbers_after-push 0 numbers n ∙ omega (arith, h.counted);
      found = λ k d l. elim (cases_lt k (length keys)) [
        | inl t ↦ rw (get_or_append_left keys (key ∷ []) d k t, get_or_append_left numbers (n ∷ []) 0 k (omega (arith, h.as_many))) (h.found k d t)
        | inr t ↦ let at : length keys ≡ k = omega (arith, length_push keys key) in rw (get_or_push keys key d k at, get_or_push numbers n 0 k (omega (arith, h.as_many))) e
      ];
      below = h.below;
      apart = h.apart;
    }

-- a new key, which is found from now on
pub Finds-new : {K : Type 0} → (keys : List K) (numbers : List ℕ) (find find' : K → Option ℕ) (count : ℕ) (key : K) → Finds keys numbers find count → find key ≡ None → find' key ≡ Some count → ((q : K) → (q ≡ key) ⊎ (find' q ≡ find q)) → Finds (keys ++ key ∷ []) (numbers ++ count ∷ []) find' (count + 1)
Finds-new {K} keys numbers find find' count key h none here others =
    record {
      as_many = omega (arith, length_push numbers count, length_push keys key, h.as_many);
      first = IsNumberedFrom-push 0 numbers count h.first (omega (arith, h.counted));
      counted = numbers_after-push 0 numbers count ∙ omega (arith, h.counted);
      found = λ k d l. elim (cases_lt k (length keys)) [
        | inl t ↦ rw (get_or_append_left keys (key ∷ []) d k t, get_or_append_left numbers (count ∷ []) 0 k (omega (arith, h.as_many)))
            (elim (others (get_or keys k d)) [ inl e ↦ let f = h.found k d t in cc (ap find e) | inr e ↦ e ∙ h.found k d t ])
        | inr t ↦ let at : length keys ≡ k = omega (arith, length_push keys key) in rw (get_or_push keys key d k at, get_or_push numbers count 0 k (omega (arith, h.as_many))) here
      ];
      below = λ q n f. elim (others q) [ inl e ↦ let m : n ≡ count = cc (ap find' e) in omega arith | inr e ↦ let m = h.below q n (sym e ∙ f) in omega (arith, m) ];
      apart = λ q r n f g. elim (others q) [
        | inl e ↦ elim (others r) [ inl u ↦ e ∙ sym u | inr u ↦ let m = h.below r n (sym u ∙ g) in let same : n ≡ count = cc (ap find' e) in absurd (omega arith) ]
        | inr e ↦ elim (others r) [ inl u ↦ let m = h.below q n (sym e ∙ f) in let same : n ≡ count = cc (ap find' u) in absurd (omega arith) | inr u ↦ h.apart q r n (sym e ∙ f) (sym u ∙ g) ]
      ];
    }

pub IsNumbering-from : {K : Type 0} → (keys : List K) (numbers : List ℕ) (find : K → Option ℕ) (count : ℕ) → Finds keys numbers find count → IsNumbering keys numbers
IsNumbering-from {K} keys numbers find count h = record {
  count = h.as_many;
  first = h.first;
  same = λ i j d a b. (
    (λ e. h.apart (get_or keys i d) (get_or keys j d) (get_or numbers i 0) (h.found i d a) (h.found j d b ∙ ap Some (sym e))),
    (λ e. let f = h.found i d a in let g = h.found j d b in cc (ap find e)),
  );
}

-- the same with a table of names
unfoldable pub NamesIn : List ℕ → List ℕ → List (Option ℕ) → ℕ → Type 0
NamesIn keys numbers names count = Finds {K = ℕ} keys numbers (λ q. get_or names q None) count

pub NamesIn-none : (n : ℕ) (names : List (Option ℕ)) → names ≡ replicate n None → NamesIn [] [] names 0
unfolding NamesIn
NamesIn-none n names e = Finds-none {K = ℕ} (λ q. get_or names q None) (λ q. rw e (elim (cases_lt q n) [ inl l ↦ get_or-replicate n q None None l | inr g ↦ get_or_past (replicate n None) q None (omega (arith, length-replicate {A = Option ℕ} n None)) ]))

pub NamesIn-more : (keys numbers : List ℕ) (names names' : List (Option ℕ)) (count key n : ℕ) → NamesIn keys numbers names count → key < length names
    → MatchOption (get_or names key None) ((n ≡ count) × (names' ≡ set names key (Some count))) (λ known. (n ≡ known) × (names' ≡ names))
    → NamesIn (keys ++ key ∷ []) (numbers ++ n ∷ []) names' (max count (n + 1))
unfolding NamesIn
NamesIn-more keys numbers names names' count key n h l x = go (get_or names key None) refl x
  where
    go : (o : Option ℕ) → get_or names key None ≡ o → MatchOption o ((n ≡ count) × (names' ≡ set names key (Some count))) (λ known. (n ≡ known) × (names' ≡ names)) → Finds {K = ℕ} (keys ++ key ∷ []) (numbers ++ n ∷ []) (λ q. get_or names' q None) (max count (n + 1))
    go None e y =
        let most : max count (n + 1) ≡ count + 1 = omega (arith, y.0) in
        rw (most, y.0, y.1) (Finds-new keys numbers (λ q. get_or names q None) (λ q. get_or (set names key (Some count)) q None) count key h e (get_or-set_same names key (Some count) None l) (λ q. elim (cases_eq q key) [ inl u ↦ inl u | inr u ↦ inr (get_or-set_other names key q (Some count) None u) ]))
    go (Some k) e y =
        let below = h.below key k e in
        let most : max count (n + 1) ≡ count = omega (arith, y.0) in
        rw (most, y.0, y.1) (Finds-known keys numbers (λ q. get_or names q None) count key k h e)

numbers_after-le : (c : ℕ) (xs : List ℕ) → IsNumberedFrom c xs → numbers_after c xs ≤ c + length xs
numbers_after-le c [] f = omega arith
numbers_after-le c (x ∷ xs) f = omega (arith, numbers_after-le (max c (suc x)) xs f.1, f.0)

pub NamesIn-count : (keys numbers : List ℕ) (names : List (Option ℕ)) (count : ℕ) → NamesIn keys numbers names count → count ≤ length keys
unfolding NamesIn
NamesIn-count keys numbers names count h = omega (arith, numbers_after-le 0 numbers h.first, h.counted, h.as_many)

pub IsNumbering-from_names : (keys numbers : List ℕ) (names : List (Option ℕ)) (count : ℕ) → NamesIn keys numbers names count → IsNumbering keys numbers
unfolding NamesIn
IsNumbering-from_names keys numbers names count h = IsNumbering-from keys numbers _ _ h
