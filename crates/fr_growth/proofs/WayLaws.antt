-- Ways without a repeated row, which are short; and words that lead to a live row.
use Rattle.std.proofs.Common.{ℕ, suc, ◌≡◌, ◌<◌, ◌≤◌, ◌⊎◌, inl, inr, ◌||◌, Bool, true, false, List, [], ◌∷◌, length, get_or, refl, ap, arith, eqb}
use Rattle.std.specs.List.{IsDistinct, list_any, AllByRecursion}
use Rattle.std.proofs.lemmas.Bool.{both_ways, eqb-true}
use Rattle.std.proofs.lemmas.Map.Steps.{length-le_from_distinct_below}
use Rattle.fr_model.specs.Words.{IsWord}
use Rattle.fr_model.specs.Automata.{State, next_state, state_after, IsReached}
use Rattle.fr_machine.specs.declared.row.Row.{Row}
use Rattle.fr_machine.specs.Rows.{states_of}
use Rattle.fr_machine.specs.Minimal.{IsMinimal}
use Rattle.fr_growth.specs.Walks.{unmarked}
use Rattle.fr_growth.specs.Chains.{IsWay}
use Rattle.fr_growth.proofs.WalkLaws.{live_words, words_along}
use Rattle.fr_growth.proofs.CountLaws.{list_live, LeadsLive, list_live-leads, length-list_live}
use Rattle.fr_growth.proofs.RowLaws.{auto_next, or_cases}

-- the states along a word
abbrev pub along : List State → ℕ → List ℕ → List ℕ
along qs s [] = s ∷ []
along qs s (x ∷ w) = s ∷ along qs (next_state qs s x) w

length-along : (qs : List State) (s : ℕ) (w : List ℕ) → length (along qs s w) ≡ suc (length w)
length-along qs s [] = refl
length-along qs s (x ∷ w) = ap suc (length-along qs (next_state qs s x) w)

-- no number twice
abbrev pub Once : List ℕ → Type 0
Once [] = Unit {0}
Once (x ∷ xs) = (list_any (eqb x) xs ≡ false) × Once xs

or_none : (a b : Bool) → (a || b) ≡ false → (a ≡ false) × (b ≡ false)
or_none true b e = cc
or_none false b e = (refl, e)

none_all : (x : ℕ) (xs : List ℕ) → list_any (eqb x) xs ≡ false → AllByRecursion (λ y. eqb x y ≡ false) xs
none_all x [] e = tt
none_all x (y ∷ ys) e = let h = or_none (eqb x y) (list_any (eqb x) ys) e in (h.0, none_all x ys h.1)

distinct_once : (xs : List ℕ) → Once xs → IsDistinct eqb xs
unfolding IsDistinct
distinct_once [] h = tt
distinct_once (x ∷ xs) h = (none_all x xs h.0, distinct_once xs h.1)

-- a word from s to t that comes to no state twice
pub record IsSimple (d : ℕ) (qs : List State) (s t : ℕ) (w : List ℕ) : Type 0 where
  pub valid : IsWord d w
  pub leads : state_after qs s w ≡ t
  pub once : Once (along qs s w)

module _ (d : ℕ) (qs : List State) (t : ℕ) where
  from_there : (s q : ℕ) (w : List ℕ) → IsSimple d qs q t w → list_any (eqb s) (along qs q w) ≡ true → (v : List ℕ) × IsSimple d qs s t v
  from_there s q [] h e = elim (or_cases (eqb s q) false e) [ inl f ↦ let z = eqb-true s q f in ([], rw z h) | inr f ↦ absurd (both_ways false refl f) ]
  from_there s q (x ∷ w) h e = elim (or_cases (eqb s q) (list_any (eqb s) (along qs (next_state qs q x) w)) e) [
    | inl f ↦ let z = eqb-true s q f in (x ∷ w, rw z h)
    | inr f ↦ from_there s (next_state qs q x) w (record { valid = h.valid.1; leads = h.leads; once = h.once.1 }) f
  ]

  simple_way : (s : ℕ) (w : List ℕ) → IsWord d w → state_after qs s w ≡ t → (v : List ℕ) × IsSimple d qs s t v
  simple_way s [] h e = ([], record { valid = tt; leads = e; once = (refl, tt) })
  simple_way s (x ∷ w) h e =
      let r = simple_way (next_state qs s x) w h.1 e in
      elim (true_or_false (list_any (eqb s) (along qs (next_state qs s x) r.0))) [
        | inl f ↦ from_there s (next_state qs s x) r.0 r.1 f
        | inr f ↦ (x ∷ r.0, record { valid = (h.0, r.1.valid); leads = r.1.leads; once = (f, r.1.once) })
      ]
    where
      true_or_false : (b : Bool) → (b ≡ true) ⊎ (b ≡ false)
      true_or_false true = inl refl
      true_or_false false = inr refl

module _ (d : ℕ) (rows : List Row) (m : IsMinimal d rows) where
  along_below : (s : ℕ) (w : List ℕ) → s < length rows → (q : ℕ) → list_any (eqb q) (along (states_of rows) s w) ≡ true → q < length rows
  along_below s [] b q e = elim (or_cases (eqb q s) false e) [ inl f ↦ let z = eqb-true q s f in rw z b | inr f ↦ absurd (both_ways false refl f) ]
  along_below s (x ∷ w) b q e = elim (or_cases (eqb q s) (list_any (eqb q) (along (states_of rows) (next_state (states_of rows) s x) w)) e) [
    | inl f ↦ let z = eqb-true q s f in rw z b
    | inr f ↦ along_below (next_state (states_of rows) s x) w (auto_next d rows m.machine s x b) q f
  ]

  pub short_way : (s t : ℕ) → s < length rows → IsReached d (states_of rows) s t → (v : List ℕ) × IsWay d rows s t v
  short_way s t b r =
      let w = simple_way d (states_of rows) t s r.along r.valid r.there in
      let few = length-le_from_distinct_below (along (states_of rows) s w.0) (length rows) (distinct_once (along (states_of rows) s w.0) w.1.once) (along_below s w.0 b) in
      (w.0, record { valid = w.1.valid; leads = w.1.leads; most = omega (arith, few, length-along (states_of rows) s w.0) })

  -- a word that leads to a live row is counted
  pub counted_word : (moving : List ℕ) (s : ℕ) (w : List ℕ) → IsWord d w → unmarked moving (state_after (states_of rows) s w) ≡ false → 1 ≤ live_words d (states_of rows) (unmarked moving) (length w) s
  counted_word moving s w h e =
      let a = words_along d (states_of rows) (unmarked moving) (length w) 0 s w h (omega arith) in
      let a' = rw e at a in
      omega (arith, a')

  -- where a word is counted, the first of the list leads to a live row
  pub first_word : (moving : List ℕ) (n s : ℕ) → 1 ≤ live_words d (states_of rows) (unmarked moving) n s → LeadsLive d n (states_of rows) (unmarked moving) s (get_or (list_live d (states_of rows) (unmarked moving) n s) 0 [])
  first_word moving n s a = list_live-leads d (states_of rows) (unmarked moving) n s 0 [] (omega (arith, length-list_live d (states_of rows) (unmarked moving) n s, a))
