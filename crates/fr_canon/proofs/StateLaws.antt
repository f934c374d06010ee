-- The line of a state, and what it tells.
use Rattle.std.proofs.Common.{ℕ, suc, ◌≡◌, ◌≢◌, ◌+◌, ◌<◌, ◌≤◌, inr, true, false, List, [], ◌∷◌, ◌++◌, take, drop, map, refl, sym, ◌∙◌, ap, arith, append_assoc, Option, Some, None}
use Rattle.std.specs.Prelude.{codes, IsSome, IfSome}
use Rattle.std.specs.List.{All}
use Rattle.std.specs.Fmt.{decimal}
use Rattle.std.proofs.lemmas.List.{append_cancel_left, length-drop, get_or-drop}
use Rattle.std.proofs.lemmas.List.Elements.{All-head, All-tail, All-map, All-take, All-weaker, All-from_get_or}
use Rattle.fr_model.specs.Permutations.{IsPermutation}
use Rattle.fr_model.specs.Automata.{State, IsState}
use Rattle.fr_machine.specs.Rows.{IsRow, state_of}
use Rattle.fr_alphabet.specs.Cycles.{cycles_text}
use Rattle.fr_canon.specs.Texts.{numbers_text, wreath_text, state_line}
use Rattle.fr_canon.specs.Readings.{Free, IsNextTable}
use Rattle.fr_canon.proofs.SplitLaws.{Free-append, Free-decimal, IsNoDigit, split_once}

pub some_is : (r : Option (List ℕ)) (p s : List ℕ) → IsSome r → IfSome r (λ q. q ≡ s) → s ≡ p → r ≡ Some p
some_is None p s h k e = (let f : false ≡ true = h in cc)
some_is (Some q) p s h k e = ap Some (k ∙ e)

-- what stands behind the number of a state
abbrev pub body : State → List ℕ
body q = numbers_text (map suc q.next) ++ 62 ∷ cycles_text q.perm

pub state_line-parts : (k : ℕ) (q : State) → state_line k q ≡ decimal k ++ (codes " = <" ++ body q)
unfolding state_line wreath_text
state_line-parts k q = simp append_assoc

-- a line with this number tells a state by what stands behind it
pub body_at : (k : ℕ) (q : State) (line rest : List ℕ) → line ≡ decimal k ++ (codes " = <" ++ rest) → line ≡ state_line k q → rest ≡ body q
body_at k q line rest e f = append_cancel_left (codes " = <") rest (body q) (append_cancel_left (decimal k) (codes " = <" ++ rest) (codes " = <" ++ body q) (sym e ∙ f ∙ state_line-parts k q))

pub Free-numbers : (c : ℕ) (ns : List ℕ) → IsNoDigit c → Free c (44 ∷ []) → All (λ n. n < 10000) ns → Free c (numbers_text ns)
Free-numbers c [] x y a = refl
Free-numbers c (n ∷ []) x y a = Free-decimal c n x (All-head (λ n. n < 10000) n [] a)
Free-numbers c (n ∷ m ∷ ns) x y a =
    Free-append c (decimal n) (44 ∷ numbers_text (m ∷ ns)) (Free-decimal c n x (All-head (λ n. n < 10000) n (m ∷ ns) a)) (Free-append c (44 ∷ []) (numbers_text (m ∷ ns)) y (Free-numbers c (m ∷ ns) x y (All-tail (λ n. n < 10000) n (m ∷ ns) a)))

pub small_numbers : (n : ℕ) (ns : List ℕ) → n ≤ 1024 → All (λ m. m < n) ns → All (λ m. m < 10000) (map suc ns)
small_numbers n ns l a = All-map (λ m. m < 10000) suc ns (All-weaker (λ m. m < n) (λ m. suc m < 10000) (λ m h. omega (arith, h, l)) ns a)

-- the cycles stand behind the numbers
pub cycles_at : (ns ms r s : List ℕ) → All (λ m. m < 10000) ns → All (λ m. m < 10000) ms → numbers_text ns ++ 62 ∷ r ≡ numbers_text ms ++ 62 ∷ s → (numbers_text ns ≡ numbers_text ms) × (r ≡ s)
cycles_at ns ms r s a b e = split_once 62 (numbers_text ns) (numbers_text ms) r s (Free-numbers 62 ns (inr (omega arith)) refl a) (Free-numbers 62 ms (inr (omega arith)) refl b) e

module _ (d n k : ℕ) (line rest next cycles : List ℕ) (few : n ≤ 1024) (some : d ≤ 8) (head : line ≡ decimal k ++ (codes " = <" ++ rest)) (table : IsNextTable d n next) (numbers : rest ≡ numbers_text (map suc (take d next)) ++ 62 ∷ cycles) where
  -- no cycles, no state
  pub no_state : ((p : List ℕ) → IsPermutation d p → cycles ≢ cycles_text p) → (q : State) → IsState d n q → line ≢ state_line k q
  no_state none q s e =
      let same = cycles_at (map suc (take d next)) (map suc q.next) cycles (cycles_text q.perm) (small_numbers n (take d next) few (All-take (λ m. m < n) d next table.below)) (small_numbers n q.next few s.below) (sym numbers ∙ body_at k q line rest head e) in
      none q.perm s.permutes same.1

  zeros : All (λ m. m ≡ 0) (drop d next)
  zeros = All-from_get_or (λ m. m ≡ 0) (drop d next) 0 (λ i l. get_or-drop d next i 0 ∙ table.zeros (d + i) (omega arith) (omega (arith, l, length-drop d next, table.width)))

  pub row_read : (p : List ℕ) → IsPermutation d p → cycles ≡ cycles_text p → IsRow d n (record { perm = p; next = next }) × (line ≡ state_line k (state_of (record { perm = p; next = next })))
  row_read p s e = (
    record { permutes = s; width = table.width; below = table.below; zeros = zeros },
    head ∙ ap (λ t. decimal k ++ (codes " = <" ++ t)) (numbers ∙ ap (λ t. numbers_text (map suc (take d next)) ++ 62 ∷ t) e ∙ ap (λ m. numbers_text (map suc (take m next)) ++ 62 ∷ cycles_text p) (sym s.degree)) ∙ sym (state_line-parts k (state_of (record { perm = p; next = next }))),
  )
