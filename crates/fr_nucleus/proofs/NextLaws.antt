-- Next rows that are filled in from the first letter on, and what rows that are made so are.
use Rattle.std.proofs.Common.{ℕ, zero, suc, ◌≡◌, ◌≢◌, ◌+◌, ◌-◌, ◌<◌, ◌≤◌, inl, inr, List, [], ◌∷◌, ◌++◌, length, drop, set, get_or, replicate, refl, sym, ◌∙◌, ap, arith}
use Rattle.std.proofs.lemmas.List.{get_or_append_left, get_or_push, get_or-drop, length-drop, get_or-set_same, get_or-set_other, length-set, get_or-replicate}
use Rattle.std.proofs.lemmas.List.Elements.{All-get_or}
use Rattle.std.proofs.lemmas.Bool.{cases_eq}
use Rattle.fr_model.specs.Permutations.{image}
use Rattle.fr_model.specs.Words.{IsLetter}
use Rattle.fr_model.specs.Terms.{IsAlike}
use Rattle.fr_model.specs.Automata.{state_at, next_state}
use Rattle.fr_model.proofs.AutomatonLaws.{alike_by_relation, alike_states}
use Rattle.fr_model.proofs.CanonicalLaws.{perm_from_images}
use Rattle.fr_machine.specs.declared.row.Row.{Row}
use Rattle.fr_machine.specs.Rows.{states_of, row_term, IsRow, IsMachine, row_at}
use Rattle.fr_machine.proofs.RowLaws.{IsAutomaton-states_of, length-states_of, row_valid, state_is_row, next_is}

-- the first x of eight entries meet what is asked, and the others are 0
pub record IsFilling (P : ℕ → ℕ → Type 0) (next : List ℕ) (x : ℕ) : Type 0 where
  pub width : length next ≡ 8
  pub nexts : (y : ℕ) → y < x → P y (get_or next y 0)
  pub zeros : (y : ℕ) → x ≤ y → y < 8 → get_or next y 0 ≡ 0

pub IsFilling-start : (P : ℕ → ℕ → Type 0) (next : List ℕ) → next ≡ replicate 8 0 → IsFilling P next 0
IsFilling-start P next e = record { width = ap length e; nexts = λ y l. absurd (omega arith); zeros = λ y l h. ap (λ xs. get_or xs y 0) e ∙ get_or-replicate 8 y 0 0 h }

pub IsFilling-more : (P : ℕ → ℕ → Type 0) (next next' : List ℕ) (x v : ℕ) → IsFilling P next x → x < 8 → P x v → next' ≡ set next x v → IsFilling P next' (x + 1)
IsFilling-more P next next' x v h l p f =
    let here : get_or next' x 0 ≡ v = ap (λ xs. get_or xs x 0) f ∙ get_or-set_same next x v 0 (omega (arith, h.width)) in
    let other : (y : ℕ) → y ≢ x → get_or next' y 0 ≡ get_or next y 0 = λ y n. ap (λ xs. get_or xs y 0) f ∙ get_or-set_other next x y v 0 n in
    record {
      width = ap length f ∙ length-set next x v ∙ h.width;
      nexts = λ y k. elim (cases_eq y x) [ inl t ↦ rw (t, here) p | inr t ↦ rw (other y t) (h.nexts y (omega arith)) ];
      zeros = λ y k b. other y (λ t. omega arith) ∙ h.zeros y (omega arith) b;
    }

-- the rows of a list with one more
pub row_at_old : (rows rows' : List Row) (r : Row) (s : ℕ) → rows' ≡ rows ++ r ∷ [] → s < length rows → row_at rows' s ≡ row_at rows s
row_at_old rows rows' r s e l = ap (λ xs. row_at xs s) e ∙ get_or_append_left rows (r ∷ []) (record { perm = []; next = [] }) s l

pub row_at_new : (rows rows' : List Row) (r : Row) → rows' ≡ rows ++ r ∷ [] → row_at rows' (length rows) ≡ r
row_at_new rows rows' r e = ap (λ xs. row_at xs (length rows)) e ∙ get_or_push rows r (record { perm = []; next = [] }) (length rows) refl

-- rows of two machines act alike where a relation of them says that they put out the same and that it holds of their next rows
pub alike_rows : (d : ℕ) (ms ns : List Row) → IsMachine d ms → IsMachine d ns → (R : ℕ → ℕ → Type 0)
    → ((s t : ℕ) → R s t → (s < length ms) × (t < length ns) × ((row_at ms s).perm ≡ (row_at ns t).perm) × ((x : ℕ) → x < d → R (get_or (row_at ms s).next x 0) (get_or (row_at ns t).next x 0)))
    → (s t : ℕ) → R s t → IsAlike (row_term ms s) (row_term ns t)
alike_rows d ms ns m n R step s t r = alike_by_relation d (states_of ms) (states_of ns) R (IsAutomaton-states_of d ms m) (IsAutomaton-states_of d ns n) same s t r
  where
    letter : (s t x : ℕ) → R s t → IsLetter d x → (image (state_at (states_of ms) s).perm x ≡ image (state_at (states_of ns) t).perm x) × R (next_state (states_of ms) s x) (next_state (states_of ns) t x)
    letter s t zero r k = absurd (omega (arith, k.0))
    letter s t (suc x) r k =
        let p = step s t r in
        let a = state_is_row d ms m s p.0 in
        let b = state_is_row d ns n t p.1 in
        (ap (λ q. image q.perm (suc x)) a ∙ ap (λ q. image q (suc x)) p.2 ∙ sym (ap (λ q. image q.perm (suc x)) b), rw (next_is d ms m s p.0 x (omega (arith, k.1)), next_is d ns n t p.1 x (omega (arith, k.1))) (p.3 x (omega (arith, k.1))))

    same : (s t : ℕ) → R s t → (s < length (states_of ms)) × (t < length (states_of ns)) × ((x : ℕ) → IsLetter d x → (image (state_at (states_of ms) s).perm x ≡ image (state_at (states_of ns) t).perm x) × R (next_state (states_of ms) s x) (next_state (states_of ns) t x))
    same s t r = (rw (length-states_of ms) (step s t r).0, rw (length-states_of ns) (step s t r).1, λ x k. letter s t x r k)

-- and back: rows that act alike put out the same, and so do their next rows
module _ (d : ℕ) (ms ns : List Row) (m : IsMachine d ms) (n : IsMachine d ns) (s t : ℕ) (l : s < length ms) (k : t < length ns) (e : IsAlike (row_term ms s) (row_term ns t)) where
  letter : (x : ℕ) → IsLetter d x → (image (state_at (states_of ms) s).perm x ≡ image (state_at (states_of ns) t).perm x) × IsAlike (row_term ms (next_state (states_of ms) s x)) (row_term ns (next_state (states_of ns) t x))
  letter x h = alike_states d (states_of ms) (states_of ns) s t x (IsAutomaton-states_of d ms m) (IsAutomaton-states_of d ns n) (omega (arith, length-states_of ms)) (omega (arith, length-states_of ns)) h e

  pub alike_perms : (row_at ms s).perm ≡ (row_at ns t).perm
  alike_perms =
      let a = state_is_row d ms m s l in
      let b = state_is_row d ns n t k in
      perm_from_images d (row_at ms s).perm (row_at ns t).perm (row_valid d ms m s l).permutes (row_valid d ns n t k).permutes
      (λ x h. sym (ap (λ q. image q.perm x) a) ∙ (letter x h).0 ∙ ap (λ q. image q.perm x) b)

  pub alike_nexts : (x : ℕ) → x < d → IsAlike (row_term ms (get_or (row_at ms s).next x 0)) (row_term ns (get_or (row_at ns t).next x 0))
  alike_nexts x h = rw (next_is d ms m s l x h, next_is d ns n t k x h) at (letter (suc x) (omega arith, omega arith)).1

-- the entries of a row past the letters
pub row_zero : (d n : ℕ) (r : Row) → IsRow d n r → (x : ℕ) → d ≤ x → x < 8 → get_or r.next x 0 ≡ 0
row_zero d n r h x a b =
    let i = x - d in
    let at : d + i ≡ x = omega arith in
    let z = All-get_or (λ m. m ≡ 0) (drop d r.next) i 0 (omega (arith, length-drop d r.next, h.width, at)) h.zeros in
    ap (λ j. get_or r.next j 0) (sym at) ∙ sym (get_or-drop d r.next i 0) ∙ z

-- a row of a machine leads to rows
pub leads-lt : (d : ℕ) (rows : List Row) → IsMachine d rows → (s x : ℕ) → s < length rows → x < d → get_or (row_at rows s).next x 0 < length rows
leads-lt d rows m s x l h = All-get_or (λ i. i < length rows) (row_at rows s).next x 0 (omega (arith, (row_valid d rows m s l).width, m.letters)) (row_valid d rows m s l).below
