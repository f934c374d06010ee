-- Lists of predecessors that share one table of links.
use Rattle.std.proofs.Common.{ℕ, zero, suc, ◌≡◌, ◌≢◌, ◌+◌, ◌<◌, ◌≤◌, inl, inr, List, [], ◌∷◌, ◌++◌, length, map, set, get_or, replicate, refl, sym, ◌∙◌, ap, subst, arith}
use Rattle.std.specs.List.{All, Contains}
use Rattle.std.proofs.lemmas.List.{get_or_append_left, get_or_push, length_push, get_or_past, get_or-set_same, get_or-set_other, length-set, get_or-map, length-map, map-set, ext_get_or, length-replicate, get_or-replicate}
use Rattle.std.proofs.lemmas.List.Elements.{All-get_or, All-set, All-from_get_or, All-replicate, All-cons, Contains-append_right}
use Rattle.std.proofs.lemmas.Bool.{cases_lt, cases_eq}
use Rattle.fr_machine.specs.declared.row.Row.{Row}
use Rattle.fr_classes.specs.declared.predecessors.Link.{Link}
use Rattle.fr_classes.specs.declared.predecessors.Predecessors.{Predecessors}
use Rattle.fr_machine.specs.Rows.{row_at}
use Rattle.fr_classes.specs.Predecessors.{link_at, chain, lists_of, AreLinks, IsFilled, ArePredecessors}

Contains-here : (s : ℕ) (xs : List ℕ) → Contains (s ∷ xs) s
Contains-here s xs = (0, omega arith, refl)

Contains-there : (s : ℕ) (xs : List ℕ) (p : ℕ) → Contains xs p → Contains (s ∷ xs) p
Contains-there s xs p c = Contains-append_right (s ∷ []) xs p c

pub length-lists_of : (b : Predecessors) → length (lists_of b) ≡ length b.latest.items
length-lists_of b = length-map b.latest.items (λ e. chain b.links.items (length b.links.items) e)

pub get_or-lists_of : (b : Predecessors) (s : ℕ) → s < length b.latest.items → get_or (lists_of b) s [] ≡ chain b.links.items (length b.links.items) (get_or b.latest.items s 0)
get_or-lists_of b s l = get_or-map (λ e. chain b.links.items (length b.links.items) e) b.latest.items s 0 [] l

pub chain-zero : (links : List Link) (n : ℕ) → chain links n 0 ≡ []
chain-zero links zero = refl
chain-zero links (suc n) = refl

-- as many links as there are numbers are enough
pub chain-enough : (links : List Link) → ((e : ℕ) → (link_at links e).earlier ≤ e) → (n m e : ℕ) → e ≤ n → e ≤ m → chain links n e ≡ chain links m e
chain-enough links h zero m zero a b = sym (chain-zero links m)
chain-enough links h (suc n) m zero a b = sym (chain-zero links m)
chain-enough links h zero m (suc e) a b = absurd (omega arith)
chain-enough links h (suc n) zero (suc e) a b = absurd (omega arith)
chain-enough links h (suc n) (suc m) (suc e) a b = ap (λ xs. (link_at links e).row ∷ xs) (chain-enough links h n m (link_at links e).earlier (omega (arith, h e)) (omega (arith, h e)))

-- the first link, and the others
pub chain-suc : (links : List Link) → ((e : ℕ) → (link_at links e).earlier ≤ e) → (n e : ℕ) → suc e ≤ n → chain links n (suc e) ≡ (link_at links e).row ∷ chain links n (link_at links e).earlier
chain-suc links h zero e l = absurd (omega arith)
chain-suc links h (suc n) e l = ap (λ xs. (link_at links e).row ∷ xs) (chain-enough links h n (suc n) (link_at links e).earlier (omega (arith, h e)) (omega (arith, h e)))

-- one link more leaves the lists of the others
chain-push : (links : List Link) (k : Link) → ((e : ℕ) → (link_at links e).earlier ≤ e) → (n e : ℕ) → e ≤ length links → chain (links ++ k ∷ []) n e ≡ chain links n e
chain-push links k h zero e l = refl
chain-push links k h (suc n) zero l = refl
chain-push links k h (suc n) (suc e) l =
    let same : link_at (links ++ k ∷ []) e ≡ link_at links e = get_or_append_left links (k ∷ []) (record { row = 0; earlier = 0 }) e l in
    ap (λ (q : Link). q.row ∷ chain (links ++ k ∷ []) n q.earlier) same ∙ ap (λ xs. (link_at links e).row ∷ xs) (chain-push links k h n (link_at links e).earlier (omega (arith, h e)))

-- a link is added
module _ (b b' : Predecessors) (row next : ℕ) (h : AreLinks b) (below : next < length b.latest.items) (links : b'.links.items ≡ b.links.items ++ record { row = row; earlier = get_or b.latest.items next 0 } ∷ []) (latest : b'.latest.items ≡ set b.latest.items next (length b.links.items + 1)) where
  abbrev link : Link
  link = record { row = row; earlier = get_or b.latest.items next 0 }

  abbrev n : ℕ
  n = length b.links.items

  earlier-le : get_or b.latest.items next 0 ≤ length b.links.items
  earlier-le = All-get_or (λ e. e ≤ length b.links.items) b.latest.items next 0 below h.latest

  pub length-added : length b'.links.items ≡ length b.links.items + 1
  length-added = ap length links ∙ length_push b.links.items link

  earlier_added : (e : ℕ) → (link_at (b.links.items ++ link ∷ []) e).earlier ≤ e
  earlier_added e = elim (cases_lt e n) [
    | inl l ↦ rw (get_or_append_left b.links.items (link ∷ []) (record { row = 0; earlier = 0 }) e l) (h.earlier e)
    | inr g ↦ elim (cases_eq e n) [
      | inl f ↦ rw (get_or_push b.links.items link (record { row = 0; earlier = 0 }) e (sym f)) (omega (arith, f, earlier-le))
      | inr f ↦ rw (get_or_past (b.links.items ++ link ∷ []) e (record { row = 0; earlier = 0 }) (omega (arith, length_push b.links.items link))) (omega arith)
    ]
  ]

  pub AreLinks-added : AreLinks b'
  AreLinks-added =
      let P : List ℕ → Type 0 = λ xs. All (λ e. e ≤ length b'.links.items) xs in
      let more : All (λ e. e ≤ length b'.links.items) b.latest.items = λ k d l. omega (arith, h.latest k d l, length-added) in
      record {
        earlier = λ e. rw links (earlier_added e);
        latest = subst P (sym latest) (All-set (λ e. e ≤ length b'.links.items) b.latest.items next (n + 1) (omega (arith, length-added)) more);
      }

  -- the list of a number that there was
  chain_old : (e : ℕ) → e ≤ n → chain b'.links.items (length b'.links.items) e ≡ chain b.links.items n e
  chain_old e l =
      chain-enough b'.links.items (λ i. rw links (earlier_added i)) (length b'.links.items) n e (omega (arith, length-added)) l
      ∙ ap (λ ls. chain ls n e) links ∙ chain-push b.links.items link h.earlier n e l

  chain_new : chain b'.links.items (length b'.links.items) (n + 1) ≡ row ∷ chain b.links.items n (get_or b.latest.items next 0)
  chain_new =
      let at : n + 1 ≡ suc n = omega arith in
      let here : link_at b'.links.items n ≡ link = ap (λ ls. link_at ls n) links ∙ get_or_push b.links.items link (record { row = 0; earlier = 0 }) n refl in
      ap (chain b'.links.items (length b'.links.items)) at
      ∙ chain-suc b'.links.items (λ i. rw links (earlier_added i)) (length b'.links.items) n (omega (arith, length-added))
      ∙ ap (λ (q : Link). q.row ∷ chain b'.links.items (length b'.links.items) q.earlier) here
      ∙ ap (λ xs. row ∷ xs) (chain_old (get_or b.latest.items next 0) earlier-le)

  pub lists_of-added : lists_of b' ≡ set (lists_of b) next (row ∷ get_or (lists_of b) next [])
  lists_of-added =
      let f : ℕ → List ℕ = λ e. chain b.links.items n e in
      let f' : ℕ → List ℕ = λ e. chain b'.links.items (length b'.links.items) e in
      let same : map f' b.latest.items ≡ map f b.latest.items = ext_get_or [] (map f' b.latest.items) (map f b.latest.items) (length-map b.latest.items f' ∙ sym (length-map b.latest.items f))
      (λ i l.
      let k : i < length b.latest.items = omega (arith, length-map b.latest.items f') in
      get_or-map f' b.latest.items i 0 [] k ∙ chain_old (get_or b.latest.items i 0) (All-get_or (λ e. e ≤ n) b.latest.items i 0 k h.latest) ∙ sym (get_or-map f b.latest.items i 0 [] k)) in
      ap (map f') latest ∙ map-set f' b.latest.items next (n + 1) ∙ ap (λ xs. set xs next (f' (n + 1))) same ∙ ap (set (map f b.latest.items) next) (chain_new ∙ ap (λ xs. row ∷ xs) (sym (get_or-lists_of b next below)))

-- lists are filled
pub IsFilled-start : (rows : List Row) (b : Predecessors) → b.links.items ≡ [] → b.latest.items ≡ replicate (length rows) 0 → IsFilled rows b 0 0
IsFilled-start rows b links latest =
    let n = length rows in
    let count : length b.latest.items ≡ n = ap length latest ∙ length-replicate {A = ℕ} n 0 in
    let none : (s : ℕ) → s < n → get_or (lists_of b) s [] ≡ [] = λ s l. get_or-lists_of b s (omega (arith, count)) ∙ ap (λ xs. chain b.links.items (length b.links.items) (get_or xs s 0)) latest ∙ ap (chain b.links.items (length b.links.items)) (get_or-replicate n s 0 0 l) ∙ chain-zero b.links.items (length b.links.items) in
    let P : List ℕ → Type 0 = λ ps. All (λ p. p < n) ps in
    let Q : List ℕ → Type 0 = λ es. All (λ e. e ≤ length b.links.items) es in
    let R : List Link → Type 0 = λ ls. (e : ℕ) → (link_at ls e).earlier ≤ e in
    record {
      links = record {
        earlier = subst R (sym links) (λ e. omega arith);
        latest = subst Q (sym latest) (All-replicate (λ e. e ≤ length b.links.items) n 0 (omega arith));
      };
      few = omega (arith, ap length links);
      count = count;
      inside = All-from_get_or P (lists_of b) [] (λ k l. subst P (sym (none k (omega (arith, length-lists_of b, count)))) (λ i d m. absurd (omega arith)));
      has = λ p k a c h. absurd (elim h [ inl l ↦ omega arith | inr w ↦ omega (arith, w.1) ]);
    }

pub IsFilled-row : (rows : List Row) (b : Predecessors) (s x : ℕ) → length (row_at rows s).perm ≤ x → x ≤ 8 → IsFilled rows b s x → IsFilled rows b (s + 1) 0
IsFilled-row rows b s x l small h = record {
  links = h.links;
  few = omega (arith, h.few);
  count = h.count;
  inside = h.inside;
  has = λ p k a c g. h.has p k a c (elim g [
    | inl t ↦ elim (cases_eq p s) [ inl e ↦ inr (e, (let f = ap (λ i. length (row_at rows i).perm) e in omega (arith, f))) | inr n ↦ inl (omega arith) ]
    | inr w ↦ absurd (omega (arith, w.1))
  ]);
}

pub IsFilled-more : (rows : List Row) (b b' : Predecessors) (s x q : ℕ) → IsFilled rows b s x → s < length rows → q < length b.latest.items → q ≡ get_or (row_at rows s).next x 0
    → AreLinks b' → length b'.links.items ≡ length b.links.items + 1 → lists_of b' ≡ set (lists_of b) q (s ∷ get_or (lists_of b) q []) → IsFilled rows b' s (x + 1)
IsFilled-more rows b b' s x q h l g e links more f =
    let before = lists_of b in
    let before' = lists_of b' in
    let list = s ∷ get_or before q [] in
    let q-lt : q < length before = omega (arith, length-lists_of b) in
    let here : get_or before' q [] ≡ list = ap (λ xs. get_or xs q []) f ∙ get_or-set_same before q list [] q-lt in
    let other : (r : ℕ) → r ≢ q → get_or before' r [] ≡ get_or before r [] = λ r n. ap (λ xs. get_or xs r []) f ∙ get_or-set_other before q r list [] n in
    let keeps : (r p : ℕ) → Contains (get_or before r []) p → Contains (get_or before' r []) p = λ r p c. elim (cases_eq r q) [
      | inl t ↦ rw (t, here) (Contains-there s (get_or before q []) p (rw t at c))
      | inr n ↦ rw (other r n) c
    ] in
    record {
      links = links;
      few = omega (arith, h.few, more);
      count = sym (length-lists_of b') ∙ ap length f ∙ length-set before q list ∙ length-lists_of b ∙ h.count;
      inside = rw f (All-set (λ ps. All (λ p. p < length rows) ps) before q list (All-cons (λ p. p < length rows) s (get_or before q []) l (All-get_or (λ ps. All (λ p. p < length rows) ps) before q [] q-lt h.inside)) h.inside);
      has = λ p k a c w. elim w [
        | inl t ↦ keeps _ p (h.has p k a c (inl t))
        | inr v ↦ elim (cases_lt k x) [
          | inl t ↦ keeps _ p (h.has p k a c (inr (v.0, t)))
          | inr n ↦
              let at : k ≡ x = omega (arith, v.1) in
              let next : get_or (row_at rows p).next k 0 ≡ q = ap (λ j. get_or (row_at rows p).next j 0) at ∙ ap (λ j. get_or (row_at rows j).next x 0) v.0 ∙ sym e in
              rw (next, here, v.0) (Contains-here s (get_or before q []))
        ]
      ];
    }

pub ArePredecessors-filled : (rows : List Row) (b : Predecessors) (s : ℕ) → length rows ≤ s → IsFilled rows b s 0 → ArePredecessors rows b
ArePredecessors-filled rows b s l h = record { links = h.links; count = h.count; inside = h.inside; has = λ p k a c. h.has p k a c (inl (omega arith)) }
