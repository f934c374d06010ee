-- What a machine that a walk built is.
use Rattle.std.proofs.Common.{ℕ, zero, suc, ◌≡◌, ◌≢◌, ◌+◌, ◌<◌, ◌≤◌, ◌⊎◌, inl, inr, List, [], ◌∷◌, ◌++◌, length, drop, set, get_or, replicate, refl, sym, ◌∙◌, ap, arith, sub-one, eqb, true, false}
use Rattle.std.proofs.lemmas.List.{get_or_default, get_or_append_left, get_or_push, length_push, get_or-drop, length-drop, get_or-replicate, get_or-set_same, get_or-set_other, length-set}
use Rattle.std.proofs.lemmas.List.Elements.{All-from_get_or}
use Rattle.std.specs.List.{Contains, list_any}
use Rattle.std.proofs.lemmas.Bool.{cases_lt, cases_eq, ne_eqb}
use Rattle.std.proofs.lemmas.Map.Keys.{IsDistinct-from_apart}
use Rattle.std.proofs.lemmas.Map.Steps.{length-le_from_distinct_below}
use Rattle.fr_model.specs.Words.{IsLetter, IsWord}
use Rattle.fr_model.specs.Permutations.{IsPermutation}
use Rattle.fr_model.specs.Automata.{next_state, state_after}
use Rattle.fr_model.proofs.TermLaws.{IsWord-append}
use Rattle.fr_model.proofs.PermutationLaws.{present_place}
use Rattle.fr_machine.specs.declared.row.Row.{Row}
use Rattle.fr_machine.specs.Rows.{states_of, IsRow, IsMachine, row_at}
use Rattle.fr_machine.specs.Minimal.{AreReached}
use Rattle.fr_machine.specs.Walks.{WalkView, IsKeys, IsNumbered, IsPassed, walk_after, IsRowOf, IsBuilt, Extends, Reached, IsRowPart, IsRowMade, IsRowPassed}
use Rattle.fr_machine.proofs.RowLaws.{next_row}

pub walk_after-append : (step : ℕ → ℕ → ℕ) (k : ℕ) (v w : List ℕ) → walk_after step k (v ++ w) ≡ walk_after step (walk_after step k v) w
walk_after-append step k [] w = refl
walk_after-append step k (x ∷ v) w = walk_after-append step (step k x) v w

pub Extends-refl : (keys : List ℕ) → Extends keys keys
Extends-refl keys = (omega arith, λ i l. refl)

pub Extends-numbered : (keys keys' : List ℕ) (key : ℕ) → (keys' ≡ keys) ⊎ (keys' ≡ keys ++ key ∷ []) → Extends keys keys'
Extends-numbered keys keys' key (inl e) = (omega (arith, ap length e), λ i l. ap (λ xs. get_or xs i 0) e)
Extends-numbered keys keys' key (inr e) = (omega (arith, ap length e, length_push keys key), λ i l. ap (λ xs. get_or xs i 0) e ∙ get_or_append_left keys (key ∷ []) 0 i l)

pub Extends-trans : (a b c : List ℕ) → Extends a b → Extends b c → Extends a c
Extends-trans a b c f g = (omega (arith, f.0, g.0), λ i l. g.1 i (omega (arith, f.0)) ∙ f.1 i l)

pub IsRowOf-later : (d : ℕ) (step : ℕ → ℕ → ℕ) (output : ℕ → List ℕ) (keys keys' : List ℕ) (key : ℕ) (r : Row) → Extends keys keys' → IsRowOf d step output keys key r → IsRowOf d step output keys' key r
IsRowOf-later d step output keys keys' key r e h = record {
  perm = h.perm;
  width = h.width;
  nexts = λ x l. let n = h.nexts x l in (omega (arith, n.0, e.0), e.1 (get_or r.next x 0) n.0 ∙ n.1);
  zeros = h.zeros;
}

-- keys that were reached, and one more behind one of them
pub Reached-numbered : (d : ℕ) (step : ℕ → ℕ → ℕ) (start : ℕ) (keys keys' : List ℕ) (key k x : ℕ) → Reached d step start keys → (w : List ℕ) → IsWord d w → walk_after step start w ≡ k → IsLetter d x → key ≡ step k x → (keys' ≡ keys) ⊎ (keys' ≡ keys ++ key ∷ []) → Reached d step start keys'
Reached-numbered d step start keys keys' key k x h w a e l f (inl g) i m = let r = h i (omega (arith, ap length g)) in (r.0, r.1, r.2 ∙ sym (ap (λ xs. get_or xs i 0) g))
Reached-numbered d step start keys keys' key k x h w a e l f (inr g) i m = elim (cases_lt i (length keys)) [
  | inl t ↦ let r = h i t in (r.0, r.1, r.2 ∙ sym (ap (λ xs. get_or xs i 0) g ∙ get_or_append_left keys (key ∷ []) 0 i t))
  | inr t ↦
      let at : length keys ≡ i = omega (arith, ap length g, length_push keys key) in
      (w ++ x ∷ [], IsWord-append d w (x ∷ []) a (l, tt), walk_after-append step start w (x ∷ []) ∙ ap (λ j. step j x) e ∙ sym f ∙ sym (ap (λ xs. get_or xs i 0) g ∙ get_or_push keys key 0 i at))
]

-- one more row
pub IsBuilt-more : (d bound : ℕ) (step : ℕ → ℕ → ℕ) (output : ℕ → List ℕ) (start : ℕ) (keys keys' : List ℕ) (rows rows' : List Row) (r : Row) → IsBuilt d bound step output start keys rows → length rows < length keys → Extends keys keys' → Reached d step start keys'
    → IsRowOf d step output keys' (get_or keys (length rows) 0) r → rows' ≡ rows ++ r ∷ [] → IsBuilt d bound step output start keys' rows'
IsBuilt-more d bound step output start keys keys' rows rows' r h l e reach row f =
    let size : length rows' ≡ length rows + 1 = ap length f ∙ length_push rows r in
    record {
      some = omega (arith, h.some, e.0);
      first = e.1 0 h.some ∙ h.first;
      done = omega (arith, size, e.0);
      built = λ i m. elim (cases_lt i (length rows)) [
        | inl t ↦
            let same : row_at rows' i ≡ row_at rows i = ap (λ xs. get_or xs i (record { perm = []; next = [] })) f ∙ get_or_append_left rows (r ∷ []) (record { perm = []; next = [] }) i t in
            rw (same, e.1 i (omega arith)) (IsRowOf-later d step output keys keys' (get_or keys i 0) (row_at rows i) e (h.built i t))
        | inr t ↦
            let at : length rows ≡ i = omega (arith, size) in
            let same : row_at rows' i ≡ r = ap (λ xs. get_or xs i (record { perm = []; next = [] })) f ∙ get_or_push rows r (record { perm = []; next = [] }) i at in
            rw (same, e.1 i (omega arith), ← at) row
      ];
      reached = reach;
    }

-- the whole walk
module _ (d bound : ℕ) (step : ℕ → ℕ → ℕ) (output : ℕ → List ℕ) (start : ℕ) (keys : List ℕ) (rows : List Row) (h : IsBuilt d bound step output start keys rows) (keyed : IsKeys bound keys) (whole : length keys ≤ length rows) (few : 2 ≤ d) (small : d ≤ 8) (permutes : (k : ℕ) → k < bound → IsPermutation d (output k)) where
  size : length rows ≡ length keys
  size = omega (arith, h.done)

  row_permutes : (i : ℕ) → i < length rows → IsPermutation d (row_at rows i).perm
  row_permutes i l = rw ((h.built i l).perm) (permutes (get_or keys i 0) (keyed.below i (omega (arith, size))))

  row_valid : (i : ℕ) → i < length rows → IsRow d (length rows) (row_at rows i)
  row_valid i l =
      let b = h.built i l in
      record {
        permutes = row_permutes i l;
        width = b.width;
        below = All-from_get_or (λ n. n < length rows) (row_at rows i).next 0 (λ x m. elim (cases_lt x d) [
          | inl t ↦ omega (arith, (b.nexts x t).0, size)
          | inr t ↦ omega (arith, b.zeros x t (omega (arith, b.width)))
        ]);
        zeros = All-from_get_or (λ n. n ≡ 0) (drop d (row_at rows i).next) 0 (λ x m. get_or-drop d (row_at rows i).next x 0 ∙ b.zeros (d + x) (omega arith) (omega (arith, length-drop d (row_at rows i).next, b.width)));
      }

  pub IsMachine-built : IsMachine d rows
  IsMachine-built = record {
    few = few;
    letters = small;
    least = omega (arith, size, h.some);
    most = omega (arith, size, keyed.few);
    valid = λ i e l. rw (get_or_default rows i e (record { perm = []; next = [] }) l) (row_valid i l);
  }

  pub built_next : (i x : ℕ) → i < length rows → IsLetter d x → (next_state (states_of rows) i x < length rows) × (get_or keys (next_state (states_of rows) i x) 0 ≡ step (get_or keys i 0) x)
  built_next i zero l k = absurd (omega (arith, k.0))
  built_next i (suc x) l k =
      let n = (h.built i l).nexts x (omega (arith, k.1)) in
      let e : get_or (row_at rows i).next x 0 ≡ next_state (states_of rows) i (suc x) = rw sub-one at (next_row d rows IsMachine-built i l (row_at rows i) (get_or_default rows i _ _ l) (suc x) k) in
      rw (← e) (omega (arith, n.0, size), n.1)

  pub built_after : (i : ℕ) (w : List ℕ) → i < length rows → IsWord d w → (state_after (states_of rows) i w < length rows) × (get_or keys (state_after (states_of rows) i w) 0 ≡ walk_after step (get_or keys i 0) w)
  built_after i [] l k = (l, refl)
  built_after i (x ∷ w) l k =
      let n = built_next i x l k.0 in
      let r = built_after (next_state (states_of rows) i x) w n.0 k.1 in
      (r.0, r.1 ∙ ap (λ j. walk_after step j w) n.1)

  pub AreReached-built : AreReached d rows
  AreReached-built i l =
      let r = h.reached i (omega (arith, size)) in
      let a = built_after 0 r.0 (omega (arith, size, h.some)) r.1 in
      (r.0, r.1, keyed.distinct _ i (omega (arith, a.0, size)) (omega (arith, size)) (a.1 ∙ ap (λ j. walk_after step j r.0) h.first ∙ r.2))

-- a row letter by letter
pub IsRowPart-start : (d limit : ℕ) (step : ℕ → ℕ → ℕ) (w : WalkView) (key : ℕ) (next : List ℕ) → length w.keys ≤ limit → next ≡ replicate 8 0 → IsRowPart d limit step w w key next 0
IsRowPart-start d limit step w key next m e = record {
  bound = refl;
  extends = Extends-refl w.keys;
  most = m;
  width = ap length e;
  nexts = λ y l. absurd (omega arith);
  zeros = λ y l h. ap (λ xs. get_or xs y 0) e ∙ get_or-replicate 8 y 0 0 h;
  reached = λ start v a f r. r;
}

pub IsRowPart-more : (d limit : ℕ) (step : ℕ → ℕ → ℕ) (w w' w2 : WalkView) (key : ℕ) (next next' : List ℕ) (x n target : ℕ) → IsRowPart d limit step w w' key next x → x < d → d ≤ 8 → target ≡ step key (suc x) → IsNumbered w' w2 target limit n → next' ≡ set next x n → IsRowPart d limit step w w2 key next' (x + 1)
IsRowPart-more d limit step w w' w2 key next next' x n target h l small e i f =
    let ext = Extends-numbered w'.keys w2.keys target i.keeps in
    let here : get_or next' x 0 ≡ n = ap (λ xs. get_or xs x 0) f ∙ get_or-set_same next x n 0 (omega (arith, h.width)) in
    let other : (y : ℕ) → y ≢ x → get_or next' y 0 ≡ get_or next y 0 = λ y ne. ap (λ xs. get_or xs y 0) f ∙ get_or-set_other next x y n 0 ne in
    record {
      bound = i.bound ∙ h.bound;
      extends = Extends-trans w.keys w'.keys w2.keys h.extends ext;
      most = i.most;
      width = ap length f ∙ length-set next x n ∙ h.width;
      nexts = λ y m. elim (cases_eq y x) [
        | inl t ↦ rw (t, here) (i.below, i.is ∙ e)
        | inr t ↦ let p = h.nexts y (omega arith) in rw (other y t) (omega (arith, p.0, ext.0), ext.1 (get_or next y 0) p.0 ∙ p.1)
      ];
      zeros = λ y m k. other y (λ t. omega arith) ∙ h.zeros y (omega arith) k;
      reached = λ start v a g r. Reached-numbered d step start w'.keys w2.keys target key (suc x) (h.reached start v a g r) v a g (omega arith, omega arith) e i.keeps;
    }

pub IsRowMade-from : (d limit : ℕ) (step : ℕ → ℕ → ℕ) (output : ℕ → List ℕ) (w w' : WalkView) (key : ℕ) (r : Row) (x : ℕ) → IsRowPart d limit step w w' key r.next x → d ≤ x → x ≤ d → r.perm ≡ output key → IsRowMade d limit step output w w' key r
IsRowMade-from d limit step output w w' key r x h l m e = record {
  bound = h.bound;
  extends = h.extends;
  most = h.most;
  row = record { perm = e; width = h.width; nexts = λ y k. h.nexts y (omega arith); zeros = λ y k i. h.zeros y (omega arith) i };
  reached = h.reached;
}

pub IsRowPassed-from : (d limit : ℕ) (step : ℕ → ℕ → ℕ) (w w' w2 : WalkView) (key : ℕ) (next : List ℕ) (x target : ℕ) → IsRowPart d limit step w w' key next x → x < d → target ≡ step key (suc x) → target < w.bound → IsKeys w'.bound w'.keys → IsPassed w' w2 target limit → IsRowPassed d limit w.bound step w.keys key
IsRowPassed-from d limit step w w' w2 key next x target h l e b k p = record {
  met = w'.keys;
  valid = rw h.bound at k;
  full = p.full;
  letter = suc x;
  is_letter = (omega arith, omega arith);
  below = rw e at b;
  fresh = rw e at p.fresh;
  reached = h.reached;
}

-- before the first row
pub IsBuilt-start : (d bound : ℕ) (step : ℕ → ℕ → ℕ) (output : ℕ → List ℕ) (start : ℕ) (keys : List ℕ) (rows : List Row) → keys ≡ start ∷ [] → rows ≡ [] → IsBuilt d bound step output start keys rows
IsBuilt-start d bound step output start keys rows e f = record {
  some = omega (arith, ap length e);
  first = ap (λ xs. get_or xs 0 0) e;
  done = omega (arith, ap length f);
  built = λ i l. absurd (omega (arith, ap length f));
  reached = λ i l. let z : 0 ≡ i = omega (arith, ap length e) in ([], tt, sym (ap (λ xs. get_or xs i 0) e ∙ ap (λ j. get_or (start ∷ []) j 0) (sym z)));
}

-- a key that was not met leaves room
pub length-lt_from_fresh : (bound key : ℕ) (keys : List ℕ) → IsKeys bound keys → key < bound → ¬ Contains keys key → length keys < bound
length-lt_from_fresh bound key keys h l fresh =
    let all = key ∷ keys in
    let apart : (i j d : ℕ) → i < j → j < length all → eqb (get_or all i d) (get_or all j d) ≡ false = λ i j d a b. ne_eqb _ _ (clash i j d a b) in
    let most = length-le_from_distinct_below all bound (IsDistinct-from_apart eqb all apart) below in
    omega (arith, most)
  where
    clash : (i j d : ℕ) → i < j → j < length (key ∷ keys) → get_or (key ∷ keys) i d ≢ get_or (key ∷ keys) j d
    clash zero zero d a b e = absurd (omega arith)
    clash zero (suc j) d a b e = fresh (j, omega arith, get_or_default keys j key d (omega arith) ∙ sym e)
    clash (suc i) zero d a b e = absurd (omega arith)
    clash (suc i) (suc j) d a b e =
        let same = h.distinct i j (omega arith) (omega arith) (get_or_default keys i 0 d (omega arith) ∙ e ∙ get_or_default keys j d 0 (omega arith)) in
        omega (arith, same)

    below_at : (q i : ℕ) → i < length (key ∷ keys) → get_or (key ∷ keys) i q ≡ q → q < bound
    below_at q zero a e = omega (arith, e)
    below_at q (suc i) a e = let b = h.below i (omega arith) in omega (arith, b, get_or_default keys i 0 q (omega arith), e)

    below : (q : ℕ) → list_any (eqb q) (key ∷ keys) ≡ true → q < bound
    below q e = let r = present_place 0 (key ∷ keys) q e in below_at q r.0 r.1 r.3
