-- A walk over the rows of a minimal machine lists the canonical numbering.
use Rattle.std.proofs.Common.{ℕ, zero, suc, ◌≡◌, ◌≢◌, ◌+◌, ◌*◌, ◌<◌, ◌≤◌, ◌⊎◌, ◌↔◌, inl, inr, List, [], ◌∷◌, ◌++◌, length, map, take, get_or, set, refl, sym, ◌∙◌, ap, subst, arith, length-append}
use Rattle.std.proofs.lemmas.List.{get_or_default, get_or_append_left, get_or_push, length_push, length-map, length-set, append-nil, get_or-map, get_or-set_other, take_more_set}
use Rattle.std.proofs.lemmas.List.Elements.{All-from_get_or}
use Rattle.std.proofs.lemmas.Bool.{cases_lt}
use Rattle.std.proofs.lemmas.Grind.{flat_map-append}
use Rattle.fr_model.specs.Words.{IsLetter, IsWord}
use Rattle.fr_model.specs.Permutations.{image}
use Rattle.fr_model.specs.Terms.{Section, act, IsAlike}
use Rattle.fr_model.specs.Automata.{State, state_at, next_state, state_after, state_term, IsState, IsAutomaton}
use Rattle.fr_model.specs.Canonical.{IsCanonical, IsCode, code_of}
use Rattle.fr_model.proofs.AlikeLaws.{alike_sym, alike_trans, act-nil}
use Rattle.fr_model.proofs.AutomatonLaws.{state_is, section_state, act-state_term, next_state-lt}
use Rattle.fr_model.proofs.CodeLaws.{alike_from_code, IsCode-alike}
use Rattle.fr_model.specs.Ranks.{rank}
use Rattle.fr_machine.specs.declared.row.Row.{Row}
use Rattle.fr_machine.specs.Rows.{state_of, states_of, row_term, IsMachine}
use Rattle.fr_machine.specs.Rows.{row_at}
use Rattle.fr_machine.specs.Minimal.{AreUnlike}
use Rattle.fr_machine.specs.Walks.{WalkView, IsKeys, IsNumbered, walk_after, Extends}
use Rattle.fr_machine.proofs.RowLaws.{IsAutomaton-states_of, length-states_of, IsTerm-row_term, row_valid}
use Rattle.fr_machine.proofs.WalkLaws.{Extends-refl, Extends-numbered, Extends-trans}
use Rattle.fr_machine.specs.Orders.{IsOrdered}
use Rattle.fr_machine.proofs.OrderLaws.{IsOrdered-known, IsOrdered-new, IsOrdered-row}
use Rattle.fr_machine.proofs.CanonLaws.{IsCanonical-walked}
use Rattle.fr_canon.specs.Listings.{row_output, IsNextPart, IsStateOf, IsKeyListed, IsRowListed, IsListed}

pub perm_at : (rows : List Row) (k : ℕ) → k < length rows → (state_at (states_of rows) k).perm ≡ (row_at rows k).perm
perm_at rows k l = ap (λ q. q.perm) (get_or-map state_of rows k (record { perm = []; next = [] }) (record { perm = []; next = [] }) l)

pub read_at : (rows : List Row) (k : ℕ) (r : Row) → k < length rows → get_or rows k r ≡ row_at rows k
read_at rows k r l = get_or_default rows k r (record { perm = []; next = [] }) l

-- a key that stands behind others is none of them
fresh_key : (keys keys' : List ℕ) (key : ℕ) → IsKeys 1024 keys' → keys' ≡ keys ++ key ∷ [] → (k : ℕ) → k < length keys → get_or keys k 0 ≢ key
fresh_key keys keys' key h e k l same =
    let size : length keys' ≡ length keys + 1 = ap length e ∙ length_push keys key in
    let old : get_or keys' k 0 ≡ get_or keys k 0 = ap (λ xs. get_or xs k 0) e ∙ get_or_append_left keys (key ∷ []) 0 k l in
    let new : get_or keys' (length keys) 0 ≡ key = ap (λ xs. get_or xs (length keys) 0) e ∙ get_or_push keys key 0 (length keys) refl in
    let at = h.distinct k (length keys) (omega (arith, size)) (omega (arith, size)) (old ∙ same ∙ sym new) in
    omega (arith, at)

pub IsNextPart-start : (d bound : ℕ) (step : ℕ → ℕ → ℕ) (w : WalkView) (key : ℕ) → IsNextPart d bound step w w key [] 0
IsNextPart-start d bound step w key = record {
  width = refl;
  extends = Extends-refl w.keys;
  below = λ h. h;
  nexts = λ y l. absurd (omega arith);
  ordered = λ start j words l k o. (words, o);
}

module _ (d bound : ℕ) (step : ℕ → ℕ → ℕ) (w w' w2 : WalkView) (key : ℕ) (next : List ℕ) (x n target : ℕ) (h : IsNextPart d bound step w w' key next x) (l : x < d) (e : target ≡ step key (x + 1)) (b : target < bound) (i : IsNumbered w' w2 target 1024 n) (keyed : IsKeys 1024 w2.keys) where
  ext : Extends w'.keys w2.keys
  ext = Extends-numbered w'.keys w2.keys target i.keeps

  one_more : (start j : ℕ) (words : List (List ℕ)) → j < length w'.keys → get_or w'.keys j 0 ≡ key → IsOrdered d step start w'.keys words j (x + 1) → (w2.keys ≡ w'.keys) ⊎ (w2.keys ≡ w'.keys ++ target ∷ []) → (words' : List (List ℕ)) × IsOrdered d step start w2.keys words' j (x + 1 + 1)
  one_more start j words jl je o (inl same) =
      let P : List ℕ → Type 0 = λ ks. IsOrdered d step start ks words j (x + 1 + 1) in
      let z : get_or w'.keys n 0 ≡ step (get_or w'.keys j 0) (x + 1) = ap (λ ks. get_or ks n 0) (sym same) ∙ i.is ∙ e ∙ ap (λ k. step k (x + 1)) (sym je) in
      (words, subst P (sym same) (IsOrdered-known d step start w'.keys words j (x + 1) o jl n (omega (arith, i.below, ap length same)) z))
  one_more start j words jl je o (inr more) =
      let new = words ++ (get_or words j [] ++ (x + 1) ∷ []) ∷ [] in
      (new, IsOrdered-new d step start w'.keys w2.keys words new j (x + 1) target o jl (omega arith, omega (arith, l)) (e ∙ ap (λ k. step k (x + 1)) (sym je)) (fresh_key w'.keys w2.keys target keyed more) more refl)

  below_more : ((k : ℕ) → k < length w'.keys → get_or w'.keys k 0 < bound) → (w2.keys ≡ w'.keys) ⊎ (w2.keys ≡ w'.keys ++ target ∷ []) → (k : ℕ) → k < length w2.keys → get_or w2.keys k 0 < bound
  below_more f (inl same) k m = omega (arith, f k (omega (arith, m, ap length same)), ap (λ ks. get_or ks k 0) same)
  below_more f (inr more) k m = elim (cases_lt k (length w'.keys)) [
    | inl t ↦ omega (arith, f k t, ap (λ ks. get_or ks k 0) more, get_or_append_left w'.keys (target ∷ []) 0 k t)
    | inr t ↦
        let at : length w'.keys ≡ k = omega (arith, m, t, ap length more, length_push w'.keys target) in
        omega (arith, b, ap (λ ks. get_or ks k 0) more, get_or_push w'.keys target 0 k at)
  ]

  pub IsNextPart-more : IsNextPart d bound step w w2 key (next ++ n ∷ []) (x + 1)
  IsNextPart-more = record {
    width = omega (arith, length_push next n, h.width);
    extends = Extends-trans w.keys w'.keys w2.keys h.extends ext;
    below = λ f. below_more (h.below f) i.keeps;
    nexts = λ y m. elim (cases_lt y x) [
      | inl t ↦
          let p = h.nexts y t in
          let o : get_or (next ++ n ∷ []) y 0 ≡ get_or next y 0 = get_or_append_left next (n ∷ []) 0 y (omega (arith, t, h.width)) in
          rw o (omega (arith, p.0, ext.0), ext.1 (get_or next y 0) p.0 ∙ p.1)
      | inr t ↦
          let at : y ≡ x = omega (arith, m, t) in
          let o : get_or (next ++ n ∷ []) y 0 ≡ n = get_or_push next n 0 y (h.width ∙ sym at) in
          let one : x + 1 ≡ suc y = omega (arith, at) in
          rw o (i.below, i.is ∙ e ∙ ap (step key) one)
    ];
    ordered = λ start j words jl je o.
        let r = h.ordered start j words jl je o in
        one_more start j r.0 (omega (arith, jl, h.extends.0)) (h.extends.1 j jl ∙ je) r.1 i.keeps;
  }

pub IsKeyListed-from : (d bound : ℕ) (step : ℕ → ℕ → ℕ) (output : ℕ → List ℕ) (w w' : WalkView) (key : ℕ) (next : List ℕ) (x : ℕ) (q : State) → IsNextPart d bound step w w' key next x → x ≡ d → q.perm ≡ output key → q.next ≡ next → IsKeyListed d bound step output w w' key q
IsKeyListed-from d bound step output w w' key next x q h e p n = record {
  extends = h.extends;
  below = h.below;
  is = record { perm = p; arity = ap length n ∙ h.width ∙ e; nexts = λ y l. rw n (h.nexts y (omega (arith, e, l))) };
  ordered = λ start j words jl je o.
      let r = h.ordered start j words jl je o in
      (r.0, IsOrdered-row d step start w'.keys r.0 j (x + 1) r.1 (omega (arith, e)));
}

-- ---- the next rows of a key, in the places of a row
pub record IsRowBegun (d bound : ℕ) (step : ℕ → ℕ → ℕ) (w w' : WalkView) (key : ℕ) (next : List ℕ) (x : ℕ) : Type 0 where
  pub part : IsNextPart d bound step w w' key (take x next) x
  pub width : length next ≡ 8
  pub zeros : (y : ℕ) → x ≤ y → y < 8 → get_or next y 0 ≡ 0

pub IsRowBegun-start : (d bound : ℕ) (step : ℕ → ℕ → ℕ) (w : WalkView) (key : ℕ) (next : List ℕ) → length next ≡ 8 → ((y : ℕ) → y < 8 → get_or next y 0 ≡ 0) → IsRowBegun d bound step w w key next 0
IsRowBegun-start d bound step w key next e z = record { part = IsNextPart-start d bound step w key; width = e; zeros = λ y l. z y }

pub IsRowBegun-more : (d bound : ℕ) (step : ℕ → ℕ → ℕ) (w w' w2 : WalkView) (key : ℕ) (next next' : List ℕ) (x n target : ℕ) → IsRowBegun d bound step w w' key next x → d ≤ 8 → x < d → target ≡ step key (x + 1) → target < bound → IsNumbered w' w2 target 1024 n → IsKeys 1024 w2.keys → next' ≡ set next x n → IsRowBegun d bound step w w2 key next' (x + 1)
IsRowBegun-more d bound step w w' w2 key next next' x n target h few l e b i keyed f =
    let within : x < length next = omega (arith, h.width) in
    let P : List ℕ → Type 0 = λ ns. IsNextPart d bound step w w2 key ns (x + 1) in
    record {
      part = subst P (sym (ap (take (x + 1)) f ∙ take_more_set next x n within)) (IsNextPart-more d bound step w w' w2 key (take x next) x n target h.part l e b i keyed);
      width = ap length f ∙ length-set next x n ∙ h.width;
      zeros = λ y k m. ap (λ ns. get_or ns y 0) f ∙ get_or-set_other next x y n 0 (λ same. (omega (arith, same, k))) ∙ h.zeros y (omega (arith, k)) m;
    }

pub IsRowListed-from : (d : ℕ) (rows : List Row) (w w' : WalkView) (key : ℕ) (p next : List ℕ) (x : ℕ) → IsMachine d rows → key < length rows → p ≡ (row_at rows key).perm → IsRowBegun d (length rows) (next_state (states_of rows)) w w' key next x → x ≡ d
    → IsRowListed d (length rows) (next_state (states_of rows)) (row_output (states_of rows)) w w' key (record { perm = p; next = next })
IsRowListed-from d rows w w' key p next x m l e h f =
    let degree : length p ≡ d = ap length e ∙ (row_valid d rows m key l).permutes.degree in
    let same : take (length p) next ≡ take x next = ap (λ n. take n next) (degree ∙ sym f) in
    record {
      listed = IsKeyListed-from d (length rows) (next_state (states_of rows)) (row_output (states_of rows)) w w' key (take x next) x (state_of (record { perm = p; next = next })) h.part f (e ∙ sym (perm_at rows key l)) same;
      filled = record { degree = degree; width = h.width; zeros = λ y k. h.zeros y (omega (arith, f, k)) };
    }

-- before the first state
pub IsListed-start : (d bound : ℕ) (step : ℕ → ℕ → ℕ) (output : ℕ → List ℕ) (start : ℕ) (keys : List ℕ) → start < bound → keys ≡ start ∷ [] → IsListed d bound step output start keys 0 []
IsListed-start d bound step output start keys l e =
    let z : (i : ℕ) → i < length keys → 0 ≡ i = λ i k. omega (arith, ap length e) in
    let at : (i : ℕ) → i < length keys → get_or keys i 0 ≡ start = λ i k. ap (λ j. get_or keys j 0) (sym (z i k)) ∙ ap (λ xs. get_or xs 0 0) e in
    record {
      first = ap (λ xs. get_or xs 0 0) e;
      below = λ i k. omega (arith, l, at i k);
      words = [] ∷ [];
      ordered = record {
        count = sym (ap length e);
        some = omega (arith, ap length e);
        none = refl;
        valid = λ i k. (let P : ℕ → Type 0 = λ j. IsWord d (get_or ([] ∷ []) j []) in subst P (z i k) tt);
        own = λ i k. ap (λ j. walk_after step start (get_or ([] ∷ []) j [])) (sym (z i k)) ∙ sym (at i k);
        ascending = λ i k a b. absurd (omega (arith, a, b, ap length e));
        made = λ i k. inl (ap (λ j. get_or ([] ∷ []) j []) (sym (z i k)));
        met = λ i y a b o. elim o [ inl u ↦ absurd (omega (arith, u)) | inr u ↦ absurd (omega (arith, u.1, b.0)) ];
        passed = λ i y k a b o c g. elim o [ inl u ↦ absurd (omega (arith, u)) | inr u ↦ absurd (omega (arith, u.1, b.0)) ];
      };
      count = refl;
      done = omega arith;
      listed = λ i k. absurd (omega (arith, k));
    }

IsStateOf-later : (d : ℕ) (step : ℕ → ℕ → ℕ) (output : ℕ → List ℕ) (keys keys' : List ℕ) (key : ℕ) (q : State) → Extends keys keys' → IsStateOf d step output keys key q → IsStateOf d step output keys' key q
IsStateOf-later d step output keys keys' key q e h = record {
  perm = h.perm;
  arity = h.arity;
  nexts = λ y l. let n = h.nexts y l in (omega (arith, n.0, e.0), e.1 (get_or q.next y 0) n.0 ∙ n.1);
}

-- one more state
pub IsListed-more : (d bound : ℕ) (step : ℕ → ℕ → ℕ) (output : ℕ → List ℕ) (start : ℕ) (w w' : WalkView) (j key : ℕ) (states : List State) (q : State) → IsListed d bound step output start w.keys j states → j < length w.keys → key ≡ get_or w.keys j 0 → IsKeyListed d bound step output w w' key q → IsListed d bound step output start w'.keys (j + 1) (states ++ q ∷ [])
IsListed-more d bound step output start w w' j key states q h l e m =
    let z : State = record { perm = []; next = [] } in
    let qs = states ++ q ∷ [] in
    let o = m.ordered start j h.words l (sym e) h.ordered in
    record {
      first = m.extends.1 0 h.ordered.some ∙ h.first;
      below = m.below h.below;
      words = o.0;
      ordered = o.1;
      count = length_push states q ∙ ap (λ n. n + 1) h.count;
      done = omega (arith, l, m.extends.0);
      listed = λ i k. elim (cases_lt i j) [
        | inl t ↦
            let same : state_at qs i ≡ state_at states i = get_or_append_left states (q ∷ []) z i (omega (arith, t, h.count)) in
            rw (same, m.extends.1 i (omega (arith, t, l))) (IsStateOf-later d step output w.keys w'.keys (get_or w.keys i 0) (state_at states i) m.extends (h.listed i t))
        | inr t ↦
            let at : i ≡ j = omega (arith, k, t) in
            let same : state_at qs i ≡ q = get_or_push states q z i (h.count ∙ sym at) in
            let kk : get_or w'.keys i 0 ≡ key = ap (λ n. get_or w'.keys n 0) at ∙ m.extends.1 j l ∙ sym e in
            rw (same, kk) m.is
      ];
    }

-- ---- the code of the states so far
pub record IsWritten (d bound : ℕ) (step : ℕ → ℕ → ℕ) (output : ℕ → List ℕ) (start : ℕ) (keys : List ℕ) (j : ℕ) (code : List ℕ) : Type 0 where
  pub states : List State
  pub listed : IsListed d bound step output start keys j states
  pub written : code ≡ code_of states
  pub size : length code ≡ (d + 1) * j

pub code_of-push : (qs : List State) (q : State) → code_of (qs ++ q ∷ []) ≡ code_of qs ++ code_of (q ∷ [])
code_of-push qs q = flat_map-append (λ q. rank q.perm ∷ map suc q.next) qs (q ∷ [])

pub length-code_of_one : (d : ℕ) (q : State) → length q.next ≡ d → length (code_of (q ∷ [])) ≡ d + 1
length-code_of_one d q e = ap length (append-nil (rank q.perm ∷ map suc q.next)) ∙ omega (arith, length-map q.next suc, e)

more_length : (d j n m : ℕ) → n ≡ (d + 1) * j → m ≡ n + (d + 1) → m ≡ (d + 1) * (j + 1)
more_length d j n m e f = grind (arith, e, f)

pub IsWritten-start : (d bound : ℕ) (step : ℕ → ℕ → ℕ) (output : ℕ → List ℕ) (start : ℕ) (keys code : List ℕ) → start < bound → keys ≡ start ∷ [] → code ≡ [] → IsWritten d bound step output start keys 0 code
IsWritten-start d bound step output start keys code l e f = record { states = []; listed = IsListed-start d bound step output start keys l e; written = f; size = omega (arith, ap length f) }

pub IsWritten-more : (d bound : ℕ) (step : ℕ → ℕ → ℕ) (output : ℕ → List ℕ) (start : ℕ) (w w' : WalkView) (j key : ℕ) (q : State) (code code' : List ℕ) → IsWritten d bound step output start w.keys j code → j < length w.keys → key ≡ get_or w.keys j 0 → IsKeyListed d bound step output w w' key q → code' ≡ code ++ code_of (q ∷ []) → IsWritten d bound step output start w'.keys (j + 1) code'
IsWritten-more d bound step output start w w' j key q code code' h l e m f = record {
  states = h.states ++ q ∷ [];
  listed = IsListed-more d bound step output start w w' j key h.states q h.listed l e m;
  written = f ∙ ap (λ c. c ++ code_of (q ∷ [])) h.written ∙ sym (code_of-push h.states q);
  size = more_length d j (length code) (length code') h.size (ap length f ∙ length-append code (code_of (q ∷ [])) ∙ ap (λ n. length code + n) (length-code_of_one d q m.is.arity));
}

pub walk_is : (qs : List State) (s : ℕ) (v : List ℕ) → walk_after (next_state qs) s v ≡ state_after qs s v
walk_is qs s [] = refl
walk_is qs s (x ∷ v) = walk_is qs (next_state qs s x) v

module _ (d : ℕ) (rows : List Row) (m : IsMachine d rows) (others : AreUnlike rows) (s : ℕ) (sl : s < length rows) (keys : List ℕ) (states : List State) (h : IsListed d (length rows) (next_state (states_of rows)) (row_output (states_of rows)) s keys (length keys) states) (keyed : IsKeys 1024 keys) where
  abbrev ps : List State
  ps = states_of rows

  auto : IsAutomaton d ps
  auto = IsAutomaton-states_of d rows m

  below_states : (k : ℕ) → k < length rows → k < length ps
  below_states k l = omega (arith, l, length-states_of rows)

  after-lt : (k : ℕ) (v : List ℕ) → k < length ps → state_after ps k v < length ps
  after-lt k [] l = l
  after-lt k (x ∷ v) l = after-lt (next_state ps k x) v (next_state-lt d ps k x auto l)

  same_row : (i j : ℕ) → i < length rows → j < length rows → IsAlike (row_term rows i) (row_term rows j) → i ≡ j
  same_row i j a b e = elim (cases_lt i j) [
    | inl t ↦ absurd (others i j t b e)
    | inr t ↦ elim (cases_lt j i) [
      | inl u ↦ absurd (others j i u a (alike_sym e))
      | inr u ↦ omega (arith, t, u)
    ]
  ]

  section_is : (v : List ℕ) → IsWord d v → IsAlike (Section (row_term rows s) v) (row_term rows (walk_after (next_state ps) s v))
  section_is v a = let P : ℕ → Type 0 = λ k. IsAlike (Section (row_term rows s) v) (row_term rows k) in subst P (sym (walk_is ps s v)) (section_state d ps s v auto (below_states s sl) a)

  walk-lt : (v : List ℕ) → walk_after (next_state ps) s v < length rows
  walk-lt v = omega (arith, after-lt s v (below_states s sl), walk_is ps s v, length-states_of rows)

  one_key : (v w : List ℕ) → IsWord d v → IsWord d w → (walk_after (next_state ps) s v ≡ walk_after (next_state ps) s w → IsAlike (Section (row_term rows s) v) (Section (row_term rows s) w)) × (IsAlike (Section (row_term rows s) v) (Section (row_term rows s) w) → walk_after (next_state ps) s v ≡ walk_after (next_state ps) s w)
  one_key v w a b = (
    λ e. (let P : ℕ → Type 0 = λ k. IsAlike (Section (row_term rows s) v) (row_term rows k) in alike_trans (subst P e (section_is v a)) (alike_sym (section_is w b))),
    λ e. same_row _ _ (walk-lt v) (walk-lt w) (alike_trans (alike_sym (section_is v a)) (alike_trans e (section_is w b))),
  )

  nexts : (k x : ℕ) → k < length keys → IsLetter d x → (next_state states k x < length keys) × (get_or keys (next_state states k x) 0 ≡ next_state ps (get_or keys k 0) x)
  nexts k zero l a = absurd (omega (arith, a.0))
  nexts k (suc y) l a =
      let q = h.listed k l in
      let n = q.nexts y (omega (arith, a.1)) in
      let e : get_or (state_at states k).next y k ≡ get_or (state_at states k).next y 0 = get_or_default (state_at states k).next y k 0 (omega (arith, a.1, q.arity)) in
      rw e n

  automaton : IsAutomaton d states
  automaton = All-from_get_or (IsState d (length states)) states (record { perm = []; next = [] }) (λ k l.
      let kl : k < length keys = omega (arith, l, h.count) in
      let q = h.listed k kl in
      record {
        permutes = rw q.perm (state_is d ps (get_or keys k 0) auto (below_states _ (h.below k kl))).permutes;
        arity = q.arity;
        below = All-from_get_or (λ n. n < length states) (state_at states k).next 0 (λ y m. omega (arith, (q.nexts y (omega (arith, m, q.arity))).0, h.count));
      })

  outputs : (k x : ℕ) → k < length keys → IsLetter d x → act (Section (row_term rows s) (get_or h.words k [])) (x ∷ []) ≡ image (state_at states k).perm x ∷ []
  outputs k x l a =
      let key = get_or keys k 0 in
      let word = get_or h.words k [] in
      let e = (section_is word (h.ordered.valid k l)).images (x ∷ []) in
      let own = h.ordered.own k l in
      e ∙ ap (λ i. act (row_term rows i) (x ∷ [])) own ∙ act-state_term d ps key x [] auto (below_states key (h.below k l)) a ∙ ap (λ t. image (state_at ps key).perm x ∷ t) (act-nil (state_term ps (next_state ps key x))) ∙ ap (λ p. image p x ∷ []) (sym (h.listed k l).perm)

  pub IsCanonical-listed : IsCanonical d (row_term rows s) states
  IsCanonical-listed = IsCanonical-walked d (row_term rows s) (next_state ps) s keys h.words states h.ordered h.first keyed.distinct one_key automaton h.count outputs nexts

  pub IsCode-listed : (code : List ℕ) → code ≡ code_of states → IsCode d (row_term rows s) code
  IsCode-listed code e = record { states = states; canonical = IsCanonical-listed; written = e }

-- rows of machines over one alphabet act alike exactly where the code of one is that of the other
pub code_tells : (d e : ℕ) (rows others : List Row) (s t : ℕ) (a : List ℕ) → d ≡ e → IsMachine d rows → IsMachine e others → s < length rows → t < length others → IsCode d (row_term rows s) a → IsCode e (row_term others t) a ↔ IsAlike (row_term rows s) (row_term others t)
code_tells d e rows others s t a de m n sl tl x =
    let P : ℕ → Type 0 = λ k. IsMachine k others in
    let Q : ℕ → Type 0 = λ k. IsCode k (row_term others t) a in (
      λ y. alike_from_code d (row_term rows s) (row_term others t) a a (IsTerm-row_term d rows s m sl) (IsTerm-row_term d others t (subst P (sym de) n) tl) x (subst Q (sym de) y) refl,
      λ h. subst Q de (IsCode-alike d (row_term rows s) (row_term others t) a h x),
    )
