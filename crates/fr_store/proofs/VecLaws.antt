-- What a store on blocks of rows knows.
use Rattle.std.proofs.Common.{ℕ, ◌≡◌, ◌+◌, ◌-◌, ◌<◌, List, [], ◌∷◌, length, get_or, refl, sym, ◌∙◌, ap, subst, arith, true, false, Bool, Option, Some, None, cond}
use Rattle.std.proofs.lemmas.List.{get_or_default}
use Rattle.std.proofs.lemmas.List.Elements.{All-from_get_or}
use Rattle.fr_model.specs.Words.{IsLetter, IsWord}
use Rattle.fr_model.specs.Permutations.{IsPermutation, image}
use Rattle.fr_model.specs.Terms.{Term, Section, IsTerm, IsAlike, act}
use Rattle.fr_model.specs.Automata.{state_at, next_state}
use Rattle.fr_model.specs.Canonical.{IsCode}
use Rattle.fr_model.proofs.AlikeLaws.{alike_sym, alike_trans, alike_section, section_section, section_nil}
use Rattle.fr_model.proofs.AutomatonLaws.{section_state_letter, act-state_letter, next_state-lt, state_is}
use Rattle.fr_model.proofs.CodeLaws.{code-same, alike_from_code, IsCode-alike}
use Rattle.fr_machine.specs.declared.row.Row.{Row}
use Rattle.fr_machine.specs.Rows.{row_term, states_of}
use Rattle.fr_machine.proofs.RowLaws.{IsAutomaton-states_of, length-states_of, IsTerm-row_term}
use Rattle.fr_store.specs.declared.blocks.Place.{Place}
use Rattle.fr_store.specs.declared.handle.Handle.{Handle}
use Rattle.fr_store.specs.Store.{StandsForTerm, IsKnown, AreHandles, IsUnknown, IsHandleCount, known_code}
use Rattle.fr_store.specs.Blocks.{place_at, block, code_at, next_at, AreBlocks}
use Rattle.fr_store.specs.Index.{holds, known_in, IsNew, IsIndex}
use Rattle.fr_store.proofs.StoreLaws.{IsKnown-from, stands_alike}
use Rattle.fr_store.proofs.BlockLaws.{length-block, IsCode-code_at}
use Rattle.fr_store.proofs.IndexLaws.{holds_at, holds_of, handle-lt_rows, rises_apart, one_handle}

pub known_is : (code : ℕ → List ℕ) (handles : List ℕ) (n : ℕ) (c : List ℕ) → known_in code handles n ≡ Some c → (holds handles n ≡ true) × (code n ≡ c)
known_is code handles n c is = by_test (holds handles n) refl is
  where
    by_test : (b : Bool) → holds handles n ≡ b → cond b (Some (code n)) None ≡ Some c → (holds handles n ≡ true) × (code n ≡ c)
    by_test true e is = (e, cc)
    by_test false e is = absurd (cc)

pub known_from : (code : ℕ → List ℕ) (handles : List ℕ) (n : ℕ) (c : List ℕ) → holds handles n ≡ true → code n ≡ c → known_in code handles n ≡ Some c
known_from code handles n c h e = ap (λ (b : Bool). cond b (Some (code n)) None) h ∙ ap (λ (d : List ℕ). Some d) e

pub IsKnown-holds : (code : ℕ → List ℕ) (handles : List ℕ) (h : Handle) → holds handles h.node ≡ true → IsKnown (known_in code handles) h
IsKnown-holds code handles h e = IsKnown-from (known_in code handles) h (code h.node) (known_from code handles h.node (code h.node) e refl)

pub holds-IsKnown : (code : ℕ → List ℕ) (handles : List ℕ) (h : Handle) → IsKnown (known_in code handles) h → (holds handles h.node ≡ true) × (code h.node ≡ known_code (known_in code handles) h)
holds-IsKnown code handles h k = known_is code handles h.node (known_code (known_in code handles) h) k

module _ (d : ℕ) (rows : List Row) (places : List Place) (a : AreBlocks d rows places) where
  abbrev code : ℕ → List ℕ
  code = code_at d rows places

  abbrev mine : ℕ → List Row
  mine r = block rows (place_at places r)

  abbrev at : ℕ → ℕ
  at r = r - (place_at places r).start

  abbrev own : ℕ → Term
  own r = row_term (mine r) (at r)

  at-lt : (r : ℕ) → r < length rows → at r < length (mine r)
  at-lt r l = let h = a.placed r l in let n = length-block d rows places r (place_at places r) h in omega (arith, n, h.starts, h.inside)

  at_state-lt : (r : ℕ) → r < length rows → at r < length (states_of (mine r))
  at_state-lt r l = let n = length-states_of (mine r) in let m = at-lt r l in omega (arith, n, m)

  pub IsTerm-own : (r : ℕ) → r < length rows → IsTerm d (own r)
  IsTerm-own r l = IsTerm-row_term d (mine r) (at r) (a.placed r l).machine (at-lt r l)

  next-lt : (r x : ℕ) → r < length rows → next_at rows places r x < length rows
  next-lt r x l =
      let h = a.placed r l in
      let n = length-block d rows places r (place_at places r) h in
      let m = length-states_of (mine r) in
      let k = next_state-lt d (states_of (mine r)) (at r) x (IsAutomaton-states_of d (mine r) h.machine) (at_state-lt r l) in
      omega (arith, n, m, k, h.within)

  own-next : (r x : ℕ) → r < length rows → own (next_at rows places r x) ≡ row_term (mine r) (next_state (states_of (mine r)) (at r) x)
  own-next r x l =
      let h = a.placed r l in
      let q = place_at places r in
      let s = next_state (states_of (mine r)) (at r) x in
      let n = length-block d rows places r q h in
      let m = length-states_of (mine r) in
      let k = next_state-lt d (states_of (mine r)) (at r) x (IsAutomaton-states_of d (mine r) h.machine) (at_state-lt r l) in
      let e : place_at places (q.start + s) ≡ q = h.shared s (omega (arith, n, m, k)) in
      let z : q.start + s - q.start ≡ s = omega arith in
      ap (λ (p : Place). row_term (block rows p) (q.start + s - p.start)) e ∙ ap (row_term (mine r)) z

  section_next : (r x : ℕ) → r < length rows → IsLetter d x → IsAlike (Section (own r) (x ∷ [])) (own (next_at rows places r x))
  section_next r x l c =
      let P : Term → Type 0 = λ t. IsAlike (Section (own r) (x ∷ [])) t in
      subst P (sym (own-next r x l)) (section_state_letter d (states_of (mine r)) (at r) x (IsAutomaton-states_of d (mine r) (a.placed r l).machine) (at_state-lt r l) c)

  -- rows with one code lead to rows with one code
  pub code-next : (r s x : ℕ) → r < length rows → s < length rows → IsLetter d x → code r ≡ code s → code (next_at rows places r x) ≡ code (next_at rows places s x)
  code-next r s x l m c e =
      let p = next_at rows places r x in
      let q = next_at rows places s x in
      let same = alike_from_code d (own r) (own s) (code r) (code s) (IsTerm-own r l) (IsTerm-own s m) (IsCode-code_at d rows places r (a.placed r l)) (IsCode-code_at d rows places s (a.placed s m)) e in
      let next = alike_trans (alike_sym (section_next r x l c)) (alike_trans (alike_section (x ∷ []) same) (section_next s x m c)) in
      code-same d (own p) (own q) (code p) (code q) (IsCode-code_at d rows places p (a.placed p (next-lt r x l))) (IsCode-code_at d rows places q (a.placed q (next-lt s x m))) next

  module _ (handles links : List ℕ) (i : IsIndex code (length rows) handles links) (whole : length links ≡ length rows) where
    abbrev known : ℕ → Option (List ℕ)
    known = known_in code handles

    pub handle-lt : (n : ℕ) → holds handles n ≡ true → n < length rows
    handle-lt n h = handle-lt_rows code (length rows) handles i.distinct n h

    -- a term of a handle acts as its row
    pub own_alike : (h : Handle) (t : Term) → StandsForTerm d known h t → IsAlike t (own h.node)
    own_alike h t s =
        let k = known_is code handles h.node s.code s.at in
        let l = handle-lt h.node k.0 in
        alike_from_code d t (own h.node) s.code (code h.node) s.term (IsTerm-own h.node l) s.is_code (IsCode-code_at d rows places h.node (a.placed h.node l)) (sym k.1)

    -- a handle with the code of a row stands for what acts as the row
    pub stands : (n r : ℕ) (t : Term) → holds handles n ≡ true → r < length rows → code n ≡ code r → IsTerm d t → IsAlike (own r) t → StandsForTerm d known (record { node = n }) t
    stands n r t h l e c same = record {
      term = c;
      code = code r;
      is_code = IsCode-alike d (own r) t (code r) same (IsCode-code_at d rows places r (a.placed r l));
      at = known_from code handles n (code r) h e;
    }

    -- the handle of the section at a letter
    pub stands-section : (h : Handle) (x : ℕ) (t : Term) → StandsForTerm d known h t → IsLetter d x → StandsForTerm d known (record { node = get_or links (next_at rows places h.node x) 0 }) (Section t (x ∷ []))
    stands-section h x t s c =
        let k = known_is code handles h.node s.code s.at in
        let l = handle-lt h.node k.0 in
        let r = next_at rows places h.node x in
        let n : r < length rows = next-lt h.node x l in
        let m : r < length links = omega (arith, n, whole) in
        stands (get_or links r 0) r (Section t (x ∷ [])) (i.is_handle r m) n (i.linked r m) (s.term, (c, tt)) (alike_sym (alike_trans (alike_section (x ∷ []) (own_alike h t s)) (section_next h.node x l c)))

    closed : (w : List ℕ) (h : Handle) (t : Term) → StandsForTerm d known h t → IsWord d w → (k : Handle) × StandsForTerm d known k (Section t w)
    closed [] h t s c = (h, stands_alike d known h t (Section t []) s (s.term, c) (alike_sym (section_nil t)))
    closed (x ∷ w) h t s c =
        let k = closed w (record { node = get_or links (next_at rows places h.node x) 0 }) (Section t (x ∷ [])) (stands-section h x t s c.0) c.1 in
        (k.0, stands_alike d known k.0 (Section (Section t (x ∷ [])) w) (Section t (x ∷ w)) k.1 (s.term, c) (section_section t (x ∷ []) w))

    pub AreHandles-index : AreHandles d known
    AreHandles-index = record {
      distinct = λ n m c p q. (let k = known_is code handles n c p in let l = known_is code handles m c q in one_handle code (length rows) handles i.distinct n m k.0 l.0 (k.1 ∙ sym l.1));
      elements = λ n c p.
          let k = known_is code handles n c p in
          let l = handle-lt n k.0 in
          let P : List ℕ → Type 0 = λ e. IsCode d (own n) e in
          (own n, IsTerm-own n l, subst P k.1 (IsCode-code_at d rows places n (a.placed n l)));
      closed = λ h t w s c. closed w h t s c;
    }

    pub same_handles : (h k : Handle) → holds handles h.node ≡ true → holds handles k.node ≡ true → code h.node ≡ code k.node → h.node ≡ k.node
    same_handles h k p q e = one_handle code (length rows) handles i.distinct h.node k.node p q e

    pub output-images : (h : Handle) (t : Term) (x : ℕ) (p : List ℕ) → p ≡ (state_at (states_of (mine h.node)) (at h.node)).perm → StandsForTerm d known h t → IsLetter d x → act t (x ∷ []) ≡ image p x ∷ []
    output-images h t x p e s c =
        let k = known_is code handles h.node s.code s.at in
        let l = handle-lt h.node k.0 in
        (own_alike h t s).images (x ∷ []) ∙ act-state_letter d (states_of (mine h.node)) (at h.node) x (IsAutomaton-states_of d (mine h.node) (a.placed h.node l).machine) (at_state-lt h.node l) c ∙ ap (λ q. image q x ∷ []) (sym e)

    pub output-permutes : (n : ℕ) (p : List ℕ) → holds handles n ≡ true → p ≡ (state_at (states_of (mine n)) (at n)).perm → IsPermutation d p
    output-permutes n p h e =
        let l = handle-lt n h in
        let P : List ℕ → Type 0 = λ q. IsPermutation d q in
        subst P (sym e) (state_is d (states_of (mine n)) (at n) (IsAutomaton-states_of d (mine n) (a.placed n l).machine) (at_state-lt n l)).permutes

    pub handle_holds : (h : Handle) → IsKnown known h → holds handles h.node ≡ true
    handle_holds h k = (holds-IsKnown code handles h k).0

    pub handle_row : (h : Handle) → IsKnown known h → h.node < length rows
    handle_row h k = handle-lt h.node (handle_holds h k)

    pub handle_code : (h : Handle) (t : Term) (s : StandsForTerm d known h t) → code h.node ≡ s.code
    handle_code h t s = (known_is code handles h.node s.code s.at).1

    pub IsCode-handle : (h : Handle) → IsKnown known h → IsCode d (own h.node) (code h.node)
    IsCode-handle h k = IsCode-code_at d rows places h.node (a.placed h.node (handle_row h k))

    pub equal_codes : (h k : Handle) → IsKnown known h → IsKnown known k → (h.node ≡ k.node → known_code known h ≡ known_code known k) × (known_code known h ≡ known_code known k → h.node ≡ k.node)
    equal_codes h k p q =
        let x = holds-IsKnown code handles h p in
        let y = holds-IsKnown code handles k q in
        (λ e. sym x.1 ∙ ap code e ∙ y.1, λ e. same_handles h k x.0 y.0 (x.1 ∙ e ∙ sym y.1))

    pub equal_alike : (h k : Handle) (t u : Term) → StandsForTerm d known h t → StandsForTerm d known k u → (h.node ≡ k.node → IsAlike t u) × (IsAlike t u → h.node ≡ k.node)
    equal_alike h k t u p q =
        let x = known_is code handles h.node p.code p.at in
        let y = known_is code handles k.node q.code q.at in (
          λ e. alike_from_code d t u p.code q.code p.term q.term p.is_code q.is_code (sym x.1 ∙ ap code e ∙ y.1),
          λ e. same_handles h k x.0 y.0 (x.1 ∙ code-same d t u p.code q.code p.is_code q.is_code e ∙ sym y.1),
        )

    -- a code that no handle has is not known
    pub IsUnknown-new : (t : Term) (out : List ℕ) → IsNew code handles out → ((c : List ℕ) → IsCode d t c → c ≡ out) → IsUnknown d known t
    IsUnknown-new t out new only n c k is = let x = known_is code handles n c k in new n x.0 (x.1 ∙ only c is)

    pub handle_count : IsHandleCount known (length handles)
    handle_count = record {
      members = handles;
      count = refl;
      valid = All-from_get_or (λ n. (c : List ℕ) × (known n ≡ Some c)) handles 0 (λ k l. (code (get_or handles k 0), known_from code handles (get_or handles k 0) (code (get_or handles k 0)) (holds_of handles k (get_or handles k 0) l refl) refl));
      apart = λ k j z l m e.
          let kl : k < length handles = omega (arith, l, m) in
          let same : get_or handles k 0 ≡ get_or handles j 0 = get_or_default handles k 0 z kl ∙ e ∙ get_or_default handles j z 0 m in
          rises_apart code (length rows) handles i.distinct k j l m same;
      covers = λ n v.
          let k = holds_at handles n (known_is code handles n v.0 v.1).0 in
          (k.0, k.1, sym k.2 ∙ get_or_default handles k.0 0 n k.1);
    }
