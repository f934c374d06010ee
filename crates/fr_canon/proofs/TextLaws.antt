-- A text is that of one list of states.
use Rattle.std.proofs.Common.{ℕ, suc, ◌≡◌, ◌+◌, ◌<◌, ◌≤◌, inl, List, [], ◌∷◌, ◌++◌, length, take, drop, map, refl, sym, ◌∙◌, ap, subst, arith, append_assoc}
use Rattle.std.specs.Prelude.{codes}
use Rattle.std.specs.List.{All}
use Rattle.std.specs.Fmt.{decimal}
use Rattle.std.proofs.lemmas.List.{append_cancel_left, append-nil, length-map, take_all, drop_all, drop_more}
use Rattle.std.proofs.lemmas.List.Elements.{All-head, All-tail, All-get_or}
use Rattle.fr_model.specs.Automata.{State, state_at, IsState}
use Rattle.fr_model.proofs.CanonicalLaws.{state_same}
use Rattle.fr_canon.specs.Texts.{numbers_text, state_line, state_text, states_text, count_line, count_text}
use Rattle.fr_canon.specs.Readings.{BeginsWith, IsMachineText, IsSyntaxFault, at_count, at_state, at_rest}
use Rattle.fr_canon.proofs.SplitLaws.{split_once, decimal_apart, same_number}
use Rattle.fr_canon.proofs.CycleReadLaws.{cycles_text-same}
use Rattle.fr_canon.proofs.StateLaws.{body, body_at, state_line-parts, small_numbers, cycles_at}
use Rattle.fr_canon.proofs.LineLaws.{Free-count_line, Free-state_line, line_first}

numbers_same : (ns ms : List ℕ) → length ns ≡ length ms → All (λ n. n < 10000) ns → All (λ n. n < 10000) ms → numbers_text ns ≡ numbers_text ms → ns ≡ ms
numbers_same [] [] l a b e = refl
numbers_same [] (m ∷ ms) l a b e = absurd (omega arith)
numbers_same (n ∷ ns) [] l a b e = absurd (omega arith)
numbers_same (n ∷ []) (m ∷ []) l a b e = ap (λ x. x ∷ []) (same_number n m (All-head (λ x. x < 10000) n [] a) (All-head (λ x. x < 10000) m [] b) e)
numbers_same (n ∷ []) (m ∷ k ∷ ms) l a b e = absurd (omega arith)
numbers_same (n ∷ k ∷ ns) (m ∷ []) l a b e = absurd (omega arith)
numbers_same (n ∷ k ∷ ns) (m ∷ j ∷ ms) l a b e =
    let h = decimal_apart 44 n m (numbers_text (k ∷ ns)) (numbers_text (j ∷ ms)) (inl (omega arith)) (All-head (λ x. x < 10000) n (k ∷ ns) a) (All-head (λ x. x < 10000) m (j ∷ ms) b) e in
    rw (h.0, numbers_same (k ∷ ns) (j ∷ ms) (omega arith) (All-tail (λ x. x < 10000) n (k ∷ ns) a) (All-tail (λ x. x < 10000) m (j ∷ ms) b) h.1) refl

sucs_same : (xs ys : List ℕ) → map suc xs ≡ map suc ys → xs ≡ ys
sucs_same [] [] e = refl
sucs_same [] (y ∷ ys) e = cc
sucs_same (x ∷ xs) [] e = cc
sucs_same (x ∷ xs) (y ∷ ys) e =
    let h : suc x ≡ suc y = cc in
    let t : map suc xs ≡ map suc ys = cc in
    let x' : x ≡ y = omega arith in
    rw (x', sucs_same xs ys t) refl

-- a state is told by its line
state_line-same : (d n m k : ℕ) (p q : State) → d ≤ 8 → n ≤ 1024 → m ≤ 1024 → IsState d n p → IsState d m q → state_line k p ≡ state_line k q → p ≡ q
state_line-same d n m k p q few a b s r e =
    let small_p = small_numbers n p.next a s.below in
    let small_q = small_numbers m q.next b r.below in
    let parts = cycles_at (map suc p.next) (map suc q.next) _ _ small_p small_q (body_at k q (state_line k p) (body p) (state_line-parts k p) e) in
    let width : length (map suc p.next) ≡ length (map suc q.next) = length-map p.next suc ∙ s.arity ∙ sym r.arity ∙ sym (length-map q.next suc) in
    state_same p q (cycles_text-same d p.perm q.perm few s.permutes r.permutes parts.1) (sucs_same p.next q.next (numbers_same (map suc p.next) (map suc q.next) width small_p small_q parts.0))

-- the first states of a text are those of its whole list
states_aligned : (d n m j : ℕ) (ps qs : List State) (rest : List ℕ) → d ≤ 8 → n ≤ 1024 → m ≤ 1024 → All (IsState d n) ps → All (IsState d m) qs → length ps ≤ length qs → j + length qs ≤ 1025 → states_text j ps ++ rest ≡ states_text j qs
    → (ps ≡ take (length ps) qs) × (rest ≡ states_text (j + length ps) (drop (length ps) qs))
states_aligned d n m j [] qs rest few a b s r l k e = (refl, e ∙ ap (λ i. states_text i qs) (omega arith))
states_aligned d n m j (p ∷ ps) [] rest few a b s r l k e = absurd (omega arith)
states_aligned d n m j (p ∷ ps) (q ∷ qs) rest few a b s r l k e =
    let sp = All-head (IsState d n) p ps s in
    let sq = All-head (IsState d m) q qs r in
    let left : (state_text j p ++ states_text (suc j) ps) ++ rest ≡ state_line j p ++ 10 ∷ (states_text (suc j) ps ++ rest) = append_assoc (state_text j p) (states_text (suc j) ps) rest ∙ line_first (state_line j p) (states_text (suc j) ps ++ rest) in
    let parts = split_once 10 (state_line j p) (state_line j q) (states_text (suc j) ps ++ rest) (states_text (suc j) qs) (Free-state_line d n j p a (omega arith) sp) (Free-state_line d m j q b (omega arith) sq) (sym left ∙ e ∙ line_first (state_line j q) (states_text (suc j) qs)) in
    let same = state_line-same d n m j p q few a b sp sq parts.0 in
    let rest' = states_aligned d n m (suc j) ps qs rest few a b (All-tail (IsState d n) p ps s) (All-tail (IsState d m) q qs r) (omega arith) (omega arith) parts.1 in
    let i : suc j + length ps ≡ j + suc (length ps) = omega arith in
    (ap (λ x. x ∷ ps) same ∙ ap (λ x. q ∷ x) rest'.0, rest'.1 ∙ ap (λ x. states_text x (drop (length ps) qs)) i)

count_same : (n m : ℕ) (r s : List ℕ) → n ≤ 1024 → m ≤ 1024 → count_text n ++ r ≡ count_text m ++ s → (n ≡ m) × (r ≡ s)
count_same n m r s a b e =
    let parts = split_once 10 (count_line n) (count_line m) r s (Free-count_line n a) (Free-count_line m b) (sym (line_first (count_line n) r) ∙ e ∙ line_first (count_line m) s) in
    (same_number n m (omega arith) (omega arith) (append_cancel_left (codes "states ") (decimal n) (decimal m) parts.0), parts.1)

module _ (d : ℕ) (text : List ℕ) (qs : List State) (few : d ≤ 8) (h : IsMachineText d qs text) where
  aligned : (n : ℕ) (ps : List State) (rest : List ℕ) → BeginsWith d n text ps rest → (n ≡ length qs) × (ps ≡ take (length ps) qs) × (rest ≡ states_text (1 + length ps) (drop (length ps) qs))
  aligned n ps rest b =
      let c = count_same n (length qs) (states_text 1 ps ++ rest) (states_text 1 qs) b.few h.few (sym b.written ∙ h.written) in
      let s = states_aligned d n (length qs) 1 ps qs rest few b.few h.few b.states h.automaton (omega (arith, b.within, c.0)) (omega (arith, h.few)) c.1 in
      (c.0, s.0, s.1)

  -- its lines are of their form
  pub no_syntax_fault : (line : ℕ) → IsSyntaxFault d text line → ⊥
  no_syntax_fault line (at_count none e) = none (length qs) (states_text 1 qs) h.some h.few h.written
  no_syntax_fault line (at_state n ps rest b l none e) =
      let s = aligned n ps rest b in
      let k = length ps in
      let kl : k < length qs = omega (arith, l, s.0) in
      let z : State = record { perm = []; next = [] } in
      let one : 1 + k ≡ k + 1 = omega arith in
      let P : ℕ → Type 0 = λ m. IsState d m (state_at qs k) in
      none (state_at qs k) (states_text (suc (k + 1)) (drop (k + 1) qs)) (subst P (sym s.0) (All-get_or (IsState d (length qs)) qs k z kl h.automaton))
      (s.2 ∙ ap (λ t. states_text (1 + k) t) (drop_more qs k z kl) ∙ ap (λ i. states_text i (state_at qs k ∷ drop (k + 1) qs)) one)
  no_syntax_fault line (at_rest n ps rest b l none e) =
      let s = aligned n ps rest b in
      none (s.2 ∙ ap (λ t. states_text (1 + length ps) t) (drop_all (length ps) qs (omega (arith, l, s.0))))

  -- and it is the text of no other states
  pub machine_text-same : (ps : List State) → IsMachineText d ps text → ps ≡ qs
  machine_text-same ps g =
      let s = aligned (length ps) ps [] (record { some = g.some; few = g.few; within = omega arith; states = g.automaton; written = g.written ∙ ap (λ t. count_text (length ps) ++ t) (sym (append-nil (states_text 1 ps))) }) in
      s.1 ∙ take_all (length ps) qs (omega (arith, s.0))
