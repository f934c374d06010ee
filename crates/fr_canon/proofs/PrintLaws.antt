-- The text of a machine, line by line.
use Rattle.std.proofs.Common.{ℕ, zero, suc, ◌≡◌, ◌+◌, ◌*◌, ◌/◌, ◌<◌, ◌≤◌, List, [], ◌∷◌, ◌++◌, length, take, drop, map, get_or, refl, sym, ◌∙◌, ap, subst, arith, append_assoc}
use Rattle.std.specs.Prelude.{codes}
use Rattle.std.specs.List.{All, join_with_byte}
use Rattle.std.specs.Fmt.{decimal}
use Rattle.std.proofs.Math.Nat.{mul-div_cancel, mul-le-mul_right}
use Rattle.std.proofs.lemmas.List.{append-nil, drop_more, take_more, take_all, take_at, drop_at, drop-drop, length-map, length-take-le, length-append}
use Rattle.std.proofs.lemmas.List.Elements.{All-get_or, All-head, All-tail}
use Rattle.fr_model.specs.Automata.{State, state_at, IsState, IsAutomaton}
use Rattle.fr_model.specs.Canonical.{code_of}
use Rattle.fr_model.specs.Ranks.{rank}
use Rattle.fr_alphabet.specs.Cycles.{cycles_text}
use Rattle.fr_canon.specs.Texts.{numbers_text, wreath_text, state_line, state_text, states_text, machine_text, IsStateCode}

join-push : (x : List ℕ) (xs : List (List ℕ)) (y : List ℕ) → join_with_byte 44 ((x ∷ xs) ++ y ∷ []) ≡ join_with_byte 44 (x ∷ xs) ++ 44 ∷ y
join-push x [] y = refl
join-push x (z ∷ xs) y = ap (λ l. x ++ 44 ∷ l) (join-push z xs y) ∙ sym (append_assoc x (44 ∷ join_with_byte 44 (z ∷ xs)) (44 ∷ y))

numbers_text-push : (n : ℕ) (ns : List ℕ) (m : ℕ) → numbers_text ((n ∷ ns) ++ m ∷ []) ≡ numbers_text (n ∷ ns) ++ 44 ∷ decimal m
numbers_text-push n ns m = ap (join_with_byte 44) (map_push (n ∷ ns) m) ∙ join-push (decimal n) (map decimal ns) (decimal m)
  where
    map_push : (xs : List ℕ) (y : ℕ) → map decimal (xs ++ y ∷ []) ≡ map decimal xs ++ decimal y ∷ []
    map_push [] y = refl
    map_push (x ∷ xs) y = ap (λ l. decimal x ∷ l) (map_push xs y)

-- the first number
pub numbers_first : (ns old out out' : List ℕ) (i n : ℕ) → i ≡ 0 → i < length ns → n ≡ get_or ns i 0 → out ≡ old ++ numbers_text (take i ns) → out' ≡ out ++ decimal n → out' ≡ old ++ numbers_text (take (i + 1) ns)
numbers_first ns old out out' i n z l e f g =
    let first : take i ns ≡ [] = ap (λ k. take k ns) z in
    let one : take (i + 1) ns ≡ n ∷ [] = take_more ns i 0 l ∙ ap (λ t. t ++ get_or ns i 0 ∷ []) first ∙ ap (λ x. x ∷ []) (sym e) in
    g ∙ ap (λ l. l ++ decimal n) (f ∙ ap (λ t. old ++ numbers_text t) first ∙ append-nil old) ∙ ap (λ t. old ++ numbers_text t) (sym one)

-- one more number, behind a comma
pub numbers_more : (ns old out mid out' : List ℕ) (i n : ℕ) → 0 < i → i < length ns → n ≡ get_or ns i 0 → out ≡ old ++ numbers_text (take i ns) → mid ≡ out ++ 44 ∷ [] → out' ≡ mid ++ decimal n → out' ≡ old ++ numbers_text (take (i + 1) ns)
numbers_more ns old out mid out' i n z l e f m g =
    let more : numbers_text (take (i + 1) ns) ≡ numbers_text (take i ns) ++ 44 ∷ decimal n = ap numbers_text (take_more ns i 0 l ∙ ap (λ x. take i ns ++ x ∷ []) (sym e)) ∙ some (take i ns) (omega (arith, length-take-le i ns (omega arith))) in
    g ∙ ap (λ l. l ++ decimal n) (m ∙ ap (λ l. l ++ 44 ∷ []) f ∙ append_assoc old (numbers_text (take i ns)) (44 ∷ []))
    ∙ append_assoc old (numbers_text (take i ns) ++ 44 ∷ []) (decimal n) ∙ ap (λ l. old ++ l) (append_assoc (numbers_text (take i ns)) (44 ∷ []) (decimal n) ∙ sym more)
  where
    some : (xs : List ℕ) → 0 < length xs → numbers_text (xs ++ n ∷ []) ≡ numbers_text xs ++ 44 ∷ decimal n
    some [] h = absurd (omega arith)
    some (x ∷ xs) h = numbers_text-push x xs n

-- the pieces of a state's line
pub state_text-pieces : (k : ℕ) (q : State) (old o1 o2 o3 o4 o5 o6 numbers p : List ℕ) → numbers ≡ map suc q.next → p ≡ q.perm
    → o1 ≡ old ++ decimal k → o2 ≡ o1 ++ codes " = <" → o3 ≡ o2 ++ numbers_text numbers → o4 ≡ o3 ++ 62 ∷ [] → o5 ≡ o4 ++ cycles_text p → o6 ≡ o5 ++ 10 ∷ [] → o6 ≡ old ++ state_text k q
unfolding state_line wreath_text
state_text-pieces k q old o1 o2 o3 o4 o5 o6 numbers p n e a b c d f g =
    let all : o6 ≡ (((((old ++ decimal k) ++ codes " = <") ++ numbers_text (map suc q.next)) ++ 62 ∷ []) ++ cycles_text q.perm) ++ 10 ∷ [] = rw (g, f, d, c, b, a, n, e) refl in
    all ∙ simp append_assoc

pub states_text-push : (k : ℕ) (qs : List State) (q : State) → states_text k (qs ++ q ∷ []) ≡ states_text k qs ++ state_text (k + length qs) q
states_text-push k [] q = append-nil (state_text k q) ∙ ap (λ j. state_text j q) (omega arith)
states_text-push k (p ∷ qs) q =
    let e : suc k + length qs ≡ k + suc (length qs) = omega arith in
    ap (λ t. state_text k p ++ t) (states_text-push (suc k) qs q ∙ ap (λ j. states_text (suc k) qs ++ state_text j q) e) ∙ sym (append_assoc (state_text k p) (states_text (suc k) qs) (state_text (k + suc (length qs)) q))

pub code_of-length : (d : ℕ) (qs : List State) (n : ℕ) → All (IsState d n) qs → length (code_of qs) ≡ length qs * (d + 1)
code_of-length d [] n a = omega arith
code_of-length d (q ∷ qs) n a =
    let s = All-head (IsState d n) q qs a in
    let rest = code_of-length d qs n (All-tail (IsState d n) q qs a) in
    let part : length (rank q.perm ∷ map suc q.next) ≡ d + 1 = omega (arith, length-map q.next suc, s.arity) in
    length-append (rank q.perm ∷ map suc q.next) (code_of qs) ∙ rw (part, rest) (by (length qs) (d + 1))
  where
    by : (n m : ℕ) → m + n * m ≡ suc n * m
    by n m = grind arith

-- how many states a code has
pub count_is : (d : ℕ) (qs : List State) (code : List ℕ) → IsAutomaton d qs → code ≡ code_of qs → length code / (d + 1) ≡ length qs
count_is d qs code a e = rw (e, code_of-length d qs (length qs) a) (mul-div_cancel (length qs) (omega arith))

-- the code of the states from one on
code_of-drop : (d n : ℕ) (qs : List State) (k : ℕ) → All (IsState d n) qs → k ≤ length qs → drop (k * (d + 1)) (code_of qs) ≡ code_of (drop k qs)
code_of-drop d n qs zero a l = let e : 0 * (d + 1) ≡ 0 = omega arith in ap (λ m. drop m (code_of qs)) e
code_of-drop d n [] (suc k) a l = absurd (omega arith)
code_of-drop d n (q ∷ qs) (suc k) a l =
    let s = All-head (IsState d n) q qs a in
    let part : List ℕ = rank q.perm ∷ map suc q.next in
    let width : length part ≡ d + 1 = omega (arith, length-map q.next suc, s.arity) in
    let e : suc k * (d + 1) ≡ (d + 1) + k * (d + 1) = grind arith in
    ap (λ m. drop m (part ++ code_of qs)) e ∙ sym (drop-drop (k * (d + 1)) (d + 1) (part ++ code_of qs)) ∙ ap (drop (k * (d + 1))) (drop_at part (code_of qs) (d + 1) width)
    ∙ code_of-drop d n qs k (All-tail (IsState d n) q qs a) (omega arith)

module _ (d : ℕ) (qs : List State) (auto : IsAutomaton d qs) (code : List ℕ) (is : code ≡ code_of qs) (k : ℕ) (l : k < length code / (d + 1)) where
  below : k < length qs
  below = omega (arith, l, count_is d qs code auto is)

  state : IsState d (length qs) (state_at qs k)
  state = All-get_or (IsState d (length qs)) qs k (record { perm = []; next = [] }) below auto

  pub part_within : k * (d + 1) + (d + 1) ≤ length code
  part_within = rw (is, code_of-length d qs (length qs) auto) (by (length qs) (d + 1) below)
    where
      by : (n m : ℕ) → k < n → k * m + m ≤ n * m
      by n m h = let e : k * m + m ≡ (k + 1) * m = grind arith in rw e (mul-le-mul_right m (omega arith))

  pub IsStateCode-part : IsStateCode d (take (d + 1) (drop (k * (d + 1)) code)) (state_at qs k)
  IsStateCode-part =
      let q = state_at qs k in
      let part : List ℕ = rank q.perm ∷ map suc q.next in
      let width : length part ≡ d + 1 = omega (arith, length-map q.next suc, state.arity) in
      let split : drop (k * (d + 1)) code ≡ part ++ code_of (drop (k + 1) qs) = ap (drop (k * (d + 1))) is ∙ code_of-drop d (length qs) qs k auto (omega (arith, below)) ∙ ap code_of (drop_more qs k (record { perm = []; next = [] }) below) in
      record { permutes = state.permutes; arity = state.arity; written = ap (take (d + 1)) split ∙ take_at part (code_of (drop (k + 1) qs)) (d + 1) width }

  pub part_is : (width : ℕ) (part : List ℕ) → width ≡ d + 1 → part ≡ take width (drop (k * width) code) → IsStateCode d part (state_at qs k)
  part_is width part w e = let P : List ℕ → Type 0 = λ ns. IsStateCode d ns (state_at qs k) in subst P (sym (e ∙ ap (λ m. take m (drop (k * m) code)) w)) IsStateCode-part

  -- the line of one state more
  pub printed_more : (old out out' : List ℕ) → out ≡ old ++ states_text 1 (take k qs) → out' ≡ out ++ state_text (k + 1) (state_at qs k) → out' ≡ old ++ states_text 1 (take (k + 1) qs)
  printed_more old out out' e f =
      let q = state_at qs k in
      let before : 1 + length (take k qs) ≡ k + 1 = omega (arith, length-take-le k qs (omega (arith, below))) in
      f ∙ ap (λ t. t ++ state_text (k + 1) q) e ∙ append_assoc old (states_text 1 (take k qs)) (state_text (k + 1) q)
      ∙ ap (λ j. old ++ (states_text 1 (take k qs) ++ state_text j q)) (sym before) ∙ ap (λ t. old ++ t) (sym (states_text-push 1 (take k qs) q))
      ∙ ap (λ ps. old ++ states_text 1 ps) (sym (take_more qs k (record { perm = []; next = [] }) below))

pub printed_all : (d : ℕ) (qs : List State) (code : List ℕ) (k : ℕ) (old out : List ℕ) → IsAutomaton d qs → code ≡ code_of qs → length code / (d + 1) ≤ k → out ≡ old ++ states_text 1 (take k qs) → out ≡ old ++ states_text 1 qs
printed_all d qs code k old out a e l f = f ∙ ap (λ ps. old ++ states_text 1 ps) (take_all k qs (omega (arith, l, count_is d qs code a e)))

-- the line of the count, and the states
pub machine_text-pieces : (qs : List State) (n : ℕ) (old o1 o2 o3 out : List ℕ) → n ≡ length qs → o1 ≡ old ++ codes "states " → o2 ≡ o1 ++ decimal n → o3 ≡ o2 ++ 10 ∷ [] → out ≡ o3 ++ states_text 1 qs → out ≡ old ++ machine_text qs
machine_text-pieces qs n old o1 o2 o3 out e a b c f =
    let all : out ≡ (((old ++ codes "states ") ++ decimal (length qs)) ++ 10 ∷ []) ++ states_text 1 qs = rw (f, c, b, a, e) refl in
    all ∙ simp append_assoc
