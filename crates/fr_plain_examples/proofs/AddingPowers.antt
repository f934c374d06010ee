-- The powers of the adding machine from t^-3 to t^5 as the states of one automaton: the state k is t^(k - 3). So products of
-- powers are sums of numbers.
use Rattle.std.proofs.Common.{ℕ, zero, suc, ◌≡◌, ◌+◌, ◌-◌, ◌*◌, ◌/◌, ◌%◌, ◌<◌, ◌≤◌, ◌⊎◌, inl, inr, List, [], ◌∷◌, length, refl, sym, ap, ◌∙◌, arith}
use Rattle.std.specs.List.{IsDistinct}
use Rattle.std.proofs.lemmas.List.Elements.{All-from_recursion}
use Rattle.fr_model.specs.Words.{IsLetter, IsWord}
use Rattle.fr_model.specs.Permutations.{IsPermutation, image}
use Rattle.fr_model.specs.Systems.{IsWreath}
use Rattle.fr_model.specs.Automata.{State, state_at, next_state, state_term, IsState, IsAutomaton}
use Rattle.fr_model.specs.Terms.{One, Inverse, Product, act, IsTerm, IsAlike}
use Rattle.fr_model.proofs.SystemLaws.{act_product-nil}
use Rattle.fr_model.proofs.AlikeLaws.{alike_from_words, act-nil}
use Rattle.fr_model.proofs.AutomatonLaws.{IsTerm-state_term, act-state_term}
use Rattle.fr_model_examples.specs.Groups.{adding_machine}
use Rattle.fr_model_examples.specs.Automata.{state}
use Rattle.fr_plain_examples.specs.Scripts.{t_term}

swapping : IsPermutation 2 (2 ∷ 1 ∷ [])
unfolding IsDistinct
swapping = record { degree = refl; letters = ((omega arith, omega arith), ((omega arith, omega arith), tt)); distinct = ((refl, tt), (tt, tt)) }

staying : IsPermutation 2 (1 ∷ 2 ∷ [])
unfolding IsDistinct
staying = record { degree = refl; letters = ((omega arith, omega arith), ((omega arith, omega arith), tt)); distinct = ((refl, tt), (tt, tt)) }

pub two_letters : (x : ℕ) → IsLetter 2 x → (x ≡ 1) ⊎ (x ≡ 2)
two_letters zero h = absurd (omega (arith, h.0))
two_letters (suc zero) h = inl refl
two_letters (suc (suc zero)) h = inr refl
two_letters (suc (suc (suc k))) h = absurd (omega (arith, h.1))

-- t^-3, t^-2, t^-1, 1, t, t^2, t^3, t^4 and t^5
unfoldable pub powers : List State
powers =
    state (2 ∷ 1 ∷ []) (1 ∷ 2 ∷ [])
    ∷ state (1 ∷ 2 ∷ []) (2 ∷ 2 ∷ [])
    ∷ state (2 ∷ 1 ∷ []) (2 ∷ 3 ∷ [])
    ∷ state (1 ∷ 2 ∷ []) (3 ∷ 3 ∷ [])
    ∷ state (2 ∷ 1 ∷ []) (3 ∷ 4 ∷ [])
    ∷ state (1 ∷ 2 ∷ []) (4 ∷ 4 ∷ [])
    ∷ state (2 ∷ 1 ∷ []) (4 ∷ 5 ∷ [])
    ∷ state (1 ∷ 2 ∷ []) (5 ∷ 5 ∷ [])
    ∷ state (2 ∷ 1 ∷ []) (5 ∷ 6 ∷ [])
    ∷ []

is_state : (p : List ℕ) (a b : ℕ) → IsPermutation 2 p → a < 9 → b < 9 → IsState 2 9 (state p (a ∷ b ∷ []))
is_state p a b permutes l m = record { permutes = permutes; arity = refl; below = All-from_recursion (λ n. n < 9) (a ∷ b ∷ []) (l, (m, tt)) }

pub automaton : IsAutomaton 2 powers
unfolding powers
automaton = All-from_recursion (IsState 2 9) powers (
  is_state (2 ∷ 1 ∷ []) 1 2 swapping (omega arith) (omega arith),
  (is_state (1 ∷ 2 ∷ []) 2 2 staying (omega arith) (omega arith), (is_state (2 ∷ 1 ∷ []) 2 3 swapping (omega arith) (omega arith), (is_state (1 ∷ 2 ∷ []) 3 3 staying (omega arith) (omega arith), (is_state (2 ∷ 1 ∷ []) 3 4 swapping (omega arith) (omega arith), (is_state (1 ∷ 2 ∷ []) 4 4 staying (omega arith) (omega arith), (is_state (2 ∷ 1 ∷ []) 4 5 swapping (omega arith) (omega arith), (is_state (1 ∷ 2 ∷ []) 5 5 staying (omega arith) (omega arith), (is_state (2 ∷ 1 ∷ []) 5 6 swapping (omega arith) (omega arith), tt)))))))),
)

at_one : (k : ℕ) → k < 9 → (next_state powers k 1 ≡ (k + 2 + 1) / 2) × (image (state_at powers k).perm 1 ≡ 1 + (1 + k) % 2)
unfolding powers
at_one zero l = (refl, refl)
at_one (suc zero) l = (refl, refl)
at_one (suc (suc zero)) l = (refl, refl)
at_one (suc (suc (suc zero))) l = (refl, refl)
at_one (suc (suc (suc (suc zero)))) l = (refl, refl)
at_one (suc (suc (suc (suc (suc zero))))) l = (refl, refl)
at_one (suc (suc (suc (suc (suc (suc zero)))))) l = (refl, refl)
at_one (suc (suc (suc (suc (suc (suc (suc zero))))))) l = (refl, refl)
at_one (suc (suc (suc (suc (suc (suc (suc (suc zero)))))))) l = (refl, refl)
at_one (suc (suc (suc (suc (suc (suc (suc (suc (suc k))))))))) l = absurd (omega arith)

at_two : (k : ℕ) → k < 9 → (next_state powers k 2 ≡ (k + 2 + 2) / 2) × (image (state_at powers k).perm 2 ≡ 1 + (2 + k) % 2)
unfolding powers
at_two zero l = (refl, refl)
at_two (suc zero) l = (refl, refl)
at_two (suc (suc zero)) l = (refl, refl)
at_two (suc (suc (suc zero))) l = (refl, refl)
at_two (suc (suc (suc (suc zero)))) l = (refl, refl)
at_two (suc (suc (suc (suc (suc zero))))) l = (refl, refl)
at_two (suc (suc (suc (suc (suc (suc zero)))))) l = (refl, refl)
at_two (suc (suc (suc (suc (suc (suc (suc zero))))))) l = (refl, refl)
at_two (suc (suc (suc (suc (suc (suc (suc (suc zero)))))))) l = (refl, refl)
at_two (suc (suc (suc (suc (suc (suc (suc (suc (suc k))))))))) l = absurd (omega arith)

count : length powers ≡ 9
unfolding powers
count = refl

pub listed : (k : ℕ) → k < 9 → k < length powers
listed k l = omega (arith, count)

pub below_nine : (k : ℕ) → k < length powers → k < 9
below_nine k l = omega (arith, count)

-- where a letter leads, and where it goes
pub row : (k x : ℕ) → k < 9 → IsLetter 2 x → (next_state powers k x ≡ (k + 2 + x) / 2) × (image (state_at powers k).perm x ≡ 1 + (x + k) % 2)
row k zero l h = absurd (omega (arith, h.0))
row k (suc zero) l h = at_one k l
row k (suc (suc zero)) l h = at_two k l
row k (suc (suc (suc n))) l h = absurd (omega (arith, h.1))

pub acts : (k x : ℕ) (w : List ℕ) → k < 9 → IsLetter 2 x → act (state_term powers k) (x ∷ w) ≡ image (state_at powers k).perm x ∷ act (state_term powers (next_state powers k x)) w
acts k x w l h = act-state_term 2 powers k x w automaton (listed k l) h

pub term : (k : ℕ) → k < 9 → IsTerm 2 (state_term powers k)
term k l = IsTerm-state_term 2 powers k automaton (listed k l)

-- one power and then another is the power of the sum of their exponents
sums : (i j : ℕ) → i < 9 → j < 9 → 3 ≤ i + j → i + j < 12 → (w : List ℕ) → IsWord 2 w → act (state_term powers j) (act (state_term powers i) w) ≡ act (state_term powers (i + j - 3)) w
sums i j l m lo hi [] h = ap (act (state_term powers j)) (act-nil (state_term powers i)) ∙ (act-nil (state_term powers j) ∙ sym (act-nil (state_term powers (i + j - 3))))
sums i j l m lo hi (x ∷ w) h =
    let lx = h.0.0 in
    let hx = h.0.1 in
    let r = row i x l h.0 in
    let r0 = r.0 in
    let r1 = r.1 in
    let hy : IsLetter 2 (image (state_at powers i).perm x) = (omega arith, omega arith) in
    let s = row j (image (state_at powers i).perm x) m hy in
    let s0 = s.0 in
    let s1 = s.1 in
    let k : i + j - 3 < 9 = omega arith in
    let t = row (i + j - 3) x k h.0 in
    let t0 = t.0 in
    let t1 = t.1 in
    let letter : image (state_at powers j).perm (image (state_at powers i).perm x) ≡ image (state_at powers (i + j - 3)).perm x = omega arith in
    let next : next_state powers i x + next_state powers j (image (state_at powers i).perm x) - 3 ≡ next_state powers (i + j - 3) x = omega arith in
    let rest : act (state_term powers (next_state powers j (image (state_at powers i).perm x))) (act (state_term powers (next_state powers i x)) w) ≡ act (state_term powers (next_state powers (i + j - 3) x)) w =
    sums (next_state powers i x) (next_state powers j (image (state_at powers i).perm x)) (omega arith) (omega arith) (omega arith) (omega arith) w h.1 ∙ ap (λ (q : ℕ). act (state_term powers q) w) next in
    ap (act (state_term powers j)) (acts i x w l h.0) ∙ (acts j (image (state_at powers i).perm x) (act (state_term powers (next_state powers i x)) w) m hy ∙ ((λ q. letter q ∷ rest q) ∙ sym (acts (i + j - 3) x w k h.0)))

pub sum_alike : (i j : ℕ) → i < 9 → j < 9 → 3 ≤ i + j → i + j < 12 → IsAlike (Product (state_term powers i) (state_term powers j)) (state_term powers (i + j - 3))
sum_alike i j l m lo hi = alike_from_words 2 (term i l, term j m) (term (i + j - 3) (omega arith)) (λ w h. sums i j l m lo hi w h)

-- the state 3 is the identity
stays : (w : List ℕ) → IsWord 2 w → act (state_term powers 3) w ≡ w
stays [] h = act-nil (state_term powers 3)
stays (x ∷ w) h =
    let lx = h.0.0 in
    let hx = h.0.1 in
    let r = row 3 x (omega arith) h.0 in
    let r0 = r.0 in
    let r1 = r.1 in
    let letter : image (state_at powers 3).perm x ≡ x = omega arith in
    let next : next_state powers 3 x ≡ 3 = omega arith in
    let rest : act (state_term powers (next_state powers 3 x)) w ≡ w = ap (λ (q : ℕ). act (state_term powers q) w) next ∙ stays w h.1 in
    acts 3 x w (omega arith) h.0 ∙ (λ q. letter q ∷ rest q)

pub identity : IsAlike (state_term powers 3) One
identity = alike_from_words 2 (term 3 (omega arith)) tt (λ w h. stays w h)

is_t : IsTerm 2 t_term
is_t = (All-from_recursion (IsWreath 2 1) adding_machine (record { permutes = swapping; arity = refl; known = (tt, ((omega arith, tt), tt)) }, tt), omega arith)

-- the state 4 is t, and the state 2 its inverse
adds : (w : List ℕ) → IsWord 2 w → act t_term w ≡ act (state_term powers 4) w
unfolding powers
adds [] h = act-nil t_term ∙ sym (act-nil (state_term powers 4))
adds (x ∷ w) h = elim (two_letters x h.0) [
  | inl e ↦ rw e (ap (λ (v : List ℕ). 2 ∷ v) (act_product-nil adding_machine w ∙ sym (stays w h.1)) ∙ sym (acts 4 1 w (omega arith) (omega arith, omega arith)))
  | inr e ↦ rw e (ap (λ (v : List ℕ). 1 ∷ v) (adds w h.1) ∙ sym (acts 4 2 w (omega arith) (omega arith, omega arith)))
]

pub t_alike : IsAlike t_term (state_term powers 4)
t_alike = alike_from_words 2 is_t (term 4 (omega arith)) (λ w h. adds w h)

takes : (w : List ℕ) → IsWord 2 w → act (Inverse t_term) w ≡ act (state_term powers 2) w
unfolding powers
takes [] h = act-nil (Inverse t_term) ∙ sym (act-nil (state_term powers 2))
takes (x ∷ w) h = elim (two_letters x h.0) [
  | inl e ↦ rw e (ap (λ (v : List ℕ). 2 ∷ v) (takes w h.1) ∙ sym (acts 2 1 w (omega arith) (omega arith, omega arith)))
  | inr e ↦ rw e (ap (λ (v : List ℕ). 1 ∷ v) (act_product-nil adding_machine w ∙ sym (stays w h.1)) ∙ sym (acts 2 2 w (omega arith) (omega arith, omega arith)))
]

pub inverse_alike : IsAlike (Inverse t_term) (state_term powers 2)
inverse_alike = alike_from_words 2 is_t (term 2 (omega arith)) (λ w h. takes w h)

-- the number that a word writes, its first letter for the lowest binary digit
unfoldable number : List ℕ → ℕ
number [] = 0
number (x ∷ w) = (x - 1) + 2 * number w

-- what a power makes of 0, with four digits
added : (k : ℕ) → k < 9 → number (act (state_term powers k) (1 ∷ 1 ∷ 1 ∷ 1 ∷ [])) ≡ (k + 13) % 16
unfolding number state_term powers
added zero l = refl
added (suc zero) l = refl
added (suc (suc zero)) l = refl
added (suc (suc (suc zero))) l = refl
added (suc (suc (suc (suc zero)))) l = refl
added (suc (suc (suc (suc (suc zero))))) l = refl
added (suc (suc (suc (suc (suc (suc zero)))))) l = refl
added (suc (suc (suc (suc (suc (suc (suc zero))))))) l = refl
added (suc (suc (suc (suc (suc (suc (suc (suc zero)))))))) l = refl
added (suc (suc (suc (suc (suc (suc (suc (suc (suc k))))))))) l = absurd (omega arith)

-- so no two of the powers act alike
pub one_power : (i j : ℕ) → i < 9 → j < 9 → IsAlike (state_term powers i) (state_term powers j) → i ≡ j
one_power i j l m h =
    let e = ap number (h.images (1 ∷ 1 ∷ 1 ∷ 1 ∷ [])) in
    let a = added i l in
    let b = added j m in
    omega arith
