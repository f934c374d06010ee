-- The limit states of an automaton: they are limit sections, and each section at a long word is one.
use Rattle.std.proofs.Common.{ℕ, zero, suc, ◌≡◌, ◌≢◌, ◌+◌, ◌-◌, ◌<◌, ◌≤◌, ◌↔◌, List, [], ◌∷◌, ◌++◌, length, take, refl, sym, ◌∙◌, ap, subst, arith, append_assoc, length-append}
use Rattle.std.proofs.lemmas.List.{take_at}
use Rattle.fr_model.specs.Words.{IsWord}
use Rattle.fr_model.specs.Terms.{Term, Section, IsAlike}
use Rattle.fr_model.specs.Rays.{repeated}
use Rattle.fr_model.specs.Automata.{State, state_after, state_term, IsAutomaton, IsLimitState, IsLimitStateFrom}
use Rattle.fr_model.specs.Nuclei.{IsLimitSection}
use Rattle.fr_model.proofs.TermLaws.{IsWord-append}
use Rattle.fr_model.proofs.AlikeLaws.{alike_refl, alike_sym, alike_trans, alike_section}
use Rattle.fr_model.proofs.AutomatonLaws.{section_state, state_after-lt, state_after-append}
use Rattle.fr_model.proofs.GrowthLaws.{IsWord-repeated, length-repeated_least}
use Rattle.fr_model.proofs.LimitLaws.{IsLimitSection-alike}
use Rattle.fr_model.proofs.Pigeons.{shared}

-- t acts alike a state of an automaton
pub record IsMachineOf (d : ℕ) (t : Term) (qs : List State) (s : ℕ) : Type 0 where
  pub automaton : IsAutomaton d qs
  pub below : s < length qs
  pub alike : IsAlike t (state_term qs s)

-- a limit state that s reaches is a limit state
pub IsLimitState-from : (d : ℕ) (qs : List State) (s r : ℕ) → IsAutomaton d qs → s < length qs → IsLimitStateFrom d qs s r → IsLimitState d qs r
IsLimitState-from d qs s r a l h = record {
  on = h.on;
  state = subst (λ z. z < length qs) h.way.there (state_after-lt d qs s h.way.along a l);
  round = h.round;
  round_valid = h.round_valid;
  some = h.some;
  back = h.back;
  reached = h.reached;
}

-- a word in two parts, the first of length n
pub record IsSplit (d n : ℕ) (v : List ℕ) : Type 0 where
  pub front : List ℕ
  pub end : List ℕ
  pub joined : front ++ end ≡ v
  pub size : length front ≡ n
  pub front_valid : IsWord d front
  pub end_valid : IsWord d end

pub split : (d n : ℕ) (v : List ℕ) → IsWord d v → n ≤ length v → IsSplit d n v
split d zero v k l = record { front = []; end = v; joined = refl; size = refl; front_valid = tt; end_valid = k }
split d (suc n) [] k l = absurd (omega arith)
split d (suc n) (x ∷ v) k l =
    let r = split d n v k.1 (omega arith) in
    record { front = x ∷ r.front; end = r.end; joined = ap (λ w. x ∷ w) r.joined; size = ap suc r.size; front_valid = (k.0, r.front_valid); end_valid = r.end_valid }

repeated-end : (qs : List State) (s : ℕ) (v : List ℕ) (n : ℕ) → state_after qs s v ≡ s → state_after qs s (repeated v n) ≡ s
repeated-end qs s v zero h = refl
repeated-end qs s v (suc n) h = state_after-append qs s v (repeated v n) ∙ ap (λ z. state_after qs z (repeated v n)) h ∙ repeated-end qs s v n h

some_letter : (v : List ℕ) → v ≢ [] → 0 < length v
some_letter [] n = absurd (n refl)
some_letter (x ∷ v) n = omega arith

-- a limit state is a limit section
pub limit_is_section : (d : ℕ) (t : Term) (qs : List State) (s r : ℕ) → IsMachineOf d t qs s → IsLimitStateFrom d qs s r → IsLimitSection d t (state_term qs r)
limit_is_section d t qs s r m l n =
    let way = l.way.along in
    let turns = repeated l.round n in
    let rest = l.reached.along in
    let w = way ++ (turns ++ rest) in
    let k : IsWord d w = IsWord-append d way (turns ++ rest) l.way.valid (IsWord-append d turns rest (IsWord-repeated d l.round n l.round_valid) l.reached.valid) in
    let e : state_after qs s w ≡ r =
    state_after-append qs s way (turns ++ rest)
    ∙ ap (λ z. state_after qs z (turns ++ rest)) l.way.there
    ∙ state_after-append qs l.on turns rest
    ∙ ap (λ z. state_after qs z rest) (repeated-end qs l.on l.round n l.back)
    ∙ l.reached.there in (
      w,
      k,
      omega (arith, length-append way (turns ++ rest), length-append turns rest, length-repeated_least l.round n (some_letter l.round l.some)),
      alike_trans (alike_section w m.alike) (subst (λ z. IsAlike (Section (state_term qs s) w) (state_term qs z)) e (section_state d qs s w m.automaton m.below k)),
    )

take-IsWord : (d n : ℕ) (v : List ℕ) → IsWord d v → IsWord d (take n v)
take-IsWord d zero v k = tt
take-IsWord d (suc n) [] k = tt
take-IsWord d (suc n) (x ∷ v) k = (k.0, take-IsWord d n v k.1)

-- behind a long word stands a limit state
pub long_state : (d : ℕ) (qs : List State) (s : ℕ) (v : List ℕ) → IsAutomaton d qs → s < length qs → IsWord d v → length qs ≤ length v → IsLimitStateFrom d qs s (state_after qs s v)
long_state d qs s v h l k long =
    let f : ℕ → ℕ = λ i. state_after qs s (take i v) in
    let p = shared (suc (length v)) (length qs) f (omega arith) (λ i b. state_after-lt d qs s (take i v) h l) in
    let a = split d p.i v k (omega (arith, p.before, p.below)) in
    let al : length v ≡ p.i + length a.end = sym (ap length a.joined) ∙ length-append a.front a.end ∙ ap (λ z. z + length a.end) a.size in
    let b = split d (p.j - p.i) a.end a.end_valid (omega (arith, p.before, p.below, al)) in
    let first : take p.i v ≡ a.front = ap (take p.i) (sym a.joined) ∙ take_at a.front a.end p.i a.size in
    let whole : v ≡ (a.front ++ b.front) ++ b.end = sym a.joined ∙ ap (λ z. a.front ++ z) (sym b.joined) ∙ sym (append_assoc a.front b.front b.end) in
    let second : take p.j v ≡ a.front ++ b.front = ap (take p.j) whole ∙ take_at (a.front ++ b.front) b.end p.j (omega (arith, length-append a.front b.front, a.size, b.size, p.before)) in
    record {
      on = state_after qs s a.front;
      way = record { along = a.front; valid = a.front_valid; there = refl };
      round = b.front;
      round_valid = b.front_valid;
      some = λ e. omega (arith, b.size, p.before, ap length e);
      back = sym (state_after-append qs s a.front b.front) ∙ ap (state_after qs s) (sym second) ∙ sym p.same ∙ ap (state_after qs s) first;
      reached = record { along = a.end; valid = a.end_valid; there = sym (state_after-append qs s a.front a.end) ∙ ap (state_after qs s) a.joined };
    }

pub long_is_limit : (d : ℕ) (t : Term) (qs : List State) (s : ℕ) (v : List ℕ) → IsMachineOf d t qs s → IsWord d v → length qs ≤ length v
    → (r : ℕ) × IsLimitStateFrom d qs s r × IsAlike (Section t v) (state_term qs r)
long_is_limit d t qs s v m k l = (
  state_after qs s v,
  long_state d qs s v m.automaton m.below k l,
  alike_trans (alike_section v m.alike) (section_state d qs s v m.automaton m.below k),
)

-- the limit sections of a state are the states that it reaches through a cycle
pub limits_are_states : (d : ℕ) (qs : List State) (s : ℕ) (h : Term) → IsAutomaton d qs → s < length qs → IsLimitSection d (state_term qs s) h ↔ ((r : ℕ) × IsLimitStateFrom d qs s r × IsAlike (state_term qs r) h)
limits_are_states d qs s h a l = (
  λ k.
      let v = k (length qs) in (
        state_after qs s v.0,
        long_state d qs s v.0 a l v.1 v.2,
        alike_trans (alike_sym (section_state d qs s v.0 a l v.1)) v.3,
      ),
  λ k. IsLimitSection-alike d (state_term qs s) (state_term qs s) (state_term qs k.0) h (alike_refl (state_term qs s)) k.2 (limit_is_section d (state_term qs s) qs s k.0 (record { automaton = a; below = l; alike = alike_refl (state_term qs s) }) k.1),
)
