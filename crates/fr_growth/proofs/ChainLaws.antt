-- What walks through a reduced automaton tell of the activity of the terms that its states stand for.
use Rattle.std.proofs.Common.{ℕ, zero, suc, ◌≡◌, ◌≢◌, ◌↔◌, ◌+◌, ◌*◌, ◌^◌, ◌<◌, ◌≤◌, inl, inr, Bool, true, false, List, [], ◌∷◌, ◌++◌, length, get_or, refl, sym, ◌∙◌, ap, subst, arith, length-append}
use Rattle.std.specs.List.{All}
use Rattle.std.proofs.lemmas.Bool.{cases_lt, both_ways}
use Rattle.fr_model.specs.Words.{IsLetter, IsWord}
use Rattle.fr_model.specs.Terms.{Term, One, Section, IsAlike}
use Rattle.fr_model.specs.Automata.{State, next_state, state_after, state_term, IsAutomaton}
use Rattle.fr_model.specs.Activity.{IsActive, IsActivity, IsInactive, IsFinitary, IsExponentialAt, Link, NoReturn, IsChain}
use Rattle.fr_model.proofs.TermLaws.{IsWord-append}
use Rattle.fr_model.proofs.AlikeLaws.{alike_refl, alike_sym, alike_trans, alike_section, section_section}
use Rattle.fr_model.proofs.AutomatonLaws.{section_state, state_after-lt}
use Rattle.fr_model.proofs.ClassLaws.{count-le}
use Rattle.fr_model.proofs.GrowthLaws.{section_one}
use Rattle.fr_growth.specs.Walks.{NoWayBack, IsStateChain}
use Rattle.fr_growth.specs.Growth.{ways, rounds, IsCounted, HasPolynomialNumbers, HasExponentialNumbers, HasFinitaryNumbers}
use Rattle.fr_growth.specs.Classes.{IsPolynomialBy}
use Rattle.fr_growth.proofs.WalkLaws.{live_words, parts_from_length, state_after-append, repeated, length-repeated, repeated-valid, repeated-back, words_along, live_words-double, live_words-from_chain}
use Rattle.fr_growth.proofs.LayerLaws.{IsLayered, dead_or_live, chain_le, no_two_backs, live_words-le_polynomial}
use Rattle.fr_growth.proofs.CountLaws.{list_live, LeadsLive, length-list_live, list_live-leads, list_live-distinct, list_live-whole}

-- ---- the sections of 1, and activity that has ended
pub one_onwards : (t : Term) (v w : List ℕ) → IsAlike (Section t v) One → IsAlike (Section t (v ++ w)) One
one_onwards t v w h = alike_trans (alike_sym (section_section t v w)) (alike_trans (alike_section w h) (section_one w))

-- a state as a term, no two alike, and which state acts as 1
pub record IsReduced (d : ℕ) (qs : List State) (dead : ℕ → Bool) : Type 0 where
  pub automaton : IsAutomaton d qs
  pub apart : (s t : ℕ) → s < length qs → t < length qs → IsAlike (state_term qs s) (state_term qs t) → s ≡ t
  pub still : (s : ℕ) → s < length qs → (dead s ≡ true) ↔ IsAlike (state_term qs s) One

module _ (d : ℕ) (qs : List State) (dead : ℕ → Bool) (m : IsReduced d qs dead) where
  -- t acts like the state
  pub record IsAt (t : Term) (s : ℕ) : Type 0 where
    pub below : s < length qs
    pub alike : IsAlike t (state_term qs s)

  pub at_section : (t : Term) (s : ℕ) (v : List ℕ) → IsAt t s → IsWord d v → IsAt (Section t v) (state_after qs s v)
  at_section t s v a h = record {
    below = state_after-lt d qs s v m.automaton a.below;
    alike = alike_trans (alike_section v a.alike) (section_state d qs s v m.automaton a.below h);
  }

  pub same_state : (t u : Term) (s r : ℕ) → IsAt t s → IsAt u r → IsAlike t u → s ≡ r
  same_state t u s r a b h = m.apart s r a.below b.below (alike_trans (alike_sym a.alike) (alike_trans h b.alike))

  pub same_term : (t u : Term) (s r : ℕ) → IsAt t s → IsAt u r → s ≡ r → IsAlike t u
  same_term t u s r a b e = alike_trans a.alike (rw e (alike_sym b.alike))

  pub dead_one : (t : Term) (s : ℕ) → IsAt t s → dead s ≡ true → IsAlike t One
  dead_one t s a e = alike_trans a.alike ((m.still s a.below).0 e)

  pub one_dead : (t : Term) (s : ℕ) → IsAt t s → IsAlike t One → dead s ≡ true
  one_dead t s a h = (m.still s a.below).1 (alike_trans (alike_sym a.alike) h)

  pub live_moves : (t : Term) (s : ℕ) → IsAt t s → dead s ≡ false → ¬ IsAlike t One
  live_moves t s a e h = both_ways (dead s) e (one_dead t s a h)

  pub moves_live : (t : Term) (s : ℕ) → IsAt t s → ¬ IsAlike t One → dead s ≡ false
  moves_live t s a n = elim (dead_or_live (dead s)) [ inl e ↦ absurd (n (dead_one t s a e)) | inr e ↦ e ]

  pub dead_stays_dead : (s x : ℕ) → s < length qs → IsLetter d x → dead s ≡ true → dead (next_state qs s x) ≡ true
  dead_stays_dead s x l k e =
      let a : IsAt (state_term qs s) s = record { below = l; alike = alike_refl (state_term qs s) } in
      let b = at_section (state_term qs s) s (x ∷ []) a (k, tt) in
      one_dead (Section (state_term qs s) (x ∷ [])) (next_state qs s x) b (alike_trans (alike_section (x ∷ []) (dead_one (state_term qs s) s a e)) (section_one (x ∷ [])))

  -- ---- the count of active words
  active_leads : (n : ℕ) (t : Term) (s : ℕ) (v : List ℕ) → IsAt t s → IsActive d n t v → LeadsLive d n qs dead s v
  active_leads n t s v a h = record { valid = h.valid; long = h.long; live = moves_live (Section t v) (state_after qs s v) (at_section t s v a h.valid) h.moved }

  leads_active : (n : ℕ) (t : Term) (s : ℕ) (v : List ℕ) → IsAt t s → LeadsLive d n qs dead s v → IsActive d n t v
  leads_active n t s v a h = record { valid = h.valid; long = h.long; moved = live_moves (Section t v) (state_after qs s v) (at_section t s v a h.valid) h.live }

  pub activity : (n : ℕ) (t : Term) (s : ℕ) → IsAt t s → IsActivity d n t (live_words d qs dead n s)
  activity n t s a = record {
    members = list_live d qs dead n s;
    count = length-list_live d qs dead n s;
    valid = λ i e l. leads_active n t s (get_or (list_live d qs dead n s) i e) a (list_live-leads d qs dead n s i e l);
    apart = λ i j e l h. list_live-distinct d qs dead n s i j e l h;
    covers = λ v h. let r = list_live-whole d qs dead n s v (active_leads n t s v a h) in (r.0, r.1, r.2 v);
  }

  pub activity_is : (n : ℕ) (t : Term) (s c : ℕ) → IsAt t s → IsActivity d n t c → c ≡ live_words d qs dead n s
  activity_is n t s c a h =
      let k = live_words d qs dead n s in
      let b : IsActivity d n t k = activity n t s a in
      let flip : (v w : List ℕ) → v ≡ w → w ≡ v = λ v w e. sym e in
      let join : (u v w : List ℕ) → u ≡ v → v ≡ w → u ≡ w = λ u v w e f. e ∙ f in
      let lo : c ≤ k = count-le [] (IsActive d n t) (λ v w. v ≡ w) flip join c k h b in
      let hi : k ≤ c = count-le [] (IsActive d n t) (λ v w. v ≡ w) flip join k c b h in
      omega arith

  pub counted : (t : Term) (s : ℕ) → IsAt t s → IsCounted d t
  counted t s a n = (live_words d qs dead n s, activity n t s a)

  -- ---- chains of terms and of states
  chain_of_states : (t : Term) (s : ℕ) (ls : List Link) → IsAt t s → IsStateChain d qs dead s ls → IsChain d t ls
  chain_of_states t s [] a ch = tt
  chain_of_states t s (l ∷ ls) a ch =
      let h = state_after qs s l.at in
      let b = at_section t s l.at a ch.0 in (
        ch.0,
        ch.1,
        ch.2,
        live_moves (Section t l.at) h b ch.3,
        same_term (Section (Section t l.at) l.back) (Section t l.at) (state_after qs h l.back) h (at_section (Section t l.at) h l.back b ch.1) b ch.4,
        without (Section t l.at) h ls b ch.5 ch.6,
        chain_of_states (Section t l.at) h ls b ch.6,
      )
    where
      without : (u : Term) (h : ℕ) (ls : List Link) → IsAt u h → NoWayBack d qs h ls → IsStateChain d qs dead h ls → NoReturn d u ls
      without u h [] b n ch = tt
      without u h (k ∷ ks) b n ch = λ v w same.
          let c = at_section u h k.at b ch.0 in
          n v w (same_state (Section (Section u k.at) v) u (state_after qs (state_after qs h k.at) v) h (at_section (Section u k.at) (state_after qs h k.at) v c w) b same)

  chain_of_terms : (t : Term) (s : ℕ) (ls : List Link) → IsAt t s → IsChain d t ls → IsStateChain d qs dead s ls
  chain_of_terms t s [] a ch = tt
  chain_of_terms t s (l ∷ ls) a ch =
      let h = state_after qs s l.at in
      let b = at_section t s l.at a ch.0 in (
        ch.0,
        ch.1,
        ch.2,
        moves_live (Section t l.at) h b ch.3,
        same_state (Section (Section t l.at) l.back) (Section t l.at) (state_after qs h l.back) h (at_section (Section t l.at) h l.back b ch.1) b ch.4,
        without (Section t l.at) h ls b ch.5 ch.6,
        chain_of_terms (Section t l.at) h ls b ch.6,
      )
    where
      without : (u : Term) (h : ℕ) (ls : List Link) → IsAt u h → NoReturn d u ls → IsChain d u ls → NoWayBack d qs h ls
      without u h [] b n ch = tt
      without u h (k ∷ ks) b n ch = λ v w same.
          let c = at_section u h k.at b ch.0 in
          n v w (same_term (Section (Section u k.at) v) u (state_after qs (state_after qs h k.at) v) h (at_section (Section u k.at) (state_after qs h k.at) v c w) b same)

  -- ---- the numbers that each certificate tells
  chain_numbers : (t : Term) (s : ℕ) (l : Link) (ls : List Link) (j c : ℕ) → IsAt t s → IsChain d t (l ∷ ls)
      → IsActivity d (ways (l ∷ ls) + (length ls + 1) * j * rounds (l ∷ ls)) t c → (j + 1) ^ length ls ≤ c
  chain_numbers t s l ls j c a ch h =
      let e = activity_is (ways (l ∷ ls) + (length ls + 1) * j * rounds (l ∷ ls)) t s c a h in
      omega (arith, e, live_words-from_chain d qs dead s j l ls (chain_of_terms t s (l ∷ ls) a ch))

  least_numbers : (t : Term) (s k : ℕ) (ls : List Link) → IsAt t s → IsChain d t ls → length ls ≡ k + 1
      → (j c : ℕ) → IsActivity d (ways ls + (k + 1) * j * rounds ls) t c → (j + 1) ^ k ≤ c
  least_numbers t s k [] a ch e = absurd (omega arith)
  least_numbers t s k (l ∷ ls) a ch e = λ j c h.
      let f : length ls ≡ k = omega (arith, e) in
      let P : ℕ → Type 0 = λ z. IsActivity d (ways (l ∷ ls) + (z + 1) * j * rounds (l ∷ ls)) t c in
      let Q : ℕ → Type 0 = λ z. (j + 1) ^ z ≤ c in
      subst Q f (chain_numbers t s l ls j c a ch (subst P (sym f) h))

  pub exponential_numbers : (t : Term) (s : ℕ) (at u v : List ℕ) → IsAt t s → IsExponentialAt d t at u v → HasExponentialNumbers d t at u
  exponential_numbers t s at u v a x = record {
    counted = counted t s a;
    least = λ j c h.
        let e = activity_is (length at + j * length u) t s c a h in
        let r = state_after qs s at in
        let b = at_section t s at a x.at_valid in
        let uu = same_state (Section (Section t at) u) (Section t at) (state_after qs r u) r (at_section (Section t at) r u b x.u_valid) b x.u_back in
        let vv = same_state (Section (Section t at) v) (Section t at) (state_after qs r v) r (at_section (Section t at) r v b x.v_valid) b x.v_back in
        let double = live_words-double d qs dead j (j * length u) r u v x.u_valid x.v_valid (parts_from_length u v x.one_length x.differ) x.one_length uu vv
        (moves_live (Section t at) r b x.moved) refl in
        let along = words_along d qs dead (length at + j * length u) (j * length u) s at x.at_valid refl in
        omega (arith, e, double, along);
  }

  -- inactive from some length on
  inactive_onwards : (t : Term) (s : ℕ) (n k : ℕ) → IsAt t s → IsInactive d n t → n ≤ k → IsInactive d k t
  inactive_onwards t s n k a h l v w e =
      let parts' = split_word n v w (omega (arith, e)) in
      rw (parts'.4) (one_onwards t parts'.0 parts'.1 (h parts'.0 parts'.2 parts'.3))
    where
      split_word : (n : ℕ) (v : List ℕ) → IsWord d v → n ≤ length v → (p : List ℕ) × (q : List ℕ) × IsWord d p × (length p ≡ n) × (v ≡ p ++ q)
      split_word zero v w l = ([], v, tt, refl, refl)
      split_word (suc n) [] w l = absurd (omega arith)
      split_word (suc n) (x ∷ v) w l =
          let r = split_word n v w.1 (omega arith) in
          (x ∷ r.0, r.1, (w.0, r.2), omega (arith, r.3), rw (← r.4) refl)

  nothing_active : (n : ℕ) (t : Term) (s : ℕ) → IsAt t s → IsInactive d n t → live_words d qs dead n s ≡ 0
  nothing_active n t s a h =
      let b = activity n t s a in
      go b.members b.count b.valid
    where
      go : (ws : List (List ℕ)) → length ws ≡ live_words d qs dead n s → All (IsActive d n t) ws → live_words d qs dead n s ≡ 0
      go [] e v = sym e
      go (w ∷ ws) e v = let x = v 0 [] (omega arith) in absurd (x.moved (h w x.valid x.long))

  pub finitary_numbers : (t : Term) (s depth : ℕ) → IsAt t s → IsFinitary d t depth → HasFinitaryNumbers d t depth
  finitary_numbers t s depth a f = record {
    counted = counted t s a;
    none = λ n. (
      λ h. elim (cases_lt n depth) [ inl l ↦ absurd (none_here n h (f.least n l)) | inr l ↦ l ],
      λ l. rw (nothing_active n t s a (inactive_onwards t s depth n a f.inactive l)) at (activity n t s a),
    );
  }
    where
      none_here : (n : ℕ) → IsActivity d n t 0 → (v : List ℕ) × IsActive d n t v → ⊥
      none_here n h x = let r = h.covers x.0 x.1 in omega (arith, r.1, h.count)

  -- ---- the degree, from ranks and levels
  module _ (rank level : ℕ → ℕ) (g : IsLayered d qs dead rank level) where
    pub never_exponential : (t : Term) (s : ℕ) → IsAt t s → (at u v : List ℕ) → ¬ IsExponentialAt d t at u v
    never_exponential t s a at u v x =
        let r = state_after qs s at in
        let b = at_section t s at a x.at_valid in
        let uu = same_state (Section (Section t at) u) (Section t at) (state_after qs r u) r (at_section (Section t at) r u b x.u_valid) b x.u_back in
        let vv = same_state (Section (Section t at) v) (Section t at) (state_after qs r v) r (at_section (Section t at) r v b x.v_valid) b x.v_back in
        no_two_backs d qs dead rank level g r u v b.below (moves_live (Section t at) r b x.moved) x.u_valid x.v_valid uu vv (parts_from_length u v x.one_length x.differ)

    always_active : (t : Term) (s : ℕ) (ls : List Link) → IsAt t s → IsStateChain d qs dead s ls → 0 < length ls → (n : ℕ) → ¬ IsInactive d n t
    always_active t s [] a ch l = absurd (omega arith)
    always_active t s (k ∷ ks) a ch l = λ n h.
        let w = k.at ++ repeated n k.back in
        let back = repeated-back qs n (state_after qs s k.at) k.back ch.4 in
        let end : state_after qs s w ≡ state_after qs s k.at = state_after-append qs s k.at (repeated n k.back) ∙ back in
        let valid = IsWord-append d k.at (repeated n k.back) ch.0 (repeated-valid d n k.back ch.1) in
        let long : n ≤ length w = omega (arith, length-append k.at (repeated n k.back), length-repeated n k.back, at_least n k.back ch.2) in
        let one = inactive_onwards t s n (length w) a h long w valid refl in
        live_moves (Section t w) (state_after qs s w) (at_section t s w a valid) (ap dead end ∙ ch.3) one
      where
        at_least : (n : ℕ) (c : List ℕ) → c ≢ [] → n ≤ n * length c
        at_least n [] h = absurd (h refl)
        at_least n (x ∷ c) h = omega arith

    pub polynomial_by : (t : Term) (s k : ℕ) (ls : List Link) → IsAt t s → level s ≡ suc k → length ls ≡ k + 1 → IsStateChain d qs dead s ls → IsPolynomialBy d t k ls
    polynomial_by t s k ls a e n ch = record {
      degree = record {
        infinitary = always_active t s ls a ch (omega arith);
        subexponential = never_exponential t s a;
        chain = (ls, omega (arith, n), chain_of_states t s ls a ch);
        longest = λ ms c. omega (arith, chain_le d qs dead rank level g s ms a.below (chain_of_terms t s ms a c), e);
      };
      count = n;
      chain = chain_of_states t s ls a ch;
    }

    pub polynomial_numbers : (t : Term) (s k : ℕ) (ls : List Link) → IsAt t s → level s ≡ suc k → length ls ≡ k + 1 → IsStateChain d qs dead s ls → HasPolynomialNumbers d (length qs) t k ls
    polynomial_numbers t s k ls a e n ch = record {
      counted = counted t s a;
      most = λ i c h. omega (arith, activity_is i t s c a h, live_words-le_polynomial d qs dead rank level g i s k a.below e);
      least = least_numbers t s k ls a (chain_of_states t s ls a ch) n;
    }
