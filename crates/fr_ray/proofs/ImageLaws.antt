-- The image of a ray: behind a round that leads a state back to itself the letters of the image come again.
use Rattle.std.proofs.Common.{ℕ, zero, suc, ◌≡◌, ◌+◌, ◌-◌, ◌*◌, ◌<◌, ◌≤◌, List, [], ◌∷◌, ◌++◌, length, take, drop, refl, sym, ◌∙◌, ap, subst, arith, append_assoc, length-append}
use Rattle.std.proofs.lemmas.List.{take-append-drop, length-take-le, take_at, drop_at}
use Rattle.fr_model.specs.Words.{IsWord}
use Rattle.fr_model.specs.Terms.{Term, Section, act, IsAlike}
use Rattle.fr_model.specs.Automata.{State, state_after, state_term, IsAutomaton}
use Rattle.fr_model.specs.Rays.{repeated, ray_prefix, IsRayImage}
use Rattle.fr_model.proofs.TermLaws.{length-act, act-append, IsWord-append}
use Rattle.fr_model.proofs.AlikeLaws.{alike_sym, alike_trans, section_section, act-nil}
use Rattle.fr_model.proofs.AutomatonLaws.{section_state}
use Rattle.fr_model.proofs.GrowthLaws.{IsWord-repeated, length-repeated_least}
use Rattle.fr_ray.proofs.RayLaws.{repeated-add, length-repeated, same_rounds}

pub state_after-append : (qs : List State) (s : ℕ) (v w : List ℕ) → state_after qs s (v ++ w) ≡ state_after qs (state_after qs s v) w
state_after-append qs s [] w = refl
state_after-append qs s (x ∷ v) w = state_after-append qs _ v w

take-act : (t : Term) (n : ℕ) (w : List ℕ) → n ≤ length w → take n (act t w) ≡ act t (take n w)
take-act t n w l =
    ap (λ v. take n (act t v)) (sym (take-append-drop n w)) ∙ ap (take n) (act-append t (take n w) (drop n w))
    ∙ take_at (act t (take n w)) (act (Section t (take n w)) (drop n w)) n (length-act t (take n w) ∙ length-take-le n w l)

act-repeated : (s : Term) (v : List ℕ) (n : ℕ) → IsAlike (Section s v) s → act s (repeated v n) ≡ repeated (act s v) n
act-repeated s v zero h = act-nil s
act-repeated s v (suc n) h = act-append s v (repeated v n) ∙ ap (λ w. act s v ++ w) (h.images (repeated v n) ∙ act-repeated s v n h)

-- a round leads the section behind the beginning back to itself
pub image_ray : (t : Term) (u v : List ℕ) → 0 < length v → IsAlike (Section (Section t u) v) (Section t u) → IsRayImage t u v (act t u) (act (Section t u) v)
image_ray t u v s h n =
    ap (λ w. take n (act t u ++ w)) (sym (act-repeated (Section t u) v n h)) ∙ ap (take n) (sym (act-append t u (repeated v n)))
    ∙ take-act t n (u ++ repeated v n) (omega (arith, length-append u (repeated v n), length-repeated_least v n s))

module _ (d : ℕ) (qs : List State) (s : ℕ) (u v : List ℕ) (automaton : IsAutomaton d qs) (below : s < length qs) (u_word : IsWord d u) (v_word : IsWord d v) (some : 0 < length v) where
  rounds_word : (n : ℕ) → IsWord d (u ++ repeated v n)
  rounds_word n = IsWord-append d u (repeated v n) u_word (IsWord-repeated d v n v_word)

  module _ (j k : ℕ) (less : j < k) (back : state_after qs s (u ++ repeated v j) ≡ state_after qs s (u ++ repeated v k)) where
    t : Term
    t = state_term qs s

    before : List ℕ
    before = u ++ repeated v j

    rounds : List ℕ
    rounds = repeated v (k - j)

    whole : before ++ rounds ≡ u ++ repeated v k
    unfolding before rounds
    whole =
        let e : j + (k - j) ≡ k = omega arith in
        append_assoc u (repeated v j) (repeated v (k - j)) ∙ ap (λ w. u ++ w) (sym (repeated-add v j (k - j)) ∙ ap (repeated v) e)

    leads_back : IsAlike (Section (Section t before) rounds) (Section t before)
    unfolding t before rounds
    leads_back =
        let reached = section_state d qs s (u ++ repeated v k) automaton below (rounds_word k) in
        let started = section_state d qs s (u ++ repeated v j) automaton below (rounds_word j) in
        let P : List ℕ → Type 0 = λ w. IsAlike (Section (Section (state_term qs s) (u ++ repeated v j)) (repeated v (k - j))) (Section (state_term qs s) w) in
        let Q : ℕ → Type 0 = λ r. IsAlike (state_term qs r) (Section (state_term qs s) (u ++ repeated v j)) in
        alike_trans (subst P whole (section_section (state_term qs s) (u ++ repeated v j) (repeated v (k - j)))) (alike_trans reached (subst Q back (alike_sym started)))

    length-before : length before ≡ length u + j * length v
    unfolding before
    length-before = length-append u (repeated v j) ∙ ap (λ n. length u + n) (length-repeated v j)

    cut : (letters : List ℕ) → letters ≡ act (state_term qs s) (u ++ repeated v k) → letters ≡ act t before ++ act (Section t before) rounds
    unfolding t
    cut letters e = e ∙ ap (act (state_term qs s)) (sym whole) ∙ act-append t before rounds

    -- the letters up to the row that comes again, of which those since it came first are the period
    pub image_cut : (letters : List ℕ) (start : ℕ) → letters ≡ act (state_term qs s) (u ++ repeated v k) → start ≡ length u + j * length v → IsRayImage (state_term qs s) u v (take start letters) (drop start letters)
    unfolding t before rounds
    image_cut letters start e f n =
        let size : length (act t before) ≡ start = length-act t before ∙ length-before ∙ sym f in
        let front : take start letters ≡ act t before = ap (take start) (cut letters e) ∙ take_at (act t before) (act (Section t before) rounds) start size in
        let rest : drop start letters ≡ act (Section t before) rounds = ap (drop start) (cut letters e) ∙ drop_at (act t before) (act (Section t before) rounds) start size in
        let long : 0 < length rounds = omega (arith, length-repeated_least v (k - j) some) in
        ap (λ a. ray_prefix a (drop start letters) n) front ∙ ap (λ a. ray_prefix (act t before) a n) rest ∙ image_ray t before rounds long leads_back n
        ∙ ap (act t) (sym (same_rounds u v j (k - j) some (omega arith) n))

    pub start-lt : (letters : List ℕ) (start : ℕ) → letters ≡ act (state_term qs s) (u ++ repeated v k) → start ≡ length u + j * length v → start < length letters
    unfolding rounds
    start-lt letters start e f =
        let all = ap length e ∙ length-act (state_term qs s) (u ++ repeated v k) ∙ ap length (sym whole) ∙ length-append before rounds in
        omega (arith, all, length-before, length-repeated_least v (k - j) some)
