-- Limit sections of b of Grigorchuk's group, and the nucleus of the group of the swap a.
use Rattle.std.proofs.Common.{ℕ, zero, suc, ◌≡◌, ◌<◌, ◌≤◌, List, [], ◌∷◌, ◌++◌, length, get_or, refl, arith, length-append}
use Rattle.std.specs.Prelude.{Contains}
use Rattle.fr_model.specs.Words.{IsWord}
use Rattle.fr_model.specs.Terms.{Term, One, Name, Inverse, Product, Section, act, IsAlike}
use Rattle.fr_model.proofs.TermLaws.{length-act}
use Rattle.fr_model.proofs.AlikeLaws.{alike_refl, alike_sym, alike_trans, alike_section, alike_product, section_section, section_nil, section_product}
use Rattle.fr_model.specs.Nuclei.{IsLimitSection, IsNucleusMember, IsGroupElement, IsAbsorbing, IsNucleus, IsNucleusDepth}
use Rattle.fr_model.specs.Nuclei.IsGeneratorSection.{one, section, inverse}
use Rattle.fr_model.specs.Nuclei.IsNucleusMember.{of_generator, of_product}
use Rattle.fr_model.specs.Nuclei.IsGroupElement.{none, more}
use Rattle.fr_model.proofs.GrowthLaws.{section_one}
use Rattle.fr_model.proofs.LimitLaws.{nucleus_depth_once}
use Rattle.fr_model_examples.specs.Groups.{grigorchuk}
use Rattle.fr_model_examples.specs.NucleusInstances.{SwapSections, LimitSections, SwapHasTrivialNucleus, ElementsAreProducts}
use Rattle.fr_model_examples.proofs.Letters.{twos, twos_word, length-twos}
use Rattle.fr_model_examples.proofs.Swap.{a_any, a_inverse_any, a_moves}

b_round : IsAlike (Section (Name grigorchuk 1) (2 ∷ 2 ∷ 2 ∷ [])) (Name grigorchuk 1)
b_round = record { images = λ w. refl }

rounds : ℕ → List ℕ
rounds zero = 1 ∷ []
rounds (suc n) = 2 ∷ 2 ∷ 2 ∷ rounds n

rounds_long : (n : ℕ) → n ≤ length (rounds n)
unfolding rounds
rounds_long zero = omega arith
rounds_long (suc n) = omega (arith, rounds_long n)

rounds_word : (n : ℕ) → IsWord 2 (rounds n)
unfolding rounds
rounds_word zero = ((omega arith, omega arith), tt)
rounds_word (suc n) = ((omega arith, omega arith), ((omega arith, omega arith), ((omega arith, omega arith), rounds_word n)))

rounds_end : (n : ℕ) → IsAlike (Section (Name grigorchuk 1) (rounds n)) (Name grigorchuk 0)
unfolding rounds
rounds_end zero = record { images = λ w. refl }
rounds_end (suc n) = alike_trans (alike_sym (section_section (Name grigorchuk 1) (2 ∷ 2 ∷ 2 ∷ []) (rounds n))) (alike_trans (alike_section (rounds n) b_round) (rounds_end n))

b_limit : IsLimitSection 2 (Name grigorchuk 1) (Name grigorchuk 0)
b_limit n = (rounds n, rounds_word n, rounds_long n, rounds_end n)

is_a : (u : Term) → Contains (Name grigorchuk 0 ∷ []) u → Name grigorchuk 0 ≡ u
is_a u c = go c.0 c.1 c.2
  where
    go : (k : ℕ) → k < 1 → get_or (Name grigorchuk 0 ∷ []) k u ≡ u → Name grigorchuk 0 ≡ u
    go zero h e = e
    go (suc k) h e = absurd (omega arith)

is_one : (u : Term) → Contains (One ∷ []) u → One ≡ u
is_one u c = go c.0 c.1 c.2
  where
    go : (k : ℕ) → k < 1 → get_or (One ∷ []) k u ≡ u → One ≡ u
    go zero h e = e
    go (suc k) h e = absurd (omega arith)

q_any : {q : Term} → SwapSections q → (u : List ℕ) → 1 ≤ length u → IsAlike (Section q u) One
q_any one u h = section_one u
q_any (section {g = k} c w r) u h = alike_trans (section_section k w u) (rw (← is_a k c) (a_any (w ++ u) (omega (arith, length-append w u))))
q_any (inverse {g = k} c w r) u h = alike_trans (section_section (Inverse k) w u) (rw (← is_a k c) (a_inverse_any (w ++ u) (omega (arith, length-append w u))))

one_one : IsAlike (Product One One) One
one_one = record { images = λ w. refl }

p_any : {p : Term} → IsGroupElement SwapSections p → (u : List ℕ) → 1 ≤ length u → IsAlike (Section p u) One
p_any none u h = section_one u
p_any (more {p = p} {q = q} r k) u h = alike_trans (section_product p q u) (alike_trans (alike_product (p_any r u h) (q_any k (act p u) (omega (arith, length-act p u)))) one_one)

n_one : {h : Term} → IsNucleusMember 2 SwapSections h → IsAlike h One
n_one (of_generator {q = q} k l) = let r = l 1 in alike_trans (alike_sym r.3) (q_any k r.0 r.2)
n_one (of_product {g = p} {q = q} m k l) =
    let r = l 1 in
    alike_trans (alike_sym r.3) (alike_trans (section_product p q r.0) (alike_trans (alike_product (alike_trans (alike_section r.0 (n_one m)) (section_one r.0)) (q_any k (act p r.0) (omega (arith, length-act p r.0, r.2)))) one_one))

one_limit : (h : Term) → IsAlike h One → IsLimitSection 2 One h
one_limit h s n = (twos n, twos_word n, omega (arith, length-twos n), alike_trans (section_one (twos n)) (alike_sym s))

one_member : (h : Term) → IsAlike h One → IsNucleusMember 2 SwapSections h
one_member h s = of_generator one (one_limit h s)

here : {t : Term} → (ts : List Term) → Contains (t ∷ ts) t
here ts = (0, omega arith, refl)

absorbs : IsAbsorbing 2 SwapSections (One ∷ [])
absorbs p r = (1, λ w k h. (One, here [], p_any r w h))

same : IsAlike (Product One (Section (Name grigorchuk 0) [])) (Section (Name grigorchuk 0) [])
same = record { images = λ w. refl }

depth : IsNucleusDepth 2 SwapSections 1
depth = record {
  within = λ n q m k w x l. one_member (Section (Product n q) w) (alike_trans (section_product n q w) (alike_trans (alike_product (alike_trans (alike_section w (n_one m)) (section_one w)) (q_any k (act n w) (omega (arith, length-act n w, l)))) one_one));
  least = λ j h. (One, Section (Name grigorchuk 0) [], [], one_member One (alike_refl One), section (here []) [] tt, tt, omega (arith, h), λ m. a_moves (alike_trans (alike_sym (alike_trans (section_nil (Product One (Section (Name grigorchuk 0) []))) (alike_trans same (section_nil (Name grigorchuk 0))))) (n_one m)));
}

nucleus : IsNucleus 2 SwapSections (One ∷ [])
nucleus = record {
  absorbs = absorbs;
  smallest = λ ms s n c. let r = s One none in let m = r.1 (twos r.0) (twos_word r.0) (omega (arith, length-twos r.0)) in (m.0, m.1, rw (← is_one n c) (alike_trans (alike_sym (section_one (twos r.0))) m.2));
}

pub limit_sections : LimitSections
limit_sections = record {
  limit = b_limit;
  not_own = λ l. let r = l 1 in a_moves (alike_trans (alike_sym r.3) (a_any r.0 r.2));
  member = of_generator (section (here []) [] tt) (λ n. let r = b_limit n in (r.0, r.1, r.2, alike_trans (alike_section r.0 (section_nil (Name grigorchuk 1))) r.3));
  not_member = λ m. a_moves (n_one m);
}

pub trivial_nucleus : SwapHasTrivialNucleus
trivial_nucleus = record {
  absorbs = absorbs;
  not_absorbs = λ s. let r = s One none in let m = r.1 (twos r.0) (twos_word r.0) (omega (arith, length-twos r.0)) in a_moves (rw (← is_a m.0 m.1) at (alike_trans (alike_sym m.2) (section_one (twos r.0))));
  nucleus = nucleus;
  not_nucleus = λ s. let r = s.smallest (One ∷ []) absorbs (Name grigorchuk 0) (1, omega arith, refl) in a_moves (rw (← is_one r.0 r.1) at r.2);
  depth = depth;
  not_depth = λ s. a_moves (alike_trans (alike_sym (alike_trans (section_nil (Product One (Section (Name grigorchuk 0) []))) (alike_trans same (section_nil (Name grigorchuk 0))))) (n_one (s.within One (Section (Name grigorchuk 0) []) (one_member One (alike_refl One)) (section (here []) [] tt) [] tt refl)));
  not_two = λ s. omega (arith, nucleus_depth_once 2 SwapSections 1 2 depth s);
}

pub elements_are_products : ElementsAreProducts
elements_are_products = record {
  product = more none (section (here []) [] tt);
  not_name = λ h. elim h [ ];
}
