-- What steps hold, by what each of them makes: neither their order nor how often an element is made matters.
use Rattle.std.proofs.Common.{ℕ, zero, suc, ◌≡◌, ◌⊎◌, inl, inr, List, [], ◌∷◌, ◌++◌, refl, sym, subst, arith}
use Rattle.std.specs.Prelude.{Contains}
use Rattle.fr_model.specs.Words.{IsWord}
use Rattle.fr_model.specs.Terms.{Term, One, Section, IsAlike}
use Rattle.fr_model.proofs.AlikeLaws.{alike_refl, alike_sym, alike_trans, alike_section}
use Rattle.fr_model.proofs.ClassLaws.{count-same}
use Rattle.fr_plain.specs.Steps.{Step, value_of}
use Rattle.fr_plain.specs.Held.{IsHeld, HoldsClasses, AreAlikeSteps}

-- ---- steps that make the same, one by one
pub alike_steps_refl : (ss : List Step) → AreAlikeSteps ss ss
alike_steps_refl [] = tt
alike_steps_refl (s ∷ ss) = (alike_refl (value_of s), alike_steps_refl ss)

pub alike_steps_same : (ss rs : List Step) → ss ≡ rs → AreAlikeSteps ss rs
alike_steps_same ss rs e = subst (AreAlikeSteps ss) e (alike_steps_refl ss)

pub alike_steps_sym : (ss rs : List Step) → AreAlikeSteps ss rs → AreAlikeSteps rs ss
alike_steps_sym [] [] a = a
alike_steps_sym [] (r ∷ rs) a = absurd a
alike_steps_sym (s ∷ ss) [] a = absurd a
alike_steps_sym (s ∷ ss) (r ∷ rs) a = (alike_sym a.0, alike_steps_sym ss rs a.1)

pub alike_steps_append : (ss rs more other : List Step) → AreAlikeSteps ss rs → AreAlikeSteps more other → AreAlikeSteps (ss ++ more) (rs ++ other)
alike_steps_append [] [] more other a b = b
alike_steps_append [] (r ∷ rs) more other a b = absurd a
alike_steps_append (s ∷ ss) [] more other a b = absurd a
alike_steps_append (s ∷ ss) (r ∷ rs) more other a b = (a.0, alike_steps_append ss rs more other a.1 b)

-- ---- what is held
-- what acts like it is held too
pub held_as : (d : ℕ) (ss : List Step) (t u : Term) → IsAlike t u → IsHeld d ss u → IsHeld d ss t
held_as d [] t u a h = h
held_as d (s ∷ ss) t u a (inl h) = inl (h.0, h.1, alike_trans a h.2)
held_as d (s ∷ ss) t u a (inr h) = inr (held_as d ss t u a h)

pub held_alike : (d : ℕ) (ss rs : List Step) (t : Term) → AreAlikeSteps ss rs → IsHeld d ss t → IsHeld d rs t
held_alike d [] rs t a h = absurd h
held_alike d (s ∷ ss) [] t a h = absurd a
held_alike d (s ∷ ss) (r ∷ rs) t a (inl h) = inl (h.0, h.1, alike_trans h.2 (alike_section h.0 a.0))
held_alike d (s ∷ ss) (r ∷ rs) t a (inr h) = inr (held_alike d ss rs t a.1 h)

pub held_append : (d : ℕ) (ss rs : List Step) (t : Term) → IsHeld d ss t ⊎ IsHeld d rs t → IsHeld d (ss ++ rs) t
held_append d [] rs t (inl h) = absurd h
held_append d [] rs t (inr h) = h
held_append d (s ∷ ss) rs t (inl (inl h)) = inl h
held_append d (s ∷ ss) rs t (inl (inr h)) = inr (held_append d ss rs t (inl h))
held_append d (s ∷ ss) rs t (inr h) = inr (held_append d ss rs t (inr h))

-- ---- how much is held
-- what the same steps hold in another order
pub held_by : (d : ℕ) (ss : List Step) (s : Step) (t : Term) (w : List ℕ) → Contains ss s → IsWord d w → IsAlike t (Section (value_of s) w) → IsHeld d ss t
held_by d [] s t w c h a = absurd (omega (arith, c.1))
held_by d (r ∷ ss) s t w (zero, less, e) h a = inl (w, h, subst (λ (x : Step). IsAlike t (Section (value_of x) w)) (sym e) a)
held_by d (r ∷ ss) s t w (suc k, less, e) h a = inr (held_by d ss s t w (k, omega (arith, less), e) h a)

pub held_among : (d : ℕ) (ss rs : List Step) (t : Term) → ((s : Step) → Contains ss s → Contains rs s) → IsHeld d ss t → IsHeld d rs t
held_among d [] rs t there h = absurd h
held_among d (s ∷ ss) rs t there (inl h) = held_by d rs s t h.0 (there s (0, omega arith, refl)) h.1 h.2
held_among d (s ∷ ss) rs t there (inr h) = held_among d ss rs t (λ r c. there r (suc c.0, omega (arith, c.1), c.2)) h

-- steps that hold the same hold as many classes
pub holds_either : (d : ℕ) (ss rs : List Step) (n : ℕ) → ((t : Term) → IsHeld d ss t → IsHeld d rs t) → ((t : Term) → IsHeld d rs t → IsHeld d ss t) → HoldsClasses d ss n → HoldsClasses d rs n
holds_either d ss rs n there back c = record {
  members = c.members;
  count = c.count;
  valid = λ k t less. there _ (c.valid k t less);
  apart = c.apart;
  covers = λ t h. c.covers t (back t h);
}

pub holds_any_order : (d : ℕ) (ss rs : List Step) (n : ℕ) → ((s : Step) → Contains ss s → Contains rs s) → ((s : Step) → Contains rs s → Contains ss s) → HoldsClasses d ss n → HoldsClasses d rs n
holds_any_order d ss rs n there back c = holds_either d ss rs n (λ t h. held_among d ss rs t there h) (λ t h. held_among d rs ss t back h) c

pub holds_once : (d : ℕ) (ss rs : List Step) (m n : ℕ) → AreAlikeSteps ss rs → HoldsClasses d ss m → HoldsClasses d rs n → m ≡ n
holds_once d ss rs m n a x y =
    let same = holds_either d ss rs m (λ t h. held_alike d ss rs t a h) (λ t h. held_alike d rs ss t (alike_steps_sym ss rs a) h) x in
    count-same One (IsHeld d rs) IsAlike (λ t u h. alike_sym h) (λ t u v h k. alike_trans h k) m n same y
