-- A statement that asks ends in one way.
use Rattle.std.proofs.Common.{ℕ, zero, suc, ◌≡◌, ◌≤◌, inl, inr, List, [], ◌∷◌, ◌++◌, Ok, Err, length, codes, refl, sym, ◌∙◌, ap, subst, arith}
use Rattle.std.specs.Fmt.{decimal}
use Rattle.std.proofs.lemmas.Bool.{cases_order}
use Rattle.fr_model.specs.Terms.{Term, One, IsAlike}
use Rattle.fr_model.specs.Automata.{state_at}
use Rattle.fr_model.specs.Rays.{IsCanonicalRay, IsRayImage}
use Rattle.fr_model.proofs.AlikeLaws.{alike_refl}
use Rattle.fr_model.proofs.CanonicalLaws.{canonical_same}
use Rattle.fr_model.proofs.ClassLaws.{size_once}
use Rattle.fr_model.proofs.CodeLaws.{separation_once}
use Rattle.fr_model.proofs.GrowthLaws.{depth_once, degree_once, triple_once, finitary_or_exponential}
use Rattle.fr_model.proofs.LimitLaws.{canonical_ray_once}
use Rattle.fr_canon.specs.Texts.{machine_text, wreath_text}
use Rattle.fr_growth.specs.declared.growth_class.Class.{Class}
use Rattle.fr_growth.specs.declared.growth_class.Class.TheVariants.{Finitary, Polynomial, Exponential}
use Rattle.fr_growth.specs.Classes.{IsClass}
use Rattle.fr_growth.specs.Texts.{class_text, degree_text}
use Rattle.fr_alphabet.specs.Writing.{word_text}
use Rattle.fr_ray.specs.Rays.{RayView, IsLongImage}
use Rattle.fr_ray.specs.Writing.{ray_text}
use Rattle.fr_script.specs.declared.fault.LineFault.{LineFault}
use Rattle.fr_plain.specs.Steps.{Step, Multiplied, IsRefused, AreEvaluated, AreStopped}
use Rattle.fr_plain.specs.Answers.{Ending, says, fails, line_of, AnswersShow, AnswersStates, AnswersWreath, AnswersClass, AnswersEq, comparison_text, AnswersAct, IsShortImage, AnswersRay, power_steps, power, HasNoOrder, AnswersOrder, found, none, passed, refused}
use Rattle.fr_plain.specs.Held.{AreAlikeSteps}
use Rattle.fr_plain.proofs.HeldLaws.{alike_steps_same}
use Rattle.fr_plain.proofs.StepLaws.{evaluated_once, stopped_once, evaluated_not_stopped, AreEvaluated-split}

-- two endings have one charge, and one text or fault, and make the same
abbrev pub IsSameEnding : Ending → Ending → Type 0
IsSameEnding e f = (e.charge ≡ f.charge) × (e.answer ≡ f.answer) × AreAlikeSteps e.steps f.steps

-- there are no two such endings
abbrev pub EndsOnce : (Ending → Type 0) → Type 0
EndsOnce Ends = (e f : Ending) → Ends e → Ends f → IsSameEnding e f

said_once : (e f : Ending) (v w : List ℕ) → e ≡ says v → f ≡ says w → v ≡ w → IsSameEnding e f
said_once e f v w a b h = (
  ap (λ (x : Ending). x.charge) a ∙ sym (ap (λ (x : Ending). x.charge) b),
  ap (λ (x : Ending). x.answer) a ∙ ap (λ (u : List ℕ). (says u).answer) h ∙ sym (ap (λ (x : Ending). x.answer) b),
  alike_steps_same e.steps f.steps (ap (λ (x : Ending). x.steps) a ∙ sym (ap (λ (x : Ending). x.steps) b)),
)

failed_once : (e f : Ending) (g : LineFault) → e ≡ fails g → f ≡ fails g → IsSameEnding e f
failed_once e f g a b = (
  ap (λ (x : Ending). x.charge) a ∙ sym (ap (λ (x : Ending). x.charge) b),
  ap (λ (x : Ending). x.answer) a ∙ sym (ap (λ (x : Ending). x.answer) b),
  alike_steps_same e.steps f.steps (ap (λ (x : Ending). x.steps) a ∙ sym (ap (λ (x : Ending). x.steps) b)),
)

pub shown_once : (d : ℕ) (t : Term) → EndsOnce (AnswersShow d t)
shown_once d t e f a b = said_once e f _ _ a.ends b.ends (ap machine_text (canonical_same d t t a.states b.states a.canonical b.canonical (alike_refl t)))

pub counted_once : (d : ℕ) (t : Term) → EndsOnce (AnswersStates d t)
counted_once d t e f a b = said_once e f _ _ a.ends b.ends (ap (λ n. line_of (decimal n)) (size_once d t a.size b.size a.is_size b.is_size))

pub unfolded_once : (d : ℕ) (t : Term) → EndsOnce (AnswersWreath d t)
unfolded_once d t e f a b =
    said_once e f _ _ a.ends b.ends (ap (λ qs. line_of (wreath_text (state_at qs 0))) (canonical_same d t t a.states b.states a.canonical b.canonical (alike_refl t)))

-- a term is of one class, as far as its text goes
pub class_text_once : (d : ℕ) (t : Term) (a b : Class) → IsClass d t a → IsClass d t b → class_text a ≡ class_text b
class_text_once d t (Finitary m) (Finitary n) x y = ap (λ k. codes "finitary " ++ decimal k) (depth_once d t m n x y)
class_text_once d t (Finitary m) (Polynomial k chain) x y = absurd (y.degree.infinitary m x.inactive)
class_text_once d t (Finitary m) (Exponential at u v) x y = absurd (finitary_or_exponential d t m at u v x y.triple)
class_text_once d t (Polynomial k chain) (Finitary m) x y = absurd (x.degree.infinitary m y.inactive)
class_text_once d t (Polynomial k chain) (Polynomial l other) x y = ap degree_text (degree_once d t k l x.degree y.degree)
class_text_once d t (Polynomial k chain) (Exponential at u v) x y = absurd (x.degree.subexponential at u v y.triple)
class_text_once d t (Exponential at u v) (Finitary m) x y = absurd (finitary_or_exponential d t m at u v y x.triple)
class_text_once d t (Exponential at u v) (Polynomial k chain) x y = absurd (y.degree.subexponential at u v x.triple)
class_text_once d t (Exponential at u v) (Exponential at' u' v') x y =
    let h = triple_once d t at u v at' u' v' x y in
    ap (λ w. codes "exponential at " ++ word_text w ++ codes " by " ++ word_text u ++ codes " " ++ word_text v) h.0
    ∙ ap (λ w. codes "exponential at " ++ word_text at' ++ codes " by " ++ word_text w ++ codes " " ++ word_text v) h.1
    ∙ ap (λ w. codes "exponential at " ++ word_text at' ++ codes " by " ++ word_text u' ++ codes " " ++ word_text w) h.2

pub classified_once : (d : ℕ) (t : Term) → EndsOnce (AnswersClass d t)
classified_once d t e f a b = said_once e f _ _ a.ends b.ends (ap line_of (class_text_once d t a.class b.class a.is_class b.is_class))

pub compared_once : (d : ℕ) (t u : Term) → EndsOnce (AnswersEq d t u)
compared_once d t u e f a b =
    said_once e f _ _ a.ends b.ends (ap (λ o. line_of (comparison_text t u o)) (separation_once d t u a.found b.found a.separates b.separates))

pub mapped_once : (t : Term) (w : List ℕ) → EndsOnce (AnswersAct t w)
mapped_once t w e f a b = said_once e f _ _ a b refl

-- ---- rays
image_once : (d : ℕ) (t : Term) (ray : RayView) (u v u' v' : List ℕ) → IsCanonicalRay d u v → IsCanonicalRay d u' v' → IsRayImage t ray.before ray.period u v
    → IsRayImage t ray.before ray.period u' v' → (u ≡ u') × (v ≡ v')
image_once d t ray u v u' v' a b x y = canonical_ray_once d u v u' v' a b (λ n. x n ∙ sym (y n))

not_short_and_long : (d : ℕ) (t : Term) (ray : RayView) (text : List ℕ) → IsShortImage d t ray text → IsLongImage d t ray → ⊥
not_short_and_long d t ray text a b =
    let h = image_once d t ray a.image.before a.image.period b.before b.period a.canonical b.canonical a.is_image b.image in
    omega (arith, a.short, b.long, ap length h.0, ap length h.1)

pub ray_mapped_once : (d : ℕ) (t : Term) (ray : RayView) → EndsOnce (AnswersRay d t ray)
ray_mapped_once d t ray e f (inl a) (inl b) =
    let h = image_once d t ray a.1.image.before a.1.image.period b.1.image.before b.1.image.period a.1.canonical b.1.canonical a.1.is_image b.1.is_image in
    let same : a.0 ≡ b.0 = a.1.text_is ∙ ap (λ u. ray_text (record { before = u; period = a.1.image.period })) h.0
    ∙ ap (λ v. ray_text (record { before = b.1.image.before; period = v })) h.1 ∙ sym b.1.text_is in
    said_once e f _ _ a.2 b.2 (ap line_of same)
ray_mapped_once d t ray e f (inl a) (inr b) = absurd (not_short_and_long d t ray a.0 a.1 b.0)
ray_mapped_once d t ray e f (inr a) (inl b) = absurd (not_short_and_long d t ray b.0 b.1 a.0)
ray_mapped_once d t ray e f (inr a) (inr b) = failed_once e f _ a.1 b.1

-- ---- orders
-- where products are evaluated, so are those before them
fewer_powers : (d : ℕ) (t : Term) (k l n : ℕ) → k ≤ l → AreEvaluated d (power_steps t l) n → (m : ℕ) × AreEvaluated d (power_steps t k) m
fewer_powers d t k zero n h x =
    let e : 0 ≡ k = omega (arith, h) in
    (0, subst (λ j. AreEvaluated d (power_steps t j) 0) e refl)
fewer_powers d t k (suc l) n h x = elim (cases_order k (suc l)) [
  | inl e ↦ (n, subst (λ j. AreEvaluated d (power_steps t j) n) (sym e) x)
  | inr o ↦
      let s = AreEvaluated-split d (power_steps t l) (Multiplied (power t l) t ∷ []) n x in
      fewer_powers d t k l s.0 (elim o [ inl b ↦ omega (arith, b) | inr b ↦ omega (arith, b, h) ]) s.2
]

pub not_stopped_before : (d : ℕ) (t : Term) (k l m n : ℕ) (done : List Step) (fault : LineFault) → suc k ≤ l → AreEvaluated d (power_steps t l) m
    → AreStopped d (power_steps t (suc k)) done n fault → ⊥
not_stopped_before d t k l m n done fault h x s =
    let e = fewer_powers d t (suc k) l m h x in
    evaluated_not_stopped d (power_steps t (suc k)) done e.0 n fault e.1 s

-- the power with the exponent k + 1 is not the identity for a smaller k than the first
pub order_least : (t : Term) (k l : ℕ) → HasNoOrder t k → IsAlike (power t l) One → k ≤ l
order_least t k l before h = elim (cases_order l k) [
  | inl e ↦ omega (arith, e)
  | inr o ↦ elim o [ inl b ↦ absurd (before l b h) | inr b ↦ omega (arith, b) ]
]

-- the steps of the next power stop before it
pub stopped_power : (d : ℕ) (t : Term) (k n : ℕ) (fault : LineFault) → AreEvaluated d (power_steps t k) n → IsRefused d (Multiplied (power t k) t) fault
    → AreStopped d (power_steps t (suc k)) (power_steps t k) n fault
stopped_power d t k n fault x r = record { next = Multiplied (power t k) t; rest = []; all = refl; evaluated = x; refused = r }

pub ordered_once : (d : ℕ) (t : Term) (most : ℕ) → EndsOnce (AnswersOrder d t most)
ordered_once d t most _ _ (found k n a b c x) (found l m a' b' c' y) =
    let h : k ≡ l = omega (arith, order_least t k l b c', order_least t l k b' c) in (
      evaluated_once d (power_steps t k) n m x (subst (λ j. AreEvaluated d (power_steps t j) m) (sym h) y),
      ap (λ j. Ok (line_of (decimal (suc j)))) h,
      alike_steps_same (power_steps t k) (power_steps t l) (ap (power_steps t) h),
    )
ordered_once d t most _ _ (found k n a b c x) (none e) = absurd (omega (arith, a, e))
ordered_once d t most _ _ (found k n a b c x) (passed l m e f y) = absurd (f k a c)
ordered_once d t most _ _ (found k n a b c x) (refused l m fault h i y r) =
    absurd (not_stopped_before d t l k n m (power_steps t l) fault (order_least t (suc l) k i c) x (stopped_power d t l m fault y r))
ordered_once d t most _ _ (none e) (found k n a b c x) = absurd (omega (arith, a, e))
ordered_once d t most _ _ (none e) (none e') = (refl, refl, tt)
ordered_once d t most _ _ (none e) (passed l m e' f y) = absurd (omega (arith, e, e'))
ordered_once d t most _ _ (none e) (refused l m fault h i y r) = absurd (omega (arith, e, h))
ordered_once d t most _ _ (passed l m e f y) (found k n a b c x) = absurd (f k a c)
ordered_once d t most _ _ (passed l m e f y) (none e') = absurd (omega (arith, e, e'))
ordered_once d t most _ _ (passed l m e f y) (passed k n e' f' x) =
    let h : l ≡ k = omega (arith, e, e') in
    (evaluated_once d (power_steps t l) m n y (subst (λ j. AreEvaluated d (power_steps t j) n) (sym h) x), refl, alike_steps_same (power_steps t l) (power_steps t k) (ap (power_steps t) h))
ordered_once d t most _ _ (passed k n e f x) (refused l m fault h i y r) =
    absurd (not_stopped_before d t l k n m (power_steps t l) fault (omega (arith, e, h)) x (stopped_power d t l m fault y r))
ordered_once d t most _ _ (refused l m fault h i y r) (found k n a b c x) =
    absurd (not_stopped_before d t l k n m (power_steps t l) fault (order_least t (suc l) k i c) x (stopped_power d t l m fault y r))
ordered_once d t most _ _ (refused l m fault h i y r) (none e) = absurd (omega (arith, e, h))
ordered_once d t most _ _ (refused l m fault h i y r) (passed k n e f x) =
    absurd (not_stopped_before d t l k n m (power_steps t l) fault (omega (arith, e, h)) x (stopped_power d t l m fault y r))
ordered_once d t most _ _ (refused k n fault h i x r) (refused l m fault' h' i' y r') = elim (cases_order k l) [
  | inl same ↦
      let s' = subst (λ j. AreStopped d (power_steps t (suc j)) (power_steps t j) m fault') (sym same) (stopped_power d t l m fault' y r') in
      let z = stopped_once d (power_steps t (suc k)) (power_steps t k) (power_steps t k) n m fault fault' (stopped_power d t k n fault x r) s' in
      (z.1, ap (λ g. Err g) z.2, alike_steps_same (power_steps t k) (power_steps t l) (ap (power_steps t) same))
  | inr o ↦ elim o [
    | inl b ↦ absurd (not_stopped_before d t k l m n (power_steps t k) fault b y (stopped_power d t k n fault x r))
    | inr b ↦ absurd (not_stopped_before d t l k n m (power_steps t l) fault' b x (stopped_power d t l m fault' y r'))
  ]
]
