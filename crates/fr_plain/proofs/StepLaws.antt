-- A step has one charge or one fault, and steps are evaluated to one end.
use Rattle.std.proofs.Common.{ℕ, ◌≡◌, ◌+◌, inl, inr, List, [], ◌∷◌, ◌++◌, Some, None, length, refl, sym, ◌∙◌, ap, subst, arith}
use Rattle.fr_model.specs.Terms.{Term, Product, Name}
use Rattle.fr_model.specs.Classes.{HasMorePairs, HasMoreStates, HasFewPairs}
use Rattle.fr_model.proofs.ClassLaws.{size_once, HasMorePairs-lt, HasMoreStates-lt}
use Rattle.fr_script.specs.declared.fault.LineFault.{LineFault}
use Rattle.fr_plain.specs.Steps.{Step, Looked, Identity, Inverted, Multiplied, Restricted, Defined, Listed, HasStates, IsCharged, IsRefused, AreEvaluated, AreStopped}

few_not_more : (d : ℕ) (t u : Term) → HasFewPairs d t u → HasMorePairs d t u 65536 → ⊥
few_not_more d t u few more = omega (arith, few.1, HasMorePairs-lt d t u 65536 few.0 more few.2)

states_not_more : (d n : ℕ) (t : Term) → HasStates d t n → HasMoreStates d t 1024 → ⊥
states_not_more d n t s more = omega (arith, s.0, HasMoreStates-lt d t 1024 n more s.1)

pub charge_once : (d : ℕ) (s : Step) (a b : ℕ) → IsCharged d s a → IsCharged d s b → a ≡ b
charge_once d (Looked None) a b x y = absurd x
charge_once d (Looked (Some t)) a b x y = x ∙ sym y
charge_once d Identity a b x y = x ∙ sym y
charge_once d (Inverted t) a b x y = size_once d _ a b x y
charge_once d (Multiplied t u) a b x y = size_once d (Product t u) a b x.1.1 y.1.1
charge_once d (Restricted t w) a b x y = x ∙ sym y
charge_once d (Defined s k) a b x y = size_once d (Name s k) a b x.1.1 y.1.1
charge_once d (Listed t) a b x y = size_once d t a b x y

pub fault_once : (d : ℕ) (s : Step) (f g : LineFault) → IsRefused d s f → IsRefused d s g → f ≡ g
fault_once d (Looked None) f g x y = x ∙ sym y
fault_once d (Looked (Some t)) f g x y = absurd x
fault_once d Identity f g x y = absurd x
fault_once d (Inverted t) f g x y = absurd x
fault_once d (Multiplied t u) f g (inl a) (inl b) = a.1 ∙ sym b.1
fault_once d (Multiplied t u) f g (inl a) (inr b) = absurd (few_not_more d t u b.0 a.0)
fault_once d (Multiplied t u) f g (inr a) (inl b) = absurd (few_not_more d t u a.0 b.0)
fault_once d (Multiplied t u) f g (inr a) (inr b) = a.2 ∙ sym b.2
fault_once d (Restricted t w) f g x y = absurd x
fault_once d (Defined s k) f g (inl a) (inl b) = a.1 ∙ sym b.1
fault_once d (Defined s k) f g (inl a) (inr b) = absurd (b.0 a.0)
fault_once d (Defined s k) f g (inr a) (inl b) = absurd (a.0 b.0)
fault_once d (Defined s k) f g (inr a) (inr b) = a.2 ∙ sym b.2
fault_once d (Listed t) f g x y = absurd x

pub charged_not_refused : (d : ℕ) (s : Step) (n : ℕ) (f : LineFault) → IsCharged d s n → IsRefused d s f → ⊥
charged_not_refused d (Looked None) n f x y = x
charged_not_refused d (Looked (Some t)) n f x y = y
charged_not_refused d Identity n f x y = y
charged_not_refused d (Inverted t) n f x y = y
charged_not_refused d (Multiplied t u) n f x (inl b) = few_not_more d t u x.0 b.0
charged_not_refused d (Multiplied t u) n f x (inr b) = states_not_more d n (Product t u) x.1 b.1
charged_not_refused d (Restricted t w) n f x y = y
charged_not_refused d (Defined s k) n f x (inl b) = x.0 b.0
charged_not_refused d (Defined s k) n f x (inr b) = states_not_more d n (Name s k) x.1 b.1
charged_not_refused d (Listed t) n f x y = y

pub evaluated_once : (d : ℕ) (ss : List Step) (m n : ℕ) → AreEvaluated d ss m → AreEvaluated d ss n → m ≡ n
evaluated_once d [] m n x y = x ∙ sym y
evaluated_once d (s ∷ ss) m n x y =
    omega (arith, x.4, y.4, charge_once d s x.0 y.0 x.2 y.2, evaluated_once d ss x.1 y.1 x.3 y.3)

-- first steps that are evaluated are charged at most as much as the whole
pub AreEvaluated-append : (d : ℕ) (ss rest : List Step) (m n : ℕ) → AreEvaluated d ss m → AreEvaluated d rest n → AreEvaluated d (ss ++ rest) (m + n)
AreEvaluated-append d [] rest m n x y = subst (λ k. AreEvaluated d rest k) (omega (arith, x)) y
AreEvaluated-append d (s ∷ ss) rest m n x y =
    (x.0, x.1 + n, x.2, AreEvaluated-append d ss rest x.1 n x.3 y, omega (arith, x.4))

pub AreEvaluated-split : (d : ℕ) (ss rest : List Step) (n : ℕ) → AreEvaluated d (ss ++ rest) n → (a : ℕ) × (b : ℕ) × AreEvaluated d ss a × AreEvaluated d rest b × (n ≡ a + b)
AreEvaluated-split d [] rest n x = (0, n, refl, x, omega arith)
AreEvaluated-split d (s ∷ ss) rest n x =
    let r = AreEvaluated-split d ss rest x.1 x.3 in
    (x.0 + r.0, r.1, (x.0, r.0, x.2, r.2, refl), r.3, omega (arith, x.4, r.4))

-- how far steps are evaluated, by the steps themselves
abbrev Stops : ℕ → List Step → ℕ → LineFault → List Step → Step → List Step → Type 0
Stops d ss n f done next rest = (ss ≡ done ++ next ∷ rest) × AreEvaluated d done n × IsRefused d next f

head_same : (a b : Step) (ss ts : List Step) → a ∷ ss ≡ b ∷ ts → a ≡ b
head_same a b ss ts e = ap (λ l. elim l [ [] ↦ a | x ∷ xs ↦ x ]) e

tail_same : (a b : Step) (ss ts : List Step) → a ∷ ss ≡ b ∷ ts → ss ≡ ts
tail_same a b ss ts e = ap (λ l. elim l [ [] ↦ ss | x ∷ xs ↦ xs ]) e

-- evaluated steps and a refused one do not stand at one place
not_both : (d n : ℕ) (f : LineFault) (more done : List Step) (next : Step) (rest : List Step) → AreEvaluated d (more) n → more ≡ done ++ next ∷ rest → IsRefused d next f → ⊥
not_both d n f [] [] next rest x e r = absurd (omega (arith, ap length e))
not_both d n f [] (s ∷ done) next rest x e r = absurd (omega (arith, ap length e))
not_both d n f (s ∷ more) [] next rest x e r =
    charged_not_refused d s x.0 f x.2 (subst (λ k. IsRefused d k f) (sym (head_same s next more rest e)) r)
not_both d n f (s ∷ more) (t ∷ done) next rest x e r = not_both d x.1 f more done next rest x.3 (tail_same s t more (done ++ next ∷ rest) e) r

pub evaluated_not_stopped : (d : ℕ) (ss done : List Step) (m n : ℕ) (f : LineFault) → AreEvaluated d ss m → AreStopped d ss done n f → ⊥
evaluated_not_stopped d ss done m n f x s = not_both d m f ss done s.next s.rest x s.all s.refused

stops_once : (d m n : ℕ) (f g : LineFault) (done other : List Step) (next last : Step) (rest more : List Step)
    → AreEvaluated d done m → IsRefused d next f → AreEvaluated d other n → IsRefused d last g → done ++ next ∷ rest ≡ other ++ last ∷ more
    → (done ≡ other) × (m ≡ n) × (f ≡ g)
stops_once d m n f g [] [] next last rest more x r y q e =
    (refl, x ∙ sym y, fault_once d next f g r (subst (λ k. IsRefused d k g) (sym (head_same next last rest more e)) q))
stops_once d m n f g [] (t ∷ other) next last rest more x r y q e =
    absurd (charged_not_refused d t y.0 f y.2 (subst (λ k. IsRefused d k f) (head_same next t rest (other ++ last ∷ more) e) r))
stops_once d m n f g (s ∷ done) [] next last rest more x r y q e =
    absurd (charged_not_refused d s x.0 g x.2 (subst (λ k. IsRefused d k g) (sym (head_same s last (done ++ next ∷ rest) more e)) q))
stops_once d m n f g (s ∷ done) (t ∷ other) next last rest more x r y q e =
    let h : s ≡ t = head_same s t (done ++ next ∷ rest) (other ++ last ∷ more) e in
    let z = stops_once d x.1 y.1 f g done other next last rest more x.3 r y.3 q (tail_same s t (done ++ next ∷ rest) (other ++ last ∷ more) e) in (
      ap (λ k. k ∷ done) h ∙ ap (λ k. t ∷ k) z.0,
      omega (arith, x.4, y.4, z.1, charge_once d s x.0 y.0 x.2 (subst (λ k. IsCharged d k y.0) (sym h) y.2)),
      z.2,
    )

pub stopped_once : (d : ℕ) (ss done other : List Step) (m n : ℕ) (f g : LineFault) → AreStopped d ss done m f → AreStopped d ss other n g → (done ≡ other) × (m ≡ n) × (f ≡ g)
stopped_once d ss done other m n f g a b =
    stops_once d m n f g done other a.next b.next a.rest b.rest a.evaluated a.refused b.evaluated b.refused (sym a.all ∙ b.all)
