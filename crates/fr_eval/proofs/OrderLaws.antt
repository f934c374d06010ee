-- The identity, and the powers of an element one after the other.
use Rattle.std.proofs.Common.{ℕ, suc, false, IsTrue, ◌≡◌, ◌<◌, ◌⊎◌, inl, inr, List, [], ◌∷◌, ◌++◌, length, refl, sym, ◌∙◌, ap, subst, arith, Option, Some, None, Ok, Err}
use Rattle.std.proofs.lemmas.List.{append-nil}
use Rattle.std.proofs.lemmas.Bool.{cases_order}
use Rattle.fr_model.specs.Words.{IsLetter, IsWord}
use Rattle.fr_model.specs.Terms.{Term, One, Section, act, IsTerm, IsAlike}
use Rattle.fr_model.proofs.AlikeLaws.{alike_sym, alike_trans, alike_section, act-nil, alike_from_words}
use Rattle.fr_model.proofs.TermLaws.{act-append}
use Rattle.fr_store.specs.declared.handle.Handle.{Handle}
use Rattle.fr_store.specs.Store.{View, StandsForTerm, Reads}
use Rattle.fr_store.proofs.StoreLaws.{stands_same}
use Rattle.fr_plain.specs.Steps.{Step, Multiplied, IsRefused, AreEvaluated}
use Rattle.fr_plain.specs.Expansions.{product_of}
use Rattle.std.specs.Fmt.{decimal}
use Rattle.fr_plain.specs.Answers.{says, line_of, power, power_steps, HasNoOrder, AnswersOrder}
use Rattle.fr_plain.specs.Beginnings.{AreFirstPowers}
use Rattle.fr_expr.specs.declared.fault.EvalFault.{EvalFault}
use Rattle.fr_expr.specs.declared.fault.EvalFault.TheVariants.{Refused, Full, NoMemory}
use Rattle.fr_expr.specs.Evaluation.{Makes, Evaluates}
use Rattle.fr_expr.proofs.EvaluationLaws.{Makes-trans, Makes-none}
use Rattle.fr_eval.specs.Concluding.{Concludes}
use Rattle.fr_eval.specs.Orders.{FindsOrder, order_text}

-- a term that puts each letter out again, and whose section at each acts as the term itself, is the identity
pub identity_from : (d : ℕ) (t : Term) → IsTerm d t → ((x : ℕ) → IsLetter d x → act t (x ∷ []) ≡ x ∷ []) → ((x : ℕ) → IsLetter d x → IsAlike (Section t (x ∷ [])) t) → IsAlike t One
identity_from d t term puts same = alike_from_words d term tt stays
  where
    stays : (w : List ℕ) → IsWord d w → act t w ≡ w
    stays [] k = act-nil t
    stays (x ∷ w) k = act-append t (x ∷ []) w ∙ ap (λ v. v ++ act (Section t (x ∷ [])) w) (puts x k.0) ∙ ap (λ v. x ∷ v) ((same x k.0).images w ∙ stays w k.1)

pub identity_puts : (t : Term) (x : ℕ) → IsAlike t One → act t (x ∷ []) ≡ x ∷ []
identity_puts t x e = e.images (x ∷ [])

pub not_true : IsTrue false → ⊥
not_true h = cc

pub first_letter : {x y : ℕ} → x ∷ [] ≡ y ∷ [] → x ≡ y
first_letter e = cc

pub identity_section : (t : Term) (x : ℕ) → IsAlike t One → IsAlike (Section t (x ∷ [])) t
identity_section t x e = alike_trans (alike_section (x ∷ []) e) (alike_trans (record { images = λ w. refl }) (alike_sym e))

-- one step behind others: it stops before it, or behind it
only_one : (s : Step) (done rest : List Step) (next : Step) → s ∷ [] ≡ done ++ next ∷ rest → (done ≡ []) × (next ≡ s)
only_one s [] rest next e = (refl, sym (ap (λ l. first s l) e))
  where
    first : Step → List Step → Step
    first z [] = z
    first z (x ∷ l) = x
only_one s (x ∷ []) rest next e = absurd (omega (arith, ap length e))
only_one s (x ∷ y ∷ done) rest next e = absurd (omega (arith, ap length e))

none_or_one : (s : Step) (done rest : List Step) → s ∷ [] ≡ done ++ rest → (done ≡ []) ⊎ (done ≡ s ∷ [])
none_or_one s [] rest e = inl refl
none_or_one s (x ∷ []) rest e = inr (ap (λ l. head l) (sym e))
  where
    head : List Step → List Step
    head [] = []
    head (x ∷ l) = x ∷ []
none_or_one s (x ∷ y ∷ done) rest e = absurd (omega (arith, ap length e))

-- what is known when the power with the exponent j + 1 is there, and none before it was the identity
pub record IsAtPower {S : Type 0} (view : View S) (d : ℕ) (t : Term) (old now : S) (before charge j : ℕ) (h : Handle) : Type 0 where
  pub none : HasNoOrder t j
  pub stands : StandsForTerm d (view.known now) h (power t j)
  pub makes : Makes view d old now before charge (power_steps t j)

-- none before one more
pub none_more : (t : Term) (k : ℕ) → HasNoOrder t k → ¬ IsAlike (power t k) One → HasNoOrder t (suc k)
none_more t k h n j l = elim (cases_order j k) [
  | inl e ↦ λ a. n (subst (λ (i : ℕ). IsAlike (power t i) One) e a)
  | inr o ↦ elim o [ inl less ↦ h j less | inr more ↦ absurd (omega (arith, more, l)) ]
]

module _ {S : Type 0} (view : View S) (onward : (s t u : S) → view.kin s t → view.kin t u → view.kin s u) (d : ℕ) (t : Term) (most : ℕ) (old now : S) (before charge j : ℕ) (h : Handle) where
  -- a call that only reads
  pub power_read : (new : S) → Reads view now new → IsAtPower view d t old now before charge j h → IsAtPower view d t old new before charge j h
  power_read new r a = record {
    none = a.none;
    stands = stands_same d (view.known now) (view.known new) h (power t j) r.known a.stands;
    makes = subst (λ (s : List Step). Makes view d old new before charge s) (append-nil (power_steps t j)) (Makes-trans view onward d old now new before charge charge (power_steps t j) [] a.makes (Makes-none view onward d now new charge r));
  }

  -- the next power is made
  pub power_made : (new : S) (after : ℕ) (p : Handle) → IsAtPower view d t old now before charge j h → ¬ IsAlike (power t j) One → Evaluates view d now new charge after (product_of (power t j) t) (Ok p)
      → IsAtPower view d t old new before after (suc j) p
  power_made new after p a n v = record { none = none_more t j a.none n; stands = v.handle; makes = Makes-trans view onward d old now new before charge after (power_steps t j) (Multiplied (power t j) t ∷ []) a.makes v.makes }

  first_powers : (k : ℕ) → k < most → HasNoOrder t k → AreFirstPowers d t most (power_steps t k)
  first_powers k l n = record { count = k; within = l; needed = n; powers = refl }

  -- or not
  pub power_stops : (new : S) (after : ℕ) (e : EvalFault) → IsAtPower view d t old now before charge j h → ¬ IsAlike (power t j) One → suc j < most → Evaluates view d now new charge after (product_of (power t j) t) (Err e)
      → FindsOrder view d t most old new before after (Err e)
  power_stops new after (Refused fault) a n l v =
      let o = only_one (Multiplied (power t j) t) v.done v.stopped.rest v.stopped.next v.stopped.all in
      let P : List Step → Type 0 = λ (s : List Step). Makes view d now new charge after s in
      let Q : Step → Type 0 = λ s. IsRefused d s fault in (
        j,
        l,
        none_more t j a.none n,
        subst (λ (s : List Step). Makes view d old new before after s) (append-nil (power_steps t j))
            (Makes-trans view onward d old now new before charge after (power_steps t j) [] a.makes (subst P o.0 v.makes)),
        subst Q o.1 v.stopped.refused,
      )
  power_stops new after (Full claimed asked) a n l v =
      let s = Multiplied (power t j) t in
      let o = only_one s v.done v.rest v.next v.all in
      let P : List Step → Type 0 = λ (ss : List Step). Makes view d now new charge after ss in
      let joined = Makes-trans view onward d old now new before charge after (power_steps t j) [] a.makes (subst P o.0 v.makes) in
      record {
        done = power_steps t j;
        next = v.next;
        first = subst (λ (q : Step). AreFirstPowers d t most (power_steps t j ++ q ∷ [])) (sym o.1) (first_powers (suc j) l (none_more t j a.none n));
        makes = subst (λ (ss : List Step). Makes view d old new before after ss) (append-nil (power_steps t j)) joined;
        next_charged = v.charged;
        unknown = v.unknown;
        passes = v.passes;
        seen = v.seen;
      }
  power_stops new after NoMemory a n l v =
      let s = Multiplied (power t j) t in
      let joined = Makes-trans view onward d old now new before charge after (power_steps t j) v.done a.makes v.makes in
      elim (none_or_one s v.done v.rest v.all) [
        | inl e ↦ record {
          done = power_steps t j;
          first = inr (first_powers j (omega (arith, l)) a.none);
          makes = subst (λ (ss : List Step). Makes view d old new before after ss) (ap (λ (ss : List Step). power_steps t j ++ ss) e ∙ append-nil (power_steps t j)) joined;
        }
        | inr e ↦ record {
          done = power_steps t (suc j);
          first = inr (first_powers (suc j) l (none_more t j a.none n));
          makes = subst (λ (ss : List Step). Makes view d old new before after (power_steps t j ++ ss)) e joined;
        }
      ]

-- how the search ends as the ending of the statement
module _ {S : Type 0} (view : View S) (onward : (s t u : S) → view.kin s t → view.kin t u → view.kin s u) (d : ℕ) (t : Term) (most : ℕ) (old new : S) (before after : ℕ) (text : List ℕ) where
  pub order_halts : (fault : EvalFault) → FindsOrder view d t most old new before after (Err fault) → Concludes view d (λ e. AnswersOrder d t most e) (λ more. AreFirstPowers d t most more) old new before after text text (Err fault)
  order_halts (Refused fault) h =
      let k = h.0 in
      let m = h.3 in
      let first : AreFirstPowers d t most (power_steps t k) = record { count = k; within = omega (arith, h.1); needed = λ j l. h.2 j (omega (arith, l)); powers = refl } in
      (record { steps = power_steps t k; charge = m.charge; answer = Err fault }, record { ends = AnswersOrder.refused k m.charge fault h.1 h.2 m.evaluated h.4; first = inr first; makes = m; charged = m.charged }, refl, refl)
  order_halts (Full claimed asked) h = (h, refl)
  order_halts NoMemory h = h

  pub order_gives_up : (text' : List ℕ) (o : Option ℕ) → FindsOrder view d t most old new before after (Ok o) → Concludes view d (λ e. AnswersOrder d t most e) (λ more. AreFirstPowers d t most more) old new before after text text' (Err NoMemory)
  order_gives_up text' (Some exponent) h = record { done = power_steps t h.0; first = inr (record { count = h.0; within = h.2; needed = h.3; powers = refl }); makes = h.5 }
  order_gives_up text' None h = elim h.1 [
    | inl e ↦ record { done = power_steps t h.0; first = inr (record { count = h.0; within = omega (arith, e); needed = λ j l. h.2 j (omega (arith, l, e)); powers = refl }); makes = h.3 }
    | inr e ↦ record { done = power_steps t h.0; first = inl (ap (power_steps t) e.1); makes = h.3 }
  ]

  pub order_found : (text' : List ℕ) (o : Option ℕ) → FindsOrder view d t most old new before after (Ok o) → text' ≡ text ++ order_text o most
      → Concludes view d (λ e. AnswersOrder d t most e) (λ more. AreFirstPowers d t most more) old new before after text text' (Ok tt)
  order_found text' (Some exponent) h e =
      let k = h.0 in
      let m = h.5 in
      let said : order_text (Some exponent) most ≡ line_of (decimal (suc k)) = ap (λ n. line_of (decimal n)) h.1 in (
        record { steps = power_steps t k; charge = m.charge; answer = Ok (line_of (decimal (suc k))) },
        record { ends = AnswersOrder.found k m.charge h.2 h.3 h.4 m.evaluated; first = inr (record { count = k; within = h.2; needed = h.3; powers = refl }); makes = m; charged = m.charged },
        line_of (decimal (suc k)),
        refl,
        e ∙ ap (λ x. text ++ x) said,
      )
  order_found text' None h e =
      let k = h.0 in
      let m = h.3 in
      elim h.1 [
        | inl last ↦ (
          record { steps = power_steps t k; charge = m.charge; answer = Ok (order_text None most) },
          record { ends = AnswersOrder.passed k m.charge last h.2 m.evaluated; first = inr (record { count = k; within = omega (arith, last); needed = λ j l. h.2 j (omega (arith, l, last)); powers = refl }); makes = m; charged = m.charged },
          order_text None most,
          refl,
          e,
        )
        | inr none ↦
            let P : List Step → Type 0 = λ (ss : List Step). Makes view d old new before after ss in
            let Q : List Step → Type 0 = λ (ss : List Step). AreEvaluated d ss m.charge in
            let nothing : power_steps t k ≡ [] = ap (power_steps t) none.1 in
            let zero : m.charge ≡ 0 = subst Q nothing m.evaluated in
            let said : order_text None most ≡ order_text None 0 = ap (order_text None) none.0 in (
              says (order_text None 0),
              record { ends = AnswersOrder.none none.0; first = inl refl; makes = subst P nothing m; charged = omega (arith, m.charged, zero) },
              order_text None 0,
              refl,
              e ∙ ap (λ x. text ++ x) said,
            )
      ]
