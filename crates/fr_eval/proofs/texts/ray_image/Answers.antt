use Rattle.std.proofs.Common.{ℕ, ◌≡◌, ◌∷◌, [], ◌++◌, List, inl, inr, Err, refl, sym, ◌∙◌, ap, subst, append_assoc}
use Rattle.std.proofs.lemmas.Result.{err_from_is_err_and}
use Rattle.fr_model.specs.Words.{IsWord}
use Rattle.fr_model.specs.Rays.{IsCanonicalRay, IsSameRay}
use Rattle.fr_machine.specs.Rows.{row_term}
use Rattle.fr_ray.specs.Rays.{IsLongImage}
use Rattle.fr_ray.specs.Writing.{ray_text}
use Rattle.fr_script.specs.declared.fault.LineFault.TheVariants as f
use Rattle.fr_plain.specs.Answers.{AnswersRay}
use Rattle.fr_eval.proofs.AnswerLaws.{IsRayImage-same, IsLongImage-same}
use Rattle.fr_eval.proofs.ConcludingLaws.{prints, refuses, gives_up}
use Rattle.fr_eval.proofs.texts.ray_image.Goals as goal

-- the canonical form is over the letters of the store, and is the same ray
canonical_over : (d : ℕ) (before period first second u v : List ℕ) → first ≡ before → second ≡ period → IsWord d before → IsWord d period → ((n : ℕ) → IsWord n first → IsWord n second → IsCanonicalRay n u v) → IsCanonicalRay d u v
canonical_over d before period first second u v e f a b h = h d (subst (IsWord d) (sym e) a) (subst (IsWord d) (sym f) b)

same_over : (before period first second u v : List ℕ) → first ≡ before → second ≡ period → IsSameRay first second u v → IsSameRay before period u v
same_over before period first second u v e f h = subst (λ (a : List ℕ). IsSameRay a period u v) e (subst (λ (b : List ℕ). IsSameRay first b u v) f h)

pub returns-in_err-ray-clause-concludes : goal.returns-in_err-ray-clause-concludes
returns-in_err-ray-clause-concludes g c = λ t n s.
    let p = err_from_is_err_and c.from_residual-in_err-ray.result c.from_residual-in_err-ray.ensures.1 in
    let view = g.S.Store.view in
    let d = view.alphabet c.args.store.now in
    rw (p.1, p.2) (gives_up view g.met.S.Store.kin_onward d (λ e. AnswersRay d t (record { before = c.args.ray.now.before; period = c.args.ray.now.period }) e) (λ steps. steps ≡ []) c.args.store.now c.machine.new.self n c.args.out.now.items c.args.out.now.items c.in_ok-m.ensures.reads)

pub act-requires-clause-before : goal.act-requires-clause-before
act-requires-clause-before g c =
    let d = g.S.Store.view.alphabet c.args.store.now in
    let r = c.in_ok-ray.ray in
    subst (λ (n : ℕ). IsWord n r.before) (sym c.in_ok-m.ensures.alphabet) (canonical_over d c.args.ray.now.before c.args.ray.now.period _ _ r.before r.period c.letters.ensures.value c.letters-2.ensures.value c.requires.fits.before c.requires.fits.period c.in_ok-ray.ensures.canonical).beginning

pub act-requires-clause-period : goal.act-requires-clause-period
act-requires-clause-period g c =
    let d = g.S.Store.view.alphabet c.args.store.now in
    let r = c.in_ok-ray.ray in
    subst (λ (n : ℕ). IsWord n r.period) (sym c.in_ok-m.ensures.alphabet) (canonical_over d c.args.ray.now.before c.args.ray.now.period _ _ r.before r.period c.letters.ensures.value c.letters-2.ensures.value c.requires.fits.before c.requires.fits.period c.in_ok-ray.ensures.canonical).period

pub returns-in_err-print-in-Ok-clause-concludes : goal.returns-in_err-print-in-Ok-clause-concludes
returns-in_err-print-in-Ok-clause-concludes g c = λ t n s.
    let p = err_from_is_err_and c.from_residual-in_err-print-in-Ok.result c.from_residual-in_err-print-in-Ok.ensures.1 in
    let view = g.S.Store.view in
    let d = view.alphabet c.args.store.now in
    rw (p.1, p.2) (gives_up view g.met.S.Store.kin_onward d (λ e. AnswersRay d t (record { before = c.args.ray.now.before; period = c.args.ray.now.period }) e) (λ steps. steps ≡ []) c.args.store.now c.machine.new.self n c.args.out.now.items c.print.new.out.items c.in_ok-m.ensures.reads)

pub returns-in_err-push-in-Ok-clause-concludes : goal.returns-in_err-push-in-Ok-clause-concludes
returns-in_err-push-in-Ok-clause-concludes g c = λ t n s.
    let p = err_from_is_err_and c.from_residual-in_err-push-in-Ok.result c.from_residual-in_err-push-in-Ok.ensures.1 in
    let view = g.S.Store.view in
    let d = view.alphabet c.args.store.now in
    rw (p.1, p.2) (gives_up view g.met.S.Store.kin_onward d (λ e. AnswersRay d t (record { before = c.args.ray.now.before; period = c.args.ray.now.period }) e) (λ steps. steps ≡ []) c.args.store.now c.machine.new.self n c.args.out.now.items c.push.new.self.items c.in_ok-m.ensures.reads)

pub returns-in-Ok-clause-concludes : goal.returns-in-Ok-clause-concludes
returns-in-Ok-clause-concludes g c = λ t n s.
    let view = g.S.Store.view in
    let d = view.alphabet c.args.store.now in
    let raw = c.args.ray.now in
    let m = c.in_ok-m.m in
    let r = c.in_ok-ray.ray in
    let image = c.in-Ok.image in
    let same = same_over raw.before raw.period _ _ r.before r.period c.letters.ensures.value c.letters-2.ensures.value c.in_ok-ray.ensures.same in
    prints view g.met.S.Store.kin_onward d (λ e. AnswersRay d t (record { before = raw.before; period = raw.period }) e) (λ steps. steps ≡ []) c.args.store.now c.machine.new.self n c.args.out.now.items c.push.new.self.items c.in_ok-m.ensures.reads (
      ray_text image ++ 10 ∷ [],
      inl (
        ray_text image,
        record {
          image = image;
          canonical = subst (λ (k : ℕ). IsCanonicalRay k image.before image.period) c.in_ok-m.ensures.alphabet c.in-Ok.ensures.canonical;
          is_image = IsRayImage-same (row_term m.rows 0) t raw.before raw.period r.before r.period image.before image.period (c.in_ok-m.ensures.alike t s) same c.in-Ok.ensures.image;
          short = c.in-Ok.ensures.few;
          text_is = refl;
        },
        refl,
      ),
      c.in_ok-push-in-Ok.ensures.items ∙ ap (λ l. l ++ 10 ∷ []) c.in_ok-print-in-Ok.ensures.ok ∙ append_assoc _ (ray_text image) (10 ∷ []),
    )

pub returns-in-Err-RayPassed-clause-concludes : goal.returns-in-Err-RayPassed-clause-concludes
returns-in-Err-RayPassed-clause-concludes g c = λ t n s.
    let view = g.S.Store.view in
    let d = view.alphabet c.args.store.now in
    let raw = c.args.ray.now in
    let m = c.in_ok-m.m in
    let r = c.in_ok-ray.ray in
    let same = same_over raw.before raw.period _ _ r.before r.period c.letters.ensures.value c.letters-2.ensures.value c.in_ok-ray.ensures.same in
    let long : IsLongImage d (row_term m.rows 0) r = subst (λ (k : ℕ). IsLongImage k (row_term m.rows 0) r) c.in_ok-m.ensures.alphabet (c.in-Err-RayPassed.ensures.passed (ap Err c.in-Err-RayPassed.field-0-is)) in
    refuses view g.met.S.Store.kin_onward d (λ e. AnswersRay d t (record { before = raw.before; period = raw.period }) e) (λ steps. steps ≡ []) c.args.store.now c.machine.new.self n c.args.out.now.items c.args.out.now.items f.RayPassed c.in_ok-m.ensures.reads
    (inr (IsLongImage-same d (row_term m.rows 0) t (record { before = raw.before; period = raw.period }) r (c.in_ok-m.ensures.alike t s) same long, refl)) refl

pub returns-clause-concludes : goal.returns-clause-concludes
returns-clause-concludes g c = λ t n s.
    let view = g.S.Store.view in
    let d = view.alphabet c.args.store.now in
    gives_up view g.met.S.Store.kin_onward d (λ e. AnswersRay d t (record { before = c.args.ray.now.before; period = c.args.ray.now.period }) e) (λ steps. steps ≡ []) c.args.store.now c.machine.new.self n c.args.out.now.items c.args.out.now.items c.in_ok-m.ensures.reads
