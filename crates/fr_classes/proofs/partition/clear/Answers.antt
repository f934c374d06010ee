use Rattle.std.proofs.Common.{refl, arith, ℕ, ◌≡◌, ◌+◌, ◌<◌, inl, inr, List, [], length, get_or, set, sym, ◌∙◌, ap}
use Rattle.std.proofs.lemmas.Bool.{cases_lt, cases_eq}
use Rattle.std.proofs.lemmas.List.{get_or-set_same, get_or-set_other, length-set}
use Rattle.std.proofs.lemmas.List.Elements.{All-get_or}
use Rattle.fr_classes.specs.declared.signature.Signed.{Signed}
use Rattle.fr_classes.specs.Refinement.{work_at}
use Rattle.fr_classes.proofs.partition.clear.Goals as goal

cleared : (work : List Signed) (leads leads' : List ℕ) (i : ℕ) → leads' ≡ set leads (work_at work i).class 0 → (work_at work i).class < length leads → ((k : ℕ) → k < i → get_or leads (work_at work k).class 0 ≡ 0) → (k : ℕ) → k < i + 1 → get_or leads' (work_at work k).class 0 ≡ 0
cleared work leads leads' i e l none k lt =
    let x = (work_at work i).class in
    let c = (work_at work k).class in
    ap (λ xs. get_or xs c 0) e ∙ elim (cases_eq c x) [
      | inl f ↦ ap (λ j. get_or (set leads x 0) j 0) f ∙ get_or-set_same leads x 0 0 l
      | inr n ↦ get_or-set_other leads x c 0 0 n ∙ elim (cases_lt k i) [
        | inl t ↦ none k t
        | inr t ↦ let same : k ≡ i = omega arith in absurd (n (ap (λ j. (work_at work j).class) same))
      ]
    ]

pub loop-item-preserved : goal.loop-item-preserved
loop-item-preserved c =
    let work = c.args.work.now in
    let leads = c.loop-item.leads.items in
    let i = c.loop-item.item-index in
    let h = c.loop-item.invariant in
    let l : (work_at work i).class < length leads = omega (arith, h.count, All-get_or (λ (w : Signed). w.class < length c.args.leads.now.items) work i (record { class = 0; signature = []; row = 0 }) c.loop-item-test.true c.requires) in
    record {
      count = length-set leads (work_at work i).class 0 ∙ h.count;
      none = cleared work leads _ i refl l h.none;
    }
