use Rattle.std.proofs.Common.{ℕ, List, ◌≡◌, ◌+◌, ◌-◌, ◌∙◌, ap, arith, take, drop}
use Rattle.fr_ray.proofs.FormLaws.{bounded_form, kept_same, kept_canonical}
use Rattle.fr_ray.proofs.ray.Ray.of_letters.Goals as goal

-- the length of a part between two places
part : (w items : List ℕ) (b p : ℕ) → items ≡ take (b + p - b) (drop b w) → items ≡ take p (drop b w)
part w items b p e = let f : b + p - b ≡ p = omega arith in e ∙ ap (λ n. take n (drop b w)) f

pub invariant_of-result : goal.invariant_of-result
invariant_of-result c =
    let w = c.args.letters.now in
    let form = c.in-Some.form in
    bounded_form w c.args.start form.before form.period _ _ c.requires.inside c.requires.valid c.in-Some.ensures.found c.in_ok-from_slice.ensures.items (part w _ form.before form.period c.in_ok-from_slice-2.ensures.items)

pub returns-clause-same : goal.returns-clause-same
returns-clause-same c =
    let w = c.args.letters.now in
    let form = c.in-Some.form in
    kept_same w c.args.start form.before form.period _ _ c.requires.inside c.in-Some.ensures.found c.in_ok-from_slice.ensures.items (part w _ form.before form.period c.in_ok-from_slice-2.ensures.items)

pub returns-clause-canonical : goal.returns-clause-canonical
returns-clause-canonical c =
    let w = c.args.letters.now in
    let form = c.in-Some.form in
    kept_canonical w c.args.start form.before form.period _ _ c.requires.inside c.in-Some.ensures.found c.in_ok-from_slice.ensures.items (part w _ form.before form.period c.in_ok-from_slice-2.ensures.items)
