use Rattle.std.proofs.Common.{ℕ, List, [], ◌≡◌, ◌++◌, ◌∙◌, ap, sym, take, drop, length, map, arith}
use Rattle.fr_model.specs.Rays.{ray_prefix, IsSameRay}
use Rattle.fr_alphabet.specs.Reading.{letter_of_digit}
use Rattle.fr_alphabet.proofs.Readings.{IsWord-weaker}
use Rattle.fr_ray.specs.Rays.{RayView}
use Rattle.fr_ray.specs.Reading.{IsReading}
use Rattle.fr_ray.proofs.ReadingLaws.{AreLetters, AreLetters-from, shape_right}
use Rattle.fr_ray.proofs.ray.Ray.read.Goals as goal

-- both strings were appended to no letters
joined : (shown last middle first u v : List ℕ) → shown ≡ last → last ≡ middle ++ v → middle ≡ first ++ u → first ≡ [] → shown ≡ u ++ v
joined shown last middle first u v e f g h = e ∙ f ∙ ap (λ w. w ++ v) (g ∙ ap (λ w. w ++ u) h)

-- the ray of the letters is that of the words
reading : (d : ℕ) (text before period letters : List ℕ) (r : RayView) → AreLetters d text before period letters → IsSameRay (take (length before) letters) (drop (length before) letters) r.before r.period → IsReading d text r
reading d text before period letters r h same = record {
  written = record { before = map letter_of_digit before; period = map letter_of_digit period };
  reads = h.reads;
  same = λ n. ap (λ u. ray_prefix u (map letter_of_digit period) n) (sym h.front) ∙ ap (λ v. ray_prefix (take (length before) letters) v n) (sym h.rest) ∙ same n;
}

pub push_letters-requires-2 : goal.push_letters-requires-2
push_letters-requires-2 c = let p = shape_right c.args.text.now _ c.in_ok-parts.ensures.ok in omega (arith, p.size)

pub of_few-requires-clause-inside : goal.of_few-requires-clause-inside
of_few-requires-clause-inside c =
    let digits = c.in_ok-parts.parts in
    let read = AreLetters-from c.args.a c.args.text.now digits.before.now digits.period.now c.deref.result.now (omega arith) c.in_ok-parts.ensures.ok c.in_ok-push_letters.ensures.good c.in_ok-push_letters-2.ensures.good
    (joined _ _ _ _ _ _ c.deref.ensures.value c.in_ok-push_letters-2.ensures.letters c.in_ok-push_letters.ensures.letters c.in_ok-letters.ensures.items) in
    read.inside

pub of_few-requires-clause-valid : goal.of_few-requires-clause-valid
of_few-requires-clause-valid c =
    let digits = c.in_ok-parts.parts in
    let read = AreLetters-from c.args.a c.args.text.now digits.before.now digits.period.now c.deref.result.now (omega arith) c.in_ok-parts.ensures.ok c.in_ok-push_letters.ensures.good c.in_ok-push_letters-2.ensures.good
    (joined _ _ _ _ _ _ c.deref.ensures.value c.in_ok-push_letters-2.ensures.letters c.in_ok-push_letters.ensures.letters c.in_ok-letters.ensures.items) in
    IsWord-weaker c.args.a 8 c.in_ok-push_letters.ensures.most c.deref.result.now read.word

pub of_few-requires-clause-most : goal.of_few-requires-clause-most
of_few-requires-clause-most c =
    let digits = c.in_ok-parts.parts in
    let read = AreLetters-from c.args.a c.args.text.now digits.before.now digits.period.now c.deref.result.now (omega arith) c.in_ok-parts.ensures.ok c.in_ok-push_letters.ensures.good c.in_ok-push_letters-2.ensures.good
    (joined _ _ _ _ _ _ c.deref.ensures.value c.in_ok-push_letters-2.ensures.letters c.in_ok-push_letters.ensures.letters c.in_ok-letters.ensures.items) in
    read.size

pub returns-clause-ok : goal.returns-clause-ok
returns-clause-ok c =
    let digits = c.in_ok-parts.parts in
    let read = AreLetters-from c.args.a c.args.text.now digits.before.now digits.period.now c.deref.result.now (omega arith) c.in_ok-parts.ensures.ok c.in_ok-push_letters.ensures.good c.in_ok-push_letters-2.ensures.good
    (joined _ _ _ _ _ _ c.deref.ensures.value c.in_ok-push_letters-2.ensures.letters c.in_ok-push_letters.ensures.letters c.in_ok-letters.ensures.items) in
    reading c.args.a c.args.text.now digits.before.now digits.period.now c.deref.result.now c.in_ok-ray.ray read c.in_ok-ray.ensures.same

pub returns-clause-canonical : goal.returns-clause-canonical
returns-clause-canonical c =
    let digits = c.in_ok-parts.parts in
    let read = AreLetters-from c.args.a c.args.text.now digits.before.now digits.period.now c.deref.result.now (omega arith) c.in_ok-parts.ensures.ok c.in_ok-push_letters.ensures.good c.in_ok-push_letters-2.ensures.good
    (joined _ _ _ _ _ _ c.deref.ensures.value c.in_ok-push_letters-2.ensures.letters c.in_ok-push_letters.ensures.letters c.in_ok-letters.ensures.items) in
    c.in_ok-ray.ensures.canonical c.args.a read.word
