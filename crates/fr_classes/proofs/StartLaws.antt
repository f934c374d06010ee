-- The rows in the classes of a guess, and all dirty.
use Rattle.std.proofs.Common.{ℕ, zero, suc, ◌≡◌, ◌+◌, ◌<◌, ◌≤◌, Bool, true, List, [], ◌∷◌, ◌++◌, length, get_or, replicate, refl, sym, ◌∙◌, ap, arith}
use Rattle.std.specs.List.{All}
use Rattle.std.proofs.lemmas.List.{length-replicate, get_or-replicate}
use Rattle.std.proofs.lemmas.List.Elements.{All-from_get_or}
use Rattle.fr_model.specs.Permutations.{numbers_from}
use Rattle.fr_model.proofs.PermutationLaws.{length-numbers_from, get_or-numbers_from}
use Rattle.fr_classes.specs.declared.partition.Partition.{Partition}
use Rattle.fr_classes.specs.Refinement.{clean_count, IsTallied, IsQueued}
use Rattle.fr_classes.proofs.CleanCountLaws.{clean_count-dirty}

-- the rows in the classes of a guess, and all dirty
pub IsTallied-start : (n count : ℕ) (p : Partition) → n ≤ 65536 → length p.of.items ≡ n → All (λ c. c < count) p.of.items → p.dirty.items ≡ replicate n true → length p.known.items ≡ count → p.clean.items ≡ replicate count 0 → IsTallied p
IsTallied-start n count p few size below dirty known clean = record {
  flags = ap length dirty ∙ length-replicate {A = Bool} n true ∙ sym size;
  as_many = ap length clean ∙ length-replicate {A = ℕ} count 0 ∙ sym known;
  below = rw known below;
  counts = λ c l. ap (λ xs. get_or xs c 0) clean ∙ get_or-replicate count c 0 0 (omega (arith, l, known)) ∙ sym (ap (λ bs. clean_count c p.of.items bs) dirty ∙ clean_count-dirty c n p.of.items);
  few = omega (arith, size);
}

pub IsQueued-start : (n : ℕ) (p : Partition) (todo : List ℕ) → length p.of.items ≡ n → todo ≡ numbers_from 0 n → IsQueued p todo
IsQueued-start n p todo size e =
    rw e (record {
      inside = All-from_get_or (λ s. s < length p.of.items) (numbers_from 0 n) 0 (λ i l. let w = length-numbers_from 0 n in omega (arith, get_or-numbers_from 0 n i 0 (omega arith), size, w));
      queued = λ s l f. (s, omega (arith, length-numbers_from 0 n), get_or-numbers_from 0 n s s (omega arith) ∙ omega arith);
    })

pub numbers_from-push : (k n : ℕ) → numbers_from k (n + 1) ≡ numbers_from k n ++ (k + n) ∷ []
numbers_from-push k zero = omega_nil k
  where
    omega_nil : (k : ℕ) → numbers_from k (0 + 1) ≡ (k + 0) ∷ []
    omega_nil k = let e : k + 0 ≡ k = omega arith in rw e refl
numbers_from-push k (suc n) =
    let e : suc n + 1 ≡ suc (n + 1) = omega arith in
    let f : suc k + n ≡ k + suc n = omega arith in
    rw (e, ← f) (ap (λ xs. k ∷ xs) (numbers_from-push (suc k) n))
