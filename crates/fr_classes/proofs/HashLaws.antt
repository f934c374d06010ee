-- Hashes of rows that act alike are equal.
use Rattle.std.proofs.Common.{ℕ, zero, suc, ◌≡◌, ◌+◌, ◌*◌, ◌/◌, ◌%◌, ◌<◌, List, length, get_or, replicate, refl, sym, ◌∙◌, ap, arith}
use Rattle.std.proofs.lemmas.List.{get_or-replicate}
use Rattle.fr_model.specs.Permutations.{image}
use Rattle.fr_machine.specs.declared.row.Row.{Row}
use Rattle.fr_machine.specs.Rows.{IsMachine, row_at}
use Rattle.fr_classes.specs.Hashes.{hash_of, AreHashes, AreInvariant}
use Rattle.fr_classes.proofs.PartitionLaws.{same_perm, same_next, alike_signature, row_is_at}

-- rows that put out the same and lead to the same hashes
pub hash_same : (r q : Row) (a b : List ℕ) (x : ℕ) → r.perm ≡ q.perm → ((k : ℕ) → k < x → get_or a (get_or r.next k 0) 0 ≡ get_or b (get_or q.next k 0) 0) → hash_of r a x ≡ hash_of q b x
hash_same r q a b zero e h = refl
hash_same r q a b (suc x) e h =
    ap (λ n. ((n + get_or a (get_or r.next x 0) 0) * 1640531527 / 65536 + image r.perm (suc x)) % 4294967296) (hash_same r q a b x e (λ k l. h k (omega arith)))
    ∙ ap (λ n. ((hash_of q b x + n) * 1640531527 / 65536 + image r.perm (suc x)) % 4294967296) (h x (omega arith))
    ∙ ap (λ p. ((hash_of q b x + get_or b (get_or q.next x 0) 0) * 1640531527 / 65536 + image p (suc x)) % 4294967296) e

-- one letter more
pub AreInvariant-more : (d : ℕ) (rows : List Row) → IsMachine d rows → (shorter hashes : List ℕ) → AreInvariant rows shorter → AreHashes rows shorter hashes → AreInvariant rows hashes
AreInvariant-more d rows m shorter hashes h g s t a b e =
    let signed = alike_signature d rows m shorter h s t a b e in
    let r = row_is_at d rows m s a in
    let q = row_is_at d rows m t b in
    let perms = same_perm d (length rows) (row_at rows s) (row_at rows t) m.letters r q shorter shorter signed in
    let nexts = same_next d (length rows) (row_at rows s) (row_at rows t) m.letters r q shorter shorter signed in
    g.each s a
    ∙ hash_same (row_at rows s) (row_at rows t) shorter shorter (length (row_at rows s).perm) perms (λ k l. nexts k (omega (arith, r.permutes.degree)))
    ∙ ap (λ p. hash_of (row_at rows t) shorter (length p)) perms
    ∙ sym (g.each t b)

-- zeros
pub AreInvariant-zeros : (rows : List Row) (hs : List ℕ) → hs ≡ replicate (length rows) 0 → AreInvariant rows hs
AreInvariant-zeros rows hs e s t a b f =
    ap (λ xs. get_or xs s 0) e ∙ get_or-replicate (length rows) s 0 0 a ∙ sym (ap (λ xs. get_or xs t 0) e ∙ get_or-replicate (length rows) t 0 0 b)
