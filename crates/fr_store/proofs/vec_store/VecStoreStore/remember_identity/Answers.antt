use Rattle.std.proofs.Common.{◌≡◌, subst}
use Rattle.fr_model.specs.Terms.{One}
use Rattle.fr_store.specs.declared.handle.Handle.{Handle}
use Rattle.fr_store.specs.Store.{StandsForTerm}
use Rattle.fr_store.specs.VecView.{known_of}
use Rattle.fr_store.proofs.vec_store.VecStoreStore.remember_identity.Goals as goal

pub invariant_of-self-clause-is_identity : goal.invariant_of-self-clause-is_identity
invariant_of-self-clause-is_identity c = λ k e.
    let s = c.args.self.now in
    let same : c.args.h ≡ k = cc e in
    let P : Handle → Type 0 = λ h. StandsForTerm s.blocks.alphabet (known_of s) h One in
    ∣ subst P same c.requires ∣₁
