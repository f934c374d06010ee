use Rattle.std.proofs.Common.{◌≡◌, Option, Some, None, refl}
use Rattle.std.specs.Prelude.{IfSome}
use Rattle.fr_model.specs.Terms.{One}
use Rattle.fr_store.specs.declared.handle.Handle.{Handle}
use Rattle.fr_store.specs.Store.{StandsForTerm}
use Rattle.fr_store.specs.VecView.{known_of}
use Rattle.fr_store.proofs.VecLaws.{AreHandles-index}
use Rattle.fr_store.proofs.InverseLaws.{recalled_identity}
use Rattle.fr_store.proofs.vec_store.VecStoreStore.recall_identity.Goals as goal

-- what holds of the value, wherever there is one
IfSome-all : {X : Type 0} (r : Option X) (P : X → Type 0) → ((x : X) → r ≡ Some x → P x) → IfSome r P
IfSome-all None P f = tt
IfSome-all (Some x) P f = f x refl

pub returns-clause-identity : goal.returns-clause-identity
returns-clause-identity c =
    let s = c.args.self.now in
    let b = s.blocks in
    let handles = AreHandles-index b.alphabet b.rows.items b.places.items b.are_blocks s.index.handles.items s.index.links.items s.is_index s.whole in
    let P : Handle → Type 0 = λ h. StandsForTerm b.alphabet (known_of s) h One in
    IfSome-all s.identity P (λ h e. recalled_identity b.alphabet (known_of s) handles h (s.is_identity h e))
