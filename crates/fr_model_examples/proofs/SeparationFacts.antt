-- The adding machine and its inverse: where they differ, and that their product is the identity.
use Rattle.std.proofs.Common.{ℕ, ◌≡◌, inl, inr, List, [], ◌∷◌, refl, sym, ◌∙◌, arith}
use Rattle.fr_model.specs.Words.{IsWord}
use Rattle.fr_model.specs.Terms.{Term, One, Name, Inverse, Product, act, IsAlike}
use Rattle.fr_model.specs.Separation.{IsShortlexBefore, IsSeparatingWord}
use Rattle.fr_model.proofs.TermLaws.{back-act}
use Rattle.fr_model.proofs.AlikeLaws.{act-nil}
use Rattle.fr_model.proofs.CanonicalLaws.{shortlex_irrefl, shortlex_trans}
use Rattle.fr_model.proofs.CodeLaws.{separating_word_unlike}
use Rattle.fr_model_examples.specs.Groups.{adding_machine}
use Rattle.fr_model_examples.specs.SeparationInstances.{WordsAreOrdered, AddingMachineDiffersFromInverse, AddingAndBackIsIdentity}
use Rattle.fr_model_examples.proofs.Letters.{letter_cases}
use Rattle.fr_model_examples.proofs.AddingMachine.{t_term}

least : (v : List ℕ) → IsWord 2 v → IsShortlexBefore v (1 ∷ 1 ∷ []) → act (Name adding_machine 0) v ≡ act (Inverse (Name adding_machine 0)) v
least [] k b = refl
least (x ∷ []) k b = elim (letter_cases x k.0) [ inl e ↦ rw e refl | inr e ↦ rw e refl ]
least (x ∷ y ∷ []) k (inl h) = absurd (omega (arith, h))
least (x ∷ y ∷ []) k (inr h) = elim h.1 [
  | inl a ↦ absurd (omega (arith, a, k.0.0))
  | inr a ↦ elim a.1 [ inl b ↦ absurd (omega (arith, b, k.1.0.0)) | inr b ↦ absurd b.1 ]
]
least (x ∷ y ∷ z ∷ v) k (inl h) = absurd (omega (arith, h))
least (x ∷ y ∷ z ∷ v) k (inr h) = absurd (omega (arith, h.0))

eleven : IsSeparatingWord 2 (Name adding_machine 0) (Inverse (Name adding_machine 0)) (1 ∷ 1 ∷ [])
eleven = record {
  valid = ((omega arith, omega arith), ((omega arith, omega arith), tt));
  differs = λ e. let e : ◌≡◌ {A = List ℕ} (2 ∷ 1 ∷ []) (2 ∷ 2 ∷ []) = e in cc;
  least = least;
}

not_later : ¬ IsSeparatingWord 2 (Name adding_machine 0) (Inverse (Name adding_machine 0)) (2 ∷ 2 ∷ [])
not_later s = let e : ◌≡◌ {A = List ℕ} (2 ∷ 1 ∷ []) (2 ∷ 2 ∷ []) = s.least (1 ∷ 1 ∷ []) eleven.valid (inr (refl, inl (omega arith))) in cc

not_short : ¬ IsSeparatingWord 2 (Name adding_machine 0) (Inverse (Name adding_machine 0)) (1 ∷ [])
not_short s = s.differs refl

not_empty : (t u : Term) → ¬ IsSeparatingWord 2 t u []
not_empty t u s = s.differs (act-nil t ∙ sym (act-nil u))

pub differs_from_inverse : AddingMachineDiffersFromInverse
differs_from_inverse = record {
  word = eleven;
  not_later = not_later;
  not_short = not_short;
  not_empty = not_empty;
  some = eleven;
  not_some_later = not_later;
  not_none = separating_word_unlike 2 (Name adding_machine 0) (Inverse (Name adding_machine 0)) (1 ∷ 1 ∷ []) eleven;
}

and_back : IsAlike (Product (Name adding_machine 0) (Inverse (Name adding_machine 0))) One
and_back = record { images = λ w. back-act 2 (Name adding_machine 0) t_term w }

pub and_back_is_identity : AddingAndBackIsIdentity
and_back_is_identity = record {
  none = and_back;
  not_some = λ s. s.differs (and_back.images (1 ∷ []));
}

smaller : IsShortlexBefore (1 ∷ 2 ∷ []) (2 ∷ 1 ∷ [])
smaller = inr (refl, inl (omega arith))

pub words_are_ordered : WordsAreOrdered
words_are_ordered = record {
  shorter = inl (omega arith);
  not_longer = λ b. shortlex_irrefl (2 ∷ []) (shortlex_trans (2 ∷ []) (1 ∷ 1 ∷ []) (2 ∷ []) (inl (omega arith)) b);
  smaller = smaller;
  not_larger = λ b. shortlex_irrefl (1 ∷ 2 ∷ []) (shortlex_trans (1 ∷ 2 ∷ []) (2 ∷ 1 ∷ []) (1 ∷ 2 ∷ []) smaller b);
  not_itself = shortlex_irrefl (1 ∷ 2 ∷ []);
}
