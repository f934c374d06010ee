-- The text of a class, part by part.
use Rattle.std.proofs.Common.{ℕ, ◌≡◌, ◌≢◌, List, [], ◌∷◌, ◌++◌, append_assoc}
use Rattle.std.specs.Prelude.{codes}
use Rattle.fr_alphabet.specs.Writing.{word_text}
use Rattle.std.specs.Fmt.{decimal}
use Rattle.std.proofs.lemmas.Bool.{ne_eqb}
use Rattle.fr_growth.specs.Texts.{degree_text, class_text}
use Rattle.fr_growth.specs.declared.growth_class.Class.{Class}
use Rattle.fr_growth.specs.declared.growth_class.Class.TheVariants.{Exponential}

pub degree_text-more : (k : ℕ) (old mid new : List ℕ) → k ≢ 0 → mid ≡ old ++ codes "polynomial " → new ≡ mid ++ decimal k → new ≡ old ++ degree_text k
degree_text-more k old mid new n m h = rw (h, m, ne_eqb k 0 n) (append_assoc old (codes "polynomial ") (decimal k))

pub class_text-Exponential : (at u v : List ℕ) (c : Class) (o a b d e f new : List ℕ) → c ≡ Exponential at u v → a ≡ o ++ codes "exponential at " → b ≡ a ++ word_text at → d ≡ b ++ codes " by "
    → e ≡ d ++ word_text u → f ≡ e ++ 32 ∷ [] → new ≡ f ++ word_text v → new ≡ o ++ class_text c
class_text-Exponential at u v c o a b d e f new i ha hb hd he hf hn = rw (hn, hf, he, hd, hb, ha, i) (simp append_assoc)
