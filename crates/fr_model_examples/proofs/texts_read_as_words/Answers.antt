use Rattle.std.proofs.Common.{refl}
use Rattle.fr_model_examples.proofs.texts_read_as_words.Goals as goal

pub returns : goal.returns
returns c = record { digits = refl; letter_outside = refl; empty = refl; dash = refl; dash_and_more = refl; too_long = refl; eight = refl; nine = refl; zero = refl }
