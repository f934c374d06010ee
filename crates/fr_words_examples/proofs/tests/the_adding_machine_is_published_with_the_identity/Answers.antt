use Rattle.fr_words_examples.proofs.AddingRows.{rows_of, adding_rows}
use Rattle.fr_words_examples.proofs.tests.the_adding_machine_is_published_with_the_identity.Goals as goal

pub publish_rows-requires-clause-machine : goal.publish_rows-requires-clause-machine
unfolding rows_of
publish_rows-requires-clause-machine g c = adding_rows c.in-Some.a c.in-Some-of_images.swap c.identity.result c.in-Some.ensures.value c.in-Some-of_images.ensures.value c.identity.ensures
