use Rattle.fr_classes.proofs.SparseLaws.{IsSparse-empty}
use Rattle.fr_classes.proofs.sparse.SparseWalk.new.Goals as goal

pub returns-clause-sparse : goal.returns-clause-sparse
returns-clause-sparse c = IsSparse-empty _ c.buckets_for-buckets.result c.buckets_for-buckets.ensures c.new.ensures.items c.new-2.ensures.items (c.in_ok-vec.ensures.items_if_clones_equal (λ y e. e))
