-- The faults of products and of smallest machines as faults of an evaluation.
use Rattle.fr_script.specs.declared.fault.LineFault.TheVariants as f
use Rattle.fr_product.specs.declared.pairs.ProductFault.{ProductFault}
use Rattle.fr_product.specs.declared.pairs.ProductFault.TheVariants as p
use Rattle.fr_minimal.specs.declared.smallest.MinFault.{MinFault}
use Rattle.fr_minimal.specs.declared.smallest.MinFault.TheVariants as m
use Rattle.fr_expr.specs.declared.fault.EvalFault.{EvalFault}
use Rattle.fr_expr.specs.declared.fault.EvalFault.TheVariants.{Refused, NoMemory}

abbrev pub of_product : ProductFault → EvalFault
of_product p.PairsPassed = Refused f.PairsPassed
of_product p.NoMemory = NoMemory

abbrev pub of_minimal : MinFault → EvalFault
of_minimal m.StatesPassed = Refused f.StatesPassed
of_minimal m.NoMemory = NoMemory
