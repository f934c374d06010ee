pub mod FaultTexts
pub mod Cycles
pub mod Reading
pub mod Keeping
pub mod Inner
pub mod Items
pub mod Blocks
pub mod Pushes
pub mod Scripts
pub mod Fits
pub use Rattle.fr_syntax.specs.Fits.{FitsExpr, FitsFactors, FitsAtom, FitsAtomLayer, FitsOps, FitsOp, FitsExprs, FitsRecursion, FitsRecursions, FitsRay, FitsStatement}
pub use Rattle.fr_syntax.specs.Sizes.{expr_size, exprs_size, statement_size}
