mod Letters
pub mod AddingMachine
mod Swap
mod PermutationFacts
mod TermFacts
mod ReductionFacts
mod SizeFacts
mod SeparationFacts
mod NumberingFacts
mod WalkFacts
mod SectionWordFacts
mod ConstructionFacts
mod GrowthFacts
mod NucleusFacts
mod RayFacts
mod LinearFacts
