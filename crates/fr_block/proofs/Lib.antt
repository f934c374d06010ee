mod OutputLaws
mod ReductionLaws
mod BlockLaws
mod WordLaws
mod ClosureLaws
mod NameLaws
mod ElementLaws
