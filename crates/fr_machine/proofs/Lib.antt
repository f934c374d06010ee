pub mod CanonLaws
pub mod FixedLaws
pub mod IdentityLaws
pub mod InverseLaws
pub mod MinimalLaws
pub mod OrderLaws
pub mod RowLaws
pub mod WalkLaws
