pub mod PairLaws
pub mod LimitLaws
pub mod SectionMarkLaws
pub mod PeelLaws
pub mod AloneLaws
pub mod SpreadLaws
pub mod AddingLaws
