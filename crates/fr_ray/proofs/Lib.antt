pub mod PeriodLaws
pub mod RayLaws
pub mod FormLaws
pub mod ImageLaws
pub mod ReadingLaws
pub mod RoundLaws
pub mod DivisorLaws
