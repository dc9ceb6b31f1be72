pub mod FactorLaws
pub mod FirstLaws
pub mod RowLaws
pub mod NameLaws
pub mod SearchLaws
pub mod Pigeonhole
