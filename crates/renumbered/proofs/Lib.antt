pub mod CallLaws
pub mod RenumberingLaws
pub mod TableLaws
