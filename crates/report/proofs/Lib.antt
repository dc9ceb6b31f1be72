pub mod BoundLaws
pub mod CopyLaws
pub mod LengthLaws
pub mod LineLaws
pub mod TextLaws
pub mod WholeLaws
