pub mod RenameLaws
