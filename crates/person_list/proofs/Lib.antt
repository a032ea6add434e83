pub mod PersonList
pub mod Claims
