pub mod Served
pub mod InMatrix
pub mod Lost
pub mod Entered
pub mod NotLogged
