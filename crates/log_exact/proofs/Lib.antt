pub mod Rising
pub mod Wall
pub mod Appended
pub mod Witness
pub mod Exact
pub mod WriterPasses
