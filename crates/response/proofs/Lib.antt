pub mod NotGranted
