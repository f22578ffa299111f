pub mod Headed
mod Longer
mod Status
