pub mod OurDevice
