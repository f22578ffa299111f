pub mod SimpleDescriptor
