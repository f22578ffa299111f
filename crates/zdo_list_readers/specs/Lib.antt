pub mod ListReaders
