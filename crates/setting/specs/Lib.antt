pub mod Concrete
