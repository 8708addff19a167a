pub mod Numbers
pub mod Publications
