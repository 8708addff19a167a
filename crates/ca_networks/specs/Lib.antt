pub mod Networks
pub mod PipelineLaw
pub mod MultLaw
