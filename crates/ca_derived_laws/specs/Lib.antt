pub mod TakeTask
pub mod TakeLaw
pub mod ReduceTask
pub mod ReduceLaw
pub mod PlainHeads
pub mod StartsAs
pub mod SplitTask
pub mod SplitLaw
