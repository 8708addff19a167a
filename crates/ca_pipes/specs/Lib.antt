pub mod Walks
pub mod PipeViews
pub mod MergeViews
pub mod OntoViews
pub mod FeedViews
pub mod CollectViews
