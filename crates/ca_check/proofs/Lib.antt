mod Checked
mod Grew
mod Places
mod Ordered
mod OrderedPlain
mod OrderedChannels
mod OrderedWalk
mod OrderedTops
mod Sound
mod SoundChannels
mod SoundNames
mod SoundPlain
mod SoundTops
mod SoundWalk
mod Well
pub mod BoundLaws
pub mod ChoiceLaws
pub mod CountLaws
pub mod DoseqLaws
pub mod AgainLaws
pub mod DefnLaws
pub mod KeepsLaws
pub mod PatternLaws
pub mod ScriptLaws
pub mod SettledLaws
pub mod TopLaws
pub mod HideLaws
pub mod PipeLaws
pub mod Parts
