use Rattle.ca_scene.proofs.SameEvents.{event_told}
use Rattle.ca_scene.proofs.same_event.same_event.Goals as goal

pub returns : goal.returns
returns c = event_told _ _ c.is_same.result c.is_same.ensures
