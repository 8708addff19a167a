use Rattle.std.proofs.Common.{ap, ◌∙◌, rules, map, not, eqb}
use Rattle.std.proofs.lemmas.Fn.{filter_same}
use Rattle.ca_scene.specs.Scene.{handler_code_view}
use Rattle.ca_replay.proofs.Leavings.{dropped_is}
use Rattle.ca_replay.proofs.leaving.drop_all.Goals as goal

pub returns : goal.returns
returns c = ap (map handler_code_view) (filter_same _ (λ h. not (eqb h.wait c.args.wait)) _ (λ x b f' k. search rules) _ _ c.retain.ensures.filtered) ∙ dropped_is c.args.wait c.args.queue.now.items
