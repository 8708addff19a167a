-- What a world stands for: its program, its state, and what it tells of a channel and of a wait.
use Rattle.std.specs.Prelude.{ℕ, List, length, map, drop, Option, Some, None}
use Rattle.ca_value.specs.IsValue.{any}
use Rattle.ca_value.specs.Seq.{list}
use Rattle.ca_term.specs.Event.{branch_view}
use Rattle.ca_term.specs.Program.{IsProgram, ProgramView, program_view}
use Rattle.ca_meaning.specs.Channel.{Channel}
use Rattle.ca_meaning.specs.RunValues.{Holds}
use Rattle.ca_meaning.specs.Sound.{Sound}
use Rattle.ca_meaning.specs.State.{State}
use Rattle.ca_meaning.specs.Wait.{Wait}
use Rattle.ca_scene.specs.declared.scene.Waiting.{Waiting}
use Rattle.ca_scene.specs.Scene.{scene_state, waits_in}
use Rattle.ca_replay.specs.SceneOf.{IsSceneOf}
use Rattle.ca_replay.specs.declared.world.World.{World}
use Rattle.ca_replay.specs.declared.world.ChannelView.{ChannelView}
use Rattle.ca_replay.specs.declared.world.WaitView.{WaitView}

-- the program of the run
abbrev pub world_program : World → ProgramView
world_program w = program_view w.program.now

-- the state that the events so far led to
abbrev pub world_state : World → State
world_state w = scene_state w.scene

-- what is kept agrees with the state, and the state is one that a run may have
pub record IsWorld (w : World) : Type 0 where
  pub checked : IsProgram (world_program w)
  pub scene : IsSceneOf (world_program w) w.scene
  pub values : Holds any (world_state w)
  pub sound : Sound (world_state w)

-- how many waits there were so far, gone or not
abbrev pub waits_made : World → ℕ
waits_made w = length w.scene.waits.entries

-- the waits that aren't gone, of those from the n-th on, in order of arrival
abbrev pub waits_from : World → ℕ → List Wait
waits_from w n = waits_in (drop n w.scene.waits.entries)

-- the wait of an entry, if it isn't gone
abbrev pub wait_of : ℕ → Option Waiting → Option Wait
wait_of n None = None
wait_of n (Some x) = Some (record { number = n; owner = x.owner; branches = map branch_view (list x.branches) })

abbrev pub wait_entry : Option (ℕ × Option Waiting) → Option Wait
wait_entry None = None
wait_entry (Some e) = wait_of e.0 e.1

abbrev pub wait_view : WaitView → Wait
wait_view v = record { number = v.number; owner = v.owner; branches = map branch_view v.branches.now }

-- how many values the channel holds, and whether it is closed
abbrev pub told_channel : Channel → ChannelView
told_channel c = record { held = length c.held; closed = c.closed }
