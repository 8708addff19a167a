-- What is seen of a channel that may settle, before the wait in front is asked.
use Rattle.std.specs.Prelude.{◌≡◌, ℕ, Option}
use Rattle.ca_term.specs.declared.event.Side.{Side}
use Rattle.ca_commit.specs.Contents.{Kept}
use Rattle.ca_commit.specs.Finding.{Glance, Serving, gone, here, rests, rests_on_stale, rests_on_unheld, serves, unseen}
use Rattle.ca_commit.specs.Settling.{HasRoomToServe}
use Rattle.ca_commit.specs.declared.serving.Serves.{Serves}
use Rattle.ca_commit.specs.declared.sight.Partner.{Partner}

-- what becomes of the one in front of the side, by its wait
abbrev pub front_with : Side → Partner → Glance → Serving
front_with side q here = serves side q.wait.n q.branch
front_with side q gone = rests_on_stale side
front_with side q unseen = rests_on_unheld q.wait.n

-- what the channel settles, where `see` tells of the wait in front
abbrev pub serving_seen : Serves → (ℕ → Glance) → Serving
serving_seen Serves.Nothing see = rests
serving_seen (Serves.Front side q) see = front_with side q (see q.wait.n)

-- it is of this side, if it is anything
abbrev pub IsOf : Side → Serves → Type 0
IsOf side Serves.Nothing = Unit {0}
IsOf side (Serves.Front s q) = s ≡ side

-- a put that is served has room in the buffer
abbrev pub HasRoomFor : Serves → Option Kept → Type 0
HasRoomFor Serves.Nothing o = Unit {0}
HasRoomFor (Serves.Front side q) o = HasRoomToServe o side
