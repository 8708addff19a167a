-- The channels that a journal makes, in order of number.
use Rattle.std.specs.Prelude.{◌≡◌, ◌⊎◌, ℕ, ◌<◌, List, [], ◌∷◌, Option, cond, is_some, nat_le}
use Rattle.ca_term.specs.Operation.{WhatView}
use Rattle.ca_term.specs.Event.{EventView, made}
use Rattle.ca_meaning.specs.Channel.{channel_made}

-- what a channel's Make tells: its port, what it is, and the moment of a timeout's making
pub record Made : Type 0 where
  pub port : ℕ
  pub what : WhatView
  pub moment : Option ℕ

-- before the first that has no lower number
abbrev pub made_placed : Made → List Made → List Made
made_placed m [] = m ∷ []
made_placed m (x ∷ xs) = cond (nat_le m.port x.port) (m ∷ x ∷ xs) (x ∷ made_placed m xs)

-- with the channel that the event makes, if it makes one
abbrev pub with_channel_made : EventView → List Made → List Made
with_channel_made (made t p what moment) ms = cond (is_some (channel_made what)) (made_placed (record { port = p; what = what; moment = moment }) ms) ms
with_channel_made e ms = ms

-- with those that the events make
abbrev pub made_from : List Made → List EventView → List Made
made_from ms [] = ms
made_from ms (e ∷ es) = made_from (with_channel_made e ms) es

abbrev pub channels_made : List EventView → List Made
channels_made journal = made_from [] journal

-- all have greater numbers
abbrev pub Below : ℕ → List Made → Type 0
Below n [] = Unit {0}
Below n (x ∷ xs) = (n < x.port) × Below n xs

-- each has a greater number than those before it
abbrev pub Rising : List Made → Type 0
Rising [] = Unit {0}
Rising (x ∷ xs) = Below x.port xs × Rising xs

-- one has this number
abbrev pub IsAmong : ℕ → List Made → Type 0
IsAmong p [] = ⊥
IsAmong p (x ∷ xs) = (p ≡ x.port) ⊎ IsAmong p xs
