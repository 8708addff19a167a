-- The row that the handlers in front of a channel's queues show, and which of them it asks, are `ca_bank`'s.
pub use Rattle.ca_bank.specs.Holds.{row_raw, IsAskedLive, AskedAfter, PutAsks, TakeAsks, Asks, TakerAsks, NextAsks, SettleAsks, AsksSettle}
