-- What the events do to channels, queues and live waits is `ca_bank`'s.
pub use Rattle.ca_bank.specs.Holds.{and_wait, but_wait}
pub use Rattle.ca_bank.proofs.Holding.{filter_same, filter-filter, head_live, row_live, at_update, not_at_update, update_again, swapped, changed, pruned, pruned_at, taken_out, parked as joins_in, made as made_holds, row_right, known_more, asks_more, settles_more, settle_right}
