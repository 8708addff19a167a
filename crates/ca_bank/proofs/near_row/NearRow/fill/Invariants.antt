use Rattle.std.proofs.Common.{◌≡◌, ◌≤◌, ℕ, vec_len, vec_capacity}
use Rattle.ca_bank.specs.NearRow.{near_at, near_entries}
use Rattle.ca_bank.proofs.near_row.NearRow.fill.Given as goal

abbrev pub invariant-loop : goal.invariant-loop
invariant-loop g l = record {
  len : vec_len l.self.places ≡ l.counter;
  room : 16 ≤ vec_capacity l.self.places;
  values : (n : ℕ) → near_at l.self n ≡ near_at l.fn.self n;
  entries : near_entries l.self ≡ near_entries l.fn.self;
}
