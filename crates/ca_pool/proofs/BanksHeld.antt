-- Which banks are held, by the homes for which they were taken.
use Rattle.std.proofs.Common.{◌≡◌, ◌∙◌, ℕ, ◌<◌, true}
use Rattle.ca_term.specs.Operation.{OpView, choosing, closing, making, posting, printing, putting, registering, spawning, taking}
use Rattle.ca_meaning.specs.Refusal.{operands_to_make}
use Rattle.ca_meaning.specs.Wait.{is_among}
use Rattle.ca_commit.specs.Contents.{home}
use Rattle.ca_commit.specs.Listing.{listed}
use Rattle.ca_commit.specs.Listings.{parts}
use Rattle.ca_commit.specs.Naming.{named_ports, ports_among}
use Rattle.ca_commit.specs.Numbers.{number_of_bank}
use Rattle.ca_commit.specs.Showing.{bank_in}
use Rattle.ca_commit.specs.declared.held.Held.{Held}
use Rattle.ca_commit.proofs.Among.{among_later}
use Rattle.ca_commit.proofs.Holdings.{home_below}
use Rattle.ca_table.specs.DrawnEvents.{HasBanks}
use Rattle.ca_table.specs.Homes.{has_home}
use Rattle.ca_table.specs.declared.homes.Homes.{Homes}
use Rattle.ca_table.proofs.Staying.{shows_there}
use Rattle.ca_pool.specs.Desk.{holds_banks}
use Rattle.ca_pool.specs.Named.{ports_to_hold}

-- the bank of each such port
pub has_banks : {A : Type 0} (held : Held A) (banks : Homes) (P : ℕ → Type 0) → ((i : ℕ) → i < 16 → holds_banks held i ≡ has_home banks i) → ((q : ℕ) → P q → has_home banks (home q) ≡ true) → HasBanks held P
has_banks held banks P are wanted q p = shows_there bank_in (listed number_of_bank (parts held.banks) (home q)) ∙ are (home q) (home_below q) ∙ wanted q p

-- what an operation names is among what it needs
pub named_needed : (op : OpView) (p q : ℕ) → is_among q (named_ports op) ≡ true → is_among q (ports_to_hold op p) ≡ true
named_needed (making what) p q e = among_later q (ports_among (operands_to_make what)) p e
named_needed (taking c) p q e = e
named_needed (putting c v) p q e = e
named_needed (posting c v) p q e = e
named_needed (choosing ports priority default) p q e = e
named_needed (spawning seed) p q e = e
named_needed (closing c) p q e = e
named_needed (registering name args) p q e = e
named_needed (printing line) p q e = e
