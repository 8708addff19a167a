-- How a table of waits is stored.
use Rattle.std.specs.Prelude.{◌≡◌, ◌<◌, ℕ, ◌++◌, None, true, is_some, nat_eq}
use Rattle.indexmap.specs.IndexMap.{get, spare}
use Rattle.indexmap.specs.Layout.{hash_map}
use Rattle.ca_bank.specs.NearRow.{near_at, near_entries}
use Rattle.ca_bank.specs.Waits.{WaitMap}
use Rattle.ca_bank.specs.declared.wait_table.WaitTable.TheInside.{Inside}

abbrev pub table_view : {V : Type 0} → Inside V → WaitMap V
table_view t = hash_map (near_entries t.near ++ t.far.entries) tt (spare t.far)

-- what stands at its place isn't in the table, too, and no number above the last one is
pub record IsWaitTable {V : Type 0} (t : Inside V) : Type 0 where
  pub apart : (n : ℕ) → is_some (near_at t.near n) ≡ true → get nat_eq t.far n ≡ None
  pub above : (n : ℕ) → t.last < n → get nat_eq t.far n ≡ None
