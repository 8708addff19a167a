-- What a device shows whose listed calls fail.
use Rattle.std.specs.Prelude.{◌≡◌, ℕ, List, Contains, Result, IsErr}
use Rattle.ca_timers.specs.Causes.{one_more}
use Rattle.ca_run.specs.declared.failing.Failing.{Failing}

-- the device itself
abbrev pub device_of : {D : Type 0} → Failing D → D
device_of f = f.device

-- the numbers of the calls that fail
abbrev pub listed_calls : {D : Type 0} → Failing D → List ℕ
listed_calls f = f.numbers.now

-- how many calls were made, which is the number of the next one
abbrev pub calls_made : {D : Type 0} → Failing D → ℕ
calls_made f = f.calls

-- how many of the calls failed because they are listed
abbrev pub calls_failed : {D : Type 0} → Failing D → ℕ
calls_failed f = f.faults

-- the next call is a listed one
abbrev pub IsListedCall : {D : Type 0} → Failing D → Type 0
IsListedCall f = Contains (listed_calls f) (calls_made f)

-- a call was counted, and the list stays
pub record CountsCall {D : Type 0} (before after : Failing D) : Type 0 where
  pub numbers : listed_calls after ≡ listed_calls before
  pub calls : calls_made after ≡ one_more (calls_made before)

-- no call was counted, and the list stays
pub record CountsNothing {D : Type 0} (before after : Failing D) : Type 0 where
  pub numbers : listed_calls after ≡ listed_calls before
  pub calls : calls_made after ≡ calls_made before
  pub failed : calls_failed after ≡ calls_failed before

-- a listed call fails, is counted as a fault, and leaves the device as it was
pub record FailsAside {D T E : Type 0} (before after : Failing D) (result : Result T E) : Type 0 where
  pub fails : IsErr result
  pub failed : calls_failed after ≡ one_more (calls_failed before)
  pub device : device_of after ≡ device_of before
