-- What is seen of a branch in its channel, before a wait is asked.
use Rattle.std.specs.Prelude.{◌≡◌, ℕ, List, length, nat_lt, true}
use Rattle.ca_term.specs.declared.event.Side.TheVariants.{Put}
use Rattle.ca_meaning.specs.Wait.{Handler}
use Rattle.ca_commit.specs.Finding.{Finding, Glance, alone, found_by_asking, partner, unready}
use Rattle.ca_commit.specs.declared.sight.Sight.{Sight}

-- the wait that decides, where one does
abbrev pub asked_of : Sight → ℕ
asked_of Sight.Unready = 0
asked_of Sight.Crowded = 0
asked_of Sight.Alone = 0
asked_of (Sight.Meets side q) = q.wait.n
asked_of (Sight.Rivals w) = w.n

-- what is found of it, by that wait
abbrev pub found_with : Sight → Glance → Finding
found_with Sight.Unready g = unready
found_with Sight.Crowded g = unready
found_with Sight.Alone g = alone
found_with (Sight.Meets side q) g = found_by_asking g side q.wait.n (partner q.wait.n q.branch)
found_with (Sight.Rivals w) g = found_by_asking g Put w.n unready

abbrev pub found_by : Sight → (ℕ → Glance) → Finding
found_by s see = found_with s (see (asked_of s))

-- a branch that is seen not to be ready would join a queue that is short, or it is seen to be long
abbrev pub TellsFew : Sight → List Handler → Type 0
TellsFew Sight.Unready q = nat_lt (length q) 1024 ≡ true
TellsFew other q = Unit {0}
