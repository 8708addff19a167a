-- What a table of waits has at a number: what stands at its place, else what the table by hash has.
use Rattle.std.proofs.Common.{◌≡◌, ◌++◌, ℕ, Option, ◌∙◌, ap, arith}
use Rattle.std.specs.Prelude.{nat_eq}
use Rattle.std.specs.Map.{lookup}
use Rattle.indexmap.specs.IndexMap.{IndexMap, get}
use Rattle.ca_bank.specs.declared.near_row.NearRow.{NearRow}
use Rattle.ca_bank.specs.NearRow.{near_at, near_entries, near_place}
use Rattle.ca_bank.proofs.Seats.{either, lookup_either, seat_found}

-- what both have at each number
abbrev pub both : {V S : Type 0} → NearRow V → IndexMap ℕ V S → ℕ → Option V
both near far n = either (near_at near n) (get nat_eq far n)

pub table_has : {V S : Type 0} (near : NearRow V) (far : IndexMap ℕ V S) (n : ℕ) → lookup (nat_eq n) (near_entries near ++ far.entries) ≡ both near far n
table_has {V} near far n =
    let seat : lookup (nat_eq n) (near_entries near) ≡ near_at near n = seat_found near_place n 0 (near_place n) near.places.items (λ i e h. near.seats i e h ∙ omega arith) (omega arith) in
    lookup_either (nat_eq n) (near_entries near) far.entries ∙ ap (λ (o : Option V). either o (get nat_eq far n)) seat
