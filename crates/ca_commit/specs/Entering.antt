-- What an operation on a registry answers, and the room that it needs.
use Rattle.std.specs.Prelude.{◌≡◌, ℕ, ◌≤◌, Option, Some, option_map, is_some, true}
use Rattle.ca_value.specs.Tree.{Tree, Trees}
use Rattle.ca_value.specs.View.{view}
use Rattle.ca_term.specs.declared.head.RegisterName.{RegisterName}
use Rattle.ca_meaning.specs.Operands.{first_of, port_of_value, rest_of}
use Rattle.ca_meaning.specs.Registry.{Registry}
use Rattle.ca_bank.specs.Bank.{members_spare_at}
use Rattle.ca_registry.specs.Registries.{answered, members_added}
use Rattle.ca_registry.specs.Registry.{comes_to}
use Rattle.ca_commit.specs.Contents.{home, whole}
use Rattle.ca_commit.specs.Listing.{listed}
use Rattle.ca_commit.specs.Listings.{parts}
use Rattle.ca_commit.specs.Numbers.{number_of_bank}
use Rattle.ca_commit.specs.Replies.{or_nil}
use Rattle.ca_commit.specs.Showing.{registries_held}
use Rattle.ca_commit.specs.declared.held.Held.{Held}
use Rattle.ca_commit.specs.declared.held.HeldBank.{HeldBank}
use Rattle.ca_commit.specs.declared.listing.Listing.{Listing}

-- by the table; nil where it has no answer
abbrev pub answer_of : Option Registry → RegisterName → Trees → Tree
answer_of o name rest = or_nil (answered (comes_to o name rest))

-- the bank of a registry is held, and the registry has room for what the operation adds
abbrev pub HasMembersRoom : Listing HeldBank → ℕ → RegisterName → Trees → Type 0
HasMembersRoom b p name rest = (x : HeldBank) × (listed number_of_bank (parts b) (home p) ≡ Some x) × (members_added name rest ≤ members_spare_at x.bank.value p)

-- the registry that the arguments name, and what the operation answers
abbrev pub registry_of : Trees → ℕ
registry_of args = port_of_value (first_of args)

abbrev pub answers_in : {A : Type 0} → Held A → RegisterName → Trees → Tree
answers_in h name args = answer_of (whole (registries_held h.banks) (registry_of args)) name (rest_of args)

-- what the operation needs: its answer twice, and room for members
abbrev pub IsMadeToRegister : {A : Type 0} → Held A → RegisterName → Trees → Type 0
IsMadeToRegister h name args =
    (option_map view h.spare.value ≡ Some (answers_in h name args))
    × (option_map view h.spare.answer ≡ Some (answers_in h name args))
    × (is_some (whole (registries_held h.banks) (registry_of args)) ≡ true → HasMembersRoom h.banks (registry_of args) name (rest_of args))
