-- What each port of a run is for. A port is public, or hidden: made by an expansion for the library's own tasks, so that
-- no name of the script ever stands for it.
use Rattle.std.specs.Prelude.{◌≡◌, ℕ, Option, Some, None, true, eqb}
use Rattle.std.specs.Map.{update}
use Rattle.ca_value.specs.Tree.{Tree, Trees, TreePairs, nil, bool, int, text, key, vector, map, port, none, item, empty, pair}
use Rattle.ca_term.specs.Program.{ProgramView}
use Rattle.ca_meaning.specs.Applied.{Work, outputs, Outs}
use Rattle.ca_meaning.specs.Asks.{pair_of}

-- what a hidden port is for
pub data Hidden : Type 0 where
  -- it takes values with their reply ports to the jobs of this work
  jobs : Work → Hidden
  -- it takes the reply ports in the order of the values
  replies : Work → Hidden
  -- it takes the outputs of this work for the value
  reply : Work → Tree → Hidden
  -- it takes the answers of a mult's deliveries
  acks : Hidden

-- a hidden port has the number of the task that made it
pub data Role : Type 0 where
  public : Role
  hidden : ℕ → Hidden → Role

-- of each port that was made, or of each name in scope
abbrev pub Roles : Type 0
Roles = ℕ → Option Role

abbrev pub no_roles : Roles
no_roles n = None

abbrev pub known_as : Roles → ℕ → Role → Roles
known_as roles n r = update eqb roles n (Some r)

-- all that has a role keeps it
abbrev pub Grows : Roles → Roles → Type 0
Grows roles more = (n : ℕ) (r : Role) → roles n ≡ Some r → more n ≡ Some r

-- each port in the value is public
abbrev mutual
  pub IsPublic : Roles → Tree → Type 0
  IsPublic roles nil = Unit {0}
  IsPublic roles (bool b) = Unit {0}
  IsPublic roles (int z) = Unit {0}
  IsPublic roles (text s) = Unit {0}
  IsPublic roles (key s) = Unit {0}
  IsPublic roles (vector vs) = ArePublic roles vs
  IsPublic roles (map ps) = ArePublicPairs roles ps
  IsPublic roles (port n) = roles n ≡ Some public

  pub ArePublic : Roles → Trees → Type 0
  ArePublic roles none = Unit {0}
  ArePublic roles (item v vs) = IsPublic roles v × ArePublic roles vs

  pub ArePublicPairs : Roles → TreePairs → Type 0
  ArePublicPairs roles empty = Unit {0}
  ArePublicPairs roles (pair k v ps) = IsPublic roles k × IsPublic roles v × ArePublicPairs roles ps

-- the value is a public one, or the port of this hidden role
abbrev pub Is : Roles → Role → Tree → Type 0
Is roles public v = IsPublic roles v
Is roles (hidden t h) v = (n : ℕ) × (v ≡ port n) × (roles n ≡ Some (hidden t h))

-- the port takes the outputs of the work for the value; a feed made it
abbrev pub IsReply : Roles → Work → ℕ → Tree → Type 0
IsReply roles w p v = (t : ℕ) × (roles p ≡ Some (hidden t (reply w v)))

-- What may stand on a channel of the role. A public channel carries public values, and a hidden one what its role says.
abbrev pub CarriesAs : ProgramView → Roles → Option Role → Tree → Type 0
CarriesAs program roles None x = ⊥
CarriesAs program roles (Some public) x = IsPublic roles x
CarriesAs program roles (Some (hidden t (jobs w))) x = (v : Tree) × (p : ℕ) × (x ≡ pair_of v (port p)) × IsPublic roles v × IsReply roles w p v
CarriesAs program roles (Some (hidden t (replies w))) x = (v : Tree) × (p : ℕ) × (x ≡ port p) × IsReply roles w p v
CarriesAs program roles (Some (hidden t (reply w v))) x = (ys : Trees) × (x ≡ vector ys) × Outs program w v (outputs ys) × ArePublic roles ys
CarriesAs program roles (Some (hidden t acks)) x = x ≡ bool true

abbrev pub ChannelCarries : ProgramView → Roles → ℕ → Tree → Type 0
ChannelCarries program roles p x = CarriesAs program roles (roles p) x
