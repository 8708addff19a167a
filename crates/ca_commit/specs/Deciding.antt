-- What a plan says of the held parts from which it was made.
use Rattle.std.specs.Prelude.{◌⊎◌, ◌≡◌, ℕ, ◌≤◌, List, [], ◌∷◌, length, take, Option, Some, None, Bool, true, slice_get}
use Rattle.ca_value.specs.Tree.{Tree, Trees, port}
use Rattle.ca_term.specs.declared.fault.Fault.{Fault}
use Rattle.ca_term.specs.declared.event.Side.{Side}
use Rattle.ca_term.specs.declared.head.RegisterName.{RegisterName}
use Rattle.ca_term.specs.Operation.{OpView, SeedView, closing, making, posting, printing, registering, spawning}
use Rattle.ca_term.specs.Event.{BranchView, put_of}
use Rattle.ca_meaning.specs.Channel.{Channel}
use Rattle.ca_meaning.specs.ChannelSteps.{other_side}
use Rattle.ca_meaning.specs.Choice.{branches_of, default_of, parks}
use Rattle.ca_meaning.specs.Operands.{first_of, port_of_value, rest_of}
use Rattle.ca_meaning.specs.Refusal.{has_no_default, registering_gives, unfit}
use Rattle.ca_meaning.specs.Registry.{Registry, answers}
use Rattle.ca_meaning.specs.Row.{completes, meets}
use Rattle.ca_meaning.specs.State.{State}
use Rattle.ca_meaning.specs.TaskSteps.{kind_of, result_of}
use Rattle.ca_meaning.specs.Wait.{Handler, port_of, side_of}
use Rattle.ca_registry.specs.Registry.{comes_to}
use Rattle.ca_commit.specs.Asks.{Asks, AsksSettle, row_raw}
use Rattle.ca_commit.specs.Contents.{Kept, Parked, Parts, alive_in, home, on, whole}
use Rattle.ca_commit.specs.Finding.{glance}
use Rattle.ca_commit.specs.Moves.{CrowdedIn, FewIn, FitIn, NoneReadyIn, PicksIn, Shows}
use Rattle.ca_commit.specs.Planning.{Planned, Seen, is_alts, state_of, to_close, to_default, to_do, to_look, to_make, to_meet, to_park, to_post, to_print, to_prune, to_refuse, to_register, to_spawn}

-- what held parts show
abbrev pub seen_in : {A : Type 0} → Parts A → Seen
seen_in h = record { ports = whole h.bank; registries = whole h.registry; see = glance h.shard }

-- whoever asks so asks whether wait w lives
abbrev pub AsksFor : ℕ → ((ℕ → Bool) → Type 0) → Type 0
AsksFor w asked = (alive : ℕ → Bool) → asked alive → alive w ≡ true

module _ {A : Type 0} (h : Parts A) where
  -- the branch is done at once, by its row
  pub record IsAlone (b : BranchView) : Type 0 where
    pub kept : Kept
    pub there : whole h.bank (port_of b) ≡ Some kept
    pub asks : Asks (alive_in h) b kept
    pub answer : Tree
    pub after : Channel
    pub by_row : row_raw kept b ≡ completes answer after

  -- it meets branch o of wait w, which is live and stands in front of the other side
  pub record HasPartner (b : BranchView) (w o : ℕ) : Type 0 where
    pub kept : Kept
    pub there : whole h.bank (port_of b) ≡ Some kept
    pub asks : Asks (alive_in h) b kept
    pub handler : Handler
    pub value : Tree
    pub rest : List Handler
    pub by_row : row_raw kept b ≡ meets handler value
    pub wait_is : handler.wait ≡ w
    pub branch_is : handler.branch ≡ o
    pub in_front : on (other_side (side_of b)) kept ≡ handler ∷ rest
    pub lives : alive_in h w ≡ true

  -- Nothing is ready, and where a wait would join there is a place for it.
  pub record Joinable (op : OpView) : Type 0 where
    pub unready : NoneReadyIn h (branches_of op)
    pub few : FewIn h (branches_of op)

  -- the operation on the registry has an answer, by the table
  pub record IsRegistryAnswered (name : RegisterName) (args : Trees) : Type 0 where
    pub answer : Tree
    pub after : Registry
    pub by_table : (s : State) → Shows h s → registering_gives s name args ≡ answers answer after
    pub old : Registry
    pub there : whole h.registry (port_of_value (first_of args)) ≡ Some old
    pub by_bank : comes_to (Some old) name (rest_of args) ≡ answers answer after

  -- the handler at that place of the queue, whose wait is gone from its shard
  pub record IsStale (p : ℕ) (side : Side) (place : ℕ) : Type 0 where
    pub kept : Kept
    pub there : whole h.bank p ≡ Some kept
    pub handler : Handler
    pub at_place : slice_get (on side kept) place ≡ Some handler
    pub from : ℕ → Option (Parked A)
    pub shard : h.shard (home handler.wait) ≡ Some from
    pub gone : from handler.wait ≡ None

  -- the same, where the shard of its wait isn't held
  pub record IsUnseen (p : ℕ) (side : Side) (place : ℕ) : Type 0 where
    pub kept : Kept
    pub there : whole h.bank p ≡ Some kept
    pub handler : Handler
    pub at_place : slice_get (on side kept) place ≡ Some handler
    pub unheld : h.shard (home handler.wait) ≡ None

  -- No branch is ready, each queue before that of branch k has a place, and that one, which is of this side, is long, so that
  -- its live waits are counted.
  abbrev pub IsCounted : OpView → ℕ → BranchView → Kept → Side → Type 0
  IsCounted op k b kept side = (default_of op ≡ None) × NoneReadyIn h (branches_of op) × FewIn h (take k (branches_of op)) × (side_of b ≡ side) × (1024 ≤ length (on side kept))

  -- What becomes of the operation hangs on whether wait w lives, whose handler is at that place of a queue of channel p: in
  -- front, where the row of a branch asks it, and with priority none before is ready; or among those that are counted.
  pub record HangsOn (op : OpView) (p : ℕ) (kept : Kept) (side : Side) (place w : ℕ) : Type 0 where
    pub number : ℕ
    pub branch : BranchView
    pub picked : PicksIn h op number branch
    pub at_port : port_of branch ≡ p
    pub why : ((place ≡ 0) × AsksFor w (λ alive. Asks alive branch kept)) ⊎ IsCounted op number branch kept side

  abbrev pub HangsOnStale : OpView → ℕ → Side → ℕ → Type 0
  HangsOnStale op p side place = (stale : IsStale p side place) × HangsOn op p stale.kept side place stale.handler.wait

  abbrev pub HangsOnUnseen : OpView → ℕ → Type 0
  HangsOnUnseen op w = (p : ℕ) × (side : Side) × (place : ℕ) × (unseen : IsUnseen p side place) × (unseen.handler.wait ≡ w) × HangsOn op p unseen.kept side place w

  -- what channel p settles hangs on the stale handler in front of that side, since the rows of a Settle ask it
  abbrev pub RestsOnStale : ℕ → Side → Type 0
  RestsOnStale p side = (stale : IsStale p side 0) × AsksFor stale.handler.wait (λ alive. AsksSettle alive stale.kept)

  -- or on wait w, which is in front of a side, and isn't seen
  abbrev pub RestsOnUnseen : ℕ → ℕ → Type 0
  RestsOnUnseen p w = (side : Side) × (unseen : IsUnseen p side 0) × (unseen.handler.wait ≡ w) × AsksFor w (λ alive. AsksSettle alive unseen.kept)

  -- a put without its task: its one branch
  abbrev pub IsPost : OpView → List BranchView → Type 0
  IsPost op bs = (p : ℕ) × (v : Tree) × (op ≡ posting (port p) v) × (bs ≡ put_of p v ∷ [])

  -- the operands are refused, as far as the held banks tell
  abbrev pub AreOperandsRefused : OpView → Fault → Type 0
  AreOperandsRefused op f = unfit (state_of (whole h.bank) (whole h.registry)) op ≡ Some f

  -- or they are right, and a wait would be one too many
  abbrev pub IsCrowded : OpView → Fault → Type 0
  IsCrowded op f = FitIn h op × (has_no_default op ≡ true) × NoneReadyIn h (branches_of op) × CrowdedIn h (branches_of op) f

  -- what the plan of an operation says
  abbrev pub PlanTells : OpView → Planned → Type 0
  PlanTells op (to_do k b alts) = FitIn h op × PicksIn h op k b × IsAlone b × (alts ≡ is_alts op)
  PlanTells op (to_meet k b alts w o) = FitIn h op × PicksIn h op k b × HasPartner b w o × (alts ≡ is_alts op)
  PlanTells op (to_park bs) = FitIn h op × (branches_of op ≡ bs) × (default_of op ≡ None) × Joinable op × (parks op ≡ true)
  PlanTells op (to_post bs) = FitIn h op × (branches_of op ≡ bs) × (default_of op ≡ None) × Joinable op × IsPost op bs
  PlanTells op (to_default v) = FitIn h op × (default_of op ≡ Some v) × NoneReadyIn h (branches_of op)
  PlanTells op (to_make what) = FitIn h op × (op ≡ making what)
  PlanTells op (to_spawn kind r) = FitIn h op × ((seed : SeedView) × (op ≡ spawning seed) × (kind_of seed ≡ kind) × (result_of seed ≡ r))
  PlanTells op (to_close p) = FitIn h op × (op ≡ closing (port p)) × ((k : Kept) × (whole h.bank p ≡ Some k))
  PlanTells op (to_register name args) = FitIn h op × (op ≡ registering name args) × IsRegistryAnswered name args
  PlanTells op (to_print line) = FitIn h op × (op ≡ printing line)
  PlanTells op (to_prune p side place) = FitIn h op × HangsOnStale op p side place
  PlanTells op (to_look w) = FitIn h op × HangsOnUnseen op w
  PlanTells op (to_refuse f) = AreOperandsRefused op f ⊎ IsCrowded op f
