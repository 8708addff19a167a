-- The values of a run are values, within the bounds on weight and depth and with the keys of each map apart: in every
-- term, system task, channel, wait and registry of a state, and in every event. Their integers lie in 64 bits and their
-- keywords are keywords, where that is so of the program's constants.
use Rattle.std.specs.Prelude.{◌≡◌, ℕ, ◌≤◌, ◌<◌, List, [], ◌∷◌, length, Option, Some, None, map, true}
use Rattle.ca_value.specs.Tree.{Tree, Trees, vector, none as no_values, item as value_item}
use Rattle.ca_value.specs.Equality.{equals}
use Rattle.ca_value.specs.Measure.{weight_of, weight_of_items, depth_of}
use Rattle.ca_value.specs.IsValue.{Scalars, IsRegular, IsValue, AreValues}
use Rattle.ca_term.specs.Kernel.{Kernel, Kernels, Bindings, Founds, const, var, branch, bind, loop, seq, frame, turn, apply, none, item, empty, binding}
use Rattle.ca_term.specs.Operation.{OpView, WhatView, SeedView, mult, mix, publication, go, system, taking, putting, choosing, making, spawning, closing, registering, printing, posting}
use Rattle.ca_term.specs.Fits.{count_terms}
use Rattle.ca_term.specs.Source.{IsFew}
use Rattle.ca_term.specs.Cost.{weight_of_branches, weight_shown}
use Rattle.ca_term.specs.Event.{EventView, BranchView, take_of, put_of, made, spawned, done, met, parked, posted, settled, defaulted, closed, registered, printed, ticked, over}
use Rattle.ca_meaning.specs.Operands.{is_pair, second_of, count_of, values_in}
use Rattle.ca_meaning.specs.Sound.{Each}
use Rattle.ca_meaning.specs.Channel.{Channel}
use Rattle.ca_meaning.specs.Wait.{Handler, queue}
use Rattle.ca_meaning.specs.Choice.{branch_of}
use Rattle.ca_meaning.specs.Registry.{Registry, TopicView, a_mult, a_mix, a_publication, pairs_in, all_channels, channels_differ}
use Rattle.ca_meaning.specs.Refusal.{is_channel}
use Rattle.ca_meaning.specs.Body.{At, at_op, ended}
use Rattle.ca_meaning.specs.Asks.{Next, to, stop, fail}
use Rattle.ca_meaning.specs.MultTable.{MultState, mult_reads, mult_spawns}
use Rattle.ca_meaning.specs.MixTable.{MixState, mix_puts}
use Rattle.ca_meaning.specs.PubTable.{PubState, pub_sorts, pub_finds, pub_puts}
use Rattle.ca_meaning.specs.PipeTable.{PipeState, pipe_puts, MergeState, merge_chooses, merge_puts, OntoState, onto_puts}
use Rattle.ca_meaning.specs.PipelineTable.{FeedState, feed_makes, feed_puts, JobState, job_works, job_replies, CollectState, collect_puts}
use Rattle.ca_meaning.specs.System.{SystemBody, a_mult as mult_task, a_delivery, a_mix as mix_task, a_pub, a_pipe, a_merge, an_onto, a_feed, a_job, a_collect}
use Rattle.ca_meaning.specs.Task.{TaskBody, script, system_task}
use Rattle.ca_meaning.specs.State.{State, Task}
use Rattle.ca_term.specs.declared.event.Side.TheVariants.{Put}

-- the values that the branches put lie in one vector
abbrev pub AreLight : List BranchView → Type 0
AreLight bs = weight_of_branches bs ≤ 131_071

-- what follows of a system task is of a state that is such
abbrev pub NextHas : {S : Type 0} → (S → Type 0) → Next S → Type 0
NextHas P (to x) = P x
NextHas P stop = Unit {0}
NextHas P (fail f) = Unit {0}

-- what an operation on a registry brings: the channels of a toggle are different ones, and a topic is equal to itself
abbrev pub BringsApart : Trees → Type 0
BringsApart args =
    ((s : State) → all_channels (is_channel s) (pairs_in (second_of args)) ≡ true → channels_differ (pairs_in (second_of args)) ≡ true)
    × (equals (second_of args) (second_of args) ≡ true)

-- the values that its line shows weigh no more than four arguments and an answer do
abbrev pub ShowsLittle : EventView → Type 0
ShowsLittle e = weight_shown e ≤ 655_360

-- in each of these what is said of scalars holds of all of them
module _ (scalars : Scalars) where
  -- A value that a channel may hold or a wait may offer: with a port beside it in a vector it is still a value.
  pub record IsOffered (t : Tree) : Type 0 where
    pub regular : IsRegular scalars t
    pub light : weight_of t ≤ 131_000
    pub shallow : depth_of t ≤ 78

  -- the names of a loop that have their values
  abbrev pub FoundsAreValues : Founds → Type 0
  FoundsAreValues [] = Unit {0}
  FoundsAreValues (f ∷ fs) = IsValue scalars f.1 × FoundsAreValues fs

  -- each constant in the term, and each value that was put in, is a value
  abbrev mutual
    pub HasValues : Kernel → Type 0
    HasValues (const v) = IsValue scalars v
    HasValues (var n) = Unit {0}
    HasValues (branch c a b) = HasValues c × HasValues a × HasValues b
    HasValues (bind bs body) = BindingsHaveValues bs × HasValues body
    HasValues (loop fs bs body) = FoundsAreValues fs × BindingsHaveValues bs × HasValues body
    HasValues (seq ts) = HaveValues ts
    HasValues (frame body) = HasValues body
    HasValues (turn names text now) = HasValues text × HasValues now
    HasValues (apply h ts p) = IsFew h (count_terms ts) × HaveValues ts

    pub HaveValues : Kernels → Type 0
    HaveValues none = Unit {0}
    HaveValues (item t ts) = HasValues t × HaveValues ts

    pub BindingsHaveValues : Bindings → Type 0
    BindingsHaveValues empty = Unit {0}
    BindingsHaveValues (binding n t bs) = HasValues t × BindingsHaveValues bs

  -- operations
  abbrev pub OffersIn : BranchView → Type 0
  OffersIn (take_of p) = Unit {0}
  OffersIn (put_of p v) = IsOffered v

  abbrev pub IsOfferedDefault : Option Tree → Type 0
  IsOfferedDefault None = Unit {0}
  IsOfferedDefault (Some v) = IsOffered v

  abbrev pub MadeOf : WhatView → Type 0
  MadeOf (mult source) = IsValue scalars source
  MadeOf (mix out changes) = IsValue scalars out × IsValue scalars changes
  MadeOf (publication source) = IsValue scalars source
  MadeOf what = Unit {0}

  abbrev pub SeedHas : SeedView → Type 0
  SeedHas (go n values result place) = AreValues scalars values
  SeedHas (system kind values place) = AreValues scalars values

  abbrev pub PortHas : Tree → Type 0
  PortHas (vector vs) = is_pair vs ≡ true → IsOffered (second_of vs)
  PortHas v = Unit {0}

  abbrev pub PortsHave : Trees → Type 0
  PortsHave no_values = Unit {0}
  PortsHave (value_item v vs) = PortHas v × PortsHave vs

  abbrev pub OpHas : OpView → Type 0
  OpHas (taking c) = Unit {0}
  OpHas (putting c v) = IsOffered v
  OpHas (choosing ports priority default) = PortsHave ports × AreLight (map branch_of (values_in ports)) × IsOfferedDefault default
  OpHas (making what) = MadeOf what
  OpHas (spawning seed) = SeedHas seed
  OpHas (closing c) = Unit {0}
  OpHas (registering name args) = AreValues scalars args × (count_of args ≤ 4)
  OpHas (printing line) = length line < 65_536
  OpHas (posting c v) = IsOffered v

  abbrev pub AtHas : At → Type 0
  AtHas (at_op w) = OpHas w.op
  AtHas (ended v) = IsValue scalars v
  AtHas a = Unit {0}

  -- what stands in registries
  abbrev pub RegistryHas : Registry → Type 0
  RegistryHas (a_mult s ts) = length ts ≤ 1024
  RegistryHas (a_mix o g mode xs) = length xs ≤ 255
  RegistryHas (a_publication s ts) = (length ts ≤ 1024) × Each (λ (t : TopicView). IsValue scalars t.topic) ts

  -- what the states of the system tasks hold
  abbrev pub MultHas : MultState → Type 0
  MultHas (mult_reads v) = IsValue scalars v
  MultHas (mult_spawns v x xs n) = IsValue scalars v
  MultHas x = Unit {0}

  abbrev pub MixHas : MixState → Type 0
  MixHas (mix_puts reads heard v) = IsValue scalars v
  MixHas x = Unit {0}

  abbrev pub PubHas : PubState → Type 0
  PubHas (pub_sorts v) = IsValue scalars v
  PubHas (pub_finds topic v) = IsValue scalars topic × IsValue scalars v
  PubHas (pub_puts c v) = IsValue scalars v
  PubHas x = Unit {0}

  abbrev pub PipeHas : PipeState → Type 0
  PipeHas (pipe_puts v) = IsValue scalars v
  PipeHas x = Unit {0}

  -- the inputs of a merge, which were the items of one vector
  abbrev pub AreInputs : Trees → Type 0
  AreInputs vs = AreValues scalars vs × (weight_of_items vs ≤ 131_071)

  abbrev pub MergeHas : MergeState → Type 0
  MergeHas (merge_chooses v vs) = AreInputs (value_item v vs)
  MergeHas (merge_puts vs v) = AreInputs vs × IsValue scalars v
  MergeHas x = Unit {0}

  abbrev pub OntoHas : OntoState → Type 0
  OntoHas (onto_puts v vs) = IsValue scalars v × AreValues scalars vs
  OntoHas x = Unit {0}

  abbrev pub FeedHas : FeedState → Type 0
  FeedHas (feed_makes v) = IsValue scalars v
  FeedHas (feed_puts v p) = IsValue scalars v
  FeedHas x = Unit {0}

  abbrev pub JobHas : JobState → Type 0
  JobHas (job_works v p) = IsValue scalars v
  JobHas (job_replies p ys) = AreValues scalars ys
  JobHas x = Unit {0}

  abbrev pub CollectHas : CollectState → Type 0
  CollectHas (collect_puts y ys) = IsValue scalars y × AreValues scalars ys
  CollectHas x = Unit {0}

  abbrev pub SystemHas : SystemBody → Type 0
  SystemHas (mult_task t p x) = NextHas MultHas x
  SystemHas (a_delivery d p x) = IsValue scalars d.value
  SystemHas (mix_task t p x) = NextHas MixHas x
  SystemHas (a_pub t p x) = IsValue scalars t.keyword × NextHas PubHas x
  SystemHas (a_pipe t p x) = NextHas PipeHas x
  SystemHas (a_merge o p x) = NextHas MergeHas x
  SystemHas (an_onto t p x) = NextHas OntoHas x
  SystemHas (a_feed t p x) = NextHas FeedHas x
  SystemHas (a_job j w x) = IsValue scalars w.keyword × NextHas JobHas x
  SystemHas (a_collect t p x) = NextHas CollectHas x

  abbrev pub BodyHas : TaskBody → Type 0
  BodyHas (script b) = HasValues b.term
  BodyHas (system_task b) = SystemHas b

  -- every value in the state is one
  pub record Holds (s : State) : Type 0 where
    pub bodies : (u : ℕ) (x : Task) → s.tasks u ≡ Some x → BodyHas x.body
    pub held : (p : ℕ) (c : Channel) → s.channels p ≡ Some c → Each IsOffered c.held
    pub offered : (p : ℕ) → Each (λ (h : Handler). IsOffered h.value) (queue Put p s.waits)
    pub listed : (p : ℕ) (r : Registry) → s.registries p ≡ Some r → RegistryHas r

  -- every value in the event is one, also those that its line doesn't show
  abbrev pub EventHas : EventView → Type 0
  EventHas (made t p what moment) = MadeOf what
  EventHas (spawned t u kind result) = Unit {0}
  EventHas (done t k b a) = OffersIn b × IsOffered a
  EventHas (met t k side p v w o) = IsOffered v
  EventHas (parked t w bs) = Each OffersIn bs × AreLight bs
  EventHas (posted t w p v) = IsOffered v
  EventHas (settled w k side p v) = IsOffered v
  EventHas (defaulted t v) = IsOffered v
  EventHas (closed t p) = Unit {0}
  EventHas (registered t name args v) = AreValues scalars args × (count_of args ≤ 4) × IsValue scalars v
  EventHas (printed t line) = length line < 65_536
  EventHas (ticked m ports) = Unit {0}
  EventHas (over t how) = Unit {0}
