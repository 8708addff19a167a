-- The pipeline law of every guarded run.
use Rattle.std.proofs.Common.{◌≡◌, ℕ, List, [], ◌∷◌, ◌++◌, refl, sym, ap, ◌∙◌, subst, Option, Some}
use Rattle.ca_value.specs.Tree.{Trees}
use Rattle.ca_term.specs.declared.place.Place.{Place}
use Rattle.ca_term.specs.declared.event.TaskKind.{TaskKind}
use Rattle.ca_term.specs.declared.head.SystemTask.TheVariants.{Feed, Collect}
use Rattle.ca_term.specs.Operation.{system}
use Rattle.ca_term.specs.Program.{ProgramView}
use Rattle.ca_term.specs.Event.{EventView, spawned}
use Rattle.ca_meaning.specs.Applied.{Work}
use Rattle.ca_meaning.specs.Asks.{to}
use Rattle.ca_meaning.specs.Channel.{Channel}
use Rattle.ca_meaning.specs.PipelineTable.{FeedPorts, feed_takes, CollectPorts, collect_takes}
use Rattle.ca_meaning.specs.State.{State, running}
use Rattle.ca_meaning.specs.Steps.{Step, Steps}
use Rattle.ca_meaning.specs.System.{a_feed, a_collect}
use Rattle.ca_laws.specs.Deeds.{deeds}
use Rattle.ca_laws.specs.Taken.{taken}
use Rattle.ca_laws.specs.Rules.{SpawnsFrom}
use Rattle.ca_laws.specs.PipelineRules.{feed_ports, collect_ports}
use Rattle.ca_laws.proofs.Deeding.{Traced}
use Rattle.ca_roles.specs.Roles.{jobs, replies, hidden, Roles}
use Rattle.ca_roles.specs.Typed.{TypedSystem, TypedBody}
use Rattle.ca_networks.specs.Networks.{offered}
use Rattle.ca_networks.proofs.Guarded.{Guard, Turn}
use Rattle.ca_networks.proofs.Walking.{Keeps, Cut, guard_after, next_cut, last_part}
use Rattle.ca_networks.proofs.Standing.{Standing}
use Rattle.ca_networks.proofs.Spawning.{fresh_standing, fresh_deeds}
use Rattle.ca_networks.proofs.Tables.{feed_body, collect_body}
use Rattle.ca_networks.proofs.Carried.{Carry, FeedAt, CollectAt}
use Rattle.ca_networks.proofs.Offered.{offered_more}
use Rattle.ca_networks.proofs.Silent.{absent_offers}
use Rattle.ca_networks.proofs.Collected.{Collected}
use Rattle.ca_networks.proofs.Piping.{NoFeed, NoCollect, Lined, HasRoles, Feeding, feeding_now}
use Rattle.ca_networks.proofs.Empty.{AllEmpty, empty_keeps}
use Rattle.ca_networks.proofs.Phases.{no_feed, no_collect, has_more, WithFeed, feeding_keeps, WithCollect, collecting_now, collecting_keeps, WithBoth, piped_keeps}

-- the roles of its ports
pub feed_roles : (program : ProgramView) (roles : Roles) (s : State) (f : FeedPorts) (place : Place) (t : ℕ) → Guard program roles s → Standing (feed_body f place) t s → (m : ℕ) × (w : Work) × HasRoles roles m w f
feed_roles program roles s f place t g y = let b : TypedSystem program roles (a_feed f place y.now) = subst (TypedBody program t roles) y.body_is (g.typed.tasks t y.task y.there).body in (b.0, b.1, (b.3, b.4))

collect_roles : (program : ProgramView) (roles : Roles) (s : State) (c : CollectPorts) (place : Place) (t : ℕ) → Guard program roles s → Standing (collect_body c place) t s → (m : ℕ) × (w : Work) × (roles c.replies ≡ Some (hidden m (replies w)))
collect_roles program roles s c place t g y = let b : TypedSystem program roles (a_collect c place y.now) = subst (TypedBody program t roles) y.body_is (g.typed.tasks t y.task y.there).body in (b.0, b.1, b.4)

-- what a queue holds at a Spawn
module _ (program : ProgramView) (roles more : Roles) (s s2 : State) (u t : ℕ) (kind : TaskKind) (result : Option ℕ) (g : Guard program roles s) (g2 : Guard program more s2) (turn : Turn program roles more s (spawned u t kind result)) (k : Step program s (spawned u t kind result) s2) where
  pub empty_at_spawn : AllEmpty roles s → (q m : ℕ) (w : Work) → more q ≡ Some (hidden m (replies w)) → NoFeed s q → Lined more w q s2 []
  empty_at_spawn empty q m w role none = record { line = c.0; there = c.1; holds = subst (λ i. Carry more w i []) (sym held) refl } where
    c : (c : Channel) × (s2.channels q ≡ Some c)
    c = let h = g2.typed.hidden_channels q m (replies w) role in (h.0, h.1)

    was : s.channels q ≡ Some c.0
    was = sym (ap (λ (z : State). z.channels q) k.10) ∙ c.1

    held : c.0.held ≡ []
    held =
        let r = g.typed.channels q c.0 was in
        let same : r.0 ≡ hidden m (replies w) = (let i : Some r.0 ≡ Some (hidden m (replies w)) = sym (turn.grows q r.0 r.1) ∙ role in cc) in
        empty q m w (r.1 ∙ ap (λ z. Some z) same) none c.0 was

module _ (program : ProgramView) (last : State) (more : Roles) (uf tf uc tc : ℕ) (rf rc : Option ℕ) (fv cv : Trees) (pf pc : Place) (cq : (collect_ports cv).replies ≡ (feed_ports fv).replies) (xs ms vs : List EventView) where
  abbrev F : EventView
  F = spawned uf tf TaskKind.Feed rf

  abbrev C : EventView
  C = spawned uc tc TaskKind.Collect rc

  abbrev f : FeedPorts
  f = feed_ports fv

  abbrev c : CollectPorts
  c = collect_ports cv

  abbrev pub Ends : List EventView → Type 0
  Ends journal = (m : ℕ) × (w : Work) × WithBoth program (feed_ports fv) (collect_ports cv) pf pc tf tc cq m w journal more last

  -- the feed first
  module _ (one : Cut program xs F (ms ++ C ∷ vs) more last) (empty : AllEmpty one.roles one.state) (from_f : SpawnsFrom program xs uf (system Feed fv pf)) (from_c : SpawnsFrom program (xs ++ F ∷ ms) uc (system Collect cv pc)) where
    guard2 : Guard program one.next one.state2
    guard2 = guard_after program xs F (ms ++ C ∷ vs) more last one

    feed : (y : Standing (feed_body f pf) tf one.state2) × (y.now ≡ to feed_takes) × (y.task.mode ≡ running)
    feed = fresh_standing program xs one.state one.state2 uf tf Feed rf fv pf from_f one.reaches one.step (feed_body f pf) (to feed_takes) (λ b r. r)

    has : (m : ℕ) × (w : Work) × HasRoles one.next m w f
    has = feed_roles program one.next one.state2 f pf tf guard2 feed.0

    begins : WithFeed program f c pf pc tf tc cq has.0 has.1 (xs ++ F ∷ []) one.next one.state2
    begins = (
      has.2,
      record {
        queued = [];
        fed = record { at = feed.0; feeds = subst (λ n. FeedAt one.next has.1 n [] (taken (deeds tf (xs ++ F ∷ [])))) (sym feed.1) (ap taken (fresh_deeds program xs one.state one.state2 uf tf Feed rf fv pf from_f one.reaches one.step one.traced)) };
        line = empty_at_spawn program one.roles one.next one.state one.state2 uf tf TaskKind.Feed rf one.guard guard2 one.turn one.step empty f.replies has.0 has.1 has.2.1 (no_feed program f pf tf xs one.state one.state2 F one.next one.traced one.step guard2 feed.0 one.step.5 [] xs one.state one.traced refl);
      },
    )

    two : (second : Cut program (xs ++ F ∷ ms) C vs more last) × ((P : List EventView → Roles → State → Type 0) → Keeps program second.state P → P (xs ++ F ∷ []) one.next one.state2 → P (xs ++ F ∷ ms) second.roles second.state)
    two = next_cut program xs ms vs F C more last one

    guard4 : Guard program two.0.next two.0.state2
    guard4 = guard_after program (xs ++ F ∷ ms) C vs more last two.0

    collect : (y : Standing (collect_body c pc) tc two.0.state2) × (y.now ≡ to collect_takes) × (y.task.mode ≡ running)
    collect = fresh_standing program (xs ++ F ∷ ms) two.0.state two.0.state2 uc tc Collect rc cv pc from_c two.0.reaches two.0.step (collect_body c pc) (to collect_takes) (λ b r. r)

    none : (es journal : List EventView) (s : State) → Traced journal s → Steps program s es two.0.state → NoCollect s f.replies
    none es journal s traced steps = subst (NoCollect s) cq (no_collect program c pc tc (xs ++ F ∷ ms) two.0.state two.0.state2 C two.0.next two.0.traced two.0.step guard4 collect.0 two.0.step.5 es journal s traced steps)

    feeding : WithFeed program f c pf pc tf tc cq has.0 has.1 (xs ++ F ∷ ms) two.0.roles two.0.state
    feeding = two.1 (WithFeed program f c pf pc tf tc cq has.0 has.1) (feeding_keeps program f c pf pc tf tc cq has.0 has.1 two.0.state none) begins

    feeding4 : Feeding two.0.next has.1 f pf tf ((xs ++ F ∷ ms) ++ C ∷ []) two.0.state2
    feeding4 = feeding_now program two.0.roles two.0.next (xs ++ F ∷ ms) two.0.state two.0.state2 C two.0.traced two.0.guard two.0.turn two.0.step has.0 has.1 f feeding.0.1 feeding.0.0 pf tf (none [] (xs ++ F ∷ ms) two.0.state two.0.traced refl) feeding.1

    both : WithBoth program f c pf pc tf tc cq has.0 has.1 ((xs ++ F ∷ ms) ++ C ∷ []) two.0.next two.0.state2
    both = (
      has_more program f c pf pc tf tc cq has.0 has.1 two.0.roles two.0.next two.0.turn.grows feeding.0,
      record {
        queued = feeding4.queued;
        opened = [];
        between = feeding4.queued;
        fed = feeding4.fed;
        collected = record { at = collect.0; collects = subst (λ n. CollectAt program two.0.next has.1 n collect.0.task.mode [] (offered tc ((xs ++ F ∷ ms) ++ C ∷ []))) (sym collect.1) (offered_more tc (xs ++ F ∷ ms) C ∙ ap (λ z. z ++ []) (absent_offers tc (xs ++ F ∷ ms) two.0.state two.0.traced two.0.step.5)) };
        line = feeding4.line;
        split = refl;
      },
    )

    pub feed_first : Ends ((xs ++ F ∷ ms) ++ C ∷ vs)
    feed_first = (has.0, has.1, last_part program (xs ++ F ∷ ms) vs C more last two.0 (WithBoth program f c pf pc tf tc cq has.0 has.1) (piped_keeps program f c pf pc tf tc cq has.0 has.1 last) both)

  -- the collect first
  module _ (one : Cut program xs C (ms ++ F ∷ vs) more last) (empty : AllEmpty one.roles one.state) (from_c : SpawnsFrom program xs uc (system Collect cv pc)) (from_f : SpawnsFrom program (xs ++ C ∷ ms) uf (system Feed fv pf)) where
    guard_c : Guard program one.next one.state2
    guard_c = guard_after program xs C (ms ++ F ∷ vs) more last one

    its : (y : Standing (collect_body c pc) tc one.state2) × (y.now ≡ to collect_takes) × (y.task.mode ≡ running)
    its = fresh_standing program xs one.state one.state2 uc tc Collect rc cv pc from_c one.reaches one.step (collect_body c pc) (to collect_takes) (λ b r. r)

    role : (m : ℕ) × (w : Work) × (one.next c.replies ≡ Some (hidden m (replies w)))
    role = collect_roles program one.next one.state2 c pc tc guard_c its.0

    begins_c : WithCollect program f c pf pc tf tc cq role.0 role.1 (xs ++ C ∷ []) one.next one.state2
    begins_c = (
      ap one.next (sym cq) ∙ role.2,
      empty_keeps program one.state2 xs [] one.roles one.next one.state one.state2 C one.traced one.guard one.step one.turn guard_c refl empty,
      record { at = its.0; collects = subst (λ n. CollectAt program one.next role.1 n its.0.task.mode [] (offered tc (xs ++ C ∷ []))) (sym its.1) (offered_more tc xs C ∙ ap (λ z. z ++ []) (absent_offers tc xs one.state one.traced one.step.5)) },
    )

    then : (second : Cut program (xs ++ C ∷ ms) F vs more last) × ((P : List EventView → Roles → State → Type 0) → Keeps program second.state P → P (xs ++ C ∷ []) one.next one.state2 → P (xs ++ C ∷ ms) second.roles second.state)
    then = next_cut program xs ms vs C F more last one

    guard_f : Guard program then.0.next then.0.state2
    guard_f = guard_after program (xs ++ C ∷ ms) F vs more last then.0

    feeds : (y : Standing (feed_body f pf) tf then.0.state2) × (y.now ≡ to feed_takes) × (y.task.mode ≡ running)
    feeds = fresh_standing program (xs ++ C ∷ ms) then.0.state then.0.state2 uf tf Feed rf fv pf from_f then.0.reaches then.0.step (feed_body f pf) (to feed_takes) (λ b r. r)

    none_f : (es journal : List EventView) (s : State) → Traced journal s → Steps program s es then.0.state → NoFeed s f.replies
    none_f es journal s traced steps = no_feed program f pf tf (xs ++ C ∷ ms) then.0.state then.0.state2 F then.0.next then.0.traced then.0.step guard_f feeds.0 then.0.step.5 es journal s traced steps

    keeps_c : (last : State) → ((es journal : List EventView) (s : State) → Traced journal s → Steps program s es last → NoFeed s f.replies) → Keeps program last (WithCollect program f c pf pc tf tc cq role.0 role.1)
    keeps_c = collecting_keeps program f c pf pc tf tc cq role.0 role.1

    waiting_c : WithCollect program f c pf pc tf tc cq role.0 role.1 (xs ++ C ∷ ms) then.0.roles then.0.state
    waiting_c = then.1 (WithCollect program f c pf pc tf tc cq role.0 role.1) (keeps_c then.0.state none_f) begins_c

    none_now : NoFeed then.0.state f.replies
    none_now = none_f [] (xs ++ C ∷ ms) then.0.state then.0.traced refl

    collected_f : Collected program then.0.next role.1 c pc tc ((xs ++ C ∷ ms) ++ F ∷ []) then.0.state2 []
    collected_f = collecting_now program f c pf pc tf tc cq role.0 role.1 (xs ++ C ∷ ms) then.0.roles then.0.next then.0.state then.0.state2 F then.0.traced then.0.guard then.0.step then.0.turn none_now waiting_c

    -- the work of the feed is that of the collect
    has_f : HasRoles then.0.next role.0 role.1 f
    has_f =
        let h = feed_roles program then.0.next then.0.state2 f pf tf guard_f feeds.0 in
        let q : then.0.next f.replies ≡ Some (hidden role.0 (replies role.1)) = then.0.turn.grows f.replies (hidden role.0 (replies role.1)) waiting_c.0 in
        let i : Some (hidden h.0 (replies h.1)) ≡ Some (hidden role.0 (replies role.1)) = sym h.2.1 ∙ q in
        let m : h.0 ≡ role.0 = cc in
        let w : h.1 ≡ role.1 = cc in
        (h.2.0 ∙ ap (λ z. Some (hidden z (jobs h.1))) m ∙ ap (λ z. Some (hidden role.0 (jobs z))) w, q)

    both_f : WithBoth program f c pf pc tf tc cq role.0 role.1 ((xs ++ C ∷ ms) ++ F ∷ []) then.0.next then.0.state2
    both_f = (
      has_f,
      record {
        queued = [];
        opened = [];
        between = [];
        fed = record { at = feeds.0; feeds = subst (λ n. FeedAt then.0.next role.1 n [] (taken (deeds tf ((xs ++ C ∷ ms) ++ F ∷ [])))) (sym feeds.1) (ap taken (fresh_deeds program (xs ++ C ∷ ms) then.0.state then.0.state2 uf tf Feed rf fv pf from_f then.0.reaches then.0.step then.0.traced)) };
        collected = collected_f;
        line = empty_at_spawn program then.0.roles then.0.next then.0.state then.0.state2 uf tf TaskKind.Feed rf then.0.guard guard_f then.0.turn then.0.step waiting_c.1 f.replies role.0 role.1 has_f.1 none_now;
        split = refl;
      },
    )

    pub collect_first : Ends ((xs ++ C ∷ ms) ++ F ∷ vs)
    collect_first = (role.0, role.1, last_part program (xs ++ C ∷ ms) vs F more last then.0 (WithBoth program f c pf pc tf tc cq role.0 role.1) (piped_keeps program f c pf pc tf tc cq role.0 role.1 last) both_f)
