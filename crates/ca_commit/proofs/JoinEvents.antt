-- Park and Post, a new wait, are steps.
use Rattle.std.proofs.Common.{◌≡◌, ℕ, ◌+◌, ◌*◌, List, [], ◌∷◌, ◌++◌, refl, sym, ap, ◌∙◌, subst, Bool, true, false, Option, Some, None, option_map, eqb, slice_get}
use Rattle.std.specs.Map.{update}
use Rattle.ca_value.specs.Tree.{Tree, bool, port}
use Rattle.ca_term.specs.Program.{ProgramView}
use Rattle.ca_term.specs.Operation.{posting}
use Rattle.ca_term.specs.Event.{BranchView, put_of, parked as is_parked, posted}
use Rattle.ca_meaning.specs.Body.{At, at_op}
use Rattle.ca_meaning.specs.Wait.{Wait, port_of, is_live, is_among}
use Rattle.ca_meaning.specs.Task.{TaskBody}
use Rattle.ca_meaning.specs.Choice.{branches_of}
use Rattle.ca_meaning.specs.Refusal.{crowded}
use Rattle.ca_meaning.specs.State.{State, Task, waiting, runs}
use Rattle.ca_commit.specs.ChannelMoves.{Joins, MovesPark, MovesPost}
use Rattle.ca_commit.specs.Contents.{LaneView, Parked, Parts, alive, alive_in, nobody, owner, whole}
use Rattle.ca_commit.specs.Holds.{KeepsChannels, join_all}
use Rattle.ca_commit.specs.Moves.{Unready}
use Rattle.ca_commit.specs.Stands.{NumbersGiven, Stands, port_count, task_count, wait_count}
use Rattle.ca_commit.proofs.AgentLaws.{GoesOn, StaysPaused, TakesAnswers}
use Rattle.ca_commit.proofs.Answering.{stands_at}
use Rattle.ca_commit.proofs.Fitting.{few_fits, fits}
use Rattle.ca_commit.proofs.Holding.{joins_in}
use Rattle.ca_commit.proofs.Joining.{absent, alive_and, laid_joined, unready_at}
use Rattle.ca_commit.proofs.Laid.{IsPart, laid, laid_parts, same_map, seen, untouched}
use Rattle.ca_commit.proofs.Landing.{altered, lands, timers_as_before, unaltered}
use Rattle.ca_commit.proofs.Numbers.{From, UsedFrom, all_grow, equal_le, from_same, from_there, given_next, not_given, numbered_more, one_more_le, used_next}
use Rattle.ca_commit.proofs.Seats.{parks_at, posts_at}
use Rattle.ca_commit.proofs.Shown.{none_crowded, none_ready, shown_by, shows}
use Rattle.ca_commit.proofs.Steps.{seated_on, stood, went}
use Rattle.ca_commit.proofs.TaskEvents.{Leads}

module _ {A : Type 0} (place : A → At) (stands : ProgramView → A → Option ℕ → TaskBody → Type 0) (program : ProgramView) (n : ℕ) where
  is_fresh : (now : Parts A) (s : State) (w wait : ℕ) (l : LaneView A) → Stands place stands program n now s → now.lane w ≡ Some l → wait ≡ 1 + w + n * l.counts.waits → is_among wait s.used ≡ false
  is_fresh now s w wait l st at next = by (is_among wait s.used) refl where
    by : (b : Bool) → is_among wait s.used ≡ b → is_among wait s.used ≡ false
    by false e = e
    by true e = absurd (not_given n wait_count now.lane w l wait (st.lanes w l at).1 at next (st.numbered.waits wait e))

  not_live_yet : (now : Parts A) (s : State) (wait : ℕ) → Stands place stands program n now s → is_among wait s.used ≡ false → is_live wait s.waits ≡ false
  not_live_yet now s wait st fresh = by (is_live wait s.waits) refl where
    by : (b : Bool) → is_live wait s.waits ≡ b → is_live wait s.waits ≡ false
    by false e = e
    by true e = absurd (let k : true ≡ false = sym (st.holds.given wait e) ∙ fresh in cc)

  -- what a new wait does to banks and shards
  joined_holds : (now old new : Parts A) (s : State) (w : ℕ) (bs : List BranchView) (y : Parked A) (x : Wait) (l l2 : LaneView A) → Stands place stands program n now s → IsPart old now → is_among x.number s.used ≡ false → x.branches ≡ bs → Joins w n x.number bs y l l2 old new
      → (whole (laid now.bank new.bank) ≡ join_all x.number x.branches (whole now.bank)) × KeepsChannels (join_all x.number x.branches (whole now.bank)) (alive (update eqb (whole now.shard) x.number (Some y))) s.channels (s.waits ++ x ∷ []) (x.number ∷ s.used)
  joined_holds now old new s w bs y x l l2 st part fresh same m = (
    same_map (whole (laid now.bank new.bank)) (join_all x.number x.branches (whole now.bank))
        (laid_joined now.bank old.bank new.bank x.number x.branches part.banks (λ i. m.banks i ∙ ap (λ (z : List BranchView). option_map (join_all x.number z) (old.bank i)) (sym same)) (λ j b e. let u = there j b e in (u.0, u.1))),
    subst (λ (f : ℕ → Bool). KeepsChannels (join_all x.number x.branches (whole now.bank)) f s.channels (s.waits ++ x ∷ []) (x.number ∷ s.used)) (sym (alive_and (whole now.shard) x.number y))
        (joins_in (whole now.bank) (alive_in now) s.channels s.waits s.used x st.holds fresh
        (λ side p none. absent side p x.number 0 x.branches (λ j b e is. let u = there j b e in let k : None ≡ Some u.0 = sym none ∙ ap (whole now.bank) (sym is) ∙ seen now.bank old.bank part.banks (port_of b) u.0 u.1 in cc))),
  ) where
    there : (j : ℕ) (b : BranchView) → slice_get x.branches j ≡ Some b → Unready old b
    there j b e = unready_at old bs j b m.unready (ap (λ (z : List BranchView). slice_get z j) (sym same) ∙ e)

  -- the worker has given one more wait number
  counted_on : (now : Parts A) (s s2 : State) (w wait t : ℕ) (l l2 : LaneView A) (x y : Task) → Stands place stands program n now s → now.lane w ≡ Some l → wait ≡ 1 + w + n * l.counts.waits
      → l2.counts ≡ record { tasks = l.counts.tasks; ports = l.counts.ports; waits = l.counts.waits + 1 } → s.tasks t ≡ Some x → s2.tasks ≡ update eqb s.tasks t (Some y) → s2.channels ≡ s.channels → s2.registries ≡ s.registries → s2.used ≡ wait ∷ s.used
      → NumbersGiven n (update eqb now.lane w (Some l2)) s2
  counted_on now s s2 w wait t l l2 x y st at next counts is tasks chans regs used = numbered_more n now.lane lane2 s s2 st.numbered
      (all_grow now.lane w l l2 at (equal_le l.counts.tasks l2.counts.tasks (ap task_count counts)) (equal_le l.counts.ports l2.counts.ports (ap port_count counts)) (one_more_le l.counts.waits l2.counts.waits (ap wait_count counts)))
      (subst (λ f. From n task_count lane2 s.tasks f) (sym tasks) (from_there n task_count lane2 s.tasks t x y is))
      (subst (λ f. From n port_count lane2 s.channels f) (sym chans) (from_same n port_count lane2 s.channels))
      (subst (λ f. From n port_count lane2 s.registries f) (sym regs) (from_same n port_count lane2 s.registries))
      (subst (λ f. UsedFrom n lane2 s.used f) (sym used) (used_next n lane2 s.used wait (given_next n wait_count now.lane w l l2 wait (st.lanes w l at).1 next (ap wait_count counts)))) where
        lane2 : ℕ → Option (LaneView A)
        lane2 = update eqb now.lane w (Some l2)

  module _ (advances : ProgramView → A → A → Type 0) (goes_on_law : GoesOn stands place advances) where
    pub park_steps : (parks_as : A → A → Type 0) → StaysPaused stands place parks_as → (now old new : Parts A) (s : State) (w t wait : ℕ) (bs : List BranchView) → Stands place stands program n now s → IsPart old now → MovesPark place advances parks_as w n t wait bs old new → Leads place stands program n (laid_parts now new) s (is_parked t wait bs)
    park_steps parks_as paused_law now old new s w t wait bs st part m = let a = m.stands in let z = stood place stands program n advances goes_on_law now old new s w t (at_op (record { op = m.op; place = m.at })) st part a in let x = z.0 in
        let q = paused_law program a.agent1 m.agent2 x.result x.body z.3 m.waits_as in
        let at_lane = part.lanes w a.lane a.lanes.was in let fresh = is_fresh now s w wait a.lane st at_lane m.joins.next in
        let y : Task = record x { mode = waiting wait } in let wt : Wait = record { number = wait; owner = Some t; branches = bs } in
        let h = joined_holds now old new s w bs (owner t m.agent2) wt a.lane a.lane2 st part fresh refl m.joins in
        let crowd : crowded s (branches_of m.op) ≡ None = ap (crowded s) m.branches_are ∙ none_crowded now old s bs (shown_by st) part m.joins.few in
        let s2 : State = record s { tasks = update eqb s.tasks t (Some y); waits = s.waits ++ wt ∷ []; used = wait ∷ s.used } in (
          s2,
          (x, m.op, (z.1, z.2, (m.at, z.5), fits s m.op (m.fit s (shows now old s (shown_by st) part)) (few_fits s m.op crowd)), m.parks_there, m.branches_are, m.no_default, none_ready now old s bs (shown_by st) part m.joins.unready, fresh, refl),
          lands place stands program n now old new s s2 w a.lane a.lane2 (join_all wait bs (whole now.bank)) (whole now.registry) (update eqb (whole now.shard) wait (Some (owner t m.agent2))) now.ready now.timers st part a.lanes a.program_stays
              h.0 (unaltered now.registry old.registry new.registry part.registries m.joins.registries) (altered now.shard old.shard new.shard wait (Some (owner t m.agent2)) part.shards m.joins.shards) (untouched now.ready old.ready new.ready part.readys m.joins.readys) (timers_as_before now old new part m.joins.timers)
              h.1 st.registered
              (parks_at place (stands program) now.lane now.ready (whole now.shard) s.tasks s.waits w t a.lane a.lane2 a.agent m.agent2 y wt st.seated at_lane a.task m.empty refl q.0 (record { op = m.op; place = m.at }, q.1 ∙ a.stood, z.5) refl (not_live_yet now s wait st fresh))
              st.clocked (counted_on now s s2 w wait t a.lane a.lane2 x y st at_lane m.joins.next m.joins.counts z.1 refl refl refl refl),
        )

    pub post_steps : (gives : A → Tree → A → Type 0) (answers_law : TakesAnswers stands place gives) (now old new : Parts A) (s : State) (w t wait p : ℕ) (v : Tree) → Stands place stands program n now s → IsPart old now → MovesPost place advances gives w n t wait p v old new → Leads place stands program n (laid_parts now new) s (posted t wait p v)
    post_steps gives answers_law now old new s w t wait p v st part m = let a = m.answers in let op = posting (port p) v in let bs : List BranchView = put_of p v ∷ [] in
        let g = went place stands program n advances goes_on_law gives answers_law now old new s w t op (bool true) st part a in let x = g.0 in let y = runs x.result g.4.0 in
        let l = a.stands.lane in let l2 = a.stands.lane2 in let at_lane = part.lanes w l a.stands.lanes.was in let fresh = is_fresh now s w wait l st at_lane m.joins.next in
        let wt : Wait = record { number = wait; owner = None; branches = bs } in
        let h = joined_holds now old new s w bs nobody wt l l2 st part fresh refl m.joins in
        let s2 : State = record s { tasks = update eqb s.tasks t (Some y); waits = s.waits ++ wt ∷ []; used = wait ∷ s.used } in (
          s2,
          (x, s2.tasks, stands_at place stands program n advances goes_on_law gives answers_law now old new s w t op (bool true) st part a g (few_fits s op (none_crowded now old s bs (shown_by st) part m.joins.few)), none_ready now old s bs (shown_by st) part m.joins.unready, fresh, (g.4.0, g.4.1, refl), refl),
          lands place stands program n now old new s s2 w l l2 (join_all wait bs (whole now.bank)) (whole now.registry) (update eqb (whole now.shard) wait (Some nobody)) now.ready now.timers st part a.stands.lanes a.stands.program_stays
              h.0 (unaltered now.registry old.registry new.registry part.registries m.joins.registries) (altered now.shard old.shard new.shard wait (Some nobody) part.shards m.joins.shards) (untouched now.ready old.ready new.ready part.readys m.joins.readys) (timers_as_before now old new part m.joins.timers)
              h.1 st.registered
              (posts_at place (stands program) (update eqb now.lane w (Some l2)) now.ready (whole now.shard) s2.tasks s.waits wt (seated_on place stands program n advances goes_on_law gives answers_law now old new s w t op (bool true) st part a g) refl (not_live_yet now s wait st fresh))
              st.clocked (counted_on now s s2 w wait t l l2 x y st at_lane m.joins.next m.joins.counts g.1 refl refl refl refl),
        )
