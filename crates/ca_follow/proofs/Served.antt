-- A branch that meets a wait, and a channel that settles: a wait is completed, and its owner goes on.
use Rattle.std.proofs.Common.{◌≡◌, ℕ, List, [], ◌∷◌, refl, sym, ap, ◌∙◌, subst, Bool, Option, Some, None, option_map, eqb}
use Rattle.std.specs.Map.{update}
use Rattle.std.proofs.lemmas.Map.{update_apart, update_here}
use mathlib.Core.Logic.{dite}
use native.Mathlib.Decide.{ℕ_discrete}
use Rattle.ca_value.specs.Tree.{Tree}
use Rattle.ca_term.specs.declared.event.Side.{Side}
use Rattle.ca_term.specs.declared.event.Side.TheVariants.{Put, Take}
use Rattle.ca_term.specs.Event.{BranchView, settled}
use Rattle.ca_term.specs.Operation.{SeedView}
use Rattle.ca_term.specs.Program.{ProgramView}
use Rattle.ca_meaning.specs.Body.{At}
use Rattle.ca_meaning.specs.ChannelSteps.{other_side}
use Rattle.ca_meaning.specs.Choice.{branches_of, is_ready, row}
use Rattle.ca_meaning.specs.Row.{meets, settle_row, settles}
use Rattle.ca_meaning.specs.State.{Channels, State, Tasks, runs}
use Rattle.ca_meaning.specs.Steps.{Step}
use Rattle.ca_meaning.specs.Task.{TaskBody, reply_to}
use Rattle.ca_meaning.specs.Wait.{Handler, Wait, front, is_among, port_of, side_of, told, without}
use Rattle.ca_agent.specs.Agents.{Answered}
use Rattle.ca_bank.specs.Kept.{pruned}
use Rattle.ca_commit.specs.Agents.{TaskAgent, place_of, stands_of, wakes_of}
use Rattle.ca_commit.specs.ChannelMoves.{MovesSettle}
use Rattle.ca_commit.specs.Contents.{Kept, Parked, Parts, alive, channel_of, on, put_on, whole, with_channel}
use Rattle.ca_commit.specs.Holds.{KeepsChannels}
use Rattle.ca_commit.specs.Planning.{to_meet}
use Rattle.ca_commit.specs.Replies.{GoesOn, reply_by}
use Rattle.ca_commit.specs.Settling.{value_settled}
use Rattle.ca_commit.specs.Waking.{passing}
use Rattle.ca_commit.proofs.Fitting.{ready_fits, some_ready}
use Rattle.ca_commit.proofs.Holding.{but_wait, changed, pruned as prunes, settle_right, taken_out}
use Rattle.ca_commit.proofs.Joining.{alive_but, is_dead, twice}
use Rattle.ca_commit.proofs.Meetings.{front_gone, there_is}
use Rattle.ca_commit.proofs.RowsDone.{reply_is, row_meets}
use Rattle.ca_commit.proofs.SettleMoves.{settle_moves}
use Rattle.ca_commit.proofs.Shown.{picks_in, row_seen}
use Rattle.ca_commit.proofs.Steps.{replied}
use Rattle.ca_follow.specs.Applies.{with_all}
use Rattle.ca_follow.specs.Follows.{Follows}
use Rattle.ca_follow.specs.Has.{Has, parts_had}
use Rattle.ca_follow.specs.Settles.{SettlesTo}
use Rattle.ca_follow.proofs.Altered.{whole_altered}
use Rattle.ca_follow.proofs.Changed.{part_with, whole_entered}
use Rattle.ca_follow.proofs.Going.{LeadsOn, TracksTasks, follows_by, is_part, registered_still, shown_of, stands_there, tracks_of, wakes_up, went}
use Rattle.ca_follow.proofs.Tracked.{task_goes, tracks_same}

-- a wait's handler was served: both are gone
served : {A : Type 0} (ports : ℕ → Option Kept) (parked : ℕ → Option (Parked A)) (channels : Channels) (waits : List Wait) (used : List ℕ) (side : Side) (q wait : ℕ) (kept : Kept) (g : Handler) (rest : List Handler)
    → KeepsChannels ports (alive parked) channels waits used → ports q ≡ Some kept → on side kept ≡ g ∷ rest → g.wait ≡ wait
    → KeepsChannels (update eqb ports q (Some (put_on side rest kept))) (alive (update eqb parked wait None)) channels (without wait waits) used
served ports parked channels waits used side q wait kept g rest holds there front is = subst (λ (z : ℕ → Bool). KeepsChannels (update eqb ports q (Some (put_on side rest kept))) z channels (without wait waits) used) (sym (alive_but parked wait))
    (prunes ports (but_wait (alive parked) wait) channels (without wait waits) used q kept side g rest (taken_out ports (alive parked) channels waits used wait holds) there front (is_dead (alive parked) wait g.wait (sym is)))

-- what a worker would have beside it: one ready part, with these tasks
abbrev one_ready : {A : Type 0} → List (ℕ × A) → ℕ → Option (List (ℕ × A))
one_ready q = update eqb (λ (r : ℕ). None) 0 (Some q)

abbrev with_ready : {A : Type 0} → Has A → List (ℕ × TaskAgent A) → Parts (TaskAgent A)
with_ready h q = record (parts_had h) { ready = one_ready q }

others_ready : {A : Type 0} (q r : List (ℕ × A)) (i : ℕ) → (i ≡ 0 → ⊥) → one_ready q i ≡ one_ready r i
others_ready {A} q r i ne = update_apart (λ (j : ℕ). None) 0 (Some q) i ne ∙ sym (update_apart (λ (j : ℕ). None) 0 (Some r) i ne)

same_ready : {A : Type 0} (q r : List (ℕ × A)) → one_ready q 0 ≡ one_ready r 0 → (i : ℕ) → one_ready q i ≡ one_ready r i
same_ready {A} q r e i = dite (ℕ_discrete i 0) (λ z. subst (λ (j : ℕ). one_ready q j ≡ one_ready r j) (sym z) e) (others_ready q r i)

module _ {A : Type 0} (place : A → At) (stands : ProgramView → A → TaskBody → Type 0) (program : ProgramView) where
  -- what an event leaves that completed a wait
  waking_follows : (h h2 : Has A) (s s2 : State) (wait : ℕ) (agents : ℕ → Option (TaskAgent A)) (ports : ℕ → Option Kept) → Follows place stands program h s
      → s2.waits ≡ without wait s.waits → s2.used ≡ s.used → whole h2.bank ≡ ports → whole h2.shard ≡ update eqb (whole h.shard) wait None
      → KeepsChannels ports (alive (update eqb (whole h.shard) wait None)) s2.channels (without wait s.waits) s.used → ((q : ℕ) → s2.registries q ≡ whole h2.registry q)
      → TracksTasks place stands program agents (update eqb (whole h.shard) wait None) h.known s2.tasks (without wait s.waits)
      → ((v : ℕ) → h2.running v ≡ agents v) → ((v : ℕ) → h2.known v ≡ h.known v) → ((v : ℕ) → h2.used v ≡ h.used v)
      → h2.times ≡ Some (record { deadlines = s2.deadlines; now = s2.now }) → Follows place stands program h2 s2
  waking_follows h h2 s s2 wait agents ports f waits used banks shards holds registered tracks running known taken times = follows_by place stands program h2 s2
      (subst (λ (z : ℕ → Option Kept). KeepsChannels z (alive (whole h2.shard)) s2.channels s2.waits s2.used) (sym banks)
      (subst (λ (z : ℕ → Option (Parked (TaskAgent A))). KeepsChannels ports (alive z) s2.channels s2.waits s2.used) (sym shards)
      (subst (λ (z : List Wait). KeepsChannels ports (alive (update eqb (whole h.shard) wait None)) s2.channels z s2.used) (sym waits)
      (subst (λ (z : List ℕ). KeepsChannels ports (alive (update eqb (whole h.shard) wait None)) s2.channels (without wait s.waits) z) (sym used) holds))))
      registered
      (subst (λ (z : List Wait). TracksTasks place stands program h2.running (whole h2.shard) h2.known s2.tasks z) (sym waits)
      (tracks_same (place_of place) (stands_of stands program) agents h2.running (update eqb (whole h.shard) wait None) (whole h2.shard) h.known h2.known s2.tasks (without wait s.waits)
      running (λ v. ap (λ (z : ℕ → Option (Parked (TaskAgent A))). z v) shards) known tracks))
      times (λ v. ap (λ (z : List ℕ). is_among v z) used ∙ f.used v ∙ sym (taken v))

  module _ (gives : A → Tree → A → Type 0) (answers_law : Answered stands place gives) where
    pub meet_follows : (starts : ProgramView → SeedView → A → Type 0) (k : ℕ) (b : BranchView) (alts : Bool) (wait o : ℕ) → LeadsOn place stands program gives starts (to_meet k b alts wait o)
    meet_follows starts k b alts wait o h h2 s op at t u p w m a f all is here tells new x = let q = port_of b in let opp = other_side (side_of b) in let e = tells.2 in let v = passing (whole h.bank q) b in
        let shown = shown_of place stands program h s f in let reply = told (side_of b) v in
        let answer : reply_by alts q reply ≡ reply_to op q reply = ap (λ (z : Bool). reply_by z q reply) tells.3 ∙ reply_is op q reply in
        let c = x.answered.0 in let g = went place stands program gives answers_law h s t a c alts (record { op = op; place = at }) (reply_to op q reply) is here (subst (λ (z : Tree). GoesOn gives alts a z c) answer x.answered.2) in
        let tasks : Tasks = update eqb s.tasks t (Some (runs g.0.result g.3.0)) in
        let is_row : row s b ≡ meets e.handler v = row_seen (parts_had h) (parts_had h) s b e.kept shown (is_part h) e.there e.asks ∙ e.by_row ∙ ap (meets e.handler) (sym (ap (λ (z : Option Kept). passing z b) e.there ∙ row_meets e.kept b e.handler e.value e.by_row)) in
        let picks = picks_in (parts_had h) (parts_had h) s op k b shown (is_part h) tells.1 in let held = part_with h.bank q e.kept e.there in
        let parked = there_is (whole h.shard wait) e.lives in let shard = part_with h.shard wait parked.0 parked.1 in
        let banks : whole h2.bank ≡ update eqb (whole h.bank) q (Some (put_on opp e.rest e.kept)) = whole_entered q (option_map (pruned opp 0)) h.bank h2.bank held.0 held.1 x.bank
        ∙ ap (λ (z : Option Kept). update eqb (whole h.bank) q (option_map (pruned opp 0) z)) e.there ∙ ap (λ (z : Kept). update eqb (whole h.bank) q (Some z)) (front_gone opp e.kept e.handler e.rest e.in_front) in
        let wk = wakes_up place stands program gives answers_law (update eqb h.running t (Some c)) (whole h.shard) h.known tasks s.waits wait q (told opp v) parked.0 x.woken
        (task_goes (place_of place) (stands_of stands program) h.running (whole h.shard) h.known s.tasks s.waits t g.0 c g.0.result g.3.0 (tracks_of place stands program h s f) g.1 g.3.2) parked.1 x.wakes in
        let s2 : State = record s { tasks = wk.0; waits = without wait s.waits } in (
          s2,
          (
            g.0,
            op,
            b,
            e.handler,
            tasks,
            wk.0,
            stands_there place stands program h s t op at g.0 f g.1 g.2 tells.0 (ready_fits s op (some_ready s (branches_of op) k b picks.0 (ap is_ready is_row))),
            picks,
            refl,
            refl,
            is_row,
            e.wait_is,
            e.branch_is,
            (g.3.0, replied program g.0 op at q reply g.3.0 g.2 g.3.1, refl),
            wk.1,
            refl {a = s2},
          ),
          waking_follows h h2 s s2 wait (with_all x.woken (update eqb h.running t (Some c))) (update eqb (whole h.bank) q (Some (put_on opp e.rest e.kept))) f refl refl banks (whole_entered wait (λ (z : Option (Parked (TaskAgent A))). None) h.shard h2.shard shard.0 shard.1 x.shard)
              (served (whole h.bank) (whole h.shard) s.channels s.waits s.used opp q wait e.kept e.handler e.rest f.holds e.there e.in_front e.wait_is) (registered_still place stands program h h2 s f x.registry) wk.2
              (λ n. x.running n ∙ ap (λ (z : Option (TaskAgent A)). with_all x.woken (update eqb h.running t z) n) x.answered.1) x.known x.used (x.times ∙ f.times),
        )

    -- as a worker's event, by which whoever wakes is in its ready part
    settles_moves : (h h2 : Has A) (p : ℕ) (side : Side) (w o : ℕ) (x : SettlesTo place gives p side w o h h2) → MovesSettle (place_of place) (wakes_of gives) 0 w o side p (value_settled side (whole h.bank p)) (with_ready h []) (with_ready h2 x.woken)
    settles_moves h h2 p side w o x = settle_moves place (λ q a c. Unit {0}) gives (with_ready h []) (with_ready h2 x.woken) 0 w o p side [] x.serves_it x.bank x.registry x.shard refl
        (others_ready x.woken []) (same_ready x.woken []) x.wakes (λ i. refl) refl

    pub settled_follows : (h h2 : Has A) (s : State) (p : ℕ) (side : Side) (w o : ℕ) → Follows place stands program h s → SettlesTo place gives p side w o h h2
        → (s2 : State) × Step program s (settled w o side p (value_settled side (whole h.bank p))) s2 × Follows place stands program h2 s2
    settled_follows h h2 s p side w o f x = let v = value_settled side (whole h.bank p) in let m = settles_moves h h2 p side w o x in
        let kept1 = put_on side m.rest m.kept in let kept2 = with_channel m.after kept1 in let parked2 = update eqb (whole h.shard) w None in
        let right : settle_row m.kept.channel (front Take p s.waits) (front Put p s.waits) ≡ settles side m.h v m.after = settle_right (whole h.bank) (alive (whole h.shard)) s p m.kept f.holds m.there m.asks ∙ m.by_row in
        let wk = wakes_up place stands program gives answers_law h.running (whole h.shard) h.known s.tasks s.waits w p (told side v) m.parked x.woken (tracks_of place stands program h s f) m.lives x.wakes in
        let s2 : State = record s { tasks = wk.0; channels = update eqb s.channels p (Some m.after); waits = without w s.waits } in
        let holds2 = changed (update eqb (whole h.bank) p (Some kept1)) (alive parked2) s.channels (without w s.waits) s.used p kept1 m.after
        (served (whole h.bank) (whole h.shard) s.channels s.waits s.used side p w m.kept m.h m.rest f.holds m.there m.in_front m.wait_is) (update_here (whole h.bank) p (Some kept1)) in (
          s2,
          (m.kept.channel, m.after, m.h, wk.0, f.holds.channels_are p ∙ ap channel_of m.there, right, m.wait_is, m.branch_is, wk.1, refl),
          waking_follows h h2 s s2 w (with_all x.woken h.running) (update eqb (whole h.bank) p (Some kept2)) f refl refl
              (whole_altered h.bank h2.bank p (Some kept2) m.banks) (whole_altered h.shard h2.shard w None m.shards)
              (subst (λ (z : ℕ → Option Kept). KeepsChannels z (alive parked2) s2.channels s2.waits s.used) (twice (whole h.bank) p (Some kept1) (Some kept2)) holds2)
              (registered_still place stands program h h2 s f x.registry) wk.2 x.running x.known x.used (x.times ∙ f.times),
        )
