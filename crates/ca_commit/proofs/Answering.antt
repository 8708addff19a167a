-- Events of one task that goes on with an answer: from what became of each map to a step's result.
use Rattle.std.proofs.Common.{◌≡◌, ℕ, sym, ◌∙◌, subst, Option, Some, None, eqb}
use Rattle.std.specs.Map.{update}
use Rattle.ca_value.specs.Tree.{Tree}
use Rattle.ca_term.specs.Program.{ProgramView}
use Rattle.ca_term.specs.Operation.{OpView}
use Rattle.ca_meaning.specs.Body.{At}
use Rattle.ca_meaning.specs.Registry.{Registry}
use Rattle.ca_meaning.specs.Task.{TaskBody}
use Rattle.ca_meaning.specs.Refusal.{too_many}
use Rattle.ca_meaning.specs.State.{State, runs}
use Rattle.ca_meaning.specs.Going.{RunsAtOperation as StandsAt}
use Rattle.ca_commit.specs.Contents.{Kept, LaneView, Parts, alive_in, whole}
use Rattle.ca_commit.specs.Holds.{KeepsChannels}
use Rattle.ca_commit.specs.Moves.{Answers, Stays}
use Rattle.ca_commit.specs.Seated.{Seated}
use Rattle.ca_commit.specs.Stands.{Stands, port_count, task_count}
use Rattle.ca_commit.proofs.AgentLaws.{GoesOn, TakesAnswers}
use Rattle.ca_commit.proofs.Fitting.{fits}
use Rattle.ca_commit.proofs.Laid.{IsPart, laid, laid_parts, untouched}
use Rattle.ca_commit.proofs.Landing.{lands, timers_as_before, unaltered}
use Rattle.ca_commit.proofs.Numbers.{From, UsedFrom, from_there, numbered_more, same_grow, used_same}
use Rattle.ca_commit.proofs.Shown.{shown_by, shows}
use Rattle.ca_commit.proofs.Steps.{WentTask, seated_on}

module _ {A : Type 0} (place : A → At) (stands : ProgramView → A → Option ℕ → TaskBody → Type 0) (program : ProgramView) (n : ℕ)
    (advances : ProgramView → A → A → Type 0) (goes_on_law : GoesOn stands place advances) (gives : A → Tree → A → Type 0) (answers_law : TakesAnswers stands place gives) where
  -- what an event of a task leaves, where the ready parts and the timers stay and the lane gave no number
  pub goes_to : (now old new : Parts A) (s s2 : State) (w t : ℕ) (op : OpView) (v : Tree) (ports : ℕ → Option Kept) (registries : ℕ → Option Registry)
      → (st : Stands place stands program n now s) → (part : IsPart old now) → (a : Answers place advances gives w t op v old new) → (g : WentTask place stands program n advances goes_on_law gives answers_law s.tasks t op a.at v a.agent2)
      → a.stands.lane2.counts ≡ a.stands.lane.counts → s2.tasks ≡ update eqb s.tasks t (Some (runs g.0.result g.4.0)) → s2.waits ≡ s.waits → s2.used ≡ s.used → s2.deadlines ≡ s.deadlines → s2.now ≡ s.now
      → whole (laid now.bank new.bank) ≡ ports → whole (laid now.registry new.registry) ≡ registries → Stays old.shard new.shard → Stays old.ready new.ready → new.timers ≡ old.timers
      → KeepsChannels ports (alive_in now) s2.channels s.waits s.used → ((p : ℕ) → s2.registries p ≡ registries p)
      → From n port_count (update eqb now.lane w (Some a.stands.lane2)) s.channels s2.channels → From n port_count (update eqb now.lane w (Some a.stands.lane2)) s.registries s2.registries
      → Stands place stands program n (laid_parts now new) s2
  goes_to now old new s s2 w t op v ports registries st part a g counts tasks waits used deadlines moment banks regs shards readys clock holds registered chans rs =
      lands place stands program n now old new s s2 w l l2 ports registries (whole now.shard) now.ready now.timers st part a.stands.lanes a.stands.program_stays banks regs
      (unaltered now.shard old.shard new.shard part.shards shards) (untouched now.ready old.ready new.ready part.readys readys) (timers_as_before now old new part clock)
      (subst (λ ws. KeepsChannels ports (alive_in now) s2.channels ws s2.used) (sym waits) (subst (λ us. KeepsChannels ports (alive_in now) s2.channels s.waits us) (sym used) holds)) registered
      (subst (λ ws. Seated place (stands program) lane2 now.ready (whole now.shard) s2.tasks ws) (sym waits) (subst (λ ts. Seated place (stands program) lane2 now.ready (whole now.shard) ts s.waits) (sym tasks)
      (seated_on place stands program n advances goes_on_law gives answers_law now old new s w t op v st part a g)))
      (λ c e. let k = st.clocked c e in (k.0 ∙ sym deadlines, k.1 ∙ sym moment, k.2))
      (numbered_more n now.lane lane2 s s2 st.numbered (same_grow now.lane w l l2 at counts)
      (subst (λ ts. From n task_count lane2 s.tasks ts) (sym tasks) (from_there n task_count lane2 s.tasks t g.0 (runs g.0.result g.4.0) g.1)) chans rs
      (subst (λ us. UsedFrom n lane2 s.used us) (sym used) (used_same n lane2 s.used))) where
        l : LaneView A
        l = a.stands.lane

        l2 : LaneView A
        l2 = a.stands.lane2

        at : now.lane w ≡ Some l
        at = part.lanes w l a.stands.lanes.was

        lane2 : ℕ → Option (LaneView A)
        lane2 = update eqb now.lane w (Some l2)

  -- it stands at its operation in the state, and isn't refused there
  pub stands_at : (now old new : Parts A) (s : State) (w t : ℕ) (op : OpView) (v : Tree) (st : Stands place stands program n now s) (part : IsPart old now) (a : Answers place advances gives w t op v old new)
      → (g : WentTask place stands program n advances goes_on_law gives answers_law s.tasks t op a.at v a.agent2) → too_many s op ≡ None → StandsAt s t op g.0
  stands_at now old new s w t op v st part a g few = (g.1, g.2, (a.at, g.3), fits s op (a.fit s (shows now old s (shown_by st) part)) few)
