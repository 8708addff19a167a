-- The theorem of locality, over all contents of a run.
use Rattle.std.proofs.Common.{⊎_elim, ◌≡◌, ℕ, suc, ◌<◌, ◌+◌, List, [], ◌∷◌, refl, sym, ap, ◌∙◌, subst, arith, Bool, true, false, cond, Option, Some, None}
use Rattle.std.proofs.lemmas.Bool.{lt-ltb}
use Rattle.ca_value.specs.Tree.{Tree}
use Rattle.ca_term.specs.declared.event.Ending.TheVariants.{Ended, Faulted}
use Rattle.ca_term.specs.Program.{ProgramView}
use Rattle.ca_term.specs.Operation.{SeedView}
use Rattle.ca_term.specs.Event.{EventView, made, spawned, done, met, parked, posted, settled, defaulted, closed, registered, printed, ticked, over}
use Rattle.ca_meaning.specs.Body.{At}
use Rattle.ca_meaning.specs.Task.{TaskBody}
use Rattle.ca_meaning.specs.State.{State}
use Rattle.ca_meaning.specs.EndsLaw.{IsQuiet}
use Rattle.ca_meaning.specs.Steps.{Steps}
use Rattle.ca_agent.specs.Agents.{Advanced, Answered, Started}
use Rattle.ca_commit.specs.Agents.{TaskAgent, advances_of, place_of, stands_of}
use Rattle.ca_commit.specs.Contents.{Content, Parts, at_key, home}
use Rattle.ca_commit.specs.Gathered.{AllAlike, kind_at, kind_of_part, parts_of, pick}
use Rattle.ca_commit.specs.Moves.{Stood}
use Rattle.ca_commit.specs.Moving.{Moves, MovesShown, MovesTurn, visible}
use Rattle.ca_commit.specs.Running.{AllPlaced, AreAt, RunStands, contents_written}
use Rattle.ca_commit.specs.SilentMoves.{MovesStall}
use Rattle.ca_commit.specs.Stands.{Stands}
use Rattle.ca_commit.specs.Touched.{Drawn, Turn, asks_clock, fails, halts, picks, prunes, shown, stalls, stops, touches, turn_touches, wanted, yields}
use Rattle.ca_commit.proofs.Gathering.{kinds_stay, none_more, parts_in, parts_laid, picks_within, stay_there}
use Rattle.ca_commit.proofs.Leading.{turn_leads}
use Rattle.ca_commit.proofs.Placing.{all_laid, all_within, turn_placed}
use Rattle.ca_commit.proofs.Quiet.{quiet}

gone : {G X : Type 0} (o : Option X) (x : X) → o ≡ None → o ≡ Some x → G
gone o x e f = absurd (let z : None ≡ Some x = sym e ∙ f in cc)

no_entry : {G X : Type 0} (o : Option (ℕ → Option X)) (k : ℕ) (x : X) → o ≡ None → at_key o k ≡ Some x → G
no_entry o k x e f = gone (at_key o k) x (ap (λ z. at_key z k) e) f

-- where nothing can go on, all parts are touched, and there are some
not_empty : (n : ℕ) (t : ℕ → Bool) → ((i : ℕ) → t i ≡ true) → wanted t 0 0 (n + 33 + n) ≡ [] → ⊥
not_empty n t all e = let f : wanted t 0 0 (suc (n + 32 + n)) ≡ [] = subst (λ k. wanted t 0 0 k ≡ []) (let z : n + 33 + n ≡ suc (n + 32 + n) = omega arith in z) e in
    by (t 0) (all 0) f where
      by : (b : Bool) → b ≡ true → cond b ((0 + 0) ∷ wanted t 0 1 (n + 32 + n)) (wanted t 0 1 (n + 32 + n)) ≡ [] → ⊥
      by true is f = let z : (0 + 0) ∷ wanted t 0 1 (n + 32 + n) ≡ [] = f in absurd cc
      by false is f = let z : false ≡ true = is in absurd cc

stall_touches : (d : Drawn) → d.worker < d.workers → d.what ≡ stalls → touches d ≡ [] → ⊥
stall_touches d lt is e = not_empty d.workers (λ i. true) (λ i. refl) (sym (ap (turn_touches d.worker d.workers d.ports d.looked) is) ∙ sym (ap (λ b. cond b (turn_touches d.worker d.workers d.ports d.looked d.what) []) (lt-ltb d.worker d.workers lt)) ∙ e)

module _ {A : Type 0} (place : A → At) (stands : ProgramView → A → TaskBody → Type 0) (advances : ProgramView → A → A → Type 0) (gives : A → Tree → A → Type 0) (starts : ProgramView → SeedView → A → Type 0) where
  -- parts without a lane, a shard and the timers
  record Nothing (h : Parts (TaskAgent A)) : Type 0 where
    lanes : (w : ℕ) → h.lane w ≡ None
    shards : (i : ℕ) → h.shard i ≡ None
    timers : h.timers ≡ None

  no_lane_moves : {G : Type 0} (w t : ℕ) (at : At) (h new : Parts (TaskAgent A)) → Nothing h → Stood (place_of place) (advances_of advances) w t at h new → G
  no_lane_moves w t at h new e m = gone (h.lane w) m.lane (e.lanes w) m.lanes.was

  -- every event needs one of these
  nothing_shown : {G : Type 0} (w n : ℕ) (e : EventView) (h new : Parts (TaskAgent A)) → Nothing h → MovesShown place advances gives starts w n e h new → G
  nothing_shown w n (made t p what moment) h new e m = no_lane_moves w t _ h new e m.answers.stands
  nothing_shown w n (spawned t u kind r) h new e m = no_lane_moves w t _ h new e m.answers.stands
  nothing_shown w n (done t k b v) h new e m = no_lane_moves w t _ h new e m.answers.stands
  nothing_shown w n (met t k side p v wait o) h new e m = no_lane_moves w t _ h new e m.answers.stands
  nothing_shown w n (parked t wait bs) h new e m = no_lane_moves w t _ h new e m.stands
  nothing_shown w n (posted t wait p v) h new e m = no_lane_moves w t _ h new e m.answers.stands
  nothing_shown w n (settled wait k side p v) h new e m = no_entry (h.shard (home wait)) wait m.parked (e.shards (home wait)) m.lives
  nothing_shown w n (defaulted t v) h new e m = no_lane_moves w t _ h new e m.answers.stands
  nothing_shown w n (closed t p) h new e m = no_lane_moves w t _ h new e m.answers.stands
  nothing_shown w n (registered t name args v) h new e m = no_lane_moves w t _ h new e m.acts.stands
  nothing_shown w n (printed t line) h new e m = no_lane_moves w t _ h new e m.answers.stands
  nothing_shown w n (ticked moment ports) h new e m = gone h.timers m.clock e.timers m.was
  nothing_shown w n (over t Ended) h new e m = no_lane_moves w t _ h new e m.halts.stands
  nothing_shown w n (over t (Faulted f at r)) h new e m = ⊎_elim (λ k. no_lane_moves w t _ h new e k.stands) (λ k. ⊎_elim (λ j. no_lane_moves w t _ h new e j.1.stands) (λ j. no_lane_moves w t _ h new e j.1.stands) k) m.halts

  nothing_moves : {G : Type 0} (w n : ℕ) (what : Turn) (h new : Parts (TaskAgent A)) → (what ≡ stalls → ⊥) → Nothing h → MovesTurn place advances gives starts w n what h new → G
  nothing_moves w n (shown x) h new ne e m = nothing_shown w n x h new e m
  nothing_moves w n (picks r) h new ne e m = gone (h.lane w) m.lane (e.lanes w) m.lanes.was
  nothing_moves w n yields h new ne e m = gone (h.lane w) m.lane (e.lanes w) m.lanes.was
  nothing_moves w n (prunes side p wait) h new ne e m = gone (h.shard (home m.h.wait)) m.from (e.shards (home m.h.wait)) m.shard
  nothing_moves w n asks_clock h new ne e m = gone h.timers m.clock e.timers m.was
  nothing_moves w n fails h new ne e m = gone h.timers m.clock e.timers m.was
  nothing_moves w n stops h new ne e m = gone h.timers m.clock e.timers m.was
  nothing_moves w n halts h new ne e m = gone h.timers m.clock e.timers m.was
  nothing_moves w n stalls h new ne e m = absurd (ne refl)

  -- the event's number of workers is that of the run: the parts that it touches tell it
  tied : (n k w : ℕ) (what : Turn) (now : ℕ → Option (Content (TaskAgent A))) (is : List ℕ) (before after : List (Content (TaskAgent A))) → ((i : ℕ) (c : Content (TaskAgent A)) → now i ≡ Some c → (c.workers ≡ n) × (kind_of_part c.held ≡ kind_at n i))
      → (what ≡ stalls → is ≡ [] → ⊥) → AreAt now is before → AllAlike k before after → MovesTurn place advances gives starts w k what (parts_of k (pick is before)) (parts_of k (pick is after)) → k ≡ n
  tied n k w what now [] before after kinds all at alike m = nothing_moves w k what (parts_of k (pick [] before)) (parts_of k (pick [] after)) (λ e. all e refl) (record { lanes = λ w. refl; shards = λ i. refl; timers = refl }) m
  tied n k w what now (i ∷ is) [] after kinds all at alike m = absurd at
  tied n k w what now (i ∷ is) (b ∷ before) [] kinds all at alike m = absurd alike
  tied n k w what now (i ∷ is) (b ∷ before) (c ∷ after) kinds all at alike m = sym alike.0.0 ∙ (kinds i b at.0).0

  pub stalled : (program : ProgramView) (n : ℕ) (d : Drawn) (now : ℕ → Option (Content (TaskAgent A))) (before after : List (Content (TaskAgent A))) (s : State) → RunStands place stands program n now s → AreAt now (touches d) before → Moves place advances gives starts d before after
      → d.what ≡ stalls → IsQuiet s
  stalled program n d now before after s run at m is = quiet place stands program n d.worker d.ports d.looked now before after s run
      (subst (λ ts. AreAt now ts before) all at) (subst (λ ts. MovesStall (parts_of n (pick ts before)) (parts_of n (pick ts after))) all
      (subst (λ what. MovesTurn place advances gives starts d.worker n what (parts_of n (pick (touches d) before)) (parts_of n (pick (touches d) after))) is
      (subst (λ k. MovesTurn place advances gives starts d.worker k d.what (parts_of k (pick (touches d) before)) (parts_of k (pick (touches d) after))) e m.2))) where
        e : d.workers ≡ n
        e = tied n d.workers d.worker d.what now (touches d) before after run.kinds (stall_touches d m.0) at m.1 m.2

        all : touches d ≡ turn_touches d.worker n d.ports d.looked stalls
        all = ap (λ b. cond b (turn_touches d.worker d.workers d.ports d.looked d.what) []) (lt-ltb d.worker d.workers m.0) ∙ ap (turn_touches d.worker d.workers d.ports d.looked) is ∙ ap (λ k. turn_touches d.worker k d.ports d.looked stalls) e

  module _ (advance_law : Advanced stands place advances) (answer_law : Answered stands place gives) (start_law : Started stands place starts) where
    leads_on : (program : ProgramView) (n w : ℕ) (what : Turn) (now : ℕ → Option (Content (TaskAgent A))) (is : List ℕ) (before after : List (Content (TaskAgent A))) (s : State) → RunStands place stands program n now s → AreAt now is before
        → AllAlike n before after → MovesTurn place advances gives starts w n what (parts_of n (pick is before)) (parts_of n (pick is after)) → (s2 : State) × Steps program s (visible what) s2 × RunStands place stands program n (contents_written now is after) s2
    leads_on program n w what now is before after s run at alike m =
        let k = turn_leads place stands advances gives starts advance_law answer_law start_law program n (parts_of n now) (parts_of n (pick is before)) (parts_of n (pick is after)) s w what run.stand (parts_in n (pick is before) now (picks_within now is before at)) m in (
          k.0,
          k.1,
          record {
            there = λ i lt. stay_there now is after i (run.there i lt);
            no_more = λ i c e. none_more n n now is before after at alike run.no_more i c e;
            kinds = λ i c e. kinds_stay n now is before after at alike run.kinds i c e;
            placed = subst (λ (h : Parts (TaskAgent A)). AllPlaced h) (sym (parts_laid n now is before after at alike)) (all_laid (parts_of n now) (parts_of n (pick is after)) run.placed
                (turn_placed place advances gives starts (parts_of n (pick is before)) (parts_of n (pick is after)) w n what (all_within (parts_of n (pick is before)) (parts_of n now) (parts_in n (pick is before) now (picks_within now is before at)) run.placed) m));
            stand = subst (λ (h : Parts (TaskAgent A)). Stands (place_of place) (stands_of stands) program n h k.0) (sym (parts_laid n now is before after at alike)) k.2;
          },
        )

    pub locality : (program : ProgramView) (n : ℕ) (d : Drawn) (now : ℕ → Option (Content (TaskAgent A))) (before after : List (Content (TaskAgent A))) (s : State) → RunStands place stands program n now s → AreAt now (touches d) before → Moves place advances gives starts d before after
        → (s2 : State) × Steps program s (visible d.what) s2 × RunStands place stands program n (contents_written now (touches d) after) s2
    locality program n d now before after s run at m = let is = touches d in let e = tied n d.workers d.worker d.what now is before after run.kinds (stall_touches d m.0) at m.1 m.2 in
        leads_on program n d.worker d.what now is before after s run at (subst (λ k. AllAlike k before after) e m.1) (subst (λ k. MovesTurn place advances gives starts d.worker k d.what (parts_of k (pick is before)) (parts_of k (pick is after))) e m.2)
