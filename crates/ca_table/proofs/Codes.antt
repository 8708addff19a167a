-- All parts of a history have the one code that its table was opened with, and so does each event that is drawn.
use Rattle.std.proofs.Common.{◌≡◌, ◌≢◌, ◌∙◌, ⊎_elim, ℕ, zero, suc, ◌+◌, ◌<◌, ◌-◌, List, [], ◌∷◌, ◌++◌, map, replicate, set, refl, sym, ap, subst, arith, Option, Some, None, true, cond}
use Rattle.std.proofs.lemmas.Bool.{lt-ltb}
use mathlib.Core.Option as core
use lib.ListN.{get_elem?}
use Rattle.ca_value.specs.Tree.{Tree}
use Rattle.ca_term.specs.declared.event.Ending.TheVariants.{Ended, Faulted}
use Rattle.ca_term.specs.Event.{EventView, made, spawned, done, met, parked, posted, settled, defaulted, closed, registered, printed, ticked, over}
use Rattle.ca_term.specs.Operation.{SeedView}
use Rattle.ca_term.specs.Program.{ProgramParts, ProgramView}
use Rattle.ca_meaning.specs.Body.{At}
use Rattle.ca_meaning.specs.Task.{TaskBody}
use Rattle.ca_states.specs.Code.{CodeView}
use Rattle.ca_agent.specs.Agents.{Advanced, Answered, Started}
use Rattle.ca_turns.specs.declared.rule.Turn.{Turn}
use Rattle.ca_turns.specs.History.{TurnGoes, Run}
use Rattle.ca_turns.specs.Places.{ReadsPlaces, write}
use Rattle.ca_commit.specs.Agents.{TaskAgent, advances_of, place_of}
use Rattle.ca_commit.specs.Contents.{Content, Parts, TimersPart, at_key, home}
use Rattle.ca_commit.specs.Gathered.{gather, pick, parts_of}
use Rattle.ca_commit.specs.Moves.{Stood}
use Rattle.ca_commit.specs.Moving.{Moves, MovesShown, MovesTurn}
use Rattle.ca_commit.specs.Touched as said
use Rattle.ca_table.specs.Draws.{drawn_code, drawn_moves, drawn_touches, drawn_view}
use Rattle.ca_table.specs.OneCode.{HaveCode, advances_over, gives_over, stands_over, starts_over}
use Rattle.ca_table.specs.Opening.{empty_bank, empty_shard, idle_lane, main_ready, none_ready, opening_list, seen_part}
use Rattle.ca_table.specs.Seen.{PartSeen, content_of, seen_timers}
use Rattle.ca_table.specs.declared.drawn.Drawn.{Drawn}

-- the laws of agents, of those over the code
module _ {A : Type 0} (over : CodeView → A → Type 0) (code : CodeView) (place : A → At) (stands : ProgramView → A → TaskBody → Type 0) where
  pub advanced_over : (advances : ProgramView → A → A → Type 0) → Advanced stands place advances → Advanced (stands_over over code stands) place (advances_over over code advances)
  advanced_over advances law program a c b st go = let r = law program a c b st.0 go.0 in ((r.0, go.1 st.1), r.1)

  pub answered_over : (gives : A → Tree → A → Type 0) → Answered stands place gives → Answered (stands_over over code stands) place (gives_over over code gives)
  answered_over gives law program a c b w v st at_body at_op go = let r = law program a c b w v st.0 at_body at_op go.0 in (r.0, r.1, (r.2, go.1 st.1))

  pub started_over : (starts : ProgramView → SeedView → A → Type 0) → Started stands place starts → Started (stands_over over code stands) place (starts_over over code starts)
  started_over starts law program seed a go = let r = law program seed a go.0 in (r.0, r.1, (r.2, go.1))

gone : {X : Type 0} (o : Option X) (x : X) → o ≡ None → o ≡ Some x → ⊥
gone o x e f = let z : None ≡ Some x = sym e ∙ f in cc

module _ {A : Type 0} (place : A → At) (advances : ProgramView → A → A → Type 0) (gives : A → Tree → A → Type 0) (starts : ProgramView → SeedView → A → Type 0) where
  -- parts without a lane, a bank and the timers
  record Nothing (h : Parts (TaskAgent A)) : Type 0 where
    lanes : (w : ℕ) → h.lane w ≡ None
    banks : (i : ℕ) → h.bank i ≡ None
    timers : h.timers ≡ None

  module _ (w n : ℕ) (old new : Parts (TaskAgent A)) (none : Nothing old) where
    no_lane : (t : ℕ) (at : At) → Stood (place_of place) (advances_of advances) w t at old new → ⊥
    no_lane t at m = gone (old.lane w) m.lane (none.lanes w) m.lanes.was

    -- every event needs one of these
    nothing_shown : (e : EventView) → MovesShown place advances gives starts w n e old new → ⊥
    nothing_shown (made t p what moment) m = no_lane t _ m.answers.stands
    nothing_shown (spawned t u kind r) m = no_lane t _ m.answers.stands
    nothing_shown (done t k b v) m = no_lane t _ m.answers.stands
    nothing_shown (met t k side p v wait o) m = no_lane t _ m.answers.stands
    nothing_shown (parked t wait bs) m = no_lane t _ m.stands
    nothing_shown (posted t wait p v) m = no_lane t _ m.answers.stands
    nothing_shown (settled wait k side p v) m = gone (at_key (old.bank (home p)) p) m.kept (ap (λ o. at_key o p) (none.banks (home p))) m.there
    nothing_shown (defaulted t v) m = no_lane t _ m.answers.stands
    nothing_shown (closed t p) m = no_lane t _ m.answers.stands
    nothing_shown (registered t name args v) m = no_lane t _ m.acts.stands
    nothing_shown (printed t line) m = no_lane t _ m.answers.stands
    nothing_shown (ticked moment ports) m = gone old.timers m.clock none.timers m.was
    nothing_shown (over t Ended) m = no_lane t _ m.halts.stands
    nothing_shown (over t (Faulted f at r)) m = ⊎_elim (λ h. no_lane t _ h.stands) (λ k. ⊎_elim (λ h. no_lane t _ h.1.stands) (λ h. no_lane t _ h.1.stands) k) m.halts

    nothing_moves : (what : said.Turn) → what ≢ said.stalls → MovesTurn place advances gives starts w n what old new → ⊥
    nothing_moves (said.shown e) ne m = nothing_shown e m
    nothing_moves (said.picks r) ne m = gone (old.lane w) m.lane (none.lanes w) m.lanes.was
    nothing_moves said.yields ne m = gone (old.lane w) m.lane (none.lanes w) m.lanes.was
    nothing_moves (said.prunes side p wait) ne m = gone (at_key (old.bank (home p)) p) m.kept (ap (λ o. at_key o p) (none.banks (home p))) m.there
    nothing_moves said.asks_clock ne m = gone old.timers m.clock none.timers m.was
    nothing_moves said.fails ne m = gone old.timers m.clock none.timers m.was
    nothing_moves said.stops ne m = gone old.timers m.clock none.timers m.was
    nothing_moves said.halts ne m = gone old.timers m.clock none.timers m.was
    nothing_moves said.stalls ne m = ne refl

  -- one that halts where nothing can go on touches all parts
  stall_touches : (d : said.Drawn) → d.worker < d.workers → d.what ≡ said.stalls → said.touches d ≢ []
  stall_touches d lt is e = let n = d.workers in
      let f : said.wanted (λ i. true) 0 0 (suc (n + 32 + n)) ≡ [] =
      ap (said.wanted (λ i. true) 0 0) (let z : suc (n + 32 + n) ≡ n + 33 + n = omega arith in z)
      ∙ sym (ap (said.turn_touches d.worker n d.ports d.looked) is)
      ∙ sym (ap (λ b. cond b (said.turn_touches d.worker n d.ports d.looked d.what) []) (lt-ltb d.worker n lt)) ∙ e in
      absurd (let z : (0 + 0) ∷ said.wanted (λ i. true) 0 1 (n + 32 + n) ≡ [] = f in cc)

  -- every event touches a part
  pub touches_some : (d : said.Drawn) (before after : List (Content (TaskAgent A))) → Moves place advances gives starts d before after → said.touches d ≢ []
  touches_some d before after m e = nothing_moves d.worker d.workers (gather d before) (gather d after) nothing d.what (λ is. stall_touches d m.0 is e) m.2 where
    nothing : Nothing (gather d before)
    nothing = record { lanes = λ w. ap (λ is. (parts_of d.workers (pick is before)).lane w) e; banks = λ i. ap (λ is. (parts_of d.workers (pick is before)).bank i) e; timers = ap (λ is. (parts_of d.workers (pick is before)).timers) e }

module _ {X : Type 0} (P : X → Type 0) where
  abbrev Each : List X → Type 0
  Each [] = Unit {0}
  Each (x ∷ xs) = P x × Each xs

  each_at : (xs : List X) (k : ℕ) (x : X) → Each xs → get_elem? xs k ≡ core.some x → P x
  each_at [] k x h e = absurd (let q : core.none ≡ core.some x = e in cc)
  each_at (y ∷ xs) zero x h e = subst P (let q : y ≡ x = cc in q) h.0
  each_at (y ∷ xs) (suc k) x h e = each_at xs k x h.1 e

module _ {A : Type 0} (code : CodeView) where
  have_more : (ps qs : List (PartSeen A)) → HaveCode code ps → HaveCode code qs → HaveCode code (ps ++ qs)
  have_more [] qs h k = k
  have_more (p ∷ ps) qs h k = (h.0, have_more ps qs h.1 k)

  have_all : (n : ℕ) (p : PartSeen A) → p.code ≡ code → HaveCode code (replicate n p)
  have_all zero p e = tt
  have_all (suc n) p e = (e, have_all n p e)

  -- the parts that a table is opened with
  pub opening_has : (n : ℕ) (texts : ProgramParts) (main : A) (clock : TimersPart) → HaveCode code (opening_list n code texts main clock)
  opening_has n texts main clock = have_more (replicate n (idle_lane n code texts)) after_lanes (have_all n (idle_lane n code texts) refl)
      (have_more (replicate 16 (empty_bank n code)) after_banks (have_all 16 (empty_bank n code) refl)
      (have_more (replicate 16 (empty_shard n code)) after_shards (have_all 16 (empty_shard n code) refl) last)) where
        after_shards : List (PartSeen A)
        after_shards = seen_part n code (seen_timers clock) ∷ (main_ready n code main ∷ replicate (n - 1) (none_ready n code))

        after_banks : List (PartSeen A)
        after_banks = replicate 16 (empty_shard n code) ++ after_shards

        after_lanes : List (PartSeen A)
        after_lanes = replicate 16 (empty_bank n code) ++ after_banks

        last : HaveCode code after_shards
        last = (refl, (refl, have_all (n - 1) (none_ready n code) refl))

  -- what lies at a place has the code
  pub code_at : (ps : List (PartSeen A)) (i : ℕ) (p : PartSeen A) → HaveCode code ps → get_elem? ps i ≡ core.some p → p.code ≡ code
  code_at [] i p h e = absurd (let q : core.none ≡ core.some p = e in cc)
  code_at (x ∷ ps) zero p h e = ap (λ (y : PartSeen A). y.code) (sym (let q : x ≡ p = cc in q)) ∙ h.0
  code_at (x ∷ ps) (suc i) p h e = code_at ps i p h.1 e

  have_set : (ps : List (PartSeen A)) (i : ℕ) (p : PartSeen A) → HaveCode code ps → p.code ≡ code → HaveCode code (set ps i p)
  have_set [] i p h e = tt
  have_set (x ∷ ps) zero p h e = (e, h.1)
  have_set (x ∷ ps) (suc i) p h e = (h.0, have_set ps i p h.1 e)

  have_written : (ps : List (PartSeen A)) (is : List ℕ) (cs : List (PartSeen A)) → HaveCode code ps → HaveCode code cs → HaveCode code (write ps is cs)
  have_written ps [] cs h k = h
  have_written ps (i ∷ is) [] h k = h
  have_written ps (i ∷ is) (c ∷ cs) h k = have_written (set ps i c) is cs (have_set ps i c h k.0) k.1

  -- what is found there has the code, so one that all of it has is that
  same_code : (now : List (PartSeen A)) (is : List ℕ) (cs : List (PartSeen A)) (other : CodeView) → is ≢ [] → ReadsPlaces now is cs → HaveCode code now → HaveCode other cs → other ≡ code
  same_code now [] cs other ne r h k = absurd (ne refl)
  same_code now (i ∷ is) [] other ne r h k = absurd r
  same_code now (i ∷ is) (c ∷ cs) other ne r h k = sym k.0 ∙ code_at now i c h r.0

-- so each drawn event has the code of the parts, and leaves them with it
module _ {A : Type 0} (over : CodeView → A → Type 0) (place : A → At) (advances : ProgramView → A → A → Type 0) (gives : A → Tree → A → Type 0) (starts : ProgramView → SeedView → A → Type 0) (code : CodeView) where
  abbrev moves : Drawn → List (PartSeen A) → List (PartSeen A) → Type 0
  moves = drawn_moves over place advances gives starts

  -- the turn's event has the code
  abbrev IsDrawnOver : Turn (PartSeen A) Drawn → Type 0
  IsDrawnOver t = drawn_code t.event ≡ code

  pub drawn_has : (now : List (PartSeen A)) (t : Turn (PartSeen A) Drawn) → HaveCode code now → TurnGoes drawn_touches moves now t → drawn_code t.event ≡ code
  drawn_has now t h g = let d = t.event in let K = drawn_code d in
      same_code code now (drawn_touches d) t.before K (touches_some place (advances_over over K advances) (gives_over over K gives) (starts_over over K starts) (drawn_view d) (map content_of t.before) (map content_of t.after) g.1.1) g.0 h g.1.0.0

  pub leaves_code : (now : List (PartSeen A)) (t : Turn (PartSeen A) Drawn) → HaveCode code now → TurnGoes drawn_touches moves now t → HaveCode code (write now (drawn_touches t.event) t.after)
  leaves_code now t h g = have_written code now (drawn_touches t.event) t.after h (subst (λ K. HaveCode K t.after) (drawn_has now t h g) g.1.0.1)

  -- all parts of a history
  pub run_has : (log : List (Turn (PartSeen A) Drawn)) (now last : List (PartSeen A)) → HaveCode code now → Run drawn_touches moves now log last → HaveCode code last
  run_has [] now last h r = subst (HaveCode code) r h
  run_has (t ∷ ts) now last h r = run_has ts (write now (drawn_touches t.event) t.after) last (leaves_code now t h r.0) r.1

  each_drawn : (log : List (Turn (PartSeen A) Drawn)) (now last : List (PartSeen A)) → HaveCode code now → Run drawn_touches moves now log last → Each IsDrawnOver log
  each_drawn [] now last h r = tt
  each_drawn (t ∷ ts) now last h r = (drawn_has now t h r.0, each_drawn ts (write now (drawn_touches t.event) t.after) last (leaves_code now t h r.0) r.1)

  -- and each event that was drawn in it
  pub run_drawn : (log : List (Turn (PartSeen A) Drawn)) (now last : List (PartSeen A)) (k : ℕ) (t : Turn (PartSeen A) Drawn) → HaveCode code now → Run drawn_touches moves now log last → get_elem? log k ≡ core.some t → drawn_code t.event ≡ code
  run_drawn log now last k t h r e = each_at IsDrawnOver log k t (each_drawn log now last h r) e
