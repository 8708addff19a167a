-- What became of the clock over the history of a run.
use Rattle.std.proofs.Common.{◌≡◌, ◌∙◌, ℕ, List, [], ◌∷◌, ◌++◌, map, refl, sym, ap, subst, Option, Some, Bool}
use Rattle.ca_value.specs.Tree.{Tree}
use Rattle.ca_term.specs.Event.{EventView}
use Rattle.ca_term.specs.Program.{ProgramParts, ProgramView}
use Rattle.ca_term.specs.Operation.{SeedView}
use Rattle.ca_meaning.specs.Body.{At}
use Rattle.ca_meaning.specs.State.{State, opening_state}
use Rattle.ca_meaning.specs.Task.{TaskBody}
use Rattle.ca_states.specs.Code.{CodeView}
use Rattle.ca_agent.specs.Agents.{Advanced, Answered, Started}
use Rattle.ca_turns.specs.declared.rule.Turn.{Turn}
use Rattle.ca_turns.specs.declared.rule.View.{View}
use Rattle.ca_turns.specs.History.{TurnGoes, Run}
use Rattle.ca_turns.specs.Places.{write}
use Rattle.ca_turns.specs.Steps.{Sees}
use Rattle.ca_commit.specs.Agents.{TaskAgent}
use Rattle.ca_commit.specs.Contents.{Content, Parts, TimersPart}
use Rattle.ca_commit.specs.Gathered.{parts_of, pick}
use Rattle.ca_commit.specs.Moving.{visible}
use Rattle.ca_commit.specs.Opening.{unasked}
use Rattle.ca_commit.specs.Running.{contents_written}
use Rattle.ca_commit.proofs.Gathering.{parts_in, parts_laid, picks_within}
use Rattle.ca_table.specs.Draws.{drawn_apart, drawn_moves, drawn_touches, turn_view}
use Rattle.ca_table.specs.Moments.{ClockWent, StandIn, moments_told, turn_asked}
use Rattle.ca_table.specs.OneCode.{HaveCode, advances_over, gives_over, stands_over, starts_over}
use Rattle.ca_table.specs.Opening.{opening_list}
use Rattle.ca_table.specs.Running.{Knows, TableStands, contents_at, shown_by}
use Rattle.ca_table.specs.Seen.{PartSeen, content_of}
use Rattle.ca_table.specs.Worked.{fails_clock, some_turn}
use Rattle.ca_table.specs.declared.drawn.Drawn.{Drawn}
use Rattle.ca_table.proofs.ClockTurns.{Went, clock_went, turn_goes, went_both, went_still}
use Rattle.ca_table.proofs.Codes.{leaves_code}
use Rattle.ca_table.proofs.Endings.{mine, turn_held}
use Rattle.ca_table.proofs.Having.{has_within}
use Rattle.ca_table.proofs.Knowing.{opening_codes, opening_is}
use Rattle.ca_table.proofs.Moments.{moments_after, stand_after, told_among}
use Rattle.ca_table.proofs.Openings.{opening_timers}
use Rattle.ca_table.proofs.Running.{in_places, reads_at, turn_leads, written_at}

module _ {A : Type 0} (over : CodeView → A → Type 0) (place : A → At) (stands : ProgramView → A → TaskBody → Type 0) (advances : ProgramView → A → A → Type 0) (gives : A → Tree → A → Type 0) (starts : ProgramView → SeedView → A → Type 0)
    (advance_law : Advanced stands place advances) (answer_law : Answered stands place gives) (start_law : Started stands place starts) (program : ProgramView) (code : CodeView) (n : ℕ) where
  abbrev moves : Drawn → List (PartSeen A) → List (PartSeen A) → Type 0
  moves = drawn_moves over place advances gives starts

  abbrev Stand : List (PartSeen A) → State → Type 0
  Stand = TableStands place (stands_over over code stands) program n

  abbrev timers_in : List (PartSeen A) → Option TimersPart
  timers_in now = (parts_of n (contents_at now)).timers

  -- the timers of these parts, up to which the clock gave answers, with those among them that the journal tells
  abbrev WentTo : List (PartSeen A) → TimersPart → List EventView → Bool → Type 0
  WentTo now c es failed = (answers : List ℕ) × (c2 : TimersPart) × (timers_in now ≡ Some c2) × Went c c2 answers failed × StandIn (moments_told es) answers

  turn_went : (now : List (PartSeen A)) (s : State) (t : Turn (PartSeen A) Drawn) (c : TimersPart) → HaveCode code now → Stand now s → TurnGoes drawn_touches moves now t → timers_in now ≡ Some c
      → WentTo (write now (drawn_touches t.event) t.after) c (visible (turn_view t.event.what)) (fails_clock (turn_view t.event.what))
  turn_went now s t c have run g there = let what = turn_view t.event.what in let is = drawn_touches t.event in let before = map content_of t.before in let after = map content_of t.after in let all = contents_at now in
      let h = turn_held over place stands advances gives starts advance_law answer_law start_law program code n now s t have run g in let at = reads_at now is t.before g.0 in
      let old = parts_of n (pick is before) in let new = parts_of n (pick is after) in
      let r = turn_goes (parts_of n all) old new (parts_in n (pick is before) all (picks_within all is before at)) c there place (advances_over over code advances) (gives_over over code gives) (starts_over over code starts) t.event.worker n what h.1 in
      let is_laid = parts_laid n all is before after at h.0 in
      let whole : contents_at (write now is t.after) ≡ contents_written all is after = λ i k. written_at now is t.after (in_places now is t.before g.0) (drawn_apart t.event) k i in
      (turn_asked what r.0, r.1.0, ap (λ (f : ℕ → Option (Content (TaskAgent A))). (parts_of n f).timers) whole ∙ ap (λ (p : Parts (TaskAgent A)). p.timers) is_laid ∙ r.1.1, r.1.2, told_among what r.0)

  log_went : (log : List (Turn (PartSeen A) Drawn)) (now last : List (PartSeen A)) (s : State) (c : TimersPart) → HaveCode code now → Stand now s → Run drawn_touches moves now log last → timers_in now ≡ Some c
      → WentTo last c (shown_by log) (some_turn fails_clock log)
  log_went [] now last s c have run r there = ([], c, ap timers_in (sym r) ∙ there, went_still c c refl refl refl, tt)
  log_went (t ∷ ts) now last s c have run r there = let what = turn_view t.event.what in
      let a = turn_leads over place stands advances gives starts advance_law answer_law start_law program code n now s t have run r.0 in
      let f = turn_went now s t c have run r.0 there in
      let g = log_went ts (write now (drawn_touches t.event) t.after) last a.0 f.1 (leaves_code over place advances gives starts code now t have r.0) a.2 r.1 f.2 in (
        f.0 ++ g.0,
        g.1,
        g.2,
        went_both c f.1 g.1 f.0 g.0 (fails_clock what) (some_turn fails_clock ts) f.3 g.3,
        subst (λ ms. StandIn ms (f.0 ++ g.0)) (sym (moments_after (visible what) (shown_by ts))) (stand_after (moments_told (visible what)) f.0 (moments_told (shown_by ts)) g.0 f.4 g.4),
      )

  module _ (v : View (PartSeen A) Drawn) (k : Knows over stands program code n v) (log : List (Turn (PartSeen A) Drawn)) (last : List (PartSeen A)) (sees : Sees drawn_touches moves v log last) where
    -- of a hand that drew them alone, whose table was opened with this clock
    pub clock_whole : (texts : ProgramParts) (main : A) (least faults : ℕ) (readings : Option (List ℕ)) → v.opening ≡ opening_list n code texts main (unasked least faults readings)
        → (t : TimersPart) × (timers_in last ≡ Some t) × ClockWent least faults readings (shown_by log) (some_turn fails_clock v.turns) t
    clock_whole texts main least faults readings opened = let c = unasked least faults readings in
        let r = log_went log v.opening last (opening_state k.body) c (opening_codes over place stands advances gives starts advance_law answer_law start_law program code n v k) (opening_is over place stands advances gives starts advance_law answer_law start_law program code n v k) sees.run
        (ap timers_in opened ∙ opening_timers n code texts main c k.some) in
        (r.1, r.2, clock_went c r.1 (shown_by log) r.0 (some_turn fails_clock log) (some_turn fails_clock v.turns) (has_within fails_clock v.turns log (mine over place stands advances gives starts advance_law answer_law start_law program code n v k log last sees)) r.4 r.3)
