-- How the history of a run ends: where a worker found that nothing can go on, the state is quiet, and a mark that
-- workers obeyed was set.
use Rattle.std.proofs.Common.{◌≡◌, ◌≢◌, ◌∙◌, ⊎_elim, ℕ, ◌+◌, List, [], ◌∷◌, ◌++◌, map, refl, sym, subst, Option, Some, Bool, true, false}
use Rattle.std.specs.Prelude.{nat_lt}
use Rattle.ca_value.specs.Tree.{Tree}
use Rattle.ca_term.specs.Event.{EventView}
use Rattle.ca_term.specs.Program.{ProgramView, program_view}
use Rattle.ca_term.specs.Operation.{SeedView}
use Rattle.ca_meaning.specs.Body.{At}
use Rattle.ca_meaning.specs.EndsLaw.{IsQuiet}
use Rattle.ca_meaning.specs.Legal.{Reaches}
use Rattle.ca_meaning.specs.State.{State, opening_state}
use Rattle.ca_meaning.specs.Steps.{Steps}
use Rattle.ca_meaning.specs.Task.{TaskBody}
use Rattle.ca_meaning.proofs.Possible.{quiet_stuck}
use Rattle.ca_states.specs.Code.{CodeView}
use Rattle.ca_agent.specs.Agents.{Advanced, Answered, Started}
use Rattle.ca_turns.specs.declared.rule.Turn.{Turn}
use Rattle.ca_turns.specs.declared.rule.View.{View}
use Rattle.ca_turns.specs.History.{TurnGoes, Run}
use Rattle.ca_turns.specs.Places.{write}
use Rattle.ca_turns.specs.Steps.{IsWhole, Sees}
use Rattle.ca_commit.specs.Agents.{TaskAgent}
use Rattle.ca_commit.specs.Contents.{Content, Parts}
use Rattle.ca_commit.specs.Gathered.{AllAlike, kind_at, kind_of_part, parts_of, pick}
use Rattle.ca_commit.specs.Moving.{Moves, MovesTurn, visible}
use Rattle.ca_commit.specs.Opening.{unasked}
use Rattle.ca_commit.specs.Running.{AreAt, contents_written}
use Rattle.ca_commit.specs.Touched as said
use Rattle.ca_commit.proofs.Gathering.{parts_in, parts_laid, picks_within}
use Rattle.ca_commit.proofs.Locality.{stalled}
use Rattle.ca_table.specs.Draws.{drawn_apart, drawn_moves, drawn_touches, drawn_view, turn_view}
use Rattle.ca_table.specs.Members.{In}
use Rattle.ca_table.specs.OneCode.{HaveCode, advances_over, gives_over, stands_over, starts_over}
use Rattle.ca_table.specs.Running.{Knows, TableStands, contents_at, shown_by}
use Rattle.ca_table.specs.Seen.{PartSeen, content_of}
use Rattle.ca_table.specs.Worked.{HasMainEnd, ends_main, gives_up, some_turn, obeys_mark, stays_stuck}
use Rattle.ca_table.specs.declared.drawn.Drawn.{Drawn}
use Rattle.ca_table.proofs.Codes.{drawn_has, leaves_code, touches_some}
use Rattle.ca_table.proofs.Gathers.{at_in, in_at}
use Rattle.ca_table.proofs.Having.{both_false, either_true, first_true, has_within, is_halt, is_stall, main_shown, none_within, second_true}
use Rattle.ca_table.proofs.Knowing.{opening_codes, opening_is}
use Rattle.ca_table.proofs.Marks.{Unmarked, turn_keeps, unmarked_laid, unmarked_opening}
use Rattle.ca_table.proofs.Openings.{opens}
use Rattle.ca_table.proofs.Running.{in_places, reads_at, steps_after, turn_leads, written_at}

-- no event leads on from a quiet state
quiet_ends : (program : ProgramView) (es : List EventView) (s s2 : State) → IsQuiet s → Steps program s es s2 → s2 ≡ s
quiet_ends program [] s s2 q steps = steps
quiet_ends program (e ∷ es) s s2 q steps = absurd (quiet_stuck program s steps.0 e q steps.1)

module _ {A : Type 0} where
  -- the touched parts tell how many workers there are
  workers_are : (n k : ℕ) (now : ℕ → Option (Content (TaskAgent A))) (is : List ℕ) (before after : List (Content (TaskAgent A))) → is ≢ [] → AreAt now is before → AllAlike k before after
      → ((i : ℕ) (c : Content (TaskAgent A)) → now i ≡ Some c → (c.workers ≡ n) × (kind_of_part c.held ≡ kind_at n i)) → k ≡ n
  workers_are n k now [] before after some at alike kinds = absurd (some refl)
  workers_are n k now (i ∷ is) [] after some at alike kinds = absurd at
  workers_are n k now (i ∷ is) (b ∷ before) [] some at alike kinds = absurd alike
  workers_are n k now (i ∷ is) (b ∷ before) (c ∷ after) some at alike kinds = sym alike.0.0 ∙ (kinds i b at.0).0

module _ {A : Type 0} (over : CodeView → A → Type 0) (place : A → At) (stands : ProgramView → A → TaskBody → Type 0) (advances : ProgramView → A → A → Type 0) (gives : A → Tree → A → Type 0) (starts : ProgramView → SeedView → A → Type 0)
    (advance_law : Advanced stands place advances) (answer_law : Answered stands place gives) (start_law : Started stands place starts) (program : ProgramView) (code : CodeView) (n : ℕ) where
  abbrev moves : Drawn → List (PartSeen A) → List (PartSeen A) → Type 0
  moves = drawn_moves over place advances gives starts

  abbrev Stand : List (PartSeen A) → State → Type 0
  Stand = TableStands place (stands_over over code stands) program n

  abbrev adv : ProgramView → A → A → Type 0
  adv = advances_over over code advances

  abbrev giv : A → Tree → A → Type 0
  giv = gives_over over code gives

  abbrev sta : ProgramView → SeedView → A → Type 0
  sta = starts_over over code starts

  -- a turn's event moves its parts, with the agents over the run's code
  turn_moves : (now : List (PartSeen A)) (t : Turn (PartSeen A) Drawn) → HaveCode code now → TurnGoes drawn_touches moves now t → Moves place adv giv sta (drawn_view t.event) (map content_of t.before) (map content_of t.after)
  turn_moves now t have g = subst (λ K. Moves place (advances_over over K advances) (gives_over over K gives) (starts_over over K starts) (drawn_view t.event) (map content_of t.before) (map content_of t.after)) (drawn_has over place advances gives starts code now t have g) g.1.1

  -- the state that a history leads to is quiet where some worker stalled
  pub leads_to : (log : List (Turn (PartSeen A) Drawn)) (now last : List (PartSeen A)) (s : State) → HaveCode code now → Stand now s → Run drawn_touches moves now log last
      → (s2 : State) × Steps program s (shown_by log) s2 × Stand last s2 × (some_turn stays_stuck log ≡ true → IsQuiet s2)
  leads_to [] now last s have run r = (s, refl, subst (λ (l : List (PartSeen A)). Stand l s) r run, λ e. absurd (let z : false ≡ true = e in cc))
  leads_to (t ∷ ts) now last s have run r =
      let a = turn_leads over place stands advances gives starts advance_law answer_law start_law program code n now s t have run r.0 in
      let b = leads_to ts (write now (drawn_touches t.event) t.after) last a.0 (leaves_code over place advances gives starts code now t have r.0) a.2 r.1 in
      let all = steps_after program (visible (turn_view t.event.what)) (shown_by ts) s a.0 b.0 a.1 b.1 in
      let found : stays_stuck (turn_view t.event.what) ≡ true → IsQuiet s = λ e. stalled place (stands_over over code stands) adv giv sta program n (drawn_view t.event) (contents_at now) (map content_of t.before) (map content_of t.after) s run (reads_at now (drawn_touches t.event) t.before r.0.0) (turn_moves now t have r.0) (is_stall (turn_view t.event.what) e) in
      (b.0, all, b.2, λ e. ⊎_elim (λ here. subst IsQuiet (sym (quiet_ends program (visible (turn_view t.event.what) ++ shown_by ts) s b.0 (found here) all)) (found here)) b.3 (either_true (stays_stuck (turn_view t.event.what)) (some_turn stays_stuck ts) e))

  -- the timers of the table aren't marked
  abbrev pub IsUnmarked : List (PartSeen A) → Type 0
  IsUnmarked now = Unmarked (parts_of n (contents_at now)).timers

  -- what a turn does to the held parts
  pub turn_held : (now : List (PartSeen A)) (s : State) (t : Turn (PartSeen A) Drawn) → HaveCode code now → Stand now s → TurnGoes drawn_touches moves now t
      → AllAlike n (map content_of t.before) (map content_of t.after) × MovesTurn place adv giv sta t.event.worker n (turn_view t.event.what) (parts_of n (pick (drawn_touches t.event) (map content_of t.before))) (parts_of n (pick (drawn_touches t.event) (map content_of t.after)))
  turn_held now s t have run g = let d = drawn_view t.event in let before = map content_of t.before in let after = map content_of t.after in let m = turn_moves now t have g in
      let e = workers_are n d.workers (contents_at now) (said.touches d) before after (touches_some place adv giv sta d before after m) (reads_at now (drawn_touches t.event) t.before g.0) m.1 run.kinds in
      (subst (λ k. AllAlike k before after) e m.1, subst (λ k. MovesTurn place adv giv sta d.worker k d.what (parts_of k (pick (said.touches d) before)) (parts_of k (pick (said.touches d) after))) e m.2)

  turn_unmarked : (now : List (PartSeen A)) (s : State) (t : Turn (PartSeen A) Drawn) → HaveCode code now → Stand now s → TurnGoes drawn_touches moves now t → IsUnmarked now
      → ends_main (turn_view t.event.what) ≡ false → gives_up (turn_view t.event.what) ≡ false → IsUnmarked (write now (drawn_touches t.event) t.after)
  turn_unmarked now s t have run g none goes kept = let is = drawn_touches t.event in let before = map content_of t.before in let after = map content_of t.after in let all = contents_at now in
      let h = turn_held now s t have run g in let at = reads_at now is t.before g.0 in
      let old = parts_of n (pick is before) in let new = parts_of n (pick is after) in
      let keeps = turn_keeps place adv giv sta t.event.worker n old new (turn_view t.event.what) goes kept h.1 in
      let within = parts_in n (pick is before) all (picks_within all is before at) in
      let laid = unmarked_laid old.timers new.timers (parts_of n all).timers within.clocks keeps none in
      let is_laid = parts_laid n all is before after at h.0 in
      let whole : contents_at (write now is t.after) ≡ contents_written all is after = λ i k. written_at now is t.after (in_places now is t.before g.0) (drawn_apart t.event) k i in
      subst (λ (f : ℕ → Option (Content (TaskAgent A))). Unmarked (parts_of n f).timers) (sym whole) (subst (λ (p : Parts (TaskAgent A)). Unmarked p.timers) (sym is_laid) laid)

  turn_marked : {G : Type 0} (now : List (PartSeen A)) (s : State) (t : Turn (PartSeen A) Drawn) → HaveCode code now → Stand now s → TurnGoes drawn_touches moves now t → IsUnmarked now → obeys_mark (turn_view t.event.what) ≡ true → G
  turn_marked {G} now s t have run g none e = let is = drawn_touches t.event in let before = map content_of t.before in let after = map content_of t.after in let all = contents_at now in
      let old = parts_of n (pick is before) in let new = parts_of n (pick is after) in
      let m = subst (λ what. MovesTurn place adv giv sta t.event.worker n what old new) (is_halt (turn_view t.event.what) e) (turn_held now s t have run g).1 in
      let within = parts_in n (pick is before) all (picks_within all is before (reads_at now is t.before g.0)) in
      absurd (m.how.1 (none m.clock (within.clocks m.clock m.was)))

  -- a mark that was obeyed is set by the end of the main text, where nobody gives up
  pub ends_before : (log : List (Turn (PartSeen A) Drawn)) (now last : List (PartSeen A)) (s : State) → HaveCode code now → Stand now s → Run drawn_touches moves now log last → IsUnmarked now
      → some_turn gives_up log ≡ false → some_turn obeys_mark log ≡ true → some_turn ends_main log ≡ true
  ends_before [] now last s have run r none kept e = e
  ends_before (t ∷ ts) now last s have run r none kept e = by (ends_main (turn_view t.event.what)) refl
      (λ goes k. let a = turn_leads over place stands advances gives starts advance_law answer_law start_law program code n now s t have run r.0 in
      ends_before ts (write now (drawn_touches t.event) t.after) last a.0 (leaves_code over place advances gives starts code now t have r.0) a.2 r.1 (turn_unmarked now s t have run r.0 none goes (kept_both kept).0) (kept_both kept).1 k) where
        kept_both : some_turn gives_up (t ∷ ts) ≡ false → (gives_up (turn_view t.event.what) ≡ false) × (some_turn gives_up ts ≡ false)
        kept_both k = both_false (gives_up (turn_view t.event.what)) (some_turn gives_up ts) k

        by : (b : Bool) → ends_main (turn_view t.event.what) ≡ b → (ends_main (turn_view t.event.what) ≡ false → some_turn obeys_mark ts ≡ true → some_turn ends_main ts ≡ true) → some_turn ends_main (t ∷ ts) ≡ true
        by true is later = first_true (ends_main (turn_view t.event.what)) (some_turn ends_main ts) is
        by false is later = second_true (ends_main (turn_view t.event.what)) (some_turn ends_main ts) (⊎_elim (λ here. turn_marked now s t have run r.0 none here) (later is) (either_true (obeys_mark (turn_view t.event.what)) (some_turn obeys_mark ts) e))

  module _ (v : View (PartSeen A) Drawn) (k : Knows over stands program code n v) where
    opening_unmarked : IsUnmarked v.opening
    opening_unmarked = let clock = unasked k.least k.faults k.readings in
        subst (λ (cs : List (PartSeen A)). IsUnmarked cs) (sym k.opening)
        (subst (λ (f : ℕ → Option (Content (TaskAgent A))). Unmarked (parts_of n f).timers) (sym (opens n code k.texts k.main clock k.some))
        (unmarked_opening n (program_view k.texts) k.main clock (n + 32) (nat_lt (n + 32) (n + 33 + n)) (kind_at n (n + 32)) refl))

    -- the history that a hand sees leads to a state that the parts stand for, and that is quiet where some worker stalled
    pub reaches_end : (log : List (Turn (PartSeen A) Drawn)) (now : List (PartSeen A)) → Sees drawn_touches moves v log now
        → (s : State) × Reaches program (shown_by log) s × Stand now s × (some_turn stays_stuck log ≡ true → IsQuiet s)
    reaches_end log now sees = let r = leads_to log v.opening now (opening_state k.body) (opening_codes over place stands advances gives starts advance_law answer_law start_law program code n v k) (opening_is over place stands advances gives starts advance_law answer_law start_law program code n v k) sees.run in
        (r.0, record { opening = opening_state k.body; opens = (k.body, k.opens, refl); steps = r.1 }, r.2, r.3)

    -- and in it a mark that was obeyed is that of the main text's end
    pub obeys_end : (log : List (Turn (PartSeen A) Drawn)) (now : List (PartSeen A)) → Sees drawn_touches moves v log now → some_turn gives_up log ≡ false → some_turn obeys_mark log ≡ true → some_turn ends_main log ≡ true
    obeys_end log now sees = ends_before log v.opening now (opening_state k.body) (opening_codes over place stands advances gives starts advance_law answer_law start_law program code n v k) (opening_is over place stands advances gives starts advance_law answer_law start_law program code n v k) sees.run opening_unmarked

    -- all turns of a hand that drew them alone are in the history
    pub mine : (log : List (Turn (PartSeen A) Drawn)) (now : List (PartSeen A)) → Sees drawn_touches moves v log now → (t : Turn (PartSeen A) Drawn) → In t v.turns → In t log
    mine log now sees t i = let at = in_at v.turns t i in at_in log t.number t (sees.mine at.0 t at.1)

    pub ends_whole : (log : List (Turn (PartSeen A) Drawn)) (now : List (PartSeen A)) → Sees drawn_touches moves v log now
        → (s : State) × Reaches program (shown_by log) s × Stand now s × (some_turn stays_stuck v.turns ≡ true → IsQuiet s)
    ends_whole log now sees = let r = reaches_end log now sees in (r.0, r.1, r.2, λ e. r.3 (has_within stays_stuck v.turns log (mine log now sees) e))

    pub main_whole : (log : List (Turn (PartSeen A) Drawn)) (now : List (PartSeen A)) → Sees drawn_touches moves v log now → some_turn ends_main v.turns ≡ true → HasMainEnd (shown_by log)
    main_whole log now sees e = main_shown log (has_within ends_main v.turns log (mine log now sees) e)

    pub marked_whole : (log : List (Turn (PartSeen A) Drawn)) (now : List (PartSeen A)) → Sees drawn_touches moves v log now → IsWhole v log → some_turn gives_up v.turns ≡ false → some_turn obeys_mark v.turns ≡ true → HasMainEnd (shown_by log)
    marked_whole log now sees whole none e = main_shown log (obeys_end log now sees (none_within gives_up log v.turns all none) (has_within obeys_mark v.turns log (mine log now sees) e)) where
      all : (t : Turn (PartSeen A) Drawn) → In t log → In t v.turns
      all t i = let k = in_at log t i in let r = whole.1 k.0 t k.1 in at_in v.turns r.0 t r.1
