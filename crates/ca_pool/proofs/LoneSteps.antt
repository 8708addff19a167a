-- An event of its lane's task that a lone worker draws: what the worker carries tells where that leads in the schedule.
use Rattle.std.proofs.Common.{◌≡◌, ◌∙◌, ℕ, ◌<◌, List, [], ◌∷◌, ◌++◌, refl, sym, ap, subst, Bool, true, false, Option, Some, eqb, eq-eqb}
use mathlib.Core.Option as core
use lib.ListN.{get_elem?}
use Rattle.ca_value.specs.Tree.{Tree}
use Rattle.ca_term.specs.declared.event.Ending.{Ending}
use Rattle.ca_term.specs.declared.event.Ending.TheVariants.{Ended, Faulted}
use Rattle.ca_term.specs.Event.{EventView, over as over_event}
use Rattle.ca_term.specs.Operation.{SeedView, WantView}
use Rattle.ca_term.specs.Program.{ProgramView, program_view}
use Rattle.ca_meaning.specs.Body.{At, at_op}
use Rattle.ca_meaning.specs.Cost.{cost}
use Rattle.ca_meaning.specs.EndsLaw.{is_of}
use Rattle.ca_meaning.specs.Legal.{is_end_of_main}
use Rattle.ca_meaning.specs.Solo.{Lane as DeskLane, patience}
use Rattle.ca_meaning.specs.Task.{TaskBody}
use Rattle.ca_agent.specs.Agents.{Advanced, Answered, Started}
use Rattle.ca_states.specs.Code.{CodeView}
use Rattle.ca_states.specs.ValidCode.{valid_code}
use Rattle.ca_states.specs.declared.valid_code.ValidCode.{ValidCode}
use Rattle.ca_turns.specs.Hands.{TableId}
use Rattle.ca_turns.specs.declared.rule.Turn.{Turn}
use Rattle.ca_turns.specs.declared.rule.View.{View}
use Rattle.ca_commit.specs.Agents.{TaskAgent}
use Rattle.ca_commit.specs.Applying.{BankChannels, Members, event_of}
use Rattle.ca_commit.specs.Contents.{Kept, Parts, whole}
use Rattle.ca_commit.specs.Deciding.{seen_in}
use Rattle.ca_commit.specs.Planning.{Planned, planned, to_close, to_default, to_do, to_look, to_make, to_meet, to_park, to_post, to_print, to_prune, to_refuse, to_register, to_spawn}
use Rattle.ca_commit.specs.Showing.{channels_held, registries_held}
use Rattle.ca_commit.specs.Tasks.{agent_of}
use Rattle.ca_commit.specs.Touched as said
use Rattle.ca_commit.specs.declared.held.Held.{Held}
use Rattle.ca_commit.specs.declared.task.Task.{Task}
use Rattle.ca_commit.proofs.Laid.{IsPart}
use Rattle.ca_table.specs.Carriers.{IsCarrying, was}
use Rattle.ca_table.specs.Carrying.{Carries, carried, lane_place}
use Rattle.ca_table.specs.Draws.{drawn_touches, turn_view}
use Rattle.ca_table.specs.Grips.{SameHand}
use Rattle.ca_table.specs.LoneHands.{DrewTurn, HoldsLeft}
use Rattle.ca_table.specs.Parts.{part_away, lane_seen, part_seen}
use Rattle.ca_table.specs.Running.{shown_by}
use Rattle.ca_table.specs.Seen.{PartSeen}
use Rattle.ca_table.specs.Workers.{SameWorker, part_of_lane}
use Rattle.ca_table.specs.declared.drawn.Drawn.{Drawn}
use Rattle.ca_table.specs.declared.drawn.Turned.{Turned}
use Rattle.ca_table.specs.declared.part.Lane.{Lane}
use Rattle.ca_table.specs.declared.part.Part.{Part}
use Rattle.ca_table.specs.declared.worker.Worker.{Worker}
use Rattle.ca_solo.specs.Positions.{Position}
use Rattle.ca_solo.specs.Stirs.{stirred}
use Rattle.ca_alone.specs.Reading.{lane_read}
use Rattle.ca_alone.specs.Schedule.{HasStopped, MaySettle, StandsAt, to_turn}
use Rattle.ca_alone.specs.Standing.{ChoosesWell, IsOn}
use Rattle.ca_alone.specs.Stirring.{stirs_in}
use Rattle.ca_alone.proofs.HeldDesk.{parts_now}
use Rattle.ca_alone.proofs.HeldPosition.{with_choice, with_lane, with_plan_stirred, with_stirred}
use Rattle.ca_alone.proofs.HeldWithin.{carried_lies, carried_part, carried_settled, lies_part, shown_parts}
use Rattle.ca_alone.proofs.Standings.{stands_as as as_kind}
use Rattle.ca_alone.proofs.Stopping.{makes}
use Rattle.ca_pool.specs.AtEvent.{HasTaken}
use Rattle.ca_pool.specs.Desk.{ClockBox, desk_taken}
use Rattle.ca_pool.specs.Lone.{HasStepped, IsLone, MayGo, Stayed}
use Rattle.ca_pool.specs.OwnPlans.{IsOwnPlanFor}
use Rattle.ca_pool.specs.Prepared.{HasGone}
use Rattle.ca_pool.specs.Stirred.{stirred_at_end, stirred_of}
use Rattle.ca_pool.proofs.AtEvents.{same_turns}
use Rattle.ca_pool.proofs.Lone.{drew_turn, lone_same, stayed_same}

-- nothing was done
pub stayed_nothing : {A C : Type 0} (w : Worker A C) → Stayed w w
stayed_nothing w = stayed_same (record { number = refl; workers = refl; program = refl; code = refl }) (same_turns w.hand w.hand refl)

self : (t : ℕ) → eqb t t ≡ true
self t = eq-eqb t t refl

module _ (cs : BankChannels) (rs : Members) (t u p w m : ℕ) where
  -- the event of a plan is one of the task's, and no end of the main text
  planned_is_of : (q : Planned) → is_of t (event_of cs rs t u p w m q) ≡ true
  planned_is_of (to_do k b alts) = self t
  planned_is_of (to_meet k b alts v o) = self t
  planned_is_of (to_park bs) = self t
  planned_is_of (to_post bs) = self t
  planned_is_of (to_default v) = self t
  planned_is_of (to_make what) = self t
  planned_is_of (to_spawn kind r) = self t
  planned_is_of (to_close q) = self t
  planned_is_of (to_register name args) = self t
  planned_is_of (to_print line) = self t
  planned_is_of (to_look v) = self t
  planned_is_of (to_prune q side i) = self t
  planned_is_of (to_refuse f) = self t

  planned_goes_on : (q : Planned) → is_end_of_main (event_of cs rs t u p w m q) ≡ false
  planned_goes_on (to_do k b alts) = refl
  planned_goes_on (to_meet k b alts v o) = refl
  planned_goes_on (to_park bs) = refl
  planned_goes_on (to_post bs) = refl
  planned_goes_on (to_default v) = refl
  planned_goes_on (to_make what) = refl
  planned_goes_on (to_spawn kind r) = refl
  planned_goes_on (to_close q) = refl
  planned_goes_on (to_register name args) = refl
  planned_goes_on (to_print line) = refl
  planned_goes_on (to_look v) = refl
  planned_goes_on (to_prune q side i) = refl
  planned_goes_on (to_refuse f) = refl

  -- it stirs what the plan tells
  planned_stirs : (ports : ℕ → Option Kept) (q : Planned) → stirs_in ports (event_of cs rs t u p w m q) ≡ stirred_of ports q
  planned_stirs ports (to_do k b alts) = refl
  planned_stirs ports (to_meet k b alts v o) = refl
  planned_stirs ports (to_park bs) = refl
  planned_stirs ports (to_post bs) = refl
  planned_stirs ports (to_default v) = refl
  planned_stirs ports (to_make what) = refl
  planned_stirs ports (to_spawn kind r) = refl
  planned_stirs ports (to_close q) = refl
  planned_stirs ports (to_register name args) = refl
  planned_stirs ports (to_print line) = refl
  planned_stirs ports (to_look v) = refl
  planned_stirs ports (to_prune q side i) = refl
  planned_stirs ports (to_refuse f) = refl

end_stirs : (ports : ℕ → Option Kept) (t : ℕ) (ending : Ending) → stirs_in ports (over_event t ending) ≡ stirred_at_end ending
end_stirs ports t Ended = refl
end_stirs ports t (Faulted fault place result) = refl

-- the lane's task may make an event
is_on : {X : Type 0} (o : Option DeskLane) (task : Option (ℕ × X)) (since : ℕ) (x : ℕ × X) → o ≡ lane_read task since → task ≡ Some x → since < patience → IsOn o
is_on o task since x e there few = subst IsOn (sym (e ∙ ap (λ k. lane_read k since) there)) few

module _ {A C : Type 0} (over : CodeView → A → Type 0) (place : A → At) (stands_as : ProgramView → A → TaskBody → Type 0) (advances : ProgramView → A → A → Type 0) (gives : A → Tree → A → Type 0) (starts : ProgramView → SeedView → A → Type 0)
    (advance_law : Advanced stands_as place advances) (answer_law : Answered stands_as place gives) (start_law : Started stands_as place starts) (least faults : C → ℕ) (readings : C → Option (List ℕ)) (code : ValidCode) (id : TableId) where
  abbrev shows : Part A C → PartSeen A
  shows = part_seen least faults readings

  abbrev Steps : List ℕ → Bool → ℕ → Worker A C → Type 0
  Steps us b most v = HasStepped over place stands_as advances gives starts code us b most v

  abbrev Goes : ℕ → Worker A C → Type 0
  Goes most v = MayGo over place stands_as advances gives starts code (MaySettle to_turn []) most v

  -- it drew this
  abbrev Drew1 : Turned → Worker A C → Worker A C → Type 0
  Drew1 what w v = (t : Turn (PartSeen A) Drawn) × (v.hand.view.turns ≡ w.hand.view.turns ++ t ∷ []) × (t.event.what ≡ what)

  -- the only worker, by the program of its run
  module _ (program : ProgramView) (l lane : Lane A) (h : Carries (Part A C × PartSeen A)) (out : Part A C) (old : Parts (TaskAgent A)) (w v : Worker A C) (task : Task A) (carries : IsCarrying over stands_as program code id 1 w h) (there : h.lane ≡ Some (out, part_of_lane 1 code l))
      (lies : IsPart old (parts_now w.hand.view)) (gone : HasGone over advances program code l lane task) (alone : IsLone w) (same : SameWorker w v) (hand : SameHand w.hand v.hand) (few : lane.since < patience) where
    abbrev view : View (PartSeen A) Drawn
    view = w.hand.view

    abbrev Here : (Position → Type 0) → View (PartSeen A) Drawn → Type 0
    Here P x = StandsAt over place stands_as advances gives starts program (valid_code code) P x

    left : HoldsLeft drawn_touches view
    left = carries.one.left alone.1

    lane_held : get_elem? view.held 0 ≡ core.some (Some (part_of_lane 1 code l))
    lane_held = carried_settled over stands_as program code id w h carries lane_place (out, part_of_lane 1 code l) tt there

    abbrev Laned : Position → Type 0
    Laned x = MaySettle to_turn [] x × (x.desk.lane ≡ lane_read (lane_seen l).task (lane_seen l).since)

    laned : Here (MaySettle to_turn []) view → Here Laned view
    laned h = with_lane over place stands_as advances gives starts program (valid_code code) view (MaySettle to_turn []) left (part_of_lane 1 code l) (lane_seen l) lane_held refl h

    lane_on : (x : Position) → x.desk.lane ≡ lane_read (lane_seen l).task (lane_seen l).since → IsOn x.desk.lane
    lane_on x e = is_on x.desk.lane (lane_seen l).task (lane_seen l).since (task.number, gone.left.agent) e gone.left.was (subst (λ (k : ℕ). k < patience) gone.left.since_is few)

    -- .. and what may settle after the event
    abbrev Stirred : EventView → Position → Type 0
    Stirred e x = Laned x × (stirred x.state e ≡ stirs_in (whole old.bank) e)

    abbrev Facts : EventView → List ℕ → Position → Type 0
    Facts e us x = MaySettle to_turn [] x × IsOn x.desk.lane × (stirred x.state e ≡ us) × ChoosesWell x.state x.desk e

    steps : (e : EventView) (us : List ℕ) (b : Bool) → Here (Facts e us) view → is_of task.number e ≡ true → is_end_of_main e ≡ b → DrewTurn (said.shown e) view v.hand.view
        → (most : ℕ) → cost (shown_by view.turns) < most → Steps us b most v
    steps e us b facts is ends drew most below =
        let lone = lone_same same hand alone in
        let by_program = sym (ap (λ x. program_view x.value) same.program ∙ carries.one.of_program) in
        let led = makes over place stands_as advances gives starts advance_law answer_law start_law program (valid_code code) view v.hand.view task.number e us facts drew is in record {
          at = λ k. record { lone = lone; at = subst (λ (p : ProgramView). StandsAt over place stands_as advances gives starts p (valid_code code) (MaySettle to_turn us) v.hand.view) by_program (led.0 (ends ∙ k)) };
          stopped = record { lone = lone; stopped = subst (λ (p : ProgramView). HasStopped over place stands_as advances gives starts p (valid_code code) most v.hand.view) by_program (led.1 most below) };
        }

    -- the event of a plan
    planned_steps : (want : WantView) (u p k m : ℕ) (q : Planned) (e : EventView) (us : List ℕ) → place task.agent ≡ at_op want → q ≡ planned (seen_in old) want.op task.alts → e ≡ event_of old.bank old.registry task.number u p k m q → us ≡ stirred_of (whole old.bank) q
        → DrewTurn (said.shown e) view v.hand.view → Here (MaySettle to_turn []) view → (most : ℕ) → cost (shown_by view.turns) < most → Steps us false most v
    planned_steps want u p k m q e us at plan is stirs drew h most below =
        let cs = old.bank in let rs = old.registry in
        let on_it = with_plan_stirred over place stands_as advances gives starts program (valid_code code) view Laned old want task.alts task.number u p k m q e lies plan is (laned h) in
        let chosen = with_choice over place stands_as advances gives starts program (valid_code code) view (Stirred e) advance_law left (part_of_lane 1 code l) (lane_seen l) old task.number gone.left.agent (agent_of task) want u p k m q e lane_held refl gone.left.was gone.left.advanced lies at plan is on_it in
        steps e us false
        (as_kind over place stands_as advances gives starts advance_law answer_law start_law program (valid_code code) {P = λ x. Stirred e x × ChoosesWell x.state x.desk e} {Q = Facts e us} view (λ x f. (f.0.0.0, lane_on x f.0.0.1, f.0.1 ∙ ap (stirs_in (whole cs)) is ∙ planned_stirs cs rs task.number u p k m (whole cs) q ∙ sym stirs, f.1)) chosen)
        (ap (is_of task.number) is ∙ planned_is_of cs rs task.number u p k m q)
        (ap is_end_of_main is ∙ planned_goes_on cs rs task.number u p k m q)
        drew most below

    -- the end of the task
    end_steps : (ending : Ending) (us : List ℕ) (b : Bool) → us ≡ stirred_at_end ending → is_end_of_main (over_event task.number ending) ≡ b → DrewTurn (said.shown (over_event task.number ending)) view v.hand.view → Here (MaySettle to_turn []) view → (most : ℕ) → cost (shown_by view.turns) < most → Steps us b most v
    end_steps ending us b stirs main drew h most below =
        let e = over_event task.number ending in let ports = whole old.bank in
        let on_it = with_stirred over place stands_as advances gives starts program (valid_code code) view Laned old e lies tt (laned h) in
        steps e us b (as_kind over place stands_as advances gives starts advance_law answer_law start_law program (valid_code code) {P = Stirred e} {Q = Facts e us} view (λ x f. (f.0.0, lane_on x f.0.1, f.1 ∙ end_stirs ports task.number ending ∙ sym stirs, tt)) on_it) (self task.number) main drew most below

  -- what a worker that may go on draws
  module _ (w v : Worker A C) (hand : SameHand w.hand v.hand) where
    drew_shown : (e : EventView) (what : Turned) → turn_view what ≡ said.shown e → Drew1 what w v → DrewTurn (said.shown e) w.hand.view v.hand.view
    drew_shown e what is drew = drew_turn w v (said.shown e) drew.0 hand drew.1 (ap turn_view drew.2 ∙ is)

    stands_by : (program : ProgramView) → program_view w.program.value ≡ program → (most : ℕ) → Goes most w → StandsAt over place stands_as advances gives starts program (valid_code code) (MaySettle to_turn []) w.hand.view
    stands_by program is most may = subst (λ (p : ProgramView). StandsAt over place stands_as advances gives starts p (valid_code code) (MaySettle to_turn []) w.hand.view) is may.at.at

  -- an event that is made where the parts lie
  module _ (program : ProgramView) (n : ℕ) (l lane : Lane A) (h : Carries (Part A C × PartSeen A)) (out : Part A C) (w v : Worker A C) (task : Task A) (carries : IsCarrying over stands_as program code id n w h) (there : h.lane ≡ Some (out, part_of_lane n code l)) (gone : HasGone over advances program code l lane task)
      (same : SameWorker w v) (hand : SameHand w.hand v.hand) (few : lane.since < patience) (most : ℕ) (may : Goes most w) where
    abbrev old : Parts (TaskAgent A)
    old = carried was w.number h

    pub place_leads : (want : WantView) (u p k m : ℕ) (q : Planned) (e : EventView) (us : List ℕ) → place task.agent ≡ at_op want → q ≡ planned (seen_in old) want.op task.alts → e ≡ event_of old.bank old.registry task.number u p k m q → us ≡ stirred_of (whole old.bank) q
        → (what : Turned) → turn_view what ≡ said.shown e → Drew1 what w v → Steps us false most v
    place_leads want u p k m q e us at plan is stirs what shows_it drew =
        let lone : n ≡ 1 = sym carries.one.of ∙ may.at.lone.0 in
        let one = subst (λ (k : ℕ). IsCarrying over stands_as program code id k w h) lone carries in
        planned_steps program l lane h out old w v task one (there ∙ ap (λ k. Some (out, part_of_lane k code l)) lone) (carried_part over stands_as program code id w h one (one.one.left may.at.lone.1)) gone may.at.lone same hand few
        want u p k m q e us at plan is stirs (drew_shown w v hand e what shows_it drew) (stands_by w v hand program carries.one.of_program most may) most may.below

  -- one over what was moved out for it
  module _ (program : ProgramView) (n : ℕ) (l lane : Lane A) (clock : Option (ClockBox C)) (held : Held A) (w v : Worker A C) (task : Task A) (carries : HasTaken over stands_as code id program n l shows clock held w) (gone : HasGone over advances program code l lane task)
      (same : SameWorker w v) (hand : SameHand w.hand v.hand) (few : lane.since < patience) (most : ℕ) (may : Goes most w) where
    by_one : HasTaken over stands_as code id program 1 l shows clock held w
    by_one = subst (λ (k : ℕ). HasTaken over stands_as code id program k l shows clock held w) (sym carries.one.of ∙ may.at.lone.0) carries

    lies_there : IsPart (shown_parts held) (parts_now w.hand.view)
    lies_there = lies_part held (parts_now w.hand.view) (carried_lies over stands_as program code id w (desk_taken shows 1 code w.number l clock held) by_one least faults readings held (by_one.one.left may.at.lone.1) refl refl)

    -- an event of a plan
    pub plan_leads : (u : ℕ) (q : Planned) (e : EventView) (us : List ℕ) → IsOwnPlanFor place held q (agent_of task) → e ≡ event_of (channels_held held.banks) (registries_held held.banks) task.number u held.new_port held.new_wait held.moment q
        → us ≡ stirred_of (whole (channels_held held.banks)) q → (what : Turned) → turn_view what ≡ said.shown e → Drew1 what w v → Steps us false most v
    plan_leads u q e us plan is stirs what shows_it drew =
        planned_steps program l lane (desk_taken shows 1 code w.number l clock held) (part_away 1 code) (shown_parts held) w v task by_one refl lies_there gone may.at.lone same hand few plan.0 u held.new_port held.new_wait held.moment q e us plan.1 plan.2 is stirs
        (drew_shown w v hand e what shows_it drew) (stands_by w v hand program carries.one.of_program most may) most may.below

    pub end_leads : (ending : Ending) (us : List ℕ) (b : Bool) → us ≡ stirred_at_end ending → is_end_of_main (over_event task.number ending) ≡ b → (what : Turned) → turn_view what ≡ said.shown (over_event task.number ending) → Drew1 what w v → Steps us b most v
    end_leads ending us b stirs main what shows_it drew =
        end_steps program l lane (desk_taken shows 1 code w.number l clock held) (part_away 1 code) (shown_parts held) w v task by_one refl lies_there gone may.at.lone same hand few ending us b stirs main
        (drew_shown w v hand (over_event task.number ending) what shows_it drew) (stands_by w v hand program carries.one.of_program most may) most may.below
