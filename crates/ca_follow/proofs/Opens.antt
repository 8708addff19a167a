-- What a follower has before the first event stands for where the program's runs begin.
use Rattle.std.proofs.Common.{◌≡◌, ℕ, [], refl, sym, ap, ◌∙◌, subst, Bool, true, false, Option, Some, None, IsSome, eqb, eqb-true, eq-eqb, ne_eqb, is_some, nat_eq, cond, option_map}
use Rattle.std.specs.List.{list_any}
use Rattle.std.specs.Map.{update}
use Rattle.indexmap.specs.IndexSet.{keys}
use Rattle.ca_term.specs.Program.{ProgramView}
use Rattle.ca_meaning.specs.Body.{At, new_body}
use Rattle.ca_meaning.specs.Going.{Runs}
use Rattle.ca_meaning.specs.State.{Opening, State, Task, Tasks, runs, opening_state}
use Rattle.ca_meaning.specs.Task.{BodyRest, TaskBody, script}
use Rattle.ca_meaning.proofs.Possible.{body_rests}
use Rattle.ca_states.specs.Code.{CodeView}
use Rattle.ca_states.specs.ValidCode.{valid_code}
use Rattle.ca_lower.specs.Lowered.{Lowered}
use Rattle.ca_commit.specs.Agents.{TaskAgent, stands_of}
use Rattle.ca_commit.specs.Contents.{Parked, at_key, channel_of, home, owner, whole}
use Rattle.ca_commit.specs.NewPort.{times_in, times_of}
use Rattle.ca_commit.specs.Opening.{main_agent}
use Rattle.ca_commit.specs.Running.{Placed}
use Rattle.ca_commit.specs.Seated.{StandsAs}
use Rattle.ca_commit.specs.Showing.{channels_held, registries_held, waits_held}
use Rattle.ca_commit.specs.Waking.{IsPaused, ready_in}
use Rattle.ca_commit.proofs.Seats.{some_same}
use Rattle.ca_follow.specs.Applies.{and_number}
use Rattle.ca_follow.specs.Follower.{IsFollower, IsMadeFor, FollowerStands, has, is_known_task, running_in}
use Rattle.ca_follow.specs.Follows.{Follows}
use Rattle.ca_follow.specs.Has.{AreEmpty, Has, IsAll}
use Rattle.ca_follow.specs.declared.follower.Follower.{Follower}
use Rattle.ca_follow.specs.declared.tasks.Tasks.{Tasks as TaskTable}
use Rattle.ca_replay.proofs.WorldSteps.{opening_values}
use Rattle.ca_tasks.specs.Tasks.{task_over_code, place, stands}
use Rattle.ca_tasks.specs.declared.task.AnyTask.{AnyTask}

-- all parts are there and empty, and the main text alone can go on
pub record IsOpened {A : Type 0} (main : A) (h : Has A) : Type 0 where
  pub banks : AreEmpty h.bank
  pub registries : AreEmpty h.registry
  pub shards : AreEmpty h.shard
  pub times : h.times ≡ Some (record { deadlines = []; now = 0 })
  pub running : (t : ℕ) → h.running t ≡ update eqb (λ n. None) 0 (Some (main_agent main)) t
  pub known : (t : ℕ) → h.known t ≡ and_number (λ n. false) 0 t
  pub used : (w : ℕ) → h.used w ≡ false

module _ {X : Type 0} (f : ℕ → Option (ℕ → Option X)) (empty : AreEmpty f) where
  pub none_whole : (n : ℕ) → whole f n ≡ None
  none_whole n = by (f (home n)) refl where
    by : (o : Option (ℕ → Option X)) → f (home n) ≡ o → at_key o n ≡ None
    by None e = refl
    by (Some g) e = empty.1 (home n) n g e

  pub empty_placed : Placed f
  empty_placed i k g x e there = absurd (let z : None ≡ Some x = sym (empty.1 i k g e) ∙ there in cc)

module _ {A : Type 0} (main : A) (h : Has A) (opened : IsOpened main h) where
  pub opened_all : IsAll h
  opened_all = record {
    banks = opened.banks.0;
    registries = opened.registries.0;
    shards = opened.shards.0;
    bank_placed = empty_placed h.bank opened.banks;
    registry_placed = empty_placed h.registry opened.registries;
    shard_placed = empty_placed h.shard opened.shards;
  }

  pub opened_paused : (place : A → At) (w : ℕ) → IsPaused place (whole h.shard w)
  opened_paused place w = subst (IsPaused place) (sym (none_whole h.shard opened.shards w)) tt

  -- whoever can go on is the main text
  pub only_main : (t : ℕ) (a : TaskAgent A) → h.running t ≡ Some a → (t ≡ 0) × (main_agent main ≡ a)
  only_main t a e = by (eqb 0 t) refl (sym (opened.running t) ∙ e) where
    by : (c : Bool) → eqb 0 t ≡ c → cond c (Some (main_agent main)) None ≡ Some a → (t ≡ 0) × (main_agent main ≡ a)
    by true is f = (sym (eqb-true 0 t is), some_same (main_agent main) a f)
    by false is f = absurd (let z : None ≡ Some a = f in cc)

  pub nobody_waits : {G : Type 0} (w : ℕ) (x : Parked (TaskAgent A)) → whole h.shard w ≡ Some x → G
  nobody_waits w x e = absurd (let z : None ≡ Some x = sym (none_whole h.shard opened.shards w) ∙ e in cc)

  module _ (place : A → At) (stands : ProgramView → A → TaskBody → Type 0) (program : ProgramView) (b : TaskBody) (st : stands program main b) where
    abbrev tasks : Tasks
    tasks = update eqb (λ n. None) 0 (Some (runs None b))

    main_runs : (t : ℕ) (a : TaskAgent A) → h.running t ≡ Some a → StandsAs (stands_of stands program) tasks t a
    main_runs t a e = let is = only_main t a e in
        subst (λ (c : TaskAgent A). StandsAs (stands_of stands program) tasks t c) is.1 (subst (λ (n : ℕ). StandsAs (stands_of stands program) tasks n (main_agent main)) (sym is.0) (runs None b, (refl, refl), (refl, st)))

    main_goes : (t : ℕ) (x : Task) → Runs tasks t x → (a : TaskAgent A) × (h.running t ≡ Some a)
    main_goes t x r = by (eqb 0 t) refl r.0 where
      by : (c : Bool) → eqb 0 t ≡ c → cond c (Some (runs None b)) None ≡ Some x → (a : TaskAgent A) × (h.running t ≡ Some a)
      by true is f = (main_agent main, opened.running t ∙ ap (λ c. cond c (Some (main_agent main)) None) is)
      by false is f = absurd (let z : None ≡ Some x = f in cc)

    main_known : (t : ℕ) → is_some (tasks t) ≡ and_number (λ n. false) 0 t
    main_known t = by (eqb 0 t) refl where
      by : (c : Bool) → eqb 0 t ≡ c → is_some (cond c (Some (runs None b)) None) ≡ and_number (λ n. false) 0 t
      by true is = sym (ap (λ c. cond c true false) (eq-eqb t 0 (sym (eqb-true 0 t is))))
      by false is = sym (ap (λ c. cond c true false) (ne_eqb t 0 (λ e. absurd (let z : false ≡ true = sym is ∙ eq-eqb 0 t (sym e) in cc))))

    pub opened_follows : Follows place stands program h (opening_state b)
    opened_follows = record {
      holds = record {
        channels_are = λ p. sym (ap channel_of (no_channel p));
        queues = λ side p k e. absurd (let z : None ≡ Some k = sym (no_channel p) ∙ e in cc);
        nowhere = λ side p e. refl;
        named = λ side p k e. absurd (let z : None ≡ Some k = sym (no_channel p) ∙ e in cc);
        living = λ w. ap is_some (none_whole h.shard opened.shards w);
        given = λ w e. absurd (let z : false ≡ true = e in cc);
        differ = tt;
      };
      registered = λ p. sym (none_whole h.registry opened.registries p);
      ready = main_runs;
      runs = main_goes;
      owners = λ w u a e. nobody_waits w (owner u a) e;
      nobodies = λ w e. refl;
      times = opened.times;
      known = λ t. main_known t ∙ sym (opened.known t);
      used = λ w. sym (opened.used w);
    } where
      no_channel : (p : ℕ) → whole h.bank p ≡ None
      no_channel = none_whole h.bank opened.banks

-- a new table of tasks with the main text put into it, and new parts
pub opened_of : (f : Follower) (old : TaskTable) (main : AnyTask) → AreEmpty (channels_held f.held.banks) → AreEmpty (registries_held f.held.banks) → AreEmpty (waits_held f.held.shards) → times_in f.held.timers ≡ Some (record { deadlines = []; now = 0 })
    → ((t : ℕ) → running_in old t ≡ None) → ((t : ℕ) → is_known_task old t ≡ false) → ((t : ℕ) → running_in f.tasks t ≡ update eqb (running_in old) 0 (Some (main_agent main)) t) → ((t : ℕ) → is_known_task f.tasks t ≡ and_number (is_known_task old) 0 t) → keys f.waits ≡ [] → IsOpened main (has f)
opened_of f old main banks registries shards times none unknown running known no_wait = record {
  banks = banks;
  registries = registries;
  shards = shards;
  times = times;
  running = λ t. running t ∙ ap (λ (o : Option (TaskAgent AnyTask)). cond (eqb 0 t) (Some (main_agent main)) o) (none t);
  known = λ t. known t ∙ ap (λ b. cond (eqb t 0) true b) (unknown t);
  used = λ w. ap (list_any (nat_eq w)) no_wait;
}

is_mapped : {X Y : Type 0} (g : X → Y) (o : Option X) → is_some (option_map g o) ≡ true → IsSome o
is_mapped g None e = e
is_mapped g (Some x) e = refl

module _ (f : Follower) (main : AnyTask) (opened : IsOpened main (has f)) where
  pub opened_follower : task_over_code (valid_code f.code.now) main → ready_in f.held.ready ≡ Some [] → IsFollower f
  opened_follower over_main ready = record {
    all = opened_all main (has f) opened;
    timers = is_mapped times_of f.held.timers (ap is_some opened.times);
    ready = ready;
    over_code = record {
      running = λ t a e. subst (λ (c : TaskAgent AnyTask). task_over_code (valid_code f.code.now) c.agent) (only_main main (has f) opened t a e).1 over_main;
      waiting = λ w u a e. nobody_waits main (has f) opened w (owner u a) e;
    };
    paused = opened_paused main (has f) opened place;
  }

  -- the main text comes to rest, and its machine stands for it there
  pub opened_stands : (program : ProgramView) (code : CodeView) → IsMadeFor program code → ((b : TaskBody) → Lowered program code → BodyRest program (script (new_body program.main)) b → stands program main b)
      → (s : State) × Opening program s × FollowerStands program (has f) s
  opened_stands program code made st = let r = body_rests program (script (new_body program.main)) in let opens : Opening program (opening_state r.0) = (r.0, r.1, refl) in (
    opening_state r.0,
    opens,
    record {
      follows = opened_follows main (has f) opened place stands program r.0 (st r.0 made.lowered r.1);
      values = opening_values program (opening_state r.0) made.checked opens;
    },
  )
