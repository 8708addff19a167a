-- What calls that hold parts for an operation come to, one after another.
use Rattle.std.proofs.Common.{◌≡◌, ◌∙◌, ℕ, refl, ap, subst, Bool, true, Result, Ok, Err}
use Rattle.std.specs.Prelude.{IfOk, OnErr, OnOk}
use Rattle.ca_value.specs.declared.value.PortId.{PortId}
use Rattle.ca_term.specs.declared.event.Side.{Side}
use Rattle.ca_term.specs.declared.fault.Fault.{Fault}
use Rattle.ca_term.specs.Program.{ProgramView}
use Rattle.ca_meaning.specs.Body.{At}
use Rattle.ca_meaning.specs.Task.{TaskBody}
use Rattle.ca_meaning.specs.Wait.{is_among}
use Rattle.ca_states.specs.Code.{CodeView}
use Rattle.ca_states.specs.declared.valid_code.ValidCode.{ValidCode}
use Rattle.ca_turns.specs.Hands.{TableId}
use Rattle.ca_commit.specs.Applying.{IsEvent}
use Rattle.ca_commit.specs.Contents.{home}
use Rattle.ca_commit.specs.Planning.{Planned, to_close, to_default, to_do, to_look, to_make, to_meet, to_park, to_post, to_print, to_prune, to_refuse, to_register, to_spawn}
use Rattle.ca_commit.specs.Plans.{plan_view}
use Rattle.ca_commit.specs.declared.held.Held.{Held}
use Rattle.ca_commit.specs.declared.planned.Plan.{Plan}
use Rattle.ca_commit.specs.declared.planned.Plan.TheVariants as P
use Rattle.ca_commit.specs.declared.task.Task.{Task}
use Rattle.ca_commit.proofs.Holdings.{home_below}
use Rattle.ca_table.specs.Homes.{has_home}
use Rattle.ca_table.specs.Seen.{PartSeen}
use Rattle.ca_table.specs.Workers.{SameWorker}
use Rattle.ca_table.specs.declared.homes.Homes.{Homes}
use Rattle.ca_table.specs.declared.part.Lane.{Lane}
use Rattle.ca_table.specs.declared.part.Part.{Part}
use Rattle.ca_table.specs.declared.worker.Worker.{Worker}
use Rattle.ca_pool.specs.Desk.{SameNumbers, holds_shards}
use Rattle.ca_pool.specs.Named.{ports_to_hold}
use Rattle.ca_pool.specs.Resolving.{HoldsNeededBanks, HoldsThese, IsEventOrRefusal, IsSeen, LeftOff, Took, Wants}
use Rattle.ca_pool.proofs.BanksHeld.{has_banks}

pub ok_map : {X E P Q : Type 0} (r : Result X E) → (P → Q) → OnOk r P → OnOk r Q
ok_map (Ok x) f p = f p
ok_map (Err e) f p = p

pub err_map : {X E P Q : Type 0} (r : Result X E) → (P → Q) → OnErr r P → OnErr r Q
err_map (Ok x) f p = p
err_map (Err e) f p = f p

pub ok_is : {X E P : Type 0} (r : Result X E) (x : X) → OnOk r P → r ≡ Ok x → P
ok_is (Ok y) x p e = p
ok_is (Err f) x p e = absurd cc

pub err_is : {X E P : Type 0} (r : Result X E) (f : E) → OnErr r P → r ≡ Err f → P
err_is (Ok y) f p e = absurd cc
err_is (Err h) f p e = p

pub if_ok_is : {X E : Type 0} (P : X → Type 0) (r : Result X E) (x : X) → IfOk r P → r ≡ Ok x → P x
if_ok_is P (Ok y) x p e = subst P (let k : y ≡ x = cc in k) p
if_ok_is P (Err f) x p e = absurd cc

pub err_any : {X E P : Type 0} (r : Result X E) → P → OnErr r P
err_any (Ok x) p = tt
err_any (Err e) p = p

pub if_ok_map : {X E : Type 0} {P Q : X → Type 0} (r : Result X E) → ((x : X) → P x → Q x) → IfOk r P → IfOk r Q
if_ok_map (Ok x) f p = f x p
if_ok_map (Err e) f p = p

pub same_both : {A C : Type 0} (o m n : Worker A C) → SameWorker o m → SameWorker m n → SameWorker o n
same_both o m n p q = record { number = q.number ∙ p.number; workers = q.workers ∙ p.workers; program = q.program ∙ p.program; code = q.code ∙ p.code }

-- a plan that is decided is one of an event, or a refusal
pub event_else : (p : Plan) → IsEventOrRefusal (plan_view p) → ((f : Fault) → p ≡ P.Refused f → ⊥) → IsEvent (plan_view p)
event_else (P.Refused f) d refuses = refuses f refl
event_else (P.Look w) d refuses = d
event_else (P.Prune port side place) d refuses = d
event_else (P.Done c) d refuses = tt
event_else (P.Meet c w o) d refuses = tt
event_else (P.Park j) d refuses = tt
event_else (P.Post j) d refuses = tt
event_else (P.Default x) d refuses = tt
event_else (P.Make what) d refuses = tt
event_else (P.Spawn kind r) d refuses = tt
event_else (P.Close port) d refuses = tt
event_else (P.Register name args again) d refuses = tt
event_else (P.Print line) d refuses = tt

module _ {A : Type 0} where
  pub numbers_both : (x y z : Held A) → SameNumbers x y → SameNumbers y z → SameNumbers x z
  numbers_both x y z a b = record { task = b.task ∙ a.task; port = b.port ∙ a.port; wait = b.wait ∙ a.wait; moment = b.moment ∙ a.moment }

module _ {A C : Type 0} (over : CodeView → A → Type 0) (stands_as : ProgramView → A → TaskBody → Type 0) (place : A → At) (seen : Part A C → PartSeen A) (code : ValidCode) (id : TableId) (from before : ProgramView → ℕ → Lane A → Type 0) (leads : (program : ProgramView) (n : ℕ) (l : Lane A) → before program n l → from program n l) where
  -- from what the worker carried before
  pub took_from : (banks shards : Homes) (held : Held A) (w : Worker A C) → Took over stands_as place seen code id from banks shards held w → Took over stands_as place seen code id before banks shards held w
  took_from banks shards held w t = record { holds = t.holds; these = t.these; carries = λ program n l b. t.carries program n l (leads program n l b) }

  pub left_from : (held : Held A) (w : Worker A C) → LeftOff over stands_as code id from held w → LeftOff over stands_as code id before held w
  left_from held w t = record { bare = t.bare; carries = λ program n l b. t.carries program n l (leads program n l b) }

module _ {A : Type 0} (place : A → At) where
  -- a new port's number stays, and no bank is wanted less
  pub wants_more : (old new : Homes) (p q : ℕ) (task : Task A) → ((i : ℕ) → has_home old i ≡ true → has_home new i ≡ true) → q ≡ p → Wants place old p task → Wants place new q task
  wants_more old new p q task more same wants = λ want at k e. more (home k) (wants want at k (subst (λ (x : ℕ). is_among k (ports_to_hold want.op x) ≡ true) same e))

  pub named_held : (banks shards : Homes) (held : Held A) (task : Task A) → HoldsThese banks shards held → Wants place banks held.new_port task → HoldsNeededBanks place held task
  named_held banks shards held task these wants = λ want at. has_banks held banks (λ p. is_among p (ports_to_hold want.op held.new_port) ≡ true) these.banks (wants want at)

-- the shard of a new wait is held
pub seen_held : {A : Type 0} (banks shards : Homes) (held : Held A) (q : Planned) → HoldsThese banks shards held → IsSeen (has_home shards) held.new_wait q → IsSeen (holds_shards held) held.new_wait q
seen_held banks shards held (to_look w) these e = e
seen_held banks shards held (to_park bs) these e = these.shards (home held.new_wait) (home_below held.new_wait) ∙ e
seen_held banks shards held (to_post bs) these e = these.shards (home held.new_wait) (home_below held.new_wait) ∙ e
seen_held banks shards held (to_do k b alts) these e = e
seen_held banks shards held (to_meet k b alts w o) these e = e
seen_held banks shards held (to_default v) these e = e
seen_held banks shards held (to_make what) these e = e
seen_held banks shards held (to_spawn kind r) these e = e
seen_held banks shards held (to_close p) these e = e
seen_held banks shards held (to_register name args) these e = e
seen_held banks shards held (to_print line) these e = e
seen_held banks shards held (to_prune p side i) these e = e
seen_held banks shards held (to_refuse f) these e = e

-- a plan that hangs on no other shard is one of an event, or one of these
pub decided_else : (shards : ℕ → Bool) (v : ℕ) (p : Plan) → IsSeen shards v (plan_view p) → ((port : PortId) (side : Side) (place : ℕ) → p ≡ P.Prune port side place → ⊥) → IsEventOrRefusal (plan_view p)
decided_else shards v (P.Look w) seen prunes = seen
decided_else shards v (P.Prune port side place) seen prunes = prunes port side place refl
decided_else shards v (P.Done c) seen prunes = tt
decided_else shards v (P.Meet c w o) seen prunes = tt
decided_else shards v (P.Park j) seen prunes = tt
decided_else shards v (P.Post j) seen prunes = tt
decided_else shards v (P.Default x) seen prunes = tt
decided_else shards v (P.Make what) seen prunes = tt
decided_else shards v (P.Spawn kind r) seen prunes = tt
decided_else shards v (P.Close port) seen prunes = tt
decided_else shards v (P.Register name args again) seen prunes = tt
decided_else shards v (P.Print line) seen prunes = tt
decided_else shards v (P.Refused f) seen prunes = tt

-- a refusal is one of the plans
pub refused_is : (p : Plan) (f : Fault) → plan_view p ≡ to_refuse f → p ≡ P.Refused f
refused_is (P.Refused g) f e = ap P.Refused (same g f e) where
  same : (x y : Fault) → to_refuse x ≡ to_refuse y → x ≡ y
  same x y e = cc
refused_is (P.Look w) f e = absurd (let k : to_look w.n ≡ to_refuse f = e in cc)
refused_is (P.Prune port side place) f e = absurd (let k : to_prune port.n side place ≡ to_refuse f = e in cc)
refused_is (P.Done c) f e = absurd (let k : plan_view (P.Done c) ≡ to_refuse f = e in cc)
refused_is (P.Meet c w o) f e = absurd (let k : plan_view (P.Meet c w o) ≡ to_refuse f = e in cc)
refused_is (P.Park j) f e = absurd (let k : plan_view (P.Park j) ≡ to_refuse f = e in cc)
refused_is (P.Post j) f e = absurd (let k : plan_view (P.Post j) ≡ to_refuse f = e in cc)
refused_is (P.Default x) f e = absurd (let k : plan_view (P.Default x) ≡ to_refuse f = e in cc)
refused_is (P.Make what) f e = absurd (let k : plan_view (P.Make what) ≡ to_refuse f = e in cc)
refused_is (P.Spawn kind r) f e = absurd (let k : plan_view (P.Spawn kind r) ≡ to_refuse f = e in cc)
refused_is (P.Close port) f e = absurd (let k : plan_view (P.Close port) ≡ to_refuse f = e in cc)
refused_is (P.Register name args again) f e = absurd (let k : plan_view (P.Register name args again) ≡ to_refuse f = e in cc)
refused_is (P.Print line) f e = absurd (let k : plan_view (P.Print line) ≡ to_refuse f = e in cc)
