-- A kind of system task keeps to a rule in every journal, where each row of its table does.
use Rattle.std.proofs.Common.{Bool, true, false, ◌≡◌, inl, inr, ℕ, List, [], ◌∷◌, ◌++◌, refl, sym, ap, ◌∙◌, subst, true, Option, Some, None, append_assoc, append-nil}
use Rattle.ca_value.specs.Tree.{Tree, Trees, nil}
use Rattle.ca_term.specs.declared.place.Place.{Place}
use Rattle.ca_term.specs.declared.fault.Fault.{Fault}
use Rattle.ca_term.specs.declared.event.Ending.{Ending}
use Rattle.ca_term.specs.declared.event.TaskKind.{TaskKind}
use Rattle.ca_term.specs.declared.head.PlainFunction.{PlainFunction}
use Rattle.ca_term.specs.declared.head.Transform.{Transform}
use Rattle.ca_term.specs.declared.head.SystemTask.{SystemTask}
use Rattle.ca_term.specs.Operation.{OpView, WantView, taking, putting, choosing, posting, making, spawning, closing, registering, printing, SeedView, go, system}
use Rattle.ca_term.specs.Program.{ProgramView}
use Rattle.ca_term.specs.Event.{EventView, spawned}
use Rattle.ca_meaning.specs.Body.{At, at_op, faulted, ended, asking}
use Rattle.ca_meaning.specs.TaskSteps.{kind_of, kind_of_system}
use Rattle.ca_meaning.specs.Choice.{branches_of, parks as may_park}
use Rattle.ca_meaning.specs.Asks.{Ask, Next, to, stop, fail, stands_at}
use Rattle.ca_meaning.specs.System.{SystemBody, new_system, system_fill, SystemRest}
use Rattle.ca_meaning.specs.Task.{TaskBody, system_task, body_fill, BodyRest}
use Rattle.ca_meaning.specs.State.{State}
use Rattle.ca_meaning.specs.Going.{IsAtOp, RunsAtOperation}
use Rattle.ca_meaning.specs.Steps.{Steps}
use Rattle.ca_meaning.specs.Legal.{Reaches}
use Rattle.ca_meaning.proofs.ChannelLaws.{steps_split}
use Rattle.ca_laws.specs.Deeds.{Deed, did_wait, did_end, deeds, IsDeedOf}
use Rattle.ca_laws.specs.Rules.{IsAllowed, KeepsTo, AllKeepTo, SpawnsFrom}
use Rattle.ca_laws.proofs.Acts.{Replies, got, gave, chose, chose_put, chose_default, posts, posts_late, creates, starts, shuts, enrols, prints}
use Rattle.ca_laws.proofs.Keeping.{KeepsStages, InStage, stays_in}

-- each of the deeds is allowed after those before it
abbrev AllAllowed : (List Deed → OpView → Type 0) → List Deed → List Deed → Type 0
AllAllowed Rule before [] = Unit {0}
AllAllowed Rule before (d ∷ ds) = IsAllowed Rule before d × AllAllowed Rule (before ++ d ∷ []) ds

allowed_more : (Rule : List Deed → OpView → Type 0) (before ds : List Deed) (d : Deed) → AllAllowed Rule before ds → IsAllowed Rule (before ++ ds) d → AllAllowed Rule before (ds ++ d ∷ [])
allowed_more Rule before [] d a k = (subst (λ z. IsAllowed Rule z d) (append-nil before) k, tt)
allowed_more Rule before (c ∷ ds) d a k = (a.0, allowed_more Rule (before ++ c ∷ []) ds d a.1 (subst (λ z. IsAllowed Rule z d) (sym (append_assoc before (c ∷ []) ds)) k))

allowed_at : (Rule : List Deed → OpView → Type 0) (early before after : List Deed) (d : Deed) → AllAllowed Rule early (before ++ d ∷ after) → IsAllowed Rule (early ++ before) d
allowed_at Rule early [] after d a = subst (λ z. IsAllowed Rule z d) (sym (append-nil early)) a.0
allowed_at Rule early (c ∷ before) after d a = subst (λ z. IsAllowed Rule z d) (append_assoc early (c ∷ []) before) (allowed_at Rule (early ++ c ∷ []) before after d a.1)

-- a deed that answers an operation is of it
replied : (op : OpView) (d : Deed) (a : Tree) → Replies op d a → IsDeedOf op d
replied op d a (got {c} is) = subst (IsDeedOf (taking c)) (sym is) refl
replied op d a (gave {c} {v} is pa) = subst (IsDeedOf (putting c v)) (sym is) refl
replied op d a (chose {ports} {priority} {default} k p v is slot an) = subst (IsDeedOf (choosing ports priority default)) (sym is) slot
replied op d a (chose_put {ports} {priority} {default} k p u v is slot an pa) = subst (IsDeedOf (choosing ports priority default)) (sym is) slot
replied op d a (chose_default {ports} {priority} {default} v is df an) = subst (IsDeedOf (choosing ports priority default)) (sym is) df
replied op d a (posts {c} {v} is pa) = subst (IsDeedOf (posting c v)) (sym is) refl
replied op d a (posts_late {c} {v} w is an) = subst (IsDeedOf (posting c v)) (sym is) (c, refl, refl)
replied op d a (creates {what} p moment is an) = subst (IsDeedOf (making what)) (sym is) refl
replied op d a (starts {seed} u is an) = subst (IsDeedOf (spawning seed)) (sym is) (seed, refl, refl, refl)
replied op d a (shuts {c} is an) = subst (IsDeedOf (closing c)) (sym is) (c, refl, refl)
replied op d a (enrols {name} {args} is) = subst (IsDeedOf (registering name args)) (sym is) refl
replied op d a (prints {line} is an) = subst (IsDeedOf (printing line)) (sym is) refl

pub asked : (p : Place) (o : Option Fault) (op : OpView) (want : WantView) → asking p o op ≡ at_op want → want.op ≡ op
asked p None op want e = ap (λ (w : WantView). w.op) (let k : want ≡ record { op = op; place = p } = cc in k)
asked p (Some f) op want e = absurd (let k : faulted f p ≡ at_op want = e in cc)

-- a table stands at operations in its states alone, at that of the state's row
pub stands_only : {S : Type 0} (place : Place) (asks : S → Ask) (op_of : S → OpView) (fault_of : S → Option Fault) → ((x : S) → asks x place ≡ asking place (fault_of x) (op_of x))
    → (n : Next S) (op : OpView) (p : Place) → stands_at place asks n ≡ at_op (record { op = op; place = p }) → (x : S) × (n ≡ to x) × (op ≡ op_of x)
stands_only place asks op_of fault_of rows (to x) op p e = (x, refl, asked place (fault_of x) (op_of x) (record { op = op; place = p }) (sym (rows x) ∙ e))
stands_only place asks op_of fault_of rows stop op p e = absurd (let j : ended nil ≡ at_op (record { op = op; place = p }) = e in cc)
stands_only place asks op_of fault_of rows (fail f) op p e = absurd (let j : faulted f place ≡ at_op (record { op = op; place = p }) = e in cc)

-- What is to be shown of a table: At tells what its deeds are where it stands in a state.
pub record Keeps (program : ProgramView) {S : Type 0} (body : Next S → SystemBody) (op_of : S → OpView) (At : Next S → List Deed → Type 0) (Rule : List Deed → OpView → Type 0) : Type 0 where
  pub only : (n : Next S) (op : OpView) → IsAtOp (system_task (body n)) op → (x : S) × (n ≡ to x) × (op ≡ op_of x)
  pub allowed : (x : S) (ds : List Deed) → At (to x) ds → Rule ds (op_of x)
  pub waits : (x : S) (ds : List Deed) (w : ℕ) → At (to x) ds → may_park (op_of x) ≡ true → At (to x) (ds ++ did_wait w (branches_of (op_of x)) ∷ [])
  pub ends : (n : Next S) (ds : List Deed) (how : Ending) → At n ds → At n (ds ++ did_end how ∷ [])
  pub answered : (x : S) (ds : List Deed) (d : Deed) (a : Tree) (c : SystemBody) → At (to x) ds → Replies (op_of x) d a → SystemRest program (system_fill a (body (to x))) c → (n : Next S) × (c ≡ body n) × At n (ds ++ d ∷ [])

-- the body stands in the table there
abbrev InRow : {S : Type 0} → (Next S → SystemBody) → Next S → TaskBody → Type 0
InRow body n b = b ≡ system_task (body n)

-- and these deeds, each of which was allowed, are its
abbrev WasAllowed : {S : Type 0} → (Next S → List Deed → Type 0) → (List Deed → OpView → Type 0) → Next S → List Deed → Type 0
WasAllowed At Rule n ds = At n ds × AllAllowed Rule [] ds

module _ (program : ProgramView) {S : Type 0} (body : Next S → SystemBody) (op_of : S → OpView) (At : Next S → List Deed → Type 0) (Rule : List Deed → OpView → Type 0) (keeps : Keeps program body op_of At Rule) where
  -- the state of the table at whose operation a body stands
  state_at : (n : Next S) (b : TaskBody) (op : OpView) (ds : List Deed) → InRow body n b → IsAtOp b op → At n ds → (x : S) × (n ≡ to x) × (op ≡ op_of x) × At (to x) ds
  state_at n b op ds is at k = let o = keeps.only n op (subst (λ c. IsAtOp c op) is at) in (o.0, o.1, o.2, subst (λ m. At m ds) o.1 k)

  allows : (x : S) (op : OpView) (ds : List Deed) → op ≡ op_of x → At (to x) ds → Rule ds op
  allows x op ds same k = subst (Rule ds) (sym same) (keeps.allowed x ds k)

  stages : KeepsStages program (InRow body) (WasAllowed At Rule)
  stages = record {
    waits = λ n b op ds w is at may k.
        let o = state_at n b op ds is at k.0 in
        let did = subst (λ z. At (to o.0) (ds ++ did_wait w (branches_of z) ∷ [])) (sym o.2) (keeps.waits o.0 ds w o.3 (ap may_park (sym o.2) ∙ may)) in
        (subst (λ m. At m (ds ++ did_wait w (branches_of op) ∷ [])) (sym o.1) did, allowed_more Rule [] ds (did_wait w (branches_of op)) k.1 (inl (op, allows o.0 op ds o.2 o.3, refl)));
    ends = λ n b ds how is v k. (keeps.ends n ds how k.0, allowed_more Rule [] ds (did_end how) k.1 (inr (how, refl)));
    answered = λ n b c op ds d a is at k ans r.
        let o = state_at n b op ds is at k.0 in
        let rest : BodyRest program (system_task (system_fill a (body (to o.0)))) c = subst (λ z. BodyRest program (body_fill a z) c) (is ∙ ap (λ m. system_task (body m)) o.1) r in
        let m = keeps.answered o.0 ds d a rest.0 o.3 (subst (λ z. Replies z d a) o.2 ans) rest.1 in
        (m.0, rest.2 ∙ ap system_task m.1, (m.2, allowed_more Rule [] ds d k.1 (inl (op, allows o.0 op ds o.2 o.3, replied op d a ans))));
  }

  keeping_keeps : (t : ℕ) (journal : List EventView) (s : State) → InStage (InRow body) (WasAllowed At Rule) t journal s → KeepsTo Rule t journal s
  keeping_keeps t journal s k = record {
    did = λ before after d is. allowed_at Rule [] before after d (subst (AllAllowed Rule []) is k.stands.1);
    task = k.task;
    there = k.there;
    asks = λ op at. let o = state_at k.now k.task.body op (deeds t journal) k.is at k.stands.0 in allows o.0 op (deeds t journal) o.2 o.3;
  }

-- the kind that a word tells; for a publication and a job it is no more than one of several
abbrev told_kind : TaskKind → SystemTask
told_kind TaskKind.Go = SystemTask.Mult
told_kind TaskKind.Mult = SystemTask.Mult
told_kind TaskKind.Deliver = SystemTask.Deliver
told_kind TaskKind.Mix = SystemTask.Mix
told_kind TaskKind.Pub = SystemTask.Mult
told_kind TaskKind.Pipe = SystemTask.Pipe
told_kind TaskKind.Merge = SystemTask.Merge
told_kind TaskKind.Onto = SystemTask.Onto
told_kind TaskKind.Feed = SystemTask.Feed
told_kind TaskKind.Job = SystemTask.Mult
told_kind TaskKind.Collect = SystemTask.Collect

abbrev pub is_told : TaskKind → Bool
is_told TaskKind.Pub = false
is_told TaskKind.Job = false
is_told TaskKind.Go = false
is_told kind = true

told_is : (kind : SystemTask) → is_told (kind_of_system kind) ≡ true → told_kind (kind_of_system kind) ≡ kind
told_is SystemTask.Mult h = refl
told_is SystemTask.Deliver h = refl
told_is SystemTask.Mix h = refl
told_is (SystemTask.Pub f) h = cc
told_is SystemTask.Pipe h = refl
told_is SystemTask.Merge h = refl
told_is SystemTask.Onto h = refl
told_is SystemTask.Feed h = refl
told_is (SystemTask.Job x f) h = cc
told_is SystemTask.Collect h = refl

-- the seed of a system task
seed_of : (seed : SeedView) (kind : SystemTask) → is_told (kind_of_system kind) ≡ true → kind_of seed ≡ kind_of_system kind → (values : Trees) × (place : Place) × (seed ≡ system kind values place)
seed_of (go n values result place) kind t e = absurd (let k : false ≡ true = ap is_told e ∙ t in cc)
seed_of (system other values place) kind t e = (values, place, ap (λ z. system z values place) (sym (told_is other (ap is_told e ∙ t)) ∙ ap told_kind e ∙ told_is kind t))

-- a task of the kind that is spawned from these values keeps to their rule
pub keeps_from : (program : ProgramView) (kind : SystemTask) (Rule : Trees → Place → List Deed → OpView → Type 0) {S : Type 0} (body : Trees → Place → Next S → SystemBody) (op_of : Trees → Place → S → OpView) (At : Trees → Place → Next S → List Deed → Type 0)
    → ((values : Trees) (place : Place) → Keeps program (body values place) (op_of values place) (At values place) (Rule values place))
    → ((values : Trees) (place : Place) (c : SystemBody) → SystemRest program (new_system kind values place) c → (n : Next S) × (c ≡ body values place n) × At values place n [])
    → (journal : List EventView) (s : State) (r : Reaches program journal s) (early late : List EventView) (u t : ℕ) (result : Option ℕ) → journal ≡ early ++ spawned u t (kind_of_system kind) result ∷ late
    → (m : (mid : State) × Steps program r.opening early mid × Steps program mid (spawned u t (kind_of_system kind) result ∷ late) s) (v : Trees) (l : Place) → m.2.1.1 ≡ system kind v l
    → SpawnsFrom program early u (system kind v l) × KeepsTo (Rule v l) t journal s
keeps_from program kind Rule body op_of At keeps begins journal s r early late u t result is m v l seed =
    let k = m.2 in
    let from : SpawnsFrom program early u (system kind v l) = record { before = m.0; reaches = record { opening = r.opening; opens = r.opens; steps = m.1 }; spawner = k.1.0; stands = subst (λ z. RunsAtOperation m.0 u (spawning z) k.1.0) seed k.1.4 } in (
      from,
      keeping_keeps program (body v l) (op_of v l) (At v l) (Rule v l) (keeps v l) t journal s
          (stays_in program (InRow (body v l)) (WasAllowed (At v l) (Rule v l)) (stages program (body v l) (op_of v l) (At v l) (Rule v l) (keeps v l)) journal early late s u t (kind_of_system kind) result (system kind v l) r is from
          (λ c q. let n = begins v l q.0 q.1 in (n.0, q.2 ∙ ap system_task n.1, (n.2, tt)))),
    )

pub spawned_at : (program : ProgramView) (journal : List EventView) (s : State) (r : Reaches program journal s) (early late : List EventView) (u t : ℕ) (word : TaskKind) (result : Option ℕ) → journal ≡ early ++ spawned u t word result ∷ late
    → (mid : State) × Steps program r.opening early mid × Steps program mid (spawned u t word result ∷ late) s
spawned_at program journal s r early late u t word result is = steps_split program early (spawned u t word result ∷ late) r.opening s (subst (λ j. Steps program r.opening j s) is r.steps)

-- all tasks of a kind that its word tells keep to the rule of their values
pub all_keep_to : (program : ProgramView) (kind : SystemTask) → is_told (kind_of_system kind) ≡ true → (Rule : Trees → Place → List Deed → OpView → Type 0) {S : Type 0} (body : Trees → Place → Next S → SystemBody) (op_of : Trees → Place → S → OpView) (At : Trees → Place → Next S → List Deed → Type 0)
    → ((values : Trees) (place : Place) → Keeps program (body values place) (op_of values place) (At values place) (Rule values place))
    → ((values : Trees) (place : Place) (c : SystemBody) → SystemRest program (new_system kind values place) c → (n : Next S) × (c ≡ body values place n) × At values place n [])
    → (journal : List EventView) (s : State) → Reaches program journal s → AllKeepTo kind Rule program journal s
all_keep_to program kind told Rule body op_of At keeps begins journal s r early late u t result is =
    let m = spawned_at program journal s r early late u t (kind_of_system kind) result is in
    let seed = seed_of m.2.1.1 kind told m.2.1.6 in
    let k = keeps_from program kind Rule body op_of At keeps begins journal s r early late u t result is m seed.0 seed.1 seed.2 in
    (seed.0, seed.1, k.0, k.1)

-- the seeds of a publication and of a job
pub pub_seed : (seed : SeedView) → kind_of seed ≡ TaskKind.Pub → (f : PlainFunction) × (values : Trees) × (place : Place) × (seed ≡ system (SystemTask.Pub f) values place)
pub_seed (system (SystemTask.Pub f) values place) e = (f, values, place, refl)
pub_seed (go n values result place) e = cc
pub_seed (system SystemTask.Mult values place) e = cc
pub_seed (system SystemTask.Deliver values place) e = cc
pub_seed (system SystemTask.Mix values place) e = cc
pub_seed (system SystemTask.Pipe values place) e = cc
pub_seed (system SystemTask.Merge values place) e = cc
pub_seed (system SystemTask.Onto values place) e = cc
pub_seed (system SystemTask.Feed values place) e = cc
pub_seed (system (SystemTask.Job x f) values place) e = cc
pub_seed (system SystemTask.Collect values place) e = cc

pub job_seed : (seed : SeedView) → kind_of seed ≡ TaskKind.Job → (x : Transform × PlainFunction) × (values : Trees) × (place : Place) × (seed ≡ system (SystemTask.Job x.0 x.1) values place)
job_seed (system (SystemTask.Job x f) values place) e = ((x, f), values, place, refl)
job_seed (go n values result place) e = cc
job_seed (system SystemTask.Mult values place) e = cc
job_seed (system SystemTask.Deliver values place) e = cc
job_seed (system SystemTask.Mix values place) e = cc
job_seed (system SystemTask.Pipe values place) e = cc
job_seed (system SystemTask.Merge values place) e = cc
job_seed (system SystemTask.Onto values place) e = cc
job_seed (system SystemTask.Feed values place) e = cc
job_seed (system (SystemTask.Pub f) values place) e = cc
job_seed (system SystemTask.Collect values place) e = cc
