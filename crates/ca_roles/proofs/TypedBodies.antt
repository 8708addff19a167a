-- What a typed body asks for, and what it goes on to.
use Rattle.std.proofs.Common.{◌≡◌, inl, inr, ℕ, length, [], ◌∷◌, ◌++◌, refl, sym, ap, ◌∙◌, subst, arith, true, false, Option, Some, None}
use Rattle.std.specs.Prelude.{Ok, Err}
use Rattle.ca_value.specs.Tree.{Tree, port}
use Rattle.ca_term.specs.declared.place.Place.{Place}
use Rattle.ca_term.specs.declared.event.Side.{Side}
use Rattle.ca_term.specs.declared.event.Side.TheVariants.{Take, Put}
use Rattle.ca_term.specs.declared.head.Head.TheVariants.{Spawn}
use Rattle.ca_term.specs.declared.head.SeedKind.{SeedKind}
use Rattle.ca_term.specs.declared.head.SeedKind.TheVariants.{Go, System}
use Rattle.ca_term.specs.Kernel.{Kernel, Kernels}
use Rattle.ca_term.specs.Fits.{Known, count_terms, Suits, Fits}
use Rattle.ca_term.specs.Operation.{OpView, WhatView, SeedView, go, system, taking, putting, choosing, posting, making, spawning, closing, registering, printing}
use Rattle.ca_term.specs.Program.{ProgramView, IsProgram, known_in}
use Rattle.ca_meaning.specs.Applied.{Returned, Applied, Work, Outputs, outputs, no_outputs, Outs}
use Rattle.ca_meaning.specs.Asking.{alts_of, seed_of}
use Rattle.ca_meaning.specs.Asks.{to}
use Rattle.ca_meaning.specs.Body.{BodyView, at}
use Rattle.ca_meaning.specs.IsBody.{IsBodyBy}
use Rattle.ca_meaning.specs.Operands.{port_of_value, last_of, without_last, values_in}
use Rattle.ca_meaning.specs.PipelineTable.{job_works, worked_by}
use Rattle.ca_meaning.specs.PubTable.{PubPorts, pub_sorts, sorted_by}
use Rattle.ca_meaning.specs.Redex.{redex, values_of}
use Rattle.ca_meaning.specs.Refusal.{unfit, too_many, refusal}
use Rattle.ca_meaning.specs.Started.{named, procedure_at}
use Rattle.ca_meaning.specs.State.{State}
use Rattle.ca_meaning.specs.System.{SystemBody, a_job, a_pub, SystemRest}
use Rattle.ca_meaning.specs.Task.{TaskBody, script, system_task, body_fill, BodyRest, new_task}
use Rattle.ca_meaning.specs.Going.{IsAtOp}
use Rattle.ca_meaning.proofs.Systems.{is_firm}
use Rattle.ca_meaning.proofs.TaskBodies.{IsOf}
use Rattle.ca_meaning.proofs.Bodies.{filled, taken}
use Rattle.ca_meaning.proofs.Closed.{named-closed}
use Rattle.ca_meaning.proofs.PutFits.{puts-fits}
use Rattle.ca_meaning.proofs.RedexFits.{seat}
use Rattle.ca_meaning.proofs.Refusals.{or_none}
use Rattle.ca_roles.specs.Roles.{Hidden, jobs, replies, reply, acks, Role, public, hidden, Roles, IsPublic, IsReply, CarriesAs}
use Rattle.ca_roles.specs.Sealed.{IsSealed}
use Rattle.ca_roles.specs.Users.{Uses, MayUse}
use Rattle.ca_roles.specs.Typed.{IsPublicPort, TypedPub, TypedJob, TypedNext, TypedSystem, TypedBody, MayAsk}
use Rattle.ca_roles.proofs.Starting.{same_roles}
use Rattle.ca_roles.proofs.Forms.{Form, takes, puts, posts, chooses, makes, spawns, closes, registers, prints, body_form}
use Rattle.ca_roles.proofs.Rested.{rest_sealed, fill_sealed}
use Rattle.ca_roles.proofs.Scripted.{SystemSeeds, script_asks, enough_values}
use Rattle.ca_roles.proofs.Seeds.{system_seed}
use Rattle.ca_roles.proofs.SystemAsks.{system_asks}
use Rattle.ca_roles.proofs.Outputs.{topic_public, outs_public}
use Rattle.ca_roles.proofs.Following.{IsAnswer, system_goes}

-- a script's text is one of the checked program
abbrev pub IsChecked : Known → TaskBody → Type 0
IsChecked known (script b) = IsBodyBy (Suits known) b.term
IsChecked known (system_task b) = Unit {0}

-- no script uses a hidden port
script_apart : (side : Side) (p : ℕ) (h : Hidden) (b : BodyView) → Uses side p h (script b) → ⊥
script_apart Take p (jobs w) b k = let e = k.1 in absurd cc
script_apart Take p (replies w) b k = let e = k.3 in absurd cc
script_apart Take p (reply w v) b k = let e = k.2 in absurd cc
script_apart Take p acks b k = let e = k.3 in absurd cc
script_apart Put p (jobs w) b k = let e = k.3 in absurd cc
script_apart Put p (replies w) b k = let e = k.3 in absurd cc
script_apart Put p (reply w v) b k = let e = k.2 in absurd cc
script_apart Put p acks b k = let e = k.3 in absurd cc

pub script_use : (roles : Roles) (side : Side) (p : ℕ) (b : BodyView) → MayUse (roles p) side p (script b) → IsPublicPort roles p
script_use roles side p b k = by (roles p) refl k where
  by : (o : Option Role) → roles p ≡ o → MayUse o side p (script b) → IsPublicPort roles p
  by None e k = absurd k
  by (Some public) e k = e
  by (Some (hidden t h)) e k = absurd (script_apart side p h b k)

module _ (program : ProgramView) (checked : IsProgram program) (sealed : IsSealed program) where
  abbrev known : Known
  known = known_in checked.plain program

  seeds : (me : ℕ) (roles : Roles) (s : State) → SystemSeeds program known me roles s
  seeds me roles s kind ts p h f e u = system_seed program me roles s kind ts p h u

  pub body_asks : (me : ℕ) (roles : Roles) (s : State) (b : TaskBody) (op : OpView) → TypedBody program me roles b → IsChecked known b → IsAtOp b op → refusal s op ≡ None → MayAsk program roles b op
  body_asks me roles s (script b) op h c at r = script_asks program checked sealed me roles s (seeds me roles s) b op at.0 h c at.1 r
  body_asks me roles s (system_task b) op h c at r = system_asks program roles s b op h at (or_none (unfit s op) (too_many s op) r).0

  -- what answers a script's operation is public
  answer_public : (roles : Roles) (b : BodyView) (op : OpView) (a : Tree) → MayAsk program roles (script b) op → IsAnswer program roles op a → IsPublic roles a
  answer_public roles b (taking c) a may (inl n) = subst (IsPublic roles) (sym n) tt
  answer_public roles b (taking c) a may (inr k) = subst (λ (o : Option Role). CarriesAs program roles o a) (ap (λ v. roles (port_of_value v)) may.1 ∙ script_use roles Take may.0 b may.2) k
  answer_public roles b (making what) a may k = absurd k
  answer_public roles b (putting c v) a may k = k
  answer_public roles b (choosing ports priority default) a may k = k
  answer_public roles b (posting c v) a may k = k
  answer_public roles b (spawning seed) a may k = k
  answer_public roles b (closing c) a may k = k
  answer_public roles b (registering name args) a may k = k
  answer_public roles b (printing line) a may k = k

  no_make : (roles : Roles) (op : OpView) (a : Tree) → IsAnswer program roles op a → (what : WhatView) → op ≡ making what → ⊥
  no_make roles op a k what e = subst (λ z. IsAnswer program roles z a) e k

  -- the body with an answer in place of its operation
  pub body_goes : (me : ℕ) (roles : Roles) (b : TaskBody) (op : OpView) (a : Tree) → TypedBody program me roles b → IsAtOp b op → MayAsk program roles b op → IsAnswer program roles op a → TypedBody program me roles (body_fill a b)
  body_goes me roles (script b) op a h at may k = fill_sealed me roles roles b a op at.0 at.1 (no_make roles op a k) (same_roles roles) h (answer_public roles b op a may k)
  body_goes me roles (system_task b) op a h at may k = system_goes program roles b op a h at k

  pub filled_checked : (b : TaskBody) (a : Tree) → IsChecked known b → IsChecked known (body_fill a b)
  filled_checked (script b) a c = filled (Suits known) a b.term c
  filled_checked (system_task b) a c = tt

  -- the outputs and the topic of a public value
  sorted_typed : (roles : Roles) (t : PubPorts) (v : Tree) (p : Place) (r : Returned) → Applied program t.topic t.keyword p v r → IsPublic roles v → IsPublic roles t.keyword → TypedNext (TypedPub roles) (sorted_by v r)
  sorted_typed roles t v p (Ok topic) a h k = (topic_public program sealed roles t.topic t.keyword p v topic h k a, h)
  sorted_typed roles t v p (Err f) a h k = tt

  worked_typed : (roles : Roles) (w : Work) (v : Tree) (r : ℕ) (o : Outputs) → Outs program w v o → IsPublic roles v → IsPublic roles w.keyword → IsReply roles w r v → TypedNext (TypedJob program roles w) (worked_by r o)
  worked_typed roles w v r (outputs ys) o h k i = (v, i, o, outs_public program sealed roles w v ys h k o)
  worked_typed roles w v r (no_outputs f) o h k i = tt

  system_rest : (roles : Roles) (b c : SystemBody) → SystemRest program b c → TypedSystem program roles b → TypedSystem program roles c
  system_rest roles (a_pub t p (to (pub_sorts v))) c r h = subst (TypedSystem program roles) (sym r.2) (h.0, h.1, h.2, sorted_typed roles t v p r.0 r.1 h.3 h.2)
  system_rest roles (a_job j w (to (job_works v q))) c r h = subst (TypedSystem program roles) (sym r.2) (h.0, h.1, h.2, worked_typed roles w v q r.0 r.1 h.3.0 h.2 h.3.1)
  system_rest roles b c r h = subst (TypedSystem program roles) (sym r) h

  -- after its local steps
  pub rest_typed : (me : ℕ) (roles : Roles) (b c : TaskBody) → BodyRest program b c → IsChecked known b → TypedBody program me roles b → TypedBody program me roles c
  rest_typed me roles (script b) c r k h = subst (TypedBody program me roles) (sym r.2) (rest_sealed program checked sealed me roles b r.0 r.1 k h)
  rest_typed me roles (system_task b) c r k h = subst (TypedBody program me roles) (sym r.2) (system_rest roles b r.0 r.1 h)

  -- the text of a go block
  go_checked : (target : Option ℕ) (n : ℕ) (ts : Kernels) (p : Place) → Suits known target (Spawn (Go n)) (count_terms ts) → IsChecked known (new_task program (seed_of (Go n) (values_of ts) p))
  go_checked target n ts p f =
      let text = taken known program.bodies n (count_terms ts) checked.bodies_fit f in
      let given = values_in (without_last (values_of ts)) ++ port (port_of_value (last_of (values_of ts))) ∷ [] in
      let many = enough_values ts (port_of_value (last_of (values_of ts))) in
      let arity : length (procedure_at program.bodies n).parameters ≡ count_terms ts = text.1 in
      record {
        bound = named-closed (procedure_at program.bodies n).parameters given (procedure_at program.bodies n).body (omega (arith, many, arity)) text.0.bound;
        fits = puts-fits (Suits known) (named (procedure_at program.bodies n).parameters given) None (procedure_at program.bodies n).body text.0.fits;
      }

  seed_checked : (target : Option ℕ) (kind : SeedKind) (ts : Kernels) (p : Place) → Suits known target (Spawn kind) (count_terms ts) → IsChecked known (new_task program (seed_of kind (values_of ts) p))
  seed_checked target (Go n) ts p f = go_checked target n ts p f
  seed_checked target (System kind) ts p f = tt

  form_checked : (target : Option ℕ) (r : Kernel) (op : OpView) (seed : SeedView) → Form r op → op ≡ spawning seed → Fits (Suits known) target r → IsChecked known (new_task program seed)
  form_checked target r op seed (spawns {kind} {ts} {p} e) is f = subst (λ z. IsChecked known (new_task program z)) (let k : seed_of kind (values_of ts) p ≡ seed = cc in k) (seed_checked target kind ts p f.0)
  form_checked target r op seed takes is f = absurd cc
  form_checked target r op seed puts is f = absurd cc
  form_checked target r op seed posts is f = absurd cc
  form_checked target r op seed (chooses {o} {ts} {p}) is f = absurd (let k : alts_of o (values_of ts) ≡ spawning seed = is in cc)
  form_checked target r op seed (makes what e) is f = absurd cc
  form_checked target r op seed closes is f = absurd cc
  form_checked target r op seed (registers e) is f = absurd cc
  form_checked target r op seed prints is f = absurd cc

  -- a new task's text is one of the program
  pub start_checked : (b : TaskBody) (seed : SeedView) → IsOf known b → IsAtOp b (spawning seed) → IsChecked known (new_task program seed)
  start_checked (script b) seed k at = let f = seat (Suits known) None b.term k.fits in form_checked f.target (redex b.term) (spawning seed) seed (body_form b (record { op = spawning seed; place = at.0 }) at.1) refl f.fits
  start_checked (system_task b) (system kind values place) k at = tt
  start_checked (system_task b) (go n values result place) k at = absurd (let e : true ≡ false = sym k ∙ ap is_firm at.1 in cc)
