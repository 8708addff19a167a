-- What a collect took and what it offered.
use Rattle.std.proofs.Common.{◌≡◌, ◌≢◌, inl, inr, ℕ, List, [], ◌∷◌, ◌++◌, refl, sym, ap, ◌∙◌, subst, Bool, true, false, cond, Option, Some, None, append_assoc, append-nil}
use Rattle.ca_value.specs.Tree.{Tree, Trees, vector, none, item, items_of}
use Rattle.ca_term.specs.declared.place.Place.{Place}
use Rattle.ca_term.specs.Program.{ProgramView}
use Rattle.ca_term.specs.Event.{EventView}
use Rattle.ca_meaning.specs.Applied.{Work, outputs, Outs}
use Rattle.ca_meaning.specs.Asks.{Next, to, stop, fail}
use Rattle.ca_meaning.specs.Choice.{branches_of}
use Rattle.ca_meaning.specs.Operands.{truth}
use Rattle.ca_meaning.specs.PipelineTable.{CollectPorts, CollectState, collect_takes, collect_opens, collect_puts, collect_closes, collect_ends, collect_next, outputs_left}
use Rattle.ca_meaning.specs.State.{State, Mode, running, waiting, over}
use Rattle.ca_meaning.specs.Steps.{Step}
use Rattle.ca_meaning.proofs.WaitLaws.{step_told}
use Rattle.ca_laws.specs.Deeds.{Deed, did_take, did_put, did_wait, did_close, did_end, deed}
use Rattle.ca_laws.proofs.Acts.{wait_of, Replies, got, gave, shuts}
use Rattle.ca_laws.proofs.Deeding.{Traced}
use Rattle.ca_roles.specs.Roles.{Roles, IsReply}
use Rattle.ca_networks.specs.Networks.{put_value, offers_at, offered}
use Rattle.ca_networks.specs.PipelineLaw.{Joined, BeginsOutputs}
use Rattle.ca_networks.proofs.Passing.{leaving, leaves, Gets, take_leaves}
use Rattle.ca_networks.proofs.Standing.{Standing, Moves, still, waits, ends, answers, moved}
use Rattle.ca_networks.proofs.Tables.{collect_body, collect_op, collect_table}
use Rattle.ca_networks.proofs.Offered.{offered_more, tells, tells_in, offers_told}
use Rattle.ca_networks.proofs.Carried.{Carry, to_tell, CollectAt, with_nils, joined_more, outputs_same}

pub record Collected (program : ProgramView) (roles : Roles) (w : Work) (c : CollectPorts) (place : Place) (t : ℕ) (journal : List EventView) (s : State) (opened : List Tree) : Type 0 where
  pub at : Standing (collect_body c place) t s
  pub collects : CollectAt program roles w at.now at.task.mode opened (offered t journal)

-- a put is told at its own event, not where its wait is completed
abbrev told_now : Mode → Tree → List Tree
told_now running v = v ∷ []
told_now (waiting w) v = []
told_now over v = v ∷ []

module _ (program : ProgramView) (roles : Roles) (w : Work) (c : CollectPorts) (place : Place) (apart_replies : (p : ℕ) (v : Tree) → IsReply roles w p v → p ≢ c.replies) (t : ℕ) (journal : List EventView) (s s2 : State) (e : EventView) (traced : Traced journal s) (k : Step program s e s2)
    (opened new : List Tree) (m : Collected program roles w c place t journal s opened)
    (carried : Carry roles w (leaves c.replies e) new)
    (replied : (p : ℕ) (v a : Tree) → IsReply roles w p v → leaves p e ≡ a ∷ [] → (ys : Trees) × (a ≡ vector ys) × Outs program w v (outputs ys))
    -- the collect alone takes from the queue
    (alone : ((j : ℕ) (a : Tree) → deed t (wait_of m.at.task.mode) e ≡ Some (did_take j c.replies a) → ⊥) → leaves c.replies e ≡ []) where
  step : (y : Standing (collect_body c place) t s2) × Moves (collect_op c place) (collect_next c) m.at.task y.task m.at.now y.now (deed t (wait_of m.at.task.mode) e)
  step = moved program (collect_body c place) (collect_op c place) (collect_next c) (collect_table c place program) journal s s2 e traced k t m.at

  offers_now : (o : Option Deed) → deed t (wait_of m.at.task.mode) e ≡ o → offers_at t e ≡ tells_in m.at.task.mode o
  offers_now o is = let told = step_told program s s2 traced.known.sound t m.at.task m.at.there e k in offers_told program t m.at.task told.0 e m.at.task.mode told.2 ∙ ap (tells_in m.at.task.mode) is

  so : (n : Next CollectState) (mode : Mode) → step.0.now ≡ n → step.0.task.mode ≡ mode → CollectAt program roles w n mode (opened ++ new) (offered t journal ++ offers_at t e) → Collected program roles w c place t (journal ++ e ∷ []) s2 (opened ++ new)
  so n mode b md at = record { at = step.0; collects = subst (CollectAt program roles w step.0.now step.0.task.mode (opened ++ new)) (sym (offered_more t journal e)) (subst (λ z. CollectAt program roles w step.0.now z (opened ++ new) (offered t journal ++ offers_at t e)) (sym md) (subst (λ z. CollectAt program roles w z mode (opened ++ new) (offered t journal ++ offers_at t e)) (sym b) at)) }

  at_is : (n : Next CollectState) → m.at.now ≡ n → CollectAt program roles w n m.at.task.mode opened (offered t journal)
  at_is n mn = subst (λ n. CollectAt program roles w n m.at.task.mode opened (offered t journal)) mn m.collects

  not_take : (d : Deed) → deed t (wait_of m.at.task.mode) e ≡ Some d → ((j : ℕ) (a : Tree) → d ≡ did_take j c.replies a → ⊥) → leaves c.replies e ≡ []
  not_take d is ne = alone (λ j a q. ne j a (let i : Some d ≡ Some (did_take j c.replies a) = sym is ∙ q in cc))

  none_opened : leaves c.replies e ≡ [] → new ≡ []
  none_opened z = subst (λ i. Carry roles w i new) z carried

  silent : (d : Deed) → tells (Some d) ≡ [] → (mode : Mode) → tells_in mode (Some d) ≡ []
  silent d z running = z
  silent d z (waiting n) = refl
  silent d z over = z

  silent_none : (mode : Mode) → tells_in mode None ≡ []
  silent_none running = refl
  silent_none (waiting n) = refl
  silent_none over = refl

  offers_none : (d c : Deed) → deed t (wait_of m.at.task.mode) e ≡ Some d → d ≡ c → tells (Some c) ≡ [] → offers_at t e ≡ []
  offers_none d b is de z = offers_now (Some d) is ∙ ap (λ i. tells_in m.at.task.mode (Some i)) de ∙ silent b z m.at.task.mode

  same_outputs : (n : Next CollectState) → m.at.now ≡ n → leaves c.replies e ≡ [] → offers_at t e ≡ [] → BeginsOutputs program w opened (offered t journal) → BeginsOutputs program w (opened ++ new) (offered t journal ++ offers_at t e)
  same_outputs n mn z pt b = with_nils (λ i j. BeginsOutputs program w i j) opened (offered t journal) new (offers_at t e) (none_opened z) pt b

  -- the outputs that are left
  left : (us : Trees) (hs zs : List Tree) → Joined program w hs (zs ++ items_of us) → CollectAt program roles w (outputs_left us) running hs zs
  left none hs zs j = subst (Joined program w hs) (append-nil zs) j
  left (item u us) hs zs j = j

  answered : (st : CollectState) → m.at.now ≡ to st → (d : Deed) (a : Tree) → deed t (wait_of m.at.task.mode) e ≡ Some d → Replies (collect_op c place st) d a → CollectAt program roles w (collect_next c a st) running (opened ++ new) (offered t journal ++ offers_at t e)
  answered collect_takes mn d a is (got de) = next (offers_none d (did_take 0 c.replies a) is de refl) (take_leaves t (wait_of m.at.task.mode) e 0 c.replies a (is ∙ ap (λ z. Some z) de)) where
    over_now : new ≡ [] → offers_at t e ≡ [] → (b : Bool) → CollectAt program roles w (cond b (to collect_closes) (to collect_ends)) running (opened ++ new) (offered t journal ++ offers_at t e)
    over_now z pt true = subst (BeginsOutputs program w (opened ++ new)) (sym (append-nil (offered t journal)) ∙ ap (λ i. offered t journal ++ i) (sym pt)) (outputs_same program w opened (offered t journal) (at_is (to collect_takes) mn) new)
    over_now z pt false = subst (BeginsOutputs program w (opened ++ new)) (sym (append-nil (offered t journal)) ∙ ap (λ i. offered t journal ++ i) (sym pt)) (outputs_same program w opened (offered t journal) (at_is (to collect_takes) mn) new)

    next : offers_at t e ≡ [] → Gets e c.replies a → CollectAt program roles w (collect_next c a collect_takes) running (opened ++ new) (offered t journal ++ offers_at t e)
    next pt (inr z) = subst (λ i. CollectAt program roles w (collect_next c i collect_takes) running (opened ++ new) (offered t journal ++ offers_at t e)) (sym z.0) (over_now (none_opened (ap leaving z.1)) pt c.closes)
    next pt (inl lv) =
        let r : Carry roles w (a ∷ []) new = subst (λ i. Carry roles w i new) lv carried in
        let one : new ≡ r.1 ∷ [] = r.5 ∙ ap (λ i. r.1 ∷ i) r.6 in
        subst (λ i. CollectAt program roles w (collect_next c i collect_takes) running (opened ++ new) (offered t journal ++ offers_at t e)) (sym r.3)
        (r.1, opened, r.4, subst (Joined program w opened) (sym (append-nil (offered t journal)) ∙ ap (λ i. offered t journal ++ i) (sym pt)) (at_is (to collect_takes) mn), ap (λ i. opened ++ i) one)
  answered (collect_opens p) mn d a is (got de) = next (not_take d is (λ j b q. apart_replies p h.0 h.2 (let i : did_take 0 p a ≡ did_take j c.replies b = sym de ∙ q in cc))) (offers_none d (did_take 0 p a) is de refl) (take_leaves t (wait_of m.at.task.mode) e 0 p a (is ∙ ap (λ z. Some z) de)) where
    h : CollectAt program roles w (to (collect_opens p)) m.at.task.mode opened (offered t journal)
    h = at_is (to (collect_opens p)) mn

    next : leaves c.replies e ≡ [] → offers_at t e ≡ [] → Gets e p a → CollectAt program roles w (collect_next c a (collect_opens p)) running (opened ++ new) (offered t journal ++ offers_at t e)
    next z pt (inl lv) =
        let r = replied p h.0 a h.2 lv in
        let j = joined_more program w h.1 (offered t journal) h.0 r.0 h.3 r.2 in
        let there : CollectAt program roles w (outputs_left r.0) running opened (offered t journal) = left r.0 opened (offered t journal) (subst (λ i. Joined program w i (offered t journal ++ items_of r.0)) (sym h.4) j) in
        subst (λ i. CollectAt program roles w (collect_next c i (collect_opens p)) running (opened ++ new) (offered t journal ++ offers_at t e)) (sym r.1) (with_nils (λ i j. CollectAt program roles w (outputs_left r.0) running i j) opened (offered t journal) new (offers_at t e) (none_opened z) pt there)
    next z pt (inr q) = subst (λ i. CollectAt program roles w (collect_next c i (collect_opens p)) running (opened ++ new) (offered t journal ++ offers_at t e)) (sym q.0) (same_outputs (to (collect_opens p)) mn z pt (subst (λ i. BeginsOutputs program w i (offered t journal)) (sym h.4) (outputs_same program w h.1 (offered t journal) h.3 (h.0 ∷ []))))
  answered (collect_puts u us) mn d a is (gave de pa) = next (all_told (not_take d is (λ j b q. let i : did_put 0 c.target u a ≡ did_take j c.replies b = sym de ∙ q in cc)) (offers_now (Some d) is ∙ ap (λ z. tells_in m.at.task.mode (Some z)) de ∙ now m.at.task.mode)) (truth a) where
    now : (mode : Mode) → tells_in mode (Some (did_put 0 c.target u a)) ≡ told_now mode u
    now running = refl
    now (waiting n) = refl
    now over = refl

    split : (mode : Mode) → offered t journal ++ to_tell mode u (items_of us) ≡ (offered t journal ++ told_now mode u) ++ items_of us
    split running = sym (append_assoc (offered t journal) (u ∷ []) (items_of us))
    split (waiting n) = ap (λ i. i ++ items_of us) (sym (append-nil (offered t journal)))
    split over = sym (append_assoc (offered t journal) (u ∷ []) (items_of us))

    all_told : leaves c.replies e ≡ [] → offers_at t e ≡ told_now m.at.task.mode u → Joined program w (opened ++ new) ((offered t journal ++ offers_at t e) ++ items_of us)
    all_told z pt = subst (λ i. Joined program w (opened ++ new) ((offered t journal ++ i) ++ items_of us)) (sym pt)
        (subst (λ i. Joined program w i ((offered t journal ++ told_now m.at.task.mode u) ++ items_of us)) (sym (append-nil opened) ∙ ap (λ i. opened ++ i) (sym (none_opened z))) (subst (Joined program w opened) (split m.at.task.mode) (at_is (to (collect_puts u us)) mn)))

    next : Joined program w (opened ++ new) ((offered t journal ++ offers_at t e) ++ items_of us) → (b : Bool) → CollectAt program roles w (cond b (outputs_left us) (to collect_ends)) running (opened ++ new) (offered t journal ++ offers_at t e)
    next j true = left us (opened ++ new) (offered t journal ++ offers_at t e) j
    next j false = (opened ++ new, items_of us, ([], sym (append-nil (opened ++ new))), j)
  answered collect_closes mn d a is (shuts de an) = same_outputs (to collect_closes) mn (not_take d is (λ j b q. let i : did_close c.target ≡ did_take j c.replies b = sym de ∙ q in cc)) (offers_none d (did_close c.target) is de refl) (at_is (to collect_closes) mn)
  answered collect_ends mn d a is (shuts de an) = same_outputs (to collect_ends) mn (not_take d is (λ j b q. let i : did_close c.result ≡ did_take j c.replies b = sym de ∙ q in cc)) (offers_none d (did_close c.result) is de refl) (at_is (to collect_ends) mn)

  -- where nothing changes but the mode
  rests : (n : Next CollectState) (mode : Mode) → leaves c.replies e ≡ [] → offers_at t e ≡ [] → CollectAt program roles w n mode opened (offered t journal) → CollectAt program roles w n mode (opened ++ new) (offered t journal ++ offers_at t e)
  rests n mode z pt h = with_nils (λ i j. CollectAt program roles w n mode i j) opened (offered t journal) new (offers_at t e) (none_opened z) pt h

  parked : (st : CollectState) (i : ℕ) → leaves c.replies e ≡ [] → offers_at t e ≡ put_value (branches_of (collect_op c place st)) → CollectAt program roles w (to st) running opened (offered t journal) → CollectAt program roles w (to st) (waiting i) (opened ++ new) (offered t journal ++ offers_at t e)
  parked collect_takes i z pt h = rests (to collect_takes) (waiting i) z pt h
  parked (collect_opens p) i z pt h = rests (to (collect_opens p)) (waiting i) z pt h
  parked (collect_puts u us) i z pt h = subst (λ j. Joined program w (opened ++ j) ((offered t journal ++ offers_at t e) ++ items_of us)) (sym (none_opened z))
      (subst (λ j. Joined program w (opened ++ []) ((offered t journal ++ j) ++ items_of us)) (sym pt) (subst (λ j. Joined program w j ((offered t journal ++ u ∷ []) ++ items_of us)) (sym (append-nil opened)) (subst (Joined program w opened) (sym (append_assoc (offered t journal) (u ∷ []) (items_of us))) h)))
  parked collect_closes i z pt h = rests (to collect_closes) (waiting i) z pt h
  parked collect_ends i z pt h = rests (to collect_ends) (waiting i) z pt h

  stopped : (n : Next CollectState) → leaves c.replies e ≡ [] → offers_at t e ≡ [] → CollectAt program roles w n running opened (offered t journal) → CollectAt program roles w n over (opened ++ new) (offered t journal ++ offers_at t e)
  stopped (to collect_takes) z pt h = rests (to collect_takes) over z pt h
  stopped (to (collect_opens p)) z pt h = rests (to (collect_opens p)) over z pt h
  stopped (to (collect_puts u us)) z pt h = rests (to (collect_puts u us)) over z pt h
  stopped (to collect_closes) z pt h = rests (to collect_closes) over z pt h
  stopped (to collect_ends) z pt h = rests (to collect_ends) over z pt h
  stopped stop z pt h = rests stop over z pt h
  stopped (fail g) z pt h = rests (fail g) over z pt h

  pub collected_step : Collected program roles w c place t (journal ++ e ∷ []) s2 (opened ++ new)
  collected_step = by step.1 where
    by : Moves (collect_op c place) (collect_next c) m.at.task step.0.task m.at.now step.0.now (deed t (wait_of m.at.task.mode) e) → Collected program roles w c place t (journal ++ e ∷ []) s2 (opened ++ new)
    by (still is mn md) = so m.at.now m.at.task.mode mn md (rests m.at.now m.at.task.mode (alone (λ j a q. let i : None ≡ Some (did_take j c.replies a) = sym is ∙ q in cc)) (offers_now None is ∙ silent_none m.at.task.mode) m.collects)
    by (waits z i nz is may r mn md) = so (to z) (waiting i) (mn ∙ nz) md
        (parked z i (not_take (did_wait i (branches_of (collect_op c place z))) is (λ j a q. cc)) (offers_now (Some (did_wait i (branches_of (collect_op c place z)))) is ∙ ap (λ y. tells_in y (Some (did_wait i (branches_of (collect_op c place z))))) r) (subst (λ y. CollectAt program roles w (to z) y opened (offered t journal)) r (at_is (to z) nz)))
    by (ends how is r mn md) = so m.at.now over mn md (stopped m.at.now (not_take (did_end how) is (λ j a q. cc)) (offers_none (did_end how) (did_end how) is refl refl) (subst (λ y. CollectAt program roles w m.at.now y opened (offered t journal)) r m.collects))
    by (answers z d a nz is ans mn md) = so (collect_next c a z) running mn md (answered z nz d a is ans)
