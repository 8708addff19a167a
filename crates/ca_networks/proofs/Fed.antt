-- What a feed took and what it queued.
use Rattle.std.proofs.Common.{◌≡◌, ◌≢◌, inl, inr, ℕ, List, [], ◌∷◌, ◌++◌, refl, sym, ap, ◌∙◌, subst, Bool, true, false, cond, Option, Some, None, append_assoc, append-nil}
use Rattle.ca_value.specs.Tree.{Tree, port}
use Rattle.ca_term.specs.declared.place.Place.{Place}
use Rattle.ca_term.specs.Operation.{fixed}
use Rattle.ca_term.specs.Program.{ProgramView}
use Rattle.ca_term.specs.Event.{EventView}
use Rattle.ca_meaning.specs.Applied.{Work}
use Rattle.ca_meaning.specs.Asks.{Next, to, stop, pair_of}
use Rattle.ca_meaning.specs.Choice.{branches_of}
use Rattle.ca_meaning.specs.Operands.{is_nil}
use Rattle.ca_meaning.specs.PipelineTable.{FeedPorts, FeedState, feed_takes, feed_makes, feed_puts, feed_queues, feed_closes_jobs, feed_closes_replies, feed_next}
use Rattle.ca_meaning.specs.State.{State}
use Rattle.ca_meaning.specs.Steps.{Step}
use Rattle.ca_laws.specs.Deeds.{Deed, did_take, did_put, did_wait, did_make, did_close, did_end, deed, deeds}
use Rattle.ca_laws.specs.Taken.{taken_by, taken, Begins}
use Rattle.ca_laws.proofs.Acts.{wait_of, Replies, got, gave, creates, shuts}
use Rattle.ca_laws.proofs.Deeding.{and_deed, Traced}
use Rattle.ca_laws.proofs.More.{each_more}
use Rattle.ca_roles.specs.Roles.{Roles, Grows, IsReply}
use Rattle.ca_networks.proofs.Passing.{enters, put_enters}
use Rattle.ca_networks.proofs.Standing.{Standing, Moves, still, waits, ends, answers, moved, deeds_after}
use Rattle.ca_networks.proofs.Tables.{feed_body, feed_op, feed_table}
use Rattle.ca_networks.proofs.Refused.{IsClosed, refused_closed}
use Rattle.ca_networks.proofs.Carried.{Carry, FeedAt, feed_more}

pub record Fed (roles : Roles) (w : Work) (f : FeedPorts) (place : Place) (t : ℕ) (journal : List EventView) (s : State) (queued : List Tree) : Type 0 where
  pub at : Standing (feed_body f place) t s
  pub feeds : FeedAt roles w at.now queued (taken (deeds t journal))

module _ (program : ProgramView) (roles more : Roles) (grows : Grows roles more) (w : Work) (f : FeedPorts) (place : Place) (t : ℕ) (apart_ports : f.jobs ≢ f.replies) (journal : List EventView) (s s2 : State) (e : EventView) (traced : Traced journal s) (k : Step program s e s2)
    (queued : List Tree) (m : Fed roles w f place t journal s queued)
    -- the feed alone puts into the queue, which is open until it stops; the port that it makes for v gets the role
    (alone : ((j : ℕ) (v a : Tree) → deed t (wait_of m.at.task.mode) e ≡ Some (did_put j f.replies v a) → ⊥) → enters f.replies e ≡ [])
    (open_to : IsClosed s f.replies → m.at.now ≡ stop)
    (makes_reply : (p : ℕ) (moment : Option ℕ) (v : Tree) → m.at.now ≡ to (feed_makes v) → deed t (wait_of m.at.task.mode) e ≡ Some (did_make p (fixed 1) moment) → IsReply more w p v) where
  abbrev FedNext : Type 0
  FedNext = (new : List Tree) × Carry roles w (enters f.replies e) new × Fed more w f place t (journal ++ e ∷ []) s2 (queued ++ new)

  step : (y : Standing (feed_body f place) t s2) × Moves (feed_op f place) feed_next m.at.task y.task m.at.now y.now (deed t (wait_of m.at.task.mode) e)
  step = moved program (feed_body f place) (feed_op f place) feed_next (feed_table f place program) journal s s2 e traced k t m.at

  taken_after : (o : Option Deed) → deed t (wait_of m.at.task.mode) e ≡ o → taken (deeds t (journal ++ e ∷ [])) ≡ taken (and_deed (deeds t journal) o)
  taken_after o is = ap taken (deeds_after program (feed_body f place) (feed_op f place) feed_next (feed_table f place program) journal s s2 e traced k t m.at) ∙ ap (λ i. taken (and_deed (deeds t journal) i)) is

  one_more : (c : Deed) → deed t (wait_of m.at.task.mode) e ≡ Some c → taken (deeds t (journal ++ e ∷ [])) ≡ taken (deeds t journal) ++ taken_by c
  one_more c is = taken_after (Some c) is ∙ each_more taken_by (deeds t journal) c

  fed_so : (n : Next FeedState) (new some : List Tree) → taken (deeds t (journal ++ e ∷ [])) ≡ taken (deeds t journal) ++ some → step.0.now ≡ n → Carry roles w (enters f.replies e) new → FeedAt more w n (queued ++ new) (taken (deeds t journal) ++ some) → FedNext
  fed_so n new some is b c at = (new, c, record { at = step.0; feeds = subst (λ i. FeedAt more w i (queued ++ new) (taken (deeds t (journal ++ e ∷ [])))) (sym b) (subst (FeedAt more w n (queued ++ new)) (sym is) at) })

  nothing_new : enters f.replies e ≡ [] → Carry roles w (enters f.replies e) []
  nothing_new z = subst (λ i. Carry roles w i []) (sym z) refl

  -- nothing is taken or queued
  unchanged : (n : Next FeedState) → enters f.replies e ≡ [] → taken (deeds t (journal ++ e ∷ [])) ≡ taken (deeds t journal) → step.0.now ≡ n → FeedAt more w n queued (taken (deeds t journal)) → FedNext
  unchanged n z is b at = fed_so n [] [] (is ∙ sym (append-nil (taken (deeds t journal)))) b (nothing_new z) (subst (λ i. FeedAt more w n i (taken (deeds t journal) ++ [])) (sym (append-nil queued)) (subst (FeedAt more w n queued) (sym (append-nil (taken (deeds t journal)))) at))

  no_more : (c : Deed) → deed t (wait_of m.at.task.mode) e ≡ Some c → taken_by c ≡ [] → taken (deeds t (journal ++ e ∷ [])) ≡ taken (deeds t journal)
  no_more c is z = one_more c is ∙ ap (λ i. taken (deeds t journal) ++ i) z ∙ append-nil (taken (deeds t journal))

  not_put : (c : Deed) → deed t (wait_of m.at.task.mode) e ≡ Some c → ((j : ℕ) (v a : Tree) → c ≡ did_put j f.replies v a → ⊥) → enters f.replies e ≡ []
  not_put c is ne = alone (λ j v a q. ne j v a (let i : Some c ≡ Some (did_put j f.replies v a) = sym is ∙ q in cc))

  feed_at : (n : Next FeedState) → m.at.now ≡ n → FeedAt more w n queued (taken (deeds t journal))
  feed_at n mn = feed_more roles more grows w n queued (taken (deeds t journal)) (subst (λ n. FeedAt roles w n queued (taken (deeds t journal))) mn m.feeds)

  begun : (some : List Tree) → Begins queued (taken (deeds t journal)) → Begins (queued ++ []) (taken (deeds t journal) ++ some)
  begun some b = (b.0 ++ some, ap (λ i. i ++ some) (b.1 ∙ ap (λ i. i ++ b.0) (sym (append-nil queued))) ∙ append_assoc (queued ++ []) b.0 some)

  answered : (st : FeedState) → m.at.now ≡ to st → (c : Deed) (a : Tree) → deed t (wait_of m.at.task.mode) e ≡ Some c → Replies (feed_op f place st) c a → step.0.now ≡ feed_next a st → FedNext
  answered feed_takes mn c a is (got ce) went = fed_so (feed_next a feed_takes) [] (cond (is_nil a) [] (a ∷ [])) (one_more c is ∙ ap (λ d. taken (deeds t journal) ++ taken_by d) ce) went
      (nothing_new (not_put c is (λ j v b q. let i : did_take 0 f.source a ≡ did_put j f.replies v b = sym ce ∙ q in cc))) (next (is_nil a)) where
        next : (b : Bool) → FeedAt more w (cond b (to feed_closes_jobs) (to (feed_makes a))) (queued ++ []) (taken (deeds t journal) ++ cond b [] (a ∷ []))
        next true = begun [] ([], feed_at (to feed_takes) mn ∙ sym (append-nil queued))
        next false = ap (λ i. i ++ a ∷ []) (feed_at (to feed_takes) mn ∙ sym (append-nil queued))
  answered (feed_makes v) mn c a is (creates p moment ce an) went =
      unchanged (to (feed_puts v p)) (not_put c is (λ j u b q. let i : did_make p (fixed 1) moment ≡ did_put j f.replies u b = sym ce ∙ q in cc)) (no_more c is (ap taken_by ce)) (went ∙ ap (λ z. feed_next z (feed_makes v)) an) (makes_reply p moment v mn (is ∙ ap (λ z. Some z) ce), feed_at (to (feed_makes v)) mn)
  answered (feed_puts v p) mn c a is (gave ce pa) went =
      let h = feed_at (to (feed_puts v p)) mn in
      unchanged (to (feed_queues p)) (not_put c is (λ j u b q. apart_ports (let i : did_put 0 f.jobs (pair_of v (port p)) a ≡ did_put j f.replies u b = sym ce ∙ q in cc))) (no_more c is (ap taken_by ce)) went (v, h.0, h.1)
  answered (feed_queues p) mn c a is (gave ce (inr pa)) went =
      absurd (let i : stop ≡ to (feed_queues p) = sym (open_to (refused_closed program s s2 t (wait_of m.at.task.mode) 0 f.replies (port p) e k (is ∙ ap (λ z. Some z) (ce ∙ ap (did_put 0 f.replies (port p)) pa)))) ∙ mn in cc)
  answered (feed_queues p) mn c a is (gave ce (inl pa)) went =
      let en : enters f.replies e ≡ port p ∷ [] = put_enters t (wait_of m.at.task.mode) e 0 f.replies (port p) (is ∙ ap (λ z. Some z) (ce ∙ ap (did_put 0 f.replies (port p)) pa)) in
      let h : FeedAt roles w (to (feed_queues p)) queued (taken (deeds t journal)) = subst (λ n. FeedAt roles w n queued (taken (deeds t journal))) mn m.feeds in
      fed_so (to feed_takes) (h.0 ∷ []) [] (no_more c is (ap taken_by ce) ∙ sym (append-nil (taken (deeds t journal)))) went (subst (λ i. Carry roles w i (h.0 ∷ [])) (sym en) (p, h.0, [], refl, h.1, refl, refl)) (append-nil (taken (deeds t journal)) ∙ h.2)
  answered feed_closes_jobs mn c a is (shuts ce an) went = unchanged (to feed_closes_replies) (not_put c is (λ j u b q. let i : did_close f.jobs ≡ did_put j f.replies u b = sym ce ∙ q in cc)) (no_more c is (ap taken_by ce)) went (feed_at (to feed_closes_jobs) mn)
  answered feed_closes_replies mn c a is (shuts ce an) went = unchanged stop (not_put c is (λ j u b q. let i : did_close f.replies ≡ did_put j f.replies u b = sym ce ∙ q in cc)) (no_more c is (ap taken_by ce)) went (feed_at (to feed_closes_replies) mn)

  pub fed_step : FedNext
  fed_step = by step.1 where
    by : Moves (feed_op f place) feed_next m.at.task step.0.task m.at.now step.0.now (deed t (wait_of m.at.task.mode) e) → FedNext
    by (still is mn md) = unchanged m.at.now (alone (λ j v a q. let i : None ≡ Some (did_put j f.replies v a) = sym is ∙ q in cc)) (taken_after None is ∙ ap taken (append-nil (deeds t journal))) mn (feed_at m.at.now refl)
    by (waits z i nz is may r mn md) = unchanged m.at.now (not_put (did_wait i (branches_of (feed_op f place z))) is (λ j v a q. cc)) (no_more (did_wait i (branches_of (feed_op f place z))) is refl) mn (feed_at m.at.now refl)
    by (ends how is r mn md) = unchanged m.at.now (not_put (did_end how) is (λ j v a q. cc)) (no_more (did_end how) is refl) mn (feed_at m.at.now refl)
    by (answers z c a nz is ans mn md) = answered z nz c a is ans mn
