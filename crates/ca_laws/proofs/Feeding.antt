-- Feeds keep to their rule.
use Rattle.std.proofs.Common.{◌≡◌, inl, inr, ℕ, zero, suc, List, [], ◌∷◌, ◌++◌, length, refl, sym, ap, ◌∙◌, subst, arith, Bool, true, false, cond, Option, Some, None, append_assoc, append-nil}
use Rattle.ca_value.specs.Tree.{Tree, port}
use Rattle.ca_term.specs.declared.place.Place.{Place}
use Rattle.ca_term.specs.declared.fault.Fault.{Fault}
use Rattle.ca_term.specs.declared.head.SystemTask.{SystemTask}
use Rattle.ca_term.specs.Operation.{OpView, taking, putting, making, closing, fixed}
use Rattle.ca_term.specs.Program.{ProgramView}
use Rattle.ca_term.specs.Event.{EventView}
use Rattle.ca_meaning.specs.Body.{asking}
use Rattle.ca_meaning.specs.Operands.{is_nil}
use Rattle.ca_meaning.specs.Choice.{branches_of}
use Rattle.ca_meaning.specs.State.{State}
use Rattle.ca_meaning.specs.Legal.{Reaches}
use Rattle.ca_meaning.specs.Asks.{Next, to, stop, fail, pair_of, too_large_here}
use Rattle.ca_meaning.specs.PipelineTable.{FeedPorts, FeedState, feed_takes, feed_makes, feed_puts, feed_queues, feed_closes_jobs, feed_closes_replies, feed_asks, feed_next}
use Rattle.ca_meaning.specs.System.{SystemBody, a_feed}
use Rattle.ca_laws.specs.Deeds.{Deed, did_take, did_wait, did_end}
use Rattle.ca_laws.specs.Taken.{taken_by, taken, put_by, put_in, made_by, made_in, answer_after, last_answer}
use Rattle.ca_laws.specs.PipelineRules.{passed_on, FeedRule, feed_ports, FeedsKeepTo}
use Rattle.ca_laws.proofs.Acts.{Replies, got, gave, creates, shuts}
use Rattle.ca_laws.proofs.More.{one_longer, each_more, answer_more}
use Rattle.ca_laws.proofs.Tables.{stands_only, Keeps, all_keep_to}

one_fewer : (m n : ℕ) → suc m ≡ suc n → m ≡ n
one_fewer m n e = omega (arith, e)

no_length : {G : Type 0} (n : ℕ) → suc n ≡ zero → G
no_length n e = absurd (omega (arith, e))

-- a value without its reply port, and with it
taken_more : (f : FeedPorts) (vs : List Tree) (ps : List ℕ) (v : Tree) → length ps ≡ length vs → passed_on f (vs ++ v ∷ []) ps ≡ passed_on f vs ps
taken_more f [] [] v e = refl
taken_more f [] (p ∷ ps) v e = no_length (length ps) e
taken_more f (u ∷ vs) [] v e = no_length (length vs) (sym e)
taken_more f (u ∷ vs) (p ∷ ps) v e = ap (λ z. (f.jobs, pair_of u (port p)) ∷ (f.replies, port p) ∷ z) (taken_more f vs ps v (one_fewer (length ps) (length vs) e))

both_more : (f : FeedPorts) (vs : List Tree) (ps : List ℕ) (v : Tree) (p : ℕ) → length ps ≡ length vs → passed_on f (vs ++ v ∷ []) (ps ++ p ∷ []) ≡ passed_on f vs ps ++ (f.jobs, pair_of v (port p)) ∷ (f.replies, port p) ∷ []
both_more f [] [] v p e = refl
both_more f [] (q ∷ ps) v p e = no_length (length ps) e
both_more f (u ∷ vs) [] v p e = no_length (length vs) (sym e)
both_more f (u ∷ vs) (q ∷ ps) v p e = ap (λ z. (f.jobs, pair_of u (port q)) ∷ (f.replies, port q) ∷ z) (both_more f vs ps v p (one_fewer (length ps) (length vs) e))

module _ (f : FeedPorts) where
  -- by what it took, made, put, and was answered last
  abbrev Passed : List Tree → List ℕ → List (ℕ × Tree) → Type 0
  Passed ts ms us = (length ms ≡ length ts) × (us ≡ passed_on f ts ms)

  abbrev Ends : Option (ℕ × Tree) → Type 0
  Ends o = (a : Tree) × (o ≡ Some (f.source, a)) × (is_nil a ≡ true)

  abbrev FeedsAt : Next FeedState → List Tree → List ℕ → List (ℕ × Tree) → Option (ℕ × Tree) → Type 0
  FeedsAt (to feed_takes) ts ms us o = Passed ts ms us
  FeedsAt (to (feed_makes v)) ts ms us o = (vs : List Tree) × (ts ≡ vs ++ v ∷ []) × (length ms ≡ length vs) × (us ≡ passed_on f vs ms)
  FeedsAt (to (feed_puts v p)) ts ms us o = (vs : List Tree) × (ps : List ℕ) × (ts ≡ vs ++ v ∷ []) × (ms ≡ ps ++ p ∷ []) × (length ps ≡ length vs) × (us ≡ passed_on f vs ps)
  FeedsAt (to (feed_queues p)) ts ms us o = (vs : List Tree) × (v : Tree) × (ps : List ℕ) × (ts ≡ vs ++ v ∷ []) × (ms ≡ ps ++ p ∷ []) × (length ps ≡ length vs) × (us ≡ passed_on f vs ps ++ (f.jobs, pair_of v (port p)) ∷ [])
  FeedsAt (to feed_closes_jobs) ts ms us o = Passed ts ms us × Ends o
  FeedsAt (to feed_closes_replies) ts ms us o = Passed ts ms us × Ends o
  FeedsAt stop ts ms us o = Unit {0}
  FeedsAt (fail g) ts ms us o = Unit {0}

  abbrev FeedAt : Next FeedState → List Deed → Type 0
  FeedAt n ds = FeedsAt n (taken ds) (made_in ds) (put_in ds) (last_answer ds)

  -- after a deed
  after : (n : Next FeedState) (ds : List Deed) (d : Deed) → FeedsAt n (taken ds ++ taken_by d) (made_in ds ++ made_by d) (put_in ds ++ put_by d) (answer_after d (last_answer ds)) → FeedAt n (ds ++ d ∷ [])
  after n ds d k =
      subst (λ z. FeedsAt n z (made_in (ds ++ d ∷ [])) (put_in (ds ++ d ∷ [])) (last_answer (ds ++ d ∷ []))) (sym (each_more taken_by ds d))
      (subst (λ z. FeedsAt n (taken ds ++ taken_by d) z (put_in (ds ++ d ∷ [])) (last_answer (ds ++ d ∷ []))) (sym (each_more made_by ds d))
      (subst (λ z. FeedsAt n (taken ds ++ taken_by d) (made_in ds ++ made_by d) z (last_answer (ds ++ d ∷ []))) (sym (each_more put_by ds d))
      (subst (λ z. FeedsAt n (taken ds ++ taken_by d) (made_in ds ++ made_by d) (put_in ds ++ put_by d) z) (sym (answer_more None ds d)) k)))

  -- where nothing is taken, made or put
  same : (n : Next FeedState) (ts : List Tree) (ms : List ℕ) (us : List (ℕ × Tree)) (o : Option (ℕ × Tree)) → FeedsAt n ts ms us o → FeedsAt n (ts ++ []) (ms ++ []) (us ++ []) o
  same n ts ms us o k =
      subst (λ z. FeedsAt n z (ms ++ []) (us ++ []) o) (sym (append-nil ts))
      (subst (λ z. FeedsAt n ts z (us ++ []) o) (sym (append-nil ms))
      (subst (λ z. FeedsAt n ts ms z o) (sym (append-nil us)) k))

module _ (program : ProgramView) (f : FeedPorts) (place : Place) where
  abbrev feed_body : Next FeedState → SystemBody
  feed_body n = a_feed f place n

  abbrev feed_op : FeedState → OpView
  feed_op feed_takes = taking (port f.source)
  feed_op (feed_makes v) = making (fixed 1)
  feed_op (feed_puts v p) = putting (port f.jobs) (pair_of v (port p))
  feed_op (feed_queues p) = putting (port f.replies) (port p)
  feed_op feed_closes_jobs = closing (port f.jobs)
  feed_op feed_closes_replies = closing (port f.replies)

  abbrev feed_fault : FeedState → Option Fault
  feed_fault feed_takes = None
  feed_fault (feed_makes v) = None
  feed_fault (feed_puts v p) = too_large_here (pair_of v (port p))
  feed_fault (feed_queues p) = too_large_here (port p)
  feed_fault feed_closes_jobs = None
  feed_fault feed_closes_replies = None

  rows : (s : FeedState) → feed_asks f s place ≡ asking place (feed_fault s) (feed_op s)
  rows feed_takes = refl
  rows (feed_makes v) = refl
  rows (feed_puts v p) = refl
  rows (feed_queues p) = refl
  rows feed_closes_jobs = refl
  rows feed_closes_replies = refl

  allowed : (s : FeedState) (ds : List Deed) → FeedAt f (to s) ds → FeedRule f ds (feed_op s)
  allowed feed_takes ds k = (refl, k)
  allowed (feed_makes v) ds k = (
    refl,
    ap length k.1 ∙ one_longer k.0 v ∙ ap (λ n. suc n) (sym k.2),
    k.3 ∙ sym (taken_more f k.0 (made_in ds) v k.2) ∙ ap (λ z. passed_on f z (made_in ds)) (sym k.1),
  )
  allowed (feed_puts v p) ds k = (
    f.jobs,
    refl,
    (
      (f.replies, port p) ∷ [],
      ap (λ z. passed_on f z (made_in ds)) k.2 ∙ ap (passed_on f (k.0 ++ v ∷ [])) k.3 ∙ both_more f k.0 k.1 v p k.4 ∙ sym (append_assoc (passed_on f k.0 k.1) ((f.jobs, pair_of v (port p)) ∷ []) ((f.replies, port p) ∷ [])) ∙ ap (λ z. (z ++ (f.jobs, pair_of v (port p)) ∷ []) ++ (f.replies, port p) ∷ []) (sym k.5),
    ),
  )
  allowed (feed_queues p) ds k = (
    f.replies,
    refl,
    (
      [],
      ap (λ z. passed_on f z (made_in ds)) k.3 ∙ ap (passed_on f (k.0 ++ k.1 ∷ [])) k.4 ∙ both_more f k.0 k.2 k.1 p k.5 ∙ sym (append_assoc (passed_on f k.0 k.2) ((f.jobs, pair_of k.1 (port p)) ∷ []) ((f.replies, port p) ∷ [])) ∙ ap (λ z. z ++ (f.replies, port p) ∷ []) (sym k.6) ∙ sym (append-nil (put_in ds ++ (f.replies, port p) ∷ [])),
    ),
  )
  allowed feed_closes_jobs ds k = (inl refl, k.0, k.1)
  allowed feed_closes_replies ds k = (inr refl, k.0, k.1)

  -- by a deed that is told
  by_deed : (n : Next FeedState) (ds : List Deed) (d c : Deed) → d ≡ c → FeedsAt f n (taken ds ++ taken_by c) (made_in ds ++ made_by c) (put_in ds ++ put_by c) (answer_after c (last_answer ds)) → FeedAt f n (ds ++ d ∷ [])
  by_deed n ds d c is k = subst (λ z. FeedAt f n (ds ++ z ∷ [])) (sym is) (after f n ds c k)

  took : (ds : List Deed) (a : Tree) → FeedAt f (to feed_takes) ds → (b : Bool) → is_nil a ≡ b → FeedsAt f (cond b (to feed_closes_jobs) (to (feed_makes a))) (taken ds ++ cond b [] (a ∷ [])) (made_in ds ++ []) (put_in ds ++ []) (Some (f.source, a))
  took ds a k true e = same f (to feed_closes_jobs) (taken ds) (made_in ds) (put_in ds) (Some (f.source, a)) (k, (a, refl, e))
  took ds a k false e = (taken ds, refl, ap length (append-nil (made_in ds)) ∙ k.0, append-nil (put_in ds) ∙ k.1 ∙ ap (passed_on f (taken ds)) (sym (append-nil (made_in ds))))

  answered : (s : FeedState) (ds : List Deed) (d : Deed) (a : Tree) → FeedAt f (to s) ds → Replies (feed_op s) d a → FeedAt f (feed_next a s) (ds ++ d ∷ [])
  answered feed_takes ds d a k (got is) = by_deed (feed_next a feed_takes) ds d (did_take 0 f.source a) is (took ds a k (is_nil a) refl)
  answered (feed_makes v) ds d a k (creates p moment is an) =
      subst (λ z. FeedAt f (feed_next z (feed_makes v)) (ds ++ d ∷ [])) (sym an)
      (by_deed (to (feed_puts v p)) ds d _ is (k.0, made_in ds, append-nil (taken ds) ∙ k.1, refl, k.2, append-nil (put_in ds) ∙ k.3))
  answered (feed_puts v p) ds d a k (gave is pa) =
      by_deed (to (feed_queues p)) ds d _ is (k.0, v, k.1, append-nil (taken ds) ∙ k.2, append-nil (made_in ds) ∙ k.3, k.4, ap (λ z. z ++ (f.jobs, pair_of v (port p)) ∷ []) k.5)
  answered (feed_queues p) ds d a k (gave is pa) = by_deed (to feed_takes) ds d _ is (
    ap length (append-nil (made_in ds) ∙ k.4) ∙ one_longer k.2 p ∙ ap (λ n. suc n) k.5 ∙ sym (one_longer k.0 k.1) ∙ ap length (sym (append-nil (taken ds) ∙ k.3)),
    ap (λ z. z ++ (f.replies, port p) ∷ []) k.6 ∙ append_assoc (passed_on f k.0 k.2) ((f.jobs, pair_of k.1 (port p)) ∷ []) ((f.replies, port p) ∷ []) ∙ sym (both_more f k.0 k.2 k.1 p k.5)
        ∙ ap (λ z. passed_on f z (k.2 ++ p ∷ [])) (sym (append-nil (taken ds) ∙ k.3)) ∙ ap (passed_on f (taken ds ++ [])) (sym (append-nil (made_in ds) ∙ k.4)),
  )
  answered feed_closes_jobs ds d a k (shuts is an) = by_deed (to feed_closes_replies) ds d _ is (same f (to feed_closes_replies) (taken ds) (made_in ds) (put_in ds) (last_answer ds) k)
  answered feed_closes_replies ds d a k (shuts is an) = tt

  feed_keeps : Keeps program feed_body feed_op (FeedAt f) (FeedRule f)
  feed_keeps = record {
    only = λ n op at. stands_only place (feed_asks f) feed_op feed_fault rows n op at.0 at.1;
    allowed = allowed;
    waits = λ s ds w k may. after f (to s) ds (did_wait w (branches_of (feed_op s))) (same f (to s) (taken ds) (made_in ds) (put_in ds) (last_answer ds) k);
    ends = λ n ds how k. after f n ds (did_end how) (same f n (taken ds) (made_in ds) (put_in ds) (last_answer ds) k);
    answered = λ s ds d a c k ans r. (feed_next a s, r, answered s ds d a k ans);
  }

pub feeds_keep_to : (program : ProgramView) (journal : List EventView) (s : State) → Reaches program journal s → FeedsKeepTo program journal s
feeds_keep_to program = all_keep_to program SystemTask.Feed refl (λ values place. FeedRule (feed_ports values))
    (λ values place. feed_body program (feed_ports values) place) (λ values place. feed_op program (feed_ports values) place) (λ values place. FeedAt (feed_ports values))
    (λ values place. feed_keeps program (feed_ports values) place) (λ values place c r. (to feed_takes, r, (refl, refl)))
