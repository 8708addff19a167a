-- Takes keep to their law.
use Rattle.std.proofs.Common.{◌≡◌, ◌⊎◌, inl, inr, ℕ, suc, ◌<◌, ◌≤◌, List, [], ◌∷◌, ◌++◌, length, refl, sym, ap, ◌∙◌, subst, arith, Bool, true, false, cond, ◌||◌, Option, Some, None, eq-eqb, append-nil}
use Rattle.std.specs.List.{list_any}
use Rattle.ca_value.specs.Tree.{Tree, nil, port}
use Rattle.ca_term.specs.declared.place.Place.{Place}
use Rattle.ca_term.specs.declared.fault.Fault.{Fault}
use Rattle.ca_term.specs.declared.event.Ending.{Ending}
use Rattle.ca_term.specs.declared.event.Ending.TheVariants.{Ended, Faulted}
use Rattle.ca_term.specs.Operation.{OpView, SeedView, taking, putting, closing}
use Rattle.ca_term.specs.Kernel.{const}
use Rattle.ca_term.specs.Program.{ProgramView}
use Rattle.ca_term.specs.Event.{EventView}
use Rattle.ca_meaning.specs.declared.body.FaultAt.{FaultAt}
use Rattle.ca_meaning.specs.Asking.{too_large}
use Rattle.ca_meaning.specs.Operands.{is_nil, port_of_value}
use Rattle.ca_meaning.specs.Body.{BodyView, at_or, standing, at, at_op, faulted, ended, asking, new_body}
use Rattle.ca_meaning.specs.Choice.{branches_of}
use Rattle.ca_meaning.specs.Redex.{redex}
use Rattle.ca_meaning.specs.Task.{TaskBody, script, body_at, body_fill, BodyRest, new_task}
use Rattle.ca_meaning.specs.State.{State}
use Rattle.ca_meaning.specs.Going.{IsAtOp}
use Rattle.ca_meaning.specs.Legal.{Reaches}
use Rattle.ca_laws.specs.Deeds.{Deed, did_put, did_wait, did_end, deeds}
use Rattle.ca_laws.specs.Taken.{taken_by, taken, put_by, put_in, Begins}
use Rattle.ca_laws.proofs.Acts.{Replies, got, gave as was_given, shuts as was_shut}
use Rattle.ca_laws.proofs.More.{each_more, one_longer}
use Rattle.ca_laws.proofs.Tables.{asked}
use Rattle.ca_derived_laws.specs.TakeTask.{TakeTask, take_text}
use Rattle.ca_derived_laws.specs.TakeLaw.{at_most, found_nil, has_ended, deed_closes, onto, TookAtMost, TakeLaw}
use Rattle.ca_derived_laws.proofs.Resting.{stays}
use Rattle.ca_derived_laws.proofs.TakeSteps.{body, asking_at, giving_at, shutting_at, closing_at, Entered, asks_next, leaves, fails, Took, gives_next, ends_next, took, gave, begun, shut}
use Rattle.ca_laws.proofs.Keeping.{KeepsStages, stays_in}

-- a task of a take at rest; the number is its count
data Stage : Type 0 where
  asks : ℕ → Stage
  gives : ℕ → Tree → Stage
  shuts : Stage
  closes_result : Stage
  over : Stage
  failed : Stage

pub or_false : (b : Bool) → (b || false) ≡ b
or_false true = refl
or_false false = refl

or_step : (b c d e : Bool) → c ≡ (d || e) → (b || c) ≡ ((b || d) || e)
or_step true c d e k = refl
or_step false c d e k = k

pub any_more : (test : Deed → Bool) (ds : List Deed) (d : Deed) → list_any test (ds ++ d ∷ []) ≡ (list_any test ds || test d)
any_more test [] d = or_false (test d)
any_more test (c ∷ ds) d = or_step (test c) (list_any test (ds ++ d ∷ [])) (list_any test ds) (test d) (any_more test ds d)

pub or_true : (b : Bool) → (b || true) ≡ true
or_true true = refl
or_true false = refl

onto_more : (p : ℕ) (vs : List Tree) (v : Tree) → onto p (vs ++ v ∷ []) ≡ onto p vs ++ (p, v) ∷ []
onto_more p [] v = refl
onto_more p (w ∷ vs) v = ap (λ xs. (p, w) ∷ xs) (onto_more p vs v)

module _ (program : ProgramView) (x : TakeTask) where
  abbrev target : ℕ
  target = port_of_value x.target

  abbrev most : ℕ
  most = at_most x.bound

  -- the body stands in the stage
  abbrev Is : Stage → TaskBody → Type 0
  Is (asks k) b = (n : ℕ) × (b ≡ script (asking_at program x k n))
  Is (gives k v) b = (n : ℕ) × (b ≡ script (giving_at program x k v n))
  Is shuts b = (n : ℕ) × (b ≡ script (shutting_at program x n))
  Is closes_result b = b ≡ script (closing_at program x 0)
  Is over b = b ≡ script (body (const nil) 0)
  Is failed b = (d : BodyView) × (f : FaultAt) × (b ≡ script d) × (d.fault ≡ Some f)

  -- by what it took and put, whether it found nil, closed its target and ended
  abbrev Facts : Stage → List Tree → List (ℕ × Tree) → Bool → Bool → Bool → Type 0
  Facts (asks k) ts ps found shut_it done_it = (ps ≡ onto target ts) × (length ts ≡ k) × (k < most) × (done_it ≡ false)
  Facts (gives k v) ts ps found shut_it done_it = (us : List Tree) × (ts ≡ us ++ v ∷ []) × (ps ≡ onto target us) × (length us ≡ k) × (k < most) × (done_it ≡ false)
  Facts shuts ts ps found shut_it done_it = (ps ≡ onto target ts) × (length ts ≤ most) × ((length ts ≡ most) ⊎ (found ≡ true)) × (done_it ≡ false)
  Facts closes_result ts ps found shut_it done_it = (ps ≡ onto target ts) × (length ts ≤ most) × ((length ts ≡ most) ⊎ (found ≡ true)) × (shut_it ≡ true) × (done_it ≡ false)
  Facts over ts ps found shut_it done_it = (ps ≡ onto target ts) × (length ts ≤ most) × ((length ts ≡ most) ⊎ (found ≡ true)) × (shut_it ≡ true)
  Facts failed ts ps found shut_it done_it = Begins ps (onto target ts) × (length ts ≤ most) × (done_it ≡ false)

  abbrev At : Stage → List Deed → Type 0
  At n ds = Facts n (taken ds) (put_in ds) (list_any found_nil ds) (list_any (deed_closes target) ds) (list_any has_ended ds)

  by_deed : (n : Stage) (ds : List Deed) (d c : Deed) → d ≡ c
      → Facts n (taken ds ++ taken_by c) (put_in ds ++ put_by c) (list_any found_nil ds || found_nil c) (list_any (deed_closes target) ds || deed_closes target c) (list_any has_ended ds || has_ended c)
      → At n (ds ++ d ∷ [])
  by_deed n ds d c is k = subst (λ z. At n (ds ++ z ∷ [])) (sym is)
      (rw (each_more taken_by ds c, each_more put_by ds c, any_more found_nil ds c, any_more (deed_closes target) ds c, any_more has_ended ds c) k)

  -- a deed that tells nothing
  same : (n : Stage) (ds : List Deed) → At n ds → Facts n (taken ds ++ []) (put_in ds ++ []) (list_any found_nil ds || false) (list_any (deed_closes target) ds || false) (list_any has_ended ds || false)
  same n ds k = rw (append-nil (taken ds), append-nil (put_in ds), or_false (list_any found_nil ds), or_false (list_any (deed_closes target) ds), or_false (list_any has_ended ds)) k

  at_once : (n : Stage) (b : TaskBody) (d : BodyView) (op : OpView) → b ≡ script d → IsAtOp b op → (p : Place) × (at d ≡ at_op (record { op = op; place = p }))
  at_once n b d op is k = (k.0, sym (ap body_at is) ∙ k.1)

  abbrev op_of : Stage → Option OpView
  op_of (asks k) = Some (taking x.source)
  op_of (gives k v) = Some (putting x.target v)
  op_of shuts = Some (closing x.target)
  op_of closes_result = Some (closing (port x.result))
  op_of over = None
  op_of failed = None

  no_op : (d : BodyView) (f : FaultAt) (op : OpView) (p : Place) → d.fault ≡ Some f → at d ≡ at_op (record { op = op; place = p }) → ⊥
  no_op d f op p e k = let j : faulted f.fault f.place ≡ at_op (record { op = op; place = p }) = ap (λ o. at_or o (standing d.turns d.depth (redex d.term))) (sym e) ∙ k in cc

  only : (n : Stage) (b : TaskBody) (op : OpView) → Is n b → IsAtOp b op → op_of n ≡ Some op
  only (asks k) b op i a = ap (λ z. Some z) (sym (asked x.place None (taking x.source) (record { op = op; place = a.0 }) (sym (ap body_at i.1) ∙ a.1)))
  only (gives k v) b op i a = ap (λ z. Some z) (sym (asked x.place (too_large v) (putting x.target v) (record { op = op; place = a.0 }) (sym (ap body_at i.1) ∙ a.1)))
  only shuts b op i a = ap (λ z. Some z) (sym (asked x.place None (closing x.target) (record { op = op; place = a.0 }) (sym (ap body_at i.1) ∙ a.1)))
  only closes_result b op i a = ap (λ z. Some z) (sym (asked x.place None (closing (port x.result)) (record { op = op; place = a.0 }) (sym (ap body_at i) ∙ a.1)))
  only over b op i a = absurd (let j : ended nil ≡ at_op (record { op = op; place = a.0 }) = sym (ap body_at i) ∙ a.1 in cc)
  only failed b op i a = absurd (no_op i.0 i.1 op a.0 i.3 (sym (ap body_at i.2) ∙ a.1))

  -- only the last stage has a value
  abbrev IsOver : Stage → Type 0
  IsOver over = Unit {0}
  IsOver n = ⊥

  valued : (n : Stage) (b : TaskBody) (v : Tree) → Is n b → body_at b ≡ ended v → IsOver n
  valued (asks k) b v i e = absurd (let j : at_op (record { op = taking x.source; place = x.place }) ≡ ended v = sym (ap body_at i.1) ∙ e in cc)
  valued (gives k w) b v i e = absurd (never (too_large w) (sym (ap body_at i.1) ∙ e)) where
    never : (o : Option Fault) → asking x.place o (putting x.target w) ≡ ended v → ⊥
    never None j = cc
    never (Some f) j = cc
  valued shuts b v i e = absurd (let j : at_op (record { op = closing x.target; place = x.place }) ≡ ended v = sym (ap body_at i.1) ∙ e in cc)
  valued closes_result b v i e = absurd (let j : at_op (record { op = closing (port x.result); place = x.place }) ≡ ended v = sym (ap body_at i) ∙ e in cc)
  valued over b v i e = tt
  valued failed b v i e = absurd (let j : faulted i.1.fault i.1.place ≡ ended v = ap (λ o. at_or o (standing i.0.turns i.0.depth (redex i.0.term))) (sym i.3) ∙ sym (ap body_at i.2) ∙ e in cc)

  -- the end tells no more of a task that is over
  ended_at : (n : Stage) (ds : List Deed) → IsOver n → At n ds → At n (ds ++ did_end Ended ∷ [])
  ended_at over ds i k = by_deed over ds (did_end Ended) (did_end Ended) refl (rw (append-nil (taken ds), append-nil (put_in ds), or_false (list_any found_nil ds), or_false (list_any (deed_closes target) ds)) k)
  ended_at (asks n) ds i k = absurd i
  ended_at (gives n v) ds i k = absurd i
  ended_at shuts ds i k = absurd i
  ended_at closes_result ds i k = absurd i
  ended_at failed ds i k = absurd i

  ends : (n : Stage) (b : TaskBody) (ds : List Deed) (how : Ending) → Is n b → (how ≡ Ended → (v : Tree) × (body_at b ≡ ended v)) → At n ds → At n (ds ++ did_end how ∷ [])
  ends n b ds Ended i v k = let w = v refl in ended_at n ds (valued n b w.0 i w.1) k
  ends n b ds (Faulted f p r) i v k = by_deed n ds (did_end (Faulted f p r)) (did_end (Faulted f p r)) refl (same n ds k)

  abbrev Goes : List Deed → TaskBody → Type 0
  Goes ds c = (k : Stage) × Is k c × At k ds

  -- what a round comes to
  from_round : (k : ℕ) (ds : List Deed) (c : TaskBody) (d : BodyView) → c ≡ script d → put_in ds ≡ onto target (taken ds) → length (taken ds) ≡ k → k ≤ most → list_any has_ended ds ≡ false → Entered program x k d → Goes ds c
  from_round k ds c d is p l m e (asks_next n s h) = (asks k, (n, is ∙ ap (λ z. script z) s), (p, l, h, e))
  from_round k ds c d is p l m e (leaves n s h) = (shuts, (n, is ∙ ap (λ z. script z) s), (p, omega (arith, l, m), inl (omega (arith, l, m, h)), e))
  from_round k ds c d is p l m e (fails f s) = (failed, (d, f, is, s), (([], p'), omega (arith, l, m), e)) where
    p' : onto target (taken ds) ≡ put_in ds ++ []
    p' = sym p ∙ sym (append-nil (put_in ds))

  answer_take : (k n : ℕ) (ds : List Deed) (d : Deed) (a : Tree) (c : BodyView) (b : TaskBody) → At (asks k) ds → Replies (taking x.source) d a → b ≡ script c → Took program x k a c → Goes (ds ++ d ∷ []) b
  answer_take k n ds d a c b at (got is) same_body (gives_next m s e) = (
    gives k a,
    (m, same_body ∙ ap (λ z. script z) s),
    by_deed (gives k a) ds d _ is
        (taken ds, ap (λ z. taken ds ++ cond z [] (a ∷ [])) e, append-nil (put_in ds) ∙ at.0, at.1, at.2, or_false (list_any has_ended ds) ∙ at.3),
  )
  answer_take k n ds d a c b at (got is) same_body (ends_next m s e) =
      (shuts, (m, same_body ∙ ap (λ z. script z) s), by_deed shuts ds d _ is (facts (taken ds ++ cond (is_nil a) [] (a ∷ [])) (ap (λ z. taken ds ++ cond z [] (a ∷ [])) e ∙ append-nil (taken ds)))) where
        facts : (ts : List Tree) → ts ≡ taken ds → Facts shuts ts (put_in ds ++ []) (list_any found_nil ds || is_nil a) (list_any (deed_closes target) ds || false) (list_any has_ended ds || false)
        facts ts j = let l : length ts ≡ k = ap (λ z. length z) j ∙ at.1 in let h : k < most = at.2 in
            (append-nil (put_in ds) ∙ at.0 ∙ ap (onto target) (sym j), omega (arith, l, h), inr (ap (λ z. list_any found_nil ds || z) e ∙ or_true (list_any found_nil ds)), or_false (list_any has_ended ds) ∙ at.3)

  answer_put : (k : ℕ) (v : Tree) (ds : List Deed) (d : Deed) (a : Tree) (c : BodyView) (b : TaskBody) → At (gives k v) ds → Replies (putting x.target v) d a → b ≡ script c → Entered program x (suc k) c → Goes (ds ++ d ∷ []) b
  answer_put k v ds d a c b at (was_given is pa) same_body entered =
      let after : At_put (ds ++ d ∷ []) = subst (λ z. At_put (ds ++ z ∷ [])) (sym is) put_facts in
      from_round (suc k) (ds ++ d ∷ []) b c same_body after.0 after.1 (let h : k < most = at.4 in omega (arith, h)) after.2 entered where
        At_put : List Deed → Type 0
        At_put es = (put_in es ≡ onto target (taken es)) × (length (taken es) ≡ suc k) × (list_any has_ended es ≡ false)

        put_facts : At_put (ds ++ did_put 0 target v a ∷ [])
        put_facts = rw (each_more taken_by ds (did_put 0 target v a), each_more put_by ds (did_put 0 target v a), any_more has_ended ds (did_put 0 target v a), append-nil (taken ds), or_false (list_any has_ended ds), at.1, at.2)
            (sym (onto_more target at.0 v), one_longer at.0 v ∙ ap suc at.3, at.5)

  answered : (n : Stage) (b c : TaskBody) (op : OpView) (ds : List Deed) (d : Deed) (a : Tree) → Is n b → op_of n ≡ Some op → At n ds → Replies op d a → BodyRest program (body_fill a b) c → Goes (ds ++ d ∷ []) c
  answered (asks k) b c op ds d a i o at ans r =
      let rest = subst (λ z. BodyRest program (body_fill a z) c) i.1 r in
      answer_take k i.0 ds d a rest.0 c at (subst (λ z. Replies z d a) (let q : op ≡ taking x.source = cc in q) ans) rest.2 (took program x k a rest.0 rest.1)
  answered (gives k v) b c op ds d a i o at ans r =
      let rest = subst (λ z. BodyRest program (body_fill a z) c) i.1 r in
      answer_put k v ds d a rest.0 c at (subst (λ z. Replies z d a) (let q : op ≡ putting x.target v = cc in q) ans) rest.2 (gave program x k a rest.0 rest.1)
  answered shuts b c op ds d a i o at ans r = by a (subst (λ z. Replies z d a) (let q : op ≡ closing x.target = cc in q) ans) (subst (λ z. BodyRest program (body_fill a z) c) i.1 r) where
    by : (a : Tree) → Replies (closing x.target) d a → BodyRest program (body_fill a (script (shutting_at program x i.0))) c → Goes (ds ++ d ∷ []) c
    by a (was_shut is an) rest =
        let nilled = subst (λ z. BodyRest program (body_fill z (script (shutting_at program x i.0))) c) an rest in (
          closes_result,
          nilled.2 ∙ ap (λ z. script z) (shut program x nilled.0 nilled.1),
          by_deed closes_result ds d _ is
              (rw (append-nil (taken ds), append-nil (put_in ds), or_false (list_any found_nil ds), or_false (list_any has_ended ds), eq-eqb target target refl, or_true (list_any (deed_closes target) ds)) (at.0, at.1, at.2, refl, at.3)),
        )
  answered closes_result b c op ds d a i o at ans r = by a (subst (λ z. Replies z d a) (let q : op ≡ closing (port x.result) = cc in q) ans) (subst (λ z. BodyRest program (body_fill a z) c) i r) where
    by : (a : Tree) → Replies (closing (port x.result)) d a → BodyRest program (body_fill a (script (closing_at program x 0))) c → Goes (ds ++ d ∷ []) c
    by a (was_shut is an) rest =
        let nilled = subst (λ z. BodyRest program (body_fill z (script (closing_at program x 0))) c) an rest in (
          over,
          nilled.2 ∙ ap (λ z. script z) (stays (λ e. cc) nilled.1),
          by_deed over ds d _ is
              (rw (append-nil (taken ds), append-nil (put_in ds), or_false (list_any found_nil ds), at.3) (at.0, at.1, at.2, refl)),
        )
  answered over b c op ds d a i o at ans r = absurd (let q : None ≡ Some op = o in cc)
  answered failed b c op ds d a i o at ans r = absurd (let q : None ≡ Some op = o in cc)

  take_keeps : KeepsStages program Is At
  take_keeps = record {
    waits = λ n b op ds w i o m k. by_deed n ds (did_wait w (branches_of op)) (did_wait w (branches_of op)) refl (same n ds k);
    ends = ends;
    answered = λ n b c op ds d a i o k ans r. answered n b c op ds d a i (only n b op i o) k ans r;
  }

  concludes : (n : Stage) (ds : List Deed) → At n ds → TookAtMost most target ds
  concludes (asks k) ds a = record { order = ([], sym a.0 ∙ sym (append-nil (put_in ds))); bound = (let l : length (taken ds) ≡ k = a.1 in let h : k < most = a.2 in omega (arith, l, h)); whole = λ e. absurd (let j : true ≡ false = sym e ∙ a.3 in cc) }
  concludes (gives k v) ds a = record { order = (onto target (v ∷ []), ap (onto target) a.1 ∙ onto_more target a.0 v ∙ ap (λ z. z ++ (target, v) ∷ []) (sym a.2)); bound = (let l : length (taken ds) ≡ suc (length a.0) = ap (λ z. length z) a.1 ∙ one_longer a.0 v in let m : length a.0 ≡ k = a.3 in let h : k < most = a.4 in omega (arith, l, m, h)); whole = λ e. absurd (let j : true ≡ false = sym e ∙ a.5 in cc) }
  concludes shuts ds a = record { order = ([], sym a.0 ∙ sym (append-nil (put_in ds))); bound = a.1; whole = λ e. absurd (let j : true ≡ false = sym e ∙ a.3 in cc) }
  concludes closes_result ds a = record { order = ([], sym a.0 ∙ sym (append-nil (put_in ds))); bound = a.1; whole = λ e. absurd (let j : true ≡ false = sym e ∙ a.4 in cc) }
  concludes over ds a = record { order = ([], sym a.0 ∙ sym (append-nil (put_in ds))); bound = a.1; whole = λ e. (a.3, a.2) }
  concludes failed ds a = record { order = a.0; bound = a.1; whole = λ e. absurd (let j : true ≡ false = sym e ∙ a.2 in cc) }

  begins : (seed : SeedView) → new_task program seed ≡ script (new_body (take_text x)) → (c : TaskBody) → BodyRest program (new_task program seed) c → (n : Stage) × Is n c × At n []
  begins seed is c r =
      let rest = subst (λ z. BodyRest program z c) is r in
      from_round 0 [] c rest.0 rest.2 refl refl (omega arith) refl (begun program x rest.0 rest.1)

pub takes_keep : (program : ProgramView) (journal : List EventView) (s : State) → Reaches program journal s → TakeLaw program journal
takes_keep program journal s r t x (early, late, u, kind, result, seed, is, from, text) =
    let k = stays_in program (Is program x) (At program x) (take_keeps program x) journal early late s u t kind result seed r is from (begins program x seed text) in
    concludes program x k.now (deeds t journal) k.stands
