-- Splits keep to their law.
use Rattle.std.proofs.Common.{◌≡◌, ℕ, List, [], ◌∷◌, ◌++◌, refl, sym, ap, ◌∙◌, subst, cond, Option, Some, None, append-nil}
use Rattle.ca_value.specs.Tree.{Tree, nil, port}
use Rattle.ca_term.specs.declared.place.Place.{Place}
use Rattle.ca_term.specs.declared.fault.Fault.{Fault}
use Rattle.ca_term.specs.Operation.{OpView, SeedView, taking, putting, closing}
use Rattle.ca_term.specs.Kernel.{const}
use Rattle.ca_term.specs.Program.{ProgramView}
use Rattle.ca_term.specs.Event.{EventView}
use Rattle.ca_meaning.specs.Asking.{too_large}
use Rattle.ca_meaning.specs.Operands.{is_nil, port_of_value, truth}
use Rattle.ca_meaning.specs.Body.{BodyView, at_op, faulted, ended, new_body}
use Rattle.ca_meaning.specs.Choice.{branches_of}
use Rattle.ca_meaning.specs.Task.{TaskBody, script, body_at, body_fill, BodyRest, new_task}
use Rattle.ca_meaning.specs.State.{State}
use Rattle.ca_meaning.specs.Going.{IsAtOp}
use Rattle.ca_meaning.specs.Legal.{Reaches}
use Rattle.ca_laws.specs.Deeds.{Deed, did_take, did_put, did_wait, did_close, did_end, deeds}
use Rattle.ca_laws.specs.Taken.{taken_by, taken, put_by, put_in, sent_by, sent, Begins}
use Rattle.ca_laws.proofs.Acts.{Replies, got, gave as was_given, shuts as was_shut}
use Rattle.ca_laws.proofs.More.{each_more}
use Rattle.ca_laws.proofs.Tables.{asked}
use Rattle.ca_derived_laws.specs.SplitTask.{SplitTask, split_text}
use Rattle.ca_derived_laws.specs.SplitLaw.{TestComes, IsSided, AreSided, SplitBy, SplitLaw}
use Rattle.ca_derived_laws.proofs.Resting.{stays}
use Rattle.ca_derived_laws.proofs.ReduceSteps.{deep}
use Rattle.ca_derived_laws.proofs.SplitSteps.{asking_at, giving_at, shutting_yes_at, shutting_no_at, closing_at, Took, puts_next, shuts_next, fails, took, Gave, again, leaves, gave, shut_yes, shut_no, begun}
use Rattle.ca_derived_laws.proofs.PlainCalling.{IsPlainTest, plain_tests}
use Rattle.ca_laws.proofs.Keeping.{KeepsStages, stays_in}

data Stage : Type 0 where
  asks : Stage
  -- the value, and what its test came to
  gives : Tree → Tree → Stage
  shuts_yes : Stage
  shuts_no : Stage
  closes_result : Stage
  over : Stage
  failed : Stage

module _ (program : ProgramView) (x : SplitTask) (plain : IsPlainTest program x) where
  abbrev side : Tree → Tree
  side w = cond (truth w) x.yes x.no

  abbrev Is : Stage → TaskBody → Type 0
  Is asks b = (n : ℕ) × (d : ℕ) × (b ≡ script (asking_at program x n d))
  Is (gives v w) b = (n : ℕ) × (d : ℕ) × (b ≡ script (giving_at program x (cond (truth w) x.yes x.no) v n d))
  Is shuts_yes b = (n : ℕ) × (d : ℕ) × (b ≡ script (shutting_yes_at program x n d))
  Is shuts_no b = (n : ℕ) × (d : ℕ) × (b ≡ script (shutting_no_at program x n d))
  Is closes_result b = (n : ℕ) × (d : ℕ) × (b ≡ script (closing_at program x n d))
  Is over b = (d : ℕ) × (b ≡ script (deep (const nil) 0 d))
  Is failed b = (f : Fault) × (p : Place) × (body_at b ≡ faulted f p)

  abbrev Sent : Stage → List Tree → List Tree → Type 0
  Sent asks ts us = us ≡ ts
  Sent (gives v w) ts us = (us ++ v ∷ [] ≡ ts) × TestComes program x v w
  Sent shuts_yes ts us = us ≡ ts
  Sent shuts_no ts us = us ≡ ts
  Sent closes_result ts us = us ≡ ts
  Sent over ts us = us ≡ ts
  Sent failed ts us = Begins us ts

  abbrev Facts : Stage → List Tree → List Tree → List (ℕ × Tree) → Type 0
  Facts n ts us ps = Sent n ts us × AreSided program x ps

  abbrev At : Stage → List Deed → Type 0
  At n ds = Facts n (taken ds) (sent ds) (put_in ds)

  by_deed : (n : Stage) (ds : List Deed) (d c : Deed) → d ≡ c → Facts n (taken ds ++ taken_by c) (sent ds ++ sent_by c) (put_in ds ++ put_by c) → At n (ds ++ d ∷ [])
  by_deed n ds d c is k = subst (λ z. At n (ds ++ z ∷ [])) (sym is) (rw (each_more taken_by ds c, each_more sent_by ds c, each_more put_by ds c) k)

  same : (n : Stage) (ds : List Deed) → At n ds → Facts n (taken ds ++ []) (sent ds ++ []) (put_in ds ++ [])
  same n ds k = rw (append-nil (taken ds), append-nil (sent ds), append-nil (put_in ds)) k

  one_more : (ps : List (ℕ × Tree)) (q : ℕ × Tree) → AreSided program x ps → IsSided program x q → AreSided program x (ps ++ q ∷ [])
  one_more [] q a i = (i, tt)
  one_more (p ∷ ps) q a i = (a.0, one_more ps q a.1 i)

  abbrev op_of : Stage → Option OpView
  op_of asks = Some (taking x.source)
  op_of (gives v w) = Some (putting (cond (truth w) x.yes x.no) v)
  op_of shuts_yes = Some (closing x.yes)
  op_of shuts_no = Some (closing x.no)
  op_of closes_result = Some (closing (port x.result))
  op_of over = None
  op_of failed = None

  only : (n : Stage) (b : TaskBody) (op : OpView) → Is n b → IsAtOp b op → op_of n ≡ Some op
  only asks b op i a = ap (λ z. Some z) (sym (asked x.place None (taking x.source) (record { op = op; place = a.0 }) (sym (ap body_at i.2) ∙ a.1)))
  only (gives v w) b op i a = ap (λ z. Some z) (sym (asked x.place (too_large v) (putting (cond (truth w) x.yes x.no) v) (record { op = op; place = a.0 }) (sym (ap body_at i.2) ∙ a.1)))
  only shuts_yes b op i a = ap (λ z. Some z) (sym (asked x.place None (closing x.yes) (record { op = op; place = a.0 }) (sym (ap body_at i.2) ∙ a.1)))
  only shuts_no b op i a = ap (λ z. Some z) (sym (asked x.place None (closing x.no) (record { op = op; place = a.0 }) (sym (ap body_at i.2) ∙ a.1)))
  only closes_result b op i a = ap (λ z. Some z) (sym (asked x.place None (closing (port x.result)) (record { op = op; place = a.0 }) (sym (ap body_at i.2) ∙ a.1)))
  only over b op i a = absurd (let j : ended nil ≡ at_op (record { op = op; place = a.0 }) = sym (ap body_at i.1) ∙ a.1 in cc)
  only failed b op i a = absurd (let j : faulted i.0 i.1 ≡ at_op (record { op = op; place = a.0 }) = sym i.2 ∙ a.1 in cc)

  abbrev Goes : List Deed → TaskBody → Type 0
  Goes ds c = (k : Stage) × Is k c × At k ds

  answer_take : (ds : List Deed) (d : Deed) (a : Tree) (b : TaskBody) (c : BodyView) → At asks ds → Replies (taking x.source) d a → b ≡ script c → Took program x a c → Goes (ds ++ d ∷ []) b
  answer_take ds d a b c k (got is) bc (puts_next w n q s e t) = (
    gives a w,
    (n, q, bc ∙ ap (λ z. script z) s),
    by_deed (gives a w) ds d (did_take 0 (port_of_value x.source) a) is
        (rw (e, append-nil (sent ds), append-nil (put_in ds)) ((ap (λ z. z ++ a ∷ []) k.0, t), k.1)),
  )
  answer_take ds d a b c k (got is) bc (shuts_next n q s e) = (
    shuts_yes,
    (n, q, bc ∙ ap (λ z. script z) s),
    by_deed shuts_yes ds d (did_take 0 (port_of_value x.source) a) is
        (rw (e, append-nil (taken ds), append-nil (sent ds), append-nil (put_in ds)) k),
  )
  answer_take ds d a b c k (got is) bc (fails f p s) = (
    failed,
    (f, p, ap body_at bc ∙ s),
    by_deed failed ds d (did_take 0 (port_of_value x.source) a) is
        (rw (append-nil (sent ds), append-nil (put_in ds)) ((cond (is_nil a) [] (a ∷ []), ap (λ z. z ++ cond (is_nil a) [] (a ∷ [])) (sym k.0)), k.1)),
  )

  answer_put : (v w : Tree) (ds : List Deed) (d : Deed) (a : Tree) (b : TaskBody) (c : BodyView) → At (gives v w) ds → Replies (putting (cond (truth w) x.yes x.no) v) d a → b ≡ script c → Gave program x c → Goes (ds ++ d ∷ []) b
  answer_put v w ds d a b c k (was_given is pa) bc (again n q s) = (
    asks,
    (n, q, bc ∙ ap (λ z. script z) s),
    by_deed asks ds d (did_put 0 (port_of_value (cond (truth w) x.yes x.no)) v a) is
        (rw (append-nil (taken ds)) (k.0.0, one_more (put_in ds) (port_of_value (cond (truth w) x.yes x.no), v) k.1 (w, k.0.1, refl))),
  )
  answer_put v w ds d a b c k (was_given is pa) bc (leaves n q s) = (
    closes_result,
    (n, q, bc ∙ ap (λ z. script z) s),
    by_deed closes_result ds d (did_put 0 (port_of_value (cond (truth w) x.yes x.no)) v a) is
        (rw (append-nil (taken ds)) (k.0.0, one_more (put_in ds) (port_of_value (cond (truth w) x.yes x.no), v) k.1 (w, k.0.1, refl))),
  )

  answered : (n : Stage) (b c : TaskBody) (op : OpView) (ds : List Deed) (d : Deed) (a : Tree) → Is n b → op_of n ≡ Some op → At n ds → Replies op d a → BodyRest program (body_fill a b) c → Goes (ds ++ d ∷ []) c
  answered asks b c op ds d a i o k ans r =
      let rest = subst (λ z. BodyRest program (body_fill a z) c) i.2 r in
      answer_take ds d a c rest.0 k (subst (λ z. Replies z d a) (let q : op ≡ taking x.source = cc in q) ans) rest.2 (took program x plain a i.1 rest.0 rest.1)
  answered (gives v w) b c op ds d a i o k ans r =
      let rest = subst (λ z. BodyRest program (body_fill a z) c) i.2 r in
      answer_put v w ds d a c rest.0 k (subst (λ z. Replies z d a) (let q : op ≡ putting (cond (truth w) x.yes x.no) v = cc in q) ans) rest.2 (gave program x a i.1 rest.0 rest.1)
  answered shuts_yes b c op ds d a i o k ans r = by a (subst (λ z. Replies z d a) (let q : op ≡ closing x.yes = cc in q) ans) (subst (λ z. BodyRest program (body_fill a z) c) i.2 r) where
    by : (a : Tree) → Replies (closing x.yes) d a → BodyRest program (body_fill a (script (shutting_yes_at program x i.0 i.1))) c → Goes (ds ++ d ∷ []) c
    by a (was_shut is an) rest = (shuts_no, (0, i.1, rest.2 ∙ ap (λ z. script z) (shut_yes program x a i.1 rest.0 rest.1)), by_deed shuts_no ds d (did_close (port_of_value x.yes)) is (same shuts_no ds k))
  answered shuts_no b c op ds d a i o k ans r = by a (subst (λ z. Replies z d a) (let q : op ≡ closing x.no = cc in q) ans) (subst (λ z. BodyRest program (body_fill a z) c) i.2 r) where
    by : (a : Tree) → Replies (closing x.no) d a → BodyRest program (body_fill a (script (shutting_no_at program x i.0 i.1))) c → Goes (ds ++ d ∷ []) c
    by a (was_shut is an) rest =
        let nilled = subst (λ z. BodyRest program (body_fill z (script (shutting_no_at program x i.0 i.1))) c) an rest in
        (closes_result, (0, i.1, nilled.2 ∙ ap (λ z. script z) (shut_no program x i.1 nilled.0 nilled.1)), by_deed closes_result ds d (did_close (port_of_value x.no)) is (same closes_result ds k))
  answered closes_result b c op ds d a i o k ans r = by a (subst (λ z. Replies z d a) (let q : op ≡ closing (port x.result) = cc in q) ans) (subst (λ z. BodyRest program (body_fill a z) c) i.2 r) where
    by : (a : Tree) → Replies (closing (port x.result)) d a → BodyRest program (body_fill a (script (closing_at program x i.0 i.1))) c → Goes (ds ++ d ∷ []) c
    by a (was_shut is an) rest =
        let nilled = subst (λ z. BodyRest program (body_fill z (script (closing_at program x i.0 i.1))) c) an rest in
        (over, (i.1, nilled.2 ∙ ap (λ z. script z) (stays (λ e. cc) nilled.1)), by_deed over ds d (did_close (port_of_value (port x.result))) is (same over ds k))
  answered over b c op ds d a i o k ans r = absurd (let q : None ≡ Some op = o in cc)
  answered failed b c op ds d a i o k ans r = absurd (let q : None ≡ Some op = o in cc)

  split_keeps : KeepsStages program Is At
  split_keeps = record {
    waits = λ n b op ds w i o m k. by_deed n ds (did_wait w (branches_of op)) (did_wait w (branches_of op)) refl (same n ds k);
    ends = λ n b ds how i v k. by_deed n ds (did_end how) (did_end how) refl (same n ds k);
    answered = λ n b c op ds d a i o k ans r. answered n b c op ds d a i (only n b op i o) k ans r;
  }

  all_sent : (ts us : List Tree) → us ≡ ts → Begins us ts
  all_sent ts us e = ([], sym e ∙ sym (append-nil us))

  concludes : (n : Stage) (ds : List Deed) → At n ds → SplitBy program x ds
  concludes asks ds a = record { order = all_sent (taken ds) (sent ds) a.0; sides = a.1 }
  concludes (gives v w) ds a = record { order = (v ∷ [], sym a.0.0); sides = a.1 }
  concludes shuts_yes ds a = record { order = all_sent (taken ds) (sent ds) a.0; sides = a.1 }
  concludes shuts_no ds a = record { order = all_sent (taken ds) (sent ds) a.0; sides = a.1 }
  concludes closes_result ds a = record { order = all_sent (taken ds) (sent ds) a.0; sides = a.1 }
  concludes over ds a = record { order = all_sent (taken ds) (sent ds) a.0; sides = a.1 }
  concludes failed ds a = record { order = a.0; sides = a.1 }

  begins : (seed : SeedView) → new_task program seed ≡ script (new_body (split_text x)) → (c : TaskBody) → BodyRest program (new_task program seed) c → (n : Stage) × Is n c × At n []
  begins seed is c r =
      let rest = subst (λ z. BodyRest program z c) is r in
      (asks, (0, 0, rest.2 ∙ ap (λ z. script z) (begun program x rest.0 rest.1)), (refl, tt))

pub splits_keep : (program : ProgramView) (journal : List EventView) (s : State) → Reaches program journal s → SplitLaw program journal
splits_keep program journal s r t x (early, late, u, kind, result, seed, is, from, text) head =
    let plain = plain_tests program x head in
    let k = stays_in program (Is program x plain) (At program x plain) (split_keeps program x plain) journal early late s u t kind result seed r is from (begins program x plain seed text) in
    concludes program x plain k.now (deeds t journal) k.stands
