-- Reduces keep to their law.
use Rattle.std.proofs.Common.{◌≡◌, ℕ, List, [], ◌∷◌, ◌++◌, refl, sym, ap, ◌∙◌, subst, Bool, true, false, cond, ◌||◌, Option, Some, None, append-nil}
use Rattle.std.specs.List.{list_any}
use Rattle.ca_value.specs.Tree.{Tree, nil, port}
use Rattle.ca_term.specs.declared.head.Head.{Head}
use Rattle.ca_term.specs.declared.place.Place.{Place}
use Rattle.ca_term.specs.declared.fault.Fault.{Fault}
use Rattle.ca_term.specs.declared.event.Ending.{Ending}
use Rattle.ca_term.specs.declared.event.Ending.TheVariants.{Ended, Faulted}
use Rattle.ca_term.specs.Operation.{OpView, SeedView, taking, posting, closing}
use Rattle.ca_term.specs.Kernel.{const}
use Rattle.ca_term.specs.Program.{ProgramView}
use Rattle.ca_term.specs.Event.{EventView}
use Rattle.ca_meaning.specs.Asking.{too_large}
use Rattle.ca_meaning.specs.Operands.{is_nil, port_of_value}
use Rattle.ca_meaning.specs.Body.{BodyView, at, at_op, faulted, ended, asking, new_body}
use Rattle.ca_meaning.specs.Choice.{branches_of}
use Rattle.ca_meaning.specs.Task.{TaskBody, script, body_at, body_fill, BodyRest, new_task}
use Rattle.ca_meaning.specs.State.{State}
use Rattle.ca_meaning.specs.Going.{IsAtOp}
use Rattle.ca_meaning.specs.Legal.{Reaches}
use Rattle.ca_laws.specs.Deeds.{Deed, did_take, did_wait, did_end, deeds}
use Rattle.ca_laws.specs.Taken.{taken_by, taken}
use Rattle.ca_laws.proofs.Acts.{Replies, got, posts as was_posted, posts_late, shuts as was_shut}
use Rattle.ca_laws.proofs.More.{each_more}
use Rattle.ca_laws.proofs.Tables.{asked}
use Rattle.ca_derived_laws.specs.TakeLaw.{found_nil, has_ended}
use Rattle.ca_derived_laws.specs.ReduceTask.{ReduceTask, reduce_text}
use Rattle.ca_derived_laws.specs.ReduceLaw.{Comes, Folded, posted_by, values_posted, Reduced, ReduceLaw}
use Rattle.ca_derived_laws.proofs.Resting.{stays}
use Rattle.ca_derived_laws.proofs.Taking.{any_more, or_false, or_true}
use Rattle.ca_derived_laws.proofs.ReduceSteps.{deep, asking_at, posting_at, closing_at, Left, posts, closes, Took, folded, over as took_over, fails, took, begun, shut}
use Rattle.ca_derived_laws.proofs.PlainCalling.{IsPlainCall, plain_calls}
use Rattle.ca_laws.proofs.Keeping.{KeepsStages, stays_in}

-- a task of a reduce at rest, with the value so far
data Stage : Type 0 where
  asks : Tree → Stage
  posting_it : Tree → Stage
  closes_result : Tree → Stage
  over : Tree → Stage
  failed : Stage

folded_more : (program : ProgramView) (f : Head) (p : Place) (w : Tree) (vs : List Tree) (v a u : Tree) → Folded program f p w vs v → Comes program f p v a u → Folded program f p w (vs ++ a ∷ []) u
folded_more program f p w [] v a u h e = (u, subst (λ z. Comes program f p z a u) h e, refl)
folded_more program f p w (b ∷ vs) v a u h e = (h.0, h.1, folded_more program f p h.0 vs v a u h.2 e)

module _ (program : ProgramView) (x : ReduceTask) (plain : IsPlainCall program x.function x.place) where
  abbrev Is : Stage → TaskBody → Type 0
  Is (asks v) b = (n : ℕ) × (d : ℕ) × (b ≡ script (asking_at program x v n d))
  Is (posting_it v) b = (n : ℕ) × (d : ℕ) × (b ≡ script (posting_at program x v n d))
  Is (closes_result v) b = (n : ℕ) × (d : ℕ) × (b ≡ script (closing_at program x n d))
  Is (over v) b = (d : ℕ) × (b ≡ script (deep (const nil) 0 d))
  Is failed b = (f : Fault) × (p : Place) × (body_at b ≡ faulted f p)

  abbrev of_value : Tree → List (ℕ × Tree)
  of_value v = cond (is_nil v) [] ((x.result, v) ∷ [])

  -- by what it took and posted, whether it found nil and ended
  abbrev Facts : Stage → List Tree → List (ℕ × Tree) → Bool → Bool → Type 0
  Facts (asks v) ts ps found done_it = Folded program x.function x.place x.initial ts v × (ps ≡ []) × (done_it ≡ false)
  Facts (posting_it v) ts ps found done_it = Folded program x.function x.place x.initial ts v × (ps ≡ []) × (found ≡ true) × (is_nil v ≡ false) × (done_it ≡ false)
  Facts (closes_result v) ts ps found done_it = Folded program x.function x.place x.initial ts v × (ps ≡ of_value v) × (found ≡ true) × (done_it ≡ false)
  Facts (over v) ts ps found done_it = Folded program x.function x.place x.initial ts v × (ps ≡ of_value v) × (found ≡ true)
  Facts failed ts ps found done_it = done_it ≡ false

  abbrev At : Stage → List Deed → Type 0
  At n ds = Facts n (taken ds) (values_posted ds) (list_any found_nil ds) (list_any has_ended ds)

  by_deed : (n : Stage) (ds : List Deed) (d c : Deed) → d ≡ c → Facts n (taken ds ++ taken_by c) (values_posted ds ++ posted_by c) (list_any found_nil ds || found_nil c) (list_any has_ended ds || has_ended c) → At n (ds ++ d ∷ [])
  by_deed n ds d c is k = subst (λ z. At n (ds ++ z ∷ [])) (sym is) (rw (each_more taken_by ds c, each_more posted_by ds c, any_more found_nil ds c, any_more has_ended ds c) k)

  same : (n : Stage) (ds : List Deed) → At n ds → Facts n (taken ds ++ []) (values_posted ds ++ []) (list_any found_nil ds || false) (list_any has_ended ds || false)
  same n ds k = rw (append-nil (taken ds), append-nil (values_posted ds), or_false (list_any found_nil ds), or_false (list_any has_ended ds)) k

  abbrev op_of : Stage → Option OpView
  op_of (asks v) = Some (taking x.source)
  op_of (posting_it v) = Some (posting (port x.result) v)
  op_of (closes_result v) = Some (closing (port x.result))
  op_of (over v) = None
  op_of failed = None

  only : (n : Stage) (b : TaskBody) (op : OpView) → Is n b → IsAtOp b op → op_of n ≡ Some op
  only (asks v) b op i a = ap (λ z. Some z) (sym (asked x.place None (taking x.source) (record { op = op; place = a.0 }) (sym (ap body_at i.2) ∙ a.1)))
  only (posting_it v) b op i a = ap (λ z. Some z) (sym (asked x.place (too_large v) (posting (port x.result) v) (record { op = op; place = a.0 }) (sym (ap body_at i.2) ∙ a.1)))
  only (closes_result v) b op i a = ap (λ z. Some z) (sym (asked x.place None (closing (port x.result)) (record { op = op; place = a.0 }) (sym (ap body_at i.2) ∙ a.1)))
  only (over v) b op i a = absurd (let j : ended nil ≡ at_op (record { op = op; place = a.0 }) = sym (ap body_at i.1) ∙ a.1 in cc)
  only failed b op i a = absurd (let j : faulted i.0 i.1 ≡ at_op (record { op = op; place = a.0 }) = sym i.2 ∙ a.1 in cc)

  abbrev IsOver : Stage → Type 0
  IsOver (over v) = Unit {0}
  IsOver n = ⊥

  valued : (n : Stage) (b : TaskBody) (v : Tree) → Is n b → body_at b ≡ ended v → IsOver n
  valued (asks w) b v i e = absurd (let j : at_op (record { op = taking x.source; place = x.place }) ≡ ended v = sym (ap body_at i.2) ∙ e in cc)
  valued (posting_it w) b v i e = absurd (never (too_large w) (sym (ap body_at i.2) ∙ e)) where
    never : (o : Option Fault) → asking x.place o (posting (port x.result) w) ≡ ended v → ⊥
    never None j = cc
    never (Some f) j = cc
  valued (closes_result w) b v i e = absurd (let j : at_op (record { op = closing (port x.result); place = x.place }) ≡ ended v = sym (ap body_at i.2) ∙ e in cc)
  valued (over w) b v i e = tt
  valued failed b v i e = absurd (let j : faulted i.0 i.1 ≡ ended v = sym i.2 ∙ e in cc)

  ended_at : (n : Stage) (ds : List Deed) → IsOver n → At n ds → At n (ds ++ did_end Ended ∷ [])
  ended_at (over v) ds i k = by_deed (over v) ds (did_end Ended) (did_end Ended) refl (rw (append-nil (taken ds), append-nil (values_posted ds), or_false (list_any found_nil ds)) k)
  ended_at (asks v) ds i k = absurd i
  ended_at (posting_it v) ds i k = absurd i
  ended_at (closes_result v) ds i k = absurd i
  ended_at failed ds i k = absurd i

  ends : (n : Stage) (b : TaskBody) (ds : List Deed) (how : Ending) → Is n b → (how ≡ Ended → (v : Tree) × (body_at b ≡ ended v)) → At n ds → At n (ds ++ did_end how ∷ [])
  ends n b ds Ended i v k = let w = v refl in ended_at n ds (valued n b w.0 i w.1) k
  ends n b ds (Faulted f p r) i v k = by_deed n ds (did_end (Faulted f p r)) (did_end (Faulted f p r)) refl (same n ds k)

  abbrev Goes : List Deed → TaskBody → Type 0
  Goes ds c = (k : Stage) × Is k c × At k ds

  abbrev Known : Tree → List Deed → Type 0
  Known v es = Folded program x.function x.place x.initial (taken es) v × (values_posted es ≡ []) × (list_any found_nil es ≡ true) × (list_any has_ended es ≡ false)

  -- with nil found, and the value of the fold
  from_left : (v : Tree) (ds : List Deed) (b : TaskBody) (c : BodyView) → b ≡ script c → Folded program x.function x.place x.initial (taken ds) v → values_posted ds ≡ [] → list_any found_nil ds ≡ true → list_any has_ended ds ≡ false → Left program x v c → Goes ds b
  from_left v ds b c is f p n e (posts m q s k) = (posting_it v, (m, q, is ∙ ap (λ z. script z) s), (f, p, n, k, e))
  from_left v ds b c is f p n e (closes m q s k) = (closes_result v, (m, q, is ∙ ap (λ z. script z) s), (f, p ∙ ap (λ z. cond z [] ((x.result, v) ∷ [])) (sym k), n, e))

  answer_take : (v : Tree) (ds : List Deed) (d : Deed) (a : Tree) (b : TaskBody) (c : BodyView) → At (asks v) ds → Replies (taking x.source) d a → b ≡ script c → Took program x v a c → Goes (ds ++ d ∷ []) b
  answer_take v ds d a b c at (got is) bc (folded w m q s e k) = (
    asks w,
    (m, q, bc ∙ ap (λ z. script z) s),
    by_deed (asks w) ds d _ is
        (subst (λ z. Folded program x.function x.place x.initial (taken ds ++ cond z [] (a ∷ [])) w) (sym e) (folded_more program x.function x.place x.initial (taken ds) v a w at.0 k), append-nil (values_posted ds) ∙ at.1, or_false (list_any has_ended ds) ∙ at.2),
  )
  answer_take v ds d a b c at (got is) bc (fails f p s) = (failed, (f, p, ap body_at bc ∙ s), by_deed failed ds d _ is (or_false (list_any has_ended ds) ∙ at.2))
  answer_take v ds d a b c at (got is) bc (took_over l e) = from_left v (ds ++ d ∷ []) b c bc facts.0 facts.1 facts.2 facts.3 l where
    facts : Known v (ds ++ d ∷ [])
    facts = subst (λ z. Known v (ds ++ z ∷ [])) (sym is) (rw (each_more taken_by ds (did_take 0 (port_of_value x.source) a), each_more posted_by ds (did_take 0 (port_of_value x.source) a), any_more found_nil ds (did_take 0 (port_of_value x.source) a), any_more has_ended ds (did_take 0 (port_of_value x.source) a), e, append-nil (taken ds), append-nil (values_posted ds), or_true (list_any found_nil ds), or_false (list_any has_ended ds)) (at.0, at.1, refl, at.2))

  answer_post : (v : Tree) (ds : List Deed) (d : Deed) (a : Tree) (b : TaskBody) (c : BodyView) (q : ℕ) → At (posting_it v) ds → Replies (posting (port x.result) v) d a → b ≡ script c → c ≡ closing_at program x 0 q → Goes (ds ++ d ∷ []) b
  answer_post v ds d a b c q at (was_posted is pa) bc s = (closes_result v, (0, q, bc ∙ ap (λ z. script z) s), by_deed (closes_result v) ds d _ is (rw (append-nil (taken ds), at.1, at.3, or_false (list_any found_nil ds), or_false (list_any has_ended ds)) (at.0, refl, at.2, at.4)))
  answer_post v ds d a b c q at (posts_late w is an) bc s = (closes_result v, (0, q, bc ∙ ap (λ z. script z) s), by_deed (closes_result v) ds d _ is (rw (append-nil (taken ds), at.1, at.3, or_false (list_any found_nil ds), or_false (list_any has_ended ds)) (at.0, refl, at.2, at.4)))

  answered : (n : Stage) (b c : TaskBody) (op : OpView) (ds : List Deed) (d : Deed) (a : Tree) → Is n b → op_of n ≡ Some op → At n ds → Replies op d a → BodyRest program (body_fill a b) c → Goes (ds ++ d ∷ []) c
  answered (asks v) b c op ds d a i o at ans r =
      let rest = subst (λ z. BodyRest program (body_fill a z) c) i.2 r in
      answer_take v ds d a c rest.0 at (subst (λ z. Replies z d a) (let q : op ≡ taking x.source = cc in q) ans) rest.2 (took program x plain v a i.1 rest.0 rest.1)
  answered (posting_it v) b c op ds d a i o at ans r =
      let rest = subst (λ z. BodyRest program (body_fill a z) c) i.2 r in
      answer_post v ds d a c rest.0 i.1 at (subst (λ z. Replies z d a) (let q : op ≡ posting (port x.result) v = cc in q) ans) rest.2 (shut program x a i.1 rest.0 rest.1)
  answered (closes_result v) b c op ds d a i o at ans r = by a (subst (λ z. Replies z d a) (let q : op ≡ closing (port x.result) = cc in q) ans) (subst (λ z. BodyRest program (body_fill a z) c) i.2 r) where
    by : (a : Tree) → Replies (closing (port x.result)) d a → BodyRest program (body_fill a (script (closing_at program x i.0 i.1))) c → Goes (ds ++ d ∷ []) c
    by a (was_shut is an) rest =
        let nilled = subst (λ z. BodyRest program (body_fill z (script (closing_at program x i.0 i.1))) c) an rest in
        (over v, (i.1, nilled.2 ∙ ap (λ z. script z) (stays (λ e. cc) nilled.1)), by_deed (over v) ds d _ is (rw (append-nil (taken ds), append-nil (values_posted ds), or_false (list_any found_nil ds)) (at.0, at.1, at.2)))
  answered (over v) b c op ds d a i o at ans r = absurd (let q : None ≡ Some op = o in cc)
  answered failed b c op ds d a i o at ans r = absurd (let q : None ≡ Some op = o in cc)

  reduce_keeps : KeepsStages program Is At
  reduce_keeps = record {
    waits = λ n b op ds w i o m k. by_deed n ds (did_wait w (branches_of op)) (did_wait w (branches_of op)) refl (same n ds k);
    ends = ends;
    answered = λ n b c op ds d a i o k ans r. answered n b c op ds d a i (only n b op i o) k ans r;
  }

  concludes : (n : Stage) (ds : List Deed) → At n ds → Reduced program x.function x.place x.initial x.result ds
  concludes (asks v) ds a e = absurd (let j : true ≡ false = sym e ∙ a.2 in cc)
  concludes (posting_it v) ds a e = absurd (let j : true ≡ false = sym e ∙ a.4 in cc)
  concludes (closes_result v) ds a e = absurd (let j : true ≡ false = sym e ∙ a.3 in cc)
  concludes (over v) ds a e = (a.2, (v, a.0, a.1))
  concludes failed ds a e = absurd (let j : true ≡ false = sym e ∙ a in cc)

  begins : (seed : SeedView) → new_task program seed ≡ script (new_body (reduce_text x)) → (c : TaskBody) → BodyRest program (new_task program seed) c → (n : Stage) × Is n c × At n []
  begins seed is c r =
      let rest = subst (λ z. BodyRest program z c) is r in
      (asks x.initial, (0, 0, rest.2 ∙ ap (λ z. script z) (begun program x rest.0 rest.1)), (refl, refl, refl))

pub reduces_keep : (program : ProgramView) (journal : List EventView) (s : State) → Reaches program journal s → ReduceLaw program journal
reduces_keep program journal s r t x (early, late, u, kind, result, seed, is, from, text) head =
    let plain = plain_calls program x.function x.place head in
    let k = stays_in program (Is program x plain) (At program x plain) (reduce_keeps program x plain) journal early late s u t kind result seed r is from (begins program x plain seed text) in
    concludes program x plain k.now (deeds t journal) k.stands
