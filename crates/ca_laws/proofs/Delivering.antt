-- Deliveries keep to their rule.
use Rattle.std.proofs.Common.{◌≡◌, inl, inr, ℕ, List, [], ◌∷◌, ◌++◌, refl, sym, ap, subst, Bool, true, false, cond, Option, None, append-nil}
use Rattle.ca_value.specs.Tree.{Tree, bool, port}
use Rattle.ca_term.specs.declared.place.Place.{Place}
use Rattle.ca_term.specs.declared.fault.Fault.{Fault}
use Rattle.ca_term.specs.declared.head.RegisterName.TheVariants.{Untap}
use Rattle.ca_term.specs.declared.head.SystemTask.{SystemTask}
use Rattle.ca_term.specs.Operation.{OpView, putting, registering}
use Rattle.ca_term.specs.Program.{ProgramView}
use Rattle.ca_term.specs.Event.{EventView}
use Rattle.ca_meaning.specs.Body.{asking}
use Rattle.ca_meaning.specs.Operands.{truth}
use Rattle.ca_meaning.specs.Choice.{branches_of}
use Rattle.ca_meaning.specs.State.{State}
use Rattle.ca_meaning.specs.Legal.{Reaches}
use Rattle.ca_meaning.specs.Asks.{Next, to, stop, fail, two_of, too_large_here}
use Rattle.ca_meaning.specs.MultTable.{Delivery, DeliverState, deliver_puts, deliver_untaps, deliver_answers, deliver_asks, deliver_next}
use Rattle.ca_meaning.specs.System.{SystemBody, a_delivery}
use Rattle.ca_laws.specs.Deeds.{Deed, did_wait, did_end}
use Rattle.ca_laws.specs.Taken.{put_by, put_in}
use Rattle.ca_laws.specs.MultRules.{DeliverRule, delivery_of, DeliveriesKeepTo}
use Rattle.ca_laws.proofs.Acts.{Replies, gave, enrols}
use Rattle.ca_laws.proofs.More.{each_more}
use Rattle.ca_laws.proofs.Tables.{stands_only, Keeps, all_keep_to}

module _ (program : ProgramView) (x : Delivery) (place : Place) where
  abbrev deliver_body : Next DeliverState → SystemBody
  deliver_body n = a_delivery x place n

  abbrev deliver_op : DeliverState → OpView
  deliver_op deliver_puts = putting (port x.channel) x.value
  deliver_op deliver_untaps = registering Untap (two_of (port x.mult) (port x.channel))
  deliver_op deliver_answers = putting (port x.acks) (bool true)

  abbrev deliver_fault : DeliverState → Option Fault
  deliver_fault deliver_puts = too_large_here x.value
  deliver_fault deliver_untaps = None
  deliver_fault deliver_answers = too_large_here (bool true)

  rows : (s : DeliverState) → deliver_asks x s place ≡ asking place (deliver_fault s) (deliver_op s)
  rows deliver_puts = refl
  rows deliver_untaps = refl
  rows deliver_answers = refl

  -- by what it put
  abbrev DeliversAt : Next DeliverState → List (ℕ × Tree) → Type 0
  DeliversAt (to deliver_puts) us = us ≡ []
  DeliversAt (to deliver_untaps) us = us ≡ (x.channel, x.value) ∷ []
  DeliversAt (to deliver_answers) us = us ≡ (x.channel, x.value) ∷ []
  DeliversAt stop us = Unit {0}
  DeliversAt (fail g) us = Unit {0}

  abbrev DeliverAt : Next DeliverState → List Deed → Type 0
  DeliverAt n ds = DeliversAt n (put_in ds)

  by_deed : (n : Next DeliverState) (ds : List Deed) (d c : Deed) → d ≡ c → DeliversAt n (put_in ds ++ put_by c) → DeliverAt n (ds ++ d ∷ [])
  by_deed n ds d c is k = subst (λ z. DeliverAt n (ds ++ z ∷ [])) (sym is) (subst (DeliversAt n) (sym (each_more put_by ds c)) k)

  same : (n : Next DeliverState) (us : List (ℕ × Tree)) → DeliversAt n us → DeliversAt n (us ++ [])
  same n us k = subst (DeliversAt n) (sym (append-nil us)) k

  allowed : (s : DeliverState) (ds : List Deed) → DeliverAt (to s) ds → DeliverRule x ds (deliver_op s)
  allowed deliver_puts ds k = inl (refl, refl, k)
  allowed deliver_untaps ds k = (refl, refl, k)
  allowed deliver_answers ds k = inr (refl, refl, k)

  answered : (s : DeliverState) (ds : List Deed) (d : Deed) (a : Tree) → DeliverAt (to s) ds → Replies (deliver_op s) d a → DeliverAt (deliver_next a s) (ds ++ d ∷ [])
  answered deliver_puts ds d a k (gave is pa) = by (truth a) where
    by : (b : Bool) → DeliverAt (cond b (to deliver_answers) (to deliver_untaps)) (ds ++ d ∷ [])
    by true = by_deed (to deliver_answers) ds d _ is (ap (λ z. z ++ (x.channel, x.value) ∷ []) k)
    by false = by_deed (to deliver_untaps) ds d _ is (ap (λ z. z ++ (x.channel, x.value) ∷ []) k)
  answered deliver_untaps ds d a k (enrols is) = by_deed (to deliver_answers) ds d _ is (same (to deliver_answers) (put_in ds) k)
  answered deliver_answers ds d a k (gave is pa) = tt

  deliver_keeps : Keeps program deliver_body deliver_op DeliverAt (DeliverRule x)
  deliver_keeps = record {
    only = λ n op at. stands_only place (deliver_asks x) deliver_op deliver_fault rows n op at.0 at.1;
    allowed = allowed;
    waits = λ s ds w k may. by_deed (to s) ds (did_wait w (branches_of (deliver_op s))) (did_wait w (branches_of (deliver_op s))) refl (same (to s) (put_in ds) k);
    ends = λ n ds how k. by_deed n ds (did_end how) (did_end how) refl (same n (put_in ds) k);
    answered = λ s ds d a c k ans r. (deliver_next a s, r, answered s ds d a k ans);
  }

pub deliveries_keep_to : (program : ProgramView) (journal : List EventView) (s : State) → Reaches program journal s → DeliveriesKeepTo program journal s
deliveries_keep_to program = all_keep_to program SystemTask.Deliver refl (λ values place. DeliverRule (delivery_of values))
    (λ values place. deliver_body program (delivery_of values) place) (λ values place. deliver_op program (delivery_of values) place) (λ values place. DeliverAt program (delivery_of values) place)
    (λ values place. deliver_keeps program (delivery_of values) place) (λ values place c r. (to deliver_puts, r, refl))
