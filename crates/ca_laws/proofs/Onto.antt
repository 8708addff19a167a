-- Collections that go onto a channel keep to their rule.
use Rattle.std.proofs.Common.{◌≡◌, inl, inr, List, [], ◌∷◌, ◌++◌, refl, sym, ◌∙◌, subst, Bool, true, false, cond, Option, None, append_assoc, append-nil}
use Rattle.ca_value.specs.Tree.{Tree, Trees, port, none, item, items_of}
use Rattle.ca_term.specs.declared.place.Place.{Place}
use Rattle.ca_term.specs.declared.fault.Fault.{Fault}
use Rattle.ca_term.specs.declared.head.SystemTask.{SystemTask}
use Rattle.ca_term.specs.Operation.{OpView, putting, closing}
use Rattle.ca_term.specs.Program.{ProgramView}
use Rattle.ca_term.specs.Event.{EventView}
use Rattle.ca_meaning.specs.Body.{asking}
use Rattle.ca_meaning.specs.Operands.{truth, second_of}
use Rattle.ca_meaning.specs.Choice.{branches_of}
use Rattle.ca_meaning.specs.State.{State}
use Rattle.ca_meaning.specs.Legal.{Reaches}
use Rattle.ca_meaning.specs.Asks.{Next, to, stop, fail, trees_in, too_large_here}
use Rattle.ca_meaning.specs.PipeTable.{OntoPorts, OntoState, onto_puts, onto_closes, onto_ends, onto_over, items_left, onto_asks, onto_next}
use Rattle.ca_meaning.specs.System.{SystemBody, an_onto}
use Rattle.ca_laws.specs.Deeds.{Deed, did_wait, did_end}
use Rattle.ca_laws.specs.Taken.{sent_by, sent}
use Rattle.ca_laws.specs.PipeRules.{OntoRule, onto_ports, onto_items, OntosKeepTo}
use Rattle.ca_laws.proofs.Acts.{Replies, gave, shuts}
use Rattle.ca_laws.proofs.More.{each_more}
use Rattle.ca_laws.proofs.Tables.{stands_only, Keeps, all_keep_to}

module _ (program : ProgramView) (x : OntoPorts) (items : List Tree) (place : Place) where
  abbrev onto_body : Next OntoState → SystemBody
  onto_body n = an_onto x place n

  abbrev onto_op : OntoState → OpView
  onto_op (onto_puts v vs) = putting (port x.target) v
  onto_op onto_closes = closing (port x.target)
  onto_op onto_ends = closing (port x.result)

  abbrev onto_fault : OntoState → Option Fault
  onto_fault (onto_puts v vs) = too_large_here v
  onto_fault onto_closes = None
  onto_fault onto_ends = None

  rows : (s : OntoState) → onto_asks x s place ≡ asking place (onto_fault s) (onto_op s)
  rows (onto_puts v vs) = refl
  rows onto_closes = refl
  rows onto_ends = refl

  -- by what it put
  abbrev OntosAt : Next OntoState → List Tree → Type 0
  OntosAt (to (onto_puts v vs)) us = items ≡ us ++ v ∷ items_of vs
  OntosAt (to onto_closes) us = x.closes ≡ true
  OntosAt (to onto_ends) us = Unit {0}
  OntosAt stop us = Unit {0}
  OntosAt (fail g) us = Unit {0}

  abbrev OntoAt : Next OntoState → List Deed → Type 0
  OntoAt n ds = OntosAt n (sent ds)

  by_deed : (n : Next OntoState) (ds : List Deed) (d c : Deed) → d ≡ c → OntosAt n (sent ds ++ sent_by c) → OntoAt n (ds ++ d ∷ [])
  by_deed n ds d c is k = subst (λ z. OntoAt n (ds ++ z ∷ [])) (sym is) (subst (OntosAt n) (sym (each_more sent_by ds c)) k)

  same : (n : Next OntoState) (us : List Tree) → OntosAt n us → OntosAt n (us ++ [])
  same n us k = subst (OntosAt n) (sym (append-nil us)) k

  ends_so : (us : List Tree) (z : Bool) → x.closes ≡ z → OntosAt (cond z (to onto_closes) (to onto_ends)) us
  ends_so us true e = e
  ends_so us false e = tt

  -- the items that are left
  left : (vs : Trees) (us : List Tree) → items ≡ us ++ items_of vs → OntosAt (items_left x vs) us
  left none us e = ends_so us x.closes refl
  left (item v vs) us e = e

  allowed : (s : OntoState) (ds : List Deed) → OntoAt (to s) ds → OntoRule x items ds (onto_op s)
  allowed (onto_puts v vs) ds k = (refl, (items_of vs, k ∙ sym (append_assoc (sent ds) (v ∷ []) (items_of vs))))
  allowed onto_closes ds k = inl (refl, k)
  allowed onto_ends ds k = inr refl

  answered : (s : OntoState) (ds : List Deed) (d : Deed) (a : Tree) → OntoAt (to s) ds → Replies (onto_op s) d a → OntoAt (onto_next x a s) (ds ++ d ∷ [])
  answered (onto_puts v vs) ds d a k (gave is pa) = by (truth a) where
    by : (b : Bool) → OntoAt (cond b (items_left x vs) (onto_over x)) (ds ++ d ∷ [])
    by true = by_deed (items_left x vs) ds d _ is (left vs (sent ds ++ v ∷ []) (k ∙ sym (append_assoc (sent ds) (v ∷ []) (items_of vs))))
    by false = ends_so (sent (ds ++ d ∷ [])) x.closes refl
  answered onto_closes ds d a k (shuts is an) = tt
  answered onto_ends ds d a k (shuts is an) = tt

  onto_keeps : Keeps program onto_body onto_op OntoAt (OntoRule x items)
  onto_keeps = record {
    only = λ n op at. stands_only place (onto_asks x) onto_op onto_fault rows n op at.0 at.1;
    allowed = allowed;
    waits = λ s ds w k may. by_deed (to s) ds (did_wait w (branches_of (onto_op s))) (did_wait w (branches_of (onto_op s))) refl (same (to s) (sent ds) k);
    ends = λ n ds how k. by_deed n ds (did_end how) (did_end how) refl (same n (sent ds) k);
    answered = λ s ds d a c k ans r. (onto_next x a s, r, answered s ds d a k ans);
  }

pub ontos_keep_to : (program : ProgramView) (journal : List EventView) (s : State) → Reaches program journal s → OntosKeepTo program journal s
ontos_keep_to program = all_keep_to program SystemTask.Onto refl (λ values place. OntoRule (onto_ports values) (onto_items values))
    (λ values place. onto_body program (onto_ports values) (onto_items values) place) (λ values place. onto_op program (onto_ports values) (onto_items values) place) (λ values place. OntoAt program (onto_ports values) (onto_items values) place)
    (λ values place. onto_keeps program (onto_ports values) (onto_items values) place) (λ values place c r. (items_left (onto_ports values) (trees_in (second_of values)), r, left program (onto_ports values) (onto_items values) place (trees_in (second_of values)) [] refl))
