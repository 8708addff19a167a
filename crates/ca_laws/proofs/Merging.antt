-- Merges keep to their rule.
use Rattle.std.proofs.Common.{◌≡◌, inl, inr, ℕ, List, [], ◌∷◌, ◌++◌, refl, sym, ap, subst, Bool, true, false, cond, Option, Some, None}
use Rattle.ca_value.specs.Tree.{Tree, Trees, port, none, item}
use Rattle.ca_term.specs.declared.place.Place.{Place}
use Rattle.ca_term.specs.declared.fault.Fault.{Fault}
use Rattle.ca_term.specs.declared.head.SystemTask.{SystemTask}
use Rattle.ca_term.specs.Operation.{OpView, putting, choosing, closing}
use Rattle.ca_term.specs.Program.{ProgramView}
use Rattle.ca_term.specs.Event.{EventView}
use Rattle.ca_meaning.specs.Body.{asking}
use Rattle.ca_meaning.specs.Operands.{is_nil, port_of_value, first_of, second_of}
use Rattle.ca_meaning.specs.Asking.{too_large_branches}
use Rattle.ca_meaning.specs.Choice.{branches_of}
use Rattle.ca_meaning.specs.State.{State}
use Rattle.ca_meaning.specs.Legal.{Reaches}
use Rattle.ca_meaning.specs.Asks.{Next, to, stop, fail, trees_in, too_large_here}
use Rattle.ca_meaning.specs.PipeTable.{MergeState, merge_chooses, merge_puts, merge_closes, without_port, inputs_left, merge_asks, merge_next}
use Rattle.ca_meaning.specs.System.{SystemBody, a_merge}
use Rattle.ca_laws.specs.Deeds.{Deed, did_take, did_put, did_wait, did_end}
use Rattle.ca_laws.specs.MergeRules.{choice_after, choice_from, last_choice, left_after, values_left, MergeRule, MergesKeepTo}
use Rattle.ca_laws.proofs.Acts.{IsPutAnswer, Replies, gave, chose, chose_put, chose_default, shuts}
use Rattle.ca_laws.proofs.Tables.{stands_only, Keeps, all_keep_to}

choice_more : (o : Option (ℕ × Tree)) (ds : List Deed) (d : Deed) → choice_from o (ds ++ d ∷ []) ≡ choice_after d (choice_from o ds)
choice_more o [] d = refl
choice_more o (c ∷ ds) d = choice_more (choice_after c o) ds d

left_more : (vs : Trees) (ds : List Deed) (d : Deed) → values_left vs (ds ++ d ∷ []) ≡ left_after d (values_left vs ds)
left_more vs [] d = refl
left_more vs (c ∷ ds) d = left_more (left_after c vs) ds d

put_answer : (a : Tree) → IsPutAnswer a → is_nil a ≡ false
put_answer a (inl e) = ap is_nil e
put_answer a (inr e) = ap is_nil e

module _ (program : ProgramView) (inputs : Trees) (output : ℕ) (place : Place) where
  abbrev merge_body : Next MergeState → SystemBody
  merge_body n = a_merge output place n

  abbrev merge_op : MergeState → OpView
  merge_op (merge_chooses v vs) = choosing (item v vs) false None
  merge_op (merge_puts vs v) = putting (port output) v
  merge_op merge_closes = closing (port output)

  abbrev merge_fault : MergeState → Option Fault
  merge_fault (merge_chooses v vs) = too_large_branches (item v vs)
  merge_fault (merge_puts vs v) = too_large_here v
  merge_fault merge_closes = None

  rows : (s : MergeState) → merge_asks output s place ≡ asking place (merge_fault s) (merge_op s)
  rows (merge_chooses v vs) = refl
  rows (merge_puts vs v) = refl
  rows merge_closes = refl

  -- by the answer of its last alts, and the inputs that are left
  abbrev MergesAt : Next MergeState → Option (ℕ × Tree) → Trees → Type 0
  MergesAt (to (merge_chooses v vs)) o ws = (o ≡ None) × (item v vs ≡ ws)
  MergesAt (to (merge_puts vs v)) o ws = (p : ℕ) × (o ≡ Some (p, v)) × (vs ≡ ws)
  MergesAt (to merge_closes) o ws = ws ≡ none
  MergesAt stop o ws = Unit {0}
  MergesAt (fail g) o ws = Unit {0}

  abbrev MergeAt : Next MergeState → List Deed → Type 0
  MergeAt n ds = MergesAt n (last_choice ds) (values_left inputs ds)

  by_deed : (n : Next MergeState) (ds : List Deed) (d c : Deed) → d ≡ c → MergesAt n (choice_after c (last_choice ds)) (left_after c (values_left inputs ds)) → MergeAt n (ds ++ d ∷ [])
  by_deed n ds d c is k = subst (λ z. MergeAt n (ds ++ z ∷ [])) (sym is)
      (subst (λ z. MergesAt n z (values_left inputs (ds ++ c ∷ []))) (sym (choice_more None ds c))
      (subst (λ z. MergesAt n (choice_after c (last_choice ds)) z) (sym (left_more inputs ds c)) k))

  -- the inputs that are left
  left : (vs ws : Trees) → vs ≡ ws → MergesAt (inputs_left vs) None ws
  left none ws e = sym e
  left (item v vs) ws e = (refl, e)

  allowed : (s : MergeState) (ds : List Deed) → MergeAt (to s) ds → MergeRule inputs output ds (merge_op s)
  allowed (merge_chooses v vs) ds k = (k.0, k.1)
  allowed (merge_puts vs v) ds k = (k.0, refl, k.1)
  allowed merge_closes ds k = (refl, k)

  -- it chose the value v of the channel p
  took : (ds : List Deed) (v : Tree) (vs : Trees) (p : ℕ) (a : Tree) → MergeAt (to (merge_chooses v vs)) ds → (b : Bool) → MergesAt (cond b (inputs_left (without_port p (item v vs))) (to (merge_puts (item v vs) a))) (cond b None (Some (p, a))) (cond b (without_port p (values_left inputs ds)) (values_left inputs ds))
  took ds v vs p a k true = left (without_port p (item v vs)) (without_port p (values_left inputs ds)) (ap (without_port p) k.1)
  took ds v vs p a k false = (p, refl, k.1)

  answered : (s : MergeState) (ds : List Deed) (d : Deed) (a : Tree) → MergeAt (to s) ds → Replies (merge_op s) d a → MergeAt (merge_next a s) (ds ++ d ∷ [])
  answered (merge_chooses v vs) ds d a k (chose j p u is slot an) =
      subst (λ z. MergeAt (merge_next z (merge_chooses v vs)) (ds ++ d ∷ [])) (sym an) (by_deed (cond (is_nil u) (inputs_left (without_port p (item v vs))) (to (merge_puts (item v vs) u))) ds d (did_take j p u) is (took ds v vs p u k (is_nil u)))
  answered (merge_chooses v vs) ds d a k (chose_put j p w u is slot an pa) =
      subst (λ z. MergeAt (merge_next z (merge_chooses v vs)) (ds ++ d ∷ [])) (sym an)
      (subst (λ b. MergeAt (cond b (inputs_left (without_port p (item v vs))) (to (merge_puts (item v vs) u))) (ds ++ d ∷ [])) (sym (put_answer u pa))
      (by_deed (to (merge_puts (item v vs) u)) ds d (did_put j p w u) is (p, ap (choice_after (did_put j p w u)) k.0, k.1)))
  answered (merge_chooses v vs) ds d a k (chose_default u is df an) = absurd (let j : None ≡ Some u = df in cc)
  answered (merge_puts vs v) ds d a k (gave is pa) = by_deed (inputs_left vs) ds d (did_put 0 output v a) is
      (subst (λ o. MergesAt (inputs_left vs) (choice_after (did_put 0 output v a) o) (values_left inputs ds)) (sym k.1) (left vs (values_left inputs ds) k.2))
  answered merge_closes ds d a k (shuts is an) = tt

  merge_keeps : Keeps program merge_body merge_op MergeAt (MergeRule inputs output)
  merge_keeps = record {
    only = λ n op at. stands_only place (merge_asks output) merge_op merge_fault rows n op at.0 at.1;
    allowed = allowed;
    waits = λ s ds w k may. by_deed (to s) ds (did_wait w (branches_of (merge_op s))) (did_wait w (branches_of (merge_op s))) refl k;
    ends = λ n ds how k. by_deed n ds (did_end how) (did_end how) refl k;
    answered = λ s ds d a c k ans r. (merge_next a s, r, answered s ds d a k ans);
  }

pub merges_keep_to : (program : ProgramView) (journal : List EventView) (s : State) → Reaches program journal s → MergesKeepTo program journal s
merges_keep_to program = all_keep_to program SystemTask.Merge refl (λ values place. MergeRule (trees_in (first_of values)) (port_of_value (second_of values)))
    (λ values place. merge_body program (trees_in (first_of values)) (port_of_value (second_of values)) place) (λ values place. merge_op program (trees_in (first_of values)) (port_of_value (second_of values)) place) (λ values place. MergeAt program (trees_in (first_of values)) (port_of_value (second_of values)) place)
    (λ values place. merge_keeps program (trees_in (first_of values)) (port_of_value (second_of values)) place) (λ values place c r. (inputs_left (trees_in (first_of values)), r, left program (trees_in (first_of values)) (port_of_value (second_of values)) place (trees_in (first_of values)) (trees_in (first_of values)) refl))
