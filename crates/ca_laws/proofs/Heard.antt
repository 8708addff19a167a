-- What a mix that keeps to its rule takes and puts, as its journal tells it.
use Rattle.std.proofs.Common.{◌≡◌, inl, inr, ℕ, List, [], ◌∷◌, ◌++◌, sym, ap, ◌∙◌, Some, slice_get}
use Rattle.ca_value.specs.Tree.{Tree}
use Rattle.ca_term.specs.Operation.{OpView, taking, putting, choosing, posting, making, spawning, closing, registering, printing}
use Rattle.ca_term.specs.Event.{take_of, put_of, EventView}
use Rattle.ca_meaning.specs.Operands.{port_of_value}
use Rattle.ca_meaning.specs.Choice.{branches_of}
use Rattle.ca_meaning.specs.MixTable.{MixPorts, read_of}
use Rattle.ca_meaning.specs.State.{State}
use Rattle.ca_laws.specs.Deeds.{Deed, did_take, did_put, did_end, deeds}
use Rattle.ca_laws.specs.Rules.{IsAllowed, KeepsTo}
use Rattle.ca_laws.specs.MixLaw.{MixRule, TakesRead, PutsHeard}
use Rattle.ca_laws.proofs.Mixing.{no_puts}
use Rattle.ca_laws.proofs.Orders.{one_branch, no_branch}

module _ (x : MixPorts) (before : List Deed) where
  took : (op : OpView) (k p : ℕ) → MixRule x before op → slice_get (branches_of op) k ≡ Some (take_of p) → TakesRead x before k p
  took (choosing ports priority default) k p r e = (r.0, r.1, ap (λ z. slice_get z k) (sym r.2) ∙ e)
  took (putting c v) k p r e = absurd (let q : take_of p ≡ put_of (port_of_value c) v = one_branch (put_of (port_of_value c) v) k (take_of p) e in cc)
  took (registering name args) k p r e = no_branch (take_of p) e
  took (taking c) k p r e = absurd r
  took (making what) k p r e = absurd r
  took (spawning seed) k p r e = absurd r
  took (closing c) k p r e = absurd r
  took (printing line) k p r e = absurd r
  took (posting c v) k p r e = absurd r

  gave : (op : OpView) (k p : ℕ) (v : Tree) → MixRule x before op → slice_get (branches_of op) k ≡ Some (put_of p v) → PutsHeard x before p v
  gave (choosing ports priority default) k p v r e = no_puts (read_of r.0 ++ x.changes ∷ []) k p v (ap (λ z. slice_get z k) (sym r.2) ∙ e)
  gave (putting c y) k p v r e =
      let q : put_of p v ≡ put_of (port_of_value c) y = one_branch (put_of (port_of_value c) y) k (put_of p v) e in
      let same : y ≡ v = cc in
      ((let i : p ≡ port_of_value c = cc in i) ∙ ap port_of_value r.0, r.1, r.2, r.3, r.4 ∙ ap (λ z. Some (r.2, z)) same, r.5)
  gave (registering name args) k p v r e = no_branch (put_of p v) e
  gave (taking c) k p v r e = absurd r
  gave (making what) k p v r e = absurd r
  gave (spawning seed) k p v r e = absurd r
  gave (closing c) k p v r e = absurd r
  gave (printing line) k p v r e = absurd r
  gave (posting c y) k p v r e = absurd r

pub mix_takes : (x : MixPorts) (t : ℕ) (journal : List EventView) (s : State) → KeepsTo (MixRule x) t journal s → (before after : List Deed) (k p : ℕ) (a : Tree) → deeds t journal ≡ before ++ did_take k p a ∷ after → TakesRead x before k p
mix_takes x t journal s keeps before after k p a is = by (keeps.did before after (did_take k p a) is) where
  by : IsAllowed (MixRule x) before (did_take k p a) → TakesRead x before k p
  by (inl o) = took x before o.0 k p o.1 o.2
  by (inr o) = absurd (let e : did_take k p a ≡ did_end o.0 = o.1 in cc)

pub mix_puts : (x : MixPorts) (t : ℕ) (journal : List EventView) (s : State) → KeepsTo (MixRule x) t journal s → (before after : List Deed) (k p : ℕ) (v a : Tree) → deeds t journal ≡ before ++ did_put k p v a ∷ after → PutsHeard x before p v
mix_puts x t journal s keeps before after k p v a is = by (keeps.did before after (did_put k p v a) is) where
  by : IsAllowed (MixRule x) before (did_put k p v a) → PutsHeard x before p v
  by (inl o) = gave x before o.0 k p v o.1 o.2
  by (inr o) = absurd (let e : did_put k p v a ≡ did_end o.0 = o.1 in cc)
