-- An operation whose operands are right over the held banks names held channels alone.
use Rattle.std.proofs.Common.{◌≡◌, ℕ, zero, suc, List, [], ◌∷◌, map, refl, sym, ap, ◌∙◌, subst, Bool, true, false, cond, Option, Some, None, is_some, slice_get, nat_lt}
use Rattle.ca_value.specs.Tree.{Tree, Trees, nil, bool, int, text, key, vector, map as a_map, port, none, item}
use Rattle.ca_term.specs.declared.fault.Fault.TheVariants.{NotAPort, TooManyPorts}
use Rattle.ca_term.specs.Operation.{OpView, choosing, closing, making, posting, printing, putting, registering, spawning, taking}
use Rattle.ca_term.specs.Event.{BranchView}
use Rattle.ca_meaning.specs.Choice.{branch_of, branches_of}
use Rattle.ca_meaning.specs.Operands.{count_of, first_of, is_pair, or_else, port_of_value, second_of, values_in}
use Rattle.ca_meaning.specs.Refusal.{bad_choice, bad_port, bad_ports, is_channel, nil_put, not_a_channel, unfit}
use Rattle.ca_meaning.specs.State.{State}
use Rattle.ca_meaning.specs.Wait.{port_of}
use Rattle.ca_commit.specs.Contents.{Kept, Parts, channel_of, whole}
use Rattle.ca_commit.specs.Planning.{state_of}
use Rattle.ca_commit.proofs.FitsMore.{first_none, passes, second_none}
use Rattle.ca_commit.proofs.PlanTold.{EachHeld}

module _ {A : Type 0} (h : Parts A) where
  abbrev held : State
  held = state_of (whole h.bank) (whole h.registry)

  value_held : (v : Tree) → not_a_channel held v ≡ None → (k : Kept) × (whole h.bank (port_of_value v) ≡ Some k)
  value_held (port n) e = by (whole h.bank n) refl where
    by : (o : Option Kept) → whole h.bank n ≡ o → (k : Kept) × (whole h.bank n ≡ Some k)
    by None u = absurd (let t : false ≡ true = sym (ap (λ (o : Option Kept). is_some (channel_of o)) u) ∙ passes (is_channel held (port n)) NotAPort e in cc)
    by (Some k) u = (k, u)
  value_held nil e = absurd cc
  value_held (bool b) e = absurd cc
  value_held (int z) e = absurd cc
  value_held (text t) e = absurd cc
  value_held (key t) e = absurd cc
  value_held (vector vs) e = absurd cc
  value_held (a_map ps) e = absurd cc

  pair_held : (vs : Trees) (b : Bool) → cond b (or_else (not_a_channel held (first_of vs)) (nil_put (second_of vs))) (Some NotAPort) ≡ None → (k : Kept) × (whole h.bank (port_of_value (first_of vs)) ≡ Some k)
  pair_held vs true e = value_held (first_of vs) (first_none (not_a_channel held (first_of vs)) (nil_put (second_of vs)) e)
  pair_held vs false e = absurd cc

  port_held : (v : Tree) → bad_port held v ≡ None → (k : Kept) × (whole h.bank (port_of (branch_of v)) ≡ Some k)
  port_held (vector vs) e = pair_held vs (is_pair vs) e
  port_held (port n) e = value_held (port n) e
  port_held nil e = value_held nil e
  port_held (bool b) e = value_held (bool b) e
  port_held (int z) e = value_held (int z) e
  port_held (text t) e = value_held (text t) e
  port_held (key t) e = value_held (key t) e
  port_held (a_map ps) e = value_held (a_map ps) e

  ports_held : (vs : Trees) → bad_ports held vs ≡ None → EachHeld h (map branch_of (values_in vs))
  ports_held none e = tt
  ports_held (item v vs) e = (port_held v (first_none (bad_port held v) (bad_ports held vs) e), ports_held vs (second_none (bad_port held v) (bad_ports held vs) e))

  choice_held : (vs : Trees) → bad_choice held vs ≡ None → EachHeld h (map branch_of (values_in vs))
  choice_held none e = tt
  choice_held (item v vs) e = by (nat_lt 256 (count_of (item v vs))) e where
    by : (b : Bool) → cond b (Some TooManyPorts) (bad_ports held (item v vs)) ≡ None → EachHeld h (map branch_of (values_in (item v vs)))
    by true e = absurd cc
    by false e = ports_held (item v vs) e

  pub branches_held : (op : OpView) → unfit held op ≡ None → EachHeld h (branches_of op)
  branches_held (taking c) e = (value_held c e, tt)
  branches_held (putting c v) e = (value_held c (first_none (not_a_channel held c) (nil_put v) e), tt)
  branches_held (posting c v) e = (value_held c (first_none (not_a_channel held c) (nil_put v) e), tt)
  branches_held (choosing ports priority default) e = choice_held ports e
  branches_held (making what) e = tt
  branches_held (spawning seed) e = tt
  branches_held (closing c) e = tt
  branches_held (registering name args) e = tt
  branches_held (printing line) e = tt

  pub branch_held : (bs : List BranchView) (i : ℕ) (b : BranchView) → EachHeld h bs → slice_get bs i ≡ Some b → (k : Kept) × (whole h.bank (port_of b) ≡ Some k)
  branch_held [] zero b a e = absurd (let z : None ≡ Some b = e in cc)
  branch_held [] (suc i) b a e = absurd (let z : None ≡ Some b = e in cc)
  branch_held (c ∷ bs) zero b a e = subst (λ (d : BranchView). (k : Kept) × (whole h.bank (port_of d) ≡ Some k)) (let s : c ≡ b = cc in s) a.0
  branch_held (c ∷ bs) (suc i) b a e = branch_held bs i b a.1 e
