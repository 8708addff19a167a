-- Operands that are judged to be ports, and operations over public values.
use Rattle.std.proofs.Common.{◌≡◌, ◌⊎◌, inl, inr, ℕ, List, ◌∷◌, refl, sym, ap, ◌∙◌, subst, Bool, true, false, cond, Option, Some, None, map, nat_lt}
use Rattle.ca_value.specs.Tree.{Tree, Trees, nil, bool, int, text, key, vector, map as map_of, port, none, item}
use Rattle.ca_term.specs.declared.place.Place.{Place}
use Rattle.ca_term.specs.declared.fault.Fault.{Fault}
use Rattle.ca_term.specs.declared.event.Side.{Side}
use Rattle.ca_term.specs.Operation.{OpView, WantView, taking, putting, choosing, posting, closing}
use Rattle.ca_term.specs.Program.{ProgramView}
use Rattle.ca_meaning.specs.Operands.{or_else, port_of_value, is_pair, first_of, second_of, third_of, rest_of, values_in, count_of}
use Rattle.ca_meaning.specs.Asking.{alts_ports}
use Rattle.ca_meaning.specs.Asks.{trees_in}
use Rattle.ca_meaning.specs.Body.{at_op, faulted, asking}
use Rattle.ca_meaning.specs.State.{State}
use Rattle.ca_meaning.specs.Choice.{branch_of}
use Rattle.ca_meaning.specs.Refusal.{Need, a_channel, is_needed_port, not_needed, not_a_channel, nil_put, bad_port, bad_ports, bad_choice, unfit, unmet}
use Rattle.ca_meaning.specs.Sound.{Each}
use Rattle.ca_meaning.specs.Task.{TaskBody}
use Rattle.ca_meaning.proofs.Refusals.{or_none}
use Rattle.ca_roles.specs.Roles.{Roles, IsPublic, ArePublic, CarriesAs, ChannelCarries}
use Rattle.ca_roles.specs.Users.{MayUse, MayClose}
use Rattle.ca_roles.specs.Typed.{IsPublicPort, IsPublicBranch, IsPublicOption, MayAsk}

-- an operation that is asked for is the form's own, and no operand faults
pub asked : (p : Place) (f : Option Fault) (op : OpView) (w : WantView) → asking p f op ≡ at_op w → (op ≡ w.op) × (f ≡ None)
asked p None op w e = (cc, refl)
asked p (Some f) op w e = absurd (let k : faulted f p ≡ at_op w = e in cc)

pub first_public : (roles : Roles) (vs : Trees) → ArePublic roles vs → IsPublic roles (first_of vs)
first_public roles none h = tt
first_public roles (item v vs) h = h.0

pub rest_public : (roles : Roles) (vs : Trees) → ArePublic roles vs → ArePublic roles (rest_of vs)
rest_public roles none h = tt
rest_public roles (item v vs) h = h.1

pub second_public : (roles : Roles) (vs : Trees) → ArePublic roles vs → IsPublic roles (second_of vs)
second_public roles vs h = first_public roles (rest_of vs) (rest_public roles vs h)

pub third_public : (roles : Roles) (vs : Trees) → ArePublic roles vs → IsPublic roles (third_of vs)
third_public roles vs h = second_public roles (rest_of vs) (rest_public roles vs h)

-- the items of a public vector
pub items_in_public : (roles : Roles) (v : Tree) → IsPublic roles v → ArePublic roles (trees_in v)
items_in_public roles (vector vs) h = h
items_in_public roles nil h = tt
items_in_public roles (bool b) h = tt
items_in_public roles (int z) h = tt
items_in_public roles (text s) h = tt
items_in_public roles (key s) h = tt
items_in_public roles (map_of ps) h = tt
items_in_public roles (port n) h = tt

pub ports_in_public : (roles : Roles) (v : Tree) → IsPublic roles v → ArePublic roles (alts_ports v)
ports_in_public roles (vector vs) h = h
ports_in_public roles nil h = tt
ports_in_public roles (bool b) h = tt
ports_in_public roles (int z) h = tt
ports_in_public roles (text s) h = tt
ports_in_public roles (key s) h = tt
ports_in_public roles (map_of ps) h = tt
ports_in_public roles (port n) h = tt

needed_port : (s : State) (need : Need) (v : Tree) → is_needed_port s need v ≡ true → (n : ℕ) × (v ≡ port n)
needed_port s need (port n) e = (n, refl)
needed_port s need nil e = absurd (let k : false ≡ true = e in cc)
needed_port s need (bool b) e = absurd (let k : false ≡ true = e in cc)
needed_port s need (int z) e = absurd (let k : false ≡ true = e in cc)
needed_port s need (text t) e = absurd (let k : false ≡ true = e in cc)
needed_port s need (key t) e = absurd (let k : false ≡ true = e in cc)
needed_port s need (vector vs) e = absurd (let k : false ≡ true = e in cc)
needed_port s need (map_of ps) e = absurd (let k : false ≡ true = e in cc)

not_faulted : (b : Bool) (f : Fault) → cond b None (Some f) ≡ None → b ≡ true
not_faulted true f e = refl
not_faulted false f e = absurd (let k : Some f ≡ None = e in cc)

-- what is needed here is some port
pub a_port : (s : State) (v : Tree) → not_a_channel s v ≡ None → (n : ℕ) × (v ≡ port n)
a_port s v e = needed_port s a_channel v (not_faulted (is_needed_port s a_channel v) Fault.NotAPort e)

pub needs_port : (s : State) (need : Need) (v : Tree) → not_needed s need v ≡ cond (is_needed_port s need v) None (Some Fault.NotAPort) → not_needed s need v ≡ None → (n : ℕ) × (v ≡ port n)
needs_port s need v is e = needed_port s need v (not_faulted (is_needed_port s need v) Fault.NotAPort (sym is ∙ e))

pub met : (s : State) (n : Need) (ns : List Need) (vs : Trees) → unmet s (n ∷ ns) vs ≡ None → (not_needed s n (first_of vs) ≡ None) × (unmet s ns (rest_of vs) ≡ None)
met s n ns vs e = or_none (not_needed s n (first_of vs)) (unmet s ns (rest_of vs)) e

module _ (roles : Roles) where
  pub port_public : (v : Tree) → (n : ℕ) × (v ≡ port n) → IsPublic roles v → IsPublicPort roles (port_of_value v)
  port_public v n h = ap (λ z. roles (port_of_value z)) n.1 ∙ subst (IsPublic roles) n.1 h

  pub carries_public : (program : ProgramView) (p : ℕ) (v : Tree) → IsPublicPort roles p → IsPublic roles v → ChannelCarries program roles p v
  carries_public program p v h k = subst (λ o. CarriesAs program roles o v) (sym h) k

  pub got_public : (program : ProgramView) (p : ℕ) (a : Tree) → IsPublicPort roles p → (a ≡ nil) ⊎ ChannelCarries program roles p a → IsPublic roles a
  got_public program p a i (inl k) = subst (IsPublic roles) (sym k) tt
  got_public program p a i (inr k) = subst (λ o. CarriesAs program roles o a) i k

  module _ (s : State) where
    pub channel_public : (v : Tree) → IsPublic roles v → not_a_channel s v ≡ None → IsPublicPort roles (port_of_value v)
    channel_public v h e = port_public v (a_port s v e) h

    branch_public : (v : Tree) → IsPublic roles v → bad_port s v ≡ None → IsPublicBranch roles (branch_of v)
    branch_public (vector vs) h e = by (is_pair vs) e where
      by : (b : Bool) → cond b (or_else (not_a_channel s (first_of vs)) (nil_put (second_of vs))) (Some Fault.NotAPort) ≡ None → IsPublicBranch roles (branch_of (vector vs))
      by true e = (channel_public (first_of vs) (first_public roles vs h) (or_none (not_a_channel s (first_of vs)) (nil_put (second_of vs)) e).0, second_public roles vs h)
      by false e = absurd (let k : Some Fault.NotAPort ≡ None = e in cc)
    branch_public (port n) h e = h
    branch_public nil h e = channel_public nil h e
    branch_public (bool b) h e = channel_public (bool b) h e
    branch_public (int z) h e = channel_public (int z) h e
    branch_public (text t) h e = channel_public (text t) h e
    branch_public (key t) h e = channel_public (key t) h e
    branch_public (map_of ps) h e = absurd (let k : Some Fault.NotAPort ≡ None = e in cc)

    branches_public : (vs : Trees) → ArePublic roles vs → bad_ports s vs ≡ None → Each (IsPublicBranch roles) (map branch_of (values_in vs))
    branches_public none h e = tt
    branches_public (item v vs) h e = let o = or_none (bad_port s v) (bad_ports s vs) e in (branch_public v h.0 o.0, branches_public vs h.1 o.1)

    pub choice_public : (vs : Trees) → ArePublic roles vs → bad_choice s vs ≡ None → Each (IsPublicBranch roles) (map branch_of (values_in vs))
    choice_public none h e = tt
    choice_public (item v vs) h e = by (nat_lt 256 (count_of (item v vs))) e where
      by : (b : Bool) → cond b (Some Fault.TooManyPorts) (bad_ports s (item v vs)) ≡ None → Each (IsPublicBranch roles) (map branch_of (values_in (item v vs)))
      by true e = absurd (let k : Some Fault.TooManyPorts ≡ None = e in cc)
      by false e = branches_public (item v vs) h e

    module _ (program : ProgramView) (b : TaskBody) where
      pub use_public : (side : Side) (p : ℕ) → IsPublicPort roles p → MayUse (roles p) side p b
      use_public side p h = subst (λ o. MayUse o side p b) (sym h) tt

      -- operations over public values
      pub takes_public : (c : Tree) → IsPublic roles c → unfit s (taking c) ≡ None → MayAsk program roles b (taking c)
      takes_public c h e = let n = a_port s c e in (n.0, n.1, use_public Side.Take n.0 (subst (IsPublic roles) n.1 h))

      pub puts_public : (c v : Tree) → IsPublic roles c → IsPublic roles v → unfit s (putting c v) ≡ None → MayAsk program roles b (putting c v)
      puts_public c v h k e =
          let n = a_port s c (or_none (not_a_channel s c) (nil_put v) e).0 in
          let o : IsPublicPort roles n.0 = subst (IsPublic roles) n.1 h in
          (n.0, n.1, use_public Side.Put n.0 o, carries_public program n.0 v o k)

      pub posts_public : (c v : Tree) → IsPublic roles c → IsPublic roles v → unfit s (posting c v) ≡ None → MayAsk program roles b (posting c v)
      posts_public c v h k e = let n = a_port s c (or_none (not_a_channel s c) (nil_put v) e).0 in (n.0, n.1, subst (IsPublic roles) n.1 h, k)

      pub chooses_public : (ports : Trees) (priority : Bool) (default : Option Tree) → ArePublic roles ports → IsPublicOption roles default → unfit s (choosing ports priority default) ≡ None → MayAsk program roles b (choosing ports priority default)
      chooses_public ports priority default h k e = (choice_public ports h e, k)

      pub closes_public : (c : Tree) → IsPublic roles c → unfit s (closing c) ≡ None → MayAsk program roles b (closing c)
      closes_public c h e = let n = a_port s c e in (n.0, n.1, subst (λ o. MayClose o n.0 b) (sym (subst (IsPublic roles) n.1 h)) tt)
