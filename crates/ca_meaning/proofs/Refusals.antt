-- What is known of an operation that isn't refused.
use Rattle.std.proofs.Common.{◌≡◌, ℕ, zero, suc, List, [], ◌∷◌, refl, subst, Bool, true, false, cond, Option, Some, None, is_some, slice_get, nat_lt, map}
use Rattle.ca_value.specs.Tree.{Tree, Trees, nil, bool, int, text, key, vector, map as map_of, port, none, item}
use Rattle.ca_term.specs.declared.fault.Fault.{Fault}
use Rattle.ca_term.specs.declared.fault.Fault.TheVariants.{NotAPort, NilPut, NoPorts, TooManyPorts}
use Rattle.ca_term.specs.Operation.{OpView, taking, putting, choosing, making, spawning, closing, registering, printing, posting}
use Rattle.ca_term.specs.Event.{BranchView, take_of, put_of}
use Rattle.ca_meaning.specs.Operands.{or_else, port_of_value, is_nil, first_of, second_of, values_in, count_of, is_pair}
use Rattle.ca_meaning.specs.Channel.{Channel}
use Rattle.ca_meaning.specs.Wait.{port_of}
use Rattle.ca_meaning.specs.State.{State, Channels}
use Rattle.ca_meaning.specs.Choice.{branch_of, branches_of}
use Rattle.ca_meaning.specs.Refusal.{is_channel, not_a_channel, nil_put, bad_port, bad_ports, bad_choice, unfit, too_many, refusal}
use Rattle.ca_meaning.specs.Sound.{Each, IsNotNil}

abbrev pub Brings : BranchView → Type 0
Brings (take_of p) = Unit {0}
Brings (put_of p v) = IsNotNil v

-- a branch stands on a channel, and a put brings a value
abbrev pub GoodBranch : Channels → BranchView → Type 0
GoodBranch channels b = ((c : Channel) × (channels (port_of b) ≡ Some c)) × Brings b

pub or_none : (a b : Option Fault) → or_else a b ≡ None → (a ≡ None) × (b ≡ None)
or_none None b e = (refl, e)
or_none (Some f) b e = absurd (let k : Some f ≡ None = e in cc)

pub some_of : {A : Type 0} (o : Option A) → is_some o ≡ true → (x : A) × (o ≡ Some x)
some_of (Some x) e = (x, refl)
some_of None e = absurd (let k : false ≡ true = e in cc)

channel_there : (s : State) (v : Tree) → is_channel s v ≡ true → (c : Channel) × (s.channels (port_of_value v) ≡ Some c)
channel_there s (port n) e = some_of (s.channels n) e
channel_there s nil e = absurd (let k : false ≡ true = e in cc)
channel_there s (bool b) e = absurd (let k : false ≡ true = e in cc)
channel_there s (int z) e = absurd (let k : false ≡ true = e in cc)
channel_there s (text t) e = absurd (let k : false ≡ true = e in cc)
channel_there s (key t) e = absurd (let k : false ≡ true = e in cc)
channel_there s (vector vs) e = absurd (let k : false ≡ true = e in cc)
channel_there s (map_of ps) e = absurd (let k : false ≡ true = e in cc)

pub a_channel_there : (s : State) (v : Tree) → not_a_channel s v ≡ None → (c : Channel) × (s.channels (port_of_value v) ≡ Some c)
a_channel_there s v e = by (is_channel s v) refl e where
  by : (b : Bool) → is_channel s v ≡ b → cond b None (Some NotAPort) ≡ None → (c : Channel) × (s.channels (port_of_value v) ≡ Some c)
  by true is e = channel_there s v is
  by false is e = absurd (let k : Some NotAPort ≡ None = e in cc)

brings_value : (v : Tree) → nil_put v ≡ None → IsNotNil v
brings_value v e = by (is_nil v) refl e where
  by : (b : Bool) → is_nil v ≡ b → cond b (Some NilPut) None ≡ None → IsNotNil v
  by true is e = absurd (let k : Some NilPut ≡ None = e in cc)
  by false is e = is

good_port : (s : State) (v : Tree) → bad_port s v ≡ None → GoodBranch s.channels (branch_of v)
good_port s (vector vs) e = by (is_pair vs) e where
  by : (b : Bool) → cond b (or_else (not_a_channel s (first_of vs)) (nil_put (second_of vs))) (Some NotAPort) ≡ None → GoodBranch s.channels (branch_of (vector vs))
  by true e = let k = or_none (not_a_channel s (first_of vs)) (nil_put (second_of vs)) e in (a_channel_there s (first_of vs) k.0, brings_value (second_of vs) k.1)
  by false e = absurd (let k : Some NotAPort ≡ None = e in cc)
good_port s (port n) e = (a_channel_there s (port n) e, tt)
good_port s nil e = (a_channel_there s nil e, tt)
good_port s (bool b) e = (a_channel_there s (bool b) e, tt)
good_port s (int z) e = (a_channel_there s (int z) e, tt)
good_port s (text t) e = (a_channel_there s (text t) e, tt)
good_port s (key t) e = (a_channel_there s (key t) e, tt)
good_port s (map_of ps) e = (a_channel_there s (map_of ps) e, tt)

good_ports : (s : State) (vs : Trees) → bad_ports s vs ≡ None → Each (GoodBranch s.channels) (map branch_of (values_in vs))
good_ports s none e = tt
good_ports s (item v vs) e = let k = or_none (bad_port s v) (bad_ports s vs) e in (good_port s v k.0, good_ports s vs k.1)

good_choice : (s : State) (vs : Trees) → bad_choice s vs ≡ None → Each (GoodBranch s.channels) (map branch_of (values_in vs))
good_choice s none e = absurd (let k : Some NoPorts ≡ None = e in cc)
good_choice s (item v vs) e = by (nat_lt 256 (count_of (item v vs))) e where
  by : (b : Bool) → cond b (Some TooManyPorts) (bad_ports s (item v vs)) ≡ None → Each (GoodBranch s.channels) (map branch_of (values_in (item v vs)))
  by true e = absurd (let k : Some TooManyPorts ≡ None = e in cc)
  by false e = good_ports s (item v vs) e

pub fit_branches : (s : State) (op : OpView) → unfit s op ≡ None → Each (GoodBranch s.channels) (branches_of op)
fit_branches s (taking c) e = ((a_channel_there s c e, tt), tt)
fit_branches s (putting c v) e = let k = or_none (not_a_channel s c) (nil_put v) e in ((a_channel_there s c k.0, brings_value v k.1), tt)
fit_branches s (posting c v) e = let k = or_none (not_a_channel s c) (nil_put v) e in ((a_channel_there s c k.0, brings_value v k.1), tt)
fit_branches s (choosing ports priority default) e = good_choice s ports e
fit_branches s (making what) e = tt
fit_branches s (spawning seed) e = tt
fit_branches s (closing c) e = tt
fit_branches s (registering name args) e = tt
fit_branches s (printing line) e = tt

pub good_branches : (s : State) (op : OpView) → refusal s op ≡ None → Each (GoodBranch s.channels) (branches_of op)
good_branches s op e = fit_branches s op (or_none (unfit s op) (too_many s op) e).0

pub each-get : {A : Type 0} (P : A → Type 0) (xs : List A) (k : ℕ) (x : A) → Each P xs → slice_get xs k ≡ Some x → P x
each-get P [] k x a e = absurd (let k : None ≡ Some x = e in cc)
each-get P (y ∷ ys) zero x a e = subst P (let k : y ≡ x = cc in k) a.0
each-get P (y ∷ ys) (suc k) x a e = each-get P ys k x a.1 e
