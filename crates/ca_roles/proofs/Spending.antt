-- Where a script starts a user of a port, its text could: the form is one that counts.
use Rattle.std.proofs.Common.{◌≡◌, inl, inr, ℕ, ◌+◌, ◌≤◌, List, [], ◌∷◌, refl, sym, ap, ◌∙◌, subst, arith, Bool, true, false, cond, eq-eqb, Option, Some, None}
use Rattle.ca_value.specs.Tree.{Trees, nil}
use Rattle.ca_term.specs.declared.place.Place.{Place}
use Rattle.ca_term.specs.declared.fault.Fault.{Fault}
use Rattle.ca_term.specs.declared.head.Head.TheVariants.{Spawn}
use Rattle.ca_term.specs.declared.head.SeedKind.{SeedKind}
use Rattle.ca_term.specs.declared.head.SeedKind.TheVariants.{Go, System}
use Rattle.ca_term.specs.declared.head.SystemTask.{SystemTask}
use Rattle.ca_term.specs.Kernel.{Kernel, Kernels, apply, none, item}
use Rattle.ca_term.specs.Operation.{OpView, SeedView, taking, putting, posting, making, spawning, closing, registering, printing}
use Rattle.ca_term.specs.Program.{ProgramView}
use Rattle.ca_meaning.specs.Asking.{seed_of, alts_of}
use Rattle.ca_meaning.specs.Operands.{port_of_value, first_of, second_of, third_of, rest_of}
use Rattle.ca_meaning.specs.Redex.{redex, value_of, values_of}
use Rattle.ca_meaning.specs.Body.{BodyView, at_op, at, line_of}
use Rattle.ca_meaning.specs.Task.{new_task}
use Rattle.ca_meaning.specs.State.{State}
use Rattle.ca_meaning.specs.Refusal.{Need, a_channel, the_mult, not_needed, unmet, unfit, too_many, refusal}
use Rattle.ca_meaning.proofs.Refusals.{or_none}
use Rattle.ca_roles.specs.Roles.{Hidden, replies, acks, Role, hidden, Roles, no_roles}
use Rattle.ca_roles.specs.Sealed.{IsNamed, HasMask, plain, of_feed, of_collect, of_mult, Sealed, AllSealed}
use Rattle.ca_roles.specs.Once.{User, the_feed, the_collect, the_mult, no_names, only, stands_for_port, one_if, uses_all}
use Rattle.ca_roles.specs.SoleUsers.{own_of, owns}
use Rattle.ca_roles.proofs.Rested.{redex_sealed}
use Rattle.ca_roles.proofs.Forms.{Form, takes, puts, posts, chooses, makes, spawns, closes, registers, prints, body_form}
use Rattle.ca_roles.proofs.Ports.{met}
use Rattle.ca_roles.proofs.Answered.{count}

pub own_none : {G : Type 0} (k : User) (q : ℕ) → None ≡ owns k q → G
own_none k q e = absurd (let j : false ≡ true = ap is_some e in cc) where
  is_some : Option (User × ℕ) → Bool
  is_some None = false
  is_some (Some x) = true

pub own_is : (j k : User) (n q : ℕ) → owns j n ≡ owns k q → (j ≡ k) × (n ≡ q)
own_is j k n q e = (ap user e, ap number e) where
  user : Option (User × ℕ) → User
  user None = j
  user (Some x) = x.0

  number : Option (User × ℕ) → ℕ
  number None = n
  number (Some x) = x.1

module _ (program : ProgramView) (me : ℕ) (roles : Roles) (s : State) (q : ℕ) where
  named_stands : (x : Hidden) (z : Kernel) → IsNamed me roles no_roles (hidden me x) z → port_of_value (value_of z) ≡ q → stands_for_port (only q) no_names z ≡ true
  named_stands x z (own, inl i) e =
      let n : i.0 ≡ q = sym (ap (λ k. port_of_value (value_of k)) i.1) ∙ e in
      ap (stands_for_port (only q) no_names) i.1 ∙ ap (only q) n ∙ ap (λ c. cond c true false) (eq-eqb q q refl)
  named_stands x z (own, inr i) e = absurd (let j : None ≡ Some (hidden me x) = i.2 in cc)

  counts : (b : Bool) (n : ℕ) → b ≡ true → 1 ≤ one_if b + n
  counts true n e = omega arith
  counts false n e = absurd (let j : false ≡ true = e in cc)

  not_nil : {G : Type 0} → not_needed s a_channel nil ≡ None → G
  not_nil e = absurd (let k : Some Fault.NotAPort ≡ None = e in cc)

  -- its third operand is there
  third_met : (a b : Need) (vs : Trees) → unmet s (a ∷ b ∷ a_channel ∷ []) vs ≡ None → not_needed s a_channel (third_of vs) ≡ None
  third_met a b vs e = (met s a_channel [] (rest_of (rest_of vs)) (met s b (a_channel ∷ []) (rest_of vs) (met s a (b ∷ a_channel ∷ []) vs e).1).1).0

  feed_counts : (ts : Kernels) (p : Place) → Sealed me roles (apply (Spawn (System SystemTask.Feed)) ts p) no_roles → not_needed s a_channel (third_of (values_of ts)) ≡ None → port_of_value (third_of (values_of ts)) ≡ q → 1 ≤ count the_feed q (apply (Spawn (System SystemTask.Feed)) ts p)
  feed_counts ts p h e is = by ts h.0 h.1 h.2 e is where
    by : (ts : Kernels) (mask : List Role) → HasMask me (Spawn (System SystemTask.Feed)) p ts mask → AllSealed me roles mask ts no_roles → not_needed s a_channel (third_of (values_of ts)) ≡ None → port_of_value (third_of (values_of ts)) ≡ q → 1 ≤ count the_feed q (apply (Spawn (System SystemTask.Feed)) ts p)
    by ts mask (plain k) a e is = absurd (let j : true ≡ false = k in cc)
    by none mask (of_feed w) a e is = not_nil e
    by (item f none) mask (of_feed w) a e is = not_nil e
    by (item f (item j none)) mask (of_feed w) a e is = not_nil e
    by (item f (item j (item z ts))) mask (of_feed w) a e is = counts (stands_for_port (only q) no_names z) (uses_all the_feed (only q) (item f (item j (item z ts))) no_names) (named_stands (replies w) z a.1.1.0 is)

  mult_counts : (ts : Kernels) (p : Place) → Sealed me roles (apply (Spawn (System SystemTask.Mult)) ts p) no_roles → not_needed s a_channel (third_of (values_of ts)) ≡ None → port_of_value (third_of (values_of ts)) ≡ q → 1 ≤ count the_mult q (apply (Spawn (System SystemTask.Mult)) ts p)
  mult_counts ts p h e is = by ts h.0 h.1 h.2 e is where
    by : (ts : Kernels) (mask : List Role) → HasMask me (Spawn (System SystemTask.Mult)) p ts mask → AllSealed me roles mask ts no_roles → not_needed s a_channel (third_of (values_of ts)) ≡ None → port_of_value (third_of (values_of ts)) ≡ q → 1 ≤ count the_mult q (apply (Spawn (System SystemTask.Mult)) ts p)
    by ts mask (plain k) a e is = absurd (let j : true ≡ false = k in cc)
    by none mask of_mult a e is = not_nil e
    by (item m none) mask of_mult a e is = not_nil e
    by (item m (item c none)) mask of_mult a e is = not_nil e
    by (item m (item c (item z ts))) mask of_mult a e is = counts (stands_for_port (only q) no_names z) (uses_all the_mult (only q) (item m (item c (item z ts))) no_names) (named_stands acks z a.1.1.0 is)

  collect_counts : (ts : Kernels) (p : Place) → Sealed me roles (apply (Spawn (System SystemTask.Collect)) ts p) no_roles → port_of_value (first_of (values_of ts)) ≡ q → 1 ≤ count the_collect q (apply (Spawn (System SystemTask.Collect)) ts p)
  collect_counts ts p h is = by ts h.0 h.1 h.2 is where
    by : (ts : Kernels) (mask : List Role) → HasMask me (Spawn (System SystemTask.Collect)) p ts mask → AllSealed me roles mask ts no_roles → port_of_value (first_of (values_of ts)) ≡ q → 1 ≤ count the_collect q (apply (Spawn (System SystemTask.Collect)) ts p)
    by ts mask (plain k) a is = absurd (let j : true ≡ false = k in cc)
    by (item z (item t (item c (item r none)))) mask (of_collect w) a is = counts (stands_for_port (only q) no_names z) (uses_all the_collect (only q) (item z (item t (item c (item r none)))) no_names) (named_stands (replies w) z a.0 is)

  abbrev Spends : User → SeedKind → Kernels → Place → Type 0
  Spends k kind ts p = Sealed me roles (apply (Spawn kind) ts p) no_roles → unfit s (spawning (seed_of kind (values_of ts) p)) ≡ None → own_of (new_task program (seed_of kind (values_of ts) p)) ≡ owns k q → 1 ≤ count k q (apply (Spawn kind) ts p)

  as_user : (j k : User) (n : ℕ) (t : Kernel) → owns j n ≡ owns k q → (n ≡ q → 1 ≤ count j q t) → 1 ≤ count k q t
  as_user j k n t e f = let i = own_is j k n q e in subst (λ u. 1 ≤ count u q t) i.0 (f i.1)

  kind_spends : (k : User) (kind : SeedKind) (ts : Kernels) (p : Place) → Spends k kind ts p
  kind_spends k (Go n) ts p h u e = own_none k q e
  kind_spends k (System SystemTask.Mult) ts p h u e = as_user the_mult k (port_of_value (third_of (values_of ts))) (apply (Spawn (System SystemTask.Mult)) ts p) e (mult_counts ts p h (third_met the_mult a_channel (values_of ts) u))
  kind_spends k (System SystemTask.Deliver) ts p h u e = own_none k q e
  kind_spends k (System SystemTask.Mix) ts p h u e = own_none k q e
  kind_spends k (System (SystemTask.Pub f)) ts p h u e = own_none k q e
  kind_spends k (System SystemTask.Pipe) ts p h u e = own_none k q e
  kind_spends k (System SystemTask.Merge) ts p h u e = own_none k q e
  kind_spends k (System SystemTask.Onto) ts p h u e = own_none k q e
  kind_spends k (System SystemTask.Feed) ts p h u e = as_user the_feed k (port_of_value (third_of (values_of ts))) (apply (Spawn (System SystemTask.Feed)) ts p) e (feed_counts ts p h (third_met a_channel a_channel (values_of ts) u))
  kind_spends k (System (SystemTask.Job x f)) ts p h u e = own_none k q e
  kind_spends k (System SystemTask.Collect) ts p h u e = as_user the_collect k (port_of_value (first_of (values_of ts))) (apply (Spawn (System SystemTask.Collect)) ts p) e (collect_counts ts p h)

  -- the new task's own port is one that the redex counts
  pub spends : (k : User) (b : BodyView) (seed : SeedView) (place : Place) → at b ≡ at_op (record { op = spawning seed; place = place }) → refusal s (spawning seed) ≡ None → Sealed me roles b.term no_roles → own_of (new_task program seed) ≡ owns k q → 1 ≤ count k q (redex b.term)
  spends k b seed place stands r h own = by (redex b.term) (spawning seed) (body_form b (record { op = spawning seed; place = place }) stands) refl (redex_sealed me roles b.term h) (or_none (unfit s (spawning seed)) (too_many s (spawning seed)) r).0 where
    same_seed : (x y : SeedView) → spawning x ≡ spawning y → x ≡ y
    same_seed x y e = cc

    by : (t : Kernel) (op : OpView) → Form t op → op ≡ spawning seed → Sealed me roles t no_roles → unfit s (spawning seed) ≡ None → 1 ≤ count k q t
    by t op (takes {ts} {p}) is g u = absurd (let j : taking (first_of (values_of ts)) ≡ spawning seed = is in cc)
    by t op (puts {ts} {p}) is g u = absurd (let j : putting (first_of (values_of ts)) (second_of (values_of ts)) ≡ spawning seed = is in cc)
    by t op (posts {ts} {p}) is g u = absurd (let j : posting (first_of (values_of ts)) (second_of (values_of ts)) ≡ spawning seed = is in cc)
    by t op (chooses {o} {ts} {p}) is g u = absurd (let j : alts_of o (values_of ts) ≡ spawning seed = is in cc)
    by t op (makes {kind} {ts} {p} what e) is g u = absurd (let j : making what ≡ spawning seed = is in cc)
    by t op (closes {ts} {p}) is g u = absurd (let j : closing (first_of (values_of ts)) ≡ spawning seed = is in cc)
    by t op (registers {name} {ts} {p} e) is g u = absurd (let j : registering name (values_of ts) ≡ spawning seed = is in cc)
    by t op (prints {ts} {p}) is g u = absurd (let j : printing (line_of (values_of ts)) ≡ spawning seed = is in cc)
    by t op (spawns {kind} {ts} {p} e) is g u =
        let same = same_seed (seed_of kind (values_of ts) p) seed is in
        kind_spends k kind ts p g (ap (λ z. unfit s (spawning z)) same ∙ u) (ap (λ z. own_of (new_task program z)) same ∙ own)
