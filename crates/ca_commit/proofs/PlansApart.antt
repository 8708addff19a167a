-- What `plan` was given of an operation's names holds of what it answers.
use Rattle.std.proofs.Common.{◌≡◌, ℕ, ◌+◌, List, [], ◌∷◌, length, take, drop, refl, sym, ap, ◌∙◌, Bool, true, false, cond, Option, Some, None, nat_lt}
use Rattle.ca_value.specs.Tree.{Tree}
use Rattle.ca_term.specs.declared.fault.Fault.{Fault}
use Rattle.ca_term.specs.declared.fault.Fault.TheVariants.{NotAPort}
use Rattle.ca_term.specs.declared.event.Side.{Side}
use Rattle.ca_term.specs.Operation.{OpView, choosing, closing, making, posting, printing, putting, registering, spawning, taking}
use Rattle.ca_term.specs.Event.{BranchView}
use Rattle.ca_meaning.specs.Choice.{branches_of, default_of, parks}
use Rattle.ca_meaning.specs.Operands.{first_of, port_of_value, rest_of}
use Rattle.ca_meaning.specs.Refusal.{crowd_of, fault_of_registered, needs_to_register, registering_gives, unfit, unmet}
use Rattle.ca_meaning.specs.State.{State}
use Rattle.ca_meaning.specs.Wait.{Handler, port_of, side_of}
use Rattle.ca_bank.specs.Kept.{queue_at}
use Rattle.ca_commit.specs.Applying.{KeepsApart}
use Rattle.ca_commit.specs.Finding.{Finding, Glance, alone, gone, here, partner, stale, unheld, unready, unseen}
use Rattle.ca_commit.specs.Holds.{groups}
use Rattle.ca_commit.specs.Planning.{Planned, Seen, all_asked, all_counted, handler_asked, chosen, queue_counted, decided, fitting, found_of, in_turn, is_alts, otherwise, planned, starting, state_of, to_park, to_post, to_refuse, unless_refused}
use Rattle.ca_commit.specs.Registering.{AreApart, keys_pass}
use Rattle.ca_commit.proofs.FitsMore.{second_none}
use Rattle.ca_registry.proofs.KeyLaws.{apart_by, refused_keys}

one_of : (b : Bool) (p q : Planned) → KeepsApart p → KeepsApart q → KeepsApart (cond b p q)
one_of true p q f g = f
one_of false p q f g = g

by_finding : (f : Finding) (alts : Bool) (k : ℕ) (b : BranchView) (rest : Planned) → KeepsApart rest → KeepsApart (decided f alts k b rest)
by_finding unready alts k b rest r = r
by_finding alone alts k b rest r = tt
by_finding (partner w o) alts k b rest r = tt
by_finding (stale side) alts k b rest r = tt
by_finding (unheld w) alts k b rest r = tt

by_glance : (g : Glance) (p : ℕ) (side : Side) (place w : ℕ) (rest : Planned) → KeepsApart rest → KeepsApart (handler_asked g p side place w rest)
by_glance here p side place w rest r = r
by_glance gone p side place w rest r = tt
by_glance unseen p side place w rest r = tt

module _ (x : Seen) where
  abbrev held : State
  held = state_of x.ports x.registries

  turn_keeps : (alts : Bool) (k : ℕ) (bs : List BranchView) (rest : Planned) → KeepsApart rest → KeepsApart (in_turn x alts k bs rest)
  turn_keeps alts k [] rest r = r
  turn_keeps alts k (b ∷ bs) rest r = by_finding (found_of x b) alts k b (in_turn x alts (k + 1) bs rest) (turn_keeps alts (k + 1) bs rest r)

  asking_keeps : (p : ℕ) (side : Side) (place : ℕ) (q : List Handler) (rest : Planned) → KeepsApart rest → KeepsApart (all_asked x p side place q rest)
  asking_keeps p side place [] rest r = r
  asking_keeps p side place (h ∷ q) rest r = by_glance (x.see h.wait) p side place h.wait (all_asked x p side (place + 1) q rest) (asking_keeps p side (place + 1) q rest r)

  counting_keeps : (side : Side) (p : ℕ) (q : List Handler) (rest : Planned) → KeepsApart rest → KeepsApart (queue_counted x side p q rest)
  counting_keeps side p q rest r = one_of (nat_lt (length q) 1024) rest (all_asked x p side 0 q (cond (nat_lt (groups q) 1024) rest (to_refuse (crowd_of side)))) r
      (asking_keeps p side 0 q (cond (nat_lt (groups q) 1024) rest (to_refuse (crowd_of side))) (one_of (nat_lt (groups q) 1024) rest (to_refuse (crowd_of side)) r tt))

  queues_keep : (bs : List BranchView) (rest : Planned) → KeepsApart rest → KeepsApart (all_counted x bs rest)
  queues_keep [] rest r = r
  queues_keep (b ∷ bs) rest r = counting_keeps (side_of b) (port_of b) (queue_at (side_of b) (x.ports (port_of b))) (all_counted x bs rest) (queues_keep bs rest r)

  otherwise_keeps : (op : OpView) (d : Option Tree) → KeepsApart (otherwise x op d)
  otherwise_keeps op (Some v) = tt
  otherwise_keeps op None = queues_keep (branches_of op) (cond (parks op) (to_park (branches_of op)) (to_post (branches_of op))) (one_of (parks op) (to_park (branches_of op)) (to_post (branches_of op)) tt tt)

  choice_keeps : (op : OpView) (start : ℕ) → KeepsApart (chosen x op start)
  choice_keeps op start = let k = starting x op start in let bs = branches_of op in let rest = otherwise x op (default_of op) in
      turn_keeps (is_alts op) k (drop k bs) (in_turn x (is_alts op) 0 (take k bs) rest) (turn_keeps (is_alts op) 0 (take k bs) rest (otherwise_keeps op (default_of op)))

  -- where a registering isn't refused, each key of a toggle is a channel
  fit_keeps : (op : OpView) (start : ℕ) → AreApart held op → unfit held op ≡ None → KeepsApart (fitting x op start)
  fit_keeps (taking c) start apart e = choice_keeps (taking c) start
  fit_keeps (putting c v) start apart e = choice_keeps (putting c v) start
  fit_keeps (posting c v) start apart e = choice_keeps (posting c v) start
  fit_keeps (choosing ports priority default) start apart e = choice_keeps (choosing ports priority default) start
  fit_keeps (making what) start apart e = tt
  fit_keeps (spawning seed) start apart e = tt
  fit_keeps (closing c) start apart e = tt
  fit_keeps (printing line) start apart e = tt
  fit_keeps (registering name args) start apart e = by (keys_pass held name (rest_of args)) refl where
    answered : fault_of_registered (registering_gives held name args) ≡ None
    answered = second_none (unmet held (needs_to_register name) args) (fault_of_registered (registering_gives held name args)) e

    by : (b : Bool) → keys_pass held name (rest_of args) ≡ b → KeepsApart (fitting x (registering name args) start)
    by true k = (apart_by held name (rest_of args) k apart.0, apart.1)
    by false k = absurd (let c : Some NotAPort ≡ None = sym (ap fault_of_registered (refused_keys held (held.registries (port_of_value (first_of args))) name (rest_of args) k)) ∙ answered in cc)

  pub plans_apart : (op : OpView) (start : ℕ) → AreApart held op → KeepsApart (planned x op start)
  plans_apart op start apart = by (unfit held op) refl where
    by : (o : Option Fault) → unfit held op ≡ o → KeepsApart (unless_refused x o (fitting x op start))
    by (Some f) e = tt
    by None e = fit_keeps op start apart e
