-- The role that a new port gets, of which its maker's body tells.
use Rattle.std.proofs.Common.{◌≡◌, ℕ, refl, sym, ap, ◌∙◌, subst, ◌⊎◌, inl, inr, [], ◌∷◌, ◌++◌, Bool, true, false, Option, Some, None}
use Rattle.ca_value.specs.Tree.{Tree, Trees, bool, vector, port, item}
use Rattle.ca_term.specs.declared.place.Place.{Place}
use Rattle.ca_term.specs.declared.fault.Fault.{Fault}
use Rattle.ca_term.specs.Operation.{OpView, putting, choosing, making, WhatView, fixed}
use Rattle.ca_term.specs.Program.{ProgramView}
use Rattle.ca_meaning.specs.Asking.{too_large_branches}
use Rattle.ca_meaning.specs.Asks.{to, too_large_here, pair_of}
use Rattle.ca_meaning.specs.Body.{At, at_op, asking}
use Rattle.ca_meaning.specs.MultTable.{mult_takes, deliver_puts, deliver_answers}
use Rattle.ca_meaning.specs.MixTable.{mix_chooses, mix_puts, port_trees}
use Rattle.ca_meaning.specs.PubTable.{pub_puts}
use Rattle.ca_meaning.specs.PipeTable.{pipe_puts, merge_chooses, merge_puts, onto_puts}
use Rattle.ca_meaning.specs.PipelineTable.{FeedPorts, feed_makes, feed_puts, feed_queues, job_replies, collect_puts}
use Rattle.ca_meaning.specs.System.{SystemBody, a_mult, a_delivery, a_mix, a_pub, a_pipe, a_merge, an_onto, a_feed, a_job, a_collect, system_at}
use Rattle.ca_meaning.specs.Task.{TaskBody, script, system_task, body_fill}
use Rattle.ca_meaning.specs.Going.{IsAtOp}
use Rattle.ca_roles.specs.Roles.{jobs, replies, reply, Role, public, hidden, Roles, Grows}
use Rattle.ca_roles.specs.Typed.{TypedSystem, TypedBody}
use Rattle.ca_roles.proofs.Ports.{asked}
use Rattle.ca_roles.proofs.Sealing.{public_more}
use Rattle.ca_roles.proofs.Rested.{make_role}
use Rattle.ca_roles.proofs.NewRoles.{IsNewAs, made_new}

abbrev is_making : OpView → Bool
is_making (making what) = true
is_making op = false

abbrev is_make : At → Bool
is_make (at_op want) = is_making want.op
is_make a = false

put_makes_none : (p : Place) (f : Option Fault) (c v : Tree) → is_make (asking p f (putting c v)) ≡ false
put_makes_none p None c v = refl
put_makes_none p (Some f) c v = refl

choice_makes_none : (p : Place) (f : Option Fault) (ports : Trees) → is_make (asking p f (choosing ports false None)) ≡ false
choice_makes_none p None ports = refl
choice_makes_none p (Some f) ports = refl

-- of the system's tasks only a feed makes a port
abbrev IsMaker : SystemBody → Type 0
IsMaker b = (is_make (system_at b) ≡ false) ⊎ ((f : FeedPorts) × (l : Place) × (v : Tree) × (b ≡ a_feed f l (to (feed_makes v))))

maker : (b : SystemBody) → IsMaker b
maker (a_feed f l (to (feed_makes v))) = inr (f, l, v, refl)
maker (a_feed f l (to (feed_puts v p))) = inl (put_makes_none l (too_large_here (pair_of v (port p))) (port f.jobs) (pair_of v (port p)))
maker (a_feed f l (to (feed_queues p))) = inl (put_makes_none l (too_large_here (port p)) (port f.replies) (port p))
maker (a_delivery d l (to deliver_puts)) = inl (put_makes_none l (too_large_here d.value) (port d.channel) d.value)
maker (a_delivery d l (to deliver_answers)) = inl (put_makes_none l (too_large_here (bool true)) (port d.acks) (bool true))
maker (a_mix x l (to (mix_chooses reads heard))) = let ports = port_trees (reads ++ x.changes ∷ []) in inl (choice_makes_none l (too_large_branches ports) ports)
maker (a_mix x l (to (mix_puts reads heard v))) = inl (put_makes_none l (too_large_here v) (port x.out) v)
maker (a_pub t l (to (pub_puts c v))) = inl (put_makes_none l (too_large_here v) (port c) v)
maker (a_pipe t l (to (pipe_puts v))) = inl (put_makes_none l (too_large_here v) (port t.target) v)
maker (a_merge o l (to (merge_chooses v vs))) = inl (choice_makes_none l (too_large_branches (item v vs)) (item v vs))
maker (a_merge o l (to (merge_puts vs v))) = inl (put_makes_none l (too_large_here v) (port o) v)
maker (an_onto o l (to (onto_puts v vs))) = inl (put_makes_none l (too_large_here v) (port o.target) v)
maker (a_job j w (to (job_replies p ys))) = inl (put_makes_none w.place (too_large_here (vector ys)) (port p) (vector ys))
maker (a_collect c l (to (collect_puts y ys))) = inl (put_makes_none l (too_large_here y) (port c.target) y)
maker (a_mult t l (to mult_takes)) = inl refl
maker b = inl refl

same_what : (a b : WhatView) → making a ≡ making b → a ≡ b
same_what a b e = cc

module _ (program : ProgramView) (me : ℕ) (roles : Roles) where
  -- the port gets this role, and then the body is typed again
  abbrev pub GivesRole : TaskBody → WhatView → Type 0
  GivesRole b what = (r : Role) × IsNewAs me what r × ((more : Roles) (p : ℕ) → Grows roles more → more p ≡ Some r → TypedBody program me more (body_fill (port p) b))

  feed_gives : (f : FeedPorts) (l : Place) (v : Tree) (what : WhatView) → fixed 1 ≡ what → TypedSystem program roles (a_feed f l (to (feed_makes v))) → GivesRole (system_task (a_feed f l (to (feed_makes v)))) what
  feed_gives f l v what e h = (
    hidden me (reply h.1 v),
    (refl, sym e),
    λ more p g is. (h.0, h.1, g f.source public h.2, g f.jobs (hidden h.0 (jobs h.1)) h.3, g f.replies (hidden h.0 (replies h.1)) h.4, (public_more roles more g v h.5, (me, is))),
  )

  system_gives : (b : SystemBody) (what : WhatView) → TypedSystem program roles b → IsAtOp (system_task b) (making what) → GivesRole (system_task b) what
  system_gives b what h at = by (maker b) where
    by : IsMaker b → GivesRole (system_task b) what
    by (inl e) = absurd (let k : true ≡ false = sym (ap is_make at.1) ∙ e in cc)
    by (inr m) =
        let at_makes : asking m.1 None (making (fixed 1)) ≡ at_op (record { op = making what; place = at.0 }) = ap system_at (sym m.3) ∙ at.1 in
        subst (λ z. GivesRole (system_task z) what) (sym m.3)
        (feed_gives m.0 m.1 m.2 what (same_what (fixed 1) what (asked m.1 None (making (fixed 1)) (record { op = making what; place = at.0 }) at_makes).0) (subst (TypedSystem program roles) m.3 h))

  pub body_gives : (b : TaskBody) (what : WhatView) → TypedBody program me roles b → IsAtOp b (making what) → GivesRole b what
  body_gives (script b) what h at = let k = make_role me roles b what at.0 at.1 h in (k.0, made_new me what k.0 k.1, k.2)
  body_gives (system_task b) what h at = system_gives b what h at
