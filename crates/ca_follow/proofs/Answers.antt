-- Lines, closes, defaults and registries: what such an event of a plan leaves follows the state to which it is a step.
use Rattle.std.proofs.Common.{◌≡◌, ℕ, List, refl, sym, ap, ◌∙◌, subst, true, false, cond, Option, Some, option_map, eqb}
use Rattle.std.specs.Map.{update}
use Rattle.ca_value.specs.Tree.{Tree, Trees, nil, port}
use Rattle.ca_term.specs.declared.head.RegisterName.{RegisterName}
use Rattle.ca_term.specs.Operation.{SeedView, closing, printing, registering}
use Rattle.ca_term.specs.Program.{ProgramView}
use Rattle.ca_meaning.specs.Body.{At}
use Rattle.ca_meaning.specs.Channel.{Channel, shut}
use Rattle.ca_meaning.specs.ChannelSteps.{with_default}
use Rattle.ca_meaning.specs.Choice.{branches_of}
use Rattle.ca_meaning.specs.Operands.{rest_of}
use Rattle.ca_meaning.specs.Registry.{Registered, Registry, answers}
use Rattle.ca_meaning.specs.State.{Channels, State, runs, shut_at}
use Rattle.ca_meaning.specs.Task.{TaskBody}
use Rattle.ca_agent.specs.Agents.{Answered}
use Rattle.ca_bank.specs.Kept.{closed_channel}
use Rattle.ca_registry.specs.Registries.{answered, left_by}
use Rattle.ca_registry.specs.Registry.{registry_after}
use Rattle.ca_commit.specs.Contents.{Kept, alive, channel_of, whole, with_channel}
use Rattle.ca_commit.specs.Entering.{answer_of, registry_of}
use Rattle.ca_commit.specs.Holds.{KeepsChannels}
use Rattle.ca_commit.specs.Planning.{to_close, to_default, to_print, to_register}
use Rattle.ca_commit.specs.Replies.{or_nil}
use Rattle.ca_commit.proofs.Fitting.{default_fits}
use Rattle.ca_commit.proofs.Holding.{changed}
use Rattle.ca_commit.proofs.Shown.{none_ready, shows}
use Rattle.ca_follow.specs.Has.{parts_had}
use Rattle.ca_follow.proofs.Changed.{part_with, whole_entered}
use Rattle.ca_follow.proofs.Going.{LeadsOn, alone_follows, holds_still, is_part, one_goes, registered_still, shown_of, stands_named, stands_there, went}

module _ {A : Type 0} (place : A → At) (stands : ProgramView → A → TaskBody → Type 0) (program : ProgramView) (gives : A → Tree → A → Type 0) (answers_law : Answered stands place gives) (starts : ProgramView → SeedView → A → Type 0) where
  pub print_follows : (line : List ℕ) → LeadsOn place stands program gives starts (to_print line)
  print_follows line h h2 s op at t u p w m a f all is here tells new x = let c = x.answered.0 in let g = went place stands program gives answers_law h s t a c false (record { op = op; place = at }) nil is here x.answered.2 in
      let s2 : State = record s { tasks = update eqb s.tasks t (Some (runs g.0.result g.3.0)) } in (
        s2,
        (g.0, s2.tasks, stands_named place stands program h s t op (printing line) at g.0 tells.1 f g.1 g.2 tells.0 refl, (g.3.0, g.3.1, refl), refl),
        alone_follows place stands program h h2 s s2 t g.0 c g.3.0 f g.1 g.3.2 refl refl refl (one_goes place stands program h h2 t c x.woken x.goes x.wakes x.answered.1 x.running) x.shard x.known x.used
            (holds_still place stands program h h2 s f x.bank) (registered_still place stands program h h2 s f x.registry) (x.times ∙ f.times),
      )

  pub default_follows : (v : Tree) → LeadsOn place stands program gives starts (to_default v)
  default_follows v h h2 s op at t u p w m a f all is here tells new x = let c = x.answered.0 in let g = went place stands program gives answers_law h s t a c true (record { op = op; place = at }) (with_default v) is here x.answered.2 in
      let s2 : State = record s { tasks = update eqb s.tasks t (Some (runs g.0.result g.3.0)) } in (
        s2,
        (g.0, op, s2.tasks, stands_there place stands program h s t op at g.0 f g.1 g.2 tells.0 (default_fits s op v tells.1), tells.1, none_ready (parts_had h) (parts_had h) s (branches_of op) (shown_of place stands program h s f) (is_part h) tells.2, (g.3.0, g.3.1, refl), refl),
        alone_follows place stands program h h2 s s2 t g.0 c g.3.0 f g.1 g.3.2 refl refl refl (one_goes place stands program h h2 t c x.woken x.goes x.wakes x.answered.1 x.running) x.shard x.known x.used
            (holds_still place stands program h h2 s f x.bank) (registered_still place stands program h h2 s f x.registry) (x.times ∙ f.times),
      )

  pub close_follows : (q : ℕ) → LeadsOn place stands program gives starts (to_close q)
  close_follows q h h2 s op at t u p w m a f all is here tells new x = let c = x.answered.0 in let g = went place stands program gives answers_law h s t a c false (record { op = op; place = at }) nil is here x.answered.2 in
      let k = tells.2.0 in let held = part_with h.bank q k tells.2.1 in
      let banks : whole h2.bank ≡ update eqb (whole h.bank) q (Some (with_channel (shut k.channel) k)) = whole_entered q (option_map closed_channel) h.bank h2.bank held.0 held.1 x.bank ∙ ap (λ (o : Option Kept). update eqb (whole h.bank) q (option_map closed_channel o)) tells.2.1 in
      let was : s.channels q ≡ Some k.channel = f.holds.channels_are q ∙ ap channel_of tells.2.1 in
      let shuts : update eqb s.channels q (Some (shut k.channel)) ≡ shut_at q s.channels = ap (λ (o : Option Channel). update eqb s.channels q (option_map shut o)) (sym was) in
      let s2 : State = record s { tasks = update eqb s.tasks t (Some (runs g.0.result g.3.0)); channels = shut_at q s.channels } in (
        s2,
        (g.0, s2.tasks, stands_named place stands program h s t op (closing (port q)) at g.0 tells.1 f g.1 g.2 tells.0 refl, (g.3.0, g.3.1, refl), refl),
        alone_follows place stands program h h2 s s2 t g.0 c g.3.0 f g.1 g.3.2 refl refl refl (one_goes place stands program h h2 t c x.woken x.goes x.wakes x.answered.1 x.running) x.shard x.known x.used
            (subst (λ (b : ℕ → Option Kept). KeepsChannels b (alive (whole h.shard)) (shut_at q s.channels) s.waits s.used) (sym banks)
            (subst (λ (b : Channels). KeepsChannels (update eqb (whole h.bank) q (Some (with_channel (shut k.channel) k))) (alive (whole h.shard)) b s.waits s.used) shuts
            (changed (whole h.bank) (alive (whole h.shard)) s.channels s.waits s.used q k (shut k.channel) f.holds tells.2.1)))
            (registered_still place stands program h h2 s f x.registry) (x.times ∙ f.times),
      )

  pub register_follows : (name : RegisterName) (args : Trees) → LeadsOn place stands program gives starts (to_register name args)
  register_follows name args h h2 s op at t u p w m a f all is here tells new x = let q = registry_of args in let value = answer_of (whole h.registry q) name (rest_of args) in let e = tells.2 in
      let c = x.answered.0 in let g = went place stands program gives answers_law h s t a c false (record { op = op; place = at }) value is here x.answered.2 in
      let answer_is : value ≡ e.answer = ap (λ (o : Option Registry). answer_of o name (rest_of args)) e.there ∙ ap (λ (z : Registered). or_nil (answered z)) e.by_bank in
      let held = part_with h.registry q e.old e.there in
      let becomes : registry_after name (rest_of args) e.old ≡ e.after = ap (λ (z : Registered). left_by z e.old) e.by_bank in
      let members : whole h2.registry ≡ update eqb (whole h.registry) q (Some e.after) = whole_entered q (option_map (registry_after name (rest_of args))) h.registry h2.registry held.0 held.1 x.registry
      ∙ ap (λ (o : Option Registry). update eqb (whole h.registry) q (option_map (registry_after name (rest_of args)) o)) e.there ∙ ap (λ (r : Registry). update eqb (whole h.registry) q (Some r)) becomes in
      let s2 : State = record s { tasks = update eqb s.tasks t (Some (runs g.0.result g.3.0)); registries = update eqb s.registries q (Some e.after) } in (
        s2,
        (
          g.0,
          e.after,
          s2.tasks,
          stands_named place stands program h s t op (registering name args) at g.0 tells.1 f g.1 g.2 tells.0 refl,
          e.by_table s (shows (parts_had h) (parts_had h) s (shown_of place stands program h s f) (is_part h)) ∙ ap (λ (z : Tree). answers z e.after) (sym answer_is),
          (g.3.0, g.3.1, refl),
          refl,
        ),
        alone_follows place stands program h h2 s s2 t g.0 c g.3.0 f g.1 g.3.2 refl refl refl (one_goes place stands program h h2 t c x.woken x.goes x.wakes x.answered.1 x.running) x.shard x.known x.used
            (holds_still place stands program h h2 s f x.bank)
            (λ i. ap (λ (o : Option Registry). cond (eqb q i) (Some e.after) o) (f.registered i) ∙ sym (ap (λ (r : ℕ → Option Registry). r i) members)) (x.times ∙ f.times),
      )
