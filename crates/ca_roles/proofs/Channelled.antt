-- After an event, too, exactly the ports that were made have a role, hidden ones are channels of their kind, and a queue of
-- replies is closed by its feed alone.
use Rattle.std.proofs.Common.{◌≡◌, ℕ, refl, sym, ap, ◌∙◌, subst, Bool, true, false, cond, Option, Some, None, option_map, eqb, eq-eqb}
use Rattle.ca_value.specs.Tree.{Tree, port}
use Rattle.ca_term.specs.declared.place.Place.{Place}
use Rattle.ca_term.specs.Operation.{OpView, closing}
use Rattle.ca_term.specs.Program.{ProgramView}
use Rattle.ca_term.specs.Event.{EventView, made}
use Rattle.ca_meaning.specs.Applied.{Work}
use Rattle.ca_meaning.specs.Asks.{to, stop}
use Rattle.ca_meaning.specs.Channel.{Channel, channel_made}
use Rattle.ca_meaning.specs.PipelineTable.{FeedPorts, feed_closes_replies}
use Rattle.ca_meaning.specs.System.{a_feed}
use Rattle.ca_meaning.specs.Task.{system_task, body_fill, BodyRest}
use Rattle.ca_meaning.specs.State.{State, Task}
use Rattle.ca_meaning.specs.Choice.{branches_of}
use Rattle.ca_meaning.specs.Going.{IsAtOp, RunsAtOperation}
use Rattle.ca_meaning.specs.Steps.{Step}
use Rattle.ca_meaning.specs.Sound.{Sound}
use Rattle.ca_meaning.specs.History.{Mark, accept, give, give_none, pass, no_mark, mark_on, marked, closes, shut_if, channel_after}
use Rattle.ca_meaning.proofs.Histories.{step_tells}
use Rattle.ca_laws.specs.Deeds.{Deed, did_wait, did_close, did_end, deed}
use Rattle.ca_laws.proofs.Acts.{wait_of, Acts, idles, parks, stops, goes}
use Rattle.ca_laws.proofs.Acted.{acts}
use Rattle.ca_laws.proofs.Stood.{AllStood}
use Rattle.ca_roles.specs.Roles.{Hidden, jobs, replies, reply, acks, Role, public, hidden, Roles}
use Rattle.ca_roles.specs.Users.{Closes}
use Rattle.ca_roles.specs.Typed.{IsChannelFor, IsFeedOver, TypedBody, MayAsk, Typed}
use Rattle.ca_roles.proofs.NewRoles.{IsNewFor, IsNewAs, new_for, GrowsAt, Makes, makes, makes_none, makes_of}
use Rattle.ca_roles.proofs.Closing.{ClosedBy, closed_by, closes_replies, over_stays}

-- what an event leaves of a channel
pub marked_policy : (m : Mark) (c : Channel) → (marked m c).policy ≡ c.policy
marked_policy (accept v) c = refl
marked_policy (give v) c = refl
marked_policy give_none c = refl
marked_policy (pass v) c = refl
marked_policy no_mark c = refl

marked_closed : (m : Mark) (c : Channel) → (marked m c).closed ≡ c.closed
marked_closed (accept v) c = refl
marked_closed (give v) c = refl
marked_closed give_none c = refl
marked_closed (pass v) c = refl
marked_closed no_mark c = refl

pub shut_policy : (b : Bool) (c : Channel) → (shut_if b c).policy ≡ c.policy
shut_policy true c = refl
shut_policy false c = refl

pub stays_so : (x : Hidden) (m : Mark) (b : Bool) (c : Channel) → ((h : b ≡ true) → (x ≡ acks → ⊥) × ((w : Work) (v : Tree) → x ≡ reply w v → ⊥)) → IsChannelFor x c → IsChannelFor x (shut_if b (marked m c))
stays_so (jobs w) m b c f h = shut_policy b (marked m c) ∙ marked_policy m c ∙ h
stays_so (replies w) m b c f h = shut_policy b (marked m c) ∙ marked_policy m c ∙ h
stays_so (reply w v) m true c f h = absurd ((f refl).1 w v refl)
stays_so (reply w v) m false c f h = (marked_policy m c ∙ h.0, marked_closed m c ∙ h.1)
stays_so acks m true c f h = absurd ((f refl).0 refl)
stays_so acks m false c f h = (marked_policy m c ∙ h.0, marked_closed m c ∙ h.1)

mapped_some : (f : Channel → Channel) (o : Option Channel) (d : Channel) → option_map f o ≡ Some d → (c : Channel) × (o ≡ Some c) × (f c ≡ d)
mapped_some f None d e = absurd (let k : None ≡ Some d = e in cc)
mapped_some f (Some c) d e = (c, refl, let k : f c ≡ d = cc in k)

module _ (program : ProgramView) (roles more : Roles) (s s2 : State) (e : EventView) (typed : Typed program roles s) (sound : Sound s) (stood : AllStood s) (asks : (t : ℕ) (op : OpView) (x : Task) → RunsAtOperation s t op x → MayAsk program roles x.body op) (x : Step program s e s2) (g : GrowsAt roles more e) where
  -- of the channels
  tells : (p : ℕ) → s2.channels p ≡ channel_after p e (s.channels p)
  tells p = step_tells program s s2 e p x sound

  pub channels_after : (p : ℕ) (c : Channel) → s2.channels p ≡ Some c → (r : Role) × (more p ≡ Some r)
  channels_after p c at = by e (makes_of roles more e g) (sym (tells p) ∙ at) where
    by : (e : EventView) → Makes roles more e → channel_after p e (s.channels p) ≡ Some c → (r : Role) × (more p ≡ Some r)
    by e (makes t q what moment r is new) at = new_one (eqb q p) refl at where
      new_one : (b : Bool) → eqb q p ≡ b → cond b (channel_made what) (s.channels p) ≡ Some c → (r : Role) × (more p ≡ Some r)
      new_one true i k = (r, ap (λ (z : Roles). z p) is ∙ ap (λ b. cond b (Some r) (roles p)) i)
      new_one false i k = let o = typed.channels p c k in (o.0, ap (λ (z : Roles). z p) is ∙ ap (λ b. cond b (Some r) (roles p)) i ∙ o.1)
    by e (makes_none is after) at = let m = mapped_some _ (s.channels p) c (sym (after p (s.channels p)) ∙ at) in let o = typed.channels p m.0 m.1 in (o.0, ap (λ (z : Roles). z p) is ∙ o.1)

  -- what the event leaves of a hidden channel that was there
  closes_none : (e : EventView) → Step program s e s2 → (p m : ℕ) (h : Hidden) → roles p ≡ Some (hidden m h) → closes p e ≡ true → (h ≡ acks → ⊥) × ((w : Work) (v : Tree) → h ≡ reply w v → ⊥)
  closes_none e x p m h at c =
      let k = closed_by program roles s s2 typed asks e p m h x at c in
      (λ i. subst (λ (z : Hidden). Closes p z k.was.body) i k.may, λ w v i. subst (λ (z : Hidden). Closes p z k.was.body) i k.may)

  pub hidden_after : (p m : ℕ) (h : Hidden) → more p ≡ Some (hidden m h) → (c : Channel) × (s2.channels p ≡ Some c) × IsChannelFor h c
  hidden_after p m h at = by e (makes_of roles more e g) x (tells p) at where
    by : (e : EventView) → Makes roles more e → Step program s e s2 → s2.channels p ≡ channel_after p e (s.channels p) → more p ≡ Some (hidden m h) → (c : Channel) × (s2.channels p ≡ Some c) × IsChannelFor h c
    by e (makes t q what moment r is new) x tells at = new_one (eqb q p) tells (sym (ap (λ (z : Roles). z p) is) ∙ at) where
      role : (r : Role) → Some r ≡ Some (hidden m h) → IsNewAs t what r → IsNewFor h what
      role (hidden u y) e k = subst (λ z. IsNewFor z what) (let j : y ≡ h = cc in j) k.1
      role public e k = absurd (let j : Some public ≡ Some (hidden m h) = e in cc)

      new_one : (b : Bool) → s2.channels p ≡ cond b (channel_made what) (s.channels p) → cond b (Some r) (roles p) ≡ Some (hidden m h) → (c : Channel) × (s2.channels p ≡ Some c) × IsChannelFor h c
      new_one true i k = let c = new_for h what (role r k new) in (c.0, i ∙ c.1, c.2)
      new_one false i k = let c = typed.hidden_channels p m h k in (c.0, i ∙ c.1, c.2)
    by e (makes_none is after) x tells at =
        let there : roles p ≡ Some (hidden m h) = sym (ap (λ (z : Roles). z p) is) ∙ at in
        let c = typed.hidden_channels p m h there in
        (shut_if (closes p e) (marked (mark_on p e) c.0), tells ∙ after p (s.channels p) ∙ ap (option_map (λ d. shut_if (closes p e) (marked (mark_on p e) d))) c.1, stays_so h (mark_on p e) (closes p e) c.0 (closes_none e x p m h there) c.2)

  -- the feed that closes its queue is over
  feed_ends : (p : ℕ) (f : FeedPorts) (l : Place) (u : ℕ) (y : Task) (d : Option Deed) → y.body ≡ system_task (a_feed f l (to feed_closes_replies)) → f.replies ≡ p → d ≡ Some (did_close p) → (z : Task) × (s2.tasks u ≡ Some z) × Acts program y z d → IsFeedOver s2 p
  feed_ends p f l u y d is at told (z, there, idles none ze) = absurd (let k : None ≡ Some (did_close p) = sym none ∙ told in cc)
  feed_ends p f l u y d is at told (z, there, parks op w told2 may at_op r ze) = absurd (let k : Some (did_wait w (branches_of op)) ≡ Some (did_close p) = sym told2 ∙ told in cc)
  feed_ends p f l u y d is at told (z, there, stops how told2 r v ze) = absurd (let k : Some (did_end how) ≡ Some (did_close p) = sym told2 ∙ told in cc)
  feed_ends p f l u y d is at told (z, there, goes op c a b told2 at_op r rest ze) =
      let k : BodyRest program (system_task (a_feed f l stop)) b = subst (λ q. BodyRest program (body_fill a q) b) is rest in
      (u, z, f, l, there, ap (λ (q : Task). q.body) ze ∙ k.2 ∙ ap system_task k.1, at)

  feed_closes : (e : EventView) (p m : ℕ) (w : Work) → roles p ≡ Some (hidden m (replies w)) → Step program s e s2 → ClosedBy p (replies w) s e → IsFeedOver s2 p
  feed_closes e p m w at x k =
      let f = k.may.0 in
      let l = k.may.1 in
      let n = k.may.2 in
      let is = k.may.3 in
      let feed : TypedBody program k.task roles (system_task (a_feed f l n)) = subst (TypedBody program k.task roles) is (typed.tasks k.task k.was k.there).body in
      let apart : f.jobs ≡ p → ⊥ = λ i. let j : Some (hidden feed.0 (jobs feed.1)) ≡ Some (hidden m (replies w)) = sym feed.3 ∙ ap roles i ∙ at in cc in
      let last = closes_replies f l n p (subst (λ b. IsAtOp b (closing (port p))) is k.stands) apart in
      let told = ap (deed k.task (wait_of k.was.mode)) k.event ∙ ap (λ b. cond b (Some (did_close p)) None) (eq-eqb k.task k.task refl) in
      feed_ends p f l k.task k.was (deed k.task (wait_of k.was.mode) e) (is ∙ ap (λ z. system_task (a_feed f l z)) last) k.may.4 told (acts program s s2 k.task k.was k.there stood sound.waited e x)

  shut_true : (b : Bool) (m : Mark) (c : Channel) → b ≡ false → (shut_if b (marked m c)).closed ≡ c.closed
  shut_true b m c e = ap (λ z. (shut_if z (marked m c)).closed) e ∙ marked_closed m c

  pub ended_after : (p m : ℕ) (w : Work) (c : Channel) → more p ≡ Some (hidden m (replies w)) → s2.channels p ≡ Some c → c.closed ≡ true → IsFeedOver s2 p
  ended_after p m w c at there cl = by e (makes_of roles more e g) x (sym (tells p) ∙ there) at where
    stays : (e : EventView) → Step program s e s2 → (c0 : Channel) → s.channels p ≡ Some c0 → roles p ≡ Some (hidden m (replies w)) → c0.closed ≡ true → IsFeedOver s2 p
    stays e x c0 at0 is cl0 = over_stays program s s2 e p sound stood x (typed.ended p m w c0 is at0 cl0)

    by : (e : EventView) → Makes roles more e → Step program s e s2 → channel_after p e (s.channels p) ≡ Some c → more p ≡ Some (hidden m (replies w)) → IsFeedOver s2 p
    by e (makes t q what moment r is new) x told at = new_one (eqb q p) told (sym (ap (λ (z : Roles). z p) is) ∙ at) where
      role : (r : Role) → Some r ≡ Some (hidden m (replies w)) → IsNewAs t what r → IsNewFor (replies w) what
      role (hidden u y) e k = subst (λ z. IsNewFor z what) (let j : y ≡ replies w = cc in j) k.1
      role public e k = absurd (let j : Some public ≡ Some (hidden m (replies w)) = e in cc)

      new_one : (b : Bool) → cond b (channel_made what) (s.channels p) ≡ Some c → cond b (Some r) (roles p) ≡ Some (hidden m (replies w)) → IsFeedOver s2 p
      new_one true i k =
          let d = new_for (replies w) what (role r k new) in
          absurd (let j : Some d.0 ≡ Some c = sym d.1 ∙ i in let f : d.0 ≡ c = cc in let q : false ≡ true = sym d.3 ∙ ap (λ (z : Channel). z.closed) f ∙ cl in cc)
      new_one false i k = stays (made t q what moment) x c i k cl
    by e (makes_none is after) x told at =
        let at0 : roles p ≡ Some (hidden m (replies w)) = sym (ap (λ (z : Roles). z p) is) ∙ at in
        let c0 = mapped_some _ (s.channels p) c (sym (after p (s.channels p)) ∙ told) in
        shuts c0.0 c0.1 c0.2 at0 (closes p e) refl where
          shuts : (c0 : Channel) → s.channels p ≡ Some c0 → shut_if (closes p e) (marked (mark_on p e) c0) ≡ c → roles p ≡ Some (hidden m (replies w)) → (b : Bool) → closes p e ≡ b → IsFeedOver s2 p
          shuts c0 there0 is0 at0 true i = feed_closes e p m w at0 x (closed_by program roles s s2 typed asks e p m (replies w) x at0 i)
          shuts c0 there0 is0 at0 false i = stays e x c0 there0 at0 (sym (shut_true (closes p e) (mark_on p e) c0 i) ∙ ap (λ (z : Channel). z.closed) is0 ∙ cl)
