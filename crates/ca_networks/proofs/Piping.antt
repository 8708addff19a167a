-- A pipeline, by what its feed and its collect did; one event of it.
use Rattle.std.proofs.Common.{◌≡◌, ◌≢◌, ℕ, List, [], ◌∷◌, ◌++◌, refl, sym, ap, ◌∙◌, subst, Some, append_assoc}
use Rattle.ca_value.specs.Tree.{Tree, Trees, vector}
use Rattle.ca_term.specs.declared.place.Place.{Place}
use Rattle.ca_term.specs.Operation.{fixed}
use Rattle.ca_term.specs.Program.{ProgramView}
use Rattle.ca_term.specs.Event.{EventView}
use Rattle.ca_meaning.specs.Applied.{Work, outputs, Outs}
use Rattle.ca_meaning.specs.Asks.{stop}
use Rattle.ca_meaning.specs.Channel.{Channel}
use Rattle.ca_meaning.specs.History.{Mark, accept, give, give_none, pass, no_mark, mark_on}
use Rattle.ca_meaning.specs.PipelineTable.{FeedPorts, CollectPorts}
use Rattle.ca_meaning.specs.Sound.{Each}
use Rattle.ca_meaning.specs.State.{State, Task}
use Rattle.ca_meaning.specs.Steps.{Step}
use Rattle.ca_meaning.specs.System.{a_feed}
use Rattle.ca_meaning.specs.Task.{system_task}
use Rattle.ca_laws.specs.Deeds.{did_take, did_put, deed}
use Rattle.ca_laws.proofs.Acts.{wait_of}
use Rattle.ca_laws.proofs.Deeding.{Traced}
use Rattle.ca_roles.specs.Roles.{Hidden, jobs, replies, reply, hidden, Roles, CarriesAs, ChannelCarries, IsReply}
use Rattle.ca_networks.proofs.Guarded.{Guard, Turn}
use Rattle.ca_networks.proofs.Passing.{entering, leaving, enters, leaves}
use Rattle.ca_roles.proofs.Events.{made_event}
use Rattle.ca_networks.proofs.Using.{no_cons, enters_by, leaves_by}
use Rattle.ca_networks.proofs.Ordered.{is_ordered, gives_first, fifo}
use Rattle.ca_networks.proofs.Standing.{Standing}
use Rattle.ca_networks.proofs.Tables.{feed_body, collect_body}
use Rattle.ca_networks.proofs.Refused.{IsClosed}
use Rattle.ca_networks.proofs.Carried.{Carry, carry_more, carry_join, carry_part, collect_more}
use Rattle.ca_networks.proofs.Fed.{Fed, fed_step}
use Rattle.ca_networks.proofs.Collected.{Collected, collected_step}

-- no feed is there for the queue, and no collect
abbrev pub NoFeed : State → ℕ → Type 0
NoFeed s q = (u : ℕ) (f : FeedPorts) (place : Place) → Standing (feed_body f place) u s → f.replies ≡ q → ⊥

abbrev pub NoCollect : State → ℕ → Type 0
NoCollect s q = (u : ℕ) (c : CollectPorts) (place : Place) → Standing (collect_body c place) u s → c.replies ≡ q → ⊥

-- the queue holds the reply ports of these values
pub record Lined (roles : Roles) (w : Work) (q : ℕ) (s : State) (between : List Tree) : Type 0 where
  pub line : Channel
  pub there : s.channels q ≡ Some line
  pub holds : Carry roles w line.held between

-- A feed and a collect of the same queue: the values whose reply ports were queued, those whose reply ports were taken,
-- and those between.
pub record Piped (program : ProgramView) (roles : Roles) (w : Work) (f : FeedPorts) (c : CollectPorts) (lf lc : Place) (tf tc : ℕ) (journal : List EventView) (s : State) : Type 0 where
  pub queued : List Tree
  pub opened : List Tree
  pub between : List Tree
  pub fed : Fed roles w f lf tf journal s queued
  pub collected : Collected program roles w c lc tc journal s opened
  pub line : Lined roles w f.replies s between
  pub split : queued ≡ opened ++ between

-- the feed alone
pub record Feeding (roles : Roles) (w : Work) (f : FeedPorts) (lf : Place) (tf : ℕ) (journal : List EventView) (s : State) : Type 0 where
  pub queued : List Tree
  pub fed : Fed roles w f lf tf journal s queued
  pub line : Lined roles w f.replies s queued

-- the roles of the ports of the jobs and of the queue
abbrev pub HasRoles : Roles → ℕ → Work → FeedPorts → Type 0
HasRoles roles m w f = (roles f.jobs ≡ Some (hidden m (jobs w))) × (roles f.replies ≡ Some (hidden m (replies w)))

module _ (program : ProgramView) (roles more : Roles) (journal : List EventView) (s s2 : State) (e : EventView) (traced : Traced journal s) (g : Guard program roles s) (turn : Turn program roles more s e) (k : Step program s e s2) where
  -- what leaves a hidden channel fits it
  left_fits : (p m : ℕ) (h : Hidden) (a : Tree) → roles p ≡ Some (hidden m h) → leaves p e ≡ a ∷ [] → ChannelCarries program roles p a
  left_fits p m h a role lv = by (mark_on p e) refl (sym lv) where
    c : (c : Channel) × (s.channels p ≡ Some c)
    c = let i = g.typed.hidden_channels p m h role in (i.0, i.1)

    by : (n : Mark) → mark_on p e ≡ n → a ∷ [] ≡ leaving (mark_on p e) → ChannelCarries program roles p a
    by (give v) is z =
        let first = gives_first program s s2 traced.known.sound p c.0 c.1 e k v is in
        let q : a ∷ [] ≡ v ∷ [] = z ∙ ap leaving is in
        subst (ChannelCarries program roles p) (let i : v ≡ a = cc in i) (subst (Each (ChannelCarries program roles p)) first.1 (g.typed.held p c.0 c.1)).0
    by (pass v) is z =
        let b = enters_by program roles journal s s2 traced g p m h role e k v [] (ap entering is) in
        let q : a ∷ [] ≡ v ∷ [] = z ∙ ap leaving is in
        subst (ChannelCarries program roles p) (let i : v ≡ a = cc in i) b.7
    by (accept v) is z = no_cons a [] (sym (z ∙ ap leaving is))
    by give_none is z = no_cons a [] (sym (z ∙ ap leaving is))
    by no_mark is z = no_cons a [] (sym (z ∙ ap leaving is))

  -- what enters a queue and what leaves it
  pub none_enters : (q m : ℕ) (w : Work) → roles q ≡ Some (hidden m (replies w)) → NoFeed s q → enters q e ≡ []
  none_enters q m w role none = by (enters q e) refl where
    by : (vs : List Tree) → enters q e ≡ vs → enters q e ≡ []
    by [] z = z
    by (v ∷ vs) z =
        let b = enters_by program roles journal s s2 traced g q m (replies w) role e k v vs z in
        absurd (none b.0 b.6.0 b.6.1 (record { now = b.6.2; task = b.1; there = b.4; body_is = b.6.3 }) b.6.4)

  pub none_leaves : (q m : ℕ) (w : Work) → roles q ≡ Some (hidden m (replies w)) → NoCollect s q → leaves q e ≡ []
  none_leaves q m w role none = by (leaves q e) refl where
    by : (vs : List Tree) → leaves q e ≡ vs → leaves q e ≡ []
    by [] z = z
    by (v ∷ vs) z =
        let b = leaves_by program roles journal s s2 traced g q m (replies w) role e k v vs z in
        absurd (none b.0 b.5.0 b.5.1 (record { now = b.5.2; task = b.1; there = b.3; body_is = b.5.3 }) b.5.4)

  -- a queue keeps the order
  pub queue_now : (q m : ℕ) (w : Work) → roles q ≡ Some (hidden m (replies w)) → (c : Channel) → s.channels q ≡ Some c → (d : Channel) × (s2.channels q ≡ Some d) × (c.held ++ enters q e ≡ leaves q e ++ d.held)
  queue_now q m w role c at =
      let h = g.typed.hidden_channels q m (replies w) role in
      let same : h.0 ≡ c = (let i : Some h.0 ≡ Some c = sym h.1 ∙ at in cc) in
      let o = fifo program s s2 traced.known.sound q c at (ap (λ (z : Channel). is_ordered z.policy) (sym same) ∙ ap is_ordered h.2) e k in
      (o.0, o.1, o.3)

  module _ (m : ℕ) (w : Work) (f : FeedPorts) (role : roles f.replies ≡ Some (hidden m (replies w))) where
    apart_jobs : roles f.jobs ≡ Some (hidden m (jobs w)) → f.jobs ≢ f.replies
    apart_jobs has i = let j : Some (hidden m (jobs w)) ≡ Some (hidden m (replies w)) = sym has ∙ ap roles i ∙ role in cc

    apart_replies : (q p : ℕ) (v : Tree) → q ≡ f.replies → IsReply roles w p v → p ≢ q
    apart_replies q p v qf is i = let j : Some (hidden is.0 (reply w v)) ≡ Some (hidden m (replies w)) = sym is.1 ∙ ap roles (i ∙ qf) ∙ role in cc

    -- a reply port gives outputs for its value
    replied : (p : ℕ) (v a : Tree) → IsReply roles w p v → leaves p e ≡ a ∷ [] → (ys : Trees) × (a ≡ vector ys) × Outs program w v (outputs ys)
    replied p v a is lv = let r : CarriesAs program roles (Some (hidden is.0 (reply w v))) a = subst (λ o. CarriesAs program roles o a) is.1 (left_fits p is.0 (reply w v) a is.1 lv) in (r.0, r.1, r.2)

    feed_alone : (place : Place) (t : ℕ) (x : Standing (feed_body f place) t s) → ((j : ℕ) (v a : Tree) → deed t (wait_of x.task.mode) e ≡ Some (did_put j f.replies v a) → ⊥) → enters f.replies e ≡ []
    feed_alone place t x none = by (enters f.replies e) refl where
      by : (vs : List Tree) → enters f.replies e ≡ vs → enters f.replies e ≡ []
      by [] z = z
      by (v ∷ vs) z =
          let b = enters_by program roles journal s s2 traced g f.replies m (replies w) role e k v vs z in
          let ut : b.0 ≡ t = g.one_feed b.0 t b.1 x.task b.6.0 f b.6.1 place b.6.2 x.now b.4 x.there b.6.3 x.body_is b.6.4 in
          let same : b.1 ≡ x.task = (let i : Some b.1 ≡ Some x.task = sym b.4 ∙ ap s.tasks ut ∙ x.there in cc) in
          absurd (none b.2 v b.3 (ap (λ (z : Task). deed t (wait_of z.mode) e) (sym same) ∙ ap (λ u. deed u (wait_of b.1.mode) e) (sym ut) ∙ b.5))

    collect_alone : (c : CollectPorts) (place : Place) (t : ℕ) → c.replies ≡ f.replies → (x : Standing (collect_body c place) t s) → ((j : ℕ) (a : Tree) → deed t (wait_of x.task.mode) e ≡ Some (did_take j c.replies a) → ⊥) → leaves c.replies e ≡ []
    collect_alone c place t cq x none = ap (λ n. leaves n e) cq ∙ by (leaves f.replies e) refl where
      by : (vs : List Tree) → leaves f.replies e ≡ vs → leaves f.replies e ≡ []
      by [] z = z
      by (v ∷ vs) z =
          let b = leaves_by program roles journal s s2 traced g f.replies m (replies w) role e k v vs z in
          let ut : b.0 ≡ t = g.one_collect b.0 t b.1 x.task b.5.0 c b.5.1 place b.5.2 x.now b.3 x.there b.5.3 x.body_is (b.5.4 ∙ sym cq) in
          let same : b.1 ≡ x.task = (let i : Some b.1 ≡ Some x.task = sym b.3 ∙ ap s.tasks ut ∙ x.there in cc) in
          absurd (none b.2 v (ap (λ (z : Task). deed t (wait_of z.mode) e) (sym same) ∙ ap (λ u. deed u (wait_of b.1.mode) e) (sym ut) ∙ b.4 ∙ ap (λ n. Some (did_take b.2 n v)) (sym cq)))

    -- the queue is open until its feed stops
    open_to : (place : Place) (t : ℕ) (x : Standing (feed_body f place) t s) → IsClosed s f.replies → x.now ≡ stop
    open_to place t x cl =
        let b = g.typed.ended f.replies m w cl.0 role cl.1 cl.2 in
        let ut : b.0 ≡ t = g.one_feed b.0 t b.1 x.task b.2 f b.3 place stop x.now b.4 x.there b.5 x.body_is b.6 in
        let same : b.1 ≡ x.task = (let i : Some b.1 ≡ Some x.task = sym b.4 ∙ ap s.tasks ut ∙ x.there in cc) in
        let i : system_task (a_feed f place x.now) ≡ system_task (a_feed b.2 b.3 stop) = sym x.body_is ∙ ap (λ (z : Task). z.body) (sym same) ∙ b.5 in
        let j : a_feed f place x.now ≡ a_feed b.2 b.3 stop = cc in
        let n : x.now ≡ stop = cc in n

    pub fed_now : roles f.jobs ≡ Some (hidden m (jobs w)) → (place : Place) (t : ℕ) (queued : List Tree) → Fed roles w f place t journal s queued → (new : List Tree) × Carry roles w (enters f.replies e) new × Fed more w f place t (journal ++ e ∷ []) s2 (queued ++ new)
    fed_now has place t queued x = fed_step program roles more turn.grows w f place t (apart_jobs has) journal s s2 e traced k queued x (feed_alone place t x.at) (open_to place t x.at)
        (λ p moment v now is. turn.makes_reply t x.at.task f place v p (fixed 1) moment m w x.at.there (x.at.body_is ∙ ap (λ z. system_task (a_feed f place z)) now) (made_event t (wait_of x.at.task.mode) e p (fixed 1) moment is) role)

    pub collected_now : (c : CollectPorts) (place : Place) (t : ℕ) → c.replies ≡ f.replies → (opened new : List Tree) → Collected program roles w c place t journal s opened → Carry roles w (leaves f.replies e) new → Collected program more w c place t (journal ++ e ∷ []) s2 (opened ++ new)
    collected_now c place t cq opened new x carried =
        let y = collected_step program roles w c place (λ p v. apart_replies c.replies p v cq) t journal s s2 e traced k opened new x (subst (λ n. Carry roles w (leaves n e) new) (sym cq) carried) replied (collect_alone c place t cq x.at) in
        record { at = y.at; collects = collect_more roles more turn.grows w program y.at.now y.at.task.mode (opened ++ new) _ y.collects }

    pub line_now : (between new : List Tree) → Lined roles w f.replies s between → Carry roles w (enters f.replies e) new → (us zs : List Tree) × Carry roles w (leaves f.replies e) us × Lined more w f.replies s2 zs × (between ++ new ≡ us ++ zs)
    line_now between new x c =
        let o = queue_now f.replies m w role x.line x.there in
        let p = carry_part roles w (leaves f.replies e) o.0.held (between ++ new) (subst (λ i. Carry roles w i (between ++ new)) o.2 (carry_join roles w x.line.held (enters f.replies e) between new x.holds c)) in
        (p.0, p.1, p.2, record { line = o.0; there = o.1; holds = carry_more roles more turn.grows w o.0.held p.1 p.3 }, p.4)

    pub piped_now : roles f.jobs ≡ Some (hidden m (jobs w)) → (c : CollectPorts) (lf lc : Place) (tf tc : ℕ) → c.replies ≡ f.replies → Piped program roles w f c lf lc tf tc journal s → Piped program more w f c lf lc tf tc (journal ++ e ∷ []) s2
    piped_now has c lf lc tf tc cq p =
        let a = fed_now has lf tf p.queued p.fed in
        let l = line_now p.between a.0 p.line a.1 in
        record {
          queued = p.queued ++ a.0;
          opened = p.opened ++ l.0;
          between = l.1;
          fed = a.2;
          collected = collected_now c lc tc cq p.opened l.0 p.collected l.2;
          line = l.3;
          split = ap (λ i. i ++ a.0) p.split ∙ append_assoc p.opened p.between a.0 ∙ ap (λ i. p.opened ++ i) l.4 ∙ sym (append_assoc p.opened l.0 l.1);
        }

    pub feeding_now : roles f.jobs ≡ Some (hidden m (jobs w)) → (place : Place) (t : ℕ) → NoCollect s f.replies → Feeding roles w f place t journal s → Feeding more w f place t (journal ++ e ∷ []) s2
    feeding_now has place t none p =
        let a = fed_now has place t p.queued p.fed in
        let l = line_now p.queued a.0 p.line a.1 in
        let nothing : l.0 ≡ [] = subst (λ i. Carry roles w i l.0) (none_leaves f.replies m w role none) l.2 in
        record { queued = p.queued ++ a.0; fed = a.2; line = subst (Lined more w f.replies s2) (sym (l.4 ∙ ap (λ i. i ++ l.1) nothing)) l.3 }
