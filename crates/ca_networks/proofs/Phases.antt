-- A pipeline from the Spawn of the first of its feed and its collect on.
use Rattle.std.proofs.Common.{◌≡◌, ℕ, List, [], ◌∷◌, ◌++◌, refl, sym, ap, ◌∙◌, subst, Some, None}
use Rattle.ca_term.specs.declared.place.Place.{Place}
use Rattle.ca_term.specs.Program.{ProgramView}
use Rattle.ca_term.specs.Event.{EventView}
use Rattle.ca_meaning.specs.Applied.{Work}
use Rattle.ca_meaning.specs.PipelineTable.{FeedPorts, feed_next, CollectPorts, collect_next}
use Rattle.ca_meaning.specs.State.{State}
use Rattle.ca_meaning.specs.Steps.{Step, Steps}
use Rattle.ca_laws.proofs.Deeding.{Traced}
use Rattle.ca_roles.specs.Roles.{jobs, replies, hidden, Roles, Grows}
use Rattle.ca_networks.proofs.Guarded.{Guard, Turn}
use Rattle.ca_networks.proofs.Walking.{Keeps}
use Rattle.ca_networks.proofs.Passing.{enters, leaves}
use Rattle.ca_networks.proofs.Standing.{Standing, moved}
use Rattle.ca_networks.proofs.Spawning.{stays_standing}
use Rattle.ca_networks.proofs.Tables.{feed_body, feed_op, feed_table, collect_body, collect_op, collect_table}
use Rattle.ca_networks.proofs.Carried.{Carry}
use Rattle.ca_networks.proofs.Collected.{Collected}
use Rattle.ca_networks.proofs.Piping.{NoFeed, NoCollect, HasRoles, Piped, Feeding, none_enters, queue_now, collected_now, piped_now, feeding_now}
use Rattle.ca_networks.proofs.Empty.{AllEmpty, empty_keeps, no_more}

-- before the Spawn of a feed no feed is there for its queue
pub no_feed : (program : ProgramView) (f : FeedPorts) (place : Place) (t : ℕ) (last_journal : List EventView) (last s2 : State) (e : EventView) (roles : Roles) → Traced last_journal last → Step program last e s2 → Guard program roles s2 → Standing (feed_body f place) t s2 → last.tasks t ≡ None
    → (es journal : List EventView) (s : State) → Traced journal s → Steps program s es last → NoFeed s f.replies
no_feed program f place t last_journal last s2 e roles last_traced k g y absent es journal s traced steps u h l x hf =
    let x3 = stays_standing program (feed_body h l) (feed_op h l) feed_next (feed_table h l program) u es journal s last traced steps x in
    let x4 = (moved program (feed_body h l) (feed_op h l) feed_next (feed_table h l program) last_journal last s2 e last_traced k u x3).0 in
    let ut : u ≡ t = g.one_feed u t x4.task y.task h f l place x4.now y.now x4.there y.there x4.body_is y.body_is hf in
    let j : None ≡ Some x3.task = sym absent ∙ ap last.tasks (sym ut) ∙ x3.there in
    cc

pub no_collect : (program : ProgramView) (c : CollectPorts) (place : Place) (t : ℕ) (last_journal : List EventView) (last s2 : State) (e : EventView) (roles : Roles) → Traced last_journal last → Step program last e s2 → Guard program roles s2 → Standing (collect_body c place) t s2 → last.tasks t ≡ None
    → (es journal : List EventView) (s : State) → Traced journal s → Steps program s es last → NoCollect s c.replies
no_collect program c place t last_journal last s2 e roles last_traced k g y absent es journal s traced steps u h l x hc =
    let x3 = stays_standing program (collect_body h l) (collect_op h l) (collect_next h) (collect_table h l program) u es journal s last traced steps x in
    let x4 = (moved program (collect_body h l) (collect_op h l) (collect_next h) (collect_table h l program) last_journal last s2 e last_traced k u x3).0 in
    let ut : u ≡ t = g.one_collect u t x4.task y.task h c l place x4.now y.now x4.there y.there x4.body_is y.body_is hc in
    let j : None ≡ Some x3.task = sym absent ∙ ap last.tasks (sym ut) ∙ x3.there in
    cc

module _ (program : ProgramView) (f : FeedPorts) (c : CollectPorts) (lf lc : Place) (tf tc : ℕ) (cq : c.replies ≡ f.replies) (m : ℕ) (w : Work) where
  pub has_more : (roles more : Roles) → Grows roles more → HasRoles roles m w f → HasRoles more m w f
  has_more roles more g h = (g f.jobs (hidden m (jobs w)) h.0, g f.replies (hidden m (replies w)) h.1)

  -- the feed is there
  abbrev pub WithFeed : List EventView → Roles → State → Type 0
  WithFeed journal roles s = HasRoles roles m w f × Feeding roles w f lf tf journal s

  pub feeding_keeps : (last : State) → ((es journal : List EventView) (s : State) → Traced journal s → Steps program s es last → NoCollect s f.replies) → Keeps program last WithFeed
  feeding_keeps last none journal rest roles more s mid e traced g k turn g2 steps p =
      (has_more roles more turn.grows p.0, feeding_now program roles more journal s mid e traced g turn k m w f p.0.1 p.0.0 lf tf (none (e ∷ rest) journal s traced (mid, k, steps)) p.1)

  -- the collect is there
  abbrev pub WithCollect : List EventView → Roles → State → Type 0
  WithCollect journal roles s = (roles f.replies ≡ Some (hidden m (replies w))) × AllEmpty roles s × Collected program roles w c lc tc journal s []

  -- before the feed is there, nothing leaves the queue
  pub collecting_now : (journal : List EventView) (roles more : Roles) (s mid : State) (e : EventView) → Traced journal s → Guard program roles s → Step program s e mid → Turn program roles more s e → NoFeed s f.replies → WithCollect journal roles s → Collected program more w c lc tc (journal ++ e ∷ []) mid []
  collecting_now journal roles more s mid e traced g k turn no_one p = collected_now program roles more journal s mid e traced g turn k m w f p.0 c lc tc cq [] [] p.2 (subst (λ i. Carry roles w i []) (sym nothing) refl) where
    nothing : leaves f.replies e ≡ []
    nothing =
        let h = g.typed.hidden_channels f.replies m (replies w) p.0 in
        let o = queue_now program roles more journal s mid e traced g turn k f.replies m w p.0 h.0 h.1 in
        let held = p.1 f.replies m w p.0 no_one h.0 h.1 in
        let enters_none = none_enters program roles more journal s mid e traced g turn k f.replies m w p.0 no_one in
        (no_more (leaves f.replies e) o.0.held (sym (ap (λ i. i ++ enters f.replies e) held ∙ enters_none) ∙ o.2)).0

  pub collecting_keeps : (last : State) → ((es journal : List EventView) (s : State) → Traced journal s → Steps program s es last → NoFeed s f.replies) → Keeps program last WithCollect
  collecting_keeps last none journal rest roles more s mid e traced g k turn g2 steps p =
      (turn.grows f.replies (hidden m (replies w)) p.0, empty_keeps program last journal rest roles more s mid e traced g k turn g2 steps p.1, collecting_now journal roles more s mid e traced g k turn (none (e ∷ rest) journal s traced (mid, k, steps)) p)

  -- both are there
  abbrev pub WithBoth : List EventView → Roles → State → Type 0
  WithBoth journal roles s = HasRoles roles m w f × Piped program roles w f c lf lc tf tc journal s

  pub piped_keeps : (last : State) → Keeps program last WithBoth
  piped_keeps last journal rest roles more s mid e traced g k turn g2 steps p = (has_more roles more turn.grows p.0, piped_now program roles more journal s mid e traced g turn k m w f p.0.1 p.0.0 c lf lc tf tc cq p.1)
