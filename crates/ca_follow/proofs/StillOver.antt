-- Whoever can go on or waits is over the code after an event too, and whoever waits has halted.
use Rattle.std.proofs.Common.{◌≡◌, ⊎_elim, ℕ, List, [], ◌∷◌, refl, sym, ap, ◌∙◌, subst, Bool, true, false, cond, Option, Some, None, eqb}
use Rattle.std.specs.Map.{update}
use Rattle.ca_value.specs.Tree.{Tree}
use Rattle.ca_term.specs.Operation.{SeedView}
use Rattle.ca_term.specs.Program.{ProgramView}
use Rattle.ca_meaning.specs.Body.{At}
use Rattle.ca_meaning.specs.BodyViews.{is_at_op}
use Rattle.ca_meaning.specs.ChannelSteps.{other_side}
use Rattle.ca_meaning.specs.Sound.{Each}
use Rattle.ca_meaning.specs.Wait.{port_of, side_of, told}
use Rattle.ca_commit.specs.Agents.{TaskAgent}
use Rattle.ca_commit.specs.Applying.{BankChannels, answer_by, counts_alts}
use Rattle.ca_commit.specs.Contents.{Parked, at_key, home, nobody, owner, whole}
use Rattle.ca_commit.specs.Listing.{changed_at}
use Rattle.ca_commit.specs.Parking.{waiting_as}
use Rattle.ca_commit.specs.Planning.{Planned, to_close, to_default, to_do, to_look, to_make, to_meet, to_park, to_post, to_print, to_prune, to_refuse, to_register, to_spawn}
use Rattle.ca_commit.specs.Replies.{GoesOn}
use Rattle.ca_commit.specs.Waking.{IsPaused, WakesBy, passing}
use Rattle.ca_commit.proofs.Seats.{some_same}
use Rattle.ca_follow.specs.Applies.{GoesTo, with_all, with_own}
use Rattle.ca_follow.specs.Has.{Has}
use Rattle.ca_follow.proofs.AllHeld.{entry_from, waits_keep}
use Rattle.ca_follow.proofs.GoneOn.{GoneOn, Woken, agent_in}

module _ {X : Type 0} (P : X → Type 0) where
  updated : (f : ℕ → Option X) (t : ℕ) (x : X) → P x → ((v : ℕ) (a : X) → f v ≡ Some a → P a) → (v : ℕ) (a : X) → update eqb f t (Some x) v ≡ Some a → P a
  updated f t x px h v a e = by (eqb t v) e where
    by : (b : Bool) → cond b (Some x) (f v) ≡ Some a → P a
    by true e = subst P (some_same x a e) px
    by false e = h v a e

  pub all_are : (xs : List (ℕ × X)) (f : ℕ → Option X) → Each (λ (x : ℕ × X). P x.1) xs → ((v : ℕ) (a : X) → f v ≡ Some a → P a) → (v : ℕ) (a : X) → with_all xs f v ≡ Some a → P a
  all_are [] f ps h v a e = h v a e
  all_are (x ∷ xs) f ps h v a e = all_are xs (update eqb f x.0 (Some x.1)) ps.1 (updated f x.0 x.1 ps.0 h) v a e

  own_is : (o : Option (ℕ × X)) (f : ℕ → Option X) → ((x : ℕ × X) → o ≡ Some x → P x.1) → ((v : ℕ) (a : X) → f v ≡ Some a → P a) → (v : ℕ) (a : X) → with_own o f v ≡ Some a → P a
  own_is None f p h v a e = h v a e
  own_is (Some x) f p h v a e = updated f x.0 x.1 (p x refl) h v a e

module _ {A : Type 0} (place : A → At) (gives : A → Tree → A → Type 0) (starts : ProgramView → SeedView → A → Type 0) (over : A → Type 0) (stays : (a c : A) (v : Tree) → gives a v c → over a → over c) where
  -- whoever waits is over the code, and has halted
  abbrev pub OwnerOver : Parked (TaskAgent A) → Type 0
  OwnerOver (owner u a) = over a.agent × (is_at_op (place a.agent) ≡ true)
  OwnerOver nobody = Unit {0}

  abbrev pub OwnersOver : (ℕ → Option (ℕ → Option (Parked (TaskAgent A)))) → Type 0
  OwnersOver m = (k : ℕ) (y : Parked (TaskAgent A)) → whole m k ≡ Some y → OwnerOver y

  pub owners_over : (m : ℕ → Option (ℕ → Option (Parked (TaskAgent A)))) → ((w u : ℕ) (a : TaskAgent A) → whole m w ≡ Some (owner u a) → over a.agent) → ((w : ℕ) → IsPaused place (whole m w)) → OwnersOver m
  owners_over m w p k (owner u a) e = (w k u a e, subst (λ (o : Option (Parked (TaskAgent A))). IsPaused place o) e (p k))
  owners_over m w p k nobody e = tt

  pub paused_by : (m : ℕ → Option (ℕ → Option (Parked (TaskAgent A)))) → OwnersOver m → (w : ℕ) → IsPaused place (whole m w)
  paused_by m h w = by (whole m w) refl where
    by : (o : Option (Parked (TaskAgent A))) → whole m w ≡ o → IsPaused place o
    by None e = tt
    by (Some nobody) e = tt
    by (Some (owner u a)) e = (h w (owner u a) e).1

  -- a wait that is completed leaves the others
  pub owners_left : (w : ℕ) (m new : ℕ → Option (ℕ → Option (Parked (TaskAgent A)))) → ((i : ℕ) → new i ≡ changed_at w (λ z. None) m i) → OwnersOver m → OwnersOver new
  owners_left w m new is own k y e = ⊎_elim (own k y) (λ d. absurd (let z : None ≡ Some y = d in cc))
      (entry_from w (λ z. None) m k y (ap (λ (o : Option (ℕ → Option (Parked (TaskAgent A)))). at_key o k) (sym (is (home k))) ∙ e))

  gone_over : (o : Option (ℕ × TaskAgent A)) (alts : Bool) (a : TaskAgent A) (v : Tree) → over a.agent → (c : TaskAgent A) × (agent_in o ≡ Some c) × GoesOn gives alts a v c → (x : ℕ × TaskAgent A) → o ≡ Some x → over x.1.agent
  gone_over o alts a v ov g x e = subst (λ (c : TaskAgent A). over c.agent) (some_same g.0 x.1 (sym g.1 ∙ ap agent_in e)) (stays a.agent g.0.agent v g.2.2 ov)

  own_over : (q : Planned) (p : ℕ) (h : Has A) (a : TaskAgent A) (o : Option (ℕ × TaskAgent A)) → GoesTo place gives starts q p h a (agent_in o) → over a.agent → (x : ℕ × TaskAgent A) → o ≡ Some x → over x.1.agent
  own_over (to_park bs) p h a o g ov x e = absurd (let z : Some x.1 ≡ None = sym (ap agent_in e) ∙ g in cc)
  own_over (to_do k b alts) p h a o g ov x e = gone_over o (counts_alts (to_do k b alts)) a (answer_by h.bank h.registry p (to_do k b alts)) ov g x e
  own_over (to_meet k b alts v i) p h a o g ov x e = gone_over o (counts_alts (to_meet k b alts v i)) a (answer_by h.bank h.registry p (to_meet k b alts v i)) ov g x e
  own_over (to_post bs) p h a o g ov x e = gone_over o (counts_alts (to_post bs)) a (answer_by h.bank h.registry p (to_post bs)) ov g x e
  own_over (to_default v) p h a o g ov x e = gone_over o (counts_alts (to_default v)) a (answer_by h.bank h.registry p (to_default v)) ov g x e
  own_over (to_make what) p h a o g ov x e = gone_over o (counts_alts (to_make what)) a (answer_by h.bank h.registry p (to_make what)) ov g x e
  own_over (to_spawn kind y) p h a o g ov x e = gone_over o (counts_alts (to_spawn kind y)) a (answer_by h.bank h.registry p (to_spawn kind y)) ov g x e
  own_over (to_close z) p h a o g ov x e = gone_over o (counts_alts (to_close z)) a (answer_by h.bank h.registry p (to_close z)) ov g x e
  own_over (to_register name args) p h a o g ov x e = gone_over o (counts_alts (to_register name args)) a (answer_by h.bank h.registry p (to_register name args)) ov g x e
  own_over (to_print line) p h a o g ov x e = gone_over o (counts_alts (to_print line)) a (answer_by h.bank h.registry p (to_print line)) ov g x e
  own_over (to_look w) p h a o g ov x e = gone_over o (counts_alts (to_look w)) a (answer_by h.bank h.registry p (to_look w)) ov g x e
  own_over (to_prune z side i) p h a o g ov x e = gone_over o (counts_alts (to_prune z side i)) a (answer_by h.bank h.registry p (to_prune z side i)) ov g x e
  own_over (to_refuse f) p h a o g ov x e = gone_over o (counts_alts (to_refuse f)) a (answer_by h.bank h.registry p (to_refuse f)) ov g x e

  none_over : (l : List (ℕ × TaskAgent A)) → l ≡ [] → Each (λ (x : ℕ × TaskAgent A). over x.1.agent) l
  none_over l e = subst (λ (z : List (ℕ × TaskAgent A)). Each (λ (x : ℕ × TaskAgent A). over x.1.agent) z) (sym e) tt

  one_over : (l : List (ℕ × TaskAgent A)) (x : ℕ × TaskAgent A) → l ≡ x ∷ [] → over x.1.agent → Each (λ (x : ℕ × TaskAgent A). over x.1.agent) l
  one_over l x e o = subst (λ (z : List (ℕ × TaskAgent A)). Each (λ (x : ℕ × TaskAgent A). over x.1.agent) z) (sym e) (o, tt)

  pub woken_over : (o : Option (Parked (TaskAgent A))) (p : ℕ) (v : Tree) (l : List (ℕ × TaskAgent A)) → ((y : Parked (TaskAgent A)) → o ≡ Some y → OwnerOver y) → WakesBy place gives o p v (Some []) (Some l) → Each (λ (x : ℕ × TaskAgent A). over x.1.agent) l
  woken_over None p v l h w = none_over l (some_same l [] w)
  woken_over (Some nobody) p v l h w = none_over l (some_same l [] w)
  woken_over (Some (owner u a)) p v l h w = one_over l (u, w.0) (some_same l ((u, w.0) ∷ []) w.4) (stays a.agent w.0.agent _ w.3 (h (owner u a) refl).0)

  each_woken : (q : Planned) (cs : BankChannels) (sh : ℕ → Option (ℕ → Option (Parked (TaskAgent A)))) (s : Option (ℕ × TaskAgent A)) (l : List (ℕ × TaskAgent A)) → Woken place gives q cs sh s l → OwnersOver sh → ((x : ℕ × TaskAgent A) → s ≡ Some x → over x.1.agent)
      → Each (λ (x : ℕ × TaskAgent A). over x.1.agent) l
  each_woken (to_meet k b alts v o) cs sh s l w own new = woken_over (whole sh v) (port_of b) (told (other_side (side_of b)) (passing (whole cs (port_of b)) b)) l (λ y e. own v y e) w
  each_woken (to_spawn kind r) cs sh s l w own new = one_over l w.0 w.2 (new w.0 w.1)
  each_woken (to_do k b alts) cs sh s l w own new = none_over l w
  each_woken (to_park bs) cs sh s l w own new = none_over l w
  each_woken (to_post bs) cs sh s l w own new = none_over l w
  each_woken (to_default v) cs sh s l w own new = none_over l w
  each_woken (to_make what) cs sh s l w own new = none_over l w
  each_woken (to_close p) cs sh s l w own new = none_over l w
  each_woken (to_register name args) cs sh s l w own new = none_over l w
  each_woken (to_print line) cs sh s l w own new = none_over l w
  each_woken (to_look v) cs sh s l w own new = none_over l w
  each_woken (to_prune p side i) cs sh s l w own new = none_over l w
  each_woken (to_refuse f) cs sh s l w own new = none_over l w

  module _ (q : Planned) (t u p w m : ℕ) (a : TaskAgent A) (h h2 : Has A) (s : Option (ℕ × TaskAgent A)) (g : GoneOn place gives starts q t u p w m a h h2 s) where
    pub running_over : over a.agent → ((v : ℕ) (c : TaskAgent A) → h.running v ≡ Some c → over c.agent) → OwnersOver h.shard → ((x : ℕ × TaskAgent A) → s ≡ Some x → over x.1.agent)
        → (v : ℕ) (c : TaskAgent A) → h2.running v ≡ Some c → over c.agent
    running_over ov run own new v c e = all_are (λ (x : TaskAgent A). over x.agent) g.woken (with_own g.own h.running) (each_woken q h.bank h.shard s g.woken g.wakes own new)
        (own_is (λ (x : TaskAgent A). over x.agent) g.own h.running (own_over q p h a g.own g.runs ov) run) v c (sym (g.running v) ∙ e)

    pub still_owners : over a.agent → is_at_op (place a.agent) ≡ true → OwnersOver h.shard → OwnersOver h2.shard
    still_owners ov at own k y e = waits_keep w (owner t (waiting_as place a)) nobody OwnerOver (ov, at) tt q h.shard own k y
        (sym (ap (λ (o : Option (ℕ → Option (Parked (TaskAgent A)))). at_key o k) (g.shard (home k))) ∙ e)
