-- What stands after each call of a bank or a shard.
use Rattle.std.proofs.Common.{◌≡◌, ℕ, zero, suc, ◌%◌, List, [], ◌∷◌, ◌++◌, refl, sym, ap, ◌∙◌, subst, Bool, true, false, cond, Option, Some, None, option_map, eqb, eqb-true, eq-eqb, ne_eqb, append-nil, append_assoc, take, drop}
use Rattle.std.specs.Prelude.{slice_get, is_some, not, ◌&&◌}
use Rattle.std.specs.Map.{update}
use Rattle.std.proofs.lemmas.Bool.{eqb-false}
use mathlib.Core.Logic.{dite}
use native.Mathlib.Decide.{ℕ_discrete}
use Rattle.ca_value.specs.Tree.{Tree, Trees}
use Rattle.ca_term.specs.declared.fault.Fault.{Fault}
use Rattle.ca_term.specs.declared.head.RegisterName.{RegisterName}
use Rattle.ca_term.specs.declared.event.Side.TheVariants.{Take, Put}
use Rattle.ca_term.specs.Event.{BranchView, take_of, put_of}
use Rattle.ca_meaning.specs.Channel.{Channel, channel_made, shut, keeping, giving}
use Rattle.ca_meaning.specs.Registry.{Registry, Registered, answers, refuses}
use Rattle.ca_meaning.specs.Registry as meaning
use Rattle.ca_meaning.specs.Wait.{Wait, Handler, brought, handlers, without}
use Rattle.ca_bank.specs.Kept.{Kept, entry_changed, on, enqueued, pruned, queue_at}
use Rattle.ca_bank.specs.Room.{channel_with}
use Rattle.ca_registry.specs.Registries.{left_by}
use Rattle.ca_registry.specs.Registry.{comes_to, registry_after}
use Rattle.ca_bank.specs.Bank.{with_made, kept_made, new_registry}
use Rattle.ca_bank.specs.Holds.{KeepsChannels, channel_of, with_channel, join_all, and_wait, but_wait}
use Rattle.ca_bank.specs.Standing.{together, ChangesEntry, Registries, BanksStand, enqueue_from, SameStands, PortMade, ChannelClosed, ValueAdded, ValueRemoved, StalePruned, WaitLeaves, WaitJoins, RegistryChanged, RegistryKept, QueuesJoined}
use Rattle.ca_bank.specs.declared.bank.Made.{Made}
use Rattle.ca_bank.specs.declared.bank.Made.TheVariants as M
use Rattle.ca_bank.proofs.Holding as holding

abbrev Ports : Type 0
Ports = ℕ → Option Kept

abbrev Chans : Type 0
Chans = ℕ → Option Channel

-- maps that agree everywhere are equal
same_map : {X Y : Type 0} (f g : X → Y) → ((x : X) → f x ≡ g x) → f ≡ g
same_map f g e = λ i x. e x i

pub one_of_many : {X : Type 0} (count n : ℕ) (x : Option X) (old new : ℕ → ℕ → Option X) → ChangesEntry count n x old new → (q : ℕ) → together count new q ≡ update eqb (together count old) n x q
one_of_many {X} count n x old new a q = dite (ℕ_discrete (q % count) (n % count))
    (λ e. ap (λ (i : ℕ). new i q) e ∙ a.here q ∙ ap (λ (i : ℕ). cond (eqb n q) x (old i q)) (sym e))
    (λ ne. a.others (q % count) ne q ∙ sym (ap (λ c. cond c x (together count old q)) (ne_eqb n q (λ e. ne (ap (λ (i : ℕ). i % count) (sym e))))))

pub same_stands : SameStands
same_stands ports ports2 members members2 live live2 channels registries waits used s p m l = record {
  holds = subst (λ (f : Ports). KeepsChannels f live2 channels waits used) (sym (same_map ports2 ports p)) (subst (λ (f : ℕ → Bool). KeepsChannels ports f channels waits used) (sym (same_map live2 live l)) s.holds);
  registered = λ q. s.registered q ∙ sym (m q);
}

-- an entry that is there, and one that isn't
at_some : {X : Type 0} (m : ℕ → Option X) (p : ℕ) (f : X → X) (x : X) → m p ≡ Some x → entry_changed m p f ≡ update eqb m p (Some (f x))
at_some m p f x e = ap (λ o. update eqb m p (option_map f o)) e

none_put : {X : Type 0} (f : ℕ → Option X) (p : ℕ) → f p ≡ None → update eqb f p None ≡ f
none_put {X} f p e = same_map (update eqb f p None) f (λ q. by (eqb p q) q refl) where
  by : (b : Bool) (q : ℕ) → eqb p q ≡ b → cond b None (f q) ≡ f q
  by true q is = sym e ∙ ap f (eqb-true p q is)
  by false q is = refl

at_none : {X : Type 0} (m : ℕ → Option X) (p : ℕ) (f : X → X) → m p ≡ None → entry_changed m p f ≡ m
at_none m p f e = ap (λ o. update eqb m p (option_map f o)) e ∙ none_put m p e

-- the channel changes, if it is there
changed : (ports : Ports) (live : ℕ → Bool) (channels : Chans) (waits : List Wait) (used : List ℕ) (p : ℕ) (g : Channel → Channel) → KeepsChannels ports live channels waits used
    → KeepsChannels (entry_changed ports p (λ k. with_channel (g k.channel) k)) live (entry_changed channels p g) waits used
changed ports live channels waits used p g h = by (ports p) refl where
  f : Kept → Kept
  f k = with_channel (g k.channel) k

  by : (o : Option Kept) → ports p ≡ o → KeepsChannels (entry_changed ports p (λ k. with_channel (g k.channel) k)) live (entry_changed channels p g) waits used
  by None e = subst (λ (x : Ports). KeepsChannels x live (entry_changed channels p g) waits used) (sym (at_none ports p (λ k. with_channel (g k.channel) k) e))
      (subst (λ (x : Chans). KeepsChannels ports live x waits used) (sym (at_none channels p g (h.channels_are p ∙ ap channel_of e))) h)
  by (Some k) e = subst (λ (x : Ports). KeepsChannels x live (entry_changed channels p g) waits used) (sym (at_some ports p (λ k. with_channel (g k.channel) k) k e))
      (subst (λ (x : Chans). KeepsChannels (update eqb ports p (Some (with_channel (g k.channel) k))) live x waits used) (sym (at_some channels p g k.channel (h.channels_are p ∙ ap channel_of e))) (holding.changed ports live channels waits used p k (g k.channel) h e))

called : (ports ports2 : Ports) (members : Registries) (live : ℕ → Bool) (channels : Chans) (registries : Registries) (waits : List Wait) (used : List ℕ) (p : ℕ) (g : Channel → Channel)
    → BanksStand ports members live channels registries waits used → ((q : ℕ) → ports2 q ≡ entry_changed ports p (λ k. with_channel (g k.channel) k) q)
    → BanksStand ports2 members live (entry_changed channels p g) registries waits used
called ports ports2 members live channels registries waits used p g s e = record {
  holds = subst (λ (x : Ports). KeepsChannels x live (entry_changed channels p g) waits used) (sym (same_map ports2 (entry_changed ports p (λ k. with_channel (g k.channel) k)) e)) (changed ports live channels waits used p g s.holds);
  registered = s.registered;
}

pub channel_closed : ChannelClosed
channel_closed ports ports2 members live channels registries waits used p s e = called ports ports2 members live channels registries waits used p shut s e

pub value_added : ValueAdded
value_added ports ports2 members live channels registries waits used p v s e = called ports ports2 members live channels registries waits used p (λ c. keeping c v) s e

pub value_removed : ValueRemoved
value_removed ports ports2 members live channels registries waits used p s e = called ports ports2 members live channels registries waits used p giving s e

-- the item at a place with what stands on both sides of it
parted : {X : Type 0} (xs : List X) (i : ℕ) (x : X) → slice_get xs i ≡ Some x → xs ≡ take i xs ++ x ∷ drop (suc i) xs
parted [] i x e = absurd (let k : None ≡ Some x = e in cc)
parted (y ∷ xs) zero x e = let k : y ≡ x = cc in ap (λ z. z ∷ xs) k
parted (y ∷ xs) (suc i) x e = ap (λ zs. y ∷ zs) (parted xs i x e)

pub stale_pruned : StalePruned
stale_pruned ports ports2 members live channels registries waits used p side place h s is dead e = record {
  holds = subst (λ (x : Ports). KeepsChannels x live channels waits used) (sym (same_map ports2 (entry_changed ports p (pruned side place)) e)) (by (ports p) refl is);
  registered = s.registered;
} where
  by : (o : Option Kept) → ports p ≡ o → slice_get (queue_at side o) place ≡ Some h → KeepsChannels (entry_changed ports p (pruned side place)) live channels waits used
  by None at is = absurd (let k : None ≡ Some h = is in cc)
  by (Some k) at is = subst (λ (x : Ports). KeepsChannels x live channels waits used) (sym (at_some ports p (pruned side place) k at))
      (holding.pruned_at ports live channels waits used p k side (take place (on side k)) h (drop (suc place) (on side k)) s.holds at (parted (on side k) place h is) dead)

pub wait_leaves : WaitLeaves
wait_leaves ports members live live2 channels registries waits used w s e = record {
  holds = subst (λ (f : ℕ → Bool). KeepsChannels ports f channels (without w waits) used) (sym (same_map live2 (but_wait live w) e)) (holding.taken_out ports live channels waits used w s.holds);
  registered = s.registered;
}

-- a queue with handlers that joined from branch k on
abbrev joined_from : ℕ → ℕ → List BranchView → ℕ → Kept → Kept
joined_from w k bs p x = record { channel = x.channel; takes = x.takes ++ handlers Take p w k bs; puts = x.puts ++ handlers Put p w k bs }

one_by_one : (w k : ℕ) (bs : List BranchView) (ports : Ports) (q : ℕ) → enqueue_from w k bs ports q ≡ option_map (joined_from w k bs q) (ports q)
one_by_one w k [] ports q = by (ports q) where
  by : (o : Option Kept) → o ≡ option_map (joined_from w k [] q) o
  by None = refl
  by (Some x) = ap (λ (ts : List Handler). Some (record { channel = x.channel; takes = ts; puts = x.puts })) (sym (append-nil x.takes))
      ∙ ap (λ (ps : List Handler). Some (record { channel = x.channel; takes = x.takes ++ []; puts = ps })) (sym (append-nil x.puts))
one_by_one w k (take_of p ∷ bs) ports q = one_by_one w (suc k) bs (entry_changed ports p (enqueued Take h)) q ∙ by (eqb p q) refl where
  h : Handler
  h = record { wait = w; branch = k; value = brought (take_of p) }

  more : (o : Option Kept) (c : Bool) → c ≡ true → option_map (joined_from w (suc k) bs q) (option_map (enqueued Take h) o) ≡ option_map (λ (x : Kept). record { channel = x.channel; takes = x.takes ++ cond c (h ∷ handlers Take q w (suc k) bs) (handlers Take q w (suc k) bs); puts = x.puts ++ handlers Put q w (suc k) bs }) o
  more None c e = refl
  more (Some x) c e = ap (λ (ts : List Handler). Some (record { channel = x.channel; takes = ts; puts = x.puts ++ handlers Put q w (suc k) bs })) (append_assoc x.takes (h ∷ []) (handlers Take q w (suc k) bs) ∙ ap (λ (c : Bool). x.takes ++ cond c (h ∷ handlers Take q w (suc k) bs) (handlers Take q w (suc k) bs)) (sym e))

  same : (o : Option Kept) (c : Bool) → c ≡ false → option_map (joined_from w (suc k) bs q) o ≡ option_map (λ (x : Kept). record { channel = x.channel; takes = x.takes ++ cond c (h ∷ handlers Take q w (suc k) bs) (handlers Take q w (suc k) bs); puts = x.puts ++ handlers Put q w (suc k) bs }) o
  same o c e = ap (λ (c : Bool). option_map (λ (x : Kept). record { channel = x.channel; takes = x.takes ++ cond c (h ∷ handlers Take q w (suc k) bs) (handlers Take q w (suc k) bs); puts = x.puts ++ handlers Put q w (suc k) bs }) o) (sym e)

  by : (b : Bool) → eqb p q ≡ b → option_map (joined_from w (suc k) bs q) (cond b (option_map (enqueued Take h) (ports p)) (ports q)) ≡ option_map (joined_from w k (take_of p ∷ bs) q) (ports q)
  by true e = more (ports p) (eqb q p) (eq-eqb q p (sym (eqb-true p q e))) ∙ ap (λ (n : ℕ). option_map (joined_from w k (take_of p ∷ bs) q) (ports n)) (eqb-true p q e)
  by false e = same (ports q) (eqb q p) (ne_eqb q p (λ z. eqb-false p q e (sym z)))
one_by_one w k (put_of p v ∷ bs) ports q = one_by_one w (suc k) bs (entry_changed ports p (enqueued Put h)) q ∙ by (eqb p q) refl where
  h : Handler
  h = record { wait = w; branch = k; value = brought (put_of p v) }

  more : (o : Option Kept) (c : Bool) → c ≡ true → option_map (joined_from w (suc k) bs q) (option_map (enqueued Put h) o) ≡ option_map (λ (x : Kept). record { channel = x.channel; takes = x.takes ++ handlers Take q w (suc k) bs; puts = x.puts ++ cond c (h ∷ handlers Put q w (suc k) bs) (handlers Put q w (suc k) bs) }) o
  more None c e = refl
  more (Some x) c e = ap (λ (ps : List Handler). Some (record { channel = x.channel; takes = x.takes ++ handlers Take q w (suc k) bs; puts = ps })) (append_assoc x.puts (h ∷ []) (handlers Put q w (suc k) bs) ∙ ap (λ (c : Bool). x.puts ++ cond c (h ∷ handlers Put q w (suc k) bs) (handlers Put q w (suc k) bs)) (sym e))

  same : (o : Option Kept) (c : Bool) → c ≡ false → option_map (joined_from w (suc k) bs q) o ≡ option_map (λ (x : Kept). record { channel = x.channel; takes = x.takes ++ handlers Take q w (suc k) bs; puts = x.puts ++ cond c (h ∷ handlers Put q w (suc k) bs) (handlers Put q w (suc k) bs) }) o
  same o c e = ap (λ (c : Bool). option_map (λ (x : Kept). record { channel = x.channel; takes = x.takes ++ handlers Take q w (suc k) bs; puts = x.puts ++ cond c (h ∷ handlers Put q w (suc k) bs) (handlers Put q w (suc k) bs) }) o) (sym e)

  by : (b : Bool) → eqb p q ≡ b → option_map (joined_from w (suc k) bs q) (cond b (option_map (enqueued Put h) (ports p)) (ports q)) ≡ option_map (joined_from w k (put_of p v ∷ bs) q) (ports q)
  by true e = more (ports p) (eqb q p) (eq-eqb q p (sym (eqb-true p q e))) ∙ ap (λ (n : ℕ). option_map (joined_from w k (put_of p v ∷ bs) q) (ports n)) (eqb-true p q e)
  by false e = same (ports q) (eqb q p) (ne_eqb q p (λ z. eqb-false p q e (sym z)))

pub queues_joined : QueuesJoined
queues_joined w bs ports q = one_by_one w 0 bs ports q

pub wait_joins : WaitJoins
wait_joins ports ports2 members live live2 channels registries waits used x s fresh there p l = record {
  holds = subst (λ (f : Ports). KeepsChannels f live2 channels (waits ++ x ∷ []) (x.number ∷ used)) (sym (same_map ports2 (join_all x.number x.branches ports) (λ q. p q ∙ queues_joined x.number x.branches ports q)))
      (subst (λ (f : ℕ → Bool). KeepsChannels (join_all x.number x.branches ports) f channels (waits ++ x ∷ []) (x.number ∷ used)) (sym (same_map live2 (and_wait live x.number) l)) (holding.parked ports live channels waits used x s.holds fresh there));
  registered = s.registered;
}

-- nothing is made at p, or this is
put_made : {X : Type 0} (m : ℕ → Option X) (p : ℕ) (o : Option X) → m p ≡ None → (q : ℕ) → with_made p o m q ≡ update eqb m p o q
put_made m p None e q = ap (λ f. f q) (sym (none_put m p e))
put_made m p (Some x) e q = refl

holds_made : (ports : Ports) (live : ℕ → Bool) (channels : Chans) (waits : List Wait) (used : List ℕ) (p : ℕ) (made : Made) → KeepsChannels ports live channels waits used → ports p ≡ None
    → KeepsChannels (update eqb ports p (kept_made made)) live (update eqb channels p (channel_of (kept_made made))) waits used
holds_made ports live channels waits used p (M.Channel buffer) h e = holding.made ports live channels waits used p (channel_with buffer false) h e
holds_made ports live channels waits used p (M.Mult source) h e = subst (λ (x : Ports). KeepsChannels x live (update eqb channels p None) waits used) (sym (none_put ports p e)) (subst (λ (x : Chans). KeepsChannels ports live x waits used) (sym (none_put channels p (h.channels_are p ∙ ap channel_of e))) h)
holds_made ports live channels waits used p (M.Mix out changes) h e = subst (λ (x : Ports). KeepsChannels x live (update eqb channels p None) waits used) (sym (none_put ports p e)) (subst (λ (x : Chans). KeepsChannels ports live x waits used) (sym (none_put channels p (h.channels_are p ∙ ap channel_of e))) h)
holds_made ports live channels waits used p (M.Pub source) h e = subst (λ (x : Ports). KeepsChannels x live (update eqb channels p None) waits used) (sym (none_put ports p e)) (subst (λ (x : Chans). KeepsChannels ports live x waits used) (sym (none_put channels p (h.channels_are p ∙ ap channel_of e))) h)

pub port_made : PortMade
port_made ports ports2 members members2 live channels registries waits used p what made s no_port no_registry c r pe me = record {
  holds = subst (λ (x : Ports). KeepsChannels x live (update eqb channels p (channel_made what)) waits used) (sym (same_map ports2 (update eqb ports p (kept_made made)) (λ q. pe q ∙ put_made ports p (kept_made made) no_port q)))
      (subst (λ (o : Option Channel). KeepsChannels (update eqb ports p (kept_made made)) live (update eqb channels p o) waits used) c (holds_made ports live channels waits used p made s.holds no_port));
  registered = λ q. by (meaning.registry_made what) (eqb p q) q (s.registered q) ∙ sym (me q ∙ put_made members p (new_registry made) no_registry q ∙ ap (λ (o : Option Registry). cond (eqb p q) o (members q)) r);
} where
  by : (x : Option Registry) (b : Bool) (q : ℕ) → registries q ≡ members q → cond b x (registries q) ≡ cond b x (members q)
  by x true q e = refl
  by x false q e = e

registered_at : (o : Option Registry) (name : RegisterName) (args : Trees) (v : Tree) (r : Registry) → comes_to o name args ≡ answers v r → option_map (registry_after name args) o ≡ Some r
registered_at None name args v r e = absurd (let k : refuses _ ≡ answers v r = e in cc)
registered_at (Some x) name args v r e = ap (λ (z : Registered). Some (left_by z x)) e

kept_at_fault : (o : Option Registry) (name : RegisterName) (args : Trees) (f : Fault) → comes_to o name args ≡ refuses f → option_map (registry_after name args) o ≡ o
kept_at_fault None name args f e = refl
kept_at_fault (Some x) name args f e = ap (λ (z : Registered). Some (left_by z x)) e

pub registry_changed : RegistryChanged
registry_changed ports members members2 live channels registries waits used p name args v r s is e = record {
  holds = s.holds;
  registered = λ q. by (eqb p q) q (s.registered q) ∙ sym (e q ∙ ap (λ (o : Option Registry). cond (eqb p q) o (members q)) (registered_at (members p) name args v r is));
} where
  by : (b : Bool) (q : ℕ) → registries q ≡ members q → cond b (Some r) (registries q) ≡ cond b (Some r) (members q)
  by true q e = refl
  by false q e = e

pub registry_kept : RegistryKept
registry_kept ports members members2 live channels registries waits used p name args f s is e = record {
  holds = s.holds;
  registered = λ q. s.registered q ∙ sym (e q ∙ ap (λ (o : Option Registry). cond (eqb p q) o (members q)) (kept_at_fault (members p) name args f is) ∙ by (eqb p q) q refl);
} where
  by : (b : Bool) (q : ℕ) → eqb p q ≡ b → cond b (members p) (members q) ≡ members q
  by true q is = ap members (eqb-true p q is)
  by false q is = refl

pub wait_taken : {A : Type 0} (old new : ℕ → Option A) (w : ℕ) → ((q : ℕ) → new q ≡ update eqb old w None q) → (v : ℕ) → is_some (new v) ≡ but_wait (λ u. is_some (old u)) w v
wait_taken old new w e v = ap is_some (e v) ∙ by (eqb w v) (old v) where
  by : {A : Type 0} (b : Bool) (o : Option A) → is_some (cond b None o) ≡ is_some o && not b
  by true None = refl
  by true (Some x) = refl
  by false None = refl
  by false (Some x) = refl

pub wait_put : {A : Type 0} (old new : ℕ → Option A) (w : ℕ) (x : A) → ((q : ℕ) → new q ≡ update eqb old w (Some x) q) → (v : ℕ) → is_some (new v) ≡ and_wait (λ u. is_some (old u)) w v
wait_put old new w x e v = ap is_some (e v) ∙ by (eqb w v) refl where
  by : (b : Bool) → eqb w v ≡ b → is_some (cond b (Some x) (old v)) ≡ cond (eqb v w) true (is_some (old v))
  by true is = sym (ap (λ c. cond c true (is_some (old v))) (eq-eqb v w (sym (eqb-true w v is))))
  by false is = sym (ap (λ c. cond c true (is_some (old v))) (ne_eqb v w (λ z. eqb-false w v is (sym z))))
