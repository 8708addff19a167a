-- What is kept of every channel and every queue by each of the seven changes.
use Rattle.std.proofs.Common.{◌≡◌, ⊎_elim, ℕ, zero, suc, List, [], ◌∷◌, ◌++◌, refl, sym, ap, ap₂, ◌∙◌, subst, Bool, true, false, cond, Option, Some, None, option_map, eqb, eqb-true, filter, slice_get}
use Rattle.std.specs.Map.{update}
use Rattle.ca_value.specs.Tree.{Tree}
use Rattle.ca_term.specs.declared.event.Side.{Side}
use Rattle.ca_term.specs.declared.event.Side.TheVariants.{Take, Put}
use Rattle.ca_term.specs.Operation.{WhatView, unbuffered, fixed, dropping, sliding, promise, timeout, mult, mix, publication}
use Rattle.ca_term.specs.Event.{BranchView, take_of, put_of}
use Rattle.ca_value.specs.Buffer.{Policy, is_full, no_buffer, promise_buffer, fixed_buffer, dropping_buffer, sliding_buffer}
use Rattle.ca_meaning.specs.Channel.{Channel, channel_made, shut, is_promise, new_channel, with_buffer}
use Rattle.ca_meaning.specs.Wait.{Wait, Handler, is_on, port_of, handlers, queue, head, front, without, is_live, is_among}
use Rattle.ca_meaning.specs.Row.{Row, not_ready, completes, meets, row_on, row_at}
use Rattle.ca_meaning.specs.State.{State, Channels, shut_at, shut_all}
use Rattle.ca_meaning.specs.Choice.{row, is_ready, any_ready}
use Rattle.ca_meaning.specs.Sound.{Each, ChannelFits, Idle, IsNotNil, ChannelsFit, AllIdle, NoneHeldIsNil}
use Rattle.ca_meaning.proofs.Waits.{each-append, each-filter, each-head, queue_without, queue_joined, other, no_head, head_filter, head_append, headless, from_branch, none_joins, on_port, takes_there, puts_there, live-append, live_else, not_live}
use Rattle.ca_meaning.proofs.Rows.{TakeDone, gave, nothing_left, take_done, PutDone, refused, promised, accepted, put_done, TakeWaits, take_waits, PutWaits, put_waits, Settled, moved_in, served, served_nil, settle_does, promise_has_room}
use Rattle.ca_meaning.proofs.Fits.{keeping_fits, giving_fits, fixed_has_room, keeping_not_nil, giving_not_nil, plain_fits, promise_fits, fixed_fits, dropping_fits, sliding_fits}
use Rattle.ca_meaning.proofs.Refusals.{GoodBranch, Brings}
use Rattle.ca_meaning.proofs.Effects.{Effect, still, done_there, met_there, joined, settled_there, made_there, shut_there}

-- every channel has the property
abbrev pub All : (ℕ → Channel → Type 0) → Channels → Type 0
All P f = (q : ℕ) (c : Channel) → f q ≡ Some c → P q c

pub one_more : (P : ℕ → Channel → Type 0) (f : Channels) (p : ℕ) (d : Channel) → All P f → P p d → All P (update eqb f p (Some d))
one_more P f p d all pd q c e = by (eqb p q) refl e where
  by : (b : Bool) → eqb p q ≡ b → cond b (Some d) (f q) ≡ Some c → P q c
  by true is e = subst (λ q. P q c) (eqb-true p q is) (subst (P p) (let k : d ≡ c = cc in k) pd)
  by false is e = all q c e

pub maybe_more : (P : ℕ → Channel → Type 0) (f : Channels) (p : ℕ) (o : Option Channel) → All P f → ((d : Channel) → o ≡ Some d → P p d) → All P (update eqb f p o)
maybe_more P f p o all pd q c e = by (eqb p q) refl e where
  by : (b : Bool) → eqb p q ≡ b → cond b o (f q) ≡ Some c → P q c
  by true is e = subst (λ q. P q c) (eqb-true p q is) (pd c e)
  by false is e = all q c e

shut_one : (P : ℕ → Channel → Type 0) (f : Channels) (p : ℕ) → ((q : ℕ) (c : Channel) → P q c → P q (shut c)) → All P f → All P (shut_at p f)
shut_one P f p keeps all = maybe_more P f p (option_map shut (f p)) all (λ d e. by (f p) refl d e) where
  by : (o : Option Channel) → f p ≡ o → (d : Channel) → option_map shut o ≡ Some d → P p d
  by None is d e = absurd (let k : None ≡ Some d = e in cc)
  by (Some c) is d e = subst (P p) (let k : shut c ≡ d = cc in k) (keeps p c (all p c is))

pub shut_each : (P : ℕ → Channel → Type 0) (ports : List ℕ) (f : Channels) → ((q : ℕ) (c : Channel) → P q c → P q (shut c)) → All P f → All P (shut_all ports f)
shut_each P [] f keeps all = all
shut_each P (p ∷ ps) f keeps all = shut_each P ps (shut_at p f) keeps (shut_one P f p keeps all)

not_shut_away : (f : Channels) (p q : ℕ) → shut_at p f q ≡ None → f q ≡ None
not_shut_away f p q e = by (eqb p q) refl (f p) refl e where
  by : (b : Bool) → eqb p q ≡ b → (o : Option Channel) → f p ≡ o → cond b (option_map shut o) (f q) ≡ None → f q ≡ None
  by true is None at e = ap f (sym (eqb-true p q is)) ∙ at
  by true is (Some c) at e = absurd (let k : Some (shut c) ≡ None = e in cc)
  by false is o at e = e

pub not_gone : (ports : List ℕ) (f : Channels) (q : ℕ) → shut_all ports f q ≡ None → f q ≡ None
not_gone [] f q e = e
not_gone (p ∷ ps) f q e = not_shut_away f p q (not_gone ps (shut_at p f) q e)

-- each branch of a list that isn't ready
pub none_is_ready : (s : State) (bs : List BranchView) → any_ready s bs ≡ false → (j : ℕ) (b : BranchView) → slice_get bs j ≡ Some b → row s b ≡ not_ready
none_is_ready s [] e j b at = absurd (let k : None ≡ Some b = at in cc)
none_is_ready s (o ∷ bs) e j b at = by (row s o) refl e (λ f k. none_is_ready s bs f k b) j at where
  by : (r : Row) → row s o ≡ r → cond (is_ready r) true (any_ready s bs) ≡ false → (any_ready s bs ≡ false → (k : ℕ) → slice_get bs k ≡ Some b → row s b ≡ not_ready) → (j : ℕ) → slice_get (o ∷ bs) j ≡ Some b → row s b ≡ not_ready
  by not_ready is e more zero at = ap (row s) (let k : b ≡ o = cc in k) ∙ is
  by not_ready is e more (suc j) at = more e j at
  by (completes a d) is e more j at = absurd (let k : true ≡ false = e in cc)
  by (meets h v) is e more j at = absurd (let k : true ≡ false = e in cc)

-- Fits
done_fits : (c : Channel) (b : BranchView) (ts ps : Option Handler) (a : Tree) (d : Channel) → row_on c ts ps b ≡ completes a d → ChannelFits c → ChannelFits d
done_fits c (take_of p) ts ps a d e f = by (take_done c ps a d e) where
  by : TakeDone c a d → ChannelFits d
  by (gave vs is k) = subst ChannelFits (sym k) (giving_fits c f)
  by (nothing_left is cl n k) = subst ChannelFits (sym k) f
done_fits c (put_of p v) ts ps a d e f = by (put_done c ts ps v a d e) where
  by : PutDone c ts ps v a d → ChannelFits d
  by (refused cl n k) = subst ChannelFits (sym k) f
  by (promised cl pr n k) = subst ChannelFits (sym k) (keeping_fits c v (promise_has_room c.policy (is_full c.capacity c.held) pr) f)
  by (accepted cl pr r t o n k) = subst ChannelFits (sym k) (keeping_fits c v r f)

settle_fits : (c : Channel) (ts ps : Option Handler) (side : Side) (h : Handler) (v : Tree) (d : Channel) → Settled c ts ps side h v d → ChannelFits c → ChannelFits d
settle_fits c ts ps side h v d (moved_in a b n k fx r) f = subst ChannelFits (sym k) (keeping_fits c v r f)
settle_fits c ts ps side h v d (served a b vs is k) f = subst ChannelFits (sym k) (giving_fits c f)
settle_fits c ts ps side h v d (served_nil a b is cl n k) f = subst ChannelFits (sym k) f

from_some : (P : Channel → Type 0) (c d : Channel) → Some c ≡ Some d → P c → P d
from_some P c d e pc = subst P (let k : c ≡ d = cc in k) pc

from_none : {G : Type 0} (d : Channel) → None ≡ Some d → G
from_none d e = absurd cc

pub made_fits : (what : WhatView) (d : Channel) → channel_made what ≡ Some d → ChannelFits d
made_fits unbuffered d e = from_some ChannelFits (new_channel no_buffer 0) d e plain_fits
made_fits (fixed n) d e = from_some ChannelFits (with_buffer fixed_buffer n) d e (fixed_fits n)
made_fits (dropping n) d e = from_some ChannelFits (with_buffer dropping_buffer n) d e (dropping_fits n)
made_fits (sliding n) d e = from_some ChannelFits (with_buffer sliding_buffer n) d e (sliding_fits n)
made_fits promise d e = from_some ChannelFits (new_channel promise_buffer 1) d e promise_fits
made_fits (timeout n) d e = from_some ChannelFits (new_channel no_buffer 0) d e plain_fits
made_fits (mult source) d e = from_none d e
made_fits (mix out changes) d e = from_none d e
made_fits (publication source) d e = from_none d e

buffer_empty : (policy : Policy) (n : ℕ) → (with_buffer policy n).held ≡ []
buffer_empty policy zero = refl
buffer_empty policy (suc n) = refl

pub made_empty : (what : WhatView) (d : Channel) → channel_made what ≡ Some d → d.held ≡ []
made_empty unbuffered d e = from_some (λ (c : Channel). c.held ≡ []) (new_channel no_buffer 0) d e refl
made_empty (fixed n) d e = from_some (λ (c : Channel). c.held ≡ []) (with_buffer fixed_buffer n) d e (buffer_empty fixed_buffer n)
made_empty (dropping n) d e = from_some (λ (c : Channel). c.held ≡ []) (with_buffer dropping_buffer n) d e (buffer_empty dropping_buffer n)
made_empty (sliding n) d e = from_some (λ (c : Channel). c.held ≡ []) (with_buffer sliding_buffer n) d e (buffer_empty sliding_buffer n)
made_empty promise d e = from_some (λ (c : Channel). c.held ≡ []) (new_channel promise_buffer 1) d e refl
made_empty (timeout n) d e = from_some (λ (c : Channel). c.held ≡ []) (new_channel no_buffer 0) d e refl
made_empty (mult source) d e = from_none d e
made_empty (mix out changes) d e = from_none d e
made_empty (publication source) d e = from_none d e

pub fits_kept : (s s2 : State) → Effect s s2 → ChannelsFit s.channels → ChannelsFit s2.channels
fits_kept s s2 (still a b c) all = subst ChannelsFit (sym a) all
fits_kept s s2 (done_there b c d v at good r x y z) all = subst ChannelsFit (sym x) (one_more (λ p c. ChannelFits c) s.channels (port_of b) d all (done_fits c b (front Take (port_of b) s.waits) (front Put (port_of b) s.waits) v d r (all (port_of b) c at)))
fits_kept s s2 (met_there w live a b c) all = subst ChannelsFit (sym a) all
fits_kept s s2 (joined x fresh nr good a b c) all = subst ChannelsFit (sym a) all
fits_kept s s2 (settled_there p c d side h v at r live x y z) all = subst ChannelsFit (sym x) (one_more (λ p c. ChannelFits c) s.channels p d all (settle_fits c (front Take p s.waits) (front Put p s.waits) side h v d (settle_does c (front Take p s.waits) (front Put p s.waits) side h v d r) (all p c at)))
fits_kept s s2 (made_there p what none x y z) all = subst ChannelsFit (sym x) (maybe_more (λ p c. ChannelFits c) s.channels p (channel_made what) all (made_fits what))
fits_kept s s2 (shut_there ports x y z) all = subst ChannelsFit (sym x) (shut_each (λ p c. ChannelFits c) ports s.channels (λ q c f. f) all)

-- no held value is nil
done_held : (c : Channel) (b : BranchView) (ts ps : Option Handler) (a : Tree) (d : Channel) → row_on c ts ps b ≡ completes a d → Brings b → Each IsNotNil c.held → Each IsNotNil d.held
done_held c (take_of p) ts ps a d e br f = by (take_done c ps a d e) where
  by : TakeDone c a d → Each IsNotNil d.held
  by (gave vs is k) = subst (λ (z : Channel). Each IsNotNil z.held) (sym k) (giving_not_nil c f)
  by (nothing_left is cl n k) = subst (λ (z : Channel). Each IsNotNil z.held) (sym k) f
done_held c (put_of p v) ts ps a d e br f = by (put_done c ts ps v a d e) where
  by : PutDone c ts ps v a d → Each IsNotNil d.held
  by (refused cl n k) = subst (λ (z : Channel). Each IsNotNil z.held) (sym k) f
  by (promised cl pr n k) = subst (λ (z : Channel). Each IsNotNil z.held) (sym k) (keeping_not_nil c v f br)
  by (accepted cl pr r t o n k) = subst (λ (z : Channel). Each IsNotNil z.held) (sym k) (keeping_not_nil c v f br)

settle_held : (c : Channel) (p : ℕ) (ws : List Wait) (side : Side) (h : Handler) (v : Tree) (d : Channel) → Settled c (front Take p ws) (front Put p ws) side h v d → Each (λ (h : Handler). IsNotNil h.value) (queue Put p ws) → Each IsNotNil c.held → Each IsNotNil d.held
settle_held c p ws side h v d (moved_in a b n k fx r) o f = subst (λ (z : Channel). Each IsNotNil z.held) (sym k) (keeping_not_nil c v f (subst IsNotNil (sym n) (each-head (λ (h : Handler). IsNotNil h.value) (queue Put p ws) h o b)))
settle_held c p ws side h v d (served a b vs is k) o f = subst (λ (z : Channel). Each IsNotNil z.held) (sym k) (giving_not_nil c f)
settle_held c p ws side h v d (served_nil a b is cl n k) o f = subst (λ (z : Channel). Each IsNotNil z.held) (sym k) f

abbrev pub AllOffered : List Wait → Type 0
AllOffered ws = (p : ℕ) → Each (λ (h : Handler). IsNotNil h.value) (queue Put p ws)

pub held_kept : (s s2 : State) → Effect s s2 → AllOffered s.waits → NoneHeldIsNil s.channels → NoneHeldIsNil s2.channels
held_kept s s2 (still a b c) off all = subst NoneHeldIsNil (sym a) all
held_kept s s2 (done_there b c d v at good r x y z) off all = subst NoneHeldIsNil (sym x) (one_more (λ p c. Each IsNotNil c.held) s.channels (port_of b) d all (done_held c b (front Take (port_of b) s.waits) (front Put (port_of b) s.waits) v d r good.1 (all (port_of b) c at)))
held_kept s s2 (met_there w live a b c) off all = subst NoneHeldIsNil (sym a) all
held_kept s s2 (joined x fresh nr good a b c) off all = subst NoneHeldIsNil (sym a) all
held_kept s s2 (settled_there p c d side h v at r live x y z) off all = subst NoneHeldIsNil (sym x) (one_more (λ p c. Each IsNotNil c.held) s.channels p d all (settle_held c p s.waits side h v d (settle_does c (front Take p s.waits) (front Put p s.waits) side h v d r) (off p) (all p c at)))
held_kept s s2 (made_there p what none x y z) off all = subst NoneHeldIsNil (sym x) (maybe_more (λ p c. Each IsNotNil c.held) s.channels p (channel_made what) all (λ d e. subst (Each IsNotNil) (sym (made_empty what d e)) tt))
held_kept s s2 (shut_there ports x y z) off all = subst NoneHeldIsNil (sym x) (shut_each (λ p c. Each IsNotNil c.held) ports s.channels (λ q c f. f) all)

-- no value that a wait offers is nil
joining_offered : (f : Channels) (p w k : ℕ) (bs : List BranchView) → Each (GoodBranch f) bs → Each (λ (h : Handler). IsNotNil h.value) (handlers Put p w k bs)
joining_offered f p w k [] a = tt
joining_offered f p w k (take_of q ∷ bs) a = joining_offered f p w (suc k) bs a.1
joining_offered f p w k (put_of q v ∷ bs) a = by (eqb p q) (joining_offered f p w (suc k) bs a.1) where
  by : (t : Bool) → Each (λ (h : Handler). IsNotNil h.value) (handlers Put p w (suc k) bs) → Each (λ (h : Handler). IsNotNil h.value) (cond t (record { wait = w; branch = k; value = v } ∷ handlers Put p w (suc k) bs) (handlers Put p w (suc k) bs))
  by true r = (a.0.1, r)
  by false r = r

fewer_offered : (w : ℕ) (ws : List Wait) → AllOffered ws → AllOffered (without w ws)
fewer_offered w ws all p = subst (Each (λ (h : Handler). IsNotNil h.value)) (sym (queue_without Put p w ws)) (each-filter (λ (h : Handler). IsNotNil h.value) (other w) (queue Put p ws) (all p))

pub offered_kept : (s s2 : State) → Effect s s2 → AllOffered s.waits → AllOffered s2.waits
offered_kept s s2 (still a b c) all = subst AllOffered (sym b) all
offered_kept s s2 (done_there b c d v at good r x y z) all = subst AllOffered (sym y) all
offered_kept s s2 (met_there w live a b c) all = subst AllOffered (sym b) (fewer_offered w s.waits all)
offered_kept s s2 (joined x fresh nr good a b c) all = subst AllOffered (sym b) (λ p. subst (Each (λ (h : Handler). IsNotNil h.value)) (sym (queue_joined Put p s.waits x)) (each-append (λ (h : Handler). IsNotNil h.value) (queue Put p s.waits) (handlers Put p x.number 0 x.branches) (all p) (joining_offered s.channels p x.number 0 x.branches good)))
offered_kept s s2 (settled_there p c d side h v at r live x y z) all = subst AllOffered (sym y) (fewer_offered h.wait s.waits all)
offered_kept s s2 (made_there p what none x y z) all = subst AllOffered (sym y) all
offered_kept s s2 (shut_there ports x y z) all = subst AllOffered (sym y) all

-- a wait stands on channels
abbrev pub AllHome : Channels → List Wait → Type 0
AllHome f ws = (side : Side) (p : ℕ) → f p ≡ None → queue side p ws ≡ []

fewer_home : (f : Channels) (w : ℕ) (ws : List Wait) → AllHome f ws → AllHome f (without w ws)
fewer_home f w ws all side p e = queue_without side p w ws ∙ ap (filter (other w)) (all side p e)

good_at : (f : Channels) (bs : List BranchView) → Each (GoodBranch f) bs → (j : ℕ) (b : BranchView) → slice_get bs j ≡ Some b → (c : Channel) × (f (port_of b) ≡ Some c)
good_at f [] a j b e = absurd (let k : None ≡ Some b = e in cc)
good_at f (o ∷ bs) a zero b e = subst (λ (b : BranchView). (c : Channel) × (f (port_of b) ≡ Some c)) (let k : o ≡ b = cc in k) a.0.0
good_at f (o ∷ bs) a (suc j) b e = good_at f bs a.1 j b e

more_home : (f : Channels) (ws : List Wait) (x : Wait) → Each (GoodBranch f) x.branches → AllHome f ws → AllHome f (ws ++ x ∷ [])
more_home f ws x good all side p e = queue_joined side p ws x ∙ ap₂ (λ (a b : List Handler). a ++ b) (all side p e) (none_joins side p x.number 0 x.branches (λ j b at on.
    let g = good_at f x.branches good j b at in let k : None ≡ Some g.0 = sym e ∙ ap f (on_port side p b on) ∙ g.1 in absurd cc))

one_home : (f : Channels) (p : ℕ) (o : Option Channel) (ws : List Wait) → (o ≡ None → f p ≡ None) → AllHome f ws → AllHome (update eqb f p o) ws
one_home f p o ws was all side q e = by (eqb p q) refl e where
  by : (b : Bool) → eqb p q ≡ b → cond b o (f q) ≡ None → queue side q ws ≡ []
  by true is e = all side q (ap f (sym (eqb-true p q is)) ∙ was e)
  by false is e = all side q e

some_not_none : {G : Type 0} (d : Channel) → Some d ≡ None → G
some_not_none d e = absurd cc

pub home_kept : (s s2 : State) → Effect s s2 → AllHome s.channels s.waits → AllHome s2.channels s2.waits
home_kept s s2 e all = by e where
  moved : (f : Channels) (ws : List Wait) → s2.channels ≡ f → s2.waits ≡ ws → AllHome f ws → AllHome s2.channels s2.waits
  moved f ws a b h = subst (λ (z : Channels). AllHome z s2.waits) (sym a) (subst (AllHome f) (sym b) h)

  by : Effect s s2 → AllHome s2.channels s2.waits
  by (still a b c) = moved s.channels s.waits a b all
  by (done_there b c d v at good r x y z) = moved (update eqb s.channels (port_of b) (Some d)) s.waits x y (one_home s.channels (port_of b) (Some d) s.waits (some_not_none d) all)
  by (met_there w live a b c) = moved s.channels (without w s.waits) a b (fewer_home s.channels w s.waits all)
  by (joined x fresh nr good a b c) = moved s.channels (s.waits ++ x ∷ []) a b (more_home s.channels s.waits x good all)
  by (settled_there p c d side h v at r live x y z) = moved (update eqb s.channels p (Some d)) (without h.wait s.waits) x y (fewer_home (update eqb s.channels p (Some d)) h.wait s.waits (one_home s.channels p (Some d) s.waits (some_not_none d) all))
  by (made_there p what none x y z) = moved (update eqb s.channels p (channel_made what)) s.waits x y (one_home s.channels p (channel_made what) s.waits (λ e. none) all)
  by (shut_there ports x y z) = moved (shut_all ports s.channels) s.waits x y (λ side p e. all side p (not_gone ports s.channels p e))

-- Idle
fewer_idle : (c : Channel) (w p : ℕ) (ws : List Wait) → Idle c (queue Take p ws) (queue Put p ws) → Idle c (queue Take p (without w ws)) (queue Put p (without w ws))
fewer_idle c w p ws i np h e = let g = head_filter (other w) (queue Take p ws) h (ap head (sym (queue_without Take p w ws)) ∙ e) in let k = i np g.0 g.1 in (k.0, λ f. queue_without Put p w ws ∙ ap (filter (other w)) (k.1 f))

-- a taker waits, so nothing is held
not_held : {G : Type 0} (c : Channel) (ts ps : List Handler) (a : Tree) (vs : List Tree) (h : Handler) → Idle c ts ps → is_promise c.policy ≡ false → head ts ≡ Some h → c.held ≡ a ∷ vs → G
not_held c ts ps a vs h i np at is = let k : a ∷ vs ≡ [] = sym is ∙ (i np h at).0 in absurd cc

done_idle : (c : Channel) (b : BranchView) (ts ps : List Handler) (a : Tree) (d : Channel) → row_on c (head ts) (head ps) b ≡ completes a d → Idle c ts ps → Idle d ts ps
done_idle c (take_of p) ts ps a d e i = by (take_done c (head ps) a d e) where
  by : TakeDone c a d → Idle d ts ps
  by (gave vs is k) = subst (λ (z : Channel). Idle z ts ps) (sym k) (λ np h at. not_held c ts ps a vs h i np at is)
  by (nothing_left is cl n k) = subst (λ (z : Channel). Idle z ts ps) (sym k) i
done_idle c (put_of p v) ts ps a d e i = by (put_done c (head ts) (head ps) v a d e) where
  by : PutDone c (head ts) (head ps) v a d → Idle d ts ps
  by (refused cl n k) = subst (λ (z : Channel). Idle z ts ps) (sym k) i
  by (promised cl pr n k) = subst (λ (z : Channel). Idle z ts ps) (sym k) (λ np h at. let q : true ≡ false = sym pr ∙ np in absurd cc)
  by (accepted cl pr r t o n k) = subst (λ (z : Channel). Idle z ts ps) (sym k) (λ np h at. no_head h (sym t ∙ at))

settle_idle : (c : Channel) (ts ps : List Handler) (side : Side) (h : Handler) (v : Tree) (d : Channel) → Settled c (head ts) (head ps) side h v d → Idle c ts ps → Idle d ts ps
settle_idle c ts ps side h v d (moved_in a b n k fx r) i = subst (λ (z : Channel). Idle z ts ps) (sym k) (λ np g at. no_head h (sym (ap head ((i np g at).1 fx)) ∙ b))
settle_idle c ts ps side h v d (served a b vs is k) i = subst (λ (z : Channel). Idle z ts ps) (sym k) (λ np g at. not_held c ts ps v vs g i np at is)
settle_idle c ts ps side h v d (served_nil a b is cl n k) i = subst (λ (z : Channel). Idle z ts ps) (sym k) i

-- branches that aren't ready join
joins_idle : (c : Channel) (p w : ℕ) (bs : List BranchView) (ts ps : List Handler) → ChannelFits c → ((j : ℕ) (b : BranchView) → slice_get bs j ≡ Some b → p ≡ port_of b → row_on c (head ts) (head ps) b ≡ not_ready) → Idle c ts ps
    → Idle c (ts ++ handlers Take p w 0 bs) (ps ++ handlers Put p w 0 bs)
joins_idle c p w bs ts ps fits unready i np h e = ⊎_elim
    (λ old. let k = i np old.0 old.1 in (
      k.0,
      λ f. ap₂ (λ (a b : List Handler). a ++ b) (k.1 f) (none_joins Put p w 0 bs (λ j b at on. no_head old.0 (sym (waits_there j b at on).no_taker ∙ old.1))),
    ))
    (λ new. let r = from_branch Take p w 0 bs h new.1 in let k = taker_there r.0 r.1 r.2 r.3 in (
      k.none_held,
      λ f. ap₂ (λ (a b : List Handler). a ++ b) (headless ps k.no_putter) (none_joins Put p w 0 bs (λ j b at on. (waits_there j b at on).no_way (fixed_has_room c fits f k.none_held) k.no_putter)),
    ))
    (head_append ts (handlers Take p w 0 bs) h e) where
      waits_there : (j : ℕ) (b : BranchView) → slice_get bs j ≡ Some b → is_on Put p b ≡ true → PutWaits c (head ts) (head ps)
      waits_there j b at on = let v = puts_there p b on in put_waits c (head ts) (head ps) v.0 (ap (row_on c (head ts) (head ps)) (sym v.1) ∙ unready j b at (on_port Put p b on))

      taker_there : (j : ℕ) (b : BranchView) → slice_get bs j ≡ Some b → is_on Take p b ≡ true → TakeWaits c (head ps)
      taker_there j b at on = take_waits c (head ps) (ap (row_on c (head ts) (head ps)) (sym (takes_there p b on)) ∙ unready j b at (on_port Take p b on))

joins_all : (f : Channels) (ws : List Wait) (x : Wait) → ChannelsFit f → AllIdle f ws → ((j : ℕ) (b : BranchView) → slice_get x.branches j ≡ Some b → row_at (f (port_of b)) (front Take (port_of b) ws) (front Put (port_of b) ws) b ≡ not_ready) → AllIdle f (ws ++ x ∷ [])
joins_all f ws x fits all unready p c e = subst (λ (a : List Handler). Idle c a (queue Put p (ws ++ x ∷ []))) (sym (queue_joined Take p ws x)) (subst (λ (a : List Handler). Idle c (queue Take p ws ++ handlers Take p x.number 0 x.branches) a) (sym (queue_joined Put p ws x))
    (joins_idle c p x.number x.branches (queue Take p ws) (queue Put p ws) (fits p c e) (λ j b at is. ap₂ (λ t u. row_on c t u b) (ap (λ q. front Take q ws) is) (ap (λ q. front Put q ws) is) ∙ sym (ap (λ (o : Option Channel). row_at o (front Take (port_of b) ws) (front Put (port_of b) ws) b) (ap f (sym is) ∙ e)) ∙ unready j b at) (all p c e)))

pub idle_kept : (s s2 : State) → Effect s s2 → ChannelsFit s.channels → AllHome s.channels s.waits → AllIdle s.channels s.waits → AllIdle s2.channels s2.waits
idle_kept s s2 e fits home all = by e where
  moved : (f : Channels) (ws : List Wait) → s2.channels ≡ f → s2.waits ≡ ws → AllIdle f ws → AllIdle s2.channels s2.waits
  moved f ws a b h = subst (λ (z : Channels). AllIdle z s2.waits) (sym a) (subst (AllIdle f) (sym b) h)

  by : Effect s s2 → AllIdle s2.channels s2.waits
  by (still a b c) = moved s.channels s.waits a b all
  by (done_there b c d v at good r x y z) = moved (update eqb s.channels (port_of b) (Some d)) s.waits x y
      (one_more (λ q c. Idle c (queue Take q s.waits) (queue Put q s.waits)) s.channels (port_of b) d all (done_idle c b (queue Take (port_of b) s.waits) (queue Put (port_of b) s.waits) v d r (all (port_of b) c at)))
  by (met_there w live a b c) = moved s.channels (without w s.waits) a b (λ p c e. fewer_idle c w p s.waits (all p c e))
  by (joined x fresh nr good a b c) = moved s.channels (s.waits ++ x ∷ []) a b (joins_all s.channels s.waits x fits all (none_is_ready s x.branches nr))
  by (settled_there p c d side h v at r live x y z) = moved (update eqb s.channels p (Some d)) (without h.wait s.waits) x y
      (λ q k e. fewer_idle k h.wait q s.waits (one_more (λ q c. Idle c (queue Take q s.waits) (queue Put q s.waits)) s.channels p d all (settle_idle c (queue Take p s.waits) (queue Put p s.waits) side h v d (settle_does c (front Take p s.waits) (front Put p s.waits) side h v d r) (all p c at)) q k e))
  by (made_there p what none x y z) = moved (update eqb s.channels p (channel_made what)) s.waits x y
      (maybe_more (λ q c. Idle c (queue Take q s.waits) (queue Put q s.waits)) s.channels p (channel_made what) all (λ d e np h at. no_head h (sym (ap head (home Take p none)) ∙ at)))
  by (shut_there ports x y z) = moved (shut_all ports s.channels) s.waits x y (shut_each (λ q c. Idle c (queue Take q s.waits) (queue Put q s.waits)) ports s.channels (λ q c i. i) all)

-- a wait's number was given
abbrev pub AllGiven : List Wait → List ℕ → Type 0
AllGiven ws used = (w : ℕ) → is_live w ws ≡ true → is_among w used ≡ true

fewer_given : (x : ℕ) (ws : List Wait) (used : List ℕ) → AllGiven ws used → AllGiven (without x ws) used
fewer_given x ws used all w e = by (eqb x w) refl e where
  by : (b : Bool) → eqb x w ≡ b → is_live w (without x ws) ≡ true → is_among w used ≡ true
  by true is e = absurd (let k : true ≡ false = sym e ∙ ap (λ n. is_live n (without x ws)) (sym (eqb-true x w is)) ∙ not_live x ws in cc)
  by false is e = all w (sym (live_else w x ws is) ∙ e)

more_given : (x : Wait) (ws : List Wait) (used : List ℕ) → AllGiven ws used → AllGiven (ws ++ x ∷ []) (x.number ∷ used)
more_given x ws used all w e = by (eqb w x.number) (sym (live-append w ws x) ∙ e) where
  by : (b : Bool) → cond b true (is_live w ws) ≡ true → cond b true (is_among w used) ≡ true
  by true e = refl
  by false e = all w e

pub given_kept : (s s2 : State) → Effect s s2 → AllGiven s.waits s.used → AllGiven s2.waits s2.used
given_kept s s2 e all = by e where
  moved : (ws : List Wait) (used : List ℕ) → s2.waits ≡ ws → s2.used ≡ used → AllGiven ws used → AllGiven s2.waits s2.used
  moved ws used a b h = subst (λ z. AllGiven z s2.used) (sym a) (subst (AllGiven ws) (sym b) h)

  by : Effect s s2 → AllGiven s2.waits s2.used
  by (still a b c) = moved s.waits s.used b c all
  by (done_there b c d v at good r x y z) = moved s.waits s.used y z all
  by (met_there w live a b c) = moved (without w s.waits) s.used b c (fewer_given w s.waits s.used all)
  by (joined x fresh nr good a b c) = moved (s.waits ++ x ∷ []) (x.number ∷ s.used) b c (more_given x s.waits s.used all)
  by (settled_there p c d side h v at r live x y z) = moved (without h.wait s.waits) s.used y z (fewer_given h.wait s.waits s.used all)
  by (made_there p what none x y z) = moved s.waits s.used y z all
  by (shut_there ports x y z) = moved s.waits s.used y z all
