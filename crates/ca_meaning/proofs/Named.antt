-- Each waiting branch was named by the Park or Post of its wait.
use Rattle.std.proofs.Common.{◌≡◌, ℕ, zero, suc, ◌+◌, List, [], ◌∷◌, ◌++◌, refl, sym, ap, ◌∙◌, subst, arith, Bool, true, false, cond, Option, Some, None, slice_get, append_assoc, append-nil}
use Rattle.ca_value.specs.Tree.{Tree, port}
use Rattle.ca_term.specs.declared.event.Side.{Side}
use Rattle.ca_term.specs.declared.event.Side.TheVariants.{Take, Put}
use Rattle.ca_term.specs.declared.event.Ending.TheVariants.{Ended, Faulted}
use Rattle.ca_term.specs.Operation.{posting}
use Rattle.ca_term.specs.Program.{ProgramView}
use Rattle.ca_term.specs.Event.{BranchView, put_of, EventView, made, spawned, done, met, parked, posted, settled, defaulted, closed, registered, printed, ticked, over as is_over}
use Rattle.ca_meaning.specs.Channel.{Channel}
use Rattle.ca_meaning.specs.Wait.{Wait, Handler, is_on, brought, handlers, queue, front, without}
use Rattle.ca_meaning.specs.Row.{not_ready, row_at}
use Rattle.ca_meaning.specs.State.{State}
use Rattle.ca_meaning.specs.Choice.{row, any_ready}
use Rattle.ca_meaning.specs.Steps.{Step, Steps}
use Rattle.ca_meaning.specs.Sound.{Each, Sound}
use Rattle.ca_meaning.specs.History.{channel_in, branch_on, MakesBranch, channel_after, channel_from}
use Rattle.ca_meaning.specs.ChannelLaw.{TellsChannel}
use Rattle.ca_meaning.proofs.Waits.{each-append, each-weaker, each-filter, queue_without, queue_joined, other, takes_there, puts_there}
use Rattle.ca_meaning.proofs.Rows.{put_waits}
use Rattle.ca_meaning.proofs.Refusals.{GoodBranch, good_branches, each-get}
use Rattle.ca_meaning.proofs.Channels.{none_is_ready}
use Rattle.ca_meaning.proofs.Effects.{waits_of}
use Rattle.ca_meaning.proofs.Soundness.{step_sound}
use Rattle.ca_meaning.proofs.Histories.{step_tells}

-- where the handler stands on a put, its channel was open when the put began to wait
abbrev pub OpenThen : Side → List EventView → ℕ → Type 0
OpenThen Take early p = Unit {0}
OpenThen Put early p = (c : Channel) × TellsChannel early p c × (c.closed ≡ false)

abbrev pub NamedIn : List EventView → Side → ℕ → Handler → Type 0
NamedIn journal side p h =
    (early : List EventView) × (offer : EventView) × (late : List EventView) × (journal ≡ early ++ offer ∷ late) × MakesBranch h.wait h.branch (branch_on side p h.value) offer × OpenThen side early p

abbrev pub AllNamed : List EventView → List Wait → Type 0
AllNamed journal ws = (side : Side) (p : ℕ) → Each (NamedIn journal side p) (queue side p ws)

later : (journal : List EventView) (e : EventView) (side : Side) (p : ℕ) (h : Handler) → NamedIn journal side p h → NamedIn (journal ++ e ∷ []) side p h
later journal e side p h n = (n.0, n.1, n.2 ++ e ∷ [], ap (λ j. j ++ e ∷ []) n.3 ∙ append_assoc n.0 (n.1 ∷ n.2) (e ∷ []), n.4, n.5)

all_later : (journal : List EventView) (e : EventView) (ws : List Wait) → AllNamed journal ws → AllNamed (journal ++ e ∷ []) ws
all_later journal e ws all side p = each-weaker (NamedIn journal side p) (NamedIn (journal ++ e ∷ []) side p) (queue side p ws) (later journal e side p) (all side p)

fewer : (journal : List EventView) (w : ℕ) (ws : List Wait) → AllNamed journal ws → AllNamed journal (without w ws)
fewer journal w ws all side p = subst (Each (NamedIn journal side p)) (sym (queue_without side p w ws)) (each-filter (NamedIn journal side p) (other w) (queue side p ws) (all side p))

-- a handler's branch, by its number
abbrev pub IsBranch : Side → ℕ → ℕ → List BranchView → Handler → Type 0
IsBranch side p w whole h = (h.wait ≡ w) × (slice_get whole h.branch ≡ Some (branch_on side p h.value))

on_side : (side : Side) (p : ℕ) (b : BranchView) → is_on side p b ≡ true → b ≡ branch_on side p (brought b)
on_side Take p b e = takes_there p b e
on_side Put p b e = let v = puts_there p b e in v.1 ∙ ap (put_of p) (sym (ap brought v.1))

pub handlers_at : (side : Side) (p w k : ℕ) (bs whole : List BranchView) → ((j : ℕ) (b : BranchView) → slice_get bs j ≡ Some b → slice_get whole (k + j) ≡ Some b) → Each (IsBranch side p w whole) (handlers side p w k bs)
handlers_at side p w k [] whole f = tt
handlers_at side p w k (b ∷ bs) whole f = by (is_on side p b) refl (handlers_at side p w (suc k) bs whole (λ j o e. ap (slice_get whole) (let q : suc k + j ≡ k + suc j = omega arith in q) ∙ f (suc j) o e)) where
  by : (t : Bool) → is_on side p b ≡ t → Each (IsBranch side p w whole) (handlers side p w (suc k) bs)
      → Each (IsBranch side p w whole) (cond t (record { wait = w; branch = k; value = brought b } ∷ handlers side p w (suc k) bs) (handlers side p w (suc k) bs))
  by true is r = ((refl, ap (slice_get whole) (let q : k ≡ k + 0 = omega arith in q) ∙ f 0 b refl ∙ ap (λ z. Some z) (on_side side p b is)), r)
  by false is r = r

open_then : (s : State) (journal : List EventView) (bs : List BranchView) (side : Side) (p k : ℕ) (v : Tree) → ((p : ℕ) → s.channels p ≡ channel_in p journal) → Each (GoodBranch s.channels) bs → any_ready s bs ≡ false → slice_get bs k ≡ Some (branch_on side p v) → OpenThen side journal p
open_then s journal bs Take p k v tells good nr at = tt
open_then s journal bs Put p k v tells good nr at =
    let g = each-get (GoodBranch s.channels) bs k (put_of p v) good at in
    let n : row s (put_of p v) ≡ not_ready = none_is_ready s bs nr k (put_of p v) at in
    let m = put_waits g.0.0 (front Take p s.waits) (front Put p s.waits) v (sym (ap (λ (o : Option Channel). row_at o (front Take p s.waits) (front Put p s.waits) (put_of p v)) g.0.1) ∙ n) in
    (g.0.0, sym (tells p) ∙ g.0.1, m.is_open)

joined_named : (s : State) (journal : List EventView) (e : EventView) (x : Wait) → ((p : ℕ) → s.channels p ≡ channel_in p journal) → Each (GoodBranch s.channels) x.branches → any_ready s x.branches ≡ false
    → ((k : ℕ) (b : BranchView) → slice_get x.branches k ≡ Some b → MakesBranch x.number k b e) → AllNamed journal s.waits → AllNamed (journal ++ e ∷ []) (s.waits ++ x ∷ [])
joined_named s journal e x tells good nr makes all side p =
    subst (Each (NamedIn (journal ++ e ∷ []) side p)) (sym (queue_joined side p s.waits x)) (each-append (NamedIn (journal ++ e ∷ []) side p) (queue side p s.waits) (handlers side p x.number 0 x.branches)
    (all_later journal e s.waits all side p)
    (each-weaker (IsBranch side p x.number x.branches) (NamedIn (journal ++ e ∷ []) side p) (handlers side p x.number 0 x.branches) new
    (handlers_at side p x.number 0 x.branches x.branches (λ j b at. ap (slice_get x.branches) (let q : 0 + j ≡ j = omega arith in q) ∙ at)))) where
      new : (h : Handler) → IsBranch side p x.number x.branches h → NamedIn (journal ++ e ∷ []) side p h
      new h i = (journal, e, [], refl, subst (λ w. MakesBranch w h.branch (branch_on side p h.value) e) (sym i.0) (makes h.branch (branch_on side p h.value) i.1), open_then s journal x.branches side p h.branch h.value tells good nr i.1)

only_one : (c : BranchView) (k : ℕ) (b : BranchView) → slice_get (c ∷ []) k ≡ Some b → (k ≡ 0) × (b ≡ c)
only_one c zero b e = (refl, let k : b ≡ c = cc in k)
only_one c (suc k) b e = absurd (let j : None ≡ Some b = e in cc)

same : (journal : List EventView) (e : EventView) (ws vs : List Wait) → vs ≡ ws → AllNamed journal ws → AllNamed (journal ++ e ∷ []) vs
same journal e ws vs is all = subst (AllNamed (journal ++ e ∷ [])) (sym is) (all_later journal e ws all)

less : (journal : List EventView) (e : EventView) (w : ℕ) (ws vs : List Wait) → vs ≡ without w ws → AllNamed journal ws → AllNamed (journal ++ e ∷ []) vs
less journal e w ws vs is all = subst (AllNamed (journal ++ e ∷ [])) (sym is) (fewer (journal ++ e ∷ []) w ws (all_later journal e ws all))

pub step_named : (program : ProgramView) (s s2 : State) (e : EventView) (journal : List EventView) → Step program s e s2 → ((p : ℕ) → s.channels p ≡ channel_in p journal) → AllNamed journal s.waits → AllNamed (journal ++ e ∷ []) s2.waits
step_named program s s2 (made t p what moment) j x tells all = same j _ s.waits s2.waits (waits_of x.7) all
step_named program s s2 (spawned t u kind result) j x tells all = same j _ s.waits s2.waits (waits_of x.10) all
step_named program s s2 (done t k b a) j x tells all = same j _ s.waits s2.waits (waits_of x.8) all
step_named program s s2 (met t k side p v w o) j x tells all = less j _ w s.waits s2.waits (waits_of x.15) all
step_named program s s2 (parked t w bs) j x tells all = subst (AllNamed (j ++ parked t w bs ∷ [])) (sym (waits_of x.8))
    (joined_named s j (parked t w bs) (record { number = w; owner = Some t; branches = bs }) tells (subst (Each (GoodBranch s.channels)) x.4 (good_branches s x.1 x.2.3)) x.6 (λ k b at. (refl, at)) all)
step_named program s s2 (posted t w p v) j x tells all = subst (AllNamed (j ++ posted t w p v ∷ [])) (sym (waits_of x.6))
    (joined_named s j (posted t w p v) (record { number = w; owner = None; branches = put_of p v ∷ [] }) tells (good_branches s (posting (port p) v) x.2.3) x.3 (λ k b at. let o = only_one (put_of p v) k b at in (refl, o.0, o.1)) all)
step_named program s s2 (settled w k side p v) j x tells all = less j _ w s.waits s2.waits (waits_of x.9) all
step_named program s s2 (defaulted t v) j x tells all = same j _ s.waits s2.waits (waits_of x.7) all
step_named program s s2 (closed t p) j x tells all = same j _ s.waits s2.waits (waits_of x.4) all
step_named program s s2 (registered t name args v) j x tells all = same j _ s.waits s2.waits (waits_of x.6) all
step_named program s s2 (printed t line) j x tells all = same j _ s.waits s2.waits (waits_of x.4) all
step_named program s s2 (ticked m ports) j x tells all = same j _ s.waits s2.waits (waits_of x.4) all
step_named program s s2 (is_over t Ended) j x tells all = same j _ s.waits s2.waits (waits_of x.4) all
step_named program s s2 (is_over t (Faulted fault place result)) j x tells all = same j _ s.waits s2.waits (waits_of x.4) all

pub channel_from-append : (p : ℕ) (o : Option Channel) (xs ys : List EventView) → channel_from p o (xs ++ ys) ≡ channel_from p (channel_from p o xs) ys
channel_from-append p o [] ys = refl
channel_from-append p o (x ∷ xs) ys = channel_from-append p (channel_after p x o) xs ys

-- what is known of a state that a journal leads to
pub record Known (journal : List EventView) (s : State) : Type 0 where
  pub sound : Sound s
  pub tells : (p : ℕ) → s.channels p ≡ channel_in p journal
  pub named : AllNamed journal s.waits

pub step_known : (program : ProgramView) (s s2 : State) (e : EventView) (journal : List EventView) → Step program s e s2 → Known journal s → Known (journal ++ e ∷ []) s2
step_known program s s2 e journal x k = record {
  sound = step_sound program s s2 e x k.sound;
  tells = λ p. step_tells program s s2 e p x k.sound ∙ ap (channel_after p e) (k.tells p) ∙ sym (channel_from-append p None journal (e ∷ []));
  named = step_named program s s2 e journal x k.tells k.named;
}

pub steps_known : (program : ProgramView) (es : List EventView) (s s2 : State) (journal : List EventView) → Steps program s es s2 → Known journal s → Known (journal ++ es) s2
steps_known program [] s s2 journal x k = subst (λ j. Known j s2) (sym (append-nil journal)) (subst (Known journal) (sym x) k)
steps_known program (e ∷ es) s s2 journal x k = subst (λ j. Known j s2) (append_assoc journal (e ∷ []) es) (steps_known program es x.0 s2 (journal ++ e ∷ []) x.2 (step_known program s x.0 e journal x.1 k))
