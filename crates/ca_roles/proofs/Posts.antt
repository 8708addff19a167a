-- Waits of a typed state that are nobody's, after an event: they put public values on public channels.
use Rattle.std.proofs.Common.{◌≡◌, ℕ, List, [], ◌∷◌, ◌++◌, refl, sym, ap, ◌∙◌, subst, Bool, true, false, cond, not, Option, Some, None, eqb, eqb-true, eq-eqb, filter}
use Rattle.ca_value.specs.Tree.{Tree, port}
use Rattle.ca_term.specs.declared.event.Side.{Side}
use Rattle.ca_term.specs.declared.event.Side.TheVariants.{Take, Put}
use Rattle.ca_term.specs.declared.event.Ending.TheVariants.{Ended, Faulted}
use Rattle.ca_term.specs.Operation.{OpView, posting}
use Rattle.ca_term.specs.Program.{ProgramView}
use Rattle.ca_term.specs.Event.{put_of, EventView, made, spawned, done, met, parked, posted, settled, defaulted, closed, registered, printed, ticked, over as is_over}
use Rattle.ca_meaning.specs.Wait.{Wait, Handler, queue, handlers, without, owner_of, is_live, is_among}
use Rattle.ca_meaning.specs.State.{State, Task}
use Rattle.ca_meaning.specs.Going.{RunsAtOperation}
use Rattle.ca_meaning.specs.Steps.{Step}
use Rattle.ca_meaning.specs.Sound.{Each, Sound}
use Rattle.ca_meaning.proofs.Waits.{each-append, each-weaker, handlers_of, queue_without, queue_joined, other, owner_else, owner_before, owner_joined}
use Rattle.ca_meaning.proofs.Effects.{waits_of}
use Rattle.ca_roles.specs.Roles.{public, Roles, Grows, IsPublic}
use Rattle.ca_roles.specs.Typed.{IsPublicPort, IsTypedPost, MayAsk, Typed}
use Rattle.ca_roles.proofs.Sealing.{public_more}

-- a handler puts a public value on a public channel
abbrev IsPublicAt : Roles → ℕ → Handler → Type 0
IsPublicAt roles p h = IsPublicPort roles p × IsPublic roles h.value

-- What an event does to the waits. A new one is a task's, or its branches are public.
data Waits (roles : Roles) (s s2 : State) : Type 0 where
  kept : s2.waits ≡ s.waits → Waits roles s s2
  gone : (w : ℕ) → s2.waits ≡ without w s.waits → Waits roles s s2
  came : (y : Wait) → s2.waits ≡ s.waits ++ y ∷ [] → is_among y.number s.used ≡ false → (y.owner ≡ None → (side : Side) (p : ℕ) → Each (IsPublicAt roles p) (handlers side p y.number 0 y.branches)) → Waits roles s s2

module _ (program : ProgramView) (roles : Roles) (s s2 : State) (asks : (t : ℕ) (op : OpView) (x : Task) → RunsAtOperation s t op x → MayAsk program roles x.body op) where
  post_public : (q : ℕ) (v : Tree) (w : ℕ) → IsPublicPort roles q → IsPublic roles v → (side : Side) (p : ℕ) → Each (IsPublicAt roles p) (handlers side p w 0 (put_of q v ∷ []))
  post_public q v w h k Take p = tt
  post_public q v w h k Put p = by (eqb p q) refl where
    by : (b : Bool) → eqb p q ≡ b → Each (IsPublicAt roles p) (cond b (record { wait = w; branch = 0; value = v } ∷ []) [])
    by true e = ((subst (IsPublicPort roles) (sym (eqb-true p q e)) h, k), tt)
    by false e = tt

  waits_do : (e : EventView) → Step program s e s2 → Waits roles s s2
  waits_do (made t p what moment) x = kept (waits_of x.7)
  waits_do (spawned t u kind result) x = kept (waits_of x.10)
  waits_do (done t k b a) x = kept (waits_of x.8)
  waits_do (met t k side p v w o) x = gone w (waits_of x.15)
  waits_do (parked t w bs) x = came (record { number = w; owner = Some t; branches = bs }) (waits_of x.8) x.7 (λ is. absurd (let k : Some t ≡ None = is in cc))
  waits_do (posted t w p v) x =
      let k = asks t (posting (port p) v) x.0 x.2 in
      let same : p ≡ k.0 = (let j : port p ≡ port k.0 = k.1 in cc) in
      came (record { number = w; owner = None; branches = put_of p v ∷ [] }) (waits_of x.6) x.4 (λ is. post_public p v w (subst (IsPublicPort roles) (sym same) k.2) k.3)
  waits_do (settled w k side p v) x = gone w (waits_of x.9)
  waits_do (defaulted t v) x = kept (waits_of x.7)
  waits_do (closed t p) x = kept (waits_of x.4)
  waits_do (registered t name args v) x = kept (waits_of x.6)
  waits_do (printed t line) x = kept (waits_of x.4)
  waits_do (ticked m ports) x = kept (waits_of x.4)
  waits_do (is_over t Ended) x = kept (waits_of x.4)
  waits_do (is_over t (Faulted fault place result)) x = kept (waits_of x.4)

each_filtered : {A : Type 0} (P Q : A → Type 0) (t : A → Bool) (xs : List A) → ((x : A) → t x ≡ true → P x → Q x) → Each P xs → Each Q (filter t xs)
each_filtered P Q t [] f a = tt
each_filtered P Q t (x ∷ xs) f a = by (t x) refl (each_filtered P Q t xs f a.1) where
  by : (b : Bool) → t x ≡ b → Each Q (filter t xs) → Each Q (cond b (x ∷ filter t xs) (filter t xs))
  by true e r = (f x e a.0, r)
  by false e r = r

each_both : {A : Type 0} (P Q : A → Type 0) (xs : List A) → Each P xs → Each Q xs → Each (λ x. P x × Q x) xs
each_both P Q [] a b = tt
each_both P Q (x ∷ xs) a b = ((a.0, b.0), each_both P Q xs a.1 b.1)

not_true : (b : Bool) → not b ≡ true → b ≡ false
not_true true k = absurd (let j : false ≡ true = k in cc)
not_true false k = refl

-- a queue has handlers of waits in the list alone
queue_live : (side : Side) (p : ℕ) (ws : List Wait) → Each (λ (h : Handler). is_live h.wait ws ≡ true) (queue side p ws)
queue_live side p [] = tt
queue_live side p (y ∷ ys) = each-append (λ (h : Handler). is_live h.wait (y ∷ ys) ≡ true) (handlers side p y.number 0 y.branches) (queue side p ys)
    (each-weaker (λ (h : Handler). h.wait ≡ y.number) (λ (h : Handler). is_live h.wait (y ∷ ys) ≡ true) (handlers side p y.number 0 y.branches) (λ h is. ap (λ c. cond c true (is_live h.wait ys)) (eq-eqb h.wait y.number is)) (handlers_of side p y.number 0 y.branches))
    (each-weaker (λ (h : Handler). is_live h.wait ys ≡ true) (λ (h : Handler). is_live h.wait (y ∷ ys) ≡ true) (queue side p ys) (λ h is. by h (eqb h.wait y.number) is) (queue_live side p ys)) where
      by : (h : Handler) (b : Bool) → is_live h.wait ys ≡ true → cond b true (is_live h.wait ys) ≡ true
      by h true e = refl
      by h false e = e

module _ (program : ProgramView) (roles more : Roles) (s s2 : State) (e : EventView) (typed : Typed program roles s) (sound : Sound s) (asks : (t : ℕ) (op : OpView) (x : Task) → RunsAtOperation s t op x → MayAsk program roles x.body op) (x : Step program s e s2) (g : Grows roles more) where
  -- a wait that stays is nobody's where it was
  stays : (p : ℕ) (h : Handler) → (owner_of h.wait s2.waits ≡ None → owner_of h.wait s.waits ≡ None) → IsTypedPost roles s p h → IsTypedPost more s2 p h
  stays p h back typed_post none = let k = typed_post (back none) in (g p public k.0, public_more roles more g h.value k.1)

  pub posts_after : (side : Side) (p : ℕ) → Each (IsTypedPost more s2 p) (queue side p s2.waits)
  posts_after side p = by (waits_do program roles s s2 asks e x) where
    by : Waits roles s s2 → Each (IsTypedPost more s2 p) (queue side p s2.waits)
    by (kept ws) = subst (λ z. Each (IsTypedPost more s2 p) (queue side p z)) (sym ws) (each-weaker (IsTypedPost roles s p) (IsTypedPost more s2 p) (queue side p s.waits) (λ h k. stays p h (λ n. ap (owner_of h.wait) (sym ws) ∙ n) k) (typed.posts side p))
    by (gone w ws) = subst (λ z. Each (IsTypedPost more s2 p) (queue side p z)) (sym ws) (subst (Each (IsTypedPost more s2 p)) (sym (queue_without side p w s.waits)) (each_filtered (IsTypedPost roles s p) (IsTypedPost more s2 p) (other w) (queue side p s.waits)
        (λ h ne k. stays p h (λ n. sym (owner_else h.wait w s.waits (not_true (eqb w h.wait) ne)) ∙ ap (owner_of h.wait) (sym ws) ∙ n) k) (typed.posts side p)))
    by (came y ws fresh nobodys) = subst (λ z. Each (IsTypedPost more s2 p) (queue side p z)) (sym ws) (subst (Each (IsTypedPost more s2 p)) (sym (queue_joined side p s.waits y)) (each-append (IsTypedPost more s2 p) (queue side p s.waits) (handlers side p y.number 0 y.branches) olds news)) where
      not_live_now : is_live y.number s.waits ≡ false
      not_live_now = live_or (is_live y.number s.waits) refl where
        live_or : (b : Bool) → is_live y.number s.waits ≡ b → is_live y.number s.waits ≡ false
        live_or false k = k
        live_or true k = absurd (let j : true ≡ false = sym (sound.given y.number k) ∙ fresh in cc)

      old : (h : Handler) → IsTypedPost roles s p h × (is_live h.wait s.waits ≡ true) → IsTypedPost more s2 p h
      old h both = at (eqb h.wait y.number) refl where
        at : (b : Bool) → eqb h.wait y.number ≡ b → IsTypedPost more s2 p h
        at false ne = stays p h (λ n. sym (owner_before h.wait s.waits y ne) ∙ ap (owner_of h.wait) (sym ws) ∙ n) both.0
        at true is = absurd (let j : true ≡ false = sym both.1 ∙ ap (λ n. is_live n s.waits) (eqb-true h.wait y.number is) ∙ not_live_now in cc)

      olds : Each (IsTypedPost more s2 p) (queue side p s.waits)
      olds = each-weaker (λ h. IsTypedPost roles s p h × (is_live h.wait s.waits ≡ true)) (IsTypedPost more s2 p) (queue side p s.waits) old (each_both (IsTypedPost roles s p) (λ h. is_live h.wait s.waits ≡ true) (queue side p s.waits) (typed.posts side p) (queue_live side p s.waits))

      owner_is : (h : Handler) → h.wait ≡ y.number → owner_of h.wait s2.waits ≡ y.owner
      owner_is h is = ap (owner_of h.wait) ws ∙ ap (λ n. owner_of n (s.waits ++ y ∷ [])) is ∙ owner_joined s.waits y not_live_now

      news : Each (IsTypedPost more s2 p) (handlers side p y.number 0 y.branches)
      news = owned y.owner refl where
        owned : (o : Option ℕ) → y.owner ≡ o → Each (IsTypedPost more s2 p) (handlers side p y.number 0 y.branches)
        owned (Some u) own = each-weaker (λ (h : Handler). h.wait ≡ y.number) (IsTypedPost more s2 p) (handlers side p y.number 0 y.branches) (λ h is n. absurd (let k : Some u ≡ None = sym own ∙ sym (owner_is h is) ∙ n in cc)) (handlers_of side p y.number 0 y.branches)
        owned None own = each-weaker (IsPublicAt roles p) (IsTypedPost more s2 p) (handlers side p y.number 0 y.branches) (λ h k n. (g p public k.0, public_more roles more g h.value k.1)) (nobodys own side p)
