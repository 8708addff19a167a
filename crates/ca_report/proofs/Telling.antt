-- What a journal tells of the channels of its state, event by event.
use Rattle.std.proofs.Common.{◌≡◌, ⊎_elim, ℕ, zero, suc, ◌+◌, List, [], ◌∷◌, ◌++◌, append_assoc, refl, sym, ap, ◌∙◌, subst, Bool, true, false, cond, Option, Some, None, option_map, eqb, eqb-true, arith}
use Rattle.std.specs.Prelude.{◌↔◌, IsSome, is_some}
use Rattle.std.proofs.Math.Dec.{eqb_refl, T}
use Rattle.std.proofs.lemmas.List.{append-nil}
use Rattle.ca_term.specs.Operation.{WhatView, unbuffered, fixed, dropping, sliding, promise, timeout, mult, mix, publication}
use Rattle.ca_term.specs.Program.{ProgramView}
use Rattle.ca_term.specs.Event.{EventView, made}
use Rattle.ca_meaning.specs.Channel.{Channel, channel_made}
use Rattle.ca_meaning.specs.State.{State, Channels, Opening}
use Rattle.ca_meaning.specs.Steps.{Step, Steps}
use Rattle.ca_meaning.specs.Legal.{Reaches}
use Rattle.ca_meaning.specs.Sound.{Each, Sound}
use Rattle.ca_meaning.specs.History.{Mark, accept, give, give_none, pass, no_mark, mark_on, marked, closes, shut_if, channel_after}
use Rattle.ca_meaning.proofs.Soundness.{opening_sound, step_sound}
use Rattle.ca_meaning.proofs.Histories.{step_tells}
use Rattle.ca_report.specs.Counts.{is_accept, is_pass, is_give, accepted, passed, given_out}
use Rattle.ca_report.specs.Made.{Made, made_placed, with_channel_made, channels_made, Rising, IsAmong}
use Rattle.ca_report.proofs.Counting.{bit, accepted_last, passed_last, given_last}
use Rattle.ca_report.proofs.Balancing.{Balance, MarkOn, marked_balance, shut_balance, marked_policy, empty_balance}
use Rattle.ca_report.proofs.Marking.{MarkAt, mark_at, made_or_marked}
use Rattle.ca_report.proofs.Placing.{NotAmong, placed_rising, each_placed, among_placed, among_new, made_last}

-- what a channel that isn't there accepted, passed and gave is nothing
abbrev pub Balanced : List EventView → ℕ → Option Channel → Type 0
Balanced es p None = (accepted p es ≡ 0) × (passed p es ≡ 0) × (given_out p es ≡ 0)
Balanced es p (Some c) = Balance c.policy (accepted p es) (given_out p es) c.held

-- the channel that was made is there, under its policy
abbrev pub There : State → Made → Type 0
There s m = (c d : Channel) × (s.channels m.port ≡ Some c) × (channel_made m.what ≡ Some d) × (c.policy ≡ d.policy)

pub record Facts (es : List EventView) (s : State) : Type 0 where
  pub sound : Sound s
  pub balanced : (p : ℕ) → Balanced es p (s.channels p)
  pub there : Each (There s) (channels_made es)
  pub rising : Rising (channels_made es)
  pub listed : (p : ℕ) (c : Channel) → s.channels p ≡ Some c → IsAmong p (channels_made es)

none_marked : (m : Mark) → MarkAt None m → (bit (is_accept m) ≡ 0) × (bit (is_pass m) ≡ 0) × (bit (is_give m) ≡ 0)
none_marked no_mark at = (refl, refl, refl)
none_marked (accept v) at = absurd (let k : None ≡ Some at.0 = at.1 in cc)
none_marked (give v) at = absurd (let k : None ≡ Some at.0 = at.1 in cc)
none_marked (pass v) at = absurd (let k : None ≡ Some at.0 = at.1 in cc)
none_marked give_none at = absurd (let k : None ≡ Some at.0 = at.1 in cc)

marked_there : (m : Mark) (c d : Channel) → Some c ≡ Some d → MarkOn d m → MarkOn c m
marked_there m c d e on = let k : d ≡ c = cc in subst (λ z. MarkOn z m) k on

some_marked : (m : Mark) (c : Channel) → MarkAt (Some c) m → MarkOn c m
some_marked no_mark c at = tt
some_marked (accept v) c at = marked_there (accept v) c at.0 at.1 at.2
some_marked (give v) c at = marked_there (give v) c at.0 at.1 at.2
some_marked (pass v) c at = marked_there (pass v) c at.0 at.1 at.2
some_marked give_none c at = marked_there give_none c at.0 at.1 at.2

module _ (es : List EventView) (e : EventView) (p : ℕ) where
  -- one event more, which marks the channel
  balanced_marked : (o : Option Channel) → MarkAt o (mark_on p e) → Balanced es p o → Balanced (es ++ e ∷ []) p (option_map (λ c. shut_if (closes p e) (marked (mark_on p e) c)) o)
  balanced_marked None at b =
      let n = none_marked (mark_on p e) at in
      (omega (arith, accepted_last p es e, n.0, b.0), omega (arith, passed_last p es e, n.1, b.1), omega (arith, given_last p es e, n.2, b.2))
  balanced_marked (Some c) at b =
      let m = mark_on p e in
      let d = marked m c in
      let x = closes p e in
      let here : Balance c.policy (accepted p es + bit (is_accept m)) (given_out p es + bit (is_give m)) (shut_if x d).held = shut_balance x c.policy d (accepted p es + bit (is_accept m)) (given_out p es + bit (is_give m)) (marked_balance m c (accepted p es) (given_out p es) (some_marked m c at) b) in
      let named : Balance (shut_if x d).policy (accepted p es + bit (is_accept m)) (given_out p es + bit (is_give m)) (shut_if x d).held = subst (λ q. Balance q (accepted p es + bit (is_accept m)) (given_out p es + bit (is_give m)) (shut_if x d).held) (sym (marked_policy x m c)) here in
      let counted : Balance (shut_if x d).policy (accepted p (es ++ e ∷ [])) (given_out p es + bit (is_give m)) (shut_if x d).held = subst (λ n. Balance (shut_if x d).policy n (given_out p es + bit (is_give m)) (shut_if x d).held) (sym (accepted_last p es e)) named in
      subst (λ n. Balance (shut_if x d).policy (accepted p (es ++ e ∷ [])) n (shut_if x d).held) (sym (given_last p es e)) counted

  -- one event more, which doesn't touch it
  balanced_still : (o : Option Channel) → no_mark ≡ mark_on p e → Balanced es p o → Balanced (es ++ e ∷ []) p o
  balanced_still None n b = (
    omega (arith, accepted_last p es e, ap (λ m. bit (is_accept m)) n, b.0),
    omega (arith, passed_last p es e, ap (λ m. bit (is_pass m)) n, b.1),
    omega (arith, given_last p es e, ap (λ m. bit (is_give m)) n, b.2),
  )
  balanced_still (Some c) n b =
      let a : accepted p (es ++ e ∷ []) ≡ accepted p es = omega (arith, accepted_last p es e, ap (λ m. bit (is_accept m)) n) in
      let g : given_out p (es ++ e ∷ []) ≡ given_out p es = omega (arith, given_last p es e, ap (λ m. bit (is_give m)) n) in
      subst (λ k. Balance c.policy k (given_out p (es ++ e ∷ [])) c.held) (sym a) (subst (λ k. Balance c.policy (accepted p es) k c.held) (sym g) b)

-- a new channel holds nothing
abbrev IsEmpty : Option Channel → Type 0
IsEmpty None = Unit {0}
IsEmpty (Some d) = d.held ≡ []

new_empty : (what : WhatView) → IsEmpty (channel_made what)
new_empty unbuffered = refl
new_empty (fixed zero) = refl
new_empty (fixed (suc n)) = refl
new_empty (dropping zero) = refl
new_empty (dropping (suc n)) = refl
new_empty (sliding zero) = refl
new_empty (sliding (suc n)) = refl
new_empty promise = refl
new_empty (timeout n) = refl
new_empty (mult source) = tt
new_empty (mix out changes) = tt
new_empty (publication source) = tt

balanced_new : (es : List EventView) (p : ℕ) (o : Option Channel) → IsEmpty o → Balanced es p None → Balanced es p o
balanced_new es p None i b = b
balanced_new es p (Some d) i b =
    subst (λ k. Balance d.policy k (given_out p es) d.held) (sym b.0) (subst (λ k. Balance d.policy 0 k d.held) (sym b.2) (subst (Balance d.policy 0 0) (sym i) (empty_balance d.policy)))

none_is : (o : Option Channel) (es : List EventView) (p : ℕ) → o ≡ None → Balanced es p o → Balanced es p None
none_is o es p e b = subst (Balanced es p) e b

-- the channel p where something is made at q
balanced_made : (es : List EventView) (t q : ℕ) (what : WhatView) (moment : Option ℕ) (p : ℕ) (f : Channels) → f q ≡ None → Balanced es p (f p) → Balanced (es ++ made t q what moment ∷ []) p (channel_after p (made t q what moment) (f p))
balanced_made es t q what moment p f none b = by (eqb q p) refl where
  e : EventView
  e = made t q what moment

  by : (x : Bool) → eqb q p ≡ x → Balanced (es ++ made t q what moment ∷ []) p (cond x (channel_made what) (f p))
  by true is = balanced_new (es ++ made t q what moment ∷ []) p (channel_made what) (new_empty what)
      (balanced_still es (made t q what moment) p None refl (none_is (f p) es p (sym (ap f (eqb-true q p is)) ∙ none) b))
  by false is = balanced_still es (made t q what moment) p (f p) refl b

-- a channel that is there stays, under its policy
there_next : (program : ProgramView) (s s2 : State) (e : EventView) (m : Made) → Step program s e s2 → Sound s → There s m → There s2 m
there_next program s s2 e m x k (c, d, at, is, same) = ⊎_elim
    (λ y. let z : Step program s (made y.0 y.1 y.2 y.3) s2 = subst (λ z. Step program s z s2) y.4 x in
    made_there y.1 y.2 y.3 (ap (λ (z : EventView). channel_after m.port z (s.channels m.port)) y.4) z.3)
    (λ f. (shut_if (closes m.port e) (marked (mark_on m.port e) c), d, step_tells program s s2 e m.port x k ∙ f.0 m.port (s.channels m.port) ∙ ap (option_map (λ z. shut_if (closes m.port e) (marked (mark_on m.port e) z))) at, is, marked_policy (closes m.port e) (mark_on m.port e) c ∙ same))
    (made_or_marked e) where
      made_there : (q : ℕ) (what : WhatView) (moment : Option ℕ) → channel_after m.port e (s.channels m.port) ≡ cond (eqb q m.port) (channel_made what) (s.channels m.port) → s.channels q ≡ None → There s2 m
      made_there q what moment after none = by (eqb q m.port) refl after where
        by : (b : Bool) → eqb q m.port ≡ b → channel_after m.port e (s.channels m.port) ≡ cond b (channel_made what) (s.channels m.port) → There s2 m
        by true qp after = absurd (let j : None ≡ Some c = sym none ∙ ap s.channels (eqb-true q m.port qp) ∙ at in cc)
        by false qp after = (c, d, step_tells program s s2 e m.port x k ∙ after ∙ at, is, same)

pub absent : (s : State) (q : ℕ) (ms : List Made) → s.channels q ≡ None → Each (There s) ms → NotAmong q ms
absent s q [] none all = tt
absent s q (m ∷ ms) none all =
    (λ e. let j : None ≡ Some all.0.0 = sym none ∙ ap s.channels e ∙ all.0.2 in cc, absent s q ms none all.1)

there_all : (program : ProgramView) (s s2 : State) (e : EventView) (ms : List Made) → Step program s e s2 → Sound s → Each (There s) ms → Each (There s2) ms
there_all program s s2 e [] x k all = tt
there_all program s s2 e (m ∷ ms) x k all = (there_next program s s2 e m x k all.0, there_all program s s2 e ms x k all.1)

itself : {A : Type 0} (q : ℕ) (x y : A) → cond (eqb q q) x y ≡ x
itself {A} q x y = by (eqb q q) (eqb_refl q) where
  by : (b : Bool) → T b → cond b x y ≡ x
  by true t = refl
  by false t = absurd t

-- with the channel that is made, if it is one
module _ (program : ProgramView) (s s2 : State) (t q : ℕ) (what : WhatView) (moment : Option ℕ) (x : Step program s (made t q what moment) s2) (k : Sound s) where
  new_one : Made
  new_one = record { port = q; what = what; moment = moment }

  there_new : (d : Channel) → channel_made what ≡ Some d → There s2 (record { port = q; what = what; moment = moment })
  there_new d is = (d, d, step_tells program s s2 (made t q what moment) q x k ∙ itself q (channel_made what) (s.channels q) ∙ is, is, refl)

  pub there_made : (ms : List Made) → Each (There s) ms → Each (There s2) (with_channel_made (made t q what moment) ms)
  there_made ms all = by (channel_made what) refl where
    by : (o : Option Channel) → channel_made what ≡ o → Each (There s2) (cond (is_some o) (made_placed (record { port = q; what = what; moment = moment }) ms) ms)
    by None is = there_all program s s2 (made t q what moment) ms x k all
    by (Some d) is = each_placed (There s2) (record { port = q; what = what; moment = moment }) ms (there_new d is) (there_all program s s2 (made t q what moment) ms x k all)

  pub rising_made : (ms : List Made) → Each (There s) ms → Rising ms → Rising (with_channel_made (made t q what moment) ms)
  rising_made ms all r = by (is_some (channel_made what)) where
    by : (b : Bool) → Rising (cond b (made_placed (record { port = q; what = what; moment = moment }) ms) ms)
    by true = placed_rising (record { port = q; what = what; moment = moment }) ms (absent s q ms x.3 all) r
    by false = r

-- a channel behind an event that makes none was there before
was_there : (o u : Option Channel) (f : Channel → Channel) (d : Channel) → u ≡ option_map f o → u ≡ Some d → (c : Channel) × (o ≡ Some c)
was_there None u f d e is = absurd (let j : None ≡ Some d = sym e ∙ is in cc)
was_there (Some c) u f d e is = (c, refl)

among_made : (p t q : ℕ) (what : WhatView) (moment : Option ℕ) (ms : List Made) → IsAmong p ms → IsAmong p (with_channel_made (made t q what moment) ms)
among_made p t q what moment ms h = by (is_some (channel_made what)) where
  by : (b : Bool) → IsAmong p (cond b (made_placed (record { port = q; what = what; moment = moment }) ms) ms)
  by true = among_placed p (record { port = q; what = what; moment = moment }) ms h
  by false = h

-- where a channel is made at q, it is among those that are made
made_among : (t q : ℕ) (what : WhatView) (moment : Option ℕ) (ms : List Made) (d : Channel) → channel_made what ≡ Some d → IsAmong q (with_channel_made (made t q what moment) ms)
made_among t q what moment ms d is = by (channel_made what) is where
  by : (o : Option Channel) → o ≡ Some d → IsAmong q (cond (is_some o) (made_placed (record { port = q; what = what; moment = moment }) ms) ms)
  by None e = absurd (let j : None ≡ Some d = e in cc)
  by (Some c) e = among_new (record { port = q; what = what; moment = moment }) ms

listed_made : (t q : ℕ) (what : WhatView) (moment : Option ℕ) (ms : List Made) (f : Channels) → ((p : ℕ) (c : Channel) → f p ≡ Some c → IsAmong p ms)
    → (p : ℕ) (d : Channel) → cond (eqb q p) (channel_made what) (f p) ≡ Some d → IsAmong p (with_channel_made (made t q what moment) ms)
listed_made t q what moment ms f all p d = by (eqb q p) refl where
  by : (b : Bool) → eqb q p ≡ b → cond b (channel_made what) (f p) ≡ Some d → IsAmong p (with_channel_made (made t q what moment) ms)
  by true is e = subst (λ n. IsAmong n (with_channel_made (made t q what moment) ms)) (eqb-true q p is) (made_among t q what moment ms d e)
  by false is e = among_made p t q what moment ms (all p d e)

-- one event more
pub facts_next : (program : ProgramView) (es : List EventView) (s s2 : State) (e : EventView) → Step program s e s2 → Facts es s → Facts (es ++ e ∷ []) s2
facts_next program es s s2 e x f = ⊎_elim
    (λ y. subst (λ z. Facts (es ++ z ∷ []) s2) (sym y.4) (at_made y.0 y.1 y.2 y.3 (subst (λ z. Step program s z s2) y.4 x)))
    (λ y. record {
      sound = step_sound program s s2 e x f.sound;
      balanced = λ p. subst (Balanced (es ++ e ∷ []) p) (sym (step_tells program s s2 e p x f.sound ∙ y.0 p (s.channels p))) (balanced_marked es e p (s.channels p) (mark_at program s s2 e p x) (f.balanced p));
      there = subst (Each (There s2)) (sym (made_last es e ∙ y.1 (channels_made es))) (there_all program s s2 e (channels_made es) x f.sound f.there);
      rising = subst Rising (sym (made_last es e ∙ y.1 (channels_made es))) f.rising;
      listed = λ p d is.
          let was = was_there (s.channels p) (s2.channels p) (λ c. shut_if (closes p e) (marked (mark_on p e) c)) d (step_tells program s s2 e p x f.sound ∙ y.0 p (s.channels p)) is in
          subst (IsAmong p) (sym (made_last es e ∙ y.1 (channels_made es))) (f.listed p was.0 was.1);
    })
    (made_or_marked e) where
      at_made : (t q : ℕ) (what : WhatView) (moment : Option ℕ) → Step program s (made t q what moment) s2 → Facts (es ++ made t q what moment ∷ []) s2
      at_made t q what moment x = record {
        sound = step_sound program s s2 (made t q what moment) x f.sound;
        balanced = λ p. subst (Balanced (es ++ made t q what moment ∷ []) p) (sym (step_tells program s s2 (made t q what moment) p x f.sound)) (balanced_made es t q what moment p s.channels x.3 (f.balanced p));
        there = subst (Each (There s2)) (sym (made_last es (made t q what moment))) (there_made program s s2 t q what moment x f.sound (channels_made es) f.there);
        rising = subst Rising (sym (made_last es (made t q what moment))) (rising_made program s s2 t q what moment x f.sound (channels_made es) f.there f.rising);
        listed = λ p d is. subst (IsAmong p) (sym (made_last es (made t q what moment)))
            (listed_made t q what moment (channels_made es) s.channels f.listed p d (sym (step_tells program s s2 (made t q what moment) p x f.sound) ∙ is));
      }

facts_steps : (program : ProgramView) (before es : List EventView) (s s2 : State) → Steps program s es s2 → Facts before s → Facts (before ++ es) s2
facts_steps program before [] s s2 x f = subst (λ z. Facts z s2) (sym (append-nil before)) (subst (Facts before) (sym x) f)
facts_steps program before (e ∷ es) s s2 (mid, x, more) f =
    subst (λ z. Facts z s2) (append_assoc before (e ∷ []) es) (facts_steps program (before ++ e ∷ []) es mid s2 more (facts_next program before s mid e x f))

facts_open : (program : ProgramView) (s : State) → Opening program s → Facts [] s
facts_open program s x = record {
  sound = opening_sound program s x;
  balanced = λ p. subst (λ (z : State). Balanced [] p (z.channels p)) (sym x.2) (refl, refl, refl);
  there = tt;
  rising = tt;
  listed = λ p d is. absurd (let j : None ≡ Some d = sym (ap (λ (z : State). z.channels p) x.2) ∙ is in cc);
}

-- what holds of a legal journal and its state
pub facts : (program : ProgramView) (es : List EventView) (s : State) → Reaches program es s → Facts es s
facts program es s r = facts_steps program [] es r.opening s r.steps (facts_open program r.opening r.opens)

-- what was made is there
pub among_there : (s : State) (p : ℕ) (ms : List Made) → Each (There s) ms → IsAmong p ms → (c : Channel) × (s.channels p ≡ Some c)
among_there s p [] all h = absurd h
among_there s p (m ∷ ms) all h = ⊎_elim (λ e. (all.0.0, ap s.channels e ∙ all.0.2)) (λ k. among_there s p ms all.1 k) h

some_is : (o : Option Channel) → IsSome o → (c : Channel) × (o ≡ Some c)
some_is None h = absurd (let j : false ≡ true = h in cc)
some_is (Some c) h = (c, refl)

is_some_of : (o : Option Channel) (c : Channel) → o ≡ Some c → IsSome o
is_some_of o c e = ap is_some e

-- the channels that are made are those that are there
pub listing : (program : ProgramView) (es : List EventView) (s : State) (p : ℕ) → Reaches program es s → IsAmong p (channels_made es) ↔ IsSome (s.channels p)
listing program es s p r = let f = facts program es s r in (
  λ h. (let k = among_there s p (channels_made es) f.there h in is_some_of (s.channels p) k.0 k.1),
  λ h. (let k = some_is (s.channels p) h in f.listed p k.0 k.1),
)
