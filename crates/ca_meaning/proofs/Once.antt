-- Each wait number is made once and completed once.
use Rattle.std.proofs.Common.{◌≡◌, ◌⊎◌, inl, inr, ⊎_elim, ℕ, suc, ◌≤◌, List, [], ◌∷◌, ◌++◌, refl, sym, ap, ◌∙◌, arith, Bool, true, false, cond, Some, None, eqb, eqb-true}
use Rattle.ca_term.specs.declared.event.Side.TheVariants.{Take, Put}
use Rattle.ca_term.specs.declared.event.Ending.TheVariants.{Ended, Faulted}
use Rattle.ca_term.specs.Program.{ProgramView}
use Rattle.ca_term.specs.Event.{put_of, EventView, made, spawned, done, met, parked, posted, settled, defaulted, closed, registered, printed, ticked, over as is_over}
use Rattle.ca_meaning.specs.Wait.{Wait, front, port_of, without, is_live, is_among}
use Rattle.ca_meaning.specs.Row.{meets}
use Rattle.ca_meaning.specs.State.{State}
use Rattle.ca_meaning.specs.Steps.{Step, Steps}
use Rattle.ca_meaning.specs.History.{completes_wait, makes, count}
use Rattle.ca_meaning.proofs.Waits.{not_live, live_else, live-append}
use Rattle.ca_meaning.proofs.Rows.{row_channel, settle_does}
use Rattle.ca_meaning.proofs.Effects.{waits_of, used_of, met_live, settled_live}

-- what an event does to the numbers of waits
record Numbers (s : State) (e : EventView) (s2 : State) : Type 0 where
  grows : (w : ℕ) → is_among w s.used ≡ true → is_among w s2.used ≡ true
  born : (w : ℕ) → is_live w s2.waits ≡ true → (is_live w s.waits ≡ true) ⊎ ((is_among w s.used ≡ false) × (is_among w s2.used ≡ true))
  ends : (w : ℕ) → completes_wait w e ≡ true → (is_live w s.waits ≡ true) × (is_live w s2.waits ≡ false)
  new : (w : ℕ) → makes w e ≡ true → (is_among w s.used ≡ false) × (is_among w s2.used ≡ true)

not_so : {G : Type 0} (b : Bool) → b ≡ false → b ≡ true → G
not_so b f t = let k : false ≡ true = sym f ∙ t in absurd cc

same_waits : (s s2 : State) (e : EventView) → s2.waits ≡ s.waits → s2.used ≡ s.used → ((w : ℕ) → completes_wait w e ≡ false) → ((w : ℕ) → makes w e ≡ false) → Numbers s e s2
same_waits s s2 e a b n m = record {
  grows = λ w h. ap (is_among w) b ∙ h;
  born = λ w h. inl (sym (ap (is_live w) a) ∙ h);
  ends = λ w h. not_so (completes_wait w e) (n w) h;
  new = λ w h. not_so (makes w e) (m w) h;
}

new_wait : (s s2 : State) (e : EventView) (x : Wait) → is_among x.number s.used ≡ false → s2.waits ≡ s.waits ++ x ∷ [] → s2.used ≡ x.number ∷ s.used → ((w : ℕ) → completes_wait w e ≡ false) → ((w : ℕ) → makes w e ≡ eqb w x.number) → Numbers s e s2
new_wait s s2 e x fresh a b n m = record {
  grows = λ w h. ap (is_among w) b ∙ more (eqb w x.number) (is_among w s.used) h;
  born = λ w h. is (eqb w x.number) w refl (sym (live-append w s.waits x) ∙ sym (ap (is_live w) a) ∙ h);
  ends = λ w h. not_so (completes_wait w e) (n w) h;
  new = λ w h. here w (sym (m w) ∙ h);
} where
  more : (c d : Bool) → d ≡ true → cond c true d ≡ true
  more true d e = refl
  more false d e = e

  here : (w : ℕ) → eqb w x.number ≡ true → (is_among w s.used ≡ false) × (is_among w s2.used ≡ true)
  here w h = (ap (λ k. is_among k s.used) (eqb-true w x.number h) ∙ fresh, ap (is_among w) b ∙ ap (λ c. cond c true (is_among w s.used)) h)

  is : (c : Bool) (w : ℕ) → eqb w x.number ≡ c → cond c true (is_live w s.waits) ≡ true → (is_live w s.waits ≡ true) ⊎ ((is_among w s.used ≡ false) × (is_among w s2.used ≡ true))
  is true w e h = inr (here w e)
  is false w e h = inl h

less_wait : (s s2 : State) (e : EventView) (x : ℕ) → is_live x s.waits ≡ true → s2.waits ≡ without x s.waits → s2.used ≡ s.used → ((w : ℕ) → completes_wait w e ≡ eqb w x) → ((w : ℕ) → makes w e ≡ false) → Numbers s e s2
less_wait s s2 e x live a b n m = record {
  grows = λ w h. ap (is_among w) b ∙ h;
  born = λ w h. is (eqb x w) w refl (sym (ap (is_live w) a) ∙ h);
  ends = λ w h. let i = eqb-true w x (sym (n w) ∙ h) in (ap (λ k. is_live k s.waits) i ∙ live, ap (is_live w) a ∙ ap (λ k. is_live k (without x s.waits)) i ∙ not_live x s.waits);
  new = λ w h. not_so (makes w e) (m w) h;
} where
  is : (c : Bool) (w : ℕ) → eqb x w ≡ c → is_live w (without x s.waits) ≡ true → (is_live w s.waits ≡ true) ⊎ ((is_among w s.used ≡ false) × (is_among w s2.used ≡ true))
  is true w e h = absurd (let k : true ≡ false = sym h ∙ ap (λ z. is_live z (without x s.waits)) (sym (eqb-true x w e)) ∙ not_live x s.waits in cc)
  is false w e h = inl (sym (live_else w x s.waits e) ∙ h)

step_numbers : (program : ProgramView) (s s2 : State) (e : EventView) → Step program s e s2 → Numbers s e s2
step_numbers program s s2 (made t p what moment) x = same_waits s s2 _ (waits_of x.7) (used_of x.7) (λ w. refl) (λ w. refl)
step_numbers program s s2 (spawned t u kind result) x = same_waits s s2 _ (waits_of x.10) (used_of x.10) (λ w. refl) (λ w. refl)
step_numbers program s s2 (done t k b a) x = same_waits s s2 _ (waits_of x.8) (used_of x.8) (λ w. refl) (λ w. refl)
step_numbers program s s2 (met t k side p v w o) x =
    let r = row_channel (s.channels (port_of x.2)) (front Take (port_of x.2) s.waits) (front Put (port_of x.2) s.waits) x.2 (meets x.3 v) x.10 (λ k. cc) in
    less_wait s s2 _ w (ap (λ n. is_live n s.waits) (sym x.11) ∙ met_live r.0 x.2 s.waits x.3 v r.2) (waits_of x.15) (used_of x.15) (λ w. refl) (λ w. refl)
step_numbers program s s2 (parked t w bs) x = new_wait s s2 _ (record { number = w; owner = Some t; branches = bs }) x.7 (waits_of x.8) (used_of x.8) (λ w. refl) (λ w. refl)
step_numbers program s s2 (posted t w p v) x = new_wait s s2 _ (record { number = w; owner = None; branches = put_of p v ∷ [] }) x.4 (waits_of x.6) (used_of x.6) (λ w. refl) (λ w. refl)
step_numbers program s s2 (settled w k side p v) x =
    less_wait s s2 _ w (ap (λ n. is_live n s.waits) (sym x.6) ∙ settled_live x.0 p s.waits side x.2 v x.1 (settle_does x.0 (front Take p s.waits) (front Put p s.waits) side x.2 v x.1 x.5)) (waits_of x.9) (used_of x.9) (λ w. refl) (λ w. refl)
step_numbers program s s2 (defaulted t v) x = same_waits s s2 _ (waits_of x.7) (used_of x.7) (λ w. refl) (λ w. refl)
step_numbers program s s2 (closed t p) x = same_waits s s2 _ (waits_of x.4) (used_of x.4) (λ w. refl) (λ w. refl)
step_numbers program s s2 (registered t name args v) x = same_waits s s2 _ (waits_of x.6) (used_of x.6) (λ w. refl) (λ w. refl)
step_numbers program s s2 (printed t line) x = same_waits s s2 _ (waits_of x.4) (used_of x.4) (λ w. refl) (λ w. refl)
step_numbers program s s2 (ticked m ports) x = same_waits s s2 _ (waits_of x.4) (used_of x.4) (λ w. refl) (λ w. refl)
step_numbers program s s2 (is_over t Ended) x = same_waits s s2 _ (waits_of x.4) (used_of x.4) (λ w. refl) (λ w. refl)
step_numbers program s s2 (is_over t (Faulted fault place result)) x = same_waits s s2 _ (waits_of x.4) (used_of x.4) (λ w. refl) (λ w. refl)

-- a number that was given is never made again
none_made : (program : ProgramView) (es : List EventView) (s s2 : State) (w : ℕ) → Steps program s es s2 → is_among w s.used ≡ true → count (makes w) es ≡ 0
none_made program [] s s2 w x was = refl
none_made program (e ∷ es) s s2 w x was = by (makes w e) refl (none_made program es x.0 s2 w x.2 ((step_numbers program s x.0 e x.1).grows w was)) where
  by : (b : Bool) → makes w e ≡ b → count (makes w) es ≡ 0 → cond b (suc (count (makes w) es)) (count (makes w) es) ≡ 0
  by true is ih = absurd (let j : true ≡ false = sym was ∙ ((step_numbers program s x.0 e x.1).new w is).0 in cc)
  by false is ih = ih

pub made_once : (program : ProgramView) (es : List EventView) (s s2 : State) (w : ℕ) → Steps program s es s2 → count (makes w) es ≤ 1
made_once program [] s s2 w x = omega arith
made_once program (e ∷ es) s s2 w x = by (makes w e) refl (made_once program es x.0 s2 w x.2) where
  by : (b : Bool) → makes w e ≡ b → count (makes w) es ≤ 1 → cond b (suc (count (makes w) es)) (count (makes w) es) ≤ 1
  by true is ih = let z : count (makes w) es ≡ 0 = none_made program es x.0 s2 w x.2 ((step_numbers program s x.0 e x.1).new w is).1 in omega (arith, z)
  by false is ih = ih

-- a wait that was given and is gone is never completed
none_more : (program : ProgramView) (es : List EventView) (s s2 : State) (w : ℕ) → Steps program s es s2 → is_among w s.used ≡ true → is_live w s.waits ≡ false → count (completes_wait w) es ≡ 0
none_more program [] s s2 w x was gone = refl
none_more program (e ∷ es) s s2 w x was gone = by (completes_wait w e) refl (none_more program es x.0 s2 w x.2 (k.grows w was) (still (is_live w x.0.waits) refl)) where
  k : Numbers s e x.0
  k = step_numbers program s x.0 e x.1

  still : (b : Bool) → is_live w x.0.waits ≡ b → is_live w x.0.waits ≡ false
  still false e = e
  still true is = ⊎_elim (λ l. absurd (let j : true ≡ false = sym l ∙ gone in cc)) (λ f. absurd (let j : true ≡ false = sym was ∙ f.0 in cc)) (k.born w is)

  by : (b : Bool) → completes_wait w e ≡ b → count (completes_wait w) es ≡ 0 → cond b (suc (count (completes_wait w) es)) (count (completes_wait w) es) ≡ 0
  by true is ih = absurd (let j : true ≡ false = sym (k.ends w is).0 ∙ gone in cc)
  by false is ih = ih

pub completed_once : (program : ProgramView) (es : List EventView) (s s2 : State) (w : ℕ) → ((v : ℕ) → is_live v s.waits ≡ true → is_among v s.used ≡ true) → Steps program s es s2 → count (completes_wait w) es ≤ 1
completed_once program [] s s2 w given x = omega arith
completed_once program (e ∷ es) s s2 w given x = by (completes_wait w e) refl (completed_once program es x.0 s2 w (λ v l. ⊎_elim (λ a. k.grows v (given v a)) (λ a. a.1) (k.born v l)) x.2) where
  k : Numbers s e x.0
  k = step_numbers program s x.0 e x.1

  by : (b : Bool) → completes_wait w e ≡ b → count (completes_wait w) es ≤ 1 → cond b (suc (count (completes_wait w) es)) (count (completes_wait w) es) ≤ 1
  by true is ih = let d = k.ends w is in let z : count (completes_wait w) es ≡ 0 = none_more program es x.0 s2 w x.2 (k.grows w (given w d.0)) d.1 in omega (arith, z)
  by false is ih = ih
