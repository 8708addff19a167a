-- Held parts, and all parts with what an event left laid over them.
use Rattle.std.proofs.Common.{◌≡◌, ℕ, refl, sym, ap, ◌∙◌, subst, Bool, true, false, cond, Option, Some, None, eqb, eqb-true, ne_eqb}
use Rattle.std.specs.Map.{update}
use Rattle.std.proofs.lemmas.Map.{update_here, update_apart}
use mathlib.Core.Logic.{dite}
use native.Mathlib.Decide.{ℕ_discrete}
use Rattle.ca_commit.specs.Contents.{Parts, TimersPart, at_key, home, whole}
use Rattle.ca_commit.specs.Moves.{Alters, Becomes, Stays}
use Rattle.ca_commit.specs.Running.{or_was}

-- the contents now, where an event left new ones
abbrev pub laid : {X : Type 0} → (ℕ → Option X) → (ℕ → Option X) → ℕ → Option X
laid now new i = or_was (new i) (now i)

-- what is held is there
abbrev pub Within : {X : Type 0} → (ℕ → Option X) → (ℕ → Option X) → Type 0
Within {X} old now = (i : ℕ) (x : X) → old i ≡ Some x → now i ≡ Some x

pub record IsPart {A : Type 0} (old now : Parts A) : Type 0 where
  pub lanes : Within old.lane now.lane
  pub banks : Within old.bank now.bank
  pub shards : Within old.shard now.shard
  pub readys : Within old.ready now.ready
  pub registries : Within old.registry now.registry
  pub clocks : (c : TimersPart) → old.timers ≡ Some c → now.timers ≡ Some c

abbrev pub laid_parts : {A : Type 0} → Parts A → Parts A → Parts A
laid_parts now new = record { lane = laid now.lane new.lane; bank = laid now.bank new.bank; registry = laid now.registry new.registry; shard = laid now.shard new.shard; ready = laid now.ready new.ready; timers = or_was new.timers now.timers }

-- functions that agree everywhere are equal
pub same_map : {X Y : Type 0} (f g : X → Y) → ((x : X) → f x ≡ g x) → f ≡ g
same_map f g e = λ i x. e x i

pub laid_same : {X : Type 0} (o n x : Option X) → n ≡ o → ((y : X) → o ≡ Some y → x ≡ Some y) → or_was n x ≡ x
laid_same None n x e w = ap (λ k. or_was k x) e
laid_same (Some y) n x e w = ap (λ k. or_was k x) e ∙ sym (w y refl)

-- a part that is left as it was is as it was
pub untouched : {X : Type 0} (now old new : ℕ → Option X) → Within old now → Stays old new → laid now new ≡ now
untouched now old new in' e = same_map (laid now new) now (λ i. laid_same (old i) (new i) (now i) (e i) (in' i))

-- one part's content changes, in all of them too
pub laid_becomes : {X : Type 0} (now old new : ℕ → Option X) (i : ℕ) (x y : X) → Within old now → Becomes old new i x y → laid now new ≡ update eqb now i (Some y)
laid_becomes now old new i x y in' b = same_map (laid now new) (update eqb now i (Some y)) (λ j. dite (ℕ_discrete i j)
    (λ e. subst (λ (j : ℕ). or_was (new j) (now j) ≡ update eqb now i (Some y) j) e (ap (λ n. or_was n (now i)) b.is ∙ sym (update_here now i (Some y))))
    (λ ne. laid_same (old j) (new j) (now j) (b.others j (λ e. ne (sym e))) (in' j) ∙ sym (update_apart now i (Some y) j (λ e. ne (sym e)))))

module _ {X : Type 0} where
  -- several parts are one map: where one entry changes, the whole is changed there alone
  pub laid_whole : (now old new : ℕ → Option (ℕ → Option X)) (n : ℕ) (w : Option X) → Within old now → Alters old new n w → (q : ℕ) → whole (laid now new) q ≡ update eqb (whole now) n w q
  laid_whole now old new n w in' a q = dite (ℕ_discrete (home q) (home n))
      (λ e. ap (λ (i : ℕ). at_key (or_was (new i) (now i)) q) e ∙ ap (λ (o : Option (ℕ → Option X)). at_key (or_was o (now (home n))) q) a.is
      ∙ ap (λ (o : Option X). cond (eqb n q) w o) (sym (ap (λ (i : ℕ). at_key (now i) q) e ∙ ap (λ (o : Option (ℕ → Option X)). at_key o q) (in' (home n) a.from a.was))))
      (λ ne. ap (λ (o : Option (ℕ → Option X)). at_key o q) (laid_same {X = ℕ → Option X} (old (home q)) (new (home q)) (now (home q)) (a.others (home q) ne) (in' (home q)))
      ∙ sym (ap (λ c. cond c w (whole now q)) (ne_eqb n q (λ e. ne (ap home (sym e))))))

  -- what is seen in the held parts is so in all
  pub seen : (now old : ℕ → Option (ℕ → Option X)) → Within old now → (n : ℕ) (x : X) → whole old n ≡ Some x → whole now n ≡ Some x
  seen now old in' n x = by (old (home n)) refl where
    by : (o : Option (ℕ → Option X)) → old (home n) ≡ o → at_key o n ≡ Some x → at_key (now (home n)) n ≡ Some x
    by None e h = absurd (let k : None ≡ Some x = h in cc)
    by (Some f) e h = ap (λ o. at_key o n) (in' (home n) f e) ∙ h

-- nothing is put where nothing is
pub none_put : {X : Type 0} (f : ℕ → Option X) (p : ℕ) → f p ≡ None → update eqb f p None ≡ f
none_put {X} f p e = same_map (update eqb f p None) f (λ q. by (eqb p q) q refl) where
  by : (b : Bool) (q : ℕ) → eqb p q ≡ b → cond b None (f q) ≡ f q
  by true q is = sym e ∙ ap f (eqb-true p q is)
  by false q is = refl
