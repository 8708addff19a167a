-- Several channels are closed at once, in the parts and in the state.
use Rattle.std.proofs.Common.{◌≡◌, ℕ, List, [], ◌∷◌, refl, sym, ap, ◌∙◌, subst, Bool, true, false, cond, Option, Some, None, option_map, eq-eqb, ne_eqb}
use Rattle.std.proofs.lemmas.Map.{update_here, update_apart}
use mathlib.Core.Logic.{dite}
use native.Mathlib.Decide.{ℕ_discrete}
use Rattle.ca_term.specs.declared.event.Side.{Side}
use Rattle.ca_term.specs.declared.event.Side.TheVariants.{Take, Put}
use Rattle.ca_meaning.specs.Channel.{Channel, shut}
use Rattle.ca_meaning.specs.Wait.{Wait, is_among}
use Rattle.ca_meaning.specs.State.{Channels, shut_at, shut_all}
use Rattle.ca_commit.specs.Contents.{Kept, alive, at_key, channel_of, home, on, whole}
use Rattle.ca_commit.specs.Holds.{EachNamed, KeepsChannels, live_of, shut_in, shut_kept}
use Rattle.ca_commit.specs.Running.{or_was}
use Rattle.ca_commit.proofs.Laid.{Within, laid}

shut_twice : (o : Option Channel) → option_map shut (option_map shut o) ≡ option_map shut o
shut_twice None = refl
shut_twice (Some c) = refl

-- the channels of all the ports are closed, each once
pub shut_all_is : (ps : List ℕ) (ch : Channels) (q : ℕ) → shut_all ps ch q ≡ cond (is_among q ps) (option_map shut (ch q)) (ch q)
shut_all_is [] ch q = refl
shut_all_is (p ∷ ps) ch q = shut_all_is ps (shut_at p ch) q ∙ dite (ℕ_discrete p q)
    (λ e. ap (λ (o : Option Channel). cond (is_among q ps) (option_map shut o) o) (ap (shut_at p ch) (sym e) ∙ update_here ch p (option_map shut (ch p)) ∙ ap (λ z. option_map shut (ch z)) e)
    ∙ by (is_among q ps) (ch q) ∙ sym (ap (λ c. cond (cond c true (is_among q ps)) (option_map shut (ch q)) (ch q)) (eq-eqb q p (sym e))))
    (λ ne. ap (λ (o : Option Channel). cond (is_among q ps) (option_map shut o) o) (update_apart ch p (option_map shut (ch p)) q (λ e. ne (sym e)))
    ∙ sym (ap (λ c. cond (cond c true (is_among q ps)) (option_map shut (ch q)) (ch q)) (ne_eqb q p (λ e. ne (sym e))))) where
      by : (b : Bool) (o : Option Channel) → cond b (option_map shut (option_map shut o)) (option_map shut o) ≡ option_map shut o
      by true o = shut_twice o
      by false o = refl

shut_from : (ps : List ℕ) (ports : ℕ → Option Kept) (q : ℕ) (k : Kept) → shut_in ps ports q ≡ Some k → (j : Kept) × (ports q ≡ Some j) × ((side : Side) → on side k ≡ on side j)
shut_from ps ports q k e = by (is_among q ps) (ports q) refl e where
  same : (side : Side) (j : Kept) → on side (shut_kept j) ≡ on side j
  same Take j = refl
  same Put j = refl

  by : (b : Bool) (o : Option Kept) → ports q ≡ o → cond b (option_map shut_kept o) o ≡ Some k → (j : Kept) × (ports q ≡ Some j) × ((side : Side) → on side k ≡ on side j)
  by true None is e = absurd (let z : None ≡ Some k = e in cc)
  by true (Some j) is e = let z : shut_kept j ≡ k = cc in (j, is, λ side. ap (on side) (sym z) ∙ same side j)
  by false None is e = absurd (let z : None ≡ Some k = e in cc)
  by false (Some j) is e = let z : j ≡ k = cc in (j, is, λ side. ap (on side) (sym z))

pub shut_old : (ps : List ℕ) (ports : ℕ → Option Kept) (q : ℕ) (k : Kept) → shut_in ps ports q ≡ Some k → (j : Kept) × (ports q ≡ Some j)
shut_old ps ports q k e = let f = shut_from ps ports q k e in (f.0, f.1)

shut_none : (ps : List ℕ) (ports : ℕ → Option Kept) (q : ℕ) → shut_in ps ports q ≡ None → ports q ≡ None
shut_none ps ports q e = by (is_among q ps) (ports q) e where
  by : (b : Bool) (o : Option Kept) → cond b (option_map shut_kept o) o ≡ None → o ≡ None
  by true None e = refl
  by true (Some j) e = absurd (let z : Some (shut_kept j) ≡ None = e in cc)
  by false o e = e

pub shut_holds : (ps : List ℕ) (ports : ℕ → Option Kept) (alive : ℕ → Bool) (ch : Channels) (waits : List Wait) (used : List ℕ) → KeepsChannels ports alive ch waits used → KeepsChannels (shut_in ps ports) alive (shut_all ps ch) waits used
shut_holds ps ports alive ch waits used h = record {
  channels_are = λ q. shut_all_is ps ch q ∙ by (is_among q ps) (ch q) (ports q) (h.channels_are q);
  queues = λ side q k e. let f = shut_from ps ports q k e in ap (live_of alive) (f.2 side) ∙ h.queues side q f.0 f.1;
  nowhere = λ side q e. h.nowhere side q (shut_none ps ports q e);
  named = λ side q k e. let f = shut_from ps ports q k e in subst (EachNamed used) (sym (f.2 side)) (h.named side q f.0 f.1);
  living = h.living;
  given = h.given;
  differ = h.differ;
} where
  by : (b : Bool) (c : Option Channel) (o : Option Kept) → c ≡ channel_of o → cond b (option_map shut c) c ≡ channel_of (cond b (option_map shut_kept o) o)
  by true c None e = ap (option_map shut) e
  by true c (Some k) e = ap (option_map shut) e
  by false c o e = e

-- the banks that a Tick touches, and all of them
pub laid_shut : (now old new : ℕ → Option (ℕ → Option Kept)) (ps : List ℕ) → Within old now → ((i : ℕ) → new i ≡ option_map (shut_in ps) (old i)) → ((p : ℕ) → is_among p ps ≡ true → (f : ℕ → Option Kept) × (old (home p) ≡ Some f))
    → (q : ℕ) → whole (laid now new) q ≡ shut_in ps (whole now) q
laid_shut now old new ps in' is there q = by (old (home q)) refl where
  unnamed : (b : Bool) → is_among q ps ≡ b → old (home q) ≡ None → is_among q ps ≡ false
  unnamed false e f = e
  unnamed true e f = absurd (let t = there q e in let k : None ≡ Some t.0 = sym f ∙ t.1 in cc)

  by : (o : Option (ℕ → Option Kept)) → old (home q) ≡ o → whole (laid now new) q ≡ shut_in ps (whole now) q
  by (Some f) e = ap (λ (o : Option (ℕ → Option Kept)). at_key (or_was o (now (home q))) q) (is (home q) ∙ ap (option_map (shut_in ps)) e)
      ∙ ap (λ (o : Option (ℕ → Option Kept)). cond (is_among q ps) (option_map shut_kept (at_key o q)) (at_key o q)) (sym (in' (home q) f e))
  by None e = ap (λ (o : Option (ℕ → Option Kept)). at_key (or_was o (now (home q))) q) (is (home q) ∙ ap (option_map (shut_in ps)) e)
      ∙ sym (ap (λ c. cond c (option_map shut_kept (whole now q)) (whole now q)) (unnamed (is_among q ps) refl e))
