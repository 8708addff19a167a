-- A channel that the held parts show at rest can't settle in the state.
use Rattle.std.proofs.Common.{◌≡◌, ℕ, List, [], ◌∷◌, refl, sym, ap, ◌∙◌, subst, Bool, true, false, ◌&&◌, cond, Option, Some, None, is_some}
use Rattle.ca_value.specs.Tree.{Tree, nil}
use Rattle.ca_term.specs.declared.event.Side.{Side}
use Rattle.ca_term.specs.declared.event.Side.TheVariants.{Put, Take}
use Rattle.ca_term.specs.Program.{ProgramView}
use Rattle.ca_meaning.specs.Body.{At}
use Rattle.ca_meaning.specs.Channel.{Channel, has_room, is_fixed}
use Rattle.ca_meaning.specs.Row.{settle_put, settle_row, settle_take, settles, unsettled}
use Rattle.ca_meaning.specs.Solo.{CanSettle}
use Rattle.ca_meaning.specs.State.{State}
use Rattle.ca_meaning.specs.Task.{TaskBody}
use Rattle.ca_meaning.specs.Wait.{Handler, front, head}
use Rattle.ca_commit.specs.Asks.{AsksSettle, SettleAsks, TakerAsks}
use Rattle.ca_commit.specs.Contents.{Kept, Parts, alive_in, at_key, channel_of, home, whole}
use Rattle.ca_commit.specs.Finding.{Glance, glance, gone, here, rests, serve, serve_taker, serving, settle_at, unseen}
use Rattle.ca_commit.proofs.Findings.{lives}
use Rattle.ca_commit.proofs.Holding.{settle_right, settles_more}
use Rattle.ca_commit.proofs.Joining.{alive_more}
use Rattle.ca_commit.proofs.Laid.{IsPart}
use Rattle.ca_commit.proofs.PlanTold.{lives_same}
use Rattle.ca_commit.proofs.Steps.{StandsFor}

-- a side in front of which somebody stands is served, or hangs on who that is
serving_on : {G : Type 0} (z : Glance) (side : Side) (h : Handler) → serving z side h ≡ rests → G
serving_on here side h e = absurd cc
serving_on gone side h e = absurd cc
serving_on unseen side h e = absurd cc

module _ (see : ℕ → Glance) where
  taker_rests : (c : Channel) (vs : List Tree) (closed : Bool) (ts : Option Handler) → c.closed ≡ closed → serve_taker see (is_some (head vs)) closed ts ≡ rests → TakerAsks (lives see) closed vs ts × (settle_take c vs ts ≡ unsettled)
  taker_rests c (v ∷ vs) closed None is e = (tt, refl)
  taker_rests c (v ∷ vs) closed (Some h) is e = serving_on (see h.wait) Take h e
  taker_rests c [] true None is e = (tt, refl)
  taker_rests c [] true (Some h) is e = serving_on (see h.wait) Take h e
  taker_rests c [] false None is e = (tt, refl)
  taker_rests c [] false (Some h) is e = (tt, ap (λ b. cond b (settles Take h nil c) unsettled) is)

  rests_by : (c : Channel) (room : Bool) (ts ps : Option Handler) → serve see room ps (serve_taker see (is_some (head c.held)) c.closed ts) ≡ rests → SettleAsks (lives see) room c ts ps × (settle_put c room ts ps ≡ unsettled)
  rests_by c false ts ps e = taker_rests c c.held c.closed ts refl e
  rests_by c true ts None e = let k = taker_rests c c.held c.closed ts refl e in ((tt, k.0), k.1)
  rests_by c true ts (Some h) e = serving_on (see h.wait) Put h e

  pub settles_nothing : (k : Kept) → settle_at see (Some k) ≡ rests → AsksSettle (lives see) k × (settle_row k.channel (head k.takes) (head k.puts) ≡ unsettled)
  settles_nothing k e = rests_by k.channel (is_fixed k.channel.policy && has_room k.channel) (head k.takes) (head k.puts) e

module _ {A : Type 0} (place : A → At) (stands : ProgramView → A → Option ℕ → TaskBody → Type 0) (program : ProgramView) (n : ℕ) where
  -- the bank of the channel is among the held parts h
  pub rests_settle_not : (now h : Parts A) (s : State) (p : ℕ) (f : ℕ → Option Kept) → StandsFor place stands program n now s → IsPart h now
      → h.bank (home p) ≡ Some f → settle_at (glance h.shard) (whole h.bank p) ≡ rests → CanSettle s p → ⊥
  rests_settle_not now h s p f st part bank e can = by (f p) refl where
    here : (o : Option Kept) → f p ≡ o → whole h.bank p ≡ o
    here o is = ap (λ (m : Option (ℕ → Option Kept)). at_key m p) bank ∙ is

    there : (o : Option Kept) → f p ≡ o → whole now.bank p ≡ o
    there o is = ap (λ (m : Option (ℕ → Option Kept)). at_key m p) (part.banks (home p) f bank) ∙ is

    channel_is : (o : Option Kept) → f p ≡ o → channel_of o ≡ Some can.0
    channel_is o is = ap channel_of (sym (there o is)) ∙ sym (st.holds.channels_are p) ∙ can.1

    settled : (k : Kept) → f p ≡ Some k → settle_row k.channel (front Take p s.waits) (front Put p s.waits) ≡ unsettled
    settled k is =
        let r = settles_nothing (glance h.shard) k (ap (settle_at (glance h.shard)) (sym (here (Some k) is)) ∙ e) in
        settle_right (whole now.bank) (alive_in now) s p k st.holds (there (Some k) is) (settles_more (alive_in h) (alive_in now) (alive_more h now part) k (subst (λ (al : ℕ → Bool). AsksSettle al k) (lives_same h) r.0)) ∙ r.1

    by : (o : Option Kept) → f p ≡ o → ⊥
    by None is = let z : None ≡ Some can.0 = channel_is None is in absurd cc
    by (Some k) is =
        let z : Some k.channel ≡ Some can.0 = channel_is (Some k) is in
        let same : k.channel ≡ can.0 = cc in
        can.2 (subst (λ (c : Channel). settle_row c (front Take p s.waits) (front Put p s.waits) ≡ unsettled) same (settled k is))
