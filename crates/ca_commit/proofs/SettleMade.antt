-- What is made for a channel that settles is made for what it then still settles.
use Rattle.std.proofs.Common.{◌≡◌, ℕ, ◌<◌, List, refl, sym, ap, ap₂, ◌∙◌, subst, Bool, true, false, ◌&&◌, Option, Some, None, is_some, Result, Ok, Err, OnOk}
use Rattle.ca_value.specs.Tree.{Tree}
use Rattle.ca_value.specs.Buffer.{Policy, dropping_buffer, fixed_buffer, no_buffer, promise_buffer, room_by, sliding_buffer}
use Rattle.ca_term.specs.declared.event.Side.{Side}
use Rattle.ca_term.specs.declared.event.Side.TheVariants.{Put, Take}
use Rattle.ca_meaning.specs.Body.{At}
use Rattle.ca_meaning.specs.Wait.{Handler}
use Rattle.ca_bank.specs.Kept.{buffer_at, buffer_spare, buffered_by, takes_one_more}
use Rattle.ca_commit.specs.Contents.{Kept, at_key, home, whole}
use Rattle.ca_commit.specs.Finding.{Glance, Serving, glance, gone, here, is_fixed_at, serve, serve_front, serve_taker, serves, serving, settle_at, unseen, front_at, holds_one}
use Rattle.ca_bank.specs.Kept.{is_closed_at}
use Rattle.ca_commit.specs.Settling.{IsMadeToServe, IsMadeToSettle, served_in}
use Rattle.ca_commit.specs.Showing.{channels_held, spares_held, waits_held}
use Rattle.ca_commit.specs.declared.held.Held.{Held}
use Rattle.ca_commit.specs.declared.held.HeldShard.{HeldShard}
use Rattle.ca_commit.specs.declared.listing.Listing.{Listing}

buffers : (p : Policy) (n : ℕ) (vs : List Tree) (full : Bool) → room_by p full ≡ true → is_some (buffered_by p n vs) ≡ true
buffers no_buffer n vs full e = absurd cc
buffers fixed_buffer n vs full e = refl
buffers dropping_buffer n vs full e = refl
buffers sliding_buffer n vs full e = refl
buffers promise_buffer n vs full e = refl

-- what has room has a buffer
pub room_buffers : (o : Option Kept) → takes_one_more o ≡ true → is_some (buffer_at o) ≡ true
room_buffers None e = absurd cc
room_buffers (Some k) e = buffers k.channel.policy k.channel.capacity k.channel.held _ e

module _ (see : ℕ → Glance) where
  no_put_front : (ts : Option Handler) (w i : ℕ) → serve_front see Take ts ≡ serves Put w i → ⊥
  no_put_front None w i e = absurd cc
  no_put_front (Some h) w i e = by (see h.wait) e where
    by : (g : Glance) → serving g Take h ≡ serves Put w i → ⊥
    by here e = cc
    by gone e = cc
    by unseen e = cc

  no_put : (holds closed : Bool) (ts : Option Handler) (w i : ℕ) → serve_taker see holds closed ts ≡ serves Put w i → ⊥
  no_put true closed ts w i e = no_put_front ts w i e
  no_put false true ts w i e = no_put_front ts w i e
  no_put false false ts w i e = cc

  has_room : (b : Bool) (ps : Option Handler) (taker : Serving) (w i : ℕ) → (taker ≡ serves Put w i → ⊥) → serve see b ps taker ≡ serves Put w i → b ≡ true
  has_room true ps taker w i never e = refl
  has_room false ps taker w i never e = absurd (never e)

  both : (a b : Bool) → a && b ≡ true → b ≡ true
  both true b e = e
  both false b e = absurd cc

  pub put_room : (o : Option Kept) (w i : ℕ) → settle_at see o ≡ serves Put w i → takes_one_more o ≡ true
  put_room o w i e = both (is_fixed_at o) (takes_one_more o) (has_room (is_fixed_at o && takes_one_more o) (front_at Put o) (serve_taker see (holds_one o) (is_closed_at o) (front_at Take o)) w i (no_put (holds_one o) (is_closed_at o) (front_at Take o) w i) e)

pub settle_made : {A E T : Type 0} (place : A → At) (old h : Held A) (p : ℕ) (side : Side) (w i : ℕ) (r : Result T E) → served_in old p ≡ serves side w i → h.shards ≡ old.shards → ((j : ℕ) → channels_held h.banks j ≡ channels_held old.banks j)
    → OnOk r (IsMadeToServe place h p side w) → OnOk r (is_some (buffer_at (whole (channels_held old.banks) p)) ≡ true → 0 < buffer_spare (whole (spares_held h.banks) p)) → OnOk r (IsMadeToSettle place h p (served_in h p))
settle_made place old h p side w i (Err e) s shards channels made room = tt
settle_made {A} place old h p side w i (Ok t) s shards channels made room = subst (λ (z : Serving). IsMadeToSettle place h p z) (sym now) (made, λ e. room (room_buffers (whole (channels_held old.banks) p) (put_room (glance (waits_held old.shards)) (whole (channels_held old.banks) p) w i (s ∙ ap (λ (d : Side). serves d w i) e)))) where
  now : served_in h p ≡ serves side w i
  now = ap₂ (λ (z : Listing (HeldShard A)) (o : Option Kept). settle_at (glance (waits_held z)) o) shards (ap (λ (f : Option (ℕ → Option Kept)). at_key f p) (channels (home p))) ∙ s
