-- Which channels can settle after an event: only those that it stirs, and those that could before.
use Rattle.std.proofs.Common.{◌≡◌, ◌⊎◌, inl, inr, ⊎_elim, ℕ, List, [], ◌∷◌, refl, sym, ap, ◌∙◌, subst, Bool, true, false, cond, Option, Some, None, option_map, eqb}
use Rattle.std.specs.Map.{update}
use Rattle.ca_value.specs.Tree.{Tree}
use Rattle.ca_term.specs.declared.event.Side.{Side}
use Rattle.ca_term.specs.declared.event.Side.TheVariants.{Take, Put}
use Rattle.ca_term.specs.declared.event.Ending.TheVariants.{Ended, Faulted}
use Rattle.ca_term.specs.Program.{ProgramView}
use Rattle.ca_term.specs.Event.{BranchView, put_of, EventView, made, spawned, done, met, parked, posted, settled, defaulted, closed, registered, printed, ticked, over as is_over, port_number}
use Rattle.ca_meaning.specs.Channel.{Channel, channel_made}
use Rattle.ca_meaning.specs.Wait.{Wait, Handler, port_of, front}
use Rattle.ca_meaning.specs.Row.{not_ready, completes, row_at, unsettled, settles}
use Rattle.ca_meaning.specs.State.{State, Channels, shut_result}
use Rattle.ca_meaning.specs.Choice.{row}
use Rattle.ca_meaning.specs.Steps.{Step}
use Rattle.ca_meaning.specs.Sound.{Sound}
use Rattle.ca_meaning.specs.Legal.{Reaches}
use Rattle.ca_meaning.specs.Solo.{CanSettle}
use Rattle.ca_meaning.proofs.Soundness.{reached_sound}
use Rattle.ca_meaning.proofs.Effects.{channels_of, waits_of}
use Rattle.ca_solo.specs.Stirs.{port_if, done_stirs, done_stirred, stirred, AmongPorts}
use Rattle.ca_solo.proofs.Ways.{CanIn, can_way, way_can, fewer_can, one_can, made_can, shut_can, joined_can, changed_can, way_back}

-- After an event only a channel that it stirs can settle, or one that could before.
abbrev Later : State → EventView → ℕ → Type 0
Later s e q = AmongPorts q (stirred s e) ⊎ CanIn s.channels s.waits q

moved_can : (s2 : State) (f : Channels) (ws : List Wait) (q : ℕ) → s2.channels ≡ f → s2.waits ≡ ws → CanIn s2.channels s2.waits q → CanIn f ws q
moved_can s2 f ws q a b k = subst (λ z. CanIn f z q) b (subst (λ (z : Channels). CanIn z s2.waits q) a k)

shut_if : (o : Option ℕ) (f : Channels) (ws : List Wait) (q : ℕ) → CanIn (shut_result o f) ws q → AmongPorts q (port_if o) ⊎ CanIn f ws q
shut_if None f ws q k = inr k
shut_if (Some p) f ws q k = shut_can (p ∷ []) f ws q k

one_stirs : (p : ℕ) (q : ℕ) (A : Type 0) → (q ≡ p) ⊎ A → AmongPorts q (p ∷ []) ⊎ A
one_stirs p q A (inl e) = inl (inl e)
one_stirs p q A (inr a) = inr a

-- a Done whose channel it doesn't stir
done_later : (s : State) (b : BranchView) (a : Tree) (d : Channel) (q : ℕ) → row s b ≡ completes a d → CanIn (update eqb s.channels (port_of b) (Some d)) s.waits q → AmongPorts q (done_stirred (s.channels (port_of b)) b) ⊎ CanIn s.channels s.waits q
done_later s b a d q picks k = at_channel (s.channels (port_of b)) refl where
  taker : Option Handler
  taker = front Take (port_of b) s.waits

  putter : Option Handler
  putter = front Put (port_of b) s.waits

  by : (c : Channel) → s.channels (port_of b) ≡ Some c → (t : Bool) → done_stirs c b ≡ t → AmongPorts q (cond t (port_of b ∷ []) []) ⊎ CanIn s.channels s.waits q
  by c at true e = one_stirs (port_of b) q (CanIn s.channels s.waits q) (one_can s.channels (port_of b) q (Some d) s.waits k)
  by c at false e = inr (changed_can s.channels (port_of b) q c d s.waits at (way_back c d b taker putter a (sym (ap (λ (o : Option Channel). row_at o taker putter b) at) ∙ picks) e) k)

  at_channel : (o : Option Channel) → s.channels (port_of b) ≡ o → AmongPorts q (done_stirred o b) ⊎ CanIn s.channels s.waits q
  at_channel None at = absurd (let n : not_ready ≡ completes a d = sym (ap (λ (o : Option Channel). row_at o taker putter b) at) ∙ picks in cc)
  at_channel (Some c) at = by c at (done_stirs c b) refl

-- a channel that settled could
pub settled_can : (program : ProgramView) (s s2 : State) (w k p : ℕ) (side : Side) (v : Tree) → Step program s (settled w k side p v) s2 → CanSettle s p
settled_can program s s2 w k p side v x = (x.0, x.4, λ n. let i : unsettled ≡ settles side x.2 v x.1 = sym n ∙ x.5 in cc)

later : (program : ProgramView) (s s2 : State) (e : EventView) → Sound s → Step program s e s2 → (q : ℕ) → CanIn s2.channels s2.waits q → Later s e q
later program s s2 (made t p what moment) sound x q k = inr (made_can s.channels p q (channel_made what) s.waits (λ side. sound.homes side p x.3) (moved_can s2 _ _ q (channels_of x.7) (waits_of x.7) k))
later program s s2 (spawned t u kind result) sound x q k = inr (moved_can s2 _ _ q (channels_of x.10) (waits_of x.10) k)
later program s s2 (done t j b a) sound x q k = done_later s b a x.3 q x.6 (moved_can s2 _ _ q (channels_of x.8) (waits_of x.8) k)
later program s s2 (met t j side p v w o) sound x q k = inr (fewer_can s.channels w q s.waits (moved_can s2 _ _ q (channels_of x.15) (waits_of x.15) k))
later program s s2 (parked t w bs) sound x q k = inr (joined_can s (record { number = w; owner = Some t; branches = bs }) q x.6 (moved_can s2 _ _ q (channels_of x.8) (waits_of x.8) k))
later program s s2 (posted t w p v) sound x q k = inr (joined_can s (record { number = w; owner = None; branches = put_of p v ∷ [] }) q x.3 (moved_can s2 _ _ q (channels_of x.6) (waits_of x.6) k))
later program s s2 (settled w j side p v) sound x q k =
    let here : CanIn s.channels s.waits p = can_way s p (settled_can program s s2 w j p side v x) in
    inr (⊎_elim (λ is. subst (CanIn s.channels s.waits) (sym is) here) (λ z. z) (one_can s.channels p q (Some x.1) s.waits (fewer_can (update eqb s.channels p (Some x.1)) w q s.waits (moved_can s2 _ _ q (channels_of x.9) (waits_of x.9) k))))
later program s s2 (defaulted t v) sound x q k = inr (moved_can s2 _ _ q (channels_of x.7) (waits_of x.7) k)
later program s s2 (closed t p) sound x q k = shut_can (p ∷ []) s.channels s.waits q (moved_can s2 _ _ q (channels_of x.4) (waits_of x.4) k)
later program s s2 (registered t name args v) sound x q k = inr (moved_can s2 _ _ q (channels_of x.6) (waits_of x.6) k)
later program s s2 (printed t line) sound x q k = inr (moved_can s2 _ _ q (channels_of x.4) (waits_of x.4) k)
later program s s2 (ticked m ports) sound x q k = shut_can ports s.channels s.waits q (moved_can s2 _ _ q (channels_of x.4) (waits_of x.4) k)
later program s s2 (is_over t Ended) sound x q k = inr (moved_can s2 _ _ q (channels_of x.4) (waits_of x.4) k)
later program s s2 (is_over t (Faulted fault place result)) sound x q k = shut_if (option_map port_number result) s.channels s.waits q (moved_can s2 _ _ q (channels_of x.4) (waits_of x.4) k)

pub settles_later : (program : ProgramView) (s s2 : State) (e : EventView) → Sound s → Step program s e s2 → (q : ℕ) → CanSettle s2 q → AmongPorts q (stirred s e) ⊎ CanSettle s q
settles_later program s s2 e sound x q k = ⊎_elim (λ i. inl i) (λ z. inr (way_can s q z)) (later program s s2 e sound x q (can_way s2 q k))

pub reached_settles_later : (program : ProgramView) (journal : List EventView) (s s2 : State) (e : EventView) → Reaches program journal s → Step program s e s2 → (q : ℕ) → CanSettle s2 q → AmongPorts q (stirred s e) ⊎ CanSettle s q
reached_settles_later program journal s s2 e r x q can = settles_later program s s2 e (reached_sound program journal s r) x q can
