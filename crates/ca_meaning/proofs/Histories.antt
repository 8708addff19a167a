-- What a journal tells of a channel is what the state has.
use Rattle.std.proofs.Common.{◌≡◌, ℕ, List, [], ◌∷◌, refl, sym, ap, ◌∙◌, subst, Bool, true, false, cond, Option, Some, None, option_map, eqb, eqb-true}
use Rattle.std.specs.Map.{update}
use Rattle.ca_value.specs.Tree.{Tree}
use Rattle.ca_term.specs.declared.event.Side.{Side}
use Rattle.ca_term.specs.declared.event.Side.TheVariants.{Take, Put}
use Rattle.ca_term.specs.declared.event.Ending.TheVariants.{Ended, Faulted}
use Rattle.ca_term.specs.Program.{ProgramView}
use Rattle.ca_term.specs.Event.{BranchView, take_of, put_of, EventView, made, spawned, done, met, parked, posted, settled, defaulted, closed, registered, printed, ticked, over as is_over, port_number}
use Rattle.ca_meaning.specs.Operands.{is_nil, truth}
use Rattle.ca_meaning.specs.Channel.{Channel, shut}
use Rattle.ca_meaning.specs.Wait.{Handler, port_of, front}
use Rattle.ca_meaning.specs.Row.{not_ready, completes as row_completes, row_on}
use Rattle.ca_meaning.specs.State.{State, Channels, shut_at, shut_all, shut_result}
use Rattle.ca_meaning.specs.Steps.{Step, Steps}
use Rattle.ca_meaning.specs.Sound.{Each, IsNotNil, Sound}
use Rattle.ca_meaning.specs.History.{Mark, accept, give, give_none, pass, no_mark, mark_of_take, mark_of_put, mark_of_done, mark_of_settled, marked, is_named, is_result, shut_if, channel_after, channel_from}
use Rattle.ca_meaning.proofs.Rows.{TakeDone, gave, nothing_left, take_done, PutDone, refused, promised, accepted, put_done, Settled, moved_in, served, served_nil, settle_does, row_channel}
use Rattle.ca_meaning.proofs.Effects.{channels_of}
use Rattle.ca_meaning.proofs.Soundness.{step_sound}

-- the channel after it was done
done_marked : (c : Channel) (b : BranchView) (ts ps : Option Handler) (a : Tree) (d : Channel) → row_on c ts ps b ≡ row_completes a d → Each IsNotNil c.held → d ≡ marked (mark_of_done b a) c
done_marked c (take_of p) ts ps a d e n = by (take_done c ps a d e) where
  by : TakeDone c a d → d ≡ marked (mark_of_take a) c
  by (gave vs is k) = k ∙ sym (ap (λ (t : Bool). marked (cond t give_none (give a)) c) (subst (Each IsNotNil) is n).0)
  by (nothing_left is cl an k) = k ∙ sym (ap (λ (t : Bool). marked (cond t give_none (give a)) c) (ap is_nil an))
done_marked c (put_of p v) ts ps a d e n = by (put_done c ts ps v a d e) where
  by : PutDone c ts ps v a d → d ≡ marked (mark_of_put v a) c
  by (refused cl an k) = k ∙ sym (ap (λ (t : Bool). marked (cond t (accept v) no_mark) c) (ap truth an))
  by (promised cl pr an k) = k ∙ sym (ap (λ (t : Bool). marked (cond t (accept v) no_mark) c) (ap truth an))
  by (accepted cl pr r t o an k) = k ∙ sym (ap (λ (t : Bool). marked (cond t (accept v) no_mark) c) (ap truth an))

settled_marked : (c : Channel) (ts ps : Option Handler) (side : Side) (h : Handler) (v : Tree) (d : Channel) → Settled c ts ps side h v d → Each IsNotNil c.held → d ≡ marked (mark_of_settled side v) c
settled_marked c ts ps side h v d (moved_in sd b n k fx r) nn = k ∙ ap (λ (z : Side). marked (mark_of_settled z v) c) (sym sd)
settled_marked c ts ps side h v d (served sd b vs is k) nn =
    k ∙ sym (ap (λ (t : Bool). marked (cond t give_none (give v)) c) (subst (Each IsNotNil) is nn).0) ∙ ap (λ (z : Side). marked (mark_of_settled z v) c) (sym sd)
settled_marked c ts ps side h v d (served_nil sd b is cl vn k) nn =
    k ∙ sym (ap (λ (t : Bool). marked (cond t give_none (give v)) c) (ap is_nil vn)) ∙ ap (λ (z : Side). marked (mark_of_settled z v) c) (sym sd)

unchanged : (o : Option Channel) → o ≡ option_map (λ c. shut_if false (marked no_mark c)) o
unchanged None = refl
unchanged (Some c) = refl

passed_by : (b : Bool) (v : Tree) (o : Option Channel) → o ≡ option_map (λ c. shut_if false (marked (cond b (pass v) no_mark) c)) o
passed_by true v None = refl
passed_by true v (Some c) = refl
passed_by false v None = refl
passed_by false v (Some c) = refl

-- one channel changed by its mark
one_marked : (f : Channels) (q p : ℕ) (c d : Channel) (m : Mark) → f q ≡ Some c → d ≡ marked m c → update eqb f q (Some d) p ≡ option_map (λ c. shut_if false (marked (cond (eqb q p) m no_mark) c)) (f p)
one_marked f q p c d m is k = by (eqb q p) refl where
  by : (b : Bool) → eqb q p ≡ b → cond b (Some d) (f p) ≡ option_map (λ c. shut_if false (marked (cond b m no_mark) c)) (f p)
  by true e = ap (λ z. Some z) k ∙ ap (option_map (λ c. shut_if false (marked m c))) (sym is ∙ ap f (eqb-true q p e))
  by false e = unchanged (f p)

-- a port that is closed
one_shut : (f : Channels) (q p : ℕ) → shut_at q f p ≡ option_map (λ c. shut_if (eqb q p) c) (f p)
one_shut f q p = by (eqb q p) refl where
  same : (o : Option Channel) → o ≡ option_map (λ c. c) o
  same None = refl
  same (Some c) = refl

  by : (b : Bool) → eqb q p ≡ b → cond b (option_map shut (f q)) (f p) ≡ option_map (λ c. shut_if b c) (f p)
  by true e = ap (λ n. option_map shut (f n)) (eqb-true q p e)
  by false e = same (f p)

then_shut : (o : Option Channel) (a b : Bool) → option_map (λ c. shut_if b c) (option_map (λ c. shut_if a c) o) ≡ option_map (λ c. shut_if (cond a true b) c) o
then_shut None a b = refl
then_shut (Some c) true true = refl
then_shut (Some c) true false = refl
then_shut (Some c) false b = refl

all_shut : (ports : List ℕ) (f : Channels) (p : ℕ) → shut_all ports f p ≡ option_map (λ c. shut_if (is_named p ports) c) (f p)
all_shut [] f p = unchanged (f p)
all_shut (q ∷ qs) f p = all_shut qs (shut_at q f) p ∙ ap (option_map (λ c. shut_if (is_named p qs) c)) (one_shut f q p) ∙ then_shut (f p) (eqb q p) (is_named p qs)

result_shut : (result : Option ℕ) (f : Channels) (p : ℕ) → shut_result result f p ≡ option_map (λ c. shut_if (is_result p result) c) (f p)
result_shut None f p = unchanged (f p)
result_shut (Some q) f p = one_shut f q p

abbrev at_port : (p : ℕ) {f g : Channels} → f ≡ g → f p ≡ g p
at_port p e = ap (λ (z : Channels). z p) e

no_row : (a : Tree) (d : Channel) → row_completes a d ≡ not_ready → ⊥
no_row a d e = cc

pub step_tells : (program : ProgramView) (s s2 : State) (e : EventView) (p : ℕ) → Step program s e s2 → Sound s → s2.channels p ≡ channel_after p e (s.channels p)
step_tells program s s2 (made t q what moment) p x k = at_port p (channels_of x.7)
step_tells program s s2 (spawned t u kind result) p x k = at_port p (channels_of x.10) ∙ unchanged (s.channels p)
step_tells program s s2 (done t j b a) p x k =
    let r = row_channel (s.channels (port_of b)) (front Take (port_of b) s.waits) (front Put (port_of b) s.waits) b (row_completes a x.3) x.6 (no_row a x.3) in
    at_port p (channels_of x.8) ∙ one_marked s.channels (port_of b) p r.0 x.3 (mark_of_done b a) r.1 (done_marked r.0 b (front Take (port_of b) s.waits) (front Put (port_of b) s.waits) a x.3 r.2 (k.held (port_of b) r.0 r.1))
step_tells program s s2 (met t j side q v w o) p x k = at_port p (channels_of x.15) ∙ passed_by (eqb q p) v (s.channels p)
step_tells program s s2 (parked t w bs) p x k = at_port p (channels_of x.8) ∙ unchanged (s.channels p)
step_tells program s s2 (posted t w q v) p x k = at_port p (channels_of x.6) ∙ unchanged (s.channels p)
step_tells program s s2 (settled w j side q v) p x k =
    at_port p (channels_of x.9) ∙ one_marked s.channels q p x.0 x.1 (mark_of_settled side v) x.4
    (settled_marked x.0 (front Take q s.waits) (front Put q s.waits) side x.2 v x.1 (settle_does x.0 (front Take q s.waits) (front Put q s.waits) side x.2 v x.1 x.5) (k.held q x.0 x.4))
step_tells program s s2 (defaulted t v) p x k = at_port p (channels_of x.7) ∙ unchanged (s.channels p)
step_tells program s s2 (closed t q) p x k = at_port p (channels_of x.4) ∙ one_shut s.channels q p
step_tells program s s2 (registered t name args v) p x k = at_port p (channels_of x.6) ∙ unchanged (s.channels p)
step_tells program s s2 (printed t line) p x k = at_port p (channels_of x.4) ∙ unchanged (s.channels p)
step_tells program s s2 (ticked m ports) p x k = at_port p (channels_of x.4) ∙ all_shut ports s.channels p
step_tells program s s2 (is_over t Ended) p x k = at_port p (channels_of x.4) ∙ unchanged (s.channels p)
step_tells program s s2 (is_over t (Faulted fault place result)) p x k = at_port p (channels_of x.4) ∙ result_shut (option_map port_number result) s.channels p

pub steps_tell : (program : ProgramView) (es : List EventView) (s s2 : State) (p : ℕ) → Steps program s es s2 → Sound s → s2.channels p ≡ channel_from p (s.channels p) es
steps_tell program [] s s2 p x k = at_port p (channels_of x)
steps_tell program (e ∷ es) s s2 p x k = steps_tell program es x.0 s2 p x.2 (step_sound program s x.0 e x.1 k) ∙ ap (λ o. channel_from p o es) (step_tells program s x.0 e p x.1 k)
