-- The rows of the forms of core.async make terms that stand well.
use Rattle.std.proofs.Common.{◌≤◌, ◌≡◌, ℕ, ◌+◌, ◌<◌, List, [], ◌∷◌, length, refl, sym, subst, arith, Option, Some, None, true}
use Rattle.std.specs.Prelude.{codes}
use Rattle.ca_value.specs.Tree.{nil, bool}
use Rattle.ca_value.specs.IsValue.{Scalars, any, written, IsKeyword}
use Rattle.ca_value.specs.declared.builtin.Builtin.TheVariants.{WorkerCount, Vector, IsNil, IsSome, Min, Count}
use Rattle.ca_term.specs.declared.place.Place.{Place}
use Rattle.ca_term.specs.declared.head.Head.{Head}
use Rattle.ca_term.specs.declared.head.Head.TheVariants.{Builtin, Take, Put, Alts, Make, Register, Post}
use Rattle.ca_term.specs.declared.head.AltsOptions.{AltsOptions}
use Rattle.ca_term.specs.declared.head.MakeKind.{MakeKind}
use Rattle.ca_term.specs.declared.head.SystemTask.{SystemTask}
use Rattle.ca_term.specs.declared.head.Transform.{Transform}
use Rattle.ca_term.specs.declared.head.RegisterName.{RegisterName}
use Rattle.ca_term.specs.Kernel.{Kernel, const, var, branch, apply}
use Rattle.ca_term.specs.declared.head.PlainFunction.{PlainFunction}
use Rattle.ca_check.proofs.Well.{Rules, Suited}
use Rattle.ca_check.proofs.Places.{small, PairsHave, PartsHave}
use Rattle.ca_term.specs.View.{kernels_of}
use Rattle.ca_reader.specs.Form.{form_place}
use Rattle.ca_forms.specs.declared.context.Context.{Context}
use Rattle.ca_forms.specs.declared.context.Context.TheVariants.{Main, Go, Function}
use Rattle.ca_forms.specs.declared.error.CheckErrorKind.{CheckErrorKind}
use Rattle.ca_forms.specs.declared.error.CheckErrorKind.TheVariants.{BadForm, ParkOutsideGo, BlockOutsideMain}
use Rattle.ca_forms.specs.Meaning.{Meaning, inner, fail_with, means_in_order, operation, hiding}
use Rattle.ca_forms.specs.Binders.{Pair, Part}
use Rattle.ca_forms.specs.Names.{Given, applied, wrong, given}
use Rattle.ca_forms.specs.Channels.{parking, blocking, row_of_one, row_of_two, row_take, row_put, options_in, operands_in, alts_meaning, row_alts, whole_number, built, make_call, spawn_call, register_call, nth_call, alts_or_nil, unless_default, row_offer, row_poll, buffer_named, word_of_part, buffered_channel, chan_of, row_chan, row_promise, row_mult, yes, row_tap, row_mix, changing, row_change_of_one, row_change_of_two, stopping, pub_of, row_pub, topic_placed, subscribing, row_sub, row_unsub, row_unsub_all, piping, row_pipe, merging, is_sized, row_merge, transform_named, repeated, pipelining, workers, pipeline_over, pipeline_of, row_pipeline, putting_onto, row_onto, row_to}
use Rattle.ca_check.proofs.Grew.{if_after, any_done}
use Rattle.ca_check.proofs.Sound.{Ground, Sound, sound_constant, sound_fail, sound_cond, AllSound, sound_operation, WellNumbered, sound_hiding}
use Rattle.ca_check.proofs.Well.{Well, WellTerms, WellInOrder}
use Rattle.ca_check.proofs.SoundPlain.{PairsSound, PartsSound}
use Rattle.ca_check.proofs.SoundNames.{IsGiven, given_sound}

-- a head that takes so many operands, wherever it stands
abbrev pub SuitsAny : Ground → Head → ℕ → Type 0
SuitsAny g h k = (target : Option ℕ) → Suited g.rules target h k

pub sound_row_of_one : (g : Ground) (h : Head) (p : Place) (qs : List Part) → SuitsAny g h 1 → PartsSound g qs → Sound g 0 (row_of_one h p qs)
sound_row_of_one g h p [] u f = sound_fail g 0 BadForm p
sound_row_of_one g h p (a ∷ []) u f = sound_operation g 0 h (a.means ∷ []) p (f.0, tt) u
sound_row_of_one g h p (a ∷ b ∷ qs) u f = sound_fail g 0 BadForm p

pub sound_row_of_two : (g : Ground) (h : Head) (p : Place) (qs : List Part) → SuitsAny g h 2 → PartsSound g qs → Sound g 0 (row_of_two h p qs)
sound_row_of_two g h p [] u f = sound_fail g 0 BadForm p
sound_row_of_two g h p (a ∷ []) u f = sound_fail g 0 BadForm p
sound_row_of_two g h p (a ∷ b ∷ []) u f = sound_operation g 0 h (a.means ∷ b.means ∷ []) p (f.0, (f.2.0, tt)) u
sound_row_of_two g h p (a ∷ b ∷ c ∷ qs) u f = sound_fail g 0 BadForm p

-- where it may stand
abbrev pub PlaceSound : Ground → (Meaning → Place → Context → Meaning) → Type 0
PlaceSound g w = (m : Meaning) (p : Place) (c : Context) → Sound g 0 m → Sound g 0 (w m p c)

pub parking_sound : (g : Ground) → PlaceSound g parking
parking_sound g m p Go f = f
parking_sound g m p Main f = sound_fail g 0 ParkOutsideGo p
parking_sound g m p Function f = sound_fail g 0 ParkOutsideGo p

pub blocking_sound : (g : Ground) → PlaceSound g blocking
blocking_sound g m p Main f = f
blocking_sound g m p Go f = sound_fail g 0 BlockOutsideMain p
blocking_sound g m p Function f = sound_fail g 0 BlockOutsideMain p

pub sound_row_take : (g : Ground) (w : Meaning → Place → Context → Meaning) (p : Place) (qs : List Part) → PlaceSound g w → PartsSound g qs → Sound g 0 (row_take w p qs)
sound_row_take g w p [] u f = sound_fail g 0 BadForm p
sound_row_take g w p (a ∷ []) u f = λ env s st. u (operation Take (a.means ∷ []) p) p env.context (sound_operation g 0 Take (a.means ∷ []) p (f.0, tt) (λ target. tt)) env s st
sound_row_take g w p (a ∷ b ∷ qs) u f = sound_fail g 0 BadForm p

pub sound_row_put : (g : Ground) (w : Meaning → Place → Context → Meaning) (p : Place) (qs : List Part) → PlaceSound g w → PartsSound g qs → Sound g 0 (row_put w p qs)
sound_row_put g w p [] u f = sound_fail g 0 BadForm p
sound_row_put g w p (a ∷ []) u f = sound_fail g 0 BadForm p
sound_row_put g w p (a ∷ b ∷ []) u f = λ env s st. u (operation Put (a.means ∷ b.means ∷ []) p) p env.context
    (sound_operation g 0 Put (a.means ∷ b.means ∷ []) p (f.0, (f.2.0, tt)) (λ target. tt)) env s st
sound_row_put g w p (a ∷ b ∷ c ∷ qs) u f = sound_fail g 0 BadForm p

pub sound_alts_of : (g : Ground) (w : Meaning → Place → Context → Meaning) (o : Option AltsOptions) (ms : List Meaning) (p : Place) → PlaceSound g w → AllSound g 0 ms → Sound g 0 (alts_meaning w o ms p)
sound_alts_of g w None ms p u f = sound_fail g 0 BadForm p
sound_alts_of g w (Some o) ms p u f = λ env s st. u (operation (Alts o) ms p) p env.context (sound_operation g 0 (Alts o) ms p f (λ target. tt)) env s st

pub operands_sound : (g : Ground) (qs : List Part) → PartsSound g qs → AllSound g 0 (operands_in qs)
operands_sound g [] f = tt
operands_sound g (v ∷ []) f = (f.0, tt)
operands_sound g (v ∷ k ∷ []) f = (f.0, (f.2.0, tt))
operands_sound g (v ∷ k ∷ e ∷ []) f = (f.0, (f.2.2.0, tt))
operands_sound g (v ∷ k ∷ e ∷ l ∷ []) f = (f.0, (f.2.2.0, tt))
operands_sound g (v ∷ k ∷ e ∷ l ∷ i ∷ qs) f = (f.0, (f.2.2.0, (f.2.2.2.2.0, tt)))

pub sound_row_alts : (g : Ground) (w : Meaning → Place → Context → Meaning) (p : Place) (qs : List Part) → PlaceSound g w → PartsSound g qs → Sound g 0 (row_alts w p qs)
sound_row_alts g w p qs u f = sound_alts_of g w (options_in qs) (operands_in qs) p u (operands_sound g qs f)

-- so many operands, and so many further terms
pub sound_fixed : (g : Ground) (n i j : ℕ) (ms : List Meaning) (more body : ℕ → List Kernel) → AllSound g n ms → length ms ≡ i → ((h : ℕ) → length (more h) ≡ j)
    → ((h : ℕ) → WellNumbered g.rules (h + i) (more h)) → ((h : ℕ) (target : Option ℕ) → WellInOrder g.rules (h + i + j) target (kernels_of (body h)))
    → Sound g n (hiding ms more body)
sound_fixed g n i j ms more body f e d wm wb = sound_hiding g n ms more body f
    (λ h. subst (λ m. WellNumbered g.rules (h + m) (more h)) (sym e) (wm h))
    (λ h target. subst (λ m. WellInOrder g.rules m target (kernels_of (body h))) (omega (arith, e, d h)) (wb h target))

-- small fixed terms in a scope of n names
default_named : (scalars : Scalars) → IsKeyword scalars (codes "default")
default_named any = tt
default_named written = refl

pub nth_well : (k : Rules) (n : ℕ) (target : Option ℕ) (h i : ℕ) (p : Place) → h < n → i ≤ 4096 → Well k n target (nth_call h i p)
nth_well k n target h i p l m = (refl, (l, (small k.scalars i m, tt)))

pub tried_well : (k : Rules) (n : ℕ) (ports : List Kernel) (p : Place) → WellTerms k n (kernels_of ports) → Well k n None (alts_or_nil ports p)
tried_well k n ports p w = (tt, ((refl, w), (tt, tt)))

pub unless_default_well : (k : Rules) (n : ℕ) (target : Option ℕ) (h : ℕ) (p : Place) → h < n → Well k n target (unless_default h p)
unless_default_well k n target h p l = ((refl, (nth_well k n None h 1 p l (omega arith), ((omega arith, default_named k.scalars), tt))), tt, nth_well k n target h 0 p l (omega arith))

pub sound_row_offer : (g : Ground) (p : Place) (qs : List Part) → PartsSound g qs → Sound g 0 (row_offer p qs)
sound_row_offer g p [] f = sound_fail g 0 BadForm p
sound_row_offer g p (a ∷ []) f = sound_fail g 0 BadForm p
sound_row_offer g p (c ∷ v ∷ []) f = sound_fixed g 0 2 1 (c.means ∷ v.means ∷ [])
    (λ h. alts_or_nil (built Vector (var h ∷ var (h + 1) ∷ []) p ∷ []) p ∷ []) (λ h. unless_default (h + 2) p ∷ []) (f.0, (f.2.0, tt)) refl (λ h. refl)
    (λ h. (tried_well g.rules (h + 2) (built Vector (var h ∷ var (h + 1) ∷ []) p ∷ []) p ((refl, (omega arith, (omega arith, tt))), tt), tt))
    (λ h target. unless_default_well g.rules (h + 2 + 1) target (h + 2) p (omega arith))
sound_row_offer g p (a ∷ b ∷ c ∷ qs) f = sound_fail g 0 BadForm p

pub sound_row_poll : (g : Ground) (p : Place) (qs : List Part) → PartsSound g qs → Sound g 0 (row_poll p qs)
sound_row_poll g p [] f = sound_fail g 0 BadForm p
sound_row_poll g p (c ∷ []) f = sound_fixed g 0 1 1 (c.means ∷ []) (λ h. alts_or_nil (var h ∷ []) p ∷ []) (λ h. unless_default (h + 1) p ∷ []) (f.0, tt) refl (λ h. refl)
    (λ h. (tried_well g.rules (h + 1) (var h ∷ []) p (omega arith, tt), tt))
    (λ h target. unless_default_well g.rules (h + 1 + 1) target (h + 1) p (omega arith))
sound_row_poll g p (a ∷ b ∷ qs) f = sound_fail g 0 BadForm p

pub sound_with_buffer : (g : Ground) (kind : MakeKind) (qs : List Pair) (p : Place) → PairsSound g qs → Sound g 0 (buffered_channel kind qs p)
sound_with_buffer g kind [] p f = sound_fail g 0 BadForm p
sound_with_buffer g kind (a ∷ []) p f = sound_fail g 0 BadForm p
sound_with_buffer g kind (a ∷ n ∷ []) p f = sound_operation g 0 (Make kind) (n.means ∷ []) p (f.1.0, tt) (λ target. tt)
sound_with_buffer g kind (a ∷ b ∷ c ∷ qs) p f = sound_fail g 0 BadForm p

pub sound_chan_of : (g : Ground) (o : Option MakeKind) (a : Part) (p : Place) → Sound g 0 a.means → PairsSound g a.within → Sound g 0 (chan_of o a p)
sound_chan_of g None a p f h = sound_operation g 0 (Make MakeKind.Sized) (a.means ∷ []) p (f, tt) (λ target. tt)
sound_chan_of g (Some kind) a p f h = sound_with_buffer g kind a.within p h

pub sound_row_chan : (g : Ground) (p : Place) (qs : List Part) → PartsSound g qs → Sound g 0 (row_chan p qs)
sound_row_chan g p [] f = sound_operation g 0 (Make MakeKind.Unbuffered) [] p tt (λ target. tt)
sound_row_chan g p (a ∷ []) f = sound_chan_of g (buffer_named (word_of_part a)) a p f.0 f.1
sound_row_chan g p (a ∷ b ∷ qs) f = sound_fail g 0 BadForm p

pub sound_row_promise : (g : Ground) (p : Place) (qs : List Part) → PartsSound g qs → Sound g 0 (row_promise p qs)
sound_row_promise g p [] f = sound_operation g 0 (Make MakeKind.Promise) [] p tt (λ target. tt)
sound_row_promise g p (a ∷ qs) f = sound_fail g 0 BadForm p

pub sound_row_mult : (g : Ground) (p : Place) (qs : List Part) → PartsSound g qs → Sound g 0 (row_mult p qs)
sound_row_mult g p [] f = sound_fail g 0 BadForm p
sound_row_mult g p (c ∷ []) f = sound_fixed g 0 1 2 (c.means ∷ []) (λ h. make_call MakeKind.Unbuffered [] p ∷ make_call MakeKind.Mult (var h ∷ []) p ∷ [])
    (λ h. spawn_call SystemTask.Mult (var (h + 2) ∷ var h ∷ var (h + 1) ∷ []) p ∷ var (h + 2) ∷ []) (f.0, tt) refl (λ h. refl)
    (λ h. ((tt, tt), ((tt, (omega arith, tt)), tt)))
    (λ h target. ((tt, (omega arith, (omega arith, (omega arith, tt)))), omega arith))
sound_row_mult g p (a ∷ b ∷ qs) f = sound_fail g 0 BadForm p

pub sound_yes : (g : Ground) → Sound g 0 yes
sound_yes g = sound_constant g 0 (bool true) tt

pub sound_row_tap : (g : Ground) (p : Place) (qs : List Part) → PartsSound g qs → Sound g 0 (row_tap p qs)
sound_row_tap g p [] f = sound_fail g 0 BadForm p
sound_row_tap g p (a ∷ []) f = sound_fail g 0 BadForm p
sound_row_tap g p (m ∷ c ∷ []) f = sound_operation g 0 (Register RegisterName.Tap) (m.means ∷ c.means ∷ yes ∷ []) p (f.0, (f.2.0, (sound_yes g, tt))) (λ target. omega arith)
sound_row_tap g p (m ∷ c ∷ z ∷ []) f = sound_operation g 0 (Register RegisterName.Tap) (m.means ∷ c.means ∷ z.means ∷ []) p (f.0, (f.2.0, (f.2.2.0, tt))) (λ target. omega arith)
sound_row_tap g p (a ∷ b ∷ c ∷ d ∷ qs) f = sound_fail g 0 BadForm p

pub sound_row_mix : (g : Ground) (p : Place) (qs : List Part) → PartsSound g qs → Sound g 0 (row_mix p qs)
sound_row_mix g p [] f = sound_fail g 0 BadForm p
sound_row_mix g p (o ∷ []) f = sound_fixed g 0 1 2 (o.means ∷ []) (λ h. make_call MakeKind.Sliding (whole_number 1 ∷ []) p ∷ make_call MakeKind.Mix (var h ∷ var (h + 1) ∷ []) p ∷ [])
    (λ h. spawn_call SystemTask.Mix (var (h + 2) ∷ var h ∷ var (h + 1) ∷ []) p ∷ var (h + 2) ∷ []) (f.0, tt) refl (λ h. refl)
    (λ h. ((tt, (small g.rules.scalars 1 (omega arith), tt)), ((tt, (omega arith, (omega arith, tt))), tt)))
    (λ h target. ((tt, (omega arith, (omega arith, (omega arith, tt)))), omega arith))
sound_row_mix g p (a ∷ b ∷ qs) f = sound_fail g 0 BadForm p

pub sound_changing : (g : Ground) (name : RegisterName) (ms : List Meaning) (p : Place) → length ms ≤ 4 → AllSound g 0 ms → Sound g 0 (changing name ms p)
sound_changing g name ms p few f = sound_fixed g 0 1 0 (operation (Register name) ms p ∷ []) (λ h. [])
    (λ h. apply Post (kernels_of (var h ∷ const (bool true) ∷ [])) p ∷ const nil ∷ []) (sound_operation g 0 (Register name) ms p f (λ target. few), tt) refl (λ h. refl)
    (λ h. tt) (λ h target. ((tt, (omega arith, (tt, tt))), tt))

pub sound_row_change_of_one : (g : Ground) (name : RegisterName) (p : Place) (qs : List Part) → PartsSound g qs → Sound g 0 (row_change_of_one name p qs)
sound_row_change_of_one g name p [] f = sound_fail g 0 BadForm p
sound_row_change_of_one g name p (a ∷ []) f = sound_changing g name (a.means ∷ []) p (omega arith) (f.0, tt)
sound_row_change_of_one g name p (a ∷ b ∷ qs) f = sound_fail g 0 BadForm p

pub sound_row_change_of_two : (g : Ground) (name : RegisterName) (p : Place) (qs : List Part) → PartsSound g qs → Sound g 0 (row_change_of_two name p qs)
sound_row_change_of_two g name p [] f = sound_fail g 0 BadForm p
sound_row_change_of_two g name p (a ∷ []) f = sound_fail g 0 BadForm p
sound_row_change_of_two g name p (a ∷ b ∷ []) f = sound_changing g name (a.means ∷ b.means ∷ []) p (omega arith) (f.0, (f.2.0, tt))
sound_row_change_of_two g name p (a ∷ b ∷ c ∷ qs) f = sound_fail g 0 BadForm p

pub sound_stopping : (g : Ground) (n : ℕ) (ms : List Meaning) (e : CheckErrorKind) (p : Place) → Sound g n (stopping ms e p)
sound_stopping g n ms e p env s st = if_after (means_in_order ms (inner env) s) _ (λ ts s2. Unit {0}) _ (any_done (means_in_order ms (inner env) s)) (λ ts s2 x. tt)

pub sound_pub_of : (g : Ground) (r : Given) (c : Meaning) (q p : Place) → IsGiven g r → Sound g 0 c → Sound g 0 (pub_of r c q p)
sound_pub_of g (wrong e) c q p r f = sound_stopping g 0 (c ∷ []) e q
sound_pub_of g (applied fn ks) c q p r f = sound_fixed g 0 1 1 (c ∷ []) (λ h. make_call MakeKind.Pub (var h ∷ []) p ∷ [])
    (λ h. spawn_call (SystemTask.Pub fn) (var (h + 1) ∷ var h ∷ ks) p ∷ var (h + 1) ∷ []) (f, tt) refl (λ h. refl)
    (λ h. ((tt, (omega arith, tt)), tt))
    (λ h target. ((r.0, (omega arith, (omega arith, r.1 (h + 1 + 1)))), omega arith))

pub sound_row_pub : (g : Ground) (p : Place) (qs : List Part) → PartsHave g.rules.scalars qs → PartsSound g qs → Sound g 0 (row_pub p qs)
sound_row_pub g p [] y f = sound_fail g 0 BadForm p
sound_row_pub g p (a ∷ []) y f = sound_fail g 0 BadForm p
sound_row_pub g p (c ∷ fn ∷ []) y f = λ env s st. sound_pub_of g (given fn.form env) c.means (form_place fn.form) p (given_sound g fn.form env y.2.0 st.2) f.0 env s st
sound_row_pub g p (a ∷ b ∷ c ∷ qs) y f = sound_fail g 0 BadForm p

-- in a scope of n names, q being the last
pub placed_well : (k : Rules) (hp ht q : ℕ) (p : Place) → hp < q → ht < q → Well k q None (topic_placed hp ht q p)
placed_well k hp ht q p l m = (
  (refl, (tt, tt), (refl, (tt, tt), (omega arith, (tt, (omega arith, tt)), (omega arith, (omega arith, (omega (arith, l), (omega (arith, m), (omega arith, (omega arith, tt))))), tt)))),
  (((refl, (nth_well k (q + 4) None (q + 3) 0 p (omega arith) (omega arith), (omega arith, tt))), (tt, (omega arith, (omega arith, (omega arith, tt)))), tt), omega arith),
)

pub sound_subscribing : (g : Ground) (ms : List Meaning) (p : Place) → length ms ≡ 4 → AllSound g 0 ms → Sound g 0 (subscribing ms p)
sound_subscribing g ms p e f = sound_fixed g 0 4 2 ms
    (λ n. register_call RegisterName.Find (var n ∷ var (n + 1) ∷ []) p
    ∷ branch (built IsNil (var (n + 4) ∷ []) p) (topic_placed n (n + 1) (n + 5) p) (var (n + 4)) ∷ [])
    (λ n. register_call RegisterName.Tap (nth_call (n + 5) 0 p ∷ var (n + 2) ∷ var (n + 3) ∷ []) p ∷ const nil ∷ []) f e (λ h. refl)
    (λ n. (
      (omega arith, (omega arith, (omega arith, tt))),
      (((refl, (omega arith, tt)), subst (λ m. Well g.rules m None (topic_placed n (n + 1) (n + 5) p)) (omega arith) (placed_well g.rules n (n + 1) (n + 5) p (omega arith) (omega arith)), omega arith), tt),
    ))
    (λ n target. ((omega arith, (nth_well g.rules (n + 4 + 2) None (n + 5) 0 p (omega arith) (omega arith), (omega arith, (omega arith, tt)))), tt))

pub sound_row_sub : (g : Ground) (p : Place) (qs : List Part) → PartsSound g qs → Sound g 0 (row_sub p qs)
sound_row_sub g p [] f = sound_fail g 0 BadForm p
sound_row_sub g p (a ∷ []) f = sound_fail g 0 BadForm p
sound_row_sub g p (a ∷ b ∷ []) f = sound_fail g 0 BadForm p
sound_row_sub g p (b ∷ t ∷ c ∷ []) f = sound_subscribing g (b.means ∷ t.means ∷ c.means ∷ yes ∷ []) p refl (f.0, (f.2.0, (f.2.2.0, (sound_yes g, tt))))
sound_row_sub g p (b ∷ t ∷ c ∷ z ∷ []) f = sound_subscribing g (b.means ∷ t.means ∷ c.means ∷ z.means ∷ []) p refl (f.0, (f.2.0, (f.2.2.0, (f.2.2.2.0, tt))))
sound_row_sub g p (a ∷ b ∷ c ∷ d ∷ e ∷ qs) f = sound_fail g 0 BadForm p

pub sound_row_unsub : (g : Ground) (p : Place) (qs : List Part) → PartsSound g qs → Sound g 0 (row_unsub p qs)
sound_row_unsub g p [] f = sound_fail g 0 BadForm p
sound_row_unsub g p (a ∷ []) f = sound_fail g 0 BadForm p
sound_row_unsub g p (a ∷ b ∷ []) f = sound_fail g 0 BadForm p
sound_row_unsub g p (b ∷ t ∷ c ∷ []) f = sound_fixed g 0 3 1 (b.means ∷ t.means ∷ c.means ∷ [])
    (λ n. register_call RegisterName.Find (var n ∷ var (n + 1) ∷ []) p ∷ [])
    (λ n. branch (built IsSome (var (n + 3) ∷ []) p) (register_call RegisterName.Untap (nth_call (n + 3) 0 p ∷ var (n + 2) ∷ []) p) (const nil) ∷ const nil ∷ [])
    (f.0, (f.2.0, (f.2.2.0, tt))) refl (λ h. refl)
    (λ n. ((omega arith, (omega arith, (omega arith, tt))), tt))
    (λ n target. (((refl, (omega arith, tt)), (omega arith, (nth_well g.rules (n + 3 + 1) None (n + 3) 0 p (omega arith) (omega arith), (omega arith, tt))), tt), tt))
sound_row_unsub g p (a ∷ b ∷ c ∷ d ∷ qs) f = sound_fail g 0 BadForm p

pub sound_row_unsub_all : (g : Ground) (p : Place) (qs : List Part) → PartsSound g qs → Sound g 0 (row_unsub_all p qs)
sound_row_unsub_all g p [] f = sound_fail g 0 BadForm p
sound_row_unsub_all g p (a ∷ []) f = sound_operation g 0 (Register RegisterName.Clear) (a.means ∷ []) p (f.0, tt) (λ target. omega arith)
sound_row_unsub_all g p (a ∷ b ∷ []) f = sound_operation g 0 (Register RegisterName.Drop) (a.means ∷ b.means ∷ []) p (f.0, (f.2.0, tt)) (λ target. omega arith)
sound_row_unsub_all g p (a ∷ b ∷ c ∷ qs) f = sound_fail g 0 BadForm p

pub sound_piping : (g : Ground) (ms : List Meaning) (p : Place) → length ms ≡ 3 → AllSound g 0 ms → Sound g 0 (piping ms p)
sound_piping g ms p e f = sound_fixed g 0 3 0 ms (λ h. []) (λ h. spawn_call SystemTask.Pipe (var h ∷ var (h + 1) ∷ var (h + 2) ∷ []) p ∷ var (h + 1) ∷ []) f e (λ h. refl)
    (λ h. tt) (λ h target. ((tt, (omega arith, (omega arith, (omega arith, tt)))), omega arith))

pub sound_row_pipe : (g : Ground) (p : Place) (qs : List Part) → PartsSound g qs → Sound g 0 (row_pipe p qs)
sound_row_pipe g p [] f = sound_fail g 0 BadForm p
sound_row_pipe g p (a ∷ []) f = sound_fail g 0 BadForm p
sound_row_pipe g p (a ∷ b ∷ []) f = sound_piping g (a.means ∷ b.means ∷ yes ∷ []) p refl (f.0, (f.2.0, (sound_yes g, tt)))
sound_row_pipe g p (a ∷ b ∷ z ∷ []) f = sound_piping g (a.means ∷ b.means ∷ z.means ∷ []) p refl (f.0, (f.2.0, (f.2.2.0, tt)))
sound_row_pipe g p (a ∷ b ∷ c ∷ d ∷ qs) f = sound_fail g 0 BadForm p

pub sound_merging : (g : Ground) (v o : Meaning) (p : Place) → Sound g 0 v → Sound g 0 o → Sound g 0 (merging v o p)
sound_merging g v o p f h = sound_fixed g 0 2 0 (v ∷ o ∷ []) (λ h. []) (λ h. spawn_call SystemTask.Merge (var h ∷ var (h + 1) ∷ []) p ∷ var (h + 1) ∷ []) (f, (h, tt)) refl (λ h. refl)
    (λ h. tt) (λ h target. ((tt, (omega arith, (omega arith, tt))), omega arith))

pub sound_row_merge : (g : Ground) (p : Place) (qs : List Part) → PartsSound g qs → Sound g 0 (row_merge p qs)
sound_row_merge g p [] f = sound_fail g 0 BadForm p
sound_row_merge g p (v ∷ []) f = sound_merging g v.means (row_chan p []) p f.0 (sound_row_chan g p [] tt)
sound_row_merge g p (v ∷ b ∷ []) f = sound_cond g 0 (is_sized (buffer_named (word_of_part b)) b.within) (merging v.means (row_chan p (b ∷ [])) p) (fail_with BadForm p)
    (sound_merging g v.means (row_chan p (b ∷ [])) p f.0 (sound_row_chan g p (b ∷ []) f.2)) (sound_fail g 0 BadForm p)
sound_row_merge g p (a ∷ b ∷ c ∷ qs) f = sound_fail g 0 BadForm p

pub repeated_well : (k : Rules) (n i : ℕ) (target : Option ℕ) (job : Kernel) (p : Place) → n < i → Well k (i + 1) None job → Well k i target (repeated n i job p)
repeated_well k n i target job p l w =
    ((refl, small k.scalars 0 (omega arith), tt), ((refl, (omega arith, (omega (arith, l), tt))), (w, (refl, ((refl, (omega arith, tt)), tt))), tt))

pub sound_pipelining : (g : Ground) (xf : Transform) (fn : PlainFunction) (ks : List Kernel) (ms : List Meaning) (p : Place) → length ms ≡ 4
    → IsGiven g (applied fn ks) → AllSound g 0 ms → Sound g 0 (pipelining xf fn ks ms p)
sound_pipelining g xf fn ks ms p e r f = sound_fixed g 0 4 3 ms
    (λ n. make_call MakeKind.Fixed (var n ∷ []) p ∷ make_call MakeKind.Fixed (var n ∷ []) p ∷ make_call MakeKind.Fixed (whole_number 1 ∷ []) p ∷ [])
    (λ n. repeated n (n + 7) (spawn_call (SystemTask.Job xf fn) (var (n + 4) ∷ ks) p) p
    ∷ spawn_call SystemTask.Feed (var (n + 2) ∷ var (n + 4) ∷ var (n + 5) ∷ []) p
    ∷ spawn_call SystemTask.Collect (var (n + 5) ∷ var (n + 1) ∷ var (n + 3) ∷ var (n + 6) ∷ []) p
    ∷ var (n + 6) ∷ []) f e (λ h. refl)
    (λ n. ((tt, (omega arith, tt)), ((tt, (omega arith, tt)), ((tt, (small g.rules.scalars 1 (omega arith), tt)), tt))))
    (λ n target. (
      subst (λ m. Well g.rules m None (repeated n (n + 7) (spawn_call (SystemTask.Job xf fn) (var (n + 4) ∷ ks) p) p)) (omega arith)
          (repeated_well g.rules n (n + 7) None (spawn_call (SystemTask.Job xf fn) (var (n + 4) ∷ ks) p) p (omega arith) (r.0, (omega arith, r.1 (n + 7 + 1)))),
      ((tt, (omega arith, (omega arith, (omega arith, tt)))), ((tt, (omega arith, (omega arith, (omega arith, (omega arith, tt))))), omega arith)),
    ))

pub sound_workers : (g : Ground) (n : Meaning) (p : Place) → Sound g 0 n → Sound g 0 (workers n p)
sound_workers g n p f = sound_operation g 0 (Builtin WorkerCount) (n ∷ []) p (f, tt) (λ target. refl)

pub sound_pipeline_over : (g : Ground) (xf : Transform) (r : Given) (q : Place) (n t f z : Meaning) (p : Place) → IsGiven g r → Sound g 0 n → Sound g 0 t → Sound g 0 f → Sound g 0 z
    → Sound g 0 (pipeline_over xf r q n t f z p)
sound_pipeline_over g xf (wrong e) q n t f z p r gn gt gf gz = sound_stopping g 0 (n ∷ t ∷ []) e q
sound_pipeline_over g xf (applied fn ks) q n t f z p r gn gt gf gz = sound_pipelining g xf fn ks (workers n p ∷ t ∷ f ∷ z ∷ []) p refl r (sound_workers g n p gn, (gt, (gf, (gz, tt))))

pub sound_pipeline_of : (g : Ground) (o : Option Transform) (qs : List Pair) (n t f z : Meaning) (p : Place) → PairsHave g.rules.scalars qs → Sound g 0 n → Sound g 0 t → Sound g 0 f → Sound g 0 z
    → Sound g 0 (pipeline_of o qs n t f z p)
sound_pipeline_of g None qs n t f z p y gn gt gf gz = sound_fail g 0 BadForm p
sound_pipeline_of g (Some xf) [] n t f z p y gn gt gf gz = sound_fail g 0 BadForm p
sound_pipeline_of g (Some xf) (a ∷ []) n t f z p y gn gt gf gz = sound_fail g 0 BadForm p
sound_pipeline_of g (Some xf) (a ∷ b ∷ []) n t f z p y gn gt gf gz = λ env s st.
    sound_pipeline_over g xf (given b.form env) (form_place b.form) n t f z p (given_sound g b.form env y.1.0 st.2) gn gt gf gz env s st
sound_pipeline_of g (Some xf) (a ∷ b ∷ c ∷ qs) n t f z p y gn gt gf gz = sound_fail g 0 BadForm p

pub sound_row_pipeline : (g : Ground) (p : Place) (qs : List Part) → PartsHave g.rules.scalars qs → PartsSound g qs → Sound g 0 (row_pipeline p qs)
sound_row_pipeline g p [] y f = sound_fail g 0 BadForm p
sound_row_pipeline g p (a ∷ []) y f = sound_fail g 0 BadForm p
sound_row_pipeline g p (a ∷ b ∷ []) y f = sound_fail g 0 BadForm p
sound_row_pipeline g p (a ∷ b ∷ c ∷ []) y f = sound_fail g 0 BadForm p
sound_row_pipeline g p (n ∷ t ∷ x ∷ i ∷ []) y f = sound_pipeline_of g (transform_named (word_of_part x)) x.within n.means t.means i.means yes p y.2.2.1 f.0 f.2.0 f.2.2.2.0 (sound_yes g)
sound_row_pipeline g p (n ∷ t ∷ x ∷ i ∷ z ∷ []) y f = sound_pipeline_of g (transform_named (word_of_part x)) x.within n.means t.means i.means z.means p y.2.2.1 f.0 f.2.0 f.2.2.2.0 f.2.2.2.2.0
sound_row_pipeline g p (a ∷ b ∷ c ∷ d ∷ e ∷ i ∷ qs) y f = sound_fail g 0 BadForm p

pub sound_putting_onto : (g : Ground) (ms : List Meaning) (p : Place) → length ms ≡ 3 → AllSound g 0 ms → Sound g 0 (putting_onto ms p)
sound_putting_onto g ms p e f = sound_fixed g 0 3 1 ms (λ h. make_call MakeKind.Fixed (whole_number 1 ∷ []) p ∷ [])
    (λ h. spawn_call SystemTask.Onto (var h ∷ var (h + 1) ∷ var (h + 2) ∷ var (h + 3) ∷ []) p ∷ var (h + 3) ∷ []) f e (λ h. refl)
    (λ h. ((tt, (small g.rules.scalars 1 (omega arith), tt)), tt)) (λ h target. ((tt, (omega arith, (omega arith, (omega arith, (omega arith, tt))))), omega arith))

pub sound_row_onto : (g : Ground) (p : Place) (qs : List Part) → PartsSound g qs → Sound g 0 (row_onto p qs)
sound_row_onto g p [] f = sound_fail g 0 BadForm p
sound_row_onto g p (a ∷ []) f = sound_fail g 0 BadForm p
sound_row_onto g p (c ∷ v ∷ []) f = sound_putting_onto g (c.means ∷ v.means ∷ yes ∷ []) p refl (f.0, (f.2.0, (sound_yes g, tt)))
sound_row_onto g p (c ∷ v ∷ z ∷ []) f = sound_putting_onto g (c.means ∷ v.means ∷ z.means ∷ []) p refl (f.0, (f.2.0, (f.2.2.0, tt)))
sound_row_onto g p (a ∷ b ∷ c ∷ d ∷ qs) f = sound_fail g 0 BadForm p

pub sound_row_to : (g : Ground) (p : Place) (qs : List Part) → PartsSound g qs → Sound g 0 (row_to p qs)
sound_row_to g p [] f = sound_fail g 0 BadForm p
sound_row_to g p (v ∷ []) f = sound_fixed g 0 1 2 (v.means ∷ [])
    (λ h. make_call MakeKind.Sized (built Min (whole_number 100 ∷ built Count (var h ∷ []) p ∷ []) p ∷ []) p ∷ make_call MakeKind.Fixed (whole_number 1 ∷ []) p ∷ [])
    (λ h. spawn_call SystemTask.Onto (var (h + 1) ∷ var h ∷ const (bool true) ∷ var (h + 2) ∷ []) p ∷ var (h + 1) ∷ []) (f.0, tt) refl (λ h. refl)
    (λ h. ((tt, ((refl, (small g.rules.scalars 100 (omega arith), ((refl, (omega arith, tt)), tt))), tt)), ((tt, (small g.rules.scalars 1 (omega arith), tt)), tt)))
    (λ h target. ((tt, (omega arith, (omega arith, (tt, (omega arith, tt))))), omega arith))
sound_row_to g p (a ∷ b ∷ qs) f = sound_fail g 0 BadForm p
