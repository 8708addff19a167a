-- The rows of the forms of core.async make tidy terms.
use Rattle.std.proofs.Common.{◌≡◌, inr, ℕ, ◌+◌, ◌<◌, List, [], ◌∷◌, length, refl, sym, subst, arith, Option, Some, None, true}
use Rattle.ca_value.specs.Tree.{Tree, nil, bool}
use Rattle.ca_value.specs.declared.builtin.Builtin.TheVariants.{WorkerCount, Vector, Equal, IsNil, IsSome, Min, Count}
use Rattle.ca_term.specs.declared.place.Place.{Place}
use Rattle.ca_term.specs.declared.head.Head.{Head}
use Rattle.ca_term.specs.declared.head.Head.TheVariants.{Builtin, Take, Put, Alts, Make, Register, Post}
use Rattle.ca_term.specs.declared.head.AltsOptions.{AltsOptions}
use Rattle.ca_term.specs.declared.head.MakeKind.{MakeKind}
use Rattle.ca_term.specs.declared.head.SystemTask.{SystemTask}
use Rattle.ca_term.specs.declared.head.Transform.{Transform}
use Rattle.ca_term.specs.declared.head.RegisterName.{RegisterName}
use Rattle.ca_term.specs.Kernel.{Kernel, const, var, branch, seq, apply}
use Rattle.ca_term.specs.declared.head.PlainFunction.{PlainFunction}
use Rattle.ca_term.specs.View.{kernels_of}
use Rattle.ca_reader.specs.Form.{form_place}
use Rattle.ca_forms.specs.declared.context.Context.{Context}
use Rattle.ca_forms.specs.declared.context.Context.TheVariants.{Main, Go, Function}
use Rattle.ca_forms.specs.declared.error.CheckErrorKind.{CheckErrorKind}
use Rattle.ca_forms.specs.declared.error.CheckErrorKind.TheVariants.{BadForm, ParkOutsideGo, BlockOutsideMain}
use Rattle.ca_forms.specs.Meaning.{Meaning, inner, fail_with, means_in_order, operation, numbered, hiding}
use Rattle.ca_forms.specs.Binders.{Pair, Part}
use Rattle.ca_forms.specs.Names.{Given, applied, wrong, given}
use Rattle.ca_forms.specs.Channels.{parking, blocking, row_of_one, row_of_two, row_take, row_put, options_in, operands_in, alts_meaning, row_alts, whole_number, built, make_call, spawn_call, register_call, nth_call, alts_or_nil, unless_default, row_offer, row_poll, buffer_named, word_of_part, buffered_channel, chan_of, row_chan, row_promise, row_mult, yes, row_tap, row_mix, changing, row_change_of_one, row_change_of_two, stopping, pub_of, row_pub, topic_placed, subscribing, row_sub, row_unsub, row_unsub_all, piping, row_pipe, merging, is_sized, row_merge, transform_named, repeated, pipelining, workers, pipeline_over, pipeline_of, row_pipeline, putting_onto, row_onto, row_to}
use Rattle.ca_sealed.proofs.Outcomes.{if_after, any_done}
use Rattle.ca_sealed.proofs.Tidy.{HasKeyword, bare, keyed, Secret, of_mult, of_place, of_pipeline, Tidy, TidyTerms}
use Rattle.ca_sealed.proofs.Words.{Keeps, tidy_constant, tidy_fail, tidy_cond, AllKeep, HidesNone, tidy_operation, TidyNumbered, tidy_hiding, tidy_secret}
use Rattle.ca_sealed.proofs.Rows.{PairsKeep, PartsKeep}
use Rattle.ca_sealed.proofs.Names.{IsGiven, is_given}

pub tidy_row_of_one : (g : ℕ) (h : Head) (p : Place) (qs : List Part) → HidesNone h → PartsKeep g qs → Keeps g 0 (row_of_one h p qs)
tidy_row_of_one g h p [] u f = tidy_fail g 0 BadForm p
tidy_row_of_one g h p (a ∷ []) u f = tidy_operation g 0 h (a.means ∷ []) p (f.0, tt) u
tidy_row_of_one g h p (a ∷ b ∷ qs) u f = tidy_fail g 0 BadForm p

pub tidy_row_of_two : (g : ℕ) (h : Head) (p : Place) (qs : List Part) → HidesNone h → PartsKeep g qs → Keeps g 0 (row_of_two h p qs)
tidy_row_of_two g h p [] u f = tidy_fail g 0 BadForm p
tidy_row_of_two g h p (a ∷ []) u f = tidy_fail g 0 BadForm p
tidy_row_of_two g h p (a ∷ b ∷ []) u f = tidy_operation g 0 h (a.means ∷ b.means ∷ []) p (f.0, (f.2.0, tt)) u
tidy_row_of_two g h p (a ∷ b ∷ c ∷ qs) u f = tidy_fail g 0 BadForm p

-- where it may stand
abbrev pub PlaceKeeps : ℕ → (Meaning → Place → Context → Meaning) → Type 0
PlaceKeeps g w = (m : Meaning) (p : Place) (c : Context) → Keeps g 0 m → Keeps g 0 (w m p c)

pub parking_keep : (g : ℕ) → PlaceKeeps g parking
parking_keep g m p Go f = f
parking_keep g m p Main f = tidy_fail g 0 ParkOutsideGo p
parking_keep g m p Function f = tidy_fail g 0 ParkOutsideGo p

pub blocking_keep : (g : ℕ) → PlaceKeeps g blocking
blocking_keep g m p Main f = f
blocking_keep g m p Go f = tidy_fail g 0 BlockOutsideMain p
blocking_keep g m p Function f = tidy_fail g 0 BlockOutsideMain p

pub tidy_row_take : (g : ℕ) (w : Meaning → Place → Context → Meaning) (p : Place) (qs : List Part) → PlaceKeeps g w → PartsKeep g qs → Keeps g 0 (row_take w p qs)
tidy_row_take g w p [] u f = tidy_fail g 0 BadForm p
tidy_row_take g w p (a ∷ []) u f = λ env s st. u (operation Take (a.means ∷ []) p) p env.context (tidy_operation g 0 Take (a.means ∷ []) p (f.0, tt) (λ ts. refl)) env s st
tidy_row_take g w p (a ∷ b ∷ qs) u f = tidy_fail g 0 BadForm p

pub tidy_row_put : (g : ℕ) (w : Meaning → Place → Context → Meaning) (p : Place) (qs : List Part) → PlaceKeeps g w → PartsKeep g qs → Keeps g 0 (row_put w p qs)
tidy_row_put g w p [] u f = tidy_fail g 0 BadForm p
tidy_row_put g w p (a ∷ []) u f = tidy_fail g 0 BadForm p
tidy_row_put g w p (a ∷ b ∷ []) u f = λ env s st. u (operation Put (a.means ∷ b.means ∷ []) p) p env.context
    (tidy_operation g 0 Put (a.means ∷ b.means ∷ []) p (f.0, (f.2.0, tt)) (λ ts. refl)) env s st
tidy_row_put g w p (a ∷ b ∷ c ∷ qs) u f = tidy_fail g 0 BadForm p

pub tidy_alts_of : (g : ℕ) (w : Meaning → Place → Context → Meaning) (o : Option AltsOptions) (ms : List Meaning) (p : Place) → PlaceKeeps g w → AllKeep g 0 ms → Keeps g 0 (alts_meaning w o ms p)
tidy_alts_of g w None ms p u f = tidy_fail g 0 BadForm p
tidy_alts_of g w (Some o) ms p u f = λ env s st. u (operation (Alts o) ms p) p env.context (tidy_operation g 0 (Alts o) ms p f (λ ts. refl)) env s st

pub operands_keep : (g : ℕ) (qs : List Part) → PartsKeep g qs → AllKeep g 0 (operands_in qs)
operands_keep g [] f = tt
operands_keep g (v ∷ []) f = (f.0, tt)
operands_keep g (v ∷ k ∷ []) f = (f.0, (f.2.0, tt))
operands_keep g (v ∷ k ∷ e ∷ []) f = (f.0, (f.2.2.0, tt))
operands_keep g (v ∷ k ∷ e ∷ l ∷ []) f = (f.0, (f.2.2.0, tt))
operands_keep g (v ∷ k ∷ e ∷ l ∷ i ∷ qs) f = (f.0, (f.2.2.0, (f.2.2.2.2.0, tt)))

pub tidy_row_alts : (g : ℕ) (w : Meaning → Place → Context → Meaning) (p : Place) (qs : List Part) → PlaceKeeps g w → PartsKeep g qs → Keeps g 0 (row_alts w p qs)
tidy_row_alts g w p qs u f = tidy_alts_of g w (options_in qs) (operands_in qs) p u (operands_keep g qs f)

-- so many operands, and so many further terms
pub tidy_fixed : (g n i j : ℕ) (ms : List Meaning) (more body : ℕ → List Kernel) → AllKeep g n ms → length ms ≡ i → ((h : ℕ) → length (more h) ≡ j)
    → ((h : ℕ) → TidyNumbered (h + i) (more h)) → ((h : ℕ) → TidyTerms (h + i + j) (kernels_of (body h))) → Keeps g n (hiding ms more body)
tidy_fixed g n i j ms more body f e d wm wb = tidy_hiding g n ms more body f
    (λ h. subst (λ m. TidyNumbered (h + m) (more h)) (sym e) (wm h))
    (λ h. subst (λ m. TidyTerms m (kernels_of (body h))) (omega (arith, e, d h)) (wb h))

pub tidy_fixed_secret : (g n i : ℕ) (ms : List Meaning) (more body : ℕ → List Kernel) → AllKeep g n ms → length ms ≡ i
    → ((h : ℕ) → Secret (h + i) (numbered (h + i) (more h)) (seq (kernels_of (body h)))) → Keeps g n (hiding ms more body)
tidy_fixed_secret g n i ms more body f e w = tidy_secret g n ms more body f (λ h. subst (λ m. Secret (h + m) (numbered (h + m) (more h)) (seq (kernels_of (body h)))) (sym e) (w h))

-- small fixed terms in a scope of n names
pub nth_tidy : (n h i : ℕ) (p : Place) → h < n → Tidy n (nth_call h i p)
nth_tidy n h i p l = (refl, (l, (tt, tt)))

pub tried_tidy : (n : ℕ) (ports : List Kernel) (p : Place) → TidyTerms n (kernels_of ports) → Tidy n (alts_or_nil ports p)
tried_tidy n ports p w = (refl, ((refl, w), (tt, tt)))

pub unless_default_tidy : (n h : ℕ) (p : Place) → h < n → Tidy n (unless_default h p)
unless_default_tidy n h p l = ((refl, (nth_tidy n h 1 p l, (tt, tt))), tt, nth_tidy n h 0 p l)

pub tidy_row_offer : (g : ℕ) (p : Place) (qs : List Part) → PartsKeep g qs → Keeps g 0 (row_offer p qs)
tidy_row_offer g p [] f = tidy_fail g 0 BadForm p
tidy_row_offer g p (a ∷ []) f = tidy_fail g 0 BadForm p
tidy_row_offer g p (c ∷ v ∷ []) f = tidy_fixed g 0 2 1 (c.means ∷ v.means ∷ [])
    (λ h. alts_or_nil (built Vector (var h ∷ var (h + 1) ∷ []) p ∷ []) p ∷ []) (λ h. unless_default (h + 2) p ∷ []) (f.0, (f.2.0, tt)) refl (λ h. refl)
    (λ h. (tried_tidy (h + 2) (built Vector (var h ∷ var (h + 1) ∷ []) p ∷ []) p ((refl, (omega arith, (omega arith, tt))), tt), tt))
    (λ h. (unless_default_tidy (h + 2 + 1) (h + 2) p (omega arith), tt))
tidy_row_offer g p (a ∷ b ∷ c ∷ qs) f = tidy_fail g 0 BadForm p

pub tidy_row_poll : (g : ℕ) (p : Place) (qs : List Part) → PartsKeep g qs → Keeps g 0 (row_poll p qs)
tidy_row_poll g p [] f = tidy_fail g 0 BadForm p
tidy_row_poll g p (c ∷ []) f = tidy_fixed g 0 1 1 (c.means ∷ []) (λ h. alts_or_nil (var h ∷ []) p ∷ []) (λ h. unless_default (h + 1) p ∷ []) (f.0, tt) refl (λ h. refl)
    (λ h. (tried_tidy (h + 1) (var h ∷ []) p (omega arith, tt), tt))
    (λ h. (unless_default_tidy (h + 1 + 1) (h + 1) p (omega arith), tt))
tidy_row_poll g p (a ∷ b ∷ qs) f = tidy_fail g 0 BadForm p

pub tidy_with_buffer : (g : ℕ) (kind : MakeKind) (qs : List Pair) (p : Place) → PairsKeep g qs → Keeps g 0 (buffered_channel kind qs p)
tidy_with_buffer g kind [] p f = tidy_fail g 0 BadForm p
tidy_with_buffer g kind (a ∷ []) p f = tidy_fail g 0 BadForm p
tidy_with_buffer g kind (a ∷ n ∷ []) p f = tidy_operation g 0 (Make kind) (n.means ∷ []) p (f.1.0, tt) (λ ts. refl)
tidy_with_buffer g kind (a ∷ b ∷ c ∷ qs) p f = tidy_fail g 0 BadForm p

pub tidy_chan_of : (g : ℕ) (o : Option MakeKind) (a : Part) (p : Place) → Keeps g 0 a.means → PairsKeep g a.within → Keeps g 0 (chan_of o a p)
tidy_chan_of g None a p f h = tidy_operation g 0 (Make MakeKind.Sized) (a.means ∷ []) p (f, tt) (λ ts. refl)
tidy_chan_of g (Some kind) a p f h = tidy_with_buffer g kind a.within p h

pub tidy_row_chan : (g : ℕ) (p : Place) (qs : List Part) → PartsKeep g qs → Keeps g 0 (row_chan p qs)
tidy_row_chan g p [] f = tidy_operation g 0 (Make MakeKind.Unbuffered) [] p tt (λ ts. refl)
tidy_row_chan g p (a ∷ []) f = tidy_chan_of g (buffer_named (word_of_part a)) a p f.0 f.1
tidy_row_chan g p (a ∷ b ∷ qs) f = tidy_fail g 0 BadForm p

pub tidy_row_promise : (g : ℕ) (p : Place) (qs : List Part) → PartsKeep g qs → Keeps g 0 (row_promise p qs)
tidy_row_promise g p [] f = tidy_operation g 0 (Make MakeKind.Promise) [] p tt (λ ts. refl)
tidy_row_promise g p (a ∷ qs) f = tidy_fail g 0 BadForm p

pub tidy_row_mult : (g : ℕ) (p : Place) (qs : List Part) → PartsKeep g qs → Keeps g 0 (row_mult p qs)
tidy_row_mult g p [] f = tidy_fail g 0 BadForm p
tidy_row_mult g p (c ∷ []) f = tidy_fixed_secret g 0 1 (c.means ∷ []) (λ h. make_call MakeKind.Unbuffered [] p ∷ make_call MakeKind.Mult (var h ∷ []) p ∷ [])
    (λ h. spawn_call SystemTask.Mult (var (h + 2) ∷ var h ∷ var (h + 1) ∷ []) p ∷ var (h + 2) ∷ []) (f.0, tt) refl
    (λ h. of_mult (omega arith) (omega arith) (omega arith))
tidy_row_mult g p (a ∷ b ∷ qs) f = tidy_fail g 0 BadForm p

pub tidy_yes : (g : ℕ) → Keeps g 0 yes
tidy_yes g = tidy_constant g 0 (bool true) tt

pub tidy_row_tap : (g : ℕ) (p : Place) (qs : List Part) → PartsKeep g qs → Keeps g 0 (row_tap p qs)
tidy_row_tap g p [] f = tidy_fail g 0 BadForm p
tidy_row_tap g p (a ∷ []) f = tidy_fail g 0 BadForm p
tidy_row_tap g p (m ∷ c ∷ []) f = tidy_operation g 0 (Register RegisterName.Tap) (m.means ∷ c.means ∷ yes ∷ []) p (f.0, (f.2.0, (tidy_yes g, tt))) (λ ts. refl)
tidy_row_tap g p (m ∷ c ∷ z ∷ []) f = tidy_operation g 0 (Register RegisterName.Tap) (m.means ∷ c.means ∷ z.means ∷ []) p (f.0, (f.2.0, (f.2.2.0, tt))) (λ ts. refl)
tidy_row_tap g p (a ∷ b ∷ c ∷ d ∷ qs) f = tidy_fail g 0 BadForm p

pub tidy_row_mix : (g : ℕ) (p : Place) (qs : List Part) → PartsKeep g qs → Keeps g 0 (row_mix p qs)
tidy_row_mix g p [] f = tidy_fail g 0 BadForm p
tidy_row_mix g p (o ∷ []) f = tidy_fixed g 0 1 2 (o.means ∷ []) (λ h. make_call MakeKind.Sliding (whole_number 1 ∷ []) p ∷ make_call MakeKind.Mix (var h ∷ var (h + 1) ∷ []) p ∷ [])
    (λ h. spawn_call SystemTask.Mix (var (h + 2) ∷ var h ∷ var (h + 1) ∷ []) p ∷ var (h + 2) ∷ []) (f.0, tt) refl (λ h. refl)
    (λ h. ((refl, (tt, tt)), ((refl, (omega arith, (omega arith, tt))), tt)))
    (λ h. ((refl, (omega arith, (omega arith, (omega arith, tt)))), (omega arith, tt)))
tidy_row_mix g p (a ∷ b ∷ qs) f = tidy_fail g 0 BadForm p

pub tidy_changing : (g : ℕ) (name : RegisterName) (ms : List Meaning) (p : Place) → AllKeep g 0 ms → Keeps g 0 (changing name ms p)
tidy_changing g name ms p f = tidy_fixed g 0 1 0 (operation (Register name) ms p ∷ []) (λ h. [])
    (λ h. apply Post (kernels_of (var h ∷ const (bool true) ∷ [])) p ∷ const nil ∷ []) (tidy_operation g 0 (Register name) ms p f (λ ts. refl), tt) refl (λ h. refl)
    (λ h. tt) (λ h. ((refl, (omega arith, (tt, tt))), (tt, tt)))

pub tidy_row_change_of_one : (g : ℕ) (name : RegisterName) (p : Place) (qs : List Part) → PartsKeep g qs → Keeps g 0 (row_change_of_one name p qs)
tidy_row_change_of_one g name p [] f = tidy_fail g 0 BadForm p
tidy_row_change_of_one g name p (a ∷ []) f = tidy_changing g name (a.means ∷ []) p (f.0, tt)
tidy_row_change_of_one g name p (a ∷ b ∷ qs) f = tidy_fail g 0 BadForm p

pub tidy_row_change_of_two : (g : ℕ) (name : RegisterName) (p : Place) (qs : List Part) → PartsKeep g qs → Keeps g 0 (row_change_of_two name p qs)
tidy_row_change_of_two g name p [] f = tidy_fail g 0 BadForm p
tidy_row_change_of_two g name p (a ∷ []) f = tidy_fail g 0 BadForm p
tidy_row_change_of_two g name p (a ∷ b ∷ []) f = tidy_changing g name (a.means ∷ b.means ∷ []) p (f.0, (f.2.0, tt))
tidy_row_change_of_two g name p (a ∷ b ∷ c ∷ qs) f = tidy_fail g 0 BadForm p

pub tidy_stopping : (g n : ℕ) (ms : List Meaning) (e : CheckErrorKind) (p : Place) → Keeps g n (stopping ms e p)
tidy_stopping g n ms e p env s st = if_after (means_in_order ms (inner env) s) _ (λ ts s2. Unit {0}) _ (any_done (means_in_order ms (inner env) s)) (λ ts s2 x. tt)

pub keyword_tidy : (n : ℕ) {k : Tree} {ks : List Kernel} → HasKeyword k ks → TidyTerms n (kernels_of ks)
keyword_tidy n bare = tt
keyword_tidy n keyed = (tt, tt)

pub tidy_pub_of : (g : ℕ) (r : Given) (c : Meaning) (q p : Place) → IsGiven r → Keeps g 0 c → Keeps g 0 (pub_of r c q p)
tidy_pub_of g (wrong e) c q p r f = tidy_stopping g 0 (c ∷ []) e q
tidy_pub_of g (applied fn ks) c q p r f = tidy_fixed g 0 1 1 (c ∷ []) (λ h. make_call MakeKind.Pub (var h ∷ []) p ∷ [])
    (λ h. spawn_call (SystemTask.Pub fn) (var (h + 1) ∷ var h ∷ ks) p ∷ var (h + 1) ∷ []) (f, tt) refl (λ h. refl)
    (λ h. ((refl, (omega arith, tt)), tt))
    (λ h. ((refl, (omega arith, (omega arith, keyword_tidy (h + 1 + 1) r.1))), (omega arith, tt)))

pub tidy_row_pub : (g : ℕ) (p : Place) (qs : List Part) → PartsKeep g qs → Keeps g 0 (row_pub p qs)
tidy_row_pub g p [] f = tidy_fail g 0 BadForm p
tidy_row_pub g p (a ∷ []) f = tidy_fail g 0 BadForm p
tidy_row_pub g p (c ∷ fn ∷ []) f = λ env s st. tidy_pub_of g (given fn.form env) c.means (form_place fn.form) p (is_given fn.form env) f.0 env s st
tidy_row_pub g p (a ∷ b ∷ c ∷ qs) f = tidy_fail g 0 BadForm p

-- in a scope of q names
pub placed_tidy : (hp ht q : ℕ) (p : Place) → hp < q → ht < q → Tidy q (topic_placed hp ht q p)
placed_tidy hp ht q p l m = inr (0, tt, secret (q + 0) (omega arith)) where
  secret : (n : ℕ) → n ≡ q → Secret n
      (numbered q (make_call MakeKind.Unbuffered [] p ∷ make_call MakeKind.Unbuffered [] p ∷ make_call MakeKind.Mult (var q ∷ []) p
      ∷ register_call RegisterName.Place (var hp ∷ var ht ∷ var (q + 2) ∷ var q ∷ []) p ∷ []))
      (seq (kernels_of (branch (built Equal (nth_call (q + 3) 0 p ∷ var (q + 2) ∷ []) p) (spawn_call SystemTask.Mult (var (q + 2) ∷ var q ∷ var (q + 1) ∷ []) p) (const nil) ∷ var (q + 3) ∷ [])))
  secret n e = subst (λ k. Secret k
      (numbered q (make_call MakeKind.Unbuffered [] p ∷ make_call MakeKind.Unbuffered [] p ∷ make_call MakeKind.Mult (var q ∷ []) p
      ∷ register_call RegisterName.Place (var hp ∷ var ht ∷ var (q + 2) ∷ var q ∷ []) p ∷ []))
      (seq (kernels_of (branch (built Equal (nth_call (q + 3) 0 p ∷ var (q + 2) ∷ []) p) (spawn_call SystemTask.Mult (var (q + 2) ∷ var q ∷ var (q + 1) ∷ []) p) (const nil) ∷ var (q + 3) ∷ []))))
      (sym e) (of_place l m (omega arith) (omega arith) (omega arith))

pub tidy_subscribing : (g : ℕ) (ms : List Meaning) (p : Place) → length ms ≡ 4 → AllKeep g 0 ms → Keeps g 0 (subscribing ms p)
tidy_subscribing g ms p e f = tidy_fixed g 0 4 2 ms
    (λ n. register_call RegisterName.Find (var n ∷ var (n + 1) ∷ []) p
    ∷ branch (built IsNil (var (n + 4) ∷ []) p) (topic_placed n (n + 1) (n + 5) p) (var (n + 4)) ∷ [])
    (λ n. register_call RegisterName.Tap (nth_call (n + 5) 0 p ∷ var (n + 2) ∷ var (n + 3) ∷ []) p ∷ const nil ∷ []) f e (λ h. refl)
    (λ n. (
      (refl, (omega arith, (omega arith, tt))),
      (((refl, (omega arith, tt)), subst (λ m. Tidy m (topic_placed n (n + 1) (n + 5) p)) (omega arith) (placed_tidy n (n + 1) (n + 5) p (omega arith) (omega arith)), omega arith), tt),
    ))
    (λ n. ((refl, (nth_tidy (n + 4 + 2) (n + 5) 0 p (omega arith), (omega arith, (omega arith, tt)))), (tt, tt)))

pub tidy_row_sub : (g : ℕ) (p : Place) (qs : List Part) → PartsKeep g qs → Keeps g 0 (row_sub p qs)
tidy_row_sub g p [] f = tidy_fail g 0 BadForm p
tidy_row_sub g p (a ∷ []) f = tidy_fail g 0 BadForm p
tidy_row_sub g p (a ∷ b ∷ []) f = tidy_fail g 0 BadForm p
tidy_row_sub g p (b ∷ t ∷ c ∷ []) f = tidy_subscribing g (b.means ∷ t.means ∷ c.means ∷ yes ∷ []) p refl (f.0, (f.2.0, (f.2.2.0, (tidy_yes g, tt))))
tidy_row_sub g p (b ∷ t ∷ c ∷ z ∷ []) f = tidy_subscribing g (b.means ∷ t.means ∷ c.means ∷ z.means ∷ []) p refl (f.0, (f.2.0, (f.2.2.0, (f.2.2.2.0, tt))))
tidy_row_sub g p (a ∷ b ∷ c ∷ d ∷ e ∷ qs) f = tidy_fail g 0 BadForm p

pub tidy_row_unsub : (g : ℕ) (p : Place) (qs : List Part) → PartsKeep g qs → Keeps g 0 (row_unsub p qs)
tidy_row_unsub g p [] f = tidy_fail g 0 BadForm p
tidy_row_unsub g p (a ∷ []) f = tidy_fail g 0 BadForm p
tidy_row_unsub g p (a ∷ b ∷ []) f = tidy_fail g 0 BadForm p
tidy_row_unsub g p (b ∷ t ∷ c ∷ []) f = tidy_fixed g 0 3 1 (b.means ∷ t.means ∷ c.means ∷ [])
    (λ n. register_call RegisterName.Find (var n ∷ var (n + 1) ∷ []) p ∷ [])
    (λ n. branch (built IsSome (var (n + 3) ∷ []) p) (register_call RegisterName.Untap (nth_call (n + 3) 0 p ∷ var (n + 2) ∷ []) p) (const nil) ∷ const nil ∷ [])
    (f.0, (f.2.0, (f.2.2.0, tt))) refl (λ h. refl)
    (λ n. ((refl, (omega arith, (omega arith, tt))), tt))
    (λ n. (((refl, (omega arith, tt)), (refl, (nth_tidy (n + 3 + 1) (n + 3) 0 p (omega arith), (omega arith, tt))), tt), (tt, tt)))
tidy_row_unsub g p (a ∷ b ∷ c ∷ d ∷ qs) f = tidy_fail g 0 BadForm p

pub tidy_row_unsub_all : (g : ℕ) (p : Place) (qs : List Part) → PartsKeep g qs → Keeps g 0 (row_unsub_all p qs)
tidy_row_unsub_all g p [] f = tidy_fail g 0 BadForm p
tidy_row_unsub_all g p (a ∷ []) f = tidy_operation g 0 (Register RegisterName.Clear) (a.means ∷ []) p (f.0, tt) (λ ts. refl)
tidy_row_unsub_all g p (a ∷ b ∷ []) f = tidy_operation g 0 (Register RegisterName.Drop) (a.means ∷ b.means ∷ []) p (f.0, (f.2.0, tt)) (λ ts. refl)
tidy_row_unsub_all g p (a ∷ b ∷ c ∷ qs) f = tidy_fail g 0 BadForm p

pub tidy_piping : (g : ℕ) (ms : List Meaning) (p : Place) → length ms ≡ 3 → AllKeep g 0 ms → Keeps g 0 (piping ms p)
tidy_piping g ms p e f = tidy_fixed g 0 3 0 ms (λ h. []) (λ h. spawn_call SystemTask.Pipe (var h ∷ var (h + 1) ∷ var (h + 2) ∷ []) p ∷ var (h + 1) ∷ []) f e (λ h. refl)
    (λ h. tt) (λ h. ((refl, (omega arith, (omega arith, (omega arith, tt)))), (omega arith, tt)))

pub tidy_row_pipe : (g : ℕ) (p : Place) (qs : List Part) → PartsKeep g qs → Keeps g 0 (row_pipe p qs)
tidy_row_pipe g p [] f = tidy_fail g 0 BadForm p
tidy_row_pipe g p (a ∷ []) f = tidy_fail g 0 BadForm p
tidy_row_pipe g p (a ∷ b ∷ []) f = tidy_piping g (a.means ∷ b.means ∷ yes ∷ []) p refl (f.0, (f.2.0, (tidy_yes g, tt)))
tidy_row_pipe g p (a ∷ b ∷ z ∷ []) f = tidy_piping g (a.means ∷ b.means ∷ z.means ∷ []) p refl (f.0, (f.2.0, (f.2.2.0, tt)))
tidy_row_pipe g p (a ∷ b ∷ c ∷ d ∷ qs) f = tidy_fail g 0 BadForm p

pub tidy_merging : (g : ℕ) (v o : Meaning) (p : Place) → Keeps g 0 v → Keeps g 0 o → Keeps g 0 (merging v o p)
tidy_merging g v o p f h = tidy_fixed g 0 2 0 (v ∷ o ∷ []) (λ h. []) (λ h. spawn_call SystemTask.Merge (var h ∷ var (h + 1) ∷ []) p ∷ var (h + 1) ∷ []) (f, (h, tt)) refl (λ h. refl)
    (λ h. tt) (λ h. ((refl, (omega arith, (omega arith, tt))), (omega arith, tt)))

pub tidy_row_merge : (g : ℕ) (p : Place) (qs : List Part) → PartsKeep g qs → Keeps g 0 (row_merge p qs)
tidy_row_merge g p [] f = tidy_fail g 0 BadForm p
tidy_row_merge g p (v ∷ []) f = tidy_merging g v.means (row_chan p []) p f.0 (tidy_row_chan g p [] tt)
tidy_row_merge g p (v ∷ b ∷ []) f = tidy_cond g 0 (is_sized (buffer_named (word_of_part b)) b.within) (merging v.means (row_chan p (b ∷ [])) p) (fail_with BadForm p)
    (tidy_merging g v.means (row_chan p (b ∷ [])) p f.0 (tidy_row_chan g p (b ∷ []) f.2)) (tidy_fail g 0 BadForm p)
tidy_row_merge g p (a ∷ b ∷ c ∷ qs) f = tidy_fail g 0 BadForm p

pub tidy_pipelining : (g : ℕ) (xf : Transform) (fn : PlainFunction) (ks : List Kernel) (ms : List Meaning) (p : Place) → length ms ≡ 4
    → IsGiven (applied fn ks) → AllKeep g 0 ms → Keeps g 0 (pipelining xf fn ks ms p)
tidy_pipelining g xf fn ks ms p e r f = tidy_fixed_secret g 0 4 ms
    (λ n. make_call MakeKind.Fixed (var n ∷ []) p ∷ make_call MakeKind.Fixed (var n ∷ []) p ∷ make_call MakeKind.Fixed (whole_number 1 ∷ []) p ∷ [])
    (λ n. repeated n (n + 7) (spawn_call (SystemTask.Job xf fn) (var (n + 4) ∷ ks) p) p
    ∷ spawn_call SystemTask.Feed (var (n + 2) ∷ var (n + 4) ∷ var (n + 5) ∷ []) p
    ∷ spawn_call SystemTask.Collect (var (n + 5) ∷ var (n + 1) ∷ var (n + 3) ∷ var (n + 6) ∷ []) p
    ∷ var (n + 6) ∷ []) f e
    (λ n. of_pipeline (record { transform = xf; function = fn; keyword = r.0; place = p }) ks r.1
    (omega arith) (omega arith) (omega arith) (omega arith) (omega arith) (omega arith) (omega arith) (omega arith))

pub tidy_workers : (g : ℕ) (n : Meaning) (p : Place) → Keeps g 0 n → Keeps g 0 (workers n p)
tidy_workers g n p f = tidy_operation g 0 (Builtin WorkerCount) (n ∷ []) p (f, tt) (λ ts. refl)

pub tidy_pipeline_over : (g : ℕ) (xf : Transform) (r : Given) (q : Place) (n t f z : Meaning) (p : Place) → IsGiven r → Keeps g 0 n → Keeps g 0 t → Keeps g 0 f → Keeps g 0 z
    → Keeps g 0 (pipeline_over xf r q n t f z p)
tidy_pipeline_over g xf (wrong e) q n t f z p r gn gt gf gz = tidy_stopping g 0 (n ∷ t ∷ []) e q
tidy_pipeline_over g xf (applied fn ks) q n t f z p r gn gt gf gz = tidy_pipelining g xf fn ks (workers n p ∷ t ∷ f ∷ z ∷ []) p refl r (tidy_workers g n p gn, (gt, (gf, (gz, tt))))

pub tidy_pipeline_of : (g : ℕ) (o : Option Transform) (qs : List Pair) (n t f z : Meaning) (p : Place) → Keeps g 0 n → Keeps g 0 t → Keeps g 0 f → Keeps g 0 z
    → Keeps g 0 (pipeline_of o qs n t f z p)
tidy_pipeline_of g None qs n t f z p gn gt gf gz = tidy_fail g 0 BadForm p
tidy_pipeline_of g (Some xf) [] n t f z p gn gt gf gz = tidy_fail g 0 BadForm p
tidy_pipeline_of g (Some xf) (a ∷ []) n t f z p gn gt gf gz = tidy_fail g 0 BadForm p
tidy_pipeline_of g (Some xf) (a ∷ b ∷ []) n t f z p gn gt gf gz = λ env s st.
    tidy_pipeline_over g xf (given b.form env) (form_place b.form) n t f z p (is_given b.form env) gn gt gf gz env s st
tidy_pipeline_of g (Some xf) (a ∷ b ∷ c ∷ qs) n t f z p gn gt gf gz = tidy_fail g 0 BadForm p

pub tidy_row_pipeline : (g : ℕ) (p : Place) (qs : List Part) → PartsKeep g qs → Keeps g 0 (row_pipeline p qs)
tidy_row_pipeline g p [] f = tidy_fail g 0 BadForm p
tidy_row_pipeline g p (a ∷ []) f = tidy_fail g 0 BadForm p
tidy_row_pipeline g p (a ∷ b ∷ []) f = tidy_fail g 0 BadForm p
tidy_row_pipeline g p (a ∷ b ∷ c ∷ []) f = tidy_fail g 0 BadForm p
tidy_row_pipeline g p (n ∷ t ∷ x ∷ i ∷ []) f = tidy_pipeline_of g (transform_named (word_of_part x)) x.within n.means t.means i.means yes p f.0 f.2.0 f.2.2.2.0 (tidy_yes g)
tidy_row_pipeline g p (n ∷ t ∷ x ∷ i ∷ z ∷ []) f = tidy_pipeline_of g (transform_named (word_of_part x)) x.within n.means t.means i.means z.means p f.0 f.2.0 f.2.2.2.0 f.2.2.2.2.0
tidy_row_pipeline g p (a ∷ b ∷ c ∷ d ∷ e ∷ i ∷ qs) f = tidy_fail g 0 BadForm p

pub tidy_putting_onto : (g : ℕ) (ms : List Meaning) (p : Place) → length ms ≡ 3 → AllKeep g 0 ms → Keeps g 0 (putting_onto ms p)
tidy_putting_onto g ms p e f = tidy_fixed g 0 3 1 ms (λ h. make_call MakeKind.Fixed (whole_number 1 ∷ []) p ∷ [])
    (λ h. spawn_call SystemTask.Onto (var h ∷ var (h + 1) ∷ var (h + 2) ∷ var (h + 3) ∷ []) p ∷ var (h + 3) ∷ []) f e (λ h. refl)
    (λ h. ((refl, (tt, tt)), tt)) (λ h. ((refl, (omega arith, (omega arith, (omega arith, (omega arith, tt))))), (omega arith, tt)))

pub tidy_row_onto : (g : ℕ) (p : Place) (qs : List Part) → PartsKeep g qs → Keeps g 0 (row_onto p qs)
tidy_row_onto g p [] f = tidy_fail g 0 BadForm p
tidy_row_onto g p (a ∷ []) f = tidy_fail g 0 BadForm p
tidy_row_onto g p (c ∷ v ∷ []) f = tidy_putting_onto g (c.means ∷ v.means ∷ yes ∷ []) p refl (f.0, (f.2.0, (tidy_yes g, tt)))
tidy_row_onto g p (c ∷ v ∷ z ∷ []) f = tidy_putting_onto g (c.means ∷ v.means ∷ z.means ∷ []) p refl (f.0, (f.2.0, (f.2.2.0, tt)))
tidy_row_onto g p (a ∷ b ∷ c ∷ d ∷ qs) f = tidy_fail g 0 BadForm p

pub tidy_row_to : (g : ℕ) (p : Place) (qs : List Part) → PartsKeep g qs → Keeps g 0 (row_to p qs)
tidy_row_to g p [] f = tidy_fail g 0 BadForm p
tidy_row_to g p (v ∷ []) f = tidy_fixed g 0 1 2 (v.means ∷ [])
    (λ h. make_call MakeKind.Sized (built Min (whole_number 100 ∷ built Count (var h ∷ []) p ∷ []) p ∷ []) p ∷ make_call MakeKind.Fixed (whole_number 1 ∷ []) p ∷ [])
    (λ h. spawn_call SystemTask.Onto (var (h + 1) ∷ var h ∷ const (bool true) ∷ var (h + 2) ∷ []) p ∷ var (h + 1) ∷ []) (f.0, tt) refl (λ h. refl)
    (λ h. ((refl, ((refl, (tt, ((refl, (omega arith, tt)), tt))), tt)), ((refl, (tt, tt)), tt)))
    (λ h. ((refl, (omega arith, (omega arith, (tt, (omega arith, tt))))), (omega arith, tt)))
tidy_row_to g p (a ∷ b ∷ qs) f = tidy_fail g 0 BadForm p
