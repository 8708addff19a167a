-- The rows of the forms of core.async. Most are one operation over their operands; the others are a Let of
-- their operands under hidden names, and a small fixed term over these.
use Rattle.std.specs.Prelude.{ℕ, ◌+◌, pos, List, [], ◌∷◌, Option, None, Some, Bool, true, false, cond, codes}
use Rattle.std.specs.Str.{bytes_eq}
use Rattle.ca_value.specs.Tree.{nil, int, bool, key}
use Rattle.ca_value.specs.declared.builtin.Builtin.{Builtin as BuiltinName}
use Rattle.ca_value.specs.declared.builtin.Builtin.TheVariants.{Equal, Nth, Vector, IsNil, IsSome, Min, Count, Less, Inc, WorkerCount}
use Rattle.ca_term.specs.declared.place.Place.{Place}
use Rattle.ca_term.specs.declared.head.Head.{Head}
use Rattle.ca_term.specs.declared.head.Head.TheVariants.{Recur, Builtin, Take, Put, Alts, Make, Spawn, Register, Post}
use Rattle.ca_term.specs.declared.head.AltsOptions.{AltsOptions}
use Rattle.ca_term.specs.declared.head.MakeKind.{MakeKind}
use Rattle.ca_term.specs.declared.head.SeedKind.{SeedKind}
use Rattle.ca_term.specs.declared.head.SystemTask.{SystemTask}
use Rattle.ca_term.specs.declared.head.Transform.{Transform}
use Rattle.ca_term.specs.declared.head.PlainFunction.{PlainFunction}
use Rattle.ca_term.specs.declared.head.RegisterName.{RegisterName}
use Rattle.ca_term.specs.Kernel.{Kernel, const, var, branch, bind, loop, seq, apply, empty, binding}
use Rattle.ca_term.specs.View.{kernels_of}
use Rattle.ca_reader.specs.declared.form.Bracket.TheVariants.{Round}
use Rattle.ca_reader.specs.Form.{FormTree, form, atom, group, symbol, key as keyword, form_place}
use Rattle.ca_forms.specs.declared.context.Context.{Context}
use Rattle.ca_forms.specs.declared.context.Context.TheVariants.{Main, Go, Function}
use Rattle.ca_forms.specs.declared.special.Special.{Special}
use Rattle.ca_forms.specs.declared.error.CheckErrorKind.{CheckErrorKind}
use Rattle.ca_forms.specs.declared.error.CheckErrorKind.TheVariants.{BadForm, ParkOutsideGo, BlockOutsideMain}
use Rattle.ca_forms.specs.Words.{special}
use Rattle.ca_forms.specs.Outcome.{refused, after_walk}
use Rattle.ca_forms.specs.Meaning.{Meaning, inner, fail_with, constant_value, means_in_order, operation, hiding, numbered}
use Rattle.ca_forms.specs.Binders.{Pair, Part}
use Rattle.ca_forms.specs.Plain.{meanings}
use Rattle.ca_forms.specs.Names.{Given, applied, wrong, given}

-- what stands in the visible text of a go body alone
abbrev pub parking : Meaning → Place → Context → Meaning
parking m p Go = m
parking m p Main = fail_with ParkOutsideGo p
parking m p Function = fail_with ParkOutsideGo p

-- what stands in the main text outside go bodies alone
abbrev pub blocking : Meaning → Place → Context → Meaning
blocking m p Main = m
blocking m p Go = fail_with BlockOutsideMain p
blocking m p Function = fail_with BlockOutsideMain p

-- one operation over the one operand, the two operands that are written
abbrev pub row_of_one : Head → Place → List Part → Meaning
row_of_one h p (a ∷ []) = operation h (a.means ∷ []) p
row_of_one h p ps = fail_with BadForm p

abbrev pub row_of_two : Head → Place → List Part → Meaning
row_of_two h p (a ∷ b ∷ []) = operation h (a.means ∷ b.means ∷ []) p
row_of_two h p ps = fail_with BadForm p

-- (<! c), (<!! c)
abbrev pub row_take : (Meaning → Place → Context → Meaning) → Place → List Part → Meaning
row_take where_it_may p (c ∷ []) = λ env. where_it_may (operation Take (c.means ∷ []) p) p env.context env
row_take where_it_may p ps = fail_with BadForm p

-- (>! c v), (>!! c v)
abbrev pub row_put : (Meaning → Place → Context → Meaning) → Place → List Part → Meaning
row_put where_it_may p (c ∷ v ∷ []) = λ env. where_it_may (operation Put (c.means ∷ v.means ∷ []) p) p env.context env
row_put where_it_may p ps = fail_with BadForm p

abbrev pub is_key : List ℕ → FormTree → Bool
is_key k (form (atom (keyword s)) p) = bytes_eq s k
is_key k (form s p) = false

abbrev pub option_of : FormTree → Option AltsOptions
option_of k = cond (is_key (codes "priority") k) (Some AltsOptions.Priority)
    (cond (is_key (codes "default") k) (Some AltsOptions.Default) None)

-- each at most once
abbrev pub both_options : Option AltsOptions → Option AltsOptions → Option AltsOptions
both_options (Some AltsOptions.Priority) (Some AltsOptions.Default) = Some AltsOptions.PriorityThenDefault
both_options (Some AltsOptions.Default) (Some AltsOptions.Priority) = Some AltsOptions.DefaultThenPriority
both_options o r = None

-- the options :priority and :default behind the ports, if they are right
abbrev pub options_in : List Part → Option AltsOptions
options_in (v ∷ []) = Some AltsOptions.None
options_in (v ∷ k ∷ e ∷ []) = option_of k.form
options_in (v ∷ k ∷ e ∷ l ∷ f ∷ []) = both_options (option_of k.form) (option_of l.form)
options_in ps = None

-- the ports, then what the options say
abbrev pub operands_in : List Part → List Meaning
operands_in (v ∷ k ∷ e ∷ l ∷ f ∷ ps) = v.means ∷ e.means ∷ f.means ∷ []
operands_in (v ∷ k ∷ e ∷ ps) = v.means ∷ e.means ∷ []
operands_in ps = meanings ps

abbrev pub alts_meaning : (Meaning → Place → Context → Meaning) → Option AltsOptions → List Meaning → Place → Meaning
alts_meaning where_it_may None ms p = fail_with BadForm p
alts_meaning where_it_may (Some o) ms p = λ env. where_it_may (operation (Alts o) ms p) p env.context env

-- (alts! v o ..), (alts!! v o ..)
abbrev pub row_alts : (Meaning → Place → Context → Meaning) → Place → List Part → Meaning
row_alts where_it_may p ps = alts_meaning where_it_may (options_in ps) (operands_in ps) p

-- small terms at p over names and constants
abbrev pub whole_number : ℕ → Kernel
whole_number n = const (int (pos n))

abbrev pub built : BuiltinName → List Kernel → Place → Kernel
built b ts p = apply (Builtin b) (kernels_of ts) p

abbrev pub make_call : MakeKind → List Kernel → Place → Kernel
make_call kind ts p = apply (Make kind) (kernels_of ts) p

abbrev pub spawn_call : SystemTask → List Kernel → Place → Kernel
spawn_call task ts p = apply (Spawn (SeedKind.System task)) (kernels_of ts) p

abbrev pub register_call : RegisterName → List Kernel → Place → Kernel
register_call name ts p = apply (Register name) (kernels_of ts) p

abbrev pub nth_call : ℕ → ℕ → Place → Kernel
nth_call h i p = built Nth (var h ∷ whole_number i ∷ []) p

-- (alts of these ports with the default nil)
abbrev pub alts_or_nil : List Kernel → Place → Kernel
alts_or_nil ports p = apply (Alts AltsOptions.Default) (kernels_of (built Vector ports p ∷ const nil ∷ [])) p

-- (if (= (nth h 1) :default) nil (nth h 0))
abbrev pub unless_default : ℕ → Place → Kernel
unless_default h p = branch (built Equal (nth_call h 1 p ∷ const (key (codes "default")) ∷ []) p) (const nil) (nth_call h 0 p)

-- (offer! c v), which is (let [h c h2 v h3 <Alts [[h h2]] default nil>] (if (= (nth h3 1) :default) nil (nth h3 0)))
abbrev pub row_offer : Place → List Part → Meaning
row_offer p (c ∷ v ∷ []) = hiding (c.means ∷ v.means ∷ [])
    (λ h. alts_or_nil (built Vector (var h ∷ var (h + 1) ∷ []) p ∷ []) p ∷ []) (λ h. unless_default (h + 2) p ∷ [])
row_offer p ps = fail_with BadForm p

-- (poll! c), which is the same over the port alone
abbrev pub row_poll : Place → List Part → Meaning
row_poll p (c ∷ []) = hiding (c.means ∷ []) (λ h. alts_or_nil (var h ∷ []) p ∷ []) (λ h. unless_default (h + 1) p ∷ [])
row_poll p ps = fail_with BadForm p

-- the kind of buffer that a word names
abbrev pub buffer_named : Option Special → Option MakeKind
buffer_named (Some Special.Buffer) = Some MakeKind.Fixed
buffer_named (Some Special.DroppingBuffer) = Some MakeKind.Dropping
buffer_named (Some Special.SlidingBuffer) = Some MakeKind.Sliding
buffer_named k = None

-- the word at the head of a list
abbrev pub head_word : FormTree → Option Special
head_word (form (atom (symbol s)) p) = special s
head_word (form s p) = None

abbrev pub word_of : List Pair → Option Special
word_of [] = None
word_of (h ∷ qs) = head_word h.form

abbrev pub is_list : FormTree → Bool
is_list (form (group Round fs) p) = true
is_list (form s p) = false

-- the word at the head of a part that is a list
abbrev pub word_of_part : Part → Option Special
word_of_part a = cond (is_list a.form) (word_of a.within) None

-- a channel with such a buffer, of the size that stands behind the buffer's word
abbrev pub buffered_channel : MakeKind → List Pair → Place → Meaning
buffered_channel kind (h ∷ n ∷ []) p = operation (Make kind) (n.means ∷ []) p
buffered_channel kind qs p = fail_with BadForm p

abbrev pub chan_of : Option MakeKind → Part → Place → Meaning
chan_of (Some kind) a p = buffered_channel kind a.within p
chan_of None a p = operation (Make MakeKind.Sized) (a.means ∷ []) p

-- (chan), (chan n), (chan (buffer n)), (chan (dropping-buffer n)), (chan (sliding-buffer n))
abbrev pub row_chan : Place → List Part → Meaning
row_chan p [] = operation (Make MakeKind.Unbuffered) [] p
row_chan p (a ∷ []) = chan_of (buffer_named (word_of_part a)) a p
row_chan p ps = fail_with BadForm p

-- (promise-chan)
abbrev pub row_promise : Place → List Part → Meaning
row_promise p [] = operation (Make MakeKind.Promise) [] p
row_promise p ps = fail_with BadForm p

-- (mult c), which is (let [h c a <Make chan none> m <Make mult h>] <Spawn mult m h a> m)
abbrev pub row_mult : Place → List Part → Meaning
row_mult p (c ∷ []) = hiding (c.means ∷ []) (λ h. make_call MakeKind.Unbuffered [] p ∷ make_call MakeKind.Mult (var h ∷ []) p ∷ [])
    (λ h. spawn_call SystemTask.Mult (var (h + 2) ∷ var h ∷ var (h + 1) ∷ []) p ∷ var (h + 2) ∷ [])
row_mult p ps = fail_with BadForm p

-- an option that isn't written is true
abbrev pub yes : Meaning
yes = constant_value (bool true)

-- (tap m c), (tap m c z)
abbrev pub row_tap : Place → List Part → Meaning
row_tap p (m ∷ c ∷ []) = operation (Register RegisterName.Tap) (m.means ∷ c.means ∷ yes ∷ []) p
row_tap p (m ∷ c ∷ z ∷ []) = operation (Register RegisterName.Tap) (m.means ∷ c.means ∷ z.means ∷ []) p
row_tap p ps = fail_with BadForm p

-- (mix o), which is (let [h o g <Make chan sliding 1> x <Make mix h g>] <Spawn mix x h g> x)
abbrev pub row_mix : Place → List Part → Meaning
row_mix p (o ∷ []) = hiding (o.means ∷ []) (λ h. make_call MakeKind.Sliding (whole_number 1 ∷ []) p ∷ make_call MakeKind.Mix (var h ∷ var (h + 1) ∷ []) p ∷ [])
    (λ h. spawn_call SystemTask.Mix (var (h + 2) ∷ var h ∷ var (h + 1) ∷ []) p ∷ var (h + 2) ∷ [])
row_mix p ps = fail_with BadForm p

-- a change of a mix, which is (let [g <Register NAME ARGS>] <Post g true> nil)
abbrev pub changing : RegisterName → List Meaning → Place → Meaning
changing name ms p = hiding (operation (Register name) ms p ∷ []) (λ g. [])
    (λ g. apply Post (kernels_of (var g ∷ const (bool true) ∷ [])) p ∷ const nil ∷ [])

-- (unmix-all x)
abbrev pub row_change_of_one : RegisterName → Place → List Part → Meaning
row_change_of_one name p (x ∷ []) = changing name (x.means ∷ []) p
row_change_of_one name p ps = fail_with BadForm p

-- (admix x c), (unmix x c), (toggle x m), (solo-mode x k)
abbrev pub row_change_of_two : RegisterName → Place → List Part → Meaning
row_change_of_two name p (x ∷ a ∷ []) = changing name (x.means ∷ a.means ∷ []) p
row_change_of_two name p ps = fail_with BadForm p

-- these parts, and then an error at q
abbrev pub stopping : List Meaning → CheckErrorKind → Place → Meaning
stopping ms e q env s = after_walk (means_in_order ms (inner env) s) (λ ts s. refused e q)

abbrev pub pub_of : Given → Meaning → Place → Place → Meaning
pub_of (wrong e) c q p = stopping (c ∷ []) e q
pub_of (applied f ks) c q p = hiding (c ∷ []) (λ h. make_call MakeKind.Pub (var h ∷ []) p ∷ [])
    (λ h. spawn_call (SystemTask.Pub f) (var (h + 1) ∷ var h ∷ ks) p ∷ var (h + 1) ∷ [])

-- (pub c f), which is (let [h c p <Make pub h>] <Spawn pub p h f> p)
abbrev pub row_pub : Place → List Part → Meaning
row_pub p (c ∷ f ∷ []) = λ env. pub_of (given f.form env) c.means (form_place f.form) p env
row_pub p ps = fail_with BadForm p

-- The topic's mult m in a pair, placed where the topic has none, from number q on:
-- (let [q <Make chan none> a <Make chan none> m <Make mult q> w <Register place hp ht m q>]
--   (if (= (nth w 0) m) <Spawn mult m q a> nil) w)
abbrev pub topic_placed : ℕ → ℕ → ℕ → Place → Kernel
topic_placed hp ht q p = bind
    (numbered q (make_call MakeKind.Unbuffered [] p ∷ make_call MakeKind.Unbuffered [] p ∷ make_call MakeKind.Mult (var q ∷ []) p
    ∷ register_call RegisterName.Place (var hp ∷ var ht ∷ var (q + 2) ∷ var q ∷ []) p ∷ []))
    (seq (kernels_of (
    branch (built Equal (nth_call (q + 3) 0 p ∷ var (q + 2) ∷ []) p)
    (spawn_call SystemTask.Mult (var (q + 2) ∷ var q ∷ var (q + 1) ∷ []) p) (const nil)
    ∷ var (q + 3) ∷ [])))

-- (let [hp p ht t hc c hz z h <Register find hp ht> pair (if (nil? h) (placed ..) h)]
--   <Register tap (nth pair 0) hc hz> nil)
abbrev pub subscribing : List Meaning → Place → Meaning
subscribing ms p = hiding ms
    (λ n. register_call RegisterName.Find (var n ∷ var (n + 1) ∷ []) p
    ∷ branch (built IsNil (var (n + 4) ∷ []) p) (topic_placed n (n + 1) (n + 5) p) (var (n + 4)) ∷ [])
    (λ n. register_call RegisterName.Tap (nth_call (n + 5) 0 p ∷ var (n + 2) ∷ var (n + 3) ∷ []) p ∷ const nil ∷ [])

-- (sub p t c), (sub p t c z)
abbrev pub row_sub : Place → List Part → Meaning
row_sub p (b ∷ t ∷ c ∷ []) = subscribing (b.means ∷ t.means ∷ c.means ∷ yes ∷ []) p
row_sub p (b ∷ t ∷ c ∷ z ∷ []) = subscribing (b.means ∷ t.means ∷ c.means ∷ z.means ∷ []) p
row_sub p ps = fail_with BadForm p

-- (unsub p t c), which is (let [hp p ht t hc c h <Register find hp ht>] (if (some? h) <Register untap (nth h 0) hc> nil) nil)
abbrev pub row_unsub : Place → List Part → Meaning
row_unsub p (b ∷ t ∷ c ∷ []) = hiding (b.means ∷ t.means ∷ c.means ∷ [])
    (λ n. register_call RegisterName.Find (var n ∷ var (n + 1) ∷ []) p ∷ [])
    (λ n. branch (built IsSome (var (n + 3) ∷ []) p) (register_call RegisterName.Untap (nth_call (n + 3) 0 p ∷ var (n + 2) ∷ []) p) (const nil)
    ∷ const nil ∷ [])
row_unsub p ps = fail_with BadForm p

-- (unsub-all p), (unsub-all p t)
abbrev pub row_unsub_all : Place → List Part → Meaning
row_unsub_all p (b ∷ []) = operation (Register RegisterName.Clear) (b.means ∷ []) p
row_unsub_all p (b ∷ t ∷ []) = operation (Register RegisterName.Drop) (b.means ∷ t.means ∷ []) p
row_unsub_all p ps = fail_with BadForm p

-- (let [f f t t z z] <Spawn pipe f t z> t)
abbrev pub piping : List Meaning → Place → Meaning
piping ms p = hiding ms (λ h. []) (λ h. spawn_call SystemTask.Pipe (var h ∷ var (h + 1) ∷ var (h + 2) ∷ []) p ∷ var (h + 1) ∷ [])

-- (pipe f t), (pipe f t z)
abbrev pub row_pipe : Place → List Part → Meaning
row_pipe p (f ∷ t ∷ []) = piping (f.means ∷ t.means ∷ yes ∷ []) p
row_pipe p (f ∷ t ∷ z ∷ []) = piping (f.means ∷ t.means ∷ z.means ∷ []) p
row_pipe p ps = fail_with BadForm p

-- (let [h v o (chan ..)] <Spawn merge h o> o)
abbrev pub merging : Meaning → Meaning → Place → Meaning
merging v o p = hiding (v ∷ o ∷ []) (λ h. []) (λ h. spawn_call SystemTask.Merge (var h ∷ var (h + 1) ∷ []) p ∷ var (h + 1) ∷ [])

-- whether a buffer's word has one size behind it
abbrev pub is_sized : Option MakeKind → List Pair → Bool
is_sized None qs = true
is_sized (Some kind) (h ∷ n ∷ []) = true
is_sized (Some kind) qs = false

-- (merge v), (merge v b)
abbrev pub row_merge : Place → List Part → Meaning
row_merge p (v ∷ []) = merging v.means (row_chan p []) p
row_merge p (v ∷ b ∷ []) = cond (is_sized (buffer_named (word_of_part b)) b.within) (merging v.means (row_chan p (b ∷ [])) p) (fail_with BadForm p)
row_merge p ps = fail_with BadForm p

abbrev pub transform_named : Option Special → Option Transform
transform_named (Some Special.Map) = Some Transform.Map
transform_named (Some Special.Filter) = Some Transform.Filter
transform_named (Some Special.Mapcat) = Some Transform.Mapcat
transform_named k = None

-- what is done n times, i being the next number: (loop [i 0] (when (< i n) job (recur (inc i))))
abbrev pub repeated : ℕ → ℕ → Kernel → Place → Kernel
repeated n i job p = loop [] (binding i (whole_number 0) empty) (seq (kernels_of (
    branch (built Less (var i ∷ var n ∷ []) p) (seq (kernels_of (
    job ∷ apply Recur (kernels_of (built Inc (var i ∷ []) p ∷ [])) p ∷ []))) (const nil) ∷ [])))

-- (let [n (worker-count n) t t f f z z j <Make chan fixed n> q <Make chan fixed n> r <Make chan fixed 1>]
--   n times <Spawn job j xf>, <Spawn feed f j q> <Spawn collect q t z r> r)
abbrev pub pipelining : Transform → PlainFunction → List Kernel → List Meaning → Place → Meaning
pipelining xf g ks ms p = hiding ms
    (λ n. make_call MakeKind.Fixed (var n ∷ []) p ∷ make_call MakeKind.Fixed (var n ∷ []) p ∷ make_call MakeKind.Fixed (whole_number 1 ∷ []) p ∷ [])
    (λ n. repeated n (n + 7) (spawn_call (SystemTask.Job xf g) (var (n + 4) ∷ ks) p) p
    ∷ spawn_call SystemTask.Feed (var (n + 2) ∷ var (n + 4) ∷ var (n + 5) ∷ []) p
    ∷ spawn_call SystemTask.Collect (var (n + 5) ∷ var (n + 1) ∷ var (n + 3) ∷ var (n + 6) ∷ []) p
    ∷ var (n + 6) ∷ [])

abbrev pub workers : Meaning → Place → Meaning
workers n p = operation (Builtin WorkerCount) (n ∷ []) p

abbrev pub pipeline_over : Transform → Given → Place → Meaning → Meaning → Meaning → Meaning → Place → Meaning
pipeline_over xf (wrong e) q n t f z p = stopping (n ∷ t ∷ []) e q
pipeline_over xf (applied g ks) q n t f z p = pipelining xf g ks (workers n p ∷ t ∷ f ∷ z ∷ []) p

abbrev pub pipeline_of : Option Transform → List Pair → Meaning → Meaning → Meaning → Meaning → Place → Meaning
pipeline_of (Some xf) (h ∷ g ∷ []) n t f z p = λ env. pipeline_over xf (given g.form env) (form_place g.form) n t f z p env
pipeline_of xf qs n t f z p = fail_with BadForm p

-- (pipeline n t xf f), (pipeline n t xf f z); xf is (map g), (filter g) or (mapcat g)
abbrev pub row_pipeline : Place → List Part → Meaning
row_pipeline p (n ∷ t ∷ x ∷ f ∷ []) = pipeline_of (transform_named (word_of_part x)) x.within n.means t.means f.means yes p
row_pipeline p (n ∷ t ∷ x ∷ f ∷ z ∷ []) = pipeline_of (transform_named (word_of_part x)) x.within n.means t.means f.means z.means p
row_pipeline p ps = fail_with BadForm p

-- (let [c c v v z z r <Make chan fixed 1>] <Spawn onto c v z r> r)
abbrev pub putting_onto : List Meaning → Place → Meaning
putting_onto ms p = hiding ms (λ h. make_call MakeKind.Fixed (whole_number 1 ∷ []) p ∷ [])
    (λ h. spawn_call SystemTask.Onto (var h ∷ var (h + 1) ∷ var (h + 2) ∷ var (h + 3) ∷ []) p ∷ var (h + 3) ∷ [])

-- (onto-chan! c v), (onto-chan! c v z)
abbrev pub row_onto : Place → List Part → Meaning
row_onto p (c ∷ v ∷ []) = putting_onto (c.means ∷ v.means ∷ yes ∷ []) p
row_onto p (c ∷ v ∷ z ∷ []) = putting_onto (c.means ∷ v.means ∷ z.means ∷ []) p
row_onto p ps = fail_with BadForm p

-- (to-chan! v), which is (let [h v c (chan (min 100 (count h))) r <Make chan fixed 1>] <Spawn onto c h true r> c)
abbrev pub row_to : Place → List Part → Meaning
row_to p (v ∷ []) = hiding (v.means ∷ [])
    (λ h. make_call MakeKind.Sized (built Min (whole_number 100 ∷ built Count (var h ∷ []) p ∷ []) p ∷ []) p ∷ make_call MakeKind.Fixed (whole_number 1 ∷ []) p ∷ [])
    (λ h. spawn_call SystemTask.Onto (var (h + 1) ∷ var h ∷ const (bool true) ∷ var (h + 2) ∷ []) p ∷ var (h + 1) ∷ [])
row_to p ps = fail_with BadForm p
