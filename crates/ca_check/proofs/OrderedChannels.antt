-- The rows of calls and of the forms of core.async add the go bodies of their parts in order.
use Rattle.std.proofs.Common.{◌≡◌, ℕ, ◌+◌, List, [], ◌∷◌, ◌++◌, length, map, refl, sym, ap, ◌∙◌, Option, Some, None, Bool, true, false, cond, nat_lt, nat_eq}
use Rattle.std.proofs.lemmas.List.{append-nil}
use Rattle.ca_value.specs.Tree.{nil, bool, key}
use Rattle.ca_value.specs.Builtins.{admits_arguments}
use Rattle.ca_value.specs.declared.builtin.Builtin.{Builtin as BuiltinName}
use Rattle.ca_value.specs.declared.builtin.Builtin.TheVariants.{Get, WorkerCount, Vector, IsNil, IsSome, Min, Count}
use Rattle.ca_term.specs.declared.place.Place.{Place}
use Rattle.ca_term.specs.declared.head.Head.{Head}
use Rattle.ca_term.specs.declared.head.Head.TheVariants.{Builtin, Call, Take, Put, Alts, Make, Register, Post}
use Rattle.ca_term.specs.declared.head.AltsOptions.{AltsOptions}
use Rattle.ca_term.specs.declared.head.MakeKind.{MakeKind}
use Rattle.ca_term.specs.declared.head.RegisterName.{RegisterName}
use Rattle.ca_term.specs.declared.head.Transform.{Transform}
use Rattle.ca_term.specs.declared.head.SystemTask.{SystemTask}
use Rattle.ca_term.specs.declared.head.PlainFunction.{PlainFunction}
use Rattle.ca_term.specs.Kernel.{Kernel, const, var, branch, apply}
use Rattle.ca_term.specs.View.{kernels_of}
use Rattle.ca_reader.specs.Form.{FormTree, form, atom, group, form_place}
use Rattle.ca_forms.specs.declared.context.Context.{Context}
use Rattle.ca_forms.specs.declared.context.Context.TheVariants.{Main, Go, Function}
use Rattle.ca_forms.specs.declared.error.CheckErrorKind.{CheckErrorKind}
use Rattle.ca_forms.specs.declared.error.CheckErrorKind.TheVariants.{BadForm, BadArity, UnknownName, TooMany}
use Rattle.ca_forms.specs.declared.special.Special.{Special}
use Rattle.ca_forms.specs.Words.{builtin}
use Rattle.ca_forms.specs.Outcome.{WalkOutcome, done, refused, after_walk}
use Rattle.ca_forms.specs.Meaning.{Env, Signature, Meaning, inner, lookup, constant_value, local_name, fail_with, means_in_order, operation}
use Rattle.ca_forms.specs.Binders.{Pair, Part}
use Rattle.ca_forms.specs.Names.{find_function, symbol_of, row_symbol, written_text, builtin_call, function_call, call_of_builtin, call_of_function, call_of, row_call, row_keyword, Given, applied, wrong, given_atom, given}
use Rattle.ca_forms.specs.Channels.{parking, blocking, row_of_one, row_of_two, row_take, row_put, option_of, both_options, alts_meaning, row_alts, whole_number, built, make_call, spawn_call, register_call, nth_call, alts_or_nil, unless_default, topic_placed, repeated, row_offer, row_poll, buffer_named, head_word, is_list, word_of, word_of_part, buffered_channel, chan_of, row_chan, row_promise, row_mult, yes, row_tap, row_mix, changing, row_change_of_one, row_change_of_two, stopping, pub_of, row_pub, subscribing, row_sub, row_unsub, row_unsub_all, piping, row_pipe, merging, is_sized, row_merge, transform_named, pipelining, workers, pipeline_over, pipeline_of, row_pipeline, putting_onto, row_onto, row_to}
use Rattle.ca_check.specs.Order.{is_go, go_blocks_in}
use Rattle.ca_check.proofs.Ordered.{Leaves, Ordered, ordered_same, ordered_constant, ordered_local, ordered_fail, ordered_cond, total, total_append, AllOrdered, all_append, ordered_operation, ordered_hiding}
use Rattle.ca_check.proofs.OrderedPlain.{blocks_of, pair_blocks, PairsOrdered, PartOrdered, PartsOrdered, means_ordered}

-- calls
pub ordered_symbol : (s : List ℕ) (p : Place) → Ordered [] (row_symbol s p)
ordered_symbol s p env st = by (lookup s env.scope) where
  by : (o : Option ℕ) → Leaves [] st (symbol_of o s p env st)
  by None = tt
  by (Some n) = ordered_local n env st

pub ordered_written : (ps : List Place) (s : List ℕ) (p : Place) (m : Meaning) → Ordered ps m → Ordered ps (written_text s p m)
ordered_written ps s p m f = ordered_cond ps (nat_lt 65535 (length s)) (fail_with TooMany p) m (ordered_fail ps TooMany p) f

pub ordered_builtin_call : (pss : List (List Place)) (b : BuiltinName) (ms : List Meaning) (p : Place) → AllOrdered pss ms → Ordered (total pss) (builtin_call b ms p)
ordered_builtin_call pss b ms p f = ordered_cond (total pss) (admits_arguments b (length ms)) (operation (Builtin b) ms p) (fail_with BadArity p) (ordered_operation pss (Builtin b) ms p f) (ordered_fail (total pss) BadArity p)

abbrev pub nones : List ℕ → List (List Place)
nones ns = map (λ n. []) ns

pub locals_ordered : (ns : List ℕ) → AllOrdered (nones ns) (map local_name ns)
locals_ordered [] = tt
locals_ordered (n ∷ ns) = (ordered_local n, locals_ordered ns)

pub total_nones : (ns : List ℕ) → total (nones ns) ≡ []
total_nones [] = refl
total_nones (n ∷ ns) = total_nones ns

pub ordered_function_call : (pss : List (List Place)) (i : ℕ) (f : Signature) (ms : List Meaning) (p : Place) → AllOrdered pss ms → Ordered (total pss) (function_call i f ms p)
ordered_function_call pss i f ms p g = ordered_cond (total pss) (nat_eq (length ms) f.arity) (operation (Call i) (ms ++ map local_name f.hidden) p) (fail_with BadArity p)
    (ordered_same (total (pss ++ nones f.hidden)) (total pss) (operation (Call i) (ms ++ map local_name f.hidden) p)
    (total_append pss (nones f.hidden) ∙ ap (λ l. total pss ++ l) (total_nones f.hidden) ∙ append-nil (total pss))
    (ordered_operation (pss ++ nones f.hidden) (Call i) (ms ++ map local_name f.hidden) p (all_append pss (nones f.hidden) ms (map local_name f.hidden) g (locals_ordered f.hidden))))
    (ordered_fail (total pss) BadArity p)

pub ordered_row_call : (pss : List (List Place)) (s : List ℕ) (q : Place) (ms : List Meaning) (p : Place) → AllOrdered pss ms → Ordered (total pss) (row_call s q ms p)
ordered_row_call pss s q ms p f env st = by (lookup s env.scope) where
  built : (o : Option BuiltinName) → Ordered (total pss) (call_of_builtin o q ms p)
  built None = ordered_fail (total pss) UnknownName q
  built (Some b) = ordered_builtin_call pss b ms p f

  called : (o : Option (ℕ × Signature)) → Leaves (total pss) st (call_of_function o (call_of_builtin (builtin s) q ms p) ms p env st)
  called None = built (builtin s) env st
  called (Some x) = ordered_function_call pss x.0 x.1 ms p f env st

  by : (o : Option ℕ) → Leaves (total pss) st (call_of o s q ms p env st)
  by (Some n) = tt
  by None = called (find_function s env.functions 0)

pub ordered_keyword : (k : List ℕ) (q : Place) (qs : List Part) (p : Place) → PartsOrdered qs → Ordered (total (blocks_of qs)) (row_keyword k q (map (λ r. r.means) qs) p)
ordered_keyword k q [] p f = λ env s. tt
ordered_keyword k q (m ∷ []) p f = ordered_written (go_blocks_in m.form ++ []) k q (operation (Builtin Get) (m.means ∷ constant_value (key k) ∷ []) p)
    (ordered_operation (go_blocks_in m.form ∷ [] ∷ []) (Builtin Get) (m.means ∷ constant_value (key k) ∷ []) p (f.0.means, (ordered_constant (key k), tt)))
ordered_keyword k q (m ∷ d ∷ []) p f = ordered_written (go_blocks_in m.form ++ (go_blocks_in d.form ++ [])) k q (operation (Builtin Get) (m.means ∷ constant_value (key k) ∷ d.means ∷ []) p)
    (ordered_operation (go_blocks_in m.form ∷ [] ∷ go_blocks_in d.form ∷ []) (Builtin Get) (m.means ∷ constant_value (key k) ∷ d.means ∷ []) p (f.0.means, (ordered_constant (key k), (f.1.0.means, tt))))
ordered_keyword k q (m ∷ d ∷ e ∷ qs) p f = λ env s. tt

-- one operation
pub ordered_row_of_one : (h : Head) (p : Place) (qs : List Part) → PartsOrdered qs → Ordered (total (blocks_of qs)) (row_of_one h p qs)
ordered_row_of_one h p [] f = λ env s. tt
ordered_row_of_one h p (a ∷ []) f = ordered_operation (blocks_of (a ∷ [])) h (a.means ∷ []) p (f.0.means, tt)
ordered_row_of_one h p (a ∷ b ∷ qs) f = λ env s. tt

pub ordered_row_of_two : (h : Head) (p : Place) (qs : List Part) → PartsOrdered qs → Ordered (total (blocks_of qs)) (row_of_two h p qs)
ordered_row_of_two h p [] f = λ env s. tt
ordered_row_of_two h p (a ∷ []) f = λ env s. tt
ordered_row_of_two h p (a ∷ b ∷ []) f = ordered_operation (blocks_of (a ∷ b ∷ [])) h (a.means ∷ b.means ∷ []) p (f.0.means, (f.1.0.means, tt))
ordered_row_of_two h p (a ∷ b ∷ c ∷ qs) f = λ env s. tt

-- where it may stand
abbrev pub PlaceOrdered : (Meaning → Place → Context → Meaning) → Type 0
PlaceOrdered w = (ps : List Place) (m : Meaning) (p : Place) (c : Context) → Ordered ps m → Ordered ps (w m p c)

pub parking_ordered : PlaceOrdered parking
parking_ordered ps m p Go f = f
parking_ordered ps m p Main f = λ env s. tt
parking_ordered ps m p Function f = λ env s. tt

pub blocking_ordered : PlaceOrdered blocking
blocking_ordered ps m p Main f = f
blocking_ordered ps m p Go f = λ env s. tt
blocking_ordered ps m p Function f = λ env s. tt

pub ordered_row_take : (w : Meaning → Place → Context → Meaning) (p : Place) (qs : List Part) → PlaceOrdered w → PartsOrdered qs → Ordered (total (blocks_of qs)) (row_take w p qs)
ordered_row_take w p [] u f = λ env s. tt
ordered_row_take w p (a ∷ []) u f = λ env s. u (go_blocks_in a.form ++ []) (operation Take (a.means ∷ []) p) p env.context (ordered_row_of_one Take p (a ∷ []) f) env s
ordered_row_take w p (a ∷ b ∷ qs) u f = λ env s. tt

pub ordered_row_put : (w : Meaning → Place → Context → Meaning) (p : Place) (qs : List Part) → PlaceOrdered w → PartsOrdered qs → Ordered (total (blocks_of qs)) (row_put w p qs)
ordered_row_put w p [] u f = λ env s. tt
ordered_row_put w p (a ∷ []) u f = λ env s. tt
ordered_row_put w p (a ∷ b ∷ []) u f = λ env s. u (go_blocks_in a.form ++ (go_blocks_in b.form ++ [])) (operation Put (a.means ∷ b.means ∷ []) p) p env.context (ordered_row_of_two Put p (a ∷ b ∷ []) f) env s
ordered_row_put w p (a ∷ b ∷ c ∷ qs) u f = λ env s. tt

-- the keyword of an option holds no go block
pub option_none : (k : FormTree) (o : AltsOptions) → option_of k ≡ Some o → go_blocks_in k ≡ []
option_none (form (atom a) p) o e = refl
option_none (form (group b fs) p) o e = cc

pub ordered_alts_of : (w : Meaning → Place → Context → Meaning) (o : Option AltsOptions) (ps : List Place) (ms : List Meaning) (p : Place) → PlaceOrdered w
    → ((x : AltsOptions) → o ≡ Some x → Ordered ps (operation (Alts x) ms p)) → Ordered ps (alts_meaning w o ms p)
ordered_alts_of w None ps ms p u f = λ env s. tt
ordered_alts_of w (Some x) ps ms p u f = λ env s. u ps (operation (Alts x) ms p) p env.context (f x refl) env s

pub both_some : (o r : Option AltsOptions) (x : AltsOptions) → both_options o r ≡ Some x → ((y : AltsOptions) × (o ≡ Some y)) × ((y : AltsOptions) × (r ≡ Some y))
both_some None None x e = cc
both_some None (Some b) x e = cc
both_some (Some a) None x e = by a e where
  by : (a : AltsOptions) → both_options (Some a) None ≡ Some x → ((y : AltsOptions) × (Some a ≡ Some y)) × ((y : AltsOptions) × (None ≡ Some y))
  by AltsOptions.None e = cc
  by AltsOptions.Priority e = cc
  by AltsOptions.Default e = cc
  by AltsOptions.PriorityThenDefault e = cc
  by AltsOptions.DefaultThenPriority e = cc
both_some (Some a) (Some b) x e = ((a, refl), (b, refl))

pub ordered_row_alts : (w : Meaning → Place → Context → Meaning) (p : Place) (qs : List Part) → PlaceOrdered w → PartsOrdered qs → Ordered (total (blocks_of qs)) (row_alts w p qs)
ordered_row_alts w p [] u f = λ env s. tt
ordered_row_alts w p (v ∷ []) u f = ordered_alts_of w (Some AltsOptions.None) (go_blocks_in v.form ++ []) (v.means ∷ []) p u (λ x e. ordered_operation (go_blocks_in v.form ∷ []) (Alts x) (v.means ∷ []) p (f.0.means, tt))
ordered_row_alts w p (v ∷ k ∷ []) u f = λ env s. tt
ordered_row_alts w p (v ∷ k ∷ e ∷ []) u f = ordered_alts_of w (option_of k.form) (go_blocks_in v.form ++ (go_blocks_in k.form ++ (go_blocks_in e.form ++ []))) (v.means ∷ e.means ∷ []) p u
    (λ x h. rw (option_none k.form x h) (ordered_operation (go_blocks_in v.form ∷ go_blocks_in e.form ∷ []) (Alts x) (v.means ∷ e.means ∷ []) p (f.0.means, (f.1.1.0.means, tt))))
ordered_row_alts w p (v ∷ k ∷ e ∷ l ∷ []) u f = λ env s. tt
ordered_row_alts w p (v ∷ k ∷ e ∷ l ∷ d ∷ []) u f = ordered_alts_of w (both_options (option_of k.form) (option_of l.form))
    (go_blocks_in v.form ++ (go_blocks_in k.form ++ (go_blocks_in e.form ++ (go_blocks_in l.form ++ (go_blocks_in d.form ++ []))))) (v.means ∷ e.means ∷ d.means ∷ []) p u
    (λ x h. let both = both_some (option_of k.form) (option_of l.form) x h in
    rw (option_none k.form both.0.0 both.0.1, option_none l.form both.1.0 both.1.1)
    (ordered_operation (go_blocks_in v.form ∷ go_blocks_in e.form ∷ go_blocks_in d.form ∷ []) (Alts x) (v.means ∷ e.means ∷ d.means ∷ []) p (f.0.means, (f.1.1.0.means, (f.1.1.1.1.0.means, tt)))))
ordered_row_alts w p (v ∷ k ∷ e ∷ l ∷ d ∷ g ∷ qs) u f = λ env s. tt

-- a small fixed term over operands under hidden names
pub ordered_row_offer : (p : Place) (qs : List Part) → PartsOrdered qs → Ordered (total (blocks_of qs)) (row_offer p qs)
ordered_row_offer p [] f = λ env s. tt
ordered_row_offer p (a ∷ []) f = λ env s. tt
ordered_row_offer p (c ∷ v ∷ []) f = ordered_hiding (blocks_of (c ∷ v ∷ [])) (c.means ∷ v.means ∷ []) (λ h. alts_or_nil (built Vector (var h ∷ var (h + 1) ∷ []) p ∷ []) p ∷ []) (λ h. unless_default (h + 2) p ∷ [])
    (means_ordered (c ∷ v ∷ []) f)
ordered_row_offer p (a ∷ b ∷ c ∷ qs) f = λ env s. tt

pub ordered_row_poll : (p : Place) (qs : List Part) → PartsOrdered qs → Ordered (total (blocks_of qs)) (row_poll p qs)
ordered_row_poll p [] f = λ env s. tt
ordered_row_poll p (c ∷ []) f = ordered_hiding (blocks_of (c ∷ [])) (c.means ∷ []) (λ h. alts_or_nil (var h ∷ []) p ∷ []) (λ h. unless_default (h + 1) p ∷ []) (means_ordered (c ∷ []) f)
ordered_row_poll p (a ∷ b ∷ qs) f = λ env s. tt

-- a list that is headed by such a word has the go blocks of its parts, and none at its head
pub listed : (a : Part) (k : Special) → PartOrdered a → word_of_part a ≡ Some k → is_go (Some k) ≡ false → go_blocks_in a.form ≡ total (pair_blocks a.within)
listed a k f e g = by (is_list a.form) f.list e where
  by : (b : Bool) → (b ≡ true → is_go (word_of a.within) ≡ false → go_blocks_in a.form ≡ total (pair_blocks a.within)) → cond b (word_of a.within) None ≡ Some k
      → go_blocks_in a.form ≡ total (pair_blocks a.within)
  by true h = λ e. h refl (ap is_go e ∙ g)
  by false h = λ e. cc

pub head_none : (h : FormTree) (k : Special) → head_word h ≡ Some k → go_blocks_in h ≡ []
head_none (form (atom a) p) k e = refl
head_none (form (group b fs) p) k e = cc

pub word_head : (a : Part) (h : Pair) (qs : List Pair) (k : Special) → a.within ≡ h ∷ qs → word_of_part a ≡ Some k → go_blocks_in h.form ≡ []
word_head a h qs k d e = by (is_list a.form) e where
  by : (b : Bool) → cond b (word_of a.within) None ≡ Some k → go_blocks_in h.form ≡ []
  by true = λ e. head_none h.form k (sym (ap word_of d) ∙ e)
  by false = λ e. cc

-- what a word that names a buffer, or a transform, says
abbrev pub Headed : Part → Type 0
Headed a = (go_blocks_in a.form ≡ total (pair_blocks a.within)) × ((h : Pair) (qs : List Pair) → a.within ≡ h ∷ qs → go_blocks_in h.form ≡ [])

pub headed : (a : Part) (k : Special) → PartOrdered a → word_of_part a ≡ Some k → is_go (Some k) ≡ false → Headed a
headed a k f e g = (listed a k f e g, λ h qs d. word_head a h qs k d e)

-- the words of buffers and of transforms
pub buffer_apart : (k : Special) (kind : MakeKind) → buffer_named (Some k) ≡ Some kind → is_go (Some k) ≡ false
buffer_apart Special.Go kind e = cc
buffer_apart Special.GoLoop kind e = cc
buffer_apart k kind e = refl

pub transform_apart : (k : Special) (xf : Transform) → transform_named (Some k) ≡ Some xf → is_go (Some k) ≡ false
transform_apart Special.Go xf e = cc
transform_apart Special.GoLoop xf e = cc
transform_apart k xf e = refl

pub buffer_headed : (a : Part) (kind : MakeKind) → PartOrdered a → buffer_named (word_of_part a) ≡ Some kind → Headed a
buffer_headed a kind f e = by (word_of_part a) (λ k h g. headed a k f h g) e where
  by : (o : Option Special) → ((k : Special) → o ≡ Some k → is_go (Some k) ≡ false → Headed a) → buffer_named o ≡ Some kind → Headed a
  by None h = λ e. cc
  by (Some k) h = λ e. h k refl (buffer_apart k kind e)

pub transform_headed : (a : Part) (xf : Transform) → PartOrdered a → transform_named (word_of_part a) ≡ Some xf → Headed a
transform_headed a xf f e = by (word_of_part a) (λ k h g. headed a k f h g) e where
  by : (o : Option Special) → ((k : Special) → o ≡ Some k → is_go (Some k) ≡ false → Headed a) → transform_named o ≡ Some xf → Headed a
  by None h = λ e. cc
  by (Some k) h = λ e. h k refl (transform_apart k xf e)

-- channels
pub ordered_with_buffer : (a : Part) (kind : MakeKind) (qs : List Pair) (p : Place) → a.within ≡ qs → PairsOrdered qs → Headed a → Ordered (go_blocks_in a.form ++ []) (buffered_channel kind qs p)
ordered_with_buffer a kind [] p e f g = λ env s. tt
ordered_with_buffer a kind (h ∷ []) p e f g = λ env s. tt
ordered_with_buffer a kind (h ∷ n ∷ []) p e f g = ordered_same (go_blocks_in n.form ++ []) (go_blocks_in a.form ++ []) (operation (Make kind) (n.means ∷ []) p) blocks
    (ordered_operation (go_blocks_in n.form ∷ []) (Make kind) (n.means ∷ []) p (f.1.0, tt)) where
      blocks : go_blocks_in n.form ++ [] ≡ go_blocks_in a.form ++ []
      blocks = sym (append-nil (go_blocks_in a.form) ∙ g.0 ∙ ap (λ l. total (pair_blocks l)) e ∙ ap (λ l. l ++ (go_blocks_in n.form ++ [])) (g.1 h (n ∷ []) e))
ordered_with_buffer a kind (h ∷ n ∷ k ∷ qs) p e f g = λ env s. tt

pub ordered_chan_of : (o : Option MakeKind) (a : Part) (p : Place) → PartOrdered a → ((kind : MakeKind) → o ≡ Some kind → Headed a) → Ordered (go_blocks_in a.form ++ []) (chan_of o a p)
ordered_chan_of None a p f g = ordered_operation (go_blocks_in a.form ∷ []) (Make MakeKind.Sized) (a.means ∷ []) p (f.means, tt)
ordered_chan_of (Some kind) a p f g = ordered_with_buffer a kind a.within p refl f.within (g kind refl)

pub ordered_row_chan : (p : Place) (qs : List Part) → PartsOrdered qs → Ordered (total (blocks_of qs)) (row_chan p qs)
ordered_row_chan p [] f = ordered_operation [] (Make MakeKind.Unbuffered) [] p tt
ordered_row_chan p (a ∷ []) f = ordered_chan_of (buffer_named (word_of_part a)) a p f.0 (λ kind e. buffer_headed a kind f.0 e)
ordered_row_chan p (a ∷ b ∷ qs) f = λ env s. tt

pub ordered_row_promise : (p : Place) (qs : List Part) → PartsOrdered qs → Ordered (total (blocks_of qs)) (row_promise p qs)
ordered_row_promise p [] f = ordered_operation [] (Make MakeKind.Promise) [] p tt
ordered_row_promise p (a ∷ qs) f = λ env s. tt

-- mult and mix
pub ordered_row_mult : (p : Place) (qs : List Part) → PartsOrdered qs → Ordered (total (blocks_of qs)) (row_mult p qs)
ordered_row_mult p [] f = λ env s. tt
ordered_row_mult p (c ∷ []) f = ordered_hiding (blocks_of (c ∷ [])) (c.means ∷ []) (λ h. make_call MakeKind.Unbuffered [] p ∷ make_call MakeKind.Mult (var h ∷ []) p ∷ [])
    (λ h. spawn_call SystemTask.Mult (var (h + 2) ∷ var h ∷ var (h + 1) ∷ []) p ∷ var (h + 2) ∷ []) (means_ordered (c ∷ []) f)
ordered_row_mult p (a ∷ b ∷ qs) f = λ env s. tt

pub ordered_yes : Ordered [] yes
ordered_yes = ordered_constant (bool true)

pub ordered_row_tap : (p : Place) (qs : List Part) → PartsOrdered qs → Ordered (total (blocks_of qs)) (row_tap p qs)
ordered_row_tap p [] f = λ env s. tt
ordered_row_tap p (a ∷ []) f = λ env s. tt
ordered_row_tap p (m ∷ c ∷ []) f = ordered_operation (go_blocks_in m.form ∷ go_blocks_in c.form ∷ [] ∷ []) (Register RegisterName.Tap) (m.means ∷ c.means ∷ yes ∷ []) p (f.0.means, (f.1.0.means, (ordered_yes, tt)))
ordered_row_tap p (m ∷ c ∷ z ∷ []) f = ordered_operation (blocks_of (m ∷ c ∷ z ∷ [])) (Register RegisterName.Tap) (m.means ∷ c.means ∷ z.means ∷ []) p (means_ordered (m ∷ c ∷ z ∷ []) f)
ordered_row_tap p (a ∷ b ∷ c ∷ d ∷ qs) f = λ env s. tt

pub ordered_row_mix : (p : Place) (qs : List Part) → PartsOrdered qs → Ordered (total (blocks_of qs)) (row_mix p qs)
ordered_row_mix p [] f = λ env s. tt
ordered_row_mix p (o ∷ []) f = ordered_hiding (blocks_of (o ∷ [])) (o.means ∷ []) (λ h. make_call MakeKind.Sliding (whole_number 1 ∷ []) p ∷ make_call MakeKind.Mix (var h ∷ var (h + 1) ∷ []) p ∷ [])
    (λ h. spawn_call SystemTask.Mix (var (h + 2) ∷ var h ∷ var (h + 1) ∷ []) p ∷ var (h + 2) ∷ []) (means_ordered (o ∷ []) f)
ordered_row_mix p (a ∷ b ∷ qs) f = λ env s. tt

pub ordered_changing : (pss : List (List Place)) (name : RegisterName) (ms : List Meaning) (p : Place) → AllOrdered pss ms → Ordered (total pss) (changing name ms p)
ordered_changing pss name ms p f = ordered_same (total pss ++ []) (total pss) (changing name ms p) (append-nil (total pss))
    (ordered_hiding (total pss ∷ []) (operation (Register name) ms p ∷ []) (λ g. []) (λ g. apply Post (kernels_of (var g ∷ const (bool true) ∷ [])) p ∷ const nil ∷ [])
    (ordered_operation pss (Register name) ms p f, tt))

pub ordered_row_change_of_one : (name : RegisterName) (p : Place) (qs : List Part) → PartsOrdered qs → Ordered (total (blocks_of qs)) (row_change_of_one name p qs)
ordered_row_change_of_one name p [] f = λ env s. tt
ordered_row_change_of_one name p (a ∷ []) f = ordered_changing (blocks_of (a ∷ [])) name (a.means ∷ []) p (means_ordered (a ∷ []) f)
ordered_row_change_of_one name p (a ∷ b ∷ qs) f = λ env s. tt

pub ordered_row_change_of_two : (name : RegisterName) (p : Place) (qs : List Part) → PartsOrdered qs → Ordered (total (blocks_of qs)) (row_change_of_two name p qs)
ordered_row_change_of_two name p [] f = λ env s. tt
ordered_row_change_of_two name p (a ∷ []) f = λ env s. tt
ordered_row_change_of_two name p (a ∷ b ∷ []) f = ordered_changing (blocks_of (a ∷ b ∷ [])) name (a.means ∷ b.means ∷ []) p (means_ordered (a ∷ b ∷ []) f)
ordered_row_change_of_two name p (a ∷ b ∷ c ∷ qs) f = λ env s. tt

-- publications
pub ordered_stopping : (ps : List Place) (ms : List Meaning) (e : CheckErrorKind) (p : Place) → Ordered ps (stopping ms e p)
ordered_stopping ps ms e p env s = by (means_in_order ms (inner env) s) where
  by : {A : Type 0} (o : WalkOutcome A) → Leaves {A = Kernel} ps s (after_walk o (λ ts s. refused e p))
  by (done ts s2) = tt
  by (refused x q) = tt

abbrev pub IfApplied : Given → Type 0 → Type 0
IfApplied (applied f ks) P = P
IfApplied (wrong e) P = Unit {0}

-- a plain function that is given holds no go block
pub given_none : (f : FormTree) (env : Env) → IfApplied (given f env) (go_blocks_in f ≡ [])
given_none (form (atom a) p) env = by (given_atom a env) where
  by : (g : Given) → IfApplied g (go_blocks_in (form (atom a) p) ≡ [])
  by (applied f ks) = refl
  by (wrong e) = tt
given_none (form (group b fs) p) env = tt

pub ordered_pub_of : (ps qs : List Place) (r : Given) (c : Meaning) (q p : Place) → IfApplied r (qs ≡ []) → Ordered ps c → Ordered (ps ++ (qs ++ [])) (pub_of r c q p)
ordered_pub_of ps qs (wrong e) c q p z f = ordered_stopping (ps ++ (qs ++ [])) (c ∷ []) e q
ordered_pub_of ps qs (applied fn ks) c q p z f = rw z (ordered_hiding (ps ∷ []) (c ∷ []) (λ h. make_call MakeKind.Pub (var h ∷ []) p ∷ [])
    (λ h. spawn_call (SystemTask.Pub fn) (var (h + 1) ∷ var h ∷ ks) p ∷ var (h + 1) ∷ []) (f, tt))

pub ordered_row_pub : (p : Place) (qs : List Part) → PartsOrdered qs → Ordered (total (blocks_of qs)) (row_pub p qs)
ordered_row_pub p [] f = λ env s. tt
ordered_row_pub p (a ∷ []) f = λ env s. tt
ordered_row_pub p (c ∷ fn ∷ []) f = λ env s. ordered_pub_of (go_blocks_in c.form) (go_blocks_in fn.form) (given fn.form env) c.means (form_place fn.form) p (given_none fn.form env) f.0.means env s
ordered_row_pub p (a ∷ b ∷ c ∷ qs) f = λ env s. tt

pub ordered_subscribing : (pss : List (List Place)) (ms : List Meaning) (p : Place) → AllOrdered pss ms → Ordered (total pss) (subscribing ms p)
ordered_subscribing pss ms p f = ordered_hiding pss ms
    (λ n. register_call RegisterName.Find (var n ∷ var (n + 1) ∷ []) p
    ∷ branch (built IsNil (var (n + 4) ∷ []) p) (topic_placed n (n + 1) (n + 5) p) (var (n + 4)) ∷ [])
    (λ n. register_call RegisterName.Tap (nth_call (n + 5) 0 p ∷ var (n + 2) ∷ var (n + 3) ∷ []) p ∷ const nil ∷ []) f

pub ordered_row_sub : (p : Place) (qs : List Part) → PartsOrdered qs → Ordered (total (blocks_of qs)) (row_sub p qs)
ordered_row_sub p [] f = λ env s. tt
ordered_row_sub p (a ∷ []) f = λ env s. tt
ordered_row_sub p (a ∷ b ∷ []) f = λ env s. tt
ordered_row_sub p (b ∷ t ∷ c ∷ []) f = ordered_subscribing (go_blocks_in b.form ∷ go_blocks_in t.form ∷ go_blocks_in c.form ∷ [] ∷ []) (b.means ∷ t.means ∷ c.means ∷ yes ∷ []) p
    (f.0.means, (f.1.0.means, (f.1.1.0.means, (ordered_yes, tt))))
ordered_row_sub p (b ∷ t ∷ c ∷ z ∷ []) f = ordered_subscribing (blocks_of (b ∷ t ∷ c ∷ z ∷ [])) (b.means ∷ t.means ∷ c.means ∷ z.means ∷ []) p (means_ordered (b ∷ t ∷ c ∷ z ∷ []) f)
ordered_row_sub p (a ∷ b ∷ c ∷ d ∷ e ∷ qs) f = λ env s. tt

pub ordered_row_unsub : (p : Place) (qs : List Part) → PartsOrdered qs → Ordered (total (blocks_of qs)) (row_unsub p qs)
ordered_row_unsub p [] f = λ env s. tt
ordered_row_unsub p (a ∷ []) f = λ env s. tt
ordered_row_unsub p (a ∷ b ∷ []) f = λ env s. tt
ordered_row_unsub p (b ∷ t ∷ c ∷ []) f = ordered_hiding (blocks_of (b ∷ t ∷ c ∷ [])) (b.means ∷ t.means ∷ c.means ∷ [])
    (λ n. register_call RegisterName.Find (var n ∷ var (n + 1) ∷ []) p ∷ [])
    (λ n. branch (built IsSome (var (n + 3) ∷ []) p) (register_call RegisterName.Untap (nth_call (n + 3) 0 p ∷ var (n + 2) ∷ []) p) (const nil) ∷ const nil ∷ [])
    (means_ordered (b ∷ t ∷ c ∷ []) f)
ordered_row_unsub p (a ∷ b ∷ c ∷ d ∷ qs) f = λ env s. tt

pub ordered_row_unsub_all : (p : Place) (qs : List Part) → PartsOrdered qs → Ordered (total (blocks_of qs)) (row_unsub_all p qs)
ordered_row_unsub_all p [] f = λ env s. tt
ordered_row_unsub_all p (a ∷ []) f = ordered_row_of_one (Register RegisterName.Clear) p (a ∷ []) f
ordered_row_unsub_all p (a ∷ b ∷ []) f = ordered_row_of_two (Register RegisterName.Drop) p (a ∷ b ∷ []) f
ordered_row_unsub_all p (a ∷ b ∷ c ∷ qs) f = λ env s. tt

-- pipes
pub ordered_piping : (pss : List (List Place)) (ms : List Meaning) (p : Place) → AllOrdered pss ms → Ordered (total pss) (piping ms p)
ordered_piping pss ms p f = ordered_hiding pss ms (λ h. []) (λ h. spawn_call SystemTask.Pipe (var h ∷ var (h + 1) ∷ var (h + 2) ∷ []) p ∷ var (h + 1) ∷ []) f

pub ordered_row_pipe : (p : Place) (qs : List Part) → PartsOrdered qs → Ordered (total (blocks_of qs)) (row_pipe p qs)
ordered_row_pipe p [] f = λ env s. tt
ordered_row_pipe p (a ∷ []) f = λ env s. tt
ordered_row_pipe p (a ∷ b ∷ []) f = ordered_piping (go_blocks_in a.form ∷ go_blocks_in b.form ∷ [] ∷ []) (a.means ∷ b.means ∷ yes ∷ []) p (f.0.means, (f.1.0.means, (ordered_yes, tt)))
ordered_row_pipe p (a ∷ b ∷ z ∷ []) f = ordered_piping (blocks_of (a ∷ b ∷ z ∷ [])) (a.means ∷ b.means ∷ z.means ∷ []) p (means_ordered (a ∷ b ∷ z ∷ []) f)
ordered_row_pipe p (a ∷ b ∷ c ∷ d ∷ qs) f = λ env s. tt

pub ordered_merging : (ps qs : List Place) (v o : Meaning) (p : Place) → Ordered ps v → Ordered qs o → Ordered (ps ++ (qs ++ [])) (merging v o p)
ordered_merging ps qs v o p f g = ordered_hiding (ps ∷ qs ∷ []) (v ∷ o ∷ []) (λ h. []) (λ h. spawn_call SystemTask.Merge (var h ∷ var (h + 1) ∷ []) p ∷ var (h + 1) ∷ []) (f, (g, tt))

pub ordered_row_merge : (p : Place) (qs : List Part) → PartsOrdered qs → Ordered (total (blocks_of qs)) (row_merge p qs)
ordered_row_merge p [] f = λ env s. tt
ordered_row_merge p (v ∷ []) f = ordered_merging (go_blocks_in v.form) [] v.means (row_chan p []) p f.0.means (ordered_row_chan p [] tt)
ordered_row_merge p (v ∷ b ∷ []) f = ordered_cond (total (blocks_of (v ∷ b ∷ []))) (is_sized (buffer_named (word_of_part b)) b.within) (merging v.means (row_chan p (b ∷ [])) p) (fail_with BadForm p)
    (ordered_same (go_blocks_in v.form ++ ((go_blocks_in b.form ++ []) ++ [])) (go_blocks_in v.form ++ (go_blocks_in b.form ++ [])) (merging v.means (row_chan p (b ∷ [])) p)
    (ap (λ l. go_blocks_in v.form ++ l) (append-nil (go_blocks_in b.form ++ [])))
    (ordered_merging (go_blocks_in v.form) (go_blocks_in b.form ++ []) v.means (row_chan p (b ∷ [])) p f.0.means (ordered_row_chan p (b ∷ []) f.1)))
    (ordered_fail (total (blocks_of (v ∷ b ∷ []))) BadForm p)
ordered_row_merge p (a ∷ b ∷ c ∷ qs) f = λ env s. tt

-- pipelines
pub ordered_pipelining : (pss : List (List Place)) (xf : Transform) (fn : PlainFunction) (ks : List Kernel) (ms : List Meaning) (p : Place) → AllOrdered pss ms → Ordered (total pss) (pipelining xf fn ks ms p)
ordered_pipelining pss xf fn ks ms p f = ordered_hiding pss ms
    (λ n. make_call MakeKind.Fixed (var n ∷ []) p ∷ make_call MakeKind.Fixed (var n ∷ []) p ∷ make_call MakeKind.Fixed (whole_number 1 ∷ []) p ∷ [])
    (λ n. repeated n (n + 7) (spawn_call (SystemTask.Job xf fn) (var (n + 4) ∷ ks) p) p
    ∷ spawn_call SystemTask.Feed (var (n + 2) ∷ var (n + 4) ∷ var (n + 5) ∷ []) p
    ∷ spawn_call SystemTask.Collect (var (n + 5) ∷ var (n + 1) ∷ var (n + 3) ∷ var (n + 6) ∷ []) p
    ∷ var (n + 6) ∷ []) f

pub ordered_workers : (ps : List Place) (n : Meaning) (p : Place) → Ordered ps n → Ordered ps (workers n p)
ordered_workers ps n p f = ordered_same (ps ++ []) ps (workers n p) (append-nil ps) (ordered_operation (ps ∷ []) (Builtin WorkerCount) (n ∷ []) p (f, tt))

pub ordered_pipeline_over : (ps qs xs fs zs : List Place) (xf : Transform) (r : Given) (q : Place) (n t f z : Meaning) (p : Place) → IfApplied r (xs ≡ []) → Ordered ps n → Ordered qs t → Ordered fs f → Ordered zs z
    → Ordered (ps ++ (qs ++ (xs ++ (fs ++ (zs ++ []))))) (pipeline_over xf r q n t f z p)
ordered_pipeline_over ps qs xs fs zs xf (wrong e) q n t f z p y gn gt gf gz = ordered_stopping (ps ++ (qs ++ (xs ++ (fs ++ (zs ++ []))))) (n ∷ t ∷ []) e q
ordered_pipeline_over ps qs xs fs zs xf (applied fn ks) q n t f z p y gn gt gf gz = rw y
    (ordered_pipelining (ps ∷ qs ∷ fs ∷ zs ∷ []) xf fn ks (workers n p ∷ t ∷ f ∷ z ∷ []) p (ordered_workers ps n p gn, (gt, (gf, (gz, tt)))))

-- the transform holds none where its function is plain
pub transform_none : (x : Part) (h g : Pair) (env : Env) → Headed x → x.within ≡ h ∷ g ∷ [] → IfApplied (given g.form env) (go_blocks_in x.form ≡ [])
transform_none x h g env d e = by (given g.form env) (given_none g.form env) where
  by : (r : Given) → IfApplied r (go_blocks_in g.form ≡ []) → IfApplied r (go_blocks_in x.form ≡ [])
  by (wrong k) z = tt
  by (applied f ks) z = d.0 ∙ ap (λ l. total (pair_blocks l)) e ∙ ap (λ l. l ++ (go_blocks_in g.form ++ [])) (d.1 h (g ∷ []) e) ∙ ap (λ l. l ++ []) z

pub ordered_pipeline_of : (ps qs fs zs : List Place) (x : Part) (o : Option Transform) (ws : List Pair) (n t f z : Meaning) (p : Place) → x.within ≡ ws → ((xf : Transform) → o ≡ Some xf → Headed x)
    → Ordered ps n → Ordered qs t → Ordered fs f → Ordered zs z → Ordered (ps ++ (qs ++ (go_blocks_in x.form ++ (fs ++ (zs ++ []))))) (pipeline_of o ws n t f z p)
ordered_pipeline_of ps qs fs zs x None ws n t f z p e d gn gt gf gz = λ env s. tt
ordered_pipeline_of ps qs fs zs x (Some xf) [] n t f z p e d gn gt gf gz = λ env s. tt
ordered_pipeline_of ps qs fs zs x (Some xf) (a ∷ []) n t f z p e d gn gt gf gz = λ env s. tt
ordered_pipeline_of ps qs fs zs x (Some xf) (a ∷ b ∷ []) n t f z p e d gn gt gf gz = λ env s.
    ordered_pipeline_over ps qs (go_blocks_in x.form) fs zs xf (given b.form env) (form_place b.form) n t f z p (transform_none x a b env (d xf refl) e) gn gt gf gz env s
ordered_pipeline_of ps qs fs zs x (Some xf) (a ∷ b ∷ c ∷ ws) n t f z p e d gn gt gf gz = λ env s. tt

pub ordered_row_pipeline : (p : Place) (qs : List Part) → PartsOrdered qs → Ordered (total (blocks_of qs)) (row_pipeline p qs)
ordered_row_pipeline p [] f = λ env s. tt
ordered_row_pipeline p (a ∷ []) f = λ env s. tt
ordered_row_pipeline p (a ∷ b ∷ []) f = λ env s. tt
ordered_row_pipeline p (a ∷ b ∷ c ∷ []) f = λ env s. tt
ordered_row_pipeline p (n ∷ t ∷ x ∷ i ∷ []) f = ordered_pipeline_of (go_blocks_in n.form) (go_blocks_in t.form) (go_blocks_in i.form) [] x (transform_named (word_of_part x)) x.within n.means t.means i.means yes p refl
    (λ xf e. transform_headed x xf f.1.1.0 e) f.0.means f.1.0.means f.1.1.1.0.means ordered_yes
ordered_row_pipeline p (n ∷ t ∷ x ∷ i ∷ z ∷ []) f = ordered_pipeline_of (go_blocks_in n.form) (go_blocks_in t.form) (go_blocks_in i.form) (go_blocks_in z.form) x (transform_named (word_of_part x)) x.within n.means t.means i.means z.means p refl
    (λ xf e. transform_headed x xf f.1.1.0 e) f.0.means f.1.0.means f.1.1.1.0.means f.1.1.1.1.0.means
ordered_row_pipeline p (a ∷ b ∷ c ∷ d ∷ e ∷ i ∷ qs) f = λ env s. tt

pub ordered_putting_onto : (pss : List (List Place)) (ms : List Meaning) (p : Place) → AllOrdered pss ms → Ordered (total pss) (putting_onto ms p)
ordered_putting_onto pss ms p f = ordered_hiding pss ms (λ h. make_call MakeKind.Fixed (whole_number 1 ∷ []) p ∷ [])
    (λ h. spawn_call SystemTask.Onto (var h ∷ var (h + 1) ∷ var (h + 2) ∷ var (h + 3) ∷ []) p ∷ var (h + 3) ∷ []) f

pub ordered_row_onto : (p : Place) (qs : List Part) → PartsOrdered qs → Ordered (total (blocks_of qs)) (row_onto p qs)
ordered_row_onto p [] f = λ env s. tt
ordered_row_onto p (a ∷ []) f = λ env s. tt
ordered_row_onto p (c ∷ v ∷ []) f = ordered_putting_onto (go_blocks_in c.form ∷ go_blocks_in v.form ∷ [] ∷ []) (c.means ∷ v.means ∷ yes ∷ []) p (f.0.means, (f.1.0.means, (ordered_yes, tt)))
ordered_row_onto p (c ∷ v ∷ z ∷ []) f = ordered_putting_onto (blocks_of (c ∷ v ∷ z ∷ [])) (c.means ∷ v.means ∷ z.means ∷ []) p (means_ordered (c ∷ v ∷ z ∷ []) f)
ordered_row_onto p (a ∷ b ∷ c ∷ d ∷ qs) f = λ env s. tt

pub ordered_row_to : (p : Place) (qs : List Part) → PartsOrdered qs → Ordered (total (blocks_of qs)) (row_to p qs)
ordered_row_to p [] f = λ env s. tt
ordered_row_to p (v ∷ []) f = ordered_hiding (blocks_of (v ∷ [])) (v.means ∷ [])
    (λ h. make_call MakeKind.Sized (built Min (whole_number 100 ∷ built Count (var h ∷ []) p ∷ []) p ∷ []) p ∷ make_call MakeKind.Fixed (whole_number 1 ∷ []) p ∷ [])
    (λ h. spawn_call SystemTask.Onto (var (h + 1) ∷ var h ∷ const (bool true) ∷ var (h + 2) ∷ []) p ∷ var (h + 1) ∷ []) (means_ordered (v ∷ []) f)
ordered_row_to p (a ∷ b ∷ qs) f = λ env s. tt
