-- The rows of the forms of core.async once their shape and place are judged: what is wrong with a form, or how
-- its operands stand in its term.
use Rattle.std.specs.Prelude.{ℕ, ◌+◌, List, [], ◌∷◌, ◌++◌, length, Option, None, Some, Bool, true, false, cond}
use Rattle.ca_value.specs.Tree.{nil, bool}
use Rattle.ca_value.specs.declared.builtin.Builtin.TheVariants.{Vector, IsNil, IsSome, Min, Count}
use Rattle.ca_term.specs.declared.place.Place.{Place}
use Rattle.ca_term.specs.declared.head.AltsOptions.{AltsOptions}
use Rattle.ca_term.specs.declared.head.Head.TheVariants.{Take, Put, Alts, Make, Close, Register, Post}
use Rattle.ca_term.specs.declared.head.MakeKind.{MakeKind}
use Rattle.ca_term.specs.declared.head.RegisterName.{RegisterName}
use Rattle.ca_term.specs.declared.head.SystemTask.{SystemTask}
use Rattle.ca_term.specs.declared.head.Transform.{Transform}
use Rattle.ca_term.specs.Kernel.{Kernel, const, var, branch, bind, seq}
use Rattle.ca_term.specs.View.{kernels_of}
use Rattle.ca_forms.specs.declared.context.Context.{Context}
use Rattle.ca_forms.specs.declared.error.CheckErrorKind.TheVariants.{BadForm, ParkOutsideGo, BlockOutsideMain}
use Rattle.ca_forms.specs.declared.planned.HiddenForm.{HiddenForm}
use Rattle.ca_forms.specs.declared.planned.Planned.{Planned}
use Rattle.ca_forms.specs.declared.special.Special.{Special}
use Rattle.ca_reader.specs.Form.{FormTree, form_place}
use Rattle.ca_forms.specs.Binders.{Pair, Part}
use Rattle.ca_forms.specs.Names.{Given}
use Rattle.ca_forms.specs.Outcome.{Gathered, WalkOutcome, limited}
use Rattle.ca_forms.specs.Meaning.{Meaning, fail_with, operation, hiding, bindings_joined, numbered}
use Rattle.ca_forms.specs.Plain.{meanings}
use Rattle.ca_forms.specs.Channels.{built, make_call, spawn_call, register_call, whole_number, nth_call, alts_or_nil, unless_default, topic_placed, yes, options_in, operands_in, row_chan, changing, pub_of, row_pub, merging, is_sized, buffer_named, word_of_part, transform_named, pipeline_of, pipeline_over}

-- the words whose rows are planned
abbrev pub is_planned : Special → Bool
is_planned Special.Do = false
is_planned Special.Let = false
is_planned Special.If = false
is_planned Special.IfNot = false
is_planned Special.When = false
is_planned Special.WhenNot = false
is_planned Special.Cond = false
is_planned Special.And = false
is_planned Special.Or = false
is_planned Special.IfLet = false
is_planned Special.WhenLet = false
is_planned Special.IfSome = false
is_planned Special.WhenSome = false
is_planned Special.Loop = false
is_planned Special.Recur = false
is_planned Special.While = false
is_planned Special.Dotimes = false
is_planned Special.Doseq = false
is_planned Special.Go = false
is_planned Special.GoLoop = false
is_planned Special.Print = false
is_planned w = true

abbrev pub misshapen : Planned
misshapen = Planned.Wrong BadForm

-- by how many parts there are, from none on
abbrev pub shaped : List Planned → List Part → Planned
shaped [] ps = misshapen
shaped (x ∷ xs) [] = x
shaped (x ∷ xs) (a ∷ ps) = shaped xs ps

-- what stands in the visible text of a go body alone; an error of the shape comes first
abbrev pub only_in_go_text : Context → Planned → Planned
only_in_go_text c (Planned.Wrong e) = Planned.Wrong e
only_in_go_text Context.Go x = x
only_in_go_text c x = Planned.Wrong ParkOutsideGo

-- what stands in the main text outside go bodies alone
abbrev pub blocked : Context → Planned → Planned
blocked c (Planned.Wrong e) = Planned.Wrong e
blocked Context.Main x = x
blocked c x = Planned.Wrong BlockOutsideMain

abbrev pub plan_of_alts : Option AltsOptions → Planned
plan_of_alts None = misshapen
plan_of_alts (Some o) = Planned.Alts o

abbrev pub plan_of_merge : List Part → Planned
plan_of_merge (v ∷ []) = Planned.Merge
plan_of_merge (v ∷ b ∷ []) = cond (is_sized (buffer_named (word_of_part b)) b.within) Planned.Merge misshapen
plan_of_merge ps = misshapen

abbrev pub plan_of_transform : Option Transform → List Pair → Planned
plan_of_transform (Some xf) (h ∷ g ∷ []) = Planned.Pipeline xf
plan_of_transform xf qs = misshapen

abbrev pub plan_of_pipeline : List Part → Planned
plan_of_pipeline (n ∷ t ∷ x ∷ f ∷ []) = plan_of_transform (transform_named (word_of_part x)) x.within
plan_of_pipeline (n ∷ t ∷ x ∷ f ∷ z ∷ []) = plan_of_transform (transform_named (word_of_part x)) x.within
plan_of_pipeline ps = misshapen

-- what is done once: new tasks between channels
abbrev pub plan_of_flow : Special → List Part → Planned
plan_of_flow Special.Pub ps = shaped (misshapen ∷ misshapen ∷ Planned.Pub ∷ []) ps
plan_of_flow Special.Pipe ps = shaped (misshapen ∷ misshapen ∷ Planned.HiddenAndYes HiddenForm.Pipe ∷ Planned.Hidden HiddenForm.Pipe ∷ []) ps
plan_of_flow Special.Merge ps = plan_of_merge ps
plan_of_flow Special.Pipeline ps = plan_of_pipeline ps
plan_of_flow Special.OntoChan ps = shaped (misshapen ∷ misshapen ∷ Planned.HiddenAndYes HiddenForm.Onto ∷ Planned.Hidden HiddenForm.Onto ∷ []) ps
plan_of_flow Special.ToChan ps = shaped (misshapen ∷ Planned.Hidden HiddenForm.To ∷ []) ps
plan_of_flow w ps = misshapen

-- mults, mixes and publications
abbrev pub plan_of_entry : Special → List Part → Planned
plan_of_entry Special.Mult ps = shaped (misshapen ∷ Planned.Hidden HiddenForm.Mult ∷ []) ps
plan_of_entry Special.Tap ps = shaped (misshapen ∷ misshapen ∷ Planned.OperandsAndYes (Register RegisterName.Tap) ∷ Planned.Operands (Register RegisterName.Tap) ∷ []) ps
plan_of_entry Special.Untap ps = shaped (misshapen ∷ misshapen ∷ Planned.Operands (Register RegisterName.Untap) ∷ []) ps
plan_of_entry Special.UntapAll ps = shaped (misshapen ∷ Planned.Operands (Register RegisterName.UntapAll) ∷ []) ps
plan_of_entry Special.Mix ps = shaped (misshapen ∷ Planned.Hidden HiddenForm.Mix ∷ []) ps
plan_of_entry Special.Admix ps = shaped (misshapen ∷ misshapen ∷ Planned.Changing RegisterName.Admix ∷ []) ps
plan_of_entry Special.Unmix ps = shaped (misshapen ∷ misshapen ∷ Planned.Changing RegisterName.Unmix ∷ []) ps
plan_of_entry Special.UnmixAll ps = shaped (misshapen ∷ Planned.Changing RegisterName.UnmixAll ∷ []) ps
plan_of_entry Special.Toggle ps = shaped (misshapen ∷ misshapen ∷ Planned.Changing RegisterName.Toggle ∷ []) ps
plan_of_entry Special.SoloMode ps = shaped (misshapen ∷ misshapen ∷ Planned.Changing RegisterName.SoloMode ∷ []) ps
plan_of_entry Special.Sub ps = shaped (misshapen ∷ misshapen ∷ misshapen ∷ Planned.HiddenAndYes HiddenForm.Sub ∷ Planned.Hidden HiddenForm.Sub ∷ []) ps
plan_of_entry Special.Unsub ps = shaped (misshapen ∷ misshapen ∷ misshapen ∷ Planned.Hidden HiddenForm.Unsub ∷ []) ps
plan_of_entry Special.UnsubAll ps = shaped (misshapen ∷ Planned.Operands (Register RegisterName.Clear) ∷ Planned.Operands (Register RegisterName.Drop) ∷ []) ps
plan_of_entry w ps = plan_of_flow w ps

-- what the form of that word is, with these parts, in that text
abbrev pub plan_of : Special → Context → List Part → Planned
plan_of Special.Take c ps = only_in_go_text c (shaped (misshapen ∷ Planned.Operands Take ∷ []) ps)
plan_of Special.TakeBlocking c ps = blocked c (shaped (misshapen ∷ Planned.Operands Take ∷ []) ps)
plan_of Special.Put c ps = only_in_go_text c (shaped (misshapen ∷ misshapen ∷ Planned.Operands Put ∷ []) ps)
plan_of Special.PutBlocking c ps = blocked c (shaped (misshapen ∷ misshapen ∷ Planned.Operands Put ∷ []) ps)
plan_of Special.Alts c ps = only_in_go_text c (plan_of_alts (options_in ps))
plan_of Special.AltsBlocking c ps = blocked c (plan_of_alts (options_in ps))
plan_of Special.Offer c ps = shaped (misshapen ∷ misshapen ∷ Planned.Hidden HiddenForm.Offer ∷ []) ps
plan_of Special.Poll c ps = shaped (misshapen ∷ Planned.Hidden HiddenForm.Poll ∷ []) ps
plan_of Special.Post c ps = shaped (misshapen ∷ misshapen ∷ Planned.Operands Post ∷ []) ps
plan_of Special.Close c ps = shaped (misshapen ∷ Planned.Operands Close ∷ []) ps
plan_of Special.Chan c ps = Planned.Chan
plan_of Special.PromiseChan c ps = shaped (Planned.Operands (Make MakeKind.Promise) ∷ []) ps
plan_of Special.Timeout c ps = shaped (misshapen ∷ Planned.Operands (Make MakeKind.Timeout) ∷ []) ps
plan_of w c ps = plan_of_entry w ps

-- the further terms of a Let of operands under hidden names, the first of which has the number h
abbrev pub further : HiddenForm → Place → ℕ → List Kernel
further HiddenForm.Offer p h = alts_or_nil (built Vector (var h ∷ var (h + 1) ∷ []) p ∷ []) p ∷ []
further HiddenForm.Poll p h = alts_or_nil (var h ∷ []) p ∷ []
further HiddenForm.Mult p h = make_call MakeKind.Unbuffered [] p ∷ make_call MakeKind.Mult (var h ∷ []) p ∷ []
further HiddenForm.Mix p h = make_call MakeKind.Sliding (whole_number 1 ∷ []) p ∷ make_call MakeKind.Mix (var h ∷ var (h + 1) ∷ []) p ∷ []
further HiddenForm.Sub p h = register_call RegisterName.Find (var h ∷ var (h + 1) ∷ []) p
    ∷ branch (built IsNil (var (h + 4) ∷ []) p) (topic_placed h (h + 1) (h + 5) p) (var (h + 4)) ∷ []
further HiddenForm.Unsub p h = register_call RegisterName.Find (var h ∷ var (h + 1) ∷ []) p ∷ []
further HiddenForm.Pipe p h = []
further HiddenForm.Onto p h = make_call MakeKind.Fixed (whole_number 1 ∷ []) p ∷ []
further HiddenForm.To p h = make_call MakeKind.Sized (built Min (whole_number 100 ∷ built Count (var h ∷ []) p ∷ []) p ∷ []) p ∷ make_call MakeKind.Fixed (whole_number 1 ∷ []) p ∷ []

-- its body
abbrev pub hidden_form_body : HiddenForm → Place → ℕ → List Kernel
hidden_form_body HiddenForm.Offer p h = unless_default (h + 2) p ∷ []
hidden_form_body HiddenForm.Poll p h = unless_default (h + 1) p ∷ []
hidden_form_body HiddenForm.Mult p h = spawn_call SystemTask.Mult (var (h + 2) ∷ var h ∷ var (h + 1) ∷ []) p ∷ var (h + 2) ∷ []
hidden_form_body HiddenForm.Mix p h = spawn_call SystemTask.Mix (var (h + 2) ∷ var h ∷ var (h + 1) ∷ []) p ∷ var (h + 2) ∷ []
hidden_form_body HiddenForm.Sub p h = register_call RegisterName.Tap (nth_call (h + 5) 0 p ∷ var (h + 2) ∷ var (h + 3) ∷ []) p ∷ const nil ∷ []
hidden_form_body HiddenForm.Unsub p h = branch (built IsSome (var (h + 3) ∷ []) p) (register_call RegisterName.Untap (nth_call (h + 3) 0 p ∷ var (h + 2) ∷ []) p) (const nil) ∷ const nil ∷ []
hidden_form_body HiddenForm.Pipe p h = spawn_call SystemTask.Pipe (var h ∷ var (h + 1) ∷ var (h + 2) ∷ []) p ∷ var (h + 1) ∷ []
hidden_form_body HiddenForm.Onto p h = spawn_call SystemTask.Onto (var h ∷ var (h + 1) ∷ var (h + 2) ∷ var (h + 3) ∷ []) p ∷ var (h + 3) ∷ []
hidden_form_body HiddenForm.To p h = spawn_call SystemTask.Onto (var (h + 1) ∷ var h ∷ const (bool true) ∷ var (h + 2) ∷ []) p ∷ var (h + 1) ∷ []

-- true behind the operands, for an option that isn't written
abbrev pub and_yes : Bool → List Meaning → List Meaning
and_yes true ms = ms ++ yes ∷ []
and_yes false ms = ms

abbrev pub hidden_row : HiddenForm → Bool → Place → List Part → Meaning
hidden_row w unwritten p ps = hiding (and_yes unwritten (meanings ps)) (further w p) (hidden_form_body w p)

abbrev pub merge_row : Place → List Part → Meaning
merge_row p [] = fail_with BadForm p
merge_row p (v ∷ bs) = merging v.means (row_chan p bs) p

-- a publication by that function
abbrev pub pub_over : Given → Place → List Part → Meaning
pub_over g p (c ∷ f ∷ ps) = pub_of g c.means (form_place f.form) p
pub_over g p ps = fail_with BadForm p

-- the function behind a transform's word
abbrev pub function_within : List Pair → Option FormTree
function_within (h ∷ g ∷ []) = Some g.form
function_within qs = None

-- a pipeline by that function, which stands at q
abbrev pub pipeline_by : Transform → Given → Place → Place → List Part → Meaning
pipeline_by xf g q p (n ∷ t ∷ x ∷ f ∷ []) = pipeline_over xf g q n.means t.means f.means yes p
pipeline_by xf g q p (n ∷ t ∷ x ∷ f ∷ z ∷ []) = pipeline_over xf g q n.means t.means f.means z.means p
pipeline_by xf g q p ps = fail_with BadForm p

abbrev pub pipeline_row : Transform → Place → List Part → Meaning
pipeline_row xf p (n ∷ t ∷ x ∷ f ∷ []) = pipeline_of (Some xf) x.within n.means t.means f.means yes p
pipeline_row xf p (n ∷ t ∷ x ∷ f ∷ z ∷ []) = pipeline_of (Some xf) x.within n.means t.means f.means z.means p
pipeline_row xf p ps = fail_with BadForm p

-- the form of that plan at p, with these parts behind its word
abbrev pub planned_row : Planned → Place → List Part → Meaning
planned_row (Planned.Wrong e) p ps = fail_with e p
planned_row (Planned.Operands h) p ps = operation h (meanings ps) p
planned_row (Planned.OperandsAndYes h) p ps = operation h (and_yes true (meanings ps)) p
planned_row (Planned.Alts o) p ps = operation (Alts o) (operands_in ps) p
planned_row Planned.Chan p ps = row_chan p ps
planned_row (Planned.Hidden w) p ps = hidden_row w false p ps
planned_row (Planned.HiddenAndYes w) p ps = hidden_row w true p ps
planned_row (Planned.Changing name) p ps = changing name (meanings ps) p
planned_row Planned.Pub p ps = row_pub p ps
planned_row Planned.Merge p ps = merge_row p ps
planned_row (Planned.Pipeline xf) p ps = pipeline_row xf p ps

-- the Let of operands from number n on, of further terms, and of a body
abbrev pub hidden_let : ℕ → List Kernel → List Kernel → List Kernel → Gathered → WalkOutcome Kernel
hidden_let n ks more body s = limited (bind (bindings_joined (numbered n ks) (numbered (n + length ks) more)) (seq (kernels_of body))) s

-- the same of terms
abbrev pub and_true : Bool → List Kernel → List Kernel
and_true true ks = ks ++ const (bool true) ∷ []
and_true false ks = ks
