-- The plans of the forms of core.async, by how many forms there are.
use Rattle.std.proofs.Common.{◌≡◌, ◌-◌, ◌<◌, ◌≤◌, List, [], ◌∷◌, length, drop, get_or, refl, sym, ap, ◌∙◌, arith, Bool, true, false, cond, Option, None, Some}
use Rattle.std.specs.List.{slice_get}
use Rattle.std.proofs.lemmas.Option.{slice_get_read, slice_get_past}
use Rattle.ca_term.specs.declared.place.Place.{Place}
use Rattle.ca_term.specs.declared.head.AltsOptions.{AltsOptions}
use Rattle.ca_term.specs.declared.head.Head.TheVariants.{Take, Put, Alts}
use Rattle.ca_term.specs.declared.head.Transform.{Transform}
use Rattle.ca_reader.specs.declared.form.Form.{Form}
use Rattle.ca_reader.specs.View.{form_tree}
use Rattle.ca_forms.specs.declared.context.Context.{Context}
use Rattle.ca_forms.specs.declared.planned.Planned.{Planned}
use Rattle.ca_forms.specs.declared.special.Special.{Special}
use Rattle.ca_forms.specs.Outcome.{Gathered}
use Rattle.ca_forms.specs.Meaning.{Env, Meaning, operation, fail_with}
use Rattle.ca_forms.specs.Binders.{Pair, Part}
use Rattle.ca_forms.specs.declared.error.CheckErrorKind.TheVariants.{BadForm}
use Rattle.ca_forms.specs.Channels.{is_sized, buffer_named, word_of_part, transform_named, parking, blocking, alts_meaning, operands_in, options_in, row_merge, row_chan, merging, row_pipeline, pipeline_of, yes}
use Rattle.ca_forms.specs.Walk.{special_row}
use Rattle.ca_forms.specs.WalkView.{part, form_parts, form_pairs}
use Rattle.ca_forms.specs.Planned.{is_planned, misshapen, shaped, only_in_go_text, blocked, plan_of, plan_of_alts, plan_of_merge, plan_of_transform, plan_of_pipeline, planned_row, pipeline_row, function_within}

-- the choice at a number, or none
abbrev pub chosen : Option Planned → Planned
chosen None = misshapen
chosen (Some x) = x

shaped_is : (xs : List Planned) (fs : List Form) → shaped xs (form_parts fs) ≡ chosen (slice_get xs (length fs))
shaped_is [] fs = refl
shaped_is (x ∷ xs) [] = refl
shaped_is (x ∷ xs) (f ∷ fs) = shaped_is xs fs

pub shaped_some : (xs : List Planned) (fs : List Form) (x : Planned) → 0 < length fs → length fs - 1 < length xs → x ≡ get_or xs (length fs - 1) x → x ≡ shaped xs (form_parts (drop 1 fs))
shaped_some xs [] x h l e = absurd (omega (arith, h))
shaped_some xs (f ∷ fs) x h l e =
    let same : length (f ∷ fs) - 1 ≡ length fs = omega arith in
    sym (shaped_is xs fs ∙ ap (λ n. chosen (slice_get xs n)) (sym same) ∙ ap chosen (slice_get_read xs (length xs) (length (f ∷ fs) - 1) x refl l e))

pub shaped_none : (xs : List Planned) (fs : List Form) → 0 < length fs → length xs ≤ length fs - 1 → misshapen ≡ shaped xs (form_parts (drop 1 fs))
shaped_none xs [] h l = absurd (omega (arith, h))
shaped_none xs (f ∷ fs) h l =
    let same : length (f ∷ fs) - 1 ≡ length fs = omega arith in
    sym (shaped_is xs fs ∙ ap (λ n. chosen (slice_get xs n)) (sym same) ∙ ap chosen (slice_get_past xs (length (f ∷ fs) - 1) l))

pub merge_one : (fs : List Form) → length fs ≡ 2 → plan_of_merge (form_parts (drop 1 fs)) ≡ Planned.Merge
merge_one [] h = absurd (omega (arith, h))
merge_one (a ∷ []) h = absurd (omega (arith, h))
merge_one (a ∷ b ∷ []) h = refl
merge_one (a ∷ b ∷ c ∷ fs) h = absurd (omega (arith, h))

pub merge_two : (fs : List Form) (k : Form) → length fs ≡ 3 → k ≡ get_or fs 2 k → plan_of_merge (form_parts (drop 1 fs)) ≡ cond (is_sized (buffer_named (word_of_part (part k))) (part k).within) Planned.Merge misshapen
merge_two [] k h x = absurd (omega (arith, h))
merge_two (a ∷ []) k h x = absurd (omega (arith, h))
merge_two (a ∷ b ∷ []) k h x = absurd (omega (arith, h))
merge_two (a ∷ b ∷ c ∷ []) k h x = rw x refl
merge_two (a ∷ b ∷ c ∷ d ∷ fs) k h x = absurd (omega (arith, h))

pub merge_off : (fs : List Form) → (length fs ≡ 2 → ⊥) → (length fs ≡ 3 → ⊥) → plan_of_merge (form_parts (drop 1 fs)) ≡ misshapen
merge_off [] x y = refl
merge_off (a ∷ []) x y = refl
merge_off (a ∷ b ∷ []) x y = absurd (x refl)
merge_off (a ∷ b ∷ c ∷ []) x y = absurd (y refl)
merge_off (a ∷ b ∷ c ∷ d ∷ fs) x y = refl

pub transform_on : (xf : Transform) (fs : List Form) → length fs ≡ 2 → plan_of_transform (Some xf) (form_pairs fs) ≡ Planned.Pipeline xf
transform_on xf [] h = absurd (omega (arith, h))
transform_on xf (a ∷ []) h = absurd (omega (arith, h))
transform_on xf (a ∷ b ∷ []) h = refl
transform_on xf (a ∷ b ∷ c ∷ fs) h = absurd (omega (arith, h))

pub transform_off : (xf : Transform) (fs : List Form) → (length fs ≡ 2 → ⊥) → plan_of_transform (Some xf) (form_pairs fs) ≡ misshapen
transform_off xf [] x = refl
transform_off xf (a ∷ []) x = refl
transform_off xf (a ∷ b ∷ []) x = absurd (x refl)
transform_off xf (a ∷ b ∷ c ∷ fs) x = refl

pub pipeline_four : (fs : List Form) (k : Form) → length fs ≡ 5 → k ≡ get_or fs 3 k
    → plan_of_pipeline (form_parts (drop 1 fs)) ≡ plan_of_transform (transform_named (word_of_part (part k))) (part k).within
pipeline_four [] k h x = absurd (omega (arith, h))
pipeline_four (a ∷ []) k h x = absurd (omega (arith, h))
pipeline_four (a ∷ b ∷ []) k h x = absurd (omega (arith, h))
pipeline_four (a ∷ b ∷ c ∷ []) k h x = absurd (omega (arith, h))
pipeline_four (a ∷ b ∷ c ∷ d ∷ []) k h x = absurd (omega (arith, h))
pipeline_four (a ∷ b ∷ c ∷ d ∷ e ∷ []) k h x = rw x refl
pipeline_four (a ∷ b ∷ c ∷ d ∷ e ∷ f ∷ fs) k h x = absurd (omega (arith, h))

pub pipeline_five : (fs : List Form) (k : Form) → length fs ≡ 6 → k ≡ get_or fs 3 k
    → plan_of_pipeline (form_parts (drop 1 fs)) ≡ plan_of_transform (transform_named (word_of_part (part k))) (part k).within
pipeline_five [] k h x = absurd (omega (arith, h))
pipeline_five (a ∷ []) k h x = absurd (omega (arith, h))
pipeline_five (a ∷ b ∷ []) k h x = absurd (omega (arith, h))
pipeline_five (a ∷ b ∷ c ∷ []) k h x = absurd (omega (arith, h))
pipeline_five (a ∷ b ∷ c ∷ d ∷ []) k h x = absurd (omega (arith, h))
pipeline_five (a ∷ b ∷ c ∷ d ∷ e ∷ []) k h x = absurd (omega (arith, h))
pipeline_five (a ∷ b ∷ c ∷ d ∷ e ∷ f ∷ []) k h x = rw x refl
pipeline_five (a ∷ b ∷ c ∷ d ∷ e ∷ f ∷ g ∷ fs) k h x = absurd (omega (arith, h))

pub pipeline_off : (fs : List Form) → (length fs ≡ 5 → ⊥) → (length fs ≡ 6 → ⊥) → plan_of_pipeline (form_parts (drop 1 fs)) ≡ misshapen
pipeline_off [] x y = refl
pipeline_off (a ∷ []) x y = refl
pipeline_off (a ∷ b ∷ []) x y = refl
pipeline_off (a ∷ b ∷ c ∷ []) x y = refl
pipeline_off (a ∷ b ∷ c ∷ d ∷ []) x y = refl
pipeline_off (a ∷ b ∷ c ∷ d ∷ e ∷ []) x y = absurd (x refl)
pipeline_off (a ∷ b ∷ c ∷ d ∷ e ∷ f ∷ []) x y = absurd (y refl)
pipeline_off (a ∷ b ∷ c ∷ d ∷ e ∷ f ∷ g ∷ fs) x y = refl

pub second_on : (fs : List Form) (g : Form) → length fs ≡ 2 → g ≡ get_or fs 1 g → Some (form_tree g) ≡ function_within (form_pairs fs)
second_on [] g h x = absurd (omega (arith, h))
second_on (a ∷ []) g h x = absurd (omega (arith, h))
second_on (a ∷ b ∷ []) g h x = rw x refl
second_on (a ∷ b ∷ c ∷ fs) g h x = absurd (omega (arith, h))

pub second_off : (fs : List Form) → (length fs ≡ 2 → ⊥) → None ≡ function_within (form_pairs fs)
second_off [] x = refl
second_off (a ∷ []) x = refl
second_off (a ∷ b ∷ []) x = absurd (x refl)
second_off (a ∷ b ∷ c ∷ fs) x = refl

-- the words whose forms may stand in one text alone
take_parked : (c : Context) (p : Place) (a : Part) (e : Env) (s : Gathered) → parking (operation Take (a.means ∷ []) p) p c e s ≡ planned_row (only_in_go_text c (Planned.Operands Take)) p (a ∷ []) e s
take_parked Context.Go p a e s = refl
take_parked Context.Main p a e s = refl
take_parked Context.Function p a e s = refl

take_blocked : (c : Context) (p : Place) (a : Part) (e : Env) (s : Gathered) → blocking (operation Take (a.means ∷ []) p) p c e s ≡ planned_row (blocked c (Planned.Operands Take)) p (a ∷ []) e s
take_blocked Context.Go p a e s = refl
take_blocked Context.Main p a e s = refl
take_blocked Context.Function p a e s = refl

put_parked : (c : Context) (p : Place) (a b : Part) (e : Env) (s : Gathered)
    → parking (operation Put (a.means ∷ b.means ∷ []) p) p c e s ≡ planned_row (only_in_go_text c (Planned.Operands Put)) p (a ∷ b ∷ []) e s
put_parked Context.Go p a b e s = refl
put_parked Context.Main p a b e s = refl
put_parked Context.Function p a b e s = refl

put_blocked : (c : Context) (p : Place) (a b : Part) (e : Env) (s : Gathered)
    → blocking (operation Put (a.means ∷ b.means ∷ []) p) p c e s ≡ planned_row (blocked c (Planned.Operands Put)) p (a ∷ b ∷ []) e s
put_blocked Context.Go p a b e s = refl
put_blocked Context.Main p a b e s = refl
put_blocked Context.Function p a b e s = refl

alts_parked : (o : Option AltsOptions) (c : Context) (p : Place) (ps : List Part) (e : Env) (s : Gathered) → e.context ≡ c
    → alts_meaning parking o (operands_in ps) p e s ≡ planned_row (only_in_go_text c (plan_of_alts o)) p ps e s
alts_parked None c p ps e s h = refl
alts_parked (Some o) Context.Go p ps e s h = ap (λ d. parking (operation (Alts o) (operands_in ps) p) p d e s) h
alts_parked (Some o) Context.Main p ps e s h = ap (λ d. parking (operation (Alts o) (operands_in ps) p) p d e s) h
alts_parked (Some o) Context.Function p ps e s h = ap (λ d. parking (operation (Alts o) (operands_in ps) p) p d e s) h

alts_blocked : (o : Option AltsOptions) (c : Context) (p : Place) (ps : List Part) (e : Env) (s : Gathered) → e.context ≡ c
    → alts_meaning blocking o (operands_in ps) p e s ≡ planned_row (blocked c (plan_of_alts o)) p ps e s
alts_blocked None c p ps e s h = refl
alts_blocked (Some o) Context.Go p ps e s h = ap (λ d. blocking (operation (Alts o) (operands_in ps) p) p d e s) h
alts_blocked (Some o) Context.Main p ps e s h = ap (λ d. blocking (operation (Alts o) (operands_in ps) p) p d e s) h
alts_blocked (Some o) Context.Function p ps e s h = ap (λ d. blocking (operation (Alts o) (operands_in ps) p) p d e s) h

merge_planned : (p : Place) (ps : List Part) → row_merge p ps ≡ planned_row (plan_of_merge ps) p ps
merge_planned p [] = refl
merge_planned p (v ∷ []) = refl
merge_planned p (v ∷ b ∷ []) = by (is_sized (buffer_named (word_of_part b)) b.within) where
  by : (t : Bool) → cond t (merging v.means (row_chan p (b ∷ [])) p) (fail_with BadForm p) ≡ planned_row (cond t Planned.Merge misshapen) p (v ∷ b ∷ [])
  by true = refl
  by false = refl
merge_planned p (v ∷ b ∷ c ∷ ps) = refl

piped : (xf : Option Transform) (qs : List Pair) (n t f z : Meaning) (p : Place) (ps : List Part) → ((xf : Transform) → pipeline_row xf p ps ≡ pipeline_of (Some xf) qs n t f z p)
    → pipeline_of xf qs n t f z p ≡ planned_row (plan_of_transform xf qs) p ps
piped None qs n t f z p ps h = refl
piped (Some xf) [] n t f z p ps h = refl
piped (Some xf) (a ∷ []) n t f z p ps h = refl
piped (Some xf) (a ∷ b ∷ []) n t f z p ps h = sym (h xf)
piped (Some xf) (a ∷ b ∷ c ∷ qs) n t f z p ps h = refl

pipeline_planned : (p : Place) (ps : List Part) → row_pipeline p ps ≡ planned_row (plan_of_pipeline ps) p ps
pipeline_planned p [] = refl
pipeline_planned p (n ∷ []) = refl
pipeline_planned p (n ∷ t ∷ []) = refl
pipeline_planned p (n ∷ t ∷ x ∷ []) = refl
pipeline_planned p (n ∷ t ∷ x ∷ f ∷ []) = piped (transform_named (word_of_part x)) x.within n.means t.means f.means yes p (n ∷ t ∷ x ∷ f ∷ []) (λ xf. refl)
pipeline_planned p (n ∷ t ∷ x ∷ f ∷ z ∷ []) = piped (transform_named (word_of_part x)) x.within n.means t.means f.means z.means p (n ∷ t ∷ x ∷ f ∷ z ∷ []) (λ xf. refl)
pipeline_planned p (n ∷ t ∷ x ∷ f ∷ z ∷ y ∷ ps) = refl

-- a row is that of its plan
pub row_planned : (w : Special) (p : Place) (ps : List Part) (e : Env) (s : Gathered) → is_planned w ≡ true → special_row w p ps e s ≡ planned_row (plan_of w e.context ps) p ps e s
row_planned Special.Def p ps e s h = refl
row_planned Special.Defn p ps e s h = refl
row_planned Special.Buffer p ps e s h = refl
row_planned Special.DroppingBuffer p ps e s h = refl
row_planned Special.SlidingBuffer p ps e s h = refl
row_planned Special.Map p ps e s h = refl
row_planned Special.Filter p ps e s h = refl
row_planned Special.Mapcat p ps e s h = refl
row_planned Special.Do p ps e s h = absurd (cc)
row_planned Special.Let p ps e s h = absurd (cc)
row_planned Special.If p ps e s h = absurd (cc)
row_planned Special.IfNot p ps e s h = absurd (cc)
row_planned Special.When p ps e s h = absurd (cc)
row_planned Special.WhenNot p ps e s h = absurd (cc)
row_planned Special.Cond p ps e s h = absurd (cc)
row_planned Special.And p ps e s h = absurd (cc)
row_planned Special.Or p ps e s h = absurd (cc)
row_planned Special.IfLet p ps e s h = absurd (cc)
row_planned Special.WhenLet p ps e s h = absurd (cc)
row_planned Special.IfSome p ps e s h = absurd (cc)
row_planned Special.WhenSome p ps e s h = absurd (cc)
row_planned Special.Loop p ps e s h = absurd (cc)
row_planned Special.Recur p ps e s h = absurd (cc)
row_planned Special.While p ps e s h = absurd (cc)
row_planned Special.Dotimes p ps e s h = absurd (cc)
row_planned Special.Doseq p ps e s h = absurd (cc)
row_planned Special.Go p ps e s h = absurd (cc)
row_planned Special.GoLoop p ps e s h = absurd (cc)
row_planned Special.Print p ps e s h = absurd (cc)
row_planned Special.Take p [] e s h = refl
row_planned Special.Take p (a ∷ []) e s h = take_parked e.context p a e s
row_planned Special.Take p (a ∷ b ∷ ps) e s h = refl
row_planned Special.TakeBlocking p [] e s h = refl
row_planned Special.TakeBlocking p (a ∷ []) e s h = take_blocked e.context p a e s
row_planned Special.TakeBlocking p (a ∷ b ∷ ps) e s h = refl
row_planned Special.Put p [] e s h = refl
row_planned Special.Put p (a ∷ []) e s h = refl
row_planned Special.Put p (a ∷ b ∷ []) e s h = put_parked e.context p a b e s
row_planned Special.Put p (a ∷ b ∷ c ∷ ps) e s h = refl
row_planned Special.PutBlocking p [] e s h = refl
row_planned Special.PutBlocking p (a ∷ []) e s h = refl
row_planned Special.PutBlocking p (a ∷ b ∷ []) e s h = put_blocked e.context p a b e s
row_planned Special.PutBlocking p (a ∷ b ∷ c ∷ ps) e s h = refl
row_planned Special.Alts p ps e s h = alts_parked (options_in ps) e.context p ps e s refl
row_planned Special.AltsBlocking p ps e s h = alts_blocked (options_in ps) e.context p ps e s refl
row_planned Special.Offer p [] e s h = refl
row_planned Special.Offer p (a ∷ []) e s h = refl
row_planned Special.Offer p (a ∷ b ∷ []) e s h = refl
row_planned Special.Offer p (a ∷ b ∷ c ∷ ps) e s h = refl
row_planned Special.Poll p [] e s h = refl
row_planned Special.Poll p (a ∷ []) e s h = refl
row_planned Special.Poll p (a ∷ b ∷ ps) e s h = refl
row_planned Special.Post p [] e s h = refl
row_planned Special.Post p (a ∷ []) e s h = refl
row_planned Special.Post p (a ∷ b ∷ []) e s h = refl
row_planned Special.Post p (a ∷ b ∷ c ∷ ps) e s h = refl
row_planned Special.Close p [] e s h = refl
row_planned Special.Close p (a ∷ []) e s h = refl
row_planned Special.Close p (a ∷ b ∷ ps) e s h = refl
row_planned Special.Chan p ps e s h = refl
row_planned Special.PromiseChan p [] e s h = refl
row_planned Special.PromiseChan p (a ∷ ps) e s h = refl
row_planned Special.Timeout p [] e s h = refl
row_planned Special.Timeout p (a ∷ []) e s h = refl
row_planned Special.Timeout p (a ∷ b ∷ ps) e s h = refl
row_planned Special.Mult p [] e s h = refl
row_planned Special.Mult p (a ∷ []) e s h = refl
row_planned Special.Mult p (a ∷ b ∷ ps) e s h = refl
row_planned Special.Tap p [] e s h = refl
row_planned Special.Tap p (a ∷ []) e s h = refl
row_planned Special.Tap p (a ∷ b ∷ []) e s h = refl
row_planned Special.Tap p (a ∷ b ∷ c ∷ []) e s h = refl
row_planned Special.Tap p (a ∷ b ∷ c ∷ d ∷ ps) e s h = refl
row_planned Special.Untap p [] e s h = refl
row_planned Special.Untap p (a ∷ []) e s h = refl
row_planned Special.Untap p (a ∷ b ∷ []) e s h = refl
row_planned Special.Untap p (a ∷ b ∷ c ∷ ps) e s h = refl
row_planned Special.UntapAll p [] e s h = refl
row_planned Special.UntapAll p (a ∷ []) e s h = refl
row_planned Special.UntapAll p (a ∷ b ∷ ps) e s h = refl
row_planned Special.Mix p [] e s h = refl
row_planned Special.Mix p (a ∷ []) e s h = refl
row_planned Special.Mix p (a ∷ b ∷ ps) e s h = refl
row_planned Special.Admix p [] e s h = refl
row_planned Special.Admix p (a ∷ []) e s h = refl
row_planned Special.Admix p (a ∷ b ∷ []) e s h = refl
row_planned Special.Admix p (a ∷ b ∷ c ∷ ps) e s h = refl
row_planned Special.Unmix p [] e s h = refl
row_planned Special.Unmix p (a ∷ []) e s h = refl
row_planned Special.Unmix p (a ∷ b ∷ []) e s h = refl
row_planned Special.Unmix p (a ∷ b ∷ c ∷ ps) e s h = refl
row_planned Special.UnmixAll p [] e s h = refl
row_planned Special.UnmixAll p (a ∷ []) e s h = refl
row_planned Special.UnmixAll p (a ∷ b ∷ ps) e s h = refl
row_planned Special.Toggle p [] e s h = refl
row_planned Special.Toggle p (a ∷ []) e s h = refl
row_planned Special.Toggle p (a ∷ b ∷ []) e s h = refl
row_planned Special.Toggle p (a ∷ b ∷ c ∷ ps) e s h = refl
row_planned Special.SoloMode p [] e s h = refl
row_planned Special.SoloMode p (a ∷ []) e s h = refl
row_planned Special.SoloMode p (a ∷ b ∷ []) e s h = refl
row_planned Special.SoloMode p (a ∷ b ∷ c ∷ ps) e s h = refl
row_planned Special.Pub p [] e s h = refl
row_planned Special.Pub p (a ∷ []) e s h = refl
row_planned Special.Pub p (a ∷ b ∷ []) e s h = refl
row_planned Special.Pub p (a ∷ b ∷ c ∷ ps) e s h = refl
row_planned Special.Sub p [] e s h = refl
row_planned Special.Sub p (a ∷ []) e s h = refl
row_planned Special.Sub p (a ∷ b ∷ []) e s h = refl
row_planned Special.Sub p (a ∷ b ∷ c ∷ []) e s h = refl
row_planned Special.Sub p (a ∷ b ∷ c ∷ d ∷ []) e s h = refl
row_planned Special.Sub p (a ∷ b ∷ c ∷ d ∷ f ∷ ps) e s h = refl
row_planned Special.Unsub p [] e s h = refl
row_planned Special.Unsub p (a ∷ []) e s h = refl
row_planned Special.Unsub p (a ∷ b ∷ []) e s h = refl
row_planned Special.Unsub p (a ∷ b ∷ c ∷ []) e s h = refl
row_planned Special.Unsub p (a ∷ b ∷ c ∷ d ∷ ps) e s h = refl
row_planned Special.UnsubAll p [] e s h = refl
row_planned Special.UnsubAll p (a ∷ []) e s h = refl
row_planned Special.UnsubAll p (a ∷ b ∷ []) e s h = refl
row_planned Special.UnsubAll p (a ∷ b ∷ c ∷ ps) e s h = refl
row_planned Special.Pipe p [] e s h = refl
row_planned Special.Pipe p (a ∷ []) e s h = refl
row_planned Special.Pipe p (a ∷ b ∷ []) e s h = refl
row_planned Special.Pipe p (a ∷ b ∷ c ∷ []) e s h = refl
row_planned Special.Pipe p (a ∷ b ∷ c ∷ d ∷ ps) e s h = refl
row_planned Special.Merge p ps e s h = ap (λ (m : Meaning). m e s) (merge_planned p ps)
row_planned Special.Pipeline p ps e s h = ap (λ (m : Meaning). m e s) (pipeline_planned p ps)
row_planned Special.OntoChan p [] e s h = refl
row_planned Special.OntoChan p (a ∷ []) e s h = refl
row_planned Special.OntoChan p (a ∷ b ∷ []) e s h = refl
row_planned Special.OntoChan p (a ∷ b ∷ c ∷ []) e s h = refl
row_planned Special.OntoChan p (a ∷ b ∷ c ∷ d ∷ ps) e s h = refl
row_planned Special.ToChan p [] e s h = refl
row_planned Special.ToChan p (a ∷ []) e s h = refl
row_planned Special.ToChan p (a ∷ b ∷ ps) e s h = refl
