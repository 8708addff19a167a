-- Operands under hidden names, and what stands behind them.
use Rattle.std.proofs.Common.{◌≡◌, ℕ, suc, ◌+◌, ◌≤◌, ◌<◌, List, [], ◌∷◌, ◌++◌, length, map, drop, take, get_or, refl, sym, ap, ◌∙◌, arith, length-append, Bool, true, false, subst}
use Rattle.std.proofs.lemmas.List.{length-map, map-append}
use Rattle.ca_value.specs.Tree.{bool}
use Rattle.ca_term.specs.declared.head.Head.{Head}
use Rattle.ca_term.specs.declared.head.Head.TheVariants.{Make, Alts}
use Rattle.ca_term.specs.declared.head.AltsOptions.{AltsOptions}
use Rattle.ca_term.specs.declared.head.MakeKind.{MakeKind}
use Rattle.ca_term.specs.declared.place.Place.{Place}
use Rattle.ca_term.specs.declared.term.Term.{Term}
use Rattle.ca_term.specs.Kernel.{Kernel, Kernels, Bindings, const, var, bind, seq, apply, empty, binding, none, item}
use Rattle.ca_term.specs.View.{kernel, kernels, kernels_of}
use Rattle.ca_reader.specs.declared.form.Form.{Form}
use Rattle.ca_reader.specs.View.{form_tree}
use Rattle.ca_forms.specs.declared.error.CheckError.{CheckError}
use Rattle.ca_forms.specs.declared.error.CheckError.TheVariants.{Fault, OutOfMemory}
use Rattle.ca_forms.specs.declared.error.CheckErrorKind.TheVariants.{BadForm}
use Rattle.ca_forms.specs.declared.planned.HiddenForm.{HiddenForm}
use Rattle.ca_forms.specs.Outcome.{Gathered, WalkOutcome, done, refused, after_walk, limited}
use Rattle.ca_forms.specs.Meaning.{Env, Meaning, Named, size, inner, behind_name, binds, unnamed, bindings_joined, numbered, hiding, means_in_order, operation}
use Rattle.ca_forms.specs.Plain.{meanings}
use Rattle.ca_forms.specs.Judged.{bound_names}
use Rattle.ca_term.specs.declared.head.SystemTask.{SystemTask}
use Rattle.ca_term.specs.declared.head.PlainFunction.{PlainFunction}
use Rattle.ca_reader.specs.Form.{form_place}
use Rattle.ca_forms.specs.declared.error.CheckErrorKind.{CheckErrorKind}
use Rattle.ca_forms.specs.GivenView.{IsWrong}
use Rattle.ca_forms.specs.Names.{Given, applied, wrong, given}
use Rattle.ca_forms.specs.Channels.{yes, spawn_call, make_call, pub_of, row_pub, stopping, operands_in, row_chan, buffered_channel}
use Rattle.ca_forms.specs.Planned.{and_yes, and_true, further, hidden_form_body, hidden_row, hidden_let, merge_row, pub_over}
use Rattle.ca_forms.specs.Walk.{walk}
use Rattle.ca_forms.specs.WalkView.{form_parts, form_pairs, terms_of, Fails}
use Rattle.ca_forms.proofs.TermLaws.{followed, followed_end, kernels_more}
use Rattle.ca_forms.proofs.PartLaws.{after_after, after_fails, before_inner}
use Rattle.ca_forms.proofs.BindLaws.{at, after_done, binds_append, numbered_append}

-- as many bindings as names
abbrev width_of : Bindings → ℕ
width_of empty = 0
width_of (binding n t bs) = suc (width_of bs)

width_numbered : (n : ℕ) (ks : List Kernel) → width_of (numbered n ks) ≡ length ks
width_numbered n [] = refl
width_numbered n (k ∷ ks) = ap suc (width_numbered (suc n) ks)

binds_width : (bs : List Named) (e : Env) (s : Gathered) (cs : Bindings) (s2 : Gathered) → binds bs e s ≡ done cs s2 → width_of cs ≡ length bs
binds_width [] e s cs s2 h = let same : cs ≡ empty = cc in ap width_of same
binds_width (b ∷ bs) e s cs s2 h = by (b.means (inner e) s) (λ s. binds_width bs (behind_name b.name e) s) h where
  by : (o : WalkOutcome Kernel) → ((s : Gathered) (ds : Bindings) (s3 : Gathered) → binds bs (behind_name b.name e) s ≡ done ds s3 → width_of ds ≡ length bs)
      → after_walk o (λ t s. after_walk (binds bs (behind_name b.name e) s) (λ ts s. done (binding (size e) t ts) s)) ≡ done cs s2 → width_of cs ≡ suc (length bs)
  by (refused x p) ih h = absurd (cc)
  by (done t s) ih h = rest (binds bs (behind_name b.name e) s) (ih s) h where
    rest : (o : WalkOutcome Bindings) → ((ds : Bindings) (s3 : Gathered) → o ≡ done ds s3 → width_of ds ≡ length bs)
        → after_walk o (λ ts s. done (binding (size e) t ts) s) ≡ done cs s2 → width_of cs ≡ suc (length bs)
    rest (refused x p) ih h = absurd (cc)
    rest (done ds s) ih h = let same : cs ≡ binding (size e) t ds = cc in ap width_of same ∙ ap suc (ih ds s refl)

-- these operands under hidden names come to these terms
abbrev pub Hides : Env → List (List ℕ) → Gathered → List Meaning → List Kernel → Gathered → Type 0
Hides e sc s ms ks s2 = binds (map unnamed ms) (at e sc) s ≡ done (numbered (length sc) ks) s2

hides_count : (e : Env) (sc : List (List ℕ)) (s s2 : Gathered) (ms : List Meaning) (ks : List Kernel) → Hides e sc s ms ks s2 → length ks ≡ length ms
hides_count e sc s s2 ms ks h = sym (width_numbered (length sc) ks) ∙ binds_width (map unnamed ms) (at e sc) s (numbered (length sc) ks) s2 h ∙ length-map ms unnamed

pub hiding_done : (e : Env) (sc : List (List ℕ)) (s s2 : Gathered) (ms : List Meaning) (ks : List Kernel) (more body : ℕ → List Kernel) → Hides e sc s ms ks s2
    → hiding ms more body (at e sc) s ≡ hidden_let (length sc) ks (more (length sc)) (body (length sc)) s2
hiding_done e sc s s2 ms ks more body h =
    ap (λ (o : WalkOutcome Bindings). after_walk o (λ bs s. limited (bind (bindings_joined bs (numbered (length sc + length ms) (more (length sc)))) (seq (kernels_of (body (length sc))))) s)) h
    ∙ ap (λ n. limited (bind (bindings_joined (numbered (length sc) ks) (numbered (length sc + n) (more (length sc)))) (seq (kernels_of (body (length sc))))) s2) (sym (hides_count e sc s s2 ms ks h))

pub hiding_fails : (x : CheckError) (e : Env) (sc : List (List ℕ)) (s : Gathered) (ms : List Meaning) (more body : ℕ → List Kernel)
    → Fails x (binds (map unnamed ms) (at e sc) s) → Fails x (hiding ms more body (at e sc) s)
hiding_fails x e sc s ms more body h = after_fails x (binds (map unnamed ms) (at e sc) s) _ h

-- operands behind others
names_width : (ms : List Meaning) → length (bound_names (map unnamed ms)) ≡ length ms
names_width ms = length-map (map unnamed ms) (λ b. b.name) ∙ length-map ms unnamed

pub hides_more : (e : Env) (sc sc2 : List (List ℕ)) (s s2 s3 : Gathered) (ms ns : List Meaning) (ks js : List Kernel) → Hides e sc s ms ks s2 → sc2 ≡ sc ++ bound_names (map unnamed ms)
    → Hides e sc2 s2 ns js s3 → Hides e sc s (ms ++ ns) (ks ++ js) s3
hides_more e sc sc2 s s2 s3 ms ns ks js h c g =
    let long : length sc2 ≡ length sc + length ks
    = ap (λ (z : List (List ℕ)). length z) c ∙ length-append sc (bound_names (map unnamed ms)) ∙ ap (λ n. length sc + n) (names_width ms ∙ sym (hides_count e sc s s2 ms ks h)) in
    ap (λ bs. binds bs (at e sc) s) (map-append unnamed ms ns)
    ∙ binds_append e (map unnamed ms) (map unnamed ns) sc s
    ∙ ap (λ (o : WalkOutcome Bindings). after_walk o (λ bs s. after_walk (binds (map unnamed ns) (at e (sc ++ bound_names (map unnamed ms))) s) (λ cs s. done (bindings_joined bs cs) s))) h
    ∙ ap (λ z. after_walk (binds (map unnamed ns) (at e z) s2) (λ cs s. done (bindings_joined (numbered (length sc) ks) cs) s)) (sym c)
    ∙ ap (λ (o : WalkOutcome Bindings). after_walk o (λ cs s. done (bindings_joined (numbered (length sc) ks) cs) s)) g
    ∙ ap (λ n. done (bindings_joined (numbered (length sc) ks) (numbered n js)) s3) long
    ∙ ap (λ bs. done bs s3) (sym (numbered_append (length sc) ks js))

pub first_fails : (x : CheckError) (e : Env) (sc : List (List ℕ)) (s : Gathered) (ms ns : List Meaning) → Fails x (binds (map unnamed ms) (at e sc) s) → Fails x (binds (map unnamed (ms ++ ns)) (at e sc) s)
first_fails OutOfMemory e sc s ms ns h = tt
first_fails (Fault q p) e sc s ms ns h = ap (λ bs. binds bs (at e sc) s) (map-append unnamed ms ns) ∙ binds_append e (map unnamed ms) (map unnamed ns) sc s
    ∙ ap (λ (o : WalkOutcome Bindings). after_walk o (λ bs s. after_walk (binds (map unnamed ns) (at e (sc ++ bound_names (map unnamed ms))) s) (λ cs s. done (bindings_joined bs cs) s))) h

pub second_fails : (x : CheckError) (e : Env) (sc sc2 : List (List ℕ)) (s s2 : Gathered) (ms ns : List Meaning) (ks : List Kernel) → Hides e sc s ms ks s2 → sc2 ≡ sc ++ bound_names (map unnamed ms)
    → Fails x (binds (map unnamed ns) (at e sc2) s2) → Fails x (binds (map unnamed (ms ++ ns)) (at e sc) s)
second_fails OutOfMemory e sc sc2 s s2 ms ns ks h c g = tt
second_fails (Fault q p) e sc sc2 s s2 ms ns ks h c g = ap (λ bs. binds bs (at e sc) s) (map-append unnamed ms ns)
    ∙ binds_append e (map unnamed ms) (map unnamed ns) sc s
    ∙ ap (λ (o : WalkOutcome Bindings). after_walk o (λ bs s. after_walk (binds (map unnamed ns) (at e (sc ++ bound_names (map unnamed ms))) s) (λ cs s. done (bindings_joined bs cs) s))) h
    ∙ ap (λ z. after_walk (binds (map unnamed ns) (at e z) s2) (λ cs s. done (bindings_joined (numbered (length sc) ks) cs) s)) (sym c)
    ∙ ap (λ (o : WalkOutcome Bindings). after_walk o (λ cs s. done (bindings_joined (numbered (length sc) ks) cs) s)) g

-- true behind operands
pub hides_yes : (unwritten : Bool) (e : Env) (sc : List (List ℕ)) (s s2 : Gathered) (ms : List Meaning) (ks : List Kernel) → Hides e sc s ms ks s2 → Hides e sc s (and_yes unwritten ms) (and_true unwritten ks) s2
hides_yes false e sc s s2 ms ks h = h
hides_yes true e sc s s2 ms ks h = hides_more e sc (sc ++ bound_names (map unnamed ms)) s s2 s2 ms (yes ∷ []) ks (const (bool true) ∷ []) h refl refl

pub yes_fails : (x : CheckError) (unwritten : Bool) (e : Env) (sc : List (List ℕ)) (s : Gathered) (ms : List Meaning) → Fails x (binds (map unnamed ms) (at e sc) s) → Fails x (binds (map unnamed (and_yes unwritten ms)) (at e sc) s)
yes_fails x false e sc s ms h = h
yes_fails x true e sc s ms h = first_fails x e sc s ms (yes ∷ []) h

pub take_all : (fs : List Form) → take (length fs) fs ≡ fs
take_all [] = refl
take_all (f ∷ fs) = ap (λ z. f ∷ z) (take_all fs)

-- the parts from a number on are those up to the end
pub parts_to_end : (n : ℕ) (fs : List Form) → meanings (form_parts (drop n (take (length fs) fs))) ≡ meanings (form_parts (drop n fs))
parts_to_end n fs = ap (λ gs. meanings (form_parts (drop n gs))) (take_all fs)

pub hidden_row_done : (w : HiddenForm) (unwritten : Bool) (p : Place) (e : Env) (sc : List (List ℕ)) (s s2 : Gathered) (fs : List Form) (ks : List Kernel)
    → Hides e sc s (meanings (form_parts (drop 1 (take (length fs) fs)))) ks s2
    → hidden_row w unwritten p (form_parts (drop 1 fs)) (at e sc) s ≡ hidden_let (length sc) (and_true unwritten ks) (further w p (length sc)) (hidden_form_body w p (length sc)) s2
hidden_row_done w unwritten p e sc s s2 fs ks h =
    let walked : Hides e sc s (meanings (form_parts (drop 1 fs))) ks s2 = rw (parts_to_end 1 fs) at h in
    hiding_done e sc s s2 (and_yes unwritten (meanings (form_parts (drop 1 fs)))) (and_true unwritten ks) (further w p) (hidden_form_body w p) (hides_yes unwritten e sc s s2 (meanings (form_parts (drop 1 fs))) ks walked)

pub hidden_row_fails : (x : CheckError) (w : HiddenForm) (unwritten : Bool) (p : Place) (e : Env) (sc : List (List ℕ)) (s : Gathered) (fs : List Form)
    → Fails x (binds (map unnamed (meanings (form_parts (drop 1 (take (length fs) fs))))) (at e sc) s) → Fails x (hidden_row w unwritten p (form_parts (drop 1 fs)) (at e sc) s)
hidden_row_fails x w unwritten p e sc s fs h =
    let walked : Fails x (binds (map unnamed (meanings (form_parts (drop 1 fs)))) (at e sc) s) = rw (parts_to_end 1 fs) at h in
    hiding_fails x e sc s (and_yes unwritten (meanings (form_parts (drop 1 fs)))) (further w p) (hidden_form_body w p) (yes_fails x unwritten e sc s (meanings (form_parts (drop 1 fs))) walked)

-- operands behind others, without names
pub in_order_then : (ms ns : List Meaning) (e : Env) (s : Gathered)
    → means_in_order (ms ++ ns) (inner e) s ≡ after_walk (means_in_order ms (inner e) s) (λ ts s. after_walk (means_in_order ns (inner e) s) (λ us s. done (followed ts us) s))
in_order_then [] ns e s = sym (after_done (means_in_order ns (inner e) s))
in_order_then (m ∷ ms) ns e s = rw (before_inner (length (ms ++ ns)) e, before_inner (length ms) e) (by (m (inner e) s) (λ s2. in_order_then ms ns e s2)) where
  by : (o : WalkOutcome Kernel) → ((s2 : Gathered) → means_in_order (ms ++ ns) (inner e) s2 ≡ after_walk (means_in_order ms (inner e) s2) (λ ts s. after_walk (means_in_order ns (inner e) s) (λ us s. done (followed ts us) s)))
      → after_walk o (λ t s. after_walk (means_in_order (ms ++ ns) (inner e) s) (λ ts s. done (item t ts) s))
      ≡ after_walk (after_walk o (λ t s. after_walk (means_in_order ms (inner e) s) (λ ts s. done (item t ts) s))) (λ ts s. after_walk (means_in_order ns (inner e) s) (λ us s. done (followed ts us) s))
  by (refused x p) ih = refl
  by (done t s) ih = rw (ih s) (rest (means_in_order ms (inner e) s)) where
    rest : (o : WalkOutcome Kernels) → after_walk (after_walk o (λ ts s. after_walk (means_in_order ns (inner e) s) (λ us s. done (followed ts us) s))) (λ ts s. done (item t ts) s)
        ≡ after_walk (after_walk o (λ ts s. done (item t ts) s)) (λ ts s. after_walk (means_in_order ns (inner e) s) (λ us s. done (followed ts us) s))
    rest (refused x p) = refl
    rest (done ts s) = after_after (means_in_order ns (inner e) s) _ _

last_kernel : (ts : List Term) (t : Term) → kernels (ts ++ t ∷ []) ≡ followed (kernels ts) (item (kernel t) none)
last_kernel ts t = sym (followed_end (kernels (ts ++ t ∷ []))) ∙ kernels_more ts t none

pub operation_yes : (h : Head) (ms : List Meaning) (p : Place) (e : Env) (s s2 : Gathered) (ts : List Term) (t : Term) → means_in_order ms (inner e) s ≡ done (kernels ts) s2 → kernel t ≡ const (bool true)
    → operation h (and_yes true ms) p e s ≡ limited (apply h (kernels (ts ++ t ∷ [])) p) s2
operation_yes h ms p e s s2 ts t w k =
    ap (λ (o : WalkOutcome Kernels). after_walk o (λ ts s. limited (apply h ts p) s)) (in_order_then ms (yes ∷ []) e s)
    ∙ ap (λ (o : WalkOutcome Kernels). after_walk (after_walk o (λ ts s. done (followed ts (item (const (bool true)) none)) s)) (λ ts s. limited (apply h ts p) s)) w
    ∙ ap (λ k. limited (apply h (followed (kernels ts) (item k none)) p) s2) (sym k)
    ∙ ap (λ us. limited (apply h us p) s2) (sym (last_kernel ts t))

pub operation_yes_fails : (x : CheckError) (h : Head) (ms : List Meaning) (p : Place) (e : Env) (s : Gathered) → Fails x (means_in_order ms (inner e) s) → Fails x (operation h (and_yes true ms) p e s)
operation_yes_fails OutOfMemory h ms p e s w = tt
operation_yes_fails (Fault q r) h ms p e s w =
    ap (λ (o : WalkOutcome Kernels). after_walk o (λ ts s. limited (apply h ts p) s)) (in_order_then ms (yes ∷ []) e s)
    ∙ ap (λ (o : WalkOutcome Kernels). after_walk (after_walk o (λ ts s. done (followed ts (item (const (bool true)) none)) s)) (λ ts s. limited (apply h ts p) s)) w

-- a new channel
pub sized_on : (kind : MakeKind) (fs : List Form) (p : Place) → length fs ≡ 2 → buffered_channel kind (form_pairs fs) p ≡ operation (Make kind) (meanings (form_parts (drop 1 fs))) p
sized_on kind [] p h = absurd (omega (arith, h))
sized_on kind (a ∷ []) p h = absurd (omega (arith, h))
sized_on kind (a ∷ b ∷ []) p h = refl
sized_on kind (a ∷ b ∷ c ∷ fs) p h = absurd (omega (arith, h))

pub sized_off : (kind : MakeKind) (fs : List Form) (p : Place) (e : Env) (s : Gathered) → (length fs ≡ 2 → ⊥) → buffered_channel kind (form_pairs fs) p e s ≡ refused BadForm p
sized_off kind [] p e s x = refl
sized_off kind (a ∷ []) p e s x = refl
sized_off kind (a ∷ b ∷ []) p e s x = absurd (x refl)
sized_off kind (a ∷ b ∷ c ∷ fs) p e s x = refl

pub chan_off : (fs : List Form) (p : Place) (e : Env) (s : Gathered) → 1 < length fs → row_chan p (form_parts fs) e s ≡ refused BadForm p
chan_off [] p e s h = absurd (omega (arith, h))
chan_off (a ∷ []) p e s h = absurd (omega (arith, h))
chan_off (a ∷ b ∷ fs) p e s h = refl

-- a merge
pub merge_done : (p : Place) (e : Env) (sc sc2 : List (List ℕ)) (s s1 s2 : Gathered) (fs : List Form) (ks : List Kernel) (k : Kernel) → 2 ≤ length fs
    → Hides e sc s (meanings (form_parts (drop 1 (take 2 fs)))) ks s1 → sc2 ≡ sc ++ bound_names (map unnamed (meanings (form_parts (drop 1 (take 2 fs)))))
    → row_chan p (form_parts (drop 2 fs)) (inner (at e sc2)) s1 ≡ done k s2
    → merge_row p (form_parts (drop 1 fs)) (at e sc) s ≡ hidden_let (length sc) (ks ++ k ∷ []) [] (spawn_call SystemTask.Merge (var (length sc) ∷ var (length sc + 1) ∷ []) p ∷ var (length sc + 1) ∷ []) s2
merge_done p e sc sc2 s s1 s2 [] ks k l h c w = absurd (omega (arith, l))
merge_done p e sc sc2 s s1 s2 (f ∷ []) ks k l h c w = absurd (omega (arith, l))
merge_done p e sc sc2 s s1 s2 (f ∷ g ∷ gs) ks k l h c w = hiding_done e sc s s2 (walk (form_tree g) ∷ row_chan p (form_parts gs) ∷ []) (ks ++ k ∷ []) (λ n. []) (λ n. spawn_call SystemTask.Merge (var n ∷ var (n + 1) ∷ []) p ∷ var (n + 1) ∷ [])
    (hides_more e sc sc2 s s1 s2 (walk (form_tree g) ∷ []) (row_chan p (form_parts gs) ∷ []) ks (k ∷ []) h c (rw w refl))

-- one more term
pub more_is : (o : WalkOutcome Kernel) (js ks : List Kernel) (s2 : Gathered) → after_walk o (λ k s. done (js ++ k ∷ []) s) ≡ done ks s2 → (k : Kernel) × (o ≡ done k s2) × (ks ≡ js ++ k ∷ [])
more_is (refused x p) js ks s2 h = absurd (cc)
more_is (done k s) js ks s2 h =
    let a : js ++ k ∷ [] ≡ ks = cc in
    let b : s ≡ s2 = cc in
    (k, ap (λ z. done k z) b, sym a)

pub kernels_listed : (ts : List Term) → kernels_of (terms_of ts) ≡ kernels ts
kernels_listed [] = refl
kernels_listed (t ∷ ts) = ap (item (kernel t)) (kernels_listed ts)

abbrev pub More : Env → Gathered → Form → List Kernel → List Kernel → Gathered → Type 0
More e s f js ks s2 = after_walk (walk (form_tree f) (inner e) s) (λ k s. done (js ++ k ∷ []) s) ≡ done ks s2

three_walked : (h : Head) (a b d : Meaning) (p : Place) (e : Env) (s s1 s2 s3 : Gathered) (j k l : Kernel) → a (inner e) s ≡ done j s1 → b (inner e) s1 ≡ done k s2 → d (inner e) s2 ≡ done l s3
    → operation h (a ∷ b ∷ d ∷ []) p e s ≡ limited (apply h (kernels_of (j ∷ k ∷ l ∷ [])) p) s3
three_walked h a b d p e s s1 s2 s3 j k l x y z = rw (x, y, z) refl

two_walked : (h : Head) (a b : Meaning) (p : Place) (e : Env) (s s1 s2 : Gathered) (j k : Kernel) → a (inner e) s ≡ done j s1 → b (inner e) s1 ≡ done k s2
    → operation h (a ∷ b ∷ []) p e s ≡ limited (apply h (kernels_of (j ∷ k ∷ [])) p) s2
two_walked h a b p e s s1 s2 j k x y = rw (x, y) refl

pub alts_three : (o : AltsOptions) (p : Place) (e : Env) (s s1 s2 s3 : Gathered) (fs : List Form) (a b d : Form) (ks1 ks2 ks3 : List Kernel) → 6 ≤ length fs
    → a ≡ get_or fs 1 a → b ≡ get_or fs 3 b → d ≡ get_or fs 5 d → More e s a [] ks1 s1 → More e s1 b ks1 ks2 s2 → More e s2 d ks2 ks3 s3
    → operation (Alts o) (operands_in (form_parts (drop 1 fs))) p e s ≡ limited (apply (Alts o) (kernels_of ks3) p) s3
alts_three o p e s s1 s2 s3 (f1 ∷ f2 ∷ f3 ∷ f4 ∷ f5 ∷ f6 ∷ fs) a b d ks1 ks2 ks3 h x y z u v w =
    let A = more_is (walk (form_tree a) (inner e) s) [] ks1 s1 u in
    let B = more_is (walk (form_tree b) (inner e) s1) ks1 ks2 s2 v in
    let D = more_is (walk (form_tree d) (inner e) s2) ks2 ks3 s3 w in
    let all : ks3 ≡ A.0 ∷ B.0 ∷ D.0 ∷ [] = D.2 ∙ ap (λ (q : List Kernel). q ++ D.0 ∷ []) (B.2 ∙ ap (λ (q : List Kernel). q ++ B.0 ∷ []) A.2) in
    ap (λ k. operation (Alts o) (walk (form_tree k) ∷ walk (form_tree f4) ∷ walk (form_tree f6) ∷ []) p e s) (sym x)
    ∙ ap (λ k. operation (Alts o) (walk (form_tree a) ∷ walk (form_tree k) ∷ walk (form_tree f6) ∷ []) p e s) (sym y)
    ∙ ap (λ k. operation (Alts o) (walk (form_tree a) ∷ walk (form_tree b) ∷ walk (form_tree k) ∷ []) p e s) (sym z)
    ∙ three_walked (Alts o) (walk (form_tree a)) (walk (form_tree b)) (walk (form_tree d)) p e s s1 s2 s3 A.0 B.0 D.0 A.1 B.1 D.1
    ∙ ap (λ q. limited (apply (Alts o) (kernels_of q) p) s3) (sym all)
alts_three o p e s s1 s2 s3 [] a b d ks1 ks2 ks3 h x y z u v w = absurd (omega (arith, h))
alts_three o p e s s1 s2 s3 (f1 ∷ []) a b d ks1 ks2 ks3 h x y z u v w = absurd (omega (arith, h))
alts_three o p e s s1 s2 s3 (f1 ∷ f2 ∷ []) a b d ks1 ks2 ks3 h x y z u v w = absurd (omega (arith, h))
alts_three o p e s s1 s2 s3 (f1 ∷ f2 ∷ f3 ∷ []) a b d ks1 ks2 ks3 h x y z u v w = absurd (omega (arith, h))
alts_three o p e s s1 s2 s3 (f1 ∷ f2 ∷ f3 ∷ f4 ∷ []) a b d ks1 ks2 ks3 h x y z u v w = absurd (omega (arith, h))
alts_three o p e s s1 s2 s3 (f1 ∷ f2 ∷ f3 ∷ f4 ∷ f5 ∷ []) a b d ks1 ks2 ks3 h x y z u v w = absurd (omega (arith, h))

pub alts_two : (o : AltsOptions) (p : Place) (e : Env) (s s1 s2 : Gathered) (fs : List Form) (a b : Form) (ks1 ks2 : List Kernel) → 4 ≤ length fs → length fs < 6
    → a ≡ get_or fs 1 a → b ≡ get_or fs 3 b → More e s a [] ks1 s1 → More e s1 b ks1 ks2 s2
    → operation (Alts o) (operands_in (form_parts (drop 1 fs))) p e s ≡ limited (apply (Alts o) (kernels_of ks2) p) s2
alts_two o p e s s1 s2 fs a b ks1 ks2 h g x y u v =
    let A = more_is (walk (form_tree a) (inner e) s) [] ks1 s1 u in
    let B = more_is (walk (form_tree b) (inner e) s1) ks1 ks2 s2 v in
    let all : ks2 ≡ A.0 ∷ B.0 ∷ [] = B.2 ∙ ap (λ (q : List Kernel). q ++ B.0 ∷ []) A.2 in
    ap (λ ms. operation (Alts o) ms p e s) (by fs h g x y)
    ∙ two_walked (Alts o) (walk (form_tree a)) (walk (form_tree b)) p e s s1 s2 A.0 B.0 A.1 B.1
    ∙ ap (λ q. limited (apply (Alts o) (kernels_of q) p) s2) (sym all) where
      by : (fs : List Form) → 4 ≤ length fs → length fs < 6 → a ≡ get_or fs 1 a → b ≡ get_or fs 3 b → operands_in (form_parts (drop 1 fs)) ≡ walk (form_tree a) ∷ walk (form_tree b) ∷ []
      by [] h g x y = absurd (omega (arith, h))
      by (f1 ∷ []) h g x y = absurd (omega (arith, h))
      by (f1 ∷ f2 ∷ []) h g x y = absurd (omega (arith, h))
      by (f1 ∷ f2 ∷ f3 ∷ []) h g x y = absurd (omega (arith, h))
      by (f1 ∷ f2 ∷ f3 ∷ f4 ∷ []) h g x y = ap (λ k. walk (form_tree k) ∷ walk (form_tree f4) ∷ []) (sym x) ∙ ap (λ k. walk (form_tree a) ∷ walk (form_tree k) ∷ []) (sym y)
      by (f1 ∷ f2 ∷ f3 ∷ f4 ∷ f5 ∷ []) h g x y = ap (λ k. walk (form_tree k) ∷ walk (form_tree f4) ∷ []) (sym x) ∙ ap (λ k. walk (form_tree a) ∷ walk (form_tree k) ∷ []) (sym y)
      by (f1 ∷ f2 ∷ f3 ∷ f4 ∷ f5 ∷ f6 ∷ fs) h g x y = absurd (omega (arith, g))

pub alts_one : (fs : List Form) → length fs < 4 → operands_in (form_parts (drop 1 fs)) ≡ meanings (form_parts (drop 1 fs))
alts_one [] h = refl
alts_one (f1 ∷ []) h = refl
alts_one (f1 ∷ f2 ∷ []) h = refl
alts_one (f1 ∷ f2 ∷ f3 ∷ []) h = refl
alts_one (f1 ∷ f2 ∷ f3 ∷ f4 ∷ fs) h = absurd (omega (arith, h))

-- a publication
pub published_done : (f : PlainFunction) (js : List Kernel) (p : Place) (e : Env) (sc : List (List ℕ)) (s s2 : Gathered) (fs : List Form) (ks : List Kernel) → 2 < length fs
    → Hides e sc s (meanings (form_parts (drop 1 (take 2 fs)))) ks s2
    → pub_over (applied f js) p (form_parts (drop 1 fs)) (at e sc) s
    ≡ hidden_let (length sc) ks (make_call MakeKind.Pub (var (length sc) ∷ []) p ∷ []) (spawn_call (SystemTask.Pub f) (var (length sc + 1) ∷ var (length sc) ∷ js) p ∷ var (length sc + 1) ∷ []) s2
published_done f js p e sc s s2 [] ks l h = absurd (omega (arith, l))
published_done f js p e sc s s2 (a ∷ []) ks l h = absurd (omega (arith, l))
published_done f js p e sc s s2 (a ∷ b ∷ []) ks l h = absurd (omega (arith, l))
published_done f js p e sc s s2 (a ∷ b ∷ d ∷ fs) ks l h = hiding_done e sc s s2 (walk (form_tree b) ∷ []) ks (λ n. make_call MakeKind.Pub (var n ∷ []) p ∷ [])
    (λ n. spawn_call (SystemTask.Pub f) (var (n + 1) ∷ var n ∷ js) p ∷ var (n + 1) ∷ []) h

pub published_fails : (x : CheckError) (f : PlainFunction) (js : List Kernel) (p : Place) (e : Env) (sc : List (List ℕ)) (s : Gathered) (fs : List Form) → 2 < length fs
    → Fails x (binds (map unnamed (meanings (form_parts (drop 1 (take 2 fs))))) (at e sc) s) → Fails x (pub_over (applied f js) p (form_parts (drop 1 fs)) (at e sc) s)
published_fails x f js p e sc s [] l h = absurd (omega (arith, l))
published_fails x f js p e sc s (a ∷ []) l h = absurd (omega (arith, l))
published_fails x f js p e sc s (a ∷ b ∷ []) l h = absurd (omega (arith, l))
published_fails x f js p e sc s (a ∷ b ∷ d ∷ fs) l h = hiding_fails x e sc s (walk (form_tree b) ∷ []) (λ n. make_call MakeKind.Pub (var n ∷ []) p ∷ [])
    (λ n. spawn_call (SystemTask.Pub f) (var (n + 1) ∷ var n ∷ js) p ∷ var (n + 1) ∷ []) h

pub pub_off : (p : Place) (e : Env) (s : Gathered) (fs : List Form) → (length fs ≡ 3 → ⊥) → row_pub p (form_parts (drop 1 fs)) e s ≡ refused BadForm p
pub_off p e s [] h = refl
pub_off p e s (a ∷ []) h = refl
pub_off p e s (a ∷ b ∷ []) h = refl
pub_off p e s (a ∷ b ∷ d ∷ []) h = absurd (h refl)
pub_off p e s (a ∷ b ∷ d ∷ f ∷ fs) h = refl

pub pub_on : (p : Place) (e : Env) (s : Gathered) (fs : List Form) (g : Form) (v : Given) → length fs ≡ 3 → g ≡ get_or fs 2 g → given (form_tree g) e ≡ v
    → row_pub p (form_parts (drop 1 fs)) e s ≡ pub_over v p (form_parts (drop 1 fs)) e s
pub_on p e s [] g v h x y = absurd (omega (arith, h))
pub_on p e s (a ∷ []) g v h x y = absurd (omega (arith, h))
pub_on p e s (a ∷ b ∷ []) g v h x y = absurd (omega (arith, h))
pub_on p e s (a ∷ b ∷ d ∷ []) g v h x y =
    let same : given (form_tree d) e ≡ v = ap (λ k. given (form_tree k) e) (sym x) ∙ y in
    ap (λ w. pub_of w (walk (form_tree b)) (form_place (form_tree d)) p e s) same
pub_on p e s (a ∷ b ∷ d ∷ f ∷ fs) g v h x y = absurd (omega (arith, h))

pub pub_wrong : (p : Place) (e : Env) (s : Gathered) (fs : List Form) (g : Form) (k : CheckErrorKind) (q : Place) → length fs ≡ 3 → g ≡ get_or fs 2 g → IsWrong (Fault k q) (form_place (form_tree g)) (given (form_tree g) e)
    → row_pub p (form_parts (drop 1 fs)) e s ≡ stopping (meanings (form_parts (drop 1 (take 2 fs)))) k q e s
pub_wrong p e s [] g k q h x y = absurd (omega (arith, h))
pub_wrong p e s (a ∷ []) g k q h x y = absurd (omega (arith, h))
pub_wrong p e s (a ∷ b ∷ []) g k q h x y = absurd (omega (arith, h))
pub_wrong p e s (a ∷ b ∷ d ∷ []) g k q h x y =
    let same : given (form_tree d) e ≡ wrong k = ap (λ z. given (form_tree z) e) (sym x) ∙ y.1 in
    let here : form_place (form_tree d) ≡ q = ap (λ z. form_place (form_tree z)) (sym x) ∙ sym y.0 in
    ap (λ w. pub_of w (walk (form_tree b)) (form_place (form_tree d)) p e s) same ∙ ap (λ r. stopping (walk (form_tree b) ∷ []) k r e s) here
pub_wrong p e s (a ∷ b ∷ d ∷ f ∷ fs) g k q h x y = absurd (omega (arith, h))

-- an error behind the first part, behind the first two parts
one_stops : (m : Meaning) (k : CheckErrorKind) (q : Place) (e : Env) (s s1 : Gathered) (j : Kernel) → m (inner e) s ≡ done j s1 → stopping (m ∷ []) k q e s ≡ refused k q
one_stops m k q e s s1 j h = rw h refl

pub stopped_one : (k : CheckErrorKind) (q : Place) (e : Env) (s s1 : Gathered) (fs : List Form) (a : Form) (js ks : List Kernel) → 1 < length fs → a ≡ get_or fs 1 a → More e s a js ks s1
    → stopping (meanings (form_parts (drop 1 (take 2 fs)))) k q e s ≡ refused k q
stopped_one k q e s s1 [] a js ks l x h = absurd (omega (arith, l))
stopped_one k q e s s1 (f ∷ []) a js ks l x h = absurd (omega (arith, l))
stopped_one k q e s s1 (f ∷ g ∷ fs) a js ks l x h =
    let A = more_is (walk (form_tree a) (inner e) s) js ks s1 h in
    ap (λ z. stopping (walk (form_tree z) ∷ []) k q e s) (sym x) ∙ one_stops (walk (form_tree a)) k q e s s1 A.0 A.1

one_fails_first : (x : CheckError) (m : Meaning) (k : CheckErrorKind) (q : Place) (e : Env) (s : Gathered) → Fails x (m (inner e) s) → Fails x (stopping (m ∷ []) k q e s)
one_fails_first OutOfMemory m k q e s h = tt
one_fails_first (Fault c r) m k q e s h = rw h refl

pub stopped_one_fails : (x : CheckError) (k : CheckErrorKind) (q : Place) (e : Env) (s : Gathered) (fs : List Form) (a : Form) → 1 < length fs → a ≡ get_or fs 1 a → Fails x (walk (form_tree a) (inner e) s)
    → Fails x (stopping (meanings (form_parts (drop 1 (take 2 fs)))) k q e s)
stopped_one_fails x k q e s [] a l y h = absurd (omega (arith, l))
stopped_one_fails x k q e s (f ∷ []) a l y h = absurd (omega (arith, l))
stopped_one_fails x k q e s (f ∷ g ∷ fs) a l y h = subst (λ z. Fails x (stopping (walk (form_tree z) ∷ []) k q e s)) y (one_fails_first x (walk (form_tree a)) k q e s h)

two_stop : (m n : Meaning) (k : CheckErrorKind) (q : Place) (e : Env) (s s1 s2 : Gathered) (j l : Kernel) → m (inner e) s ≡ done j s1 → n (inner e) s1 ≡ done l s2 → stopping (m ∷ n ∷ []) k q e s ≡ refused k q
two_stop m n k q e s s1 s2 j l h g = rw (h, g) refl

pub stopped_two : (k : CheckErrorKind) (q : Place) (e : Env) (s s1 s2 : Gathered) (fs : List Form) (a b : Form) (js ks ls : List Kernel) → 2 < length fs → a ≡ get_or fs 1 a → b ≡ get_or fs 2 b
    → More e s a js ks s1 → More e s1 b ks ls s2 → stopping (meanings (form_parts (drop 1 (take 3 fs)))) k q e s ≡ refused k q
stopped_two k q e s s1 s2 [] a b js ks ls l x y h g = absurd (omega (arith, l))
stopped_two k q e s s1 s2 (f1 ∷ []) a b js ks ls l x y h g = absurd (omega (arith, l))
stopped_two k q e s s1 s2 (f1 ∷ f2 ∷ []) a b js ks ls l x y h g = absurd (omega (arith, l))
stopped_two k q e s s1 s2 (f1 ∷ f2 ∷ f3 ∷ fs) a b js ks ls l x y h g =
    let A = more_is (walk (form_tree a) (inner e) s) js ks s1 h in
    let B = more_is (walk (form_tree b) (inner e) s1) ks ls s2 g in
    ap (λ z. stopping (walk (form_tree z) ∷ walk (form_tree f3) ∷ []) k q e s) (sym x) ∙ ap (λ z. stopping (walk (form_tree a) ∷ walk (form_tree z) ∷ []) k q e s) (sym y)
    ∙ two_stop (walk (form_tree a)) (walk (form_tree b)) k q e s s1 s2 A.0 B.0 A.1 B.1

two_fail_first : (x : CheckError) (m n : Meaning) (k : CheckErrorKind) (q : Place) (e : Env) (s : Gathered) → Fails x (m (inner e) s) → Fails x (stopping (m ∷ n ∷ []) k q e s)
two_fail_first OutOfMemory m n k q e s h = tt
two_fail_first (Fault c r) m n k q e s h = rw h refl

two_fail_second : (x : CheckError) (m n : Meaning) (k : CheckErrorKind) (q : Place) (e : Env) (s s1 : Gathered) (j : Kernel) → m (inner e) s ≡ done j s1 → Fails x (n (inner e) s1) → Fails x (stopping (m ∷ n ∷ []) k q e s)
two_fail_second OutOfMemory m n k q e s s1 j h g = tt
two_fail_second (Fault c r) m n k q e s s1 j h g = rw (h, g) refl

pub stopped_two_first : (x : CheckError) (k : CheckErrorKind) (q : Place) (e : Env) (s : Gathered) (fs : List Form) (a : Form) → 2 < length fs → a ≡ get_or fs 1 a → Fails x (walk (form_tree a) (inner e) s)
    → Fails x (stopping (meanings (form_parts (drop 1 (take 3 fs)))) k q e s)
stopped_two_first x k q e s [] a l y h = absurd (omega (arith, l))
stopped_two_first x k q e s (f1 ∷ []) a l y h = absurd (omega (arith, l))
stopped_two_first x k q e s (f1 ∷ f2 ∷ []) a l y h = absurd (omega (arith, l))
stopped_two_first x k q e s (f1 ∷ f2 ∷ f3 ∷ fs) a l y h = subst (λ z. Fails x (stopping (walk (form_tree z) ∷ walk (form_tree f3) ∷ []) k q e s)) y (two_fail_first x (walk (form_tree a)) (walk (form_tree f3)) k q e s h)

pub stopped_two_second : (x : CheckError) (k : CheckErrorKind) (q : Place) (e : Env) (s s1 : Gathered) (fs : List Form) (a b : Form) (js ks : List Kernel) → 2 < length fs → a ≡ get_or fs 1 a → b ≡ get_or fs 2 b
    → More e s a js ks s1 → Fails x (walk (form_tree b) (inner e) s1) → Fails x (stopping (meanings (form_parts (drop 1 (take 3 fs)))) k q e s)
stopped_two_second x k q e s s1 [] a b js ks l y z h g = absurd (omega (arith, l))
stopped_two_second x k q e s s1 (f1 ∷ []) a b js ks l y z h g = absurd (omega (arith, l))
stopped_two_second x k q e s s1 (f1 ∷ f2 ∷ []) a b js ks l y z h g = absurd (omega (arith, l))
stopped_two_second x k q e s s1 (f1 ∷ f2 ∷ f3 ∷ fs) a b js ks l y z h g =
    let A = more_is (walk (form_tree a) (inner e) s) js ks s1 h in
    subst (λ w. Fails x (stopping (walk (form_tree w) ∷ walk (form_tree f3) ∷ []) k q e s)) y
    (subst (λ w. Fails x (stopping (walk (form_tree a) ∷ walk (form_tree w) ∷ []) k q e s)) z (two_fail_second x (walk (form_tree a)) (walk (form_tree b)) k q e s s1 A.0 A.1 g))
