-- The row of a pipeline: its operands under hidden names, the function judged before.
use Rattle.std.proofs.Common.{◌≡◌, ℕ, ◌+◌, ◌≤◌, ◌<◌, List, [], ◌∷◌, ◌++◌, length, map, drop, take, get_or, refl, sym, ap, ◌∙◌, arith, Some, None, Result, Ok, Err, OnOk, ◌⊎◌, inl, inr, nat_eq, append_assoc}
use Rattle.std.proofs.Math.Seq.{take-append_seam}
use Rattle.ca_value.specs.declared.builtin.Builtin.TheVariants.{WorkerCount}
use Rattle.ca_term.specs.declared.head.Head.TheVariants.{Builtin}
use Rattle.ca_term.specs.declared.head.MakeKind.{MakeKind}
use Rattle.ca_term.specs.declared.place.Place.{Place}
use Rattle.ca_term.specs.declared.term.Term.{Term}
use Rattle.ca_term.specs.Kernel.{Kernel, var, apply, none, item}
use Rattle.ca_term.specs.View.{kernels, kernels_of}
use Rattle.ca_reader.specs.declared.form.Form.{Form}
use Rattle.ca_reader.specs.View.{form_tree}
use Rattle.ca_forms.specs.declared.error.CheckError.{CheckError}
use Rattle.ca_forms.specs.declared.error.CheckError.TheVariants.{Fault, OutOfMemory}
use Rattle.ca_forms.specs.declared.error.CheckErrorKind.TheVariants.{BadForm}
use Rattle.ca_forms.specs.Outcome.{Gathered, done, refused, limited}
use Rattle.ca_forms.specs.Meaning.{Env, Meaning, size, inner, binds, unnamed, numbered, hiding}
use Rattle.ca_forms.specs.Binders.{Pair}
use Rattle.ca_forms.specs.Plain.{meanings}
use Rattle.ca_forms.specs.Judged.{bound_names}
use Rattle.ca_term.specs.declared.head.SystemTask.{SystemTask}
use Rattle.ca_term.specs.declared.head.PlainFunction.{PlainFunction}
use Rattle.ca_term.specs.declared.head.Transform.{Transform}
use Rattle.ca_reader.specs.Form.{FormTree, form_place}
use Rattle.ca_forms.specs.declared.error.CheckErrorKind.{CheckErrorKind}
use Rattle.ca_forms.specs.Names.{applied, wrong, given}
use Rattle.ca_forms.specs.Channels.{yes, spawn_call, make_call, whole_number, repeated, stopping, pipeline_of, pipeline_over, workers}
use Rattle.ca_forms.specs.Planned.{and_yes, and_true, hidden_let, pipeline_row, pipeline_by, function_within}
use Rattle.ca_forms.specs.Walk.{walk, within}
use Rattle.ca_forms.specs.WalkView.{form_parts, terms_of, Fails}
use Rattle.ca_forms.proofs.BindLaws.{at}
use Rattle.ca_check.proofs.HideLaws.{Hides, hiding_done, hiding_fails, hides_more, hides_yes, first_fails, second_fails, yes_fails, take_all, More, more_is, kernels_listed}

-- a pipeline
pub pipeline_off : (xf : Transform) (p : Place) (e : Env) (s : Gathered) (fs : List Form) → (length fs < 5) ⊎ (6 < length fs) → pipeline_row xf p (form_parts (drop 1 fs)) e s ≡ refused BadForm p
pipeline_off xf p e s [] h = refl
pipeline_off xf p e s (a ∷ []) h = refl
pipeline_off xf p e s (a ∷ b ∷ []) h = refl
pipeline_off xf p e s (a ∷ b ∷ c ∷ []) h = refl
pipeline_off xf p e s (a ∷ b ∷ c ∷ d ∷ []) h = refl
pipeline_off xf p e s (a ∷ b ∷ c ∷ d ∷ f ∷ []) h = absurd (elim h [ inl l ↦ omega (arith, l) | inr r ↦ omega (arith, r) ])
pipeline_off xf p e s (a ∷ b ∷ c ∷ d ∷ f ∷ g ∷ []) h = absurd (elim h [ inl l ↦ omega (arith, l) | inr r ↦ omega (arith, r) ])
pipeline_off xf p e s (a ∷ b ∷ c ∷ d ∷ f ∷ g ∷ k ∷ fs) h = refl

function_on : (xf : Transform) (qs : List Pair) (ft : FormTree) (n t f z : Meaning) (p : Place) (e : Env) (s : Gathered) → Some ft ≡ function_within qs
    → pipeline_of (Some xf) qs n t f z p e s ≡ pipeline_over xf (given ft e) (form_place ft) n t f z p e s
function_on xf [] ft n t f z p e s h = absurd (cc)
function_on xf (a ∷ []) ft n t f z p e s h = absurd (cc)
function_on xf (a ∷ b ∷ []) ft n t f z p e s h =
    let same : b.form ≡ ft = cc in
    ap (λ k. pipeline_over xf (given k e) (form_place k) n t f z p e s) same
function_on xf (a ∷ b ∷ c ∷ qs) ft n t f z p e s h = absurd (cc)

function_off : (xf : Transform) (qs : List Pair) (n t f z : Meaning) (p : Place) (e : Env) (s : Gathered) → None ≡ function_within qs → pipeline_of (Some xf) qs n t f z p e s ≡ refused BadForm p
function_off xf [] n t f z p e s h = refl
function_off xf (a ∷ []) n t f z p e s h = refl
function_off xf (a ∷ b ∷ []) n t f z p e s h = absurd (cc)
function_off xf (a ∷ b ∷ c ∷ qs) n t f z p e s h = refl

module _ (xf : Transform) (p : Place) (e : Env) (s : Gathered) where
  pub pipeline_on : (fs : List Form) (x : Form) (ft : FormTree) → 5 ≤ length fs → length fs ≤ 6 → x ≡ get_or fs 3 x → Some ft ≡ function_within (within (form_tree x))
      → pipeline_row xf p (form_parts (drop 1 fs)) e s ≡ pipeline_by xf (given ft e) (form_place ft) p (form_parts (drop 1 fs)) e s
  pipeline_on [] x ft l m y h = absurd (omega (arith, l))
  pipeline_on (a ∷ []) x ft l m y h = absurd (omega (arith, l))
  pipeline_on (a ∷ b ∷ []) x ft l m y h = absurd (omega (arith, l))
  pipeline_on (a ∷ b ∷ c ∷ []) x ft l m y h = absurd (omega (arith, l))
  pipeline_on (a ∷ b ∷ c ∷ d ∷ []) x ft l m y h = absurd (omega (arith, l))
  pipeline_on (a ∷ b ∷ c ∷ d ∷ f ∷ []) x ft l m y h = function_on xf (within (form_tree d)) ft (walk (form_tree b)) (walk (form_tree c)) (walk (form_tree f)) yes p e s (h ∙ ap (λ k. function_within (within (form_tree k))) y)
  pipeline_on (a ∷ b ∷ c ∷ d ∷ f ∷ g ∷ []) x ft l m y h = function_on xf (within (form_tree d)) ft (walk (form_tree b)) (walk (form_tree c)) (walk (form_tree f)) (walk (form_tree g)) p e s (h ∙ ap (λ k. function_within (within (form_tree k))) y)
  pipeline_on (a ∷ b ∷ c ∷ d ∷ f ∷ g ∷ k ∷ fs) x ft l m y h = absurd (omega (arith, m))

  pub pipeline_none : (fs : List Form) (x : Form) → 5 ≤ length fs → length fs ≤ 6 → x ≡ get_or fs 3 x → None ≡ function_within (within (form_tree x)) → pipeline_row xf p (form_parts (drop 1 fs)) e s ≡ refused BadForm p
  pipeline_none [] x l m y h = absurd (omega (arith, l))
  pipeline_none (a ∷ []) x l m y h = absurd (omega (arith, l))
  pipeline_none (a ∷ b ∷ []) x l m y h = absurd (omega (arith, l))
  pipeline_none (a ∷ b ∷ c ∷ []) x l m y h = absurd (omega (arith, l))
  pipeline_none (a ∷ b ∷ c ∷ d ∷ []) x l m y h = absurd (omega (arith, l))
  pipeline_none (a ∷ b ∷ c ∷ d ∷ f ∷ []) x l m y h = function_off xf (within (form_tree d)) (walk (form_tree b)) (walk (form_tree c)) (walk (form_tree f)) yes p e s (h ∙ ap (λ k. function_within (within (form_tree k))) y)
  pipeline_none (a ∷ b ∷ c ∷ d ∷ f ∷ g ∷ []) x l m y h = function_off xf (within (form_tree d)) (walk (form_tree b)) (walk (form_tree c)) (walk (form_tree f)) (walk (form_tree g)) p e s (h ∙ ap (λ k. function_within (within (form_tree k))) y)
  pipeline_none (a ∷ b ∷ c ∷ d ∷ f ∷ g ∷ k ∷ fs) x l m y h = absurd (omega (arith, m))

  pub by_wrong : (fs : List Form) (k : CheckErrorKind) (q r : Place) → 5 ≤ length fs → length fs ≤ 6 → q ≡ r
      → pipeline_by xf (wrong k) r p (form_parts (drop 1 fs)) e s ≡ stopping (meanings (form_parts (drop 1 (take 3 fs)))) k q e s
  by_wrong [] k q r l m y = absurd (omega (arith, l))
  by_wrong (a ∷ []) k q r l m y = absurd (omega (arith, l))
  by_wrong (a ∷ b ∷ []) k q r l m y = absurd (omega (arith, l))
  by_wrong (a ∷ b ∷ c ∷ []) k q r l m y = absurd (omega (arith, l))
  by_wrong (a ∷ b ∷ c ∷ d ∷ []) k q r l m y = absurd (omega (arith, l))
  by_wrong (a ∷ b ∷ c ∷ d ∷ f ∷ []) k q r l m y = ap (λ z. stopping (walk (form_tree b) ∷ walk (form_tree c) ∷ []) k z e s) (sym y)
  by_wrong (a ∷ b ∷ c ∷ d ∷ f ∷ g ∷ []) k q r l m y = ap (λ z. stopping (walk (form_tree b) ∷ walk (form_tree c) ∷ []) k z e s) (sym y)
  by_wrong (a ∷ b ∷ c ∷ d ∷ f ∷ g ∷ n ∷ fs) k q r l m y = absurd (omega (arith, m))

  pub by_any : (fs : List Form) (g : PlainFunction) (ks : List Kernel) (q r : Place) → 5 ≤ length fs → length fs ≤ 6
      → pipeline_by xf (applied g ks) q p (form_parts (drop 1 fs)) e s ≡ pipeline_by xf (applied g ks) r p (form_parts (drop 1 fs)) e s
  by_any [] g ks q r l m = refl
  by_any (a ∷ []) g ks q r l m = refl
  by_any (a ∷ b ∷ []) g ks q r l m = refl
  by_any (a ∷ b ∷ c ∷ []) g ks q r l m = refl
  by_any (a ∷ b ∷ c ∷ d ∷ []) g ks q r l m = refl
  by_any (a ∷ b ∷ c ∷ d ∷ f ∷ []) g ks q r l m = refl
  by_any (a ∷ b ∷ c ∷ d ∷ f ∷ h ∷ []) g ks q r l m = refl
  by_any (a ∷ b ∷ c ∷ d ∷ f ∷ h ∷ n ∷ fs) g ks q r l m = refl

-- the count of workers is what the first part gives, or the count of processors
worker_first : (m : Meaning) (p : Place) (e : Env) (s s1 s2 : Gathered) (j k : Kernel) → m (inner e) s ≡ done j s1 → limited (apply (Builtin WorkerCount) (item j none) p) s1 ≡ done k s2
    → binds (unnamed (workers m p) ∷ []) e s ≡ done (numbered (size e) (k ∷ [])) s2
worker_first m p e s s1 s2 j k h g = rw (h, g) refl

pub worker_done : (p : Place) (e : Env) (sc : List (List ℕ)) (s s1 s2 : Gathered) (a : Form) (ts : List Term) (k : Kernel) → More (at e sc) s a [] (terms_of ts) s1 → limited (apply (Builtin WorkerCount) (kernels ts) p) s1 ≡ done k s2
    → Hides e sc s (workers (walk (form_tree a)) p ∷ []) (k ∷ []) s2
worker_done p e sc s s1 s2 a ts k h g =
    let A = more_is (walk (form_tree a) (inner (at e sc)) s) [] (terms_of ts) s1 h in
    worker_first (walk (form_tree a)) p (at e sc) s s1 s2 A.0 k A.1
    (ap (λ us. limited (apply (Builtin WorkerCount) us p) s1) (sym (sym (kernels_listed ts) ∙ ap kernels_of A.2)) ∙ g)

worker_fails : (x : CheckError) (m : Meaning) (p : Place) (e : Env) (s : Gathered) → Fails x (m (inner e) s) → Fails x (binds (unnamed (workers m p) ∷ []) e s)
worker_fails OutOfMemory m p e s h = tt
worker_fails (Fault q r) m p e s h = rw h refl

-- the operands: the first is the count of workers, and the transform is none
abbrev piped_operands : Place → List Form → List Meaning
piped_operands p (f ∷ a ∷ b ∷ x ∷ ds) = workers (walk (form_tree a)) p ∷ walk (form_tree b) ∷ meanings (form_parts ds)
piped_operands p fs = []

abbrev target_of : List Form → List Meaning
target_of fs = meanings (form_parts (drop 2 (take 3 fs)))

abbrev source_of : List Form → List Meaning
source_of fs = meanings (form_parts (drop 4 (take (length fs) fs)))

operands_split : (p : Place) (fs : List Form) (a : Form) → 5 ≤ length fs → a ≡ get_or fs 1 a → piped_operands p fs ≡ (workers (walk (form_tree a)) p ∷ []) ++ (target_of fs ++ source_of fs)
operands_split p [] a l x = absurd (omega (arith, l))
operands_split p (f1 ∷ []) a l x = absurd (omega (arith, l))
operands_split p (f1 ∷ f2 ∷ []) a l x = absurd (omega (arith, l))
operands_split p (f1 ∷ f2 ∷ f3 ∷ []) a l x = absurd (omega (arith, l))
operands_split p (f1 ∷ f2 ∷ f3 ∷ f4 ∷ fs) a l x = ap (λ z. workers (walk (form_tree z)) p ∷ walk (form_tree f3) ∷ meanings (form_parts fs)) (sym x)
    ∙ ap (λ gs. workers (walk (form_tree a)) p ∷ walk (form_tree f3) ∷ meanings (form_parts gs)) (sym (take_all fs))

-- what stands behind the operands
abbrev pub pipes : Place → ℕ → List Kernel
pipes p n = make_call MakeKind.Fixed (var n ∷ []) p ∷ make_call MakeKind.Fixed (var n ∷ []) p ∷ make_call MakeKind.Fixed (whole_number 1 ∷ []) p ∷ []

abbrev pub tasks : Transform → PlainFunction → List Kernel → Place → ℕ → List Kernel
tasks xf g js p n = repeated n (n + 7) (spawn_call (SystemTask.Job xf g) (var (n + 4) ∷ js) p) p
    ∷ spawn_call SystemTask.Feed (var (n + 2) ∷ var (n + 4) ∷ var (n + 5) ∷ []) p
    ∷ spawn_call SystemTask.Collect (var (n + 5) ∷ var (n + 1) ∷ var (n + 3) ∷ var (n + 6) ∷ []) p
    ∷ var (n + 6) ∷ []

module _ (xf : Transform) (g : PlainFunction) (js : List Kernel) (q p : Place) where
  piped_row : (e : Env) (fs : List Form) (s : Gathered) → 5 ≤ length fs → length fs ≤ 6
      → pipeline_by xf (applied g js) q p (form_parts (drop 1 fs)) e s ≡ hiding (and_yes (nat_eq (length fs) 5) (piped_operands p fs)) (pipes p) (tasks xf g js p) e s
  piped_row e [] s l m = absurd (omega (arith, l))
  piped_row e (a ∷ []) s l m = absurd (omega (arith, l))
  piped_row e (a ∷ b ∷ []) s l m = absurd (omega (arith, l))
  piped_row e (a ∷ b ∷ c ∷ []) s l m = absurd (omega (arith, l))
  piped_row e (a ∷ b ∷ c ∷ d ∷ []) s l m = absurd (omega (arith, l))
  piped_row e (a ∷ b ∷ c ∷ d ∷ f ∷ []) s l m = refl
  piped_row e (a ∷ b ∷ c ∷ d ∷ f ∷ h ∷ []) s l m = refl
  piped_row e (a ∷ b ∷ c ∷ d ∷ f ∷ h ∷ n ∷ fs) s l m = absurd (omega (arith, m))

  module _ (e : Env) (sc : List (List ℕ)) (fs : List Form) (a : Form) (s : Gathered) (l : 5 ≤ length fs) (m : length fs ≤ 6) (x : a ≡ get_or fs 1 a) where
    pub piped_done : (sc1 sc2 : List (List ℕ)) (s1 s2 s3 : Gathered) (w : Kernel) (ts us : List Kernel)
        → Hides e sc s (workers (walk (form_tree a)) p ∷ []) (w ∷ []) s1 → sc1 ≡ sc ++ [] ∷ []
        → Hides e sc1 s1 (target_of fs) ts s2 → sc2 ≡ sc1 ++ bound_names (map unnamed (target_of fs)) → Hides e sc2 s2 (source_of fs) us s3
        → pipeline_by xf (applied g js) q p (form_parts (drop 1 fs)) (at e sc) s ≡ hidden_let (length sc) (and_true (nat_eq (length fs) 5) (w ∷ (ts ++ us))) (pipes p (length sc)) (tasks xf g js p (length sc)) s3
    piped_done sc1 sc2 s1 s2 s3 w ts us h c i d k =
        let whole : Hides e sc s (piped_operands p fs) (w ∷ (ts ++ us)) s3
        = ap (λ ms. binds (map unnamed ms) (at e sc) s) (operands_split p fs a l x)
        ∙ hides_more e sc sc1 s s1 s3 (workers (walk (form_tree a)) p ∷ []) (target_of fs ++ source_of fs) (w ∷ []) (ts ++ us) h c (hides_more e sc1 sc2 s1 s2 s3 (target_of fs) (source_of fs) ts us i d k) in
        piped_row (at e sc) fs s l m
        ∙ hiding_done e sc s s3 (and_yes (nat_eq (length fs) 5) (piped_operands p fs)) (and_true (nat_eq (length fs) 5) (w ∷ (ts ++ us))) (pipes p) (tasks xf g js p)
        (hides_yes (nat_eq (length fs) 5) e sc s s3 (piped_operands p fs) (w ∷ (ts ++ us)) whole)

    piped_fails : (y : CheckError) → Fails y (binds (map unnamed ((workers (walk (form_tree a)) p ∷ []) ++ (target_of fs ++ source_of fs))) (at e sc) s)
        → Fails y (pipeline_by xf (applied g js) q p (form_parts (drop 1 fs)) (at e sc) s)
    piped_fails OutOfMemory h = tt
    piped_fails (Fault k r) h = piped_row (at e sc) fs s l m
        ∙ hiding_fails (Fault k r) e sc s (and_yes (nat_eq (length fs) 5) (piped_operands p fs)) (pipes p) (tasks xf g js p)
        (yes_fails (Fault k r) (nat_eq (length fs) 5) e sc s (piped_operands p fs) (ap (λ ms. binds (map unnamed ms) (at e sc) s) (operands_split p fs a l x) ∙ h))

    pub count_fails : (y : CheckError) → Fails y (walk (form_tree a) (inner (at e sc)) s) → Fails y (pipeline_by xf (applied g js) q p (form_parts (drop 1 fs)) (at e sc) s)
    count_fails y h = piped_fails y (first_fails y e sc s (workers (walk (form_tree a)) p ∷ []) (target_of fs ++ source_of fs) (worker_fails y (walk (form_tree a)) p (at e sc) s h))

    pub target_fails : (y : CheckError) (sc1 : List (List ℕ)) (s1 : Gathered) (w : Kernel) → Hides e sc s (workers (walk (form_tree a)) p ∷ []) (w ∷ []) s1 → sc1 ≡ sc ++ [] ∷ []
        → Fails y (binds (map unnamed (target_of fs)) (at e sc1) s1) → Fails y (pipeline_by xf (applied g js) q p (form_parts (drop 1 fs)) (at e sc) s)
    target_fails y sc1 s1 w h c f = piped_fails y (second_fails y e sc sc1 s s1 (workers (walk (form_tree a)) p ∷ []) (target_of fs ++ source_of fs) (w ∷ []) h c (first_fails y e sc1 s1 (target_of fs) (source_of fs) f))

    pub source_fails : (y : CheckError) (sc1 sc2 : List (List ℕ)) (s1 s2 : Gathered) (w : Kernel) (ts : List Kernel) → Hides e sc s (workers (walk (form_tree a)) p ∷ []) (w ∷ []) s1 → sc1 ≡ sc ++ [] ∷ []
        → Hides e sc1 s1 (target_of fs) ts s2 → sc2 ≡ sc1 ++ bound_names (map unnamed (target_of fs)) → Fails y (binds (map unnamed (source_of fs)) (at e sc2) s2)
        → Fails y (pipeline_by xf (applied g js) q p (form_parts (drop 1 fs)) (at e sc) s)
    source_fails y sc1 sc2 s1 s2 w ts h c i d f = piped_fails y (second_fails y e sc sc1 s s1 (workers (walk (form_tree a)) p ∷ []) (target_of fs ++ source_of fs) (w ∷ []) h c
        (second_fails y e sc1 sc2 s1 s2 (target_of fs) (source_of fs) ts i d f))

-- the scope as it was, once names are left
pub left_again : (a b c d x y z : List (List ℕ)) → b ≡ a ++ x → c ≡ b ++ y → d ≡ c ++ z → take (length a) d ≡ a
left_again a b c d x y z e f g = ap (λ w. take (length a) w) (g ∙ ap (λ w. w ++ z) (f ∙ ap (λ w. w ++ y) e) ∙ append_assoc (a ++ x) y z ∙ append_assoc a x (y ++ z)) ∙ take-append_seam a (x ++ (y ++ z))

pub held : {A E : Type 0} (r : Result A E) (X : Type 0) → X → OnOk r X
held (Ok t) X h = h
held (Err x) X h = tt
