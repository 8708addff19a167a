-- What a walk adds to the go bodies: one for each go block of its text, in order of the text.
use Rattle.std.proofs.Common.{◌≡◌, ℕ, zero, suc, List, [], ◌∷◌, ◌++◌, ◌+◌, length, map, refl, sym, ap, ◌∙◌, subst, Option, Some, None, Bool, true, false, cond, slice_set, nat_le}
use Rattle.std.proofs.lemmas.List.{append-nil, append_assoc, map-append, length-map}
use Rattle.ca_value.specs.Tree.{Tree, nil}
use Rattle.ca_term.specs.declared.place.Place.{Place}
use Rattle.ca_term.specs.declared.head.Head.{Head}
use Rattle.ca_term.specs.Kernel.{Kernel, const, branch, bind, loop, seq, apply, empty, binding}
use Rattle.ca_term.specs.Program.{ProcedureView}
use Rattle.ca_term.specs.View.{kernels_of}
use Rattle.ca_forms.specs.declared.error.CheckErrorKind.{CheckErrorKind}
use Rattle.ca_forms.specs.Depth.{kernel_depth}
use Rattle.ca_forms.specs.Uses.{uses}
use Rattle.ca_forms.specs.Outcome.{Gathered, WalkOutcome, done, refused, after_walk, limited}
use Rattle.ca_forms.specs.Meaning.{Env, Meaning, Named, size, inner, behind_name, fail_with, constant_value, local_name, iff, unless, before_others, means_in_order, operation, block, unnamed, binds, behind, lets, loops, name_as, hide, numbered, bindings_joined, hiding}
use Rattle.ca_forms.specs.Go.{task, in_task, unmade, go_meaning}
use Rattle.ca_forms.specs.GoView.{ending}
use Rattle.ca_check.specs.Order.{end_place, block_place}
use Rattle.ca_check.proofs.Grew.{IfDone, if_after}
use Rattle.ca_forms.proofs.GoLaws.{task_is}
use Rattle.ca_check.proofs.Sound.{size_named}

abbrev pub places : List ProcedureView → List (Option Place)
places bs = map block_place bs

-- the go bodies of these blocks were added; nothing was too deep before
pub record Added (ps : List Place) (s s2 : Gathered) : Type 0 where
  pub deep : s.deep ≡ false
  pub bodies : places s2.bodies ≡ places s.bodies ++ map Some ps

-- unless a term is too deep
abbrev pub Adds : List Place → Gathered → Gathered → Type 0
Adds ps s s2 = s2.deep ≡ false → Added ps s s2

pub adds_none : (s : Gathered) → Adds [] s s
adds_none s e = record { deep = e; bodies = sym (append-nil (places s.bodies)) }

pub adds_then : (ps qs : List Place) (s s1 s2 : Gathered) → Adds ps s s1 → Adds qs s1 s2 → Adds (ps ++ qs) s s2
adds_then ps qs s s1 s2 f g e = record {
  deep = (f (g e).deep).deep;
  bodies = (g e).bodies ∙ ap (λ (l : List (Option Place)). l ++ map Some qs) (f (g e).deep).bodies ∙ append_assoc (places s.bodies) (map Some ps) (map Some qs)
      ∙ ap (λ (l : List (Option Place)). places s.bodies ++ l) (sym (map-append Some ps qs));
}

pub adds_same : (ps qs : List Place) (s s2 : Gathered) → ps ≡ qs → Adds ps s s2 → Adds qs s s2
adds_same ps qs s s2 e f = subst (λ l. Adds l s s2) e f

-- what is done from this state adds these
abbrev pub Leaves : {A : Type 0} → List Place → Gathered → WalkOutcome A → Type 0
Leaves ps s o = IfDone o (λ a s2. Adds ps s s2)

pub leaves_then : {A : Type 0} (ps qs : List Place) (s s1 : Gathered) (o : WalkOutcome A) → Adds ps s s1 → Leaves qs s1 o → Leaves (ps ++ qs) s o
leaves_then ps qs s s1 (done a s2) f g = adds_then ps qs s s1 s2 f g
leaves_then ps qs s s1 (refused e p) f g = tt

pub leaves_after : {A B : Type 0} (ps qs : List Place) (s : Gathered) (o : WalkOutcome A) (f : A → Gathered → WalkOutcome B)
    → Leaves ps s o → ((a : A) (s1 : Gathered) → Leaves qs s1 (f a s1)) → Leaves (ps ++ qs) s (after_walk o f)
leaves_after ps qs s (done a s1) f h g = leaves_then ps qs s s1 (f a s1) h (g a s1)
leaves_after ps qs s (refused e p) f h g = tt

pub leaves_same : {A : Type 0} (ps qs : List Place) (s : Gathered) (o : WalkOutcome A) → ps ≡ qs → Leaves ps s o → Leaves qs s o
leaves_same ps qs s o e f = subst (λ l. Leaves l s o) e f

-- where the rest adds none
pub leaves_last : {A B : Type 0} (ps : List Place) (s : Gathered) (o : WalkOutcome A) (f : A → Gathered → WalkOutcome B)
    → Leaves ps s o → ((a : A) (s1 : Gathered) → Leaves [] s1 (f a s1)) → Leaves ps s (after_walk o f)
leaves_last ps s o f h g = leaves_same (ps ++ []) ps s (after_walk o f) (append-nil ps) (leaves_after ps [] s o f h g)

pub leaves_limited : (t : Kernel) (s : Gathered) → Leaves [] s (limited t s)
leaves_limited t s = by (nat_le (kernel_depth t) 400) where
  by : (b : Bool) → Leaves [] s (cond b (done t s) (done (const nil) (record s { deep = true })))
  by true = adds_none s
  by false = λ e. cc

-- a form whose go blocks these are
abbrev pub Ordered : List Place → Meaning → Type 0
Ordered ps m = (env : Env) (s : Gathered) → Leaves ps s (m env s)

pub ordered_same : (ps qs : List Place) (m : Meaning) → ps ≡ qs → Ordered ps m → Ordered qs m
ordered_same ps qs m e f = subst (λ l. Ordered l m) e f

pub ordered_constant : (v : Tree) → Ordered [] (constant_value v)
ordered_constant v env s = adds_none s

pub ordered_local : (n : ℕ) → Ordered [] (local_name n)
ordered_local n env s = adds_none s

pub ordered_fail : (ps : List Place) (e : CheckErrorKind) (p : Place) → Ordered ps (fail_with e p)
ordered_fail ps e p env s = tt

pub ordered_cond : (ps : List Place) (b : Bool) (x y : Meaning) → Ordered ps x → Ordered ps y → Ordered ps (cond b x y)
ordered_cond ps true x y f g = f
ordered_cond ps false x y f g = g

pub ordered_iff : (ps qs rs : List Place) (c a b : Meaning) → Ordered ps c → Ordered qs a → Ordered rs b → Ordered (ps ++ (qs ++ (rs ++ []))) (iff c a b)
ordered_iff ps qs rs c a b f g h env s = leaves_after ps (qs ++ (rs ++ [])) s (c (inner env) s) _ (f (inner env) s) (λ t s1.
    leaves_after qs (rs ++ []) s1 (a env s1) _ (g env s1) (λ u s2.
    leaves_after rs [] s2 (b env s2) _ (h env s2) (λ v s3. leaves_limited (branch t u v) s3)))

pub ordered_unless : (ps qs rs : List Place) (c a b : Meaning) → Ordered ps c → Ordered qs a → Ordered rs b → Ordered (ps ++ (qs ++ (rs ++ []))) (unless c a b)
ordered_unless ps qs rs c a b f g h env s = leaves_after ps (qs ++ (rs ++ [])) s (c (inner env) s) _ (f (inner env) s) (λ t s1.
    leaves_after qs (rs ++ []) s1 (a env s1) _ (g env s1) (λ u s2.
    leaves_after rs [] s2 (b env s2) _ (h env s2) (λ v s3. leaves_limited (branch t v u) s3)))

-- the go blocks of a list of texts
abbrev pub total : List (List Place) → List Place
total [] = []
total (ps ∷ pss) = ps ++ total pss

pub total_append : (pss qss : List (List Place)) → total (pss ++ qss) ≡ total pss ++ total qss
total_append [] qss = refl
total_append (ps ∷ pss) qss = ap (λ l. ps ++ l) (total_append pss qss) ∙ sym (append_assoc ps (total pss) (total qss))

abbrev pub AllOrdered : List (List Place) → List Meaning → Type 0
AllOrdered [] [] = Unit {0}
AllOrdered [] (m ∷ ms) = ⊥
AllOrdered (ps ∷ pss) [] = ⊥
AllOrdered (ps ∷ pss) (m ∷ ms) = Ordered ps m × AllOrdered pss ms

pub all_append : (pss qss : List (List Place)) (ms ks : List Meaning) → AllOrdered pss ms → AllOrdered qss ks → AllOrdered (pss ++ qss) (ms ++ ks)
all_append [] qss [] ks f g = g
all_append [] qss (m ∷ ms) ks f g = absurd f
all_append (ps ∷ pss) qss [] ks f g = absurd f
all_append (ps ∷ pss) qss (m ∷ ms) ks f g = (f.0, all_append pss qss ms ks f.1 g)

pub ordered_in_order : (pss : List (List Place)) (ms : List Meaning) → AllOrdered pss ms → (env : Env) (s : Gathered) → Leaves (total pss) s (means_in_order ms env s)
ordered_in_order [] [] f env s = adds_none s
ordered_in_order [] (m ∷ ms) f env s = absurd f
ordered_in_order (ps ∷ pss) [] f env s = absurd f
ordered_in_order (ps ∷ pss) (m ∷ ms) f env s = leaves_after ps (total pss) s (m (before_others (length ms) env) s) _ (f.0 (before_others (length ms) env) s) (λ t s1.
    leaves_last (total pss) s1 (means_in_order ms env s1) _ (ordered_in_order pss ms f.1 env s1) (λ ts s2. adds_none s2))

pub ordered_operation : (pss : List (List Place)) (h : Head) (ms : List Meaning) (p : Place) → AllOrdered pss ms → Ordered (total pss) (operation h ms p)
ordered_operation pss h ms p f env s = leaves_last (total pss) s (means_in_order ms (inner env) s) _ (ordered_in_order pss ms f (inner env) s) (λ ts s2. leaves_limited (apply h ts p) s2)

pub ordered_block : (pss : List (List Place)) (ms : List Meaning) → AllOrdered pss ms → Ordered (total pss) (block ms)
ordered_block [] [] f env s = adds_none s
ordered_block [] (m ∷ ms) f env s = absurd f
ordered_block (ps ∷ pss) [] f env s = absurd f
ordered_block (ps ∷ pss) (m ∷ ms) f env s =
    leaves_last (total (ps ∷ pss)) s (means_in_order (m ∷ ms) env s) _ (ordered_in_order (ps ∷ pss) (m ∷ ms) f env s) (λ ts s2. leaves_limited (seq ts) s2)

pub ordered_body : (ps : List Place) (m : Meaning) → Ordered ps m → Ordered ps (block (m ∷ []))
ordered_body ps m f = ordered_same (ps ++ []) ps (block (m ∷ [])) (append-nil ps) (ordered_block (ps ∷ []) (m ∷ []) (f, tt))

-- bindings in order
abbrev pub NamedOrdered : List (List Place) → List Named → Type 0
NamedOrdered [] [] = Unit {0}
NamedOrdered [] (b ∷ bs) = ⊥
NamedOrdered (ps ∷ pss) [] = ⊥
NamedOrdered (ps ∷ pss) (b ∷ bs) = Ordered ps b.means × NamedOrdered pss bs

pub named_append : (pss qss : List (List Place)) (bs cs : List Named) → NamedOrdered pss bs → NamedOrdered qss cs → NamedOrdered (pss ++ qss) (bs ++ cs)
named_append [] qss [] cs f g = g
named_append [] qss (b ∷ bs) cs f g = absurd f
named_append (ps ∷ pss) qss [] cs f g = absurd f
named_append (ps ∷ pss) qss (b ∷ bs) cs f g = (f.0, named_append pss qss bs cs f.1 g)

pub ordered_binds : (pss : List (List Place)) (bs : List Named) → NamedOrdered pss bs → (env : Env) (s : Gathered) → Leaves (total pss) s (binds bs env s)
ordered_binds [] [] f env s = adds_none s
ordered_binds [] (b ∷ bs) f env s = absurd f
ordered_binds (ps ∷ pss) [] f env s = absurd f
ordered_binds (ps ∷ pss) (b ∷ bs) f env s = leaves_after ps (total pss) s (b.means (inner env) s) _ (f.0 (inner env) s) (λ t s1.
    leaves_last (total pss) s1 (binds bs (behind_name b.name env) s1) _ (ordered_binds pss bs f.1 (behind_name b.name env) s1) (λ ts s2. adds_none s2))

pub ordered_lets : (pss : List (List Place)) (ps : List Place) (bs : List Named) (body : Meaning) → NamedOrdered pss bs → Ordered ps body → Ordered (total pss ++ ps) (lets bs body)
ordered_lets pss ps bs body f g env s = leaves_after (total pss) ps s (binds bs env s) _ (ordered_binds pss bs f env s) (λ ts s1.
    leaves_last ps s1 (body (behind bs env) s1) _ (g (behind bs env) s1) (λ u s2. leaves_limited (bind ts u) s2))

pub ordered_loops : (pss : List (List Place)) (ps : List Place) (bs : List Named) (body : Meaning) → NamedOrdered pss bs → Ordered ps body → Ordered (total pss ++ ps) (loops bs body)
ordered_loops pss ps bs body f g env s = leaves_after (total pss) ps s (binds bs env s) _ (ordered_binds pss bs f env s) (λ ts s1.
    leaves_last ps s1 (body (record (behind bs env) { target = Some (length bs) }) s1) _ (g (record (behind bs env) { target = Some (length bs) }) s1) (λ u s2. leaves_limited (loop [] ts u) s2))

pub ordered_name_as : (ps qs : List Place) (x : List ℕ) (e body : Meaning) → Ordered ps e → Ordered qs body → Ordered (ps ++ qs) (name_as x e body)
ordered_name_as ps qs x e body f g = ordered_same ((ps ++ []) ++ qs) (ps ++ qs) (name_as x e body) (ap (λ l. l ++ qs) (append-nil ps)) (ordered_lets (ps ∷ []) qs (record { name = x; means = e } ∷ []) body (f, tt) g)

pub ordered_hide : (ps qs : List Place) (e : Meaning) (k : ℕ → Meaning) → Ordered ps e → ((h : ℕ) → Ordered qs (k h)) → Ordered (ps ++ qs) (hide e k)
ordered_hide ps qs e k f g env s = ordered_name_as ps qs [] e (block (k (size env) ∷ [])) f (ordered_body qs (k (size env)) (g (size env))) env s

-- operands under hidden names
pub unnamed_ordered : (pss : List (List Place)) (ms : List Meaning) → AllOrdered pss ms → NamedOrdered pss (map unnamed ms)
unnamed_ordered [] [] f = tt
unnamed_ordered [] (m ∷ ms) f = absurd f
unnamed_ordered (ps ∷ pss) [] f = absurd f
unnamed_ordered (ps ∷ pss) (m ∷ ms) f = (f.0, unnamed_ordered pss ms f.1)

pub ordered_hiding : (pss : List (List Place)) (ms : List Meaning) (more body : ℕ → List Kernel) → AllOrdered pss ms → Ordered (total pss) (hiding ms more body)
ordered_hiding pss ms more body f env s = leaves_last (total pss) s (binds (map unnamed ms) env s) _ (ordered_binds pss (map unnamed ms) (unnamed_ordered pss ms f) env s)
    (λ bs s2. leaves_limited (bind (bindings_joined bs (numbered (size env + length ms) (more (size env)))) (seq (kernels_of (body (size env))))) s2)

-- the go block
pub map_set : (bs : List ProcedureView) (n : ℕ) (b : ProcedureView) → places (slice_set bs n b) ≡ slice_set (places bs) n (block_place b)
map_set [] n b = refl
map_set (x ∷ bs) zero b = refl
map_set (x ∷ bs) (suc n) b = ap (λ l. block_place x ∷ l) (map_set bs n b)

pub set_behind : (xs : List (Option Place)) (u : Option Place) (ys : List (Option Place)) (v : Option Place) → slice_set (xs ++ u ∷ ys) (length xs) v ≡ xs ++ v ∷ ys
set_behind [] u ys v = refl
set_behind (x ∷ xs) u ys v = ap (λ l. x ∷ l) (set_behind xs u ys v)

pub go_set : (ps : List Place) (p : Place) (s s2 : Gathered) (b : ProcedureView) → places s2.bodies ≡ places (s.bodies ++ unmade ∷ []) ++ map Some ps → block_place b ≡ Some p
    → places (slice_set s2.bodies (length s.bodies) b) ≡ places s.bodies ++ map Some (p ∷ ps)
go_set ps p s s2 b e h = map_set s2.bodies (length s.bodies) b
    ∙ ap (λ l. slice_set l (length s.bodies) (block_place b)) (e ∙ ap (λ l. l ++ map Some ps) (map-append block_place s.bodies (unmade ∷ [])) ∙ append_assoc (places s.bodies) (None ∷ []) (map Some ps))
    ∙ ap (λ n. slice_set (places s.bodies ++ None ∷ map Some ps) n (block_place b)) (sym (length-map s.bodies block_place))
    ∙ set_behind (places s.bodies) None (map Some ps) (block_place b)
    ∙ ap (λ o. places s.bodies ++ o ∷ map Some ps) h

-- a task's text ends at the place of its block
pub task_ordered : (ps : List Place) (p : Place) (r : ℕ) (body : Meaning) (env : Env) (s : Gathered) → size env ≡ suc r → Ordered ps body
    → IfDone (task body r p env s) (λ t s2. s2.deep ≡ false → Added ps s s2 × (end_place t ≡ Some p))
task_ordered ps p r body env s e f = found (body (inner env) s) refl (f (inner env) s) where
  Ends : WalkOutcome Kernel → Type 0
  Ends o = IfDone o (λ t s2. s2.deep ≡ false → Added ps s s2 × (end_place t ≡ Some p))

  cut : (t : Kernel) (s2 : Gathered) → Adds ps s s2 → Ends (limited (bind (binding (suc r) t empty) (ending r p)) s2)
  cut t s2 g = at (nat_le (kernel_depth (bind (binding (suc r) t empty) (ending r p))) 400) where
    at : (b : Bool) → Ends (cond b (done (bind (binding (suc r) t empty) (ending r p)) s2) (done (const nil) (record s2 { deep = true })))
    at true = λ d. (g d, refl)
    at false = λ d. cc

  stops : (x : CheckErrorKind) (q : Place) → body (inner env) s ≡ refused x q → task body r p env s ≡ refused x q
  stops x q h = rw h refl

  found : (o : WalkOutcome Kernel) → body (inner env) s ≡ o → Leaves ps s o → Ends (task body r p env s)
  found (done t s2) h k = subst Ends (sym (task_is body r p env s s2 t e h)) (cut t s2 k)
  found (refused x q) h k = subst Ends (sym (stops x q h)) tt

pub ordered_go : (ps : List Place) (p : Place) (body : Meaning) → Ordered ps body → Ordered (p ∷ ps) (go_meaning body p)
ordered_go ps p body f env s = if_after (task body (size env) p (in_task env) (record s { bodies = s.bodies ++ unmade ∷ [] })) _ _ _
    (task_ordered ps p (size env) body (in_task env) (record s { bodies = s.bodies ++ unmade ∷ [] }) (size_named [] env) f)
    (λ t s2 x e. record {
      deep = (x e).0.deep;
      bodies = go_set ps p s s2 (record { parameters = uses (size env) t [] ++ size env ∷ []; body = t }) (x e).0.bodies (x e).1;
    })
