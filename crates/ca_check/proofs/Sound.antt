-- Each word of the expansion makes terms that stand well in their scope, of parts that do.
use Rattle.std.proofs.Common.{◌≡◌, inl, ℕ, zero, suc, ◌+◌, ◌<◌, ◌≤◌, List, [], ◌∷◌, ◌++◌, length, map, refl, sym, ap, ◌∙◌, subst, arith, Option, Some, None, Bool, true, false, cond, slice_set}
use Rattle.std.proofs.lemmas.List.{length-append, length-map, append_assoc}
use Rattle.ca_value.specs.Tree.{Tree, nil}
use Rattle.ca_value.specs.declared.builtin.Builtin.TheVariants.{IsNil}
use Rattle.ca_term.specs.declared.place.Place.{Place}
use Rattle.ca_term.specs.declared.head.Head.{Head}
use Rattle.ca_term.specs.declared.head.Head.TheVariants.{Recur, Builtin, Close, Post}
use Rattle.ca_term.specs.Kernel.{Kernel, Kernels, Bindings, var, branch, bind, loop, seq, apply, none, item, empty, binding}
use Rattle.ca_term.specs.Fits.{Takes, count_terms, count_bindings}
use Rattle.ca_term.specs.Program.{ProcedureView, IsProcedure}
use Rattle.ca_term.specs.View.{kernels_of}
use Rattle.ca_forms.specs.declared.error.CheckErrorKind.{CheckErrorKind}
use Rattle.ca_forms.specs.Uses.{uses}
use Rattle.ca_forms.specs.Outcome.{Gathered, WalkOutcome, after_walk, limited}
use Rattle.ca_forms.specs.Meaning.{Env, Signature, Meaning, Named, size, inner, behind_name, fail_with, constant_value, nothing, local_name, iff, unless, before_others, means_in_order, operation, block, unnamed, binds, behind, lets, loops, name_as, hide, numbered, bindings_joined, hiding}
use Rattle.ca_forms.specs.Go.{task, in_task, unmade, go_meaning}
use Rattle.ca_check.proofs.Well.{Rules, IsConstant, scalars_in, Suited, Well, WellTerms, WellInOrder, WellBindings, fits, source, anew, closed, Below, below_more, below_append, uses_only, uses_below, in_left, in_right}
use Rattle.ca_check.proofs.Places.{small}
use Rattle.ca_check.proofs.Grew.{Each, Agrees, agrees_unmade, agrees_at, set_between, IsRight, IsMade, Grew, stays, gives, behind_it, IfDone, if_after, if_limited}

-- what is known and said, and how many names of the main text the functions may use
pub record Ground : Type 0 where
  pub rules : Rules
  pub base : ℕ

-- the function of that number is known so
pub record IsSigned (k : Rules) (base : ℕ) (n : ℕ) (f : Signature) : Type 0 where
  pub takes : Takes k.known.functions n (f.arity + length f.hidden)
  pub below : Below base f.hidden
  pub plain : f.plain ≡ true → k.known.plain n ≡ true
  pub bare : f.plain ≡ true → f.hidden ≡ []

abbrev pub AreSigned : Rules → ℕ → ℕ → List Signature → Type 0
AreSigned k base n [] = Unit {0}
AreSigned k base n (f ∷ fs) = IsSigned k base n f × AreSigned k base (suc n) fs

-- at least n names are in scope, and the functions are known
abbrev pub Stands : Ground → ℕ → Env → Type 0
Stands g n env = (n ≤ size env) × (g.base ≤ size env) × AreSigned g.rules g.base 0 env.functions

-- what is made in this environment from this state stands well
abbrev pub Makes : Ground → Env → Gathered → WalkOutcome Kernel → Type 0
Makes g env s o = IfDone o (λ t s2. Grew g.rules s s2 (Well g.rules (size env) env.target t))

abbrev pub Sound : Ground → ℕ → Meaning → Type 0
Sound g n m = (env : Env) (s : Gathered) → Stands g n env → Makes g env s (m env s)

-- the same where a `recur` takes j values
abbrev pub Aimed : Ground → ℕ → ℕ → Meaning → Type 0
Aimed g n j m = (env : Env) (s : Gathered) → Stands g n env → env.target ≡ Some j → Makes g env s (m env s)

pub aimed : (g : Ground) (n j : ℕ) (m : Meaning) → Sound g n m → Aimed g n j m
aimed g n j m f env s st e = f env s st

pub weaken : (g : Ground) (n m : ℕ) (b : Meaning) → n ≤ m → Sound g n b → Sound g m b
weaken g n m b l f env s st = f env s (omega (arith, l, st.0), st.1, st.2)

pub weaken_aimed : (g : Ground) (n m j : ℕ) (b : Meaning) → n ≤ m → Aimed g n j b → Aimed g m j b
weaken_aimed g n m j b l f env s st e = f env s (omega (arith, l, st.0), st.1, st.2) e

pub sound_constant : (g : Ground) (n : ℕ) (v : Tree) → IsConstant g.rules.scalars v → Sound g n (constant_value v)
sound_constant g n v l env s st = stays g.rules s (IsConstant g.rules.scalars v) l

pub sound_local : (g : Ground) (n h : ℕ) → h < n → Sound g n (local_name h)
sound_local g n h l env s st = stays g.rules s (h < size env) (omega (arith, l, st.0))

-- a name of the main text
pub sound_low : (g : Ground) (n h : ℕ) → h < g.base → Sound g n (local_name h)
sound_low g n h l env s st = stays g.rules s (h < size env) (omega (arith, l, st.1))

pub sound_fail : (g : Ground) (n : ℕ) (e : CheckErrorKind) (p : Place) → Sound g n (fail_with e p)
sound_fail g n e p env s st = tt

pub sound_cond : (g : Ground) (n : ℕ) (b : Bool) (x y : Meaning) → Sound g n x → Sound g n y → Sound g n (cond b x y)
sound_cond g n true x y gx gy = gx
sound_cond g n false x y gx gy = gy

pub makes_limited : (g : Ground) (env : Env) (s s2 : Gathered) (t : Kernel) → Grew g.rules s s2 (Well g.rules (size env) env.target t) → Makes g env s (limited t s2)
makes_limited g env s s2 t x = if_limited g.rules (λ u. Well g.rules (size env) env.target u) s s2 t tt x

pub makes_iff : (g : Ground) (n : ℕ) (c a b : Meaning) (env : Env) (s : Gathered) → Stands g n env → Sound g n c
    → ((s : Gathered) → Makes g env s (a env s)) → ((s : Gathered) → Makes g env s (b env s)) → Makes g env s (iff c a b env s)
makes_iff g n c a b env s st gc ga gb =
    if_after (c (inner env) s) _ _ _ (gc (inner env) s st) (λ t s1 x.
    if_after (a env s1) _ _ _ (ga s1) (λ u s2 y.
    if_after (b env s2) _ _ _ (gb s2) (λ v s3 z.
    makes_limited g env s s3 (branch t u v) (gives g.rules s s3 _ _ (λ q. (q.0.0, q.0.1, q.1)) (behind_it g.rules s s2 s3 _ _ (behind_it g.rules s s1 s2 _ _ x y) z)))))

pub sound_iff : (g : Ground) (n : ℕ) (c a b : Meaning) → Sound g n c → Sound g n a → Sound g n b → Sound g n (iff c a b)
sound_iff g n c a b gc ga gb env s st = makes_iff g n c a b env s st gc (λ s. ga env s st) (λ s. gb env s st)

pub sound_unless : (g : Ground) (n : ℕ) (c a b : Meaning) → Sound g n c → Sound g n a → Sound g n b → Sound g n (unless c a b)
sound_unless g n c a b gc ga gb env s st =
    if_after (c (inner env) s) _ _ _ (gc (inner env) s st) (λ t s1 x.
    if_after (a env s1) _ _ _ (ga env s1 st) (λ u s2 y.
    if_after (b env s2) _ _ _ (gb env s2 st) (λ v s3 z.
    makes_limited g env s s3 (branch t v u) (gives g.rules s s3 _ _ (λ q. (q.0.0, q.1, q.0.1)) (behind_it g.rules s s2 s3 _ _ (behind_it g.rules s s1 s2 _ _ x y) z)))))

-- all of a list
abbrev pub AllSound : Ground → ℕ → List Meaning → Type 0
AllSound g n [] = Unit {0}
AllSound g n (m ∷ ms) = Sound g n m × AllSound g n ms

pub all_weaken : (g : Ground) (n m : ℕ) (ms : List Meaning) → n ≤ m → AllSound g n ms → AllSound g m ms
all_weaken g n m [] l f = tt
all_weaken g n m (b ∷ bs) l f = (weaken g n m b l f.0, all_weaken g n m bs l f.1)

pub all_append : (g : Ground) (n : ℕ) (ms ks : List Meaning) → AllSound g n ms → AllSound g n ks → AllSound g n (ms ++ ks)
all_append g n [] ks f h = h
all_append g n (m ∷ ms) ks f h = (f.0, all_append g n ms ks f.1 h)

pub stands_before : (g : Ground) (n i : ℕ) (env : Env) → Stands g n env → Stands g n (before_others i env)
stands_before g n zero env st = st
stands_before g n (suc i) env st = st

-- a term before so many others
pub first_well : (k : Rules) (env : Env) (i : ℕ) (ts : Kernels) (t : Kernel) → count_terms ts ≡ i
    → Well k (size (before_others i env)) (before_others i env).target t × WellInOrder k (size env) env.target ts → WellInOrder k (size env) env.target (item t ts)
first_well k env zero none t e w = w.0
first_well k env zero (item u us) t e w = absurd (omega (arith, e))
first_well k env (suc i) none t e w = absurd (omega (arith, e))
first_well k env (suc i) (item u us) t e w = w

-- terms in order, so many of them
abbrev pub MakesInOrder : Ground → Env → Gathered → ℕ → WalkOutcome Kernels → Type 0
MakesInOrder g env s i o = IfDone o (λ ts s2. (count_terms ts ≡ i) × Grew g.rules s s2 (WellInOrder g.rules (size env) env.target ts))

pub one_in_order : (g : Ground) (m : Meaning) (ms : List Meaning) (env : Env) (s : Gathered)
    → Makes g (before_others (length ms) env) s (m (before_others (length ms) env) s) → ((s : Gathered) → MakesInOrder g env s (length ms) (means_in_order ms env s))
    → MakesInOrder g env s (suc (length ms)) (means_in_order (m ∷ ms) env s)
one_in_order g m ms env s f h =
    if_after (m (before_others (length ms) env) s) _ _ _ f (λ t s1 x.
    if_after (means_in_order ms env s1) _ _ _ (h s1) (λ ts s2 y.
    (ap suc y.0, gives g.rules s s2 _ _ (λ q. first_well g.rules env (length ms) ts t y.0 q) (behind_it g.rules s s1 s2 _ _ x y.1))))

pub sound_in_order : (g : Ground) (n : ℕ) (ms : List Meaning) → AllSound g n ms → (env : Env) (s : Gathered) → Stands g n env → MakesInOrder g env s (length ms) (means_in_order ms env s)
sound_in_order g n [] f env s st = (refl, stays g.rules s (Unit {0}) tt)
sound_in_order g n (m ∷ ms) f env s st = one_in_order g m ms env s (f.0 (before_others (length ms) env) s (stands_before g n (length ms) env st))
    (λ s. sound_in_order g n ms f.1 env s st)

-- the last one where a `recur` takes j values
pub aimed_in_order : (g : Ground) (n j : ℕ) (ms : List Meaning) (m : Meaning) → AllSound g n ms → Aimed g n j m → (env : Env) (s : Gathered) → Stands g n env → env.target ≡ Some j
    → MakesInOrder g env s (length (ms ++ m ∷ [])) (means_in_order (ms ++ m ∷ []) env s)
aimed_in_order g n j [] m f h env s st e = one_in_order g m [] env s (h env s st e) (λ s. (refl, stays g.rules s (Unit {0}) tt))
aimed_in_order g n j (x ∷ xs) m f h env s st e = one_in_order g x (xs ++ m ∷ []) env s
    (f.0 (before_others (length (xs ++ m ∷ [])) env) s (stands_before g n (length (xs ++ m ∷ [])) env st)) (λ s. aimed_in_order g n j xs m f.1 h env s st e)

pub all_none : (k : Rules) (n : ℕ) (ts : Kernels) → WellInOrder k n None ts → WellTerms k n ts
all_none k n none w = tt
all_none k n (item t none) w = (w, tt)
all_none k n (item t (item u us)) w = (w.0, all_none k n (item u us) w.1)

pub makes_operation : (g : Ground) (n : ℕ) (h : Head) (ms : List Meaning) (p : Place) (env : Env) (s : Gathered) → Stands g n env → AllSound g n ms
    → Suited g.rules env.target h (length ms) → Makes g env s (operation h ms p env s)
makes_operation g n h ms p env s st f u =
    if_after (means_in_order ms (inner env) s) _ _ _ (sound_in_order g n ms f (inner env) s st) (λ ts s2 x.
    makes_limited g env s s2 (apply h ts p) (gives g.rules s s2 _ _
    (λ w. (subst (λ i. Suited g.rules env.target h i) (sym x.0) u, all_none g.rules (size env) ts w)) x.1))

pub sound_operation : (g : Ground) (n : ℕ) (h : Head) (ms : List Meaning) (p : Place) → AllSound g n ms
    → ((target : Option ℕ) → Suited g.rules target h (length ms)) → Sound g n (operation h ms p)
sound_operation g n h ms p f u env s st = makes_operation g n h ms p env s st f (u env.target)

pub aimed_recur : (g : Ground) (n : ℕ) (ms : List Meaning) (p : Place) → AllSound g n ms → Aimed g n (length ms) (operation Recur ms p)
aimed_recur g n ms p f env s st e = makes_operation g n Recur ms p env s st f e

pub makes_seq : (g : Ground) (env : Env) (s : Gathered) (i : ℕ) (o : WalkOutcome Kernels) → MakesInOrder g env s i o → Makes g env s (after_walk o (λ ts s. limited (seq ts) s))
makes_seq g env s i o h = if_after o _ _ _ h (λ ts s2 x. makes_limited g env s s2 (seq ts) x.1)

pub sound_block : (g : Ground) (n : ℕ) (ms : List Meaning) → AllSound g n ms → Sound g n (block ms)
sound_block g n [] f env s st = sound_constant g n nil tt env s st
sound_block g n (m ∷ ms) f env s st = makes_seq g env s (suc (length ms)) (means_in_order (m ∷ ms) env s) (sound_in_order g n (m ∷ ms) f env s st)

pub sound_body : (g : Ground) (n : ℕ) (m : Meaning) → Sound g n m → Sound g n (block (m ∷ []))
sound_body g n m f = sound_block g n (m ∷ []) (f, tt)

pub aimed_block : (g : Ground) (n j : ℕ) (ms : List Meaning) (m : Meaning) → AllSound g n ms → Aimed g n j m → Aimed g n j (block (ms ++ m ∷ []))
aimed_block g n j [] m f h env s st e = makes_seq g env s 1 (means_in_order (m ∷ []) env s) (aimed_in_order g n j [] m f h env s st e)
aimed_block g n j (x ∷ xs) m f h env s st e = makes_seq g env s (suc (length (xs ++ m ∷ []))) (means_in_order (x ∷ xs ++ m ∷ []) env s) (aimed_in_order g n j (x ∷ xs) m f h env s st e)

-- (when c e ..) as a body
pub aimed_when : (g : Ground) (n j : ℕ) (c a : Meaning) → Sound g n c → Aimed g n j a → Aimed g n j (block (iff c a nothing ∷ []))
aimed_when g n j c a gc ga = aimed_block g n j [] (iff c a nothing) tt
    (λ env s st e. makes_iff g n c a nothing env s st gc (λ s. ga env s st e) (λ s. sound_constant g n nil tt env s st))

-- bindings in order
abbrev pub NamedSound : Ground → ℕ → List Named → Type 0
NamedSound g n [] = Unit {0}
NamedSound g n (b ∷ bs) = Sound g n b.means × NamedSound g (suc n) bs

pub named_weaken : (g : Ground) (n m : ℕ) (bs : List Named) → n ≤ m → NamedSound g n bs → NamedSound g m bs
named_weaken g n m [] l f = tt
named_weaken g n m (b ∷ bs) l f = (weaken g n m b.means l f.0, named_weaken g (suc n) (suc m) bs (omega (arith, l)) f.1)

pub named_append : (g : Ground) (n : ℕ) (bs cs : List Named) → NamedSound g n bs → NamedSound g (n + length bs) cs → NamedSound g n (bs ++ cs)
named_append g n [] cs f h = named_weaken g (n + 0) n cs (omega arith) h
named_append g n (b ∷ bs) cs f h = (f.0, named_append g (suc n) bs cs f.1 (named_weaken g (n + suc (length bs)) (suc n + length bs) cs (omega arith) h))

pub size_named : (x : List ℕ) (env : Env) → size (behind_name x env) ≡ suc (size env)
size_named x env = length-append env.scope (x ∷ []) ∙ omega arith

pub stands_named : (g : Ground) (n : ℕ) (x : List ℕ) (env : Env) → Stands g n env → Stands g (suc n) (behind_name x env)
stands_named g n x env st = (omega (arith, size_named x env, st.0), omega (arith, size_named x env, st.1), st.2)

abbrev pub MakesBindings : Ground → Env → Gathered → ℕ → WalkOutcome Bindings → Type 0
MakesBindings g env s i o = IfDone o (λ ts s2. (count_bindings ts ≡ i) × Grew g.rules s s2 (WellBindings g.rules (size env) ts))

pub sound_binds : (g : Ground) (n : ℕ) (bs : List Named) → NamedSound g n bs → (env : Env) (s : Gathered) → Stands g n env → MakesBindings g env s (length bs) (binds bs env s)
sound_binds g n [] f env s st = (refl, stays g.rules s (Unit {0}) tt)
sound_binds g n (b ∷ bs) f env s st =
    if_after (b.means (inner env) s) _ _ _ (f.0 (inner env) s st) (λ t s1 x.
    if_after (binds bs (behind_name b.name env) s1) _ _ _ (sound_binds g (suc n) bs f.1 (behind_name b.name env) s1 (stands_named g n b.name env st)) (λ ts s2 y.
    (ap suc y.0, gives g.rules s s2 _ _ (λ q. (refl, q.0, subst (λ m. WellBindings g.rules m ts) (size_named b.name env) q.1)) (behind_it g.rules s s1 s2 _ _ x y.1))))

pub size_behind : (bs : List Named) (env : Env) → size (behind bs env) ≡ size env + length bs
size_behind bs env = length-append env.scope (map (λ b. b.name) bs) ∙ ap (λ n. size env + n) (length-map bs (λ b. b.name))

pub stands_behind : (g : Ground) (n : ℕ) (bs : List Named) (env : Env) → Stands g n env → Stands g (n + length bs) (behind bs env)
stands_behind g n bs env st = (omega (arith, size_behind bs env, st.0), omega (arith, size_behind bs env, st.1), st.2)

pub sound_lets : (g : Ground) (n : ℕ) (bs : List Named) (body : Meaning) → NamedSound g n bs → Sound g (n + length bs) body → Sound g n (lets bs body)
sound_lets g n bs body f h env s st =
    if_after (binds bs env s) _ _ _ (sound_binds g n bs f env s st) (λ ts s1 x.
    if_after (body (behind bs env) s1) _ _ _ (h (behind bs env) s1 (stands_behind g n bs env st)) (λ u s2 y.
    makes_limited g env s s2 (bind ts u) (gives g.rules s s2 _ _
    (λ q. (q.0, subst (λ m. Well g.rules m env.target u) (size_behind bs env ∙ ap (λ i. size env + i) (sym x.0)) q.1)) (behind_it g.rules s s1 s2 _ _ x.1 y))))

pub sound_loops : (g : Ground) (n : ℕ) (bs : List Named) (body : Meaning) → NamedSound g n bs → Aimed g (n + length bs) (length bs) body → Sound g n (loops bs body)
sound_loops g n bs body f h env s st =
    if_after (binds bs env s) _ _ _ (sound_binds g n bs f env s st) (λ ts s1 x.
    if_after (body (record (behind bs env) { target = Some (length bs) }) s1) _ _ _ (h (record (behind bs env) { target = Some (length bs) }) s1 (stands_behind g n bs env st) refl) (λ u s2 y.
    makes_limited g env s s2 (loop [] ts u) (gives g.rules s s2 _ _
    (λ q. (q.0, subst (λ i. Well g.rules (size env + i) (Some i) u) (sym x.0) (subst (λ m. Well g.rules m (Some (length bs)) u) (size_behind bs env) q.1)))
    (behind_it g.rules s s1 s2 _ _ x.1 y))))

pub sound_name_as : (g : Ground) (n : ℕ) (x : List ℕ) (e body : Meaning) → Sound g n e → Sound g (suc n) body → Sound g n (name_as x e body)
sound_name_as g n x e body f h = sound_lets g n (record { name = x; means = e } ∷ []) body (f, tt) (weaken g (suc n) (n + 1) body (omega arith) h)

-- what holds at each size of the scope
pub at_size : (g : Ground) (n : ℕ) (m : Meaning) → ((env : Env) (s : Gathered) → n ≤ size env → Stands g (size env) env → Makes g env s (m env s)) → Sound g n m
at_size g n m f env s st = f env s st.0 (omega arith, st.1, st.2)

pub sound_hide : (g : Ground) (n : ℕ) (e : Meaning) (f : ℕ → Meaning) → Sound g n e → ((h : ℕ) → n ≤ h → Sound g (suc h) (f h)) → Sound g n (hide e f)
sound_hide g n e f ge gf = at_size g n (hide e f) (λ env s l st. sound_name_as g (size env) [] e (block (f (size env) ∷ []))
    (weaken g n (size env) e l ge) (sound_body g (suc (size env)) (f (size env)) (gf (size env) l)) env s st)

-- operands under hidden names, and a small fixed term over these
pub unnamed_sound : (g : Ground) (n : ℕ) (ms : List Meaning) → AllSound g n ms → NamedSound g n (map unnamed ms)
unnamed_sound g n [] f = tt
unnamed_sound g n (m ∷ ms) f = (f.0, named_weaken g n (suc n) (map unnamed ms) (omega arith) (unnamed_sound g n ms f.1))

abbrev pub WellNumbered : Rules → ℕ → List Kernel → Type 0
WellNumbered k n [] = Unit {0}
WellNumbered k n (t ∷ ts) = Well k n None t × WellNumbered k (suc n) ts

pub numbered_well : (k : Rules) (n : ℕ) (ts : List Kernel) → WellNumbered k n ts → (count_bindings (numbered n ts) ≡ length ts) × WellBindings k n (numbered n ts)
numbered_well k n [] w = (refl, tt)
numbered_well k n (t ∷ ts) w = (ap suc (numbered_well k (suc n) ts w.1).0, (refl, w.0, (numbered_well k (suc n) ts w.1).1))

pub joined_well : (k : Rules) (n : ℕ) (bs cs : Bindings) → WellBindings k n bs → WellBindings k (n + count_bindings bs) cs → WellBindings k n (bindings_joined bs cs)
joined_well k n empty cs w v = subst (λ m. WellBindings k m cs) (omega arith) v
joined_well k n (binding m t bs) cs w v = (w.0, w.1, joined_well k (suc n) bs cs w.2 (subst (λ m. WellBindings k m cs) (omega arith) v))

pub joined_count : (bs cs : Bindings) → count_bindings (bindings_joined bs cs) ≡ count_bindings bs + count_bindings cs
joined_count empty cs = omega arith
joined_count (binding n t bs) cs = omega (arith, joined_count bs cs)

pub sound_hiding : (g : Ground) (n : ℕ) (ms : List Meaning) (more body : ℕ → List Kernel) → AllSound g n ms
    → ((h : ℕ) → WellNumbered g.rules (h + length ms) (more h))
    → ((h : ℕ) (target : Option ℕ) → WellInOrder g.rules (h + length ms + length (more h)) target (kernels_of (body h)))
    → Sound g n (hiding ms more body)
sound_hiding g n ms more body f wm wb env s st =
    if_after (binds (map unnamed ms) env s) _ _ _ (sound_binds g n (map unnamed ms) (unnamed_sound g n ms f) env s st) (λ bs s2 x.
    let count : count_bindings bs ≡ length ms = x.0 ∙ length-map ms unnamed in
    let rest : (count_bindings (numbered (size env + length ms) (more (size env))) ≡ length (more (size env)))
    × WellBindings g.rules (size env + length ms) (numbered (size env + length ms) (more (size env))) = numbered_well g.rules (size env + length ms) (more (size env)) (wm (size env)) in
    makes_limited g env s s2 (bind (bindings_joined bs (numbered (size env + length ms) (more (size env)))) (seq (kernels_of (body (size env))))) (gives g.rules s s2 _ _
    (λ w. (
      joined_well g.rules (size env) bs (numbered (size env + length ms) (more (size env))) w
          (subst (λ i. WellBindings g.rules (size env + i) (numbered (size env + length ms) (more (size env)))) (sym count) rest.1),
      subst (λ m. WellInOrder g.rules m env.target (kernels_of (body (size env))))
          (omega (arith, joined_count bs (numbered (size env + length ms) (more (size env))), count, rest.0)) (wb (size env) env.target),
    )) x.1))

-- the go block
pub sound_task : (g : Ground) (r : ℕ) (body : Meaning) (p : Place) → Sound g (suc r) body → Sound g (suc r) (task body r p)
sound_task g r body p f = sound_name_as g (suc r) [] body (block (
    iff (operation (Builtin IsNil) (local_name (suc r) ∷ []) p) nothing (operation Post (local_name r ∷ local_name (suc r) ∷ []) p) ∷ operation Close (local_name r ∷ []) p ∷ [])) f
    (sound_block g (suc (suc r)) (iff (operation (Builtin IsNil) (local_name (suc r) ∷ []) p) nothing (operation Post (local_name r ∷ local_name (suc r) ∷ []) p) ∷ operation Close (local_name r ∷ []) p ∷ []) (
      sound_iff g (suc (suc r)) (operation (Builtin IsNil) (local_name (suc r) ∷ []) p) nothing (operation Post (local_name r ∷ local_name (suc r) ∷ []) p)
          (sound_operation g (suc (suc r)) (Builtin IsNil) (local_name (suc r) ∷ []) p (sound_local g (suc (suc r)) (suc r) (omega arith), tt) (λ target. refl))
          (sound_constant g (suc (suc r)) nil tt)
          (sound_operation g (suc (suc r)) Post (local_name r ∷ local_name (suc r) ∷ []) p (sound_local g (suc (suc r)) r (omega arith), (sound_local g (suc (suc r)) (suc r) (omega arith), tt)) (λ target. tt)),
      (sound_operation g (suc (suc r)) Close (local_name r ∷ []) p (sound_local g (suc (suc r)) r (omega arith), tt) (λ target. tt), tt),
    ))

pub vars_well : (k : Rules) (n : ℕ) (ms : List ℕ) → Below n ms → WellTerms k n (kernels_of (map var ms))
vars_well k n [] w = tt
vars_well k n (m ∷ ms) w = (w.0, vars_well k n ms w.1)

pub vars_count : (ms : List ℕ) → count_terms (kernels_of (map var ms)) ≡ length ms
vars_count [] = refl
vars_count (m ∷ ms) = ap suc (vars_count ms)

-- the body of a go block, in a scope of n names outside
pub body_procedure : (k : Rules) (n : ℕ) (t : Kernel) → Well k (suc n) None t → IsRight k (record { parameters = uses n t [] ++ n ∷ []; body = t })
body_procedure k n t w = (is_one, scalars_in k (suc n) None t w) where
  is_one : IsProcedure k.known (record { parameters = uses n t [] ++ n ∷ []; body = t })
  is_one = record {
    bound = closed k n (uses n t []) (suc n) None t (uses n t [] ++ n ∷ []) w (uses_only n t [])
        ((λ m h. in_left m (uses n t []) (n ∷ []) h), (λ m l u. in_right m (uses n t []) (n ∷ []) (inl (omega (arith, l, u)))));
    anew = anew k (suc n) None t (uses n t [] ++ n ∷ []) w (below_append (suc n) (uses n t []) (n ∷ []) (below_more n (suc n) (uses n t []) (omega arith) (uses_below n t [] tt)) (omega arith, tt));
    fits = fits k (suc n) None t w;
    source = source k (suc n) None t w;
  }

pub sound_go : (g : Ground) (n : ℕ) (body : Meaning) (p : Place) → Sound g n body → Sound g n (go_meaning body p)
sound_go g n body p f = at_size g n (go_meaning body p) (λ env s l st.
    if_after (task body (size env) p (in_task env) (record s { bodies = s.bodies ++ unmade ∷ [] })) _ _ _
    (sound_task g (size env) body p (weaken g n (suc (size env)) body (omega (arith, l)) f) (in_task env) (record s { bodies = s.bodies ++ unmade ∷ [] })
    (stands_named g (size env) [] env st))
    (λ t s2 x.
    let made : ProcedureView = record { parameters = uses (size env) t [] ++ size env ∷ []; body = t } in
    let is : s2.bodies ≡ s.bodies ++ unmade ∷ x.more = x.extends ∙ append_assoc s.bodies (unmade ∷ []) x.more in
    let now : slice_set s2.bodies (length s.bodies) made ≡ s.bodies ++ made ∷ x.more = ap (λ (l : List ProcedureView). slice_set l (length s.bodies) made) is ∙ set_between s.bodies unmade x.more made in
    let some : length (uses (size env) t [] ++ size env ∷ []) ≡ suc (length (uses (size env) t [])) = length-append (uses (size env) t []) (size env ∷ []) ∙ omega arith in
    record {
      more = made ∷ x.more;
      extends = now;
      holds = λ a.
          let b : Agrees (s.bodies ++ made ∷ x.more) g.rules.known.bodies = subst (λ l. Agrees l g.rules.known.bodies) now a in
          let h : Each (IsMade g.rules) x.more × Well g.rules (size (in_task env)) None t =
          x.holds (subst (λ l. Agrees l g.rules.known.bodies) (sym is) (agrees_unmade s.bodies made x.more g.rules.known.bodies b)) in (
            ((body_procedure g.rules (size env) t (subst (λ m. Well g.rules m None t) (size_named [] env) h.1), (size env, refl)), h.0),
            (
              (refl, (tt, (small g.rules.scalars 1 (omega arith), tt)), tt),
              (
                (
                  subst (λ i. Takes g.rules.known.bodies (length s.bodies) i) (sym (vars_count (uses (size env) t [] ++ size env ∷ [])))
                      (agrees_at s.bodies made x.more g.rules.known.bodies (λ e. omega (arith, e, some)) b),
                  vars_well g.rules (size env + 1) (uses (size env) t [] ++ size env ∷ [])
                      (below_append (size env + 1) (uses (size env) t []) (size env ∷ []) (below_more (size env) (size env + 1) (uses (size env) t []) (omega arith) (uses_below (size env) t [] tt)) (omega arith, tt)),
                ),
                omega arith,
              ),
            ),
          );
    }))
