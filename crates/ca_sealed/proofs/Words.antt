-- Each word of the expansion makes tidy terms, of parts that do. The go bodies that it adds are tidy too.
use Rattle.std.proofs.Common.{◌≡◌, inl, inr, ℕ, zero, suc, ◌+◌, ◌<◌, ◌≤◌, List, [], ◌∷◌, ◌++◌, length, map, refl, sym, ap, ◌∙◌, subst, arith, Some, Bool, true, false, cond}
use Rattle.std.proofs.lemmas.List.{length-map}
use Rattle.ca_value.specs.Tree.{Tree, nil}
use Rattle.ca_term.specs.declared.place.Place.{Place}
use Rattle.ca_term.specs.declared.head.Head.{Head}
use Rattle.ca_term.specs.Closed.{IsIn}
use Rattle.ca_term.specs.Kernel.{Kernel, Kernels, Bindings, const, branch, bind, loop, seq, apply, empty, binding}
use Rattle.ca_term.specs.Fits.{count_bindings}
use Rattle.ca_term.specs.Program.{ProcedureView}
use Rattle.ca_term.specs.View.{kernels_of}
use Rattle.ca_forms.specs.declared.error.CheckErrorKind.{CheckErrorKind}
use Rattle.ca_forms.specs.Outcome.{Gathered, WalkOutcome, done, after_walk, limited}
use Rattle.ca_forms.specs.Meaning.{Env, Signature, Meaning, Named, size, inner, behind_name, fail_with, constant_value, nothing, local_name, iff, unless, before_others, means_in_order, operation, block, unnamed, binds, behind, lets, loops, name_as, hide, numbered, bindings_joined, hiding}
use Rattle.ca_meaning.specs.Sound.{Each}
use Rattle.ca_sealed.proofs.Used.{Only, Below}
use Rattle.ca_sealed.proofs.Outcomes.{IfDone, if_after, if_cond, size_named, size_behind, joined_count}
use Rattle.ca_roles.specs.Roles.{no_roles, IsPublic}
use Rattle.ca_roles.specs.Sealed.{hides_in}
use Rattle.ca_sealed.proofs.Tidy.{Secret, Tidy, TidyTerms, TidyBindings, TidyFirst, behind as rest_behind}

-- A text that is tidy in a scope of so many names. Its parameters are these; of those below base, the ones that it uses.
pub record IsTidyText (t : ProcedureView) : Type 0 where
  pub base : ℕ
  pub used : List ℕ
  pub size : ℕ
  pub tidy : Tidy size t.body
  pub only : Only base used t.body
  pub bound : (k : ℕ) → k < size → (k < base → IsIn k used) → IsIn k t.parameters
  pub below : Below size t.parameters

-- all go bodies so far are so
abbrev pub Made : Gathered → Type 0
Made s = Each IsTidyText s.bodies

-- a walk that makes this, and tidy go bodies
abbrev pub Grew : Gathered → Gathered → Type 0 → Type 0
Grew s s2 P = P × (Made s → Made s2)

pub stays : (s : Gathered) (P : Type 0) → P → Grew s s P
stays s P p = (p, λ m. m)

pub gives : (s s2 : Gathered) (P Q : Type 0) → (P → Q) → Grew s s2 P → Grew s s2 Q
gives s s2 P Q f x = (f x.0, x.1)

pub behind_it : (s s1 s2 : Gathered) (P Q : Type 0) → Grew s s1 P → Grew s1 s2 Q → Grew s s2 (P × Q)
behind_it s s1 s2 P Q x y = ((x.0, y.0), λ m. y.1 (x.1 m))

-- the `def` names that the functions use are among the first
abbrev pub AreBelow : ℕ → List Signature → Type 0
AreBelow g [] = Unit {0}
AreBelow g (f ∷ fs) = Below g f.hidden × AreBelow g fs

-- at least n names are in scope, and those that the functions use
abbrev pub Holds : ℕ → ℕ → Env → Type 0
Holds g n env = (n ≤ size env) × (g ≤ size env) × AreBelow g env.functions

abbrev pub Makes : Env → Gathered → WalkOutcome Kernel → Type 0
Makes env s o = IfDone o (λ t s2. Grew s s2 (Tidy (size env) t))

-- it makes tidy terms wherever n names are in scope
abbrev pub Keeps : ℕ → ℕ → Meaning → Type 0
Keeps g n m = (env : Env) (s : Gathered) → Holds g n env → Makes env s (m env s)

pub weaken : (g n m : ℕ) (b : Meaning) → n ≤ m → Keeps g n b → Keeps g m b
weaken g n m b l f env s st = f env s (omega (arith, l, st.0), st.1, st.2)

pub tidy_constant : (g n : ℕ) (v : Tree) → IsPublic no_roles v → Keeps g n (constant_value v)
tidy_constant g n v p env s st = stays s (IsPublic no_roles v) p

pub tidy_nothing : (g n : ℕ) → Keeps g n nothing
tidy_nothing g n = tidy_constant g n nil tt

pub tidy_local : (g n h : ℕ) → h < n → Keeps g n (local_name h)
tidy_local g n h l env s st = stays s (h < size env) (omega (arith, l, st.0))

-- a name of the main text
pub tidy_low : (g n h : ℕ) → h < g → Keeps g n (local_name h)
tidy_low g n h l env s st = stays s (h < size env) (omega (arith, l, st.1))

pub tidy_fail : (g n : ℕ) (e : CheckErrorKind) (p : Place) → Keeps g n (fail_with e p)
tidy_fail g n e p env s st = tt

pub tidy_cond : (g n : ℕ) (b : Bool) (x y : Meaning) → Keeps g n x → Keeps g n y → Keeps g n (cond b x y)
tidy_cond g n true x y gx gy = gx
tidy_cond g n false x y gx gy = gy

pub makes_limited : (env : Env) (s s2 : Gathered) (t : Kernel) → Grew s s2 (Tidy (size env) t) → Makes env s (limited t s2)
makes_limited env s s2 t x = if_cond _ (done t s2) (done (const nil) (record s2 { deep = true })) (λ u s3. Grew s s3 (Tidy (size env) u)) x (tt, x.1)

pub tidy_iff : (g n : ℕ) (c a b : Meaning) → Keeps g n c → Keeps g n a → Keeps g n b → Keeps g n (iff c a b)
tidy_iff g n c a b gc ga gb env s st =
    if_after (c (inner env) s) _ _ _ (gc (inner env) s st) (λ t s1 x.
    if_after (a env s1) _ _ _ (ga env s1 st) (λ u s2 y.
    if_after (b env s2) _ _ _ (gb env s2 st) (λ v s3 z.
    makes_limited env s s3 (branch t u v) ((x.0, y.0, z.0), λ m. z.1 (y.1 (x.1 m))))))

pub tidy_unless : (g n : ℕ) (c a b : Meaning) → Keeps g n c → Keeps g n a → Keeps g n b → Keeps g n (unless c a b)
tidy_unless g n c a b gc ga gb env s st =
    if_after (c (inner env) s) _ _ _ (gc (inner env) s st) (λ t s1 x.
    if_after (a env s1) _ _ _ (ga env s1 st) (λ u s2 y.
    if_after (b env s2) _ _ _ (gb env s2 st) (λ v s3 z.
    makes_limited env s s3 (branch t v u) ((x.0, z.0, y.0), λ m. z.1 (y.1 (x.1 m))))))

-- all of a list
abbrev pub AllKeep : ℕ → ℕ → List Meaning → Type 0
AllKeep g n [] = Unit {0}
AllKeep g n (m ∷ ms) = Keeps g n m × AllKeep g n ms

pub all_weaken : (g n m : ℕ) (ms : List Meaning) → n ≤ m → AllKeep g n ms → AllKeep g m ms
all_weaken g n m [] l f = tt
all_weaken g n m (b ∷ bs) l f = (weaken g n m b l f.0, all_weaken g n m bs l f.1)

pub all_append : (g n : ℕ) (ms ks : List Meaning) → AllKeep g n ms → AllKeep g n ks → AllKeep g n (ms ++ ks)
all_append g n [] ks f h = h
all_append g n (m ∷ ms) ks f h = (f.0, all_append g n ms ks f.1 h)

-- where others come behind it
pub makes_before : (g n i : ℕ) (m : Meaning) (env : Env) (s : Gathered) → Keeps g n m → Holds g n env → Makes env s (m (before_others i env) s)
makes_before g n zero m env s f st = f env s st
makes_before g n (suc i) m env s f st = f (inner env) s st

-- terms in order
abbrev pub MakesAll : Env → Gathered → WalkOutcome Kernels → Type 0
MakesAll env s o = IfDone o (λ ts s2. Grew s s2 (TidyTerms (size env) ts))

pub tidy_in_order : (g n : ℕ) (ms : List Meaning) → AllKeep g n ms → (env : Env) (s : Gathered) → Holds g n env → MakesAll env s (means_in_order ms env s)
tidy_in_order g n [] f env s st = stays s (Unit {0}) tt
tidy_in_order g n (m ∷ ms) f env s st =
    if_after (m (before_others (length ms) env) s) _ _ _ (makes_before g n (length ms) m env s f.0 st) (λ t s1 x.
    if_after (means_in_order ms env s1) _ _ _ (tidy_in_order g n ms f.1 env s1 st) (λ ts s2 y. behind_it s s1 s2 _ _ x y))

-- a form that has no hidden operands, whatever they are
abbrev pub HidesNone : Head → Type 0
HidesNone h = (ts : Kernels) → hides_in h ts ≡ false

pub tidy_operation : (g n : ℕ) (h : Head) (ms : List Meaning) (p : Place) → AllKeep g n ms → HidesNone h → Keeps g n (operation h ms p)
tidy_operation g n h ms p f u env s st =
    if_after (means_in_order ms (inner env) s) _ _ _ (tidy_in_order g n ms f (inner env) s st) (λ ts s2 x. makes_limited env s s2 (apply h ts p) ((u ts, x.0), x.1))

pub makes_seq : (env : Env) (s : Gathered) (o : WalkOutcome Kernels) → MakesAll env s o → Makes env s (after_walk o (λ ts s. limited (seq ts) s))
makes_seq env s o h = if_after o _ _ _ h (λ ts s2 x. makes_limited env s s2 (seq ts) x)

pub tidy_block : (g n : ℕ) (ms : List Meaning) → AllKeep g n ms → Keeps g n (block ms)
tidy_block g n [] f env s st = tidy_nothing g n env s st
tidy_block g n (m ∷ ms) f env s st = makes_seq env s (means_in_order (m ∷ ms) env s) (tidy_in_order g n (m ∷ ms) f env s st)

pub tidy_body : (g n : ℕ) (m : Meaning) → Keeps g n m → Keeps g n (block (m ∷ []))
tidy_body g n m f = tidy_block g n (m ∷ []) (f, tt)

-- (when c e ..) as a body
pub tidy_when : (g n : ℕ) (c a : Meaning) → Keeps g n c → Keeps g n a → Keeps g n (block (iff c a nothing ∷ []))
tidy_when g n c a gc ga = tidy_body g n (iff c a nothing) (tidy_iff g n c a nothing gc ga (tidy_nothing g n))

-- bindings in order
abbrev pub NamedKeep : ℕ → ℕ → List Named → Type 0
NamedKeep g n [] = Unit {0}
NamedKeep g n (b ∷ bs) = Keeps g n b.means × NamedKeep g (suc n) bs

pub named_weaken : (g n m : ℕ) (bs : List Named) → n ≤ m → NamedKeep g n bs → NamedKeep g m bs
named_weaken g n m [] l f = tt
named_weaken g n m (b ∷ bs) l f = (weaken g n m b.means l f.0, named_weaken g (suc n) (suc m) bs (omega (arith, l)) f.1)

pub named_append : (g n : ℕ) (bs cs : List Named) → NamedKeep g n bs → NamedKeep g (n + length bs) cs → NamedKeep g n (bs ++ cs)
named_append g n [] cs f h = named_weaken g (n + 0) n cs (omega arith) h
named_append g n (b ∷ bs) cs f h = (f.0, named_append g (suc n) bs cs f.1 (named_weaken g (n + suc (length bs)) (suc n + length bs) cs (omega arith) h))

pub holds_named : (g n : ℕ) (x : List ℕ) (env : Env) → Holds g n env → Holds g (suc n) (behind_name x env)
holds_named g n x env st = (omega (arith, size_named x env, st.0), omega (arith, size_named x env, st.1), st.2)

abbrev pub MakesBindings : Env → Gathered → ℕ → WalkOutcome Bindings → Type 0
MakesBindings env s i o = IfDone o (λ ts s2. (count_bindings ts ≡ i) × Grew s s2 (TidyBindings (size env) ts))

pub tidy_binds : (g n : ℕ) (bs : List Named) → NamedKeep g n bs → (env : Env) (s : Gathered) → Holds g n env → MakesBindings env s (length bs) (binds bs env s)
tidy_binds g n [] f env s st = (refl, stays s (Unit {0}) tt)
tidy_binds g n (b ∷ bs) f env s st =
    if_after (b.means (inner env) s) _ _ _ (f.0 (inner env) s st) (λ t s1 x.
    if_after (binds bs (behind_name b.name env) s1) _ _ _ (tidy_binds g (suc n) bs f.1 (behind_name b.name env) s1 (holds_named g n b.name env st)) (λ ts s2 y.
    (ap suc y.0, ((refl, x.0, subst (λ m. TidyBindings m ts) (size_named b.name env) y.1.0), λ m. y.1.1 (x.1 m)))))

pub holds_behind : (g n : ℕ) (bs : List Named) (env : Env) → Holds g n env → Holds g (n + length bs) (behind bs env)
holds_behind g n bs env st = (omega (arith, size_behind bs env, st.0), omega (arith, size_behind bs env, st.1), st.2)

-- so many bindings, and a body behind them
pub body_behind : (bs : List Named) (env : Env) (ts : Bindings) (u : Kernel) → count_bindings ts ≡ length bs → Tidy (size (behind bs env)) u → Tidy (size env + count_bindings ts) u
body_behind bs env ts u e = subst (λ m. Tidy m u) (size_behind bs env ∙ ap (λ i. size env + i) (sym e))

pub tidy_lets : (g n : ℕ) (bs : List Named) (body : Meaning) → NamedKeep g n bs → Keeps g (n + length bs) body → Keeps g n (lets bs body)
tidy_lets g n bs body f h env s st =
    if_after (binds bs env s) _ _ _ (tidy_binds g n bs f env s st) (λ ts s1 x.
    if_after (body (behind bs env) s1) _ _ _ (h (behind bs env) s1 (holds_behind g n bs env st)) (λ u s2 y.
    makes_limited env s s2 (bind ts u) (inl (x.1.0, body_behind bs env ts u x.0 y.0), λ m. y.1 (x.1.1 m))))

pub tidy_loops : (g n : ℕ) (bs : List Named) (body : Meaning) → NamedKeep g n bs → Keeps g (n + length bs) body → Keeps g n (loops bs body)
tidy_loops g n bs body f h env s st =
    if_after (binds bs env s) _ _ _ (tidy_binds g n bs f env s st) (λ ts s1 x.
    if_after (body (record (behind bs env) { target = Some (length bs) }) s1) _ _ _ (h (record (behind bs env) { target = Some (length bs) }) s1 (holds_behind g n bs env st)) (λ u s2 y.
    makes_limited env s s2 (loop [] ts u) ((x.1.0, body_behind bs env ts u x.0 y.0), λ m. y.1 (x.1.1 m))))

pub tidy_name_as : (g n : ℕ) (x : List ℕ) (e body : Meaning) → Keeps g n e → Keeps g (suc n) body → Keeps g n (name_as x e body)
tidy_name_as g n x e body f h = tidy_lets g n (record { name = x; means = e } ∷ []) body (f, tt) (weaken g (suc n) (n + 1) body (omega arith) h)

-- what holds at each size of the scope
pub at_size : (g n : ℕ) (m : Meaning) → ((env : Env) (s : Gathered) → n ≤ size env → Holds g (size env) env → Makes env s (m env s)) → Keeps g n m
at_size g n m f env s st = f env s st.0 (omega arith, st.1, st.2)

pub tidy_hide : (g n : ℕ) (e : Meaning) (f : ℕ → Meaning) → Keeps g n e → ((h : ℕ) → n ≤ h → Keeps g (suc h) (f h)) → Keeps g n (hide e f)
tidy_hide g n e f ge gf = at_size g n (hide e f) (λ env s l st. tidy_name_as g (size env) [] e (block (f (size env) ∷ []))
    (weaken g n (size env) e l ge) (tidy_body g (suc (size env)) (f (size env)) (gf (size env) l)) env s st)

-- operands under hidden names, and a small fixed term over these
pub unnamed_keep : (g n : ℕ) (ms : List Meaning) → AllKeep g n ms → NamedKeep g n (map unnamed ms)
unnamed_keep g n [] f = tt
unnamed_keep g n (m ∷ ms) f = (f.0, named_weaken g n (suc n) (map unnamed ms) (omega arith) (unnamed_keep g n ms f.1))

abbrev pub TidyNumbered : ℕ → List Kernel → Type 0
TidyNumbered n [] = Unit {0}
TidyNumbered n (t ∷ ts) = Tidy n t × TidyNumbered (suc n) ts

pub numbered_tidy : (n : ℕ) (ts : List Kernel) → TidyNumbered n ts → (count_bindings (numbered n ts) ≡ length ts) × TidyBindings n (numbered n ts)
numbered_tidy n [] w = (refl, tt)
numbered_tidy n (t ∷ ts) w = (ap suc (numbered_tidy (suc n) ts w.1).0, (refl, w.0, (numbered_tidy (suc n) ts w.1).1))

pub joined_tidy : (n : ℕ) (bs cs : Bindings) → TidyBindings n bs → TidyBindings (n + count_bindings bs) cs → TidyBindings n (bindings_joined bs cs)
joined_tidy n empty cs w v = subst (λ m. TidyBindings m cs) (omega arith) v
joined_tidy n (binding m t bs) cs w v = (w.0, w.1, joined_tidy (suc n) bs cs w.2 (subst (λ m. TidyBindings m cs) (omega arith) v))

pub joined_first : (n : ℕ) (bs cs : Bindings) → TidyBindings n bs → TidyFirst n (bindings_joined bs cs) (count_bindings bs)
joined_first n empty cs w = tt
joined_first n (binding m t bs) cs w = (w.0, w.1, joined_first (suc n) bs cs w.2)

pub joined_behind : (bs cs : Bindings) → cs ≡ rest_behind (count_bindings bs) (bindings_joined bs cs)
joined_behind empty cs = refl
joined_behind (binding m t bs) cs = joined_behind bs cs

pub tidy_hiding : (g n : ℕ) (ms : List Meaning) (more body : ℕ → List Kernel) → AllKeep g n ms
    → ((h : ℕ) → TidyNumbered (h + length ms) (more h))
    → ((h : ℕ) → TidyTerms (h + length ms + length (more h)) (kernels_of (body h)))
    → Keeps g n (hiding ms more body)
tidy_hiding g n ms more body f wm wb env s st =
    if_after (binds (map unnamed ms) env s) _ _ _ (tidy_binds g n (map unnamed ms) (unnamed_keep g n ms f) env s st) (λ bs s2 x.
    let count : count_bindings bs ≡ length ms = x.0 ∙ length-map ms unnamed in
    let rest : (count_bindings (numbered (size env + length ms) (more (size env))) ≡ length (more (size env)))
    × TidyBindings (size env + length ms) (numbered (size env + length ms) (more (size env))) = numbered_tidy (size env + length ms) (more (size env)) (wm (size env)) in
    makes_limited env s s2 (bind (bindings_joined bs (numbered (size env + length ms) (more (size env)))) (seq (kernels_of (body (size env))))) (
      inl (
        joined_tidy (size env) bs (numbered (size env + length ms) (more (size env))) x.1.0
            (subst (λ i. TidyBindings (size env + i) (numbered (size env + length ms) (more (size env)))) (sym count) rest.1),
        subst (λ m. TidyTerms m (kernels_of (body (size env))))
            (omega (arith, joined_count bs (numbered (size env + length ms) (more (size env))), count, rest.0)) (wb (size env)),
      ),
      x.1.1,
    ))

-- the same where the form has hidden names
pub tidy_secret : (g n : ℕ) (ms : List Meaning) (more body : ℕ → List Kernel) → AllKeep g n ms
    → ((h : ℕ) → Secret (h + length ms) (numbered (h + length ms) (more h)) (seq (kernels_of (body h)))) → Keeps g n (hiding ms more body)
tidy_secret g n ms more body f w env s st =
    if_after (binds (map unnamed ms) env s) _ _ _ (tidy_binds g n (map unnamed ms) (unnamed_keep g n ms f) env s st) (λ bs s2 x.
    let count : length ms ≡ count_bindings bs = sym (x.0 ∙ length-map ms unnamed) in
    let rest : Bindings = numbered (size env + length ms) (more (size env)) in
    makes_limited env s s2 (bind (bindings_joined bs rest) (seq (kernels_of (body (size env))))) (
      inr (
        count_bindings bs,
        joined_first (size env) bs rest x.1.0,
        subst (λ cs. Secret (size env + count_bindings bs) cs (seq (kernels_of (body (size env))))) (joined_behind bs rest)
            (subst (λ i. Secret (size env + i) rest (seq (kernels_of (body (size env))))) count (w (size env))),
      ),
      x.1.1,
    ))
