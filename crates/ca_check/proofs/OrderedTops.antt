-- The go bodies of an accepted script are those of its go blocks, in order of the text.
use Rattle.std.proofs.Common.{◌≡◌, ℕ, zero, suc, List, [], ◌∷◌, ◌++◌, length, map, refl, sym, ap, ◌∙◌, subst, Option, Some, None, Bool, true, false, cond, ◌||◌, nat_lt, nat_eq, ◌+◌, Result, Ok, Err}
use Rattle.std.specs.List.{list_any}
use Rattle.std.proofs.lemmas.List.{append-nil}
use Rattle.ca_term.specs.declared.place.Place.{Place}
use Rattle.ca_term.specs.Kernel.{Kernel}
use Rattle.ca_term.specs.Program.{ProgramView}
use Rattle.ca_reader.specs.declared.form.Bracket.TheVariants.{Round, Square, Curly}
use Rattle.ca_reader.specs.Form.{FormTree, FormTrees, form, atom, group, none, item, symbol, nil as nil_atom, bool as bool_atom, int as int_atom, text as text_atom, key as key_atom, form_place}
use Rattle.ca_forms.specs.declared.special.Special.{Special}
use Rattle.ca_forms.specs.declared.error.CheckErrorKind.{CheckErrorKind}
use Rattle.ca_forms.specs.declared.error.CheckErrorKind.TheVariants.{TooMany, Redefined}
use Rattle.ca_forms.specs.Words.{special}
use Rattle.ca_forms.specs.Depth.{kernel_depth}
use Rattle.ca_forms.specs.Uses.{uses, aims_out}
use Rattle.ca_forms.specs.Outcome.{Gathered, WalkOutcome, done, refused, after_walk}
use Rattle.ca_forms.specs.Meaning.{Meaning, block, lets, local_name}
use Rattle.ca_forms.specs.Binders.{Part, Binder, binder, is_pattern, patterns}
use Rattle.ca_forms.specs.Plain.{meanings}
use Rattle.ca_forms.specs.Walk.{walk, walked_parts}
use Rattle.ca_forms.specs.Tops.{Tops, Written, Top, definition, function, expression, wrong, top_name, definition_of, def_top, with_binder, binders_in, parameters_in, function_top, note_in, defn_behind, defn_top, list_top, list_parts, top, is_taken, main_env, same_names, names_of, judged_body, over_parameters, straight, body_of, signature, function_env, with_function, Settled, body_settled, add_function, shallow, Ended, bound_before, bound_top, one_top, is_past}
use Rattle.ca_check.specs.Expansion.{tops, is_namespace, script_tops, program_of, expansion_of}
use Rattle.ca_check.specs.Order.{go_blocks, go_blocks_in, script_go_blocks, block_place}
use Rattle.ca_check.proofs.Grew.{IfDone}
use Rattle.ca_check.proofs.Ordered.{Adds, adds_none, adds_then, Leaves, leaves_last, Ordered, ordered_same, ordered_local, total}
use Rattle.ca_check.proofs.OrderedPlain.{blocks_of, PartsOrdered, block_ordered, binder_none, Names, no_names, one_more, lets_ordered, loops_ordered, patterns_names}
use Rattle.ca_check.proofs.OrderedWalk.{own, parts_blocks, ordered_walk, ordered_parts}

abbrev pub TopOrdered : List Place → Top → Type 0
TopOrdered ps (definition x m) = Ordered ps m
TopOrdered ps (function f) = Ordered ps f.body
TopOrdered ps (expression m) = Ordered ps m
TopOrdered ps wrong = Unit {0}

pub top_same : (ps qs : List Place) (t : Top) → ps ≡ qs → TopOrdered ps t → TopOrdered qs t
top_same ps qs t e f = subst (λ l. TopOrdered l t) e f

-- names, parameters and the text before these hold no go block
pub top_name_none : (f : FormTree) (x : List ℕ) → top_name f ≡ Some x → go_blocks_in f ≡ []
top_name_none (form (atom a) p) x e = refl
top_name_none (form (group b fs) p) x e = cc

pub note_none : (f : FormTree) (n : List ℕ × Place) → note_in f ≡ Some n → go_blocks_in f ≡ []
note_none (form (atom a) p) n e = refl
note_none (form (group b fs) p) n e = cc

pub binders_none : (fs : FormTrees) (bs : List Binder) → binders_in fs ≡ Some bs → go_blocks fs ≡ []
binders_none none bs e = refl
binders_none (item f fs) bs e = by (binder f) (binders_in fs) (binder_none f) (binders_none fs) e where
  by : (o : Option Binder) (r : Option (List Binder)) → ((b : Binder) → o ≡ Some b → go_blocks_in f ≡ []) → ((cs : List Binder) → r ≡ Some cs → go_blocks fs ≡ [])
      → with_binder o r ≡ Some bs → go_blocks_in f ++ go_blocks fs ≡ []
  by None r g h = λ e. cc
  by (Some b) None g h = λ e. cc
  by (Some b) (Some cs) g h = λ e. rw (g b refl, h cs refl) refl

pub parameters_none : (f : FormTree) (bs : List Binder) → parameters_in f ≡ Some bs → go_blocks_in f ≡ []
parameters_none (form (atom a) p) bs e = refl
parameters_none (form (group Round fs) p) bs e = cc
parameters_none (form (group Square fs) p) bs e = binders_none fs bs e
parameters_none (form (group Curly fs) p) bs e = cc

pub def_ordered : (qs : List Part) → PartsOrdered qs → TopOrdered (total (blocks_of qs)) (def_top qs)
def_ordered [] f = tt
def_ordered (x ∷ []) f = tt
def_ordered (x ∷ e ∷ []) f = by (top_name x.form) (top_name_none x.form) where
  by : (o : Option (List ℕ)) → ((n : List ℕ) → o ≡ Some n → go_blocks_in x.form ≡ []) → TopOrdered (go_blocks_in x.form ++ (go_blocks_in e.form ++ [])) (definition_of o e.means)
  by None z = tt
  by (Some n) z = ordered_same (go_blocks_in e.form) (go_blocks_in x.form ++ (go_blocks_in e.form ++ [])) e.means (sym (ap (λ l. l ++ (go_blocks_in e.form ++ [])) (z n refl) ∙ append-nil (go_blocks_in e.form))) f.1.0.means
def_ordered (x ∷ e ∷ a ∷ qs) f = tt

pub function_ordered : (o : Option (List ℕ)) (r : Option (List Binder)) (n : Option (List ℕ × Place)) (qs : List Part) (ps : List Place) → PartsOrdered qs
    → ((x : List ℕ) (bs : List Binder) → o ≡ Some x → r ≡ Some bs → total (blocks_of qs) ≡ ps) → TopOrdered ps (function_top o r n qs)
function_ordered None r n qs ps f z = tt
function_ordered (Some x) None n qs ps f z = tt
function_ordered (Some x) (Some bs) n qs ps f z = ordered_same (total (blocks_of qs)) ps (block (meanings qs)) (z x bs refl refl) (block_ordered qs f)

pub defn_ordered : (qs : List Part) → PartsOrdered qs → TopOrdered (total (blocks_of qs)) (defn_top qs)
defn_ordered [] f = tt
defn_ordered (x ∷ []) f = tt
defn_ordered (x ∷ a ∷ qs) f = by (note_in a.form) (note_none a.form) qs f.1.1 where
  by : (n : Option (List ℕ × Place)) → ((m : List ℕ × Place) → n ≡ Some m → go_blocks_in a.form ≡ []) → (qs : List Part) → PartsOrdered qs
      → TopOrdered (go_blocks_in x.form ++ (go_blocks_in a.form ++ total (blocks_of qs))) (defn_behind (top_name x.form) n a qs)
  by None z qs g = function_ordered (top_name x.form) (parameters_in a.form) None qs (go_blocks_in x.form ++ (go_blocks_in a.form ++ total (blocks_of qs))) g
      (λ y bs d e. rw (top_name_none x.form y d, parameters_none a.form bs e) refl)
  by (Some m) z [] g = tt
  by (Some m) z (b ∷ qs) g = function_ordered (top_name x.form) (parameters_in b.form) (Some m) qs (go_blocks_in x.form ++ (go_blocks_in a.form ++ (go_blocks_in b.form ++ total (blocks_of qs)))) g.1
      (λ y bs d e. rw (top_name_none x.form y d, z m refl, parameters_none b.form bs e) refl)

-- a list with that word at its head, or none
pub headed_top : (o : Option Special) (fs : FormTrees) (p : Place) (m : Meaning) → Ordered (own o p ++ go_blocks fs) m → TopOrdered (own o p ++ go_blocks fs) (list_top o (walked_parts fs) m)
headed_top None fs p m f = f
headed_top (Some Special.Def) fs p m f = top_same (total (blocks_of (walked_parts fs))) (go_blocks fs) (def_top (walked_parts fs)) (parts_blocks fs) (def_ordered (walked_parts fs) (ordered_parts fs))
headed_top (Some Special.Defn) fs p m f = top_same (total (blocks_of (walked_parts fs))) (go_blocks fs) (defn_top (walked_parts fs)) (parts_blocks fs) (defn_ordered (walked_parts fs) (ordered_parts fs))
headed_top (Some k) fs p m f = f

pub top_ordered : (f : FormTree) → TopOrdered (go_blocks_in f) (top f)
top_ordered (form (atom a) p) = ordered_walk (form (atom a) p)
top_ordered (form (group Square fs) p) = ordered_walk (form (group Square fs) p)
top_ordered (form (group Curly fs) p) = ordered_walk (form (group Curly fs) p)
top_ordered (form (group Round none) p) = ordered_walk (form (group Round none) p)
top_ordered (form (group Round (item (form (atom (symbol s)) q) fs)) p) = headed_top (special s) fs p (walk (form (group Round (item (form (atom (symbol s)) q) fs)) p)) (ordered_walk (form (group Round (item (form (atom (symbol s)) q) fs)) p))
top_ordered (form (group Round (item (form (atom (key_atom k)) q) fs)) p) = ordered_walk (form (group Round (item (form (atom (key_atom k)) q) fs)) p)
top_ordered (form (group Round (item (form (atom nil_atom) q) fs)) p) = ordered_walk (form (group Round (item (form (atom nil_atom) q) fs)) p)
top_ordered (form (group Round (item (form (atom (bool_atom b)) q) fs)) p) = ordered_walk (form (group Round (item (form (atom (bool_atom b)) q) fs)) p)
top_ordered (form (group Round (item (form (atom (int_atom z)) q) fs)) p) = ordered_walk (form (group Round (item (form (atom (int_atom z)) q) fs)) p)
top_ordered (form (group Round (item (form (atom (text_atom s)) q) fs)) p) = ordered_walk (form (group Round (item (form (atom (text_atom s)) q) fs)) p)
top_ordered (form (group Round (item (form (group c gs) q) fs)) p) = ordered_walk (form (group Round (item (form (group c gs) q) fs)) p)

-- the body of a function
pub over_ordered : (ps : List Place) (f : Written) (p : Place) (n : ℕ) → Ordered ps f.body → Ordered ps (over_parameters f p n)
over_ordered ps f p n g = by (list_any is_pattern f.parameters) where
  by : (b : Bool) → Ordered ps (cond b (lets (patterns p n f.parameters) f.body) f.body)
  by true = lets_ordered [] ps (patterns p n f.parameters) f.body (patterns_names p n f.parameters) g
  by false = g

pub same_names_ordered : (n : ℕ) (xs : List (List ℕ)) → Names [] (same_names n xs)
same_names_ordered n [] = no_names
same_names_ordered n (x ∷ xs) = one_more [] [] (record { name = x; means = local_name n }) (same_names (suc n) xs) (ordered_local n) (same_names_ordered (suc n) xs)

pub body_ordered : (ps : List Place) (f : Written) (p : Place) (looping : Bool) → Ordered ps f.body → Ordered ps (body_of looping f p)
body_ordered ps f p true g env s = loops_ordered [] ps (same_names (length env.scope) (names_of f.parameters)) (over_parameters f p (length env.scope + length f.parameters))
    (same_names_ordered (length env.scope) (names_of f.parameters)) (over_ordered ps f p (length env.scope + length f.parameters) g) (record env { scope = env.scope ++ names_of f.parameters }) s
body_ordered ps f p false g env s = over_ordered ps f p (length env.scope) g (record env { scope = env.scope ++ names_of f.parameters; target = None }) s

pub settled_ordered : (ps : List Place) (f : Written) (p : Place) (t : Tops) (s : Gathered) (looping : Bool) → Ordered ps f.body → (n : ℕ) (hidden : List ℕ) → Leaves ps s (body_settled n looping hidden f p t s)
settled_ordered ps f p t s looping g zero hidden = tt
settled_ordered ps f p t s looping g (suc n) hidden = by (body_of looping f p (function_env (signature f hidden false) t) s) (body_ordered ps f p looping g (function_env (signature f hidden false) t) s)
    (λ used. settled_ordered ps f p t s looping g n used) where
      by : (o : WalkOutcome Kernel) → Leaves ps s o → ((used : List ℕ) → Leaves ps s (body_settled n looping used f p t s))
          → Leaves ps s (after_walk o (λ body s2. cond (nat_lt 64 (length (uses (length t.scope) body hidden))) (refused TooMany p)
          (cond (nat_eq (length (uses (length t.scope) body hidden)) (length hidden)) (done (record { body = body; hidden = hidden }) s2)
          (body_settled n looping (uses (length t.scope) body hidden) f p t s))))
      by (refused e q) h again = tt
      by (done body s2) h again = many (nat_lt 64 (length (uses (length t.scope) body hidden))) where
        same : (c : Bool) → Leaves ps s (cond c (done (record { body = body; hidden = hidden }) s2) (body_settled n looping (uses (length t.scope) body hidden) f p t s))
        same true = h
        same false = again (uses (length t.scope) body hidden)

        many : (b : Bool) → Leaves ps s (cond b (refused TooMany p) (cond (nat_eq (length (uses (length t.scope) body hidden)) (length hidden)) (done (record { body = body; hidden = hidden }) s2)
            (body_settled n looping (uses (length t.scope) body hidden) f p t s)))
        many true = tt
        many false = same (nat_eq (length (uses (length t.scope) body hidden)) (length hidden))

pub add_ordered : (ps : List Place) (f : Written) (p : Place) (t : Tops) (s : Gathered) → Ordered ps f.body → Leaves ps s (add_function f p t s)
add_ordered ps f p t s g = by (judged_body f (straight (Some (length f.parameters)) f p) (function_env (signature f [] false) t) s) where
  small : (r : Settled) (s2 : Gathered) (b : Bool) → Leaves [] s2 (cond b (refused TooMany p) (done (with_function f r.hidden r.body t) s2))
  small r s2 true = tt
  small r s2 false = adds_none s2

  second : (first : Kernel) (b : Bool) → Leaves ps s (cond b (refused TooMany p) (after_walk (body_settled 66 (aims_out first) (uses (length t.scope) first []) f p t s) (λ r s2.
      cond (nat_lt 60 (kernel_depth r.body)) (refused TooMany p) (done (with_function f r.hidden r.body t) s2))))
  second first true = tt
  second first false = leaves_last ps s (body_settled 66 (aims_out first) (uses (length t.scope) first []) f p t s)
      (λ r s2. cond (nat_lt 60 (kernel_depth r.body)) (refused TooMany p) (done (with_function f r.hidden r.body t) s2))
      (settled_ordered ps f p t s (aims_out first) g 66 (uses (length t.scope) first [])) (λ r s2. small r s2 (nat_lt 60 (kernel_depth r.body)))

  by : (o : WalkOutcome Kernel) → Leaves ps s (after_walk o (λ first s1. cond s1.deep (refused TooMany p) (after_walk (body_settled 66 (aims_out first) (uses (length t.scope) first []) f p t s) (λ r s2.
      cond (nat_lt 60 (kernel_depth r.body)) (refused TooMany p) (done (with_function f r.hidden r.body t) s2)))))
  by (refused e q) = tt
  by (done first s1) = second first s1.deep

-- what the rest of a script comes to: nothing was too deep
abbrev pub Ends : List Place → Gathered → WalkOutcome Ended → Type 0
Ends ps s o = IfDone o (λ r s2. (s2.deep ≡ false) × Adds ps s s2)

abbrev pub Rest : List Place → (Tops → Gathered → WalkOutcome Ended) → Type 0
Rest ps rest = (t : Tops) (s : Gathered) → s.deep ≡ false → Ends ps s (rest t s)

pub ends_then : (ps qs : List Place) (s s1 : Gathered) (o : WalkOutcome Ended) → Adds ps s s1 → Ends qs s1 o → Ends (ps ++ qs) s o
ends_then ps qs s s1 (done r s2) f g = (g.0, adds_then ps qs s s1 s2 f g.1)
ends_then ps qs s s1 (refused e p) f g = tt

pub before_ends : (ps : List Place) (s : Gathered) (n : ℕ) (t : Kernel) (o : WalkOutcome Ended) → Ends ps s o → Ends ps s (bound_before n t o)
before_ends ps s n t (done r s2) f = f
before_ends ps s n t (refused e p) f = tt

pub bound_ends : (ps qs : List Place) (x : List ℕ) (m : Meaning) (defined : ℕ) (p : Place) (rest : Tops → Gathered → WalkOutcome Ended) (t : Tops) (s : Gathered) → Ordered ps m → Rest qs rest
    → Ends (ps ++ qs) s (bound_top x m defined p rest t s)
bound_ends ps qs x m defined p rest t s f g = by (m (main_env t) s) (f (main_env t) s) where
  next : Tops
  next = record t { scope = t.scope ++ x ∷ []; defined = t.defined + defined }

  by : (o : WalkOutcome Kernel) → Leaves ps s o → Ends (ps ++ qs) s (after_walk o (λ u s2. cond (s2.deep || nat_lt 399 (kernel_depth u)) (refused TooMany p) (bound_before (length t.scope) u (rest next s2))))
  by (refused e q) h = tt
  by (done u s2) h = judged s2.deep refl where
    small : (b : Bool) → s2.deep ≡ false → Ends (ps ++ qs) s (cond b (refused TooMany p) (bound_before (length t.scope) u (rest next s2)))
    small true e = tt
    small false e = ends_then ps qs s s2 (bound_before (length t.scope) u (rest next s2)) h (before_ends qs s2 (length t.scope) u (rest next s2) (g next s2 e))

    judged : (d : Bool) → s2.deep ≡ d → Ends (ps ++ qs) s (cond (d || nat_lt 399 (kernel_depth u)) (refused TooMany p) (bound_before (length t.scope) u (rest next s2)))
    judged true e = tt
    judged false e = small (nat_lt 399 (kernel_depth u)) e

pub one_ends : (ps qs : List Place) (k : Top) (p : Place) (rest : Tops → Gathered → WalkOutcome Ended) (t : Tops) (s : Gathered) → TopOrdered ps k → Rest qs rest → Ends (ps ++ qs) s (one_top k p rest t s)
one_ends ps qs wrong p rest t s f g = tt
one_ends ps qs (expression m) p rest t s f g = bound_ends ps qs [] m 0 p rest t s f g
one_ends ps qs (definition x m) p rest t s f g = by (is_taken x t) where
  by : (b : Bool) → Ends (ps ++ qs) s (cond b (refused Redefined p) (bound_top x m 1 p rest t s))
  by true = tt
  by false = bound_ends ps qs x m 1 p rest t s f g
one_ends ps qs (function w) p rest t s f g = by (is_taken w.name t) where
  shown : (t2 : Tops) (s2 : Gathered) → Adds ps s s2 → (d : Bool) → s2.deep ≡ d → Ends (ps ++ qs) s (after_walk (cond d (refused TooMany p) (done t2 s2)) rest)
  shown t2 s2 h true e = tt
  shown t2 s2 h false e = ends_then ps qs s s2 (rest t2 s2) h (g t2 s2 e)

  added : (o : WalkOutcome Tops) → Leaves ps s o → Ends (ps ++ qs) s (after_walk o (λ t2 s2. after_walk (shallow p t2 s2) rest))
  added (refused e q) h = tt
  added (done t2 s2) h = shown t2 s2 h s2.deep refl

  few : (b : Bool) → Ends (ps ++ qs) s (cond b (refused TooMany p) (after_walk (add_function w p t s) (λ t2 s2. after_walk (shallow p t2 s2) rest)))
  few true = tt
  few false = added (add_function w p t s) (add_ordered ps w p t s f)

  by : (b : Bool) → Ends (ps ++ qs) s (cond b (refused Redefined p) (cond (nat_lt 16 (length w.parameters)) (refused TooMany p) (after_walk (add_function w p t s) (λ t2 s2. after_walk (shallow p t2 s2) rest))))
  by true = tt
  by false = few (nat_lt 16 (length w.parameters))

pub tops_end : (i : ℕ) (fs : FormTrees) → Rest (go_blocks fs) (tops i fs)
tops_end i none t s e = (e, adds_none s)
tops_end i (item f fs) t s e = by (is_past i f t) (tops_end (suc i) fs) where
  by : (b : Bool) → Rest (go_blocks fs) (tops (suc i) fs) → Ends (go_blocks_in f ++ go_blocks fs) s (cond b (refused TooMany (form_place f)) (one_top (top f) (form_place f) (λ t s. tops (suc i) fs t s) t s))
  by true g = tt
  by false g = one_ends (go_blocks_in f) (go_blocks fs) (top f) (form_place f) (λ t s. tops (suc i) fs t s) t s (top_ordered f) g

pub script_ends : (fs : FormTrees) → Rest (script_go_blocks fs) (script_tops fs)
script_ends none t s e = (e, adds_none s)
script_ends (item f fs) t s e = by (is_namespace f) where
  few : (b : Bool) → Ends (go_blocks fs) s (cond b (refused TooMany (form_place f)) (tops 1 fs t s))
  few true = tt
  few false = tops_end 1 fs t s e

  by : (b : Bool) → Ends (cond b [] (go_blocks_in f) ++ go_blocks fs) s (cond b (cond (nat_lt 4096 (length (list_parts f))) (refused TooMany (form_place f)) (tops 1 fs t s)) (tops 0 (item f fs) t s))
  by true = few (nat_lt 4096 (length (list_parts f)))
  by false = tops_end 0 (item f fs) t s e

-- the program of what a script comes to
pub bodies_in_order : (ps : List Place) (s : Gathered) (o : WalkOutcome Ended) → s.bodies ≡ [] → Ends ps s o → (program : ProgramView) → program_of o ≡ Ok program → map block_place program.bodies ≡ map Some ps
bodies_in_order ps s (refused e p) z f program h = cc
bodies_in_order ps s (done r s2) z f program h = subst (λ o. Holds o) h ((f.1 f.0).bodies ∙ ap (λ l. map block_place l ++ map Some ps) z) where
  Holds : Result ProgramView (CheckErrorKind × Place) → Type 0
  Holds (Ok q) = map block_place q.bodies ≡ map Some ps
  Holds (Err e) = Unit {0}

pub accepted_in_order : (fs : FormTrees) (program : ProgramView) → expansion_of fs ≡ Ok program → map block_place program.bodies ≡ map Some (script_go_blocks fs)
accepted_in_order fs program e = bodies_in_order (script_go_blocks fs) (record { bodies = []; deep = false }) (script_tops fs (record { scope = []; functions = []; procedures = []; defined = 0 }) (record { bodies = []; deep = false })) refl
    (script_ends fs (record { scope = []; functions = []; procedures = []; defined = 0 }) (record { bodies = []; deep = false }) refl) program e
