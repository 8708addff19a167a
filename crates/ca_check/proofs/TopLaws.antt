-- A top-level form leads on.
use Rattle.std.proofs.Common.{rules, ◌≡◌, ℕ, ◌+◌, List, [], ◌∷◌, ◌++◌, length, drop, get_or, ◌<◌, ◌≤◌, refl, sym, ap, ◌∙◌, arith, Bool, true, false, cond, nat_lt, ◌||◌, ◌&&◌, Option, Some, Result, Ok, Err, OnOk, IfErr}
use Rattle.std.proofs.lemmas.Bool.{lt-ltb, le-ltb}
use Rattle.ca_value.specs.Seq.{list}
use Rattle.ca_term.specs.declared.place.Place.{Place}
use Rattle.ca_term.specs.declared.term.Binding.{Binding}
use Rattle.ca_term.specs.Kernel.{Kernel, Bindings, binding}
use Rattle.ca_term.specs.View.{bindings, binding_view}
use Rattle.ca_reader.specs.declared.form.Form.{Form, the_lemmas}
use Rattle.ca_reader.specs.Form.{form_place}
use Rattle.ca_reader.specs.View.{form_tree}
use Rattle.ca_forms.specs.declared.error.CheckError.{CheckError}
use Rattle.ca_forms.specs.declared.error.CheckErrorKind.TheVariants.{TooMany, BadForm, Redefined}
use Rattle.ca_check.specs.declared.tops.Expansion.{Expansion}
use Rattle.ca_check.specs.declared.tops.Kind.{Kind}
use Rattle.ca_forms.specs.Depth.{kernel_depth}
use Rattle.ca_forms.specs.Outcome.{Gathered, WalkOutcome, done, refused, after_walk}
use Rattle.ca_forms.specs.Meaning.{Meaning, bindings_joined}
use Rattle.ca_forms.specs.Binders.{Part}
use Rattle.ca_forms.specs.Tops.{Tops, Ended, Written, function, definition, definition_of, top_name, main_env, bound_top, bound_before, one_top, top, is_past, is_taken, list_top, list_parts, word_at_head, behind_head, def_top, is_defining, add_function, shallow}
use Rattle.ca_check.specs.ScriptView.{ScriptRest, ahead, rest_of_script, FormLeads, Stops, form_top, kind_top, is_defining_kind}
use Rattle.ca_forms.specs.Walk.{walk}
use Rattle.ca_forms.specs.WalkView.{form_parts, Fails}
use Rattle.ca_forms.proofs.PartLaws.{after_fails, count_parts, two_parts}
use Rattle.ca_forms.proofs.TermLaws.{bindings_more}
use Rattle.ca_check.proofs.DefnLaws.{fails_same}

pub leads_by : {A : Type 0} (r : Result A CheckError) (F G : ScriptRest → ScriptRest) (a b : Expansion) → ((rest : ScriptRest) → rest_of_script a (F rest) ≡ rest_of_script a (G rest))
    → OnOk r (FormLeads G a b) → OnOk r (FormLeads F a b)
leads_by (Ok x) F G a b e h = λ rest. ap (ahead (bindings (list a.bindings))) (e rest) ∙ h rest
leads_by (Err x) F G a b e h = h

pub stops_by : {A : Type 0} (r : Result A CheckError) (F G : ScriptRest → ScriptRest) (a : Expansion) → ((rest : ScriptRest) → rest_of_script a (F rest) ≡ rest_of_script a (G rest))
    → IfErr r (λ e. Stops e G a) → IfErr r (λ e. Stops e F a)
stops_by (Ok x) F G a e h = h
stops_by (Err x) F G a e h = λ rest. fails_same x (rest_of_script a (G rest)) (rest_of_script a (F rest)) (sym (e rest)) (h rest)

-- one more of the bindings of the main text
ahead_step : (bs : List Binding) (b : Binding) (n : ℕ) (u : Kernel) (o : WalkOutcome Ended) → binding_view b ≡ (n, u)
    → ahead (bindings bs) (bound_before n u o) ≡ ahead (bindings (bs ++ b ∷ [])) o
ahead_step bs b n u (refused k p) e = refl
ahead_step bs b n u (done r s) e = ap (λ (cs : Bindings). done (record r { bindings = cs }) s)
    (ap (λ (q : ℕ × Kernel). bindings_joined (bindings bs) (binding q.0 q.1 r.bindings)) (sym e) ∙ sym (bindings_more bs b r.bindings))

abbrev bound_behind : List ℕ → ℕ → Place → ScriptRest → Tops → Kernel → Gathered → WalkOutcome Ended
bound_behind x defined p rest t u s2 = cond (s2.deep || nat_lt 399 (kernel_depth u)) (refused TooMany p)
    (bound_before (length t.scope) u (rest (record t { scope = t.scope ++ x ∷ []; defined = t.defined + defined }) s2))

pub bound_leads : (bs bs2 : List Binding) (b : Binding) (x : List ℕ) (m : Meaning) (defined : ℕ) (p : Place) (rest : ScriptRest) (t t2 : Tops) (s s2 : Gathered) (u : Kernel)
    → m (main_env t) s ≡ done u s2 → (s2.deep || nat_lt 399 (kernel_depth u)) ≡ false → binding_view b ≡ (length t.scope, u) → bs2 ≡ bs ++ b ∷ []
    → t2 ≡ record t { scope = t.scope ++ x ∷ []; defined = t.defined + defined }
    → ahead (bindings bs) (bound_top x m defined p rest t s) ≡ ahead (bindings bs2) (rest t2 s2)
bound_leads bs bs2 b x m defined p rest t t2 s s2 u w d n e f =
    ap (λ (o : WalkOutcome Kernel). ahead (bindings bs) (after_walk o (bound_behind x defined p rest t))) w
    ∙ ap (λ c. ahead (bindings bs) (cond c (refused TooMany p) (bound_before (length t.scope) u (rest (record t { scope = t.scope ++ x ∷ []; defined = t.defined + defined }) s2)))) d
    ∙ ahead_step bs b (length t.scope) u (rest (record t { scope = t.scope ++ x ∷ []; defined = t.defined + defined }) s2) n
    ∙ ap (λ (cs : List Binding). ahead (bindings cs) (rest (record t { scope = t.scope ++ x ∷ []; defined = t.defined + defined }) s2)) (sym e)
    ∙ ap (λ (z : Tops). ahead (bindings bs2) (rest z s2)) (sym f)

-- too deep
pub bound_deep : (x : List ℕ) (m : Meaning) (defined : ℕ) (p : Place) (rest : ScriptRest) (t : Tops) (s s2 : Gathered) (u : Kernel)
    → m (main_env t) s ≡ done u s2 → (s2.deep || nat_lt 399 (kernel_depth u)) ≡ true → bound_top x m defined p rest t s ≡ refused TooMany p
bound_deep x m defined p rest t s s2 u w d = ap (λ (o : WalkOutcome Kernel). after_walk o (bound_behind x defined p rest t)) w
    ∙ ap (λ c. cond c (refused TooMany p) (bound_before (length t.scope) u (rest (record t { scope = t.scope ++ x ∷ []; defined = t.defined + defined }) s2))) d

pub bound_fails : (e : CheckError) (x : List ℕ) (m : Meaning) (defined : ℕ) (p : Place) (rest : ScriptRest) (t : Tops) (s : Gathered)
    → Fails e (m (main_env t) s) → Fails e (bound_top x m defined p rest t s)
bound_fails e x m defined p rest t s h = after_fails e (m (main_env t) s) (bound_behind x defined p rest t) h

-- a function whose name is free and that has few parameters
pub function_is : (f : Written) (p : Place) (rest : ScriptRest) (t : Tops) (s : Gathered) → is_taken f.name t ≡ false → length f.parameters ≤ 16
    → one_top (function f) p rest t s ≡ after_walk (add_function f p t s) (λ t2 s2. after_walk (shallow p t2 s2) rest)
function_is f p rest t s h l = rw (h, le-ltb 16 (length f.parameters) l) refl

pub function_leads : (f : Written) (p : Place) (rest : ScriptRest) (t t2 : Tops) (s s2 : Gathered) → is_taken f.name t ≡ false → length f.parameters ≤ 16
    → add_function f p t s ≡ done t2 s2 → s2.deep ≡ false → one_top (function f) p rest t s ≡ rest t2 s2
function_leads f p rest t t2 s s2 h l w d = function_is f p rest t s h l
    ∙ ap (λ (o : WalkOutcome Tops). after_walk o (λ t2 s2. after_walk (shallow p t2 s2) rest)) w
    ∙ ap (λ b. after_walk (cond b (refused TooMany p) (done t2 s2)) rest) d

pub function_deep : (f : Written) (p : Place) (rest : ScriptRest) (t t2 : Tops) (s s2 : Gathered) → is_taken f.name t ≡ false → length f.parameters ≤ 16
    → add_function f p t s ≡ done t2 s2 → s2.deep ≡ true → one_top (function f) p rest t s ≡ refused TooMany p
function_deep f p rest t t2 s s2 h l w d = function_is f p rest t s h l
    ∙ ap (λ (o : WalkOutcome Tops). after_walk o (λ t2 s2. after_walk (shallow p t2 s2) rest)) w
    ∙ ap (λ b. after_walk (cond b (refused TooMany p) (done t2 s2)) rest) d

pub function_fails : (e : CheckError) (f : Written) (p : Place) (rest : ScriptRest) (t : Tops) (s : Gathered) → is_taken f.name t ≡ false → length f.parameters ≤ 16
    → Fails e (add_function f p t s) → Fails e (one_top (function f) p rest t s)
function_fails e f p rest t s h l w = fails_same e (after_walk (add_function f p t s) (λ t2 s2. after_walk (shallow p t2 s2) rest)) (one_top (function f) p rest t s)
    (sym (function_is f p rest t s h l)) (after_fails e (add_function f p t s) (λ t2 s2. after_walk (shallow p t2 s2) rest) w)

behind_is : (fs : List Form) → behind_head (form_parts fs) ≡ form_parts (drop 1 fs)
behind_is [] = refl
behind_is (f ∷ fs) = refl

-- what a form is, by the word at its head
module _ (i : ℕ) (f : Form) (fs : List Form) (k : Kind) (t : Tops) (first : i ≤ 4095)
    (listed : form_parts fs ≡ list_parts (form_tree f)) (place : form_place (form_tree f) ≡ f.place)
    (top_is : (ps : List Part) (m : Meaning) → list_top (word_at_head (form_parts fs)) ps m ≡ kind_top k ps m) (defining : is_defining (word_at_head (form_parts fs)) ≡ is_defining_kind k) where
  past_is : is_past i (form_tree f) t ≡ ((is_defining_kind k && nat_lt 1023 t.defined) || nat_lt 4096 (length fs))
  past_is = ap (λ b. b || (is_defining (word_at_head (list_parts (form_tree f))) && nat_lt 1023 t.defined) || nat_lt 4096 (length (list_parts (form_tree f)))) (le-ltb 4095 i first)
      ∙ ap (λ (ps : List Part). (is_defining (word_at_head ps) && nat_lt 1023 t.defined) || nat_lt 4096 (length ps)) (sym listed)
      ∙ ap (λ b. (b && nat_lt 1023 t.defined) || nat_lt 4096 (length (form_parts fs))) defining
      ∙ ap (λ n. (is_defining_kind k && nat_lt 1023 t.defined) || nat_lt 4096 n) (count_parts fs)

  pub form_past : (rest : ScriptRest) (s : Gathered) → ((is_defining_kind k && nat_lt 1023 t.defined) || nat_lt 4096 (length fs)) ≡ true → form_top i (form_tree f) rest t s ≡ refused TooMany f.place
  form_past rest s past = ap (λ b. cond b (refused TooMany (form_place (form_tree f))) (one_top (top (form_tree f)) (form_place (form_tree f)) rest t s)) (past_is ∙ past)
      ∙ ap (λ q. refused TooMany q) place

  pub form_is : (rest : ScriptRest) (s : Gathered) → ((is_defining_kind k && nat_lt 1023 t.defined) || nat_lt 4096 (length fs)) ≡ false
      → form_top i (form_tree f) rest t s ≡ one_top (kind_top k (form_parts (drop 1 fs)) (walk (form_tree f))) f.place rest t s
  form_is rest s past = ap (λ b. cond b (refused TooMany (form_place (form_tree f))) (one_top (top (form_tree f)) (form_place (form_tree f)) rest t s)) (past_is ∙ past)
      ∙ ap (λ (ps : List Part). one_top (list_top (word_at_head ps) (behind_head ps) (walk (form_tree f))) (form_place (form_tree f)) rest t s) (sym listed)
      ∙ ap (λ (ps : List Part). one_top (list_top (word_at_head (form_parts fs)) ps (walk (form_tree f))) (form_place (form_tree f)) rest t s) (behind_is fs)
      ∙ ap (λ tp. one_top tp (form_place (form_tree f)) rest t s) (top_is (form_parts (drop 1 fs)) (walk (form_tree f)))
      ∙ ap (λ q. one_top (kind_top k (form_parts (drop 1 fs)) (walk (form_tree f))) q rest t s) place

-- past the 4,096th
pub form_over : (i : ℕ) (f : Form) (rest : ScriptRest) (t : Tops) (s : Gathered) → 4095 < i → form_place (form_tree f) ≡ f.place → form_top i (form_tree f) rest t s ≡ refused TooMany f.place
form_over i f rest t s h place = ap (λ b. cond (b || (is_defining (word_at_head (list_parts (form_tree f))) && nat_lt 1023 t.defined) || nat_lt 4096 (length (list_parts (form_tree f))))
    (refused TooMany (form_place (form_tree f))) (one_top (top (form_tree f)) (form_place (form_tree f)) rest t s)) (lt-ltb 4095 i h) ∙ ap (λ q. refused TooMany q) place

pub place_is : (f : Form) → form_place (form_tree f) ≡ f.place
place_is f = search (rules, the_lemmas)

-- (def x e)
module _ (fs : List Form) (a b : Form) (p : Place) (rest : ScriptRest) (t : Tops) (s : Gathered) (x : List ℕ) (n : length fs ≡ 3) (ga : a ≡ get_or fs 1 a) (gb : b ≡ get_or fs 2 b)
    (so : Some x ≡ top_name (form_tree a)) where
  def_is : one_top (def_top (form_parts (drop 1 fs))) p rest t s ≡ one_top (definition x (walk (form_tree b))) p rest t s
  def_is = ap (λ (ps : List Part). one_top (def_top ps) p rest t s) (two_parts fs a b n ga gb)
      ∙ ap (λ (o : Option (List ℕ)). one_top (definition_of o (walk (form_tree b))) p rest t s) (sym so)

  pub def_redefined : is_taken x t ≡ true → one_top (def_top (form_parts (drop 1 fs))) p rest t s ≡ refused Redefined p
  def_redefined h = def_is ∙ ap (λ c. cond c (refused Redefined p) (bound_top x (walk (form_tree b)) 1 p rest t s)) h

  pub def_free : is_taken x t ≡ false → one_top (def_top (form_parts (drop 1 fs))) p rest t s ≡ bound_top x (walk (form_tree b)) 1 p rest t s
  def_free h = def_is ∙ ap (λ c. cond c (refused Redefined p) (bound_top x (walk (form_tree b)) 1 p rest t s)) h

pub def_short : (fs : List Form) (p : Place) (rest : ScriptRest) (t : Tops) (s : Gathered) → length fs < 3 → one_top (def_top (form_parts (drop 1 fs))) p rest t s ≡ refused BadForm p
def_short [] p rest t s h = refl
def_short (f ∷ []) p rest t s h = refl
def_short (f ∷ g ∷ []) p rest t s h = refl
def_short (f ∷ g ∷ k ∷ fs) p rest t s h = absurd (omega (arith, h))

pub def_long : (fs : List Form) (p : Place) (rest : ScriptRest) (t : Tops) (s : Gathered) → 4 ≤ length fs → one_top (def_top (form_parts (drop 1 fs))) p rest t s ≡ refused BadForm p
def_long [] p rest t s h = absurd (omega (arith, h))
def_long (f ∷ []) p rest t s h = absurd (omega (arith, h))
def_long (f ∷ g ∷ []) p rest t s h = absurd (omega (arith, h))
def_long (f ∷ g ∷ k ∷ []) p rest t s h = absurd (omega (arith, h))
def_long (f ∷ g ∷ k ∷ m ∷ fs) p rest t s h = refl

pub function_many : (f : Written) (p : Place) (rest : ScriptRest) (t : Tops) (s : Gathered) → is_taken f.name t ≡ false → 16 < length f.parameters → one_top (function f) p rest t s ≡ refused TooMany p
function_many f p rest t s h l = rw (h, lt-ltb 16 (length f.parameters) l) refl

pub or_left : (a b : Bool) → (a || b) ≡ false → a ≡ false
or_left true b h = cc
or_left false b h = refl
