-- A script is its forms, one after the other.
use Rattle.std.proofs.Common.{◌≡◌, ℕ, suc, ◌+◌, List, [], ◌∷◌, length, drop, get_or, ◌<◌, ◌≤◌, refl, sym, ap, ◌∙◌, arith, true, false, cond, nat_lt}
use Rattle.std.proofs.lemmas.Bool.{lt-ltb, le-ltb}
use Rattle.ca_term.specs.Kernel.{Bindings, empty}
use Rattle.ca_reader.specs.declared.form.Form.{Form}
use Rattle.ca_reader.specs.Form.{FormTrees, form_place}
use Rattle.ca_reader.specs.View.{form_tree, form_trees}
use Rattle.ca_forms.specs.declared.error.CheckError.{CheckError}
use Rattle.ca_forms.specs.declared.error.CheckError.TheVariants.{Fault, OutOfMemory}
use Rattle.ca_forms.specs.declared.error.CheckErrorKind.TheVariants.{TooMany}
use Rattle.ca_forms.specs.Outcome.{Gathered, WalkOutcome, done, refused}
use Rattle.ca_forms.specs.Tops.{Tops, Ended, list_parts}
use Rattle.ca_check.specs.ScriptView.{ScriptRest, ahead, form_top, has_namespace, nothing_defined, nothing_gathered}
use Rattle.ca_check.specs.Expansion.{tops, script_tops, program_of, RefusesForms}
use Rattle.ca_forms.specs.WalkView.{form_parts, Fails}
use Rattle.ca_forms.proofs.PartLaws.{cut_at, count_parts}
use Rattle.ca_forms.proofs.TermLaws.{joined_end}
use Rattle.ca_check.proofs.DefnLaws.{drop_over}

-- the first form is no namespace
pub script_whole : (fs : List Form) (t : Tops) (s : Gathered) → has_namespace (form_trees fs) ≡ false → script_tops (form_trees fs) t s ≡ tops 0 (form_trees fs) t s
script_whole [] t s n = refl
script_whole (k ∷ fs) t s n = ap (λ b. cond b (cond (nat_lt 4096 (length (list_parts (form_tree k)))) (refused TooMany (form_place (form_tree k))) (tops 1 (form_trees fs) t s)) (tops 0 (form_trees (k ∷ fs)) t s)) n

pub script_behind : (fs : List Form) (f : Form) (ps : List Form) (t : Tops) (s : Gathered) → 0 < length fs → f ≡ get_or fs 0 f → has_namespace (form_trees fs) ≡ true
    → form_parts ps ≡ list_parts (form_tree f) → length ps ≤ 4096 → script_tops (form_trees fs) t s ≡ tops 1 (form_trees (drop 1 fs)) t s
script_behind [] f ps t s h g n l m = absurd (omega (arith, h))
script_behind (k ∷ fs) f ps t s h g n l m =
    ap (λ b. cond b (cond (nat_lt 4096 (length (list_parts (form_tree k)))) (refused TooMany (form_place (form_tree k))) (tops 1 (form_trees fs) t s)) (tops 0 (form_trees (k ∷ fs)) t s)) n
    ∙ ap (λ b. cond b (refused TooMany (form_place (form_tree k))) (tops 1 (form_trees fs) t s))
    (ap (λ (x : Form). nat_lt 4096 (length (list_parts (form_tree x)))) (sym g) ∙ ap (λ n. nat_lt 4096 n) (ap length (sym l) ∙ count_parts ps) ∙ le-ltb 4096 (length ps) m)

pub script_many : (fs : List Form) (f : Form) (ps : List Form) (t : Tops) (s : Gathered) → 0 < length fs → f ≡ get_or fs 0 f → has_namespace (form_trees fs) ≡ true
    → form_parts ps ≡ list_parts (form_tree f) → 4096 < length ps → form_place (form_tree f) ≡ f.place → script_tops (form_trees fs) t s ≡ refused TooMany f.place
script_many [] f ps t s h g n l m q = absurd (omega (arith, h))
script_many (k ∷ fs) f ps t s h g n l m q =
    ap (λ b. cond b (cond (nat_lt 4096 (length (list_parts (form_tree k)))) (refused TooMany (form_place (form_tree k))) (tops 1 (form_trees fs) t s)) (tops 0 (form_trees (k ∷ fs)) t s)) n
    ∙ ap (λ b. cond b (refused TooMany (form_place (form_tree k))) (tops 1 (form_trees fs) t s))
    (ap (λ (x : Form). nat_lt 4096 (length (list_parts (form_tree x)))) (sym g) ∙ ap (λ n. nat_lt 4096 n) (ap length (sym l) ∙ count_parts ps) ∙ lt-ltb 4096 (length ps) m)
    ∙ ap (λ (x : Form). refused TooMany (form_place (form_tree x))) (sym g) ∙ ap (λ z. refused TooMany z) q

-- from the form of number i on
abbrev pub from_form : List Form → ℕ → ScriptRest
from_form fs i t s = tops i (form_trees (drop i fs)) t s

pub from_cut : (fs : List Form) (i : ℕ) (f : Form) (t : Tops) (s : Gathered) → i < length fs → f ≡ get_or fs i f
    → from_form fs i t s ≡ form_top i (form_tree f) (from_form fs (i + 1)) t s
from_cut fs i f t s h g =
    let up : suc i ≡ i + 1 = omega arith in
    ap (λ (gs : List Form). tops i (form_trees gs) t s) (cut_at fs i f h g)
    ∙ ap (λ n. form_top i (form_tree f) (λ t s. tops n (form_trees (drop (i + 1) fs)) t s) t s) up

ahead_none : (o : WalkOutcome Ended) → o ≡ ahead empty o
ahead_none (refused k p) = refl
ahead_none (done r s) = refl

pub script_starts : (fs : List Form) (n : ℕ) (bs : Bindings) (t : Tops) (s : Gathered) → bs ≡ empty → t ≡ nothing_defined → s ≡ nothing_gathered
    → script_tops (form_trees fs) nothing_defined nothing_gathered ≡ from_form fs n nothing_defined nothing_gathered
    → script_tops (form_trees fs) nothing_defined nothing_gathered ≡ ahead bs (from_form fs n t s)
script_starts fs n bs t s b e g h = h ∙ ahead_none (from_form fs n nothing_defined nothing_gathered)
    ∙ ap (λ cs. ahead cs (from_form fs n nothing_defined nothing_gathered)) (sym b) ∙ ap (λ z. ahead bs (from_form fs n z nothing_gathered)) (sym e) ∙ ap (λ z. ahead bs (from_form fs n t z)) (sym g)

pub script_ends : (fs : List Form) (n : ℕ) (bs : Bindings) (t : Tops) (s : Gathered) → length fs ≤ n
    → ahead bs (from_form fs n t s) ≡ done (record { bindings = bs; tops = t }) s
script_ends fs n bs t s h = ap (λ (gs : List Form). ahead bs (tops n (form_trees gs) t s)) (drop_over fs n h)
    ∙ ap (λ cs. done (record { bindings = cs; tops = t }) s) (joined_end bs)

pub ahead_fails : (e : CheckError) (bs : Bindings) (o u : WalkOutcome Ended) → u ≡ ahead bs o → Fails e o → Fails e u
ahead_fails OutOfMemory bs o u h g = tt
ahead_fails (Fault k p) bs o u h g = h ∙ ap (ahead bs) g

pub refuses_is : (e : CheckError) (fs : FormTrees) → Fails e (script_tops fs nothing_defined nothing_gathered) → RefusesForms e fs
refuses_is OutOfMemory fs h = tt
refuses_is (Fault k p) fs h = ap program_of h
