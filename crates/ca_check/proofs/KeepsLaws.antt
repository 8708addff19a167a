-- A walk of a function's body leaves the go bodies that there were before it.
use Rattle.std.proofs.Common.{◌≡◌, ℕ, suc, ◌+◌, ◌≤◌, List, [], ◌∷◌, ◌++◌, length, map, take, refl, sym, ap, ◌∙◌, subst, arith, Some, None, Bool, true, false, ◌&&◌}
use Rattle.std.proofs.lemmas.List.{length-append, append_assoc, take-append-le, take_all}
use Rattle.ca_term.specs.declared.place.Place.{Place}
use Rattle.ca_term.specs.Kernel.{Kernel}
use Rattle.ca_value.specs.IsValue.{any}
use Rattle.ca_term.specs.Fits.{Takes}
use Rattle.ca_term.specs.Program.{ProcedureView}
use Rattle.ca_reader.specs.View.{form_trees}
use Rattle.ca_check.specs.declared.defn.Defn.{Defn}
use Rattle.ca_check.specs.declared.defn.Pass.{Pass}
use Rattle.ca_forms.specs.Outcome.{Gathered, WalkOutcome, done}
use Rattle.ca_forms.specs.Uses.{uses}
use Rattle.ca_forms.specs.Meaning.{Env, Signature}
use Rattle.ca_forms.specs.Plain.{meanings}
use Rattle.ca_forms.specs.Tops.{Tops, Written, function_env, straight, names_of, is_empty}
use Rattle.ca_check.specs.TopsView.{body_in, written_as, AreBelow, AreSafe}
use Rattle.ca_forms.specs.WalkView.{form_parts}
use Rattle.ca_check.proofs.Grew.{Grew, IfDone}
use Rattle.ca_check.proofs.Well.{Rules, Well, uses_below}
use Rattle.ca_check.proofs.Places.{any_places, any_forms}
use Rattle.ca_check.proofs.Sound.{Ground, AreSigned, Stands, Sound, sound_block}
use Rattle.ca_check.proofs.SoundPlain.{means_sound}
use Rattle.ca_check.proofs.SoundWalk.{sound_parts}
use Rattle.ca_check.proofs.SoundTops.{sound_over_parameters, body_makes, names_length}

-- how many values each function takes
values_of : Signature → ℕ
values_of f = f.arity + length f.hidden

rules_of : List Signature → Rules
rules_of fs = record { known = record { functions = map values_of fs; bodies = []; plain = λ n. true }; scalars = any }

takes_at : (before : List ℕ) (k : ℕ) (behind : List ℕ) → Takes (before ++ k ∷ behind) (length before) k
takes_at [] k behind = refl
takes_at (b ∷ before) k behind = takes_at before k behind

signed_from : (n : ℕ) (k : Rules) (before : List ℕ) (fs : List Signature) → ((m : ℕ) → k.known.plain m ≡ true) → k.known.functions ≡ before ++ map values_of fs → AreSafe n fs
    → AreSigned k n (length before) fs
unfolding values_of
signed_from n k before [] pl e s = tt
signed_from n k before (f ∷ fs) pl e s =
    let more : length (before ++ values_of f ∷ []) ≡ suc (length before) = length-append before (values_of f ∷ []) ∙ omega arith in (
      record { takes = subst (λ ks. Takes ks (length before) (f.arity + length f.hidden)) (sym e) (takes_at before (values_of f) (map values_of fs)); below = s.0; plain = λ h. pl (length before); bare = s.1 },
      subst (λ i. AreSigned k n i fs) more (signed_from n k (before ++ values_of f ∷ []) fs pl (e ∙ sym (append_assoc before (values_of f ∷ []) (map values_of fs))) s.2),
    )

signed_all : (n : ℕ) (fs : List Signature) → AreSafe n fs → AreSigned (rules_of fs) n 0 fs
unfolding rules_of
signed_all n fs s = signed_from n (rules_of fs) [] fs (λ m. refl) refl s

-- what was added stands behind what there was
kept : (k : Rules) (P : Type 0) (s s2 : Gathered) → Grew k s s2 P → take (length s.bodies) s2.bodies ≡ s.bodies
kept k P s s2 g = ap (λ (bs : List ProcedureView). take (length s.bodies) bs) g.extends ∙ take-append-le (length s.bodies) s.bodies g.more (omega arith) ∙ take_all (length s.bodies) s.bodies (omega arith)

kept_if : (k : Rules) (P : Kernel → Type 0) (o : WalkOutcome Kernel) (s s2 : Gathered) (b : Kernel) → o ≡ done b s2 → IfDone o (λ t s3. Grew k s s3 (P t)) → take (length s.bodies) s2.bodies ≡ s.bodies
kept_if k P o s s2 b e h = kept k (P b) s s2 (subst (λ o. IfDone o (λ t s3. Grew k s s3 (P t))) e h)

pub body_keeps : (pass : Pass) (d : Defn) (p : Place) (t : Tops) (sig : Signature) (s s2 : Gathered) (b : Kernel) → AreSafe (length t.scope) (t.functions ++ sig ∷ [])
    → body_in pass (written_as d) p (function_env sig t) s ≡ done b s2 → take (length s.bodies) s2.bodies ≡ s.bodies
unfolding rules_of
body_keeps pass d p t sig s s2 b safe h = by pass h where
  w : Written
  w = written_as d

  k : Rules
  k = rules_of (t.functions ++ sig ∷ [])

  g : Ground
  g = record { rules = k; base = length t.scope }

  body_sound : Sound g 0 w.body
  body_sound = sound_block g 0 (meanings (form_parts d.body.now)) (means_sound g (form_parts d.body.now) (sound_parts g (form_trees d.body.now) (any_forms (form_trees d.body.now))))

  signed : AreSigned k (length t.scope) 0 (t.functions ++ sig ∷ [])
  signed = signed_all (length t.scope) (t.functions ++ sig ∷ []) safe

  within : Env
  within = record (function_env sig t) { scope = t.scope ++ names_of w.parameters; target = Some (length w.parameters) }

  stands : Stands g (length t.scope + length (names_of w.parameters)) within
  stands = (omega (arith, length-append t.scope (names_of w.parameters)), omega (arith, length-append t.scope (names_of w.parameters)), signed)

  by : (pass : Pass) → body_in pass w p (function_env sig t) s ≡ done b s2 → take (length s.bodies) s2.bodies ≡ s.bodies
  by Pass.First h = kept_if k (λ body. Well k (length (t.scope ++ names_of w.parameters)) (Some (length w.parameters)) body) (straight (Some (length w.parameters)) w p (function_env sig t) s) s s2 b h
      (sound_over_parameters g w p (length t.scope) (length t.scope + length (names_of w.parameters)) (omega (arith, names_length w.parameters)) (any_places w.parameters) body_sound within s stands)
  by Pass.Straight h = kept_if k (λ body. Well k (length t.scope + length (names_of w.parameters)) None body) (body_in Pass.Straight w p (function_env sig t) s) s s2 b h (body_makes k w p t sig s false (any_places w.parameters) body_sound signed)
  by Pass.Looped h = kept_if k (λ body. Well k (length t.scope + length (names_of w.parameters)) None body) (body_in Pass.Looped w p (function_env sig t) s) s s2 b h (body_makes k w p t sig s true (any_places w.parameters) body_sound signed)

-- safety goes on
pub safe_behind : (n : ℕ) (fs : List Signature) (f : Signature) → AreSafe n fs → AreBelow n f.hidden → (f.plain ≡ true → f.hidden ≡ []) → AreSafe n (fs ++ f ∷ [])
safe_behind n [] f s b h = (b, h, tt)
safe_behind n (g ∷ fs) f s b h = (s.0, s.1, safe_behind n fs f s.2 b h)

below_on : (n m : ℕ) (ks : List ℕ) → n ≤ m → AreBelow n ks → AreBelow m ks
below_on n m [] l s = tt
below_on n m (k ∷ ks) l s = (omega (arith, l, s.0), below_on n m ks l s.1)

pub safe_more : (n m : ℕ) (fs : List Signature) → n ≤ m → AreSafe n fs → AreSafe m fs
safe_more n m [] l s = tt
safe_more n m (f ∷ fs) l s = (below_on n m f.hidden l s.0, s.1, safe_more n m fs l s.2)

pub uses_safe : (n : ℕ) (t : Kernel) (seen : List ℕ) → AreBelow n seen → AreBelow n (uses n t seen)
uses_safe n t seen h = uses_below n t seen h

pub bare : (ks : List ℕ) (b : Bool) → (is_empty ks && b) ≡ true → ks ≡ []
bare [] b h = refl
bare (k ∷ ks) b h = cc
