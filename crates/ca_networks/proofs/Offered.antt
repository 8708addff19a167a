-- What a task offers at an event, by its deed.
use Rattle.std.proofs.Common.{◌≡◌, ℕ, List, [], ◌∷◌, ◌++◌, refl, ap, ◌∙◌, Bool, true, false, cond, Option, Some, None, eqb, append-nil}
use Rattle.std.proofs.lemmas.Grind.{flat_map-append}
use Rattle.ca_value.specs.Tree.{Tree, bool}
use Rattle.ca_term.specs.declared.event.Side.TheVariants.{Take, Put}
use Rattle.ca_term.specs.Program.{ProgramView}
use Rattle.ca_term.specs.Event.{take_of, put_of, EventView, made, spawned, done, met, parked, posted, settled, defaulted, closed, registered, printed, ticked, over as is_over}
use Rattle.ca_meaning.specs.EndsLaw.{is_of}
use Rattle.ca_meaning.specs.WaitLaw.{Told}
use Rattle.ca_meaning.specs.State.{Task, Mode, running, waiting, over}
use Rattle.ca_laws.specs.Deeds.{Deed, did_take, did_put, did_wait, did_post, did_default, did_make, did_spawn, did_close, did_register, did_print, did_end, deed}
use Rattle.ca_laws.proofs.Acts.{wait_of}
use Rattle.ca_networks.specs.Networks.{put_value, offers_at, offered}

pub offered_more : (t : ℕ) (es : List EventView) (e : EventView) → offered t (es ++ e ∷ []) ≡ offered t es ++ offers_at t e
offered_more t es e = flat_map-append (offers_at t) es (e ∷ []) ∙ ap (λ z. offered t es ++ z) (append-nil (offers_at t e))

-- of a task that runs
abbrev pub tells : Option Deed → List Tree
tells None = []
tells (Some (did_put k p v a)) = v ∷ []
tells (Some (did_wait w bs)) = put_value bs
tells (Some d) = []

abbrev pub tells_in : Mode → Option Deed → List Tree
tells_in running d = tells d
tells_in (waiting n) d = []
tells_in over d = tells d

either : (P : Bool → Type 0) → P true → P false → (b : Bool) → P b
either P x y true = x
either P x y false = y

offers_alone : (t : ℕ) (e : EventView) → offers_at t e ≡ tells (deed t None e)
offers_alone t (done u k (take_of p) a) = either (λ b. [] ≡ tells (cond b (Some (did_take k p a)) None)) refl refl (eqb u t)
offers_alone t (done u k (put_of p v) a) = either (λ b. cond b (v ∷ []) [] ≡ tells (cond b (Some (did_put k p v a)) None)) refl refl (eqb u t)
offers_alone t (met u k Take p v w j) = either (λ b. [] ≡ tells (cond b (Some (did_take k p v)) None)) refl refl (eqb u t)
offers_alone t (met u k Put p v w j) = either (λ b. cond b (v ∷ []) [] ≡ tells (cond b (Some (did_put k p v (bool true))) None)) refl refl (eqb u t)
offers_alone t (parked u w bs) = either (λ b. cond b (put_value bs) [] ≡ tells (cond b (Some (did_wait w bs)) None)) refl refl (eqb u t)
offers_alone t (made u p what m) = either (λ b. [] ≡ tells (cond b (Some (did_make p what m)) None)) refl refl (eqb u t)
offers_alone t (spawned u n kind r) = either (λ b. [] ≡ tells (cond b (Some (did_spawn n kind r)) None)) refl refl (eqb u t)
offers_alone t (posted u w p v) = either (λ b. [] ≡ tells (cond b (Some (did_post w p v)) None)) refl refl (eqb u t)
offers_alone t (settled w k side p v) = refl
offers_alone t (defaulted u v) = either (λ b. [] ≡ tells (cond b (Some (did_default v)) None)) refl refl (eqb u t)
offers_alone t (closed u p) = either (λ b. [] ≡ tells (cond b (Some (did_close p)) None)) refl refl (eqb u t)
offers_alone t (registered u name args v) = either (λ b. [] ≡ tells (cond b (Some (did_register name args v)) None)) refl refl (eqb u t)
offers_alone t (printed u line) = either (λ b. [] ≡ tells (cond b (Some (did_print line)) None)) refl refl (eqb u t)
offers_alone t (ticked m ports) = refl
offers_alone t (is_over u how) = either (λ b. [] ≡ tells (cond b (Some (did_end how)) None)) refl refl (eqb u t)

-- the event of another task, or of none
pub offers_away : (t : ℕ) (e : EventView) → is_of t e ≡ false → offers_at t e ≡ []
offers_away t (done u k (take_of p) a) f = refl
offers_away t (done u k (put_of p v) a) f = ap (λ b. cond b (v ∷ []) []) f
offers_away t (met u k Take p v w j) f = refl
offers_away t (met u k Put p v w j) f = ap (λ b. cond b (v ∷ []) []) f
offers_away t (parked u w bs) f = ap (λ b. cond b (put_value bs) []) f
offers_away t (made u p what m) f = refl
offers_away t (spawned u n kind r) f = refl
offers_away t (posted u w p v) f = refl
offers_away t (settled w k side p v) f = refl
offers_away t (defaulted u v) f = refl
offers_away t (closed u p) f = refl
offers_away t (registered u name args v) f = refl
offers_away t (printed u line) f = refl
offers_away t (ticked m ports) f = refl
offers_away t (is_over u how) f = refl

pub offers_told : (program : ProgramView) (t : ℕ) (x y : Task) (e : EventView) (m : Mode) → Told program t m x e y → offers_at t e ≡ tells_in m (deed t (wait_of m) e)
offers_told program t x y e running k = offers_alone t e
offers_told program t x y e (waiting n) k = offers_away t e k.0
offers_told program t x y e over k = offers_alone t e
