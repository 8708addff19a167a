-- Texts that are laid out one after another.
use Rattle.std.proofs.Common.{◌≡◌, ℕ, zero, suc, ◌+◌, ◌<◌, List, [], ◌∷◌, ◌++◌, length, drop, Some, None, refl, sym, ap, ap₂, ◌∙◌, arith, append_assoc, append-nil}
use Rattle.std.specs.Prelude.{slice_get}
use Rattle.ca_term.specs.Program.{ProcedureView, arity}
use Rattle.ca_states.specs.declared.code.EntryPoint.{EntryPoint}
use Rattle.ca_lower.specs.Emit.{Builder, at_work, emit_text, emit_texts, text_entries, greater, widest, width_of}
use Rattle.ca_lower.proofs.GreaterLaws.{greater_zero, greater_none, greater_assoc}

-- so many of the texts are laid out
pub record AreLaid (fs : List ProcedureView) (n : ℕ) (B : Builder) (es : List EntryPoint) (w : ℕ) (B0 : Builder) : Type 0 where
  pub code : emit_texts (drop n fs) B ≡ emit_texts fs B0
  pub begin : es ++ text_entries (drop n fs) B ≡ text_entries fs B0
  pub wide : greater w (widest (drop n fs)) ≡ widest fs

pub laid_start : (fs : List ProcedureView) (B0 : Builder) (es : List EntryPoint) → es ≡ [] → AreLaid fs 0 B0 es 0 B0
laid_start fs B0 es e = record { code = refl; begin = ap (λ l. l ++ text_entries fs B0) e; wide = greater_zero (widest fs) }

drop_some : (fs : List ProcedureView) (n : ℕ) (t : ProcedureView) → slice_get fs n ≡ Some t → drop n fs ≡ t ∷ drop (n + 1) fs
drop_some [] n t h = absurd (let g : None ≡ Some t = h in cc)
drop_some (u ∷ fs) zero t h = ap (λ z. z ∷ fs) (let e : u ≡ t = cc in e)
drop_some (u ∷ fs) (suc n) t h = let f : suc n + 1 ≡ suc (n + 1) = omega arith in drop_some fs n t h ∙ ap (λ m. t ∷ drop m (u ∷ fs)) (sym f)

drop_none : (fs : List ProcedureView) (n : ℕ) → slice_get fs n ≡ None → drop n fs ≡ []
drop_none [] zero h = refl
drop_none [] (suc n) h = refl
drop_none (u ∷ fs) zero h = absurd (let g : Some u ≡ None = h in cc)
drop_none (u ∷ fs) (suc n) h = drop_none fs n h

pub got_within : (fs : List ProcedureView) (n : ℕ) (t : ProcedureView) → slice_get fs n ≡ Some t → n < length fs
got_within [] n t h = absurd (let g : None ≡ Some t = h in cc)
got_within (u ∷ fs) zero t h = omega arith
got_within (u ∷ fs) (suc n) t h = let r = got_within fs n t h in omega (arith, r)

pub laid_next : (fs : List ProcedureView) (n m : ℕ) (t : ProcedureView) (B B2 B0 : Builder) (es es2 : List EntryPoint) (w w2 : ℕ) → slice_get fs n ≡ Some t → m ≡ n + 1
    → B2 ≡ emit_text t B → es2 ≡ es ++ record { block = at_work B; values = arity t } ∷ [] → w2 ≡ greater w (width_of t) → AreLaid fs n B es w B0 → AreLaid fs m B2 es2 w2 B0
laid_next fs n m t B B2 B0 es es2 w w2 is em eb ee ew laid =
    let d : drop n fs ≡ t ∷ drop m fs = drop_some fs n t is ∙ ap (λ k. t ∷ drop k fs) (sym em) in
    let more = drop m fs in
    let one : EntryPoint = record { block = at_work B; values = arity t } in
    record {
      code = ap (emit_texts more) eb ∙ sym (ap (λ ts. emit_texts ts B) d) ∙ laid.code;
      begin = ap₂ (λ l b. l ++ text_entries more b) ee eb ∙ append_assoc es (one ∷ []) (text_entries more (emit_text t B)) ∙ sym (ap (λ ts. es ++ text_entries ts B) d) ∙ laid.begin;
      wide = ap (λ k. greater k (widest more)) ew ∙ greater_assoc w (width_of t) (widest more) ∙ sym (ap (λ ts. greater w (widest ts)) d) ∙ laid.wide;
    }

pub laid_code : (fs : List ProcedureView) (n : ℕ) (B B0 : Builder) (es : List EntryPoint) (w : ℕ) → slice_get fs n ≡ None → AreLaid fs n B es w B0 → B ≡ emit_texts fs B0
laid_code fs n B B0 es w is laid = sym (ap (λ ts. emit_texts ts B) (drop_none fs n is)) ∙ laid.code

pub laid_begin : (fs : List ProcedureView) (n : ℕ) (B B0 : Builder) (es : List EntryPoint) (w : ℕ) → slice_get fs n ≡ None → AreLaid fs n B es w B0 → es ≡ text_entries fs B0
laid_begin fs n B B0 es w is laid = sym (append-nil es) ∙ sym (ap (λ ts. es ++ text_entries ts B) (drop_none fs n is)) ∙ laid.begin

pub laid_wide : (fs : List ProcedureView) (n : ℕ) (B B0 : Builder) (es : List EntryPoint) (w : ℕ) → slice_get fs n ≡ None → AreLaid fs n B es w B0 → w ≡ widest fs
laid_wide fs n B B0 es w is laid = sym (greater_none w) ∙ sym (ap (λ ts. greater w (widest ts)) (drop_none fs n is)) ∙ laid.wide
