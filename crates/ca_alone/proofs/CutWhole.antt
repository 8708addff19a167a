-- A journal whose last event alone may use the budget up, or end the main text, is kept whole where it is cut.
use Rattle.std.proofs.Common.{◌≡◌, ◌∙◌, ℕ, zero, suc, ◌+◌, ◌-◌, ◌<◌, ◌≤◌, List, [], ◌∷◌, refl, sym, ap, arith, Bool, true, false, Option, Some, None}
use Rattle.std.specs.Prelude.{option_map, nat_le}
use Rattle.std.proofs.lemmas.Bool.Decides.{nat_tests}
use Rattle.ca_term.specs.declared.event.Ending.TheVariants.{Ended, Faulted}
use Rattle.ca_term.specs.Cost.{cost_of}
use Rattle.ca_term.specs.Event.{EventView, made, spawned, done, met, parked, posted, settled, defaulted, closed, registered, printed, ticked, over}
use Rattle.ca_meaning.specs.Cost.{cost}
use Rattle.ca_meaning.specs.Ends.{but_last}
use Rattle.ca_meaning.specs.Legal.{EndsLast, is_end_of_main}
use Rattle.ca_journal.specs.Cut.{End, end_in, first_end, kept, main_end, one_later, stops_at}
use Rattle.ca_journal.specs.declared.cut.CutAt.{CutAt}

-- an end of the main text
ends_main : (e : EventView) (at : CutAt) → main_end e ≡ Some at → is_end_of_main e ≡ true
ends_main (over zero Ended) at e = refl
ends_main (over zero (Faulted f p r)) at e = refl
ends_main (over (suc t) how) at e = absurd (let k : None ≡ Some at = e in cc)
ends_main (made t p what moment) at e = absurd (let k : None ≡ Some at = e in cc)
ends_main (spawned t u kind r) at e = absurd (let k : None ≡ Some at = e in cc)
ends_main (done t n b a) at e = absurd (let k : None ≡ Some at = e in cc)
ends_main (met t n side p v w o) at e = absurd (let k : None ≡ Some at = e in cc)
ends_main (parked t w bs) at e = absurd (let k : None ≡ Some at = e in cc)
ends_main (posted t w p v) at e = absurd (let k : None ≡ Some at = e in cc)
ends_main (settled w n side p v) at e = absurd (let k : None ≡ Some at = e in cc)
ends_main (defaulted t v) at e = absurd (let k : None ≡ Some at = e in cc)
ends_main (closed t p) at e = absurd (let k : None ≡ Some at = e in cc)
ends_main (registered t name args v) at e = absurd (let k : None ≡ Some at = e in cc)
ends_main (printed t line) at e = absurd (let k : None ≡ Some at = e in cc)
ends_main (ticked m ports) at e = absurd (let k : None ≡ Some at = e in cc)

unspent : (left n : ℕ) → nat_le left n ≡ true → left ≤ n
unspent left n t = grind (arith, nat_tests)

kept_later : (e : EventView) (es : List EventView) (o : Option End) → kept o es ≡ es → kept (option_map one_later o) (e ∷ es) ≡ e ∷ es
kept_later e es None k = refl
kept_later e es (Some c) k = ap (λ l. e ∷ l) k

kept_whole : (left : ℕ) (es : List EventView) → cost (but_last es) < left → EndsLast es → kept (first_end left es) es ≡ es
kept_whole left [] lt on = refl
kept_whole left (e ∷ []) lt on = by (main_end e) (nat_le left (cost_of e)) where
  by : (a : Option CutAt) (b : Bool) → kept (stops_at a b None) (e ∷ []) ≡ e ∷ []
  by (Some at) b = refl
  by None true = refl
  by None false = refl
kept_whole left (e ∷ (f ∷ es)) lt on = by (main_end e) refl (nat_le left (cost_of e)) refl (kept_whole (left - cost_of e) (f ∷ es) (let less : cost_of e + cost (but_last (f ∷ es)) < left = lt in omega (arith, less)) on.1) where
  by : (a : Option CutAt) → main_end e ≡ a → (b : Bool) → nat_le left (cost_of e) ≡ b → kept (first_end (left - cost_of e) (f ∷ es)) (f ∷ es) ≡ f ∷ es → kept (stops_at a b (first_end (left - cost_of e) (f ∷ es))) (e ∷ (f ∷ es)) ≡ e ∷ (f ∷ es)
  by (Some at) is b t k = absurd (let z : false ≡ true = sym on.0 ∙ ends_main e at is in cc)
  by None is true t k = absurd (let le = unspent left (cost_of e) t in let less : cost_of e + cost (but_last (f ∷ es)) < left = lt in omega (arith, le, less))
  by None is false t k = kept_later e (f ∷ es) (first_end (left - cost_of e) (f ∷ es)) k

pub cut_whole : (budget : ℕ) (es : List EventView) → cost (but_last es) < budget → EndsLast es → kept (end_in budget es) es ≡ es
cut_whole zero es lt on = refl
cut_whole (suc n) es lt on = kept_whole (suc n) es lt on
