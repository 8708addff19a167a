-- A run of additions to the first counter.
use Rattle.std.proofs.Common.{◌≡◌, ◌∙◌, ℕ, suc, ◌+◌, ◌^◌, ◌<◌, List, [], ◌∷◌, map, length, sym, refl, ap, subst, arith, mod-eq_of_lt}
use mathlib.Core.Option.{some, some-injective}
use lib.ListN.{get_elem?}
use Rattle.ca_turns.specs.declared.rule.Turn.{Turn}
use Rattle.ca_turns.specs.Places.{ReadsPlaces, write}
use Rattle.ca_turns.specs.History.{Run}
use Rattle.ca_turns_counters.specs.declared.counters.Event.{Event}
use Rattle.ca_turns_counters.specs.declared.counters.Event.TheVariants.{One}
use Rattle.ca_turns_counters.specs.Adding.{counters_added, counter_after, Adds}

one_step : (a : ℕ) (zs before after : List ℕ) → a + 1 < 2 ^ 64 → ReadsPlaces (a ∷ zs) (0 ∷ []) before → after ≡ map counter_after before → write (a ∷ zs) (0 ∷ []) after ≡ (a + 1) ∷ zs
one_step a zs [] after h r e = absurd r
one_step a zs (b ∷ []) after h r e = let is : a ≡ b = some-injective a b r.0 in ap (write (a ∷ zs) (0 ∷ [])) e ∙ ap (λ n. n ∷ zs) (ap counter_after (sym is) ∙ mod-eq_of_lt h)
one_step a zs (b ∷ c ∷ cs) after h r e = absurd r.1

pub ran : (log : List (Turn ℕ Event)) (a : ℕ) (zs last : List ℕ) → ((n : ℕ) (t : Turn ℕ Event) → get_elem? log n ≡ some t → t.event ≡ One 0) → a + length log < 2 ^ 64 → Run counters_added Adds (a ∷ zs) log last → last ≡ (a + length log) ∷ zs
ran [] a zs last all h r = sym r ∙ ap (λ n. n ∷ zs) (omega arith)
ran (t ∷ ts) a zs last all h r = let first = all 0 t refl in
    let s = ap (λ e. write (a ∷ zs) (counters_added e) t.after) first ∙ one_step a zs t.before t.after (omega arith) (subst (λ e. ReadsPlaces (a ∷ zs) (counters_added e) t.before) first r.0.0) r.0.1 in
    ran ts (a + 1) zs last (λ n u e. all (suc n) u e) (omega arith) (subst (λ l. Run counters_added Adds l ts last) s r.1) ∙ ap (λ n. n ∷ zs) (omega arith)
