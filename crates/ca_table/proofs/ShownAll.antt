-- The journal of the one history is that of all turns of the workers.
use Rattle.std.proofs.Common.{◌≡◌, ℕ, List, sym, subst}
use mathlib.Core.Option.{some}
use lib.ListN.{get_elem?}
use Rattle.ca_term.specs.Event.{EventView}
use Rattle.ca_turns.specs.History.{IsNumbered}
use Rattle.ca_turns.specs.Steps.{IsWhole}
use Rattle.ca_turns.specs.declared.rule.Turn.{Turn}
use Rattle.ca_turns.specs.declared.rule.View.{View}
use Rattle.ca_table.specs.Members.{In}
use Rattle.ca_table.specs.Running.{shown_by}
use Rattle.ca_table.specs.Seen.{PartSeen}
use Rattle.ca_table.specs.Worked.{ShowsAll}
use Rattle.ca_table.specs.Workers.{turns_of}
use Rattle.ca_table.specs.declared.drawn.Drawn.{Drawn}
use Rattle.ca_table.specs.declared.worker.Worker.{Worker}
use Rattle.ca_table.proofs.Gathers.{at_in, in_at}
use Rattle.ca_table.proofs.Having.{by_drawn, drawn_by}

module _ {A C : Type 0} where
  pub shows_all : {journal : List EventView} (xs : List (Worker A C)) (v : View (PartSeen A) Drawn) (log : List (Turn (PartSeen A) Drawn)) → IsNumbered log → ((k : ℕ) (t : Turn (PartSeen A) Drawn) → get_elem? v.turns k ≡ some t → get_elem? log t.number ≡ some t) → IsWhole v log
      → v.turns ≡ turns_of xs → journal ≡ shown_by log → ShowsAll {A = A} {C = C} xs journal
  shows_all xs v log numbered mine whole all shown = record { log = log; numbered = numbered; drawn = λ t. (λ i. drawn_by t xs (subst (In t) all (of_log t i)), λ d. to_log t (subst (In t) (sym all) (by_drawn t xs d))); shown = shown } where
    of_log : (t : Turn (PartSeen A) Drawn) → In t log → In t v.turns
    of_log t i = let k = in_at log t i in let r = whole.1 k.0 t k.1 in at_in v.turns r.0 t r.1

    to_log : (t : Turn (PartSeen A) Drawn) → In t v.turns → In t log
    to_log t i = let k = in_at v.turns t i in at_in log t.number t (mine k.0 t k.1)
