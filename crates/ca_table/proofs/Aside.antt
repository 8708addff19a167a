-- An event that leaves the lane alone, which the worker carries too.
use Rattle.std.proofs.Common.{◌≡◌, ◌∙◌, ℕ, ◌<◌, List, map, refl, sym, ap, subst, arith, Bool, true, false, cond, Option, Some, None, eqb, eqb-true, is_some}
use Rattle.ca_value.specs.Tree.{Tree}
use Rattle.ca_term.specs.Operation.{SeedView}
use Rattle.ca_term.specs.Program.{ProgramView}
use Rattle.ca_meaning.specs.Body.{At}
use Rattle.ca_meaning.specs.Task.{TaskBody}
use Rattle.ca_states.specs.Code.{CodeView}
use Rattle.ca_states.specs.ValidCode.{valid_code}
use Rattle.ca_states.specs.declared.valid_code.ValidCode.{ValidCode}
use Rattle.ca_turns.specs.Hands.{TableId}
use Rattle.ca_turns.specs.Places.{AllIn}
use Rattle.ca_commit.specs.Gathered.{Alike, kind_of_part}
use Rattle.ca_commit.specs.Moving.{Moves}
use Rattle.ca_commit.specs.Touched as said
use Rattle.ca_table.specs.Beside.{beside_lane, settled_beside}
use Rattle.ca_table.specs.Carriers.{HasCode, IsCarrying, IsMoved, is_now, was}
use Rattle.ca_table.specs.Carrying.{AreSorted, Carries, EachCarried, at_places, each_by, lane_place}
use Rattle.ca_table.specs.Covering.{Covers}
use Rattle.ca_table.specs.Draws.{drawn_code, drawn_moves, drawn_touches, drawn_view}
use Rattle.ca_table.specs.Grips.{Grips, HasAll, is_place_among, settle, settled_contents, settled_one, values}
use Rattle.ca_table.specs.OneCode.{AllCoded, advances_over, gives_over, starts_over}
use Rattle.ca_table.specs.Parts.{part_seen}
use Rattle.ca_table.specs.Seen.{PartSeen, content_of}
use Rattle.ca_table.specs.Workers.{IsOne}
use Rattle.ca_table.specs.declared.drawn.Drawn.{Drawn}
use Rattle.ca_table.specs.declared.part.Part.{Part}
use Rattle.ca_table.specs.declared.worker.Worker.{Worker}
use Rattle.ca_table.proofs.Carried.{at_each, at_place, each_at, each_settled, each_weaker, each_without, placed, sorted_alike, sorted_settled, sorted_without}
use Rattle.ca_table.proofs.Carriers.{have_settled, have_values}
use Rattle.ca_table.proofs.Covered.{covered}
use Rattle.ca_table.proofs.Moved.{all_among, moved}

module _ {P C : Type 0} (content : P → C) (d : said.Drawn) (h : Carries (P × C)) (lt : d.worker < d.workers) (c : Covers d (beside_lane h)) where
  abbrev all : ℕ → Option (P × C)
  all = at_places d.workers d.worker h

  abbrev rest : ℕ → Option (P × C)
  rest = at_places d.workers d.worker (beside_lane h)

  rest_is : (j : ℕ) → rest j ≡ cond (eqb d.worker j) None (all j)
  rest_is j = ap (λ (f : ℕ → Option (P × C)). f j) (placed d.workers d.worker lt lane_place tt None h)

  same_there : (i : ℕ) → is_place_among i (said.touches d) ≡ true → all i ≡ rest i
  same_there i e = by (eqb d.worker i) (sym (ap is_some (rest_is i)) ∙ sym (covered d (beside_lane h) lt c i) ∙ e) ∙ sym (rest_is i) where
    by : (b : Bool) → is_some (cond b None (all i)) ≡ true → all i ≡ cond b None (all i)
    by true s = absurd (let z : false ≡ true = s in cc)
    by false s = refl

  -- the hand has more than what is touched
  pub same_touched : AllIn (λ i. all i ≡ rest i) (said.touches d)
  same_touched = all_among (λ i. all i ≡ rest i) (said.touches d) same_there

  settled_is : (j : ℕ) → at_places d.workers d.worker (settled_beside content h) j ≡ cond (eqb d.worker j) h.lane (settled_one content (rest j))
  settled_is j = ap (λ (f : ℕ → Option (P × C)). f j) (placed d.workers d.worker lt lane_place tt h.lane (each_by (settled_one content) (beside_lane h)))
      ∙ ap (λ o. cond (eqb d.worker j) h.lane o) (at_each (settled_one content) d.workers d.worker (beside_lane h) refl j)

  -- once all but the lane is settled
  pub settles_rest : settle content (said.touches d) all ≡ at_places d.workers d.worker (settled_beside content h)
  settles_rest = λ t j. (by j (eqb d.worker j) refl (is_place_among j (said.touches d)) (covered d (beside_lane h) lt c j ∙ ap is_some (rest_is j)) ∙ ap (λ o. cond (eqb d.worker j) h.lane (settled_one content o)) (sym (rest_is j)) ∙ sym (settled_is j)) t where
    outside : (o : Option (P × C)) (s : Bool) → s ≡ is_some o → cond s (settled_one content o) o ≡ settled_one content o
    outside None true e = refl
    outside None false e = refl
    outside (Some x) true e = refl
    outside (Some x) false e = absurd (let z : false ≡ true = e in cc)

    by : (j : ℕ) (b : Bool) → eqb d.worker j ≡ b → (s : Bool) → s ≡ is_some (cond b None (all j)) → cond s (settled_one content (all j)) (all j) ≡ cond b h.lane (settled_one content (cond b None (all j)))
    by j true e true s = absurd (let z : true ≡ false = s in cc)
    by j true e false s = ap all (sym (eqb-true d.worker j e)) ∙ at_place d.workers d.worker lt lane_place tt h
    by j false e s r = outside (all j) s r

module _ {A C : Type 0} (over : CodeView → A → Type 0) (place : A → At) (advances : ProgramView → A → A → Type 0) (gives : A → Tree → A → Type 0) (starts : ProgramView → SeedView → A → Type 0) (least faults : C → ℕ) (readings : C → Option (List ℕ))
    (stands_as : ProgramView → A → TaskBody → Type 0) (program : ProgramView) (code : ValidCode) (id : TableId) (n : ℕ) (w : Worker A C) (d : Drawn) (h : Carries (Part A C × PartSeen A))
    (s : IsCarrying over stands_as program code id n w h) (m : IsMoved over place advances gives starts (part_seen least faults readings) code n w.number (drawn_view d) (beside_lane h)) (of_code : drawn_code d ≡ valid_code code) where
  abbrev seen : Part A C → PartSeen A
  seen = part_seen least faults readings

  below : d.worker < d.workers
  below = let a = s.one.below in let b = m.by in let c = m.of in omega (arith, a, b, c)

  abbrev at : ℕ → Option (Part A C × PartSeen A)
  at = at_places d.workers d.worker h

  gripped : Grips w.hand at
  gripped = subst (λ (k : ℕ). Grips w.hand (at_places k d.worker h)) (sym m.of) (subst (λ (k : ℕ). Grips w.hand (at_places n k h)) (sym m.by) s.grips)

  abbrev before : List (PartSeen A)
  before = settled_contents at (drawn_touches d)

  abbrev after : List (PartSeen A)
  after = map seen (values at (drawn_touches d))

  -- the event over that code moves the touched parts, which have it
  abbrev MovedOver : CodeView → Type 0
  MovedOver K = AllCoded K before after × Moves place (advances_over over K advances) (gives_over over K gives) (starts_over over K starts) (drawn_view d) (map content_of before) (map content_of after)

  has_code : (i : ℕ) (x : Part A C × PartSeen A) → at i ≡ Some x → HasCode (valid_code code) x
  has_code = each_at (HasCode (valid_code code)) d.workers d.worker h s.coded

  sorted_rest : AreSorted was (beside_lane h)
  sorted_rest = sorted_without was lane_place h tt s.sorted

  -- it may draw the event
  pub may_draw_aside : (g : ℕ → Option (Part A C × PartSeen A)) × Grips w.hand g × HasAll g (drawn_touches d) × drawn_moves over place advances gives starts d (settled_contents g (drawn_touches d)) (map seen (values g (drawn_touches d)))
  may_draw_aside = let K = valid_code code in
      let r = moved place (advances_over over K advances) (gives_over over K gives) (starts_over over K starts) content_of seen (drawn_view d) (beside_lane h) below m.covers sorted_rest m.alike m.moves at (same_touched seen (drawn_view d) h below m.covers) in
      (at, gripped, r.0, subst MovedOver (sym of_code) ((have_settled K at (drawn_touches d) has_code, have_values least faults readings K at (drawn_touches d) has_code), r.1))

  sorted_after : AreSorted was (each_by (settled_one seen) (beside_lane h))
  sorted_after = sorted_settled content_of seen (beside_lane h) (sorted_alike was (is_now seen) (beside_lane h) sorted_rest (each_weaker (λ x. Alike d.workers (was x) (is_now seen x)) (λ x. kind_of_part (is_now seen x).held ≡ kind_of_part (was x).held) (λ x a. a.2) (beside_lane h) m.alike))

  coded_after : EachCarried (HasCode (valid_code code)) (each_by (settled_one seen) (beside_lane h))
  coded_after = each_settled seen (HasCode (valid_code code)) (λ x c. (c.0, c.0)) (beside_lane h) (each_without (HasCode (valid_code code)) lane_place h s.coded)

  -- once it drew it, all that it carries beside the lane is settled
  pub drew_aside : (v : Worker A C) → IsOne over stands_as program (valid_code code) id n v → v.number ≡ w.number → ((g : ℕ → Option (Part A C × PartSeen A)) → Grips w.hand g → Grips v.hand (settle seen (drawn_touches d) g))
      → IsCarrying over stands_as program code id n v (settled_beside seen h)
  drew_aside v one same grips = record {
    one = one;
    grips = subst (λ (k : ℕ). Grips v.hand (at_places n k (settled_beside seen h))) (m.by ∙ sym same) (subst (λ (k : ℕ). Grips v.hand (at_places k d.worker (settled_beside seen h))) m.of
        (subst (λ (g : ℕ → Option (Part A C × PartSeen A)). Grips v.hand g) (settles_rest seen (drawn_view d) h below m.covers) (grips at gripped)));
    sorted = record { lane = s.sorted.lane; banks = sorted_after.banks; shards = sorted_after.shards; timers = sorted_after.timers; ready = sorted_after.ready; few_banks = sorted_after.few_banks; few_shards = sorted_after.few_shards };
    coded = record { lane = s.coded.lane; banks = coded_after.banks; shards = coded_after.shards; timers = coded_after.timers; ready = coded_after.ready };
  }
