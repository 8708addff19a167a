-- What a worker carries after its calls.
use Rattle.std.proofs.Common.{◌≡◌, ◌∙◌, ℕ, ◌+◌, ◌<◌, ◌≤◌, List, [], ◌∷◌, map, refl, sym, ap, subst, arith, Bool, true, false, cond, Option, Some, None, eqb, eqb-true, nat_lt}
use Rattle.std.proofs.lemmas.Bool.{le-ltb, lt-ltb}
use Rattle.std.specs.Map.{update}
use mathlib.Core.Option as core
use lib.ListN.{get_elem?}
use Rattle.ca_value.specs.Tree.{Tree}
use Rattle.ca_term.specs.Operation.{SeedView}
use Rattle.ca_term.specs.Program.{ProgramView, program_view}
use Rattle.ca_meaning.specs.Body.{At}
use Rattle.ca_meaning.specs.Task.{TaskBody}
use Rattle.ca_states.specs.Code.{CodeView}
use Rattle.ca_states.specs.ValidCode.{valid_code}
use Rattle.ca_states.specs.declared.valid_code.ValidCode.{ValidCode}
use Rattle.ca_turns.specs.Hands.{Held, IsHolding, IsNone, TableId}
use Rattle.ca_turns.specs.Places.{AllIn}
use Rattle.ca_turns.specs.Views.{hands_stood_for}
use Rattle.ca_commit.specs.Gathered.{Alike, Kind, bank_kind, kind_at, kind_of_part, lane_kind, ready_kind, shard_kind, timers_kind}
use Rattle.ca_commit.specs.Moving.{Moves}
use Rattle.ca_commit.specs.Touched as said
use Rattle.ca_table.specs.Carriers.{HasCode, IsCarrying, IsMoved, LaneBox, is_now, just_lane, was}
use Rattle.ca_table.specs.Carrying.{AreSorted, Carries, EachCarried, IsPlace, Place, at_places, bank_place, each_by, kind_there, lane_place, nothing_carried, number_at, part_at, ready_place, shard_place, timers_place, with_at}
use Rattle.ca_table.specs.Covering.{plain_drawn}
use Rattle.ca_table.specs.Draws.{drawn_allows, drawn_code, drawn_moves, drawn_touches, drawn_view}
use Rattle.ca_table.specs.Grips.{Grips, HasAll, SameTurns, add_settled, add_value, no_grip, settle, settled_contents, settled_one, values}
use Rattle.ca_table.specs.LoneHands.{left_now}
use Rattle.ca_table.specs.OneCode.{AllCoded, HaveCode, advances_over, gives_over, starts_over}
use Rattle.ca_table.specs.Parts.{part_away, contents_seen, part_of, part_seen}
use Rattle.ca_table.specs.Seen.{PartSeen, content_of, held_of}
use Rattle.ca_table.specs.Workers.{IsOne, IsSeated, KeepsLeft, part_of_lane}
use Rattle.ca_table.specs.declared.drawn.Drawn.{Drawn}
use Rattle.ca_table.specs.declared.part.Contents.{Contents}
use Rattle.ca_table.specs.declared.part.Contents.TheVariants as V
use Rattle.ca_table.specs.declared.part.Lane.{Lane}
use Rattle.ca_table.specs.declared.part.Part.{Part}
use Rattle.ca_table.specs.declared.worker.Worker.{Worker}
use Rattle.ca_table.proofs.Carried.{at_place, each_at, each_nothing, each_settled, each_there, each_weaker, each_with, each_without, everywhere, part_here, placed, sorted_alike, sorted_at, sorted_nothing, sorted_settled, sorted_with, sorted_without, with_none, with_twice}
use Rattle.ca_table.proofs.Carrying.{at_bank, at_ready, at_shard, at_timers, below_n}
use Rattle.ca_table.proofs.Gripping.{fit, held_is}
use Rattle.ca_table.proofs.Moved.{moved, none_aside, settles}
use Rattle.ca_table.proofs.Seats.{same_one, with_hand}

module _ (n : ℕ) where
  abbrev tests : Bool → Bool → Bool → Bool → Kind
  tests a b c d = cond a lane_kind (cond b bank_kind (cond c shard_kind (cond d timers_kind ready_kind)))

  from_lanes : (i : ℕ) → n ≤ i → kind_at n i ≡ tests false (nat_lt i (n + 16)) (nat_lt i (n + 32)) (nat_lt i (n + 33))
  from_lanes i le = ap (λ a. tests a (nat_lt i (n + 16)) (nat_lt i (n + 32)) (nat_lt i (n + 33))) (le-ltb i n le)

  from_banks : (i : ℕ) → n + 16 ≤ i → kind_at n i ≡ tests false false (nat_lt i (n + 32)) (nat_lt i (n + 33))
  from_banks i le = from_lanes i (omega (arith, le)) ∙ ap (λ b. tests false b (nat_lt i (n + 32)) (nat_lt i (n + 33))) (le-ltb i (n + 16) le)

  from_shards : (i : ℕ) → n + 32 ≤ i → kind_at n i ≡ tests false false false (nat_lt i (n + 33))
  from_shards i le = from_banks i (omega (arith, le)) ∙ ap (λ c. tests false false c (nat_lt i (n + 33))) (le-ltb i (n + 32) le)

  -- the kind of a part is that of its place
  pub kind_placed : (w : ℕ) → w < n → (z : Place) → IsPlace z → kind_at n (number_at n w z) ≡ kind_there z
  kind_placed w lt lane_place is = ap (λ a. tests a (nat_lt w (n + 16)) (nat_lt w (n + 32)) (nat_lt w (n + 33))) (lt-ltb w n lt)
  kind_placed w lt (bank_place i) is = from_lanes (n + i) (omega arith) ∙ ap (λ b. tests false b (nat_lt (n + i) (n + 32)) (nat_lt (n + i) (n + 33))) (lt-ltb (n + i) (n + 16) (omega (arith, is)))
  kind_placed w lt (shard_place i) is = from_banks (n + 16 + i) (omega arith) ∙ ap (λ c. tests false false c (nat_lt (n + 16 + i) (n + 33))) (lt-ltb (n + 16 + i) (n + 32) (omega (arith, is)))
  kind_placed w lt timers_place is = from_shards (n + 32) (omega arith) ∙ ap (λ d. tests false false false d) (lt-ltb (n + 32) (n + 33) (omega arith))
  kind_placed w lt (ready_place r) is = from_shards (n + 33 + r) (omega arith) ∙ ap (λ d. tests false false false d) (le-ltb (n + 33 + r) (n + 33) (omega arith))

same_all : {X : Type 0} (g : ℕ → Option X) (is : List ℕ) → AllIn (λ i. g i ≡ g i) is
same_all g [] = tt
same_all g (i ∷ is) = (refl, same_all g is)

module _ {A C : Type 0} (over : CodeView → A → Type 0) (stands_as : ProgramView → A → TaskBody → Type 0) (program : ProgramView) (code : ValidCode) (id : TableId) (n : ℕ) (w : Worker A C) where
  abbrev Carry : Type 0
  Carry = Carries (Part A C × PartSeen A)

  abbrev Has : Worker A C → Carry → Type 0
  Has = IsCarrying over stands_as program code id n

  abbrev Coded : Part A C × PartSeen A → Type 0
  Coded = HasCode (valid_code code)

  module _ (hand : Held (Part A C) (PartSeen A) Drawn) (same : SameTurns w.hand hand) (keeps : KeepsLeft w.hand.view hand.view) (at : ℕ) (z : Place) (is : IsPlace z) (e : at ≡ number_at n w.number z) where
    at_one : (o : Option (Part A C × PartSeen A)) (h : Carry) → IsOne over stands_as program (valid_code code) id n w → Grips hand (update eqb (at_places n w.number h) at o) → Grips hand (at_places n w.number (with_at z o h))
    at_one o h one g = subst (λ (f : ℕ → Option (Part A C × PartSeen A)). Grips hand f) (sym (placed n w.number one.below z is o h)) (subst (λ (k : ℕ). Grips hand (update eqb (at_places n w.number h) k o)) e g)

    -- it holds one more part, which was moved out
    pub held_more : (least faults : C → ℕ) (readings : C → Option (List ℕ)) (x : Contents A C) (h : Carry) → kind_of_part (held_of (contents_seen least faults readings x)) ≡ kind_at w.workers at
        → ((g : ℕ → Option (Part A C × PartSeen A)) → Grips w.hand g → Grips hand (update eqb g at (Some (part_away w.workers code, part_seen least faults readings (part_of w.workers code x))))) → Has w h → Has (with_hand w hand) (with_at z (Some (part_away n code, part_seen least faults readings (part_of n code x))) h)
    held_more least faults readings x h kind more s = record {
      one = same_one over stands_as program (valid_code code) id n w hand same keeps s.one;
      grips = at_one (Some (part_away n code, part_seen least faults readings (part_of n code x))) h s.one (subst (λ (k : ℕ). Grips hand (update eqb (at_places n w.number h) at (Some (part_away k code, part_seen least faults readings (part_of k code x))))) s.one.of (more (at_places n w.number h) s.grips));
      sorted = sorted_with was z (part_away n code, part_seen least faults readings (part_of n code x)) h is (kind ∙ ap (λ (k : ℕ). kind_at k at) s.one.of ∙ ap (kind_at n) e ∙ kind_placed n w.number s.one.below z is) s.sorted;
      coded = each_with Coded z (part_away n code, part_seen least faults readings (part_of n code x)) h (refl, refl) s.coded;
    }

    pub there : (o : Option (Part A C × PartSeen A)) (h : Carry) → Has w (with_at z o h) → at_places n w.number (with_at z o h) at ≡ o
    there o h s = ap (at_places n w.number (with_at z o h)) e ∙ at_place n w.number s.one.below z is (with_at z o h) ∙ part_here z o h

    -- another part stands there, with what was settled
    pub put_there : (x : Contents A C) (h : Carry) (y : Part A C) (c : PartSeen A) → ((g : ℕ → Option (Part A C × PartSeen A)) (x0 : Part A C) (c : PartSeen A) → g at ≡ Some (x0, c) → Grips w.hand g → Grips hand (update eqb g at (Some (part_of w.workers code x, c))))
        → Has w (with_at z (Some (y, c)) h) → Has (with_hand w hand) (with_at z (Some (part_of n code x, c)) h)
    put_there x h y c puts s = subst (λ (k : ℕ). Has (with_hand w hand) (with_at z (Some (part_of k code x, c)) h)) s.one.of (record {
      one = same_one over stands_as program (valid_code code) id n w hand same keeps s.one;
      grips = subst (λ (k : Carry). Grips hand (at_places n w.number k)) (with_twice z (Some (y, c)) other h) (at_one other (with_at z (Some (y, c)) h) s.one (puts (at_places n w.number (with_at z (Some (y, c)) h)) y c (there (Some (y, c)) h s) s.grips));
      sorted = subst (λ (k : Carry). AreSorted was k) (with_twice z (Some (y, c)) other h) (sorted_with was z (part_of w.workers code x, c) (with_at z (Some (y, c)) h) is (sorted_at was z (with_at z (Some (y, c)) h) (y, c) s.sorted (part_here z (Some (y, c)) h)) s.sorted);
      coded = subst (λ (k : Carry). EachCarried Coded k) (with_twice z (Some (y, c)) other h) (each_with Coded z (part_of w.workers code x, c) (with_at z (Some (y, c)) h) (refl, (each_there Coded z (with_at z (Some (y, c)) h) (y, c) s.coded (part_here z (Some (y, c)) h)).1) s.coded);
    }) where
      other : Option (Part A C × PartSeen A)
      other = Some (part_of w.workers code x, c)

    -- it is given back
    pub given_there : (h : Carry) (o : Option (Part A C × PartSeen A)) → part_at z h ≡ None → ((g : ℕ → Option (Part A C × PartSeen A)) → Grips w.hand g → Grips hand (update eqb g at None)) → Has w (with_at z o h) → Has (with_hand w hand) h
    given_there h o none gives s = record {
      one = same_one over stands_as program (valid_code code) id n w hand same keeps s.one;
      grips = subst (λ (k : Carry). Grips hand (at_places n w.number k)) without (at_one None (with_at z o h) s.one (gives (at_places n w.number (with_at z o h)) s.grips));
      sorted = subst (λ (k : Carry). AreSorted was k) without (sorted_without was z (with_at z o h) is s.sorted);
      coded = subst (λ (k : Carry). EachCarried Coded k) without (each_without Coded z (with_at z o h) s.coded);
    } where
      without : with_at z None (with_at z o h) ≡ h
      without = with_twice z o None h ∙ with_none z h none

  module _ (at : ℕ) (z : Place) (is : IsPlace z) (e : at ≡ number_at n w.number z) (h : Carry) (x : Part A C × PartSeen A) (s : Has w (with_at z (Some x) h)) where
    pub found : at_places n w.number (with_at z (Some x) h) at ≡ Some x
    found = ap (at_places n w.number (with_at z (Some x) h)) e ∙ at_place n w.number s.one.below z is (with_at z (Some x) h) ∙ part_here z (Some x) h

    -- what it carries is in its hand
    pub in_hand : (get_elem? w.hand.parts at ≡ core.some (Some x.0)) × (get_elem? w.hand.view.held at ≡ core.some (Some x.1))
    in_hand = fit w.hand (at_places n w.number (with_at z (Some x) h)) at x s.grips found

    pub is_held : IsHolding w.hand at
    is_held = (x.0, in_hand.0)

    -- and its settled content is what the turns of an only worker left
    pub in_left : hands_stood_for w.hand.view ≡ w.hand.view.hands → get_elem? (left_now drawn_touches w.hand.view) at ≡ core.some x.1
    in_left alone = (s.one.left alone).held at x.1 in_hand.1

pub have_settled : {A C : Type 0} (code : CodeView) (g : ℕ → Option (Part A C × PartSeen A)) (is : List ℕ) → ((i : ℕ) (x : Part A C × PartSeen A) → g i ≡ Some x → HasCode code x) → HaveCode code (settled_contents g is)
have_settled code g [] h = tt
have_settled {A} {C} code g (i ∷ is) h = by (g i) (h i) (have_settled code g is h) where
  by : (o : Option (Part A C × PartSeen A)) → ((x : Part A C × PartSeen A) → o ≡ Some x → HasCode code x) → HaveCode code (settled_contents g is) → HaveCode code (add_settled o (settled_contents g is))
  by None a r = r
  by (Some x) a r = ((a x refl).1, r)

pub have_values : {A C : Type 0} (least faults : C → ℕ) (readings : C → Option (List ℕ)) (code : CodeView) (g : ℕ → Option (Part A C × PartSeen A)) (is : List ℕ) → ((i : ℕ) (x : Part A C × PartSeen A) → g i ≡ Some x → HasCode code x) → HaveCode code (map (part_seen least faults readings) (values g is))
have_values least faults readings code g [] h = tt
have_values {A} {C} least faults readings code g (i ∷ is) h = by (g i) (h i) (have_values least faults readings code g is h) where
  by : (o : Option (Part A C × PartSeen A)) → ((x : Part A C × PartSeen A) → o ≡ Some x → HasCode code x) → HaveCode code (map (part_seen least faults readings) (values g is)) → HaveCode code (map (part_seen least faults readings) (add_value o (values g is)))
  by None a r = r
  by (Some x) a r = ((a x refl).0, r)

module _ {A C : Type 0} (over : CodeView → A → Type 0) (place : A → At) (advances : ProgramView → A → A → Type 0) (gives : A → Tree → A → Type 0) (starts : ProgramView → SeedView → A → Type 0) (least faults : C → ℕ) (readings : C → Option (List ℕ))
    (stands_as : ProgramView → A → TaskBody → Type 0) (program : ProgramView) (code : ValidCode) (id : TableId) (n : ℕ) (w : Worker A C) (d : Drawn) (h : Carries (Part A C × PartSeen A))
    (s : IsCarrying over stands_as program code id n w h) (m : IsMoved over place advances gives starts (part_seen least faults readings) code n w.number (drawn_view d) h) (of_code : drawn_code d ≡ valid_code code) where
  abbrev seen : Part A C → PartSeen A
  seen = part_seen least faults readings

  below : d.worker < d.workers
  below = let a = s.one.below in let b = m.by in let c = m.of in omega (arith, a, b, c)

  abbrev at : ℕ → Option (Part A C × PartSeen A)
  at = at_places d.workers d.worker h

  gripped : Grips w.hand at
  gripped = subst (λ (k : ℕ). Grips w.hand (at_places k d.worker h)) (sym m.of) (subst (λ (k : ℕ). Grips w.hand (at_places n k h)) (sym m.by) s.grips)

  abbrev before : List (PartSeen A)
  before = settled_contents at (drawn_touches d)

  abbrev after : List (PartSeen A)
  after = map seen (values at (drawn_touches d))

  -- the event over that code moves the touched parts, which have it
  abbrev MovedOver : CodeView → Type 0
  MovedOver K = AllCoded K before after × Moves place (advances_over over K advances) (gives_over over K gives) (starts_over over K starts) (drawn_view d) (map content_of before) (map content_of after)

  has_code : (i : ℕ) (x : Part A C × PartSeen A) → at i ≡ Some x → HasCode (valid_code code) x
  has_code = each_at (HasCode (valid_code code)) d.workers d.worker h s.coded

  -- it may draw the event
  pub may_draw : (g : ℕ → Option (Part A C × PartSeen A)) × Grips w.hand g × HasAll g (drawn_touches d) × drawn_moves over place advances gives starts d (settled_contents g (drawn_touches d)) (map seen (values g (drawn_touches d)))
  may_draw = let K = valid_code code in
      let r = moved place (advances_over over K advances) (gives_over over K gives) (starts_over over K starts) content_of seen (drawn_view d) h below m.covers s.sorted m.alike m.moves at (same_all at (drawn_touches d)) in
      (at, gripped, r.0, subst MovedOver (sym of_code) ((have_settled K at (drawn_touches d) has_code, have_values least faults readings K at (drawn_touches d) has_code), r.1))

  pub none_else : (i : ℕ) → IsHolding w.hand i → IsNone (drawn_touches d) i → drawn_allows d i
  none_else i holds none = absurd (none_aside seen (drawn_view d) h below m.covers w.hand gripped i holds none)

  -- once it drew it, all that it carries is settled
  pub drew_all : (v : Worker A C) → IsOne over stands_as program (valid_code code) id n v → v.number ≡ w.number → ((g : ℕ → Option (Part A C × PartSeen A)) → Grips w.hand g → Grips v.hand (settle seen (drawn_touches d) g)) → IsCarrying over stands_as program code id n v (each_by (settled_one seen) h)
  drew_all v one same grips = record {
    one = one;
    grips = subst (λ (k : ℕ). Grips v.hand (at_places n k (each_by (settled_one seen) h))) (m.by ∙ sym same) (subst (λ (k : ℕ). Grips v.hand (at_places k d.worker (each_by (settled_one seen) h))) m.of
        (subst (λ (g : ℕ → Option (Part A C × PartSeen A)). Grips v.hand g) (settles seen (drawn_view d) h below m.covers) (grips at gripped)));
    sorted = sorted_settled content_of seen h (sorted_alike was (is_now seen) h s.sorted (each_weaker (λ x. Alike d.workers (was x) (is_now seen x)) (λ x. kind_of_part (is_now seen x).held ≡ kind_of_part (was x).held) (λ x a. a.2) h m.alike));
    coded = each_settled seen (HasCode (valid_code code)) (λ x c. (c.0, c.0)) h s.coded;
  }

-- what is drawn as the same worker
pub moved_as : {A C : Type 0} (over : CodeView → A → Type 0) (place : A → At) (advances : ProgramView → A → A → Type 0) (gives : A → Tree → A → Type 0) (starts : ProgramView → SeedView → A → Type 0) (seen : Part A C → PartSeen A) (code : ValidCode) (n w v m k : ℕ) (what : said.Turn) (d : said.Drawn) (h : Carries (Part A C × PartSeen A))
    → v ≡ w → k ≡ m → d ≡ plain_drawn v k what → IsMoved over place advances gives starts seen code n w (plain_drawn w m what) h → IsMoved over place advances gives starts seen code n v d h
moved_as {A} {C} over place advances gives starts seen code n w v m k what d h a b e moved = subst (λ (d : said.Drawn). IsMoved over place advances gives starts seen code n v d h) (sym e) (subst (λ (k : ℕ). IsMoved over place advances gives starts seen code n v (plain_drawn v k what) h) (sym b) (subst (λ (v : ℕ). IsMoved over place advances gives starts seen code n v (plain_drawn v m what) h) (sym a) moved))

both : {X : Type 0} (b : Bool) (o : Option X) → cond b o o ≡ o
both true o = refl
both false o = refl

module _ {A C : Type 0} (n w : ℕ) where
  abbrev Empty : Carries (Part A C × PartSeen A)
  Empty = nothing_carried

  none_at : (j : ℕ) → at_places n w Empty j ≡ None
  none_at = everywhere n (λ (j : ℕ). at_places n w Empty j ≡ None) (λ j lt. below_n n w Empty j lt ∙ both (eqb w j) None) (λ i lt. at_bank n w Empty i lt) (λ i lt. at_shard n w Empty i lt) (at_timers n w Empty) (λ r. at_ready n w Empty r)

  only_lane : w < n → (o : Option (Part A C × PartSeen A)) → at_places n w (with_at lane_place o nothing_carried) ≡ update eqb no_grip w o
  only_lane lt o = placed n w lt lane_place tt o nothing_carried ∙ ap (λ (f : ℕ → Option (Part A C × PartSeen A)). update eqb f w o) (λ t j. none_at j t)

module _ {A C : Type 0} (over : CodeView → A → Type 0) (stands_as : ProgramView → A → TaskBody → Type 0) (program : ProgramView) (code : ValidCode) (id : TableId) (n : ℕ) (w : Worker A C) (lane : Lane A) where
  -- a worker that sits carries its lane
  pub seated_carries : IsSeated over stands_as program code id n w lane → IsCarrying over stands_as program code id n w (just_lane n code lane)
  seated_carries s = record {
    one = s.one;
    grips = subst (λ (g : ℕ → Option (Part A C × PartSeen A)). Grips w.hand g) (sym (only_lane n w.number s.one.below (Some (part_away n code, part_of_lane n code lane)))) s.grips;
    sorted = sorted_with was lane_place (part_away n code, part_of_lane n code lane) nothing_carried tt refl (sorted_nothing was);
    coded = each_with (HasCode (valid_code code)) lane_place (part_away n code, part_of_lane n code lane) nothing_carried (refl, refl) (each_nothing (HasCode (valid_code code)));
  }

  pub carries_seated : program_view lane.program.value ≡ program → IsCarrying over stands_as program code id n w (just_lane n code lane) → IsSeated over stands_as program code id n w lane
  carries_seated e s = record {
    one = s.one;
    lane_is = e;
    grips = subst (λ (g : ℕ → Option (Part A C × PartSeen A)). Grips w.hand g) (only_lane n w.number s.one.below (Some (part_away n code, part_of_lane n code lane))) s.grips;
  }

  -- a worker that carries its lane alone holds nothing else
  pub holds_lane : IsCarrying over stands_as program code id n w (just_lane n code lane) → (i : ℕ) → IsHolding w.hand i → i ≡ w.number
  holds_lane s i holds = by (eqb w.number i) refl where
    part : Part A C × PartSeen A
    part = (part_away n code, part_of_lane n code lane)

    grips : Grips w.hand (update eqb no_grip w.number (Some part))
    grips = subst (λ (g : ℕ → Option (Part A C × PartSeen A)). Grips w.hand g) (only_lane n w.number s.one.below (Some part)) s.grips

    by : (b : Bool) → eqb w.number i ≡ b → i ≡ w.number
    by true e = sym (eqb-true w.number i e)
    by false e = absurd (held_is w.hand (update eqb no_grip w.number (Some part)) i grips holds (ap (λ b. cond b (Some part) None) e))

  -- and one that sits nothing above it
  pub lane_alone : IsSeated over stands_as program code id n w lane → (i : ℕ) → IsHolding w.hand i → i < n
  lane_alone s i holds = let k = holds_lane (seated_carries s) i holds in let lt = s.one.below in omega (arith, k, lt)

abbrev as_lane : {A C : Type 0} → LaneBox A → Contents A C
as_lane l = V.Lane l

pub same_lane : {A C : Type 0} (l m : LaneBox A) → as_lane {C = C} l ≡ as_lane m → l ≡ m
same_lane l m e = cc
