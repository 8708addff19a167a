-- What a deed tells of its event: where it comes from, and the event of a deed that makes a port.
use Rattle.std.proofs.Common.{◌≡◌, ℕ, refl, sym, ap, ◌∙◌, Bool, true, false, cond, eqb, eqb-true, Option, Some, None}
use Rattle.ca_value.specs.Tree.{Tree, nil, bool, int, text, key, vector, map, port}
use Rattle.ca_term.specs.declared.event.Side.{Side}
use Rattle.ca_term.specs.declared.event.Side.TheVariants.{Take, Put}
use Rattle.ca_term.specs.Operation.{WhatView}
use Rattle.ca_term.specs.Event.{BranchView, take_of, put_of, EventView, made, spawned, done, met, parked, posted, settled, defaulted, closed, registered, printed, ticked, over as is_over}
use Rattle.ca_meaning.specs.Operands.{is_nil}
use Rattle.ca_meaning.specs.ChannelSteps.{other_side}
use Rattle.ca_laws.specs.Deeds.{Deed, did_take, did_put, did_wait, did_post, did_default, did_make, did_spawn, did_close, did_register, did_print, did_end, is_wait, deed_of, deed_on, deed}

pub nil_is : (a : Tree) → is_nil a ≡ true → a ≡ nil
nil_is nil e = refl
nil_is (bool b) e = absurd (let k : false ≡ true = e in cc)
nil_is (int z) e = absurd (let k : false ≡ true = e in cc)
nil_is (text z) e = absurd (let k : false ≡ true = e in cc)
nil_is (key z) e = absurd (let k : false ≡ true = e in cc)
nil_is (vector z) e = absurd (let k : false ≡ true = e in cc)
nil_is (map z) e = absurd (let k : false ≡ true = e in cc)
nil_is (port z) e = absurd (let k : false ≡ true = e in cc)

pub one_deed : (b : Bool) (c d : Deed) → cond b (Some c) None ≡ Some d → (b ≡ true) × (c ≡ d)
one_deed true c d e = (refl, let k : c ≡ d = cc in k)
one_deed false c d e = absurd (let k : None ≡ Some d = e in cc)

pub no_deed : {G : Type 0} (b : Bool) (c d : Deed) → (c ≡ d → ⊥) → cond b (Some c) None ≡ Some d → G
no_deed b c d ne e = absurd (ne (one_deed b c d e).1)

pub not_of : (b : BranchView) (k : ℕ) (a : Tree) (c : Deed) → ((p : ℕ) → c ≡ did_take k p a → ⊥) → ((p : ℕ) (v : Tree) → c ≡ did_put k p v a → ⊥) → deed_of b k a ≡ c → ⊥
not_of (take_of p) k a c f g e = f p (sym e)
not_of (put_of p v) k a c f g e = g p v (sym e)

pub not_on : (side : Side) (k p : ℕ) (v : Tree) (c : Deed) → (c ≡ did_take k p v → ⊥) → (c ≡ did_put k p v (bool true) → ⊥) → deed_on side k p v ≡ c → ⊥
not_on Take k p v c f g e = f (sym e)
not_on Put k p v c f g e = g (sym e)

pub made_event : (t : ℕ) (o : Option ℕ) (e : EventView) (p : ℕ) (what : WhatView) (m : Option ℕ) → deed t o e ≡ Some (did_make p what m) → e ≡ made t p what m
made_event t o (made u q w n) p what m is =
    let k = one_deed (eqb u t) (did_make q w n) (did_make p what m) is in
    let i : did_make q w n ≡ did_make p what m = k.1 in
    let a : q ≡ p = cc in
    let b : w ≡ what = cc in
    let c : n ≡ m = cc in
    ap (λ z. made z q w n) (eqb-true u t k.0) ∙ ap (λ z. made t z w n) a ∙ ap (λ z. made t p z n) b ∙ ap (made t p what) c
made_event t o (done u k b a) p what m is = no_deed (eqb u t) (deed_of b k a) (did_make p what m) (not_of b k a (did_make p what m) (λ n q. cc) (λ n v q. cc)) is
made_event t o (met u k side q v w j) p what m is = by (eqb u t) is where
  by : (b : Bool) → cond b (Some (deed_on side k q v)) (cond (is_wait w o) (Some (deed_on (other_side side) j q v)) None) ≡ Some (did_make p what m) → met u k side q v w j ≡ made t p what m
  by true e = no_deed true (deed_on side k q v) (did_make p what m) (not_on side k q v (did_make p what m) (λ q. cc) (λ q. cc)) e
  by false e = no_deed (is_wait w o) (deed_on (other_side side) j q v) (did_make p what m) (not_on (other_side side) j q v (did_make p what m) (λ q. cc) (λ q. cc)) e
made_event t o (settled w k side q v) p what m is = no_deed (is_wait w o) (deed_on side k q v) (did_make p what m) (not_on side k q v (did_make p what m) (λ q. cc) (λ q. cc)) is
made_event t o (spawned u n kind r) p what m is = no_deed (eqb u t) (did_spawn n kind r) (did_make p what m) (λ q. cc) is
made_event t o (parked u w bs) p what m is = no_deed (eqb u t) (did_wait w bs) (did_make p what m) (λ q. cc) is
made_event t o (posted u w q i) p what m is = no_deed (eqb u t) (did_post w q i) (did_make p what m) (λ q. cc) is
made_event t o (defaulted u i) p what m is = no_deed (eqb u t) (did_default i) (did_make p what m) (λ q. cc) is
made_event t o (closed u q) p what m is = no_deed (eqb u t) (did_close q) (did_make p what m) (λ q. cc) is
made_event t o (registered u name args i) p what m is = no_deed (eqb u t) (did_register name args i) (did_make p what m) (λ q. cc) is
made_event t o (printed u line) p what m is = no_deed (eqb u t) (did_print line) (did_make p what m) (λ q. cc) is
made_event t o (ticked n ports) p what m is = absurd (let q : None ≡ Some (did_make p what m) = is in cc)
made_event t o (is_over u how) p what m is = no_deed (eqb u t) (did_end how) (did_make p what m) (λ q. cc) is
