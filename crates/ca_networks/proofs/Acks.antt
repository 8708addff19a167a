-- Whose answer a mult takes: a delivery put it on the channel by the same event.
use Rattle.std.proofs.Common.{◌≡◌, inl, inr, ℕ, suc, ◌≤◌, List, [], ◌∷◌, length, refl, sym, ap, ◌∙◌, subst, arith, true, false, Option, Some}
use Rattle.ca_value.specs.Tree.{Tree, bool}
use Rattle.ca_value.specs.Buffer.{no_buffer}
use Rattle.ca_term.specs.declared.event.Side.TheVariants.{Put}
use Rattle.ca_term.specs.Program.{ProgramView}
use Rattle.ca_term.specs.Event.{EventView}
use Rattle.ca_meaning.specs.Channel.{Channel, FitsPolicy}
use Rattle.ca_meaning.specs.State.{State, Task}
use Rattle.ca_meaning.specs.Steps.{Step}
use Rattle.ca_meaning.specs.History.{Mark, accept, give, give_none, pass, no_mark, mark_on}
use Rattle.ca_laws.specs.Deeds.{did_take, did_put, deed}
use Rattle.ca_laws.proofs.Acts.{wait_of}
use Rattle.ca_laws.proofs.Deeding.{Traced}
use Rattle.ca_roles.specs.Roles.{acks, hidden, Roles, CarriesAs}
use Rattle.ca_roles.specs.Users.{Uses}
use Rattle.ca_networks.proofs.Guarded.{Guard}
use Rattle.ca_networks.proofs.Passing.{entering, leaving, Gets, take_leaves}
use Rattle.ca_networks.proofs.Ordered.{gives_first, ends_closed}
use Rattle.ca_networks.proofs.Using.{enters_by}

none_held : (vs : List Tree) (n : ℕ) → length vs ≤ n → n ≡ 0 → vs ≡ []
none_held [] n le e = refl
none_held (v ∷ vs) n le e = absurd (let k : suc (length vs) ≤ n = le in omega (arith, k, e))

module _ (program : ProgramView) (roles : Roles) (journal : List EventView) (s s2 : State) (traced : Traced journal s) (g : Guard program roles s) (q m : ℕ) (role : roles q ≡ Some (hidden m acks)) where
  -- a task puts the value on the channel at the event, and it is a delivery that answers there
  abbrev pub Answered : EventView → Tree → Type 0
  Answered e v = (u : ℕ) × (x : Task) × (j : ℕ) × (a : Tree) × (s.tasks u ≡ Some x) × (deed u (wait_of x.mode) e ≡ Some (did_put j q v a)) × Uses Put q acks x.body × (v ≡ bool true)

  -- the channel has no buffer, and is open
  line : (c : Channel) × (s.channels q ≡ Some c) × (c.policy ≡ no_buffer) × (c.closed ≡ false)
  line = let c = g.typed.hidden_channels q m acks role in (c.0, c.1, c.2.0, c.2.1)

  empty : line.0.held ≡ []
  empty =
      let f = traced.known.sound.fits q line.0 line.1 in
      none_held line.0.held line.0.capacity f.0 (subst (λ p. FitsPolicy p line.0.capacity) line.2 f.1)

  pub answered : (t : ℕ) (o : Option ℕ) (e : EventView) (j : ℕ) (a : Tree) → Step program s e s2 → deed t o e ≡ Some (did_take j q a) → Answered e a
  answered t o e j a x is = by (take_leaves t o e j q a is) where
    passes : (mark : Mark) → mark_on q e ≡ mark → leaving mark ≡ a ∷ [] → Answered e a
    passes (pass v) i k = let b = enters_by program roles journal s s2 traced g q m acks role e x a [] (ap entering i ∙ k) in (b.0, b.1, b.2, b.3, b.4, b.5, b.6, subst (λ r. CarriesAs program roles r a) role b.7)
    passes (give v) i k = let f = gives_first program s s2 traced.known.sound q line.0 line.1 e x v i in absurd (let n : [] ≡ v ∷ f.0 = sym empty ∙ f.1 in cc)
    passes (accept v) i k = absurd (let n : [] ≡ a ∷ [] = k in cc)
    passes give_none i k = absurd (let n : [] ≡ a ∷ [] = k in cc)
    passes no_mark i k = absurd (let n : [] ≡ a ∷ [] = k in cc)

    by : Gets e q a → Answered e a
    by (inl k) = passes (mark_on q e) refl k
    by (inr k) = absurd (let n : false ≡ true = sym line.3 ∙ ends_closed program s s2 traced.known.sound q line.0 line.1 e x k.1 in cc)
