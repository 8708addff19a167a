-- A fault of the table is no answer.
use Rattle.std.proofs.Common.{◌≡◌, ℕ, refl, sym, ap, ◌∙◌, subst, Option, Some, None, is_some, true}
use Rattle.ca_value.specs.Tree.{Tree, Trees}
use Rattle.ca_term.specs.declared.fault.Fault.{Fault}
use Rattle.ca_term.specs.declared.head.RegisterName.{RegisterName}
use Rattle.ca_meaning.specs.Registry.{Registered, Registry, answers, refuses}
use Rattle.ca_registry.specs.Registries.{answered, refused_with}
use Rattle.ca_commit.specs.Contents.{whole}
use Rattle.ca_commit.specs.Entering.{HasMembersRoom, answer_of}
use Rattle.ca_commit.specs.declared.held.HeldBank.{HeldBank}
use Rattle.ca_commit.specs.declared.listing.Listing.{Listing}
use Rattle.ca_commit.proofs.Laid.{same_map}

pub unanswered : (r : Registered) (f : Fault) → refused_with r ≡ Some f → answered r ≡ None
unanswered (answers v r) f e = absurd (let k : None ≡ Some f = e in cc)
unanswered (refuses g) f e = refl

module _ (name : RegisterName) (p p2 : ℕ) (r r2 : Trees) (port_is : p ≡ p2) (rest_is : r ≡ r2) where
  pub answer_same : (m m2 : ℕ → Option (ℕ → Option Registry)) (v : Tree) → ((i : ℕ) → m2 i ≡ m i) → v ≡ answer_of (whole m p) name r → v ≡ answer_of (whole m2 p2) name r2
  answer_same m m2 v same is = is ∙ ap (λ (f : ℕ → Option (ℕ → Option Registry)). answer_of (whole f p) name r) (sym (same_map m2 m same)) ∙ ap (λ (q : ℕ). answer_of (whole m2 q) name r) port_is ∙ ap (λ (z : Trees). answer_of (whole m2 p2) name z) rest_is

  pub room_same : (b : Listing HeldBank) → HasMembersRoom b p name r → HasMembersRoom b p2 name r2
  room_same b room = subst (λ (q : ℕ). HasMembersRoom b q name r2) port_is (subst (λ (z : Trees). HasMembersRoom b p name z) rest_is room)

  pub room_there : (b : Listing HeldBank) (m m2 : ℕ → Option (ℕ → Option Registry)) → ((i : ℕ) → m2 i ≡ m i) → (is_some (whole m p) ≡ true → HasMembersRoom b p name r) → is_some (whole m2 p2) ≡ true → HasMembersRoom b p2 name r2
  room_there b m m2 same room there = room_same b (room (ap (λ (f : ℕ → Option (ℕ → Option Registry)). is_some (whole f p)) (sym (same_map m2 m same)) ∙ ap (λ (q : ℕ). is_some (whole m2 q)) port_is ∙ there))
