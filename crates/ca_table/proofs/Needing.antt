-- An event covers what is carried, where all that it names is carried, and what stands beside it names the rest.
use Rattle.std.proofs.Common.{◌≡◌, ◌≢◌, ◌∙◌, ℕ, List, [], ◌∷◌, ◌++◌, refl, sym, ap, Bool, true, false, cond, Option, Some, None, eqb, eqb-true, is_some}
use Rattle.std.specs.Prelude.{option_map}
use Rattle.ca_meaning.specs.Registry.{Registry}
use Rattle.ca_commit.specs.Contents.{Content, Kept, LaneView, Parked, Parts, alive_in, at_key, home, whole}
use Rattle.ca_commit.specs.Gathered.{bank_of, channels_of, lane_of, registries_of, shard_of, sorted}
use Rattle.ca_commit.specs.Touched as said
use Rattle.ca_table.specs.Carrying.{Carries, carried}
use Rattle.ca_table.specs.Covering.{Covers, is_named_one, turn_names}
use Rattle.ca_table.specs.Needing.{Brings, drawn_with}

homes_more : (b : ℕ → Bool) (i : ℕ) (ns more : List ℕ) → said.homes more i ≡ b i → said.AllHave (λ n. b (home n) ≡ true) ns → said.homes (ns ++ more) i ≡ b i
homes_more b i [] more e h = e
homes_more b i (n ∷ ns) more e h = by (eqb i (home n)) refl (homes_more b i ns more e h.1) where
  by : (c : Bool) → eqb i (home n) ≡ c → said.homes (ns ++ more) i ≡ b i → cond c true (said.homes (ns ++ more) i) ≡ b i
  by true s r = sym (ap b (eqb-true i (home n) s) ∙ h.0)
  by false s r = r

module _ {X : Type 0} (h : Carries X) where
  abbrev pub BanksOf : List ℕ → Type 0
  BanksOf = said.AllHave (λ p. is_some (h.banks (home p)) ≡ true)

  abbrev pub ShardsOf : List ℕ → Type 0
  ShardsOf = said.AllHave (λ v. is_some (h.shards (home v)) ≡ true)

  pub covers_by : (w n : ℕ) (what : said.Turn) (ports looked : List ℕ) (x : said.NamedParts) → what ≢ said.stalls → turn_names w what ≡ x → x.lane ≡ is_some h.lane → Brings ports looked x.timers x.ready h → BanksOf x.ports → ShardsOf x.waits → Covers (drawn_with w n what ports looked) h
  covers_by w n what ports looked x some is lane brings banks shards = record {
    some = some;
    lane = ap (λ (y : said.NamedParts). y.lane) is ∙ lane;
    banks = λ i lt. ap (λ (y : said.NamedParts). said.homes (y.ports ++ ports) i) is ∙ homes_more (λ j. is_some (h.banks j)) i x.ports ports (brings.banks i lt) banks;
    shards = λ i lt. ap (λ (y : said.NamedParts). said.homes (y.waits ++ looked) i) is ∙ homes_more (λ j. is_some (h.shards j)) i x.waits looked (brings.shards i lt) shards;
    timers = ap (λ (y : said.NamedParts). y.timers) is ∙ brings.timers;
    ready = λ r. ap (λ (y : said.NamedParts). is_named_one y.ready r) is ∙ brings.ready r;
  }

module _ {A X : Type 0} (f : X → Content A) (w : ℕ) (h : Carries X) where
  abbrev old : Parts A
  old = carried f w h

  pub bank_held : (i : ℕ) (g : ℕ → Option Kept) → old.bank i ≡ Some g → is_some (h.banks i) ≡ true
  bank_held i g e = by (h.banks i) e where
    by : (o : Option X) → channels_of (sorted bank_of (option_map f o)) ≡ Some g → is_some o ≡ true
    by None e = absurd (let z : None ≡ Some g = e in cc)
    by (Some x) e = refl

  pub in_bank : (r : ℕ) (k : Kept) → whole old.bank r ≡ Some k → is_some (h.banks (home r)) ≡ true
  in_bank r k e = by (h.banks (home r)) e where
    by : (o : Option X) → at_key (channels_of (sorted bank_of (option_map f o))) r ≡ Some k → is_some o ≡ true
    by None e = absurd (let z : None ≡ Some k = e in cc)
    by (Some x) e = refl

  pub in_registries : (r : ℕ) (k : Registry) → whole old.registry r ≡ Some k → is_some (h.banks (home r)) ≡ true
  in_registries r k e = by (h.banks (home r)) e where
    by : (o : Option X) → at_key (registries_of (sorted bank_of (option_map f o))) r ≡ Some k → is_some o ≡ true
    by None e = absurd (let z : None ≡ Some k = e in cc)
    by (Some x) e = refl

  pub shard_held : (i : ℕ) (g : ℕ → Option (Parked A)) → old.shard i ≡ Some g → is_some (h.shards i) ≡ true
  shard_held i g e = by (h.shards i) e where
    by : (o : Option X) → sorted shard_of (option_map f o) ≡ Some g → is_some o ≡ true
    by None e = absurd (let z : None ≡ Some g = e in cc)
    by (Some x) e = refl

  pub in_shard : (v : ℕ) → alive_in old v ≡ true → is_some (h.shards (home v)) ≡ true
  in_shard v e = by (h.shards (home v)) e where
    by : (o : Option X) → is_some (at_key (sorted shard_of (option_map f o)) v) ≡ true → is_some o ≡ true
    by None e = e
    by (Some x) e = refl

  pub lane_held : (l : LaneView A) → old.lane w ≡ Some l → is_some h.lane ≡ true
  lane_held l e = by (eqb w w) h.lane e where
    by : (b : Bool) (o : Option X) → cond b (sorted lane_of (option_map f o)) None ≡ Some l → is_some o ≡ true
    by true None e = absurd (let z : None ≡ Some l = e in cc)
    by true (Some x) e = refl
    by false o e = absurd (let z : None ≡ Some l = e in cc)
