-- The parts of a public answer are public.
use Rattle.std.proofs.Common.{◌≡◌, ℕ, List, [], ◌∷◌, refl, subst, Bool, true, false, cond, not, ◌||◌, ◌&&◌, Option, Some, None, option_map, filter, map as each_of, codes}
use Rattle.std.specs.Str.{bytes_eq}
use Rattle.ca_value.specs.Tree.{Tree, Trees, bool, key, vector, port, none, item}
use Rattle.ca_meaning.specs.Asks.{ports_of, ports_in, with_port, taps_of, taps_in, with_tap, value_and_port}
use Rattle.ca_meaning.specs.MixTable.{ModesRead, sources_of, modes_in, with_source, any_solo, soloed, read_of}
use Rattle.ca_meaning.specs.MultTable.{closing_of}
use Rattle.ca_meaning.specs.PubTable.{channel_of_pair}
use Rattle.ca_meaning.specs.Registry.{TapView, Source}
use Rattle.ca_meaning.specs.Sound.{Each}
use Rattle.ca_meaning.proofs.Waits.{each-filter}
use Rattle.ca_roles.specs.Roles.{Roles, IsPublic, ArePublic}
use Rattle.ca_roles.specs.Typed.{IsPublicPort, IsTypedTap, IsTypedSource}

same_some : {A : Type 0} (a b : A) → Some a ≡ Some b → a ≡ b
same_some a b e = cc

module _ (roles : Roles) where
  pub pair_public : (a : Tree) (c : Tree × ℕ) → IsPublic roles a → value_and_port a ≡ Some c → IsPublic roles c.0 × IsPublicPort roles c.1
  pair_public (vector (item v (item (port p) none))) c h e = subst (λ (z : Tree × ℕ). IsPublic roles z.0 × IsPublicPort roles z.1) (same_some (v, p) c e) (h.0, h.1.0)
  pair_public a c h e = absurd (let k : None ≡ Some c = e in cc)

  pub channel_public : (a : Tree) (c : ℕ) → IsPublic roles a → channel_of_pair a ≡ Some c → IsPublicPort roles c
  channel_public (vector (item (port m) (item (port p) none))) c h e = subst (IsPublicPort roles) (same_some p c e) h.1.0
  channel_public a c h e = absurd (let k : None ≡ Some c = e in cc)

  all_ports_public : (vs : Trees) (ps : List ℕ) → ArePublic roles vs → ports_of vs ≡ Some ps → Each (IsPublicPort roles) ps
  all_ports_public none ps h e = subst (Each (IsPublicPort roles)) (same_some [] ps e) tt
  all_ports_public (item (port n) vs) ps h e = by (ports_of vs) refl (λ qs. all_ports_public vs qs h.1) e where
    by : (o : Option (List ℕ)) → ports_of vs ≡ o → ((qs : List ℕ) → ports_of vs ≡ Some qs → Each (IsPublicPort roles) qs) → with_port n o ≡ Some ps → Each (IsPublicPort roles) ps
    by None is r e = absurd (let k : None ≡ Some ps = e in cc)
    by (Some qs) is r e = subst (Each (IsPublicPort roles)) (same_some (n ∷ qs) ps e) (h.0, r qs is)
  all_ports_public (item v vs) ps h e = absurd (let k : None ≡ Some ps = e in cc)

  pub ports_public : (a : Tree) (ps : List ℕ) → IsPublic roles a → ports_in a ≡ Some ps → Each (IsPublicPort roles) ps
  ports_public (vector vs) ps h e = all_ports_public vs ps h e
  ports_public a ps h e = absurd (let k : None ≡ Some ps = e in cc)

  all_taps_public : (vs : Trees) (ts : List TapView) → ArePublic roles vs → taps_of vs ≡ Some ts → Each (IsTypedTap roles) ts
  all_taps_public none ts h e = subst (Each (IsTypedTap roles)) (same_some [] ts e) tt
  all_taps_public (item (vector (item (port c) (item (bool z) none))) vs) ts h e = by (taps_of vs) refl (λ us. all_taps_public vs us h.1) e where
    by : (o : Option (List TapView)) → taps_of vs ≡ o → ((us : List TapView) → taps_of vs ≡ Some us → Each (IsTypedTap roles) us) → with_tap c z o ≡ Some ts → Each (IsTypedTap roles) ts
    by None is r e = absurd (let k : None ≡ Some ts = e in cc)
    by (Some us) is r e = subst (Each (IsTypedTap roles)) (same_some (record { channel = c; closes = z } ∷ us) ts e) (h.0.0, r us is)
  all_taps_public (item v vs) ts h e = absurd (let k : None ≡ Some ts = e in cc)

  pub taps_public : (a : Tree) (ts : List TapView) → IsPublic roles a → taps_in a ≡ Some ts → Each (IsTypedTap roles) ts
  taps_public (vector vs) ts h e = all_taps_public vs ts h e
  taps_public a ts h e = absurd (let k : None ≡ Some ts = e in cc)

  channels_of : (ts : List TapView) → Each (IsTypedTap roles) ts → Each (IsPublicPort roles) (each_of (λ (t : TapView). t.channel) ts)
  channels_of [] h = tt
  channels_of (t ∷ ts) h = (h.0, channels_of ts h.1)

  -- the taps that close with the source
  pub closing_public : (ts : List TapView) → Each (IsTypedTap roles) ts → Each (IsPublicPort roles) (closing_of ts)
  closing_public ts h = channels_of (filter (λ t. t.closes) ts) (each-filter (IsTypedTap roles) (λ t. t.closes) ts h)

  all_sources_public : (vs : Trees) (xs : List Source) → ArePublic roles vs → sources_of vs ≡ Some xs → Each (IsTypedSource roles) xs
  all_sources_public none xs h e = subst (Each (IsTypedSource roles)) (same_some [] xs e) tt
  all_sources_public (item (vector (item (port c) (item (bool m) (item (bool p) (item (bool s) none))))) vs) xs h e = by (sources_of vs) refl (λ ys. all_sources_public vs ys h.1) e where
    by : (o : Option (List Source)) → sources_of vs ≡ o → ((ys : List Source) → sources_of vs ≡ Some ys → Each (IsTypedSource roles) ys) → with_source (record { channel = c; mute = m; pause = p; solo = s }) o ≡ Some xs → Each (IsTypedSource roles) xs
    by None is r e = absurd (let k : None ≡ Some xs = e in cc)
    by (Some ys) is r e = subst (Each (IsTypedSource roles)) (same_some (record { channel = c; mute = m; pause = p; solo = s } ∷ ys) xs e) (h.0.0, r ys is)
  all_sources_public (item v vs) xs h e = absurd (let k : None ≡ Some xs = e in cc)

  modes_public : (a : Tree) (m : ModesRead) → IsPublic roles a → modes_in a ≡ Some m → Each (IsTypedSource roles) m.sources
  modes_public (vector (item (key k) vs)) m h e = by (sources_of vs) refl e where
    by : (o : Option (List Source)) → sources_of vs ≡ o → option_map (λ (xs : List Source). record { pausing = bytes_eq k (codes "pause"); sources = xs }) o ≡ Some m → Each (IsTypedSource roles) m.sources
    by None is e = absurd (let j : None ≡ Some m = e in cc)
    by (Some xs) is e = subst (λ (z : ModesRead). Each (IsTypedSource roles) z.sources) (same_some (record { pausing = bytes_eq k (codes "pause"); sources = xs }) m e) (all_sources_public vs xs h.1 is)
  modes_public a m h e = absurd (let k : None ≡ Some m = e in cc)

  source_channels : (xs : List Source) → Each (IsTypedSource roles) xs → Each (IsPublicPort roles) (each_of (λ (x : Source). x.channel) xs)
  source_channels [] h = tt
  source_channels (x ∷ xs) h = (h.0, source_channels xs h.1)

  -- the channels that a mix reads
  pub read_public : (a : Tree) (m : ModesRead) → IsPublic roles a → modes_in a ≡ Some m → Each (IsPublicPort roles) (read_of m)
  read_public a m h e = by (any_solo m.sources && m.pausing) (modes_public a m h e) where
    by : (b : Bool) → Each (IsTypedSource roles) m.sources → Each (IsPublicPort roles) (each_of (λ (x : Source). x.channel) (cond b (soloed m.sources) (filter (λ (x : Source). x.solo || not x.pause) m.sources)))
    by true k = source_channels (soloed m.sources) (each-filter (IsTypedSource roles) (λ (x : Source). x.solo) m.sources k)
    by false k = source_channels (filter (λ (x : Source). x.solo || not x.pause) m.sources) (each-filter (IsTypedSource roles) (λ (x : Source). x.solo || not x.pause) m.sources k)
