-- Where a feed and a collect are with the values of their pipeline.
use Rattle.std.proofs.Common.{◌≡◌, ℕ, List, [], ◌∷◌, ◌++◌, refl, sym, ap, ◌∙◌, subst, append_assoc, append-nil}
use Rattle.ca_value.specs.Tree.{Tree, Trees, port, items_of}
use Rattle.ca_term.specs.Program.{ProgramView}
use Rattle.ca_meaning.specs.Applied.{Work, outputs, Outs}
use Rattle.ca_meaning.specs.Asks.{Next, to, stop, fail}
use Rattle.ca_meaning.specs.PipelineTable.{FeedState, feed_takes, feed_makes, feed_puts, feed_queues, feed_closes_jobs, feed_closes_replies, CollectState, collect_takes, collect_opens, collect_puts, collect_closes, collect_ends}
use Rattle.ca_meaning.specs.State.{Mode, running, waiting, over}
use Rattle.ca_laws.specs.Taken.{Begins}
use Rattle.ca_roles.specs.Roles.{hidden, reply, Roles, Grows, IsReply}
use Rattle.ca_networks.specs.PipelineLaw.{Joined, BeginsOutputs}

-- reply ports, each of its value
abbrev pub Carry : Roles → Work → List Tree → List Tree → Type 0
Carry roles w [] vs = vs ≡ []
Carry roles w (x ∷ xs) vs = (p : ℕ) × (v : Tree) × (rest : List Tree) × (x ≡ port p) × IsReply roles w p v × (vs ≡ v ∷ rest) × Carry roles w xs rest

-- a feed: the values whose reply ports it has queued, and those that it took
abbrev pub FeedAt : Roles → Work → Next FeedState → List Tree → List Tree → Type 0
FeedAt roles w (to feed_takes) vs took = took ≡ vs
FeedAt roles w (to (feed_makes v)) vs took = took ≡ vs ++ v ∷ []
FeedAt roles w (to (feed_puts v p)) vs took = IsReply roles w p v × (took ≡ vs ++ v ∷ [])
FeedAt roles w (to (feed_queues p)) vs took = (v : Tree) × IsReply roles w p v × (took ≡ vs ++ v ∷ [])
FeedAt roles w (to feed_closes_jobs) vs took = Begins vs took
FeedAt roles w (to feed_closes_replies) vs took = Begins vs took
FeedAt roles w stop vs took = Begins vs took
FeedAt roles w (fail f) vs took = Begins vs took

-- what of the put at which a collect stands is still to be told
abbrev pub to_tell : Mode → Tree → List Tree → List Tree
to_tell running y ys = y ∷ ys
to_tell (waiting n) y ys = ys
to_tell over y ys = y ∷ ys

-- a collect: the values whose reply ports it took, and what it offered
abbrev pub CollectAt : ProgramView → Roles → Work → Next CollectState → Mode → List Tree → List Tree → Type 0
CollectAt program roles w (to collect_takes) m vs sent = Joined program w vs sent
CollectAt program roles w (to (collect_opens p)) m vs sent = (v : Tree) × (earlier : List Tree) × IsReply roles w p v × Joined program w earlier sent × (vs ≡ earlier ++ v ∷ [])
CollectAt program roles w (to (collect_puts y ys)) m vs sent = Joined program w vs (sent ++ to_tell m y (items_of ys))
CollectAt program roles w (to collect_closes) m vs sent = BeginsOutputs program w vs sent
CollectAt program roles w (to collect_ends) m vs sent = BeginsOutputs program w vs sent
CollectAt program roles w stop m vs sent = BeginsOutputs program w vs sent
CollectAt program roles w (fail f) m vs sent = BeginsOutputs program w vs sent

module _ (roles more : Roles) (g : Grows roles more) (w : Work) where
  pub reply_more : (p : ℕ) (v : Tree) → IsReply roles w p v → IsReply more w p v
  reply_more p v k = (k.0, g p (hidden k.0 (reply w v)) k.1)

  pub carry_more : (ps vs : List Tree) → Carry roles w ps vs → Carry more w ps vs
  carry_more [] vs k = k
  carry_more (p ∷ ps) vs k = (k.0, k.1, k.2, k.3, reply_more k.0 k.1 k.4, k.5, carry_more ps k.2 k.6)

  pub feed_more : (n : Next FeedState) (vs took : List Tree) → FeedAt roles w n vs took → FeedAt more w n vs took
  feed_more (to feed_takes) vs h k = k
  feed_more (to (feed_makes v)) vs h k = k
  feed_more (to (feed_puts v p)) vs h k = (reply_more p v k.0, k.1)
  feed_more (to (feed_queues p)) vs h k = (k.0, reply_more p k.0 k.1, k.2)
  feed_more (to feed_closes_jobs) vs h k = k
  feed_more (to feed_closes_replies) vs h k = k
  feed_more stop vs h k = k
  feed_more (fail i) vs h k = k

  pub collect_more : (program : ProgramView) (n : Next CollectState) (m : Mode) (vs h : List Tree) → CollectAt program roles w n m vs h → CollectAt program more w n m vs h
  collect_more program (to collect_takes) m vs h k = k
  collect_more program (to (collect_opens p)) m vs h k = (k.0, k.1, reply_more p k.0 k.2, k.3, k.4)
  collect_more program (to (collect_puts y ys)) m vs h k = k
  collect_more program (to collect_closes) m vs h k = k
  collect_more program (to collect_ends) m vs h k = k
  collect_more program stop m vs h k = k
  collect_more program (fail f) m vs h k = k

pub carry_join : (roles : Roles) (w : Work) (ps rs vs us : List Tree) → Carry roles w ps vs → Carry roles w rs us → Carry roles w (ps ++ rs) (vs ++ us)
carry_join roles w [] rs vs us a b = subst (λ i. Carry roles w rs (i ++ us)) (sym a) b
carry_join roles w (p ∷ ps) rs vs us a b = (a.0, a.1, a.2 ++ us, a.3, a.4, ap (λ i. i ++ us) a.5, carry_join roles w ps rs a.2 us a.6 b)

pub carry_part : (roles : Roles) (w : Work) (ps rs vs : List Tree) → Carry roles w (ps ++ rs) vs → (us zs : List Tree) × Carry roles w ps us × Carry roles w rs zs × (vs ≡ us ++ zs)
carry_part roles w [] rs vs k = ([], vs, refl, k, refl)
carry_part roles w (p ∷ ps) rs vs k =
    let r = carry_part roles w ps rs k.2 k.6 in
    (k.1 ∷ r.0, r.1, (k.0, k.1, r.0, k.3, k.4, refl, r.2), r.3, k.5 ∙ ap (λ i. k.1 ∷ i) r.4)

pub with_nils : (P : List Tree → List Tree → Type 0) (vs h new takes : List Tree) → new ≡ [] → takes ≡ [] → P vs h → P (vs ++ new) (h ++ takes)
with_nils P vs h new takes a b k = subst (λ n. P (vs ++ n) (h ++ takes)) (sym a) (subst (λ n. P (vs ++ []) (h ++ n)) (sym b) (subst (λ n. P n (h ++ [])) (sym (append-nil vs)) (subst (P vs) (sym (append-nil h)) k)))

module _ (program : ProgramView) (w : Work) where
  pub joined_more : (vs xs : List Tree) (v : Tree) (ys : Trees) → Joined program w vs xs → Outs program w v (outputs ys) → Joined program w (vs ++ v ∷ []) (xs ++ items_of ys)
  joined_more [] xs v ys j o = (ys, [], o, ap (λ z. z ++ items_of ys) j ∙ sym (append-nil (items_of ys)), refl)
  joined_more (u ∷ vs) xs v ys j o = (j.0, j.1 ++ items_of ys, j.2, ap (λ z. z ++ items_of ys) j.3 ∙ append_assoc (items_of j.0) j.1 (items_of ys), joined_more vs j.1 v ys j.4 o)

  pub outputs_more : (vs new sent : List Tree) → BeginsOutputs program w vs sent → BeginsOutputs program w (vs ++ new) sent
  outputs_more vs new sent p = (p.0, p.1, (p.2.0 ++ new, ap (λ i. i ++ new) p.2.1 ∙ append_assoc p.0 p.2.0 new), p.3)

  pub outputs_same : (vs sent : List Tree) → Joined program w vs sent → (new : List Tree) → BeginsOutputs program w (vs ++ new) sent
  outputs_same vs sent j new = (vs, [], (new, refl), subst (Joined program w vs) (sym (append-nil sent)) j)

  feed_begins : (roles : Roles) (n : Next FeedState) (vs h : List Tree) → FeedAt roles w n vs h → Begins vs h
  feed_begins roles (to feed_takes) vs h k = ([], k ∙ sym (append-nil vs))
  feed_begins roles (to (feed_makes v)) vs h k = (v ∷ [], k)
  feed_begins roles (to (feed_puts v p)) vs h k = (v ∷ [], k.1)
  feed_begins roles (to (feed_queues p)) vs h k = (k.0 ∷ [], k.2)
  feed_begins roles (to feed_closes_jobs) vs h k = k
  feed_begins roles (to feed_closes_replies) vs h k = k
  feed_begins roles stop vs h k = k
  feed_begins roles (fail f) vs h k = k

  collect_begins : (roles : Roles) (n : Next CollectState) (m : Mode) (vs h : List Tree) → CollectAt program roles w n m vs h → BeginsOutputs program w vs h
  collect_begins roles (to collect_takes) m vs h k = subst (λ i. BeginsOutputs program w i h) (append-nil vs) (outputs_same vs h k [])
  collect_begins roles (to (collect_opens p)) m vs h k = subst (λ i. BeginsOutputs program w i h) (sym k.4) (outputs_same k.1 h k.3 (k.0 ∷ []))
  collect_begins roles (to (collect_puts y ys)) m vs h k = (vs, to_tell m y (items_of ys), ([], sym (append-nil vs)), k)
  collect_begins roles (to collect_closes) m vs h k = k
  collect_begins roles (to collect_ends) m vs h k = k
  collect_begins roles stop m vs h k = k
  collect_begins roles (fail f) m vs h k = k

  -- what the feed took begins with what it queued, and this with what the collect took
  pub outputs_begin : (roles : Roles) (n : Next FeedState) (k : Next CollectState) (m : Mode) (queued opened between took sent : List Tree) → FeedAt roles w n queued took → CollectAt program roles w k m opened sent → queued ≡ opened ++ between → BeginsOutputs program w took sent
  outputs_begin roles n k m queued opened between took sent f c split =
      let b = feed_begins roles n queued took f in
      let q = outputs_more queued b.0 sent (subst (λ i. BeginsOutputs program w i sent) (sym split) (outputs_more opened between sent (collect_begins roles k m opened sent c))) in
      subst (λ i. BeginsOutputs program w i sent) (sym b.1) q
