-- The worked moments: their events are possible.
use Rattle.std.proofs.Common.{◌≡◌, ℕ, List, [], ◌∷◌, refl, sym, ap, ap₂, ◌∙◌, subst, arith, Option, Some, None, option_map, true, eqb, pos}
use Rattle.std.specs.Map.{update}
use Rattle.ca_value.specs.Tree.{nil, bool, int, port}
use Rattle.ca_term.specs.declared.event.Side.TheVariants.{Take, Put}
use Rattle.ca_term.specs.Operation.{putting}
use Rattle.ca_term.specs.Program.{ProgramView}
use Rattle.ca_term.specs.Event.{put_of, met, settled}
use Rattle.ca_meaning.specs.Channel.{Channel, shut, new_channel}
use Rattle.ca_value.specs.Buffer.{no_buffer}
use Rattle.ca_meaning.specs.Wait.{Wait, Handler, front, without, owner_of}
use Rattle.ca_meaning.specs.Row.{meets, settles, settle_row, row_at}
use Rattle.ca_meaning.specs.Task.{body_reply}
use Rattle.ca_value.specs.declared.value.PortId.{PortId}
use Rattle.ca_term.specs.declared.fault.Fault.{Fault}
use Rattle.ca_term.specs.declared.place.Place.{Place}
use Rattle.ca_term.specs.declared.event.Ending.TheVariants.{Faulted}
use Rattle.ca_term.specs.Event.{over, port_number}
use Rattle.ca_meaning.specs.Refusal.{fault_at}
use Rattle.ca_meaning.specs.State.{shut_at, shut_result, over as ended}
use Rattle.ca_meaning.specs.State.{State, Task, Tasks, runs}
use Rattle.ca_meaning.specs.Choice.{row}
use Rattle.ca_meaning.specs.Going.{Wakes}
use Rattle.ca_meaning.specs.Steps.{Step}
use Rattle.ca_meaning.specs.Worked.{takes_one, AtMeeting, AtTimeout, AtFault}
use Rattle.ca_meaning.proofs.Possible.{goes_there, waiters_kept}

abbrev two_takers : List Wait
two_takers = takes_one 1 0 ∷ takes_one 2 3 ∷ []

pub meeting : (program : ProgramView) (s : State) (x : Task) → AtMeeting s x → (s2 : State) × Step program s (met 1 0 Put 1 (int (pos 42)) 1 0) s2
meeting program s x m =
    let g = goes_there program s.tasks 1 x (body_reply x.body 1 (bool true)) in
    let y = m.taker in
    let v = goes_there program g.0 0 y.0 (body_reply y.0.body 1 (int (pos 42))) in
    let h : Handler = record { wait = 1; branch = 0; value = nil } in
    let there : g.0 0 ≡ Some y.0 = ap (λ (z : Tasks). z 0) g.1.2 ∙ waiters_kept s 1 x (runs x.result g.1.0) m.stands.0 m.stands.1 0 1 y.0 y.1 y.2 in
    let wakes : Wakes program (owner_of 1 s.waits) g.0 1 1 (int (pos 42)) v.0 = subst (λ o. Wakes program o g.0 1 1 (int (pos 42)) v.0) (sym (ap (owner_of 1) m.waits)) (y.0, there, y.2, v.1) in
    let meets_it : row s (put_of 1 (int (pos 42))) ≡ meets h (int (pos 42)) = ap₂ (λ o ws. row_at o (front Take 1 ws) (front Put 1 ws) (put_of 1 (int (pos 42)))) m.channel m.waits in
    (record s { tasks = v.0; waits = without 1 s.waits }, (x, putting (port 1) (int (pos 42)), put_of 1 (int (pos 42)), h, g.0, v.0, m.stands, (refl, λ pr j o lt. absurd (omega (arith, lt))), refl, refl, meets_it, refl, refl, g.1, wakes, refl))

pub timeout_settles : (program : ProgramView) (s : State) → AtTimeout s → (s2 : State) × Step program s (settled 1 1 Take 1 nil) s2
timeout_settles program s m =
    let y = m.taker in
    let v = goes_there program s.tasks 0 y.0 (body_reply y.0.body 1 nil) in
    let h : Handler = record { wait = 1; branch = 1; value = nil } in
    let c : Channel = shut (new_channel no_buffer 0) in
    let wakes : Wakes program (owner_of 1 s.waits) s.tasks 1 1 nil v.0 = subst (λ o. Wakes program o s.tasks 1 1 nil v.0) (sym (ap (owner_of 1) m.waits)) (y.0, y.1, y.2, v.1) in
    let settles_it : settle_row c (front Take 1 s.waits) (front Put 1 s.waits) ≡ settles Take h nil c = ap (λ ws. settle_row c (front Take 1 ws) (front Put 1 ws)) m.waits in
    (record s { tasks = v.0; channels = update eqb s.channels 1 (Some c); waits = without 1 s.waits }, (c, c, h, v.0, m.channel, settles_it, refl, refl, wakes, refl))

abbrev as_port : ℕ → PortId
as_port n = record { n = n }

number_one : (r : Option PortId) → option_map port_number r ≡ Some 1 → r ≡ Some (record { n = 1 })
number_one None e = absurd (let k : None ≡ Some 1 = e in cc)
number_one (Some q) e = ap (λ (n : ℕ). Some (as_port n)) (let k : q.n ≡ 1 = cc in k)

pub fault_closes : (program : ProgramView) (s s2 : State) (x : Task) (f : Fault) (p : Place) (r : Option PortId) → AtFault s x f p → Step program s (over 1 (Faulted f p r)) s2 → (r ≡ Some (record { n = 1 })) × (s2.channels 1 ≡ option_map shut (s.channels 1))
fault_closes program s s2 x f p r m k =
    let same : x ≡ k.0 = (let j : Some x ≡ Some k.0 = sym m.runs.0 ∙ k.1.0 in cc) in
    let n : option_map port_number r ≡ Some 1 = sym k.3 ∙ ap (λ (z : Task). z.result) (sym same) ∙ m.result in
    (number_one r n, ap (λ (z : State). z.channels 1) k.4 ∙ ap (λ o. shut_result o s.channels 1) n)

pub fault_allowed : (program : ProgramView) (s : State) (x : Task) (f : Fault) (p : Place) → AtFault s x f p → (s2 : State) × Step program s (over 1 (Faulted f p (Some (record { n = 1 })))) s2
fault_allowed program s x f p m = (record s { tasks = update eqb s.tasks 1 (Some (record x { mode = ended })); channels = shut_at 1 s.channels }, (x, m.runs, ap (fault_at s) m.fault, m.result, refl))
