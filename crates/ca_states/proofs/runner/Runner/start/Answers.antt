use Rattle.std.proofs.Common.{◌≡◌, ℕ, List, length, sym, ap, ◌∙◌, subst, arith}
use Rattle.std.proofs.lemmas.List.{length-map}
use Rattle.ca_value.specs.Seq.{list}
use Rattle.ca_value.specs.Tree.{Tree}
use Rattle.ca_value.specs.View.{view, views}
use Rattle.ca_states.specs.declared.code.EntryPoint.{EntryPoint}
use Rattle.ca_states.specs.declared.runner.Runner.{Runner}
use Rattle.ca_states.specs.Code.{BlockView, CodeView, block_at, block_view, code_view}
use Rattle.ca_states.specs.Machine.{Frame, RunnerState, begun, begun_at, runner_started}
use Rattle.ca_states.specs.ValidCode.{valid_code}
use Rattle.ca_states.specs.Standing.{state_view, calls_view, entry_at, HasRoom, RunnerStands}
use Rattle.ca_states.proofs.StandingLaws.{valid_parts, start_room, start_standing}
use Rattle.ca_states.proofs.runner.Runner.start.Goals as goal

abbrev state_of : ℕ → List Tree → List Frame → RunnerState
state_of n s fs = record { block = n; slots = s; frames = fs; turns = 0 }

pub begun-requires : goal.begun-requires
begun-requires c =
    let D = code_view c.code-code.result.now in
    let C = valid_code c.args.code.now in
    let room = start_room C (valid_parts C c.code-code.ensures.valid) c.args.start (length (list c.args.values)) c.requires in
    let e : c.entry_point-entry.result ≡ entry_at C c.args.start = c.entry_point-entry.ensures ∙ ap (λ (E : CodeView). entry_at E c.args.start) c.code-code.ensures.same in
    let w : c.block_at.result.now.width ≡ (block_at C (entry_at C c.args.start).block).width =
    ap (λ (b : BlockView). b.width) c.block_at.ensures
    ∙ ap (λ (E : CodeView). (block_at E c.entry_point-entry.result.block).width) c.code-code.ensures.same
    ∙ ap (λ (p : EntryPoint). (block_at C p.block).width) e in
    let r = room.1 in
    omega (arith, w, r)

pub returns-clause-stands : goal.returns-clause-stands
returns-clause-stands c =
    let C = valid_code c.args.code.now in
    let xs = list c.args.values in
    let p = entry_at C c.args.start in
    let room = start_room C (valid_parts C c.code-code.ensures.valid) c.args.start (length xs) c.requires in
    let r : Runner = record { block = c.entry_point-entry.result.block; slots = c.in_ok-slots.slots; calls = c.new.result; turns = 0; answer = 0 } in
    let e : c.entry_point-entry.result ≡ p = c.entry_point-entry.ensures ∙ ap (λ (E : CodeView). entry_at E c.args.start) c.code-code.ensures.same in
    let b : block_view c.block_at.result.now ≡ block_at C p.block =
    c.block_at.ensures
    ∙ ap (λ (E : CodeView). block_at E c.entry_point-entry.result.block) c.code-code.ensures.same
    ∙ ap (λ (q : EntryPoint). block_at C q.block) e in
    let s : views c.in_ok-slots.slots.items ≡ begun_at C p (views xs) = c.in_ok-slots.ensures ∙ ap (λ (d : BlockView). begun d.width (views xs)) b in
    let same : runner_started C p (views xs) ≡ state_view r =
    sym (ap (λ (q : EntryPoint). state_of q.block (views c.in_ok-slots.slots.items) (calls_view c.new.result)) e
    ∙ ap (λ t. state_of p.block t (calls_view c.new.result)) s
    ∙ ap (state_of p.block (begun_at C p (views xs))) c.new.ensures) in
    subst (RunnerStands C) same (start_standing C p (views xs) (subst (HasRoom C p) (sym (length-map xs view)) room))
