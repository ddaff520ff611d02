use Rattle.std.proofs.Common.{◌<◌, length, sym, subst, ◌∙◌, refl, arith}
use Rattle.std.specs.Global.{Vec}
use Rattle.std.proofs.lemmas.Option.{same_Some, slice_get_within}
use Rattle.std.proofs.lemmas.Grind.{elements}
use Rattle.explore.specs.declared.prefixes.script_call.ScriptCall.{ScriptCall}
use Rattle.explore.specs.declared.text.walked_rows.WalkedRow.{WalkedRow}
use Rattle.explore.specs.TextWalks.{HasTextWalkStep, IsTextWalkable}
use Rattle.explore.proofs.MachineSteps.{machine_step_read_at}
use Rattle.explore.proofs.Locksets.Noted.{lockset_noted_phase_small}
use Rattle.explore.proofs.TextWalks.OrderPassed.{order_passed_next}
use Rattle.explore.proofs.TextWalks.WordsPassed.{words_passed_next}
use Rattle.explore.proofs.text.walk.TextWalk.pass.Goals as goal

pub pass-requires-clause-phase : goal.pass-requires-clause-phase
pass-requires-clause-phase c =
    let here = c.requires.left.1 in
    let rows = c.args.self.now.rows in
    let size = rows.ok.0 in
    let within : c.args.processor < length rows.items = slice_get_within rows.items c.args.processor here.row here.row_at in
    let row_at = machine_step_read_at rows.items c.args.processor c.index.result.now within c.index.ensures in
    let told = c.requires.walks.order.each c.args.processor c.index.result.now here.calls row_at here.calls_at in
    let small = lockset_noted_phase_small here.calls.items c.index.result.now.place told.within in
    let few = c.requires.walks.walkable.short c.args.processor here.calls here.calls_at in
    let phase = told.phase in
    let place = told.within in
    omega (arith, small, few, phase, place)

pub index_mut-requires : goal.index_mut-requires
index_mut-requires c =
    let here = c.requires.left.1 in
    let rows = c.args.self.now.rows in
    let size = rows.ok.0 in
    let within : c.args.processor < length rows.items = slice_get_within rows.items c.args.processor here.row here.row_at in
    omega arith

pub returns-clause-walks : goal.returns-clause-walks
returns-clause-walks c =
    let old = c.requires.walks in
    let left = c.requires.left.1 in
    let rows = c.args.self.now.rows in
    let calls = c.index-steps-processor.result in
    let within : c.args.processor < length rows.items = slice_get_within rows.items c.args.processor left.row left.row_at in
    let row_at = machine_step_read_at rows.items c.args.processor c.index.result.now within c.index.ensures in
    let below : c.args.processor < length c.args.steps.now = slice_get_within c.args.steps.now c.args.processor left.calls left.calls_at in
    let calls_at = machine_step_read_at c.args.steps.now c.args.processor calls below c.index-steps-processor.is in
    let row_is = same_Some left.row c.index.result.now (sym left.row_at ∙ row_at) in
    let calls_are = same_Some left.calls calls (sym left.calls_at ∙ calls_at) in
    let next = slice_get_within left.calls.items left.row.place c.requires.left.0 left.at in
    let lt = subst (λ (r : WalkedRow). r.place < length calls.items) row_is
    (subst (λ (v : Vec ScriptCall). left.row.place < length v.items) calls_are next) in
    let here : HasTextWalkStep c.args.steps.now rows.items c.args.processor c.index-step.result.now = record {
      row = c.index.result.now;
      row_at = row_at;
      calls = calls;
      calls_at = calls_at;
      at = machine_step_read_at calls.items c.index.result.now.place c.index-step.result.now lt c.index-step.ensures;
    } in
    let noted = c.in_ok-note_walked_step.ensures in
    record {
      walkable = subst (λ n. IsTextWalkable n c.args.steps.now) (sym noted.long) old.walkable;
      order =
          order_passed_next c.args.steps.now rows.items c.args.self.now.flags c.meet_flag.new.flags c.args.processor c.index-step.result.now here
          c.pass.new.self c.meet_flag.new.made
          (record { place = c.pass.ensures.place; phase = c.pass.ensures.phase; held = c.pass.ensures.held; made = c.pass.ensures.made })
          c.meet_flag.ensures old.order;
      words =
          words_passed_next c.args.steps.now rows.items c.args.self.now.flags c.args.self.now.words.items c.note_walked_step.new.words.items
          c.args.processor c.index-step.result.now here c.pass.new.self c.pass.ensures.place old.order old.words noted;
    }

pub returns-clause-further : goal.returns-clause-further
returns-clause-further c =
    let left = c.requires.left.1 in
    let rows = c.args.self.now.rows in
    let within : c.args.processor < length rows.items = slice_get_within rows.items c.args.processor left.row left.row_at in
    record {
      before = c.index.result.now;
      after = c.pass.new.self;
      at = machine_step_read_at rows.items c.args.processor c.index.result.now within c.index.ensures;
      set = refl;
      next = c.pass.ensures.place;
    }

pub index-requires : goal.index-requires
index-requires c = grind (arith, elements)

pub offset_bounds-steps-processor : goal.offset_bounds-steps-processor
offset_bounds-steps-processor c = grind (arith, elements)

pub bounds-steps-processor : goal.bounds-steps-processor
bounds-steps-processor c = grind (arith, elements)

pub index-step-requires : goal.index-step-requires
index-step-requires c = grind (arith, elements)

pub note_walked_step-requires-clause-within : goal.note_walked_step-requires-clause-within
note_walked_step-requires-clause-within c = grind (arith, elements)

pub note_walked_step-requires-clause-sized : goal.note_walked_step-requires-clause-sized
note_walked_step-requires-clause-sized c = grind (arith, elements)

pub note_walked_step-requires-clause-place : goal.note_walked_step-requires-clause-place
note_walked_step-requires-clause-place c = grind (arith, elements)

pub meet_flag-requires-clause-within : goal.meet_flag-requires-clause-within
meet_flag-requires-clause-within c = grind (arith, elements)

pub meet_flag-requires-clause-processor : goal.meet_flag-requires-clause-processor
meet_flag-requires-clause-processor c = grind (arith, elements)

pub pass-requires-clause-within : goal.pass-requires-clause-within
pass-requires-clause-within c = grind (arith, elements)

pub pass-requires-clause-processor : goal.pass-requires-clause-processor
pass-requires-clause-processor c = grind (arith, elements)

pub pass-requires-clause-place : goal.pass-requires-clause-place
pass-requires-clause-place c = grind (arith, elements)
