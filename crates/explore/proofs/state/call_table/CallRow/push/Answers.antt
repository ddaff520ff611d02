use Rattle.std.proofs.Common.{◌≡◌, ◌-◌, ◌<◌, List, length, slice_get, Some, ap, sym, subst, ◌∙◌, arith}
use Rattle.std.proofs.lemmas.List.Sums.{count_by-le-length}
use Rattle.explore.specs.declared.state.call_table.CallRow.{CallRow}
use Rattle.explore.specs.declared.state.call_table.CallsMade.{CallsMade}
use Rattle.explore.specs.declared.prefixes.script_call.ScriptCall.{ScriptCall}
use Rattle.explore.specs.CallTables.{TellsCallRow, TellsCallsMade, call_arrives}
use Rattle.explore.proofs.MachineSteps.{machine_step_read_at}
use Rattle.explore.proofs.CallTables.Rows.{call_row_last, call_row_list_kept, call_row_list_within, call_row_push}
use Rattle.explore.proofs.state.call_table.CallRow.push.Goals as goal

-- what the row tells so far
last_at : (x : CallRow) (row : List ScriptCall) (m : CallsMade) (place : _) → TellsCallRow row x → place ≡ length x.made.items - 1
    → (place < length x.made.items → slice_get x.made.items place ≡ Some m) → slice_get x.made.items (length x.made.items - 1) ≡ Some m
last_at x row m place tells is at =
    let long = tells.long in
    subst (λ n. slice_get x.made.items n ≡ Some m) is (at (omega arith))

told : (x : CallRow) (row : List ScriptCall) (m : CallsMade) → TellsCallRow row x → slice_get x.made.items (length x.made.items - 1) ≡ Some m
    → TellsCallsMade x.lists.items row m
told x row m tells at =
    let long = tells.long in
    let place : length x.made.items - 1 ≡ length row = omega arith in
    call_row_last row x m tells (subst (λ n. slice_get x.made.items n ≡ Some m) place at)

pub call_locks_after-requires : goal.call_locks_after-requires
call_locks_after-requires c =
    let x = c.args.self.now in
    let m = c.index-last.result.now in
    let tells = c.requires.row.1 in
    let at = last_at x c.requires.row.0 m _ tells (ap (λ n. n - 1) (c.len.ensures ∙ x.made.ok.0))
    (λ lt. machine_step_read_at x.made.items _ m lt c.index-last.ensures) in
    subst (λ n. m.locks < n) (sym x.lists.ok.0) (call_row_list_within x.lists.items m.locks _ (told x c.requires.row.0 m tells at).locks)

pub call_flags_after-requires : goal.call_flags_after-requires
call_flags_after-requires c =
    let x = c.args.self.now in
    let m = c.index-last.result.now in
    let tells = c.requires.row.1 in
    let at = last_at x c.requires.row.0 m _ tells (ap (λ n. n - 1) (c.len.ensures ∙ x.made.ok.0))
    (λ lt. machine_step_read_at x.made.items _ m lt c.index-last.ensures) in
    let kept = call_row_list_kept x.lists.items c.call_locks_after.new.lists.items m.flags _ c.in_ok-locks.ensures.keeps
    (told x c.requires.row.0 m tells at).flags in
    subst (λ n. m.flags < n) (sym c.call_locks_after.new.lists.ok.0) (call_row_list_within c.call_locks_after.new.lists.items m.flags _ kept)

pub call_arrivals_after-requires : goal.call_arrivals_after-requires
call_arrivals_after-requires c =
    let x = c.args.self.now in
    let m = c.index-last.result.now in
    let row = c.requires.row.0 in
    let tells = c.requires.row.1 in
    let few = c.requires.row.2 in
    let at = last_at x row m _ tells (ap (λ n. n - 1) (c.len.ensures ∙ x.made.ok.0))
    (λ lt. machine_step_read_at x.made.items _ m lt c.index-last.ensures) in
    let is = (told x row m tells at).arrivals in
    let le = count_by-le-length call_arrives row in
    omega (arith, is, le, few)

pub returns : goal.returns
returns c = λ row tells.
    let x = c.args.self.now in
    let m = c.index-last.result.now in
    let at = last_at x row m _ tells (ap (λ n. n - 1) (c.len.ensures ∙ x.made.ok.0))
    (λ lt. machine_step_read_at x.made.items _ m lt c.index-last.ensures) in
    call_row_push row x _ c.args.step m _ tells (record {
      last_at = at;
      made = c.in_ok-push.ensures.items;
      between = c.call_locks_after.new.lists.items;
      locks = c.in_ok-locks.ensures;
      flags = c.in_ok-flags.ensures;
      wait = c.call_wait_after.ensures;
      arrivals = c.call_arrivals_after.ensures;
    })
