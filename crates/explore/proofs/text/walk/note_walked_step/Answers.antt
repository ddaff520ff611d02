use Rattle.std.proofs.Common.{◌<◌, length, sym, subst, arith}
use Rattle.std.specs.Prelude.{vec_len}
use Rattle.explore.specs.WalkedWords.{IsWalkedAccessNoted}
use Rattle.explore.proofs.MachineSteps.{machine_step_read_at}
use Rattle.explore.proofs.Locksets.Noted.{lockset_noted_address_within}
use Rattle.explore.proofs.TextWalks.WordsPassed.{words_passed_set}
use Rattle.explore.proofs.text.walk.note_walked_step.Goals as goal

pub returns-in_ok-note : goal.returns-in_ok-note
returns-in_ok-note c =
    let words = c.args.words.now in
    let address = c.in-Some.address in
    let within = lockset_noted_address_within (vec_len words) address c.args.step c.requires.within (sym c.in-Some.ensures) in
    let size = words.ok.0 in
    let lt : address < length words.items = omega arith in
    let at = machine_step_read_at words.items address c.index_mut.result.now lt c.index_mut.ensures.value in
    words_passed_set words.items address _ _ c.args.processor c.args.row.now c.args.step at (sym c.in-Some.ensures)
    (subst (IsWalkedAccessNoted c.index_mut.result.now c.note.new.self c.args.processor c.args.row.now) c.guarded_step_stores.ensures c.in_ok-note.ensures)
