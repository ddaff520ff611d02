use Rattle.std.proofs.Common.{◌<◌, length, refl, arith}
use Rattle.std.proofs.lemmas.Bool.{and_parts}
use Rattle.std.proofs.lemmas.Result.{on_ok_weaker}
use Rattle.explore.proofs.MachineSteps.{machine_step_read_at}
use Rattle.explore.proofs.TextWalks.UsesNoted.{uses_noted_word}
use Rattle.explore.proofs.text.walked_words.WalkedWord.note.Goals as goal

pub returns : goal.returns
returns c =
    let all = c.args.self.now.uses in
    let size = all.ok.0 in
    let within : c.args.processor < length all.items = omega arith in
    let at = machine_step_read_at all.items c.args.processor c.index_mut.result.now within c.index_mut.ensures.value in
    on_ok_weaker c.note.result
    (λ noted. uses_noted_word c.args.self.now _ c.args.processor c.args.row.now c.args.stores _ _ at refl noted
    (λ yes. let both = and_parts c.args.self.now.is_guarded c.are_apart.result yes in (both.0, c.are_apart.ensures both.1)))
    c.note.ensures
