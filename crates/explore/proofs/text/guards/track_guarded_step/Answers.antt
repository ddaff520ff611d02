use Rattle.std.proofs.Common.{◌≡◌, ◌<◌, length, refl, sym, subst, ◌∙◌, arith}
use Rattle.std.specs.Prelude.{slice_set, vec_len}
use Rattle.std.proofs.lemmas.Option.{same_Some}
use Rattle.std.proofs.lemmas.List.{length-set}
use Rattle.explore.specs.Users.{HasUserAt}
use Rattle.explore.specs.TextGuards.{text_guarded_step_stores}
use Rattle.explore.proofs.MachineSteps.{machine_step_read_at}
use Rattle.explore.proofs.Locksets.Noted.{lockset_noted_address_within, lockset_noted_keeps_set, lockset_noted_user}
use Rattle.explore.proofs.text.guards.track_guarded_step.Goals as goal

pub returns-in_ok-note-clause-keeps : goal.returns-in_ok-note-clause-keeps
returns-in_ok-note-clause-keeps c =
    let words = c.args.words.now in
    let address = c.in-Some.address in
    let within = lockset_noted_address_within (vec_len words) address c.args.step c.requires (sym c.in-Some.ensures) in
    let size = words.ok.0 in
    let lt : address < length words.items = omega arith in
    let at = machine_step_read_at words.items address c.index_mut.result.now lt c.index_mut.ensures.value in
    lockset_noted_keeps_set words.items address _ _ _ _ at c.in_ok-note.ensures (length-set words.items address c.note.new.self)

pub returns-in_ok-note-clause-noted : goal.returns-in_ok-note-clause-noted
returns-in_ok-note-clause-noted c = λ held same w address_is.
    let words = c.args.words.now in
    let address = c.in-Some.address in
    let within = lockset_noted_address_within (vec_len words) address c.args.step c.requires (sym c.in-Some.ensures) in
    let size = words.ok.0 in
    let lt : address < length words.items = omega arith in
    let at = machine_step_read_at words.items address c.index_mut.result.now lt c.index_mut.ensures.value in
    let is : address ≡ w = same_Some address w (c.in-Some.ensures ∙ address_is) in
    let used = lockset_noted_user words.items address _ _ _ _ at c.in_ok-note.ensures c.args.processor (text_guarded_step_stores c.args.step) held
    refl c.guarded_step_stores.ensures same in
    subst (λ n. HasUserAt (slice_set words.items address c.note.new.self) n c.args.phase c.args.processor (text_guarded_step_stores c.args.step) held)
    is used
