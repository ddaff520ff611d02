use Rattle.std.proofs.Common.{◌≡◌, ◌<◌, ◌⊎◌, inl, inr, false, length, Some, ap, refl, rules, subst, sym, arith, ◌∙◌}
use Rattle.std.specs.Prelude.{slice_index_or}
use Rattle.std.proofs.lemmas.Option.{same_Some, slice_get_read}
use Rattle.std.proofs.lemmas.Result.{on_ok_weaker}
use Rattle.base.specs.InOrderOnce.{Has}
use Rattle.explore.specs.declared.text.text_accesses.TextAccess.{TextAccess}
use Rattle.explore.specs.TextGuards.{text_guarded_step_address, text_guarded_step_stores}
use Rattle.explore.specs.UnguardedWords.{HasTextAccessLike, text_accesses_in}
use Rattle.explore.specs.WalkedWords.{walked_row_holds}
use Rattle.explore.proofs.KeptAccesses.{row_changed_or_same}
use Rattle.explore.proofs.text.text_accesses.note_step_text_access.Goals as goal

pub returns-clause-keeps : goal.returns-clause-keeps
returns-clause-keeps c =
    let kept = c.args.kept.now.items in
    let word = c.in-Some.word in
    let old = c.index_mut.result.now in
    let new = c.note_text_access.new.accesses in
    let lt : word < length kept = (let long = c.requires in let below = c.if-word-guarded.false in omega arith) in
    let read = ap text_accesses_in (slice_get_read kept _ word old refl lt c.index_mut.ensures.value) in
    on_ok_weaker c.note_text_access.result
    (λ (keeps : (x : TextAccess) → Has old.items x → Has new.items x) w x has. elim (row_changed_or_same kept word w old new lt read) [
      | inl changed ↦ subst (λ xs. Has xs x) (sym changed.now) (keeps x (subst (λ xs. Has xs x) changed.was has))
      | inr other ↦ subst (λ xs. Has xs x) (sym other.same) has
    ])
    c.note_text_access.ensures.keeps

pub returns-clause-only : goal.returns-clause-only
returns-clause-only c =
    let kept = c.args.kept.now.items in
    let word = c.in-Some.word in
    let old = c.index_mut.result.now in
    let new = c.note_text_access.new.accesses in
    let lt : word < length kept = (let long = c.requires in let below = c.if-word-guarded.false in omega arith) in
    let read = ap text_accesses_in (slice_get_read kept _ word old refl lt c.index_mut.ensures.value) in
    let address : text_guarded_step_address c.args.step ≡ Some word = search rules in
    let access : TextAccess = record {
      processor = c.args.processor;
      place = c.args.at.now.place;
      stores = c.guarded_step_stores.result;
      phase = c.args.at.now.phase;
      held = c.args.at.now.held;
      flags_met = c.args.flags_met;
    } in
    on_ok_weaker c.note_text_access.result
    (λ (only : (x : TextAccess) → Has new.items x → Has old.items x ⊎ (x ≡ access)) w x has. elim (row_changed_or_same kept word w old new lt read) [
      | inl changed ↦
          elim (only x (subst (λ xs. Has xs x) changed.now has)) [
            | inl before ↦ inl (subst (λ xs. Has xs x) (sym changed.was) before)
            | inr is ↦ inr (
              address ∙ ap Some (sym changed.is),
              ap (λ (a : TextAccess). a.place) is,
              record {
                processor = ap (λ (a : TextAccess). a.processor) is;
                phase_is = ap (λ (a : TextAccess). a.phase) is;
                stores = ap (λ (a : TextAccess). a.stores) is ∙ c.guarded_step_stores.ensures;
                held_are = λ l. ap (λ (a : TextAccess). slice_index_or a.held l false) is;
              },
            )
          ]
      | inr other ↦ inl (subst (λ xs. Has xs x) other.same has)
    ])
    c.note_text_access.ensures.only

pub returns-clause-noted : goal.returns-clause-noted
returns-clause-noted c =
    let kept = c.args.kept.now.items in
    let word = c.in-Some.word in
    let old = c.index_mut.result.now in
    let new = c.note_text_access.new.accesses in
    let lt : word < length kept = (let long = c.requires in let below = c.if-word-guarded.false in omega arith) in
    let read = ap text_accesses_in (slice_get_read kept _ word old refl lt c.index_mut.ensures.value) in
    let address : text_guarded_step_address c.args.step ≡ Some word = search rules in
    on_ok_weaker c.note_text_access.result
    (λ (noted : HasTextAccessLike new.items c.args.processor c.args.at.now.phase c.guarded_step_stores.result (λ l. slice_index_or c.args.at.now.held l false)) w below unknown its. elim (row_changed_or_same kept word w old new lt read) [
      | inl changed ↦
          subst (λ xs. HasTextAccessLike xs c.args.processor c.args.at.now.phase (text_guarded_step_stores c.args.step) (walked_row_holds c.args.at.now))
          (sym changed.now)
          (subst (λ s. HasTextAccessLike new.items c.args.processor c.args.at.now.phase s (walked_row_holds c.args.at.now)) c.guarded_step_stores.ensures noted)
      | inr other ↦ absurd (other.isnt (same_Some w word (sym its ∙ address)))
    ])
    c.note_text_access.ensures.noted
