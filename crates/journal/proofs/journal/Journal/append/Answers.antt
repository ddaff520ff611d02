use Rattle.std.proofs.Common.{List, ◌≡◌, ℕ, ◌-◌, ◌≤◌, ◌<◌, ◌∷◌, [], ◌++◌, length, take, drop, subst, sym, ap, ◌∙◌, length-append, length-drop, arith}
use Rattle.std.proofs.lemmas.List.{drop-append-le}
use Rattle.std.proofs.lemmas.Option.{IfSome_then}
use Rattle.std.proofs.lemmas.Grind.{elements, common_steps}
use Rattle.journal.specs.declared.event.Event.{Event}
use Rattle.journal.specs.Log.{Log}
use Rattle.journal.specs.EventsInRange.{EventAddressInRange, EventAddressesInRange, EventProcessorsInRange}
use Rattle.journal.specs.Opening.{IsOpening}
use Rattle.journal.specs.KeptBaseState.{base_of_kept_state}
use Rattle.journal.specs.CutEpisodes.{AreCutEpisodes, IsRaceOfCutEpisodes}
use Rattle.journal.proofs.FromBase.LongerAndShorter.{longer_part_race}
use Rattle.journal.proofs.Journals.JournalMemory.{journal_memory_within_length, journal_memory_processors_push, journal_memory_addresses_push, journal_memory_processors_part, journal_memory_opening_longer, journal_memory_behind_whole, journal_memory_up_to_last, journal_memory_before_last}
use Rattle.journal.proofs.journal.Journal.append.Goals as goal

pub note-requires-clause-so_far : goal.note-requires-clause-so_far
note-requires-clause-so_far c =
    let j = c.self.inside in
    let le = journal_memory_within_length j.processors j.events.items c.self.invariant.opening in
    let events : List Event = drop j.processors j.events.items in
    let now : take (length c.deref.result.now - j.processors) (drop j.processors c.deref.result.now)
    ≡ events ++ c.args.event ∷ [] =
    ap (λ (xs : List Event). take (length xs - j.processors) (drop j.processors xs))
    (c.deref.ensures.value ∙ c.in-Ok.ensures.items)
    ∙ journal_memory_behind_whole j.processors (j.events.items ++ c.args.event ∷ [])
    ∙ drop-append-le j.processors j.events.items (c.args.event ∷ []) le in
    subst (λ (xs : List Event). AreCutEpisodes j.processors xs j.episodes)
    (sym (ap (λ (xs : List Event). take (length xs - 1) xs) now ∙ journal_memory_before_last events c.args.event))
    c.self.invariant.episodes

pub note-requires-clause-processors : goal.note-requires-clause-processors
note-requires-clause-processors c =
    let j = c.self.inside in
    let all =
    journal_memory_processors_push j.processors j.events.items c.args.event c.self.invariant.by_processors
    (subst (λ (l : Log). c.args.event.processor < l.processors) (sym c.self.view_is) c.requires.processor) in
    journal_memory_processors_part j.processors j.processors (length c.deref.result.now - j.processors) c.deref.result.now
    (subst (EventProcessorsInRange j.processors) (sym (c.deref.ensures.value ∙ c.in-Ok.ensures.items)) all)

pub invariant_of-self : goal.invariant_of-self
invariant_of-self c =
    let j = c.self.inside in
    let held = c.self.invariant in
    let items : c.push.new.self.items ≡ j.events.items ++ c.args.event ∷ [] = c.in-Ok.ensures.items in
    let len = c.in-Ok.ensures.len in
    let le : j.processors ≤ length j.events.items = journal_memory_within_length j.processors j.events.items held.opening in
    let room = ap (λ (l : Log). l.room) c.self.view_is in
    let count = ap (λ (l : Log). length l.events) c.self.view_is in
    let behind = length-drop j.processors j.events.items in
    let noted : List Event =
    take (length c.deref.result.now - j.processors) (drop j.processors c.deref.result.now) in
    let all : noted ≡ drop j.processors c.push.new.self.items =
    ap (λ (xs : List Event). take (length xs - j.processors) (drop j.processors xs)) c.deref.ensures.value
    ∙ journal_memory_behind_whole j.processors c.push.new.self.items in
    let pushed : drop j.processors c.push.new.self.items
    ≡ drop j.processors j.events.items ++ c.args.event ∷ [] =
    ap (λ (xs : List Event). drop j.processors xs) items
    ∙ drop-append-le j.processors j.events.items (c.args.event ∷ []) le in
    let some : 0 < length noted =
    (let same = ap (λ (xs : List Event). length xs) (all ∙ pushed) in
    let more = length-append (drop j.processors j.events.items) (c.args.event ∷ []) in omega arith) in
    record {
      reserved = omega (arith, c.in-Ok.ensures.capacity, held.reserved, c.requires.room);
      few = omega (arith, c.requires.limit, j.events.ok.0);
      few_processors = held.few_processors;
      opening =
          subst (λ (xs : List Event). IsOpening j.processors (take j.processors xs)) (sym items)
          (journal_memory_opening_longer j.processors j.events.items (c.args.event ∷ []) le held.opening);
      by_processors =
          subst (EventProcessorsInRange j.processors) (sym items) (journal_memory_processors_push j.processors j.events.items c.args.event
          held.by_processors (subst (λ (l : Log). c.args.event.processor < l.processors) (sym c.self.view_is)
          c.requires.processor));
      in_range =
          subst (EventAddressesInRange j.addresses) (sym items) (journal_memory_addresses_push j.addresses j.events.items c.args.event
          held.in_range (subst (λ (l : Log). EventAddressInRange l.addresses c.args.event.kind)
          (sym c.self.view_is) c.requires.address));
      kept = held.kept;
      episodes =
          subst (λ (xs : List Event). AreCutEpisodes j.processors xs c.note.new.self) (journal_memory_up_to_last noted some ∙ all)
          c.note.ensures;
      race =
          IfSome_then j.race held.race (λ (r : ℕ × ℕ) known. subst
          (λ (xs : List Event). IsRaceOfCutEpisodes j.processors (base_of_kept_state j.kept) xs r.0 r.1) (sym pushed)
          (longer_part_race j.processors (base_of_kept_state j.kept) (drop j.processors j.events.items) (c.args.event ∷ [])
          r.0 r.1 known));
    }

pub note-requires-clause-few : goal.note-requires-clause-few
note-requires-clause-few c = grind (arith, elements)

pub note-requires-clause-place : goal.note-requires-clause-place
note-requires-clause-place c = grind (arith, elements)

pub overflow_sub-place : goal.overflow_sub-place
overflow_sub-place c = grind (arith, common_steps)

pub returns : goal.returns
returns c = grind (arith, common_steps)

pub slice_bounds-events-count : goal.slice_bounds-events-count
slice_bounds-events-count c = grind (arith, common_steps)

pub slice_bounds-events-start : goal.slice_bounds-events-start
slice_bounds-events-start c = grind (arith, common_steps)
