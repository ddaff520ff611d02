-- The open blocks that are handed in at the end.
use Rattle.std.proofs.Common.{ℕ, ◌≡◌, ◌≢◌, ◌+◌, ◌<◌, ◌≤◌, Option, Some, None, List, [], ◌∷◌, ◌++◌, length, map, slice_get, take, slice_index_or, inl, inr, refl, sym, ap, subst, ◌∙◌, append-nil, append_assoc, add-one, arith}
use Rattle.std.proofs.lemmas.Bool.{cases_eq}
use Rattle.std.proofs.lemmas.Grind.{flat_map-append}
use Rattle.std.proofs.lemmas.Option.{slice_get_within, slice_get-get_or, slice_get-map}
use Rattle.std.specs.Option.{option_map}
use Rattle.std.proofs.lemmas.List.Elements.{filter-append}
use Rattle.journal.specs.declared.event.Event.{Event}
use Rattle.journal.specs.declared.event.Kind.{Kind}
use Rattle.journal.specs.Sizes.{Sizes}
use Rattle.journal.specs.Events.{EventAt}
use Rattle.base.proofs.SlicesAndCounts.{slice_append_cases, slice_take-suc_at}
use Rattle.book.specs.BookState.{BookState}
use Rattle.book.specs.AllowedCalls.{AllowsFlushCall, AllowsBlockCall}
use Rattle.book.specs.Transitions.{transition_handed_last}
use Rattle.book.proofs.Told.WholeLaws.{whole_last_block_law}
use Rattle.cluster.specs.Copies.Local.{Local}
use Rattle.cluster.specs.Copies.Sound.{IsSound}
use Rattle.cluster.proofs.copies.SoundAfterOthers.{sound_after_others_awaited}
use Rattle.cluster.specs.Covers.{IsCovered}
use Rattle.cluster.specs.Finishing.{HasCallsToFinish, IsToFinish, IsFinishing, AreBlocksToFinish}
use Rattle.cluster.proofs.CoveringHistories.{covering_history_goes_on, covering_history_part_away}
use Rattle.cluster.proofs.FoundBook.{found_book_awaited_once, found_book_at_or}
use Rattle.cluster.proofs.HandingVisits.{handing_visit_part_own}

module _ (s : Sizes) (ms : List Local) (k : ℕ) (b : BookState) (m : Local) (at : slice_get ms k ≡ Some m)
    (rest : List Event) (away : (i : ℕ) (e : Event) → EventAt rest i e
    → e.processor ≢ m.number) (fin : IsFinishing s ms k (m.seen ++ rest) b) where
  abbrev finishing_last_block_history : List Event
  finishing_last_block_history = m.seen ++ rest

  last_block_sound : IsSound m
  last_block_sound = (fin.sound k m at).0

  number : m.number ≡ k
  number = (fin.sound k m at).1

  last_block_sizes : m.sizes ≡ s
  last_block_sizes = (fin.sound k m at).2

  last_block_mine : (i : ℕ) (e : Event) → EventAt m.block i e → e.processor ≡ m.number
  last_block_mine i e there = (last_block_sound.inner i e there).mine

  last_block_awaits_here : slice_get b.awaits m.number ≡ Some m.awaits
  last_block_awaits_here =
      let told = fin.told.awaits in
      let within : m.number < s.processors = subst (λ (z : Sizes). m.number < z.processors) last_block_sizes last_block_sound.mine in
      let there = found_book_at_or b.awaits m.number s.processors None told.long within in
      there ∙ ap (λ (w : Option Kind). Some w) (found_book_awaited_once finishing_last_block_history m.number (slice_index_or b.awaits m.number None)
      m.awaits (told.each m.number (slice_index_or b.awaits m.number None) there)
      (sound_after_others_awaited m.seen rest m.number m.awaits away last_block_sound.awaits))

  may_give_last_block : AllowsBlockCall s b m.number m.block
  may_give_last_block = record { waits = (m.awaits, last_block_awaits_here, last_block_sound.quiet); inner = rw (← last_block_sizes) last_block_sound.inner }

  -- the block may be handed in
  pub may_flush_last_block : AllowsFlushCall b k m.block
  may_flush_last_block = rw (← number) (record {
    by = record { sizes = s; history = finishing_last_block_history; told = fin.told };
    gives =
        may_give_last_block;
  })

  -- and there is room for it
  pub room_for_last_block : length m.block ≤ b.journal.room
  room_for_last_block = let within = slice_get_within ms k m at in let short = last_block_sound.short in let room = fin.room in omega arith

  last_block_covered : IsCovered m finishing_last_block_history
  last_block_covered = covering_history_goes_on m last_block_sound rest away (rw last_block_sizes fin.told.well_formed) fin.explained (rw last_block_sizes fin.counted)
      (rw last_block_sizes fin.copied)

  -- after that one more is done
  pub finishing_last_block_next : IsFinishing s ms (k + 1) (finishing_last_block_history ++ m.block) (transition_handed_last b m.block)
  finishing_last_block_next = record {
    told = whole_last_block_law s finishing_last_block_history m.block b m.number fin.told may_give_last_block;
    explained = last_block_covered.explained;
    counted = rw (← last_block_sizes) last_block_covered.counted;
    copied = rw (← last_block_sizes) last_block_covered.copied;
    cuts = fin.cuts;
    room = let short = last_block_sound.short in let enough = room_for_last_block in let room = fin.room in omega arith;
    sound = fin.sound;
    done = done;
    to_come = to_come;
    in_turn = (
      fin.in_turn.0,
      rw (
        more,
        flat_map-append,
        append-nil,
        ← append_assoc,
      ) (ap (λ (xs : List Event). xs ++ m.block) fin.in_turn.1),
    );
    goes_on = fin.goes_on;
  }
    where
      more : take (k + 1) ms ≡ take k ms ++ m ∷ []
      more = ap (λ (n : ℕ). take n ms) (add-one k) ∙ slice_take-suc_at ms k m at

      done : (p : ℕ) (x : Local) → p < k + 1 → slice_get ms p ≡ Some x → HasCallsToFinish (finishing_last_block_history ++ m.block) x
      done p x before there = elim (cases_eq p k) [
        | inl same ↦
            (let P : ℕ → Type 0 = λ i. slice_get ms i ≡ Some x in
            let is : m ≡ x = cc (at, subst P same there) in
            subst (HasCallsToFinish (finishing_last_block_history ++ m.block)) is (record {
              begins = (rest ++ m.block, append_assoc m.seen rest m.block);
              calls_are =
                  rw (
                    filter-append,
                    filter-append,
                    covering_history_part_away rest m.number away,
                    handing_visit_part_own m.block m.number last_block_mine,
                    append-nil,
                  ) refl;
            }))
        | inr other ↦
            (let old = fin.done p x (omega arith) there in
            let own = (fin.sound p x there).1 in
            let apart : (i : ℕ) (e : Event) → EventAt m.block i e → e.processor ≢ x.number =
            λ i e finishing_last_block_here is. other (sym own ∙ sym is ∙ last_block_mine i e finishing_last_block_here ∙ number) in
            record {
              begins = (
                old.begins.0 ++ m.block,
                ap (λ (xs : List Event). xs ++ m.block) old.begins.1
                    ∙ append_assoc x.seen old.begins.0 m.block,
              );
              calls_are = rw (filter-append, covering_history_part_away m.block x.number apart, append-nil) old.calls_are;
            })
      ]

      to_come : (p : ℕ) (x : Local) → k + 1 ≤ p → slice_get ms p ≡ Some x → IsToFinish (finishing_last_block_history ++ m.block) x
      to_come p x after there =
          let old = fin.to_come p x (omega arith) there in
          let own = (fin.sound p x there).1 in
          record {
            rest = old.rest ++ m.block;
            begins = ap (λ (xs : List Event). xs ++ m.block) old.begins ∙ append_assoc x.seen old.rest m.block;
            away = λ i e finishing_last_block_here. elim (slice_append_cases old.rest m.block i e finishing_last_block_here) [
              | inl a ↦ old.away i e a.1
              | inr a ↦ (λ is. let same = last_block_mine a.0 e a.2 in let first = number in omega arith)
            ];
          }

module _ (s : Sizes) (ms : List Local) (k : ℕ) (finishing_last_block_history : List Event) (b : BookState) (fin : IsFinishing s ms k finishing_last_block_history b) (m : Local)
    (at : slice_get ms k ≡ Some m) where
  abbrev last_block_come : IsToFinish finishing_last_block_history m
  last_block_come = fin.to_come k m (omega arith) at

  abbrev finishing_last_block_here : IsFinishing s ms k (m.seen ++ last_block_come.rest) b
  finishing_last_block_here = let P : List Event → Type 0 = λ xs. IsFinishing s ms k xs b in subst P last_block_come.begins fin

  -- the next block may be handed in
  pub last_block_may_flush_next : AllowsFlushCall b k m.block
  last_block_may_flush_next = may_flush_last_block s ms k b m at last_block_come.rest last_block_come.away finishing_last_block_here

  pub last_block_fits : length m.block ≤ b.journal.room
  last_block_fits = room_for_last_block s ms k b m at last_block_come.rest last_block_come.away finishing_last_block_here

  -- and then the history has it
  pub finishing_one_more_last_block : (g : List Event) × IsFinishing s ms (k + 1) g (transition_handed_last b m.block)
  finishing_one_more_last_block = ((m.seen ++ last_block_come.rest) ++ m.block, finishing_last_block_next s ms k b m at last_block_come.rest last_block_come.away finishing_last_block_here)

-- what stands at a place of a mapped list
pub last_blocks_mapped_at : {A B : Type 0} (f : A → B) (xs : List A) (k : ℕ) (x : A) → slice_get xs k ≡ Some x
    → slice_get (map f xs) k ≡ Some (f x)
last_blocks_mapped_at f xs k x at = slice_get-map f xs k ∙ ap (option_map f) at

-- the processor whose block stands at this place
pub last_block_of : (ms : List Local) (blocks : List (List Event)) (k : ℕ) (block : List Event) → AreBlocksToFinish ms blocks
    → slice_get blocks k ≡ Some block → (m : Local) × (slice_get ms k ≡ Some m) × (block ≡ m.block)
last_block_of [] blocks k block are at =
    let within = slice_get_within blocks k block at in let all = are.all in absurd (omega arith)
last_block_of (x ∷ xs) blocks k block are at =
    let within = slice_get_within blocks k block at in
    let all = are.all in
    let there = slice_get-get_or (x ∷ xs) k x (omega arith) in
    (slice_index_or (x ∷ xs) k x, there, are.each k (slice_index_or (x ∷ xs) k x) block there at)

module _ (ms : List Local) (s : Sizes) (finishing_last_block_history : List Event) (b : BookState) (k : ℕ) (fin : IsFinishing s ms k finishing_last_block_history b)
    (blocks : List (List Event)) (are : AreBlocksToFinish ms blocks) (block : List Event)
    (at : slice_get blocks k ≡ Some block) where
  pub may_last_block : AllowsFlushCall b k block
  may_last_block = let m = last_block_of ms blocks k block are at in rw (m.2) (last_block_may_flush_next s ms k finishing_last_block_history b fin m.0 m.1)

  pub fits_last_block : length block ≤ b.journal.room
  fits_last_block = let m = last_block_of ms blocks k block are at in rw (m.2) (last_block_fits s ms k finishing_last_block_history b fin m.0 m.1)

  pub finishing_one_more_block : (g : List Event) × IsFinishing s ms (k + 1) g (transition_handed_last b block)
  finishing_one_more_block = let m = last_block_of ms blocks k block are at in rw (m.2) (finishing_one_more_last_block s ms k finishing_last_block_history b fin m.0 m.1)
