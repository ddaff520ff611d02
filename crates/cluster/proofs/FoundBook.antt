-- What a processor knows of the book that it finds.
use Rattle.std.proofs.Common.{ℕ, ◌≡◌, ◌<◌, Option, Some, None, List, [], ◌++◌, length, slice_get, slice_index, slice_index_or, refl, sym, ap, ◌∙◌, arith}
use Rattle.std.proofs.lemmas.Option.{slice_get-get_or}
use Rattle.std.proofs.lemmas.List.{ext_get_or}
use Rattle.journal.specs.declared.event.Event.{Event}
use Rattle.journal.specs.declared.event.Kind.{Kind}
use Rattle.journal.specs.Pasts.{InPast}
use Rattle.journal.proofs.Times.TimesOfPlaces.{time_of_places_unique}
use Rattle.book.specs.BookState.{BookState, book_state_time_of}
use Rattle.book.specs.BookStamps.{IsBookStamp, IsAwaitedByBookStamps}
use Rattle.book.specs.AllowedCalls.{AllowsBlockCall, AllowsIdleBlockCall, AllowsFlushCall, AllowsClosingCall}
use Rattle.book.specs.RepresentedHistory.{RepresentsSomeHistory}
use Rattle.cluster.specs.Copies.Local.{Local}
use Rattle.cluster.specs.Copies.Sound.{IsSound}
use Rattle.cluster.specs.Copies.AfterNews.{found_after_news}
use Rattle.cluster.proofs.copies.SoundAfterOthers.{sound_after_others_found}
use Rattle.cluster.specs.Entering.{FindsOnEntering}
use Rattle.cluster.proofs.FaithfulHistory.{faithful_history_told_few}

-- what p awaits is one thing
pub found_book_awaited_once : (h : List Event) (p : ℕ) (v w : Option Kind) → IsAwaitedByBookStamps h p v → IsAwaitedByBookStamps h p w → v ≡ w
found_book_awaited_once h p None None a b = refl
found_book_awaited_once h p (Some k) w a b =
    let last = a.some k refl in a.last last.0 last.1 last.2 ∙ sym (b.last last.0 last.1 last.2)
found_book_awaited_once h p None (Some k) a b =
    let last = b.some k refl in a.last last.0 last.1 last.2 ∙ sym (b.last last.0 last.1 last.2)

-- and so is the timestamp of a set of places
pub found_book_stamp_once : (n : ℕ) (h : List Event) (among : ℕ → Type 0) (t u : List ℕ) → IsBookStamp n h among t
    → IsBookStamp n h among u → t ≡ u
found_book_stamp_once n h among t u a b =
    ext_get_or 0 t u (a.long ∙ sym b.long) (λ q _. time_of_places_unique h among (slice_index t) (slice_index u) q a.is b.is)

-- what stands at a place within a list
pub found_book_at_or : {A : Type 0} (xs : List A) (k n : ℕ) (d : A) → length xs ≡ n → k < n
    → slice_get xs k ≡ Some (slice_index_or xs k d)
found_book_at_or xs k n d long within = slice_get-get_or xs k d (omega arith)

module _ (m : Local) (sound : IsSound m) (b : BookState) (f : FindsOnEntering m b) where
  -- the processor with what it finds
  pub found_book_sound : IsSound (found_after_news m f.rest)
  found_book_sound =
      sound_after_others_found m f.rest sound f.away f.kept.told.well_formed
      (faithful_history_told_few m.sizes (m.seen ++ f.rest) b f.kept.told f.kept.few)

  pub found_book_awaits : slice_get b.awaits m.number ≡ Some m.awaits
  found_book_awaits =
      let told = f.kept.told.awaits in
      let at = found_book_at_or b.awaits m.number m.sizes.processors None told.long sound.mine in
      at ∙ ap (λ (w : Option Kind). Some w)
      (found_book_awaited_once (m.seen ++ f.rest) m.number (slice_index_or b.awaits m.number None) m.awaits
      (told.each m.number (slice_index_or b.awaits m.number None) at) found_book_sound.awaits)

  pub found_book_time : book_state_time_of b m.number ≡ m.time
  found_book_time =
      let told = f.kept.told.times in
      let at = found_book_at_or b.times m.number m.sizes.processors [] told.long sound.mine in
      found_book_stamp_once m.sizes.processors (m.seen ++ f.rest) (InPast (m.seen ++ f.rest) m.number) (book_state_time_of b m.number)
      m.time (told.each m.number (book_state_time_of b m.number) at) found_book_sound.time

  -- p may hand in its block
  pub found_book_allows_block : AllowsBlockCall m.sizes b m.number m.block
  found_book_allows_block = record { waits = (m.awaits, found_book_awaits, sound.quiet); inner = sound.inner }

  abbrev found_book_told_by_some : RepresentsSomeHistory b
  found_book_told_by_some = record { sizes = m.sizes; history = m.seen ++ f.rest; told = f.kept.told }

  pub found_book_allows_flush : AllowsFlushCall b m.number m.block
  found_book_allows_flush = record { by = found_book_told_by_some; gives = found_book_allows_block }

  module _ (idle : m.awaits ≡ None) where
    pub found_book_allows_handing_in : AllowsIdleBlockCall m.sizes b m.number m.block
    found_book_allows_handing_in = record { idle = found_book_awaits ∙ ap (λ (w : Option Kind). Some w) idle; inner = sound.inner }

    abbrev pub found_book_allows_call : AllowsClosingCall b m.number m.block
    found_book_allows_call = record { by = found_book_told_by_some; hands_in = found_book_allows_handing_in }
