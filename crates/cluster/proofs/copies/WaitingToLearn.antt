-- What a processor that waits may learn.
use Rattle.std.proofs.Common.{ℕ, ◌≡◌, ◌≢◌, ◌<◌, ◌≤◌, inl, inr, Bool, false, Some, None, List, count_by, filter, length, map, get_or, slice_get, slice_index, refl, sym, ap, subst, ◌∙◌, arith}
use Rattle.std.proofs.Math.Nat.{div-lt_iff_lt-mul}
use Rattle.std.proofs.lemmas.Bool.{cases_lt, eq-eqb}
use Rattle.std.proofs.lemmas.List.Sums.{length-filter}
use Rattle.std.proofs.lemmas.Option.{same_Some, slice_get_within, slice_get-get_or}
use Rattle.journal.specs.declared.event.Event.{Event}
use Rattle.journal.specs.declared.event.Kind.TheVariants.{Store}
use Rattle.journal.specs.DidEvent.{event}
use Rattle.journal.specs.Events.{event_closes, event_interval_at}
use Rattle.journal.specs.MissingIntervals.{MissingInterval, IsMissingIntervalPlace, AreMissingIntervals, AreMissingIntervalsOfNotices, MissingIntervalsInOrder}
use Rattle.journal.specs.Times.{IsTimeOf}
use Rattle.journal.specs.Sizes.{Sizes}
use Rattle.journal.proofs.Missing.MissingGaps.{missing_gaps_apart}
use Rattle.journal.proofs.Times.PushedTimes.{pushed_time_covers_past}
use Rattle.base.specs.InOrderOnce.{Has}
use Rattle.base.proofs.JoinedLists.{joined_list_has-nil, joined_list_has-map}
use Rattle.base.proofs.FilteredInOrder.{filtered_in_order_has}
use Rattle.base.proofs.SlicesAndCounts.{slice_count_by-past}
use Rattle.page.specs.declared.page.Access.{Access}
use Rattle.page.specs.declared.page.Access.TheVariants.{Valid, Invalid}
use Rattle.page.specs.Contents.{ContentsAreClean}
use Rattle.interval.specs.SentIntervals.{SentRecord}
use Rattle.interval.specs.KeptClosings.{is_kept_closing_of_page}
use Rattle.book.specs.PageNews.{page_news_of_notice, news_of_page}
use Rattle.cluster.specs.Copies.PageReplica.{PageReplica, IsPageReplica}
use Rattle.cluster.specs.Copies.Local.{Local}
use Rattle.cluster.specs.Copies.Sound.{IsSound}
use Rattle.cluster.specs.Copies.AfterNews.{AreSameCopiesAfterNews, IsSameCopyAfterNews, CopyMayLackNews, CopiesMayLackNews}
use Rattle.cluster.proofs.copies.Replicas.{replica_same}
use Rattle.cluster.proofs.copies.SoundTaking.{sound_taking_waits_clean}

-- a closing number is of one interval
waiting_to_learn_placed_apart : (j : List Event) (q k r m place : ℕ) → IsMissingIntervalPlace j q k place → IsMissingIntervalPlace j r m place
    → (q ≡ r) × (k ≡ m)
waiting_to_learn_placed_apart j q k r m place x y = (owner, number)
  where
    closes : Event → Bool
    closes e = event_closes e.kind

    not_before : (q k r m : ℕ) (x : IsMissingIntervalPlace j q k place) (y : IsMissingIntervalPlace j r m place) → y.at ≤ x.at
    not_before q k r m x y = elim (cases_lt x.at y.at) [
      | inl less ↦
          (let past = slice_count_by-past closes j x.at y.at (event q x.closes.kind) x.closes.does x.closes.closes less in
          let here = x.before in
          let there = y.before in
          absurd (omega arith))
      | inr le ↦ le
    ]

    same : x.at ≡ y.at
    same = let le = not_before q k r m x y in let ge = not_before r m q k y x in omega arith

    owner : q ≡ r
    owner =
        let P : ℕ → Type 0 = λ i. slice_get j i ≡ Some (event r y.closes.kind) in
        let there = subst P (sym same) y.closes.does in
        let one = same_Some (event q x.closes.kind) (event r y.closes.kind) (sym x.closes.does ∙ there) in
        ap (λ (e : Event). e.processor) one

    number : k ≡ m
    number =
        sym x.number
        ∙ ap (λ (i : ℕ). event_interval_at j q i) same
        ∙ ap (λ (o : ℕ). event_interval_at j o y.at) owner
        ∙ y.number

-- what p's timestamp counts is not among what a copy misses and what is news
waiting_to_learn_missing_apart : (s : Sizes) (j : List Event) (p n : ℕ) (t t' : ℕ → ℕ) (missing new : List MissingInterval) → IsTimeOf j p t
    → AreMissingIntervals s j p n missing
    → AreMissingIntervalsOfNotices s j p n t t' new
    → (x y : MissingInterval)
    → Has missing x
    → Has new y
    → x.place ≢ y.place
waiting_to_learn_missing_apart s j p n t t' missing new time are news x y has now same =
    let g = (are.each x.owner x.number).0 (x, has, refl, refl) in
    let waiting_to_learn_apart = missing_gaps_apart g.1.3 g.1.2 in
    let counted = (pushed_time_covers_past j p x.owner g.1.0 (Store g.0 g.1.1) t time g.1.2 waiting_to_learn_apart).0 g.1.3.past in
    let number = g.1.4 in
    let uncounted = ((news.each y.owner y.number).0 (y, now, refl, refl)).3 in
    let P : ℕ → Type 0 = λ k. IsMissingIntervalPlace j y.owner y.number k in
    let one =
    waiting_to_learn_placed_apart j x.owner x.number y.owner y.number x.place (are.placed x has)
    (subst P (sym same) (news.placed y now)) in
    let owners : t x.owner ≡ t y.owner = ap t one.0 in
    let numbers : x.number ≡ y.number = one.1 in
    absurd (omega arith)

module _ (m : Local) (sound : IsSound m) (copies : List PageReplica) (same : AreSameCopiesAfterNews m.copies copies) where
  -- the copy as it was before room was made
  record WasSameBeforeWaitingToLearn (n : ℕ) (d : PageReplica) : Type 0 where
    copy : PageReplica
    at : slice_get m.copies n ≡ Some copy
    kept : IsSameCopyAfterNews copy d

  waiting_to_learn_was_same : (n : ℕ) (d : PageReplica) → slice_get copies n ≡ Some d → WasSameBeforeWaitingToLearn n d
  waiting_to_learn_was_same n d at =
      let inside = slice_get_within copies n d at in
      let all = same.all in
      let found = slice_get-get_or m.copies n d (omega arith) in
      record { copy = get_or m.copies n d; at = found; kept = same.each n (get_or m.copies n d) d found at }

  -- room for records that may come is no matter
  pub waiting_to_learn_sound_with_room : IsSound (record m { copies = copies })
  waiting_to_learn_sound_with_room = record {
    sizes = sound.sizes;
    mine = sound.mine;
    few = sound.few;
    well_formed = sound.well_formed;
    inner = sound.inner;
    short = sound.short;
    time = sound.time;
    bases = sound.bases;
    answers = sound.answers;
    counts = sound.counts;
    copies = record { long = same.all ∙ sound.copies.long; each = each };
    marks = sound.marks;
    clean = clean;
    held = sound.held;
    awaits = sound.awaits;
    quiet = sound.quiet;
    unstored = sound.unstored;
  }
    where
      each : (n : ℕ) (d : PageReplica) → slice_get copies n ≡ Some d
          → IsPageReplica m.sizes m.seen m.block m.number n (sound.bases n) d
      each n d at =
          let c = waiting_to_learn_was_same n d at in
          let old = sound.copies.each n c.copy c.at in
          replica_same m.sizes m.seen m.block m.number n (sound.bases n) c.copy d c.kept old

      clean : (n : ℕ) (d : PageReplica) → slice_get copies n ≡ Some d → slice_get m.stored n ≡ Some false
          → ContentsAreClean d.page
      clean n d at unmarked =
          let c = waiting_to_learn_was_same n d at in
          subst ContentsAreClean (sym c.kept.page) (sound.clean n c.copy c.at unmarked)

  module _ (waits : m.awaits ≢ None) (sent : List SentRecord) (t' : ℕ → ℕ)
      (news : (n : ℕ) → AreMissingIntervalsOfNotices m.sizes m.seen m.number n (slice_index m.time) t' (news_of_page n sent))
      (order : (n : ℕ) → MissingIntervalsInOrder (news_of_page n sent))
      (room : (n : ℕ) (c : PageReplica) → slice_get copies n ≡ Some c → count_by (is_kept_closing_of_page n) sent ≤ c.room)
    where
      -- what comes is of pages that there are
      waiting_to_learn_news_in_range : (x : SentRecord) → Has sent x → x.notice.page < length copies
      waiting_to_learn_news_in_range x has =
          let n = x.notice.page in
          let mine = (filtered_in_order_has (is_kept_closing_of_page n) sent x).1 (has, eq-eqb n n refl) in
          let here = (joined_list_has-map page_news_of_notice (filter (is_kept_closing_of_page n) sent) (page_news_of_notice x)).1 (x, mine, refl) in
          let store = (((news n).each x.notice.owner x.notice.number).0 (page_news_of_notice x, here, refl, refl)).1 in
          let lawful =
          (sound.well_formed (((news n).each x.notice.owner x.notice.number).0 (page_news_of_notice x, here, refl, refl)).0
          (event x.notice.owner (Store store.0 store.1)) store.2).in_range in
          let P : ℕ → Type 0 = λ k. k < m.sizes.pages in
          let within = subst P store.3 ((div-lt_iff_lt-mul sound.sizes.some_words).1 lawful) in
          let all = same.all in
          let long = sound.copies.long in
          omega arith

      -- what comes of a page is not among what its copy lacks
      waiting_to_learn_apart : (n : ℕ) (c : PageReplica) → slice_get m.copies n ≡ Some c → (x y : SentRecord) → Has c.missing x
          → Has (filter (is_kept_closing_of_page n) sent) y
          → x.place ≢ y.place
      waiting_to_learn_apart n c at x y has now = go c.page.access refl
        where
          replica : IsPageReplica m.sizes m.seen m.block m.number n (sound.bases n) c
          replica = sound.copies.each n c at

          go : (a : Access) → c.page.access ≡ a → x.place ≢ y.place
          go Valid is =
              let P : List SentRecord → Type 0 = λ xs. Has xs x in
              absurd (joined_list_has-nil x (subst P (replica.valid is).1 has))
          go Invalid is =
              let lacks = (replica.stale is).0.lacks in
              let here = (joined_list_has-map page_news_of_notice c.missing (page_news_of_notice x)).1 (x, has, refl) in
              let there = (joined_list_has-map page_news_of_notice (filter (is_kept_closing_of_page n) sent) (page_news_of_notice y)).1 (y, now, refl) in
              waiting_to_learn_missing_apart m.sizes m.seen m.number n (slice_index m.time) t' (map page_news_of_notice c.missing)
              (news_of_page n sent)
              sound.time.is lacks (news n) (page_news_of_notice x) (page_news_of_notice y) here there

      -- a processor that waits may learn what it lacks, where its copies have room
      pub waiting_may_learn : CopiesMayLackNews copies sent
      waiting_may_learn = record { in_range = waiting_to_learn_news_in_range; each = each }
        where
          each : (n : ℕ) (d : PageReplica) → slice_get copies n ≡ Some d → CopyMayLackNews d (filter (is_kept_closing_of_page n) sent)
          each n d at = record {
            room = let fits = room n d at in let counts = length-filter (is_kept_closing_of_page n) sent in omega arith;
            clean = λ _. subst ContentsAreClean (sym c.kept.page) (sound_taking_waits_clean m sound waits n c.copy c.at);
            order = rw (c.kept.missing) (sound.copies.each n c.copy c.at).order;
            news_order = order n;
            apart = rw (c.kept.missing) (waiting_to_learn_apart n c.copy c.at);
          }
            where
              c : WasSameBeforeWaitingToLearn n d
              c = waiting_to_learn_was_same n d at
