-- A call of one processor keeps what the book's lock keeps, whatever the others have seen.
use Rattle.std.proofs.Common.{ℕ, ◌≡◌, ◌≢◌, ◌≤◌, ◌+◌, Some, List, [], ◌∷◌, ◌++◌, drop, length, slice_get, slice_set, inl, inr, refl, sym, ap, subst, ◌∙◌, append_assoc, append-nil, arith}
use Rattle.std.proofs.lemmas.Bool.{cases_eq}
use Rattle.std.proofs.lemmas.Option.{none-some, slice_get_within}
use Rattle.std.proofs.lemmas.List.{length-append, length-set}
use Rattle.std.proofs.Math.Seq.{drop-append_seam}
use Rattle.journal.specs.declared.event.Event.{Event}
use Rattle.journal.specs.declared.event.Kind.{Kind}
use Rattle.journal.specs.declared.event.Kind.TheVariants.{Load, Fetch}
use Rattle.journal.specs.DidEvent.{event, did}
use Rattle.journal.specs.Sizes.{Sizes}
use Rattle.journal.specs.Log.{Log}
use Rattle.journal.specs.Events.{EventAt}
use Rattle.journal.specs.ExplainedAnswers.{Explained}
use Rattle.journal.specs.FetchesCountGaps.{FetchesCountGaps}
use Rattle.journal.specs.CopyAnswers.{AnswersCopies}
use Rattle.journal.proofs.CopyOfPage.LoadAnswers.{load_answers_push}
use Rattle.journal.proofs.Missing.GapsCounted.{gaps_counted_push}
use Rattle.journal.proofs.Origins.WordOrigins.{origin_word_answers_push}
use Rattle.base.specs.Limits.{most_events}
use Rattle.base.proofs.SlicesAndCounts.{slice_append_cases, slice_push_cases}
use Rattle.base.proofs.SliceSets.{slice_get-set_found, slice_get-set_other, slice_get-set_same}
use Rattle.book.specs.BookState.{BookState}
use Rattle.book.specs.RepresentedHistory.{Represents}
use Rattle.book.specs.Transitions.{transition_handed_in}
use Rattle.book.proofs.Told.WholeLaws.{whole_block_law}
use Rattle.cluster.specs.Copies.Local.{Local}
use Rattle.cluster.specs.Copies.Sound.{IsSound}
use Rattle.cluster.specs.declared.keeper.View.{View}
use Rattle.cluster.specs.KeptViews.{ExtendsView, KeptViewsInvariant, KeptWithViews, SeesKeptView, view_added, view_having_seen}
use Rattle.cluster.specs.Covers.{IsCovered}
use Rattle.cluster.specs.Entering.{FindsOnEntering, IsEnteringCallOf}
use Rattle.cluster.specs.ClusterHistoryLaws.{ClusterSeenLaw}
use Rattle.cluster.proofs.CoveringHistories.{covering_history_goes_on}
use Rattle.cluster.proofs.FoundBook.{found_book_allows_block}
use Rattle.cluster.proofs.Sums.{sums_by-set_at}

module _ (s : Sizes) (h : List Event) (b : BookState) (views : List View) (kept : KeptViewsInvariant s h b views) (p : ℕ)
    (es : List Event) (mine : (k : ℕ) (e : Event) → EventAt es k e → e.processor ≡ p) (cut own_cut : ℕ) where
  -- p has seen all, and for the others it is one of those that went on
  leaving_goes_on : (q : ℕ) (x : View) → slice_get (slice_set views p (view_having_seen s (h ++ es) cut own_cut)) q ≡ Some x
      → ExtendsView s (h ++ es) q x
  leaving_goes_on q x found = elim (cases_eq q p) [
    | inl same ↦
        (let P : ℕ → Type 0 = λ k. slice_get (slice_set views p (view_having_seen s (h ++ es) cut own_cut)) k ≡ Some x in
        let is : view_having_seen s (h ++ es) cut own_cut ≡ x =
        slice_get-set_found views p (view_having_seen s (h ++ es) cut own_cut) x (subst P same found) in
        subst (ExtendsView s (h ++ es) q) is (record {
          shape = refl;
          rest = [];
          begins = sym (append-nil (h ++ es));
          away = λ k e at. absurd (none-some e at);
        }))
    | inr other ↦
        (let goes = kept.each q x (sym (slice_get-set_other views p q (view_having_seen s (h ++ es) cut own_cut) other) ∙ found) in
        record {
          shape = goes.shape;
          rest = goes.rest ++ es;
          begins = ap (λ (xs : List Event). xs ++ es) goes.begins ∙ append_assoc x.seen goes.rest es;
          away = λ k e at. elim (slice_append_cases goes.rest es k e at) [
            | inl a ↦ goes.away k e a.1
            | inr a ↦ (λ is. other (sym is ∙ mine a.0 e a.2))
          ];
        })
  ]

  -- nobody knows of more cut off than was
  leaving_behind_on : (c : ℕ) → b.journal.base.cut ≤ c → cut ≤ c → (q : ℕ) (x : View)
      → slice_get (slice_set views p (view_having_seen s (h ++ es) cut own_cut)) q ≡ Some x → x.cut ≤ c
  leaving_behind_on c more mine q x found = elim (cases_eq q p) [
    | inl same ↦
        (let P : ℕ → Type 0 = λ k. slice_get (slice_set views p (view_having_seen s (h ++ es) cut own_cut)) k ≡ Some x in
        let is : view_having_seen s (h ++ es) cut own_cut ≡ x =
        slice_get-set_found views p (view_having_seen s (h ++ es) cut own_cut) x (subst P same found) in
        subst (λ (v : View). v.cut ≤ c) is mine)
    | inr other ↦
        (let le = kept.behind q x (sym (slice_get-set_other views p q (view_having_seen s (h ++ es) cut own_cut) other) ∙ found) in
        omega arith)
  ]

  pub leaving_kept_on : (x : View) → slice_get views p ≡ Some x → (c : BookState) → Represents s (h ++ es) c → Explained (h ++ es)
      → FetchesCountGaps s (h ++ es) → AnswersCopies s (h ++ es) → length c.journal.events ≤ most_events → c.journal.room ≡ b.journal.room
      → b.journal.base.cut ≤ c.journal.base.cut → cut ≤ c.journal.base.cut
      → own_cut + b.journal.base.cut ≡ x.own_cut + c.journal.base.cut
      → KeptViewsInvariant s (h ++ es) c (slice_set views p (view_having_seen s (h ++ es) cut own_cut))
  leaving_kept_on x at c told explained counted copied few room more mine own = record {
    told = told;
    explained = explained;
    counted = counted;
    copied = copied;
    few = few;
    all = length-set views p (view_having_seen s (h ++ es) cut own_cut) ∙ kept.all;
    each = leaving_goes_on;
    behind = leaving_behind_on c.journal.base.cut more mine;
    cuts =
        (let now = view_having_seen s (h ++ es) cut own_cut in
        let sums = sums_by-set_at (λ (v : View). v.own_cut) views p x now at in
        let was = kept.cuts in
        omega arith);
    whole =
        (let now = view_having_seen s (h ++ es) cut own_cut in
        (p, now, slice_get-set_same views p now (slice_get_within views p x at), refl));
    owing = room ∙ kept.owing;
  }

-- what p finds, where the lock's fact holds with what p has seen
abbrev pub leaving_call_finds : (m : Local) (b : BookState) (views : List View)
    → slice_get views m.number ≡ Some (view_having_seen m.sizes m.seen m.cut m.own_cut) → KeptWithViews b views → FindsOnEntering m b
leaving_call_finds m b views at fact =
    let s = fact.0 in
    let h = fact.1 in
    let goes = fact.2.each m.number (view_having_seen m.sizes m.seen m.cut m.own_cut) at in
    let P : Sizes → Type 0 = λ z. KeptViewsInvariant z h b views in
    let Q : List Event → Type 0 = λ xs. KeptViewsInvariant m.sizes xs b views in
    record {
      rest = goes.rest;
      views = views;
      away = goes.away;
      at = at;
      kept = subst Q goes.begins (subst P (sym goes.shape) fact.2);
    }

-- the call keeps the fact
pub leaving_call_kept : (m : Local) (old : BookState) (es : List Event) (new : BookState) (call : IsEnteringCallOf m old es new)
    (f : FindsOnEntering m old) → KeptViewsInvariant m.sizes ((m.seen ++ f.rest) ++ es) new
    (slice_set f.views m.number
    (view_having_seen m.sizes ((m.seen ++ f.rest) ++ es) new.journal.base.cut (m.own_cut + call.taken)))
leaving_call_kept m old es new call f =
    let cuts = call.cuts in
    leaving_kept_on m.sizes (m.seen ++ f.rest) old f.views f.kept m.number es call.mine new.journal.base.cut
    (m.own_cut + call.taken) (view_having_seen m.sizes m.seen m.cut m.own_cut) f.at new (call.told f) (call.explained f)
    (call.counted f) (call.copied f) (call.few f) call.room (omega arith) (omega arith) (omega arith)

-- so p may leave the new book
pub leaving_call_may_leave : (m : Local) (old : BookState) (es : List Event) (new : BookState) → IsEnteringCallOf m old es new
    → (views : List View) → slice_get views m.number ≡ Some (view_having_seen m.sizes m.seen m.cut m.own_cut) → KeptWithViews old views
    → (w : View) × SeesKeptView old new m.number (view_having_seen m.sizes m.seen m.cut m.own_cut) w × KeptWithViews new (slice_set views m.number w)
leaving_call_may_leave m old es new call views at fact =
    let f = leaving_call_finds m old views at fact in
    let h = (m.seen ++ f.rest) ++ es in (
      view_having_seen m.sizes h new.journal.base.cut (m.own_cut + call.taken),
      record {
        history = m.seen ++ f.rest;
        views = views;
        at = at;
        kept = f.kept;
        shape = refl;
        seen = ap (λ (xs : List Event). (m.seen ++ f.rest) ++ xs) (sym call.adds);
        cut = refl;
        own_cut = let cuts = call.cuts in omega arith;
      },
      (m.sizes, h, leaving_call_kept m old es new call f),
    )

-- so the longest that was seen is the whole history
pub leaving_calls_seen_law : ClusterSeenLaw
leaving_calls_seen_law b views fact = (
  fact.1,
  record {
    holds = fact.2.told.holds;
    whole = fact.2.whole;
    begins = λ p v at. (let goes = fact.2.each p v at in (goes.rest, goes.begins));
  },
)

-- a journal that goes on with these events
leaving_call_adds_events : (old new : Log) (es : List Event) → new.events ≡ old.events ++ es → view_added old new ≡ es
leaving_call_adds_events old new es is = ap (λ (xs : List Event). drop (length old.events) xs) is ∙ drop-append_seam old.events es

-- and with none
leaving_call_adds_nothing : (log : Log) → view_added log log ≡ []
leaving_call_adds_nothing log = leaving_call_adds_events log log [] (sym (append-nil log.events))

-- a call that changes nothing
pub leaving_call_of_nothing : (m : Local) (b : BookState) → IsEnteringCallOf m b [] b
leaving_call_of_nothing m b = record {
  mine = λ k e at. absurd (none-some e at);
  adds = leaving_call_adds_nothing b.journal;
  room = refl;
  told = λ f. rw append-nil f.kept.told;
  explained = λ f. rw append-nil f.kept.explained;
  counted = λ f. rw append-nil f.kept.counted;
  copied = λ f. rw append-nil f.kept.copied;
  few = λ f. f.kept.few;
  taken = 0;
  cuts = omega arith;
}

module _ (m : Local) (sound : IsSound m) (b : BookState) where
  leaving_call_covered : (f : FindsOnEntering m b) → IsCovered m (m.seen ++ f.rest)
  leaving_call_covered f = covering_history_goes_on m sound f.rest f.away f.kept.told.well_formed f.kept.explained f.kept.counted f.kept.copied

  -- the events that the journal has then are as many
  leaving_call_few_then : (n : ℕ) (es : List Event) (new : BookState) → length b.journal.events + n ≤ most_events → length es ≡ n
      → new.journal.events ≡ b.journal.events ++ es → length new.journal.events ≤ most_events
  leaving_call_few_then n es new fits long goes =
      let all = ap length goes in let both = length-append b.journal.events es in omega arith

  -- the block is handed in
  pub leaving_call_of_block : length b.journal.events + length m.block ≤ most_events
      → IsEnteringCallOf m b m.block (transition_handed_in b m.block)
  leaving_call_of_block fits = record {
    mine = λ k e at. (sound.inner k e at).mine;
    adds = leaving_call_adds_events b.journal (transition_handed_in b m.block).journal m.block refl;
    room = refl;
    told = λ f. whole_block_law m.sizes (m.seen ++ f.rest) m.block b m.number f.kept.told (found_book_allows_block m sound b f);
    explained = λ f. (leaving_call_covered f).explained;
    counted = λ f. (leaving_call_covered f).counted;
    copied = λ f. (leaving_call_covered f).copied;
    few = λ _. leaving_call_few_then (length m.block) m.block (transition_handed_in b m.block) fits refl refl;
    taken = 0;
    cuts = omega arith;
  }

  -- the block, and an event after it that is neither a load nor a fetch
  pub leaving_call_of_event : (k : Kind) (new : BookState) → ((a v : ℕ) → k ≢ Load a v) → ((w n r d : ℕ) → k ≢ Fetch w n r d)
      → length b.journal.events + length m.block + 1 ≤ most_events
      → new.journal.events ≡ b.journal.events ++ (m.block ++ event m.number k ∷ [])
      → new.journal.room ≡ b.journal.room → new.journal.base.cut ≡ b.journal.base.cut
      → ((f : FindsOnEntering m b) → Represents m.sizes (did ((m.seen ++ f.rest) ++ m.block) m.number k) new)
      → IsEnteringCallOf m b (m.block ++ event m.number k ∷ []) new
  leaving_call_of_event k new no_load no_fetch fits goes room cut told = record {
    mine = λ i e at. elim (slice_push_cases m.block (event m.number k) i e at) [
      | inl h ↦ (sound.inner i e h.1).mine
      | inr h ↦ ap (λ (x : Event). x.processor) (sym h.1)
    ];
    adds = leaving_call_adds_events b.journal new.journal (m.block ++ event m.number k ∷ []) goes;
    room = room;
    told = λ f. rw (← append_assoc (m.seen ++ f.rest) m.block (event m.number k ∷ [])) (told f);
    explained =
        λ f. rw (← append_assoc (m.seen ++ f.rest) m.block (event m.number k ∷ []))
        (load_answers_push ((m.seen ++ f.rest) ++ m.block) (event m.number k) (leaving_call_covered f).explained (λ p a v is.
        absurd (no_load a v (ap (λ (x : Event). x.kind) is))));
    counted =
        λ f. rw (← append_assoc (m.seen ++ f.rest) m.block (event m.number k ∷ []))
        (gaps_counted_push m.sizes ((m.seen ++ f.rest) ++ m.block) (event m.number k) (λ p n w r d is.
        absurd (no_fetch w n r d (ap (λ (x : Event). x.kind) is))) (leaving_call_covered f).counted);
    copied =
        λ f. rw (← append_assoc (m.seen ++ f.rest) m.block (event m.number k ∷ []))
        (origin_word_answers_push m.sizes ((m.seen ++ f.rest) ++ m.block) (event m.number k) (λ p a v is.
        no_load a v (ap (λ (x : Event). x.kind) is)) (leaving_call_covered f).copied);
    few =
        λ _. leaving_call_few_then (length m.block + 1) (m.block ++ event m.number k ∷ []) new (omega arith)
        (length-append m.block (event m.number k ∷ [])) goes;
    taken = 0;
    cuts = (let same = cut in omega arith);
  }

  -- an event alone that is neither
  pub leaving_call_of_event_alone : (k : Kind) (new : BookState) → ((a v : ℕ) → k ≢ Load a v)
      → ((w n r d : ℕ) → k ≢ Fetch w n r d) → length b.journal.events + 1 ≤ most_events
      → new.journal.events ≡ b.journal.events ++ event m.number k ∷ [] → new.journal.room ≡ b.journal.room
      → new.journal.base.cut ≡ b.journal.base.cut
      → ((f : FindsOnEntering m b) → Represents m.sizes (did (m.seen ++ f.rest) m.number k) new)
      → IsEnteringCallOf m b (event m.number k ∷ []) new
  leaving_call_of_event_alone k new no_load no_fetch fits goes room cut told = record {
    mine = λ i e at. elim (slice_push_cases [] (event m.number k) i e at) [
      | inl h ↦ absurd (none-some e h.1)
      | inr h ↦ ap (λ (x : Event). x.processor) (sym h.1)
    ];
    adds = leaving_call_adds_events b.journal new.journal (event m.number k ∷ []) goes;
    room = room;
    told = told;
    explained =
        λ f. load_answers_push (m.seen ++ f.rest) (event m.number k) f.kept.explained (λ p a v is.
        absurd (no_load a v (ap (λ (x : Event). x.kind) is)));
    counted =
        λ f. gaps_counted_push m.sizes (m.seen ++ f.rest) (event m.number k) (λ p n w r d is.
        absurd (no_fetch w n r d (ap (λ (x : Event). x.kind) is))) f.kept.counted;
    copied =
        λ f. origin_word_answers_push m.sizes (m.seen ++ f.rest) (event m.number k) (λ p a v is.
        no_load a v (ap (λ (x : Event). x.kind) is)) f.kept.copied;
    few = λ _. leaving_call_few_then 1 (event m.number k ∷ []) new fits refl goes;
    taken = 0;
    cuts = (let same = cut in omega arith);
  }
