-- Write notices, page by page, writer by writer and interval by interval: those before one interval of a row, with what there is
-- of it, are those before the next one. What a span has round an event is what the event tells of.
use Rattle.std.proofs.Common.{◌≡◌, ◌≢◌, ℕ, ◌+◌, ◌*◌, ◌<◌, ◌≤◌, ◌↔◌, inl, inr, List, [], ◌∷◌, ◌++◌, Some, length, slice_index, take, refl, subst, sym, ap, ◌∙◌, arith}
use Rattle.std.proofs.lemmas.Bool.{cases_eq, cases_lt}
use Rattle.std.proofs.lemmas.Option.{none-some, slice_get_within}
use Rattle.base.specs.InOrderOnce.{Has, InOrder}
use Rattle.base.proofs.SlicesAndCounts.{slice_push_cases, slice_get-append_left, slice_get-last}
use Rattle.journal.specs.declared.event.Event.{Event}
use Rattle.journal.specs.declared.event.Kind.TheVariants.{Fetch}
use Rattle.journal.specs.EventsInRange.{EventProcessorsInRange}
use Rattle.journal.specs.PageImages.{HasPageImageCount}
use Rattle.journal.specs.Sizes.{Sizes}
use Rattle.judge.specs.FetchGaps.{FetchGapBroughtUpTo, FetchGapStoreInPage}
use Rattle.judge.specs.GapTally.{gap_tally_place_of}
use Rattle.judge.proofs.ValueCounts.{value_count_some, value_count_zero}
use Rattle.causes.specs.declared.span.Span.{Span}
use Rattle.causes.specs.declared.notices.WriteNotice.{WriteNotice}
use Rattle.causes.specs.Dues.{DueLacks, IsDueToldBy}
use Rattle.causes.specs.Notices.{AreNoticesAt, HasNoticeOf, IsNoticeBelow, IsNoticeInSpan, NoticesBelow, NoticesByPage}
use Rattle.causes.proofs.DueSpans.{DueSpanBetween, IsDueSpanOfFetch, IsDueSpanOfTaking, due_span_lacks_is, due_span_lacks_low, due_span_lacks_not_own, due_span_not_fetch, due_span_taken_is, due_span_told_is}

-- where intervals of a range are counted there is one, and no other way
pub notice_row_counted : (s : Sizes) (j : List Event) (n q from to r : ℕ)
    → HasPageImageCount (λ m. FetchGapStoreInPage s j n q m × (from ≤ m) × (m < to)) r
    → (0 < r) ↔ ((m : ℕ) × FetchGapStoreInPage s j n q m × (from ≤ m) × (m < to))
notice_row_counted s j n q from to r count = (there, back)
  where
    In : ℕ → Type 0
    In m = FetchGapStoreInPage s j n q m × (from ≤ m) × (m < to)

    there : 0 < r → (m : ℕ) × FetchGapStoreInPage s j n q m × (from ≤ m) × (m < to)
    there some = let one = value_count_some In r count some in (one.0, one.1.0, one.1.1, one.1.2)

    back : (m : ℕ) × FetchGapStoreInPage s j n q m × (from ≤ m) × (m < to) → 0 < r
    back x = elim (cases_lt 0 r) [
      | inl some ↦ some
      | inr none ↦
          (let zero : r ≡ 0 = omega arith in
          absurd (value_count_zero In x.0 (subst (λ c. HasPageImageCount In c) zero count) (x.1, x.2, x.3)))
    ]

-- of one interval there is one where it is that one
pub notice_row_of_one : (s : Sizes) (j : List Event) (n q m r : ℕ)
    → HasPageImageCount (λ k. FetchGapStoreInPage s j n q k × (m ≤ k) × (k < m + 1)) r
    → (0 < r) ↔ FetchGapStoreInPage s j n q m
notice_row_of_one s j n q m r count =
    let both = notice_row_counted s j n q m (m + 1) r count in (
      λ some.
          (let x = both.0 some in
          let low = x.2 in
          let high = x.3 in
          let is : x.0 ≡ m = omega arith in
          subst (FetchGapStoreInPage s j n q) is x.1),
      λ stores. both.1 (m, stores, omega arith, omega arith),
    )

-- before the first row there is nothing
pub notice_rows_start : (s : Sizes) (j : List Event) (span : Span) (row : ℕ) (notices : List WriteNotice)
    → row ≡ span.first * 16 → notices ≡ [] → NoticesBelow s j span row 0 notices
notice_rows_start s j span row notices is none = subst (NoticesBelow s j span row 0) (sym none) (record {
  has = λ x. (
    λ h. absurd (none-some x h.1),
    λ y. absurd (let page = y.0.from in elim y.1 [ inl lt ↦ omega arith | inr here ↦ (let lt = here.1 in omega arith) ]),
  );
  order = λ m n x y lt at. absurd (none-some x at);
})

-- what stands before two places is the same where no notice of the span lies between
notice_rows_moved : {s : Sizes} {j : List Event} {span : Span} {row m : ℕ} {notices : List WriteNotice} (next k : ℕ)
    → NoticesBelow s j span row m notices
    → ((x : WriteNotice) → IsNoticeInSpan s j span x → IsNoticeBelow row m x ↔ IsNoticeBelow next k x)
    → NoticesBelow s j span next k notices
notice_rows_moved {s} {j} {span} {row} {m} {notices} next k are same = record {
  has = λ x. (
    λ h. (let y = (are.has x).0 h in (y.0, (same x y.0).0 y.1)),
    λ y. (are.has x).1 (y.0, (same x y.0).1 y.1),
  );
  order = are.order;
}

-- of a row the span has nothing before its first interval
pub notice_row_from : {s : Sizes} {j : List Event} {span : Span} {notices : List WriteNotice} (n q : ℕ) → q < 16
    → NoticesBelow s j span (gap_tally_place_of n q) 0 notices
    → NoticesBelow s j span (gap_tally_place_of n q) (slice_index span.from q) notices
notice_row_from {s} {j} {span} {notices} n q low are =
    notice_rows_moved (gap_tally_place_of n q) (slice_index span.from q) are (λ x y. (
      λ h. elim h [ inl lt ↦ inl lt | inr none ↦ absurd (let lt = none.1 in omega arith) ],
      λ h. elim h [
        | inl lt ↦ inl lt
        | inr here ↦
            absurd (let under = y.low in
            let row = here.0 in
            let writer : x.writer ≡ q = omega arith in
            let first = ap (slice_index span.from) writer in
            let least = y.least in
            let less = here.1 in
            omega arith)
      ],
    ))

-- and nothing behind its last one
pub notices_row_done : {s : Sizes} {j : List Event} {span : Span} {m : ℕ} {notices : List WriteNotice} (n q : ℕ) → q < 16
    → slice_index span.to q ≤ m → NoticesBelow s j span (gap_tally_place_of n q) m notices
    → NoticesBelow s j span (gap_tally_place_of n q + 1) 0 notices
notices_row_done {s} {j} {span} {m} {notices} n q low end are =
    notice_rows_moved (gap_tally_place_of n q + 1) 0 are (λ x y. (
      λ h. elim h [ inl lt ↦ inl (omega arith) | inr here ↦ (let row = here.0 in inl (omega arith)) ],
      λ h. elim h [
        | inl lt ↦ elim (cases_lt (gap_tally_place_of x.page x.writer) (gap_tally_place_of n q)) [
          | inl less ↦ inl less
          | inr more ↦
              (let under = y.low in
              let writer : x.writer ≡ q = omega arith in
              let last = ap (slice_index span.to) writer in
              let below = y.below in
              inr (omega arith, omega arith))
        ]
        | inr none ↦ absurd (let less = none.1 in omega arith)
      ],
    ))

-- a notice of this page and writer
notice_row_has : {s : Sizes} {j : List Event} {span : Span} {x : WriteNotice} (n q : ℕ) → x.page ≡ n → x.writer ≡ q
    → IsNoticeInSpan s j span x → HasNoticeOf s j span n q
notice_row_has {s} {j} {span} {x} n q page writer y =
    subst (λ l. HasNoticeOf s j span l q) page
    (subst (λ w. HasNoticeOf s j span x.page w) writer (y.apart, (x.interval, y.stored, y.least, y.below)))

-- nor anything where it has none of the page and the writer
pub notices_row_none : {s : Sizes} {j : List Event} {span : Span} {notices : List WriteNotice} (n q : ℕ) → q < 16
    → ¬ HasNoticeOf s j span n q → NoticesBelow s j span (gap_tally_place_of n q) 0 notices
    → NoticesBelow s j span (gap_tally_place_of n q + 1) 0 notices
notices_row_none {s} {j} {span} {notices} n q low none are =
    notice_rows_moved (gap_tally_place_of n q + 1) 0 are (λ x y. (
      λ h. elim h [ inl lt ↦ inl (omega arith) | inr here ↦ absurd (let less = here.1 in omega arith) ],
      λ h. elim h [
        | inl lt ↦ elim (cases_lt (gap_tally_place_of x.page x.writer) (gap_tally_place_of n q)) [
          | inl less ↦ inl less
          | inr more ↦
              (let under = y.low in
              let page : x.page ≡ n = omega arith in
              let writer : x.writer ≡ q = omega arith in
              absurd (none (notice_row_has n q page writer y)))
        ]
        | inr here ↦ absurd (let less = here.1 in omega arith)
      ],
    ))

-- an interval in which the writer doesn't store in the page
pub notice_row_quiet : {s : Sizes} {j : List Event} {span : Span} {m : ℕ} {notices : List WriteNotice} (n q : ℕ) → q < 16
    → ¬ FetchGapStoreInPage s j n q m → NoticesBelow s j span (gap_tally_place_of n q) m notices
    → NoticesBelow s j span (gap_tally_place_of n q) (m + 1) notices
notice_row_quiet {s} {j} {span} {m} {notices} n q low none are =
    notice_rows_moved (gap_tally_place_of n q) (m + 1) are (λ x y. (
      λ h. elim h [ inl lt ↦ inl lt | inr here ↦ (let row = here.0 in let less = here.1 in inr (omega arith, omega arith)) ],
      λ h. elim h [
        | inl lt ↦ inl lt
        | inr here ↦ elim (cases_eq x.interval m) [
          | inl is ↦
              (let under = y.low in
              let row = here.0 in
              let page : x.page ≡ n = omega arith in
              let writer : x.writer ≡ q = omega arith in
              absurd (none (subst (λ l. FetchGapStoreInPage s j l q m) page
              (subst (λ w. FetchGapStoreInPage s j x.page w m) writer
              (subst (λ i. FetchGapStoreInPage s j x.page x.writer i) is y.stored)))))
          | inr isnt ↦ (let row = here.0 in let less = here.1 in inr (omega arith, omega arith))
        ]
      ],
    ))

abbrev notice_row_with : ℕ → ℕ → ℕ → WriteNotice
notice_row_with n q m = record { page = n; writer = q; interval = m }

-- notices with the same parts are one
notice_row_same : (x y : WriteNotice) → x.page ≡ y.page → x.writer ≡ y.writer → x.interval ≡ y.interval → x ≡ y
notice_row_same x y page writer interval =
    ap (λ (n : ℕ). notice_row_with n x.writer x.interval) page ∙ ap (λ (q : ℕ). notice_row_with y.page q x.interval) writer
    ∙ ap (λ (m : ℕ). notice_row_with y.page y.writer m) interval

-- one in which it does
pub notice_row_next : {s : Sizes} {j : List Event} {span : Span} {notices : List WriteNotice} (x : WriteNotice)
    → IsNoticeInSpan s j span x → NoticesBelow s j span (gap_tally_place_of x.page x.writer) x.interval notices
    → NoticesBelow s j span (gap_tally_place_of x.page x.writer) (x.interval + 1) (notices ++ x ∷ [])
notice_row_next {s} {j} {span} {notices} x in_span are = record { has = λ y. (there y, back y); order = order }
  where
    row : ℕ
    row = gap_tally_place_of x.page x.writer

    m : ℕ
    m = x.interval

    there : (y : WriteNotice) → Has (notices ++ x ∷ []) y → IsNoticeInSpan s j span y × IsNoticeBelow row (m + 1) y
    there y at = elim (slice_push_cases notices x at.0 y at.1) [
      | inl old ↦
          (let z = (are.has y).0 (at.0, old.1) in
          (z.0, elim z.1 [ inl lt ↦ inl lt | inr here ↦ (let less = here.1 in inr (here.0, omega arith)) ]))
      | inr now ↦
          subst (λ z. IsNoticeInSpan s j span z × IsNoticeBelow row (m + 1) z) now.1 (in_span, inr (refl, omega arith))
    ]

    old : (y : WriteNotice) → Has notices y → Has (notices ++ x ∷ []) y
    old y at = (at.0, slice_get-append_left notices (x ∷ []) at.0 (slice_get_within notices at.0 y at.1) ∙ at.1)

    back : (y : WriteNotice) → IsNoticeInSpan s j span y × IsNoticeBelow row (m + 1) y → Has (notices ++ x ∷ []) y
    back y z = elim z.1 [
      | inl lt ↦ old y ((are.has y).1 (z.0, inl lt))
      | inr here ↦ elim (cases_eq y.interval m) [
        | inl is ↦
            (let under = z.0.low in
            let low = in_span.low in
            let same : gap_tally_place_of y.page y.writer ≡ gap_tally_place_of x.page x.writer = here.0 in
            let pages : x.page ≡ y.page = omega arith in
            let writers : x.writer ≡ y.writer = omega arith in
            (length notices, slice_get-last notices x ∙ ap (λ w. Some w) (notice_row_same x y pages writers (sym is))))
        | inr isnt ↦ (let less = here.1 in old y ((are.has y).1 (z.0, inr (here.0, omega arith))))
      ]
    ]

    order : InOrder (λ (y z : WriteNotice). IsNoticeBelow (gap_tally_place_of z.page z.writer) z.interval y) (notices ++ x ∷ [])
    order k l y z less at to = elim (slice_push_cases notices x l z to) [
      | inl was ↦
          (let inside = was.0 in
          are.order k l y z less (sym (slice_get-append_left notices (x ∷ []) k (omega arith)) ∙ at) was.1)
      | inr now ↦
          (let last = now.0 in
          let under = ((are.has y).0 (k, sym (slice_get-append_left notices (x ∷ []) k (omega arith)) ∙ at)).1 in
          subst (λ w. IsNoticeBelow (gap_tally_place_of w.page w.writer) w.interval y) now.1 under)
    ]

-- what there is below the span's end is all of it
pub notice_rows_all_below : (s : Sizes) (j h : List Event) (k : ℕ) (e : Event) (span : Span) (notices : List WriteNotice)
    → ((x : WriteNotice) → IsNoticeInSpan s h span x ↔ IsDueToldBy s j k e.processor e.kind x.page x.writer x.interval)
    → NoticesBelow s h span (span.end * 16) 0 notices → AreNoticesAt s j k e notices
notice_rows_all_below s j h k e span notices is are = record { has = λ x. (there x, back x); order = order }
  where
    there : (x : WriteNotice) → Has notices x → IsDueToldBy s j k e.processor e.kind x.page x.writer x.interval
    there x at = (is x).0 ((are.has x).0 at).0

    back : (x : WriteNotice) → IsDueToldBy s j k e.processor e.kind x.page x.writer x.interval → Has notices x
    back x told =
        let y = (is x).1 told in
        let low = y.low in
        let page = y.to in
        (are.has x).1 (y, inl (omega arith))

    order : InOrder NoticesByPage notices
    order m n x y lt at to =
        let first = ((are.has x).0 (m, at)).0.low in
        let second = ((are.has y).0 (n, to)).0.low in
        elim (are.order m n x y lt at to) [
          | inl rows ↦ elim (cases_lt x.page y.page) [ inl less ↦ inl less | inr more ↦ inr (omega arith, inl (omega arith)) ]
          | inr here ↦ (let rows = here.0 in inr (omega arith, inr (omega arith, here.1)))
        ]

-- what a fetch's span has is what the fetch tells of
pub notice_rows_in_fetch : {s : Sizes} {w n r d : ℕ} {span : Span} (j : List Event) (k : ℕ) (e : Event) → e.kind ≡ Fetch w n r d
    → IsDueSpanOfFetch s (take k j) e.processor n span → EventProcessorsInRange 16 (take k j) → (x : WriteNotice)
    → IsNoticeInSpan s (take k j) span x ↔ IsDueToldBy s j k e.processor e.kind x.page x.writer x.interval
notice_rows_in_fetch {s} {w} {n} {r} {d} {span} j k e kind is_span low x =
    subst (λ c. IsNoticeInSpan s h span x ↔ IsDueToldBy s j k p c x.page x.writer x.interval) (sym kind) (there, back)
  where
    p : ℕ
    p = e.processor

    h : List Event
    h = take k j

    lacks : n ≡ x.page → x.writer ≢ p
        → DueLacks s h p x.page x.writer x.interval
        ↔ DueSpanBetween s h x.page x.writer (slice_index span.from) (slice_index span.to) x.interval
    lacks page apart =
        due_span_lacks_is x.writer x.interval apart
        (subst (λ l. FetchGapBroughtUpTo s h p l (slice_index span.from)) page is_span.from) is_span.to

    there : IsNoticeInSpan s h span x → (n ≡ x.page) × DueLacks s h p x.page x.writer x.interval
    there y =
        let from = y.from in
        let to = y.to in
        let page : n ≡ x.page = omega arith in
        (page, (lacks page (λ same. y.apart (same ∙ sym is_span.reader))).1 (y.stored, y.least, y.below))

    back : (n ≡ x.page) × DueLacks s h p x.page x.writer x.interval → IsNoticeInSpan s h span x
    back told =
        let page = told.0 in
        let apart = due_span_lacks_not_own s h p x.page x.writer x.interval told.1 in
        let between = (lacks page apart).0 told.1 in
        record {
          low = due_span_lacks_low s h p x.page x.writer x.interval low told.1;
          apart = λ same. apart (same ∙ is_span.reader);
          from = omega arith;
          to = omega arith;
          stored = between.0;
          least = between.1;
          below = between.2;
        }

-- what the span round an event that takes has is what that tells of
pub notice_rows_in_taken : {s : Sizes} {j : List Event} {k : ℕ} {e : Event} {span : Span} → IsDueSpanOfTaking s j k e span
    → (x : WriteNotice)
    → IsNoticeInSpan s (take (k + 1) j) span x ↔ IsDueToldBy s j k e.processor e.kind x.page x.writer x.interval
notice_rows_in_taken {s} {j} {k} {e} {span} round x = (there, back)
  where
    p : ℕ
    p = e.processor

    h : List Event
    h = take (k + 1) j

    Told : Type 0
    Told = IsDueToldBy s j k p e.kind x.page x.writer x.interval

    is : x.writer ≢ p
        → DueSpanBetween s h x.page x.writer (slice_index span.from) (slice_index span.to) x.interval ↔ Told
    is apart = due_span_taken_is s x.page x.writer x.interval round.takes apart

    there : IsNoticeInSpan s h span x → Told
    there y = (is (λ same. y.apart (same ∙ sym round.reader))).0 (y.stored, y.least, y.below)

    back : Told → IsNoticeInSpan s h span x
    back told =
        let lacks = (due_span_told_is s j k p e.kind x.page x.writer x.interval (due_span_not_fetch e.kind round.takes.takes)).0 told in
        let apart = due_span_lacks_not_own s h p x.page x.writer x.interval lacks.0 in
        let between = (is apart).1 told in
        let page = round.pages x.page x.writer x.interval between.0 in
        record {
          low = due_span_lacks_low s h p x.page x.writer x.interval round.low lacks.0;
          apart = λ same. apart (same ∙ round.reader);
          from = omega arith;
          to = omega arith;
          stored = between.0;
          least = between.1;
          below = between.2;
        }

-- an event that neither takes nor fetches tells of none
pub notice_rows_quiet_event : (s : Sizes) (j : List Event) (k : ℕ) (e : Event)
    → ((n q m : ℕ) → IsDueToldBy s j k e.processor e.kind n q m → ⊥) → AreNoticesAt s j k e []
notice_rows_quiet_event s j k e none = record {
  has = λ x. ((λ h. absurd (none-some x h.1)), λ told. absurd (none x.page x.writer x.interval told));
  order = λ m n x y lt at. absurd (none-some x at);
}
