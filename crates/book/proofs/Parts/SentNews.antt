-- What lies between two timestamps is news, in closing order.
use Rattle.std.proofs.Common.{ℕ, ◌≡◌, ◌≢◌, ◌<◌, ◌≤◌, ◌⊎◌, max, inl, inr, List, [], ◌∷◌, true, filter, slice_index, refl, sym, ap, subst, subst₂, ◌∙◌, eqb-true, eq-eqb, arith}
use Rattle.std.proofs.lemmas.Bool.{and_from, and_parts, le-leb, leb-true, lt-ltb, ltb-true}
use Rattle.base.specs.InOrderOnce.{Has, InOrder}
use Rattle.base.proofs.JoinedLists.{joined_list_has-map, joined_list_has-flat_map, joined_list_in_order-map, joined_list_in_order-flat_map, joined_list_in_weaker_order}
use Rattle.base.proofs.FilteredInOrder.{filtered_in_order_has, in_order-filter}
use Rattle.journal.specs.declared.event.Event.{Event}
use Rattle.journal.specs.declared.event.Kind.{Kind}
use Rattle.journal.specs.Sizes.{Sizes}
use Rattle.journal.specs.Events.{event_interval_at, event_closes}
use Rattle.journal.specs.Brings.{Brings}
use Rattle.journal.specs.IntervalContents.{IntervalContentHas, IsIntervalContent}
use Rattle.journal.specs.MissingIntervals.{IsMissingIntervalPlace, MissingInterval, MissingIntervalsInOrder, AreMissingIntervalsOfNotices}
use Rattle.journal.proofs.Order.EventPlacesAndCounts.{event_place_numbered}
use Rattle.journal.proofs.Intervals.StoreContents.{store_contents_some}
use Rattle.page.specs.PageChanges.{PageChanges}
use Rattle.vtime.specs.TicksAndJoins.{join}
use Rattle.vtime.proofs.Joins.{get_or-join}
use Rattle.interval.specs.declared.interval.KeptInterval.{KeptInterval}
use Rattle.interval.specs.SentIntervals.{SentRecord}
use Rattle.interval.specs.KeptClosings.{KeptClosings, is_news_of_kept_closings, is_kept_closing_of_page, kept_closing_sent_record, kept_closing_sent_interval, kept_closings_between}
use Rattle.book.specs.BookStamps.{IsBookStamp}
use Rattle.book.specs.KeptIntervals.{AreKeptIntervals}
use Rattle.book.specs.BookState.{BookState, book_state_time_of}
use Rattle.book.specs.RepresentedHistory.{Represents}
use Rattle.book.specs.PageNews.{page_news_of_notice, news_of_page}
use Rattle.book.proofs.Parts.Each.{each_item_at}
use Rattle.book.proofs.Parts.ProcessorTimes.{processor_time_number}

-- the kept interval and its record of page n that are sent
record IsSentNews (c : KeptClosings) (old new : List ℕ) (n : ℕ) (x : MissingInterval) : Type 0 where
  kept : KeptInterval
  has : Has c.kept kept
  news : is_news_of_kept_closings old new kept ≡ true
  changes : PageChanges
  among : Has kept.interval.records changes
  page : changes.page ≡ n
  is : page_news_of_notice (kept_closing_sent_record kept changes) ≡ x

sent_news_of : (c : KeptClosings) (old new : List ℕ) (n : ℕ) (x : MissingInterval) → Has (news_of_page n (kept_closings_between c old new)) x
    → IsSentNews c old new n x
sent_news_of c old new n x h =
    let y = (joined_list_has-map page_news_of_notice (filter (is_kept_closing_of_page n) (kept_closings_between c old new)) x).0 h in
    let f = (filtered_in_order_has (is_kept_closing_of_page n) (kept_closings_between c old new) y.0).0 y.1 in
    let k = (joined_list_has-flat_map kept_closing_sent_interval (filter (is_news_of_kept_closings old new) c.kept) y.0).0 f.0 in
    let g = (filtered_in_order_has (is_news_of_kept_closings old new) c.kept k.0).0 k.1 in
    let r = (joined_list_has-map (kept_closing_sent_record k.0) k.0.interval.records y.0).0 k.2 in
    record {
      kept = k.0;
      has = g.0;
      news = g.1;
      changes = r.0;
      among = r.1;
      page = ap (λ (z : SentRecord). z.notice.page) r.2 ∙ eqb-true y.0.notice.page n f.1;
      is = ap page_news_of_notice r.2 ∙ y.2;
    }

has_sent_news : (c : KeptClosings) (old new : List ℕ) (k : KeptInterval) (r : PageChanges) → Has c.kept k → is_news_of_kept_closings old new k ≡ true
    → Has k.interval.records r → Has (news_of_page r.page (kept_closings_between c old new)) (page_news_of_notice (kept_closing_sent_record k r))
has_sent_news c old new k r has news among =
    let own = (joined_list_has-map (kept_closing_sent_record k) k.interval.records (kept_closing_sent_record k r)).1 (r, among, refl) in
    let picked = (filtered_in_order_has (is_news_of_kept_closings old new) c.kept k).1 (has, news) in
    let sent = (joined_list_has-flat_map kept_closing_sent_interval (filter (is_news_of_kept_closings old new) c.kept) (kept_closing_sent_record k r)).1 (k, picked, own) in
    let there = (filtered_in_order_has (is_kept_closing_of_page r.page) (kept_closings_between c old new) (kept_closing_sent_record k r)).1
    (sent, eq-eqb r.page r.page refl) in
    (joined_list_has-map page_news_of_notice (filter (is_kept_closing_of_page r.page) (kept_closings_between c old new)) (page_news_of_notice (kept_closing_sent_record k r))).1
    (kept_closing_sent_record k r, there, refl)

-- of two records of one page the first sent is of an interval that was closed before
pub sent_news_in_order : (s : Sizes) (h : List Event) (c : KeptClosings) (n : ℕ) (old new : List ℕ) → AreKeptIntervals s h c
    → MissingIntervalsInOrder (news_of_page n (kept_closings_between c old new))
sent_news_in_order s h c n old new x =
    joined_list_in_order-map (λ (y z : MissingInterval). y.place < z.place) page_news_of_notice (filter (is_kept_closing_of_page n) (kept_closings_between c old new))
    (joined_list_in_weaker_order Before (λ (y z : SentRecord). y.place < z.place) (filter (is_kept_closing_of_page n) (kept_closings_between c old new))
    earlier
    (in_order-filter Before (is_kept_closing_of_page n) (kept_closings_between c old new)
    (joined_list_in_order-flat_map Before kept_closing_sent_interval (filter (is_news_of_kept_closings old new) c.kept) within across)))
  where
    Before : SentRecord → SentRecord → Type 0
    Before y z = (y.place < z.place) ⊎ (y.notice.page < z.notice.page)

    kept_of : (k : KeptInterval) → Has (filter (is_news_of_kept_closings old new) c.kept) k → Has c.kept k
    kept_of k h = ((filtered_in_order_has (is_news_of_kept_closings old new) c.kept k).0 h).0

    within : (k : KeptInterval) → Has (filter (is_news_of_kept_closings old new) c.kept) k → InOrder Before (kept_closing_sent_interval k)
    within k h = joined_list_in_order-map Before (kept_closing_sent_record k) k.interval.records
        (joined_list_in_weaker_order (λ (a b : PageChanges). a.page < b.page) (λ a b. Before (kept_closing_sent_record k a) (kept_closing_sent_record k b))
        k.interval.records (λ a b _ _ less. inr less) (x.contents k (kept_of k h)).rising)

    place_of : (k : KeptInterval) (y : SentRecord) → Has (kept_closing_sent_interval k) y → k.place ≡ y.place
    place_of k y h = let r = (joined_list_has-map (kept_closing_sent_record k) k.interval.records y).0 h in ap (λ (z : SentRecord). z.place) r.2

    across : InOrder (λ (j k : KeptInterval). (a b : SentRecord) → Has (kept_closing_sent_interval j) a → Has (kept_closing_sent_interval k) b
        → Before a b) (filter (is_news_of_kept_closings old new) c.kept)
    across = joined_list_in_weaker_order (λ (j k : KeptInterval). j.place < k.place)
        (λ (j k : KeptInterval). (a b : SentRecord) → Has (kept_closing_sent_interval j) a → Has (kept_closing_sent_interval k) b → Before a b)
        (filter (is_news_of_kept_closings old new) c.kept)
        (λ j k _ _ less a b in_j in_k. let here = place_of j a in_j in let there = place_of k b in_k in
        inl (omega arith))
        (in_order-filter (λ (j k : KeptInterval). j.place < k.place) (is_news_of_kept_closings old new) c.kept x.rising)

    page_of : (y : SentRecord) → Has (filter (is_kept_closing_of_page n) (kept_closings_between c old new)) y → y.notice.page ≡ n
    page_of y h = eqb-true y.notice.page n ((filtered_in_order_has (is_kept_closing_of_page n) (kept_closings_between c old new) y).0 h).1

    earlier : (y z : SentRecord) → Has (filter (is_kept_closing_of_page n) (kept_closings_between c old new)) y
        → Has (filter (is_kept_closing_of_page n) (kept_closings_between c old new)) z → Before y z → y.place < z.place
    earlier y z in_y in_z (inl less) = less
    earlier y z in_y in_z (inr less) = let here = page_of y in_y in let there = page_of z in_z in absurd (omega arith)

-- a record has words, so its interval stores in the page
sent_news_stores_of : (s : Sizes) (h : List Event) (q k n : ℕ) (words : List (ℕ × ℕ)) → words ≢ [] → IsIntervalContent s h q k n words
    → (i : ℕ) × IntervalContentHas s h q k n i
sent_news_stores_of s h q k n [] some content = absurd (some refl)
sent_news_stores_of s h q k n (w ∷ words) some content = store_contents_some s h q k n w words content

-- what a taking brings of a page is news of it
pub sent_news_are : {s : Sizes} {h : List Event} {b : BookState} {p : ℕ} → (n : ℕ) (k : Kind) (u : List ℕ) → Represents s h b
    → p < s.processors → IsBookStamp s.processors h (Brings h p k) u
    → AreMissingIntervalsOfNotices s h p n (slice_index (book_state_time_of b p)) (slice_index (join (book_state_time_of b p) u))
    (news_of_page n (kept_closings_between b.closed (book_state_time_of b p) u))
sent_news_are {s} {h} {b} {p} n k u told lt brings = record {
  each = λ q m. (there q m, back q m);
  placed = λ x has. (let y = read x has in subst Placed y.is (told.closed.each y.kept y.has));
  contents = λ x has. (let y = read x has in subst Content y.is (content y.kept y.changes y.has y.among y.page));
}
  where
    own : List ℕ
    own = book_state_time_of b p

    Placed : MissingInterval → Type 0
    Placed x = IsMissingIntervalPlace h x.owner x.number x.place

    Content : MissingInterval → Type 0
    Content x = IsIntervalContent s h x.owner x.number n x.words

    read : (x : MissingInterval) → Has (news_of_page n (kept_closings_between b.closed own u)) x → IsSentNews b.closed own u n x
    read x has = sent_news_of b.closed own u n x has

    content : (j : KeptInterval) (r : PageChanges) → Has b.closed.kept j → Has j.interval.records r → r.page ≡ n
        → IsIntervalContent s h j.interval.owner j.interval.number n r.words
    content j r has among page =
        subst (λ m. IsIntervalContent s h j.interval.owner j.interval.number m r.words) page
        ((told.closed.contents j has).each r among)

    later : (q : ℕ) → slice_index (join own u) q ≡ max (slice_index own q) (slice_index u q)
    later q = get_or-join own u q

    -- a taking brings nothing of p's own that is new
    mine : (q : ℕ) → slice_index own q < slice_index u q → q ≢ p
    mine q less is =
        let P : ℕ → Type 0 = λ r. slice_index own r < slice_index u r in
        let here = subst P is less in
        let all = processor_time_number s h b p told lt in
        let most = brings.is.within p in
        absurd (omega arith)

    Is : ℕ → ℕ → Type 0
    Is q m = (i : ℕ) × IntervalContentHas s h q m n i × (q ≢ p) × (slice_index own q ≤ m) × (m < slice_index (join own u) q)

    sent : (j : KeptInterval) (r : PageChanges) → Has b.closed.kept j → is_news_of_kept_closings own u j ≡ true → Has j.interval.records r
        → r.page ≡ n → Is j.interval.owner j.interval.number
    sent j r has news among page =
        let parts = and_parts _ _ news in
        let from = leb-true _ _ parts.0 in
        let below = ltb-true _ _ parts.1 in
        let most = later j.interval.owner in
        let stores = sent_news_stores_of s h j.interval.owner j.interval.number n r.words
        ((told.closed.contents j has).some r among) (content j r has among page) in
        (stores.0, stores.1, mine j.interval.owner (omega arith), from, omega arith)

    fresh : (k : KeptInterval) → slice_index own k.interval.owner ≤ k.interval.number
        → k.interval.number < slice_index u k.interval.owner → is_news_of_kept_closings own u k ≡ true
    fresh k from below = and_from _ _
        (le-leb (slice_index own k.interval.owner) k.interval.number from)
        (lt-ltb k.interval.number (slice_index u k.interval.owner) below)

    there : (q m : ℕ) →
        ((x : MissingInterval) × Has (news_of_page n (kept_closings_between b.closed own u)) x × (x.owner ≡ q) × (x.number ≡ m)) → Is q m
    there q m x =
        let y = read x.0 x.1 in
        subst₂ Is (ap (λ (z : MissingInterval). z.owner) y.is ∙ x.2) (ap (λ (z : MissingInterval). z.number) y.is ∙ x.3)
        (sent y.kept y.changes y.has y.news y.among y.page)

    back : (q m : ℕ) → Is q m
        → (x : MissingInterval) × Has (news_of_page n (kept_closings_between b.closed own u)) x × (x.owner ≡ q) × (x.number ≡ m)
    back q m x =
        let most = later q in
        let covered : m < slice_index u q = omega (arith, most, x.3, x.4) in
        let within = brings.is.within q in
        let at = event_place_numbered event_closes h q m (omega (arith, covered, within)) in
        let first = told.within p q own (each_item_at s.processors _ b.times p [] told.times lt) in
        let number = at.number in
        reached (event_interval_at h q at.place)
        (told.closed.all q at.place (record { kind = at.kind; does = at.does; closes = at.counts })
        (omega (arith, number, first, x.3))) number x.0 x.1 x.3 covered
      where
        sends : (k : KeptInterval) → Has b.closed.kept k → k.interval.owner ≡ q → k.interval.number ≡ m
            → is_news_of_kept_closings own u k ≡ true → (r : PageChanges) → Has k.interval.records r → r.page ≡ n
            → (x : MissingInterval) × Has (news_of_page n (kept_closings_between b.closed own u)) x × (x.owner ≡ q) × (x.number ≡ m)
        sends k kept owner number news r among page =
            let R : ℕ → Type 0 = λ a. Has (news_of_page a (kept_closings_between b.closed own u)) (page_news_of_notice (kept_closing_sent_record k r)) in
            (page_news_of_notice (kept_closing_sent_record k r), subst R page (has_sent_news b.closed own u k r kept news among), owner, number)

        found : (k : KeptInterval) → Has b.closed.kept k → k.interval.owner ≡ q → k.interval.number ≡ m → (i : ℕ)
            → IntervalContentHas s h q m n i → slice_index own q ≤ m → m < slice_index u q
            → (x : MissingInterval) × Has (news_of_page n (kept_closings_between b.closed own u)) x × (x.owner ≡ q) × (x.number ≡ m)
        found k kept owner number i stores from below =
            let P : ℕ → ℕ → Type 0 = λ o c. IntervalContentHas s h o c n i in
            let r = (told.closed.contents k kept).all n i (subst₂ P (sym owner) (sym number) stores) in
            let Q : ℕ → Type 0 = λ o. (slice_index own o ≤ m) × (m < slice_index u o) in
            let range = subst Q (sym owner) (from, below) in
            let news = fresh k (omega (arith, range.0, number)) (omega (arith, range.1, number)) in
            sends k kept owner number news r.0 r.1 r.2

        reached : (c : ℕ)
            → (k : KeptInterval) × Has b.closed.kept k × (k.interval.owner ≡ q) × (k.interval.number ≡ c) → c ≡ m → (i : ℕ)
            → IntervalContentHas s h q m n i → slice_index own q ≤ m → m < slice_index u q
            → (x : MissingInterval) × Has (news_of_page n (kept_closings_between b.closed own u)) x × (x.owner ≡ q) × (x.number ≡ m)
        reached c k number = found k.0 k.1 k.2 (k.3 ∙ number)
