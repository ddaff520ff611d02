-- Stores at places of a journal.
use Rattle.std.proofs.Common.{ℕ, ◌≡◌, ◌<◌, List, ◌++◌, length, Some, slice_get, ap, ap₂, sym, subst, subst₂, ◌∙◌, ◌+◌, ◌*◌, ◌/◌, ◌%◌, div-add-mod'}
use Rattle.std.proofs.lemmas.Option.{some_pair_parts}
use Rattle.journal.specs.declared.event.Event.{Event}
use Rattle.journal.specs.declared.event.Kind.{Kind}
use Rattle.journal.specs.declared.event.Kind.TheVariants.{Store}
use Rattle.journal.specs.DidEvent.{event}
use Rattle.journal.specs.Events.{EventAt}
use Rattle.journal.specs.WellFormed.{Does}
use Rattle.journal.specs.Sizes.{Sizes}
use Rattle.journal.specs.PageImages.{StoresToPageImage, page_image_write, page_image_after}
use Rattle.base.specs.InOrderOnce.{Has}
use Rattle.base.proofs.SlicesAndCounts.{slice_get-append_left}
use Rattle.base.proofs.LastWritten.{last_written_function_same}
use Rattle.journal.proofs.Order.EventPlacesAndCounts.{event_place_inside, event_place_longer, event_place_shorter, event_place_does_same}

-- an event with this kind, as what its processor does
pub page_store_does_kind : (j : List Event) (i : ℕ) (e : Event) (k : Kind) → EventAt j i e → e.kind ≡ k → Does j i e.processor k
page_store_does_kind j i e k at is = let P : Kind → Type 0 = λ x. EventAt j i (event e.processor x) in subst P is at

-- two stores at one place are one
pub page_store_same : (j : List Event) (i : ℕ) {p q a b v w : ℕ} → Does j i p (Store a v) → Does j i q (Store b w)
    → (p ≡ q) × (a ≡ b) × (v ≡ w)
page_store_same j i {p = p} {q = q} {a = a} {b = b} {v = v} {w = w} h g =
    let r = event_place_does_same j i p q (Store a v) (Store b w) h g in
    let e : Store a v ≡ Store b w = r.1 in
    let page_store_same_address : a ≡ b = cc in
    let same_value : v ≡ w = cc in
    (r.0, page_store_same_address, same_value)

-- an address is its page and its offset
pub page_store_same_address : (w a b : ℕ) → a / w ≡ b / w → a % w ≡ b % w → a ≡ b
page_store_same_address w a b page offset = sym (div-add-mod' a w) ∙ ap₂ (λ (x y : ℕ). x * w + y) page offset ∙ div-add-mod' b w

-- what a store writes in its page
pub page_store_writes : (s : Sizes) (j : List Event) (i q a v : ℕ) → Does j i q (Store a v)
    → page_image_write s (slice_get j i) ≡ Some (a % s.words, v)
page_store_writes s j i q a v h = ap (page_image_write s) h

-- a store to the page as one
pub page_stores_to : (s : Sizes) (j : List Event) (n i q a v : ℕ) → Does j i q (Store a v) → a / s.words ≡ n
    → StoresToPageImage s j n i
page_stores_to s j n i q a v h e = record { by = q; address = a; value = v; does = h; in_page = e }

-- a store to the page that writes at an offset is one of that address and value
pub page_store_at : (s : Sizes) (j : List Event) (n i a v : ℕ) → (x : StoresToPageImage s j n i) → a / s.words ≡ n
    → page_image_write s (slice_get j i) ≡ Some (a % s.words, v) → Does j i x.by (Store a v)
page_store_at s j n i a v x page writes =
    let e =
    some_pair_parts (x.address % s.words) (a % s.words) x.value v
    (sym (page_store_writes s j i x.by x.address x.value x.does) ∙ writes) in
    let same : x.address ≡ a = page_store_same_address s.words x.address a (x.in_page ∙ sym page) e.0 in
    let P : ℕ → ℕ → Type 0 = λ b w. Does j i x.by (Store b w) in
    subst₂ P same e.1 x.does

-- a store to the page stays one as the journal goes on
pub page_stores_longer : (s : Sizes) (j es : List Event) (n i : ℕ) → StoresToPageImage s j n i → StoresToPageImage s (j ++ es) n i
page_stores_longer s j es n i x =
    page_stores_to s (j ++ es) n i x.by x.address x.value (event_place_longer j es i (event x.by (Store x.address x.value)) x.does)
    x.in_page

-- and was one before it did, at a place of before
pub page_stores_shorter : (s : Sizes) (j es : List Event) (n i : ℕ) → i < length j → StoresToPageImage s (j ++ es) n i
    → StoresToPageImage s j n i
page_stores_shorter s j es n i within x =
    page_stores_to s j n i x.by x.address x.value (event_place_shorter j es i (event x.by (Store x.address x.value)) within x.does)
    x.in_page

-- a store to the page stands within the journal
pub page_stores_within : (s : Sizes) (j : List Event) (n i : ℕ) → StoresToPageImage s j n i → i < length j
page_stores_within s j n i x = event_place_inside j i (event x.by (Store x.address x.value)) x.does

-- a store to the page at the place of an event is what that event does
pub page_stores_by_event : (s : Sizes) (j : List Event) (n i : ℕ) (e : Event) → EventAt j i e → (x : StoresToPageImage s j n i)
    → (e.processor ≡ x.by) × (e.kind ≡ Store x.address x.value)
page_stores_by_event s j n i e at x = event_place_does_same j i e.processor x.by e.kind (Store x.address x.value) at x.does

-- pages of a journal that goes on
pub page_stores_after_longer : (s : Sizes) (j es : List Event) (page is : List ℕ) → ((i : ℕ) → Has is i → i < length j)
    → page_image_after s (j ++ es) page is ≡ page_image_after s j page is
page_stores_after_longer s j es page is within =
    last_written_function_same (λ (i : ℕ). page_image_write s (slice_get (j ++ es) i)) (λ (i : ℕ). page_image_write s (slice_get j i)) page is
    (λ k i at. ap (page_image_write s) (slice_get-append_left j es i (within i (k, at))))

-- an event is what its processor does
pub page_store_event_is : (e : Event) (p : ℕ) (k : Kind) → e.processor ≡ p → e.kind ≡ k → e ≡ event p k
page_store_event_is e p k mine is = ap₂ (λ (q : ℕ) (a : Kind). event q a) mine is
