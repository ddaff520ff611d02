use Rattle.std.proofs.Common.{◌≡◌, ℕ, ◌+◌, ◌*◌, ◌<◌, ◌≤◌, List, length, slice_index_or, subst, sym, ap, arith}
use Rattle.std.proofs.Math.Nat.{mul-le-mul_left}
use Rattle.std.proofs.lemmas.Option.{slice_get-get_or}
use Rattle.std.proofs.lemmas.Grind.{elements}
use Rattle.journal.specs.declared.event.Event.{Event}
use Rattle.journal.specs.declared.event.Kind.{Kind}
use Rattle.journal.specs.declared.event.Kind.TheVariants.{Fetch, Load, Store}
use Rattle.journal.specs.PageImages.{FetchesPageImage}
use Rattle.journal.specs.DidEvent.{event}
use Rattle.journal.specs.Events.{EventAt}
use Rattle.journal.specs.WellFormed.{Does, WellFormedKindInRange}
use Rattle.judge.specs.JudgedSizes.{judged_sizes_of}
use Rattle.causes.specs.FetchedOrigins.{AreOriginsBefore}
use Rattle.causes.proofs.OriginSteps.{origin_step_fetched_done, origin_step_quiet, origin_step_stored}
use Rattle.causes.proofs.origin.update_origins.Goals as goal

-- the event at this place
abbrev here : List Event → ℕ → Event
here events place = slice_index_or events place (event 0 (Load 0 0))

there : (events : List Event) (place : ℕ) → place < length events → EventAt events place (here events place)
there events place lt = slice_get-get_or events place (event 0 (Load 0 0)) lt

does : (events : List Event) (place : ℕ) (k : Kind) → place < length events → (here events place).kind ≡ k
    → Does events place (here events place).processor k
does events place k lt is =
    subst (λ x. EventAt events place (event (here events place).processor x)) is (there events place lt)

pub fetch_origins-requires-clause-told : goal.fetch_origins-requires-clause-told
fetch_origins-requires-clause-told c =
    let events = c.args.events.now in
    let k = c.args.place in
    let lt = c.requires.place in
    let s = judged_sizes_of c.args.gaps.now.sizes in
    let f = c.in-Fetch in (
      s,
      events,
      c.requires.looked,
      c.brought_fetch_at-fetch.ensures.fetch events c.requires.tells (omega arith)
          (f.writers, f.records, f.words, does events k (Fetch f.writers f.page f.records f.words) lt f.is),
      sym c.requires.addresses,
      c.requires.size,
      subst (λ n. AreOriginsBefore s events n c.args.words.now) (sym c.brought_fetch_at-fetch.ensures.place) c.requires.so_far,
    )

pub fetch_origins-requires-clause-page : goal.fetch_origins-requires-clause-page
fetch_origins-requires-clause-page c =
    let events = c.args.events.now in
    let k = c.args.place in
    let s = judged_sizes_of c.args.gaps.now.sizes in
    let low : c.in-Fetch.page < s.pages =
    subst (WellFormedKindInRange s) c.in-Fetch.is (c.requires.within k (here events k) (there events k c.requires.place)).kind in
    let next : c.in-Fetch.page + 1 ≤ s.pages = omega arith in
    let up = mul-le-mul_left c.args.size next in
    let page = ap (λ (n : ℕ). n * c.args.size) c.brought_fetch_at-fetch.ensures.page in
    let size = ap (λ (n : ℕ). s.pages * n) c.requires.size in
    let all = c.requires.addresses in
    omega arith

pub fetch_origins-requires-clause-reader : goal.fetch_origins-requires-clause-reader
fetch_origins-requires-clause-reader c =
    let events = c.args.events.now in
    let k = c.args.place in
    let low = (c.requires.within k (here events k) (there events k c.requires.place)).processor in
    let few = c.requires.tells.long.sizes.processors in
    let by = c.brought_fetch_at-fetch.ensures.reader in
    omega arith

pub returns-in-Store : goal.returns-in-Store
returns-in-Store c =
    let events = c.args.events.now in
    let k = c.args.place in
    let s = judged_sizes_of c.args.gaps.now.sizes in
    let low = (c.requires.within k (here events k) (there events k c.requires.place)).processor in
    let few = c.requires.tells.long.sizes.processors in
    origin_step_stored (here events k).processor c.in-Store.address c.in-Store.field-1
    (does events k (Store c.in-Store.address c.in-Store.field-1) c.requires.place c.in-Store.is) (omega arith)
    c.requires.so_far

pub returns-in-Fetch : goal.returns-in-Fetch
returns-in-Fetch c =
    let events = c.args.events.now in
    let k = c.args.place in
    let lt = c.requires.place in
    let s = judged_sizes_of c.args.gaps.now.sizes in
    let f = c.in-Fetch in
    let fetches : FetchesPageImage events k (here events k).processor f.page =
    (f.writers, f.records, f.words, does events k (Fetch f.writers f.page f.records f.words) lt f.is) in
    let before = subst (λ n. AreOriginsBefore s events n c.args.words.now) (sym c.brought_fetch_at-fetch.ensures.place) c.requires.so_far in
    let fetch = c.brought_fetch_at-fetch.ensures.fetch events c.requires.tells (omega arith) fetches in
    origin_step_fetched_done c.brought_fetch_at-fetch.result k c.args.size c.brought_fetch_at-fetch.ensures.place c.requires.size fetch.fetches
    (c.fetch_origins.ensures s events c.requires.looked fetch c.requires.size before)

pub returns-in_default : goal.returns-in_default
returns-in_default c =
    let events = c.args.events.now in
    let k = c.args.place in
    origin_step_quiet (judged_sizes_of c.args.gaps.now.sizes) events k (here events k) c.args.words.now
    (there events k c.requires.place) c.in_default.not-Store c.in_default.not-Fetch c.requires.so_far

pub overflow_mul-address : goal.overflow_mul-address
overflow_mul-address c = grind (arith, elements)

pub overflow_add-address : goal.overflow_add-address
overflow_add-address c = grind (arith, elements)

pub offset_bounds-words-address : goal.offset_bounds-words-address
offset_bounds-words-address c = grind (arith, elements)

pub bounds-words-address : goal.bounds-words-address
bounds-words-address c = grind (arith, elements)

pub brought_fetch_at-fetch-requires-clause-reader : goal.brought_fetch_at-fetch-requires-clause-reader
brought_fetch_at-fetch-requires-clause-reader c = grind (arith, elements)

pub brought_fetch_at-fetch-requires-clause-page : goal.brought_fetch_at-fetch-requires-clause-page
brought_fetch_at-fetch-requires-clause-page c = grind (arith, elements)
