use Rattle.std.proofs.Common.{◌≢◌, MatchOption, Option, Some, length, slice_index, subst, refl, ◌∙◌, arith}
use Rattle.std.specs.Prelude.{None}
use Rattle.std.proofs.lemmas.Option.{slice_get_read}
use Rattle.journal.specs.OriginWrites.{IsOriginWriteBrought}
use Rattle.causes.specs.NumberedStores.{IsLastNumberedStoreUnder, NoNumberedStoreUnder}
use Rattle.causes.proofs.BroughtStores.{IsBroughtStoreFetch, brought_store_none_since, brought_store_last, brought_store_none, brought_store_not_own, brought_store_fetched_closed}
use Rattle.causes.proofs.LookedUpIndex.{IsLookedUpClosing, looked_up_closing_read}
use Rattle.causes.proofs.brought.brought_by.Goals as goal

pub returns-then-by-fetch : goal.returns-then-by-fetch
returns-then-by-fetch c = λ s j looked fetch page q i c' is b.
    brought_store_not_own s j c.args.fetch.now.reader c.args.address c.args.fetch.now.place q i c'
    (is ∙ c.if-by-fetch.true) b

-- what is said where there is none
none_of : {A : Type 0} (o : Option A) (P : Type 0) (Q : A → Type 0) → ((x : A) → o ≢ Some x) → MatchOption o P Q → P
none_of None P Q none is = is
none_of (Some x) P Q none is = absurd (none x refl)

pub returns-in_default : goal.returns-in_default
returns-in_default c = λ s j looked fetch page q i d is b.
    (let found = c.last.ensures in
    let by = c.requires.by in
    let limit = slice_index c.args.fetch.now.to c.args.by in
    let are = looked.stores.each c.args.address c.args.by found.0 by found.1 in
    let none =
    none_of c.last.result (NoNumberedStoreUnder found.0.items limit) (IsLastNumberedStoreUnder found.0.items limit) c.in_default.not-Some found.2 in
    let from : IsBroughtStoreFetch s j c.args.fetch.now c.args.address c.args.by =
    record { fetch = fetch; page = page; apart = c.if-by-fetch.false } in
    brought_store_none from are none i d
    (subst (λ r. IsOriginWriteBrought s j c.args.fetch.now.reader c.args.address c.args.fetch.now.place r i d) is b))

pub returns-then-store-fetch : goal.returns-then-store-fetch
returns-then-store-fetch c = λ s j looked fetch page q i d is b.
    (let found = c.in-Some.ensures in
    let are = looked.stores.each c.args.address c.args.by found.0 c.requires.by found.1 in
    let from : IsBroughtStoreFetch s j c.args.fetch.now c.args.address c.args.by =
    record { fetch = fetch; page = page; apart = c.if-by-fetch.false } in
    brought_store_none_since c.in-Some.store from are found.2 c.if-store-fetch.true i d
    (subst (λ r. IsOriginWriteBrought s j c.args.fetch.now.reader c.args.address c.args.fetch.now.place r i d) is b))

pub index-requires-2 : goal.index-requires-2
index-requires-2 c =
    let told = c.requires.told in
    let s = told.0 in
    let j = told.1 in
    let looked = told.2 in
    let fetch = told.3 in
    let x = c.args.looked.now in
    let q = c.args.by in
    let row = c.index.result.now in
    let are = looked.index.closings in
    let long = are.long in
    let low = c.requires.by in
    let under = c.in-Some.ensures.2.under in
    let mine = are.each q row
    (slice_get_read x.index.closings.items (length x.index.closings.items) q row refl (omega arith) c.index.ensures) in
    let counted = brought_store_fetched_closed s j c.args.fetch.now q c.in-Some.store.interval fetch under in
    let all = mine.long in
    omega (arith, row.ok.0)

pub returns : goal.returns
returns c = λ s j looked fetch page.
    let found = c.in-Some.ensures in
    let q = c.args.by in
    let are = looked.stores.each c.args.address q found.0 c.requires.by found.1 in
    let last = found.2 in
    let from : IsBroughtStoreFetch s j c.args.fetch.now c.args.address q =
    record { fetch = fetch; page = page; apart = c.if-by-fetch.false } in
    let read : IsLookedUpClosing c.args.looked.now.index.closings.items q c.in-Some.store.interval c.index-2.result.now =
    record { row = c.index.result.now; row_is = c.index.ensures; place_is = c.index-2.ensures } in
    let closed = brought_store_fetched_closed s j c.args.fetch.now q c.in-Some.store.interval fetch last.under in
    brought_store_last c.index-2.result.now c.in-Some.store from are last c.if-store-fetch.false
    (looked_up_closing_read looked.index.closings (let lt = c.requires.by in omega arith) closed read)
