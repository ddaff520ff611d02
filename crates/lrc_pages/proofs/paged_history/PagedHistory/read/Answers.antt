use Rattle.std.proofs.Common.{◌≡◌, ◌<◌, ℕ, Option, [], ◌∷◌, ◌++◌, List, sym, refl, ◌∙◌, subst}
use Rattle.std.specs.Prelude.{IfSome}
use Rattle.std.proofs.lemmas.Result.{on_ok_weaker}
use Rattle.journal.specs.declared.event.Event.{Event}
use Rattle.judge.specs.declared.sizes.Sizes.{Sizes}
use Rattle.judge.specs.JudgedSizes.{judged_sizes_of}
use Rattle.lrc_pages.specs.declared.paged_history.PagedHistory.{PagedHistory}
use Rattle.lrc_pages.specs.Fetched.{AccessesPage, IsFetched, IsFetchedByKind, did_if}
use Rattle.lrc_pages.specs.PagedHistory.{IsPagedHistoryOf, IsPagedTraceOf}
use Rattle.lrc_pages.proofs.FetchedHistories.{fetched_by_access, fetched_by_fetch, fetched_by_other, fetched_from_push}
use Rattle.lrc_pages.proofs.FetchesDue.{page_of_within}
use Rattle.lrc_pages.proofs.paged_history.PagedHistory.read.Goals as goal

-- the history k after one more event of the trace
next : (x y : PagedHistory) (j : List Event) (e : Event) (k : List Event) → y.sizes ≡ x.sizes → (told : IsPagedTraceOf j x)
    → IsFetchedByKind (judged_sizes_of x.sizes) told.history e e.kind k → IsPagedHistoryOf k y → IsPagedTraceOf (j ++ e ∷ []) y
next x y j e k same told is now = record {
  history = k;
  fetched = subst (λ (t : Sizes). IsFetched (judged_sizes_of t) (j ++ e ∷ []) k) (sym same)
      (fetched_from_push (judged_sizes_of x.sizes) [] j e told.history k told.fetched is);
  told = now;
}

pub page_accessed-requires : goal.page_accessed-requires
page_accessed-requires c = c.requires.told.1.told.words

pub bring-requires-clause-told : goal.bring-requires-clause-told
bring-requires-clause-told c = let told = c.requires.told.1 in (told.history, told.told)

pub bring-requires-clause-page : goal.bring-requires-clause-page
bring-requires-clause-page c =
    let told = c.requires.told.1.told in
    let fits = page_of_within (judged_sizes_of c.args.self.now.sizes) c.args.event.kind c.page_accessed.result c.args.self.now.sizes.pages
    told.words (c.requires.within (sym c.is_fetch.ensures ∙ c.if-is_fetch.false)).kind refl c.page_accessed.ensures in
    subst (λ (o : Option ℕ). IfSome o (λ n. n < c.args.self.now.sizes.pages)) c.in-Some.is fits

pub note-requires-clause-told : goal.note-requires-clause-told
note-requires-clause-told c =
    let told = c.requires.told.1 in
    let made = c.in_ok-bring.ensures.made told.history told.told in
    (did_if told.history c.args.event.processor made.fetch, made.told)

pub returns-in-Some-clause-told : goal.returns-in-Some-clause-told
returns-in-Some-clause-told c =
    on_ok_weaker c.note.result (λ noted j told. (
    let x = c.args.self.now in
    let e = c.args.event in
    let s = judged_sizes_of x.sizes in
    let made = c.in_ok-bring.ensures.made told.history told.told in
    let k = did_if told.history e.processor made.fetch ++ e ∷ [] in
    let page = c.in-Some.ensures s refl in
    next x c.note.new.self j e k (c.note.ensures.sizes ∙ c.bring.ensures.sizes) told
    (fetched_by_access s told.history e e.kind c.in-Some.page k page (record { fetch = made.fetch; due = made.due; is = refl }))
    (noted (did_if told.history e.processor made.fetch) made.told))) c.note.ensures.told

pub returns-then-is_fetch-clause-told : goal.returns-then-is_fetch-clause-told
returns-then-is_fetch-clause-told c = λ j told.
    let x = c.args.self.now in
    next x x j c.args.event told.history refl told
    (fetched_by_fetch (judged_sizes_of x.sizes) told.history c.args.event c.args.event.kind (sym c.is_fetch.ensures ∙ c.if-is_fetch.true)) told.told

pub note-requires-2 : goal.note-requires-2
note-requires-2 c =
    let told = c.requires.told.1 in
    record { told = (told.history, told.told); within = c.requires.within (sym c.is_fetch.ensures ∙ c.if-is_fetch.false) }

pub returns-clause-told : goal.returns-clause-told
returns-clause-told c =
    on_ok_weaker c.note-2.result (λ noted j told. (
    let x = c.args.self.now in
    let e = c.args.event in
    let s = judged_sizes_of x.sizes in
    let none : (n : ℕ) → ¬ AccessesPage s e.kind n = λ n. c.in_default.ensures s n refl in
    next x c.note-2.new.self j e (told.history ++ e ∷ []) c.note-2.ensures.sizes told
    (fetched_by_other s told.history e e.kind none (sym c.is_fetch.ensures ∙ c.if-is_fetch.false)) (noted told.history told.told)))
    c.note-2.ensures.told
