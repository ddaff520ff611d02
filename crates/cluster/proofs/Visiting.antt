-- A processor's chair before, inside and after a call. The calls that enter have goals of one shape, each over a record
-- of its own steps, which no lemma can be stated of: what they share is said here and in Made, over plain variables.
use Rattle.std.proofs.Common.{ℕ, ◌≡◌, ◌<◌, ◌+◌, Some, List, ◌++◌, slice_get, slice_set, refl, sym, ap, ap₂, subst, subst₂, ◌∙◌, arith}
use Rattle.journal.specs.declared.event.Event.{Event}
use Rattle.journal.specs.Sizes.{Sizes}
use Rattle.base.proofs.SliceSets.{slice_get-set_same}
use Rattle.std.proofs.lemmas.Option.{slice_get_within}
use Rattle.turn.specs.Chairs.{ChairLockId, lock, chair_view, entries, IsChairInside}
use Rattle.turn.specs.declared.chair.ChairToken.{ChairToken}
use Rattle.turn.specs.declared.chair.Held.{Held}
use Rattle.book.specs.BookState.{BookState}
use Rattle.cluster.specs.Copies.Local.{Local}
use Rattle.cluster.specs.Copies.Sound.{IsSound}
use Rattle.cluster.specs.declared.keeper.View.{View}
use Rattle.cluster.specs.SeatedProcessor.{seated_processor, IsChairOfSeatedProcessor}
use Rattle.cluster.specs.KeptViews.{view_added, view_having_seen}
use Rattle.cluster.specs.Covers.{IsCoverAllowed}
use Rattle.cluster.specs.Entering.{FindsOnEntering, FindsBookOnEntering, HasEntered, HasEnteredAndLeft, IsEnteringCallOf, IsEnteringChairOf}
use Rattle.cluster.proofs.LeavingCalls.{leaving_call_finds, leaving_call_kept}

-- the processor on this chair
abbrev pub visiting_processor_on : ChairToken BookState View → Local → Local
visiting_processor_on chair m = seated_processor chair m.number m.sizes m.block m.copies m.stored m.time m.held m.awaits

-- p entered, found this book and left the new one: what its chair tells then
pub record Visit (m : Local) (b new : BookState) (after : ChairToken BookState View) : Type 0 where
  pub sound : IsSound m
  pub some_left : m.entries < m.lock.limit
  pub finds : FindsOnEntering m b
  pub seated : IsChairOfSeatedProcessor after m.number m.sizes
  pub same_lock : lock after ≡ m.lock
  pub once_more : entries after ≡ m.entries + 1
  pub seen : (chair_view after).seen ≡ (m.seen ++ finds.rest) ++ view_added b.journal new.journal
  pub cut : (chair_view after).cut ≡ new.journal.base.cut
  pub own_cut : (chair_view after).own_cut + b.journal.base.cut ≡ m.own_cut + new.journal.base.cut

-- of a book that is left as this one
pub visit_left_as : {m : Local} {b new last : BookState} {after : ChairToken BookState View} → Visit m b new after → new ≡ last
    → Visit m b last after
visit_left_as {m} {b} {new} {last} {after} v is = subst (λ (n : BookState). Visit m b n after) is v

module _ {m : Local} {old : ChairToken BookState View} (sound : IsSound m) (seated : IsChairOfSeatedProcessor old m.number m.sizes)
    (is : m ≡ visiting_processor_on old m) where
  -- what the chair has seen is what p has
  pub visit_view_is : chair_view old ≡ view_having_seen m.sizes m.seen m.cut m.own_cut
  visit_view_is =
      ap (λ (z : Sizes). view_having_seen z (chair_view old).seen (chair_view old).cut (chair_view old).own_cut) seated.shape_is
      ∙ ap₂ (λ (h : List Event) (n : ℕ). view_having_seen m.sizes h n (chair_view old).own_cut) (sym (ap (λ (x : Local). x.seen) is))
      (sym (ap (λ (x : Local). x.cut) is))
      ∙ ap (view_having_seen m.sizes m.seen m.cut) (sym (ap (λ (x : Local). x.own_cut) is))

  visiting_chair : {mid : ChairToken BookState View} {right : Held} {b : BookState} → HasEntered old mid right b → IsEnteringChairOf m mid
  visiting_chair into =
      record { place_is = into.same.1 ∙ seated.place_is; view_is = into.view_is ∙ visit_view_is }

  -- the book that it finds
  pub visit_finds_book : (b : BookState) → FindsBookOnEntering old b → FindsOnEntering m b
  visit_finds_book b stands =
      let P : ℕ → View → Type 0 = λ k v. slice_get stands.0 k ≡ Some v in
      leaving_call_finds m b stands.0 (subst₂ P seated.place_is visit_view_is stands.1) stands.2

  -- a call of p may be given back
  pub visit_gives_back : {mid : ChairToken BookState View} {right : Held} {b new : BookState} → HasEntered old mid right b
      → ((es : List Event) × IsEnteringCallOf m b es new) → (n : Local) × (found : BookState) × (es : List Event)
      × IsEnteringChairOf n mid × IsChairInside mid right found × IsEnteringCallOf n found es new
  visit_gives_back {b = b} into call = (m, b, call.0, visiting_chair into, into.inside, call.1)

  -- and it was
  pub visited : {mid after : ChairToken BookState View} {right : Held} {b new : BookState} → HasEntered old mid right b
      → HasEnteredAndLeft mid after right new → Visit m b new after
  visited {mid} {b = b} {new} into left =
      let sees = left.seen b into.inside in
      let chair = visiting_chair into in
      let P : ℕ → View → Type 0 = λ k v. slice_get sees.views k ≡ Some v in
      let at = subst₂ P chair.place_is chair.view_is sees.at in
      let goes = sees.kept.each m.number (view_having_seen m.sizes m.seen m.cut m.own_cut) at in
      let times = ap (λ (x : Local). x.entries) is in
      let mine = ap (λ (x : Local). x.lock) is in
      record {
        sound = sound;
        some_left = rw (times, mine) into.some_left;
        finds = leaving_call_finds m b sees.views at ((chair_view mid).shape, sees.history, sees.kept);
        seated = record {
          place_is = left.same.1 ∙ chair.place_is;
          shape_is = sees.shape ∙ ap (λ (x : View). x.shape) into.view_is ∙ seated.shape_is;
          outside = left.outside;
        };
        same_lock = left.same.0 ∙ into.same.0 ∙ sym mine;
        once_more = left.entries_are ∙ into.once_more ∙ ap (λ (n : ℕ). n + 1) (sym times);
        seen = sees.seen ∙ ap (λ (h : List Event). h ++ view_added b.journal new.journal) goes.begins;
        cut = sees.cut;
        own_cut =
            (let own = sees.own_cut in let same = ap (λ (v : View). v.own_cut) chair.view_is in omega arith);
      }

-- what chairs tell of their processors, and that two tell the same
record VisitTelling : Type 0 where
  lock_of : ChairLockId
  times : ℕ
  history : List Event
  cut_off : ℕ
  own_cut_off : ℕ

record VisitsTellSame (t u : VisitTelling) : Type 0 where
  lock_is : t.lock_of ≡ u.lock_of
  times_are : t.times ≡ u.times
  history_is : t.history ≡ u.history
  cut_off_is : t.cut_off ≡ u.cut_off
  own_cut_off_is : t.own_cut_off ≡ u.own_cut_off

abbrev visit_telling : Local → VisitTelling → Local
visit_telling n t = record n { lock = t.lock_of; entries = t.times; seen = t.history; cut = t.cut_off; own_cut = t.own_cut_off }

-- a processor whose chair tells the same
visit_same_told : (n : Local) (t u : VisitTelling) → VisitsTellSame t u → visit_telling n t ≡ visit_telling n u
visit_same_told n t u is = rw (is.lock_is, is.times_are, is.history_is, is.cut_off_is, is.own_cut_off_is) refl

module _ {m : Local} {b new : BookState} {after : ChairToken BookState View} (v : Visit m b new after) (es : List Event)
    (call : IsEnteringCallOf m b es new) where
  -- what it has seen then
  abbrev pub visit_seen_then : List Event
  visit_seen_then = (m.seen ++ v.finds.rest) ++ es

  visit_own_cut_is : (chair_view after).own_cut ≡ m.own_cut + call.taken
  visit_own_cut_is = let own = v.own_cut in let cuts = call.cuts in omega arith

  -- the processor afterwards, whatever else it changed
  pub visit_processor_after : (n : Local) → n ≡ record (visiting_processor_on after n) { number = m.number; sizes = m.sizes }
      → n ≡ record n {
        lock = m.lock;
        entries = m.entries + 1;
        number = m.number;
        sizes = m.sizes;
        seen = visit_seen_then;
        cut = new.journal.base.cut;
        own_cut = m.own_cut + call.taken;
      }
  visit_processor_after n own =
      let seen_is = v.seen ∙ ap (λ (xs : List Event). (m.seen ++ v.finds.rest) ++ xs) call.adds in
      let told : VisitTelling = record {
        lock_of = lock after;
        times = entries after;
        history = (chair_view after).seen;
        cut_off = (chair_view after).cut;
        own_cut_off = (chair_view after).own_cut;
      } in
      let then : VisitTelling = record {
        lock_of = m.lock;
        times = m.entries + 1;
        history = visit_seen_then;
        cut_off = new.journal.base.cut;
        own_cut_off = m.own_cut + call.taken;
      } in
      own ∙ visit_same_told (record n { number = m.number; sizes = m.sizes }) told then (record {
        lock_is = v.same_lock;
        times_are = v.once_more;
        history_is = seen_is;
        cut_off_is = v.cut;
        own_cut_off_is = visit_own_cut_is;
      })

  -- the lock's fact allows what it has seen
  pub visit_allowed_after : (n : Local) → n.number ≡ m.number → n.sizes ≡ m.sizes → n.seen ≡ visit_seen_then
      → n.cut ≡ new.journal.base.cut → n.own_cut ≡ m.own_cut + call.taken → IsCoverAllowed n
  visit_allowed_after n number sizes seen cut own_cut =
      let f = v.finds in
      let now = view_having_seen m.sizes visit_seen_then new.journal.base.cut (m.own_cut + call.taken) in (
        visit_seen_then,
        record {
          book = new;
          views = slice_set f.views m.number now;
          mine =
              rw (number, sizes, seen, cut, own_cut) (slice_get-set_same f.views m.number now
              (slice_get_within f.views m.number (view_having_seen m.sizes m.seen m.cut m.own_cut) f.at));
          kept = rw sizes (leaving_call_kept m b es new call f);
        },
      )
