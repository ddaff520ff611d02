-- What each call keeps.
use Rattle.std.proofs.Common.{◌≡◌, ◌∙◌, ℕ, ◌<◌, ◌≤◌, ◌*◌, ◌-◌, false, length, List, [], ◌++◌, Some, None, Result, Ok, Err, OnOk, OnErr, slice_get, arith, subst, sym, refl, ap}
use Rattle.std.proofs.lemmas.Option.{same_Some}
use Rattle.journal.specs.declared.event.Event.{Event}
use Rattle.journal.specs.declared.event.Kind.{Kind}
use Rattle.journal.specs.declared.event.Kind.TheVariants.{Ask, Release, Arrive, Set, Watch}
use Rattle.journal.specs.Sizes.{Sizes}
use Rattle.journal.specs.Events.{EventAt, event_closes}
use Rattle.journal.specs.IntervalContents.{open_interval_contents}
use Rattle.journal.specs.WellFormed.{Holds}
use Rattle.journal.specs.DidEvent.{did}
use Rattle.journal.specs.Log.{Log}
use Rattle.page.specs.PageChanges.{PageChanges}
use Rattle.transit.specs.Letters.{Letter}
use Rattle.book.specs.BookState.{BookState}
use Rattle.book.specs.RepresentedHistory.{Represents, RepresentsSomeHistory}
use Rattle.book.specs.BookCut.{WasBookCut}
use Rattle.book.specs.AllowedCalls.{AllowsIdleBlockCall, AllowsBlockCall, AllowsFlushCall, AllowsClosingCall, AllowsAskCall, AllowsReleaseCall, IsProcessorOfAllowedCall}
use Rattle.book.specs.Transitions.{transition_new_book, transition_handed_in, transition_handed_last, transition_asked, transition_released, transition_arrived, transition_set, transition_watched, transition_taken, TransitionTakes}
use Rattle.book.proofs.Told.WholeLaws.{whole_new_book_law, whole_block_law, whole_last_block_law, whole_ask_law, whole_release_law, whole_arrive_law, whole_set_law, whole_watch_law, whole_take_law, whole_cut_law}
use Rattle.test_memory.specs.declared.histories.told.Told.TheInside.{Inside}
use Rattle.test_memory.specs.Histories.Telling.{Telling, IsTelling, MayCloseHere}
use Rattle.test_memory.specs.Histories.Keeping.{telling_of, RepresentsWithRoom}
use Rattle.test_memory.specs.Histories.Records.{AreOpenBelow}
use Rattle.test_memory.proofs.histories.Opened.{open_contents}
use Rattle.test_memory.proofs.histories.Reading.{since_block}

-- what calls of a book rest on that is told by a history
module _ (s : Sizes) (h : List Event) (b : BookState) (p : ℕ) (told : Represents s h b) where
  abbrev by_some : RepresentsSomeHistory b
  by_some = record { sizes = s; history = h; told = told }

  pub may_look : p < s.processors → IsProcessorOfAllowedCall b p
  may_look lt = record { by = by_some; processor = lt }

  pub may_flush : (block : List Event) → AllowsBlockCall s b p block → AllowsFlushCall b p block
  may_flush block gives = record { by = by_some; gives = gives }

  abbrev pub may_call : (block : List Event) → AllowsIdleBlockCall s b p block → AllowsClosingCall b p block
  may_call block hands_in = record { by = by_some; hands_in = hands_in }

  pub may_ask : (l : ℕ) (block : List Event) → AllowsIdleBlockCall s b p block → l < s.locks → ¬ Holds h p l → AllowsAskCall b p l block
  may_ask l block hands_in range free = record { call = may_call block hands_in; range = range; free = free }

  pub may_release : (l : ℕ) (block : List Event) → AllowsIdleBlockCall s b p block → l < s.locks → Holds h p l
      → AllowsReleaseCall b p l block
  may_release l block hands_in range held = record { call = may_call block hands_in; range = range; held = held }

-- a new book is told by the empty history
pub kept_new : (t : Inside) → 1 ≤ t.processors → 1 ≤ t.words → t.words ≤ 64 → t.history.items ≡ []
    → t.book ≡ transition_new_book (telling_of t).sizes → t.owing ≡ 256 * t.processors → RepresentsWithRoom t
kept_new t some word words empty new owing =
    let s = (telling_of t).sizes in
    record {
      telling = record { told = rw (empty, new) (whole_new_book_law s (omega arith)); some = omega arith; few = words };
      owing = owing ∙ sym (ap (λ (b : BookState). b.journal.room) new);
    }

-- the history tells the new book, which keeps as much room
pub record Follows (s : Sizes) (h : List Event) (old new : BookState) : Type 0 where
  pub told : Represents s h new
  pub room : new.journal.room ≡ old.journal.room

-- so it is kept
pub kept_after : (t new : Inside) (h : List Event) → RepresentsWithRoom t → (telling_of new).sizes ≡ (telling_of t).sizes
    → new.owing ≡ t.owing → new.history.items ≡ h → Follows (telling_of t).sizes h t.book new.book → RepresentsWithRoom new
kept_after t new h kept sizes owing history follows = record {
  telling = record {
    told = subst (λ s. Represents s new.history.items new.book) (sym sizes)
        (subst (λ es. Represents (telling_of t).sizes es new.book) (sym history) follows.told);
    some = subst (λ (s : Sizes). 0 < s.words) (sym sizes) kept.telling.some;
    few = subst (λ (s : Sizes). s.words ≤ 64) (sym sizes) kept.telling.few;
  };
  owing = owing ∙ kept.owing ∙ sym follows.room;
}

follows : (s : Sizes) (h : List Event) (old new made : BookState) → Represents s h made
    → made.journal.room ≡ old.journal.room → new ≡ made → Follows s h old new
follows s h old new made told room is =
    record { told = subst (λ b. Represents s h b) (sym is) told; room = ap (λ (b : BookState). b.journal.room) is ∙ room }

pub follows_hand_in : (s : Sizes) (h : List Event) (b new : BookState) (p : ℕ) (block : List Event) → Represents s h b
    → AllowsBlockCall s b p block → new ≡ transition_handed_in b block → Follows s (h ++ block) b new
follows_hand_in s h b new p block told may is =
    follows s (h ++ block) b new (transition_handed_in b block) (whole_block_law s h block b p told may) refl is

-- so a book is kept after a block, for which the history made room, was handed in and noted
pub kept_handed : (t new : Inside) (p : ℕ) (block roomy : List Event) → RepresentsWithRoom t
    → (telling_of new).sizes ≡ (telling_of t).sizes → new.owing ≡ t.owing → roomy ≡ t.history.items
    → new.history.items ≡ roomy ++ block → AllowsBlockCall (telling_of t).sizes t.book p block
    → new.book ≡ transition_handed_in t.book block → RepresentsWithRoom new
kept_handed t new p block roomy kept sizes owing same noted may is =
    kept_after t new (t.history.items ++ block) kept sizes owing (noted ∙ ap (λ es. es ++ block) same)
    (follows_hand_in (telling_of t).sizes t.history.items t.book new.book p block kept.telling.told may is)

-- and after an event that closes an interval
pub kept_closed : (t new : Inside) (p : ℕ) (k : Kind) (block roomy : List Event) → RepresentsWithRoom t
    → (telling_of new).sizes ≡ (telling_of t).sizes → new.owing ≡ t.owing → roomy ≡ t.history.items
    → new.history.items ≡ did (roomy ++ block) p k
    → Follows (telling_of t).sizes (did (t.history.items ++ block) p k) t.book new.book → RepresentsWithRoom new
kept_closed t new p k block roomy kept sizes owing same noted follows =
    kept_after t new (did (t.history.items ++ block) p k) kept sizes owing
    (noted ∙ ap (λ es. did (es ++ block) p k) same) follows

-- what was found of the book as it is seen holds of it as it is held
pub gives_found : (t : Inside) (now : Telling) (p : ℕ) (block : List Event) → telling_of t ≡ now
    → AllowsBlockCall now.sizes now.book p block → AllowsBlockCall (telling_of t).sizes t.book p block
gives_found t now p block same may = subst (λ (x : Telling). AllowsBlockCall x.sizes x.book p block) (sym same) may

pub closes_found : (t : Inside) (now : Telling) (p : ℕ) (block : List Event) (records : List PageChanges)
    → telling_of t ≡ now → MayCloseHere now p block records → MayCloseHere (telling_of t) p block records
closes_found t now p block records same may = subst (λ (x : Telling). MayCloseHere x p block records) (sym same) may

-- a cut leaves the history, and the room
pub follows_cut : (s : Sizes) (h : List Event) (b new : BookState) → Represents s h b → WasBookCut b new → Follows s h b new
follows_cut s h b new told was =
    record { told = whole_cut_law s h b new told was; room = ap (λ (l : Log). l.room) was.journal.left }

-- and after a cut that was refused it is the same book
pub kept_cut : {A E : Type 0} (t : Inside) (new : BookState) (r : Result A E) → RepresentsWithRoom t → OnOk r (WasBookCut t.book new)
    → OnErr r (new ≡ t.book) → RepresentsWithRoom (record t { book = new })
kept_cut t new (Ok a) kept was same =
    kept_after t (record t { book = new }) t.history.items kept refl refl refl
    (follows_cut (telling_of t).sizes t.history.items t.book new kept.telling.told was)
kept_cut t new (Err e) kept was same = subst (λ (b : BookState). RepresentsWithRoom (record t { book = b })) (sym same) kept

-- each call that closes an interval
module _ (t : Telling) (new : BookState) (p : ℕ) (block : List Event) (records : List PageChanges) (telling : IsTelling t)
    (may : MayCloseHere t p block records) where
  pub follows_ask : (l : ℕ) → l < t.sizes.locks → ¬ Holds t.history p l
      → new ≡ transition_asked (transition_handed_in t.book block) p l records
      → Follows t.sizes (did (t.history ++ block) p (Ask l)) t.book new
  follows_ask l less free is =
      follows t.sizes (did (t.history ++ block) p (Ask l)) t.book new
      (transition_asked (transition_handed_in t.book block) p l records)
      (whole_ask_law t.sizes t.history block t.book p l records telling.told may.may may.are less free) refl is

  pub follows_release : (l : ℕ) → l < t.sizes.locks → Holds t.history p l
      → new ≡ transition_released (transition_handed_in t.book block) p l records
      → Follows t.sizes (did (t.history ++ block) p (Release l)) t.book new
  follows_release l less held is =
      follows t.sizes (did (t.history ++ block) p (Release l)) t.book new
      (transition_released (transition_handed_in t.book block) p l records)
      (whole_release_law t.sizes t.history block t.book p l records telling.told may.may may.are less held) refl is

  pub follows_set : (f : ℕ) → f < t.sizes.flags → new ≡ transition_set (transition_handed_in t.book block) p f records
      → Follows t.sizes (did (t.history ++ block) p (Set f)) t.book new
  follows_set f less is =
      follows t.sizes (did (t.history ++ block) p (Set f)) t.book new (transition_set (transition_handed_in t.book block) p f records)
      (whole_set_law t.sizes t.history block t.book p f records telling.told may.may may.are less) refl is

  pub follows_watch : (f : ℕ) → f < t.sizes.flags → new ≡ transition_watched (transition_handed_in t.book block) p f records
      → Follows t.sizes (did (t.history ++ block) p (Watch f)) t.book new
  follows_watch f less is =
      follows t.sizes (did (t.history ++ block) p (Watch f)) t.book new
      (transition_watched (transition_handed_in t.book block) p f records)
      (whole_watch_law t.sizes t.history block t.book p f records telling.told may.may may.are less) refl is

  pub follows_arrive : new ≡ transition_arrived (transition_handed_in t.book block) p records
      → Follows t.sizes (did (t.history ++ block) p Arrive) t.book new
  follows_arrive is =
      follows t.sizes (did (t.history ++ block) p Arrive) t.book new
      (transition_arrived (transition_handed_in t.book block) p records)
      (whole_arrive_law t.sizes t.history block t.book p records telling.told may.may may.are) refl is

-- a take of what p waits for
pub follows_take : (s : Sizes) (h : List Event) (b new : BookState) (p : ℕ) (k : Kind) (m : Letter) → Represents s h b
    → slice_get b.awaits p ≡ Some (Some k) → TransitionTakes b p m new → Follows s (did h p k) b new
follows_take s h b new p k m told waits takes =
    let same : takes.kind ≡ k =
    same_Some takes.kind k (same_Some (Some takes.kind) (Some k) (sym takes.awaits ∙ waits)) in
    subst (λ x. Follows s (did h p x) b new) same
    (follows s (did h p takes.kind) b new (transition_taken b p takes.kind m)
    (whole_take_law s h b p takes.kind m told takes.awaits takes.message) refl takes.after)

-- the records of p's open interval, made of its events and the block's
pub may_close : (t : Telling) (p : ℕ) (block events : List Event) (records : List PageChanges) → IsTelling t
    → AllowsIdleBlockCall t.sizes t.book p block → length block ≤ 256 → events ≡ open_interval_contents t.history p ++ block
    → ((h : List Event) (q : ℕ) → open_interval_contents h q ≡ events → AreOpenBelow t.sizes h q t.sizes.pages records)
    → MayCloseHere t p block records
may_close t p block events records telling may short is made =
    let inner : (k : ℕ) (e : Event) → EventAt block k e → (e.processor ≡ p) × (event_closes e.kind ≡ false) =
    λ k e at. (let x = may.inner k e at in (x.mine, x.closes)) in
    let below = made (t.history ++ block) p (since_block t.history block p inner ∙ sym is) in
    let give : AllowsBlockCall t.sizes t.book p block =
    record { waits = (None, may.idle, λ isnt. absurd (isnt refl)); inner = may.inner } in
    let told = whole_block_law t.sizes t.history block t.book p telling.told give in
    record {
      may = may;
      short = short;
      are = open_contents t.sizes (t.history ++ block) p records telling.some told.well_formed below;
      rising =
          below.rising;
    }

-- a last block takes of the room that is kept
pub kept_last : (t new : Inside) (p : ℕ) (block : List Event) → RepresentsWithRoom t
    → (telling_of new).sizes ≡ (telling_of t).sizes → new.owing ≡ t.owing - length block
    → new.history.items ≡ t.history.items ++ block
    → AllowsBlockCall (telling_of t).sizes t.book p block → new.book ≡ transition_handed_last t.book block → RepresentsWithRoom new
kept_last t new p block kept sizes owing history may is = record {
  telling = record {
    told = subst (λ s. Represents s new.history.items new.book) (sym sizes)
        (subst (λ es. Represents (telling_of t).sizes es new.book) (sym history)
        (subst (λ b. Represents (telling_of t).sizes (t.history.items ++ block) b) (sym is)
        (whole_last_block_law (telling_of t).sizes t.history.items block t.book p kept.telling.told may)));
    some = subst (λ (s : Sizes). 0 < s.words) (sym sizes) kept.telling.some;
    few = subst (λ (s : Sizes). s.words ≤ 64) (sym sizes) kept.telling.few;
  };
  owing = owing ∙ ap (λ n. n - length block) kept.owing ∙ sym (ap (λ (b : BookState). b.journal.room) is);
}
