-- Flags under one more event.
use Rattle.std.proofs.Common.{◌≢◌, ℕ, max, List, [], ◌∷◌, length, Option, Some, None, slice_index}
use Rattle.std.proofs.Math.Nat.{zero-max}
use Rattle.journal.specs.declared.event.Event.{Event}
use Rattle.journal.specs.declared.event.Kind.{Kind}
use Rattle.journal.specs.declared.event.Kind.TheVariants.{Set}
use Rattle.journal.specs.Pasts.{InPast, InPastOfSome}
use Rattle.journal.specs.Brings.{BringsFromKind}
use Rattle.journal.proofs.Times.TimesOfPlaces.{time_of_places_none}
use Rattle.journal.proofs.Order.EventPlacesAndCounts.{event_place_at_end}
use Rattle.journal.proofs.Times.KeptTimes.{kept_time_does, kept_time_kind_joins}
use Rattle.journal.specs.DidEvent.{event, did}
use Rattle.journal.specs.Sizes.{Sizes}
use Rattle.book.specs.BookStamps.{EachStampedAt, IsBookStamp}
use Rattle.book.specs.BookFlags.{IsBookFlag}
use Rattle.book.specs.Transitions.{transition_flag_joined}
use Rattle.book.proofs.Parts.Each.{each_kept}
use Rattle.book.proofs.Parts.Stamps.{stamp_equal, stamp_join}
use Rattle.book.proofs.Parts.PostedMail.{posted_mail_other_kind, posted_mail_stamp_kept}

-- what is no set of the flag leaves it
pub flag_stamp_kept : (n : ℕ) (h : List Event) (p : ℕ) (k : Kind) (f : ℕ) (o : Option (List ℕ)) → k ≢ Set f
    → IsBookFlag n h f o → IsBookFlag n (did h p k) f o
flag_stamp_kept n h p k f None isnt none =
    λ m does. none m ((kept_time_does h (event p k ∷ []) (Set f) m (posted_mail_other_kind p k (Set f) isnt)).1 does)
flag_stamp_kept n h p k f (Some t) isnt x = (
  (x.0.0, (kept_time_does h (event p k ∷ []) (Set f) x.0.0 (posted_mail_other_kind p k (Set f) isnt)).0 x.0.1),
  posted_mail_stamp_kept n h p k (Set f) t isnt x.1,
)

pub flag_stamps_kept : (s : Sizes) (h : List Event) (p : ℕ) (k : Kind) (flags : List (Option (List ℕ)))
    → ((f : ℕ) → k ≢ Set f) → EachStampedAt s.flags (IsBookFlag s.processors h) flags
    → EachStampedAt s.flags (IsBookFlag s.processors (did h p k)) flags
flag_stamps_kept s h p k flags isnt all =
    each_kept s.flags (IsBookFlag s.processors h) (IsBookFlag s.processors (did h p k)) flags all
    (λ f o at is. flag_stamp_kept s.processors h p k f o (isnt f) is)

-- a set joins its timestamp
pub flag_stamp_set : (n : ℕ) (h : List Event) (p f : ℕ) (o : Option (List ℕ)) (t : List ℕ) → IsBookFlag n h f o
    → IsBookStamp n (did h p (Set f)) (InPast (did h p (Set f)) p) t
    → IsBookFlag n (did h p (Set f)) f (Some (transition_flag_joined o t))
flag_stamp_set n h p f None t none x = (
  (length h, (p, event_place_at_end h (event p (Set f)))),
  stamp_equal n (did h p (Set f)) (InPastOfSome (did h p (Set f)) (BringsFromKind (did h p (Set f)) (Set f))) t
      (λ q. max 0 (slice_index t q)) x.long (λ q. zero-max (slice_index t q))
      (kept_time_kind_joins h (event p (Set f)) (λ _. 0) (slice_index t)
      (time_of_places_none h (InPastOfSome h (BringsFromKind h (Set f))) (λ i some. none some.0 some.1)) x.is),
)
flag_stamp_set n h p f (Some u) t old x = (
  (length h, (p, event_place_at_end h (event p (Set f)))),
  stamp_join n (did h p (Set f)) (InPastOfSome (did h p (Set f)) (BringsFromKind (did h p (Set f)) (Set f)))
      u t old.1.long x.long (kept_time_kind_joins h (event p (Set f)) (slice_index u) (slice_index t) old.1.is x.is),
)
