-- Messages on their way under one more event.
use Rattle.std.proofs.Common.{◌≡◌, ◌≢◌, ℕ, ◌<◌, ◌⊎◌, inl, inr, List, [], ◌∷◌, false, Option, Some, None, slice_index, subst, sym, refl, ap, ◌∙◌, arith}
use Rattle.std.proofs.lemmas.Bool.{cases_eq, cases_order}
use Rattle.std.proofs.lemmas.Option.{none-some}
use Rattle.journal.specs.declared.event.Event.{Event}
use Rattle.journal.specs.declared.event.Kind.{Kind}
use Rattle.journal.specs.declared.event.Kind.TheVariants.{Ask, Acquire, Release, Arrive, Depart}
use Rattle.journal.specs.Sizes.{Sizes}
use Rattle.journal.specs.Events.{EventAt, event_count, event_arrives, event_departs}
use Rattle.journal.specs.WellFormed.{LastIs, Holds, WellFormedGrant, WellFormedAllows, WellFormedNext}
use Rattle.journal.specs.AwaitedNext.{AwaitsNothingNext}
use Rattle.journal.specs.Pasts.{InPastOfSome}
use Rattle.journal.specs.Times.{IsTimeIn}
use Rattle.journal.specs.Brings.{Brings, BringsFromKind, BringsFromSomeArrival}
use Rattle.base.proofs.SlicesAndCounts.{slice_push_cases}
use Rattle.journal.proofs.Order.EventPlacesAndCounts.{event_place_inside, event_place_does_same}
use Rattle.journal.proofs.Times.KeptTimes.{kept_time_of_kind, kept_time_other_arrivals}
use Rattle.journal.proofs.Journals.WellFormedStays.{well_formed_stays_last_cases, well_formed_stays_holds_cases, well_formed_stays_holds_now}
use Rattle.transit.specs.Letters.{Letter, LetterKind}
use Rattle.transit.specs.Letters.LetterKind.{grant, departure}
use Rattle.journal.specs.DidEvent.{event, did}
use Rattle.book.specs.BookStamps.{IsBookStamp}
use Rattle.book.specs.BookMail.{BookMailCarries, BookMailLets, ComesByBookMail, IsBookMail}
use Rattle.book.proofs.Parts.LastEvents.{last_event_others, last_event_none, last_event_leaves_holder, last_event_count_others, last_event_count_grows, last_event_count_kept}

pub posted_mail_lets : (m : LetterKind) (k : Kind) → BookMailLets m k → ComesByBookMail k
posted_mail_lets grant (Acquire l) h = tt
posted_mail_lets departure Depart h = tt
posted_mail_lets _ _ h = absurd h

-- an event of this kind may let another go on
abbrev pub IsNewsForPostedMail : Kind → Kind → Type 0
IsNewsForPostedMail k (Acquire l) = k ≡ Release l
IsNewsForPostedMail k Depart = k ≡ Arrive
IsNewsForPostedMail k _ = ⊥

pub posted_mail_news_cases : (k a : Kind) → IsNewsForPostedMail k a ⊎ ¬ IsNewsForPostedMail k a
posted_mail_news_cases (Release m) (Acquire l) =
    elim (cases_eq m l) [ inl is ↦ inl (ap (λ x. Release x) is) | inr isnt ↦ inr (λ e. isnt (released e)) ]
  where
    released : Release m ≡ Release l → m ≡ l
    released e = cc
posted_mail_news_cases Arrive Depart = inl refl
posted_mail_news_cases _ (Acquire l) = inr (λ e. absurd cc)
posted_mail_news_cases _ Depart = inr (λ e. absurd cc)
posted_mail_news_cases _ _ = inr (λ e. e)

posted_mail_no_arrival : (k : Kind) → k ≢ Arrive → event_arrives k ≡ false
posted_mail_no_arrival Arrive isnt = absurd (isnt refl)
posted_mail_no_arrival _ isnt = refl

-- the one event is of another kind
pub posted_mail_other_kind : (p : ℕ) (k a : Kind) → k ≢ a → (m : ℕ) (f : Event) → EventAt (event p k ∷ []) m f → f.kind ≢ a
posted_mail_other_kind p k a isnt m f at is =
    elim (slice_push_cases [] (event p k) m f at)
    [ inl old ↦ none-some f old.1 | inr new ↦ isnt (ap (λ x. x.kind) new.1 ∙ is) ]

-- what is kept of the timestamps of events of a kind stays, where another kind is done
pub posted_mail_stamp_kept : (n : ℕ) (h : List Event) (p : ℕ) (k a : Kind) (t : List ℕ) → k ≢ a
    → IsBookStamp n h (InPastOfSome h (BringsFromKind h a)) t
    → IsBookStamp n (did h p k) (InPastOfSome (did h p k) (BringsFromKind (did h p k) a)) t
posted_mail_stamp_kept n h p k a t isnt x =
    record { long = x.long; is = kept_time_of_kind h (event p k ∷ []) a (slice_index t) (posted_mail_other_kind p k a isnt) x.is }

-- what another does
module _ (s : Sizes) (h : List Event) (p : ℕ) (k : Kind) (may : WellFormedNext s h (event p k)) (r : ℕ) (isnt : r ≢ p) where
  -- what a processor is let do it stays allowed to do, whatever others do
  pub posted_mail_allowed_on : (a : Kind) → ComesByBookMail a → WellFormedAllows s h r a → WellFormedAllows s (did h p k) r a
  posted_mail_allowed_on (Acquire l) posted (i, last, granted) =
      (i, last_event_others h p k r i (Ask l) isnt last, record { free = free; first = first })
    where
      both : (m : ℕ) → LastIs h p m (Ask l) → WellFormedGrant h m l → ⊥
      both m mine too = elim (cases_order i m) [
        | inl is ↦ (let P : ℕ → Type 0 = λ x. EventAt h x (event p (Ask l)) in
            isnt (event_place_does_same h i r p (Ask l) (Ask l) last.does (subst P (sym is) mine.does)).0)
        | inr apart ↦ elim apart [ inl lt ↦ too.first i r lt last | inr lt ↦ granted.first m p lt mine ]
      ]

      taken : WellFormedAllows s h p (Acquire l) → ⊥
      taken x = both x.0 x.1 x.2

      free : (q : ℕ) → ¬ Holds (did h p k) q l
      free q held = elim (well_formed_stays_holds_cases h (event p k) q l held) [
        | inl old ↦ granted.free q old.0
        | inr new ↦ taken (subst (λ b. WellFormedAllows s h p b) (ap (λ e. e.kind) new) may.allowed)
      ]

      first : (m q : ℕ) → m < i → ¬ LastIs (did h p k) q m (Ask l)
      first m q lt ask = elim (well_formed_stays_last_cases h (event p k) q m (Ask l) ask) [
        | inl own ↦ (let within = event_place_inside h i (record { processor = r; kind = Ask l }) last.does in
            absurd (omega (arith, own.1)))
        | inr old ↦ granted.first m q lt old.1
      ]
  posted_mail_allowed_on Depart posted (i, last, all) = (
    i,
    last_event_others h p k r i Arrive isnt last,
    λ q lt. (let one = all q lt in let same = last_event_count_others event_departs h p k r isnt in
        let more = last_event_count_grows event_arrives h p k q in omega arith),
  )
  posted_mail_allowed_on _ posted allowed = absurd posted

  -- nor do others change what that brings
  posted_mail_brings_on : (a : Kind) (t : List ℕ) → ComesByBookMail a → WellFormedAllows s h r a → IsBookStamp s.processors h (Brings h r a) t
      → IsBookStamp s.processors (did h p k) (Brings (did h p k) r a) t
  posted_mail_brings_on (Acquire l) t posted (i, last, granted) x =
      posted_mail_stamp_kept s.processors h p k (Release l) t
      (λ e. granted.free p (subst (λ b. WellFormedAllows s h p b) e may.allowed)) x
  posted_mail_brings_on Depart t posted (i, last, all) x =
      record {
        long = x.long;
        is = subst (λ n. IsTimeIn (did h p k) (InPastOfSome (did h p k) (BringsFromSomeArrival (did h p k) n)) (slice_index t))
            (sym (last_event_count_others event_departs h p k r isnt))
            (kept_time_other_arrivals h (event p k) (event_count event_departs h r) (slice_index t)
            (λ e. (let one = all p may.processor in absurd (omega arith))) x.is);
      }
  posted_mail_brings_on _ t posted allowed x = absurd posted

  -- what is allowed after an event that is no news was so before
  pub posted_mail_allowed_back : (a : Kind) → ComesByBookMail a → ¬ IsNewsForPostedMail k a → WellFormedAllows s (did h p k) r a → WellFormedAllows s h r a
  posted_mail_allowed_back (Acquire l) posted none (i, last, granted) =
      (i, old, record { free = λ q held. granted.free q (last_event_leaves_holder h p k q l none held); first = first })
    where
      old : LastIs h r i (Ask l)
      old = elim (well_formed_stays_last_cases h (event p k) r i (Ask l) last) [ inl own ↦ absurd (isnt (sym own.0)) | inr o ↦ o.1 ]

      first : (m q : ℕ) → m < i → ¬ LastIs h q m (Ask l)
      first m q lt ask = elim (cases_eq q p) [
        | inl is ↦ (
            let P : ℕ → Type 0 = λ x. LastIs h x m (Ask l) in
            let acquires : k ≡ Acquire l = may.answers m (Ask l) (subst P is ask) in
            granted.free p (subst (λ b. Holds (did h p b) p l) (sym acquires) (well_formed_stays_holds_now h p l)))
        | inr apart ↦ granted.first m q lt (last_event_others h p k q m (Ask l) apart ask)
      ]
  posted_mail_allowed_back Depart posted none (i, last, all) = (
    i,
    old,
    λ q lt.
        (let one = all q lt in let same = last_event_count_others event_departs h p k r isnt in
        let too = last_event_count_kept event_arrives h p k q (posted_mail_no_arrival k none) in omega arith),
  )
    where
      old : LastIs h r i Arrive
      old = elim (well_formed_stays_last_cases h (event p k) r i Arrive last) [ inl own ↦ absurd (isnt (sym own.0)) | inr o ↦ o.1 ]
  posted_mail_allowed_back _ posted none allowed = absurd posted

  -- another's message stays right
  pub posted_mail_stays : (m : Letter) → BookMailCarries s h r m → BookMailCarries s (did h p k) r m
  posted_mail_stays m mail =
      let posted = posted_mail_lets m.kind mail.kind mail.lets in
      record {
        kind = mail.kind;
        lets = mail.lets;
        allowed = posted_mail_allowed_on mail.kind posted mail.allowed;
        time = posted_mail_brings_on mail.kind m.time posted mail.allowed mail.time;
      }

  -- and stays away unless the event brings news
  pub posted_mail_unless : (o : Option Letter) → ((a : Kind) → ComesByBookMail a → IsNewsForPostedMail k a → ¬ WellFormedAllows s (did h p k) r a)
      → IsBookMail s h r o → IsBookMail s (did h p k) r o
  posted_mail_unless None never mail =
      λ a posted allowed. elim (posted_mail_news_cases k a) [
        | inl news ↦ never a posted news allowed
        | inr none ↦ mail a posted (posted_mail_allowed_back a posted none allowed)
      ]
  posted_mail_unless (Some m) never mail = posted_mail_stays m mail

  pub posted_mail_kept : (o : Option Letter) → ((l : ℕ) → k ≢ Release l) → k ≢ Arrive → IsBookMail s h r o
      → IsBookMail s (did h p k) r o
  posted_mail_kept o release arrive mail = posted_mail_unless o none mail
    where
      none : (a : Kind) → ComesByBookMail a → IsNewsForPostedMail k a → ¬ WellFormedAllows s (did h p k) r a
      none (Acquire l) posted news allowed = release l news
      none Depart posted news allowed = arrive news
      none _ posted news allowed = absurd posted

-- who is idle has no message
pub idle_allowed_no_posted_mail : (s : Sizes) (h : List Event) (p : ℕ) (a : Kind) → AwaitsNothingNext h p → ComesByBookMail a → ¬ WellFormedAllows s h p a
idle_allowed_no_posted_mail s h p (Acquire l) idle posted allowed = absurd (cc (idle allowed.0 (Ask l) allowed.1))
idle_allowed_no_posted_mail s h p Depart idle posted allowed = absurd (cc (idle allowed.0 Arrive allowed.1))
idle_allowed_no_posted_mail s h p _ idle posted allowed = absurd posted

-- nor has anyone who may take none
pub no_posted_mail : (s : Sizes) (h : List Event) (p : ℕ) (o : Option Letter)
    → ((a : Kind) → ComesByBookMail a → ¬ WellFormedAllows s h p a) → IsBookMail s h p o → None ≡ o
no_posted_mail s h p None never mail = refl
no_posted_mail s h p (Some m) never mail = absurd (never mail.kind (posted_mail_lets m.kind mail.kind mail.lets) mail.allowed)

pub idle_posted_mail : (s : Sizes) (h : List Event) (p : ℕ) (o : Option Letter) → AwaitsNothingNext h p → IsBookMail s h p o → None ≡ o
idle_posted_mail s h p o idle mail = no_posted_mail s h p o (λ a posted. idle_allowed_no_posted_mail s h p a idle posted) mail

-- who neither asked nor arrived last has none
pub own_posted_mail_none : (s : Sizes) (h : List Event) (p : ℕ) (k : Kind) → ((l : ℕ) → k ≢ Ask l) → k ≢ Arrive
    → IsBookMail s (did h p k) p None
own_posted_mail_none s h p k ask arrive (Acquire l) posted allowed = last_event_none h p k allowed.0 (Ask l) (ask l) allowed.1
own_posted_mail_none s h p k ask arrive Depart posted allowed = last_event_none h p k allowed.0 Arrive arrive allowed.1
own_posted_mail_none s h p k ask arrive _ posted allowed = absurd posted

pub own_posted_mail_idle : (s : Sizes) (h : List Event) (p : ℕ) (k : Kind) (o : Option Letter) → AwaitsNothingNext h p
    → ((l : ℕ) → k ≢ Ask l) → k ≢ Arrive → IsBookMail s h p o → IsBookMail s (did h p k) p o
own_posted_mail_idle s h p k o idle ask arrive mail =
    subst (λ x. IsBookMail s (did h p k) p x) (idle_posted_mail s h p o idle mail) (own_posted_mail_none s h p k ask arrive)
