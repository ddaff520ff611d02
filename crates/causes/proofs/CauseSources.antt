-- Which of the latest stores a load answers.
use Rattle.std.proofs.Common.{◌≡◌, ◌≢◌, ℕ, ◌+◌, ◌<◌, inl, inr, List, [], ◌∷◌, ◌++◌, Option, Some, length, slice_get, slice_index_or, subst, sym, refl, ap, ◌∙◌, arith}
use Rattle.std.specs.Prelude.{None}
use Rattle.std.proofs.lemmas.Bool.{cases_eq}
use Rattle.std.proofs.lemmas.Option.{same_Some, slice_get_within, slice_get-get_or}
use Rattle.base.specs.InOrderOnce.{Has}
use Rattle.journal.specs.declared.event.Event.{Event}
use Rattle.journal.specs.declared.event.Kind.TheVariants.{Load, Store}
use Rattle.journal.specs.DidEvent.{event}
use Rattle.journal.specs.Events.{EventAt}
use Rattle.journal.specs.ExplainedAnswers.{IsAnswer, LatestExplainedAnswer, UntouchedExplainedAnswer}
use Rattle.journal.specs.WellFormed.{Does}
use Rattle.journal.proofs.Order.EventPlacesAndCounts.{event_place_inside, event_place_same, event_place_does_same}
use Rattle.judge.specs.Sources.Latest.{AreLatest, IsLatest}
use Rattle.judge.proofs.sources.Answering.{answering_law, answering_untouched}
use Rattle.causes.specs.declared.origin.WordOrigin.{WordOrigin}
use Rattle.causes.specs.declared.source.Source.{Source}
use Rattle.causes.specs.declared.source.Source.TheVariants.{StoreAt}
use Rattle.causes.specs.Origins.{IsOriginOneOf, AreOriginsNamed, IsOriginNamed, IsOriginNamedAt}
use Rattle.causes.specs.Source.{HasSource, IsSource, IsSourceAt}
use Rattle.causes.proofs.Rows.{rows_next}

-- the event at place i stores v
abbrev pub IsCauseSourceStore : List Event → ℕ → ℕ → Type 0
IsCauseSourceStore j i v = (e : Event) × EventAt j i e × ((a : ℕ) × (e.kind ≡ Store a v))

-- none of the first n places has a store of v
abbrev pub NoCauseSourceStores : List Event → List ℕ → ℕ → ℕ → Type 0
NoCauseSourceStores j places n v =
    (m i : ℕ) (e : Event) → m < n → slice_get places m ≡ Some i → EventAt j i e → (a : ℕ) → e.kind ≢ Store a v

cause_source_stored_same : (a v b w : ℕ) → Store a v ≡ Store b w → v ≡ w
cause_source_stored_same a v b w is = cc

cause_source_address_same : (a v b w : ℕ) → Load a v ≡ Load b w → a ≡ b
cause_source_address_same a v b w is = cc

cause_source_load_same : (a v b w : ℕ) → Load a v ≡ Load b w → v ≡ w
cause_source_load_same a v b w is = cc

-- a latest store's event stands at its place
pub cause_source_stands : (j : List Event) (k a q i : ℕ) (x : IsLatest j k a q i) → EventAt j i (event x.store.by (Store a x.value))
cause_source_stands j k a q i x = subst (λ n. EventAt j n (event x.store.by (Store a x.value))) x.place x.store.stores

-- each of the places is one of the journal
pub cause_source_place_within : (j : List Event) (k a m i : ℕ) (places : List ℕ) → AreLatest j k a places
    → slice_get places m ≡ Some i → i < length j
cause_source_place_within j k a m i places are at =
    let x = (are.has i).0 (m, at) in
    event_place_inside j i (event x.1.store.by (Store a x.1.value)) (cause_source_stands j k a x.0 i x.1)

-- a place of these whose event stores v is the source
pub cause_source_found : (j : List Event) (k a v i : ℕ) (places : List ℕ) → AreLatest j k a places → Has places i
    → IsCauseSourceStore j i v → IsSource j k a v (StoreAt i)
cause_source_found j k a v i places are has stores =
    let y = (are.has i).0 has in
    let x = y.1 in
    let stands = cause_source_stands j k a y.0 i x in
    let same = event_place_same j i (event x.store.by (Store a x.value)) stores.0 stands stores.1 in
    let value = cause_source_stored_same a x.value stores.2.0 v (ap (λ (z : Event). z.kind) same ∙ stores.2.1) in
    subst (λ w. (s : LatestExplainedAnswer j k a w) × (s.place ≡ i)) value (x.store, x.place)

-- where there is no place, nothing was stored before the load
pub cause_source_is_nothing : (j : List Event) (k a : ℕ) (places : List ℕ) → AreLatest j k a places → length places ≡ 0
    → UntouchedExplainedAnswer j k a
cause_source_is_nothing j k a places are none = answering_untouched j k a (λ q i x.
    let at = (are.has i).1 (q, x) in
    let lt = slice_get_within places at.0 i at.1 in
    omega arith)

-- where no place has a store of v, and there are places or v isn't 0, no load may answer v
pub cause_source_unexplained : (j : List Event) (k a v : ℕ) (places : List ℕ) → AreLatest j k a places
    → NoCauseSourceStores j places (length places) v → (length places ≡ 0 → v ≢ 0) → ¬ IsAnswer j k a v
cause_source_unexplained j k a v places are none some answer = elim ((answering_law j k a v).0 answer) [
  | inl x ↦ some (empty x.1) x.0
  | inr x ↦
      (let at = (are.has x.1).1 (x.0, x.2) in
      none at.0 x.1 (event x.0 (Store a v)) (slice_get_within places at.0 x.1 at.1) at.1 x.3 a refl)
]
  where
    empty : ((q i : ℕ) → ¬ IsLatest j k a q i) → length places ≡ 0
    empty free = elim (cases_eq (length places) 0) [
      | inl is ↦ is
      | inr isnt ↦
          (let at = slice_get-get_or places 0 0 (omega arith) in
          let x = (are.has (slice_index_or places 0 0)).0 (0, at) in
          absurd (free x.0 (slice_index_or places 0 0) x.1))
    ]

-- the origin's store is the source, where it is one of the places and stored v
pub cause_source_origin_found : (j : List Event) (k a v i : ℕ) (origin : Option WordOrigin) (places : List ℕ) → AreLatest j k a places
    → IsOriginOneOf j places v origin i → IsSource j k a v (StoreAt i) × IsOriginNamed j k a v origin (StoreAt i)
cause_source_origin_found j k a v i origin places are x = (
  cause_source_found j k a v i places are x.among x.stores,
  λ y is l place.
      (let same : x.origin_is ≡ y = same_Some x.origin_is y (sym x.is ∙ is) in
      ap (λ (n : ℕ). StoreAt n) (sym x.store ∙ ap (λ (z : WordOrigin). z.store) same)),
)

-- where it is none of these, the load may not answer it
pub cause_source_origin_others : (j : List Event) (k a v : ℕ) (origin : Option WordOrigin) (places : List ℕ) (s : Source)
    → AreLatest j k a places → ((i : ℕ) → ¬ IsOriginOneOf j places v origin i) → IsOriginNamed j k a v origin s
cause_source_origin_others j k a v origin places s are none x is l place =
    absurd (none x.store (record {
      origin_is = x;
      is = is;
      store = refl;
      among = (are.has x.store).1 (l.by, record { value = v; store = l; place = place; by = refl });
      stores = (event l.by (Store a v), subst (λ n. EventAt j n (event l.by (Store a v))) place l.stores, (a, refl));
    }))

-- what the event e at place k loads is loaded there
pub cause_source_loads : (j : List Event) (k a v : ℕ) (e : Event) → EventAt j k e → e.kind ≡ Load a v → Does j k e.processor (Load a v)
cause_source_loads j k a v e at is = subst (λ kind. EventAt j k (event e.processor kind)) is at

-- the source of a load names the origin
pub cause_source_origin_in : (j : List Event) (k p a v : ℕ) (origin : Option WordOrigin) (s : Source) → Does j k p (Load a v)
    → IsOriginNamed j k a v origin s → IsOriginNamedAt j k origin (Some s)
cause_source_origin_in j k p a v origin s here names q b w x does some =
    let same = (event_place_does_same j k p q (Load a v) (Load b w) here does).1 in
    subst (IsOriginNamed j k b w origin) (same_Some s x some)
    (subst (λ c. IsOriginNamed j k c w origin s) (cause_source_address_same a v b w same)
    (subst (λ c. IsOriginNamed j k a c origin s) (cause_source_load_same a v b w same) names))

-- an event that is no load names none
pub cause_source_origin_out : (j : List Event) (k : ℕ) (origin : Option WordOrigin) → IsOriginNamedAt j k origin None
cause_source_origin_out j k origin p a v x does some = absurd (none_is x some)
  where
    none_is : (y : Source) → None ≡ Some y → ⊥
    none_is y is = cc

-- one event more
pub cause_source_named_next : (j : List Event) (origins : List (Option WordOrigin)) (rows : List (Option Source)) (n : ℕ)
    → (o : Option Source) → length rows ≡ n → AreOriginsNamed j origins rows
    → ((x : Option WordOrigin) → slice_get origins n ≡ Some x → IsOriginNamedAt j n x o) → AreOriginsNamed j origins (rows ++ o ∷ [])
cause_source_named_next j origins rows n o long are now k x source there to =
    rows_next (λ (m : ℕ) (y : Option Source). (z : Option WordOrigin) → slice_get origins m ≡ Some z → IsOriginNamedAt j m z y)
    rows n o long (λ m y at z here. are m z y here at) now k source to x there

-- a place more
pub cause_source_none_next : (j : List Event) (places : List ℕ) (n v i : ℕ) → slice_get places n ≡ Some i
    → ¬ IsCauseSourceStore j i v → NoCauseSourceStores j places n v → NoCauseSourceStores j places (n + 1) v
cause_source_none_next j places n v i at away before m l f lt to there a is = elim (cases_eq m n) [
  | inl same ↦
      (let one : i ≡ l = same_Some i l (sym at ∙ sym (ap (slice_get places) same) ∙ to) in
      away (f, subst (λ x. EventAt j x f) (sym one) there, (a, is)))
  | inr isnt ↦ before m l f (omega arith) to there a is
]

-- the source of a load is that of its event
pub cause_source_in_load : (j : List Event) (k p a v : ℕ) (s : Source) → Does j k p (Load a v) → IsSource j k a v s
    → IsSourceAt j k (Some s)
cause_source_in_load j k p a v s here tells = record { loads = loads; others = λ none. absurd (none p a v here) }
  where
    loads : (q b w : ℕ) → Does j k q (Load b w) → HasSource j k b w (Some s)
    loads q b w does =
        let same = (event_place_does_same j k p q (Load a v) (Load b w) here does).1 in
        record {
          source = s;
          is = refl;
          tells =
              subst (λ x. IsSource j k x w s) (cause_source_address_same a v b w same)
              (subst (λ x. IsSource j k a x s) (cause_source_load_same a v b w same) tells);
        }
