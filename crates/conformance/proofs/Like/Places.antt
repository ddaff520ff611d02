-- Histories that are alike: what stands at a place, and how many events of a kind stand before it.
use Rattle.std.proofs.Common.{ℕ, ◌≡◌, ◌+◌, List, [], ◌∷◌, Bool, true, false, cond, Option, Some, None, map, take, slice_get, refl, sym, ap, ap₂, ◌∙◌}
use Rattle.std.specs.Prelude.{◌==◌, ◌&&◌, option_map}
use Rattle.std.proofs.lemmas.Bool.{false≢true}
use Rattle.std.proofs.lemmas.List.{take-map}
use Rattle.std.proofs.lemmas.Option.{slice_get-map, same_Some, none-some}
use Rattle.journal.specs.declared.event.Event.{Event}
use Rattle.journal.specs.declared.event.Kind.{Kind}
use Rattle.journal.specs.declared.event.Kind.TheVariants.{Load, Store}
use Rattle.journal.specs.DidEvent.{event}
use Rattle.journal.specs.Events.{EventAt, event_count, event_arrives, event_departs}
use Rattle.journal.specs.WellFormed.{Does}
use Rattle.journal.proofs.Order.EventPlacesAndCounts.{event_count-append}
use Rattle.conformance.specs.Like.{like_without_value, event_like_without_value, SameButValues}

-- whether a kind has a value
abbrev pub like_place_has_value : Kind → Bool
like_place_has_value (Load a v) = true
like_place_has_value (Store a v) = true
like_place_has_value k = false

-- what is like a kind without a value is that kind
pub like_place_exact : (k c : Kind) → like_without_value k ≡ like_without_value c → like_place_has_value c ≡ false → k ≡ c
like_place_exact k c same none = back k (same ∙ plain c none)
  where
    plain : (x : Kind) → like_place_has_value x ≡ false → like_without_value x ≡ x
    plain (Load a v) h = absurd (false≢true (sym h))
    plain (Store a v) h = absurd (false≢true (sym h))
    plain _ h = refl

    back : (x : Kind) → like_without_value x ≡ c → x ≡ c
    back (Load a v) e = absurd (false≢true (sym none ∙ ap like_place_has_value (sym e)))
    back (Store a v) e = absurd (false≢true (sym none ∙ ap like_place_has_value (sym e)))
    back _ e = e

-- two events are the same but for their values
pub record AreLikeEventsAtPlace (e f : Event) : Type 0 where
  pub processors : e.processor ≡ f.processor
  pub kinds : like_without_value e.kind ≡ like_without_value f.kind

-- at the same place of histories that are alike
pub record LikeAtPlace (g : List Event) (i : ℕ) (e : Event) : Type 0 where
  pub event : Event
  pub at : EventAt g i event
  pub like : AreLikeEventsAtPlace e event

-- an event of the one history has its like in the other
pub like_place_at : (h g : List Event) (i : ℕ) (e : Event) → SameButValues h g → EventAt h i e → LikeAtPlace g i e
like_place_at h g i e like at =
    let there : option_map event_like_without_value (slice_get g i) ≡ Some (event_like_without_value e) =
    sym (slice_get-map event_like_without_value g i) ∙ ap (λ es. slice_get es i) (sym like)
    ∙ slice_get-map event_like_without_value h i ∙ ap (option_map event_like_without_value) at in
    found (slice_get g i) refl there
  where
    found : (o : Option Event) → slice_get g i ≡ o → option_map event_like_without_value o ≡ Some (event_like_without_value e) → LikeAtPlace g i e
    found None here is = absurd (none-some (event_like_without_value e) is)
    found (Some f) here is =
        let same : event_like_without_value f ≡ event_like_without_value e = same_Some (event_like_without_value f) (event_like_without_value e) is in
        record {
          event = f;
          at = here;
          like = record {
            processors = sym (ap (λ (x : Event). x.processor) same);
            kinds =
                sym (ap (λ (x : Event). x.kind) same);
          };
        }

-- so what has no value is done in both
pub like_place_does : (h g : List Event) (i p : ℕ) (k : Kind) → SameButValues h g → like_place_has_value k ≡ false → Does h i p k → Does g i p k
like_place_does h g i p k like none does =
    let l = like_place_at h g i (event p k) like does in
    let kind : l.event.kind ≡ k = like_place_exact l.event.kind k (sym l.like.kinds) none in
    let same : l.event ≡ event p k = ap₂ event (sym l.like.processors) kind in
    l.at ∙ ap Some same

-- fronts of histories that are alike are alike
pub like_place_front : (h g : List Event) (i : ℕ) → SameButValues h g → SameButValues (take i h) (take i g)
like_place_front h g i like = sym (take-map event_like_without_value i h) ∙ ap (take i) like ∙ take-map event_like_without_value i g

-- as many events of a kind, where the kind doesn't tell values apart
pub like_place_count : (is : Kind → Bool) (h g : List Event) (p : ℕ) → ((k : Kind) → is (like_without_value k) ≡ is k) → SameButValues h g
    → event_count is h p ≡ event_count is g p
like_place_count is h g p same like = sym (valueless_count h) ∙ ap (λ (es : List Event). event_count is es p) like
    ∙ valueless_count g
  where
    valueless_count : (es : List Event) → event_count is (map event_like_without_value es) p ≡ event_count is es p
    valueless_count [] = refl
    valueless_count (e ∷ es) =
        let one : Bool → ℕ = λ b. 0 + cond ((e.processor == p) && b) 1 0 in
        event_count-append is (event_like_without_value e ∷ []) (map event_like_without_value es) p
        ∙ ap (λ (n : ℕ). one (is (like_without_value e.kind)) + n) (valueless_count es)
        ∙ ap (λ b. one b + event_count is es p) (same e.kind) ∙ sym (event_count-append is (e ∷ []) es p)

pub like_place_arrive_valueless : (k : Kind) → event_arrives (like_without_value k) ≡ event_arrives k
like_place_arrive_valueless (Load a v) = refl
like_place_arrive_valueless (Store a v) = refl
like_place_arrive_valueless _ = refl

pub like_place_depart_valueless : (k : Kind) → event_departs (like_without_value k) ≡ event_departs k
like_place_depart_valueless (Load a v) = refl
like_place_depart_valueless (Store a v) = refl
like_place_depart_valueless _ = refl
