-- What is put behind the open beginnings, event by event.
use Rattle.std.proofs.Common.{ℕ, zero, suc, ◌≡◌, ◌≢◌, ◌+◌, ◌<◌, ◌↔◌, inl, inr, List, [], ◌∷◌, ◌++◌, Option, Some, map, slice_get, slice_index_or, take, refl, sym, ap, ap₂, subst, ◌∙◌, append_assoc, append-nil, add-one, arith}
use Rattle.std.specs.Prelude.{None}
use Rattle.std.proofs.lemmas.Bool.{cases_eq}
use Rattle.std.proofs.lemmas.List.{map-append}
use Rattle.std.proofs.lemmas.Option.{none-some, same_Some}
use Rattle.base.specs.InOrderOnce.{Has, IsOnce}
use Rattle.base.proofs.JoinedLists.{joined_list_has-append, joined_list_has-cons, joined_list_has-nil, joined_list_has-map, joined_list_in_order-append, joined_list_in_order_single}
use Rattle.base.proofs.SlicesAndCounts.{slice_take-suc_at}
use Rattle.journal.specs.declared.event.Event.{Event}
use Rattle.journal.specs.declared.event.Kind.{Kind}
use Rattle.journal.specs.declared.event.Kind.TheVariants as kind
use Rattle.journal.specs.DidEvent.{did, event}
use Rattle.lrc_script.specs.Plan.{Plan}
use Rattle.explore.specs.declared.rules.beginning.AllowedBeginning.{AllowedBeginning}
use Rattle.explore.specs.AllowedRuns.{IsAllowedRunBeginning}
use Rattle.explore.specs.AllowedBeginnings.{AreAllowedBeginningCallsFollowed, AreAllowedBeginningEventsChosen, AreAllowedBeginningsPutBehind, IsAllowedBeginningCallFollowed, IsAllowedBeginningEventChosen, IsAllowedBeginningEventOfCall, TellsAllowedBeginning, allowed_beginning_events}
use Rattle.explore.specs.Prefixes.ScriptCalls.{replyless_script_call}

-- nothing is put behind them
pub lengthened_start : (s : Plan) (g : List Event) (xs : List AllowedBeginning) → AreAllowedBeginningsPutBehind s g [] xs xs
lengthened_start s g xs = record {
  more = [];
  behind = sym (append-nil xs);
  known = λ b has. absurd (joined_list_has-nil b has);
  are = refl;
}

-- some, and then more
pub lengthened_on : (s : Plan) (g : List Event) (es fs : List Event) (xs ys zs : List AllowedBeginning) → AreAllowedBeginningsPutBehind s g es xs ys
    → AreAllowedBeginningsPutBehind s g fs ys zs → AreAllowedBeginningsPutBehind s g (es ++ fs) xs zs
lengthened_on s g es fs xs ys zs one two = record {
  more = one.more ++ two.more;
  behind = two.behind ∙ ap (λ (bs : List AllowedBeginning). bs ++ two.more) one.behind ∙ append_assoc xs one.more two.more;
  known = λ b has. elim ((joined_list_has-append one.more two.more b).0 has) [ inl was ↦ one.known b was | inr now ↦ two.known b now ];
  are =
      map-append allowed_beginning_events one.more two.more
      ∙ ap₂ (λ (is js : List (List Event)). is ++ js) one.are two.are
      ∙ sym (map-append (λ (e : Event). g ++ e ∷ []) es fs);
}

-- one
pub lengthened_one : (s : Plan) (g : List Event) (e : Event) (b : AllowedBeginning) (xs ys : List AllowedBeginning) → ys ≡ xs ++ b ∷ []
    → TellsAllowedBeginning s b → allowed_beginning_events b ≡ g ++ e ∷ [] → AreAllowedBeginningsPutBehind s g (e ∷ []) xs ys
lengthened_one s g e b xs ys behind known is = record {
  more = b ∷ [];
  behind = behind;
  known = λ other has. elim ((joined_list_has-cons b [] other).0 has) [
    | inl own ↦ subst (TellsAllowedBeginning s) own known
    | inr none ↦ absurd (joined_list_has-nil other none)
  ];
  are = ap (λ (h : List Event). h ∷ []) is;
}

-- loads with these replies
abbrev pub lengthened_load_event : ℕ → ℕ → ℕ → Event
lengthened_load_event p a v = event p (kind.Load a v)

abbrev pub AreLengthenedByLoads : Plan → List Event → ℕ → ℕ → List ℕ → List AllowedBeginning → List AllowedBeginning → Type 0
AreLengthenedByLoads s g p a words xs ys = AreAllowedBeginningsPutBehind s g (map (lengthened_load_event p a) words) xs ys

pub lengthened_by_loads_next : (s : Plan) (g : List Event) (p a : ℕ) (words : List ℕ) (n v : ℕ) (xs ys zs : List AllowedBeginning)
    → slice_get words n ≡ Some v → AreLengthenedByLoads s g p a (take n words) xs ys
    → AreAllowedBeginningsPutBehind s g (lengthened_load_event p a v ∷ []) ys zs → AreLengthenedByLoads s g p a (take (n + 1) words) xs zs
lengthened_by_loads_next s g p a words n v xs ys zs at old one =
    let is : map (lengthened_load_event p a) (take (n + 1) words) ≡ map (lengthened_load_event p a) (take n words) ++ lengthened_load_event p a v ∷ [] =
    rw (add-one, slice_take-suc_at words n v at) (map-append (lengthened_load_event p a) (take n words) (v ∷ [])) in
    subst (λ es. AreAllowedBeginningsPutBehind s g es xs zs) (sym is) (lengthened_on s g (map (lengthened_load_event p a) (take n words)) (lengthened_load_event p a v ∷ []) xs ys zs old one)

-- what a load says without its reply
lengthened_load_of_call : (k : Kind) (a : ℕ) → replyless_script_call k ≡ kind.Load a 0 → (v : ℕ) × (k ≡ kind.Load a v)
lengthened_load_of_call (kind.Load b v) a is = let same : b ≡ a = cc in (v, ap (λ x. kind.Load x v) same)
lengthened_load_of_call _ a is = absurd cc

-- an event is that of its processor and kind
pub lengthened_event_same : (e : Event) (p : ℕ) (k : Kind) → e.processor ≡ p → e.kind ≡ k → event p k ≡ e
lengthened_event_same e p k one two = ap₂ (λ q c. event q c) (sym one) (sym two)

lengthened_loads_once : (p a : ℕ) (words : List ℕ) → IsOnce words → IsOnce (map (lengthened_load_event p a) words)
lengthened_loads_once p a words once i k x y lt at_x at_y same =
    let one = (joined_list_has-map (lengthened_load_event p a) words x).0 (i, at_x) in
    let two = (joined_list_has-map (lengthened_load_event p a) words y).0 (k, at_y) in
    load_once_at p a words i k x y once lt at_x at_y same
  where
    load_at : (p a : ℕ) (words : List ℕ) (i : ℕ) (x : Event) → slice_get (map (lengthened_load_event p a) words) i ≡ Some x
        → (v : ℕ) × (slice_get words i ≡ Some v) × (lengthened_load_event p a v ≡ x)
    load_at p a [] i x at = absurd (none-some x at)
    load_at p a (v ∷ words) zero x at = (v, refl, same_Some (lengthened_load_event p a v) x at)
    load_at p a (v ∷ words) (suc i) x at = load_at p a words i x at

    word_same : (p a v w : ℕ) → lengthened_load_event p a v ≡ lengthened_load_event p a w → v ≡ w
    word_same p a v w is = let kinds : kind.Load a v ≡ kind.Load a w = ap (λ (e : Event). e.kind) is in cc

    load_once_at : (p a : ℕ) (words : List ℕ) (i k : ℕ) (x y : Event) → IsOnce words → i < k
        → slice_get (map (lengthened_load_event p a) words) i ≡ Some x → slice_get (map (lengthened_load_event p a) words) k ≡ Some y → x ≢ y
    load_once_at p a words i k x y once lt at_x at_y same =
        let one = load_at p a words i x at_x in
        let two = load_at p a words k y at_y in
        once i k one.0 two.0 lt one.1 two.1 (word_same p a one.0 two.0 (one.2 ∙ same ∙ sym two.2))

-- all loads of p's next call
pub lengthened_by_loads_all : (s : Plan) (g : List Event) (p a : ℕ) (words : List ℕ) (xs ys : List AllowedBeginning)
    → IsOnce words → ((v : ℕ) → Has words v ↔ IsAllowedRunBeginning s (g ++ lengthened_load_event p a v ∷ []))
    → AreLengthenedByLoads s g p a words xs ys → IsAllowedBeginningCallFollowed s g p (kind.Load a 0) xs ys
lengthened_by_loads_all s g p a words xs ys once each followed = record {
  events = map (lengthened_load_event p a) words;
  chosen = record { once = lengthened_loads_once p a words once; each = λ e. (there e, back e) };
  lengthened = followed;
}
  where
    there : (e : Event) → Has (map (lengthened_load_event p a) words) e → IsAllowedBeginningEventOfCall s g p (kind.Load a 0) e
    there e has =
        let one = (joined_list_has-map (lengthened_load_event p a) words e).0 has in
        subst (IsAllowedBeginningEventOfCall s g p (kind.Load a 0)) one.2 (record { mine = refl; call_is = refl; next = (each one.0).0 one.1 })

    back : (e : Event) → IsAllowedBeginningEventOfCall s g p (kind.Load a 0) e → Has (map (lengthened_load_event p a) words) e
    back e is =
        let load = lengthened_load_of_call e.kind a is.call_is in
        let same = lengthened_event_same e p (kind.Load a load.0) is.mine load.1 in
        (joined_list_has-map (lengthened_load_event p a) words e).1 (load.0, (each load.0).1 (subst (λ x. IsAllowedRunBeginning s (g ++ x ∷ [])) (sym same) is.next), same)

-- a call that is no load is one event
lengthened_other_of_call : (k call : Kind) → ((a v : ℕ) → call ≢ kind.Load a v) → replyless_script_call k ≡ call → k ≡ call
lengthened_other_of_call (kind.Load a v) call other is = absurd (other a 0 (sym is))
lengthened_other_of_call _ call other is = is

pub lengthened_by_other_call : (s : Plan) (g : List Event) (p : ℕ) (call : Kind) (b : AllowedBeginning) (xs ys : List AllowedBeginning)
    → ((a v : ℕ) → call ≢ kind.Load a v) → replyless_script_call call ≡ call → IsAllowedRunBeginning s (did g p call) → ys ≡ xs ++ b ∷ []
    → TellsAllowedBeginning s b → allowed_beginning_events b ≡ did g p call → IsAllowedBeginningCallFollowed s g p call xs ys
lengthened_by_other_call s g p call b xs ys other plain next behind known is = record {
  events = event p call ∷ [];
  chosen = record {
    once = joined_list_in_order_single (λ (e f : Event). e ≢ f) (event p call);
    each = λ e. (
      (λ has. elim ((joined_list_has-cons (event p call) [] e).0 has) [
        | inl own ↦ subst (IsAllowedBeginningEventOfCall s g p call) own (record { mine = refl; call_is = plain; next = next })
        | inr none ↦ absurd (joined_list_has-nil e none)
      ]),
      (λ one. (joined_list_has-cons (event p call) [] e).1 (inl (lengthened_event_same e p call one.mine (lengthened_other_of_call e.kind call other one.call_is)))),
    );
  };
  lengthened = lengthened_one s g (event p call) b xs ys behind known is;
}

-- the chosen calls of processors below n
pub record IsLengthenedBelow (s : Plan) (g : List Event) (calls : List (Option Kind)) (n : ℕ) (e : Event) : Type 0 where
  pub below : e.processor < n
  pub chosen : IsAllowedBeginningEventChosen s g calls e

pub record AreLengthenedBelow (s : Plan) (g : List Event) (calls : List (Option Kind)) (n : ℕ) (old new : List AllowedBeginning) : Type 0 where
  pub events : List Event
  pub chosen : AreAllowedBeginningEventsChosen (IsLengthenedBelow s g calls n) events
  pub lengthened : AreAllowedBeginningsPutBehind s g events old new

-- n's call is followed
pub lengthened_below_next : (s : Plan) (g : List Event) (calls : List (Option Kind)) (n : ℕ) (call : Kind) (xs ys zs : List AllowedBeginning)
    → slice_index_or calls n None ≡ Some call → AreLengthenedBelow s g calls n xs ys → IsAllowedBeginningCallFollowed s g n call ys zs
    → AreLengthenedBelow s g calls (n + 1) xs zs
lengthened_below_next s g calls n call xs ys zs at old one = record {
  events = old.events ++ one.events;
  chosen = record {
    once =
        joined_list_in_order-append (λ (e f : Event). e ≢ f) old.events one.events old.chosen.once one.chosen.once
        (λ e f here there same.
        let lt = ((old.chosen.each e).0 here).below in
        let mine = ((one.chosen.each f).0 there).mine in
        let both = ap (λ (x : Event). x.processor) same in
        absurd (omega arith));
    each = λ e. (there e, back e);
  };
  lengthened = lengthened_on s g old.events one.events xs ys zs old.lengthened one.lengthened;
}
  where
    there : (e : Event) → Has (old.events ++ one.events) e → IsLengthenedBelow s g calls (n + 1) e
    there e has = elim ((joined_list_has-append old.events one.events e).0 has) [
      | inl was ↦
          (let is = (old.chosen.each e).0 was in
          record { below = (let lt = is.below in omega arith); chosen = is.chosen })
      | inr now ↦
          (let is = (one.chosen.each e).0 now in
          record {
            below = (let mine = is.mine in omega arith);
            chosen = record {
              chosen_at = ap (λ q. slice_index_or calls q None) is.mine ∙ at ∙ ap Some (sym is.call_is);
              next = is.next;
            };
          })
    ]

    back : (e : Event) → IsLengthenedBelow s g calls (n + 1) e → Has (old.events ++ one.events) e
    back e is = (joined_list_has-append old.events one.events e).1 (elim (cases_eq e.processor n) [
      | inl own ↦
          (let here = ap (λ q. slice_index_or calls q None) own in
          inr ((one.chosen.each e).1 (record {
            mine = own;
            call_is = same_Some (replyless_script_call e.kind) call (sym is.chosen.chosen_at ∙ here ∙ at);
            next = is.chosen.next;
          })))
      | inr isnt ↦
          inl ((old.chosen.each e).1 (record { below = (let lt = is.below in omega arith); chosen = is.chosen }))
    ])

-- n has no call
pub lengthened_below_none : (s : Plan) (g : List Event) (calls : List (Option Kind)) (n : ℕ) (xs ys : List AllowedBeginning)
    → ((c : Kind) → slice_index_or calls n None ≢ Some c) → AreLengthenedBelow s g calls n xs ys
    → AreLengthenedBelow s g calls (n + 1) xs ys
lengthened_below_none s g calls n xs ys none old = record {
  events = old.events;
  chosen = record {
    once = old.chosen.once;
    each = λ e. (
      (λ has. let is = (old.chosen.each e).0 has in record { below = (let lt = is.below in omega arith); chosen = is.chosen }),
      (λ is. (old.chosen.each e).1 (record {
        below = elim (cases_eq e.processor n) [
          | inl own ↦ absurd (none (replyless_script_call e.kind) (ap (λ q. slice_index_or calls q None) (sym own) ∙ is.chosen.chosen_at))
          | inr isnt ↦ (let lt = is.below in omega arith)
        ];
        chosen = is.chosen;
      })),
    );
  };
  lengthened = old.lengthened;
}

-- and no call is past the last place
pub lengthened_below_all : (s : Plan) (g : List Event) (calls : List (Option Kind)) (n : ℕ) (xs ys : List AllowedBeginning)
    → ((p : ℕ) (c : Kind) → slice_index_or calls p None ≡ Some c → p < n) → AreLengthenedBelow s g calls n xs ys
    → AreAllowedBeginningCallsFollowed s g calls xs ys
lengthened_below_all s g calls n xs ys within old = record {
  events = old.events;
  chosen = record {
    once = old.chosen.once;
    each = λ e. (
      (λ has. ((old.chosen.each e).0 has).chosen),
      (λ is. (old.chosen.each e).1 (record { below = within e.processor (replyless_script_call e.kind) is.chosen_at; chosen = is })),
    );
  };
  lengthened = old.lengthened;
}
