-- The same calls but for values, noted in open blocks that are the same but for values.
use Rattle.std.proofs.Common.{ℕ, ◌≡◌, inl, inr, Option, Some, None, List, [], ◌∷◌, ◌++◌, Bool, true, false, cond, length, map, refl, sym, ap, ap₂, subst, subst₂, ◌∙◌, append_assoc, append-nil}
use Rattle.std.specs.Prelude.{◌/◌, nat_lt}
use Rattle.std.proofs.lemmas.List.{length-map, map-append}
use Rattle.base.specs.Limits.{most_in_block}
use Rattle.journal.specs.declared.event.Event.{Event}
use Rattle.journal.specs.declared.event.Kind.{Kind}
use Rattle.journal.specs.DidEvent.{event}
use Rattle.journal.specs.Events.{event_address}
use Rattle.journal.specs.Sizes.{Sizes}
use Rattle.conformance.specs.Like.{SameButValues, event_like_without_value, like_without_value}
use Rattle.conformance.specs.OpenBlocks.{OpenBlockNotesAll, OpenBlockNotesAccess, OpenBlockNotesAt, OpenBlock, open_block_handed_in, open_block_noted, open_block}
use Rattle.conformance.specs.SameTurns.{same_turn_calls_valueless}
use Rattle.conformance.proofs.Like.Gaps.{like_gap_fetch_counts_same, like_gap_counts, like_gap_none}
use Rattle.conformance.proofs.Like.Order.{like_order_address}

-- two open blocks are the same but for values
pub record AreLikeNotedBlocks (x y : OpenBlock) : Type 0 where
  pub events : SameButValues x.history y.history
  pub pending : same_turn_calls_valueless x.pending ≡ same_turn_calls_valueless y.pending

-- events of one processor, without values
noted_block_events_valueless : (p : ℕ) (ks : List Kind)
    → map event_like_without_value (map (event p) ks) ≡ map (event p) (same_turn_calls_valueless ks)
noted_block_events_valueless p [] = refl
noted_block_events_valueless p (k ∷ ks) = ap (λ es. event p (like_without_value k) ∷ es) (noted_block_events_valueless p ks)

pub noted_block_events_like : (p : ℕ) (ks ls : List Kind) → same_turn_calls_valueless ks ≡ same_turn_calls_valueless ls
    → SameButValues (map (event p) ks) (map (event p) ls)
noted_block_events_like p ks ls same =
    noted_block_events_valueless p ks ∙ ap (map (event p)) same ∙ sym (noted_block_events_valueless p ls)

pub noted_block_like-append : (a b c d : List Event) → SameButValues a b → SameButValues c d → SameButValues (a ++ c) (b ++ d)
noted_block_like-append a b c d first next =
    map-append event_like_without_value a c ∙ ap₂ (λ xs ys. xs ++ ys) first next ∙ sym (map-append event_like_without_value b d)

-- handed in
pub noted_block_handed_in_like : (p : ℕ) {x y : OpenBlock} → AreLikeNotedBlocks x y → SameButValues (open_block_handed_in p x) (open_block_handed_in p y)
noted_block_handed_in_like p {x = x} {y = y} like =
    noted_block_like-append x.history y.history (map (event p) x.pending) (map (event p) y.pending) like.events
    (noted_block_events_like p x.pending y.pending like.pending)

-- with one more in them, by whether there is room
abbrev noted_block_if_room : ℕ → Kind → OpenBlock → Bool → OpenBlock
noted_block_if_room p k x b = cond b (open_block x.history (x.pending ++ k ∷ [])) (open_block (open_block_handed_in p x) (k ∷ []))

noted_block_like : (p : ℕ) (k l : Kind) {x y : OpenBlock} → like_without_value k ≡ like_without_value l → AreLikeNotedBlocks x y
    → AreLikeNotedBlocks (open_block_noted p k x) (open_block_noted p l y)
noted_block_like p k l {x = x} {y = y} same like =
    subst (λ b. AreLikeNotedBlocks (open_block_noted p k x) (noted_block_if_room p l y b)) room (by (nat_lt (length x.pending) most_in_block))
  where
    long : length x.pending ≡ length y.pending
    long = sym (length-map x.pending like_without_value) ∙ ap length like.pending ∙ length-map y.pending like_without_value

    room : nat_lt (length x.pending) most_in_block ≡ nat_lt (length y.pending) most_in_block
    room = ap (λ n. nat_lt n most_in_block) long

    by : (b : Bool) → AreLikeNotedBlocks (noted_block_if_room p k x b) (noted_block_if_room p l y b)
    by true = record {
      events = like.events;
      pending = map-append like_without_value x.pending (k ∷ []) ∙ ap₂ (λ ks c. ks ++ c ∷ []) like.pending same
          ∙ sym (map-append like_without_value y.pending (l ∷ []));
    }
    by false = record { events = noted_block_handed_in_like p like; pending = ap (λ c. c ∷ []) same }

-- an access
noted_block_access_like : (s : Sizes) (p n : ℕ) (k l : Kind) {x y u v : OpenBlock} → like_without_value k ≡ like_without_value l
    → AreLikeNotedBlocks x y → OpenBlockNotesAccess s p n k x u → OpenBlockNotesAccess s p n l y v → AreLikeNotedBlocks u v
noted_block_access_like s p n k l same like (inl one) (inl other) = subst₂ AreLikeNotedBlocks (sym one.1) (sym other.1) (noted_block_like p k l same like)
noted_block_access_like s p n k l same like (inl one) (inr other) =
    absurd (other.1.gap (like_gap_none (noted_block_handed_in_like p like) one.0))
noted_block_access_like s p n k l same like (inr one) (inl other) =
    absurd (one.1.gap (like_gap_none (sym (noted_block_handed_in_like p like)) other.0))
noted_block_access_like s p n k l same like (inr one) (inr other) =
    let fetches : one.0 ≡ other.0 =
    one.1.kind_is ∙ like_gap_fetch_counts_same (like_gap_counts (noted_block_handed_in_like p like) one.1.counts) other.1.counts ∙ sym other.1.kind_is in
    subst₂ AreLikeNotedBlocks (sym one.2) (sym other.2) (noted_block_like p k l same (noted_block_like p one.0 other.0 (ap like_without_value fetches) like))

-- a call
noted_block_call_like : (s : Sizes) (p : ℕ) (k l : Kind) {x y u v : OpenBlock} → like_without_value k ≡ like_without_value l
    → AreLikeNotedBlocks x y → OpenBlockNotesAt s p k (event_address k) x u → OpenBlockNotesAt s p l (event_address l) y v → AreLikeNotedBlocks u v
noted_block_call_like s p k l {x = x} {y = y} {u = u} {v = v} same like one other =
    by (event_address k) one (subst (λ o. OpenBlockNotesAt s p l o y v) (sym (like_order_address k l same)) other)
  where
    by : (o : Option ℕ) → OpenBlockNotesAt s p k o x u → OpenBlockNotesAt s p l o y v → AreLikeNotedBlocks u v
    by (Some a) one other = noted_block_access_like s p (a / s.words) k l same like one other
    by None one other =
        subst₂ AreLikeNotedBlocks (sym one) (sym other)
        (record {
          events =
              noted_block_like-append (open_block_handed_in p x) (open_block_handed_in p y) (event p k ∷ []) (event p l ∷ []) (noted_block_handed_in_like p like)
              (noted_block_events_like p (k ∷ []) (l ∷ []) (ap (λ c. c ∷ []) same));
          pending = refl;
        })

-- calls
pub noted_block_calls_like : (s : Sizes) (p : ℕ) (ks ls : List Kind) {x y u v : OpenBlock} → same_turn_calls_valueless ks ≡ same_turn_calls_valueless ls
    → AreLikeNotedBlocks x y → OpenBlockNotesAll s p ks x u → OpenBlockNotesAll s p ls y v → AreLikeNotedBlocks u v
noted_block_calls_like s p [] [] same like one other = subst₂ AreLikeNotedBlocks (sym one) (sym other) like
noted_block_calls_like s p [] (l ∷ ls) same like one other = absurd (cc)
noted_block_calls_like s p (k ∷ ks) [] same like one other = absurd (cc)
noted_block_calls_like s p (k ∷ ks) (l ∷ ls) same like one other =
    let first : like_without_value k ≡ like_without_value l = cc in
    let rest : same_turn_calls_valueless ks ≡ same_turn_calls_valueless ls = cc in
    noted_block_calls_like s p ks ls rest (noted_block_call_like s p k l first like one.1 other.1) one.2 other.2

-- what is noted goes on from the history before it
abbrev NotedBlockGoesOnFrom : OpenBlock → OpenBlock → Type 0
NotedBlockGoesOnFrom x y = (more : List Event) × (y.history ≡ x.history ++ more)

noted_block_goes_on_then : (x y z : OpenBlock) → NotedBlockGoesOnFrom x y → NotedBlockGoesOnFrom y z → NotedBlockGoesOnFrom x z
noted_block_goes_on_then x y z first next =
    (first.0 ++ next.0, next.1 ∙ ap (λ es. es ++ next.0) first.1 ∙ append_assoc x.history first.0 next.0)

noted_block_goes_on : (p : ℕ) (k : Kind) (x : OpenBlock) → NotedBlockGoesOnFrom x (open_block_noted p k x)
noted_block_goes_on p k x = by (nat_lt (length x.pending) most_in_block)
  where
    by : (b : Bool) → NotedBlockGoesOnFrom x (noted_block_if_room p k x b)
    by true = ([], sym (append-nil x.history))
    by false = (map (event p) x.pending, refl)

noted_block_call_goes_on : (s : Sizes) (p : ℕ) (k : Kind) (x y : OpenBlock) (o : Option ℕ) → OpenBlockNotesAt s p k o x y → NotedBlockGoesOnFrom x y
noted_block_call_goes_on s p k x y (Some a) (inl fresh) = subst (NotedBlockGoesOnFrom x) (sym fresh.1) (noted_block_goes_on p k x)
noted_block_call_goes_on s p k x y (Some a) (inr stale) =
    let fetched = open_block_noted p stale.0 x in
    subst (NotedBlockGoesOnFrom x) (sym stale.2)
    (noted_block_goes_on_then x fetched (open_block_noted p k fetched) (noted_block_goes_on p stale.0 x) (noted_block_goes_on p k fetched))
noted_block_call_goes_on s p k x y None is =
    subst (NotedBlockGoesOnFrom x) (sym is)
    (map (event p) x.pending ++ event p k ∷ [], append_assoc x.history (map (event p) x.pending) (event p k ∷ []))

pub noted_block_calls_go_on : (s : Sizes) (p : ℕ) (ks : List Kind) (x y : OpenBlock) → OpenBlockNotesAll s p ks x y → NotedBlockGoesOnFrom x y
noted_block_calls_go_on s p [] x y is = subst (NotedBlockGoesOnFrom x) (sym is) ([], sym (append-nil x.history))
noted_block_calls_go_on s p (k ∷ ks) x y noted =
    noted_block_goes_on_then x noted.0 y (noted_block_call_goes_on s p k x noted.0 (event_address k) noted.1)
    (noted_block_calls_go_on s p ks noted.0 y noted.2)

-- a call that is no access hands in the block, with itself at the end
pub noted_block_plain_call : (s : Sizes) (p : ℕ) (k : Kind) (x y : OpenBlock) → event_address k ≡ None
    → OpenBlockNotesAt s p k (event_address k) x y → y ≡ open_block (open_block_handed_in p x ++ event p k ∷ []) []
noted_block_plain_call s p k x y plain noted = subst (λ o. OpenBlockNotesAt s p k o x y) plain noted
