-- Which words a walk calls guarded, after one step more.
use Rattle.std.proofs.Common.{ℕ, ◌≡◌, ◌≢◌, ◌+◌, ◌<◌, ◌⊎◌, inl, inr, Bool, false, IsTrue, Some, List, [], ◌∷◌, zero, suc, length, map, slice_get, slice_index_or, slice_set, refl, sym, ap, subst, ◌∙◌, arith}
use Rattle.std.specs.Global.{Vec}
use Rattle.std.proofs.lemmas.Bool.{cases_eq, false≢true}
use Rattle.std.proofs.lemmas.Option.{same_Some, slice_get_within}
use Rattle.std.proofs.lemmas.List.{length-set}
use Rattle.base.proofs.SliceSets.{slice_get-set_other, slice_get-set_same}
use Rattle.explore.specs.declared.prefixes.script_call.ScriptCall.{ScriptCall}
use Rattle.explore.specs.declared.text.walked_rows.WalkedRow.{WalkedRow}
use Rattle.explore.specs.declared.text.walked_flags.WalkedFlag.{WalkedFlag}
use Rattle.explore.specs.declared.text.walked_words.WalkedWord.{WalkedWord}
use Rattle.explore.specs.TextGuards.AreApartByText.{locked, before as comes_before, after as comes_after}
use Rattle.explore.specs.WalkedWords.IsWalkedApart.{loaded, locked as walked_locked, made as walked_made}
use Rattle.explore.specs.TextGuards.{AreApartByText, IsGuardedByText, IsTextGuardedAccessAt, text_guard_departures_at, text_guard_held_at, text_guarded_step_address, text_guarded_step_stores}
use Rattle.explore.specs.TextWalks.{AreTextWalkRowsNew, AreTextWalkRowsThrough, AreTextWalkWords, AreTextWalkWordsSized, HasTextWalkStep, HasTextWalkUser, IsTextWalkOrder, IsTextWalkPast, IsTextWalkStepNoted, IsTextWalkWordGuarded}
use Rattle.explore.specs.WalkedWords.{HasWalkedUser, IsWalkedAccessNoted, IsWalkedApart, walked_row_holds}
use Rattle.explore.proofs.MachineSteps.{machine_step_some_at}
use Rattle.explore.proofs.TextWalks.OrderPassed.{order_passed_found}

-- a pair that is apart is so the other way round
pub words_passed_turned : (rows : List (Vec ScriptCall)) (p i q k : ℕ) (x y : List ScriptCall) → AreApartByText rows p i x q k y → AreApartByText rows q k y p i x
words_passed_turned rows p i q k x y (locked both) = locked (record { lock = both.lock; first = both.second; second = both.first })
words_passed_turned rows p i q k x y (comes_before comes) = comes_after comes
words_passed_turned rows p i q k x y (comes_after comes) = comes_before comes

-- the same access, by what else is known of where it stands
words_passed_user_held : (words : List WalkedWord) (w q phase i : ℕ) (store : Bool) (h k : ℕ → Bool) → ((l : ℕ) → h l ≡ k l)
    → HasTextWalkUser words w q phase i store h → HasTextWalkUser words w q phase i store k
words_passed_user_held words w q phase i store h k same used =
    let covered = used.used.used.covered in
    record {
      word = used.word;
      at = used.at;
      used = record {
        uses = used.used.uses;
        at = used.used.at;
        used = record {
          user = used.used.used.user;
          at = used.used.used.at;
          covered = record {
            until = covered.until;
            stored = covered.stored;
            unlocked = λ l lt. elim (covered.unlocked l lt) [ inl has ↦ inl (sym (same l) ∙ has) | inr below ↦ inr below ];
          };
        };
      };
    }

words_passed_either : {A B : Type 0} → A ⊎ B → B ⊎ A
words_passed_either (inl a) = inr a
words_passed_either (inr b) = inl b

module _ (steps : List (Vec ScriptCall)) (rows : List WalkedRow) (flags : List WalkedFlag) (words words' : List WalkedWord) (p : ℕ) (step : ScriptCall)
    (here : HasTextWalkStep steps rows p step) (after : WalkedRow) (place : after.place ≡ here.row.place + 1) (order : IsTextWalkOrder steps rows flags)
    (old : AreTextWalkWords steps rows words) (noted : IsTextWalkStepNoted words words' p here.row step) where
  -- it came through the steps that it had come through, and p's next one
  words_passed_past : (q i : ℕ) → IsTextWalkPast (slice_set rows p after) q i → IsTextWalkPast rows q i ⊎ ((q ≡ p) × (i ≡ here.row.place))
  words_passed_past q i past = elim (order_passed_found rows p here.row after here.row_at q past.row past.at) [
    | inl mine ↦
        (let below = subst (λ (r : WalkedRow). i < r.place) (sym mine.1) past.past in
        elim (cases_eq i here.row.place) [
          | inl last ↦ inr (mine.0, last)
          | inr isnt ↦ inl (record { row = here.row; at = ap (slice_get rows) mine.0 ∙ here.row_at; past = omega arith })
        ])
    | inr other ↦ inl (record { row = past.row; at = other.1; past = past.past })
  ]

  -- an access at p's next step: what is so there
  module _ (w : ℕ) (a : ScriptCall) (x : IsTextGuardedAccessAt steps p here.row.place w a) where
    words_passed_calls : here.calls ≡ x.row
    words_passed_calls = same_Some here.calls x.row (sym here.calls_at ∙ x.row_at)

    words_passed_step : step ≡ a
    words_passed_step = same_Some step a (sym here.at ∙ subst (λ (v : Vec ScriptCall). slice_get v.items here.row.place ≡ Some a) (sym words_passed_calls) x.at)

    words_passed_address : text_guarded_step_address step ≡ Some w
    words_passed_address = ap text_guarded_step_address words_passed_step ∙ x.address

    words_passed_stores : text_guarded_step_stores step ≡ text_guarded_step_stores a
    words_passed_stores = ap text_guarded_step_stores words_passed_step

    words_passed_phase : here.row.phase ≡ text_guard_departures_at x.row.items here.row.place
    words_passed_phase =
        (order.each p here.row here.calls here.row_at here.calls_at).phase
        ∙ ap (λ (v : Vec ScriptCall). text_guard_departures_at v.items here.row.place) words_passed_calls

    words_passed_held : (l : ℕ) → walked_row_holds here.row l ≡ text_guard_held_at x.row.items here.row.place l
    words_passed_held l =
        (order.each p here.row here.calls here.row_at here.calls_at).held l
        ∙ ap (λ (v : Vec ScriptCall). text_guard_held_at v.items here.row.place l) words_passed_calls

    words_passed_noted_own : HasTextWalkUser words' w p (text_guard_departures_at x.row.items here.row.place) here.row.place
        (text_guarded_step_stores a) (text_guard_held_at x.row.items here.row.place)
    words_passed_noted_own =
        words_passed_user_held words' w p (text_guard_departures_at x.row.items here.row.place) here.row.place (text_guarded_step_stores a)
        (walked_row_holds here.row) (text_guard_held_at x.row.items here.row.place) words_passed_held
        (subst (λ ph. HasTextWalkUser words' w p ph here.row.place (text_guarded_step_stores a) (walked_row_holds here.row)) words_passed_phase
        (subst (λ st. HasTextWalkUser words' w p here.row.phase here.row.place st (walked_row_holds here.row)) words_passed_stores
        (noted.notes w words_passed_address)))

    -- it is apart from another one's that the walk came through
    module _ (q k : ℕ) (b : ScriptCall) (y : IsTextGuardedAccessAt steps q k w b) (isnt : p ≢ q)
        (stores : IsTrue (text_guarded_step_stores a) ⊎ IsTrue (text_guarded_step_stores b)) where
      words_passed_apart_by : IsWalkedApart here.row (text_guarded_step_stores step) q k (text_guarded_step_stores b) (text_guard_held_at y.row.items k)
          → AreApartByText steps p here.row.place x.row.items q k y.row.items
      words_passed_apart_by (loaded mine theirs) = elim stores [
        | inl has ↦ absurd (false≢true (sym mine ∙ words_passed_stores ∙ has))
        | inr has ↦ absurd (false≢true (sym theirs ∙ has))
      ]
      words_passed_apart_by (walked_locked l mine theirs) =
          locked (record { lock = l; first = sym (words_passed_held l) ∙ mine; second = theirs })
      words_passed_apart_by (walked_made lt) = comes_after (order.made p q k here.row.place here.row here.row_at lt (omega arith))

      words_passed_apart_own : IsTextWalkWordGuarded words' w → IsTextWalkPast rows q k
          → text_guard_departures_at x.row.items here.row.place ≡ text_guard_departures_at y.row.items k
          → AreApartByText steps p here.row.place x.row.items q k y.row.items
      words_passed_apart_own guarded past phases =
          let used = old.noted q k w b y past in
          let there = subst (λ ph. HasTextWalkUser words w q ph k (text_guarded_step_stores b) (text_guard_held_at y.row.items k))
          (sym (words_passed_phase ∙ phases)) used in
          words_passed_apart_by (noted.apart w words_passed_address guarded q k (text_guarded_step_stores b) (text_guard_held_at y.row.items k) (λ is. isnt (sym is)) there)

  words_passed_noted : (q i w : ℕ) (a : ScriptCall) (x : IsTextGuardedAccessAt steps q i w a) → IsTextWalkPast (slice_set rows p after) q i
      → HasTextWalkUser words' w q (text_guard_departures_at x.row.items i) i (text_guarded_step_stores a) (text_guard_held_at x.row.items i)
  words_passed_noted q i w a x past = elim (words_passed_past q i past) [
    | inl before ↦
        noted.keeps w q (text_guard_departures_at x.row.items i) i (text_guarded_step_stores a) (text_guard_held_at x.row.items i) (old.noted q i w a x before)
    | inr now ↦
        subst (λ r. (z : IsTextGuardedAccessAt steps r i w a)
        → HasTextWalkUser words' w r (text_guard_departures_at z.row.items i) i (text_guarded_step_stores a) (text_guard_held_at z.row.items i)) (sym now.0)
        (subst (λ k. (z : IsTextGuardedAccessAt steps p k w a)
        → HasTextWalkUser words' w p (text_guard_departures_at z.row.items k) k (text_guarded_step_stores a) (text_guard_held_at z.row.items k)) (sym now.1)
        (words_passed_noted_own w a)) x
  ]

  -- the same of a pair of which p's next step is the first
  words_passed_apart_first : (w q i r k : ℕ) (a b : ScriptCall) (x : IsTextGuardedAccessAt steps q i w a) (y : IsTextGuardedAccessAt steps r k w b)
      → q ≡ p → i ≡ here.row.place → IsTextWalkWordGuarded words' w → IsTextWalkPast rows r k → q ≢ r
      → IsTrue (text_guarded_step_stores a) ⊎ IsTrue (text_guarded_step_stores b)
      → text_guard_departures_at x.row.items i ≡ text_guard_departures_at y.row.items k
      → AreApartByText steps q i x.row.items r k y.row.items
  words_passed_apart_first w q i r k a b x y mine last guarded past isnt stores phases =
      subst (λ s. (z : IsTextGuardedAccessAt steps s i w a) → s ≢ r → text_guard_departures_at z.row.items i ≡ text_guard_departures_at y.row.items k
      → AreApartByText steps s i z.row.items r k y.row.items) (sym mine)
      (subst (λ j. (z : IsTextGuardedAccessAt steps p j w a) → p ≢ r → text_guard_departures_at z.row.items j ≡ text_guard_departures_at y.row.items k
      → AreApartByText steps p j z.row.items r k y.row.items) (sym last)
      (λ z other same. words_passed_apart_own w a z r k b y other stores guarded past same)) x isnt phases

  words_passed_apart : (w q r i k : ℕ) (a b : ScriptCall) (x : IsTextGuardedAccessAt steps q i w a) (y : IsTextGuardedAccessAt steps r k w b)
      → IsTextWalkWordGuarded words' w → IsTextWalkPast (slice_set rows p after) q i → IsTextWalkPast (slice_set rows p after) r k → q ≢ r
      → IsTrue (text_guarded_step_stores a) ⊎ IsTrue (text_guarded_step_stores b)
      → text_guard_departures_at x.row.items i ≡ text_guard_departures_at y.row.items k
      → AreApartByText steps q i x.row.items r k y.row.items
  words_passed_apart w q r i k a b x y guarded first second isnt stores phases = elim (words_passed_past q i first) [
    | inl one ↦ elim (words_passed_past r k second) [
      | inl two ↦ old.apart w q r i k a b x y (noted.guarded w guarded) one two isnt stores phases
      | inr now ↦
          words_passed_turned steps r k q i y.row.items x.row.items
          (words_passed_apart_first w r k q i b a y x now.0 now.1 guarded one (λ is. isnt (sym is)) (words_passed_either stores) (sym phases))
    ]
    | inr now ↦ elim (words_passed_past r k second) [
      | inl two ↦ words_passed_apart_first w q i r k a b x y now.0 now.1 guarded two isnt stores phases
      | inr too ↦ absurd (isnt (now.0 ∙ sym too.0))
    ]
  ]

  pub words_passed_next : AreTextWalkWords steps (slice_set rows p after) words'
  words_passed_next = record { sized = noted.sized (length steps) old.sized; noted = words_passed_noted; apart = words_passed_apart }

-- before the first step
pub words_passed_start : (steps : List (Vec ScriptCall)) (rows : List WalkedRow) (words : List WalkedWord) → AreTextWalkRowsNew (length steps) rows
    → AreTextWalkWordsSized (length steps) words → AreTextWalkWords steps rows words
words_passed_start steps rows words new sized = record {
  sized = sized;
  noted = λ p i w a x past. absurd (none p i past);
  apart = λ w p q i k a b x y guarded first second. absurd (none p i first);
}
  where
    none : (p i : ℕ) → IsTextWalkPast rows p i → ⊥
    none p i past = let place = (new.each p past.row past.at).place in let lt = past.past in omega arith

-- behind the last step
pub words_passed_guarded : (steps : List (Vec ScriptCall)) (rows : List WalkedRow) (flags : List WalkedFlag) (words : List WalkedWord)
    → IsTextWalkOrder steps rows flags → AreTextWalkWords steps rows words → AreTextWalkRowsThrough steps rows
    → (w : ℕ) → IsTextWalkWordGuarded words w → IsGuardedByText steps w
words_passed_guarded steps rows flags words order known through w guarded p q i k a b x y isnt stores phases =
    known.apart w p q i k a b x y guarded (past p i a x) (past q k b y) isnt stores phases
  where
    past : (r j : ℕ) (c : ScriptCall) → IsTextGuardedAccessAt steps r j w c → IsTextWalkPast rows r j
    past r j c z =
        let within = slice_get_within steps r z.row z.row_at in
        let long = order.long in
        let row = machine_step_some_at rows r (omega arith) in
        let end = through r row.0 z.row row.1 z.row_at in
        let below = slice_get_within z.row.items j c z.at in
        record { row = row.0; at = row.1; past = omega arith }

-- what is read of words
pub words_passed_flags_of : (words : List WalkedWord) (w : ℕ) → IsTrue (slice_index_or (map (λ (x : WalkedWord). x.is_guarded) words) w false)
    → IsTextWalkWordGuarded words w
words_passed_flags_of [] w is = absurd (false≢true is)
words_passed_flags_of (x ∷ words) zero is = record { word = x; at = refl; guarded = is }
words_passed_flags_of (x ∷ words) (suc w) is =
    let found = words_passed_flags_of words w is in
    record { word = found.word; at = found.at; guarded = found.guarded }

-- one word of several: its access at the row's place is noted
module _ (words : List WalkedWord) (w : ℕ) (old new : WalkedWord) (p : ℕ) (row : WalkedRow) (step : ScriptCall) (at : slice_get words w ≡ Some old)
    (address : text_guarded_step_address step ≡ Some w) (noted : IsWalkedAccessNoted old new p row (text_guarded_step_stores step)) where
  words_passed_new_at : slice_get (slice_set words w new) w ≡ Some new
  words_passed_new_at = slice_get-set_same words w new (slice_get_within words w old at)

  words_passed_found : (v : ℕ) (word : WalkedWord) → slice_get (slice_set words w new) v ≡ Some word
      → ((v ≡ w) × (word ≡ new)) ⊎ (slice_get words v ≡ Some word)
  words_passed_found v word there = elim (cases_eq v w) [
    | inl is ↦ inl (is, same_Some word new (sym there ∙ ap (slice_get (slice_set words w new)) is ∙ words_passed_new_at))
    | inr isnt ↦ inr (sym (slice_get-set_other words w v new isnt) ∙ there)
  ]

  words_passed_keeps : (v q phase i : ℕ) (store : Bool) (held : ℕ → Bool) → HasTextWalkUser words v q phase i store held
      → HasTextWalkUser (slice_set words w new) v q phase i store held
  words_passed_keeps v q phase i store held used = elim (cases_eq v w) [
    | inl is ↦
        (let same = same_Some used.word old (sym used.at ∙ ap (slice_get words) is ∙ at) in
        record {
          word = new;
          at = ap (slice_get (slice_set words w new)) is ∙ words_passed_new_at;
          used = noted.keeps q phase i store held (subst (λ x. HasWalkedUser x q phase i store held) same used.used);
        })
    | inr isnt ↦ record { word = used.word; at = slice_get-set_other words w v new isnt ∙ used.at; used = used.used }
  ]

  words_passed_still_guarded : (v : ℕ) → IsTextWalkWordGuarded (slice_set words w new) v → IsTextWalkWordGuarded words v
  words_passed_still_guarded v guarded = elim (words_passed_found v guarded.word guarded.at) [
    | inl here ↦ record {
      word = old;
      at = ap (slice_get words) here.0 ∙ at;
      guarded = noted.guarded (subst (λ (x : WalkedWord). IsTrue x.is_guarded) here.1 guarded.guarded);
    }
    | inr other ↦ record { word = guarded.word; at = other; guarded = guarded.guarded }
  ]

  words_passed_sized : (n : ℕ) → AreTextWalkWordsSized n words → AreTextWalkWordsSized n (slice_set words w new)
  words_passed_sized n sized v word there = elim (words_passed_found v word there) [
    | inl here ↦ ap (λ (x : WalkedWord). length x.uses.items) here.1 ∙ noted.long ∙ sized w old at
    | inr other ↦ sized v word other
  ]

  words_passed_same : (v : ℕ) → text_guarded_step_address step ≡ Some v → w ≡ v
  words_passed_same v is = same_Some w v (sym address ∙ is)

  pub words_passed_set : IsTextWalkStepNoted words (slice_set words w new) p row step
  words_passed_set = record {
    long = length-set words w new;
    sized = words_passed_sized;
    keeps = words_passed_keeps;
    guarded = words_passed_still_guarded;
    notes = λ v is.
        subst (λ n. HasTextWalkUser (slice_set words w new) n p row.phase row.place (text_guarded_step_stores step) (walked_row_holds row)) (words_passed_same v is)
        (record { word = new; at = words_passed_new_at; used = noted.notes });
    apart = λ v is guarded q i store held isnt used.
        let there = subst (λ n. HasTextWalkUser words n q row.phase i store held) (sym (words_passed_same v is)) used in
        let those = same_Some there.word old (sym there.at ∙ at) in
        let yes' = subst (λ n. IsTextWalkWordGuarded (slice_set words w new) n) (sym (words_passed_same v is)) guarded in
        let this = same_Some yes'.word new (sym yes'.at ∙ words_passed_new_at) in
        noted.apart (subst (λ (x : WalkedWord). IsTrue x.is_guarded) this yes'.guarded) q i store held isnt
        (subst (λ x. HasWalkedUser x q row.phase i store held) those there.used);
  }
