-- The accesses of a word as they are noted, and that a word is guarded of which no two are open.
use Rattle.std.proofs.Common.{ℕ, ◌≡◌, ◌≢◌, ◌+◌, ◌<◌, ◌⊎◌, inl, inr, Bool, IsTrue, List, [], ◌∷◌, ◌++◌, Some, length, slice_get, refl, sym, ap, subst, ◌∙◌, arith}
use Rattle.std.specs.Global.{Vec}
use Rattle.std.proofs.lemmas.Bool.{cases_eq, cases_lt, false≢true}
use Rattle.std.proofs.lemmas.Option.{same_Some, slice_get_within}
use Rattle.base.specs.InOrderOnce.{Has, InOrder}
use Rattle.base.proofs.JoinedLists.{joined_list_has-append, joined_list_has-cons, joined_list_has-nil, joined_list_in_order-append, joined_list_in_order-nil, joined_list_in_order_single}
use Rattle.lrc_script.specs.Plan.{Plan}
use Rattle.lrc_script.specs.Lawful.{plan_addresses}
use Rattle.explore.specs.declared.prefixes.script_call.ScriptCall.{ScriptCall}
use Rattle.explore.specs.Machines.{AreLawfulMachineSteps}
use Rattle.explore.specs.Prefixes.FlatBeginnings.{AreFlatBeginningsRaceFree}
use Rattle.explore.proofs.Locksets.TextGuardLaw.{text_guard_law}
use Rattle.explore.proofs.Locksets.Noted.{lockset_noted_address_within, lockset_noted_rows_within, lockset_noted_unused_guarded}
use Rattle.explore.specs.declared.text.text_accesses.TextAccess.{TextAccess}
use Rattle.explore.specs.declared.text.unguarded_words.UnguardedWord.{UnguardedWord}
use Rattle.explore.specs.TextGuards.AreApartByText.{locked as apart_locked}
use Rattle.explore.specs.TextGuards.{AreApartByText, IsGuardedByText, IsTextGuardedAccessAt, text_guard_departures_at, text_guard_held_at, text_guarded_step_address, text_guarded_step_stores}
use Rattle.explore.specs.UnguardedWords.AreTextAccessesApart.{own, loaded, phased, locked}
use Rattle.explore.specs.UnguardedWords.{AreTextAccessesApart, AreTextAccessesOfRow, AreTextAccessesOfRows, AreUnguardedWords, HasTextAccessLike, HasUnguardedWord, IsTextAccess, IsTextAccessLike, IsUnguardedWord}

-- what is said of it, by what else is known of where it stands
pub unguarded_words_like_there : (x : TextAccess) (p m n : ℕ) (store : Bool) (h k : ℕ → Bool) → m ≡ n → ((l : ℕ) → h l ≡ k l)
    → IsTextAccessLike x p m store h → IsTextAccessLike x p n store k
unguarded_words_like_there x p m n store h k same held like = record {
  processor = like.processor;
  phase_is = like.phase_is ∙ same;
  stores = like.stores;
  held_are = λ l. like.held_are l ∙ held l;
}

-- the same of one among several
pub unguarded_words_has_there : (accesses : List TextAccess) (p m n : ℕ) (store : Bool) (h k : ℕ → Bool) → m ≡ n → ((l : ℕ) → h l ≡ k l)
    → HasTextAccessLike accesses p m store h → HasTextAccessLike accesses p n store k
unguarded_words_has_there accesses p m n store h k same held one = record {
  access = one.access;
  has = one.has;
  like = unguarded_words_like_there one.access p m n store h k same held one.like;
}

-- it is still there among more
pub unguarded_words_has_more : (old new : List TextAccess) (p phase : ℕ) (store : Bool) (held : ℕ → Bool) → ((x : TextAccess) → Has old x → Has new x)
    → HasTextAccessLike old p phase store held → HasTextAccessLike new p phase store held
unguarded_words_has_more old new p phase store held keeps one =
    record { access = one.access; has = keeps one.access one.has; like = one.like }

-- one step more of a row
pub unguarded_words_row_next : (rows : List (Vec ScriptCall)) (w p n : ℕ) (row : Vec ScriptCall) (step : ScriptCall) (old new : List TextAccess)
    → slice_get rows p ≡ Some row → slice_get row.items n ≡ Some step → ((x : TextAccess) → Has old x → Has new x)
    → AreTextAccessesOfRow rows w old p n
    → (text_guarded_step_address step ≡ Some w
    → HasTextAccessLike new p (text_guard_departures_at row.items n) (text_guarded_step_stores step) (text_guard_held_at row.items n))
    → AreTextAccessesOfRow rows w new p (n + 1)
unguarded_words_row_next rows w p n row step old new row_at at keeps noted now i a x lt = elim (cases_eq i n) [
  | inl is ↦
      (let rows_are = same_Some row x.row (sym row_at ∙ x.row_at) in
      let there = subst (λ (r : Vec ScriptCall). slice_get r.items n ≡ Some step) rows_are at in
      let same = same_Some step a (sym there ∙ subst (λ m. slice_get x.row.items m ≡ Some a) is x.at) in
      let one = now (ap text_guarded_step_address same ∙ x.address) in
      let here = subst (λ (r : Vec ScriptCall).
      HasTextAccessLike new p (text_guard_departures_at r.items n) (text_guarded_step_stores step) (text_guard_held_at r.items n)) rows_are one in
      let stored = subst (λ s. HasTextAccessLike new p (text_guard_departures_at x.row.items n) (text_guarded_step_stores s) (text_guard_held_at x.row.items n)) same here in
      subst (λ m. HasTextAccessLike new p (text_guard_departures_at x.row.items m) (text_guarded_step_stores a) (text_guard_held_at x.row.items m)) (sym is) stored)
  | inr isnt ↦
      unguarded_words_has_more old new p (text_guard_departures_at x.row.items i) (text_guarded_step_stores a) (text_guard_held_at x.row.items i) keeps
      (noted i a x (omega arith))
]

-- what is added at a step is the text's
pub unguarded_words_are_next : (rows : List (Vec ScriptCall)) (w p n : ℕ) (row : Vec ScriptCall) (step : ScriptCall) (x : TextAccess)
    → slice_get rows p ≡ Some row → slice_get row.items n ≡ Some step → text_guarded_step_address step ≡ Some w → x.place ≡ n
    → IsTextAccessLike x p (text_guard_departures_at row.items n) (text_guarded_step_stores step) (text_guard_held_at row.items n)
    → IsTextAccess rows w x
unguarded_words_are_next rows w p n row step x row_at at address place like = record {
  step = step;
  at = record {
    row = row;
    row_at = ap (slice_get rows) like.processor ∙ row_at;
    at = ap (slice_get row.items) place ∙ at;
    address = address;
  };
  like = record {
    processor = refl;
    phase_is = like.phase_is ∙ ap (text_guard_departures_at row.items) (sym place);
    stores = like.stores;
    held_are = λ l. like.held_are l ∙ ap (λ m. text_guard_held_at row.items m l) (sym place);
  };
}

-- one row more
pub unguarded_words_rows_next : (rows : List (Vec ScriptCall)) (w n : ℕ) (old new : List TextAccess) → ((x : TextAccess) → Has old x → Has new x)
    → AreTextAccessesOfRows rows w old n
    → ((row : Vec ScriptCall) → slice_get rows n ≡ Some row → AreTextAccessesOfRow rows w new n (length row.items))
    → AreTextAccessesOfRows rows w new (n + 1)
unguarded_words_rows_next rows w n old new keeps noted now p i a x lt = elim (cases_eq p n) [
  | inl is ↦
      (subst (λ q. (y : IsTextGuardedAccessAt rows q i w a)
      → HasTextAccessLike new q (text_guard_departures_at y.row.items i) (text_guarded_step_stores a) (text_guard_held_at y.row.items i)) (sym is)
      (λ y. now y.row y.row_at i a y (slice_get_within y.row.items i a y.at)) x)
  | inr isnt ↦
      unguarded_words_has_more old new p (text_guard_departures_at x.row.items i) (text_guarded_step_stores a) (text_guard_held_at x.row.items i) keeps
      (noted p i a x (omega arith))
]

-- two accesses that are apart, by those that are like them
module _ (rows : List (Vec ScriptCall)) (p q i k : ℕ) (x y : List ScriptCall) (store other : Bool) (first second : TextAccess)
    (one : IsTextAccessLike first p (text_guard_departures_at x i) store (text_guard_held_at x i))
    (two : IsTextAccessLike second q (text_guard_departures_at y k) other (text_guard_held_at y k)) (isnt : p ≢ q)
    (stores : IsTrue store ⊎ IsTrue other) (phases : text_guard_departures_at x i ≡ text_guard_departures_at y k) where
  unguarded_words_apart : AreTextAccessesApart first second → AreApartByText rows p i x q k y
  unguarded_words_apart (own is) = absurd (isnt (sym one.processor ∙ is ∙ two.processor))
  unguarded_words_apart (loaded mine theirs) = elim stores [
    | inl has ↦ absurd (false≢true (sym mine ∙ one.stores ∙ has))
    | inr has ↦ absurd (false≢true (sym theirs ∙ two.stores ∙ has))
  ]
  unguarded_words_apart (phased differ) = absurd (differ (one.phase_is ∙ phases ∙ sym two.phase_is))
  unguarded_words_apart (locked l mine theirs) =
      apart_locked (record { lock = l; first = sym (one.held_are l) ∙ mine; second = sym (two.held_are l) ∙ theirs })

-- a word is guarded if no two of its accesses are open
pub unguarded_words_guarded : (rows : List (Vec ScriptCall)) (w : ℕ) (accesses : List TextAccess) → AreTextAccessesOfRows rows w accesses (length rows)
    → ((x y : TextAccess) → Has accesses x → Has accesses y → AreTextAccessesApart x y) → IsGuardedByText rows w
unguarded_words_guarded rows w accesses noted apart p q i k a b x y isnt stores phases =
    let one = noted p i a x (slice_get_within rows p x.row x.row_at) in
    let two = noted q k b y (slice_get_within rows q y.row y.row_at) in
    unguarded_words_apart rows p q i k x.row.items y.row.items (text_guarded_step_stores a) (text_guarded_step_stores b) one.access two.access one.like
    two.like isnt stores phases (apart one.access two.access one.has two.has)

-- of the first n words, those that are told: such ones, the least first, and each other one is guarded
pub record AreUnguardedWordsSoFar (rows : List (Vec ScriptCall)) (guarded : List Bool) (words : List UnguardedWord) (n : ℕ) : Type 0 where
  pub each : (x : UnguardedWord) → Has words x → IsUnguardedWord rows guarded x
  pub below : (x : UnguardedWord) → Has words x → x.word < n
  pub others : (w : ℕ) → w < n → IsGuardedByText rows w ⊎ HasUnguardedWord words w
  pub rising : InOrder (λ (x y : UnguardedWord). x.word < y.word) words

-- none so far
pub unguarded_words_none_told : (rows : List (Vec ScriptCall)) (guarded : List Bool) → AreUnguardedWordsSoFar rows guarded [] 0
unguarded_words_none_told rows guarded = record {
  each = λ x has. absurd (joined_list_has-nil x has);
  below = λ x has. absurd (joined_list_has-nil x has);
  others = λ w lt. absurd (omega arith);
  rising = joined_list_in_order-nil (λ (x y : UnguardedWord). x.word < y.word);
}

-- the next word is guarded
pub unguarded_words_passed : (rows : List (Vec ScriptCall)) (guarded : List Bool) (words : List UnguardedWord) (n : ℕ)
    → AreUnguardedWordsSoFar rows guarded words n → IsGuardedByText rows n → AreUnguardedWordsSoFar rows guarded words (n + 1)
unguarded_words_passed rows guarded words n old is = record {
  each = old.each;
  below = λ x has. let lt = old.below x has in omega arith;
  others = λ w lt. elim (cases_eq w n) [
    | inl same ↦ inl (subst (IsGuardedByText rows) (sym same) is)
    | inr isnt ↦ old.others w (omega arith)
  ];
  rising = old.rising;
}

-- or it is told
pub unguarded_words_one_more : (rows : List (Vec ScriptCall)) (guarded : List Bool) (words : List UnguardedWord) (n : ℕ) (x : UnguardedWord)
    → AreUnguardedWordsSoFar rows guarded words n → x.word ≡ n → IsUnguardedWord rows guarded x
    → AreUnguardedWordsSoFar rows guarded (words ++ x ∷ []) (n + 1)
unguarded_words_one_more rows guarded words n x old is unguarded = record {
  each = λ y has. elim ((joined_list_has-append words (x ∷ []) y).0 has) [
    | inl before ↦ old.each y before
    | inr here ↦ subst (IsUnguardedWord rows guarded) (mine y here) unguarded
  ];
  below = λ y has. elim ((joined_list_has-append words (x ∷ []) y).0 has) [
    | inl before ↦ (let lt = old.below y before in omega arith)
    | inr here ↦ (let word = ap (λ (z : UnguardedWord). z.word) (mine y here) in omega arith)
  ];
  others = λ w lt. elim (cases_eq w n) [
    | inl same ↦ inr (record { told = x; has = last; word = is ∙ sym same })
    | inr isnt ↦ elim (old.others w (omega arith)) [
      | inl guarded_is ↦ inl guarded_is
      | inr told ↦ inr (record { told = told.told; has = (joined_list_has-append words (x ∷ []) told.told).1 (inl told.has); word = told.word })
    ]
  ];
  rising =
      joined_list_in_order-append (λ (y z : UnguardedWord). y.word < z.word) words (x ∷ []) old.rising
      (joined_list_in_order_single (λ (y z : UnguardedWord). y.word < z.word) x)
      (λ a b before here. let lt = old.below a before in let word = ap (λ (z : UnguardedWord). z.word) (mine b here) in omega arith);
}
  where
    mine : (y : UnguardedWord) → Has (x ∷ []) y → x ≡ y
    mine y here = elim ((joined_list_has-cons x [] y).0 here) [ inl same ↦ same | inr none ↦ absurd (joined_list_has-nil y none) ]

    last : Has (words ++ x ∷ []) x
    last = (joined_list_has-append words (x ∷ []) x).1 (inr (0, refl))

-- all are looked at
pub unguarded_words_all_told : (rows : List (Vec ScriptCall)) (guarded : List Bool) (words : List UnguardedWord) (n : ℕ)
    → AreUnguardedWordsSoFar rows guarded words n → n ≡ length guarded → AreUnguardedWords rows guarded words
unguarded_words_all_told rows guarded words n told all = record {
  each = told.each;
  others = λ w lt. told.others w (omega arith);
  rising = told.rising;
}

-- where each word of the script's is guarded, no beginning races
pub unguarded_words_none_race_free : (s : Plan) (rows : List (Vec ScriptCall)) → AreLawfulMachineSteps s rows
    → ((w : ℕ) → w < plan_addresses s → IsGuardedByText rows w) → AreFlatBeginningsRaceFree s
unguarded_words_none_race_free s rows lawful guarded = text_guard_law s rows lawful (λ w. elim (cases_lt w (plan_addresses s)) [
  | inl lt ↦ guarded w lt
  | inr past ↦ lockset_noted_unused_guarded rows w (λ p row i step row_at at address.
      let within = lockset_noted_address_within (plan_addresses s) w step (lockset_noted_rows_within s rows lawful p row row_at i step at) address in
      omega arith)
])
