-- What a walk knows of flags, after a step that sets one or awaits one.
use Rattle.std.proofs.Common.{ℕ, ◌≡◌, ◌≢◌, ◌+◌, ◌<◌, ◌⊎◌, inl, inr, Bool, false, IsTrue, Some, List, [], ◌∷◌, zero, suc, length, max, min, slice_get, slice_index, slice_index_or, slice_set, refl, sym, ap, subst, ◌∙◌, arith}
use Rattle.std.specs.Global.{Vec}
use Rattle.std.proofs.lemmas.Bool.{cases_Bool, cases_eq, cases_lt, false≢true}
use Rattle.std.proofs.lemmas.List.{get_or-set_other}
use Rattle.std.proofs.lemmas.Option.{same_Some, slice_get_within}
use Rattle.base.proofs.SliceSets.{slice_get-set_other, slice_get-set_same}
use Rattle.journal.specs.declared.event.Kind.TheVariants.{Set, Await}
use Rattle.explore.specs.declared.prefixes.script_call.ScriptCall.{ScriptCall}
use Rattle.explore.specs.declared.prefixes.script_call.ScriptCall.TheVariants.{Call}
use Rattle.explore.specs.declared.text.walked_flags.WalkedFlag.{WalkedFlag}
use Rattle.explore.specs.TextWalks.{AreFlagSettersKept, AreFlagSettersNoted, AreRowSettersNoted, AreStepSettersNoted, IsFlagSetDue, IsFlagSetPassed, IsTextWalkFlagMet}

-- what is written false is false
pub flags_met_written : (xs : List Bool) (p : ℕ) → slice_index_or (slice_set xs p false) p false ≡ false
flags_met_written [] p = refl
flags_met_written (x ∷ xs) zero = refl
flags_met_written (x ∷ xs) (suc p) = flags_met_written xs p

-- an await of a flag of which no set is due
pub flags_met_awaited : (flags : List WalkedFlag) (made made' : List ℕ) (p f : ℕ) (flag : WalkedFlag) → slice_get flags f ≡ Some flag
    → ((q : ℕ) → slice_index_or flag.due q false ≡ false)
    → ((r : ℕ) → slice_index made' r ≡ max (slice_index made r) (slice_index flag.made r))
    → IsTextWalkFlagMet flags flags made made' p (Call (Await f))
flags_met_awaited flags made made' p f flag at none more = record {
  learns = λ r i lt. elim (told (slice_index made r) (slice_index flag.made r) (slice_index made' r) i (more r) lt) [
    | inl before ↦ inl before
    | inr now ↦ inr (f, refl, λ q. record { flag = flag; at = at; passed = none q; made = now })
  ];
  due = λ g q due. (due, λ is. cc);
  passed = λ g q r i passed. inl passed;
}
  where
    told : (a b m i : ℕ) → m ≡ max a b → i < m → (i < a) ⊎ (i < b)
    told a b m i is lt = elim (cases_lt i a) [ inl below ↦ inl below | inr above ↦ inr (omega arith) ]

-- a set by p: of its flag p's first set isn't due any more
module _ (flags : List WalkedFlag) (made : List ℕ) (p f : ℕ) (old new : WalkedFlag) (at : slice_get flags f ≡ Some old)
    (set : new.due ≡ slice_set old.due p false) (fewer : (r : ℕ) → slice_index new.made r ≡ min (slice_index old.made r) (slice_index made r)) where
  flags_met_new_at : slice_get (slice_set flags f new) f ≡ Some new
  flags_met_new_at = slice_get-set_same flags f new (slice_get_within flags f old at)

  -- what is found there is the new flag, or another one that was there
  flags_met_found : (g : ℕ) (flag : WalkedFlag) → slice_get (slice_set flags f new) g ≡ Some flag
      → ((g ≡ f) × (flag ≡ new)) ⊎ ((g ≢ f) × (slice_get flags g ≡ Some flag))
  flags_met_found g flag there = elim (cases_eq g f) [
    | inl is ↦ inl (is, same_Some flag new (sym there ∙ ap (slice_get (slice_set flags f new)) is ∙ flags_met_new_at))
    | inr isnt ↦ inr (isnt, sym (slice_get-set_other flags f g new isnt) ∙ there)
  ]

  flags_met_due_new : (q : ℕ) → IsTrue (slice_index_or new.due q false) → (q ≢ p) × IsTrue (slice_index_or old.due q false)
  flags_met_due_new q due =
      let still : IsTrue (slice_index_or (slice_set old.due p false) q false) = subst (λ (xs : List Bool). IsTrue (slice_index_or xs q false)) set due in
      let isnt : q ≢ p = λ is. false≢true (sym (flags_met_written old.due p) ∙ ap (λ n. slice_index_or (slice_set old.due p false) n false) (sym is) ∙ still) in
      (isnt, sym (get_or-set_other old.due p q false false isnt) ∙ still)

  flags_met_due : (g q : ℕ) → IsFlagSetDue (slice_set flags f new) g q → IsFlagSetDue flags g q × (Call (Set f) ≡ Call (Set g) → q ≢ p)
  flags_met_due g q due = elim (flags_met_found g due.flag due.at) [
    | inl here ↦
        (let still = flags_met_due_new q (subst (λ (x : WalkedFlag). IsTrue (slice_index_or x.due q false)) here.1 due.due) in
        (record { flag = old; at = ap (slice_get flags) here.0 ∙ at; due = still.1 }, λ is. still.0))
    | inr other ↦ (record { flag = due.flag; at = other.1; due = due.due }, λ is. absurd (other.0 (cc)))
  ]

  flags_met_passed_new : (q r i : ℕ) → slice_index_or new.due q false ≡ false → i < slice_index new.made r
      → IsFlagSetPassed flags f q r i ⊎ ((q ≡ p) × IsFlagSetDue flags f p × (i < slice_index made r))
  flags_met_passed_new q r i passed lt =
      let least = fewer r in
      let first : i < slice_index old.made r = omega arith in
      let second : i < slice_index made r = omega arith in
      elim (cases_Bool (slice_index_or old.due q false)) [
        | inl due ↦ elim (cases_eq q p) [
          | inl is ↦ inr (is, record { flag = old; at = at; due = subst (λ n. IsTrue (slice_index_or old.due n false)) is due }, second)
          | inr isnt ↦
              (let same = get_or-set_other old.due p q false false isnt in
              let gone = sym (ap (λ (xs : List Bool). slice_index_or xs q false) set) ∙ passed in
              absurd (false≢true (sym gone ∙ same ∙ due)))
        ]
        | inr none ↦ inl (record { flag = old; at = at; passed = none; made = first })
      ]

  flags_met_passed : (g q r i : ℕ) → IsFlagSetPassed (slice_set flags f new) g q r i
      → IsFlagSetPassed flags g q r i ⊎ ((q ≡ p) × IsFlagSetDue flags g p × (i < slice_index made r))
  flags_met_passed g q r i passed = elim (flags_met_found g passed.flag passed.at) [
    | inl here ↦
        (let gone = subst (λ (x : WalkedFlag). slice_index_or x.due q false ≡ false) here.1 passed.passed in
        let lt = subst (λ (x : WalkedFlag). i < slice_index x.made r) here.1 passed.made in
        subst (λ n. IsFlagSetPassed flags n q r i ⊎ ((q ≡ p) × IsFlagSetDue flags n p × (i < slice_index made r))) (sym here.0)
        (flags_met_passed_new q r i gone lt))
    | inr other ↦ inl (record { flag = passed.flag; at = other.1; passed = passed.passed; made = passed.made })
  ]

  pub flags_met_set : IsTextWalkFlagMet flags (slice_set flags f new) made made p (Call (Set f))
  flags_met_set = record { learns = λ r i lt. inl lt; due = flags_met_due; passed = flags_met_passed }

-- who sets a flag is due, and the others still are
module _ (flags : List WalkedFlag) (p f : ℕ) (old new : WalkedFlag) (at : slice_get flags f ≡ Some old)
    (mine : IsTrue (slice_index_or new.due p false)) (keeps : (q : ℕ) → IsTrue (slice_index_or old.due q false) → IsTrue (slice_index_or new.due q false)) where
  flags_met_setter_at : slice_get (slice_set flags f new) f ≡ Some new
  flags_met_setter_at = slice_get-set_same flags f new (slice_get_within flags f old at)

  pub flags_met_setter : AreStepSettersNoted (slice_set flags f new) p (Call (Set f))
  flags_met_setter g is =
      let same : f ≡ g = cc in
      subst (λ n. IsFlagSetDue (slice_set flags f new) n p) same (record { flag = new; at = flags_met_setter_at; due = mine })

  pub flags_met_setters_kept : AreFlagSettersKept flags (slice_set flags f new)
  flags_met_setters_kept g q due = elim (cases_eq g f) [
    | inl is ↦
        (let same = same_Some due.flag old (sym due.at ∙ ap (slice_get flags) is ∙ at) in
        record {
          flag = new;
          at = ap (slice_get (slice_set flags f new)) is ∙ flags_met_setter_at;
          due = keeps q (subst (λ (x : WalkedFlag). IsTrue (slice_index_or x.due q false)) same due.due);
        })
    | inr isnt ↦ record { flag = due.flag; at = slice_get-set_other flags f g new isnt ∙ due.at; due = due.due }
  ]

-- one step more of a row whose setters are noted
pub flags_met_setters_next : (old new : List WalkedFlag) (p : ℕ) (row : List ScriptCall) (n : ℕ) (step : ScriptCall) → slice_get row n ≡ Some step
    → AreFlagSettersKept old new → AreRowSettersNoted old p row n → AreStepSettersNoted new p step → AreRowSettersNoted new p row (n + 1)
flags_met_setters_next old new p row n step at keeps noted now i other lt there = elim (cases_eq i n) [
  | inl is ↦
      (let same = same_Some step other (sym at ∙ ap (slice_get row) (sym is) ∙ there) in
      subst (AreStepSettersNoted new p) same now)
  | inr isnt ↦ λ f sets. keeps f p (noted i other (omega arith) there f sets)
]

-- one row more
pub flags_met_setters_more : (old new : List WalkedFlag) (steps : List (Vec ScriptCall)) (n : ℕ) (row : Vec ScriptCall) → slice_get steps n ≡ Some row
    → AreFlagSettersKept old new → AreFlagSettersNoted old steps n → AreRowSettersNoted new n row.items (length row.items)
    → AreFlagSettersNoted new steps (n + 1)
flags_met_setters_more old new steps n row at keeps noted now p other lt there = elim (cases_eq p n) [
  | inl is ↦
      (let same = same_Some row other (sym at ∙ ap (slice_get steps) (sym is) ∙ there) in
      subst (λ q. AreRowSettersNoted new q other.items (length other.items)) (sym is)
      (subst (λ (v : Vec ScriptCall). AreRowSettersNoted new n v.items (length v.items)) same now))
  | inr isnt ↦ λ i step below here f sets. keeps f p (noted p other (omega arith) there i step below here f sets)
]
