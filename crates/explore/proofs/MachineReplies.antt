-- What a machine has of the replies.
-- What is kept with one call more is a row that is pushed onto; what the next step adds to is the last of its processor's row.
use Rattle.std.proofs.Common.{ℕ, zero, suc, ◌≡◌, ◌-◌, ◌<◌, inl, inr, List, [], ◌∷◌, ◌++◌, false, length, option_map, Some, slice_get, slice_set, refl, sym, ap, subst, ◌∙◌, length-set, arith}
use Rattle.std.specs.Prelude.{None, IsTrue}
use Rattle.std.specs.Global.{Vec}
use Rattle.std.proofs.lemmas.Bool.{cases_eq}
use Rattle.std.proofs.lemmas.Option.{none-some, same_Some, slice_get-map, slice_get_within}
use Rattle.base.proofs.SliceSets.{slice_get-set_other, slice_get-set_same}
use Rattle.journal.specs.declared.event.Event.{Event}
use Rattle.journal.specs.declared.event.Kind.{Kind}
use Rattle.journal.specs.declared.event.Kind.{Kind}
use Rattle.journal.specs.declared.event.Kind.TheVariants as kind
use Rattle.journal.specs.DidEvent.{did}
use Rattle.lrc_script.specs.Plan.{Plan}
use Rattle.conformance.specs.Follows.{calls_of, is_fetch}
use Rattle.conformance.proofs.FollowedCalls.{followed_calls-own, followed_calls-others}
use Rattle.explore.specs.declared.outcomes.telling.OutcomeTelling.{OutcomeTelling}
use Rattle.explore.specs.Prefixes.ScriptCalls.{last_reply_of_script_calls}
use Rattle.explore.specs.Machines.{machine_rows, machine_last_or}
use Rattle.explore.specs.FlatOutcomes.{flat_outcome_replies_in}
use Rattle.explore.specs.OutcomeTelling.{AreOutcomeTellingKept, is_sum_for_outcome_telling, outcome_telling_kept, outcome_telling_replies, outcome_telling_steps}
use Rattle.explore.proofs.ToldReplies.{told_reply_kept_pending}

-- replies of calls that are put together
pub flat_outcome_replies_in-append : (xs ys : List Kind) → flat_outcome_replies_in (xs ++ ys) ≡ flat_outcome_replies_in xs ++ flat_outcome_replies_in ys
flat_outcome_replies_in-append [] ys = refl
flat_outcome_replies_in-append (kind.Load a v ∷ xs) ys = ap (λ words. v ∷ words) (flat_outcome_replies_in-append xs ys)
flat_outcome_replies_in-append (k ∷ xs) ys = flat_outcome_replies_in-append xs ys

machine_reply_last_at : (word : ℕ) (words : List ℕ) → slice_get (word ∷ words) (length words) ≡ Some (machine_last_or word words)
machine_reply_last_at word [] = refl
machine_reply_last_at word (w ∷ words) = machine_reply_last_at w words

pub machine_reply_last_some : (word : ℕ) (words : List ℕ) (w : ℕ) → slice_get words (length words - 1) ≡ Some w
    → w ≡ machine_last_or word words
machine_reply_last_some word [] w at = absurd (none-some w at)
machine_reply_last_some word (x ∷ words) w at =
    let e : suc (length words) - 1 ≡ length words = omega arith in
    let here = subst (λ n. slice_get (x ∷ words) n ≡ Some w) e at in
    same_Some w (machine_last_or x words) (sym here ∙ machine_reply_last_at x words)

pub machine_reply_last_none : (word : ℕ) (words : List ℕ) → slice_get words (length words - 1) ≡ None → word ≡ machine_last_or word words
machine_reply_last_none word [] at = refl
machine_reply_last_none word (x ∷ words) at =
    let e : suc (length words) - 1 ≡ length words = omega arith in
    let here = subst (λ n. slice_get (x ∷ words) n ≡ None) e at in
    absurd (none-some (machine_last_or x words) (sym here ∙ machine_reply_last_at x words))

-- a row of these
pub machine_reply_row_at : (vs : List (Vec ℕ)) (p : ℕ) (v : Vec ℕ) → slice_get vs p ≡ Some v → slice_get (machine_rows vs) p ≡ Some v.items
machine_reply_row_at vs p v at = slice_get-map (λ (v : Vec ℕ). v.items) vs p ∙ ap (option_map (λ (v : Vec ℕ). v.items)) at

machine_reply_row_set : (vs : List (Vec ℕ)) (p : ℕ) (v : Vec ℕ) → machine_rows (slice_set vs p v) ≡ slice_set (machine_rows vs) p v.items
machine_reply_row_set [] p v = refl
machine_reply_row_set (x ∷ vs) zero v = refl
machine_reply_row_set (x ∷ vs) (suc p) v = ap (λ rows. x.items ∷ rows) (machine_reply_row_set vs p v)

pub length-machine_rows : (vs : List (Vec ℕ)) → length (machine_rows vs) ≡ length vs
length-machine_rows [] = refl
length-machine_rows (v ∷ vs) = ap suc (length-machine_rows vs)

pub machine_reply_row_push : (vs : List (Vec ℕ)) (v : Vec ℕ) → machine_rows (vs ++ v ∷ []) ≡ machine_rows vs ++ v.items ∷ []
machine_reply_row_push [] v = refl
machine_reply_row_push (x ∷ vs) v = ap (λ rows. x.items ∷ rows) (machine_reply_row_push vs v)

-- the last of words that end with this one
machine_reply_last_pushed : (word : ℕ) (words : List ℕ) (w : ℕ) → machine_last_or word (words ++ w ∷ []) ≡ w
machine_reply_last_pushed word [] w = refl
machine_reply_last_pushed word (x ∷ words) w = machine_reply_last_pushed x words w

module _ (s : Plan) (t : OutcomeTelling) (g : List Event) (p : ℕ) (vs : List (Vec ℕ)) (v : Vec ℕ) (within : p < s.processors)
    (at : slice_get vs p ≡ Some v) (old : AreOutcomeTellingKept s t g (machine_rows vs)) where
  -- the row of a processor has what is kept
  pub machine_reply_row_kept : v.items ≡ outcome_telling_kept t p (outcome_telling_steps s p) (calls_of g p)
  machine_reply_row_kept =
      same_Some v.items (outcome_telling_kept t p (outcome_telling_steps s p) (calls_of g p)) (sym (machine_reply_row_at vs p v at) ∙ old.each p within)

  -- its last one is the reply that the next step adds to
  pub machine_reply_last_told : (reply : ℕ) → reply ≡ machine_last_or 0 v.items
      → IsTrue (is_sum_for_outcome_telling (slice_get (outcome_telling_steps s p) (length (calls_of g p)))) → reply ≡ last_reply_of_script_calls (calls_of g p)
  machine_reply_last_told reply is sum =
      is ∙ ap (machine_last_or 0) (machine_reply_row_kept ∙ told_reply_kept_pending t p (outcome_telling_steps s p) (calls_of g p) sum)
      ∙ machine_reply_last_pushed 0 (outcome_telling_replies t p (outcome_telling_steps s p) 0 (calls_of g p)) (last_reply_of_script_calls (calls_of g p))

  -- and after its next call
  pub machine_replies_next : (k : Kind) (new : Vec ℕ) → is_fetch k ≡ false
      → new.items ≡ outcome_telling_kept t p (outcome_telling_steps s p) (calls_of g p ++ k ∷ [])
      → AreOutcomeTellingKept s t (did g p k) (machine_rows (slice_set vs p new))
  machine_replies_next k new call is = subst (AreOutcomeTellingKept s t (did g p k)) (sym (machine_reply_row_set vs p new)) (record {
    long = length-set (machine_rows vs) p new.items ∙ old.long;
    each = λ q lt. elim (cases_eq q p) [
      | inl same ↦
          subst (λ r. slice_get (slice_set (machine_rows vs) p new.items) r
          ≡ Some (outcome_telling_kept t r (outcome_telling_steps s r) (calls_of (did g p k) r))) (sym same) mine
      | inr isnt ↦
          slice_get-set_other (machine_rows vs) p q new.items isnt ∙ old.each q lt
          ∙ ap (λ ks. Some (outcome_telling_kept t q (outcome_telling_steps s q) ks)) (sym (followed_calls-others g p q k (λ e. isnt (sym e))))
    ];
  })
    where
      mine : slice_get (slice_set (machine_rows vs) p new.items) p
          ≡ Some (outcome_telling_kept t p (outcome_telling_steps s p) (calls_of (did g p k) p))
      mine =
          slice_get-set_same (machine_rows vs) p new.items (slice_get_within (machine_rows vs) p v.items (machine_reply_row_at vs p v at))
          ∙ ap Some (is ∙ ap (outcome_telling_kept t p (outcome_telling_steps s p)) (sym (followed_calls-own g p k call)))
