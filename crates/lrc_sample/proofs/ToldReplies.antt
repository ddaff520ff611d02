-- What is told of one reply after another.
use Rattle.std.proofs.Common.{◌≡◌, ◌∙◌, ◌+◌, ◌<◌, ℕ, Bool, cond, List, [], ◌∷◌, ◌++◌, length, drop, slice_index_or, ap, sym, true, false}
use Rattle.std.proofs.lemmas.List.{append_assoc, drop_more}
use Rattle.lrc_sample.specs.declared.outcome.Reply.{Reply}
use Rattle.lrc_sample.specs.SampleReplies.{sample_replies_marked}

-- the reply at k is told if its mark says so, and then come those behind it
pub told_reply_next : (marks : List Bool) (rs : List Reply) (i k : ℕ) (m : Bool) (r : Reply) → i < length marks → k < length rs
    → sample_replies_marked (drop i marks) (drop k rs)
    ≡ cond (slice_index_or marks i m) (slice_index_or rs k r ∷ []) [] ++ sample_replies_marked (drop (i + 1) marks) (drop (k + 1) rs)
told_reply_next marks rs i k m r mark reply =
    ap (λ ms. sample_replies_marked ms (drop k rs)) (drop_more marks i m mark)
    ∙ ap (sample_replies_marked (slice_index_or marks i m ∷ drop (i + 1) marks)) (drop_more rs k r reply)

-- a reply that is told goes to the end
pub told_reply_kept : (old new : List Reply) (marks : List Bool) (rs : List Reply) (i k : ℕ) (m : Bool) (r : Reply) → i < length marks → k < length rs
    → slice_index_or marks i m ≡ true → new ≡ old ++ slice_index_or rs k r ∷ []
    → old ++ sample_replies_marked (drop i marks) (drop k rs) ≡ new ++ sample_replies_marked (drop (i + 1) marks) (drop (k + 1) rs)
told_reply_kept old new marks rs i k m r mark reply told is =
    let rest = sample_replies_marked (drop (i + 1) marks) (drop (k + 1) rs) in
    ap (λ xs. old ++ xs) (told_reply_next marks rs i k m r mark reply ∙ ap (λ b. cond b (slice_index_or rs k r ∷ []) [] ++ rest) told)
    ∙ sym (append_assoc old (slice_index_or rs k r ∷ []) rest) ∙ ap (λ xs. xs ++ rest) (sym is)

-- one that isn't is left out
pub told_reply_left : (old : List Reply) (marks : List Bool) (rs : List Reply) (i k : ℕ) (m : Bool) (r : Reply) → i < length marks → k < length rs
    → slice_index_or marks i m ≡ false
    → old ++ sample_replies_marked (drop i marks) (drop k rs) ≡ old ++ sample_replies_marked (drop (i + 1) marks) (drop (k + 1) rs)
told_reply_left old marks rs i k m r mark reply told =
    ap (λ xs. old ++ xs) (told_reply_next marks rs i k m r mark reply
    ∙ ap (λ b. cond b (slice_index_or rs k r ∷ []) [] ++ sample_replies_marked (drop (i + 1) marks) (drop (k + 1) rs)) told)
