-- Which tests tell whether two are the same.
use Rattle.std.proofs.Common.{◌≡◌, ◌==◌, ℕ, ap, ◌∙◌}
use Rattle.std.specs.Prelude.{◌&&◌}
use Rattle.std.specs.Bool.{Decides}
use Rattle.std.proofs.lemmas.Bool.Decides.{Decides-and, Decides-eqb, Decides-like}
use Rattle.lrc_sample.specs.declared.outcome.Reply.{Reply}

-- two pairs
pub same_sample_answer_words : (a b : ℕ × ℕ) → Decides ((a.0 == b.0) && (a.1 == b.1)) (a ≡ b)
same_sample_answer_words a b =
    Decides-like _ (λ e. ap (λ (x : ℕ). (x, a.1)) e.0 ∙ ap (λ (y : ℕ). (b.0, y)) e.1)
    (λ is. (ap (λ (x : ℕ × ℕ). x.0) is, ap (λ (x : ℕ × ℕ). x.1) is))
    (Decides-and _ _ (Decides-eqb a.0 b.0) (Decides-eqb a.1 b.1))

-- a reply
same_sample_answer_reply : ℕ → ℕ → Reply
same_sample_answer_reply p v = record { processor = p; word = v }

-- two replies
pub same_sample_answer_replies : (a b : Reply) → Decides ((a.processor == b.processor) && (a.word == b.word)) (a ≡ b)
unfolding same_sample_answer_reply
same_sample_answer_replies a b =
    Decides-like _ (λ e. ap (λ (x : ℕ). same_sample_answer_reply x a.word) e.0 ∙ ap (λ (y : ℕ). same_sample_answer_reply b.processor y) e.1)
    (λ is. (ap (λ (x : Reply). x.processor) is, ap (λ (x : Reply). x.word) is))
    (Decides-and _ _ (Decides-eqb a.processor b.processor) (Decides-eqb a.word b.word))
