use Rattle.std.proofs.Common.{Bool, true, false, IsTrue, inl, inr, refl, sym, subst, ◌∙◌}
use Rattle.std.specs.Prelude.{not}
use Rattle.std.proofs.lemmas.Bool.{cases_eq, false≢true}
use Rattle.base.specs.InOrderOnce.{Has}
use Rattle.journal.specs.declared.event.Kind.TheVariants.{Load}
use Rattle.explore.proofs.rules.words.is_word_loaded.Goals as goal

-- what isn't so is not
not_so : (b : Bool) → (IsTrue b → ⊥) → IsTrue (not b)
not_so true isnt = absurd (isnt refl)
not_so false isnt = refl

pub returns-then-has_word_loaded : goal.returns-then-has_word_loaded
returns-then-has_word_loaded c = (
  λ none w. (
    λ has. elim (cases_eq w c.args.word) [
      | inl is ↦ is
      | inr another ↦ absurd (false≢true (subst (λ b. IsTrue (not b)) (c.has_other_word_loaded.ensures.1 (w, has, another)) none))
    ],
    λ is. subst (λ v. Has c.args.calls.now (Load c.args.address v)) (sym is) (c.has_word_loaded.ensures.0 c.if-has_word_loaded.true),
  ),
  λ all. not_so c.has_other_word_loaded.result (λ yes. let other = c.has_other_word_loaded.ensures.0 yes in other.2 ((all other.0).0 other.1)),
)

pub returns-else-has_word_loaded : goal.returns-else-has_word_loaded
returns-else-has_word_loaded c = (
  λ yes. absurd (false≢true (sym c.if-has_word_loaded.false ∙ yes)),
  λ all. c.has_word_loaded.ensures.1 ((all c.args.word).1 refl),
)
