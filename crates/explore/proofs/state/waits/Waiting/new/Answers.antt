use Rattle.std.proofs.Common.{zero, suc, ◌≡◌, ℕ, ◌+◌, ap, ◌↔◌, IsTrue, false, [], Some, replicate, slice_index_or, subst, sym, refl, ◌∙◌}
use Rattle.std.specs.Prelude.{None}
use Rattle.std.proofs.lemmas.Bool.{false≢true}
use Rattle.std.proofs.lemmas.Option.{none-some}
use Rattle.journal.specs.WellFormed.{Holds}
use Rattle.judge.specs.FrontTells.{FrontTellsFlagSet}
use Rattle.base.proofs.JoinedLists.{joined_list_has-nil, joined_list_in_order-nil}
use Rattle.base.proofs.SliceSets.{index-zeros}
use Rattle.explore.specs.KeptWaiting.{AreKeptWaitingAsks}
use Rattle.explore.specs.WaitCodes.{WaitCodesAreKept, wait_code_arrivals_open, wait_code_ending, wait_code_holder, wait_code_nobody}
use Rattle.explore.proofs.WaitCodes.{wait_code_holder_once}
use Rattle.explore.proofs.state.waits.Waiting.new.Goals as goal

-- a list of one item over and over, with that past its end
always : {A : Type 0} (n p : ℕ) (d : A) → slice_index_or (replicate n d) p d ≡ d
always zero p d = refl
always (suc n) zero d = refl
always (suc n) (suc p) d = always n p d

no_wait : WaitCodesAreKept [] (replicate 16 None)
no_wait p k = (
  λ is. absurd (none-some k (sym (ap wait_code_ending (always 16 p None)) ∙ is)),
  λ waits. absurd (none-some _ waits.last.does),
)

no_holder : (l q : ℕ) → (wait_code_holder (slice_index_or (replicate 32 wait_code_nobody) l wait_code_nobody) ≡ Some q) ↔ Holds [] q l
no_holder l q = (
  λ is. absurd (none-some q (sym (ap wait_code_holder (always 32 l wait_code_nobody)) ∙ is)),
  λ holds. absurd (none-some _ holds.acquires),
)

no_flag : (f : ℕ) → IsTrue (slice_index_or (replicate 32 false) f false) ↔ FrontTellsFlagSet [] f
no_flag f = ((λ is. absurd (false≢true (sym (always 32 f false) ∙ is))), (λ set. absurd (none-some _ set.2)))

none_asked : AreKeptWaitingAsks [] []
none_asked = record {
  each = λ p. ((λ has. absurd (joined_list_has-nil p has)), (λ asks. absurd (none-some _ asks.1.1.does)));
  order = joined_list_in_order-nil _;
  small = λ p has. absurd (joined_list_has-nil p has);
}

pub returns : goal.returns
returns c = record {
  long = refl;
  arrivals_long = refl;
  holders_long = refl;
  flags_long = refl;
  waits = no_wait;
  arrivals = index-zeros 16;
  departures = λ p. ap (λ o. 0 + wait_code_arrivals_open o) (always 16 p None);
  holders =
      subst (λ h. (l q : ℕ) → (wait_code_holder (slice_index_or (replicate 32 h) l wait_code_nobody) ≡ Some q) ↔ Holds [] q l)
      (wait_code_holder_once wait_code_nobody c.nobody.result (sym c.nobody.ensures)) no_holder;
  flags = no_flag;
  asked = subst (AreKeptWaitingAsks []) (sym c.new.ensures.items) none_asked;
}
