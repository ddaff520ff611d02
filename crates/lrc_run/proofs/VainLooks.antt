-- Looks for what has not come, one after another.
use Rattle.std.proofs.Common.{ℕ, suc, ◌≡◌, ◌+◌, ◌-◌, ◌<◌, ◌≤◌, List, Result, Ok, Err, inl, inr, length, refl, sym, ap, subst, take, arith}
use Rattle.std.specs.Result.{IfErr, result_err}
use Rattle.std.proofs.Math.Seq.{take-length}
use Rattle.std.proofs.lemmas.List.{get_or_past}
use Rattle.lrc_script.specs.declared.script.Instruction.TheVariants.{Barrier}
use Rattle.conformance.specs.declared.cause.Cause.{Cause}
use Rattle.conformance.specs.declared.cause.Cause.TheVariants.{Stuck}
use Rattle.conformance.specs.ScriptTurns.{script_turn_instruction}
use Rattle.lrc_script.specs.declared.script.Instruction.{Instruction}
use Rattle.cluster.specs.Copies.Local.{Local}
use Rattle.cluster.specs.TakingCalls.{IsTakingCall}
use Rattle.book.specs.declared.refused.Refused.{Refused}
use Rattle.book.specs.declared.refused.Refused.TheVariants.{NotYet}
use Rattle.cluster.specs.ProcessorRefusals.{processor_refusal_or_spent, processor_refusal_of_take}
use Rattle.lrc_run.specs.LooksInVain.{AreLooksInVain, HasGivenUpInstruction, HasGivenUpWalk, HasLookedAgain, IsLookInVain, IsToldNoneComes}
use Rattle.lrc_run.specs.RunCalls.{HasRunCallsOfAll, IsRunCallBegun}
use Rattle.lrc_run.proofs.MoreCalls.{sees_more_calls_take_inside}

-- a take of what had come entered once
pub vain_look_taken_entered : {A : Type 0} (m n : Local) (r : Result A Refused) {x : A} → r ≡ Ok x → IsTakingCall m n (result_err r)
    → n.entries ≡ m.entries + 1
vain_look_taken_entered m n r is call =
    let done = call.ok (rw is refl) in
    ap (λ (l : Local). l.entries) done.0.after.after

-- and of what hadn't
pub vain_look_late_entered : {A : Type 0} (m n : Local) (r : Result A Refused) → r ≡ Err NotYet → IsTakingCall m n (result_err r)
    → n.entries ≡ m.entries + 1
vain_look_late_entered {A} m n r is call =
    let refused = subst (λ (x : Result A Refused). IsTakingCall m n (result_err x)) is call in
    let inside = sees_more_calls_take_inside m n (processor_refusal_or_spent (processor_refusal_of_take m) m) refl refused in
    ap (λ (l : Local). l.entries) inside.entered.after.same

-- looks so far, of the processor that began the instruction
pub record IsLookingInVain (tries looks : ℕ) (old new : Local) (i : Instruction) : Type 0 where
  pub begun : Local
  pub begins : IsRunCallBegun old begun i
  pub more : ℕ
  pub looks_are : more + 1 ≡ looks
  pub few : more ≤ tries - 1
  pub looked : AreLooksInVain more begun new

-- the first
pub vain_look_first : (tries : ℕ) (old begun new : Local) (i : Instruction) → IsRunCallBegun old begun i → IsLookInVain begun new
    → IsLookingInVain tries 1 old new i
vain_look_first tries old begun new i begins look = record {
  begun = begun;
  begins = begins;
  more = 0;
  looks_are = refl;
  few = omega arith;
  looked = look;
}

-- one more
pub vain_look_next : (tries looks : ℕ) (old m n : Local) (i : Instruction) → looks < tries → IsLookingInVain tries looks old m i
    → HasLookedAgain m n → IsLookingInVain tries (looks + 1) old n i
vain_look_next tries looks old m n i less was again =
    let same = was.looks_are in
    record {
      begun = was.begun;
      begins = was.begins;
      more = suc was.more;
      looks_are = omega (arith, same);
      few = omega (arith, same, less);
      looked = (m, was.looked, again);
    }

-- the last
pub vain_look_last : (tries looks : ℕ) (old m : Local) (i : Instruction) → tries ≤ looks → IsLookingInVain tries looks old m i
    → HasGivenUpInstruction tries old m i
vain_look_last tries looks old m i past was =
    let same = was.looks_are in
    let few = was.few in
    let all : was.more ≡ tries - 1 = omega (arith, same, few, past) in
    record {
      begun = was.begun;
      begins = was.begins;
      looked = inl (subst (λ k. AreLooksInVain k was.begun m) all was.looked);
    }

-- or one that was told that it can't come any more
pub vain_look_told : (tries looks : ℕ) (old m n : Local) (i : Instruction) → looks < tries → IsLookingInVain tries looks old m i
    → IsToldNoneComes m n → HasGivenUpInstruction tries old n i
vain_look_told tries looks old m n i less was told =
    let same = was.looks_are in
    record {
      begun = was.begun;
      begins = was.begins;
      looked = inr (record {
        more = was.more;
        fewer = omega (arith, same, less);
        last = m;
        looks = was.looked;
        none = told;
      });
    }

-- who has given up after its first instructions has given up on its way
pub vain_look_walk : (tries : ℕ) (old m n : Local) (section : List Instruction) (k : ℕ) → k ≤ length section
    → HasRunCallsOfAll old m (take k section) → HasGivenUpInstruction tries m n (script_turn_instruction section k)
    → HasGivenUpWalk tries old n section
vain_look_walk tries old m n section k within all up = record {
  n = k;
  within = within;
  begun = up.begun;
  begins = record { between = m; done = all; begins = up.begins };
  looked = up.looked;
}

-- or at the closing barrier
pub vain_look_walk_where : {A : Type 0} (tries : ℕ) (old m n : Local) (section : List Instruction) (r : Result A Cause)
    → HasRunCallsOfAll old m section → IfErr r (λ why. why ≡ Stuck → HasGivenUpInstruction tries m n Barrier)
    → IfErr r (λ why. why ≡ Stuck → HasGivenUpWalk tries old n section)
vain_look_walk_where tries old m n section (Ok x) all up = tt
vain_look_walk_where tries old m n section (Err why) all up = λ stuck.
    let k = length section in
    let past : length section ≤ k = omega arith in
    vain_look_walk tries old m n section k past (subst (HasRunCallsOfAll old m) (sym (take-length section)) all)
    (subst (HasGivenUpInstruction tries m n) (sym (get_or_past section k Barrier past)) (up stuck))
