-- What the loads of a history answered, and what of it is told.
use Rattle.std.specs.Prelude.{ℕ, ◌==◌, ◌-◌, zero, suc, Bool, true, false, cond, List, [], ◌∷◌, ◌++◌, length, take, drop, slice_index_or}
use Rattle.std.specs.List.{flat_map}
use Rattle.journal.specs.declared.event.Event.{Event}
use Rattle.journal.specs.declared.event.Kind.{Kind}
use Rattle.journal.specs.declared.event.Kind.TheVariants as kind
use Rattle.lrc_script.specs.Plan.{Plan}
use Rattle.lrc_script.specs.declared.script.Instruction.{Instruction}
use Rattle.lrc_script.specs.declared.script.Instruction.TheVariants as instruction
use Rattle.lrc_sample.specs.declared.detail.SampleDetail.{SampleDetail}
use Rattle.lrc_sample.specs.declared.detail.SampleDetail.TheVariants as detail
use Rattle.lrc_sample.specs.declared.outcome.Reply.{Reply}

-- what an event of p answered, if it is a load
abbrev pub sample_replies_in_kind : ℕ → Kind → List Reply
sample_replies_in_kind p (kind.Load address word) = record { processor = p; word = word } ∷ []
sample_replies_in_kind p _ = []

-- the same of an event of anyone
abbrev pub sample_replies_in_event : ℕ → Event → List Reply
sample_replies_in_event p e = cond (e.processor == p) (sample_replies_in_kind p e.kind) []

-- what the loads of p answered, in order
abbrev pub sample_replies_by : ℕ → List Event → List Reply
sample_replies_by p h = flat_map (sample_replies_in_event p) h

-- the same without those that show the last words, which processor 0 makes at the end
abbrev pub sample_replies_but_shown : ℕ → ℕ → List Event → List Reply
sample_replies_but_shown shown p h = cond (p == 0) (take (length (sample_replies_by p h) - shown) (sample_replies_by p h)) (sample_replies_by p h)

-- whether the reply of an instruction is told, if it loads: that of `load`, and that of `add` in full detail alone
abbrev pub sample_mark_of : SampleDetail → Instruction → List Bool
sample_mark_of detail.Words _ = []
sample_mark_of detail.Loads (instruction.Load a) = true ∷ []
sample_mark_of detail.Loads (instruction.Add a v) = false ∷ []
sample_mark_of detail.All (instruction.Load a) = true ∷ []
sample_mark_of detail.All (instruction.Add a v) = true ∷ []
sample_mark_of _ _ = []

-- the same of each load of a section, in order
abbrev pub sample_marks_of : SampleDetail → List Instruction → List Bool
sample_marks_of d section = flat_map (sample_mark_of d) section

-- of these replies those whose marks, in the same order, say so
abbrev pub sample_replies_marked : List Bool → List Reply → List Reply
sample_replies_marked [] rs = []
sample_replies_marked (mark ∷ marks) [] = []
sample_replies_marked (mark ∷ marks) (r ∷ rs) = cond mark (r ∷ []) [] ++ sample_replies_marked marks rs

-- the last reply is that of the last load, also if the first ones were cut off
abbrev pub sample_replies_told : List Bool → List Reply → List Reply
sample_replies_told marks rs = sample_replies_marked (drop (length marks - length rs) marks) rs

-- the section of processor p
abbrev pub sample_section : Plan → ℕ → List Instruction
sample_section s p = slice_index_or s.sections p []

-- what is told of the loads of the first p processors, by rising number
abbrev pub sample_replies_of : SampleDetail → Plan → ℕ → ℕ → List Event → List Reply
sample_replies_of d s shown zero h = []
sample_replies_of d s shown (suc p) h =
    sample_replies_of d s shown p h ++ sample_replies_told (sample_marks_of d (sample_section s p)) (sample_replies_but_shown shown p h)
