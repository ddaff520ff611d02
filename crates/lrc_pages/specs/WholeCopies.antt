-- Which copies are known to lack nothing.
use Rattle.std.specs.Prelude.{ℕ, suc, ◌≡◌, ◌≢◌, ◌≤◌, List, length, slice_get, slice_index, vec_len}
use Rattle.std.specs.Global.{Vec}
use Rattle.journal.specs.declared.event.Event.{Event}
use Rattle.journal.specs.BroughtCopy.{BroughtCopyHasNoGap}
use Rattle.journal.specs.Sizes.{Sizes}
use Rattle.judge.specs.SparseTables.{sparse_chunk}
use Rattle.lrc_pages.specs.declared.whole_copies.WholeCopies.{WholeCopies}

-- how often p has taken
abbrev pub takes_of : WholeCopies → ℕ → ℕ
takes_of c p = slice_index c.takes.items p

-- the number of page n in processor p's row; 0 past its end
abbrev pub whole_copy_at : List (Vec ℕ) → ℕ → ℕ → ℕ
whole_copy_at rows p n = slice_index (sparse_chunk (slice_get rows p)) n

-- how often it had when its copy of page n was last found whole; 0 if it never was
abbrev pub whole_at : WholeCopies → ℕ → ℕ → ℕ
whole_at c p n = whole_copy_at c.whole.items p n

-- there is room for each of so many processors
pub record HasWholeCopiesOf (processors : ℕ) (c : WholeCopies) : Type 0 where
  pub takes : vec_len c.takes ≡ processors
  pub whole : vec_len c.whole ≡ processors

-- no copy that is taken to be whole lacks anything
pub record AreWholeCopies (s : Sizes) (h : List Event) (c : WholeCopies) : Type 0 where
  pub room : HasWholeCopiesOf s.processors c
  pub few : (p : ℕ) → takes_of c p ≤ length h
  pub before : (p n : ℕ) → whole_at c p n ≤ takes_of c p
  pub whole : (p n : ℕ) → whole_at c p n ≡ takes_of c p → BroughtCopyHasNoGap s h p n

-- p's copy of page n is taken to be whole from now on
pub record IsFoundWhole (old new : WholeCopies) (p n : ℕ) : Type 0 where
  pub takes : new.takes ≡ old.takes
  pub room : vec_len new.whole ≡ vec_len old.whole
  pub now : whole_at new p n ≡ takes_of old p
  pub others : (q m : ℕ) → q ≢ p → whole_at new q m ≡ whole_at old q m
  pub pages : (m : ℕ) → m ≢ n → whole_at new p m ≡ whole_at old p m

-- p has taken once more
pub record HasTaken (old new : WholeCopies) (p : ℕ) : Type 0 where
  pub whole : new.whole ≡ old.whole
  pub room : vec_len new.takes ≡ vec_len old.takes
  pub now : takes_of new p ≡ suc (takes_of old p)
  pub others : (q : ℕ) → q ≢ p → takes_of new q ≡ takes_of old q
