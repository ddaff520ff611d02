-- Rows of accesses, one of which is changed.
use Rattle.std.proofs.Common.{ℕ, zero, suc, ◌≡◌, ◌≢◌, ◌<◌, ◌⊎◌, inl, inr, Bool, false, List, [], ◌∷◌, get_or, length, slice_set, refl, sym, ap, subst, ◌∙◌, arith}
use Rattle.std.proofs.lemmas.Bool.{cases_eq}
use Rattle.std.proofs.lemmas.Option.{slice_get_read}
use Rattle.std.specs.Prelude.{slice_index_or}
use Rattle.std.specs.Global.{Vec}
use Rattle.base.specs.InOrderOnce.{Has}
use Rattle.explore.specs.declared.text.text_accesses.TextAccess.{TextAccess}
use Rattle.explore.specs.declared.prefixes.script_call.ScriptCall.{ScriptCall}
use Rattle.explore.specs.declared.text.unguarded_words.UnguardedWord.{UnguardedWord}
use Rattle.explore.specs.TextGuards.{IsGuardedByText}
use Rattle.explore.specs.UnguardedWords.{AreKeptTextAccesses, AreTextAccessesApart, AreTextAccessesOfRows, AreTextAccessesOpen, IsUnguardedWord, text_accesses_in, text_accesses_kept}
use Rattle.explore.proofs.UnguardedWords.{unguarded_words_guarded}

kept_here : (kept : List (Vec TextAccess)) (k : ℕ) (row : Vec TextAccess) → k < length kept → text_accesses_kept (slice_set kept k row) k ≡ row.items
kept_here [] k row lt = absurd (omega (arith, lt))
kept_here (x ∷ xs) zero row lt = refl
kept_here (x ∷ xs) (suc k) row lt = kept_here xs k row (omega (arith, lt))

kept_there : (kept : List (Vec TextAccess)) (k w : ℕ) (row : Vec TextAccess) → w ≢ k
    → text_accesses_kept (slice_set kept k row) w ≡ text_accesses_kept kept w
kept_there [] k w row isnt = refl
kept_there (x ∷ xs) zero zero row isnt = absurd (isnt refl)
kept_there (x ∷ xs) zero (suc w) row isnt = refl
kept_there (x ∷ xs) (suc k) zero row isnt = refl
kept_there (x ∷ xs) (suc k) (suc w) row isnt = kept_there xs k w row (λ is. isnt (ap suc is))

-- row w is the one that is changed
pub record IsRowChanged (kept : List (Vec TextAccess)) (k w : ℕ) (old new : Vec TextAccess) : Type 0 where
  pub is : w ≡ k
  pub was : text_accesses_kept kept w ≡ old.items
  pub now : text_accesses_kept (slice_set kept k new) w ≡ new.items

-- it is another one
pub record IsRowSame (kept : List (Vec TextAccess)) (k w : ℕ) (new : Vec TextAccess) : Type 0 where
  pub isnt : w ≢ k
  pub same : text_accesses_kept (slice_set kept k new) w ≡ text_accesses_kept kept w

pub row_changed_or_same : (kept : List (Vec TextAccess)) (k w : ℕ) (old new : Vec TextAccess) → k < length kept → text_accesses_kept kept k ≡ old.items
    → IsRowChanged kept k w old new ⊎ IsRowSame kept k w new
row_changed_or_same kept k w old new lt read = elim (cases_eq w k) [
  | inl is ↦ inl (record {
    is = is;
    was = ap (text_accesses_kept kept) is ∙ read;
    now = ap (text_accesses_kept (slice_set kept k new)) is ∙ kept_here kept k new lt;
  })
  | inr isnt ↦ inr (record { isnt = isnt; same = kept_there kept k w new isnt })
]

-- the row of this word, as it is read
pub kept_read : (kept : List (Vec TextAccess)) (k : ℕ) (row : Vec TextAccess) (items : List TextAccess) → k < length kept
    → row ≡ get_or kept k row → items ≡ row.items → text_accesses_kept kept k ≡ items
kept_read kept k row items lt read is = ap text_accesses_in (slice_get_read kept (length kept) k row refl lt read) ∙ sym is

-- a word is guarded if no two of the accesses that are kept of it are open
pub kept_guarded : (steps : List (Vec ScriptCall)) (guarded : List Bool) (kept : List (Vec TextAccess)) (w : ℕ) (row : List TextAccess)
    → AreKeptTextAccesses steps guarded kept → w < length guarded → slice_index_or guarded w false ≡ false → text_accesses_kept kept w ≡ row
    → ((x y : TextAccess) → Has row x → Has row y → AreTextAccessesApart x y) → IsGuardedByText steps w
kept_guarded steps guarded kept w row are lt unknown is apart =
    unguarded_words_guarded steps w row (subst (λ xs. AreTextAccessesOfRows steps w xs (length steps)) is (are.noted w lt unknown)) apart

-- two of them that are open leave it unguarded
pub kept_unguarded : (steps : List (Vec ScriptCall)) (guarded : List Bool) (kept : List (Vec TextAccess)) (x : UnguardedWord) (row : List TextAccess)
    → AreKeptTextAccesses steps guarded kept → x.word < length guarded → slice_index_or guarded x.word false ≡ false
    → text_accesses_kept kept x.word ≡ row → Has row x.first → Has row x.second → AreTextAccessesOpen x.first x.second → IsUnguardedWord steps guarded x
kept_unguarded steps guarded kept x row are lt unknown is first second unapart = record {
  within = lt;
  unsaid = unknown;
  first = are.are x.word x.first (subst (λ xs. Has xs x.first) (sym is) first);
  second = are.are x.word x.second (subst (λ xs. Has xs x.second) (sym is) second);
  unapart = unapart;
}
