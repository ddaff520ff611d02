-- Rows of which some have a value, before the first one and as a history goes on.
use Rattle.std.proofs.Common.{ℕ, zero, suc, ◌≢◌, slice_index_or, slice_set, ◌≡◌, ◌+◌, ◌/◌, ◌%◌, ◌≤◌, inl, inr, Option, Some, List, [], ◌∷◌, ◌++◌, length, slice_get, slice_index, vec_len, sym, refl, ap, ◌∙◌, arith, length-append}
use Rattle.std.specs.Prelude.{None}
use Rattle.std.specs.Global.{Vec}
use Rattle.std.proofs.lemmas.Option.{slice_get_read}
use Rattle.base.proofs.SliceSets.{slice_get-set_other}
use Rattle.base.proofs.SlicesAndCounts.{slice_push_cases}
use Rattle.journal.specs.declared.event.Event.{Event}
use Rattle.judge.specs.declared.sparse_table.SparseTable.{SparseTable}
use Rattle.judge.specs.SparseTables.{IsSparse, IsSparseFor, sparse_at, sparse_chunk, sparse_mark, sparse_room, sparse_table_value}

-- a chunk more without a mark
pub longer_sparse_mark : (chunks : List (Vec ℕ)) (chunk : Vec ℕ) (r : ℕ) → chunk.items ≡ [] → sparse_mark chunks r ≡ 0
    → sparse_mark (chunks ++ chunk ∷ []) r ≡ 0
longer_sparse_mark chunks chunk r none bare = from (slice_get (chunks ++ chunk ∷ []) (r / 1024)) refl
  where
    from : (o : Option (Vec ℕ)) → slice_get (chunks ++ chunk ∷ []) (r / 1024) ≡ o → slice_index (sparse_chunk o) (r % 1024) ≡ 0
    from None at = refl
    from (Some found) at = elim (slice_push_cases chunks chunk (r / 1024) found at) [
      | inl old ↦ sym (ap (λ (o : Option (Vec ℕ)). slice_index (sparse_chunk o) (r % 1024)) old.1) ∙ bare
      | inr new ↦ ap (λ (x : List ℕ). slice_index x (r % 1024)) (ap (λ (x : Vec ℕ). x.items) (sym new.1) ∙ none)
    ]

-- a table that stays is for one event more
pub longer_sparse_same : {A : Type 0} {rows : ℕ} (j : List Event) (e : Event) (t : SparseTable A) → IsSparseFor rows (length j) t
    → IsSparseFor rows (length (j ++ e ∷ [])) t
longer_sparse_same j e t is = record {
  sparse = is.sparse;
  fits = is.fits;
  room = is.room;
  few = (let few = is.few in let long = length-append j (e ∷ []) in omega arith);
}

-- and one with a value more
pub longer_sparse_next : {A : Type 0} {rows : ℕ} (j : List Event) (e : Event) (old new : SparseTable A) → IsSparse new
    → sparse_room new ≡ sparse_room old → vec_len new.kept ≤ vec_len old.kept + 1 → IsSparseFor rows (length j) old
    → IsSparseFor rows (length (j ++ e ∷ [])) new
longer_sparse_next j e old new sparse same more is = record {
  sparse = sparse;
  fits = is.fits;
  room = (let room = is.room in omega arith);
  few = (let few = is.few in let long = length-append j (e ∷ []) in omega arith);
}

-- the value that a mark leads to, as it is read
pub longer_sparse_read : {A : Type 0} (t : SparseTable A) (r k : ℕ) (x : A) → IsSparse t → sparse_mark t.marks.items r ≡ suc k
    → x ≡ slice_index_or t.kept.items k x → sparse_at t r ≡ Some x
longer_sparse_read t r k x sparse is read = ap (sparse_table_value t.kept.items) is
    ∙ slice_get_read t.kept.items (length t.kept.items) k x refl (let le = sparse.within r in omega (arith, t.kept.ok.0)) read

-- after it was written there, other rows have what they had
pub longer_sparse_others : {A : Type 0} (t : SparseTable A) (r q k : ℕ) (x : A) → IsSparse t → sparse_mark t.marks.items r ≡ suc k → q ≢ r
    → sparse_table_value (slice_set t.kept.items k x) (sparse_mark t.marks.items q) ≡ sparse_at t q
longer_sparse_others t r q k x sparse is other = go (sparse_mark t.marks.items q) refl
  where
    go : (m : ℕ) → sparse_mark t.marks.items q ≡ m → sparse_table_value (slice_set t.kept.items k x) m ≡ sparse_table_value t.kept.items m
    go zero at = refl
    go (suc i) at = slice_get-set_other t.kept.items k i x
        (λ same. other (sym (sparse.apart r q (λ none. absurd (cc (none, is))) (is ∙ (ap suc (sym same) ∙ sym at)))))
