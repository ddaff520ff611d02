-- A record carries what stores did: the dirty words of one page, put into another.
use Rattle.std.proofs.Common.{ℕ, zero, suc, ◌≡◌, Bool, true, false, Some, None, List, [], ◌∷◌, ◌++◌, length, set, replicate, refl, sym, ap, ◌∙◌, append_assoc, arith}
use Rattle.std.proofs.lemmas.List.{set_at, length-set, length_push, length-replicate}
use Rattle.base.specs.AppliedRecords.{record_applied, marked_writes, harvest}
use Rattle.base.proofs.LastWritten.{length-written}
use Rattle.page.specs.PageChanges.{PageChanges}
use Rattle.page.specs.Contents.{Contents, ContentsAreClean}
use Rattle.page.specs.CarriedHarvests.{CarriedHarvestStores, CarriesStores}

-- the page with the marked words in place of its own
abbrev merged_page : List ℕ → List ℕ → List Bool → List ℕ
merged_page [] words marks = []
merged_page (p ∷ page) [] marks = p ∷ page
merged_page (p ∷ page) (w ∷ words) [] = p ∷ page
merged_page (p ∷ page) (w ∷ words) (true ∷ marks) = w ∷ merged_page page words marks
merged_page (p ∷ page) (w ∷ words) (false ∷ marks) = p ∷ merged_page page words marks

-- the record of the marked words puts them into a page, here behind what stands in front
merged_page_of_record : (n : ℕ) (front page words : List ℕ) (marks : List Bool) → length front ≡ n
    → length page ≡ length words
    → record_applied (front ++ page) (harvest n words marks) ≡ front ++ merged_page page words marks
merged_page_of_record n front [] [] marks long same = refl
merged_page_of_record n front [] (w ∷ words) marks long same = absurd (omega arith)
merged_page_of_record n front (p ∷ page) [] marks long same = absurd (omega arith)
merged_page_of_record n front (p ∷ page) (w ∷ words) [] long same = refl
merged_page_of_record n front (p ∷ page) (w ∷ words) (true ∷ marks) long same =
    ap (λ (ps : List ℕ). record_applied ps (harvest (suc n) words marks))
    (set_at front p page w n long ∙ sym (append_assoc front (w ∷ []) page))
    ∙ merged_page_of_record (suc n) (front ++ w ∷ []) page words marks (let e = length_push front w in omega arith)
    (omega arith)
    ∙ append_assoc front (w ∷ []) (merged_page page words marks)
merged_page_of_record n front (p ∷ page) (w ∷ words) (false ∷ marks) long same =
    ap (λ (ps : List ℕ). record_applied ps (harvest (suc n) words marks)) (sym (append_assoc front (p ∷ []) page))
    ∙ merged_page_of_record (suc n) (front ++ p ∷ []) page words marks (let e = length_push front p in omega arith)
    (omega arith)
    ∙ append_assoc front (p ∷ []) (merged_page page words marks)

-- to store into the words and mark is to store into the page
merged_page-set : (page words : List ℕ) (marks : List Bool) (o v : ℕ) → length page ≡ length words
    → length page ≡ length marks → merged_page page (set words o v) (set marks o true) ≡ set (merged_page page words marks) o v
merged_page-set [] words marks o v same long = refl
merged_page-set (p ∷ page) [] marks o v same long = absurd (omega arith)
merged_page-set (p ∷ page) (w ∷ words) [] o v same long = absurd (omega arith)
merged_page-set (p ∷ page) (w ∷ words) (true ∷ marks) zero v same long = refl
merged_page-set (p ∷ page) (w ∷ words) (false ∷ marks) zero v same long = refl
merged_page-set (p ∷ page) (w ∷ words) (true ∷ marks) (suc o) v same long =
    ap (λ (ps : List ℕ). w ∷ ps) (merged_page-set page words marks o v (omega arith) (omega arith))
merged_page-set (p ∷ page) (w ∷ words) (false ∷ marks) (suc o) v same long =
    ap (λ (ps : List ℕ). p ∷ ps) (merged_page-set page words marks o v (omega arith) (omega arith))

-- so for stores in turn
merged_page-stored : (page words : List ℕ) (marks : List Bool) (stores : List (ℕ × ℕ)) → length page ≡ length words
    → length page ≡ length marks
    → merged_page page (record_applied words stores) (marked_writes (λ (x : ℕ × ℕ). Some x) marks stores)
    ≡ record_applied (merged_page page words marks) stores
merged_page-stored page words marks [] same long = refl
merged_page-stored page words marks (x ∷ stores) same long =
    merged_page-stored page (set words x.0 x.1) (set marks x.0 true) stores (same ∙ sym (length-set words x.0 x.1))
    (long ∙ sym (length-set marks x.0 true))
    ∙ ap (λ (ps : List ℕ). record_applied ps stores) (merged_page-set page words marks x.0 x.1 same long)

-- with no mark the page stays
merged_page-clean : (page words : List ℕ) → length page ≡ length words
    → merged_page page words (replicate (length words) false) ≡ page
merged_page-clean [] words same = refl
merged_page-clean (p ∷ page) [] same = refl
merged_page-clean (p ∷ page) (w ∷ words) same = ap (λ (ps : List ℕ). p ∷ ps) (merged_page-clean page words (omega arith))

-- the marked words of a copy, put into another page, are what the stores that led there make of it
merged_page-after : (stores : List (ℕ × ℕ)) (words other : List ℕ) (p : Contents) → CarriedHarvestStores stores words p
    → length other ≡ length words → merged_page other p.words p.dirty ≡ record_applied other stores
merged_page-after stores words other p after same =
    ap (λ (ws : List ℕ). merged_page other ws p.dirty) after.words_are
    ∙ ap (λ (ms : List Bool). merged_page other (record_applied words stores) ms) after.dirty_are
    ∙ merged_page-stored other words (replicate (length words) false) stores same
    (same ∙ sym (length-replicate (length words) false))
    ∙ ap (λ (ps : List ℕ). record_applied ps stores) (merged_page-clean other words same)

pub merged_page_carries_record : (p : Contents) (r : PageChanges) → r.words ≡ harvest 0 p.words p.dirty → CarriesStores p (Some r)
merged_page_carries_record p r is stores words other after same =
    ap (λ (ws : List (ℕ × ℕ)). record_applied other ws) is
    ∙ merged_page_of_record 0 [] other p.words p.dirty refl (same
    ∙ sym (ap (λ (ws : List ℕ). length ws) after.words_are
    ∙ length-written (λ (x : ℕ × ℕ). Some x) words stores))
    ∙ merged_page-after stores words other p after same

pub merged_page_carries_none : (p : Contents) → ContentsAreClean p → CarriesStores p None
merged_page_carries_none p clean stores words other after same =
    sym (merged_page-clean other p.words (same
    ∙ sym (ap (λ (ws : List ℕ). length ws) after.words_are
    ∙ length-written (λ (x : ℕ × ℕ). Some x) words stores)))
    ∙ ap (λ (ms : List Bool). merged_page other p.words ms) (sym clean)
    ∙ merged_page-after stores words other p after same
