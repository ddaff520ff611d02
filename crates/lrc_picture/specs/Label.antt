-- The words beside an event's mark.
use Rattle.std.specs.Prelude.{ℕ, List, ◌++◌, codes}
use Rattle.std.specs.Fmt.{decimal}
use Rattle.journal.specs.declared.event.Kind.{Kind}
use Rattle.journal.specs.declared.event.Kind.TheVariants.{Load, Store, Fetch, Ask, Acquire, Release, Arrive, Depart, Set, Watch, Await}

-- as they stand in the file, where "<" is written "&lt;"
abbrev pub picture_label_text : Kind → List ℕ
picture_label_text (Load a v) = codes "load " ++ (decimal a ++ (codes " -> " ++ decimal v))
picture_label_text (Store a v) = codes "store " ++ (decimal a ++ (codes " &lt;- " ++ decimal v))
picture_label_text (Fetch writers page records words) =
    codes "fetch " ++ (decimal page ++ (codes " (" ++ (decimal writers ++ (codes ", " ++ (decimal records ++ (codes ", "
    ++ (decimal words ++ codes ")")))))))
picture_label_text (Ask l) = codes "ask" ++ (codes " " ++ decimal l)
picture_label_text (Acquire l) = codes "acquire" ++ (codes " " ++ decimal l)
picture_label_text (Release l) = codes "release" ++ (codes " " ++ decimal l)
picture_label_text Arrive = codes "arrive"
picture_label_text Depart = codes "depart"
picture_label_text (Set f) = codes "set" ++ (codes " " ++ decimal f)
picture_label_text (Watch f) = codes "watch" ++ (codes " " ++ decimal f)
picture_label_text (Await f) = codes "await" ++ (codes " " ++ decimal f)
