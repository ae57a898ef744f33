-- Lists of files that are more than may be.
use Rattle.std.proofs.Common.{◌≡◌, ◌≤◌, ℕ, ◌<◌, inl, inr, List, ◌++◌, length, subst, arith}
use Rattle.std.specs.Prelude.{Err, IfErr, IfOk, Ok, Result}
use Rattle.std.proofs.lemmas.List.{length-map}
use Rattle.rx_base.specs.SortedPaths.{HasSameMembers}
use Rattle.rx_world.specs.declared.sources.Found.{Found}
use Rattle.rx_scan.specs.declared.gather_fault.GatherFault.{GatherFault}
use Rattle.rx_scan.specs.declared.gather_fault.GatherFault.TheVariants.{Blocked, InputChanged, InputMissing, NoMemory, NotRemotable, SourceFault, TooLarge}
use Rattle.rx_scan.specs.Inputs.{AreOver, IsOver, OnlyTooMany}
use Rattle.rx_scan.specs.Lists.{paths_of}

only-more : (Over Other : Type 0) → (Over → Other) → (fault : GatherFault) → OnlyTooMany Over fault → OnlyTooMany Other fault
only-more Over Other f (TooLarge limit n path) h = (h.0, f h.1)
only-more Over Other f (InputMissing path) h = h
only-more Over Other f (SourceFault path) h = h
only-more Over Other f (InputChanged change) h = h
only-more Over Other f (NotRemotable cause) h = h
only-more Over Other f (Blocked path) h = h
only-more Over Other f NoMemory h = tt

pub counted-whole : (r : Result (List (List ℕ)) GatherFault) (files all : List (List ℕ)) (found : List Found) → all ≡ files ++ paths_of found → length found ≤ 20000 → IfOk r (λ counted. HasSameMembers all counted) → IfOk r (λ counted. (length found ≤ 20000) × HasSameMembers (files ++ paths_of found) counted)
counted-whole (Ok counted) files all found e few h = (few, subst (λ (xs : List (List ℕ)). HasSameMembers xs counted) e h)
counted-whole (Err fault) files all found e few h = tt

pub counted-many : (r : Result (List (List ℕ)) GatherFault) (files all : List (List ℕ)) (found : List Found) → all ≡ files ++ paths_of found → IfErr r (OnlyTooMany (AreOver all)) → IfErr r (OnlyTooMany (IsOver files (paths_of found)))
counted-many (Ok counted) files all found e h = tt
counted-many (Err fault) files all found e h = only-more (AreOver all) (IsOver files (paths_of found)) (λ over. inr (subst (λ (xs : List (List ℕ)). AreOver xs) e over)) fault h

pub list-over : (files : List (List ℕ)) (found : List Found) → 20000 < length found → IsOver files (paths_of found)
list-over files found h = inl (omega (arith, h, length-map found (λ (f : Found). f.path)))
