-- Where no includes are followed, nothing is reached.
use Rattle.std.proofs.Common.{◌≡◌, ℕ, List, [], sym, ap, subst}
use Rattle.std.specs.Prelude.{IfSome, None, Option, Some}
use Rattle.std.specs.List.Sorted.{IsStrictlySortedBy}
use Rattle.std.proofs.lemmas.List.Elements.{All-nil}
use Rattle.rx_base.specs.Digests.{digest_of}
use Rattle.rx_base.specs.SortedPaths.{AreSorted}
use Rattle.rx_world.specs.declared.input_files.InputFile.{InputFile}
use Rattle.rx_world.specs.declared.looks.Look.{Look}
use Rattle.rx_world.specs.declared.looks.Look.TheVariants.{File}
use Rattle.rx_world.specs.declared.looks.Stamp.{Stamp}
use Rattle.rx_world.specs.declared.sources.Sources as sources
use Rattle.rx_world.specs.declared.world.World as world
use Rattle.rx_reach.specs.declared.reach.Reached.{Reached}
use Rattle.rx_reach.specs.declared.searches.Search.{Search}
use Rattle.rx_reach.specs.Explored.{AreSeen, HaveDigests}
use Rattle.rx_reach.specs.FileTables.{paths_of}
use Rattle.rx_scan.specs.Scanned.{IsReachOf}
use Rattle.rx_reach.specs.Scans.{Scans}
use Rattle.rx_reach.specs.Sights.{IsKnownAt, seen_at}
use Rattle.rx_reach.proofs.ScanLemmas.{scans-none}

abbrev Sights : Type 0
Sights = List (List ℕ × Look)

abbrev pub nothing : Reached
nothing = record { files = []; hard = None; left = [] }

sorted-nothing : AreSorted []
unfolding IsStrictlySortedBy
sorted-nothing = tt

pub none-sorted : (reached : Reached) → reached ≡ nothing → AreSorted (paths_of reached.files)
none-sorted reached e = subst (λ (x : Reached). AreSorted (paths_of x.files)) (sym e) sorted-nothing

pub none-digests : (content : List ℕ → Stamp → List ℕ) (reached : Reached) → reached ≡ nothing → HaveDigests content reached.files
none-digests content reached e = subst (λ (x : Reached). HaveDigests content x.files) (sym e) (All-nil (λ (file : InputFile). file.digest ≡ digest_of (content file.path file.stamp)))

pub none-seen : (sights : Sights) (reached : Reached) → reached ≡ nothing → AreSeen sights reached.files
none-seen sights reached e = subst (λ (x : Reached). AreSeen sights x.files) (sym e) (All-nil (λ (file : InputFile). seen_at sights file.path ≡ Some (File file.stamp file.executable)))

pub none-known : (sights : Sights) (reached : Reached) → reached ≡ nothing → IfSome reached.hard (IsKnownAt sights)
none-known sights reached e = subst (λ (x : Reached). IfSome x.hard (IsKnownAt sights)) (sym e) tt

pub none-reached : {T W : Type 0} (w : world.Ghosts W) (s : sources.Ghosts T W) (a : T) (old : Sights) (o : Option Search) (reached : Reached) → o ≡ None → reached ≡ nothing
    → Scans w s a a old old (λ scene. IsReachOf scene o reached)
none-reached w s a old o reached e h =
    scans-none w s a old (λ scene. IsReachOf scene o reached)
    (λ scene r. subst (λ p. IsReachOf scene p reached) (sym e) (ap (λ (x : Reached). x.files) h, ap (λ (x : Reached). x.hard) h, ap (λ (x : Reached). x.left) h))
