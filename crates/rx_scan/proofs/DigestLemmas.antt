-- Files that are known by their paths, a read that is noted again, and files that get their digests one by one.
use Rattle.std.proofs.Common.{◌≡◌, ℕ, ◌+◌, ◌<◌, Bool, List, [], ◌∷◌, ◌++◌, length, map, take, get_or, sym, ap, subst, ◌∙◌}
use Rattle.std.specs.Borrow.{Bor}
use Rattle.std.specs.Prelude.{All, Contains, IfSome, Ok, Err, Option, None, Some, Result}
use Rattle.std.specs.declared.cmp.Ordering.TheVariants.{Equal}
use Rattle.std.specs.Cmp.Lexicographic.{slice_cmp}
use Rattle.std.specs.List.{AllByRecursion}
use Rattle.std.specs.List.Sorted.{IsBinarySearchResult}
use Rattle.std.specs.Slice.{IsItemAt}
use Rattle.std.specs.Ordering.{nat_cmp}
use Rattle.std.specs.Result.{result_ok}
use Rattle.std.proofs.lemmas.List.{map-append, take_more}
use Rattle.std.proofs.lemmas.List.Elements.{All-append, All-cons, All-from_recursion, All-get_or, All-nil, All-weaker, Contains-get_or, recursion_from_All}
use Rattle.std.proofs.lemmas.Map.Lookups.{exact_bytes}
use Rattle.rx_base.specs.declared.digests.Digest.{Digest}
use Rattle.rx_base.specs.Digests.{digest_of}
use Rattle.rx_world.specs.declared.input_files.InputFile.{InputFile}
use Rattle.rx_world.specs.declared.looks.Look.{Look}
use Rattle.rx_world.specs.declared.looks.Look.TheVariants.{File}
use Rattle.rx_world.specs.declared.looks.Stamp.{Stamp}
use Rattle.rx_world.specs.declared.sources.Given.{Given}
use Rattle.rx_world.specs.Sources.{GivesContent}
use Rattle.rx_scan.specs.declared.seen_files.SeenFile.{SeenFile}
use Rattle.rx_scan.specs.Digests.{IsSeen, seen_file}
use Rattle.rx_reach.specs.Explored.{AreSeen, HaveDigests}
use Rattle.rx_reach.specs.Sights.{Notes, seen_at}
use Rattle.rx_reach.proofs.SightLemmas.{notes-keep}

abbrev Sights : Type 0
Sights = List (List ℕ × Look)

-- the file at the place that a search by the path answered
pub file-found : (files : List InputFile) (path : List ℕ) (searched : Result ℕ ℕ) (at : ℕ) (file : Option (Bor InputFile)) → IsBinarySearchResult (λ f. slice_cmp nat_cmp f.path path) files searched
    → Some at ≡ result_ok searched → IsItemAt files at file → IfSome file (λ f. Contains files f.now × (f.now.path ≡ path))
file-found files path (Err place) at file found e item = absurd (cc e)
file-found files path (Ok place) at None found e item = tt
file-found files path (Ok place) at (Some f) found e item =
    let same : at ≡ place = cc e in
    let is : f.now ≡ get_or files at f.now = item.1 in (
      subst (λ one. Contains files one) (sym is) (Contains-get_or files at f.now item.3.0),
      exact_bytes f.now.path path (subst (λ (one : InputFile). slice_cmp nat_cmp one.path path ≡ Equal) (ap (λ n. get_or files n f.now) (sym same) ∙ sym is) (found f.now)),
    )

-- what is seen at a path that was seen before is the same
pub seen-again : (old new : Sights) (answers : List Given) (path : List ℕ) (first look : Look) → seen_at old path ≡ Some first → Notes old new answers → seen_at new path ≡ Some look → look ≡ first
seen-again old new answers path first look e n there = let here = notes-keep old new answers path first n e in cc

-- the digest of bytes that were read, where they are the content of the path under the stamp
pub digest-read : (content : List ℕ → Stamp → List ℕ) (path bytes lent : List ℕ) (look : Look) (stamp : Stamp) (executable : Bool) (digest : Digest)
    → look ≡ File stamp executable → GivesContent content path look bytes → lent ≡ bytes → digest ≡ digest_of lent → digest ≡ digest_of (content path stamp)
digest-read content path bytes lent look stamp executable digest is holds read e =
    e ∙ ap digest_of (read ∙ subst (λ l. GivesContent content path l bytes) is holds)

-- ---- one file more gets its digest

-- what was seen is still seen
pub file-seen : (files : List SeenFile) (i : ℕ) (file : SeenFile) (old new : Sights) (answers : List Given) → i < length files → file ≡ get_or files i file → All (IsSeen old) files → Notes old new answers → IsSeen new file
file-seen files i file old new answers h e all n =
    notes-keep old new answers file.path (File file.stamp file.executable) n (subst (IsSeen old) (sym e) (All-get_or (IsSeen old) files i file h all))

pub same-more : (files : List SeenFile) (i : ℕ) (file : SeenFile) (inputs new : List InputFile) (input : InputFile) → i < length files → file ≡ get_or files i file → map seen_file inputs ≡ take i files
    → new ≡ inputs ++ input ∷ [] → seen_file input ≡ file → map seen_file new ≡ take (i + 1) files
same-more files i file inputs new input h e before after is =
    ap (map seen_file) after ∙ map-append seen_file inputs (input ∷ []) ∙ ap (λ s. s ++ seen_file input ∷ []) before
    ∙ ap (λ f. take i files ++ f ∷ []) (is ∙ e) ∙ sym (take_more files i file h)

pub honest-more : (content : List ℕ → Stamp → List ℕ) (inputs new : List InputFile) (input : InputFile) → HaveDigests content inputs → input.digest ≡ digest_of (content input.path input.stamp)
    → new ≡ inputs ++ input ∷ [] → HaveDigests content new
honest-more content inputs new input all here after =
    subst (HaveDigests content) (sym after)
    (All-append (λ file. file.digest ≡ digest_of (content file.path file.stamp)) inputs (input ∷ []) all
    (All-cons (λ file. file.digest ≡ digest_of (content file.path file.stamp)) input [] here (All-nil (λ file. file.digest ≡ digest_of (content file.path file.stamp)))))

-- files that were seen are still seen with their digests
pub inputs-seen : (old new : Sights) (answers : List Given) (inputs : List InputFile) (files : List SeenFile) → map seen_file inputs ≡ files → All (IsSeen old) files → Notes old new answers → AreSeen new inputs
inputs-seen old new answers inputs files e all n =
    let later : All (IsSeen new) files = All-weaker (IsSeen old) (IsSeen new) (λ (file : SeenFile) seen. notes-keep old new answers file.path (File file.stamp file.executable) n seen) files all in
    All-from_recursion (λ (file : InputFile). seen_at new file.path ≡ Some (File file.stamp file.executable)) inputs
    (each inputs (recursion_from_All (IsSeen new) (map seen_file inputs) (subst (All (IsSeen new)) (sym e) later)))
  where
    each : (xs : List InputFile) → AllByRecursion (IsSeen new) (map seen_file xs) → AllByRecursion (λ (file : InputFile). seen_at new file.path ≡ Some (File file.stamp file.executable)) xs
    each [] a = tt
    each (x ∷ xs) a = (a.0, each xs a.1)
