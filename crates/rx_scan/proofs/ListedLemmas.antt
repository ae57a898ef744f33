-- What was gathered of a source tree that tells its paths and keeps them is as it lists it.
use Rattle.std.proofs.Common.{◌≡◌, ◌≢◌, ℕ, Bool, true, false, cond, List, [], ◌∷◌, get_or, bytes_eq, refl, sym, ap, subst, ◌∙◌}
use Rattle.std.specs.Prelude.{All, Contains, IfSome, None, Option, Some}
use Rattle.std.specs.List.{AllByRecursion}
use Rattle.std.proofs.lemmas.List.Elements.{All-contains, recursion_from_All}
use Rattle.std.proofs.lemmas.Slice.Eq.{bytes_eq-Decides}
use Rattle.rx_base.specs.Digests.{digest_of}
use Rattle.rx_world.specs.declared.input_files.InputFile.{InputFile}
use Rattle.rx_world.specs.declared.looks.Look.{Look}
use Rattle.rx_world.specs.declared.looks.Look.TheVariants.{File}
use Rattle.rx_world.specs.declared.looks.Stamp.{Stamp}
use Rattle.rx_world.specs.declared.sources.Given.{Given}
use Rattle.rx_world.specs.declared.sources.SourceEntry.{SourceEntry}
use Rattle.rx_world.specs.declared.sources.Sources as sources
use Rattle.rx_world.specs.declared.world.World as world
use Rattle.rx_world.specs.Answers.{Gives, IsAnswerOf}
use Rattle.rx_world.specs.Sources.{GivesContent, HoldContent, entry_at}
use Rattle.rx_base.proofs.Members.{Among-from_contains}
use Rattle.rx_reach.specs.Explored.{AreSeen, HaveDigests}
use Rattle.rx_reach.specs.Sights.{Notes, first_at, seen_at}
use Rattle.rx_reach.proofs.SightLemmas.{first-contains}
use Rattle.rx_scan.specs.Digests.{IsAsListed}

abbrev Sights : Type 0
Sights = List (List ℕ × Look)

-- what a list has at a path holds what the world has there
holds-at : (content : List ℕ → Stamp → List ℕ) (path : List ℕ) (entries : List SourceEntry) → AllByRecursion (λ (e : SourceEntry). GivesContent content e.path e.look e.bytes) entries
    → GivesContent content path (entry_at path entries).look (entry_at path entries).bytes
holds-at content path [] h = tt
holds-at content path (e ∷ es) h = by (bytes_eq e.path path) refl (holds-at content path es h.1)
  where
    by : (b : Bool) → bytes_eq e.path path ≡ b → GivesContent content path (entry_at path es).look (entry_at path es).bytes → GivesContent content path (cond b e (entry_at path es)).look (cond b e (entry_at path es)).bytes
    by true q rest = subst (λ p. GivesContent content p e.look e.bytes) ((bytes_eq-Decides e.path path).0 q) h.0
    by false q rest = rest

-- a file that was seen is as a list has it that each answer is of
one-listed : (content : List ℕ → Stamp → List ℕ) (entries : List SourceEntry) (view : Sights) (answers : List Given) (file : InputFile) → All (IsAnswerOf entries) answers → (answers ≢ [] → HoldContent content entries) → Notes [] view answers
    → seen_at view file.path ≡ Some (File file.stamp file.executable) → file.digest ≡ digest_of (content file.path file.stamp) → IsAsListed entries file
one-listed content entries view answers file given holds n seen d =
    let look : Look = File file.stamp file.executable in
    let first : first_at file.path answers ≡ Some look = sym (n.first file.path) ∙ seen in
    let found = first-contains file.path answers look first in
    let right : IsAnswerOf entries found.0 = All-contains (IsAnswerOf entries) answers found.0 given found.1 in
    let is : (entry_at file.path entries).look ≡ look = ap (λ p. (entry_at p entries).look) (sym found.2) ∙ sym right.look_is ∙ found.3 in
    let some : answers ≢ [] = λ none. Among-from_contains found.0 [] (subst (λ xs. Contains xs found.0) none found.1) in
    let has = holds-at content file.path entries (recursion_from_All (λ (e : SourceEntry). GivesContent content e.path e.look e.bytes) entries (holds some)) in
    record { look_is = is; digest_is = ap digest_of (subst (λ l. GivesContent content file.path l (entry_at file.path entries).bytes) is has) ∙ sym d }

each-listed : (content : List ℕ → Stamp → List ℕ) (listed : Option (List SourceEntry)) (view : Sights) (answers : List Given) (files : List InputFile) → IfSome listed (λ entries. All (IsAnswerOf entries) answers)
    → (answers ≢ [] → IfSome listed (HoldContent content)) → Notes [] view answers → AreSeen view files → HaveDigests content files → IfSome listed (λ entries. All (IsAsListed entries) files)
each-listed content None view answers files given holds n seen digests = tt
each-listed content (Some entries) view answers files given holds n seen digests =
    λ k d lt. one-listed content entries view answers (get_or files k d) given holds n (seen k d lt) (digests k d lt)

pub as-listed : {T W : Type 0} (w : world.Ghosts W) (s : sources.Ghosts T W) (a b : T) (view : Sights) (answers : List Given) (files : List InputFile) → Gives w s a b answers → Notes [] view answers → AreSeen view files
    → (w.stamps_honest → HaveDigests w.content files) → w.stamps_honest → s.keeps a → IfSome (s.listed a) (λ entries. All (IsAsListed entries) files)
as-listed w s a b view answers files g n seen digests honest keeps = each-listed w.content (s.listed a) view answers files (g.by_list keeps) (g.holds honest keeps) n seen (digests honest)
